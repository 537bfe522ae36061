-- Lists of dots by number, line by line, and their scan lines and bytes.
use Rattle.std.proofs.Common.{◌≡◌, ℕ, zero, suc, ◌+◌, ◌-◌, ◌*◌, ◌%◌, ◌<◌, ◌≤◌, refl, sym, ap, ◌∙◌, arith, Bool, true, false, List, [], ◌∷◌, ◌++◌, append_assoc}
use Rattle.std.proofs.Common.{replicate}
use Rattle.std.specs.Prelude.{nat_lt, if◌then◌else◌, ◌&&◌}
use Rattle.std.proofs.lemmas.List.{append-nil, map-append, replicate-append-replicate}
use Rattle.std.proofs.lemmas.Nat.{div-mul-add, mod-mul-add}
use Rattle.vga_card.specs.Picture.{Dot, line_of_dot, lines_of_dots, line_of_each_dot_by_widths, bytes_of_dots}
use Rattle.vga_card.specs.Frames.{concatenated_dots}
use Rattle.bios_screen.specs.Raster.{Raster, Colours, shown_dots_of_line, all_dots_of_line, picture_dot, concatenated_lists}
use Rattle.bios_screen.proofs.Base.Tests.{lt_test, not_lt}

pub same_collected : (f g : ℕ → List Dot) (n : ℕ) → ((i : ℕ) → i < n → f i ≡ g i) → concatenated_dots f n ≡ concatenated_dots g n
same_collected f g zero h = refl
same_collected f g (suc n) h = ap (λ l. l ++ f n) (same_collected f g n (λ i l. h i (omega arith))) ∙ ap (λ l. concatenated_dots g n ++ l) (h n (omega arith))

-- if each number below n gives no dots, they give none together
pub none_collected : (f : ℕ → List Dot) (n : ℕ) → ((i : ℕ) → i < n → f i ≡ []) → concatenated_dots f n ≡ []
none_collected f zero h = refl
none_collected f (suc n) h = ap (λ l. l ++ f n) (none_collected f n (λ i l. h i (omega arith))) ∙ h n (omega arith)

-- the first a + b numbers are the first a and then the next b
pub collected_split : (f : ℕ → List Dot) (a b : ℕ) → concatenated_dots f (a + b) ≡ concatenated_dots f a ++ concatenated_dots (λ i. f (a + i)) b
collected_split f a zero = let e : a + 0 ≡ a = omega arith in ap (concatenated_dots f) e ∙ sym (append-nil (concatenated_dots f a))
collected_split f a (suc b) =
    let e : a + suc b ≡ suc (a + b) = omega arith in
    ap (concatenated_dots f) e ∙ ap (λ l. l ++ f (a + b)) (collected_split f a b) ∙ append_assoc (concatenated_dots f a) (concatenated_dots (λ i. f (a + i)) b) (f (a + b))

-- whole lines of dots, one line after another
pub collected_lines : (f : ℕ → List Dot) (line n : ℕ) → concatenated_dots f (n * line) ≡ concatenated_dots (λ y. concatenated_dots (λ x. f (y * line + x)) line) n
collected_lines f line zero = let e : 0 * line ≡ 0 = omega arith in ap (concatenated_dots f) e
collected_lines f line (suc n) =
    let e : suc n * line ≡ n * line + line = omega arith in
    ap (concatenated_dots f) e ∙ collected_split f (n * line) line ∙ ap (λ l. l ++ concatenated_dots (λ x. f (n * line + x)) line) (collected_lines f line n)

-- the first a of n numbers, if the others give no dots
pub collected_prefix : (f : ℕ → List Dot) (a n : ℕ) → a ≤ n → ((i : ℕ) → a ≤ i → i < n → f i ≡ []) → concatenated_dots f n ≡ concatenated_dots f a
collected_prefix f a n le h =
    let e : n ≡ a + (n - a) = omega arith in
    ap (concatenated_dots f) e ∙ collected_split f a (n - a) ∙ ap (λ l. concatenated_dots f a ++ l) (none_collected (λ i. f (a + i)) (n - a) (λ i l.
    h (a + i) (omega arith) (omega arith))) ∙ append-nil (concatenated_dots f a)

-- ---- a picture

abbrev pub one_dot : Colours → ℕ → ℕ → List Dot
one_dot f y x = record { line = y; colour = f x y } ∷ []

abbrev pub row_dots : Colours → ℕ → ℕ → List Dot
row_dots f w y = concatenated_dots (one_dot f y) w

off_right : (a : Bool) → (a && false) ≡ false
off_right true = refl
off_right false = refl

-- the dot at column x of line y
pub dot_there : (m : Raster) (f : Colours) (y x : ℕ) → x < all_dots_of_line m → picture_dot m f (y * all_dots_of_line m + x)
    ≡ (if nat_lt x (shown_dots_of_line m) && nat_lt y m.height then one_dot f y x else [])
dot_there m f y x small =
    let line = all_dots_of_line m in
    let n = y * line + x in
    ap (λ r. if nat_lt (n % line) (shown_dots_of_line m) && nat_lt r m.height then one_dot f r (n % line) else []) (div-mul-add y line x small)
    ∙ ap (λ q. if nat_lt q (shown_dots_of_line m) && nat_lt y m.height then one_dot f y q else []) (mod-mul-add y line x small)

pub row_there : (m : Raster) (f : Colours) (y : ℕ) → shown_dots_of_line m ≤ all_dots_of_line m → y < m.height →
    concatenated_dots (λ x. picture_dot m f (y * all_dots_of_line m + x)) (all_dots_of_line m) ≡ row_dots f (shown_dots_of_line m) y
row_there m f y narrow within =
    let line = all_dots_of_line m in
    let g : ℕ → List Dot = λ x. picture_dot m f (y * line + x) in
    collected_prefix g (shown_dots_of_line m) line narrow (λ x past small. dot_there m f y x small
    ∙ ap (λ v. if v && nat_lt y m.height then one_dot f y x else []) (not_lt x (shown_dots_of_line m) past))
    ∙ same_collected g (one_dot f y) (shown_dots_of_line m) (λ x inside. dot_there m f y x (omega arith)
    ∙ ap (λ v. if v && nat_lt y m.height then one_dot f y x else []) (lt_test x (shown_dots_of_line m) inside)
    ∙ ap (λ v. if v then one_dot f y x else []) (lt_test y m.height within))

pub no_row_there : (m : Raster) (f : Colours) (y : ℕ) → m.height ≤ y → concatenated_dots (λ x. picture_dot m f (y * all_dots_of_line m + x)) (all_dots_of_line m) ≡ []
no_row_there m f y below =
    let line = all_dots_of_line m in
    none_collected (λ x. picture_dot m f (y * line + x)) line (λ x small. dot_there m f y x small
    ∙ ap (λ v. if nat_lt x (shown_dots_of_line m) && v then one_dot f y x else []) (not_lt y m.height below)
    ∙ ap (λ v. if v then one_dot f y x else []) (off_right (nat_lt x (shown_dots_of_line m))))

-- the dots of all lines are the rows of the picture
pub whole_picture : (m : Raster) (f : Colours) → shown_dots_of_line m ≤ all_dots_of_line m → m.height ≤ m.lines →
    concatenated_dots (picture_dot m f) (m.lines * all_dots_of_line m) ≡ concatenated_dots (row_dots f (shown_dots_of_line m)) m.height
whole_picture m f narrow low =
    let line = all_dots_of_line m in
    let rows : ℕ → List Dot = λ y. concatenated_dots (λ x. picture_dot m f (y * line + x)) line in
    collected_lines (picture_dot m f) line m.lines
    ∙ collected_prefix rows m.height m.lines low (λ y below in_frame. no_row_there m f y below)
    ∙ same_collected rows (row_dots f (shown_dots_of_line m)) m.height (λ y within. row_there m f y narrow within)

-- ---- its scan lines

row_lines : (f : Colours) (w y : ℕ) → lines_of_dots (row_dots f w y) ≡ replicate w y
row_lines f zero y = refl
row_lines f (suc w) y =
    let e : w + 1 ≡ suc w = omega arith in
    map-append line_of_dot (row_dots f w y) (one_dot f y w) ∙ ap (λ l. l ++ y ∷ []) (row_lines f w y)
    ∙ replicate-append-replicate w 1 y ∙ ap (λ n. replicate n y) e

lines_more : (v w h : ℕ) → line_of_each_dot_by_widths v (replicate (suc h) w) ≡ line_of_each_dot_by_widths v (replicate h w) ++ replicate w (v + h)
unfolding line_of_each_dot_by_widths
lines_more v w zero = let e : v ≡ v + 0 = omega arith in append-nil (replicate w v) ∙ ap (replicate w) e
lines_more v w (suc h) =
    let e : v + 1 + h ≡ v + suc h = omega arith in
    ap (λ l. replicate w v ++ l) (lines_more (v + 1) w h ∙ ap (λ n. line_of_each_dot_by_widths (v + 1) (replicate h w) ++ replicate w n) e)
    ∙ sym (append_assoc (replicate w v) (line_of_each_dot_by_widths (v + 1) (replicate h w)) (replicate w (v + suc h)))

no_lines : (v w : ℕ) → line_of_each_dot_by_widths v (replicate 0 w) ≡ []
unfolding line_of_each_dot_by_widths
no_lines v w = refl

pub picture_lines : (f : Colours) (w h : ℕ) → lines_of_dots (concatenated_dots (row_dots f w) h) ≡ line_of_each_dot_by_widths 0 (replicate h w)
picture_lines f w zero = sym (no_lines 0 w)
picture_lines f w (suc h) =
    let e : h ≡ 0 + h = omega arith in
    map-append line_of_dot (concatenated_dots (row_dots f w) h) (row_dots f w h)
    ∙ ap (λ l. l ++ lines_of_dots (row_dots f w h)) (picture_lines f w h)
    ∙ ap (λ l. line_of_each_dot_by_widths 0 (replicate h w) ++ l) (row_lines f w h ∙ ap (replicate w) e)
    ∙ sym (lines_more 0 w h)

-- ---- its bytes

pub bytes_append : (a b : List Dot) → bytes_of_dots (a ++ b) ≡ bytes_of_dots a ++ bytes_of_dots b
unfolding bytes_of_dots
bytes_append [] b = refl
bytes_append (d ∷ a) b = ap (λ l. d.colour ++ l) (bytes_append a b) ∙ sym (append_assoc d.colour (bytes_of_dots a) (bytes_of_dots b))

pub no_bytes : bytes_of_dots [] ≡ []
unfolding bytes_of_dots
no_bytes = refl

one_byte : (d : Dot) → bytes_of_dots (d ∷ []) ≡ d.colour
unfolding bytes_of_dots
one_byte d = append-nil d.colour

pub bytes_joined : (f : ℕ → List Dot) (n : ℕ) → bytes_of_dots (concatenated_dots f n) ≡ concatenated_lists (λ i. bytes_of_dots (f i)) n
unfolding concatenated_lists
bytes_joined f zero = no_bytes
bytes_joined f (suc n) = bytes_append (concatenated_dots f n) (f n) ∙ ap (λ l. l ++ bytes_of_dots (f n)) (bytes_joined f n)

pub same_joined : (f g : ℕ → List ℕ) (n : ℕ) → ((i : ℕ) → f i ≡ g i) → concatenated_lists f n ≡ concatenated_lists g n
unfolding concatenated_lists
same_joined f g zero h = refl
same_joined f g (suc n) h = ap (λ l. l ++ f n) (same_joined f g n h) ∙ ap (λ l. concatenated_lists g n ++ l) (h n)

pub picture_bytes_are : (f : Colours) (w h : ℕ) → bytes_of_dots (concatenated_dots (row_dots f w) h) ≡ concatenated_lists (λ y. concatenated_lists (λ x. f x y) w) h
picture_bytes_are f w h =
    bytes_joined (row_dots f w) h
    ∙ same_joined (λ y. bytes_of_dots (row_dots f w y)) (λ y. concatenated_lists (λ x. f x y) w) h (λ y.
    bytes_joined (one_dot f y) w ∙ same_joined (λ x. bytes_of_dots (one_dot f y x)) (λ x. f x y) w (λ x. one_byte (record { line = y; colour = f x y })))
