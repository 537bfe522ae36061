-- What a reading has found so far, and lists given by their elements.
use Rattle.std.proofs.Common.{◌≡◌, ℕ, zero, suc, ◌+◌, ◌*◌, ◌/◌, ◌%◌, ◌<◌, ◌≤◌, ⊎_elim, refl, sym, ap, subst, ◌∙◌, arith, List, [], ◌∷◌, ◌++◌, length}
use Rattle.std.proofs.Common.{append_assoc, get_or, Bool, true, false, Some, None, IsTrue}
use Rattle.std.specs.Prelude.{slice_index, slice_set, bit_and, nat_lt, ◌&&◌, if◌then◌else◌}
use Rattle.std.proofs.lemmas.Bool.{cases_lt}
use Rattle.std.proofs.lemmas.List.{get_or_append_left, get_or-append-add, get_or_default, append-nil, length-append}
use Rattle.bios_screen.proofs.Prelude.{Four, CardState, ModeRow, mode_row_at_height, BiosData, is_text, is_mode_of_256_colours, start_address, list_by_function, Cell, Screen, cell_in, pixel_in}
use Rattle.bios_screen.proofs.Prelude.{page_pixels, pixel_screen, crtc_registers}
use Rattle.bios_screen.specs.Screen.{Contents, Cells, Pixels, Layout, missing_cell, cell_of}
use Rattle.bios_screen.specs.Parts.{text_cell, page_pixel, cut_pages, pixel_count, cells_or_pixels_of_mode, LayoutFitsContents}
use Rattle.bios_screen.specs.Shown.{cells_in, glyph_byte_in_plane_2, glyph_bytes_in_plane_2, pixels_in, pixel_pages, layout_of, screen_with_contents}
use Rattle.bios_screen.specs.Shown.{crtc_registers_shown, cursor_location_shown, shows}
use Rattle.bios_screen.specs.Raster.{concatenated_lists}
use Rattle.bios_screen.proofs.Base.Lists.{spelled, same_from_0, length_listing, listed_at}
use Rattle.bios_screen.proofs.Base.Places.{ends_before}
use Rattle.bios_screen.proofs.Base.Tests.{lt_test}
use Rattle.bios_screen.proofs.Modes.AnyModes.{text_row_is, says_is}
use Rattle.bios_screen.proofs.Shows.Screens.{data_is, all_tests_of, tests_of}
use Rattle.bios_screen.proofs.Modes.PixelModes.{pixels_of}

-- a listing that is one element longer
listing_more : {Y : Type 0} (f : ℕ → Y) (i n : ℕ) → list_by_function f i (n + 1) ≡ list_by_function f i n ++ f (i + n) ∷ []
listing_more f i zero = let z : i ≡ i + 0 = omega arith in ap (λ k. f k ∷ []) z
listing_more f i (suc n) =
    let s : suc n + 1 ≡ suc (n + 1) = omega arith in
    let z : i + 1 + n ≡ i + suc n = omega arith in
    ap (list_by_function f i) s ∙ ap (λ l. f i ∷ l) (listing_more f (i + 1) n ∙ ap (λ k. list_by_function f (i + 1) n ++ f k ∷ []) z)

listed_more : {Y : Type 0} (f : ℕ → Y) (n : ℕ) → list_by_function f 0 (n + 1) ≡ list_by_function f 0 n ++ f n ∷ []
listed_more f n = let z : 0 + n ≡ n = omega arith in listing_more f 0 n ∙ ap (λ k. list_by_function f 0 n ++ f k ∷ []) z

pub no_cells : (a b : List ℕ) → [] ≡ cells_in a b 0
unfolding cells_in
no_cells a b = refl

pub more_cells : (a b : List ℕ) (n : ℕ) → cells_in a b (n + 1) ≡ cells_in a b n ++ (slice_index a (2 * n), slice_index b (2 * n)) ∷ []
unfolding cells_in
more_cells a b n = listed_more (cell_in a b) n

pub no_glyphs : (a : List ℕ) → [] ≡ glyph_bytes_in_plane_2 a 0
unfolding glyph_bytes_in_plane_2
no_glyphs a = refl

pub more_glyphs : (a : List ℕ) (n : ℕ) → glyph_bytes_in_plane_2 a (n + 1) ≡ glyph_bytes_in_plane_2 a n ++ slice_index a (32 * (n / 16) + n % 16) ∷ []
unfolding glyph_bytes_in_plane_2
more_glyphs a n = listed_more (glyph_byte_in_plane_2 a) n

-- ---- the pixels of all pages in one list

joined_length : (f : ℕ → List ℕ) (n m : ℕ) → ((q : ℕ) → q < m → length (f q) ≡ n) → length (concatenated_lists f m) ≡ n * m
unfolding concatenated_lists
joined_length f n zero h = let z : 0 ≡ n * 0 = omega arith in z
joined_length f n (suc m) h =
    let z : n * m + n ≡ n * suc m = omega arith in
    length-append (concatenated_lists f m) (f m) ∙ ap (λ k. k + length (f m)) (joined_length f n m (λ q l. h q (omega arith))) ∙ ap (λ k. n * m + k) (h m (omega arith)) ∙ z

-- pixel k of page p, in the joined list; each page has n pixels
joined_at : (f : ℕ → List ℕ) (n pages p k : ℕ) → ((q : ℕ) → q < pages → length (f q) ≡ n) → p < pages → k < n →
    slice_index (concatenated_lists f pages) (n * p + k) ≡ slice_index (f p) k
unfolding concatenated_lists
joined_at f n zero p k size lp lk = absurd (omega arith)
joined_at f n (suc m) p k size lp lk = ⊎_elim
    (λ (l : p < m).
    let z = ends_before n p m l in
    let all = joined_length f n m (λ q h. size q (omega arith)) in
    get_or_append_left (concatenated_lists f m) (f m) 0 (n * p + k) (omega arith) ∙ joined_at f n m p k (λ q h. size q (omega arith)) l lk)
    (λ (l : m ≤ p).
    let e : p ≡ m = omega arith in
    let all = joined_length f n m (λ q h. size q (omega arith)) in
    let at : n * p + k ≡ length (concatenated_lists f m) + k = ap (λ q. n * q + k) e ∙ ap (λ q. q + k) (sym all) in
    ap (slice_index (concatenated_lists f m ++ f m)) at ∙ get_or-append-add (concatenated_lists f m) (f m) k 0 ∙ ap (λ q. slice_index (f q) k) (sym e))
    (cases_lt p m)

pub cut_joined : (f : ℕ → List ℕ) (n pages : ℕ) → ((q : ℕ) → q < pages → length (f q) ≡ n) → cut_pages (concatenated_lists f pages) n pages ≡ list_by_function f 0 pages
unfolding cut_pages
cut_joined f n pages size =
    same_from_0 f (λ p. list_by_function (λ k. slice_index (concatenated_lists f pages) (n * p + k)) 0 n) pages
    (λ p lp. same_from_0 (slice_index (f p)) (λ k. slice_index (concatenated_lists f pages) (n * p + k)) n (λ k lk. joined_at f n pages p k size lp lk)
    ∙ sym (spelled (f p) n (size p lp)))

-- conversely, pixel k of page p after the list is cut into pages
pub cut_at : (pixels : List ℕ) (n pages p k : ℕ) → p < pages → k < n → slice_index (get_or (cut_pages pixels n pages) p []) k ≡ slice_index pixels (n * p + k)
unfolding cut_pages
cut_at pixels n pages p k lp lk =
    ap (λ l. slice_index l k) (listed_at (λ q. list_by_function (λ j. slice_index pixels (n * q + j)) 0 n) pages p [] lp)
    ∙ listed_at (λ j. slice_index pixels (n * p + j)) n k 0 lk

pub no_pixels : (mode : ℕ) (m : Four (List ℕ)) (z : ℕ) (l : List ℕ) → l ≡ l ++ pixels_in mode m z 0
unfolding pixels_in
no_pixels mode m z l = sym (append-nil l)

pub more_pixels : (mode : ℕ) (m : Four (List ℕ)) (z n : ℕ) → pixels_in mode m z (n + 1) ≡ pixels_in mode m z n ++ pixel_in mode m z n ∷ []
unfolding pixels_in
more_pixels mode m z n = listed_more (pixel_in mode m z) n

pub pixel_pushed : (mode : ℕ) (m : Four (List ℕ)) (z n : ℕ) (old items : List ℕ) → items ≡ old ++ pixels_in mode m z n → items ++ pixel_in mode m z n ∷ [] ≡ old
    ++ pixels_in mode m z (n + 1)
pixel_pushed mode m z n old items e =
    ap (λ l. l ++ pixel_in mode m z n ∷ []) e
    ∙ append_assoc old (pixels_in mode m z n) (pixel_in mode m z n ∷ [])
    ∙ ap (λ l. old ++ l) (sym (more_pixels mode m z n))

pages_length : (mode : ℕ) (m : Four (List ℕ)) (size n pages : ℕ) → length (concatenated_lists (λ p. pixels_in mode m (size * p) n) pages) ≡ n * pages
unfolding pixels_in
pages_length mode m size n pages = joined_length (λ p. pixels_in mode m (size * p) n) n pages (λ q l. length_listing (pixel_in mode m (size * q)) 0 n)

-- the joined pixels, cut into pages again, are the pages of the memory
pub pages_are : (mode : ℕ) (m : Four (List ℕ)) (size n pages : ℕ) → cut_pages (concatenated_lists (λ p. pixels_in mode m (size * p) n) pages) n pages
    ≡ pixel_pages mode m size n pages
unfolding pixels_in pixel_pages
pages_are mode m size n pages = cut_joined (λ p. pixels_in mode m (size * p) n) n pages (λ q l. length_listing (pixel_in mode m (size * q)) 0 n)

-- ---- parts of a screen

pub text_cell_is : (mode : ℕ) (l : Layout) (cells : List Cell) (pixels : List ℕ) (k : ℕ) → is_text mode ≡ true →
    text_cell (cells_or_pixels_of_mode mode l cells pixels) k ≡ Some (cell_of cells k)
text_cell_is mode l cells pixels k t = ap (λ b. let x : Contents = (if b then Cells cells else Pixels (cut_pages pixels (pixel_count l) l.pages)) in
    text_cell x k) t

pub page_pixel_is : (mode : ℕ) (l : Layout) (cells : List Cell) (pixels : List ℕ) (p k : ℕ) → is_text mode ≡ false → p < l.pages → k < pixel_count l →
    page_pixel (cells_or_pixels_of_mode mode l cells pixels) p k ≡ Some (slice_index pixels (pixel_count l * p + k))
page_pixel_is mode l cells pixels p k t lp lk =
    ap (λ b. let x : Contents = (if b then Cells cells else Pixels (cut_pages pixels (pixel_count l) l.pages)) in page_pixel x p k) t
    ∙ ap (λ (n : ℕ). Some n) (cut_at pixels (pixel_count l) l.pages p k lp lk)

-- a conditional whose three tests hold has its first value
there_if : {Y : Type 0} (a b g : Bool) (x y : Y) → a ≡ true → b ≡ true → g ≡ true → (if a && (b && g) then x else y) ≡ x
there_if a b g x y ea eb eg =
    ap (λ t. if t && (b && g) then x else y) ea ∙ ap (λ t. if t && g then x else y) eb ∙ ap (λ t. if t then x else y) eg

-- the cell at a row and a column of a page, if all three are in range
pub cell_there : (mode : ℕ) (l : Layout) (cells : List Cell) (pixels : List ℕ) (page row column : ℕ) (x : Cell) → is_text mode ≡ true → page < l.pages →
    row < l.rows → column < l.columns → l.distance * page + (l.columns * row + column) < length cells →
    x ≡ get_or cells (l.distance * page + (l.columns * row + column)) x
    → Some x ≡ (if nat_lt page l.pages && (nat_lt row l.rows && nat_lt column l.columns)
    then text_cell (cells_or_pixels_of_mode mode l cells pixels) (l.distance * page + (l.columns * row + column)) else None)
cell_there mode l cells pixels page row column x t lp lr lc within e =
    let k = l.distance * page + (l.columns * row + column) in
    let q = text_cell (cells_or_pixels_of_mode mode l cells pixels) k in
    ap (λ (y : Cell). Some y) (e ∙ get_or_default cells k x missing_cell within) ∙ sym (
    there_if (nat_lt page l.pages) (nat_lt row l.rows) (nat_lt column l.columns) q None (lt_test page l.pages lp) (lt_test row l.rows lr)
    (lt_test column l.columns lc) ∙ text_cell_is mode l cells pixels k t)

-- the number of a pixel is below n
abbrev pub pixels_within : Layout → ℕ → ℕ → ℕ → ℕ → Type 0
pixels_within l page x y n = pixel_count l * page + (8 * l.columns * y + x) < n

-- the pixel at column x of line y of a page, if all three are in range
pub pixel_there : (mode : ℕ) (l : Layout) (cells : List Cell) (pixels : List ℕ) (page x y n : ℕ) → is_text mode ≡ false → page < l.pages → x < 8 * l.columns →
    y < l.height * l.rows → pixels_within l page x y (length pixels) → n ≡ get_or pixels (pixel_count l * page + (8 * l.columns * y + x)) n
    → Some n ≡ (if nat_lt page l.pages && (nat_lt x (8 * l.columns) && nat_lt y (l.height * l.rows))
    then page_pixel (cells_or_pixels_of_mode mode l cells pixels) page (8 * l.columns * y + x) else None)
pixel_there mode l cells pixels page x y n t lp lx ly within e =
    let k = 8 * l.columns * y + x in
    let q = page_pixel (cells_or_pixels_of_mode mode l cells pixels) page k in
    let row = ends_before (8 * l.columns) y (l.height * l.rows) ly in
    ap (λ (i : ℕ). Some i) (e ∙ get_or_default pixels (pixel_count l * page + k) n 0 within) ∙ sym (
    there_if (nat_lt page l.pages) (nat_lt x (8 * l.columns)) (nat_lt y (l.height * l.rows)) q None (lt_test page l.pages lp) (lt_test x (8 * l.columns) lx)
    (lt_test y (l.height * l.rows) ly) ∙ page_pixel_is mode l cells pixels page k t lp (omega arith))

pub cell_inside : (distance columns rows page pages row column n : ℕ) → page < pages → row < rows → column < columns → columns * rows ≤ distance →
    distance * pages ≤ n → distance * page + (columns * row + column) < n
cell_inside distance columns rows page pages row column n lp lr lc fits all = let a = ends_before distance page pages lp in let b =
    ends_before columns row rows lr in omega arith

pub pixel_inside : (w v page pages x y : ℕ) → page < pages → x < w → y < v → w * v * page + (w * y + x) < w * v * pages
pixel_inside w v page pages x y lp lx ly = let a = ends_before (w * v) page pages lp in let b = ends_before w y v ly in omega arith

-- ---- the numbers of a screen's mode

is_both : {Y : Type 0} (b : Bool) → b ≡ true → b ≡ false → Y
is_both b t f = absurd (cc)

pub text_laid_out : (row : ModeRow) (c : CardState) (d : BiosData) → mode_row_at_height d.mode d.height ≡ Some row → is_text d.mode ≡ true → shows row c d ≡ true →
    (mode : ℕ) (l : Layout) (n m : ℕ) → mode ≡ d.mode → l.columns ≡ d.columns → l.rows ≡ d.last_row + 1 → l.distance ≡ d.size / 2 → l.pages ≡ row.pages →
    n ≡ 16384 → LayoutFitsContents mode l n m
text_laid_out row c d e t h mode l n m em ec er ed ep en =
    let tests = tests_of row c d t h in
    let has = data_is row d tests.data_test in
    let text = (text_row_is d.mode d.height row t e).is in
    let fits = text.fits in
    let memory = text.memory in
    let last : d.last_row + 1 ≡ row.last_row + 1 = ap (λ k. k + 1) has.last_row in
    let same : l.columns * l.rows ≡ row.columns * (row.last_row + 1) = ap (λ k. k * l.rows) (ec ∙ has.columns) ∙ ap (λ k. row.columns * k) (er ∙ last) in
    let size_is : d.size ≡ 2 * text.half = has.size ∙ text.even in
    let half : d.size / 2 ≡ text.half = omega arith in
    let all : l.distance * l.pages ≡ text.half * row.pages = ap (λ k. k * l.pages) (ed ∙ half) ∙ ap (λ k. text.half * k) ep in
    record { page = λ _. omega arith; cells = λ _. omega arith; pixels = λ f. is_both (is_text mode) (ap is_text em ∙ t) f }

-- the numbers of a graphics mode are small, and its pages fit its memory
pub record PixelNumbers (row : ModeRow) (mode columns height size n : ℕ) : Type 0 where
  pub columns_few : columns ≤ 80
  pub height_few : height ≤ 16
  pub all : size * row.pages ≤ 65536
  pub page : (n + 7) / 8 ≤ size
  pub packed : IsTrue (is_mode_of_256_colours mode) → n ≤ size

pub pixel_numbers : (row : ModeRow) (c : CardState) (d : BiosData) → mode_row_at_height d.mode d.height ≡ Some row → is_text d.mode ≡ false → shows row c d ≡ true →
    PixelNumbers row d.mode d.columns d.height d.size (page_pixels d)
pixel_numbers row c d e t h =
    let has = data_is row d (all_tests_of row c d h).data_test in
    let says = says_is d.mode d.height row t e in
    let at : PixelNumbers row d.mode row.columns row.height row.size (pixels_of row) =
    record { columns_few = says.room.narrow; height_few = says.room.short; all = says.room.memory; page = says.room.bytes; packed = says.whole } in
    let n : pixels_of row ≡ page_pixels d = sym (ap (λ i. 8 * i * (d.height * (d.last_row + 1))) has.columns
    ∙ ap (λ i. 8 * row.columns * (i * (d.last_row + 1))) has.height ∙ ap (λ i. 8 * row.columns * (row.height * (i + 1))) has.last_row) in
    subst (λ i. PixelNumbers row d.mode i d.height d.size (page_pixels d)) (sym has.columns)
    (subst (λ i. PixelNumbers row d.mode row.columns i d.size (page_pixels d)) (sym has.height)
    (subst (λ i. PixelNumbers row d.mode row.columns row.height i (page_pixels d)) (sym has.size)
    (subst (PixelNumbers row d.mode row.columns row.height row.size) n at)))

pub pixels_laid_out : (d : BiosData) (f : Four (List ℕ)) (mode : ℕ) (l : Layout) (n m size count pages : ℕ) (pixels : List ℕ) → is_text d.mode ≡ false →
    mode ≡ d.mode → count ≡ pixel_count l → pages ≡ l.pages → m ≡ length pixels → pixels ≡ concatenated_lists (λ p. pixels_in mode f (size * p) count) pages →
    LayoutFitsContents mode l n m
pixels_laid_out d f mode l n m size count pages pixels t em ec ep el e = record {
  page = λ f. is_both (is_text mode) f (ap is_text em ∙ t);
  cells = λ f. is_both (is_text mode) f (ap is_text em ∙ t);
  pixels = λ _. el ∙ ap (λ (x : List ℕ). length x) e ∙ pages_length mode f size count pages ∙ ap (λ i. i * pages) ec ∙ ap (λ i. pixel_count l * i) ep;
}

-- the screen read in graphics is the screen of pixels
pub pixel_screen_is : (row : ModeRow) (c : CardState) (d : BiosData) (cells : List Cell) (pixels : List ℕ) (s : Screen) → is_text d.mode ≡ false →
    pixels ≡ concatenated_lists (λ p. pixels_in d.mode c.host.memory (d.size * p) (page_pixels d)) row.pages →
    s ≡ screen_with_contents row c d 0 (cells_or_pixels_of_mode d.mode (layout_of row d 0) cells pixels) [] → s ≡ pixel_screen row c d
pixel_screen_is row c d cells pixels s t e h =
    let n = page_pixels d in
    h
    ∙ ap (λ b. let x : Contents = (if b then Cells cells else Pixels (cut_pages pixels n row.pages)) in screen_with_contents row c d 0 x []) t
    ∙ ap (λ l. screen_with_contents row c d 0 (Pixels (cut_pages l n row.pages)) []) e
    ∙ ap (λ l. screen_with_contents row c d 0 (Pixels l) []) (pages_are d.mode c.host.memory d.size n row.pages)

-- a mode's CRT controller registers with six set: cursor type, start address, cursor location
abbrev pub set_registers : List ℕ → ℕ → ℕ → ℕ → List ℕ
set_registers l type start location =
    slice_set (slice_set (slice_set (slice_set (slice_set (slice_set l 0x0A (bit_and (type / 256) 0x3F)) 0x0B (bit_and (type % 256) 0x7F)) 0x0C (start / 256))
    0x0D (start % 256)) 0x0E (location / 256)) 0x0F (location % 256)

pub set_is : (row : ModeRow) (type start location : ℕ) → length row.crtc ≡ 25 → set_registers row.crtc type start location
    ≡ crtc_registers row type start location
set_is row type start location e = ap (λ l. set_registers l type start location) (spelled row.crtc 25 e)

pub wanted_is : (row : ModeRow) (d : BiosData) (l : List ℕ) (type start location : ℕ) → length row.crtc ≡ 25 → type ≡ d.cursor_type →
    start ≡ start_address d d.page → location ≡ cursor_location_shown d l → set_registers row.crtc type start location ≡ crtc_registers_shown row d l
wanted_is row d l type start location e et es el =
    set_is row type start location e
    ∙ ap (λ n. crtc_registers row n start location) et
    ∙ ap (λ n. crtc_registers row d.cursor_type n location) es
    ∙ ap (λ n. crtc_registers row d.cursor_type (start_address d d.page) n) el
