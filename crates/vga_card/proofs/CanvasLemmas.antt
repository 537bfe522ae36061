-- Dots in a buffer, one more or a line more.
use Rattle.std.proofs.Common.{◌≡◌, ◌≢◌, ℕ, zero, suc, ◌+◌, ◌*◌, ◌<◌, ◌≤◌, ⊎_elim, refl, sym, ap, ◌∙◌, arith, List, [], ◌∷◌, ◌++◌, length, replicate, take, drop}
use Rattle.std.proofs.Common.{append_assoc, length-append, slice_index, take-add}
use Rattle.std.specs.Prelude.{slice_set}
use Rattle.std.proofs.lemmas.Bool.{cases_eq}
use Rattle.std.proofs.lemmas.List.{length-set, get_or-set_same, get_or-set_other, append-nil, length-replicate, replicate-append-replicate, take-append-le}
use Rattle.std.proofs.lemmas.List.{take-take, drop-append-le, take_all, length-drop}
use Rattle.vga_bits.specs.Bytes.{zeros}
use Rattle.vga_dots.specs.Display.{DisplayState}
use Rattle.vga_dots.specs.Line.{shown_characters, IsLineDrawn}
use Rattle.vga_card.specs.Line.{IsLineAppended}
use Rattle.vga_bits.proofs.ByteLemmas.{zeros_at}
use Rattle.vga_card.specs.Picture.{Dot, most_dots_of_a_line, most_lines_of_a_frame, lines_of_dots, line_of_each_dot_by_widths}
use Rattle.vga_card.specs.Canvas.{CanvasState, blank_canvas, dots_of_bytes, stored_dots, IsCanvas}

-- no later line has a dot
pub no_lines : (u : ℕ) (ws : List ℕ) → ((j : ℕ) → slice_index ws j ≡ 0) → line_of_each_dot_by_widths u ws ≡ []
unfolding line_of_each_dot_by_widths
no_lines u [] h = refl
no_lines u (w ∷ ws) h = ap (λ n. replicate n u ++ line_of_each_dot_by_widths (u + 1) ws) (h 0) ∙ no_lines (u + 1) ws (λ j. h (suc j))

-- n dots more on the last line
lines_more : (u i n : ℕ) (ws : List ℕ) → i < length ws → ((j : ℕ) → i < j → slice_index ws j ≡ 0) →
    line_of_each_dot_by_widths u (slice_set ws i (slice_index ws i + n)) ≡ line_of_each_dot_by_widths u ws ++ replicate n (u + i)
unfolding line_of_each_dot_by_widths
lines_more u i n [] l h = absurd (omega arith)
lines_more u zero n (w ∷ ws) l h =
    let none = no_lines (u + 1) ws (λ j. h (suc j) (omega arith)) in
    let z : u ≡ u + 0 = omega arith in
    ap (λ x. replicate (w + n) u ++ x) none ∙ append-nil (replicate (w + n) u) ∙ sym (replicate-append-replicate w n u)
    ∙ ap (λ x. x ++ replicate n u) (sym (append-nil (replicate w u)) ∙ ap (λ x. replicate w u ++ x) (sym none))
    ∙ ap (λ x. (replicate w u ++ line_of_each_dot_by_widths (u + 1) ws) ++ replicate n x) z
lines_more u (suc i) n (w ∷ ws) l h =
    let z : u + 1 + i ≡ u + suc i = omega arith in
    ap (λ x. replicate w u ++ x) (lines_more (u + 1) i n ws (omega arith) (λ j k. h (suc j) (omega arith)))
    ∙ sym (append_assoc (replicate w u) (line_of_each_dot_by_widths (u + 1) ws) (replicate n (u + 1 + i)))
    ∙ ap (λ x. (replicate w u ++ line_of_each_dot_by_widths (u + 1) ws) ++ replicate n x) z

pub length-dots_from : (vs bs : List ℕ) → length (dots_of_bytes vs bs) ≡ length vs
unfolding dots_of_bytes
length-dots_from [] bs = refl
length-dots_from (v ∷ vs) bs = ap suc (length-dots_from vs (drop 3 bs))

pub lines-dots_from : (vs bs : List ℕ) → lines_of_dots (dots_of_bytes vs bs) ≡ vs
unfolding dots_of_bytes
lines-dots_from [] bs = refl
lines-dots_from (v ∷ vs) bs = ap (λ x. v ∷ x) (lines-dots_from vs (drop 3 bs))

dots-append : (vs us bs cs : List ℕ) → length bs ≡ 3 * length vs → dots_of_bytes (vs ++ us) (bs ++ cs) ≡ dots_of_bytes vs bs ++ dots_of_bytes us cs
unfolding dots_of_bytes
dots-append [] us [] cs e = refl
dots-append [] us (b ∷ bs) cs e = absurd (omega (arith, e))
dots-append (v ∷ vs) us bs cs e =
    let few : 3 ≤ length bs = omega (arith, e) in
    let here : List ℕ → Dot = λ (c : List ℕ). record { line = v; colour = c } in
    ap (λ (c : List ℕ). here c ∷ dots_of_bytes (vs ++ us) (drop 3 (bs ++ cs))) (take-append-le 3 bs cs few)
    ∙ ap (λ (rest : List ℕ). here (take 3 bs) ∷ dots_of_bytes (vs ++ us) rest) (drop-append-le 3 bs cs few)
    ∙ ap (λ (dots : List Dot). here (take 3 bs) ∷ dots) (dots-append vs us (drop 3 bs) cs (omega (arith, e, length-drop 3 bs)))

-- one dot more on line v
pub stored_more : (ws buffer colour : List ℕ) (v : ℕ) → v < length ws → ((j : ℕ) → v < j → slice_index ws j ≡ 0) →
    length buffer ≡ 3 * length (line_of_each_dot_by_widths 0 ws) → length colour ≡ 3 → stored_dots (slice_set ws v (slice_index ws v + 1)) (buffer ++ colour)
    ≡ stored_dots ws buffer ++ (record { line = v; colour = colour }) ∷ []
unfolding dots_of_bytes
stored_more ws buffer colour v l h e three =
    let z : 0 + v ≡ v = omega arith in
    let here : List ℕ → Dot = λ (c : List ℕ). record { line = v; colour = c } in
    ap (λ x. dots_of_bytes x (buffer ++ colour)) (lines_more 0 v 1 ws l h)
    ∙ dots-append (line_of_each_dot_by_widths 0 ws) (replicate 1 (0 + v)) buffer colour e
    ∙ ap (λ k. stored_dots ws buffer ++ dots_of_bytes (k ∷ []) colour) z
    ∙ ap (λ (c : List ℕ). stored_dots ws buffer ++ here c ∷ []) (take_all 3 colour (omega (arith, three)))

-- a whole slice written back
pub written_back : (n : ℕ) (new old : List ℕ) → length new ≡ n → take n (new ++ drop (length new) old) ≡ new
written_back n new old e = take-append-le n new (drop (length new) old) (omega arith) ∙ take_all n new (omega arith)

later_stays : (ws : List ℕ) (line v n : ℕ) → line ≤ v → ((j : ℕ) → line < j → slice_index ws j ≡ 0) → (j : ℕ) → v < j → slice_index (slice_set ws v n) j ≡ 0
later_stays ws line v n b h j l = get_or-set_other ws v j n 0 (omega arith) ∙ h j (omega arith)

-- n dots more on line v, which is the last or after it, leave the line no wider than the widest
pub record HasRoom (ws : List ℕ) (line v n : ℕ) : Type 0 where
  pub after : line ≤ v
  pub inside : v < 1024
  pub few : n ≤ most_dots_of_a_line
  pub beside : v ≡ line → slice_index ws line + n ≤ most_dots_of_a_line

-- a canvas shows whether it has room for one dot more
pub room_shown : (canvas : CanvasState) (dots : List Dot) (ws : List ℕ) (line v : ℕ) →
    record { dots = dots; line = line; width = slice_index ws line } ≡ canvas → v < 1024 → canvas.line ≤ v → (v ≡ canvas.line → canvas.width < most_dots_of_a_line) →
    HasRoom ws line v 1
room_shown canvas dots ws line v shown inside after room =
    let last = ap (λ (s : CanvasState). s.line) shown in
    record {
      after = omega (arith, last, after);
      inside = inside;
      few = omega arith;
      beside = λ same. omega (arith, ap (λ (s : CanvasState). s.width) shown, room (same ∙ last));
    }

-- the width of a line before n dots more
width_before : (capacity : ℕ) (buffer ws : List ℕ) (line v n : ℕ) → IsCanvas capacity buffer ws line → HasRoom ws line v n → (slice_index ws v + n ≤ most_dots_of_a_line)
    × (length (line_of_each_dot_by_widths 0 ws) + n ≤ most_dots_of_a_line * v + (slice_index ws v + n))
width_before capacity buffer ws line v n is room =
    ⊎_elim
    (λ (same : v ≡ line).
    let e = ap (slice_index ws) same in
    (omega (arith, e, room.beside same), omega (arith, e, same, is.fits)))
    (λ (other : v ≢ line).
    let beyond : line < v = omega (arith, room.after) in
    let none = is.later v beyond in
    (omega (arith, none, room.few), omega (arith, none, is.fits, is.narrow line, beyond)))
    (cases_eq v line)

-- the memory of a canvas has room for the bytes of n dots more
pub bytes_fit : (capacity : ℕ) (buffer ws : List ℕ) (line v n : ℕ) → IsCanvas capacity buffer ws line → HasRoom ws line v n → length buffer + 3 * n ≤ capacity
bytes_fit capacity buffer ws line v n is room =
    let before = width_before capacity buffer ws line v n is room in
    omega (arith, before.0, before.1, room.inside, is.counted, is.room)

narrow_stays : (ws : List ℕ) (v n : ℕ) → v < length ws → n ≤ most_dots_of_a_line → ((j : ℕ) → slice_index ws j ≤ most_dots_of_a_line) → (j : ℕ) →
    slice_index (slice_set ws v n) j ≤ most_dots_of_a_line
narrow_stays ws v n l few h j =
    ⊎_elim
    (λ (same : j ≡ v). omega (arith, ap (slice_index (slice_set ws v n)) same, get_or-set_same ws v n 0 l, few))
    (λ (other : j ≢ v). omega (arith, get_or-set_other ws v j n 0 other, h j))
    (cases_eq j v)

-- n dots more on line v, and what is true of the canvas then
pub canvas_more : (capacity : ℕ) (buffer colours ws : List ℕ) (line v n : ℕ) → IsCanvas capacity buffer ws line → HasRoom ws line v n → length colours ≡ 3 * n →
    IsCanvas capacity (buffer ++ colours) (slice_set ws v (slice_index ws v + n)) v
canvas_more capacity buffer colours ws line v n is room e =
    let within : v < length ws = omega (arith, is.lines, room.inside) in
    let before = width_before capacity buffer ws line v n is room in
    let wider = slice_set ws v (slice_index ws v + n) in
    let count : length (line_of_each_dot_by_widths 0 wider) ≡ length (line_of_each_dot_by_widths 0 ws) + n =
    ap length (lines_more 0 v n ws within (λ j k. is.later j (omega (arith, room.after)))) ∙ length-append (line_of_each_dot_by_widths 0 ws) (replicate n (0 + v))
    ∙ ap (λ k. length (line_of_each_dot_by_widths 0 ws) + k) (length-replicate n (0 + v)) in
    record {
      room = is.room;
      lines = length-set ws v (slice_index ws v + n) ∙ is.lines;
      counted = omega (arith, length-append buffer colours, e, is.counted, count);
      inside = room.inside;
      narrow = narrow_stays ws v (slice_index ws v + n) within before.0 is.narrow;
      fits = omega (arith, count, before.1, get_or-set_same ws v (slice_index ws v + n) 0 within);
      later = later_stays ws line v (slice_index ws v + n) room.after is.later;
    }

-- an empty canvas
pub empty_canvas : (capacity : ℕ) (ws : List ℕ) (line : ℕ) → 7077888 ≤ capacity → length ws ≡ 1024 → line < 1024 → ((j : ℕ) → slice_index ws j ≡ 0) →
    IsCanvas capacity [] ws line
empty_canvas capacity ws line r l i h =
    let none = ap length (no_lines 0 ws h) in
    record {
      room = r;
      lines = l;
      counted = omega (arith, none);
      inside = i;
      narrow = λ j. omega (arith, h j);
      fits = omega (arith, none);
      later = λ j _. h j;
    }

empty_dots : (buffer ws : List ℕ) → ((j : ℕ) → slice_index ws j ≡ 0) → stored_dots ws buffer ≡ []
unfolding dots_of_bytes
empty_dots buffer ws h = ap (λ x. dots_of_bytes x buffer) (no_lines 0 ws h)

pub shows_none : (buffer ws : List ℕ) → ((j : ℕ) → slice_index ws j ≡ 0) → record { dots = stored_dots ws buffer; line = 0; width = slice_index ws 0 }
    ≡ blank_canvas
shows_none buffer ws h = ap (λ (dots : List Dot). record { dots = dots; line = 0; width = slice_index ws 0 }) (empty_dots buffer ws h)
    ∙ ap (λ (n : ℕ). record { dots = []; line = 0; width = n }) (h 0)

pub blank : (n : ℕ) (ws : List ℕ) → ws ≡ zeros n → (j : ℕ) → slice_index ws j ≡ 0
blank n ws e j = ap (λ x. slice_index x j) e ∙ zeros_at n j

-- n dots more on line v, by the bytes of a row
pub stored_line : (ws buffer colours : List ℕ) (v n : ℕ) → v < length ws → ((j : ℕ) → v < j → slice_index ws j ≡ 0) →
    length buffer ≡ 3 * length (line_of_each_dot_by_widths 0 ws)
    → stored_dots (slice_set ws v (slice_index ws v + n)) (buffer ++ colours) ≡ stored_dots ws buffer ++ dots_of_bytes (replicate n v) colours
stored_line ws buffer colours v n l h e =
    let z : 0 + v ≡ v = omega arith in
    ap (λ x. dots_of_bytes x (buffer ++ colours)) (lines_more 0 v n ws l h)
    ∙ dots-append (line_of_each_dot_by_widths 0 ws) (replicate n (0 + v)) buffer colours e
    ∙ ap (λ k. stored_dots ws buffer ++ dots_of_bytes (replicate n k) colours) z

-- a canvas shows whether it has room for n dots more
pub line_shown : (canvas : CanvasState) (dots : List Dot) (ws : List ℕ) (line v n : ℕ) →
    record { dots = dots; line = line; width = slice_index ws line } ≡ canvas → v < most_lines_of_a_frame → canvas.line ≤ v → n ≤ most_dots_of_a_line →
    (v ≡ canvas.line → canvas.width + n ≤ most_dots_of_a_line) → HasRoom ws line v n
line_shown canvas dots ws line v n shown inside after few room =
    let last = ap (λ (s : CanvasState). s.line) shown in
    record {
      after = omega (arith, last, after);
      inside = inside;
      few = few;
      beside = λ same. omega (arith, ap (λ (s : CanvasState). s.width) shown, room (same ∙ last));
    }

-- more memory does no harm
pub roomier : (capacity more : ℕ) (buffer ws : List ℕ) (line : ℕ) → capacity ≤ more → IsCanvas capacity buffer ws line → IsCanvas more buffer ws line
roomier capacity more buffer ws line l is = record {
  room = omega (arith, is.room, l);
  lines = is.lines;
  counted = is.counted;
  inside = is.inside;
  narrow = is.narrow;
  fits = is.fits;
  later = is.later;
}

-- a line that was drawn after the bytes that a longer buffer has in use
pub line_appended : (cw : ℕ) (d : DisplayState) (old mid new : List ℕ) (used len : ℕ) → used ≤ length old → len ≡ 3 * (shown_characters d.crtc.registers * cw)
    → take (length old) mid ≡ old → used + len ≤ length new → take used new ≡ take used mid →
    IsLineDrawn cw (shown_characters d.crtc.registers) d (drop used mid) (drop used new)
    → IsLineAppended cw d (take used old) (take (used + len) new)
line_appended cw d old mid new used len within count longer room prefix drawn =
    let kept : take used new ≡ take used old = prefix ∙ sym (take-take used (length old) mid within) ∙ ap (take used) longer in
    record {
      blank = drop used mid;
      row = drop used new;
      long = omega (arith, length-drop used new, count, room);
      whole = take-add used len new ∙ ap (λ (x : List ℕ). x ++ take len (drop used new)) kept ∙ ap (λ (n : ℕ). take used old ++ take n (drop used new)) count;
      drawn = drawn;
    }
