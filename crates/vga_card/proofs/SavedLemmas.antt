-- The dots drawn are read back from their bytes.
use Rattle.std.proofs.Common.{◌≡◌, ℕ, zero, suc, ◌+◌, ◌*◌, ◌<◌, ◌≤◌, refl, sym, ap, ◌∙◌, subst, arith, inl, inr, Bool, true, false}
use Rattle.std.proofs.Common.{List, [], ◌∷◌, ◌++◌, length}
use Rattle.std.proofs.Common.{replicate, length-append}
use Rattle.std.specs.Prelude.{slice_index, min, nat_lt, ◌==◌, if◌then◌else◌}
use Rattle.std.specs.List.{flat_map}
use Rattle.std.proofs.lemmas.Bool.{cases_lt, cases_eq}
use Rattle.std.proofs.lemmas.Bool.Decides.{nat_tests}
use Rattle.std.proofs.lemmas.List.{append-nil, drop_at, length-replicate, get_or_append_left, get_or_push, get_or_past, length_push}
use Rattle.vga_bits.specs.Bytes.{zeros}
use Rattle.vga_bits.proofs.ByteLemmas.{length-zeros, zeros_at}
use Rattle.vga_bits.specs.Saved.{word_bytes, word_at, first_words}
use Rattle.vga_bits.proofs.SavedLemmas.{length-word_bytes, length-words_in, words_are_back, words_more, word_in_at}
use Rattle.vga_crtc.specs.declared.beam.Beam.{Beam}
use Rattle.vga_crtc.specs.Beam.{is_first_dot_of_frame}
use Rattle.vga_card.specs.Picture.{Dot, most_dots_of_a_line, line_of_each_dot_by_widths, bytes_of_dots}
use Rattle.vga_card.specs.Canvas.{dots_of_bytes, stored_dots, IsCanvas}
use Rattle.vga_card.specs.Valid.{count_unless_frame_start, IsLineDrawnToBeam}
use Rattle.vga_card.specs.Lines.{dot_counts_of_lines, line_widths}
use Rattle.vga_card.specs.Saved.{saved_dots, widths_from_saved_bytes, past_widths, saved_dots_from, most_dots_on_line, AreWidthsInBounds, AreSavedDots}
use Rattle.vga_card.proofs.CanvasLemmas.{no_lines, length-dots_from}
use Rattle.vga_card.proofs.PlaceLemmas.{decided}
use Rattle.vga_card.proofs.ShapeLemmas.{stored_bytes}
use Rattle.vga_card.proofs.WidthLemmas.{counts_none, widths_are}

-- ---- the bytes of a canvas

-- widths and bytes of a canvas are those of its dots
pub canvas_bytes : (ws buffer : List ℕ) → length ws ≡ 1024 → length buffer ≡ 3 * length (line_of_each_dot_by_widths 0 ws)
    → flat_map word_bytes ws ++ buffer ≡ saved_dots (stored_dots ws buffer)
unfolding saved_dots
canvas_bytes ws buffer lines counted =
    ap (λ (l : List ℕ). flat_map word_bytes l ++ buffer) (sym (widths_are ws buffer lines))
    ∙ ap (λ (l : List ℕ). flat_map word_bytes (line_widths (stored_dots ws buffer)) ++ l) (stored_bytes ws buffer counted)

-- widths of a canvas and the bytes of its dots are those of its dots
pub dots_bytes : (ws buffer : List ℕ) (dots : List Dot) → length ws ≡ 1024 → stored_dots ws buffer ≡ dots
    → flat_map word_bytes ws ++ bytes_of_dots dots ≡ saved_dots dots
unfolding saved_dots
dots_bytes ws buffer dots lines shown = ap (λ (l : List ℕ). flat_map word_bytes l ++ bytes_of_dots dots) (sym (widths_are ws buffer lines) ∙ ap line_widths shown)

-- a canvas has no more bytes than its memory has room for
pub canvas_small : (capacity : ℕ) (buffer ws : List ℕ) (line : ℕ) → IsCanvas capacity buffer ws line → 3 * length (stored_dots ws buffer) ≤ 7077888
canvas_small capacity buffer ws line is = omega (arith, length-dots_from (line_of_each_dot_by_widths 0 ws) buffer, is.fits, is.narrow line, is.inside)

-- and those of no dots
pub no_bytes : flat_map word_bytes (zeros 1024) ≡ saved_dots []
unfolding saved_dots line_widths bytes_of_dots
no_bytes = ap (flat_map word_bytes) (sym (counts_none 0 1024)) ∙ sym (append-nil (flat_map word_bytes (dot_counts_of_lines [] 0 1024)))

pub widths_back : (ws rest : List ℕ) → length ws ≡ 1024 → widths_from_saved_bytes (flat_map word_bytes ws ++ rest) ≡ ws
unfolding widths_from_saved_bytes
widths_back ws rest lines = ap (λ (n : ℕ). first_words n (flat_map word_bytes ws ++ rest)) (sym lines) ∙ words_are_back ws rest

pub widths_past : (ws rest : List ℕ) → length ws ≡ 1024 → past_widths (flat_map word_bytes ws ++ rest) ≡ rest
widths_past ws rest lines = drop_at (flat_map word_bytes ws) rest 2048 (omega (arith, length-word_bytes ws, lines))

-- the dots of a canvas are read back
pub canvas_back : (ws buffer : List ℕ) → length ws ≡ 1024 → length buffer ≡ 3 * length (line_of_each_dot_by_widths 0 ws)
    → saved_dots_from (saved_dots (stored_dots ws buffer)) ≡ stored_dots ws buffer
unfolding saved_dots_from
canvas_back ws buffer lines counted =
    ap saved_dots_from (sym (canvas_bytes ws buffer lines counted)) ∙ ap (λ (l : List ℕ). stored_dots l (past_widths (flat_map word_bytes ws ++ buffer)))
    (widths_back ws buffer lines) ∙ ap (stored_dots ws) (widths_past ws buffer lines)

pub canvas_len : (ws buffer : List ℕ) → length ws ≡ 1024 → length buffer ≡ 3 * length (line_of_each_dot_by_widths 0 ws)
    → length (saved_dots (stored_dots ws buffer)) ≡ 2048 + 3 * length (stored_dots ws buffer)
canvas_len ws buffer lines counted = omega (
  arith,
  ap length (canvas_bytes ws buffer lines counted),
  length-append (flat_map word_bytes ws) buffer,
  length-word_bytes ws,
  lines,
  counted,
  length-dots_from (line_of_each_dot_by_widths 0 ws) buffer,
)

-- ---- as many dots as a line can have

most_before : (b : Beam) (v : ℕ) → v < b.line → most_dots_on_line b v ≡ most_dots_of_a_line
most_before b v below =
    let t : nat_lt v b.line ≡ true = grind (arith, nat_tests) in
    ap (λ (x : Bool). if x then most_dots_of_a_line else if v == b.line then min (9 * b.character + b.dot) most_dots_of_a_line else 0) t

most_here : (b : Beam) (v : ℕ) → v ≡ b.line → most_dots_on_line b v ≡ min (9 * b.character + b.dot) most_dots_of_a_line
most_here b v same =
    let t : nat_lt v b.line ≡ false = grind (arith, nat_tests) in
    let e : (v == b.line) ≡ true = grind (arith, nat_tests) in
    ap (λ (x : Bool). if x then most_dots_of_a_line else if v == b.line then min (9 * b.character + b.dot) most_dots_of_a_line else 0) t
    ∙ ap (λ (x : Bool). if x then min (9 * b.character + b.dot) most_dots_of_a_line else 0) e

most_past : (b : Beam) (v : ℕ) → b.line < v → most_dots_on_line b v ≡ 0
most_past b v past =
    let t : nat_lt v b.line ≡ false = grind (arith, nat_tests) in
    let e : (v == b.line) ≡ false = grind (arith, nat_tests) in
    ap (λ (x : Bool). if x then most_dots_of_a_line else if v == b.line then min (9 * b.character + b.dot) most_dots_of_a_line else 0) t
    ∙ ap (λ (x : Bool). if x then min (9 * b.character + b.dot) most_dots_of_a_line else 0) e

most_at_most : (b : Beam) (v : ℕ) → most_dots_on_line b v ≤ most_dots_of_a_line
most_at_most b v = elim (cases_lt v b.line) [
  | inl below ↦ omega (arith, most_before b v below)
  | inr above ↦ elim (cases_eq v b.line) [
    | inl same ↦ omega (arith, most_here b v same)
    | inr other ↦ omega (arith, most_past b v (omega (arith, above, other)))
  ]
]

pub few_none : (b : Beam) → AreWidthsInBounds b []
few_none b = record { most = λ v. omega arith }

-- one line more
pub few_more : (b : Beam) (ws : List ℕ) (w n : ℕ) → length ws ≡ n → AreWidthsInBounds b ws → w ≤ most_dots_on_line b n → AreWidthsInBounds b (ws ++ w ∷ [])
few_more b ws w n lines are few = record {
  most = λ v. elim (cases_lt v n) [
    | inl within ↦ omega (arith, get_or_append_left ws (w ∷ []) 0 v (omega (arith, within, lines)), are.most v)
    | inr past ↦ elim (cases_eq v n) [
      | inl same ↦ omega (arith, ap (λ (i : ℕ). slice_index (ws ++ w ∷ []) i) same, get_or_push ws w 0 n lines, few, ap (most_dots_on_line b) same)
      | inr other ↦ omega (arith, get_or_past (ws ++ w ∷ []) v 0 (omega (arith, past, other, length_push ws w, lines)))
    ]
  ];
}

lines_more : (u w : ℕ) (ws : List ℕ) → length (line_of_each_dot_by_widths u (ws ++ w ∷ [])) ≡ length (line_of_each_dot_by_widths u ws) + w
unfolding line_of_each_dot_by_widths
lines_more u w [] = omega (arith, length-append (replicate w u) [], length-replicate w u)
lines_more u w (x ∷ ws) = omega (
  arith,
  length-append (replicate x u) (line_of_each_dot_by_widths (u + 1) (ws ++ w ∷ [])),
  length-append (replicate x u) (line_of_each_dot_by_widths (u + 1) ws),
  lines_more (u + 1) w ws,
)

-- the first n lines are counted, and none of them has more dots than it can
pub record AreCounted (b : Beam) (bytes : List ℕ) (n count : ℕ) : Type 0 where
  pub few : AreWidthsInBounds b (first_words n bytes)
  pub counted : count ≡ length (line_of_each_dot_by_widths 0 (first_words n bytes))
  pub small : count ≤ most_dots_of_a_line * n

pub none_counted : (b : Beam) (bytes : List ℕ) → AreCounted b bytes 0 0
unfolding first_words line_of_each_dot_by_widths
none_counted b bytes = record { few = few_none b; counted = refl; small = omega arith }

pub one_counted : (b : Beam) (bytes : List ℕ) (n count w : ℕ) → AreCounted b bytes n count → w ≡ word_at bytes (2 * n) → w ≤ most_dots_on_line b n
    → AreCounted b bytes (n + 1) (count + w)
one_counted b bytes n count w are value few =
    let next : first_words (n + 1) bytes ≡ first_words n bytes ++ w ∷ [] =
    words_more n bytes ∙ ap (λ (x : ℕ). first_words n bytes ++ x ∷ []) (sym value) in
    record {
      few = subst (λ (l : List ℕ). AreWidthsInBounds b l) (sym next) (few_more b (first_words n bytes) w n (length-words_in n bytes) are.few few);
      counted = omega (arith, are.counted, ap (λ (l : List ℕ). length (line_of_each_dot_by_widths 0 l)) next, lines_more 0 w (first_words n bytes));
      small = omega (arith, are.small, few, most_at_most b n);
    }

-- a line with more dots than it can have
pub too_many : (b : Beam) (bytes : List ℕ) (n w : ℕ) → n < 1024 → w ≡ word_at bytes (2 * n) → most_dots_on_line b n < w → ¬ AreWidthsInBounds b (widths_from_saved_bytes bytes)
unfolding widths_from_saved_bytes
too_many b bytes n w within value many = λ (are : AreWidthsInBounds b (first_words 1024 bytes)).
    absurd (omega (arith, are.most n, word_in_at 1024 bytes n within, value, many))

pub all_counted : (b : Beam) (bytes : List ℕ) (n count : ℕ) → n ≡ 1024 → AreCounted b bytes n count
    → AreWidthsInBounds b (widths_from_saved_bytes bytes) × (count ≡ length (line_of_each_dot_by_widths 0 (widths_from_saved_bytes bytes)))
unfolding widths_from_saved_bytes
all_counted b bytes n count all are =
    (subst (λ (k : ℕ). AreWidthsInBounds b (first_words k bytes)) all are.few, are.counted ∙ ap (λ (k : ℕ). length (line_of_each_dot_by_widths 0 (first_words k bytes))) all)

-- ---- a canvas that is drawn up to the beam

away : (b : Beam) (line width : ℕ) → is_first_dot_of_frame b ≡ false → IsLineDrawnToBeam b 0 (count_unless_frame_start b line) (count_unless_frame_start b width) → IsLineDrawnToBeam b 0 line width
away b line width there is = subst (λ (v : Bool). IsLineDrawnToBeam b 0 (if v then 0 else line) (if v then 0 else width)) there is

few_drawn : (capacity : ℕ) (buffer ws : List ℕ) (b : Beam) (line : ℕ) → IsCanvas capacity buffer ws line → IsLineDrawnToBeam b 0 line (slice_index ws line)
    → AreWidthsInBounds b ws
few_drawn capacity buffer ws b line is drawn = record {
  most = λ v. elim (cases_lt v b.line) [
    | inl before ↦ omega (arith, is.narrow v, most_before b v before)
    | inr above ↦ elim (cases_eq v b.line) [
      | inl same ↦ elim (cases_eq line b.line) [
        | inl last ↦
            let e : v ≡ line = omega (arith, same, last) in
            omega (arith, ap (slice_index ws) e, drawn.few last, most_here b v same)
        | inr earlier ↦ omega (arith, is.later v (omega (arith, drawn.below, earlier, same)))
      ]
      | inr past ↦ omega (arith, is.later v (omega (arith, drawn.below, above, past)))
    ]
  ];
}

-- the bytes of a canvas that is drawn up to the beam are those that dots can have
pub canvas_saved : (capacity : ℕ) (buffer ws : List ℕ) (b : Beam) (line : ℕ) → IsCanvas capacity buffer ws line
    → IsLineDrawnToBeam b 0 (count_unless_frame_start b line) (count_unless_frame_start b (slice_index ws line)) → is_first_dot_of_frame b ≡ false → AreSavedDots b (saved_dots (stored_dots ws buffer))
canvas_saved capacity buffer ws b line is drawn there =
    subst (λ (l : List ℕ). AreSavedDots b l) (canvas_bytes ws buffer is.lines is.counted) (record {
      few = rw (widths_back ws buffer is.lines) (few_drawn capacity buffer ws b line is (away b line (slice_index ws line) there drawn));
      counted = rw (widths_back ws buffer is.lines, widths_past ws buffer is.lines) is.counted;
      first = λ here. absurd (cc);
    })

-- and so are those of no dots, wherever the beam is
pub none_saved : (b : Beam) → AreSavedDots b (saved_dots [])
none_saved b =
    let lines : length (zeros 1024) ≡ 1024 = length-zeros 1024 in
    let bytes : flat_map word_bytes (zeros 1024) ++ [] ≡ saved_dots [] = append-nil (flat_map word_bytes (zeros 1024)) ∙ no_bytes in
    let none : line_of_each_dot_by_widths 0 (zeros 1024) ≡ [] = no_lines 0 (zeros 1024) (zeros_at 1024) in
    subst (λ (l : List ℕ). AreSavedDots b l) bytes (record {
      few = rw (widths_back (zeros 1024) [] lines) (record { most = λ v. omega (arith, zeros_at 1024 v) });
      counted = rw (widths_back (zeros 1024) [] lines, widths_past (zeros 1024) [] lines, none) refl;
      first = λ here. ap length (widths_past (zeros 1024) [] lines);
    })

pub none_back : saved_dots_from (saved_dots []) ≡ []
unfolding saved_dots_from dots_of_bytes
none_back =
    let lines : length (zeros 1024) ≡ 1024 = length-zeros 1024 in
    let bytes : flat_map word_bytes (zeros 1024) ++ [] ≡ saved_dots [] = append-nil (flat_map word_bytes (zeros 1024)) ∙ no_bytes in
    ap saved_dots_from (sym bytes)
    ∙ ap (λ (l : List ℕ). stored_dots l (past_widths (flat_map word_bytes (zeros 1024) ++ []))) (widths_back (zeros 1024) [] lines)
    ∙ ap (λ (l : List ℕ). dots_of_bytes l (past_widths (flat_map word_bytes (zeros 1024) ++ []))) (no_lines 0 (zeros 1024) (zeros_at 1024))

pub none_len : length (saved_dots []) ≡ 2048
none_len = sym (ap length no_bytes) ∙ length-word_bytes (zeros 1024) ∙ ap (λ (n : ℕ). 2 * n) (length-zeros 1024)

-- ---- a canvas that is restored

-- the dots of lines up to one that none is after fit the lines
lines_fit : (u line : ℕ) (ws : List ℕ) → ((j : ℕ) → slice_index ws j ≤ most_dots_of_a_line) → ((j : ℕ) → line < j → slice_index ws j ≡ 0)
    → length (line_of_each_dot_by_widths u ws) ≤ most_dots_of_a_line * line + slice_index ws line
unfolding line_of_each_dot_by_widths
lines_fit u line [] narrow later = omega arith
lines_fit u zero (w ∷ ws) narrow later =
    let none = no_lines (u + 1) ws (λ j. later (suc j) (omega arith)) in
    omega (arith, length-append (replicate w u) (line_of_each_dot_by_widths (u + 1) ws), length-replicate w u, ap length none)
lines_fit u (suc line) (w ∷ ws) narrow later =
    let rest = lines_fit (u + 1) line ws (λ j. narrow (suc j)) (λ j l. later (suc j) (omega arith)) in
    omega (arith, length-append (replicate w u) (line_of_each_dot_by_widths (u + 1) ws), length-replicate w u, rest, narrow 0)

few_later : (b : Beam) (ws : List ℕ) (line : ℕ) → length ws ≡ 1024 → AreWidthsInBounds b ws → line ≡ min b.line 1023 → (j : ℕ) → line < j → slice_index ws j ≡ 0
few_later b ws line lines are last j past = elim (cases_lt j 1024) [
  | inl within ↦ omega (arith, are.most j, most_past b j (omega (arith, last, past, within)))
  | inr above ↦ get_or_past ws j 0 (omega (arith, lines, above))
]

pub canvas_restored : (capacity : ℕ) (bytes ws : List ℕ) (b : Beam) (line : ℕ) → 7077888 ≤ capacity → length ws ≡ 1024 → AreWidthsInBounds b ws
    → length bytes ≡ 3 * length (line_of_each_dot_by_widths 0 ws) → line ≡ min b.line 1023 → IsCanvas capacity bytes ws line
canvas_restored capacity bytes ws b line room lines are counted last =
    let narrow : (j : ℕ) → slice_index ws j ≤ most_dots_of_a_line = λ j. omega (arith, are.most j, most_at_most b j) in
    let later = few_later b ws line lines are last in
    record {
      room = room;
      lines = lines;
      counted = counted;
      inside = omega (arith, last);
      narrow = narrow;
      fits = lines_fit 0 line ws narrow later;
      later = later;
    }

pub drawn_restored : (ws : List ℕ) (b : Beam) (line : ℕ) → AreWidthsInBounds b ws → line ≡ min b.line 1023
    → IsLineDrawnToBeam b 0 (count_unless_frame_start b line) (count_unless_frame_start b (slice_index ws line))
drawn_restored ws b line are last = decided (is_first_dot_of_frame b) b line (slice_index ws line) (λ there. record {
  below = omega (arith, last);
  few = λ here. omega (arith, are.most line, most_here b line here);
})

-- the bytes of dots that are restored fit the memory of a canvas
pub restored_fits : (bytes ws : List ℕ) (b : Beam) → length ws ≡ 1024 → AreWidthsInBounds b ws → length bytes ≡ 3 * length (line_of_each_dot_by_widths 0 ws) → length bytes ≤ 7077888
restored_fits bytes ws b lines are counted =
    let is = canvas_restored 7077888 bytes ws b (min b.line 1023) (omega arith) lines are counted refl in
    omega (arith, counted, is.fits, is.narrow (min b.line 1023))
