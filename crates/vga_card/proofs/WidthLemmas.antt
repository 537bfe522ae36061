-- How many dots each line has, counted from the dots, is what a buffer keeps.
use Rattle.std.proofs.Common.{◌≡◌, ◌≢◌, ℕ, zero, suc, ◌+◌, ◌<◌, refl, sym, ap, ◌∙◌, arith, Bool, true, false, cond}
use Rattle.std.proofs.Common.{List, [], ◌∷◌, ◌++◌, length}
use Rattle.std.proofs.Common.{replicate}
use Rattle.std.specs.Prelude.{◌==◌}
use Rattle.std.proofs.lemmas.Bool.Decides.{nat_tests}
use Rattle.std.proofs.lemmas.List.Sums.{count_by-le-length, sum_by-append}
use Rattle.std.proofs.lemmas.List.{length-map}
use Rattle.std.specs.Prelude.{slice_index, ◌≤◌}
use Rattle.std.proofs.Common.{subst}
use Rattle.vga_bits.specs.Bytes.{zeros}
use Rattle.vga_card.specs.Picture.{Dot, line_of_dot, line_of_each_dot_by_widths, lines_of_dots}
use Rattle.vga_card.specs.Canvas.{stored_dots}
use Rattle.vga_card.specs.Lines.{dot_count_of_line, dot_counts_of_lines, line_widths}
use Rattle.vga_card.proofs.CanvasLemmas.{lines-dots_from}

count-append : (xs ys : List ℕ) (v : ℕ) → dot_count_of_line (xs ++ ys) v ≡ dot_count_of_line xs v + dot_count_of_line ys v
count-append xs ys v = sum_by-append (λ (x : ℕ). cond (x == v) 1 0) xs ys

count_same : (w v : ℕ) → dot_count_of_line (replicate w v) v ≡ w
count_same zero v = refl
count_same (suc w) v =
    let e : (v == v) ≡ true = grind (arith, nat_tests) in
    let one : 0 + 1 + w ≡ suc w = omega arith in
    count-append (v ∷ []) (replicate w v) v ∙ ap {B = ℕ} (λ (b : Bool). 0 + cond b 1 0 + dot_count_of_line (replicate w v) v) e
    ∙ ap {B = ℕ} (λ (n : ℕ). 0 + 1 + n) (count_same w v) ∙ one

count_other : (w u v : ℕ) → u ≢ v → dot_count_of_line (replicate w u) v ≡ 0
count_other zero u v apart = refl
count_other (suc w) u v apart =
    let e : (u == v) ≡ false = grind (arith, nat_tests) in
    let none : 0 + 0 + 0 ≡ 0 = omega arith in
    count-append (u ∷ []) (replicate w u) v ∙ ap {B = ℕ} (λ (b : Bool). 0 + cond b 1 0 + dot_count_of_line (replicate w u) v) e
    ∙ ap {B = ℕ} (λ (n : ℕ). 0 + 0 + n) (count_other w u v apart) ∙ none

count_none : (u v : ℕ) (ws : List ℕ) → v < u → dot_count_of_line (line_of_each_dot_by_widths u ws) v ≡ 0
unfolding line_of_each_dot_by_widths
count_none u v [] below = refl
count_none u v (w ∷ ws) below =
    let apart : u ≢ v = omega arith in
    omega (arith, count-append (replicate w u) (line_of_each_dot_by_widths (u + 1) ws) v, count_other w u v apart, count_none (u + 1) v ws (omega arith))

counts_skip : (w u v n : ℕ) (lines : List ℕ) → u < v → dot_counts_of_lines (replicate w u ++ lines) v n ≡ dot_counts_of_lines lines v n
unfolding dot_counts_of_lines
counts_skip w u v zero lines below = refl
counts_skip w u v (suc n) lines below =
    let apart : u ≢ v = omega arith in
    let here : dot_count_of_line (replicate w u ++ lines) v ≡ dot_count_of_line lines v = omega (arith, count-append (replicate w u) lines v, count_other w u v apart) in
    ap (λ (k : ℕ). k ∷ dot_counts_of_lines (replicate w u ++ lines) (v + 1) n) here
    ∙ ap (λ (l : List ℕ). dot_count_of_line lines v ∷ l) (counts_skip w u (v + 1) n lines (omega arith))

counts_are : (u : ℕ) (ws : List ℕ) → dot_counts_of_lines (line_of_each_dot_by_widths u ws) u (length ws) ≡ ws
unfolding dot_counts_of_lines line_of_each_dot_by_widths
counts_are u [] = refl
counts_are u (w ∷ ws) =
    let here : dot_count_of_line (replicate w u ++ line_of_each_dot_by_widths (u + 1) ws) u ≡ w =
    omega (arith, count-append (replicate w u) (line_of_each_dot_by_widths (u + 1) ws) u, count_same w u, count_none (u + 1) u ws (omega arith)) in
    ap (λ (k : ℕ). k ∷ dot_counts_of_lines (replicate w u ++ line_of_each_dot_by_widths (u + 1) ws) (u + 1) (length ws)) here
    ∙ ap (λ (l : List ℕ). w ∷ l) (counts_skip w u (u + 1) (length ws) (line_of_each_dot_by_widths (u + 1) ws) (omega arith) ∙ counts_are (u + 1) ws)

pub counts_none : (v n : ℕ) → dot_counts_of_lines [] v n ≡ zeros n
unfolding dot_counts_of_lines zeros
counts_none v zero = refl
counts_none v (suc n) = ap (λ (l : List ℕ). 0 ∷ l) (counts_none (v + 1) n)

-- the widths of a buffer are those of its dots
pub widths_are : (ws buffer : List ℕ) → length ws ≡ 1024 → line_widths (stored_dots ws buffer) ≡ ws
unfolding line_widths
widths_are ws buffer lines =
    ap (λ (l : List ℕ). dot_counts_of_lines l 0 1024) (lines-dots_from (line_of_each_dot_by_widths 0 ws) buffer) ∙ ap (dot_counts_of_lines (line_of_each_dot_by_widths 0 ws) 0) (sym lines) ∙ counts_are 0 ws

-- no line has more dots than there are
counts_few : (lines : List ℕ) (v n j : ℕ) → slice_index (dot_counts_of_lines lines v n) j ≤ length lines
unfolding dot_counts_of_lines
counts_few lines v zero j = omega arith
counts_few lines v (suc n) zero = count_by-le-length (λ x. x == v) lines
counts_few lines v (suc n) (suc j) = counts_few lines (v + 1) n j

pub width_few : (dots : List Dot) (j : ℕ) → slice_index (line_widths dots) j ≤ length dots
unfolding line_widths
width_few dots j = subst (λ (n : ℕ). slice_index (dot_counts_of_lines (lines_of_dots dots) 0 1024) j ≤ n) (length-map dots line_of_dot) (counts_few (lines_of_dots dots) 0 1024 j)
