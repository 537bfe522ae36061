-- How many dots of a regular frame are left.
use Rattle.std.proofs.Common.{◌≡◌, ℕ, ◌+◌, ◌-◌, ◌*◌, ◌/◌, ◌%◌, ◌<◌, sym, ap, ◌∙◌, arith, List}
use Rattle.std.proofs.lemmas.Nat.{mul-le, div_below, mod_below}
use Rattle.vga_crtc.specs.Beam.{characters, lines}
use Rattle.vga_crtc.specs.Raster.{dots_to_line_end, dots_to_frame_end, dots_per_line, beam_at_dot_of_frame}
use Rattle.vga_crtc.proofs.Frames.{place_of}

-- the dots before a place and those from it on, where a lines, e characters and z dots follow it
all_dots : (a e z v c k : ℕ) → v * ((c + 1 + e) * (k + 1 + z)) + (c * (k + 1 + z) + k) + (a * ((c + 1 + e) * (k + 1 + z)) + (e * (k + 1 + z) + z + 1))
    ≡ (v + 1 + a) * ((c + 1 + e) * (k + 1 + z))
all_dots a e z v c k = omega arith

-- the same, of l lines of n characters of w dots
left_at : (w n l v c k : ℕ) → k < w → c < n → v < l → v * (n * w) + (c * w + k) + ((l - (v + 1)) * (n * w) + ((n - (c + 1)) * w + (w - (k + 1)) + 1))
    ≡ l * (n * w)
left_at w n l v c k in_character in_line in_frame =
    let a = l - (v + 1) in
    let e = n - (c + 1) in
    let z = w - (k + 1) in
    let all_lines : v + 1 + a ≡ l = omega arith in
    let all_characters : c + 1 + e ≡ n = omega arith in
    let all_dots_of_one : k + 1 + z ≡ w = omega arith in
    ap (λ i. v * (n * i) + (c * i + k) + (a * (n * i) + (e * i + z + 1))) (sym all_dots_of_one)
    ∙ ap (λ i. v * (i * (k + 1 + z)) + (c * (k + 1 + z) + k) + (a * (i * (k + 1 + z)) + (e * (k + 1 + z) + z + 1))) (sym all_characters)
    ∙ all_dots a e z v c k
    ∙ ap (λ i. (v + 1 + a) * (i * (k + 1 + z))) all_characters ∙ ap (λ i. (v + 1 + a) * (n * i)) all_dots_of_one ∙ ap (λ i. i * (n * w)) all_lines

-- from dot n on the dots to the next frame are all but n
pub frame_left : (cw : ℕ) (r : List ℕ) (start f n : ℕ) → 0 < cw → n < lines r * dots_per_line cw r →
    n + dots_to_frame_end cw r (beam_at_dot_of_frame cw r start f n) ≡ lines r * dots_per_line cw r
unfolding dots_to_frame_end dots_to_line_end
frame_left cw r start f n some in_frame =
    let line = dots_per_line cw r in
    let wide : 0 < line = omega (arith, mul-le 1 1 (characters r) cw (omega arith) some) in
    let v = n / line in
    let c = n % line / cw in
    let k = n % line % cw in
    let in_line : c < characters r = div_below (n % line) cw (characters r) some (mod_below n line wide) in
    ap (λ m. m + ((lines r - (v + 1)) * line + ((characters r - (c + 1)) * cw + (cw - (k + 1)) + 1))) (sym (place_of n line cw))
    ∙ left_at cw (characters r) (lines r) v c k (mod_below (n % line) cw some) in_line (div_below n line (lines r) wide in_frame)
