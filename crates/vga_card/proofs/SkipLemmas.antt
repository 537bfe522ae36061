-- Frames that are skipped.
use Rattle.std.proofs.Common.{◌≡◌, ℕ, ◌-◌, ◌<◌, sym, ap, ◌∙◌, arith, Bool, true, List, [], if◌then◌else◌}
use Rattle.vga_crtc.specs.Crtc.{CrtcState}
use Rattle.vga_crtc.specs.Beam.{is_first_dot_of_frame, after_dots}
use Rattle.vga_card.specs.Picture.{Dot}
use Rattle.vga_card.specs.Card.{CardState}
use Rattle.vga_card.specs.Dots.{character_width, dots}
use Rattle.vga_card.specs.Frames.{card_dots_to_frame_end, frame, FrameTakesFewestDots}
use Rattle.vga_card.specs.FreshCanvas.{without_dots_of_ended_frame, DotsOfEndedFrameMakeNoDifference}
use Rattle.vga_card.proofs.DotLemmas.{dots_split}
use Rattle.vga_card.proofs.FrameLemmas.{dots_change_only_beam_and_picture}

-- a frame leads to a first dot, so a fresh canvas is empty after it
pub skipped : (c : CardState) (moved : CrtcState) → FrameTakesFewestDots c → moved ≡ after_dots c.crtc (character_width c) (card_dots_to_frame_end c) →
    record c { crtc = moved; drawn = [] } ≡ without_dots_of_ended_frame (frame c)
skipped c moved ends is =
    let n = card_dots_to_frame_end c in
    let there : is_first_dot_of_frame (after_dots c.crtc (character_width c) n).beam ≡ true =
    ap (λ (x : CardState). is_first_dot_of_frame x.crtc.beam) (sym (dots_change_only_beam_and_picture n c)) ∙ ap is_first_dot_of_frame ends.next in
    ap (λ (x : CrtcState). record c { crtc = x; drawn = [] }) is
    ∙ sym (ap (λ (v : Bool). let fresh : List Dot = (if v then [] else (frame c).drawn) in record c { crtc = after_dots c.crtc (character_width c) n; drawn = fresh }) there)
    ∙ sym (ap without_dots_of_ended_frame (dots_change_only_beam_and_picture n c))

-- more dots than the frame's are those after the frame, which do not show whether it was drawn
pub past_frame : DotsOfEndedFrameMakeNoDifference → (c new : CardState) (left count : ℕ) → count ≡ card_dots_to_frame_end c → count < left → new ≡ without_dots_of_ended_frame (frame c) →
    dots (left - count) new ≡ dots left c
past_frame told c new left count is past skip =
    ap (dots (left - count)) (skip) ∙ told.dots (left - count) (frame c) (omega arith)
    ∙ sym (dots_split (card_dots_to_frame_end c) (left - count) c)
    ∙ ap (λ n. dots n c) (omega (arith, is, past))
