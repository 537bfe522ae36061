-- What is drawn before the beam, as the beam moves.
use Rattle.std.proofs.Common.{◌≡◌, ℕ, ◌<◌, ⊎_elim, refl, sym, ap, ◌∙◌, arith, Bool, true, false, List, Result, Ok, Err}
use Rattle.std.specs.Prelude.{if◌then◌else◌, OnOk, IfErr}
use Rattle.std.proofs.lemmas.Bool.Decides.{nat_tests}
use Rattle.vga_bits.specs.declared.refusal.Refusal.{Refusal}
use Rattle.vga_bits.specs.declared.refusal.Refusal.TheVariants.{NotInProfile}
use Rattle.vga_crtc.specs.declared.beam.Beam.{Beam}
use Rattle.vga_crtc.specs.Crtc.{CrtcState}
use Rattle.vga_crtc.specs.Beam.{is_first_dot_of_frame, with_frame_start_taken, dot, crtc_with_start_taken, after_dot}
use Rattle.vga_crtc.specs.Ports.{after_out}
use Rattle.vga_crtc.proofs.Ports.{out_beam}
use Rattle.vga_crtc.specs.Raster.{AreAtSamePlace, IsFrameStart, IsNextDot, IsNextCharacter, IsNextLine, IsNextPlace}
use Rattle.vga_card.specs.Valid.{count_unless_frame_start, IsLineDrawnToBeam}

-- what the CRT controller promises: taking the start of a frame does not move the beam, and where one dot leads
abbrev pub StartStays : Type 0
StartStays = (r : List ℕ) (b : Beam) → AreAtSamePlace b (with_frame_start_taken r b)

abbrev pub DotMoves : Type 0
DotMoves = (cw : ℕ) (r : List ℕ) (b : Beam) → IsNextPlace cw r b (dot cw r b)

pub drawn_started : StartStays → (crtc : CrtcState) (more line width : ℕ) → IsLineDrawnToBeam crtc.beam more line width →
    IsLineDrawnToBeam (crtc_with_start_taken crtc).beam more line width
unfolding crtc_with_start_taken
drawn_started stays crtc more line width is =
    let place = stays crtc.registers crtc.beam in
    record {
      below = omega (arith, is.below, place.line);
      few = λ e. omega (arith, is.few (e ∙ place.line), place.character, place.dot);
    }

drawn_unstarted : StartStays → (crtc : CrtcState) (more line width : ℕ) → IsLineDrawnToBeam (crtc_with_start_taken crtc).beam more line width →
    IsLineDrawnToBeam crtc.beam more line width
unfolding crtc_with_start_taken
drawn_unstarted stays crtc more line width is =
    let place = stays crtc.registers crtc.beam in
    record {
      below = omega (arith, is.below, place.line);
      few = λ e. omega (arith, is.few (e ∙ sym place.line), place.character, place.dot);
    }

-- at the first dot of a frame nothing is drawn
is_first : (b : Beam) → IsFrameStart b → is_first_dot_of_frame b ≡ true
is_first b start = let line = start.line in let character = start.character in let dot = start.dot in grind (arith, nat_tests)

pub decided : (v : Bool) (b : Beam) (line width : ℕ) → (v ≡ false → IsLineDrawnToBeam b 0 line width) → IsLineDrawnToBeam b 0 (if v then 0 else line) (if v then 0 else width)
decided true b line width h = record { below = omega arith; few = λ e. omega arith }
decided false b line width h = h refl

pub elsewhere : (b : Beam) → is_first_dot_of_frame b ≡ false → ¬ IsFrameStart b
elsewhere b away start = let here = is_first b start in absurd (cc)

-- one dot more is drawn, and the beam moves past it
drawn_moves : (cw : ℕ) (r : List ℕ) (b m : Beam) (line width : ℕ) → b.dot < 9 → IsNextPlace cw r b m → IsLineDrawnToBeam b 1 line width → is_first_dot_of_frame m ≡ false →
    IsLineDrawnToBeam m 0 line width
drawn_moves cw r b m line width within next is away =
    ⊎_elim
    (λ (a : IsNextDot cw b m). record { below = omega (arith, a.line, is.below); few = λ e. omega (arith, is.few (e ∙ a.line), a.character, a.dot) })
    (⊎_elim
    (λ (a : IsNextCharacter r b m). record { below = omega (arith, a.line, is.below); few = λ e. omega (arith, is.few (e ∙ a.line), a.character, a.dot) })
    (⊎_elim
    (λ (a : IsNextLine r b m). record { below = omega (arith, a.line, is.below); few = λ e. absurd (omega (arith, e, a.line, is.below)) })
    (λ (start : IsFrameStart m). absurd (elsewhere m away start))))
    next

pub card_moves : StartStays → DotMoves → (crtc : CrtcState) (cw line width : ℕ) → crtc.beam.dot < 9 → IsLineDrawnToBeam (crtc_with_start_taken crtc).beam 1 line width →
    IsLineDrawnToBeam (after_dot crtc cw).beam 0 (count_unless_frame_start (after_dot crtc cw).beam line) (count_unless_frame_start (after_dot crtc cw).beam width)
unfolding after_dot
card_moves stays moves crtc cw line width within is =
    let r = crtc.registers in
    let m : Beam = dot cw r crtc.beam in
    decided (is_first_dot_of_frame m) m line width (drawn_moves cw r crtc.beam m line width within (moves cw r crtc.beam) (drawn_unstarted stays crtc 1 line width is))

-- ---- a write to a port of the CRT controller does not move the beam

pub beam_kept : (crtc new : CrtcState) (at_data : Bool) (v : ℕ) (answer : Result (Unit {0}) Refusal) → OnOk answer (new ≡ after_out crtc at_data v) →
    IfErr answer (λ e. (e ≡ NotInProfile) × (new ≡ crtc)) → new.beam ≡ crtc.beam
beam_kept crtc new at_data v (Ok u) done refused = ap (λ (c : CrtcState). c.beam) done ∙ out_beam crtc at_data v
beam_kept crtc new at_data v (Err e) done refused = ap (λ (c : CrtcState). c.beam) refused.1
