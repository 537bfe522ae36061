-- No cycle draws a dot, or takes one away, or moves the beam.
use Rattle.std.proofs.Common.{◌≡◌, ◌∙◌, ℕ, Result, Ok, Err, refl}
use Rattle.vga_bits.specs.declared.refusal.Refusal.{Refusal}
use Rattle.vga_card.specs.Card.{CardState}
use Rattle.vga_card.specs.Adapter.{CardStateWithoutBeamAndDots}
use Rattle.vga_card.specs.Cycles.{card_after_write, card_after_read}

-- nothing is drawn, and the beam stays
pub record IsStill (old new : CardState) : Type 0 where
  pub drawn : new.drawn ≡ old.drawn
  pub beam : new.crtc.beam ≡ old.crtc.beam

pub still : {old new : CardState} → new.drawn ≡ old.drawn → new.crtc.beam ≡ old.crtc.beam → IsStill old new
still e f = record { drawn = e; beam = f }

pub still_after : {old mid new : CardState} → IsStill old mid → IsStill mid new → IsStill old new
still_after a b = still (b.drawn ∙ a.drawn) (b.beam ∙ a.beam)

pub written_still : (c : CardState) (r : Result CardStateWithoutBeamAndDots Refusal) → IsStill c (card_after_write c r).0
written_still c (Ok a) = still refl refl
written_still c (Err e) = still refl refl

pub answered_still : (c : CardState) (r : Result (CardStateWithoutBeamAndDots × ℕ) Refusal) → IsStill c (card_after_read c r).0
answered_still c (Ok (a, v)) = still refl refl
answered_still c (Err e) = still refl refl

pub written_drawn : (c : CardState) (r : Result CardStateWithoutBeamAndDots Refusal) → (card_after_write c r).0.drawn ≡ c.drawn
written_drawn c r = (written_still c r).drawn

pub answered_drawn : (c : CardState) (r : Result (CardStateWithoutBeamAndDots × ℕ) Refusal) → (card_after_read c r).0.drawn ≡ c.drawn
answered_drawn c r = (answered_still c r).drawn
