-- What every plan keeps of an adapter, whatever it reads: its bounds, what is drawn, and the beam; and
-- that none distinguishes a restored adapter from the original.
use Rattle.std.proofs.Common.{◌≡◌, ◌∙◌, ℕ, ap, refl}
use Rattle.vga_card.specs.Bounds.{IsCard}
use Rattle.vga_card.specs.Bus.{Place, AtPort, AtAddress, card_meaning, card_write, card_read}
use Rattle.vga_card.specs.Card.{CardState}
use Rattle.vga_card.specs.Adapter.{without_beam_and_dots}
use Rattle.vga_card.specs.Cycles.{WriteResult, ReadResult, out_byte, inp_byte, put_byte, get_byte}
use Rattle.vga_card.specs.FreshCanvas.{without_dots_of_ended_frame, outcome_without_dots_of_ended_frame}
use Rattle.vga_card.proofs.BoundLemmas.{out_bounds, inp_bounds, put_bounds, get_bounds}
use Rattle.vga_card.proofs.DrawnLemmas.{IsStill, still, still_after, written_still, answered_still}
use Rattle.vga_card.proofs.FreshCanvasLemmas.{cannot_be_told}
use Rattle.bios_services.specs.Plan.{Plan, Done, Write, Read, read_byte_or_ff, run}
use Rattle.bios_services.proofs.PlanRuns.{run_keeps}

write_bounds : (c : CardState) (place : Place) (v : ℕ) → IsCard c → IsCard (card_write c place v).0
write_bounds c (AtPort port) v z = out_bounds c port v z
write_bounds c (AtAddress address) v z = put_bounds c address v z

read_bounds : (c : CardState) (place : Place) → IsCard c → IsCard (card_read c place).0
read_bounds c (AtPort port) z = inp_bounds c port z
read_bounds c (AtAddress address) z = get_bounds c address z

pub plan_bounds : {A : Type 0} (p : Plan A) (c : CardState) → IsCard c → IsCard (run card_meaning p c).0
plan_bounds p c z = run_keeps card_meaning IsCard write_bounds read_bounds p c z

write_still : (c : CardState) (place : Place) (v : ℕ) → IsStill c (card_write c place v).0
write_still c (AtPort port) v = written_still c (out_byte c.crtc.beam (without_beam_and_dots c) port v)
write_still c (AtAddress address) v = written_still c (put_byte (without_beam_and_dots c) address v)

read_still : (c : CardState) (place : Place) → IsStill c (card_read c place).0
read_still c (AtPort port) = answered_still c (inp_byte c.crtc.beam (without_beam_and_dots c) port)
read_still c (AtAddress address) = answered_still c (get_byte (without_beam_and_dots c) address)

plan_still : {A : Type 0} (p : Plan A) (c : CardState) → IsStill c (run card_meaning p c).0
plan_still p c = run_keeps card_meaning (IsStill c) (λ s place v k. still_after k (write_still s place v)) (λ s place k. still_after k (read_still s place)) p c
    (still refl refl)

pub plan_drawn : {A : Type 0} (p : Plan A) (c : CardState) → (run card_meaning p c).0.drawn ≡ c.drawn
plan_drawn p c = (plan_still p c).drawn

pub plan_beam : {A : Type 0} (p : Plan A) (c : CardState) → (run card_meaning p c).0.crtc.beam ≡ c.crtc.beam
plan_beam p c = (plan_still p c).beam

pub write_fresh : (c : CardState) (place : Place) (v : ℕ) → card_write (without_dots_of_ended_frame c) place v ≡ outcome_without_dots_of_ended_frame (card_write c place v)
write_fresh c (AtPort port) v = cannot_be_told.out c port v
write_fresh c (AtAddress address) v = cannot_be_told.put c address v

pub read_fresh : (c : CardState) (place : Place) → card_read (without_dots_of_ended_frame c) place ≡ outcome_without_dots_of_ended_frame (card_read c place)
read_fresh c (AtPort port) = cannot_be_told.inp c port
read_fresh c (AtAddress address) = cannot_be_told.get c address

pub plan_fresh : {A : Type 0} (p : Plan A) (c : CardState) → run card_meaning p (without_dots_of_ended_frame c) ≡ outcome_without_dots_of_ended_frame (run card_meaning p c)
plan_fresh (Done a) c = refl
plan_fresh (Write place v rest) c =
    ap (λ (w : WriteResult). run card_meaning rest w.0) (write_fresh c place v) ∙ plan_fresh rest (card_write c place v).0
plan_fresh (Read place rest) c =
    let r = card_read c place in
    ap (λ (a : ReadResult). run card_meaning (rest (read_byte_or_ff a.1)) a.0) (read_fresh c place) ∙ plan_fresh (rest (read_byte_or_ff r.1)) r.0
