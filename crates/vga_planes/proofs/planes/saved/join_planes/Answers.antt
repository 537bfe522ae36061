use Rattle.std.proofs.Common.{◌≡◌, ◌∙◌, ℕ, List, length, arith, subst}
use Rattle.vga_bits.specs.Four.{Four}
use Rattle.vga_planes.proofs.SavedLemmas.{AreJoined, none_joined, one_joined, all_joined}
use Rattle.vga_planes.proofs.planes.saved.join_planes.Goals as goal

pub loop-i-init : goal.loop-i-init
loop-i-init c = none_joined _ _

pub loop-i-preserved : goal.loop-i-preserved
loop-i-preserved c = one_joined _ _ c.loop-i.i c.word.result (omega arith) c.loop-i.invariant (c.word.ensures.bytes ∙ c.new.ensures)

pub returns : goal.returns
returns c =
    let planes : Four (List ℕ) = record {
      plane0 = c.args.plane0.now;
      plane1 = c.args.plane1.now;
      plane2 = c.args.plane2.now;
      plane3 = c.args.plane3.now;
    } in
    let done : c.loop-i.i ≡ length c.loop-i.words = omega arith in
    all_joined c.loop-i.words planes (omega arith) (omega arith) (omega arith) (omega arith)
    (subst (λ (n : ℕ). AreJoined c.loop-i.words planes n) done c.loop-i.invariant)
