use Rattle.std.proofs.Common.{subst, sym}
use Rattle.vga_script.specs.Progress.{StandsInOrOutsideRepeat}
use Rattle.vga_script.proofs.StepsLemmas.{items_stand}
use Rattle.vga_script.proofs.steps.Steps.of_script.Goals as goal

-- the items stand after the header
pub invariant_of-result : goal.invariant_of-result
invariant_of-result c =
    let body = c.split_at-2.result.0.now in
    subst (StandsInOrOutsideRepeat body) (sym c.split_at.ensures.back) (items_stand c.args.bytes.now body c.split_at-2.ensures.front c.requires)
