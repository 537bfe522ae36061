use Rattle.std.proofs.Common.{rules, ◌∙◌}
use Rattle.vga_host.proofs.host.Host.restore.Goals as goal

pub invariant_of-self : goal.invariant_of-self
invariant_of-self c =
    let is = c.self.invariant in (
      c.restore.ensures.masks ∙ is.0,
      c.restore-2.ensures.masks ∙ is.1,
      search rules,
      search rules,
      c.with_graphics-self-inside.ensures _ _ (c.with_sequencer.ensures _ _ is.4),
    )
