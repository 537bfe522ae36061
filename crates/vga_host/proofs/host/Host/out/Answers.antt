-- A write of a register's data renews its own group's part of what is kept of memory cycles.
use Rattle.std.proofs.Common.{rules, ◌∙◌}
use Rattle.vga_host.proofs.host.Host.out.Goals as goal

pub invariant_of-self-in-965 : goal.invariant_of-self-in-965
invariant_of-self-in-965 c =
    let is = c.self.invariant in (
      c.write.ensures.masks ∙ is.0,
      is.1,
      search rules,
      search rules,
      c.with_sequencer-self-inside.ensures _ _ is.4,
    )

pub invariant_of-self-in_default : goal.invariant_of-self-in_default
invariant_of-self-in_default c =
    let is = c.self.invariant in (
      is.0,
      c.write-in_default.ensures.masks ∙ is.1,
      search rules,
      search rules,
      c.with_graphics-self-inside.ensures _ _ is.4,
    )
