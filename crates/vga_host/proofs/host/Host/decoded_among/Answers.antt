use Rattle.std.proofs.Common.{◌≡◌, ◌∙◌, ◌+◌, ◌-◌, sym, true, false}
use Rattle.std.specs.Prelude.{min, max}
use Rattle.vga_host.specs.Memory.Address.{is_memory_enabled}
use Rattle.vga_host.proofs.RunLemmas.{none_enabled, among_window}
use Rattle.vga_host.proofs.host.Host.decoded_among.Goals as goal

pub returns-then-not-is_memory_enabled-clause-value : goal.returns-then-not-is_memory_enabled-clause-value
returns-then-not-is_memory_enabled-clause-value c =
    let off : is_memory_enabled c.args.misc ≡ false = sym c.is_memory_enabled.ensures ∙ c.if-not-is_memory_enabled.true in
    sym (none_enabled c.args.self.now c.args.misc c.args.first c.args.n off)

pub returns-clause-value : goal.returns-clause-value
returns-clause-value c =
    let h = c.args.self.now in
    let on : is_memory_enabled c.args.misc ≡ true = sym c.is_memory_enabled.ensures ∙ c.if-not-is_memory_enabled.false in
    let access = c.access-access.result in
    let at = c.access-access.ensures.access in
    c.saturating_sub.ensures ∙ (λ j. c.min-end.ensures j - c.max-start.ensures j)
    ∙ (λ j. min (c.args.first + c.args.n) (at.start j + at.len j) - max c.args.first (at.start j))
    ∙ sym (among_window h c.args.misc c.args.first c.args.n on)
