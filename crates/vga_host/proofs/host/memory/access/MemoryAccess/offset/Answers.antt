-- The address bits that pick planes are those that the registers say.
use Rattle.std.proofs.Common.{◌*◌, ◌/◌, sym, ap, ◌∙◌, if◌then◌else◌}
use Rattle.vga_host.specs.Graphics.{is_chain_odd_even}
use Rattle.vga_host.proofs.host.memory.access.MemoryAccess.offset.Goals as goal

pub returns-then-self : goal.returns-then-self
returns-then-self c = λ h is.
    let w = c.args.in_window in
    sym (ap (λ b. if b then w / 4 * 4 else if is_chain_odd_even h then w / 2 * 2 else w) (sym is.chain_four ∙ c.if-self.true))

pub returns-then-self-2 : goal.returns-then-self-2
returns-then-self-2 c = λ h is.
    let w = c.args.in_window in
    sym (ap (λ b. if b then w / 4 * 4 else if is_chain_odd_even h then w / 2 * 2 else w) (sym is.chain_four ∙ c.if-self.false)
    ∙ ap (λ b. if b then w / 2 * 2 else w) (sym is.chain_odd_even ∙ c.if-self-2.true))

pub returns-else-self-2 : goal.returns-else-self-2
returns-else-self-2 c = λ h is.
    let w = c.args.in_window in
    sym (ap (λ b. if b then w / 4 * 4 else if is_chain_odd_even h then w / 2 * 2 else w) (sym is.chain_four ∙ c.if-self.false)
    ∙ ap (λ b. if b then w / 2 * 2 else w) (sym is.chain_odd_even ∙ c.if-self-2.false))
