use Rattle.std.proofs.Common.{◌≡◌, ◌∙◌, sym, ap, arith}
use Rattle.std.specs.Prelude.{slice_index}
use Rattle.std.specs.Int.{bit_at}
use Rattle.vga_bits.specs.Bits.{is_set, field}
use Rattle.vga_host.proofs.StoresByteLemmas.{plain_by}
use Rattle.vga_host.proofs.host.memory.access.stores_byte.Goals as goal

pub returns-then-changes-eq0 : goal.returns-then-changes-eq0
returns-then-changes-eq0 c =
    let none = c.if-changes-eq0.true in
    let mode : c.field-mode.result ≡ 0 = omega (arith, none) in
    let rotate : c.field-rotate.result ≡ 0 = omega (arith, none) in
    let function : c.field-function.result ≡ 0 = omega (arith, none) in
    let own : c.read-own.result ≡ 0 = omega (arith, none) in
    λ e h is. plain_by h c.read-own.result c.read-mask.result (ap (λ g. field (slice_index g 5) 1 0) is ∙ sym c.field-mode.ensures ∙ mode)
    (ap (λ g. field (slice_index g 3) 2 0) is ∙ sym c.field-rotate.ensures ∙ rotate)
    (ap (λ g. field (slice_index g 3) 4 3) is ∙ sym c.field-function.ensures ∙ function) own
    (λ p. ap (λ r. is_set r p) c.read-own.ensures ∙ ap (λ g. is_set (slice_index g 1) p) (sym is)) e
    (λ i. ap (λ r. bit_at r i) c.read-mask.ensures ∙ ap (λ g. bit_at (slice_index g 8) i) (sym is))
