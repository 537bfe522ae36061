-- A plane is reached that is in the map mask and that the address bits let through.
use Rattle.std.proofs.Common.{◌≡◌, ◌∙◌, ap, ◌%◌, ◌==◌, ◌&&◌, ◌||◌, if◌then◌else◌}
use Rattle.vga_bits.specs.Bits.{is_set}
use Rattle.vga_bits.proofs.BitLemmas.{is_set_and}
use Rattle.vga_bits.proofs.FourLemmas.{by_plane}
use Rattle.vga_host.proofs.host.memory.access.MemoryAccess.reached.Goals as goal

pub returns : goal.returns
returns c = λ h p is less.
    let a = c.args.self in
    let w = c.args.in_window in
    let addressed : is_set c.addressed.result p ≡ (if a.chain_four then p == w % 4 else a.odd_even_off || (p % 2 == w % 2)) =
    by_plane (λ p. is_set c.addressed.result p ≡ (if a.chain_four then p == w % 4 else a.odd_even_off || (p % 2 == w % 2)))
    c.addressed.ensures.plane0 c.addressed.ensures.plane1 c.addressed.ensures.plane2 c.addressed.ensures.plane3 p less in
    is_set_and a.map_mask c.addressed.result p ∙ ap (λ b. is_set a.map_mask p && b) addressed
    ∙ (λ j. is.map_mask p j && (if is.chain_four j then p == w % 4 else is.odd_even_off j || (p % 2 == w % 2)))
