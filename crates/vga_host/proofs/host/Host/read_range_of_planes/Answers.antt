use Rattle.std.proofs.Common.{rules, arith, ◌≡◌, ◌<◌, ◌∙◌, ◌+◌, ◌-◌, ◌*◌, ◌/◌, ◌%◌, ℕ, List, ap, subst}
use Rattle.std.proofs.lemmas.Nat.{mod_below}
use Rattle.vga_bits.specs.Four.{Four}
use Rattle.vga_planes.specs.Planes.{byte_at}
use Rattle.vga_host.specs.Memory.Runs.{byte_read_or_ff}
use Rattle.vga_host.proofs.RunLemmas.{byte_there, byte_set}
use Rattle.vga_host.proofs.host.Host.read_range_of_planes.Goals as goal

pub loop-i-preserved : goal.loop-i-preserved
loop-i-preserved c =
    let h = c.args.self.now in
    let i = c.loop-i.i in
    let w = (c.args.first - c.args.access.start + i) % 65536 in
    let k = c.args.base + w % c.args.span in
    let o = w / c.args.unit * c.args.unit in
    let kept = c.loop-i.invariant in
    let below : w % c.args.span < c.args.span = mod_below w c.args.span c.requires.span in
    let low : k < 4 = omega (arith, below, c.requires.below) in
    let byte : c.byte.result ≡ byte_at h.memory k o = c.byte.ensures ∙ ap (λ (m : Four (List ℕ)). byte_at m k o) c.planes.ensures in
    let small : byte_at h.memory k o < 256 = subst (λ v. v < 256) byte c.byte.type_inv in
    let read = byte ∙ byte_there h c.args.misc (c.args.first + i) w k o (c.requires.within.written i c.loop-i-test.true)
    (c.requires.within.in_window i c.loop-i-test.true) c.requires.byte (c.requires.picked w) low (c.requires.offset w) small in (
      search rules,
      λ n few. byte_set c.loop-i.bytes i n c.byte.result (λ n. byte_read_or_ff h c.args.misc (c.args.first + n)) (omega (arith, c.loop-i-test.true, kept.0)) few
          kept.1 read,
    )
