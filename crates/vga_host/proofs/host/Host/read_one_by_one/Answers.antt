use Rattle.std.proofs.Common.{rules, arith, ◌≡◌, ◌∙◌, ◌+◌, length, sym, subst}
use Rattle.vga_host.specs.Host.{HostState}
use Rattle.vga_host.specs.Memory.Runs.{byte_read_or_ff}
use Rattle.vga_host.specs.Memory.Access.{IsAccess}
use Rattle.vga_host.proofs.RunLemmas.{with_latches, access_read, latches_read, byte_over, next_get, byte_set}
use Rattle.vga_host.proofs.host.Host.read_one_by_one.Goals as goal

pub loop-i-preserved : goal.loop-i-preserved
loop-i-preserved c =
    let h : HostState = c.args.self.now in
    let s : HostState = c.loop-i.self in
    let i = c.loop-i.i in
    let misc = c.args.misc in
    let first = c.args.first in
    let kept = c.loop-i.invariant in
    let now = c.load_latches_if_decoded.ensures in (
      subst (IsAccess c.args.access) (sym now) (access_read c.args.access s misc (first + i) kept.0),
      subst (λ (x : HostState). with_latches h x.latches ≡ x) (sym now) (latches_read h s misc (first + i) kept.1),
      next_get misc first (length c.args.bytes.now) i s _ _ c.loop-i-test.true now kept.2,
      search rules,
      λ k few. byte_set c.loop-i.bytes i k c.byte_at_address_or_ff.result (λ j. byte_read_or_ff h misc (first + j)) (omega (arith, c.loop-i-test.true, kept.3)) few kept.4
          (c.byte_at_address_or_ff.ensures ∙ byte_over h s misc (first + i) kept.1),
    )
