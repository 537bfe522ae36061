-- A turn keeps what the registers say, and leaves what the other turns begin with.
use Rattle.std.proofs.Common.{◌∙◌, ap, ◌+◌}
use Rattle.vga_host.specs.Memory.Runs.{after_put_of_plane_bytes}
use Rattle.vga_host.proofs.RunLemmas.{turn_kept, even_in_turn, odd_in_turn}
use Rattle.vga_host.proofs.FillLemmas.{fill_leaves}
use Rattle.vga_host.proofs.host.Host.put_in_turn.Goals as goal
use Rattle.vga_host.proofs.host.Host.put_in_turn.Goals.{then-i-eq0, else-i-eq0}

pub loop-i-preserved : goal.loop-i-preserved
loop-i-preserved c =
    elim c.if-i-eq0.branch [
      | then-i-eq0 w ↦ turn_kept c.access-access.result c.written-bytes.result c.written-others.result c.args.misc c.args.first c.args.even c.args.odd
          c.args.n
          c.loop-i.i c.args.even c.loop-i.self c.if-i-eq0.self _ c.loop-i-test.true (even_in_turn c.args.even c.args.odd c.loop-i.i w.if-i-eq0.true) (w.self-is
          ∙ w.store_bytes_if_decoded.ensures ∙ ap (after_put_of_plane_bytes c.loop-i.self c.args.misc (c.args.first + c.loop-i.i)) c.loop-i.invariant.1) c.loop-i.invariant
      | else-i-eq0 w ↦ turn_kept c.access-access.result c.written-bytes.result c.written-others.result c.args.misc c.args.first c.args.even c.args.odd
          c.args.n
          c.loop-i.i c.args.odd c.loop-i.self c.if-i-eq0.self _ c.loop-i-test.true (odd_in_turn c.args.even c.args.odd c.loop-i.i w.if-i-eq0.false) (w.self-is
          ∙ w.store_bytes_if_decoded-else-i-eq0.ensures ∙ ap (after_put_of_plane_bytes c.loop-i.self c.args.misc (c.args.first + c.loop-i.i)) c.loop-i.invariant.2) c.loop-i.invariant
    ]

pub loop-i-init : goal.loop-i-init
loop-i-init c =
    fill_leaves c.access-access.result c.written-bytes.result c.written-others.result c.args.misc c.args.first c.args.even c.args.odd c.args.n
    c.fill_words-done.result c.args.self.now _ c.access-access.ensures.access c.written-bytes.ensures c.written-others.ensures c.fill_words-done.ensures.few
    c.fill_words-done.ensures.kept c.fill_words-done.ensures.put
