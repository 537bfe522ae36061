use Rattle.vga_host.proofs.WordLemmas.{moves_rest}
use Rattle.vga_host.proofs.RunLemmas.{move_kept}
use Rattle.vga_host.proofs.host.Host.move_bytes.Goals as goal

pub loop-i-preserved : goal.loop-i-preserved
loop-i-preserved c =
    move_kept c.access-access.result c.args.misc c.args.from c.args.to c.args.n c.loop-i.i c.loop-i.self c.move_by_write_mode.new.self _ c.loop-i-test.true
    c.move_by_write_mode.ensures c.loop-i.invariant

pub loop-i-init : goal.loop-i-init
loop-i-init c = (
  c.move_words-done.ensures.access,
  moves_rest c.args.misc c.args.from c.args.to c.args.n c.move_words-done.result c.args.self.now _ c.move_words-done.ensures.few
      c.move_words-done.ensures.moved,
)
