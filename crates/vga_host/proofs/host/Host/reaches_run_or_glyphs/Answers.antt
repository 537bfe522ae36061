-- The plane of glyphs is not reached, where the code says so.
use Rattle.std.proofs.Common.{◌∙◌, sym, arith}
use Rattle.vga_host.proofs.host.Host.reaches_run_or_glyphs.Goals as goal

pub returns-else-is_set-clause-beside : goal.returns-else-is_set-clause-beside
returns-else-is_set-clause-beside c = λ clear text. sym (c.reached.ensures c.args.self.now 2 c.requires (omega arith)) ∙ sym c.is_set.ensures ∙ clear
