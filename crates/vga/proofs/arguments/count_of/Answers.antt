use Rattle.std.proofs.Common.{◌∙◌, sym}
use Rattle.vga.proofs.CountLemmas.{signed_count, unsigned_count}
use Rattle.vga.proofs.arguments.count_of.Goals as goal

-- a plus stands first
pub returns-then-begins_with_plus : goal.returns-then-begins_with_plus
returns-then-begins_with_plus c = sym (signed_count c.args.word.now (sym c.if-begins_with_plus.ensures))

-- no plus does
pub returns-else-begins_with_plus : goal.returns-else-begins_with_plus
returns-else-begins_with_plus c = c.ok.ensures.value ∙ unsigned_count c.args.word.now _ (sym c.if-begins_with_plus.ensures) c.parse.ensures.value.0
