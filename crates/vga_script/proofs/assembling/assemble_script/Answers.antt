use Rattle.std.proofs.Common.{rules, sym, subst}
use Rattle.vga_script.specs.Script.{IsScript}
use Rattle.vga_script.specs.Text.{SpellsText}
use Rattle.vga_script.proofs.ScriptLemmas.{text_is_script, text_reads, text_fits}
use Rattle.vga_script.proofs.assembling.assemble_script.Goals as goal

-- the bytes spell the script
pub of_bytes-requires-clause-spelled : goal.of_bytes-requires-clause-spelled
of_bytes-requires-clause-spelled c = text_is_script c.args.text.now c.in_ok-bytes.bytes.items c.in_ok-bytes.ensures.found

-- and are read as it
pub returns-clause-found : goal.returns-clause-found
returns-clause-found c = (
  search rules,
  subst (SpellsText c.args.text.now) (sym c.of_bytes.ensures)
      (text_reads c.args.text.now c.in_ok-bytes.bytes.items c.in_ok-bytes.ensures.found),
)

pub returns-clause-script : goal.returns-clause-script
returns-clause-script c = subst IsScript (sym c.of_bytes.ensures) (text_fits c.args.text.now c.in_ok-bytes.bytes.items c.in_ok-bytes.ensures.found
    (search rules))
