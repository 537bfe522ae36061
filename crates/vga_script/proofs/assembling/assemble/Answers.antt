use Rattle.vga_script.proofs.TextLemmas.{assembles}
use Rattle.vga_script.proofs.assembling.assemble.Goals as goal

pub returns-clause-runs : goal.returns-clause-runs
returns-clause-runs c = assembles c.args.text.now c.assemble_script.result c.assemble_script.ensures.fault
