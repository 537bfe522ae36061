use Rattle.vga_script.proofs.FaultLemmas.{decodes}
use Rattle.vga_script.proofs.script.decode.Goals as goal

pub returns-clause-runs : goal.returns-clause-runs
returns-clause-runs c = decodes c.args.bytes.now c.decode_bytes.result c.decode_bytes.ensures.fault
