use Rattle.std.proofs.Common.{rules}
use Rattle.vga_c.proofs.frames.write_bytes.Goals as goal

pub returns-in-Picture : goal.returns-in-Picture
returns-in-Picture c = search rules

pub returns-in-Ragged : goal.returns-in-Ragged
returns-in-Ragged c = search rules
