use Rattle.vga_bits.proofs.SavedLemmas.{put_behind}
use Rattle.vga_run.proofs.machine.saved.put_header.Goals as goal

pub returns-clause-put : goal.returns-clause-put
returns-clause-put c = put_behind c.put_bytes-at.ensures.put (put_behind c.put_word-at.ensures.put c.put_word.ensures.put)
