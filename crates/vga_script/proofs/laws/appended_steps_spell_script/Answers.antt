use Rattle.vga_script.proofs.ScriptBytesLemmas.{script_written, room_stays, script_spells}
use Rattle.vga_script.proofs.laws.appended_steps_spell_script.Goals as goal

pub returns-clause-written : goal.returns-clause-written
returns-clause-written c = script_written

pub returns-clause-room : goal.returns-clause-room
returns-clause-room c = room_stays

pub returns-clause-spells : goal.returns-clause-spells
returns-clause-spells c = script_spells
