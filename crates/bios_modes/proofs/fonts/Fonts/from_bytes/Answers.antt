use Rattle.std.proofs.Common.{rules}
use Rattle.bios_modes.specs.Fonts.{fonts_of}
use Rattle.bios_modes.proofs.fonts.Fonts.from_bytes.Goals as goal

pub returns-then-file-ne-FILE_LEN-clause-ok : goal.returns-then-file-ne-FILE_LEN-clause-ok
unfolding fonts_of
returns-then-file-ne-FILE_LEN-clause-ok c = search rules

pub returns-then-file-ne-FILE_LEN-clause-err : goal.returns-then-file-ne-FILE_LEN-clause-err
unfolding fonts_of
returns-then-file-ne-FILE_LEN-clause-err c = search rules

pub returns-in_err-of_bytes-clause-err : goal.returns-in_err-of_bytes-clause-err
unfolding fonts_of
returns-in_err-of_bytes-clause-err c = search rules

pub returns-in_err-of_bytes-2-clause-err : goal.returns-in_err-of_bytes-2-clause-err
unfolding fonts_of
returns-in_err-of_bytes-2-clause-err c = search rules

pub returns-in_err-of_bytes-3-clause-err : goal.returns-in_err-of_bytes-3-clause-err
unfolding fonts_of
returns-in_err-of_bytes-3-clause-err c = search rules

pub returns-clause-ok : goal.returns-clause-ok
unfolding fonts_of
returns-clause-ok c = search rules
