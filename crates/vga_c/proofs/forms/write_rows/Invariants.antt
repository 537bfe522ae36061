use Rattle.vga_c.specs.Forms.{AreRowsOfWords, div_ceil, form_word}
use Rattle.vga_c.proofs.forms.write_rows.Given as goal

-- the rows so far are written
abbrev pub invariant-loop-y : goal.invariant-loop-y
invariant-loop-y l = AreRowsOfWords (div_ceil l.width l.form.across) l.y l.pitch (form_word l.form l.width l.bytes) l.initial.pixels l.pixels
