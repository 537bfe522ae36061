use Rattle.std.proofs.Common.{◌∙◌, ◌+◌, ◌-◌, ◌*◌, ◌<◌, ap, refl, subst}
use Rattle.std.specs.Prelude.{slice_index}
use Rattle.vga_c.proofs.RowLemmas.{every_below}
use Rattle.vga_c.proofs.AlikeLemmas.{row_before, same_form_word}
use Rattle.vga_c.proofs.forms.write_row.Goals as goal

-- the words are those of the row before, and so are the dots
pub returns-then-are_bytes_known_same-clause-words : goal.returns-then-are_bytes_known_same-clause-words
returns-then-are_bytes_known_same-clause-words c = λ x few.
    let f = c.args.form in
    let y = c.args.y in
    let w = c.args.width in
    let within = every_below f.across w x c.requires.form.some_across (subst (λ n. x < n) c.requires.count few) in
    c.repeat_row_of_words.ensures.words x few
    ∙ ap (λ n. slice_index c.args.pixels.now (n + x)) (row_before c.args.pitch y c.if-y-gt0.true)
    ∙ c.requires.before c.if-y-gt0.true x few
    ∙ same_form_word f w c.args.bytes.now x y (y - 1) (w * (f.down * y)) (w * (f.down * (y - 1))) refl refl within
    (c.are_bytes_known_same.ensures c.if-are_bytes_known_same.true)
