use Rattle.std.proofs.Common.{◌+◌, ◌*◌, ◌<◌, subst, sym}
use Rattle.vga_c.specs.Forms.{div_ceil}
use Rattle.vga_c.proofs.RowLemmas.{dot_within}
use Rattle.vga_c.proofs.updates.has_row.Goals as goal

-- the three bytes of each dot are there
pub has_row_of_words-requires-clause-dots : goal.has_row_of_words-requires-clause-dots
has_row_of_words-requires-clause-dots c x within =
    let f = c.args.form in
    let fits = c.requires.fits in
    let column : x < div_ceil c.args.width f.across = subst (λ n. x < n) c.div_ceil-count.ensures within in
    subst (λ n. 3 * (c.args.width * (f.down * c.args.y) + f.across * x) + 2 < n) (sym fits.dots)
    (dot_within c.args.width c.args.height f fits.is_form x c.args.y column c.requires.row)
