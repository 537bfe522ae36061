use Rattle.std.proofs.Common.{rules, sym, ap, subst, ◌∙◌, ◌≤◌, ◌*◌, ◌+◌, ◌/◌, IsTrue}
use Rattle.bios_modes.specs.Kinds.{is_mode_of_256_colours}
use Rattle.bios_screen.proofs.Shows.Reading.{pixel_numbers, pixels_laid_out, pixel_screen_is}
use Rattle.bios_screen.specs.Raster.{concatenated_lists}
use Rattle.bios_screen.specs.Shown.{pixels_in}
use Rattle.bios_screen.proofs.screen.Screen.of_pixels.Goals as goal

pub page_pixels-count-requires-clause-columns : goal.page_pixels-count-requires-clause-columns
page_pixels-count-requires-clause-columns c = (pixel_numbers c.args.row.now c.args.card.now c.args.bda.now c.requires.row c.requires.pixels
    c.requires.shown).columns_few

pub page_pixels-count-requires-clause-height : goal.page_pixels-count-requires-clause-height
page_pixels-count-requires-clause-height c = (pixel_numbers c.args.row.now c.args.card.now c.args.bda.now c.requires.row c.requires.pixels
    c.requires.shown).height_few

pub read_pixels-requires-clause-planar : goal.read_pixels-requires-clause-planar
read_pixels-requires-clause-planar c =
    let t = pixel_numbers c.args.row.now c.args.card.now c.args.bda.now c.requires.row c.requires.pixels c.requires.shown in
    subst (λ n. n * c.args.row.now.pages ≤ 65536) (sym c.size.ensures) t.all

pub read_pixels-requires-clause-page : goal.read_pixels-requires-clause-page
read_pixels-requires-clause-page c =
    let t = pixel_numbers c.args.row.now c.args.card.now c.args.bda.now c.requires.row c.requires.pixels c.requires.shown in
    subst (λ n. (c.page_pixels-count.result + 7) / 8 ≤ n) (sym c.size.ensures) (subst (λ n. (n + 7) / 8 ≤ c.args.bda.now.size) (sym c.page_pixels-count.ensures)
    t.page)

pub read_pixels-requires-clause-packed : goal.read_pixels-requires-clause-packed
read_pixels-requires-clause-packed c = λ e.
    let t = pixel_numbers c.args.row.now c.args.card.now c.args.bda.now c.requires.row c.requires.pixels c.requires.shown in
    subst (λ n. c.page_pixels-count.result ≤ n) (sym c.size.ensures) (subst (λ n. n ≤ c.args.bda.now.size) (sym c.page_pixels-count.ensures)
    (t.packed (subst (λ m. IsTrue (is_mode_of_256_colours m)) c.mode-2.ensures e)))

pub invariant_of-result : goal.invariant_of-result
invariant_of-result c =
    let l = c.layout_of.ensures in
    let v = c.in_ok-read_pixels.field-0 in
    let count = c.page_pixels-count.ensures ∙ sym (ap (λ x. 8 * x.columns * (x.height * x.rows)) l) in
    pixels_laid_out c.args.bda.now c.planes.result.now _ _ _ _ c.size.result c.page_pixels-count.result c.args.row.now.pages v.items c.requires.pixels
    c.mode.ensures count (sym (ap (λ x. x.pages) l)) v.ok.0
    (c.in_ok-read_pixels.ensures.ok ∙ ap (λ m. concatenated_lists (λ p. pixels_in m c.planes.result.now (c.size.result * p) c.page_pixels-count.result) c.args.row.now.pages)
    (c.mode-2.ensures ∙ sym c.mode.ensures))

pub returns-clause-ok : goal.returns-clause-ok
returns-clause-ok c =
    let d = c.args.bda.now in
    let f = c.planes.result.now in
    let pages = c.args.row.now.pages in
    let pixels =
    c.in_ok-read_pixels.ensures.ok
    ∙ ap (λ m. concatenated_lists (λ p. pixels_in m f (c.size.result * p) c.page_pixels-count.result) pages) c.mode-2.ensures
    ∙ ap (λ g. concatenated_lists (λ p. pixels_in d.mode g (c.size.result * p) c.page_pixels-count.result) pages) c.planes.ensures
    ∙ ap (λ n. concatenated_lists (λ p. pixels_in d.mode c.args.card.now.host.memory (n * p) c.page_pixels-count.result) pages) c.size.ensures
    ∙ ap (λ n. concatenated_lists (λ p. pixels_in d.mode c.args.card.now.host.memory (d.size * p) n) pages) c.page_pixels-count.ensures in
    pixel_screen_is c.args.row.now c.args.card.now d c.new.result.items c.in_ok-read_pixels.field-0.items _ c.requires.pixels pixels (search rules)
