use Rattle.std.proofs.Common.{sym, ap, subst, ◌∙◌, ◌<◌, ◌*◌, ◌+◌}
use Rattle.bios_screen.specs.Parts.{cell_at}
use Rattle.bios_screen.proofs.Shows.Reading.{cell_inside, cell_there}
use Rattle.bios_screen.proofs.screen.Screen.cell.Goals as goal

pub returns-then-column-layout : goal.returns-then-column-layout
returns-then-column-layout c =
    let l = c.self.inside.layout in
    let text = sym c.is_text.ensures ∙ c.if-not-is_text.false in
    let inside = cell_inside l.distance l.columns l.rows c.args.page l.pages c.args.row c.args.column c.self.inside.cells.len c.if-page-layout.true
    c.if-row-layout.true c.if-column-layout.true (c.self.invariant.page text) (c.self.invariant.cells text) in
    cell_there c.self.inside.mode (record { columns = l.columns; rows = l.rows; height = l.height; distance = l.distance; pages = l.pages })
    c.self.inside.cells.items c.self.inside.pixels.items c.args.page c.args.row c.args.column _ text c.if-page-layout.true c.if-row-layout.true
    c.if-column-layout.true (subst (λ n. l.distance * c.args.page + (l.columns * c.args.row + c.args.column) < n) c.self.inside.cells.ok.0 inside)
    c.index.ensures
    ∙ ap (λ s. cell_at s c.args.page c.args.row c.args.column) c.self.view_is
