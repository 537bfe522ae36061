use Rattle.std.proofs.Common.{sym, ap, subst, ◌∙◌, ◌<◌, ◌*◌, ◌+◌}
use Rattle.bios_screen.specs.Parts.{pixel_at}
use Rattle.bios_screen.proofs.Shows.Reading.{pixel_there, pixel_inside}
use Rattle.bios_screen.proofs.screen.Screen.pixel.Goals as goal

pub index-requires : goal.index-requires
index-requires c =
    let l = c.self.inside.layout in
    let w = 8 * l.columns in
    let v = l.height * l.rows in
    subst (λ n. w * v * c.args.page + (w * c.args.y + c.args.x) < n) (sym (c.self.invariant.pixels (sym c.is_text.ensures ∙ c.if-is_text.false)))
    (pixel_inside w v c.args.page l.pages c.args.x c.args.y c.if-page-layout.true c.if-x-width.true c.if-y-height.true)

pub returns-then-y-height : goal.returns-then-y-height
returns-then-y-height c =
    let l = c.self.inside.layout in
    let w = 8 * l.columns in
    let v = l.height * l.rows in
    let pixels = sym c.is_text.ensures ∙ c.if-is_text.false in
    let inside = subst (λ n. w * v * c.args.page + (w * c.args.y + c.args.x) < n) (sym (c.self.invariant.pixels pixels)
    ∙ c.self.inside.pixels.ok.0) (pixel_inside w v c.args.page l.pages c.args.x c.args.y c.if-page-layout.true c.if-x-width.true c.if-y-height.true) in
    pixel_there c.self.inside.mode (record { columns = l.columns; rows = l.rows; height = l.height; distance = l.distance; pages = l.pages })
    c.self.inside.cells.items c.self.inside.pixels.items c.args.page c.args.x c.args.y _ pixels c.if-page-layout.true c.if-x-width.true c.if-y-height.true
    inside c.index.ensures
    ∙ ap (λ s. pixel_at s c.args.page c.args.x c.args.y) c.self.view_is
