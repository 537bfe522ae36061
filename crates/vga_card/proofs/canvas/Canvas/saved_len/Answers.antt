use Rattle.std.proofs.Common.{ap, length, take, arith}
use Rattle.std.proofs.lemmas.List.{length-take}
use Rattle.vga_card.specs.Canvas.{CanvasState}
use Rattle.vga_card.proofs.ShapeLemmas.{stored_length}
use Rattle.vga_card.proofs.SavedLemmas.{canvas_small}
use Rattle.vga_card.proofs.canvas.Canvas.saved_len.Goals as goal

pub returns-clause-value : goal.returns-clause-value
returns-clause-value c =
    let a = c.self.inside in
    let bytes = take a.used a.buffer.items in
    let long = stored_length a.widths bytes c.self.invariant.1.counted in
    omega (arith, long, length-take a.used a.buffer.items, ap (λ (s : CanvasState). length s.dots) c.self.view_is, c.self.invariant.0)

pub returns-clause-few : goal.returns-clause-few
returns-clause-few c =
    let a = c.self.inside in
    let bytes = take a.used a.buffer.items in
    let small = canvas_small a.buffer.cap bytes a.widths a.line c.self.invariant.1 in
    let long = stored_length a.widths bytes c.self.invariant.1.counted in
    omega (arith, small, long, length-take a.used a.buffer.items, c.self.invariant.0)
