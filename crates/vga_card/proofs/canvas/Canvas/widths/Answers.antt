use Rattle.std.proofs.Common.{take, ap, ◌∙◌, sym, length}
use Rattle.vga_card.specs.Canvas.{CanvasState}
use Rattle.vga_card.specs.Lines.{line_widths}
use Rattle.vga_card.proofs.WidthLemmas.{widths_are}
use Rattle.vga_card.proofs.canvas.Canvas.widths.Goals as goal

pub returns-clause-value : goal.returns-clause-value
returns-clause-value c =
    let a = c.self.inside in
    c.as_slice.ensures.value ∙ sym (widths_are a.widths (take a.used a.buffer.items) c.self.invariant.1.lines)
    ∙ ap (λ (s : CanvasState). line_widths s.dots) c.self.view_is

pub returns-clause-count : goal.returns-clause-count
returns-clause-count c = ap length c.as_slice.ensures.value ∙ c.self.invariant.1.lines
