use Rattle.std.proofs.Common.{◌++◌, ◌∙◌, ℕ, List, ap, subst}
use Rattle.std.specs.List.{flat_map}
use Rattle.vga_bits.specs.Saved.{word_bytes, IsPut}
use Rattle.vga_bits.proofs.SavedLemmas.{put_behind}
use Rattle.vga_card.specs.Canvas.{CanvasState}
use Rattle.vga_card.proofs.SavedLemmas.{dots_bytes}
use Rattle.vga_card.proofs.canvas.Canvas.save.Goals as goal

pub returns-clause-put : goal.returns-clause-put
returns-clause-put c =
    let a = c.self.inside in
    subst (λ (l : List ℕ). IsPut c.args.out.now c.put_bytes.new.out c.args.at c.put_bytes.result l)
    (ap (λ (l : List ℕ). flat_map word_bytes l ++ c.bytes.result.now) c.as_slice.ensures.value
    ∙ ap (λ (l : List ℕ). flat_map word_bytes a.widths ++ l) c.bytes.ensures.value
    ∙ dots_bytes a.widths _ c.args.self.now.dots c.self.invariant.1.lines (ap (λ (s : CanvasState). s.dots) c.self.view_is))
    (put_behind c.put_widths-at.ensures.put c.put_bytes.ensures.put)
