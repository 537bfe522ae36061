use Rattle.std.proofs.Common.{◌≡◌, ◌+◌, ◌*◌, length, take, sym, subst}
use Rattle.std.specs.Prelude.{slice_index}
use Rattle.vga_card.specs.Canvas.{CanvasState, stored_dots}
use Rattle.vga_card.specs.Valid.{IsCanvasDrawnToBeam}
use Rattle.vga_card.specs.Saved.{saved_dots, saved_dots_from, AreSavedDots}
use Rattle.vga_card.proofs.SavedLemmas.{canvas_saved, canvas_back, canvas_len}
use Rattle.vga_card.proofs.canvas.Canvas.restore_gives_what_was_saved.Goals as goal

pub returns-clause-saved : goal.returns-clause-saved
returns-clause-saved c = λ there.
    let a = c.self.inside in
    let shown = c.self.view_is in
    let state : CanvasState = record {
      dots = stored_dots a.widths (take a.used a.buffer.items);
      line = a.line;
      width = slice_index a.widths a.line;
    } in
    let drawn : IsCanvasDrawnToBeam c.args.beam state = subst (λ (s : CanvasState). IsCanvasDrawnToBeam c.args.beam s) (sym shown) c.requires in
    subst (λ (s : CanvasState). AreSavedDots c.args.beam (saved_dots s.dots)) shown
    (canvas_saved a.buffer.cap (take a.used a.buffer.items) a.widths c.args.beam a.line c.self.invariant.1 drawn there)

pub returns-clause-back : goal.returns-clause-back
returns-clause-back c =
    let a = c.self.inside in
    let is = c.self.invariant.1 in
    subst (λ (s : CanvasState). saved_dots_from (saved_dots s.dots) ≡ s.dots) c.self.view_is
    (canvas_back a.widths (take a.used a.buffer.items) is.lines is.counted)

pub returns-clause-len : goal.returns-clause-len
returns-clause-len c =
    let a = c.self.inside in
    let is = c.self.invariant.1 in
    subst (λ (s : CanvasState). length (saved_dots s.dots) ≡ 2048 + 3 * length s.dots) c.self.view_is
    (canvas_len a.widths (take a.used a.buffer.items) is.lines is.counted)
