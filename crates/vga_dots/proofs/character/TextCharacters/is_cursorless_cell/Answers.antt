use Rattle.std.proofs.Common.{arith, sym, ◌∙◌}
use Rattle.std.proofs.lemmas.Bool.{not-true}
use Rattle.vga_dots.proofs.TextLineLemmas.{cursor_at}
use Rattle.vga_dots.proofs.character.TextCharacters.is_cursorless_cell.Goals as goal

pub returns-then-is_same : goal.returns-then-is_same
returns-then-is_same c = λ away.
    let d = c.args.display.now in
    record {
      cell = sym c.cell.ensures ∙ c.is_same.ensures c.if-is_same.true;
      plain = cursor_at d.host d.crtc d.attr c.args.self.now.line c.requires.line c.args.cell c.args.counter _ (omega arith)
          c.has_cursor_at.ensures ∙ not-true _ away;
    }
