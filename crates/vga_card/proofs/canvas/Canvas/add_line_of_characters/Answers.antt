use Rattle.std.proofs.Common.{◌≡◌, ℕ, ◌*◌, ◌<◌, ◌≤◌, ◌++◌, List, length, take, replicate, sym, ap, ◌∙◌, arith}
use Rattle.std.proofs.lemmas.List.{length-take}
use Rattle.vga_crtc.specs.declared.beam.Beam.{Beam}
use Rattle.vga_host.specs.Sequencer.{character_width}
use Rattle.vga_card.specs.Picture.{Dot}
use Rattle.vga_card.specs.Canvas.{CanvasState, dots_of_bytes}
use Rattle.vga_card.proofs.CanvasLemmas.{line_shown, stored_line, canvas_more, roomier, bytes_fit}
use Rattle.vga_card.proofs.FrameLemmas.{wide}
use Rattle.vga_card.proofs.RowLemmas.{appended_line}
use Rattle.vga_card.proofs.canvas.Canvas.add_line_of_characters.Goals as goal

pub append_line-requires-clause-room : goal.append_line-requires-clause-room
append_line-requires-clause-room g c =
    let a = c.self.inside in
    let bytes = take a.used a.buffer.items in
    let v = c.beam-line.result.line in
    let n = c.args.count * g.row.CW in
    let here = ap (λ (b : Beam). b.line) c.beam-line.ensures.value in
    let room = line_shown _ _ a.widths a.line v n c.self.view_is (omega (arith, here, c.requires.lines)) (omega (arith, here, c.requires.after))
    c.requires.few (λ same. c.requires.room (sym here ∙ same)) in
    omega (arith, bytes_fit a.buffer.cap bytes a.widths a.line v n c.self.invariant.1 room, length-take a.used a.buffer.items)

pub invariant_of-self : goal.invariant_of-self
invariant_of-self g c =
    let a = c.self.inside in
    let bytes = take a.used a.buffer.items in
    let drawn = c.append_line.ensures.line in
    let v = c.beam-line.result.line in
    let n = c.args.count * g.row.CW in
    let row = take (3 * n) drawn.row in
    let here = ap (λ (b : Beam). b.line) c.beam-line.ensures.value in
    let count = ap (λ m. 3 * (m * g.row.CW)) c.requires.count in
    let long : length row ≡ 3 * n = omega (arith, length-take (3 * n) drawn.row, drawn.long, count) in
    let within : v < length a.widths = omega (arith, here) in
    let room = line_shown _ _ a.widths a.line v n c.self.view_is (omega (arith, here, c.requires.lines)) (omega (arith, here, c.requires.after))
    c.requires.few (λ same. c.requires.room (sym here ∙ same)) in
    let whole = drawn.whole ∙ ap (λ m. bytes ++ take m drawn.row) (sym count) in
    rw (whole, c.add.ensures) (
      c.append_line.ensures.len,
      roomier a.buffer.cap _ _ _ _ c.append_line.ensures.capacity
          (canvas_more a.buffer.cap bytes row a.widths a.line v n c.self.invariant.1 room long),
    )

pub returns-clause-dots : goal.returns-clause-dots
returns-clause-dots g c =
    let a = c.self.inside in
    let bytes = take a.used a.buffer.items in
    let drawn = c.append_line.ensures.line in
    let v = c.beam-line.result.line in
    let n = c.args.count * g.row.CW in
    let row = take (3 * n) drawn.row in
    let here = ap (λ (b : Beam). b.line) c.beam-line.ensures.value in
    let count = ap (λ m. 3 * (m * g.row.CW)) c.requires.count in
    let within : v < length a.widths = omega (arith, here) in
    let after : a.line ≤ v = omega (arith, here, ap (λ (s : CanvasState). s.line) c.self.view_is) in
    let later = λ (j : ℕ) (l : v < j). c.self.invariant.1.later j (omega arith) in
    let whole = drawn.whole ∙ ap (λ m. bytes ++ take m drawn.row) (sym count) in
    let old = c.args.self.now.dots in
    let width : 0 < character_width c.args.display.now.host = wide _ in
    let some : 0 < g.row.CW = omega (arith, width, c.requires.width) in
    rw (whole, c.add.ensures)
    (stored_line a.widths bytes row v n within later c.self.invariant.1.counted
    ∙ ap (λ (s : CanvasState). s.dots ++ dots_of_bytes (replicate n v) row) c.self.view_is
    ∙ ap (λ m. old ++ dots_of_bytes (replicate n v) (take m drawn.row)) count
    ∙ ap (λ (x : List Dot). old ++ x) (appended_line c.args.display.now g.row.CW n v drawn.row drawn.blank c.requires.width some c.requires.shown
    (ap (λ m. m * g.row.CW) c.requires.count) here drawn.drawn drawn.long))
