use Rattle.std.proofs.Common.{◌≡◌, ℕ, ◌-◌, ◌*◌, ◌<◌, ◌≤◌, ◌++◌, List, length, take, drop, ap, ◌∙◌, arith}
use Rattle.std.proofs.lemmas.List.{length-take, length-drop}
use Rattle.vga_card.specs.Picture.{Dot, line_of_each_dot_by_widths}
use Rattle.vga_card.specs.Canvas.{CanvasState, dots_of_bytes}
use Rattle.vga_card.specs.Repeat.{last_dots_moved_to_line}
use Rattle.vga_card.proofs.CanvasLemmas.{line_shown, stored_line, canvas_more, roomier, bytes_fit, length-dots_from}
use Rattle.vga_card.proofs.RepeatLemmas.{last_dots}
use Rattle.vga_card.proofs.canvas.Canvas.repeat.Goals as goal

pub append_again-requires-clause-few : goal.append_again-requires-clause-few
append_again-requires-clause-few c =
    let a = c.self.inside in
    let bytes = take a.used a.buffer.items in
    let shown = ap (λ (s : CanvasState). length s.dots) c.self.view_is in
    omega (arith, c.requires.all, shown, length-dots_from (line_of_each_dot_by_widths 0 a.widths) bytes, c.self.invariant.1.counted, length-take a.used a.buffer.items)

pub append_again-requires-clause-room : goal.append_again-requires-clause-room
append_again-requires-clause-room c =
    let a = c.self.inside in
    let bytes = take a.used a.buffer.items in
    let n = c.args.count in
    let room = line_shown _ _ a.widths a.line c.args.line n c.self.view_is c.requires.lines c.requires.after c.requires.few c.requires.room in
    let fit = bytes_fit a.buffer.cap bytes a.widths a.line c.args.line n c.self.invariant.1 room in
    omega (arith, fit, length-take a.used a.buffer.items, c.self.invariant.0)

pub add-requires-clause-few : goal.add-requires-clause-few
add-requires-clause-few c = omega (arith, c.self.invariant.1.narrow c.args.line, c.requires.few)

pub invariant_of-self : goal.invariant_of-self
invariant_of-self c =
    let a = c.self.inside in
    let bytes = take a.used a.buffer.items in
    let n = c.args.count in
    let row = drop (a.used - 3 * n) bytes in
    let shown = ap (λ (s : CanvasState). length s.dots) c.self.view_is in
    let used : length bytes ≡ a.used = omega (arith, length-take a.used a.buffer.items, c.self.invariant.0) in
    let all : 3 * n ≤ a.used = omega (arith, c.requires.all, shown, length-dots_from (line_of_each_dot_by_widths 0 a.widths) bytes, c.self.invariant.1.counted, used) in
    let long : length row ≡ 3 * n = omega (arith, length-drop (a.used - 3 * n) bytes, used, all) in
    let within : c.args.line < length a.widths = omega (arith, c.requires.lines, c.self.invariant.1.lines) in
    let room = line_shown _ _ a.widths a.line c.args.line n c.self.view_is c.requires.lines c.requires.after c.requires.few c.requires.room in
    rw (c.append_again.ensures.copied, c.add.ensures) (
      c.append_again.ensures.len,
      roomier a.buffer.cap _ _ _ _ c.append_again.ensures.capacity
          (canvas_more a.buffer.cap bytes row a.widths a.line c.args.line n c.self.invariant.1 room long),
    )

pub returns-clause-dots : goal.returns-clause-dots
returns-clause-dots c =
    let a = c.self.inside in
    let bytes = take a.used a.buffer.items in
    let v = c.args.line in
    let n = c.args.count in
    let row = drop (a.used - 3 * n) bytes in
    let lines = line_of_each_dot_by_widths 0 a.widths in
    let shown = ap (λ (s : CanvasState). length s.dots) c.self.view_is in
    let used : a.used ≡ 3 * length lines = omega (arith, length-take a.used a.buffer.items, c.self.invariant.0, c.self.invariant.1.counted) in
    let all : n ≤ length lines = omega (arith, c.requires.all, shown, length-dots_from lines bytes) in
    let within : v < length a.widths = omega (arith, c.requires.lines, c.self.invariant.1.lines) in
    let after : a.line ≤ v = omega (arith, c.requires.after, ap (λ (s : CanvasState). s.line) c.self.view_is) in
    let later = λ (j : ℕ) (l : v < j). c.self.invariant.1.later j (omega arith) in
    rw (c.append_again.ensures.copied, c.add.ensures)
    (stored_line a.widths bytes row v n within later c.self.invariant.1.counted
    ∙ ap (λ (x : List Dot). dots_of_bytes lines bytes ++ x) (last_dots lines bytes v n a.used used all)
    ∙ ap (λ (s : CanvasState). s.dots ++ last_dots_moved_to_line v n s.dots) c.self.view_is)
