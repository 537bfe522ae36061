use Rattle.std.proofs.Common.{arith, ◌≤◌, ◌⊎◌, ◌+◌, inl, inr}
use Rattle.vga_crtc.specs.Beam.{lines}
use Rattle.vga_crtc.specs.Fields.{vertical_display_end}
use Rattle.vga_crtc.proofs.Changes.{display_begins_in_frame, display_begins_with_frame}
use Rattle.vga_crtc.proofs.beam.Beam.next_display_line.Goals as goal
use Rattle.vga_crtc.proofs.beam.Beam.next_display_line.Goals.{else-self-vertical_display_end-via-then-self-vertical_display_end+else-next-lines, else-self-vertical_display_end-via-else-self-vertical_display_end}

pub returns-then-next-lines-clause-change : goal.returns-then-next-lines-clause-change
returns-then-next-lines-clause-change c =
    let r = c.args.registers.now in
    let b = c.args.self in
    display_begins_in_frame c.args.cw r b (omega (arith, c.requires.width)) c.requires.hidden
    (omega (arith, c.vertical_display_end.ensures.value, c.if-self-vertical_display_end.true)) (omega (arith, c.lines.ensures.value, c.if-next-lines.true))

pub returns-else-self-vertical_display_end-clause-change : goal.returns-else-self-vertical_display_end-clause-change
returns-else-self-vertical_display_end-clause-change c =
    let r = c.args.registers.now in
    let b = c.args.self in
    let past : (vertical_display_end r ≤ b.line) ⊎ (lines r ≤ b.line + 1) =
    elim c.else-self-vertical_display_end.branch [
      | else-self-vertical_display_end-via-then-self-vertical_display_end+else-next-lines w ↦ inr (omega (arith, w.lines.ensures.value, w.if-next-lines.false))
      | else-self-vertical_display_end-via-else-self-vertical_display_end w ↦
          inl (omega (arith, c.vertical_display_end.ensures.value, w.if-self-vertical_display_end.false))
    ] in
    display_begins_with_frame c.args.cw r b (omega (arith, c.requires.width)) c.requires.hidden past
