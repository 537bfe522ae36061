use Rattle.std.proofs.Common.{rules, arith, ◌≡◌, ◌<◌, ◌≤◌, ◌+◌, false, true, sym, ap, ◌∙◌, subst}
use Rattle.vga_crtc.specs.Beam.{lines}
use Rattle.vga_crtc.specs.Fields.{vertical_retrace_start}
use Rattle.vga_crtc.specs.Status.{is_retrace, retrace_lines}
use Rattle.vga_crtc.specs.Clock.{ChangesAfter, dots_to_line}
use Rattle.vga_crtc.proofs.Changes.{retrace_begins, retrace_never_begins, retrace_ends, retrace_ends_with_frame, retrace_never_ends}
use Rattle.vga_crtc.proofs.beam.Beam.next_retrace_change_line.Goals as goal

pub returns-then-start-lines-clause-change : goal.returns-then-start-lines-clause-change
returns-then-start-lines-clause-change c =
    let r = c.args.registers.now in
    let b = c.args.self in
    let cw = c.args.cw in
    let start = c.vertical_retrace_start-start.ensures.value in
    let test : is_retrace r b ≡ false = search rules in
    let inside : vertical_retrace_start r < lines r = omega (arith, start, c.lines-lines.ensures.value, c.if-start-lines.true) in
    subst (λ v. ChangesAfter (is_retrace r) cw r b (dots_to_line cw r v b)) (sym start) (retrace_begins cw r b (omega (arith, c.requires)) test inside)

pub returns-else-start-lines-clause-change : goal.returns-else-start-lines-clause-change
returns-else-start-lines-clause-change c =
    let r = c.args.registers.now in
    let b = c.args.self in
    let test : is_retrace r b ≡ false = search rules in
    let none : lines r ≤ vertical_retrace_start r =
    omega (arith, c.vertical_retrace_start-start.ensures.value, c.lines-lines.ensures.value, c.if-start-lines.false) in
    retrace_never_begins c.args.cw r b test none

pub returns-then-end-lines-clause-change : goal.returns-then-end-lines-clause-change
returns-then-end-lines-clause-change c =
    let r = c.args.registers.now in
    let b = c.args.self in
    let cw = c.args.cw in
    let start = c.vertical_retrace_start-start.ensures.value in
    let test : is_retrace r b ≡ true = search rules in
    let end : c.vertical_retrace_start-start.result + c.retrace_lines.result ≡ vertical_retrace_start r + retrace_lines r =
    ap (λ v. v + c.retrace_lines.result) start ∙ ap (λ v. vertical_retrace_start r + v) c.retrace_lines.ensures.value in
    let inside : vertical_retrace_start r + retrace_lines r < lines r =
    subst (λ v. v < lines r) end (omega (arith, c.lines-lines.ensures.value, c.if-end-lines.true)) in
    subst (λ v. ChangesAfter (is_retrace r) cw r b (dots_to_line cw r v b)) (sym end) (retrace_ends cw r b (omega (arith, c.requires)) test inside)

pub returns-then-start-gt0-clause-change : goal.returns-then-start-gt0-clause-change
returns-then-start-gt0-clause-change c =
    let r = c.args.registers.now in
    let b = c.args.self in
    let start = c.vertical_retrace_start-start.ensures.value in
    let test : is_retrace r b ≡ true = search rules in
    let end : c.vertical_retrace_start-start.result + c.retrace_lines.result ≡ vertical_retrace_start r + retrace_lines r =
    ap (λ v. v + c.retrace_lines.result) start ∙ ap (λ v. vertical_retrace_start r + v) c.retrace_lines.ensures.value in
    let past : lines r ≤ vertical_retrace_start r + retrace_lines r =
    subst (λ v. lines r ≤ v) end (omega (arith, c.lines-lines.ensures.value, c.if-end-lines.false)) in
    retrace_ends_with_frame c.args.cw r b (omega (arith, c.requires)) test past (omega (arith, start, c.if-start-gt0.true))

pub returns-else-start-gt0-clause-change : goal.returns-else-start-gt0-clause-change
returns-else-start-gt0-clause-change c =
    let r = c.args.registers.now in
    let b = c.args.self in
    let start = c.vertical_retrace_start-start.ensures.value in
    let test : is_retrace r b ≡ true = search rules in
    let end : c.vertical_retrace_start-start.result + c.retrace_lines.result ≡ vertical_retrace_start r + retrace_lines r =
    ap (λ v. v + c.retrace_lines.result) start ∙ ap (λ v. vertical_retrace_start r + v) c.retrace_lines.ensures.value in
    let past : lines r ≤ vertical_retrace_start r + retrace_lines r =
    subst (λ v. lines r ≤ v) end (omega (arith, c.lines-lines.ensures.value, c.if-end-lines.false)) in
    retrace_never_ends c.args.cw r b test past (omega (arith, start, c.if-start-gt0.false))
