use Rattle.std.proofs.Common.{rules, arith, ◌≡◌, ◌<◌, ◌≤◌, ◌+◌, true, sym, ap, ◌∙◌, subst}
use Rattle.vga_crtc.specs.Beam.{lines, characters}
use Rattle.vga_crtc.specs.Fields.{horizontal_display_end, vertical_display_end}
use Rattle.vga_crtc.specs.Status.{is_display}
use Rattle.vga_crtc.specs.Clock.{ChangesAfter, dots_to_line, dots_to_character}
use Rattle.vga_crtc.proofs.Changes.{display_ends_in_line, display_ends_in_frame, display_never_ends}
use Rattle.vga_crtc.proofs.beam.Beam.dots_to_display_change.Goals as goal

pub returns-then-character-characters-clause-change : goal.returns-then-character-characters-clause-change
returns-then-character-characters-clause-change c =
    let r = c.args.registers.now in
    let b = c.args.self in
    let cw = c.args.cw in
    let end = c.horizontal_display_end.ensures in
    let test : is_display r b ≡ true = search rules in
    let narrow : horizontal_display_end r + 1 < characters r = omega (arith, end, c.characters.ensures.value, c.if-character-characters.true) in
    let count = c.dots_to_character.ensures.value ∙ ap (λ v. dots_to_character cw (v + 1) b) end in
    subst (ChangesAfter (is_display r) cw r b) (sym count) (display_ends_in_line cw r b (omega (arith, c.requires.width)) test narrow)

pub returns-then-line-lines-clause-change : goal.returns-then-line-lines-clause-change
returns-then-line-lines-clause-change c =
    let r = c.args.registers.now in
    let b = c.args.self in
    let cw = c.args.cw in
    let end = c.vertical_display_end-line.ensures.value in
    let test : is_display r b ≡ true = search rules in
    let all : characters r ≤ horizontal_display_end r + 1 =
    omega (arith, c.horizontal_display_end.ensures, c.characters.ensures.value, c.if-character-characters.false) in
    let inside : vertical_display_end r + 1 < lines r = omega (arith, end, c.lines.ensures.value, c.if-line-lines.true) in
    let count = c.dots_to_line-then-line-lines.ensures.value ∙ ap (λ v. dots_to_line cw r (v + 1) b) end in
    subst (ChangesAfter (is_display r) cw r b) (sym count) (display_ends_in_frame cw r b (omega (arith, c.requires.width)) test all inside)

pub returns-else-line-lines-clause-change : goal.returns-else-line-lines-clause-change
returns-else-line-lines-clause-change c =
    let r = c.args.registers.now in
    let b = c.args.self in
    let test : is_display r b ≡ true = search rules in
    let all : characters r ≤ horizontal_display_end r + 1 =
    omega (arith, c.horizontal_display_end.ensures, c.characters.ensures.value, c.if-character-characters.false) in
    let whole : lines r ≤ vertical_display_end r + 1 =
    omega (arith, c.vertical_display_end-line.ensures.value, c.lines.ensures.value, c.if-line-lines.false) in
    display_never_ends c.args.cw r b test all whole
