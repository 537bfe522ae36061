use Rattle.std.proofs.Common.{◌≡◌, ◌<◌, ◌≤◌, sym, ap, ◌∙◌, arith}
use Rattle.vga_crtc.specs.Raster.{dots_to_line_end}
use Rattle.vga_card.specs.Card.{CardState}
use Rattle.vga_card.specs.Dots.{character_width, dot, dots}
use Rattle.vga_card.specs.Line.{card_dots_to_line_end}
use Rattle.vga_card.proofs.DotLemmas.{dots_none}
use Rattle.vga_card.proofs.LineLemmas.{line_went, dot_went, width_kept, width_kept_dot, some_taken, few_dots}
use Rattle.vga_card.proofs.PartLemmas.{part_went}
use Rattle.vga_card.proofs.card.Card.take_and_draw_dots.Goals as goal

pub loop-left-smaller-then-dots_to_line_end-left : goal.loop-left-smaller-then-dots_to_line_end-left
loop-left-smaller-then-dots_to_line_end-left c =
    let a = c.self-in-loop-left.inside in
    let s = c.loop-left.self in
    let count : c.dots_to_line_end-left.result ≡ card_dots_to_line_end s = c.dots_to_line_end-left.ensures.value
    ∙ ap (λ w. dots_to_line_end w a.crtc.registers a.crtc.beam) c.loop-left.invariant.1
    ∙ ap (λ (x : CardState). dots_to_line_end (character_width s) x.crtc.registers x.crtc.beam) c.self-in-loop-left.view_is in
    some_taken c.loop-left.left c.dots_to_line_end-left.result s count (omega arith)

pub loop-left-preserved-then-dots_to_line_end-left : goal.loop-left-preserved-then-dots_to_line_end-left
loop-left-preserved-then-dots_to_line_end-left c =
    let a = c.self-in-loop-left.inside in
    let s = c.loop-left.self in
    let same : c.dots_to_line_end-left.result ≡ c.dots_to_line_end.result = c.dots_to_line_end-left.ensures.value ∙ sym c.dots_to_line_end.ensures.value in
    let count : c.dots_to_line_end-left.result ≡ card_dots_to_line_end s = c.dots_to_line_end-left.ensures.value
    ∙ ap (λ w. dots_to_line_end w a.crtc.registers a.crtc.beam) c.loop-left.invariant.1
    ∙ ap (λ (x : CardState). dots_to_line_end (character_width s) x.crtc.registers x.crtc.beam) c.self-in-loop-left.view_is in
    let by_dots : c.take_line.new.self ≡ dots (card_dots_to_line_end s) s = c.take_line.ensures.by_dots in (
      line_went c.loop-left.left c.dots_to_line_end-left.result s c.take_line.new.self _ (omega (arith, same)) count by_dots c.loop-left.invariant.0,
      c.loop-left.invariant.1 ∙ width_kept (card_dots_to_line_end s) s c.take_line.new.self by_dots,
      c.take_line.ensures.ends,
    )

pub take_line-requires-clause-before : goal.take_line-requires-clause-before
take_line-requires-clause-before c = c.loop-left.invariant.2

pub take_and_draw_next_dots_of_line-requires-clause-some : goal.take_and_draw_next_dots_of_line-requires-clause-some
take_and_draw_next_dots_of_line-requires-clause-some c =
    let a = c.self-in-loop-left.inside in
    let s = c.loop-left.self in
    let count : c.dots_to_line_end-then-is_in_line.result ≡ card_dots_to_line_end s = c.dots_to_line_end-then-is_in_line.ensures.value
    ∙ ap (λ w. dots_to_line_end w a.crtc.registers a.crtc.beam) c.loop-left.invariant.1
    ∙ ap (λ (x : CardState). dots_to_line_end (character_width s) x.crtc.registers x.crtc.beam) c.self-in-loop-left.view_is in
    let line = few_dots s in
    let some : 0 < c.min-part.result = omega (arith, count, line.0, c.min-part.ensures, c.min.ensures) in
    some

pub loop-left-smaller-then-is_in_line : goal.loop-left-smaller-then-is_in_line
loop-left-smaller-then-is_in_line c =
    let a = c.self-in-loop-left.inside in
    let s = c.loop-left.self in
    let count : c.dots_to_line_end-then-is_in_line.result ≡ card_dots_to_line_end s = c.dots_to_line_end-then-is_in_line.ensures.value
    ∙ ap (λ w. dots_to_line_end w a.crtc.registers a.crtc.beam) c.loop-left.invariant.1
    ∙ ap (λ (x : CardState). dots_to_line_end (character_width s) x.crtc.registers x.crtc.beam) c.self-in-loop-left.view_is in
    let line = few_dots s in
    let some : 0 < c.min-part.result = omega (arith, count, line.0, c.min-part.ensures, c.min.ensures) in
    omega (arith, some)

pub loop-left-preserved-then-is_in_line : goal.loop-left-preserved-then-is_in_line
loop-left-preserved-then-is_in_line c =
    let s = c.loop-left.self in
    let n = c.min-part.result in
    let within : n ≤ c.loop-left.left = omega (arith, c.min-part.ensures, c.min.ensures) in
    let by_dots : c.take_and_draw_next_dots_of_line.new.self ≡ dots n s = c.take_and_draw_next_dots_of_line.ensures in (
      part_went c.loop-left.left n s c.take_and_draw_next_dots_of_line.new.self _ within by_dots c.loop-left.invariant.0,
      c.loop-left.invariant.1
          ∙ width_kept n s c.take_and_draw_next_dots_of_line.new.self by_dots,
      tt,
    )

pub loop-left-preserved : goal.loop-left-preserved
loop-left-preserved c =
    let s = c.loop-left.self in
    let by_dots : c.take_dot.new.self ≡ dot s = c.take_dot.ensures in (
      dot_went c.loop-left.left s c.take_dot.new.self _ (omega arith) by_dots c.loop-left.invariant.0,
      c.loop-left.invariant.1
          ∙ width_kept_dot s c.take_dot.new.self by_dots,
      tt,
    )

pub returns : goal.returns
returns c =
    let s = c.loop-left.self in
    let none : c.loop-left.left ≡ 0 = omega arith in
    sym (ap (λ i. dots i s) none ∙ dots_none s) ∙ c.loop-left.invariant.0
