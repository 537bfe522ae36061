use Rattle.std.proofs.Common.{◌∙◌, subst, arith, refl}
use Rattle.std.proofs.lemmas.List.{get_or-set_other}
use Rattle.vga_c.specs.Forms.{rgb_word_of_dot}
use Rattle.vga_c.specs.Palette.{NoNumberHasColour, HasColourNumbered}
use Rattle.vga_c.proofs.NumberLemmas.{dot_more, none_numbered, too_many}
use Rattle.vga_c.proofs.indexed.number_dots.Goals as goal

-- a dot whose colour the full palette lacks
pub returns-in-None-clause-many : goal.returns-in-None-clause-many
returns-in-None-clause-many c is =
    too_many c.loop-i.i c.args.count (rgb_word_of_dot c.args.bytes.now) c.loop-i.palette c.loop-i.numbers c.loop-i.invariant.0 c.loop-i-test.true
    (c.number_colour.ensures.full c.in-None.is) (subst (NoNumberHasColour c.loop-i.palette) c.rgb_word_of_dot.ensures (c.number_colour.ensures.lacks c.in-None.is))

-- a dot more
pub loop-i-preserved : goal.loop-i-preserved
loop-i-preserved c = (
  dot_more c.loop-i.i c.in-Some.number (rgb_word_of_dot c.args.bytes.now) c.loop-i.palette c.number_colour.new.palette c.loop-i.numbers c.loop-i.invariant.0
      (subst (HasColourNumbered c.loop-i.palette c.number_colour.new.palette c.in-Some.number) c.rgb_word_of_dot.ensures c.in-Some.ensures.some) (omega (arith, c.loop-i-test.true, c.requires.room, c.loop-i.auto.numbers)),
  (λ k later. get_or-set_other c.loop-i.numbers c.loop-i.i k c.in-Some.number 0 (λ is. omega (arith, is, later)) ∙ c.loop-i.invariant.1.0 k (omega (arith, later)), search),
)

-- no dot yet
pub loop-i-init : goal.loop-i-init
loop-i-init c = (none_numbered (rgb_word_of_dot c.args.bytes.now) c.args.palette.now c.args.numbers.now c.requires.empty, (λ k later. refl, c.requires.guesses))
