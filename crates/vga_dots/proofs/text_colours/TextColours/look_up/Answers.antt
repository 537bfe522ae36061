-- The places have what they had, and the one of this number has its colour.
use Rattle.std.proofs.Common.{◌≡◌, ◌∙◌, sym, ap, subst, ⊎_elim, arith}
use Rattle.std.specs.Prelude.{slice_index_or, slice_set, true}
use Rattle.std.proofs.lemmas.Bool.{cases_eq}
use Rattle.std.proofs.lemmas.List.{get_or-set_same, get_or-set_other}
use Rattle.vga_dots.specs.declared.eight_dots.EightDots.{EightDots}
use Rattle.vga_dots.specs.Line.{colour_by_palette}
use Rattle.vga_dots.specs.EightDots.{AreEightDotsOfColour}
use Rattle.vga_dots.proofs.text_colours.TextColours.look_up.Goals as goal

pub returns-clause-colours : goal.returns-clause-colours
returns-clause-colours c =
    let d = c.args.display.now in
    let known = c.args.self.now.are_known in
    let dots = c.args.self.now.dots in
    let place = c.args.n in
    let new = c.text_colour-dots.result in
    record {
      places = λ m unknown other few is. ⊎_elim
          (λ (here : m ≡ place). subst (λ (x : EightDots). AreEightDotsOfColour x (colour_by_palette d.attr d.dac m))
          (sym (ap (λ i. slice_index_or (slice_set dots place new) i other) here ∙ get_or-set_same dots place new other (omega arith)))
          (subst (λ n. AreEightDotsOfColour new (colour_by_palette d.attr d.dac n)) (sym here) c.text_colour-dots.ensures))
          (λ elsewhere. subst (λ (x : EightDots). AreEightDotsOfColour x (colour_by_palette d.attr d.dac m)) (sym (get_or-set_other dots place m new other elsewhere))
          (c.requires.colours.places m unknown other few (sym (get_or-set_other known place m true unknown elsewhere) ∙ is)))
          (cases_eq m place);
    }
