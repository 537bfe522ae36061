-- Each of the two ports has its lemma.
use Rattle.std.proofs.Common.{◌∙◌, sym, subst}
use Rattle.vga_card.specs.WordCycles.{out_word_cycle}
use Rattle.vga_card.specs.Owed.{IsChangeHiddenFromDots}
use Rattle.vga_card.proofs.HiddenLemmas.{sequencer_word_hidden, graphics_word_hidden}
use Rattle.vga_card.proofs.card.Card.is_out_word_hidden_from_dots.Goals as goal

pub returns-in-964-clause-hidden : goal.returns-in-964-clause-hidden
returns-in-964-clause-hidden c = λ hidden.
    let s = c.args.self.now in
    subst (λ p. IsChangeHiddenFromDots s (out_word_cycle s p c.args.v).0) (sym c.in-964.is) (sequencer_word_hidden s c.args.v (sym c.is_sequencer_register_hidden_from_dots.ensures ∙ hidden))

pub returns-in-974-clause-hidden : goal.returns-in-974-clause-hidden
returns-in-974-clause-hidden c = λ hidden.
    let s = c.args.self.now in
    subst (λ p. IsChangeHiddenFromDots s (out_word_cycle s p c.args.v).0) (sym c.in-974.is) (graphics_word_hidden s c.args.v (sym c.is_graphics_register_hidden_from_dots.ensures ∙ hidden))
