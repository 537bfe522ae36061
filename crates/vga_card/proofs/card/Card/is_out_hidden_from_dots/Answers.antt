-- Each of the four ports has its lemma.
use Rattle.std.proofs.Common.{◌∙◌, sym, subst, ap, ⊎_elim}
use Rattle.vga_card.specs.Card.{CardState}
use Rattle.vga_card.specs.Cycles.{out_cycle}
use Rattle.vga_card.specs.Owed.{IsChangeHiddenFromDots}
use Rattle.vga_card.proofs.HiddenLemmas.{sequencer_index_hidden, graphics_index_hidden, sequencer_data_hidden, graphics_data_hidden}
use Rattle.vga_card.proofs.HiddenLemmas.{IsBlindSequencer, IsBlindGraphics}
use Rattle.vga_card.proofs.card.Card.is_out_hidden_from_dots.Goals as goal

pub returns-in-964-clause-hidden : goal.returns-in-964-clause-hidden
returns-in-964-clause-hidden c = λ e v.
    let s = c.args.self.now in
    ⊎_elim (λ at. subst (λ p. IsChangeHiddenFromDots s (out_cycle s p v).0) (sym at) (sequencer_index_hidden s v))
    (λ at. subst (λ p. IsChangeHiddenFromDots s (out_cycle s p v).0) (sym at) (graphics_index_hidden s v)) c.in-964.is

pub returns-in-965-clause-hidden : goal.returns-in-965-clause-hidden
returns-in-965-clause-hidden c = λ hidden v.
    let s = c.args.self.now in
    let index = c.seq_index.ensures ∙ ap (λ (x : CardState). x.host.seq_index) c.self.view_is in
    subst (λ p. IsChangeHiddenFromDots s (out_cycle s p v).0) (sym c.in-965.is)
    (sequencer_data_hidden s v (subst IsBlindSequencer index (sym c.is_sequencer_register_hidden_from_dots.ensures ∙ hidden)))

pub returns-in-975-clause-hidden : goal.returns-in-975-clause-hidden
returns-in-975-clause-hidden c = λ hidden v.
    let s = c.args.self.now in
    let index = c.gfx_index.ensures ∙ ap (λ (x : CardState). x.host.gfx_index) c.self.view_is in
    subst (λ p. IsChangeHiddenFromDots s (out_cycle s p v).0) (sym c.in-975.is)
    (graphics_data_hidden s v (subst IsBlindGraphics index (sym c.is_graphics_register_hidden_from_dots.ensures ∙ hidden)))
