use Rattle.vga_card.proofs.BoundLemmas.{power_on_bounds, out_bounds, inp_bounds, put_bounds, get_bounds, out_word_bounds, inp_word_bounds, put_word_bounds}
use Rattle.vga_card.proofs.BoundLemmas.{get_word_bounds, dots_bounds}
use Rattle.vga_card.proofs.laws.cycles_and_dots_keep_bounds.Goals as goal

pub returns-clause-first : goal.returns-clause-first
returns-clause-first c = power_on_bounds

pub returns-clause-out : goal.returns-clause-out
returns-clause-out c = out_bounds

pub returns-clause-inp : goal.returns-clause-inp
returns-clause-inp c = inp_bounds

pub returns-clause-put : goal.returns-clause-put
returns-clause-put c = put_bounds

pub returns-clause-get : goal.returns-clause-get
returns-clause-get c = get_bounds

pub returns-clause-out_word : goal.returns-clause-out_word
returns-clause-out_word c = out_word_bounds

pub returns-clause-inp_word : goal.returns-clause-inp_word
returns-clause-inp_word c = inp_word_bounds

pub returns-clause-put_word : goal.returns-clause-put_word
returns-clause-put_word c = put_word_bounds

pub returns-clause-get_word : goal.returns-clause-get_word
returns-clause-get_word c = get_word_bounds

pub returns-clause-dots : goal.returns-clause-dots
returns-clause-dots c = dots_bounds
