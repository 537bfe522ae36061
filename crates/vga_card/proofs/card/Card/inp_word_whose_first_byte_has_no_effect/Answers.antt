use Rattle.std.proofs.Common.{rules}
use Rattle.vga_card.proofs.CycleLemmas.{word_half_read}
use Rattle.vga_card.proofs.card.Card.inp_word_whose_first_byte_has_no_effect.Goals as goal

pub returns-in-Err-inp : goal.returns-in-Err-inp
returns-in-Err-inp c =
    word_half_read c.args.self.now c.inp.new.self c.inp-in-Ok.new.self c.args.port c.in-Ok.low c.in-Err-inp.refusal (search rules) c.requires.quiet.0
    (search rules)
