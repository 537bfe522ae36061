use Rattle.vga_explain.proofs.words.why_out_word.Goals as goal

pub returns-in_default-clause-reason : goal.returns-in_default-clause-reason
returns-in_default-clause-reason c = c.why_no_word.ensures.out c.args.v
