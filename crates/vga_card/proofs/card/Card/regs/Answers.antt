use Rattle.std.proofs.Common.{rules}
use Rattle.vga_card.proofs.card.Card.regs.Goals as goal

pub returns-clause-misc : goal.returns-clause-misc
returns-clause-misc c = search rules

pub returns-clause-host : goal.returns-clause-host
returns-clause-host c = search rules

pub returns-clause-crtc : goal.returns-clause-crtc
returns-clause-crtc c = search rules

pub returns-clause-attr : goal.returns-clause-attr
returns-clause-attr c = search rules

pub returns-clause-dac : goal.returns-clause-dac
returns-clause-dac c = search rules
