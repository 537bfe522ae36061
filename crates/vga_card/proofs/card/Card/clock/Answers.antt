use Rattle.vga_card.proofs.card.Card.clock.Goals as goal

pub returns-clause-clock : goal.returns-clause-clock
returns-clause-clock c = c.raster_timing.ensures.clock c.args.self.now c.regs-regs.ensures.crtc c.regs-regs.ensures.host c.regs-regs.ensures.misc
