use Rattle.vga_c.proofs.handle.give_owing.Goals as goal

pub give_at_line-requires : goal.give_at_line-requires
give_at_line-requires c = c.unknown.ensures c.args.machine.value.card
