use Rattle.std.proofs.Common.{◌-◌, arith}
use Rattle.vga_dots.proofs.RowLemmas.{characters_more}
use Rattle.vga_dots.proofs.AlikeLemmas.{again}
use Rattle.vga_dots.proofs.alike.repeat_last_character.Goals as goal

pub loop-x-init : goal.loop-x-init
loop-x-init g c = λ f old before same. before

pub loop-x-preserved : goal.loop-x-preserved
loop-x-preserved g c = λ f old before same.
    let cw = g.row.CW in
    let x = c.loop-x.x in
    characters_more cw x f old c.loop-x.row c.copy_character_dots.new.row (c.loop-x.invariant f old before same)
    (again cw (c.args.drawn - 1) c.args.drawn x f old c.args.row.now _ c.copy_dots.new.row c.loop-x.row c.copy_character_dots.new.row
    (omega (arith, c.requires.some)) before c.copy_dots.ensures c.copy_character_dots.ensures (λ i. same x i (omega arith) c.loop-x-test.true))
