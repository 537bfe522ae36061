use Rattle.std.proofs.Common.{rules}
use Rattle.vga_script.specs.Tokens.{is_end_of_piece}
use Rattle.vga_script.proofs.WordLemmas.{stops_at, stops_after}
use Rattle.vga_script.proofs.tokens.PieceEnd.position_in.Goals as goal

pub returns-else-not-is_ended_by-clause-position : goal.returns-else-not-is_ended_by-clause-position
returns-else-not-is_ended_by-clause-position c =
    stops_at (is_end_of_piece c.args.self) c.args.text.now c.loop-position.position c.loop-position-test.true c.loop-position.invariant.none (search rules)

pub returns-after-loop-position-clause-position : goal.returns-after-loop-position-clause-position
returns-after-loop-position-clause-position c =
    stops_after (is_end_of_piece c.args.self) c.args.text.now c.loop-position.position c.loop-position.invariant.within c.loop-position-test.false c.loop-position.invariant.none
