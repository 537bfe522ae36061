use Rattle.std.proofs.Common.{◌≡◌, ◌-◌, ◌≤◌}
use Rattle.bios_services.specs.Plan.{run, fold}
use Rattle.bios_services.specs.Cursor.{row_of_position}
use Rattle.bios_services.specs.Teletype.{type_character_plan}
use Rattle.bios_services.specs.Strings.{character_at, colouring_of_character, type_string_plan}
use Rattle.bios_services.proofs.strings.StringCall.type_all.Given as goal

-- what the characters from here on leave and answer is what all of them do, and the position is on the page
abbrev pub invariant-loop-i : goal.invariant-loop-i
invariant-loop-i g l = record {
  row : row_of_position l.position ≤ l.bda.last_row;
  left : run g.B.Bus.meaning (fold (λ i position. type_character_plan l.fonts l.bda l.self.page position (character_at l.self l.block i) (colouring_of_character l.self l.block i))
      (l.i-end - l.i) l.i l.position) l.bus
      ≡ run g.B.Bus.meaning (type_string_plan l.fonts l.bda l.self l.block) l.fn.bus;
}
