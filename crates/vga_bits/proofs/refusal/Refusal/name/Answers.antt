use Rattle.std.proofs.Common.{rules}
use Rattle.vga_bits.proofs.refusal.Refusal.name.Goals as goal

pub returns-in-NotDecoded : goal.returns-in-NotDecoded
returns-in-NotDecoded c = search rules

pub returns-in-NotInProfile : goal.returns-in-NotInProfile
returns-in-NotInProfile c = search rules

pub returns-in-NoMode : goal.returns-in-NoMode
returns-in-NoMode c = search rules

pub returns-in-BadFunction : goal.returns-in-BadFunction
returns-in-BadFunction c = search rules

pub returns-in-BadMode : goal.returns-in-BadMode
returns-in-BadMode c = search rules

pub returns-in-WrongKind : goal.returns-in-WrongKind
returns-in-WrongKind c = search rules

pub returns-in-BadPage : goal.returns-in-BadPage
returns-in-BadPage c = search rules

pub returns-in-Outside : goal.returns-in-Outside
returns-in-Outside c = search rules

pub returns-in-CountPast : goal.returns-in-CountPast
returns-in-CountPast c = search rules

pub returns-in-BadRegister : goal.returns-in-BadRegister
returns-in-BadRegister c = search rules

pub returns-in-BadBlock : goal.returns-in-BadBlock
returns-in-BadBlock c = search rules

pub returns-in-TooFar : goal.returns-in-TooFar
returns-in-TooFar c = search rules

pub returns-in-BadHeight : goal.returns-in-BadHeight
returns-in-BadHeight c = search rules
