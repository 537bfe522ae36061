use Rattle.std.proofs.Common.{rules}
use Rattle.vga_card.proofs.canvas.Canvas.picture.Goals as goal

pub returns-in-Some-clause-picture : goal.returns-in-Some-clause-picture
returns-in-Some-clause-picture c = search rules

pub returns-in-Some-clause-few : goal.returns-in-Some-clause-few
returns-in-Some-clause-few c = search rules

pub returns-in-None-clause-picture : goal.returns-in-None-clause-picture
returns-in-None-clause-picture c = search rules

pub returns-in-None-clause-few : goal.returns-in-None-clause-few
returns-in-None-clause-few c = search rules
