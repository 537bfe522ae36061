use Rattle.std.proofs.Common.{rules}
use Rattle.vga_card.specs.Cycles.{inp_reached}
use Rattle.vga_card.proofs.card.Card.inp_at.Goals as goal

pub returns-in-Attribute : goal.returns-in-Attribute
unfolding inp_reached
returns-in-Attribute c = search rules

pub returns-in-AttributeRegister : goal.returns-in-AttributeRegister
unfolding inp_reached
returns-in-AttributeRegister c = search rules

pub returns-in-SequencerIndex : goal.returns-in-SequencerIndex
unfolding inp_reached
returns-in-SequencerIndex c = search rules

pub returns-in-SequencerData : goal.returns-in-SequencerData
unfolding inp_reached
returns-in-SequencerData c = search rules

pub returns-in-DacMask : goal.returns-in-DacMask
unfolding inp_reached
returns-in-DacMask c = search rules

pub returns-in-DacWriteIndex : goal.returns-in-DacWriteIndex
unfolding inp_reached
returns-in-DacWriteIndex c = search rules

pub returns-in-DacData : goal.returns-in-DacData
unfolding inp_reached
returns-in-DacData c = search rules

pub returns-in-MiscellaneousRead : goal.returns-in-MiscellaneousRead
unfolding inp_reached
returns-in-MiscellaneousRead c = search rules

pub returns-in-GraphicsIndex : goal.returns-in-GraphicsIndex
unfolding inp_reached
returns-in-GraphicsIndex c = search rules

pub returns-in-GraphicsData : goal.returns-in-GraphicsData
unfolding inp_reached
returns-in-GraphicsData c = search rules

pub returns-in-CrtcIndex : goal.returns-in-CrtcIndex
unfolding inp_reached
returns-in-CrtcIndex c = search rules

pub returns-in-CrtcData : goal.returns-in-CrtcData
unfolding inp_reached
returns-in-CrtcData c = search rules

pub returns-in-InputStatus1 : goal.returns-in-InputStatus1
unfolding inp_reached
returns-in-InputStatus1 c = search rules

pub returns-in-MiscellaneousWrite : goal.returns-in-MiscellaneousWrite
unfolding inp_reached
returns-in-MiscellaneousWrite c = search rules
