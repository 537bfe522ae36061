use Rattle.std.proofs.Common.{rules}
use Rattle.vga_card.specs.Cycles.{inp_reached}
use Rattle.vga_card.specs.Port.{crtc_port_of, port_of}
use Rattle.vga_card.proofs.card.Card.inp_word.Goals as goal

pub returns-in_default : goal.returns-in_default
unfolding inp_reached port_of crtc_port_of
returns-in_default c = search rules

pub returns-then-refuses_inp : goal.returns-then-refuses_inp
unfolding inp_reached port_of crtc_port_of
returns-then-refuses_inp c = search rules

pub returns-in-Attribute : goal.returns-in-Attribute
unfolding inp_reached port_of crtc_port_of
returns-in-Attribute c = search rules

pub returns-in-SequencerIndex : goal.returns-in-SequencerIndex
unfolding inp_reached port_of crtc_port_of
returns-in-SequencerIndex c = search rules

pub returns-in-DacWriteIndex : goal.returns-in-DacWriteIndex
unfolding inp_reached port_of crtc_port_of
returns-in-DacWriteIndex c = search rules

pub returns-in-GraphicsIndex : goal.returns-in-GraphicsIndex
unfolding inp_reached port_of crtc_port_of
returns-in-GraphicsIndex c = search rules

pub returns-in-CrtcIndex : goal.returns-in-CrtcIndex
unfolding inp_reached port_of crtc_port_of
returns-in-CrtcIndex c = search rules

pub returns-else-refuses_inp : goal.returns-else-refuses_inp
unfolding inp_reached port_of crtc_port_of
returns-else-refuses_inp c = search rules

pub returns-in-AttributeRegister : goal.returns-in-AttributeRegister
unfolding inp_reached port_of crtc_port_of
returns-in-AttributeRegister c = search rules

pub returns-in-MiscellaneousWrite : goal.returns-in-MiscellaneousWrite
unfolding inp_reached port_of crtc_port_of
returns-in-MiscellaneousWrite c = search rules

pub returns-in-SubsystemEnable : goal.returns-in-SubsystemEnable
unfolding inp_reached port_of crtc_port_of
returns-in-SubsystemEnable c = search rules

pub returns-in-DacMask : goal.returns-in-DacMask
unfolding inp_reached port_of crtc_port_of
returns-in-DacMask c = search rules

pub returns-in-DacReadIndex : goal.returns-in-DacReadIndex
unfolding inp_reached port_of crtc_port_of
returns-in-DacReadIndex c = search rules

pub returns-in-DacData : goal.returns-in-DacData
unfolding inp_reached port_of crtc_port_of
returns-in-DacData c = search rules

pub returns-in-FeatureControl : goal.returns-in-FeatureControl
unfolding inp_reached port_of crtc_port_of
returns-in-FeatureControl c = search rules

pub returns-in-MiscellaneousRead : goal.returns-in-MiscellaneousRead
unfolding inp_reached port_of crtc_port_of
returns-in-MiscellaneousRead c = search rules

pub returns-in-GraphicsData : goal.returns-in-GraphicsData
unfolding inp_reached port_of crtc_port_of
returns-in-GraphicsData c = search rules

pub returns-in-CrtcData : goal.returns-in-CrtcData
unfolding inp_reached port_of crtc_port_of
returns-in-CrtcData c = search rules

pub returns-in-InputStatus1 : goal.returns-in-InputStatus1
unfolding inp_reached port_of crtc_port_of
returns-in-InputStatus1 c = search rules
