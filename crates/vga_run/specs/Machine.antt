-- An adapter with its video BIOS.
use Rattle.vga_card.specs.Card.{power_on_card}
use Rattle.bios_modes.specs.Bda.{power_on_data}
use Rattle.bios_modes.specs.Fonts.{FontSet}
use Rattle.vga_run.specs.declared.machine.Machine.{Machine}

-- a machine at power-on with these fonts
abbrev pub power_on_machine : FontSet → Machine
power_on_machine fonts = record { card = power_on_card; bda = power_on_data; fonts = fonts }
