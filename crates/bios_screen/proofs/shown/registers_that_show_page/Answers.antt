use Rattle.bios_screen.proofs.Shows.Reading.{wanted_is}
use Rattle.bios_screen.proofs.shown.registers_that_show_page.Goals as goal

pub returns : goal.returns
returns c = wanted_is c.args.row.now c.args.bda.now c.args.crtc.now.registers _ _ _ c.requires.all c.cursor_type-cursor_type.ensures
    c.start_address_of-start.ensures.value c.cursor_location_of-location.ensures.value
