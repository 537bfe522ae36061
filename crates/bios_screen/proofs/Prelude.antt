-- Names that many modules use, passed on from where they are defined.
pub use Rattle.bios_modes.specs.Bda.{BiosData}
pub use Rattle.bios_modes.specs.Begin.{data_of_mode}
pub use Rattle.bios_modes.specs.Bounds.{AreBytes}
pub use Rattle.bios_modes.specs.Fonts.{FontSet}
pub use Rattle.bios_modes.specs.Heights.{mode_row_at_height}
pub use Rattle.bios_modes.specs.Kinds.{is_mode_of_256_colours, is_text, kind_of}
pub use Rattle.bios_modes.specs.Modes.{bytes_320_by_200}
pub use Rattle.bios_modes.specs.declared.kind.Kind.TheVariants.{Planar}
pub use Rattle.bios_modes.specs.declared.modes.ModeRow.{ModeRow}
pub use Rattle.bios_screen.specs.Listing.{list_by_function}
pub use Rattle.bios_screen.specs.Picture.{colour_by_palette}
pub use Rattle.bios_screen.specs.Raster.{DrawsDotColours, Raster}
pub use Rattle.bios_screen.specs.Screen.{Cell, Screen}
pub use Rattle.bios_screen.specs.AfterCall.{ServiceActsAsOnScreen}
pub use Rattle.bios_screen.specs.Shown.{text_memory_cells, cell_in, crtc_registers, pixel_of_256_colours, page_pixels, pixel_in, pixel_screen, planar_pixel, shown}
pub use Rattle.bios_screen.specs.Shown.{has_attribute_registers_of_mode}
pub use Rattle.bios_screen.specs.Step.{page_or_0_on_screen_of_one_page, pixel_of, with_pixels}
pub use Rattle.bios_services.specs.Bounds.{page_count}
pub use Rattle.bios_services.specs.Cells.{cells_per_page, page_0_address_of_mode}
pub use Rattle.bios_services.specs.Cursor.{start_address}
pub use Rattle.bios_services.specs.Cycles.{write_graphics}
pub use Rattle.bios_services.specs.Plan.{Done, Plan, each, get, put, run, ◌>>=◌, ◌>>◌}
pub use Rattle.bios_services.specs.Refusals.{page_or_0_if_only_one, page_or_0_in_mode_of_one_page}
pub use Rattle.bios_services.specs.Service.{ServiceOutcome}
pub use Rattle.bios_services.specs.declared.band.ColumnBand.{ColumnBand}
pub use Rattle.bios_services.specs.declared.direction.Direction.{Direction}
pub use Rattle.bios_services.specs.declared.direction.Direction.TheVariants.{Down, Up}
pub use Rattle.bios_services.specs.declared.colouring.Colouring.{Colouring}
pub use Rattle.bios_services.specs.declared.regs.Regs.{Regs}
pub use Rattle.bios_services.specs.declared.scroll.Window.{Window}
pub use Rattle.vga_attr.specs.Fields.{is_palette_shown}
pub use Rattle.vga_bits.specs.Bits.{is_set}
pub use Rattle.vga_bits.specs.Four.{Four}
pub use Rattle.vga_bits.specs.declared.refusal.Refusal.{Refusal}
pub use Rattle.vga_card.specs.Bounds.{IsCard}
pub use Rattle.vga_card.specs.Bus.{card_meaning}
pub use Rattle.vga_card.specs.Card.{CardState}
pub use Rattle.vga_card.specs.Port.{crtc_port}
pub use Rattle.vga_crtc.specs.Beam.{first_counter}
pub use Rattle.vga_crtc.specs.Crtc.{CrtcState}
pub use Rattle.vga_crtc.specs.Raster.{beam_at_place_of_regular_frame}
pub use Rattle.vga_crtc.specs.declared.beam.Beam.{Beam}
pub use Rattle.vga_dac.specs.Dac.{DacState}
pub use Rattle.vga_host.specs.Host.{HostState}
pub use Rattle.vga_planes.specs.Planes.{bytes_at}
