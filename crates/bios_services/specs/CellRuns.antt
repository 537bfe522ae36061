-- Writing a character to a run of cells: functions 09 and 0A.
-- From the IBM PS/2 and PC BIOS Interface Technical Reference, "Interrupt 10H - Video", (AH) = 09H
-- and 0AH.
use Rattle.std.specs.Prelude.{Bool}
use Rattle.bios_modes.specs.Bda.{BiosData}
use Rattle.bios_modes.specs.Fonts.{FontSet}
use Rattle.bios_services.specs.declared.regs.Regs.{Regs}
use Rattle.bios_services.specs.declared.cell_run.CellRun.{CellRun}
use Rattle.bios_services.specs.Plan.{Plan}
use Rattle.bios_services.specs.Registers.{high, low}
use Rattle.bios_services.specs.Cursor.{cursor_cell_number}
use Rattle.bios_services.specs.Drawing.{characters_plan}

-- the run that the registers name: page BH, character AL, CX cells, colour BL; in text the colour
-- becomes the attribute, or each cell keeps its own
abbrev pub cell_run_of : Regs → Bool → CellRun
cell_run_of r is_attribute = record {
  page = high r.bx;
  character = low r.ax;
  colouring = record { colour = low r.bx; is_attribute = is_attribute };
  count = r.cx;
}

-- the character goes to each cell of the run, from the cursor of its page on
abbrev pub cell_run_plan : FontSet → BiosData → CellRun → Plan (Unit {0})
cell_run_plan fonts d cells = characters_plan fonts d cells.page (cursor_cell_number d cells.page)
    cells.character cells.colouring cells.count
