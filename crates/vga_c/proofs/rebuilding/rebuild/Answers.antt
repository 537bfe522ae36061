use Rattle.std.proofs.Common.{inl}
use Rattle.vga_c.proofs.rebuilding.rebuild.Goals as goal

-- the script that is handed over is the one that was tried
pub returns-in-Ok : goal.returns-in-Ok
returns-in-Ok c = inl (c.in-Ok.rebuilt, c.in-Ok.ensures, c.hand_over.ensures)
