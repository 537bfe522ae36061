use Rattle.std.proofs.Common.{rules}
use Rattle.vga_bits.proofs.SavedLemmas.{put_behind}
use Rattle.vga_planes.specs.Saved.{saved_memory}
use Rattle.vga_planes.proofs.planes.Planes.save.Goals as goal

pub returns-clause-put : goal.returns-clause-put
unfolding saved_memory
returns-clause-put c = put_behind c.save_plane-at.ensures.put (put_behind c.save_plane-at-2.ensures.put
    (put_behind c.save_plane-at-3.ensures.put (c.save_plane.ensures.put)))

pub returns-clause-end : goal.returns-clause-end
unfolding saved_memory
returns-clause-end c = search rules
