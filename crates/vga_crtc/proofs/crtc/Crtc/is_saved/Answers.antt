use Rattle.std.proofs.Common.{rules}
use Rattle.vga_crtc.proofs.crtc.Crtc.is_saved.Goals as goal

pub returns-then-bytes-ne-SAVED_LEN : goal.returns-then-bytes-ne-SAVED_LEN
returns-then-bytes-ne-SAVED_LEN c = search rules

pub returns-then-index-le-INDEX_MASK : goal.returns-then-index-le-INDEX_MASK
returns-then-index-le-INDEX_MASK c = search rules

pub returns-else-index-le-INDEX_MASK : goal.returns-else-index-le-INDEX_MASK
returns-else-index-le-INDEX_MASK c = search rules
