use Rattle.std.proofs.Common.{rules}
use Rattle.vga_attr.proofs.attr.Attr.is_saved.Goals as goal

pub returns-then-bytes-ne-SAVED_LEN : goal.returns-then-bytes-ne-SAVED_LEN
returns-then-bytes-ne-SAVED_LEN c = search rules

pub returns-then-rest-le-INDEX_MASK : goal.returns-then-rest-le-INDEX_MASK
returns-then-rest-le-INDEX_MASK c = search rules

pub returns-else-rest-le-INDEX_MASK : goal.returns-else-rest-le-INDEX_MASK
returns-else-rest-le-INDEX_MASK c = search rules
