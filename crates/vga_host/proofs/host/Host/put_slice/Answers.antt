use Rattle.std.proofs.Common.{arith, ◌∙◌, ◌+◌, ap, sym, subst, length}
use Rattle.std.specs.Prelude.{slice_index}
use Rattle.vga_host.specs.Memory.Access.{IsAccess}
use Rattle.vga_host.specs.Memory.Runs.{after_put_of_plane_bytes}
use Rattle.vga_host.proofs.RunLemmas.{next_put, access_stays}
use Rattle.vga_host.proofs.FillLemmas.{access_kept, puts_rest}
use Rattle.vga_host.proofs.host.Host.put_slice.Goals as goal

pub loop-i-init : goal.loop-i-init
loop-i-init c =
    let done = c.store_whole_words-done in (
      access_kept c.access-access.result c.args.self.now _ c.access-access.ensures.access done.ensures.kept,
      puts_rest c.args.misc c.args.first (length c.args.bytes.now) done.result (slice_index c.args.bytes.now) c.args.self.now _ done.ensures.few
          done.ensures.put,
    )

pub loop-i-preserved : goal.loop-i-preserved
loop-i-preserved c =
    let s = c.loop-i.self in
    let i = c.loop-i.i in
    let misc = c.args.misc in
    let first = c.args.first in
    let g = slice_index c.args.bytes.now in
    let kept = c.loop-i.invariant in
    let now = c.store_bytes_if_decoded.ensures ∙ ap (after_put_of_plane_bytes s misc (first + i)) c.written_bytes_by_shortcut-word.ensures in (
      subst (IsAccess c.access-access.result) (sym now) (access_stays c.access-access.result s misc (first + i) (g i) kept.0),
      next_put misc first g i (length c.args.bytes.now) s _ _ (omega arith) now kept.1,
    )
