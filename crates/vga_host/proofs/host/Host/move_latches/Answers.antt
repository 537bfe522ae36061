-- A load keeps what the registers say; whatever is read, the latches are stored.
use Rattle.std.proofs.Common.{◌∙◌, ap, sym, subst}
use Rattle.vga_host.specs.Graphics.{write_mode}
use Rattle.vga_host.specs.Memory.Runs.{after_put_if_decoded, after_put_of_plane_bytes, byte_read_or_ff}
use Rattle.vga_host.specs.Memory.Access.{IsAccess}
use Rattle.vga_host.proofs.RunLemmas.{access_read, mode_read}
use Rattle.vga_host.proofs.host.Host.move_latches.Goals as goal

pub stored_latches-bytes-requires : goal.stored_latches-bytes-requires
stored_latches-bytes-requires c = ap write_mode c.load_latches_if_decoded.ensures ∙ mode_read c.args.self.now c.args.misc c.args.from ∙ c.requires.mode

pub store_bytes_if_decoded-requires : goal.store_bytes_if_decoded-requires
store_bytes_if_decoded-requires c =
    record { access = subst (IsAccess c.args.access) (sym c.load_latches_if_decoded.ensures) (access_read c.args.access c.args.self.now c.args.misc c.args.from c.requires.access) }

pub returns : goal.returns
returns c =
    let v = byte_read_or_ff c.args.self.now c.args.misc c.args.from in
    c.store_bytes_if_decoded.ensures
    ∙ ap (after_put_of_plane_bytes c.load_latches_if_decoded.new.self c.args.misc c.args.to) (c.stored_latches-bytes.ensures v)
    ∙ ap (λ x. after_put_if_decoded x c.args.misc c.args.to v) c.load_latches_if_decoded.ensures
