-- A load keeps what the registers say; what is read is written.
use Rattle.std.proofs.Common.{◌∙◌, ap, sym, subst}
use Rattle.vga_bits.specs.Four.{four_by_plane}
use Rattle.vga_host.specs.Memory.Write.{written_byte}
use Rattle.vga_host.specs.Memory.Runs.{after_put_if_decoded, after_put_of_plane_bytes, byte_read_or_ff}
use Rattle.vga_host.specs.Memory.Access.{IsAccess}
use Rattle.vga_host.proofs.RunLemmas.{access_read}
use Rattle.vga_host.proofs.host.Host.move_byte.Goals as goal

pub store_bytes_if_decoded-requires : goal.store_bytes_if_decoded-requires
store_bytes_if_decoded-requires c =
    record { access = subst (IsAccess c.args.access) (sym c.load_latches_if_decoded.ensures) (access_read c.args.access c.args.self.now c.args.misc c.args.from c.requires.access) }

pub returns : goal.returns
returns c =
    let h = c.load_latches_if_decoded.new.self in
    let v = byte_read_or_ff c.args.self.now c.args.misc c.args.from in
    c.store_bytes_if_decoded.ensures
    ∙ ap (after_put_of_plane_bytes h c.args.misc c.args.to) (c.written-bytes.ensures ∙ ap (λ b. four_by_plane (λ p. written_byte h b p)) c.byte_at_address_or_ff-byte.ensures)
    ∙ ap (λ x. after_put_if_decoded x c.args.misc c.args.to v) c.load_latches_if_decoded.ensures
