use Rattle.std.proofs.Common.{ℕ, List, subst, arith}
use Rattle.vga_bits.specs.Saved.{IsPut}
use Rattle.vga_bits.proofs.SavedLemmas.{put_behind, put_whole}
use Rattle.vga_run.proofs.SavedLemmas.{machine_len, machine_bytes, bda_fits, card_fits, whole_put}
use Rattle.vga_run.proofs.machine.Machine.save.Goals as goal

pub put_header-at-requires-clause-room : goal.put_header-at-requires-clause-room
put_header-at-requires-clause-room c = omega (arith, c.requires, machine_len c.args.self.now c.restore_gives_what_was_saved.ensures.len)

pub save-at-requires : goal.save-at-requires
save-at-requires c =
    bda_fits _ _ _ _ _ c.put_header-at.auto.out c.requires (machine_len c.args.self.now c.restore_gives_what_was_saved.ensures.len) c.put_header-at.ensures.end

pub save-requires : goal.save-requires
save-requires c =
    card_fits _ _ _ _ _ _ _ _ c.put_header-at.auto.out c.save-at.auto.out c.requires (machine_len c.args.self.now c.restore_gives_what_was_saved.ensures.len)
    c.restore_gives_what_was_saved-2.ensures.len c.put_header-at.ensures.end c.save-at.ensures.end

pub returns : goal.returns
returns c =
    let m = c.args.self.now in
    let joined = put_behind c.put_header-at.ensures.put (put_behind c.save-at.ensures.put c.save.ensures) in
    let bytes = subst (λ (l : List ℕ). IsPut c.args.out.now c.save.new.out 0 c.save.result l)
    (machine_bytes m c.saved_len-len.result c.saved_len-len.ensures.value) joined in
    put_whole bytes (whole_put _ _ _ _ _ _ c.put_header-at.auto.out c.save-at.auto.out c.save.auto.out c.requires bytes.end)
