use Rattle.std.proofs.Common.{◌≡◌, ◌∙◌, ◌+◌, ◌-◌, ◌++◌, ℕ, List, length, ap, refl, arith}
use Rattle.vga_bits.specs.Bytes.{zeros}
use Rattle.vga_run.specs.Saved.{four_bytes_of_number, saved_machine}
use Rattle.vga_c.specs.Checksum.{adler_32}
use Rattle.vga_c.specs.Fixed.{state_padded_for_checksum}
use Rattle.vga_c.proofs.fixed.save_fixed_length_state.Goals as goal

pub returns : goal.returns
returns c =
    let state = saved_machine c.args.machine.now in
    let len = length c.args.bytes.now in
    let size = c.saved_len-size.ensures.value in
    let rest : length c.split_at_mut-state.result.1.now ≡ len - (4 + length state) =
    omega (arith, size, c.split_at_mut-state.ensures.back_len, c.split_at_mut-body.ensures.front_len) in
    let body : c.save.new.out ++ c.clear.new.bytes ≡ state_padded_for_checksum state len =
    ap (λ (x : List ℕ). x ++ c.clear.new.bytes) c.save.ensures ∙ ap (λ (x : List ℕ). state ++ x) (c.clear.ensures ∙ ap zeros rest) in
    let sum = c.write_checksum.ensures ∙ ap (λ (b : List ℕ). four_bytes_of_number (adler_32 b)) body in (
      λ enough. (ap (λ (b : List ℕ). b ++ c.write_checksum.new.tail) body ∙ ap (λ (t : List ℕ). state_padded_for_checksum state len ++ t) sum, refl),
      λ few. absurd (omega (arith, few, size, c.if-bytes-size.false)),
    )
