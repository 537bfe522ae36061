use Rattle.std.proofs.Common.{◌+◌, ◌-◌, ◌%◌, ◌∙◌, refl, arith, length}
use Rattle.std.proofs.Math.Nat.{zero-mod}
use Rattle.std.specs.Prelude.{slice_index}
use Rattle.vga_host.specs.Memory.PlaneWords.{with_word_stored, word_of_byte_group}
use Rattle.vga_host.proofs.FillLemmas.{words_go_on}
use Rattle.vga_host.proofs.host.Host.store_byte_groups.Goals as goal

pub loop-done-init : goal.loop-done-init
loop-done-init c = (omega arith, zero-mod c.args.per, refl, refl)

pub loop-done-preserved : goal.loop-done-preserved
loop-done-preserved c =
    let s = c.loop-done.self in
    let f = c.args.first - c.args.access.start in
    let done = c.loop-done.done in
    let g = slice_index c.args.bytes.now in
    let w = word_of_byte_group c.args.per g in
    let kept = c.loop-done.invariant in
    words_go_on c.args.self.now s c.put_word.new.self c.args.per c.args.misc c.args.first (length c.args.bytes.now) f done g w c.requires.words
    (omega arith) kept.0 kept.1 kept.2 kept.3
    (c.put_word.ensures ∙ (λ j. with_word_stored s (λ p. c.requires.access.map_mask p j) ((f + done) % 65536) (c.word_of_byte_group.ensures j)))
