use Rattle.std.proofs.Common.{◌+◌, ◌-◌, ◌%◌, ◌∙◌, ap, sym, subst, refl, arith, ℕ, Bool}
use Rattle.std.proofs.Math.Nat.{zero-mod}
use Rattle.vga_bits.specs.Bits.{is_set}
use Rattle.vga_host.specs.Memory.Access.{IsAccess}
use Rattle.vga_host.specs.Memory.PlaneWords.{with_word_copied}
use Rattle.vga_host.proofs.WordLemmas.{access_over, words_go_on}
use Rattle.vga_host.proofs.host.Host.copy_words.Goals as goal

pub loop-done-init : goal.loop-done-init
loop-done-init c = (omega arith, zero-mod c.args.per, refl, refl)

pub overflow_sub-n : goal.overflow_sub-n
overflow_sub-n c = omega (arith, c.loop-done.invariant.0)

pub loop-done-smaller : goal.loop-done-smaller
loop-done-smaller c = omega (arith, c.requires.words.some, c.loop-done.invariant.0)

pub loop-done-preserved : goal.loop-done-preserved
loop-done-preserved c =
    let s = c.loop-done.self in
    let f = c.args.from - c.args.access.start in
    let t = c.args.to - c.args.access.start in
    let done = c.loop-done.done in
    let kept = c.loop-done.invariant in
    words_go_on c.args.self.now s c.move_word.new.self c.args.per c.args.misc c.args.from c.args.to c.args.n f t done c.requires.words (omega arith)
    kept.0 kept.1 kept.2 kept.3 c.move_word.ensures.bytes
    (c.move_word.ensures.moved ∙ ap (λ (reach : ℕ → Bool). with_word_copied s reach ((f + done) % 65536) ((t + done) % 65536)) (λ j p.
    (ap (λ (m : ℕ). is_set m p) c.requires.set ∙ c.requires.access.map_mask p) j))

pub returns-clause-few : goal.returns-clause-few
returns-clause-few c = c.loop-done.invariant.0

pub returns-clause-access : goal.returns-clause-access
returns-clause-access c =
    subst (IsAccess c.args.access) c.loop-done.invariant.2
    (access_over c.args.access c.args.self.now c.loop-done.self.memory c.loop-done.self.latches c.requires.access)

pub returns-clause-moved : goal.returns-clause-moved
returns-clause-moved c = sym c.loop-done.invariant.3
