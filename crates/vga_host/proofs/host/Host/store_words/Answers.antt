use Rattle.std.proofs.Common.{◌+◌, ◌-◌, ◌%◌, ◌∙◌, ap, sym, refl, arith, ℕ, Bool}
use Rattle.std.proofs.Math.Nat.{zero-mod}
use Rattle.vga_host.specs.Memory.PlaneWords.{with_word_stored}
use Rattle.vga_host.specs.Memory.Runs.{even_or_odd_byte}
use Rattle.vga_host.proofs.FillLemmas.{words_go_on}
use Rattle.vga_host.proofs.host.Host.store_words.Goals as goal

pub loop-done-init : goal.loop-done-init
loop-done-init c = (omega arith, zero-mod c.args.per, refl, refl)

pub overflow_sub-n : goal.overflow_sub-n
overflow_sub-n c = omega (arith, c.loop-done.invariant.0)

pub loop-done-smaller : goal.loop-done-smaller
loop-done-smaller c = omega (arith, c.requires.words.some, c.loop-done.invariant.0)

pub loop-done-preserved : goal.loop-done-preserved
loop-done-preserved c =
    let s = c.loop-done.self in
    let f = c.args.first - c.args.access.start in
    let done = c.loop-done.done in
    let kept = c.loop-done.invariant in
    words_go_on c.args.self.now s c.put_word.new.self c.args.per c.args.misc c.args.first c.args.n f done (even_or_odd_byte c.args.even c.args.odd) (λ i. c.args.word) c.requires.words
    (omega arith) kept.0 kept.1 kept.2 kept.3
    (c.put_word.ensures ∙ ap (λ (reach : ℕ → Bool). with_word_stored s reach ((f + done) % 65536) c.args.word) (λ j p. c.requires.access.map_mask p j))

pub returns-clause-few : goal.returns-clause-few
returns-clause-few c = c.loop-done.invariant.0

pub returns-clause-kept : goal.returns-clause-kept
returns-clause-kept c = c.loop-done.invariant.2

pub returns-clause-put : goal.returns-clause-put
returns-clause-put c = sym c.loop-done.invariant.3
