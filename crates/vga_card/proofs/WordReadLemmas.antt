-- A read of a word of memory need not wait for dots.
use Rattle.std.proofs.Common.{◌≡◌, ℕ, ◌+◌, ◌*◌, ◌==◌, refl, sym, ap, ◌∙◌, Bool, true, false, Result, Ok, Err, if◌then◌else◌}
use Rattle.vga_bits.specs.Four.{Four}
use Rattle.vga_bits.specs.declared.refusal.Refusal.{Refusal}
use Rattle.vga_bits.specs.declared.refusal.Refusal.TheVariants.{NotDecoded}
use Rattle.vga_host.specs.Memory.Address.{is_decoded}
use Rattle.vga_host.specs.Memory.Read.{after_get, read_byte}
use Rattle.vga_card.specs.Card.{CardState}
use Rattle.vga_card.specs.Adapter.{CardStateWithoutBeamAndDots, without_beam_and_dots}
use Rattle.vga_card.specs.Cycles.{ReadResult, card_after_read, get_byte, if_decoded}
use Rattle.vga_card.specs.WordCycles.{adapter_after_read, both_reads_or_neither, after_two_byte_reads, unless_at_last_place, get_word_cycle}
use Rattle.vga_card.specs.Dots.{dots}
use Rattle.vga_card.proofs.HiddenLemmas.{same_adapter}
use Rattle.vga_card.proofs.OwedLemmas.{read_later}

-- what a read leaves, n dots on, and its answer
abbrev later : ℕ → ReadResult → ReadResult
later n now = (dots n now.0, now.1)

-- the read with this outcome may come before n dots
abbrev MayComeFirst : ℕ → CardState → Result (CardStateWithoutBeamAndDots × ℕ) Refusal → Type 0
MayComeFirst n c r = card_after_read (dots n c) r ≡ later n (card_after_read c r)

-- the adapter of a card with other latches
abbrev latched : CardState → Four ℕ → CardStateWithoutBeamAndDots
latched c latches = record (without_beam_and_dots c) { host = record c.host { latches = latches } }

second_read : (decoded : Bool) (n : ℕ) (c : CardState) (mid : CardStateWithoutBeamAndDots) (latches : Four ℕ) (low high : ℕ) →
    MayComeFirst n c (both_reads_or_neither (Ok (mid, low)) (if_decoded decoded (latched c latches, high)))
second_read false n c mid latches low high = refl
second_read true n c mid latches low high =
    ap (λ (a : CardStateWithoutBeamAndDots). card_after_read (dots n c) (Ok (record a { host = record c.host { latches = latches } }, low + 256 * high))) (sym (same_adapter n c))
    ∙ read_later true n c latches (low + 256 * high)

first_refused : (n : ℕ) (c : CardState) (e : Refusal) (second : Result (CardStateWithoutBeamAndDots × ℕ) Refusal) → MayComeFirst n c (both_reads_or_neither (Err e) second)
first_refused n c e (Ok (a, v)) = refl
first_refused n c e (Err g) = refl

both_reads : (decoded : Bool) (n : ℕ) (c : CardState) (mid : CardStateWithoutBeamAndDots) (low : ℕ) (second : CardStateWithoutBeamAndDots → Result (CardStateWithoutBeamAndDots × ℕ) Refusal) →
    MayComeFirst n c (both_reads_or_neither (Ok (mid, low)) (second mid)) →
    MayComeFirst n c (let first = if_decoded decoded (mid, low) in both_reads_or_neither first (second (adapter_after_read (without_beam_and_dots c) first)))
both_reads false n c mid low second same = first_refused n c NotDecoded (second (without_beam_and_dots c))
both_reads true n c mid low second same = same

but_at_last : (last : Bool) (n : ℕ) (c : CardState) (r : Result (CardStateWithoutBeamAndDots × ℕ) Refusal) → MayComeFirst n c r → MayComeFirst n c (if last then Err NotDecoded else r)
but_at_last false n c r same = same
but_at_last true n c r same = refl

pub get_word_does_not_wait : (n : ℕ) (c : CardState) (address : ℕ) →
    get_word_cycle (dots n c) address ≡ (dots n (get_word_cycle c address).0, (get_word_cycle c address).1)
get_word_does_not_wait n c address =
    let mid : CardStateWithoutBeamAndDots = record (without_beam_and_dots c) { host = after_get c.host address } in
    ap (λ (a : CardStateWithoutBeamAndDots). card_after_read (dots n c) (unless_at_last_place 0xFFFFFFFF address (after_two_byte_reads get_byte a address))) (same_adapter n c)
    ∙ but_at_last (address == 0xFFFFFFFF) n c (after_two_byte_reads get_byte (without_beam_and_dots c) address)
    (both_reads (is_decoded c.host c.misc address) n c mid (read_byte c.host address) (λ a. get_byte a (address + 1))
    (second_read (is_decoded mid.host c.misc (address + 1)) n c mid (after_get mid.host (address + 1)).latches (read_byte c.host address)
    (read_byte mid.host (address + 1))))
