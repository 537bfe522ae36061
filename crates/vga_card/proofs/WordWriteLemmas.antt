-- A write of a word of memory, as its two bytes.
use Rattle.std.proofs.Common.{◌≡◌, ℕ, ◌+◌, ◌/◌, ◌%◌, ◌==◌, ◌&&◌, refl, sym, ap, ◌∙◌, Bool, true, false, Result, Ok, Err, if◌then◌else◌}
use Rattle.vga_bits.specs.declared.refusal.Refusal.{Refusal}
use Rattle.vga_bits.specs.declared.refusal.Refusal.TheVariants.{NotDecoded}
use Rattle.vga_host.specs.Memory.Address.{is_decoded}
use Rattle.vga_host.specs.Memory.Write.{after_put}
use Rattle.vga_card.specs.Card.{CardState}
use Rattle.vga_card.specs.Adapter.{CardStateWithoutBeamAndDots, without_beam_and_dots, with_adapter}
use Rattle.vga_card.specs.Cycles.{WriteResult, card_after_write, put_byte, put_cycle, if_decoded}
use Rattle.vga_card.specs.WordCycles.{adapter_after_write, both_writes_or_neither, after_two_byte_writes, put_word_cycle}

pub both_hold : (a b : Bool) → (a && b) ≡ true → (a ≡ true) × (b ≡ true)
both_hold true b both = (refl, both)
both_hold false b both = absurd (cc)

-- the adapter after a byte is written to memory
abbrev pub after_byte : CardStateWithoutBeamAndDots → ℕ → ℕ → CardStateWithoutBeamAndDots
after_byte a address v = record a { host = after_put a.host address v }

-- a byte that is decoded is written
pub byte_written : (c : CardState) (address v : ℕ) → is_decoded c.host c.misc address ≡ true →
    put_cycle c address v ≡ (let done : WriteResult = (with_adapter c (after_byte (without_beam_and_dots c) address v), Ok tt) in done)
byte_written c address v decoded = ap (λ (t : Bool). card_after_write c (if_decoded t (after_byte (without_beam_and_dots c) address v))) decoded

-- two bytes that are decoded are written one after the other
pub word_written : (c : CardState) (address v : ℕ) → (address == 0xFFFFFFFF) ≡ false → is_decoded c.host c.misc address ≡ true → is_decoded c.host c.misc (address + 1) ≡ true →
    put_word_cycle c address v
    ≡ (let done : WriteResult = (with_adapter c (after_byte (after_byte (without_beam_and_dots c) address (v % 256)) (address + 1) (v / 256)), Ok tt) in done)
word_written c address v few first second =
    let a = without_beam_and_dots c in
    let mid = after_byte a address (v % 256) in
    let new = after_byte mid (address + 1) (v / 256) in
    ap (λ (t : Bool). card_after_write c (if t then Err NotDecoded else after_two_byte_writes put_byte a address (v % 256) (v / 256))) few
    ∙ ap (λ (t : Bool). let one = if_decoded t mid in card_after_write c (both_writes_or_neither one (put_byte (adapter_after_write a one) (address + 1) (v / 256)))) first
    ∙ ap (λ (t : Bool). card_after_write c (both_writes_or_neither (Ok mid) (if_decoded t new))) second

-- the writes of the bytes of a word are the write of the word
pub word_put : (c mid new : CardState) (answer : Result (Unit {0}) Refusal) (address v : ℕ) → (address == 0xFFFFFFFF) ≡ false →
    is_decoded c.host c.misc address ≡ true → is_decoded c.host c.misc (address + 1) ≡ true →
    (mid, Ok tt) ≡ put_cycle c address (v % 256) → (new, answer) ≡ put_cycle mid (address + 1) (v / 256) → (new, answer) ≡ put_word_cycle c address v
word_put c mid new answer address v few first second low high =
    let between : mid ≡ with_adapter c (after_byte (without_beam_and_dots c) address (v % 256)) = ap (λ (w : WriteResult). w.0) (low ∙ byte_written c address (v % 256) first) in
    high ∙ ap (λ (x : CardState). put_cycle x (address + 1) (v / 256)) between
    ∙ byte_written (with_adapter c (after_byte (without_beam_and_dots c) address (v % 256))) (address + 1) (v / 256) second
    ∙ sym (word_written c address v few first second)
