-- Runs of cycles over consecutive addresses, from or to the caller's bytes: the single cycles in
-- order, up or down.
use Rattle.std.specs.Prelude.{◌≡◌, ℕ, ◌+◌, Bool, true, false, nat_lt, if◌then◌else◌}
use Rattle.vga_card.specs.Card.{CardState}
use Rattle.vga_card.specs.Bus.{after_puts, after_moves, card_meaning}
use Rattle.vga_card.specs.Transfers.{after_gets, after_puts_last_first, after_gets_last_first}
use Rattle.vga_card.specs.Transfers.{after_moves_last_first}
use Rattle.vga_run.specs.declared.machine.Machine.{Machine}
use Rattle.vga_c.specs.Handle.{HandleState, machine_after_owed_dots}
use Rattle.vga_c.specs.Status.{bad_argument_status}

-- whether n addresses from the first on, and the one after them, fit in 32 bits
abbrev pub addresses_fit_32_bits : ℕ → ℕ → Bool
addresses_fit_32_bits first n = nat_lt (first + n) 0x1_0000_0000

-- the adapter after a write of each of n bytes, from the first up or from the last down
abbrev pub card_after_puts : Bool → ℕ → (ℕ → ℕ) → ℕ → CardState → CardState
card_after_puts down first f n c =
    if down then after_puts_last_first card_meaning first f n c else after_puts card_meaning first f n 0 c

-- the adapter after n reads of consecutive addresses, from the first up or from the last down
abbrev pub card_after_gets : Bool → ℕ → ℕ → CardState → CardState
card_after_gets down first n c =
    if down then after_gets_last_first card_meaning first n c else after_gets card_meaning first n 0 c

-- the adapter after n moves, each a read and a write, from the first up or from the last down
abbrev pub card_after_moves : Bool → ℕ → ℕ → ℕ → CardState → CardState
card_after_moves down from to n c =
    if down then after_moves_last_first card_meaning from to n c
    else after_moves card_meaning from to n 0 c

-- a machine's adapter is left as these cycles leave it, if their addresses fit in 32 bits;
-- otherwise the machine stays as it is, and the status says so
abbrev pub IsMachineAfterTransferIfAddressesFit : Bool → (CardState → CardState) → Machine → Machine → ℕ → Type 0
IsMachineAfterTransferIfAddressesFit are_some after old new status =
    (are_some ≡ true → (new ≡ record old { card = after old.card }) × (status ≡ 0))
    × (are_some ≡ false → (new ≡ old) × (status ≡ bad_argument_status))

-- the output describes the adapter as it was before the cycles; if the addresses do not fit in 32
-- bits, the output is unchanged
abbrev pub OutputDescribesCardBefore : {A : Type 0} → Bool → (CardState → A → Type 0) → CardState → A → A
    → Type 0
OutputDescribesCardBefore are_some Told card before after = (are_some ≡ true → Told card after)
    × (are_some ≡ false → after ≡ before)

-- an open card's adapter is left as these cycles leave it, if their addresses fit in 32 bits
abbrev pub OpenCardAfterTransfer : Bool → (CardState → CardState) → HandleState → HandleState → ℕ → Type 0
OpenCardAfterTransfer are_some after old new status = old.is_open ≡ true → (new.is_open ≡ true)
    × IsMachineAfterTransferIfAddressesFit are_some after (machine_after_owed_dots old) (machine_after_owed_dots new) status

-- the output describes an open card's adapter as it was before the cycles, if their addresses fit
-- in 32 bits
abbrev pub OutputDescribesOpenCardBefore : {A : Type 0} → Bool → (CardState → A → Type 0) → HandleState → A → A
    → Type 0
OutputDescribesOpenCardBefore are_some Told old before after = old.is_open ≡ true →
    OutputDescribesCardBefore are_some Told (machine_after_owed_dots old).card before after
