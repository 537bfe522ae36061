use Rattle.std.proofs.Common.{◌≡◌, ◌<◌, ◌≤◌, ◌+◌, ◌-◌, ℕ, length}
use Rattle.std.specs.Prelude.{slice_index}
use Rattle.vga_card.specs.Bus.{card_meaning}
use Rattle.vga_card.specs.Transfers.{after_gets_last_first, byte_at_or_ff}
use Rattle.vga_card.proofs.TransferLemmas.{IsReadOnly}
use Rattle.vga_card.proofs.card.Card.get_slice_last_first.Given as goal

-- latches alone are others, what the reads that are left leave is what all leave, and the bytes so far are read
abbrev pub invariant-loop-i : goal.invariant-loop-i
invariant-loop-i l =
    IsReadOnly l.fn.self l.self
    × (after_gets_last_first card_meaning l.first (l.n - l.i) l.self ≡ after_gets_last_first card_meaning l.first l.n l.fn.self)
    × (length l.bytes ≡ l.n)
    × ((k : ℕ) → l.n - l.i ≤ k → k < l.n → slice_index l.bytes k ≡ byte_at_or_ff l.fn.self (l.first + k))
