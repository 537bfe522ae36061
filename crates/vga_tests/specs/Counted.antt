-- An adapter that counts the cycles that are issued on it.
use Rattle.std.specs.Prelude.{ℕ, ◌+◌, ◌%◌, ◌^◌}
use Rattle.vga_card.specs.Card.{CardState}
use Rattle.vga_card.specs.Bus.{BusMeaning, card_write, card_read}

-- The adapter, and how many cycles it has had, modulo 2 to the power of 32.
pub record Counted : Type 0 where
  pub card : CardState
  pub cycles : ℕ

-- one cycle more
abbrev pub with_cycle : Counted → CardState → Counted
with_cycle counted card = record { card = card; cycles = (counted.cycles + 1) % 2 ^ 32 }

-- each cycle is issued on the adapter, and counted
abbrev pub counted_meaning : BusMeaning Counted
counted_meaning = record {
  write = λ counted place v. (
    with_cycle counted (card_write counted.card place v).0,
    (card_write counted.card place v).1,
  );
  read = λ counted place. (
    with_cycle counted (card_read counted.card place).0,
    (card_read counted.card place).1,
  );
}
