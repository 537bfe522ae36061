-- A machine is read back from its bytes.
use Rattle.std.proofs.Common.{◌≡◌, ℕ, ◌+◌, ◌*◌, ◌/◌, ◌%◌, ◌≤◌, refl, sym, ap, ◌∙◌, subst, arith, List, ◌++◌, length, take, drop, length-append}
use Rattle.std.proofs.lemmas.List.{take_at, drop_at}
use Rattle.vga_card.specs.Saved.{saved_card, IsSavedCard, card_from}
use Rattle.vga_card.specs.FreshCanvas.{without_dots_of_ended_frame}
use Rattle.bios_modes.specs.Saved.{saved_bda, IsSavedBda, bda_from}
use Rattle.vga_run.specs.declared.machine.Machine.{Machine}
use Rattle.vga_run.specs.Saved.{saved_mark, four_bytes_of_number, number_of_four_bytes, saved_parts, saved_machine, past_header, past_bda, IsSavedMachine, machine_from}
use Rattle.vga_run.specs.Saved.{machine_without_unseen_dots}

long_back : (n : ℕ) → n % 65536 % 256 + 256 * (n % 65536 / 256) + 65536 * (n / 65536 % 256 + 256 * (n / 65536 / 256)) ≡ n
long_back n = omega arith

-- the header counts all bytes
pub header_counts : (m : Machine) → length (saved_machine m) ≡ 9 + length (saved_parts m)
unfolding saved_machine
header_counts m = omega arith

pub machine_len : (m : Machine) → length (saved_bda m.bda) ≡ 31 → length (saved_machine m) ≡ 40 + length (saved_card m.card)
unfolding saved_parts
machine_len m bda = omega (arith, bda, header_counts m, length-append (saved_bda m.bda) (saved_card m.card))

-- the bytes of a machine, part by part
pub machine_bytes : (m : Machine) (len : ℕ) → len ≡ length (saved_machine m)
    → (saved_mark ++ four_bytes_of_number len) ++ (saved_bda m.bda ++ saved_card m.card) ≡ saved_machine m
unfolding saved_machine saved_parts
machine_bytes m len e =
    let counted : len ≡ 9 + length (saved_parts m) = e ∙ header_counts m in
    ap (λ (n : ℕ). (saved_mark ++ four_bytes_of_number n) ++ (saved_bda m.bda ++ saved_card m.card)) counted

-- where the slice is as long as the machine's bytes, there is room for the BIOS data after the header
pub bda_fits : (slice left whole card next : ℕ) → left ≡ slice → slice ≡ whole → whole ≡ 40 + card → next ≡ 9 → next + 31 ≤ left
bda_fits slice left whole card next same given counted there = omega arith

-- and after the BIOS data for the adapter
pub card_fits : (slice mid left whole card dots at next : ℕ) → mid ≡ slice → left ≡ mid → slice ≡ whole → whole ≡ 40 + card → card ≡ dots → at ≡ 9
    → next ≡ at + 31 → next + dots ≤ left
card_fits slice mid left whole card dots at next first second given counted drawn there behind = omega arith

-- and the slice ends after the adapter
pub whole_put : (slice mid last left whole next : ℕ) → mid ≡ slice → last ≡ mid → left ≡ last → slice ≡ whole → next ≡ 0 + whole → left ≡ next
whole_put slice mid last left whole next first second third given ends = omega arith

module _ (m : Machine) (size : length (saved_bda m.bda) ≡ 31) (card : IsSavedCard (saved_card m.card)) where
  header_past : past_header (saved_machine m) ≡ saved_bda m.bda ++ saved_card m.card
  unfolding saved_machine saved_parts
  header_past = refl

  bda_past : past_bda (saved_machine m) ≡ saved_card m.card
  bda_past = ap (drop 31) header_past ∙ drop_at (saved_bda m.bda) (saved_card m.card) 31 size

  bda_are : take 31 (past_header (saved_machine m)) ≡ saved_bda m.bda
  bda_are = ap (take 31) header_past ∙ take_at (saved_bda m.bda) (saved_card m.card) 31 size

  len_is : number_of_four_bytes (saved_machine m) 5 ≡ length (saved_machine m)
  unfolding saved_machine
  len_is = long_back (9 + length (saved_parts m)) ∙ sym (header_counts m)

  pub machine_is_saved : IsSavedBda (saved_bda m.bda) → IsSavedMachine (saved_machine m)
  unfolding saved_machine
  machine_is_saved bda = record {
    magic = record { first = refl; second = refl; third = refl; fourth = refl };
    version = record { version = refl };
    len = record { counted = sym len_is; least = omega (arith, machine_len m size, card.size) };
    parts = record {
      bda = subst (λ (l : List ℕ). IsSavedBda l) (sym bda_are) bda;
      card = subst (λ (l : List ℕ). IsSavedCard l) (sym bda_past) card;
    };
  }

  pub machine_is_back : bda_from (saved_bda m.bda) ≡ m.bda → card_from (saved_card m.card) ≡ without_dots_of_ended_frame m.card
      → machine_from m.fonts (saved_machine m) ≡ machine_without_unseen_dots m
  unfolding machine_from
  machine_is_back bios adapter =
      let d = ap bda_from bda_are ∙ bios in
      let c = ap card_from bda_past ∙ adapter in
      λ j. record { card = c j; bda = d j; fonts = m.fonts }
