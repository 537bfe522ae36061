-- What words say is shown: what is read is spelled so, and what is spelled so is read.
use Rattle.std.proofs.Common.{◌≡◌, ℕ, ◌+◌, ◌≤◌, ◌↔◌, Bool, true, false, IsTrue, cond, ◌&&◌, nat_le, nat_lt, List, [], ◌∷◌, Option, Some, None, refl, sym, ◌∙◌}
use Rattle.std.proofs.Common.{subst, arith, codes}
use Rattle.std.specs.Str.{bytes_eq}
use Rattle.std.proofs.lemmas.Slice.Eq.{bytes_eq-Decides}
use Rattle.vga_script.specs.declared.dump_range.Shown.{Shown}
use Rattle.vga_script.specs.declared.dump_range.Shown.TheVariants as shown
use Rattle.vga_script.specs.DumpRange.{IsShownInRange}
use Rattle.vga_script.specs.Tokens.{in_lower_case}
use Rattle.vga_script.specs.Text.{shown_name, SpellsShownFields, SpellsShown}
use Rattle.vga_script.specs.StepReading.{◌>>=◌, next_hex_number, only_hex_number, only_decimal_number, no_word_left, shown_if_no_word_left, read_dac, read_plane, read_shown}
use Rattle.vga_script.proofs.OptionLemmas.{bind_ok, guard_ok, and_ok, and_true, some_is, le_test, le_passes, lt_test, lt_passes}
use Rattle.vga_script.proofs.NumberLemmas.{hex_at_reads, spells_hex_at, one_hex_reads, spells_one_hex, one_decimal_reads, spells_one_decimal, ended_ok}
use Rattle.vga_script.proofs.NumberLemmas.{then_words}

-- bytes of a plane that pass the tests are in range
plane_range : (plane offset count : ℕ) → plane ≤ 3 → count ≤ 256 → (nat_lt 0 count && nat_le (offset + count) 0x1_0000) ≡ true →
    IsShownInRange (shown.Plane plane offset count)
plane_range plane offset count few most t =
    let h = and_ok (nat_lt 0 count) (nat_le (offset + count) 0x1_0000) t in
    (omega arith, lt_test 0 count h.0, most, le_test (offset + count) 0x1_0000 h.1)

-- what is in range passes the tests, and nothing else does
pub tests_pass : (plane offset count : ℕ) (b : Bool) → (IsTrue b ↔ IsShownInRange (shown.Plane plane offset count)) → b ≡ true
    → (nat_lt 0 count && nat_le (offset + count) 0x1_0000) ≡ true
tests_pass plane offset count true same is = let h = same.0 refl in and_true _ _ (lt_passes _ _ h.1) (le_passes _ _ h.3)
tests_pass plane offset count false same is = absurd (cc)

pub tests_fail : (plane offset count : ℕ) (b : Bool) → plane ≤ 3 → count ≤ 256 → (IsTrue b ↔ IsShownInRange (shown.Plane plane offset count)) → b ≡ false
    → (nat_lt 0 count && nat_le (offset + count) 0x1_0000) ≡ false
tests_fail plane offset count true few most same is = absurd (cc)
tests_fail plane offset count false few most same is =
    by_cases (nat_lt 0 count && nat_le (offset + count) 0x1_0000)
    (λ t. same.1 (plane_range plane offset count few most t))
  where
    by_cases : (a : Bool) → (a ≡ true → false ≡ true) → a ≡ false
    by_cases true f = sym (f refl)
    by_cases false f = refl

-- ---- what is read is spelled

-- this is shown by this name, and the words after it are its fields
abbrev Spelled : List ℕ → List (List ℕ) → Shown → Type 0
Spelled name ws what = (shown_name what ≡ name) × SpellsShownFields ws what

-- two that are one
same_shown : (name : List ℕ) (ws : List (List ℕ)) (one what : Shown) → one ≡ what → Spelled name ws one → Spelled name ws what
same_shown name ws one what e h = subst (Spelled name ws) e h

plane_found : (ws : List (List ℕ)) (plane offset count : ℕ) (what : Shown) → shown.Plane plane offset count ≡ what →
    SpellsShownFields ws (shown.Plane plane offset count) → Spelled (codes "plane") ws what
plane_found ws plane offset count what e h = same_shown (codes "plane") ws (shown.Plane plane offset count) what e (refl, h)

alone_reads : (name : List ℕ) (one : Shown) (ws : List (List ℕ)) (what : Shown) → shown_name one ≡ name → (ws ≡ [] → SpellsShownFields ws one) →
    shown_if_no_word_left one ws ≡ Some what → Spelled name ws what
unfolding shown_if_no_word_left
alone_reads name one ws what named fits e =
    let c = ended_ok ws (Some one) what e in
    same_shown name ws one what (some_is one what c.1) (named, fits c.0)

dac_reads : (ws : List (List ℕ)) (what : Shown) → read_dac ws ≡ Some what → Spelled (codes "dac") ws what
unfolding read_dac
dac_reads ws what e =
    let r = bind_ok (only_hex_number 2 0xFF ws) (λ n. Some (shown.Dac n)) what e in
    same_shown (codes "dac") ws (shown.Dac r.0) what (some_is (shown.Dac r.0) what r.2) (refl, one_hex_reads 2 0xFF ws r.0 r.1)

plane_reads : (ws : List (List ℕ)) (what : Shown) → read_plane ws ≡ Some what → Spelled (codes "plane") ws what
unfolding read_plane
plane_reads ws what e =
    let p = bind_ok (next_hex_number 1 3 ws) (λ p. next_hex_number 4 0xFFFF p.1 >>= λ o. only_decimal_number 256 o.1
    >>= λ n. cond (nat_lt 0 n && nat_le (o.0 + n) 0x1_0000) (Some (shown.Plane p.0 o.0 n)) None) what e in
    let o = bind_ok (next_hex_number 4 0xFFFF p.0.1) (λ o. only_decimal_number 256 o.1 >>= λ n. cond (nat_lt 0 n
    && nat_le (o.0 + n) 0x1_0000) (Some (shown.Plane p.0.0 o.0 n)) None) what p.2 in
    let n = bind_ok (only_decimal_number 256 o.0.1) (λ n. cond (nat_lt 0 n && nat_le (o.0.0 + n) 0x1_0000) (Some (shown.Plane p.0.0 o.0.0 n)) None) what o.2 in
    let g = guard_ok (nat_lt 0 n.0 && nat_le (o.0.0 + n.0) 0x1_0000) (Some (shown.Plane p.0.0 o.0.0 n.0)) what n.2 in
    let wp = hex_at_reads 1 3 ws p.0 p.1 in
    let wo = hex_at_reads 4 0xFFFF p.0.1 o.0 o.1 in
    let wn = one_decimal_reads 256 o.0.1 n.0 n.1 in
    plane_found ws p.0.0 o.0.0 n.0 what (some_is (shown.Plane p.0.0 o.0.0 n.0) what g.1) (
      wp.0,
      wo.0,
      wn.0,
      then_words ws wp.0 p.0.1 (wo.0 ∷ wn.0 ∷ []) wp.1 (then_words p.0.1 wo.0 o.0.1 (wn.0 ∷ []) wo.1 wn.1),
      wp.2,
      wo.2,
      wn.2,
      plane_range p.0.0 o.0.0 n.0 wp.3 wn.3 g.0,
    )

-- what follows from both ways of a test
either : {Q : Type 0} (b : Bool) (x y : Option Shown) (what : Shown) → cond b x y ≡ Some what → (b ≡ true → x ≡ Some what → Q) → (y ≡ Some what → Q) → Q
either true x y what e f g = f refl e
either false x y what e f g = g e

-- a name and its fields
named : (w : List ℕ) (ws : List (List ℕ)) (name : List ℕ) (what : Shown) → bytes_eq (in_lower_case w) name ≡ true → Spelled name ws what → SpellsShown (w ∷ ws) what
named w ws name what same h = (w, ws, refl, (bytes_eq-Decides (in_lower_case w) name).0 same ∙ sym h.0, h.1)

pub shown_reads : (ws : List (List ℕ)) (what : Shown) → read_shown ws ≡ Some what → SpellsShown ws what
unfolding read_shown
shown_reads [] what e = absurd (cc)
shown_reads (w ∷ ws) what e =
    either _ _ _ what e (λ t r. named w ws (codes "regs") what t (alone_reads (codes "regs") shown.Registers ws what refl (λ n. n) r))
    (λ e. either _ _ _ what e (λ t r. named w ws (codes "dac") what t (dac_reads ws what r))
    (λ e. either _ _ _ what e (λ t r. named w ws (codes "beam") what t (alone_reads (codes "beam") shown.Beam ws what refl (λ n. n) r))
    (λ e. either _ _ _ what e (λ t r. named w ws (codes "latches") what t (alone_reads (codes "latches") shown.Latches ws what refl (λ n. n) r))
    (λ e. either _ _ _ what e (λ t r. named w ws (codes "plane") what t (plane_reads ws what r))
    (λ e. either _ _ _ what e (λ t r. named w ws (codes "bda") what t (alone_reads (codes "bda") shown.BiosData ws what refl (λ n. n) r))
    (λ e. either _ _ _ what e (λ t r. named w ws (codes "cells") what t (alone_reads (codes "cells") shown.Cells ws what refl (λ n. n) r))
    (λ e. absurd (cc))))))))

-- and what is spelled is read
pub spells_shown : (ws : List (List ℕ)) (what : Shown) → SpellsShown ws what → read_shown ws ≡ Some what
unfolding read_shown shown_if_no_word_left read_dac read_plane no_word_left
spells_shown ws shown.Registers (first, rest, e, named, none) = rw (e, named, none) refl
spells_shown ws (shown.Dac index) (first, rest, e, named, hex) = rw (e, named, spells_one_hex 2 0xFF rest index hex (omega arith)) refl
spells_shown ws shown.Beam (first, rest, e, named, none) = rw (e, named, none) refl
spells_shown ws shown.Latches (first, rest, e, named, none) = rw (e, named, none) refl
spells_shown ws (shown.Plane plane offset count) (first, rest, e, named, (p, o, n, f, hp, ho, hn, (four, some, most, within))) =
    rw (
      e,
      named,
      f,
      spells_hex_at 1 3 p plane (o ∷ n ∷ []) hp (omega arith),
      spells_hex_at 4 0xFFFF o offset (n ∷ []) ho (omega arith),
      spells_one_decimal 256 n count hn most,
      lt_passes 0 count some,
      le_passes (offset + count) 0x1_0000 within,
    ) refl
spells_shown ws shown.BiosData (first, rest, e, named, none) = rw (e, named, none) refl
spells_shown ws shown.Cells (first, rest, e, named, none) = rw (e, named, none) refl
