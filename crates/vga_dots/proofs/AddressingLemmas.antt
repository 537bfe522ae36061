-- An address by multiplying and adding a bit is the fetch address.
use Rattle.std.proofs.Common.{◌≡◌, ℕ, ◌+◌, ◌-◌, ◌*◌, ◌/◌, ◌%◌, ◌<◌, ◌≤◌, arith, Bool, true, false, List, refl, subst}
use Rattle.std.specs.Prelude.{◌^◌, if◌then◌else◌}
use Rattle.std.specs.Prelude.{nat_lt}
use Rattle.std.specs.Int.{bit_at}
use Rattle.std.proofs.lemmas.Bool.Decides.{nat_tests}
use Rattle.vga_host.specs.Host.{HostState}
use Rattle.vga_host.specs.Sequencer.{character_width}
use Rattle.vga_crtc.specs.Crtc.{CrtcState}
use Rattle.vga_attr.specs.Attr.{AttrState}
use Rattle.vga_dots.specs.declared.source_dot.SourceDot.{SourceDot}
use Rattle.vga_dots.specs.SourceDot.{source_dot, panning_shift}
use Rattle.vga_dots.specs.Fetch.{address_fetched_at_beam}
use Rattle.vga_dots.specs.Line.{with_beam_at_dot_of_character}
use Rattle.vga_crtc.specs.Fields.{is_double_word, is_byte_mode, is_address_wrap}
use Rattle.vga_dots.specs.declared.addressing.Addressing.{Addressing}
use Rattle.vga_dots.specs.SourceDot.{fetch_address}
use Rattle.vga_dots.specs.Addressing.{addressing_of}
use Rattle.vga_host.specs.declared.offset_run.OffsetRun.{OffsetRun}
use Rattle.vga_host.specs.OffsetRun.{is_in_run}

-- the address by what is looked up
abbrev pub reached : Addressing → ℕ → ℕ
reached a n = (n * a.step % 65536 + n / 2 ^ a.bit % 2) % 65536

-- what is looked up, by the three bits of the registers
abbrev looked_up : Bool → Bool → Bool → Addressing
looked_up double byte wrap =
    if double then record { step = 4; bit = 16 } else if byte then record { step = 1; bit = 16 }
    else if wrap then record { step = 2; bit = 15 } else record { step = 2; bit = 13 }

small : (double byte wrap : Bool) → (looked_up double byte wrap).bit < 32
small true byte wrap = omega arith
small false true wrap = omega arith
small false false true = omega arith
small false false false = omega arith

same : (double byte wrap : Bool) (n : ℕ) → n < 65536 →
    reached (looked_up double byte wrap) n
    ≡ (if double then 4 * n % 65536 else if byte then n else 2 * n % 65536 + bit_at n (if wrap then 15 else 13))
same true byte wrap n l = omega (arith, l)
same false true wrap n l = omega (arith, l)
same false false true n l = omega (arith, l)
same false false false n l = omega (arith, l)

module _ (r : List ℕ) where
  pub bit_small : (addressing_of r).bit < 32
  unfolding addressing_of
  bit_small = small (is_double_word r) (is_byte_mode r) (is_address_wrap r)

  pub reached_is : (n : ℕ) → n < 65536 → reached (addressing_of r) n ≡ fetch_address r n
  unfolding addressing_of fetch_address
  reached_is n l = same (is_double_word r) (is_byte_mode r) (is_address_wrap r) n l

-- ---- places apart from those that a line fetches

-- the address by the three bits
abbrev fetched_by : Bool → Bool → Bool → ℕ → ℕ
fetched_by double byte wrap n = if double then 4 * n % 65536 else if byte then n else 2 * n % 65536 + bit_at n (if wrap then 15 else 13)

-- a character of the line is fetched less than its number of steps behind the first
near : (double byte wrap : Bool) (base j last place : ℕ) → last < 256 → j ≤ last + 1 →
    fetched_by double byte wrap ((base + j) % 65536) ≡ place
    → (last + 2) * (looked_up double byte wrap).step ≤ (place + (65536 - base * (looked_up double byte wrap).step % 65536)) % 65536 → ⊥
near true byte wrap base j last place l k e far = omega (arith, l, k, e, far)
near false true wrap base j last place l k e far = omega (arith, l, k, e, far)
near false false true base j last place l k e far = omega (arith, l, k, e, far)
near false false false base j last place l k e far = omega (arith, l, k, e, far)

near_line : (r : List ℕ) (base j last place : ℕ) → last < 256 → j ≤ last + 1 →
    (last + 2) * (addressing_of r).step ≤ (place + (65536 - base * (addressing_of r).step % 65536)) % 65536 → fetch_address r ((base + j) % 65536) ≡ place → ⊥
unfolding addressing_of fetch_address
near_line r base j last place l k far e = near (is_double_word r) (is_byte_mode r) (is_address_wrap r) base j last place l k e far

chosen : (v : Bool) (s t : SourceDot) (r : List ℕ) (place : ℕ) → (fetch_address r s.counter ≡ place → ⊥) → (fetch_address r t.counter ≡ place → ⊥) →
    fetch_address r (if v then s else t).counter ≡ place → ⊥
chosen true s t r place f g = f
chosen false s t r place f g = g

apart : (h : HostState) (c : CrtcState) (a : AttrState) (x k last place : ℕ) → last < 256 → x ≤ last →
    (last + 2) * (addressing_of c.registers).step ≤ (place + (65536 - c.beam.base * (addressing_of c.registers).step % 65536)) % 65536
    → address_fetched_at_beam h (with_beam_at_dot_of_character c x k) a ≡ place → ⊥
unfolding source_dot
apart h c a x k last place small l far =
    let dot = k + panning_shift h (with_beam_at_dot_of_character c x k) a in
    chosen (nat_lt dot (character_width h)) (record { counter = (c.beam.base + x) % 65536; dot = dot })
    (record { counter = (c.beam.base + (x + 1)) % 65536; dot = dot - character_width h }) c.registers place
    (near_line c.registers c.beam.base x last place small (omega (arith, l)) far)
    (near_line c.registers c.beam.base (x + 1) last place small (omega (arith, l)) far)

far_of : (x y : ℕ) → nat_lt x y ≡ false → y ≤ x
far_of x y h = grind (arith, nat_tests)

true_unless_false : (v : Bool) → (v ≡ false → ⊥) → v ≡ true
true_unless_false true never = refl
true_unless_false false never = absurd (never refl)

-- what the dots of a line fetch is in the run of the line
pub fetched_in_run : (h : HostState) (c : CrtcState) (a : AttrState) (x k last : ℕ) (run : OffsetRun) → last < 256 → x ≤ last →
    run.first ≡ c.beam.base * (addressing_of c.registers).step % 65536 → run.count ≡ (last + 2) * (addressing_of c.registers).step →
    is_in_run run (address_fetched_at_beam h (with_beam_at_dot_of_character c x k) a) ≡ true
fetched_in_run h c a x k last run small l first count =
    let place = address_fetched_at_beam h (with_beam_at_dot_of_character c x k) a in
    true_unless_false (is_in_run run place) (λ outside.
    apart h c a x k last place small l
    (far_of _ _ (subst (λ f. nat_lt ((place + (65536 - f)) % 65536) ((last + 2) * (addressing_of c.registers).step) ≡ false) first
    (subst (λ n. nat_lt ((place + (65536 - run.first)) % 65536) n ≡ false) count outside))) refl)
