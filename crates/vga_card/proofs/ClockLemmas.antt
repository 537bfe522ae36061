-- The clock of the adapter: its bits of input status 1 are those of the CRT controller, after any number of dots.
use Rattle.std.proofs.Common.{◌≡◌, ℕ, refl, sym, ap, subst, ◌∙◌, Bool, true, false}
use Rattle.std.specs.Prelude.{Option, None, Some, MatchOption, not, ◌+◌, List, if◌then◌else◌}
use Rattle.vga_bits.specs.Bits.{is_set}
use Rattle.vga_crtc.specs.declared.beam.Beam.{Beam}
use Rattle.vga_crtc.specs.Crtc.{CrtcState}
use Rattle.vga_crtc.specs.Beam.{after_dots, dots as beam_dots}
use Rattle.vga_crtc.specs.Status.{is_display, is_retrace, status}
use Rattle.vga_crtc.specs.Clock.{ChangesAfter, NeverChanges}
use Rattle.vga_card.specs.Card.{CardState}
use Rattle.vga_card.specs.Dots.{character_width, dots}
use Rattle.vga_card.specs.Clock.{status_bit_after_dots, StatusBitFirstChangesAfterDots, StatusBitNeverChanges}
use Rattle.vga_card.proofs.FrameLemmas.{dots_change_only_beam_and_picture}

-- ---- the two bits

first_bit : (display retrace : Bool) → is_set ((if display then 0 else 1) + (if retrace then 8 else 0)) 0 ≡ not display
first_bit true true = refl
first_bit true false = refl
first_bit false true = refl
first_bit false false = refl

fourth_bit : (display retrace : Bool) → is_set ((if display then 0 else 1) + (if retrace then 8 else 0)) 3 ≡ retrace
fourth_bit true true = refl
fourth_bit true false = refl
fourth_bit false true = refl
fourth_bit false false = refl

pub display_bit : (c : CrtcState) → is_set (status c) 0 ≡ not (is_display c.registers c.beam)
unfolding status
display_bit c = first_bit (is_display c.registers c.beam) (is_retrace c.registers c.beam)

pub retrace_bit : (c : CrtcState) → is_set (status c) 3 ≡ is_retrace c.registers c.beam
unfolding status
retrace_bit c = fourth_bit (is_display c.registers c.beam) (is_retrace c.registers c.beam)

-- ---- after n dots

-- a bit that is a test of the beam, whatever the beam
abbrev Tests : ℕ → (Beam → Bool) → CardState → Type 0
Tests i test c = (n : ℕ) → status_bit_after_dots i c n ≡ test (beam_dots (character_width c) c.crtc.registers n c.crtc.beam)

moved : (c : CardState) (n : ℕ) → (dots n c).crtc ≡ after_dots c.crtc (character_width c) n
moved c n = ap (λ (x : CardState). x.crtc) (dots_change_only_beam_and_picture n c)

display_tests : (c : CardState) → Tests 0 (λ b. not (is_display c.crtc.registers b)) c
unfolding after_dots
display_tests c n = ap (λ x. is_set (status x) 0) (moved c n) ∙ display_bit (after_dots c.crtc (character_width c) n)

retrace_tests : (c : CardState) → Tests 3 (is_retrace c.crtc.registers) c
unfolding after_dots
retrace_tests c n = ap (λ x. is_set (status x) 3) (moved c n) ∙ retrace_bit (after_dots c.crtc (character_width c) n)

now : (i : ℕ) (test : Beam → Bool) (c : CardState) → Tests i test c → status_bit_after_dots i c 0 ≡ test c.crtc.beam
unfolding beam_dots
now i test c tests = tests 0

-- a bit changes and stays with its test
bit_changes : (i : ℕ) (test : Beam → Bool) (c : CardState) (n : ℕ) → Tests i test c →
    ChangesAfter test (character_width c) c.crtc.registers c.crtc.beam n → StatusBitFirstChangesAfterDots i c n
bit_changes i test c n tests is = record {
  changed = tests n ∙ is.changed ∙ ap not (sym (now i test c tests));
  first = λ m few. tests m ∙ is.first m few ∙ sym (now i test c tests);
}

bit_stays : (i : ℕ) (test : Beam → Bool) (c : CardState) → Tests i test c → NeverChanges test (character_width c) c.crtc.registers c.crtc.beam → StatusBitNeverChanges i c
bit_stays i test c tests is = λ m. tests m ∙ is m ∙ sym (now i test c tests)

-- a test and its opposite change together
opposite : (test : Beam → Bool) (cw : ℕ) (r : List ℕ) (b : Beam) (n : ℕ) → ChangesAfter test cw r b n → ChangesAfter (λ x. not (test x)) cw r b n
opposite test cw r b n is = record { changed = ap not is.changed; first = λ m few. ap not (is.first m few) }

-- ---- what the CRT controller says of the clock holds of the adapter

display_of : (c : CardState) (told : Option ℕ) →
    MatchOption told (NeverChanges (is_display c.crtc.registers) (character_width c) c.crtc.registers c.crtc.beam)
    (ChangesAfter (is_display c.crtc.registers) (character_width c) c.crtc.registers c.crtc.beam) → MatchOption told (StatusBitNeverChanges 0 c) (StatusBitFirstChangesAfterDots 0 c)
display_of c None is =
    bit_stays 0 (λ b. not (is_display c.crtc.registers b)) c (display_tests c) (λ m. ap not (is m))
display_of c (Some n) is =
    bit_changes 0 (λ b. not (is_display c.crtc.registers b)) c n (display_tests c)
    (opposite (is_display c.crtc.registers) (character_width c) c.crtc.registers c.crtc.beam n is)

retrace_of : (c : CardState) (told : Option ℕ) →
    MatchOption told (NeverChanges (is_retrace c.crtc.registers) (character_width c) c.crtc.registers c.crtc.beam)
    (ChangesAfter (is_retrace c.crtc.registers) (character_width c) c.crtc.registers c.crtc.beam) → MatchOption told (StatusBitNeverChanges 3 c) (StatusBitFirstChangesAfterDots 3 c)
retrace_of c None is = bit_stays 3 (is_retrace c.crtc.registers) c (retrace_tests c) is
retrace_of c (Some n) is = bit_changes 3 (is_retrace c.crtc.registers) c n (retrace_tests c) is

pub display_told : (c : CardState) (told : Option ℕ) (cw : ℕ) (x : CrtcState) → cw ≡ character_width c → x ≡ c.crtc →
    MatchOption told (NeverChanges (is_display x.registers) cw x.registers x.beam) (ChangesAfter (is_display x.registers) cw x.registers x.beam) →
    MatchOption told (StatusBitNeverChanges 0 c) (StatusBitFirstChangesAfterDots 0 c)
display_told c told cw x width same is =
    display_of c told (subst (λ w. MatchOption told (NeverChanges (is_display c.crtc.registers) w c.crtc.registers c.crtc.beam)
    (ChangesAfter (is_display c.crtc.registers) w c.crtc.registers c.crtc.beam)) width
    (subst (λ (y : CrtcState). MatchOption told (NeverChanges (is_display y.registers) cw y.registers y.beam)
    (ChangesAfter (is_display y.registers) cw y.registers y.beam)) same is))

pub retrace_told : (c : CardState) (told : Option ℕ) (cw : ℕ) (x : CrtcState) → cw ≡ character_width c → x ≡ c.crtc →
    MatchOption told (NeverChanges (is_retrace x.registers) cw x.registers x.beam) (ChangesAfter (is_retrace x.registers) cw x.registers x.beam) →
    MatchOption told (StatusBitNeverChanges 3 c) (StatusBitFirstChangesAfterDots 3 c)
retrace_told c told cw x width same is =
    retrace_of c told (subst (λ w. MatchOption told (NeverChanges (is_retrace c.crtc.registers) w c.crtc.registers c.crtc.beam)
    (ChangesAfter (is_retrace c.crtc.registers) w c.crtc.registers c.crtc.beam)) width
    (subst (λ (y : CrtcState). MatchOption told (NeverChanges (is_retrace y.registers) cw y.registers y.beam)
    (ChangesAfter (is_retrace y.registers) cw y.registers y.beam)) same is))
