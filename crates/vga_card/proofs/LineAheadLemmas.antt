-- What the dots ahead on a line may fetch.
use Rattle.std.proofs.Common.{◌≡◌, ℕ, ◌+◌, ◌/◌, ◌≤◌, sym, ap, subst, ◌∙◌, arith, Bool, true, false, Result, Ok, ◌==◌, refl, ◌%◌}
use Rattle.vga_bits.specs.declared.refusal.Refusal.{Refusal}
use Rattle.vga_host.specs.Host.{HostState}
use Rattle.vga_host.specs.OffsetRun.{is_in_run}
use Rattle.vga_host.specs.Graphics.{is_graphics}
use Rattle.vga_host.specs.Memory.Address.{is_decoded, window_offset, is_reached, plane_offset}
use Rattle.vga_host.specs.Memory.Write.{memory_after_put}
use Rattle.vga_crtc.specs.Crtc.{CrtcState}
use Rattle.vga_crtc.specs.Beam.{crtc_with_start_taken, after_dots}
use Rattle.vga_crtc.specs.Fields.{horizontal_display_end}
use Rattle.vga_crtc.specs.Raster.{IsFrameStart, IsWithinItsLine, dot_number_in_line, dots_to_line_end}
use Rattle.vga_crtc.specs.Status.{is_display}
use Rattle.vga_attr.specs.Attr.{AttrState}
use Rattle.vga_dots.specs.Fetch.{address_fetched_at_beam}
use Rattle.vga_dots.specs.Line.{with_beam_at_dot_of_character}
use Rattle.vga_card.specs.declared.line_ahead.LineAhead.{LineAhead}
use Rattle.vga_card.specs.Card.{CardState}
use Rattle.vga_card.specs.Adapter.{CardStateWithoutBeamAndDots, without_beam_and_dots, with_adapter}
use Rattle.vga_card.specs.Cycles.{WriteResult, put_cycle, card_after_write, if_decoded}
use Rattle.vga_card.specs.WordCycles.{put_word_cycle}
use Rattle.vga_card.specs.Dots.{character_width, dots}
use Rattle.vga_card.specs.Line.{card_dots_to_line_end}
use Rattle.vga_card.specs.LineAhead.{IsLineAhead, IsAtSameLine}
use Rattle.vga_card.specs.Owed.{DotsSeeSameMemory, crtc_after_dots_with_start_taken}
use Rattle.vga_card.proofs.PartLemmas.{BeamGoes, LineWhole, is_shown_at}
use Rattle.vga_card.proofs.HiddenLemmas.{same_adapter}
use Rattle.vga_card.proofs.WordWriteLemmas.{after_byte, byte_written, word_written, word_put}
use Rattle.vga_card.proofs.OwedLemmas.{Elsewhere, SeesWhatItFetches, in_line_dot, seen_alike, not_both, put_does_not_wait}

-- what is known of a line ahead stays true where the beam and its line do
pub line_stays : (line : LineAhead) (c new : CardState) → IsLineAhead line c → IsAtSameLine c new → IsLineAhead line new
line_stays line c new ahead same = record {
  inside = λ some. (let there : IsWithinItsLine (character_width c) c.crtc.registers c.crtc.beam = ahead.inside some in
      subst (λ (w : ℕ). IsWithinItsLine w new.crtc.registers new.crtc.beam) (sym same.width)
      (subst (λ (x : CrtcState). IsWithinItsLine (character_width c) x.registers x.beam) (sym same.crtc) there));
  few = (let end : card_dots_to_line_end new ≡ card_dots_to_line_end c = (λ j. dots_to_line_end (same.width j) (same.crtc j).registers (same.crtc j).beam) in
      omega (arith, ahead.few, end));
  at_most = ahead.at_most;
  each = λ h a i l shown.
      let there : crtc_after_dots_with_start_taken new i ≡ crtc_after_dots_with_start_taken c i =
      (λ j. crtc_with_start_taken (after_dots (same.crtc j) (same.width j) i)) in
      subst (λ (x : CrtcState). is_in_run line.fetched (address_fetched_at_beam h x a) ≡ true) (sym there)
      (ahead.each h a i l (ap (λ (x : CrtcState). is_display x.registers x.beam) (sym there) ∙ shown));
}

written_at_line : (decoded : Bool) (c : CardState) (address v : ℕ) → IsAtSameLine c (card_after_write c (if_decoded decoded (after_byte (without_beam_and_dots c) address v))).0
written_at_line true c address v = record { crtc = refl; width = refl }
written_at_line false c address v = record { crtc = refl; width = refl }

-- and so it does after a write of memory
pub put_stays_at_line : (line : LineAhead) (c new : CardState) (answer : Result (Unit {0}) Refusal) (address v : ℕ) →
    (let w : WriteResult = (new, answer) in w) ≡ put_cycle c address v → IsLineAhead line c → IsLineAhead line new
put_stays_at_line line c new answer address v done ahead =
    line_stays line c new ahead (subst (λ (x : CardState). IsAtSameLine c x) (sym (ap (λ (w : WriteResult). w.0) done)) (written_at_line (is_decoded c.host c.misc address) c address v))

-- a write outside of what the dots ahead may fetch is not seen by them
pub line_sees_alike : (line : LineAhead) (n : ℕ) (c : CardState) (w v : ℕ) → IsLineAhead line c → n ≤ line.dots → is_in_run line.fetched (plane_offset c.host w) ≡ false →
    (is_graphics c.host ≡ false → is_reached c.host w 2 ≡ false) → DotsSeeSameMemory n c (memory_after_put c.host w v)
line_sees_alike line n c w v ahead few outside beside = record {
  each = λ i l shown.
      let x : CrtcState = crtc_after_dots_with_start_taken c i in
      seen_alike c.host x c.attr w v
      (λ same. not_both (is_in_run line.fetched (address_fetched_at_beam c.host x c.attr)) (ahead.each c.host c.attr i (omega (arith, l, few)) shown)
      (sym (ap (is_in_run line.fetched) same ∙ outside)))
      beside;
}

-- the dots up to the end of a line fetch what the line's characters fetch
pub line_to_its_end : Elsewhere → BeamGoes → LineWhole → (line : LineAhead) (c : CardState) → ¬ IsFrameStart c.crtc.beam →
    IsWithinItsLine (character_width c) c.crtc.registers c.crtc.beam → line.dots ≤ card_dots_to_line_end c → line.dots ≤ 2340 →
    ((h : HostState) (a : AttrState) (x k : ℕ) → x ≤ horizontal_display_end c.crtc.registers →
    is_in_run line.fetched (address_fetched_at_beam h (with_beam_at_dot_of_character c.crtc x k) a) ≡ true) → IsLineAhead line c
line_to_its_end elsewhere goes whole line c away inside few at_most fetched = record {
  inside = λ some. inside;
  few = few;
  at_most = at_most;
  each = λ h a i l shown.
      let cw = character_width c in
      let q = dot_number_in_line cw c.crtc.beam + i in
      let there : crtc_after_dots_with_start_taken c i ≡ with_beam_at_dot_of_character c.crtc (q / cw) (q % cw) = in_line_dot elsewhere goes whole line.dots c away inside few i l in
      subst (λ (x : CrtcState). is_in_run line.fetched (address_fetched_at_beam h x a) ≡ true) (sym there)
      (fetched h a (q / cw) (q % cw)
      (is_shown_at c.crtc.registers (with_beam_at_dot_of_character c.crtc (q / cw) (q % cw)).beam (ap (λ (x : CrtcState). is_display x.registers x.beam) (sym there) ∙ shown)));
}

-- a write outside of what the dots ahead may fetch is the same before them and after them
pub put_not_seen : SeesWhatItFetches → (line : LineAhead) (n : ℕ) (c new : CardState) (address v : ℕ) → IsLineAhead line c → n ≤ line.dots →
    is_in_run line.fetched (plane_offset c.host (window_offset c.host address)) ≡ false →
    (is_graphics c.host ≡ false → is_reached c.host (window_offset c.host address) 2 ≡ false) → (let w : WriteResult = (new, Ok tt) in w) ≡ put_cycle c address v →
    (let w : WriteResult = (dots n new, Ok tt) in w) ≡ put_cycle (dots n c) address v
put_not_seen sees line n c new address v ahead few outside beside done =
    ap (λ (w : WriteResult). let later : WriteResult = (dots n w.0, w.1) in later) done
    ∙ sym (put_does_not_wait sees n c address v (line_sees_alike line n c (window_offset c.host address) v ahead few outside beside))

-- and so are two writes of bytes, as a word
pub put_word_not_seen : SeesWhatItFetches → (line : LineAhead) (n : ℕ) (c new : CardState) (address v : ℕ) → (address == 0xFFFFFFFF) ≡ false →
    is_decoded c.host c.misc address ≡ true → is_decoded c.host c.misc (address + 1) ≡ true → IsLineAhead line c → n ≤ line.dots →
    (is_in_run line.fetched (plane_offset c.host (window_offset c.host address)) ≡ false) × (is_in_run line.fetched (plane_offset c.host (window_offset c.host (address + 1))) ≡ false) →
    (is_graphics c.host ≡ false → (is_reached c.host (window_offset c.host address) 2 ≡ false) × (is_reached c.host (window_offset c.host (address + 1)) 2 ≡ false)) →
    (let w : WriteResult = (new, Ok tt) in w) ≡ put_word_cycle c address v → (let w : WriteResult = (dots n new, Ok tt) in w) ≡ put_word_cycle (dots n c) address v
put_word_not_seen sees line n c new address v not-last first second ahead few outside beside done =
    let low = v % 256 in
    let high = v / 256 in
    let mid : CardState = with_adapter c (after_byte (without_beam_and_dots c) address low) in
    let end : CardState = with_adapter mid (after_byte (without_beam_and_dots mid) (address + 1) high) in
    let is-end : new ≡ end = ap (λ (w : WriteResult). w.0) (done ∙ word_written c address v not-last first second) in
    let there : (place : ℕ) → is_decoded (dots n c).host (dots n c).misc place ≡ is_decoded c.host c.misc place =
    λ place. ap (λ (a : CardStateWithoutBeamAndDots). is_decoded a.host a.misc place) (same_adapter n c) in
    ap (λ (x : CardState). let w : WriteResult = (dots n x, Ok tt) in w) is-end
    ∙ word_put (dots n c) (dots n mid) (dots n end) (Ok tt) address v not-last (there address ∙ first) (there (address + 1) ∙ second)
    (put_not_seen sees line n c mid address low ahead few outside.0 (λ text. (beside text).0) (sym (byte_written c address low first)))
    (put_not_seen sees line n mid end (address + 1) high (line_stays line c mid ahead (record { crtc = refl; width = refl })) few outside.1 (λ text. (beside text).1)
    (sym (byte_written mid (address + 1) high second)))
