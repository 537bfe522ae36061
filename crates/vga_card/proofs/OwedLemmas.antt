-- Cycles that need not wait for dots.
use Rattle.std.proofs.Common.{◌≡◌, ℕ, zero, suc, ◌+◌, ◌/◌, ◌%◌, ◌<◌, ◌≤◌, refl, sym, ap, ◌∙◌, arith, Bool, true, false, List, [], ◌∷◌, ◌++◌, Some, Ok}
use Rattle.std.specs.Prelude.{if◌then◌else◌, slice_index, slice_set}
use Rattle.std.proofs.lemmas.List.{get_or-set_other}
use Rattle.vga_planes.specs.Planes.{byte_at}
use Rattle.vga_host.specs.Graphics.{is_graphics}
use Rattle.vga_crtc.specs.declared.beam.Beam.{Beam}
use Rattle.vga_crtc.specs.Beam.{with_frame_start_taken}
use Rattle.vga_crtc.specs.Raster.{IsFrameStart, IsWithinItsLine, beam_at_dot_of_line, dot_number_in_line}
use Rattle.vga_dots.specs.Line.{with_beam_at_dot_of_character}
use Rattle.vga_card.specs.Line.{card_dots_to_line_end}
use Rattle.vga_card.proofs.PartLemmas.{BeamGoes, LineWhole}
use Rattle.vga_bits.specs.Four.{Four}
use Rattle.vga_host.specs.Host.{HostState}
use Rattle.vga_host.specs.Memory.Address.{is_decoded, window_offset, is_reached, plane_offset}
use Rattle.vga_host.specs.Memory.Write.{after_put, memory_after_put, written_byte}
use Rattle.vga_crtc.specs.Crtc.{CrtcState}
use Rattle.vga_crtc.specs.Beam.{crtc_with_start_taken, after_dot, after_dots, dots as beam_dots}
use Rattle.vga_crtc.specs.Status.{is_display, status}
use Rattle.vga_attr.specs.Attr.{AttrState, after_flip_flop_reset}
use Rattle.vga_dac.specs.Dac.{DacState}
use Rattle.vga_dots.specs.SourceDot.{source_dot, panning_shift}
use Rattle.vga_dots.specs.Text.{text_nibble, is_foreground, is_glyph_dot, is_blinked_away, is_underlined, glyph_row, cell_at}
use Rattle.vga_dots.specs.Graphics.{planar_nibble, packed_byte, plane_bits}
use Rattle.vga_host.specs.Memory.Read.{after_get, read_byte}
use Rattle.vga_dots.specs.Colour.{nibble, colour_number, dot_colour}
use Rattle.vga_dots.specs.Fetch.{DotSeesSameBytes, address_fetched_at_beam}
use Rattle.vga_card.specs.declared.port.Port.TheVariants.{InputStatus1}
use Rattle.vga_card.specs.Picture.{Dot}
use Rattle.vga_card.specs.Card.{CardState}
use Rattle.vga_card.specs.Adapter.{CardStateWithoutBeamAndDots, without_beam_and_dots}
use Rattle.vga_card.specs.Port.{port_of}
use Rattle.vga_card.specs.Cycles.{inp_at, inp_reached, inp_cycle, put_cycle, get_cycle, card_after_write, card_after_read, if_decoded, WriteResult, ReadResult}
use Rattle.vga_card.specs.Dots.{character_width, dots_of_frame_so_far, display_dot, dot, dots}
use Rattle.vga_card.specs.Owed.{DotsSeeSameMemory, crtc_after_dots_with_start_taken}
use Rattle.vga_card.proofs.FrameLemmas.{dots_host, dots_change_only_beam_and_picture}

-- the adapter of a card around another host path
abbrev around : CardState → HostState → CardStateWithoutBeamAndDots
around c h = record (without_beam_and_dots c) { host = h }

-- ---- a read of input status 1

-- the card after the flip-flop is cleared
abbrev pub cleared : CardState → CardState
cleared c = record c { attr = after_flip_flop_reset c.attr }

-- no dot sees the flip-flop
same_dot : (h : HostState) (c : CrtcState) (a : AttrState) (d : DacState) → display_dot h c (after_flip_flop_reset a) d ≡ display_dot h c a d
unfolding display_dot dot_colour colour_number nibble source_dot panning_shift text_nibble is_foreground is_glyph_dot is_blinked_away is_underlined
same_dot h c a d = refl

cleared_dot : (c : CardState) → dot (cleared c) ≡ cleared (dot c)
unfolding dot
cleared_dot c = ap (λ (x : List Dot). record c { crtc = after_dot c.crtc (character_width c); attr = after_flip_flop_reset c.attr; drawn = dots_of_frame_so_far c ++ x })
    (same_dot c.host (crtc_with_start_taken c.crtc) c.attr c.dac)

pub cleared_dots : (n : ℕ) (c : CardState) → dots n (cleared c) ≡ cleared (dots n c)
unfolding dots
cleared_dots zero c = refl
cleared_dots (suc n) c = ap (dots n) (cleared_dot c) ∙ cleared_dots n (dot c)

dots_misc : (n : ℕ) (c : CardState) → (dots n c).misc ≡ c.misc
unfolding dots dot
dots_misc zero c = refl
dots_misc (suc n) c = dots_misc n (dot c)

dots_crtc : (n : ℕ) (c : CardState) → (dots n c).crtc ≡ after_dots c.crtc (character_width c) n
dots_crtc n c = ap (λ (x : CardState). x.crtc) (dots_change_only_beam_and_picture n c)

status_read : (c : CardState) → inp_at c (Some InputStatus1) ≡ (cleared c, Ok (status c.crtc))
unfolding inp_reached
status_read c = refl

-- n dots and then a read of input status 1 are the read with the beam n dots on, and then the dots
pub status_does_not_wait : (n : ℕ) (c : CardState) (port : ℕ) → port_of c.misc port ≡ Some InputStatus1 →
    inp_cycle (dots n c) port ≡ (dots n (inp_cycle c port).0, Ok (status (after_dots c.crtc (character_width c) n)))
status_does_not_wait n c port reached =
    let d = dots n c in
    ap (λ m. inp_at d (port_of m port)) (dots_misc n c)
    ∙ ap (λ p. inp_at d p) reached
    ∙ status_read d
    ∙ ap (λ (x : CrtcState). (cleared d, Ok (status x))) (dots_crtc n c)
    ∙ ap (λ (x : CardState). (x, Ok (status (after_dots c.crtc (character_width c) n)))) (sym (cleared_dots n c))
    ∙ ap (λ (x : ReadResult). (dots n x.0, Ok (status (after_dots c.crtc (character_width c) n)))) (sym (ap (λ p. inp_at c p) reached ∙ status_read c))

-- the flip-flop cleared at once and the status of n dots on are what a read after them leaves and answers
pub status_now : (n : ℕ) (c : CardState) (port : ℕ) → port_of c.misc port ≡ Some InputStatus1 →
    (let now : ReadResult = (dots n (cleared c), Ok (status (after_dots c.crtc (character_width c) n))) in now ≡ inp_cycle (dots n c) port)
status_now n c port reached =
    sym (status_does_not_wait n c port reached
    ∙ ap (λ (x : ReadResult). let now : ReadResult = (dots n x.0, Ok (status (after_dots c.crtc (character_width c) n))) in now) (ap (λ p. inp_at c p) reached ∙ status_read c))

-- ---- a write of memory

abbrev pub with_memory : CardState → Four (List ℕ) → CardState
with_memory c memory = record c { host = record c.host { memory = memory } }

-- what the dots of a place promise of its colour
abbrev pub SeesWhatItFetches : Type 0
SeesWhatItFetches = (h : HostState) (c : CrtcState) (a : AttrState) (d : DacState) (memory : Four (List ℕ)) → DotSeesSameBytes h c a memory →
    dot_colour (record h { memory = memory }) c a d ≡ dot_colour h c a d

same_shown : (v : Bool) (x y : List Dot) → (v ≡ true → x ≡ y) → (if v then x else []) ≡ (if v then y else [])
same_shown true x y e = e refl
same_shown false x y e = refl

alike_dot : SeesWhatItFetches → (h : HostState) (c : CrtcState) (a : AttrState) (d : DacState) (memory : Four (List ℕ)) →
    (is_display c.registers c.beam ≡ true → DotSeesSameBytes h c a memory) → display_dot (record h { memory = memory }) c a d ≡ display_dot h c a d
unfolding display_dot
alike_dot sees h c a d memory alike =
    same_shown (is_display c.registers c.beam) _ _ (λ shown.
    ap (λ (x : List ℕ). record { line = c.beam.line; colour = x } ∷ []) (sees h c a d memory (alike shown)))

here : (c : CardState) → crtc_after_dots_with_start_taken c 0 ≡ crtc_with_start_taken c.crtc
unfolding after_dots beam_dots
here c = refl

memory_dot : SeesWhatItFetches → (c : CardState) (memory : Four (List ℕ)) →
    (is_display (crtc_with_start_taken c.crtc).registers (crtc_with_start_taken c.crtc).beam ≡ true → DotSeesSameBytes c.host (crtc_with_start_taken c.crtc) c.attr memory) →
    dot (with_memory c memory) ≡ with_memory (dot c) memory
unfolding dot
memory_dot sees c memory alike =
    ap (λ (x : List Dot). record (with_memory c memory) { crtc = after_dot c.crtc (character_width c); drawn = dots_of_frame_so_far c ++ x })
    (alike_dot sees c.host (crtc_with_start_taken c.crtc) c.attr c.dac memory alike)

first_alike : (n : ℕ) (c : CardState) (memory : Four (List ℕ)) → DotsSeeSameMemory (suc n) c memory →
    is_display (crtc_with_start_taken c.crtc).registers (crtc_with_start_taken c.crtc).beam ≡ true → DotSeesSameBytes c.host (crtc_with_start_taken c.crtc) c.attr memory
unfolding after_dots beam_dots
first_alike n c memory alike = alike.each 0 (omega arith)

rest_alike : (n : ℕ) (c : CardState) (memory : Four (List ℕ)) → DotsSeeSameMemory (suc n) c memory → DotsSeeSameMemory n (dot c) memory
unfolding dot after_dot after_dots beam_dots
rest_alike n c memory alike = record { each = λ i l. alike.each (suc i) (omega (arith, l)) }

-- dots that see two memories alike are drawn alike
pub memory_dots : SeesWhatItFetches → (n : ℕ) (c : CardState) (memory : Four (List ℕ)) → DotsSeeSameMemory n c memory →
    dots n (with_memory c memory) ≡ with_memory (dots n c) memory
unfolding dots
memory_dots sees zero c memory alike = refl
memory_dots sees (suc n) c memory alike =
    ap (dots n) (memory_dot sees c memory (first_alike n c memory alike)) ∙ memory_dots sees n (dot c) memory (rest_alike n c memory alike)

written_later : SeesWhatItFetches → (decoded : Bool) (n : ℕ) (c : CardState) (memory : Four (List ℕ)) → DotsSeeSameMemory n c memory →
    card_after_write (dots n c) (if_decoded decoded (around (dots n c) (record c.host { memory = memory })))
    ≡ (let now = card_after_write c (if_decoded decoded (around c (record c.host { memory = memory }))) in let later : WriteResult = (dots n now.0, now.1) in later)
written_later sees false n c memory alike = refl
written_later sees true n c memory alike =
    ap (λ (x : CardState). (x, Ok tt))
    (ap (λ (h : HostState). record (dots n c) { host = record h { memory = memory } }) (sym (dots_host n c)) ∙ sym (memory_dots sees n c memory alike))

-- n dots and then a write that they do not see are the write and then the dots
pub put_does_not_wait : SeesWhatItFetches → (n : ℕ) (c : CardState) (address v : ℕ) → DotsSeeSameMemory n c (memory_after_put c.host (window_offset c.host address) v) →
    put_cycle (dots n c) address v ≡ (dots n (put_cycle c address v).0, (put_cycle c address v).1)
put_does_not_wait sees n c address v alike =
    let d = dots n c in
    ap (λ (h : HostState). card_after_write d (if_decoded (is_decoded h d.misc address) (around d (after_put h address v)))) (dots_host n c)
    ∙ ap (λ (m : ℕ). card_after_write d (if_decoded (is_decoded c.host m address) (around d (after_put c.host address v)))) (dots_misc n c)
    ∙ written_later sees (is_decoded c.host c.misc address) n c (memory_after_put c.host (window_offset c.host address) v) alike

-- ---- which writes are not seen

byte_where : (v : Bool) (xs : List ℕ) (o i b : ℕ) → (v ≡ true → i ≡ o → ⊥) → slice_index (if v then slice_set xs o b else xs) i ≡ slice_index xs i
byte_where true xs o i b away = get_or-set_other xs o i b 0 (away refl)
byte_where false xs o i b away = refl

-- a write leaves all bytes but those at its place in the planes that it reaches
byte_stays : (h : HostState) (w v i : ℕ) (p : ℕ) → p < 4 → (is_reached h w p ≡ true → i ≡ plane_offset h w → ⊥) →
    byte_at (memory_after_put h w v) p i ≡ byte_at h.memory p i
byte_stays h w v i zero l away = byte_where (is_reached h w 0) h.memory.plane0 (plane_offset h w) i (written_byte h v 0) away
byte_stays h w v i (suc zero) l away = byte_where (is_reached h w 1) h.memory.plane1 (plane_offset h w) i (written_byte h v 1) away
byte_stays h w v i (suc (suc zero)) l away = byte_where (is_reached h w 2) h.memory.plane2 (plane_offset h w) i (written_byte h v 2) away
byte_stays h w v i (suc (suc (suc zero))) l away = byte_where (is_reached h w 3) h.memory.plane3 (plane_offset h w) i (written_byte h v 3) away
byte_stays h w v i (suc (suc (suc (suc p)))) l away = absurd (omega (arith, l))

never : (v : Bool) → v ≡ false → v ≡ true → ⊥
never true a b = absurd (cc)
never false a b = absurd (cc)

pub seen_alike : (h : HostState) (c : CrtcState) (a : AttrState) (w v : ℕ) → (address_fetched_at_beam h c a ≡ plane_offset h w → ⊥) →
    (is_graphics h ≡ false → is_reached h w 2 ≡ false) → DotSeesSameBytes h c a (memory_after_put h w v)
seen_alike h c a w v away beside = record {
  fetched = λ p l. byte_stays h w v (address_fetched_at_beam h c a) p l (λ reached. away);
  glyphs = λ text i. byte_stays h w v i 2 (omega arith) (λ reached same. never _ (beside text) reached);
}

pub not_both : (v : Bool) → v ≡ true → false ≡ v → ⊥
not_both true a b = absurd (cc)
not_both false a b = absurd (cc)

abbrev pub Elsewhere : Type 0
Elsewhere = (r : List ℕ) (b : Beam) → ¬ IsFrameStart b → with_frame_start_taken r b ≡ b

pub in_line_dot : Elsewhere → BeamGoes → LineWhole → (n : ℕ) (c : CardState) → ¬ IsFrameStart c.crtc.beam → IsWithinItsLine (character_width c) c.crtc.registers c.crtc.beam →
    n ≤ card_dots_to_line_end c → (i : ℕ) → i < n → crtc_after_dots_with_start_taken c i ≡ with_beam_at_dot_of_character c.crtc ((dot_number_in_line (character_width c) c.crtc.beam + i) / character_width c)
    ((dot_number_in_line (character_width c) c.crtc.beam + i) % character_width c)
unfolding crtc_with_start_taken after_dots
in_line_dot elsewhere goes whole n c away inside few i l =
    let w = character_width c in
    let r = c.crtc.registers in
    let b = c.crtc.beam in
    let q = dot_number_in_line w b + i in
    ap (λ (x : Beam). record c.crtc { beam = x }) (goes w r b i inside (omega (arith, whole w r b inside, few, l)) ∙ ap (λ (x : Beam). beam_at_dot_of_line w x q) (elsewhere r b away))

-- ---- a read of memory

abbrev with_latches : CardState → Four ℕ → CardState
with_latches c latches = record c { host = record c.host { latches = latches } }

-- no dot sees the latches
latched_dot : (h : HostState) (c : CrtcState) (a : AttrState) (d : DacState) (latches : Four ℕ) → display_dot (record h { latches = latches }) c a d ≡ display_dot h c a d
unfolding display_dot dot_colour colour_number nibble source_dot panning_shift text_nibble is_foreground glyph_row cell_at planar_nibble packed_byte plane_bits
latched_dot h c a d latches = refl

latches_dot : (c : CardState) (latches : Four ℕ) → dot (with_latches c latches) ≡ with_latches (dot c) latches
unfolding dot
latches_dot c latches = ap (λ (x : List Dot). record (with_latches c latches) { crtc = after_dot c.crtc (character_width c); drawn = dots_of_frame_so_far c ++ x })
    (latched_dot c.host (crtc_with_start_taken c.crtc) c.attr c.dac latches)

latches_dots : (n : ℕ) (c : CardState) (latches : Four ℕ) → dots n (with_latches c latches) ≡ with_latches (dots n c) latches
unfolding dots
latches_dots zero c latches = refl
latches_dots (suc n) c latches = ap (dots n) (latches_dot c latches) ∙ latches_dots n (dot c) latches

pub read_later : (decoded : Bool) (n : ℕ) (c : CardState) (latches : Four ℕ) (v : ℕ) →
    card_after_read (dots n c) (if_decoded decoded (around (dots n c) (record c.host { latches = latches }), v))
    ≡ (let now = card_after_read c (if_decoded decoded (around c (record c.host { latches = latches }), v)) in let later : ReadResult = (dots n now.0, now.1) in later)
read_later false n c latches v = refl
read_later true n c latches v =
    ap (λ (x : CardState). (x, Ok v))
    (ap (λ (h : HostState). record (dots n c) { host = record h { latches = latches } }) (sym (dots_host n c)) ∙ sym (latches_dots n c latches))

pub get_does_not_wait : (n : ℕ) (c : CardState) (address : ℕ) → get_cycle (dots n c) address ≡ (dots n (get_cycle c address).0, (get_cycle c address).1)
get_does_not_wait n c address =
    let d = dots n c in
    ap (λ (h : HostState). card_after_read d (if_decoded (is_decoded h d.misc address) (around d (after_get h address), read_byte h address))) (dots_host n c)
    ∙ ap (λ (m : ℕ). card_after_read d (if_decoded (is_decoded c.host m address) (around d (after_get c.host address), read_byte c.host address))) (dots_misc n c)
    ∙ read_later (is_decoded c.host c.misc address) n c (after_get c.host address).latches (read_byte c.host address)
