-- Writes to registers that no dot sees need not wait for dots.
use Rattle.std.proofs.Common.{◌≡◌, ℕ, zero, suc, ◌+◌, ◌/◌, ◌%◌, ◌==◌, ◌&&◌, arith, refl, sym, ap, ◌∙◌, Bool, true, false, [], ◌∷◌, ◌++◌, Option, None, Some, Result, Ok, Err, if◌then◌else◌}
use Rattle.std.specs.Prelude.{slice_set, bit_and, not}
use Rattle.std.proofs.lemmas.List.{get_or-set_other}
use Rattle.std.proofs.lemmas.Bool.Decides.{nat_tests}
use Rattle.vga_bits.specs.declared.refusal.Refusal.{Refusal}
use Rattle.vga_bits.specs.Bits.{is_set}
use Rattle.vga_host.specs.Host.{HostState}
use Rattle.vga_host.specs.Sequencer.{character_width as host_width}
use Rattle.vga_host.specs.Ports.{is_refused_out, after_out, sequencer_data, graphics_data}
use Rattle.vga_crtc.specs.declared.beam.Beam.{Beam}
use Rattle.vga_crtc.specs.Crtc.{CrtcState}
use Rattle.vga_crtc.specs.Ports.{after_out as after_crtc}
use Rattle.vga_crtc.specs.Beam.{crtc_with_start_taken, after_dot, after_dots}
use Rattle.vga_crtc.specs.Status.{is_display}
use Rattle.vga_attr.specs.Attr.{AttrState}
use Rattle.vga_dac.specs.Dac.{DacState}
use Rattle.vga_dots.specs.Colour.{dot_colour}
use Rattle.vga_dots.specs.Seen.{DotsSeeSameRegisters}
use Rattle.vga_card.specs.declared.port.Port.{Port}
use Rattle.vga_card.specs.declared.port.Port.TheVariants.{Attribute, AttributeRegister, MiscellaneousWrite, SubsystemEnable, SequencerIndex, SequencerData, DacMask}
use Rattle.vga_card.specs.declared.port.Port.TheVariants.{DacReadIndex, DacWriteIndex, DacData, FeatureControl, MiscellaneousRead, GraphicsIndex, GraphicsData}
use Rattle.vga_card.specs.declared.port.Port.TheVariants.{CrtcIndex, CrtcData, InputStatus1}
use Rattle.vga_card.specs.Card.{CardState}
use Rattle.vga_card.specs.Adapter.{CardStateWithoutBeamAndDots, without_beam_and_dots, with_adapter}
use Rattle.vga_card.specs.Port.{port_of, crtc_port_of}
use Rattle.vga_card.specs.Cycles.{WriteResult, card_after_write, unless_refused, out_reached, out_byte, out_cycle}
use Rattle.vga_card.specs.WordCycles.{adapter_after_write, both_writes_or_neither, after_two_byte_writes, unless_at_last_place, out_word_cycle}
use Rattle.vga_card.specs.Dots.{dots_of_frame_so_far, display_dot, dot, dots}
use Rattle.vga_card.specs.Owed.{IsChangeHiddenFromDots}
use Rattle.vga_card.proofs.FrameLemmas.{dots_change_only_beam_and_picture}

-- ---- dots over a host path that they see alike

-- a dot's colour is the same over host paths that it sees alike
abbrev pub SeesFourRegisters : Type 0
SeesFourRegisters = (h other : HostState) (c : CrtcState) (a : AttrState) (d : DacState) → DotsSeeSameRegisters h other → dot_colour other c a d ≡ dot_colour h c a d

abbrev with_host : CardState → HostState → CardState
with_host c h = record c { host = h }

abbrev around : CardState → HostState → CardStateWithoutBeamAndDots
around c h = record (without_beam_and_dots c) { host = h }

width_alike : (h other : HostState) → DotsSeeSameRegisters h other → host_width other ≡ host_width h
width_alike h other alike = ap (λ n. if is_set n 0 then 8 else 9) alike.clocking_mode

alike_dot : SeesFourRegisters → (h other : HostState) (c : CrtcState) (a : AttrState) (d : DacState) → DotsSeeSameRegisters h other →
    display_dot other c a d ≡ display_dot h c a d
unfolding display_dot
alike_dot sees h other c a d alike = ap (λ x. if is_display c.registers c.beam then record { line = c.beam.line; colour = x } ∷ [] else []) (sees h other c a d alike)

hidden_dot : SeesFourRegisters → (c : CardState) (h : HostState) → DotsSeeSameRegisters c.host h → dot (with_host c h) ≡ with_host (dot c) h
unfolding dot
hidden_dot sees c h alike = λ j. record c {
  host = h;
  crtc = after_dot c.crtc (width_alike c.host h alike j);
  drawn = dots_of_frame_so_far c ++ alike_dot sees c.host h (crtc_with_start_taken c.crtc) c.attr c.dac alike j;
}

hidden_dots : SeesFourRegisters → (n : ℕ) (c : CardState) (h : HostState) → DotsSeeSameRegisters c.host h → dots n (with_host c h) ≡ with_host (dots n c) h
unfolding dots dot
hidden_dots sees zero c h alike = refl
hidden_dots sees (suc n) c h alike = ap (dots n) (hidden_dot sees c h alike) ∙ hidden_dots sees n (dot c) h alike

-- ---- a write looks at nothing that a dot changes

-- no write looks at the beam
beam_free : (b other : Beam) (a : CardStateWithoutBeamAndDots) (reached : Option Port) (v : ℕ) → out_reached b a reached v ≡ out_reached other a reached v
unfolding out_reached after_crtc
beam_free b other a None v = refl
beam_free b other a (Some Attribute) v = refl
beam_free b other a (Some AttributeRegister) v = refl
beam_free b other a (Some MiscellaneousWrite) v = refl
beam_free b other a (Some SubsystemEnable) v = refl
beam_free b other a (Some SequencerIndex) v = refl
beam_free b other a (Some SequencerData) v = refl
beam_free b other a (Some DacMask) v = refl
beam_free b other a (Some DacReadIndex) v = refl
beam_free b other a (Some DacWriteIndex) v = refl
beam_free b other a (Some DacData) v = refl
beam_free b other a (Some FeatureControl) v = refl
beam_free b other a (Some MiscellaneousRead) v = refl
beam_free b other a (Some GraphicsIndex) v = refl
beam_free b other a (Some GraphicsData) v = refl
beam_free b other a (Some CrtcIndex) v = refl
beam_free b other a (Some CrtcData) v = refl
beam_free b other a (Some InputStatus1) v = refl

pub same_adapter : (n : ℕ) (c : CardState) → without_beam_and_dots (dots n c) ≡ without_beam_and_dots c
unfolding after_dots
same_adapter n c = ap without_beam_and_dots (dots_change_only_beam_and_picture n c)

-- an outcome that is hidden from dots is the same after n dots, or before them
later : SeesFourRegisters → (n : ℕ) (c : CardState) (r : Result CardStateWithoutBeamAndDots Refusal) → IsChangeHiddenFromDots c (card_after_write c r).0 →
    (let now : WriteResult = (dots n (card_after_write c r).0, (card_after_write c r).1) in card_after_write (dots n c) r ≡ now)
later sees n c (Err e) hidden = refl
later sees n c (Ok a) hidden =
    let d = dots n c in
    let h = a.host in
    let other : a ≡ around d h = ap (λ (x : CardState). around x h) hidden.rest ∙ ap (λ (x : CardStateWithoutBeamAndDots). record x { host = h }) (sym (same_adapter n c)) in
    ap (λ (x : CardState). let now : WriteResult = (x, Ok tt) in now)
    (ap (with_adapter d) other ∙ sym (hidden_dots sees n c h hidden.host) ∙ ap (dots n) (sym (ap (λ (x : CardState). with_host x h) hidden.rest)))

byte_free : (n : ℕ) (c : CardState) (port v : ℕ) → out_byte (dots n c).crtc.beam (without_beam_and_dots (dots n c)) port v ≡ out_byte c.crtc.beam (without_beam_and_dots c) port v
byte_free n c port v =
    beam_free (dots n c).crtc.beam c.crtc.beam (without_beam_and_dots (dots n c)) (port_of (without_beam_and_dots (dots n c)).misc port) v
    ∙ ap (λ a. out_byte c.crtc.beam a port v) (same_adapter n c)

-- n dots and then a write that is hidden from them are the write and then the dots
pub out_does_not_wait : SeesFourRegisters → (n : ℕ) (c : CardState) (port v : ℕ) → IsChangeHiddenFromDots c (out_cycle c port v).0 →
    out_cycle (dots n c) port v ≡ (dots n (out_cycle c port v).0, (out_cycle c port v).1)
out_does_not_wait sees n c port v hidden =
    ap (card_after_write (dots n c)) (byte_free n c port v) ∙ later sees n c (out_byte c.crtc.beam (without_beam_and_dots c) port v) hidden

word_beam_free : (b other : Beam) (a : CardStateWithoutBeamAndDots) (port low high : ℕ) → after_two_byte_writes (out_byte b) a port low high ≡ after_two_byte_writes (out_byte other) a port low high
word_beam_free b other a port low high =
    let first = beam_free b other a (port_of a.misc port) low in
    λ j. both_writes_or_neither (first j) (beam_free b other (adapter_after_write a (first j)) (port_of (adapter_after_write a (first j)).misc (port + 1)) high j)

word_free : (n : ℕ) (c : CardState) (port low high : ℕ) → after_two_byte_writes (out_byte (dots n c).crtc.beam) (without_beam_and_dots (dots n c)) port low high
    ≡ after_two_byte_writes (out_byte c.crtc.beam) (without_beam_and_dots c) port low high
word_free n c port low high =
    word_beam_free (dots n c).crtc.beam c.crtc.beam (without_beam_and_dots (dots n c)) port low high
    ∙ ap (λ a. after_two_byte_writes (out_byte c.crtc.beam) a port low high) (same_adapter n c)

-- the same for a write of a word
pub out_word_does_not_wait : SeesFourRegisters → (n : ℕ) (c : CardState) (port v : ℕ) → IsChangeHiddenFromDots c (out_word_cycle c port v).0 →
    out_word_cycle (dots n c) port v ≡ (dots n (out_word_cycle c port v).0, (out_word_cycle c port v).1)
out_word_does_not_wait sees n c port v hidden =
    ap (λ r. card_after_write (dots n c) (unless_at_last_place 0xFFFF port r)) (word_free n c port (v % 256) (v / 256))
    ∙ later sees n c (unless_at_last_place 0xFFFF port (after_two_byte_writes (out_byte c.crtc.beam) (without_beam_and_dots c) port (v % 256) (v / 256))) hidden

-- ---- which writes are hidden

apart : (i a b : ℕ) → (not (i == a) && not (i == b)) ≡ true → a ≡ i → ⊥
apart i a b hidden e = grind (arith, nat_tests)

apart_too : (i a b : ℕ) → (not (i == a) && not (i == b)) ≡ true → b ≡ i → ⊥
apart_too i a b hidden e = grind (arith, nat_tests)

-- no dot sees the sequencer's register with this index
abbrev pub IsBlindSequencer : ℕ → Type 0
IsBlindSequencer i = (not (i == 1) && not (i == 3)) ≡ true

-- no dot sees the graphics controller's register with this index
abbrev pub IsBlindGraphics : ℕ → Type 0
IsBlindGraphics i = (not (i == 5) && not (i == 6)) ≡ true

blind_sequencer : (h : HostState) (i x : ℕ) → IsBlindSequencer i → (let other : HostState = record h { seq_index = i; seq = slice_set h.seq i x } in DotsSeeSameRegisters h other)
blind_sequencer h i x hidden = record {
  memory = refl;
  clocking_mode = get_or-set_other h.seq i 1 x 0 (apart i 1 3 hidden);
  character_map_select = get_or-set_other h.seq i 3 x 0 (apart_too i 1 3 hidden);
  graphics_mode = refl;
  miscellaneous = refl;
}

blind_graphics : (h : HostState) (i x : ℕ) → IsBlindGraphics i → (let other : HostState = record h { gfx_index = i; gfx = slice_set h.gfx i x } in DotsSeeSameRegisters h other)
blind_graphics h i x hidden = record {
  memory = refl;
  clocking_mode = refl;
  character_map_select = refl;
  graphics_mode = get_or-set_other h.gfx i 5 x 0 (apart i 5 6 hidden);
  miscellaneous = get_or-set_other h.gfx i 6 x 0 (apart_too i 5 6 hidden);
}

seen_alike : (h : HostState) → DotsSeeSameRegisters h h
seen_alike h = record { memory = refl; clocking_mode = refl; character_map_select = refl; graphics_mode = refl; miscellaneous = refl }

-- a byte that is refused or written
hidden_data : (c : CardState) (h : HostState) (refused : Bool) → DotsSeeSameRegisters c.host h → IsChangeHiddenFromDots c (card_after_write c (unless_refused refused (around c h))).0
hidden_data c h true alike = record { rest = refl; host = seen_alike c.host }
hidden_data c h false alike = record { rest = refl; host = alike }

-- an index that is written, and then a byte that is refused or written
hidden_both : (c : CardState) (mid h : HostState) (refused : Bool) → DotsSeeSameRegisters c.host h →
    IsChangeHiddenFromDots c (card_after_write c (both_writes_or_neither (Ok (around c mid)) (unless_refused refused (around c h)))).0
hidden_both c mid h true alike = record { rest = refl; host = seen_alike c.host }
hidden_both c mid h false alike = record { rest = refl; host = alike }

pub sequencer_index_hidden : (c : CardState) (v : ℕ) → IsChangeHiddenFromDots c (out_cycle c 0x3C4 v).0
unfolding out_reached port_of crtc_port_of
sequencer_index_hidden c v = record { rest = refl; host = record { memory = refl; clocking_mode = refl; character_map_select = refl; graphics_mode = refl; miscellaneous = refl } }

pub graphics_index_hidden : (c : CardState) (v : ℕ) → IsChangeHiddenFromDots c (out_cycle c 0x3CE v).0
unfolding out_reached port_of crtc_port_of
graphics_index_hidden c v = record { rest = refl; host = record { memory = refl; clocking_mode = refl; character_map_select = refl; graphics_mode = refl; miscellaneous = refl } }

pub sequencer_data_hidden : (c : CardState) (v : ℕ) → IsBlindSequencer c.host.seq_index → IsChangeHiddenFromDots c (out_cycle c 0x3C5 v).0
unfolding out_reached port_of crtc_port_of
sequencer_data_hidden c v hidden =
    hidden_data c (after_out c.host sequencer_data v) (is_refused_out c.host sequencer_data v) (blind_sequencer c.host c.host.seq_index _ hidden)

pub graphics_data_hidden : (c : CardState) (v : ℕ) → IsBlindGraphics c.host.gfx_index → IsChangeHiddenFromDots c (out_cycle c 0x3CF v).0
unfolding out_reached port_of crtc_port_of
graphics_data_hidden c v hidden =
    hidden_data c (after_out c.host graphics_data v) (is_refused_out c.host graphics_data v) (blind_graphics c.host c.host.gfx_index _ hidden)

pub sequencer_word_hidden : (c : CardState) (v : ℕ) → IsBlindSequencer (bit_and (v % 256) 0x07) → IsChangeHiddenFromDots c (out_word_cycle c 0x3C4 v).0
unfolding out_reached port_of crtc_port_of
sequencer_word_hidden c v hidden =
    let i = bit_and (v % 256) 0x07 in
    let mid : HostState = record c.host { seq_index = i } in
    hidden_both c mid (after_out mid sequencer_data (v / 256)) (is_refused_out mid sequencer_data (v / 256)) (blind_sequencer c.host i _ hidden)

pub graphics_word_hidden : (c : CardState) (v : ℕ) → IsBlindGraphics (bit_and (v % 256) 0x0F) → IsChangeHiddenFromDots c (out_word_cycle c 0x3CE v).0
unfolding out_reached port_of crtc_port_of
graphics_word_hidden c v hidden =
    let i = bit_and (v % 256) 0x0F in
    let mid : HostState = record c.host { gfx_index = i } in
    hidden_both c mid (after_out mid graphics_data (v / 256)) (is_refused_out mid graphics_data (v / 256)) (blind_graphics c.host i _ hidden)
