-- Cycles and dots leave each part within its bounds.
use Rattle.std.proofs.Common.{◌≡◌, ◌≢◌, ℕ, zero, suc, ◌+◌, ◌/◌, ◌%◌, ◌^◌, ◌<◌, ◌≤◌, ⊎_elim, refl, ap, ◌∙◌, arith, List, length, Bool, true, false, Option, Some}
use Rattle.std.proofs.Common.{None, Result, Ok, Err}
use Rattle.std.specs.Prelude.{slice_index, slice_set, nat_lt, ◌==◌, ◌&&◌, not, if◌then◌else◌, min, max, bit_and, replicate}
use Rattle.std.specs.Int.{bit_at}
use Rattle.std.proofs.lemmas.Bool.{cases_eq, cases_lt, ltb-true}
use Rattle.std.proofs.lemmas.List.{get_or-set_same, get_or-set_other, length-set, set_past}
use Rattle.std.proofs.lemmas.Nat.{and_le_r, and_mask, or_of_8}
use Rattle.vga_bits.specs.declared.refusal.Refusal.{Refusal}
use Rattle.vga_bits.specs.declared.refusal.Refusal.TheVariants.{NotDecoded}
use Rattle.vga_bits.specs.Bytes.{zeros}
use Rattle.vga_bits.specs.Four.{of_plane}
use Rattle.vga_bits.specs.RegFile.{AreWithinMasks}
use Rattle.vga_bits.proofs.BitLemmas.{byte_small}
use Rattle.vga_bits.proofs.ByteLemmas.{length-zeros, zeros_at}
use Rattle.vga_bits.proofs.FourLemmas.{by_plane}
use Rattle.vga_bits.proofs.RegisterLemmas.{kept_zeros, kept_set, kept_below}
use Rattle.vga_planes.specs.Planes.{byte_at, bytes_at, zero_planes, IsDisplayMemory}
use Rattle.vga_host.specs.Host.{HostState, power_on_host}
use Rattle.vga_host.specs.Graphics.{write_mode, is_set_reset_enabled, function_select}
use Rattle.vga_host.specs.Memory.Address.{is_decoded, window_offset, plane_offset, is_reached}
use Rattle.vga_host.specs.Memory.Write.{combined_by_function, data_bit_of_write, mask_bit, written_bit, combined_bit, written_byte, memory_after_put, after_put}
use Rattle.vga_host.specs.Memory.Read.{after_get, read_byte}
use Rattle.vga_host.specs.Ports.{seq_masks, gfx_masks}
use Rattle.vga_host.specs.Bounds.{IsHost}
use Rattle.vga_crtc.specs.declared.beam.Beam.{Beam}
use Rattle.vga_crtc.specs.Crtc.{CrtcState}
use Rattle.vga_crtc.specs.Fields.{horizontal_total, vertical_total, preset_row_scan, maximum_scan_line, line_compare, is_double_scan, overflow}
use Rattle.vga_crtc.specs.Ports.{kept_bits, is_write_protected, protected_overflow, after_out as after_crtc}
use Rattle.vga_crtc.specs.Beam.{characters, lines, IsBeam, is_first_dot_of_frame, with_frame_start_taken, counters_after_line, next_line, dot as beam_dot, after_dot}
use Rattle.vga_crtc.specs.Bounds.{IsCrtc}
use Rattle.vga_attr.specs.Attr.{AttrState, attr_masks, selected_register, is_locked, after_write as after_attr, IsAttr}
use Rattle.vga_dac.specs.declared.component.Component.{Component}
use Rattle.vga_dac.specs.declared.component.Component.TheVariants.{Red, Green, Blue}
use Rattle.vga_dac.specs.Dac.{DacState, with_component_written, after_component_read, IsDac}
use Rattle.vga_card.specs.declared.port.Port.{Port}
use Rattle.vga_card.specs.declared.port.Port.TheVariants.{Attribute, AttributeRegister, MiscellaneousWrite, SubsystemEnable, SequencerIndex, SequencerData}
use Rattle.vga_card.specs.declared.port.Port.TheVariants.{DacMask, DacReadIndex, DacWriteIndex, DacData, FeatureControl, MiscellaneousRead, GraphicsIndex}
use Rattle.vga_card.specs.declared.port.Port.TheVariants.{GraphicsData, CrtcIndex, CrtcData, InputStatus1}
use Rattle.vga_card.specs.Card.{CardState, power_on_card}
use Rattle.vga_card.specs.Port.{port_of}
use Rattle.vga_card.specs.Adapter.{CardStateWithoutBeamAndDots, without_beam_and_dots, with_adapter}
use Rattle.vga_card.specs.Cycles.{card_after_write, card_after_read, unless_refused, if_decoded, out_reached, inp_reached, out_at, inp_at, out_cycle, inp_cycle, put_cycle, get_cycle}
use Rattle.vga_card.specs.Cycles.{out_byte, inp_byte, put_byte, get_byte}
use Rattle.vga_card.specs.WordCycles.{adapter_after_write, adapter_after_read, both_writes_or_neither, both_reads_or_neither, out_word_cycle, inp_word_cycle, put_word_cycle, get_word_cycle}
use Rattle.vga_card.specs.Dots.{character_width, dot, dots}
use Rattle.vga_card.specs.Bounds.{IsCard}

-- ---- memory

if_small : (t : Bool) (x y n : ℕ) → x < n → y < n → (if t then x else y) < n
if_small true x y n h k = h
if_small false x y n h k = k

bit_small : (n i : ℕ) → bit_at n i < 2
bit_small n i = small (n / 2 ^ i)
  where
    small : (x : ℕ) → x % 2 < 2
    small x = omega arith

min_small : (x y n : ℕ) → x < n → min x y < n
min_small x y n l = omega arith

max_small : (x y n : ℕ) → x < n → y < n → max x y < n
max_small x y n l k = omega arith

sum_small : (x y : ℕ) → (x + y) % 2 < 2
sum_small x y = omega arith

combined_small : (f d l : ℕ) → d < 2 → l < 2 → combined_by_function f d l < 2
combined_small f d l h k = if_small (f == 0) _ _ 2 h (if_small (f == 1) _ _ 2 (min_small d l 2 h)
    (if_small (f == 2) _ _ 2 (max_small d l 2 h k) (sum_small d l)))

data_small : (h : HostState) (b p i : ℕ) → data_bit_of_write h b p i < 2
data_small h b p i =
    if_small (write_mode h == 0) _ _ 2 (if_small (is_set_reset_enabled h p) _ _ 2 (bit_small _ p) (bit_small b _))
    (if_small (write_mode h == 2) _ _ 2 (bit_small b p) (bit_small _ p))

written_small : (h : HostState) (b p i : ℕ) → written_bit h b p i < 2
unfolding written_bit combined_bit
written_small h b p i =
    if_small (write_mode h == 1) _ _ 2 (bit_small _ i)
    (if_small (mask_bit h b i == 0) _ _ 2 (bit_small _ i) (combined_small (function_select h) _ _ (data_small h b p i) (bit_small _ i)))

-- a plane that is written at an offset, or not
abbrev plane_after : HostState → ℕ → ℕ → ℕ → List ℕ
plane_after h w v p = if is_reached h w p then slice_set (of_plane h.memory p) (plane_offset h w) (written_byte h v p) else of_plane h.memory p

if_length : (t : Bool) (x y : List ℕ) (n : ℕ) → length x ≡ n → length y ≡ n → length (if t then x else y) ≡ n
if_length true x y n h k = h
if_length false x y n h k = k

bytes_kept : (t : Bool) (plane : List ℕ) (a x : ℕ) → x < 256 → ((i : ℕ) → slice_index plane i < 256) → (i : ℕ) →
    slice_index (if t then slice_set plane a x else plane) i < 256
bytes_kept false plane a x l h i = h i
bytes_kept true plane a x l h i = ⊎_elim
    (λ (e : i ≡ a). ⊎_elim
    (λ (w : a < length plane). let q = ap (slice_index (slice_set plane a x)) e ∙ get_or-set_same plane a x 0 w in omega arith)
    (λ (w : length plane ≤ a). let q = ap (λ p. slice_index p i) (set_past plane a x w) in let y = h i in omega arith)
    (cases_lt a (length plane)))
    (λ (n : i ≢ a). let q = get_or-set_other plane a i x 0 n in let y = h i in omega arith)
    (cases_eq i a)

memory_kept : (h : HostState) (w v : ℕ) → IsDisplayMemory h.memory → IsDisplayMemory (memory_after_put h w v)
memory_kept h w v z =
    let m = memory_after_put h w v in
    let size_of : (p : ℕ) → p < 4 → length (plane_after h w v p) ≡ 65536 = λ p l.
    if_length (is_reached h w p) (slice_set (of_plane h.memory p) (plane_offset h w) (written_byte h v p)) (of_plane h.memory p) 65536
    (length-set (of_plane h.memory p) (plane_offset h w) _ ∙ z.size p l) (z.size p l) in
    let bytes_of : (p : ℕ) → p < 4 → (i : ℕ) → slice_index (plane_after h w v p) i < 256 = λ p l.
    bytes_kept (is_reached h w p) (of_plane h.memory p) (plane_offset h w) (written_byte h v p) (byte_small (λ i. written_bit h v p i) (written_small h v p))
    (z.bytes p l) in
    record {
      size = by_plane (λ p. length (of_plane m p) ≡ 65536) (size_of 0 (omega arith)) (size_of 1 (omega arith)) (size_of 2 (omega arith))
          (size_of 3 (omega arith));
      bytes = by_plane (λ p. (i : ℕ) → byte_at m p i < 256) (bytes_of 0 (omega arith)) (bytes_of 1 (omega arith)) (bytes_of 2 (omega arith))
          (bytes_of 3 (omega arith));
    }

-- ---- the host path

host_put : (h : HostState) (w v : ℕ) → IsHost h → IsHost (record h { memory = memory_after_put h w v })
host_put h w v z = record { memory = memory_kept h w v z.memory; latches = z.latches; seq_size = z.seq_size; seq = z.seq; gfx_size = z.gfx_size; gfx = z.gfx }

host_get : (h : HostState) (a : ℕ) → IsHost h → IsHost (record h { latches = bytes_at h.memory a })
host_get h a z = record {
  memory = z.memory;
  latches = by_plane (λ p. of_plane (bytes_at h.memory a) p < 256) (z.memory.bytes 0 (omega arith) a) (z.memory.bytes 1 (omega arith) a)
      (z.memory.bytes 2 (omega arith) a) (z.memory.bytes 3 (omega arith) a);
  seq_size = z.seq_size;
  seq = z.seq;
  gfx_size = z.gfx_size;
  gfx = z.gfx;
}

host_seq_index : (h : HostState) (i : ℕ) → IsHost h → IsHost (record h { seq_index = i })
host_seq_index h i z = record { memory = z.memory; latches = z.latches; seq_size = z.seq_size; seq = z.seq; gfx_size = z.gfx_size; gfx = z.gfx }

host_gfx_index : (h : HostState) (i : ℕ) → IsHost h → IsHost (record h { gfx_index = i })
host_gfx_index h i z = record { memory = z.memory; latches = z.latches; seq_size = z.seq_size; seq = z.seq; gfx_size = z.gfx_size; gfx = z.gfx }

host_seq : (h : HostState) (i v : ℕ) → IsHost h → IsHost (record h { seq = slice_set h.seq i (bit_and v (slice_index seq_masks i)) })
host_seq h i v z = record {
  memory = z.memory;
  latches = z.latches;
  seq_size = length-set h.seq i _ ∙ z.seq_size;
  seq = kept_set seq_masks h.seq i v z.seq;
  gfx_size = z.gfx_size;
  gfx = z.gfx;
}

host_gfx : (h : HostState) (i v : ℕ) → IsHost h → IsHost (record h { gfx = slice_set h.gfx i (bit_and v (slice_index gfx_masks i)) })
host_gfx h i v z = record {
  memory = z.memory;
  latches = z.latches;
  seq_size = z.seq_size;
  seq = z.seq;
  gfx_size = length-set h.gfx i _ ∙ z.gfx_size;
  gfx = kept_set gfx_masks h.gfx i v z.gfx;
}

host_at_power_on : IsHost (power_on_host zero_planes)
unfolding zeros
host_at_power_on = record {
  memory = record {
    size = by_plane (λ p. length (of_plane zero_planes p) ≡ 65536) (length-zeros 65536) (length-zeros 65536) (length-zeros 65536) (length-zeros 65536);
    bytes = by_plane (λ p. (i : ℕ) → byte_at zero_planes p i < 256) zero_small zero_small zero_small zero_small;
  };
  latches = by_plane (λ p. of_plane (power_on_host zero_planes).latches p < 256) (omega arith) (omega arith) (omega arith) (omega arith);
  seq_size = refl;
  seq = kept_zeros seq_masks 5;
  gfx_size = refl;
  gfx = kept_zeros gfx_masks 9;
}
  where
    zero_small : (i : ℕ) → slice_index (zeros 65536) i < 256
    zero_small i = let e = zeros_at 65536 i in omega arith

-- ---- the CRT controller

if_registers : (t : Bool) (c : CrtcState) (x y : List ℕ) → IsCrtc (record c { registers = x }) → IsCrtc (record c { registers = y }) →
    IsCrtc (record c { registers = if t then x else y })
if_registers true c x y h k = h
if_registers false c x y h k = k

crtc_set : (c : CrtcState) (i v : ℕ) → IsCrtc c → IsCrtc (record c { registers = slice_set c.registers i (bit_and v (slice_index kept_bits i)) })
crtc_set c i v z = record { size = length-set c.registers i _ ∙ z.size; kept = kept_set kept_bits c.registers i v z.kept; beam = z.beam }

overflow_small : (c : CrtcState) (v : ℕ) → protected_overflow c v < 256
overflow_small c v = or_of_8 (bit_and (overflow c.registers) 0xEF) (bit_and v 0x10) (omega (arith, and_le_r (overflow c.registers) 0xEF))
    (omega (arith, and_le_r v 0x10))

whole_byte : (v : ℕ) → v < 256 → bit_and v 0xFF ≡ v
whole_byte v l = omega (arith, and_mask v 8)

crtc_overflow : (c : CrtcState) (v : ℕ) → IsCrtc c → IsCrtc (record c { registers = slice_set c.registers 7 (protected_overflow c v) })
crtc_overflow c v z =
    rw (whole_byte (protected_overflow c v) (overflow_small c v)) at (crtc_set c 7 (protected_overflow c v) z)

crtc_out : (c : CrtcState) (at_data : Bool) (v : ℕ) → IsCrtc c → IsCrtc (after_crtc c at_data v)
unfolding after_crtc
crtc_out c false v z = record { size = z.size; kept = z.kept; beam = z.beam }
crtc_out c true v z =
    if_registers (not (is_write_protected c)) c _ _ (crtc_set c c.index v z) (if_registers (c.index == 7) c _ c.registers (crtc_overflow c v z) z)

-- ---- the beam

if_beam : (t : Bool) (x y : Beam) → IsBeam x → IsBeam y → IsBeam (if t then x else y)
if_beam true x y h k = h
if_beam false x y h k = k

where_below : (m n : ℕ) (x y : Beam) → (m < n → IsBeam x) → IsBeam y → IsBeam (if nat_lt m n then x else y)
where_below m n x y h k = by_test (nat_lt m n) refl
  where
    by_test : (t : Bool) → nat_lt m n ≡ t → IsBeam (if t then x else y)
    by_test true e = h (ltb-true m n e)
    by_test false e = k

few_characters : (r : List ℕ) → AreWithinMasks kept_bits r → characters r ≤ 260
unfolding horizontal_total
few_characters r are = omega (arith, are.kept 0, and_le_r (slice_index r 0) 0xFF)

few_lines : (r : List ℕ) → AreWithinMasks kept_bits r → lines r ≤ 1025
unfolding vertical_total
few_lines r are = omega (arith, are.kept 6, and_le_r (slice_index r 6) 0xFF, bit_small (slice_index r 7) 0, bit_small (slice_index r 7) 5)

first_scan_small : (r : List ℕ) → preset_row_scan r < 32
unfolding preset_row_scan
first_scan_small r = omega arith

last_scan_small : (r : List ℕ) → maximum_scan_line r < 32
unfolding maximum_scan_line
last_scan_small r = omega arith

started_within : (r : List ℕ) (b : Beam) → IsBeam b → IsBeam (with_frame_start_taken r b)
started_within r b z =
    if_beam (is_first_dot_of_frame b) _ b (record { frame = z.frame; line = z.line; character = z.character; dot = z.dot; scan = first_scan_small r }) z

row_within : (r : List ℕ) (b : Beam) → IsBeam b → IsBeam (counters_after_line r b)
row_within r b z =
    let top : IsBeam (record b { base = 0; scan = 0; half = false; split = true }) =
    record { frame = z.frame; line = z.line; character = z.character; dot = z.dot; scan = omega arith } in
    let half : IsBeam (record b { half = true }) = record { frame = z.frame; line = z.line; character = z.character; dot = z.dot; scan = z.scan } in
    if_beam (b.line == line_compare r) _ _ top (if_beam (is_double_scan r && not b.half) _ _ half
    (where_below b.scan (maximum_scan_line r) _ _
    (λ l. record { frame = z.frame; line = z.line; character = z.character; dot = z.dot; scan = omega (arith, l, last_scan_small r) })
    (record { frame = z.frame; line = z.line; character = z.character; dot = z.dot; scan = omega arith })))

line_within : (r : List ℕ) (b : Beam) → AreWithinMasks kept_bits r → IsBeam b → IsBeam (next_line r b)
line_within r b are z =
    let begun : Beam = record b { character = 0; dot = 0 } in
    let y : IsBeam (counters_after_line r begun) = row_within r begun (record {
      frame = z.frame;
      line = z.line;
      character = omega arith;
      dot = omega arith;
      scan = z.scan;
    }) in
    where_below (b.line + 1) (lines r) _ _
    (λ l. record { frame = y.frame; line = omega (arith, l, few_lines r are); character = y.character; dot = y.dot; scan = y.scan })
    (record { frame = omega arith; line = omega arith; character = omega arith; dot = omega arith; scan = omega arith })

dot_within : (cw : ℕ) (r : List ℕ) (b : Beam) → cw ≤ 9 → AreWithinMasks kept_bits r → IsBeam b → IsBeam (beam_dot cw r b)
dot_within cw r b narrow are is =
    let s = with_frame_start_taken r b in
    let z = started_within r b is in
    where_below (s.dot + 1) cw _ _ (λ l. record { frame = z.frame; line = z.line; character = z.character; dot = omega (arith, l, narrow); scan = z.scan })
    (where_below (s.character + 1) (characters r) _ _
    (λ l. record { frame = z.frame; line = z.line; character = omega (arith, l, few_characters r are); dot = omega arith; scan = z.scan })
    (line_within r s are z))

-- ---- attributes and colours

if_attr : (t : Bool) (x y : AttrState) → IsAttr x → IsAttr y → IsAttr (if t then x else y)
if_attr true x y h k = h
if_attr false x y h k = k

attr_kept : (a : AttrState) → length a.registers ≡ 21 → AreWithinMasks attr_masks a.registers → IsAttr a
attr_kept a size are = record { size = size; kept = are; palette = kept_below attr_masks a.registers 16 64 are refl }

attr_write : (a : AttrState) (v : ℕ) → IsAttr a → IsAttr (after_attr a v)
attr_write a v z =
    let i = selected_register a in
    if_attr a.is_data _ _ (by_lock (is_locked a i)) (record { size = z.size; kept = z.kept; palette = z.palette })
  where
    by_lock : (t : Bool) → IsAttr (record a {
      registers = if t then a.registers else slice_set a.registers (selected_register a)
          (bit_and v (slice_index attr_masks (selected_register a)));
      is_data = false;
    })
    by_lock true = attr_kept _ z.size z.kept
    by_lock false = attr_kept _ (length-set a.registers (selected_register a) _ ∙ z.size) (kept_set attr_masks a.registers (selected_register a) v z.kept)

dac_taken : (d : DacState) (k : Component) (v : ℕ) → IsDac d → IsDac (with_component_written d k v)
dac_taken d Red v z = record { reds = z.reds; greens = z.greens; blues = z.blues }
dac_taken d Green v z = record { reds = z.reds; greens = z.greens; blues = z.blues }
dac_taken d Blue v z = record {
  reds = length-set d.reds d.index _ ∙ z.reds;
  greens = length-set d.greens d.index _ ∙ z.greens;
  blues = length-set d.blues d.index _ ∙ z.blues;
}

-- ---- cycles of a byte

with_host : (c : CardState) (h : HostState) → IsHost h → IsCard c → IsCard (record c { host = h })
with_host c h is z = record { host = is; crtc = z.crtc; attr = z.attr; dac = z.dac }

with_crtc : (c : CardState) (x : CrtcState) → IsCrtc x → IsCard c → IsCard (record c { crtc = x })
with_crtc c x is z = record { host = z.host; crtc = is; attr = z.attr; dac = z.dac }

with_attr : (c : CardState) (a : AttrState) → IsAttr a → IsCard c → IsCard (record c { attr = a })
with_attr c a is z = record { host = z.host; crtc = z.crtc; attr = is; dac = z.dac }

-- another DAC with the same entries, or with entries as many
with_dac : (c : CardState) (d : DacState) → length d.reds ≡ 256 → length d.greens ≡ 256 → length d.blues ≡ 256 → IsCard c → IsCard (record c { dac = d })
with_dac c d reds greens blues z = record { host = z.host; crtc = z.crtc; attr = z.attr; dac = record { reds = reds; greens = greens; blues = blues } }

unless_within : (t : Bool) (c : CardState) (a : CardStateWithoutBeamAndDots) → IsCard c → IsCard (with_adapter c a) → IsCard (card_after_write c (unless_refused t a)).0
unless_within true c a z y = z
unless_within false c a z y = y

answered_within : (t : Bool) (c : CardState) (v : ℕ) → IsCard c → IsCard (card_after_read c (unless_refused t (without_beam_and_dots c, v))).0
answered_within true c v z = z
answered_within false c v z = z

out_within : (c : CardState) (reached : Option Port) (v : ℕ) → IsCard c → IsCard (out_at c reached v).0
unfolding out_reached after_crtc
out_within c None v z = z
out_within c (Some Attribute) v z = unless_within _ c _ z (with_attr c (after_attr c.attr v) (attr_write c.attr v z.attr) z)
out_within c (Some AttributeRegister) v z = z
out_within c (Some MiscellaneousWrite) v z = record { host = z.host; crtc = z.crtc; attr = z.attr; dac = z.dac }
out_within c (Some SubsystemEnable) v z = z
out_within c (Some SequencerIndex) v z = with_host c _ (host_seq_index c.host (bit_and v 0x07) z.host) z
out_within c (Some SequencerData) v z = unless_within _ c _ z (with_host c _ (host_seq c.host c.host.seq_index v z.host) z)
out_within c (Some DacMask) v z = with_dac c _ z.dac.reds z.dac.greens z.dac.blues z
out_within c (Some DacReadIndex) v z = with_dac c _ z.dac.reds z.dac.greens z.dac.blues z
out_within c (Some DacWriteIndex) v z = with_dac c _ z.dac.reds z.dac.greens z.dac.blues z
out_within c (Some DacData) v z =
    let d = dac_taken c.dac c.dac.component (bit_and v 0x3F) z.dac in
    with_dac c (after_component_read (with_component_written c.dac c.dac.component (bit_and v 0x3F))) d.reds d.greens d.blues z
out_within c (Some FeatureControl) v z = z
out_within c (Some MiscellaneousRead) v z = z
out_within c (Some GraphicsIndex) v z = with_host c _ (host_gfx_index c.host (bit_and v 0x0F) z.host) z
out_within c (Some GraphicsData) v z = unless_within _ c _ z (with_host c _ (host_gfx c.host c.host.gfx_index v z.host) z)
out_within c (Some CrtcIndex) v z = with_crtc c (after_crtc c.crtc false v) (crtc_out c.crtc false v z.crtc) z
out_within c (Some CrtcData) v z = unless_within _ c _ z (with_crtc c (after_crtc c.crtc true v) (crtc_out c.crtc true v z.crtc) z)
out_within c (Some InputStatus1) v z = z

inp_within : (c : CardState) (reached : Option Port) → IsCard c → IsCard (inp_at c reached).0
unfolding inp_reached
inp_within c None z = z
inp_within c (Some Attribute) z = z
inp_within c (Some AttributeRegister) z = answered_within _ c _ z
inp_within c (Some MiscellaneousWrite) z = z
inp_within c (Some SubsystemEnable) z = z
inp_within c (Some SequencerIndex) z = z
inp_within c (Some SequencerData) z = answered_within _ c _ z
inp_within c (Some DacMask) z = z
inp_within c (Some DacReadIndex) z = z
inp_within c (Some DacWriteIndex) z = z
inp_within c (Some DacData) z = with_dac c _ z.dac.reds z.dac.greens z.dac.blues z
inp_within c (Some FeatureControl) z = z
inp_within c (Some MiscellaneousRead) z = z
inp_within c (Some GraphicsIndex) z = z
inp_within c (Some GraphicsData) z = answered_within _ c _ z
inp_within c (Some CrtcIndex) z = z
inp_within c (Some CrtcData) z = answered_within _ c _ z
inp_within c (Some InputStatus1) z = with_attr c _ (record { size = z.attr.size; kept = z.attr.kept; palette = z.attr.palette }) z

pub out_bounds : (c : CardState) (port v : ℕ) → IsCard c → IsCard (out_cycle c port v).0
out_bounds c port v z = out_within c (port_of c.misc port) v z

pub inp_bounds : (c : CardState) (port : ℕ) → IsCard c → IsCard (inp_cycle c port).0
inp_bounds c port z = inp_within c (port_of c.misc port) z

written_within : (t : Bool) (c : CardState) (a : CardStateWithoutBeamAndDots) → IsCard c → IsCard (with_adapter c a) → IsCard (card_after_write c (if_decoded t a)).0
written_within true c a z y = y
written_within false c a z y = z

read_within : (t : Bool) (c : CardState) (a : CardStateWithoutBeamAndDots) (v : ℕ) → IsCard c → IsCard (with_adapter c a) → IsCard (card_after_read c (if_decoded t (a, v))).0
read_within true c a v z y = y
read_within false c a v z y = z

pub put_bounds : (c : CardState) (address v : ℕ) → IsCard c → IsCard (put_cycle c address v).0
put_bounds c address v z =
    written_within (is_decoded c.host c.misc address) c _ z (with_host c (after_put c.host address v) (host_put c.host (window_offset c.host address) v z.host)
    z)

pub get_bounds : (c : CardState) (address : ℕ) → IsCard c → IsCard (get_cycle c address).0
get_bounds c address z =
    read_within (is_decoded c.host c.misc address) c _ (read_byte c.host address) z
    (with_host c (after_get c.host address) (host_get c.host (plane_offset c.host (window_offset c.host address)) z.host) z)

-- ---- cycles of a word

both_within : (c : CardState) (first second : Result CardStateWithoutBeamAndDots Refusal) → IsCard c
    → (IsCard (with_adapter c (adapter_after_write (without_beam_and_dots c) first)) → IsCard (card_after_write (with_adapter c (adapter_after_write (without_beam_and_dots c) first)) second).0)
    → IsCard (card_after_write c first).0 → IsCard (card_after_write c (both_writes_or_neither first second)).0
both_within c (Ok mid) (Ok new) z next y = next y
both_within c (Ok mid) (Err g) z next y = z
both_within c (Err e) (Ok new) z next y = z
both_within c (Err e) (Err g) z next y = z

both_read_within : (c : CardState) (first second : Result (CardStateWithoutBeamAndDots × ℕ) Refusal) → IsCard c
    → (IsCard (with_adapter c (adapter_after_read (without_beam_and_dots c) first)) → IsCard (card_after_read (with_adapter c (adapter_after_read (without_beam_and_dots c) first)) second).0)
    → IsCard (card_after_read c first).0 → IsCard (card_after_read c (both_reads_or_neither first second)).0
both_read_within c (Ok (mid, low)) (Ok (new, high)) z next y = next y
both_read_within c (Ok (mid, low)) (Err g) z next y = z
both_read_within c (Err e) (Ok (new, high)) z next y = z
both_read_within c (Err e) (Err g) z next y = z

if_written : (t : Bool) (c : CardState) (r : Result CardStateWithoutBeamAndDots Refusal) → IsCard c → IsCard (card_after_write c r).0 →
    IsCard (card_after_write c (if t then Err NotDecoded else r)).0
if_written true c r z y = z
if_written false c r z y = y

if_answered : (t : Bool) (c : CardState) (r : Result (CardStateWithoutBeamAndDots × ℕ) Refusal) → IsCard c → IsCard (card_after_read c r).0 →
    IsCard (card_after_read c (if t then Err NotDecoded else r)).0
if_answered true c r z y = z
if_answered false c r z y = y

pub out_word_bounds : (c : CardState) (port v : ℕ) → IsCard c → IsCard (out_word_cycle c port v).0
out_word_bounds c port v z =
    let first = out_byte c.crtc.beam (without_beam_and_dots c) port (v % 256) in
    if_written (port == 0xFFFF) c _ z
    (both_within c first _ z (out_bounds (with_adapter c (adapter_after_write (without_beam_and_dots c) first)) (port + 1) (v / 256)) (out_bounds c port (v % 256) z))

pub inp_word_bounds : (c : CardState) (port : ℕ) → IsCard c → IsCard (inp_word_cycle c port).0
inp_word_bounds c port z =
    let first = inp_byte c.crtc.beam (without_beam_and_dots c) port in
    if_answered (port == 0xFFFF) c _ z
    (both_read_within c first _ z (inp_bounds (with_adapter c (adapter_after_read (without_beam_and_dots c) first)) (port + 1)) (inp_bounds c port z))

pub put_word_bounds : (c : CardState) (address v : ℕ) → IsCard c → IsCard (put_word_cycle c address v).0
put_word_bounds c address v z =
    let first = put_byte (without_beam_and_dots c) address (v % 256) in
    if_written (address == 0xFFFFFFFF) c _ z
    (both_within c first _ z (put_bounds (with_adapter c (adapter_after_write (without_beam_and_dots c) first)) (address + 1) (v / 256)) (put_bounds c address (v % 256) z))

pub get_word_bounds : (c : CardState) (address : ℕ) → IsCard c → IsCard (get_word_cycle c address).0
get_word_bounds c address z =
    let first = get_byte (without_beam_and_dots c) address in
    if_answered (address == 0xFFFFFFFF) c _ z
    (both_read_within c first _ z (get_bounds (with_adapter c (adapter_after_read (without_beam_and_dots c) first)) (address + 1)) (get_bounds c address z))

-- ---- dots

narrow : (t : Bool) → (if t then 8 else 9) ≤ 9
narrow true = omega arith
narrow false = omega arith

dot_bounds : (c : CardState) → IsCard c → IsCard (dot c)
unfolding dot after_dot
dot_bounds c z = record {
  host = z.host;
  crtc = record {
    size = z.crtc.size;
    kept = z.crtc.kept;
    beam = dot_within (character_width c) c.crtc.registers c.crtc.beam (narrow _) z.crtc.kept z.crtc.beam;
  };
  attr = z.attr;
  dac = z.dac;
}

pub dots_bounds : (n : ℕ) (c : CardState) → IsCard c → IsCard (dots n c)
unfolding dots
dots_bounds zero c z = z
dots_bounds (suc n) c z = dots_bounds n (dot c) (dot_bounds c z)

-- ---- power-on

pub power_on_bounds : IsCard power_on_card
power_on_bounds = record {
  host = host_at_power_on;
  crtc = record {
    size = refl;
    kept = kept_set kept_bits (replicate 25 0) 0x17 0x03 (kept_zeros kept_bits 25);
    beam = record { frame = omega arith; line = omega arith; character = omega arith; dot = omega arith; scan = omega arith };
  };
  attr = attr_kept power_on_card.attr refl (kept_zeros attr_masks 21);
  dac = record { reds = length-zeros 256; greens = length-zeros 256; blues = length-zeros 256 };
}
