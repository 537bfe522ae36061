-- What services do to the attribute controller, in any mode.
use Rattle.std.proofs.Common.{◌≡◌, ℕ, ◌+◌, ◌*◌, ◌<◌, refl, ap, ◌∙◌, List, [], ◌∷◌, ◌++◌, length, Bool, true, false}
use Rattle.std.specs.Prelude.{◌==◌, ◌&&◌, nat_lt, if◌then◌else◌, slice_index, slice_set, take, bit_and, bit_or}
use Rattle.std.proofs.lemmas.Bool.{agree_below_at}
use Rattle.bios_screen.proofs.Prelude.{is_set, IsCard, card_meaning, CardState, crtc_port, Plan, run, Done, each, ◌>>=◌, ◌>>◌, list_by_function}
use Rattle.vga_bits.specs.Bits.{field}
use Rattle.vga_attr.specs.Attr.{attr_masks}
use Rattle.vga_card.specs.Port.{port_of as reached_by}
use Rattle.vga_card.specs.Adapter.{without_beam_and_dots}
use Rattle.vga_card.specs.Cycles.{card_after_write, card_after_read, unless_refused, out_reached, inp_reached}
use Rattle.bios_services.specs.Plan.{out, inp, read_byte_or_ff}
use Rattle.bios_services.specs.Cycles.{write_attribute_register, write_attribute_registers, reset_attribute_flip_flop, show_palette}
use Rattle.bios_services.specs.Palette.{set_attribute_register_plan, set_palette_plan, set_blinking_plan, read_attribute_register_in_index_state_plan, read_attribute_register_plan}
use Rattle.bios_screen.specs.Colours.{six_bits}
use Rattle.bios_screen.proofs.Base.Lists.{spelled}
use Rattle.bios_screen.proofs.Base.Plans.{run_bind, then_runs}
use Rattle.bios_screen.proofs.Base.Ports.{expected_runs}
use Rattle.bios_screen.proofs.Base.Tests.{same}

abbrev pub with_attr : CardState → List ℕ → ℕ → Bool → CardState
with_attr c l i b = record c { attr = record { registers = l; index = i; is_data = b } }

-- index i selects register i, and that register can be written
record Names (i : ℕ) : Type 0 where
  kept : bit_and i 0x3F ≡ i
  number : field i 4 0 ≡ i
  there : nat_lt 20 i ≡ false
  free : (nat_lt i 16 && is_set i 5) ≡ false

names : (i : ℕ) → i < 18 → Names i
names i l = record {
  kept = same (agree_below_at (λ n. bit_and n 0x3F == n) (λ _. true) 18 i refl l);
  number = same (agree_below_at (λ n. field n 4 0 == n) (λ _. true) 18 i refl l);
  there = agree_below_at (λ n. nat_lt 20 n) (λ _. false) 18 i refl l;
  free = agree_below_at (λ n. nat_lt n 16 && is_set n 5) (λ _. false) 18 i refl l;
}

-- ---- one register is written

value_by : (s : CardState) (l : List ℕ) (i v : ℕ) → (run card_meaning (out 0x3C0 v) (with_attr s l i true)).0
    ≡ (card_after_write (with_attr s l i true) (unless_refused (nat_lt 20 (field i 4 0)) (without_beam_and_dots (with_attr s (if nat_lt (field i 4 0) 16 && is_set i 5 then l
    else slice_set l (field i 4 0) (bit_and v (slice_index attr_masks (field i 4 0)))) i false)))).0
unfolding reached_by out_reached
value_by s l i v = refl

value_written : (s : CardState) (l : List ℕ) (i v : ℕ) → Names i → (run card_meaning (out 0x3C0 v) (with_attr s l i true)).0
    ≡ with_attr s (slice_set l i (bit_and v (slice_index attr_masks i))) i false
value_written s l i v n = value_by s l i v ∙ rw (n.number, n.there, n.free) refl

-- the palette is shown again: the index is 20, and the controller expects an index
again : (c : CardState) (l : List ℕ) (i : ℕ) → (run card_meaning (show_palette (crtc_port c.misc)) (with_attr c l i false)).0 ≡ with_attr c l 0x20 false
unfolding reached_by out_reached
again c l i = let done : Plan (Unit {0}) = Done tt in ap (λ r. r.0) (expected_runs done (with_attr c l 0x20 true))

pub register_set : (c : CardState) (i v : ℕ) → i < 18 →
    (run card_meaning (set_attribute_register_plan (crtc_port c.misc) i v) c).0
    ≡ with_attr c (slice_set c.attr.registers i (bit_and v (slice_index attr_masks i))) 0x20 false
unfolding set_attribute_register_plan reached_by out_reached
register_set c i v l =
    let p = crtc_port c.misc in
    let old = c.attr.registers in
    let n = names i l in
    ap (λ r. r.0) (expected_runs (write_attribute_register i v >> show_palette p) c)
    ∙ ap (λ k. (run card_meaning (out 0x3C0 v >> show_palette p) (with_attr c old k true)).0) n.kept
    ∙ then_runs (out 0x3C0 v) (show_palette p) (with_attr c old i true)
    ∙ ap (λ x. (run card_meaning (show_palette p) x).0) (value_written c old i v n)
    ∙ again c (slice_set old i (bit_and v (slice_index attr_masks i))) i

-- ---- blinking

abbrev pub with_blinking : List ℕ → ℕ → List ℕ
with_blinking l b = slice_set l 16 (bit_and (bit_or (bit_and (slice_index l 16) 0xF7) (8 * b)) 0xEF)

abbrev then_blinking : ℕ → ℕ → Plan (Unit {0})
then_blinking port b = do
  out 0x3C0 0x30
  control ← inp 0x3C1
  out 0x3C0 (bit_or (bit_and control 0xF7) (8 * b))
  show_palette port

pub blinking_set : (c : CardState) (b : ℕ) →
    (run card_meaning (set_blinking_plan (crtc_port c.misc) b) c).0 ≡ with_attr c (with_blinking c.attr.registers b) 0x20 false
unfolding set_blinking_plan reached_by out_reached inp_reached
blinking_set c b = ap (λ r. r.0) (expected_runs (then_blinking (crtc_port c.misc) b) c) ∙ again c (with_blinking c.attr.registers b) 0x30

-- ---- all values of the palette, and the overscan

abbrev sixteen : ℕ → List ℕ → ℕ → Plan (Unit {0})
sixteen port values v = do
  each (λ i. write_attribute_register i (slice_index values i)) 16 0
  write_attribute_register 0x11 v
  show_palette port

-- the registers with these palette values and this overscan
abbrev pub with_palette : List ℕ → List ℕ → ℕ → List ℕ
with_palette l values v = list_by_function (λ i. six_bits (slice_index values i)) 0 16 ++ slice_index l 16 ∷ bit_and v 0xFF ∷ slice_index l 18 ∷ slice_index l 19
    ∷ slice_index l 20 ∷ []

-- setting all palette values and the overscan, when the registers are spelled out
sixteen_by : (c : CardState) (values : List ℕ) (v : ℕ) → (let l = c.attr.registers in
    (run card_meaning (sixteen (crtc_port c.misc) values v) (with_attr c (list_by_function (slice_index l) 0 21) c.attr.index false)).0
    ≡ with_attr c (with_palette l values v) 0x20 false)
unfolding reached_by out_reached
sixteen_by c values v = again c (with_palette c.attr.registers values v) 0x11

group_is : (port : ℕ) (block : List ℕ) → length (take 16 block) ≡ 16 →
    set_palette_plan port block ≡ (reset_attribute_flip_flop port >> sixteen port (take 16 block) (slice_index block 16))
unfolding set_palette_plan write_attribute_registers
group_is port block e = ap (λ n. let x : Plan (Unit {0}) = (reset_attribute_flip_flop port >> (each (λ i. write_attribute_register i (slice_index (take 16 block) i)) n 0
    >> (write_attribute_register 0x11 (slice_index block 16) >> show_palette port))) in x) e

pub palette_set : (c : CardState) (block : List ℕ) → IsCard c → length (take 16 block) ≡ 16 →
    (run card_meaning (set_palette_plan (crtc_port c.misc) block) c).0 ≡ with_attr c (with_palette c.attr.registers (take 16 block) (slice_index block 16)) 0x20
    false
palette_set c block z n =
    let values = take 16 block in
    let v = slice_index block 16 in
    let plan = sixteen (crtc_port c.misc) values v in
    ap (λ q. (run card_meaning q c).0) (group_is (crtc_port c.misc) block n)
    ∙ ap (λ r. r.0) (expected_runs plan c)
    ∙ ap (λ l. (run card_meaning plan (with_attr c l c.attr.index false)).0) (spelled c.attr.registers 21 z.attr.size)
    ∙ sixteen_by c values v

-- ---- a register is read

-- index 20 + i selects register i and shows the palette
record Reads (i : ℕ) : Type 0 where
  kept : bit_and (0x20 + i) 0x3F ≡ 0x20 + i
  number : field (0x20 + i) 4 0 ≡ i
  there : nat_lt 20 i ≡ false
  shown : is_set (0x20 + i) 5 ≡ true

reads : (i : ℕ) → i < 18 → Reads i
reads i l = record {
  kept = same (agree_below_at (λ n. bit_and (0x20 + n) 0x3F == 0x20 + n) (λ _. true) 18 i refl l);
  number = same (agree_below_at (λ n. field (0x20 + n) 4 0 == n) (λ _. true) 18 i refl l);
  there = agree_below_at (λ n. nat_lt 20 n) (λ _. false) 18 i refl l;
  shown = agree_below_at (λ n. is_set (0x20 + n) 5) (λ _. true) 18 i refl l;
}

pub index_shown : (i : ℕ) → i < 18 → is_set (0x20 + i) 5 ≡ true
index_shown i l = (reads i l).shown

value_read_by : (s : CardState) (l : List ℕ) (j : ℕ) → run card_meaning (inp 0x3C1) (with_attr s l j true)
    ≡ (let r = card_after_read (with_attr s l j true) (unless_refused (nat_lt 20 (field j 4 0)) (without_beam_and_dots (with_attr s l j true), slice_index l (field j 4 0))) in let p : CardState
    × ℕ = (r.0, read_byte_or_ff r.1) in p)
unfolding reached_by inp_reached
value_read_by s l j = refl

value_read : (s : CardState) (l : List ℕ) (i : ℕ) → Reads i → run card_meaning (inp 0x3C1) (with_attr s l (0x20 + i) true)
    ≡ (with_attr s l (0x20 + i) true, slice_index l i)
value_read s l i n = value_read_by s l (0x20 + i) ∙ rw (n.number, n.there) refl

-- register i is answered; the controller expects an index before and after
pub value_of_register : (c : CardState) (l : List ℕ) (j i : ℕ) → i < 18 →
    run card_meaning (read_attribute_register_in_index_state_plan (crtc_port c.misc) i) (with_attr c l j false) ≡ (with_attr c l (0x20 + i) false, slice_index l i)
unfolding read_attribute_register_in_index_state_plan reached_by out_reached
value_of_register c l j i k =
    let n = reads i k in
    let rest : ℕ → Plan ℕ = λ value. (reset_attribute_flip_flop (crtc_port c.misc) >> Done value) in
    ap (λ a. run card_meaning (inp 0x3C1 >>= rest) (with_attr c l a true)) n.kept
    ∙ run_bind card_meaning (inp 0x3C1) rest (with_attr c l (0x20 + i) true)
    ∙ ap (λ (r : CardState × ℕ). run card_meaning (rest r.1) r.0) (value_read c l i n)
    ∙ expected_runs (let d : Plan ℕ = Done (slice_index l i) in d) (with_attr c l (0x20 + i) true)

pub register_read : (c : CardState) (i : ℕ) → i < 18 →
    run card_meaning (read_attribute_register_plan (crtc_port c.misc) i) c ≡ (with_attr c c.attr.registers (0x20 + i) false, slice_index c.attr.registers i)
unfolding read_attribute_register_plan
register_read c i k = expected_runs (read_attribute_register_in_index_state_plan (crtc_port c.misc) i) c ∙ value_of_register c c.attr.registers c.attr.index i k
