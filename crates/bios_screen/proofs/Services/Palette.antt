-- Function 10: from a state that shows a screen to one that shows the next.
use Rattle.std.proofs.Common.{◌≡◌, ℕ, zero, suc, ◌+◌, ◌*◌, ◌%◌, ◌<◌, ◌≤◌, refl, sym, ap, ◌∙◌, arith, List, [], ◌∷◌, length, Some, None, Bool, true, false}
use Rattle.std.specs.Prelude.{◌==◌, ◌&&◌, nat_lt, nat_le, slice_index, slice_set, take, drop, bit_and, bit_or}
use Rattle.std.specs.Str.{bytes_eq}
use Rattle.std.proofs.lemmas.Bool.{agree_below_at}
use Rattle.std.proofs.lemmas.List.{get_or-set_same, get_or-set_other, get_or-take, length-take-le, take-set-le, drop-set-lt}
use Rattle.std.proofs.Math.Seq.{take-set-lt}
use Rattle.bios_screen.proofs.Prelude.{is_set, is_palette_shown, DacState, IsCard, card_meaning, CardState, crtc_port, BiosData, AreBytes, FontSet, Regs, Plan}
use Rattle.bios_screen.proofs.Prelude.{run, Done, ◌>>=◌, ◌>>◌, ServiceOutcome, list_by_function, Screen, has_attribute_registers_of_mode, shown, ServiceActsAsOnScreen}
use Rattle.vga_bits.specs.declared.refusal.Refusal.TheVariants.{BadRegister}
use Rattle.vga_attr.specs.Attr.{attr_masks}
use Rattle.vga_dac.specs.declared.component.Component.TheVariants.{Red}
use Rattle.vga_card.specs.Port.{port_of as reached_by}
use Rattle.vga_card.specs.Cycles.{out_reached, inp_reached}
use Rattle.bios_services.specs.declared.colours.ColourService.{ColourService}
use Rattle.bios_services.specs.declared.colours.ColourService.TheVariants.{SetRegister, SetOverscan, SetPalette, SetBlinking, ReadRegister, ReadOverscan}
use Rattle.bios_services.specs.declared.colours.ColourService.TheVariants.{SetEntry, SetEntries, ReadEntry, SetMask, ReadMask}
use Rattle.bios_services.specs.declared.call.Service.TheVariants.{Colours}
use Rattle.bios_services.specs.Registers.{with_high, with_low}
use Rattle.bios_services.specs.Plan.{out}
use Rattle.bios_services.specs.Palette.{set_attribute_register_plan, set_palette_plan, set_blinking_plan, read_attribute_register_plan}
use Rattle.bios_services.specs.Dac.{set_entry_plan, set_entries_plan}
use Rattle.bios_services.specs.Reasons.{refuse_unless, wrong_block}
use Rattle.bios_services.specs.Colours.{colour_refusal, has_dac_entries, refuse_unless_palette_register, refuse_unless_dac_entry, refuse_unless_dac_entries, read_attribute_register_into_bh, read_dac_mask_into_bl, colours_plan}
use Rattle.bios_services.specs.Refusals.{refusal_in_mode}
use Rattle.bios_services.specs.Service.{plan_of_service}
use Rattle.bios_screen.specs.Colours.{six_bits, with_palette_value, with_palette_and_overscan, with_entries, with_colours, colours_answer}
use Rattle.bios_screen.proofs.Base.Reasons.{neither, holds, block_fits}
use Rattle.bios_screen.specs.Step.{refusal_on, next, answer_on}
use Rattle.bios_screen.specs.AfterCall.{OverscanFitsByte}
use Rattle.bios_screen.proofs.Base.Plans.{run_bind, then_runs, then_answers}
use Rattle.bios_screen.proofs.Base.Lists.{same_from_0, spelled}
use Rattle.bios_screen.proofs.Base.Tests.{both_true, same, lt_is, le_is}
use Rattle.bios_services.proofs.CardLemmas.{plan_beam}
use Rattle.bios_screen.proofs.Modes.Frames.{Blinks}
use Rattle.bios_screen.proofs.Shows.Any.{IsAny, any_screen, any_shown, still_any, any_control}
use Rattle.bios_screen.proofs.Services.Cursors.{and_255}
use Rattle.bios_screen.proofs.Services.Attributes.{with_attr, with_blinking, with_palette, register_set, blinking_set, palette_set, index_shown, register_read}
use Rattle.bios_screen.proofs.Services.Dacs.{with_dac, IsLoaded, entries_loaded, entry_loaded, entry_read}

-- what a subfunction answers, and the screen that it leads to
pub record IsColoured (service : ColourService) (r : Regs) (block : List ℕ) (c : CardState) (d : BiosData) (s : Screen) : Type 0 where
  pub answer : (run card_meaning (colours_plan service d.crtc_address r block) c).1 ≡ colours_answer s service r
  pub shows : shown (run card_meaning (colours_plan service d.crtc_address r block) c).0 d ≡ Some (with_colours s service block)

-- the entries of a call that is not refused
pub record EntriesAllowed (first count : ℕ) : Type 0 where
  pub begin : first < 256
  pub all : first + count ≤ 256

pub entries_allowed : (first count : ℕ) → refuse_unless_dac_entries first count ≡ None → EntriesAllowed first count
entries_allowed first count e =
    let both = both_true (nat_lt first 0x100) (nat_le (first + count) 0x100) (holds (has_dac_entries first count) BadRegister e) in
    record { begin = lt_is first 0x100 both.0; all = le_is (first + count) 0x100 both.1 }

module _ (c : CardState) (d : BiosData) (h : IsAny c d) where
  abbrev s : Screen
  s = any_screen c d h c

  abbrev registers : List ℕ
  registers = c.attr.registers

  -- ---- the attribute controller

  -- the test depends on mode control, blinking excepted, and on the registers after overscan
  rest_is : ((bit_and (slice_index registers 0x10) 0xF7 == bit_and (slice_index h.row.attribute 0x10) 0xF7)
      && bytes_eq (drop 0x12 registers) (drop 0x12 h.row.attribute)) ≡ true
  rest_is = (both_true (is_palette_shown c.attr) _ h.tests.attribute).1

  attribute_stays : (l : List ℕ) (i : ℕ) → is_set i 5 ≡ true → bit_and (slice_index l 0x10) 0xF7 ≡ bit_and (slice_index registers 0x10) 0xF7 →
      drop 0x12 l ≡ drop 0x12 registers → has_attribute_registers_of_mode h.row (with_attr c l i false).attr ≡ true
  attribute_stays l i e control rest = rw (e, control, rest) rest_is

  -- other palette values, overscan and blinking give the screen with these
  attribute_shown : (l : List ℕ) (i : ℕ) → is_set i 5 ≡ true → bit_and (slice_index l 0x10) 0xF7 ≡ bit_and (slice_index registers 0x10) 0xF7 →
      drop 0x12 l ≡ drop 0x12 registers → (values : List ℕ) (overscan : ℕ) (blink : Bool) → take 16 l ≡ values → slice_index l 0x11 ≡ overscan →
      is_set (slice_index l 0x10) 3 ≡ blink
      → shown (with_attr c l i false) d ≡ Some (record s { palette = record s.palette { values = values }; overscan = overscan; is_blink = blink })
  attribute_shown l i e control rest values overscan blink ev eo eb =
      any_shown c (with_attr c l i false) d h refl refl (attribute_stays l i e control rest)
      ∙ rw (ev, eo, eb) refl

  -- another DAC gives the screen with its entries and mask
  pub dac_shown : (new : DacState) → shown (with_dac c new) d ≡ Some (record s {
    palette =
        record s.palette { reds = new.reds; greens = new.greens; blues = new.blues; mask = new.mask };
  })
  dac_shown new = any_shown c (with_dac c new) d h refl refl h.tests.attribute

  loaded_shown : (y : CardState) (first count : ℕ) (block : List ℕ) → IsLoaded c y first count block → shown y d ≡ Some (with_entries s first count block)
  loaded_shown y first count block t =
      let mask : y.dac.mask ≡ c.dac.mask = ap (λ x. x.dac.mask) t.others in
      ap (λ x. shown x d) (ap (λ x. with_dac x y.dac) t.others)
      ∙ dac_shown y.dac
      ∙ rw (t.entries.reds, t.entries.greens, t.entries.blues, mask) refl

  -- ---- services that set

  -- a plan that sets something, and then replies the same registers
  setting_served : (service : ColourService) (r : Regs) (block : List ℕ) (p : ℕ → Plan (Unit {0})) →
      colours_plan service d.crtc_address r block ≡ (p d.crtc_address >> Done r) → colours_answer s service r ≡ r →
      shown (run card_meaning (p (crtc_port c.misc)) c).0 d ≡ Some (with_colours s service block) → IsColoured service r block c d s
  setting_served service r block p e a t =
      let q = p d.crtc_address in
      let done : Plan Regs = Done r in
      record {
        answer = ap (λ w. (run card_meaning w c).1) e ∙ then_answers q done c ∙ sym a;
        shows = ap (λ w. shown (run card_meaning w c).0 d) e ∙ ap (λ x. shown x d) (then_runs q done c) ∙ ap (λ n. shown (run card_meaning (p n) c).0 d) h.port
            ∙ t;
      }

  masks_are : (i : ℕ) → i < 16 → slice_index attr_masks i ≡ 0x3F
  masks_are i l = same (agree_below_at (λ n. slice_index attr_masks n == 0x3F) (λ _. true) 16 i refl l)

  value_shown : (i v : ℕ) → i < 16 → shown (run card_meaning (set_attribute_register_plan (crtc_port c.misc) i v) c).0 d ≡ Some (with_palette_value s i v)
  value_shown i v l =
      let x = six_bits v in
      let new = slice_set registers i x in
      let control : slice_index new 0x10 ≡ slice_index registers 0x10 = get_or-set_other registers i 0x10 x 0 (omega arith) in
      ap (λ y. shown y d) (register_set c i v (omega arith))
      ∙ ap (λ m. shown (with_attr c (slice_set registers i (bit_and v m)) 0x20 false) d) (masks_are i l)
      ∙ attribute_shown new 0x20 refl (ap (λ n. bit_and n 0xF7) control) (drop-set-lt 0x12 registers i x (omega arith))
      (slice_set s.palette.values i x) s.overscan s.is_blink (take-set-lt 16 registers i x l) (get_or-set_other registers i 0x11 x 0 (omega arith))
      (ap (λ n. is_set n 3) control)

  overscan_shown : (v : ℕ) → v < 256 → IsCard c →
      shown (run card_meaning (set_attribute_register_plan (crtc_port c.misc) 0x11 v) c).0 d ≡ Some (record s { overscan = v })
  overscan_shown v l z =
      let size = z.attr.size in
      let new = slice_set registers 0x11 v in
      let control : slice_index new 0x10 ≡ slice_index registers 0x10 = get_or-set_other registers 0x11 0x10 v 0 (omega arith) in
      ap (λ y. shown y d) (register_set c 0x11 v (omega arith))
      ∙ ap (λ m. shown (with_attr c (slice_set registers 0x11 m) 0x20 false) d) (and_255 v l)
      ∙ attribute_shown new 0x20 refl (ap (λ n. bit_and n 0xF7) control) (drop-set-lt 0x12 registers 0x11 v (omega arith))
      s.palette.values v s.is_blink (take-set-le 16 registers 0x11 v (omega arith)) (get_or-set_same registers 0x11 v 0 (omega arith))
      (ap (λ n. is_set n 3) control)

  palette_shown : (block : List ℕ) → AreBytes block → IsCard c → length block ≡ 17 →
      shown (run card_meaning (set_palette_plan (crtc_port c.misc) block) c).0 d ≡ Some (with_palette_and_overscan s block)
  palette_shown block bytes z e =
      let values = take 16 block in
      let v = slice_index block 16 in
      let new = with_palette registers values v in
      let last : drop 0x12 new ≡ drop 0x12 registers = sym (ap (drop 0x12) (spelled registers 21 z.attr.size)) in
      ap (λ y. shown y d) (palette_set c block z (length-take-le 16 block (omega arith)))
      ∙ attribute_shown new 0x20 refl refl last
      (list_by_function (λ i. six_bits (slice_index block i)) 0 16) v s.is_blink
      (same_from_0 (λ i. six_bits (slice_index block i)) (λ i. six_bits (slice_index values i)) 16 (λ k l. ap six_bits (get_or-take 16 block k 0 l)))
      (and_255 v (bytes 16)) refl

  -- blinking is bit 3 of mode control, whose other bits are the row's
  blink_by : (b : ℕ) → b < 2 → Blinks h.row b
  blink_by zero l = h.steady
  blink_by (suc zero) l = h.blinks
  blink_by (suc (suc b)) l = absurd (omega arith)

  blink_shown : (b : ℕ) → b < 2 → IsCard c → shown (run card_meaning (set_blinking_plan (crtc_port c.misc) b) c).0 d ≡ Some (record s { is_blink = b == 1 })
  blink_shown b l z =
      let size = z.attr.size in
      let v = bit_and (bit_or (bit_and (slice_index registers 0x10) 0xF7) (8 * b)) 0xEF in
      let new = with_blinking registers b in
      let at : slice_index new 0x10 ≡ v = get_or-set_same registers 0x10 v 0 (omega arith) in
      let value : slice_index new 0x10 ≡ bit_and (bit_or (bit_and (slice_index h.row.attribute 0x10) 0xF7) (8 * b)) 0xEF = at
      ∙ ap (λ n. bit_and (bit_or n (8 * b)) 0xEF) (any_control c d h) in
      let by = blink_by b l in
      ap (λ y. shown y d) (blinking_set c b)
      ∙ attribute_shown new 0x20 refl (ap (λ n. bit_and n 0xF7) value ∙ by.0 ∙ sym (any_control c d h)) (drop-set-lt 0x12 registers 0x10 v (omega arith))
      s.palette.values s.overscan (b == 1) (take-set-le 16 registers 0x10 v (omega arith)) (get_or-set_other registers 0x10 0x11 v 0 (omega arith))
      (ap (λ n. is_set n 3) value ∙ by.1)

  mask_by : (v : ℕ) → (run card_meaning (out 0x3C6 v) c).0 ≡ with_dac c (record c.dac { mask = v })
  unfolding reached_by out_reached
  mask_by v = refl

  -- ---- services that read

  -- a register of the attribute controller is read into BH
  register_in_bh : (i : ℕ) (r : Regs) → i < 18 → run card_meaning (read_attribute_register_into_bh d.crtc_address i r) c
      ≡ (with_attr c registers (0x20 + i) false, record r { bx = with_high r.bx (slice_index registers i) })
  unfolding read_attribute_register_into_bh
  register_in_bh i r l =
      let done : ℕ → Plan Regs = λ value. Done (record r { bx = with_high r.bx value }) in
      run_bind card_meaning (read_attribute_register_plan d.crtc_address i) done c
      ∙ ap (λ p. let x = run card_meaning (read_attribute_register_plan p i) c in run card_meaning (done x.1) x.0) h.port
      ∙ ap (λ (x : CardState × ℕ). run card_meaning (done x.1) x.0) (register_read c i l)

  pub index_moved : (i : ℕ) → i < 18 → shown (with_attr c registers (0x20 + i) false) d ≡ Some s
  index_moved i l = attribute_shown registers (0x20 + i) (index_shown i l) refl refl s.palette.values s.overscan s.is_blink refl refl refl

  mask_read : (r : Regs) → run card_meaning (read_dac_mask_into_bl r) c ≡ (c, record r { bx = with_low r.bx c.dac.mask })
  unfolding read_dac_mask_into_bl reached_by inp_reached
  mask_read r = refl

  -- ---- what is known if a subfunction is not refused

  register_allowed : (i : ℕ) → refuse_unless_palette_register i ≡ None → i < 16
  register_allowed i e = lt_is i 0x10 (holds (nat_lt i 0x10) BadRegister e)

  entry_allowed : (i : ℕ) → refuse_unless_dac_entry i ≡ None → i < 256
  entry_allowed i e = lt_is i 0x100 (holds (nat_lt i 0x100) BadRegister e)

  blink_allowed : (b : ℕ) → refuse_unless (nat_le b 1) BadRegister ≡ None → b < 2
  blink_allowed b e = let z = le_is b 1 (holds (nat_le b 1) BadRegister e) in omega arith

  -- ---- each subfunction

  pub is_coloured : (service : ColourService) (r : Regs) (block : List ℕ) → OverscanFitsByte service → AreBytes block → IsCard c →
      colour_refusal service (length block) ≡ None → IsColoured service r block c d s
  unfolding colours_plan with_colours colours_answer
  is_coloured (SetRegister i v) r block fits bytes z e = setting_served (SetRegister i v) r block (λ p. set_attribute_register_plan p i v) refl refl
      (value_shown i v (register_allowed i e))
  is_coloured (SetOverscan v) r block fits bytes z e = setting_served (SetOverscan v) r block (λ p. set_attribute_register_plan p 0x11 v) refl refl
      (overscan_shown v fits z)
  is_coloured SetPalette r block fits bytes z e = setting_served SetPalette r block (λ p. set_palette_plan p block) refl refl
      (palette_shown block bytes z (block_fits 17 (length block) e))
  is_coloured (SetBlinking b) r block fits bytes z e = setting_served (SetBlinking b) r block (λ p. set_blinking_plan p b) refl refl
      (blink_shown b (blink_allowed b e) z)
  is_coloured (ReadRegister i) r block fits bytes z e =
      let l = register_allowed i e in
      let runs = register_in_bh i r (omega arith) in
      record {
        answer = ap (λ x. x.1) runs ∙ ap (λ n. let x : Regs = record r { bx = with_high r.bx n } in x) (sym (get_or-take 16 registers i 0 l));
        shows = ap (λ x. shown x.0 d) runs ∙ index_moved i (omega arith);
      }
  is_coloured ReadOverscan r block fits bytes z e =
      let runs = register_in_bh 0x11 r (omega arith) in
      record { answer = ap (λ x. x.1) runs; shows = ap (λ x. shown x.0 d) runs ∙ index_moved 0x11 (omega arith) }
  is_coloured (SetEntry entry red green blue) r block fits bytes z e =
      setting_served (SetEntry entry red green blue) r block (λ p. set_entry_plan entry red green blue) refl refl
      (loaded_shown (run card_meaning (set_entry_plan entry red green blue) c).0 entry 1 (red ∷ green ∷ blue ∷ [])
      (entry_loaded c entry red green blue z.dac (entry_allowed entry e)))
  is_coloured (SetEntries first count) r block fits bytes z e =
      let there = neither (refuse_unless_dac_entries first count) (wrong_block (3 * count) (length block)) e in
      let a = entries_allowed first count there.0 in
      setting_served (SetEntries first count) r block (λ p. set_entries_plan first block) refl refl
      (loaded_shown (run card_meaning (set_entries_plan first block) c).0 first count block (entries_loaded c first count block z.dac a.all a.begin
      (block_fits (3 * count) (length block) there.1)))
  is_coloured (ReadEntry entry) r block fits bytes z e =
      let runs = entry_read c entry r in
      record { answer = ap (λ x. x.1) runs; shows = ap (λ x. shown x.0 d) runs ∙ dac_shown (record c.dac { index = (entry + 1) % 256; component = Red }) }
  is_coloured (SetMask mask) r block fits bytes z e =
      setting_served (SetMask mask) r block (λ p. out 0x3C6 mask) refl refl (ap (λ y. shown y d) (mask_by mask) ∙ dac_shown (record c.dac { mask = mask }))
  is_coloured ReadMask r block fits bytes z e =
      let runs = mask_read r in
      record { answer = ap (λ x. x.1) runs; shows = ap (λ x. shown x.0 d) runs ∙ still_any c d h }

-- ---- function 10

pub set_colours : (service : ColourService) (fonts : FontSet) (r : Regs) (block : List ℕ) (c : CardState) (d : BiosData) (h : IsAny c d) → OverscanFitsByte service →
    AreBytes block → IsCard c → ServiceActsAsOnScreen (Colours service) fonts r block c d (any_screen c d h c)
unfolding plan_of_service refusal_in_mode refusal_on next answer_on
set_colours service fonts r block c d h fits bytes z =
    let plan = colours_plan service d.crtc_address r block in
    let done : Regs → Plan ServiceOutcome = λ after. Done (after, d) in
    let runs = run_bind card_meaning plan done c in
    record {
      refusal = refl;
      answer = λ e. ap (λ x. x.1.0) runs ∙ (is_coloured c d h service r block fits bytes z e).answer;
      shows = λ e. ap (λ x. shown x.0 x.1.1) runs ∙ (is_coloured c d h service r block fits bytes z e).shows;
      beam = plan_beam (plan >>= done) c;
    }
