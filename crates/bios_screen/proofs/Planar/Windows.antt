-- Scrolling a window of sixteen colours: what its plan leaves in the four planes.
use Rattle.std.proofs.Common.{◌≡◌, ℕ, ◌+◌, ◌-◌, ◌%◌, ◌<◌, ◌≤◌, refl, sym, ap, ◌∙◌, subst, arith, Bool, true, false}
use Rattle.std.specs.Prelude.{◌==◌, if◌then◌else◌}
use Rattle.bios_screen.proofs.Prelude.{is_set, Four, bytes_at, card_meaning, CardState, ColumnBand, Planar, Window, Direction, write_graphics, run, put, get, ◌>>◌}
use Rattle.vga_bits.specs.Bits.{byte_of_bits}
use Rattle.vga_bits.specs.Four.{of_plane}
use Rattle.vga_bits.proofs.BitLemmas.{byte_bits}
use Rattle.vga_bits.proofs.FourLemmas.{by_plane}
use Rattle.vga_host.specs.Memory.Write.{written_bit, combined_bit}
use Rattle.bios_services.specs.Bands.{filling_byte, one_byte_filling, fill_rows, move_rows, fill_plan, scroll_rows}
use Rattle.bios_services.specs.Cycles.{write_sequencer}
use Rattle.bios_services.specs.Plan.{move}
use Rattle.bios_screen.proofs.Base.Flat.{Leaves, set_cell}
use Rattle.bios_screen.proofs.Base.Edits.{edited_twice}
use Rattle.bios_screen.proofs.Base.Plans.{run_bind}
use Rattle.bios_screen.proofs.Base.Windows.{first_new, parts}
use Rattle.bios_screen.proofs.Base.Bands.{IsWindow}
use Rattle.bios_screen.proofs.Base.Bands as bands
use Rattle.bios_screen.proofs.Base.Shifts as shifts
use Rattle.bios_screen.proofs.Planar.Settings.{Hand, at_rest, drawing, stored, Loaded, put_draws, get_loads, mask_set, mode_set}
use Rattle.bios_screen.proofs.Planar.Characters.{Drawn, put_in_planes, lined}

-- the registers for write mode 1
abbrev copying : Hand
copying = record { mask = 0x0F; turn = 0x00; mode = 0x01; bits = 0xFF }

abbrev planes_of : ℕ → Hand
planes_of mask = record { mask = mask; turn = 0x00; mode = 0x00; bits = 0xFF }

-- write mode 1 stores the latches as they are
latched : (e d v : ℕ) (q old : Four ℕ) → ((p : ℕ) → p < 4 → of_plane q p < 256) → stored (drawing e d copying) 0x0F v q old ≡ q
unfolding byte_of_bits written_bit combined_bit
latched e d v q old h = rw (
  byte_bits q.plane0 (h 0 (omega arith)),
  byte_bits q.plane1 (h 1 (omega arith)),
  byte_bits q.plane2 (h 2 (omega arith)),
  byte_bits q.plane3 (h 3 (omega arith)),
) refl

stores_byte : (e d v mask : ℕ) (q old : Four ℕ) → stored (drawing e d (planes_of mask)) mask v q old ≡ put_in_planes mask v old
unfolding byte_of_bits written_bit combined_bit
stores_byte e d v mask q old = refl

-- in write mode 1 a move copies all four bytes
cell_moved : (rest : CardState) (e d : ℕ) → is_set e 1 ≡ true → (a b : ℕ) (c : CardState) (f : ℕ → Four ℕ) → a < 65536 → b < 65536 →
    Drawn rest e d copying c f → Drawn rest e d copying (run card_meaning (move (0xA0000 + a) (0xA0000 + b)) c).0 (set_cell f b (f a))
cell_moved rest e d on a b c f la lb t =
    let v = (run card_meaning (get (0xA0000 + a)) c).1 in
    let c1 = (run card_meaning (get (0xA0000 + a)) c).0 in
    let loaded = get_loads rest e d a copying t.latches c f on t.is la in
    let small : (p : ℕ) → p < 4 → of_plane (f a) p < 256 = λ p l. subst (λ x. of_plane x p < 256) (t.is.cell a) (by_four c a t.is p l) in
    let same = latched e d v (f a) (f b) small in
    let put_there = subst (λ x. Loaded rest e d copying (run card_meaning (put (0xA0000 + b) v) c1).0 (set_cell f b x) (f a)) same
    (put_draws rest e d b v copying (f a) c1 f on loaded lb) in
    record { latches = f a; is = put_there }
  where
    by_four : (c : CardState) (a : ℕ) → Loaded rest e d copying c f t.latches → (p : ℕ) → p < 4 → of_plane (bytes_at c.host.memory a) p < 256
    by_four c a u p l = by_plane (λ p. of_plane (bytes_at c.host.memory a) p < 256) (u.bounds.host.memory.bytes 0 (omega arith) a)
        (u.bounds.host.memory.bytes 1 (omega arith) a) (u.bounds.host.memory.bytes 2 (omega arith) a) (u.bounds.host.memory.bytes 3 (omega arith) a) p l

-- a Put stores its byte in the planes of the mask
cell_put : (rest : CardState) (e d mask : ℕ) → is_set e 1 ≡ true → (j v : ℕ) (c : CardState) (f : ℕ → Four ℕ) → j < 65536 → v < 256 →
    Drawn rest e d (planes_of mask) c f → Drawn rest e d (planes_of mask) (run card_meaning (put (0xA0000 + j) v) c).0 (set_cell f j (put_in_planes mask v (f j)))
cell_put rest e d mask on j v c f lj lv t = record {
  latches = t.latches;
  is = subst (λ x. Loaded rest e d (planes_of mask) (run card_meaning (put (0xA0000 + j) v) c).0 (set_cell f j x) t.latches)
      (stores_byte e d v mask t.latches (f j)) (put_draws rest e d j v (planes_of mask) t.latches c f on t.is lj);
}

pub filled_uniform : (v i : ℕ) → filling_byte (one_byte_filling v) i ≡ v
filled_uniform v i = by_test (i % 2 == 0)
  where
    by_test : (b : Bool) → (let x : ℕ = (if b then v else v) in x) ≡ v
    by_test true = refl
    by_test false = refl

module _ (rest : CardState) (e d : ℕ) (on : is_set e 1 ≡ true) (first_byte pitch lines left width start rows : ℕ) (window : Window)
    (w : IsWindow 0xA0000 65536 (record { kind = Planar; start = first_byte; pitch = pitch; lines = lines; left = left; width = width }) start rows window)
  where
    abbrev band : ColumnBand
    band = record { kind = Planar; start = first_byte; pitch = pitch; lines = lines; left = left; width = width }

    -- filling all planes with 00, and then the colour's planes with FF, gives the colour
    filling_is : (mask i : ℕ) (q : Four ℕ) → put_in_planes mask (filling_byte (one_byte_filling 0xFF) i) (put_in_planes 0x0F (filling_byte (one_byte_filling 0x00) i) q) ≡ lined false mask 0xFF q
    filling_is mask i q = ap (λ v. put_in_planes mask v (put_in_planes 0x0F (filling_byte (one_byte_filling 0x00) i) q)) (filled_uniform 0xFF i)
        ∙ ap (λ v. put_in_planes mask 0xFF (put_in_planes 0x0F v q)) (filled_uniform 0x00 i)

    abbrev IsScrolled : Direction → ℕ → ℕ → (ℕ → Four ℕ) → (ℕ → Four ℕ) → Type 0
    IsScrolled direction n mask = shifts.IsScrolled (Four ℕ) 0xA0000 65536 band start rows window w direction n (λ _. lined false mask 0xFF)

    -- rows move through the latches, and new rows get the colour
    pub scrolls : (direction : Direction) (n colour : ℕ) (c : CardState) (f : ℕ → Four ℕ) → 0 < n → n ≤ window.height → Drawn rest e d at_rest c f →
        Leaves CardState (Four ℕ) (Drawn rest e d at_rest) (run card_meaning (scroll_rows band direction window.top window.height n colour) c).0
        (IsScrolled direction n (colour % 16) f)
    unfolding scroll_rows fill_plan
    scrolls direction n colour c f some few t =
        let mask = colour % 16 in
        let new = first_new direction window n in
        let p1 = move_rows band direction n window.top (window.height - n) in
        let p2 = fill_rows band (one_byte_filling 0x00) new n in
        let p3 = fill_rows band (one_byte_filling 0xFF) new n in
        let fits = (parts direction window n few).new_below in
        let c1 = (run card_meaning (write_graphics 5 0x01) c).0 in
        let t1 : Drawn rest e d copying c1 f = record { latches = t.latches; is = mode_set rest e d 0x01 at_rest t.latches c f refl refl t.is } in
        let m1 = bands.rows_moved CardState (Four ℕ) card_meaning 0xA0000 65536 band start rows window w (Drawn rest e d copying)
        (cell_moved rest e d on) direction n c1 f some few t1 in
        let c2 = (run card_meaning p1 c1).0 in
        let c3 = (run card_meaning (write_graphics 5 0x00) c2).0 in
        let t3 : Drawn rest e d (planes_of 0x0F) c3 m1.cells = record {
          latches = m1.shown.latches;
          is = mode_set rest e d 0x00 copying m1.shown.latches c2 m1.cells refl refl m1.shown.is;
        } in
        let m2 = bands.rows_filled CardState (Four ℕ) card_meaning 0xA0000 65536 band start rows window w (Drawn rest e d (planes_of 0x0F)) (put_in_planes 0x0F)
        (cell_put rest e d 0x0F on) (one_byte_filling 0x00) (omega arith) (omega arith) new n c3 m1.cells fits t3 in
        let c4 = (run card_meaning p2 c3).0 in
        let c5 = (run card_meaning (write_sequencer 2 mask) c4).0 in
        let t5 : Drawn rest e d (planes_of mask) c5 m2.cells = record {
          latches = m2.shown.latches;
          is = mask_set rest e d mask (planes_of 0x0F) m2.shown.latches c4 m2.cells (omega arith) m2.shown.is;
        } in
        let m3 = bands.rows_filled CardState (Four ℕ) card_meaning 0xA0000 65536 band start rows window w (Drawn rest e d (planes_of mask)) (put_in_planes mask)
        (cell_put rest e d mask on) (one_byte_filling 0xFF) (omega arith) (omega arith) new n c5 m2.cells fits t5 in
        let c6 = (run card_meaning p3 c5).0 in
        let e1 = run_bind card_meaning p1 (λ _. write_graphics 5 0x00 >> (p2 >> (write_sequencer 2 mask >> (p3 >> write_sequencer 2 0x0F)))) c1 in
        let e2 = run_bind card_meaning p2 (λ _. write_sequencer 2 mask >> (p3 >> write_sequencer 2 0x0F)) c3 in
        let e3 = run_bind card_meaning p3 (λ _. write_sequencer 2 0x0F) c5 in
        subst (λ r. Leaves CardState (Four ℕ) (Drawn rest e d at_rest) r.0 (IsScrolled direction n mask f)) (sym (e1 ∙ e2 ∙ e3)) (record {
          cells = m3.cells;
          shown = record {
            latches = m3.shown.latches;
            is = mask_set rest e d 0x0F (planes_of mask) m3.shown.latches c6 m3.cells (omega arith) m3.shown.is;
          };
          fact = shifts.is_scrolled (Four ℕ) 0xA0000 65536 band start rows window w direction n few (λ _. lined false mask 0xFF) (λ h q.
              put_in_planes mask (filling_byte (one_byte_filling 0xFF) h.place.place.turn) (put_in_planes 0x0F (filling_byte (one_byte_filling 0x00) h.place.place.turn) q)) (λ h q.
              filling_is mask h.place.place.turn q) f m1.cells m3.cells m1.fact (edited_twice _ (λ h q.
              put_in_planes 0x0F (filling_byte (one_byte_filling 0x00) h.place.place.turn) q) (λ h q. put_in_planes mask (filling_byte (one_byte_filling 0xFF) h.place.place.turn) q) m1.cells
              m2.cells m3.cells m2.fact m3.fact);
        })
