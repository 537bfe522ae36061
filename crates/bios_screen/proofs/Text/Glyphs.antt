-- Loading glyphs: Puts to plane 2.
use Rattle.std.proofs.Common.{◌≡◌, ℕ, ◌+◌, ◌*◌, ◌<◌, ◌≤◌, sym, ap, ◌∙◌, subst, arith, List, [], ◌∷◌, length, true}
use Rattle.std.specs.Prelude.{slice_index, slice_set, ◌==◌, if◌then◌else◌}
use Rattle.std.proofs.lemmas.Bool.Decides.{nat_tests}
use Rattle.std.proofs.lemmas.List.{length-set}
use Rattle.vga_bits.specs.Bits.{byte_of_bits}
use Rattle.vga_bits.proofs.BitLemmas.{byte_bits}
use Rattle.bios_screen.proofs.Prelude.{Four, HostState, card_meaning, CardState, run, put}
use Rattle.vga_host.specs.Memory.Address.{is_decoded, window_offset}
use Rattle.vga_host.specs.Memory.Write.{written_bit, combined_bit, written_byte, memory_after_put}
use Rattle.bios_services.specs.ModeSet.{write_glyph_plan, write_glyphs_plan}
use Rattle.bios_screen.proofs.Base.Flat.{Edited, Turn, Leaves, set_cell, list_put}
use Rattle.bios_screen.proofs.Base.Edits.{one_edit, edits}
use Rattle.bios_screen.proofs.Base.Setting.{Setting, setting, host_at, with_memory, put_decoded}
use Rattle.bios_screen.proofs.Modes.TextModes.{Display, misc_of}
use Rattle.bios_screen.proofs.Modes.TextModes.Display.{Colour, Monochrome}

-- the setting that puts plane 2 alone at A0000
abbrev pub glyph_setting : Display → Setting
glyph_setting disp = record { misc = misc_of disp; seq = 3 ∷ 0 ∷ 4 ∷ 0 ∷ 6 ∷ []; gfx = 0 ∷ 0 ∷ 0 ∷ 0 ∷ 0 ∷ 0 ∷ 4 ∷ 0 ∷ 0xFF ∷ [] }

-- all of an adapter except the plane of glyphs
abbrev pub without_glyphs : CardState → CardState
without_glyphs c = record c { host = record c.host { memory = record c.host.memory { plane2 = [] } } }

-- an adapter that is loading glyphs; byte o of its plane 2 is g o
pub record IsLoading (disp : Display) (rest : CardState) (c : CardState) (g : ℕ → ℕ) : Type 0 where
  pub mode : setting c ≡ glyph_setting disp
  pub size2 : length c.host.memory.plane2 ≡ 65536
  pub row : (o : ℕ) → o < 65536 → slice_index c.host.memory.plane2 o ≡ g o
  pub others : without_glyphs c ≡ rest

glyph_decoded : (disp : Display) (h : HostState) (a : ℕ) → a < 65536 → is_decoded (host_at h (glyph_setting disp)) (misc_of disp) (0xA0000 + a) ≡ true
glyph_decoded Colour h a l = grind (arith, nat_tests)
glyph_decoded Monochrome h a l = grind (arith, nat_tests)

glyph_window : (disp : Display) (h : HostState) (a : ℕ) → a < 65536 → window_offset (host_at h (glyph_setting disp)) (0xA0000 + a) ≡ a
glyph_window disp h a l = omega arith

written_glyph_byte : (disp : Display) (h : HostState) (v : ℕ) → v < 256 → written_byte (host_at h (glyph_setting disp)) v 2 ≡ v
unfolding byte_of_bits written_bit combined_bit
written_glyph_byte disp h v l = byte_bits v l

-- a Put reaches plane 2 alone, by computation
glyph_memory : (disp : Display) (h : HostState) (a v : ℕ) → v < 256 → memory_after_put (host_at h (glyph_setting disp)) a v
    ≡ record h.memory { plane2 = slice_set h.memory.plane2 a v }
glyph_memory disp h a v l = ap (λ x. let m : Four (List ℕ) = record h.memory { plane2 = slice_set h.memory.plane2 a x } in m) (written_glyph_byte disp h v l)

glyph_put : (disp : Display) (rest c : CardState) (g : ℕ → ℕ) (a v : ℕ) → a < 65536 → v < 256 → IsLoading disp rest c g →
    IsLoading disp rest (run card_meaning (put (0xA0000 + a) v) c).0 (set_cell g a v)
glyph_put disp rest c g a v l h t =
    let p = c.host.memory.plane2 in
    let after = with_memory c (record c.host.memory { plane2 = slice_set p a v }) in
    let still : IsLoading disp rest after (set_cell g a v) = record {
      mode = t.mode;
      size2 = length-set p a v ∙ t.size2;
      row = λ o w. list_put true p a v o (omega (arith, t.size2)) ∙ ap (λ x. if o == a then v else x) (t.row o w);
      others = t.others;
    } in
    subst (λ x. IsLoading disp rest x (set_cell g a v))
    (sym (put_decoded c (glyph_setting disp) (0xA0000 + a) v t.mode (glyph_decoded disp c.host a l)
    ∙ ap (λ o. with_memory c (memory_after_put (host_at c.host (glyph_setting disp)) o v)) (glyph_window disp c.host a l)
    ∙ ap (with_memory c) (glyph_memory disp c.host a v h)))
    still

glyph_loaded : (disp : Display) (rest c : CardState) (g : ℕ → ℕ) (line : ℕ → ℕ → ℕ) (height ch : ℕ) → ch < 256 → height ≤ 16 → ((r : ℕ) → line ch r < 256) →
    IsLoading disp rest c g → Leaves CardState ℕ (IsLoading disp rest) (run card_meaning (write_glyph_plan line height ch) c).0
    (Edited ℕ (Turn (λ _. Unit {0}) 0 height) (λ h. 32 * ch + h.turn) (λ h x. line ch h.turn) g)
unfolding write_glyph_plan
glyph_loaded disp rest c g line height ch lc lh small t =
    edits CardState ℕ card_meaning (λ r. put (0xA0000 + 32 * ch + r) (line ch r)) (λ _. IsLoading disp rest) 0 height (λ _. Unit {0}) (λ r _. 32 * ch + r)
    (λ r _ x. line ch r)
    (λ a b _ _ lb lo hi. omega arith)
    (λ r s x lb w u.
    let e : 0xA0000 + (32 * ch + r) ≡ 0xA0000 + 32 * ch + r = omega arith in
    let new : ℕ → ℕ = set_cell x (32 * ch + r) (line ch r) in
    record {
      cells = new;
      shown = subst (λ a. IsLoading disp rest (run card_meaning (put a (line ch r)) s).0 new) e
          (glyph_put disp rest s x (32 * ch + r) (line ch r) (omega arith) (small r) u);
      fact = one_edit (32 * ch + r) (line ch r) x;
    })
    height 0 c g (omega arith) (omega arith) t

-- the lines of n glyphs are written, from character `first` on
pub glyphs_loaded : (disp : Display) (rest c : CardState) (g : ℕ → ℕ) (line : ℕ → ℕ → ℕ) (height n first : ℕ) → first + n ≤ 256 → height ≤ 16 →
    ((ch r : ℕ) → line ch r < 256) → IsLoading disp rest c g
    → Leaves CardState ℕ (IsLoading disp rest) (run card_meaning (write_glyphs_plan line height n first) c).0
    (Edited ℕ (Turn (λ _. Turn (λ _. Unit {0}) 0 height) first (first + n)) (λ h. 32 * h.turn + h.place.turn) (λ h x. line h.turn h.place.turn) g)
unfolding write_glyphs_plan
glyphs_loaded disp rest c g line height n first lc lh small t =
    edits CardState ℕ card_meaning (write_glyph_plan line height) (λ _. IsLoading disp rest) first (first + n) (λ _. Turn (λ _. Unit {0}) 0 height) (λ ch h.
    32 * ch + h.turn) (λ ch h x. line ch h.turn)
    (λ a b g h lb lo hi. let x = g.before in let y = h.before in omega arith)
    (λ ch s x lb w u. glyph_loaded disp rest s x line height ch (omega arith) lh (small ch) u)
    n first c g (omega arith) (omega arith) t
