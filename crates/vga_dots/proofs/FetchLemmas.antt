-- A dot's colour depends on nothing of the memory except what the dot fetches and, in text, the
-- glyphs.
use Rattle.std.proofs.Common.{◌≡◌, ℕ, ◌/◌, ◌<◌, refl, ap, ◌∙◌, arith, Bool, true, false, List, [], ◌∷◌}
use Rattle.std.specs.Prelude.{nat_lt, not, if◌then◌else◌, bit_and, ◌+◌, ◌*◌, ◌-◌}
use Rattle.std.specs.Int.{bit_at}
use Rattle.std.proofs.lemmas.Bool.Decides.{nat_tests}
use Rattle.vga_bits.specs.Four.{Four}
use Rattle.vga_planes.specs.Planes.{byte_at}
use Rattle.vga_host.specs.Host.{HostState}
use Rattle.vga_host.specs.Sequencer.{is_screen_off}
use Rattle.vga_host.specs.Graphics.{is_graphics, is_256_colours}
use Rattle.vga_crtc.specs.Crtc.{CrtcState}
use Rattle.vga_attr.specs.Attr.{AttrState}
use Rattle.vga_attr.specs.Fields.{is_palette_shown, overscan}
use Rattle.vga_attr.specs.Colour.{colour_index}
use Rattle.vga_dac.specs.Dac.{DacState, entry_of}
use Rattle.vga_dots.specs.declared.source_dot.SourceDot.{SourceDot}
use Rattle.vga_dots.specs.declared.text.Cell.{Cell}
use Rattle.vga_dots.specs.SourceDot.{panning_shift, source_dot, fetch_address}
use Rattle.vga_dots.specs.Text.{text_nibble, cell_nibble, cell_at, glyph_row, is_foreground, map_start, character_map, background}
use Rattle.vga_dots.specs.Text.{is_cursor_at, is_blinked_away, is_underlined, is_glyph_dot}
use Rattle.vga_bits.specs.Bits.{field}
use Rattle.vga_dots.specs.Graphics.{planar_nibble, packed_byte, plane_bits}
use Rattle.vga_dots.specs.Colour.{nibble, colour_number, dot_colour}
use Rattle.vga_dots.specs.Fetch.{DotSeesSameBytes}

-- two numbers that are the same where a test holds
same_where : (v : Bool) (x y : ℕ) → (v ≡ true → x ≡ y) → (if v then x else 0) ≡ (if v then y else 0)
same_where true x y e = e refl
same_where false x y e = refl

-- the branch that a test does not take need not be the same
same_branch : (v : Bool) (x y t : ℕ) (u : ℕ) → (v ≡ true → x ≡ y) → (v ≡ false → t ≡ u) → (if v then x else t) ≡ (if v then y else u)
same_branch true x y t u e f = e refl
same_branch false x y t u e f = f refl

half_small : (n : ℕ) → nat_lt n 8 ≡ true → n / 2 < 4
half_small n l = grind (arith, nat_tests)

module _ (h : HostState) (c : CrtcState) (a : AttrState) (memory : Four (List ℕ)) (alike : DotSeesSameBytes h c a memory) where
  abbrev there : HostState
  there = record h { memory = memory }

  abbrev source : SourceDot
  source = source_dot h c a

  abbrev place : ℕ
  place = fetch_address c.registers source.counter

  same_source : source_dot there c a ≡ source_dot h c a
  unfolding source_dot panning_shift
  same_source = refl

  same_packed : packed_byte there c source ≡ packed_byte h c source
  unfolding packed_byte
  same_packed = same_where (nat_lt source.dot 8) _ _ (λ l. alike.fetched (source.dot / 2) (half_small source.dot l))

  same_bits : (i : ℕ) → plane_bits there place i ≡ plane_bits h place i
  unfolding plane_bits
  same_bits i =
      ap (λ x. bit_at x i + 2 * bit_at (byte_at memory 1 place) i + 4 * bit_at (byte_at memory 2 place) i + 8 * bit_at (byte_at memory 3 place) i)
      (alike.fetched 0 (omega arith))
      ∙ ap (λ x. bit_at (byte_at h.memory 0 place) i + 2 * bit_at x i + 4 * bit_at (byte_at memory 2 place) i + 8 * bit_at (byte_at memory 3 place) i)
      (alike.fetched 1 (omega arith))
      ∙ ap (λ x. bit_at (byte_at h.memory 0 place) i + 2 * bit_at (byte_at h.memory 1 place) i + 4 * bit_at x i + 8 * bit_at (byte_at memory 3 place) i)
      (alike.fetched 2 (omega arith))
      ∙ ap (λ x. bit_at (byte_at h.memory 0 place) i + 2 * bit_at (byte_at h.memory 1 place) i + 4 * bit_at (byte_at h.memory 2 place) i + 8 * bit_at x i)
      (alike.fetched 3 (omega arith))

  same_planar : planar_nibble there c source ≡ planar_nibble h c source
  unfolding planar_nibble
  same_planar = ap (λ n. if nat_lt source.dot 8 then n else 0) (same_bits (7 - source.dot))

  same_cell : cell_at there place ≡ cell_at h place
  unfolding cell_at
  same_cell =
      ap (λ (x : ℕ). record { character = x; attribute = byte_at memory 1 place }) (alike.fetched 0 (omega arith))
      ∙ ap (λ (x : ℕ). record { character = byte_at h.memory 0 place; attribute = x }) (alike.fetched 1 (omega arith))

  same_glyph : is_graphics h ≡ false → (cell : Cell) (scan : ℕ) → glyph_row there cell scan ≡ glyph_row h cell scan
  unfolding glyph_row
  same_glyph text cell scan = alike.glyphs text (map_start (character_map h cell) + 32 * cell.character + scan)

  same_foreground : is_graphics h ≡ false → (cell : Cell) → is_foreground there c a source cell ≡ is_foreground h c a source cell
  unfolding is_foreground
  same_foreground text cell =
      ap (λ (row : ℕ). if is_cursor_at c source.counter then true else if is_blinked_away c a cell then false else if is_underlined c a cell then true
      else is_glyph_dot a cell.character row source.dot) (same_glyph text cell c.beam.scan)

  same_text : is_graphics h ≡ false → text_nibble there c a source ≡ text_nibble h c a source
  unfolding text_nibble
  same_text text =
      ap (λ (x : Cell). cell_nibble there c a source x) same_cell
      ∙ ap (λ (v : Bool). if v then field (cell_at h place).attribute 3 0 else background a (cell_at h place)) (same_foreground text (cell_at h place))

  same_nibble : nibble there c a ≡ nibble h c a
  unfolding nibble
  same_nibble =
      ap (λ (s : SourceDot). if is_graphics h then planar_nibble there c s else text_nibble there c a s) same_source
      ∙ same_branch (is_graphics h) _ _ _ _ (λ graphics. same_planar) same_text

  same_number : colour_number there c a ≡ colour_number h c a
  unfolding colour_number
  same_number =
      ap (λ (s : SourceDot). if not (is_palette_shown a) then overscan a else if is_256_colours h then packed_byte there c s else colour_index a (nibble there c a)) same_source
      ∙ ap (λ (n : ℕ). if not (is_palette_shown a) then overscan a else if is_256_colours h then n else colour_index a (nibble there c a)) same_packed
      ∙ ap (λ (n : ℕ). if not (is_palette_shown a) then overscan a else if is_256_colours h then packed_byte h c source else colour_index a n) same_nibble

-- the dot at the beam has the same colour over another memory that it sees alike
pub same_colour : (h : HostState) (c : CrtcState) (a : AttrState) (d : DacState) (memory : Four (List ℕ)) → DotSeesSameBytes h c a memory →
    dot_colour (record h { memory = memory }) c a d ≡ dot_colour h c a d
unfolding dot_colour
same_colour h c a d memory alike =
    ap (λ (n : ℕ). if is_screen_off h then 0 ∷ 0 ∷ 0 ∷ [] else entry_of d (bit_and n d.mask)) (same_number h c a memory alike)
