-- A dot's colour depends on nothing of the host path except the memory and four registers.
use Rattle.std.proofs.Common.{◌≡◌, ℕ, ◌∙◌, sym, refl, List, [], ◌∷◌}
use Rattle.std.specs.Prelude.{slice_index}
use Rattle.vga_bits.specs.Four.{Four, four_by_plane}
use Rattle.vga_host.specs.Host.{HostState}
use Rattle.vga_crtc.specs.Crtc.{CrtcState}
use Rattle.vga_attr.specs.Attr.{AttrState}
use Rattle.vga_dac.specs.Dac.{DacState}
use Rattle.vga_dots.specs.SourceDot.{panning_shift, source_dot}
use Rattle.vga_dots.specs.Text.{text_nibble, cell_at, glyph_row, is_foreground, is_glyph_dot, is_blinked_away, is_underlined}
use Rattle.vga_dots.specs.Graphics.{planar_nibble, packed_byte, plane_bits}
use Rattle.vga_dots.specs.Colour.{nibble, colour_number, dot_colour}
use Rattle.vga_dots.specs.Seen.{DotsSeeSameRegisters}

-- the host path with these registers, and 0 in all others
abbrev seen : Four (List ℕ) → ℕ → ℕ → ℕ → ℕ → HostState
seen memory clocking maps mode miscellaneous = record {
  memory = memory;
  latches = four_by_plane (λ p. 0);
  seq = 0 ∷ clocking ∷ 0 ∷ maps ∷ 0 ∷ [];
  gfx = 0 ∷ 0 ∷ 0 ∷ 0 ∷ 0 ∷ mode ∷ miscellaneous ∷ 0 ∷ 0 ∷ [];
  seq_index = 0;
  gfx_index = 0;
}

seen_colour : (h : HostState) (c : CrtcState) (a : AttrState) (d : DacState) → dot_colour h c a d
    ≡ dot_colour (seen h.memory (slice_index h.seq 1) (slice_index h.seq 3) (slice_index h.gfx 5) (slice_index h.gfx 6)) c a d
unfolding dot_colour colour_number nibble source_dot panning_shift text_nibble is_foreground is_glyph_dot is_blinked_away is_underlined glyph_row cell_at
    planar_nibble packed_byte plane_bits
seen_colour h c a d = refl

pub colour_alike : (h other : HostState) (c : CrtcState) (a : AttrState) (d : DacState) → DotsSeeSameRegisters h other → dot_colour other c a d ≡ dot_colour h c a d
colour_alike h other c a d alike =
    seen_colour other c a d
    ∙ (λ j. dot_colour (seen (alike.memory j) (alike.clocking_mode j) (alike.character_map_select j) (alike.graphics_mode j) (alike.miscellaneous j)) c a d)
    ∙ sym (seen_colour h c a d)
