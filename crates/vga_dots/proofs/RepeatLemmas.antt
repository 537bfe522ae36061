-- In graphics a dot's colour does not depend on the scan line.
use Rattle.std.proofs.Common.{◌≡◌, ℕ, sym, ap, ◌∙◌, Bool, true, [], ◌∷◌}
use Rattle.std.specs.Prelude.{not, if◌then◌else◌, bit_and}
use Rattle.vga_host.specs.Host.{HostState}
use Rattle.vga_host.specs.Sequencer.{is_screen_off}
use Rattle.vga_host.specs.Graphics.{is_graphics, is_256_colours}
use Rattle.vga_crtc.specs.declared.beam.Beam.{Beam}
use Rattle.vga_crtc.specs.Crtc.{CrtcState}
use Rattle.vga_attr.specs.Attr.{AttrState}
use Rattle.vga_attr.specs.Fields.{is_palette_shown, overscan}
use Rattle.vga_attr.specs.Colour.{colour_index}
use Rattle.vga_dac.specs.Dac.{DacState, entry_of}
use Rattle.vga_dots.specs.declared.source_dot.SourceDot.{SourceDot}
use Rattle.vga_dots.specs.SourceDot.{panning_shift, source_dot}
use Rattle.vga_dots.specs.Text.{text_nibble}
use Rattle.vga_dots.specs.Graphics.{planar_nibble, packed_byte}
use Rattle.vga_dots.specs.Colour.{nibble, colour_number, dot_colour}
use Rattle.vga_dots.specs.Line.{with_beam_at_dot_of_character}
use Rattle.vga_dots.specs.Repeat.{BeginAtSameFetch}

module _ (h : HostState) (c : CrtcState) (b : Beam) (a : AttrState) (x k : ℕ) (same : BeginAtSameFetch b c.beam) where
  abbrev there : CrtcState
  there = with_beam_at_dot_of_character (record c { beam = b }) x k

  abbrev here : CrtcState
  here = with_beam_at_dot_of_character c x k

  abbrev fetched : ℕ → Bool → CrtcState
  fetched base split = record c { beam = record c.beam { base = base; split = split; character = x; dot = k } }

  same_source : source_dot h there a ≡ source_dot h here a
  unfolding source_dot panning_shift
  same_source = ap (λ (base : ℕ). source_dot h (fetched base b.split) a) (sym same.base)
      ∙ ap (λ (split : Bool). source_dot h (fetched c.beam.base split) a) (sym same.split)

  same_packed : packed_byte h there (source_dot h there a) ≡ packed_byte h here (source_dot h here a)
  unfolding packed_byte
  same_packed = ap (λ (s : SourceDot). packed_byte h here s) same_source

  same_planar : planar_nibble h there (source_dot h there a) ≡ planar_nibble h here (source_dot h here a)
  unfolding planar_nibble
  same_planar = ap (λ (s : SourceDot). planar_nibble h here s) same_source

  same_nibble : is_graphics h ≡ true → nibble h there a ≡ nibble h here a
  unfolding nibble
  same_nibble graphics =
      ap (λ (v : Bool). if v then planar_nibble h there (source_dot h there a) else text_nibble h there a (source_dot h there a)) graphics
      ∙ same_planar
      ∙ sym (ap (λ (v : Bool). if v then planar_nibble h here (source_dot h here a) else text_nibble h here a (source_dot h here a)) graphics)

  same_number : is_graphics h ≡ true → colour_number h there a ≡ colour_number h here a
  unfolding colour_number
  same_number graphics =
      ap (λ (n : ℕ). if not (is_palette_shown a) then overscan a else if is_256_colours h then n else colour_index a (nibble h there a)) same_packed
      ∙ ap (λ (n : ℕ). if not (is_palette_shown a) then overscan a else if is_256_colours h then packed_byte h here (source_dot h here a)
      else colour_index a n) (same_nibble graphics)

-- the dots of a line that begins at the same counter have the same colours
pub same_colour : (h : HostState) (c : CrtcState) (b : Beam) (a : AttrState) (d : DacState) (x k : ℕ) → is_graphics h ≡ true → BeginAtSameFetch b c.beam →
    dot_colour h (with_beam_at_dot_of_character (record c { beam = b }) x k) a d ≡ dot_colour h (with_beam_at_dot_of_character c x k) a d
unfolding dot_colour
same_colour h c b a d x k graphics same =
    ap (λ (n : ℕ). if is_screen_off h then 0 ∷ 0 ∷ 0 ∷ [] else entry_of d (bit_and n d.mask)) (same_number h c b a x k same graphics)
