-- The whole adapter as bytes: the miscellaneous output register, the CRT controller, the attribute
-- controller, the DAC, the host path, and the dots that are drawn of the frame under way.
use Rattle.std.specs.Prelude.{ℕ, ◌≡◌, ◌+◌, ◌*◌, ◌≤◌, ◌==◌, min, nat_lt, true}
use Rattle.std.specs.Prelude.{if◌then◌else◌, List, [], ◌∷◌, ◌++◌, length, take, drop, slice_index}
use Rattle.std.specs.Prelude.{bit_and}
use Rattle.std.specs.List.{flat_map}
use Rattle.vga_bits.specs.Saved.{word_bytes, first_words}
use Rattle.vga_host.specs.Saved.{saved_host, IsSavedHost, host_from}
use Rattle.vga_crtc.specs.declared.beam.Beam.{Beam}
use Rattle.vga_crtc.specs.Beam.{is_first_dot_of_frame}
use Rattle.vga_crtc.specs.Saved.{saved_crtc, IsSavedCrtc, crtc_from}
use Rattle.vga_attr.specs.Saved.{saved_attr, IsSavedAttr, attr_from}
use Rattle.vga_dac.specs.Saved.{saved_dac, IsSavedDac, dac_from}
use Rattle.vga_card.specs.Picture.{Dot, most_dots_of_a_line, line_of_each_dot_by_widths, bytes_of_dots}
use Rattle.vga_card.specs.Canvas.{stored_dots}
use Rattle.vga_card.specs.Card.{CardState}
use Rattle.vga_card.specs.Dots.{dots_of_frame_so_far}
use Rattle.vga_card.specs.Lines.{line_widths}

-- ---- the dots drawn

-- the bytes of the dots drawn: a word for each line that counts its dots, and then red, green and
-- blue of each dot
unfoldable pub saved_dots : List Dot → List ℕ
saved_dots dots = flat_map word_bytes (line_widths dots) ++ bytes_of_dots dots

-- the width of each of the 1,024 lines
unfoldable pub widths_from_saved_bytes : List ℕ → List ℕ
widths_from_saved_bytes bytes = first_words 1024 bytes

-- the bytes after the widths
abbrev pub past_widths : List ℕ → List ℕ
past_widths bytes = drop 2048 bytes

-- the dots drawn that have these bytes
unfoldable pub saved_dots_from : List ℕ → List Dot
saved_dots_from bytes = stored_dots (widths_from_saved_bytes bytes) (past_widths bytes)

-- the most dots that line v can have while the beam is at b: 2,304 on a line before the beam's; on
-- its own line those before the beam, with nine dots counted for each character, but at most 2,304;
-- and none on a later line
abbrev pub most_dots_on_line : Beam → ℕ → ℕ
most_dots_on_line b v =
    if nat_lt v b.line then most_dots_of_a_line
    else if v == b.line then min (9 * b.character + b.dot) most_dots_of_a_line
    else 0

-- lines of these widths have no more dots than they can have while the beam is at b
pub record AreWidthsInBounds (b : Beam) (widths : List ℕ) : Type 0 where
  pub most : (v : ℕ) → slice_index widths v ≤ most_dots_on_line b v

-- bytes within the bounds of dots drawn where the beam is at b: no line has more dots than it can,
-- each dot has three bytes, and at the first dot of a frame there is none
pub record AreSavedDots (b : Beam) (bytes : List ℕ) : Type 0 where
  pub few : AreWidthsInBounds b (widths_from_saved_bytes bytes)
  pub counted : length (past_widths bytes) ≡ 3 * length (line_of_each_dot_by_widths 0 (widths_from_saved_bytes bytes))
  pub first : is_first_dot_of_frame b ≡ true → length (past_widths bytes) ≡ 0

-- ---- the adapter

-- the bytes of an adapter
unfoldable pub saved_card : CardState → List ℕ
saved_card c = (c.misc ∷ []) ++ (saved_crtc c.crtc ++ (saved_attr c.attr ++ (saved_dac c.dac
    ++ (saved_host c.host ++ saved_dots (dots_of_frame_so_far c)))))

-- the bytes after the miscellaneous output register
abbrev pub past_misc : List ℕ → List ℕ
past_misc bytes = drop 1 bytes

-- the bytes after those of the CRT controller
abbrev pub past_crtc : List ℕ → List ℕ
past_crtc bytes = drop 37 (past_misc bytes)

-- the bytes after those of the attribute controller
abbrev pub past_attr : List ℕ → List ℕ
past_attr bytes = drop 23 (past_crtc bytes)

-- the bytes after those of the DAC
abbrev pub past_dac : List ℕ → List ℕ
past_dac bytes = drop 773 (past_attr bytes)

-- the bytes after those of the host path
abbrev pub past_host : List ℕ → List ℕ
past_host bytes = drop 262164 (past_dac bytes)

-- the beam of these bytes
abbrev pub beam_of_saved_card : List ℕ → Beam
beam_of_saved_card bytes = (crtc_from (take 37 (past_misc bytes))).beam

-- bytes within the bounds of an adapter: each part's are within its own, and the miscellaneous
-- output register holds bits that it keeps
pub record IsSavedCard (bytes : List ℕ) : Type 0 where
  pub size : 265046 ≤ length bytes
  pub misc : bit_and (slice_index bytes 0) 0xEF ≡ slice_index bytes 0
  pub crtc : IsSavedCrtc (take 37 (past_misc bytes))
  pub attr : IsSavedAttr (take 23 (past_crtc bytes))
  pub dac : IsSavedDac (take 773 (past_attr bytes))
  pub host : IsSavedHost (take 262164 (past_dac bytes))
  pub dots : AreSavedDots (beam_of_saved_card bytes) (past_host bytes)

-- the adapter that has these bytes
unfoldable pub card_from : List ℕ → CardState
card_from bytes = record {
  host = host_from (take 262164 (past_dac bytes));
  crtc = crtc_from (take 37 (past_misc bytes));
  attr = attr_from (take 23 (past_crtc bytes));
  dac = dac_from (take 773 (past_attr bytes));
  misc = slice_index bytes 0;
  drawn = saved_dots_from (past_host bytes);
}
