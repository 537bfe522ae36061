-- A row that is copied is the row that would be drawn.
use Rattle.std.proofs.Common.{◌≡◌, ℕ, zero, suc, ◌+◌, ◌-◌, ◌*◌, ◌/◌, ◌%◌, ◌<◌, ◌≤◌, ⊎_elim, refl, sym, ap, ◌∙◌, arith, Bool, true, false, List, [], ◌∷◌, ◌++◌}
use Rattle.std.proofs.Common.{length, replicate, take, drop, length-append, length-drop}
use Rattle.std.specs.Prelude.{map, if◌then◌else◌}
use Rattle.std.proofs.Math.Seq.{drop-append_seam}
use Rattle.std.proofs.lemmas.Bool.{cases_lt}
use Rattle.std.proofs.lemmas.Bool.Decides.{nat_tests}
use Rattle.std.proofs.lemmas.Nat.{div_below}
use Rattle.std.proofs.lemmas.List.{map-append, drop-drop}
use Rattle.vga_host.specs.Host.{HostState}
use Rattle.vga_host.specs.Sequencer.{character_width as host_width}
use Rattle.vga_host.specs.Graphics.{is_graphics}
use Rattle.vga_crtc.specs.declared.beam.Beam.{Beam}
use Rattle.vga_crtc.specs.Crtc.{CrtcState}
use Rattle.vga_crtc.specs.Beam.{characters, is_first_dot_of_frame, crtc_with_start_taken, after_dots}
use Rattle.vga_crtc.specs.Raster.{IsLineTaken}
use Rattle.vga_crtc.specs.Fields.{horizontal_display_end, vertical_display_end}
use Rattle.vga_attr.specs.Attr.{AttrState}
use Rattle.vga_dac.specs.Dac.{DacState}
use Rattle.vga_dots.specs.Colour.{dot_colour}
use Rattle.vga_dots.specs.Display.{DisplayState}
use Rattle.vga_dots.specs.Line.{with_beam_at_dot_of_character, shown_characters}
use Rattle.vga_dots.specs.Repeat.{BeginAtSameFetch}
use Rattle.vga_card.specs.Picture.{Dot}
use Rattle.vga_card.specs.Canvas.{dots_of_bytes}
use Rattle.vga_card.specs.Dots.{display_dot, dots_unless_frame_start}
use Rattle.vga_card.specs.Frames.{concatenated_dots}
use Rattle.vga_card.specs.Line.{displayed_line_dots}
use Rattle.vga_card.specs.Repeat.{dot_moved_to_line, last_dots_moved_to_line, with_beam, EndsWithLine, ShowsLineAgain}
use Rattle.vga_card.proofs.CanvasLemmas.{length-dots_from}
use Rattle.vga_card.proofs.FrameLemmas.{wide}
use Rattle.vga_card.proofs.PlaceLemmas.{StartStays}
use Rattle.vga_card.proofs.RowLemmas.{collect_same, shown_dot, hidden_dot, shown_places}

-- ---- dots in a buffer

-- to drop m dots is to drop their lines, and three bytes for each
dropped_dots : (m : ℕ) (vs bs : List ℕ) → drop m (dots_of_bytes vs bs) ≡ dots_of_bytes (drop m vs) (drop (3 * m) bs)
unfolding dots_of_bytes
dropped_dots zero vs bs = refl
dropped_dots (suc m) [] bs = refl
dropped_dots (suc m) (v ∷ vs) bs =
    let z : 3 + 3 * m ≡ 3 * suc m = omega arith in
    dropped_dots m vs (drop 3 bs) ∙ ap (dots_of_bytes (drop m vs)) (drop-drop (3 * m) 3 bs ∙ ap (λ (n : ℕ). drop n bs) z)

-- dots on another line have the same bytes
dots_on_line : (v : ℕ) (us bs : List ℕ) → map (dot_moved_to_line v) (dots_of_bytes us bs) ≡ dots_of_bytes (replicate (length us) v) bs
unfolding dots_of_bytes
dots_on_line v [] bs = refl
dots_on_line v (u ∷ us) bs = ap (λ (x : List Dot). record { line = v; colour = take 3 bs } ∷ x) (dots_on_line v us (drop 3 bs))

-- the last bytes are those of the last dots
pub last_dots : (vs bs : List ℕ) (v n used : ℕ) → used ≡ 3 * length vs → n ≤ length vs →
    dots_of_bytes (replicate n v) (drop (used - 3 * n) bs) ≡ last_dots_moved_to_line v n (dots_of_bytes vs bs)
last_dots vs bs v n used e l =
    let m = length vs - n in
    let count : length (drop m vs) ≡ n = omega (arith, length-drop m vs, l) in
    let bytes : used - 3 * n ≡ 3 * m = omega (arith, e, l) in
    ap (λ (k : ℕ). dots_of_bytes (replicate n v) (drop k bs)) bytes
    ∙ ap (λ (k : ℕ). dots_of_bytes (replicate k v) (drop (3 * m) bs)) (sym count)
    ∙ sym (dots_on_line v (drop m vs) (drop (3 * m) bs))
    ∙ ap (map (dot_moved_to_line v)) (sym (dropped_dots m vs bs) ∙ ap (λ (k : ℕ). drop (k - n) (dots_of_bytes vs bs)) (sym (length-dots_from vs bs)))

-- ---- a line that shows what another showed

-- what `vga_dots` promises of lines in graphics
abbrev pub LinesRepeat : Type 0
LinesRepeat = (h : HostState) (c : CrtcState) (b : Beam) (a : AttrState) (d : DacState) (x k : ℕ) → is_graphics h ≡ true → BeginAtSameFetch b c.beam →
    dot_colour h (with_beam_at_dot_of_character (record c { beam = b }) x k) a d ≡ dot_colour h (with_beam_at_dot_of_character c x k) a d

map_collect : (g : Dot → Dot) (f : ℕ → List Dot) (n : ℕ) → map g (concatenated_dots f n) ≡ concatenated_dots (λ i. map g (f i)) n
map_collect g f zero = refl
map_collect g f (suc n) = map-append g (concatenated_dots f n) (f n) ∙ ap (λ (x : List Dot). x ++ map g (f n)) (map_collect g f n)

length_singles : (f : ℕ → List Dot) (n : ℕ) → ((i : ℕ) → i < n → length (f i) ≡ 1) → length (concatenated_dots f n) ≡ n
length_singles f zero h = refl
length_singles f (suc n) h =
    omega (arith, length-append (concatenated_dots f n) (f n), length_singles f n (λ i l. h i (omega arith)), h n (omega arith))

module _ (repeat : LinesRepeat) (d : DisplayState) (b : Beam) (again : ShowsLineAgain d b) (shown : d.crtc.beam.line ≤ vertical_display_end d.crtc.registers) where
  abbrev w : ℕ
  w = host_width d.host

  -- the same dot of the line before
  same_dot : (x k : ℕ) → display_dot d.host (with_beam_at_dot_of_character d.crtc x k) d.attr d.dac
      ≡ map (dot_moved_to_line d.crtc.beam.line) (display_dot d.host (with_beam_at_dot_of_character (with_beam d b).crtc x k) d.attr d.dac)
  same_dot x k =
      let v = d.crtc.beam.line in
      let before : b.line ≤ vertical_display_end d.crtc.registers = omega (arith, again.later, shown) in
      ⊎_elim
      (λ (past : horizontal_display_end d.crtc.registers < x). hidden_dot d x k past ∙ sym (ap (map (dot_moved_to_line v)) (hidden_dot (with_beam d b) x k past)))
      (λ (inside : x ≤ horizontal_display_end d.crtc.registers). shown_dot d x k inside shown
      ∙ ap (λ (c : List ℕ). record { line = v; colour = c } ∷ []) (sym (repeat d.host d.crtc b d.attr d.dac x k again.graphics again.fetch))
      ∙ sym (ap (map (dot_moved_to_line v)) (shown_dot (with_beam d b) x k inside before)))
      (cases_lt (horizontal_display_end d.crtc.registers) x)

  same_line : map (dot_moved_to_line d.crtc.beam.line) (displayed_line_dots (with_beam d b)) ≡ displayed_line_dots d
  unfolding displayed_line_dots
  same_line =
      let v = d.crtc.beam.line in
      let m = characters d.crtc.registers * w in
      map_collect (dot_moved_to_line v) (λ i. display_dot d.host (with_beam_at_dot_of_character (with_beam d b).crtc (i / w) (i % w)) d.attr d.dac) m
      ∙ collect_same _ _ m (λ i l. sym (same_dot (i / w) (i % w)))

  line_length : length (displayed_line_dots (with_beam d b)) ≡ shown_characters d.crtc.registers * w
  line_length =
      let n = shown_characters d.crtc.registers in
      let before : b.line ≤ vertical_display_end d.crtc.registers = omega (arith, again.later, shown) in
      ap length (shown_places (with_beam d b) w refl (wide _))
      ∙ length_singles _ (n * w) (λ i l.
      let x = div_below i w n (wide _) l in
      ap length (shown_dot (with_beam d b) (i / w) (i % w) (omega (arith, x)) before))

  -- a copy of the line before, which was drawn last
  pub line_again : (dots : List Dot) (n : ℕ) → EndsWithLine d dots b → n ≡ shown_characters d.crtc.registers * w →
      (n ≤ length dots) × (last_dots_moved_to_line d.crtc.beam.line n dots ≡ displayed_line_dots d)
  line_again dots n ends count =
      let line = displayed_line_dots (with_beam d b) in
      let long = ap length ends.whole ∙ length-append ends.prefix line in
      let before : length dots - n ≡ length ends.prefix = omega (arith, long, line_length, count) in (
        omega (arith, long, line_length, count),
        ap (map (dot_moved_to_line d.crtc.beam.line)) (ap (λ (k : ℕ). drop k dots) before ∙ ap (drop (length ends.prefix)) ends.whole
            ∙ drop-append_seam ends.prefix line)
            ∙ same_line,
      )

-- ---- a whole line is drawn last

first_line : (b : Beam) → is_first_dot_of_frame b ≡ true → b.line ≡ 0
first_line b first = grind (arith, nat_tests)

fresh_ends : (d : DisplayState) (drawn : List Dot) (b : Beam) (first : Bool) → (first ≡ true → ⊥) → EndsWithLine d drawn b →
    EndsWithLine d (if first then [] else drawn) b
fresh_ends d drawn b true away ends = absurd (away refl)
fresh_ends d drawn b false away ends = ends

-- past a frame's first line the dots are still there
pub still_ends : StartStays → (d : DisplayState) (c : CrtcState) (drawn : List Dot) (b : Beam) → b.line < (crtc_with_start_taken c).beam.line → EndsWithLine d drawn b →
    EndsWithLine d (dots_unless_frame_start c.beam drawn) b
unfolding crtc_with_start_taken
still_ends stays d c drawn b later =
    let place = stays c.registers c.beam in
    fresh_ends d drawn b (is_first_dot_of_frame c.beam) (λ first. omega (arith, later, place.line, first_line c.beam first))

beam_back : (cw : ℕ) (old new : CrtcState) → IsLineTaken cw old new → record (crtc_with_start_taken new) { beam = old.beam } ≡ old
unfolding crtc_with_start_taken after_dots
beam_back cw old new line = ap (λ (x : CrtcState). record (crtc_with_start_taken x) { beam = old.beam }) line.by_dots

-- after a whole line its dots are the last
pub line_drawn : (cw : ℕ) (h : HostState) (a : AttrState) (dac : DacState) (old new : CrtcState) (prefix drawn : List Dot) (b : Beam) → IsLineTaken cw old new →
    b ≡ old.beam → drawn ≡ prefix ++ displayed_line_dots (record { host = h; crtc = old; attr = a; dac = dac })
    → EndsWithLine (record { host = h; crtc = crtc_with_start_taken new; attr = a; dac = dac }) drawn b
line_drawn cw h a dac old new prefix drawn b line e draws = record {
  prefix = prefix;
  whole = draws ∙ ap (λ (x : CrtcState). prefix ++ displayed_line_dots (record { host = h; crtc = x; attr = a; dac = dac }))
      (sym (ap (λ (y : Beam). record (crtc_with_start_taken new) { beam = y }) e ∙ beam_back cw old new line));
}
