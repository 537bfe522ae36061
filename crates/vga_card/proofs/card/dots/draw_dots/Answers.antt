use Rattle.std.proofs.Common.{◌≡◌, ℕ, ◌+◌, ◌-◌, ◌*◌, ◌++◌, ◌<◌, ◌≤◌, refl, sym, ap, subst, ◌∙◌, arith, Bool, true, List}
use Rattle.std.specs.Prelude.{min}
use Rattle.std.proofs.lemmas.List.{append-nil}
use Rattle.vga_host.specs.Sequencer.{character_width as host_width}
use Rattle.vga_crtc.specs.Beam.{characters}
use Rattle.vga_crtc.specs.Crtc.{CrtcState}
use Rattle.vga_crtc.specs.Raster.{dot_number_in_line, IsWithinItsLine}
use Rattle.vga_crtc.specs.Status.{is_display}
use Rattle.vga_dots.specs.Display.{DisplayState}
use Rattle.vga_dots.specs.Line.{shown_characters}
use Rattle.vga_card.specs.Picture.{Dot}
use Rattle.vga_card.specs.Line.{display_dots_among_next_dots}
use Rattle.vga_card.proofs.FrameLemmas.{wide}
use Rattle.vga_card.proofs.PartLemmas.{part_cut, hidden_part, is_shown_at, is_hidden_by, count_fits, room_for_part, drawn_part}
use Rattle.vga_card.proofs.card.dots.draw_dots.Goals as goal

abbrev is_shown : CrtcState → Type 0
is_shown k = is_display k.registers k.beam ≡ true

-- `count` of the next n dots are shown
abbrev IsShownCount : DisplayState → ℕ → ℕ → Type 0
IsShownCount d n count = count ≡ min n (shown_characters d.crtc.registers * host_width d.host - dot_number_in_line (host_width d.host) d.crtc.beam)

-- the dots that are shown have room in the line
shown_fits : (d : DisplayState) (seen : CrtcState) (shown : Bool) (n count : ℕ) → seen ≡ d.crtc → shown ≡ is_display seen.registers seen.beam
    → shown ≡ true → seen.beam.character < 256 → IsShownCount d n count → IsWithinItsLine (host_width d.host) d.crtc.registers d.crtc.beam
    → shown_characters d.crtc.registers ≤ 256 → 9 * d.crtc.beam.character + d.crtc.beam.dot + count ≤ 2304
shown_fits d seen shown n count same e on near many inside few =
    let here = is_shown_at d.crtc.registers d.crtc.beam (subst is_shown same (sym e ∙ on)) in
    count_fits d.host d.crtc n count many inside here (subst (λ (k : CrtcState). k.beam.character < 256) same near) few

-- the shown ones are all that the next n dots draw
shown_are_all : (d : DisplayState) (n count : ℕ) → IsShownCount d n count
    → dot_number_in_line (host_width d.host) d.crtc.beam + n ≤ characters d.crtc.registers * host_width d.host → display_dots_among_next_dots count d ≡ display_dots_among_next_dots n d
shown_are_all d n count many within = sym (part_cut d (host_width d.host) refl (wide _) count n many within)

pub add_next_dots_of_line-requires-clause-room : goal.add_next_dots_of_line-requires-clause-room
add_next_dots_of_line-requires-clause-room c =
    let fits = shown_fits c.args.display.now _ _ c.args.n c.displayed_dot_count-count.result c.crtc-crtc.ensures c.is_display.ensures.value c.if-is_display.true
    (c.if-is_display.ensures.character refl) c.displayed_dot_count-count.ensures.value c.requires.inside c.displayed_dot_count-count.ensures.few in
    room_for_part c.args.display.now.crtc.beam c.args.canvas.now.line c.args.canvas.now.width c.displayed_dot_count-count.result c.requires.place fits

pub returns-then-is_eight_dots-clause-dots : goal.returns-then-is_eight_dots-clause-dots
returns-then-is_eight_dots-clause-dots c =
    let d = c.args.display.now in
    let whole = c.dots_move_beam_in_line.ensures.count (host_width d.host) d.crtc.registers d.crtc.beam c.requires.inside in
    c.add_next_dots_of_line.ensures.dots ∙ ap (λ (x : List Dot). c.args.canvas.now.dots ++ x)
    (shown_are_all d c.args.n c.displayed_dot_count-count.result c.displayed_dot_count-count.ensures.value (omega (arith, whole, c.requires.few)))

pub returns-then-is_eight_dots-clause-place : goal.returns-then-is_eight_dots-clause-place
returns-then-is_eight_dots-clause-place c =
    let fits = shown_fits c.args.display.now _ _ c.args.n c.displayed_dot_count-count.result c.crtc-crtc.ensures c.is_display.ensures.value c.if-is_display.true
    (c.if-is_display.ensures.character refl) c.displayed_dot_count-count.ensures.value c.requires.inside c.displayed_dot_count-count.ensures.few in
    drawn_part c.args.display.now.crtc.beam c.args.canvas.now c.add_next_dots_of_line.new.self c.args.n c.displayed_dot_count-count.result c.requires.place
    (omega (arith, c.displayed_dot_count-count.ensures.value)) fits c.add_next_dots_of_line.ensures.line c.add_next_dots_of_line.ensures.width

pub add_next_dots_of_line-requires-else-is_eight_dots-clause-room : goal.add_next_dots_of_line-requires-else-is_eight_dots-clause-room
add_next_dots_of_line-requires-else-is_eight_dots-clause-room c =
    let fits = shown_fits c.args.display.now _ _ c.args.n c.displayed_dot_count-count.result c.crtc-crtc.ensures c.is_display.ensures.value c.if-is_display.true
    (c.if-is_display.ensures.character refl) c.displayed_dot_count-count.ensures.value c.requires.inside c.displayed_dot_count-count.ensures.few in
    room_for_part c.args.display.now.crtc.beam c.args.canvas.now.line c.args.canvas.now.width c.displayed_dot_count-count.result c.requires.place fits

pub returns-else-is_eight_dots-clause-dots : goal.returns-else-is_eight_dots-clause-dots
returns-else-is_eight_dots-clause-dots c =
    let d = c.args.display.now in
    let whole = c.dots_move_beam_in_line.ensures.count (host_width d.host) d.crtc.registers d.crtc.beam c.requires.inside in
    c.add_next_dots_of_line-else-is_eight_dots.ensures.dots ∙ ap (λ (x : List Dot). c.args.canvas.now.dots ++ x)
    (shown_are_all d c.args.n c.displayed_dot_count-count.result c.displayed_dot_count-count.ensures.value (omega (arith, whole, c.requires.few)))

pub returns-else-is_eight_dots-clause-place : goal.returns-else-is_eight_dots-clause-place
returns-else-is_eight_dots-clause-place c =
    let fits = shown_fits c.args.display.now _ _ c.args.n c.displayed_dot_count-count.result c.crtc-crtc.ensures c.is_display.ensures.value c.if-is_display.true
    (c.if-is_display.ensures.character refl) c.displayed_dot_count-count.ensures.value c.requires.inside c.displayed_dot_count-count.ensures.few in
    drawn_part c.args.display.now.crtc.beam c.args.canvas.now c.add_next_dots_of_line-else-is_eight_dots.new.self c.args.n c.displayed_dot_count-count.result c.requires.place
    (omega (arith, c.displayed_dot_count-count.ensures.value)) fits c.add_next_dots_of_line-else-is_eight_dots.ensures.line c.add_next_dots_of_line-else-is_eight_dots.ensures.width

pub returns-else-is_display-clause-dots : goal.returns-else-is_display-clause-dots
returns-else-is_display-clause-dots c =
    let d = c.args.display.now in
    let old = c.args.canvas.now.dots in
    let past = is_hidden_by d.crtc.registers d.crtc.beam (ap (λ (k : CrtcState). is_display k.registers k.beam) (sym c.crtc-crtc.ensures)
    ∙ sym c.is_display.ensures.value ∙ c.if-is_display.false) in
    sym (ap (λ (x : List Dot). old ++ x) (hidden_part d (host_width d.host) refl (wide _) c.args.n past) ∙ append-nil old)
