use Rattle.std.proofs.Common.{◌≡◌, ℕ, ◌*◌, ◌++◌, refl, sym, ap, subst, ◌∙◌, true, List}
use Rattle.std.proofs.lemmas.List.{append-nil}
use Rattle.vga_host.specs.Sequencer.{character_width as host_width}
use Rattle.vga_crtc.specs.declared.beam.Beam.{Beam}
use Rattle.vga_crtc.specs.Crtc.{CrtcState}
use Rattle.vga_crtc.specs.Status.{is_display}
use Rattle.vga_dots.specs.Line.{shown_characters}
use Rattle.vga_card.specs.Picture.{Dot}
use Rattle.vga_card.specs.Repeat.{last_dots_moved_to_line}
use Rattle.vga_card.proofs.FrameLemmas.{wide}
use Rattle.vga_card.proofs.RowLemmas.{hidden_line, is_hidden, is_shown}
use Rattle.vga_card.proofs.RepeatLemmas.{line_again}
use Rattle.vga_card.proofs.card.repeats.copy_row.Goals as goal

abbrev is_on : CrtcState → Type 0
is_on k = is_display k.registers k.beam ≡ true

pub repeat-requires-clause-all : goal.repeat-requires-clause-all
repeat-requires-clause-all c =
    let d = c.args.display.now in
    let k = d.crtc in
    let shown = is_shown k.registers k.beam (subst is_on c.crtc-crtc.ensures (sym c.is_display.ensures.value ∙ c.if-is_display.true)) in
    let width = c.character_width-width.result in
    let count : c.shown_characters-count.result * width ≡ shown_characters k.registers * host_width d.host =
    ap (λ (m : ℕ). m * width) (c.shown_characters-count.ensures.value ∙ ap shown_characters (c.fields.ensures ∙ ap (λ (x : CrtcState). x.registers)
    c.crtc-crtc.ensures)) ∙ ap (λ (m : ℕ). shown_characters k.registers * m) (c.character_width-width.ensures.value ∙ ap host_width c.host.ensures) in
    (line_again c.graphics_lines_depend_on_counter.ensures d c.args.before c.requires.again shown c.args.canvas.now.dots _ c.requires.ends count).0

pub returns-then-is_display-clause-dots : goal.returns-then-is_display-clause-dots
returns-then-is_display-clause-dots c =
    let d = c.args.display.now in
    let k = d.crtc in
    let old = c.args.canvas.now.dots in
    let shown = is_shown k.registers k.beam (subst is_on c.crtc-crtc.ensures (sym c.is_display.ensures.value ∙ c.if-is_display.true)) in
    let width = c.character_width-width.result in
    let n = c.shown_characters-count.result * width in
    let count : n ≡ shown_characters k.registers * host_width d.host =
    ap (λ (m : ℕ). m * width) (c.shown_characters-count.ensures.value ∙ ap shown_characters (c.fields.ensures ∙ ap (λ (x : CrtcState). x.registers)
    c.crtc-crtc.ensures)) ∙ ap (λ (m : ℕ). shown_characters k.registers * m) (c.character_width-width.ensures.value ∙ ap host_width c.host.ensures) in
    c.repeat.ensures.dots ∙ ap (λ (b : Beam). old ++ last_dots_moved_to_line b.line n old) c.beam.ensures.value
    ∙ ap (λ (x : List Dot). old ++ x)
    (line_again c.graphics_lines_depend_on_counter.ensures d c.args.before c.requires.again shown old n c.requires.ends count).1

pub returns-else-is_display-clause-dots : goal.returns-else-is_display-clause-dots
returns-else-is_display-clause-dots c =
    let d = c.args.display.now in
    let old = c.args.canvas.now.dots in
    let past = is_hidden d.crtc.registers d.crtc.beam c.requires.start.character (ap (λ (k : CrtcState). is_display k.registers k.beam)
    (sym c.crtc-crtc.ensures) ∙ sym c.is_display.ensures.value ∙ c.if-is_display.false) in
    sym (ap (λ (x : List Dot). old ++ x) (hidden_line d (host_width d.host) refl (wide _) past) ∙ append-nil old)
