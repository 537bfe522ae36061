use Rattle.std.proofs.Common.{ℕ, ◌∙◌, ◌≤◌, ap, subst, arith}
use Rattle.bios_services.specs.declared.colouring.Colouring.{Colouring}
use Rattle.bios_services.specs.Plan.{run}
use Rattle.bios_services.specs.Cursor.{row_of_position}
use Rattle.bios_services.specs.Page.{PageWithFontsAndData, page_of}
use Rattle.bios_services.specs.Teletype.{type_character_plan}
use Rattle.bios_services.specs.Strings.{character_at, colouring_of_character}
use Rattle.bios_services.proofs.PlanRuns.{next_answer}
use Rattle.bios_services.proofs.strings.StringCall.type_all.Goals as goal

pub loop-i-preserved : goal.loop-i-preserved
loop-i-preserved g c =
    let m = g.B.Bus.meaning in
    let s = c.args.self in
    let block = c.args.block.now in
    let i = c.loop-i.i in
    let typed = λ (p : PageWithFontsAndData) (character : ℕ) (colouring : Colouring). run m (type_character_plan p.fonts p.bda p.number c.loop-i.position character colouring)
    c.loop-i.bus in
    let page : PageWithFontsAndData = page_of c.args.fonts.now c.args.bda.now s.page in
    let now = c.type_character-position.ensures.position
    ∙ ap (λ (p : PageWithFontsAndData). typed p c.character-character.result c.colouring-colouring.result) c.new-page.ensures
    ∙ ap (λ character. typed page character c.colouring-colouring.result) c.character-character.ensures
    ∙ ap (typed page (character_at s block i)) c.colouring-colouring.ensures in
    record {
      row = subst (λ (p : PageWithFontsAndData). row_of_position c.type_character-position.result ≤ p.bda.last_row) c.new-page.ensures c.type_character-position.ensures.row;
      left = next_answer m (λ i position. type_character_plan c.args.fonts.now c.args.bda.now s.page position (character_at s block i) (colouring_of_character s block i)) i s.count
          c.loop-i.bus c.type_character-position.new.bus c.loop-i.position c.type_character-position.result _ (omega arith) now c.loop-i.invariant.left;
    }
