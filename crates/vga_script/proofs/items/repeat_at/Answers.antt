use Rattle.std.proofs.Common.{rules, ◌≡◌, ◌-◌, ◌<◌, ◌^◌, [], ◌∷◌, length, subst, refl, ap, arith}
use Rattle.vga_script.specs.declared.items.AfterRepeatBody.{AfterRepeatBody}
use Rattle.vga_script.specs.Body.{StandsAfterRepeatBody}
use Rattle.vga_script.specs.Spelling.{opcode_end}
use Rattle.vga_script.proofs.BodyLemmas.{repeat_found, repeat_counted, repeat_open, repeat_cut}
use Rattle.vga_script.proofs.items.repeat_at.Goals as goal

-- the end stands after the steps
pub returns-in-PieceEnd-clause-found : goal.returns-in-PieceEnd-clause-found
returns-in-PieceEnd-clause-found c =
    let rest = c.behind_steps-len.result.1.now in
    let ends : rest ≡ opcode_end ∷ c.in-PieceEnd.others.now = subst (λ (b : AfterRepeatBody). StandsAfterRepeatBody b rest) c.in-PieceEnd.is c.behind_steps-len.ensures.stop in
    let some : 0 < c.in-Ok.count = omega arith in
    let small : c.in-Ok.count < 2 ^ 16 = search rules in
    repeat_found c.args.version c.args.bytes.now c.args.fields.now c.in-Ok.body.now rest c.in-PieceEnd.others.now c.split_at.result.0.now c.in-Ok.count
    c.behind_steps-len.result.0 c.requires.allowed c.requires.fields c.in-Ok.ensures.found some small c.behind_steps-len.ensures.good ends
    c.split_at.ensures.front

pub returns-in-PieceEnd-clause-body : goal.returns-in-PieceEnd-clause-body
returns-in-PieceEnd-clause-body c =
    let counted = repeat_counted c.in-Ok.body.now c.behind_steps-len.result.1.now c.split_at.result.0.now c.behind_steps-len.result.0
    c.behind_steps-len.ensures.good c.split_at.ensures.front in
    let short = counted.2 in
    let whole = ap length c.requires.fields in
    let fields = ap length c.in-Ok.ensures.found in
    let room = c.requires.place in
    (counted.0, counted.1, omega arith)

-- nothing does
pub returns-in-Nothing-clause-fault : goal.returns-in-Nothing-clause-fault
returns-in-Nothing-clause-fault c so_far =
    let rest = c.behind_steps-len.result.1.now in
    let none : rest ≡ [] = subst (λ (b : AfterRepeatBody). StandsAfterRepeatBody b rest) c.in-Nothing.is c.behind_steps-len.ensures.stop in
    let some : 0 < c.in-Ok.count = omega arith in
    let small : c.in-Ok.count < 2 ^ 16 = search rules in
    let place = length c.args.bytes.now - length rest in
    repeat_cut c.args.version so_far c.args.offset place c.args.bytes.now rest
    (repeat_open c.args.version c.args.bytes.now c.args.fields.now c.in-Ok.body.now rest c.in-Ok.count c.behind_steps-len.result.0 place c.requires.allowed
    c.requires.fields c.in-Ok.ensures.found some small c.behind_steps-len.ensures.good refl)
    none
