use Rattle.std.proofs.Common.{List, ℕ, Option, Bor, option_copied, subst, inr}
use Rattle.std.proofs.lemmas.Result.{err_from_is_err_and}
use Rattle.vga_script.proofs.AssembleLemmas.{HasAssembled, header_written, text_begins, text_more, text_all, text_many, text_faulty}
use Rattle.vga_script.proofs.assembling.assemble_items.Goals as goal

-- the header is written
pub loop-left-init : goal.loop-left-init
loop-left-init c =
    let v = c.version_and_first_line_of_items-version.result in
    let e = c.version_and_first_line_of_items-version.ensures in
    text_begins c.args.text.now _ v.0 v.2 (option_copied v.1) e.from e.one e.short
    (header_written v.0 _ _ _ _ c.new-out.ensures.items c.in_ok-append.ensures.ok c.in_ok-append-2.ensures.ok c.byte.ensures)

-- the next group has a fault
pub returns-in_err-step_count_meant-clause-fault : goal.returns-in_err-step_count_meant-clause-fault
returns-in_err-step_count_meant-clause-fault c =
    let version = c.version_and_first_line_of_items-version.result.0 in
    let h = subst (λ (l : Option (Bor (List ℕ))). HasAssembled c.args.text.now version c.loop-left.so_far c.loop-left.number (option_copied l)
    c.loop-left.out.items) c.in-Some.is c.loop-left.invariant in
    let p = err_from_is_err_and c.from_residual-in_err-step_count_meant.result c.from_residual-in_err-step_count_meant.ensures.1 in
    rw (p.1, p.2) (text_faulty c.args.text.now c.in-Some.rest.now c.loop-left.out.items version c.loop-left.so_far c.loop-left.number _ h
    c.in_err-step_count_meant.ensures.fault)

-- or with it there are too many steps
pub returns-then-step_count_meant-so_far-clause-fault : goal.returns-then-step_count_meant-so_far-clause-fault
returns-then-step_count_meant-so_far-clause-fault c =
    let version = c.version_and_first_line_of_items-version.result.0 in
    let h = subst (λ (l : Option (Bor (List ℕ))). HasAssembled c.args.text.now version c.loop-left.so_far c.loop-left.number (option_copied l)
    c.loop-left.out.items) c.in-Some.is c.loop-left.invariant in
    inr (text_many c.args.text.now c.in-Some.rest.now c.loop-left.out.items _ version c.loop-left.so_far c.in_ok-step_count_meant.step_count_meant c.loop-left.number
    c.in_ok-step_count_meant.next (option_copied c.in_ok-step_count_meant.behind) h c.in_ok-step_count_meant.ensures.found c.if-step_count_meant-so_far.true)

-- one more group is read
pub loop-left-preserved : goal.loop-left-preserved
loop-left-preserved c =
    let version = c.version_and_first_line_of_items-version.result.0 in
    let h = subst (λ (l : Option (Bor (List ℕ))). HasAssembled c.args.text.now version c.loop-left.so_far c.loop-left.number (option_copied l)
    c.loop-left.out.items) c.in-Some.is c.loop-left.invariant in
    text_more c.args.text.now c.in-Some.rest.now c.loop-left.out.items _ version c.loop-left.so_far c.in_ok-step_count_meant.step_count_meant c.loop-left.number c.in_ok-step_count_meant.next
    (option_copied c.in_ok-step_count_meant.behind) h c.in_ok-step_count_meant.ensures.found c.if-step_count_meant-so_far.false
    c.in_ok-step_count_meant.ensures.shorter

-- nothing is left
pub returns-clause-found : goal.returns-clause-found
returns-clause-found c =
    let version = c.version_and_first_line_of_items-version.result.0 in
    text_all c.args.text.now c.loop-left.out.items version c.loop-left.so_far c.loop-left.number
    (subst (λ (l : Option (Bor (List ℕ))). HasAssembled c.args.text.now version c.loop-left.so_far c.loop-left.number (option_copied l) c.loop-left.out.items)
    c.in_default.is c.loop-left.invariant)
