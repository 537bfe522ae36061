use Rattle.std.proofs.Common.{rules, ◌<◌, length}
use Rattle.vga_script.specs.Spelled.{spelled_item}
use Rattle.vga_script.proofs.BeginningLemmas.{item_shorter}
use Rattle.vga_script.proofs.WalkLemmas.{items_go_on, items_end, never_faulty}
use Rattle.vga_script.proofs.printing.print_items.Goals as goal

-- one more item is printed
pub loop-rest-preserved : goal.loop-rest-preserved
loop-rest-preserved c =
    let rest = c.loop-rest.rest.now in
    let others = c.in-Ok.others.now in
    let item = spelled_item c.in-Ok.item in
    items_go_on c.args.out.now.items c.loop-rest.out.items c.print_item.new.out.items c.args.version c.args.bytes.now rest others item c.loop-rest.invariant
    c.in-Ok.ensures.found
    (item_shorter c.args.version rest others item c.in-Ok.ensures.found) c.in_ok-print_item-in-Ok.ensures.ok

-- the bytes spell items
pub returns-in-Err-clause-ok : goal.returns-in-Err-clause-ok
returns-in-Err-clause-ok c =
    let rest = c.loop-rest.rest.now in
    let some : 0 < length rest = search rules in
    absurd (never_faulty c.args.out.now.items c.loop-rest.out.items c.args.version c.args.bytes.now rest c.in-Err.field-0 c.loop-rest.invariant some
    c.in-Err.ensures.fault)

-- nothing is left
pub returns-clause-ok : goal.returns-clause-ok
returns-clause-ok c = items_end c.args.out.now.items c.loop-rest.out.items c.args.version c.args.bytes.now c.loop-rest.rest.now c.loop-rest.invariant
    (search rules)
