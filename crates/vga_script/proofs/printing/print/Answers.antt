use Rattle.std.proofs.Common.{ℕ, ◌≤◌, List, length, sym, subst, subst₂}
use Rattle.vga_script.specs.declared.version.Version.{Version}
use Rattle.vga_script.specs.Beginning.{items_in}
use Rattle.vga_script.specs.Item.{Item, expanded, step_limit}
use Rattle.vga_script.specs.Spelling.{SpellsItems}
use Rattle.vga_script.proofs.StepsLemmas.{items_spelled, steps_few}
use Rattle.vga_script.proofs.WalkLemmas.{script_printed}
use Rattle.vga_script.proofs.printing.print.Goals as goal

-- the items stand after the header
pub print_items-requires-clause-spelled : goal.print_items-requires-clause-spelled
print_items-requires-clause-spelled c =
    let e = c.as_bytes.ensures in
    subst₂ (λ (v : Version) (l : List ℕ). SpellsItems v l (items_in l)) (sym c.version-version.ensures) (sym c.split_at.ensures.back)
    (items_spelled c.as_bytes.result.now c.args.script.now e.spelled).1

pub print_items-requires-clause-few : goal.print_items-requires-clause-few
print_items-requires-clause-few c =
    let bytes = c.as_bytes.result.now in
    let script = c.args.script.now in
    let h = c.as_bytes.ensures.spelled in
    subst (λ (l : List ℕ). length (expanded (items_in l)) ≤ step_limit) (sym c.split_at.ensures.back)
    (subst (λ (l : List Item). length (expanded l) ≤ step_limit) (sym (items_spelled bytes script h).0) (steps_few bytes script h))

-- the line of the version, and the items
pub returns-clause-ok : goal.returns-clause-ok
returns-clause-ok c =
    script_printed c.as_bytes.result.now _ _ _ _ c.split_at.result.1.now c.version-version.result c.args.script.now c.as_bytes.ensures.spelled
    c.version-version.ensures c.new-out.ensures.items c.in_ok-append.ensures.ok c.version_text.ensures
    c.split_at.ensures.back c.in_ok-print_items.ensures.ok
