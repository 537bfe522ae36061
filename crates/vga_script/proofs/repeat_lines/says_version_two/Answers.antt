use Rattle.std.proofs.Common.{rules, ◌≡◌, length, get_or, arith}
use Rattle.vga_script.specs.Tokens.{words}
use Rattle.vga_script.proofs.RepeatLineLemmas.{one_byte, version_two}
use Rattle.vga_script.proofs.repeat_lines.says_version_two.Goals as goal

-- the second word is the digit
pub returns-in-Some-default-eq50 : goal.returns-in-Some-default-eq50
returns-in-Some-default-eq50 c =
    let word = c.in-Some-default-eq50.field-0-1.now in
    let one : length word ≡ 1 = omega arith in
    let digit : get_or word 0 0 ≡ 50 = search rules in
    version_two (words c.args.line.now) c.in-Some-default-eq50.name.now word c.is_name.result c.in-Some-default-eq50.ensures.found (one_byte word 50 one digit)
    c.is_name.ensures
