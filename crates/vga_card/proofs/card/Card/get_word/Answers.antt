use Rattle.std.proofs.Common.{◌≡◌, ◌==◌, ◌∙◌, ap, rules, false, Ok}
use Rattle.vga_card.specs.Cycles.{ReadResult}
use Rattle.vga_card.proofs.CycleLemmas.{word_got}
use Rattle.vga_card.proofs.card.Card.get_word.Goals as goal

pub returns-then-address-eq4294967295 : goal.returns-then-address-eq4294967295
returns-then-address-eq4294967295 c = search rules

pub returns : goal.returns
returns c =
    let few : (c.args.address == 0xFFFFFFFF) ≡ false = search rules in
    let word = word_got c.args.self.now c.get.new.self c.get-2.new.self c.args.address c.in_ok-low.low c.in_ok-high.high few c.in_ok-low.ensures
    c.in_ok-high.ensures in
    ap (λ n. let p : ReadResult = (c.get-2.new.self, Ok n) in p) c.word_of.ensures ∙ word
