-- The bytes are written one after the other, each before the dots that do not see it.
use Rattle.std.proofs.Common.{◌≡◌, ◌==◌, ◌&&◌, ◌+◌, ◌%◌, ◌∙◌, sym, ap, rules, ℕ, true, false, Ok}
use Rattle.vga_host.specs.Memory.Address.{is_decoded}
use Rattle.vga_card.specs.Adapter.{CardStateWithoutBeamAndDots}
use Rattle.vga_card.specs.Cycles.{WriteResult, put_cycle}
use Rattle.vga_card.specs.Dots.{dots}
use Rattle.vga_card.proofs.HiddenLemmas.{same_adapter}
use Rattle.vga_card.proofs.WordWriteLemmas.{both_hold, word_put}
use Rattle.vga_card.proofs.card.Card.put_word_with_dots_owed.Goals as goal

pub returns-in-Ok-clause-put : goal.returns-in-Ok-clause-put
returns-in-Ok-clause-put c =
    let s = c.args.self.now in
    let start = dots c.args.n s in
    let mid = dots c.put_with_dots_owed-left.result.0 c.put_with_dots_owed-left.new.self in
    let new = dots c.put_with_dots_owed.result.0 c.put_with_dots_owed.new.self in
    let address = c.args.address in
    let few : (address == 0xFFFFFFFF) ≡ false = search rules in
    let decoded : (is_decoded s.host s.misc address && is_decoded s.host s.misc (address + 1)) ≡ true = search rules in
    let both = both_hold (is_decoded s.host s.misc address) (is_decoded s.host s.misc (address + 1)) decoded in
    let later : (place : ℕ) → is_decoded start.host start.misc place ≡ is_decoded s.host s.misc place =
    λ place. ap (λ (a : CardStateWithoutBeamAndDots). is_decoded a.host a.misc place) (same_adapter c.args.n s) in
    let low : (let w : WriteResult = (mid, Ok tt) in w) ≡ put_cycle start address (c.args.v % 256) =
    ap (λ r. let w : WriteResult = (mid, r) in w) (sym c.in-Ok.is) ∙ c.put_with_dots_owed-left.ensures.put ∙ ap (put_cycle start address) c.bytes_of-low.ensures.low in
    word_put start mid new c.put_with_dots_owed.result.2 address c.args.v few (later address ∙ both.0) (later (address + 1) ∙ both.1) low
    (c.put_with_dots_owed.ensures.put ∙ ap (put_cycle mid (address + 1)) c.bytes_of-low.ensures.high)
