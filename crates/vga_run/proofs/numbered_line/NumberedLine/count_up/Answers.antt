use Rattle.std.proofs.Common.{ℕ, ◌-◌, List, get_or, ap, arith}
use Rattle.vga_run.proofs.NumberLemmas.{digit_counted, tens_counted}
use Rattle.vga_run.proofs.numbered_line.NumberedLine.count_up.Goals as goal

-- the last digit is one more
pub invariant_of-self : goal.invariant_of-self
invariant_of-self c = digit_counted _ _ _ _ _ c.self.invariant (omega (arith, c.requires, c.self.view_is)) (cc)
    c.if-last-lt57.true c.set.ensures.items

-- or it was 9, and the digit before it is one more
pub invariant_of-self-then-as_slice-self-lt57 : goal.invariant_of-self-then-as_slice-self-lt57
invariant_of-self-then-as_slice-self-lt57 c =
    let last = ap (λ (l : List ℕ). get_or l (c.self.inside.prefix - 2) 0) c.as_slice.ensures in
    let tested = ap (λ (l : List ℕ). get_or l (c.self.inside.prefix - 3) 0) c.as_slice-then-self-gt2.ensures in
    let tens = ap (λ (l : List ℕ). get_or l (c.self.inside.prefix - 3) 0) c.as_slice-then-as_slice-self-lt57.ensures in
    tens_counted _ _ _ _ _ _ c.self.invariant (omega (arith, c.requires, c.self.view_is)) (omega (arith, c.if-self-gt2.true))
    (omega (arith, last, c.if-last-lt57.false)) tens (omega (arith, tested, tens, c.if-as_slice-self-lt57.true))
    c.set-then-as_slice-self-lt57.ensures.items c.set-then-as_slice-self-lt57-2.ensures.items
