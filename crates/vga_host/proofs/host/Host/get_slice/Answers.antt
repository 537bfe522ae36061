use Rattle.std.proofs.Common.{arith, ◌≡◌, ◌∙◌, ◌+◌, ◌-◌, suc, refl, sym, ap, length}
use Rattle.vga_host.specs.Memory.Runs.{after_get_if_decoded, after_gets}
use Rattle.vga_host.proofs.RunLemmas.{last_get}
use Rattle.vga_host.proofs.host.Host.get_slice.Goals as goal

pub returns-clause-latches : goal.returns-clause-latches
returns-clause-latches c =
    let h = c.args.self.now in
    let misc = c.args.misc in
    let first = c.args.first in
    let n = length c.args.bytes.now in
    let within = c.are_writes_decoded.ensures.within c.if-not-are_writes_decoded.false in
    let all : suc (n - 1) ≡ n = omega (arith, c.if-n-eq0.false) in
    let last : n - 1 ≡ 0 + (n - 1) = omega arith in
    c.load_latches_if_decoded.ensures ∙ ap (λ k. after_get_if_decoded h misc (first + k)) last
    ∙ sym (last_get misc first (n - 1) 0 h h refl (λ k low high. within.written k (omega (arith, high, all))))
    ∙ ap (λ k. after_gets misc first k 0 h) all
