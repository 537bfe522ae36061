use Rattle.std.proofs.Common.{◌<◌, ℕ, ◌∷◌, length, sym, ap, subst, arith}
use Rattle.vga_script.specs.Decoding.{StartsWithCutStep}
use Rattle.vga_script.proofs.DecodeLemmas.{cut_in, cut_in_word, cut_out_word, cut_put_word}
use Rattle.vga_script.proofs.step_bytes.numeric_step_of_opcode.Goals as goal

-- a word that is cut off after a port, and one after an address
pub returns-in_err-value-in-2-clause-cut : goal.returns-in_err-value-in-2-clause-cut
returns-in_err-value-in-2-clause-cut c = λ _.
    let l = ap length c.in_ok-port-in-2.ensures.found in
    let short : length c.args.fields.now < 4 = omega (arith, c.in_err-value-in-2.ensures.cut.1) in
    subst (λ (o : ℕ). StartsWithCutStep (o ∷ c.args.fields.now)) (sym c.in-2.is) (cut_out_word c.args.fields.now short)

pub returns-in_err-value-in-6-clause-cut : goal.returns-in_err-value-in-6-clause-cut
returns-in_err-value-in-6-clause-cut c = λ _.
    let l = ap length c.in_ok-address-in-6.ensures.found in
    let short : length c.args.fields.now < 6 = omega (arith, c.in_err-value-in-6.ensures.cut.1) in
    subst (λ (o : ℕ). StartsWithCutStep (o ∷ c.args.fields.now)) (sym c.in-6.is) (cut_put_word c.args.fields.now short)

-- and a first field that is cut off
pub returns-in_err-port-in-2-clause-cut : goal.returns-in_err-port-in-2-clause-cut
returns-in_err-port-in-2-clause-cut c = λ _.
    let short : length c.args.fields.now < 4 = omega (arith, c.in_err-port-in-2.ensures.cut.1) in
    subst (λ (o : ℕ). StartsWithCutStep (o ∷ c.args.fields.now)) (sym c.in-2.is) (cut_out_word c.args.fields.now short)

pub returns-in_err-port-in-3-clause-cut : goal.returns-in_err-port-in-3-clause-cut
returns-in_err-port-in-3-clause-cut c = λ _.
    let short : length c.args.fields.now < 2 = omega (arith, c.in_err-port-in-3.ensures.cut.1) in
    subst (λ (o : ℕ). StartsWithCutStep (o ∷ c.args.fields.now)) (sym c.in-3.is) (cut_in c.args.fields.now short)

pub returns-in_err-port-in-4-clause-cut : goal.returns-in_err-port-in-4-clause-cut
returns-in_err-port-in-4-clause-cut c = λ _.
    let short : length c.args.fields.now < 2 = omega (arith, c.in_err-port-in-4.ensures.cut.1) in
    subst (λ (o : ℕ). StartsWithCutStep (o ∷ c.args.fields.now)) (sym c.in-4.is) (cut_in_word c.args.fields.now short)

pub returns-in_err-address-in-6-clause-cut : goal.returns-in_err-address-in-6-clause-cut
returns-in_err-address-in-6-clause-cut c = λ _.
    let short : length c.args.fields.now < 6 = omega (arith, c.in_err-address-in-6.ensures.cut.1) in
    subst (λ (o : ℕ). StartsWithCutStep (o ∷ c.args.fields.now)) (sym c.in-6.is) (cut_put_word c.args.fields.now short)
