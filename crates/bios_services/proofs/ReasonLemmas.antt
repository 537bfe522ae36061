-- What is known if there is no reason to refuse.
use Rattle.std.proofs.Common.{◌≡◌, ◌==◌, ℕ, refl, arith, Bool, true, false, Option, Some, None}
use Rattle.std.proofs.lemmas.Bool.Decides.{nat_tests}
use Rattle.vga_bits.specs.declared.refusal.Refusal.{Refusal}
use Rattle.vga_bits.specs.declared.refusal.Refusal.TheVariants.{BadBlock}
use Rattle.bios_services.specs.Reasons.{◌or◌, refuse_unless, wrong_block, refuse_or_wrong_block}

-- if there is none of two reasons, there is neither
pub neither : (x y : Option Refusal) → (x or y) ≡ None → (x ≡ None) × (y ≡ None)
neither None y e = (refl, e)
neither (Some why) y e = absurd (cc)

-- the test holds
pub holds : (b : Bool) (why : Refusal) → refuse_unless b why ≡ None → b ≡ true
holds true why e = refl
holds false why e = absurd (cc)

-- a block that is not wrong has the length that is read
pub block_fits : (size len : ℕ) → wrong_block size len ≡ None → len ≡ size
block_fits size len e = let same = holds (len == size) BadBlock e in grind (arith, nat_tests)

-- there is no other reason, and the block has the length that is read
pub wrong_or : (why : Option Refusal) (size : Option ℕ) (len : ℕ) → refuse_or_wrong_block why size len ≡ None →
    (why ≡ None) × ((n : ℕ) → size ≡ Some n → len ≡ n)
wrong_or why None len e = (e, λ n is. absurd (cc))
wrong_or why (Some size) len e =
    let both = neither why (wrong_block size len) e in
    let whole = block_fits size len both.1 in
    (both.0, λ n is. cc)
