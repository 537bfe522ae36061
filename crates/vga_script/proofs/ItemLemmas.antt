-- Items, and the steps that they mean.
use Rattle.std.proofs.Common.{◌≡◌, ℕ, zero, suc, ◌+◌, ◌*◌, ◌-◌, ◌<◌, List, [], ◌∷◌, ◌++◌, length, refl, sym, ap, ◌∙◌, arith, length-append, suc-mul}
use Rattle.std.proofs.Common.{append_assoc}
use Rattle.vga_script.specs.declared.step.Step.{Step}
use Rattle.vga_script.specs.Item.{Item, Once, Repeated, ScriptItems, script_of_items, repeated, steps_of_item, expanded, IsItemOf, AreItemsOf}
use Rattle.vga_script.specs.declared.version.Version.{Version}
use Rattle.vga_script.specs.declared.version.Version.TheVariants.{One, Two}
use Rattle.vga_script.specs.Step.{AreInRange}
use Rattle.vga_script.specs.Version.{version_byte}

-- ---- how many steps items mean

-- n rounds of some steps are n times as many steps
pub length-repeated : (times : ℕ) (steps : List Step) → length (repeated times steps) ≡ times * length steps
unfolding repeated
length-repeated zero steps = omega arith
length-repeated (suc times) steps =
    let whole = length-append steps (repeated times steps) in
    let others = length-repeated times steps in rw suc-mul (omega arith)

-- a repeat means as many steps as it has, times its count
pub steps_of_repeat : (count len : ℕ) (steps : List Step) → len ≡ length steps → count * len ≡ length (repeated count steps)
steps_of_repeat count len steps e = ap (λ (n : ℕ). count * n) e ∙ sym (length-repeated count steps)

-- no rounds, and rounds of no steps, are no steps
pub repeated_none : (times : ℕ) → repeated times [] ≡ []
unfolding repeated
repeated_none zero = refl
repeated_none (suc times) = repeated_none times

pub repeated_zero : (steps : List Step) → repeated 0 steps ≡ []
unfolding repeated
repeated_zero steps = refl

-- one more round
pub repeated_less : (times : ℕ) (steps : List Step) → 0 < times → repeated times steps ≡ steps ++ repeated (times - 1) steps
unfolding repeated
repeated_less zero steps some = absurd (omega arith)
repeated_less (suc times) steps some = let e : suc times - 1 ≡ times = omega arith in ap (λ (n : ℕ). steps ++ repeated n steps) (sym e)

-- items one after another
pub expanded-append : (a b : List Item) → expanded (a ++ b) ≡ expanded a ++ expanded b
expanded-append [] b = refl
expanded-append (i ∷ a) b = ap (λ (l : List Step). steps_of_item i ++ l) (expanded-append a b) ∙ sym (append_assoc (steps_of_item i) (expanded a) (expanded b))

-- an item, and others after it
pub length-expanded-append : (a b : List Item) → length (expanded (a ++ b)) ≡ length (expanded a) + length (expanded b)
length-expanded-append a b = ap length (expanded-append a b) ∙ length-append (expanded a) (expanded b)

pub length-expanded-cons : (i : Item) (b : List Item) → length (expanded (i ∷ b)) ≡ length (steps_of_item i) + length (expanded b)
length-expanded-cons i b = length-append (steps_of_item i) (expanded b)

-- the last item
pub length-expanded-push : (a : List Item) (i : Item) → length (expanded (a ++ i ∷ [])) ≡ length (expanded a) + length (steps_of_item i)
length-expanded-push a i =
    let whole = length-expanded-append a (i ∷ []) in
    let last = length-append (steps_of_item i) [] in omega arith

-- ---- ranges

-- two lists of steps one after another
pub range-append : (a b : List Step) → AreInRange a → AreInRange b → AreInRange (a ++ b)
range-append [] b p q = q
range-append (s ∷ a) b (p, ps) q = (p, range-append a b ps q)

range_repeated : (times : ℕ) (steps : List Step) → AreInRange steps → AreInRange (repeated times steps)
unfolding repeated
range_repeated zero steps all = tt
range_repeated (suc times) steps all = range-append steps (repeated times steps) all (range_repeated times steps all)

-- what an item means is in range
range_of : (version : Version) (i : Item) → IsItemOf version i → AreInRange (steps_of_item i)
range_of version (Once step) fits = (fits, tt)
range_of version (Repeated count steps) (allowed, some, small, range) = range_repeated count steps range

pub expanded_in_range : (version : Version) (items : List Item) → AreItemsOf version items → AreInRange (expanded items)
expanded_in_range version [] all = tt
expanded_in_range version (i ∷ items) (fits, others) = range-append (steps_of_item i) (expanded items) (range_of version i fits)
    (expanded_in_range version items others)

-- ---- versions

-- an item of a script of any version is one of version 2
widened : (version : Version) (i : Item) → IsItemOf version i → IsItemOf Two i
widened version (Once step) fits = fits
widened One (Repeated count steps) (allowed, some, small, range) = absurd allowed
widened Two (Repeated count steps) fits = fits

pub all_widened : (version : Version) (items : List Item) → AreItemsOf version items → AreItemsOf Two items
all_widened version [] all = tt
all_widened version (i ∷ items) (fits, others) = (widened version i fits, all_widened version items others)

-- a byte is that of one version
pub one_version : (first second : Version) → version_byte first ≡ version_byte second → first ≡ second
one_version One One e = refl
one_version One Two e = absurd (omega arith)
one_version Two One e = absurd (omega arith)
one_version Two Two e = refl

-- a listing is its version and its items
pub one_listing : (first second : ScriptItems) → first.version ≡ second.version → first.items ≡ second.items → first ≡ second
one_listing first second p q = ap (λ (v : Version). script_of_items v first.items) p ∙ ap (λ (i : List Item). script_of_items second.version i) q
