-- Lists given by a function of the element number.
use Rattle.std.proofs.Common.{◌≡◌, ◌≢◌, ℕ, zero, suc, ◌+◌, ◌<◌, ⊎_elim, refl, sym, ap, ◌∙◌, arith, List, ◌∷◌, length, get_or, replicate}
use Rattle.std.specs.Prelude.{slice_index, set}
use Rattle.std.proofs.lemmas.Bool.{cases_eq}
use Rattle.std.proofs.lemmas.Grind.{same_number_lists}
use Rattle.std.proofs.lemmas.List.{same_lists, length-set, get_or-set_same, get_or-set_other}
use Rattle.bios_screen.specs.Listing.{list_by_function}

pub same_listing : {Y : Type 0} (f g : ℕ → Y) (i j n : ℕ) → ((k : ℕ) → k < n → g (j + k) ≡ f (i + k)) → list_by_function g j n ≡ list_by_function f i n
same_listing f g i j zero h = refl
same_listing f g i j (suc n) h =
    let zi : i + 0 ≡ i = omega arith in
    let zj : j + 0 ≡ j = omega arith in
    let first : g j ≡ f i = ap g (sym zj) ∙ h 0 (omega arith) ∙ ap f zi in
    let rest = same_listing f g (i + 1) (j + 1) n (λ k l.
    let ei : i + suc k ≡ i + 1 + k = omega arith in
    let ej : j + suc k ≡ j + 1 + k = omega arith in
    ap g (sym ej) ∙ h (suc k) (omega arith) ∙ ap f ei) in
    ap (λ y. y ∷ list_by_function g (j + 1) n) first ∙ ap (λ r. f i ∷ r) rest

-- the same for listings from 0 on
pub same_from_0 : {Y : Type 0} (f g : ℕ → Y) (n : ℕ) → ((k : ℕ) → k < n → g k ≡ f k) → list_by_function g 0 n ≡ list_by_function f 0 n
same_from_0 f g n h = same_listing f g 0 0 n (λ k l. let z : 0 + k ≡ k = omega arith in ap g z ∙ h k l ∙ ap f (sym z))

pub blank_listing : {Y : Type 0} (g : ℕ → Y) (y : Y) (j n : ℕ) → ((k : ℕ) → k < n → g (j + k) ≡ y) → list_by_function g j n ≡ replicate n y
blank_listing g y j zero h = refl
blank_listing g y j (suc n) h =
    let zj : j + 0 ≡ j = omega arith in
    let first : g j ≡ y = ap g (sym zj) ∙ h 0 (omega arith) in
    let rest = blank_listing g y (j + 1) n (λ k l. let ej : j + suc k ≡ j + 1 + k = omega arith in ap g (sym ej) ∙ h (suc k) (omega arith)) in
    ap (λ x. x ∷ list_by_function g (j + 1) n) first ∙ ap (λ r. y ∷ r) rest

pub length_listing : {Y : Type 0} (f : ℕ → Y) (i n : ℕ) → length (list_by_function f i n) ≡ n
length_listing f i zero = refl
length_listing f i (suc n) = ap suc (length_listing f (i + 1) n)

listing_at : {Y : Type 0} (f : ℕ → Y) (i n q : ℕ) (d : Y) → q < n → get_or (list_by_function f i n) q d ≡ f (i + q)
listing_at f i zero q d l = absurd (omega arith)
listing_at f i (suc n) zero d l = let z : i ≡ i + 0 = omega arith in ap f z
listing_at f i (suc n) (suc q) d l = let z : i + 1 + q ≡ i + suc q = omega arith in listing_at f (i + 1) n q d (omega arith) ∙ ap f z

pub listed_at : {Y : Type 0} (f : ℕ → Y) (n q : ℕ) (d : Y) → q < n → get_or (list_by_function f 0 n) q d ≡ f q
listed_at f n q d l = let z : 0 + q ≡ q = omega arith in listing_at f 0 n q d l ∙ ap f z

-- a list of length n is the listing of its elements; for a numeral n it is spelled out
pub spelled : (l : List ℕ) (n : ℕ) → length l ≡ n → l ≡ list_by_function (slice_index l) 0 n
spelled l n e = same_number_lists l (list_by_function (slice_index l) 0 n) (e ∙ sym (length_listing (slice_index l) 0 n))
    (λ k h. sym (listed_at (slice_index l) n k 0 (omega arith)))

-- a listing in which one element differs
pub listing_set : {Y : Type 0} (g h : ℕ → Y) (n p : ℕ) (v : Y) → p < n → h p ≡ v → ((q : ℕ) → q < n → q ≢ p → h q ≡ g q) →
    list_by_function h 0 n ≡ set (list_by_function g 0 n) p v
listing_set g h n p v l e o =
    let old = list_by_function g 0 n in
    let long = length_listing g 0 n in
    let size = length_listing h 0 n in
    same_lists (list_by_function h 0 n) (set old p v) (size ∙ sym (length-set old p v ∙ long)) (λ k d lk. ⊎_elim
    (λ (z : k ≡ p). listed_at h n k d (omega arith) ∙ ap h z ∙ e ∙ sym (ap (λ q. get_or (set old p v) q d) z ∙ get_or-set_same old p v d (omega arith)))
    (λ (w : k ≢ p). listed_at h n k d (omega arith) ∙ o k (omega arith) w ∙ sym (get_or-set_other old p k v d w ∙ listed_at g n k d (omega arith)))
    (cases_eq k p))
