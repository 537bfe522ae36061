-- Names, compared without case.
use Rattle.std.proofs.Common.{◌≡◌, ◌≢◌, ℕ, ◌↔◌, Bool, true, false, cond, List, [], ◌∷◌, IsTrue, Option, Some, None, refl, sym, ap, ◌∙◌, codes}
use Rattle.std.specs.Str.{bytes_eq}
use Rattle.std.proofs.lemmas.Slice.Eq.{bytes_eq-Decides}
use Rattle.vga_script.specs.Tokens.{in_lower_case}
use Rattle.vga_script.specs.declared.keyword.Keyword.{Keyword}
use Rattle.vga_script.specs.declared.keyword.Keyword.TheVariants as keyword
use Rattle.vga_script.specs.Text.{keyword_name}
use Rattle.vga_script.proofs.OptionLemmas.{some_is}

-- two tests that pass together are one
same_bool : (a b : Bool) → (a ≡ true → b ≡ true) → (b ≡ true → a ≡ true) → a ≡ b
same_bool true true f g = refl
same_bool true false f g = sym (f refl)
same_bool false true f g = g refl
same_bool false false f g = refl

-- a comparison without case is that of the words in lower case
pub same_name : (word name : List ℕ) (r : Bool) → in_lower_case name ≡ name → (IsTrue r ↔ (in_lower_case word ≡ in_lower_case name)) → r ≡ bytes_eq (in_lower_case word) name
same_name word name r lower same =
    same_bool r (bytes_eq (in_lower_case word) name) (λ h. (bytes_eq-Decides (in_lower_case word) name).1 (same.0 h ∙ lower)) (λ h.
    same.1 ((bytes_eq-Decides (in_lower_case word) name).0 h ∙ sym lower))

-- a word that is this name
pub named : (word name : List ℕ) → bytes_eq (in_lower_case word) name ≡ true → in_lower_case word ≡ name
named word name e = (bytes_eq-Decides (in_lower_case word) name).0 e

-- and one that is not
pub unnamed : (word name : List ℕ) → bytes_eq (in_lower_case word) name ≡ false → in_lower_case word ≢ name
unnamed word name e same = let yes = (bytes_eq-Decides (in_lower_case word) name).1 same in absurd (cc)

-- ---- what holds of each name of a step

pub each : (P : Keyword → Type 0) → P keyword.Out × P keyword.OutWord × P keyword.In × P keyword.InWord × P keyword.Put × P keyword.PutWord × P keyword.Get
    × P keyword.GetWord × P keyword.Int × P keyword.Advance × P keyword.Frame × P keyword.Show → (name : Keyword) → P name
each P h keyword.Out = h.0
each P h keyword.OutWord = h.1
each P h keyword.In = h.2
each P h keyword.InWord = h.3
each P h keyword.Put = h.4
each P h keyword.PutWord = h.5
each P h keyword.Get = h.6
each P h keyword.GetWord = h.7
each P h keyword.Int = h.8
each P h keyword.Advance = h.9
each P h keyword.Frame = h.10
each P h keyword.Show = h.11

-- the keyword of a name
keyword_at : List Keyword → List ℕ → Option Keyword
keyword_at [] w = None
keyword_at (k ∷ ks) w = cond (bytes_eq w (keyword_name k)) (Some k) (keyword_at ks w)

all : List Keyword
all = keyword.Out ∷ keyword.OutWord ∷ keyword.In ∷ keyword.InWord ∷ keyword.Put ∷ keyword.PutWord ∷ keyword.Get ∷ keyword.GetWord ∷ keyword.Int
    ∷ keyword.Advance ∷ keyword.Frame ∷ keyword.Show ∷ []

keyword_back : (k : Keyword) → keyword_at all (keyword_name k) ≡ Some k
unfolding keyword_at all
keyword_back k = each (λ k. keyword_at all (keyword_name k) ≡ Some k) (refl, refl, refl, refl, refl, refl, refl, refl, refl, refl, refl, refl) k

-- no two keywords have one name
pub one_name : (j k : Keyword) → keyword_name j ≡ keyword_name k → j ≡ k
one_name j k e = some_is j k (sym (keyword_back j) ∙ ap (keyword_at all) e ∙ keyword_back k)

-- and none has the name of another line
pub repeat_unnamed : (k : Keyword) → bytes_eq (keyword_name k) (codes "repeat") ≡ false
repeat_unnamed k = each (λ k. bytes_eq (keyword_name k) (codes "repeat") ≡ false) (refl, refl, refl, refl, refl, refl, refl, refl, refl, refl, refl, refl) k

pub end_unnamed : (k : Keyword) → bytes_eq (keyword_name k) (codes "end") ≡ false
end_unnamed k = each (λ k. bytes_eq (keyword_name k) (codes "end") ≡ false) (refl, refl, refl, refl, refl, refl, refl, refl, refl, refl, refl, refl) k

pub version_unnamed : (k : Keyword) → bytes_eq (keyword_name k) (codes "version") ≡ false
version_unnamed k = each (λ k. bytes_eq (keyword_name k) (codes "version") ≡ false) (refl, refl, refl, refl, refl, refl, refl, refl, refl, refl, refl, refl) k
