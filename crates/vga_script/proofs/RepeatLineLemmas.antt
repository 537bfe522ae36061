-- The lines that say a version, and that begin and end a repeat.
use Rattle.std.proofs.Common.{◌≡◌, ◌≢◌, ℕ, ◌<◌, List, [], ◌∷◌, Some, None, refl, sym, ap, ◌∙◌, subst, arith, codes, true, false, get_or, length, Bool, IsTrue}
use Rattle.std.proofs.Common.{◌↔◌}
use Rattle.std.specs.Str.{bytes_eq}
use Rattle.std.specs.Str.Parse.{digits_value}
use Rattle.std.proofs.lemmas.Slice.Eq.{bytes_eq-Decides}
use Rattle.vga_script.specs.declared.step.Step.{Step}
use Rattle.vga_script.specs.declared.keyword.Keyword.{Keyword}
use Rattle.vga_script.specs.Tokens.{in_lower_case}
use Rattle.vga_script.specs.Text.{keyword_name, keyword_of, SpellsLine, SpellsBeginningOfRepeat, IsRepeatEndLine, IsVersionTwo}
use Rattle.vga_script.specs.StepReading.{number_of_word}
use Rattle.vga_script.proofs.NameLemmas.{named, unnamed, repeat_unnamed, end_unnamed, version_unnamed}
use Rattle.vga_script.proofs.OptionLemmas.{some_is}
use Rattle.vga_script.proofs.NumberLemmas.{number_reads, spells_number}

-- ---- how many words

pub not_one_of_none : (ws : List (List ℕ)) → ws ≡ [] → (word : List ℕ) → ws ≢ word ∷ []
not_one_of_none ws none word e = let both : [] ≡ word ∷ [] = sym none ∙ e in absurd (cc)

pub not_one_of_more : (ws rest others : List (List ℕ)) (first second : List ℕ) → ws ≡ first ∷ rest → rest ≡ second ∷ others → (word : List ℕ) → ws ≢ word ∷ []
not_one_of_more ws rest others first second e f word is = let both : first ∷ second ∷ others ≡ word ∷ [] = ap (λ (l : List (List ℕ)). first ∷ l) (sym f) ∙ sym e
    ∙ is in absurd (cc)

pub one_alone : (ws rest : List (List ℕ)) (first : List ℕ) → ws ≡ first ∷ rest → rest ≡ [] → ws ≡ first ∷ []
one_alone ws rest first e f = e ∙ ap (λ (l : List (List ℕ)). first ∷ l) f

pub not_two_of_none : (ws : List (List ℕ)) → ws ≡ [] → (word other : List ℕ) → ws ≢ word ∷ other ∷ []
not_two_of_none ws none word other e = let both : [] ≡ word ∷ other ∷ [] = sym none ∙ e in absurd (cc)

pub not_two_of_one : (ws rest : List (List ℕ)) (first : List ℕ) → ws ≡ first ∷ rest → rest ≡ [] → (word other : List ℕ) → ws ≢ word ∷ other ∷ []
not_two_of_one ws rest first e f word other is = let both : first ∷ [] ≡ word ∷ other ∷ [] = ap (λ (l : List (List ℕ)). first ∷ l) (sym f) ∙ sym e
    ∙ is in absurd (cc)

pub not_two_of_more : (ws rest behind others : List (List ℕ)) (first second third : List ℕ) → ws ≡ first ∷ rest → rest ≡ second ∷ behind →
    behind ≡ third ∷ others → (word other : List ℕ) → ws ≢ word ∷ other ∷ []
not_two_of_more ws rest behind others first second third e f g word other is =
    let both : first ∷ second ∷ third ∷ others ≡ word ∷ other ∷ [] =
    ap (λ (l : List (List ℕ)). first ∷ second ∷ l) (sym g) ∙ ap (λ (l : List (List ℕ)). first ∷ l) (sym f) ∙ sym e ∙ is in absurd (cc)

pub two_alone : (ws rest behind : List (List ℕ)) (first second : List ℕ) → ws ≡ first ∷ rest → rest ≡ second ∷ behind → behind ≡ [] → ws ≡ first ∷ second ∷ []
two_alone ws rest behind first second e f g = e ∙ ap (λ (l : List (List ℕ)). first ∷ l) (f ∙ ap (λ (l : List (List ℕ)). second ∷ l) g)

-- ---- the line that begins a repeat

-- one byte
pub one_byte : (xs : List ℕ) (b : ℕ) → length xs ≡ 1 → get_or xs 0 0 ≡ b → xs ≡ b ∷ []
one_byte [] b len is = absurd (omega arith)
one_byte (x ∷ []) b len is = ap (λ (y : ℕ). y ∷ []) is
one_byte (x ∷ y ∷ xs) b len is = absurd (omega arith)

-- a repeat's count that is read
pub repeat_read : (ws : List (List ℕ)) (name word : List ℕ) (count : ℕ) → ws ≡ name ∷ word ∷ [] → bytes_eq (in_lower_case name) (codes "repeat") ≡ true →
    number_of_word 10 0xFFFF word ≡ Some count → count ≢ 0 → SpellsBeginningOfRepeat ws count
repeat_read ws name word count e is read some =
    let r = number_reads 10 0xFFFF word count read in
    let most = r.1 in
    (name, word, e, named name (codes "repeat") is, r.0, omega arith, omega arith)

-- the two words of one that begins it are its
same_words : (ws : List (List ℕ)) (a b c d : List ℕ) → ws ≡ a ∷ b ∷ [] → ws ≡ c ∷ d ∷ [] → (a ≡ c) × (b ≡ d)
same_words ws a b c d e f =
    let both : a ∷ b ∷ [] ≡ c ∷ d ∷ [] = sym e ∙ f in
    let first : a ≡ c = cc in
    let second : b ≡ d = cc in
    (first, second)

pub not_repeat_words : (ws : List (List ℕ)) → ((word other : List ℕ) → ws ≢ word ∷ other ∷ []) → (count : ℕ) → SpellsBeginningOfRepeat ws count → ⊥
not_repeat_words ws none count (first, number, e, is, numeral, some, small) = none first number e

pub not_repeat_name : (ws : List (List ℕ)) (name word : List ℕ) → ws ≡ name ∷ word ∷ [] → bytes_eq (in_lower_case name) (codes "repeat") ≡ false → (count : ℕ) →
    SpellsBeginningOfRepeat ws count → ⊥
not_repeat_name ws name word e not_so count (first, number, f, is, numeral, some, small) =
    let same = same_words ws name word first number e f in
    unnamed name (codes "repeat") not_so (ap in_lower_case same.0 ∙ is)

-- what its number reads as
reads_as : (ws : List (List ℕ)) (name word : List ℕ) (count : ℕ) → ws ≡ name ∷ word ∷ [] → SpellsBeginningOfRepeat ws count → (number_of_word 10 0xFFFF word ≡ Some count)
    × (0 < count)
reads_as ws name word count e (first, number, f, is, numeral, some, small) =
    let same = same_words ws name word first number e f in
    (ap (number_of_word 10 0xFFFF) same.1 ∙ spells_number 10 0xFFFF number count (omega arith) numeral (omega arith), some)

pub not_repeat_number : (ws : List (List ℕ)) (name word : List ℕ) → ws ≡ name ∷ word ∷ [] → number_of_word 10 0xFFFF word ≡ None → (count : ℕ) →
    SpellsBeginningOfRepeat ws count → ⊥
not_repeat_number ws name word e none count h = let both = sym none ∙ (reads_as ws name word count e h).0 in absurd (cc)

pub not_repeat_zero : (ws : List (List ℕ)) (name word : List ℕ) (n : ℕ) → ws ≡ name ∷ word ∷ [] → number_of_word 10 0xFFFF word ≡ Some n → n ≡ 0 → (count : ℕ) →
    SpellsBeginningOfRepeat ws count → ⊥
not_repeat_zero ws name word n e read nought count h =
    let r = reads_as ws name word count e h in
    let same : n ≡ count = some_is n count (sym read ∙ r.0) in
    let some = r.1 in absurd (omega arith)

-- a repeat is begun by one count
pub one_count : (ws : List (List ℕ)) (n m : ℕ) → SpellsBeginningOfRepeat ws n → SpellsBeginningOfRepeat ws m → n ≡ m
one_count ws n m (first, number, e, is, (has, all, value), some, small) (first', number', e', is', (has', all', value'), some', small') =
    let same = same_words ws first number first' number' e e' in
    value ∙ ap (λ (w : List ℕ). digits_value 10 w) same.1 ∙ sym value'

-- the line that says version 2
pub version_two : (ws : List (List ℕ)) (name word : List ℕ) (r : Bool) → ws ≡ name ∷ word ∷ [] → word ≡ codes "2" →
    r ≡ bytes_eq (in_lower_case name) (codes "version") → IsTrue r ↔ IsVersionTwo ws
version_two ws name word r e two is = (
  λ t. (name, e ∙ ap (λ (w : List ℕ). name ∷ w ∷ []) two, named name (codes "version") (sym is ∙ t)),
  λ h. is ∙ (bytes_eq-Decides (in_lower_case name) (codes "version")).1 (ap in_lower_case (same_words ws name word h.0 (codes "2") e h.1).0 ∙ h.2),
)

-- ---- a line is of one kind

-- a line of a step does not begin with a word that is the name of none
pub not_step_named : (ws : List (List ℕ)) (first : List ℕ) (fields : List (List ℕ)) (name : List ℕ) (steps : List Step) →
    ((k : Keyword) → bytes_eq (keyword_name k) name ≡ false) → ws ≡ first ∷ fields → in_lower_case first ≡ name → SpellsLine ws steps → ⊥
not_step_named ws first fields name steps other e is spelled =
    let h : SpellsLine (first ∷ fields) steps = subst (λ (l : List (List ℕ)). SpellsLine l steps) e spelled in
    let same : keyword_name (keyword_of h.0) ≡ name = sym h.2 ∙ is in
    let differ = other (keyword_of h.0) in
    let twice : bytes_eq name name ≡ false = ap (λ (w : List ℕ). bytes_eq w name) (sym same) ∙ differ in
    let whole : bytes_eq name name ≡ true = (bytes_eq-Decides name name).1 refl in
    absurd (cc)

-- so a line is of one kind
pub step_or_repeat : (ws : List (List ℕ)) (steps : List Step) (count : ℕ) → SpellsLine ws steps → SpellsBeginningOfRepeat ws count → ⊥
step_or_repeat ws steps count spelled (first, number, e, is, numeral, some, small) =
    not_step_named ws first (number ∷ []) (codes "repeat") steps repeat_unnamed e is spelled

pub step_or_end : (ws : List (List ℕ)) (steps : List Step) → SpellsLine ws steps → IsRepeatEndLine ws → ⊥
step_or_end ws steps spelled (first, e, is) = not_step_named ws first [] (codes "end") steps end_unnamed e is spelled

pub step_or_version : (ws : List (List ℕ)) (steps : List Step) → SpellsLine ws steps → IsVersionTwo ws → ⊥
step_or_version ws steps spelled (first, e, is) = not_step_named ws first (codes "2" ∷ []) (codes "version") steps version_unnamed e is spelled
