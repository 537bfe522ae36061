-- What the words of a line spell, and that no lines spell two lists of steps.
use Rattle.std.proofs.Common.{◌≡◌, ◌≢◌, ℕ, List, [], ◌∷◌, ◌++◌, Some, None, refl, sym, ap, ◌∙◌, subst}
use Rattle.vga_script.specs.declared.step.Step.{Step}
use Rattle.vga_script.specs.declared.keyword.Keyword.{Keyword}
use Rattle.vga_script.specs.Tokens.{in_lower_case, words}
use Rattle.vga_script.specs.Text.{keyword_name, keyword_of, SpellsLine, SpellsLines}
use Rattle.vga_script.specs.StepReading.{step_of_keyword}
use Rattle.vga_script.proofs.NameLemmas.{one_name}
use Rattle.vga_script.proofs.ReadingLemmas.{read_spells, spells_read}
use Rattle.vga_script.proofs.OptionLemmas.{some_is}

-- a line with no word
pub line_none : (ws : List (List ℕ)) → ws ≡ [] → SpellsLine ws []
line_none ws e = subst (λ (l : List (List ℕ)). SpellsLine l []) (sym e) refl

-- a line with a name and words that were read
pub line_named : (ws : List (List ℕ)) (w : List ℕ) (fields : List (List ℕ)) (k : Keyword) (s : Step) → ws ≡ w ∷ fields → in_lower_case w ≡ keyword_name k →
    step_of_keyword k fields ≡ Some s → SpellsLine ws (s ∷ [])
line_named ws w fields k s e named read =
    let both = read_spells k fields s read in
    subst (λ (l : List (List ℕ)). SpellsLine l (s ∷ [])) (sym e) (s, refl, named ∙ ap keyword_name (sym both.0), both.1)

-- one with a name and words that were not
pub line_bad : (ws : List (List ℕ)) (w : List ℕ) (fields : List (List ℕ)) (k : Keyword) (steps : List Step) → ws ≡ w ∷ fields → in_lower_case w ≡ keyword_name k →
    step_of_keyword k fields ≡ None → SpellsLine ws steps → ⊥
line_bad ws w fields k steps e named none spelled =
    let h : SpellsLine (w ∷ fields) steps = subst (λ (l : List (List ℕ)). SpellsLine l steps) e spelled in
    let same : k ≡ keyword_of h.0 = one_name k (keyword_of h.0) (sym named ∙ h.2) in
    let bad : None ≡ Some h.0 = sym none ∙ ap (λ (x : Keyword). step_of_keyword x fields) same ∙ spells_read fields h.0 h.3 in
    absurd (cc)

-- and one with another name
pub line_unnamed : (ws : List (List ℕ)) (w : List ℕ) (fields : List (List ℕ)) (steps : List Step) → ws ≡ w ∷ fields → ((k : Keyword) → in_lower_case w ≢ keyword_name k) →
    SpellsLine ws steps → ⊥
line_unnamed ws w fields steps e none spelled =
    let h : SpellsLine (w ∷ fields) steps = subst (λ (l : List (List ℕ)). SpellsLine l steps) e spelled in
    none (keyword_of h.0) h.2

-- ---- no lines spell two lists of steps

pub one_line : (ws : List (List ℕ)) (a b : List Step) → SpellsLine ws a → SpellsLine ws b → a ≡ b
one_line [] a b p q = p ∙ sym q
one_line (w ∷ fields) a b (s, e, named, fits) (t, f, named', fits') =
    let same : keyword_of s ≡ keyword_of t = one_name (keyword_of s) (keyword_of t) (sym named ∙ named') in
    let both : Some s ≡ Some t = sym (spells_read fields s fits) ∙ ap (λ (k : Keyword). step_of_keyword k fields) same ∙ spells_read fields t fits' in
    e ∙ ap (λ (x : Step). x ∷ []) (some_is s t both) ∙ sym f

pub one_lines : (ls : List (List ℕ)) (a b : List Step) → SpellsLines ls a → SpellsLines ls b → a ≡ b
one_lines [] a b p q = p ∙ sym q
one_lines (l ∷ ls) a b (here, after, e, p, more) (here', after', f, q, more') =
    let h = one_line (words l) here here' p q in let t = one_lines ls after after' more more' in
    e ∙ ap (λ (x : List Step). x ++ after) h ∙ ap (λ (x : List Step). here' ++ x) t ∙ sym f
