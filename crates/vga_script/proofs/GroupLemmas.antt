-- The group at the prefix of some lines, and the faults that exclude it and one another.
use Rattle.std.proofs.Common.{◌≡◌, ℕ, ◌+◌, ◌≤◌, List, [], ◌∷◌, ◌++◌, length, map, refl, sym, ap, ◌∙◌, subst, arith, append_assoc, inl, inr}
use Rattle.vga_script.specs.declared.step.Step.{Step}
use Rattle.vga_script.specs.Item.{Item, Once, Repeated, expanded, step_limit}
use Rattle.vga_script.specs.declared.version.Version.{Version}
use Rattle.vga_script.specs.Tokens.{words}
use Rattle.vga_script.specs.Text.{SpellsLine, SpellsLines, SpellsBeginningOfRepeat, IsRepeatEndLine, LineGroup, IsLineGroup, IsBadLineOutsideRepeats, IsBadLineInRepeat, StandsInRepeatLines, IsGroupFault}
use Rattle.vga_script.proofs.LineLemmas.{one_line, one_lines}
use Rattle.vga_script.proofs.RepeatLineLemmas.{one_count, step_or_repeat, step_or_end}

-- a group is its lines and its items
abbrev group_of : List (List ℕ) → List Item → LineGroup
group_of l i = record { lines = l; items = i }

one_record : (g h : LineGroup) → g.lines ≡ h.lines → g.items ≡ h.items → g ≡ h
one_record g h p q = ap (λ (l : List (List ℕ)). group_of l g.items) p ∙ ap (λ (i : List Item). group_of h.lines i) q

-- ---- what stops the body of a repeat

-- neither a step nor the end of a repeat stands in the first of these lines, or there is none
pub record StopsLines (ls : List (List ℕ)) : Type 0 where
  pub no_end : (line : List ℕ) (others : List (List ℕ)) → ls ≡ line ∷ others → IsRepeatEndLine (words line) → ⊥
  pub no_start : (line : List ℕ) (others : List (List ℕ)) (steps : List Step) → ls ≡ line ∷ others → SpellsLine (words line) steps → ⊥

first_is : (line other : List ℕ) (ls rest : List (List ℕ)) → line ∷ rest ≡ other ∷ ls → line ≡ other
first_is line other ls rest e = cc

bad_stops : (line : List ℕ) (others : List (List ℕ)) → IsBadLineInRepeat line → StopsLines (line ∷ others)
bad_stops line others (none, no_end) = record {
  no_end = λ other rest e is. no_end (subst (λ (l : List ℕ). IsRepeatEndLine (words l)) (sym (first_is line other rest others e)) is);
  no_start = λ other rest steps e is. none steps (subst (λ (l : List ℕ). SpellsLine (words l) steps) (sym (first_is line other rest others e)) is);
}

nothing : (line : List ℕ) (rest : List (List ℕ)) → [] ≡ line ∷ rest → ⊥
nothing line rest e = absurd (cc)

end_stops : StopsLines []
end_stops = record { no_end = λ line rest e is. nothing line rest e; no_start = λ line rest steps e is. nothing line rest e }

-- two bodies of repeats that end are one
one_body : (body body' : List (List ℕ)) (steps steps' : List Step) (last last' : List ℕ) (x y : List (List ℕ)) → SpellsLines body steps →
    SpellsLines body' steps' → IsRepeatEndLine (words last) → IsRepeatEndLine (words last')
    → body ++ last ∷ x ≡ body' ++ last' ∷ y → (body ≡ body') × (last ≡ last') × (x ≡ y)
one_body [] [] steps steps' last last' x y p q ends ends' e =
    let same : last ≡ last' = cc in
    let rest : x ≡ y = cc in
    (refl, same, rest)
one_body [] (b ∷ body') steps steps' last last' x y p (here, after, is, line, more) ends ends' e =
    let same : last ≡ b = cc in absurd (step_or_end (words b) here line (subst (λ (l : List ℕ). IsRepeatEndLine (words l)) same ends))
one_body (b ∷ body) [] steps steps' last last' x y (here, after, is, line, more) q ends ends' e =
    let same : last' ≡ b = cc in absurd (step_or_end (words b) here line (subst (λ (l : List ℕ). IsRepeatEndLine (words l)) same ends'))
one_body (b ∷ body) (c ∷ body') steps steps' last last' x y (here, after, is, line, more) (here', after', is', line', more') ends ends' e =
    let same : b ≡ c = cc in
    let tails : body ++ last ∷ x ≡ body' ++ last' ∷ y = cc in
    let others = one_body body body' after after' last last' x y more more' ends ends' tails in
    (ap (λ (l : List ℕ). l ∷ body) same ∙ ap (λ (l : List (List ℕ)). c ∷ l) others.0, others.1, others.2)

-- one that stops has no end
stop_or_end : (body body' : List (List ℕ)) (steps steps' : List Step) (last : List ℕ) (rest x : List (List ℕ)) → SpellsLines body steps →
    SpellsLines body' steps' → IsRepeatEndLine (words last) → StopsLines rest
    → body ++ rest ≡ body' ++ last ∷ x → ⊥
stop_or_end [] [] steps steps' last rest x p q ends stops e = stops.no_end last x e ends
stop_or_end [] (c ∷ body') steps steps' last rest x p (here, after, is, line, more) ends stops e = stops.no_start c (body' ++ last ∷ x) here e line
stop_or_end (b ∷ body) [] steps steps' last rest x (here, after, is, line, more) q ends stops e =
    let same : last ≡ b = cc in absurd (step_or_end (words b) here line (subst (λ (l : List ℕ). IsRepeatEndLine (words l)) same ends))
stop_or_end (b ∷ body) (c ∷ body') steps steps' last rest x (here, after, is, line, more) (here', after', is', line', more') ends stops e =
    let tails : body ++ rest ≡ body' ++ last ∷ x = cc in stop_or_end body body' after after' last rest x more more' ends stops tails

-- two that stop stop at one line
both_stop : (body body' : List (List ℕ)) (steps steps' : List Step) (rest rest' : List (List ℕ)) → SpellsLines body steps → SpellsLines body' steps' →
    StopsLines rest → StopsLines rest'
    → body ++ rest ≡ body' ++ rest' → (length body ≡ length body') × (rest ≡ rest')
both_stop [] [] steps steps' rest rest' p q stops stops' e = (refl, e)
both_stop [] (c ∷ body') steps steps' rest rest' p (here, after, is, line, more) stops stops' e = absurd (stops.no_start c (body' ++ rest') here e line)
both_stop (b ∷ body) [] steps steps' rest rest' (here, after, is, line, more) q stops stops' e = absurd (stops'.no_start b (body ++ rest) here (sym e) line)
both_stop (b ∷ body) (c ∷ body') steps steps' rest rest' (here, after, is, line, more) (here', after', is', line', more') stops stops' e =
    let tails : body ++ rest ≡ body' ++ rest' = cc in
    let others = both_stop body body' after after' rest rest' more more' stops stops' tails in
    (omega (arith, others.0), others.1)

-- ---- one group

-- the lines of a group, and what follows them
goes : (g : LineGroup) (ls x y : List (List ℕ)) → g.lines ≡ ls → y ≡ g.lines ++ x → y ≡ ls ++ x
goes g ls x y is e = e ∙ ap (λ (l : List (List ℕ)). l ++ x) is

-- a line and a repeat begin differently
line_or_repeat : (line first : List ℕ) (x y : List (List ℕ)) (steps : List Step) (count : ℕ) → line ∷ x ≡ first ∷ y → SpellsLine (words line) steps →
    SpellsBeginningOfRepeat (words first) count → ⊥
line_or_repeat line first x y steps count e good begins =
    let same : first ≡ line = cc in step_or_repeat (words line) steps count good (subst (λ (l : List ℕ). SpellsBeginningOfRepeat (words l) count) same begins)

-- the prefix of some lines determines the group that it spells
pub one_group : (version : Version) (g h : LineGroup) (x y : List (List ℕ)) → IsLineGroup version g → IsLineGroup version h → g.lines ++ x ≡ h.lines ++ y → (g ≡ h)
    × (x ≡ y)
one_group version g h x y (inl (line, steps, ls, is, good)) (inl (line', steps', ls', is', good')) e =
    let both : line ∷ x ≡ line' ∷ y = ap (λ (l : List (List ℕ)). l ++ x) (sym ls) ∙ e ∙ ap (λ (l : List (List ℕ)). l ++ y) ls' in
    let same : line ≡ line' = cc in
    let rest : x ≡ y = cc in
    let read = one_line (words line) steps steps' good (subst (λ (l : List ℕ). SpellsLine (words l) steps') (sym same) good') in
    (one_record g h (ls ∙ ap (λ (l : List ℕ). l ∷ []) same ∙ sym ls') (is ∙ ap (map Once) read ∙ sym is'), rest)
one_group version g h x y (inl (line, steps, ls, is, good)) (inr (allowed, (first, count, body, steps', last, ls', is', begins, good', ends))) e =
    let both : line ∷ x ≡ first ∷ ((body ++ last ∷ []) ++ y) = ap (λ (l : List (List ℕ)). l ++ x) (sym ls) ∙ e ∙ ap (λ (l : List (List ℕ)). l ++ y) ls' in
    absurd (line_or_repeat line first x ((body ++ last ∷ []) ++ y) steps count both good begins)
one_group version g h x y (inr (allowed, (first, count, body, steps', last, ls', is', begins, good', ends))) (inl (line, steps, ls, is, good)) e =
    let both : line ∷ y ≡ first ∷ ((body ++ last ∷ []) ++ x) = ap (λ (l : List (List ℕ)). l ++ y) (sym ls) ∙ sym e ∙ ap (λ (l : List (List ℕ)). l ++ x) ls' in
    absurd (line_or_repeat line first y ((body ++ last ∷ []) ++ x) steps count both good begins)
one_group version g h x y (inr (allowed, (first, count, body, steps, last, ls, is, begins, good, ends)))
    (inr (allowed', (first', count', body', steps', last', ls', is', begins', good', ends'))) e =
    let both : first ∷ ((body ++ last ∷ []) ++ x) ≡ first' ∷ ((body' ++ last' ∷ []) ++ y) = ap (λ (l : List (List ℕ)). l ++ x) (sym ls) ∙ e
    ∙ ap (λ (l : List (List ℕ)). l ++ y) ls' in
    let same : first ≡ first' = cc in
    let tails : (body ++ last ∷ []) ++ x ≡ (body' ++ last' ∷ []) ++ y = cc in
    let bodies = one_body body body' steps steps' last last' x y good good' ends ends' (sym (append_assoc body (last ∷ []) x) ∙ tails
    ∙ append_assoc body' (last' ∷ []) y) in
    let count_is = one_count (words first) count count' begins (subst (λ (l : List ℕ). SpellsBeginningOfRepeat (words l) count') (sym same) begins') in
    let steps_are = one_lines body steps steps' good (subst (λ (l : List (List ℕ)). SpellsLines l steps') (sym bodies.0) good') in
    let lines_are : first ∷ (body ++ last ∷ []) ≡ first' ∷ (body' ++ last' ∷ []) = let p = bodies.0 in let q = bodies.1 in cc in
    let items_are : Repeated count steps ∷ [] ≡ Repeated count' steps' ∷ [] = cc in
    (one_record g h (ls ∙ lines_are ∙ sym ls') (is ∙ items_are ∙ sym is'), bodies.2)

-- a group has at least one line
pub some_line : (version : Version) (g : LineGroup) (x : List (List ℕ)) → IsLineGroup version g → [] ≡ g.lines ++ x → ⊥
some_line version g x (inl (line, steps, ls, is, good)) e = nothing line x (goes g (line ∷ []) x [] ls e)
some_line version g x (inr (allowed, (first, count, body, steps, last, ls, is, begins, good, ends))) e =
    nothing first ((body ++ last ∷ []) ++ x) (goes g (first ∷ (body ++ last ∷ [])) x [] ls e)

-- ---- the faults of a group

-- a repeat whose body stops
opens_or_group : (version : Version) (ls rest x : List (List ℕ)) (place : ℕ) (g : LineGroup) → StandsInRepeatLines version ls place rest → StopsLines rest →
    IsLineGroup version g → ls ≡ g.lines ++ x → ⊥
opens_or_group version ls rest x place g h stops (inl (line, steps, is, items, good)) e =
    line_or_repeat line h.first x (h.body ++ rest) steps h.count (sym (goes g (line ∷ []) x ls is e) ∙ h.whole) good h.begins
opens_or_group version ls rest x place g h stops (inr (allowed, (first, count, body, steps, last, is, items, begins, good, ends))) e =
    let both : h.first ∷ (h.body ++ rest) ≡ first ∷ ((body ++ last ∷ []) ++ x) = sym h.whole ∙ goes g (first ∷ (body ++ last ∷ [])) x ls is e in
    let tails : h.body ++ rest ≡ (body ++ last ∷ []) ++ x = cc in
    stop_or_end h.body body h.steps steps last rest x h.good good ends stops (tails ∙ append_assoc body (last ∷ []) x)

-- a bad line
bad_or_group : (version : Version) (ls others x : List (List ℕ)) (line : List ℕ) (g : LineGroup) → ls ≡ line ∷ others → IsBadLineOutsideRepeats version line →
    IsLineGroup version g → ls ≡ g.lines ++ x → ⊥
bad_or_group version ls others x line g prefix (none, no_repeat) (inl (other, steps, is, items, good)) e =
    let both : line ∷ others ≡ other ∷ x = sym prefix ∙ goes g (other ∷ []) x ls is e in
    let same : other ≡ line = cc in none steps (subst (λ (l : List ℕ). SpellsLine (words l) steps) same good)
bad_or_group version ls others x line g prefix (none, no_repeat) (inr (allowed, (first, count, body, steps, last, is, items, begins, good, ends))) e =
    let both : line ∷ others ≡ first ∷ ((body ++ last ∷ []) ++ x) = sym prefix ∙ goes g (first ∷ (body ++ last ∷ [])) x ls is e in
    let same : first ≡ line = cc in no_repeat allowed count (subst (λ (l : List ℕ). SpellsBeginningOfRepeat (words l) count) same begins)

bad_or_open : (version : Version) (ls others rest : List (List ℕ)) (line : List ℕ) (place : ℕ) → ls ≡ line ∷ others → IsBadLineOutsideRepeats version line →
    StandsInRepeatLines version ls place rest → ⊥
bad_or_open version ls others rest line place prefix (none, no_repeat) h =
    let both : line ∷ others ≡ h.first ∷ (h.body ++ rest) = sym prefix ∙ h.whole in
    let same : h.first ≡ line = cc in no_repeat h.allowed h.count (subst (λ (l : List ℕ). SpellsBeginningOfRepeat (words l) h.count) same h.begins)

-- two repeats that stop
one_open : (version : Version) (ls rest rest' : List (List ℕ)) (place place' : ℕ) → StandsInRepeatLines version ls place rest → StandsInRepeatLines version ls place' rest' →
    StopsLines rest → StopsLines rest' → (place ≡ place') × (rest ≡ rest')
one_open version ls rest rest' place place' h h' stops stops' =
    let both : h.first ∷ (h.body ++ rest) ≡ h'.first ∷ (h'.body ++ rest') = sym h.whole ∙ h'.whole in
    let tails : h.body ++ rest ≡ h'.body ++ rest' = cc in
    let same = both_stop h.body h'.body h.steps h'.steps rest rest' h.good h'.good stops stops' tails in
    let len = same.0 in
    let is = h.distance_is in
    let is' = h'.distance_is in
    (omega arith, same.1)

-- where a group begins, within the limit, there is no fault
pub group_or_fault : (version : Version) (so_far n bad : ℕ) (ls x : List (List ℕ)) (g : LineGroup) → IsGroupFault version so_far n ls bad → IsLineGroup version g →
    ls ≡ g.lines ++ x → so_far + length (expanded g.items) ≤ step_limit → ⊥
group_or_fault version so_far n bad ls x g (inl (is, (line, others, prefix, wrong))) good e few = bad_or_group version ls others x line g prefix wrong good e
group_or_fault version so_far n bad ls x g (inr (inl (place, line, others, is, h, wrong))) good e few =
    opens_or_group version ls (line ∷ others) x place g h (bad_stops line others wrong) good e
group_or_fault version so_far n bad ls x g (inr (inr (inl (is, (place, h))))) good e few = opens_or_group version ls [] x place g h end_stops good e
group_or_fault version so_far n bad ls x g (inr (inr (inr (is, (other, rest, prefix, good', long))))) good e few =
    let same = one_group version g other x rest good good' (sym e ∙ prefix) in
    let len = ap (λ (h : LineGroup). length (expanded h.items)) same.0 in absurd (omega arith)

-- no lines have two first faults
pub one_group_fault : (version : Version) (so_far n m k : ℕ) (ls : List (List ℕ)) → IsGroupFault version so_far n ls m → IsGroupFault version so_far n ls k
    → m ≡ k
one_group_fault version so_far n m k ls (inl (is, bad)) (inl (is', bad')) = is ∙ sym is'
one_group_fault version so_far n m k ls (inl (is, (line, others, prefix, wrong))) (inr (inl (place, other, rest, is', h, wrong'))) =
    absurd (bad_or_open version ls others (other ∷ rest) line place prefix wrong h)
one_group_fault version so_far n m k ls (inl (is, (line, others, prefix, wrong))) (inr (inr (inl (is', (place, h))))) = is ∙ sym is'
one_group_fault version so_far n m k ls (inl (is, bad)) (inr (inr (inr (is', long)))) = is ∙ sym is'
one_group_fault version so_far n m k ls (inr (inl (place, other, rest, is', h, wrong'))) (inl (is, (line, others, prefix, wrong))) =
    absurd (bad_or_open version ls others (other ∷ rest) line place prefix wrong h)
one_group_fault version so_far n m k ls (inr (inl (place, line, rest, is, h, wrong))) (inr (inl (place', line', rest', is', h', wrong'))) =
    let same = one_open version ls (line ∷ rest) (line' ∷ rest') place place' h h' (bad_stops line rest wrong) (bad_stops line' rest' wrong') in
    is ∙ ap (λ (p : ℕ). n + p) same.0 ∙ sym is'
one_group_fault version so_far n m k ls (inr (inl (place, line, rest, is, h, wrong))) (inr (inr (inl (is', (place', h'))))) =
    let same = one_open version ls (line ∷ rest) [] place place' h h' (bad_stops line rest wrong) end_stops in
    absurd (nothing line rest (sym same.1))
one_group_fault version so_far n m k ls (inr (inl (place, line, rest, is, h, wrong))) (inr (inr (inr (is', (g, others, prefix, good, long))))) =
    absurd (opens_or_group version ls (line ∷ rest) others place g h (bad_stops line rest wrong) good prefix)
one_group_fault version so_far n m k ls (inr (inr (inl (is, opens)))) (inl (is', bad)) = is ∙ sym is'
one_group_fault version so_far n m k ls (inr (inr (inl (is, (place, h))))) (inr (inl (place', line, rest, is', h', wrong))) =
    let same = one_open version ls [] (line ∷ rest) place place' h h' end_stops (bad_stops line rest wrong) in
    absurd (nothing line rest same.1)
one_group_fault version so_far n m k ls (inr (inr (inl (is, opens)))) (inr (inr (inl (is', opens')))) = is ∙ sym is'
one_group_fault version so_far n m k ls (inr (inr (inl (is, opens)))) (inr (inr (inr (is', long)))) = is ∙ sym is'
one_group_fault version so_far n m k ls (inr (inr (inr (is, long)))) (inl (is', bad)) = is ∙ sym is'
one_group_fault version so_far n m k ls (inr (inr (inr (is, (g, others, prefix, good, long))))) (inr (inl (place, line, rest, is', h, wrong))) =
    absurd (opens_or_group version ls (line ∷ rest) others place g h (bad_stops line rest wrong) good prefix)
one_group_fault version so_far n m k ls (inr (inr (inr (is, long)))) (inr (inr (inl (is', opens)))) = is ∙ sym is'
one_group_fault version so_far n m k ls (inr (inr (inr (is, long)))) (inr (inr (inr (is', long')))) = is ∙ sym is'

-- where no line is left, no group has a fault
pub fault_at_end : (version : Version) (so_far n bad : ℕ) (ls : List (List ℕ)) → ls ≡ [] → IsGroupFault version so_far n ls bad → ⊥
fault_at_end version so_far n bad ls e (inl (is, (line, others, prefix, wrong))) = nothing line others (sym e ∙ prefix)
fault_at_end version so_far n bad ls e (inr (inl (place, line, others, is, h, wrong))) = nothing h.first (h.body ++ line ∷ others) (sym e ∙ h.whole)
fault_at_end version so_far n bad ls e (inr (inr (inl (is, (place, h))))) = nothing h.first (h.body ++ []) (sym e ∙ h.whole)
fault_at_end version so_far n bad ls e (inr (inr (inr (is, (g, rest, prefix, good, long))))) = some_line version g rest good (sym e ∙ prefix)
