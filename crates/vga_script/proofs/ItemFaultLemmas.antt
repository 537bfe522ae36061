-- The faults of an item exclude one another, and where one begins there is none.
use Rattle.std.proofs.Common.{◌≡◌, ◌⊎◌, ℕ, ◌+◌, ◌<◌, ◌≤◌, ◌^◌, List, [], ◌∷◌, ◌++◌, length, drop, arith, refl, sym, ap, ◌∙◌, subst, append_assoc, inl, inr}
use Rattle.std.specs.List.{flat_map}
use Rattle.byteorder.specs.Endian.{little_bytes, little_number}
use Rattle.vga_bits.specs.declared.fault.Fault.{Fault}
use Rattle.vga_bits.specs.declared.fault.Fault.TheVariants as fault
use Rattle.vga_script.specs.declared.step.Step.{Step}
use Rattle.vga_script.specs.Item.{Item, Once, Repeated, step_limit, steps_of_item}
use Rattle.vga_script.specs.declared.version.Version.{Version}
use Rattle.vga_script.specs.Step.{IsInRange}
use Rattle.vga_script.specs.Spelling.{opcode_repeat, opcode_end, spelling, StartsWithItem}
use Rattle.vga_script.specs.Decoding.{HasStepsBefore, StandsInRepeat, StartsWithCutStep, StartsWithBadItem, StartsWithCutItem, StartsWithNeitherStepNorRepeatEnd, IsItemFault}
use Rattle.vga_script.proofs.FieldLemmas.{two_back}
use Rattle.vga_script.proofs.PrefixLemmas.{Compared, compare}
use Rattle.vga_script.proofs.GrammarLemmas.{one_step, some_byte, no_step_of, steps_range, spelled_steps, one_item, some_item_byte}
use Rattle.vga_script.proofs.StopLemmas.{step_starts, one_reason, never_at_end, not_cut_at}

-- ---- what stops the body of a repeat

-- neither a step nor the end of a repeat begins
pub record StopsBody (rest : List ℕ) : Type 0 where
  pub no_end : (more : List ℕ) → rest ≡ opcode_end ∷ more → ⊥
  pub no_start : (s : Step) (x : List ℕ) → IsInRange s → rest ≡ spelling s ++ x → ⊥

bad_stops : (rest : List ℕ) → StartsWithNeitherStepNorRepeatEnd rest → StopsBody rest
bad_stops rest (bad, none) = record { no_end = none; no_start = λ s x fits e. step_starts s x rest fits e (inl bad) }

cut_stops : (rest : List ℕ) → StartsWithCutStep rest → StopsBody rest
cut_stops rest cut = record { no_end = λ more e. not_cut_at opcode_end more rest refl e cut; no_start = λ s x fits e. step_starts s x rest fits e (inr cut) }

nothing_ends : (more : List ℕ) → [] ≡ opcode_end ∷ more → ⊥
nothing_ends more e = absurd (cc)

end_stops : (rest : List ℕ) → rest ≡ [] → StopsBody rest
end_stops rest none = record { no_end = λ more e. nothing_ends more (sym none ∙ e); no_start = λ s x fits e. some_byte s x fits (sym e ∙ none) }

-- two bodies that stop stop at one place
both_stop : (ss ts : List Step) (rest rest' : List ℕ) → Compared spelling IsInRange ss ts rest rest' → StopsBody rest → StopsBody rest' → rest ≡ rest'
both_stop ss ts rest rest' (inl (same, rests)) stops stops' = rests
both_stop ss ts rest rest' (inr (inl (next, others, is, fits, rests))) stops stops' = absurd (stops.no_start next _ fits rests)
both_stop ss ts rest rest' (inr (inr (next, others, is, fits, rests))) stops stops' = absurd (stops'.no_start next _ fits rests)

-- one that stops has no end
stop_or_end : (ss ts : List Step) (rest x : List ℕ) → Compared spelling IsInRange ss ts rest (opcode_end ∷ x) → StopsBody rest → ⊥
stop_or_end ss ts rest x (inl (same, rests)) stops = stops.no_end x rests
stop_or_end ss ts rest x (inr (inl (next, others, is, fits, rests))) stops = stops.no_start next _ fits rests
stop_or_end ss ts rest x (inr (inr (next, others, is, fits, rests))) stops = no_step_of opcode_end x next _ fits refl rests

-- the steps of a body, and what follows them
body_is : (body rest : List ℕ) (len : ℕ) (h : HasStepsBefore body len rest) → body ≡ flat_map spelling h.steps ++ rest
body_is body rest len h = h.whole ∙ ap (λ (l : List ℕ). l ++ rest) (spelled_steps h.prefix h.steps h.good)

-- the count of a repeat is read back
count_back : (n : ℕ) (x bytes : List ℕ) → n < 2 ^ 16 → bytes ≡ opcode_repeat ∷ (little_bytes 2 n ++ x) → n ≡ little_number 2 (drop 1 bytes)
count_back n x bytes small e = sym (two_back n x small) ∙ ap (λ (l : List ℕ). little_number 2 (drop 1 l)) (sym e)

-- ---- the faults of an item exclude one another

-- what stops it, and the fault that this is
abbrev pub InsideOf : ℕ → ℕ → List ℕ → Fault → Type 0
InsideOf offset place rest f =
    ((f ≡ fault.BadStep (offset + place)) × StartsWithNeitherStepNorRepeatEnd rest)
    ⊎ (((f ≡ fault.Truncated (offset + place)) × StartsWithCutStep rest) ⊎ ((f ≡ fault.Truncated offset) × (rest ≡ [])))

-- a repeat that is open where its body stops
abbrev pub Inside : Version → ℕ → List ℕ → Fault → Type 0
Inside version offset bytes f = (place : ℕ) × (rest : List ℕ) × StandsInRepeat version bytes place rest × InsideOf offset place rest f

-- with an item there are more steps than a script may mean
abbrev pub Exceeds : Version → ℕ → List ℕ → Type 0
Exceeds version so_far bytes = (first : Item) × (rest : List ℕ) × StartsWithItem version bytes first rest × (step_limit < so_far + length (steps_of_item first))

-- the four kinds of an item's fault
abbrev pub Kinds : Version → ℕ → ℕ → List ℕ → Fault → Type 0
Kinds version so_far offset bytes f =
    ((f ≡ fault.BadStep offset) × StartsWithBadItem version bytes)
    ⊎ (((f ≡ fault.Truncated offset) × StartsWithCutItem version bytes) ⊎ (Inside version offset bytes f
    ⊎ ((f ≡ fault.TooMany offset) × Exceeds version so_far bytes)))

pub kind : (version : Version) (so_far offset : ℕ) (bytes : List ℕ) (f : Fault) → IsItemFault version so_far offset bytes f
    → Kinds version so_far offset bytes f
kind version so_far offset bytes (fault.BadStep at) (inl (is, bad)) = inl (ap fault.BadStep is, bad)
kind version so_far offset bytes (fault.BadStep at) (inr (place, rest, is, h, bad)) = inr (inr (inl (place, rest, h, inl (ap fault.BadStep is, bad))))
kind version so_far offset bytes (fault.Truncated at) (inl (is, inl cut)) = inr (inl (ap fault.Truncated is, cut))
kind version so_far offset bytes (fault.Truncated at) (inl (is, inr (place, h))) = inr (inr (inl (place, [], h, inr (inr (ap fault.Truncated is, refl)))))
kind version so_far offset bytes (fault.Truncated at) (inr (place, rest, is, h, cut)) = inr (inr (inl (place, rest, h, inr (inl (ap fault.Truncated is, cut)))))
kind version so_far offset bytes (fault.TooMany at) (is, long) = inr (inr (inr (ap fault.TooMany is, long)))
kind version so_far offset bytes _ h = absurd h

inside_stops : (offset place : ℕ) (rest : List ℕ) (f : Fault) → InsideOf offset place rest f → StopsBody rest
inside_stops offset place rest f (inl (is, bad)) = bad_stops rest bad
inside_stops offset place rest f (inr (inl (is, cut))) = cut_stops rest cut
inside_stops offset place rest f (inr (inr (is, none))) = end_stops rest none

-- a bad item is not cut off, and opens no repeat
bad_or_cut : (version : Version) (bytes : List ℕ) → StartsWithBadItem version bytes → StartsWithCutItem version bytes → ⊥
bad_or_cut version bytes (inl (bad, none)) (inl cut) = one_reason bytes bad cut
bad_or_cut version bytes (inl (bad, none)) (inr (allowed, (rest, e, short))) = none (allowed, (rest, e))
bad_or_cut version bytes (inr (allowed, (rest, e))) (inl cut) = not_cut_at opcode_repeat _ bytes refl e cut
bad_or_cut version bytes (inr (allowed, (rest, e))) (inr (allowed', (rest', e', short))) = let l = ap length (sym e ∙ e') in absurd (omega arith)

bad_or_open : (version : Version) (bytes rest : List ℕ) (place : ℕ) → StartsWithBadItem version bytes → StandsInRepeat version bytes place rest → ⊥
bad_or_open version bytes rest place (inl (bad, none)) h = none (h.allowed, (_, h.whole))
bad_or_open version bytes rest place (inr (allowed, (x, e))) h =
    let zero_is = count_back 0 x bytes (omega arith) e in
    let count_is = count_back h.count h.body bytes h.small h.whole in
    let some = h.some in absurd (omega arith)

-- and one that is cut off opens none
cut_or_open : (version : Version) (bytes rest : List ℕ) (place : ℕ) → StartsWithCutItem version bytes → StandsInRepeat version bytes place rest → ⊥
cut_or_open version bytes rest place (inl cut) h = not_cut_at opcode_repeat _ bytes refl h.whole cut
cut_or_open version bytes rest place (inr (allowed, (x, e, short))) h = let l = ap length (sym e ∙ h.whole) in absurd (omega arith)

-- no item begins where one is bad, is cut off, or has a body that stops
bad_or_item : (version : Version) (bytes : List ℕ) (i : Item) (x : List ℕ) → StartsWithBadItem version bytes → StartsWithItem version bytes i x → ⊥
bad_or_item version bytes (Once s) x (inl (bad, none)) (fits, e) = step_starts s x bytes fits e (inl bad)
bad_or_item version bytes (Repeated n ss) x (inl (bad, none)) ((allowed, some, small, range), e) = none (allowed, (_, e))
bad_or_item version bytes (Once s) x (inr (allowed, (more, zero_is))) (fits, e) = no_step_of opcode_repeat _ s x fits refl (sym zero_is ∙ e)
bad_or_item version bytes (Repeated n ss) x (inr (allowed, (more, zero_is))) ((allowed', some, small, range), e) =
    let nought = count_back 0 more bytes (omega arith) zero_is in
    let count_is = count_back n ((flat_map spelling ss ++ opcode_end ∷ []) ++ x) bytes small e in absurd (omega arith)

cut_or_item : (version : Version) (bytes : List ℕ) (i : Item) (x : List ℕ) → StartsWithCutItem version bytes → StartsWithItem version bytes i x → ⊥
cut_or_item version bytes (Once s) x (inl cut) (fits, e) = step_starts s x bytes fits e (inr cut)
cut_or_item version bytes (Repeated n ss) x (inl cut) (fits, e) = not_cut_at opcode_repeat _ bytes refl e cut
cut_or_item version bytes (Once s) x (inr (allowed, (rest, prefix, short))) (fits, e) = no_step_of opcode_repeat _ s x fits refl (sym prefix ∙ e)
cut_or_item version bytes (Repeated n ss) x (inr (allowed, (rest, prefix, short))) (fits, e) = let l = ap length (sym prefix ∙ e) in absurd (omega arith)

open_or_item : (version : Version) (bytes rest : List ℕ) (place : ℕ) (i : Item) (x : List ℕ) → StandsInRepeat version bytes place rest → StopsBody rest →
    StartsWithItem version bytes i x → ⊥
open_or_item version bytes rest place (Once s) x h stops (fits, e) = no_step_of opcode_repeat _ s x fits refl (sym h.whole ∙ e)
open_or_item version bytes rest place (Repeated n ss) x h stops ((allowed, some, small, range), e) =
    let body : flat_map spelling h.good.steps ++ rest ≡ flat_map spelling ss ++ opcode_end ∷ x =
    sym (body_is h.body rest h.len h.good) ∙ ap (drop 3) (sym h.whole ∙ e) ∙ append_assoc (flat_map spelling ss) (opcode_end ∷ []) x in
    stop_or_end h.good.steps ss rest x (compare spelling IsInRange one_step h.good.steps ss rest (opcode_end ∷ x)
    (steps_range h.good.prefix h.good.steps h.good.good) range body) stops

-- so where an item begins, within the limit, there is no fault
pub item_or_kind : (version : Version) (so_far offset : ℕ) (bytes : List ℕ) (f : Fault) (i : Item) (x : List ℕ) → Kinds version so_far offset bytes f →
    StartsWithItem version bytes i x
    → so_far + length (steps_of_item i) ≤ step_limit → ⊥
item_or_kind version so_far offset bytes f i x (inl (is, bad)) starts few = bad_or_item version bytes i x bad starts
item_or_kind version so_far offset bytes f i x (inr (inl (is, cut))) starts few = cut_or_item version bytes i x cut starts
item_or_kind version so_far offset bytes f i x (inr (inr (inl (place, rest, h, inside)))) starts few =
    open_or_item version bytes rest place i x h (inside_stops offset place rest f inside) starts
item_or_kind version so_far offset bytes f i x (inr (inr (inr (is, (first, rest, (fits', e'), long))))) (fits, e) few =
    let same = one_item version i first x rest fits fits' (sym e ∙ e') in
    let len = ap (λ (j : Item). length (steps_of_item j)) same.0 in absurd (omega arith)

-- two bodies that stop have one fault
same_inside : (offset place place' : ℕ) (rest rest' : List ℕ) (f g : Fault) → place ≡ place' → rest ≡ rest' → InsideOf offset place rest f →
    InsideOf offset place' rest' g → f ≡ g
same_inside offset place place' rest rest' f g p r (inl (is, bad)) (inl (is', bad')) = is ∙ ap (λ (n : ℕ). fault.BadStep (offset + n)) p ∙ sym is'
same_inside offset place place' rest rest' f g p r (inl (is, (bad, none))) (inr (inl (is', cut))) =
    absurd (one_reason rest bad (subst StartsWithCutStep (sym r) cut))
same_inside offset place place' rest rest' f g p r (inl (is, (bad, none))) (inr (inr (is', ends))) = absurd (never_at_end rest (r ∙ ends) (inl bad))
same_inside offset place place' rest rest' f g p r (inr (inl (is, cut))) (inl (is', (bad, none))) =
    absurd (one_reason rest' bad (subst StartsWithCutStep r cut))
same_inside offset place place' rest rest' f g p r (inr (inl (is, cut))) (inr (inl (is', cut'))) = is ∙ ap (λ (n : ℕ). fault.Truncated (offset + n)) p ∙ sym is'
same_inside offset place place' rest rest' f g p r (inr (inl (is, cut))) (inr (inr (is', ends))) = absurd (never_at_end rest (r ∙ ends) (inr cut))
same_inside offset place place' rest rest' f g p r (inr (inr (is, ends))) (inl (is', (bad, none))) = absurd (never_at_end rest' (sym r ∙ ends) (inl bad))
same_inside offset place place' rest rest' f g p r (inr (inr (is, ends))) (inr (inl (is', cut))) = absurd (never_at_end rest' (sym r ∙ ends) (inr cut))
same_inside offset place place' rest rest' f g p r (inr (inr (is, ends))) (inr (inr (is', ends'))) = is ∙ sym is'

one_inside : (version : Version) (offset : ℕ) (bytes : List ℕ) (f g : Fault) → Inside version offset bytes f → Inside version offset bytes g → f ≡ g
one_inside version offset bytes f g (place, rest, h, inside) (place', rest', h', inside') =
    let body : flat_map spelling h.good.steps ++ rest ≡ flat_map spelling h'.good.steps ++ rest' =
    sym (body_is h.body rest h.len h.good) ∙ ap (drop 3) (sym h.whole ∙ h'.whole) ∙ body_is h'.body rest' h'.len h'.good in
    let compared = compare spelling IsInRange one_step h.good.steps h'.good.steps rest rest' (steps_range h.good.prefix h.good.steps h.good.good)
    (steps_range h'.good.prefix h'.good.steps h'.good.good) body in
    let same = both_stop h.good.steps h'.good.steps rest rest' compared (inside_stops offset place rest f inside)
    (inside_stops offset place' rest' g inside') in
    let len = ap length same in
    let is = h.distance_is in
    let is' = h'.distance_is in
    same_inside offset place place' rest rest' f g (omega arith) same inside inside'

-- no bytes have two faults of an item
pub one_kind : (version : Version) (so_far offset : ℕ) (bytes : List ℕ) (f g : Fault) → Kinds version so_far offset bytes f
    → Kinds version so_far offset bytes g →
    f ≡ g
one_kind version so_far offset bytes f g (inl (is, bad)) (inl (is', bad')) = is ∙ sym is'
one_kind version so_far offset bytes f g (inl (is, bad)) (inr (inl (is', cut))) = absurd (bad_or_cut version bytes bad cut)
one_kind version so_far offset bytes f g (inl (is, bad)) (inr (inr (inl (place, rest, h, inside)))) = absurd (bad_or_open version bytes rest place bad h)
one_kind version so_far offset bytes f g (inl (is, bad)) (inr (inr (inr (is', (i, x, starts, long))))) = absurd (bad_or_item version bytes i x bad starts)
one_kind version so_far offset bytes f g (inr (inl (is, cut))) (inl (is', bad)) = absurd (bad_or_cut version bytes bad cut)
one_kind version so_far offset bytes f g (inr (inl (is, cut))) (inr (inl (is', cut'))) = is ∙ sym is'
one_kind version so_far offset bytes f g (inr (inl (is, cut))) (inr (inr (inl (place, rest, h, inside)))) = absurd (cut_or_open version bytes rest place cut h)
one_kind version so_far offset bytes f g (inr (inl (is, cut))) (inr (inr (inr (is', (i, x, starts, long))))) = absurd (cut_or_item version bytes i x cut starts)
one_kind version so_far offset bytes f g (inr (inr (inl (place, rest, h, inside)))) (inl (is', bad)) = absurd (bad_or_open version bytes rest place bad h)
one_kind version so_far offset bytes f g (inr (inr (inl (place, rest, h, inside)))) (inr (inl (is', cut))) = absurd (cut_or_open version bytes rest place cut h)
one_kind version so_far offset bytes f g (inr (inr (inl inside))) (inr (inr (inl inside'))) = one_inside version offset bytes f g inside inside'
one_kind version so_far offset bytes f g (inr (inr (inl (place, rest, h, inside)))) (inr (inr (inr (is', (i, x, starts, long))))) =
    absurd (open_or_item version bytes rest place i x h (inside_stops offset place rest f inside) starts)
one_kind version so_far offset bytes f g (inr (inr (inr (is, (i, x, starts, long))))) (inl (is', bad)) = absurd (bad_or_item version bytes i x bad starts)
one_kind version so_far offset bytes f g (inr (inr (inr (is, (i, x, starts, long))))) (inr (inl (is', cut))) = absurd (cut_or_item version bytes i x cut starts)
one_kind version so_far offset bytes f g (inr (inr (inr (is, (i, x, starts, long))))) (inr (inr (inl (place, rest, h, inside)))) =
    absurd (open_or_item version bytes rest place i x h (inside_stops offset place rest g inside) starts)
one_kind version so_far offset bytes f g (inr (inr (inr (is, long)))) (inr (inr (inr (is', long')))) = is ∙ sym is'

-- nothing is left where an item has a fault
pub kind_at_end : (version : Version) (so_far offset : ℕ) (bytes : List ℕ) (f : Fault) → bytes ≡ [] → Kinds version so_far offset bytes f → ⊥
kind_at_end version so_far offset bytes f e (inl (is, inl (bad, none))) = never_at_end bytes e (inl bad)
kind_at_end version so_far offset bytes f e (inl (is, inr (allowed, (rest, prefix)))) = let l = ap length (sym e ∙ prefix) in absurd (omega arith)
kind_at_end version so_far offset bytes f e (inr (inl (is, inl cut))) = never_at_end bytes e (inr cut)
kind_at_end version so_far offset bytes f e (inr (inl (is, inr (allowed, (rest, prefix, short))))) = let l = ap length (sym e ∙ prefix) in absurd (omega arith)
kind_at_end version so_far offset bytes f e (inr (inr (inl (place, rest, h, inside)))) = let l = ap length (sym e ∙ h.whole) in absurd (omega arith)
kind_at_end version so_far offset bytes f e (inr (inr (inr (is, (i, x, (fits, prefix), long))))) = some_item_byte version i x fits (sym e ∙ prefix)
