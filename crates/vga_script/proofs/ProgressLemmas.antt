-- Going over the bytes of a script.
use Rattle.std.proofs.Common.{◌≡◌, ◌≢◌, ℕ, ◌-◌, ◌<◌, ◌≤◌, ◌^◌, List, [], ◌∷◌, ◌++◌, length, length-append, drop, get_or, Option, None, refl, sym, ap, ◌∙◌}
use Rattle.std.proofs.Common.{subst, arith, append_assoc, append-nil, inl, inr}
use Rattle.std.specs.List.{flat_map}
use Rattle.std.proofs.lemmas.List.Concat.{flat_map-append}
use Rattle.byteorder.specs.Endian.{little_bytes, little_number}
use Rattle.vga_script.specs.declared.step.Step.{Step}
use Rattle.vga_script.specs.declared.fields.NoStep.{NoStep}
use Rattle.vga_script.specs.declared.fields.NoStep.TheVariants as no_step
use Rattle.vga_script.specs.declared.version.Version.TheVariants.{Two}
use Rattle.vga_script.specs.Decoding.{StartsWithBadStep, StartsWithCutStep}
use Rattle.vga_script.specs.Beginning.{step_of, steps_in, behind_steps, items_in}
use Rattle.vga_script.specs.Item.{Item, Once, Repeated, repeated, expanded, AreItemsOf}
use Rattle.vga_script.specs.Progress.{steps_left, IsOutsideRepeat, IsInsideRepeat, StandsInOrOutsideRepeat, IsEmptyOrBeginsWithStep, LeavesSameSteps}
use Rattle.vga_script.specs.Spelling.{opcode_repeat, opcode_end, spelling, item_spelling, StartsWithStep}
use Rattle.vga_script.specs.Step.{IsInRange, AreInRange}
use Rattle.vga_script.proofs.FieldLemmas.{two_back}
use Rattle.vga_script.proofs.GrammarLemmas.{step_back, some_byte, one_step, encoded_items}
use Rattle.vga_script.proofs.ItemLemmas.{repeated_none, repeated_zero, repeated_less, range-append}
use Rattle.vga_script.proofs.BeginningLemmas.{items_are, body_back, item_bytes}
use Rattle.vga_script.proofs.OptionLemmas.{just}
use Rattle.vga_script.proofs.StopLemmas.{step_starts}

-- the items of a script are read back
items_back : (items : List Item) → AreItemsOf Two items → items_in (flat_map item_spelling items) ≡ items
items_back items fit = items_are Two (flat_map item_spelling items) items (encoded_items Two items fit)

-- the bytes of a repeat after its opcode, and what follows it
block_bytes : (count : ℕ) (steps : List Step) (x : List ℕ) → item_spelling (Repeated count steps)
    ++ x ≡ opcode_repeat ∷ (little_bytes 2 count ++ (flat_map spelling steps ++ opcode_end ∷ x))
block_bytes count steps x = ap (λ (l : List ℕ). opcode_repeat ∷ (little_bytes 2 count ++ l)) (append_assoc (flat_map spelling steps) (opcode_end ∷ []) x)

-- ---- what a mark is

-- a step that is there and is not
is_none : (o : Option (Step × List ℕ)) (p : Step × List ℕ) → o ≡ just p → o ≡ None → ⊥
is_none o p e n = absurd (cc)

-- no step begins with the opcode of a repeat, or of its end
pub no_repeat : (step : Step) (x y : List ℕ) → IsInRange step → spelling step ++ x ≡ opcode_repeat ∷ y → ⊥
no_repeat step x y fits e = is_none (step_of (spelling step ++ x)) (step, x) (step_back step x fits) (ap step_of e)

pub no_end : (step : Step) (x y : List ℕ) → IsInRange step → spelling step ++ x ≡ opcode_end ∷ y → ⊥
no_end step x y fits e = is_none (step_of (spelling step ++ x)) (step, x) (step_back step x fits) (ap step_of e)

-- the two marks are two
apart : (xs ys : List ℕ) → opcode_repeat ∷ xs ≡ opcode_end ∷ ys → ⊥
apart xs ys e = let same : opcode_repeat ≡ opcode_end = ap (λ (l : List ℕ). get_or l 0 0) e in absurd (omega arith)

-- something stands before the end of a repeat
not_none : (xs ys : List ℕ) → [] ≡ xs ++ opcode_end ∷ ys → ⊥
not_none [] ys e = absurd (cc)
not_none (x ∷ xs) ys e = absurd (cc)

joined : (done todo : List Step) (tail : List ℕ) → flat_map spelling done ++ (flat_map spelling todo ++ tail) ≡ flat_map spelling (done ++ todo) ++ tail
joined done todo tail = sym (append_assoc (flat_map spelling done) (flat_map spelling todo) tail)
    ∙ ap (λ (l : List ℕ). l ++ tail) (sym (flat_map-append spelling done todo))

-- ---- the steps that are left

pub outside_left : (left : ℕ) (body rest : List ℕ) (items : List Item) → AreItemsOf Two items → body ≡ [] → rest ≡ flat_map item_spelling items →
    steps_left left body rest ≡ expanded items
unfolding steps_left
outside_left left body rest items fit none e = ap (λ (b : List ℕ). steps_left left b rest) none ∙ ap (λ (r : List ℕ). expanded (items_in r)) e
    ∙ ap expanded (items_back items fit)

pub inside_left : (left : ℕ) (body rest : List ℕ) (done todo : List Step) (items : List Item) → AreInRange done → AreInRange todo → AreItemsOf Two items
    → body ≡ flat_map spelling done ++ (flat_map spelling todo ++ opcode_end ∷ flat_map item_spelling items) → rest ≡ flat_map spelling todo
    ++ opcode_end ∷ flat_map item_spelling items
    → steps_left left body rest ≡ todo ++ (repeated left (done ++ todo) ++ expanded items)
unfolding steps_left
inside_left left [] rest done todo items fd ft fit all e = absurd (not_none (flat_map spelling (done ++ todo)) (flat_map item_spelling items) (all
    ∙ joined done todo (opcode_end ∷ flat_map item_spelling items)))
inside_left left (b ∷ body) rest done todo items fd ft fit all e =
    let tail = flat_map item_spelling items in
    let here = body_back todo tail ft in
    let whole = body_back (done ++ todo) tail (range-append done todo fd ft) in
    let joined_bytes : (b ∷ body) ≡ flat_map spelling (done ++ todo) ++ opcode_end ∷ tail = all ∙ joined done todo (opcode_end ∷ tail) in
    let first : steps_in rest ≡ todo = ap steps_in e ∙ here.0 in
    let behind : behind_steps rest ≡ opcode_end ∷ tail = ap behind_steps e ∙ here.1 in
    let again : steps_in (b ∷ body) ≡ done ++ todo = ap steps_in joined_bytes ∙ whole.0 in
    ap (λ (l : List Step). l ++ (repeated left (steps_in (b ∷ body)) ++ expanded (items_in (drop 1 (behind_steps rest))))) first
    ∙ ap (λ (l : List Step). todo ++ (repeated left l ++ expanded (items_in (drop 1 (behind_steps rest))))) again
    ∙ ap (λ (l : List ℕ). todo ++ (repeated left (done ++ todo) ++ expanded (items_in (drop 1 l)))) behind
    ∙ ap (λ (l : List Item). todo ++ (repeated left (done ++ todo) ++ expanded l)) (items_back items fit)

-- the same of a place
out_left : (left : ℕ) (body rest : List ℕ) (h : IsOutsideRepeat body rest) → steps_left left body rest ≡ expanded h.items
out_left left body rest h = outside_left left body rest h.items h.fit h.none h.spelled

in_left : (left : ℕ) (body rest : List ℕ) (h : IsInsideRepeat body rest) → steps_left left body rest ≡ h.todo
    ++ (repeated left (h.done ++ h.todo) ++ expanded h.items)
in_left left body rest h = inside_left left body rest h.done h.todo h.items h.done_fit h.todo_fit h.fit h.all h.spelled

-- ---- a step is taken

pub outside_step : (rest others : List ℕ) (step : Step) (items : List Item) → AreItemsOf Two items → rest ≡ flat_map item_spelling items →
    StartsWithStep rest step others
    → (more : List Item) × (items ≡ Once step ∷ more) × AreItemsOf Two more × (others ≡ flat_map item_spelling more)
outside_step rest others step [] fit e (fits, w) = absurd (some_byte step others fits (sym w ∙ e))
outside_step rest others step (Once s ∷ items) (f, fs) e (fits, w) =
    let one = one_step s step (flat_map item_spelling items) others f fits (sym e ∙ w) in
    (items, ap (λ (x : Step). Once x ∷ items) one.0, fs, sym one.1)
outside_step rest others step (Repeated c ss ∷ items) (f, fs) e (fits, w) = absurd
    (no_repeat step others _ fits (sym w ∙ e ∙ block_bytes c ss (flat_map item_spelling items)))

inside_step : (rest others tail : List ℕ) (step : Step) (todo : List Step) → AreInRange todo → rest ≡ flat_map spelling todo ++ opcode_end ∷ tail →
    StartsWithStep rest step others
    → (more : List Step) × (todo ≡ step ∷ more) × AreInRange more × (others ≡ flat_map spelling more ++ opcode_end ∷ tail)
inside_step rest others tail step [] fit e (fits, w) = absurd (no_end step others _ fits (sym w ∙ e))
inside_step rest others tail step (s ∷ todo) (f, fs) e (fits, w) =
    let one = one_step s step (flat_map spelling todo ++ opcode_end ∷ tail) others f fits
    (sym (append_assoc (spelling s) (flat_map spelling todo) (opcode_end ∷ tail)) ∙ sym e ∙ w) in
    (todo, ap (λ (x : Step). x ∷ todo) one.0, fs, sym one.1)

-- a step is done
done_more : (step : Step) (body rest others : List ℕ) (h : IsInsideRepeat body rest) (more : List Step) → h.todo ≡ step ∷ more → AreInRange more → IsInRange step
    → others ≡ flat_map spelling more ++ opcode_end ∷ flat_map item_spelling h.items → IsInsideRepeat body others
done_more step body rest others h more e fs fit w = record {
  done = h.done ++ step ∷ [];
  todo = more;
  items = h.items;
  some = let l = length-append h.done (step ∷ []) in omega arith;
  done_fit = range-append h.done (step ∷ []) h.done_fit (fit, tt);
  todo_fit = fs;
  fit = h.fit;
  all = h.all ∙ joined h.done h.todo (opcode_end ∷ flat_map item_spelling h.items)
      ∙ ap (λ (l : List Step). flat_map spelling l ++ opcode_end ∷ flat_map item_spelling h.items) (ap (λ (l : List Step). h.done ++ l) e
      ∙ sym (append_assoc h.done (step ∷ []) more))
      ∙ sym (joined (h.done ++ step ∷ []) more (opcode_end ∷ flat_map item_spelling h.items));
  spelled = w;
}

pub step_taken : (left : ℕ) (body rest others : List ℕ) (step : Step) → StandsInOrOutsideRepeat body rest → StartsWithStep rest step others →
    (steps_left left body rest ≡ step ∷ steps_left left body others) × StandsInOrOutsideRepeat body others
unfolding done_more
step_taken left body rest others step (inl h) starts =
    let o = outside_step rest others step h.items h.fit h.spelled starts in (
      out_left left body rest h ∙ ap expanded o.1 ∙ ap (λ (l : List Step). step ∷ l) (sym (outside_left left body others o.0 o.2 h.none o.3)),
      inl (record { items = o.0; fit = o.2; none = h.none; spelled = o.3 }),
    )
step_taken left body rest others step (inr h) starts =
    let o = inside_step rest others (flat_map item_spelling h.items) step h.todo h.todo_fit h.spelled starts in
    let more = done_more step body rest others h o.0 o.1 o.2 starts.0 o.3 in (
      in_left left body rest h
          ∙ ap (λ (l : List Step). l ++ (repeated left (h.done ++ l) ++ expanded h.items)) o.1
          ∙ ap (λ (l : List Step). step ∷ (o.0 ++ (repeated left l ++ expanded h.items))) (sym (append_assoc h.done (step ∷ []) o.0))
          ∙ ap (λ (l : List Step). step ∷ l) (sym (in_left left body others more)),
      inr more,
    )

-- no repeat begins in a repeat
no_repeat_inside : (body rest others : List ℕ) (h : IsInsideRepeat body rest) → rest ≡ opcode_repeat ∷ others → ⊥
no_repeat_inside body rest others h is = inside h.todo h.todo_fit h.spelled
  where
    inside : (todo : List Step) → AreInRange todo → rest ≡ flat_map spelling todo ++ opcode_end ∷ flat_map item_spelling h.items → ⊥
    inside [] fit e = apart others (flat_map item_spelling h.items) (sym is ∙ e)
    inside (s ∷ todo) (f, fs) e = no_repeat s _ others f (sym (append_assoc (spelling s) (flat_map spelling todo) _) ∙ sym e ∙ is)

-- where the end stands first there are no steps
pub no_steps : (steps : List Step) (tail inner after : List ℕ) → AreInRange steps → inner ≡ flat_map spelling steps ++ opcode_end ∷ tail →
    inner ≡ opcode_end ∷ after → (steps ≡ []) × (after ≡ tail)
no_steps [] tail inner after fit e is = let both : opcode_end ∷ after ≡ opcode_end ∷ tail = sym is ∙ e in (refl, cc)
no_steps (s ∷ steps) tail inner after (f, fs) e is = absurd (no_end s _ after f (sym (append_assoc (spelling s) (flat_map spelling steps) (opcode_end ∷ tail))
    ∙ sym e ∙ is))

-- ---- a repeat begins

-- its count is there
pub repeat_there : (rest others inner : List ℕ) (count : ℕ) (items : List Item) → AreItemsOf Two items → rest ≡ flat_map item_spelling items →
    rest ≡ opcode_repeat ∷ others → others ≡ little_bytes 2 count ++ inner → count < 2 ^ 16
    → (steps : List Step) × (more : List Item) × (items ≡ Repeated count steps ∷ more) × AreItemsOf Two items × AreItemsOf Two more
    × (inner ≡ flat_map spelling steps ++ opcode_end ∷ flat_map item_spelling more)
repeat_there rest others inner count [] fit e is w small = let bad : [] ≡ opcode_repeat ∷ others = sym e ∙ is in absurd (cc)
repeat_there rest others inner count (Once s ∷ items) (f, fs) e is w small = absurd (no_repeat s _ others f (sym e ∙ is))
repeat_there rest others inner count (Repeated c ss ∷ items) (f, fs) e is w small =
    let body = flat_map spelling ss ++ opcode_end ∷ flat_map item_spelling items in
    let both : opcode_repeat ∷ (little_bytes 2 c ++ body) ≡ opcode_repeat ∷ (little_bytes 2 count ++ inner) =
    sym (block_bytes c ss (flat_map item_spelling items)) ∙ sym e ∙ is ∙ ap (λ (l : List ℕ). opcode_repeat ∷ l) w in
    let fields : little_bytes 2 c ++ body ≡ little_bytes 2 count ++ inner = cc in
    let same : c ≡ count = sym (two_back c body f.2) ∙ ap (little_number 2) fields ∙ two_back count inner small in
    (ss, items, ap (λ (n : ℕ). Repeated n ss ∷ items) same, (f, fs), fs, sym (ap (drop 2) fields))

pub room_for_count : (body rest others : List ℕ) → StandsInOrOutsideRepeat body rest → rest ≡ opcode_repeat ∷ others → 2 ≤ length others
room_for_count body rest others (inl h) is = room h.items h.fit h.spelled
  where
    room : (items : List Item) → AreItemsOf Two items → rest ≡ flat_map item_spelling items → 2 ≤ length others
    room [] fit e = let bad : [] ≡ opcode_repeat ∷ others = sym e ∙ is in absurd (cc)
    room (Once s ∷ items) (f, fs) e = absurd (no_repeat s _ others f (sym e ∙ is))
    room (Repeated c ss ∷ items) (f, fs) e = let l = ap length (sym is ∙ e ∙ block_bytes c ss (flat_map item_spelling items)) in omega arith
room_for_count body rest others (inr h) is = absurd (no_repeat_inside body rest others h is)

-- a repeat of no steps is passed over
pub empty_repeat : (left : ℕ) (body rest others inner after : List ℕ) (count : ℕ) → StandsInOrOutsideRepeat body rest → rest ≡ opcode_repeat ∷ others →
    others ≡ little_bytes 2 count ++ inner → count < 2 ^ 16 → inner ≡ opcode_end ∷ after
    → LeavesSameSteps left body rest left body after
empty_repeat left body rest others inner after count (inr h) is w small ends = absurd (no_repeat_inside body rest others h is)
empty_repeat left body rest others inner after count (inl h) is w small ends =
    let b = repeat_there rest others inner count h.items h.fit h.spelled is w small in
    let none = no_steps b.0 (flat_map item_spelling b.1) inner after (subst (AreItemsOf Two) b.2 h.fit).0.3 b.5 ends in
    let e : steps_left left body rest ≡ expanded b.1 = out_left left body rest h ∙ ap expanded b.2
    ∙ ap (λ (l : List Step). repeated count l ++ expanded b.1) none.0 ∙ ap (λ (l : List Step). l ++ expanded b.1) (repeated_none count) in
    record {
      stands = inl (record { items = b.1; fit = b.4; none = h.none; spelled = none.1 });
      same = outside_left left body after b.1 b.4 h.none none.1
          ∙ sym e;
    }

-- steps of which there are some
some_steps : (steps : List Step) (tail inner : List ℕ) → inner ≡ flat_map spelling steps ++ opcode_end ∷ tail →
    ((after : List ℕ) → inner ≢ opcode_end ∷ after) → 0 < length steps
some_steps [] tail inner e other = absurd (other tail e)
some_steps (s ∷ steps) tail inner e other = omega arith

-- a step stands before steps and an end
step_first : (steps : List Step) (tail rest : List ℕ) → 0 < length steps → AreInRange steps → rest ≡ flat_map spelling steps ++ opcode_end ∷ tail →
    IsEmptyOrBeginsWithStep rest
step_first [] tail rest some fit e = absurd (omega arith)
step_first (s ∷ steps) tail rest some (f, fs) e = inr (
  s,
  flat_map spelling steps ++ opcode_end ∷ tail,
  (f, e ∙ append_assoc (spelling s) (flat_map spelling steps) (opcode_end ∷ tail)),
)

-- a repeat of some steps begins
pub repeat_begins : (left : ℕ) (body rest others inner : List ℕ) (count : ℕ) → StandsInOrOutsideRepeat body rest → rest ≡ opcode_repeat ∷ others → others ≡ little_bytes 2 count
    ++ inner → count < 2 ^ 16 → ((after : List ℕ) → inner ≢ opcode_end ∷ after)
    → (0 < count) × LeavesSameSteps left body rest (count - 1) inner inner × IsEmptyOrBeginsWithStep inner
repeat_begins left body rest others inner count (inr h) is w small other = absurd (no_repeat_inside body rest others h is)
repeat_begins left body rest others inner count (inl h) is w small other =
    let b = repeat_there rest others inner count h.items h.fit h.spelled is w small in
    let fit = (subst (AreItemsOf Two) b.2 h.fit).0 in
    let some = some_steps b.0 (flat_map item_spelling b.1) inner b.5 other in
    let inside : IsInsideRepeat inner inner = record {
      done = [];
      todo = b.0;
      items = b.1;
      some = omega arith;
      done_fit = tt;
      todo_fit = fit.3;
      fit = b.4;
      all = b.5;
      spelled = b.5;
    } in
    let e : steps_left left body rest ≡ b.0 ++ (repeated (count - 1) b.0 ++ expanded b.1) =
    out_left left body rest h ∙ ap expanded b.2 ∙ ap (λ (l : List Step). l ++ expanded b.1) (repeated_less count b.0 fit.1)
    ∙ append_assoc b.0 (repeated (count - 1) b.0) (expanded b.1) in (
      fit.1,
      record { stands = inr inside; same = in_left (count - 1) inner inner inside ∙ sym e },
      step_first b.0 (flat_map item_spelling b.1) inner some fit.3 b.5,
    )

-- ---- a repeat ends

-- all its steps are done
all_done : (todo : List Step) (tail rest others : List ℕ) → AreInRange todo → rest ≡ flat_map spelling todo ++ opcode_end ∷ tail → rest ≡ opcode_end ∷ others →
    (todo ≡ []) × (others ≡ tail)
all_done todo tail rest others fit e is = no_steps todo tail rest others fit e is

-- and no repeat ends outside of one
no_end_outside : (items : List Item) (rest others : List ℕ) → AreItemsOf Two items → rest ≡ flat_map item_spelling items → rest ≡ opcode_end ∷ others → ⊥
no_end_outside [] rest others fit e is = let bad : [] ≡ opcode_end ∷ others = sym e ∙ is in absurd (cc)
no_end_outside (Once s ∷ items) rest others (f, fs) e is = no_end s _ others f (sym e ∙ is)
no_end_outside (Repeated c ss ∷ items) rest others (f, fs) e is = apart _ others (sym (block_bytes c ss (flat_map item_spelling items)) ∙ sym e ∙ is)

-- it was the last time
pub repeat_ends : (body rest others none : List ℕ) → StandsInOrOutsideRepeat body rest → rest ≡ opcode_end ∷ others → none ≡ [] → LeavesSameSteps 0 body rest 0 none others
repeat_ends body rest others none (inl h) is bare = absurd (no_end_outside h.items rest others h.fit h.spelled is)
repeat_ends body rest others none (inr h) is bare =
    let d = all_done h.todo (flat_map item_spelling h.items) rest others h.todo_fit h.spelled is in
    let e : steps_left 0 body rest ≡ expanded h.items =
    in_left 0 body rest h ∙ ap (λ (l : List Step). l ++ (repeated 0 (h.done ++ l) ++ expanded h.items)) d.0
    ∙ ap (λ (l : List Step). l ++ expanded h.items) (repeated_zero (h.done ++ [])) in
    record {
      stands = inl (record { items = h.items; fit = h.fit; none = bare; spelled = d.1 });
      same = outside_left 0 none others h.items h.fit bare d.1
          ∙ sym e;
    }

-- it is taken again
pub repeat_again : (left : ℕ) (body rest others : List ℕ) → StandsInOrOutsideRepeat body rest → rest ≡ opcode_end ∷ others → 0 < left →
    LeavesSameSteps left body rest (left - 1) body body × IsEmptyOrBeginsWithStep body
repeat_again left body rest others (inl h) is some = absurd (no_end_outside h.items rest others h.fit h.spelled is)
repeat_again left body rest others (inr h) is some =
    let d = all_done h.todo (flat_map item_spelling h.items) rest others h.todo_fit h.spelled is in
    let n = ap (λ (l : List Step). length l) d.0 in
    let has = h.some in
    let long : 0 < length h.done = omega arith in
    let all : body ≡ flat_map spelling h.done ++ opcode_end ∷ flat_map item_spelling h.items = h.all
    ∙ ap (λ (l : List Step). flat_map spelling h.done ++ (flat_map spelling l ++ opcode_end ∷ flat_map item_spelling h.items)) d.0 in
    let inside : IsInsideRepeat body body = record {
      done = [];
      todo = h.done;
      items = h.items;
      some = omega arith;
      done_fit = tt;
      todo_fit = h.done_fit;
      fit = h.fit;
      all = all;
      spelled = all;
    } in
    let e : steps_left left body rest ≡ h.done ++ (repeated (left - 1) h.done ++ expanded h.items) =
    in_left left body rest h
    ∙ ap (λ (l : List Step). l ++ (repeated left (h.done ++ l) ++ expanded h.items)) d.0
    ∙ ap (λ (l : List Step). repeated left l ++ expanded h.items) (append-nil h.done)
    ∙ ap (λ (l : List Step). l ++ expanded h.items) (repeated_less left h.done some)
    ∙ append_assoc h.done (repeated (left - 1) h.done) (expanded h.items) in (
      record { stands = inr inside; same = in_left (left - 1) body body inside ∙ sym e },
      step_first h.done (flat_map item_spelling h.items) body long h.done_fit all,
    )

-- ---- what else stands there

-- nothing, or a step
first_outside : (items : List Item) (rest : List ℕ) → AreItemsOf Two items → rest ≡ flat_map item_spelling items →
    ((others : List ℕ) → rest ≢ opcode_repeat ∷ others) → IsEmptyOrBeginsWithStep rest
first_outside [] rest fit e other = inl e
first_outside (Once s ∷ items) rest (f, fs) e other = inr (s, flat_map item_spelling items, (f, e))
first_outside (Repeated c ss ∷ items) rest (f, fs) e other = absurd (other _ (e ∙ block_bytes c ss (flat_map item_spelling items)))

first_inside : (todo : List Step) (tail rest : List ℕ) → AreInRange todo → rest ≡ flat_map spelling todo ++ opcode_end ∷ tail →
    ((others : List ℕ) → rest ≢ opcode_end ∷ others) → IsEmptyOrBeginsWithStep rest
first_inside [] tail rest fit e other = absurd (other tail e)
first_inside (s ∷ todo) tail rest (f, fs) e other = step_first (s ∷ todo) tail rest (omega arith) (f, fs) e

pub no_mark : (body rest others : List ℕ) (opcode : ℕ) → StandsInOrOutsideRepeat body rest → rest ≡ opcode ∷ others → opcode ≢ opcode_repeat → opcode ≢ opcode_end →
    IsEmptyOrBeginsWithStep rest
no_mark body rest others opcode (inl h) is no_repeat no_end =
    first_outside h.items rest h.fit h.spelled (λ x e. let both : opcode ∷ others ≡ opcode_repeat ∷ x = sym is
    ∙ e in let same : opcode ≡ opcode_repeat = cc in no_repeat same)
no_mark body rest others opcode (inr h) is no_repeat no_end =
    first_inside h.todo (flat_map item_spelling h.items) rest h.todo_fit h.spelled (λ x e. let both : opcode ∷ others ≡ opcode_end ∷ x = sym is
    ∙ e in let same : opcode ≡ opcode_end = cc in no_end same)

-- a place is reached through another
pub through : (left : ℕ) (body rest : List ℕ) (left_then : ℕ) (body_then rest_then : List ℕ) (left_there : ℕ) (body_there rest_there : List ℕ) →
    LeavesSameSteps left body rest left_then body_then rest_then → LeavesSameSteps left_then body_then rest_then left_there body_there rest_there
    → LeavesSameSteps left body rest left_there body_there rest_there
through left body rest left_then body_then rest_then left_there body_there rest_there p q = record { stands = q.stands; same = q.same ∙ p.same }

pub stays : (left : ℕ) (body rest : List ℕ) → StandsInOrOutsideRepeat body rest → LeavesSameSteps left body rest left body rest
stays left body rest h = record { stands = h; same = refl }

-- a repeat is not taken again
pub ends_last : (left : ℕ) (body rest others none : List ℕ) → left ≤ 0 → StandsInOrOutsideRepeat body rest → rest ≡ opcode_end ∷ others → none ≡ [] →
    LeavesSameSteps left body rest left none others
ends_last left body rest others none few h is bare =
    let e : 0 ≡ left = omega arith in
    subst (λ (n : ℕ). LeavesSameSteps n body rest n none others) e (repeat_ends body rest others none h is bare)

-- ---- nothing is left

no_items : (items : List Item) (rest : List ℕ) → AreItemsOf Two items → rest ≡ flat_map item_spelling items → length rest ≡ 0 → items ≡ []
no_items [] rest fit e none = refl
no_items (i ∷ items) rest (f, fs) e none = let l = item_bytes i in let k = ap length e
    ∙ length-append (item_spelling i) (flat_map item_spelling items) in absurd (omega arith)

pub none_left : (left : ℕ) (body rest : List ℕ) → StandsInOrOutsideRepeat body rest → length rest ≡ 0 → steps_left left body rest ≡ []
none_left left body rest (inl h) none = out_left left body rest h ∙ ap expanded (no_items h.items rest h.fit h.spelled none)
none_left left body rest (inr h) none =
    let l = ap length h.spelled in
    let k = length-append (flat_map spelling h.todo) (opcode_end ∷ flat_map item_spelling h.items) in
    absurd (omega arith)

-- a step that stands at the prefix is found
pub is_found : (rest : List ℕ) (reason : NoStep) → IsEmptyOrBeginsWithStep rest → 0 < length rest → (reason ≡ no_step.Bad → StartsWithBadStep rest) →
    (reason ≡ no_step.Cut → StartsWithCutStep rest) → ⊥
is_found rest reason (inl none) some bad cut = let l = ap length none in absurd (omega arith)
is_found rest no_step.Bad (inr (step, others, (fits, e))) some bad cut = step_starts step others rest fits e (inl (bad refl))
is_found rest no_step.Cut (inr (step, others, (fits, e))) some bad cut = step_starts step others rest fits e (inr (cut refl))
