-- A loop that writes bytes in pieces, and one text after another.
use Rattle.std.proofs.Common.{arith, ◌||◌, ◌&&◌, ◌==◌, nat_lt, ◌≡◌, ℕ, Bool, false, List, [], ◌∷◌, ◌++◌, Option, Some, None, Result, Ok, Err, refl, sym, ap}
use Rattle.std.proofs.Common.{◌∙◌, append_assoc, append-nil, take, drop, subst, take-append-drop}
use Rattle.std.proofs.lemmas.Bool.Decides.{nat_tests}
use Rattle.std.specs.Io.KnownBytes.{Appends, Keeps}
use Rattle.std.proofs.KnownBytes.{Appends-nil, Appends-trans, Appends-kept}
use Rattle.vga_bits.specs.declared.fault.Fault.{Fault}
use Rattle.vga_bits.specs.Tracked.{AppendsPrefix, WritesWholeOrPrefix}

-- of all the bytes the rest is still to be written
pub record Written (old new : Option (List ℕ)) (failed : Bool) (all rest : List ℕ) : Type 0 where
  pub done : List ℕ
  pub whole : all ≡ done ++ rest
  pub appended : Appends old new done
  pub sound : failed ≡ false

pub written_none : (old : Option (List ℕ)) (failed : Bool) (all : List ℕ) → failed ≡ false → Written old old failed all all
written_none old failed all e = record { done = []; whole = refl; appended = Appends-nil old; sound = e }

pub written_more : (old mid new : Option (List ℕ)) (was failed : Bool) (all rest : List ℕ) (n : ℕ) → Written old mid was all rest
    → Appends mid new (take n rest) → failed ≡ false → Written old new failed all (drop n rest)
written_more old mid new was failed all rest n w a e = record {
  done = w.done ++ take n rest;
  whole = w.whole ∙ ap (λ l. w.done ++ l) (sym (take-append-drop n rest)) ∙ sym (append_assoc w.done (take n rest) (drop n rest));
  appended = Appends-trans old mid new w.done (take n rest) w.appended a;
  sound = e;
}

pub written_all : (old new : Option (List ℕ)) (failed : Bool) (all rest : List ℕ) → Written old new failed all rest → rest ≡ [] → Appends old new all
written_all old new failed all rest w e = subst (Appends old new) (sym (w.whole ∙ ap (λ l. w.done ++ l) e ∙ append-nil w.done)) w.appended

pub written_prefix : (old mid new : Option (List ℕ)) (failed : Bool) (all rest : List ℕ) → Written old mid failed all rest → Keeps mid new →
    AppendsPrefix old new all
written_prefix old mid new failed all rest w k = (w.done, rest, w.whole, Appends-kept old mid new w.done w.appended k)

pub written_prefix_nothing : (old mid new : Option (List ℕ)) (failed : Bool) (all rest : List ℕ) → Written old mid failed all rest → Appends mid new [] →
    AppendsPrefix old new all
written_prefix_nothing old mid new failed all rest w a = (
  w.done,
  rest,
  w.whole,
  subst (Appends old new) (append-nil w.done)
      (Appends-trans old mid new w.done [] w.appended a),
)

-- a write that takes some bytes has not failed
pub took_some : (was now : Bool) (n len : ℕ) → now ≡ (was || ((n == 0) && nat_lt 0 len)) → was ≡ false → (n ≡ 0 → ⊥) → now ≡ false
took_some was now n len e sound some = grind (arith, nat_tests)

-- where the bytes stay, nothing is written
pub kept_is_nothing : (old new : Option (List ℕ)) → Keeps old new → Appends old new []
kept_is_nothing None new k = tt
kept_is_nothing (Some x) None k = absurd k
kept_is_nothing (Some x) (Some y) k = k ∙ sym (append-nil x)

-- of some bytes none is written
pub prefix_is_none : (old new : Option (List ℕ)) (all : List ℕ) → Keeps old new → AppendsPrefix old new all
prefix_is_none old new all k = ([], all, refl, kept_is_nothing old new k)

pub prefix_is_nothing : (old new : Option (List ℕ)) (all : List ℕ) → Appends old new [] → AppendsPrefix old new all
prefix_is_nothing old new all a = ([], all, refl, a)

-- ---- one text after another

-- a prefix of the first text is a prefix of both
pub prefix_of_more : (old new : Option (List ℕ)) (first second : List ℕ) → AppendsPrefix old new first → AppendsPrefix old new (first ++ second)
prefix_of_more old new first second (prefix, back, parts, a) = (prefix, back ++ second, ap (λ (l : List ℕ). l ++ second) parts ∙ append_assoc prefix back second, a)

-- after the first text, a call writes the second
pub writes_after : {U : Type 0} (old mid new : Option (List ℕ)) (failed : Bool) (result : Result U Fault) (first second : List ℕ)
    → Appends old mid first → WritesWholeOrPrefix mid new failed result second → WritesWholeOrPrefix old new failed result (first ++ second)
writes_after old mid new failed (Ok u) first second a w = (Appends-trans old mid new first second a w.0, w.1)
writes_after old mid new failed (Err e) first second a (is, bad, (prefix, back, parts, more)) = (
  is,
  bad,
  (first ++ prefix, back, ap (λ (l : List ℕ). first ++ l) parts ∙ simp append_assoc, Appends-trans old mid new first prefix a more),
)

-- a first call writes n of the bytes, and later calls write the rest
pub writes_rest : {U : Type 0} (old mid new : Option (List ℕ)) (failed : Bool) (result : Result U Fault) (all rest : List ℕ) (n : ℕ)
    → Appends old mid (take n all) → rest ≡ drop n all → WritesWholeOrPrefix mid new failed result rest → WritesWholeOrPrefix old new failed result all
writes_rest old mid new failed result all rest n a e w = subst (WritesWholeOrPrefix old new failed result) (take-append-drop n all)
    (writes_after old mid new failed result (take n all) (drop n all) a (subst (WritesWholeOrPrefix mid new failed result) e w))

-- after some bytes, a call writes nothing more
pub writes_more : {U : Type 0} (old mid new : Option (List ℕ)) (failed : Bool) (result : Result U Fault) (bytes : List ℕ) → Appends old mid bytes →
    WritesWholeOrPrefix mid new failed result [] → WritesWholeOrPrefix old new failed result bytes
writes_more old mid new failed (Ok u) bytes a w = (subst (Appends old new) (append-nil bytes) (Appends-trans old mid new bytes [] a w.0), w.1)
writes_more old mid new failed (Err e) bytes a (is, bad, ([], back, parts, more)) =
    (is, bad, (bytes ++ [], [], sym (simp append-nil), Appends-trans old mid new bytes [] a more))
writes_more old mid new failed (Err e) bytes a (is, bad, (x ∷ prefix, back, parts, more)) = absurd (cc)
