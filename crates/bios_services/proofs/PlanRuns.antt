-- What plans leave, one after another and turn by turn.
use Rattle.std.proofs.Common.{◌≡◌, ℕ, zero, suc, ◌+◌, ◌-◌, ◌%◌, ◌==◌, ◌<◌, ◌≤◌, refl, sym, ap, ◌∙◌, arith, Bool, true, false, if◌then◌else◌, List, [], ◌∷◌}
use Rattle.std.proofs.Common.{◌++◌, take, set, length, append_assoc}
use Rattle.std.proofs.lemmas.List.{take_more_set, take_all, append-nil}
use Rattle.vga_card.specs.Bus.{BusMeaning, Place, AtAddress, even_or_odd_byte, after_puts, after_move, after_moves}
use Rattle.bios_services.specs.Plan.{Plan, Done, Write, Read, ◌>>=◌, run, read_byte_or_ff, put, move, each, each_down, fold, gather}

-- a plan and then another leaves what the other leaves after it
pub run_bind : {S A B : Type 0} (m : BusMeaning S) (p : Plan A) (f : A → Plan B) (s : S) → run m (p >>= f) s ≡ (let r = run m p s in run m (f r.1) r.0)
run_bind m (Done a) f s = refl
run_bind m (Write place v rest) f s = run_bind m rest f (m.write s place v).0
run_bind m (Read place rest) f s = let r = m.read s place in run_bind m (rest (read_byte_or_ff r.1)) f r.0

-- a plan keeps what each of its cycles keeps
pub run_keeps : {S A : Type 0} (m : BusMeaning S) (P : S → Type 0) → ((s : S) (place : Place) (v : ℕ) → P s → P (m.write s place v).0)
    → ((s : S) (place : Place) → P s → P (m.read s place).0) → (p : Plan A) (s : S) → P s → P (run m p s).0
run_keeps m P writes reads (Done a) s k = k
run_keeps m P writes reads (Write place v rest) s k = run_keeps m P writes reads rest (m.write s place v).0 (writes s place v k)
run_keeps m P writes reads (Read place rest) s k =
    let r = m.read s place in run_keeps m P writes reads (rest (read_byte_or_ff r.1)) r.0 (reads s place k)

-- the first of some turns, and then the others
pub run_each : {S : Type 0} (m : BusMeaning S) (f : ℕ → Plan (Unit {0})) (i e : ℕ) (s : S) → i < e →
    run m (each f (e - i) i) s ≡ run m (each f (e - (i + 1)) (i + 1)) (run m (f i) s).0
run_each m f i e s h =
    let n : e - i ≡ suc (e - (i + 1)) = omega arith in
    ap (λ k. run m (each f k i) s) n ∙ run_bind m (f i) (λ _. each f (e - (i + 1)) (i + 1)) s

-- a loop's step: what the turns from i on leave at s, those from i + 1 on leave at what turn i left
pub next_turn : {S : Type 0} (m : BusMeaning S) (f : ℕ → Plan (Unit {0})) (i e : ℕ) (s t : S) (r : S × Unit {0}) → i < e → t ≡ (run m (f i) s).0 →
    run m (each f (e - i) i) s ≡ r → run m (each f (e - (i + 1)) (i + 1)) t ≡ r
next_turn m f i e s t r h now before = ap (run m (each f (e - (i + 1)) (i + 1))) now ∙ sym (run_each m f i e s h) ∙ before

-- a descending loop's step: what the turns below i leave at s, those below i - 1 leave at what turn i - 1 left
pub next_down : {S : Type 0} (m : BusMeaning S) (f : ℕ → Plan (Unit {0})) (b i : ℕ) (s t : S) (r : S × Unit {0}) → b < i → t ≡ (run m (f (i - 1)) s).0 →
    run m (each_down f (i - b) b) s ≡ r → run m (each_down f (i - 1 - b) b) t ≡ r
next_down m f b i s t r h now before =
    let n : i - b ≡ suc (i - 1 - b) = omega arith in
    let k : b + (i - 1 - b) ≡ i - 1 = omega arith in
    ap (run m (each_down f (i - 1 - b) b)) (now ∙ ap (λ j. (run m (f j) s).0) (sym k))
    ∙ sym (ap (λ j. run m (each_down f j b) s) n ∙ run_bind m (f (b + (i - 1 - b))) (λ _. each_down f (i - 1 - b) b) s)
    ∙ before

-- a step of a loop that carries an answer: what the turns from i on leave and answer at s and x, those from i + 1 on do at
-- what turn i left and answered
pub next_answer : {S : Type 0} (m : BusMeaning S) (f : ℕ → ℕ → Plan ℕ) (i e : ℕ) (s t : S) (x y : ℕ) (r : S × ℕ) → i < e → (t, y) ≡ run m (f i x) s →
    run m (fold f (e - i) i x) s ≡ r → run m (fold f (e - (i + 1)) (i + 1) y) t ≡ r
next_answer {S} m f i e s t x y r h now before =
    let n : e - i ≡ suc (e - (i + 1)) = omega arith in
    ap (λ (p : S × ℕ). run m (fold f (e - (i + 1)) (i + 1) p.1) p.0) now
    ∙ sym (ap (λ k. run m (fold f k i x) s) n ∙ run_bind m (f i x) (λ y. fold f (e - (i + 1)) (i + 1) y) s)
    ∙ before

-- the first read, and then the others
gather_more : {S : Type 0} (m : BusMeaning S) (f : ℕ → Plan ℕ) (i e : ℕ) (s t : S) (x : ℕ) → i < e → (t, x) ≡ run m (f i) s →
    run m (gather f (e - i) i) s ≡ (let r = run m (gather f (e - (i + 1)) (i + 1)) t in (r.0, x ∷ r.1))
gather_more {S} m f i e s t x h now =
    let n : e - i ≡ suc (e - (i + 1)) = omega arith in
    let g : Plan (List ℕ) = gather f (e - (i + 1)) (i + 1) in
    ap (λ k. run m (gather f k i) s) n
    ∙ run_bind m (f i) (λ x. g >>= λ xs. Done (x ∷ xs)) s
    ∙ ap (λ (p : S × ℕ). run m (g >>= λ xs. Done (p.1 ∷ xs)) p.0) (sym now)
    ∙ run_bind m g (λ xs. Done (x ∷ xs)) t

-- the numbers so far, and those that are still to come
abbrev pub with_prefix : {S : Type 0} → List ℕ → S × List ℕ → S × List ℕ
with_prefix prefix r = (r.0, prefix ++ r.1)

-- a step of a loop that reads into the elements of a list
pub next_read : {S : Type 0} (m : BusMeaning S) (f : ℕ → Plan ℕ) (i e : ℕ) (s t : S) (x : ℕ) (into : List ℕ) (r : S × List ℕ) → i < e → i < length into →
    (t, x) ≡ run m (f i) s → with_prefix (take i into) (run m (gather f (e - i) i) s) ≡ r →
    with_prefix (take (i + 1) (set into i x)) (run m (gather f (e - (i + 1)) (i + 1)) t) ≡ r
next_read {S} m f i e s t x into r h l now before =
    let rest = run m (gather f (e - (i + 1)) (i + 1)) t in
    ap (λ xs. with_prefix xs rest) (take_more_set into i x l)
    ∙ ap (λ xs. let p : S × List ℕ = (rest.0, xs) in p) (append_assoc (take i into) (x ∷ []) rest.1)
    ∙ ap (with_prefix (take i into)) (sym (gather_more m f i e s t x h now))
    ∙ before

-- the end of such a loop: the list is what was read
pub all_read : {S : Type 0} (m : BusMeaning S) (f : ℕ → Plan ℕ) (i e : ℕ) (s : S) (into : List ℕ) (r : S × List ℕ) → e ≤ i → length into ≡ e →
    with_prefix (take i into) (run m (gather f (e - i) i) s) ≡ r → (s, into) ≡ r
all_read {S} m f i e s into r h l before =
    let n : e - i ≡ 0 = omega arith in
    let all = take_all i into (omega arith) in
    let same : into ≡ take i into ++ [] = sym (append-nil (take i into) ∙ all) in
    ap (λ xs. let p : S × List ℕ = (s, xs) in p) same ∙ ap (λ k. with_prefix (take i into) (run m (gather f k i) s)) (sym n) ∙ before

-- a run of writes leaves what their plan leaves
pub puts_run : {S : Type 0} (m : BusMeaning S) (first : ℕ) (f : ℕ → ℕ) (n i : ℕ) (s : S) →
    after_puts m first f n i s ≡ (run m (each (λ w. put (first + w) (f w)) n i) s).0
puts_run m first f zero i s = refl
puts_run m first f (suc n) i s = puts_run m first f n (i + 1) (m.write s (AtAddress (first + i)) (f i)).0

-- a run of moves leaves what their plan leaves
pub moves_run : {S : Type 0} (m : BusMeaning S) (from to n i : ℕ) (s : S) → after_moves m from to n i s ≡ (run m (each (λ w. move (from + w) (to + w)) n i) s).0
moves_run m from to zero i s = refl
moves_run m from to (suc n) i s = moves_run m from to n (i + 1) (after_move m (from + i) (to + i) s)

either_way : (d : Bool) (b : ℕ) → (if d then b else b) ≡ b
either_way true b = refl
either_way false b = refl

-- one byte is two equal bytes by turns
pub puts_same : {S : Type 0} (m : BusMeaning S) (first b n i : ℕ) (s : S) → (run m (each (λ w. put (first + w) (even_or_odd_byte b b w)) n i) s).0
    ≡ (run m (each (λ w. put (first + w) b) n i) s).0
puts_same m first b n i s = λ j. (run m (each (λ w. put (first + w) (either_way (w % 2 == 0) b j)) n i) s).0
