-- A loop whose turns change cells of a flat memory, on any machine.
use Rattle.std.proofs.Common.{◌≡◌, ◌≢◌, ℕ, zero, suc, ◌+◌, ◌<◌, ◌≤◌, ⊎_elim, refl, sym, ap, ◌∙◌, subst, arith}
use Rattle.std.proofs.lemmas.Bool.{cases_eq}
use Rattle.vga_card.specs.Bus.{BusMeaning}
use Rattle.bios_services.specs.Plan.{Plan, run, each}
use Rattle.bios_screen.proofs.Base.Plans.{run_bind}
use Rattle.bios_screen.proofs.Base.Flat.{Leaves, set_same, set_other}
use Rattle.bios_screen.proofs.Base.Flat.{Changed, Edited, Turn, set_cell}

-- one cell is set
pub one_edit : {X : Type 0} (a : ℕ) (v : X) (c : ℕ → X) → Edited X (Unit {0}) (λ _. a) (λ _ x. v) c (set_cell c a v)
one_edit a v c = record { inside = λ h. set_same c a v a refl; outside = λ x o. set_other c a v x (o tt) }

-- one cell becomes a function of what it was
pub changed_edit : {X : Type 0} (a : ℕ) (G : X → X) (c : ℕ → X) → Edited X (Unit {0}) (λ _. a) (λ _ x. G x) c (set_cell c a (G (c a)))
changed_edit a G c = record { inside = λ h. set_same c a (G (c a)) a refl; outside = λ x o. set_other c a (G (c a)) x (o tt) }

-- the same cells are changed twice
pub edited_twice : {X H : Type 0} (at : H → ℕ) (F G : H → X → X) (a b c : ℕ → X) → Edited X H at F a b → Edited X H at G b c →
    Edited X H at (λ h x. G h (F h x)) a c
edited_twice at F G a b c p q = record { inside = λ h. q.inside h ∙ ap (G h) (p.inside h); outside = λ x o. q.outside x o ∙ p.outside x o }

module _ (S X : Type 0) (m : BusMeaning S) (f : ℕ → Plan (Unit {0})) (R : ℕ → S → (ℕ → X) → Type 0) (b e : ℕ) (H : ℕ → Type 0) (from at : (r : ℕ) → H r → ℕ)
    (F : (r : ℕ) → H r → X → X) (apart : (j k : ℕ) (g : H j) (h : H k) → b ≤ j → j < k → k < e → at j g ≢ at k h)
    (later : (j k : ℕ) (g : H j) (h : H k) → b ≤ j → j < k → k < e → from k h ≢ at j g)
    (turn : (r : ℕ) (s : S) (c : ℕ → X) → b ≤ r → r < e → R r s c → Leaves S X (R (r + 1)) (run m (f r) s).0 (Changed X (H r) (from r) (at r) (F r) c)) where
  -- n turns from i on, within b to e, if no earlier turn changes what a later one reads
  pub changes : (n i : ℕ) (s : S) (c : ℕ → X) → b ≤ i → i + n ≡ e → R i s c → Leaves S X (R e) (run m (each f n i) s).0
      (Changed X (Turn H i e) (λ h. from h.turn h.place) (λ h. at h.turn h.place) (λ h. F h.turn h.place) c)
  changes zero i s c lb l r =
      let z : i ≡ e = omega arith in
      record {
        cells = c;
        shown = subst (λ k. R k s c) z r;
        fact = record { inside = λ h. let hf = h.from in let hb = h.before in absurd (omega arith); outside = λ x o. refl };
      }
  changes (suc n) i s c lb l r =
      let Changes = Changed X (Turn H i e) (λ h. from h.turn h.place) (λ h. at h.turn h.place) (λ h. F h.turn h.place) c in
      let first = turn i s c lb (omega arith) r in
      let c1 = first.cells in
      let rest = changes n (i + 1) (run m (f i) s).0 c1 (omega arith) (omega arith) first.shown in
      let new = rest.cells in
      let here : (p : H i) → new (at i p) ≡ F i p (c (from i p)) = λ p. rest.fact.outside (at i p) (λ h q. let hf = h.from in
      apart i h.turn p h.place lb (omega arith) h.before q) ∙ first.fact.inside p in
      let after : (k : ℕ) (p : H k) → i < k → k < e → new (at k p) ≡ F k p (c (from k p)) = λ k p lo hi.
      rest.fact.inside (record { turn = k; from = omega arith; before = hi; place = p })
      ∙ ap (F k p) (first.fact.outside (from k p) (λ g q. later i k g p lb lo hi q)) in
      let any : (k : ℕ) (p : H k) → i ≤ k → k < e → new (at k p) ≡ F k p (c (from k p)) = λ k p lo hi. ⊎_elim
      (λ (z : i ≡ k). subst (λ j. (p : H j) → new (at j p) ≡ F j p (c (from j p))) z here p)
      (λ (n : i ≢ k). after k p (omega arith) hi)
      (cases_eq i k) in
      let all : Leaves S X (R e) (run m (each f n (i + 1)) (run m (f i) s).0).0 Changes =
      record {
        cells = new;
        shown = rest.shown;
        fact = record {
          inside = λ h. any h.turn h.place h.from h.before;
          outside = λ x o. rest.fact.outside x (λ h. let hf = h.from in o (record { turn = h.turn; from = omega arith; before = h.before; place = h.place }))
              ∙ first.fact.outside x (λ h. o (record { turn = i; from = omega arith; before = omega arith; place = h }));
        };
      } in
      subst (λ t. Leaves S X (R e) t.0 Changes)
      (sym (run_bind m (f i) (λ _. each f n (i + 1)) s)) all

-- turns that each read only the cells they change
module _ (S X : Type 0) (m : BusMeaning S) (f : ℕ → Plan (Unit {0})) (R : ℕ → S → (ℕ → X) → Type 0) (b e : ℕ) (H : ℕ → Type 0) (at : (r : ℕ) → H r → ℕ)
    (F : (r : ℕ) → H r → X → X) (apart : (j k : ℕ) (g : H j) (h : H k) → b ≤ j → j < k → k < e → at j g ≢ at k h)
    (turn : (r : ℕ) (s : S) (c : ℕ → X) → b ≤ r → r < e → R r s c → Leaves S X (R (r + 1)) (run m (f r) s).0 (Edited X (H r) (at r) (F r) c)) where
  pub edits : (n i : ℕ) (s : S) (c : ℕ → X) → b ≤ i → i + n ≡ e → R i s c → Leaves S X (R e) (run m (each f n i) s).0
      (Edited X (Turn H i e) (λ h. at h.turn h.place) (λ h. F h.turn h.place) c)
  edits = changes S X m f R b e H at at F apart (λ j k g h lb lo hi q. apart j k g h lb lo hi (sym q)) turn
