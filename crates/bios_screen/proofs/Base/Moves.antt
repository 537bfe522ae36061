-- Loops that move cells of a flat memory, on any machine, in either order.
use Rattle.std.proofs.Common.{◌≡◌, ◌≢◌, ℕ, zero, suc, ◌+◌, ◌-◌, ◌<◌, ◌≤◌, refl, sym, ap, ◌∙◌, subst, arith}
use Rattle.vga_card.specs.Bus.{BusMeaning}
use Rattle.bios_services.specs.Plan.{Plan, run, each, each_down, ◌>>=◌}
use Rattle.bios_screen.proofs.Base.Edits.{changes}
use Rattle.bios_screen.proofs.Base.Flat.{Leaves, set_same, set_other}
use Rattle.bios_screen.proofs.Base.Flat.{Moved, Turn, set_cell}

-- one cell is moved
pub one_move : {X : Type 0} (a b : ℕ) (c : ℕ → X) → Moved X (Unit {0}) (λ _. a) (λ _. b) c (set_cell c b (c a))
one_move a b c = record { inside = λ h. set_same c b (c a) b refl; outside = λ x o. set_other c b (c a) x (o tt) }

-- turns in descending order are renumbered turns in ascending order
down_is : (f : ℕ → Plan (Unit {0})) (n i k t : ℕ) → i + n + k ≡ t → each_down f n i ≡ each (λ j. f (t - suc j)) n k
down_is f zero i k t q = refl
down_is f (suc n) i k t q =
    let e : i + n ≡ t - suc k = omega arith in
    ap (λ x. f x >>= λ _. each_down f n i) e ∙ ap (λ p. f (t - suc k) >>= λ _. p) (down_is f n i (k + 1) t (omega arith))

module _ (S X : Type 0) (m : BusMeaning S) (f : ℕ → Plan (Unit {0})) (R : S → (ℕ → X) → Type 0) (b e : ℕ) (H : ℕ → Type 0) (from to : (r : ℕ) → H r → ℕ)
    (apart : (j k : ℕ) (g : H j) (h : H k) → b ≤ j → j < k → k < e → to j g ≢ to k h)
    (turn : (r : ℕ) (s : S) (c : ℕ → X) → b ≤ r → r < e → R s c → Leaves S X R (run m (f r) s).0 (Moved X (H r) (from r) (to r) c)) where
  -- in ascending order, if no later source is an earlier target
  pub moves_up : (later : (j k : ℕ) (g : H j) (h : H k) → b ≤ j → j < k → k < e → from k h ≢ to j g) (n i : ℕ) (s : S) (c : ℕ → X) → b ≤ i → i + n ≡ e → R s c →
      Leaves S X R (run m (each f n i) s).0 (Moved X (Turn H i e) (λ h. from h.turn h.place) (λ h. to h.turn h.place) c)
  moves_up later = changes S X m f (λ _. R) b e H from to (λ _ _ x. x) apart later turn

  -- in descending order, if no lower source is a higher target
  pub moves_down : (later : (j k : ℕ) (g : H j) (h : H k) → b ≤ j → j < k → k < e → from j g ≢ to k h) (n i : ℕ) (s : S) (c : ℕ → X) → b ≤ i → i + n ≤ e →
      R s c → Leaves S X R (run m (each_down f n i) s).0 (Moved X (Turn H i (i + n)) (λ h. from h.turn h.place) (λ h. to h.turn h.place) c)
  moves_down later n i s c lb l r =
      let t = i + n in
      let back : ℕ → ℕ = λ j. t - suc j in
      let down = changes S X m (λ j. f (back j)) (λ _. R) 0 n (λ j. H (back j)) (λ j. from (back j)) (λ j. to (back j)) (λ _ _ x. x)
      (λ j k g h lj lo hi q. apart (back k) (back j) h g (omega arith) (omega arith) (omega arith) (sym q))
      (λ j k g h lj lo hi. later (back k) (back j) h g (omega arith) (omega arith) (omega arith))
      (λ j x g lj hi u. turn (back j) x g (omega arith) (omega arith) u) n 0 s c (omega arith) (omega arith) r in
      subst (λ p. Leaves S X R (run m p s).0 (Moved X (Turn H i (i + n)) (λ h. from h.turn h.place) (λ h. to h.turn h.place) c))
      (sym (down_is f n i 0 t (omega arith))) (record {
        cells = down.cells;
        shown = down.shown;
        fact = record {
          inside = λ h.
              let lf = h.from in
              let hb = h.before in
              let twice : back (back h.turn) ≡ h.turn = omega arith in
              subst (λ k. (p : H k) → down.cells (to k p) ≡ c (from k p)) twice (λ p. down.fact.inside (record {
                turn = back h.turn;
                from = omega arith;
                before = omega arith;
                place = p;
              })) h.place;
          outside = λ x o. down.fact.outside x (λ h. let hb = h.before in o (record {
            turn = back h.turn;
            from = omega arith;
            before = omega arith;
            place = h.place;
          }));
        };
      })
