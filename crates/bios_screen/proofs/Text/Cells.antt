-- Text memory as one flat memory of cells, each a character and its attribute.
use Rattle.std.proofs.Common.{◌≡◌, ◌≢◌, ℕ, ◌+◌, ◌*◌, ◌%◌, ◌-◌, ◌<◌, ⊎_elim, refl, sym, ap, ◌∙◌, subst, arith, List, Bool, true, false}
use Rattle.std.specs.Prelude.{slice_index, ◌==◌, if◌then◌else◌}
use Rattle.std.proofs.lemmas.Bool.{cases_eq}
use Rattle.std.proofs.lemmas.Bool.Decides.{nat_tests}
use Rattle.vga_host.specs.Bounds.{IsHost}
use Rattle.bios_screen.proofs.Prelude.{card_meaning, CardState, Colouring, run, put, get, Done, ◌>>◌, Cell, cell_in}
use Rattle.bios_services.specs.Cells.{write_cell_plan}
use Rattle.bios_screen.specs.Step.{character_over}
use Rattle.bios_screen.proofs.Base.Flat.{set_cell, set_same, set_other}
use Rattle.bios_screen.proofs.Base.Setting.{setting}
use Rattle.bios_screen.proofs.Modes.TextModes.{Display, base_of, text_setting}
use Rattle.bios_screen.proofs.Text.Memory.{IsTextual, without_text, text_put}
use Rattle.bios_screen.proofs.Text.Reads.{text_get}

-- the cells of a memory of bytes
abbrev pub cells_of_bytes : (ℕ → ℕ) → ℕ → Cell
cells_of_bytes m k = (m (2 * k), m (2 * k + 1))

pub same_pair : {a b x y : ℕ} → a ≡ x → b ≡ y → (let p : Cell = (a, b) in p) ≡ (x, y)
same_pair {a} {b} {x} {y} e f = ap (λ n. let p : Cell = (n, b) in p) e ∙ ap (λ n. let p : Cell = (x, n) in p) f

-- an adapter in text, whose cell k is f k
pub record IsCells (disp : Display) (rest : CardState) (c : CardState) (f : ℕ → Cell) : Type 0 where
  pub bytes : ℕ → ℕ
  pub is : IsTextual disp rest c bytes
  pub cell : (k : ℕ) → k < 16384 → f k ≡ cells_of_bytes bytes k

-- an attribute is a byte
pub attribute_small : (disp : Display) (rest c : CardState) (f : ℕ → Cell) (k : ℕ) → k < 16384 → IsCells disp rest c f → (f k).1 < 256
attribute_small disp rest c f k l t = subst (λ (x : Cell). x.1 < 256) (sym (t.cell k l)) (t.is.small (2 * k + 1) (omega arith))

-- ---- a cell is written: its character, and then its attribute if one is given

both_put : (f : ℕ → Cell) (m : ℕ → ℕ) (k v a j : ℕ) → f j ≡ cells_of_bytes m j →
    set_cell f k (v, a) j ≡ cells_of_bytes (set_cell (set_cell m (2 * k) v) (2 * k + 1) a) j
both_put f m k v a j e =
    let n : ℕ → ℕ = set_cell m (2 * k) v in
    let x : Cell = (v, a) in
    ⊎_elim
    (λ (z : j ≡ k). set_same f k x j z ∙ sym (same_pair (set_other n (2 * k + 1) a (2 * j) (omega arith) ∙ set_same m (2 * k) v (2 * j) (omega arith))
    (set_same n (2 * k + 1) a (2 * j + 1) (omega arith))))
    (λ (w : j ≢ k). set_other f k x j w ∙ e
    ∙ sym (same_pair (set_other n (2 * k + 1) a (2 * j) (omega arith) ∙ set_other m (2 * k) v (2 * j) (omega arith))
    (set_other n (2 * k + 1) a (2 * j + 1) (omega arith) ∙ set_other m (2 * k) v (2 * j + 1) (omega arith))))
    (cases_eq j k)

-- if none is given, the attribute stays
kept_put : (m : ℕ → ℕ) (k v a w : ℕ) → a ≡ m (2 * k + 1) → set_cell (set_cell m (2 * k) v) (2 * k + 1) a w ≡ set_cell m (2 * k) v w
kept_put m k v a w e =
    let n : ℕ → ℕ = set_cell m (2 * k) v in
    ⊎_elim
    (λ (z : w ≡ 2 * k + 1). set_same n (2 * k + 1) a w z ∙ e ∙ ap m (sym z) ∙ sym (set_other m (2 * k) v w (omega arith)))
    (λ (o : w ≢ 2 * k + 1). set_other n (2 * k + 1) a w o)
    (cases_eq w (2 * k + 1))

pub cell_written : (disp : Display) (rest c : CardState) (f : ℕ → Cell) (at k v : ℕ) (colouring : Colouring) → at ≡ base_of disp + 2 * k → k < 16384 → v < 256 →
    colouring.colour < 256 → IsCells disp rest c f → IsCells disp rest (run card_meaning (write_cell_plan at v colouring) c).0
    (set_cell f k (character_over v colouring (f k)))
unfolding write_cell_plan
cell_written disp rest c f at k v colouring e l lv la t = by_test colouring.is_attribute
  where
    n : ℕ → ℕ
    n = set_cell t.bytes (2 * k) v

    c1 : CardState
    c1 = (run card_meaning (put at v) c).0

    first : IsTextual disp rest c1 n
    first = subst (λ a. IsTextual disp rest (run card_meaning (put a v) c).0 n) (sym e) (text_put disp rest c t.bytes (2 * k) v (omega arith) lv t.is)

    second : IsTextual disp rest (run card_meaning (put (at + 1) colouring.colour) c1).0 (set_cell n (2 * k + 1) colouring.colour)
    second =
        let there : base_of disp + (2 * k + 1) ≡ at + 1 = omega arith in
        subst (λ a. IsTextual disp rest (run card_meaning (put a colouring.colour) c1).0 (set_cell n (2 * k + 1) colouring.colour)) there
        (text_put disp rest c1 n (2 * k + 1) colouring.colour (omega arith) la first)

    by_test : (b : Bool) → IsCells disp rest (run card_meaning (put at v >> (if b then put (at + 1) colouring.colour else Done tt)) c).0
        (set_cell f k (let x : Cell = (v, if b then colouring.colour else (f k).1) in x))
    by_test false =
        let a = (f k).1 in
        let same : a ≡ t.bytes (2 * k + 1) = ap (λ (x : Cell). x.1) (t.cell k l) in
        record {
          bytes = n;
          is = first;
          cell = λ j h. both_put f t.bytes k v a j (t.cell j h) ∙ same_pair (kept_put t.bytes k v a (2 * j) same) (kept_put t.bytes k v a (2 * j + 1) same);
        }
    by_test true = record {
      bytes = set_cell n (2 * k + 1) colouring.colour;
      is = second;
      cell = λ j h. both_put f t.bytes k v colouring.colour j (t.cell j h);
    }

-- ---- a byte of a cell is read

pub record IsRead (disp : Display) (rest : CardState) (f : ℕ → Cell) (v : ℕ) (r : CardState × ℕ) : Type 0 where
  pub cells : IsCells disp rest r.0 f
  pub answer : r.1 ≡ v

pub character_get : (disp : Display) (rest c : CardState) (f : ℕ → Cell) (at k : ℕ) → at ≡ base_of disp + 2 * k → k < 16384 → IsCells disp rest c f →
    IsRead disp rest f (f k).0 (run card_meaning (get at) c)
character_get disp rest c f at k e l t =
    let a = text_get disp rest c t.bytes (2 * k) (omega arith) t.is in
    subst (λ x. IsRead disp rest f (f k).0 (run card_meaning (get x) c)) (sym e) (record {
      cells = record { bytes = t.bytes; is = a.text; cell = t.cell };
      answer = a.answer ∙ sym (ap (λ (x : Cell). x.0) (t.cell k l));
    })

pub attribute_get : (disp : Display) (rest c : CardState) (f : ℕ → Cell) (at k : ℕ) → at ≡ base_of disp + 2 * k → k < 16384 → IsCells disp rest c f →
    IsRead disp rest f (f k).1 (run card_meaning (get (at + 1)) c)
attribute_get disp rest c f at k e l t =
    let a = text_get disp rest c t.bytes (2 * k + 1) (omega arith) t.is in
    let there : base_of disp + (2 * k + 1) ≡ at + 1 = omega arith in
    subst (λ x. IsRead disp rest f (f k).1 (run card_meaning (get x) c)) there (record {
      cells = record { bytes = t.bytes; is = a.text; cell = t.cell };
      answer = a.answer ∙ sym (ap (λ (x : Cell). x.1) (t.cell k l));
    })

-- ---- the cells of the planes

-- two planes as one memory of bytes: even addresses are plane 0, odd ones plane 1
abbrev pub woven : List ℕ → List ℕ → ℕ → ℕ
woven p0 p1 w = if w % 2 == 0 then slice_index p0 w else slice_index p1 (w - 1)

pub woven_even : (p0 p1 : List ℕ) (q : ℕ) → slice_index p0 (2 * q) ≡ woven p0 p1 (2 * q)
woven_even p0 p1 q = let t : (2 * q % 2 == 0) ≡ true = grind (arith, nat_tests) in
    sym (ap (λ b. if b then slice_index p0 (2 * q) else slice_index p1 (2 * q - 1)) t)

pub woven_odd : (p0 p1 : List ℕ) (q : ℕ) → slice_index p1 (2 * q) ≡ woven p0 p1 (2 * q + 1)
woven_odd p0 p1 q =
    let t : ((2 * q + 1) % 2 == 0) ≡ false = grind (arith, nat_tests) in
    let z : 2 * q + 1 - 1 ≡ 2 * q = omega arith in
    sym (ap (λ b. if b then slice_index p0 (2 * q + 1) else slice_index p1 (2 * q + 1 - 1)) t ∙ ap (slice_index p1) z)

woven_small : (p0 p1 : List ℕ) (w : ℕ) → ((k : ℕ) → slice_index p0 k < 256) → ((k : ℕ) → slice_index p1 k < 256) → woven p0 p1 w < 256
woven_small p0 p1 w h k = by_test (w % 2 == 0)
  where
    by_test : (b : Bool) → (if b then slice_index p0 w else slice_index p1 (w - 1)) < 256
    by_test true = h w
    by_test false = k (w - 1)

-- an adapter in text has the bytes of its planes
pub has_bytes : (disp : Display) (c : CardState) → setting c ≡ text_setting disp → IsHost c.host →
    IsTextual disp (without_text c) c (woven c.host.memory.plane0 c.host.memory.plane1)
has_bytes disp c e z =
    let p0 = c.host.memory.plane0 in
    let p1 = c.host.memory.plane1 in
    record {
      mode = e;
      size0 = z.memory.size 0 (omega arith);
      size1 = z.memory.size 1 (omega arith);
      character = λ k l. woven_even p0 p1 k;
      attribute = λ k l. woven_odd p0 p1 k;
      small = λ w l. woven_small p0 p1 w (z.memory.bytes 0 (omega arith)) (z.memory.bytes 1 (omega arith));
      others = refl;
    }

-- an adapter in text has the cells of its planes
pub has_cells : (disp : Display) (c : CardState) → setting c ≡ text_setting disp → IsHost c.host →
    IsCells disp (without_text c) c (cell_in c.host.memory.plane0 c.host.memory.plane1)
has_cells disp c e z =
    let m = c.host.memory in
    record {
      bytes = woven m.plane0 m.plane1;
      is = has_bytes disp c e z;
      cell = λ k l. same_pair (woven_even m.plane0 m.plane1 k) (woven_odd m.plane0 m.plane1 k);
    }

-- conversely, cell k of the planes is f k
pub cells_are : (disp : Display) (rest c : CardState) (f : ℕ → Cell) (k : ℕ) → k < 16384 → IsCells disp rest c f →
    cell_in c.host.memory.plane0 c.host.memory.plane1 k ≡ f k
cells_are disp rest c f k l t = same_pair (t.is.character k l) (t.is.attribute k l) ∙ sym (t.cell k l)

-- ---- bytes and cells

pub bytes_are_cells : (disp : Display) (rest c : CardState) (m : ℕ → ℕ) → IsTextual disp rest c m → IsCells disp rest c (cells_of_bytes m)
bytes_are_cells disp rest c m t = record { bytes = m; is = t; cell = λ k l. refl }

-- two cells are the same if their bytes are
pub same_cell : (g f : ℕ → ℕ) (k q : ℕ) → ((j : ℕ) → j < 2 → g (2 * k + j) ≡ f (2 * q + j)) → cells_of_bytes g k ≡ cells_of_bytes f q
same_cell g f k q e =
    let zk : 2 * k + 0 ≡ 2 * k = omega arith in
    let zq : 2 * q + 0 ≡ 2 * q = omega arith in
    same_pair (ap g (sym zk) ∙ e 0 (omega arith) ∙ ap f zq) (e 1 (omega arith))

-- a cell with the bytes of a blank is a blank
pub blank_cell : (g : ℕ → ℕ) (colour k : ℕ) → ((j : ℕ) → j < 2 → g (2 * k + j) ≡ (if j == 0 then 0x20 else colour)) → cells_of_bytes g k ≡ (0x20, colour)
blank_cell g colour k e = let z : 2 * k + 0 ≡ 2 * k = omega arith in same_pair (ap g (sym z) ∙ e 0 (omega arith)) (e 1 (omega arith))
