-- What reading gives is what the words spell.
use Rattle.std.proofs.Common.{◌≡◌, ℕ, ◌^◌, ◌<◌, ◌⊎◌, Bool, true, false, cond, List, [], ◌∷◌, ◌++◌, length, take, drop, Some, Result, Ok, Err, refl, sym}
use Rattle.std.proofs.Common.{ap, ◌∙◌, subst, arith, inl, inr, codes, nat_le, nat_lt, ◌&&◌}
use Rattle.std.specs.Char.{to_ascii_lowercase}
use Rattle.std.specs.Str.{bytes_eq}
use Rattle.std.proofs.lemmas.Slice.Eq.{bytes_eq-Decides}
use Rattle.std.proofs.lemmas.List.{take_at, drop_at, take-append-drop, length-map, take-map}
use Rattle.hex.specs.Hex.{decode_of}
use Rattle.hex.specs.declared.error.FromHexError.{FromHexError}
use Rattle.hex.proofs.HexLemmas.{decode_of-ok}
use Rattle.vga_script.specs.declared.step.Step.{Step}
use Rattle.vga_script.specs.declared.step.Step.TheVariants.{Out, OutWord, In, InWord, Put, PutWord, Get, GetWord, Int, Advance, Frame, Show}
use Rattle.vga_script.specs.declared.keyword.Keyword.{Keyword}
use Rattle.vga_script.specs.declared.keyword.Keyword.TheVariants as keyword
use Rattle.vga_script.specs.Tokens.{in_lower_case}
use Rattle.vga_script.specs.Text.{keyword_of, SpellsFields, SpellsRegister, SpellsBytes, SpellsBlock}
use Rattle.vga_script.specs.StepReading.{◌>>=◌, hex_number_of, only_hex_number, only_two_hex_numbers, only_decimal_number, no_word_left, next_register, decoded, block_bytes_of_word, only_block_digits, block_at, read_bios_call}
use Rattle.vga_script.specs.StepReading.{read_shown, step_of_keyword}
use Rattle.vga_script.proofs.OptionLemmas.{bind_ok, guard_ok, and_ok, and_true, some_is, le_test, le_passes, lt_test, lt_passes}
use Rattle.vga_script.proofs.NumberLemmas.{hex_below, hex_reads, spells_hex, one_hex_reads, spells_one_hex, two_hex_reads, spells_two_hex, one_decimal_reads}
use Rattle.vga_script.proofs.NumberLemmas.{spells_one_decimal, ended_ok, then_words}
use Rattle.vga_script.proofs.ShownLemmas.{shown_reads, spells_shown}

-- a word that is this name
same_word : (w name : List ℕ) → in_lower_case w ≡ name → bytes_eq (in_lower_case w) name ≡ true
same_word w name e = (bytes_eq-Decides (in_lower_case w) name).1 e

-- ---- registers

-- a register's words and what is known of the words after them
after : (ws a rest known : List (List ℕ)) → ws ≡ a ++ rest → rest ≡ known → ws ≡ a ++ known
after ws a rest known e f = e ∙ ap (λ (l : List (List ℕ)). a ++ l) f

-- the name of a register has three bytes
prefix_long : (w name : List ℕ) → in_lower_case w ≡ name → length name ≡ 3 → length w ≡ 3
prefix_long w name e three = sym (length-map w to_ascii_lowercase) ∙ ap length e ∙ three

-- a register that is spelled is read, and others are passed over
spells_register : (name : List ℕ) (a : List (List ℕ)) (v : ℕ) (rest : List (List ℕ)) → length name ≡ 3 → SpellsRegister name a v →
    next_register name rest ≡ Some (0, rest) → next_register name (a ++ rest) ≡ Some (v, rest)
unfolding next_register
spells_register name a v rest three (inl (none, nought)) skips = rw (none, nought) skips
spells_register name a v rest three (inr (prefix, digits, e, named, hex)) skips =
    let len = prefix_long prefix name named three in
    let below = hex_below 4 digits v hex in
    rw (e, take_at prefix digits 3 len, drop_at prefix digits 3 len, same_word prefix name named, spells_hex 4 0xFFFF digits v hex (omega arith)) refl

skips_register : (name other : List ℕ) (b : List (List ℕ)) (v : ℕ) (rest : List (List ℕ)) → length other ≡ 3 → bytes_eq other name ≡ false →
    SpellsRegister other b v → next_register name rest ≡ Some (0, rest) → next_register name (b ++ rest) ≡ Some (0, b ++ rest)
unfolding next_register
skips_register name other b v rest three differ (inl (none, nought)) skips = rw none skips
skips_register name other b v rest three differ (inr (prefix, digits, e, named, hex)) skips =
    let len = prefix_long prefix other named three in
    rw (e, take_at prefix digits 3 len, named, differ) refl

skips_repeat : (name : List ℕ) (e : List (List ℕ)) (block : List ℕ) → bytes_eq (codes "blo") name ≡ false → SpellsBlock e block →
    next_register name e ≡ Some (0, e)
unfolding next_register
skips_repeat name e block differ (inl (none, empty)) = rw none refl
skips_repeat name e block differ (inr (prefix, digits, is, named, some, short, spelled)) =
    let three : in_lower_case (take 3 prefix) ≡ codes "blo" = sym (take-map to_ascii_lowercase 3 prefix) ∙ ap (take 3) named in
    rw (is, three, differ) refl

-- the two ways of a test
chosen : {A : Type 0} (b : Bool) (x y z : A) → cond b x y ≡ z → ((b ≡ true) × (x ≡ z)) ⊎ ((b ≡ false) × (y ≡ z))
chosen true x y z e = inl (refl, e)
chosen false x y z e = inr (refl, e)

-- a prefix that is a register
abbrev HasRegister : List ℕ → List (List ℕ) → (ℕ × List (List ℕ)) → Type 0
HasRegister name ws x = (a : List (List ℕ)) × (ws ≡ a ++ x.1) × SpellsRegister name a x.0

by_test : (name w : List ℕ) (ws : List (List ℕ)) (x : ℕ × List (List ℕ)) → ((bytes_eq (in_lower_case (take 3 w)) name ≡ true)
    × ((hex_number_of 4 0xFFFF (drop 3 w) >>= λ n. Some (n, ws)) ≡ Some x)) ⊎ ((bytes_eq (in_lower_case (take 3 w)) name ≡ false) × (Some (0, w ∷ ws) ≡ Some x)) →
    HasRegister name (w ∷ ws) x
by_test name w ws x (inl (holds, read)) =
    let b = bind_ok (hex_number_of 4 0xFFFF (drop 3 w)) (λ n. Some (n, ws)) x read in
    let named = (bytes_eq-Decides (in_lower_case (take 3 w)) name).0 holds in
    let hex = hex_reads 4 0xFFFF (drop 3 w) b.0 b.1 in
    subst (HasRegister name (w ∷ ws)) (some_is (b.0, ws) x b.2)
    ((take 3 w ++ drop 3 w) ∷ [], ap (λ (v : List ℕ). v ∷ ws) (sym (take-append-drop 3 w)), inr (take 3 w, drop 3 w, refl, named, hex.0))
by_test name w ws x (inr (fails, same)) = subst (HasRegister name (w ∷ ws)) (some_is (0, w ∷ ws) x same) ([], refl, inl (refl, refl))

-- a register that is read is spelled
register_reads : (name : List ℕ) (ws : List (List ℕ)) (x : ℕ × List (List ℕ)) → next_register name ws ≡ Some x → HasRegister name ws x
unfolding next_register
register_reads name [] x e = subst (HasRegister name []) (some_is (0, []) x e) ([], refl, inl (refl, refl))
register_reads name (w ∷ ws) x e =
    by_test name w ws x (chosen (bytes_eq (in_lower_case (take 3 w)) name) (hex_number_of 4 0xFFFF (drop 3 w) >>= λ n. Some (n, ws)) (Some (0, w ∷ ws)) (Some x) e)

-- ---- blocks

-- digits that were decoded
decoded_ok : (r : Result (List ℕ) FromHexError) (bytes : List ℕ) → decoded r ≡ Some bytes → r ≡ Ok bytes
decoded_ok (Ok x) bytes e = ap (λ (l : List ℕ). Ok l) (some_is x bytes e)
decoded_ok (Err x) bytes e = absurd (cc)

-- the digits of a block that were read are spelled, and those that are spelled are read
bytes_read : (w block : List ℕ) → block_bytes_of_word w ≡ Some block → (0 < length block) × (length block < 2 ^ 16) × SpellsBytes w block
unfolding block_bytes_of_word
bytes_read w block e =
    let g = guard_ok (nat_lt 0 (length w) && nat_le (length w) 131070) (decoded (decode_of w)) block e in
    let t = and_ok (nat_lt 0 (length w)) (nat_le (length w) 131070) g.0 in
    let read = decoded_ok (decode_of w) block g.1 in
    let some = lt_test 0 (length w) t.0 in
    let most = le_test (length w) 131070 t.1 in
    let l = (decode_of-ok w block read).2 in
    (omega arith, omega arith, read)

spells_bytes : (w block : List ℕ) → 0 < length block → length block < 2 ^ 16 → SpellsBytes w block → block_bytes_of_word w ≡ Some block
unfolding block_bytes_of_word
spells_bytes w block some short read =
    let l = (decode_of-ok w block read).2 in
    let test = and_true (nat_lt 0 (length w)) (nat_le (length w) 131070) (lt_passes _ _ (omega arith)) (le_passes _ _ (omega arith)) in
    rw (test, read) refl

-- and no other word follows
digits_read : (ws : List (List ℕ)) (block : List ℕ) → only_block_digits ws ≡ Some block → (d : List ℕ) × (ws ≡ d ∷ []) × (0 < length block) × (length block < 2 ^ 16)
    × SpellsBytes d block
unfolding only_block_digits
digits_read [] block e = absurd (cc)
digits_read (w ∷ ws) block e =
    let b = bind_ok (block_bytes_of_word w) (λ x. no_word_left ws >>= λ u. Some x) block e in
    let c = ended_ok ws (Some b.0) block b.2 in
    let r = bytes_read w block (b.1 ∙ c.1) in
    (w, then_words (w ∷ ws) w ws [] refl c.0, r.0, r.1, r.2)

-- the same of a whole block
block_reads : (ws : List (List ℕ)) (block : List ℕ) → block_at ws ≡ Some block → SpellsBlock ws block
unfolding block_at
block_reads [] block e = inl (refl, sym (some_is [] block e))
block_reads (w ∷ ws) block e =
    let g = guard_ok (bytes_eq (in_lower_case w) (codes "block")) (only_block_digits ws) block e in
    let d = digits_read ws block g.1 in
    inr (w, d.0, then_words (w ∷ ws) w ws (d.0 ∷ []) refl d.1, (bytes_eq-Decides (in_lower_case w) (codes "block")).0 g.0, d.2, d.3, d.4)

spells_block : (ws : List (List ℕ)) (block : List ℕ) → SpellsBlock ws block → block_at ws ≡ Some block
unfolding block_at only_block_digits no_word_left
spells_block ws block (inl (none, empty)) = rw (none, empty) refl
spells_block ws block (inr (name, digits, e, named, some, short, spelled)) =
    rw (e, same_word name (codes "block") named, spells_bytes digits block some short spelled) refl

-- ---- steps

-- the words after this name spell this step
abbrev Found : Keyword → List (List ℕ) → Step → Type 0
Found k ws s = (keyword_of s ≡ k) × SpellsFields ws s

-- two steps that are one
found : (k : Keyword) (ws : List (List ℕ)) (s t : Step) → s ≡ t → Found k ws s → Found k ws t
found k ws s t e h = subst (Found k ws) e h

int_found : (ws : List (List ℕ)) (ax bx cx dx : ℕ) (block : List ℕ) (s : Step) → Int ax bx cx dx block ≡ s → SpellsFields ws (Int ax bx cx dx block) →
    Found keyword.Int ws s
int_found ws ax bx cx dx block s e h = found keyword.Int ws (Int ax bx cx dx block) s e (refl, h)

-- a call that is read is spelled
int_reads : (ws : List (List ℕ)) (s : Step) → read_bios_call ws ≡ Some s → Found keyword.Int ws s
unfolding read_bios_call
int_reads ws s e =
    let a = bind_ok (next_register (codes "ax=") ws) (λ a. next_register (codes "bx=") a.1 >>= λ b. next_register (codes "cx=") b.1
    >>= λ c. next_register (codes "dx=") c.1 >>= λ d. block_at d.1 >>= λ x. Some (Int a.0 b.0 c.0 d.0 x)) s e in
    let b = bind_ok (next_register (codes "bx=") a.0.1) (λ b. next_register (codes "cx=") b.1 >>= λ c. next_register (codes "dx=") c.1 >>= λ d. block_at d.1
    >>= λ x. Some (Int a.0.0 b.0 c.0 d.0 x)) s a.2 in
    let c = bind_ok (next_register (codes "cx=") b.0.1) (λ c. next_register (codes "dx=") c.1 >>= λ d. block_at d.1
    >>= λ x. Some (Int a.0.0 b.0.0 c.0 d.0 x)) s b.2 in
    let d = bind_ok (next_register (codes "dx=") c.0.1) (λ d. block_at d.1 >>= λ x. Some (Int a.0.0 b.0.0 c.0.0 d.0 x)) s c.2 in
    let x = bind_ok (block_at d.0.1) (λ x. Some (Int a.0.0 b.0.0 c.0.0 d.0.0 x)) s d.2 in
    let ra = register_reads (codes "ax=") ws a.0 a.1 in
    let rb = register_reads (codes "bx=") a.0.1 b.0 b.1 in
    let rc = register_reads (codes "cx=") b.0.1 c.0 c.1 in
    let rd = register_reads (codes "dx=") c.0.1 d.0 d.1 in
    let block = block_reads d.0.1 x.0 x.1 in
    int_found ws a.0.0 b.0.0 c.0.0 d.0.0 x.0 s (some_is (Int a.0.0 b.0.0 c.0.0 d.0.0 x.0) s x.2) (
      ra.0,
      rb.0,
      rc.0,
      rd.0,
      d.0.1,
      after ws ra.0 a.0.1 (rb.0 ++ (rc.0 ++ (rd.0 ++ d.0.1))) ra.1
          (after a.0.1 rb.0 b.0.1 (rc.0 ++ (rd.0 ++ d.0.1)) rb.1 (after b.0.1 rc.0 c.0.1 (rd.0 ++ d.0.1) rc.1 rd.1)),
      ra.2,
      rb.2,
      rc.2,
      rd.2,
      block,
    )

-- what is read is spelled
pub read_spells : (k : Keyword) (ws : List (List ℕ)) (s : Step) → step_of_keyword k ws ≡ Some s → Found k ws s
unfolding step_of_keyword
read_spells keyword.Out ws s e =
    let r = bind_ok (only_two_hex_numbers 4 0xFFFF 2 0xFF ws) (λ n. Some (Out n.0 n.1)) s e in
    found keyword.Out ws (Out r.0.0 r.0.1) s (some_is (Out r.0.0 r.0.1) s r.2) (refl, two_hex_reads 4 0xFFFF 2 0xFF ws r.0 r.1)
read_spells keyword.OutWord ws s e =
    let r = bind_ok (only_two_hex_numbers 4 0xFFFF 4 0xFFFF ws) (λ n. Some (OutWord n.0 n.1)) s e in
    found keyword.OutWord ws (OutWord r.0.0 r.0.1) s (some_is (OutWord r.0.0 r.0.1) s r.2) (refl, two_hex_reads 4 0xFFFF 4 0xFFFF ws r.0 r.1)
read_spells keyword.In ws s e =
    let r = bind_ok (only_hex_number 4 0xFFFF ws) (λ n. Some (In n)) s e in
    found keyword.In ws (In r.0) s (some_is (In r.0) s r.2) (refl, one_hex_reads 4 0xFFFF ws r.0 r.1)
read_spells keyword.InWord ws s e =
    let r = bind_ok (only_hex_number 4 0xFFFF ws) (λ n. Some (InWord n)) s e in
    found keyword.InWord ws (InWord r.0) s (some_is (InWord r.0) s r.2) (refl, one_hex_reads 4 0xFFFF ws r.0 r.1)
read_spells keyword.Put ws s e =
    let r = bind_ok (only_two_hex_numbers 8 0xFFFF_FFFF 2 0xFF ws) (λ n. Some (Put n.0 n.1)) s e in
    found keyword.Put ws (Put r.0.0 r.0.1) s (some_is (Put r.0.0 r.0.1) s r.2) (refl, two_hex_reads 8 0xFFFF_FFFF 2 0xFF ws r.0 r.1)
read_spells keyword.PutWord ws s e =
    let r = bind_ok (only_two_hex_numbers 8 0xFFFF_FFFF 4 0xFFFF ws) (λ n. Some (PutWord n.0 n.1)) s e in
    found keyword.PutWord ws (PutWord r.0.0 r.0.1) s (some_is (PutWord r.0.0 r.0.1) s r.2) (refl, two_hex_reads 8 0xFFFF_FFFF 4 0xFFFF ws r.0 r.1)
read_spells keyword.Get ws s e =
    let r = bind_ok (only_hex_number 8 0xFFFF_FFFF ws) (λ n. Some (Get n)) s e in
    found keyword.Get ws (Get r.0) s (some_is (Get r.0) s r.2) (refl, one_hex_reads 8 0xFFFF_FFFF ws r.0 r.1)
read_spells keyword.GetWord ws s e =
    let r = bind_ok (only_hex_number 8 0xFFFF_FFFF ws) (λ n. Some (GetWord n)) s e in
    found keyword.GetWord ws (GetWord r.0) s (some_is (GetWord r.0) s r.2) (refl, one_hex_reads 8 0xFFFF_FFFF ws r.0 r.1)
read_spells keyword.Int ws s e = int_reads ws s e
read_spells keyword.Advance ws s e =
    let r = bind_ok (only_decimal_number 0xFFFF_FFFF ws) (λ n. Some (Advance n)) s e in
    let d = one_decimal_reads 0xFFFF_FFFF ws r.0 r.1 in
    let below = d.3 in
    found keyword.Advance ws (Advance r.0) s (some_is (Advance r.0) s r.2) (refl, (d.0, d.1, d.2, omega arith))
read_spells keyword.Frame ws s e =
    let c = ended_ok ws (Some Frame) s e in
    found keyword.Frame ws Frame s (some_is Frame s c.1) (refl, c.0)
read_spells keyword.Show ws s e =
    let r = bind_ok (read_shown ws) (λ what. Some (Show what)) s e in
    found keyword.Show ws (Show r.0) s (some_is (Show r.0) s r.2) (refl, shown_reads ws r.0 r.1)

-- a call that is spelled is read
int_spells : (ws : List (List ℕ)) (ax bx cx dx : ℕ) (block : List ℕ) → SpellsFields ws (Int ax bx cx dx block) → read_bios_call ws ≡ Some (Int ax bx cx dx block)
unfolding read_bios_call
int_spells ws ax bx cx dx block (a, b, c, d, x, e, ha, hb, hc, hd, hx) =
    let ra = spells_register (codes "ax=") a ax (b ++ (c ++ (d ++ x))) refl ha
    (skips_register (codes "ax=") (codes "bx=") b bx (c ++ (d ++ x)) refl refl hb
    (skips_register (codes "ax=") (codes "cx=") c cx (d ++ x) refl refl hc
    (skips_register (codes "ax=") (codes "dx=") d dx x refl refl hd (skips_repeat (codes "ax=") x block refl hx)))) in
    let rb = spells_register (codes "bx=") b bx (c ++ (d ++ x)) refl hb
    (skips_register (codes "bx=") (codes "cx=") c cx (d ++ x) refl refl hc
    (skips_register (codes "bx=") (codes "dx=") d dx x refl refl hd (skips_repeat (codes "bx=") x block refl hx))) in
    let rc = spells_register (codes "cx=") c cx (d ++ x) refl hc
    (skips_register (codes "cx=") (codes "dx=") d dx x refl refl hd (skips_repeat (codes "cx=") x block refl hx)) in
    let rd = spells_register (codes "dx=") d dx x refl hd (skips_repeat (codes "dx=") x block refl hx) in
    rw (e, ra, rb, rc, rd, spells_block x block hx) refl

-- and what is spelled is read
pub spells_read : (ws : List (List ℕ)) (s : Step) → SpellsFields ws s → step_of_keyword (keyword_of s) ws ≡ Some s
unfolding step_of_keyword no_word_left
spells_read ws (Out port value) h = rw (spells_two_hex 4 0xFFFF 2 0xFF ws port value h (omega arith) (omega arith)) refl
spells_read ws (OutWord port value) h = rw (spells_two_hex 4 0xFFFF 4 0xFFFF ws port value h (omega arith) (omega arith)) refl
spells_read ws (In port) h = rw (spells_one_hex 4 0xFFFF ws port h (omega arith)) refl
spells_read ws (InWord port) h = rw (spells_one_hex 4 0xFFFF ws port h (omega arith)) refl
spells_read ws (Put address value) h = rw (spells_two_hex 8 0xFFFF_FFFF 2 0xFF ws address value h (omega arith) (omega arith)) refl
spells_read ws (PutWord address value) h = rw (spells_two_hex 8 0xFFFF_FFFF 4 0xFFFF ws address value h (omega arith) (omega arith)) refl
spells_read ws (Get address) h = rw (spells_one_hex 8 0xFFFF_FFFF ws address h (omega arith)) refl
spells_read ws (GetWord address) h = rw (spells_one_hex 8 0xFFFF_FFFF ws address h (omega arith)) refl
spells_read ws (Int ax bx cx dx block) h = int_spells ws ax bx cx dx block h
spells_read ws (Advance dots) (word, e, numeral, below) = rw (e, spells_one_decimal 0xFFFF_FFFF word dots numeral (omega arith)) refl
spells_read ws Frame none = rw none refl
spells_read ws (Show what) h = rw (spells_shown ws what h) refl
