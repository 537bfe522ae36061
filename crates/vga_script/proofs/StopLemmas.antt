-- A step begins some bytes, or is bad there, or cut off.
use Rattle.std.proofs.Common.{◌≡◌, ◌⊎◌, ℕ, ◌+◌, ◌<◌, ◌≤◌, List, [], ◌∷◌, ◌++◌, length, length-append, drop, Some, None, arith, sym, ap, ◌∙◌, subst, inl, inr}
use Rattle.byteorder.specs.Endian.{little_bytes, little_number}
use Rattle.vga_script.specs.declared.step.Step.{Step}
use Rattle.vga_script.specs.declared.step.Step.TheVariants.{Out, OutWord, In, InWord, Put, PutWord, Get, GetWord, Int, Advance, Frame, Show}
use Rattle.vga_script.specs.declared.dump_range.Shown.{Shown}
use Rattle.vga_script.specs.declared.dump_range.Shown.TheVariants as shown
use Rattle.vga_script.specs.DumpRange.{operand_bytes_of_show}
use Rattle.vga_script.specs.Step.{IsInRange}
use Rattle.vga_script.specs.Beginning.{step_of}
use Rattle.vga_script.specs.Spelling.{opcode_out, opcode_out_word, opcode_in, opcode_in_word, opcode_put, opcode_put_word, opcode_get, opcode_get_word}
use Rattle.vga_script.specs.Spelling.{opcode_int, opcode_advance, opcode_frame, opcode_show, spelling}
use Rattle.vga_script.specs.Decoding.{dump_len, fields_len, StartsWithBadStep, StartsWithCutStep}
use Rattle.vga_script.proofs.FieldLemmas.{two_back}
use Rattle.vga_script.proofs.OptionLemmas.{just, some_is}
use Rattle.vga_script.proofs.GrammarLemmas.{step_back, plane_back}

-- this is an opcode, and its fields are all there
abbrev HasFields : ℕ → List ℕ → Type 0
HasFields opcode rest = (n : ℕ) × (fields_len opcode rest ≡ Some n) × (n ≤ length rest)

-- then they are not cut off
not_cut : (opcode : ℕ) (rest : List ℕ) (needed : ℕ) → HasFields opcode rest → fields_len opcode rest ≡ Some needed → length rest < needed → ⊥
not_cut opcode rest needed (n, has, room) is short = let same : needed ≡ n = some_is needed n (sym is ∙ has) in absurd (omega arith)

-- what is shown is of a kind, and its fields are all there, in range or not
has_shown : (what : Shown) (x rest : List ℕ) → rest ≡ operand_bytes_of_show what ++ x → HasFields opcode_show rest
has_shown shown.Registers x rest e = (1, ap dump_len e, let l = ap length e in omega arith)
has_shown (shown.Dac index) x rest e = (2, ap dump_len e, let l = ap length e in omega arith)
has_shown shown.Beam x rest e = (1, ap dump_len e, let l = ap length e in omega arith)
has_shown shown.Latches x rest e = (1, ap dump_len e, let l = ap length e in omega arith)
has_shown (shown.Plane plane offset count) x rest e = (6, ap dump_len e, let l = ap length e in omega arith)
has_shown shown.BiosData x rest e = (1, ap dump_len e, let l = ap length e in omega arith)
has_shown shown.Cells x rest e = (1, ap dump_len e, let l = ap length e in omega arith)

-- so is a dump of it
has_dump : (what : Shown) (x : List ℕ) (opcode : ℕ) (rest : List ℕ) → spelling (Show what) ++ x ≡ opcode ∷ rest → HasFields opcode rest
has_dump what x opcode rest e =
    let first : opcode_show ≡ opcode = cc in
    let tail : rest ≡ operand_bytes_of_show what ++ x = cc in
    subst (λ (o : ℕ). HasFields o rest) first (has_shown what x rest tail)

-- the opcode of a step is one, and its fields are all there
has_fields : (s : Step) (x : List ℕ) (opcode : ℕ) (rest : List ℕ) → IsInRange s → spelling s ++ x ≡ opcode ∷ rest → HasFields opcode rest
has_fields (Out p v) x opcode rest fits e = let first : opcode ≡ opcode_out = cc in
    (3, ap (λ (o : ℕ). fields_len o rest) first, let l = ap length e in omega arith)
has_fields (OutWord p v) x opcode rest fits e = let first : opcode ≡ opcode_out_word = cc in
    (4, ap (λ (o : ℕ). fields_len o rest) first, let l = ap length e in omega arith)
has_fields (In p) x opcode rest fits e = let first : opcode ≡ opcode_in = cc in (2, ap (λ (o : ℕ). fields_len o rest) first, let l = ap length e in omega arith)
has_fields (InWord p) x opcode rest fits e = let first : opcode ≡ opcode_in_word = cc in
    (2, ap (λ (o : ℕ). fields_len o rest) first, let l = ap length e in omega arith)
has_fields (Put p v) x opcode rest fits e = let first : opcode ≡ opcode_put = cc in
    (5, ap (λ (o : ℕ). fields_len o rest) first, let l = ap length e in omega arith)
has_fields (PutWord p v) x opcode rest fits e = let first : opcode ≡ opcode_put_word = cc in
    (6, ap (λ (o : ℕ). fields_len o rest) first, let l = ap length e in omega arith)
has_fields (Get p) x opcode rest fits e = let first : opcode ≡ opcode_get = cc in
    (4, ap (λ (o : ℕ). fields_len o rest) first, let l = ap length e in omega arith)
has_fields (GetWord p) x opcode rest fits e = let first : opcode ≡ opcode_get_word = cc in
    (4, ap (λ (o : ℕ). fields_len o rest) first, let l = ap length e in omega arith)
has_fields (Advance p) x opcode rest fits e = let first : opcode ≡ opcode_advance = cc in
    (4, ap (λ (o : ℕ). fields_len o rest) first, let l = ap length e in omega arith)
has_fields (Int a b c d block) x opcode rest (ha, hb, hc, hd, (hl, all)) e =
    let tail : rest ≡ (little_bytes 2 a ++ (little_bytes 2 b ++ (little_bytes 2 c ++ (little_bytes 2 d ++ (little_bytes 2 (length block) ++ block)))))
    ++ x = cc in
    let first : opcode ≡ opcode_int = cc in
    let count : little_number 2 (drop 8 rest) ≡ length block = ap (λ (t : List ℕ). little_number 2 (drop 8 t)) tail
    ∙ two_back (length block) (block ++ x) hl in (
      10 + length block,
      ap (λ (o : ℕ). fields_len o rest) first ∙ ap (λ (n : ℕ). just (10 + n)) count,
      let k = ap length tail in let j = length-append block x in omega arith,
    )
has_fields Frame x opcode rest fits e = let first : opcode ≡ opcode_frame = cc in (0, ap (λ (o : ℕ). fields_len o rest) first, omega arith)
has_fields (Show what) x opcode rest fits e = has_dump what x opcode rest e

-- no whole step stands at the prefix of some bytes
abbrev pub NoStepStarts : List ℕ → Type 0
NoStepStarts bytes = StartsWithBadStep bytes ⊎ StartsWithCutStep bytes

-- where one does
pub step_starts : (s : Step) (x bytes : List ℕ) → IsInRange s → bytes ≡ spelling s ++ x → NoStepStarts bytes → ⊥
step_starts s x bytes fits e (inl (inr (plane, offset, count, rest, ho, hn, prefix, bad))) =
    let dump : Step = Show (shown.Plane plane offset count) in
    let same : (s, x) ≡ (dump, rest) = some_is (s, x) (dump, rest) (sym (step_back s x fits) ∙ ap step_of (sym e ∙ prefix)
    ∙ plane_back plane offset count rest ho hn) in
    bad (subst IsInRange (ap (λ (p : Step × List ℕ). p.0) same) fits)
step_starts s x bytes fits e (inl (inl (opcode, rest, prefix, none))) =
    let f = has_fields s x opcode rest fits (sym e ∙ prefix) in
    let bad : None ≡ Some f.0 = sym none ∙ f.1 in
    absurd (cc)
step_starts s x bytes fits e (inr (opcode, rest, needed, prefix, is, short)) =
    not_cut opcode rest needed (has_fields s x opcode rest fits (sym e ∙ prefix)) is short

-- a step is bad or cut off
pub one_reason : (bytes : List ℕ) → StartsWithBadStep bytes → StartsWithCutStep bytes → ⊥
one_reason bytes (inr (plane, offset, count, x, ho, hn, prefix, bad)) (opcode, rest, needed, prefix', is, short) =
    not_cut opcode rest needed (has_dump (shown.Plane plane offset count) x opcode rest (sym prefix ∙ prefix')) is short
one_reason bytes (inl (opcode, rest, prefix, none)) (opcode', rest', needed, prefix', is, short) =
    let e : opcode ∷ rest ≡ opcode' ∷ rest' = sym prefix ∙ prefix' in
    let same : opcode ≡ opcode' = cc in
    let others : rest ≡ rest' = cc in
    let bad : None ≡ just needed = sym none ∙ ap (λ (o : ℕ). fields_len o rest) same ∙ ap (fields_len opcode') others ∙ is in
    absurd (cc)

-- nothing begins where no byte is
pub never_at_end : (bytes : List ℕ) → bytes ≡ [] → NoStepStarts bytes → ⊥
never_at_end bytes e (inl (inr (plane, offset, count, more, ho, hn, prefix, bad))) = let none : [] ≡ spelling (Show (shown.Plane plane offset count))
    ++ more = sym e ∙ prefix in absurd (cc)
never_at_end bytes e (inl (inl (opcode, more, prefix, none))) = let bad : [] ≡ opcode ∷ more = sym e ∙ prefix in absurd (cc)
never_at_end bytes e (inr (opcode, more, needed, prefix, is, short)) = let bad : [] ≡ opcode ∷ more = sym e ∙ prefix in absurd (cc)

-- an opcode that is none of a step has no fields to be cut off
pub not_cut_at : (opcode : ℕ) (more bytes : List ℕ) → fields_len opcode more ≡ None → bytes ≡ opcode ∷ more → StartsWithCutStep bytes → ⊥
not_cut_at opcode more bytes none e (other, rest, needed, prefix, is, short) =
    let both : opcode ∷ more ≡ other ∷ rest = sym e ∙ prefix in
    let same : opcode ≡ other = cc in
    let others : more ≡ rest = cc in
    let bad : None ≡ just needed = sym none ∙ ap (λ (o : ℕ). fields_len o more) same ∙ ap (fields_len other) others ∙ is in
    absurd (cc)
