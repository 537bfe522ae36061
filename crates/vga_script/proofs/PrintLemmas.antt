-- Printing the line of a call of the BIOS.
use Rattle.std.proofs.Common.{◌≡◌, ℕ, ◌<◌, ◌≤◌, List, [], ◌∷◌, ◌++◌, length, ap, ◌∙◌, arith, append_assoc, codes, refl}
use Rattle.std.specs.List.{join_with_byte}
use Rattle.hex.specs.Hex.{encode_upper}
use Rattle.vga_bits.specs.Hex.{hex}
use Rattle.vga_script.specs.Printing.{line_of_words, printed_line}
use Rattle.vga_script.specs.declared.step.Step.TheVariants.{Int}

-- the text of the registers
abbrev registers : ℕ → ℕ → ℕ → ℕ → List ℕ
registers ax bx cx dx = codes "int ax=" ++ (hex 4 ax ++ (codes " bx=" ++ (hex 4 bx ++ (codes " cx=" ++ (hex 4 cx ++ (codes " dx=" ++ hex 4 dx))))))

regroup : (a b c d e : List ℕ) → join_with_byte 32 (codes "int" ∷ (codes "ax=" ++ a) ∷ (codes "bx=" ++ b) ∷ (codes "cx=" ++ c) ∷ (codes "dx=" ++ d)
    ∷ codes "block" ∷ e ∷ [])
    ≡ (codes "int ax=" ++ (a ++ (codes " bx=" ++ (b ++ (codes " cx=" ++ (c ++ (codes " dx=" ++ d))))))) ++ (codes " block " ++ e)
regroup a b c d e = simp append_assoc

-- the line of a call with no block
pub call_line : (ax bx cx dx : ℕ) (block text : List ℕ) → length block ≤ 0
    → text ≡ registers ax bx cx dx → printed_line (Int ax bx cx dx block) ≡ text ++ 10 ∷ []
unfolding line_of_words
call_line ax bx cx dx [] text none e = rw e refl
call_line ax bx cx dx (b ∷ bs) text none e = absurd (omega arith)

-- and of one with a block
pub block_line : (ax bx cx dx : ℕ) (block text : List ℕ) → 0 < length block
    → text ≡ registers ax bx cx dx → printed_line (Int ax bx cx dx block) ≡ text ++ (codes " block " ++ (encode_upper block ++ 10 ∷ []))
unfolding line_of_words
block_line ax bx cx dx [] text some e = absurd (omega arith)
block_line ax bx cx dx (b ∷ bs) text some e =
    rw e
    (ap (λ (l : List ℕ). l ++ 10 ∷ []) (regroup (hex 4 ax) (hex 4 bx) (hex 4 cx) (hex 4 dx) (encode_upper (b ∷ bs)))
    ∙ append_assoc (registers ax bx cx dx) (codes " block " ++ encode_upper (b ∷ bs)) (10 ∷ [])
    ∙ ap (λ (l : List ℕ). registers ax bx cx dx ++ l) (append_assoc (codes " block ") (encode_upper (b ∷ bs)) (10 ∷ [])))
