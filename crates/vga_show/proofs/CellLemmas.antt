-- Rows that are written one after another.
use Rattle.std.proofs.Common.{◌≡◌, ℕ, suc, ◌+◌, ◌-◌, ◌<◌, ◌≤◌, Bool, false, List, [], ◌++◌, Option, sym, ap, ◌∙◌, arith, append_assoc}
use Rattle.std.specs.Io.KnownBytes.{Appends}
use Rattle.std.proofs.KnownBytes.{Appends-trans}
use Rattle.vga_bits.specs.Tracked.{AppendsPrefix}
use Rattle.vga_bits.proofs.WritingLemmas.{Written}
use Rattle.vga_card.specs.Card.{CardState}
use Rattle.bios_modes.specs.Bda.{BiosData}
use Rattle.vga_show.specs.Cells.{row_text, rows_text}

-- the rows from one on are its line and those from the next on
pub rows_left : (card : CardState) (bda : BiosData) (n row : ℕ) → row < n → rows_text card bda (n - row) row ≡ row_text card bda row
    ++ rows_text card bda (n - (row + 1)) (row + 1)
unfolding rows_text
rows_left card bda n row l = let e : n - row ≡ suc (n - (row + 1)) = omega arith in ap (λ k. rows_text card bda k row) e

pub rows_none : (card : CardState) (bda : BiosData) (n row : ℕ) → n ≤ row → rows_text card bda (n - row) row ≡ []
unfolding rows_text
rows_none card bda n row l = let e : n - row ≡ 0 = omega arith in ap (λ k. rows_text card bda k row) e

-- a line more is written
pub written_line : (old mid new : Option (List ℕ)) (was failed : Bool) (all left line rest : List ℕ) → left ≡ line ++ rest → Written old mid was all left →
    Appends mid new line → failed ≡ false → Written old new failed all rest
written_line old mid new was failed all left line rest e w a f = record {
  done = w.done ++ line;
  whole = w.whole ∙ ap (λ l. w.done ++ l) e ∙ sym (append_assoc w.done line rest);
  appended = Appends-trans old mid new w.done line w.appended a;
  sound = f;
}

-- or a prefix of it, and so of all
pub prefix_line : (old mid new : Option (List ℕ)) (was : Bool) (all left line rest : List ℕ) → left ≡ line ++ rest → Written old mid was all left →
    AppendsPrefix mid new line → AppendsPrefix old new all
prefix_line old mid new was all left line rest e w (prefix, back, parts, a) = (
  w.done ++ prefix,
  back ++ rest,
  w.whole ∙ ap (λ l. w.done ++ l) (e ∙ ap (λ (l : List ℕ). l ++ rest) parts ∙ append_assoc prefix back rest) ∙ sym (append_assoc w.done prefix (back ++ rest)),
  Appends-trans old mid new w.done prefix w.appended a,
)
