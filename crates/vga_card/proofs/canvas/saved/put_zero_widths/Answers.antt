use Rattle.std.proofs.Common.{◌∙◌, ℕ, List, ap, subst, arith}
use Rattle.std.specs.Prelude.{slice_index}
use Rattle.std.specs.List.{flat_map}
use Rattle.vga_bits.specs.Saved.{word_bytes, IsPut}
use Rattle.vga_bits.proofs.ByteLemmas.{zeros_at}
use Rattle.vga_card.proofs.SavedLemmas.{no_bytes}
use Rattle.vga_card.proofs.canvas.saved.put_zero_widths.Goals as goal

pub put_widths-requires-clause-narrow : goal.put_widths-requires-clause-narrow
put_widths-requires-clause-narrow c = λ j. omega (arith, ap (λ (l : List ℕ). slice_index l j) c.blank_widths.ensures, zeros_at 1024 j)

pub returns-clause-put : goal.returns-clause-put
returns-clause-put c =
    subst (λ (l : List ℕ). IsPut c.args.out.now c.put_widths.new.out c.args.at c.put_widths.result l)
    (ap (flat_map word_bytes) c.blank_widths.ensures ∙ no_bytes) c.put_widths.ensures.put
