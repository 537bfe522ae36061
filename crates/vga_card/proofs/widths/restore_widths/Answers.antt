use Rattle.std.proofs.Common.{◌≡◌, ◌∙◌, ℕ, ap, sym, refl, arith}
use Rattle.std.proofs.lemmas.List.{take_all}
use Rattle.vga_bits.specs.Saved.{first_words}
use Rattle.vga_bits.proofs.SavedLemmas.{words_taken}
use Rattle.vga_card.specs.Saved.{widths_from_saved_bytes}
use Rattle.vga_card.proofs.widths.restore_widths.Goals as goal

pub loop-line-init : goal.loop-line-init
unfolding first_words
loop-line-init c = refl

pub loop-line-preserved : goal.loop-line-preserved
loop-line-preserved c =
    words_taken c.loop-line.widths c.args.bytes.now c.loop-line.line c.word_at.result (omega arith) c.loop-line.invariant c.word_at.ensures

pub returns : goal.returns
unfolding widths_from_saved_bytes
returns c =
    let all : c.loop-line.line ≡ 1024 = omega arith in
    sym (take_all c.loop-line.line c.loop-line.widths (omega arith)) ∙ c.loop-line.invariant ∙ ap (λ (n : ℕ). first_words n c.args.bytes.now) all
