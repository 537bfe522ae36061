use Rattle.std.proofs.Common.{◌≡◌, ◌∙◌, ℕ, ap, sym, refl, arith}
use Rattle.std.proofs.lemmas.List.{length-set, take_all}
use Rattle.vga_bits.specs.Saved.{first_words}
use Rattle.vga_bits.proofs.SavedLemmas.{words_taken}
use Rattle.bios_modes.proofs.bda.saved.cursor_positions_from.Goals as goal

pub loop-page-init : goal.loop-page-init
unfolding first_words
loop-page-init c = record { count = refl; words = refl }

pub loop-page-preserved : goal.loop-page-preserved
loop-page-preserved c =
    let before = c.loop-page.invariant in
    record {
      count = length-set c.loop-page.places c.loop-page.page c.word_at.result ∙ before.count;
      words = words_taken c.loop-page.places c.args.bytes.now c.loop-page.page c.word_at.result (omega (arith, before.count)) before.words c.word_at.ensures;
    }

pub returns : goal.returns
returns c =
    let before = c.loop-page.invariant in
    let all : c.loop-page.page ≡ 8 = omega arith in
    sym (take_all c.loop-page.page c.loop-page.places (omega (arith, before.count))) ∙ before.words ∙ ap (λ (n : ℕ). first_words n c.args.bytes.now) all
