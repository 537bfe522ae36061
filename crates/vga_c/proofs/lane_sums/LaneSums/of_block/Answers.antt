use Rattle.std.proofs.Common.{◌≡◌, ◌∙◌, ◌+◌, ◌*◌, ◌%◌, ◌<◌, ◌++◌, ℕ, drop, arith}
use Rattle.std.specs.Prelude.{slice_index}
use Rattle.std.proofs.lemmas.List.{drop_all}
use Rattle.vga_bits.specs.Words.{plane_byte_in_word}
use Rattle.vga_c.specs.Checksum.{adler_from}
use Rattle.vga_c.specs.LaneSums.{sum_of_lanes, sum_of_sums_of_lanes}
use Rattle.vga_c.proofs.ChecksumLemmas.{eight_added}
use Rattle.vga_c.proofs.LaneLemmas.{no_bytes, sum_with_word, sums_with_word}
use Rattle.vga_c.proofs.lane_sums.LaneSums.of_block.Goals as goal

pub loop-n-init : goal.loop-n-init
loop-n-init c = (
  no_bytes,
  λ sum sums rest.
      let e0 : sum ≡ sum + sum_of_lanes (record { even = 0; odd = 0; even_sums = 0; odd_sums = 0 }) = omega arith in
      let e1 : sums ≡ sums + 8 * 0 * sum + sum_of_sums_of_lanes (record { even = 0; odd = 0; even_sums = 0; odd_sums = 0 }) = omega arith in
      λ j. adler_from (e0 j % 65521) (e1 j % 65521) (c.args.block.now ++ rest),
)

pub loop-n-preserved : goal.loop-n-preserved
loop-n-preserved c =
    let n = c.loop-n.n in
    let old = c.loop-n.sums in
    let new = c.add_word-sums.result in
    let done = c.add_word-sums.ensures in
    let word = c.word_at.result in
    let block = c.args.block.now in
    let byte : ℕ → ℕ = λ p. plane_byte_in_word p word in
    let read : (p : ℕ) → p < 8 → byte p ≡ slice_index block (8 * n + p) = c.word_at.ensures in
    let first : 8 * n + 0 ≡ 8 * n = omega arith in
    let b0 : byte 0 ≡ slice_index block (8 * n) = read 0 (omega arith) ∙ (λ j. slice_index block (first j)) in
    let b1 = read 1 (omega arith) in
    let b2 = read 2 (omega arith) in
    let b3 = read 3 (omega arith) in
    let b4 = read 4 (omega arith) in
    let b5 = read 5 (omega arith) in
    let b6 = read 6 (omega arith) in
    let b7 = read 7 (omega arith) in
    let more = sum_with_word n old new byte c.loop-n.invariant.0 done.lanes done.even done.odd done.even_sums done.odd_sums in
    let further = sums_with_word n old new byte c.loop-n.invariant.0 done.lanes done.even done.odd done.even_sums done.odd_sums in
    let place : 8 * n + 8 ≡ 8 * (n + 1) = omega arith in (
      done.lanes,
      λ sum sums rest.
          let s = sum + sum_of_lanes old in
          let t = sums + 8 * n * sum + sum_of_sums_of_lanes old in
          let e0 : s + (slice_index block (8 * n) + slice_index block (8 * n + 1) + slice_index block (8 * n + 2) + slice_index block (8 * n + 3)
          + slice_index block (8 * n + 4) + slice_index block (8 * n + 5) + slice_index block (8 * n + 6) + slice_index block (8 * n + 7))
          ≡ sum + sum_of_lanes new = omega (arith, more, b0, b1, b2, b3, b4, b5, b6, b7) in
          let whole : 8 * (n + 1) * sum ≡ 8 * n * sum + 8 * sum = omega arith in
          let e1 : t + 8 * s + (8 * slice_index block (8 * n) + 7 * slice_index block (8 * n + 1) + 6 * slice_index block (8 * n + 2)
          + 5 * slice_index block (8 * n + 3) + 4 * slice_index block (8 * n + 4) + 3 * slice_index block (8 * n + 5) + 2 * slice_index block (8 * n + 6)
          + slice_index block (8 * n + 7)) ≡ sums + 8 * (n + 1) * sum + sum_of_sums_of_lanes new =
          omega (arith, whole, further, b0, b1, b2, b3, b4, b5, b6, b7) in
          c.loop-n.invariant.1 sum sums rest ∙ eight_added block rest (8 * n) s t (omega (arith, c.requires, c.loop-n-test.true))
          ∙ (λ j. adler_from (e0 j % 65521) (e1 j % 65521) (drop (place j) block ++ rest)),
    )

pub returns-clause-adler : goal.returns-clause-adler
returns-clause-adler c = λ sum sums rest.
    let end : c.loop-n.n ≡ 16 = omega (arith, c.loop-n-test.false) in
    let all = drop_all (8 * c.loop-n.n) c.args.block.now (omega (arith, end, c.requires)) in
    let e1 : sums + 8 * c.loop-n.n * sum + sum_of_sums_of_lanes c.loop-n.sums ≡ sums + 128 * sum + sum_of_sums_of_lanes c.loop-n.sums =
    (λ j. sums + 8 * end j * sum + sum_of_sums_of_lanes c.loop-n.sums) ∙ omega arith in
    c.loop-n.invariant.1 sum sums rest
    ∙ (λ j. adler_from ((sum + sum_of_lanes c.loop-n.sums) % 65521) (e1 j % 65521) (all j ++ rest))
