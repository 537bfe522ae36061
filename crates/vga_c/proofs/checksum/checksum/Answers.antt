use Rattle.std.proofs.Common.{◌≡◌, ◌∙◌, ◌++◌, [], take, drop, ap, sym, refl, arith}
use Rattle.std.proofs.lemmas.List.{append-nil, take-append-drop}
use Rattle.vga_c.specs.Checksum.{adler_from}
use Rattle.vga_c.proofs.checksum.checksum.Goals as goal

pub loop-rest-init : goal.loop-rest-init
loop-rest-init c = (refl, (omega arith, omega arith))

pub loop-rest-smaller : goal.loop-rest-smaller
loop-rest-smaller c = omega (arith, c.split_at.ensures.back_len)

pub loop-rest-preserved : goal.loop-rest-preserved
loop-rest-preserved c =
    let sums = c.loop-rest.sums in
    let front = c.split_at.ensures.front in
    let back = c.split_at.ensures.back in
    let whole : c.split_at.result.0.now ++ c.split_at.result.1.now ≡ take 128 c.loop-rest.rest.now ++ drop 128 c.loop-rest.rest.now =
    λ j. front j ++ back j in (
      sym (c.add_block_to_sums-sums.ensures.rest c.split_at.result.1.now)
          ∙ ap (adler_from sums.0 sums.1) (whole ∙ take-append-drop 128 c.loop-rest.rest.now)
          ∙ c.loop-rest.invariant.0,
      (c.add_block_to_sums-sums.ensures.sum, c.add_block_to_sums-sums.ensures.sums),
    )

pub returns : goal.returns
unfolding adler_from
returns c =
    let sums = c.loop-rest.sums in
    sym (c.add_bytes_to_sums-sum.ensures.rest []) ∙ ap (adler_from sums.0 sums.1) (append-nil c.loop-rest.rest.now) ∙ c.loop-rest.invariant.0
