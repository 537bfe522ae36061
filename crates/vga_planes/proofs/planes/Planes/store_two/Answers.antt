-- The word after both is the word after the first, with the second in its planes.
use Rattle.std.proofs.Common.{◌≡◌, ℕ, sym, ap, ◌∙◌, arith, length, ◌<◌, ◌==◌, if◌then◌else◌, List, set}
use Rattle.std.proofs.lemmas.List.{get_or_read, get_or-set_same, set-set, length-set}
use Rattle.vga_planes.specs.Planes.{with_bytes_at_offset}
use Rattle.vga_planes.specs.PlaneWords.{planes_of_words}
use Rattle.vga_bits.specs.Words.{plane_bit_in_word}
use Rattle.vga_planes.proofs.PlaneLemmas.{planes_stored}
use Rattle.vga_planes.proofs.planes.Planes.store_two.Goals as goal

pub returns : goal.returns
returns c =
    let ws : List ℕ = c.self.inside.words.items in
    let o = c.args.offset in
    let all : length ws ≡ 65536 = sym c.self.inside.words.ok.0 ∙ c.self.invariant in
    let within : o < length ws = omega arith in
    let old = c.index_mut-at.result.now in
    let between = c.merged_by_mask-word.result in
    let source = c.word-first_source.result in
    let other = c.word-second_source.result in
    let after : List ℕ = set ws o between in
    let first = planes_stored ws o old between source c.args.first_set within
    (get_or_read ws o old within c.index_mut-at.ensures.value 0)
    (λ p i plane bit. c.merged_by_mask-word.ensures p i plane bit ∙ ap (λ m. if m == 0 then plane_bit_in_word old p i
    else plane_bit_in_word source p i) (c.mask_of_planes-first_mask.ensures p i plane bit))
    c.args.first c.word-first_source.ensures.bytes in
    let second = planes_stored after o between c.merged_by_mask.result other c.args.second_set (omega (arith, within, length-set ws o between))
    (sym (get_or-set_same ws o between 0 within))
    (λ p i plane bit. c.merged_by_mask.ensures p i plane bit ∙ ap (λ m. if m == 0 then plane_bit_in_word between p i
    else plane_bit_in_word other p i) (c.mask_of_planes-second_mask.ensures p i plane bit))
    c.args.second c.word-second_source.ensures.bytes in
    ap planes_of_words (sym (set-set ws o between c.merged_by_mask.result))
    ∙ second
    ∙ ap (λ m. with_bytes_at_offset m o c.args.second c.args.second_set) first
    ∙ ap (λ m. with_bytes_at_offset (with_bytes_at_offset m o c.args.first c.args.first_set) o c.args.second c.args.second_set) c.self.view_is
