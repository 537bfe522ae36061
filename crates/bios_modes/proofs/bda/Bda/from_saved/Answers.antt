use Rattle.std.proofs.Common.{◌∙◌, ap, List, ℕ, drop, slice_index}
use Rattle.vga_bits.specs.Saved.{word_at, first_words}
use Rattle.bios_modes.specs.Saved.{bda_from}
use Rattle.bios_modes.proofs.bda.Bda.from_saved.Goals as goal

pub returns : goal.returns
unfolding bda_from
returns c =
    let rest = c.split_at.ensures.back in
    let back = c.split_at-2.ensures.back ∙ ap (drop 16) rest in
    let e1 = c.word_at.ensures in
    let e2 = c.word_at-2.ensures in
    let e3 = c.word_at-3.ensures in
    let e4 = c.cursor_positions_from.ensures ∙ ap (first_words 8) rest in
    let e5 = c.word_at-4.ensures ∙ ap (λ (l : List ℕ). word_at l 0) back in
    let e6 = ap (λ (l : List ℕ). slice_index l 2) back in
    let e7 = c.word_at-5.ensures ∙ ap (λ (l : List ℕ). word_at l 3) back in
    let e8 = ap (λ (l : List ℕ). slice_index l 5) back in
    let e9 = c.word_at-6.ensures ∙ ap (λ (l : List ℕ). word_at l 6) back in
    λ j. record {
      mode = slice_index c.args.bytes.now 0;
      columns = e1 j;
      size = e2 j;
      start = e3 j;
      cursor_places = e4 j;
      cursor_type = e5 j;
      page = e6 j;
      crtc_address = e7 j;
      last_row = e8 j;
      height = e9 j;
    }
