-- BIOS data are read back from their bytes.
use Rattle.std.proofs.Common.{◌≡◌, ℕ, ap, ◌∙◌, sym, refl, subst, arith, List, ◌++◌, length, drop, length-append}
use Rattle.std.specs.Prelude.{slice_index}
use Rattle.std.specs.List.{flat_map}
use Rattle.std.proofs.lemmas.List.{drop_at}
use Rattle.vga_bits.specs.Saved.{word_bytes, word_at, first_words}
use Rattle.vga_bits.proofs.SavedLemmas.{word_is_back, words_are_back, length-word_bytes}
use Rattle.bios_modes.specs.Bda.{BiosData}
use Rattle.bios_modes.specs.Bounds.{IsBda}
use Rattle.bios_modes.specs.Valid.{IsValid}
use Rattle.bios_modes.specs.Saved.{saved_after_positions, saved_bda, bytes_from_positions_on, bytes_after_positions, bda_from, IsSavedBda}

module _ (d : BiosData) (is : IsBda d) where
  prefix_past : bytes_from_positions_on (saved_bda d) ≡ flat_map word_bytes d.cursor_places ++ saved_after_positions d
  unfolding saved_bda
  prefix_past = refl

  places_len : length (flat_map word_bytes d.cursor_places) ≡ 16
  places_len = omega (arith, length-word_bytes d.cursor_places, is.places)

  places_past : bytes_after_positions (saved_bda d) ≡ saved_after_positions d
  places_past = ap (drop 16) prefix_past ∙ drop_at (flat_map word_bytes d.cursor_places) (saved_after_positions d) 16 places_len

  places_are : first_words 8 (bytes_from_positions_on (saved_bda d)) ≡ d.cursor_places
  places_are =
      ap (first_words 8) prefix_past ∙ ap (λ (n : ℕ). first_words n (flat_map word_bytes d.cursor_places ++ saved_after_positions d)) (sym is.places)
      ∙ words_are_back d.cursor_places (saved_after_positions d)

  pub bda_len : length (saved_bda d) ≡ 31
  unfolding saved_bda
  bda_len = omega (arith, places_len, length-append (flat_map word_bytes d.cursor_places) (saved_after_positions d))

  mode_is : slice_index (saved_bda d) 0 ≡ d.mode
  unfolding saved_bda
  mode_is = refl

  columns_are : word_at (saved_bda d) 1 ≡ d.columns
  unfolding saved_bda
  columns_are = word_is_back d.columns

  size_is : word_at (saved_bda d) 3 ≡ d.size
  unfolding saved_bda
  size_is = word_is_back d.size

  start_is : word_at (saved_bda d) 5 ≡ d.start
  unfolding saved_bda
  start_is = word_is_back d.start

  pub bda_is_back : bda_from (saved_bda d) ≡ d
  unfolding bda_from
  bda_is_back =
      let e0 = mode_is in
      let e1 = columns_are in
      let e2 = size_is in
      let e3 = start_is in
      let e4 = places_are in
      let e5 = ap (λ (l : List ℕ). word_at l 0) places_past ∙ word_is_back d.cursor_type in
      let e6 = ap (λ (l : List ℕ). slice_index l 2) places_past in
      let e7 = ap (λ (l : List ℕ). word_at l 3) places_past ∙ word_is_back d.crtc_address in
      let e8 = ap (λ (l : List ℕ). slice_index l 5) places_past in
      let e9 = ap (λ (l : List ℕ). word_at l 6) places_past ∙ word_is_back d.height in
      λ j. record {
        mode = e0 j;
        columns = e1 j;
        size = e2 j;
        start = e3 j;
        cursor_places = e4 j;
        cursor_type = e5 j;
        page = e6 j;
        crtc_address = e7 j;
        last_row = e8 j;
        height = e9 j;
      }

  pub bda_is_saved : IsValid d → IsSavedBda (saved_bda d)
  bda_is_saved valid = record { size = bda_len; valid = subst (λ (x : BiosData). IsValid x) (sym bda_is_back) valid }
