-- Writing and reading a pixel in 256 colours.
use Rattle.std.proofs.Common.{◌≡◌, ℕ, ◌+◌, ◌*◌, ◌/◌, ◌<◌, sym, ap, ◌∙◌, subst, arith, Some}
use Rattle.std.specs.Prelude.{◌==◌, if◌then◌else◌}
use Rattle.bios_screen.proofs.Prelude.{IsCard, card_meaning, CardState, bytes_320_by_200, BiosData, is_mode_of_256_colours, page_0_address_of_mode, Plan, run, put, get, Screen}
use Rattle.bios_screen.proofs.Prelude.{pixel_of_256_colours, pixel_screen, shown, pixel_of, with_pixels}
use Rattle.bios_services.specs.Pixels.{pixel_address, write_planar_pixel_plan, write_pixel_plan, read_planar_pixel_plan, read_pixel_plan}
use Rattle.bios_screen.specs.Step.{colour_over, change_pixel}
use Rattle.bios_screen.proofs.Base.Flat.{set_cell}
use Rattle.bios_screen.proofs.Dots.PackedDots.{IsPacked}
use Rattle.bios_screen.proofs.Planar.Settings.{without_host}
use Rattle.bios_screen.proofs.Packed.Screens.{put_flat, get_flat}
use Rattle.bios_screen.proofs.Packed.Screens as screens
use Rattle.bios_screen.proofs.Pixels.NewPixels.{There, number_within}
use Rattle.bios_screen.proofs.Pixels.Reads.{IsSeen}

module _ (c : CardState) (d : BiosData) (t : IsPacked c d) (z : IsCard c) where
  abbrev s : Screen
  s = pixel_screen bytes_320_by_200 c d

  -- ---- where a pixel is

  -- the number of the pixel at column x of line y
  abbrev number : ℕ → ℕ → ℕ
  number x y = 8 * d.columns * y + x

  number_small : (x y : ℕ) → There d x y → number x y < 64000
  number_small x y h = let l = number_within d x y h in let all = screens.all_pixels c d t z in omega arith

  address_is : (x y : ℕ) → pixel_address d 0 x y ≡ 0xA0000 + number x y
  address_is x y =
      let none : d.size * 0 ≡ 0 = omega arith in
      ap (λ m. page_0_address_of_mode m + d.size * 0 + (if is_mode_of_256_colours m then 8 * d.columns * y + x else d.columns * y + x / 8)) t.number
      ∙ ap (λ n. 0xA0000 + n + (8 * d.columns * y + x)) none
      ∙ sum (8 * d.columns * y + x)
    where
      sum : (n : ℕ) → 0xA0000 + 0 + n ≡ 0xA0000 + n
      sum n = omega arith

  -- ---- function 0C

  write_is : (x y colour : ℕ) → write_pixel_plan d 0 x y colour ≡ put (0xA0000 + number x y) colour
  unfolding write_pixel_plan
  write_is x y colour =
      ap (λ m. let p : Plan (Unit {0}) = (if is_mode_of_256_colours m then put (pixel_address d 0 x y) colour else write_planar_pixel_plan (pixel_address d 0 x y) x colour) in p)
      t.number
      ∙ ap (λ a. put a colour) (address_is x y)

  pub pixel_written : (p x y colour : ℕ) → p < bytes_320_by_200.pages → There d x y → colour < 256
      → shown (run card_meaning (write_pixel_plan d p x y colour) c).0 d
      ≡ Some (with_pixels s p (change_pixel (number x y) (colour_over d.mode colour)))
  pixel_written p x y colour lp h lc =
      let first : 0 ≡ p = omega arith in
      let n = number x y in
      let m = c.host.memory in
      let l = number_small x y h in
      subst (λ i. shown (run card_meaning (write_pixel_plan d i x y colour) c).0 d
      ≡ Some (with_pixels s i (change_pixel n (colour_over d.mode colour)))) first
      (ap (λ q. shown (run card_meaning q c).0 d) (write_is x y colour)
      ∙ screens.page_redrawn c d t z (run card_meaning (put (0xA0000 + n) colour) c).0 (set_cell (pixel_of_256_colours m) n colour)
      (change_pixel n (colour_over d.mode colour))
      (put_flat (without_host c) n colour c (pixel_of_256_colours m) (omega arith) lc (screens.begins c d t z))
      (λ k lk. ap (λ v. if k == n then v else pixel_of_256_colours m k) (sym (ap (λ i. colour_over i colour (pixel_of_256_colours m k)) t.number))
      ∙ ap (λ v. if k == n then colour_over d.mode colour v else v) (sym (screens.pixel_is c d t z k lk))))

  -- ---- function 0D

  read_is : (x y : ℕ) → read_pixel_plan d 0 x y ≡ get (0xA0000 + number x y)
  unfolding read_pixel_plan
  read_is x y =
      ap (λ m. let p : Plan ℕ = (if is_mode_of_256_colours m then get (pixel_address d 0 x y) else read_planar_pixel_plan (pixel_address d 0 x y) x) in p) t.number
      ∙ ap get (address_is x y)

  pub pixel_read : (p x y : ℕ) → p < bytes_320_by_200.pages → There d x y →
      IsSeen (λ y. shown y d ≡ Some s) (read_pixel_plan d p x y) (pixel_of s p (number x y)) c
  pixel_read p x y lp h =
      let first : 0 ≡ p = omega arith in
      let n = number x y in
      let l = number_small x y h in
      let got = get_flat (without_host c) n c (pixel_of_256_colours c.host.memory) (omega arith) (screens.begins c d t z) in
      subst (λ i. IsSeen (λ y. shown y d ≡ Some s) (read_pixel_plan d i x y) (pixel_of s i n) c) first (record {
        value = ap (λ i. (run card_meaning i c).1) (read_is x y) ∙ got.value ∙ sym (screens.pixel_is c d t z n (number_within d x y h));
        still = ap (λ i. shown (run card_meaning i c).0 d) (read_is x y) ∙ screens.stays c d t z (run card_meaning (get (0xA0000 + n)) c).0 got.still;
      })
