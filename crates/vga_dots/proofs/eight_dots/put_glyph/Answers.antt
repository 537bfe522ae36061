-- Eight dots, and the ninth where there is one.
use Rattle.std.proofs.Common.{◌≡◌, ◌-◌, ◌%◌, ◌<◌, ℕ, List, sym, subst, arith, if◌then◌else◌, slice_index}
use Rattle.vga_bits.specs.Bits.{is_set}
use Rattle.vga_dots.specs.Row.{AreDotsPut}
use Rattle.vga_bits.specs.Words.{plane_byte_in_word}
use Rattle.vga_dots.proofs.EightDotsLemmas.{nine_put, last_lit, last_unlit}
use Rattle.vga_dots.proofs.eight_dots.put_glyph.Goals as goal
use Rattle.vga_dots.proofs.eight_dots.put_glyph.Goals.{then-lit-eq1, else-lit-eq1}

-- the bytes of a word are those of a colour, over and over
abbrev has_colour : List ℕ → ℕ → Type 0
has_colour colour word = (p : ℕ) → p < 8 → plane_byte_in_word p word ≡ slice_index colour (p % 3)

pub returns-after-lit-eq1 : goal.returns-after-lit-eq1
returns-after-lit-eq1 g c = λ f b is_fore is_back.
    let lit = c.args.lit in
    let at = c.args.at in
    let row = c.args.row.now in
    let middle = c.put_eight_dots.new.row in
    let last = c.put_ninth_dot.new.row in
    let eight = c.put_eight_dots.ensures f b is_fore is_back in
    subst (λ n. AreDotsPut n at (λ i. if is_set lit (8 - i) then f else b) row last) (sym c.if-this-eq9.true)
    (elim c.if-lit-eq1.branch [
      | then-lit-eq1 w ↦ nine_put lit at f b f row middle last eight
          (c.put_ninth_dot.ensures f (subst (has_colour f) (sym w.put_ninth_dot-is) is_fore.first)) (last_lit lit f b (omega (arith, w.if-lit-eq1)))
      | else-lit-eq1 w ↦ nine_put lit at f b b row middle last eight
          (c.put_ninth_dot.ensures b (subst (has_colour b) (sym w.put_ninth_dot-is) is_back.first)) (last_unlit lit f b (omega (arith, w.if-lit-eq1)))
    ])

pub returns-else-this-eq9 : goal.returns-else-this-eq9
returns-else-this-eq9 g c = λ f b is_fore is_back.
    let lit = c.args.lit in
    let wide : 8 ≡ g.row.CW = omega (arith, c.requires.width, c.requires.eight, c.if-this-eq9.false) in
    subst (λ n. AreDotsPut n c.args.at (λ i. if is_set lit (8 - i) then f else b) c.args.row.now c.put_eight_dots.new.row) wide
    (c.put_eight_dots.ensures f b is_fore is_back)
