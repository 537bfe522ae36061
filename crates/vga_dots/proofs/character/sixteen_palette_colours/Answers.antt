-- The sixteen numbers of the attribute controller's table, each by its colour.
use Rattle.std.proofs.Common.{ap, ◌∙◌, arith}
use Rattle.vga_dots.specs.Row.{colour_and_zero_byte}
use Rattle.vga_dots.specs.Line.{masked_colour, colour_by_palette, palette_colour_and_zero_byte, sixteen_palette_colours}
use Rattle.vga_dots.proofs.CharacterLemmas.{sixteen_of}
use Rattle.vga_dots.proofs.character.sixteen_palette_colours.Goals as goal

pub returns : goal.returns
unfolding colour_by_palette sixteen_palette_colours
returns c =
    let d = c.args.dac.now in
    let numbers = c.table-numbers.ensures in
    sixteen_of (palette_colour_and_zero_byte c.args.attr.now d) _ _ _ _ _ _ _ _ _ _ _ _ _ _ _ _
    (c.colour_and_zero_byte.ensures ∙ ap (λ n. colour_and_zero_byte (masked_colour d n)) (numbers 0 (omega arith)))
    (c.colour_and_zero_byte-2.ensures ∙ ap (λ n. colour_and_zero_byte (masked_colour d n)) (numbers 1 (omega arith)))
    (c.colour_and_zero_byte-3.ensures ∙ ap (λ n. colour_and_zero_byte (masked_colour d n)) (numbers 2 (omega arith)))
    (c.colour_and_zero_byte-4.ensures ∙ ap (λ n. colour_and_zero_byte (masked_colour d n)) (numbers 3 (omega arith)))
    (c.colour_and_zero_byte-5.ensures ∙ ap (λ n. colour_and_zero_byte (masked_colour d n)) (numbers 4 (omega arith)))
    (c.colour_and_zero_byte-6.ensures ∙ ap (λ n. colour_and_zero_byte (masked_colour d n)) (numbers 5 (omega arith)))
    (c.colour_and_zero_byte-7.ensures ∙ ap (λ n. colour_and_zero_byte (masked_colour d n)) (numbers 6 (omega arith)))
    (c.colour_and_zero_byte-8.ensures ∙ ap (λ n. colour_and_zero_byte (masked_colour d n)) (numbers 7 (omega arith)))
    (c.colour_and_zero_byte-9.ensures ∙ ap (λ n. colour_and_zero_byte (masked_colour d n)) (numbers 8 (omega arith)))
    (c.colour_and_zero_byte-10.ensures ∙ ap (λ n. colour_and_zero_byte (masked_colour d n)) (numbers 9 (omega arith)))
    (c.colour_and_zero_byte-11.ensures ∙ ap (λ n. colour_and_zero_byte (masked_colour d n)) (numbers 10 (omega arith)))
    (c.colour_and_zero_byte-12.ensures ∙ ap (λ n. colour_and_zero_byte (masked_colour d n)) (numbers 11 (omega arith)))
    (c.colour_and_zero_byte-13.ensures ∙ ap (λ n. colour_and_zero_byte (masked_colour d n)) (numbers 12 (omega arith)))
    (c.colour_and_zero_byte-14.ensures ∙ ap (λ n. colour_and_zero_byte (masked_colour d n)) (numbers 13 (omega arith)))
    (c.colour_and_zero_byte-15.ensures ∙ ap (λ n. colour_and_zero_byte (masked_colour d n)) (numbers 14 (omega arith)))
    (c.colour_and_zero_byte-16.ensures ∙ ap (λ n. colour_and_zero_byte (masked_colour d n)) (numbers 15 (omega arith)))
