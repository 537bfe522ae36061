-- Each of the sixteen is the number of its place.
use Rattle.vga_attr.specs.Colour.{colour_index, with_registers}
use Rattle.vga_attr.proofs.TableLemmas.{sixteen_at}
use Rattle.vga_attr.proofs.attr.fields.colour_numbers_of.Goals as goal

pub returns : goal.returns
returns c = record {
  each =
      sixteen_at (colour_index (with_registers c.args.registers.now.values)) _ _ _ _ _ _ _ _ _ _ _ _ _ _ _ _
      c.colour_number_of.ensures c.colour_number_of-2.ensures c.colour_number_of-3.ensures c.colour_number_of-4.ensures c.colour_number_of-5.ensures c.colour_number_of-6.ensures
      c.colour_number_of-7.ensures c.colour_number_of-8.ensures c.colour_number_of-9.ensures c.colour_number_of-10.ensures c.colour_number_of-11.ensures c.colour_number_of-12.ensures
      c.colour_number_of-13.ensures c.colour_number_of-14.ensures c.colour_number_of-15.ensures c.colour_number_of-16.ensures;
}
