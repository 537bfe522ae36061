use Rattle.std.proofs.Common.{slice_index}
use Rattle.vga_host.proofs.FillLemmas.{plane_grouped, four_grouped, pair_grouped, not_false}
use Rattle.vga_host.proofs.host.Host.bytes_for_a_word.Goals as goal

pub returns-then-address_picks_no_plane-clause-words : goal.returns-then-address_picks_no_plane-clause-words
returns-then-address_picks_no_plane-clause-words c = λ some.
    plane_grouped c.args.self.now c.args.misc c.args.first _ _ (slice_index c.args.bytes.now) c.requires.within (c.address_picks_no_plane.ensures c.if-address_picks_no_plane.true)
    (c.requires.access.stores_byte (not_false c.args.access.stores_byte c.if-not-access.false)) (λ i. (c.type_inv.bytes i).fits)

pub returns-then-fills_by_fours-clause-words : goal.returns-then-fills_by_fours-clause-words
returns-then-fills_by_fours-clause-words c = λ some.
    four_grouped c.args.self.now c.args.misc c.args.first _ _ (slice_index c.args.bytes.now) c.requires.within (c.fills_by_fours.ensures c.if-fills_by_fours.true)
    (c.requires.access.stores_byte (not_false c.args.access.stores_byte c.if-not-access.false)) (λ i. (c.type_inv.bytes i).fits)

pub returns-then-fills_by_pairs-clause-words : goal.returns-then-fills_by_pairs-clause-words
returns-then-fills_by_pairs-clause-words c = λ some.
    pair_grouped c.args.self.now c.args.misc c.args.first _ _ (slice_index c.args.bytes.now) c.requires.within (c.fills_by_pairs.ensures c.if-fills_by_pairs.true)
    (c.requires.access.stores_byte (not_false c.args.access.stores_byte c.if-not-access.false)) (λ i. (c.type_inv.bytes i).fits)
