use Rattle.std.proofs.Common.{subst, ℕ, ◌-◌}
use Rattle.vga_host.specs.Memory.PlaneWords.{word_of_writes_in_turn, WritesStoreWords}
use Rattle.vga_host.specs.Memory.Runs.{even_or_odd_byte}
use Rattle.vga_host.proofs.FillLemmas.{plane_fills, four_fills, pair_fills}
use Rattle.vga_host.proofs.host.Host.writes_for_a_word.Goals as goal

pub returns-then-address_picks_no_plane : goal.returns-then-address_picks_no_plane
returns-then-address_picks_no_plane c = λ some.
    let h = c.args.self.now in
    subst (λ (v : ℕ). WritesStoreWords 1 h c.args.misc c.args.first c.args.n (c.args.first - c.args.access.start) (even_or_odd_byte c.args.even v) (λ i. word_of_writes_in_turn h c.args.even v))
    c.if-even-odd.true
    (plane_fills h c.args.misc c.args.first c.args.n _ c.args.even c.requires.within (c.address_picks_no_plane.ensures c.if-address_picks_no_plane.true))

pub returns-then-fills_by_fours : goal.returns-then-fills_by_fours
returns-then-fills_by_fours c = λ some.
    four_fills c.args.self.now c.args.misc c.args.first c.args.n _ c.args.even c.args.odd c.requires.within (c.fills_by_fours.ensures c.if-fills_by_fours.true)

pub returns-then-fills_by_pairs : goal.returns-then-fills_by_pairs
returns-then-fills_by_pairs c = λ some.
    pair_fills c.args.self.now c.args.misc c.args.first c.args.n _ c.args.even c.args.odd c.requires.within (c.fills_by_pairs.ensures c.if-fills_by_pairs.true)
