-- Planes in 65,536 words are a memory.
use Rattle.std.proofs.Common.{sym, ◌∙◌, subst}
use Rattle.vga_planes.specs.Planes.{IsDisplayMemory}
use Rattle.vga_planes.proofs.PlaneLemmas.{words_are_memory}
use Rattle.vga_planes.proofs.planes.Planes.bounds.Goals as goal

pub returns : goal.returns
returns c =
    subst IsDisplayMemory c.self.view_is (words_are_memory c.self.inside.words.items (sym c.self.inside.words.ok.0 ∙ c.self.invariant))
