use Rattle.std.proofs.Common.{ℕ, List, ◌++◌, ◌∙◌, ap}
use Rattle.vga_script.proofs.StepsLemmas.{encoding_kept}
use Rattle.vga_script.proofs.script.encode.Goals as goal

-- a copy of the bytes
pub returns-clause-ok : goal.returns-clause-ok
returns-clause-ok c =
    let bytes = c.as_bytes.result.now in
    encoding_kept bytes _ c.args.script.now c.as_bytes.ensures.spelled (c.in_ok-append.ensures.ok ∙ ap (λ (l : List ℕ). l ++ bytes) c.new-copy.ensures.items)
