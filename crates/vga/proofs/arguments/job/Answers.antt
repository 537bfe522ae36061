use Rattle.vga.proofs.PathLemmas.{names_paths}
use Rattle.vga.proofs.arguments.job.Goals as goal

pub returns-clause-paths : goal.returns-clause-paths
returns-clause-paths c = names_paths _ _ c.parsed_job.ensures
