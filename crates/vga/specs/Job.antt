-- What the program is asked to do.
use Rattle.std.specs.Prelude.{ℕ, Option}
use Rattle.clap.specs.Words.{Text}
use Rattle.vga.specs.declared.job.Job.{Job}
use Rattle.vga.specs.declared.job.Job.TheVariants as job

-- A job as texts. `asm` has the paths of a text and of a script, `dis` the path of a script, `run`
-- the paths of a script and of a font file, and `go` those of a text and of a font file. `run` and
-- `go` may have a limit on steps.
pub data Request : Type 0 where
  asm : Text → Text → Request
  dis : Text → Request
  run : Text → Text → Option ℕ → Request
  go : Text → Text → Option ℕ → Request

-- a job by its paths and its limit
abbrev pub request_of : Job → Request
request_of (job.Asm text script) = asm text.now script.now
request_of (job.Dis script) = dis script.now
request_of (job.Run script fonts until) = run script.now fonts.now until
request_of (job.Go text fonts until) = go text.now fonts.now until
