use Rattle.std.proofs.Common.{arith}
use Rattle.vga_script.proofs.StepsLemmas.{behind_header, version_two, version_one}
use Rattle.vga_script.proofs.script.Script.version.Goals as goal

-- the version stands there
pub bounds-as_bytes-4 : goal.bounds-as_bytes-4
bounds-as_bytes-4 c = let long = behind_header c.as_bytes.result.now c.args.self.now c.as_bytes.ensures.spelled in omega arith

pub returns-then-byte-eq2 : goal.returns-then-byte-eq2
returns-then-byte-eq2 c = version_two c.as_bytes.result.now c.args.self.now c.as_bytes.ensures.spelled c.if-byte-eq2.true

pub returns : goal.returns
returns c = version_one c.as_bytes.result.now c.args.self.now c.as_bytes.ensures.spelled c.if-byte-eq2.false
