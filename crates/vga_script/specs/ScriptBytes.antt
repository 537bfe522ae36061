-- The bytes of a script of version 1 that is built step by step, as far as there is room for them.
use Rattle.std.specs.Prelude.{ℕ, ◌≡◌, ◌≤◌, ◌<◌, ◌+◌, nat_le, if◌then◌else◌, List, [], ◌∷◌}
use Rattle.std.specs.Prelude.{◌++◌, map, length}
use Rattle.vga_script.specs.declared.step.Step.{Step}
use Rattle.vga_script.specs.declared.version.Version.TheVariants.{One}
use Rattle.vga_script.specs.Item.{Once, ScriptItems, script_of_items}
use Rattle.vga_script.specs.Spelling.{script_limit, header, spelling}

-- the script of version 1 that has these steps
abbrev pub script_of_steps : List Step → ScriptItems
script_of_steps steps = script_of_items One (map Once steps)

-- The bytes that are kept, how many bytes the script has so far, and how many there is room for.
-- Once the script has more bytes than it may, no more are counted.
pub record BytesWritten : Type 0 where
  pub bytes : List ℕ
  pub len : ℕ
  pub room : ℕ

-- more bytes are appended; they are counted even if there is no room for them
abbrev pub with_bytes_appended : BytesWritten → List ℕ → BytesWritten
with_bytes_appended s more =
    if nat_le s.len script_limit then record s {
      bytes = if nat_le (s.len + length more) s.room then s.bytes ++ more else s.bytes;
      len = s.len + length more;
    }
    else s

-- a script without steps: its header
abbrev pub script_without_steps : ℕ → BytesWritten
script_without_steps room =
    with_bytes_appended (record { bytes = []; len = 0; room = room }) (header One)

-- steps are appended, one after another
abbrev pub with_steps_appended : BytesWritten → List Step → BytesWritten
with_steps_appended s [] = s
with_steps_appended s (step ∷ steps) =
    with_steps_appended (with_bytes_appended s (spelling step)) steps

-- The bytes so far are `all`. They are counted as long as a script may have as many, and kept if
-- there is room for them.
pub record HasWritten (all : List ℕ) (s : BytesWritten) : Type 0 where
  pub counted : s.len ≤ script_limit → s.len ≡ length all
  pub too_long : script_limit < s.len → script_limit < length all
  pub kept : s.len ≤ script_limit → s.len ≤ s.room → s.bytes ≡ all
