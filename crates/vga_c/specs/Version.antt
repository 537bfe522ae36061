-- The version of the library's interface.
use Rattle.std.specs.Prelude.{ℕ}

-- grows when a call, a struct or a status changes
abbrev pub api_major : ℕ
api_major = 1

-- grows when calls, structs or statuses are added
abbrev pub api_minor : ℕ
api_minor = 6
