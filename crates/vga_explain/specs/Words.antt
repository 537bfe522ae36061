-- Why a cycle of a word is refused: for its low byte, or for its high byte in the state after the
-- low one.
-- The refusal of a word is this adapter's choice.
use Rattle.std.specs.Prelude.{ℕ, ◌≡◌, ◌+◌, ◌/◌, ◌%◌, Bool, true, false, Option, None, Some}
use Rattle.vga_bits.specs.declared.refusal.Refusal.{Refusal}
use Rattle.vga_card.specs.Card.{CardState}
use Rattle.vga_card.specs.Cycles.{out_cycle, inp_cycle}
use Rattle.vga_explain.specs.declared.words.WordReason.{WordReason}
use Rattle.vga_explain.specs.declared.cycle_reason.CycleReason.{CycleReason}
use Rattle.vga_explain.specs.declared.cycle_reason.CycleReason.TheVariants.{LastPort, LastAddress}
use Rattle.vga_explain.specs.CycleReasons.{refusal_of}
use Rattle.vga_explain.specs.Ports.{ExplainsOut, ExplainsInp}
use Rattle.vga_explain.specs.Accesses.{ExplainsAccess}

-- Why one byte of a word is refused that is written to a port: the low byte there, or the high one
-- at the next port.
abbrev pub ExplainsOutByte : CardState → ℕ → ℕ → Bool → CycleReason → Type 0
ExplainsOutByte c port v false reason = ExplainsOut c port (v % 256) reason
ExplainsOutByte c port v true reason =
    ExplainsOut (out_cycle c port (v % 256)).0 (port + 1) (v / 256) reason

-- why a word is refused that is written to a port: it has no next port, or one of its bytes is
abbrev pub ExplainsOutWord : CardState → ℕ → ℕ → Bool → CycleReason → Type 0
ExplainsOutWord c port v is_high LastPort = (port ≡ 0xFFFF) × (is_high ≡ true)
ExplainsOutWord c port v is_high reason = ExplainsOutByte c port v is_high reason

-- Why one byte of a word is refused that is read from a port.
abbrev pub ExplainsInpByte : CardState → ℕ → Bool → CycleReason → Type 0
ExplainsInpByte c port false reason = ExplainsInp c port reason
ExplainsInpByte c port true reason = ExplainsInp (inp_cycle c port).0 (port + 1) reason

-- why a word is refused that is read from a port
abbrev pub ExplainsInpWord : CardState → ℕ → Bool → CycleReason → Type 0
ExplainsInpWord c port is_high LastPort = (port ≡ 0xFFFF) × (is_high ≡ true)
ExplainsInpWord c port is_high reason = ExplainsInpByte c port is_high reason

-- why one byte of a word is refused that is written to memory or read from it: no cycle of memory
-- changes where it answers
abbrev pub ExplainsAccessByte : CardState → ℕ → Bool → CycleReason → Type 0
ExplainsAccessByte c address false reason = ExplainsAccess c address reason
ExplainsAccessByte c address true reason = ExplainsAccess c (address + 1) reason

-- why such a word is refused: it has no next address, or one of its bytes is
abbrev pub ExplainsAccessWord : CardState → ℕ → Bool → CycleReason → Type 0
ExplainsAccessWord c address is_high LastAddress = (address ≡ 0xFFFFFFFF) × (is_high ≡ true)
ExplainsAccessWord c address is_high reason = ExplainsAccessByte c address is_high reason

-- the refusal that a word's reason explains, if there is one
abbrev pub refusal_of_word_reason : Option WordReason → Option Refusal
refusal_of_word_reason None = None
refusal_of_word_reason (Some word) = Some (refusal_of word.reason)
