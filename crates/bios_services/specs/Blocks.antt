-- The block of a call: what it reads of the caller's memory.
-- From the IBM PS/2 and PC BIOS Interface Technical Reference, "Interrupt 10H - Video", (AH) = 10H,
-- (AH) = 11H and (AH) = 13H.
use Rattle.std.specs.Prelude.{◌≡◌, ◌<◌, ℕ, ◌==◌, Bool, Option, Some, None, List, length, Ok, Err}
use Rattle.std.specs.Prelude.{unwrap_or}
use Rattle.vga_bits.specs.declared.refusal.Refusal.TheVariants.{BadBlock}
use Rattle.vga_card.specs.Bus.{BusMeaning}
use Rattle.bios_modes.specs.Bda.{BiosData}
use Rattle.bios_modes.specs.Fonts.{FontSet}
use Rattle.bios_services.specs.declared.regs.Regs.{Regs}
use Rattle.bios_services.specs.declared.reply.Reply.{Reply}
use Rattle.bios_services.specs.declared.call.Call.{Call}
use Rattle.bios_services.specs.declared.call.Call.TheVariants.{LoadGlyphs, InMode}
use Rattle.bios_services.specs.Registers.{high}
use Rattle.bios_services.specs.Calls.{call_of}
use Rattle.bios_services.specs.GlyphLoads.{glyphs_block_len}
use Rattle.bios_services.specs.Refusals.{service_block_len}
use Rattle.bios_services.specs.Plan.{run}
use Rattle.bios_services.specs.Service.{service}

-- how many bytes the block of a call has; None if it reads no block
abbrev pub block_len_if_any : Option Call → Option ℕ
block_len_if_any (Some (InMode service)) = service_block_len service
block_len_if_any (Some (LoadGlyphs load)) = glyphs_block_len load
block_len_if_any other = None

-- how many bytes a call reads
abbrev pub block_len : Option Call → ℕ
block_len call = unwrap_or (block_len_if_any call) 0

-- whether the block lies at ES:DX, as for function 10; for any other function it lies at ES:BP
abbrev pub is_block_at_dx : Regs → Bool
is_block_at_dx r = high r.ax == 0x10

-- no call is refused for a block of exactly the length that it reads
abbrev pub FittingBlocksAreAccepted : {S : Type 0} → BusMeaning S → Type 0
FittingBlocksAreAccepted {S} m = (fonts : FontSet) (d : BiosData) (r : Regs) (block : List ℕ) (s : S) →
    length block ≡ block_len (call_of r) →
    ¬ ((run m (service fonts d r block) s).1.0 ≡ Err BadBlock)

-- a call that reads some bytes is refused with a block of any other length
abbrev pub OtherBlockLengthsAreRefused : {S : Type 0} → BusMeaning S → Type 0
OtherBlockLengthsAreRefused {S} m = (fonts : FontSet) (d : BiosData) (r : Regs) (block : List ℕ) (s : S)
    (reply : Reply) →
    0 < block_len (call_of r) → ¬ (length block ≡ block_len (call_of r)) →
    ¬ ((run m (service fonts d r block) s).1.0 ≡ Ok reply)
