-- What a write to the display memory or a read of it does on its way, as the caller gets it.
use Rattle.std.specs.Prelude.{◌≡◌, ◌⊎◌, ℕ, true, false, List, [], ◌∷◌}
use Rattle.vga_bits.specs.declared.refusal.Refusal.TheVariants.{NotDecoded}
use Rattle.vga_bits.specs.Four.{Four}
use Rattle.vga_bits.specs.Words.{plane_bytes_of_word}
use Rattle.vga_host.specs.declared.host.memory.stages.WriteStages.{WriteStages}
use Rattle.vga_host.specs.declared.host.memory.stages.ReadStages.{ReadStages}
use Rattle.vga_host.specs.Memory.Address.{is_decoded}
use Rattle.vga_host.specs.Memory.Stages.{AreWriteStages, AreReadStages}
use Rattle.vga_card.specs.Card.{CardState}
use Rattle.vga_c.specs.declared.stages.PutStages.{PutStages}
use Rattle.vga_c.specs.declared.stages.GetStages.{GetStages}
use Rattle.vga_c.specs.Handle.{HandleState, machine_after_owed_dots}
use Rattle.vga_c.specs.State.{flag}
use Rattle.vga_c.specs.Status.{refusal_status}

-- the bytes of planes 0 to 3
abbrev pub bytes_in_plane_order : Four ℕ → List ℕ
bytes_in_plane_order four = four.plane0 ∷ four.plane1 ∷ four.plane2 ∷ four.plane3 ∷ []

-- the stages of a write, with a byte for each plane where a word has the four
abbrev pub put_stages_of : WriteStages → PutStages
put_stages_of stages = record {
  in_window = stages.in_window;
  offset = stages.offset;
  write_mode = stages.write_mode;
  rotated = stages.rotated;
  «data» = bytes_in_plane_order (plane_bytes_of_word stages.data);
  combined = bytes_in_plane_order (plane_bytes_of_word stages.combined);
  mask = stages.mask;
  planes = stages.reached;
  before = bytes_in_plane_order stages.before;
  written = bytes_in_plane_order stages.written;
}

-- the stages of a read
abbrev pub get_stages_of : ReadStages → GetStages
get_stages_of stages = record {
  in_window = stages.in_window;
  offset = stages.offset;
  loaded = bytes_in_plane_order stages.loaded;
  is_compare = flag stages.is_compare;
  plane = stages.plane;
  value = stages.value;
}

-- the address is not decoded, and nothing is told
abbrev pub IsNotDecoded : {A : Type 0} → CardState → ℕ → A → A → ℕ → Type 0
IsNotDecoded c address before after status = (is_decoded c.host c.misc address ≡ false)
    × (after ≡ before) × (status ≡ refusal_status NotDecoded)

-- the address is decoded, and the stages of a write of byte v are told
abbrev pub AreWriteStagesTold : CardState → ℕ → ℕ → PutStages → ℕ → Type 0
AreWriteStagesTold c address v after status = (is_decoded c.host c.misc address ≡ true)
    × ((stages : WriteStages) × AreWriteStages c.host address v stages
    × (after ≡ put_stages_of stages) × (status ≡ 0))

-- the stages of a write of byte v to an address, if it is decoded
abbrev pub TellsPutStages : CardState → ℕ → ℕ → PutStages → PutStages → ℕ → Type 0
TellsPutStages c address v before after status = AreWriteStagesTold c address v after status
    ⊎ IsNotDecoded c address before after status

-- the address is decoded, and the stages of a read are told
abbrev pub AreReadStagesTold : CardState → ℕ → GetStages → ℕ → Type 0
AreReadStagesTold c address after status = (is_decoded c.host c.misc address ≡ true)
    × ((stages : ReadStages) × AreReadStages c.host address stages
    × (after ≡ get_stages_of stages) × (status ≡ 0))

-- the stages of a read of an address, if it is decoded
abbrev pub TellsGetStages : CardState → ℕ → GetStages → GetStages → ℕ → Type 0
TellsGetStages c address before after status = AreReadStagesTold c address after status
    ⊎ IsNotDecoded c address before after status

-- an open card tells the stages of a write
abbrev pub OpenCardTellsPutStages : HandleState → ℕ → ℕ → PutStages → PutStages → ℕ → Type 0
OpenCardTellsPutStages old address v before after status = old.is_open ≡ true →
    TellsPutStages (machine_after_owed_dots old).card address v before after status

-- an open card tells the stages of a read
abbrev pub OpenCardTellsGetStages : HandleState → ℕ → GetStages → GetStages → ℕ → Type 0
OpenCardTellsGetStages old address before after status = old.is_open ≡ true →
    TellsGetStages (machine_after_owed_dots old).card address before after status
