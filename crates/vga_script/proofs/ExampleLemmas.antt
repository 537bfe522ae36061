-- What the worked examples share.
use Rattle.std.proofs.Common.{◌≡◌, ℕ, zero, suc, ◌*◌, ◌≤◌, List, [], ◌∷◌, ◌++◌, length, refl, sym, ap, ◌∙◌, arith, length-append, append-nil}
use Rattle.std.specs.List.{flat_map}
use Rattle.std.proofs.lemmas.List.{length-replicate}
use Rattle.vga_script.specs.declared.step.Step.TheVariants.{Frame}
use Rattle.vga_script.specs.Item.{Repeated, script_of_items, repeated, step_limit}
use Rattle.vga_script.specs.declared.version.Version.{Version}
use Rattle.vga_script.specs.declared.version.Version.TheVariants.{Two}
use Rattle.vga_script.specs.Step.{AreInRange}
use Rattle.vga_script.specs.Examples.{frames, frame_bytes, frames_repeated, frames_repeated_bytes}
use Rattle.vga_script.specs.Spelling.{header, spelling, item_spelling, StartsWithItem, Spells}
use Rattle.vga_script.specs.Decoding.{SpellsUpTo}
use Rattle.vga_script.proofs.ItemLemmas.{length-repeated, length-expanded-cons}

-- no item stands before what follows the header
pub begins : (version : Version) (rest : List ℕ) → SpellsUpTo (header version ++ rest) (script_of_items version []) 5 rest
begins version rest = record { prefix = header version; whole = refl; good = ([], refl, refl, omega arith); place = refl }

-- frames are in range, and spelled one after another
frames_range : (n : ℕ) → AreInRange (frames n)
unfolding frames
frames_range zero = tt
frames_range (suc n) = (tt, frames_range n)

frames_spelled : (n : ℕ) → flat_map spelling (frames n) ≡ frame_bytes n
unfolding frames frame_bytes
frames_spelled zero = refl
frames_spelled (suc n) = ap (λ (l : List ℕ). 0x0B ∷ l) (frames_spelled n)

length-frames : (n : ℕ) → length (frames n) ≡ n
unfolding frames
length-frames n = length-replicate n Frame

-- a repeat of them
pub frames_start : (n : ℕ) → StartsWithItem Two (0x0D ∷ 0xFF ∷ 0xFF ∷ (frame_bytes n ++ 0x0E ∷ [])) (Repeated 0xFFFF (frames n)) []
frames_start n = (
  (tt, omega arith, omega arith, frames_range n),
  ap (λ (l : List ℕ). 0x0D ∷ 0xFF ∷ 0xFF ∷ (l ++ 0x0E ∷ [])) (sym (frames_spelled n)) ∙ sym (append-nil (item_spelling (Repeated 0xFFFF (frames n)))),
)

-- it means n frames as often as it counts
pub many_frames : (n : ℕ) → length (repeated 0xFFFF (frames n)) ≡ 0xFFFF * n
many_frames n = length-repeated 0xFFFF (frames n) ∙ ap (λ (m : ℕ). 0xFFFF * m) (length-frames n)

-- and is a script, where these are no more than it may mean
pub frames_spell : (n : ℕ) → 0xFFFF * n ≤ step_limit → Spells (frames_repeated_bytes n) (frames_repeated n)
frames_spell n few = (
  0x0D ∷ 0xFF ∷ 0xFF ∷ (frame_bytes n ++ 0x0E ∷ []),
  refl,
  ([], frames_start n, refl),
  let whole = length-expanded-cons (Repeated 0xFFFF (frames n)) [] in let many = many_frames n in omega arith,
)

-- their bytes are few
length-frame_bytes : (n : ℕ) → length (frame_bytes n) ≡ n
unfolding frame_bytes
length-frame_bytes n = length-replicate n 0x0B

pub few_bytes : (n : ℕ) → n ≤ 1000 → length (frames_repeated_bytes n) ≤ 16777216
few_bytes n small =
    let frames = length-append (frame_bytes n) (0x0E ∷ []) in
    let each = length-frame_bytes n in omega arith
