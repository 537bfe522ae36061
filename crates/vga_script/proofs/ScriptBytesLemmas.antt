-- What is kept of the bytes of a script that is made step by step.
use Rattle.std.proofs.Common.{◌≡◌, ℕ, ◌+◌, ◌<◌, ◌≤◌, List, [], ◌∷◌, ◌++◌, length, Bool, true, false, if◌then◌else◌, refl, sym, ap, ◌∙◌, subst, arith, append_assoc}
use Rattle.std.specs.Prelude.{nat_le, map}
use Rattle.std.specs.List.{flat_map}
use Rattle.std.proofs.lemmas.Bool.{leb-true, leb-false}
use Rattle.std.proofs.lemmas.List.{length-append, append-nil}
use Rattle.vga_script.specs.declared.step.Step.{Step}
use Rattle.vga_script.specs.declared.version.Version.TheVariants.{One}
use Rattle.vga_script.specs.Item.{Once, expanded, AreItemsOf}
use Rattle.vga_script.specs.ScriptBytes.{script_of_steps, BytesWritten, with_bytes_appended, script_without_steps, with_steps_appended, HasWritten}
use Rattle.vga_script.specs.Spelling.{script_limit, header, spelling, item_spelling, encoding, Spells}
use Rattle.vga_script.specs.Step.{AreInRange}
use Rattle.vga_script.proofs.GrammarLemmas.{encoding_spells, some_byte}

-- ---- bytes

put_written : (within fits : Bool) (all more : List ℕ) (s : BytesWritten) → nat_le s.len script_limit ≡ within →
    nat_le (s.len + length more) s.room ≡ fits → HasWritten all s →
    HasWritten (all ++ more)
    (let new : BytesWritten = (if within then record s { bytes = if fits then s.bytes ++ more else s.bytes; len = s.len + length more } else s) in new)
put_written false fits all more s e f w =
    let past : script_limit < s.len = leb-false _ _ e in
    record {
      counted = λ few. absurd (omega (arith, past, few));
      too_long = λ long. omega (arith, w.too_long long, length-append all more);
      kept = λ few room. absurd (omega (arith, past, few));
    }
put_written true true all more s e f w =
    let few : s.len ≤ script_limit = leb-true _ _ e in
    record {
      counted = λ l. omega (arith, w.counted few, length-append all more);
      too_long = λ l. omega (arith, l, w.counted few, length-append all more);
      kept = λ l room. ap (λ bytes. bytes ++ more) (w.kept few (omega (arith, room)));
    }
put_written true false all more s e f w =
    let few : s.len ≤ script_limit = leb-true _ _ e in
    record {
      counted = λ l. omega (arith, w.counted few, length-append all more);
      too_long = λ l. omega (arith, l, w.counted few, length-append all more);
      kept = λ l room. absurd (omega (arith, room, leb-false _ _ f));
    }

with_written : (all more : List ℕ) (s : BytesWritten) → HasWritten all s → HasWritten (all ++ more) (with_bytes_appended s more)
with_written all more s w = put_written _ _ all more s refl refl w

begun_written : (room : ℕ) → HasWritten (header One) (script_without_steps room)
begun_written room =
    with_written [] (header One) (record { bytes = []; len = 0; room = room }) (record { counted = λ l. refl; too_long = λ l. absurd (omega (arith, l)); kept = λ l m. refl })

-- ---- steps

steps_written : (steps : List Step) (all : List ℕ) (s : BytesWritten) → HasWritten all s → HasWritten (all ++ flat_map spelling steps) (with_steps_appended s steps)
steps_written [] all s w = subst (λ l. HasWritten l s) (sym (append-nil all)) w
steps_written (step ∷ steps) all s w =
    subst (λ l. HasWritten l (with_steps_appended (with_bytes_appended s (spelling step)) steps)) (append_assoc all (spelling step) (flat_map spelling steps))
    (steps_written steps (all ++ spelling step) (with_bytes_appended s (spelling step)) (with_written all (spelling step) s w))

items_spelled : (steps : List Step) → flat_map item_spelling (map Once steps) ≡ flat_map spelling steps
items_spelled [] = refl
items_spelled (step ∷ steps) = ap (λ l. spelling step ++ l) (items_spelled steps)

-- the bytes of a script that was made of steps
pub script_written : (room : ℕ) (steps : List Step) → HasWritten (encoding (script_of_steps steps)) (with_steps_appended (script_without_steps room) steps)
script_written room steps =
    subst (λ l. HasWritten (header One ++ l) (with_steps_appended (script_without_steps room) steps)) (sym (items_spelled steps))
    (steps_written steps (header One) (script_without_steps room) (begun_written room))

room_of : (within fits : Bool) (s : BytesWritten) (bytes more : List ℕ) (len : ℕ) →
    (let new : BytesWritten = (if within then record s { bytes = if fits then bytes else more; len = len } else s) in new).room ≡ s.room
room_of true fits s bytes more len = refl
room_of false fits s bytes more len = refl

room_bytes : (s : BytesWritten) (more : List ℕ) → (with_bytes_appended s more).room ≡ s.room
room_bytes s more = room_of (nat_le s.len script_limit) (nat_le (s.len + length more) s.room) s (s.bytes ++ more) s.bytes (s.len + length more)

room_with : (steps : List Step) (s : BytesWritten) → (with_steps_appended s steps).room ≡ s.room
room_with [] s = refl
room_with (step ∷ steps) s = room_with steps (with_bytes_appended s (spelling step)) ∙ room_bytes s (spelling step)

-- its room stays
pub room_stays : (room : ℕ) (steps : List Step) → (with_steps_appended (script_without_steps room) steps).room ≡ room
room_stays room steps = room_with steps (script_without_steps room)

-- ---- what they spell

items_fit : (steps : List Step) → AreInRange steps → AreItemsOf One (map Once steps)
items_fit [] all = tt
items_fit (step ∷ steps) (fits, all) = (fits, items_fit steps all)

expanded_once : (steps : List Step) → expanded (map Once steps) ≡ steps
expanded_once [] = refl
expanded_once (step ∷ steps) = ap (λ l. step ∷ l) (expanded_once steps)

not_empty : (l : List ℕ) → (l ≡ [] → ⊥) → 1 ≤ length l
not_empty [] some = absurd (some refl)
not_empty (b ∷ l) some = omega arith

-- a step has at least one byte
as_long : (steps : List Step) → AreInRange steps → length steps ≤ length (flat_map spelling steps)
as_long [] all = omega arith
as_long (step ∷ steps) (fits, all) =
    let one = not_empty (spelling step) (λ e. some_byte step [] fits (append-nil (spelling step) ∙ e)) in
    omega (arith, one, as_long steps all, length-append (spelling step) (flat_map spelling steps))

-- steps in range are a script, unless they have too many bytes
pub script_spells : (steps : List Step) → AreInRange steps → length (encoding (script_of_steps steps)) ≤ script_limit →
    Spells (encoding (script_of_steps steps)) (script_of_steps steps)
script_spells steps all short =
    let len = ap length (items_spelled steps) in
    let count = ap length (expanded_once steps) in
    encoding_spells (script_of_steps steps) (items_fit steps all)
    (omega (arith, short, len, count, as_long steps all, length-append (header One) (flat_map item_spelling (map Once steps))))
