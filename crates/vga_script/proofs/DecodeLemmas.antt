-- Decoding the bytes of a script.
use Rattle.std.proofs.Common.{◌≡◌, ◌≢◌, ℕ, ◌<◌, ◌≤◌, ◌^◌, ◌↔◌, Bool, false, IsTrue, inl, inr, ◌+◌, ◌-◌, List, [], ◌∷◌, ◌++◌, length, drop, refl, sym, ap, ◌∙◌}
use Rattle.std.proofs.Common.{arith, append_assoc, append-nil, length-append, None, subst}
use Rattle.vga_bits.specs.declared.fault.Fault.{Fault}
use Rattle.vga_bits.specs.declared.fault.Fault.TheVariants as fault
use Rattle.byteorder.specs.Endian.{little_bytes, little_number}
use Rattle.vga_script.specs.declared.step.Step.{Step}
use Rattle.vga_script.specs.declared.dump_range.Shown.TheVariants as shown
use Rattle.vga_script.specs.Item.{Item, ScriptItems, script_of_items, expanded, step_limit, steps_of_item, IsItemOf, Once}
use Rattle.vga_script.specs.declared.version.Version.{Version}
use Rattle.vga_script.specs.DumpRange.{IsShownInRange, kind_dac, kind_plane}
use Rattle.vga_script.specs.Spelling.{StartsWithStep, header, opcode_out, opcode_out_word, opcode_in, opcode_in_word, opcode_put, opcode_put_word, opcode_get}
use Rattle.vga_script.specs.Spelling.{opcode_get_word, opcode_int, opcode_advance, opcode_frame, opcode_show, item_spelling, StartsWithItem, SpellsItems}
use Rattle.vga_script.specs.Spelling.{Spells}
use Rattle.vga_script.specs.Decoding.{dump_len, fields_len, StartsWithPlaneOutOfRange, StartsWithBadStep, StartsWithCutStep, SpellsUpTo, IsItemFault, HasItemFault}
use Rattle.vga_script.specs.Decoding.{IsSpellingFault}
use Rattle.vga_script.proofs.ItemLemmas.{length-expanded-push}

-- an opcode whose fields are not all there
pub cut_out : (fields : List ℕ) → length fields < 3 → StartsWithCutStep (opcode_out ∷ fields)
cut_out fields short = (opcode_out, fields, 3, refl, refl, short)

pub cut_out_word : (fields : List ℕ) → length fields < 4 → StartsWithCutStep (opcode_out_word ∷ fields)
cut_out_word fields short = (opcode_out_word, fields, 4, refl, refl, short)

pub cut_in : (fields : List ℕ) → length fields < 2 → StartsWithCutStep (opcode_in ∷ fields)
cut_in fields short = (opcode_in, fields, 2, refl, refl, short)

pub cut_in_word : (fields : List ℕ) → length fields < 2 → StartsWithCutStep (opcode_in_word ∷ fields)
cut_in_word fields short = (opcode_in_word, fields, 2, refl, refl, short)

pub cut_put : (fields : List ℕ) → length fields < 5 → StartsWithCutStep (opcode_put ∷ fields)
cut_put fields short = (opcode_put, fields, 5, refl, refl, short)

pub cut_put_word : (fields : List ℕ) → length fields < 6 → StartsWithCutStep (opcode_put_word ∷ fields)
cut_put_word fields short = (opcode_put_word, fields, 6, refl, refl, short)

pub cut_get : (fields : List ℕ) → length fields < 4 → StartsWithCutStep (opcode_get ∷ fields)
cut_get fields short = (opcode_get, fields, 4, refl, refl, short)

pub cut_get_word : (fields : List ℕ) → length fields < 4 → StartsWithCutStep (opcode_get_word ∷ fields)
cut_get_word fields short = (opcode_get_word, fields, 4, refl, refl, short)

pub cut_int : (fields : List ℕ) → length fields < 10 + little_number 2 (drop 8 fields) → StartsWithCutStep (opcode_int ∷ fields)
cut_int fields short = (opcode_int, fields, 10 + little_number 2 (drop 8 fields), refl, refl, short)

-- and the others
pub cut_advance : (fields : List ℕ) → length fields < 4 → StartsWithCutStep (opcode_advance ∷ fields)
cut_advance fields short = (opcode_advance, fields, 4, refl, refl, short)

pub cut_kind : (fields : List ℕ) → length fields < 1 → StartsWithCutStep (opcode_show ∷ fields)
cut_kind [] short = (opcode_show, [], 1, refl, refl, short)
cut_kind (kind ∷ fields) short = absurd (omega arith)

pub cut_dac : (fields : List ℕ) → length fields < 1 → StartsWithCutStep (opcode_show ∷ kind_dac ∷ fields)
cut_dac fields short = (opcode_show, kind_dac ∷ fields, 2, refl, refl, omega arith)

pub cut_plane : (fields : List ℕ) → length fields < 5 → StartsWithCutStep (opcode_show ∷ kind_plane ∷ fields)
cut_plane fields short = (opcode_show, kind_plane ∷ fields, 6, refl, refl, omega arith)

-- a first byte that is no opcode
pub no_opcode : (bytes fields : List ℕ) (opcode : ℕ) → bytes ≡ opcode ∷ fields → fields_len opcode fields ≡ None → StartsWithBadStep bytes
no_opcode bytes fields opcode e is = inl (opcode, fields, e, is)

-- the same, where it is the opcode of no numeric step and of none of the others
pub no_numeric_opcode : (fields : List ℕ) (opcode : ℕ) → (opcode ≢ opcode_int → opcode ≢ opcode_frame → opcode ≢ opcode_show → fields_len opcode fields ≡ None) →
    opcode ≢ opcode_int → opcode ≢ opcode_frame → opcode ≢ opcode_show → StartsWithBadStep (opcode ∷ fields)
no_numeric_opcode fields opcode h int frame shown = no_opcode (opcode ∷ fields) fields opcode refl (h int frame shown)

-- and a byte that is no kind
pub no_kind : (fields rest : List ℕ) (kind : ℕ) → fields ≡ kind ∷ rest → dump_len (kind ∷ rest) ≡ None → StartsWithBadStep (opcode_show ∷ fields)
no_kind fields rest kind e is = inl (opcode_show, fields, refl, ap dump_len e ∙ is)

-- bytes of a plane that are not there, or too many
pub out_of_range : (fields rest : List ℕ) (plane offset count : ℕ) (b : Bool) → fields ≡ plane ∷ (little_bytes 2 offset ++ (little_bytes 2 count ++ rest)) →
    offset < 2 ^ 16 → count < 2 ^ 16
    → (IsTrue b ↔ IsShownInRange (shown.Plane plane offset count)) → b ≡ false → StartsWithPlaneOutOfRange (opcode_show ∷ kind_plane ∷ fields)
out_of_range fields rest plane offset count b e ho hn same is =
    (plane, offset, count, rest, ho, hn, ap (λ (l : List ℕ). opcode_show ∷ kind_plane ∷ l) e, λ h. let yes = same.1 h in absurd (cc))

pub bad_range : (bytes : List ℕ) → StartsWithPlaneOutOfRange bytes → StartsWithBadStep bytes
bad_range bytes h = inr h

-- ---- the items of a script

-- one more item after some
items_more : (version : Version) (prefix : List ℕ) (items : List Item) (i : Item) → SpellsItems version prefix items → IsItemOf version i →
    SpellsItems version (prefix ++ item_spelling i) (items ++ i ∷ [])
items_more version prefix [] i none fits = ([], (fits, ap (λ (l : List ℕ). l ++ item_spelling i) none ∙ sym (append-nil (item_spelling i))), refl)
items_more version prefix (j ∷ items) i (rest, (fits, whole), more) last = (
  rest ++ item_spelling i,
  (fits, ap (λ (l : List ℕ). l ++ item_spelling i) whole ∙ append_assoc (item_spelling j) rest (item_spelling i)),
  items_more version rest items i more last,
)

-- the items so far, which mean `so_far` steps, stand before the rest of a script
pub record HasDecoded (bytes : List ℕ) (version : Version) (items : List Item) (so_far : ℕ) (rest : List ℕ) : Type 0 where
  pub prefix : List ℕ
  pub good : Spells prefix (script_of_items version items)
  pub whole : bytes ≡ prefix ++ rest
  pub short : length rest ≤ length bytes
  pub count : so_far ≡ length (expanded items)
  pub few : so_far ≤ step_limit

-- no item is decoded
decoded_nothing : (bytes rest : List ℕ) (version : Version) → bytes ≡ header version ++ rest → HasDecoded bytes version [] 0 rest
decoded_nothing bytes rest version e = record {
  prefix = header version;
  good = ([], refl, refl, omega arith);
  whole = e;
  short = let l = ap length e in omega arith;
  count = refl;
  few = omega arith;
}

-- one more is
pub decoded_more : (bytes rest others : List ℕ) (version : Version) (items : List Item) (so_far more : ℕ) (i : Item) →
    HasDecoded bytes version items so_far rest → StartsWithItem version rest i others
    → more ≡ so_far + length (steps_of_item i) → more ≤ step_limit → HasDecoded bytes version (items ++ i ∷ []) more others
decoded_more bytes rest others version items so_far more i h (fits, e) sum few =
    let pushed = length-expanded-push items i in
    let counted = h.count in
    record {
      prefix = h.prefix ++ item_spelling i;
      good = (
        h.good.0 ++ item_spelling i,
        ap (λ (l : List ℕ). l ++ item_spelling i) h.good.1 ∙ append_assoc (header version) h.good.0 (item_spelling i),
        items_more version h.good.0 items i h.good.2 fits,
        omega arith,
      );
      whole = h.whole ∙ ap (λ (l : List ℕ). h.prefix ++ l) e ∙ sym (append_assoc h.prefix (item_spelling i) others);
      short = let l = ap length e ∙ length-append (item_spelling i) others in let s = h.short in omega arith;
      count = omega arith;
      few = few;
    }

-- a list of no length
pub nothing : {A : Type 0} (xs : List A) → length xs ≡ 0 → xs ≡ []
nothing [] e = refl
nothing (x ∷ xs) e = absurd (omega arith)

-- nothing is left
pub decoded_all : (bytes rest : List ℕ) (version : Version) (items : List Item) (so_far : ℕ) → HasDecoded bytes version items so_far rest → rest ≡ [] →
    Spells bytes (script_of_items version items)
decoded_all bytes rest version items so_far h none =
    subst (λ (l : List ℕ). Spells l (script_of_items version items)) (sym (h.whole ∙ ap (λ (l : List ℕ). h.prefix ++ l) none ∙ append-nil h.prefix)) h.good

-- the rest stands where the items so far end
up_to : (bytes rest : List ℕ) (version : Version) (items : List Item) (so_far offset : ℕ) → HasDecoded bytes version items so_far rest →
    offset ≡ length bytes - length rest → SpellsUpTo bytes (script_of_items version items) offset rest
up_to bytes rest version items so_far offset h e = record {
  prefix = h.prefix;
  whole = h.whole;
  good = h.good;
  place = let l = ap length h.whole ∙ length-append h.prefix rest in omega arith;
}

-- a fault of the next item is that of the script
pub item_fault : (bytes : List ℕ) (f : Fault) → HasItemFault bytes f → IsSpellingFault bytes f
item_fault bytes (fault.BadStep at) h = h
item_fault bytes (fault.Truncated at) h = inr h
item_fault bytes (fault.TooMany at) h = h
item_fault bytes _ (script, offset, rest, up, h) = absurd h

pub decoded_fault : (bytes rest : List ℕ) (version : Version) (items : List Item) (so_far offset : ℕ) (f : Fault) → HasDecoded bytes version items so_far rest →
    offset ≡ length bytes - length rest
    → IsItemFault version so_far offset rest f → IsSpellingFault bytes f
decoded_fault bytes rest version items so_far offset f h e bad =
    item_fault bytes f (
      script_of_items version items,
      offset,
      rest,
      up_to bytes rest version items so_far offset h e,
      subst (λ (n : ℕ). IsItemFault version n offset rest f) h.count bad,
    )

-- ---- passing over items

pub decoded_none : (bytes rest : List ℕ) (version : Version) → bytes ≡ header version ++ rest → (items : List Item) × HasDecoded bytes version items 0 rest
decoded_none bytes rest version e = ([], decoded_nothing bytes rest version e)

-- one more item is passed over
pub passed_more : (bytes rest others : List ℕ) (version : Version) (so_far more : ℕ) (i : Item) → (items : List Item)
    × HasDecoded bytes version items so_far rest → StartsWithItem version rest i others
    → more ≡ so_far + length (steps_of_item i) → more ≤ step_limit → (items : List Item) × HasDecoded bytes version items more others
passed_more bytes rest others version so_far more i (items, h) starts sum few = (
  items ++ i ∷ [],
  decoded_more bytes rest others version items so_far more i h starts sum few,
)

-- and one more step
pub passed_step : (bytes rest others : List ℕ) (version : Version) (so_far : ℕ) (step : Step)
    → (items : List Item) × HasDecoded bytes version items so_far rest →
    StartsWithStep rest step others → so_far ≢ step_limit
    → (items : List Item) × HasDecoded bytes version items (so_far + 1) others
passed_step bytes rest others version so_far step (items, h) starts other = let few = h.few in
    passed_more bytes rest others version so_far (so_far + 1) (Once step) (items, h) starts refl (omega arith)

-- with which there are too many
pub many_steps : (bytes rest others : List ℕ) (version : Version) (so_far offset : ℕ) (step : Step) → (items : List Item)
    × HasDecoded bytes version items so_far rest → offset ≡ length bytes - length rest → StartsWithStep rest step others
    → so_far ≡ step_limit → IsSpellingFault bytes (fault.TooMany offset)
many_steps bytes rest others version so_far offset step (items, h) e starts is = decoded_fault bytes rest version items so_far offset (fault.TooMany offset) h e
    (refl, (Once step, others, starts, omega arith))

-- all items were passed over
pub passed_all : (bytes rest : List ℕ) (version : Version) (so_far : ℕ) → (items : List Item) × HasDecoded bytes version items so_far rest → length rest ≡ 0 →
    (script : ScriptItems) × Spells bytes script
passed_all bytes rest version so_far (items, h) none = (script_of_items version items, decoded_all bytes rest version items so_far h (nothing rest none))
