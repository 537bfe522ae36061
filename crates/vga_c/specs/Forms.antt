-- Pictures as rows of words, in the form that the caller asks for.
use Rattle.std.specs.Prelude.{◌≡◌, ◌+◌, ◌-◌, ◌*◌, ◌/◌, ◌%◌, ◌==◌, ◌<◌, ◌≤◌, ◌&&◌, ℕ, true, false}
use Rattle.std.specs.Prelude.{nat_le, Bool, if◌then◌else◌, List, length, slice_index, bit_or}
use Rattle.vga_card.specs.Card.{CardState}
use Rattle.vga_card.specs.Pixels.{pixel_height, pixel_width}
use Rattle.vga_script.specs.declared.step.Step.TheVariants.{Frame}
use Rattle.vga_run.specs.declared.machine.Machine.{Machine}
use Rattle.vga_run.specs.Answer.{StepAnswer, Picture, Ragged}
use Rattle.vga_run.specs.Step.{after_step, answer_to}
use Rattle.vga_c.specs.declared.forms.Form.{Form}
use Rattle.vga_c.specs.declared.forms.WordPicture.{WordPicture}
use Rattle.vga_c.specs.Handle.{HandleState, machine_after_owed_dots}
use Rattle.vga_c.specs.Status.{bad_argument_status, no_room_status, ragged_status}

-- a component of six bits widened to eight: its two highest bits follow it
abbrev pub widened_to_eight_bits : ℕ → ℕ
widened_to_eight_bits six = 4 * six + six / 16

-- the word 00RRGGBB of dot i of a picture
abbrev pub rgb_word_of_dot : List ℕ → ℕ → ℕ
rgb_word_of_dot bytes i = 0x1_0000 * widened_to_eight_bits (slice_index bytes (3 * i))
    + (0x100 * widened_to_eight_bits (slice_index bytes (3 * i + 1))
    + widened_to_eight_bits (slice_index bytes (3 * i + 2)))

-- Rows of words: row y begins at pitch * y, and its word x is `word x y`. What lies between and
-- after the rows stays as it was.
pub record AreRowsOfWords (width height pitch : ℕ) (word : ℕ → ℕ → ℕ)
    (old new : List ℕ) : Type 0 where
  pub words : (x y : ℕ) → x < width → y < height → slice_index new (pitch * y + x) ≡ word x y
  pub beside : (x y : ℕ) → width ≤ x → x < pitch → y < height →
      slice_index new (pitch * y + x) ≡ slice_index old (pitch * y + x)
  pub behind : (i : ℕ) → pitch * height ≤ i → slice_index new i ≡ slice_index old i
  pub size : length new ≡ length old

-- whether a buffer of `len` words has room for the rows at this pitch
abbrev pub has_room : ℕ → ℕ → ℕ → ℕ → Bool
has_room width height pitch len = nat_le width pitch && nat_le (pitch * height) len

-- the words are in the buffer, if it has room for them
abbrev pub AreRowsInBuffer : ℕ → ℕ → ℕ → (ℕ → ℕ → ℕ) → List ℕ → List ℕ → ℕ → Type 0
AreRowsInBuffer width height pitch word old new status =
    (has_room width height pitch (length old) ≡ true →
    AreRowsOfWords width height pitch word old new × (status ≡ 0))
    × (has_room width height pitch (length old) ≡ false → (new ≡ old) × (status ≡ no_room_status))

-- ---- forms

-- how many of n there are if every m-th is taken, from the first on
abbrev pub div_ceil : ℕ → ℕ → ℕ
div_ceil n m = (n + (m - 1)) / m

-- whether flags ask for opaque words, whose top byte is FF
abbrev pub wants_opaque_words : ℕ → Bool
wants_opaque_words flags = flags % 2 == 1

-- whether flags ask for each pixel once, even if the screen shows it several times
abbrev pub wants_each_pixel_once : ℕ → Bool
wants_each_pixel_once flags = flags / 2 % 2 == 1

-- the form that flags ask for
abbrev pub form_of : ℕ → CardState → Form
form_of flags c = record {
  across = if wants_each_pixel_once flags then pixel_width c else 1;
  down = if wants_each_pixel_once flags then pixel_height c else 1;
  above = if wants_opaque_words flags then 0xFF00_0000 else 0;
}

-- a form that flags can ask for
pub record IsForm (form : Form) : Type 0 where
  pub some_across : 0 < form.across
  pub across : form.across ≤ 2
  pub some_down : 0 < form.down
  pub down : form.down ≤ 64

-- ---- the words of a picture

-- word x of row y of a picture with lines of `width` dots
abbrev pub form_word : Form → ℕ → List ℕ → ℕ → ℕ → ℕ
form_word form width bytes x y =
    bit_or form.above (rgb_word_of_dot bytes (width * (form.down * y) + form.across * x))

-- the description of a picture in a form: words in a row, rows, and what each word stands for
abbrev pub picture_description : Form → ℕ → ℕ → WordPicture
picture_description form width height = record {
  width = div_ceil width form.across;
  height = div_ceil height form.down;
  across = form.across;
  down = form.down;
}

-- The output has a picture in this form, or only its description if there was no room. If rows
-- differ in width, the status says so, and the output is unchanged.
abbrev pub HasPictureInForm : Form → StepAnswer → ℕ → WordPicture → WordPicture → List ℕ → List ℕ
    → ℕ →
    Type 0
HasPictureInForm form (Picture width height bytes) pitch told_old told old new status =
    (told ≡ picture_description form width height) × AreRowsInBuffer (div_ceil width form.across)
    (div_ceil height form.down) pitch (form_word form width bytes) old new status
HasPictureInForm form Ragged pitch told_old told old new status =
    (told ≡ told_old) × ((new ≡ old) × (status ≡ ragged_status))
HasPictureInForm form reply pitch told_old told old new status = ⊥

-- Known flags: the machine comes to the end of the frame under way, and the output has its picture
-- in that form. With other flags, machine and output are unchanged.
abbrev pub DrawsFrameInForm : ℕ → Machine → Machine → ℕ → WordPicture → WordPicture → List ℕ → List ℕ →
    ℕ → Type 0
DrawsFrameInForm flags old_machine new_machine pitch told_old told old new status =
    (flags < 4 → (new_machine ≡ after_step old_machine Frame) × HasPictureInForm (form_of flags
    old_machine.card) (answer_to old_machine Frame) pitch told_old told old new status)
    × (4 ≤ flags → (new_machine ≡ old_machine) × ((told ≡ told_old) × ((new ≡ old)
    × (status ≡ bad_argument_status))))

-- an open card draws the frame under way in the form that the flags ask for; with unknown flags
-- nothing changes
abbrev pub DrawsOpenCardInForm : ℕ → HandleState → HandleState → ℕ → WordPicture → WordPicture → List ℕ →
    List ℕ → ℕ → Type 0
DrawsOpenCardInForm flags card_old card pitch told_old told old new status = card_old.is_open ≡ true →
    (card.is_open ≡ true) × DrawsFrameInForm flags (machine_after_owed_dots card_old) (machine_after_owed_dots card) pitch told_old
    told old new status
