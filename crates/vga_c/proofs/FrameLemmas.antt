-- The output of a frame is the picture of its dots.
use Rattle.std.proofs.Common.{ℕ, List, sym, subst, Option}
use Rattle.vga_card.specs.Picture.{Dot, IsPictureOf, bytes_of_dots}
use Rattle.vga_card.specs.declared.drawn.Drawn.{Drawn}
use Rattle.vga_card.specs.declared.drawn.Drawn.TheVariants as drawn
use Rattle.vga_card.specs.declared.shape.Shape.{Shape}
use Rattle.vga_run.specs.Answer.{StepAnswer, Picture, of_drawn, of_frame, of_shape}
use Rattle.vga_c.specs.declared.frames.Size.{Size}
use Rattle.vga_c.specs.Frames.{HasDotBytes, HasDotWords}
use Rattle.vga_c.specs.Forms.{HasPictureInForm}
use Rattle.vga_c.specs.Indexed.{HasColourNumbers, IndexedOutput}
use Rattle.vga_c.specs.declared.forms.Form.{Form}
use Rattle.vga_c.specs.declared.forms.WordPicture.{WordPicture}

-- what is said of the answer of a lent picture is said of that of its dots
of_dots : (P : StepAnswer → Type 0) (dots : List Dot) (lent : Drawn) → IsPictureOf dots lent → P (of_drawn lent) → P (of_frame dots)
of_dots P dots (drawn.Picture width height bytes) is told =
    subst (λ (x : Option Shape). P (of_shape x (bytes_of_dots dots))) (sym is.0)
    (subst (λ (b : List ℕ). P (Picture width height b)) is.1 told)
of_dots P dots drawn.Ragged is told = subst (λ (x : Option Shape). P (of_shape x (bytes_of_dots dots))) (sym is) told

pub bytes_of_frame : (dots : List Dot) (lent : Drawn) (size_old size : Size) (old new : List ℕ) (status : ℕ) → IsPictureOf dots lent →
    HasDotBytes (of_drawn lent) size_old size old new status → HasDotBytes (of_frame dots) size_old size old new status
bytes_of_frame dots lent size_old size old new status is told =
    of_dots (λ (reply : StepAnswer). HasDotBytes reply size_old size old new status) dots lent is told

pub words_of_frame : (dots : List Dot) (lent : Drawn) (pitch : ℕ) (size_old size : Size) (old new : List ℕ) (status : ℕ) → IsPictureOf dots lent →
    HasDotWords (of_drawn lent) pitch size_old size old new status → HasDotWords (of_frame dots) pitch size_old size old new status
words_of_frame dots lent pitch size_old size old new status is told =
    of_dots (λ (reply : StepAnswer). HasDotWords reply pitch size_old size old new status) dots lent is told

pub form_of_frame : (dots : List Dot) (lent : Drawn) (form : Form) (pitch : ℕ) (told_old told : WordPicture) (old new : List ℕ) (status : ℕ) →
    IsPictureOf dots lent → HasPictureInForm form (of_drawn lent) pitch told_old told old new status →
    HasPictureInForm form (of_frame dots) pitch told_old told old new status
form_of_frame dots lent form pitch told_old told old new status is has =
    of_dots (λ (reply : StepAnswer). HasPictureInForm form reply pitch told_old told old new status) dots lent is has

pub numbers_of_frame : (dots : List Dot) (lent : Drawn) (before after : IndexedOutput) (status : ℕ) → IsPictureOf dots lent →
    HasColourNumbers (of_drawn lent) before after status → HasColourNumbers (of_frame dots) before after status
numbers_of_frame dots lent before after status is told =
    of_dots (λ (reply : StepAnswer). HasColourNumbers reply before after status) dots lent is told
