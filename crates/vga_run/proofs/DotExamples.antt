-- Steps of a plain screen, computed.
use Rattle.std.proofs.Common.{◌≡◌, ◌≢◌, inl, inr, [], ◌∷◌, Some, None, refl}
use Rattle.vga_bits.specs.declared.refusal.Refusal.TheVariants.{TooFar, BadBlock}
use Rattle.bios_modes.specs.Modes.{colour_text}
use Rattle.bios_modes.specs.Fonts.{FontSet}
use Rattle.vga_script.specs.declared.step.Step.TheVariants.{Int, Advance, Frame}
use Rattle.vga_run.specs.declared.answer.Answer.TheVariants.{Done, Refused}
use Rattle.vga_run.specs.Answer.{Short}
use Rattle.bios_screen.specs.Step.{refusal_on, next}
use Rattle.bios_screen.specs.Loaded.{load_glyphs}
use Rattle.bios_screen.specs.Drawing.{Drawing, total_dots_of_frame_in_mode, take_dot, take_dots}
use Rattle.vga_run.specs.DotReport.{answer_on_drawing, drawing_after, AreDotReportSteps}

not_none : {X : Type 0} (x : X) → Some x ≢ None
not_none x e = absurd (cc)

module _ (fonts : FontSet) (b : Drawing) where
  -- the most dots that a step may take, and one more
  most : answer_on_drawing fonts b (Advance 16777216) ≡ Short Done
  unfolding answer_on_drawing
  most = refl

  too_many : answer_on_drawing fonts b (Advance 16777217) ≡ Short (Refused TooFar)
  unfolding answer_on_drawing
  too_many = refl

  is_taken : drawing_after fonts b (Advance 16777216) ≡ take_dots 16777216 b
  unfolding drawing_after
  is_taken = refl

  left : drawing_after fonts b (Advance 16777217) ≡ b
  unfolding drawing_after
  left = refl

  -- mode 3 with text of 8 lines; five dots, the cursor set, a loading of glyphs that wants a block and is refused; the frame's other dots
  are_of_dots : AreDotReportSteps fonts (Int 0x0003 0 0 0 [] ∷ Int 0x1112 0 0 0 [] ∷ Advance 5 ∷ Int 0x0200 0 0 0 [] ∷ Int 0x1110 0x0800 1 0 [] ∷ Frame ∷ [])
  unfolding drawing_after take_dots take_dot total_dots_of_frame_in_mode refusal_on next load_glyphs
  are_of_dots =
      ((not_none colour_text, refl), (inl ((not_none colour_text, refl), refl), (inr refl, (tt, (tt, (inl (not_none BadBlock), (tt, tt)))))))
