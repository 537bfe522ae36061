-- Why a run writes the report of its steps that is known in other words.
use Rattle.std.proofs.Common.{◌≡◌, ◌∙◌, inl, inr, ℕ, List, Option, Some, None, IfSome, Result, Ok, Err, sym, ap, subst}
use Rattle.std.specs.Io.KnownBytes.{Appends}
use Rattle.vga_bits.specs.Tracked.{AppendsPrefix}
use Rattle.vga_bits.specs.declared.fault.Fault.{Fault}
use Rattle.vga_bits.specs.declared.fault.Fault.TheVariants.{FontSize, WriteFault}
use Rattle.bios_modes.specs.Bounds.{AreBytes, AreFonts}
use Rattle.bios_modes.specs.Fonts.{FontSet, fonts_of}
use Rattle.vga_script.specs.declared.step.Step.{Step}
use Rattle.vga_script.specs.Input.{FaultStopsReading}
use Rattle.vga_script.specs.Spelled.{SpellsExpanded}
use Rattle.vga_script.specs.Step.{AreInRange}
use Rattle.vga_run.specs.KnownReport.{WritesReportOrPrefix, RunWritesKnownReport}
use Rattle.vga_run.specs.Report.{report_of, steps_until}
use Rattle.vga_run.specs.Run.{RunAnswers, ReportsSteps, RunsScript}
use Rattle.vga_run.proofs.ScreenLemmas.{glyph_bytes}

-- the law that no bytes mean two lists of steps, and that the fields of those that they mean fit
abbrev pub OneList : Type 0
OneList = (bytes : List ℕ) (first second : List Step) → SpellsExpanded bytes first → SpellsExpanded bytes second → first ≡ second

abbrev pub StepsFit : Type 0
StepsFit = (bytes : List ℕ) (steps : List Step) → SpellsExpanded bytes steps → AreInRange steps

-- the steps of an input are those that its bytes mean
input_script : OneList → (input : Option (List ℕ)) (bytes read : List ℕ) (steps found : List Step) → input ≡ Some bytes
    → IfSome input (λ all. all ≡ read) → SpellsExpanded bytes steps → SpellsExpanded read found → found ≡ steps
input_script law input bytes read steps found e is spelled others =
    let same : bytes ≡ read = subst (λ (i : Option (List ℕ)). IfSome i (λ all. all ≡ read)) e is in
    law read found steps others (subst (λ (l : List ℕ). SpellsExpanded l steps) same spelled)

-- steps of a kind, and their report
module _ (Are : FontSet → List Step → Type 0) (report : FontSet → List Step → List ℕ) where
  -- the law that this is their report
  abbrev ReportsAlike : Type 0
  ReportsAlike = (fonts : FontSet) (steps : List Step) → AreFonts fonts → AreInRange steps → Are fonts steps → report_of fonts steps ≡ report fonts steps

  steps_known : ReportsAlike → (until : Option ℕ) (fonts : FontSet) (steps : List Step) (before after : Option (List ℕ)) (result : Result Unit Fault)
      → AreFonts fonts → AreInRange steps → until ≡ None → Are fonts steps → ReportsSteps until fonts steps before after result
      → WritesReportOrPrefix (report fonts steps) before after result
  steps_known law until fonts steps before after (Ok u) glyphs range whole are w =
      subst (Appends before after) (ap (λ (n : Option ℕ). report_of fonts (steps_until n steps)) whole ∙ law fonts steps glyphs range are) w
  steps_known law until fonts steps before after (Err WriteFault) glyphs range whole are w =
      subst (AppendsPrefix before after) (ap (λ (n : Option ℕ). report_of fonts (steps_until n steps)) whole ∙ law fonts steps glyphs range are) w
  steps_known law until fonts steps before after (Err _) glyphs range whole are w = tt

  pub script_known : ReportsAlike → (until : Option ℕ) (file : List ℕ) (steps : List Step) (before after : Option (List ℕ)) (result : Result Unit Fault)
      → AreBytes file → AreInRange steps → RunsScript until file steps before after result → until ≡ None → Are (fonts_of file) steps
      → WritesReportOrPrefix (report (fonts_of file) steps) before after result
  script_known law until file steps before after (Err FontSize) bytes range w whole are = tt
  script_known law until file steps before after (Ok u) bytes range w whole are =
      steps_known law until (fonts_of file) steps before after (Ok u) (glyph_bytes file bytes) range whole are w.1
  script_known law until file steps before after (Err WriteFault) bytes range w whole are =
      steps_known law until (fonts_of file) steps before after (Err WriteFault) (glyph_bytes file bytes) range whole are w.1
  script_known law until file steps before after (Err _) bytes range w whole are = tt

  pub run_known : ReportsAlike → OneList → StepsFit → (until : Option ℕ) (file : List ℕ) (input before after : Option (List ℕ)) (result : Result Unit Fault)
      → AreBytes file → RunAnswers until file input before after result → RunWritesKnownReport Are report until file input before after result
  run_known law one fit until file input before after (Ok u) glyphs (size, (found, (read, is, others), w)) =
      λ bytes steps whole e spelled are.
      let same = input_script one input bytes read steps found e is.0 spelled others in
      steps_known law until (fonts_of file) steps before after (Ok u) (glyph_bytes file glyphs) (fit bytes steps spelled) whole are
      (subst (λ (l : List Step). Appends before after (report_of (fonts_of file) (steps_until until l))) same w)
  run_known law one fit until file input before after (Err WriteFault) glyphs (size, (found, (read, is, others), w)) =
      λ bytes steps whole e spelled are.
      let same = input_script one input bytes read steps found e is.0 spelled others in
      steps_known law until (fonts_of file) steps before after (Err WriteFault) (glyph_bytes file glyphs) (fit bytes steps spelled) whole are
      (subst (λ (l : List Step). AppendsPrefix before after (report_of (fonts_of file) (steps_until until l))) same w)
  run_known law one fit until file input before after (Err _) glyphs h = λ bytes steps whole e spelled are. tt

  -- an unread input has no such report
  pub unread_known : (until : Option ℕ) (file : List ℕ) (input before after : Option (List ℕ)) (f : Fault) → FaultStopsReading input f
      → RunWritesKnownReport Are report until file input before after (Err f)
  unread_known until file input before after f (inl is) =
      subst (λ (x : Fault). RunWritesKnownReport Are report until file input before after (Err x)) (sym is) (λ bytes steps whole e spelled are. tt)
  unread_known until file input before after f (inr (inl (is, long))) =
      subst (λ (x : Fault). RunWritesKnownReport Are report until file input before after (Err x)) (sym is) (λ bytes steps whole e spelled are. tt)
  unread_known until file input before after f (inr (inr is)) =
      subst (λ (x : Fault). RunWritesKnownReport Are report until file input before after (Err x)) (sym is) (λ bytes steps whole e spelled are. tt)
