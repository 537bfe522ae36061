-- What a call does to a card in the memory of a C program.
use Rattle.std.specs.Prelude.{◌≡◌, ℕ, true, false}
use Rattle.vga_script.specs.declared.step.Step.{Step}
use Rattle.vga_run.specs.declared.machine.Machine.{Machine}
use Rattle.vga_run.specs.Step.{after_step, answer_to}
use Rattle.vga_c.specs.Handle.{HandleState, machine_after_owed_dots}
use Rattle.vga_c.specs.Status.{no_card_status, status_of, value_read_or_before}

-- the card is open, and has this machine
abbrev pub HoldsMachine : HandleState → Machine → Type 0
HoldsMachine card machine = (card.is_open ≡ true) × (machine_after_owed_dots card ≡ machine)

-- a card that is not open stays as it is, and the status says so
abbrev pub ClosedCardStaysUnchanged : HandleState → HandleState → ℕ → Type 0
ClosedCardStaysUnchanged old new status = old.is_open ≡ false → (new ≡ old) × (status ≡ no_card_status)

-- while the card is not open, a call leaves the caller's outputs as they are
abbrev pub ClosedCardLeavesOutput : {A : Type 0} → HandleState → A → A → Type 0
ClosedCardLeavesOutput old before after = old.is_open ≡ false → after ≡ before

-- an open card takes one step of a script, and the status is that of the step's answer
abbrev pub OpenCardTakesStep : Step → HandleState → HandleState → ℕ → Type 0
OpenCardTakesStep step old new status = old.is_open ≡ true →
    HoldsMachine new (after_step (machine_after_owed_dots old) step)
    × (status ≡ status_of (answer_to (machine_after_owed_dots old) step))

-- an open card's step gives the caller's output what it reads; a refused step leaves the output
abbrev pub OutputHasWhatStepReads : Step → HandleState → ℕ → ℕ → Type 0
OutputHasWhatStepReads step old before after = old.is_open ≡ true →
    after ≡ value_read_or_before (answer_to (machine_after_owed_dots old) step) before

-- an open card stays as it is
abbrev pub OpenCardKeepsMachine : HandleState → HandleState → Type 0
OpenCardKeepsMachine old new = old.is_open ≡ true → HoldsMachine new (machine_after_owed_dots old)

-- the caller's output has this value of an open card's machine, and the status is 0
abbrev pub OpenCardGivesValue : {A : Type 0} → (Machine → A) → HandleState → A → ℕ → Type 0
OpenCardGivesValue value old after status = old.is_open ≡ true →
    (after ≡ value (machine_after_owed_dots old)) × (status ≡ 0)
