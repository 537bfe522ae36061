-- What the caller has of a call over a script is its outcome.
use Rattle.std.proofs.Common.{◌≡◌, ℕ, List, Result, Ok, Err, refl, subst, ap}
use Rattle.vga_bits.specs.declared.fault.Fault.{Fault}
use Rattle.vga_c.specs.Buffers.{IsCopied}
use Rattle.vga_c.specs.Outcome.{HasOutcomeWithProperty, fault_place, fault_status, script_output}

pub has_bytes : (IsThis : Result (List ℕ) Fault → Type 0) (bytes copied out_old out : List ℕ) (len_old len place status : ℕ) → IsThis (Ok bytes)
    → copied ≡ bytes → IsCopied copied out_old out len status → HasOutcomeWithProperty IsThis (script_output out_old len_old place) (script_output out len place) status
has_bytes IsThis bytes copied out_old out len_old len place status is same told =
    (Ok bytes, is, (refl, subst (λ (b : List ℕ). IsCopied b out_old out len status) same told))

pub has_fault : (IsThis : Result (List ℕ) Fault → Type 0) (out : List ℕ) (len place_old place status : ℕ) (why : Fault) → IsThis (Err why)
    → status ≡ fault_status why → place ≡ fault_place why place_old → HasOutcomeWithProperty IsThis (script_output out len place_old) (script_output out len place) status
has_fault IsThis out len place_old place status why is number at = (Err why, is, (number, ap (script_output out len) at))
