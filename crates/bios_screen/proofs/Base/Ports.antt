-- The ports of the CRT controller and of input status 1, at 3B4 or at 3D4.
use Rattle.std.proofs.Common.{◌≡◌, ℕ, ◌+◌, refl, ap, ◌∙◌, Bool, true, false, Some}
use Rattle.bios_screen.proofs.Prelude.{is_set, card_meaning, CardState, crtc_port, Plan, run, ◌>>◌}
use Rattle.vga_card.specs.declared.port.Port.TheVariants.{CrtcIndex, CrtcData, InputStatus1}
use Rattle.vga_card.specs.Port.{port_of, crtc_port_of}
use Rattle.vga_card.specs.Cycles.{out_at, inp_at, out_reached, inp_reached}
use Rattle.bios_services.specs.Plan.{out}
use Rattle.bios_services.specs.Cycles.{write_crtc, reset_attribute_flip_flop}
use Rattle.bios_screen.proofs.Base.Plans.{run_bind}

-- each of the three port numbers reaches its register
record Reached (misc : ℕ) : Type 0 where
  index : port_of misc (crtc_port misc) ≡ Some CrtcIndex
  value : port_of misc (crtc_port misc + 1) ≡ Some CrtcData
  status : port_of misc (crtc_port misc + 6) ≡ Some InputStatus1

reached_by : (misc : ℕ) (b : Bool) → is_set misc 0 ≡ b → Reached misc
unfolding port_of crtc_port_of
reached_by misc true e = record { index = rw e refl; value = rw e refl; status = rw e refl }
reached_by misc false e = record { index = rw e refl; value = rw e refl; status = rw e refl }

reached : (misc : ℕ) → Reached misc
reached misc = reached_by misc (is_set misc 0) refl

-- writing register i of the CRT controller
pub crtc_runs : (c : CardState) (i v : ℕ) → (run card_meaning (write_crtc (crtc_port c.misc) i v) c).0 ≡ (out_at (out_at c (Some CrtcIndex) i).0 (Some CrtcData) v).0
unfolding out_reached
crtc_runs c i v =
    ap (λ p. (run card_meaning (out (crtc_port c.misc + 1) v) (out_at c p i).0).0) (reached c.misc).index
    ∙ ap (λ p. (out_at (out_at c (Some CrtcIndex) i).0 p v).0) (reached c.misc).value

-- after `reset_attribute_flip_flop` the attribute controller expects an index, and the plan goes on
pub expected_runs : {A : Type 0} (rest : Plan A) (c : CardState) → run card_meaning (reset_attribute_flip_flop (crtc_port c.misc) >> rest) c
    ≡ run card_meaning rest (record c { attr = record c.attr { is_data = false } })
unfolding inp_reached
expected_runs rest c =
    run_bind card_meaning (reset_attribute_flip_flop (crtc_port c.misc)) (λ _. rest) c
    ∙ ap (λ p. run card_meaning rest (inp_at c p).0) (reached c.misc).status
