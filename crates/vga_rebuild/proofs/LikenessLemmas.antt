-- Machines whose saved bytes are alike are alike.
use Rattle.std.proofs.Common.{◌≡◌, ◌∙◌, ℕ, ◌+◌, ◌≤◌, sym, ap, ap₂, arith, List, [], take, drop}
use Rattle.std.proofs.lemmas.List.{take-take, drop-take, get_or-take}
use Rattle.std.specs.Prelude.{slice_index}
use Rattle.bios_modes.specs.Saved.{bda_from}
use Rattle.vga_host.specs.Saved.{host_from}
use Rattle.vga_crtc.specs.Saved.{crtc_from}
use Rattle.vga_attr.specs.Saved.{attr_from}
use Rattle.vga_dac.specs.Saved.{dac_from}
use Rattle.vga_card.specs.Saved.{card_from, past_misc, past_crtc, past_attr}
use Rattle.vga_run.specs.declared.machine.Machine.{Machine}
use Rattle.vga_run.specs.Saved.{saved_machine, past_header, past_bda, machine_from, machine_without_unseen_dots}
use Rattle.vga_rebuild.specs.declared.rebuilt.Likeness.{Likeness}
use Rattle.vga_rebuild.specs.declared.rebuilt.Likeness.TheVariants.{Same, SameButForDots}
use Rattle.vga_rebuild.specs.Rebuilt.{AreAlike, machine_without_dots}
use Rattle.vga_rebuild.specs.Likeness.{AreSavedAlike}

-- bytes with the same first n + m have the same first n
first : (n m : ℕ) (one other : List ℕ) → n ≤ m → take m one ≡ take m other → take n one ≡ take n other
first n m one other few same = sym (take-take n m one few) ∙ ap (take n) same ∙ take-take n m other few

-- and, past the first n, the same next m
next : (n m : ℕ) (one other : List ℕ) → take (n + m) one ≡ take (n + m) other → take m (drop n one) ≡ take m (drop n other)
next n m one other same = sym (drop-take n m one) ∙ ap (drop n) same ∙ drop-take n m other

-- and the same byte at the beginning
byte : (m : ℕ) (one other : List ℕ) → 1 ≤ m → take m one ≡ take m other → slice_index one 0 ≡ slice_index other 0
byte m one other some same =
    sym (get_or-take m one 0 0 some) ∙ ap (λ (l : List ℕ). slice_index l 0) same ∙ get_or-take m other 0 0 some

module _ (one other : Machine) (fonts : one.fonts ≡ other.fonts)
    (one_back : machine_from one.fonts (saved_machine one) ≡ machine_without_unseen_dots one)
    (other_back : machine_from other.fonts (saved_machine other) ≡ machine_without_unseen_dots other) where
  same : saved_machine one ≡ saved_machine other → machine_without_unseen_dots one ≡ machine_without_unseen_dots other
  same bytes = sym one_back ∙ ap₂ machine_from fonts bytes ∙ other_back

  but_for_dots : take 263029 (drop 9 (saved_machine one)) ≡ take 263029 (drop 9 (saved_machine other))
      → machine_without_dots one ≡ machine_without_dots other
  unfolding machine_from card_from
  but_for_dots state =
      let card = next 31 262998 (past_header (saved_machine one)) (past_header (saved_machine other)) state in
      let after_misc = next 1 262997 (past_bda (saved_machine one)) (past_bda (saved_machine other)) card in
      let after_crtc = next 37 262960 (past_misc (past_bda (saved_machine one))) (past_misc (past_bda (saved_machine other))) after_misc in
      let after_attr = next 23 262937 (past_crtc (past_bda (saved_machine one))) (past_crtc (past_bda (saved_machine other))) after_crtc in
      let after_dac = next 773 262164 (past_attr (past_bda (saved_machine one))) (past_attr (past_bda (saved_machine other))) after_attr in
      let bda = sym (ap (λ (m : Machine). m.bda) one_back)
      ∙ ap bda_from (first 31 263029 (past_header (saved_machine one)) (past_header (saved_machine other)) (omega arith) state)
      ∙ ap (λ (m : Machine). m.bda) other_back in
      let misc = sym (ap (λ (m : Machine). m.card.misc) one_back)
      ∙ byte 262998 (past_bda (saved_machine one)) (past_bda (saved_machine other)) (omega arith) card
      ∙ ap (λ (m : Machine). m.card.misc) other_back in
      let crtc = sym (ap (λ (m : Machine). m.card.crtc) one_back)
      ∙ ap crtc_from (first 37 262997 (past_misc (past_bda (saved_machine one))) (past_misc (past_bda (saved_machine other))) (omega arith) after_misc)
      ∙ ap (λ (m : Machine). m.card.crtc) other_back in
      let attr = sym (ap (λ (m : Machine). m.card.attr) one_back)
      ∙ ap attr_from (first 23 262960 (past_crtc (past_bda (saved_machine one))) (past_crtc (past_bda (saved_machine other))) (omega arith) after_crtc)
      ∙ ap (λ (m : Machine). m.card.attr) other_back in
      let dac = sym (ap (λ (m : Machine). m.card.dac) one_back)
      ∙ ap dac_from (first 773 262937 (past_attr (past_bda (saved_machine one))) (past_attr (past_bda (saved_machine other))) (omega arith) after_attr)
      ∙ ap (λ (m : Machine). m.card.dac) other_back in
      let host = sym (ap (λ (m : Machine). m.card.host) one_back)
      ∙ ap host_from after_dac
      ∙ ap (λ (m : Machine). m.card.host) other_back in
      λ j. record {
        card = record { host = host j; crtc = crtc j; attr = attr j; dac = dac j; misc = misc j; drawn = [] };
        bda = bda j;
        fonts = fonts j;
      }

  pub alike : (likeness : Likeness) → AreSavedAlike likeness (saved_machine one) (saved_machine other) → AreAlike likeness one other
  alike Same bytes = same bytes
  alike SameButForDots state = but_for_dots state
