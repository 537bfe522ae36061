-- An adapter is read back from its bytes.
use Rattle.std.proofs.Common.{◌≡◌, ℕ, ◌+◌, ◌*◌, refl, sym, ap, ◌∙◌, subst, arith, Bool, true, false, List, [], ◌++◌, length, take, drop}
use Rattle.std.proofs.Common.{length-append}
use Rattle.std.specs.Prelude.{slice_index, bit_and, if◌then◌else◌}
use Rattle.std.proofs.lemmas.List.{take_at, drop_at}
use Rattle.vga_host.specs.Saved.{saved_host, IsSavedHost, host_from}
use Rattle.vga_crtc.specs.declared.beam.Beam.{Beam}
use Rattle.vga_crtc.specs.Crtc.{CrtcState}
use Rattle.vga_crtc.specs.Saved.{saved_crtc, IsSavedCrtc, crtc_from}
use Rattle.vga_attr.specs.Saved.{saved_attr, IsSavedAttr, attr_from}
use Rattle.vga_dac.specs.Saved.{saved_dac, IsSavedDac, dac_from}
use Rattle.vga_card.specs.Picture.{Dot}
use Rattle.vga_card.specs.Card.{CardState}
use Rattle.vga_card.specs.Dots.{dots_of_frame_so_far}
use Rattle.vga_card.specs.Saved.{saved_dots, saved_dots_from, AreSavedDots, saved_card, past_misc, past_crtc, past_attr, past_dac, past_host, IsSavedCard}
use Rattle.vga_card.specs.Saved.{card_from}
use Rattle.vga_card.specs.FreshCanvas.{without_dots_of_ended_frame}
use Rattle.vga_card.proofs.SavedLemmas.{none_saved, none_back, none_len}

-- each part is read back from its bytes, and so are the dots
pub record IsWhole (c : CardState) : Type 0 where
  pub misc : bit_and c.misc 0xEF ≡ c.misc
  pub crtc : IsSavedCrtc (saved_crtc c.crtc)
  pub crtc_back : crtc_from (saved_crtc c.crtc) ≡ c.crtc
  pub attr : IsSavedAttr (saved_attr c.attr)
  pub attr_back : attr_from (saved_attr c.attr) ≡ c.attr
  pub dac : IsSavedDac (saved_dac c.dac)
  pub dac_back : dac_from (saved_dac c.dac) ≡ c.dac
  pub host : IsSavedHost (saved_host c.host)
  pub host_back : host_from (saved_host c.host) ≡ c.host
  pub dots : AreSavedDots c.crtc.beam (saved_dots (dots_of_frame_so_far c))
  pub dots_back : saved_dots_from (saved_dots (dots_of_frame_so_far c)) ≡ dots_of_frame_so_far c
  pub dots_len : length (saved_dots (dots_of_frame_so_far c)) ≡ 2048 + 3 * length (dots_of_frame_so_far c)

-- at the first dot of a frame no dots are read back, and elsewhere those that are drawn
pub fresh_saved : (v : Bool) (b : Beam) (drawn : List Dot) → (v ≡ false → AreSavedDots b (saved_dots drawn))
    → AreSavedDots b (saved_dots (if v then [] else drawn))
fresh_saved true b drawn there = none_saved b
fresh_saved false b drawn there = there refl

pub fresh_back : (v : Bool) (drawn : List Dot) → saved_dots_from (saved_dots drawn) ≡ drawn
    → saved_dots_from (saved_dots (if v then [] else drawn)) ≡ (if v then [] else drawn)
fresh_back true drawn back = none_back
fresh_back false drawn back = back

pub fresh_len : (v : Bool) (drawn : List Dot) → length (saved_dots drawn) ≡ 2048 + 3 * length drawn
    → length (saved_dots (if v then [] else drawn)) ≡ 2048 + 3 * length (let dots : List Dot = (if v then [] else drawn) in dots)
fresh_len true drawn len = none_len
fresh_len false drawn len = len

module _ (c : CardState) (is : IsWhole c) where
  abbrev from_host : List ℕ
  from_host = saved_host c.host ++ saved_dots (dots_of_frame_so_far c)

  abbrev from_dac : List ℕ
  from_dac = saved_dac c.dac ++ from_host

  abbrev from_attr : List ℕ
  from_attr = saved_attr c.attr ++ from_dac

  misc_past : past_misc (saved_card c) ≡ saved_crtc c.crtc ++ from_attr
  unfolding saved_card
  misc_past = refl

  crtc_past : past_crtc (saved_card c) ≡ from_attr
  crtc_past = ap (drop 37) misc_past ∙ drop_at (saved_crtc c.crtc) from_attr 37 is.crtc.size

  attr_past : past_attr (saved_card c) ≡ from_dac
  attr_past = ap (drop 23) crtc_past ∙ drop_at (saved_attr c.attr) from_dac 23 is.attr.size

  dac_past : past_dac (saved_card c) ≡ from_host
  dac_past = ap (drop 773) attr_past ∙ drop_at (saved_dac c.dac) from_host 773 is.dac.size

  host_past : past_host (saved_card c) ≡ saved_dots (dots_of_frame_so_far c)
  host_past = ap (drop 262164) dac_past ∙ drop_at (saved_host c.host) (saved_dots (dots_of_frame_so_far c)) 262164 is.host.size

  crtc_are : take 37 (past_misc (saved_card c)) ≡ saved_crtc c.crtc
  crtc_are = ap (take 37) misc_past ∙ take_at (saved_crtc c.crtc) from_attr 37 is.crtc.size

  attr_are : take 23 (past_crtc (saved_card c)) ≡ saved_attr c.attr
  attr_are = ap (take 23) crtc_past ∙ take_at (saved_attr c.attr) from_dac 23 is.attr.size

  dac_are : take 773 (past_attr (saved_card c)) ≡ saved_dac c.dac
  dac_are = ap (take 773) attr_past ∙ take_at (saved_dac c.dac) from_host 773 is.dac.size

  host_are : take 262164 (past_dac (saved_card c)) ≡ saved_host c.host
  host_are = ap (take 262164) dac_past ∙ take_at (saved_host c.host) (saved_dots (dots_of_frame_so_far c)) 262164 is.host.size

  misc_is : slice_index (saved_card c) 0 ≡ c.misc
  unfolding saved_card
  misc_is = refl

  pub card_len : length (saved_card c) ≡ 265046 + 3 * length (dots_of_frame_so_far c)
  unfolding saved_card
  card_len = omega (
    arith,
    is.crtc.size,
    is.attr.size,
    is.dac.size,
    is.host.size,
    is.dots_len,
    length-append (saved_crtc c.crtc) from_attr,
    length-append (saved_attr c.attr) from_dac,
    length-append (saved_dac c.dac) from_host,
    length-append (saved_host c.host) (saved_dots (dots_of_frame_so_far c)),
  )

  beam_is : (crtc_from (take 37 (past_misc (saved_card c)))).beam ≡ c.crtc.beam
  beam_is = ap (λ (l : List ℕ). (crtc_from l).beam) crtc_are ∙ ap (λ (x : CrtcState). x.beam) is.crtc_back

  pub card_is_saved : IsSavedCard (saved_card c)
  card_is_saved = record {
    size = omega (arith, card_len);
    misc = subst (λ (v : ℕ). bit_and v 0xEF ≡ v) (sym misc_is) is.misc;
    crtc = subst (λ (l : List ℕ). IsSavedCrtc l) (sym crtc_are) is.crtc;
    attr = subst (λ (l : List ℕ). IsSavedAttr l) (sym attr_are) is.attr;
    dac = subst (λ (l : List ℕ). IsSavedDac l) (sym dac_are) is.dac;
    host = subst (λ (l : List ℕ). IsSavedHost l) (sym host_are) is.host;
    dots = subst (λ (b : Beam). AreSavedDots b (past_host (saved_card c))) (sym beam_is)
        (subst (λ (l : List ℕ). AreSavedDots c.crtc.beam l) (sym host_past) is.dots);
  }

  pub card_is_back : card_from (saved_card c) ≡ without_dots_of_ended_frame c
  unfolding card_from
  card_is_back =
      let host = ap host_from host_are ∙ is.host_back in
      let crtc = ap crtc_from crtc_are ∙ is.crtc_back in
      let attr = ap attr_from attr_are ∙ is.attr_back in
      let dac = ap dac_from dac_are ∙ is.dac_back in
      let dots = ap saved_dots_from host_past ∙ is.dots_back in
      λ j. record { host = host j; crtc = crtc j; attr = attr j; dac = dac j; misc = misc_is j; drawn = dots j }

-- bytes that are those of an adapter are restored as such
pub saved_there : (c : CardState) (bytes : List ℕ) → bytes ≡ saved_card c → IsSavedCard (saved_card c) → IsSavedCard bytes
saved_there c bytes e saved = subst IsSavedCard (sym e) saved
