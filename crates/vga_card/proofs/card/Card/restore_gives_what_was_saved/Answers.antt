use Rattle.std.proofs.Common.{◌≡◌, false, subst}
use Rattle.vga_crtc.specs.declared.beam.Beam.{Beam}
use Rattle.vga_crtc.specs.Beam.{is_first_dot_of_frame}
use Rattle.vga_card.specs.Card.{CardState}
use Rattle.vga_card.specs.Saved.{saved_dots, AreSavedDots}
use Rattle.vga_card.proofs.SavedCards.{IsWhole, fresh_saved, fresh_back, fresh_len, card_is_saved, card_is_back, card_len}
use Rattle.vga_card.proofs.card.Card.restore_gives_what_was_saved.Goals as goal

pub returns-clause-saved : goal.returns-clause-saved
returns-clause-saved c =
    let a = c.self.inside in
    let old : CardState = record { host = a.host; crtc = a.crtc; attr = a.attr; dac = a.dac; misc = a.misc; drawn = a.canvas.dots } in
    let dots = c.restore_gives_what_was_saved-5.ensures in
    let away = subst (λ (b : Beam). is_first_dot_of_frame b ≡ false → AreSavedDots b (saved_dots a.canvas.dots)) c.beam.ensures.value dots.saved in
    let whole : IsWhole old = record {
      misc = c.self.invariant.1;
      crtc = c.restore_gives_what_was_saved.ensures.saved;
      crtc_back = c.restore_gives_what_was_saved.ensures.back;
      attr = c.restore_gives_what_was_saved-2.ensures.saved;
      attr_back = c.restore_gives_what_was_saved-2.ensures.back;
      dac = c.restore_gives_what_was_saved-3.ensures.saved;
      dac_back = c.restore_gives_what_was_saved-3.ensures.back;
      host = c.restore_gives_what_was_saved-4.ensures.saved;
      host_back = c.restore_gives_what_was_saved-4.ensures.back;
      dots = fresh_saved (is_first_dot_of_frame a.crtc.beam) a.crtc.beam a.canvas.dots away;
      dots_back = fresh_back (is_first_dot_of_frame a.crtc.beam) a.canvas.dots dots.back;
      dots_len = fresh_len (is_first_dot_of_frame a.crtc.beam) a.canvas.dots dots.len;
    } in
    card_is_saved c.args.self.now (subst (λ (x : CardState). IsWhole x) c.self.view_is whole)

pub returns-clause-back : goal.returns-clause-back
returns-clause-back c =
    let a = c.self.inside in
    let old : CardState = record { host = a.host; crtc = a.crtc; attr = a.attr; dac = a.dac; misc = a.misc; drawn = a.canvas.dots } in
    let dots = c.restore_gives_what_was_saved-5.ensures in
    let away = subst (λ (b : Beam). is_first_dot_of_frame b ≡ false → AreSavedDots b (saved_dots a.canvas.dots)) c.beam.ensures.value dots.saved in
    let whole : IsWhole old = record {
      misc = c.self.invariant.1;
      crtc = c.restore_gives_what_was_saved.ensures.saved;
      crtc_back = c.restore_gives_what_was_saved.ensures.back;
      attr = c.restore_gives_what_was_saved-2.ensures.saved;
      attr_back = c.restore_gives_what_was_saved-2.ensures.back;
      dac = c.restore_gives_what_was_saved-3.ensures.saved;
      dac_back = c.restore_gives_what_was_saved-3.ensures.back;
      host = c.restore_gives_what_was_saved-4.ensures.saved;
      host_back = c.restore_gives_what_was_saved-4.ensures.back;
      dots = fresh_saved (is_first_dot_of_frame a.crtc.beam) a.crtc.beam a.canvas.dots away;
      dots_back = fresh_back (is_first_dot_of_frame a.crtc.beam) a.canvas.dots dots.back;
      dots_len = fresh_len (is_first_dot_of_frame a.crtc.beam) a.canvas.dots dots.len;
    } in
    card_is_back c.args.self.now (subst (λ (x : CardState). IsWhole x) c.self.view_is whole)

pub returns-clause-len : goal.returns-clause-len
returns-clause-len c =
    let a = c.self.inside in
    let old : CardState = record { host = a.host; crtc = a.crtc; attr = a.attr; dac = a.dac; misc = a.misc; drawn = a.canvas.dots } in
    let dots = c.restore_gives_what_was_saved-5.ensures in
    let away = subst (λ (b : Beam). is_first_dot_of_frame b ≡ false → AreSavedDots b (saved_dots a.canvas.dots)) c.beam.ensures.value dots.saved in
    let whole : IsWhole old = record {
      misc = c.self.invariant.1;
      crtc = c.restore_gives_what_was_saved.ensures.saved;
      crtc_back = c.restore_gives_what_was_saved.ensures.back;
      attr = c.restore_gives_what_was_saved-2.ensures.saved;
      attr_back = c.restore_gives_what_was_saved-2.ensures.back;
      dac = c.restore_gives_what_was_saved-3.ensures.saved;
      dac_back = c.restore_gives_what_was_saved-3.ensures.back;
      host = c.restore_gives_what_was_saved-4.ensures.saved;
      host_back = c.restore_gives_what_was_saved-4.ensures.back;
      dots = fresh_saved (is_first_dot_of_frame a.crtc.beam) a.crtc.beam a.canvas.dots away;
      dots_back = fresh_back (is_first_dot_of_frame a.crtc.beam) a.canvas.dots dots.back;
      dots_len = fresh_len (is_first_dot_of_frame a.crtc.beam) a.canvas.dots dots.len;
    } in
    card_len c.args.self.now (subst (λ (x : CardState). IsWhole x) c.self.view_is whole)
