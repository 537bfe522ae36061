use Rattle.std.proofs.Common.{ℕ, List, ◌∷◌, ◌++◌, ap, ◌∙◌, subst}
use Rattle.vga_bits.specs.Saved.{IsPut}
use Rattle.vga_bits.proofs.SavedLemmas.{put_behind}
use Rattle.vga_crtc.specs.Saved.{saved_crtc}
use Rattle.vga_crtc.proofs.crtc.Crtc.save.Goals as goal

pub returns-clause-put : goal.returns-clause-put
unfolding saved_crtc
returns-clause-put c =
    let a = c.self.inside in
    subst (λ (l : List ℕ). IsPut c.args.out.now c.put_bytes.new.out c.args.at c.put_bytes.result l)
    (ap (λ (l : List ℕ). l ++ (a.index ∷ c.saved.result)) c.values.ensures ∙ ap (λ (l : List ℕ). a.registers ++ (a.index ∷ l)) c.saved.ensures
    ∙ ap saved_crtc c.self.view_is)
    (put_behind c.put_bytes-at.ensures.put (put_behind c.put_byte-at.ensures.put c.put_bytes.ensures.put))
