use Rattle.std.proofs.Common.{◌≡◌, ℕ, ◌+◌, ◌-◌, ◌++◌, List, length, take, drop, sym, ap, ◌∙◌, arith, length-drop}
use Rattle.std.proofs.Math.Seq.{take-append-add}
use Rattle.std.proofs.lemmas.List.{take-append-le, take_all}
use Rattle.vga_card.proofs.canvas.repeated.copy_last_bytes.Goals as goal

joined : (used len : ℕ) (prefix new rest : List ℕ) → length prefix ≡ used → length new ≡ len → take (used + len) (prefix ++ (new ++ rest)) ≡ prefix ++ new
joined used len prefix new rest e f =
    ap (λ (n : ℕ). take (n + len) (prefix ++ (new ++ rest))) (sym e) ∙ take-append-add prefix (new ++ rest) len
    ∙ ap (λ (x : List ℕ). prefix ++ x) (take-append-le len new rest (omega (arith, f)) ∙ take_all len new (omega (arith, f)))

pub returns-clause-copied : goal.returns-clause-copied
returns-clause-copied c =
    let used = c.args.used in
    let len = c.args.len in
    let prefix = c.split_at_mut-prefix.result.0.now in
    let new = c.copy_from_slice.new.self in
    let last = drop (used - len) prefix in
    let short = length-drop (used - len) prefix in
    let after : new ≡ last = c.copy_from_slice.ensures.after ∙ take_all (length prefix - (used - len)) last (omega (arith, short)) in
    let long : length new ≡ len = omega (arith, ap length after, short, c.split_at_mut-prefix.ensures.front_len, c.requires.few) in
    joined used len prefix new _ c.split_at_mut-prefix.ensures.front_len long ∙ ap (λ (x : List ℕ). prefix ++ x) after
    ∙ ap (λ (x : List ℕ). x ++ drop (used - len) x) c.split_at_mut-prefix.ensures.front
