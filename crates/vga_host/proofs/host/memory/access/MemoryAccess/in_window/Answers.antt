-- An address is in the window where its distance from the first, wrapped, is less than the length.
use Rattle.std.proofs.Common.{ℕ, ◌≡◌, ◌+◌, ◌-◌, ◌%◌, ◌<◌, ◌≤◌, ◌&&◌, Bool, true, false, nat_le, nat_lt, IsTrue, subst, sym, ap, ◌∙◌, arith, ⊎_elim}
use Rattle.std.proofs.lemmas.Bool.Decides.{nat_tests}
use Rattle.vga_host.specs.Memory.Address.{is_memory_enabled, window_start}
use Rattle.vga_host.proofs.host.memory.access.MemoryAccess.in_window.Goals as goal

within : (on : Bool) (start len a : ℕ) → start + len < 4294967296 → a < 4294967296 → on ≡ true → (a + (4294967296 - start)) % 4294967296 < len
    → IsTrue (on && (nat_le start a && nat_lt a (start + len)))
within on start len a small fits is less = grind (arith, nat_tests)

there : (start len a : ℕ) → start + len < 4294967296 → a < 4294967296 → (a + (4294967296 - start)) % 4294967296 < len
    → (a + (4294967296 - start)) % 4294967296 ≡ a - start
there start len a small fits less = omega arith

beyond : (on : Bool) (start len a : ℕ) → start + len < 4294967296 → a < 4294967296 → on ≡ true × len ≤ (a + (4294967296 - start)) % 4294967296
    → IsTrue (on && (nat_le start a && nat_lt a (start + len))) → ⊥
beyond on start len a small fits is found = let less = is.1 in grind (arith, nat_tests)

off : (on : Bool) (start len a : ℕ) → on ≡ false → IsTrue (on && (nat_le start a && nat_lt a (start + len))) → ⊥
off on start len a is found = grind (arith, nat_tests)

pub returns-then-offset-self : goal.returns-then-offset-self
returns-then-offset-self c = λ h is.
    let a = c.args.address in
    let s = c.args.self in
    let on = is_memory_enabled c.args.misc in
    let fits : a < 4294967296 = omega arith in
    let decoded = within on s.start s.len a is.small fits (sym c.is_memory_enabled.ensures ∙ c.if-is_memory_enabled.true) c.if-offset-self.true in (
      subst (λ n. IsTrue (on && (nat_le (window_start h) a && nat_lt a (window_start h + n)))) is.len
          (subst (λ m. IsTrue (on && (nat_le m a && nat_lt a (m + s.len)))) is.start decoded),
      ap (λ x. x % 65536) (there s.start s.len a is.small fits c.if-offset-self.true) ∙ ap (λ m. (a - m) % 65536) is.start,
    )

pub returns-else-is_memory_enabled : goal.returns-else-is_memory_enabled
returns-else-is_memory_enabled c = λ h is found.
    let a = c.args.address in
    let s = c.args.self in
    let on = is_memory_enabled c.args.misc in
    let fits : a < 4294967296 = omega arith in
    let inside : IsTrue (on && (nat_le s.start a && nat_lt a (s.start + s.len))) =
    subst (λ m. IsTrue (on && (nat_le m a && nat_lt a (m + s.len)))) (sym is.start)
    (subst (λ n. IsTrue (on && (nat_le (window_start h) a && nat_lt a (window_start h + n)))) (sym is.len) found) in
    ⊎_elim (λ w. beyond on s.start s.len a is.small fits (sym c.is_memory_enabled.ensures ∙ w.0, w.1) inside)
    (λ w. off on s.start s.len a (sym c.is_memory_enabled.ensures ∙ w) inside) c.else-is_memory_enabled.either
