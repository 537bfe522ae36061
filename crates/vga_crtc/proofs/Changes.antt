-- When the bits of input status 1 change, by countdowns to the first dot of a line or of a character.
use Rattle.std.proofs.Common.{◌≡◌, ℕ, zero, suc, ◌+◌, ◌<◌, ◌≤◌, ◌⊎◌, refl, sym, ap, ◌∙◌, subst, ⊎_elim, inl, inr, arith, Bool, true, false, List}
use Rattle.std.specs.Prelude.{nat_lt, nat_le, ◌&&◌, not}
use Rattle.std.proofs.lemmas.Bool.{cases_lt, cases_order}
use Rattle.std.proofs.lemmas.Bool.Decides.{nat_tests}
use Rattle.vga_crtc.specs.declared.beam.Beam.{Beam}
use Rattle.vga_crtc.specs.Fields.{horizontal_display_end, vertical_display_end, vertical_retrace_start}
use Rattle.vga_crtc.specs.Beam.{characters, lines, dot, dots}
use Rattle.vga_crtc.specs.Status.{is_display, is_retrace, retrace_lines}
use Rattle.vga_crtc.specs.Clock.{ChangesAfter, NeverChanges, dots_to_line, dots_to_character}
use Rattle.vga_crtc.proofs.Countdowns.{ToDot, ToCharacter, ToLine, ToFrame, Leads, dot_leads, CountsDown, count_ends, count_keeps, always_known}
use Rattle.vga_crtc.proofs.Countdowns.{IsAtLine, some_to_line, to_line_counts, in_line, next_dot, next_of_line, line_last}

-- ---- tests that are known

-- a test that is known up to the end of a countdown, and is otherwise there, changes then
changes : (test : Beam → Bool) (v : Bool) (Known PieceEnd : Beam → Type 0) (left : Beam → ℕ) (cw : ℕ) (r : List ℕ) → CountsDown Known PieceEnd left cw r →
    ((c : Beam) → Known c → test c ≡ v) → ((c : Beam) → PieceEnd c → test c ≡ not v) → (n : ℕ) (b : Beam) → Known b → left b ≡ n → 0 < n →
    ChangesAfter test cw r b n
changes test v Known PieceEnd left cw r counts is flips zero b known e some = absurd (omega arith)
changes test v Known PieceEnd left cw r counts is flips (suc n) b known e some = record {
  changed = flips (dots cw r (suc n) b) (count_ends Known PieceEnd left cw r counts n b known e) ∙ ap not (sym (is b known));
  first = λ m few. is (dots cw r m b) (count_keeps Known PieceEnd left cw r counts m b known (omega (arith, few, e))) ∙ sym (is b known);
}

-- a test that each dot keeps never changes
never : (test : Beam → Bool) (v : Bool) (Known : Beam → Type 0) (cw : ℕ) (r : List ℕ) → ((b c : Beam) → Known b → Leads cw r b c → Known c) →
    ((c : Beam) → Known c → test c ≡ v) → (b : Beam) → Known b → NeverChanges test cw r b
never test v Known cw r keeps is b known = λ m.
    is (dots cw r m b) (always_known Known cw r (λ c at. keeps c (dot cw r c) at (dot_leads cw r c)) m b known) ∙ sym (is b known)

-- a test that changes at the first dot of line t
changes_at_line : (test : Beam → Bool) (v : Bool) (Known : Beam → Type 0) (cw : ℕ) (r : List ℕ) (t : ℕ) → 0 < cw → t < lines r →
    ((b c : Beam) → Known b → Leads cw r b c → IsAtLine t c ⊎ Known c) → ((c : Beam) → Known c → test c ≡ v) →
    ((c : Beam) → IsAtLine t c → test c ≡ not v) → (b : Beam) → Known b → ChangesAfter test cw r b (dots_to_line cw r t b)
changes_at_line test v Known cw r t wide inside keeps is flips b known =
    changes test v Known (IsAtLine t) (dots_to_line cw r t) cw r (to_line_counts Known cw r t wide inside keeps) is flips (dots_to_line cw r t b) b known refl
    (some_to_line cw r t b)

-- ---- the vertical retrace, from line s to before line e

within_retrace : (s e v : ℕ) → s ≤ v → v < e → (nat_le s v && nat_lt v e) ≡ true
within_retrace s e v low high = grind (arith, nat_tests)

before_retrace : (s e v : ℕ) → v < s → (nat_le s v && nat_lt v e) ≡ false
before_retrace s e v below = grind (arith, nat_tests)

past_retrace : (s e v : ℕ) → e ≤ v → (nat_le s v && nat_lt v e) ≡ false
past_retrace s e v above = grind (arith, nat_tests)

is_within : (s e v : ℕ) → (nat_le s v && nat_lt v e) ≡ true → (s ≤ v) × (v < e)
is_within s e v test = (grind (arith, nat_tests), grind (arith, nat_tests))

is_outside : (s e v : ℕ) → (nat_le s v && nat_lt v e) ≡ false → (v < s) ⊎ (e ≤ v)
is_outside s e v test = ⊎_elim (λ (below : v < s). inl below)
    (λ (low : s ≤ v). ⊎_elim (λ (high : v < e). absurd (grind (arith, nat_tests))) (λ (above : e ≤ v). inr above) (cases_lt v e)) (cases_lt v s)

abbrev retrace_end : List ℕ → ℕ
retrace_end r = vertical_retrace_start r + retrace_lines r

abbrev IsOutside : List ℕ → Beam → Type 0
IsOutside r c = (c.line < vertical_retrace_start r) ⊎ (retrace_end r ≤ c.line)

outside_test : (r : List ℕ) (c : Beam) → IsOutside r c → is_retrace r c ≡ false
outside_test r c = ⊎_elim (before_retrace (vertical_retrace_start r) (retrace_end r) c.line) (past_retrace (vertical_retrace_start r) (retrace_end r) c.line)

some_retrace : (r : List ℕ) → 0 < retrace_lines r
some_retrace r = grind (arith, nat_tests)

-- outside the retrace it begins at its first line
pub retrace_begins : (cw : ℕ) (r : List ℕ) (b : Beam) → 0 < cw → is_retrace r b ≡ false → vertical_retrace_start r < lines r →
    ChangesAfter (is_retrace r) cw r b (dots_to_line cw r (vertical_retrace_start r) b)
retrace_begins cw r b wide test inside =
    let s = vertical_retrace_start r in
    changes_at_line (is_retrace r) false (IsOutside r) cw r s wide inside
    (λ b c known leads. ⊎_elim
    (λ (to : ToDot cw b c). inr (subst (λ v. (v < s) ⊎ (retrace_end r ≤ v)) (sym to.at.line) known))
    (⊎_elim
    (λ (to : ToCharacter cw r b c). inr (subst (λ v. (v < s) ⊎ (retrace_end r ≤ v)) (sym to.at.line) known))
    (⊎_elim
    (λ (to : ToLine cw r b c). ⊎_elim
    (λ (before : b.line < s). ⊎_elim
    (λ (here : b.line + 1 ≡ s). inl (record { line = to.at.line ∙ here; character = to.at.character; dot = to.at.dot }))
    (⊎_elim
    (λ (still : b.line + 1 < s). inr (inl (omega (arith, to.at.line, still))))
    (λ (past : s < b.line + 1). absurd (omega arith)))
    (cases_order (b.line + 1) s))
    (λ (after : retrace_end r ≤ b.line). inr (inr (omega (arith, to.at.line, after))))
    known)
    (λ (to : ToFrame cw r b c). ⊎_elim
    (λ (later : 0 < s). inr (inl (omega (arith, to.at.line, later))))
    (λ (first : s ≤ 0). inl (record { line = omega (arith, to.at.line, first); character = to.at.character; dot = to.at.dot }))
    (cases_lt 0 s))))
    leads)
    (outside_test r)
    (λ c at. within_retrace s (retrace_end r) c.line (omega (arith, at.line)) (omega (arith, at.line, some_retrace r)))
    b (is_outside s (retrace_end r) b.line test)

-- it never begins where the frame has no such line
pub retrace_never_begins : (cw : ℕ) (r : List ℕ) (b : Beam) → is_retrace r b ≡ false → lines r ≤ vertical_retrace_start r →
    NeverChanges (is_retrace r) cw r b
retrace_never_begins cw r b test none =
    let s = vertical_retrace_start r in
    never (is_retrace r) false (IsOutside r) cw r
    (λ b c known leads. ⊎_elim
    (λ (to : ToDot cw b c). subst (λ v. (v < s) ⊎ (retrace_end r ≤ v)) (sym to.at.line) known)
    (⊎_elim
    (λ (to : ToCharacter cw r b c). subst (λ v. (v < s) ⊎ (retrace_end r ≤ v)) (sym to.at.line) known)
    (⊎_elim
    (λ (to : ToLine cw r b c). inl (omega (arith, to.at.line, to.within, none)))
    (λ (to : ToFrame cw r b c). inl (omega (arith, to.at.line, none)))))
    leads)
    (outside_test r) b (is_outside s (retrace_end r) b.line test)

-- the beam is within the retrace
record IsInside (r : List ℕ) (c : Beam) : Type 0 where
  from : vertical_retrace_start r ≤ c.line
  to : c.line < retrace_end r

inside_test : (r : List ℕ) (c : Beam) → IsInside r c → is_retrace r c ≡ true
inside_test r c at = within_retrace (vertical_retrace_start r) (retrace_end r) c.line at.from at.to

inside_of : (r : List ℕ) (c : Beam) → is_retrace r c ≡ true → IsInside r c
inside_of r c test =
    let both = is_within (vertical_retrace_start r) (retrace_end r) c.line test in
    record { from = both.0; to = both.1 }

inside_moved : (r : List ℕ) (b c : Beam) → c.line ≡ b.line → IsInside r b → IsInside r c
inside_moved r b c same at = record { from = omega (arith, same, at.from); to = omega (arith, same, at.to) }

-- within the retrace it ends at the line after its last
pub retrace_ends : (cw : ℕ) (r : List ℕ) (b : Beam) → 0 < cw → is_retrace r b ≡ true → vertical_retrace_start r + retrace_lines r < lines r →
    ChangesAfter (is_retrace r) cw r b (dots_to_line cw r (vertical_retrace_start r + retrace_lines r) b)
retrace_ends cw r b wide test inside =
    let e = retrace_end r in
    changes_at_line (is_retrace r) true (IsInside r) cw r e wide inside
    (λ b c known leads. ⊎_elim
    (λ (to : ToDot cw b c). inr (inside_moved r b c to.at.line known))
    (⊎_elim
    (λ (to : ToCharacter cw r b c). inr (inside_moved r b c to.at.line known))
    (⊎_elim
    (λ (to : ToLine cw r b c). ⊎_elim
    (λ (still : b.line + 1 < e). inr (record { from = omega (arith, to.at.line, known.from); to = omega (arith, to.at.line, still) }))
    (λ (past : e ≤ b.line + 1). inl (record { line = omega (arith, to.at.line, past, known.to); character = to.at.character; dot = to.at.dot }))
    (cases_lt (b.line + 1) e))
    (λ (to : ToFrame cw r b c). absurd (omega (arith, to.last_line, known.to, inside)))))
    leads)
    (inside_test r)
    (λ c at. past_retrace (vertical_retrace_start r) e c.line (omega (arith, at.line)))
    b (inside_of r b test)

-- it ends with the frame, where the frame has no line past it
pub retrace_ends_with_frame : (cw : ℕ) (r : List ℕ) (b : Beam) → 0 < cw → is_retrace r b ≡ true → lines r ≤ vertical_retrace_start r + retrace_lines r →
    0 < vertical_retrace_start r → ChangesAfter (is_retrace r) cw r b (dots_to_line cw r 0 b)
retrace_ends_with_frame cw r b wide test past later =
    changes_at_line (is_retrace r) true (IsInside r) cw r 0 wide (omega arith)
    (λ b c known leads. ⊎_elim
    (λ (to : ToDot cw b c). inr (inside_moved r b c to.at.line known))
    (⊎_elim
    (λ (to : ToCharacter cw r b c). inr (inside_moved r b c to.at.line known))
    (⊎_elim
    (λ (to : ToLine cw r b c). inr (record { from = omega (arith, to.at.line, known.from); to = omega (arith, to.at.line, to.within, past) }))
    (λ (to : ToFrame cw r b c). inl to.at)))
    leads)
    (inside_test r)
    (λ c at. before_retrace (vertical_retrace_start r) (retrace_end r) c.line (omega (arith, at.line, later)))
    b (inside_of r b test)

-- it never ends where it has all lines of a frame
pub retrace_never_ends : (cw : ℕ) (r : List ℕ) (b : Beam) → is_retrace r b ≡ true → lines r ≤ vertical_retrace_start r + retrace_lines r →
    vertical_retrace_start r ≡ 0 → NeverChanges (is_retrace r) cw r b
retrace_never_ends cw r b test past first =
    never (is_retrace r) true (IsInside r) cw r
    (λ b c known leads. ⊎_elim
    (λ (to : ToDot cw b c). inside_moved r b c to.at.line known)
    (⊎_elim
    (λ (to : ToCharacter cw r b c). inside_moved r b c to.at.line known)
    (⊎_elim
    (λ (to : ToLine cw r b c). record { from = omega (arith, first); to = omega (arith, to.at.line, to.within, past) })
    (λ (to : ToFrame cw r b c). record { from = omega (arith, first); to = omega (arith, to.at.line, past) })))
    leads)
    (inside_test r) b (inside_of r b test)

-- ---- the display, up to character h and line v

is_shown : (h v c l : ℕ) → (nat_le c h && nat_le l v) ≡ true → (c ≤ h) × (l ≤ v)
is_shown h v c l test = (grind (arith, nat_tests), grind (arith, nat_tests))

is_not_shown : (h v c l : ℕ) → (nat_le c h && nat_le l v) ≡ false → (h < c) ⊎ (v < l)
is_not_shown h v c l test = ⊎_elim (λ (past : h < c). inl past)
    (λ (low : c ≤ h). ⊎_elim (λ (below : v < l). inr below) (λ (high : l ≤ v). absurd (grind (arith, nat_tests))) (cases_lt v l)) (cases_lt h c)

shown : (h v c l : ℕ) → c ≤ h → l ≤ v → (nat_le c h && nat_le l v) ≡ true
shown h v c l low high = grind (arith, nat_tests)

beside : (h v c l : ℕ) → h < c → (nat_le c h && nat_le l v) ≡ false
beside h v c l past = grind (arith, nat_tests)

below : (h v c l : ℕ) → v < l → (nat_le c h && nat_le l v) ≡ false
below h v c l past = grind (arith, nat_tests)

-- the beam is where dots are displayed
record IsShown (r : List ℕ) (c : Beam) : Type 0 where
  character : c.character ≤ horizontal_display_end r
  line : c.line ≤ vertical_display_end r

shown_test : (r : List ℕ) (c : Beam) → IsShown r c → is_display r c ≡ true
shown_test r c at = shown (horizontal_display_end r) (vertical_display_end r) c.character c.line at.character at.line

shown_of : (r : List ℕ) (c : Beam) → is_display r c ≡ true → IsShown r c
shown_of r c test =
    let both = is_shown (horizontal_display_end r) (vertical_display_end r) c.character c.line test in
    record { character = both.0; line = both.1 }

-- a displayed part of a line ends at the character after its last
abbrev IsPast : List ℕ → Beam → Type 0
IsPast r c = c.character ≡ horizontal_display_end r + 1

character_count : (cw : ℕ) (h : ℕ) (b : Beam) → dots_to_character cw h b ≡ in_line h cw b.character b.dot
unfolding dots_to_character
character_count cw h b = refl

counted_in_line : (cw h c k : ℕ) (b : Beam) → b.character ≡ c → b.dot ≡ k → dots_to_character cw h b ≡ in_line h cw c k
counted_in_line cw h c k b at_character at_dot =
    character_count cw h b ∙ ap (λ i. in_line h cw i b.dot) at_character ∙ ap (λ i. in_line h cw c i) at_dot

some_to_character : (cw h : ℕ) (b : Beam) → 0 < dots_to_character cw h b
unfolding dots_to_character
some_to_character cw h b = omega arith

-- a dot keeps the beam where dots are displayed, and lowers the count, or leads past them where the count is at its last
shown_step : (cw : ℕ) (r : List ℕ) (b c : Beam) → 0 < cw → horizontal_display_end r + 1 < characters r → IsShown r b → Leads cw r b c →
    ((dots_to_character cw (horizontal_display_end r + 1) b ≡ 1) × IsPast r c)
    ⊎ ((dots_to_character cw (horizontal_display_end r + 1) b ≡ dots_to_character cw (horizontal_display_end r + 1) c + 1) × IsShown r c)
shown_step cw r b c wide narrow known leads =
    let h = horizontal_display_end r in
    let here = character_count cw (h + 1) b in
    ⊎_elim
    (λ (to : ToDot cw b c).
    inr (
      here ∙ next_dot (h + 1) cw b.character b.dot to.within
          ∙ ap (λ i. i + 1) (sym (counted_in_line cw (h + 1) b.character (b.dot + 1) c to.at.character to.at.dot)),
      record { character = omega (arith, to.at.character, known.character); line = omega (arith, to.at.line, known.line) },
    ))
    (⊎_elim
    (λ (to : ToCharacter cw r b c). ⊎_elim
    (λ (still : b.character + 1 < h + 1).
    inr (
      here ∙ next_of_line (h + 1) cw b.character b.dot to.last_dot still wide
          ∙ ap (λ i. i + 1) (sym (counted_in_line cw (h + 1) (b.character + 1) 0 c to.at.character to.at.dot)),
      record { character = omega (arith, to.at.character, still); line = omega (arith, to.at.line, known.line) },
    ))
    (λ (last : h + 1 ≤ b.character + 1).
    inl (here ∙ line_last (h + 1) cw b.character b.dot to.last_dot last, omega (arith, to.at.character, last, known.character)))
    (cases_lt (b.character + 1) (h + 1)))
    (⊎_elim
    (λ (to : ToLine cw r b c). absurd (omega (arith, to.last_character, known.character, narrow)))
    (λ (to : ToFrame cw r b c). absurd (omega (arith, to.last_character, known.character, narrow)))))
    leads

pub display_ends_in_line : (cw : ℕ) (r : List ℕ) (b : Beam) → 0 < cw → is_display r b ≡ true → horizontal_display_end r + 1 < characters r →
    ChangesAfter (is_display r) cw r b (dots_to_character cw (horizontal_display_end r + 1) b)
display_ends_in_line cw r b wide test narrow =
    let h = horizontal_display_end r + 1 in
    changes (is_display r) true (IsShown r) (IsPast r) (dots_to_character cw h) cw r
    (record {
      step = λ b known more. ⊎_elim
          (λ (past : (dots_to_character cw h b ≡ 1) × IsPast r (dot cw r b)). absurd (omega (arith, past.0, more)))
          (λ (still : (dots_to_character cw h b ≡ dots_to_character cw h (dot cw r b) + 1) × IsShown r (dot cw r b)). (still.1, still.0))
          (shown_step cw r b (dot cw r b) wide narrow known (dot_leads cw r b));
      last = λ b known one. ⊎_elim
          (λ (past : (dots_to_character cw h b ≡ 1) × IsPast r (dot cw r b)). past.1)
          (λ (still : (dots_to_character cw h b ≡ dots_to_character cw h (dot cw r b) + 1) × IsShown r (dot cw r b)).
          absurd (omega (arith, one, still.0, some_to_character cw h (dot cw r b))))
          (shown_step cw r b (dot cw r b) wide narrow known (dot_leads cw r b));
    })
    (shown_test r)
    (λ c at. beside (horizontal_display_end r) (vertical_display_end r) c.character c.line (omega (arith, at)))
    (dots_to_character cw h b) b (shown_of r b test) refl (some_to_character cw h b)

-- where all characters of a line are displayed, the display ends with its last line
pub display_ends_in_frame : (cw : ℕ) (r : List ℕ) (b : Beam) → 0 < cw → is_display r b ≡ true → characters r ≤ horizontal_display_end r + 1 →
    vertical_display_end r + 1 < lines r → ChangesAfter (is_display r) cw r b (dots_to_line cw r (vertical_display_end r + 1) b)
display_ends_in_frame cw r b wide test all inside =
    let v = vertical_display_end r in
    changes_at_line (is_display r) true (IsShown r) cw r (v + 1) wide inside
    (λ b c known leads. ⊎_elim
    (λ (to : ToDot cw b c). inr (record { character = omega (arith, to.at.character, known.character); line = omega (arith, to.at.line, known.line) }))
    (⊎_elim
    (λ (to : ToCharacter cw r b c). inr (record { character = omega (arith, to.at.character, to.within, all); line = omega (arith, to.at.line, known.line) }))
    (⊎_elim
    (λ (to : ToLine cw r b c). ⊎_elim
    (λ (still : b.line + 1 < v + 1). inr (record { character = omega (arith, to.at.character); line = omega (arith, to.at.line, still) }))
    (λ (last : v + 1 ≤ b.line + 1). inl (record { line = omega (arith, to.at.line, last, known.line); character = to.at.character; dot = to.at.dot }))
    (cases_lt (b.line + 1) (v + 1)))
    (λ (to : ToFrame cw r b c). inr (record { character = omega (arith, to.at.character); line = omega (arith, to.at.line) }))))
    leads)
    (shown_test r)
    (λ c at. below (horizontal_display_end r) v c.character c.line (omega (arith, at.line)))
    b (shown_of r b test)

-- where all dots are displayed, the display never ends
pub display_never_ends : (cw : ℕ) (r : List ℕ) (b : Beam) → is_display r b ≡ true → characters r ≤ horizontal_display_end r + 1 →
    lines r ≤ vertical_display_end r + 1 → NeverChanges (is_display r) cw r b
display_never_ends cw r b test all whole =
    never (is_display r) true (IsShown r) cw r
    (λ b c known leads. ⊎_elim
    (λ (to : ToDot cw b c). record { character = omega (arith, to.at.character, known.character); line = omega (arith, to.at.line, known.line) })
    (⊎_elim
    (λ (to : ToCharacter cw r b c). record { character = omega (arith, to.at.character, to.within, all); line = omega (arith, to.at.line, known.line) })
    (⊎_elim
    (λ (to : ToLine cw r b c). record { character = omega (arith, to.at.character); line = omega (arith, to.at.line, to.within, whole) })
    (λ (to : ToFrame cw r b c). record { character = omega (arith, to.at.character); line = omega (arith, to.at.line) })))
    leads)
    (shown_test r) b (shown_of r b test)

-- beside the displayed dots of a line that has a displayed one after it
record IsBeside (r : List ℕ) (line : ℕ) (c : Beam) : Type 0 where
  here : c.line ≡ line
  past : horizontal_display_end r < c.character

-- the display begins with the next line, which is displayed
pub display_begins_in_frame : (cw : ℕ) (r : List ℕ) (b : Beam) → 0 < cw → is_display r b ≡ false → b.line < vertical_display_end r →
    b.line + 1 < lines r → ChangesAfter (is_display r) cw r b (dots_to_line cw r (b.line + 1) b)
display_begins_in_frame cw r b wide test above inside =
    let h = horizontal_display_end r in
    let v = vertical_display_end r in
    let past : h < b.character = ⊎_elim (λ (p : h < b.character). p) (λ (p : v < b.line). absurd (omega (arith, p, above))) (is_not_shown h v b.character b.line test) in
    changes_at_line (is_display r) false (IsBeside r b.line) cw r (b.line + 1) wide inside
    (λ a c known leads. ⊎_elim
    (λ (to : ToDot cw a c). inr (record { here = to.at.line ∙ known.here; past = omega (arith, to.at.character, known.past) }))
    (⊎_elim
    (λ (to : ToCharacter cw r a c). inr (record { here = to.at.line ∙ known.here; past = omega (arith, to.at.character, known.past) }))
    (⊎_elim
    (λ (to : ToLine cw r a c). inl (record { line = to.at.line ∙ ap (λ i. i + 1) known.here; character = to.at.character; dot = to.at.dot }))
    (λ (to : ToFrame cw r a c). absurd (omega (arith, to.last_line, known.here, inside)))))
    leads)
    (λ c at. beside h v c.character c.line at.past)
    (λ c at. shown h v c.character c.line (omega (arith, at.character)) (omega (arith, at.line, above)))
    b (record { here = refl; past = past })

-- past the displayed dots of a frame
abbrev IsBelow : List ℕ → Beam → Type 0
IsBelow r c = (vertical_display_end r < c.line)
    ⊎ (((vertical_display_end r ≤ c.line) ⊎ (lines r ≤ c.line + 1)) × (horizontal_display_end r < c.character))

-- the display begins with the next frame
pub display_begins_with_frame : (cw : ℕ) (r : List ℕ) (b : Beam) → 0 < cw → is_display r b ≡ false →
    (vertical_display_end r ≤ b.line) ⊎ (lines r ≤ b.line + 1) → ChangesAfter (is_display r) cw r b (dots_to_line cw r 0 b)
display_begins_with_frame cw r b wide test past =
    let h = horizontal_display_end r in
    let v = vertical_display_end r in
    changes_at_line (is_display r) false (IsBelow r) cw r 0 wide (omega arith)
    (λ b c known leads. ⊎_elim
    (λ (to : ToDot cw b c). inr (subst (λ i. (v < i) ⊎ (((v ≤ i) ⊎ (lines r ≤ i + 1)) × (h < c.character))) (sym to.at.line)
    (subst (λ i. (v < b.line) ⊎ (((v ≤ b.line) ⊎ (lines r ≤ b.line + 1)) × (h < i))) (sym to.at.character) known)))
    (⊎_elim
    (λ (to : ToCharacter cw r b c). inr (⊎_elim
    (λ (under : v < b.line). inl (omega (arith, to.at.line, under)))
    (λ (side : ((v ≤ b.line) ⊎ (lines r ≤ b.line + 1)) × (h < b.character)).
    inr (subst (λ i. (v ≤ i) ⊎ (lines r ≤ i + 1)) (sym to.at.line) side.0, omega (arith, to.at.character, side.1)))
    known))
    (⊎_elim
    (λ (to : ToLine cw r b c). inr (inl (⊎_elim
    (λ (under : v < b.line). omega (arith, to.at.line, under))
    (λ (side : ((v ≤ b.line) ⊎ (lines r ≤ b.line + 1)) × (h < b.character)). ⊎_elim
    (λ (low : v ≤ b.line). omega (arith, to.at.line, low))
    (λ (last : lines r ≤ b.line + 1). absurd (omega (arith, to.within, last)))
    side.0)
    known)))
    (λ (to : ToFrame cw r b c). inl to.at)))
    leads)
    (λ c at. ⊎_elim (λ (under : v < c.line). below h v c.character c.line under)
    (λ (side : ((v ≤ c.line) ⊎ (lines r ≤ c.line + 1)) × (h < c.character)). beside h v c.character c.line side.1) at)
    (λ c at. shown h v c.character c.line (omega (arith, at.character)) (omega (arith, at.line)))
    b (⊎_elim (λ (p : h < b.character). inr (past, p)) (λ (p : v < b.line). inl p) (is_not_shown h v b.character b.line test))
