-- The printed text of a script spells it.
use Rattle.std.proofs.Common.{◌≡◌, ℕ, zero, suc, ◌+◌, ◌*◌, ◌/◌, ◌%◌, ◌^◌, ◌<◌, ◌≤◌, Bool, true, false, not, ◌||◌, cond, nat_lt, List, [], ◌∷◌, ◌++◌, length}
use Rattle.std.proofs.Common.{map, filter, refl, sym, ap, ◌∙◌, subst, arith, inl, inr, codes, decimal, slice_index, append_assoc, length-append}
use Rattle.std.specs.Char.{digit_value}
use Rattle.std.specs.Int.{IsInRange as IsWithin}
use Rattle.std.specs.List.{slice_split, join_with_byte, before_first, position_or_len, flat_map, AllByRecursion, list_all}
use Rattle.std.specs.Str.Parse.{AllDigits, digits_value}
use Rattle.std.proofs.lemmas.Bool.Decides.{nat_tests}
use Rattle.std.proofs.lemmas.Fmt.{decimal_is_IsNumeral, decimal_nonempty}
use Rattle.std.proofs.lemmas.Str.Parse.{digit_from_value}
use Rattle.vga_script.proofs.OptionLemmas.{and_ok, lt_test}
use Rattle.hex.specs.Hex.{IsBytes, encode_with, encode_upper, upper_digits}
use Rattle.hex.proofs.HexLemmas.{decode_of-encode_upper, length-encode_with}
use Rattle.std.proofs.lemmas.Int.Digits.{digits_push, digits_value_push}
use Rattle.std.proofs.lemmas.List.{take_all}
use Rattle.std.proofs.lemmas.List.Splits.{slice_split_at, slice_split_none}
use Rattle.std.proofs.lemmas.List.Sums.{position_or_len_is}
use Rattle.std.proofs.lemmas.List.Elements.{All-from_recursion}
use Rattle.std.proofs.Math.Nat.{pow-suc}
use Rattle.vga_script.specs.declared.keyword.Keyword.{Keyword}
use Rattle.vga_script.specs.declared.keyword.Keyword.TheVariants as keyword
use Rattle.vga_script.specs.declared.step.Step.{Step}
use Rattle.vga_script.specs.declared.step.Step.TheVariants.{Out, OutWord, In, InWord, Put, PutWord, Get, GetWord, Int, Advance, Frame, Show}
use Rattle.vga_script.specs.declared.dump_range.Shown.{Shown}
use Rattle.vga_script.specs.declared.dump_range.Shown.TheVariants as shown
use Rattle.vga_script.specs.Tokens.{is_blank, is_semicolon, is_newline, has_bytes, words_between_blanks, words, lines, in_lower_case, IsNumeral, IsHex}
use Rattle.vga_script.specs.Text.{keyword_name, keyword_of, shown_name, SpellsHex, SpellsTwoHex, SpellsRegister, SpellsBlock, SpellsShown, SpellsFields, SpellsLine}
use Rattle.vga_script.specs.Text.{SpellsLines, SpellsBeginningOfRepeat, IsRepeatEndLine, IsVersionTwo, LineGroup, IsLineGroup, SpellsGroups, SpellsText}
use Rattle.vga_script.specs.Item.{Item, Once, Repeated, ScriptItems, script_of_items, expanded, step_limit, IsItemOf, AreItemsOf}
use Rattle.vga_script.specs.declared.version.Version.{Version}
use Rattle.vga_script.specs.declared.version.Version.TheVariants.{One, Two}
use Rattle.vga_script.specs.DumpRange.{IsShownInRange}
use Rattle.vga_script.specs.Step.{IsBlock, IsInRange, AreInRange}
use Rattle.vga_bits.specs.Hex.{hex, hex_digit}
use Rattle.vga_script.specs.Printing.{port_text, address_text, block_words, shown_field_words, words_after_name, printed_words, line_of_words, printed_line, printed_steps}
use Rattle.vga_script.specs.Printing.{printed_item, version_line, printed_script}

-- ---- digits

-- a byte that stands within a word
abbrev is_word_byte : ℕ → Bool
is_word_byte c = not (is_blank c || is_semicolon c || is_newline c)

abbrev AllWordBytes : List ℕ → Type 0
AllWordBytes [] = Unit {0}
AllWordBytes (c ∷ cs) = (is_word_byte c ≡ true) × AllWordBytes cs

-- bytes of a word after others
word-append : (a b : List ℕ) → AllWordBytes a → AllWordBytes b → AllWordBytes (a ++ b)
word-append [] b p q = q
word-append (c ∷ cs) b (p, ps) q = (p, word-append cs b ps q)

-- a digit is read back, and may stand in a word
digit_back : (d : ℕ) → d < 16 → digit_value (hex_digit d) ≡ d
digit_back d small = grind (arith, nat_tests)

digit_of_word : (d : ℕ) → d < 16 → is_word_byte (hex_digit d) ≡ true
digit_of_word d small = grind (arith, nat_tests)

digit_below : (n : ℕ) → n % 16 < 16
digit_below n = omega arith

-- the digits of a number are bytes of a word, k of them, and are read back
hex_of_word : (k n : ℕ) → AllWordBytes (hex k n)
unfolding hex
hex_of_word zero n = tt
hex_of_word (suc k) n = word-append (hex k (n / 16)) (hex_digit (n % 16) ∷ []) (hex_of_word k (n / 16)) (digit_of_word (n % 16) (digit_below n), tt)

length-hex : (k n : ℕ) → length (hex k n) ≡ k
unfolding hex
length-hex zero n = refl
length-hex (suc k) n = let l = length-append (hex k (n / 16)) (hex_digit (n % 16) ∷ []) in let r = length-hex k (n / 16) in omega arith

digits_hex : (k n : ℕ) → AllDigits 16 (hex k n)
unfolding hex
digits_hex zero n = tt
digits_hex (suc k) n =
    let back = digit_back (n % 16) (digit_below n) in
    digits_push 16 (hex k (n / 16)) (hex_digit (n % 16)) (digits_hex k (n / 16)) (rw back (digit_below n))

quotient : (n p : ℕ) → n < p * 16 → n / 16 < p
quotient n p h = omega arith

parts : (n : ℕ) → n / 16 * 16 + n % 16 ≡ n
parts n = omega arith

value_hex : (k n : ℕ) → n < 16 ^ k → digits_value 16 (hex k n) ≡ n
unfolding hex
value_hex zero n small = let none : n ≡ 0 = omega arith in sym none
value_hex (suc k) n small =
    let power : 16 ^ suc k ≡ 16 ^ k * 16 = pow-suc 16 k in
    let prefix = value_hex k (n / 16) (quotient n (16 ^ k) (rw power at small)) in
    digits_value_push 16 (hex k (n / 16)) (hex_digit (n % 16)) ∙ rw (prefix, digit_back (n % 16) (digit_below n)) (parts n)

-- so they spell it
spells_exact : (k n : ℕ) → 0 < k → n < 16 ^ k → IsHex k (hex k n) n
spells_exact k n some small =
    let l = length-hex k n in
    (omega arith, (omega arith, digits_hex k n, sym (value_hex k n small)))

wider : (j k n : ℕ) (w : List ℕ) → j ≤ k → IsHex j w n → IsHex k w n
wider j k n w le (short, numeral) = (omega arith, numeral)

-- a choice of two texts
pick : (b : Bool) (x y : List ℕ) (P : List ℕ → Type 0) → (b ≡ true → P x) → P y → P (cond b x y)
pick true x y P p q = p refl
pick false x y P p q = q

shorter_address : (k n : ℕ) → 0 < k → k ≤ 8 → n < 16 ^ k → IsHex 8 (hex k n) n × AllWordBytes (hex k n)
shorter_address k n some le small = (wider k 8 n (hex k n) le (spells_exact k n some small), hex_of_word k n)

-- the digits of a port and of an address spell it
spells_port : (port : ℕ) → port < 2 ^ 16 → IsHex 4 (port_text port) port × AllWordBytes (port_text port)
unfolding port_text
spells_port port small =
    pick (nat_lt port 0x1000) (hex 3 port) (hex 4 port) (λ w. IsHex 4 w port × AllWordBytes w)
    (λ t. let lt = lt_test _ _ t in (wider 3 4 port (hex 3 port) (omega arith) (spells_exact 3 port (omega arith) (omega arith)), hex_of_word 3 port))
    (spells_exact 4 port (omega arith) (omega arith), hex_of_word 4 port)

spells_address : (address : ℕ) → address < 2 ^ 32 → IsHex 8 (address_text address) address × AllWordBytes (address_text address)
unfolding address_text
spells_address address small =
    let P : List ℕ → Type 0 = λ w. IsHex 8 w address × AllWordBytes w in
    let last : P (hex 8 address) = (spells_exact 8 address (omega arith) (omega arith), hex_of_word 8 address) in
    let seven : P (cond (nat_lt address 0x1000_0000) (hex 7 address) (hex 8 address)) =
    pick (nat_lt address 0x1000_0000) (hex 7 address) (hex 8 address) P (λ t. shorter_address 7 address (omega arith) (omega arith) (lt_test _ _ t)) last in
    let six : P (cond (nat_lt address 0x100_0000) (hex 6 address) (cond (nat_lt address 0x1000_0000) (hex 7 address) (hex 8 address))) =
    pick (nat_lt address 0x100_0000) (hex 6 address) (cond (nat_lt address 0x1000_0000) (hex 7 address) (hex 8 address)) P (λ t.
    shorter_address 6 address (omega arith) (omega arith) (lt_test _ _ t)) seven in
    pick (nat_lt address 0x10_0000) (hex 5 address) (cond (nat_lt address 0x100_0000) (hex 6 address)
    (cond (nat_lt address 0x1000_0000) (hex 7 address) (hex 8 address))) P (λ t. shorter_address 5 address (omega arith) (omega arith) (lt_test _ _ t)) six

-- ---- words and lines of a printed line

-- words that a blank parts
abbrev AreWords : List (List ℕ) → Type 0
AreWords [] = Unit {0}
AreWords (w ∷ ws) = (0 < length w) × AllWordBytes w × AreWords ws

-- no byte of a word passes a test that no byte of words passes
none_pass : (p : ℕ → Bool) → ((c : ℕ) → is_word_byte c ≡ true → p c ≡ false) → (w : List ℕ) → AllWordBytes w → AllByRecursion (λ c. p c ≡ false) w
none_pass p h [] all = tt
none_pass p h (c ∷ cs) (first, others) = (h c first, none_pass p h cs others)

-- a byte of a word is no blank, semicolon or newline
none_of : (a b c : Bool) → not (a || b || c) ≡ true → (a ≡ false) × (b ≡ false) × (c ≡ false)
none_of true b c e = absurd (cc)
none_of false true c e = absurd (cc)
none_of false false true e = absurd (cc)
none_of false false false e = (refl, refl, refl)

no_blank : (c : ℕ) → is_word_byte c ≡ true → is_blank c ≡ false
no_blank c e = (none_of (is_blank c) (is_semicolon c) (is_newline c) e).0

no_semicolon : (c : ℕ) → is_word_byte c ≡ true → is_semicolon c ≡ false
no_semicolon c e = (none_of (is_blank c) (is_semicolon c) (is_newline c) e).1

no_newline : (c : ℕ) → is_word_byte c ≡ true → is_newline c ≡ false
no_newline c e = (none_of (is_blank c) (is_semicolon c) (is_newline c) e).2

-- words that are joined by spaces are cut into themselves
split_join : (w : List ℕ) (ws : List (List ℕ)) → AreWords (w ∷ ws) → slice_split is_blank (join_with_byte 32 (w ∷ ws)) ≡ w ∷ ws
split_join w [] (some, all, more) = slice_split_none is_blank w (All-from_recursion (λ c. is_blank c ≡ false) w (none_pass is_blank no_blank w all))
split_join w (v ∷ vs) (some, all, more) =
    slice_split_at is_blank w 32 (join_with_byte 32 (v ∷ vs)) (All-from_recursion (λ c. is_blank c ≡ false) w (none_pass is_blank no_blank w all)) refl
    ∙ ap (λ (l : List (List ℕ)). w ∷ l) (split_join v vs more)

-- and none is dropped
keep_words : (ws : List (List ℕ)) → AreWords ws → filter has_bytes ws ≡ ws
keep_words [] h = refl
keep_words ([] ∷ ws) (some, all, more) = absurd (omega arith)
keep_words ((c ∷ cs) ∷ ws) (some, all, more) = ap (λ (l : List (List ℕ)). (c ∷ cs) ∷ l) (keep_words ws more)

none_append : (p : ℕ → Bool) (a b : List ℕ) → AllByRecursion (λ c. p c ≡ false) a → AllByRecursion (λ c. p c ≡ false) b →
    AllByRecursion (λ c. p c ≡ false) (a ++ b)
none_append p [] b none more = more
none_append p (c ∷ cs) b (first, others) more = (first, none_append p cs b others more)

-- the joined words have no byte that passes, where neither a byte of words nor a blank does
join_none : (p : ℕ → Bool) → ((c : ℕ) → is_word_byte c ≡ true → p c ≡ false) → p 32 ≡ false → (ws : List (List ℕ)) → AreWords ws →
    AllByRecursion (λ c. p c ≡ false) (join_with_byte 32 ws)
join_none p h blank [] all = tt
join_none p h blank (w ∷ []) (some, all, more) = none_pass p h w all
join_none p h blank (w ∷ v ∷ vs) (some, all, more) =
    none_append p w (32 ∷ join_with_byte 32 (v ∷ vs)) (none_pass p h w all) (blank, join_none p h blank (v ∷ vs) more)

before_none : (p : ℕ → Bool) (xs : List ℕ) → AllByRecursion (λ c. p c ≡ false) xs → before_first p xs ≡ xs
before_none p xs none =
    let all = All-from_recursion (λ c. p c ≡ false) xs none in
    let place = position_or_len_is p xs (length xs) 0 (omega arith) (λ k h. all k 0 h) (λ h. absurd (omega arith)) in
    take_all (position_or_len p xs) xs (omega arith)

-- so the words of a printed line are its words
words_join : (ws : List (List ℕ)) → AreWords ws → words (join_with_byte 32 ws) ≡ ws
words_join [] h = refl
words_join (w ∷ ws) h =
    ap words_between_blanks (before_none is_semicolon (join_with_byte 32 (w ∷ ws)) (join_none is_semicolon no_semicolon refl (w ∷ ws) h))
    ∙ ap (filter has_bytes) (split_join w ws h) ∙ keep_words (w ∷ ws) h

-- and its line ends at its newline
lines_join : (ws : List (List ℕ)) (rest : List ℕ) → AreWords ws → lines ((join_with_byte 32 ws ++ 10 ∷ []) ++ rest) ≡ join_with_byte 32 ws ∷ lines rest
lines_join ws rest h =
    ap lines (append_assoc (join_with_byte 32 ws) (10 ∷ []) rest)
    ∙ slice_split_at is_newline (join_with_byte 32 ws) 10 rest (All-from_recursion (λ c. is_newline c ≡ false) (join_with_byte 32 ws)
    (join_none is_newline no_newline refl ws h)) refl

-- ---- the words of a step

-- text whose bytes pass the test is bytes of a word
word_by_test : (w : List ℕ) → list_all is_word_byte w ≡ true → AllWordBytes w
word_by_test [] e = tt
word_by_test (c ∷ cs) e = let t = and_ok (is_word_byte c) (list_all is_word_byte cs) e in (t.0, word_by_test cs t.1)

-- decimal digits are bytes of a word, and spell their number
decimal_of_word : (c : ℕ) → IsWithin 48 57 c → is_word_byte c ≡ true
decimal_of_word c (low, high) = grind (arith, nat_tests)

digits_of_word : (w : List ℕ) → AllDigits 10 w → AllWordBytes w
digits_of_word [] all = tt
digits_of_word (c ∷ cs) (first, others) = (decimal_of_word c (digit_from_value c first), digits_of_word cs others)

spells_decimal_text : (n : ℕ) → n < 2 ^ 64 → IsNumeral 10 (decimal n) n × AllWordBytes (decimal n)
spells_decimal_text n small =
    let d = decimal_is_IsNumeral n small in
    ((decimal_nonempty n small, d.0.1, sym d.1), digits_of_word (decimal n) d.0.1)

-- every digit of a block is a byte of a word, as is a digit that is not there
word_at : (digits : List ℕ) (d : ℕ) → AllWordBytes digits → is_word_byte (slice_index digits d) ≡ true
word_at [] d all = refl
word_at (c ∷ cs) zero (first, others) = first
word_at (c ∷ cs) (suc d) (first, others) = word_at cs d others

upper_of_word : (d : ℕ) → is_word_byte (slice_index upper_digits d) ≡ true
upper_of_word d = word_at upper_digits d (word_by_test upper_digits refl)

block_of_word : (bytes : List ℕ) → AllWordBytes (encode_upper bytes)
unfolding encode_with
block_of_word [] = tt
block_of_word (b ∷ bs) = (upper_of_word (b / 16), (upper_of_word (b % 16), block_of_word bs))

bytes_fit : (bytes : List ℕ) → AllByRecursion (λ byte. byte < 2 ^ 8) bytes → IsBytes bytes
bytes_fit [] all i = omega arith
bytes_fit (b ∷ bs) (first, others) zero = first
bytes_fit (b ∷ bs) (first, others) (suc i) = bytes_fit bs others i

-- the words of a block are words, and spell it
spells_block_words : (block : List ℕ) → IsBlock block → SpellsBlock (block_words block) block
spells_block_words [] fits = inl (refl, refl)
spells_block_words (b ∷ bs) (short, all) = inr (
  codes "block",
  encode_upper (b ∷ bs),
  refl,
  refl,
  omega arith,
  short,
  decode_of-encode_upper (b ∷ bs) (bytes_fit (b ∷ bs) all),
)

some_hex : (k n : ℕ) → 0 < k → 0 < length (hex k n)
some_hex k n some = let l = length-hex k n in omega arith

block_are_words : (block : List ℕ) → AreWords (block_words block)
block_are_words [] = tt
block_are_words (b ∷ bs) =
    let l = length-encode_with upper_digits (b ∷ bs) in
    (omega arith, word_by_test (codes "block") refl, (omega arith, block_of_word (b ∷ bs), tt))

-- a register is a word, and spells its value
register_word : (name : List ℕ) (v : ℕ) (ws : List (List ℕ)) → 0 < length name → list_all is_word_byte name ≡ true → AreWords ws → AreWords ((name ++ hex 4 v) ∷ ws)
register_word name v ws some within more =
    let l = length-append name (hex 4 v) in
    (omega arith, word-append name (hex 4 v) (word_by_test name within) (hex_of_word 4 v), more)

register_text : (name : List ℕ) (v : ℕ) → in_lower_case name ≡ name → v < 2 ^ 16 → SpellsRegister name ((name ++ hex 4 v) ∷ []) v
register_text name v lower small = inr (name, hex 4 v, refl, lower, spells_exact 4 v (omega arith) (omega arith))

-- the words of a step's fields are words, and spell its fields
abbrev Prints : Step → Type 0
Prints s = AreWords (words_after_name s) × SpellsFields (words_after_name s) s

-- a port, and an address
port_prints : (port : ℕ) → port < 2 ^ 16 → AreWords (port_text port ∷ []) × SpellsHex 4 (port_text port ∷ []) port
port_prints port small = let p = spells_port port small in ((p.0.1.0, p.1, tt), (port_text port, refl, p.0))

address_prints : (address : ℕ) → address < 2 ^ 32 → AreWords (address_text address ∷ []) × SpellsHex 8 (address_text address ∷ []) address
address_prints address small = let p = spells_address address small in ((p.0.1.0, p.1, tt), (address_text address, refl, p.0))

-- a value of k digits after a word
value_prints : (most k n v : ℕ) (word : List ℕ) → IsHex most word n × AllWordBytes word → 0 < k → v < 16 ^ k
    → AreWords (word ∷ hex k v ∷ []) × SpellsTwoHex most k (word ∷ hex k v ∷ []) n v
value_prints most k n v word p some small =
    ((p.0.1.0, p.1, (some_hex k v some, hex_of_word k v, tt)), (word, hex k v, refl, p.0, spells_exact k v some small))

-- what is shown
shown_prints : (what : Shown) → IsShownInRange what → AreWords (shown_name what ∷ shown_field_words what)
    × SpellsShown (shown_name what ∷ shown_field_words what) what
shown_prints shown.Registers fits = ((omega arith, word_by_test (codes "regs") refl, tt), (codes "regs", [], refl, refl, refl))
shown_prints (shown.Dac index) fits = (
  (omega arith, word_by_test (codes "dac") refl, (some_hex 2 index (omega arith), hex_of_word 2 index, tt)),
  (codes "dac", hex 2 index ∷ [], refl, refl, (hex 2 index, refl, spells_exact 2 index (omega arith) (omega arith))),
)
shown_prints shown.Beam fits = ((omega arith, word_by_test (codes "beam") refl, tt), (codes "beam", [], refl, refl, refl))
shown_prints shown.Latches fits = ((omega arith, word_by_test (codes "latches") refl, tt), (codes "latches", [], refl, refl, refl))
shown_prints (shown.Plane plane offset count) (four, some, most, within) =
    let d = spells_decimal_text count (omega arith) in
    let fields = hex 1 plane ∷ hex 4 offset ∷ decimal count ∷ [] in (
      (
        omega arith,
        word_by_test (codes "plane") refl,
        (
          some_hex 1 plane (omega arith),
          hex_of_word 1 plane,
          (some_hex 4 offset (omega arith), hex_of_word 4 offset, (d.0.0, d.1, tt)),
        ),
      ),
      (
        codes "plane",
        fields,
        refl,
        refl,
        (
          hex 1 plane,
          hex 4 offset,
          decimal count,
          refl,
          spells_exact 1 plane (omega arith) (omega arith),
          spells_exact 4 offset (omega arith) (omega arith),
          d.0,
          (four, some, most, within),
        ),
      ),
    )
shown_prints shown.BiosData fits = ((omega arith, word_by_test (codes "bda") refl, tt), (codes "bda", [], refl, refl, refl))
shown_prints shown.Cells fits = ((omega arith, word_by_test (codes "cells") refl, tt), (codes "cells", [], refl, refl, refl))

-- in each step
fields_print : (s : Step) → IsInRange s → Prints s
fields_print (Out port value) (hp, hv) = value_prints 4 2 port value (port_text port) (spells_port port hp) (omega arith) (omega arith)
fields_print (OutWord port value) (hp, hv) = value_prints 4 4 port value (port_text port) (spells_port port hp) (omega arith) (omega arith)
fields_print (In port) hp = port_prints port hp
fields_print (InWord port) hp = port_prints port hp
fields_print (Put address value) (ha, hv) = value_prints 8 2 address value (address_text address) (spells_address address ha) (omega arith) (omega arith)
fields_print (PutWord address value) (ha, hv) = value_prints 8 4 address value (address_text address) (spells_address address ha) (omega arith) (omega arith)
fields_print (Get address) ha = address_prints address ha
fields_print (GetWord address) ha = address_prints address ha
fields_print (Int ax bx cx dx block) (ha, hb, hc, hd, hx) = (
  register_word (codes "ax=") ax ((codes "bx=" ++ hex 4 bx) ∷ (codes "cx=" ++ hex 4 cx) ∷ (codes "dx=" ++ hex 4 dx) ∷ block_words block) (omega arith) refl
      (register_word (codes "bx=") bx ((codes "cx=" ++ hex 4 cx) ∷ (codes "dx=" ++ hex 4 dx) ∷ block_words block) (omega arith) refl
      (register_word (codes "cx=") cx ((codes "dx=" ++ hex 4 dx) ∷ block_words block) (omega arith) refl
      (register_word (codes "dx=") dx (block_words block) (omega arith) refl (block_are_words block)))),
  (
    (codes "ax=" ++ hex 4 ax) ∷ [],
    (codes "bx=" ++ hex 4 bx) ∷ [],
    (codes "cx=" ++ hex 4 cx) ∷ [],
    (codes "dx=" ++ hex 4 dx) ∷ [],
    block_words block,
    refl,
    register_text (codes "ax=") ax refl ha,
    register_text (codes "bx=") bx refl hb,
    register_text (codes "cx=") cx refl hc,
    register_text (codes "dx=") dx refl hd,
    spells_block_words block hx,
  ),
)
fields_print (Advance dots) h = let d = spells_decimal_text dots (omega arith) in ((d.0.0, d.1, tt), (decimal dots, refl, d.0, h))
fields_print Frame h = (tt, refl)
fields_print (Show what) h = shown_prints what h

-- a name is a word, in lower case
name_prints : (k : Keyword) → (0 < length (keyword_name k)) × (list_all is_word_byte (keyword_name k) ≡ true) × (in_lower_case (keyword_name k) ≡ keyword_name k)
name_prints keyword.Out = (omega arith, refl, refl)
name_prints keyword.OutWord = (omega arith, refl, refl)
name_prints keyword.In = (omega arith, refl, refl)
name_prints keyword.InWord = (omega arith, refl, refl)
name_prints keyword.Put = (omega arith, refl, refl)
name_prints keyword.PutWord = (omega arith, refl, refl)
name_prints keyword.Get = (omega arith, refl, refl)
name_prints keyword.GetWord = (omega arith, refl, refl)
name_prints keyword.Int = (omega arith, refl, refl)
name_prints keyword.Advance = (omega arith, refl, refl)
name_prints keyword.Frame = (omega arith, refl, refl)
name_prints keyword.Show = (omega arith, refl, refl)

-- the printed words of a step are words, and spell it
step_words : (s : Step) → IsInRange s → AreWords (printed_words s) × SpellsLine (printed_words s) (s ∷ [])
step_words s fits =
    let n = name_prints (keyword_of s) in
    let f = fields_print s fits in
    ((n.0, word_by_test (keyword_name (keyword_of s)) n.1, f.0), (s, refl, n.2, f.1))

-- the line of some words is theirs, and ends at its newline
words_line : (ws : List (List ℕ)) (rest : List ℕ) → AreWords ws → lines (line_of_words ws ++ rest) ≡ join_with_byte 32 ws ∷ lines rest
unfolding line_of_words
words_line ws rest h = lines_join ws rest h

-- the line of a step, before its newline
abbrev line_text : Step → List ℕ
line_text s = join_with_byte 32 (printed_words s)

line_spells : (s : Step) → IsInRange s → SpellsLine (words (line_text s)) (s ∷ [])
line_spells s fits =
    let w = step_words s fits in subst (λ (l : List (List ℕ)). SpellsLine l (s ∷ [])) (sym (words_join (printed_words s) w.0)) w.1

-- the lines of steps spell them
steps_lines : (steps : List Step) (rest : List ℕ) → AreInRange steps → lines (printed_steps steps ++ rest) ≡ map line_text steps ++ lines rest
steps_lines [] rest all = refl
steps_lines (s ∷ steps) rest (first, others) =
    ap lines (append_assoc (printed_line s) (printed_steps steps) rest) ∙ words_line (printed_words s) (printed_steps steps ++ rest) (step_words s first).0
    ∙ ap (λ (l : List (List ℕ)). line_text s ∷ l) (steps_lines steps rest others)

steps_spelled : (steps : List Step) → AreInRange steps → SpellsLines (map line_text steps) steps
steps_spelled [] all = refl
steps_spelled (s ∷ steps) (first, others) = (s ∷ [], steps, refl, line_spells s first, steps_spelled steps others)

-- ---- blocks, and the line of a version

-- the words of the beginning and of the end of a block
abbrev repeat_words : ℕ → List (List ℕ)
repeat_words count = codes "repeat" ∷ decimal count ∷ []

abbrev end_words : List (List ℕ)
end_words = codes "end" ∷ []

repeat_prints : (count : ℕ) → 0 < count → count < 2 ^ 16 → AreWords (repeat_words count) × SpellsBeginningOfRepeat (repeat_words count) count
repeat_prints count some small =
    let d = spells_decimal_text count (omega arith) in (
      (omega arith, word_by_test (codes "repeat") refl, (d.0.0, d.1, tt)),
      (codes "repeat", decimal count, refl, refl, d.0, some, small),
    )

end_prints : AreWords end_words × IsRepeatEndLine end_words
end_prints = ((omega arith, word_by_test (codes "end") refl, tt), (codes "end", refl, refl))

-- the lines of an item
abbrev printed_group : Item → LineGroup
printed_group (Once s) = record { lines = line_text s ∷ []; items = Once s ∷ [] }
printed_group (Repeated count steps) = record {
  lines = join_with_byte 32 (repeat_words count) ∷ (map line_text steps ++ join_with_byte 32 end_words ∷ []);
  items = Repeated count steps ∷ [];
}

-- are a group that spells it
group_spells : (version : Version) (i : Item) → IsItemOf version i → IsLineGroup version (printed_group i)
group_spells version (Once s) fits = inl (line_text s, s ∷ [], refl, refl, line_spells s fits)
group_spells version (Repeated count steps) (allowed, some, small, range) =
    let r = repeat_prints count some small in
    inr (
      allowed,
      (
        join_with_byte 32 (repeat_words count),
        count,
        map line_text steps,
        steps,
        join_with_byte 32 end_words,
        refl,
        refl,
        subst (λ (l : List (List ℕ)). SpellsBeginningOfRepeat l count) (sym (words_join (repeat_words count) r.0)) r.1,
        steps_spelled steps range,
        subst IsRepeatEndLine (sym (words_join end_words end_prints.0)) end_prints.1,
      ),
    )

group_items : (i : Item) → (printed_group i).items ≡ i ∷ []
group_items (Once s) = refl
group_items (Repeated count steps) = refl

item_lines : (version : Version) (i : Item) (rest : List ℕ) → IsItemOf version i → lines (printed_item i ++ rest) ≡ (printed_group i).lines ++ lines rest
item_lines version (Once s) rest fits = words_line (printed_words s) rest (step_words s fits).0
item_lines version (Repeated count steps) rest (allowed, some, small, range) =
    let first = line_of_words (repeat_words count) in
    let last = line_of_words end_words in
    let body = printed_steps steps in
    ap lines (append_assoc first (body ++ last) rest ∙ ap (λ (l : List ℕ). first ++ l) (append_assoc body last rest))
    ∙ words_line (repeat_words count) (body ++ (last ++ rest)) (repeat_prints count some small).0
    ∙ ap (λ (l : List (List ℕ)). join_with_byte 32 (repeat_words count) ∷ l)
    (steps_lines steps (last ++ rest) range ∙ ap (λ (l : List (List ℕ)). map line_text steps ++ l) (words_line end_words rest end_prints.0)
    ∙ sym (append_assoc (map line_text steps) (join_with_byte 32 end_words ∷ []) (lines rest)))

-- the printed text of items spells them
printed_groups : (version : Version) (items : List Item) → AreItemsOf version items → SpellsGroups version (lines (flat_map printed_item items)) items
printed_groups version [] all = (record { lines = [] ∷ []; items = [] } ∷ [], refl, refl, (inl ([], [], refl, refl, refl), tt))
printed_groups version (i ∷ items) (first, others) =
    let r = printed_groups version items others in (
      printed_group i ∷ r.0,
      item_lines version i (flat_map printed_item items) first ∙ ap (λ (l : List (List ℕ)). (printed_group i).lines ++ l) r.1,
      ap (λ (l : List Item). i ∷ l) r.2 ∙ ap (λ (l : List Item). l ++ flat_map (λ (g : LineGroup). g.items) r.0) (sym (group_items i)),
      (group_spells version i first, r.3),
    )

-- and after the line of its version a script
version_prints : AreWords (codes "version" ∷ codes "2" ∷ []) × IsVersionTwo (codes "version" ∷ codes "2" ∷ [])
version_prints = ((omega arith, word_by_test (codes "version") refl, (omega arith, word_by_test (codes "2") refl, tt)), (codes "version", refl, refl))

printed_version : (version : Version) (items : List Item) → AreItemsOf version items → length (expanded items) ≤ step_limit →
    SpellsText (version_line version ++ flat_map printed_item items) (script_of_items version items)
printed_version One items all few = (1, lines (flat_map printed_item items), (refl, refl), printed_groups One items all, few)
printed_version Two items all few = (
  2,
  lines (flat_map printed_item items),
  record {
    before = [];
    line = join_with_byte 32 (codes "version" ∷ codes "2" ∷ []);
    blank = tt;
    version = subst IsVersionTwo (sym (words_join (codes "version" ∷ codes "2" ∷ []) version_prints.0)) version_prints.1;
    whole = words_line (codes "version" ∷ codes "2" ∷ []) (flat_map printed_item items) version_prints.0;
    number = refl;
  },
  printed_groups Two items all,
  few,
)

pub printed_spells : (script : ScriptItems) → AreItemsOf script.version script.items → length (expanded script.items) ≤ step_limit →
    SpellsText (printed_script script) script
printed_spells script all few = printed_version script.version script.items all few
