-- The text that is printed for a value spells it, and no text that spells it is shorter.
use Rattle.std.proofs.Common.{codes, ◌≡◌, ℕ, ◌+◌, ◌*◌, ◌/◌, ◌%◌, ◌^◌, ◌<◌, ◌≤◌, ◌==◌, ◌-◌, ◌&&◌, nat_le, fold, List, [], ◌∷◌, length, Bool, true, false, not, Some, Ok, decimal, unwrap_or, refl, sym, ap, ◌∙◌, subst, inl, inr, arith, rules}
use Rattle.std.specs.List.{list_all}
use Rattle.std.proofs.Math.Nat.{pow-le-pow_right}
use Rattle.std.proofs.lemmas.Bool.{cases_Bool, and_parts, eqb-true}
use Rattle.std.proofs.lemmas.Fmt.{digits_decimal, digits_value-decimal, decimal_nonempty, length-decimal-le}
use Rattle.std.proofs.lemmas.List.Sums.{AllPass-from_list_all, list_all-from_AllPass}
use Rattle.std.proofs.lemmas.Str.Parse.{IsNumeralModel, numerals_by_fold, digits_value_short}
use Rattle.hex.specs.Hex.{IsBytes, decode_of, encode_lower, hex_digit_value, is_hex_digit, lower_digits}
use Rattle.hex.proofs.HexLemmas.{IsDigits-lower_digits, decode_of-digits, decode_of-encode_lower, decode_of-ok, length-encode_with}
use Rattle.spb_types.specs.Name.{is_name, is_name_byte, is_letter, is_digit}
use Rattle.spb_types.specs.declared.service.SourceId.{SourceId}
use Rattle.spb_types.specs.declared.link.Side.TheVariants.{A, B}
use Rattle.spb_types.specs.declared.link.Dir.TheVariants.{Ab, Ba}
use Rattle.spb_types.specs.declared.service.Mode.TheVariants.{Both, Send, Recv}
use Rattle.spb_types.specs.declared.entry_word.EntryWord.{EntryWord}
use Rattle.spb_types.specs.declared.entry_word.EntryWord.TheVariants.{Start, Before, Unreached}
use Rattle.scenario.specs.declared.extra.ExtraKeyword.TheVariants.{WhatIf, Proof, Check, Settle}
use Rattle.scenario.specs.declared.extra.Change.TheVariants.{Down, Up, Metric}
use Rattle.scenario.specs.Keywords.{extra_text, change_text}
use Rattle.scenario.specs.Words.{is_blank}
use Rattle.scenario.specs.WordForms as forms
use Rattle.scenario.specs.Grammar.{Kind, a_name, a_number, a_system, a_source, a_frame, a_dir, a_side, a_mode, an_extra, a_change, an_entry, Value}
use Rattle.scenario.specs.Spelling.{AreDigits, AreHexDigits, side_text, dir_text, mode_text, SpellsValue, IsWord}
use Rattle.scenario.specs.Printing.{hex_digit, source_text}

-- what is printed for an entry
abbrev entry_text : EntryWord → List ℕ
entry_text Start = codes "-"
entry_text Unreached = codes "."
entry_text (Before name) = name

-- what is printed for a value
abbrev pub value_text : (k : Kind) → Value k → List ℕ
value_text a_name name = name
value_text a_number number = decimal number
value_text a_system system = encode_lower system.bytes
value_text a_source source = source_text source.value
value_text a_frame frame = encode_lower frame
value_text a_dir dir = dir_text dir
value_text a_side side = side_text side
value_text a_mode mode = mode_text mode
value_text an_extra keyword = extra_text keyword
value_text a_change change = change_text change
value_text an_entry entry = entry_text entry

-- the text spells the value, and is no longer than the word
abbrev pub IsPrinted : (k : Kind) → Value k → List ℕ → List ℕ → Type 0
IsPrinted k value text word = SpellsValue k value text × (length text ≤ length word)

-- ---- numbers

numerals : IsNumeralModel AreDigits forms.decimal
numerals = numerals_by_fold _ (search rules) (λ n digits. fold (λ value digit. value * 10 + (digit - 48)) n digits) (search rules)

number-printed : (number : ℕ) (word : List ℕ) → SpellsValue a_number number word → IsPrinted a_number number (decimal number) word
number-printed number word h =
    let few : length word ≤ 10 = h.1 in
    let low : number < 10 ^ length word = subst (λ (n : ℕ). n < 10 ^ length word) h.3 (digits_value_short numerals word (length word) h.2 (omega arith)) in
    let most : 10 ^ length word ≤ 10 ^ 10 = pow-le-pow_right {n = 10} (omega arith) {i = length word} {j = 10} few in
    let small : number < 2 ^ 64 = omega (arith, low, most) in
    let some : 0 < length (decimal number) = decimal_nonempty number small in
    let short : length (decimal number) ≤ length word = length-decimal-le (length word) number (omega (arith, h.0)) low small in
    ((omega (arith, some), omega (arith, short, few), digits_decimal numerals number small, digits_value-decimal numerals number small), short)

-- ---- hexadecimal digits

-- the text of the bytes that digits write
bytes-printed : (word bytes : List ℕ) → length word % 2 ≡ 0 → AreHexDigits word → forms.decoded word ≡ bytes
    → (length (encode_lower bytes) ≡ length word) × AreHexDigits (encode_lower bytes) × (forms.decoded (encode_lower bytes) ≡ bytes)
bytes-printed word bytes even digits e =
    let read = decode_of-digits word even (AllPass-from_list_all is_hex_digit word digits) in
    let ok = decode_of-ok word read.0 read.1 in
    let same : read.0 ≡ bytes = sym (ap forms.bytes_in read.1) ∙ e in
    let octets : IsBytes bytes = subst (λ (bs : List ℕ). IsBytes bs) same ok.3 in
    let again : decode_of (encode_lower bytes) ≡ Ok bytes = decode_of-encode_lower bytes octets in
    let long : length (encode_lower bytes) ≡ 2 * length bytes = length-encode_with lower_digits bytes in
    let twice : length word ≡ 2 * length bytes = ok.2 ∙ ap (λ (bs : List ℕ). 2 * length bs) same in
    (long ∙ sym twice, list_all-from_AllPass is_hex_digit (encode_lower bytes) (decode_of-ok (encode_lower bytes) bytes again).1, ap forms.bytes_in again)

digit-small : (c : ℕ) → unwrap_or (hex_digit_value c) 0 < 16
digit-small c = grind (arith)

-- five digits write a number of 20 bits
five-small : (word : List ℕ) → length word ≡ 5 → forms.hexadecimal word < 1048576
five-small (a ∷ b ∷ c ∷ d ∷ e ∷ []) h = omega (arith, digit-small a, digit-small b, digit-small c, digit-small d, digit-small e)
five-small _ h = absurd (omega arith)

digit-value : (value : ℕ) → value < 16 → hex_digit_value (hex_digit value) ≡ Some value
digit-value value small = IsDigits-lower_digits value small

source-printed : (source : SourceId) (word : List ℕ) → SpellsValue a_source source word → IsPrinted a_source source (source_text source.value) word
source-printed source word h =
    let n : ℕ = source.value in
    let small : n < 1048576 = subst (λ (m : ℕ). m < 1048576) h.2 (five-small word h.0) in
    let a = digit-value (n / 65536 % 16) (omega arith) in
    let b = digit-value (n / 4096 % 16) (omega arith) in
    let c = digit-value (n / 256 % 16) (omega arith) in
    let d = digit-value (n / 16 % 16) (omega arith) in
    let e = digit-value (n % 16) (omega arith) in
    let sum : ((((0 * 16 + n / 65536 % 16) * 16 + n / 4096 % 16) * 16 + n / 256 % 16) * 16 + n / 16 % 16) * 16 + n % 16 ≡ n = omega (arith, small) in
    ((refl, rw (a, b, c, d, e) refl, rw (a, b, c, d, e) sum), omega (arith, h.0))

-- ---- each value

pub value-printed : (k : Kind) (value : Value k) (word : List ℕ) → SpellsValue k value word → IsPrinted k value (value_text k value) word
value-printed a_name value word h = ((rw (← h.1) h.0, refl), rw h.1 (omega arith))
value-printed a_number value word h = number-printed value word h
value-printed a_system value word h =
    let t = bytes-printed word value.bytes (ap (λ (n : ℕ). n % 2) h.0) h.1 h.2 in
    ((t.0 ∙ h.0, t.1, t.2), omega (arith, t.0))
value-printed a_source value word h = source-printed value word h
value-printed a_frame value word h =
    let t = bytes-printed word value h.1 h.2 h.3 in
    ((omega (arith, t.0, h.0), ap (λ (n : ℕ). n % 2) t.0 ∙ h.1, t.1, t.2), omega (arith, t.0))
value-printed a_dir value word h = (refl, rw h (omega arith))
value-printed a_side value word h = (refl, rw h (omega arith))
value-printed a_mode value word h = (refl, rw h (omega arith))
value-printed an_extra value word h = (refl, rw h (omega arith))
value-printed a_change value word h = (refl, rw h (omega arith))
value-printed an_entry Start word h = (refl, rw h (omega arith))
value-printed an_entry Unreached word h = (refl, rw h (omega arith))
value-printed an_entry (Before name) word h = ((rw (← h.1) h.0, refl), rw h.1 (omega arith))

-- ---- a word that spells a value holds no blank

-- a byte that passes a test which no blank passes isn't blank
unblank-byte : (p : ℕ → Bool) → p 32 ≡ false → p 9 ≡ false → (byte : ℕ) → p byte ≡ true → not (is_blank byte) ≡ true
unfolding is_blank
unblank-byte p space tab byte h =
    elim (cases_Bool (byte == 32)) [
      | inl e ↦ let same : byte ≡ 32 = eqb-true byte 32 e in cc (sym space ∙ (ap p (sym same) ∙ h))
      | inr other ↦
          elim (cases_Bool (byte == 9)) [
            | inl e ↦ let same : byte ≡ 9 = eqb-true byte 9 e in cc (sym tab ∙ (ap p (sym same) ∙ h))
            | inr none ↦ rw (other, none) refl
          ]
    ]

unblank-bytes : (p : ℕ → Bool) → p 32 ≡ false → p 9 ≡ false → (word : List ℕ) → list_all p word ≡ true → list_all (λ b. not (is_blank b)) word ≡ true
unblank-bytes p space tab [] h = refl
unblank-bytes p space tab (byte ∷ word) h =
    let parts = and_parts (p byte) (list_all p word) h in
    rw (unblank-byte p space tab byte parts.0) (unblank-bytes p space tab word parts.1)

unblank-word : (p : ℕ → Bool) → p 32 ≡ false → p 9 ≡ false → (word : List ℕ) → list_all p word ≡ true → 1 ≤ length word → IsWord word
unblank-word p space tab [] h some = absurd (omega (arith, some))
unblank-word p space tab (byte ∷ word) h some = unblank-bytes p space tab (byte ∷ word) h

name-word : (word : List ℕ) → is_name word ≡ true → IsWord word
name-word [] h = cc h
name-word (byte ∷ word) h =
    let parts = and_parts (nat_le (length word) 15 && is_letter byte) (list_all is_name_byte word) h in
    let letter = (and_parts (nat_le (length word) 15) (is_letter byte) parts.0).1 in
    let first : is_name_byte byte ≡ true = rw letter refl in
    unblank-word is_name_byte refl refl (byte ∷ word) (rw first parts.1) (omega arith)

pub value-word : (k : Kind) (value : Value k) (word : List ℕ) → SpellsValue k value word → IsWord word
unfolding is_blank
value-word a_name value word h = name-word word h.0
value-word a_number value word h = unblank-word is_digit refl refl word h.2 h.0
value-word a_system value word h = unblank-word is_hex_digit refl refl word h.1 (omega (arith, h.0))
value-word a_source value word h = unblank-word is_hex_digit refl refl word h.1 (omega (arith, h.0))
value-word a_frame value word h = unblank-word is_hex_digit refl refl word h.2 h.0
value-word a_dir Ab word h = subst IsWord (sym h) refl
value-word a_dir Ba word h = subst IsWord (sym h) refl
value-word a_side A word h = subst IsWord (sym h) refl
value-word a_side B word h = subst IsWord (sym h) refl
value-word a_mode Both word h = subst IsWord (sym h) refl
value-word a_mode Send word h = subst IsWord (sym h) refl
value-word a_mode Recv word h = subst IsWord (sym h) refl
value-word an_extra WhatIf word h = subst IsWord (sym h) refl
value-word an_extra Proof word h = subst IsWord (sym h) refl
value-word an_extra Check word h = subst IsWord (sym h) refl
value-word an_extra Settle word h = subst IsWord (sym h) refl
value-word a_change Down word h = subst IsWord (sym h) refl
value-word a_change Up word h = subst IsWord (sym h) refl
value-word a_change Metric word h = subst IsWord (sym h) refl
value-word an_entry Start word h = subst IsWord (sym h) refl
value-word an_entry Unreached word h = subst IsWord (sym h) refl
value-word an_entry (Before name) word h = name-word word h.0
