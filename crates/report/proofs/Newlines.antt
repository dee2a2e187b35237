-- How often LF stands in the parts of a line.
use Rattle.std.proofs.Common.{◌≡◌, ℕ, zero, suc, ◌+◌, ◌/◌, ◌%◌, Bool, true, false, not, ◌&&◌, List, [], ◌∷◌, ◌++◌, get_or, refl, sym, ap, subst, ◌∙◌, arith, if◌then◌else◌, codes, decimal}
use Rattle.std.specs.Prelude.{◌==◌, nat_le, length}
use Rattle.std.specs.List.{flat_map, list_all, AllByRecursion}
use Rattle.std.specs.Fmt.{digits, digits_onto, digit_glyph}
use Rattle.std.proofs.lemmas.Bool.{and_parts, eqb-true}
use Rattle.std.proofs.lemmas.Bool.Decides.{nat_tests}
use Rattle.std.proofs.lemmas.List.Sums.{sum_by-append, sum_by-cons}
use Rattle.hex.specs.Hex.{encode_lower, encode_with, lower_digits}
use Rattle.spb_types.specs.declared.ports.PortSet.{PortSet}
use Rattle.spb_types.specs.Name.{is_name_byte, is_letter}
use Rattle.report.specs.Words.{spaced}
use Rattle.report.specs.Ports.{ports_of, listed, ports_text}
use Rattle.report.specs.Laws.{newlines, LacksNewline, IsName}

abbrev pub is_newline : ℕ → Bool
is_newline b = b == 10

pub newlines-append : (xs ys : List ℕ) → newlines (xs ++ ys) ≡ newlines xs + newlines ys
newlines-append xs ys = sum_by-append (λ b. if is_newline b then 1 else 0) xs ys

pub append_lacks : (xs ys : List ℕ) → LacksNewline xs → LacksNewline ys → LacksNewline (xs ++ ys)
append_lacks xs ys f g = omega (arith, newlines-append xs ys)

newlines-cons : (b : ℕ) (bytes : List ℕ) → is_newline b ≡ false → newlines (b ∷ bytes) ≡ newlines bytes
newlines-cons b bytes h =
    let none : newlines bytes ≡ 0 + newlines bytes = omega arith in
    sum_by-cons (λ c. if is_newline c then 1 else 0) b bytes ∙ ap (λ t. (if t then 1 else 0) + newlines bytes) h ∙ sym none

pub flat_map_lacks : {X : Type 0} (f : X → List ℕ) → ((x : X) → LacksNewline (f x)) → (xs : List X) → LacksNewline (flat_map f xs)
flat_map_lacks f each [] = refl
flat_map_lacks f each (x ∷ xs) = append_lacks (f x) (flat_map f xs) (each x) (flat_map_lacks f each xs)

-- words without LF, with a space before each
pub spaced_lack : (words : List (List ℕ)) → AllByRecursion LacksNewline words → LacksNewline (flat_map spaced words)
spaced_lack [] h = refl
spaced_lack (word ∷ words) h =
    append_lacks (spaced word) (flat_map spaced words) (newlines-cons 32 word refl ∙ h.0) (spaced_lack words h.1)

-- a number is written without LF
glyph_is_other : (d : ℕ) → is_newline (digit_glyph false d) ≡ false
glyph_is_other d = grind (arith, nat_tests)

digits_by : (k n : ℕ) (acc : List ℕ) (b : Bool) → ((d : ℕ) (more : List ℕ) → newlines (digits_onto k 10 false d more) ≡ newlines more)
    → newlines (if b then digit_glyph false (n % 10) ∷ acc else digits_onto k 10 false (n / 10) (digit_glyph false (n % 10) ∷ acc)) ≡ newlines acc
digits_by k n acc true rest = newlines-cons (digit_glyph false (n % 10)) acc (glyph_is_other (n % 10))
digits_by k n acc false rest =
    rest (n / 10) (digit_glyph false (n % 10) ∷ acc) ∙ newlines-cons (digit_glyph false (n % 10)) acc (glyph_is_other (n % 10))

newlines-digits_onto : (k n : ℕ) (acc : List ℕ) → newlines (digits_onto k 10 false n acc) ≡ newlines acc
newlines-digits_onto zero n acc = refl
newlines-digits_onto (suc k) n acc = digits_by k n acc (n / 10 == 0) (newlines-digits_onto k)

pub decimal_lacks : (n : ℕ) → LacksNewline (decimal n)
unfolding digits
decimal_lacks n = newlines-digits_onto 64 n []

-- bytes are written without LF
item_is_other : (t : List ℕ) (k : ℕ) → list_all (λ b. not (is_newline b)) t ≡ true → is_newline (get_or t k 0) ≡ false
item_is_other [] k h = refl
item_is_other (b ∷ t) zero h = grind (arith, nat_tests)
item_is_other (b ∷ t) (suc k) h = item_is_other t k (and_parts (not (is_newline b)) (list_all (λ b. not (is_newline b)) t) h).1

pub hex_lacks : (bytes : List ℕ) → LacksNewline (encode_lower bytes)
unfolding encode_with
hex_lacks [] = refl
hex_lacks (b ∷ bytes) =
    newlines-cons (get_or lower_digits (b / 16) 0) (get_or lower_digits (b % 16) 0 ∷ encode_lower bytes) (item_is_other lower_digits (b / 16) refl)
    ∙ newlines-cons (get_or lower_digits (b % 16) 0) (encode_lower bytes) (item_is_other lower_digits (b % 16) refl)
    ∙ hex_lacks bytes

-- a name has no LF
passes_is_other : (test : ℕ → Bool) (b : ℕ) (t : Bool) → test 10 ≡ false → test b ≡ true → is_newline b ≡ t → is_newline b ≡ false
passes_is_other test b true none h e =
    let ten : test 10 ≡ true = subst (λ n. test n ≡ true) (eqb-true b 10 e) h in
    cc
passes_is_other test b false none h e = e

name_bytes_lack : (bytes : List ℕ) → list_all is_name_byte bytes ≡ true → LacksNewline bytes
name_bytes_lack [] h = refl
name_bytes_lack (b ∷ bytes) h =
    let parts = and_parts (is_name_byte b) (list_all is_name_byte bytes) h in
    newlines-cons b bytes (passes_is_other is_name_byte b (is_newline b) refl parts.0 refl) ∙ name_bytes_lack bytes parts.1

pub name_lacks : (name : List ℕ) → IsName name → LacksNewline name
name_lacks [] h = refl
name_lacks (b ∷ bytes) h =
    let parts = and_parts (nat_le (length bytes) 15 && is_letter b) (list_all is_name_byte bytes) h in
    let letter = and_parts (nat_le (length bytes) 15) (is_letter b) parts.0 in
    newlines-cons b bytes (passes_is_other is_letter b (is_newline b) refl letter.1 refl) ∙ name_bytes_lack bytes parts.1

-- ports are written without LF
listed_lacks : (ports : List ℕ) → LacksNewline (listed ports)
listed_lacks [] = refl
listed_lacks (p ∷ ps) =
    append_lacks (decimal p) (flat_map (λ q. codes "," ++ decimal q) ps) (decimal_lacks p)
    (flat_map_lacks (λ q. codes "," ++ decimal q) (λ q. append_lacks (codes ",") (decimal q) refl (decimal_lacks q)) ps)

pub ports_lack : (set : PortSet) → LacksNewline (ports_text set)
unfolding ports_text
ports_lack set = listed_lacks (ports_of set)
