-- The words of a form are those that spell it.
use Rattle.std.proofs.Common.{◌≡◌, ℕ, ◌+◌, ◌-◌, ◌*◌, ◌/◌, ◌%◌, ◌≤◌, ◌<◌, Bool, true, false, ◌&&◌, if◌then◌else◌, nat_le, List, [], ◌∷◌, Option, Some, None, option_map, decimal, codes, refl, sym, ap, ◌∙◌, subst, ◌⊎◌, inl, inr, arith}
use Rattle.std.specs.Str.{bytes_eq}
use Rattle.std.proofs.lemmas.Bool.Decides.{nat_tests}
use Rattle.std.proofs.lemmas.Slice.Eq.{bytes_eq-Decides}
use Rattle.scenario_maker.proofs.Numbers.{decimal_one, decimal_pair}
use Rattle.network_model.specs.declared.kind_rule.KindRule.{KindRule}
use Rattle.network_model.specs.declared.kind_rule.KindRule.TheVariants.{Plain, Swift, Mixed}
use Rattle.spb_run.specs.declared.words.Form.{Form}
use Rattle.spb_run.specs.declared.words.Form.TheVariants.{Run, Make, Try, Listing, Capture}
use Rattle.spb_run.specs.Words.{is_digit_from, if_made, bridges_of, name_of_rule, rule_named, rule_told, make_form, try_by, try_form, list_form, capture_form, form_of, IsForm, Spells, run_alone, run_kind, make_number, try_alone, try_kind, list_alone, capture_alone, FormsAreSpelled}

-- ---- tests

if_some : {X : Type 0} (b : Bool) (o : Option X) (x : X) → (if b then o else None) ≡ Some x → (b ≡ true) × (o ≡ Some x)
if_some true o x e = (refl, e)
if_some false o x e = absurd cc

if_true : {X : Type 0} (b : Bool) (o p : Option X) → b ≡ true → (if b then o else p) ≡ o
if_true b o p e = ap (λ t. if t then o else p) e

both : (a b : Bool) → (a && b) ≡ true → (a ≡ true) × (b ≡ true)
both true b e = (refl, e)
both false b e = absurd cc

and_true : (a b : Bool) → a ≡ true → b ≡ true → (a && b) ≡ true
and_true a b p q = ap (λ t. t && b) p ∙ q

same_some : {X : Type 0} (x y : X) → Some x ≡ Some y → x ≡ y
same_some x y e = cc

le_of : (m n : ℕ) → nat_le m n ≡ true → m ≤ n
le_of m n e = grind (arith, nat_tests)

of_le : (m n : ℕ) → m ≤ n → nat_le m n ≡ true
of_le m n e = grind (arith, nat_tests)

-- ---- numbers of bridges

made_in : (m n : ℕ) → if_made m ≡ Some n → (m ≡ n) × (4 ≤ n) × (n ≤ 96)
made_in m n e =
    let t = if_some (nat_le 4 m && nat_le m 96) (Some m) n e in
    let u = both (nat_le 4 m) (nat_le m 96) t.0 in
    let low = le_of 4 m u.0 in
    let high = le_of m 96 u.1 in
    let same = same_some m n t.1 in
    (same, omega arith, omega arith)

in_made : (m n : ℕ) → m ≡ n → 4 ≤ n → n ≤ 96 → if_made m ≡ Some n
in_made m n same low high =
    if_true (nat_le 4 m && nat_le m 96) (Some m) None (and_true (nat_le 4 m) (nat_le m 96) (of_le 4 m (omega arith)) (of_le m 96 (omega arith)))
    ∙ ap Some same

digit_in : (least byte : ℕ) → is_digit_from least byte ≡ true → (least ≤ byte) × (byte ≤ 57)
digit_in least byte e = let t = both (nat_le least byte) (nat_le byte 57) e in (le_of least byte t.0, le_of byte 57 t.1)

in_digit : (least byte : ℕ) → least ≤ byte → byte ≤ 57 → is_digit_from least byte ≡ true
in_digit least byte low high = and_true (nat_le least byte) (nat_le byte 57) (of_le least byte low) (of_le byte 57 high)

one_read : (a n : ℕ) → a - 48 ≡ n → 49 ≤ a → a ≤ 57 → a ∷ [] ≡ decimal n
one_read a n e low high =
    let same : a ≡ 48 + n = omega arith in
    ap (λ d. d ∷ []) same ∙ sym (decimal_one n (omega arith))

pair_of : (a b c d : ℕ) → a ≡ c → b ≡ d → ◌≡◌ {A = List ℕ} (a ∷ b ∷ []) (c ∷ d ∷ [])
pair_of a b c d p q = ap (λ x. x ∷ b ∷ []) p ∙ ap (λ x. c ∷ x ∷ []) q

two_read : (a b n : ℕ) → 10 * (a - 48) + (b - 48) ≡ n → 49 ≤ a → a ≤ 57 → 48 ≤ b → b ≤ 57 → a ∷ b ∷ [] ≡ decimal n
two_read a b n e low high low' high' =
    pair_of a b (48 + n / 10) (48 + n % 10) (omega arith) (omega arith) ∙ sym (decimal_pair n (omega arith) (omega arith))

read : (word : List ℕ) (n : ℕ) → bridges_of word ≡ Some n → (4 ≤ n) × (n ≤ 96) × (word ≡ decimal n)
read [] n e = absurd cc
read (a ∷ []) n e =
    let t = if_some (is_digit_from 49 a) (if_made (a - 48)) n e in
    let u = digit_in 49 a t.0 in
    let v = made_in (a - 48) n t.1 in
    (v.1, v.2, one_read a n v.0 u.0 u.1)
read (a ∷ b ∷ []) n e =
    let t = if_some (is_digit_from 49 a && is_digit_from 48 b) (if_made (10 * (a - 48) + (b - 48))) n e in
    let digits = both (is_digit_from 49 a) (is_digit_from 48 b) t.0 in
    let u = digit_in 49 a digits.0 in
    let w = digit_in 48 b digits.1 in
    let v = made_in (10 * (a - 48) + (b - 48)) n t.1 in
    (v.1, v.2, two_read a b n v.0 u.0 u.1 w.0 w.1)
read (a ∷ b ∷ c ∷ more) n e = absurd cc

one_spelled : (a n : ℕ) → a ≡ 48 + n → 4 ≤ n → n < 10 → bridges_of (a ∷ []) ≡ Some n
one_spelled a n is low small =
    if_true (is_digit_from 49 a) (if_made (a - 48)) None (in_digit 49 a (omega arith) (omega arith))
    ∙ in_made (a - 48) n (omega arith) low (omega arith)

two_spelled : (a b n : ℕ) → a ≡ 48 + n / 10 → b ≡ 48 + n % 10 → 10 ≤ n → n ≤ 96 → bridges_of (a ∷ b ∷ []) ≡ Some n
two_spelled a b n is is' low high =
    if_true (is_digit_from 49 a && is_digit_from 48 b) (if_made (10 * (a - 48) + (b - 48))) None
    (and_true (is_digit_from 49 a) (is_digit_from 48 b) (in_digit 49 a (omega arith) (omega arith)) (in_digit 48 b (omega arith) (omega arith)))
    ∙ in_made (10 * (a - 48) + (b - 48)) n (omega arith) (omega arith) high

spelled_by : (n : ℕ) (t : Bool) → nat_le 10 n ≡ t → 4 ≤ n → n ≤ 96 → bridges_of (decimal n) ≡ Some n
spelled_by n true e low high =
    let some = le_of 10 n e in
    ap bridges_of (decimal_pair n some (omega arith)) ∙ two_spelled (48 + n / 10) (48 + n % 10) n refl refl some high
spelled_by n false e low high =
    let small : n < 10 = grind (arith, nat_tests) in
    ap bridges_of (decimal_one n small) ∙ one_spelled (48 + n) n refl low small

-- ---- rules

by_name : (word : List ℕ) (rule : KindRule) (a b c : Bool) → bytes_eq word (codes "plain") ≡ a → bytes_eq word (codes "swift") ≡ b → bytes_eq word (codes "mixed") ≡ c
    → (if a then Some Plain else (if b then Some Swift else (if c then Some Mixed else None))) ≡ Some rule → word ≡ name_of_rule rule
by_name word rule true b c p q r e = (bytes_eq-Decides word (codes "plain")).0 p ∙ ap name_of_rule (same_some Plain rule e)
by_name word rule false true c p q r e = (bytes_eq-Decides word (codes "swift")).0 q ∙ ap name_of_rule (same_some Swift rule e)
by_name word rule false false true p q r e = (bytes_eq-Decides word (codes "mixed")).0 r ∙ ap name_of_rule (same_some Mixed rule e)
by_name word rule false false false p q r e = absurd cc

-- how a rule is told: by `--kind` and its name, or the plain one by nothing
abbrev Tells : KindRule → List (List ℕ) → Type 0
Tells rule words = (words ≡ codes "--kind" ∷ name_of_rule rule ∷ []) ⊎ ((rule ≡ Plain) × (words ≡ []))

told_read : (words : List (List ℕ)) (rule : KindRule) → rule_told words ≡ Some rule → Tells rule words
told_read [] rule e = inr (sym (same_some Plain rule e), refl)
told_read (word ∷ []) rule e = absurd cc
told_read (word ∷ name ∷ []) rule e =
    let t = if_some (bytes_eq word (codes "--kind")) (rule_named name) rule e in
    let kind = (bytes_eq-Decides word (codes "--kind")).0 t.0 in
    let named = by_name name rule (bytes_eq name (codes "plain")) (bytes_eq name (codes "swift")) (bytes_eq name (codes "mixed")) refl refl refl t.1 in
    inl (ap (λ w. w ∷ name ∷ []) kind ∙ ap (λ w. codes "--kind" ∷ w ∷ []) named)
told_read (a ∷ b ∷ c ∷ more) rule e = absurd cc

-- ---- forms

map_some : {X : Type 0} (g : X → Form) (o : Option X) (f : Form) → option_map g o ≡ Some f → (x : X) × (o ≡ Some x) × (f ≡ g x)
map_some g None f e = absurd cc
map_some g (Some x) f e = (x, refl, sym (same_some (g x) f e))

-- words that are spelled so, and a form that is this one
abbrev Reads : Form → List (List ℕ) → Type 0
Reads f words = IsForm f × Spells f words

run_read : (word : List ℕ) (others : List (List ℕ)) (rule : KindRule) → word ≡ codes "run" → Tells rule others → Reads (Run rule) (word ∷ others)
run_read word others rule first (inl told) =
    (tt, subst (λ ws. Spells (Run rule) ws) (sym (ap (λ w. w ∷ others) first ∙ ap (λ ws. codes "run" ∷ ws) told)) (run_kind rule))
run_read word others rule first (inr plain) = (
  tt,
  subst (λ r. Spells (Run r) (word ∷ others)) (sym plain.0)
      (subst (λ ws. Spells (Run Plain) ws) (sym (ap (λ w. w ∷ others) first ∙ ap (λ ws. codes "run" ∷ ws) plain.1)) run_alone),
)

make_read : (word : List ℕ) (others : List (List ℕ)) (f : Form) → word ≡ codes "make" → make_form others ≡ Some f → Reads f (word ∷ others)
make_read word [] f first e = absurd cc
make_read word (number ∷ []) f first e =
    let m = map_some Make (bridges_of number) f e in
    let n = m.0 in
    let r = read number n m.1 in
    subst (λ g. Reads g (word ∷ number ∷ [])) (sym m.2)
    ((r.0, r.1), subst (λ ws. Spells (Make n) ws) (sym (ap (λ w. w ∷ number ∷ []) first ∙ ap (λ w. codes "make" ∷ w ∷ []) r.2)) (make_number n))
make_read word (a ∷ b ∷ more) f first e = absurd cc

both_some : (o : Option ℕ) (p : Option KindRule) (f : Form) → try_by o p ≡ Some f
    → (n : ℕ) × (rule : KindRule) × (o ≡ Some n) × (p ≡ Some rule) × (f ≡ Try n rule)
both_some None p f e = absurd cc
both_some (Some n) None f e = absurd cc
both_some (Some n) (Some rule) f e = (n, rule, refl, refl, sym (same_some (Try n rule) f e))

try_told : (word number : List ℕ) (others : List (List ℕ)) (n : ℕ) (rule : KindRule) → word ≡ codes "try" → number ≡ decimal n → Tells rule others → Spells (Try n rule) (word ∷ number ∷ others)
try_told word number others n rule first same (inl told) =
    subst (λ ws. Spells (Try n rule) ws)
    (sym (ap (λ w. w ∷ number ∷ others) first ∙ ap (λ w. codes "try" ∷ w ∷ others) same ∙ ap (λ ws. codes "try" ∷ decimal n ∷ ws) told)) (try_kind n rule)
try_told word number others n rule first same (inr plain) =
    subst (λ r. Spells (Try n r) (word ∷ number ∷ others)) (sym plain.0)
    (subst (λ ws. Spells (Try n Plain) ws)
    (sym (ap (λ w. w ∷ number ∷ others) first ∙ ap (λ w. codes "try" ∷ w ∷ others) same ∙ ap (λ ws. codes "try" ∷ decimal n ∷ ws) plain.1)) (try_alone n))

try_read : (word : List ℕ) (others : List (List ℕ)) (f : Form) → word ≡ codes "try" → try_form others ≡ Some f → Reads f (word ∷ others)
try_read word [] f first e = absurd cc
try_read word (number ∷ others) f first e =
    let m = both_some (bridges_of number) (rule_told others) f e in
    let n = m.0 in
    let rule = m.1 in
    let r = read number n m.2 in
    subst (λ g. Reads g (word ∷ number ∷ others)) (sym m.4)
    ((r.0, r.1), try_told word number others n rule first r.2 (told_read others rule m.3))

list_read : (word : List ℕ) (others : List (List ℕ)) (f : Form) → word ≡ codes "list" → list_form others ≡ Some f → Reads f (word ∷ others)
list_read word [] f first e = subst (λ g. Reads g (word ∷ [])) (same_some Listing f e) (tt, subst (λ ws. Spells Listing ws) (sym (ap (λ w. w ∷ []) first)) list_alone)
list_read word (a ∷ more) f first e = absurd cc

capture_read : (word : List ℕ) (others : List (List ℕ)) (f : Form) → word ≡ codes "capture" → capture_form others ≡ Some f → Reads f (word ∷ others)
capture_read word [] f first e = subst (λ g. Reads g (word ∷ [])) (same_some Capture f e) (tt, subst (λ ws. Spells Capture ws) (sym (ap (λ w. w ∷ []) first)) capture_alone)
capture_read word (a ∷ more) f first e = absurd cc

by_last : (word : List ℕ) (others : List (List ℕ)) (f : Form) (a b : Bool) → bytes_eq word (codes "list") ≡ a → bytes_eq word (codes "capture") ≡ b
    → (if a then list_form others else (if b then capture_form others else None)) ≡ Some f → Reads f (word ∷ others)
by_last word others f true b p q e = list_read word others f ((bytes_eq-Decides word (codes "list")).0 p) e
by_last word others f false true p q e = capture_read word others f ((bytes_eq-Decides word (codes "capture")).0 q) e
by_last word others f false false p q e = absurd cc

by_first : (word : List ℕ) (others : List (List ℕ)) (f : Form) (a b c : Bool) → bytes_eq word (codes "run") ≡ a → bytes_eq word (codes "make") ≡ b → bytes_eq word (codes "try") ≡ c
    → (if a then option_map Run (rule_told others) else (if b then make_form others else (if c then try_form others
    else (if bytes_eq word (codes "list") then list_form others else (if bytes_eq word (codes "capture") then capture_form others else None))))) ≡ Some f → Reads f (word ∷ others)
by_first word others f true b c p q r e =
    let m = map_some Run (rule_told others) f e in
    subst (λ g. Reads g (word ∷ others)) (sym m.2) (run_read word others m.0 ((bytes_eq-Decides word (codes "run")).0 p) (told_read others m.0 m.1))
by_first word others f false true c p q r e = make_read word others f ((bytes_eq-Decides word (codes "make")).0 q) e
by_first word others f false false true p q r e = try_read word others f ((bytes_eq-Decides word (codes "try")).0 r) e
by_first word others f false false false p q r e = by_last word others f (bytes_eq word (codes "list")) (bytes_eq word (codes "capture")) refl refl e

form_read : (words : List (List ℕ)) (f : Form) → form_of words ≡ Some f → Reads f words
form_read [] f e = absurd cc
form_read (word ∷ others) f e = by_first word others f (bytes_eq word (codes "run")) (bytes_eq word (codes "make")) (bytes_eq word (codes "try")) refl refl refl e

told_spelled : (rule : KindRule) → rule_told (codes "--kind" ∷ name_of_rule rule ∷ []) ≡ Some rule
told_spelled Plain = refl
told_spelled Swift = refl
told_spelled Mixed = refl

try_spelled : (n : ℕ) (rule : KindRule) (others : List (List ℕ)) → 4 ≤ n → n ≤ 96 → rule_told others ≡ Some rule → try_form (decimal n ∷ others) ≡ Some (Try n rule)
try_spelled n rule others low high told =
    ap (λ o. try_by o (rule_told others)) (spelled_by n (nat_le 10 n) refl low high) ∙ ap (try_by (Some n)) told

form_spelled : (f : Form) (words : List (List ℕ)) → Spells f words → IsForm f → form_of words ≡ Some f
form_spelled f words run_alone is = refl
form_spelled f words (run_kind rule) is = ap (option_map Run) (told_spelled rule)
form_spelled f words (make_number n) is = ap (option_map Make) (spelled_by n (nat_le 10 n) refl is.0 is.1)
form_spelled f words (try_alone n) is = try_spelled n Plain [] is.0 is.1 refl
form_spelled f words (try_kind n rule) is = try_spelled n rule (codes "--kind" ∷ name_of_rule rule ∷ []) is.0 is.1 (told_spelled rule)
form_spelled f words list_alone is = refl
form_spelled f words capture_alone is = refl

pub forms_are_spelled : FormsAreSpelled
forms_are_spelled words f = (form_read words f, λ s. form_spelled f words s.1 s.0)
