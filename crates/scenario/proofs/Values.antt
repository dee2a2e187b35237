use Rattle.std.proofs.Common.{◌≡◌, ℕ, ◌%◌, ◌==◌, List, length, Bool, true, false, ◌&&◌, Option, Some, None, nat_le, codes, ◌⊎◌, if◌then◌else◌, refl, ap, subst, ◌∙◌, inl, inr, arith}
use Rattle.std.specs.List.{list_all}
use Rattle.std.specs.Option.{option_map}
use Rattle.std.specs.Str.{bytes_eq}
use Rattle.std.proofs.lemmas.Bool.{cases_Bool, and_parts, eqb-true}
use Rattle.std.proofs.lemmas.Bool.Decides.{nat_tests}
use Rattle.std.proofs.lemmas.Option.{cond_some}
use Rattle.std.proofs.lemmas.Slice.Eq.{bytes_eq-Decides}
use Rattle.hex.specs.Hex.{is_hex_digit}
use Rattle.spb_types.specs.Name.{is_name, is_digit}
use Rattle.spb_types.specs.declared.address.Mac.{Mac}
use Rattle.spb_types.specs.declared.service.SourceId.{SourceId}
use Rattle.spb_types.specs.declared.link.Side.{Side}
use Rattle.spb_types.specs.declared.link.Side.TheVariants.{A, B}
use Rattle.spb_types.specs.declared.link.Dir.{Dir}
use Rattle.spb_types.specs.declared.link.Dir.TheVariants.{Ab, Ba}
use Rattle.spb_types.specs.declared.entry_word.EntryWord.{EntryWord}
use Rattle.spb_types.specs.declared.entry_word.EntryWord.TheVariants.{Start, Before, Unreached}
use Rattle.spb_types.specs.declared.service.Mode.TheVariants.{Both, Send, Recv}
use Rattle.scenario.specs.declared.extra.ExtraKeyword.TheVariants.{WhatIf, Proof, Check, Settle}
use Rattle.scenario.specs.declared.extra.Change.TheVariants.{Down, Up, Metric}
use Rattle.scenario.specs.WordForms.{name, number, system, source, frame, dir, side, mode, entry, decimal, decoded, hexadecimal}
use Rattle.scenario.specs.Keywords.{extra_text, extra_keyword, change_text, change_of}
use Rattle.scenario.specs.Grammar.{Kind, a_name, a_number, a_system, a_source, a_frame, a_dir, a_side, a_mode, an_extra, a_change, an_entry, Value, meaning}
use Rattle.scenario.specs.Spelling.{dir_text, side_text, mode_text, SpellsEntry, SpellsValue}

-- which of two tests a choice passed
chosen : {X : Type 0} (p q : Bool) (x y z : X) → (if p then Some x else (if q then Some y else None)) ≡ Some z
    → ((p ≡ true) × (x ≡ z)) ⊎ ((q ≡ true) × (y ≡ z))
chosen true q x y z h = inl (refl, cc)
chosen false true x y z h = inr (refl, cc)
chosen false false x y z h = cc

spells-dir : (v : Dir) (word : List ℕ) → dir word ≡ Some v → word ≡ dir_text v
unfolding dir
spells-dir v word h =
    elim (chosen (bytes_eq word (codes "ab")) (bytes_eq word (codes "ba")) Ab Ba v h) [
      | inl first ↦ (bytes_eq-Decides word (codes "ab")).0 first.0 ∙ ap dir_text first.1
      | inr second ↦ (bytes_eq-Decides word (codes "ba")).0 second.0 ∙ ap dir_text second.1
    ]

spells-side : (v : Side) (word : List ℕ) → side word ≡ Some v → word ≡ side_text v
unfolding side
spells-side v word h =
    elim (chosen (bytes_eq word (codes "a")) (bytes_eq word (codes "b")) A B v h) [
      | inl first ↦ (bytes_eq-Decides word (codes "a")).0 first.0 ∙ ap side_text first.1
      | inr second ↦ (bytes_eq-Decides word (codes "b")).0 second.0 ∙ ap side_text second.1
    ]

-- which of three
chosen-of : {X : Type 0} (p q r : Bool) (x y z v : X) → (if p then Some x else (if q then Some y else (if r then Some z else None))) ≡ Some v
    → ((p ≡ true) × (x ≡ v)) ⊎ (((q ≡ true) × (y ≡ v)) ⊎ ((r ≡ true) × (z ≡ v)))
chosen-of true q r x y z v h = inl (refl, cc)
chosen-of false true r x y z v h = inr (inl (refl, cc))
chosen-of false false true x y z v h = inr (inr (refl, cc))
chosen-of false false false x y z v h = cc

-- the text, of three, that the word is
spells-three : {X : Type 0} (text : X → List ℕ) (a b c v : X) (word : List ℕ)
    → (if bytes_eq word (text a) then Some a else (if bytes_eq word (text b) then Some b else (if bytes_eq word (text c) then Some c else None))) ≡ Some v
    → word ≡ text v
spells-three text a b c v word h =
    elim (chosen-of (bytes_eq word (text a)) (bytes_eq word (text b)) (bytes_eq word (text c)) a b c v h) [
      | inl first ↦ (bytes_eq-Decides word (text a)).0 first.0 ∙ ap text first.1
      | inr others ↦
          elim others [
            | inl second ↦ (bytes_eq-Decides word (text b)).0 second.0 ∙ ap text second.1
            | inr third ↦ (bytes_eq-Decides word (text c)).0 third.0 ∙ ap text third.1
          ]
    ]

-- which of four: the first, or what the others give
chosen-or : {X : Type 0} (p : Bool) (o : Option X) (x v : X) → (if p then Some x else o) ≡ Some v → ((p ≡ true) × (x ≡ v)) ⊎ (o ≡ Some v)
chosen-or true o x v h = inl (refl, cc)
chosen-or false o x v h = inr h

-- the text, of four, that the word is
spells-four : {X : Type 0} (text : X → List ℕ) (a b c d v : X) (word : List ℕ)
    → (if bytes_eq word (text a) then Some a else (if bytes_eq word (text b) then Some b else (if bytes_eq word (text c) then Some c else (if bytes_eq word (text d) then Some d else None)))) ≡ Some v
    → word ≡ text v
spells-four text a b c d v word h =
    elim (chosen-or (bytes_eq word (text a)) (if bytes_eq word (text b) then Some b else (if bytes_eq word (text c) then Some c else (if bytes_eq word (text d) then Some d else None))) a v h) [
      | inl first ↦ (bytes_eq-Decides word (text a)).0 first.0 ∙ ap text first.1
      | inr others ↦ spells-three text b c d v word others
    ]

-- which entry a choice gave
entry-chosen : (p q : Bool) (o : Option (List ℕ)) (v : EntryWord) → (if p then Some Start else (if q then Some Unreached else option_map Before o)) ≡ Some v
    → ((p ≡ true) × (Start ≡ v)) ⊎ (((q ≡ true) × (Unreached ≡ v)) ⊎ ((found : List ℕ) × (o ≡ Some found) × (Before found ≡ v)))
entry-chosen true q o v h = inl (refl, cc)
entry-chosen false true o v h = inr (inl (refl, cc))
entry-chosen false false None v h = cc
entry-chosen false false (Some found) v h = inr (inr (found, refl, cc))

spells-entry : (v : EntryWord) (word : List ℕ) → entry word ≡ Some v → SpellsEntry v word
unfolding entry name
spells-entry v word h =
    elim (entry-chosen (bytes_eq word (codes "-")) (bytes_eq word (codes ".")) (name word) v h) [
      | inl first ↦ subst (λ (e : EntryWord). SpellsEntry e word) first.1 ((bytes_eq-Decides word (codes "-")).0 first.0)
      | inr others ↦
          elim others [
            | inl second ↦ subst (λ (e : EntryWord). SpellsEntry e word) second.1 ((bytes_eq-Decides word (codes ".")).0 second.0)
            | inr third ↦
                let p = cond_some (is_name word) word third.0 third.1 in
                subst (λ (e : EntryWord). SpellsEntry e word) third.2 (p.0, p.1)
          ]
    ]

-- a name is neither `-` nor `.`
other-name : (word text : List ℕ) → is_name word ≡ true → is_name text ≡ false → bytes_eq word text ≡ false
other-name word text h none =
    elim (cases_Bool (bytes_eq word text)) [
      | inl e ↦
          let same : word ≡ text = (bytes_eq-Decides word text).0 e in
          cc (ap is_name same, h, none)
      | inr other ↦ other
    ]

entry-spelled : (v : EntryWord) (word : List ℕ) → SpellsEntry v word → entry word ≡ Some v
unfolding entry name
entry-spelled Start word h = rw h refl
entry-spelled Unreached word h = rw h refl
entry-spelled (Before found) word h =
    rw (other-name word (codes "-") h.0 refl, other-name word (codes ".") h.0 refl, h.0) (ap (λ n. Some (Before n)) h.1)

-- a word that means a value spells it
pub spells-meaning : (k : Kind) (v : Value k) (word : List ℕ) → meaning k word ≡ Some v → SpellsValue k v word
unfolding name number system source frame dir side mode extra_keyword change_of
spells-meaning a_name v word h =
    let p = cond_some (is_name word) word v h in
    (p.0, p.1)
spells-meaning a_number v word h =
    let p = cond_some (nat_le 1 (length word) && nat_le (length word) 10 && list_all is_digit word) (decimal word) v h in
    let q = and_parts (nat_le 1 (length word) && nat_le (length word) 10) (list_all is_digit word) p.0 in
    let r = and_parts (nat_le 1 (length word)) (nat_le (length word) 10) q.0 in
    (grind (arith, nat_tests), grind (arith, nat_tests), q.1, p.1)
spells-meaning a_system v word h =
    let p = cond_some ((length word == 12) && list_all is_hex_digit word) (let m : Mac = record { bytes = decoded word } in m) v h in
    let q = and_parts (length word == 12) (list_all is_hex_digit word) p.0 in
    (eqb-true (length word) 12 q.0, q.1, ap (λ (m : Mac). m.bytes) p.1)
spells-meaning a_source v word h =
    let p = cond_some ((length word == 5) && list_all is_hex_digit word) (let s : SourceId = record { value = hexadecimal word } in s) v h in
    let q = and_parts (length word == 5) (list_all is_hex_digit word) p.0 in
    (eqb-true (length word) 5 q.0, q.1, ap (λ (s : SourceId). s.value) p.1)
spells-meaning a_frame v word h =
    let p = cond_some (nat_le 1 (length word) && (length word % 2 == 0) && list_all is_hex_digit word) (decoded word) v h in
    let q = and_parts (nat_le 1 (length word) && (length word % 2 == 0)) (list_all is_hex_digit word) p.0 in
    let r = and_parts (nat_le 1 (length word)) (length word % 2 == 0) q.0 in
    (grind (arith, nat_tests), eqb-true (length word % 2) 0 r.1, q.1, p.1)
spells-meaning a_dir v word h = spells-dir v word h
spells-meaning a_side v word h = spells-side v word h
spells-meaning a_mode v word h = spells-three mode_text Both Send Recv v word h
spells-meaning an_extra v word h = spells-four extra_text WhatIf Proof Check Settle v word h
spells-meaning a_change v word h = spells-three change_text Down Up Metric v word h
spells-meaning an_entry v word h = spells-entry v word h

-- a word that spells a value means it
pub meaning-spelled : (k : Kind) (v : Value k) (word : List ℕ) → SpellsValue k v word → meaning k word ≡ Some v
unfolding name number system source frame dir side mode extra_keyword change_of
meaning-spelled a_name v word h = rw h.0 (ap Some h.1)
meaning-spelled a_number v word h =
    let low : nat_le 1 (length word) ≡ true = grind (arith, nat_tests) in
    let high : nat_le (length word) 10 ≡ true = grind (arith, nat_tests) in
    rw (low, high, h.2, h.3) refl
meaning-spelled a_system v word h = rw (h.2, h.0, h.1) refl
meaning-spelled a_source v word h = rw (h.2, h.0, h.1) refl
meaning-spelled a_frame v word h =
    let low : nat_le 1 (length word) ≡ true = grind (arith, nat_tests) in
    rw (h.3, low, h.1, h.2) refl
meaning-spelled a_dir Ab word h = rw h refl
meaning-spelled a_dir Ba word h = rw h refl
meaning-spelled a_side A word h = rw h refl
meaning-spelled a_side B word h = rw h refl
meaning-spelled a_mode Both word h = rw h refl
meaning-spelled a_mode Send word h = rw h refl
meaning-spelled a_mode Recv word h = rw h refl
meaning-spelled an_extra WhatIf word h = rw h refl
meaning-spelled an_extra Proof word h = rw h refl
meaning-spelled an_extra Check word h = rw h refl
meaning-spelled an_extra Settle word h = rw h refl
meaning-spelled a_change Down word h = rw h refl
meaning-spelled a_change Up word h = rw h refl
meaning-spelled a_change Metric word h = rw h refl
meaning-spelled an_entry v word h = entry-spelled v word h
