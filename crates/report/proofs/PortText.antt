use Rattle.std.proofs.Common.{◌≡◌, ℕ, zero, suc, ◌+◌, ◌-◌, ◌≤◌, Bool, true, false, List, [], ◌∷◌, ◌++◌, filter, decimal, refl, sym, ap, ◌∙◌, append_assoc, arith, if◌then◌else◌, append-nil}
use Rattle.std.specs.List.{range_with_len}
use Rattle.std.proofs.lemmas.List.Concat.{flat_map-append}
use Rattle.std.proofs.lemmas.List.Elements.{filter-append}
use Rattle.spb_types.specs.declared.ports.PortSet.{PortSet}
use Rattle.spb_types.specs.Ports.{has}
use Rattle.report.specs.Ports.{ports_among}
use Rattle.report.specs.Listing.{space, comma, separated, separator_after}

-- of the numbers from 1 to `count`, those that are ports of the set were written, and this separator comes next
pub record Separates (set : PortSet) (count : ℕ) (before : List ℕ) (separator : ℕ) (after : List ℕ) : Type 0 where
  pub text : after ≡ before ++ separated (ports_among set count)
  pub next : separator ≡ separator_after (ports_among set count)

range_more : (a n : ℕ) → range_with_len a (suc n) ≡ range_with_len a n ++ (a + n) ∷ []
range_more a zero = grind arith
range_more a (suc n) =
    let e : (a + 1) + n ≡ a + suc n = omega arith in
    ap (λ r. a ∷ r) (range_more (a + 1) n ∙ ap (λ k. range_with_len (a + 1) n ++ k ∷ []) e)

-- of one port more, it is written if the set has it
ports_among-more : (set : PortSet) (n : ℕ) → ports_among set (suc n) ≡ ports_among set n ++ (if has set (1 + n) then (1 + n) ∷ [] else [])
unfolding ports_among
ports_among-more set n = ap (filter (has set)) (range_more 1 n) ∙ filter-append (has set) (range_with_len 1 n) ((1 + n) ∷ [])

separated-push : (ps : List ℕ) (q : ℕ) → separated (ps ++ q ∷ []) ≡ separated ps ++ separator_after ps ∷ decimal q
separated-push [] q = search append-nil
separated-push (p ∷ ps) q =
    ap (λ t. space ∷ decimal p ++ t) (flat_map-append (λ r. comma ∷ decimal r) ps (q ∷ [])) ∙ simp (append_assoc, append-nil)

separator_after-push : (ps : List ℕ) (q : ℕ) → separator_after (ps ++ q ∷ []) ≡ comma
separator_after-push [] q = refl
separator_after-push (p ∷ ps) q = refl

-- before the first port nothing was written
pub separates_none : (set : PortSet) (before : List ℕ) → Separates set 0 before space before
unfolding ports_among
separates_none set before = record { text = sym (append-nil before); next = refl }

more_by : (set : PortSet) (n : ℕ) (before mid after : List ℕ) (separator next : ℕ) (b : Bool) → has set (suc n) ≡ b → Separates set n before separator mid
    → after ≡ mid ++ (if b then separator ∷ decimal (suc n) else []) → next ≡ (if b then comma else separator) → Separates set (suc n) before next after
more_by set n before mid after separator next true h so text after_it =
    let same : 1 + n ≡ suc n = omega arith in
    let ports : ports_among set (suc n) ≡ ports_among set n ++ suc n ∷ [] =
    ports_among-more set n ∙ ap (λ k. ports_among set n ++ (if has set k then k ∷ [] else [])) same ∙ ap (λ b. ports_among set n ++ (if b then suc n ∷ [] else [])) h
    in
    let written : after ≡ before ++ separated (ports_among set n ++ suc n ∷ []) =
    text ∙ ap (λ t. t ++ separator ∷ decimal (suc n)) so.text ∙ ap (λ s. before ++ separated (ports_among set n) ++ s ∷ decimal (suc n)) so.next ∙ rw separated-push (simp append_assoc)
    in
    record { text = rw ports written; next = rw ports (after_it ∙ sym (separator_after-push (ports_among set n) (suc n))) }
more_by set n before mid after separator next false h so text after_it =
    let same : 1 + n ≡ suc n = omega arith in
    let ports : ports_among set (suc n) ≡ ports_among set n =
    ports_among-more set n ∙ ap (λ k. ports_among set n ++ (if has set k then k ∷ [] else [])) same ∙ ap (λ b. ports_among set n ++ (if b then suc n ∷ [] else [])) h ∙ append-nil (ports_among set n)
    in
    record { text = rw ports (text ∙ append-nil mid ∙ so.text); next = rw ports (after_it ∙ so.next) }

-- a port was written, behind what comes before it, if the set has it
pub separates_more : (set : PortSet) (port : ℕ) (before mid after : List ℕ) (separator next : ℕ) → 1 ≤ port → Separates set (port - 1) before separator mid
    → after ≡ mid ++ (if has set port then separator ∷ decimal port else []) → next ≡ (if has set port then comma else separator) → Separates set (port + 1 - 1) before next after
separates_more set zero before mid after separator next low so text after_it = absurd (omega arith)
separates_more set (suc n) before mid after separator next low so text after_it =
    let count : suc n - 1 ≡ n = omega arith in
    let more : suc n + 1 - 1 ≡ suc n = omega arith in
    rw more (more_by set n before mid after separator next (has set (suc n)) refl (rw count at so) text after_it)
