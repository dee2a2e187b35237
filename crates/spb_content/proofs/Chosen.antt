-- The contents of the bridges that are reached.
use Rattle.std.proofs.Common.{◌≡◌, ℕ, zero, suc, ◌<◌, ◌≤◌, Bool, true, false, true≢false, cond, inl, inr, List, [], ◌∷◌, length, get_or, Some, refl, sym, ap, ◌∙◌, subst, arith}
use Rattle.std.specs.Prelude.{IsSome}
use Rattle.std.proofs.lemmas.Bool.{and_parts}
use Rattle.std.proofs.lemmas.List.Elements.{Contains-get_or}
use Rattle.spb_types.specs.Graph.{IsAmong, IsDistinct}
use Rattle.spb_types.specs.declared.address.SystemId.{SystemId}
use Rattle.spb_content.specs.declared.content.Content.{Content}
use Rattle.spb_content.specs.Graph.{Contents, systems_in, said_of, link_said, IsReached}
use Rattle.spb_content.specs.Building.{mark_at, IsListedAt, Reaches, kept}
use Rattle.spb_content.proofs.Members.{Has, has_from_contains}
use Rattle.spb_content.proofs.Places.{test, found_at, place_for}
use Rattle.spb_content.proofs.Links.{same_is, reached_said, reached_more}

-- ---- systems that differ

pub among_has : (list : Contents) (c : SystemId × Content) → Has c list → IsAmong c.0 (systems_in list)
among_has [] c h = absurd h
among_has (d ∷ ds) c (inl e) = inl (ap (λ (t : SystemId × Content). t.0) e)
among_has (d ∷ ds) c (inr h) = inr (among_has ds c h)

-- of systems that differ, each has one content
pub one_content : (list : Contents) (c d : SystemId × Content) → IsDistinct (systems_in list) → Has c list → Has d list → c.0 ≡ d.0 → c ≡ d
one_content [] c d apart h k e = absurd h
one_content (b ∷ bs) c d apart (inl h) (inl k) e = h ∙ sym k
one_content (b ∷ bs) c d apart (inl h) (inr k) e = absurd (apart.0 (subst (λ x. IsAmong x (systems_in bs)) (sym e ∙ ap (λ (t : SystemId × Content). t.0) h) (among_has bs d k)))
one_content (b ∷ bs) c d apart (inr h) (inl k) e = absurd (apart.0 (subst (λ x. IsAmong x (systems_in bs)) (e ∙ ap (λ (t : SystemId × Content). t.0) k) (among_has bs c h)))
one_content (b ∷ bs) c d apart (inr h) (inr k) e = one_content bs c d apart.1 h k e

-- ---- what is kept

-- where a kept content stands
record Place (list : Contents) (marks : List Bool) (c : SystemId × Content) : Type 0 where
  place : ℕ
  high : place < length list
  here : get_or list place c ≡ c
  marked : mark_at marks place ≡ true

kept_has : (list : Contents) (marks : List Bool) (c : SystemId × Content) → Has c (kept list marks) → Place list marks c
kept_has [] marks c h = absurd h
kept_has (d ∷ ds) [] c h = absurd h
kept_has (d ∷ ds) (m ∷ ms) c h = at m refl h (λ k. kept_has ds ms c k)
  where
    later : Place ds ms c → Place (d ∷ ds) (m ∷ ms) c
    later p = record { place = suc p.place; high = omega (arith, p.high); here = p.here; marked = p.marked }

    at : (b : Bool) → m ≡ b → Has c (cond b (d ∷ kept ds ms) (kept ds ms)) → (Has c (kept ds ms) → Place ds ms c) → Place (d ∷ ds) (m ∷ ms) c
    at true e (inl i) r = record { place = zero; high = omega arith; here = sym i; marked = e }
    at true e (inr i) r = later (r i)
    at false e i r = later (r i)

has_kept : (list : Contents) (marks : List Bool) (p : ℕ) (c : SystemId × Content) → p < length list → get_or list p c ≡ c → mark_at marks p ≡ true → Has c (kept list marks)
has_kept [] marks p c lt here marked = absurd (omega (arith, lt))
has_kept (d ∷ ds) [] p c lt here marked = absurd (true≢false (sym marked))
has_kept (d ∷ ds) (m ∷ ms) zero c lt here marked = subst (λ b. Has c (cond b (d ∷ kept ds ms) (kept ds ms))) (sym marked) (inl (sym here))
has_kept (d ∷ ds) (m ∷ ms) (suc p) c lt here marked = at m (has_kept ds ms p c (omega (arith, lt)) here marked)
  where
    at : (b : Bool) → Has c (kept ds ms) → Has c (cond b (d ∷ kept ds ms) (kept ds ms))
    at true h = inr h
    at false h = h

kept_among : (list : Contents) (marks : List Bool) (x : SystemId) → IsAmong x (systems_in (kept list marks)) → IsAmong x (systems_in list)
kept_among [] marks x h = absurd h
kept_among (c ∷ cs) [] x h = absurd h
kept_among (c ∷ cs) (m ∷ ms) x h = at m h (λ k. kept_among cs ms x k)
  where
    at : (b : Bool) → IsAmong x (systems_in (cond b (c ∷ kept cs ms) (kept cs ms))) → (IsAmong x (systems_in (kept cs ms)) → IsAmong x (systems_in cs)) → IsAmong x (systems_in (c ∷ cs))
    at true (inl i) r = inl i
    at true (inr i) r = inr (r i)
    at false i r = inr (r i)

kept_apart : (list : Contents) (marks : List Bool) → IsDistinct (systems_in list) → IsDistinct (systems_in (kept list marks))
kept_apart [] marks apart = tt
kept_apart (c ∷ cs) [] apart = tt
kept_apart (c ∷ cs) (m ∷ ms) apart = at m (λ k. apart.0 (kept_among cs ms c.0 k)) (kept_apart cs ms apart.1)
  where
    at : (b : Bool) → (IsAmong c.0 (systems_in (kept cs ms)) → ⊥) → IsDistinct (systems_in (kept cs ms)) → IsDistinct (systems_in (cond b (c ∷ kept cs ms) (kept cs ms)))
    at true h k = (h, k)
    at false h k = k

kept_few : (list : Contents) (marks : List Bool) → length (kept list marks) ≤ length list
kept_few [] marks = omega arith
kept_few (c ∷ cs) [] = omega arith
kept_few (c ∷ cs) (m ∷ ms) = at m (kept_few cs ms)
  where
    at : (b : Bool) → length (kept cs ms) ≤ length cs → length (cond b (c ∷ kept cs ms) (kept cs ms)) ≤ suc (length cs)
    at true h = omega (arith, h)
    at false h = omega (arith, h)

-- ---- what is chosen

-- these are the contents of the bridges of which P holds, and P holds along links
pub record AreChosen (list : Contents) (P : SystemId → Type 0) (ks : Contents) : Type 0 where
  pub said : (x : SystemId) → P x → IsSome (said_of list x)
  pub closed : (x y : SystemId) → P x → IsSome (link_said list x y) → P y
  pub has : (c : SystemId × Content) → Has c ks → Has c list
  pub holds : (c : SystemId × Content) → Has c ks → P c.0
  pub bridge : (c : SystemId × Content) → Has c ks → IsSome c.1.inst
  pub all : (c : SystemId × Content) → Has c list → P c.0 → Has c ks
  pub apart : IsDistinct (systems_in ks)
  pub few : length ks ≤ length list

has_at : (list : Contents) (p : ℕ) (c : SystemId × Content) → p < length list → Has (get_or list p c) list
has_at list p c lt = has_from_contains (get_or list p c) list (Contains-get_or list p c lt)

-- a kept content is that of a bridge that is reached
record Reached (list : Contents) (me : SystemId) (c : SystemId × Content) : Type 0 where
  bridge : IsSome c.1.inst
  reached : IsReached list me c.0

kept_reached : (list : Contents) (me : SystemId) (marks : List Bool) (c : SystemId × Content) → Reaches list me marks → Place list marks c → Reached list me c
kept_reached list me marks c h p = at (h.found p.place p.marked)
  where
    at : (x : SystemId) × IsListedAt list p.place x × IsReached list me x → Reached list me c
    at (x, here, reached) =
        let f = found_at p.place list x c here in
        let t = and_parts _ _ (subst (λ d. test d x ≡ true) p.here f.passes) in
        record { bridge = t.0; reached = subst (λ y. IsReached list me y) (sym (same_is c.0 x t.1)) reached }

reached_kept : (list : Contents) (me : SystemId) (marks : List Bool) (c : SystemId × Content) → IsDistinct (systems_in list) → Reaches list me marks → Has c list → IsReached list me c.0 → Has c (kept list marks)
reached_kept list me marks c apart h has reached =
    let p = place_for 0 list c.0 (reached_said list me c.0 reached) in
    let f = found_at p.0 list c.0 c p.1 in
    let same = one_content list (get_or list p.0 c) c apart (has_at list p.0 c f.high) has (same_is _ _ (and_parts _ _ f.passes).1) in
    has_kept list marks p.0 c f.high same (h.marked p.0 c.0 p.1 reached)

-- what is reached is chosen
pub are_reached : (list : Contents) (me : SystemId) (marks : List Bool) → IsDistinct (systems_in list) → Reaches list me marks → AreChosen list (IsReached list me) (kept list marks)
are_reached list me marks apart h = record {
  said = λ x r. reached_said list me x r;
  closed = λ x y r link. reached_more list me x y r link;
  has = λ c k. (let p = kept_has list marks c k in subst (λ d. Has d list) p.here (has_at list p.place c p.high));
  holds = λ c k. (kept_reached list me marks c h (kept_has list marks c k)).reached;
  bridge = λ c k. (kept_reached list me marks c h (kept_has list marks c k)).bridge;
  all = λ c k r. reached_kept list me marks c apart h k r;
  apart = kept_apart list marks apart;
  few = kept_few list marks;
}

-- what a bridge says stands in the list
pub said_has : (list : Contents) (x : SystemId) (c : Content) → said_of list x ≡ Some c → Has (x, c) list
said_has [] x c h = absurd cc
said_has (d ∷ ds) x c h = at (test d x) refl h (λ k. said_has ds x c k)
  where
    at : (b : Bool) → test d x ≡ b → cond b (Some d.1) (said_of ds x) ≡ Some c → (said_of ds x ≡ Some c → Has (x, c) ds) → Has (x, c) (d ∷ ds)
    at true t e r =
        let second : c ≡ d.1 = cc in
        let first : x ≡ d.0 = sym (same_is d.0 x (and_parts _ _ t).1) in
        inl (λ i. (first i, second i))
    at false t e r = inr (r e)
