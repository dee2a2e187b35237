-- Links, and walks over them.
use Rattle.std.proofs.Common.{◌≡◌, ◌≢◌, ◌≤◌, inl, inr, Bool, true, false, true≢false, cond, ◌&&◌, List, [], ◌∷◌, ◌++◌, Option, Some, None, find, refl, sym, ap, ◌∙◌, subst}
use Rattle.std.specs.Prelude.{IsSome, option_and_then, nat_le}
use Rattle.std.proofs.lemmas.Bool.{and_parts, leb-true}
use Rattle.std.proofs.lemmas.Slice.Eq.{bytes_eq-Decides}
use Rattle.spb_types.specs.Address.{same_system}
use Rattle.spb_types.specs.declared.address.SystemId.{SystemId}
use Rattle.spb_tlvs.specs.declared.neighbours.Neighbour.{Neighbour}
use Rattle.spb_content.specs.declared.content.Content.{Content}
use Rattle.spb_content.specs.Graph.{Contents, said_of, entry_for, entry_said, both, link_said, Leads, IsReached, usable}
use Rattle.spb_content.proofs.Members.{Has}
use Rattle.spb_types.specs.declared.limits.TheConstants.{GREATEST_METRIC}

-- ---- system ids

pub same_is : (x y : SystemId) → same_system x y ≡ true → x ≡ y
same_is x y h = let e : x.mac.bytes ≡ y.mac.bytes = (bytes_eq-Decides _ _).0 h in λ i. record { mac = record { bytes = e i } }

pub same_self : (x : SystemId) → same_system x x ≡ true
same_self x = (bytes_eq-Decides x.mac.bytes x.mac.bytes).1 refl

pub same_from : (x y : SystemId) → x ≡ y → same_system x y ≡ true
same_from x y e = subst (λ z. same_system x z ≡ true) e (same_self x)

pub apart_from : (x y : SystemId) → same_system x y ≡ false → x ≢ y
apart_from x y h e = true≢false (sym (same_from x y e) ∙ h)

pub apart_is : (x y : SystemId) → x ≢ y → same_system x y ≡ false
apart_is x y h = at (same_system x y) refl
  where
    at : (b : Bool) → same_system x y ≡ b → b ≡ false
    at true e = absurd (h (same_is x y e))
    at false e = refl

-- ---- links

-- the two entries of a link
pub record Entries (list : Contents) (x y : SystemId) (l : Neighbour × Neighbour) : Type 0 where
  pub apart : same_system x y ≡ false
  pub there : entry_said list x y ≡ Some l.0
  pub back : entry_said list y x ≡ Some l.1

pub entries_of : (list : Contents) (x y : SystemId) (l : Neighbour × Neighbour) → link_said list x y ≡ Some l → Entries list x y l
entries_of list x y l h = at (same_system x y) refl h
  where
    both_are : (m n : Option Neighbour) → both m n ≡ Some l → (m ≡ Some l.0) × (n ≡ Some l.1)
    both_are None n e = absurd cc
    both_are (Some m) None e = absurd cc
    both_are (Some m) (Some n) e = let same : (m, n) ≡ l = cc in (ap (λ (k : Neighbour × Neighbour). Some k.0) same, ap (λ (k : Neighbour × Neighbour). Some k.1) same)

    at : (b : Bool) → same_system x y ≡ b → cond b None (both (entry_said list x y) (entry_said list y x)) ≡ Some l → Entries list x y l
    at true t e = absurd cc
    at false t e = let p = both_are (entry_said list x y) (entry_said list y x) e in record { apart = t; there = p.0; back = p.1 }

pub link_from : (list : Contents) (x y : SystemId) (m n : Neighbour) → same_system x y ≡ false → entry_said list x y ≡ Some m → entry_said list y x ≡ Some n → link_said list x y ≡ Some (m, n)
link_from list x y m n apart there back = rw (apart, there, back) refl

-- a link is one from both of its ends
pub link_turned : (list : Contents) (x y : SystemId) (l : Neighbour × Neighbour) → link_said list x y ≡ Some l → link_said list y x ≡ Some (l.1, l.0)
link_turned list x y l h =
    let e = entries_of list x y l h in
    link_from list y x l.1 l.0 (apart_is y x (λ q. apart_from x y e.apart (sym q))) e.back e.there

pub some_is : {A : Type 0} (o : Option A) → IsSome o → (a : A) × (o ≡ Some a)
some_is None h = absurd (true≢false (sym h))
some_is (Some a) h = (a, refl)

pub link_of : (list : Contents) (x y : SystemId) → IsSome (link_said list x y) → (l : Neighbour × Neighbour) × (link_said list x y ≡ Some l)
link_of list x y h = some_is (link_said list x y) h

-- the content of an entry
pub record Said (list : Contents) (x y : SystemId) (n : Neighbour) : Type 0 where
  pub content : Content
  pub said : said_of list x ≡ Some content
  pub entry : entry_for y content ≡ Some n

pub said_for : (list : Contents) (x y : SystemId) (n : Neighbour) → entry_said list x y ≡ Some n → Said list x y n
said_for list x y n h = at (said_of list x) refl h
  where
    at : (o : Option Content) → said_of list x ≡ o → option_and_then (entry_for y) o ≡ Some n → Said list x y n
    at None e k = absurd cc
    at (Some c) e k = record { content = c; said = e; entry = k }

-- both ends of a link are bridges
pub ends_said : (list : Contents) (x y : SystemId) → IsSome (link_said list x y) → IsSome (said_of list x) × IsSome (said_of list y)
ends_said list x y h =
    let l = link_of list x y h in
    let e = entries_of list x y l.0 l.1 in
    let a = said_for list x y l.0.0 e.there in
    let b = said_for list y x l.0.1 e.back in
    (subst (λ o. IsSome o) (sym a.said) refl, subst (λ o. IsSome o) (sym b.said) refl)

-- ---- walks

pub leads_more : (list : Contents) (a : SystemId) (xs : List SystemId) (b y : SystemId) → Leads list a xs b → IsSome (link_said list b y) → Leads list a (xs ++ y ∷ []) y
leads_more list a [] b y h link = (subst (λ z. IsSome (link_said list z y)) (sym h.1) link, ((ends_said list b y link).1, refl))
leads_more list a (x ∷ xs) b y h link = (h.0, leads_more list x xs b y h.1 link)

pub reached_more : (list : Contents) (me x y : SystemId) → IsReached list me x → IsSome (link_said list x y) → IsReached list me y
reached_more list me x y h link = (h.0 ++ y ∷ [], leads_more list me h.0 x y h.1 link)

-- what is reached is a bridge
leads_said : (list : Contents) (a : SystemId) (xs : List SystemId) (b : SystemId) → Leads list a xs b → IsSome (said_of list b)
leads_said list a [] b h = subst (λ z. IsSome (said_of list z)) h.1 h.0
leads_said list a (x ∷ xs) b h = leads_said list x xs b h.1

pub reached_said : (list : Contents) (me x : SystemId) → IsReached list me x → IsSome (said_of list x)
reached_said list me x h = leads_said list me h.0 x h.1

-- ---- a bridge lists the other end of a link

pub find_has : (p : Neighbour → Bool) (ns : List Neighbour) (n : Neighbour) → find p ns ≡ Some n → Has n ns × (p n ≡ true)
find_has p [] n h = absurd cc
find_has p (m ∷ ms) n h = at (p m) refl h (λ k. find_has p ms n k)
  where
    at : (b : Bool) → p m ≡ b → cond b (Some m) (find p ms) ≡ Some n → (find p ms ≡ Some n → Has n ms × (p n ≡ true)) → Has n (m ∷ ms) × (p n ≡ true)
    at true e k r = let same : m ≡ n = cc in (inl (sym same), ap p (sym same) ∙ e)
    at false e k r = let s = r k in (inr s.0, s.1)

-- the entry that counts is the first for its system, and its metric is one that a link can have
pub record Entry (y : SystemId) (c : Content) (n : Neighbour) : Type 0 where
  pub first : find (λ m. same_system m.system y) c.neighbours ≡ Some n
  pub listed : Has n c.neighbours
  pub system : n.system ≡ y
  pub low : 1 ≤ n.metric
  pub high : n.metric ≤ GREATEST_METRIC

pub entry_is : (y : SystemId) (c : Content) (n : Neighbour) → entry_for y c ≡ Some n → Entry y c n
entry_is y c n h = at (find (λ m. same_system m.system y) c.neighbours) refl h
  where
    used : (m : Neighbour) (b : Bool) → (nat_le 1 m.metric && nat_le m.metric GREATEST_METRIC) ≡ b → cond b (Some m) None ≡ Some n → (m ≡ n) × ((nat_le 1 m.metric && nat_le m.metric GREATEST_METRIC) ≡ true)
    used m true e k = (cc, e)
    used m false e k = absurd cc

    at : (o : Option Neighbour) → find (λ m. same_system m.system y) c.neighbours ≡ o → option_and_then usable o ≡ Some n → Entry y c n
    at None e k = absurd cc
    at (Some m) e k =
        let u = used m (nat_le 1 m.metric && nat_le m.metric GREATEST_METRIC) refl k in
        let f = find_has (λ r. same_system r.system y) c.neighbours m e in
        let t = and_parts _ _ u.1 in
        subst (λ r. Entry y c r) u.0 (record { first = e; listed = f.0; system = same_is m.system y f.1; low = leb-true _ _ t.0; high = leb-true _ _ t.1 })

pub some_same : {A : Type 0} (a b : A) → Some a ≡ Some b → a ≡ b
some_same a b e = cc

pub listed_in : (list : Contents) (x y : SystemId) (c : Content) → said_of list x ≡ Some c → IsSome (link_said list x y) → (n : Neighbour) × Has n c.neighbours × (n.system ≡ y)
listed_in list x y c said link =
    let l = link_of list x y link in
    let s = said_for list x y l.0.0 (entries_of list x y l.0 l.1).there in
    let same : s.content ≡ c = some_same s.content c (sym s.said ∙ said) in
    let e = entry_is y c l.0.0 (ap (entry_for y) (sym same) ∙ s.entry) in
    (l.0.0, e.listed, e.system)
