-- Ways out of ports: the link and the direction that a port leads to, and the port that they lead from.
use Rattle.std.proofs.Common.{◌≡◌, ◌≢◌, ◌+◌, ℕ, zero, suc, Bool, true, false, true≢false, List, [], ◌∷◌, refl, ap, ◌∙◌, subst, Option, Some, None, slice_get, arith}
use Rattle.std.specs.Prelude.{◌==◌, ◌||◌, if◌then◌else◌}
use Rattle.std.specs.Option.{option_map, option_or}
use Rattle.std.proofs.lemmas.Bool.{eq-eqb, ne_eqb, eqb-true, and_parts}
use Rattle.spb_types.specs.declared.link.Dir.{Dir}
use Rattle.spb_types.specs.declared.link.Dir.TheVariants.{Ab, Ba}
use Rattle.spb_world.specs.declared.declaration.DeclaredLink.{DeclaredLink}
use Rattle.spb_world.specs.declared.declaration.LinkEnd.{LinkEnd}
use Rattle.link_model.specs.declared.lanes.LaneId.{LaneId}
use Rattle.spb_world.specs.World.{is_at_port, AreApart, AllApart}
use Rattle.spb_world.specs.Links.{near_end, far_end, is_at, direction, lane_out_from, lane_out}
use Rattle.spb_world.proofs.BoxLemmas.{All-get}

some-is : {X : Type 0} (x y : X) → Some x ≡ Some y → x ≡ y
some-is x y h = cc

-- the other direction
abbrev pub turned : Dir → Dir
turned Ab = Ba
turned Ba = Ab

pub near-turned : (dir : Dir) (l : DeclaredLink) → near_end (turned dir) l ≡ far_end dir l
near-turned Ab l = refl
near-turned Ba l = refl

-- ---- an end of a link is at its port

same_number : (n m : ℕ) → n ≡ m → (n == m) ≡ true
same_number n m e = eq-eqb n m e

pub at_itself : (e : LinkEnd) (i p : ℕ) → e.bridge ≡ i → e.port ≡ p → is_at e i p ≡ true
at_itself e i p at_i at_p = rw (same_number e.bridge i at_i, same_number e.port p at_p) refl

pub at_parts : (e : LinkEnd) (i p : ℕ) → is_at e i p ≡ true → (e.bridge ≡ i) × (e.port ≡ p)
at_parts e i p at =
    let parts : ((e.bridge == i) ≡ true) × ((e.port == p) ≡ true) = and_parts _ _ at in
    (eqb-true e.bridge i parts.0, eqb-true e.port p parts.1)

pub away : (e : LinkEnd) (i p : ℕ) → e.bridge ≢ i → is_at e i p ≡ false
away e i p apart = rw (ne_eqb e.bridge i apart) refl

-- ---- the way that leads from an end of a link

direction-near : (dir : Dir) (l : DeclaredLink) → l.a.bridge ≢ l.b.bridge → direction l (near_end dir l).bridge (near_end dir l).port ≡ Some dir
direction-near Ab l apart = rw (at_itself l.a l.a.bridge l.a.port refl refl) refl
direction-near Ba l apart = rw (away l.a l.b.bridge l.b.port apart, at_itself l.b l.b.bridge l.b.port refl refl) refl

neither : (b c : Bool) → (b || c) ≡ false → (b ≡ false) × (c ≡ false)
neither true c e = absurd (true≢false e)
neither false c e = (refl, e)

direction-none : (l : DeclaredLink) (i p : ℕ) → is_at_port l i p ≡ false → direction l i p ≡ None
direction-none l i p none =
    let parts : (is_at l.a i p ≡ false) × (is_at l.b i p ≡ false) = neither (is_at l.a i p) (is_at l.b i p) none in
    rw (parts.0, parts.1) refl

apart-near : (dir : Dir) (m l : DeclaredLink) → AreApart m l → is_at_port m (near_end dir l).bridge (near_end dir l).port ≡ false
apart-near Ab m l apart = apart.port_a
apart-near Ba m l apart = apart.port_b

abbrev lane_at_place : ℕ → Option Dir → Option LaneId
lane_at_place k dir = option_map (λ d. record { link = k; dir = d }) dir

lane_of_end_from : (n : ℕ) (links : List DeclaredLink) (k m : ℕ) (l : DeclaredLink) (dir : Dir) → AllApart links → l.a.bridge ≢ l.b.bridge → slice_get links k ≡ Some l → m ≡ n + k → lane_out_from n links (near_end dir l).bridge (near_end dir l).port ≡ Some (record { link = m; dir = dir })
lane_of_end_from n [] k m l dir apart ends at is = absurd cc
lane_of_end_from n (h ∷ links) zero m l dir apart ends at is =
    let here : h ≡ l = cc in
    let number : n ≡ m = omega arith in
    ap (λ (g : DeclaredLink). option_or (lane_at_place n (direction g (near_end dir l).bridge (near_end dir l).port)) (lane_out_from (n + 1) links (near_end dir l).bridge (near_end dir l).port)) here
    ∙ (ap (λ (d : Option Dir). option_or (lane_at_place n d) (lane_out_from (n + 1) links (near_end dir l).bridge (near_end dir l).port)) (direction-near dir l ends)
    ∙ ap (λ (k : ℕ). Some (record { link = k; dir = dir })) number)
lane_of_end_from n (h ∷ links) (suc k) m l dir apart ends at is =
    let other : is_at_port h (near_end dir l).bridge (near_end dir l).port ≡ false = apart-near dir h l (All-get (AreApart h) links k l apart.0 at) in
    ap (λ (d : Option Dir). option_or (lane_at_place n d) (lane_out_from (n + 1) links (near_end dir l).bridge (near_end dir l).port)) (direction-none h (near_end dir l).bridge (near_end dir l).port other)
    ∙ lane_of_end_from (n + 1) links k m l dir apart.1 ends at (omega arith)

-- out of an end of a link, the way is that link, in the direction from that end
pub lane_of_end : (links : List DeclaredLink) (k : ℕ) (l : DeclaredLink) (dir : Dir) → AllApart links → l.a.bridge ≢ l.b.bridge → slice_get links k ≡ Some l → lane_out links (near_end dir l).bridge (near_end dir l).port ≡ Some (record { link = k; dir = dir })
unfolding lane_out
lane_of_end links k l dir apart ends at = lane_of_end_from 0 links k k l dir apart ends at (omega arith)

-- ---- the end that a way leads from

pub record LeadsFrom (links : List DeclaredLink) (i p k : ℕ) (dir : Dir) : Type 0 where
  pub link : DeclaredLink
  pub there : slice_get links k ≡ Some link
  pub bridge : (near_end dir link).bridge ≡ i
  pub port : (near_end dir link).port ≡ p

record LeadsAt (n : ℕ) (links : List DeclaredLink) (i p : ℕ) (lane : LaneId) : Type 0 where
  place : ℕ
  number : lane.link ≡ n + place
  leads : LeadsFrom links i p place lane.dir

leads_at : (n : ℕ) (h : DeclaredLink) (links : List DeclaredLink) (i p : ℕ) (lane : LaneId) (a b : Bool) → is_at h.a i p ≡ a → is_at h.b i p ≡ b → (lane_out_from (n + 1) links i p ≡ Some lane → LeadsAt (n + 1) links i p lane) → option_or (lane_at_place n (if a then Some Ab else (if b then Some Ba else None))) (lane_out_from (n + 1) links i p) ≡ Some lane → LeadsAt n (h ∷ links) i p lane
leads_at n h links i p lane true b at_a at_b rest is =
    let at = at_parts h.a i p at_a in
    let same : record { link = n; dir = Ab } ≡ lane = some-is _ lane is in
    subst (λ (w : LaneId). LeadsAt n (h ∷ links) i p w) same (record { place = 0; number = omega arith; leads = record { link = h; there = refl; bridge = at.0; port = at.1 } })
leads_at n h links i p lane false true at_a at_b rest is =
    let at = at_parts h.b i p at_b in
    let same : record { link = n; dir = Ba } ≡ lane = some-is _ lane is in
    subst (λ (w : LaneId). LeadsAt n (h ∷ links) i p w) same (record { place = 0; number = omega arith; leads = record { link = h; there = refl; bridge = at.0; port = at.1 } })
leads_at n h links i p lane false false at_a at_b rest is =
    let after = rest is in
    record { place = suc after.place; number = omega (arith, after.number); leads = record { link = after.leads.link; there = after.leads.there; bridge = after.leads.bridge; port = after.leads.port } }

leads_from : (n : ℕ) (links : List DeclaredLink) (i p : ℕ) (lane : LaneId) → lane_out_from n links i p ≡ Some lane → LeadsAt n links i p lane
leads_from n [] i p lane is = absurd cc
leads_from n (h ∷ links) i p lane is = leads_at n h links i p lane (is_at h.a i p) (is_at h.b i p) refl refl (leads_from (n + 1) links i p lane) is

-- a way out of a port leads from there
pub lane_leads : (links : List DeclaredLink) (i p : ℕ) (lane : LaneId) → lane_out links i p ≡ Some lane → LeadsFrom links i p lane.link lane.dir
unfolding lane_out
lane_leads links i p lane is =
    let at = leads_from 0 links i p lane is in
    let same : at.place ≡ lane.link = omega (arith, at.number) in
    subst (λ (k : ℕ). LeadsFrom links i p k lane.dir) same at.leads
