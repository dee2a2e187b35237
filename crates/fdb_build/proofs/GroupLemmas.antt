-- The group table: its rows are just those of the definition, they ascend, and they are the same in graphs that look alike.
use Rattle.std.proofs.Common.{◌≡◌, ◌↔◌, inl, inr, ℕ, ◌≤◌, ◌<◌, ◌^◌, ◌==◌, Bool, true, false, true≢false, List, [], ◌∷◌, ◌++◌, map, flat_map, Contains, Some, None, if◌then◌else◌, reverse, refl, sym, ap, ◌∙◌, subst, arith, Ordering, Less, Equal, Greater, is_lt, is_gt, nat_cmp}
use Rattle.std.specs.List.{AllByRecursion}
use Rattle.std.specs.Ordering.{ordering_then}
use Rattle.std.specs.Cmp.{IsTotalOrder}
use Rattle.std.proofs.lemmas.Bool.{eqb-true}
use Rattle.std.proofs.lemmas.Cmp.{nat_cmp_total, nat_list_cmp_total, then_total, on_total, tied_itself}
use Rattle.spb_types.specs.Address.{group_address}
use Rattle.spb_types.specs.Ect.{mask_of}
use Rattle.spb_types.specs.Graph.{IsValid}
use Rattle.spb_types.specs.Ports.{has}
use Rattle.spb_types.specs.Service.{AreVidsApart}
use Rattle.spb_types.specs.declared.address.Mac.{Mac}
use Rattle.spb_types.specs.declared.address.SystemId.{SystemId}
use Rattle.spb_types.specs.declared.graph.Graph.{Graph}
use Rattle.spb_types.specs.declared.graph.GraphBridge.{GraphBridge}
use Rattle.spb_types.specs.declared.graph.Member.{Member}
use Rattle.spb_types.specs.declared.ports.PortSet.{PortSet}
use Rattle.spb_types.specs.declared.service.Isid.{Isid}
use Rattle.spb_types.specs.declared.service.Vid.{Vid}
use Rattle.spb_types.specs.declared.service.VidPlan.{VidPlan}
use Rattle.spb_types.specs.declared.tables.GroupRow.{GroupRow}
use Rattle.ect_trees.specs.Best.{IsBest}
use Rattle.ect_trees.specs.Laws.{IsReached, LookAlike}
use Rattle.ect_trees.proofs.Alike.{same_best, look_alike_from_each}
use Rattle.ect_trees.proofs.Exists.{best_of_some}
use Rattle.ect_trees.proofs.Least.{best_front, best_back, best_reverse}
use Rattle.ect_trees.proofs.Members.{Has, has_map, has_flat_map, has_from_contains, contains_from_has}
use Rattle.ect_trees.proofs.Placing.{ids_tied}
use Rattle.ect_trees.proofs.Reached.{path_reached, looks_back, looks_on}
use Rattle.ect_trees.proofs.Walks.{path_end}
use Rattle.fdb_build.specs.Tables.{ascending_by, mac_cmp, vid_cmp, AscendsBy}
use Rattle.fdb_build.specs.Groups.{Sends, Receives, Follows, LeadsOn, IsGroupPort, group_cmp, ListPorts, leads_on, ports_to, group_row, put_once, each_once, group_addresses, group_rows_of_vid, group_rows, GroupRowsAreTable, GroupTableIsOne, SameGroups, OrderSaysNothingOfGroups}
use Rattle.fdb_build.proofs.AscendLemmas.{All-has, ascending_has, has_ascending, below_from_above, Ascends-one, Ascends-filter_map, Ascends-flat_map, filter_map_has, has_filter_map, flat_map_has}
use Rattle.fdb_build.proofs.RowLemmas.{All-map, port_among-le, port_among-low}
use Rattle.fdb_build.proofs.SortLemmas.{vids_total}
use Rattle.fdb_build.proofs.TableLemmas.{vids_ascend}
use Rattle.fdb_build.proofs.GroupTests.{test_leads, leads_test}
use Rattle.fdb_build.proofs.PortSets.{has_to, to_has, small_to, none_in_empty, bits_or_port, sets_same}

-- ---- each once, ascending

All-put_once : {X : Type 0} (P : X → Type 0) (cmp : X → X → Ordering) (x : X) (ys : List X) → P x → AllByRecursion P ys → AllByRecursion P (put_once cmp x ys)
All-put_once P cmp x [] h k = (h, k)
All-put_once P cmp x (y ∷ ys) h k = by (is_lt (cmp x y)) (is_gt (cmp x y)) (All-put_once P cmp x ys h k.1)
  where
    by : (a b : Bool) → AllByRecursion P (put_once cmp x ys) → AllByRecursion P (if a then x ∷ y ∷ ys else (if b then y ∷ put_once cmp x ys else y ∷ ys))
    by true b r = (h, k)
    by false true r = (k.0, r)
    by false false r = k

module _ {X : Type 0} (cmp : X → X → Ordering) (total : IsTotalOrder cmp) where
  Ascends-put_once : (x : X) (ys : List X) → AscendsBy cmp ys → AscendsBy cmp (put_once cmp x ys)
  Ascends-put_once x [] h = (tt, tt)
  Ascends-put_once x (y ∷ ys) h = by (cmp x y) refl (Ascends-put_once x ys h.1)
    where
      by : (o : Ordering) → cmp x y ≡ o → AscendsBy cmp (put_once cmp x ys) → AscendsBy cmp (if is_lt o then x ∷ y ∷ ys else (if is_gt o then y ∷ put_once cmp x ys else y ∷ ys))
      by Less e r = ((e, All-map (λ z. cmp y z ≡ Less) (λ z. cmp x z ≡ Less) ys (λ z k. total.trans x y z e k) h.0), h)
      by Equal e r = h
      by Greater e r = (All-put_once (λ z. cmp y z ≡ Less) cmp x ys (below_from_above cmp total x y e) h.0, r)

  pub Ascends-each_once : (xs : List X) → AscendsBy cmp (each_once cmp xs)
  Ascends-each_once [] = tt
  Ascends-each_once (x ∷ xs) = Ascends-put_once x (each_once cmp xs) (Ascends-each_once xs)

module _ {X : Type 0} (cmp : X → X → Ordering) (tied : (x y : X) → cmp x y ≡ Equal → x ≡ y) where
  has_put_once : (z x : X) (ys : List X) → Has z (x ∷ ys) → Has z (put_once cmp x ys)
  has_put_once z x [] h = h
  has_put_once z x (y ∷ ys) h = by (cmp x y) refl h (has_put_once z x ys)
    where
      by : (o : Ordering) → cmp x y ≡ o → Has z (x ∷ y ∷ ys) → (Has z (x ∷ ys) → Has z (put_once cmp x ys)) → Has z (if is_lt o then x ∷ y ∷ ys else (if is_gt o then y ∷ put_once cmp x ys else y ∷ ys))
      by Less e i r = i
      by Equal e (inl same) r = inl (same ∙ tied x y e)
      by Equal e (inr i) r = i
      by Greater e (inl same) r = inr (r (inl same))
      by Greater e (inr (inl same)) r = inl same
      by Greater e (inr (inr i)) r = inr (r (inr i))

  pub each_once_has : (z : X) (xs : List X) → Has z xs → Has z (each_once cmp xs)
  each_once_has z [] h = h
  each_once_has z (x ∷ xs) (inl e) = has_put_once z x (each_once cmp xs) (inl e)
  each_once_has z (x ∷ xs) (inr i) = has_put_once z x (each_once cmp xs) (inr (each_once_has z xs i))

pub macs_total : IsTotalOrder mac_cmp
macs_total = on_total (λ (x : Mac). x.bytes) nat_list_cmp_total

pub macs_tied : (x y : Mac) → mac_cmp x y ≡ Equal → x ≡ y
macs_tied x y e = let bytes : x.bytes ≡ y.bytes = ids_tied x.bytes y.bytes e in λ i. record { bytes = bytes i }

pub groups_total : IsTotalOrder group_cmp
groups_total = then_total (on_total (λ (r : GroupRow). r.vid.value) nat_cmp_total) (on_total (λ (r : GroupRow). r.mac.bytes) nat_list_cmp_total)

-- ---- one table

-- rows of the same ports are the same
module _ (P Q : Vid → Mac → ℕ → Type 0) (there : (vid : Vid) (mac : Mac) (p : ℕ) → P vid mac p → Q vid mac p) (back : (vid : Vid) (mac : Mac) (p : ℕ) → Q vid mac p → P vid mac p) where
  row_there : (rows others : List GroupRow) → ListPorts P rows → ListPorts Q others → (r : GroupRow) → Has r rows → Has r others
  row_there rows others t u r i =
      let c : Contains rows r = contains_from_has rows r i in
      let one = t.some r c in
      let found = u.all r.vid r.mac one.0 (there r.vid r.mac one.0 ((t.ports r c one.0).0 one.1)) in
      let s : GroupRow = found.0 in
      let ports : s.ports ≡ r.ports = sets_same s.ports r.ports (u.small s found.1) (t.small r c)
      (λ p h. (t.ports r c p).1 (back r.vid r.mac p (subst (λ v. Q v r.mac p) found.2 (subst (λ m. Q s.vid m p) found.3 ((u.ports s found.1 p).0 h)))))
      (λ p h. (u.ports s found.1 p).1 (subst (λ v. Q v s.mac p) (sym found.2) (subst (λ m. Q r.vid m p) (sym found.3) (there r.vid r.mac p ((t.ports r c p).0 h))))) in
      let same : s ≡ r = λ k. record { vid = found.2 k; mac = found.3 k; ports = ports k } in
      subst (λ z. Has z others) same (has_from_contains others s found.1)

pub rows_one : (P Q : Vid → Mac → ℕ → Type 0) → ((vid : Vid) (mac : Mac) (p : ℕ) → P vid mac p → Q vid mac p) → ((vid : Vid) (mac : Mac) (p : ℕ) → Q vid mac p → P vid mac p)
    → (rows others : List GroupRow) → ListPorts P rows → ListPorts Q others → rows ≡ others
rows_one P Q there back rows others t u =
    Ascends-one group_cmp groups_total rows others t.ascends u.ascends (row_there P Q there back rows others t u) (row_there Q P back there others rows u t)

pub group_table_is_one : GroupTableIsOne
group_table_is_one g me vids rows others t u =
    rows_one (IsGroupPort g me vids) (IsGroupPort g me vids) (λ vid mac p h. h) (λ vid mac p h. h) rows others t u

-- ---- the rows of a VID

-- a port of a row for the VID of the plan
pub record IsPortIn (g : Graph) (me : SystemId) (plan : VidPlan) (vid : Vid) (mac : Mac) (p : ℕ) : Type 0 where
  pub vid_is : vid ≡ plan.vid
  pub leads : LeadsOn g me plan mac p
  pub low : 1 ≤ p
  pub high : p ≤ 32

abbrev ports_for : Graph → SystemId → VidPlan → Mac → PortSet
ports_for g me plan mac = ports_to 32 (leads_on g me plan mac)

-- what is known of a row for an address
record RowFor (g : Graph) (me : SystemId) (plan : VidPlan) (mac : Mac) (r : GroupRow) : Type 0 where
  vid_is : r.vid ≡ plan.vid
  mac_is : r.mac ≡ mac
  ports_are : r.ports ≡ ports_for g me plan mac
  some : (p : ℕ) × (has r.ports p ≡ true)

row_for : (g : Graph) (me : SystemId) (plan : VidPlan) (mac : Mac) (r : GroupRow) → group_row g me plan mac ≡ Some r → RowFor g me plan mac r
row_for g me plan mac r h = by (s.bits == 0) refl h
  where
    s : PortSet
    s = ports_for g me plan mac

    row : GroupRow
    row = record { vid = plan.vid; mac = mac; ports = s }

    by : (b : Bool) → (s.bits == 0) ≡ b → (if b then None else Some row) ≡ Some r → RowFor g me plan mac r
    by true e k = cc
    by false e k =
        let same : row ≡ r = cc in
        let filled : (p : ℕ) × (has s p ≡ true) = elim (bits_or_port s (small_to 32 (leads_on g me plan mac))) [
          | inl none ↦ absurd (true≢false (sym (ap (λ n. n == 0) none) ∙ e))
          | inr some ↦ some
        ] in
        record {
          vid_is = ap (λ (t : GroupRow). t.vid) (sym same);
          mac_is = ap (λ (t : GroupRow). t.mac) (sym same);
          ports_are = ap (λ (t : GroupRow). t.ports) (sym same);
          some = (filled.0, ap (λ (t : GroupRow). has t.ports filled.0) (sym same) ∙ filled.1);
        }

for_row : (g : Graph) (me : SystemId) (plan : VidPlan) (mac : Mac) (p : ℕ) → has (ports_for g me plan mac) p ≡ true
    → group_row g me plan mac ≡ Some (record { vid = plan.vid; mac = mac; ports = ports_for g me plan mac })
for_row g me plan mac p h = by (s.bits == 0) refl
  where
    s : PortSet
    s = ports_for g me plan mac

    row : GroupRow
    row = record { vid = plan.vid; mac = mac; ports = s }

    by : (b : Bool) → (s.bits == 0) ≡ b → (if b then None else Some row) ≡ Some row
    by true e = absurd (true≢false (sym h ∙ none_in_empty s p (eqb-true s.bits 0 e)))
    by false e = refl

-- the address of what leads on is one of the graph's
address_there : (g : Graph) (me : SystemId) (plan : VidPlan) (mac : Mac) (p : ℕ) → LeadsOn g me plan mac p → Has mac (group_addresses g)
address_there g me plan mac p l =
    let m : Member = l.serves.takes.member in
    let address : group_address l.source.source.value m.isid.value ≡ mac = ap (λ (i : Isid). group_address l.source.source.value i.value) l.serves.takes.in_service ∙ sym l.address in
    subst (λ z. Has z (group_addresses g)) address
    (each_once_has mac_cmp macs_tied (group_address l.source.source.value m.isid.value) (flat_map (λ (b : GraphBridge). map (λ (n : Member). group_address b.source.value n.isid.value) g.members) g.bridges)
    (has_flat_map (λ (b : GraphBridge). map (λ (n : Member). group_address b.source.value n.isid.value) g.members) l.source (group_address l.source.source.value m.isid.value) g.bridges
    (has_from_contains g.bridges l.source l.bridge)
    (has_map (λ (n : Member). group_address l.source.source.value n.isid.value) m g.members (has_from_contains g.members m l.serves.takes.there))))

same_then : (n : ℕ) (o : Ordering) → ordering_then (nat_cmp n n) o ≡ o
same_then n o = ap (λ c. ordering_then c o) (tied_itself nat_cmp_total n)

pub vid_table : (g : Graph) (me : SystemId) (plan : VidPlan) → IsValid g → ListPorts (IsPortIn g me plan) (group_rows_of_vid g me plan)
vid_table g me plan valid = record {
  ports = λ r c p. (ports_there r c p, ports_back r c p);
  some = λ r c. (of r c).2.some;
  all = all;
  small = λ r c. subst (λ (s : PortSet). s.bits < 2 ^ 32) (sym (of r c).2.ports_are) (small_to 32 (leads_on g me plan (of r c).0));
  ascends = Ascends-filter_map mac_cmp group_cmp (group_row g me plan) within (group_addresses g) (Ascends-each_once mac_cmp macs_total (flat_map (λ (b : GraphBridge). map (λ (n : Member). group_address b.source.value n.isid.value) g.members) g.bridges));
}
  where
    rows : List GroupRow
    rows = group_rows_of_vid g me plan

    of : (r : GroupRow) → Contains rows r → (mac : Mac) × Has mac (group_addresses g) × RowFor g me plan mac r
    of r c =
        let from = filter_map_has (group_row g me plan) r (group_addresses g) (has_from_contains rows r c) in
        (from.0, from.1, row_for g me plan from.0 r from.2)

    ports_there : (r : GroupRow) → Contains rows r → (p : ℕ) → has r.ports p ≡ true → IsPortIn g me plan r.vid r.mac p
    ports_there r c p h =
        let row = (of r c).2 in
        let in_set = has_to 32 (leads_on g me plan (of r c).0) p (omega arith) (ap (λ (s : PortSet). has s p) (sym row.ports_are) ∙ h) in
        record {
          vid_is = row.vid_is;
          leads = subst (λ m. LeadsOn g me plan m p) (sym row.mac_is) (test_leads g me plan (of r c).0 p valid in_set.passes);
          low = in_set.low;
          high = in_set.high;
        }

    ports_back : (r : GroupRow) → Contains rows r → (p : ℕ) → IsPortIn g me plan r.vid r.mac p → has r.ports p ≡ true
    ports_back r c p i =
        let row = (of r c).2 in
        ap (λ (s : PortSet). has s p) row.ports_are ∙ to_has 32 (leads_on g me plan (of r c).0) p (omega arith) (record {
          low = i.low;
          high = i.high;
          passes = leads_test g me plan (of r c).0 p valid (subst (λ m. LeadsOn g me plan m p) row.mac_is i.leads);
        })

    all : (vid : Vid) (mac : Mac) (p : ℕ) → IsPortIn g me plan vid mac p → (r : GroupRow) × Contains rows r × (r.vid ≡ vid) × (r.mac ≡ mac)
    all vid mac p i =
        let h : has (ports_for g me plan mac) p ≡ true = to_has 32 (leads_on g me plan mac) p (omega arith) (record { low = i.low; high = i.high; passes = leads_test g me plan mac p valid i.leads }) in
        let row : GroupRow = record { vid = plan.vid; mac = mac; ports = ports_for g me plan mac } in
        (row, contains_from_has rows row (has_filter_map (group_row g me plan) row (group_addresses g) mac (address_there g me plan mac p i.leads) (for_row g me plan mac p h)), sym i.vid_is, refl)

    within : (u v : Mac) (r s : GroupRow) → mac_cmp u v ≡ Less → group_row g me plan u ≡ Some r → group_row g me plan v ≡ Some s → group_cmp r s ≡ Less
    within u v r s less hr hs =
        let a = row_for g me plan u r hr in
        let b = row_for g me plan v s hs in
        ap (λ (w : Vid). ordering_then (nat_cmp w.value s.vid.value) (mac_cmp r.mac s.mac)) a.vid_is
        ∙ (ap (λ (w : Vid). ordering_then (nat_cmp plan.vid.value w.value) (mac_cmp r.mac s.mac)) b.vid_is
        ∙ (same_then plan.vid.value (mac_cmp r.mac s.mac)
        ∙ (ap (λ m. mac_cmp m s.mac) a.mac_is ∙ (ap (mac_cmp u) b.mac_is ∙ less))))

-- ---- all rows

-- a port of a row for one of the plans
pub record IsPortOfSome (g : Graph) (me : SystemId) (plans : List VidPlan) (vid : Vid) (mac : Mac) (p : ℕ) : Type 0 where
  pub plan : VidPlan
  pub planned : Has plan plans
  pub port : IsPortIn g me plan vid mac p

pub plans_table : (g : Graph) (me : SystemId) (plans : List VidPlan) → IsValid g → AscendsBy vid_cmp plans
    → ListPorts (IsPortOfSome g me plans) (flat_map (group_rows_of_vid g me) plans)
plans_table g me plans valid apart = record {
  ports = λ r c p. (ports_there r c p, ports_back r c p);
  some = λ r c. (let o = of r c in (vid_table g me o.0 valid).some r o.2);
  all = all;
  small = λ r c. (let o = of r c in (vid_table g me o.0 valid).small r o.2);
  ascends = Ascends-flat_map vid_cmp group_cmp (group_rows_of_vid g me) (λ p. (vid_table g me p valid).ascends) across plans apart;
}
  where
    rows : List GroupRow
    rows = flat_map (group_rows_of_vid g me) plans

    of : (r : GroupRow) → Contains rows r → (plan : VidPlan) × Has plan plans × Contains (group_rows_of_vid g me plan) r
    of r c =
        let from = flat_map_has (group_rows_of_vid g me) r plans (has_from_contains rows r c) in
        (from.0, from.1, contains_from_has (group_rows_of_vid g me from.0) r from.2)

    vid_of : (plan : VidPlan) (r : GroupRow) → Contains (group_rows_of_vid g me plan) r → r.vid ≡ plan.vid
    vid_of plan r c =
        let t = vid_table g me plan valid in
        let one = t.some r c in
        ((t.ports r c one.0).0 one.1).vid_is

    ports_there : (r : GroupRow) → Contains rows r → (p : ℕ) → has r.ports p ≡ true → IsPortOfSome g me plans r.vid r.mac p
    ports_there r c p h =
        let o = of r c in
        record { plan = o.0; planned = o.1; port = ((vid_table g me o.0 valid).ports r o.2 p).0 h }

    -- plans of one VID are one
    one_plan : (a b : VidPlan) → Has a plans → Has b plans → a.vid ≡ b.vid → a ≡ b
    one_plan a b i j e = one plans apart i j
      where
        tied : (x y : VidPlan) → x.vid ≡ y.vid → vid_cmp x y ≡ Less → ⊥
        tied x y same less = let no : Less ≡ Equal = sym less ∙ (ap (λ (w : Vid). nat_cmp x.vid.value w.value) (sym same) ∙ tied_itself nat_cmp_total x.vid.value) in absurd (cc)

        one : (ps : List VidPlan) → AscendsBy vid_cmp ps → Has a ps → Has b ps → a ≡ b
        one [] up k l = absurd k
        one (p ∷ ps) up (inl k) (inl l) = k ∙ sym l
        one (p ∷ ps) up (inl k) (inr l) = absurd (tied a b e (subst (λ z. vid_cmp z b ≡ Less) (sym k) (All-has (λ z. vid_cmp p z ≡ Less) ps up.0 b l)))
        one (p ∷ ps) up (inr k) (inl l) = absurd (tied b a (sym e) (subst (λ z. vid_cmp z a ≡ Less) (sym l) (All-has (λ z. vid_cmp p z ≡ Less) ps up.0 a k)))
        one (p ∷ ps) up (inr k) (inr l) = one ps up.1 k l

    ports_back : (r : GroupRow) → Contains rows r → (p : ℕ) → IsPortOfSome g me plans r.vid r.mac p → has r.ports p ≡ true
    ports_back r c p i =
        let o = of r c in
        let same : i.plan ≡ o.0 = one_plan i.plan o.0 i.planned o.1 (sym i.port.vid_is ∙ vid_of o.0 r o.2) in
        ((vid_table g me o.0 valid).ports r o.2 p).1 (subst (λ z. IsPortIn g me z r.vid r.mac p) same i.port)

    all : (vid : Vid) (mac : Mac) (p : ℕ) → IsPortOfSome g me plans vid mac p → (r : GroupRow) × Contains rows r × (r.vid ≡ vid) × (r.mac ≡ mac)
    all vid mac p i =
        let found = (vid_table g me i.plan valid).all vid mac p i.port in
        (found.0, contains_from_has rows found.0 (has_flat_map (group_rows_of_vid g me) i.plan found.0 plans i.planned (has_from_contains (group_rows_of_vid g me i.plan) found.0 found.1)), found.2, found.3)

    across : (p q : VidPlan) (r s : GroupRow) → vid_cmp p q ≡ Less → Has r (group_rows_of_vid g me p) → Has s (group_rows_of_vid g me q) → group_cmp r s ≡ Less
    across p q r s less i j =
        ap (λ (w : Vid). ordering_then (nat_cmp w.value s.vid.value) (mac_cmp r.mac s.mac)) (vid_of p r (contains_from_has (group_rows_of_vid g me p) r i))
        ∙ (ap (λ (w : Vid). ordering_then (nat_cmp p.vid.value w.value) (mac_cmp r.mac s.mac)) (vid_of q s (contains_from_has (group_rows_of_vid g me q) s j))
        ∙ ap (λ o. ordering_then o (mac_cmp r.mac s.mac)) less)

-- the same ports, said once more
list_as : (P Q : Vid → Mac → ℕ → Type 0) → ((vid : Vid) (mac : Mac) (p : ℕ) → P vid mac p → Q vid mac p) → ((vid : Vid) (mac : Mac) (p : ℕ) → Q vid mac p → P vid mac p)
    → (rows : List GroupRow) → ListPorts P rows → ListPorts Q rows
list_as P Q there back rows t = record {
  ports = λ r c p. (λ h. there r.vid r.mac p ((t.ports r c p).0 h), λ h. (t.ports r c p).1 (back r.vid r.mac p h));
  some = t.some;
  all = λ vid mac p h. t.all vid mac p (back vid mac p h);
  small = t.small;
  ascends = t.ascends;
}

pub group_rows_are_table : GroupRowsAreTable
unfolding group_rows
group_rows_are_table g me vids valid plans =
    list_as (IsPortOfSome g me up) (IsGroupPort g me vids) there back (group_rows g me vids) (plans_table g me up valid.valid (vids_ascend vids plans.apart))
  where
    up : List VidPlan
    up = ascending_by vid_cmp vids

    there : (vid : Vid) (mac : Mac) (p : ℕ) → IsPortOfSome g me up vid mac p → IsGroupPort g me vids vid mac p
    there vid mac p i = record {
      plan = i.plan;
      planned = contains_from_has vids i.plan (has_ascending vid_cmp i.plan vids i.planned);
      vid_is = i.port.vid_is;
      leads = i.port.leads;
    }

    back : (vid : Vid) (mac : Mac) (p : ℕ) → IsGroupPort g me vids vid mac p → IsPortOfSome g me up vid mac p
    back vid mac p i = record {
      plan = i.plan;
      planned = ascending_has vid_cmp i.plan vids (has_from_contains vids i.plan i.planned);
      port = record {
        vid_is = i.vid_is;
        leads = i.leads;
        low = port_among-low g.edges me i.leads.next p valid.ports (sym i.leads.port_is);
        high = port_among-le g.edges me i.leads.next p valid.ports (sym i.leads.port_is);
      };
    }

-- ---- graphs that look alike

-- who stands on a best path reaches both of its ends
record Between (g : Graph) (me s r : SystemId) : Type 0 where
  source : IsReached g me s
  receiver : IsReached g me r

between : (g : Graph) (mask : ℕ) (s r me next : SystemId) → IsValid g → Follows g mask s r me next → Between g me s r
between g mask s r me next valid f =
    let front : IsBest g mask s me (f.before ++ me ∷ []) = best_front g mask s r me f.before (next ∷ f.after) valid f.best in
    let turned : IsBest g mask me s (reverse (f.before ++ me ∷ [])) = best_reverse g mask s me (f.before ++ me ∷ []) front in
    let back : IsBest g mask me r (me ∷ next ∷ f.after) = best_back g mask s r me f.before (next ∷ f.after) valid f.best in
    record {
      source = path_reached g me s s (reverse (f.before ++ me ∷ [])) turned.path (path_end g me s (reverse (f.before ++ me ∷ [])) turned.path);
      receiver = path_reached g me r r (me ∷ next ∷ f.after) back.path (path_end g me r (me ∷ next ∷ f.after) back.path);
    }

-- whoever is reached sends in both, and receives
sends_there : (g h : Graph) (me : SystemId) (isid : Isid) (vid : Vid) (x : SystemId) → LookAlike g h me → IsReached g me x → Sends g isid vid x → Sends h isid vid x
sends_there g h me isid vid x s reached is = record {
  member = is.member;
  there = (s.members is.member (subst (IsReached g me) (sym is.of_system) reached)).0 is.there;
  of_system = is.of_system;
  in_service = is.in_service;
  in_vid = is.in_vid;
  transmits = is.transmits;
}

receives_there : (g h : Graph) (me : SystemId) (isid : Isid) (vid : Vid) (x : SystemId) → LookAlike g h me → IsReached g me x → Receives g isid vid x → Receives h isid vid x
receives_there g h me isid vid x s reached is = record {
  member = is.member;
  there = (s.members is.member (subst (IsReached g me) (sym is.of_system) reached)).0 is.there;
  of_system = is.of_system;
  in_service = is.in_service;
  in_vid = is.in_vid;
  receives = is.receives;
}

leads_there : (g h : Graph) (me : SystemId) (plan : VidPlan) (mac : Mac) (p : ℕ) → IsValid g → IsValid h → LookAlike g h me → LeadsOn g me plan mac p → LeadsOn h me plan mac p
leads_there g h me plan mac p v w s l =
    let mask = mask_of plan.ect in
    let x : SystemId = l.source.id.system in
    let f = l.serves.follows in
    let ends = between g mask x l.serves.receiver me l.next v f in
    let path : List SystemId = f.before ++ me ∷ l.next ∷ f.after in
    let from_source : LookAlike g h x = looks_on g h me x s ends.source in
    let best : IsBest h mask x l.serves.receiver path = (best_of_some h mask x l.serves.receiver path w).0 (sym (same_best g h mask x l.serves.receiver v w from_source) ∙ (best_of_some g mask x l.serves.receiver path v).1 f.best) in
    let here : IsReached g me me = path_reached g me l.serves.receiver me (me ∷ l.next ∷ f.after) back.path (inl refl) in
    record {
      source = l.source;
      isid = l.isid;
      next = l.next;
      bridge = (s.bridges l.source ends.source).0 l.bridge;
      address = l.address;
      sends = sends_there g h me l.isid plan.vid x s ends.source l.sends;
      serves = record {
        receiver = l.serves.receiver;
        other = l.serves.other;
        takes = receives_there g h me l.isid plan.vid l.serves.receiver s ends.receiver l.serves.takes;
        follows = record { before = f.before; after = f.after; best = best };
      };
      port_is = sym (s.ports me l.next here) ∙ l.port_is;
    }
  where
    back : IsBest g (mask_of plan.ect) me l.serves.receiver (me ∷ l.next ∷ l.serves.follows.after)
    back = best_back g (mask_of plan.ect) l.source.id.system l.serves.receiver me l.serves.follows.before (l.next ∷ l.serves.follows.after) v l.serves.follows.best

vid_groups_same : (g h : Graph) (me : SystemId) (plan : VidPlan) → IsValid g → IsValid h → LookAlike g h me → group_rows_of_vid g me plan ≡ group_rows_of_vid h me plan
vid_groups_same g h me plan v w s =
    let t : LookAlike h g me = (looks_back g h me v s).0 in
    rows_one (IsPortIn g me plan) (IsPortIn h me plan)
    (λ vid mac p i. record { vid_is = i.vid_is; leads = leads_there g h me plan mac p v w s i.leads; low = i.low; high = i.high })
    (λ vid mac p i. record { vid_is = i.vid_is; leads = leads_there h g me plan mac p w v t i.leads; low = i.low; high = i.high })
    (group_rows_of_vid g me plan) (group_rows_of_vid h me plan) (vid_table g me plan v) (vid_table h me plan w)

pub same_groups : SameGroups
unfolding group_rows
same_groups g h me vids v w s = λ i. flat_map (λ p. vid_groups_same g h me p v w s i) (ascending_by vid_cmp vids)

-- the same VIDs in another order
vids_same : (g : Graph) (me : SystemId) (vids others : List VidPlan) → AreVidsApart vids → AreVidsApart others → ((p : VidPlan) → Contains vids p ↔ Contains others p) → group_rows g me vids ≡ group_rows g me others
unfolding group_rows
vids_same g me vids others a b same =
    ap (flat_map (group_rows_of_vid g me)) (Ascends-one vid_cmp vids_total (ascending_by vid_cmp vids) (ascending_by vid_cmp others) (vids_ascend vids a) (vids_ascend others b)
    (λ p i. ascending_has vid_cmp p others (has_from_contains others p ((same p).0 (contains_from_has vids p (has_ascending vid_cmp p vids i)))))
    (λ p i. ascending_has vid_cmp p vids (has_from_contains vids p ((same p).1 (contains_from_has others p (has_ascending vid_cmp p others i))))))

pub order_says_nothing_of_groups : OrderSaysNothingOfGroups
order_says_nothing_of_groups g h me vids others v w s members a b same =
    same_groups g h me vids v w (look_alike_from_each g h me v w s members) ∙ vids_same h me vids others a b same
