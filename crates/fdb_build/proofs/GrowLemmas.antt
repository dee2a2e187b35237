-- Rows that grow by ports: what one address gets, one test after another, and the rows that come of them.
use Rattle.std.specs.Prelude.{ℕ, zero, suc, ◌≡◌, ◌<◌, ◌≤◌, ◌+◌, ◌^◌, Bool, true, false, ◌&&◌, ◌||◌, cond, List, [], ◌∷◌, length, map, take, Contains, Option, Some, None, unwrap_or, slice_get}
use Rattle.std.specs.List.{list_any}
use Rattle.std.specs.BTreeMap.{BTreeMap, IsOrdered, get}
use Rattle.std.specs.List.Sorted.{IsStrictlySortedBy}
use Rattle.std.specs.Map.{keys_of, lookup}
use Rattle.std.specs.Ordering.{is_eq, ordering_then}
use Rattle.std.proofs.Common.{refl, sym, ap, ◌∙◌, subst, inl, inr, get_or, take_all, true≢false, Ordering, Less, Equal, Greater}
use Rattle.std.proofs.lemmas.Cmp.{nat_cmp_total, tied_itself}
use Rattle.std.proofs.lemmas.List.Folds.{list_any_more, list_any_none}
use Rattle.std.proofs.lemmas.Map.Entries.{btree_map_get_place, place_from_lookup}
use Rattle.std.proofs.lemmas.Map.Keys.{sorted_head, sorted_tail}
use Rattle.std.proofs.lemmas.Slice.Eq.{bytes_eq-Decides}
use Rattle.spb_types.specs.Graph.{IsValid, ArePorts}
use Rattle.spb_types.specs.Ports.{has, no_ports}
use Rattle.spb_types.specs.declared.address.Mac.{Mac}
use Rattle.spb_types.specs.declared.address.SystemId.{SystemId}
use Rattle.spb_types.specs.declared.graph.Graph.{Graph}
use Rattle.spb_types.specs.declared.ports.PortSet.{PortSet}
use Rattle.spb_types.specs.declared.service.Vid.{Vid}
use Rattle.spb_types.specs.declared.service.VidPlan.{VidPlan}
use Rattle.spb_types.specs.declared.tables.GroupRow.{GroupRow}
use Rattle.spb_types.proofs.PortLemmas.{has-no_ports}
use Rattle.ect_trees.proofs.Members.{Has, has_map, has_from_contains, contains_from_has}
use Rattle.fdb_build.specs.Tables.{mac_cmp, AscendsBy}
use Rattle.fdb_build.specs.declared.services.Services.{Services}
use Rattle.spb_types.specs.Address.{group_address}
use Rattle.spb_types.specs.declared.graph.GraphBridge.{GraphBridge}
use Rattle.spb_types.specs.declared.service.Isid.{Isid}
use Rattle.fdb_build.specs.Groups.{group_cmp, ListPorts, leads_on, group_rows_of_vid}
use Rattle.fdb_build.specs.Making.{union, set_at, is_towards, isid_cmp, list_at, sent_by, place_of, sets_from, ports_at, same_mac, is_from, is_from_some, AreFilled, Grew, row_of}
use Rattle.fdb_build.proofs.GroupLemmas.{IsPortIn, macs_total, macs_tied, rows_one, vid_table}
use Rattle.fdb_build.proofs.GroupTests.{test_leads, leads_test}
use Rattle.fdb_build.proofs.RowLemmas.{port_among-le, port_among-low}
use Rattle.fdb_build.proofs.SetLemmas.{has_union}

-- ---- one address

or_false : (b : Bool) → (b || false) ≡ b
or_false true = refl
or_false false = refl

and_false : (b : Bool) → (b && false) ≡ false
and_false true = refl
and_false false = refl

or_or : (a b c d : Bool) → d ≡ (b || c) → ((a || b) || c) ≡ (a || d)
or_or true b c d e = refl
or_or false b c d e = sym e

pub grew_none : (rows : BTreeMap Mac PortSet) (mac : Mac) (ports : PortSet) → ((p : ℕ) → has ports p ≡ false) → Grew rows rows (λ q p. same_mac q mac && has ports p)
grew_none rows mac ports none = record {
  ports = λ q p. sym (ap (λ b. has (ports_at rows q) p || (same_mac q mac && b)) (none p) ∙ (ap (λ b. has (ports_at rows q) p || b) (and_false (same_mac q mac)) ∙ or_false (has (ports_at rows q) p)));
  filled = λ h. h;
}

-- rows of which nothing is asked
pub grew_nothing : (rows : BTreeMap Mac PortSet) (test : Mac → ℕ → Bool) → ((q : Mac) (p : ℕ) → test q p ≡ false) → Grew rows rows test
grew_nothing rows test none = record {
  ports = λ q p. sym (ap (λ b. has (ports_at rows q) p || b) (none q p) ∙ or_false (has (ports_at rows q) p));
  filled = λ h. h;
}

-- no port leads from a source whose sets are empty
no_port : (s : Services) (source : GraphBridge) (sets : List PortSet) → ((place : ℕ) → set_at sets place ≡ no_ports) → (isids : List Isid) (q : Mac) (p : ℕ) → is_from s source sets isids q p ≡ false
no_port s source sets empty isids q p = list_any_none (λ isid. same_mac q (group_address source.source.value isid.value) && is_towards sets (list_at isid_cmp s.receivers isid) p) isids (λ k d within. at (get_or isids k d))
  where
    at : (isid : Isid) → (same_mac q (group_address source.source.value isid.value) && is_towards sets (list_at isid_cmp s.receivers isid) p) ≡ false
    at isid =
        let none : is_towards sets (list_at isid_cmp s.receivers isid) p ≡ false = list_any_none (λ place. has (set_at sets place) p) (list_at isid_cmp s.receivers isid) (λ k d within. ap (λ t. has t p) (empty (get_or (list_at isid_cmp s.receivers isid) k d)) ∙ has-no_ports p) in
        ap (λ b. same_mac q (group_address source.source.value isid.value) && b) none ∙ and_false (same_mac q (group_address source.source.value isid.value))

pub grew_from_none : (s : Services) (source : GraphBridge) (sets : List PortSet) (isids : List Isid) (rows : BTreeMap Mac PortSet) → ((place : ℕ) → set_at sets place ≡ no_ports) → Grew rows rows (is_from s source sets isids)
grew_from_none s source sets isids rows empty = grew_nothing rows (is_from s source sets isids) (λ q p. no_port s source sets empty isids q p)

-- nor to no service
pub grew_to_none : (s : Services) (source : GraphBridge) (sets : List PortSet) (isids : List Isid) (rows : BTreeMap Mac PortSet) → isids ≡ [] → Grew rows rows (is_from s source sets isids)
grew_to_none s source sets isids rows none = grew_nothing rows (is_from s source sets isids) (λ q p. ap (λ l. is_from s source sets l q p) none)

eq_is : (o : Ordering) → is_eq o ≡ true → o ≡ Equal
eq_is Less h = absurd (true≢false (sym h))
eq_is Equal h = refl
eq_is Greater h = absurd (true≢false (sym h))

not_same : (q mac : Mac) → is_eq (mac_cmp mac q) ≡ false → same_mac q mac ≡ false
not_same q mac h = by (same_mac q mac) refl
  where
    by : (b : Bool) → same_mac q mac ≡ b → same_mac q mac ≡ false
    by false e = e
    by true e =
        let bytes : q.bytes ≡ mac.bytes = (bytes_eq-Decides q.bytes mac.bytes).0 e in
        let same : q ≡ mac = λ i. record { bytes = bytes i } in
        absurd (true≢false (sym (ap is_eq (ap (mac_cmp mac) same ∙ tied_itself macs_total mac)) ∙ h))

-- one address got these ports
pub record Put (old new : BTreeMap Mac PortSet) (mac : Mac) (set : PortSet) : Type 0 where
  pub put : (q : Mac) → get mac_cmp new q ≡ cond (is_eq (mac_cmp mac q)) (Some set) (get mac_cmp old q)

pub grew_put : (old new : BTreeMap Mac PortSet) (mac : Mac) (ports : PortSet) → ((p : ℕ) × (has ports p ≡ true)) → (union (ports_at old mac) ports).bits < 2 ^ 32 → Put old new mac (union (ports_at old mac) ports)
    → Grew old new (λ q p. same_mac q mac && has ports p)
grew_put old new mac ports some small u = record { ports = λ q p. at q p (is_eq (mac_cmp mac q)) refl; filled = λ h q s e. fill h q s e (is_eq (mac_cmp mac q)) refl }
  where
    set : PortSet
    set = union (ports_at old mac) ports

    at : (q : Mac) (p : ℕ) (b : Bool) → is_eq (mac_cmp mac q) ≡ b → has (ports_at new q) p ≡ (has (ports_at old q) p || (same_mac q mac && has ports p))
    at q p true e =
        let same : mac ≡ q = macs_tied mac q (eq_is (mac_cmp mac q) e) in
        let equal : same_mac q mac ≡ true = (bytes_eq-Decides q.bytes mac.bytes).1 (ap (λ (m : Mac). m.bytes) (sym same)) in
        ap (λ o. has (unwrap_or o no_ports) p) (u.put q ∙ ap (λ b. cond b (Some set) (get mac_cmp old q)) e)
        ∙ (has_union (ports_at old mac) ports p
        ∙ (ap (λ m. has (ports_at old m) p || has ports p) same
        ∙ ap (λ b. has (ports_at old q) p || (b && has ports p)) (sym equal)))
    at q p false e =
        ap (λ o. has (unwrap_or o no_ports) p) (u.put q ∙ ap (λ b. cond b (Some set) (get mac_cmp old q)) e)
        ∙ sym (ap (λ b. has (ports_at old q) p || (b && has ports p)) (not_same q mac e) ∙ or_false (has (ports_at old q) p))

    or_right : (b c : Bool) → c ≡ true → (b || c) ≡ true
    or_right true c h = refl
    or_right false c h = h

    fill : AreFilled old → (q : Mac) (s : PortSet) → get mac_cmp new q ≡ Some s → (b : Bool) → is_eq (mac_cmp mac q) ≡ b → ((p : ℕ) × (has s p ≡ true)) × (s.bits < 2 ^ 32)
    fill h q s e true k =
        let there : Some set ≡ Some s = sym (u.put q ∙ ap (λ b. cond b (Some set) (get mac_cmp old q)) k) ∙ e in
        let same : set ≡ s = cc in
        ((some.0, ap (λ (t : PortSet). has t some.0) (sym same) ∙ (has_union (ports_at old mac) ports some.0 ∙ or_right (has (ports_at old mac) some.0) (has ports some.0) some.1)), subst (λ (t : PortSet). t.bits < 2 ^ 32) same small)
    fill h q s e false k = h q s (sym (u.put q ∙ ap (λ b. cond b (Some set) (get mac_cmp old q)) k) ∙ e)

-- ---- one test after another

pub grew_on : (a b c : BTreeMap Mac PortSet) (T U V : Mac → ℕ → Bool) → Grew a b T → Grew b c U → ((q : Mac) (p : ℕ) → V q p ≡ (T q p || U q p)) → Grew a c V
grew_on a b c T U V g h e = record {
  ports = λ q p. h.ports q p ∙ (ap (λ x. x || U q p) (g.ports q p) ∙ or_or (has (ports_at a q) p) (T q p) (U q p) (V q p) (e q p));
  filled = λ k. h.filled (g.filled k);
}

-- the test of one item more
pub grew_more : {X : Type 0} (f : X → Mac → ℕ → Bool) (xs : List X) (a b c : BTreeMap Mac PortSet) (i : ℕ) (d x : X) → i < length xs → x ≡ get_or xs i d
    → Grew b c (f x) → Grew a b (λ q p. list_any (λ y. f y q p) (take i xs)) → Grew a c (λ q p. list_any (λ y. f y q p) (take (i + 1) xs))
grew_more f xs a b c i d x low is h g =
    grew_on a b c (λ q p. list_any (λ y. f y q p) (take i xs)) (f x) (λ q p. list_any (λ y. f y q p) (take (i + 1) xs)) g h
    (λ q p. list_any_more (λ y. f y q p) xs i d low ∙ ap (λ y. list_any (λ z. f z q p) (take i xs) || f y q p) (sym is))

-- the same test, said otherwise
grew_as : (b c : BTreeMap Mac PortSet) (T U : Mac → ℕ → Bool) → ((q : Mac) (p : ℕ) → T q p ≡ U q p) → Grew b c T → Grew b c U
grew_as b c T U e h = record { ports = λ q p. h.ports q p ∙ ap (λ x. has (ports_at b q) p || x) (e q p); filled = h.filled }

-- one service more
pub isid_more : (s : Services) (source : GraphBridge) (sets : List PortSet) (isids items : List Isid) (a b c : BTreeMap Mac PortSet) (i : ℕ) (d : Isid) (from : ℕ) (mac : Mac) (ports : PortSet) (receivers : List ℕ)
    → items ≡ isids → i < length items → from ≡ source.source.value → mac ≡ group_address from (get_or items i d).value
    → receivers ≡ list_at isid_cmp s.receivers (get_or items i d) → ((p : ℕ) → has ports p ≡ is_towards sets receivers p)
    → Grew b c (λ q p. same_mac q mac && has ports p) → Grew a b (is_from s source sets (take i isids)) → Grew a c (is_from s source sets (take (i + 1) isids))
isid_more s source sets isids items a b c i d from mac ports receivers same low of address received set h g =
    let low_there : i < length isids = subst (λ (l : List Isid). i < length l) same low in
    grew_more f isids a b c i d isid low_there (ap (λ (l : List Isid). get_or l i d) same)
    (grew_as b c (λ q p. same_mac q mac && has ports p) (f isid) (λ q p. ap (λ m. same_mac q m && has ports p) there ∙ ap (λ t. same_mac q (group_address source.source.value isid.value) && t) (set p ∙ ap (λ l. is_towards sets l p) received)) h) g
  where
    isid : Isid
    isid = get_or items i d

    f : Isid → Mac → ℕ → Bool
    f isid q p = same_mac q (group_address source.source.value isid.value) && is_towards sets (list_at isid_cmp s.receivers isid) p

    there : mac ≡ group_address source.source.value (get_or items i d).value
    there = address ∙ ap (λ n. group_address n (get_or items i d).value) of

-- the services of all that were gone through
pub isids_all : (s : Services) (source : GraphBridge) (sets : List PortSet) (isids items : List Isid) (a b : BTreeMap Mac PortSet) (i : ℕ) → items ≡ isids → length items ≤ i
    → Grew a b (is_from s source sets (take i isids)) → Grew a b (is_from s source sets isids)
isids_all s source sets isids items a b i same low g =
    subst (λ l. Grew a b (is_from s source sets l)) (take_all i isids (subst (λ (l : List Isid). length l ≤ i) same low)) g

-- one source more
pub source_more : (g : Graph) (me : SystemId) (plan : VidPlan) (s : Services) (sources : List GraphBridge) (a b c : BTreeMap Mac PortSet) (i : ℕ) (d : GraphBridge) → i < length sources
    → Grew b c (is_from s (get_or sources i d) (sets_from g me plan (get_or sources i d).id.system) (sent_by s (place_of g (get_or sources i d).id.system)))
    → Grew a b (is_from_some g me plan s (take i sources)) → Grew a c (is_from_some g me plan s (take (i + 1) sources))
source_more g me plan s sources a b c i d low h before =
    grew_more (λ x. is_from s x (sets_from g me plan x.id.system) (sent_by s (place_of g x.id.system))) sources a b c i d (get_or sources i d) low refl h before

-- rows that were none have just the ports that pass
pub grown : (rows m : BTreeMap Mac PortSet) (T : Mac → ℕ → Bool) → rows.entries ≡ [] → Grew rows m T → AreFilled m × ((q : Mac) (p : ℕ) → has (ports_at m q) p ≡ T q p)
grown rows m T none h = (
  h.filled (λ mac s e. (let no : None ≡ Some s = sym (nothing mac) ∙ e in absurd (cc))),
  λ q p. h.ports q p ∙ ap (λ b. b || T q p) (ap (λ o. has (unwrap_or o no_ports) p) (nothing q) ∙ has-no_ports p),
)
  where
    nothing : (q : Mac) → get mac_cmp rows q ≡ None
    nothing q = ap (λ es. lookup (λ k. is_eq (mac_cmp q k)) es) none

-- ---- the rows

entry_row : (vid : Vid) (es : List (Mac × PortSet)) (r : GroupRow) → Has r (map (row_of vid) es) → (e : Mac × PortSet) × Has e es × (r ≡ row_of vid e)
entry_row vid [] r h = absurd h
entry_row vid (e ∷ es) r (inl same) = (e, inl refl, same)
entry_row vid (e ∷ es) r (inr i) = let rest = entry_row vid es r i in (rest.0, inr rest.1, rest.2)

entry_at : {X : Type 0} (x : X) (xs : List X) → Has x xs → (i : ℕ) × (slice_get xs i ≡ Some x)
entry_at x [] h = absurd h
entry_at x (y ∷ ys) (inl e) = (0, ap Some (sym e))
entry_at x (y ∷ ys) (inr h) = let r = entry_at x ys h in (suc r.0, r.1)

at_entry : {X : Type 0} (x : X) (xs : List X) (i : ℕ) → slice_get xs i ≡ Some x → Has x xs
at_entry x [] i h = cc
at_entry x (y ∷ ys) zero h = let same : y ≡ x = cc in inl (sym same)
at_entry x (y ∷ ys) (suc i) h = inr (at_entry x ys i h)

rows_ascend : (vid : Vid) (es : List (Mac × PortSet)) → IsStrictlySortedBy mac_cmp (keys_of es) → AscendsBy group_cmp (map (row_of vid) es)
rows_ascend vid [] h = tt
rows_ascend vid (e ∷ es) h = (each es (sorted_head mac_cmp e.0 (keys_of es) h), rows_ascend vid es (sorted_tail mac_cmp e.0 (keys_of es) h))
  where
    each : (fs : List (Mac × PortSet)) → Rattle.std.specs.List.AllByRecursion (λ m. mac_cmp e.0 m ≡ Less) (keys_of fs) → Rattle.std.specs.List.AllByRecursion (λ r. group_cmp (row_of vid e) r ≡ Less) (map (row_of vid) fs)
    each [] k = tt
    each (f ∷ fs) k = (ap (λ c. ordering_then c (mac_cmp e.0 f.0)) (tied_itself nat_cmp_total vid.value) ∙ k.0, each fs k.1)

module _ (g : Graph) (me : SystemId) (plan : VidPlan) (m : BTreeMap Mac PortSet) (valid : IsValid g) (ports : ArePorts g.edges me)
    (ordered : IsOrdered mac_cmp m) (filled : AreFilled m) (same : (q : Mac) (p : ℕ) → has (ports_at m q) p ≡ leads_on g me plan q p) where
  found : (e : Mac × PortSet) → Has e m.entries → get mac_cmp m e.0 ≡ Some e.1
  found e i = let at = entry_at e m.entries i in btree_map_get_place macs_total m at.0 e.0 e.1 ordered at.1

  of : (r : GroupRow) → Contains (map (row_of plan.vid) m.entries) r → (e : Mac × PortSet) × Has e m.entries × (r ≡ row_of plan.vid e)
  of r c = entry_row plan.vid m.entries r (has_from_contains (map (row_of plan.vid) m.entries) r c)

  holds : (e : Mac × PortSet) → Has e m.entries → (p : ℕ) → has e.1 p ≡ leads_on g me plan e.0 p
  holds e i p = sym (ap (λ o. has (unwrap_or o no_ports) p) (found e i)) ∙ same e.0 p

  listed : ListPorts (IsPortIn g me plan) (map (row_of plan.vid) m.entries)
  listed = record {
    ports = λ r c p. (let o = of r c in subst (λ (s : GroupRow). (has s.ports p ≡ true → IsPortIn g me plan s.vid s.mac p) × (IsPortIn g me plan s.vid s.mac p → has s.ports p ≡ true)) (sym o.2) (there o.0 o.1 p, back o.0 o.1 p));
    some = λ r c. (let o = of r c in subst (λ (s : GroupRow). (p : ℕ) × (has s.ports p ≡ true)) (sym o.2) (filled o.0.0 o.0.1 (found o.0 o.1)).0);
    all = all;
    small = λ r c. (let o = of r c in subst (λ (s : GroupRow). s.ports.bits < 2 ^ 32) (sym o.2) (filled o.0.0 o.0.1 (found o.0 o.1)).1);
    ascends = rows_ascend plan.vid m.entries ordered;
  }
    where
      there : (e : Mac × PortSet) → Has e m.entries → (p : ℕ) → has e.1 p ≡ true → IsPortIn g me plan plan.vid e.0 p
      there e i p h =
          let l = test_leads g me plan e.0 p valid (sym (holds e i p) ∙ h) in
          record {
            vid_is = refl;
            leads = l;
            low = port_among-low g.edges me l.next p ports (sym l.port_is);
            high = port_among-le g.edges me l.next p ports (sym l.port_is);
          }

      back : (e : Mac × PortSet) → Has e m.entries → (p : ℕ) → IsPortIn g me plan plan.vid e.0 p → has e.1 p ≡ true
      back e i p h = holds e i p ∙ leads_test g me plan e.0 p valid h.leads

      all : (vid : Vid) (mac : Mac) (p : ℕ) → IsPortIn g me plan vid mac p → (r : GroupRow) × Contains (map (row_of plan.vid) m.entries) r × (r.vid ≡ vid) × (r.mac ≡ mac)
      all vid mac p h = by (get mac_cmp m mac) refl
        where
          in_row : has (ports_at m mac) p ≡ true
          in_row = same mac p ∙ leads_test g me plan mac p valid h.leads

          by : (o : Option PortSet) → get mac_cmp m mac ≡ o → (r : GroupRow) × Contains (map (row_of plan.vid) m.entries) r × (r.vid ≡ vid) × (r.mac ≡ mac)
          by None e = absurd (true≢false (sym in_row ∙ (ap (λ o. has (unwrap_or o no_ports) p) e ∙ has-no_ports p)))
          by (Some s) e =
              let place = place_from_lookup (λ k. is_eq (mac_cmp mac k)) m.entries s e in
              let entry : Mac × PortSet = (place.1, s) in
              let row : GroupRow = row_of plan.vid entry in
              (row, contains_from_has (map (row_of plan.vid) m.entries) row (has_map (row_of plan.vid) entry m.entries (at_entry entry m.entries place.0 place.2)), sym h.vid_is, sym (macs_tied mac place.1 (eq_is (mac_cmp mac place.1) place.3)))

  pub rows_are : map (row_of plan.vid) m.entries ≡ group_rows_of_vid g me plan
  rows_are = rows_one (IsPortIn g me plan) (IsPortIn g me plan) (λ vid mac p h. h) (λ vid mac p h. h) (map (row_of plan.vid) m.entries) (group_rows_of_vid g me plan) listed (vid_table g me plan valid)
