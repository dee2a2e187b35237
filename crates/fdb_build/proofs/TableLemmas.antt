-- The unicast table: its rows are just those of the definition, they ascend, and they are the same in graphs that look alike.
use Rattle.std.proofs.Common.{◌≡◌, ◌↔◌, ℕ, inl, inr, List, [], ◌∷◌, flat_map, Contains, Option, Some, None, option_map, option_and_then, slice_get, refl, sym, ap, ◌∙◌, subst, Ordering, Less, nat_cmp}
use Rattle.std.specs.Ordering.{ordering_then}
use Rattle.std.specs.Cmp.{IsTotalOrder}
use Rattle.std.proofs.lemmas.Cmp.{nat_cmp_total, nat_list_cmp_total, then_total, on_total, tied_itself}
use Rattle.spb_types.specs.Ect.{mask_of}
use Rattle.spb_types.specs.Graph.{IsAmong, IsBridge, systems_of, port_between, IsValid}
use Rattle.spb_types.specs.Service.{AreVidsApart}
use Rattle.spb_types.specs.declared.address.SystemId.{SystemId}
use Rattle.spb_types.specs.declared.graph.Graph.{Graph}
use Rattle.spb_types.specs.declared.service.VidPlan.{VidPlan}
use Rattle.spb_types.specs.declared.tables.UnicastRow.{UnicastRow}
use Rattle.ect_trees.specs.Best.{IsBest, best_of}
use Rattle.ect_trees.specs.Laws.{AreAlike, LookAlike}
use Rattle.ect_trees.proofs.Alike as alike
use Rattle.ect_trees.proofs.Alike.{same_best}
use Rattle.ect_trees.proofs.Joining.{same_ports}
use Rattle.ect_trees.proofs.Reached.{leads_start, leads_bridge, reached_itself, looks_back}
use Rattle.ect_trees.proofs.Exists.{best_of_some}
use Rattle.ect_trees.proofs.Members.{Has, has_flat_map, has_from_contains, contains_from_has}
use Rattle.fdb_build.specs.Tables.{ascending_by, mac_cmp, system_cmp, vid_cmp, row_cmp, port_towards, unicast_row, rows_of_vid, unicast_rows, IsUnicast, AscendsBy, RowsAreTable, TableIsOne, SameRows, OrderSaysNothingOfRows}
use Rattle.fdb_build.proofs.AscendLemmas.{ascending_has, has_ascending, Ascends-ascending_by, Ascends-one, Ascends-filter_map, Ascends-flat_map, filter_map_has, has_filter_map, flat_map_has}
use Rattle.fdb_build.proofs.SortLemmas.{systems_total, vids_total, systems_apart, vids_apart}

pub rows_total : IsTotalOrder row_cmp
rows_total = then_total (on_total (λ (r : UnicastRow). r.vid.value) nat_cmp_total) (on_total (λ (r : UnicastRow). r.mac.bytes) nat_list_cmp_total)

-- how a port towards a bridge comes about
record Route (g : Graph) (mask : ℕ) (me d : SystemId) (port : ℕ) : Type 0 where
  next : SystemId
  rest : List SystemId
  best : IsBest g mask me d (me ∷ next ∷ rest)
  leads : port_between g me next ≡ Some port

route : (g : Graph) (mask : ℕ) (me d : SystemId) (port : ℕ) → IsValid g → port_towards g mask me d ≡ Some port → Route g mask me d port
route g mask me d port valid h = by (best_of g mask me d) refl h
  where
    along : (p : List SystemId) → IsBest g mask me d p → option_and_then (λ next. port_between g me next) (slice_get p 1) ≡ Some port → Route g mask me d port
    along [] best k = absurd best.path
    along (x ∷ []) best k = cc
    along (x ∷ y ∷ rest) best k =
        record { next = y; rest = rest; best = subst (λ z. IsBest g mask me d (z ∷ y ∷ rest)) best.path.0 best; leads = k }

    by : (o : Option (List SystemId)) → best_of g mask me d ≡ o → option_and_then (λ next. port_between g me next) (option_and_then (λ path. slice_get path 1) o) ≡ Some port → Route g mask me d port
    by None e k = cc
    by (Some p) e k = along p ((best_of_some g mask me d p valid).0 e) k

routed : (g : Graph) (mask : ℕ) (me d : SystemId) (port : ℕ) → IsValid g → Route g mask me d port → port_towards g mask me d ≡ Some port
routed g mask me d port valid r =
    ap (λ o. option_and_then (λ next. port_between g me next) (option_and_then (λ path. slice_get path 1) o)) ((best_of_some g mask me d (me ∷ r.next ∷ r.rest) valid).1 r.best) ∙ r.leads

-- the row for a VID and a bridge, with this port
abbrev row_with : VidPlan → SystemId → ℕ → UnicastRow
row_with plan d port = record { vid = plan.vid; mac = d.mac; port = port }

-- what is known of a row for a VID and a bridge
record RowFor (g : Graph) (me : SystemId) (plan : VidPlan) (d : SystemId) (r : UnicastRow) : Type 0 where
  towards : port_towards g (mask_of plan.ect) me d ≡ Some r.port
  is : r ≡ row_with plan d r.port

row_for : (g : Graph) (me : SystemId) (plan : VidPlan) (d : SystemId) (r : UnicastRow) → unicast_row g me plan d ≡ Some r → RowFor g me plan d r
row_for g me plan d r h = by (port_towards g (mask_of plan.ect) me d) refl h
  where
    by : (o : Option ℕ) → port_towards g (mask_of plan.ect) me d ≡ o → option_map (λ port. row_with plan d port) o ≡ Some r → RowFor g me plan d r
    by None e k = cc
    by (Some port) e k =
        let same : row_with plan d port ≡ r = cc in
        record { towards = e ∙ ap (λ s. Some s.port) same; is = sym same ∙ ap (λ s. row_with plan d s.port) same }

has_among : (x : SystemId) (xs : List SystemId) → IsAmong x xs → Has x xs
has_among x [] h = h
has_among x (y ∷ ys) (inl e) = inl e
has_among x (y ∷ ys) (inr h) = inr (has_among x ys h)

-- what is known of a row for a VID
record RowOf (g : Graph) (me : SystemId) (plan : VidPlan) (r : UnicastRow) : Type 0 where
  to : SystemId
  way : Route g (mask_of plan.ect) me to r.port
  is : r ≡ row_with plan to r.port

row_of : (g : Graph) (me : SystemId) (plan : VidPlan) (r : UnicastRow) → IsValid g → Has r (rows_of_vid g me plan) → RowOf g me plan r
row_of g me plan r valid h =
    let from = filter_map_has (unicast_row g me plan) r (ascending_by system_cmp (systems_of g.bridges)) h in
    let row = row_for g me plan from.0 r from.2 in
    record { to = from.0; way = route g (mask_of plan.ect) me from.0 r.port valid row.towards; is = row.is }

of_row : (g : Graph) (me : SystemId) (plan : VidPlan) (r : UnicastRow) → IsValid g → RowOf g me plan r → Has r (rows_of_vid g me plan)
of_row g me plan r valid h =
    let row : unicast_row g me plan h.to ≡ Some r = ap (option_map (λ port. row_with plan h.to port)) (routed g (mask_of plan.ect) me h.to r.port valid h.way) ∙ ap Some (sym h.is) in
    let bridge = has_among h.to (systems_of g.bridges) (leads_bridge g me h.to (h.way.next ∷ h.way.rest) h.way.best.path.1) in
    has_filter_map (unicast_row g me plan) r (ascending_by system_cmp (systems_of g.bridges)) h.to (ascending_has system_cmp h.to (systems_of g.bridges) bridge) row

rows_are : (g : Graph) (me : SystemId) (vids : List VidPlan) (r : UnicastRow) → IsValid g → Contains (unicast_rows g me vids) r → IsUnicast g me vids r
unfolding unicast_rows
rows_are g me vids r valid h =
    let of_vid = flat_map_has (rows_of_vid g me) r (ascending_by vid_cmp vids) (has_from_contains _ r h) in
    let row = row_of g me of_vid.0 r valid of_vid.2 in
    record {
      plan = of_vid.0;
      to = row.to;
      next = row.way.next;
      rest = row.way.rest;
      planned = contains_from_has vids of_vid.0 (has_ascending vid_cmp of_vid.0 vids of_vid.1);
      best = row.way.best;
      vid = ap (λ s. s.vid) row.is;
      mac = ap (λ s. s.mac) row.is;
      port = row.way.leads;
    }

are_rows : (g : Graph) (me : SystemId) (vids : List VidPlan) (r : UnicastRow) → IsValid g → IsUnicast g me vids r → Contains (unicast_rows g me vids) r
unfolding unicast_rows
are_rows g me vids r valid h =
    let in_vid = of_row g me h.plan r valid (record {
      to = h.to;
      way = record { next = h.next; rest = h.rest; best = h.best; leads = h.port };
      is = λ i. record { vid = h.vid i; mac = h.mac i; port = r.port };
    }) in
    contains_from_has _ r (has_flat_map (rows_of_vid g me) h.plan r (ascending_by vid_cmp vids) (ascending_has vid_cmp h.plan vids (has_from_contains vids h.plan h.planned)) in_vid)

same_then : (n : ℕ) (o : Ordering) → ordering_then (nat_cmp n n) o ≡ o
same_then n o = ap (λ c. ordering_then c o) (tied_itself nat_cmp_total n)

vid_rows_ascend : (g : Graph) (me : SystemId) (p : VidPlan) → IsValid g → AscendsBy row_cmp (rows_of_vid g me p)
vid_rows_ascend g me p valid =
    Ascends-filter_map system_cmp row_cmp (unicast_row g me p) within (ascending_by system_cmp (systems_of g.bridges)) (Ascends-ascending_by system_cmp systems_total (systems_of g.bridges) (systems_apart (systems_of g.bridges) valid.apart))
  where
    within : (u v : SystemId) (r s : UnicastRow) → system_cmp u v ≡ Less → unicast_row g me p u ≡ Some r → unicast_row g me p v ≡ Some s → row_cmp r s ≡ Less
    within u v r s less hr hs =
        let er = (row_for g me p u r hr).is in
        let es = (row_for g me p v s hs).is in
        ap (λ z. row_cmp z s) er ∙ ap (λ z. row_cmp (row_with p u r.port) z) es ∙ same_then p.vid.value (system_cmp u v) ∙ less

pub vids_ascend : (vids : List VidPlan) → AreVidsApart vids → AscendsBy vid_cmp (ascending_by vid_cmp vids)
vids_ascend vids apart = Ascends-ascending_by vid_cmp vids_total vids (vids_apart vids apart)

rows_ascend : (g : Graph) (me : SystemId) (vids : List VidPlan) → IsValid g → AreVidsApart vids → AscendsBy row_cmp (unicast_rows g me vids)
unfolding unicast_rows
rows_ascend g me vids valid apart =
    Ascends-flat_map vid_cmp row_cmp (rows_of_vid g me) (λ p. vid_rows_ascend g me p valid) across (ascending_by vid_cmp vids) (vids_ascend vids apart)
  where
    vid_is : (p : VidPlan) (r : UnicastRow) → Has r (rows_of_vid g me p) → r.vid.value ≡ p.vid.value
    vid_is p r i =
        ap (λ z. z.vid.value) (row_of g me p r valid i).is

    across : (p q : VidPlan) (r s : UnicastRow) → vid_cmp p q ≡ Less → Has r (rows_of_vid g me p) → Has s (rows_of_vid g me q) → row_cmp r s ≡ Less
    across p q r s less i j =
        ap (λ n. ordering_then (nat_cmp n s.vid.value) (mac_cmp r.mac s.mac)) (vid_is p r i) ∙ ap (λ n. ordering_then (nat_cmp p.vid.value n) (mac_cmp r.mac s.mac)) (vid_is q s j) ∙ ap (λ o. ordering_then o (mac_cmp r.mac s.mac)) less

pub rows_are_table : RowsAreTable
rows_are_table g me vids valid plans = record {
  members = λ r. (rows_are g me vids r valid, are_rows g me vids r valid);
  ascends = rows_ascend g me vids valid plans.apart;
}

pub table_is_one : TableIsOne
table_is_one g me vids rows others t u =
    Ascends-one row_cmp rows_total rows others t.ascends u.ascends (λ r i. has_from_contains others r ((u.members r).1 ((t.members r).0 (contains_from_has rows r i)))) (λ r i. has_from_contains rows r ((t.members r).1 ((u.members r).0 (contains_from_has others r i))))

-- ---- the same rows

-- a way in one graph is one in another where best paths and the ports of `me` are the same
same_route : (g h : Graph) (mask : ℕ) (me d : SystemId) (port : ℕ) → IsValid g → IsValid h → best_of g mask me d ≡ best_of h mask me d → ((y : SystemId) → IsBridge g me → port_between g me y ≡ port_between h me y) → Route g mask me d port → Route h mask me d port
same_route g h mask me d port v w best ports r =
    let p : List SystemId = me ∷ r.next ∷ r.rest in
    record {
      next = r.next;
      rest = r.rest;
      best = (best_of_some h mask me d p w).0 (sym best ∙ (best_of_some g mask me d p v).1 r.best);
      leads = sym (ports r.next (leads_start g me d (r.next ∷ r.rest) r.best.path.1)) ∙ r.leads;
    }

-- what the rows of `me` depend on
record AreSeenAlike (g h : Graph) (me : SystemId) : Type 0 where
  best : (mask : ℕ) (d : SystemId) → best_of g mask me d ≡ best_of h mask me d
  ports : (y : SystemId) → IsBridge g me → port_between g me y ≡ port_between h me y

rows_there : (g h : Graph) (me : SystemId) (plan : VidPlan) (r : UnicastRow) → IsValid g → IsValid h → AreSeenAlike g h me → Has r (rows_of_vid g me plan) → Has r (rows_of_vid h me plan)
rows_there g h me plan r v w s i =
    let row = row_of g me plan r v i in
    of_row h me plan r w (record { to = row.to; way = same_route g h (mask_of plan.ect) me row.to r.port v w (s.best (mask_of plan.ect) row.to) s.ports row.way; is = row.is })

vid_rows_same : (g h : Graph) (me : SystemId) (plan : VidPlan) → IsValid g → IsValid h → AreSeenAlike g h me → AreSeenAlike h g me → rows_of_vid g me plan ≡ rows_of_vid h me plan
vid_rows_same g h me plan v w there back =
    Ascends-one row_cmp rows_total (rows_of_vid g me plan) (rows_of_vid h me plan) (vid_rows_ascend g me plan v) (vid_rows_ascend h me plan w) (λ r. rows_there g h me plan r v w there) (λ r. rows_there h g me plan r w v back)

rows_same : (g h : Graph) (me : SystemId) (vids : List VidPlan) → IsValid g → IsValid h → AreSeenAlike g h me → AreSeenAlike h g me → unicast_rows g me vids ≡ unicast_rows h me vids
unfolding unicast_rows
rows_same g h me vids v w there back = λ i. flat_map (λ p. vid_rows_same g h me p v w there back i) (ascending_by vid_cmp vids)

seen_alike : (g h : Graph) (me : SystemId) → IsValid g → IsValid h → LookAlike g h me → AreSeenAlike g h me
seen_alike g h me v w s = record {
  best = λ mask d. same_best g h mask me d v w s;
  ports = λ y i. s.ports me y (reached_itself g me i);
}

pub same_rows : SameRows
same_rows g h me vids v w s = rows_same g h me vids v w (seen_alike g h me v w s) (seen_alike h g me w v (looks_back g h me v s).0)

-- the same VIDs in another order
vids_same : (g : Graph) (me : SystemId) (vids others : List VidPlan) → AreVidsApart vids → AreVidsApart others → ((p : VidPlan) → Contains vids p ↔ Contains others p) → unicast_rows g me vids ≡ unicast_rows g me others
unfolding unicast_rows
vids_same g me vids others a b same =
    ap (flat_map (rows_of_vid g me)) (Ascends-one vid_cmp vids_total (ascending_by vid_cmp vids) (ascending_by vid_cmp others) (vids_ascend vids a) (vids_ascend others b)
    (λ p i. ascending_has vid_cmp p others (has_from_contains others p ((same p).0 (contains_from_has vids p (has_ascending vid_cmp p vids i)))))
    (λ p i. ascending_has vid_cmp p vids (has_from_contains vids p ((same p).1 (contains_from_has others p (has_ascending vid_cmp p others i))))))

alike_seen : (g h : Graph) (me : SystemId) → IsValid g → IsValid h → AreAlike g h → AreSeenAlike g h me
alike_seen g h me v w s = record {
  best = λ mask d. alike.order_says_nothing g h mask me d v w s;
  ports = λ y i. (same_ports g h me y v w s).1;
}

pub order_says_nothing : OrderSaysNothingOfRows
order_says_nothing g h me vids others v w s a b same =
    rows_same g h me vids v w (alike_seen g h me v w s) (alike_seen h g me w v (alike.alike_back g h s)) ∙ vids_same h me vids others a b same
