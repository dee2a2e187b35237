-- Frames go one path: the laws of `OnePath`.
use Rattle.std.specs.Prelude.{ℕ, ◌≡◌, ◌≢◌, ◌⊎◌, ◌==◌, Bool, true, false, ◌&&◌, ◌||◌, cond, if◌then◌else◌, List, [], ◌∷◌, ◌++◌, Some, IsSome, option_map, find, reverse}
use Rattle.std.specs.Ordering.{nat_cmp, ordering_then}
use Rattle.std.specs.Str.{bytes_eq}
use Rattle.std.specs.declared.cmp.Ordering.{Ordering}
use Rattle.std.proofs.Common.{refl, sym, ap, ◌∙◌, subst, inl, inr, true≢false, append_assoc, Less, Equal, eq-eqb, eqb-true}
use Rattle.std.proofs.lemmas.Bool.{and_parts}
use Rattle.std.proofs.lemmas.Cmp.{tied_itself}
use Rattle.std.proofs.lemmas.List.{reverse-append}
use Rattle.std.proofs.lemmas.Slice.Eq.{bytes_eq-Decides}
use Rattle.spb_types.specs.Address.{same_system, group_address}
use Rattle.spb_types.specs.Ect.{mask_of}
use Rattle.spb_types.specs.Graph.{IsValid, IsValidFor, ArePortsApart, edges_at, joins, port_at, port_among, port_between, cost_among, cost_between}
use Rattle.spb_types.specs.Ports.{has}
use Rattle.spb_types.specs.Tables.{is_row_for, unicast_in, is_group_row_for, group_in, ports_of_row}
use Rattle.spb_types.specs.declared.address.Mac.{Mac}
use Rattle.spb_types.specs.declared.address.SystemId.{SystemId}
use Rattle.spb_types.specs.declared.graph.Edge.{Edge}
use Rattle.spb_types.specs.declared.graph.Graph.{Graph}
use Rattle.spb_types.specs.declared.service.Vid.{Vid}
use Rattle.spb_types.specs.declared.tables.UnicastRow.{UnicastRow}
use Rattle.spb_types.specs.declared.tables.GroupRow.{GroupRow}
use Rattle.ect_trees.specs.Best.{IsBest}
use Rattle.ect_trees.specs.Path.{Leads, IsPath}
use Rattle.ect_trees.proofs.Among.{same_is}
use Rattle.ect_trees.proofs.Least.{best_front, best_reverse}
use Rattle.ect_trees.proofs.Members.{Has, has_from_contains}
use Rattle.fdb_build.specs.Tables.{mac_cmp, row_cmp, unicast_rows, AscendsBy, IsUnicast}
use Rattle.fdb_build.specs.Groups.{Follows, group_cmp, group_rows}
use Rattle.fdb_build.specs.OnePath.{OnePath, SameWayBack, GroupLeadsOn}
use Rattle.fdb_build.proofs.AscendLemmas.{All-has}
use Rattle.fdb_build.proofs.GroupLemmas.{groups_total, group_rows_are_table}
use Rattle.fdb_build.proofs.TableLemmas.{rows_total, rows_are_table}

-- ---- the first row that passes

-- in an ascending list, an item that passes a test is the first one, where what passes ties with it
pub find_ascending : {X : Type 0} (cmp : X → X → Ordering) (test : X → Bool) (x : X) (xs : List X) → ((y : X) → test y ≡ true → cmp y x ≡ Equal) → test x ≡ true → AscendsBy cmp xs → Has x xs → find test xs ≡ Some x
find_ascending cmp test x [] ties here up h = absurd h
find_ascending cmp test x (y ∷ ys) ties here up (inl same) = ap (λ b. cond b (Some y) (find test ys)) (ap test (sym same) ∙ here) ∙ ap Some (sym same)
find_ascending cmp test x (y ∷ ys) ties here up (inr h) = by (test y) refl (find_ascending cmp test x ys ties here up.1 h)
  where
    by : (b : Bool) → test y ≡ b → find test ys ≡ Some x → cond b (Some y) (find test ys) ≡ Some x
    by true e r = let no : Less ≡ Equal = sym (All-has (λ z. cmp y z ≡ Less) ys up.0 x h) ∙ ties y e in absurd (cc)
    by false e r = r

both : (b c : Bool) → b ≡ true → c ≡ true → (b && c) ≡ true
both b c e f = ap (λ x. x && c) e ∙ f

pub names : (vid : Vid) (mac : Mac) (v : Vid) (m : Mac) → ((v.value == vid.value) && bytes_eq m.bytes mac.bytes) ≡ true → (v ≡ vid) × (m ≡ mac)
names vid mac v m h =
    let parts = and_parts (v.value == vid.value) _ h in
    let number : v.value ≡ vid.value = eqb-true v.value vid.value parts.0 in
    let bytes : m.bytes ≡ mac.bytes = (bytes_eq-Decides m.bytes mac.bytes).0 parts.1 in
    (λ i. record { value = number i }, λ i. record { bytes = bytes i })

same_names : (vid : Vid) (mac : Mac) → ((vid.value == vid.value) && bytes_eq mac.bytes mac.bytes) ≡ true
same_names vid mac = both _ _ (eq-eqb vid.value vid.value refl) ((bytes_eq-Decides mac.bytes mac.bytes).1 refl)

found_unicast : (rows : List UnicastRow) (r : UnicastRow) → AscendsBy row_cmp rows → Has r rows → unicast_in rows r.vid r.mac ≡ Some r.port
found_unicast rows r up h = ap (option_map (λ (s : UnicastRow). s.port)) (find_ascending row_cmp (is_row_for r.vid r.mac) r rows ties (same_names r.vid r.mac) up h)
  where
    ties : (s : UnicastRow) → is_row_for r.vid r.mac s ≡ true → row_cmp s r ≡ Equal
    ties s e =
        let n = names r.vid r.mac s.vid s.mac e in
        ap (λ (v : Vid). ordering_then (nat_cmp v.value r.vid.value) (mac_cmp s.mac r.mac)) n.0 ∙ (ap (λ m. ordering_then (nat_cmp r.vid.value r.vid.value) (mac_cmp m r.mac)) n.1 ∙ tied_itself rows_total r)

pub found_group : (rows : List GroupRow) (r : GroupRow) → AscendsBy group_cmp rows → Has r rows → group_in rows r.vid r.mac ≡ r.ports
found_group rows r up h = ap ports_of_row (find_ascending group_cmp (is_group_row_for r.vid r.mac) r rows ties (same_names r.vid r.mac) up h)
  where
    ties : (s : GroupRow) → is_group_row_for r.vid r.mac s ≡ true → group_cmp s r ≡ Equal
    ties s e =
        let n = names r.vid r.mac s.vid s.mac e in
        ap (λ (v : Vid). ordering_then (nat_cmp v.value r.vid.value) (mac_cmp s.mac r.mac)) n.0 ∙ (ap (λ m. ordering_then (nat_cmp r.vid.value r.vid.value) (mac_cmp m r.mac)) n.1 ∙ tied_itself groups_total r)

-- ---- ports of their own

-- an edge at x, to y, by this port
record EdgeTo (es : List Edge) (x y : SystemId) (p : ℕ) : Type 0 where
  edge : Edge
  here : Has edge (edges_at es x)
  joined : joins edge x y ≡ true
  port : port_at edge x ≡ p

joins_either : (a b c d : Bool) → ((a && b) || (c && d)) ≡ true → (a || d) ≡ true
joins_either true b c d h = refl
joins_either false b true d h = h
joins_either false b false d h = absurd (true≢false (sym h))

edge_to : (es : List Edge) (x y : SystemId) (p : ℕ) → port_among es x y ≡ Some p → EdgeTo es x y p
edge_to [] x y p h = cc
edge_to (e ∷ es) x y p h = by (joins e x y) refl (same_system e.a x || same_system e.b x) refl h (edge_to es x y p)
  where
    by : (b : Bool) → joins e x y ≡ b → (t : Bool) → (same_system e.a x || same_system e.b x) ≡ t → (if b then Some (port_at e x) else port_among es x y) ≡ Some p → (port_among es x y ≡ Some p → EdgeTo es x y p) → EdgeTo (e ∷ es) x y p
    by true j true t k r =
        let port : port_at e x ≡ p = cc in
        record { edge = e; here = subst (λ b. Has e (if b then e ∷ edges_at es x else edges_at es x)) (sym t) (inl refl); joined = j; port = port }
    by true j false t k r = absurd (true≢false (sym (joins_either (same_system e.a x) (same_system e.b y) (same_system e.a y) (same_system e.b x) j) ∙ t))
    by false j true t k r = let o = r k in record { edge = o.edge; here = subst (λ b. Has o.edge (if b then e ∷ edges_at es x else edges_at es x)) (sym t) (inr o.here); joined = o.joined; port = o.port }
    by false j false t k r = let o = r k in record { edge = o.edge; here = subst (λ b. Has o.edge (if b then e ∷ edges_at es x else edges_at es x)) (sym t) o.here; joined = o.joined; port = o.port }

-- edges with one port at x are one
one_edge : (es : List Edge) (x : SystemId) (e f : Edge) → ArePortsApart es x → Has e es → Has f es → port_at e x ≡ port_at f x → e ≡ f
one_edge [] x e f apart h k same = absurd h
one_edge (d ∷ ds) x e f apart (inl h) (inl k) same = h ∙ sym k
one_edge (d ∷ ds) x e f apart (inl h) (inr k) same = absurd (All-has (λ c. port_at d x ≢ port_at c x) ds apart.0 f k (ap (λ c. port_at c x) (sym h) ∙ same))
one_edge (d ∷ ds) x e f apart (inr h) (inl k) same = absurd (All-has (λ c. port_at d x ≢ port_at c x) ds apart.0 e h (ap (λ c. port_at c x) (sym k) ∙ sym same))
one_edge (d ∷ ds) x e f apart (inr h) (inr k) same = one_edge ds x e f apart.1 h k same

in_edges : (es : List Edge) (x : SystemId) (e : Edge) → Has e (edges_at es x) → Has e es
in_edges [] x e h = absurd h
in_edges (d ∷ ds) x e h = by (same_system d.a x || same_system d.b x) h (in_edges ds x e)
  where
    by : (b : Bool) → Has e (if b then d ∷ edges_at ds x else edges_at ds x) → (Has e (edges_at ds x) → Has e ds) → Has e (d ∷ ds)
    by true (inl k) r = inl k
    by true (inr k) r = inr (r k)
    by false k r = inr (r k)

-- the ends of an edge that joins x and y
ends : (e : Edge) (x y : SystemId) → joins e x y ≡ true → ((e.a ≡ x) × (e.b ≡ y)) ⊎ ((e.a ≡ y) × (e.b ≡ x))
ends e x y h = by (same_system e.a x && same_system e.b y) refl h
  where
    by : (b : Bool) → (same_system e.a x && same_system e.b y) ≡ b → (b || (same_system e.a y && same_system e.b x)) ≡ true → ((e.a ≡ x) × (e.b ≡ y)) ⊎ ((e.a ≡ y) × (e.b ≡ x))
    by true k l = let p = and_parts (same_system e.a x) (same_system e.b y) k in inl (same_is e.a x p.0, same_is e.b y p.1)
    by false k l = let p = and_parts (same_system e.a y) (same_system e.b x) l in inr (same_is e.a y p.0, same_is e.b x p.1)

-- who joins x by one edge is one
one_end : (e : Edge) (x y z : SystemId) → joins e x y ≡ true → joins e x z ≡ true → y ≡ z
one_end e x y z h k = by (ends e x y h) (ends e x z k)
  where
    by : ((e.a ≡ x) × (e.b ≡ y)) ⊎ ((e.a ≡ y) × (e.b ≡ x)) → ((e.a ≡ x) × (e.b ≡ z)) ⊎ ((e.a ≡ z) × (e.b ≡ x)) → y ≡ z
    by (inl p) (inl q) = sym p.1 ∙ q.1
    by (inl p) (inr q) = sym p.1 ∙ (q.1 ∙ (sym p.0 ∙ q.0))
    by (inr p) (inl q) = sym p.0 ∙ (q.0 ∙ (sym p.1 ∙ q.1))
    by (inr p) (inr q) = sym p.0 ∙ q.0

pub one_neighbour : (g : Graph) (x y z : SystemId) (p : ℕ) → IsValidFor g x → port_between g x y ≡ Some p → port_between g x z ≡ Some p → y ≡ z
one_neighbour g x y z p valid h k =
    let one = edge_to g.edges x y p h in
    let other = edge_to g.edges x z p k in
    let same : one.edge ≡ other.edge = one_edge (edges_at g.edges x) x one.edge other.edge valid.ports_apart one.here other.here (one.port ∙ sym other.port) in
    one_end one.edge x y z one.joined (subst (λ e. joins e x z ≡ true) (sym same) other.joined)

-- bridges joined by an edge have ports
pub port_there : (es : List Edge) (x y : SystemId) → IsSome (cost_among es x y) → (p : ℕ) × (port_among es x y ≡ Some p)
port_there [] x y h = cc
port_there (e ∷ es) x y h = by (joins e x y) h (port_there es x y)
  where
    by : (b : Bool) → IsSome (if b then Some e.cost else cost_among es x y) → (IsSome (cost_among es x y) → (p : ℕ) × (port_among es x y ≡ Some p)) → (p : ℕ) × ((if b then Some (port_at e x) else port_among es x y) ≡ Some p)
    by true k r = (port_at e x, refl)
    by false k r = r k

-- ---- the path back

reverse_two : (l r : List SystemId) (m c : SystemId) → reverse (l ++ m ∷ c ∷ r) ≡ reverse r ++ c ∷ m ∷ reverse l
reverse_two l r m c =
    reverse-append l (m ∷ c ∷ r) ∙ (ap (λ t. t ++ reverse l) (reverse-append (m ∷ c ∷ []) r) ∙ append_assoc (reverse r) (c ∷ m ∷ []) (reverse l))

pub same_way_back : SameWayBack
same_way_back g mask s r m c f = record {
  before = reverse f.after;
  after = reverse f.before;
  best = subst (λ p. IsBest g mask r s p) (reverse_two f.before f.after m c) (best_reverse g mask s r (f.before ++ m ∷ c ∷ f.after) f.best);
}

-- the best path to s from who follows m
pub back_from : (g : Graph) (mask : ℕ) (s r m c : SystemId) → IsValid g → (f : Follows g mask s r m c) → IsBest g mask c s (c ∷ m ∷ reverse f.before)
back_from g mask s r m c valid f =
    let path : IsBest g mask s r ((f.before ++ m ∷ []) ++ c ∷ f.after) = subst (λ p. IsBest g mask s r p) (sym (append_assoc f.before (m ∷ []) (c ∷ f.after))) f.best in
    let front : IsBest g mask s c ((f.before ++ m ∷ []) ++ c ∷ []) = best_front g mask s r c (f.before ++ m ∷ []) f.after valid path in
    let there : IsBest g mask s c (f.before ++ m ∷ c ∷ []) = subst (λ p. IsBest g mask s c p) (append_assoc f.before (m ∷ []) (c ∷ [])) front in
    subst (λ p. IsBest g mask c s p) (reverse_two f.before [] m c) (best_reverse g mask s c (f.before ++ m ∷ c ∷ []) there)

first_joined : (g : Graph) (a b x : SystemId) (xs : List SystemId) → IsPath g a b (a ∷ x ∷ xs) → IsSome (cost_between g a x)
first_joined g a b x xs w = w.1.1

pub one_path : OnePath
one_path g vids plan s r m c valid plans planned f =
    let mask : ℕ = mask_of plan.ect in
    let best : IsBest g mask c s (c ∷ m ∷ reverse f.before) = back_from g mask s r m c valid.valid f in
    let port = port_there g.edges c m (first_joined g c s m (reverse f.before) best.path) in
    let row : UnicastRow = record { vid = plan.vid; mac = s.mac; port = port.0 } in
    let is : IsUnicast g c vids row = record { plan = plan; to = s; next = m; rest = reverse f.before; planned = planned; best = best; vid = refl; mac = refl; port = port.1 } in
    let table = rows_are_table g c vids valid.valid plans in
    let found : unicast_in (unicast_rows g c vids) plan.vid s.mac ≡ Some port.0 = found_unicast (unicast_rows g c vids) row table.ascends (has_from_contains (unicast_rows g c vids) row ((table.members row).1 is)) in
    record {
      port = port.0;
      towards = port.1;
      back = found;
      accepts = found;
      alone = λ x p there comes. (let same : Some p ≡ Some port.0 = sym comes ∙ found in one_neighbour g c x m p valid there (port.1 ∙ sym same));
    }

-- ---- the group row

leads_joined : (g : Graph) (a b m c : SystemId) (l r : List SystemId) → Leads g a (l ++ m ∷ c ∷ r) b → IsSome (cost_between g m c)
leads_joined g a b m c [] r w = w.2.1
leads_joined g a b m c (x ∷ l) r w = leads_joined g x b m c l r w.2

pub path_joined : (g : Graph) (a b m c : SystemId) (l r : List SystemId) → IsPath g a b (l ++ m ∷ c ∷ r) → IsSome (cost_between g m c)
path_joined g a b m c [] r w = w.1.1
path_joined g a b m c (x ∷ l) r w = leads_joined g x b m c l r w.1

pub group_leads_on : GroupLeadsOn
group_leads_on g vids plan s isid r m c valid plans planned bridge sends takes other f =
    let port = port_there g.edges m c (path_joined g s.id.system r m c f.before f.after f.best.path) in
    let mac : Mac = group_address s.source.value isid.value in
    let rows : List GroupRow = group_rows g m vids in
    let table = group_rows_are_table g m vids valid plans in
    let found = table.all plan.vid mac port.0 (record {
      plan = plan;
      planned = planned;
      vid_is = refl;
      leads = record {
        source = s;
        isid = isid;
        next = c;
        bridge = bridge;
        address = refl;
        sends = sends;
        serves = record { receiver = r; other = other; takes = takes; follows = f };
        port_is = port.1;
      };
    }) in
    let row : GroupRow = found.0 in
    let listed : has row.ports port.0 ≡ true = (table.ports row found.1 port.0).1 (record {
      plan = plan;
      planned = planned;
      vid_is = found.2;
      leads = record {
        source = s;
        isid = isid;
        next = c;
        bridge = bridge;
        address = found.3;
        sends = sends;
        serves = record { receiver = r; other = other; takes = takes; follows = f };
        port_is = port.1;
      };
    }) in
    let there : group_in rows row.vid row.mac ≡ row.ports = found_group rows row table.ascends (has_from_contains rows row found.1) in
    (port.0, port.1, ap (λ (v : Vid). has (group_in rows v mac) port.0) (sym found.2) ∙ (ap (λ a. has (group_in rows row.vid a) port.0) (sym found.3) ∙ (ap (λ t. has t port.0) there ∙ listed)))
