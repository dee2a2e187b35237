-- Group trees: the laws of `GroupTrees`.
use Rattle.std.specs.Prelude.{ℕ, suc, ◌≡◌, ◌≢◌, ◌⊎◌, ◌+◌, ◌*◌, ◌/◌, ◌%◌, ◌^◌, ◌<◌, ◌≤◌, Bool, true, false, ◌||◌, cond, if◌then◌else◌, List, [], ◌∷◌, ◌++◌, Some, option_map, unwrap_or, find, reverse, slice_get}
use Rattle.std.specs.List.{AllByRecursion}
use Rattle.std.proofs.Common.{refl, sym, ap, ◌∙◌, subst, inl, inr, true≢false, append_assoc, arith, get_or}
use Rattle.std.proofs.lemmas.Option.{same_Some}
use Rattle.spb_types.specs.Address.{same_system, group_address, GroupAddressesDiffer}
use Rattle.spb_types.specs.Ect.{mask_of}
use Rattle.spb_types.specs.Graph.{IsAmong, IsBridge, IsValid, IsValidFor, ArePortsApart, IsEdgeOf, edges_at, port_at, systems_of, port_between}
use Rattle.spb_types.specs.Ports.{has}
use Rattle.spb_types.specs.Service.{AreVidsApart}
use Rattle.spb_types.specs.Tables.{is_group_row_for, group_in, ports_of_row}
use Rattle.spb_types.specs.declared.address.Mac.{Mac}
use Rattle.spb_types.specs.declared.address.SystemId.{SystemId}
use Rattle.spb_types.specs.declared.graph.Edge.{Edge}
use Rattle.spb_types.specs.declared.graph.Graph.{Graph}
use Rattle.spb_types.specs.declared.graph.GraphBridge.{GraphBridge}
use Rattle.spb_types.specs.declared.limits.TheConstants.{GREATEST_ISID, MOST_PORTS, SOURCE_IDS}
use Rattle.spb_types.specs.declared.service.Isid.{Isid}
use Rattle.spb_types.specs.declared.service.Vid.{Vid}
use Rattle.spb_types.specs.declared.service.VidPlan.{VidPlan}
use Rattle.spb_types.specs.declared.tables.GroupRow.{GroupRow}
use Rattle.spb_types.proofs.PortLemmas.{has-no_ports}
use Rattle.ect_trees.specs.Best.{IsBest}
use Rattle.ect_trees.specs.Path.{Leads, IsPath, hops_of}
use Rattle.ect_trees.proofs.Among.{same_is, among_or_not, among_right, among_split}
use Rattle.ect_trees.proofs.Exists.{best_of_some, best_exists}
use Rattle.ect_trees.proofs.Least.{best_front, best_unique}
use Rattle.ect_trees.proofs.Members.{Has, has_from_contains, contains_from_has}
use Rattle.ect_trees.proofs.Reached.{entry_bridge, leads_start, path_reached}
use Rattle.ect_trees.proofs.Steps.{best_to_itself}
use Rattle.ect_trees.proofs.Walks.{hops-snoc, path_back, path_front, path_single, path_snoc}
use Rattle.fdb_build.specs.Groups.{Receives, Follows, IsGroupPort, IsGroupTable, group_rows}
use Rattle.fdb_build.specs.GroupTrees.{IsService, FollowsOnTree, IsOnTree, LeadsDown, depth, RowsLeadOn, RowsLeadToFollowers, FollowersAccept, NothingElsewhere, TreeHangsTogether, ReceiversAreOnTree}
use Rattle.fdb_build.proofs.AscendLemmas.{All-has}
use Rattle.fdb_build.proofs.GroupLemmas.{group_rows_are_table}
use Rattle.fdb_build.proofs.OnePathLemmas.{back_from, found_group, names, one_neighbour, one_path, path_joined, port_there}

-- ---- a group address tells its source and its service

addresses_differ : GroupAddressesDiffer
addresses_differ s t i j sl tl il jl e =
    let s0 : s / 2 ^ 16 % 16 * 16 + 3 ≡ t / 2 ^ 16 % 16 * 16 + 3 = ap (λ (m : Mac). get_or m.bytes 0 0) e in
    let s1 : s / 256 % 256 ≡ t / 256 % 256 = ap (λ (m : Mac). get_or m.bytes 1 0) e in
    let s2 : s % 256 ≡ t % 256 = ap (λ (m : Mac). get_or m.bytes 2 0) e in
    let i0 : i / 2 ^ 16 % 256 ≡ j / 2 ^ 16 % 256 = ap (λ (m : Mac). get_or m.bytes 3 0) e in
    let i1 : i / 256 % 256 ≡ j / 256 % 256 = ap (λ (m : Mac). get_or m.bytes 4 0) e in
    let i2 : i % 256 ≡ j % 256 = ap (λ (m : Mac). get_or m.bytes 5 0) e in
    (omega (arith, sl, tl, s0, s1, s2), omega (arith, il, jl, i0, i1, i2))

-- plans for one VID are one
one_plan : (ps : List VidPlan) (p q : VidPlan) → AreVidsApart ps → Has p ps → Has q ps → p.vid.value ≡ q.vid.value → p ≡ q
one_plan [] p q apart h k e = absurd h
one_plan (o ∷ ps) p q apart (inl h) (inl k) e = h ∙ sym k
one_plan (o ∷ ps) p q apart (inl h) (inr k) e = absurd (All-has (λ r. o.vid.value ≢ r.vid.value) ps apart.0 q k (ap (λ (r : VidPlan). r.vid.value) (sym h) ∙ e))
one_plan (o ∷ ps) p q apart (inr h) (inl k) e = absurd (All-has (λ r. o.vid.value ≢ r.vid.value) ps apart.0 p h (ap (λ (r : VidPlan). r.vid.value) (sym k) ∙ sym e))
one_plan (o ∷ ps) p q apart (inr h) (inr k) e = one_plan ps p q apart.1 h k e

-- ---- the ports of a row

-- the row that is found for a VID and an address
record RowOf (rows : List GroupRow) (vid : Vid) (mac : Mac) (p : ℕ) : Type 0 where
  row : GroupRow
  there : Has row rows
  vid_is : row.vid ≡ vid
  mac_is : row.mac ≡ mac
  port : has row.ports p ≡ true

row_of : (rows : List GroupRow) (vid : Vid) (mac : Mac) (p : ℕ) → has (group_in rows vid mac) p ≡ true → RowOf rows vid mac p
row_of [] vid mac p h = absurd (true≢false (sym h ∙ has-no_ports p))
row_of (r ∷ rows) vid mac p h = by (is_group_row_for vid mac r) refl h (row_of rows vid mac p)
  where
    by : (b : Bool) → is_group_row_for vid mac r ≡ b → has (ports_of_row (cond b (Some r) (find (is_group_row_for vid mac) rows))) p ≡ true → (has (group_in rows vid mac) p ≡ true → RowOf rows vid mac p) → RowOf (r ∷ rows) vid mac p
    by true e k rest = let n = names vid mac r.vid r.mac e in record { row = r; there = inl refl; vid_is = n.0; mac_is = n.1; port = k }
    by false e k rest = let o = rest k in record { row = o.row; there = inr o.there; vid_is = o.vid_is; mac_is = o.mac_is; port = o.port }

-- the ports that a group table has for a VID and an address are just those of the definition
port_is : (g : Graph) (me : SystemId) (vids : List VidPlan) (rows : List GroupRow) (vid : Vid) (mac : Mac) (p : ℕ) → IsGroupTable g me vids rows → has (group_in rows vid mac) p ≡ true → IsGroupPort g me vids vid mac p
port_is g me vids rows vid mac p table h =
    let o = row_of rows vid mac p h in
    subst (λ v. IsGroupPort g me vids v mac p) o.vid_is (subst (λ m. IsGroupPort g me vids o.row.vid m p) o.mac_is ((table.ports o.row (contains_from_has rows o.row o.there) p).0 o.port))

is_port : (g : Graph) (me : SystemId) (vids : List VidPlan) (rows : List GroupRow) (vid : Vid) (mac : Mac) (p : ℕ) → IsGroupTable g me vids rows → IsGroupPort g me vids vid mac p → has (group_in rows vid mac) p ≡ true
is_port g me vids rows vid mac p table i =
    let found = table.all vid mac p i in
    let row : GroupRow = found.0 in
    let here : IsGroupPort g me vids row.vid row.mac p = subst (λ v. IsGroupPort g me vids v row.mac p) (sym found.2) (subst (λ m. IsGroupPort g me vids vid m p) (sym found.3) i) in
    let listed : has row.ports p ≡ true = (table.ports row found.1 p).1 here in
    let there : group_in rows row.vid row.mac ≡ row.ports = found_group rows row table.ascends (has_from_contains rows row found.1) in
    ap (λ v. has (group_in rows v mac) p) (sym found.2) ∙ (ap (λ a. has (group_in rows row.vid a) p) (sym found.3) ∙ (ap (λ t. has t p) there ∙ listed))

-- ---- a graph that is valid for each of its bridges

valid_graph : (g : Graph) (vids : List VidPlan) (plan : VidPlan) (source : GraphBridge) (isid : Isid) → IsService g vids plan source isid → IsValid g
valid_graph g vids plan source isid s = (s.valid source.id.system (entry_bridge g.bridges source (has_from_contains g.bridges source s.bridge))).valid

no_edges_at : (g : Graph) (es : List Edge) (x : SystemId) → AllByRecursion (λ e. IsEdgeOf g e) es → (IsBridge g x → ⊥) → edges_at es x ≡ []
no_edges_at g [] x edges off = refl
no_edges_at g (e ∷ es) x edges off = by (same_system e.a x) refl (same_system e.b x) refl (no_edges_at g es x edges.1 off)
  where
    by : (b : Bool) → same_system e.a x ≡ b → (c : Bool) → same_system e.b x ≡ c → edges_at es x ≡ [] → (if b || c then e ∷ edges_at es x else edges_at es x) ≡ []
    by true h c k r = absurd (off (subst (IsBridge g) (same_is e.a x h) edges.0.from))
    by false h true k r = absurd (off (subst (IsBridge g) (same_is e.b x k) edges.0.to))
    by false h false k r = r

-- it is so for any other system too, at which it has off edge
valid_at : (g : Graph) (vids : List VidPlan) (plan : VidPlan) (source : GraphBridge) (isid : Isid) (x : SystemId) → IsService g vids plan source isid → IsValidFor g x
valid_at g vids plan source isid x s = by (among_or_not x (systems_of g.bridges))
  where
    by : IsBridge g x ⊎ (IsBridge g x → ⊥) → IsValidFor g x
    by (inl i) = s.valid x i
    by (inr off) =
        let valid : IsValid g = valid_graph g vids plan source isid s in
        let none : edges_at g.edges x ≡ [] = no_edges_at g g.edges x valid.edges off in
        record { valid = valid; ports = subst (λ es. AllByRecursion (λ e. (1 ≤ port_at e x) × (port_at e x ≤ MOST_PORTS)) es) (sym none) tt; ports_apart = subst (λ es. ArePortsApart es x) (sym none) tt }

-- ---- the row of a source and a service

follows_by : (g : Graph) (vids : List VidPlan) (plan : VidPlan) (source : GraphBridge) (isid : Isid) (m : SystemId) (p : ℕ) → IsService g vids plan source isid → IsGroupPort g m vids plan.vid (group_address source.source.value isid.value) p → (c : SystemId) × FollowsOnTree g plan source isid m c × (port_between g m c ≡ Some p)
follows_by g vids plan source isid m p s i =
    let l = i.leads in
    let high : isid.value ≤ GREATEST_ISID = subst (λ (i : Isid). i.value ≤ GREATEST_ISID) s.sends.in_service (s.isids s.sends.member s.sends.there) in
    let other_high : l.isid.value ≤ GREATEST_ISID = subst (λ (n : Isid). n.value ≤ GREATEST_ISID) l.sends.in_service (s.isids l.sends.member l.sends.there) in
    let low : source.source.value < SOURCE_IDS = s.sources source s.bridge in
    let other_low : l.source.source.value < SOURCE_IDS = s.sources l.source l.bridge in
    let same = addresses_differ l.source.source.value source.source.value l.isid.value isid.value (omega (arith, other_low)) (omega (arith, low)) (omega (arith, other_high)) (omega (arith, high)) (sym l.address) in
    let one_source : l.source ≡ source = s.apart l.source source l.bridge s.bridge same.0 in
    let service : l.isid.value ≡ isid.value = same.1 in
    let one_isid : l.isid ≡ isid = λ k. record { value = service k } in
    let plans : i.plan ≡ plan = one_plan vids i.plan plan s.plans.apart (has_from_contains vids i.plan i.planned) (has_from_contains vids plan s.planned) (ap (λ (v : Vid). v.value) (sym i.vid_is)) in
    let there : FollowsOnTree g i.plan l.source l.isid m l.next = l.serves in
    (l.next, subst (λ q. FollowsOnTree g q source isid m l.next) plans (subst (λ b. FollowsOnTree g i.plan b isid m l.next) one_source (subst (λ j. FollowsOnTree g i.plan l.source j m l.next) one_isid there)), l.port_is)

pub rows_lead_on : RowsLeadOn
rows_lead_on g vids plan source isid m p s =
    let valid : IsValidFor g m = valid_at g vids plan source isid m s in
    let table : IsGroupTable g m vids (group_rows g m vids) = group_rows_are_table g m vids valid s.plans in (
      (λ h. follows_by g vids plan source isid m p s (port_is g m vids (group_rows g m vids) plan.vid (group_address source.source.value isid.value) p table h)),
      (λ k. is_port g m vids (group_rows g m vids) plan.vid (group_address source.source.value isid.value) p table (record {
        plan = plan;
        planned = s.planned;
        vid_is = refl;
        leads = record { source = source; isid = isid; next = k.0; bridge = s.bridge; address = refl; sends = s.sends; serves = k.1; port_is = k.2 };
      })),
    )

pub rows_lead_to_followers : RowsLeadToFollowers
rows_lead_to_followers g vids plan source isid m c p s at =
    let rows = rows_lead_on g vids plan source isid m p s in (
      (λ h. (let k = rows.0 h in subst (FollowsOnTree g plan source isid m) (one_neighbour g m k.0 c p (valid_at g vids plan source isid m s) k.2 at) k.1)),
      (λ f. rows.1 (c, f, at)),
    )

-- ---- depths

depth_is : (g : Graph) (plan : VidPlan) (source : GraphBridge) (c : SystemId) (p : List SystemId) → IsValid g → IsBest g (mask_of plan.ect) source.id.system c p → depth g plan source c ≡ hops_of p
depth_is g plan source c p valid best = ap (λ o. unwrap_or (option_map hops_of o) 0) ((best_of_some g (mask_of plan.ect) source.id.system c p valid).1 best)

-- the best paths to both
best_to_first : (g : Graph) (mask : ℕ) (s r m c : SystemId) → IsValid g → (f : Follows g mask s r m c) → IsBest g mask s m (f.before ++ m ∷ [])
best_to_first g mask s r m c valid f = best_front g mask s r m f.before (c ∷ f.after) valid f.best

best_to_second : (g : Graph) (mask : ℕ) (s r m c : SystemId) → IsValid g → (f : Follows g mask s r m c) → IsBest g mask s c ((f.before ++ m ∷ []) ++ c ∷ [])
best_to_second g mask s r m c valid f = best_front g mask s r c (f.before ++ m ∷ []) f.after valid (subst (λ p. IsBest g mask s r p) (sym (append_assoc f.before (m ∷ []) (c ∷ f.after))) f.best)

deeper : (g : Graph) (plan : VidPlan) (source : GraphBridge) (isid : Isid) (m c : SystemId) → IsValid g → FollowsOnTree g plan source isid m c → depth g plan source c ≡ depth g plan source m + 1
deeper g plan source isid m c valid f =
    let first = best_to_first g (mask_of plan.ect) source.id.system f.receiver m c valid f.follows in
    let second = best_to_second g (mask_of plan.ect) source.id.system f.receiver m c valid f.follows in
    let p : List SystemId = f.follows.before ++ m ∷ [] in
    let more : hops_of (p ++ c ∷ []) ≡ suc (hops_of p) = hops-snoc g source.id.system m c p first.path in
    let here : depth g plan source m ≡ hops_of p = depth_is g plan source m p valid first in
    let there : depth g plan source c ≡ hops_of (p ++ c ∷ []) = depth_is g plan source c (p ++ c ∷ []) valid second in
    omega (arith, more, here, there)

depth_of_source : (g : Graph) (plan : VidPlan) (source : GraphBridge) → IsValid g → IsBridge g source.id.system → depth g plan source source.id.system ≡ 0
depth_of_source g plan source valid bridge =
    depth_is g plan source source.id.system (source.id.system ∷ []) valid ((best_to_itself g (mask_of plan.ect) source.id.system (source.id.system ∷ []) bridge).1 refl)

-- ---- the bridge before

one_before : (g : Graph) (plan : VidPlan) (source : GraphBridge) (isid : Isid) (m n c : SystemId) → IsValid g → FollowsOnTree g plan source isid m c → FollowsOnTree g plan source isid n c → n ≡ m
one_before g plan source isid m n c valid f h =
    let mask : ℕ = mask_of plan.ect in
    let s : SystemId = source.id.system in
    let back = back_from g mask s f.receiver m c valid f.follows in
    let other = back_from g mask s h.receiver n c valid h.follows in
    let same : c ∷ n ∷ reverse h.follows.before ≡ c ∷ m ∷ reverse f.follows.before = best_unique g mask c s (c ∷ n ∷ reverse h.follows.before) (c ∷ m ∷ reverse f.follows.before) other back in
    same_Some n m (ap (λ l. slice_get l 1) same)

pub followers_accept : FollowersAccept
followers_accept g vids plan source isid m c s f =
    let valid : IsValid g = valid_graph g vids plan source isid s in
    let port = port_there g.edges m c (path_joined g source.id.system f.receiver m c f.follows.before f.follows.after f.follows.best.path) in
    let below : depth g plan source c ≡ depth g plan source m + 1 = deeper g plan source isid m c valid f in
    let top : depth g plan source source.id.system ≡ 0 = depth_of_source g plan source valid (entry_bridge g.bridges source (has_from_contains g.bridges source s.bridge)) in
    record {
      port = port.0;
      towards = port.1;
      takes = one_path g vids plan source.id.system f.receiver m c (valid_at g vids plan source isid c s) s.plans s.planned f.follows;
      alone = λ n h. one_before g plan source isid m n c valid f h;
      onward = λ h. (let above : depth g plan source m ≡ depth g plan source c + 1 = deeper g plan source isid c m valid h in absurd (omega (arith, below, above)));
      other = λ e. (let same : depth g plan source c ≡ depth g plan source source.id.system = ap (depth g plan source) e in absurd (omega (arith, below, top, same)));
    }

-- ---- the tree

last_of : (x : SystemId) (xs : List SystemId) → (l : List SystemId) × (k : SystemId) × (x ∷ xs ≡ l ++ k ∷ [])
last_of x [] = ([], x, refl)
last_of x (y ∷ ys) = let rest = last_of y ys in (x ∷ rest.0, rest.1, ap (λ t. x ∷ t) rest.2)

above : (g : Graph) (plan : VidPlan) (source : GraphBridge) (isid : Isid) (m c : SystemId) → FollowsOnTree g plan source isid m c → IsOnTree g plan source isid m
above g plan source isid m c f = by f.follows.before f.follows.best
  where
    mask : ℕ
    mask = mask_of plan.ect

    s : SystemId
    s = source.id.system

    by : (before : List SystemId) → IsBest g mask s f.receiver (before ++ m ∷ c ∷ f.follows.after) → IsOnTree g plan source isid m
    by [] best = inl best.path.0
    by (x ∷ xs) best =
        let l = last_of x xs in
        let path : IsBest g mask s f.receiver ((l.0 ++ l.1 ∷ []) ++ m ∷ c ∷ f.follows.after) = subst (λ t. IsBest g mask s f.receiver (t ++ m ∷ c ∷ f.follows.after)) l.2 best in
        let turned : IsBest g mask s f.receiver (l.0 ++ l.1 ∷ m ∷ c ∷ f.follows.after) = subst (λ t. IsBest g mask s f.receiver t) (append_assoc l.0 (l.1 ∷ []) (m ∷ c ∷ f.follows.after)) path in
        inr (l.1, record { receiver = f.receiver; other = f.other; takes = f.takes; follows = record { before = l.0; after = c ∷ f.follows.after; best = turned } })

pub tree_hangs_together : TreeHangsTogether
tree_hangs_together g vids plan source isid m c s f =
    let valid : IsValid g = valid_graph g vids plan source isid s in
    let best = best_to_second g (mask_of plan.ect) source.id.system f.receiver m c valid f.follows in
    let p : List SystemId = f.follows.before ++ m ∷ [] in
    record {
      above = above g plan source isid m c f;
      deeper = deeper g plan source isid m c valid f;
      reached = path_reached g source.id.system c c (p ++ c ∷ []) best.path (among_right c p (c ∷ []) (inl refl));
    }

pub nothing_elsewhere : NothingElsewhere
nothing_elsewhere g vids plan source isid m p s h =
    let k = (rows_lead_on g vids plan source isid m p s).0 h in (
      above g plan source isid m k.0 k.1,
      (λ c at. inr (m, (rows_lead_to_followers g vids plan source isid m c p s at).0 h)),
    )

-- ---- the way to a receiver

-- a walk shortens to a path
walk_path : (g : Graph) (s x y : SystemId) (p walk : List SystemId) → IsPath g s x p → Leads g x walk y → (q : List SystemId) × IsPath g s y q
walk_path g s x y p [] w l = (p, subst (λ z. IsPath g s z p) l.1 w)
walk_path g s x y p (z ∷ walk) w l = by (among_or_not z p) (λ q k. walk_path g s z y q walk k l.2)
  where
    by : IsAmong z p ⊎ (IsAmong z p → ⊥) → ((q : List SystemId) → IsPath g s z q → (t : List SystemId) × IsPath g s y t) → (t : List SystemId) × IsPath g s y t
    by (inl i) rest = let at = among_split z p i in rest (at.0 ++ z ∷ []) (path_front g s x z at.0 at.1 (subst (λ t. IsPath g s x t) at.2 w))
    by (inr off) rest = rest (p ++ z ∷ []) (path_snoc g s x z p w l.1 (leads_start g z y walk l.2) off)

-- from each bridge of the best path to a receiver the tree leads down to it
rest_leads : (g : Graph) (plan : VidPlan) (source : GraphBridge) (isid : Isid) (r m : SystemId) (before rest : List SystemId) → r ≢ source.id.system → Receives g isid plan.vid r → IsBest g (mask_of plan.ect) source.id.system r (before ++ m ∷ rest) → LeadsDown g plan source isid m rest r
rest_leads g plan source isid r m before [] other takes best = (path_back g source.id.system r m before [] best.path).1.1
rest_leads g plan source isid r m before (c ∷ rest) other takes best = (
  record { receiver = r; other = other; takes = takes; follows = record { before = before; after = rest; best = best } },
  rest_leads g plan source isid r c (before ++ m ∷ []) rest other takes (subst (λ t. IsBest g (mask_of plan.ect) source.id.system r t) (sym (append_assoc before (m ∷ []) (c ∷ rest))) best),
)

pub receivers_are_on_tree : ReceiversAreOnTree
receivers_are_on_tree g vids plan source isid r s takes other reached =
    let mask : ℕ = mask_of plan.ect in
    let valid : IsValid g = valid_graph g vids plan source isid s in
    let from : SystemId = source.id.system in
    let path = walk_path g from from r (from ∷ []) reached.0 (path_single g from (leads_start g from r reached.0 reached.1)) reached.1 in
    let best = best_exists g mask from r path.0 valid path.1 in
    by best.0 best.1
  where
    by : (p : List SystemId) → IsBest g (mask_of plan.ect) source.id.system r p → (way : List SystemId) × LeadsDown g plan source isid source.id.system way r
    by [] best = absurd best.path
    by (x ∷ xs) best = (xs, rest_leads g plan source isid r source.id.system [] xs other takes (subst (λ z. IsBest g (mask_of plan.ect) source.id.system r (z ∷ xs)) best.path.0 best))
