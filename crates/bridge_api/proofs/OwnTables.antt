-- What a bridge doesn't reach says nothing of its rows.
use Rattle.std.proofs.Common.{◌≡◌, inl, inr, List, [], ◌∷◌, refl, sym, ap, ◌∙◌, subst, filter, length, false, ◌≤◌, Option, Some, None, arith}
use Rattle.std.specs.Prelude.{IsSome, option_map, Contains}
use Rattle.std.specs.List.{filter_map}
use Rattle.std.specs.FinMap.{empty, entries, len-empty, len-entries}
use Rattle.std.proofs.lemmas.Bool.{false≢true}
use Rattle.spb_types.specs.declared.address.SystemId.{SystemId}
use Rattle.spb_types.specs.declared.address.LspId.{LspId}
use Rattle.spb_types.specs.declared.graph.Graph.{Graph}
use Rattle.spb_types.specs.declared.graph.GraphBridge.{GraphBridge}
use Rattle.spb_types.specs.Graph.{IsAmong, IsDistinct, IsBridge, IsValid, systems_of}
use Rattle.spb_types.specs.declared.limits.TheConstants.{MOST_GRAPH_BRIDGES}
use Rattle.lsdb.specs.Entry.{Entry}
use Rattle.lsdb.specs.Database.{Lsps, id_cmp}
use Rattle.ect_trees.specs.Path as paths
use Rattle.ect_trees.specs.Laws as sight
use Rattle.ect_trees.specs.Laws.{IsPartOf}
use Rattle.ect_trees.proofs.Reached.{part_looks_alike}
use Rattle.fdb_build.proofs.TableLemmas.{same_rows}
use Rattle.fdb_build.proofs.GroupLemmas.{same_groups}
use Rattle.spb_content.specs.Graph as said
use Rattle.spb_content.specs.Graph.{Contents, systems_in, link_said, IsGraphOf}
use Rattle.spb_content.specs.Building.{has_inst, said_graph}
use Rattle.spb_content.specs.Laws.{HasAllLinks}
use Rattle.spb_content.proofs.Members.{Has, has_from_contains, contains_from_has}
use Rattle.spb_content.proofs.Links.{ends_said, reached_said}
use Rattle.spb_content.proofs.Uncut.{IsSaid, all_chosen, said_graph_has_all_links}
use Rattle.spb_content.proofs.Whole.{is_bridge, bridges_are, are_bridges, members_are, are_members}
use Rattle.bridge_api.specs.Drops.{no_drops}
use Rattle.bridge_api.specs.View.{BridgeView}
use Rattle.bridge_api.specs.Tables.{live_lsp, contents_among}
use Rattle.bridge_api.specs.Graph.{contents_of, CutSaysNothing, SomeGraphIsOwn}
use Rattle.bridge_api.proofs.GraphRead.{reads_each_once}

-- ---- the bridges of the graph of all that is said

among_bridge : (bs : List GraphBridge) (x : SystemId) → IsAmong x (systems_of bs) → (b : GraphBridge) × Has b bs × (b.id.system ≡ x)
among_bridge [] x h = absurd h
among_bridge (b ∷ bs) x (inl e) = (b, inl refl, sym e)
among_bridge (b ∷ bs) x (inr h) = let r = among_bridge bs x h in (r.0, inr r.1, r.2)

bridge_said : (list : Contents) (x : SystemId) → IsDistinct (systems_in list) → IsBridge (said_graph list) x → IsSaid list x
bridge_said list x apart h =
    let b = among_bridge (said_graph list).bridges x h in
    let parts = bridges_are list (IsSaid list) (filter has_inst list) b.0 (all_chosen list apart) (contains_from_has b.0 (said_graph list).bridges b.1) in
    subst (IsSaid list) b.2 parts.1

said_bridge : (list : Contents) (x : SystemId) → IsDistinct (systems_in list) → IsSaid list x → IsBridge (said_graph list) x
said_bridge list x apart h = is_bridge list (IsSaid list) (filter has_inst list) x (all_chosen list apart) h

-- ---- its walks are those over links

some_mapped : {A B : Type 0} (f : A → B) (o : Option A) → IsSome (option_map f o) → IsSome o
some_mapped f None h = h
some_mapped f (Some a) h = refl

mapped_some : {A B : Type 0} (f : A → B) (o : Option A) → IsSome o → IsSome (option_map f o)
mapped_some f None h = h
mapped_some f (Some a) h = refl

walk_there : (list : Contents) → IsDistinct (systems_in list) → HasAllLinks list (said_graph list) → (a : SystemId) (xs : List SystemId) (b : SystemId) → said.Leads list a xs b → paths.Leads (said_graph list) a xs b
walk_there list apart all a [] b h = (said_bridge list a apart h.0, h.1)
walk_there list apart all a (x ∷ xs) b h = (
  said_bridge list a apart (ends_said list a x h.0).0,
  subst (λ o. IsSome o) (sym (all.costs a x)) (mapped_some _ (link_said list a x) h.0),
  walk_there list apart all x xs b h.1,
)

walk_back : (list : Contents) → IsDistinct (systems_in list) → HasAllLinks list (said_graph list) → (a : SystemId) (xs : List SystemId) (b : SystemId) → paths.Leads (said_graph list) a xs b → said.Leads list a xs b
walk_back list apart all a [] b h = (bridge_said list a apart h.0, h.1)
walk_back list apart all a (x ∷ xs) b h = (
  some_mapped _ (link_said list a x) (subst (λ o. IsSome o) (all.costs a x) h.1),
  walk_back list apart all x xs b h.2,
)

-- ---- the graph of a bridge is the part of it that the bridge reaches

pub is_part : (list : Contents) (me : SystemId) (g : Graph) → IsDistinct (systems_in list) → HasAllLinks list (said_graph list) → IsGraphOf me list g → IsPartOf (said_graph list) me g
is_part list me g apart all own =
    let chosen = all_chosen list apart in
    let there : (x : SystemId) → said.IsReached list me x → sight.IsReached (said_graph list) me x = λ x r. (r.0, walk_there list apart all me r.0 x r.1) in
    let back : (x : SystemId) → sight.IsReached (said_graph list) me x → said.IsReached list me x = λ x r. (r.0, walk_back list apart all me r.0 x r.1) in
    record {
      bridges = λ b. (
        λ k. (let o = (own.bridges b).0 k in (are_bridges list (IsSaid list) (filter has_inst list) b chosen (o.0, reached_said list me b.id.system o.1), there b.id.system o.1)),
        λ k. (own.bridges b).1 ((bridges_are list (IsSaid list) (filter has_inst list) b chosen k.0).0, back b.id.system k.1),
      );
      costs = λ x y r. own.costs x y (back x r) ∙ sym (all.costs x y);
      ports = λ x y r. own.ports x y (back x r) ∙ sym (all.ports x y);
      within = λ x y s. there x (own.within x y s);
      members = λ m. (
        λ k. (let o = (own.members m).0 k in (are_members list (IsSaid list) (filter has_inst list) m chosen (o.0, reached_said list me m.system o.1), there m.system o.1)),
        λ k. (own.members m).1 ((members_are list (IsSaid list) (filter has_inst list) m chosen k.0).0, back m.system k.1),
      );
    }

pub cut_says_nothing : CutSaysNothing
cut_says_nothing v g few own valid =
    let list : Contents = contents_of v in
    let apart : IsDistinct (systems_in list) = reads_each_once v in
    let all : HasAllLinks list (said_graph list) = said_graph_has_all_links list apart few in
    let look = part_looks_alike (said_graph list) g v.id.system (is_part list v.id.system g apart all own) in (
      sym (same_rows (said_graph list) g v.id.system v.vids all.valid valid look),
      sym (same_groups (said_graph list) g v.id.system v.vids all.valid valid look),
    )

-- ---- a bridge that holds nothing has the graph without bridges

no_items : {X : Type 0} (xs : List X) → length xs ≡ 0 → xs ≡ []
no_items [] none = refl
no_items (x ∷ xs) none = absurd (omega (arith, none))

none_read : (v : BridgeView) → v.database ≡ empty → contents_of v ≡ []
none_read v is =
    let nothing : Lsps = empty in
    ap (λ (db : Lsps). contents_among (filter_map live_lsp (entries db))) is
    ∙ ap (λ (es : List (LspId × Entry)). contents_among (filter_map live_lsp es)) (no_items (entries nothing) (sym (len-entries nothing) ∙ len-empty id_cmp Entry))

no_graph : Graph
no_graph = record { bridges = []; edges = []; members = [] }

none_reached : (me x : SystemId) → said.IsReached [] me x → ⊥
none_reached me x r = false≢true (reached_said [] me x r)

not_within : {X : Type 0} (x : X) → Contains [] x → ⊥
not_within x h = has_from_contains x [] h

no_graph_own : (me : SystemId) → IsGraphOf me [] no_graph
unfolding no_graph
no_graph_own me = record {
  bridges = λ b. (λ k. absurd (not_within b k), λ k. absurd (not_within b k.0));
  costs = λ x y r. absurd (none_reached me x r);
  ports = λ x y r. absurd (none_reached me x r);
  within = λ x y s. absurd (false≢true s);
  members = λ m. (λ k. absurd (not_within m k), λ k. absurd (not_within m k.0));
}

no_graph_valid : IsValid no_graph
unfolding no_graph
no_graph_valid = record { few = omega arith; apart = tt; edges = tt; one_edge = tt; members = tt }

nobody : BridgeView
nobody = record {
  id = record { priority = 0; system = record { mac = record { bytes = [] } } };
  source = record { value = 0 };
  vids = [];
  ports = [];
  database = empty;
  attached = [];
  learned = empty;
  spent = false;
  failed = false;
  drops = no_drops;
}

none_held : nobody.database ≡ empty
unfolding nobody
none_held = refl

pub some_graph_is_own : SomeGraphIsOwn
some_graph_is_own =
    let none : contents_of nobody ≡ [] = none_read nobody none_held in
    record {
      bridge = nobody;
      graph = no_graph;
      few = subst (λ (list : Contents). length list ≤ MOST_GRAPH_BRIDGES) (sym none) (omega arith);
      own = subst (λ (list : Contents). IsGraphOf nobody.id.system list no_graph) (sym none) (no_graph_own nobody.id.system);
      valid = no_graph_valid;
    }
