-- A bridge, a link or a VID more.
use Rattle.std.proofs.Common.{◌≡◌, ◌≢◌, ◌⊎◌, inl, inr, ◌≤◌, ◌<◌, ◌+◌, ℕ, zero, suc, Bool, true, false, List, [], ◌∷◌, ◌++◌, length, refl, sym, ap, ◌∙◌, subst, Option, Some, None, slice_get, arith}
use Rattle.std.specs.Prelude.{◌==◌, if◌then◌else◌}
use Rattle.std.specs.FinMap.{get}
use Rattle.std.proofs.lemmas.Bool.{ne_eqb}
use Rattle.spb_types.specs.declared.address.BridgeId.{BridgeId}
use Rattle.spb_types.specs.declared.address.SystemId.{SystemId}
use Rattle.spb_types.specs.declared.address.LspId.{LspId}
use Rattle.spb_types.specs.Graph.{IsDistinct, systems_of}
use Rattle.spb_types.specs.declared.link.Dir.{Dir}
use Rattle.link_model.specs.declared.lanes.LinkLanes.{LinkLanes}
use Rattle.link_model.specs.Lane.{Frame, IsIn}
use Rattle.link_model.specs.Lanes.{no_frames, lane_of}
use Rattle.lsdb.specs.declared.version.Version.{Version}
use Rattle.lsdb.specs.declared.version.Version.TheVariants.{Absent, Live}
use Rattle.lsdb.specs.Entry.{Entry}
use Rattle.lsdb.specs.Version.{number_of}
use Rattle.lsdb.specs.Database.{version_at, version_in}
use Rattle.flooding.proofs.OwnNumbers.{own_is_number, not_own}
use Rattle.flooding.specs.Own.{last_number, own_numbers, own_number, IsOwnNumber, is_own_number, body_in}
use Rattle.flooding.specs.Advancing.{stays}
use Rattle.bridge_api.specs.View.{BridgeView}
use Rattle.bridge_api.specs.Parsing.{parsed}
use Rattle.bridge_api.specs.Step.{metric}
use Rattle.spb_world.specs.declared.declaration.DeclaredBridge.{DeclaredBridge}
use Rattle.spb_world.specs.declared.declaration.DeclaredLink.{DeclaredLink}
use Rattle.spb_world.specs.World.{Bridges, things_of, graph_bridges, IsLink, AreDistinct}
use Rattle.spb_world.specs.Declaring.{with_bridge, with_link}
use Rattle.network_model.specs.State.{State, Spare, links_of}
use Rattle.network_model.specs.Events.{with_metric_at_end, with_metrics_over, switched_on}
use Rattle.network_model.specs.Sound.{IsSoundState}
use Rattle.network_model.specs.Copies.{IsText, text_held, text_sent, IsOrigin}
use Rattle.network_model.specs.Counted.{IsCopy, is_held, is_said, hellos_to, IsOwnOf, IsWithin, IsCountedBy}
use Rattle.spb_world.proofs.BoxLemmas.{All-get}
use Rattle.spb_world.proofs.ListLemmas.{things_of-push, All-push}
use Rattle.spb_world.proofs.WorldLemmas.{IsNewBridge, Sound-with_bridge, IsNewLink}
use Rattle.network_model.proofs.SoundEvents.{core_of}
use Rattle.network_model.proofs.SoundDeclaring.{got_push, lane-push, core_new_link}
use Rattle.network_model.proofs.SoundLinks.{end_metric}
use Rattle.network_model.proofs.Origins.{CopyStems, was, absent, TextStems, text_was, lsp_claims, first_moves, fewer_copies, fewer_origins, alone_origin}
use Rattle.network_model.proofs.CountedMoves.{is_within, length-things, declared_at, systems_apart}
use Rattle.network_model.proofs.CountedSteps.{weak_bound}
use Rattle.network_model.proofs.CountedGains.{gain_at}
use Rattle.network_model.proofs.CountedLinks.{IsTracked, tracked_metric, tracked_on, counted_tracked, gains_apart}

-- ---- a bridge more

get_old : {X : Type 0} (xs : List X) (y : X) (i : ℕ) (x : X) → slice_get xs i ≡ Some x → slice_get (xs ++ y ∷ []) i ≡ Some x
get_old [] y i x at = absurd cc
get_old (z ∷ xs) y zero x at = at
get_old (z ∷ xs) y (suc i) x at = get_old xs y i x at

get_new : {X : Type 0} (xs : List X) (y : X) → slice_get (xs ++ y ∷ []) (length xs) ≡ Some y
get_new [] y = refl
get_new (x ∷ xs) y = get_new xs y

things_old : (bs : Bridges) (name : List ℕ) (b : DeclaredBridge) (i : ℕ) (c : DeclaredBridge) → slice_get (things_of bs) i ≡ Some c → slice_get (things_of (bs ++ (name, b) ∷ [])) i ≡ Some c
things_old bs name b i c at = ap (λ (xs : List DeclaredBridge). slice_get xs i) (things_of-push bs name b) ∙ get_old (things_of bs) b i c at

things_new : (bs : Bridges) (name : List ℕ) (b : DeclaredBridge) → slice_get (things_of (bs ++ (name, b) ∷ [])) (length bs) ≡ Some b
things_new bs name b =
    ap (λ (xs : List DeclaredBridge). slice_get xs (length bs)) (things_of-push bs name b)
    ∙ (ap (λ (n : ℕ). slice_get (things_of bs ++ b ∷ []) n) (sym (length-things bs)) ∙ get_new (things_of bs) b)

own_old : (bs : Bridges) (name : List ℕ) (b : DeclaredBridge) (id : LspId) → IsOwnOf bs id → IsOwnOf (bs ++ (name, b) ∷ []) id
own_old bs name b id own = record { place = own.place; bridge = own.bridge; there = things_old bs name b own.place own.bridge own.there; own = own.own }

-- no hello is on its way to where no link ends
hellos_none : (links : List DeclaredLink) (xs : List LinkLanes) (i : ℕ) → ((k : ℕ) (l : DeclaredLink) → slice_get links k ≡ Some l → (l.a.bridge ≢ i) × (l.b.bridge ≢ i)) → hellos_to links xs i ≤ 0
hellos_none [] xs i away = omega arith
hellos_none (l ∷ links) [] i away = omega arith
hellos_none (l ∷ links) (x ∷ xs) i away =
    let here = away zero l refl in
    let more = hellos_none links xs i (λ k m at. away (suc k) m at) in
    rw (ne_eqb l.a.bridge i here.0, ne_eqb l.b.bridge i here.1) (omega (arith, more))

-- the new bridge: declared as it is, with each of its own LSPs at number 1 at most, and no other
pub record IsFirstOwn (b : DeclaredBridge) (v : BridgeView) : Type 0 where
  pub id : v.id ≡ b.bridge.id
  pub fresh : v.spent ≡ false
  pub own : (number : ℕ) → number < own_numbers → number_of (version_at v.database (own_number v.id.system number)) ≤ 1
  pub alone : (id : LspId) → is_own_number v.id.system id ≡ false → get v.database id ≡ None

module _ (s : State) (n : ℕ) (rack : List Spare) (ticks : List ℕ) (name : List ℕ) (b : DeclaredBridge) (v : BridgeView) (sound : IsSoundState s) (counted : IsCountedBy n s) (new : IsNewBridge s.world b) (first : IsFirstOwn b v) where
  abbrev bridges : Bridges
  bridges = s.world.bridges ++ (name, b) ∷ []

  abbrev views : List BridgeView
  views = s.views ++ v ∷ []

  apart : IsDistinct (systems_of (graph_bridges bridges))
  unfolding with_bridge
  apart = (Sound-with_bridge s.world name b sound.world new).systems

  -- no other bridge has its system
  other_system : (i : ℕ) (c : DeclaredBridge) → slice_get (things_of s.world.bridges) i ≡ Some c → c.bridge.id.system ≡ v.id.system → ⊥
  other_system i c at same =
      let place : i ≡ length s.world.bridges = systems_apart bridges i (length s.world.bridges) c b apart (things_old s.world.bridges name b i c at) (things_new s.world.bridges name b) (same ∙ ap (λ (x : BridgeId). x.system) first.id) in
      absurd (omega (arith, place, is_within (things_of s.world.bridges) i c at, length-things s.world.bridges))

  system_is : (x : SystemId) (id : LspId) → IsOwnNumber x id → id.system ≡ x
  system_is x id own = ap (λ (y : LspId). y.system) own.is

  -- an id of its own was nobody's
  none_had : (id : LspId) → IsOwnNumber v.id.system id → IsOwnOf s.world.bridges id → ⊥
  none_had id own owner = other_system owner.place owner.bridge owner.there (sym (system_is owner.bridge.bridge.id.system id owner.own) ∙ system_is v.id.system id own)

  held_new : (id : LspId) (e : Entry) → get v.database id ≡ Some e → IsOwnOf bridges id
  held_new id e held = by (is_own_number v.id.system id) refl
    where
      by : (own : Bool) → is_own_number v.id.system id ≡ own → IsOwnOf bridges id
      by true is =
          record {
            place = length s.world.bridges;
            bridge = b;
            there = things_new s.world.bridges name b;
            own = subst (λ (x : BridgeId). IsOwnNumber x.system id) first.id (own_is_number v.id.system id is);
          }
      by false is = let wrong : None ≡ Some e = sym (first.alone id is) ∙ held in absurd cc

  -- of the ids of others it holds nothing
  none_new : (id : LspId) → id.system ≢ v.id.system → get v.database id ≡ None
  none_new id other = first.alone id (not_own v.id.system id other)

  -- no bridge from before originates what the new one does
  ids_apart : (i : ℕ) (u : BridgeView) (id : LspId) → slice_get s.views i ≡ Some u → IsOwnNumber u.id.system id → id.system ≢ v.id.system
  ids_apart i u id at own same =
      let c = declared_at s i u (core_of s sound) at in
      other_system i c.0 c.1 (sym (ap (λ (x : BridgeId). x.system) c.2) ∙ (sym (system_is u.id.system id own) ∙ same))

  weak_old : (i : ℕ) (u : BridgeView) (id : LspId) (m : ℕ) (a : Version) → slice_get s.views i ≡ Some u → IsOwnNumber u.id.system id → ((c : Version) → IsCopy s.views s.lanes id c → number_of c ≤ m) → IsCopy views s.lanes id a → number_of a ≤ m
  weak_old i u id m a at own weak (is_said k dir f among claimed) = weak a (is_said k dir f among claimed)
  weak_old i u id m a at own weak (is_held j w at_j is) =
      elim (got_push s.views v j w at_j) [
        | inl old ↦ weak a (is_held j w old.1 is)
        | inr here ↦
            let none : version_at v.database id ≡ Absent = ap version_in (none_new id (ids_apart i u id at own)) in
            let same : version_at v.database id ≡ a = ap (λ (x : BridgeView). version_at x.database id) here.1 ∙ is in
            let number = ap number_of (sym same ∙ none) in
            omega (arith, number)
      ]

  -- ---- the origins

  copy_old : (i : ℕ) (u : BridgeView) (id : LspId) (a : Version) → slice_get s.views i ≡ Some u → IsOwnNumber u.id.system id → IsCopy views s.lanes id a → CopyStems s.views s.lanes id (get u.database id) a
  copy_old i u id a at own (is_said k dir f among claimed) = was (is_said k dir f among claimed)
  copy_old i u id a at own (is_held j w at_j is) =
      elim (got_push s.views v j w at_j) [
        | inl old ↦ was (is_held j w old.1 is)
        | inr here ↦ absent (sym is ∙ (ap (λ (x : BridgeView). version_at x.database id) (sym here.1) ∙ ap version_in (none_new id (ids_apart i u id at own))))
      ]

  text_old : (i : ℕ) (u : BridgeView) (id : LspId) (n x : ℕ) (body : List ℕ) → slice_get s.views i ≡ Some u → IsOwnNumber u.id.system id → IsText views s.lanes id n x body → TextStems s.views s.lanes id (get u.database id) n x body
  text_old i u id n x body at own (text_sent k dir f l among is same version kept) = text_was (text_sent k dir f l among is same version kept)
  text_old i u id n x body at own (text_held j w e at_j held version kept) =
      elim (got_push s.views v j w at_j) [
        | inl old ↦ text_was (text_held j w e old.1 held version kept)
        | inr here ↦
            let none : get v.database id ≡ None = none_new id (ids_apart i u id at own) in
            let some : get v.database id ≡ Some e = ap (λ (x : BridgeView). get x.database id) here.1 ∙ held in
            absurd cc
      ]

  origin_old : (i : ℕ) (u : BridgeView) (id : LspId) → slice_get s.views i ≡ Some u → IsOwnNumber u.id.system id → IsOrigin views s.lanes id (get u.database id)
  origin_old i u id at own =
      first_moves s.views views s.lanes s.lanes i u id (get u.database id) at (counted.origins i u id at own) (stays refl refl) (λ a copy. copy_old i u id a at own copy) (λ n x body text. text_old i u id n x body at own text)

  -- of an own id of the new bridge no other holds anything
  nothing_held : (j : ℕ) (w : BridgeView) (id : LspId) (o : Option Entry) → slice_get s.views j ≡ Some w → IsOwnNumber v.id.system id → get w.database id ≡ o → o ≡ None
  nothing_held j w id None at own held = refl
  nothing_held j w id (Some e) at own held = absurd (none_had id own (counted.held j w id e at held))

  copy_new : (id : LspId) (a : Version) → IsOwnNumber v.id.system id → IsCopy views s.lanes id a → (a ≡ version_at v.database id) ⊎ (a ≡ Absent)
  copy_new id a own (is_said k dir f among claimed) = absurd (none_had id own (counted.said k dir f id a among claimed))
  copy_new id a own (is_held j w at_j is) =
      elim (got_push s.views v j w at_j) [
        | inl old ↦ inr (sym is ∙ ap version_in (nothing_held j w id (get w.database id) old.1 own refl))
        | inr here ↦ inl (sym is ∙ ap (λ (x : BridgeView). version_at x.database id) (sym here.1))
      ]

  text_new : (id : LspId) (n x : ℕ) (body : List ℕ) → IsOwnNumber v.id.system id → IsText views s.lanes id n x body → body_in (get v.database id) ≡ body
  text_new id n x body own (text_sent k dir f l among is same version kept) = absurd (none_had id own (counted.said k dir f id (Live n x) among (lsp_claims (parsed f) id l (Live n x) is same version)))
  text_new id n x body own (text_held j w e at_j held version kept) =
      elim (got_push s.views v j w at_j) [
        | inl old ↦ let none = nothing_held j w id (get w.database id) old.1 own refl in absurd cc
        | inr here ↦ ap body_in (ap (λ (x : BridgeView). get x.database id) here.1 ∙ held) ∙ kept
      ]

  origin_new : (id : LspId) → IsOwnNumber v.id.system id → IsOrigin views s.lanes id (get v.database id)
  origin_new id own = alone_origin views s.lanes id (get v.database id) (λ a copy. copy_new id a own copy) (λ n x body text. text_new id n x body own text)

  -- ---- the numbers

  own_copies : (id : LspId) (a : Version) → IsOwnNumber v.id.system id → IsCopy views s.lanes id a → number_of a ≤ 1
  own_copies id a own copy =
      elim (copy_new id a own copy) [
        | inl is ↦
            let same : a ≡ version_at v.database (own_number v.id.system own.number) = is ∙ ap (λ (x : LspId). version_at v.database x) own.is in
            let number = ap number_of same in omega (arith, number, first.own own.number own.below)
        | inr none ↦ let number = ap number_of none in omega (arith, number)
      ]

  ends_away : (k : ℕ) (l : DeclaredLink) → slice_get (links_of s) k ≡ Some l → (l.a.bridge ≢ length s.views) × (l.b.bridge ≢ length s.views)
  ends_away k l at =
      let link : IsLink s.world.bridges l = All-get (IsLink s.world.bridges) (links_of s) k l sound.world.links at in
      ((λ e. absurd (omega (arith, e, link.a.bridge, sound.fits.bridges))), λ e. absurd (omega (arith, e, link.b.bridge, sound.fits.bridges)))

  pub counted_bridge : IsCountedBy (n + 2) (record s { rack = rack; world = with_bridge s.world name b; views = s.views ++ v ∷ []; ticks = ticks })
  unfolding with_bridge
  counted_bridge = record {
    fresh = All-push (λ (u : BridgeView). u.spent ≡ false) s.views v counted.fresh first.fresh;
    held = λ i u id e at held.
        elim (got_push s.views v i u at) [
          | inl old ↦ own_old s.world.bridges name b id (counted.held i u id e old.1 held)
          | inr here ↦ held_new id e (ap (λ (x : BridgeView). get x.database id) here.1 ∙ held)
        ];
    said = λ k dir f id a among claimed. own_old s.world.bridges name b id (counted.said k dir f id a among claimed);
    origins = λ i u id at own.
        elim (got_push s.views v i u at) [
          | inl old ↦ origin_old i u id old.1 own
          | inr here ↦ subst (λ (x : BridgeView). IsOrigin views s.lanes id (get x.database id)) here.1 (origin_new id (subst (λ (x : BridgeView). IsOwnNumber x.id.system id) (sym here.1) own))
        ];
    bound = λ i u id at own.
        elim (got_push s.views v i u at) [
          | inl old ↦ within_old i u id old.1 own
          | inr here ↦ within_new i u id here.0 here.1 own
        ];
  }
    where
      within_old : (i : ℕ) (u : BridgeView) (id : LspId) → slice_get s.views i ≡ Some u → IsOwnNumber u.id.system id → IsWithin (record s { rack = rack; world = record s.world { bridges = bridges }; views = views; ticks = ticks }) i u id (n + 2)
      within_old i u id at own =
          let within = counted.bound i u id at own in
          record {
            most = within.most + 1;
            bound = λ a copy. inl (let high = weak_old i u id within.most a at own (weak_bound s.views s.lanes u id within.most within.bound) copy in omega (arith, high));
            room = omega (arith, within.room);
          }

      within_new : (i : ℕ) (u : BridgeView) (id : LspId) → i ≡ length s.views → v ≡ u → IsOwnNumber u.id.system id → IsWithin (record s { rack = rack; world = record s.world { bridges = bridges }; views = views; ticks = ticks }) i u id (n + 2)
      within_new i u id place is own =
          let owned : IsOwnNumber v.id.system id = subst (λ (x : BridgeView). IsOwnNumber x.id.system id) (sym is) own in
          let none : hellos_to (links_of s) s.lanes i ≤ 0 = subst (λ (j : ℕ). hellos_to (links_of s) s.lanes j ≤ 0) (sym place) (hellos_none (links_of s) s.lanes (length s.views) ends_away) in
          record {
            most = 2;
            bound = λ a copy. inl (let high = own_copies id a owned copy in omega (arith, high));
            room = omega (arith, none);
          }

-- ---- a link more

nothing_along : (b : Bool) → (if b then 0 else 0) ≤ 0
nothing_along true = omega arith
nothing_along false = omega arith

-- over the new link nothing is on its way
hellos-push : (links : List DeclaredLink) (xs : List LinkLanes) (l : DeclaredLink) (i : ℕ) → length xs ≡ length links → hellos_to (links ++ l ∷ []) (xs ++ no_frames ∷ []) i ≤ hellos_to links xs i
hellos-push [] [] l i same = let ab = nothing_along (l.b.bridge == i) in let ba = nothing_along (l.a.bridge == i) in omega (arith, ab, ba)
hellos-push [] (x ∷ xs) l i same = absurd (omega (arith, same))
hellos-push (m ∷ links) [] l i same = absurd (omega (arith, same))
hellos-push (m ∷ links) (x ∷ xs) l i same = let more = hellos-push links xs l i (omega (arith, same)) in omega (arith, more)

module _ (s : State) (n : ℕ) (name : List ℕ) (l : DeclaredLink) (sound : IsSoundState s) (counted : IsCountedBy n s) (new : IsNewLink s.world l) (distinct : AreDistinct (with_link s.world name l)) (dead : l.live ≡ false) where
  tracked_link : IsTracked (λ j. n) (record s { world = with_link s.world name l; lanes = s.lanes ++ no_frames ∷ [] })
  unfolding with_link
  tracked_link = record {
    core = core_new_link s name l sound new distinct dead;
    own = record {
      fresh = counted.fresh;
      held = counted.held;
      said = λ k dir f id a among claimed. counted.said k dir f id a (before k dir f among) claimed;
      origins = fewer_origins s (s.lanes ++ no_frames ∷ []) before counted.origins;
    };
    weak = λ i v id at own.
        let within = counted.bound i v id at own in
        let few : hellos_to (links_of s ++ l ∷ []) (s.lanes ++ no_frames ∷ []) i ≤ hellos_to (links_of s) s.lanes i = hellos-push (links_of s) s.lanes l i (omega (arith, sound.fits.lanes, length-things s.world.links)) in
        let same : hellos_to (things_of (s.world.links ++ (name, l) ∷ [])) (s.lanes ++ no_frames ∷ []) i ≡ hellos_to (links_of s ++ l ∷ []) (s.lanes ++ no_frames ∷ []) i = ap (λ (ls : List DeclaredLink). hellos_to ls (s.lanes ++ no_frames ∷ []) i) (things_of-push s.world.links name l) in
        record {
          most = within.most;
          weak = λ a copy. weak_bound s.views s.lanes v id within.most within.bound a (fewer_copies s.views s.lanes (s.lanes ++ no_frames ∷ []) id a before copy);
          room = omega (arith, within.room, few, same);
        };
  }
    where
      before : (k : ℕ) (dir : Dir) (f : Frame) → IsIn f (lane_of (s.lanes ++ no_frames ∷ []) k dir) → IsIn f (lane_of s.lanes k dir)
      before k dir f among = subst (IsIn f) (lane-push s.lanes k dir) among

  pub counted_link : n + 2 < last_number → IsCountedBy (n + 2) (switched_on (with_metrics_over (record s { world = with_link s.world name l; lanes = s.lanes ++ no_frames ∷ [] }) l) (length s.lanes))
  counted_link low =
      let t : State = record s { world = with_link s.world name l; lanes = s.lanes ++ no_frames ∷ [] } in
      let u : State = with_metric_at_end t l.a in
      let w : State = with_metric_at_end u l.b in
      let first : ℕ → ℕ = gain_at l.a.bridge (metric l.a.port l.a.metric) in
      let other : ℕ → ℕ = gain_at l.b.bridge (metric l.b.port l.b.metric) in
      let both : (j : ℕ) → first j + other j ≤ 1 = λ j. gains_apart l.a.bridge l.b.bridge j (metric l.a.port l.a.metric) (metric l.b.port l.b.metric) new.link.apart (omega arith) (omega arith) in
      let at_a : IsTracked (λ j. n + first j) u = tracked_metric t (λ j. n) l.a (end_metric s.world.bridges l.a new.link.a) tracked_link (λ j. omega (arith, low)) in
      let at_b : IsTracked (λ j. n + first j + other j) w = tracked_metric u (λ j. n + first j) l.b (end_metric s.world.bridges l.b new.link.b) at_a (λ j. let small = both j in omega (arith, low, small)) in
      let up : IsTracked (λ j. n + first j + other j + 0) (switched_on w (length s.lanes)) = tracked_on w (λ j. n + first j + other j) (length s.lanes) at_b (λ j. let small = both j in omega (arith, low, small)) in
      counted_tracked (λ j. n + first j + other j + 0) (n + 2) (switched_on w (length s.lanes)) up (λ j. let small = both j in omega (arith, small))
