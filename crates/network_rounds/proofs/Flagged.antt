-- Where neighbours come to hold the same, three rounds leave no flag.
use Rattle.std.proofs.Common.{◌≡◌, ◌-◌, ℕ, zero, suc, Bool, true, false, List, [], ◌∷◌, refl, sym, ap, ◌∙◌, subst, Option, Some, None, arith}
use Rattle.std.specs.Prelude.{◌||◌, slice_get}
use Rattle.std.specs.Option.{option_map, option_map_or}
use Rattle.std.specs.List.{list_any}
use Rattle.std.specs.FinMap.{get}
use Rattle.std.proofs.lemmas.Bool.{true≢false}
use Rattle.std.proofs.lemmas.Option.{slice_get_within}
use Rattle.spb_types.specs.declared.address.LspId.{LspId}
use Rattle.spb_types.specs.declared.link.Dir.{Dir}
use Rattle.spb_types.specs.declared.link.Dir.TheVariants.{Ab, Ba}
use Rattle.spb_types.specs.Ports.{has}
use Rattle.spb_types.proofs.PortLemmas.{has-no_ports}
use Rattle.itag_frames.specs.Classify.{ControlAgain}
use Rattle.link_model.specs.declared.lanes.LaneId.{LaneId}
use Rattle.lsdb.specs.declared.version.Version.{Version}
use Rattle.lsdb.specs.Version.{IsAtMost}
use Rattle.lsdb.specs.Entry.{Entry}
use Rattle.lsdb.specs.Database.{srm_in, ssn_in, version_at}
use Rattle.lsdb.proofs.Flags.{without_due}
use Rattle.bridge_api.specs.declared.port.BridgePort.{BridgePort}
use Rattle.bridge_api.specs.View.{BridgeView, IsPort, port_at, is_up_at, has_carrier_in, has_carrier_at, is_csnp_due_in, is_csnp_due_at, has_flags}
use Rattle.bridge_api.specs.Laws.{IsSoundView}
use Rattle.bridge_api.proofs.Changes.{found}
use Rattle.bridge_api.proofs.SoundPorts.{sound_at}
use Rattle.bridge_api.proofs.UpPorts.{up_ports_are_up}
use Rattle.bridge_rounds.specs.Inbox.{Inbox, after_round}
use Rattle.bridge_rounds.specs.FlagLaws.{HasNoSrm, HasNoSsn}
use Rattle.bridge_rounds.specs.LinkFlags.{IsSentOrHeld, ComesToAgree, CanAnswer}
use Rattle.bridge_rounds.specs.LinkFrames.{ComesOver}
use Rattle.bridge_rounds.proofs.FlagSteps.{IsUpPort, up_port, up_carrier}
use Rattle.bridge_rounds.proofs.LinkFlags.{links_fall_silent}
use Rattle.bridge_rounds.proofs.LinkFrames.{frames_tell}
use Rattle.spb_world.specs.declared.declaration.DeclaredLink.{DeclaredLink}
use Rattle.spb_world.specs.World.{World, things_of}
use Rattle.spb_world.specs.Links.{is_live, near_end, far_end, lane_out}
use Rattle.spb_world.proofs.BoxLemmas.{All-get}
use Rattle.spb_world.proofs.SoundLaneIds.{LeadsFrom, lane_leads}
use Rattle.network_model.specs.State.{State, links_of}
use Rattle.network_model.specs.Quiet.{HaveNoFlags}
use Rattle.network_model.proofs.Linked.{far_view}
use Rattle.network_model.proofs.QuietLaws.{port_of}
use Rattle.network_rounds.specs.Rounds.{IsHeardRound}
use Rattle.network_rounds.specs.Steady.{inbox_of}
use Rattle.network_rounds.proofs.Passing.{heard_view}
use Rattle.network_rounds.specs.Flags.{NeighboursAreBehind, IsWholeRound, HearsOfFew, FallSilent, FlagsFall}

-- ---- a link in a round

-- what its two ends are to each other, the first one with port q, and the other one with port p
record IsRoundBetween (id : LspId) (s : State) (i q j p : ℕ) (u v : BridgeView) : Type 0 where
  there : ComesOver u q v p (inbox_of s j)
  back : ComesOver v p u q (inbox_of s i)
  ready_there : IsSentOrHeld id u q v
  ready_back : IsSentOrHeld id v p u

abbrev RoundOver : LspId → State → Dir → DeclaredLink → BridgeView → BridgeView → Type 0
RoundOver id s dir l u v = IsRoundBetween id s (near_end dir l).bridge (near_end dir l).port (far_end dir l).bridge (far_end dir l).port u v

round_over : (id : LspId) (s r : State) (k : ℕ) (dir : Dir) (l : DeclaredLink) (u v : BridgeView) → IsWholeRound s r → slice_get (links_of s) k ≡ Some l → l.live ≡ true
    → slice_get s.views (near_end dir l).bridge ≡ Some u → slice_get s.views (far_end dir l).bridge ≡ Some v → RoundOver id s dir l u v
round_over id s r k Ab l u v round at live near far =
    let there = round.comes k Ab l u v at live near far in
    let back = round.comes k Ba l v u at live far near in
    record { there = there; back = back; ready_there = (round.sound.agree k Ab l u v at near far).ready id there.up; ready_back = (round.sound.agree k Ba l v u at far near).ready id back.up }
round_over id s r k Ba l u v round at live near far =
    let there = round.comes k Ba l u v at live near far in
    let back = round.comes k Ab l v u at live far near in
    record { there = there; back = back; ready_there = (round.sound.agree k Ba l u v at near far).ready id there.up; ready_back = (round.sound.agree k Ab l v u at far near).ready id back.up }

agreeing : ControlAgain → (id : LspId) (s : State) (i q j p : ℕ) (u v : BridgeView) (a : Version) → IsRoundBetween id s i q j p u v → version_at (after_round (inbox_of s i) u).database id ≡ a → version_at (after_round (inbox_of s j) v).database id ≡ a
    → ComesToAgree id u q (inbox_of s i) v p (inbox_of s j) a
agreeing again id s i q j p u v a round held_there held_back = record {
  round = record { there = frames_tell again u v q p (inbox_of s j) id round.there; back = frames_tell again v u p q (inbox_of s i) id round.back };
  ready_there = round.ready_there;
  ready_back = round.ready_back;
  held_there = held_there;
  held_back = held_back;
}

answering : (id : LspId) (u v : BridgeView) (vs : Inbox) → HearsOfFew v vs → (id.system ≡ v.id.system → IsAtMost (version_at u.database id) (version_at v.database id)) → CanAnswer id u v vs
answering id u v vs few ahead = record { ids = few.ids; few = few.few; within = few.within; mail = few.mail; ahead = ahead }

-- each end holds no older LSP of its own system than the other end
record AreAhead (id : LspId) (u v : BridgeView) : Type 0 where
  there : id.system ≡ v.id.system → IsAtMost (version_at u.database id) (version_at v.database id)
  back : id.system ≡ u.id.system → IsAtMost (version_at v.database id) (version_at u.database id)

ahead_over : (id : LspId) (s : State) (k : ℕ) (dir : Dir) (l : DeclaredLink) (u v : BridgeView) → NeighboursAreBehind s → slice_get (links_of s) k ≡ Some l → l.live ≡ true
    → slice_get s.views (near_end dir l).bridge ≡ Some u → slice_get s.views (far_end dir l).bridge ≡ Some v → AreAhead id u v
ahead_over id s k Ab l u v behind at live near far = record { there = behind k Ab l u v at live near far id; back = behind k Ba l v u at live far near id }
ahead_over id s k Ba l u v behind at live near far = record { there = behind k Ba l u v at live near far id; back = behind k Ab l v u at live far near id }

-- ---- views and links from round to round

-- the view at a place after a round
after : (s t : State) (i : ℕ) (v : BridgeView) → IsHeardRound s t → slice_get s.views i ≡ Some v → slice_get t.views i ≡ Some (after_round (inbox_of s i) v)
after s t i v heard at = heard.views i ∙ ap (option_map (after_round (inbox_of s i))) at

same_links : (s t : State) (k : ℕ) (l : DeclaredLink) → IsHeardRound s t → slice_get (links_of s) k ≡ Some l → slice_get (links_of t) k ≡ Some l
same_links s t k l heard at = ap (λ (w : World). slice_get (things_of w.links) k) heard.world ∙ at

-- ---- ports

link_live : (links : List DeclaredLink) (k : ℕ) (l : DeclaredLink) → slice_get links k ≡ Some l → is_live links k ≡ true → l.live ≡ true
link_live [] k l at live = absurd cc
link_live (h ∷ links) zero l at live = let same : h ≡ l = cc in ap (λ (m : DeclaredLink). m.live) (sym same) ∙ live
link_live (h ∷ links) (suc k) l at live = link_live links k l at live

pub is_port : (x : BridgeView) (p : ℕ) (port : BridgePort) → port_at x p ≡ Some port → IsPort x p
is_port x p port there =
    let at = found x.ports p port there in
    let within = slice_get_within x.ports (p - 1) port at.1 in
    record { low = at.0; high = omega (arith, at.0, within) }

not_due : (x : BridgeView) (n : ℕ) (port : BridgePort) → ((p : ℕ) → is_csnp_due_at x p ≡ false) → slice_get x.ports n ≡ Some port → port.csnp_due ≡ false
unfolding is_csnp_due_at
not_due x n port undue at = sym (ap is_csnp_due_in (port_of x.ports n ∙ at)) ∙ undue (suc n)

none_due : (ports : List BridgePort) → ((n : ℕ) (port : BridgePort) → slice_get ports n ≡ Some port → port.csnp_due ≡ false) → list_any (λ port. port.csnp_due) ports ≡ false
none_due [] undue = refl
none_due (port ∷ ports) undue = λ i. undue zero port refl i || none_due ports (λ n q at. undue (suc n) q at) i

-- what would be on is off
where_not : {b : Bool} (c : Bool) → b ≡ c → (c ≡ true → b ≡ false) → b ≡ false
where_not true is off = off refl
where_not false is off = is

-- ---- three rounds

module _ (again : ControlAgain) (s r t u : State) (fall : FallSilent s r t u) where
  -- at the near end of a link, from the views at its ends before the first round on
  three : (k : ℕ) (dir : Dir) (l : DeclaredLink) (v w : BridgeView) (id : LspId) → slice_get (links_of s) k ≡ Some l → l.live ≡ true → slice_get s.views (near_end dir l).bridge ≡ Some v → slice_get s.views (far_end dir l).bridge ≡ Some w
      → let i = (near_end dir l).bridge in let x : BridgeView = after_round (inbox_of t i) (after_round (inbox_of r i) (after_round (inbox_of s i) v)) in HasNoSrm x id (near_end dir l).port × HasNoSsn x id (near_end dir l).port
  three k dir l v w id at live near far =
      let i = (near_end dir l).bridge in
      let j = (far_end dir l).bridge in
      let q = (near_end dir l).port in
      let p = (far_end dir l).port in
      let v1 : BridgeView = after_round (inbox_of s i) v in
      let w1 : BridgeView = after_round (inbox_of s j) w in
      let v2 : BridgeView = after_round (inbox_of r i) v1 in
      let w2 : BridgeView = after_round (inbox_of r j) w1 in
      let v3 : BridgeView = after_round (inbox_of t i) v2 in
      let w3 : BridgeView = after_round (inbox_of t j) w2 in
      let near1 = after s r i v fall.first.heard near in
      let far1 = after s r j w fall.first.heard far in
      let near2 = after r t i v1 fall.next.heard near1 in
      let far2 = after r t j w1 fall.next.heard far1 in
      let near3 = after t u i v2 fall.last.heard near2 in
      let far3 = after t u j w2 fall.last.heard far2 in
      let at1 = same_links s r k l fall.first.heard at in
      let at2 = same_links r t k l fall.next.heard at1 in
      let a : Version = version_at v1.database id in
      let same : version_at w1.database id ≡ a = sym (fall.agree k dir l v1 w1 at1 live near1 far1 id) in
      let stays : version_at v2.database id ≡ a = fall.stand i v1 v2 id near1 near2 in
      let stays_there : version_at w2.database id ≡ a = fall.stand j w1 w2 id far1 far2 ∙ same in
      let last : version_at v3.database id ≡ a = fall.stand_still i v2 v3 id near2 near3 ∙ stays in
      let last_there : version_at w3.database id ≡ a = fall.stand_still j w2 w3 id far2 far3 ∙ stays_there in
      let ahead = ahead_over id s k dir l v w fall.behind at live near far in
      links_fall_silent id v w q p (inbox_of s i) (inbox_of s j) (inbox_of r i) (inbox_of r j) (inbox_of t i) (inbox_of t j) a
      (agreeing again id s i q j p v w a (round_over id s r k dir l v w fall.first at live near far) refl same)
      (answering id v w (inbox_of s j) (fall.few j w far) ahead.there)
      (answering id w v (inbox_of s i) (fall.few i v near) ahead.back)
      (agreeing again id r i q j p v1 w1 a (round_over id r t k dir l v1 w1 fall.next at1 live near1 far1) stays stays_there)
      (agreeing again id t i q j p v2 w2 a (round_over id t u k dir l v2 w2 fall.last at2 live near2 far2) last last_there)

  -- so at each end of a link that is up, after them
  silent_over : (k : ℕ) (dir : Dir) (l : DeclaredLink) (x : BridgeView) (id : LspId) → slice_get (links_of s) k ≡ Some l → l.live ≡ true → slice_get u.views (near_end dir l).bridge ≡ Some x
      → HasNoSrm x id (near_end dir l).port × HasNoSsn x id (near_end dir l).port
  silent_over k dir l x id at live there =
      let i = (near_end dir l).bridge in
      let p = (near_end dir l).port in
      let second = heard_view t u i x fall.last.heard there in
      let first = heard_view r t i second.0 fall.next.heard second.1 in
      let start = heard_view s r i first.0 fall.first.heard first.1 in
      let far = far_view s k dir l fall.first.sound at in
      let made : x ≡ after_round (inbox_of t i) (after_round (inbox_of r i) (after_round (inbox_of s i) start.0)) =
      second.2 ∙ ap (after_round (inbox_of t i)) (first.2 ∙ ap (after_round (inbox_of r i)) start.2) in
      subst (λ (y : BridgeView). HasNoSrm y id p × HasNoSsn y id p) (sym made) (three k dir l start.0 far.0 id at live start.1 far.1)

  -- ---- at a port that is Up

  links_before : (k : ℕ) (l : DeclaredLink) → slice_get (links_of u) k ≡ Some l → slice_get (links_of s) k ≡ Some l
  links_before k l at = ap (λ (w : World). slice_get (things_of w.links) k) (sym (fall.last.heard.world ∙ (fall.next.heard.world ∙ fall.first.heard.world))) ∙ at

  by_lane : (i p : ℕ) (x : BridgeView) (id : LspId) (o : Option LaneId) → slice_get u.views i ≡ Some x → lane_out (links_of u) i p ≡ o → option_map_or (λ lane. is_live (links_of u) lane.link) o false ≡ true → HasNoSrm x id p × HasNoSsn x id p
  by_lane i p x id None there out live = absurd (true≢false (sym live))
  by_lane i p x id (Some lane) there out live =
      let leads : LeadsFrom (links_of u) i p lane.link lane.dir = lane_leads (links_of u) i p lane out in
      subst (λ (q : ℕ). HasNoSrm x id q × HasNoSsn x id q) leads.port
      (silent_over lane.link lane.dir leads.link x id (links_before lane.link leads.link leads.there) (link_live (links_of u) lane.link leads.link leads.there live)
      (ap (slice_get u.views) leads.bridge ∙ there))

  at_up : (i p : ℕ) (x : BridgeView) (id : LspId) → slice_get u.views i ≡ Some x → is_up_at x p ≡ true → HasNoSrm x id p × HasNoSsn x id p
  unfolding has_carrier_at
  at_up i p x id there up =
      let view : IsSoundView x = All-get IsSoundView u.views i x fall.sound.views there in
      let port : IsUpPort x p = up_port x p up in
      let sound = sound_at x p port.port view.ports port.there in
      let carrier : has_carrier_at x p ≡ true = ap has_carrier_in port.there ∙ up_carrier port.port.adjacency.state port.port.adjacency sound.adjacency port.up in
      by_lane i p x id (lane_out (links_of u) i p) there refl (sym (fall.sound.carriers i x p there (is_port x p port.port port.there)) ∙ carrier)

  none_at : (i p : ℕ) (x : BridgeView) (id : LspId) (o : Option Entry) → slice_get u.views i ≡ Some x → get x.database id ≡ o → (has (srm_in o) p ≡ false) × (has (ssn_in o) p ≡ false)
  none_at i p x id None there held = (has-no_ports p, has-no_ports p)
  none_at i p x id (Some e) there held =
      let view : IsSoundView x = All-get IsSoundView u.views i x fall.sound.views there in
      let flags = view.database.flags id e held in (
        where_not (has e.srm p) refl (λ on. ap (λ (o : Option Entry). has (srm_in o) p) (sym held) ∙ (at_up i p x id there (sym (up_ports_are_up x p view) ∙ flags.srm p on)).0),
        where_not (has e.ssn p) refl (λ on. ap (λ (o : Option Entry). has (ssn_in o) p) (sym held) ∙ (at_up i p x id there (sym (up_ports_are_up x p view) ∙ flags.ssn p on)).1),
      )

  no_flags : HaveNoFlags u
  unfolding has_flags
  no_flags i x there = λ k. without_due x.database (λ id p. none_at i p x id (get x.database id) there refl) k || none_due x.ports (λ n port at. not_due x n port (λ p. fall.undue i x p there) at) k

pub flags_fall : ControlAgain → FlagsFall
flags_fall again s r t u fall = no_flags again s r t u fall
