-- One round, and any number of them: which ids are held, and that nothing is lost once the lanes were empty.
use Rattle.std.proofs.Common.{◌≡◌, ◌≢◌, ◌⊎◌, inl, inr, ℕ, zero, suc, ◌≤◌, false, List, [], length, refl, sym, ap, ◌∙◌, subst, Option, Some, None, slice_get, arith}
use Rattle.std.specs.Prelude.{Contains, IsSome}
use Rattle.std.specs.List.{AllByRecursion}
use Rattle.std.specs.Option.{option_map}
use Rattle.std.specs.FinMap.{get, len}
use Rattle.std.proofs.lemmas.Option.{same_Some}
use Rattle.link_model.specs.Lane.{Frame, IsIn}
use Rattle.link_model.specs.Lanes.{lane_of}
use Rattle.link_model.specs.declared.lanes.LinkLanes.{LinkLanes}
use Rattle.spb_types.specs.declared.address.LspId.{LspId}
use Rattle.spb_types.specs.declared.link.Dir.{Dir}
use Rattle.spb_types.specs.declared.link.Dir.TheVariants.{Ab, Ba}
use Rattle.lsdb.specs.declared.version.Version.{Version}
use Rattle.lsdb.specs.declared.version.Version.TheVariants.{Absent, Live, Dead}
use Rattle.lsdb.specs.Version.{leq, IsAtMost}
use Rattle.lsdb.specs.Entry.{Entry}
use Rattle.lsdb.specs.Database.{version_in}
use Rattle.lsdb.specs.Certificate.{IsClaimed}
use Rattle.bridge_api.specs.View.{BridgeView, IsPort}
use Rattle.bridge_api.specs.Parsing.{parsed, is_carrying}
use Rattle.bridge_api.specs.Step.{second, step, sent}
use Rattle.bridge_api.specs.Laws.{IsSoundView, IsSent, claims_said}
use Rattle.bridge_api.proofs.Sound.{steps_stay_sound}
use Rattle.bridge_rounds.specs.Inbox.{Inbox, after_round, IsMail, HoldsWithin}
use Rattle.bridge_rounds.proofs.Folds.{claim_comes}
use Rattle.bridge_rounds.proofs.MailFits.{few_held}
use Rattle.spb_world.proofs.BoxLemmas.{All-get}
use Rattle.spb_world.specs.World.{World, things_of}
use Rattle.spb_world.specs.declared.declaration.DeclaredLink.{DeclaredLink}
use Rattle.spb_world.specs.Links.{near_end, far_end}
use Rattle.network_model.specs.State.{State, links_of}
use Rattle.network_model.specs.Events.{all_ticked}
use Rattle.network_model.specs.Sound.{IsSoundState, IsFrameFrom, LinkAgrees}
use Rattle.network_model.specs.Quiet.{AreEmpty}
use Rattle.network_model.proofs.FitsLemmas.{far_is_port, alike_ticked_from}
use Rattle.network_model.proofs.Linked.{far_view}
use Rattle.network_model.proofs.SoundEvents.{Sound-ticked_from}
use Rattle.network_model.proofs.SoundLane.{All-in}
use Rattle.network_rounds.specs.Premises.{most_ids}
use Rattle.network_rounds.specs.Rounds.{HasNoCustomers, IsHeardRound, IsRoundOf, AreRounds}
use Rattle.network_rounds.specs.Steady.{IsReadyFor, known_ids, HoldOnly, inbox_of, LosesNothing, NothingIsLost}
use Rattle.network_rounds.proofs.Along.{AreSame, same_sound, round_sound}
use Rattle.network_rounds.proofs.BridgeLaws.{seconds_carry_none, rounds_hold_ids, seconds_send_at_port, mail_holds_within}
use Rattle.network_rounds.proofs.Coming.{ComesOver, each_comes, of_each, to_each, in_ticked}
use Rattle.network_rounds.proofs.Heard.{all_tick, all_tick_world, rounds_are_heard}
use Rattle.network_rounds.proofs.Lanes.{lanes_hold_what_is_sent}
use Rattle.network_rounds.proofs.Ports.{inbox_at_port}
use Rattle.network_rounds.proofs.Start.{starts_plain, starts_within, starts_few}

-- ---- versions

some_of : {X : Type 0} (o : Option X) → IsSome o → (x : X) × (o ≡ Some x)
some_of None is = absurd cc
some_of (Some x) is = (x, refl)

at_most_absent : (a : Version) → IsAtMost a Absent → a ≡ Absent
unfolding leq
at_most_absent Absent low = refl
at_most_absent (Live seq sum) low = absurd cc
at_most_absent (Dead seq) low = absurd cc

held_of : (a : Version) (o : Option Entry) → IsAtMost a (version_in o) → a ≢ Absent → (e : Entry) × (o ≡ Some e)
held_of a None low some = absurd (some (at_most_absent a low))
held_of a (Some e) low some = (e, refl)

-- ---- one bridge

second_within : (ids : List LspId) (v : BridgeView) → IsSoundView v → HoldsWithin ids v → HoldsWithin ids (step second v)
second_within ids v sound within id e held =
    elim (rounds_hold_ids second v id e sound refl held) [
      | inl was ↦ let old = some_of (get v.database id) was in within id old.0 old.1
      | inr claim ↦ absurd claim.1.0
    ]

-- ---- all bridges tick

from_map : {X Y : Type 0} (f : X → Y) (o : Option X) (y : Y) → option_map f o ≡ Some y → (x : X) × (o ≡ Some x) × (y ≡ f x)
from_map f None y is = absurd cc
from_map f (Some x) y is = (x, refl, sym (same_Some (f x) y is))

pub near_view : (s : State) (k : ℕ) (dir : Dir) (l : DeclaredLink) → IsSoundState s → slice_get (links_of s) k ≡ Some l → (v : BridgeView) × (slice_get s.views (near_end dir l).bridge ≡ Some v)
near_view s k Ab l sound there = far_view s k Ba l sound there
near_view s k Ba l sound there = far_view s k Ab l sound there

module _ (s : State) (sound : IsSoundState s) where
  pub sound_at : (i : ℕ) (v : BridgeView) → slice_get s.views i ≡ Some v → IsSoundView v
  sound_at i v at = All-get IsSoundView s.views i v sound.views at

  pub ticked_sound : IsSoundState (all_ticked s)
  ticked_sound = Sound-ticked_from (length s.views) 0 s sound

  pub ticked_there : (k : ℕ) (l : DeclaredLink) → slice_get (links_of s) k ≡ Some l → slice_get (links_of (all_ticked s)) k ≡ Some l
  ticked_there k l there = ap (λ (w : World). slice_get (things_of w.links) k) (all_tick_world s) ∙ there

  pub ticked_view : (i : ℕ) (v : BridgeView) → slice_get s.views i ≡ Some v → slice_get (all_ticked s).views i ≡ Some (step second v)
  ticked_view i v at = all_tick s i ∙ ap (option_map (step second)) at

  pub second_sound : (i : ℕ) (v : BridgeView) → slice_get s.views i ≡ Some v → IsSoundView (step second v)
  second_sound i v at = steps_stay_sound second v tt (sound_at i v at)

  -- a frame that comes in the round is one of its sender, as that is a second later
  pub record ComesFrom (i : ℕ) (w : BridgeView) (f : ℕ × Frame) : Type 0 where
    pub comes : ComesOver (links_of s) (all_ticked s).lanes i f
    pub v : BridgeView
    pub near : slice_get s.views (near_end comes.dir comes.link).bridge ≡ Some v
    pub said : IsFrameFrom (step second v) (near_end comes.dir comes.link).port (step second w) (far_end comes.dir comes.link).port f.1
    pub from : IsIn f.1 (lane_of s.lanes comes.place comes.dir) ⊎ IsSent (sent second v) (near_end comes.dir comes.link).port f.1

  pub comes_from : (i : ℕ) (w : BridgeView) (f : ℕ × Frame) → slice_get s.views i ≡ Some w → ComesOver (links_of s) (all_ticked s).lanes i f → ComesFrom i w f
  comes_from i w f at comes =
      let near = near_view s comes.place comes.dir comes.link sound comes.there in
      let agrees : LinkAgrees (step second near.0) (near_end comes.dir comes.link).port (step second w) (far_end comes.dir comes.link).port (lane_of (all_ticked s).lanes comes.place comes.dir) =
      ticked_sound.agree comes.place comes.dir comes.link (step second near.0) (step second w) (ticked_there comes.place comes.link comes.there)
      (ticked_view (near_end comes.dir comes.link).bridge near.0 near.1) (ticked_view (far_end comes.dir comes.link).bridge w (ap (slice_get s.views) comes.bridge ∙ at)) in
      record {
        comes = comes;
        v = near.0;
        near = near.1;
        said = All-in (IsFrameFrom (step second near.0) (near_end comes.dir comes.link).port (step second w) (far_end comes.dir comes.link).port) (lane_of (all_ticked s).lanes comes.place comes.dir) f.1 agrees.said comes.among;
        from = in_ticked s comes.place comes.dir comes.link near.0 f.1 sound comes.there near.1 comes.among;
      }

  pub each_from : (i : ℕ) (w : BridgeView) → slice_get s.views i ≡ Some w → AllByRecursion (ComesFrom i w) (inbox_of s i)
  each_from i w at =
      to_each (ComesOver (links_of s) (all_ticked s).lanes i) (ComesFrom i w) (inbox_of s i) (each_comes (links_of s) (all_ticked s).lanes i) (λ f comes. comes_from i w f at comes)

  -- ---- mail

  module _ (ids : List LspId) (plain : HasNoCustomers s.lanes) (only : HoldOnly ids s) where
    pub second_only : (i : ℕ) (v : BridgeView) → slice_get s.views i ≡ Some v → HoldsWithin ids (step second v)
    second_only i v at = second_within ids v (sound_at i v at) (only i v at)

    port_there : (i : ℕ) (w : BridgeView) (f : ℕ × Frame) → slice_get s.views i ≡ Some w → ComesFrom i w f → IsPort (step second w) f.0
    port_there i w f at from =
        let c = from.comes in
        let t : State = all_ticked s in
        subst (IsPort (step second w)) c.port
        (far_is_port t c.place c.link c.dir ticked_sound.world ticked_sound.fits (ticked_there c.place c.link c.there) (step second w)
        (ticked_view (far_end c.dir c.link).bridge w (ap (slice_get s.views) c.bridge ∙ at)))

    plain_there : (i : ℕ) (w : BridgeView) (f : ℕ × Frame) → ComesFrom i w f → is_carrying (parsed f.1) ≡ false
    plain_there i w f from =
        elim from.from [
          | inl old ↦ All-in (λ bytes. is_carrying (parsed bytes) ≡ false) (lane_of s.lanes from.comes.place from.comes.dir) f.1 (plain from.comes.place from.comes.dir) old
          | inr new ↦ seconds_carry_none from.v (near_end from.comes.dir from.comes.link).port f.1 new
        ]

    known_there : (i : ℕ) (w : BridgeView) (f : ℕ × Frame) (id : LspId) (a : Version) → ComesFrom i w f → IsClaimed (claims_said (parsed f.1)) id a → a ≢ Absent → Contains ids id
    known_there i w f id a from claimed some =
        let held = held_of a (get (step second from.v).database id) (from.said.claims id a claimed) some in
        second_only (near_end from.comes.dir from.comes.link).bridge from.v from.near id held.0 held.1

    pub mail_of : (i : ℕ) (w : BridgeView) → slice_get s.views i ≡ Some w → IsMail ids (step second w) (inbox_of s i)
    mail_of i w at =
        let fs : Inbox = inbox_of s i in
        let each = each_from i w at in
        record {
          ports = to_each (ComesFrom i w) (λ f. IsPort (step second w) f.0) fs each (λ f from. port_there i w f at from);
          control = to_each (ComesFrom i w) (λ f. is_carrying (parsed f.1) ≡ false) fs each (λ f from. plain_there i w f from);
          known = λ p id a claimed some.
              let comes = claim_comes fs p id a claimed in
              known_there i w (p, comes.bytes) id a (of_each (ComesFrom i w) fs p comes.bytes each comes.sent) comes.claimed some;
        }

-- ---- a round

pub heard_round : (s t : State) → IsSoundState s → HasNoCustomers s.lanes → IsRoundOf s t → IsHeardRound s t
heard_round s t sound plain is =
    let heard = rounds_are_heard s sound plain in
    record {
      world = is.world ∙ heard.world;
      lanes = λ k dir. ap (λ (lanes : List LinkLanes). lane_of lanes k dir) is.lanes ∙ heard.lanes k dir;
      views = λ i. ap (λ (views : List BridgeView). slice_get views i) is.views ∙ heard.views i;
    }

-- which bridge is at a place after it
pub heard_view : (s t : State) (i : ℕ) (w : BridgeView) → IsHeardRound s t → slice_get t.views i ≡ Some w → (v : BridgeView) × (slice_get s.views i ≡ Some v) × (w ≡ after_round (inbox_of s i) v)
heard_view s t i w heard at = from_map (after_round (inbox_of s i)) (slice_get s.views i) w (sym (heard.views i) ∙ at)

-- what is sound, carries no customer's frame and holds these ids alone
pub record Passes (ids : List LspId) (s : State) : Type 0 where
  pub sound : IsSoundState s
  pub plain : HasNoCustomers s.lanes
  pub only : HoldOnly ids s

pub empty_plain : (s : State) → AreEmpty s → HasNoCustomers s.lanes
empty_plain s empty k dir = subst (λ (lane : List Frame). AllByRecursion (λ bytes. is_carrying (parsed bytes) ≡ false) lane) (sym (empty k dir)) tt

pub passes_round : (ids : List LspId) (s t : State) → Passes ids s → IsRoundOf s t → Passes ids t × AreEmpty t
passes_round ids s t was is =
    let heard = heard_round s t was.sound was.plain is in
    let empty : AreEmpty t = heard.lanes in (
      record {
        sound = round_sound s t is was.sound;
        plain = empty_plain t empty;
        only = λ i w at.
            let before = heard_view s t i w heard at in
            let v = before.0 in
            subst (HoldsWithin ids) (sym before.2)
            (mail_holds_within ids (step second v) (inbox_of s i) (second_sound s was.sound i v before.1) (mail_of s was.sound ids was.plain was.only i v before.1) (second_only s was.sound ids was.plain was.only i v before.1)).1;
      },
      empty,
    )

pub passes_same : (ids : List LspId) (s t : State) → AreSame s t → Passes ids s → Passes ids t
passes_same ids s t same was = record {
  sound = same_sound s t same was.sound;
  plain = subst HasNoCustomers (sym same.lanes) was.plain;
  only = subst (λ (views : List BridgeView). (i : ℕ) (v : BridgeView) → slice_get views i ≡ Some v → HoldsWithin ids v) (sym same.views) was.only;
}

passes_on : (ids : List LspId) (k : ℕ) (s t : State) → AreRounds k s t → Passes ids s → AreEmpty s → Passes ids t × AreEmpty t
passes_on ids zero s t are was empty =
    let same : AreSame s t = record { world = are.0; views = are.1; lanes = are.2 } in
    (passes_same ids s t same was, subst (λ (lanes : List LinkLanes). (k : ℕ) (dir : Dir) → lane_of lanes k dir ≡ []) (sym are.2) empty)
passes_on ids (suc k) s t are was empty = let one = passes_round ids s are.0 was are.1 in passes_on ids k are.0 t are.2 one.0 one.1

pub passes_all : (ids : List LspId) (k : ℕ) (s t : State) → AreRounds k s t → Passes ids s → Passes ids t × (1 ≤ k → AreEmpty t)
passes_all ids zero s t are was = (passes_same ids s t (record { world = are.0; views = are.1; lanes = are.2 }) was, λ some. absurd (omega (arith, some)))
passes_all ids (suc k) s t are was =
    let one = passes_round ids s are.0 was are.1 in
    let all = passes_on ids k are.0 t are.2 one.0 one.1 in
    (all.0, λ some. all.1)

-- ---- nothing is lost

pub loses_nothing : (ids : List LspId) (s : State) → Passes ids s → AreEmpty s → length ids ≤ most_ids → LosesNothing s
loses_nothing ids s was empty few = record {
  empty = empty;
  hear = λ k dir l v there live at.
      let held : len (step second v).database ≤ 900 = omega (arith, few_held ids (step second v) (second_only s was.sound ids was.plain was.only (near_end dir l).bridge v at), few) in
      let room = seconds_send_at_port v (near_end dir l).port 900 (sound_at s was.sound (near_end dir l).bridge v at) (omega arith) held in
      inbox_at_port s (all_ticked s).lanes k dir l was.sound (sym (alike_ticked_from (length s.views) 0 s).lanes) there
      ∙ lanes_hold_what_is_sent s k dir l v was.sound empty there live at (omega (arith, room));
}

pub starts_passing : (m k : ℕ) (s : State) → IsReadyFor m k s → Passes (known_ids s) s
starts_passing m k s start = record { sound = start.sound; plain = starts_plain m s start.ready; only = starts_within s }

pub nothing_is_lost : NothingIsLost
nothing_is_lost m k s t start are =
    let few : length (known_ids s) ≤ most_ids = starts_few m s start.ready in
    let all = passes_all (known_ids s) k s t are (starts_passing m k s start) in
    (all.0.only, few, λ some. loses_nothing (known_ids s) t all.0 (all.1 some) few)
