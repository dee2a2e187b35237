-- A quiet network: two bridges, and a link between them that went down again.
use Rattle.std.proofs.Common.{◌≡◌, inl, inr, ◌-◌, ℕ, zero, suc, Bool, true, false, true≢false, nat_le, List, [], ◌∷◌, ◌++◌, length, refl, sym, ap, ◌∙◌, subst, Option, Some, None, slice_get, if◌then◌else◌, arith}
use Rattle.std.specs.Prelude.{slice_set, ◌||◌}
use Rattle.std.specs.List.{list_any}
use Rattle.std.specs.FinMap.{get}
use Rattle.std.proofs.lemmas.Bool.{cases_Bool}
use Rattle.spb_types.specs.declared.address.LspId.{LspId}
use Rattle.spb_types.specs.declared.ports.PortSet.{PortSet}
use Rattle.spb_types.specs.Ports.{has}
use Rattle.spb_types.proofs.PortLemmas.{has-no_ports}
use Rattle.lsdb.specs.Entry.{Entry}
use Rattle.lsdb.specs.Database.{srm_in, ssn_in, any_flags}
use Rattle.lsdb.proofs.Flags.{without_due}
use Rattle.flooding.specs.Entries.{HasFlagsAt}
use Rattle.link_model.specs.Lanes.{no_frames}
use Rattle.scenario.specs.declared.command.Command.{Command}
use Rattle.scenario.specs.declared.command.Command.TheVariants as command
use Rattle.spb_types.specs.declared.link.Dir.TheVariants.{Ab, Ba}
use Rattle.bridge_api.specs.declared.port.BridgePort.{BridgePort}
use Rattle.bridge_api.specs.View.{BridgeView, port_in, is_up_in, is_up_at, up_ports, has_flags}
use Rattle.bridge_api.specs.Config.{port_without_carrier}
use Rattle.bridge_api.specs.Hearing.{with_carrier_at, with_carrier}
use Rattle.bridge_api.specs.Laws.{IsSoundView}
use Rattle.spb_world.specs.declared.declaration.DeclaredLink.{DeclaredLink}
use Rattle.network_model.specs.declared.kind_rule.KindRule.TheVariants as rule
use Rattle.spb_world.specs.Reason.{reason_unless}
use Rattle.spb_world.specs.World.{World}
use Rattle.spb_world.specs.Declaring.{is_vid_range, is_new_name, is_new_system, is_new_source, is_bridge_range, is_free_port, is_link_range, is_unlinked, vid_refusal, bridge_refusal, link_refusal, plan_of, bridge_of, with_vid, with_bridge, with_link, with_live}
use Rattle.network_model.specs.State.{State, next_box}
use Rattle.spb_world.specs.Links.{lane_out}
use Rattle.network_model.specs.Events.{stepped, switched_on, switched_off}
use Rattle.network_model.specs.Refusing.{declared_refusal}
use Rattle.spb_world.specs.Naming.{named_link_refusal, down_refusal}
use Rattle.network_model.specs.Play.{with_vid_more, declared, linked, named_link, at_link, next_state, played_all}
use Rattle.network_model.specs.SoundLaws.{AreAccepted, Scene}
use Rattle.network_model.specs.Quiet.{IsQuiet, HaveMet, AreEmpty, HaveNoFlags}
use Rattle.network_model.specs.Convergence.{SomeNetworkIsQuiet}
use Rattle.network_model.proofs.BridgeLaws.{up_ports_are_up}
use Rattle.network_model.proofs.SoundConfigured.{with_first_carrier, first_port, first_ports, originated_if_changed_ports}
use Rattle.network_model.proofs.SoundMeeting.{system}
use Rattle.network_model.proofs.SoundMet.{config}
use Rattle.network_model.proofs.SoundPlay.{networks_are_sound}
use Rattle.network_model.proofs.SoundWitness.{source, box, start, declarations}
use Rattle.network_model.proofs.QuietLaws.{quiet_says}

-- ---- a bridge whose only port lost carrier

abbrev gone : ℕ → BridgeView
gone n = with_carrier 1 false (with_first_carrier (config n) 10)

gone_port : (v : BridgeView) (m : ℕ) → v.ports ≡ first_port m ∷ [] → (with_carrier 1 false v).ports ≡ port_without_carrier m ∷ []
unfolding with_carrier
gone_port v m is =
    ap (λ (ports : List BridgePort). (with_carrier_at 1 false (port_in ports 1) v).ports) is
    ∙ (originated_if_changed_ports (record v { ports = slice_set v.ports 0 (port_without_carrier m) })
    ∙ ap (λ (ports : List BridgePort). slice_set ports 0 (port_without_carrier m)) is)

-- a sound bridge whose only port has no carrier
record IsAlone (v : BridgeView) : Type 0 where
  sound : IsSoundView v
  metric : ℕ
  ports : v.ports ≡ port_without_carrier metric ∷ []

module _ (v : BridgeView) (alone : IsAlone v) where
  in_one : (b : Bool) (n : ℕ) → is_up_in (if b then slice_get (port_without_carrier alone.metric ∷ []) n else None) ≡ false
  in_one false n = refl
  in_one true zero = refl
  in_one true (suc n) = refl

  not_up : (p : ℕ) → is_up_at v p ≡ false
  unfolding is_up_at
  not_up p = ap (λ (ports : List BridgePort). is_up_in (port_in ports p)) alone.ports ∙ in_one (nat_le 1 p) (p - 1)

  nowhere_up : (p : ℕ) → has (up_ports v) p ≡ false
  nowhere_up p = up_ports_are_up v p alone.sound ∙ not_up p

  none_where : (set : PortSet) (p : ℕ) → (has set p ≡ true → has (up_ports v) p ≡ true) → has set p ≡ false
  none_where set p up =
      elim (cases_Bool (has set p)) [
        | inl on ↦ absurd (true≢false (sym (up on) ∙ nowhere_up p))
        | inr off ↦ off
      ]

  none_due : (id : LspId) (p : ℕ) (o : Option Entry) → get v.database id ≡ o → (has (srm_in o) p ≡ false) × (has (ssn_in o) p ≡ false)
  none_due id p None at = (has-no_ports p, has-no_ports p)
  none_due id p (Some e) at =
      let flags : HasFlagsAt (up_ports v) e = alone.sound.database.flags id e at in
      (none_where e.srm p (flags.srm p), none_where e.ssn p (flags.ssn p))

  no_flags : has_flags v ≡ false
  unfolding has_flags
  no_flags =
      ap (λ (ports : List BridgePort). any_flags v.database || list_any (λ port. port.csnp_due) ports) alone.ports
      ∙ ap (λ (b : Bool). b || false) (without_due v.database (λ id p. none_due id p (get v.database id) refl))

-- ---- two such bridges, and their link

abbrev link : DeclaredLink
link = record { a = record { bridge = 0; port = 1; metric = 10 }; b = record { bridge = 1; port = 1; metric = 10 }; live = false }

abbrev world : World
world = record {
  vids = plan_of 100 1 ∷ [];
  bridges = (97 ∷ [], bridge_of 32768 (system 1).mac (source 1) 1) ∷ (98 ∷ [], bridge_of 32768 (system 2).mac (source 2) 1) ∷ [];
  links = (108 ∷ [], link) ∷ [];
  services = [];
  attached = [];
}

abbrev resting : BridgeView → BridgeView → State
resting v w = record { rule = rule.Plain; rack = []; world = world; views = v ∷ w ∷ []; lanes = no_frames ∷ []; outs = []; rounds = 0; drained = 0; accepted = 5; ticks = 0 ∷ 0 ∷ [] }

is_view : (v w : BridgeView) → Some v ≡ Some w → v ≡ w
is_view v w same = cc

module _ (v w : BridgeView) (first : IsAlone v) (other : IsAlone w) where
  met : HaveMet (resting v w)
  met = record {
    met = λ k dir l at live. none_live k l at live;
    others = λ i u p at up. none_up i u p at up;
  }
    where
      none_live : {P : Type 0} (k : ℕ) (l : DeclaredLink) → slice_get (link ∷ []) k ≡ Some l → l.live ≡ true → P
      none_live zero l at live = let same : link ≡ l = cc in absurd (true≢false (sym live ∙ sym (ap (λ (x : DeclaredLink). x.live) same)))
      none_live (suc k) l at live = absurd cc

      none_up : {P : Type 0} (i : ℕ) (u : BridgeView) (p : ℕ) → slice_get (v ∷ w ∷ []) i ≡ Some u → is_up_at u p ≡ true → P
      none_up zero u p at up = absurd (true≢false (sym up ∙ subst (λ (x : BridgeView). is_up_at x p ≡ false) (is_view v u at) (not_up v first p)))
      none_up (suc zero) u p at up = absurd (true≢false (sym up ∙ subst (λ (x : BridgeView). is_up_at x p ≡ false) (is_view w u at) (not_up w other p)))
      none_up (suc (suc i)) u p at up = absurd cc

  empty : AreEmpty (resting v w)
  empty zero Ab = refl
  empty zero Ba = refl
  empty (suc k) dir = refl

  flags : HaveNoFlags (resting v w)
  flags zero u at = subst (λ (x : BridgeView). has_flags x ≡ false) (is_view v u at) (no_flags v first)
  flags (suc zero) u at = subst (λ (x : BridgeView). has_flags x ≡ false) (is_view w u at) (no_flags w other)
  flags (suc (suc i)) u at = absurd cc

  rests : IsQuiet (resting v w)
  rests = (quiet_says (resting v w)).quiet.1 (record { met = met; empty = empty; flags = flags })

-- ---- the commands

abbrev script : List Command
script = declarations ++ command.Down (108 ∷ []) ∷ []

accepted : AreAccepted start script
unfolding next_state reason_unless vid_refusal bridge_refusal link_refusal is_vid_range is_new_name is_new_system is_new_source is_bridge_range is_free_port is_link_range is_unlinked with_vid with_bridge with_link with_live next_box lane_out stepped switched_on with_vid_more declared_refusal named_link_refusal down_refusal declared linked named_link at_link
accepted = (refl, (refl, (refl, (refl, (refl, tt)))))

abbrev scene : Scene
scene = record { rule = rule.Plain; rack = box ∷ box ∷ []; commands = script; accepted = accepted }

both_sound : IsSoundView (gone 1) × IsSoundView (gone 2)
unfolding next_state vid_refusal with_vid with_bridge with_link with_live next_box lane_out stepped switched_on switched_off with_vid_more declared linked named_link at_link
both_sound =
    let views = (networks_are_sound scene).views in
    (views.0, views.1.0)

gone_alone : (n : ℕ) → IsSoundView (gone n) → IsAlone (gone n)
gone_alone n sound = record { sound = sound; metric = 10; ports = gone_port (with_first_carrier (config n) 10) 10 (first_ports (config n) 1 10 refl) }

both_rest : IsQuiet (resting (gone 1) (gone 2))
both_rest = rests (gone 1) (gone 2) (gone_alone 1 both_sound.0) (gone_alone 2 both_sound.1)

ends_quiet : IsQuiet (played_all start script)
unfolding next_state vid_refusal with_vid with_bridge with_link with_live next_box lane_out stepped switched_on switched_off with_vid_more declared linked named_link at_link
ends_quiet = both_rest

two_bridges : length (played_all start script).views ≡ 2
unfolding next_state vid_refusal with_vid with_bridge with_link with_live next_box lane_out stepped switched_on switched_off with_vid_more declared linked named_link at_link
two_bridges = refl

one_link : length (played_all start script).world.links ≡ 1
unfolding next_state vid_refusal with_vid with_bridge with_link with_live next_box lane_out stepped switched_on switched_off with_vid_more declared linked named_link at_link
one_link = refl

pub some_network_is_quiet : SomeNetworkIsQuiet
some_network_is_quiet = record {
  scene = scene;
  few = omega arith;
  bridges = two_bridges;
  links = one_link;
  quiet = ends_quiet;
}
