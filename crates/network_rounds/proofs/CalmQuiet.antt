-- A network that has settled passes rounds in calm.
use Rattle.std.proofs.Common.{◌≡◌, ℕ, ◌-◌, true, false, sym, ap, ◌∙◌, Some, slice_get, arith}
use Rattle.std.specs.List.{AllByRecursion}
use Rattle.std.proofs.lemmas.Option.{same_Some}
use Rattle.adjacency.specs.declared.port.Adjacency.{Adjacency}
use Rattle.bridge_api.specs.View.{BridgeView, adjacency_at}
use Rattle.bridge_api.specs.Calm.{IsCalmFor, KeepsAll}
use Rattle.spb_world.proofs.BoxLemmas.{All-get}
use Rattle.spb_world.proofs.SoundLaneIds.{lane_leads}
use Rattle.network_model.specs.State.{State, links_of}
use Rattle.network_model.specs.Quiet.{IsQuiet, IsCalm}
use Rattle.network_model.specs.Sound.{IsSoundState}
use Rattle.network_model.proofs.Linked.{far_view}
use Rattle.network_model.proofs.QuietLaws.{quiet_says}
use Rattle.network_model.proofs.SoundMoves.{All-each}
use Rattle.network_rounds.specs.CalmLaws.{AreWorking, QuietPassesInCalm, SettledPassesInCalm}
use Rattle.network_rounds.specs.SettlingLaws.{RoundsSettle}
use Rattle.network_rounds.specs.Steady.{HaveLifeLeft, AreUp, IsSteadyState, known_ids}
use Rattle.network_rounds.proofs.Ends.{carrier_is}
use Rattle.network_rounds.proofs.SteadyRounds.{at_live_link, live_there, links_come_up}
use Rattle.network_rounds.proofs.Undue.{carrier_port}

module _ (m : ℕ) (s : State) (sound : IsSoundState s) (quiet : IsQuiet s) (working : AreWorking s) (fresh : AllByRecursion (λ v. v.spent ≡ false) s.views) (up : AreUp s) (life : HaveLifeLeft m s) where
  is_calm : IsCalm s
  is_calm = (quiet_says s).quiet.0 quiet

  keeps_all : (i : ℕ) (v : BridgeView) → slice_get s.views i ≡ Some v → KeepsAll v
  keeps_all i v at p a there carrier =
      let has = carrier_is v p a there ∙ carrier in
      let ends = at_live_link (links_of s) i p (sym (sound.carriers i v p at (carrier_port v p has)) ∙ has) in
      let leads = lane_leads (links_of s) i p ends.lane ends.out in
      let live : leads.link.live ≡ true = sym (live_there (links_of s) ends.lane.link leads.link leads.there) ∙ ends.live in
      let far = far_view s ends.lane.link ends.lane.dir leads.link sound leads.there in
      let kept = up ends.lane.link ends.lane.dir leads.link v far.0 leads.there live (ap (slice_get s.views) leads.bridge ∙ at) far.1 in
      let same : kept.adjacency ≡ a = same_Some kept.adjacency a (sym kept.there ∙ (ap (adjacency_at v) leads.port ∙ there)) in
      (sym (ap (λ (b : Adjacency). b.state) same) ∙ kept.up, sym (ap (λ (b : Adjacency). b.hold) same) ∙ kept.hold)

  bridge_calm : (i : ℕ) (v : BridgeView) → slice_get s.views i ≡ Some v → IsCalmFor m v
  bridge_calm i v at = record {
    works = All-get (λ u. u.failed ≡ false) s.views i v working.works at;
    fresh = All-get (λ u. u.spent ≡ false) s.views i v fresh at;
    flags = is_calm.flags i v at;
    kept = keeps_all i v at;
    life = life i v at;
  }

pub quiet_passes_in_calm : QuietPassesInCalm
quiet_passes_in_calm m s sound quiet working fresh up life = record {
  empty = (is_calm m s sound quiet working fresh up life).empty;
  bridges = All-each (IsCalmFor m) s.views (bridge_calm m s sound quiet working fresh up life);
  counted = working.counted;
}

pub settled_passes_in_calm : RoundsSettle → SettledPassesInCalm
settled_passes_in_calm settle d m k s t reached enough working =
    let steady : IsSteadyState (known_ids s) (m - k) t = (links_come_up m k s t reached.ready reached.rounds (omega (arith, enough)) reached.within).0 in
    quiet_passes_in_calm (m - k) t steady.sound (settle d m k s t reached enough) working steady.fresh steady.up steady.lasts
