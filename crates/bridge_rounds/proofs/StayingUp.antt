-- A port that is Up stays so with its neighbour, where each hello that comes there keeps it.
use Rattle.std.proofs.Common.{◌≡◌, inl, inr, ◌⊎◌, ℕ, suc, Bool, true, false, List, [], ◌∷◌, refl, sym, ap, ◌∙◌, subst, Option, Some, None, arith}
use Rattle.std.specs.Prelude.{◌==◌, ◌&&◌, if◌then◌else◌, Contains}
use Rattle.std.specs.Option.{option_and_then}
use Rattle.std.proofs.lemmas.Bool.{cases_eq, eq-eqb}
use Rattle.isis_pdu.specs.Pdu.{HelloValue}
use Rattle.spb_tlvs.specs.declared.three_way.ThreeWay.{ThreeWay}
use Rattle.adjacency.specs.declared.state.AdjState.{AdjState}
use Rattle.adjacency.specs.declared.state.AdjState.TheVariants.{Down, Initializing, Up}
use Rattle.adjacency.specs.declared.port.Adjacency.{Adjacency}
use Rattle.adjacency.specs.Hearing.{End, same_end, sender, keeps_up}
use Rattle.adjacency.specs.Adjacency.{kept_in, neighbour_of, is_up, IsSound, is_refreshed}
use Rattle.adjacency.proofs.Refreshing.{same_end_refl, refreshes, refreshed_is}
use Rattle.bridge_api.specs.declared.port.BridgePort.{BridgePort}
use Rattle.bridge_api.specs.View.{BridgeView, port_at, adjacency_at, neighbour_at, is_up_in, is_up_at}
use Rattle.bridge_api.specs.Parsing.{Parsed, parsed, hello_in}
use Rattle.bridge_api.specs.Parsing as parsing
use Rattle.bridge_api.specs.Step.{frame, step, frames_at}
use Rattle.bridge_api.specs.Laws.{IsSoundView}
use Rattle.bridge_api.proofs.Certified.{steps_keep_bridge}
use Rattle.bridge_api.proofs.Sound.{steps_stay_sound}
use Rattle.bridge_api.proofs.SoundPorts.{sound_at}
use Rattle.bridge_api.proofs.Time.{frame_silent}
use Rattle.bridge_rounds.specs.Inbox.{Inbox, StaysUp}
use Rattle.bridge_rounds.specs.Staying.{HellosKeep, PortStaysUp}
use Rattle.bridge_rounds.proofs.HelloMoves.{adjacency_in, hello_moves}
use Rattle.bridge_rounds.proofs.LspHeld.{up_carrier}

-- ---- an adjacency that is Up with an end

pub record IsUpWith (n : End) (a : Adjacency) : Type 0 where
  pub up : is_up a.state ≡ true
  pub neighbour : neighbour_of a ≡ Some n

abbrev up_of : Option Adjacency → Bool
up_of None = false
up_of (Some a) = is_up a.state

up_seen : (o : Option BridgePort) → is_up_in o ≡ up_of (adjacency_in o)
up_seen None = refl
up_seen (Some port) = refl

neighbour_seen : (o : Option BridgePort) → option_and_then (λ port. neighbour_of port.adjacency) o ≡ option_and_then neighbour_of (adjacency_in o)
neighbour_seen None = refl
neighbour_seen (Some port) = refl

-- so the port is
seen_up : (v : BridgeView) (p : ℕ) (n : End) (a : Adjacency) → adjacency_at v p ≡ Some a → IsUpWith n a → (is_up_at v p ≡ true) × (neighbour_at v p ≡ Some n)
unfolding adjacency_at neighbour_at is_up_at
seen_up v p n a there up =
    (up_seen (port_at v p) ∙ (ap up_of there ∙ up.up), neighbour_seen (port_at v p) ∙ (ap (option_and_then neighbour_of) there ∙ up.neighbour))

record Open (v : BridgeView) (p : ℕ) (n : End) : Type 0 where
  adjacency : Adjacency
  there : adjacency_at v p ≡ Some adjacency
  sound : IsSound adjacency
  kept : IsUpWith n adjacency

open_by : (v : BridgeView) (p : ℕ) (n : End) (o : Option BridgePort) → IsSoundView v → port_at v p ≡ o → is_up_in o ≡ true → option_and_then (λ port. neighbour_of port.adjacency) o ≡ Some n → Open v p n
unfolding adjacency_at
open_by v p n None was there up kept = absurd cc
open_by v p n (Some port) was there up kept = record {
  adjacency = port.adjacency;
  there = ap adjacency_in there;
  sound = (sound_at v p port was.ports there).adjacency;
  kept = record { up = up; neighbour = kept };
}

opens : (v : BridgeView) (p : ℕ) (n : End) → IsSoundView v → is_up_at v p ≡ true → neighbour_at v p ≡ Some n → Open v p n
unfolding neighbour_at is_up_at
opens v p n was up kept = open_by v p n (port_at v p) was refl up kept

-- ---- a hello that keeps it

pub same_kept : (s : AdjState) (end n : End) → is_up s ≡ true → kept_in s end ≡ Some n → end ≡ n
same_kept Down end n up kept = absurd cc
same_kept Initializing end n up kept = absurd cc
same_kept Up end n up kept = cc

kept_up : (v : BridgeView) (p : ℕ) (bytes : List ℕ) (h : HelloValue) (way : ThreeWay) (n : End) → parsed bytes ≡ parsing.hello h way → sender h way ≡ n → keeps_up v.id.system p h way ≡ true
    → (o : Open v p n) → (a : Adjacency) × ((adjacency_at (step (frame p bytes) v) p ≡ Some a) × IsUpWith n a)
kept_up v p bytes h way n is from keeps o =
    let a = o.adjacency in
    let end : same_end (a.neighbour, a.circuit) (sender h way) ≡ true = ap (λ (x : End). same_end x (sender h way)) (same_kept a.state (a.neighbour, a.circuit) n o.kept.up o.kept.neighbour ∙ sym from) ∙ same_end_refl (sender h way) in
    let refreshed : is_refreshed v.id.system p h way a ≡ true = sym (refreshed_is v.id.system p h way a keeps) ∙ (ap (λ (b : Bool). b && same_end (a.neighbour, a.circuit) (sender h way)) o.kept.up ∙ end) in
    let next : Adjacency = record a { hold = h.holding } in (
      next,
      (
        hello_moves p bytes h way is v a o.there (up_carrier a.state a o.kept.up o.sound) ∙ ap (λ (x : Adjacency). Some x) (sym (refreshes v.id.system p h way a o.sound refreshed).new),
        record { up = o.kept.up; neighbour = o.kept.neighbour },
      ),
    )

hello_or_not : (j : Parsed) → (hello_in j ≡ None) ⊎ ((g : HelloValue × ThreeWay) × (j ≡ parsing.hello g.0 g.1))
hello_or_not (parsing.dropped reason) = inl refl
hello_or_not (parsing.hello h way) = inr ((h, way), refl)
hello_or_not (parsing.lsp l) = inl refl
hello_or_not (parsing.csnp c) = inl refl
hello_or_not (parsing.psnp s) = inl refl
hello_or_not (parsing.customer da sa vid isid payload) = inl refl

-- ---- all frames

-- a frame that comes at the port is among those there
first_there : (p : ℕ) (f : ℕ × List ℕ) (fs : Inbox) → f.0 ≡ p → Contains (frames_at p (f ∷ fs)) f.1
first_there p f fs here = by (f.0 == p) (eq-eqb f.0 p here)
  where
    by : (b : Bool) → b ≡ true → Contains (if b then f.1 ∷ frames_at p fs else frames_at p fs) f.1
    by true is = (0, omega arith, refl)
    by false is = absurd cc

later_there : (p : ℕ) (f : ℕ × List ℕ) (fs : Inbox) (bytes : List ℕ) → Contains (frames_at p fs) bytes → Contains (frames_at p (f ∷ fs)) bytes
later_there p f fs bytes there = by (f.0 == p)
  where
    by : (b : Bool) → Contains (if b then f.1 ∷ frames_at p fs else frames_at p fs) bytes
    by true = (suc there.0, omega (arith, there.1), there.2)
    by false = there

silent_stays : (v : BridgeView) (p : ℕ) (f : ℕ × List ℕ) (n : End) → Open v p n → (f.0 ≡ p → hello_in (parsed f.1) ≡ None) → (a : Adjacency) × ((adjacency_at (step (frame f.0 f.1) v) p ≡ Some a) × IsUpWith n a)
silent_stays v p f n o silent = (o.adjacency, (frame_silent v f.0 p f.1 silent ∙ o.there, o.kept))

frame_stays : (v : BridgeView) (p : ℕ) (f : ℕ × List ℕ) (fs : Inbox) (n : End) → Open v p n → HellosKeep v p n (f ∷ fs) → (a : Adjacency) × ((adjacency_at (step (frame f.0 f.1) v) p ≡ Some a) × IsUpWith n a)
frame_stays v p f fs n o keep =
    elim (cases_eq f.0 p) [
      | inr apart ↦ silent_stays v p f n o (λ here. absurd (apart here))
      | inl here ↦ elim (hello_or_not (parsed f.1)) [
        | inl none ↦ silent_stays v p f n o (λ at. none)
        | inr is ↦
            let kept = keep f.1 is.0.0 is.0.1 (first_there p f fs here) is.1 in
            subst (λ (q : ℕ). (a : Adjacency) × ((adjacency_at (step (frame q f.1) v) p ≡ Some a) × IsUpWith n a)) (sym here) (kept_up v p f.1 is.0.0 is.0.1 n is.1 kept.0 kept.1 o)
      ]
    ]

stays : (fs : Inbox) (v : BridgeView) (p : ℕ) (n : End) → IsSoundView v → is_up_at v p ≡ true → neighbour_at v p ≡ Some n → HellosKeep v p n fs → StaysUp p n fs v
stays [] v p n was up kept keep = (up, kept)
stays (f ∷ fs) v p n was up kept keep =
    let u : BridgeView = step (frame f.0 f.1) v in
    let after = frame_stays v p f fs n (opens v p n was up kept) keep in
    let seen = seen_up u p n after.0 after.1.0 after.1.1 in
    let same = (steps_keep_bridge (frame f.0 f.1) v).id in (
      up,
      kept,
      stays fs u p n (steps_stay_sound (frame f.0 f.1) v tt was) seen.0 seen.1
          (λ bytes h way among is. let kept = keep bytes h way (later_there p f fs bytes among) is in (kept.0, ap (λ id. keeps_up id.system p h way) same ∙ kept.1)),
    )

pub port_stays_up : PortStaysUp
port_stays_up v fs p n was up kept keep = stays fs v p n was up kept keep
