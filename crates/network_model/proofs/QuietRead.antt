-- What a bridge reads of another that a walk joins to it, when the network is quiet.
use Rattle.std.proofs.Common.{◌≡◌, inl, inr, Bool, true, false, ◌&&◌, [], ◌∷◌, Some, is_some, if◌then◌else◌, refl, sym, ap, ◌∙◌, subst}
use Rattle.std.specs.Prelude.{Contains}
use Rattle.spb_types.specs.Address.{same_system}
use Rattle.spb_types.specs.Graph.{IsAmong, IsDistinct}
use Rattle.spb_types.specs.declared.address.SystemId.{SystemId}
use Rattle.spb_content.specs.declared.content.Content.{Content}
use Rattle.spb_content.specs.Graph.{Contents, systems_in, said_of}
use Rattle.spb_content.specs.Local.{said_by}
use Rattle.spb_content.proofs.Members.{Has, has_from_contains}
use Rattle.spb_content.proofs.Links.{same_self, apart_is}
use Rattle.bridge_api.specs.View.{BridgeView}
use Rattle.bridge_api.specs.Own.{local_of}
use Rattle.bridge_api.specs.Graph.{contents_of, HoldsAs}
use Rattle.bridge_api.specs.Laws.{IsSoundView}
use Rattle.bridge_api.proofs.GraphRead.{reads_each_once}
use Rattle.bridge_laws.proofs.OthersRead.{reads_others}
use Rattle.network_model.specs.State.{State}
use Rattle.network_model.specs.Truth.{IsAtRest, AreJoined, HoldTheSame, QuietIsRead}
use Rattle.spb_world.proofs.BoxLemmas.{All-get}
use Rattle.network_model.proofs.Linked.{quiet_is_shared}

-- ---- what is said first

among_said : (list : Contents) (x : SystemId) (c : Content) → Has (x, c) list → IsAmong x (systems_in list)
among_said [] x c h = absurd h
among_said (d ∷ ds) x c (inl e) = inl (λ i. (e i).0)
among_said (d ∷ ds) x c (inr h) = inr (among_said ds x c h)

passed : (b t : Bool) (here there : Content) → t ≡ false → (if b && t then Some here else Some there) ≡ Some there
passed true true here there e = absurd cc
passed true false here there e = refl
passed false t here there e = refl

said_only : (list : Contents) (x : SystemId) (c : Content) → is_some c.inst ≡ true → IsDistinct (systems_in list) → Has (x, c) list → said_of list x ≡ Some c
said_only [] x c inst apart h = absurd h
said_only (d ∷ ds) x c inst apart (inl e) = subst (λ z. said_of (z ∷ ds) x ≡ Some c) e (rw (inst, same_self x) refl)
said_only (d ∷ ds) x c inst apart (inr h) =
    let other : same_system d.0 x ≡ false = apart_is d.0 x (λ e. apart.0 (subst (λ z. IsAmong z (systems_in ds)) (sym e) (among_said ds x c h))) in
    ap (λ o. if is_some d.1.inst && same_system d.0 x then Some d.1 else o) (said_only ds x c inst apart.1 h)
    ∙ passed (is_some d.1.inst) (same_system d.0 x) d.1 c other

-- ---- of a bridge that is joined to it

holds_as : (v w : BridgeView) → HoldTheSame v w → HoldsAs v w
holds_as v w same = record { versions = λ id own. same.versions id; bodies = λ id d e own here there live. same.bodies id d e here there live }

reads_there : (s : State) (v w : BridgeView) → IsAtRest s → AreJoined s v w → Contains (contents_of v) (w.id.system, said_by (local_of w))
reads_there s v w rest joined =
    reads_others v w (All-get IsSoundView s.views joined.to w rest.sound.views joined.there)
    (All-get (λ x. x.spent ≡ false) s.views joined.to w rest.fresh joined.there)
    (holds_as v w (quiet_is_shared s v w rest.sound rest.calm rest.bodies joined))

pub quiet_is_read : QuietIsRead
quiet_is_read s v w rest joined =
    said_only (contents_of v) w.id.system (said_by (local_of w)) refl (reads_each_once v)
    (has_from_contains (w.id.system, said_by (local_of w)) (contents_of v) (reads_there s v w rest joined))
