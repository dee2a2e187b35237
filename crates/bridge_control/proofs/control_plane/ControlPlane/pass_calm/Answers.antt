use Rattle.std.proofs.Common.{◌≡◌, Bool, false, rules, sym, subst}
use Rattle.bridge_api.specs.Calm.{IsCalmFor, aged_by}
use Rattle.bridge_control.specs.Machine.{view_of, IsReady}
use Rattle.bridge_control.specs.Plane.{Plane}
use Rattle.bridge_control.proofs.Keeping.{kept_after}
use Rattle.bridge_control.proofs.InCalm.{aged_sound}
use Rattle.bridge_control.proofs.control_plane.ControlPlane.pass_calm.Goals as goal

pub invariant_of-self : goal.invariant_of-self
invariant_of-self c =
    let m = c.self.inside.machine in
    let made : c.self.inside.blank ≡ false = search rules in
    let planned : IsCalmFor c.args.seconds (record (view_of m) { failed = c.self.inside.failed }) = subst (λ (p : Plane). IsCalmFor c.args.seconds p.view) (sym c.self.view_is) c.requires.calm in
    let calm : IsCalmFor c.args.seconds (view_of m) = subst (λ (failed : Bool). IsCalmFor c.args.seconds (record (view_of m) { failed = failed })) planned.works planned in
    let ready : IsReady m = c.self.invariant.ready made planned.works in
    kept_after (aged_by c.args.seconds (view_of m)) c.self.inside.blank c.self.inside.failed c.pass_calm.new.self c.give_back.new.kept made (aged_sound c.args.seconds (view_of m) calm ready.sound) c.pass_calm.ensures c.give_back.ensures
