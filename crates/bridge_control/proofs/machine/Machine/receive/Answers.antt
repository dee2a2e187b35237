use Rattle.std.proofs.Common.{◌≡◌, ◌-◌, [], Bool, refl, sym, ap, ◌∙◌}
use Rattle.std.specs.Prelude.{slice_set, if◌then◌else◌}
use Rattle.std.proofs.lemmas.Result.{on_ok_weaker}
use Rattle.isis_pdu.specs.Pdu.{HelloValue}
use Rattle.adjacency.proofs.Refreshing.{keeps_some}
use Rattle.adjacency.specs.declared.port.Adjacency.{Adjacency}
use Rattle.adjacency.specs.Adjacency.{after_hello, change_by_hello}
use Rattle.adjacency.specs.declared.state.AdjacencyChange.TheVariants as did
use Rattle.bridge_api.specs.Parsing as parsing
use Rattle.bridge_api.specs.Hearing.{with_adjacency}
use Rattle.bridge_control.specs.Heard.{hello_saying}
use Rattle.bridge_control.specs.Machine.{view_of}
use Rattle.bridge_control.specs.Ports.{with_hold}
use Rattle.bridge_control.proofs.Anew.{heard_path}
use Rattle.bridge_control.proofs.Moving.{unmoved, nothing_moved, nothing_gained, unmoved_without_carrier, own_still, ports_tables}
use Rattle.bridge_control.proofs.Owning.{after_same}
use Rattle.bridge_control.proofs.Putting.{there_at, carrier_there, sound_there}
use Rattle.bridge_control.proofs.Heeding.{deaf_after, not_true, not_false}
use Rattle.bridge_control.proofs.Refreshed.{refreshed_after, last_judged}
use Rattle.bridge_control.proofs.Tlvless.{hears_alike, after_alike, change_alike}
use Rattle.bridge_control.proofs.Wire.{on_ok, on_err}
use Rattle.bridge_control.proofs.machine.Machine.receive.Goals as goal

pub returns-then-not-port_at-clause-after : goal.returns-then-not-port_at-clause-after
returns-then-not-port_at-clause-after c =
    let port = c.port_at.result in
    let there = there_at c.args.self.now c.as_slice.result.now c.args.port port c.as_slice.ensures.value c.port_at.ensures in
    deaf_after c.args.self.now c.count_drop.new.self c.args.port c.args.frame.now port c.requires.port there (not_true port.adjacency.carrier c.if-not-port_at.true) c.count_drop.ensures.after

pub returns-then-not-port_at-clause-kept : goal.returns-then-not-port_at-clause-kept
returns-then-not-port_at-clause-kept c = own_still _ _ c.args.kept.now c.count_drop.ensures.tables c.requires.tables

pub returns-then-not-port_at-clause-sent : goal.returns-then-not-port_at-clause-sent
returns-then-not-port_at-clause-sent c =
    let port = c.port_at.result in
    let there = there_at c.args.self.now c.as_slice.result.now c.args.port port c.as_slice.ensures.value c.port_at.ensures in
    nothing_moved _ c.args.outbox.now (unmoved_without_carrier (view_of c.args.self.now) c.args.port c.args.frame.now port there (not_true port.adjacency.carrier c.if-not-port_at.true))

pub hear_anew-requires-clause-carrier : goal.hear_anew-requires-clause-carrier
hear_anew-requires-clause-carrier c =
    let port = c.port_at.result in
    let there = there_at c.args.self.now c.as_slice.result.now c.args.port port c.as_slice.ensures.value c.port_at.ensures in
    carrier_there (view_of c.args.self.now) c.args.port port there ∙ not_false port.adjacency.carrier c.if-not-port_at.false

-- the hello that came last, by which the holding count only begins anew

pub refresh-requires-clause-holding : goal.refresh-requires-clause-holding
refresh-requires-clause-holding c = λ keeps.
    let m = c.args.self.now in
    let said = c.in-Some.heard.now.said in
    keeps_some m.id.system c.args.port (hello_saying said []) said.way (c.in-Some.ensures.judged m.id.system (last_judged m c.as_slice-2.result.now c.requires.ready c.as_slice-2.ensures.value) keeps)

pub refresh-requires-clause-sound : goal.refresh-requires-clause-sound
refresh-requires-clause-sound c =
    let there = there_at c.args.self.now c.as_slice-3.result.now c.args.port c.port_at-new.result c.as_slice-3.ensures.value c.port_at-new.ensures in
    let sound = sound_there c.args.self.now c.args.port c.port_at-new.result c.requires.ready there in
    sound.adjacency

pub returns-then-refresh-clause-after : goal.returns-then-refresh-clause-after
returns-then-refresh-clause-after c =
    let m = c.args.self.now in
    let p = c.args.port in
    let said = c.in-Some.heard.now.said in
    let is = c.in-Some.ensures.said in
    let h : HelloValue = hello_saying said is.tlvs in
    let port = c.port_at-new.result in
    let new : Adjacency = c.refresh.new.adjacency in
    let there = there_at m c.as_slice-3.result.now p port c.as_slice-3.ensures.value c.port_at-new.ensures in
    let carrier = carrier_there (view_of m) p c.port_at.result (there_at m c.as_slice.result.now p c.port_at.result c.as_slice.ensures.value c.port_at.ensures) ∙ not_false c.port_at.result.adjacency.carrier c.if-not-port_at.false in
    let done = c.if-refresh.true in
    let again : new ≡ record port.adjacency { hold = h.holding } =
    c.refresh.ensures.new ∙ ap (λ (b : Bool). if b then record port.adjacency { hold = h.holding } else port.adjacency) done in
    let judged = c.in-Some.ensures.judged m.id.system (last_judged m c.as_slice-2.result.now c.requires.ready c.as_slice-2.ensures.value) in
    let heard : new ≡ after_hello m.id.system p h said.way port.adjacency =
    c.refresh.ensures.heard done m.id.system p judged ∙ after_alike m.id.system p said [] is.tlvs said.way port.adjacency in
    let kept : change_by_hello m.id.system p h said.way port.adjacency ≡ did.Kept =
    sym (change_alike m.id.system p said [] is.tlvs said.way port.adjacency) ∙ c.refresh.ensures.kept done m.id.system p judged in
    let put : c.put_hold.new.ports.items ≡ slice_set m.ports.items (p - 1) (with_adjacency new port) =
    c.put_hold.ensures port there ∙ ap (slice_set m.ports.items (p - 1)) (ap (λ (a : Adjacency). with_hold a.hold port) again ∙ sym (ap (λ (a : Adjacency). with_adjacency a port) again)) in
    after_same _ _ _ (heard_path (view_of m) p c.args.frame.now (parsing.hello h said.way) carrier is.brings)
    (refreshed_after m p h said.way port new c.put_hold.new.ports c.requires.ready c.requires.port there again heard kept put)

pub returns-then-refresh-clause-kept : goal.returns-then-refresh-clause-kept
returns-then-refresh-clause-kept c = own_still _ _ c.args.kept.now (ports_tables c.args.self.now c.put_hold.new.ports) c.requires.tables

pub returns-then-refresh-clause-sent : goal.returns-then-refresh-clause-sent
returns-then-refresh-clause-sent c =
    let said = c.in-Some.heard.now.said in
    let is = c.in-Some.ensures.said in
    nothing_moved _ c.args.outbox.now (unmoved (view_of c.args.self.now) c.args.port c.args.frame.now (parsing.hello (hello_saying said is.tlvs) said.way) is.brings refl)

-- the hello that came last, by which more changes

pub hear_again-requires-clause-carrier : goal.hear_again-requires-clause-carrier
hear_again-requires-clause-carrier c =
    let port = c.port_at.result in
    let there = there_at c.args.self.now c.as_slice.result.now c.args.port port c.as_slice.ensures.value c.port_at.ensures in
    carrier_there (view_of c.args.self.now) c.args.port port there ∙ not_false port.adjacency.carrier c.if-not-port_at.false

pub hear_again-requires-clause-state : goal.hear_again-requires-clause-state
hear_again-requires-clause-state c = c.in-Some.ensures.said.state

pub returns-clause-after : goal.returns-clause-after
returns-clause-after c =
    let v = view_of c.args.self.now in
    let p = c.args.port in
    let said = c.in-Some.heard.now.said in
    let is = c.in-Some.ensures.said in
    let port = c.port_at.result in
    let there = there_at c.args.self.now c.as_slice.result.now p port c.as_slice.ensures.value c.port_at.ensures in
    let carrier = carrier_there v p port there ∙ not_false port.adjacency.carrier c.if-not-port_at.false in
    on_ok_weaker c.hear_again.result (after_same _ _ c.hear_again.new.self
    (hears_alike v p said [] is.tlvs said.way
    ∙ heard_path v p c.args.frame.now (parsing.hello (hello_saying said is.tlvs) said.way) carrier is.brings))
    c.hear_again.ensures.after

pub returns-clause-sent : goal.returns-clause-sent
returns-clause-sent c =
    let said = c.in-Some.heard.now.said in
    let is = c.in-Some.ensures.said in
    on_ok c.hear_again.result (nothing_moved _ c.args.outbox.now (unmoved (view_of c.args.self.now) c.args.port c.args.frame.now (parsing.hello (hello_saying said is.tlvs) said.way) is.brings refl))

pub returns-clause-gained : goal.returns-clause-gained
returns-clause-gained c = on_err c.hear_again.result (nothing_gained _ c.args.outbox.now)
