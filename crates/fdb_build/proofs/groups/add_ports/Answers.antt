use Rattle.std.proofs.Common.{arith, ◌≡◌, ◌<◌, ◌^◌, ℕ, true, None, unwrap_or, inl, inr, sym, ap, ◌∙◌, subst}
use Rattle.std.specs.BTreeMap.{get}
use Rattle.spb_types.specs.Ports.{has, no_ports}
use Rattle.spb_types.specs.declared.ports.PortSet.{PortSet}
use Rattle.fdb_build.specs.Tables.{mac_cmp}
use Rattle.fdb_build.specs.Making.{union, ports_at}
use Rattle.fdb_build.proofs.GrowLemmas.{grew_none, grew_put}
use Rattle.fdb_build.proofs.PutLemmas.{put_first, put_again, first_is_small}
use Rattle.fdb_build.proofs.PortSets.{none_in_empty, bits_or_port}
use Rattle.fdb_build.proofs.groups.add_ports.Goals as goal

pub returns-then-ports-eq0 : goal.returns-then-ports-eq0
returns-then-ports-eq0 c = grew_none c.args.rows.now c.args.mac c.args.ports (λ p. none_in_empty c.args.ports p c.if-ports-eq0.true)

pub returns-in_default : goal.returns-in_default
returns-in_default c =
    let ports : PortSet = c.args.ports in
    let small : ports.bits < 2 ^ 32 = search arith in
    let some : (p : ℕ) × (has ports p ≡ true) = elim (bits_or_port ports small) [
      | inl none ↦ absurd (c.if-ports-eq0.false none)
      | inr one ↦ one
    ] in
    let none : get mac_cmp c.args.rows.now c.args.mac ≡ None = sym c.in_ok-before.ensures.old ∙ c.in_default.is in
    grew_put c.args.rows.now c.insert.new.self c.args.mac ports some
    (first_is_small c.args.rows.now c.args.mac ports none small)
    (put_first c.args.rows.now c.insert.new.self c.args.mac ports none (record { put = λ q. c.in_ok-before.ensures.updates.0 q }))

pub returns-in_ok-insert : goal.returns-in_ok-insert
returns-in_ok-insert c =
    let ports : PortSet = c.args.ports in
    let small : ports.bits < 2 ^ 32 = search arith in
    let some : (p : ℕ) × (has ports p ≡ true) = elim (bits_or_port ports small) [
      | inl none ↦ absurd (c.if-ports-eq0.false none)
      | inr one ↦ one
    ] in
    let was : ports_at c.args.rows.now c.args.mac ≡ c.in-Some.before = ap (λ o. unwrap_or o no_ports) (sym c.in_ok-before.ensures.old ∙ c.in-Some.is) in
    let joined : c.union.result ≡ union (ports_at c.args.rows.now c.args.mac) ports = c.union.ensures.value ∙ ap (λ (s : PortSet). union s ports) (sym was) in
    grew_put c.args.rows.now c.insert-in-Some.new.self c.args.mac ports some
    (subst (λ (s : PortSet). s.bits < 2 ^ 32) joined c.union.ensures.small)
    (put_again c.args.rows.now c.insert.new.self c.insert-in-Some.new.self c.args.mac ports (union (ports_at c.args.rows.now c.args.mac) ports)
    (record { put = λ q. c.in_ok-before.ensures.updates.0 q })
    (record { put = λ q. rw (sym joined) (c.in_ok-insert.ensures.updates.0 q) }))
