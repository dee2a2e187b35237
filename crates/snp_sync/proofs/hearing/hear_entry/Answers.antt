use Rattle.std.proofs.Common.{◌≡◌, ℕ, Some, sym, ap, subst, ◌∙◌}
use Rattle.std.specs.FinMap.{get}
use Rattle.lsdb.specs.declared.version.Relation.{Relation}
use Rattle.lsdb.specs.Version.{relation}
use Rattle.lsdb.specs.Entry.{cleared, offered, purged}
use Rattle.lsdb.specs.Database.{version_in}
use Rattle.lsdb.proofs.LookupLemmas.{changed_standing}
use Rattle.flooding.specs.Own.{dead_at, answered, answering}
use Rattle.flooding.specs.Hearing.{unless_absent, snp_rule, lacks_place, after_entry}
use Rattle.flooding.specs.Placing.{Hears, holding}
use Rattle.flooding.proofs.Heard.{hears_answer, hears_put, hears_change, number-claimed, confused_held, dead_held}
use Rattle.snp_sync.specs.Hearing.{claim_in}
use Rattle.snp_sync.proofs.hearing.hear_entry.Goals as goal

pub returns-in-Newer : goal.returns-in-Newer
returns-in-Newer c =
    let e = claim_in c.args.entry.now in
    let is : relation e.version (version_in (get c.args.db.now e.id)) ≡ c.compare-relation.result = sym (c.compare-relation.ensures ∙ (λ i. relation (c.version_of.ensures i) (c.look_up_near-found.ensures.version i))) in
    let rule_is = ap (λ (q : Relation). snp_rule c.args.up c.args.port e.version q (get c.args.db.now e.id)) c.in-Newer.is in
    hears_put (snp_rule c.args.up c.args.port e.version) c.args.up e c.args.db.now c.args.own.now c.compare-relation.result _ c.want.result c.want.new.db is (sym c.answers.ensures ∙ c.if-answers.false) rule_is c.want.ensures

pub returns-in-Equal : goal.returns-in-Equal
returns-in-Equal c =
    let e = claim_in c.args.entry.now in
    let is : relation e.version (version_in (get c.args.db.now e.id)) ≡ c.compare-relation.result = sym (c.compare-relation.ensures ∙ (λ i. relation (c.version_of.ensures i) (c.look_up_near-found.ensures.version i))) in
    let rule_is = ap (λ (q : Relation). snp_rule c.args.up c.args.port e.version q (get c.args.db.now e.id)) c.in-Equal.is in
    hears_change (snp_rule c.args.up c.args.port e.version) c.args.up e c.args.db.now c.args.own.now c.compare-relation.result (unless_absent (cleared c.args.port)) c.clear.new.db is (sym c.answers.ensures ∙ c.if-answers.false) rule_is (c.clear.ensures ∙ changed_standing (unless_absent (cleared c.args.port)) _ _ _ c.look_up_near-found.ensures.place)

pub returns-in-Older : goal.returns-in-Older
returns-in-Older c =
    let e = claim_in c.args.entry.now in
    let is : relation e.version (version_in (get c.args.db.now e.id)) ≡ c.compare-relation.result = sym (c.compare-relation.ensures ∙ (λ i. relation (c.version_of.ensures i) (c.look_up_near-found.ensures.version i))) in
    let rule_is = ap (λ (q : Relation). snp_rule c.args.up c.args.port e.version q (get c.args.db.now e.id)) c.in-Older.is in
    hears_change (snp_rule c.args.up c.args.port e.version) c.args.up e c.args.db.now c.args.own.now c.compare-relation.result (offered c.args.port) c.offer.new.db is (sym c.answers.ensures ∙ c.if-answers.false) rule_is (c.offer.ensures ∙ changed_standing (offered c.args.port) _ _ _ c.look_up_near-found.ensures.place)

pub returns-then-answers : goal.returns-then-answers
returns-then-answers c =
    let e = c.args.entry.now in
    let is : relation (claim_in e).version (version_in (get c.args.db.now e.id)) ≡ c.compare-relation.result = sym (c.compare-relation.ensures ∙ (λ i. relation (c.version_of.ensures i) (c.look_up_near-found.ensures.version i))) in
    let h = holding c.args.db.now c.args.own.now in
    let at : ℕ → Type 0 = λ n. Hears c.answer.result (lacks_place h e.id (Some (answered c.args.up h.own e.id n))) h (after_entry h e.id (Some (answered c.args.up h.own e.id n)) (answering h.own e.id n)) (holding c.answer.new.db c.answer.new.self) in
    hears_answer (snp_rule c.args.up c.args.port (claim_in e).version) c.args.up (claim_in e) h c.compare-relation.result c.answer.result (holding c.answer.new.db c.answer.new.self) is (sym c.answers.ensures ∙ c.if-answers.true)
    (subst at (sym (number-claimed e.seq e.lifetime e.sum)) c.answer.ensures)

pub purge-requires : goal.purge-requires
purge-requires c = confused_held c.version_of.result _ (sym (c.in-Confused.ensures ∙ (λ i. relation c.version_of.result (c.look_up_near-found.ensures.version i))))

pub returns-in-Confused : goal.returns-in-Confused
returns-in-Confused c =
    let e = c.args.entry.now in
    let a = (claim_in e).version in
    let is : relation a (version_in (get c.args.db.now e.id)) ≡ c.compare-relation.result = sym (c.compare-relation.ensures ∙ (λ i. relation (c.version_of.ensures i) (c.look_up_near-found.ensures.version i))) in
    let rule_is = ap (λ (q : Relation). snp_rule c.args.up c.args.port a q (get c.args.db.now e.id)) c.in-Confused.is in
    let there = confused_held a (version_in (get c.args.db.now e.id)) (is ∙ c.in-Confused.is) in
    hears_change (snp_rule c.args.up c.args.port a) c.args.up (claim_in e) c.args.db.now c.args.own.now c.compare-relation.result (purged e.seq c.args.up) c.purge.new.self is (sym c.answers.ensures ∙ c.if-answers.false)
    (rule_is ∙ ap (λ n. Some (dead_at c.args.up n)) (number-claimed e.seq e.lifetime e.sum) ∙ dead_held c.args.up e.seq (get c.args.db.now e.id) there) c.purge.ensures
