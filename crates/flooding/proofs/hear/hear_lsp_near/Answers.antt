use Rattle.std.proofs.Common.{◌≡◌, ℕ, Some, sym, ap, subst, ◌∙◌}
use Rattle.std.specs.FinMap.{get}
use Rattle.isis_pdu.specs.Pdu.{lsp_of}
use Rattle.lsdb.specs.declared.version.Version.{Version}
use Rattle.lsdb.specs.declared.version.Relation.{Relation}
use Rattle.lsdb.specs.Version.{relation}
use Rattle.lsdb.specs.Entry.{acked, offered, purged}
use Rattle.lsdb.specs.Database.{version_in}
use Rattle.lsdb.proofs.LookupLemmas.{changed_standing}
use Rattle.flooding.specs.Own.{answered, answering}
use Rattle.flooding.specs.Hearing.{unless_absent, lsp_rule, claim_of, lacks_place, after_entry}
use Rattle.flooding.specs.Placing.{Hears, holding}
use Rattle.flooding.proofs.Heard.{hears_answer, hears_put, hears_change, number-claimed, confused_held, dead_held}
use Rattle.flooding.proofs.hear.hear_lsp_near.Goals as goal

-- the relation that was found is that of what the LSP claims to what is held
stands : {a a' h h' : Version} {r : Relation} → r ≡ relation a h → a ≡ a' → h ≡ h' → relation a' h' ≡ r
stands found claim held = sym (found ∙ (λ i. relation (claim i) (held i)))

pub returns-in-Newer : goal.returns-in-Newer
returns-in-Newer c =
    let l = lsp_of c.args.lsp.now in
    let is : relation (claim_of l).version (version_in (get c.args.db.now l.id)) ≡ c.compare-relation.result = stands c.compare-relation.ensures c.version_of.ensures c.look_up_near-found.ensures.version in
    let rule_is = ap (λ (q : Relation). lsp_rule c.args.up c.args.port l q (get c.args.db.now l.id)) c.in-Newer.is in
    hears_put (lsp_rule c.args.up c.args.port l) c.args.up (claim_of l) c.args.db.now c.args.own.now c.compare-relation.result _ c.store.result c.store.new.db is (sym c.answers.ensures ∙ c.if-answers.false) rule_is c.store.ensures

pub returns-in-Equal : goal.returns-in-Equal
returns-in-Equal c =
    let l = lsp_of c.args.lsp.now in
    let is : relation (claim_of l).version (version_in (get c.args.db.now l.id)) ≡ c.compare-relation.result = stands c.compare-relation.ensures c.version_of.ensures c.look_up_near-found.ensures.version in
    let rule_is = ap (λ (q : Relation). lsp_rule c.args.up c.args.port l q (get c.args.db.now l.id)) c.in-Equal.is in
    hears_change (lsp_rule c.args.up c.args.port l) c.args.up (claim_of l) c.args.db.now c.args.own.now c.compare-relation.result (unless_absent (acked c.args.port)) c.acknowledge_held.new.db is (sym c.answers.ensures ∙ c.if-answers.false) rule_is (c.acknowledge_held.ensures ∙ changed_standing (unless_absent (acked c.args.port)) _ _ _ c.look_up_near-found.ensures.place)

pub returns-in-Older : goal.returns-in-Older
returns-in-Older c =
    let l = lsp_of c.args.lsp.now in
    let is : relation (claim_of l).version (version_in (get c.args.db.now l.id)) ≡ c.compare-relation.result = stands c.compare-relation.ensures c.version_of.ensures c.look_up_near-found.ensures.version in
    let rule_is = ap (λ (q : Relation). lsp_rule c.args.up c.args.port l q (get c.args.db.now l.id)) c.in-Older.is in
    hears_change (lsp_rule c.args.up c.args.port l) c.args.up (claim_of l) c.args.db.now c.args.own.now c.compare-relation.result (offered c.args.port) c.offer.new.db is (sym c.answers.ensures ∙ c.if-answers.false) rule_is (c.offer.ensures ∙ changed_standing (offered c.args.port) _ _ _ c.look_up_near-found.ensures.place)

pub returns-then-answers : goal.returns-then-answers
returns-then-answers c =
    let l = lsp_of c.args.lsp.now in
    let is : relation (claim_of l).version (version_in (get c.args.db.now l.id)) ≡ c.compare-relation.result = stands c.compare-relation.ensures c.version_of.ensures c.look_up_near-found.ensures.version in
    let h = holding c.args.db.now c.args.own.now in
    let at : ℕ → Type 0 = λ n. Hears c.answer.result (lacks_place h l.id (Some (answered c.args.up h.own l.id n))) h (after_entry h l.id (Some (answered c.args.up h.own l.id n)) (answering h.own l.id n)) (holding c.answer.new.db c.answer.new.self) in
    hears_answer (lsp_rule c.args.up c.args.port l) c.args.up (claim_of l) h c.compare-relation.result c.answer.result (holding c.answer.new.db c.answer.new.self) is (sym c.answers.ensures ∙ c.if-answers.true)
    (subst at (sym (number-claimed l.seq l.lifetime l.sum)) c.answer.ensures)

pub purge-requires : goal.purge-requires
purge-requires c =
    confused_held c.version_of.result _ (sym (c.in-Confused.ensures ∙ (λ i. relation c.version_of.result (c.look_up_near-found.ensures.version i))))

pub returns-in-Confused : goal.returns-in-Confused
returns-in-Confused c =
    let l = lsp_of c.args.lsp.now in
    let is : relation (claim_of l).version (version_in (get c.args.db.now l.id)) ≡ c.compare-relation.result = stands c.compare-relation.ensures c.version_of.ensures c.look_up_near-found.ensures.version in
    let rule_is = ap (λ (q : Relation). lsp_rule c.args.up c.args.port l q (get c.args.db.now l.id)) c.in-Confused.is in
    let there = confused_held (claim_of l).version (version_in (get c.args.db.now l.id)) (is ∙ c.in-Confused.is) in
    hears_change (lsp_rule c.args.up c.args.port l) c.args.up (claim_of l) c.args.db.now c.args.own.now c.compare-relation.result (purged l.seq c.args.up) c.purge.new.self is (sym c.answers.ensures ∙ c.if-answers.false)
    (rule_is ∙ dead_held c.args.up l.seq (get c.args.db.now l.id) there) c.purge.ensures
