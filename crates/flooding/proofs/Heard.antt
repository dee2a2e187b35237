-- What hearing a claim comes to, rule by rule.
use Rattle.std.specs.Prelude.{◌≡◌, ℕ, Bool, true, false, not, Option, Some, None, Result, Ok, Err, ◌==◌, if◌then◌else◌}
use Rattle.std.proofs.Common.{refl, sym, ap, subst, ◌∙◌}
use Rattle.std.proofs.lemmas.Bool.{eqb-true, true≢false}
use Rattle.std.specs.Option.{option_map}
use Rattle.std.specs.FinMap.{get, insert}
use Rattle.spb_types.specs.declared.address.LspId.{LspId}
use Rattle.spb_types.specs.declared.ports.PortSet.{PortSet}
use Rattle.lsdb.specs.declared.version.Version.{Version}
use Rattle.lsdb.specs.declared.version.Version.TheVariants.{Absent, Live, Dead}
use Rattle.lsdb.specs.declared.version.Relation.{Relation}
use Rattle.lsdb.specs.declared.version.Relation.TheVariants.{Confused}
use Rattle.lsdb.specs.Version.{number_of, is_absent, relation, claimed}
use Rattle.lsdb.specs.Entry.{Entry, purged}
use Rattle.lsdb.specs.Database.{Lsps, version_in, changed, changed_to}
use Rattle.lsdb.specs.Certificate.{Claim}
use Rattle.lsdb.proofs.Order.{confused_are_live as confused_live}
use Rattle.flooding.specs.declared.error.FloodError.{FloodError}
use Rattle.flooding.specs.declared.error.FloodError.TheVariants.{Full, NoMemory}
use Rattle.flooding.specs.declared.own.Own.{Own}
use Rattle.flooding.specs.Own.{dead_at, answered, answering}
use Rattle.flooding.specs.Room.{has_room}
use Rattle.flooding.specs.Hearing.{Holding, is_answered, heard_by, own_after, lacks_place, after_entry, after_claim, is_full}
use Rattle.flooding.specs.Placing.{Puts, Hears, holding}
use Rattle.flooding.proofs.Changed.{change_has_place}

-- the rule by which an entry goes in
abbrev pub Rule : Type 0
Rule = Relation → Option Entry → Option Entry

-- the end of a claim, from what its rule or its answer makes of what is held
hears_by : (rule : Rule) (up : PortSet) (c : Claim) (h : Holding) (r : Relation) (new : Option Entry) (own : Own) (out : Result (Unit {0}) FloodError) (g : Holding)
    → relation c.version (version_in (get h.db c.id)) ≡ r → heard_by rule up h.own c.id c.version r (get h.db c.id) ≡ new → own_after h.own c.id c.version r ≡ own
    → Hears out (lacks_place h c.id new) h (after_entry h c.id new own) g
    → Hears out (is_full rule up c h) h (after_claim rule up c h) g
unfolding after_claim is_full
hears_by rule up c h r new own out g is entry owns end =
    let entry_is : heard_by rule up h.own c.id c.version (relation c.version (version_in (get h.db c.id))) (get h.db c.id) ≡ new = ap (λ q. heard_by rule up h.own c.id c.version q (get h.db c.id)) is ∙ entry in
    let own_is : own_after h.own c.id c.version (relation c.version (version_in (get h.db c.id))) ≡ own = ap (λ q. own_after h.own c.id c.version q) is ∙ owns in
    subst (λ (p : Option Entry × Own). Hears out (lacks_place h c.id p.0) h (after_entry h c.id p.0 p.1) g) (λ i. (sym entry_is i, sym own_is i)) end

-- a claim that is answered
pub hears_answer : (rule : Rule) (up : PortSet) (c : Claim) (h : Holding) (r : Relation) (out : Result (Unit {0}) FloodError) (g : Holding)
    → relation c.version (version_in (get h.db c.id)) ≡ r → is_answered h.own c.id r ≡ true
    → Hears out (lacks_place h c.id (Some (answered up h.own c.id (number_of c.version)))) h (after_entry h c.id (Some (answered up h.own c.id (number_of c.version))) (answering h.own c.id (number_of c.version))) g
    → Hears out (is_full rule up c h) h (after_claim rule up c h) g
hears_answer rule up c h r out g is answers end =
    hears_by rule up c h r (Some (answered up h.own c.id (number_of c.version))) (answering h.own c.id (number_of c.version)) out g is
    (ap (λ b. if b then Some (answered up h.own c.id (number_of c.version)) else rule r (get h.db c.id)) answers)
    (ap (λ b. if b then answering h.own c.id (number_of c.version) else h.own) answers) end

-- a claim that its rule decides
hears_rule : (rule : Rule) (up : PortSet) (c : Claim) (h : Holding) (r : Relation) (new : Option Entry) (out : Result (Unit {0}) FloodError) (g : Holding)
    → relation c.version (version_in (get h.db c.id)) ≡ r → is_answered h.own c.id r ≡ false → rule r (get h.db c.id) ≡ new
    → Hears out (lacks_place h c.id new) h (after_entry h c.id new h.own) g
    → Hears out (is_full rule up c h) h (after_claim rule up c h) g
hears_rule rule up c h r new out g is answers entry end =
    hears_by rule up c h r new h.own out g is
    (ap (λ b. if b then Some (answered up h.own c.id (number_of c.version)) else rule r (get h.db c.id)) answers ∙ entry)
    (ap (λ b. if b then answering h.own c.id (number_of c.version) else h.own) answers) end

-- an entry that was put in, with the own LSP as it is to be where it was
pub puts_hears : (out : Result (Unit {0}) FloodError) (id : LspId) (e : Entry) (db new : Lsps) (own : Own) → Puts out own.system id e db new
    → Hears out (lacks_place (holding db own) id (Some e)) (holding db own) (after_entry (holding db own) id (Some e) own) (holding new own)
puts_hears (Ok u) id e db new own puts =
    let there : not (has_room own.system db id) ≡ false = ap not puts.0 in
    (there, ap (λ d. holding d own) puts.1 ∙ sym (ap (λ b. if b then holding db own else holding (insert db id e) own) there))
puts_hears (Err Full) id e db new own puts = (ap not puts.0, ap (λ d. holding d own) puts.1)
puts_hears (Err NoMemory) id e db new own puts = ap (λ d. holding d own) puts

-- a rule that puts an entry in
pub hears_put : (rule : Rule) (up : PortSet) (c : Claim) (db : Lsps) (own : Own) (r : Relation) (e : Entry) (out : Result (Unit {0}) FloodError) (new : Lsps)
    → relation c.version (version_in (get db c.id)) ≡ r → is_answered own c.id r ≡ false → rule r (get db c.id) ≡ Some e → Puts out own.system c.id e db new
    → Hears out (is_full rule up c (holding db own)) (holding db own) (after_claim rule up c (holding db own)) (holding new own)
hears_put rule up c db own r e out new is answers entry puts =
    hears_rule rule up c (holding db own) r (Some e) out (holding new own) is answers entry (puts_hears out c.id e db new own puts)

-- a rule that changes what is held
pub hears_change : (rule : Rule) (up : PortSet) (c : Claim) (db : Lsps) (own : Own) (r : Relation) (f : Entry → Entry) (new : Lsps)
    → relation c.version (version_in (get db c.id)) ≡ r → is_answered own c.id r ≡ false → rule r (get db c.id) ≡ option_map f (get db c.id) → new ≡ changed f db c.id
    → (is_full rule up c (holding db own) ≡ false) × (holding new own ≡ after_claim rule up c (holding db own))
hears_change rule up c db own r f new is answers entry new_is =
    let there : lacks_place (holding db own) c.id (option_map f (get db c.id)) ≡ false = change_has_place f (holding db own) c.id in
    hears_rule rule up c (holding db own) r (option_map f (get db c.id)) (Ok tt) (holding new own) is answers entry
    (there, ap (λ d. holding d own) new_is ∙ sym (ap (λ b. if b then holding db own else holding (changed_to db c.id (option_map f (get db c.id))) own) there))

-- the number that a PDU says is that of its version
number_by : (seq lifetime sum : ℕ) (b d : Bool) → (seq == 0) ≡ b → number_of (if b then Absent else (if d then Dead seq else Live seq sum)) ≡ seq
number_by seq lifetime sum true d is = sym (eqb-true seq 0 is)
number_by seq lifetime sum false true is = refl
number_by seq lifetime sum false false is = refl

pub number-claimed : (seq lifetime sum : ℕ) → number_of (claimed seq lifetime sum) ≡ seq
number-claimed seq lifetime sum = number_by seq lifetime sum (seq == 0) (lifetime == 0) refl

-- confused versions: what is held isn't absent, and comes to its end
pub confused_held : (a h : Version) → relation a h ≡ Confused → is_absent h ≡ false
confused_held a h is = ap is_absent ((confused_live a h).0 is).second

pub dead_held : (up : PortSet) (seq : ℕ) (o : Option Entry) → is_absent (version_in o) ≡ false → Some (dead_at up seq) ≡ option_map (purged seq up) o
dead_held up seq None there = absurd (true≢false there)
dead_held up seq (Some e) there = refl
