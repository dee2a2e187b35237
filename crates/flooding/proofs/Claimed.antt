-- What stands in the database after a claim.
use Rattle.std.specs.Prelude.{◌≡◌, ◌≢◌, ℕ, Bool, true, false, not, Option, Some, None, if◌then◌else◌}
use Rattle.std.proofs.Common.{refl, ap, ◌∙◌}
use Rattle.std.specs.Option.{option_map}
use Rattle.std.specs.FinMap.{get}
use Rattle.spb_types.specs.declared.address.LspId.{LspId}
use Rattle.spb_types.specs.declared.ports.PortSet.{PortSet}
use Rattle.isis_pdu.specs.Pdu.{LspValue}
use Rattle.lsdb.specs.declared.version.Version.{Version}
use Rattle.lsdb.specs.declared.version.Relation.{Relation}
use Rattle.lsdb.specs.declared.version.Relation.TheVariants.{Older, Equal, Newer, Confused}
use Rattle.lsdb.specs.Version.{number_of, relation}
use Rattle.lsdb.specs.Entry.{Entry}
use Rattle.lsdb.specs.Database.{Lsps, version_in, changed_to}
use Rattle.lsdb.specs.Certificate.{Claim}
use Rattle.lsdb.proofs.LookupLemmas.{get-insert_same, changed_to_other}
use Rattle.flooding.specs.declared.own.Own.{Own}
use Rattle.flooding.specs.Own.{answered}
use Rattle.flooding.specs.Room.{has_room}
use Rattle.flooding.specs.Hearing.{Holding, is_answered, heard_by, own_after, lacks_place, after_claim, is_full, lsp_rule, snp_rule}
use Rattle.flooding.specs.Laws.{OthersStand, LspStands, EntryStands, FullStands, FittingIsNotFull}
use Rattle.flooding.proofs.Heard.{Rule}

-- what is heard under the claim's id
abbrev pub heard_of : Rule → PortSet → Claim → Holding → Option Entry
heard_of rule up c h = heard_by rule up h.own c.id c.version (relation c.version (version_in (get h.db c.id))) (get h.db c.id)

-- and whether it finds no place
abbrev pub lacks : Rule → PortSet → Claim → Holding → Bool
lacks rule up c h = lacks_place h c.id (heard_of rule up c h)

-- the database in which an entry goes in, unless it finds no place
abbrev pub entered : Bool → Lsps → LspId → Option Entry → Lsps
entered out db id new = if out then db else changed_to db id new

db_by : (h : Holding) (db : Lsps) (own : Own) (b : Bool) → (if b then h else record { db = db; own = own }).db ≡ (if b then h.db else db)
db_by h db own true = refl
db_by h db own false = refl

-- the database after a claim has what was heard under its id
pub db_after : (rule : Rule) (up : PortSet) (c : Claim) (h : Holding) → (after_claim rule up c h).db ≡ entered (lacks rule up c h) h.db c.id (heard_of rule up c h)
unfolding after_claim
db_after rule up c h =
    db_by h (changed_to h.db c.id (heard_of rule up c h)) (own_after h.own c.id c.version (relation c.version (version_in (get h.db c.id)))) (lacks rule up c h)

-- ---- what is put in

get-entered_other : (out : Bool) (db : Lsps) (id : LspId) (new : Option Entry) (x : LspId) → x ≢ id → get (entered out db id new) x ≡ get db x
get-entered_other true db id new x apart = refl
get-entered_other false db id new x apart = changed_to_other db id x new apart

-- what is put in stands under its id
get-put : (db : Lsps) (id : LspId) (new : Option Entry) → (new ≡ None → get db id ≡ None) → get (changed_to db id new) id ≡ new
get-put db id None nothing = nothing refl
get-put db id (Some e) nothing = get-insert_same db id e

-- ---- what a rule leaves out

mapped_none : (f : Entry → Entry) (o : Option Entry) → option_map f o ≡ None → o ≡ None
mapped_none f None is = refl
mapped_none f (Some e) is = absurd (cc)

-- a rule that says nothing finds nothing held
abbrev pub SaysOfHeld : Rule → Type 0
SaysOfHeld rule = (r : Relation) (held : Option Entry) → rule r held ≡ None → held ≡ None

pub lsp_rule_says : (up : PortSet) (port : ℕ) (l : LspValue) → SaysOfHeld (lsp_rule up port l)
lsp_rule_says up port l Older held is = mapped_none _ held is
lsp_rule_says up port l Equal held is = mapped_none _ held is
lsp_rule_says up port l Newer held is = absurd (cc)
lsp_rule_says up port l Confused held is = absurd (cc)

pub snp_rule_says : (up : PortSet) (port : ℕ) (a : Version) → SaysOfHeld (snp_rule up port a)
snp_rule_says up port a Older held is = mapped_none _ held is
snp_rule_says up port a Equal held is = mapped_none _ held is
snp_rule_says up port a Newer held is = absurd (cc)
snp_rule_says up port a Confused held is = absurd (cc)

heard_none : (rule : Rule) → SaysOfHeld rule → (up : PortSet) (own : Own) (id : LspId) (a : Version) (r : Relation) (held : Option Entry) (b : Bool)
    → (if b then Some (answered up own id (number_of a)) else rule r held) ≡ None → held ≡ None
heard_none rule says up own id a r held true is = absurd (cc)
heard_none rule says up own id a r held false is = says r held is

-- ---- the laws

pub others_stand : OthersStand
others_stand rule up c h x apart = ap (λ (db : Lsps). get db x) (db_after rule up c h) ∙ get-entered_other (lacks rule up c h) h.db c.id (heard_of rule up c h) x apart

pub heard_stands : (rule : Rule) → SaysOfHeld rule → (up : PortSet) (c : Claim) (h : Holding) → is_full rule up c h ≡ false → get (after_claim rule up c h).db c.id ≡ heard_of rule up c h
unfolding is_full
heard_stands rule says up c h there =
    let r = relation c.version (version_in (get h.db c.id)) in
    ap (λ (db : Lsps). get db c.id) (db_after rule up c h)
    ∙ (ap (λ b. get (entered b h.db c.id (heard_of rule up c h)) c.id) there
    ∙ get-put h.db c.id (heard_of rule up c h) (heard_none rule says up h.own c.id c.version r (get h.db c.id) (is_answered h.own c.id r)))

pub lsp_stands : LspStands
lsp_stands up port l h there = heard_stands (lsp_rule up port l) (lsp_rule_says up port l) up _ h there

pub entry_stands : EntryStands
entry_stands up port c h there = heard_stands (snp_rule up port c.version) (snp_rule_says up port c.version) up c h there

pub full_stands : FullStands
unfolding after_claim is_full
full_stands rule up c h full =
    ap (λ b. if b then h else record { db = changed_to h.db c.id (heard_of rule up c h); own = own_after h.own c.id c.version (relation c.version (version_in (get h.db c.id))) }) full

fitting_at : (h : Holding) (id : LspId) (new : Option Entry) → has_room h.own.system h.db id ≡ true → lacks_place h id new ≡ false
fitting_at h id None there = refl
fitting_at h id (Some e) there = ap not there

pub fitting_is_not_full : FittingIsNotFull
unfolding is_full
fitting_is_not_full rule up c h there = fitting_at h c.id (heard_of rule up c h) there
