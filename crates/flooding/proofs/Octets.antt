-- Bodies stay octets, whatever was heard, originated or aged.
use Rattle.std.specs.Prelude.{◌≡◌, ℕ, zero, suc, ◌+◌, ◌-◌, Bool, true, false, ◌==◌, List, [], ◌∷◌, Option, Some, None, nat_lt, nat_le, slice_get, if◌then◌else◌}
use Rattle.std.proofs.Common.{refl, sym, ap, subst, ◌∙◌, arith}
use Rattle.std.specs.Option.{option_map, option_and_then}
use Rattle.std.specs.FinMap.{get}
use Rattle.spb_types.specs.declared.address.LspId.{LspId}
use Rattle.spb_types.specs.declared.ports.PortSet.{PortSet}
use Rattle.isis_pdu.specs.Pdu.{LspValue}
use Rattle.isis_pdu.specs.Grammar.{IsBytes}
use Rattle.lsdb.specs.declared.version.Version.{Version}
use Rattle.lsdb.specs.declared.version.Version.TheVariants.{Absent, Live, Dead}
use Rattle.lsdb.specs.declared.version.Relation.{Relation}
use Rattle.lsdb.specs.declared.version.Relation.TheVariants.{Older, Equal, Newer, Confused}
use Rattle.lsdb.specs.Version.{number_of, is_absent}
use Rattle.lsdb.specs.Entry.{Entry, made, stored, acked, cleared, offered, purged, aged_at}
use Rattle.lsdb.specs.Database.{version_in}
use Rattle.flooding.specs.declared.own.Own.{Own}
use Rattle.flooding.specs.Own.{last_number, own_number, is_own_number, body_for, renewed, dead_at, answered_by}
use Rattle.flooding.specs.Hearing.{Holding, claim_of, body_of, unless_absent, wanted, lsp_rule, snp_rule}
use Rattle.flooding.specs.Origination.{spent_entry, next_entry, brought_up}
use Rattle.flooding.specs.Entries.{HaveOctets}
use Rattle.flooding.specs.OctetLaws.{SaysOctets, LspKeepsOctets, EntryKeepsOctets, SettlingKeepsOctets, StartingKeepsOctets, AgeingKeepsOctets}
use Rattle.flooding.proofs.AllEntries.{inserted, all_changed, all_after_claim}
use Rattle.flooding.proofs.OwnBodies.{for_number}
use Rattle.flooding.proofs.Brought.{next_of, brought_keeps}
use Rattle.flooding.proofs.Settled.{settling_beside}
use Rattle.flooding.proofs.Started.{entries_started, all_keep}

-- ---- bodies without TLVs

pub none_octets : IsBytes []
none_octets i = omega arith

pub dead_octets : IsBytes (1 ∷ [])
dead_octets zero = omega arith
dead_octets (suc i) = none_octets i

abbrev HasOctets : LspId → Entry → Type 0
HasOctets id e = IsBytes e.body

-- ---- rules

spared : (f : Entry → Entry) (e : Entry) (b : Bool) → IsBytes e.body → IsBytes (f e).body → IsBytes (if b then e else f e).body
spared f e true same changed = same
spared f e false same changed = changed

-- what a rule makes of what is held, by changes that leave the body
mapped : (f : Entry → Entry) (held : Option Entry) → ((e : Entry) → IsBytes e.body → IsBytes (f e).body) → ((e : Entry) → held ≡ Some e → IsBytes e.body)
    → (g : Entry) → option_map f held ≡ Some g → IsBytes g.body
mapped f None keeps all g is = absurd (cc)
mapped f (Some e) keeps all g is = let same : f e ≡ g = cc in subst (λ (x : Entry). IsBytes x.body) same (keeps e (all e refl))

wanted_octets : (port : ℕ) (held : Option Entry) → ((e : Entry) → held ≡ Some e → IsBytes e.body) → IsBytes (wanted port held).body
wanted_octets port None all = none_octets
wanted_octets port (Some e) all = all e refl

dead_is : (up : PortSet) (seq : ℕ) (g : Entry) → Some (dead_at up seq) ≡ Some g → IsBytes g.body
dead_is up seq g is = let same : dead_at up seq ≡ g = cc in subst (λ (x : Entry). IsBytes x.body) same dead_octets

snp_rule_octets : (up : PortSet) (port : ℕ) (a : Version) (r : Relation) (held : Option Entry) → ((e : Entry) → held ≡ Some e → IsBytes e.body)
    → (g : Entry) → snp_rule up port a r held ≡ Some g → IsBytes g.body
snp_rule_octets up port a Older held all g found = mapped (offered port) held (λ e octets. octets) all g found
snp_rule_octets up port a Equal held all g found = mapped (unless_absent (cleared port)) held (λ e octets. spared (cleared port) e (is_absent e.version) octets octets) all g found
snp_rule_octets up port a Newer held all g found = let same : wanted port held ≡ g = cc in subst (λ (x : Entry). IsBytes x.body) same (wanted_octets port held all)
snp_rule_octets up port a Confused held all g found = dead_is up (number_of a) g found

-- a stored LSP
stored_octets : (up : PortSet) (port : ℕ) (l : LspValue) (b d : Bool) → IsBytes (body_of l)
    → IsBytes (stored up port (if b then Absent else (if d then Dead l.seq else Live l.seq l.sum)) l.lifetime (body_of l)).body
stored_octets up port l true d octets = none_octets
stored_octets up port l false true octets = dead_octets
stored_octets up port l false false octets = octets

lsp_rule_octets : (up : PortSet) (port : ℕ) (l : LspValue) (r : Relation) (held : Option Entry) → IsBytes (body_of l) → ((e : Entry) → held ≡ Some e → IsBytes e.body)
    → (g : Entry) → lsp_rule up port l r held ≡ Some g → IsBytes g.body
lsp_rule_octets up port l Older held octets all g found = mapped (offered port) held (λ e same. same) all g found
lsp_rule_octets up port l Equal held octets all g found = mapped (unless_absent (acked port)) held (λ e same. spared (acked port) e (is_absent e.version) same same) all g found
lsp_rule_octets up port l Newer held octets all g found =
    let same : stored up port (claim_of l).version l.lifetime (body_of l) ≡ g = cc in
    subst (λ (x : Entry). IsBytes x.body) same (stored_octets up port l (l.seq == 0) (l.lifetime == 0) octets)
lsp_rule_octets up port l Confused held octets all g found = dead_is up l.seq g found

-- ---- own LSPs

answer_by : (up : PortSet) (id : LspId) (body : List ℕ) (seq : ℕ) (b : Bool) → IsBytes body → IsBytes (if b then renewed up id body (seq + 1) else dead_at up seq).body
answer_by up id body seq true octets = octets
answer_by up id body seq false octets = dead_octets

answered_as : (up : PortSet) (own : Own) (id : LspId) (seq : ℕ) (o : Option (List ℕ)) → body_for own id ≡ o → SaysOctets own → IsBytes (answered_by up id seq o).body
answered_as up own id seq None is says = dead_octets
answered_as up own id seq (Some body) is says =
    answer_by up id body seq (nat_lt seq last_number) (says id.number body (for_number own id body own.spent (is_own_number own.system id) is))

next_by : (up : PortSet) (id : LspId) (body : List ℕ) (seq : ℕ) (held : Option Entry) (b : Bool) → IsBytes body → IsBytes (if b then renewed up id body (seq + 1) else spent_entry up seq held).body
next_by up id body seq held true octets = octets
next_by up id body seq held false octets = dead_octets

-- the own LSP of a number, originated
next_octets : (up : PortSet) (number : ℕ) (h : Holding) (body : List ℕ) → IsBytes body → HaveOctets h.db → HaveOctets (next_of up number body h).db
next_octets up number h body octets all =
    let id = own_number h.own.system number in
    let held = get h.db id in
    let seq = number_of (version_in held) in
    inserted HasOctets h.db id (next_entry up id body seq held) all (next_by up id body seq held (nat_lt seq last_number) octets)

brought_octets : (up : PortSet) (number : ℕ) (h : Holding) → SaysOctets h.own → HaveOctets h.db → HaveOctets (brought_up up number h).db
brought_octets up number h says all =
    brought_keeps (λ g. HaveOctets g.db) up number h all
    (λ body fresh has. next_octets up number h body (says number body has) all)
    (λ seq sum live. all_changed HasOctets (purged seq up) h.db (own_number h.own.system number) all (λ e is. dead_octets))

-- a system with the same bodies says octets too
pub says_then : (own next : Own) → next.bodies ≡ own.bodies → SaysOctets own → SaysOctets next
says_then own next same says number body is = says number body (ap (λ (bs : List (Option (List ℕ))). option_and_then (λ body. body) (slice_get bs number)) (sym same) ∙ is)

-- ---- the laws

pub lsp_keeps_octets : LspKeepsOctets
lsp_keeps_octets up port l h octets says all =
    all_after_claim HasOctets (lsp_rule up port l) up (claim_of l) h all
    (λ beyond. answered_as up h.own l.id (number_of (claim_of l).version) (body_for h.own l.id) refl says)
    (lsp_rule_octets up port l _ (get h.db l.id) octets (all l.id))

pub entry_keeps_octets : EntryKeepsOctets
entry_keeps_octets up port c h says all =
    all_after_claim HasOctets (snp_rule up port c.version) up c h all
    (λ beyond. answered_as up h.own c.id (number_of c.version) (body_for h.own c.id) refl says)
    (snp_rule_octets up port c.version _ (get h.db c.id) (all c.id))

pub settling_keeps_octets : SettlingKeepsOctets
settling_keeps_octets test up h says all =
    settling_beside (λ g. HaveOctets g.db) test up h (λ number g below same before. brought_octets up number g (says_then h.own g.own same.1 says) before) all

pub starting_keeps_octets : StartingKeepsOctets
starting_keeps_octets last h says all =
    all_keep (λ g. HaveOctets g.db) last h
    (λ number n g same before.
    entries_started HasOctets number n g before (λ body is below. says_then h.own g.own same.1 says number body is) (λ some. dead_octets))
    all

aged_by : (up : PortSet) (e : Entry) (a : Version) → IsBytes e.body → IsBytes (aged_at up e a).body
aged_by up e Absent octets = octets
aged_by up e (Live seq sum) octets = by_test (nat_le e.lifetime 1)
  where
    by_test : (b : Bool) → IsBytes (if b then made (Dead seq) 0 [] up e.ssn else record e { lifetime = e.lifetime - 1 }).body
    by_test true = dead_octets
    by_test false = octets
aged_by up e (Dead seq) octets = octets

pub ageing_keeps_octets : AgeingKeepsOctets
ageing_keeps_octets up e octets = aged_by up e e.version octets
