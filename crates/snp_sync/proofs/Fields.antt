-- What a PDU says of every LSP can be written, whatever was heard, originated or aged.
use Rattle.std.specs.Prelude.{◌≡◌, ℕ, ◌+◌, ◌-◌, ◌<◌, ◌≤◌, ◌^◌, Bool, true, false, ◌==◌, List, [], ◌∷◌, Option, Some, None, nat_lt, nat_le, if◌then◌else◌}
use Rattle.std.proofs.Common.{refl, sym, ap, subst, ◌∙◌, arith, lit<}
use Rattle.std.proofs.lemmas.Bool.{ltb-true}
use Rattle.std.specs.Option.{option_map}
use Rattle.std.specs.FinMap.{get}
use Rattle.spb_types.specs.declared.address.SystemId.{SystemId}
use Rattle.spb_types.specs.declared.address.LspId.{LspId}
use Rattle.spb_types.specs.declared.ports.PortSet.{PortSet}
use Rattle.spb_types.specs.Ports.{no_ports}
use Rattle.isis_pdu.specs.Pdu.{LspValue}
use Rattle.isis_pdu.proofs.Sums.{lsp_sum-bytes}
use Rattle.spb_tlvs.specs.declared.entries.SnpEntry.{SnpEntry}
use Rattle.lsdb.specs.declared.version.Version.{Version}
use Rattle.lsdb.specs.declared.version.Version.TheVariants.{Absent, Live, Dead}
use Rattle.lsdb.specs.declared.version.Relation.{Relation}
use Rattle.lsdb.specs.declared.version.Relation.TheVariants.{Older, Equal, Newer, Confused}
use Rattle.lsdb.specs.Version.{number_of, is_absent, claimed, sum_of}
use Rattle.lsdb.specs.Entry.{Entry, made, stored, absent_with_ssn, acked, cleared, offered, purged, aged_at}
use Rattle.lsdb.specs.Database.{version_in}
use Rattle.flooding.specs.declared.own.Own.{Own}
use Rattle.flooding.specs.Own.{last_number, own_numbers, own_id, own_number, body_for, flags_in, tlvs_of_body, renewed, dead_at, answered_by, answered}
use Rattle.flooding.specs.Hearing.{Holding, claim_of, body_of, unless_absent, wanted, lsp_rule, snp_rule, hear_entry_of}
use Rattle.flooding.specs.Origination.{next_entry, spent_entry, brought_up}
use Rattle.flooding.proofs.Heard.{number-claimed}
use Rattle.flooding.proofs.AllEntries.{inserted, all_changed, all_after_claim}
use Rattle.flooding.proofs.OwnNumbers.{few_numbers}
use Rattle.flooding.proofs.Brought.{next_of, originated_keeps, brought_keeps}
use Rattle.flooding.proofs.Settled.{settling_beside}
use Rattle.flooding.proofs.Begun.{starting_keeps}
use Rattle.flooding.proofs.Started.{entries_started}
use Rattle.snp_sync.specs.Sized.{IsLspId, IsSized, AreSized, IsSizedEntry}
use Rattle.snp_sync.specs.Hearing.{claim_in, claims_in, hear_entries_of, ids_of, is_missed, flag_if}
use Rattle.snp_sync.specs.HearingLaws.{EntriesKeepSized, CsnpKeepsSized, LspKeepsSized, OriginationKeepsSized, SettlingKeepsSized, StartingKeepsSized, AgeingKeepsSized, FlagsKeepSized}
use Rattle.snp_sync.proofs.Stays.{all_each}

-- ---- entries made anew

-- an entry of a version, by its numbers
sized_by : (id : LspId) (e : Entry) → IsLspId id → e.lifetime < 2 ^ 16 → number_of e.version < 2 ^ 32 → sum_of e.version < 2 ^ 16 → IsSized id e
sized_by id e named lifetime seq sum = record { named = named; entry = record { lifetime = lifetime; system = named.system; seq = seq; sum = sum } }

dead_sized : (id : LspId) (seq : ℕ) (srm ssn : PortSet) → IsLspId id → seq < 2 ^ 32 → IsSized id (made (Dead seq) 0 [] srm ssn)
dead_sized id seq srm ssn named h = sized_by id (made (Dead seq) 0 [] srm ssn) named (lit< tt) h (lit< tt)

absent_sized : (id : LspId) (port : ℕ) → IsLspId id → IsSized id (absent_with_ssn port)
absent_sized id port named = sized_by id (absent_with_ssn port) named (lit< tt) (lit< tt) (lit< tt)

renewed_sized : (up : PortSet) (id : LspId) (body : List ℕ) (seq : ℕ) → IsLspId id → seq < last_number → IsSized id (renewed up id body (seq + 1))
renewed_sized up id body seq named h =
    let sum = lsp_sum-bytes id (seq + 1) (flags_in body) (tlvs_of_body body) in
    sized_by id (renewed up id body (seq + 1)) named (lit< tt) (omega arith) (omega (arith, sum.first_fits))

answered_as : (up : PortSet) (id : LspId) (seq : ℕ) (o : Option (List ℕ)) → IsLspId id → seq < 2 ^ 32 → IsSized id (answered_by up id seq o)
answered_as up id seq None named h = dead_sized id seq up _ named h
answered_as up id seq (Some body) named h = by_test (nat_lt seq last_number) refl
  where
    by_test : (b : Bool) → nat_lt seq last_number ≡ b → IsSized id (if b then renewed up id body (seq + 1) else dead_at up seq)
    by_test true t = renewed_sized up id body seq named (ltb-true seq last_number t)
    by_test false t = dead_sized id seq up _ named h

answered_sized : (up : PortSet) (own : Own) (id : LspId) (seq : ℕ) → IsLspId id → seq < 2 ^ 32 → IsSized id (answered up own id seq)
answered_sized up own id seq named h = answered_as up id seq (body_for own id) named h

-- ---- rules

-- other flags
pub flags_keep_sized : FlagsKeepSized
flags_keep_sized srm ssn id e s = record { named = s.named; entry = s.entry }

spared_sized : (f : Entry → Entry) (id : LspId) (e : Entry) (b : Bool) → IsSized id e → IsSized id (f e) → IsSized id (if b then e else f e)
spared_sized f id e true same changed = same
spared_sized f id e false same changed = changed

-- a change of what is held
mapped_sized : (f : Entry → Entry) (id : LspId) (held : Option Entry) → ((e : Entry) → held ≡ Some e → IsSized id (f e)) → (n : Entry) → option_map f held ≡ Some n → IsSized id n
mapped_sized f id None each n is = absurd (cc)
mapped_sized f id (Some e) each n is = let same : f e ≡ n = cc in subst (λ (g : Entry). IsSized id g) same (each e refl)

module _ (up : PortSet) (port : ℕ) (id : LspId) (named : IsLspId id) (held : Option Entry) (all : (e : Entry) → held ≡ Some e → IsSized id e) where
  acked_sized : (e : Entry) → held ≡ Some e → IsSized id (acked port e)
  acked_sized e is = let s = all e is in record { named = s.named; entry = s.entry }

  offered_sized : (e : Entry) → held ≡ Some e → IsSized id (offered port e)
  offered_sized e is = let s = all e is in record { named = s.named; entry = s.entry }

  cleared_sized : (e : Entry) → held ≡ Some e → IsSized id (unless_absent (cleared port) e)
  cleared_sized e is = let s = all e is in spared_sized (cleared port) id e (is_absent e.version) s (record { named = s.named; entry = s.entry })

  written_sized : (e : Entry) → held ≡ Some e → IsSized id (unless_absent (acked port) e)
  written_sized e is = spared_sized (acked port) id e (is_absent e.version) (all e is) (acked_sized e is)

  wanted_sized : (o : Option Entry) → held ≡ o → IsSized id (wanted port o)
  wanted_sized None is = absent_sized id port named
  wanted_sized (Some e) is = acked_sized e is

  dead_anywhere_sized : (seq : ℕ) → seq < 2 ^ 32 → (n : Entry) → Some (dead_at up seq) ≡ Some n → IsSized id n
  dead_anywhere_sized seq h n is = let same : dead_at up seq ≡ n = cc in subst (λ (g : Entry). IsSized id g) same (dead_sized id seq up _ named h)

  snp_rule_sized : (a : Version) (r : Relation) → number_of a < 2 ^ 32 → (n : Entry) → snp_rule up port a r held ≡ Some n → IsSized id n
  snp_rule_sized a Newer h n is = let same : wanted port held ≡ n = cc in subst (λ (g : Entry). IsSized id g) same (wanted_sized held refl)
  snp_rule_sized a Equal h n is = mapped_sized (unless_absent (cleared port)) id held cleared_sized n is
  snp_rule_sized a Older h n is = mapped_sized (offered port) id held offered_sized n is
  snp_rule_sized a Confused h n is = dead_anywhere_sized (number_of a) h n is

  lsp_rule_sized : (l : LspValue) (r : Relation) → l.seq < 2 ^ 32 → IsSized id (stored up port (claimed l.seq l.lifetime l.sum) l.lifetime (body_of l)) → (n : Entry) → lsp_rule up port l r held ≡ Some n → IsSized id n
  lsp_rule_sized l Newer h new n is =
      let same : stored up port (claimed l.seq l.lifetime l.sum) l.lifetime (body_of l) ≡ n = cc in subst (λ (g : Entry). IsSized id g) same new
  lsp_rule_sized l Equal h new n is = mapped_sized (unless_absent (acked port)) id held written_sized n is
  lsp_rule_sized l Older h new n is = mapped_sized (offered port) id held offered_sized n is
  lsp_rule_sized l Confused h new n is = dead_anywhere_sized l.seq h n is

-- ---- what is heard

entry_keeps_sized : (up : PortSet) (port : ℕ) (e : SnpEntry) (h : Holding) → IsSizedEntry e → ((id : LspId) (f : Entry) → get h.db id ≡ Some f → IsSized id f)
    → (id : LspId) (f : Entry) → get (hear_entry_of up port (claim_in e) h).db id ≡ Some f → IsSized id f
entry_keeps_sized up port e h sized all =
    let c = claim_in e in
    let low : number_of c.version < 2 ^ 32 = subst (λ n. n < 2 ^ 32) (sym (number-claimed e.seq e.lifetime e.sum)) sized.entry.seq in
    all_after_claim IsSized (snp_rule up port c.version) up c h all (λ beyond. answered_sized up h.own c.id (number_of c.version) sized.named low)
    (λ n is. snp_rule_sized up port c.id sized.named (get h.db c.id) (λ f at. all c.id f at) c.version _ low n is)

pub entries_keep_sized : EntriesKeepSized
entries_keep_sized up port [] h sized all = all
entries_keep_sized up port (e ∷ es) h sized all = entries_keep_sized up port es (hear_entry_of up port (claim_in e) h) sized.1 (entry_keeps_sized up port e h sized.0 all)

flag_sized : (port : ℕ) (id : LspId) (e : Entry) (b : Bool) → IsSized id e → IsSized id (flag_if b port e)
flag_sized port id e true s = record { named = s.named; entry = s.entry }
flag_sized port id e false s = s

pub csnp_keeps_sized : CsnpKeepsSized
csnp_keeps_sized up port start end es h sized all =
    all_each IsSized (λ id e. flag_if (is_missed start end (ids_of (claims_in es)) id e) port e) (hear_entries_of up port (claims_in es) h).db (entries_keep_sized up port es h sized all)
    (λ id e s. flag_sized port id e (is_missed start end (ids_of (claims_in es)) id e) s)

stored_sized : (up : PortSet) (port : ℕ) (id : LspId) (seq lifetime sum : ℕ) (body : List ℕ) → IsLspId id → seq < 2 ^ 32 → lifetime < 2 ^ 16 → sum < 2 ^ 16 → IsSized id (stored up port (claimed seq lifetime sum) lifetime body)
stored_sized up port id seq lifetime sum body named s l m = by_tests (seq == 0) (lifetime == 0)
  where
    by_tests : (b d : Bool) → IsSized id (stored up port (if b then Absent else (if d then Dead seq else Live seq sum)) lifetime body)
    by_tests true d = sized_by id (stored up port Absent lifetime body) named (lit< tt) (lit< tt) (lit< tt)
    by_tests false true = sized_by id (stored up port (Dead seq) lifetime body) named (lit< tt) s (lit< tt)
    by_tests false false = sized_by id (stored up port (Live seq sum) lifetime body) named l s m

pub lsp_keeps_sized : LspKeepsSized
lsp_keeps_sized up port l h system fields all =
    let named : IsLspId l.id = record { system = system; bytes = fields.1 } in
    let low : number_of (claim_of l).version < 2 ^ 32 = subst (λ n. n < 2 ^ 32) (sym (number-claimed l.seq l.lifetime l.sum)) fields.2 in
    all_after_claim IsSized (lsp_rule up port l) up (claim_of l) h all (λ beyond. answered_sized up h.own l.id (number_of (claim_of l).version) named low)
    (λ n is. lsp_rule_sized up port l.id named (get h.db l.id) (λ f at. all l.id f at) l _ fields.2 (stored_sized up port l.id l.seq l.lifetime l.sum (body_of l) named fields.2 fields.0 fields.3) n is)

-- ---- what is originated, and aged

next_sized : (up : PortSet) (id : LspId) (body : List ℕ) (seq : ℕ) (held : Option Entry) → IsLspId id → seq < 2 ^ 32 → IsSized id (next_entry up id body seq held)
next_sized up id body seq held named h = by_test (nat_lt seq last_number) refl
  where
    by_test : (b : Bool) → nat_lt seq last_number ≡ b → IsSized id (if b then renewed up id body (seq + 1) else spent_entry up seq held)
    by_test true t = renewed_sized up id body seq named (ltb-true seq last_number t)
    by_test false t = dead_sized id seq up _ named h

number_sized : (id : LspId) (held : Option Entry) → ((e : Entry) → held ≡ Some e → IsSized id e) → number_of (version_in held) < 2 ^ 32
number_sized id None all = lit< tt
number_sized id (Some e) all = (all e refl).entry.seq

next_is_sized : (up : PortSet) (number : ℕ) (h : Holding) (body : List ℕ) → IsLspId (own_number h.own.system number) → AreSized h.db → AreSized (next_of up number body h).db
next_is_sized up number h body named all =
    let id = own_number h.own.system number in
    let held = get h.db id in
    let seq = number_of (version_in held) in
    inserted IsSized h.db id (next_entry up id body seq held) all (next_sized up id body seq held named (number_sized id held (λ e at. all id e at)))

pub origination_keeps_sized : OriginationKeepsSized
origination_keeps_sized up number h named all = originated_keeps (λ g. AreSized g.db) up number h all (λ body fresh has. next_is_sized up number h body named all)

brought_sized : (up : PortSet) (number : ℕ) (h : Holding) → IsLspId (own_number h.own.system number) → AreSized h.db → AreSized (brought_up up number h).db
brought_sized up number h named all =
    let id = own_number h.own.system number in
    brought_keeps (λ g. AreSized g.db) up number h all
    (λ body fresh has. next_is_sized up number h body named all)
    (λ seq sum live. all_changed IsSized (purged seq up) h.db id all
    (λ e is. dead_sized id seq up _ named (subst (λ (v : Version). number_of v < 2 ^ 32) (sym (ap version_in is) ∙ live) (all id e is).entry.seq)))

own_named : (system : SystemId) (number : ℕ) → IsLspId (own_id system) → number < own_numbers → IsLspId (own_number system number)
own_named system number named below = record { system = named.system; bytes = (named.bytes.0, lit< tt, omega (arith, below, few_numbers)) }

pub settling_keeps_sized : SettlingKeepsSized
settling_keeps_sized test up h named all =
    settling_beside (λ g. AreSized g.db) test up h
    (λ number g below same before. brought_sized up number g (subst (λ (s : SystemId). IsLspId (own_number s number)) (sym same.0) (own_named h.own.system number named below)) before) all

pub starting_keeps_sized : StartingKeepsSized
starting_keeps_sized last h long low named all =
    starting_keeps (λ g. AreSized g.db) (λ n. n ≤ last_number) last 0 own_numbers h.own h (omega (arith, long)) low
    (λ number n g below most same before.
    let id = own_number g.own.system number in
    let mine : IsLspId id = subst (λ (s : SystemId). IsLspId (own_number s number)) (sym same.0) (own_named h.own.system number named below) in
    entries_started IsSized number n g before (λ body is low. renewed_sized no_ports id body n mine low) (λ some. dead_sized id n no_ports no_ports mine (omega (arith, most))))
    (refl, refl) all

aged_by : (up : PortSet) (id : LspId) (e : Entry) (v : Version) → e.version ≡ v → IsSized id e → IsSized id (aged_at up e v)
aged_by up id e Absent is s = s
aged_by up id e (Live seq sum) is s = by_test (nat_le e.lifetime 1)
  where
    by_test : (b : Bool) → IsSized id (if b then made (Dead seq) 0 [] up e.ssn else record e { lifetime = e.lifetime - 1 })
    by_test true = dead_sized id seq up e.ssn s.named (subst (λ (v : Version). number_of v < 2 ^ 32) is s.entry.seq)
    by_test false = record { named = s.named; entry = record { lifetime = omega (arith, s.entry.lifetime); system = s.entry.system; seq = s.entry.seq; sum = s.entry.sum } }
aged_by up id e (Dead seq) is s = s

pub ageing_keeps_sized : AgeingKeepsSized
ageing_keeps_sized up id e s = aged_by up id e e.version refl s
