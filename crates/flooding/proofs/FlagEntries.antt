-- Flags stay at Up ports, whatever was heard or originated.
use Rattle.std.specs.Prelude.{◌≡◌, ℕ, ◌+◌, ◌≤◌, List, Bool, true, false, ◌&&◌, ◌||◌, not, Option, Some, None, ◌==◌, nat_lt, if◌then◌else◌}
use Rattle.std.proofs.Common.{refl, sym, ap, subst, ◌∙◌}
use Rattle.std.proofs.lemmas.Bool.{and_parts, true≢false, false≢true, eqb-true}
use Rattle.std.specs.Option.{option_map}
use Rattle.std.specs.FinMap.{get}
use Rattle.spb_types.specs.declared.address.LspId.{LspId}
use Rattle.spb_types.specs.declared.ports.PortSet.{PortSet}
use Rattle.spb_types.specs.Ports.{has, no_ports, with_port, without_port}
use Rattle.spb_types.proofs.PortLemmas.{has_port, has-no_ports}
use Rattle.isis_pdu.specs.Pdu.{LspValue}
use Rattle.lsdb.specs.declared.version.Version.{Version}
use Rattle.lsdb.specs.declared.version.Version.TheVariants.{Absent, Live, Dead}
use Rattle.lsdb.specs.declared.version.Relation.{Relation}
use Rattle.lsdb.specs.declared.version.Relation.TheVariants.{Older, Equal, Newer, Confused}
use Rattle.lsdb.specs.Version.{number_of, is_absent, leq, relation}
use Rattle.lsdb.specs.Entry.{Entry, stored, acked, cleared, offered, purged}
use Rattle.lsdb.specs.Database.{version_in}
use Rattle.lsdb.proofs.Order.{older_is, newer_is}
use Rattle.flooding.specs.Own.{last_number, own_number, body_for, renewed, dead_at, answered_by}
use Rattle.flooding.specs.Hearing.{Holding, claim_of, body_of, unless_absent, wanted, lsp_rule, snp_rule}
use Rattle.flooding.specs.Origination.{spent_entry, next_entry, originated}
use Rattle.flooding.specs.Entries.{HasFlagsAt, HaveFlagsAt}
use Rattle.flooding.specs.Laws.{LspKeepsFlags, EntryKeepsFlags, BringingKeepsFlags}
use Rattle.flooding.proofs.AllEntries.{inserted, all_changed, all_after_claim}
use Rattle.flooding.proofs.Brought.{next_of, originated_keeps, brought_keeps}
use Rattle.flooding.proofs.Flags.{has-with, has-without, has-alone}

-- ---- tests

or_cases : {P : Type 0} (a b : Bool) → (a || b) ≡ true → (a ≡ true → P) → (b ≡ true → P) → P
or_cases true b is left right = left refl
or_cases false b is left right = right is

and_false : (a b : Bool) → a ≡ false → (a && b) ≡ false
and_false a b is = ap (λ x. x && b) is

-- absent is at most every version
absent_below : (a h : Version) → leq a h ≡ false → a ≡ Absent → ⊥
unfolding leq
absent_below Absent h beyond is = true≢false beyond
absent_below (Live seq sum) h beyond is = cc
absent_below (Dead seq) h beyond is = cc

module _ (up : PortSet) where
  -- ---- sets of ports

  pub none_up : (p : ℕ) → has no_ports p ≡ true → has up p ≡ true
  none_up p h = absurd (false≢true (sym (has-no_ports p) ∙ h))

  module _ (port : ℕ) (is_up : has up port ≡ true) where
    range : (1 ≤ port) × (port ≤ 32)
    range = has_port up port is_up

    here_up : (p : ℕ) → (p == port) ≡ true → has up p ≡ true
    here_up p h = ap (λ q. has up q) (eqb-true p port h) ∙ is_up

    with_up : (set : PortSet) → ((p : ℕ) → has set p ≡ true → has up p ≡ true) → (p : ℕ) → has (with_port set port) p ≡ true → has up p ≡ true
    with_up set within p h = or_cases (has set p) (p == port) (sym (has-with set port p range.0 range.1) ∙ h) (within p) (here_up p)

    without_up : (set : PortSet) → ((p : ℕ) → has set p ≡ true → has up p ≡ true) → (p : ℕ) → has (without_port set port) p ≡ true → has up p ≡ true
    without_up set within p h = within p (and_parts (has set p) (not (p == port)) (sym (has-without set port p range.0 range.1) ∙ h)).0

    without_none : (set : PortSet) (p : ℕ) → has set p ≡ false → has (without_port set port) p ≡ false
    without_none set p h = has-without set port p range.0 range.1 ∙ and_false (has set p) (not (p == port)) h

    -- ---- rules

    acked_flagged : (e : Entry) → HasFlagsAt up e → HasFlagsAt up (acked port e)
    acked_flagged e f = record { srm = without_up e.srm f.srm; ssn = with_up e.ssn f.ssn; absent = λ a p. without_none e.srm p (f.absent a p) }

    cleared_flagged : (e : Entry) → HasFlagsAt up e → HasFlagsAt up (cleared port e)
    cleared_flagged e f = record { srm = without_up e.srm f.srm; ssn = f.ssn; absent = λ a p. without_none e.srm p (f.absent a p) }

    offered_flagged : (e : Entry) → (e.version ≡ Absent → ⊥) → HasFlagsAt up e → HasFlagsAt up (offered port e)
    offered_flagged e there f = record { srm = with_up e.srm f.srm; ssn = without_up e.ssn f.ssn; absent = λ a p. absurd (there a) }

    alone_up : (p : ℕ) → has (with_port no_ports port) p ≡ true → has up p ≡ true
    alone_up p h = here_up p (sym (has-alone port p range.0 range.1) ∙ h)

    stored_flagged : (a : Version) (lifetime : ℕ) (body : _) → (a ≡ Absent → ⊥) → HasFlagsAt up (stored up port a lifetime body)
    stored_flagged a lifetime body there = record { srm = without_up up (λ p h. h); ssn = alone_up; absent = λ b p. absurd (there b) }

    wanted_flagged : (held : Option Entry) → ((e : Entry) → held ≡ Some e → HasFlagsAt up e) → HasFlagsAt up (wanted port held)
    wanted_flagged None all = record { srm = none_up; ssn = alone_up; absent = λ a p. has-no_ports p }
    wanted_flagged (Some e) all = acked_flagged e (all e refl)

  spared : (f : Entry → Entry) (e : Entry) (b : Bool) → HasFlagsAt up e → HasFlagsAt up (f e) → HasFlagsAt up (if b then e else f e)
  spared f e true same changed = same
  spared f e false same changed = changed

  mapped : (f : Entry → Entry) (held : Option Entry) → ((e : Entry) → held ≡ Some e → HasFlagsAt up (f e)) → (g : Entry) → option_map f held ≡ Some g → HasFlagsAt up g
  mapped f None all g is = absurd (cc)
  mapped f (Some e) all g is = let same : f e ≡ g = cc in subst (λ (x : Entry). HasFlagsAt up x) same (all e refl)

  -- a version that goes to every Up port
  dead_flagged : (seq : ℕ) → HasFlagsAt up (dead_at up seq)
  dead_flagged seq = record { srm = λ p h. h; ssn = none_up; absent = λ a p. absurd (cc) }

  renewed_flagged : (id : LspId) (body : List ℕ) (seq : ℕ) → HasFlagsAt up (renewed up id body seq)
  renewed_flagged id body seq = record { srm = λ p h. h; ssn = none_up; absent = λ a p. absurd (cc) }

  answer_by : (id : LspId) (body : List ℕ) (seq : ℕ) (b : Bool) → HasFlagsAt up (if b then renewed up id body (seq + 1) else dead_at up seq)
  answer_by id body seq true = renewed_flagged id body (seq + 1)
  answer_by id body seq false = dead_flagged seq

  answered_flagged : (id : LspId) (seq : ℕ) (o : Option (List ℕ)) → HasFlagsAt up (answered_by up id seq o)
  answered_flagged id seq None = dead_flagged seq
  answered_flagged id seq (Some body) = answer_by id body seq (nat_lt seq last_number)

  dead_is : (seq : ℕ) (g : Entry) → Some (dead_at up seq) ≡ Some g → HasFlagsAt up g
  dead_is seq g is = let same : dead_at up seq ≡ g = cc in subst (λ (x : Entry). HasFlagsAt up x) same (dead_flagged seq)

  -- what is held of an older claim isn't absent
  older_there : (a : Version) (held : Option Entry) (e : Entry) → relation a (version_in held) ≡ Older → held ≡ Some e → e.version ≡ Absent → ⊥
  older_there a held e is found gone = absent_below (version_in held) a (older_is a (version_in held) is).1 (ap version_in found ∙ gone)

  snp_rule_flagged : (port : ℕ) → has up port ≡ true → (a : Version) (r : Relation) (held : Option Entry) → relation a (version_in held) ≡ r
      → ((e : Entry) → held ≡ Some e → HasFlagsAt up e) → (g : Entry) → snp_rule up port a r held ≡ Some g → HasFlagsAt up g
  snp_rule_flagged port is_up a Older held is all g found = mapped (offered port) held (λ e h. offered_flagged port is_up e (older_there a held e is h) (all e h)) g found
  snp_rule_flagged port is_up a Equal held is all g found = mapped (unless_absent (cleared port)) held (λ e h. spared (cleared port) e (is_absent e.version) (all e h) (cleared_flagged port is_up e (all e h))) g found
  snp_rule_flagged port is_up a Newer held is all g found = let same : wanted port held ≡ g = cc in subst (λ (x : Entry). HasFlagsAt up x) same (wanted_flagged port is_up held all)
  snp_rule_flagged port is_up a Confused held is all g found = dead_is (number_of a) g found

  lsp_rule_flagged : (port : ℕ) → has up port ≡ true → (l : LspValue) (r : Relation) (held : Option Entry) → relation (claim_of l).version (version_in held) ≡ r
      → ((e : Entry) → held ≡ Some e → HasFlagsAt up e) → (g : Entry) → lsp_rule up port l r held ≡ Some g → HasFlagsAt up g
  lsp_rule_flagged port is_up l Older held is all g found = mapped (offered port) held (λ e h. offered_flagged port is_up e (older_there (claim_of l).version held e is h) (all e h)) g found
  lsp_rule_flagged port is_up l Equal held is all g found = mapped (unless_absent (acked port)) held (λ e h. spared (acked port) e (is_absent e.version) (all e h) (acked_flagged port is_up e (all e h))) g found
  lsp_rule_flagged port is_up l Newer held is all g found =
      let same : stored up port (claim_of l).version l.lifetime (body_of l) ≡ g = cc in
      subst (λ (x : Entry). HasFlagsAt up x) same
      (stored_flagged port is_up (claim_of l).version l.lifetime (body_of l) (absent_below (claim_of l).version (version_in held) (newer_is (claim_of l).version (version_in held) is).0))
  lsp_rule_flagged port is_up l Confused held is all g found = dead_is l.seq g found

  next_by : (id : LspId) (body : List ℕ) (seq : ℕ) (held : Option Entry) (b : Bool) → ((e : Entry) → held ≡ Some e → HasFlagsAt up e)
      → HasFlagsAt up (if b then renewed up id body (seq + 1) else spent_entry up seq held)
  next_by id body seq held true all = renewed_flagged id body (seq + 1)
  next_by id body seq None false all = record { srm = λ p h. h; ssn = none_up; absent = λ a p. absurd (cc) }
  next_by id body seq (Some e) false all = record { srm = λ p h. h; ssn = (all e refl).ssn; absent = λ a p. absurd (cc) }

-- ---- the laws

pub lsp_keeps_flags : LspKeepsFlags
lsp_keeps_flags up port l h is_up all =
    all_after_claim (λ id e. HasFlagsAt up e) (lsp_rule up port l) up (claim_of l) h all
    (λ beyond. answered_flagged up l.id (number_of (claim_of l).version) (body_for h.own l.id))
    (lsp_rule_flagged up port is_up l _ (get h.db l.id) refl (all l.id))

pub entry_keeps_flags : EntryKeepsFlags
entry_keeps_flags up port c h is_up all =
    all_after_claim (λ id e. HasFlagsAt up e) (snp_rule up port c.version) up c h all
    (λ beyond. answered_flagged up c.id (number_of c.version) (body_for h.own c.id))
    (snp_rule_flagged up port is_up c.version _ (get h.db c.id) refl (all c.id))

next_is_flagged : (up : PortSet) (number : ℕ) (h : Holding) (body : List ℕ) → HaveFlagsAt up h.db → HaveFlagsAt up (next_of up number body h).db
next_is_flagged up number h body all =
    let id = own_number h.own.system number in
    let held = get h.db id in
    let seq = number_of (version_in held) in
    inserted (λ id e. HasFlagsAt up e) h.db id (next_entry up id body seq held) all (next_by up id body seq held (nat_lt seq last_number) (all id))

pub bringing_keeps_flags : BringingKeepsFlags
bringing_keeps_flags up number h all =
    brought_keeps (λ g. HaveFlagsAt up g.db) up number h all
    (λ body fresh has. next_is_flagged up number h body all)
    (λ seq sum live. all_changed (λ id e. HasFlagsAt up e) (purged seq up) h.db (own_number h.own.system number) all (λ e is. dead_flagged up seq))

pub origination_keeps_flags : (up : PortSet) (number : ℕ) (h : Holding) → HaveFlagsAt up h.db → HaveFlagsAt up (originated up number h).db
origination_keeps_flags up number h all =
    originated_keeps (λ g. HaveFlagsAt up g.db) up number h all (λ body fresh has. next_is_flagged up number h body all)
