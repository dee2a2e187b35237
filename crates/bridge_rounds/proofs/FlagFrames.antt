-- What one frame leaves of the flags at a port that stays Up with its neighbour, where the version under an id stays.
use Rattle.std.proofs.Common.{◌≡◌, ◌≢◌, ◌⊎◌, inl, inr, ℕ, Bool, true, false, List, [], ◌∷◌, refl, sym, ap, ◌∙◌, subst, Option, Some, None}
use Rattle.std.specs.Option.{option_map}
use Rattle.std.specs.FinMap.{get}
use Rattle.std.proofs.lemmas.Bool.{true≢false}
use Rattle.spb_types.specs.declared.address.LspId.{LspId}
use Rattle.spb_types.specs.declared.ports.PortSet.{PortSet}
use Rattle.spb_types.specs.Ports.{has}
use Rattle.spb_types.proofs.PortLemmas.{has_port, has-with_other}
use Rattle.isis_pdu.specs.Pdu.{LspValue, CsnpValue}
use Rattle.lsdb.specs.declared.version.Version.{Version}
use Rattle.lsdb.specs.declared.version.Version.TheVariants.{Absent}
use Rattle.lsdb.specs.Version.{IsAtMost}
use Rattle.lsdb.specs.Entry.{Entry}
use Rattle.lsdb.specs.Database.{version_in, srm_in, ssn_in, version_at}
use Rattle.lsdb.specs.Certificate.{Claim, IsClaimed}
use Rattle.lsdb.proofs.Order.{both_ways}
use Rattle.lsdb.proofs.LookupLemmas.{same_or_not}
use Rattle.flooding.specs.Hearing.{Holding, claim_of, lsp_rule, snp_rule, hear_lsp_of, is_full_for_lsp, hear_entry_of, is_full_for_entry}
use Rattle.flooding.specs.Room.{has_room}
use Rattle.flooding.proofs.Changed.{held_has_room}
use Rattle.flooding.proofs.Claimed.{others_stand, full_stands, fitting_is_not_full}
use Rattle.flooding.proofs.Steps.{hearing_entry}
use Rattle.snp_sync.specs.Hearing.{hear_entries_of, ids_of, is_missed, flag_if, hear_csnp_of}
use Rattle.snp_sync.proofs.Served.{entries_are_certified, csnp_stands}
use Rattle.bridge_api.specs.Parsing.{Parsed}
use Rattle.bridge_api.specs.Parsing as parsing
use Rattle.bridge_api.specs.Laws.{claims_said}
use Rattle.bridge_rounds.proofs.FlagClaims.{AreSame, unchanged, then_same, mapped, entry_beside, IsAckedAt, lsp_equal, IsClearedAt, entry_equal}

-- ---- versions that stay

-- what stands between two versions that are one is that one
pub between : (a b c : Version) → IsAtMost a b → IsAtMost b c → c ≡ a → b ≡ a
between a b c first next same = both_ways b a (subst (IsAtMost b) same next) first

-- what is held has a place
finds_room : (h : Holding) (id : LspId) (o : Option Entry) → get h.db id ≡ o → version_in o ≢ Absent → has_room h.own.system h.db id ≡ true
finds_room h id None is some = absurd (some refl)
finds_room h id (Some e) is some = held_has_room h.own.system h.db id e is

-- ---- an LSP at the port

-- what came in at a port leaves an entry so, by what it is taken for
pub record LeavesAt (p : ℕ) (x : LspId) (j : Parsed) (o n : Option Entry) : Type 0 where
  pub srm_stays : ((c : CsnpValue) → j ≢ parsing.csnp c) → has (srm_in o) p ≡ false → has (srm_in n) p ≡ false
  pub srm : ((c : CsnpValue) → j ≢ parsing.csnp c) → (a : Version) → IsClaimed (claims_said j) x a → version_in o ≢ Absent → has (srm_in n) p ≡ false
  pub ssn_stays : has (ssn_in o) p ≡ true → has (ssn_in n) p ≡ true
  pub silent : ((l : LspValue) → j ≡ parsing.lsp l → l.id ≢ x) → has (ssn_in o) p ≡ false → has (ssn_in n) p ≡ false

-- what claims nothing of the id and changes no flag
pub same_leaves : (p : ℕ) (x : LspId) (j : Parsed) (o n : Option Entry) → ((a : Version) → IsClaimed (claims_said j) x a → ⊥) → AreSame p o n → LeavesAt p x j o n
same_leaves p x j o n none same = record {
  srm_stays = λ no off. same.srm ∙ off;
  srm = λ no a claimed some. absurd (none a claimed);
  ssn_stays = λ on. same.ssn ∙ on;
  silent = λ no off. same.ssn ∙ off;
}

acked_leaves : (p : ℕ) (l : LspValue) (o n : Option Entry) → IsAckedAt p o n → LeavesAt p l.id (parsing.lsp l) o n
acked_leaves p l o n is = record {
  srm_stays = λ no off. is.srm_stays off;
  srm = λ no a claimed some. is.srm some;
  ssn_stays = λ on. is.ssn_stays on;
  silent = λ no off. absurd (no l refl refl);
}

-- where there is no place nothing is held
full_leaves : (p : ℕ) (l : LspValue) (o n : Option Entry) → (version_in o ≢ Absent → ⊥) → AreSame p o n → LeavesAt p l.id (parsing.lsp l) o n
full_leaves p l o n none same = record {
  srm_stays = λ no off. same.srm ∙ off;
  srm = λ no a claimed some. absurd (none some);
  ssn_stays = λ on. same.ssn ∙ on;
  silent = λ no off. absurd (no l refl refl);
}

module _ (up : PortSet) (p : ℕ) (is_up : has up p ≡ true) where
  lsp_by_room : (l : LspValue) (h : Holding) (b : Bool) → is_full_for_lsp up p l h ≡ b → (claim_of l).version ≡ version_at h.db l.id
      → LeavesAt p l.id (parsing.lsp l) (get h.db l.id) (get (hear_lsp_of up p l h).db l.id)
  lsp_by_room l h true full same =
      full_leaves p l (get h.db l.id) (get (hear_lsp_of up p l h).db l.id)
      (λ some. true≢false (sym full ∙ fitting_is_not_full (lsp_rule up p l) up (claim_of l) h (finds_room h l.id (get h.db l.id) refl some)))
      (unchanged p (get h.db l.id) (get (hear_lsp_of up p l h).db l.id) (ap (λ (g : Holding). get g.db l.id) (full_stands (lsp_rule up p l) up (claim_of l) h full)))
  lsp_by_room l h false there same =
      acked_leaves p l (get h.db l.id) (get (hear_lsp_of up p l h).db l.id) (lsp_equal p (has_port up p is_up).0 (has_port up p is_up).1 up l h there same)

  pub lsp_leaves : (l : LspValue) (h : Holding) (x : LspId) → ((a : Version) → IsClaimed (claim_of l ∷ []) x a → a ≡ version_at h.db x)
      → LeavesAt p x (parsing.lsp l) (get h.db x) (get (hear_lsp_of up p l h).db x)
  lsp_leaves l h x agree =
      elim (same_or_not x l.id) [
        | inl here ↦
            subst (λ (y : LspId). LeavesAt p y (parsing.lsp l) (get h.db y) (get (hear_lsp_of up p l h).db y)) (sym here)
            (lsp_by_room l h (is_full_for_lsp up p l h) refl (agree (claim_of l).version (inl (sym here, refl)) ∙ ap (version_at h.db) here))
        | inr other ↦ same_leaves p x (parsing.lsp l) (get h.db x) (get (hear_lsp_of up p l h).db x) (λ a claimed. named other claimed)
            (unchanged p (get h.db x) (get (hear_lsp_of up p l h).db x) (others_stand (lsp_rule up p l) up (claim_of l) h x other))
      ]
    where
      named : {a : Version} → (x ≡ l.id → ⊥) → ((l.id ≡ x) × ((claim_of l).version ≡ a)) ⊎ ⊥ → ⊥
      named other (inl is) = other (sym is.0)
      named other (inr none) = none

-- ---- entries of a sequence numbers PDU

-- after these claims at a port, each of them of the version that is held
pub record ClearsAt (p : ℕ) (x : LspId) (claims : List Claim) (o n : Option Entry) : Type 0 where
  pub srm_stays : has (srm_in o) p ≡ false → has (srm_in n) p ≡ false
  pub srm : (a : Version) → IsClaimed claims x a → version_in o ≢ Absent → has (srm_in n) p ≡ false
  pub ssn : has (ssn_in n) p ≡ has (ssn_in o) p

module _ (up : PortSet) (q : ℕ) (is_up : has up q ≡ true) where
  -- where the version stays in the end, it does so at the first claim
  first_stays : (c : Claim) (claims : List Claim) (h : Holding) (x : LspId) → version_at (hear_entries_of up q (c ∷ claims) h).db x ≡ version_at h.db x → version_at (hear_entry_of up q c h).db x ≡ version_at h.db x
  first_stays c claims h x stays =
      between (version_at h.db x) (version_at (hear_entry_of up q c h).db x) (version_at (hear_entries_of up q (c ∷ claims) h).db x)
      ((hearing_entry up q c h is_up).rises x) ((entries_are_certified up q claims (hear_entry_of up q c h) is_up).rises x) stays

  pub entries_beside : (p : ℕ) → p ≢ q → (claims : List Claim) (h : Holding) (x : LspId) → version_at (hear_entries_of up q claims h).db x ≡ version_at h.db x → AreSame p (get h.db x) (get (hear_entries_of up q claims h).db x)
  entries_beside p apart [] h x stays = record { srm = refl; ssn = refl }
  entries_beside p apart (c ∷ claims) h x stays =
      let g : Holding = hear_entry_of up q c h in
      let first : version_at g.db x ≡ version_at h.db x = first_stays c claims h x stays in
      then_same p (get h.db x) (get g.db x) (get (hear_entries_of up q claims g).db x)
      (entry_beside up q p (has_port up q is_up).0 (has_port up q is_up).1 apart c h x first) (entries_beside p apart claims g x (stays ∙ sym first))

  entry_by_room : (c : Claim) (h : Holding) (b : Bool) → is_full_for_entry up q c h ≡ b → c.version ≡ version_at h.db c.id → IsClearedAt q (get h.db c.id) (get (hear_entry_of up q c h).db c.id)
  entry_by_room c h true full same =
      let still : AreSame q (get h.db c.id) (get (hear_entry_of up q c h).db c.id) = unchanged q (get h.db c.id) (get (hear_entry_of up q c h).db c.id) (ap (λ (g : Holding). get g.db c.id) (full_stands (snp_rule up q c.version) up c h full)) in
      record {
        srm_stays = λ off. still.srm ∙ off;
        srm = λ some. absurd (true≢false (sym full ∙ fitting_is_not_full (snp_rule up q c.version) up c h (finds_room h c.id (get h.db c.id) refl some)));
        ssn = still.ssn;
      }
  entry_by_room c h false there same = entry_equal q (has_port up q is_up).0 (has_port up q is_up).1 up c h there same

  entry_clears : (c : Claim) (h : Holding) (x : LspId) → (c.id ≡ x → c.version ≡ version_at h.db x) → ClearsAt q x (c ∷ []) (get h.db x) (get (hear_entry_of up q c h).db x)
  entry_clears c h x agree =
      elim (same_or_not x c.id) [
        | inl here ↦ subst (λ (y : LspId). ClearsAt q y (c ∷ []) (get h.db y) (get (hear_entry_of up q c h).db y)) (sym here)
            (cleared (entry_by_room c h (is_full_for_entry up q c h) refl (agree (sym here) ∙ ap (version_at h.db) here)))
        | inr other ↦ left other (unchanged q (get h.db x) (get (hear_entry_of up q c h).db x) (others_stand (snp_rule up q c.version) up c h x other))
      ]
    where
      cleared : {o n : Option Entry} → IsClearedAt q o n → ClearsAt q c.id (c ∷ []) o n
      cleared is = record { srm_stays = is.srm_stays; srm = λ a claimed some. is.srm some; ssn = is.ssn }

      named : {a : Version} → (x ≡ c.id → ⊥) → ((c.id ≡ x) × (c.version ≡ a)) ⊎ ⊥ → ⊥
      named other (inl is) = other (sym is.0)
      named other (inr none) = none

      left : {o n : Option Entry} → (x ≡ c.id → ⊥) → AreSame q o n → ClearsAt q x (c ∷ []) o n
      left other same = record { srm_stays = λ off. same.srm ∙ off; srm = λ a claimed some. absurd (named other claimed); ssn = same.ssn }

  both_clear : (c : Claim) (claims : List Claim) (x : LspId) (o m n : Option Entry) → version_in m ≡ version_in o → ClearsAt q x (c ∷ []) o m → ClearsAt q x claims m n → ClearsAt q x (c ∷ claims) o n
  both_clear c claims x o m n same first rest = record { srm_stays = λ off. rest.srm_stays (first.srm_stays off); srm = λ a claimed some. by a claimed some; ssn = rest.ssn ∙ first.ssn }
    where
      by : (a : Version) → ((c.id ≡ x) × (c.version ≡ a)) ⊎ IsClaimed claims x a → version_in o ≢ Absent → has (srm_in n) q ≡ false
      by a (inl here) some = rest.srm_stays (first.srm a (inl here) some)
      by a (inr there) some = rest.srm a there (λ none. some (sym same ∙ none))

  pub entries_clear : (claims : List Claim) (h : Holding) (x : LspId) → version_at (hear_entries_of up q claims h).db x ≡ version_at h.db x → ((a : Version) → IsClaimed claims x a → a ≡ version_at h.db x)
      → ClearsAt q x claims (get h.db x) (get (hear_entries_of up q claims h).db x)
  entries_clear [] h x stays agree = record { srm_stays = λ off. off; srm = λ a claimed some. absurd claimed; ssn = refl }
  entries_clear (c ∷ claims) h x stays agree =
      let g : Holding = hear_entry_of up q c h in
      let first : version_at g.db x ≡ version_at h.db x = first_stays c claims h x stays in
      both_clear c claims x (get h.db x) (get g.db x) (get (hear_entries_of up q claims g).db x) first
      (entry_clears c h x (λ here. agree c.version (inl (here, refl)))) (entries_clear claims g x (stays ∙ sym first) (λ a claimed. agree a (inr claimed) ∙ sym first))

  -- ---- a CSNP

  flag_version : (o : Option Entry) (missed : Entry → Bool) → version_in (option_map (λ e. flag_if (missed e) q e) o) ≡ version_in o
  flag_version None missed = refl
  flag_version (Some e) missed = by (missed e)
    where
      by : (b : Bool) → (flag_if b q e).version ≡ e.version
      by true = refl
      by false = refl

  flag_ssn : (p : ℕ) (o : Option Entry) (missed : Entry → Bool) → has (ssn_in (option_map (λ e. flag_if (missed e) q e) o)) p ≡ has (ssn_in o) p
  flag_ssn p None missed = refl
  flag_ssn p (Some e) missed = by (missed e)
    where
      by : (b : Bool) → has (flag_if b q e).ssn p ≡ has e.ssn p
      by true = refl
      by false = refl

  flag_beside : (p : ℕ) (e : Entry) (b : Bool) → p ≢ q → AreSame p (Some e) (Some (flag_if b q e))
  flag_beside p e true apart = record { srm = has-with_other e.srm q p (has_port up q is_up).0 (has_port up q is_up).1 apart; ssn = refl }
  flag_beside p e false apart = record { srm = refl; ssn = refl }

  -- its entries leave the version, since what it doesn't name gets flags alone
  pub csnp_entries_stay : (start end : LspId) (claims : List Claim) (h : Holding) (x : LspId) → version_at (hear_csnp_of up q start end claims h).db x ≡ version_at h.db x → version_at (hear_entries_of up q claims h).db x ≡ version_at h.db x
  csnp_entries_stay start end claims h x stays =
      sym (flag_version (get (hear_entries_of up q claims h).db x) (is_missed start end (ids_of claims) x))
      ∙ (sym (ap version_in (csnp_stands up q start end claims h x)) ∙ stays)

  pub csnp_beside : (p : ℕ) → p ≢ q → (start end : LspId) (claims : List Claim) (h : Holding) (x : LspId) → version_at (hear_csnp_of up q start end claims h).db x ≡ version_at h.db x
      → AreSame p (get h.db x) (get (hear_csnp_of up q start end claims h).db x)
  csnp_beside p apart start end claims h x stays =
      let heard : Option Entry = get (hear_entries_of up q claims h).db x in
      subst (AreSame p (get h.db x)) (sym (csnp_stands up q start end claims h x))
      (then_same p (get h.db x) heard (option_map (λ e. flag_if (is_missed start end (ids_of claims) x e) q e) heard)
      (entries_beside p apart claims h x (csnp_entries_stay start end claims h x stays))
      (mapped p (λ e. flag_if (is_missed start end (ids_of claims) x e) q e) heard (λ e. flag_beside p e (is_missed start end (ids_of claims) x e) apart)))

  pub csnp_leaves : (c : CsnpValue) (claims : List Claim) (h : Holding) (x : LspId) → version_at (hear_csnp_of up q c.start c.end claims h).db x ≡ version_at h.db x → ((a : Version) → IsClaimed claims x a → a ≡ version_at h.db x)
      → LeavesAt q x (parsing.csnp c) (get h.db x) (get (hear_csnp_of up q c.start c.end claims h).db x)
  csnp_leaves c claims h x stays agree =
      let heard : Option Entry = get (hear_entries_of up q claims h).db x in
      let ssn : has (ssn_in (get (hear_csnp_of up q c.start c.end claims h).db x)) q ≡ has (ssn_in (get h.db x)) q =
      ap (λ (o : Option Entry). has (ssn_in o) q) (csnp_stands up q c.start c.end claims h x)
      ∙ (flag_ssn q heard (is_missed c.start c.end (ids_of claims) x)
      ∙ (entries_clear claims h x (csnp_entries_stay c.start c.end claims h x stays) agree).ssn) in
      record { srm_stays = λ no off. absurd (no c refl); srm = λ no a claimed some. absurd (no c refl); ssn_stays = λ on. ssn ∙ on; silent = λ no off. ssn ∙ off }
