-- What hearing entries comes to.
use Rattle.std.specs.Prelude.{◌≡◌, ℕ, zero, suc, ◌+◌, ◌≤◌, ◌<◌, Bool, true, false, List, [], ◌∷◌, ◌++◌, length, take, slice_get, Option, Some, None, is_some, Result, Ok, Err, OnErr, if◌then◌else◌}
use Rattle.std.proofs.Common.{refl, sym, ap, subst, ◌∙◌, arith, get_or, add-one}
use Rattle.std.specs.Option.{option_and_then}
use Rattle.std.specs.FinMap.{get, insert}
use Rattle.std.proofs.lemmas.List.{take_all, length-map}
use Rattle.spb_types.specs.declared.address.SystemId.{SystemId}
use Rattle.spb_types.specs.declared.address.LspId.{LspId}
use Rattle.spb_types.specs.declared.ports.PortSet.{PortSet}
use Rattle.spb_tlvs.specs.declared.entries.SnpEntry.{SnpEntry}
use Rattle.lsdb.specs.Entry.{Entry, acked}
use Rattle.lsdb.specs.Database.{Lsps, changed, changed_if_held, StandsAt}
use Rattle.lsdb.specs.Certificate.{Claim}
use Rattle.lsdb.proofs.LookupLemmas.{changed_held, changed_standing}
use Rattle.flooding.specs.Own.{HaveBytes}
use Rattle.flooding.specs.Room.{most_others, has_room}
use Rattle.flooding.specs.Hearing.{Holding, HasFewOthers, wanted, snp_rule, hear_entry_of, is_full_for_entry}
use Rattle.flooding.proofs.Changed.{held_has_room}
use Rattle.flooding.proofs.Owns.{own_stands}
use Rattle.flooding.proofs.Few.{hearing_keeps_few, changing_keeps_others}
use Rattle.snp_sync.specs.Hearing.{claim_in, claims_in, hear_entries_of, full_count, HeardSome, ids_of, is_missed, flag_if}
use Rattle.snp_sync.specs.HearingLaws.{EntriesKeepFew, CsnpKeepsFew}

-- an id that is held is asked for in place
wanted_held : (system : SystemId) (db new : Lsps) (id : LspId) (port : ℕ) (o : Option Entry) → o ≡ get db id → is_some o ≡ true → new ≡ changed (acked port) db id → (has_room system db id ≡ true) × (new ≡ insert db id (wanted port (get db id)))
wanted_held system db new id port None is held changed_is = absurd (cc)
wanted_held system db new id port (Some e) is held changed_is = (held_has_room system db id e (sym is), changed_is ∙ changed_held (acked port) db id e (sym is) ∙ ap (λ o. insert db id (wanted port o)) is)

pub wanted_at : (system : SystemId) (db new : Lsps) (id : LspId) (port : ℕ) (o : Option ℕ) → StandsAt db id o → is_some o ≡ true → new ≡ changed_if_held (acked port) db o → (has_room system db id ≡ true) × (new ≡ insert db id (wanted port (get db id)))
wanted_at system db new id port None is held changed_is = absurd (cc)
wanted_at system db new id port (Some place) is held changed_is =
    wanted_held system db new id port (Some is.entry) (sym is.held) refl (changed_is ∙ changed_standing (acked port) db id (Some place) is)

-- hearing leaves the system's bodies
pub entries_bodies : (up : PortSet) (port : ℕ) (claims : List Claim) (h : Holding) → (hear_entries_of up port claims h).own.bodies ≡ h.own.bodies
entries_bodies up port [] h = refl
entries_bodies up port (c ∷ claims) h = entries_bodies up port claims (hear_entry_of up port c h) ∙ (own_stands (snp_rule up port c.version) up c h).1

-- one claim more
hear_push : (up : PortSet) (port : ℕ) (claims : List Claim) (c : Claim) (h : Holding) → hear_entries_of up port (claims ++ c ∷ []) h ≡ hear_entry_of up port c (hear_entries_of up port claims h)
hear_push up port [] c h = refl
hear_push up port (d ∷ claims) c h = hear_push up port claims c (hear_entry_of up port d h)

count_push : (up : PortSet) (port : ℕ) (claims : List Claim) (c : Claim) (h : Holding) → full_count up port (claims ++ c ∷ []) h ≡ full_count up port claims h + (if is_full_for_entry up port c (hear_entries_of up port claims h) then 1 else 0)
count_push up port [] c h = omega arith
count_push up port (d ∷ claims) c h = ap (λ n. (if is_full_for_entry up port d h then 1 else 0) + n) (count_push up port claims c (hear_entry_of up port d h)) ∙ omega arith

next_claim_at : (es : List SnpEntry) (k : ℕ) (d : SnpEntry) → k < length es → take (suc k) (claims_in es) ≡ take k (claims_in es) ++ claim_in (get_or es k d) ∷ []
next_claim_at [] k d within = absurd (omega arith)
next_claim_at (e ∷ es) zero d within = refl
next_claim_at (e ∷ es) (suc k) d within = ap (λ (cs : List Claim). claim_in e ∷ cs) (next_claim_at es k d (omega arith))

next_claim : (es : List SnpEntry) (k : ℕ) (d : SnpEntry) → k < length es → take (k + 1) (claims_in es) ≡ take k (claims_in es) ++ claim_in (get_or es k d) ∷ []
next_claim es k d within = ap (λ n. take n (claims_in es)) (add-one k) ∙ next_claim_at es k d within

-- the first k claims were heard, and so many of them needed a place that there wasn't
pub record HeardTo (up : PortSet) (port : ℕ) (es : List SnpEntry) (old : Holding) (k : ℕ) (new : Holding) (full : ℕ) : Type 0 where
  heard : new ≡ hear_entries_of up port (take k (claims_in es)) old
  counted : full ≡ full_count up port (take k (claims_in es)) old
  pub few : full ≤ k

pub heard_none : (up : PortSet) (port : ℕ) (es : List SnpEntry) (old : Holding) → HeardTo up port es old 0 old 0
heard_none up port es old = record { heard = refl; counted = refl; few = omega arith }

-- bodies with a byte stay so
pub heard_bytes : (up : PortSet) (port : ℕ) (es : List SnpEntry) (old : Holding) (k : ℕ) (new : Holding) (full : ℕ) → HeardTo up port es old k new full → HaveBytes old.own → HaveBytes new.own
heard_bytes up port es old k new full so_far has_bytes =
    subst (λ (bodies : List (Option (List ℕ))). (number : ℕ) (body : List ℕ) → option_and_then (λ b. b) (slice_get bodies number) ≡ Some body → 1 ≤ length body)
    (sym (ap (λ (h : Holding). h.own.bodies) so_far.heard ∙ entries_bodies up port (take k (claims_in es)) old)) has_bytes

-- and the others few
pub entries_keep_few : EntriesKeepFew
entries_keep_few up port [] h few = few
entries_keep_few up port (c ∷ claims) h few = entries_keep_few up port claims (hear_entry_of up port c h) (hearing_keeps_few (snp_rule up port c.version) up c h few)

pub csnp_keeps_few : CsnpKeepsFew
csnp_keeps_few up port start end claims h few =
    let heard = hear_entries_of up port claims h in
    let same = changing_keeps_others heard.own.system (λ id e. flag_if (is_missed start end (ids_of claims) id e) port e) heard.db in
    subst (λ n. n ≤ most_others) (sym same) (entries_keep_few up port claims h few)

pub heard_few : (up : PortSet) (port : ℕ) (es : List SnpEntry) (old : Holding) (k : ℕ) (new : Holding) (full : ℕ) → HeardTo up port es old k new full → HasFewOthers old → HasFewOthers new
heard_few up port es old k new full so_far few = subst HasFewOthers (sym so_far.heard) (entries_keep_few up port (take k (claims_in es)) old few)

test_le : (b : Bool) → (if b then 1 else 0) ≤ 1
test_le true = omega arith
test_le false = omega arith

pub heard_more : (up : PortSet) (port : ℕ) (es : List SnpEntry) (old : Holding) (k : ℕ) (now new : Holding) (full more : ℕ) (d : SnpEntry) → HeardTo up port es old k now full → k < length es
    → new ≡ hear_entry_of up port (claim_in (get_or es k d)) now → more ≡ (if is_full_for_entry up port (claim_in (get_or es k d)) now then 1 else 0) → HeardTo up port es old (k + 1) new (full + more)
heard_more up port es old k now new full more d so_far within heard counted =
    let c = claim_in (get_or es k d) in
    let next = next_claim es k d within in
    let here = so_far.heard in record {
      heard = heard ∙ ap (hear_entry_of up port c) here ∙ sym (ap (λ (cs : List Claim). hear_entries_of up port cs old) next ∙ hear_push up port (take k (claims_in es)) c old);
      counted = (λ i. so_far.counted i + (counted ∙ ap (λ (h : Holding). if is_full_for_entry up port c h then 1 else 0) here) i) ∙ sym (ap (λ (cs : List Claim). full_count up port cs old) next ∙ count_push up port (take k (claims_in es)) c old);
      few = let one : more ≤ 1 = subst (λ n. n ≤ 1) (sym counted) (test_le (is_full_for_entry up port c now)) in omega (arith, so_far.few);
    }

-- some of the claims
pub heard_some : (up : PortSet) (port : ℕ) (es : List SnpEntry) (old : Holding) (k : ℕ) (now new : Holding) (full : ℕ) → HeardTo up port es old k now full → new ≡ now → HeardSome up port (claims_in es) old new
heard_some up port es old k now new full so_far same = (k, same ∙ so_far.heard)

-- all of them
pub heard_all : (up : PortSet) (port : ℕ) (es : List SnpEntry) (old : Holding) (k : ℕ) (new : Holding) (full : ℕ) → HeardTo up port es old k new full → length es ≤ k
    → (full ≡ full_count up port (claims_in es) old) × (new ≡ hear_entries_of up port (claims_in es) old)
heard_all up port es old k new full so_far past =
    let all : take k (claims_in es) ≡ claims_in es = take_all k (claims_in es) (omega (arith, length-map es claim_in)) in
    (so_far.counted ∙ ap (λ (cs : List Claim). full_count up port cs old) all, so_far.heard ∙ ap (λ (cs : List Claim). hear_entries_of up port cs old) all)

pub on_err : {T E P : Type 0} (r : Result T E) → P → OnErr r P
on_err (Ok x) p = tt
on_err (Err e) p = p
