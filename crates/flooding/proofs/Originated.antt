-- What an origination comes to in code.
use Rattle.std.specs.Prelude.{◌≡◌, ℕ, ◌+◌, List, true, false, Option, Some, None, nat_lt, if◌then◌else◌}
use Rattle.std.proofs.Common.{refl, sym, ap, ◌∙◌}
use Rattle.std.proofs.lemmas.Bool.{true≢false}
use Rattle.std.specs.FinMap.{get, insert}
use Rattle.spb_types.specs.declared.address.LspId.{LspId}
use Rattle.spb_types.specs.declared.ports.PortSet.{PortSet}
use Rattle.lsdb.specs.Version.{number_of, is_absent}
use Rattle.lsdb.specs.Entry.{Entry, with_flags, purged}
use Rattle.lsdb.specs.Database.{Lsps, version_in, version_at, ssn_in, changed}
use Rattle.lsdb.proofs.LookupLemmas.{changed_held}
use Rattle.flooding.specs.Own.{last_number, own_number, body_of_number, renewed}
use Rattle.flooding.specs.Hearing.{Holding}
use Rattle.flooding.specs.Origination.{spent_entry, next_entry, next_own, originated_by, originated}
use Rattle.flooding.specs.Placing.{holding}
use Rattle.flooding.proofs.Brought.{originated_is}

-- a spent system
pub originated_spent : (up : PortSet) (number : ℕ) (h : Holding) → h.own.spent ≡ true → h ≡ originated up number h
unfolding originated
originated_spent up number h is = sym (ap (λ b. if b then h else originated_by up number (body_of_number h.own number) h) is)

-- one that isn't, without a body for the number
pub originated_none : (up : PortSet) (number : ℕ) (h : Holding) → h.own.spent ≡ false → body_of_number h.own number ≡ None → h ≡ originated up number h
unfolding originated
originated_none up number h fresh is =
    sym (ap (λ b. if b then h else originated_by up number (body_of_number h.own number) h) fresh ∙ ap (λ (o : Option (List ℕ)). originated_by up number o h) is)

-- with one
pub originated_next : (up : PortSet) (number : ℕ) (h : Holding) (body : List ℕ) (seq : ℕ) → h.own.spent ≡ false → body_of_number h.own number ≡ Some body
    → seq ≡ number_of (version_at h.db (own_number h.own.system number)) → nat_lt seq last_number ≡ true
    → originated up number h ≡ holding (insert h.db (own_number h.own.system number) (renewed up (own_number h.own.system number) body (seq + 1))) h.own
originated_next up number h body seq fresh has is below =
    let id = own_number h.own.system number in
    originated_is up number h body fresh has
    ∙ ap (λ n. holding (insert h.db id (next_entry up id body n (get h.db id))) (next_own h.own n)) (sym is)
    ∙ ap (λ b. holding (insert h.db id (if b then renewed up id body (seq + 1) else spent_entry up seq (get h.db id))) (if b then h.own else record h.own { spent = true })) below

pub originated_last : (up : PortSet) (number : ℕ) (h : Holding) (body : List ℕ) (seq : ℕ) → h.own.spent ≡ false → body_of_number h.own number ≡ Some body
    → seq ≡ number_of (version_at h.db (own_number h.own.system number)) → nat_lt seq last_number ≡ false
    → originated up number h ≡ holding (insert h.db (own_number h.own.system number) (spent_entry up seq (get h.db (own_number h.own.system number)))) (record h.own { spent = true })
originated_last up number h body seq fresh has is past =
    let id = own_number h.own.system number in
    originated_is up number h body fresh has
    ∙ ap (λ n. holding (insert h.db id (next_entry up id body n (get h.db id))) (next_own h.own n)) (sym is)
    ∙ ap (λ b. holding (insert h.db id (if b then renewed up id body (seq + 1) else spent_entry up seq (get h.db id))) (if b then h.own else record h.own { spent = true })) past

-- an own LSP at its end, its SSN flags as they were
spent_at : (up ssn : PortSet) (seq : ℕ) (db : Lsps) (id : LspId) (o : Option Entry) → get db id ≡ o → is_absent (version_in o) ≡ false → ssn ≡ ssn_in o
    → changed (λ e. with_flags up ssn (purged seq up e)) db id ≡ insert db id (spent_entry up seq o)
spent_at up ssn seq db id None is there ssn_is = absurd (true≢false there)
spent_at up ssn seq db id (Some e) is there ssn_is =
    changed_held (λ e. with_flags up ssn (purged seq up e)) db id e is
    ∙ ap (λ q. insert db id (with_flags up q (purged seq up e))) ssn_is

pub spent_is : (up ssn : PortSet) (seq : ℕ) (db : Lsps) (id : LspId) → is_absent (version_at db id) ≡ false → ssn ≡ ssn_in (get db id)
    → changed (λ e. with_flags up ssn (purged seq up e)) db id ≡ insert db id (spent_entry up seq (get db id))
spent_is up ssn seq db id there ssn_is = spent_at up ssn seq db id (get db id) refl there ssn_is
