-- What a bridge holds when a life begins: each of its own LSPs above the number with which the life before ended.
use Rattle.std.proofs.Common.{◌≡◌, ◌≤◌, ◌<◌, ◌+◌, ℕ, zero, suc, Bool, true, false, List, [], ◌∷◌, length, refl, sym, ap, ◌∙◌, subst, Option, Some, None, slice_get, arith}
use Rattle.std.specs.Prelude.{nat_lt, not, ◌^◌, if◌then◌else◌}
use Rattle.std.specs.List.{list_any, AllByRecursion}
use Rattle.std.specs.FinMap.{get}
use Rattle.std.proofs.lemmas.Bool.{or_from, lt-ltb}
use Rattle.spb_types.specs.declared.address.SystemId.{SystemId}
use Rattle.spb_types.specs.declared.address.LspId.{LspId}
use Rattle.spb_types.specs.Ports.{no_ports}
use Rattle.lsdb.specs.declared.version.Version.{Version}
use Rattle.lsdb.specs.declared.version.Version.TheVariants.{Absent, Live, Dead}
use Rattle.lsdb.specs.Version.{number_of}
use Rattle.lsdb.specs.Entry.{Entry, AreKept, IsClean}
use Rattle.lsdb.specs.Database.{version_at, version_in}
use Rattle.flooding.specs.Own.{last_number, own_numbers, own_number, IsOwnNumber, is_own_number, body_of_number, renewed, dead_at}
use Rattle.flooding.specs.Starting.{started_by, started_as, is_last, StartsAlone}
use Rattle.flooding.specs.Advancing.{Advanced, stays, advances, ends}
use Rattle.flooding.specs.Entries.{IsNumbered}
use Rattle.flooding.proofs.OwnNumbers.{some_number}
use Rattle.bridge_api.specs.declared.config.BridgeConfig.{BridgeConfig}
use Rattle.bridge_api.specs.View.{BridgeView}
use Rattle.bridge_api.specs.Own.{own_of, holding_of}
use Rattle.bridge_api.specs.Config.{IsWhole, bare, configured}
use Rattle.bridge_api.specs.Laws.{IsSoundView}
use Rattle.bridge_api.proofs.Bodies.{first_text, first_body}
use Rattle.bridge_api.proofs.Configured.{configured_starts}
use Rattle.network_model.specs.Restarting.{numbers_from}

-- ---- the numbers with which a life ends

-- that of an own LSP
abbrev pub number_at : BridgeView → ℕ → ℕ
number_at v k = number_of (version_at v.database (own_number v.id.system k))

pub length-numbers_from : (v : BridgeView) (n k : ℕ) → length (numbers_from v n k) ≡ n
length-numbers_from v zero k = refl
length-numbers_from v (suc n) k = ap suc (length-numbers_from v n (k + 1))

get-numbers_from : (v : BridgeView) (n k m : ℕ) → m < n → slice_get (numbers_from v n k) m ≡ Some (number_at v (k + m))
get-numbers_from v zero k m within = absurd (omega (arith, within))
get-numbers_from v (suc n) k zero within = let e : k ≡ k + 0 = omega arith in ap (λ (q : ℕ). Some (number_at v q)) e
get-numbers_from v (suc n) k (suc m) within =
    let e : k + 1 + m ≡ k + suc m = omega arith in
    get-numbers_from v n (k + 1) m (omega (arith, within)) ∙ ap (λ (q : ℕ). Some (number_at v q)) e

number_in_list : (v : BridgeView) (k : ℕ) → k < own_numbers → slice_get (numbers_from v own_numbers 0) k ≡ Some (number_at v k)
number_in_list v k below =
    let e : 0 + k ≡ k = omega arith in
    get-numbers_from v own_numbers 0 k below ∙ ap (λ (q : ℕ). Some (number_at v q)) e

-- what is so of each is so of the list
pub all_numbers : (P : ℕ → Type 0) (v : BridgeView) (n k : ℕ) → ((m : ℕ) → P (number_at v m)) → AllByRecursion P (numbers_from v n k)
all_numbers P v zero k each = tt
all_numbers P v (suc n) k each = (each k, all_numbers P v n (k + 1) each)

all_below : (v : BridgeView) (n k most : ℕ) → k + n ≤ most → ((m : ℕ) → m < most → number_at v m < last_number) → AllByRecursion (λ x. x < last_number) (numbers_from v n k)
all_below v zero k most within each = tt
all_below v (suc n) k most within each = (each k (omega (arith, within)), all_below v n (k + 1) most (omega (arith, within)) each)

none_last : (ns : List ℕ) → AllByRecursion (λ n. n < last_number) ns → list_any is_last ns ≡ false
none_last [] low = refl
none_last (n ∷ ns) low = or_from (is_last n) (list_any is_last ns) (ap not (lt-ltb n last_number low.0)) (none_last ns low.1)

-- each fits four bytes
number_in_bytes : (o : Option Entry) → ((e : Entry) → o ≡ Some e → number_of e.version ≤ last_number) → number_of (version_in o) ≤ last_number
number_in_bytes None each = omega arith
number_in_bytes (Some e) each = each e refl

pub number_fits : (v : BridgeView) (id : LspId) → IsSoundView v → number_of (version_at v.database id) ≤ last_number
number_fits v id sound =
    number_in_bytes (get v.database id) (λ e at.
    let low : number_of e.version < 2 ^ 32 = (sound.database.sized id e at).entry.seq in omega (arith, low))

-- ---- an own LSP that begins above a number

without_body : (P : Option Entry → Type 0) (id : LspId) (n : ℕ) → (n ≡ 0 → P None) → P (Some (dead_at no_ports n)) → P (started_by id n None)
without_body P id zero none dies = none refl
without_body P id (suc n) none dies = dies

started_cases : (P : Option Entry → Type 0) (id : LspId) (n : ℕ) (body : Option (List ℕ)) → ((b : List ℕ) → P (Some (renewed no_ports id b (n + 1)))) → (n ≡ 0 → P None) → P (Some (dead_at no_ports n)) → P (started_as id n body)
started_cases P id n body lives none dies = by (nat_lt n last_number) body
  where
    by : (low : Bool) (o : Option (List ℕ)) → P (if low then started_by id n o else Some (dead_at no_ports n))
    by true (Some b) = lives b
    by true None = without_body P id n none dies
    by false o = dies

-- what isn't held any more was held at no number
unheld : (o : Option Entry) → ((e : Entry) → o ≡ Some e → IsNumbered e.version × IsClean e) → number_of (version_in o) ≡ 0 → Advanced o None
unheld None each none = stays refl refl
unheld (Some e) each none = by e.version refl
  where
    by : (a : Version) → e.version ≡ a → Advanced (Some e) None
    by Absent is = stays (sym is) (sym (subst (λ (a : Version). AreKept a e.lifetime e.body) is (each e refl).1).1)
    by (Live seq sum) is = let some : 1 ≤ seq = subst IsNumbered is (each e refl).0 in absurd (omega (arith, some, none, ap number_of is))
    by (Dead seq) is = let some : 1 ≤ seq = subst IsNumbered is (each e refl).0 in absurd (omega (arith, some, none, ap number_of is))

-- ---- the bridge

-- after a life of v, that of a bridge which is configured with the numbers with which it ended
module _ (v : BridgeView) (c : BridgeConfig) (whole : IsWhole c) (last : c.last ≡ numbers_from v own_numbers 0) (system : c.id.system ≡ v.id.system) where
  abbrev new : BridgeView
  new = configured c

  starts : StartsAlone c.last (holding_of (bare c)) (holding_of new)
  starts = configured_starts c whole

  begun : (k : ℕ) → k < own_numbers → get new.database (own_number v.id.system k) ≡ started_as (own_number v.id.system k) (number_at v k) (body_of_number (own_of (bare c)) k)
  begun k below =
      subst (λ (x : SystemId). get new.database (own_number x k) ≡ started_as (own_number x k) (number_at v k) (body_of_number (own_of (bare c)) k)) system
      (starts.starts k (number_at v k) (ap (λ (ns : List ℕ). slice_get ns k) last ∙ number_in_list v k below))

  begun_with : (P : Option Entry → Type 0) (k : ℕ) → k < own_numbers → ((b : List ℕ) → P (Some (renewed no_ports (own_number v.id.system k) b (number_at v k + 1)))) → (number_at v k ≡ 0 → P None) → P (Some (dead_at no_ports (number_at v k)))
      → P (get new.database (own_number v.id.system k))
  begun_with P k below lives none dies =
      subst P (sym (begun k below)) (started_cases P (own_number v.id.system k) (number_at v k) (body_of_number (own_of (bare c)) k) lives none dies)

  -- what it holds of its own numbers comes after what stood there
  pub advanced_at : IsSoundView v → (k : ℕ) → k < own_numbers → Advanced (get v.database (own_number v.id.system k)) (get new.database (own_number v.id.system k))
  advanced_at sound k below =
      let id : LspId = own_number v.id.system k in
      begun_with (Advanced (get v.database id)) k below (λ b. advances (omega arith))
      (λ none. unheld (get v.database id) (λ e at. let is = sound.database.sendable id e at in (is.numbered, is.clean)) none)
      (ends (number_at v k) refl (omega arith))

  pub own_advanced : IsSoundView v → (id : LspId) → IsOwnNumber v.id.system id → Advanced (get v.database id) (get new.database id)
  own_advanced sound id own = subst (λ (x : LspId). Advanced (get v.database x) (get new.database x)) (sym own.is) (advanced_at sound own.number own.below)

  -- and is one number further at most
  further_at : (k : ℕ) → k < own_numbers → number_of (version_at new.database (own_number v.id.system k)) ≤ number_at v k + 1
  further_at k below = begun_with (λ (o : Option Entry). number_of (version_in o) ≤ number_at v k + 1) k below (λ b. omega arith) (λ none. omega arith) (omega arith)

  pub own_further : (id : LspId) → IsOwnNumber v.id.system id → number_of (version_at new.database id) ≤ number_of (version_at v.database id) + 1
  own_further id own = subst (λ (x : LspId). number_of (version_at new.database x) ≤ number_of (version_at v.database x) + 1) (sym own.is) (further_at own.number own.below)

  -- the LSP by which the system is known goes one further, where it can
  pub first_further : number_at v 0 < last_number → number_of (version_at new.database (own_number v.id.system 0)) ≡ number_at v 0 + 1
  first_further low =
      let id : LspId = own_number v.id.system 0 in
      ap (λ (o : Option Entry). number_of (version_in o)) (begun 0 (omega (arith, some_number)) ∙ ap (started_as id (number_at v 0)) (first_body (bare c)))
      ∙ ap (λ (b : Bool). number_of (version_in (if b then started_by id (number_at v 0) (Some (first_text (bare c))) else Some (dead_at no_ports (number_at v 0))))) (lt-ltb (number_at v 0) last_number low)

  -- of the ids that aren't its own it holds none
  pub nothing_else : (id : LspId) → is_own_number v.id.system id ≡ false → get new.database id ≡ None
  nothing_else id other = starts.alone id (ap (λ (x : SystemId). is_own_number x id) system ∙ other)

  -- below the last number it isn't spent
  pub unspent : ((k : ℕ) → k < own_numbers → number_at v k < last_number) → new.spent ≡ false
  unspent low = starts.spent ∙ (ap (list_any is_last) last ∙ none_last (numbers_from v own_numbers 0) (all_below v own_numbers 0 own_numbers (omega arith) low))
