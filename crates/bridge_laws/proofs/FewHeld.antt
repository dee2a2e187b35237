-- How much a bridge holds after a few steps: in each its own LSPs are brought up to date once at most, and nothing else
-- goes in but what it hears.
use Rattle.std.proofs.Common.{◌≡◌, ◌≤◌, ◌<◌, ◌+◌, ◌*◌, ℕ, suc, Bool, true, false, List, [], ◌∷◌, cond, length, refl, sym, ap, ◌∙◌, subst, Option, Some, None, arith, suc-mul}
use Rattle.std.specs.Prelude.{is_some, not, ◌++◌, ⊤}
use Rattle.std.specs.Option.{option_map}
use Rattle.std.specs.List.{AllByRecursion}
use Rattle.std.specs.FinMap.{get, entries, len, len-entries}
use Rattle.std.proofs.lemmas.List.{length-map}
use Rattle.spb_types.specs.declared.address.SystemId.{SystemId}
use Rattle.spb_types.specs.declared.address.LspId.{LspId}
use Rattle.spb_types.specs.declared.ports.PortSet.{PortSet}
use Rattle.lsdb.specs.Version.{number_of}
use Rattle.lsdb.specs.Entry.{Entry}
use Rattle.lsdb.specs.Database.{Lsps, version_in, version_at, each}
use Rattle.lsdb.proofs.LookupLemmas.{get-each}
use Rattle.flooding.specs.Own.{last_number, own_numbers, own_number, is_own_number}
use Rattle.flooding.specs.Room.{others, others_among}
use Rattle.flooding.specs.Hearing.{Holding}
use Rattle.flooding.specs.Starting.{started_by}
use Rattle.flooding.specs.Settling.{Test, settled_by}
use Rattle.flooding.specs.declared.own.Own.{Own}
use Rattle.flooding.proofs.Room.{few_own}
use Rattle.flooding.proofs.Settled.{settling_brings_few, settling_leaves_others, settling_goes_one_further, settling_doesnt_spend}
use Rattle.snp_sync.proofs.Ranges.{of_entries}
use Rattle.bridge_api.specs.declared.config.BridgeConfig.{BridgeConfig}
use Rattle.bridge_api.specs.View.{BridgeView}
use Rattle.bridge_api.specs.Own.{body_at, own_entry}
use Rattle.bridge_api.specs.Config.{first_life, bare, configured}
use Rattle.bridge_api.specs.Parsing.{Parsed, hello_in}
use Rattle.bridge_api.specs.Ticking.{readied}
use Rattle.bridge_api.specs.Customers.{after_entry}
use Rattle.bridge_api.specs.Services.{without_customer_port, with_port_forgotten}
use Rattle.bridge_api.specs.Step.{Input, second, frame, carrier, metric, attach, detach, customer, step}
use Rattle.bridge_laws.specs.Few.{Within, HoldsFew, IsHelloAlone, ConfiguredHoldsFew, StepsHoldFew, StepsBringFew}
use Rattle.bridge_laws.proofs.HeldIds.{own_below}
use Rattle.bridge_laws.proofs.Growing.{Grows, number_each, readied_grows, second_grows, hello_grows, carrier_grows, metric_grows, attached_grows, entry_grows}
use Rattle.bridge_api.proofs.Configured.{starts_alone, long_first, configured_own, configured_unspent}
use Rattle.bridge_api.proofs.ServingPorts.{moved, entries-each}

next : (n m : ℕ) → (n + 1) * m ≡ n * m + m
next n m = let is : n + 1 ≡ suc n = omega arith in ap (λ k. k * m) is ∙ suc-mul n m

one_more : (k : ℕ) (me : SystemId) (db : Lsps) (spent : Bool) → Within k me db spent → Within (k + 1) me db spent
one_more k me db spent w = record { alone = w.alone; number = λ number below. omega (arith, w.number number below); unspent = w.unspent }

-- ---- every entry changed

pub len-each : (f : LspId → Entry → Entry) (db : Lsps) → len (each f db) ≡ len db
len-each f db = len-entries (each f db) ∙ (ap length (entries-each f db) ∙ (length-map (entries db) (moved f) ∙ sym (len-entries db)))

-- numbers of entries that keep them
pub same_number : (f : LspId → Entry → Entry) (db : Lsps) (id : LspId) → ((x : LspId) (e : Entry) → number_of (f x e).version ≡ number_of e.version) → number_of (version_at (each f db) id) ≡ number_of (version_at db id)
same_number f db id same = ap (λ (o : Option Entry). number_of (version_in o)) (get-each f db id) ∙ number_each (f id) (get db id) (same id)

within_each : (k : ℕ) (me : SystemId) (f : LspId → Entry → Entry) (db : Lsps) (spent : Bool) → ((x : LspId) (e : Entry) → number_of (f x e).version ≡ number_of e.version) → Within k me db spent → Within k me (each f db) spent
within_each k me f db spent same w = record {
  alone = λ id other. get-each f db id ∙ ap (option_map (f id)) (w.alone id other);
  number = λ number below. subst (λ (n : ℕ). n ≤ k) (sym (same_number f db (own_number me number) same)) (w.number number below);
  unspent = w.unspent;
}

-- ---- own LSPs are brought up to date

within_settled : (k : ℕ) (stands : Test) (up : PortSet) (h : Holding) → k < last_number → Within k h.own.system h.db h.own.spent → Within (k + 1) h.own.system (settled_by stands up h).db (settled_by stands up h).own.spent
within_settled k stands up h low w = record {
  alone = λ id other. settling_leaves_others stands up h id other ∙ w.alone id other;
  number = λ number below. omega (arith, settling_goes_one_further stands up h (own_number h.own.system number), w.number number below);
  unspent = ap (λ (own : Own). own.spent) (settling_doesnt_spend stands up h (own_below k h.own.system h.db low w.number)) ∙ w.unspent;
}

abbrev IsLow : ℕ → Type 0
IsLow n = n < last_number

few_grows : Grows IsLow Within
few_grows = record { more = one_more; stays = within_each; settles = within_settled }

-- ---- how many there are

-- no more than so many, and each own number for each time that they were brought up to date
abbrev Holds : ℕ → ℕ → SystemId → Lsps → Bool → Type 0
Holds most n system db spent = len db ≤ most + n * own_numbers

abbrev Any : ℕ → Type 0
Any n = ⊤

holds_more : (most n : ℕ) (system : SystemId) (db : Lsps) (spent : Bool) → Holds most n system db spent → Holds most (n + 1) system db spent
holds_more most n system db spent few = omega (arith, few, next n own_numbers)

holds_each : (most n : ℕ) (system : SystemId) (f : LspId → Entry → Entry) (db : Lsps) (spent : Bool) → ((x : LspId) (e : Entry) → number_of (f x e).version ≡ number_of e.version) → Holds most n system db spent → Holds most n system (each f db) spent
holds_each most n system f db spent same few = subst (λ (m : ℕ). m ≤ most + n * own_numbers) (sym (len-each f db)) few

holds_settled : (most n : ℕ) (stands : Test) (up : PortSet) (h : Holding) → Any n → Holds most n h.own.system h.db h.own.spent → Holds most (n + 1) h.own.system (settled_by stands up h).db (settled_by stands up h).own.spent
holds_settled most n stands up h any few = omega (arith, settling_brings_few stands up h, few, next n own_numbers)

holds_grows : (most : ℕ) → Grows Any (Holds most)
holds_grows most = record { more = holds_more most; stays = holds_each most; settles = holds_settled most }

once : (most m : ℕ) → m ≤ most + (0 + 1) * own_numbers → m ≤ most + own_numbers
once most m few = let one : (0 + 1) * own_numbers ≡ own_numbers = omega (arith, next 0 own_numbers) in omega (arith, few, one)

-- ---- where no other is held

all_own : (s : SystemId) (es : List (LspId × Entry)) → AllByRecursion (λ (e : LspId × Entry). is_own_number s e.0 ≡ true) es → others_among s es ≡ []
all_own s [] all = refl
all_own s (e ∷ es) all = ap (λ b. cond (not b) (e ∷ others_among s es) (others_among s es)) all.0 ∙ all_own s es all.1

own_if_held : (s : SystemId) (db : Lsps) → ((id : LspId) → is_own_number s id ≡ false → get db id ≡ None) → (id : LspId) (e : Entry) → get db id ≡ Some e → is_own_number s id ≡ true
own_if_held s db alone id e held = by (is_own_number s id) refl
  where
    by : (b : Bool) → is_own_number s id ≡ b → is_own_number s id ≡ true
    by true is = is
    by false is = let wrong : None ≡ Some e = sym (alone id is) ∙ held in absurd cc

pub alone_few : (s : SystemId) (db : Lsps) → ((id : LspId) → is_own_number s id ≡ false → get db id ≡ None) → len db ≤ own_numbers
alone_few s db alone =
    let none : others s db ≡ 0 = ap length (all_own s (entries db) (of_entries (λ id e. is_own_number s id ≡ true) db (own_if_held s db alone))) in
    omega (arith, few_own s db, none)

-- ---- the steps

pub few_readied : (k : ℕ) (v : BridgeView) → k < last_number → HoldsFew k v → HoldsFew (k + 1) (readied v)
few_readied k v low w = readied_grows IsLow Within few_grows k v low w

pub more_readied : (v : BridgeView) → len (readied v).database ≤ len v.database + own_numbers
more_readied v =
    let m : ℕ = len v.database in
    once m (len (readied v).database) (readied_grows Any (Holds m) (holds_grows m) 0 v tt (omega arith))

begun_alone : (c : BridgeConfig) (number : ℕ) → c.last ≡ first_life → number < own_numbers → number_of (version_in (own_entry (configured c) number)) ≤ 1
begun_alone c number first below = subst (λ (o : Option Entry). number_of (version_in o) ≤ 1) (sym (configured_own c number first below)) (begins (body_at (bare c) number))
  where
    begins : (body : Option (List ℕ)) → number_of (version_in (started_by (own_number c.id.system number) 0 body)) ≤ 1
    begins None = omega arith
    begins (Some body) = omega arith

pub configured_holds_few : ConfiguredHoldsFew
unfolding configured
configured_holds_few c first = record {
  alone = (starts_alone c (long_first c first)).alone;
  number = λ number below. begun_alone c number first below;
  unspent = configured_unspent c first;
}

-- a step in which no frame comes in but one that is heard as a hello
module _ (Low : ℕ → Type 0) (P : ℕ → SystemId → Lsps → Bool → Type 0) (grows : Grows Low P) where
  step_grows : (n : ℕ) (input : Input) (v : BridgeView) → Low n → IsHelloAlone input → P n v.id.system v.database v.spent → P (n + 1) (step input v).id.system (step input v).database (step input v).spent
  unfolding with_port_forgotten after_entry
  step_grows n second v low alone w = second_grows Low P grows n v low w
  step_grows n (frame p bytes) v low alone w = hello_grows Low P grows n p bytes v (ap (λ (j : Parsed). is_some (hello_in j)) alone.2) low w
  step_grows n (carrier p on) v low alone w = carrier_grows Low P grows n p on v low w
  step_grows n (metric p m) v low alone w = metric_grows Low P grows n p m v low w
  step_grows n (attach a) v low alone w = attached_grows Low P grows n (v.attached ++ a ∷ []) v low w
  step_grows n (detach p) v low alone w = attached_grows Low P grows n (without_customer_port p v.attached) (with_port_forgotten p v) low w
  step_grows n (customer p bytes) v low alone w = entry_grows Low P grows n p bytes v w

pub steps_hold_few : StepsHoldFew
steps_hold_few k input v low alone w = step_grows IsLow Within few_grows k input v low alone w

pub steps_bring_few : StepsBringFew
steps_bring_few input v alone =
    let m : ℕ = len v.database in
    once m (len (step input v).database) (step_grows Any (Holds m) (holds_grows m) 0 input v tt alone (omega arith))
