-- What a bridge holds right after its configuration: each of its own LSPs as it begins, and nothing else.
use Rattle.std.proofs.Common.{◌≡◌, ◌≤◌, ◌<◌, ℕ, zero, suc, Bool, true, false, List, [], ◌∷◌, length, replicate, refl, sym, ap, ◌∙◌, subst, Option, Some, None, arith}
use Rattle.std.specs.Prelude.{not, nat_lt, slice_get, if◌then◌else◌}
use Rattle.std.specs.List.{list_any, AllByRecursion}
use Rattle.std.specs.FinMap.{get, empty, get-empty, len-empty}
use Rattle.std.proofs.lemmas.Bool.{true≢false, or_from, or_parts}
use Rattle.std.proofs.lemmas.List.{length-map, length-replicate}
use Rattle.spb_types.specs.declared.address.SystemId.{SystemId}
use Rattle.spb_types.specs.declared.address.LspId.{LspId}
use Rattle.spb_types.specs.Ports.{no_ports}
use Rattle.lsdb.specs.Version.{is_absent}
use Rattle.lsdb.specs.Entry.{Entry}
use Rattle.lsdb.specs.Database.{id_cmp, version_in}
use Rattle.flooding.specs.Own.{last_number, own_numbers, own_number, own_id, body_in, dead_at}
use Rattle.flooding.specs.Hearing.{Holding}
use Rattle.flooding.specs.Room.{most_others, others}
use Rattle.flooding.specs.Entries.{AllEntries}
use Rattle.flooding.specs.Settling.{IsLspCurrent}
use Rattle.flooding.specs.Starting.{started_by, started_as, started_all, is_last, StartsAlone}
use Rattle.flooding.proofs.OwnNumbers.{some_number}
use Rattle.flooding.proofs.Few.{others_are_held}
use Rattle.flooding.proofs.Begun.{starting_is_alone}
use Rattle.flooding.proofs.Octets.{starting_keeps_octets}
use Rattle.flooding.proofs.Started.{starting_keeps_sendable, starting_keeps_flags, starting_keeps_few, starting_leaves_own_body}
use Rattle.snp_sync.proofs.Fields.{starting_keeps_sized}
use Rattle.bridge_api.specs.declared.config.BridgeConfig.{BridgeConfig}
use Rattle.bridge_api.specs.View.{BridgeView, up_ports}
use Rattle.bridge_api.specs.Own.{bodies_of, body_at, own_of, holding_of, own_entry}
use Rattle.bridge_api.specs.Config.{IsWhole, port_without_carrier, first_life, bare, configured}
use Rattle.bridge_api.specs.Laws.{ConfiguredStarts}
use Rattle.bridge_api.proofs.SoundPorts.{all_without_carrier, bare_config}
use Rattle.bridge_api.proofs.OwnPorts.{HasText, empty_text, own_text}
use Rattle.bridge_api.proofs.Present.{IsPresent, starting_present}
use Rattle.bridge_api.proofs.Bodies.{held_bodies, same_at, first_text, first_body}
use Rattle.bridge_api.proofs.Data.{Holds, CanOriginate, few_of}
use Rattle.bridge_api.proofs.DataSteps.{can_originate}
use Rattle.bridge_api.proofs.OwnLspSteps.{IsSaying}

-- ---- nothing is held before

none_held : (id : LspId) → get (empty {X = Entry} {R = id_cmp}) id ≡ None
none_held id = get-empty id_cmp id

all_of_none : (P : LspId → Entry → Type 0) → AllEntries P empty
all_of_none P id e is = absurd (let no : None ≡ Some e = sym (none_held id) ∙ is in cc)

pub none_other : (system : SystemId) → others system (empty {X = Entry} {R = id_cmp}) ≤ most_others
none_other system = omega (arith, others_are_held system (empty {X = Entry} {R = id_cmp}), len-empty id_cmp Entry)

-- ---- it starts alone

configured_bodies : (c : BridgeConfig) → bodies_of (configured c) ≡ bodies_of (bare c)
unfolding configured
configured_bodies c = held_bodies (started_all c.last 0 (holding_of (bare c))) (bare c)

pub configured_says : (c : BridgeConfig) (number : ℕ) → body_at (configured c) number ≡ body_at (bare c) number
configured_says c number = same_at number (bodies_of (configured c)) (bodies_of (bare c)) (configured_bodies c)

pub starts_alone : (c : BridgeConfig) → length c.last ≡ own_numbers → StartsAlone c.last (holding_of (bare c)) (holding_of (configured c))
unfolding configured
starts_alone c long =
    let h : Holding = holding_of (bare c) in
    let is : StartsAlone c.last h (started_all c.last 0 h) = starting_is_alone c.last h long none_held in
    record {
      starts = is.starts;
      alone = is.alone;
      spent = is.spent;
      system = refl;
      bodies = held_bodies (started_all c.last 0 h) (bare c);
    }

pub configured_starts : ConfiguredStarts
configured_starts c whole = starts_alone c whole.last

-- each own LSP as it begins
begins : (c : BridgeConfig) (number n : ℕ) → length c.last ≡ own_numbers → slice_get c.last number ≡ Some n → own_entry (configured c) number ≡ started_as (own_number c.id.system number) n (body_at (bare c) number)
unfolding configured
begins c number n long at = (starts_alone c long).starts number n at

found_in : (ns : List ℕ) (i : ℕ) → i < length ns → (n : ℕ) × (slice_get ns i ≡ Some n)
found_in [] i low = absurd (omega (arith, low))
found_in (n ∷ ns) zero low = (n, refl)
found_in (n ∷ ns) (suc i) low = found_in ns i (omega (arith, low))

last_of : (c : BridgeConfig) (number : ℕ) → length c.last ≡ own_numbers → number < own_numbers → (n : ℕ) × (slice_get c.last number ≡ Some n)
last_of c number long below = found_in c.last number (omega (arith, long, below))

-- ---- unless it is spent, it says what it has to say

spent_is : (c : BridgeConfig) → length c.last ≡ own_numbers → (configured c).spent ≡ list_any is_last c.last
spent_is c long = (starts_alone c long).spent

not_last : (b : Bool) → not b ≡ false → b ≡ true
not_last true is = refl
not_last false is = absurd (true≢false is)

each_low : (ns : List ℕ) (i n : ℕ) → slice_get ns i ≡ Some n → list_any is_last ns ≡ false → nat_lt n last_number ≡ true
each_low [] i n at low = absurd cc
each_low (m ∷ ns) zero n at low = let same : m ≡ n = cc in subst (λ k. nat_lt k last_number ≡ true) same (not_last (nat_lt m last_number) (or_parts (is_last m) (list_any is_last ns) low).0)
each_low (m ∷ ns) (suc i) n at low = each_low ns i n at (or_parts (is_last m) (list_any is_last ns) low).1

begins_current : (id : LspId) (n : ℕ) (body : Option (List ℕ)) → IsLspCurrent body (started_by id n body)
begins_current id n (Some body) = (refl, (omega arith, omega arith))
begins_current id zero None = refl
begins_current id (suc n) None = refl

pub configured_is_saying : (c : BridgeConfig) → IsWhole c → IsSaying (configured c)
configured_is_saying c whole fresh number below =
    let id : LspId = own_number c.id.system number in
    let body : Option (List ℕ) = body_at (bare c) number in
    let last : (n : ℕ) × (slice_get c.last number ≡ Some n) = last_of c number whole.last below in
    let low : nat_lt last.0 last_number ≡ true = each_low c.last number last.0 last.1 (sym (spent_is c whole.last) ∙ fresh) in
    let own : own_entry (configured c) number ≡ started_by id last.0 body =
    begins c number last.0 whole.last last.1 ∙ ap (λ b. if b then started_by id last.0 body else Some (dead_at no_ports last.0)) low in
    subst (λ (b : Option (List ℕ)). IsLspCurrent b (own_entry (configured c) number)) (sym (configured_says c number)) (subst (IsLspCurrent body) (sym own) (begins_current id last.0 body))

-- ---- what it holds is sound

there : (id : LspId) (n : ℕ) (body : List ℕ) (b : Bool) → is_absent (version_in (if b then started_by id n (Some body) else Some (dead_at no_ports n))) ≡ false
there id n body true = refl
there id n body false = refl

own_there : (c : BridgeConfig) → IsWhole c → is_absent (version_in (own_entry (configured c) 0)) ≡ false
own_there c whole =
    let id : LspId = own_id c.id.system in
    let last : (n : ℕ) × (slice_get c.last 0 ≡ Some n) = last_of c 0 whole.last (omega (arith, some_number)) in
    ap (λ (o : Option Entry). is_absent (version_in o)) (begins c 0 last.0 whole.last last.1 ∙ ap (started_as id last.0) (first_body (bare c)))
    ∙ there id last.0 (first_text (bare c)) (nat_lt last.0 last_number)

none_present : (id : LspId) → IsPresent (get (empty {X = Entry} {R = id_cmp}) id)
none_present id e is = absurd (let no : None ≡ Some e = sym (none_held id) ∙ is in cc)

none_said : (number : ℕ) (id : LspId) → HasText number (body_in (get (empty {X = Entry} {R = id_cmp}) id))
none_said number id = subst (λ (o : Option Entry). HasText number (body_in o)) (sym (none_held id)) (empty_text number)

pub configured_holds : (c : BridgeConfig) → IsWhole c → Holds (configured c)
unfolding configured
configured_holds c whole =
    let v : BridgeView = bare c in
    let h : Holding = holding_of v in
    let g : Holding = started_all c.last 0 h in
    let can : CanOriginate v = can_originate v (bare_config c whole) (omega (arith, length-map c.metrics port_without_carrier, whole.metrics, whole.ports)) (all_without_carrier c.metrics whole.each_metric) in
    let begins = starting_is_alone c.last h whole.last none_held in
    record {
      sendable = starting_keeps_sendable c.last h can.body (all_of_none _);
      sized = starting_keeps_sized c.last h (omega (arith, whole.last)) whole.each_last can.named (all_of_none _);
      octets = starting_keeps_octets c.last h can.octets (all_of_none _);
      flags = starting_keeps_flags c.last (up_ports v) h (all_of_none _);
      own = own_there c whole;
      present = λ number below. starting_present c.last h (own_number c.id.system number) (none_present (own_number c.id.system number));
      room = few_of c.id.system g begins.system (starting_keeps_few c.last h (omega (arith, whole.last)) (none_other c.id.system));
      text = λ number below.
          let id : LspId = own_number c.id.system number in
          own_text (own_of v) id (get h.db id) (get g.db id) (can.text number) (starting_leaves_own_body c.last h id refl) (none_said number id);
    }

-- ---- in a first life

pub zeros_low : (n : ℕ) → AllByRecursion (λ k. k ≤ last_number) (replicate n 0)
zeros_low zero = tt
zeros_low (suc n) = (omega arith, zeros_low n)

none_last : (n : ℕ) → list_any is_last (replicate n 0) ≡ false
none_last zero = refl
none_last (suc n) = or_from (is_last 0) (list_any is_last (replicate n 0)) refl (none_last n)

each_zero : (n i : ℕ) → i < n → slice_get {X = ℕ} (replicate n 0) i ≡ Some 0
each_zero zero i low = absurd (omega (arith, low))
each_zero (suc n) zero low = refl
each_zero (suc n) (suc i) low = each_zero n i (omega (arith, low))

pub first_life_long : length first_life ≡ own_numbers
first_life_long = length-replicate own_numbers 0

pub first_life_low : AllByRecursion (λ n. n ≤ last_number) first_life
first_life_low = zeros_low own_numbers

pub long_first : (c : BridgeConfig) → c.last ≡ first_life → length c.last ≡ own_numbers
long_first c first = ap length first ∙ first_life_long

pub configured_unspent : (c : BridgeConfig) → c.last ≡ first_life → (configured c).spent ≡ false
configured_unspent c first = spent_is c (long_first c first) ∙ (ap (list_any is_last) first ∙ none_last own_numbers)

-- each own LSP in which it has something to say is live at number 1, and no other is held
pub configured_own : (c : BridgeConfig) (number : ℕ) → c.last ≡ first_life → number < own_numbers → own_entry (configured c) number ≡ started_by (own_number c.id.system number) 0 (body_at (bare c) number)
configured_own c number first below =
    begins c number 0 (long_first c first) (ap (λ (ns : List ℕ). slice_get ns number) first ∙ each_zero own_numbers number below)
