-- What seconds make of own LSPs: each stands still while it says what the bridge has to say and isn't old, and else is
-- originated anew.
use Rattle.std.proofs.Common.{◌≡◌, ◌≢◌, ◌⊎◌, inl, inr, ℕ, zero, suc, ◌+◌, ◌-◌, ◌*◌, ◌≤◌, ◌<◌, Bool, true, false, List, [], ◌∷◌, map, refl, sym, ap, ◌∙◌, subst, Option, Some, None, arith}
use Rattle.std.specs.Prelude.{◌&&◌, not, nat_le, slice_get, if◌then◌else◌}
use Rattle.std.specs.Str.{bytes_eq}
use Rattle.std.specs.Option.{option_map, option_and_then}
use Rattle.std.specs.FinMap.{get}
use Rattle.std.proofs.lemmas.Bool.{le-leb, lt-leb, and_parts, true≢false, cases_lt}
use Rattle.std.proofs.lemmas.Slice.Eq.{bytes_eq-Decides}
use Rattle.spb_types.specs.declared.address.SystemId.{SystemId}
use Rattle.spb_types.specs.declared.address.LspId.{LspId}
use Rattle.spb_types.specs.declared.ports.PortSet.{PortSet}
use Rattle.spb_types.specs.Ports.{has, no_ports}
use Rattle.spb_types.proofs.PortLemmas.{has-no_ports}
use Rattle.lsdb.specs.declared.version.Version.{Version}
use Rattle.lsdb.specs.declared.version.Version.TheVariants.{Absent, Live, Dead}
use Rattle.lsdb.specs.Version.{number_of}
use Rattle.lsdb.specs.Entry.{Entry, with_ssn}
use Rattle.lsdb.specs.Database.{Lsps, version_in}
use Rattle.lsdb.specs.Time.{lifetime_in, is_live}
use Rattle.lsdb.proofs.LookupLemmas.{get-each}
use Rattle.flooding.specs.Own.{last_number, own_numbers, own_number, renewed}
use Rattle.flooding.specs.Hearing.{Holding}
use Rattle.flooding.specs.Origination.{spent_entry}
use Rattle.flooding.specs.Settling.{says, is_old, is_new, is_fresh, IsLspCurrent}
use Rattle.flooding.specs.Starting.{started_by}
use Rattle.flooding.proofs.Current.{says_both}
use Rattle.bridge_api.proofs.Bodies.{bodies_with, bodies_say, same_at}
use Rattle.flooding.proofs.Settled.{settling_stands}
use Rattle.snp_sync.specs.SnpEntries.{has_ssn_at}
use Rattle.snp_sync.specs.Sending.{ssn_cleared as ssn_cleared_entry, all_ssn_cleared}
use Rattle.adjacency.specs.Adjacency.{neighbour_of, is_up, after_second}
use Rattle.bridge_api.specs.declared.port.BridgePort.{BridgePort}
use Rattle.bridge_api.specs.declared.config.BridgeConfig.{BridgeConfig}
use Rattle.bridge_api.specs.View.{BridgeView, port_at, neighbour_at, is_port_up, is_up_in, is_up_at, up_ports}
use Rattle.bridge_api.specs.Own.{neighbour_in, neighbours_from, bodies_of, body_at, holding_of, with_holding, own_entry, body_in, Lasts, IsAlive}
use Rattle.bridge_api.specs.Config.{IsWhole, first_life, bare, configured}
use Rattle.bridge_api.specs.Duties.{but_for_ssn}
use Rattle.bridge_api.specs.Ticking.{later, leaving_from, counts_lowered, expired, refreshed, readied, after_sending_at, after_sending_from}
use Rattle.bridge_api.specs.Step.{second, step}
use Rattle.bridge_api.specs.Laws.{IsSoundView}
use Rattle.bridge_api.specs.Time.{seconds, AgedFrom, IsLasting, IsDead, dies as died, stays, own_sequence_number, IsRenewed, SecondsStandStill, IsDue, CanGoOn, SecondsRenew, SecondsStayUnspent, SecondsSpend, SpentStandsStill, SaysTheSame, OwnLspLasts, OwnLspIsRenewed, IsAlone, AloneStaysAlone, IsAtNumber, EveryNineHundred}
use Rattle.bridge_api.proofs.Adjacent.{second_up, up_keeps}
use Rattle.bridge_api.proofs.Certified.{steps_keep_bridge}
use Rattle.bridge_api.proofs.Changes.{with_and_parts, settling, ticked, tick_is, tick_ports, tick_port, tick_rest}
use Rattle.bridge_api.proofs.Configured.{configured_says, configured_own, configured_unspent}
use Rattle.bridge_api.proofs.Places.{port_found}
use Rattle.bridge_api.proofs.Sound.{configured_is_sound}
use Rattle.bridge_api.proofs.SoundPorts.{configured_has_no_carrier}
use Rattle.bridge_api.proofs.OwnLspSteps.{neighbours_without_csnp_due}
use Rattle.bridge_api.proofs.Time.{no_seconds, next_second, seconds_add, seconds_sound}
use Rattle.bridge_laws.proofs.Turns.{AreLow, unspent_after, left_after, renewed_after, dead_after, spent_after}
use Rattle.bridge_api.proofs.TimeLsps.{older_lasts, older_ages, up_second, expired_holds, second_holds, lasting_same, dead_same, aged_same, lasting_on}

-- ---- what the bridge has to say after a second

pub second_says : (v : BridgeView) → bodies_of (step second v) ≡ bodies_with v (neighbours_from 1 (step second v).ports)
second_says v = let w : BridgeView = step second v in ap bodies_of (tick_rest v) ∙ bodies_say (with_and_parts w.ports w.database w.spent w.drops v)

expired_says : (v : BridgeView) → bodies_of (expired (counts_lowered v)) ≡ bodies_of (step second v)
expired_says v =
    bodies_say (expired (counts_lowered v))
    ∙ sym (second_says v ∙ ap (bodies_with v) (ap (neighbours_from 1) (tick_ports v) ∙ neighbours_without_csnp_due 1 (map later v.ports)))

-- the bridge when the lifetimes fell
abbrev pub fallen : BridgeView → BridgeView
fallen v = expired (counts_lowered v)

pub says_at : (v : BridgeView) (number : ℕ) → body_at (fallen v) number ≡ body_at (step second v) number
says_at v number = same_at number (bodies_of (fallen v)) (bodies_of (step second v)) (expired_says v)

-- ---- own LSPs when the lifetimes fell

live_by : (a : Version) (lifetime : ℕ) → Lasts a lifetime → (is_live a ≡ true) × (301 ≤ lifetime)
live_by Absent lifetime lasts = absurd lasts
live_by (Live seq sum) lifetime lasts = (refl, lasts.0)
live_by (Dead seq) lifetime lasts = absurd lasts

pub live_in : (o : Option Entry) → IsAlive o → (is_live (version_in o) ≡ true) × (301 ≤ lifetime_in o)
live_in None alive = absurd alive
live_in (Some e) alive = live_by e.version e.lifetime alive

old_by : (o : Option Entry) (left : ℕ) → lifetime_in o ≡ left → is_live (version_in o) ≡ true → is_old o ≡ nat_le left 300
old_by None left is live = absurd cc
old_by (Some e) left is live = ap (λ (n : ℕ). nat_le n 300) is

-- one that is live with so much of its lifetime left, a second later
record Fell (left number : ℕ) (v : BridgeView) : Type 0 where
  lasts : IsLasting left (own_entry v number) (own_entry (fallen v) number)
  live : is_live (version_in (own_entry (fallen v) number)) ≡ true
  old : is_old (own_entry (fallen v) number) ≡ nat_le left 300

fell : (v : BridgeView) (number left : ℕ) → is_live (version_in (own_entry v number)) ≡ true → lifetime_in (own_entry v number) ≡ left + 1 → 1 ≤ left → Fell left number v
fell v number left live count some =
    let w : BridgeView = fallen v in
    let lasts : IsLasting left (own_entry v number) (own_entry w number) =
    subst (IsLasting left (own_entry v number)) (sym (expired_holds v (own_number v.id.system number))) (older_lasts (up_ports (counts_lowered v)) (leaving_from 1 v.ports) (own_entry v number) left live count some) in
    let lives : is_live (version_in (own_entry w number)) ≡ true = ap is_live lasts.version ∙ live in
    record { lasts = lasts; live = lives; old = old_by (own_entry w number) left lasts.lifetime lives }

-- one that says what a sound bridge has to say
module _ (v : BridgeView) (number : ℕ) (old : List ℕ) (current : IsLspCurrent (Some old) (own_entry v number)) where
  fell_saying : Fell (lifetime_in (own_entry v number) - 1) number v
  fell_saying = let alive = live_in (own_entry v number) current.1 in fell v number (lifetime_in (own_entry v number) - 1) alive.0 (omega (arith, alive.1)) (omega (arith, alive.1))

-- its version is as it was, whether the bridge has something to say in it or not
version_by : (v : BridgeView) (number : ℕ) (o : Option Entry) → is_live (version_in (own_entry v number)) ≡ false → AgedFrom (own_entry v number) o → version_in o ≡ version_in (own_entry v number)
version_by v number o dead (stays version body most least) = version
version_by v number o dead (died live last version body) = absurd (true≢false (sym live ∙ dead))

pub not_live : (v : BridgeView) (number : ℕ) → is_live (version_in (own_entry v number)) ≡ false → version_in (own_entry (fallen v) number) ≡ version_in (own_entry v number)
not_live v number dead =
    version_by v number (own_entry (fallen v) number) dead
    (subst (AgedFrom (own_entry v number)) (sym (expired_holds v (own_number v.id.system number))) (older_ages (up_ports (counts_lowered v)) (leaving_from 1 v.ports) (own_entry v number)))

version_stays : (v : BridgeView) (number : ℕ) (text : Option (List ℕ)) → IsLspCurrent text (own_entry v number) → version_in (own_entry (fallen v) number) ≡ version_in (own_entry v number)
version_stays v number None dead = not_live v number dead
version_stays v number (Some old) current = (fell_saying v number old current).lasts.version

-- ---- whether one is to be originated

abbrev Fresh : BridgeView → ℕ → Bool
Fresh v number = is_fresh (holding_of (fallen v)) number

-- by the body that the bridge has for it afterwards
fresh_is : (v : BridgeView) (number : ℕ) (body : List ℕ) → body_at (step second v) number ≡ Some body → Fresh v number ≡ is_new (Some body) (own_entry (fallen v) number)
fresh_is v number body is = ap (λ (text : Option (List ℕ)). is_new text (own_entry (fallen v) number)) (says_at v number ∙ is)

fresh_at : (said old : Bool) → said ≡ true → old ≡ false → (said && not old) ≡ true
fresh_at said old is young = λ i. is i && not (young i)

stale_at : (said old : Bool) → (old ≡ true) ⊎ (said ≡ false) → (said && not old) ≡ false
stale_at true old (inl is) = ap not is
stale_at false old (inl is) = refl
stale_at said old (inr unsaid) = ap (λ b. b && not old) unsaid

not_said : (body : List ℕ) (o : Option Entry) (old : List ℕ) → body_in o ≡ old → (Some old ≢ Some body) → says (Some body) o ≡ false
not_said body o old is other = by (says (Some body) o) refl
  where
    by : (b : Bool) → says (Some body) o ≡ b → says (Some body) o ≡ false
    by true said = let same : body_in o ≡ body = (bytes_eq-Decides (body_in o) body).0 (and_parts (is_live (version_in o)) (bytes_eq (body_in o) body) said).1 in absurd (other (ap (λ (b : List ℕ). Some b) (sym is ∙ same)))
    by false unsaid = unsaid

dead_unsaid : (body : List ℕ) (o : Option Entry) → is_live (version_in o) ≡ false → says (Some body) o ≡ false
dead_unsaid body o dead = ap (λ b. b && bytes_eq (body_in o) body) dead

-- why it is: it is old, or says something else
abbrev Why : BridgeView → ℕ → List ℕ → Option (List ℕ) → Type 0
Why v number body text = (lifetime_in (own_entry v number) ≤ 301) ⊎ (text ≢ Some body)

stale_why : (v : BridgeView) (number : ℕ) (body : List ℕ) (text : Option (List ℕ)) → IsLspCurrent text (own_entry v number) → Why v number body text
    → (is_old (own_entry (fallen v) number) ≡ true) ⊎ (says (Some body) (own_entry (fallen v) number) ≡ false)
stale_why v number body None dead why = inr (dead_unsaid body (own_entry (fallen v) number) (ap is_live (not_live v number dead) ∙ dead))
stale_why v number body (Some old) current (inl last) =
    let f = fell_saying v number old current in inl (f.old ∙ le-leb (lifetime_in (own_entry v number) - 1) 300 (omega (arith, last)))
stale_why v number body (Some old) current (inr other) =
    let f = fell_saying v number old current in inr (not_said body (own_entry (fallen v) number) old (f.lasts.body ∙ current.0) other)

-- and why it isn't
pub fresh_why : (v : BridgeView) (number : ℕ) (body : List ℕ) → is_live (version_in (own_entry v number)) ≡ true → 302 ≤ lifetime_in (own_entry v number) → body_in (own_entry v number) ≡ body
    → is_new (Some body) (own_entry (fallen v) number) ≡ true
fresh_why v number body live many is =
    let left : ℕ = lifetime_in (own_entry v number) - 1 in
    let f : Fell left number v = fell v number left live (omega (arith, many)) (omega (arith, many)) in
    fresh_at (says (Some body) (own_entry (fallen v) number)) (is_old (own_entry (fallen v) number)) (says_both body (own_entry (fallen v) number) f.live (f.lasts.body ∙ is)) (f.old ∙ lt-leb left 300 (omega (arith, many)))

due_why : (v : BridgeView) (number : ℕ) (body : List ℕ) (text : Option (List ℕ)) → IsLspCurrent text (own_entry v number) → is_new (Some body) (own_entry (fallen v) number) ≡ false → Why v number body text
due_why v number body None dead stale = inr (λ e. absurd cc)
due_why v number body (Some old) current stale = by_test (bytes_eq old body) refl
  where
    by_age : old ≡ body → (302 ≤ lifetime_in (own_entry v number)) ⊎ (lifetime_in (own_entry v number) ≤ 301) → Why v number body (Some old)
    by_age same (inl many) = absurd (true≢false (sym (fresh_why v number body (live_in (own_entry v number) current.1).0 many (current.0 ∙ same)) ∙ stale))
    by_age same (inr last) = inl last

    by_test : (b : Bool) → bytes_eq old body ≡ b → Why v number body (Some old)
    by_test true is =
        by_age ((bytes_eq-Decides old body).0 is) (elim (cases_lt 301 (lifetime_in (own_entry v number))) [
          | inl many ↦ inl (omega (arith, many))
          | inr last ↦ inr last
        ])
    by_test false is = inr (λ e. let same : old ≡ body = cc in absurd (true≢false (sym ((bytes_eq-Decides old body).1 same) ∙ is)))

-- of a sound bridge whose sequence numbers aren't spent
module _ (v : BridgeView) (was : IsSoundView v) (fresh : v.spent ≡ false) where
  current_at : (number : ℕ) → number < own_numbers → IsLspCurrent (body_at v number) (own_entry v number)
  current_at number below = was.own.current fresh number below

  saying_at : (number : ℕ) (body : List ℕ) → number < own_numbers → body_at v number ≡ Some body → IsLspCurrent (Some body) (own_entry v number)
  saying_at number body below is = subst (λ (text : Option (List ℕ)). IsLspCurrent text (own_entry v number)) is (current_at number below)

  due_is_stale : (number : ℕ) (body : List ℕ) → IsDue v number body → Fresh v number ≡ false
  due_is_stale number body due =
      fresh_is v number body due.says
      ∙ stale_at (says (Some body) (own_entry (fallen v) number)) (is_old (own_entry (fallen v) number)) (stale_why v number body (body_at v number) (current_at number due.below) due.why)

  stale_is_due : (number : ℕ) (body : List ℕ) → number < own_numbers → body_at (step second v) number ≡ Some body → Fresh v number ≡ false → IsDue v number body
  stale_is_due number body below is stale =
      record { below = below; says = is; why = due_why v number body (body_at v number) (current_at number below) (sym (fresh_is v number body is) ∙ stale) }

  number_stays : (number : ℕ) → number < own_numbers → own_sequence_number (fallen v) number ≡ own_sequence_number v number
  number_stays number below = ap number_of (version_stays v number (body_at v number) (current_at number below))

  -- which can go a number further
  are_low : (end : ℕ) → end ≤ own_numbers → CanGoOn v end → AreLow is_new (up_ports (fallen v)) (holding_of (fallen v)) end
  are_low end few can number body below has stale =
      let own : number < own_numbers = omega (arith, below, few) in
      let low = can number body below (stale_is_due number body own (sym (says_at v number) ∙ has) stale) in
      omega (arith, low, number_stays number own)

-- ---- what is kept fresh

refreshed_holds : (w : BridgeView) → refreshed w ≡ settling is_new w
unfolding refreshed
refreshed_holds w = refl

pub readied_own : (v : BridgeView) (id : LspId) → get (readied v).database id ≡ get (settling is_new (fallen v)).database id
readied_own v id = ap (λ (u : BridgeView). get u.database id) (refreshed_holds (fallen v))

-- what was sent leaves own LSPs and whether the numbers are spent
pub second_spent : (v : BridgeView) → (step second v).spent ≡ (settling is_new (fallen v)).spent
second_spent v = ap (λ (w : BridgeView). w.spent) (tick_is v) ∙ ap (λ (u : BridgeView). u.spent) (refreshed_holds (fallen v))

second_own : (v : BridgeView) (number : ℕ) → own_entry (step second v) number ≡ get (step second v).database (own_number v.id.system number)
second_own v number = ap (λ id. get (step second v).database (own_number id.system number)) (steps_keep_bridge second v).id

-- ---- a second that leaves an own LSP

-- where the bridge is spent, all stand
spent_stands : (v : BridgeView) → v.spent ≡ true → settling is_new (fallen v) ≡ fallen v
spent_stands v spent =
    ap (λ (h : Holding). with_holding h (fallen v)) (settling_stands is_new (up_ports (fallen v)) (holding_of (fallen v)) (λ fresh number below. absurd (true≢false (sym spent ∙ fresh))))

-- one that says what the bridge has to say, and isn't old
left_by : (v : BridgeView) (number : ℕ) (b : Bool) → v.spent ≡ b → number < own_numbers → Fresh v number ≡ true → get (settling is_new (fallen v)).database (own_number v.id.system number) ≡ own_entry (fallen v) number
left_by v number true spent below is = ap (λ (u : BridgeView). get u.database (own_number v.id.system number)) (spent_stands v spent)
left_by v number false fresh below is = left_after is_new (up_ports (fallen v)) (holding_of (fallen v)) number below is fresh

second_lasts : (v : BridgeView) (number left : ℕ) (body : List ℕ) → number < own_numbers → is_live (version_in (own_entry v number)) ≡ true → body_in (own_entry v number) ≡ body → body_at (step second v) number ≡ Some body
    → lifetime_in (own_entry v number) ≡ left + 1 → 301 ≤ left → IsLasting left (own_entry v number) (own_entry (step second v) number)
second_lasts v number left body below live is says count many =
    let id : LspId = own_number v.id.system number in
    let new : Fresh v number ≡ true = fresh_is v number body says ∙ fresh_why v number body live (omega (arith, count, many)) is in
    let held : but_for_ssn (get (step second v).database id) ≡ but_for_ssn (own_entry (fallen v) number) = second_holds v id ∙ ap but_for_ssn (readied_own v id ∙ left_by v number v.spent refl below new) in
    subst (IsLasting left (own_entry v number)) (sym (second_own v number))
    (lasting_same (get (step second v).database id) (own_entry (fallen v) number) held left (own_entry v number) (fell v number left live count (omega (arith, many))).lasts)

pub seconds_stand_still : SecondsStandStill
seconds_stand_still v number left body was fresh below has says count many =
    let current = saying_at v was fresh number body below has in
    second_lasts v number left body below (live_in (own_entry v number) current.1).0 current.0 says count many

-- ---- a second that originates

-- an LSP without SSN flags is as it was after all was sent
sending_keeps_entry : (p : ℕ) (e : Entry) (b : Bool) → b ≡ false → (if b then with_ssn p false e else e) ≡ e
sending_keeps_entry p e true ssn = absurd cc
sending_keeps_entry p e false ssn = refl

no_ssn_at : (p : ℕ) (e : Entry) → e.ssn ≡ no_ports → has_ssn_at p e ≡ false
no_ssn_at p e none = ap (λ (set : PortSet). has set p) none ∙ has-no_ports p

sending_keeps_at : (b : Bool) (p : ℕ) (db : Lsps) (id : LspId) (e : Entry) → e.ssn ≡ no_ports → get db id ≡ Some e → get (if b then all_ssn_cleared p db else db) id ≡ Some e
sending_keeps_at true p db id e none is =
    get-each (λ x d. ssn_cleared_entry p d) db id ∙ (ap (option_map (ssn_cleared_entry p)) is ∙ ap (λ (d : Entry). Some d) (sending_keeps_entry p e (has_ssn_at p e) (no_ssn_at p e none)))
sending_keeps_at false p db id e none is = is

sending_keeps_from : (p : ℕ) (ports : List BridgePort) (db : Lsps) (id : LspId) (e : Entry) → e.ssn ≡ no_ports → get db id ≡ Some e → get (after_sending_from p ports db) id ≡ Some e
sending_keeps_from p [] db id e none is = is
sending_keeps_from p (port ∷ ports) db id e none is = sending_keeps_from (p + 1) ports (after_sending_at p port db) id e none (sending_keeps_at (is_port_up port) p db id e none is)

-- an own LSP at a number is made of the system and the body
renewed_as : (up other : PortSet) (x y : SystemId) (number : ℕ) (body : List ℕ) (n m : ℕ) → up ≡ other → x ≡ y → n ≡ m → renewed up (own_number x number) body n ≡ renewed other (own_number y number) body m
renewed_as up other x y number body n m ups systems numbers = λ i. renewed (ups i) (own_number (systems i) number) body (numbers i)

pub seconds_renew : SecondsRenew
seconds_renew v number body was fresh due can =
    let w : BridgeView = fallen v in
    let id : LspId = own_number v.id.system number in
    let has : body_at w number ≡ Some body = says_at v number ∙ due.says in
    let low = are_low v was fresh (number + 1) (omega (arith, due.below)) can in
    let new : Entry = renewed (up_ports w) id body (own_sequence_number w number + 1) in
    let made : get (readied v).database id ≡ Some new =
    readied_own v id ∙ renewed_after is_new (up_ports w) (holding_of w) number body due.below has (due_is_stale v was fresh number body due) low fresh in
    let held : get (after_sending_from 1 (readied v).ports (readied v).database) id ≡ Some new = sending_keeps_from 1 (readied v).ports (readied v).database id new refl made in
    let system : w.id.system ≡ (step second v).id.system = ap (λ x. x.system) (sym (steps_keep_bridge second v).id) in
    second_own v number
    ∙ (ap (λ (x : BridgeView). get x.database id) (tick_is v)
    ∙ (held
    ∙ ap (λ (e : Entry). Some e) (renewed_as (up_ports w) (up_ports (step second v)) w.id.system (step second v).id.system number body (own_sequence_number w number + 1) (own_sequence_number v number + 1) (sym (up_second v)) system (ap (λ n. n + 1) (number_stays v was fresh number due.below)))))

pub seconds_stay_unspent : SecondsStayUnspent
seconds_stay_unspent v was fresh can =
    second_spent v ∙ unspent_after is_new (up_ports (fallen v)) (holding_of (fallen v)) (are_low v was fresh own_numbers (omega arith) can) fresh

-- ---- the last number

module _ (v : BridgeView) (number : ℕ) (body : List ℕ) (was : IsSoundView v) (fresh : v.spent ≡ false) (due : IsDue v number body) (past : last_number ≤ own_sequence_number v number) where
  past_then : last_number ≤ own_sequence_number (fallen v) number
  past_then = omega (arith, past, number_stays v was fresh number due.below)

  spends : (step second v).spent ≡ true
  spends =
      second_spent v
      ∙ spent_after is_new (up_ports (fallen v)) (holding_of (fallen v)) number body due.below (says_at v number ∙ due.says) (due_is_stale v was fresh number body due) past_then fresh

  first_dies : CanGoOn v number → IsDead (own_sequence_number v number) (up_ports (step second v)) (own_entry (step second v) number)
  first_dies can =
      let w : BridgeView = fallen v in
      let id : LspId = own_number v.id.system number in
      let seq : ℕ = own_sequence_number w number in
      let low = are_low v was fresh number (omega (arith, due.below)) can in
      let new : Option Entry = Some (spent_entry (up_ports w) seq (own_entry w number)) in
      let made : get (readied v).database id ≡ new =
      readied_own v id ∙ dead_after is_new (up_ports w) (holding_of w) number body due.below (says_at v number ∙ due.says) (due_is_stale v was fresh number body due) low past_then fresh in
      let held : but_for_ssn (get (step second v).database id) ≡ but_for_ssn new = second_holds v id ∙ ap but_for_ssn made in
      let dead : IsDead seq (up_ports w) (get (step second v).database id) =
      dead_same (get (step second v).database id) new held seq (up_ports w) (record { version = refl; lifetime = refl; body = refl; srm = refl }) in
      subst (IsDead (own_sequence_number v number) (up_ports (step second v))) (sym (second_own v number))
      (subst (λ n. IsDead n (up_ports (step second v)) (get (step second v).database id)) (number_stays v was fresh number due.below)
      (subst (λ (up : PortSet). IsDead seq up (get (step second v).database id)) (sym (up_second v)) dead))

pub seconds_spend : SecondsSpend
seconds_spend v number body was fresh due past = record { spent = spends v number body was fresh due past; first = first_dies v number body was fresh due past }

pub spent_stands_still : SpentStandsStill
spent_stands_still v number spent =
    let w : BridgeView = fallen v in
    let id : LspId = own_number v.id.system number in
    let stands : settling is_new w ≡ w = spent_stands v spent in (
      subst (AgedFrom (own_entry v number)) (sym (second_own v number))
          (aged_same _ _ (second_holds v id ∙ ap but_for_ssn (readied_own v id ∙ (ap (λ (u : BridgeView). get u.database id) stands ∙ expired_holds v id))) (own_entry v number) (older_ages (up_ports (counts_lowered v)) (leaving_from 1 v.ports) (own_entry v number))),
      second_spent v ∙ (ap (λ (u : BridgeView). u.spent) stands ∙ spent),
    )

-- ---- many seconds

says_less : (k number : ℕ) (v : BridgeView) → SaysTheSame (suc k) number v → SaysTheSame k number v
says_less k number v same j low = same j (omega (arith, low))

-- one that is live and says this
lasts_for : (v : BridgeView) (number k left : ℕ) (body : List ℕ) → number < own_numbers → is_live (version_in (own_entry v number)) ≡ true → body_in (own_entry v number) ≡ body → body_at v number ≡ Some body → SaysTheSame k number v
    → lifetime_in (own_entry v number) ≡ left + k → 301 ≤ left → IsLasting left (own_entry v number) (own_entry (seconds k v) number)
unfolding seconds
lasts_for v number zero left body below live is has same count many = record { version = refl; body = refl; lifetime = omega (arith, count) }
lasts_for v number (suc k) left body below live is has same count many =
    let u : BridgeView = seconds k v in
    let before : IsLasting (left + 1) (own_entry v number) (own_entry u number) = lasts_for v number k (left + 1) body below live is has (says_less k number v same) (omega (arith, count)) (omega (arith, many)) in
    let still : IsLasting left (own_entry u number) (own_entry (step second u) number) =
    second_lasts u number left body below (ap is_live before.version ∙ live) (before.body ∙ is) (same (suc k) (omega arith) ∙ has) before.lifetime many in
    lasting_on left (left + 1) (own_entry v number) (own_entry u number) (own_entry (step second u) number) before still

pub own_lsp_lasts : OwnLspLasts
own_lsp_lasts v number k left body was fresh below has same count many =
    let current = saying_at v was fresh number body below has in
    lasts_for v number k left body below (live_in (own_entry v number) current.1).0 current.0 has same count many

-- what isn't spent after a second wasn't before, and no own LSP had to go past the last number
unspent_before : (v : BridgeView) → (step second v).spent ≡ false → v.spent ≡ false
unspent_before v after = by v.spent refl
  where
    by : (b : Bool) → v.spent ≡ b → v.spent ≡ false
    by true spent = absurd (true≢false (sym (spent_stands_still v 0 spent).1 ∙ after))
    by false fresh = fresh

could_go_on : (v : BridgeView) (end : ℕ) → IsSoundView v → (step second v).spent ≡ false → CanGoOn v end
could_go_on v end was after number body below due =
    elim (cases_lt (own_sequence_number v number) last_number) [
      | inl low ↦ low
      | inr past ↦ absurd (true≢false (sym (seconds_spend v number body was (unspent_before v after) due past).spent ∙ after))
    ]

pub own_lsp_is_renewed : OwnLspIsRenewed
own_lsp_is_renewed v number k body new was fresh below has same count says after =
    let u : BridgeView = seconds k v in
    let next : seconds (k + 1) v ≡ step second u = next_second k v in
    let before : IsLasting 301 (own_entry v number) (own_entry u number) = own_lsp_lasts v number k 301 body was fresh below has same count (omega arith) in
    let sound : IsSoundView u = seconds_sound k v was in
    let unspent : (step second u).spent ≡ false = ap (λ (w : BridgeView). w.spent) (sym next) ∙ after in
    let due : IsDue u number new = record { below = below; says = ap (λ (w : BridgeView). body_at w number) (sym next) ∙ says; why = inl (omega (arith, before.lifetime)) } in
    let renews : IsRenewed number new u (step second u) = seconds_renew u number new sound (unspent_before u unspent) due (could_go_on u (number + 1) sound unspent) in
    let at : own_sequence_number u number ≡ own_sequence_number v number = ap number_of before.version in
    subst (IsRenewed number new v) (sym next)
    (renews ∙ ap (λ n. Some (renewed (up_ports (step second u)) (own_number (step second u).id.system number) new (n + 1))) at)

-- ---- a bridge of which no port is Up

ticked_up : (o : Option BridgePort) → is_up_in o ≡ false → is_up_in (option_map ticked o) ≡ false
ticked_up None down = refl
ticked_up (Some port) down = by_test (is_up (after_second port.adjacency).state) refl
  where
    by_test : (b : Bool) → is_up (after_second port.adjacency).state ≡ b → is_up (after_second port.adjacency).state ≡ false
    by_test true up = absurd (let was = (second_up port.adjacency up).0 in cc)
    by_test false up = up

second_alone : (v : BridgeView) → IsAlone v → IsAlone (step second v)
unfolding is_up_at
second_alone v alone p = ap is_up_in (tick_port v p) ∙ ticked_up (port_at v p) (alone p)

none_listed : (p : ℕ) (ports : List BridgePort) → ((i : ℕ) → is_up_in (slice_get ports i) ≡ false) → neighbours_from p ports ≡ []
none_listed p [] none = refl
none_listed p (port ∷ ports) none =
    ap (λ b. if b then neighbour_in p port ∷ neighbours_from (p + 1) ports else neighbours_from (p + 1) ports) (none 0) ∙ none_listed (p + 1) ports (λ i. none (suc i))

alone_lists : (v : BridgeView) → IsAlone v → neighbours_from 1 v.ports ≡ []
unfolding is_up_at
alone_lists v alone =
    none_listed 1 v.ports (λ i. let place : i + 1 - 1 ≡ i = omega arith in ap (λ k. is_up_in (slice_get v.ports k)) (sym place) ∙ (ap is_up_in (sym (port_found v (i + 1) (omega arith))) ∙ alone (i + 1)))

second_says_same : (v : BridgeView) → IsAlone v → bodies_of (step second v) ≡ bodies_of v
second_says_same v alone =
    second_says v ∙ (ap (bodies_with v) (alone_lists (step second v) (second_alone v alone)) ∙ sym (bodies_say v ∙ ap (bodies_with v) (alone_lists v alone)))

alone_stays : (k : ℕ) (v : BridgeView) → IsAlone v → IsAlone (seconds k v) × (bodies_of (seconds k v) ≡ bodies_of v)
unfolding seconds
alone_stays zero v alone = (alone, refl)
alone_stays (suc k) v alone =
    let before = alone_stays k v alone in
    (second_alone (seconds k v) before.0, second_says_same (seconds k v) before.0 ∙ before.1)

pub alone_stays_alone : AloneStaysAlone
alone_stays_alone v k alone = ((alone_stays k v alone).0, λ number j low. same_at number (bodies_of (seconds j v)) (bodies_of v) (alone_stays j v alone).1)

-- ---- a bridge just configured and left to itself

-- own LSPs in which it has something to say, with so much of their lifetime left
abbrev AllLast : ℕ → BridgeView → Type 0
AllLast left v = (number : ℕ) (body : List ℕ) → number < own_numbers → body_at v number ≡ Some body → lifetime_in (own_entry v number) ≡ left

-- while no one of them is old, none is originated
unspent_for : (v : BridgeView) (k left : ℕ) → IsSoundView v → IsAlone v → v.spent ≡ false → AllLast (left + k) v → 301 ≤ left → (seconds k v).spent ≡ false
unfolding seconds
unspent_for v zero left was alone fresh all many = fresh
unspent_for v (suc k) left was alone fresh all many =
    let u : BridgeView = seconds k v in
    let unspent : u.spent ≡ false = unspent_for v k (left + 1) was alone fresh (λ number body below has. let count = all number body below has in omega (arith, count)) (omega (arith, many)) in
    seconds_stay_unspent u (seconds_sound k v was) unspent (λ number body below due.
    let now : body_at u number ≡ body_at v number = (alone_stays_alone v k alone).1 number k (omega arith) in
    let has : body_at v number ≡ Some body = sym ((alone_stays_alone v (suc k) alone).1 number (suc k) (omega arith)) ∙ due.says in
    let lasts : IsLasting (left + 1) (own_entry v number) (own_entry u number) =
    own_lsp_lasts v number k (left + 1) body was fresh due.below has ((alone_stays_alone v k alone).1 number) (let count = all number body due.below has in omega (arith, count)) (omega (arith, many)) in
    absurd (elim due.why [
      | inl last ↦ omega (arith, last, lasts.lifetime, many)
      | inr other ↦ other (now ∙ has)
    ]))

-- the bridge after some times 900 seconds
record StandsAt (seq : ℕ) (v : BridgeView) : Type 0 where
  sound : IsSoundView v
  alone : IsAlone v
  fresh : v.spent ≡ false
  number : (number : ℕ) (body : List ℕ) → number < own_numbers → body_at v number ≡ Some body → own_sequence_number v number ≡ seq
  all : AllLast 1200 v

nobody_up : (o : Option BridgePort) → option_and_then (λ port. neighbour_of port.adjacency) o ≡ None → is_up_in o ≡ false
nobody_up None nobody = refl
nobody_up (Some port) nobody = by_test (is_port_up port) refl
  where
    by_test : (b : Bool) → is_port_up port ≡ b → is_port_up port ≡ false
    by_test true up = absurd (let kept = up_keeps port.adjacency up in cc)
    by_test false up = up

configured_alone : (c : BridgeConfig) → IsWhole c → IsAlone (configured c)
unfolding is_up_at neighbour_at
configured_alone c whole p = nobody_up (port_at (configured c) p) ((configured_has_no_carrier c whole).neighbour p)

begun : (id : LspId) (body : List ℕ) (o : Option Entry) (text : Option (List ℕ)) → o ≡ started_by id 0 text → text ≡ Some body → (number_of (version_in o) ≡ 1) × (lifetime_in o ≡ 1200)
begun id body o text is has =
    let own : o ≡ Some (renewed no_ports id body (0 + 1)) = is ∙ ap (started_by id 0) has in
    (ap (λ (x : Option Entry). number_of (version_in x)) own, ap lifetime_in own)

configured_stands : (c : BridgeConfig) → IsWhole c → c.last ≡ first_life → StandsAt 1 (configured c)
configured_stands c whole first = record {
  sound = configured_is_sound c whole;
  alone = configured_alone c whole;
  fresh = configured_unspent c first;
  number = λ number body below has. (begins number body below has).0;
  all = λ number body below has. (begins number body below has).1;
}
  where
    begins : (number : ℕ) (body : List ℕ) → number < own_numbers → body_at (configured c) number ≡ Some body
        → (own_sequence_number (configured c) number ≡ 1) × (lifetime_in (own_entry (configured c) number) ≡ 1200)
    begins number body below has =
        begun (own_number c.id.system number) body (own_entry (configured c) number) (body_at (bare c) number) (configured_own c number first below) (sym (configured_says c number) ∙ has)

-- 900 seconds more
module _ (seq : ℕ) (v : BridgeView) (was : StandsAt seq v) (low : seq < last_number) where
  before : BridgeView
  before = seconds 899 v

  still_says : (j number : ℕ) (body : List ℕ) → body_at (seconds j v) number ≡ Some body → body_at v number ≡ Some body
  still_says j number body has = sym ((alone_stays_alone v j was.alone).1 number j (omega arith)) ∙ has

  lasts_till : (number : ℕ) (body : List ℕ) → number < own_numbers → body_at v number ≡ Some body → IsLasting 301 (own_entry v number) (own_entry (seconds 899 v) number)
  lasts_till number body below has = own_lsp_lasts v number 899 301 body was.sound was.fresh below has ((alone_stays_alone v 899 was.alone).1 number) (was.all number body below has) (omega arith)

  next_unspent : (seconds 900 v).spent ≡ false
  next_unspent =
      let u : BridgeView = seconds 899 v in
      let unspent : u.spent ≡ false = unspent_for v 899 301 was.sound was.alone was.fresh was.all (omega arith) in
      ap (λ (w : BridgeView). w.spent) (next_second 899 v)
      ∙ seconds_stay_unspent u (seconds_sound 899 v was.sound) unspent (λ number body below due.
      let has : body_at v number ≡ Some body = still_says 900 number body (ap (λ (w : BridgeView). body_at w number) (next_second 899 v) ∙ due.says) in
      let at : own_sequence_number u number ≡ seq = ap number_of (lasts_till number body due.below has).version ∙ was.number number body due.below has in
      omega (arith, at, low))

  renewed_then : (number : ℕ) (body : List ℕ) → number < own_numbers → body_at (seconds 900 v) number ≡ Some body → IsRenewed number body v (seconds 900 v)
  renewed_then number body below has =
      let had : body_at v number ≡ Some body = still_says 900 number body has in
      own_lsp_is_renewed v number 899 body body was.sound was.fresh below had ((alone_stays_alone v 899 was.alone).1 number) (was.all number body below had) has next_unspent

  stands_on : StandsAt (seq + 1) (seconds 900 v)
  stands_on = record {
    sound = seconds_sound 900 v was.sound;
    alone = (alone_stays_alone v 900 was.alone).0;
    fresh = next_unspent;
    number = λ number body below has.
        ap (λ (o : Option Entry). number_of (version_in o)) (renewed_then number body below has) ∙ ap (λ n. n + 1) (was.number number body below (still_says 900 number body has));
    all = λ number body below has. ap lifetime_in (renewed_then number body below has);
  }

stands_after : (c : BridgeConfig) (j : ℕ) → IsWhole c → c.last ≡ first_life → j < last_number → StandsAt (j + 1) (seconds (900 * j) (configured c))
stands_after c zero whole first below =
    let none : 900 * zero ≡ 0 = omega arith in
    subst (StandsAt 1) (sym (ap (λ n. seconds n (configured c)) none ∙ no_seconds (configured c))) (configured_stands c whole first)
stands_after c (suc j) whole first below =
    let before : StandsAt (j + 1) (seconds (900 * j) (configured c)) = stands_after c j whole first (omega (arith, below)) in
    let sum : 900 * suc j ≡ 900 + 900 * j = omega arith in
    let number : j + 1 + 1 ≡ suc j + 1 = omega arith in
    subst (λ n. StandsAt n (seconds (900 * suc j) (configured c))) number
    (subst (StandsAt (j + 1 + 1)) (sym (ap (λ n. seconds n (configured c)) sum ∙ seconds_add 900 (900 * j) (configured c))) (stands_on (j + 1) (seconds (900 * j) (configured c)) before (omega (arith, below))))

pub every_nine_hundred : EveryNineHundred
every_nine_hundred c number j k left body whole first below has low sum many =
    let u : BridgeView = seconds (900 * j) (configured c) in
    let was : StandsAt (j + 1) u = stands_after c j whole first low in
    let says : body_at u number ≡ Some body = (alone_stays_alone (configured c) (900 * j) (configured_alone c whole)).1 number (900 * j) (omega arith) ∙ has in
    let still : IsLasting left (own_entry u number) (own_entry (seconds k u) number) =
    own_lsp_lasts u number k left body was.sound was.fresh below says ((alone_stays_alone u k was.alone).1 number) (was.all number body below says ∙ sym sum) many in
    subst (IsAtNumber number (j + 1) left) (sym (seconds_add k (900 * j) (configured c))) (record {
      at = ap number_of still.version ∙ was.number number body below says;
      lifetime = still.lifetime;
      spent = unspent_for u k left was.sound was.alone was.fresh (λ i b under is. was.all i b under is ∙ sym sum) many;
    })
