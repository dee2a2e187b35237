-- What seconds leave of an LSP of which nothing more is heard.
use Rattle.std.proofs.Common.{◌≡◌, inl, inr, ℕ, zero, suc, ◌+◌, ◌-◌, ◌≤◌, true, false, List, [], ◌∷◌, map, refl, sym, ap, ◌∙◌, subst, Option, Some, None, arith}
use Rattle.std.specs.Option.{option_map}
use Rattle.std.specs.FinMap.{get}
use Rattle.std.proofs.lemmas.Bool.{cases_lt}
use Rattle.spb_types.specs.declared.address.LspId.{LspId}
use Rattle.spb_types.specs.declared.ports.PortSet.{PortSet}
use Rattle.lsdb.specs.declared.version.Version.{Version}
use Rattle.lsdb.specs.declared.version.Version.TheVariants.{Absent, Live, Dead}
use Rattle.lsdb.specs.Version.{number_of}
use Rattle.lsdb.specs.Entry.{Entry, made, flags_cleared_at, aged}
use Rattle.lsdb.specs.Database.{version_in, version_at, srm_in}
use Rattle.lsdb.specs.Time.{lifetime_in, is_live}
use Rattle.lsdb.proofs.LookupLemmas.{get-each}
use Rattle.lsdb.proofs.Time.{lives_on, dies, stands}
use Rattle.flooding.specs.Own.{is_own_number}
use Rattle.flooding.specs.Settling.{is_new}
use Rattle.flooding.proofs.Settled.{settling_leaves_others}
use Rattle.bridge_api.specs.View.{BridgeView, up_ports, up_from}
use Rattle.bridge_api.specs.Own.{holding_of, body_in}
use Rattle.bridge_api.specs.Duties.{but_for_ssn}
use Rattle.bridge_api.specs.Ticking.{later, leaving_from, flags_cleared_at_all, counts_lowered, expired, refreshed, readied}
use Rattle.bridge_api.specs.Step.{second, step}
use Rattle.bridge_api.specs.Time.{seconds, AgedFrom, stays, dies as died, SecondsAge, IsLasting, LspsLast, IsDead, LspsExpire}
use Rattle.bridge_api.proofs.Changes.{tick_is, tick_ports}
use Rattle.bridge_api.proofs.Data.{undue_up}
use Rattle.bridge_api.proofs.Serving.{held_from}
use Rattle.bridge_api.proofs.Time.{next_second, seconds_id}

-- ---- what an entry is but for its SSN flags

version_but : (o : Option Entry) → version_in (but_for_ssn o) ≡ version_in o
version_but None = refl
version_but (Some e) = refl

body_but : (o : Option Entry) → body_in (but_for_ssn o) ≡ body_in o
body_but None = refl
body_but (Some e) = refl

lifetime_but : (o : Option Entry) → lifetime_in (but_for_ssn o) ≡ lifetime_in o
lifetime_but None = refl
lifetime_but (Some e) = refl

srm_but : (o : Option Entry) → srm_in (but_for_ssn o) ≡ srm_in o
srm_but None = refl
srm_but (Some e) = refl

-- two that are the same but for these
module _ (x y : Option Entry) (same : but_for_ssn x ≡ but_for_ssn y) where
  pub version_same : version_in x ≡ version_in y
  version_same = sym (version_but x) ∙ (ap version_in same ∙ version_but y)

  body_same : body_in x ≡ body_in y
  body_same = sym (body_but x) ∙ (ap body_in same ∙ body_but y)

  lifetime_same : lifetime_in x ≡ lifetime_in y
  lifetime_same = sym (lifetime_but x) ∙ (ap lifetime_in same ∙ lifetime_but y)

  srm_same : srm_in x ≡ srm_in y
  srm_same = sym (srm_but x) ∙ (ap srm_in same ∙ srm_but y)

  pub lasting_same : (left : ℕ) (old : Option Entry) → IsLasting left old y → IsLasting left old x
  lasting_same left old lasts = record {
    version = version_same ∙ lasts.version;
    body = body_same ∙ lasts.body;
    lifetime = lifetime_same ∙ lasts.lifetime;
  }

  pub dead_same : (seq : ℕ) (up : PortSet) → IsDead seq up y → IsDead seq up x
  dead_same seq up dead = record {
    version = version_same ∙ dead.version;
    lifetime = lifetime_same ∙ dead.lifetime;
    body = body_same ∙ dead.body;
    srm = srm_same ∙ dead.srm;
  }

  pub aged_same : (old : Option Entry) → AgedFrom old y → AgedFrom old x
  aged_same old (stays version body most least) =
      stays (version_same ∙ version) (body_same ∙ body) (omega (arith, lifetime_same, most)) (omega (arith, lifetime_same, least))
  aged_same old (died live last version body) = died live last (version_same ∙ version) (body_same ∙ body)

-- ---- an entry a second later

-- the flags of ports that leave Up are cleared, and else it is as it was
flags_cleared_is : (ps : List ℕ) (e : Entry) → flags_cleared_at_all ps e ≡ record e { srm = (flags_cleared_at_all ps e).srm; ssn = (flags_cleared_at_all ps e).ssn }
flags_cleared_is [] e = refl
flags_cleared_is (p ∷ ps) e = flags_cleared_is ps (flags_cleared_at p e)

abbrev pub older : PortSet → List ℕ → Entry → Entry
older up ps e = aged up (flags_cleared_at_all ps e)

module _ (up : PortSet) (ps : List ℕ) where
  older_lasts_at : (e left_one : Entry) (left : ℕ) → left_one ≡ record e { srm = left_one.srm; ssn = left_one.ssn } → is_live e.version ≡ true → e.lifetime ≡ left + 1 → 1 ≤ left → IsLasting left (Some e) (Some (aged up left_one))
  older_lasts_at e f left same live lasts some =
      let version : f.version ≡ e.version = ap (λ (x : Entry). x.version) same in
      let lifetime : f.lifetime ≡ left + 1 = ap (λ (x : Entry). x.lifetime) same ∙ lasts in
      let next : aged up f ≡ record f { lifetime = left } = lives_on up f left (ap is_live version ∙ live) lifetime some in
      record {
        version = ap (λ (x : Entry). x.version) next ∙ version;
        body = ap (λ (x : Entry). x.body) next ∙ ap (λ (x : Entry). x.body) same;
        lifetime = ap (λ (x : Entry). x.lifetime) next;
      }

  pub older_lasts : (o : Option Entry) (left : ℕ) → is_live (version_in o) ≡ true → lifetime_in o ≡ left + 1 → 1 ≤ left → IsLasting left o (option_map (older up ps) o)
  older_lasts None left live lasts some = absurd cc
  older_lasts (Some e) left live lasts some = older_lasts_at e (flags_cleared_at_all ps e) left (flags_cleared_is ps e) live lasts some

  older_dies : (o : Option Entry) (seq sum : ℕ) → version_in o ≡ Live seq sum → lifetime_in o ≤ 1 → IsDead seq up (option_map (older up ps) o)
  older_dies None seq sum is last = absurd cc
  older_dies (Some e) seq sum is last =
      let f : Entry = flags_cleared_at_all ps e in
      let version : f.version ≡ Live seq sum = ap (λ (x : Entry). x.version) (flags_cleared_is ps e) ∙ is in
      let lifetime : f.lifetime ≡ e.lifetime = ap (λ (x : Entry). x.lifetime) (flags_cleared_is ps e) in
      let next : aged up f ≡ made (Dead seq) 0 [] up f.ssn = dies up f seq sum version (omega (arith, lifetime, last)) in
      record {
        version = ap (λ (x : Entry). x.version) next;
        lifetime = ap (λ (x : Entry). x.lifetime) next;
        body = ap (λ (x : Entry). x.body) next;
        srm = ap (λ (x : Entry). x.srm) next;
      }

  older_stands : (e : Entry) → is_live e.version ≡ false → AgedFrom (Some e) (Some (older up ps e))
  older_stands e gone =
      let f : Entry = flags_cleared_at_all ps e in
      let version : f.version ≡ e.version = ap (λ (x : Entry). x.version) (flags_cleared_is ps e) in
      let next : aged up f ≡ f = stands up f (ap is_live version ∙ gone) in
      let lifetime : (older up ps e).lifetime ≡ e.lifetime = ap (λ (x : Entry). x.lifetime) next ∙ ap (λ (x : Entry). x.lifetime) (flags_cleared_is ps e) in
      stays (ap (λ (x : Entry). x.version) next ∙ version) (ap (λ (x : Entry). x.body) next ∙ ap (λ (x : Entry). x.body) (flags_cleared_is ps e)) (omega (arith, lifetime)) (omega (arith, lifetime))

  older_live : (e : Entry) (seq sum : ℕ) → e.version ≡ Live seq sum → AgedFrom (Some e) (Some (older up ps e))
  older_live e seq sum is =
      elim (cases_lt 1 e.lifetime) [
        | inl more ↦
            let left : ℕ = e.lifetime - 1 in
            let lasts : IsLasting left (Some e) (Some (older up ps e)) = older_lasts (Some e) left (ap is_live is) (omega (arith, more)) (omega (arith, more)) in
            stays lasts.version lasts.body (omega (arith, lasts.lifetime, more)) (omega (arith, lasts.lifetime, more))
        | inr last ↦
            let dead : IsDead seq up (Some (older up ps e)) = older_dies (Some e) seq sum is last in
            died (ap is_live is) last (dead.version ∙ ap (λ (a : Version). Dead (number_of a)) (sym is)) dead.body
      ]

  older_by : (e : Entry) (a : Version) → e.version ≡ a → AgedFrom (Some e) (Some (older up ps e))
  older_by e Absent is = older_stands e (ap is_live is)
  older_by e (Live seq sum) is = older_live e seq sum is
  older_by e (Dead seq) is = older_stands e (ap is_live is)

  pub older_ages : (o : Option Entry) → AgedFrom o (option_map (older up ps) o)
  older_ages None = stays refl refl (omega arith) (omega arith)
  older_ages (Some e) = older_by e e.version refl

-- ---- what stands under an id a second later

-- the Up ports are those that are left when the counts fell
pub up_second : (v : BridgeView) → up_ports (step second v) ≡ up_ports (counts_lowered v)
up_second v = ap (up_from 1) (tick_ports v) ∙ undue_up 1 (map later v.ports)

twice : (f g : Entry → Entry) (o : Option Entry) → option_map f (option_map g o) ≡ option_map (λ e. f (g e)) o
twice f g None = refl
twice f g (Some e) = refl

pub expired_holds : (v : BridgeView) (id : LspId) → get (expired (counts_lowered v)).database id ≡ option_map (older (up_ports (counts_lowered v)) (leaving_from 1 v.ports)) (get v.database id)
expired_holds v id =
    let up : PortSet = up_ports (counts_lowered v) in
    let ps : List ℕ = leaving_from 1 v.ports in
    get-each (λ x e. aged up e) (counts_lowered v).database id
    ∙ (ap (option_map (aged up)) (get-each (λ x e. flags_cleared_at_all ps e) v.database id) ∙ twice (aged up) (flags_cleared_at_all ps) (get v.database id))

refreshed_others : (w : BridgeView) (id : LspId) → is_own_number w.id.system id ≡ false → get (refreshed w).database id ≡ get w.database id
unfolding refreshed
refreshed_others w id other = settling_leaves_others is_new (up_ports w) (holding_of w) id other

pub second_holds : (v : BridgeView) (id : LspId) → but_for_ssn (get (step second v).database id) ≡ but_for_ssn (get (readied v).database id)
second_holds v id = ap (λ (w : BridgeView). but_for_ssn (get w.database id)) (tick_is v) ∙ held_from 1 (readied v).ports (readied v).database id

pub second_ages : (v : BridgeView) (id : LspId) → is_own_number v.id.system id ≡ false → but_for_ssn (get (step second v).database id) ≡ but_for_ssn (option_map (older (up_ports (counts_lowered v)) (leaving_from 1 v.ports)) (get v.database id))
second_ages v id other = second_holds v id ∙ ap but_for_ssn (refreshed_others (expired (counts_lowered v)) id other ∙ expired_holds v id)

pub seconds_age : SecondsAge
seconds_age v id other = aged_same _ _ (second_ages v id other) (get v.database id) (older_ages (up_ports (counts_lowered v)) (leaving_from 1 v.ports) (get v.database id))

second_lasts : (v : BridgeView) (id : LspId) (left : ℕ) → is_own_number v.id.system id ≡ false → is_live (version_at v.database id) ≡ true → lifetime_in (get v.database id) ≡ left + 1 → 1 ≤ left → IsLasting left (get v.database id) (get (step second v).database id)
second_lasts v id left other live lasts some =
    lasting_same _ _ (second_ages v id other) left (get v.database id) (older_lasts (up_ports (counts_lowered v)) (leaving_from 1 v.ports) (get v.database id) left live lasts some)

second_dies : (v : BridgeView) (id : LspId) (seq sum : ℕ) → is_own_number v.id.system id ≡ false → version_at v.database id ≡ Live seq sum → lifetime_in (get v.database id) ≤ 1 → IsDead seq (up_ports (step second v)) (get (step second v).database id)
second_dies v id seq sum other is last =
    subst (λ (up : PortSet). IsDead seq up (get (step second v).database id)) (sym (up_second v))
    (dead_same _ _ (second_ages v id other) seq (up_ports (counts_lowered v)) (older_dies (up_ports (counts_lowered v)) (leaving_from 1 v.ports) (get v.database id) seq sum is last))

-- ---- and many seconds later

pub lasting_on : (left more : ℕ) (o mid new : Option Entry) → IsLasting more o mid → IsLasting left mid new → IsLasting left o new
lasting_on left more o mid new first next = record { version = next.version ∙ first.version; body = next.body ∙ first.body; lifetime = next.lifetime }

still_other : (k : ℕ) (v : BridgeView) (id : LspId) → is_own_number v.id.system id ≡ false → is_own_number (seconds k v).id.system id ≡ false
still_other k v id other = ap (λ x. is_own_number x.system id) (seconds_id k v) ∙ other

pub lsps_last : LspsLast
unfolding seconds
lsps_last v id zero left other live lasts some = record { version = refl; body = refl; lifetime = omega (arith, lasts) }
lsps_last v id (suc k) left other live lasts some =
    let u : BridgeView = seconds k v in
    let before : IsLasting (left + 1) (get v.database id) (get u.database id) = lsps_last v id k (left + 1) other live (omega (arith, lasts)) (omega arith) in
    lasting_on left (left + 1) (get v.database id) (get u.database id) (get (step second u).database id) before
    (second_lasts u id left (still_other k v id other) (ap is_live before.version ∙ live) before.lifetime some)

pub lsps_expire : LspsExpire
lsps_expire v id seq sum k other is lasts =
    let u : BridgeView = seconds k v in
    let before : IsLasting 1 (get v.database id) (get u.database id) = lsps_last v id k 1 other (ap is_live is) (omega (arith, lasts)) (omega arith) in
    subst (λ (w : BridgeView). IsDead seq (up_ports w) (get w.database id)) (sym (next_second k v))
    (second_dies u id seq sum (still_other k v id other) (before.version ∙ is) (omega (arith, before.lifetime)))
