-- Seconds that pass in calm go on, and add up.
use Rattle.std.proofs.Common.{◌≡◌, ℕ, ◌+◌, ◌-◌, ◌<◌, Bool, true, false, refl, sym, ap, ◌∙◌, Option, Some, None, arith}
use Rattle.std.specs.Prelude.{◌||◌}
use Rattle.std.specs.List.{list_any}
use Rattle.std.specs.Option.{option_map}
use Rattle.std.specs.FinMap.{get, same_map}
use Rattle.spb_types.specs.declared.address.LspId.{LspId}
use Rattle.lsdb.specs.Calm.{lowered_by}
use Rattle.lsdb.specs.Entry.{Entry, has_flags}
use Rattle.lsdb.specs.Database.{Lsps, version_in, each, any_flags}
use Rattle.lsdb.specs.Time.{is_live, lifetime_in}
use Rattle.lsdb.proofs.Flags.{none_each}
use Rattle.lsdb.proofs.Ids.{ids_total, ids_tied}
use Rattle.lsdb.proofs.LookupLemmas.{get-each}
use Rattle.flooding.specs.Own.{own_number}
use Rattle.bridge_api.specs.View.{BridgeView, adjacency_at, has_flags as has_work}
use Rattle.bridge_api.specs.Calm.{KeepsAll, HasLifeLeft, aged_by}
use Rattle.bridge_rounds.specs.Calm.{CalmGoesOn, AgesAdd}

-- ---- a database whose lifetimes fell

abbrev pub lowered_db : ℕ → Lsps → Lsps
lowered_db j db = each (λ id e. lowered_by j e) db

pub or_parts : (a b : Bool) → (a || b) ≡ false → (a ≡ false) × (b ≡ false)
or_parts true b e = absurd cc
or_parts false b e = (refl, e)

pub lowered_flags : (j : ℕ) (db : Lsps) → any_flags db ≡ false → any_flags (lowered_db j db) ≡ false
lowered_flags j db none = none_each has_flags (λ e. lowered_by j e) (λ e off. off) db none

lowered_version : (j : ℕ) (o : Option Entry) → version_in (option_map (λ e. lowered_by j e) o) ≡ version_in o
lowered_version j None = refl
lowered_version j (Some e) = refl

lowered_lifetime : (j : ℕ) (o : Option Entry) → lifetime_in (option_map (λ e. lowered_by j e) o) ≡ lifetime_in o - j
lowered_lifetime j None = omega arith
lowered_lifetime j (Some e) = refl

-- what is left of an LSP
left_in : (j most : ℕ) (id : LspId) (db : Lsps) → (is_live (version_in (get db id)) ≡ true → j + most < lifetime_in (get db id))
    → is_live (version_in (get (lowered_db j db) id)) ≡ true → most < lifetime_in (get (lowered_db j db) id)
left_in j most id db lasts live =
    let now = get-each (λ id e. lowered_by j e) db id in
    let before = lasts (sym (ap is_live (ap version_in now ∙ lowered_version j (get db id))) ∙ live) in
    let count : lifetime_in (get (lowered_db j db) id) ≡ lifetime_in (get db id) - j = ap lifetime_in now ∙ lowered_lifetime j (get db id) in
    omega (arith, before, count)

-- ---- a bridge that goes on

aged_work : (j : ℕ) (v : BridgeView) → has_work v ≡ false → has_work (aged_by j v) ≡ false
unfolding aged_by has_work
aged_work j v none =
    let parts = or_parts (any_flags v.database) (list_any (λ port. port.csnp_due) v.ports) none in
    ap (λ b. b || list_any (λ port. port.csnp_due) v.ports) (lowered_flags j v.database parts.0) ∙ parts.1

aged_kept : (j : ℕ) (v : BridgeView) → KeepsAll v → KeepsAll (aged_by j v)
unfolding aged_by adjacency_at
aged_kept j v kept p a there carrier = kept p a there carrier

module _ (v : BridgeView) (j k : ℕ) (life : HasLifeLeft (j + k) v) where
  first_left : HasLifeLeft j v
  first_left = record {
    held = λ id live. let left = life.held id live in omega (arith, left);
    own = λ number below live. let left = life.own number below live in omega (arith, left);
  }

  others_left : HasLifeLeft k (aged_by j v)
  unfolding aged_by
  others_left = record {
    held = λ id live. left_in j k id v.database (life.held id) live;
    own = λ number below live.
        left_in j (k + 300) (own_number v.id.system number) v.database (λ lives. let left = life.own number below lives in omega (arith, left)) live;
  }

pub calm_goes_on : CalmGoesOn
unfolding aged_by
calm_goes_on v j k calm = (
  record { works = calm.works; fresh = calm.fresh; flags = calm.flags; kept = calm.kept; life = first_left v j k calm.life },
  record {
    works = calm.works;
    fresh = calm.fresh;
    flags = aged_work j v calm.flags;
    kept = aged_kept j v calm.kept;
    life = others_left v j k calm.life;
  },
)

-- ---- seconds that add up

twice_at : (j k : ℕ) (o : Option Entry) → option_map (λ e. lowered_by k e) (option_map (λ e. lowered_by j e) o) ≡ option_map (λ e. lowered_by (j + k) e) o
twice_at j k None = refl
twice_at j k (Some e) = let less : e.lifetime - j - k ≡ e.lifetime - (j + k) = omega arith in ap (λ (l : ℕ). Some (record e { lifetime = l })) less

lowered_twice : (j k : ℕ) (db : Lsps) → lowered_db k (lowered_db j db) ≡ lowered_db (j + k) db
lowered_twice j k db =
    same_map ids_total ids_tied (lowered_db k (lowered_db j db)) (lowered_db (j + k) db)
    (λ x.
    get-each (λ id e. lowered_by k e) (lowered_db j db) x
    ∙ (ap (option_map (λ e. lowered_by k e)) (get-each (λ id e. lowered_by j e) db x)
    ∙ (twice_at j k (get db x) ∙ sym (get-each (λ id e. lowered_by (j + k) e) db x))))

pub ages_add : AgesAdd
unfolding aged_by
ages_add v j k = ap (λ (db : Lsps). record v { database = db }) (lowered_twice j k v.database)
