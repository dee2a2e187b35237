-- What is so of every entry stays so after a claim, where it is so of what is heard.
use Rattle.std.specs.Prelude.{◌≡◌, Bool, true, false, Option, Some, None, if◌then◌else◌}
use Rattle.std.proofs.Common.{refl, sym, ap, subst, ◌∙◌, ⊎_elim}
use Rattle.std.proofs.lemmas.Bool.{and_parts}
use Rattle.std.specs.Option.{option_map}
use Rattle.std.specs.FinMap.{get, insert}
use Rattle.spb_types.specs.declared.address.LspId.{LspId}
use Rattle.spb_types.specs.declared.ports.PortSet.{PortSet}
use Rattle.spb_types.specs.Address.{same_system}
use Rattle.lsdb.specs.declared.version.Relation.{Relation}
use Rattle.lsdb.specs.Version.{number_of, relation}
use Rattle.lsdb.specs.Entry.{Entry}
use Rattle.lsdb.specs.Database.{Lsps, version_in, changed}
use Rattle.lsdb.specs.Certificate.{Claim}
use Rattle.lsdb.proofs.LookupLemmas.{get-insert_same, get-insert_other, get-changed_same, get-changed_other, same_or_not}
use Rattle.flooding.specs.Own.{answered}
use Rattle.flooding.specs.Hearing.{Holding, is_beyond, is_answered, after_claim}
use Rattle.flooding.specs.Entries.{AllEntries}
use Rattle.flooding.proofs.Heard.{Rule}
use Rattle.flooding.proofs.Claimed.{heard_of, lacks, entered, db_after}

module _ (P : LspId → Entry → Type 0) where
  pub inserted : (db : Lsps) (id : LspId) (e : Entry) → AllEntries P db → P id e → AllEntries P (insert db id e)
  inserted db id e all new x f is = ⊎_elim
      (λ here.
      let same : e ≡ f = let found : Some e ≡ Some f = sym (get-insert_same db id e) ∙ ap (λ (y : LspId). get (insert db id e) y) (sym here) ∙ is in cc in
      subst (λ (y : LspId). P y f) (sym here) (subst (λ (g : Entry). P id g) same new))
      (λ elsewhere. all x f (sym (get-insert_other db id e x elsewhere) ∙ is))
      (same_or_not x id)

  all_put : (out : Bool) (db : Lsps) (id : LspId) (new : Option Entry) → AllEntries P db → ((e : Entry) → new ≡ Some e → P id e) → AllEntries P (entered out db id new)
  all_put true db id new all each = all
  all_put false db id None all each = all
  all_put false db id (Some e) all each = inserted db id e all (each e refl)

  heard_by_test : (rule : Rule) (up : PortSet) (c : Claim) (h : Holding) (r : Relation) (b : Bool) → relation c.version (version_in (get h.db c.id)) ≡ r
      → (b ≡ true → is_beyond r ≡ true)
      → (is_beyond (relation c.version (version_in (get h.db c.id))) ≡ true → P c.id (answered up h.own c.id (number_of c.version)))
      → ((e : Entry) → rule r (get h.db c.id) ≡ Some e → P c.id e)
      → (e : Entry) → (if b then Some (answered up h.own c.id (number_of c.version)) else rule r (get h.db c.id)) ≡ Some e → P c.id e
  heard_by_test rule up c h r true is beyond answer rules e found =
      let same : answered up h.own c.id (number_of c.version) ≡ e = cc in
      subst (λ (g : Entry). P c.id g) same (answer (ap is_beyond is ∙ beyond refl))
  heard_by_test rule up c h r false is beyond answer rules e found = rules e found

  -- after a claim, from what answers it and what its rule says
  pub all_after_claim : (rule : Rule) (up : PortSet) (c : Claim) (h : Holding) → AllEntries P h.db
      → (is_beyond (relation c.version (version_in (get h.db c.id))) ≡ true → P c.id (answered up h.own c.id (number_of c.version)))
      → ((e : Entry) → rule (relation c.version (version_in (get h.db c.id))) (get h.db c.id) ≡ Some e → P c.id e)
      → AllEntries P (after_claim rule up c h).db
  all_after_claim rule up c h all answer rules =
      let r = relation c.version (version_in (get h.db c.id)) in
      subst (λ (db : Lsps). AllEntries P db) (sym (db_after rule up c h))
      (all_put (lacks rule up c h) h.db c.id (heard_of rule up c h) all
      (heard_by_test rule up c h r (is_answered h.own c.id r) refl (λ b. (and_parts (same_system c.id.system h.own.system) (is_beyond r) b).1) answer rules))

  -- after a change of what is held under an id
  pub all_changed : (f : Entry → Entry) (db : Lsps) (id : LspId) → AllEntries P db → ((e : Entry) → get db id ≡ Some e → P id (f e)) → AllEntries P (changed f db id)
  all_changed f db id all each x g is = ⊎_elim
      (λ here. subst (λ (y : LspId). P y g) (sym here) (mapped (get db id) refl (sym (get-changed_same f db id) ∙ (ap (λ (y : LspId). get (changed f db id) y) (sym here) ∙ is))))
      (λ elsewhere. all x g (sym (get-changed_other f db id x elsewhere) ∙ is))
      (same_or_not x id)
    where
      mapped : (o : Option Entry) → get db id ≡ o → option_map f o ≡ Some g → P id g
      mapped None held found = absurd (cc)
      mapped (Some e) held found = let same : f e ≡ g = cc in subst (λ (y : Entry). P id y) same (each e held)
