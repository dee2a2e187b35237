-- What is declared stays sound when a service is declared.
use Rattle.std.proofs.Common.{◌≡◌, ◌≢◌, ◌<◌, ℕ, Bool, true, false, true≢false, ◌||◌, ◌==◌, List, [], ◌∷◌, ◌++◌, Some, None, cond, if◌then◌else◌, refl, sym, ap, ◌∙◌, subst, arith}
use Rattle.std.specs.Prelude.{nat_eq, is_none}
use Rattle.std.specs.List.{AllByRecursion, list_any}
use Rattle.std.proofs.lemmas.Bool.{eqb-true, eq-eqb, ne_eqb}
use Rattle.indexmap.specs.IndexMap.{insert_entry}
use Rattle.spb_types.specs.declared.service.Attachment.{Attachment}
use Rattle.spb_types.specs.declared.service.Isid.{Isid}
use Rattle.spb_types.specs.declared.service.Vid.{Vid}
use Rattle.spb_types.specs.declared.service.VidPlan.{VidPlan}
use Rattle.spb_types.specs.declared.limits.TheConstants.{GREATEST_ISID}
use Rattle.bridge_api.specs.Config.{ArePairwise, vids_of}
use Rattle.spb_world.specs.World.{World, Bridges, Services, vid_of_isid, IsService, IsAttachedIn, Sound}
use Rattle.spb_world.specs.Services.{is_new_isid, with_service}
use Rattle.spb_world.proofs.ListLemmas.{All-map, All-push}

-- ---- lists whose items stand in pairs

pub pairwise-push : {X : Type 0} (R : X → X → Type 0) (xs : List X) (y : X) → ArePairwise R xs → AllByRecursion (λ x. R x y) xs → ArePairwise R (xs ++ y ∷ [])
pairwise-push R [] y pairs new = (tt, tt)
pairwise-push R (x ∷ xs) y pairs new = (All-push (R x) xs y pairs.0 new.0, pairwise-push R xs y pairs.1 new.1)

-- ---- looking services up

some-is : {X : Type 0} (x y : X) → Some x ≡ Some y → x ≡ y
some-is x y h = cc

-- what holds of each service holds of one that is found
pub service_found : (P : Isid × Vid → Type 0) (services : Services) (isid : ℕ) (vid : Vid) → AllByRecursion P services → vid_of_isid services isid ≡ Some vid → (i : Isid) × (i.value ≡ isid) × P (i, vid)
service_found P [] isid vid all found = absurd cc
service_found P ((i, v) ∷ services) isid vid all found = at (isid == i.value) refl found (service_found P services isid vid all.1)
  where
    at : (b : Bool) → (isid == i.value) ≡ b → cond b (Some v) (vid_of_isid services isid) ≡ Some vid → (vid_of_isid services isid ≡ Some vid → (j : Isid) × (j.value ≡ isid) × P (j, vid)) → (j : Isid) × (j.value ≡ isid) × P (j, vid)
    at true here is rest = (i, sym (eqb-true isid i.value here), subst (λ x. P (i, x)) (some-is v vid is) all.0)
    at false other is rest = rest is

pub found-push : (services : Services) (new : Isid × Vid) (isid : ℕ) (vid : Vid) → vid_of_isid services isid ≡ Some vid → vid_of_isid (services ++ new ∷ []) isid ≡ Some vid
found-push [] new isid vid found = absurd cc
found-push ((i, v) ∷ services) new isid vid found = at (isid == i.value) found (found-push services new isid vid)
  where
    at : (b : Bool) → cond b (Some v) (vid_of_isid services isid) ≡ Some vid → (vid_of_isid services isid ≡ Some vid → vid_of_isid (services ++ new ∷ []) isid ≡ Some vid) → cond b (Some v) (vid_of_isid (services ++ new ∷ []) isid) ≡ Some vid
    at true is rest = is
    at false is rest = rest is

pub new_isid : (services : Services) (isid : ℕ) → is_new_isid services isid ≡ true → AllByRecursion (λ s. s.0.value ≢ isid) services
new_isid [] isid new = tt
new_isid ((i, v) ∷ services) isid new = at (isid == i.value) refl new (new_isid services isid)
  where
    at : (b : Bool) → (isid == i.value) ≡ b → is_none (cond b (Some v) (vid_of_isid services isid)) ≡ true → (is_none (vid_of_isid services isid) ≡ true → AllByRecursion (λ s. s.0.value ≢ isid) services) → AllByRecursion (λ s. s.0.value ≢ isid) ((i, v) ∷ services)
    at true here none rest = absurd (true≢false (sym none))
    at false other none rest = (λ e. true≢false (sym (eq-eqb isid i.value (sym e)) ∙ other), rest none)

-- past the greatest I-SID no service is declared
pub past_isids : (vids : List VidPlan) (services : Services) (isid : ℕ) → AllByRecursion (IsService vids) services → GREATEST_ISID < isid → vid_of_isid services isid ≡ None
past_isids vids [] isid all past = refl
past_isids vids ((i, v) ∷ services) isid all past =
    ap (λ b. cond b (Some v) (vid_of_isid services isid)) (ne_eqb isid i.value (λ e. absurd (omega (arith, past, all.0.isid_high, e)))) ∙ past_isids vids services isid all.1 past

-- a service of a new I-SID goes last
pub insert_entry-new_isid : (services : Services) (s : Isid × Vid) → is_new_isid services s.0.value ≡ true → insert_entry (λ x y. x.value == y.value) services s.0 s.1 ≡ services ++ s ∷ []
insert_entry-new_isid [] s new = refl
insert_entry-new_isid ((i, v) ∷ services) s new = at (s.0.value == i.value) new (insert_entry-new_isid services s)
  where
    at : (b : Bool) → is_none (cond b (Some v) (vid_of_isid services s.0.value)) ≡ true → (is_none (vid_of_isid services s.0.value) ≡ true → insert_entry (λ x y. x.value == y.value) services s.0 s.1 ≡ services ++ s ∷ []) → (if b then (i, s.1) ∷ services else (i, v) ∷ insert_entry (λ x y. x.value == y.value) services s.0 s.1) ≡ (i, v) ∷ (services ++ s ∷ [])
    at true none rest = absurd (true≢false (sym none))
    at false none rest = ap (λ l. (i, v) ∷ l) (rest none)

-- a VID more
any-push : (n : ℕ) (ps : List VidPlan) (p : VidPlan) → list_any (nat_eq n) (vids_of ps) ≡ true → list_any (nat_eq n) (vids_of (ps ++ p ∷ [])) ≡ true
any-push n [] p there = absurd (true≢false (sym there))
any-push n (q ∷ ps) p there = at (nat_eq n q.vid.value) there (any-push n ps p)
  where
    at : (b : Bool) → (b || list_any (nat_eq n) (vids_of ps)) ≡ true → (list_any (nat_eq n) (vids_of ps) ≡ true → list_any (nat_eq n) (vids_of (ps ++ p ∷ [])) ≡ true) → (b || list_any (nat_eq n) (vids_of (ps ++ p ∷ []))) ≡ true
    at true is rest = refl
    at false is rest = rest is

pub services-with_vid : (vids : List VidPlan) (p : VidPlan) (services : Services) → AllByRecursion (IsService vids) services → AllByRecursion (IsService (vids ++ p ∷ [])) services
services-with_vid vids p services all = All-map (IsService vids) (IsService (vids ++ p ∷ [])) services (λ s is. record {
  isid_low = is.isid_low;
  isid_high = is.isid_high;
  vid = any-push s.1.value vids p is.vid;
}) all

-- ---- a service more

-- what is attached stays in its service
attached_in-push : (bridges : Bridges) (services : Services) (new : Isid × Vid) (x : ℕ × Attachment) → IsAttachedIn bridges services x → IsAttachedIn bridges (services ++ new ∷ []) x
attached_in-push bridges services new x is = record {
  bridge = is.bridge;
  port_low = is.port_low;
  port_high = is.port_high;
  service = found-push services new x.1.isid.value x.1.vid is.service;
}

-- what is asked of a service, so that it can be declared
pub record IsNewService (w : World) (s : Isid × Vid) : Type 0 where
  pub service : IsService w.vids s
  pub apart : AllByRecursion (λ t. t.0.value ≢ s.0.value) w.services

pub Sound-with_service : (w : World) (s : Isid × Vid) → Sound w → IsNewService w s → Sound (with_service w s)
unfolding with_service
Sound-with_service w s sound new = record {
  few = sound.few;
  ports = sound.ports;
  systems = sound.systems;
  links = sound.links;
  links_apart = sound.links_apart;
  plans = sound.plans;
  few_vids = sound.few_vids;
  each_vid = sound.each_vid;
  services = All-push (IsService w.vids) w.services s sound.services new.service;
  services_apart = pairwise-push (λ x y. x.0.value ≢ y.0.value) w.services s sound.services_apart new.apart;
  attached = All-map (IsAttachedIn w.bridges w.services) (IsAttachedIn w.bridges (w.services ++ s ∷ [])) w.attached (attached_in-push w.bridges w.services s) sound.attached;
  attached_apart = sound.attached_apart;
}
