-- The laws of capabilities.
use Rattle.std.proofs.Common.{◌≡◌, ℕ, ◌+◌, ◌-◌, ◌*◌, ◌/◌, ◌%◌, ◌^◌, ◌<◌, Bool, true, false, cond, eqb, leb, ltb, List, [], ◌∷◌, length, map, Option, Some, Result, Ok, refl, sym, ap, ◌∙◌, arith}
use Rattle.std.specs.List.{filter_map, list_any, cons_option, AllByRecursion}
use Rattle.std.proofs.lemmas.List.Elements.{recursion_from_All}
use Rattle.std.proofs.lemmas.Bool.{or_from, le-leb, le-ltb, eq-eqb, ne_eqb}
use Rattle.spb_types.specs.declared.address.Mac.{Mac}
use Rattle.spb_types.specs.declared.service.Vid.{Vid}
use Rattle.spb_types.specs.declared.service.VidPlan.{VidPlan}
use Rattle.spb_types.specs.declared.service.SourceId.{SourceId}
use Rattle.spb_tlvs.specs.declared.error.TlvError.{TlvError}
use Rattle.spb_tlvs.specs.declared.capability.Capability.{Capability}
use Rattle.spb_tlvs.specs.declared.capability.Capability.TheVariants.{Inst, Services}
use Rattle.spb_tlvs.specs.declared.capability.Service.{Service}
use Rattle.spb_tlvs.specs.Capability as spec
use Rattle.spb_tlvs.specs.RoundTrip.{IsMac, CapabilityAgain, CapabilitySame}
use Rattle.spb_tlvs.proofs.Numbers.{two_again, three_again, four_again, six, chunks_of_joined, everywhere}
use Rattle.spb_tlvs.proofs.TlvLaws.{tlv_alone, tlv_alone_whole}
use Rattle.spb_tlvs.proofs.Written.{trees_len, services_len}
use Rattle.spb_types.specs.declared.limits.TheConstants.{GREATEST_VID, SOURCE_IDS}

-- ---- trees

record IsRead (p : VidPlan) : Type 0 where
  known : spec.is_known (spec.tree_bytes p) ≡ true
  vid : spec.base_vid_of (spec.tree_bytes p) ≡ p.vid.value
  inside : spec.is_tree_outside (spec.tree_bytes p) ≡ false
  plan : spec.plan_in (spec.tree_bytes p) ≡ Some p

is_read : (p : VidPlan) → spec.IsTree p → IsRead p
is_read p h =
    let low : leb 0x0080c201 (0x0080c200 + p.ect) ≡ true = le-leb _ _ (omega (arith, h.ect_low)) in
    let high : leb (0x0080c200 + p.ect) 0x0080c210 ≡ true = le-leb _ _ (omega (arith, h.ect_high)) in
    let vid : spec.base_vid_of (spec.tree_bytes p) ≡ p.vid.value = rw (three_again (p.vid.value * 4096) (omega (arith, h.vid_high))) (omega arith) in
    let known : spec.is_known (spec.tree_bytes p) ≡ true = rw (low, high) refl in
    let number : 0x0080c200 + p.ect - 0x0080c200 ≡ p.ect = omega arith in
    record {
      known = known;
      vid = vid;
      inside = rw (known, vid, le-leb 1 p.vid.value h.vid_low, le-leb p.vid.value GREATEST_VID h.vid_high) refl;
      plan = rw (known, vid, number) refl;
    }

none_outside : (ps : List VidPlan) → AllByRecursion spec.IsTree ps → list_any spec.is_tree_outside (map spec.tree_bytes ps) ≡ false
none_outside [] h = refl
none_outside (p ∷ ps) h = or_from _ _ (is_read p h.0).inside (none_outside ps h.1)

each_plan : (ps : List VidPlan) → AllByRecursion spec.IsTree ps → filter_map spec.plan_in (map spec.tree_bytes ps) ≡ ps
each_plan [] h = refl
each_plan (p ∷ ps) h = ap (λ (o : Option VidPlan). cons_option o (filter_map spec.plan_in (map spec.tree_bytes ps))) (is_read p h.0).plan ∙ ap (λ (qs : List VidPlan). p ∷ qs) (each_plan ps h.1)

inst_again : (priority : ℕ) (source : SourceId) (trees : List VidPlan) → spec.IsInst source trees → priority < 2 ^ 16 → spec.capabilities_of (spec.capability_value (Inst priority source trees)) ≡ Ok (Inst priority source trees ∷ [])
inst_again priority source trees h fits =
    let v : List ℕ = spec.inst_value priority source trees in
    let each = recursion_from_All spec.IsTree trees h.each in
    let len = trees_len trees in
    let long : ltb (length (spec.capability_value (Inst priority source trees))) 2 ≡ false = le-ltb _ _ (omega arith) in
    let room : leb 19 (length v) ≡ true = le-leb _ _ (omega arith) in
    let enough : leb (19 + 8 * length trees) (length v) ≡ true = le-leb _ _ (omega arith) in
    let chunks = chunks_of_joined spec.tree_bytes 8 trees (everywhere (λ (p : VidPlan). length (spec.tree_bytes p) ≡ 8) trees (λ p. refl)) in
    let small : source.value % SOURCE_IDS ≡ source.value = omega (arith, h.source_high) in
    rw (long, tlv_alone 1 v, tlv_alone_whole 1 v, room, enough, chunks, none_outside trees each, two_again priority fits, four_again source.value (omega (arith, h.source_high)), small, each_plan trees each) refl

-- ---- services

flags_again : (t r : Bool) → (leb 128 (cond t 128 0 + cond r 64 0) ≡ t) × (leb 64 ((cond t 128 0 + cond r 64 0) % 128) ≡ r)
flags_again true true = (refl, refl)
flags_again true false = (refl, refl)
flags_again false true = (refl, refl)
flags_again false false = (refl, refl)

service_again : (s : Service) → spec.IsService s → spec.service_of (spec.service_bytes s) ≡ Some s
service_again s h =
    let flags = flags_again s.transmit s.receive in
    let some : eqb s.isid.value 0 ≡ false = ne_eqb _ _ (λ e. omega (arith, h.low, e)) in
    rw (three_again s.isid.value (omega (arith, h.high)), some, flags.0, flags.1) refl

each_service : (ss : List Service) → AllByRecursion spec.IsService ss → filter_map spec.service_of (map spec.service_bytes ss) ≡ ss
each_service [] h = refl
each_service (s ∷ ss) h = ap (λ (o : Option Service). cons_option o (filter_map spec.service_of (map spec.service_bytes ss))) (service_again s h.0) ∙ ap (λ (rs : List Service). s ∷ rs) (each_service ss h.1)

services_again : (mac : Mac) (vid : Vid) (services : List Service) → spec.IsServices vid services → IsMac mac → spec.capabilities_of (spec.capability_value (Services mac vid services)) ≡ Ok (Services mac vid services ∷ [])
services_again mac vid services h is_mac =
    six (λ (m : List ℕ). spec.capabilities_of (spec.capability_value (Services (record { bytes = m }) vid services)) ≡ Ok (Services (record { bytes = m }) vid services ∷ [])) mac.bytes is_mac (λ a b c d e f.
    let own : Mac = record { bytes = a ∷ b ∷ c ∷ d ∷ e ∷ f ∷ [] } in
    let v : List ℕ = spec.services_value own vid services in
    let each = recursion_from_All spec.IsService services h.each in
    let len = services_len services in
    let long : ltb (length (spec.capability_value (Services own vid services))) 2 ≡ false = le-ltb _ _ (omega arith) in
    let room : leb 8 (length v) ≡ true = le-leb _ _ (omega arith) in
    let even : eqb ((length v - 8) % 4) 0 ≡ true = eq-eqb _ _ (omega arith) in
    let count : (length v - 8) / 4 ≡ length services = omega arith in
    let chunks = chunks_of_joined spec.service_bytes 4 services (everywhere (λ (s : Service). length (spec.service_bytes s) ≡ 4) services (λ s. refl)) in
    let small : vid.value % 4096 ≡ vid.value = omega (arith, h.high) in
    let low : leb 1 vid.value ≡ true = le-leb _ _ h.low in
    let high : leb vid.value GREATEST_VID ≡ true = le-leb _ _ h.high in
    rw (long, tlv_alone 3 v, tlv_alone_whole 3 v, room, even, two_again vid.value (omega (arith, h.high)), small, low, high, count, chunks, each_service services each) refl)

pub capability_again : CapabilityAgain
capability_again (Inst priority source trees) h held = inst_again priority source trees h held
capability_again (Services mac vid services) h held = services_again mac vid services h held

abbrev done : {A : Type 0} → A → Result A TlvError
done x = Ok x

same_done : (c d : Capability) → done (c ∷ []) ≡ done (d ∷ []) → c ≡ d
same_done c d e = cc

pub capability_same : CapabilitySame
capability_same value c d h held is read =
    let again : done (c ∷ []) ≡ done (d ∷ []) = sym (capability_again c h held) ∙ ap spec.capabilities_of (sym is) ∙ read in
    rw (← same_done c d again) (sym is)
