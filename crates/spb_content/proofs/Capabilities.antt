-- What capabilities say, one after another.
use Rattle.std.proofs.Common.{◌≡◌, ℕ, true, false, true≢false, List, [], ◌∷◌, ◌++◌, map, flat_map, Option, Some, is_some, refl, sym, ap, ◌∙◌}
use Rattle.std.proofs.lemmas.List.{append-nil}
use Rattle.std.proofs.lemmas.List.Concat.{flat_map-append}
use Rattle.spb_types.specs.declared.address.Mac.{Mac}
use Rattle.spb_types.specs.declared.service.Vid.{Vid}
use Rattle.spb_types.specs.declared.service.VidPlan.{VidPlan}
use Rattle.spb_types.specs.declared.service.SourceId.{SourceId}
use Rattle.spb_tlvs.specs.declared.capability.Capability.{Capability}
use Rattle.spb_tlvs.specs.declared.capability.Capability.TheVariants as said
use Rattle.spb_tlvs.specs.declared.capability.Service.{Service}
use Rattle.spb_content.specs.declared.content.Inst.{Inst}
use Rattle.spb_content.specs.Content.{first_inst, services_of}

first_behind : (cs ds : List Capability) → is_some (first_inst cs) ≡ false → first_inst (cs ++ ds) ≡ first_inst ds
first_behind [] ds h = refl
first_behind (said.Inst p s t ∷ cs) ds h = absurd (true≢false h)
first_behind (said.Services m v ss ∷ cs) ds h = first_behind cs ds h

first_before : (cs ds : List Capability) → is_some (first_inst cs) ≡ true → first_inst (cs ++ ds) ≡ first_inst cs
first_before [] ds h = absurd (true≢false (sym h))
first_before (said.Inst p s t ∷ cs) ds h = refl
first_before (said.Services m v ss ∷ cs) ds h = first_before cs ds h

first_unless : (cs : List Capability) (m : Mac) (v : Vid) (ss : List Service) → first_inst (cs ++ said.Services m v ss ∷ []) ≡ first_inst cs
first_unless [] m v ss = refl
first_unless (said.Inst p s t ∷ cs) m v ss = refl
first_unless (said.Services n w rs ∷ cs) m v ss = first_unless cs m v ss

-- an SPB-Inst behind others: it is the first one, or isn't
pub first_new : (cs : List Capability) (c : Capability) (o : Option Inst) (p : ℕ) (s : SourceId) (t : List VidPlan) → c ≡ said.Inst p s t → o ≡ first_inst cs → is_some o ≡ false → Some (record { priority = p; source = s; trees = t }) ≡ first_inst (cs ++ c ∷ [])
first_new cs c o p s t is so_far none =
    sym (first_behind cs (c ∷ []) (ap is_some (sym so_far) ∙ none) ∙ ap (λ d. first_inst (d ∷ [])) is)

pub first_kept : (cs : List Capability) (c : Capability) (o : Option Inst) → o ≡ first_inst cs → is_some o ≡ true → o ≡ first_inst (cs ++ c ∷ [])
first_kept cs c o so_far some = so_far ∙ sym (first_before cs (c ∷ []) (ap is_some (sym so_far) ∙ some))

-- services behind others
pub first_other : (cs : List Capability) (c : Capability) (o : Option Inst) (m : Mac) (v : Vid) (ss : List Service) → c ≡ said.Services m v ss → o ≡ first_inst cs → o ≡ first_inst (cs ++ c ∷ [])
first_other cs c o m v ss is so_far = so_far ∙ sym (ap (λ d. first_inst (cs ++ d ∷ [])) is ∙ first_unless cs m v ss)

services_behind : (cs : List Capability) (c : Capability) → flat_map services_of (cs ++ c ∷ []) ≡ flat_map services_of cs ++ services_of c
services_behind cs c = flat_map-append services_of cs (c ∷ []) ∙ ap (λ ss. flat_map services_of cs ++ ss) (append-nil (services_of c))

pub services_kept : (cs : List Capability) (c : Capability) (ss : List (Mac × Vid × Service)) (p : ℕ) (s : SourceId) (t : List VidPlan) → c ≡ said.Inst p s t → ss ≡ flat_map services_of cs → ss ≡ flat_map services_of (cs ++ c ∷ [])
services_kept cs c ss p s t is so_far =
    so_far ∙ sym (services_behind cs c ∙ ap (λ d. flat_map services_of cs ++ services_of d) is ∙ append-nil (flat_map services_of cs))

pub services_more : (cs : List Capability) (c : Capability) (ss new : List (Mac × Vid × Service)) (m : Mac) (v : Vid) (rs : List Service) → c ≡ said.Services m v rs → ss ≡ flat_map services_of cs → new ≡ ss ++ map (λ s. (m, v, s)) rs → new ≡ flat_map services_of (cs ++ c ∷ [])
services_more cs c ss new m v rs is so_far more =
    more ∙ ap (λ qs. qs ++ map (λ s. (m, v, s)) rs) so_far ∙ sym (services_behind cs c ∙ ap (λ d. flat_map services_of cs ++ services_of d) is)
