-- What a bridge has to say in its own LSPs, number by number.
use Rattle.std.proofs.Common.{◌≡◌, inl, inr, ℕ, zero, suc, ◌+◌, ◌≤◌, ◌<◌, List, ◌∷◌, map, refl, sym, ap, ◌∙◌, Option, Some, None, arith}
use Rattle.std.specs.Prelude.{slice_get}
use Rattle.std.specs.Option.{option_map, option_and_then}
use Rattle.std.proofs.lemmas.Bool.{cases_lt}
use Rattle.spb_tlvs.specs.declared.neighbours.Neighbour.{Neighbour}
use Rattle.lsdb.specs.Database.{Lsps}
use Rattle.flooding.specs.Own.{own_numbers}
use Rattle.flooding.specs.Hearing.{Holding}
use Rattle.flooding.proofs.OwnNumbers.{some_number}
use Rattle.spb_content.specs.declared.local.Local.{Local}
use Rattle.spb_content.specs.Local.{content_bytes}
use Rattle.spb_content.specs.Fragments.{part_of, fragment, fragments_from, bodies_saying}
use Rattle.spb_content.proofs.Fitting.{none_said}
use Rattle.spb_content.proofs.Parts.{fragments_are_first}
use Rattle.spb_types.specs.declared.level.TheConstants.{LEVEL_1}
use Rattle.bridge_api.specs.declared.port.BridgePort.{BridgePort}
use Rattle.bridge_api.specs.declared.drops.Drops.{Drops}
use Rattle.bridge_api.specs.View.{BridgeView, with_drops}
use Rattle.bridge_api.specs.Own.{neighbours_from, member_of, local_of, bodies_of, body_at, with_holding}

-- ---- the body of a number is its fragment behind the flags

-- a fragment behind the flags
abbrev pub in_lsp : Option (List ℕ) → Option (List ℕ)
in_lsp fragment = option_map (λ tlvs. LEVEL_1 ∷ tlvs) fragment

-- the body at a place
abbrev said_at : List (Option (List ℕ)) → ℕ → Option (List ℕ)
said_at bodies j = option_and_then (λ (b : Option (List ℕ)). b) (slice_get bodies j)

-- those of the fragments from number k on, where those from number k + 1 on are so
from : (l : Local) (n k j : ℕ) (o : Option (List ℕ)) → fragment l k ≡ o
    → ((i : ℕ) → i < n → said_at (bodies_saying LEVEL_1 (fragments_from l n (k + 1))) i ≡ in_lsp (fragment l (k + 1 + i)))
    → j < suc n → said_at (bodies_saying LEVEL_1 (o ∷ fragments_from l n (k + 1))) j ≡ in_lsp (fragment l (k + j))
from l n k j None is rest low =
    ap (λ bs. said_at bs j) (none_said l LEVEL_1 k n (k + 1) (omega arith) is)
    ∙ ap in_lsp (sym (fragments_are_first l k (k + j) (omega arith) is))
from l n k zero (Some tlvs) is rest low = let same : k ≡ k + zero = omega arith in ap in_lsp (sym is ∙ ap (λ i. fragment l i) same)
from l n k (suc j) (Some tlvs) is rest low =
    let same : k + 1 + j ≡ k + suc j = omega arith in rest j (omega (arith, low)) ∙ ap (λ i. in_lsp (fragment l i)) same

there : (l : Local) (n k j : ℕ) → j < n → said_at (bodies_saying LEVEL_1 (fragments_from l n k)) j ≡ in_lsp (fragment l (k + j))
there l zero k j low = absurd (omega (arith, low))
there l (suc n) k j low = from l n k j (fragment l k) refl (λ i below. there l n (k + 1) i below) low

no_more : (l : Local) (n k j : ℕ) (o : Option (List ℕ)) → ((i : ℕ) → n ≤ i → said_at (bodies_saying LEVEL_1 (fragments_from l n (k + 1))) i ≡ None)
    → suc n ≤ j → said_at (bodies_saying LEVEL_1 (o ∷ fragments_from l n (k + 1))) j ≡ None
no_more l n k j None rest high = rest j (omega (arith, high))
no_more l n k zero (Some tlvs) rest high = absurd (omega (arith, high))
no_more l n k (suc j) (Some tlvs) rest high = rest j (omega (arith, high))

not_there : (l : Local) (n k j : ℕ) → n ≤ j → said_at (bodies_saying LEVEL_1 (fragments_from l n k)) j ≡ None
not_there l zero k j high = refl
not_there l (suc n) k j high = no_more l n k j (fragment l k) (λ i past. not_there l n (k + 1) i past) high

pub body_at_is : (v : BridgeView) (number : ℕ) → number < own_numbers → body_at v number ≡ in_lsp (fragment (local_of v) number)
unfolding bodies_of
body_at_is v number below =
    let same : 0 + number ≡ number = omega arith in
    there (local_of v) own_numbers 0 number below ∙ ap (λ i. in_lsp (fragment (local_of v) i)) same

pub no_body : (v : BridgeView) (number : ℕ) → own_numbers ≤ number → body_at v number ≡ None
unfolding bodies_of
no_body v number past = not_there (local_of v) own_numbers 0 number past

-- a body that the bridge has for a number
pub record IsFragment (v : BridgeView) (number : ℕ) (body : List ℕ) : Type 0 where
  pub below : number < own_numbers
  pub tlvs : List ℕ
  pub exists : fragment (local_of v) number ≡ Some tlvs
  pub is : body ≡ LEVEL_1 ∷ tlvs

fragment_of : (v : BridgeView) (number : ℕ) (body : List ℕ) (o : Option (List ℕ)) → number < own_numbers → fragment (local_of v) number ≡ o → in_lsp o ≡ Some body → IsFragment v number body
fragment_of v number body None below is same = absurd cc
fragment_of v number body (Some tlvs) below is same = record { below = below; tlvs = tlvs; exists = is; is = cc }

pub is_fragment : (v : BridgeView) (number : ℕ) (body : List ℕ) → body_at v number ≡ Some body → IsFragment v number body
is_fragment v number body is =
    elim (cases_lt number own_numbers) [
      | inl below ↦ fragment_of v number body (fragment (local_of v) number) below refl (sym (body_at_is v number below) ∙ is)
      | inr past ↦ absurd (let none : None ≡ Some body = sym (no_body v number past) ∙ is in cc)
    ]

-- number 0 always has one
abbrev pub first_text : BridgeView → List ℕ
first_text v = LEVEL_1 ∷ content_bytes (part_of 0 (local_of v))

pub first_body : (v : BridgeView) → body_at v 0 ≡ Some (first_text v)
unfolding fragment
first_body v = body_at_is v 0 (omega (arith, some_number))

-- ---- what the bridge has to say

-- it isn't changed by what is held
pub held_bodies : (h : Holding) (v : BridgeView) → bodies_of (with_holding h v) ≡ bodies_of v
unfolding bodies_of
held_bodies h v = refl

-- and doesn't read the counts
pub counted_bodies : (drops : Drops) (v : BridgeView) → bodies_of (with_drops drops v) ≡ bodies_of v
unfolding bodies_of
counted_bodies drops v = refl

-- what it says with these neighbours
abbrev pub bodies_with : BridgeView → List Neighbour → List (Option (List ℕ))
bodies_with v list =
    bodies_saying LEVEL_1 (fragments_from (record { config = record { id = v.id; source = v.source; vids = v.vids }; neighbours = list; attached = map (member_of v.id.system) v.attached }) own_numbers 0)

pub bodies_say : (v : BridgeView) → bodies_of v ≡ bodies_with v (neighbours_from 1 v.ports)
unfolding bodies_of
bodies_say v = refl

-- nor is it changed by ports with the same neighbours
pub moved_bodies : (ports : List BridgePort) (db : Lsps) (v : BridgeView) → neighbours_from 1 ports ≡ neighbours_from 1 v.ports → bodies_of (record v { ports = ports; database = db }) ≡ bodies_of v
unfolding bodies_of
moved_bodies ports db v same = ap (bodies_with v) same

-- the same bodies are the same under each number
pub same_at : (number : ℕ) (bs cs : List (Option (List ℕ))) → bs ≡ cs → option_and_then (λ (b : Option (List ℕ)). b) (slice_get bs number) ≡ option_and_then (λ (b : Option (List ℕ)). b) (slice_get cs number)
same_at number bs cs same = ap (λ (list : List (Option (List ℕ))). option_and_then (λ (b : Option (List ℕ)). b) (slice_get list number)) same
