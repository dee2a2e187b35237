-- Of its own LSPs number 0 lists each neighbour of a bridge at a port of its own, and the others list none.
use Rattle.std.proofs.Common.{◌≡◌, ◌≢◌, inl, inr, ◌≤◌, ◌<◌, ◌+◌, ℕ, zero, suc, Bool, true, false, List, [], ◌∷◌, length, refl, sym, ap, ◌∙◌, subst, Option, Some, None, arith}
use Rattle.std.specs.Prelude.{◌&&◌, is_some, if◌then◌else◌}
use Rattle.std.specs.Option.{option_map}
use Rattle.std.specs.List.{AllByRecursion}
use Rattle.spb_types.specs.declared.address.SystemId.{SystemId}
use Rattle.spb_types.specs.declared.address.LspId.{LspId}
use Rattle.spb_tlvs.specs.declared.neighbours.Neighbour.{Neighbour}
use Rattle.spb_tlvs.specs.Piece.{pieces, pieces_within}
use Rattle.lsdb.specs.Entry.{Entry}
use Rattle.flooding.specs.declared.own.Own.{Own}
use Rattle.flooding.specs.Own.{own_numbers, body_of_number, tlvs_of_body, body_in}
use Rattle.flooding.specs.Laws.{IsOwnBody, stays, renews, ends}
use Rattle.spb_content.specs.declared.content.Content.{Content}
use Rattle.spb_content.specs.Content.{content_in, neighbours_in}
use Rattle.spb_content.specs.declared.local.Local.{Local}
use Rattle.spb_content.specs.Fragments.{part_of, fragment}
use Rattle.spb_content.specs.Graph.{Contents, said_of, ArePortsApart, HasPorts}
use Rattle.spb_content.specs.Laws.{HasFields}
use Rattle.spb_content.specs.Local.{IsLocal, content_bytes}
use Rattle.spb_content.proofs.Again.{read_again}
use Rattle.spb_content.proofs.Parts.{is_part, part_fields}
use Rattle.spb_content.proofs.Told.{others_say_services}
use Rattle.bridge_api.specs.declared.port.BridgePort.{BridgePort}
use Rattle.bridge_api.specs.View.{BridgeView, is_port_up}
use Rattle.bridge_api.specs.Own.{neighbour_in, neighbours_from, local_of, body_at, own_entry, IsOwnLspCurrent}
use Rattle.bridge_api.specs.Laws.{CanSay}
use Rattle.bridge_api.proofs.Bodies.{IsFragment, is_fragment}

-- a body that lists each neighbour at a port of its own
abbrev pub HasApart : List ℕ → Type 0
HasApart body = HasPorts (content_in (tlvs_of_body body))

-- the body of an own number: number 0 lists each neighbour so, and the others list none
abbrev pub HasText : ℕ → List ℕ → Type 0
HasText zero body = HasApart body
HasText (suc number) body = neighbours_in (tlvs_of_body body) ≡ []

-- ---- a body without TLVs

none_listed : neighbours_in [] ≡ []
unfolding pieces pieces_within
none_listed = refl

neighbours_are : (tlvs : List ℕ) → (content_in tlvs).neighbours ≡ neighbours_in tlvs
unfolding content_in
neighbours_are tlvs = refl

unlisted : (c : Content) → c.neighbours ≡ [] → HasPorts c
unlisted c none = record {
  each = subst (λ (ns : List Neighbour). AllByRecursion (λ n. (1 ≤ n.port) × (n.port ≤ 32)) ns) (sym none) tt;
  apart = subst ArePortsApart (sym none) tt;
}

pub empty_apart : HasApart []
empty_apart = unlisted (content_in []) (neighbours_are [] ∙ none_listed)

pub empty_text : (number : ℕ) → HasText number []
empty_text zero = empty_apart
empty_text (suc number) = none_listed

pub dead_text : (number : ℕ) → HasText number (1 ∷ [])
dead_text zero = empty_apart
dead_text (suc number) = none_listed

-- ---- the body that a bridge writes

-- a neighbour at a port of these numbers
record IsBetween (low high : ℕ) (n : Neighbour) : Type 0 where
  from : low ≤ n.port
  to : n.port < high

wider_all : (low high : ℕ) (ns : List Neighbour) → AllByRecursion (IsBetween (low + 1) high) ns → AllByRecursion (IsBetween low high) ns
wider_all low high [] all = tt
wider_all low high (n ∷ ns) all = let first = all.0 in (record { from = omega (arith, first.from); to = first.to }, wider_all low high ns all.1)

listed_at : (up : Bool) (p high : ℕ) (port : BridgePort) (ns : List Neighbour) → p < high → AllByRecursion (IsBetween (p + 1) high) ns → AllByRecursion (IsBetween p high) (if up then neighbour_in p port ∷ ns else ns)
listed_at true p high port ns within rest = (record { from = omega arith; to = within }, wider_all p high ns rest)
listed_at false p high port ns within rest = wider_all p high ns rest

listed_from : (p high : ℕ) (ports : List BridgePort) → p + length ports ≤ high → AllByRecursion (IsBetween p high) (neighbours_from p ports)
listed_from p high [] few = tt
listed_from p high (port ∷ ports) few = listed_at (is_port_up port) p high port (neighbours_from (p + 1) ports) (omega (arith, few)) (listed_from (p + 1) high ports (omega (arith, few)))

others : (p high : ℕ) (n : Neighbour) (ns : List Neighbour) → n.port ≡ p → AllByRecursion (IsBetween (p + 1) high) ns → AllByRecursion (λ m. n.port ≢ m.port) ns
others p high n [] is all = tt
others p high n (m ∷ ns) is all = let first = all.0 in ((λ same. absurd (omega (arith, is, same, first.from))), others p high n ns is all.1)

apart_at : (up : Bool) (p high : ℕ) (port : BridgePort) (ns : List Neighbour) → AllByRecursion (IsBetween (p + 1) high) ns → ArePortsApart ns → ArePortsApart (if up then neighbour_in p port ∷ ns else ns)
apart_at true p high port ns all rest = (others p high (neighbour_in p port) ns refl all, rest)
apart_at false p high port ns all rest = rest

apart_from : (p high : ℕ) (ports : List BridgePort) → p + length ports ≤ high → ArePortsApart (neighbours_from p ports)
apart_from p high [] few = tt
apart_from p high (port ∷ ports) few =
    apart_at (is_port_up port) p high port (neighbours_from (p + 1) ports) (listed_from (p + 1) high ports (omega (arith, few))) (apart_from (p + 1) high ports (omega (arith, few)))

in_range : (ns : List Neighbour) → AllByRecursion (IsBetween 1 33) ns → AllByRecursion (λ n. (1 ≤ n.port) × (n.port ≤ 32)) ns
in_range [] all = tt
in_range (n ∷ ns) all = let first = all.0 in ((first.from, omega (arith, first.to)), in_range ns all.1)

-- what is said of the services of number 0 lists the neighbours of the bridge
first_said : (l : Local) → IsLocal l → HasFields l → (content_in (content_bytes (part_of 0 l))).neighbours ≡ l.neighbours
first_said l is fields = ap (λ (c : Content). c.neighbours) (read_again (part_of 0 l) (is_part 0 l is) (part_fields 0 l fields))

first_apart : (v : BridgeView) → length v.ports ≤ 32 → CanSay v → HasPorts (content_in (content_bytes (part_of 0 (local_of v))))
first_apart v few can =
    let said : (content_in (content_bytes (part_of 0 (local_of v)))).neighbours ≡ neighbours_from 1 v.ports = first_said (local_of v) can.local can.fields in
    record {
      each = subst (λ (ns : List Neighbour). AllByRecursion (λ n. (1 ≤ n.port) × (n.port ≤ 32)) ns) (sym said) (in_range (neighbours_from 1 v.ports) (listed_from 1 33 v.ports (omega (arith, few))));
      apart = subst ArePortsApart (sym said) (apart_from 1 33 v.ports (omega (arith, few)));
    }

others_list_none : (l : Local) (k : ℕ) (tlvs : List ℕ) → IsLocal l → HasFields l → fragment l (suc k) ≡ Some tlvs → neighbours_in tlvs ≡ []
others_list_none l k tlvs is fields exists = sym (neighbours_are tlvs) ∙ ap (λ (c : Content). c.neighbours) (others_say_services l k tlvs is fields exists)

text_of : (v : BridgeView) (number : ℕ) (tlvs : List ℕ) → length v.ports ≤ 32 → CanSay v → fragment (local_of v) number ≡ Some tlvs → HasText number (1 ∷ tlvs)
unfolding fragment
text_of v zero tlvs few can exists = let same : content_bytes (part_of 0 (local_of v)) ≡ tlvs = cc in subst (λ (bytes : List ℕ). HasPorts (content_in bytes)) same (first_apart v few can)
text_of v (suc k) tlvs few can exists = others_list_none (local_of v) k tlvs can.local can.fields exists

pub bodies_text : (v : BridgeView) → length v.ports ≤ 32 → CanSay v → (number : ℕ) (body : List ℕ) → body_at v number ≡ Some body → HasText number body
bodies_text v few can number body is =
    let f : IsFragment v number body = is_fragment v number body is in
    subst (HasText number) (sym f.is) (text_of v number f.tlvs few can f.exists)

-- ---- whatever becomes of it

pub own_text : (own : Own) (id : LspId) (old new : Option Entry) → ((body : List ℕ) → body_of_number own id.number ≡ Some body → HasText id.number body) → IsOwnBody own id old new → HasText id.number (body_in old) → HasText id.number (body_in new)
own_text own id old new said (stays e) was = subst (HasText id.number) (sym e) was
own_text own id old new said (renews e) was = said (body_in new) e
own_text own id old new said (ends e) was = subst (HasText id.number) (sym e) (dead_text id.number)

pub mapped_text : (number : ℕ) (f : Entry → Entry) (o : Option Entry) → ((e : Entry) → HasText number e.body → HasText number (f e).body) → HasText number (body_in o) → HasText number (body_in (option_map f o))
mapped_text number f None keeps was = was
mapped_text number f (Some e) keeps was = keeps e was

-- the texts of own LSPs, number by number
pub texts_of : (v : BridgeView) → IsOwnLspCurrent v → (number : ℕ) → number < own_numbers → HasText number (body_in (own_entry v number))
texts_of v own zero below = own.text
texts_of v own (suc number) below = own.others (suc number) (omega arith) below

pub others_of : (v : BridgeView) → ((number : ℕ) → number < own_numbers → HasText number (body_in (own_entry v number))) → (number : ℕ) → 1 ≤ number → number < own_numbers
    → neighbours_in (tlvs_of_body (body_in (own_entry v number))) ≡ []
others_of v texts zero some below = absurd (omega (arith, some))
others_of v texts (suc number) some below = texts (suc number) below
