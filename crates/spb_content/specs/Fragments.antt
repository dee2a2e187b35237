-- What a bridge says of itself in more than one LSP: fragment k is what its LSP of number k says.
use Rattle.std.specs.Prelude.{◌≡◌, ℕ, zero, suc, ◌+◌, ◌*◌, ◌≤◌, ◌⊎◌, List, [], ◌∷◌, length, take, drop, map, flat_map, Option, Some, None}
use Rattle.std.specs.Option.{unwrap_or, option_to_list}
use Rattle.spb_types.specs.declared.graph.Member.{Member}
use Rattle.spb_content.specs.declared.local.Local.{Local}
use Rattle.spb_content.specs.Local.{content_bytes, service_tlvs}
use Rattle.spb_content.specs.Members.{merged}

-- the services of a bridge, each once, ascending by base VID and then by I-SID
abbrev pub services_by : Local → List Member
services_by l = merged l.config.id.system l.attached

-- a bridge with no services but those of fragment k, which has the places 60k to 60k + 59
abbrev pub part_of : ℕ → Local → Local
part_of k l = record l { attached = take 60 (drop (60 * k) (services_by l)) }

-- TLVs of services, where there is one
abbrev pub unless_none : List Member → List ℕ → Option (List ℕ)
unless_none [] tlvs = None
unless_none (m ∷ ms) tlvs = Some tlvs

-- the TLVs of a fragment, where it exists: number 0 always does, and says all but the other services; another number
-- says services and nothing else
unfoldable pub fragment : Local → ℕ → Option (List ℕ)
fragment l zero = Some (content_bytes (part_of 0 l))
fragment l (suc k) = unless_none (part_of (suc k) l).attached (service_tlvs (part_of (suc k) l))

-- so many fragments, from number k on
abbrev pub fragments_from : Local → ℕ → ℕ → List (Option (List ℕ))
fragments_from l zero k = []
fragments_from l (suc n) k = fragment l k ∷ fragments_from l n (k + 1)

-- the TLVs of those that exist, put together
abbrev pub tlvs_together : List (Option (List ℕ)) → List ℕ
tlvs_together fragments = flat_map (λ f. unwrap_or f []) fragments

-- the TLVs of those that exist, in order
abbrev pub existing : List (Option (List ℕ)) → List (List ℕ)
existing fragments = flat_map option_to_list fragments

-- the bodies of LSPs that say those that exist, in order: each the flags octet and then the TLVs of its fragment
abbrev pub bodies_saying : ℕ → List (Option (List ℕ)) → List (Option (List ℕ))
bodies_saying flags fragments = map (λ tlvs. Some (flags ∷ tlvs)) (existing fragments)

-- what is cut into fragments: the services; or the ports as they are, where one fragment takes them all
abbrev pub AreToCut : Local → List Member → Type 0
AreToCut l ms = (ms ≡ services_by l) ⊎ ((ms ≡ l.attached) × (length ms ≤ 60))
