-- The bridge at a place as a source.
use Rattle.std.specs.Prelude.{ℕ, ◌≡◌, ◌<◌, length, option_map}
use Rattle.std.specs.BTreeMap.{BTreeMap}
use Rattle.std.proofs.Common.{sym, ap, ◌∙◌, subst}
use Rattle.std.proofs.lemmas.Option.{slice_get-map, slice_get-get_or}
use Rattle.spb_types.specs.Graph.{IsValid}
use Rattle.spb_types.specs.declared.address.SystemId.{SystemId}
use Rattle.spb_types.specs.declared.graph.Graph.{Graph}
use Rattle.spb_types.specs.declared.address.Mac.{Mac}
use Rattle.spb_types.specs.declared.graph.GraphBridge.{GraphBridge}
use Rattle.spb_types.specs.declared.ports.PortSet.{PortSet}
use Rattle.spb_types.specs.declared.service.VidPlan.{VidPlan}
use Rattle.ect_trees.specs.Arcs.{IsBridgeAt}
use Rattle.ect_trees.proofs.Places.{place_found_at}
use Rattle.fdb_build.specs.Making.{sets_from, sent_at, sent_by, place_of, Grew, is_from, is_from_bridge, source_at}
use Rattle.fdb_build.specs.declared.services.Services.{Services}

-- the bridge that is read at a place stands there
pub source_stands : (g : Graph) (place : ℕ) → place < length g.bridges → IsBridgeAt g place (source_at g place).id.system
source_stands g place within =
    slice_get-map (λ (b : GraphBridge). b.id.system) g.bridges place ∙ ap (option_map (λ (b : GraphBridge). b.id.system)) (slice_get-get_or g.bridges place _ within)

-- what it sends to
pub sent_there : (g : Graph) (s : Services) (place : ℕ) → IsValid g → place < length g.bridges → sent_at s place ≡ sent_by s (place_of g (source_at g place).id.system)
sent_there g s place valid within = ap (sent_by s) (sym (place_found_at g place _ valid (source_stands g place within)))

-- rows that got its ports
pub from_bridge : (g : Graph) (me : SystemId) (plan : VidPlan) (s : Services) (old new : BTreeMap Mac PortSet) (place : ℕ) → IsValid g → place < length g.bridges
    → Grew old new (is_from s (source_at g place) (sets_from g me plan (source_at g place).id.system) (sent_at s place)) → Grew old new (is_from_bridge g me plan s (source_at g place))
from_bridge g me plan s old new place valid within grew =
    subst (λ l. Grew old new (is_from s (source_at g place) (sets_from g me plan (source_at g place).id.system) l)) (sent_there g s place valid within) grew
