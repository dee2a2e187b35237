-- The laws of a step of a bridge, on which it rests that services stay apart in a network.
use Rattle.bridge_laws.specs.Apart.{SentHasEntered, LeftHasEntered, ConfiguredIsPlaced, StepsKeepPlaces}
use Rattle.bridge_laws.proofs.Isolation as apart

pub sent_has_entered : SentHasEntered
sent_has_entered = apart.sent_has_entered

pub left_has_entered : LeftHasEntered
left_has_entered = apart.left_has_entered

pub configured_is_placed : ConfiguredIsPlaced
configured_is_placed = apart.configured_is_placed

pub steps_keep_places : StepsKeepPlaces
steps_keep_places = apart.steps_keep_places
