use Rattle.forwarding.proofs.Places.{placed_is_found, entry_keeps_places, delivery_keeps_places, attaching_keeps_places, detaching_keeps_places}
use Rattle.forwarding.proofs.laws.places_stay_in_their_service.Goals as goal

pub returns-clause-found : goal.returns-clause-found
returns-clause-found c = placed_is_found

pub returns-clause-entry : goal.returns-clause-entry
returns-clause-entry c = entry_keeps_places

pub returns-clause-delivery : goal.returns-clause-delivery
returns-clause-delivery c = delivery_keeps_places

pub returns-clause-attaching : goal.returns-clause-attaching
returns-clause-attaching c = attaching_keeps_places

pub returns-clause-detaching : goal.returns-clause-detaching
returns-clause-detaching c = detaching_keeps_places
