-- The laws of a step of a bridge, on which what is sound of a network rests.
use Rattle.itag_frames.proofs.ControlLaws.{control_again}
use Rattle.bridge_api.specs.Laws.{ConfiguredIsSound, ConfiguredHasNoCarrier, StepsStaySound, StepsKeepBridge, StepsKeepCarrier, StepsKeepNeighbours, SentIsSound, OneHello, HellosAreHeard, UpPortsAreUp, StepsCarryDatabase}
use Rattle.bridge_api.specs.Duties.{LspsAreHeard}
use Rattle.bridge_laws.specs.Advancing.{StepsAdvance}
use Rattle.bridge_laws.specs.Brief.{SentIsBrief}
use Rattle.bridge_laws.specs.Counting.{StepsHoldIds, StepsLearn, StepsLearnVersions, StepsAnswer, StepsOriginate, StepsDontSpend, ConfiguredIsFar}
use Rattle.bridge_api.specs.Time.{SecondsAge}
use Rattle.bridge_laws.proofs.Advancing as advancing
use Rattle.bridge_laws.proofs.Answering as answering
use Rattle.bridge_laws.proofs.Brief as brief
use Rattle.bridge_api.proofs.Certified as certified
use Rattle.bridge_api.proofs.Carriers as carriers
use Rattle.bridge_laws.proofs.Frames as frames
use Rattle.bridge_laws.proofs.HeldIds as ids
use Rattle.bridge_api.proofs.Hellos as hellos
use Rattle.bridge_laws.proofs.Learning as learning
use Rattle.bridge_laws.proofs.OneHello as hello
use Rattle.bridge_laws.proofs.Originating as originating
use Rattle.bridge_api.proofs.SentHeard as heard
use Rattle.bridge_api.proofs.Sound as stays
use Rattle.bridge_api.proofs.SoundPorts as ports
use Rattle.bridge_laws.proofs.StepsCarry as set_carrier
use Rattle.bridge_api.proofs.TimeLsps as ages
use Rattle.bridge_api.proofs.UpPorts as up

pub configured_is_sound : ConfiguredIsSound
configured_is_sound = stays.configured_is_sound

pub configured_has_no_carrier : ConfiguredHasNoCarrier
configured_has_no_carrier = ports.configured_has_no_carrier

pub steps_stay_sound : StepsStaySound
steps_stay_sound = stays.steps_stay_sound

pub steps_keep_bridge : StepsKeepBridge
steps_keep_bridge = certified.steps_keep_bridge

pub steps_keep_carrier : StepsKeepCarrier
steps_keep_carrier = carriers.steps_keep_carrier

pub steps_keep_neighbours : StepsKeepNeighbours
steps_keep_neighbours = certified.steps_keep_neighbours

pub sent_is_brief : SentIsBrief
sent_is_brief = brief.sent_is_brief

pub sent_is_sound : SentIsSound
sent_is_sound = frames.sent_is_sound control_again

pub hellos_are_heard : HellosAreHeard
hellos_are_heard = hellos.hellos_are_heard control_again

pub lsps_are_heard : LspsAreHeard
lsps_are_heard = heard.lsps_are_heard control_again

pub up_ports_are_up : UpPortsAreUp
up_ports_are_up = up.up_ports_are_up

pub steps_carry_database : StepsCarryDatabase
steps_carry_database = set_carrier.steps_carry_database

pub one_hello : OneHello
one_hello = hello.one_hello control_again

pub seconds_age : SecondsAge
seconds_age = ages.seconds_age

pub steps_hold_ids : StepsHoldIds
steps_hold_ids = ids.steps_hold_ids

pub steps_learn : StepsLearn
steps_learn = learning.steps_learn

pub steps_learn_versions : StepsLearnVersions
steps_learn_versions = learning.steps_learn_versions

pub steps_advance : StepsAdvance
steps_advance = advancing.steps_advance

pub steps_answer : StepsAnswer
steps_answer = answering.steps_answer

pub steps_originate : StepsOriginate
steps_originate = originating.steps_originate

pub steps_dont_spend : StepsDontSpend
steps_dont_spend = originating.steps_dont_spend

pub configured_is_far : ConfiguredIsFar
configured_is_far = originating.configured_is_far
