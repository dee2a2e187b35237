use Rattle.bridge_laws.proofs.Frames.{sent_is_sound}
use Rattle.bridge_laws.proofs.OneHello.{one_hello}
use Rattle.bridge_api.proofs.Hellos.{hellos_are_heard, sent_with_carrier}
use Rattle.bridge_api.proofs.SentHeard.{lsps_are_heard, requests_are_heard}
use Rattle.bridge_laws.proofs.laws.frames_are_heard.Goals as goal

pub returns-clause-sound : goal.returns-clause-sound
returns-clause-sound c = sent_is_sound c.control_again.ensures

pub returns-clause-one_hello : goal.returns-clause-one_hello
returns-clause-one_hello c = one_hello c.control_again.ensures

pub returns-clause-heard : goal.returns-clause-heard
returns-clause-heard c = hellos_are_heard c.control_again.ensures

pub returns-clause-carrier : goal.returns-clause-carrier
returns-clause-carrier c = sent_with_carrier

pub returns-clause-lsps : goal.returns-clause-lsps
returns-clause-lsps c = lsps_are_heard c.control_again.ensures

pub returns-clause-requests : goal.returns-clause-requests
returns-clause-requests c = requests_are_heard c.control_again.ensures
