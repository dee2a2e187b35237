use Rattle.flooding.proofs.Named.{ids_name_lsps}
use Rattle.flooding.proofs.SendableEntries.{sent_is_held, sent_is_read}
use Rattle.flooding.proofs.laws.what_is_sent_is_what_is_held.Goals as goal

pub returns : goal.returns
returns c = record { ids = ids_name_lsps; claim = sent_is_held; read = sent_is_read }
