use Rattle.network_model.proofs.Linked.{quiet_is_shared}
use Rattle.network_model.proofs.QuietTruth.{quiet_is_true, quiet_has_wired_tables}
use Rattle.network_model.proofs.QuietRead.{quiet_is_read}
use Rattle.network_model.proofs.QuietReadLinks.{quiet_reads_links}
use Rattle.network_model.proofs.laws.quiet_is_true.Goals as goal

pub returns-clause-shared : goal.returns-clause-shared
returns-clause-shared c = quiet_is_shared

pub returns-clause-read : goal.returns-clause-read
returns-clause-read c = quiet_is_read

pub returns-clause-links : goal.returns-clause-links
returns-clause-links c = quiet_reads_links

pub returns-clause-wired : goal.returns-clause-wired
returns-clause-wired c = quiet_is_true

pub returns-clause-quiet : goal.returns-clause-quiet
returns-clause-quiet c = quiet_has_wired_tables
