use Rattle.report.proofs.LineCounts.{tables_have_lines, database_has_lines, adjacencies_have_lines, path_is_line, drops_is_line, out_is_line, state_is_line, settle_is_line, error_is_line}
use Rattle.report.proofs.CheckingLines.{changes_have_lines, proof_is_line, yes_is_line, no_is_line}
use Rattle.report.proofs.laws.answers_are_lines.Goals as goal

pub returns-clause-tables : goal.returns-clause-tables
returns-clause-tables c = tables_have_lines

pub returns-clause-database : goal.returns-clause-database
returns-clause-database c = database_has_lines

pub returns-clause-adjacencies : goal.returns-clause-adjacencies
returns-clause-adjacencies c = adjacencies_have_lines

pub returns-clause-path : goal.returns-clause-path
returns-clause-path c = path_is_line

pub returns-clause-drops : goal.returns-clause-drops
returns-clause-drops c = drops_is_line

pub returns-clause-out : goal.returns-clause-out
returns-clause-out c = out_is_line

pub returns-clause-state : goal.returns-clause-state
returns-clause-state c = state_is_line

pub returns-clause-settle : goal.returns-clause-settle
returns-clause-settle c = settle_is_line

pub returns-clause-error : goal.returns-clause-error
returns-clause-error c = error_is_line

pub returns-clause-changes : goal.returns-clause-changes
returns-clause-changes c = changes_have_lines

pub returns-clause-proof : goal.returns-clause-proof
returns-clause-proof c = proof_is_line

pub returns-clause-yes : goal.returns-clause-yes
returns-clause-yes c = yes_is_line

pub returns-clause-no : goal.returns-clause-no
returns-clause-no c = no_is_line
