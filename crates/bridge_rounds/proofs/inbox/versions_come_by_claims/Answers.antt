use Rattle.bridge_rounds.proofs.AtMost.{at_most_stands}
use Rattle.bridge_rounds.proofs.ComeFrom.{versions_come_from}
use Rattle.bridge_rounds.proofs.LspHeld.{mail_rises, lsp_is_held}
use Rattle.bridge_rounds.proofs.inbox.versions_come_by_claims.Goals as goal

pub returns-clause-rises : goal.returns-clause-rises
returns-clause-rises c = mail_rises

pub returns-clause-stands : goal.returns-clause-stands
returns-clause-stands c = at_most_stands

pub returns-clause-held : goal.returns-clause-held
returns-clause-held c = lsp_is_held

pub returns-clause-come : goal.returns-clause-come
returns-clause-come c = versions_come_from
