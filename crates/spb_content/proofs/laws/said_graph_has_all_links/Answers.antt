use Rattle.spb_content.proofs.Uncut.{said_graph_has_all_links}
use Rattle.spb_content.proofs.laws.said_graph_has_all_links.Goals as goal

pub returns : goal.returns
returns c = said_graph_has_all_links
