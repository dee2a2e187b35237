-- How answers are written.
use Rattle.std.specs.Prelude.{ℕ, List, [], ◌++◌, Option, Some, None, codes}
use Rattle.std.specs.List.{flat_map}
use Rattle.report.specs.Adjacencies.{adj_text}
use Rattle.report.specs.Database.{db_text}
use Rattle.report.specs.Lines.{drops_text, out_text, path_text, settle_text, state_text}
use Rattle.report.specs.Tables.{tables_text}
use Rattle.network_model.specs.declared.answer.Answer.{Answer}
use Rattle.network_model.specs.declared.answer.Answer.TheVariants.{Silent, Outs, State, Show, Wiring, Db, Adj, Path, Drops}
use Rattle.network_model.specs.declared.answer.Out.{Out}
use Rattle.network_model.specs.State as networks
use Rattle.network_rounds.specs.Settling.{most_settling, rounds_made, settling, outs_of}
use Rattle.settle_laws.specs.declared.answers.Ready.{Ready}
use Rattle.settle_laws.specs.declared.answers.Ready.TheVariants.{Yes, Frame, Lifetime, OwnLifetime, Ids}
use Rattle.settle_laws.specs.Settling.{left_of}

-- a customer frame that leaves
abbrev pub text_of_out : Out → List ℕ
text_of_out out = out_text out.bridge out.port out.frame

-- the lines of an answer
abbrev pub text_of_answer : Answer → List ℕ
text_of_answer Silent = []
text_of_answer (Outs frames) = flat_map text_of_out frames
text_of_answer (State failing) = state_text failing
text_of_answer (Show bridge quiet tables) = tables_text (codes "show") bridge (Some quiet) tables
text_of_answer (Wiring bridge tables) = tables_text (codes "wiring") bridge None tables
text_of_answer (Db bridge rows) = db_text bridge rows
text_of_answer (Adj bridge ports) = adj_text bridge ports
text_of_answer (Path from to vid cost names) = path_text from to vid.value cost names
text_of_answer (Drops bridge counts) = drops_text bridge counts

-- what the premise of settling that fails is called; nothing where there is quiet
abbrev pub why_of : Ready → Option (List ℕ)
why_of Yes = None
why_of Frame = Some (codes "frame")
why_of Lifetime = Some (codes "lifetime")
why_of OwnLifetime = Some (codes "own")
why_of Ids = Some (codes "ids")

-- the lines of settling: the customer frames that leave in its rounds, and then how many rounds these were, and whether
-- there is quiet or why not
abbrev pub text_of_settling : networks.State → List ℕ
text_of_settling s = flat_map text_of_out (outs_of s (settling s))
    ++ settle_text (rounds_made (most_settling s) s) (why_of (left_of s))
