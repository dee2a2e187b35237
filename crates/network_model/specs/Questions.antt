-- The questions about the whole network, and about one bridge.
use Rattle.std.specs.Prelude.{ℕ, List, [], map, length, ◌==◌, ◌||◌, Bool, true, false, Option, Some, None, is_some, slice_get}
use Rattle.std.specs.Option.{option_map_or}
use Rattle.std.specs.FinMap.{entries}
use Rattle.lsdb.specs.declared.held.DbRow.{DbRow}
use Rattle.lsdb.specs.Entry.{row_of}
use Rattle.lsdb.specs.Database.{Lsps}
use Rattle.adjacency.specs.declared.port.Adjacency.{Adjacency}
use Rattle.scenario.specs.declared.command.Command.{Command}
use Rattle.scenario.specs.declared.command.Command.TheVariants as command
use Rattle.spb_types.specs.declared.tables.Tables.{Tables}
use Rattle.bridge_api.specs.Drops.{no_drops, counts_in}
use Rattle.bridge_api.specs.Graph.{own_tables}
use Rattle.bridge_api.specs.declared.port.BridgePort.{BridgePort}
use Rattle.network_model.specs.declared.answer.Answer.{Answer}
use Rattle.network_model.specs.declared.answer.Answer.TheVariants.{Silent, Show, Wiring, Db, Adj, Drops}
use Rattle.spb_world.specs.World.{wired_tables}
use Rattle.network_model.specs.State.{State}
use Rattle.network_model.specs.Paths.{path_from}
use Rattle.network_model.specs.Quiet.{failing}

-- whether the command asks about the whole network
abbrev pub asks_network : Command → Bool
asks_network command.State = true
asks_network _ = false

-- whether the answer to a command says whether the network is quiet
abbrev pub asks_for_quiet : Command → Bool
asks_for_quiet command.State = true
asks_for_quiet (command.Show name) = true
asks_for_quiet _ = false

-- whether no condition of quiet fails
abbrev pub is_quiet : State → Bool
is_quiet s = length (failing s) == 0

-- where there is no bridge, there are no rows
abbrev pub no_tables : Tables
no_tables = record { unicast = []; group = [] }

-- the tables of the bridge at place i, by the LSPs that it holds
abbrev pub show_at : State → ℕ → Tables
show_at s i = option_map_or own_tables (slice_get s.views i) no_tables

-- a row for each id that is held, in order of id
abbrev pub rows_of : Lsps → List DbRow
rows_of db = map (λ e. row_of e.0 e.1) (entries db)

-- those of the bridge at place i
abbrev pub db_at : State → ℕ → List DbRow
db_at s i = option_map_or (λ v. rows_of v.database) (slice_get s.views i) []

-- the ports of a bridge as they are told: the adjacency, and whether CSNPs are due
abbrev pub adjacencies_of : List BridgePort → List (Adjacency × Bool)
adjacencies_of ports = map (λ port. (port.adjacency, port.csnp_due)) ports

abbrev pub adj_at : State → ℕ → List (Adjacency × Bool)
adj_at s i = option_map_or (λ v. adjacencies_of v.ports) (slice_get s.views i) []

-- how many frames the bridge at place i dropped, by the reason
abbrev pub drops_at : State → ℕ → List ℕ
drops_at s i = counts_in (option_map_or (λ v. v.drops) (slice_get s.views i) no_drops)

-- a question about a bridge: its name, and the answer about the bridge at a place
pub record Question : Type 0 where
  pub bridge : List ℕ
  pub answer : State → ℕ → Answer

-- what a command asks, if it is a question about one bridge
abbrev pub question_of : Command → Option Question
question_of (command.Show name) =
    Some (record { bridge = name; answer = λ s i. Show name (is_quiet s) (show_at s i) })
question_of (command.Wiring name) =
    Some (record { bridge = name; answer = λ s i. Wiring name (wired_tables s.world i) })
question_of (command.Db name) = Some (record { bridge = name; answer = λ s i. Db name (db_at s i) })
question_of (command.Adj name) = Some (record { bridge = name; answer = λ s i. Adj name (adj_at s i) })
question_of (command.Drops name) = Some (record { bridge = name; answer = λ s i. Drops name (drops_at s i) })
question_of (command.Path from to vid) =
    Some (record { bridge = from; answer = λ s i. path_from s i from to vid })
question_of _ = None

-- whether a command asks something
abbrev pub is_question : Command → Bool
is_question c = asks_network c || is_some (question_of c)

-- the answer about the bridge at place i; nothing to what is no question
abbrev pub answer_at : State → ℕ → Option Question → Answer
answer_at s i None = Silent
answer_at s i (Some q) = q.answer s i
