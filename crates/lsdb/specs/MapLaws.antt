-- What stands under each id after a change of the database, and the order of ids.
use Rattle.std.specs.Prelude.{◌≡◌, ◌≢◌, Some}
use Rattle.std.specs.Cmp.{IsTotalOrder}
use Rattle.std.specs.Option.{option_map}
use Rattle.std.specs.FinMap.{IsAntisymmetric, get, insert}
use Rattle.spb_types.specs.declared.address.LspId.{LspId}
use Rattle.lsdb.specs.Entry.{Entry}
use Rattle.lsdb.specs.Database.{Lsps, id_cmp, changed, each}

-- every entry changed: under each id stands what stood there, changed
abbrev pub EachIsRead : Type 0
EachIsRead = (f : LspId → Entry → Entry) (db : Lsps) (id : LspId) → get (each f db) id ≡ option_map (f id) (get db id)

-- the entry under an id changed: the same for that id, and every other has what it had
abbrev pub ChangedIsRead : Type 0
ChangedIsRead = (f : Entry → Entry) (db : Lsps) (id : LspId) → get (changed f db id) id ≡ option_map f (get db id)

abbrev pub ChangingLeavesOthers : Type 0
ChangingLeavesOthers = (f : Entry → Entry) (db : Lsps) (id x : LspId) → x ≢ id → get (changed f db id) x ≡ get db x

-- an entry put in: it stands under its id, and every other has what it had
abbrev pub InsertedIsRead : Type 0
InsertedIsRead = (db : Lsps) (id : LspId) (e : Entry) → get (insert db id e) id ≡ Some e

abbrev pub InsertingLeavesOthers : Type 0
InsertingLeavesOthers = (db : Lsps) (id : LspId) (e : Entry) (x : LspId) → x ≢ id → get (insert db id e) x ≡ get db x

-- the order of ids is total, and only equal ids tie
abbrev pub IdsAreOrdered : Type 0
IdsAreOrdered = IsTotalOrder id_cmp

abbrev pub TiedIdsAreOne : Type 0
TiedIdsAreOne = IsAntisymmetric id_cmp
