use Rattle.std.proofs.Common.{◌≡◌, true, sym, subst, ◌∙◌}
use Rattle.lsdb.specs.Entry.{entry_of, cleaned}
use Rattle.lsdb.specs.Database.{fits}
use Rattle.flooding.specs.Room.{has_room}
use Rattle.flooding.specs.Placing.{PutsIf}
use Rattle.flooding.proofs.Fits.{room_fits}
use Rattle.flooding.proofs.put.put_near.Goals as goal

pub returns : goal.returns
returns c =
    let db = c.args.db.now in
    let id = c.args.held.id in
    let e = cleaned (entry_of c.args.held) in
    let room : has_room c.args.own.now.system db id ≡ true = sym c.has_room.ensures ∙ c.if-not-has_room.false in
    let there : fits db id ≡ true = room_fits c.args.own.now.system db id e c.requires.few room in
    subst (λ b. PutsIf c.put_in.result b id e db c.put_in.new.db) (there ∙ sym room) c.put_in.ensures
