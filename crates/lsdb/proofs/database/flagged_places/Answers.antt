use Rattle.lsdb.proofs.FlaggedPlaces.{noted_next, noted_all}
use Rattle.lsdb.proofs.database.flagged_places.Goals as goal

pub loop-place-preserved : goal.loop-place-preserved
loop-place-preserved c =
    noted_next c.args.held.now c.loop-place.place c.index-held-place.result c.has_flags.result c.loop-place.places.items c.note_flagged.new.places.items c.loop-place-test.true c.index-held-place.is c.has_flags.ensures c.loop-place.invariant c.in_ok-note_flagged.ensures

pub returns : goal.returns
returns c = noted_all c.args.held.now c.loop-place.place c.loop-place.places.items c.loop-place-test.false c.loop-place.invariant
