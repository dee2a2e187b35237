use Rattle.std.proofs.Common.{List, ℕ, ◌++◌, subst}
use Rattle.std.specs.Io.KnownBytes.{Appends}
use Rattle.std.proofs.lemmas.Result.{err_from_is_err_and}
use Rattle.frame_capture.specs.Capture.{header_of}
use Rattle.script_run.specs.Output.{AppendsFront}
use Rattle.capture_list.specs.Listing.{listing_by}
use Rattle.script_run.specs.Puts.{Puts}
use Rattle.script_run.proofs.Putting.{Puts-end, Front-end}
use Rattle.capture_list.proofs.listing.write_listing.Goals as goal

pub returns-in_err-status-clause-front : goal.returns-in_err-status-clause-front
returns-in_err-status-clause-front g c =
    let p = err_from_is_err_and c.from_residual.result c.from_residual.ensures.1 in
    let text = (listing_by (header_of c.args.bytes.now) c.args.bytes.now).text in
    rw p.1 (subst (λ (h : List ℕ). AppendsFront (g.K.Sink.holds c.args.sink.now) (g.K.Sink.holds c.put_listing.new.sink) (h ++ text)) c.new-held.ensures.items c.in_err-status.ensures.front)

pub returns-in_err-write_all-clause-front : goal.returns-in_err-write_all-clause-front
returns-in_err-write_all-clause-front g c =
    let p = err_from_is_err_and c.from_residual-in_err-write_all.result c.from_residual-in_err-write_all.ensures.1 in
    let a = g.K.Sink.holds c.args.sink.now in
    let b = g.K.Sink.holds c.put_listing.new.sink in
    let text = (listing_by (header_of c.args.bytes.now) c.args.bytes.now).text in
    let puts = subst (λ (h : List ℕ). Puts a b h c.put_listing.new.held.items text) c.new-held.ensures.items c.in_ok-status.ensures.all in
    rw p.1 (Front-end a b (g.K.Sink.holds c.write_all.new.sink) c.put_listing.new.held.items text puts
    (subst (λ (h : List ℕ). AppendsFront b (g.K.Sink.holds c.write_all.new.sink) h) c.deref.ensures.value c.in_err-write_all.ensures.front))

pub returns-clause-all : goal.returns-clause-all
returns-clause-all g c =
    let a = g.K.Sink.holds c.args.sink.now in
    let b = g.K.Sink.holds c.put_listing.new.sink in
    let text = (listing_by (header_of c.args.bytes.now) c.args.bytes.now).text in
    let puts = subst (λ (h : List ℕ). Puts a b h c.put_listing.new.held.items text) c.new-held.ensures.items c.in_ok-status.ensures.all in
    Puts-end a b (g.K.Sink.holds c.write_all.new.sink) c.put_listing.new.held.items text puts
    (subst (λ (h : List ℕ). Appends b (g.K.Sink.holds c.write_all.new.sink) h) c.deref.ensures.value c.in_ok-write_all.ensures.all)
