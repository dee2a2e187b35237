use Rattle.std.proofs.Common.{◌≡◌, ◌⊎◌, ℕ, ◌≤◌, List, length, IsTrue, Err, refl, sym, ap, ◌∙◌, subst}
use Rattle.std.specs.Io.KnownBytes.{Appends, Consumes, IsAtEnd}
use Rattle.script_run.specs.Output.{AppendsFront}
use Rattle.script_run.specs.declared.status.Status.TheVariants.{NoMemory}
use Rattle.capture_list.specs.Listing.{most_listed, Listing, listing}
use Rattle.capture_list.proofs.Gathering.{as_read, none, written_fate, unless_written, nothing_written, out_of_memory, done_by}
use Rattle.capture_list.proofs.listing.list_capture.Goals as goal

pub returns-in-Ok-clause-lists : goal.returns-in-Ok-clause-lists
returns-in-Ok-clause-lists g c =
    let old = g.S.Source.left c.args.source.now in
    let new = g.S.Source.left c.read_all.new.source in
    let a = g.K.Sink.holds c.args.sink.now in
    let b = g.K.Sink.holds c.list_bytes.new.sink in
    let bytes = c.deref.result.now in
    let same = c.deref.ensures.value in
    let consumed = subst (Consumes old new) (sym same) c.in-Ok.ensures.bytes in
    let end : length bytes ≤ most_listed → IsAtEnd new =
    λ low. c.in-Ok.ensures.end (subst (λ (b : List ℕ). length b ≤ most_listed) same low) in
    let status = c.list_bytes.result in
    let listed = c.list_bytes.ensures in
    let whole =
    λ (sink : IsTrue (g.K.Sink.is_reliable c.args.sink.now)). as_read old new bytes (λ (x : Listing). (status ≡ x.status) ⊎ (status ≡ NoMemory)) consumed end
    (unless_written status (listing bytes).status listed.ends (listed.reliable sink)) in
    record {
      fate = λ w. as_read old new bytes (λ (x : Listing). status ≡ x.status) consumed end (written_fate status (listing bytes).status listed.ends w);
      text = λ w. as_read old new bytes (λ (x : Listing). Appends a b x.text) consumed end (listed.text w);
      ended = λ e. end (listed.short e);
      front = λ cut. as_read old new bytes (λ (x : Listing). AppendsFront a b x.text) consumed end (listed.front cut);
      silent = listed.silent;
      few = c.read_all.ensures.few;
      complete = λ source sink. whole sink;
      done = λ source sink. done_by old status (whole sink);
    }

pub returns-in-Err-Failed-clause-lists : goal.returns-in-Err-Failed-clause-lists
returns-in-Err-Failed-clause-lists g c =
    let failed = c.in-Err-Failed.is ∙ ap Err c.in-Err-Failed.field-0-is in
    record {
      fate = λ w. none w;
      text = λ w. none w;
      ended = λ e. none e;
      front = λ cut. none cut;
      silent = λ s. refl;
      few = c.read_all.ensures.few;
      complete = λ source sink. absurd (c.read_all.ensures.reliable source failed);
      done = λ source sink. absurd (c.read_all.ensures.reliable source failed);
    }

pub returns-in-Err-NoMemory-clause-lists : goal.returns-in-Err-NoMemory-clause-lists
returns-in-Err-NoMemory-clause-lists g c =
    let old = g.S.Source.left c.args.source.now in
    record {
      fate = λ w. none w;
      text = λ w. none w;
      ended = λ e. none e;
      front = λ cut. nothing_written old (g.K.Sink.holds c.args.sink.now);
      silent = λ s. refl;
      few = c.read_all.ensures.few;
      complete = λ source sink. out_of_memory old;
      done = λ source sink. done_by old NoMemory (out_of_memory old);
    }
