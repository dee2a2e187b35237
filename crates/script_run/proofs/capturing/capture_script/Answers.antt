use Rattle.std.proofs.Common.{◌≡◌, Ok, Err, inl, inr, refl, sym, ap, ◌∙◌, false, true≢false, ⊎_elim, IsTrue, List, ℕ, Option, Some, None, IfSome, Result, ◌⊎◌, arith}
use Rattle.spb_network.specs.Applying.{IsSoundNetwork}
use Rattle.spb_network.specs.Network.{state_of}
use Rattle.network_model.specs.State.{State}
use Rattle.script_run.specs.declared.pieces.Break.{Break}
use Rattle.script_run.specs.declared.pieces.Break.TheVariants as break
use Rattle.script_run.specs.declared.status.Status.{Status}
use Rattle.script_run.specs.declared.status.Status.TheVariants.{Done, Refused, Usage, NoMemory, ReadFault, WriteFault, TooLong}
use Rattle.script_run.specs.Capturing.{capture_text}
use Rattle.script_run.specs.Run.{is_written, is_cut}
use Rattle.script_run.specs.Text.{fate_of}
use Rattle.script_run.proofs.Completing.{is_fate, is_text, is_end, is_complete}
use Rattle.script_run.proofs.capturing.capture_script.Goals as goal

none : {P : Type 0} → IsTrue false → P
none e = absurd (true≢false (sym e))

-- a run whose text is written isn't cut short, and no read failed
whole_one : {P : Type 0} (status : Status) → IsTrue (is_written status) → IsTrue (is_cut status) → P
whole_one Done written cut = none cut
whole_one (Refused line why) written cut = none cut
whole_one Usage written cut = none cut
whole_one NoMemory written cut = none written
whole_one ReadFault written cut = none cut
whole_one WriteFault written cut = none written
whole_one TooLong written cut = none cut

read_one : {P : Type 0} (status : Status) → IsTrue (is_written status) → status ≡ ReadFault → P
read_one status written failed = none (sym (ap is_written failed) ∙ written)

-- memory ran out
out_of_memory : (left : Option (List ℕ)) (s : State) → IfSome left (λ script. (NoMemory ≡ fate_of s script) ⊎ (NoMemory ≡ NoMemory))
out_of_memory None s = tt
out_of_memory (Some script) s = inr refl

-- a run that broke at the header is no other
abbrev AtHeader : Result Status Break → Type 0
AtHeader r = (r ≡ Err break.Write) ⊎ (r ≡ Err break.NoMemory)

ended_behind : {P : Type 0} (status : Status) (r : Result Status Break) → r ≡ Ok status → AtHeader r → P
ended_behind status r is (inl e) = absurd (let a = sym is ∙ e in cc)
ended_behind status r is (inr e) = absurd (let a = sym is ∙ e in cc)

read_behind : {P : Type 0} (r : Result Status Break) → r ≡ Err break.Read → AtHeader r → P
read_behind r is (inl e) = absurd (let a = sym is ∙ e in cc)
read_behind r is (inr e) = absurd (let a = sym is ∙ e in cc)

pub returns-in-Ok-clause-captures : goal.returns-in-Ok-clause-captures
returns-in-Ok-clause-captures g c =
    let left = g.S.Source.left c.args.source.now in
    let status = c.in-Ok.status in
    let own = c.in-Ok.ensures.own in
    let reads = c.capture_pieces.ensures.reads in
    let alive = c.in-Ok.ensures.alive in
    let sound : IsSoundNetwork g.B.Bridge.shown c.capture_pieces.new.network = ⊎_elim (λ h. absurd (true≢false (sym h ∙ alive.halted))) (λ n. n) alive.ready in
    let old : State = state_of g.B.Bridge.shown c.args.network.now in
    let nothing : old.accepted ≡ 0 = ap (λ (s : State). s.accepted) c.requires.opening in
    record {
      fate = λ w. is_fate g.K.Sink.holds capture_text left status _ _ _ _ c.in-Ok.ensures.ends;
      text = λ w. is_text g.K.Sink.holds capture_text left status _ _ _ _ c.in-Ok.ensures.ends;
      ended = λ e. c.capture_pieces.ensures.ended (c.in-Ok.is ∙ ap Ok e);
      state = λ e. is_end g.K.Sink.holds capture_text left status _ _ _ _ c.in-Ok.ensures.ends;
      sound = λ e. sound.state;
      counted = λ e. sound.counted (omega (arith, nothing, c.in-Ok.ensures.few));
      front = λ cut. whole_one status own cut;
      whole = λ failed. read_one status own failed;
      prompt = ⊎_elim (λ b. ended_behind status c.capture_pieces.result c.in-Ok.is b.0) (λ w. inr w) c.capture_pieces.ensures.prompt;
      reads = record { read = reads.read; consumed = reads.consumed; few = reads.few; soon = λ n w. reads.soon n (w.0, c.in-Ok.is ∙ ap Ok w.1) };
      complete = λ source sink. is_complete g.K.Sink.holds capture_text left status _ _ _ _ c.in-Ok.ensures.ends;
    }

pub returns-in-Err-Read-clause-captures : goal.returns-in-Err-Read-clause-captures
returns-in-Err-Read-clause-captures g c =
    let left = g.S.Source.left c.args.source.now in
    let reads = c.capture_pieces.ensures.reads in
    record {
      fate = λ w. none w;
      text = λ w. none w;
      ended = λ e. absurd cc;
      state = λ e. none e;
      sound = λ e. none e;
      counted = λ e. none e;
      front = λ cut. none cut;
      whole = λ failed. c.capture_pieces.ensures.whole (c.in-Err-Read.is ∙ ap Err c.in-Err-Read.field-0-is);
      prompt = ⊎_elim (λ b. read_behind c.capture_pieces.result (c.in-Err-Read.is ∙ ap Err c.in-Err-Read.field-0-is) b.0) (λ w. inr w) c.capture_pieces.ensures.prompt;
      reads = record { read = reads.read; consumed = reads.consumed; few = reads.few; soon = λ n w. absurd (let is = w.1 in cc) };
      complete = λ source sink. absurd (c.capture_pieces.ensures.reliable_source source (c.in-Err-Read.is ∙ ap Err c.in-Err-Read.field-0-is));
    }

pub returns-in-Err-Write-clause-captures : goal.returns-in-Err-Write-clause-captures
returns-in-Err-Write-clause-captures g c =
    let left = g.S.Source.left c.args.source.now in
    let reads = c.capture_pieces.ensures.reads in
    record {
      fate = λ w. none w;
      text = λ w. none w;
      ended = λ e. absurd cc;
      state = λ e. none e;
      sound = λ e. none e;
      counted = λ e. none e;
      front = λ cut. c.in-Err-Write.ensures.front;
      whole = λ failed. absurd cc;
      prompt = ⊎_elim (λ b. inl (refl, b.1)) (λ w. inr w) c.capture_pieces.ensures.prompt;
      reads = record { read = reads.read; consumed = reads.consumed; few = reads.few; soon = λ n w. absurd (let is = w.1 in cc) };
      complete = λ source sink. absurd (c.capture_pieces.ensures.reliable_sink sink (c.in-Err-Write.is ∙ ap Err c.in-Err-Write.field-0-is));
    }

pub returns-in-Err-NoMemory-clause-captures : goal.returns-in-Err-NoMemory-clause-captures
returns-in-Err-NoMemory-clause-captures g c =
    let left = g.S.Source.left c.args.source.now in
    let reads = c.capture_pieces.ensures.reads in
    record {
      fate = λ w. none w;
      text = λ w. none w;
      ended = λ e. absurd cc;
      state = λ e. none e;
      sound = λ e. none e;
      counted = λ e. none e;
      front = λ cut. c.in-Err-NoMemory.ensures.front;
      whole = λ failed. absurd cc;
      prompt = ⊎_elim (λ b. inl (refl, b.1)) (λ w. inr w) c.capture_pieces.ensures.prompt;
      reads = record { read = reads.read; consumed = reads.consumed; few = reads.few; soon = λ n w. absurd (let is = w.1 in cc) };
      complete = λ source sink. out_of_memory left (state_of g.B.Bridge.shown c.args.network.now);
    }
