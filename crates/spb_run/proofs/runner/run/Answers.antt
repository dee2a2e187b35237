use Rattle.std.proofs.Common.{◌≡◌, ◌≢◌, ◌≤◌, ◌⊎◌, inl, inr, ℕ, List, length, Option, Some, refl, sym, ap, ◌∙◌, subst, ⊎_elim}
use Rattle.std.specs.Io.KnownBytes.{Consumes}
use Rattle.network_model.specs.declared.kind_rule.KindRule.{KindRule}
use Rattle.network_model.specs.declared.kind_rule.KindRule.TheVariants.{Plain}
use Rattle.spb_network.specs.Network.{state_of}
use Rattle.network_model.specs.State.{State}
use Rattle.script_run.specs.declared.status.Status.{Status}
use Rattle.script_run.specs.declared.status.Status.TheVariants.{NoMemory, WriteFault}
use Rattle.spb_run.specs.declared.words.Form.{Form}
use Rattle.spb_run.specs.declared.words.Form.TheVariants.{Run, Try, Listing, Capture}
use Rattle.spb_run.specs.Words.{most_read}
use Rattle.script_run.specs.Capturing.{Captures}
use Rattle.script_run.specs.Running.{Runs}
use Rattle.script_run.specs.States.{ruled}
use Rattle.made_runs.specs.Trying.{Tries}
use Rattle.spb_run.proofs.runner.run.Goals as goal

one_rule : (a b : KindRule) → Some (Run a) ≡ Some (Run b) → a ≡ b
one_rule a b e = cc

one_number : (m n : ℕ) (a b : KindRule) → Some (Try m a) ≡ Some (Try n b) → (m ≡ n) × (a ≡ b)
one_number m n a b e = (cc, cc)

-- where no write failed, it ended as it should, or memory ran out
unless_written : (status fate : Status) → (status ≡ fate) ⊎ (status ≡ NoMemory) ⊎ (status ≡ WriteFault) → status ≢ WriteFault
    → (status ≡ fate) ⊎ (status ≡ NoMemory)
unless_written status fate ends written = ⊎_elim (λ e. inl e) (λ r. ⊎_elim (λ e. inr e) (λ w. absurd (written w)) r) ends

pub returns-in-Some-Run-clause-runs : goal.returns-in-Some-Run-clause-runs
returns-in-Some-Run-clause-runs g c rule e =
    let state = state_of g.B.Bridge.shown in
    let same = one_rule c.in-Some-Run.rule rule (ap Some (sym c.in-Some-Run.field-0-is) ∙ sym c.in-Some-Run.is ∙ c.form_of.ensures.form ∙ e) in
    let begins : state c.set_rule.new.self ≡ ruled rule (state c.args.network.now) = c.set_rule.ensures.state ∙ ap (λ r. ruled r (state c.args.network.now)) same in
    subst (λ (s : State). Runs g.S.Source.left g.S.Source.is_reliable g.K.Sink.holds g.K.Sink.is_reliable c.run_script.result
    s (state c.run_script.new.network) c.args.source.now c.run_script.new.source c.args.sink.now c.run_script.new.sink) begins c.run_script.ensures.runs

-- what is read, where the words are this form
few_read : (form : Option Form) (f : Form) (old new : Option (List ℕ)) (read : List ℕ) → form ≡ Some f → Consumes old new read → length read ≤ most_read (Some f)
    → (bytes : List ℕ) × Consumes old new bytes × (length bytes ≤ most_read form)
few_read form f old new read is consumed few = (read, consumed, subst (λ o. length read ≤ most_read o) (sym is) few)

pub returns-in-Some-Run-clause-few : goal.returns-in-Some-Run-clause-few
returns-in-Some-Run-clause-few g c =
    let reads = c.run_script.ensures.runs.reads in
    few_read _ (Run c.in-Some-Run.rule) (g.S.Source.left c.args.source.now) (g.S.Source.left c.run_script.new.source) reads.read
    (sym c.form_of.ensures.form ∙ c.in-Some-Run.is ∙ ap Some c.in-Some-Run.field-0-is) reads.consumed reads.few

pub returns-in-Some-Listing-clause-few : goal.returns-in-Some-Listing-clause-few
returns-in-Some-Listing-clause-few g c =
    let reads = c.list_capture.ensures.lists.few in
    few_read _ Listing (g.S.Source.left c.args.source.now) (g.S.Source.left c.list_capture.new.source) reads.read
    (sym c.form_of.ensures.form ∙ c.in-Some-Listing.is ∙ ap Some c.in-Some-Listing.field-0-is) reads.consumed reads.few

pub returns-in-Some-Try-clause-tries : goal.returns-in-Some-Try-clause-tries
returns-in-Some-Try-clause-tries g c bridges rule e =
    let state = state_of g.B.Bridge.shown in
    let tried = c.try_script.ensures in
    let same = one_number c.in-Some-Try.bridges bridges c.in-Some-Try.rule rule (ap Some (sym c.in-Some-Try.field-0-is) ∙ sym c.in-Some-Try.is ∙ c.form_of.ensures.form ∙ e) in
    let begins : state c.set_rule-in-Some-Try.new.self ≡ ruled rule (state c.args.network.now) = c.set_rule-in-Some-Try.ensures.state ∙ ap (λ r. ruled r (state c.args.network.now)) same.1 in
    subst (λ (s : State). Tries g.K.Sink.holds g.K.Sink.is_reliable bridges c.try_script.result s (state c.try_script.new.network)
    c.args.source.now c.args.source.now c.args.sink.now c.try_script.new.sink) begins
    (subst (λ n. Tries g.K.Sink.holds g.K.Sink.is_reliable n c.try_script.result (state c.set_rule-in-Some-Try.new.self) (state c.try_script.new.network)
    c.args.source.now c.args.source.now c.args.sink.now c.try_script.new.sink) same.0
    (record {
      ends = tried.ends;
      text = tried.text;
      front = tried.front;
      state = tried.state;
      unread = refl;
      complete = λ h. unless_written c.try_script.result _ tried.ends (tried.reliable h);
      done = tried.done;
    }))

pub returns-in-Some-Capture-clause-captures : goal.returns-in-Some-Capture-clause-captures
returns-in-Some-Capture-clause-captures g c e =
    let state = state_of g.B.Bridge.shown in
    let begins : state c.set_rule-in-Some-Capture.new.self ≡ ruled Plain (state c.args.network.now) = c.set_rule-in-Some-Capture.ensures.state in
    subst (λ (s : State). Captures g.S.Source.left g.S.Source.is_reliable g.K.Sink.holds g.K.Sink.is_reliable c.capture_script.result
    s (state c.capture_script.new.network) c.args.source.now c.capture_script.new.source c.args.sink.now c.capture_script.new.sink) begins c.capture_script.ensures.captures

pub returns-in-Some-Capture-clause-few : goal.returns-in-Some-Capture-clause-few
returns-in-Some-Capture-clause-few g c =
    let reads = c.capture_script.ensures.captures.reads in
    few_read _ Capture (g.S.Source.left c.args.source.now) (g.S.Source.left c.capture_script.new.source) reads.read
    (sym c.form_of.ensures.form ∙ c.in-Some-Capture.is ∙ ap Some c.in-Some-Capture.field-0-is) reads.consumed reads.few
