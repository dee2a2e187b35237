-- What is captured of a script: the packets of what its commands deliver, behind a header.
use Rattle.std.proofs.Common.{◌≡◌, ℕ, ◌+◌, List, [], ◌∷◌, ◌++◌, Option, Some, None, IfSome, Result, Ok, Err, refl, sym, ap, ◌∙◌, subst, append_assoc, append-nil}
use Rattle.std.specs.Io.KnownBytes.{Appends}
use Rattle.std.proofs.KnownBytes.{Appends-trans}
use Rattle.std.proofs.lemmas.List.Concat.{flat_map-append}
use Rattle.frame_capture.specs.Capture.{header_bytes}
use Rattle.scenario.specs.declared.command.Command.{Command}
use Rattle.scenario.specs.declared.cutter.Stop.{Stop}
use Rattle.scenario.specs.declared.cutter.Stop.TheVariants as stop
use Rattle.scenario.specs.Cutting.{start, lines_of}
use Rattle.scenario.specs.declared.extra.Extra.{Extra}
use Rattle.scenario.specs.declared.extra.Extra.TheVariants.{Settle}
use Rattle.scenario.specs.Extras.{extra_of}
use Rattle.scenario.specs.Grammar.{line_of}
use Rattle.extra_answers.specs.Refusing.{extra_refusal}
use Rattle.spb_world.specs.declared.reason.Reason.{Reason}
use Rattle.network_model.specs.declared.delivered.Delivered.{Delivered}
use Rattle.network_model.specs.Captured.{seen_of, captured}
use Rattle.network_model.specs.Play.{next_state, played_all}
use Rattle.network_model.specs.Refusing.{refusal_of}
use Rattle.network_model.specs.State.{State}
use Rattle.network_rounds.specs.Settling.{settle_refusal}
use Rattle.script_run.specs.declared.refusal.Refusal.{Refusal}
use Rattle.script_run.specs.declared.status.Status.{Status}
use Rattle.script_run.specs.declared.voice.Voice.TheVariants.{Packets}
use Rattle.script_run.specs.Capturing.{capture_text}
use Rattle.script_run.specs.Output.{AppendsFront}
use Rattle.script_run.specs.Pieces.{Completes, WritesWhole, WritesSoon, whole_part}
use Rattle.script_run.specs.Play.{Judged, judged, judged_by, judged_as, judged_extra, judged_settle, judged_line, packet_of, packets_of}
use Rattle.script_run.specs.Text.{Played, joined, concluded, play, played, lines_played, commands_joined, commands_in, said_in}
use Rattle.script_run.proofs.Completing.{if_some}
use Rattle.script_run.proofs.Putting.{Front-longer}

-- ---- lines

packets_both : (ds es : List Delivered) → packets_of (ds ++ es) ≡ packets_of ds ++ packets_of es
packets_both ds es = flat_map-append packet_of ds es

captured_more : (s : State) (cs ds : List Command) → captured s (cs ++ ds) ≡ captured s cs ++ captured (played_all s cs) ds
captured_more s [] ds = refl
captured_more s (c ∷ cs) ds =
    ap (λ xs. seen_of s c ++ xs) (captured_more (next_state s c) cs ds)
    ∙ sym (append_assoc (seen_of s c) (captured (next_state s c) cs) (captured (played_all (next_state s c) cs) ds))

-- of a line the packets of its commands are written, and it leaves the state after them
record Tells (s : State) (j : Judged) : Type 0 where
  packets : j.says Packets ≡ packets_of (captured s j.commands)
  state : j.state ≡ played_all s j.commands

tells_by : (s : State) (number : ℕ) (c : Command) (o : Option Reason) → Tells s (judged_by s number c o)
tells_by s number c (Some reason) = record { packets = refl; state = refl }
tells_by s number c None = record { packets = ap packets_of (sym (append-nil (seen_of s c))); state = refl }

tells_as : (s : State) (number : ℕ) (r : Result (Option Command) ℕ) → Tells s (judged_as s number r)
tells_as s number (Err column) = record { packets = refl; state = refl }
tells_as s number (Ok None) = record { packets = refl; state = refl }
tells_as s number (Ok (Some c)) = tells_by s number c (refusal_of s c)

tells_extra : (s : State) (number : ℕ) (x : Extra) (o : Option Reason) → Tells s (judged_extra s number x o)
tells_extra s number x (Some reason) = record { packets = refl; state = refl }
tells_extra s number x None = record { packets = refl; state = refl }

tells_settle : (s : State) (number : ℕ) (o : Option Reason) → Tells s (judged_settle s number o)
tells_settle s number (Some reason) = record { packets = refl; state = refl }
tells_settle s number None = record { packets = refl; state = refl }

tells_line : (s : State) (number : ℕ) (line : List ℕ) (r : Result (Option Extra) ℕ) → Tells s (judged_line s number line r)
tells_line s number line (Err column) = record { packets = refl; state = refl }
tells_line s number line (Ok (Some Settle)) = tells_settle s number (settle_refusal s)
tells_line s number line (Ok (Some x)) = tells_extra s number x (extra_refusal s.world x)
tells_line s number line (Ok None) = tells_as s number (line_of line)

line_tells : (s : State) (number : ℕ) (line : List ℕ) → Tells s (judged s number line)
unfolding judged
line_tells s number line = tells_line s number line (extra_of line)

joined_tells : (s : State) (number : ℕ) (j : Judged) (o : Option Refusal) (p : Played) (ds : List Command) → Tells s j → p.says Packets ≡ packets_of (captured j.state ds)
    → (joined number j o p).says Packets ≡ packets_of (captured s (commands_joined j.commands o ds))
joined_tells s number j None p ds here later =
    let there : p.says Packets ≡ packets_of (captured (played_all s j.commands) ds) = later ∙ ap (λ (t : State). packets_of (captured t ds)) here.state in
    ap (λ l. l ++ p.says Packets) here.packets
    ∙ ap (λ l. packets_of (captured s j.commands) ++ l) there
    ∙ sym (packets_both (captured s j.commands) (captured (played_all s j.commands) ds))
    ∙ ap packets_of (sym (captured_more s j.commands ds))
joined_tells s number j (Some why) p ds here later = here.packets

concluded_tells : (s : State) (number : ℕ) (end : Option Stop) → (concluded s number end).says Packets ≡ []
concluded_tells s number None = refl
concluded_tells s number (Some stop.Long) = refl
concluded_tells s number (Some stop.Over) = refl

lines_tell : (s : State) (number : ℕ) (ls : List (List ℕ)) (end : Option Stop) → (play s number ls end).says Packets ≡ packets_of (captured s (commands_in s number ls))
lines_tell s number [] end = concluded_tells s number end
lines_tell s number (line ∷ ls) end =
    let j : Judged = judged s number line in
    joined_tells s number j j.refused (play j.state (number + 1) ls end) (commands_in j.state (number + 1) ls) (line_tells s number line) (lines_tell j.state (number + 1) ls end)

packets_are_captured : (s : State) (script : List ℕ) → said_in Packets s script ≡ packets_of (captured s (commands_in s 1 (lines_played script)))
unfolding played
packets_are_captured s script = lines_tell s 1 (lines_of start script).0 (lines_of start script).1

-- ---- behind a header

capture_is : (s : State) (script : List ℕ) → header_bytes ++ said_in Packets s script ≡ capture_text s script
capture_is s script = ap (λ l. header_bytes ++ l) (packets_are_captured s script)

module _ {K : Type 0} (holds : K → Option (List ℕ)) (s : State) (a b f : K) (head : Appends (holds a) (holds b) header_bytes) where
  text_behind : (script : List ℕ) → Appends (holds b) (holds f) (said_in Packets s script) → Appends (holds a) (holds f) (capture_text s script)
  text_behind script more =
      subst (Appends (holds a) (holds f)) (capture_is s script) (Appends-trans (holds a) (holds b) (holds f) header_bytes (said_in Packets s script) head more)

  front_behind_one : (script : List ℕ) → AppendsFront (holds b) (holds f) (said_in Packets s script) → AppendsFront (holds a) (holds f) (capture_text s script)
  front_behind_one script front = record {
    front = header_bytes ++ front.front;
    rest = front.rest;
    whole = sym (capture_is s script) ∙ ap (λ l. header_bytes ++ l) front.whole ∙ sym (append_assoc header_bytes front.front front.rest);
    grown = Appends-trans (holds a) (holds b) (holds f) header_bytes front.front head front.grown;
  }

  pub front_behind : (left : Option (List ℕ)) → IfSome left (λ script. AppendsFront (holds b) (holds f) (said_in Packets s script)) → IfSome left (λ script. AppendsFront (holds a) (holds f) (capture_text s script))
  front_behind left = if_some left (λ script. AppendsFront (holds b) (holds f) (said_in Packets s script)) (λ script. AppendsFront (holds a) (holds f) (capture_text s script)) front_behind_one

  pub completes_behind : (left : Option (List ℕ)) (status : Status) (t : State) → IfSome left (λ script. Completes holds (said_in Packets) script status s t b f) → IfSome left (λ script. Completes holds capture_text script status s t a f)
  completes_behind left status t = if_some left (λ script. Completes holds (said_in Packets) script status s t b f) (λ script. Completes holds capture_text script status s t a f)
      (λ script c. record { fate = c.fate; text = text_behind script c.text; state = c.state })

  pub whole_behind : (left left' : Option (List ℕ)) → WritesWhole holds (said_in Packets) s left left' b f → WritesWhole holds capture_text s left left' a f
  whole_behind left left' w = record { read = w.read; consumed = w.consumed; accepted = w.accepted; text = text_behind (whole_part w.read) w.text }

  pub soon_behind : (left left' : Option (List ℕ)) → WritesSoon holds (said_in Packets) s left left' b f → WritesSoon holds capture_text s left left' a f
  soon_behind left left' w =
      let text : List ℕ = said_in Packets s (whole_part w.before) in
      let all : header_bytes ++ (text ++ w.rest) ≡ capture_text s (whole_part w.before) ++ w.rest =
      sym (append_assoc header_bytes text w.rest) ∙ ap (λ l. l ++ w.rest) (capture_is s (whole_part w.before)) in
      record {
        before = w.before;
        piece = w.piece;
        rest = w.rest;
        consumed = w.consumed;
        short = w.short;
        accepted = w.accepted;
        text = subst (Appends (holds a) (holds f)) all (Appends-trans (holds a) (holds b) (holds f) header_bytes (text ++ w.rest) head w.text);
      }

-- a front of the header is one of every capture
pub front_of_header : (left a b : Option (List ℕ)) (s : State) → AppendsFront a b header_bytes → IfSome left (λ script. AppendsFront a b (capture_text s script))
front_of_header None a b s front = tt
front_of_header (Some script) a b s front = Front-longer a b header_bytes (packets_of (captured s (commands_in s 1 (lines_played script)))) front
