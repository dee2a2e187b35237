-- After a move of the network the copies of an LSP have what they had from their origin.
use Rattle.std.proofs.Common.{◌≡◌, ◌≢◌, inl, inr, ◌≤◌, ℕ, List, [], ◌∷◌, length, true, refl, sym, ap, ◌∙◌, subst, Option, Some, None, slice_get, arith}
use Rattle.std.proofs.lemmas.Bool.{cases_eq}
use Rattle.std.specs.Option.{option_map}
use Rattle.std.specs.FinMap.{get}
use Rattle.spb_types.specs.declared.address.BridgeId.{BridgeId}
use Rattle.spb_types.specs.declared.address.LspId.{LspId}
use Rattle.spb_types.specs.declared.link.Dir.{Dir}
use Rattle.isis_pdu.specs.Pdu.{LspValue}
use Rattle.link_model.specs.declared.lanes.LinkLanes.{LinkLanes}
use Rattle.link_model.specs.Lane.{Frame}
use Rattle.lsdb.specs.declared.version.Version.{Version}
use Rattle.lsdb.specs.declared.version.Version.TheVariants.{Live}
use Rattle.lsdb.specs.Entry.{Entry, AreKept, body_at}
use Rattle.lsdb.specs.Database.{version_in}
use Rattle.lsdb.specs.Certificate.{Claim}
use Rattle.flooding.specs.Own.{IsOwnNumber, body_in, flags_in, tlvs_of_body}
use Rattle.flooding.specs.Hearing.{claim_of, body_of}
use Rattle.flooding.specs.Entries.{IsSendable}
use Rattle.flooding.specs.Advancing as advancing
use Rattle.flooding.specs.Advancing.{Advanced}
use Rattle.flooding.proofs.OwnNumbers.{not_own}
use Rattle.flooding.proofs.SendableEntries.{sent_is_held}
use Rattle.bridge_api.specs.View.{BridgeView}
use Rattle.bridge_api.specs.Parsing.{Parsed, parsed}
use Rattle.bridge_api.specs.Parsing as parsing
use Rattle.bridge_api.specs.Step.{Input, second, frame, carrier, metric, attach, detach, customer, step}
use Rattle.bridge_api.specs.Laws.{IsSoundView, IsHeldLsp, claims_of}
use Rattle.bridge_api.specs.Time as time
use Rattle.bridge_api.specs.Time.{AgedFrom}
use Rattle.bridge_laws.specs.Counting as counting
use Rattle.bridge_laws.specs.Counting.{LearnedAt, lsp_said, lsp_of}
use Rattle.spb_world.specs.declared.declaration.DeclaredLink.{DeclaredLink}
use Rattle.spb_world.proofs.BoxLemmas.{All-get}
use Rattle.spb_world.proofs.SoundLaneIds.{turned}
use Rattle.network_model.specs.State.{State, links_of}
use Rattle.network_model.specs.Copies.{IsText, text_held, text_sent, IsOrigin, HaveOrigins}
use Rattle.network_model.proofs.BridgeLaws.{seconds_age, steps_learn, steps_advance}
use Rattle.network_model.proofs.SoundLane.{some-is, moved, moved_same}
use Rattle.network_model.proofs.SoundMoves.{Comes, GoesOut, got_mapped}
use Rattle.network_model.proofs.Origins.{CopyStems, TextStems, text_was, text_owns, text_at, first_moves}
use Rattle.network_model.proofs.Origins as stem
use Rattle.network_model.proofs.CountedMoves.{Turn, Stems, views_apart, frame_sent, stems}
use Rattle.network_model.proofs.CountedMoves as moves

-- ---- what is heard, and what grows old

-- a frame that was taken for an LSP is that one
lsp_said_is : (p : Parsed) (l : LspValue) → lsp_said p ≡ Some l → p ≡ parsing.lsp l
lsp_said_is (parsing.dropped reason) l is = absurd cc
lsp_said_is (parsing.hello h way) l is = absurd cc
lsp_said_is (parsing.lsp m) l is = ap parsing.lsp (some-is m l is)
lsp_said_is (parsing.csnp c) l is = absurd cc
lsp_said_is (parsing.psnp c) l is = absurd cc
lsp_said_is (parsing.customer da sa vid isid payload) l is = absurd cc

module _ (views : List BridgeView) (lanes : List LinkLanes) (id : LspId) (own : Option Entry) (n x : ℕ) (b : List ℕ) where
  -- an LSP that comes to a bridge was on its way there
  text_came : (links : List DeclaredLink) (j : ℕ) (y : Input) (l : LspValue) → ((p : ℕ) (f : Frame) → y ≡ frame p f → Comes links lanes j p f) → lsp_of y ≡ Some l → l.id ≡ id → (claim_of l).version ≡ Live n x → body_of l ≡ b → IsText views lanes id n x b
  text_came links j second l comes is same version body = absurd cc
  text_came links j (frame p f) l comes is same version body =
      let here = comes p f refl in text_sent here.lane.link (turned here.lane.dir) f l here.among (lsp_said_is (parsed f) l is) same version body
  text_came links j (carrier p on) l comes is same version body = absurd cc
  text_came links j (metric p m) l comes is same version body = absurd cc
  text_came links j (attach a) l comes is same version body = absurd cc
  text_came links j (detach p) l comes is same version body = absurd cc
  text_came links j (customer p bytes) l comes is same version body = absurd cc

  text_aged : (j : ℕ) (u : BridgeView) (new : Option Entry) → slice_get views j ≡ Some u → AgedFrom (get u.database id) new → version_in new ≡ Live n x → body_in new ≡ b → TextStems views lanes id own n x b
  text_aged j u new at (time.stays version body lower upper) live is = text_was (text_at views lanes id j u n x b (get u.database id) at refl (sym version ∙ live) (sym body ∙ is))
  text_aged j u new at (time.dies alive last version body) live is = absurd cc

  text_learned : (links : List DeclaredLink) (j : ℕ) (u : BridgeView) (y : Input) (new : Option Entry) → slice_get views j ≡ Some u → ((p : ℕ) (f : Frame) → y ≡ frame p f → Comes links lanes j p f) → LearnedAt (claims_of y) (lsp_of y) id (get u.database id) new → version_in new ≡ Live n x → body_in new ≡ b → TextStems views lanes id own n x b
  text_learned links j u y new at comes (counting.stays version body) live is = text_was (text_at views lanes id j u n x b (get u.database id) at refl (sym version ∙ live) (sym body ∙ is))
  text_learned links j u y new at comes (counting.stores l heard same version body) live is =
      let said : (claim_of l).version ≡ Live n x = sym version ∙ live in
      let kept : body_at (claim_of l).version (body_of l) ≡ body_of l = ap (λ (a : Version). body_at a (body_of l)) said in
      text_was (text_came links j y l comes heard same said (sym kept ∙ (sym body ∙ is)))
  text_learned links j u y new at comes (counting.joins a claimed apart number version) live is = absurd cc

  -- at a bridge of another system
  other_text : (links : List DeclaredLink) (j : ℕ) (u : BridgeView) (o : Option Input) → slice_get views j ≡ Some u → id.system ≢ u.id.system → ((p : ℕ) (f : Frame) → o ≡ Some (frame p f) → Comes links lanes j p f) → version_in (get (moved o u).database id) ≡ Live n x → body_in (get (moved o u).database id) ≡ b → TextStems views lanes id own n x b
  other_text links j u None at apart comes live is = text_was (text_at views lanes id j u n x b (get u.database id) at refl live is)
  other_text links j u (Some second) at apart comes live is = text_aged j u (get (step second u).database id) at (seconds_age u id (not_own u.id.system id apart)) live is
  other_text links j u (Some (frame p f)) at apart comes live is =
      text_learned links j u (frame p f) (get (step (frame p f) u).database id) at (λ q g e. comes q g (ap (λ (y : Input). Some y) e)) (steps_learn (frame p f) u id apart (λ e. absurd cc)) live is
  other_text links j u (Some (carrier p on)) at apart comes live is =
      text_learned links j u (carrier p on) (get (step (carrier p on) u).database id) at (λ q g e. absurd cc) (steps_learn (carrier p on) u id apart (λ e. absurd cc)) live is
  other_text links j u (Some (metric p m)) at apart comes live is =
      text_learned links j u (metric p m) (get (step (metric p m) u).database id) at (λ q g e. absurd cc) (steps_learn (metric p m) u id apart (λ e. absurd cc)) live is
  other_text links j u (Some (attach c)) at apart comes live is =
      text_learned links j u (attach c) (get (step (attach c) u).database id) at (λ q g e. absurd cc) (steps_learn (attach c) u id apart (λ e. absurd cc)) live is
  other_text links j u (Some (detach p)) at apart comes live is =
      text_learned links j u (detach p) (get (step (detach p) u).database id) at (λ q g e. absurd cc) (steps_learn (detach p) u id apart (λ e. absurd cc)) live is
  other_text links j u (Some (customer p bytes)) at apart comes live is =
      text_learned links j u (customer p bytes) (get (step (customer p bytes) u).database id) at (λ q g e. absurd cc) (steps_learn (customer p bytes) u id apart (λ e. absurd cc)) live is

-- ---- what is sent

-- a body that has a byte is the flags octet and then the TLVs
whole_body : (body : List ℕ) → 1 ≤ length body → flags_in body ∷ tlvs_of_body body ≡ body
whole_body [] some = absurd (omega (arith, some))
whole_body (flags ∷ tlvs) some = refl

live_body : (a : Version) (n x lifetime : ℕ) (body : List ℕ) → a ≡ Live n x → AreKept a lifetime body → 1 ≤ length body
live_body a n x lifetime body is kept = let both : AreKept (Live n x) lifetime body = subst (λ (c : Version). AreKept c lifetime body) is kept in both.1

-- the LSP of what is held, live, has the body of it
pub record IsHeldLive (w : BridgeView) (id : LspId) (n x : ℕ) (b : List ℕ) : Type 0 where
  pub version : version_in (get w.database id) ≡ Live n x
  pub body : body_in (get w.database id) ≡ b

held_live : (w : BridgeView) (l : LspValue) (id : LspId) (n x : ℕ) (b : List ℕ) → IsSoundView w → IsHeldLsp w l → l.id ≡ id → (claim_of l).version ≡ Live n x → body_of l ≡ b → IsHeldLive w id n x b
held_live w l id n x b sound held same version body =
    let e : Entry = held.0 in
    let got : get w.database id ≡ Some e = ap (λ (y : LspId). get w.database y) (sym same) ∙ held.1 in
    let sendable : IsSendable l.id e = sound.database.sendable l.id e held.1 in
    let claim : (claim_of l).version ≡ e.version = ap (λ (m : LspValue). (claim_of m).version) held.2 ∙ ap (λ (c : Claim). c.version) (sent_is_held l.id e sendable) in
    let live : e.version ≡ Live n x = sym claim ∙ version in
    let spelled : body_of l ≡ e.body = ap body_of held.2 ∙ whole_body e.body (live_body e.version n x e.lifetime e.body live sendable.clean) in
    record { version = ap version_in got ∙ live; body = ap body_in got ∙ (sym spelled ∙ body) }

-- ---- the move

from_stems : (views : List BridgeView) (lanes : List LinkLanes) (id : LspId) (own : Option Entry) (a : Version) → Stems true views lanes id (version_in own) a → CopyStems views lanes id own a
from_stems views lanes id own a (moves.was copy) = stem.was copy
from_stems views lanes id own a (moves.owns is) = stem.owns is
from_stems views lanes id own a (moves.aged ages b copy is) = stem.died b copy is
from_stems views lanes id own a (moves.met b c copy other apart same is) = stem.died b copy is

own_advances : (v : BridgeView) (o : Option Input) (id : LspId) → id.system ≡ v.id.system → Advanced (get v.database id) (get (moved o v).database id)
own_advances v None id mine = advancing.stays refl refl
own_advances v (Some y) id mine = steps_advance y v id mine

module _ (s t : State) (o : ℕ → Option Input) (turn : Turn s t o) (i : ℕ) (v : BridgeView) (id : LspId) (at : slice_get s.views i ≡ Some v) (owned : IsOwnNumber v.id.system id) where
  abbrev pub own_after : Option Entry
  own_after = get (moved (o i) v).database id

  mine : id.system ≡ v.id.system
  mine = ap (λ (y : LspId). y.system) owned.is

  held_text : (j : ℕ) (u : BridgeView) (n x : ℕ) (b : List ℕ) → slice_get s.views j ≡ Some u → IsHeldLive (moved (o j) u) id n x b → TextStems s.views s.lanes id own_after n x b
  held_text j u n x b at_j held =
      elim (cases_eq j i) [
        | inl here ↦
            let same : u ≡ v = some-is u v (sym at_j ∙ (ap (slice_get s.views) here ∙ at)) in
            let entry : get (moved (o j) u).database id ≡ own_after = λ k. get (moved (o (here k)) (same k)).database id in
            text_owns (sym (ap version_in entry) ∙ held.version) (sym (ap body_in entry) ∙ held.body)
        | inr apart ↦
            other_text s.views s.lanes id own_after n x b (links_of s) j u (o j) at_j (λ e. apart (views_apart s j i u v turn.before at_j at (sym e ∙ mine))) (turn.moves.heard j) held.version held.body
      ]

  sent_text : (k : ℕ) (dir : Dir) (f : Frame) (l : LspValue) (n x : ℕ) (b : List ℕ) → (out : GoesOut (links_of s) o s.views k dir f) → parsed f ≡ parsing.lsp l → l.id ≡ id → (claim_of l).version ≡ Live n x → body_of l ≡ b → IsHeldLive (moved (o out.place) out.view) id n x b
  sent_text k dir f l n x b out is same version body =
      let w : BridgeView = moved (o out.place) out.view in
      let here : slice_get t.views out.place ≡ Some w = turn.moves.bridges out.place ∙ ap (option_map (moved (o out.place))) out.from in
      held_live w l id n x b (All-get IsSoundView t.views out.place w turn.after.views here) ((frame_sent s t o k dir f turn out).lsp l is) same version body

  text_stems : (n x : ℕ) (b : List ℕ) → IsText t.views t.lanes id n x b → TextStems s.views s.lanes id own_after n x b
  text_stems n x b (text_held j w e at_j held version body) =
      let was = got_mapped (moved (o j)) (slice_get s.views j) w (sym (turn.moves.bridges j) ∙ at_j) in
      let same : get (moved (o j) was.0).database id ≡ Some e = ap (λ (y : BridgeView). get y.database id) (sym was.2) ∙ held in
      held_text j was.0 n x b was.1 (record { version = ap version_in same ∙ version; body = ap body_in same ∙ body })
  text_stems n x b (text_sent k dir f l among is same version body) =
      elim (turn.moves.frames k dir f among) [
        | inl old ↦ text_was (text_sent k dir f l old is same version body)
        | inr out ↦ held_text out.place out.view n x b out.from (sent_text k dir f l n x b out is same version body)
      ]

  origin_moved : IsOrigin s.views s.lanes id (get v.database id) → IsOrigin t.views t.lanes id own_after
  origin_moved origin =
      first_moves s.views t.views s.lanes t.lanes i v id own_after at origin (own_advances v (o i) id mine)
      (λ a copy. from_stems s.views s.lanes id own_after a (stems true s t o turn (λ j is. refl) i v id at owned a copy)) text_stems

pub origins_moved : (s t : State) (o : ℕ → Option Input) → Turn s t o → HaveOrigins s → HaveOrigins t
origins_moved s t o turn origins i w id at own =
    let was = got_mapped (moved (o i)) (slice_get s.views i) w (sym (turn.moves.bridges i) ∙ at) in
    let owned : IsOwnNumber was.0.id.system id = subst (λ (y : BridgeId). IsOwnNumber y.system id) (ap (λ (v : BridgeView). v.id) was.2 ∙ (moved_same (o i) was.0).id) own in
    subst (λ (v : BridgeView). IsOrigin t.views t.lanes id (get v.database id)) (sym was.2) (origin_moved s t o turn i was.0 id was.1 owned (origins i was.0 id was.1 owned))
