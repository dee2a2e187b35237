-- An LSP that came at a port and is held in the end is to be acknowledged there.
use Rattle.std.proofs.Common.{◌≡◌, ◌≢◌, inl, inr, ℕ, Bool, true, false, List, [], ◌∷◌, refl, sym, ap, ◌∙◌, subst, Option, Some}
use Rattle.std.specs.Prelude.{⊤, if◌then◌else◌}
use Rattle.std.specs.FinMap.{get}
use Rattle.std.proofs.lemmas.Bool.{true≢false, and_parts}
use Rattle.std.proofs.lemmas.Slice.Eq.{bytes_eq-Decides}
use Rattle.spb_types.specs.declared.address.SystemId.{SystemId}
use Rattle.spb_types.specs.declared.address.LspId.{LspId}
use Rattle.spb_types.specs.declared.ports.PortSet.{PortSet}
use Rattle.spb_types.specs.Address.{same_system}
use Rattle.spb_types.specs.Ports.{has, no_ports}
use Rattle.spb_types.proofs.PortLemmas.{has_port, has-with_same}
use Rattle.isis_pdu.specs.Pdu.{LspValue}
use Rattle.lsdb.specs.declared.version.Version.{Version}
use Rattle.lsdb.specs.declared.version.Version.TheVariants.{Absent}
use Rattle.lsdb.specs.declared.version.Relation.{Relation}
use Rattle.lsdb.specs.declared.version.Relation.TheVariants.{Older, Equal, Newer, Confused}
use Rattle.lsdb.specs.Version.{number_of, IsAtMost, relation}
use Rattle.lsdb.specs.Entry.{Entry}
use Rattle.lsdb.specs.Database.{Lsps, version_in, ssn_in, version_at}
use Rattle.lsdb.specs.Certificate.{IsClaimed}
use Rattle.lsdb.proofs.Order.{itself, both_ways, older_is, newer_is, confused_is, equal_is}
use Rattle.flooding.specs.declared.own.Own.{Own}
use Rattle.flooding.specs.Own.{answered}
use Rattle.flooding.specs.Room.{has_room}
use Rattle.flooding.specs.Hearing.{Holding, claim_of, lsp_rule, is_beyond, is_answered, hear_lsp_of, is_full_for_lsp}
use Rattle.flooding.proofs.AtMostHeld.{heard_is_at_most_held}
use Rattle.flooding.proofs.Claimed.{lsp_stands, fitting_is_not_full}
use Rattle.adjacency.specs.Hearing.{End}
use Rattle.bridge_api.specs.View.{BridgeView, is_port_up, up_ports}
use Rattle.bridge_api.specs.Own.{holding_of, originated_if_changed}
use Rattle.bridge_api.specs.Parsing.{Parsed, parsed}
use Rattle.bridge_api.specs.Parsing as parsing
use Rattle.bridge_api.specs.Hearing.{after_drop, heard_lsp, heard_as}
use Rattle.bridge_api.specs.Step.{frame, step}
use Rattle.bridge_api.specs.Laws.{IsSoundView, IsSent, claims_said}
use Rattle.spb_types.specs.declared.drop_reason.DropReason.TheVariants as drop
use Rattle.bridge_api.proofs.Certified.{steps_keep_bridge}
use Rattle.bridge_rounds.specs.Inbox.{Inbox, heard_all}
use Rattle.bridge_rounds.specs.Mail.{HoldsOn, HasRoom}
use Rattle.bridge_rounds.specs.FlagLaws.{HasSsn, ClaimsOnly, HearsAt, LspIsAcked}
use Rattle.bridge_rounds.proofs.FlagClaims.{acked_in, unanswered}
use Rattle.bridge_rounds.proofs.FlagSteps.{in_up, IsUpPort, up_port, heard_there, after_lsp, when}
use Rattle.bridge_rounds.proofs.Folds.{at_port}
use Rattle.bridge_rounds.proofs.LspHeld.{mail_rises}
use Rattle.bridge_rounds.proofs.MailFits.{mail_fits}
use Rattle.bridge_rounds.proofs.FlagFolds.{up_now, next_hears, first_rises, first_stays, later_only, first_only, stays_acked}

-- ---- one LSP

same_systems : (x y : SystemId) → same_system x y ≡ true → x ≡ y
same_systems x y same = let bytes : x.mac.bytes ≡ y.mac.bytes = (bytes_eq-Decides x.mac.bytes y.mac.bytes).0 same in λ i. record { mac = record { bytes = bytes i } }

of_own : (own : Own) (id : LspId) (r : Relation) → is_answered own id r ≡ true → id.system ≡ own.system
of_own own id r answers = same_systems id.system own.system (and_parts (same_system id.system own.system) (is_beyond r) answers).0

module _ (up : PortSet) (p : ℕ) (is_up : has up p ≡ true) where
  acked_by : (l : LspValue) (own : Own) (held : Option Entry) (r : Relation) (b : Bool) → relation (claim_of l).version (version_in held) ≡ r → is_answered own l.id r ≡ b
      → IsAtMost (version_in held) (claim_of l).version → (claim_of l).version ≢ Absent → (l.id.system ≡ own.system → version_in held ≡ (claim_of l).version)
      → has (ssn_in (if b then Some (answered up own l.id (number_of (claim_of l).version)) else lsp_rule up p l r held)) p ≡ true
  acked_by l own held Older b is answers below some own_same = absurd (true≢false (sym below ∙ (older_is (claim_of l).version (version_in held) is).1))
  acked_by l own held Equal true is answers below some own_same = absurd (true≢false (sym answers ∙ unanswered own l.id Equal refl))
  acked_by l own held Equal false is answers below some own_same =
      (acked_in p (has_port up p is_up).0 (has_port up p is_up).1 held).ssn (λ none. some (equal_is (claim_of l).version (version_in held) is ∙ none))
  acked_by l own held Newer true is answers below some own_same =
      let same : version_in held ≡ (claim_of l).version = own_same (of_own own l.id Newer answers) in
      absurd (true≢false (sym (subst (IsAtMost (claim_of l).version) (sym same) (itself (claim_of l).version)) ∙ (newer_is (claim_of l).version (version_in held) is).0))
  acked_by l own held Newer false is answers below some own_same = has-with_same no_ports p (has_port up p is_up).0 (has_port up p is_up).1
  acked_by l own held Confused b is answers below some own_same = absurd (true≢false (sym below ∙ (confused_is (claim_of l).version (version_in held) is).1))

  -- one that is no older than what is held, and isn't answered
  pub lsp_acked : (l : LspValue) (h : Holding) → is_full_for_lsp up p l h ≡ false → IsAtMost (version_at h.db l.id) (claim_of l).version → (claim_of l).version ≢ Absent
      → (l.id.system ≡ h.own.system → version_at h.db l.id ≡ (claim_of l).version) → has (ssn_in (get (hear_lsp_of up p l h).db l.id)) p ≡ true
  lsp_acked l h there below some own_same =
      let held : Option Entry = get h.db l.id in
      let r : Relation = relation (claim_of l).version (version_in held) in
      ap (λ (o : Option Entry). has (ssn_in o) p) (lsp_stands up p l h there) ∙ acked_by l h.own held r (is_answered h.own l.id r) refl refl below some own_same

-- ---- the frame in which it comes

-- the database after it
lsp_database : (v : BridgeView) (p : ℕ) (bytes : List ℕ) (l : LspValue) → IsSoundView v → IsUpPort v p → parsed bytes ≡ parsing.lsp l → (step (frame p bytes) v).database ≡ (hear_lsp_of (up_ports v) p l (holding_of v)).db
lsp_database v p bytes l sound at is =
    after_lsp v (step (frame p bytes) v) p l sound
    (heard_there v p bytes sound at
    ∙ (ap (λ (j : Parsed). heard_as j p at.port v) is
    ∙ when (is_port_up at.port) (originated_if_changed (heard_lsp l p v)) (after_drop drop.NotAdjacent v) at.up))

-- what it brings, if it has a place and no more than it claims is held in the end
pub record IsBrought (p : ℕ) (l : LspValue) (w : BridgeView) : Type 0 where
  pub version : version_at w.database l.id ≡ (claim_of l).version
  pub acked : HasSsn w l.id p

lsp_brought : (v : BridgeView) (p : ℕ) (n : End) (bytes : List ℕ) (l : LspValue) (fs : Inbox) → HearsAt p n ((p, bytes) ∷ fs) v → parsed bytes ≡ parsing.lsp l → has_room v.id.system v.database l.id ≡ true
    → IsAtMost (version_at (step (frame p bytes) v).database l.id) (claim_of l).version → (claim_of l).version ≢ Absent → (l.id.system ≡ v.id.system → version_at v.database l.id ≡ (claim_of l).version)
    → IsBrought p l (step (frame p bytes) v)
lsp_brought v p n bytes l fs hears is room below some own_same =
    let w : BridgeView = step (frame p bytes) v in
    let a : Version = (claim_of l).version in
    let up = (up_now p n ((p, bytes) ∷ fs) v hears.up).up in
    let db = lsp_database v p bytes l hears.sound (up_port v p up) is in
    let there : is_full_for_lsp (up_ports v) p l (holding_of v) ≡ false = fitting_is_not_full (lsp_rule (up_ports v) p l) (up_ports v) (claim_of l) (holding_of v) room in
    let above : IsAtMost a (version_at w.database l.id) = subst (λ (d : Lsps). IsAtMost a (version_at d l.id)) (sym db) (heard_is_at_most_held (up_ports v) p l (holding_of v) there) in
    let now : version_at w.database l.id ≡ a = both_ways (version_at w.database l.id) a below above in
    let before : IsAtMost (version_at v.database l.id) a = subst (IsAtMost (version_at v.database l.id)) now (first_rises (p, bytes) v l.id hears.sound) in
    record {
      version = now;
      acked = ap (λ (d : Lsps). has (ssn_in (get d l.id)) p) db ∙ lsp_acked (up_ports v) p (in_up v p hears.sound up) l (holding_of v) there before some own_same;
    }

-- ---- all frames

-- the id has room before each of the frames
abbrev pub HasRoomOn : LspId → Inbox → BridgeView → Type 0
HasRoomOn x [] v = ⊤
HasRoomOn x (f ∷ fs) v = (has_room v.id.system v.database x ≡ true) × HasRoomOn x fs (step (frame f.0 f.1) v)

module _ (p : ℕ) (n : End) (l : LspValue) (a : Version) (some : a ≢ Absent) where
  -- it comes first
  acked_first : (v : BridgeView) (bytes : List ℕ) (fs : Inbox) → HearsAt p n ((p, bytes) ∷ fs) v → HasRoomOn l.id ((p, bytes) ∷ fs) v → parsed bytes ≡ parsing.lsp l → ClaimsOnly p l.id a ((p, bytes) ∷ fs)
      → version_at (heard_all ((p, bytes) ∷ fs) v).database l.id ≡ a → (l.id.system ≡ v.id.system → version_at v.database l.id ≡ a) → HasSsn (heard_all ((p, bytes) ∷ fs) v) l.id p
  acked_first v bytes fs hears room is only last own_same =
      let w : BridgeView = step (frame p bytes) v in
      let later : HearsAt p n fs w = next_hears p n (p, bytes) fs v hears in
      let claim : (claim_of l).version ≡ a = first_only p l.id a (p, bytes) fs only refl (claim_of l).version (subst (λ (j : Parsed). IsClaimed (claims_said j) l.id (claim_of l).version) (sym is) (inl (refl, refl))) in
      let below : IsAtMost (version_at w.database l.id) (claim_of l).version = subst (IsAtMost (version_at w.database l.id)) (last ∙ sym claim) (mail_rises w fs l.id later.sound) in
      let brought : IsBrought p l w = lsp_brought v p n bytes l fs hears is room.0 below (λ none. some (sym claim ∙ none)) (λ own. own_same own ∙ sym claim) in
      let now : version_at w.database l.id ≡ a = brought.version ∙ claim in
      stays_acked p n w fs l.id later (record { stays = last ∙ sym now; claims = λ b claimed. later_only p l.id a (p, bytes) fs only b claimed ∙ sym now }) brought.acked

  pub all_acked : (v : BridgeView) (bytes : List ℕ) (fs : Inbox) → HearsAt p n fs v → HasRoomOn l.id fs v → IsSent fs p bytes → parsed bytes ≡ parsing.lsp l → ClaimsOnly p l.id a fs
      → version_at (heard_all fs v).database l.id ≡ a → (l.id.system ≡ v.id.system → version_at v.database l.id ≡ a) → HasSsn (heard_all fs v) l.id p
  all_acked v bytes [] hears room none is only last own_same = absurd none
  all_acked v bytes (f ∷ fs) hears room there is only last own_same =
      let w : BridgeView = step (frame f.0 f.1) v in
      elim there [
        | inl here ↦ at_once here.0 here.1
        | inr later ↦
            all_acked w bytes fs (next_hears p n f fs v hears) room.1 later is (later_only p l.id a f fs only) last
            (λ own. let before : version_at v.database l.id ≡ a = own_same (own ∙ ap (λ id. id.system) (steps_keep_bridge (frame f.0 f.1) v).id) in
            first_stays f fs v l.id hears.sound (last ∙ sym before) ∙ before)
      ]
    where
      at_once : f.0 ≡ p → f.1 ≡ bytes → HasSsn (heard_all (f ∷ fs) v) l.id p
      at_once port same =
          let e : f ≡ (p, bytes) = λ i. (port i, same i) in
          subst (λ (g : ℕ × List ℕ). HasSsn (heard_all (g ∷ fs) v) l.id p) (sym e)
          (acked_first v bytes fs (subst (λ (g : ℕ × List ℕ). HearsAt p n (g ∷ fs) v) e hears) (subst (λ (g : ℕ × List ℕ). HasRoomOn l.id (g ∷ fs) v) e room) is
          (subst (λ (g : ℕ × List ℕ). ClaimsOnly p l.id a (g ∷ fs)) e only) (subst (λ (g : ℕ × List ℕ). version_at (heard_all (g ∷ fs) v).database l.id ≡ a) e last) own_same)

-- ---- where there is room for all that comes

room_from : (x : LspId) (fs : Inbox) (v : BridgeView) → HoldsOn HasRoom fs v → HasRoomOn x fs v
room_from x [] v holds = tt
room_from x (f ∷ fs) v holds = (holds.0 x, room_from x fs (step (frame f.0 f.1) v) holds.1)

pub lsp_is_acked : LspIsAcked
lsp_is_acked ids p n v fs bytes l a hears mail within few there is only last some own_same =
    all_acked p n l a some v bytes fs hears (room_from l.id fs v (mail_fits ids v fs hears.sound mail within few).0) (at_port p fs bytes there) is only last own_same
