-- One direction of a link, while both bridges may step.
use Rattle.std.proofs.Common.{◌≡◌, ◌⊎◌, inl, inr, ◌≤◌, ℕ, true, true≢false, List, [], ◌∷◌, length, refl, sym, ap, ◌∙◌, subst, Option, Some, None, arith}
use Rattle.std.specs.List.{AllByRecursion}
use Rattle.spb_types.specs.declared.address.BridgeId.{BridgeId}
use Rattle.spb_types.specs.declared.address.LspId.{LspId}
use Rattle.link_model.specs.Lane.{Frame, IsIn}
use Rattle.isis_pdu.specs.Pdu.{HelloValue}
use Rattle.spb_tlvs.specs.declared.three_way.ThreeWay.{ThreeWay}
use Rattle.spb_tlvs.specs.RoundTrip.{IsNamed}
use Rattle.lsdb.specs.declared.version.Version.{Version}
use Rattle.lsdb.specs.Version.{IsAtMost}
use Rattle.lsdb.specs.Database.{version_at}
use Rattle.lsdb.specs.Certificate.{IsClaimed, is_flagged, is_absent, is_as_before, is_claimed}
use Rattle.lsdb.proofs.Order.{itself, through, least}
use Rattle.adjacency.specs.Hearing.{End}
use Rattle.bridge_api.specs.View.{BridgeView, neighbour_at, is_up_at}
use Rattle.bridge_api.specs.Parsing.{Parsed, parsed}
use Rattle.bridge_api.specs.Parsing as parsing
use Rattle.bridge_api.specs.Step.{Input, second, frame, carrier, metric, attach, detach, customer, step, sent}
use Rattle.bridge_api.specs.Laws.{IsInput, IsSoundView, IsHeard, IsSent, IsHelloOf, IsWritten, IsFrameOf, hello_sender, port_of, claims_of}
use Rattle.bridge_laws.specs.Brief.{most_frame_bytes, IsFrameThatCame}
use Rattle.bridge_laws.proofs.Frames.{at_most_held}
use Rattle.network_model.specs.Sound.{end_at, IsHelloTo, IsFrameFrom, IsFloodedOrHeld, LinkAgrees}
use Rattle.network_model.proofs.BridgeLaws.{steps_keep_bridge, steps_keep_neighbours, steps_stay_sound, sent_is_sound, sent_is_brief, up_ports_are_up, steps_carry_database}

pub All-in : (P : Frame → Type 0) (fs : List Frame) (f : Frame) → AllByRecursion P fs → IsIn f fs → P f
All-in P [] f all among = absurd among
All-in P (g ∷ gs) f all (inl here) = subst P (sym here) all.0
All-in P (g ∷ gs) f all (inr there) = All-in P gs f all.1 there

pub All-from : (P : Frame → Type 0) (fs : List Frame) → ((f : Frame) → IsIn f fs → P f) → AllByRecursion P fs
All-from P [] each = tt
All-from P (g ∷ gs) each = (each g (inl refl), All-from P gs (λ f among. each f (inr among)))

pub some-is : {X : Type 0} (x y : X) → Some x ≡ Some y → x ≡ y
some-is x y h = cc

-- ---- a bridge to which something comes, or nothing

abbrev pub moved : Option Input → BridgeView → BridgeView
moved None v = v
moved (Some input) v = step input v

abbrev pub sent_by : Option Input → BridgeView → List (ℕ × List ℕ)
sent_by None v = []
sent_by (Some input) v = sent input v

-- what no input changes
pub record IsStill (v w : BridgeView) : Type 0 where
  pub id : w.id ≡ v.id
  pub source : w.source ≡ v.source
  pub vids : w.vids ≡ v.vids

pub moved_same : (x : Option Input) (v : BridgeView) → IsStill v (moved x v)
moved_same None v = record { id = refl; source = refl; vids = refl }
moved_same (Some input) v = let same = steps_keep_bridge input v in record { id = same.id; source = same.source; vids = same.vids }

-- what comes to a bridge, if something does, is an input of it
abbrev pub AreInputs : BridgeView → Option Input → Type 0
AreInputs v None = Unit {0}
AreInputs v (Some input) = IsInput v input

pub moved_sound : (x : Option Input) (v : BridgeView) → AreInputs v x → IsSoundView v → IsSoundView (moved x v)
moved_sound None v is sound = sound
moved_sound (Some input) v is sound = steps_stay_sound input v is sound

pub moved_end : (x : Option Input) (v : BridgeView) (p : ℕ) → end_at (moved x v) p ≡ end_at v p
moved_end x v p = ap (λ (id : BridgeId). (id.system, p)) (moved_same x v).id

-- no version falls
moved_rises : (x : Option Input) (v : BridgeView) (id : LspId) → IsSoundView v → IsAtMost (version_at v.database id) (version_at (moved x v).database id)
moved_rises None v id sound = itself (version_at v.database id)
moved_rises (Some input) v id sound = (steps_carry_database input v sound).rises id

-- ---- both ends of a direction in one move

-- what comes to bridge v is x, and to bridge w is y. Whatever v hears at its port p was on its way there, what is on its
-- way from v afterwards was so before, or is sent now, and what v hears at any port is brief
pub record IsMove (v : BridgeView) (p : ℕ) (w : BridgeView) (q : ℕ) (x y : Option Input) (lane back after : List Frame) : Type 0 where
  pub input : AreInputs v x
  pub first : IsSoundView v
  pub second : IsSoundView w
  pub port : q ≤ 32
  pub there : LinkAgrees v p w q lane
  pub towards : AllByRecursion (IsFrameFrom w q v p) back
  pub heard : (f : Frame) → x ≡ Some (frame p f) → IsIn f back
  pub sends : (f : Frame) → IsIn f after → IsIn f lane ⊎ IsSent (sent_by x v) p f
  pub brief : (r : ℕ) (f : Frame) → x ≡ Some (frame r f) → length f ≤ most_frame_bytes

-- a frame that was heard as a hello is one of the far end
said_by : (j : Parsed) (from to : End) (n : End) → ((h : HelloValue) (way : ThreeWay) → j ≡ parsing.hello h way → IsHelloTo from to h way) → hello_sender j ≡ Some n → n ≡ from
said_by (parsing.dropped reason) from to n said is = absurd cc
said_by (parsing.hello h way) from to n said is = sym (some-is _ _ is) ∙ (said h way refl).sender
said_by (parsing.lsp l) from to n said is = absurd cc
said_by (parsing.csnp c) from to n said is = absurd cc
said_by (parsing.psnp s) from to n said is = absurd cc
said_by (parsing.customer da sa vid isid payload) from to n said is = absurd cc

said_sender : (v : BridgeView) (p : ℕ) (w : BridgeView) (q : ℕ) (f : Frame) (n : End) → IsFrameFrom w q v p f → hello_sender (parsed f) ≡ Some n → n ≡ end_at w q
said_sender v p w q f n said is = said_by (parsed f) (end_at w q) (end_at v p) n said.hello is

moved_keeps : (v : BridgeView) (p : ℕ) (w : BridgeView) (q : ℕ) (x y : Option Input) (lane back after : List Frame) → IsMove v p w q x y lane back after → (n : End) → neighbour_at (moved x v) p ≡ Some n → n ≡ end_at w q
moved_keeps v p w q None y lane back after move n kept = move.there.keeps n kept
moved_keeps v p w q (Some input) y lane back after move n kept =
    elim (steps_keep_neighbours input v p n kept) [
      | inl was ↦ move.there.keeps n was
      | inr heard ↦ by input (λ f e. move.heard f (ap (λ (i : Input). Some i) e)) heard
    ]
  where
    by : (i : Input) → ((f : Frame) → i ≡ frame p f → IsIn f back) → IsHeard i p n → n ≡ end_at w q
    by second from heard = absurd heard
    by (frame r f) from heard = said_sender v p w q f n (All-in (IsFrameFrom w q v p) back f move.towards (from f (ap (λ (k : ℕ). frame k f) heard.0))) heard.1
    by (carrier r on) from heard = absurd heard
    by (metric r m) from heard = absurd heard
    by (attach a) from heard = absurd heard
    by (detach r) from heard = absurd heard
    by (customer r bytes) from heard = absurd heard

-- who is kept can be named
pub named : (o : Option End) (w : BridgeView) (q : ℕ) → IsSoundView w → q ≤ 32 → ((n : End) → o ≡ Some n → n ≡ end_at w q) → IsNamed o
named None w q sound small is = tt
named (Some n) w q sound small is = subst (λ (m : End). IsNamed (Some m)) (sym (is n refl)) (sound.config.system.bytes, omega arith)

-- a hello that is sent is one to the far end
hello_to : (v : BridgeView) (p : ℕ) (to : End) (h : HelloValue) (way : ThreeWay) → IsHelloOf v p h way → ((n : End) → neighbour_at v p ≡ Some n → n ≡ to) → IsHelloTo (end_at v p) to h way
hello_to v p to h way is keeps = record {
  sender = is.sender;
  level = is.level;
  holding = is.holding;
  state = is.state;
  neighbour = λ n named. keeps n (sym is.neighbour ∙ named);
}

-- what was on its way is still said
still_said : (v : BridgeView) (p : ℕ) (w : BridgeView) (q : ℕ) (x y : Option Input) (f : Frame) → IsSoundView v → IsFrameFrom v p w q f → IsFrameFrom (moved x v) p (moved y w) q f
still_said v p w q x y f sound was = record {
  hello = λ h way heard. subst (λ (to : End). IsHelloTo (end_at (moved x v) p) to h way) (sym (moved_end y w q)) (subst (λ (from : End). IsHelloTo from (end_at w q) h way) (sym (moved_end x v p)) (was.hello h way heard));
  claims = λ id a claimed. through a (version_at v.database id) (version_at (moved x v).database id) (was.claims id a claimed) (moved_rises x v id sound);
  written = subst (λ (id : BridgeId). IsWritten id.system.mac f) (sym (moved_same x v).id) was.written;
  brief = was.brief;
}

-- what is relayed is as brief as what was heard
brief_by : (i : Input) (f : Frame) → ((r : ℕ) (g : Frame) → i ≡ frame r g → length g ≤ most_frame_bytes) → (length f ≤ most_frame_bytes) ⊎ IsFrameThatCame i f → length f ≤ most_frame_bytes
brief_by i f heard (inl short) = short
brief_by second f heard (inr came) = absurd came
brief_by (frame r g) f heard (inr came) = subst (λ (h : Frame). length h ≤ most_frame_bytes) (sym came) (heard r g refl)
brief_by (carrier r on) f heard (inr came) = absurd came
brief_by (metric r m) f heard (inr came) = absurd came
brief_by (attach a) f heard (inr came) = absurd came
brief_by (detach r) f heard (inr came) = absurd came
brief_by (customer r bytes) f heard (inr came) = absurd came

-- what is sent is said
newly_said : (v : BridgeView) (p : ℕ) (w : BridgeView) (q : ℕ) (x y : Option Input) (lane back after : List Frame) (f : Frame) → IsMove v p w q x y lane back after → IsSent (sent_by x v) p f → IsFrameFrom (moved x v) p (moved y w) q f
newly_said v p w q None y lane back after f move some = absurd some
newly_said v p w q (Some input) y lane back after f move some =
    let next : BridgeView = step input v in
    let keeps : (n : End) → neighbour_at next p ≡ Some n → n ≡ end_at w q = moved_keeps v p w q (Some input) y lane back after move in
    let own : IsFrameOf next p f = sent_is_sound input v p f move.input move.first (named (neighbour_at next p) w q move.second move.port keeps) some in
    record {
      hello = λ h way heard. subst (λ (to : End). IsHelloTo (end_at next p) to h way) (sym (moved_end y w q)) (hello_to next p (end_at w q) h way (own.hello h way heard) keeps);
      claims = λ id a claimed. at_most_held next id a (own.claims id a claimed);
      written = own.written;
      brief = brief_by input f (λ r g e. move.brief r g (ap (λ (i : Input). Some i) e)) (sent_is_brief input v p f move.input move.first some);
    }

-- whoever is no further behind stays so
moved_ready : (v : BridgeView) (p : ℕ) (w : BridgeView) (q : ℕ) (x y : Option Input) (lane back after : List Frame) → IsMove v p w q x y lane back after → (id : LspId) → is_up_at (moved x v) p ≡ true → IsFloodedOrHeld (moved x v) p (moved y w) id
moved_ready v p w q None y lane back after move id up =
    elim (move.there.ready id up) [
      | inl flagged ↦ inl flagged
      | inr behind ↦ inr (through (version_at v.database id) (version_at w.database id) (version_at (moved y w).database id) behind (moved_rises y w id move.second))
    ]
moved_ready v p w q (Some input) y lane back after move id up =
    let after_sound : IsSoundView (step input v) = steps_stay_sound input v move.input move.first in
    let rises : IsAtMost (version_at w.database id) (version_at (moved y w).database id) = moved_rises y w id move.second in
    elim ((steps_carry_database input v move.first).kept id p (up_ports_are_up (step input v) p after_sound ∙ up)) [
      | is_flagged flagged ↦ inl flagged
      | is_absent none ↦ inr (subst (λ (a : Version). IsAtMost a (version_at (moved y w).database id)) (sym none) (least (version_at (moved y w).database id)))
      | is_as_before was_up unflagged same ↦
          elim (move.there.ready id (sym (up_ports_are_up v p move.first) ∙ was_up)) [
            | inl flagged ↦ absurd (true≢false (sym flagged ∙ unflagged))
            | inr behind ↦ inr (subst (λ (a : Version). IsAtMost a (version_at (moved y w).database id)) (sym same) (through (version_at v.database id) (version_at w.database id) (version_at (moved y w).database id) behind rises))
          ]
      | is_claimed here a claimed below ↦
          inr (through (version_at (step input v).database id) a (version_at (moved y w).database id) below
          (through a (version_at w.database id) (version_at (moved y w).database id) (by input (λ f e. move.heard f (ap (λ (i : Input). Some i) e)) here a claimed) rises))
    ]
  where
    by : (i : Input) → ((f : Frame) → i ≡ frame p f → IsIn f back) → p ≡ port_of i → (a : Version) → IsClaimed (claims_of i) id a → IsAtMost a (version_at w.database id)
    by second from here a claimed = absurd claimed
    by (frame r f) from here a claimed =
        let same : frame r f ≡ frame p f = ap (λ (k : ℕ). frame k f) (sym here) in
        (All-in (IsFrameFrom w q v p) back f move.towards (from f same)).claims id a (subst (λ (i : Input). IsClaimed (claims_of i) id a) same claimed)
    by (carrier r on) from here a claimed = absurd claimed
    by (metric r m) from here a claimed = absurd claimed
    by (attach b) from here a claimed = absurd claimed
    by (detach r) from here a claimed = absurd claimed
    by (customer r bytes) from here a claimed = absurd claimed

-- both bridges may have stepped, and the direction agrees
pub agrees_moved : (v : BridgeView) (p : ℕ) (w : BridgeView) (q : ℕ) (x y : Option Input) (lane back after : List Frame) → IsMove v p w q x y lane back after → LinkAgrees (moved x v) p (moved y w) q after
agrees_moved v p w q x y lane back after move = record {
  said = All-from (IsFrameFrom (moved x v) p (moved y w) q) after (λ f among. said f (move.sends f among));
  keeps = λ n kept. moved_keeps v p w q x y lane back after move n kept ∙ sym (moved_end y w q);
  ready = moved_ready v p w q x y lane back after move;
}
  where
    said : (f : Frame) → IsIn f lane ⊎ IsSent (sent_by x v) p f → IsFrameFrom (moved x v) p (moved y w) q f
    said f (inl old) = still_said v p w q x y f move.first (All-in (IsFrameFrom v p w q) lane f move.there.said old)
    said f (inr new) = newly_said v p w q x y lane back after f move new
