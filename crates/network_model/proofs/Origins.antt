-- What the copies of an LSP have from its origin, after a change: where each of them was there before, is what the
-- origin holds, is dead at a number that was there, or is none.
use Rattle.std.proofs.Common.{◌≡◌, ◌⊎◌, inl, inr, ℕ, ◌≤◌, List, Option, Some, None, slice_get, refl, sym, ap, subst, ◌∙◌, arith}
use Rattle.std.specs.FinMap.{get}
use Rattle.spb_types.specs.declared.address.LspId.{LspId}
use Rattle.spb_types.specs.declared.link.Dir.{Dir}
use Rattle.isis_pdu.specs.Pdu.{LspValue}
use Rattle.link_model.specs.Lane.{Frame, IsIn}
use Rattle.link_model.specs.Lanes.{lane_of}
use Rattle.link_model.specs.declared.lanes.LinkLanes.{LinkLanes}
use Rattle.lsdb.specs.declared.version.Version.{Version}
use Rattle.lsdb.specs.declared.version.Version.TheVariants.{Absent, Live, Dead}
use Rattle.lsdb.specs.Version.{number_of}
use Rattle.lsdb.specs.Entry.{Entry}
use Rattle.lsdb.specs.Database.{version_in}
use Rattle.lsdb.specs.Certificate.{IsClaimed}
use Rattle.flooding.specs.Own.{body_in}
use Rattle.flooding.specs.Hearing.{claim_of}
use Rattle.flooding.specs.Advancing.{Advanced, stays, advances, ends}
use Rattle.bridge_api.specs.View.{BridgeView}
use Rattle.bridge_api.specs.Parsing as parsing
use Rattle.bridge_api.specs.Parsing.{Parsed, parsed}
use Rattle.bridge_api.specs.Laws.{claims_said}
use Rattle.network_model.specs.State.{State}
use Rattle.network_model.specs.Copies.{IsCopy, is_held, is_said, IsText, text_held, text_sent, IsOrigin, HaveOrigins}

-- ---- where a copy and a body come from

-- a copy after a change was there before, is what the origin holds now, is dead at the number of one that was there, or
-- is the absent one, of a bridge that holds nothing
pub data CopyStems (views : List BridgeView) (lanes : List LinkLanes) (id : LspId) (own : Option Entry) (a : Version) : Type 0 where
  was : IsCopy views lanes id a → CopyStems views lanes id own a
  owns : a ≡ version_in own → CopyStems views lanes id own a
  died : (b : Version) → IsCopy views lanes id b → a ≡ Dead (number_of b) → CopyStems views lanes id own a
  absent : a ≡ Absent → CopyStems views lanes id own a

-- a body after a change was there before, or is what the origin holds now
pub data TextStems (views : List BridgeView) (lanes : List LinkLanes) (id : LspId) (own : Option Entry) (seq sum : ℕ) (body : List ℕ) : Type 0 where
  text_was : IsText views lanes id seq sum body → TextStems views lanes id own seq sum body
  text_owns : version_in own ≡ Live seq sum → body_in own ≡ body → TextStems views lanes id own seq sum body

-- ---- what has a body is a copy

pub lsp_claims : (p : Parsed) (id : LspId) (l : LspValue) (a : Version) → p ≡ parsing.lsp l → l.id ≡ id → (claim_of l).version ≡ a → IsClaimed (claims_said p) id a
lsp_claims p id l a is same version = subst (λ (q : Parsed). IsClaimed (claims_said q) id a) (sym is) (inl (same, version))

pub text_copied : (views : List BridgeView) (lanes : List LinkLanes) (id : LspId) (n x : ℕ) (b : List ℕ) → IsText views lanes id n x b → IsCopy views lanes id (Live n x)
text_copied views lanes id n x b (text_held i v e at held version body) = is_held i v at (ap version_in held ∙ version)
text_copied views lanes id n x b (text_sent k dir f l among is same version body) = is_said k dir f among (lsp_claims (parsed f) id l (Live n x) is same version)

-- what is held live under an id is so
pub text_at : (views : List BridgeView) (lanes : List LinkLanes) (id : LspId) (i : ℕ) (v : BridgeView) (n x : ℕ) (b : List ℕ) (o : Option Entry) → slice_get views i ≡ Some v → get v.database id ≡ o → version_in o ≡ Live n x → body_in o ≡ b → IsText views lanes id n x b
text_at views lanes id i v n x b None at is live body = absurd cc
text_at views lanes id i v n x b (Some e) at is live body = text_held i v e at is live body

-- ---- the owner

no_lower : (old new : Option Entry) → Advanced old new → number_of (version_in old) ≤ number_of (version_in new)
no_lower old new (stays version body) = omega (arith, ap number_of version)
no_lower old new (advances less) = omega (arith, less)
no_lower old new (ends seq is low) = omega (arith, low, ap number_of is)

live_same : (n m x y : ℕ) → Live n x ≡ Live m y → x ≡ y
live_same n m x y e = cc

-- a live own version of a number that was reached is the old one
same_own : (old new : Option Entry) (n x : ℕ) → Advanced old new → version_in new ≡ Live n x → n ≤ number_of (version_in old) → (version_in old ≡ Live n x) × (body_in new ≡ body_in old)
same_own old new n x (stays version body) is low = (sym version ∙ is, body)
same_own old new n x (advances less) is low = absurd (omega (arith, less, low, ap number_of is))
same_own old new n x (ends seq dead least) is low = absurd cc

-- ---- the change

module _ (views after : List BridgeView) (lanes left : List LinkLanes) (i : ℕ) (v : BridgeView) (id : LspId) (new : Option Entry) (at : slice_get views i ≡ Some v) (origin : IsOrigin views lanes id (get v.database id)) (advanced : Advanced (get v.database id) new) where
  abbrev pub old : Option Entry
  old = get v.database id

  highest : (a : Version) → CopyStems views lanes id new a → number_of a ≤ number_of (version_in new)
  highest a (was copy) = omega (arith, origin.greatest a copy, no_lower old new advanced)
  highest a (owns is) = omega (arith, ap number_of is)
  highest a (died b copy is) = omega (arith, origin.greatest b copy, no_lower old new advanced, ap number_of is)
  highest a (absent is) = omega (arith, ap number_of is)

  -- of one number, what the origin holds and a copy from before
  beside : (n x y : ℕ) → Live n x ≡ version_in new → IsCopy views lanes id (Live n y) → x ≡ y
  beside n x y is copy =
      let same = same_own old new n x advanced (sym is) (origin.greatest (Live n y) copy) in
      origin.sums n x y (is_held i v at same.0) copy

  one_sum : (n x y : ℕ) → CopyStems views lanes id new (Live n x) → CopyStems views lanes id new (Live n y) → x ≡ y
  one_sum n x y (was one) (was other) = origin.sums n x y one other
  one_sum n x y (was one) (owns other) = sym (beside n y x other one)
  one_sum n x y (was one) (died b copy is) = absurd cc
  one_sum n x y (was one) (absent is) = absurd cc
  one_sum n x y (owns one) (was other) = beside n x y one other
  one_sum n x y (owns one) (owns other) = live_same n n x y (one ∙ sym other)
  one_sum n x y (owns one) (died b copy is) = absurd cc
  one_sum n x y (owns one) (absent is) = absurd cc
  one_sum n x y (died b copy is) other = absurd cc
  one_sum n x y (absent is) other = absurd cc

  text_beside : (n x y : ℕ) (b c : List ℕ) → version_in new ≡ Live n x → body_in new ≡ b → IsText views lanes id n y c → b ≡ c
  text_beside n x y b c is body text =
      let same = same_own old new n x advanced is (origin.greatest (Live n y) (text_copied views lanes id n y c text)) in
      sym body ∙ (same.1 ∙ origin.bodies n x y (body_in old) c (text_at views lanes id i v n x (body_in old) old at refl same.0 refl) text)

  one_body : (n x y : ℕ) (b c : List ℕ) → TextStems views lanes id new n x b → TextStems views lanes id new n y c → b ≡ c
  one_body n x y b c (text_was one) (text_was other) = origin.bodies n x y b c one other
  one_body n x y b c (text_was one) (text_owns is body) = sym (text_beside n y x c b is body one)
  one_body n x y b c (text_owns is body) (text_was other) = text_beside n x y b c is body other
  one_body n x y b c (text_owns is body) (text_owns again whole) = sym body ∙ whole

  pub first_moves : ((a : Version) → IsCopy after left id a → CopyStems views lanes id new a) → ((n x : ℕ) (b : List ℕ) → IsText after left id n x b → TextStems views lanes id new n x b) → IsOrigin after left id new
  first_moves copies texts = record {
    greatest = λ a copy. highest a (copies a copy);
    sums = λ n x y one other. one_sum n x y (copies (Live n x) one) (copies (Live n y) other);
    bodies = λ n x y b c one other. one_body n x y b c (texts n x b one) (texts n y c other);
  }

-- ---- changes of which no bridge takes notice

-- where frames go, copies and bodies go with them
pub fewer_copies : (views : List BridgeView) (lanes left : List LinkLanes) (id : LspId) (a : Version) → ((k : ℕ) (dir : Dir) (f : Frame) → IsIn f (lane_of left k dir) → IsIn f (lane_of lanes k dir)) → IsCopy views left id a → IsCopy views lanes id a
fewer_copies views lanes left id a fewer (is_held i v at is) = is_held i v at is
fewer_copies views lanes left id a fewer (is_said k dir f among claimed) = is_said k dir f (fewer k dir f among) claimed

fewer_texts : (views : List BridgeView) (lanes left : List LinkLanes) (id : LspId) (n x : ℕ) (b : List ℕ) → ((k : ℕ) (dir : Dir) (f : Frame) → IsIn f (lane_of left k dir) → IsIn f (lane_of lanes k dir)) → IsText views left id n x b → IsText views lanes id n x b
fewer_texts views lanes left id n x b fewer (text_held i v e at held version body) = text_held i v e at held version body
fewer_texts views lanes left id n x b fewer (text_sent k dir f l among is same version body) = text_sent k dir f l (fewer k dir f among) is same version body

pub fewer_origins : (s : State) (left : List LinkLanes) → ((k : ℕ) (dir : Dir) (f : Frame) → IsIn f (lane_of left k dir) → IsIn f (lane_of s.lanes k dir)) → HaveOrigins s → HaveOrigins (record s { lanes = left })
fewer_origins s left fewer origins i v id at own =
    first_moves s.views s.views s.lanes left i v id (get v.database id) at (origins i v id at own) (stays refl refl) (λ a copy. was (fewer_copies s.views s.lanes left id a fewer copy)) (λ n x b text. text_was (fewer_texts s.views s.lanes left id n x b fewer text))

-- ---- a bridge that alone has an id

pub alone_origin : (views : List BridgeView) (lanes : List LinkLanes) (id : LspId) (own : Option Entry) → ((a : Version) → IsCopy views lanes id a → (a ≡ version_in own) ⊎ (a ≡ Absent)) → ((n x : ℕ) (b : List ℕ) → IsText views lanes id n x b → body_in own ≡ b) → IsOrigin views lanes id own
alone_origin views lanes id own copies texts = record {
  greatest = λ a copy. elim (copies a copy) [
    | inl is ↦ omega (arith, ap number_of is)
    | inr none ↦ omega (arith, ap number_of none)
  ];
  sums = λ n x y one other. live_same n n x y (itself n x (copies (Live n x) one) ∙ sym (itself n y (copies (Live n y) other)));
  bodies = λ n x y b c one other. sym (texts n x b one) ∙ texts n y c other;
}
  where
    itself : (n x : ℕ) → (Live n x ≡ version_in own) ⊎ (Live n x ≡ Absent) → Live n x ≡ version_in own
    itself n x (inl is) = is
    itself n x (inr none) = absurd cc
