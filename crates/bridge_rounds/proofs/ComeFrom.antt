-- Of another system a version is held after a round that was held or claimed, where no two live ones of one number meet.
use Rattle.std.proofs.Common.{◌≡◌, ◌≢◌, ◌≤◌, inl, inr, ℕ, List, [], ◌∷◌, refl, sym, ap, ◌∙◌, subst, Option, Some, None, Result, Ok, Err, arith}
use Rattle.std.specs.FinMap.{get}
use Rattle.spb_types.specs.declared.address.LspId.{LspId}
use Rattle.spb_tlvs.specs.declared.entries.SnpEntry.{SnpEntry}
use Rattle.spb_tlvs.specs.declared.error.TlvError.{TlvError}
use Rattle.lsdb.specs.declared.version.Version.{Version}
use Rattle.lsdb.specs.declared.version.Version.TheVariants.{Absent, Live, Dead}
use Rattle.lsdb.specs.Version.{number_of}
use Rattle.lsdb.specs.Laws.{AreTwoLives}
use Rattle.lsdb.specs.Entry.{Entry}
use Rattle.lsdb.specs.Database.{version_in, version_at}
use Rattle.lsdb.specs.Certificate.{IsClaimed}
use Rattle.flooding.specs.Entries.{IsNumbered}
use Rattle.flooding.proofs.SendableEntries.{claim_is_numbered}
use Rattle.snp_sync.specs.Reading.{entries_in}
use Rattle.snp_sync.specs.Hearing.{claims_in}
use Rattle.bridge_api.specs.View.{BridgeView}
use Rattle.bridge_api.specs.Parsing.{Parsed, parsed}
use Rattle.bridge_api.specs.Parsing as parsing
use Rattle.bridge_api.specs.Step.{second, frame, step}
use Rattle.bridge_api.specs.Laws.{IsSoundView, claims_said, claims_or_none}
use Rattle.bridge_api.proofs.Certified.{steps_keep_bridge}
use Rattle.bridge_laws.specs.Counting.{IsKnown, is_held, is_claimed, Learned, takes, ends}
use Rattle.bridge_laws.proofs.Learning.{steps_learn_versions}
use Rattle.bridge_rounds.specs.Inbox.{Inbox, heard_all}
use Rattle.bridge_rounds.specs.Versions.{IsHeldOrClaimed, VersionsComeFrom}
use Rattle.bridge_rounds.proofs.Folds.{mail_keeps, claim_at, claim_comes}

-- ---- what is claimed, or held, has a number unless it is absent

entries_numbered : (es : List SnpEntry) (id : LspId) (a : Version) → IsClaimed (claims_in es) id a → IsNumbered a
entries_numbered [] id a claimed = absurd claimed
entries_numbered (e ∷ es) id a (inl here) = subst IsNumbered here.1 (claim_is_numbered e.seq e.lifetime e.sum)
entries_numbered (e ∷ es) id a (inr there) = entries_numbered es id a there

read_numbered : (es : Result (List SnpEntry) TlvError) (id : LspId) (a : Version) → IsClaimed (claims_or_none es) id a → IsNumbered a
read_numbered (Ok es) id a claimed = entries_numbered es id a claimed
read_numbered (Err e) id a claimed = absurd claimed

said_numbered : (j : Parsed) (id : LspId) (a : Version) → IsClaimed (claims_said j) id a → IsNumbered a
said_numbered (parsing.dropped reason) id a claimed = absurd claimed
said_numbered (parsing.hello h way) id a claimed = absurd claimed
said_numbered (parsing.lsp l) id a (inl here) = subst IsNumbered here.1 (claim_is_numbered l.seq l.lifetime l.sum)
said_numbered (parsing.lsp l) id a (inr none) = absurd none
said_numbered (parsing.csnp c) id a claimed = read_numbered (entries_in c.tlvs) id a claimed
said_numbered (parsing.psnp s) id a claimed = read_numbered (entries_in s.tlvs) id a claimed
said_numbered (parsing.customer da sa vid isid payload) id a claimed = absurd claimed

held_numbered : (v : BridgeView) (id : LspId) (o : Option Entry) → IsSoundView v → get v.database id ≡ o → IsNumbered (version_in o)
held_numbered v id None was is = tt
held_numbered v id (Some e) was is = (was.database.sendable id e is).numbered

-- ---- where no two live ones of one number meet

module _ (v : BridgeView) (fs : Inbox) (id : LspId) (was : IsSoundView v) (apart : ((a b : Version) → IsHeldOrClaimed v fs id a → IsHeldOrClaimed v fs id b → AreTwoLives a b → ⊥)) where
  abbrev Known : Version → Type 0
  Known a = IsHeldOrClaimed v fs id a

  known_numbered : (a : Version) → Known a → IsNumbered a
  known_numbered a (inl held) = subst IsNumbered (sym held) (held_numbered v id (get v.database id) was refl)
  known_numbered a (inr claimed) = let there = claim_comes fs claimed.0 id a claimed.1 in said_numbered (parsed there.bytes) id a there.claimed

  -- of two that differ at one number, one is dead there
  dead_known : (a b : Version) → Known a → Known b → a ≢ b → number_of a ≡ number_of b → Known (Dead (number_of a))
  dead_known (Dead n) b first next differ number = first
  dead_known (Live n s) (Dead m) first next differ number = subst (λ (k : ℕ). Known (Dead k)) (sym number) next
  dead_known (Live n s) (Live m t) first next differ number =
      let two : AreTwoLives (Live n s) (Live m t) = record {
        number = n;
        sum = s;
        other_sum = t;
        apart = λ e. differ (λ i. Live (number i) (e i));
        first = refl;
        second = ap (λ (k : ℕ). Live k t) (sym number);
      } in
      absurd (apart (Live n s) (Live m t) first next two)
  dead_known (Live n s) Absent first next differ number = let some : 1 ≤ n = known_numbered (Live n s) first in absurd (omega (arith, some, number))
  dead_known Absent (Dead m) first next differ number = subst (λ (k : ℕ). Known (Dead k)) (sym number) next
  dead_known Absent (Live m t) first next differ number = let some : 1 ≤ m = known_numbered (Live m t) next in absurd (omega (arith, some, number))
  dead_known Absent Absent first next differ number = absurd (differ refl)

  module _ (q : ℕ) (bytes : List ℕ) (held : Version) (known : Known held) (said : (a : Version) → IsClaimed (claims_said (parsed bytes)) id a → Known a) where
    known_of : (a : Version) → IsKnown held (claims_said (parsed bytes)) id a → Known a
    known_of a (is_held is) = subst Known (sym is) known
    known_of a (is_claimed claimed) = said a claimed

    learned_known : (new : Version) → Learned held (claims_said (parsed bytes)) id new → Known new
    learned_known new (takes one) = known_of new one
    learned_known new (ends a b first next differ number is) = subst Known (sym is) (dead_known a b (known_of a first) (known_of b next) differ number)

  known_after : id.system ≢ v.id.system → (v.id.system ≡ v.id.system) × Known (version_at v.database id) → Known (version_at (heard_all fs v).database id)
  known_after other first =
      (mail_keeps (λ (u : BridgeView). (u.id.system ≡ v.id.system) × Known (version_at u.database id)) fs v
      (λ q bytes u sent kept.
      let late : frame q bytes ≢ second = λ e. absurd cc in
      let learned = steps_learn_versions (frame q bytes) u id (λ e. other (e ∙ kept.0)) late in (
        ap (λ x. x.system) (steps_keep_bridge (frame q bytes) u).id ∙ kept.0,
        learned_known q bytes (version_at u.database id) kept.1 (λ a claimed. inr (q, claim_at fs q bytes id a sent claimed)) (version_at (step (frame q bytes) u).database id) learned,
      )) first).1

pub versions_come_from : VersionsComeFrom
versions_come_from v fs id was other apart = known_after v fs id was apart other (refl, inl refl)
