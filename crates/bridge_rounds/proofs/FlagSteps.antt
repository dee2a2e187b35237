-- What one frame leaves of the flags at a port that stays Up with its neighbour: one that comes at another port, and one
-- that comes there.
use Rattle.std.proofs.Common.{◌≡◌, ◌≢◌, ℕ, Bool, true, false, List, refl, sym, ap, ◌∙◌, subst, Option, Some, None, Result, Ok, Err}
use Rattle.std.specs.Prelude.{if◌then◌else◌}
use Rattle.std.specs.FinMap.{get}
use Rattle.spb_types.specs.declared.address.LspId.{LspId}
use Rattle.spb_types.specs.Ports.{has}
use Rattle.spb_types.proofs.PortLemmas.{has_port}
use Rattle.isis_pdu.specs.Pdu.{LspValue, CsnpValue, PsnpValue}
use Rattle.spb_tlvs.specs.declared.error.TlvError.{TlvError}
use Rattle.spb_tlvs.specs.declared.entries.SnpEntry.{SnpEntry}
use Rattle.lsdb.specs.declared.version.Version.{Version}
use Rattle.lsdb.specs.Entry.{Entry}
use Rattle.lsdb.specs.Database.{Lsps, version_at}
use Rattle.lsdb.specs.Certificate.{IsClaimed}
use Rattle.snp_sync.specs.Reading.{entries_in}
use Rattle.snp_sync.specs.Hearing.{claims_in}
use Rattle.adjacency.specs.declared.state.AdjState.{AdjState}
use Rattle.adjacency.specs.declared.state.AdjState.TheVariants.{Down, Initializing, Up}
use Rattle.adjacency.specs.declared.port.Adjacency.{Adjacency}
use Rattle.adjacency.specs.Hearing.{End}
use Rattle.adjacency.specs.Adjacency.{SoundIn, is_up}
use Rattle.bridge_api.specs.declared.port.BridgePort.{BridgePort}
use Rattle.bridge_api.specs.View.{BridgeView, port_at, is_port_up, is_up_in, is_up_at, up_ports}
use Rattle.bridge_api.specs.Own.{holding_of, originated_if_changed}
use Rattle.bridge_api.specs.Parsing.{Parsed, parsed}
use Rattle.bridge_api.specs.Parsing as parsing
use Rattle.bridge_api.specs.Hearing.{after_drop, heard_lsp, heard_csnp, heard_psnp, with_csnp, with_psnp, heard_as, heard_at, after_receive}
use Rattle.bridge_api.specs.Step.{frame, step}
use Rattle.bridge_api.specs.Laws.{IsSoundView, claims_said, claims_or_none}
use Rattle.spb_types.specs.declared.drop_reason.DropReason.TheVariants as drop
use Rattle.bridge_api.proofs.Changes.{FrameStep, frame_step, idle, by_hello, by_lsp, by_csnp, by_psnp}
use Rattle.bridge_api.proofs.OwnLspSteps.{lsp_settles_nothing, csnp_settles_nothing, psnp_settles_nothing}
use Rattle.bridge_api.proofs.SoundPorts.{sound_at}
use Rattle.bridge_api.proofs.UpPorts.{up_ports_are_up}
use Rattle.bridge_rounds.proofs.FlagClaims.{AreSame, unchanged, lsp_beside}
use Rattle.bridge_rounds.proofs.FlagFrames.{LeavesAt, same_leaves, lsp_leaves, ClearsAt, entries_beside, entries_clear, csnp_beside, csnp_leaves}
use Rattle.bridge_rounds.proofs.FlagHellos.{IsUpWith, SaysTheSame, hello_same}

-- ---- a frame that comes while a port stays Up with its neighbour, and a version stays

pub record IsSteadyFrame (p q : ℕ) (n : End) (bytes : List ℕ) (x : LspId) (v w : BridgeView) : Type 0 where
  pub sound : IsSoundView v
  pub before : IsUpWith p n v
  pub after : IsUpWith p n w
  pub says : SaysTheSame w v
  pub stays : version_at w.database x ≡ version_at v.database x

-- the port is one of those that are Up
pub in_up : (v : BridgeView) (q : ℕ) → IsSoundView v → is_up_at v q ≡ true → has (up_ports v) q ≡ true
in_up v q sound up = up_ports_are_up v q sound ∙ up

up_there : (v : BridgeView) (q : ℕ) (port : BridgePort) → port_at v q ≡ Some port → is_port_up port ≡ true → is_up_at v q ≡ true
unfolding is_up_at
up_there v q port there up = ap is_up_in there ∙ up

-- the database after what was heard
pub after_lsp : (v w : BridgeView) (q : ℕ) (l : LspValue) → IsSoundView v → w ≡ originated_if_changed (heard_lsp l q v) → w.database ≡ (heard_lsp l q v).database
after_lsp v w q l sound is = ap (λ (u : BridgeView). u.database) (is ∙ lsp_settles_nothing v l q sound)

after_csnp : (v w : BridgeView) (q : ℕ) (c : CsnpValue) (entries : List SnpEntry) → IsSoundView v → w ≡ originated_if_changed (heard_csnp c entries q v) → w.database ≡ (heard_csnp c entries q v).database
after_csnp v w q c entries sound is = ap (λ (u : BridgeView). u.database) (is ∙ csnp_settles_nothing v c entries q sound)

after_psnp : (v w : BridgeView) (q : ℕ) (entries : List SnpEntry) → IsSoundView v → w ≡ originated_if_changed (heard_psnp entries q v) → w.database ≡ (heard_psnp entries q v).database
after_psnp v w q entries sound is = ap (λ (u : BridgeView). u.database) (is ∙ psnp_settles_nothing v entries q sound)

-- ---- at another port

module _ (p q : ℕ) (n : End) (bytes : List ℕ) (x : LspId) (v w : BridgeView) (at : IsSteadyFrame p q n bytes x v w) where
  -- from the database that is this one
  abbrev Left : Lsps → Type 0
  Left db = AreSame p (get v.database x) (get db x)

  still : (db : Lsps) → w.database ≡ db → version_at db x ≡ version_at v.database x
  still db is = ap (λ (d : Lsps). version_at d x) (sym is) ∙ at.stays

  beside_by : p ≢ q → FrameStep v q bytes w → Left w.database
  beside_by apart (idle learned how is) = unchanged p (get v.database x) (get w.database x) (ap (λ (u : BridgeView). get u.database x) is)
  beside_by apart (by_hello g) = hello_same g.hello g.way q p n g.port v w x at.sound g.there g.after at.before at.after at.says
  beside_by apart (by_lsp g) =
      let is = after_lsp v w q g.lsp at.sound g.after in
      let up = in_up v q at.sound (up_there v q g.port g.there g.up) in
      subst Left (sym is) (lsp_beside (up_ports v) q p (has_port (up_ports v) q up).0 (has_port (up_ports v) q up).1 apart g.lsp (holding_of v) x (still (heard_lsp g.lsp q v).database is))
  beside_by apart (by_csnp g) =
      let is = after_csnp v w q g.csnp g.entries at.sound g.after in
      subst Left (sym is)
      (csnp_beside (up_ports v) q (in_up v q at.sound (up_there v q g.port g.there g.up)) p apart g.csnp.start g.csnp.end (claims_in g.entries) (holding_of v) x (still (heard_csnp g.csnp g.entries q v).database is))
  beside_by apart (by_psnp g) =
      let is = after_psnp v w q g.entries at.sound g.after in
      subst Left (sym is) (entries_beside (up_ports v) q (in_up v q at.sound (up_there v q g.port g.there g.up)) p apart (claims_in g.entries) (holding_of v) x (still (heard_psnp g.entries q v).database is))

-- ---- at the port itself

-- a port that is Up has carrier
pub up_carrier : (s : AdjState) (a : Adjacency) → SoundIn s a → is_up s ≡ true → a.carrier ≡ true
up_carrier Down a sound up = absurd cc
up_carrier Initializing a sound up = absurd cc
up_carrier Up a sound up = sound.1

-- the port that is Up
pub record IsUpPort (v : BridgeView) (p : ℕ) : Type 0 where
  pub port : BridgePort
  pub there : port_at v p ≡ Some port
  pub up : is_port_up port ≡ true

up_port_in : (v : BridgeView) (p : ℕ) (o : Option BridgePort) → port_at v p ≡ o → is_up_in o ≡ true → IsUpPort v p
up_port_in v p None there up = absurd cc
up_port_in v p (Some port) there up = record { port = port; there = there; up = up }

pub up_port : (v : BridgeView) (p : ℕ) → is_up_at v p ≡ true → IsUpPort v p
unfolding is_up_at
up_port v p up = up_port_in v p (port_at v p) refl up

-- there a frame is heard as what it is
pub heard_there : (v : BridgeView) (p : ℕ) (bytes : List ℕ) → IsSoundView v → (at : IsUpPort v p) → step (frame p bytes) v ≡ heard_as (parsed bytes) p at.port v
unfolding after_receive
heard_there v p bytes sound at =
    ap (λ (o : Option BridgePort). heard_at p bytes o v) at.there
    ∙ ap (λ (b : Bool). if b then heard_as (parsed bytes) p at.port v else after_drop drop.NotAdjacent v)
    (up_carrier at.port.adjacency.state at.port.adjacency (sound_at v p at.port sound.ports at.there).adjacency at.up)

pub when : (b : Bool) (u w : BridgeView) → b ≡ true → (if b then u else w) ≡ u
when true u w is = refl
when false u w is = absurd cc

module _ (p : ℕ) (n : End) (bytes : List ℕ) (x : LspId) (v w : BridgeView) (at : IsSteadyFrame p p n bytes x v w) (up : IsUpPort v p) where
  abbrev Leaves : Parsed → Lsps → Type 0
  Leaves j db = LeavesAt p x j (get v.database x) (get db x)

  abbrev Agrees : Parsed → Type 0
  Agrees j = (a : Version) → IsClaimed (claims_said j) x a → a ≡ version_at v.database x

  same : (db : Lsps) → w.database ≡ db → version_at db x ≡ version_at v.database x
  same db is = ap (λ (d : Lsps). version_at d x) (sym is) ∙ at.stays

  idle_leaves : (j : Parsed) → ((a : Version) → IsClaimed (claims_said j) x a → ⊥) → w.database ≡ v.database → Leaves j w.database
  idle_leaves j none is = same_leaves p x j (get v.database x) (get w.database x) none (unchanged p (get v.database x) (get w.database x) (ap (λ (db : Lsps). get db x) is))

  csnp_by : (c : CsnpValue) (es : Result (List SnpEntry) TlvError) → entries_in c.tlvs ≡ es → w ≡ with_csnp c es p v → Agrees (parsing.csnp c) → Leaves (parsing.csnp c) w.database
  csnp_by c (Err e) read is agree =
      idle_leaves (parsing.csnp c) (λ a claimed. subst (λ (es : Result (List SnpEntry) TlvError). IsClaimed (claims_or_none es) x a) read claimed) (ap (λ (u : BridgeView). u.database) is)
  csnp_by c (Ok entries) read is agree =
      let db = after_csnp v w p c entries at.sound is in
      subst (Leaves (parsing.csnp c)) (sym db)
      (csnp_leaves (up_ports v) p (in_up v p at.sound at.before.up) c (claims_in entries) (holding_of v) x (same (heard_csnp c entries p v).database db)
      (λ a claimed. agree a (subst (λ (es : Result (List SnpEntry) TlvError). IsClaimed (claims_or_none es) x a) (sym read) claimed)))

  psnp_by : (s : PsnpValue) (es : Result (List SnpEntry) TlvError) → entries_in s.tlvs ≡ es → w ≡ with_psnp es p v → Agrees (parsing.psnp s) → Leaves (parsing.psnp s) w.database
  psnp_by s (Err e) read is agree =
      idle_leaves (parsing.psnp s) (λ a claimed. subst (λ (es : Result (List SnpEntry) TlvError). IsClaimed (claims_or_none es) x a) read claimed) (ap (λ (u : BridgeView). u.database) is)
  psnp_by s (Ok entries) read is agree =
      let db = after_psnp v w p entries at.sound is in
      subst (Leaves (parsing.psnp s)) (sym db)
      (told (entries_clear (up_ports v) p (in_up v p at.sound at.before.up) (claims_in entries) (holding_of v) x (same (heard_psnp entries p v).database db)
      (λ a claimed. agree a (subst (λ (es : Result (List SnpEntry) TlvError). IsClaimed (claims_or_none es) x a) (sym read) claimed))))
    where
      told : {o m : Option Entry} → ClearsAt p x (claims_in entries) o m → LeavesAt p x (parsing.psnp s) o m
      told clears = record {
        srm_stays = λ no off. clears.srm_stays off;
        srm = λ no a claimed some. clears.srm a (subst (λ (es : Result (List SnpEntry) TlvError). IsClaimed (claims_or_none es) x a) read claimed) some;
        ssn_stays = λ on. clears.ssn ∙ on;
        silent = λ no off. clears.ssn ∙ off;
      }

  here_by : (j : Parsed) → w ≡ heard_as j p up.port v → Agrees j → Leaves j w.database
  here_by (parsing.dropped reason) is agree = idle_leaves (parsing.dropped reason) (λ a none. none) (ap (λ (u : BridgeView). u.database) is)
  here_by (parsing.hello h way) is agree =
      same_leaves p x (parsing.hello h way) (get v.database x) (get w.database x) (λ a none. none) (hello_same h way p p n up.port v w x at.sound up.there is at.before at.after at.says)
  here_by (parsing.lsp l) is agree =
      let db = after_lsp v w p l at.sound (is ∙ when (is_port_up up.port) (originated_if_changed (heard_lsp l p v)) (after_drop drop.NotAdjacent v) up.up) in
      subst (Leaves (parsing.lsp l)) (sym db) (lsp_leaves (up_ports v) p (in_up v p at.sound at.before.up) l (holding_of v) x agree)
  here_by (parsing.csnp c) is agree = csnp_by c (entries_in c.tlvs) refl (is ∙ when (is_port_up up.port) (with_csnp c (entries_in c.tlvs) p v) (after_drop drop.NotAdjacent v) up.up) agree
  here_by (parsing.psnp s) is agree = psnp_by s (entries_in s.tlvs) refl (is ∙ when (is_port_up up.port) (with_psnp (entries_in s.tlvs) p v) (after_drop drop.NotAdjacent v) up.up) agree
  here_by (parsing.customer da sa vid isid f) is agree = idle_leaves (parsing.customer da sa vid isid f) (λ a none. none) (ap (λ (u : BridgeView). u.database) is)

-- ---- both, of the bridge after the frame

module _ (p q : ℕ) (n : End) (bytes : List ℕ) (x : LspId) (v : BridgeView) (at : IsSteadyFrame p q n bytes x v (step (frame q bytes) v)) where
  pub frame_beside : p ≢ q → AreSame p (get v.database x) (get (step (frame q bytes) v).database x)
  frame_beside apart = beside_by p q n bytes x v (step (frame q bytes) v) at apart (frame_step v q bytes)

pub frame_here : (p : ℕ) (n : End) (bytes : List ℕ) (x : LspId) (v : BridgeView) → IsSteadyFrame p p n bytes x v (step (frame p bytes) v) → ((a : Version) → IsClaimed (claims_said (parsed bytes)) x a → a ≡ version_at v.database x)
    → LeavesAt p x (parsed bytes) (get v.database x) (get (step (frame p bytes) v).database x)
frame_here p n bytes x v at agree =
    let up : IsUpPort v p = up_port v p at.before.up in
    here_by p n bytes x v (step (frame p bytes) v) at up (parsed bytes) (heard_there v p bytes at.sound up) agree
