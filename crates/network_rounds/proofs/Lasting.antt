-- What is live lasts: a second takes one second of it, or it is originated anew; and what is heard lasts as long as its
-- sender's.
use Rattle.std.proofs.Common.{◌≡◌, ◌≢◌, ◌⊎◌, inl, inr, ℕ, zero, suc, ◌+◌, ◌-◌, ◌*◌, ◌≤◌, ◌<◌, Bool, true, false, List, refl, sym, ap, ◌∙◌, subst, Option, Some, None, slice_get, arith}
use Rattle.std.specs.Str.{bytes_eq}
use Rattle.std.proofs.lemmas.Slice.Eq.{bytes_eq-Decides}
use Rattle.std.specs.FinMap.{get}
use Rattle.std.proofs.lemmas.Bool.{true≢false}
use Rattle.std.proofs.lemmas.Option.{same_Some}
use Rattle.link_model.specs.Lane.{Frame, IsIn}
use Rattle.link_model.specs.Lanes.{lane_of}
use Rattle.spb_types.specs.declared.address.LspId.{LspId}
use Rattle.spb_types.specs.declared.address.BridgeId.{BridgeId}
use Rattle.spb_types.specs.declared.link.Dir.{Dir}
use Rattle.isis_pdu.specs.Pdu.{LspValue}
use Rattle.lsdb.specs.declared.version.Version.{Version}
use Rattle.lsdb.specs.Version.{number_of}
use Rattle.lsdb.specs.Entry.{Entry}
use Rattle.lsdb.specs.Database.{version_in, version_at}
use Rattle.lsdb.specs.Time.{lifetime_in, is_live}
use Rattle.flooding.specs.Own.{last_number, own_numbers, own_number, is_own_number}
use Rattle.flooding.specs.Hearing.{claim_of}
use Rattle.flooding.specs.Settling.{IsLspCurrent}
use Rattle.flooding.specs.declared.origination.TheConstants.{MAX_AGE}
use Rattle.flooding.proofs.OwnNumbers.{own_is_number}
use Rattle.bridge_api.specs.View.{BridgeView}
use Rattle.bridge_api.specs.Own.{body_at, own_entry}
use Rattle.bridge_api.specs.Parsing.{Parsed, parsed}
use Rattle.bridge_api.specs.Parsing as parsing
use Rattle.bridge_api.specs.Step.{second, frame, step}
use Rattle.bridge_api.specs.Laws.{IsSoundView, IsFrameOf}
use Rattle.bridge_api.specs.Time.{AgedFrom, stays, dies, own_sequence_number}
use Rattle.bridge_api.proofs.Certified.{steps_keep_bridge}
use Rattle.bridge_api.proofs.TimeLsps.{seconds_age}
use Rattle.bridge_laws.specs.Counting.{lsp_said}
use Rattle.bridge_laws.proofs.TimeOwn.{live_in, seconds_stand_still, seconds_renew}
use Rattle.bridge_rounds.specs.Hearing.{LivedAt, keeps, stores, renews, ends}
use Rattle.bridge_rounds.specs.Inbox.{after_round}
use Rattle.bridge_rounds.proofs.Folds.{mail_keeps}
use Rattle.bridge_rounds.proofs.LivedLsps.{frames_keep_living}
use Rattle.bridge_rounds.proofs.OwnLives.{own_lives}
use Rattle.spb_world.proofs.BoxLemmas.{All-get}
use Rattle.spb_world.specs.Links.{near_end}
use Rattle.network_model.specs.State.{State}
use Rattle.network_model.specs.Events.{all_ticked}
use Rattle.network_model.specs.Sound.{IsSoundState}
use Rattle.network_model.specs.Counted.{IsCountedBy, is_held}
use Rattle.network_model.proofs.BridgeLaws.{sent_is_sound}
use Rattle.network_model.proofs.CountedRounds.{Counted-all_ticked}
use Rattle.network_model.proofs.Origins.{lsp_claims}
use Rattle.network_rounds.specs.Rounds.{HasNoCustomers, IsRoundOf, AreRounds}
use Rattle.bridge_api.specs.Calm.{HasLifeLeft}
use Rattle.network_rounds.specs.Steady.{IsReadyFor, inbox_of, HaveLifeLeft, LifetimesLast}
use Rattle.network_rounds.proofs.Along.{round_sound, round_counted}
use Rattle.network_rounds.proofs.Ends.{is_named}
use Rattle.network_rounds.proofs.Passing.{sound_at, second_sound, ticked_view, ComesFrom, each_from, heard_round, heard_view, empty_plain}
use Rattle.network_rounds.proofs.Coming.{of_each}
use Rattle.network_rounds.proofs.Start.{CarriesLasting, starts_plain, starts_lasting, lanes_last}

-- ---- a second

-- a sound bridge whose numbers aren't spent, nor are they a second later, and whose own LSPs can go a number further
pub record CanGo (v : BridgeView) : Type 0 where
  pub sound : IsSoundView v
  pub fresh : v.spent ≡ false
  pub then_sound : IsSoundView (step second v)
  pub then_fresh : (step second v).spent ≡ false
  pub low : (number : ℕ) → number < own_numbers → own_sequence_number v number < last_number

module _ (k m : ℕ) (v : BridgeView) (can : CanGo v) (short : k ≤ 899) (more : suc k ≤ m) (has : HasLifeLeft m v) where
  abbrev u : BridgeView
  u = step second v

  -- it was originated
  own_renewed : (number : ℕ) (body : List ℕ) → number < own_numbers → body_at u number ≡ Some body → body_at v number ≢ Some body → k + 300 < lifetime_in (own_entry u number)
  own_renewed number body below says other =
      let new = seconds_renew v number body can.sound can.fresh (record { below = below; says = says; why = inr other }) (λ lower text low due. can.low lower due.below) in
      let count : lifetime_in (own_entry u number) ≡ MAX_AGE = ap lifetime_in new in
      let age : MAX_AGE ≡ 1200 = refl in
      omega (arith, count, age, short)

  -- it stands as it was
  own_stands : (number : ℕ) (body : List ℕ) → number < own_numbers → body_at u number ≡ Some body → body_at v number ≡ Some body → k + 300 < lifetime_in (own_entry u number)
  own_stands number body below says said =
      let current : IsLspCurrent (Some body) (own_entry v number) = subst (λ (text : Option (List ℕ)). IsLspCurrent text (own_entry v number)) said (can.sound.own.current can.fresh number below) in
      let alive = live_in (own_entry v number) current.1 in
      let left = has.own number below alive.0 in
      let lasts = seconds_stand_still v number (lifetime_in (own_entry v number) - 1) body can.sound can.fresh below said says (omega (arith, alive.1)) (omega (arith, left, more)) in
      omega (arith, lasts.lifetime, left, more)

  own_by : (number : ℕ) (new old : Option (List ℕ)) → number < own_numbers → body_at u number ≡ new → body_at v number ≡ old → is_live (version_in (own_entry u number)) ≡ true → k + 300 < lifetime_in (own_entry u number)
  own_by number None old below says said live =
      let dead = subst (λ (text : Option (List ℕ)). IsLspCurrent text (own_entry u number)) says (can.then_sound.own.current can.then_fresh number below) in
      absurd (true≢false (sym live ∙ dead))
  own_by number (Some body) None below says said live = own_renewed number body below says (λ e. absurd (let none : None ≡ Some body = sym said ∙ e in cc))
  own_by number (Some body) (Some text) below says said live = by (bytes_eq text body) refl
    where
      by : (b : Bool) → bytes_eq text body ≡ b → k + 300 < lifetime_in (own_entry u number)
      by true same = own_stands number body below says (said ∙ ap Some ((bytes_eq-Decides text body).0 same))
      by false other = own_renewed number body below says (λ e. absurd (true≢false (sym ((bytes_eq-Decides text body).1 (same_Some text body (sym said ∙ e))) ∙ other)))

  own_lasts : (number : ℕ) → number < own_numbers → is_live (version_in (own_entry u number)) ≡ true → k + 300 < lifetime_in (own_entry u number)
  own_lasts number below live = own_by number (body_at u number) (body_at v number) below refl refl live

  aged_lasts : (o n : Option Entry) → AgedFrom o n → (is_live (version_in o) ≡ true → m < lifetime_in o) → is_live (version_in n) ≡ true → k < lifetime_in n
  aged_lasts o n (stays version body most least) was live = let before = was (ap is_live (sym version) ∙ live) in omega (arith, before, least, more)
  aged_lasts o n (dies lived last version body) was live = let before = was lived in absurd (omega (arith, before, last, more))

  held_by : (id : LspId) (b : Bool) → is_own_number v.id.system id ≡ b → is_live (version_at u.database id) ≡ true → k < lifetime_in (get u.database id)
  held_by id false other live = aged_lasts (get v.database id) (get u.database id) (seconds_age v id other) (has.held id) live
  held_by id true own live =
      let named = own_is_number v.id.system id own in
      let is : own_number u.id.system named.number ≡ id = ap (λ (x : BridgeId). own_number x.system named.number) (steps_keep_bridge second v).id ∙ sym named.is in
      let lasts = own_lasts named.number named.below (ap (λ (x : LspId). is_live (version_at u.database x)) is ∙ live) in
      let same : lifetime_in (own_entry u named.number) ≡ lifetime_in (get u.database id) = ap (λ (x : LspId). lifetime_in (get u.database x)) is in
      omega (arith, lasts, same)

  pub second_lasts : HasLifeLeft k u
  second_lasts = record { held = λ id live. held_by id (is_own_number v.id.system id) refl live; own = own_lasts }

-- ---- a frame

lsp_is : (j : Parsed) (l : LspValue) → lsp_said j ≡ Some l → j ≡ parsing.lsp l
lsp_is (parsing.dropped reason) l is = absurd cc
lsp_is (parsing.hello h way) l is = absurd cc
lsp_is (parsing.lsp other) l is = ap parsing.lsp (same_Some other l is)
lsp_is (parsing.csnp c) l is = absurd cc
lsp_is (parsing.psnp s) l is = absurd cc
lsp_is (parsing.customer da sa vid isid payload) l is = absurd cc

lived_lasts : (k : ℕ) (lsp : Option LspValue) (id : LspId) (o n : Option Entry) → k < MAX_AGE → LivedAt lsp id o n → ((l : LspValue) → lsp ≡ Some l → is_live (claim_of l).version ≡ true → k < l.lifetime)
    → (is_live (version_in o) ≡ true → k < lifetime_in o) → is_live (version_in n) ≡ true → k < lifetime_in n
lived_lasts k lsp id o n short (keeps version count) came was live = let before = was (ap is_live (sym version) ∙ live) in omega (arith, before, count)
lived_lasts k lsp id o n short (stores l is here version count) came was live = let left = came l is (ap is_live (sym version) ∙ live) in omega (arith, left, count)
lived_lasts k lsp id o n short (renews count) came was live = omega (arith, short, count)
lived_lasts k lsp id o n short (ends dead) came was live = absurd (true≢false (sym live ∙ dead))

none_some : {X : Type 0} (x : X) → None ≡ Some x → ⊥
none_some x e = cc

pub frame_lasts : (k : ℕ) (v : BridgeView) (p : ℕ) (bytes : Frame) → k ≤ 899 → CarriesLasting k bytes → HasLifeLeft k v → HasLifeLeft k (step (frame p bytes) v)
frame_lasts k v p bytes short carries has =
    let w : BridgeView = step (frame p bytes) v in
    let age : MAX_AGE ≡ 1200 = refl in
    record {
      held = λ id live.
          lived_lasts k (lsp_said (parsed bytes)) id (get v.database id) (get w.database id) (omega (arith, short, age)) (frames_keep_living v p bytes id)
          (λ l is lives. carries l (lsp_is (parsed bytes) l is) lives) (has.held id) live;
      own = λ number below live.
          let id : LspId = own_number v.id.system number in
          let same : own_entry w number ≡ get w.database id = ap (λ (x : BridgeId). get w.database (own_number x.system number)) (steps_keep_bridge (frame p bytes) v).id in
          let lasts = lived_lasts (k + 300) None id (get v.database id) (get w.database id) (omega (arith, short, age)) (own_lives v p bytes id refl)
          (λ l is lives. absurd (none_some l is)) (has.own number below) (ap (λ (o : Option Entry). is_live (version_in o)) (sym same) ∙ live) in
          subst (λ (o : Option Entry). k + 300 < lifetime_in o) (sym same) lasts;
    }

-- ---- what is sent

-- an LSP that is sent lasts as what its sender holds
sent_lasts : (k : ℕ) (u : BridgeView) (q : ℕ) (bytes : Frame) → IsFrameOf u q bytes → HasLifeLeft k u → CarriesLasting k bytes
sent_lasts k u q bytes of has l is live =
    let held = of.lsp l is in
    let claimed = of.claims l.id (claim_of l).version (lsp_claims (parsed bytes) l.id l (claim_of l).version is refl refl) in
    let version : version_at u.database l.id ≡ (claim_of l).version = ap version_in claimed.1 ∙ sym claimed.2 in
    let lasts = has.held l.id (ap is_live version ∙ live) in
    let count : lifetime_in (get u.database l.id) ≡ l.lifetime = ap lifetime_in held.1 ∙ sym (ap (λ (x : LspValue). x.lifetime) held.2) in
    omega (arith, lasts, count)

fewer : (k m : ℕ) (bytes : Frame) → k ≤ m → CarriesLasting m bytes → CarriesLasting k bytes
fewer k m bytes le carries l is live = let lasts = carries l is live in omega (arith, lasts, le)

-- ---- a round

-- so many rounds are to come, and so many seconds more are left behind them
pub record Lasts (c j : ℕ) (s : State) : Type 0 where
  pub sound : IsSoundState s
  pub plain : HasNoCustomers s.lanes
  pub allowance : ℕ
  pub counted : IsCountedBy allowance s
  pub room : allowance + 128 * j < last_number
  pub lasts : HaveLifeLeft (c + j) s
  pub lanes : (k : ℕ) (dir : Dir) (f : Frame) → IsIn f (lane_of s.lanes k dir) → CarriesLasting (c + j) f
  pub short : c + j ≤ 899

below_last : {P : Type 0} (a : Version) (most : ℕ) → (number_of a < most) ⊎ ((number_of a ≡ most) × P) → most < last_number → number_of a < last_number
below_last a most (inl lower) less = omega (arith, lower, less)
below_last a most (inr same) less = omega (arith, same.0, less)

module _ (c j : ℕ) (s : State) (was : Lasts c (suc j) s) where
  can_go : (i : ℕ) (v : BridgeView) → slice_get s.views i ≡ Some v → CanGo v
  can_go i v at =
      let ticked = Counted-all_ticked s was.allowance was.sound was.counted (omega (arith, was.room)) in
      record {
        sound = sound_at s was.sound i v at;
        fresh = All-get (λ x. x.spent ≡ false) s.views i v was.counted.fresh at;
        then_sound = second_sound s was.sound i v at;
        then_fresh = All-get (λ x. x.spent ≡ false) (all_ticked s).views i (step second v) ticked.fresh (ticked_view s was.sound i v at);
        low = λ number below.
            let id : LspId = own_number v.id.system number in
            let within = was.counted.bound i v id at (record { number = number; below = below; is = refl }) in
            below_last (version_at v.database id) within.most (within.bound (version_at v.database id) (is_held i v at refl)) (omega (arith, within.room, was.room));
      }

  then_lasts : (i : ℕ) (v : BridgeView) → slice_get s.views i ≡ Some v → HasLifeLeft (c + j) (step second v)
  then_lasts i v at = second_lasts (c + j) (c + suc j) v (can_go i v at) (omega (arith, was.short)) (omega arith) (was.lasts i v at)

  comes_lasting : (i : ℕ) (w : BridgeView) (f : ℕ × Frame) → slice_get s.views i ≡ Some w → ComesFrom s was.sound i w f → CarriesLasting (c + j) f.1
  comes_lasting i w f at from =
      elim from.from [
        | inl old ↦ fewer (c + j) (c + suc j) f.1 (omega arith) (was.lanes from.comes.place from.comes.dir f.1 old)
        | inr new ↦
            let q : ℕ = (near_end from.comes.dir from.comes.link).port in
            let named = is_named s was.sound from.comes.place from.comes.dir from.comes.link from.v w from.comes.there from.near (ap (slice_get s.views) from.comes.bridge ∙ at) in
            let i_near : ℕ = (near_end from.comes.dir from.comes.link).bridge in
            sent_lasts (c + j) (step second from.v) q f.1 (sent_is_sound second from.v q f.1 tt (sound_at s was.sound i_near from.v from.near) named new) (then_lasts i_near from.v from.near)
      ]

  round_lasts : (i : ℕ) (v : BridgeView) → slice_get s.views i ≡ Some v → HasLifeLeft (c + j) (after_round (inbox_of s i) v)
  round_lasts i v at =
      mail_keeps (HasLifeLeft (c + j)) (inbox_of s i) (step second v)
      (λ p bytes u goes has. frame_lasts (c + j) u p bytes (omega (arith, was.short))
      (comes_lasting i v (p, bytes) at (of_each (ComesFrom s was.sound i v) (inbox_of s i) p bytes (each_from s was.sound i v at) goes)) has)
      (then_lasts i v at)

  pub lasts_round : (t : State) → IsRoundOf s t → Lasts c j t
  lasts_round t is =
      let heard = heard_round s t was.sound was.plain is in
      record {
        sound = round_sound s t is was.sound;
        plain = empty_plain t heard.lanes;
        allowance = was.allowance + 128;
        counted = round_counted was.allowance s t is was.sound was.counted (omega (arith, was.room));
        room = omega (arith, was.room);
        lasts = λ i w at. let before = heard_view s t i w heard at in subst (HasLifeLeft (c + j)) (sym before.2) (round_lasts i before.0 before.1);
        lanes = λ k dir f among. absurd (subst (IsIn f) (heard.lanes k dir) among);
        short = omega (arith, was.short);
      }

lasts_all : (k c : ℕ) (s t : State) → AreRounds k s t → Lasts c k s → HaveLifeLeft c t
lasts_all zero c s t are was =
    subst (λ (views : List BridgeView). (i : ℕ) (v : BridgeView) → slice_get views i ≡ Some v → HasLifeLeft c v) (sym are.1) (subst (λ (n : ℕ). HaveLifeLeft n s) (omega arith) was.lasts)
lasts_all (suc k) c s t are was = lasts_all k c are.0 t are.2 (lasts_round c k s was are.0 are.1)

pub starts_to_last : (m k : ℕ) (s : State) → IsReadyFor m k s → k ≤ m → Lasts (m - k) k s
starts_to_last m k s start le =
    let whole : m ≡ m - k + k = omega (arith, le) in
    record {
      sound = start.sound;
      plain = starts_plain m s start.ready;
      allowance = start.allowance;
      counted = start.counted;
      room = start.room;
      lasts = subst (λ (n : ℕ). HaveLifeLeft n s) whole (starts_lasting m s start.ready);
      lanes = λ place dir f among. subst (λ (n : ℕ). CarriesLasting n f) whole (lanes_last m s start.ready place dir f among);
      short = omega (arith, start.short, le);
    }

pub lifetimes_last : LifetimesLast
lifetimes_last m k s t start le are = lasts_all k (m - k) s t are (starts_to_last m k s start le)
