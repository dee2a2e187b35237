-- A customer port beside others that do the same in its service: the bridge says the same of itself with it and without
-- it.
use Rattle.std.proofs.Common.{Option, Some, ◌≡◌, ◌⊎◌, inl, inr, ℕ, zero, suc, ◌+◌, ◌*◌, take, drop, Bool, true, false, cond, List, [], ◌∷◌, ◌++◌, map, refl, sym, ap, ◌∙◌, subst}
use Rattle.std.specs.Prelude.{not, ◌||◌, ◌&&◌, ◌==◌}
use Rattle.std.specs.List.{list_any}
use Rattle.std.specs.Option.{option_map_or}
use Rattle.std.proofs.lemmas.Bool.{eqb-true, eqb-false}
use Rattle.spb_types.specs.Service.{sends, receives}
use Rattle.spb_types.specs.declared.address.SystemId.{SystemId}
use Rattle.spb_types.specs.declared.graph.Member.{Member}
use Rattle.spb_types.specs.declared.service.Attachment.{Attachment}
use Rattle.spb_types.specs.declared.service.Mode.{Mode}
use Rattle.spb_types.specs.declared.service.Mode.TheVariants.{Both, Send, Recv}
use Rattle.spb_types.specs.declared.level.TheConstants.{LEVEL_1}
use Rattle.customer_learning.specs.Known.{Addresses}
use Rattle.forwarding.specs.Ports.{attachment_of, is_at_other_port, is_in, without_customer_port}
use Rattle.forwarding.specs.Detaching.{after_detach}
use Rattle.flooding.specs.declared.own.Own.{Own}
use Rattle.flooding.specs.Own.{own_numbers}
use Rattle.flooding.specs.Settling.{AreCurrent}
use Rattle.spb_content.specs.declared.local.Local.{Local}
use Rattle.spb_content.specs.Fragments.{unless_none, fragment, fragments_from, bodies_saying}
use Rattle.spb_content.specs.Local.{IsLocal, content_bytes, service_tlvs}
use Rattle.spb_content.specs.Members.{merged}
use Rattle.spb_content.proofs.Covered.{any_has, IsPaired, IsCovered, AreCovered}
use Rattle.spb_content.proofs.Members.{Has, all_has, has_left, has_parts, has_map, map_has, has_filter, filter_has}
use Rattle.spb_content.proofs.Merged.{merged_same}
use Rattle.spb_content.proofs.Pairs.{attached_numbers}
use Rattle.bridge_api.specs.View.{BridgeView}
use Rattle.bridge_api.specs.Config.{ArePairwise, AgreesWith}
use Rattle.bridge_api.specs.Own.{member_of, local_of, bodies_of, own_of}
use Rattle.bridge_api.specs.Customers.{with_learned}
use Rattle.bridge_api.specs.Services.{with_attached, with_port_forgotten}
use Rattle.bridge_api.specs.Step.{Input, attach, detach}
use Rattle.bridge_api.specs.Laws.{HasConfig, IsInput, attached_after}
use Rattle.bridge_api.proofs.Attached.{config_after, learned_after}
use Rattle.bridge_api.proofs.Changes.{attached_to, with_attached_is}
use Rattle.bridge_api.proofs.OwnLspSteps.{saying_settles}
use Rattle.bridge_api.proofs.Saying.{is_local}
use Rattle.bridge_control.specs.declared.machine.Machine.{Machine}
use Rattle.bridge_control.specs.Attaching.{is_beside, sends_beside, receives_beside, is_done_beside, is_covered}
use Rattle.bridge_control.specs.Machine.{view_of, IsReady, IsAfter}
use Rattle.bridge_control.proofs.Owning.{after_same}
use Rattle.bridge_control.proofs.Telling.{machine_with, forgotten_is}

-- ---- tests of lists

pub both : (a b : Bool) → (a && b) ≡ true → (a ≡ true) × (b ≡ true)
both true b e = (refl, e)
both false b e = absurd cc

-- what is done where it is needed
needed : (b c : Bool) → (not b || c) ≡ true → b ≡ true → c ≡ true
needed true c e t = e
needed false c e t = absurd cc

-- ---- what ports do in a service

-- one of these does something in the service of an attachment
pub record IsDoneBy (does : Mode → Bool) (a : Attachment) (bs : List Attachment) : Type 0 where
  pub by : Attachment
  pub has : Has by bs
  pub isid : a.isid ≡ by.isid
  pub vid : a.vid ≡ by.vid
  pub done : does by.mode ≡ true

-- what an attachment does in its service is done there by these
pub record AreDoing (bs : List Attachment) (a : Attachment) : Type 0 where
  pub sends : sends a.mode ≡ true → IsDoneBy sends a bs
  pub receives : receives a.mode ≡ true → IsDoneBy receives a bs

pub itself : (a : Attachment) (bs : List Attachment) → Has a bs → AreDoing bs a
itself a bs h = record {
  sends = λ e. record { by = a; has = h; isid = refl; vid = refl; done = e };
  receives = λ e. record { by = a; has = h; isid = refl; vid = refl; done = e };
}

-- it is done at another port
record IsDoneBeside (does : Mode → Bool) (a : Attachment) (bs : List Attachment) : Type 0 where
  done : IsDoneBy does a bs
  apart : is_at_other_port a.port done.by ≡ true

some_beside : (does : Mode → Bool) (a : Attachment) (bs : List Attachment) → list_any (λ b. is_beside a b && does b.mode) bs ≡ true → IsDoneBeside does a bs
some_beside does a bs e =
    let other = any_has (λ b. is_beside a b && does b.mode) bs e in
    let b : Attachment = other.0 in
    let parts = both (is_beside a b) (does b.mode) other.2 in
    let beside = both (is_in a.isid b && (b.vid.value == a.vid.value)) (is_at_other_port a.port b) parts.0 in
    let same = both (is_in a.isid b) (b.vid.value == a.vid.value) beside.0 in
    let isid = sym (eqb-true b.isid.value a.isid.value same.0) in
    let vid = sym (eqb-true b.vid.value a.vid.value same.1) in
    record {
      done = record { by = b; has = other.1; isid = λ i. record { value = isid i }; vid = λ i. record { value = vid i }; done = parts.1 };
      apart = beside.1;
    }

record AreDoingBeside (bs : List Attachment) (a : Attachment) : Type 0 where
  sends : sends a.mode ≡ true → IsDoneBeside sends a bs
  receives : receives a.mode ≡ true → IsDoneBeside receives a bs

all_beside : (a : Attachment) (bs : List Attachment) → is_done_beside bs a ≡ true → AreDoingBeside bs a
all_beside a bs e =
    let parts = both (not (sends a.mode) || sends_beside bs a) (not (receives a.mode) || receives_beside bs a) e in
    record {
      sends = λ t. some_beside sends a bs (needed (sends a.mode) (sends_beside bs a) parts.0 t);
      receives = λ t. some_beside receives a bs (needed (receives a.mode) (receives_beside bs a) parts.1 t);
    }

-- one more, of which all is done beside it
more_at : (a x : Attachment) (xs : List Attachment) → is_done_beside xs a ≡ true → Has x xs ⊎ Has x (a ∷ []) → AreDoing xs x
more_at a x xs done (inl h) = itself x xs h
more_at a x xs done (inr (inl e)) =
    let beside : AreDoingBeside xs a = all_beside a xs done in
    subst (AreDoing xs) (sym e) (record { sends = λ t. (beside.sends t).done; receives = λ t. (beside.receives t).done })
more_at a x xs done (inr (inr h)) = absurd h

more_within : (a : Attachment) (xs : List Attachment) → is_done_beside xs a ≡ true → (x : Attachment) → Has x (xs ++ a ∷ []) → AreDoing xs x
more_within a xs done x h = more_at a x xs done (has_parts x xs (a ∷ []) h)

more_beyond : (a : Attachment) (xs : List Attachment) → (x : Attachment) → Has x xs → AreDoing (xs ++ a ∷ []) x
more_beyond a xs x h = itself x (xs ++ a ∷ []) (has_left x xs (a ∷ []) h)

-- one less, of which all is done beside it
less_within : (port : ℕ) (xs : List Attachment) → (x : Attachment) → Has x (without_customer_port port xs) → AreDoing xs x
less_within port xs x h = itself x xs (filter_has (is_at_other_port port) x xs h).0

still_done : (does : Mode → Bool) (port : ℕ) (x : Attachment) (xs : List Attachment) → x.port ≡ port → IsDoneBeside does x xs → IsDoneBy does x (without_customer_port port xs)
still_done does port x xs at beside =
    let d : IsDoneBy does x xs = beside.done in
    record {
      by = d.by;
      has = has_filter (is_at_other_port port) d.by xs d.has (subst (λ p. is_at_other_port p d.by ≡ true) at beside.apart);
      isid = d.isid;
      vid = d.vid;
      done = d.done;
    }

is_port : (b : Bool) → not b ≡ false → b ≡ true
is_port true e = refl
is_port false e = absurd cc

-- what is attached at the port of one of these is that one
found : (x : Attachment) (xs : List Attachment) → ArePairwise AgreesWith xs → Has x xs → attachment_of x.port xs ≡ Some x
found x [] apart h = absurd h
found x (y ∷ ys) apart h = at (y.port == x.port) refl h (found x ys apart.1)
  where
    at : (b : Bool) → (y.port == x.port) ≡ b → Has x (y ∷ ys) → (Has x ys → attachment_of x.port ys ≡ Some x) → cond b (Some y) (attachment_of x.port ys) ≡ Some x
    at true e (inl i) rest = ap Some (sym i)
    at true e (inr i) rest = absurd ((all_has (AgreesWith y) x ys apart.0 i).ports (eqb-true y.port x.port e))
    at false e (inl i) rest = absurd (eqb-false y.port x.port e (ap (λ (a : Attachment). a.port) (sym i)))
    at false e (inr i) rest = rest i

less_at : (port : ℕ) (xs : List Attachment) (x : Attachment) (b : Bool) → is_at_other_port port x ≡ b → ArePairwise AgreesWith xs → is_covered port xs ≡ true → Has x xs → AreDoing (without_customer_port port xs) x
less_at port xs x true t apart e h = itself x (without_customer_port port xs) (has_filter (is_at_other_port port) x xs h t)
less_at port xs x false t apart e h =
    let at : x.port ≡ port = eqb-true x.port port (is_port (x.port == port) t) in
    let there : attachment_of port xs ≡ Some x = ap (λ p. attachment_of p xs) (sym at) ∙ found x xs apart h in
    let beside : AreDoingBeside xs x = all_beside x xs (sym (ap (λ (o : Option Attachment). option_map_or (is_done_beside xs) o true) there) ∙ e) in
    record { sends = λ s. still_done sends port x xs at (beside.sends s); receives = λ r. still_done receives port x xs at (beside.receives r) }

less_beyond : (port : ℕ) (xs : List Attachment) → ArePairwise AgreesWith xs → is_covered port xs ≡ true → (x : Attachment) → Has x xs → AreDoing (without_customer_port port xs) x
less_beyond port xs apart covered x h = less_at port xs x (is_at_other_port port x) refl apart covered h

-- ---- the members are the same

done_member : (does : Mode → Bool) (s : SystemId) (a : Attachment) (bs : List Attachment) → IsDoneBy does a bs → IsPaired (member_of s a) (map (member_of s) bs)
done_member does s a bs d = record { item = member_of s d.by; has = has_map (member_of s) d.by bs d.has; is = λ i. (d.vid i, d.isid i) }

-- each port sends or receives
paired_by : (s : SystemId) (a : Attachment) (bs : List Attachment) (mode : Mode) → (sends mode ≡ true → IsDoneBy sends a bs) → (receives mode ≡ true → IsDoneBy receives a bs)
    → IsPaired (member_of s a) (map (member_of s) bs)
paired_by s a bs Both sent received = done_member sends s a bs (sent refl)
paired_by s a bs Send sent received = done_member sends s a bs (sent refl)
paired_by s a bs Recv sent received = done_member receives s a bs (received refl)

covered_member : (s : SystemId) (a : Attachment) (bs : List Attachment) → AreDoing bs a → IsCovered (member_of s a) (map (member_of s) bs)
covered_member s a bs does = record {
  paired = paired_by s a bs a.mode does.sends does.receives;
  sends = λ e. let d : IsDoneBy sends a bs = does.sends e in record { item = member_of s d.by; has = has_map (member_of s) d.by bs d.has; is = λ i. (d.vid i, d.isid i); done = d.done };
  takes = λ e. let d : IsDoneBy receives a bs = does.receives e in record { item = member_of s d.by; has = has_map (member_of s) d.by bs d.has; is = λ i. (d.vid i, d.isid i); done = d.done };
}

pub members_covered : (s : SystemId) (xs ys : List Attachment) → ((a : Attachment) → Has a xs → AreDoing ys a) → AreCovered (map (member_of s) xs) (map (member_of s) ys)
members_covered s xs ys within m h =
    let x = map_has (member_of s) m xs h in
    subst (λ n. IsCovered n (map (member_of s) ys)) (sym x.2) (covered_member s x.0 ys (within x.0 x.1))

-- ---- the bridge says the same

same_fragment : (l : Local) (ms ns : List Member) → merged l.config.id.system ms ≡ merged l.config.id.system ns → (k : ℕ) → fragment (record l { attached = ms }) k ≡ fragment (record l { attached = ns }) k
unfolding fragment
same_fragment l ms ns same zero = ap (λ (list : List Member). Some (content_bytes (record l { attached = take 60 (drop (60 * zero) list) }))) same
same_fragment l ms ns same (suc k) =
    ap (λ (list : List Member). unless_none (take 60 (drop (60 * suc k) list)) (service_tlvs (record l { attached = take 60 (drop (60 * suc k) list) }))) same

same_fragments : (l : Local) (ms ns : List Member) → merged l.config.id.system ms ≡ merged l.config.id.system ns → (n k : ℕ) → fragments_from (record l { attached = ms }) n k ≡ fragments_from (record l { attached = ns }) n k
same_fragments l ms ns same zero k = refl
same_fragments l ms ns same (suc n) k =
    let first = same_fragment l ms ns same k in
    let rest = same_fragments l ms ns same n (k + 1) in
    λ i. first i ∷ rest i

pub same_bodies : (v : BridgeView) (attached : List Attachment) (learned : Addresses) → IsLocal (local_of v) → IsLocal (local_of (attached_to attached v))
    → ((a : Attachment) → Has a attached → AreDoing v.attached a) → ((a : Attachment) → Has a v.attached → AreDoing attached a)
    → bodies_of (attached_to attached (with_learned learned v)) ≡ bodies_of v
unfolding bodies_of
same_bodies v attached learned before after within beyond =
    let s : SystemId = v.id.system in
    let services : merged s (map (member_of s) attached) ≡ merged s (map (member_of s) v.attached) =
    merged_same s (map (member_of s) attached) (map (member_of s) v.attached)
    (attached_numbers (map (member_of s) attached) after.attached) (attached_numbers (map (member_of s) v.attached) before.attached)
    (members_covered s attached v.attached within) (members_covered s v.attached attached beyond) in
    ap (λ (fragments : List (Option (List ℕ))). bodies_saying LEVEL_1 fragments) (same_fragments (local_of v) (map (member_of s) attached) (map (member_of s) v.attached) services own_numbers 0)

says_still : (m n : Machine) (attached : List Attachment) (learned other : Addresses) → IsReady m → HasConfig (attached_to attached (with_learned other (view_of m))) → n ≡ machine_with m attached learned
    → ((a : Attachment) → Has a attached → AreDoing m.tenant.attached a) → ((a : Attachment) → Has a m.tenant.attached → AreDoing attached a)
    → IsAfter (with_attached attached (with_learned learned (view_of m))) n
says_still m n attached learned other ready config is within beyond =
    let v : BridgeView = view_of m in
    let w : BridgeView = attached_to attached (with_learned learned v) in
    let same : bodies_of w ≡ bodies_of v = same_bodies v attached learned
    (is_local v ready.sound.config ready.sound.few ready.sound.ports)
    (is_local (attached_to attached (with_learned other v)) config ready.sound.few ready.sound.ports) within beyond in
    let says : own_of v ≡ own_of w = λ i. record { system = m.id.system; bodies = sym same i; spent = m.own.spent } in
    let follows = ready.current.ports in
    let whole : IsAfter (with_attached attached (with_learned learned v)) (machine_with m attached learned) = record {
      view = sym (saying_settles w (subst (λ (own : Own). AreCurrent (record { db = m.db; own = own })) says ready.sound.own.current)) ∙ sym (with_attached_is attached (with_learned learned v));
      current = record { own = ready.current.own ∙ says; ports = record { hellos = follows.hellos; up = follows.up; me = follows.me; heard = follows.heard } };
    } in
    subst (λ (k : Machine). IsAfter (with_attached attached (with_learned learned v)) k) (sym is) whole

still_after : (m n : Machine) (input : Input) (learned : Addresses) → IsReady m → IsInput (view_of m) input → n ≡ machine_with m (attached_after input m.tenant.attached) learned
    → ((a : Attachment) → Has a (attached_after input m.tenant.attached) → AreDoing m.tenant.attached a) → ((a : Attachment) → Has a m.tenant.attached → AreDoing (attached_after input m.tenant.attached) a)
    → IsAfter (with_attached (attached_after input m.tenant.attached) (with_learned learned (view_of m))) n
still_after m n input learned ready is same within beyond =
    says_still m n (attached_after input m.tenant.attached) learned (learned_after input (view_of m)) ready (config_after input (view_of m) is ready.sound.config) same within beyond

-- a port was attached to a service in which others do what it does
pub attached_unsaid : (m n : Machine) (a : Attachment) → IsReady m → IsInput (view_of m) (attach a) → is_done_beside m.tenant.attached a ≡ true
    → n ≡ machine_with m (m.tenant.attached ++ a ∷ []) m.tenant.learned → IsAfter (with_attached (m.tenant.attached ++ a ∷ []) (view_of m)) n
attached_unsaid m n a ready can done is =
    still_after m n (attach a) m.tenant.learned ready can is
    (more_within a m.tenant.attached done) (more_beyond a m.tenant.attached)

-- a port was detached from a service in which others do what it did
pub detached_unsaid : (m n : Machine) (port : ℕ) → IsReady m → IsInput (view_of m) (detach port) → is_covered port m.tenant.attached ≡ true
    → n ≡ record m { tenant = after_detach m.tenant port } → IsAfter (with_attached (without_customer_port port m.tenant.attached) (with_port_forgotten port (view_of m))) n
detached_unsaid m n port ready attached covered is =
    let left : List Attachment = without_customer_port port m.tenant.attached in
    let learned : Addresses = (after_detach m.tenant port).learned in
    after_same _ _ n (ap (with_attached left) (forgotten_is m port ready.current.ports.me))
    (still_after m n (detach port) learned ready attached is
    (less_within port m.tenant.attached) (less_beyond port m.tenant.attached ready.sound.config.attachments_apart covered))
