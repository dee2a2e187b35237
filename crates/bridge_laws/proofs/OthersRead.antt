-- What a bridge reads of another of which it holds what that one holds, and so of itself.
use Rattle.std.proofs.Common.{◌≡◌, true, false, List, [], ℕ, zero, suc, ◌+◌, ◌*◌, ◌≤◌, ◌<◌, ◌++◌, refl, sym, ap, ◌∙◌, subst, Option, Some, None, arith}
use Rattle.std.specs.Prelude.{if◌then◌else◌}
use Rattle.std.specs.Option.{unwrap_or}
use Rattle.std.specs.FinMap.{get}
use Rattle.spb_types.specs.declared.address.LspId.{LspId}
use Rattle.spb_types.specs.declared.address.SystemId.{SystemId}
use Rattle.spb_types.specs.declared.limits.TheConstants.{MOST_ISIDS}
use Rattle.lsdb.specs.declared.version.Version.{Version}
use Rattle.lsdb.specs.declared.version.Version.TheVariants.{Absent, Live, Dead}
use Rattle.lsdb.specs.Entry.{Entry}
use Rattle.lsdb.specs.Database.{version_in, version_at}
use Rattle.lsdb.specs.Time.{is_live}
use Rattle.flooding.specs.Own.{own_id, own_numbers, own_number, tlvs_of_body}
use Rattle.flooding.specs.Settling.{IsLspCurrent}
use Rattle.flooding.proofs.OwnNumbers.{some_number}
use Rattle.spb_content.specs.declared.local.Local.{Local}
use Rattle.spb_content.specs.declared.content.Content.{Content}
use Rattle.spb_content.specs.Content.{content_in}
use Rattle.spb_content.specs.Fragments.{fragment, fragments_from, tlvs_together}
use Rattle.spb_content.specs.Local.{said_by}
use Rattle.spb_content.proofs.Members.{contains_from_has}
use Rattle.spb_content.proofs.Parts.{few_services}
use Rattle.spb_content.proofs.Told.{fragments_are_read}
use Rattle.bridge_api.specs.View.{BridgeView}
use Rattle.bridge_api.specs.Own.{local_of, own_entry, body_in, body_at, IsAlive, Lasts}
use Rattle.bridge_api.specs.Tables.{live_body, body_if_live, live_lsps, tlvs_under, tlvs_among, said_among}
use Rattle.bridge_api.specs.Graph.{contents_of, content_held, HoldsAs, ReadsItself, ReadsOthers}
use Rattle.bridge_api.specs.Laws.{CanSay, IsSoundView}
use Rattle.bridge_api.proofs.Bodies.{in_lsp, body_at_is, first_text, first_body}
use Rattle.bridge_api.proofs.GraphRead.{number_read, among_is_held, held_read}
use Rattle.bridge_api.proofs.Saying.{sound_can_say}

-- ---- under an own number a sound bridge holds what it has to say

dies : (a : Version) (body : List ℕ) → is_live a ≡ false → live_body a body ≡ None
dies Absent body dead = refl
dies (Live seq sum) body dead = absurd cc
dies (Dead seq) body dead = refl

lives : (a : Version) (lifetime : ℕ) (body : List ℕ) → Lasts a lifetime → live_body a body ≡ Some body
lives Absent lifetime body lasts = absurd lasts
lives (Live seq sum) lifetime body lasts = refl
lives (Dead seq) lifetime body lasts = absurd lasts

current_is : (b : Option (List ℕ)) (o : Option Entry) → IsLspCurrent b o → body_if_live o ≡ b
current_is None None current = refl
current_is None (Some e) current = dies e.version e.body current
current_is (Some body) None current = absurd current.1
current_is (Some body) (Some e) current = lives e.version e.lifetime e.body current.1 ∙ ap (λ (b : List ℕ). Some b) current.0

-- ---- one that holds the same holds the same live bodies

same_body : (a : Version) (d e : Entry) → (is_live a ≡ true → d.body ≡ e.body) → live_body a d.body ≡ live_body a e.body
same_body Absent d e same = refl
same_body (Live seq sum) d e same = ap (λ (b : List ℕ). Some b) (same refl)
same_body (Dead seq) d e same = refl

same_live : (v w : BridgeView) (id : LspId) (o p : Option Entry) → HoldsAs v w → id.system ≡ w.id.system → get v.database id ≡ o → get w.database id ≡ p → version_in o ≡ version_in p
    → body_if_live o ≡ body_if_live p
same_live v w id None None holds own here there same = refl
same_live v w id None (Some e) holds own here there same = ap (λ a. live_body a e.body) same
same_live v w id (Some d) None holds own here there same = ap (λ a. live_body a d.body) same
same_live v w id (Some d) (Some e) holds own here there same =
    ap (λ a. live_body a d.body) same ∙ same_body e.version d e (λ live. holds.bodies id d e own here there live)

held_as : (v w : BridgeView) (id : LspId) → HoldsAs v w → id.system ≡ w.id.system → body_if_live (get v.database id) ≡ body_if_live (get w.database id)
held_as v w id holds own = same_live v w id (get v.database id) (get w.database id) holds own refl refl (holds.versions id own)

-- ---- so it reads the fragments of what the other has to say

in_fragment : (f : Option (List ℕ)) → tlvs_of_body (unwrap_or (in_lsp f) []) ≡ unwrap_or f []
in_fragment None = refl
in_fragment (Some tlvs) = refl

fragment_read : (v w : BridgeView) (number : ℕ) → IsSoundView w → w.spent ≡ false → HoldsAs v w → number < own_numbers
    → tlvs_under (live_lsps v.database) (own_number w.id.system number) ≡ unwrap_or (fragment (local_of w) number) []
fragment_read v w number was fresh holds below =
    let id : LspId = own_number w.id.system number in
    let held = among_is_held v.database id (number_read w.id.system number below) ∙ held_as v w id holds refl in
    let says = held ∙ (current_is (body_at w number) (own_entry w number) (was.own.current fresh number below) ∙ body_at_is w number below) in
    ap (λ b. tlvs_of_body (unwrap_or b [])) says ∙ in_fragment (fragment (local_of w) number)

fragments_read : (v w : BridgeView) (n k : ℕ) → IsSoundView w → w.spent ≡ false → HoldsAs v w → k + n ≤ own_numbers
    → tlvs_among (live_lsps v.database) w.id.system n k ≡ tlvs_together (fragments_from (local_of w) n k)
fragments_read v w zero k was fresh holds few = refl
fragments_read v w (suc n) k was fresh holds few =
    λ i. fragment_read v w k was fresh holds (omega (arith, few)) i ++ fragments_read v w n (k + 1) was fresh holds (omega (arith, few)) i

-- the numbers have room for all services
services_have_room : MOST_ISIDS ≤ 60 * own_numbers
unfolding own_numbers
services_have_room = omega arith

all_read : (v w : BridgeView) → IsSoundView w → w.spent ≡ false → HoldsAs v w → said_among (live_lsps v.database) w.id.system ≡ said_by (local_of w)
all_read v w was fresh holds =
    let can : CanSay w = sound_can_say w was in
    ap content_in (fragments_read v w own_numbers 0 was fresh holds (omega arith))
    ∙ fragments_are_read (local_of w) own_numbers can.local can.fields some_number (omega (arith, few_services (local_of w) can.local, services_have_room))

-- ---- whose number 0 is live

alive_is : (b : List ℕ) (o : Option Entry) → IsLspCurrent (Some b) o → is_live (version_in o) ≡ true
alive_is b None current = absurd current.1
alive_is b (Some e) current = by e.version current.1
  where
    by : (a : Version) → Lasts a e.lifetime → is_live a ≡ true
    by Absent lasts = absurd lasts
    by (Live seq sum) lasts = refl
    by (Dead seq) lasts = absurd lasts

first_live : (w : BridgeView) → IsSoundView w → w.spent ≡ false → is_live (version_at w.database (own_id w.id.system)) ≡ true
first_live w was fresh =
    alive_is (first_text w) (own_entry w 0) (subst (λ (b : Option (List ℕ)). IsLspCurrent b (own_entry w 0)) (first_body w) (was.own.current fresh 0 (omega (arith, some_number))))

pub reads_others : ReadsOthers
reads_others v w was fresh holds =
    let live = ap is_live (holds.versions (own_id w.id.system) refl) ∙ first_live w was fresh in
    let says : content_held v.database w.id.system ≡ Some (said_by (local_of w)) =
    ap (λ b. if b then Some (said_among (live_lsps v.database) w.id.system) else None) live ∙ ap (λ (c : Content). Some c) (all_read v w was fresh holds) in
    contains_from_has (w.id.system, said_by (local_of w)) (contents_of v) (held_read v.database w.id.system (said_by (local_of w)) says)

-- ---- and of itself

one_body : (o : Option Entry) (d e : Entry) → o ≡ Some d → o ≡ Some e → d.body ≡ e.body
one_body None d e here there = absurd cc
one_body (Some f) d e here there = let first : f ≡ d = cc in let second : f ≡ e = cc in ap (λ (x : Entry). x.body) (sym first ∙ second)

holds_itself : (v : BridgeView) → HoldsAs v v
holds_itself v = record { versions = λ id own. refl; bodies = λ id d e own here there live. one_body (get v.database id) d e here there }

pub reads_itself : ReadsItself
reads_itself v was fresh = reads_others v v was fresh (holds_itself v)
