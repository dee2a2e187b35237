-- An LSP that was heard is at most what is held after it.
use Rattle.std.specs.Prelude.{◌≡◌, ℕ, ◌+◌, ◌≤◌, List, Bool, true, false, Option, Some, None, nat_lt, if◌then◌else◌}
use Rattle.std.proofs.Common.{refl, sym, subst, ◌∙◌, arith}
use Rattle.std.specs.Option.{option_map}
use Rattle.std.specs.FinMap.{get}
use Rattle.spb_types.specs.declared.address.LspId.{LspId}
use Rattle.spb_types.specs.declared.ports.PortSet.{PortSet}
use Rattle.isis_pdu.specs.Pdu.{LspValue}
use Rattle.lsdb.specs.declared.version.Version.{Version}
use Rattle.lsdb.specs.declared.version.Relation.{Relation}
use Rattle.lsdb.specs.declared.version.Relation.TheVariants.{Older, Equal, Newer, Confused}
use Rattle.lsdb.specs.Version.{number_of, is_absent, relation, IsAtMost}
use Rattle.lsdb.specs.Entry.{Entry, acked, offered}
use Rattle.lsdb.specs.Database.{version_in}
use Rattle.lsdb.proofs.Order.{itself, greater, equal_is, older_is}
use Rattle.flooding.specs.declared.own.Own.{Own}
use Rattle.flooding.specs.Own.{last_number, renewed, dead_at, answered_by, answered, body_for}
use Rattle.flooding.specs.Hearing.{claim_of, unless_absent, lsp_rule, is_answered}
use Rattle.flooding.specs.Laws.{HeardIsAtMostHeld}
use Rattle.flooding.proofs.Heard.{number-claimed}
use Rattle.flooding.proofs.Claimed.{lsp_stands}
use Rattle.flooding.proofs.Steps.{at_most_dead}

-- a change that leaves the version
sparing : (f : Entry → Entry) (e : Entry) (b : Bool) → (f e).version ≡ e.version → (if b then e else f e).version ≡ e.version
sparing f e true same = refl
sparing f e false same = same

offered_version : (port : ℕ) (o : Option Entry) → version_in (option_map (offered port) o) ≡ version_in o
offered_version port None = refl
offered_version port (Some e) = refl

acked_version : (port : ℕ) (o : Option Entry) → version_in (option_map (unless_absent (acked port)) o) ≡ version_in o
acked_version port None = refl
acked_version port (Some e) = sparing (acked port) e (is_absent e.version) refl

at_most_rule : (up : PortSet) (port : ℕ) (l : LspValue) (r : Relation) (held : Option Entry) → relation (claim_of l).version (version_in held) ≡ r
    → IsAtMost (claim_of l).version (version_in (lsp_rule up port l r held))
at_most_rule up port l Older held is =
    subst (λ (v : Version). IsAtMost (claim_of l).version v) (sym (offered_version port held)) (older_is (claim_of l).version (version_in held) is).0
at_most_rule up port l Equal held is =
    subst (λ (v : Version). IsAtMost (claim_of l).version v) (equal_is (claim_of l).version (version_in held) is ∙ sym (acked_version port held)) (itself (claim_of l).version)
at_most_rule up port l Newer held is = itself (claim_of l).version
at_most_rule up port l Confused held is = at_most_dead (claim_of l).version l.seq (subst (λ n. n ≤ l.seq) (sym (number-claimed l.seq l.lifetime l.sum)) (omega arith))

next_or_dead : (up : PortSet) (id : LspId) (a : Version) (body : List ℕ) (b : Bool) → IsAtMost a (if b then renewed up id body (number_of a + 1) else dead_at up (number_of a)).version
next_or_dead up id a body true = greater a (renewed up id body (number_of a + 1)).version (omega arith)
next_or_dead up id a body false = at_most_dead a (number_of a) (omega arith)

at_most_answer : (up : PortSet) (id : LspId) (a : Version) (o : Option (List ℕ)) → IsAtMost a (answered_by up id (number_of a) o).version
at_most_answer up id a None = at_most_dead a (number_of a) (omega arith)
at_most_answer up id a (Some body) = next_or_dead up id a body (nat_lt (number_of a) last_number)

at_most_heard : (up : PortSet) (port : ℕ) (own : Own) (l : LspValue) (r : Relation) (held : Option Entry) (b : Bool) → relation (claim_of l).version (version_in held) ≡ r
    → IsAtMost (claim_of l).version (version_in (if b then Some (answered up own l.id (number_of (claim_of l).version)) else lsp_rule up port l r held))
at_most_heard up port own l r held true is =
    at_most_answer up l.id (claim_of l).version (body_for own l.id)
at_most_heard up port own l r held false is = at_most_rule up port l r held is

pub heard_is_at_most_held : HeardIsAtMostHeld
heard_is_at_most_held up port l h there =
    let r = relation (claim_of l).version (version_in (get h.db l.id)) in
    subst (λ (o : Option Entry). IsAtMost (claim_of l).version (version_in o)) (sym (lsp_stands up port l h there))
    (at_most_heard up port h.own l r (get h.db l.id) (is_answered h.own l.id r) refl)
