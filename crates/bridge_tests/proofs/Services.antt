-- The services of a test, each at the customer port of its number: so they can be attached together.
use Rattle.std.proofs.Common.{rules, ◌≡◌, ◌<◌, ◌≤◌, ◌+◌, ℕ, Bool, true, false, List, [], ◌∷◌, ◌++◌, length, map, sym, ◌∙◌, subst, arith}
use Rattle.std.specs.Prelude.{IsTrue, nat_eq, if◌then◌else◌}
use Rattle.std.specs.List.{AllByRecursion, list_any}
use Rattle.std.proofs.lemmas.List.{length-append, length-map}
use Rattle.spb_types.specs.declared.service.Attachment.{Attachment}
use Rattle.bridge_api.specs.Config.{AgreesWith, ArePairwise, IsAttachment, different}

-- an attachment in the VID 10, at one of the first ports
pub record IsLow (n : ℕ) (a : Attachment) : Type 0 where
  pub port : a.port ≤ n
  pub vid : a.vid.value ≡ 10

-- attachments at the first ports, no more than those are, which can be attached together
pub record AreServices (n : ℕ) (attached : List Attachment) : Type 0 where
  pub each : AllByRecursion (IsAttachment (10 ∷ [])) attached
  pub apart : ArePairwise AgreesWith attached
  pub low : AllByRecursion (IsLow n) attached
  pub long : length attached ≤ n

all_behind : {X : Type 0} (P : X → Type 0) (xs : List X) (x : X) → AllByRecursion P xs → P x → AllByRecursion P (xs ++ x ∷ [])
all_behind P [] x all p = (p, tt)
all_behind P (y ∷ xs) x all p = (all.0, all_behind P xs x all.1 p)

all_alike : {X : Type 0} (P Q : X → Type 0) (xs : List X) → ((x : X) → P x → Q x) → AllByRecursion P xs → AllByRecursion Q xs
all_alike P Q [] f all = tt
all_alike P Q (x ∷ xs) f all = (f x all.0, all_alike P Q xs f all.1)

pairwise_behind : {X : Type 0} (R : X → X → Type 0) (xs : List X) (x : X) → ArePairwise R xs → AllByRecursion (λ y. R y x) xs → ArePairwise R (xs ++ x ∷ [])
pairwise_behind R [] x apart each = (tt, tt)
pairwise_behind R (y ∷ xs) x apart each = (all_behind (R y) xs x apart.0 each.0, pairwise_behind R xs x apart.1 each.1)

-- ---- one more

is_attachment : (a : Attachment) (n : ℕ) → n < 255 → a.port ≡ n + 1 → a.isid.value ≡ n + 1 → a.vid.value ≡ 10 → IsAttachment (10 ∷ []) a
is_attachment a n few port isid vid = record {
  port_low = omega arith;
  port_high = omega arith;
  isid_low = omega arith;
  isid_high = omega arith;
  vid = subst (λ v. IsTrue (list_any (nat_eq v) (10 ∷ []))) (sym vid) (search rules);
}

agrees : (a : Attachment) (n : ℕ) → a.port ≡ n + 1 → a.vid.value ≡ 10 → (b : Attachment) → IsLow n b → AgreesWith b a
agrees a n port vid b low = record {
  ports = λ same. omega (arith, same, port, low.port);
  vids = λ isids. low.vid ∙ sym vid;
}

later : (n : ℕ) (b : Attachment) → IsLow n b → IsLow (n + 1) b
later n b low = record { port = omega (arith, low.port); vid = low.vid }

pub none : AreServices 0 []
none = record { each = tt; apart = tt; low = tt; long = omega arith }

pub one_more : (n : ℕ) (attached : List Attachment) (a : Attachment) → n < 255 → a.port ≡ n + 1 → a.isid.value ≡ n + 1 → a.vid.value ≡ 10 → AreServices n attached → AreServices (n + 1) (attached ++ a ∷ [])
one_more n attached a few port isid vid are = record {
  each = all_behind (IsAttachment (10 ∷ [])) attached a are.each (is_attachment a n few port isid vid);
  apart = pairwise_behind AgreesWith attached a are.apart (all_alike (IsLow n) (λ b. AgreesWith b a) attached (agrees a n port vid) are.low);
  low = all_behind (IsLow (n + 1)) attached a (all_alike (IsLow n) (IsLow (n + 1)) attached (later n) are.low) (record { port = omega (arith, port); vid = vid });
  long = omega (arith, length-append attached (a ∷ []), are.long);
}

-- ---- they are few

no_longer : (b : Bool) (n : ℕ) (ns ms : List ℕ) → length ms ≤ length ns → length (if b then ms else n ∷ ms) ≤ length (n ∷ ns)
no_longer true n ns ms low = omega (arith, low)
no_longer false n ns ms low = omega (arith, low)

different_few : (ns : List ℕ) → length (different ns) ≤ length ns
different_few [] = omega arith
different_few (n ∷ ns) = no_longer (list_any (nat_eq n) ns) n ns (different ns) (different_few ns)

pub few : (n : ℕ) (attached : List Attachment) → n ≤ 255 → AreServices n attached → length (different (map (λ (a : Attachment). a.isid.value) attached)) ≤ 960
few n attached low are =
    omega (arith, different_few (map (λ (a : Attachment). a.isid.value) attached), length-map attached (λ (a : Attachment). a.isid.value), are.long, low)
