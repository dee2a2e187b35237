-- Rounds that pass in calm, and those that are left after some of them.
use Rattle.std.proofs.Common.{◌≡◌, ℕ, zero, suc, ◌+◌, ◌-◌, ◌<◌, ◌≤◌, false, true≢false, List, [], ◌∷◌, ◌++◌, map, take, drop, length, slice_get, slice_set, get_or, Option, Some, None, refl, sym, ap, ◌∙◌, subst, arith}
use Rattle.std.specs.Bool.{⊤}
use Rattle.std.specs.List.{AllByRecursion}
use Rattle.std.specs.Option.{is_some}
use Rattle.std.proofs.lemmas.List.{append_assoc}
use Rattle.spb_types.specs.Places.{changed_at}
use Rattle.spb_types.proofs.Places.{get-some}
use Rattle.bridge_api.specs.View.{BridgeView}
use Rattle.bridge_api.specs.Calm.{IsCalmFor}
use Rattle.spb_world.proofs.BoxLemmas.{map-set, get-map, All-get}
use Rattle.network_model.specs.declared.delivered.Delivered.{Delivered}
use Rattle.network_model.specs.State.{State}
use Rattle.network_model.specs.Events.{one_round, rounds}
use Rattle.network_model.specs.Captured.{seen_round, seen_rounds}
use Rattle.network_model.specs.Sound.{IsSoundState}
use Rattle.network_rounds.proofs.Along.{rounds_are_rounds, rounds_stay_sound}
use Rattle.spb_network.specs.Watching.{noted}
use Rattle.spb_network.proofs.SeenLemmas.{noted-on, noted-unwatched}

-- ---- rounds, some of them first

rounds-split : (m n k : ℕ) (s : State) → m ≡ n + k → rounds m s ≡ rounds k (rounds n s)
rounds-split m zero k s is = let same : m ≡ k = omega (arith, is) in ap (λ l. rounds l s) same
rounds-split zero (suc n) k s is = absurd (omega (arith, is))
rounds-split (suc m) (suc n) k s is = rounds-split m n k (one_round s) (omega (arith, is))

seen-split : (m n k : ℕ) (s : State) → m ≡ n + k → seen_rounds m s ≡ seen_rounds n s ++ seen_rounds k (rounds n s)
seen-split m zero k s is = let same : m ≡ k = omega (arith, is) in ap (λ l. seen_rounds l s) same
seen-split zero (suc n) k s is = absurd (omega (arith, is))
seen-split (suc m) (suc n) k s is =
    ap (λ ds. seen_round s ++ ds) (seen-split m n k (one_round s) (omega (arith, is)))
    ∙ sym (append_assoc (seen_round s) (seen_rounds n (one_round s)) (seen_rounds k (rounds n (one_round s))))

-- n of m rounds were played, and the others are left
pub rounds-left : (m n : ℕ) (s t : State) → n ≤ m → t ≡ rounds n s → rounds (m - n) t ≡ rounds m s
rounds-left m n s t few is = ap (rounds (m - n)) is ∙ sym (rounds-split m n (m - n) s (omega (arith, few)))

pub seen-left : (m n : ℕ) (s t : State) (before now : Option (List Delivered)) → n ≤ m → t ≡ rounds n s → now ≡ noted before (seen_rounds n s) → noted now (seen_rounds (m - n) t) ≡ noted before (seen_rounds m s)
seen-left m n s t before now few is seen =
    ap (λ u. noted now (seen_rounds (m - n) u)) is
    ∙ noted-on before now (seen_rounds n s) (seen_rounds (m - n) (rounds n s)) (seen_rounds m s) seen (seen-split m n (m - n) s (omega (arith, few)))

pub rounds-sound : (n : ℕ) (s t : State) → t ≡ rounds n s → IsSoundState s → IsSoundState t
rounds-sound n s t is sound = subst IsSoundState (sym is) (rounds_stay_sound n s (rounds n s) (rounds_are_rounds n s) sound)

-- ---- where deliveries aren't watched

pub none-watched : (o : Option (List Delivered)) → is_some o ≡ false → o ≡ None
none-watched None is = refl
none-watched (Some ds) is = absurd (true≢false is)

pub nothing-noted : (o : Option (List Delivered)) (ds : List Delivered) → o ≡ None → o ≡ noted o ds
nothing-noted o ds is = is ∙ sym (ap (λ p. noted p ds) is ∙ noted-unwatched ds)

-- ---- the seconds of all bridges

fewer : (m n : ℕ) (v : BridgeView) → n ≤ m → IsCalmFor m v → IsCalmFor n v
fewer m n v few calm = record {
  works = calm.works;
  fresh = calm.fresh;
  flags = calm.flags;
  kept = calm.kept;
  life = record {
    held = λ id live. omega (arith, few, calm.life.held id live);
    own = λ number own live. omega (arith, few, calm.life.own number own live);
  };
}

-- what the first k boxes show is calm
abbrev pub FirstCalm : {B : Type 0} → (B → BridgeView) → ℕ → ℕ → List B → Type 0
FirstCalm view seconds zero bs = ⊤
FirstCalm view seconds (suc k) [] = ⊤
FirstCalm view seconds (suc k) (b ∷ bs) = IsCalmFor seconds (view b) × FirstCalm view seconds k bs

first-fewer : {B : Type 0} (view : B → BridgeView) (m n k : ℕ) (bs : List B) → n ≤ m → FirstCalm view m k bs → FirstCalm view n k bs
first-fewer view m n zero bs few calm = calm
first-fewer view m n (suc k) [] few calm = calm
first-fewer view m n (suc k) (b ∷ bs) few calm = (fewer m n (view b) few calm.0, first-fewer view m n k bs few calm.1)

first-next : {B : Type 0} (view : B → BridgeView) (n k : ℕ) (bs : List B) (b : B) → k < length bs → b ≡ get_or bs k b → FirstCalm view n k bs → IsCalmFor n (view b) → FirstCalm view n (suc k) bs
first-next view n k [] b within is calm here = absurd (omega (arith, within))
first-next view n zero (x ∷ bs) b within is calm here = (subst (λ y. IsCalmFor n (view y)) is here, tt)
first-next view n (suc k) (x ∷ bs) b within is calm here = (calm.0, first-next view n k bs b (omega (arith, within)) is calm.1 here)

-- one box more is asked
pub first-more : {B : Type 0} (view : B → BridgeView) (m n most : ℕ) (k : ℕ) (bs : List B) (b : B) → k < length bs → b ≡ get_or bs k b → n ≤ m → n ≤ most → FirstCalm view m k bs → IsCalmFor most (view b) → FirstCalm view n (k + 1) bs
first-more view m n most k bs b within is few few_here calm here =
    let next : suc k ≡ k + 1 = omega arith in
    subst (λ l. FirstCalm view n l bs) next (first-next view n k bs b within is (first-fewer view m n k bs few calm) (fewer most n (view b) few_here here))

pub first-all : {B : Type 0} (view : B → BridgeView) (n k : ℕ) (bs : List B) → length bs ≤ k → FirstCalm view n k bs → AllByRecursion (IsCalmFor n) (map view bs)
first-all view n k [] past calm = tt
first-all view n zero (b ∷ bs) past calm = absurd (omega (arith, past))
first-all view n (suc k) (b ∷ bs) past calm = (calm.0, first-all view n k bs (omega (arith, past)) calm.1)

-- ---- every item of a list is changed, one after another

change-next : {V : Type 0} (f : V → V) (k : ℕ) (vs : List V) → k < length vs → changed_at f (map f (take k vs) ++ drop k vs) k ≡ map f (take (suc k) vs) ++ drop (suc k) vs
change-next f k [] within = absurd (omega (arith, within))
change-next f zero (v ∷ vs) within = refl
change-next f (suc k) (v ∷ vs) within = ap (λ ws. f v ∷ ws) (change-next f k vs (omega (arith, within)))

next-is : {V : Type 0} (f : V → V) (k : ℕ) (vs : List V) → slice_get (map f (take k vs) ++ drop k vs) k ≡ slice_get vs k
next-is f zero vs = refl
next-is f (suc k) [] = refl
next-is f (suc k) (v ∷ vs) = next-is f k vs

-- as a list shows them
pub changed-more : {B V : Type 0} (view : B → V) (f : V → V) (vs : List V) (bs : List B) (k : ℕ) (b c : B) → k < length bs → k < length vs → b ≡ get_or bs k b → map view bs ≡ map f (take k vs) ++ drop k vs → view c ≡ f (view b) → map view (slice_set bs k c) ≡ map f (take (k + 1) vs) ++ drop (k + 1) vs
changed-more view f vs bs k b c within inside is before to =
    let next : suc k ≡ k + 1 = omega arith in
    map-set view f bs k b c (get-some bs k b within is) to
    ∙ ap (λ ws. changed_at f ws k) before
    ∙ change-next f k vs inside
    ∙ ap (λ l. map f (take l vs) ++ drop l vs) next

pub here-calm : {B : Type 0} (view : B → BridgeView) (f : BridgeView → BridgeView) (n : ℕ) (vs : List BridgeView) (bs : List B) (k : ℕ) (b : B) → k < length bs → b ≡ get_or bs k b → map view bs ≡ map f (take k vs) ++ drop k vs → AllByRecursion (IsCalmFor n) vs → IsCalmFor n (view b)
here-calm view f n vs bs k b within is before all =
    All-get (IsCalmFor n) vs k (view b) all (sym (next-is f k vs) ∙ ap (λ ws. slice_get ws k) (sym before) ∙ get-map view bs k b (get-some bs k b within is))
