-- What a search finds among LSPs in order of id.
use Rattle.std.specs.Prelude.{◌≡◌, ℕ, zero, suc, ◌+◌, ◌<◌, ◌≤◌, true, List, [], ◌∷◌, map, length}
use Rattle.std.proofs.Common.{refl, ap, subst, ◌∙◌, arith, get_or, inl, inr}
use Rattle.std.specs.declared.cmp.Ordering.TheVariants.{Less, Equal, Greater}
use Rattle.std.specs.Ordering.{is_lt}
use Rattle.std.specs.FinMap.Entries.{below_all}
use Rattle.std.proofs.lemmas.Bool.{and_parts, cases_lt}
use Rattle.spb_types.specs.declared.address.LspId.{LspId}
use Rattle.lsdb.specs.declared.held.Held.{Held}
use Rattle.lsdb.specs.Database.{id_cmp, keyed}
use Rattle.lsdb.specs.Place.{AreSorted, IsAt, IsGap}
use Rattle.lsdb.proofs.Ids.{ids_total, ids_tied, turned_less, turned_greater, less_is}

-- the id x is below all those behind it
head_below : (x : LspId) (hs : List Held) → below_all id_cmp x (map keyed hs) ≡ true → (k : ℕ) (d : Held) → k < length hs → id_cmp x (get_or hs k d).id ≡ Less
head_below x [] e k d in_range = absurd (omega arith)
head_below x (h ∷ hs) e zero d in_range = less_is _ (and_parts (is_lt (id_cmp x h.id)) _ e).0
head_below x (h ∷ hs) e (suc k) d in_range = head_below x hs (and_parts (is_lt (id_cmp x h.id)) _ e).1 k d (omega arith)

-- the ids rise
pub ids_rise : (hs : List Held) → AreSorted hs → (j k : ℕ) (d : Held) → j < k → k < length hs → id_cmp (get_or hs j d).id (get_or hs k d).id ≡ Less
ids_rise [] s j k d lt in_range = absurd (omega arith)
ids_rise (h ∷ hs) s j zero d lt in_range = absurd (omega arith)
ids_rise (h ∷ hs) s zero (suc k) d lt in_range = head_below h.id hs (and_parts (below_all id_cmp h.id (map keyed hs)) _ s).0 k d (omega arith)
ids_rise (h ∷ hs) s (suc j) (suc k) d lt in_range = ids_rise hs (and_parts (below_all id_cmp h.id (map keyed hs)) _ s).1 j k d (omega arith) (omega arith)

-- the LSP at a place, whatever stands for none
at_place : (hs : List Held) (i : ℕ) (e d : Held) → i < length hs → (get_or hs i e).id ≡ (get_or hs i d).id
at_place [] i e d within = absurd (omega arith)
at_place (g ∷ hs) zero e d within = refl
at_place (g ∷ hs) (suc i) e d within = at_place hs i e d (omega arith)

-- where the id at a place is equal, the id stands there
pub compared : (hs : List Held) (d : Held) (id : LspId) (i : ℕ) → i < length hs → id_cmp (get_or hs i d).id id ≡ Equal → IsAt hs id i
compared hs d id i within equal = record { within = within; same = λ e. at_place hs i e d within ∙ ids_tied (get_or hs i d).id id equal }

-- the places that are left of a search: what stands before them is below the id, and what stands behind them above it
pub record Left (hs : List Held) (id : LspId) (low high : ℕ) : Type 0 where
  pub order : low ≤ high
  pub within : high ≤ length hs
  pub below : (k : ℕ) (d : Held) → k < low → id_cmp (get_or hs k d).id id ≡ Less
  pub above : (k : ℕ) (d : Held) → high ≤ k → k < length hs → id_cmp (get_or hs k d).id id ≡ Greater

pub left_all : (hs : List Held) (id : LspId) (n : ℕ) → n ≡ length hs → Left hs id 0 n
left_all hs id n is = record {
  order = omega arith;
  within = omega (arith, is);
  below = λ k d lt. absurd (omega arith);
  above = λ k d ge lt. absurd (omega (arith, is));
}

pub left_behind : (hs : List Held) → AreSorted hs → (id : LspId) (low high m : ℕ) (d : Held) → Left hs id low high → m < high → id_cmp (get_or hs m d).id id ≡ Less → Left hs id (m + 1) high
left_behind hs s id low high m d left lt less = record {
  order = omega arith;
  within = left.within;
  below = λ k e before. elim (cases_lt k m) [
    | inl earlier ↦ ids_total.trans (get_or hs k e).id (get_or hs m e).id id (ids_rise hs s k m e earlier (omega (arith, left.within))) (here e)
    | inr later ↦ subst (λ j. id_cmp (get_or hs j e).id id ≡ Less) (same k before later) (here e)
  ];
  above = left.above;
}
  where
    here : (e : Held) → id_cmp (get_or hs m e).id id ≡ Less
    here e = ap (λ (x : LspId). id_cmp x id) (at_place hs m e d (omega (arith, left.within))) ∙ less

    same : (k : ℕ) → k < m + 1 → m ≤ k → m ≡ k
    same k before later = omega arith

pub left_before : (hs : List Held) → AreSorted hs → (id : LspId) (low high m : ℕ) (d : Held) → Left hs id low high → low ≤ m → m < high → id_cmp (get_or hs m d).id id ≡ Greater → Left hs id low m
left_before hs s id low high m d left le lt greater = record {
  order = le;
  within = omega (arith, left.within);
  below = left.below;
  above = λ k e behind inside. elim (cases_lt m k) [
    | inl later ↦ turned_less id (get_or hs k e).id (ids_total.trans id (get_or hs m e).id (get_or hs k e).id (turned_greater (get_or hs m e).id id (here e)) (ids_rise hs s m k e later inside))
    | inr earlier ↦ subst (λ j. id_cmp (get_or hs j e).id id ≡ Greater) (same k behind earlier) (here e)
  ];
}
  where
    here : (e : Held) → id_cmp (get_or hs m e).id id ≡ Greater
    here e = ap (λ (x : LspId). id_cmp x id) (at_place hs m e d (omega (arith, left.within))) ∙ greater

    same : (k : ℕ) → m ≤ k → k ≤ m → m ≡ k
    same k behind earlier = omega arith

pub left_none : (hs : List Held) (id : LspId) (low high : ℕ) → Left hs id low high → high ≤ low → IsGap hs id low
left_none hs id low high left past = record {
  within = omega (arith, left.order, left.within);
  below = left.below;
  above = λ k d ge lt. left.above k d (omega arith) lt;
}
