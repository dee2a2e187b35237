-- The ranges of CSNPs cover each id once, and each lists its own.
use Rattle.std.specs.Prelude.{◌≡◌, ℕ, zero, suc, ◌+◌, ◌-◌, ◌^◌, ◌<◌, ◌≤◌, Bool, true, false, ◌&&◌, List, [], ◌∷◌, ◌++◌, length, filter, count_by, take, drop, nat_le, Some, slice_get, if◌then◌else◌, T}
use Rattle.std.proofs.Common.{refl, sym, ap, subst, ◌∙◌, arith, append-nil, add-zero, lit≤}
use Rattle.std.specs.List.{AllByRecursion, flat_map}
use Rattle.std.specs.Ordering.{is_lt}
use Rattle.std.specs.FinMap.{entries, entries_sorted, is_sorted}
use Rattle.std.specs.FinMap.Entries.{below_all}
use Rattle.std.proofs.lemmas.Bool.{and_parts, le-leb}
use Rattle.std.proofs.lemmas.Bool.Decides.{nat_tests}
use Rattle.std.proofs.lemmas.List.{take-append-drop, length-take, length-drop, length-append}
use Rattle.std.proofs.lemmas.List.Sums.{sum_by-cons}
use Rattle.std.proofs.lemmas.List.Elements.{filter-append}
use Rattle.spb_types.specs.declared.address.LspId.{LspId}
use Rattle.spb_tlvs.specs.declared.entries.SnpEntry.{SnpEntry}
use Rattle.lsdb.specs.Entry.{Entry}
use Rattle.lsdb.specs.Database.{Lsps, id_cmp}
use Rattle.lsdb.proofs.Ids.{less_is}
use Rattle.flooding.specs.Entries.{AllEntries}
use Rattle.snp_sync.specs.SnpEntries.{snp_entries_where, is_listed, has_ssn_at}
use Rattle.snp_sync.specs.Chunks.{chunks_within, chunks, chunks_or_one}
use Rattle.snp_sync.specs.Ids.{id_number, successor, first_id, last_id, is_between}
use Rattle.snp_sync.specs.Sending.{CsnpChunk, end_of, csnp_chunks_from, csnp_chunks}
use Rattle.snp_sync.specs.Sized.{IsLspId, HaveIds}
use Rattle.snp_sync.specs.SendingLaws.{RangesCoverOnce, CsnpChunksListTheirRanges, CsnpChunksAreShort, CsnpChunksEndAtIds, PsnpChunksAreWhole, PsnpChunksAreShort}
use Rattle.snp_sync.proofs.Gathered.{gathered}
use Rattle.spb_tlvs.proofs.Numbers.{weaker}
use Rattle.snp_sync.proofs.CsnpChunks.{chunks_some}
use Rattle.lsdb.proofs.LookupLemmas.{get_place}
use Rattle.snp_sync.proofs.IdNumbers.{number_bound, successor_number, successor_is_id, number-first, number-last, first_is_id, last_is_id, between_as_numbers, less_numbers}

true_from_T : (b : Bool) → T b → b ≡ true
true_from_T true h = refl
true_from_T false h = absurd h

-- ---- chunks

abbrev pub joined : {A : Type 0} → List (List A) → List A
joined ps = flat_map (λ chunk. chunk) ps

joined_within : {A : Type 0} (most n : ℕ) (xs : List A) → 1 ≤ n → length xs ≤ most → joined (chunks_within most n xs) ≡ xs
unfolding chunks_within
joined_within zero n [] some enough = refl
joined_within zero n (x ∷ xs) some enough = absurd (omega arith)
joined_within (suc most) n [] some enough = refl
joined_within (suc most) n (x ∷ xs) some enough =
    ap (λ ys. take n (x ∷ xs) ++ ys) (joined_within most n (drop n (x ∷ xs)) some (omega (arith, length-drop n (x ∷ xs)))) ∙ take-append-drop n (x ∷ xs)

pub joined_chunks : {A : Type 0} (n : ℕ) (xs : List A) → 1 ≤ n → joined (chunks n xs) ≡ xs
unfolding chunks
joined_chunks n xs some = joined_within (length xs) n xs some (omega arith)

sized_within : {A : Type 0} (most n : ℕ) (xs : List A) → 1 ≤ n → AllByRecursion (λ p. (1 ≤ length p) × (length p ≤ n)) (chunks_within most n xs)
unfolding chunks_within
sized_within zero n xs some = tt
sized_within (suc most) n [] some = tt
sized_within (suc most) n (x ∷ xs) some = ((omega (arith, length-take n (x ∷ xs)), omega (arith, length-take n (x ∷ xs))), sized_within most n (drop n (x ∷ xs)) some)

pub sized_psnp_chunks : {A : Type 0} (n : ℕ) (xs : List A) → 1 ≤ n → AllByRecursion (λ p. (1 ≤ length p) × (length p ≤ n)) (chunks n xs)
unfolding chunks
sized_psnp_chunks n xs some = sized_within (length xs) n xs some

-- ---- entries whose ids rise from a number on

abbrev pub Rising : ℕ → List SnpEntry → Type 0
Rising lo [] = Unit {0}
Rising lo (l ∷ ls) = IsLspId l.id × (lo ≤ id_number l.id) × Rising (id_number l.id + 1) ls

-- the number from which on ids may follow them
abbrev after : ℕ → List SnpEntry → ℕ
after lo [] = lo
after lo (l ∷ ls) = after (id_number l.id + 1) ls

rising_both : (lo : ℕ) (xs ys : List SnpEntry) → Rising lo (xs ++ ys) → Rising lo xs × Rising (after lo xs) ys
rising_both lo [] ys r = (tt, r)
rising_both lo (x ∷ xs) ys r = let rest = rising_both (id_number x.id + 1) xs ys r.2 in ((r.0, r.1, rest.0), rest.1)

rising_wider : (lo hi : ℕ) (xs : List SnpEntry) → lo ≤ hi → Rising hi xs → Rising lo xs
rising_wider lo hi [] h r = tt
rising_wider lo hi (x ∷ xs) h r = (r.0, omega (arith, r.1), r.2)

after_up : (lo : ℕ) (xs : List SnpEntry) → Rising lo xs → lo ≤ after lo xs
after_up lo [] r = omega arith
after_up lo (x ∷ xs) r = let more = after_up (id_number x.id + 1) xs r.2 in omega (arith, r.1)

after_more : (lo : ℕ) (xs : List SnpEntry) → Rising lo xs → 1 ≤ length xs → lo + 1 ≤ after lo xs
after_more lo [] r some = absurd (omega arith)
after_more lo (x ∷ xs) r some = let more = after_up (id_number x.id + 1) xs r.2 in omega (arith, r.1)

after_top : (lo : ℕ) (xs : List SnpEntry) → Rising lo xs → lo ≤ 2 ^ 64 → after lo xs ≤ 2 ^ 64
after_top lo [] r top = top
after_top lo (x ∷ xs) r top = after_top (id_number x.id + 1) xs r.2 (omega (arith, number_bound x.id r.0))

after_end : (lo : ℕ) (other : LspId) (xs : List SnpEntry) → 1 ≤ length xs → after lo xs ≡ id_number (end_of other xs) + 1
after_end lo other [] some = absurd (omega arith)
after_end lo other (x ∷ []) some = refl
after_end lo other (x ∷ y ∷ xs) some = after_end (id_number x.id + 1) x.id (y ∷ xs) (omega arith)

end_is_id : (lo : ℕ) (other : LspId) (xs : List SnpEntry) → Rising lo xs → 1 ≤ length xs → IsLspId (end_of other xs)
end_is_id lo other [] r some = absurd (omega arith)
end_is_id lo other (x ∷ []) r some = r.0
end_is_id lo other (x ∷ y ∷ xs) r some = end_is_id (id_number x.id + 1) x.id (y ∷ xs) r.2 (omega arith)

some_joined : (q : List SnpEntry) (more : List (List SnpEntry)) → 1 ≤ length q → 1 ≤ length (joined (q ∷ more))
some_joined q more some = omega (arith, length-append q (joined more))

rising_below : (lo : ℕ) (xs : List SnpEntry) → Rising lo xs → 1 ≤ length xs → lo < 2 ^ 64
rising_below lo [] r some = absurd (omega arith)
rising_below lo (x ∷ xs) r some = omega (arith, r.1, number_bound x.id r.0)

-- ---- the entries in a range

abbrev in_range : LspId → LspId → SnpEntry → Bool
in_range s e entry = is_between s e entry.id

within : (s e a : ℕ) → s ≤ a → a ≤ e → (nat_le s a && nat_le a e) ≡ true
within s e a h i = grind (arith, nat_tests)

beneath : (s e a : ℕ) → a < s → (nat_le s a && nat_le a e) ≡ false
beneath s e a h = grind (arith, nat_tests)

beyond : (s e a : ℕ) → e < a → (nat_le s a && nat_le a e) ≡ false
beyond s e a h = grind (arith, nat_tests)

filter_within : (s e : LspId) → IsLspId s → IsLspId e → (lo : ℕ) (xs : List SnpEntry) → Rising lo xs → id_number s ≤ lo → after lo xs ≤ id_number e + 1 → filter (in_range s e) xs ≡ xs
filter_within s e is ie lo [] r low high = refl
filter_within s e is ie lo (x ∷ xs) r low high =
    let up = after_up (id_number x.id + 1) xs r.2 in
    let here : in_range s e x ≡ true = between_as_numbers s e x.id is ie r.0 ∙ within (id_number s) (id_number e) (id_number x.id) (omega (arith, r.1)) (omega arith) in
    ap (λ b. if b then x ∷ filter (in_range s e) xs else filter (in_range s e) xs) here
    ∙ ap (λ (ls : List SnpEntry). x ∷ ls) (filter_within s e is ie (id_number x.id + 1) xs r.2 (omega (arith, r.1)) high)

filter_beneath : (s e : LspId) → IsLspId s → IsLspId e → (lo : ℕ) (xs : List SnpEntry) → Rising lo xs → after lo xs ≤ id_number s → filter (in_range s e) xs ≡ []
filter_beneath s e is ie lo [] r below = refl
filter_beneath s e is ie lo (x ∷ xs) r below =
    let up = after_up (id_number x.id + 1) xs r.2 in
    let here : in_range s e x ≡ false = between_as_numbers s e x.id is ie r.0 ∙ beneath (id_number s) (id_number e) (id_number x.id) (omega arith) in
    ap (λ b. if b then x ∷ filter (in_range s e) xs else filter (in_range s e) xs) here ∙ filter_beneath s e is ie (id_number x.id + 1) xs r.2 below

filter_beyond : (s e : LspId) → IsLspId s → IsLspId e → (lo : ℕ) (xs : List SnpEntry) → Rising lo xs → id_number e < lo → filter (in_range s e) xs ≡ []
filter_beyond s e is ie lo [] r above = refl
filter_beyond s e is ie lo (x ∷ xs) r above =
    let here : in_range s e x ≡ false = between_as_numbers s e x.id is ie r.0 ∙ beyond (id_number s) (id_number e) (id_number x.id) (omega (arith, r.1)) in
    ap (λ b. if b then x ∷ filter (in_range s e) xs else filter (in_range s e) xs) here ∙ filter_beyond s e is ie (id_number x.id + 1) xs r.2 (omega (arith, r.1))

-- ---- chunks

-- all chunks but the last have an entry, and so has the last if it isn't the only one
pub FullChunks : List (List SnpEntry) → Type 0
FullChunks [] = Unit {0}
FullChunks (p ∷ []) = Unit {0}
FullChunks (p ∷ q ∷ more) = (1 ≤ length p) × (1 ≤ length q) × FullChunks (q ∷ more)

pub record IsChunk (lo : ℕ) (all : List SnpEntry) (p : CsnpChunk) : Type 0 where
  pub start : IsLspId p.start
  pub end : IsLspId p.end
  pub low : lo ≤ id_number p.start
  pub entries : p.entries ≡ filter (in_range p.start p.end) all

-- a chunk of later entries is one of all entries
later_chunk : (lo mid : ℕ) (before rest : List SnpEntry) (p : CsnpChunk) → Rising lo before → after lo before ≤ mid → lo ≤ mid → IsChunk mid rest p → IsChunk lo (before ++ rest) p
later_chunk lo mid before rest p r past up chunk = record {
  start = chunk.start;
  end = chunk.end;
  low = omega (arith, chunk.low);
  entries = chunk.entries ∙ sym (filter-append (in_range p.start p.end) before rest ∙ ap (λ (ls : List SnpEntry). ls ++ filter (in_range p.start p.end) rest) (filter_beneath p.start p.end chunk.start chunk.end lo before r (omega (arith, chunk.low))));
}

later_chunks : (lo mid : ℕ) (before rest : List SnpEntry) (ps : List CsnpChunk) → Rising lo before → after lo before ≤ mid → lo ≤ mid → AllByRecursion (IsChunk mid rest) ps → AllByRecursion (IsChunk lo (before ++ rest)) ps
later_chunks lo mid before rest [] r past up all = tt
later_chunks lo mid before rest (p ∷ ps) r past up all = (later_chunk lo mid before rest p r past up all.0, later_chunks lo mid before rest ps r past up all.1)

-- what is known where a chunk is followed by others
record Turn (start : LspId) (p : List SnpEntry) (rest : List SnpEntry) : Type 0 where
  pub front : Rising (id_number start) p
  pub back : Rising (id_number (end_of start p) + 1) rest
  pub end : IsLspId (end_of start p)
  pub up : id_number start ≤ id_number (end_of start p)
  pub past : after (id_number start) p ≡ id_number (end_of start p) + 1
  pub next : id_number (successor (end_of start p)) ≡ id_number (end_of start p) + 1

turn : (start : LspId) (p rest : List SnpEntry) → 1 ≤ length p → 1 ≤ length rest → Rising (id_number start) (p ++ rest) → Turn start p rest
turn start p rest some more r =
    let both = rising_both (id_number start) p rest r in
    let past = after_end (id_number start) start p some in
    let back : Rising (id_number (end_of start p) + 1) rest = subst (λ n. Rising n rest) past both.1 in
    record {
      front = both.0;
      back = back;
      end = end_is_id (id_number start) start p both.0 some;
      up = let more = after_more (id_number start) p both.0 some in omega (arith, past);
      past = past;
      next = successor_number (end_of start p) (rising_below (id_number (end_of start p) + 1) rest back more);
    }

pub are_chunks : (start : LspId) (ps : List (List SnpEntry)) → IsLspId start → FullChunks ps → Rising (id_number start) (joined ps) → AllByRecursion (IsChunk (id_number start) (joined ps)) (csnp_chunks_from start ps)
unfolding FullChunks
are_chunks start [] is full r = tt
are_chunks start (p ∷ []) is full r = (
  record {
    start = is;
    end = last_is_id;
    low = omega arith;
    entries = sym (append-nil p) ∙ sym (filter_within start last_id is last_is_id (id_number start) (p ++ []) r (omega arith) (omega (arith, after_top (id_number start) (p ++ []) r (omega (arith, number_bound start is)), number-last)));
  },
  tt,
)
are_chunks start (p ∷ q ∷ more) is full r =
    let rest = joined (q ∷ more) in
    let end = end_of start p in
    let t : Turn start p rest = turn start p rest full.0 (some_joined q more full.1) r in
    let behind : Rising (id_number (successor end)) rest = subst (λ n. Rising n rest) (sym t.next) t.back in (
      record {
        start = is;
        end = t.end;
        low = omega arith;
        entries = sym (filter-append (in_range start end) p rest ∙ (λ i. filter_within start end is t.end (id_number start) p t.front (omega arith) (omega (arith, t.past)) i ++ filter_beyond start end is t.end (id_number end + 1) rest t.back (omega arith) i) ∙ append-nil p);
      },
      later_chunks (id_number start) (id_number (successor end)) p rest (csnp_chunks_from (successor end) (q ∷ more)) t.front (omega (arith, t.past, t.next)) (omega (arith, t.up, t.next))
          (are_chunks (successor end) (q ∷ more) (successor_is_id end) full.2 behind),
    )

-- ---- each id is in one range

one_test : (s a : ℕ) → a ≤ 2 ^ 64 - 1 → (nat_le s a && nat_le a (2 ^ 64 - 1)) ≡ nat_le s a
one_test s a h = grind (arith, nat_tests)

two_tests : (s e a : ℕ) → s ≤ e → (if nat_le s a && nat_le a e then 1 else 0) + (if nat_le (e + 1) a then 1 else 0) ≡ (if nat_le s a then 1 else 0)
two_tests s e a h = grind (arith, nat_tests)

abbrev covers : LspId → CsnpChunk → Bool
covers x p = is_between p.start p.end x

count_one : (x : LspId) (p : CsnpChunk) → count_by (covers x) (p ∷ []) ≡ (if covers x p then 1 else 0)
count_one x p = sum_by-cons (λ (g : CsnpChunk). if covers x g then 1 else 0) p [] ∙ add-zero _

pub covered : (start : LspId) (ps : List (List SnpEntry)) → IsLspId start → FullChunks ps → 1 ≤ length ps → Rising (id_number start) (joined ps) → (x : LspId) → IsLspId x
    → count_by (covers x) (csnp_chunks_from start ps) ≡ (if nat_le (id_number start) (id_number x) then 1 else 0)
unfolding FullChunks
covered start [] is full some r x ix = absurd (omega arith)
covered start (p ∷ []) is full some r x ix =
    count_one x (record { start = start; end = last_id; entries = p })
    ∙ ap (λ b. if b then 1 else 0) (between_as_numbers start last_id x is last_is_id ix ∙ ap (λ n. nat_le (id_number start) (id_number x) && nat_le (id_number x) n) number-last ∙ one_test (id_number start) (id_number x) (omega (arith, number_bound x ix)))
covered start (p ∷ q ∷ more) is full some r x ix =
    let rest = joined (q ∷ more) in
    let end = end_of start p in
    let t : Turn start p rest = turn start p rest full.0 (some_joined q more full.1) r in
    let behind : Rising (id_number (successor end)) rest = subst (λ n. Rising n rest) (sym t.next) t.back in
    let others = covered (successor end) (q ∷ more) (successor_is_id end) full.2 (omega arith) behind x ix in
    sum_by-cons (λ (g : CsnpChunk). if covers x g then 1 else 0) (record { start = start; end = end; entries = p }) (csnp_chunks_from (successor end) (q ∷ more))
    ∙ (λ i. (if between_as_numbers start end x is t.end ix i then 1 else 0) + (others ∙ ap (λ n. if nat_le n (id_number x) then 1 else 0) t.next) i)
    ∙ two_tests (id_number start) (id_number end) (id_number x) t.up

-- ---- the entries of a database

at_each : (P : LspId × Entry → Type 0) (es : List (LspId × Entry)) → ((k : ℕ) (e : LspId × Entry) → slice_get es k ≡ Some e → P e) → AllByRecursion P es
at_each P [] h = tt
at_each P (e ∷ es) h = (h 0 e refl, at_each P es (λ k f at. h (suc k) f at))

-- what is so of what is held under each id is so of each entry in order
pub of_entries : (P : LspId → Entry → Type 0) (db : Lsps) → AllEntries P db → AllByRecursion (λ e. P e.0 e.1) (entries db)
of_entries P db all = at_each (λ e. P e.0 e.1) (entries db) (λ k e at. all e.0 e.1 (get_place db k e at))

-- entries whose ids are ids, and whose numbers aren't below a number
abbrev From : ℕ → List (LspId × Entry) → Type 0
From lo es = AllByRecursion (λ e. IsLspId e.0 × (lo ≤ id_number e.0)) es

from_first : (x : LspId) (es : List (LspId × Entry)) → IsLspId x → AllByRecursion (λ e. IsLspId e.0) es → below_all id_cmp x es ≡ true → From (id_number x + 1) es
from_first x [] ix ids below = tt
from_first x (e ∷ es) ix ids below =
    let chunks = and_parts (is_lt (id_cmp x e.0)) (below_all id_cmp x es) below in
    let up = less_numbers x e.0 ix ids.0 (less_is (id_cmp x e.0) chunks.0) in
    ((ids.0, omega (arith, up)), from_first x es ix ids.1 chunks.1)

rising_entries : (test : Entry → Bool) (lo : ℕ) (es : List (LspId × Entry)) → is_sorted id_cmp es ≡ true → From lo es → Rising lo (gathered test es)
rising_entries test lo [] sorted from = tt
rising_entries test lo (e ∷ es) sorted from =
    let chunks = and_parts (below_all id_cmp e.0 es) (is_sorted id_cmp es) sorted in
    let next : From (id_number e.0 + 1) es = from_first e.0 es from.0.0 (weaker (λ (f : LspId × Entry). IsLspId f.0 × (lo ≤ id_number f.0)) (λ f. IsLspId f.0) es (λ f h. h.0) from.1) chunks.0 in
    by_test (test e.1) refl (rising_entries test lo es chunks.1 from.1) (rising_entries test (id_number e.0 + 1) es chunks.1 next)
  where
    by_test : (b : Bool) → test e.1 ≡ b → Rising lo (gathered test es) → Rising (id_number e.0 + 1) (gathered test es) → Rising lo (gathered test (e ∷ es))
    by_test true t skip take = rw t (from.0.0, from.0.1, take)
    by_test false t skip take = rw t skip

pub rising_db : (test : Entry → Bool) (db : Lsps) → HaveIds db → Rising 0 (snp_entries_where test db)
rising_db test db ids =
    rising_entries test 0 (entries db) (true_from_T _ (entries_sorted db))
    (weaker (λ (e : LspId × Entry). IsLspId e.0) (λ e. IsLspId e.0 × (0 ≤ id_number e.0)) (entries db) (λ e h. (h, omega arith)) (of_entries (λ id e. IsLspId id) db ids))

-- ---- the chunks of CSNPs

full_rest : (p : List SnpEntry) (ps : List (List SnpEntry)) → AllByRecursion (λ q. (1 ≤ length q) × (length q ≤ 90)) (p ∷ ps) → FullChunks (p ∷ ps)
unfolding FullChunks
full_rest p [] sized = tt
full_rest p (q ∷ ps) sized = (sized.0.0, sized.1.0.0, full_rest q ps sized.1)

full_all : (ps : List (List SnpEntry)) → AllByRecursion (λ q. (1 ≤ length q) × (length q ≤ 90)) ps → FullChunks ps
unfolding FullChunks
full_all [] sized = tt
full_all (p ∷ ps) sized = full_rest p ps sized

full_chunks : (entries : List SnpEntry) → FullChunks (chunks_or_one 90 entries)
unfolding FullChunks
full_chunks [] = tt
full_chunks (l ∷ ls) = full_all (chunks 90 (l ∷ ls)) (sized_psnp_chunks 90 (l ∷ ls) (lit≤ tt))

pub joined_or_one : (entries : List SnpEntry) → joined (chunks_or_one 90 entries) ≡ entries
joined_or_one [] = refl
joined_or_one (l ∷ ls) = joined_chunks 90 (l ∷ ls) (lit≤ tt)

short_or_one : (entries : List SnpEntry) → AllByRecursion (λ q. length q ≤ 90) (chunks_or_one 90 entries)
short_or_one [] = (omega arith, tt)
short_or_one (l ∷ ls) = weaker (λ (q : List SnpEntry). (1 ≤ length q) × (length q ≤ 90)) (λ q. length q ≤ 90) (chunks 90 (l ∷ ls)) (λ q h. h.1) (sized_psnp_chunks 90 (l ∷ ls) (lit≤ tt))

short_csnp_chunks : (start : LspId) (ps : List (List SnpEntry)) → AllByRecursion (λ q. length q ≤ 90) ps → AllByRecursion (λ chunk. length chunk.entries ≤ 90) (csnp_chunks_from start ps)
short_csnp_chunks start [] short = tt
short_csnp_chunks start (p ∷ []) short = (short.0, tt)
short_csnp_chunks start (p ∷ q ∷ more) short = (short.0, short_csnp_chunks (successor (end_of start p)) (q ∷ more) short.1)

pub csnp_chunks_are_short : CsnpChunksAreShort
csnp_chunks_are_short db = short_csnp_chunks first_id (chunks_or_one 90 (snp_entries_where is_listed db)) (short_or_one (snp_entries_where is_listed db))

rising_listed : (db : Lsps) → HaveIds db → Rising (id_number first_id) (joined (chunks_or_one 90 (snp_entries_where is_listed db)))
rising_listed db ids =
    subst (λ n. Rising n (joined (chunks_or_one 90 (snp_entries_where is_listed db)))) (sym number-first)
    (subst (λ (ls : List SnpEntry). Rising 0 ls) (sym (joined_or_one (snp_entries_where is_listed db))) (rising_db is_listed db ids))

pub ranges_cover_once : RangesCoverOnce
ranges_cover_once db ids x ix =
    let entries = snp_entries_where is_listed db in
    covered first_id (chunks_or_one 90 entries) first_is_id (full_chunks entries) (chunks_some entries) (rising_listed db ids) x ix
    ∙ ap (λ b. if b then 1 else 0) (ap (λ n. nat_le n (id_number x)) number-first ∙ le-leb 0 (id_number x) (omega arith))

db_chunks : (db : Lsps) → HaveIds db → AllByRecursion (IsChunk (id_number first_id) (snp_entries_where is_listed db)) (csnp_chunks db)
db_chunks db ids =
    let entries = snp_entries_where is_listed db in
    subst (λ (ls : List SnpEntry). AllByRecursion (IsChunk (id_number first_id) ls) (csnp_chunks db)) (joined_or_one entries)
    (are_chunks first_id (chunks_or_one 90 entries) first_is_id (full_chunks entries) (rising_listed db ids))

pub csnp_chunks_list_their_ranges : CsnpChunksListTheirRanges
csnp_chunks_list_their_ranges db ids =
    weaker (IsChunk (id_number first_id) (snp_entries_where is_listed db)) (λ chunk. chunk.entries ≡ filter (in_range chunk.start chunk.end) (snp_entries_where is_listed db)) (csnp_chunks db) (λ chunk h. h.entries) (db_chunks db ids)

pub csnp_chunks_end_at_ids : CsnpChunksEndAtIds
csnp_chunks_end_at_ids db ids =
    weaker (IsChunk (id_number first_id) (snp_entries_where is_listed db)) (λ chunk. IsLspId chunk.start × IsLspId chunk.end) (csnp_chunks db) (λ chunk h. (h.start, h.end)) (db_chunks db ids)

-- ---- the chunks of PSNPs

pub psnp_chunks_are_whole : PsnpChunksAreWhole
psnp_chunks_are_whole port db = joined_chunks 90 (snp_entries_where (has_ssn_at port) db) (lit≤ tt)

pub psnp_chunks_are_short : PsnpChunksAreShort
psnp_chunks_are_short port db = sized_psnp_chunks 90 (snp_entries_where (has_ssn_at port) db) (lit≤ tt)
