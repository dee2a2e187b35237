-- What the LSPs of a system say together, and where number 0 is read alone.
use Rattle.std.proofs.Common.{◌≡◌, ℕ, zero, suc, ◌+◌, ◌-◌, ◌≤◌, ◌<◌, Bool, true, false, List, [], ◌∷◌, ◌++◌, take, slice_get, refl, sym, ap, ◌∙◌, subst, Option, Some, None, arith, append_assoc}
use Rattle.std.specs.Prelude.{◌&&◌, ◌==◌, nat_lt, Result, Ok, Err, IfOk, OnOk, if◌then◌else◌}
use Rattle.std.specs.Option.{option_map, option_to_list, unwrap_or}
use Rattle.std.specs.List.{AllByRecursion, filter_map}
use Rattle.std.specs.Ordering.{is_eq}
use Rattle.std.specs.FinMap.{get, entries}
use Rattle.std.proofs.lemmas.Bool.{and_parts, eqb-true}
use Rattle.std.proofs.lemmas.List.{append-nil}
use Rattle.spb_types.specs.declared.address.LspId.{LspId}
use Rattle.spb_types.specs.declared.address.SystemId.{SystemId}
use Rattle.lsdb.specs.declared.version.Version.{Version}
use Rattle.lsdb.specs.declared.version.Version.TheVariants.{Absent, Live, Dead}
use Rattle.lsdb.specs.declared.held.Held.{Held}
use Rattle.lsdb.specs.Entry.{Entry, entry_of}
use Rattle.lsdb.specs.Database.{Lsps, id_cmp, keyed}
use Rattle.lsdb.proofs.LookupLemmas.{tied_is}
use Rattle.flooding.specs.Own.{own_id, own_numbers, own_number, tlvs_of_body}
use Rattle.flooding.specs.declared.own.TheConstants.{OWN_NUMBERS}
use Rattle.flooding.proofs.OwnNumbers.{some_number}
use Rattle.spb_content.specs.declared.content.Content.{Content}
use Rattle.spb_content.specs.Content.{content_in}
use Rattle.bridge_api.specs.Tables.{is_numbered, live_body, body_if_live, live_lsp, live_lsps, body_among, tlvs_under, tlvs_among, said_among}
use Rattle.bridge_api.proofs.GraphRead.{among_is_held}
use Rattle.bridge_control.specs.Reading.{AreFirst}
use Rattle.bridge_control.proofs.OwnTables.{read_more}

-- ---- what stands at a place

pub entry_is : (o : Option Held) (id : LspId) (e : Entry) → option_map keyed o ≡ Some (id, e) → option_map entry_of o ≡ Some e
entry_is None id e is = absurd cc
entry_is (Some held) id e is = ap (option_map (λ (q : LspId × Entry). q.1)) is

-- ---- the TLVs under an id

pub tlvs_held : (db : Lsps) (id : LspId) (o : Option Entry) → is_numbered id ≡ true → o ≡ get db id → tlvs_of_body (unwrap_or (body_if_live o) []) ≡ tlvs_under (live_lsps db) id
tlvs_held db id o numbered is = ap (λ p. tlvs_of_body (unwrap_or (body_if_live p) [])) is ∙ by (get db id) (among_is_held db id numbered)
  where
    by : (p : Option Entry) → body_among (live_lsps db) id ≡ body_if_live p → tlvs_of_body (unwrap_or (body_if_live p) []) ≡ tlvs_under (live_lsps db) id
    by p found = ap (λ b. tlvs_of_body (unwrap_or b [])) (sym found)

-- TLVs that were put behind others are the same as these
pub put_same : {T E : Type 0} {ts us : List ℕ} (r : Result T E) (old new : List ℕ) → ts ≡ us → OnOk r (new ≡ old ++ ts) → OnOk r (new ≡ old ++ us)
put_same (Ok t) old new same put = put ∙ ap (λ xs. old ++ xs) same
put_same (Err e) old new same put = put

-- ---- one number after another

-- there are as many numbers as the code counts
pub numbers_are : own_numbers ≡ OWN_NUMBERS
unfolding own_numbers
numbers_are = refl

-- the TLVs so far, with those of one number more and of all that are left, are those of all
pub tlvs_more : (lsps : List (LspId × List ℕ)) (x : SystemId) (n k : ℕ) (before after : List ℕ) → k < n → after ≡ before ++ tlvs_under lsps (own_number x k)
    → before ++ tlvs_among lsps x (n - k) k ≡ tlvs_among lsps x n 0 → after ++ tlvs_among lsps x (n - (k + 1)) (k + 1) ≡ tlvs_among lsps x n 0
tlvs_more lsps x n k before after less put so_far =
    ap (λ ts. ts ++ tlvs_among lsps x (n - (k + 1)) (k + 1)) put
    ∙ (append_assoc before (tlvs_under lsps (own_number x k)) (tlvs_among lsps x (n - (k + 1)) (k + 1))
    ∙ (ap (λ ts. before ++ ts) (sym (ap (λ i. tlvs_among lsps x i k) (next (n - k) (n - (k + 1)) (omega (arith, less))))) ∙ so_far))
  where
    next : (a b : ℕ) → a ≡ b + 1 → a ≡ suc b
    next a b e = omega (arith, e)

-- where no number is left, they are all
pub tlvs_end : (lsps : List (LspId × List ℕ)) (x : SystemId) (n k : ℕ) (tlvs : List ℕ) → n ≤ k → tlvs ++ tlvs_among lsps x (n - k) k ≡ tlvs_among lsps x n 0 → tlvs ≡ tlvs_among lsps x n 0
tlvs_end lsps x n k tlvs past so_far =
    let none : n - k ≡ 0 = omega (arith, past) in
    sym (append-nil tlvs) ∙ (ap (λ i. tlvs ++ tlvs_among lsps x i k) (sym none) ∙ so_far)

-- what was read of TLVs, where that is what these say
pub read_all : {E : Type 0} {c d : Content} (r : Result Content E) → c ≡ d → IfOk r (λ content. content ≡ c) → IfOk r (λ content. content ≡ d)
read_all (Ok content) same is = is ∙ same
read_all (Err e) same is = is

-- ---- where all LSPs that are read have number 0

none_first : (lsps : List (LspId × List ℕ)) (x : SystemId) (k : ℕ) → AreFirst lsps → 1 ≤ k → body_among lsps (own_number x k) ≡ None
none_first [] x k first some = refl
none_first (lsp ∷ lsps) x k first some = by (is_eq (id_cmp (own_number x k) lsp.0)) refl (none_first lsps x k first.1 some)
  where
    by : (b : Bool) → is_eq (id_cmp (own_number x k) lsp.0) ≡ b → body_among lsps (own_number x k) ≡ None → (if b then Some lsp.1 else body_among lsps (own_number x k)) ≡ None
    by true same rest =
        let number : k ≡ 0 = ap (λ (id : LspId). id.number) (tied_is (own_number x k) lsp.0 same) ∙ first.0 in
        absurd (omega (arith, some, number))
    by false apart rest = rest

none_more : (lsps : List (LspId × List ℕ)) (x : SystemId) (n k : ℕ) → AreFirst lsps → 1 ≤ k → tlvs_among lsps x n k ≡ []
none_more lsps x zero k first some = refl
none_more lsps x (suc n) k first some =
    ap (λ b. tlvs_of_body (unwrap_or b []) ++ tlvs_among lsps x n (k + 1)) (none_first lsps x k first some) ∙ none_more lsps x n (k + 1) first (omega arith)

first_alone : (lsps : List (LspId × List ℕ)) (x : SystemId) (n : ℕ) → AreFirst lsps → 1 ≤ n → tlvs_among lsps x n 0 ≡ tlvs_under lsps (own_id x)
first_alone lsps x zero first some = absurd (omega (arith, some))
first_alone lsps x (suc n) first some =
    ap (λ ts. tlvs_under lsps (own_id x) ++ ts) (none_more lsps x n (0 + 1) first (omega arith)) ∙ append-nil (tlvs_under lsps (own_id x))

-- what is read of an entry: its id is numbered, and it is live
record IsRead (held : LspId × Entry) (body : List ℕ) : Type 0 where
  numbered : is_numbered held.0 ≡ true
  live : live_body held.1.version held.1.body ≡ Some body

is_read : (held : LspId × Entry) (body : List ℕ) → live_lsp held ≡ Some (held.0, body) → IsRead held body
is_read held body is = by (is_numbered held.0) (live_body held.1.version held.1.body) refl refl is
  where
    by : (b : Bool) (o : Option (List ℕ)) → is_numbered held.0 ≡ b → live_body held.1.version held.1.body ≡ o
        → (if b then option_map {U = LspId × List ℕ} (λ body. (held.0, body)) o else None) ≡ Some (held.0, body) → IsRead held body
    by true None numbered live e = cc
    by true (Some text) numbered live e = record { numbered = numbered; live = live ∙ ap (option_map (λ (q : LspId × List ℕ). q.1)) e }
    by false o numbered live e = cc

own_first : (id : LspId) → is_numbered id ≡ true → id.number ≡ 0 → id ≡ own_id id.system
own_first id numbered number =
    let pseudonode : id.pseudonode ≡ 0 = eqb-true id.pseudonode 0 (and_parts (id.pseudonode == 0) (nat_lt id.number own_numbers) numbered).0 in
    λ i. record { system = id.system; pseudonode = pseudonode i; number = number i }

-- then a system says what its number 0 does
pub said_first : (db : Lsps) (held : LspId × Entry) (body : List ℕ) → AreFirst (live_lsps db) → get db held.0 ≡ Some held.1 → live_lsp held ≡ Some (held.0, body) → held.0.number ≡ 0
    → content_in (tlvs_of_body body) ≡ said_among (live_lsps db) held.0.system
said_first db held body first is read number =
    let was : IsRead held body = is_read held body read in
    let here : own_id held.0.system ≡ held.0 = sym (own_first held.0 was.numbered number) in
    let found : body_if_live (Some held.1) ≡ Some body = was.live in
    let under : tlvs_of_body body ≡ tlvs_under (live_lsps db) held.0 = ap (λ o. tlvs_of_body (unwrap_or o [])) (sym found) ∙ tlvs_held db held.0 (Some held.1) was.numbered (sym is) in
    ap content_in (under ∙ (ap (tlvs_under (live_lsps db)) (sym here) ∙ sym (first_alone (live_lsps db) held.0.system own_numbers first some_number)))

-- ---- whether all have number 0

all_more : {A : Type 0} (P : A → Type 0) (xs ys : List A) → AllByRecursion P xs → AllByRecursion P ys → AllByRecursion P (xs ++ ys)
all_more P [] ys these those = those
all_more P (x ∷ xs) ys these those = (these.0, all_more P xs ys these.1 those)

pub first_read : (held : LspId × Entry) → held.0.number ≡ 0 → AreFirst (option_to_list (live_lsp held))
first_read held number = by (is_numbered held.0) (live_body held.1.version held.1.body)
  where
    by : (b : Bool) (o : Option (List ℕ)) → AreFirst (option_to_list (if b then option_map {U = LspId × List ℕ} (λ body. (held.0, body)) o else None))
    by true None = tt
    by true (Some body) = (number, tt)
    by false o = tt

pub none_read : (held : LspId × Entry) → live_lsp held ≡ None → AreFirst (option_to_list (live_lsp held))
none_read held none = subst (λ (o : Option (LspId × List ℕ)). AreFirst (option_to_list o)) (sym none) tt

pub first_more : (es : List (LspId × Entry)) (k : ℕ) (held : LspId × Entry) → slice_get es k ≡ Some held → AreFirst (option_to_list (live_lsp held))
    → AreFirst (filter_map live_lsp (take k es)) → AreFirst (filter_map live_lsp (take (k + 1) es))
first_more es k held is here was =
    let old : List (LspId × List ℕ) = filter_map live_lsp (take k es) in
    subst AreFirst (read_more live_lsp es k held old (old ++ option_to_list (live_lsp held)) is refl refl)
    (all_more (λ (lsp : LspId × List ℕ). lsp.0.number ≡ 0) old (option_to_list (live_lsp held)) was here)
