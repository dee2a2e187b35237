-- The frames that are kept stay those of the LSPs.
use Rattle.std.proofs.Common.{◌≡◌, ◌≤◌, ◌<◌, ℕ, zero, suc, Bool, true, false, List, [], ◌∷◌, ◌++◌, map, length, take, add-one, ◌+◌, refl, sym, ap, ◌∙◌, subst, arith, get_or, Bor, Option, Some, None}
use Rattle.std.specs.Option.{option_map}
use Rattle.std.proofs.lemmas.Option.{slice_get-map}
use Rattle.std.specs.Prelude.{slice_get, if◌then◌else◌, nat_lt, IfSome, is_some, option_copied}
use Rattle.std.proofs.lemmas.Bool.{ltb-true, ltb-false}
use Rattle.std.specs.FinMap.{entries}
use Rattle.spb_types.specs.declared.address.SystemId.{SystemId}
use Rattle.spb_types.specs.declared.address.LspId.{LspId}
use Rattle.spb_types.specs.Ports.{has}
use Rattle.lsdb.specs.Entry.{Entry, with_ssn}
use Rattle.lsdb.specs.Database.{Lsps}
use Rattle.lsdb.proofs.LookupLemmas.{entries-each}
use Rattle.isis_pdu.specs.Pdu.{LspValue}
use Rattle.flooding.specs.Sending.{lsp_in}
use Rattle.snp_sync.specs.Sending.{ssn_cleared, all_ssn_cleared}
use Rattle.bridge_api.specs.declared.port.BridgePort.{BridgePort}
use Rattle.bridge_api.specs.View.{is_port_up}
use Rattle.bridge_api.specs.Ticking.{lsp_frame, after_sending_at}
use Rattle.bridge_control.specs.Made.{IsMadeOf, IsMadeAt, AreMadeOf}

-- one frame more
frames_more : (system : SystemId) (es : List (LspId × Entry)) (ps : List ℕ) (frames : List (Option (List ℕ))) (k d : ℕ) (frame : Option (List ℕ)) → length frames ≡ k → k < length ps → AreMadeOf system es (take k ps) frames
    → IsMadeAt system (slice_get es (get_or ps k d)) (Some frame) → AreMadeOf system es (take (suc k) ps) (frames ++ frame ∷ [])
frames_more system es [] frames k d frame long within all is = absurd (omega (arith, within))
frames_more system es (p ∷ ps) [] zero d frame long within all is = (is, tt)
frames_more system es (p ∷ ps) [] (suc k) d frame long within all is = absurd (omega (arith, long))
frames_more system es (p ∷ ps) (f ∷ frames) zero d frame long within all is = absurd (omega (arith, long))
frames_more system es (p ∷ ps) (f ∷ frames) (suc k) d frame long within all is =
    (all.0, frames_more system es ps frames k d frame (omega (arith, long)) (omega (arith, within)) all.1 is)

pub frames_next : (system : SystemId) (es : List (LspId × Entry)) (ps : List ℕ) (frames : List (Option (List ℕ))) (k d : ℕ) (frame : Option (List ℕ)) → length frames ≡ k → k < length ps → AreMadeOf system es (take k ps) frames
    → IsMadeAt system (slice_get es (get_or ps k d)) (Some frame) → AreMadeOf system es (take (k + 1) ps) (frames ++ frame ∷ [])
frames_next system es ps frames k d frame long within all is =
    subst (λ n. AreMadeOf system es (take n ps) (frames ++ frame ∷ [])) (sym (add-one k)) (frames_more system es ps frames k d frame long within all is)

-- the frame of a place
none_there : (frames : List (Option (List ℕ))) (k : ℕ) → length frames ≡ 0 → slice_get frames k ≡ None
none_there [] zero none = refl
none_there [] (suc k) none = refl
none_there (f ∷ frames) k none = absurd (omega (arith, none))

unmade : (system : SystemId) (o : Option (LspId × Entry)) → IsMadeAt system o None
unmade system None = tt
unmade system (Some e) = tt

made_there : (system : SystemId) (es : List (LspId × Entry)) (ps : List ℕ) (frames : List (Option (List ℕ))) (k d : ℕ) → k < length ps → AreMadeOf system es ps frames → IsMadeAt system (slice_get es (get_or ps k d)) (slice_get frames k)
made_there system es [] frames k d within all = absurd (omega (arith, within))
made_there system es (p ∷ ps) [] k d within all =
    subst (λ kept. IsMadeAt system (slice_get es (get_or (p ∷ ps) k d)) kept) (sym (none_there [] k refl)) (unmade system (slice_get es (get_or (p ∷ ps) k d)))
made_there system es (p ∷ ps) (f ∷ frames) zero d within all = all.0
made_there system es (p ∷ ps) (f ∷ frames) (suc k) d within all = made_there system es ps frames k d (omega (arith, within)) all.1

-- SSN isn't read
same_lsp : (p : ℕ) (id : LspId) (e : Entry) → lsp_in id e ≡ lsp_in id (ssn_cleared p e)
same_lsp p id e = by_test (has e.ssn p)
  where
    by_test : (b : Bool) → lsp_in id e ≡ lsp_in id (if b then with_ssn p false e else e)
    by_test true = refl
    by_test false = refl

kept_of : (system : SystemId) (p : ℕ) (e : LspId × Entry) (kept : Option (Option (List ℕ))) → IsMadeOf system e kept → IsMadeOf system (e.0, ssn_cleared p e.1) kept
kept_of system p e None is = tt
kept_of system p e (Some None) is = tt
kept_of system p e (Some (Some frame)) is = is ∙ ap (λ (l : LspValue). lsp_frame system l) (same_lsp p e.0 e.1)

kept_at : (system : SystemId) (p : ℕ) (o : Option (LspId × Entry)) (kept : Option (Option (List ℕ))) → IsMadeAt system o kept → IsMadeAt system (option_map (λ (e : LspId × Entry). (e.0, ssn_cleared p e.1)) o) kept
kept_at system p None kept is = tt
kept_at system p (Some e) kept is = kept_of system p e kept is

kept_all : (system : SystemId) (p : ℕ) (es : List (LspId × Entry)) (ps : List ℕ) (frames : List (Option (List ℕ))) → AreMadeOf system es ps frames → AreMadeOf system (map (λ (e : LspId × Entry). (e.0, ssn_cleared p e.1)) es) ps frames
kept_all system p es [] frames all = tt
kept_all system p es (q ∷ ps) [] all = tt
kept_all system p es (q ∷ ps) (f ∷ frames) all =
    (subst (λ o. IsMadeAt system o (Some f)) (sym (slice_get-map (λ (e : LspId × Entry). (e.0, ssn_cleared p e.1)) es q)) (kept_at system p (slice_get es q) (Some f) all.0), kept_all system p es ps frames all.1)

pub after_sending_frames : (system : SystemId) (p : ℕ) (port : BridgePort) (db : Lsps) (ps : List ℕ) (frames : List (Option (List ℕ))) → AreMadeOf system (entries db) ps frames → AreMadeOf system (entries (after_sending_at p port db)) ps frames
after_sending_frames system p port db ps frames all = by_test (is_port_up port)
  where
    by_test : (b : Bool) → AreMadeOf system (entries (if b then all_ssn_cleared p db else db)) ps frames
    by_test true = subst (λ (es : List (LspId × Entry)). AreMadeOf system es ps frames) (sym (entries-each (λ id e. ssn_cleared p e) db)) (kept_all system p (entries db) ps frames all)
    by_test false = all

-- what a look-up by index copies
past_all : {X : Type 0} (xs : List X) (i : ℕ) → length xs ≤ i → slice_get xs i ≡ None
past_all [] i past = refl
past_all (x ∷ xs) zero past = absurd (omega arith)
past_all (x ∷ xs) (suc i) past = past_all xs i (omega arith)

at_place : {X : Type 0} (xs : List X) (i : ℕ) (d : X) → i < length xs → slice_get xs i ≡ Some (get_or xs i d)
at_place [] i d within = absurd (omega arith)
at_place (x ∷ xs) zero d within = refl
at_place (x ∷ xs) (suc i) d within = at_place xs i d (omega arith)

pub copied_at : {X : Type 0} (xs : List X) (i : ℕ) (r : Option (Bor X)) → is_some r ≡ nat_lt i (length xs) → IfSome r (λ x. x.now ≡ get_or xs i x.now) → option_copied r ≡ slice_get xs i
copied_at xs i None h k = sym (past_all xs i (ltb-false i (length xs) (sym h)))
copied_at xs i (Some x) h k = ap (λ y. Some y) k ∙ sym (at_place xs i x.now (ltb-true i (length xs) (sym h)))

-- the frame of a place, as it is looked up
pub made_at : (system : SystemId) (es : List (LspId × Entry)) (ps : List ℕ) (frames : List (Option (List ℕ))) (k d : ℕ) (r : Option (Bor (Option (List ℕ)))) → AreMadeOf system es ps frames → k < length ps
    → is_some r ≡ nat_lt k (length frames) → IfSome r (λ x. x.now ≡ get_or frames k x.now) → IsMadeAt system (slice_get es (get_or ps k d)) (option_copied r)
made_at system es ps frames k d r all within h i =
    subst (λ o. IsMadeAt system (slice_get es (get_or ps k d)) o) (sym (copied_at frames k r h i)) (made_there system es ps frames k d within all)
