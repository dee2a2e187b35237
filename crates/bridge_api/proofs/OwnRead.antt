-- A bridge reads of itself each neighbour at a port of its own: number 0 of its LSPs lists them, and the others none.
use Rattle.std.proofs.Common.{◌≡◌, inl, inr, ◌≤◌, ◌<◌, ◌+◌, ℕ, zero, suc, Bool, true, false, List, [], ◌∷◌, ◌++◌, length, drop, refl, sym, ap, ◌∙◌, subst, Option, Some, None, arith}
use Rattle.std.specs.Prelude.{◌&&◌, is_some, nat_le, flat_map, IsTrue, if◌then◌else◌}
use Rattle.std.specs.Option.{unwrap_or}
use Rattle.std.specs.List.{AllByRecursion}
use Rattle.std.specs.FinMap.{get}
use Rattle.std.proofs.lemmas.Bool.{and_parts, leb-true}
use Rattle.std.proofs.lemmas.List.{append-nil, length-drop}
use Rattle.std.proofs.lemmas.List.Concat.{flat_map-append}
use Rattle.std.proofs.lemmas.Slice.Eq.{bytes_eq-Decides}
use Rattle.spb_types.specs.declared.address.SystemId.{SystemId}
use Rattle.spb_types.specs.declared.address.LspId.{LspId}
use Rattle.spb_types.specs.declared.limits.TheConstants.{MOST_PORTS}
use Rattle.spb_types.specs.Address.{same_system}
use Rattle.isis_pdu.specs.Tlvs.{is_whole}
use Rattle.isis_pdu.proofs.TlvWalk.{no_tlv}
use Rattle.isis_pdu.proofs.FormatLaws.{whole_next}
use Rattle.spb_tlvs.specs.declared.neighbours.Neighbour.{Neighbour}
use Rattle.spb_tlvs.specs.Neighbour.{neighbours_of}
use Rattle.spb_tlvs.specs.Piece.{starts_whole, after_first, ends_whole, pieces, pieces_within}
use Rattle.spb_tlvs.specs.Tlv.{values_with}
use Rattle.spb_tlvs.proofs.Pieces.{nothing_is_whole, whole_from_len}
use Rattle.spb_tlvs.proofs.Whole.{whole_more}
use Rattle.spb_tlvs.proofs.TlvLaws.{tlvs_join}
use Rattle.lsdb.specs.declared.version.Version.{Version}
use Rattle.lsdb.specs.declared.version.Version.TheVariants.{Absent, Live, Dead}
use Rattle.lsdb.specs.Entry.{Entry}
use Rattle.lsdb.specs.Database.{Lsps, version_in, version_at}
use Rattle.lsdb.specs.Time.{is_live}
use Rattle.flooding.specs.Own.{own_id, own_numbers, own_number, tlvs_of_body, body_in}
use Rattle.flooding.specs.Entries.{AreSendable}
use Rattle.flooding.proofs.OwnNumbers.{some_number}
use Rattle.spb_content.specs.declared.content.Content.{Content}
use Rattle.spb_content.specs.Content.{or_nothing, neighbours_in, content_in}
use Rattle.spb_content.specs.Graph.{Contents, said_of, ArePortsApart, HasPorts}
use Rattle.spb_content.proofs.Members.{Has, contains_from_has}
use Rattle.bridge_api.specs.Tables.{is_numbered, live_body, body_if_live, live_lsps, body_among, tlvs_under, tlvs_among, said_among, contents_of}
use Rattle.bridge_api.specs.Graph.{content_held, OwnPortsAreApart}
use Rattle.bridge_api.proofs.GraphRead.{number_read, among_is_held, reads_what_is_held}

-- ---- whole TLVs put together

-- bytes that are whole TLVs are whole pieces
whole_within : (n : ℕ) (bytes : List ℕ) → length bytes ≤ n → is_whole bytes ≡ true → ends_whole 2 bytes ≡ true
whole_within n [] few whole = nothing_is_whole 2 (omega arith)
whole_within n (code ∷ []) few whole = let cut : true ≡ false = sym whole ∙ no_tlv (code ∷ []) (omega arith) in absurd cc
whole_within zero (code ∷ len ∷ bytes) few whole = absurd (omega (arith, few))
whole_within (suc n) (code ∷ len ∷ bytes) few whole =
    let parts = and_parts (nat_le len (length bytes)) (is_whole (drop len bytes)) (sym (whole_next code len bytes) ∙ whole) in
    let within : len ≤ length bytes = leb-true len (length bytes) parts.0 in
    let past : 2 + len ≡ suc (suc len) = omega arith in
    let starts : starts_whole 2 (code ∷ len ∷ bytes) ≡ true = whole_from_len 2 (code ∷ len ∷ bytes) (omega arith) (omega (arith, within)) in
    whole_more 2 (code ∷ len ∷ bytes) (omega arith) starts
    ∙ (ap (λ i. ends_whole 2 (drop i (code ∷ len ∷ bytes))) past
    ∙ whole_within n (drop len bytes) (omega (arith, few, length-drop len bytes)) parts.1)

-- the neighbours of whole TLVs and what follows them are those of both
neighbours_joined : (front rest : List ℕ) → is_whole front ≡ true → neighbours_in (front ++ rest) ≡ neighbours_in front ++ neighbours_in rest
neighbours_joined front rest whole =
    ap (flat_map (λ value. or_nothing (neighbours_of value))) (tlvs_join 22 front rest (whole_within (length front) front (omega arith) whole))
    ∙ flat_map-append (λ value. or_nothing (neighbours_of value)) (values_with 22 front) (values_with 22 rest)

none_in_nothing : neighbours_in [] ≡ []
unfolding pieces pieces_within
none_in_nothing = refl

-- ---- the TLVs of a system's LSPs

-- the TLVs under an id are those that are held, if they are live, and else none
tlvs_held : (db : Lsps) (id : LspId) → is_numbered id ≡ true → tlvs_under (live_lsps db) id ≡ tlvs_of_body (unwrap_or (body_if_live (get db id)) [])
tlvs_held db id numbered = ap (λ o. tlvs_of_body (unwrap_or o [])) (among_is_held db id numbered)

live_tlvs : (a : Version) (body : List ℕ) (P : List ℕ → Type 0) → P (tlvs_of_body body) → P [] → P (tlvs_of_body (unwrap_or (live_body a body) []))
live_tlvs Absent body P some none = none
live_tlvs (Live seq sum) body P some none = some
live_tlvs (Dead seq) body P some none = none

-- what is so of the TLVs that are held and of none is so of them
held_tlvs : (P : List ℕ → Type 0) (o : Option Entry) → ((e : Entry) → o ≡ Some e → P (tlvs_of_body e.body)) → P [] → P (tlvs_of_body (unwrap_or (body_if_live o) []))
held_tlvs P None some none = none
held_tlvs P (Some e) some none = live_tlvs e.version e.body P (some e refl) none

under : (P : List ℕ → Type 0) (db : Lsps) (id : LspId) → is_numbered id ≡ true → ((e : Entry) → get db id ≡ Some e → P (tlvs_of_body e.body)) → P [] → P (tlvs_under (live_lsps db) id)
under P db id numbered some none = subst P (sym (tlvs_held db id numbered)) (held_tlvs P (get db id) some none)

none_whole : is_whole [] ≡ true
none_whole = no_tlv [] (omega arith)

true_is : (b : Bool) → IsTrue b → b ≡ true
true_is b is = is

whole_under : (db : Lsps) (id : LspId) → AreSendable db → is_numbered id ≡ true → is_whole (tlvs_under (live_lsps db) id) ≡ true
whole_under db id sendable numbered = under (λ tlvs. is_whole tlvs ≡ true) db id numbered (λ e held. true_is _ (sendable id e held).written.whole) none_whole

-- where those of the numbers above 0 list no neighbour, those of number 0 are all
pub record ListNone (db : Lsps) (x : SystemId) : Type 0 where
  pub sendable : AreSendable db
  pub none : (number : ℕ) → 1 ≤ number → number < own_numbers → neighbours_in (tlvs_of_body (body_in (get db (own_number x number)))) ≡ []

none_under : (db : Lsps) (x : SystemId) (number : ℕ) → ListNone db x → 1 ≤ number → number < own_numbers → neighbours_in (tlvs_under (live_lsps db) (own_number x number)) ≡ []
none_under db x number is some below =
    under (λ tlvs. neighbours_in tlvs ≡ []) db (own_number x number) (number_read x number below)
    (λ e held. ap (λ (o : Option Entry). neighbours_in (tlvs_of_body (body_in o))) (sym held) ∙ is.none number some below) none_in_nothing

joined_at : (db : Lsps) (x : SystemId) (n k : ℕ) → ListNone db x → k < own_numbers
    → neighbours_in (tlvs_among (live_lsps db) x (suc n) k) ≡ neighbours_in (tlvs_under (live_lsps db) (own_number x k)) ++ neighbours_in (tlvs_among (live_lsps db) x n (k + 1))
joined_at db x n k is below =
    neighbours_joined (tlvs_under (live_lsps db) (own_number x k)) (tlvs_among (live_lsps db) x n (k + 1)) (whole_under db (own_number x k) is.sendable (number_read x k below))

others_list_none : (db : Lsps) (x : SystemId) (n k : ℕ) → ListNone db x → 1 ≤ k → k + n ≤ own_numbers → neighbours_in (tlvs_among (live_lsps db) x n k) ≡ []
others_list_none db x zero k is some few = none_in_nothing
others_list_none db x (suc n) k is some few =
    joined_at db x n k is (omega (arith, few))
    ∙ ((λ i. none_under db x k is some (omega (arith, few)) i ++ neighbours_in (tlvs_among (live_lsps db) x n (k + 1)))
    ∙ others_list_none db x n (k + 1) is (omega arith) (omega (arith, few)))

first_lists_all : (db : Lsps) (x : SystemId) (n : ℕ) → ListNone db x → 1 ≤ n → n ≤ own_numbers → neighbours_in (tlvs_among (live_lsps db) x n 0) ≡ neighbours_in (tlvs_under (live_lsps db) (own_id x))
first_lists_all db x zero is some few = absurd (omega (arith, some))
first_lists_all db x (suc n) is some few =
    joined_at db x n 0 is (omega (arith, few))
    ∙ (ap (λ (ns : List Neighbour). neighbours_in (tlvs_under (live_lsps db) (own_id x)) ++ ns) (others_list_none db x n (0 + 1) is (omega arith) (omega (arith, few)))
    ∙ append-nil (neighbours_in (tlvs_under (live_lsps db) (own_id x))))

live_is : (o : Option Entry) → is_live (version_in o) ≡ true → tlvs_of_body (unwrap_or (body_if_live o) []) ≡ tlvs_of_body (body_in o)
live_is None live = absurd cc
live_is (Some e) live = by e.version live
  where
    by : (a : Version) → is_live a ≡ true → tlvs_of_body (unwrap_or (live_body a e.body) []) ≡ tlvs_of_body e.body
    by Absent live = absurd cc
    by (Live seq sum) live = refl
    by (Dead seq) live = absurd cc

neighbours_said : (tlvs : List ℕ) → (content_in tlvs).neighbours ≡ neighbours_in tlvs
unfolding content_in
neighbours_said tlvs = refl

-- so a system whose number 0 is live is read to have the neighbours that this one lists
pub neighbours_read : (db : Lsps) (x : SystemId) → ListNone db x → is_live (version_at db (own_id x)) ≡ true
    → (said_among (live_lsps db) x).neighbours ≡ (content_in (tlvs_of_body (body_in (get db (own_id x))))).neighbours
neighbours_read db x is live =
    neighbours_said (tlvs_among (live_lsps db) x own_numbers 0)
    ∙ (first_lists_all db x own_numbers is some_number (omega arith)
    ∙ (ap neighbours_in (tlvs_held db (own_id x) (number_read x 0 (omega (arith, some_number))) ∙ live_is (get db (own_id x)) live)
    ∙ sym (neighbours_said (tlvs_of_body (body_in (get db (own_id x)))))))

-- ---- what the bridge reads of itself

said_has : (x : SystemId) (cs : Contents) (c : Content) → said_of cs x ≡ Some c → Has (x, c) cs
said_has x [] c is = absurd cc
said_has x (d ∷ cs) c is = at (is_some d.1.inst && same_system d.0 x) refl is (said_has x cs c)
  where
    at : (b : Bool) → (is_some d.1.inst && same_system d.0 x) ≡ b → (if b then Some d.1 else said_of cs x) ≡ Some c → (said_of cs x ≡ Some c → Has (x, c) cs) → Has (x, c) (d ∷ cs)
    at true t is rest =
        let system = (bytes_eq-Decides d.0.mac.bytes x.mac.bytes).0 (and_parts (is_some d.1.inst) (same_system d.0 x) t).1 in
        let content : d.1 ≡ c = cc in
        inl (λ i. (record { mac = record { bytes = sym system i } }, sym content i))
    at false t is rest = inr (rest is)

same_ports : (c d : Content) → c.neighbours ≡ d.neighbours → HasPorts d → HasPorts c
same_ports c d same is = record {
  each = subst (λ (ns : List Neighbour). AllByRecursion (λ n. (1 ≤ n.port) × (n.port ≤ MOST_PORTS)) ns) (sym same) is.each;
  apart = subst ArePortsApart (sym same) is.apart;
}

held_apart : (db : Lsps) (x : SystemId) (c : Content) (b : Bool) → is_live (version_at db (own_id x)) ≡ b → (if b then Some (said_among (live_lsps db) x) else None) ≡ Some c → ListNone db x
    → HasPorts (content_in (tlvs_of_body (body_in (get db (own_id x))))) → HasPorts c
held_apart db x c true live is none text =
    let same : said_among (live_lsps db) x ≡ c = cc in
    subst HasPorts same (same_ports (said_among (live_lsps db) x) (content_in (tlvs_of_body (body_in (get db (own_id x))))) (neighbours_read db x none live) text)
held_apart db x c false live is none text = absurd cc

pub own_ports_are_apart : OwnPortsAreApart
own_ports_are_apart v was c is =
    let x : SystemId = v.id.system in
    let held : content_held v.database x ≡ Some c = (reads_what_is_held v x c).0 (contains_from_has (x, c) (contents_of v) (said_has x (contents_of v) c is)) in
    held_apart v.database x c (is_live (version_at v.database (own_id x))) refl held (record { sendable = was.database.sendable; none = was.own.others }) was.own.text
