-- The laws of neighbours.
use Rattle.std.proofs.Common.{◌≡◌, ℕ, true, List, [], ◌∷◌, ◌++◌, length, map, Option, Some, Result, Ok, refl, sym, ap, ◌∙◌, arith}
use Rattle.std.specs.List.{filter_map, cons_option, list_all, AllByRecursion}
use Rattle.std.proofs.lemmas.Bool.{and_from}
use Rattle.spb_tlvs.specs.declared.error.TlvError.{TlvError}
use Rattle.spb_tlvs.specs.declared.neighbours.Neighbour.{Neighbour}
use Rattle.spb_tlvs.specs.Number.{two, three}
use Rattle.spb_tlvs.specs.Piece.{piece_len, pieces, ends_whole}
use Rattle.spb_tlvs.specs.Tlv.{tlv}
use Rattle.spb_tlvs.specs.Neighbour.{neighbour_bytes, is_entry_whole, neighbour_of, neighbours_value, neighbours_of}
use Rattle.spb_tlvs.specs.RoundTrip.{IsNeighbour, NeighboursAgain, NeighboursSame}
use Rattle.spb_tlvs.proofs.Numbers.{two_again, three_again, six}
use Rattle.spb_tlvs.proofs.Pieces.{pieces_before, whole_before, nothing_is_whole, nothing_is_piece}
use Rattle.spb_tlvs.proofs.TlvLaws.{tlv_alone, tlv_alone_whole}

-- the bytes of a neighbour with these bytes as its system id
abbrev spelled : Neighbour → List ℕ → List ℕ
spelled n m = m ++ 0 ∷ three n.metric ++ 8 ∷ tlv 29 (three n.metric ++ 1 ∷ two n.port)

record IsSpelled (n : Neighbour) (m : List ℕ) : Type 0 where
  len : length (spelled n m) ≡ 19
  own : piece_len 11 (spelled n m) ≡ 19
  whole : is_entry_whole (spelled n m) ≡ true
  named : neighbour_of (spelled n m) ≡ Some (record { system = record { mac = record { bytes = m } }; metric = n.metric; port = n.port })

is_spelled : (n : Neighbour) → IsNeighbour n → IsSpelled n n.system.mac.bytes
is_spelled n h =
    let metric : List ℕ = three n.metric ++ 1 ∷ two n.port in
    six (IsSpelled n) n.system.mac.bytes h.system (λ a b c d e f. record {
      len = refl;
      own = refl;
      whole = rw (tlv_alone_whole 29 metric, tlv_alone 29 metric) refl;
      named = rw (tlv_alone 29 metric, three_again n.metric h.metric, two_again n.port h.port) refl;
    })

-- the entries are found one after another, and nothing else
entries_found : (ns : List Neighbour) → AllByRecursion IsNeighbour ns → (pieces 11 (neighbours_value ns) ≡ map neighbour_bytes ns) × (ends_whole 11 (neighbours_value ns) ≡ true)
entries_found [] h = (nothing_is_piece 11 (omega arith), nothing_is_whole 11 (omega arith))
entries_found (n ∷ ns) h =
    let s = is_spelled n h.0 in
    let others = entries_found ns h.1 in (
      pieces_before 11 (neighbour_bytes n) (neighbours_value ns) (omega arith) (omega (arith, s.len)) (s.own ∙ sym s.len) ∙ ap (λ (ps : List (List ℕ)). neighbour_bytes n ∷ ps) others.0,
      whole_before 11 (neighbour_bytes n) (neighbours_value ns) (omega arith) (omega (arith, s.len)) (s.own ∙ sym s.len) ∙ others.1,
    )

each_whole : (ns : List Neighbour) → AllByRecursion IsNeighbour ns → list_all is_entry_whole (map neighbour_bytes ns) ≡ true
each_whole [] h = refl
each_whole (n ∷ ns) h = and_from _ _ (is_spelled n h.0).whole (each_whole ns h.1)

each_named : (ns : List Neighbour) → AllByRecursion IsNeighbour ns → filter_map neighbour_of (map neighbour_bytes ns) ≡ ns
each_named [] h = refl
each_named (n ∷ ns) h = ap (λ (o : Option Neighbour). cons_option o (filter_map neighbour_of (map neighbour_bytes ns))) (is_spelled n h.0).named ∙ ap (λ (ms : List Neighbour). n ∷ ms) (each_named ns h.1)

pub neighbours_again : NeighboursAgain
neighbours_again ns h =
    let found = entries_found ns h in
    rw (found.1, found.0, each_whole ns h, each_named ns h) refl

abbrev done : {A : Type 0} → A → Result A TlvError
done x = Ok x

same_done : {A : Type 0} (x y : A) → done x ≡ done y → x ≡ y
same_done x y e = cc

pub neighbours_same : NeighboursSame
neighbours_same value ns ms h is read =
    let again : done ns ≡ done ms = sym (neighbours_again ns h) ∙ ap neighbours_of (sym is) ∙ read in
    rw (← same_done ns ms again) (sym is)
