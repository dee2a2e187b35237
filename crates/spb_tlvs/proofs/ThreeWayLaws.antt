-- The laws of the three-way adjacency.
use Rattle.std.proofs.Common.{◌≡◌, ℕ, ◌+◌, ◌*◌, ◌^◌, ◌≤◌, ◌<◌, Bool, true, false, cond, eqb, leb, List, [], ◌∷◌, ◌++◌, length, Option, Some, None, Result, Ok, Err, refl, inl, inr}
use Rattle.std.proofs.lemmas.Bool.{le-leb}
use Rattle.std.proofs.lemmas.Bool.Decides.{eqb_tells}
use Rattle.spb_types.specs.declared.address.SystemId.{SystemId}
use Rattle.spb_tlvs.specs.declared.error.TlvError.{TlvError}
use Rattle.spb_tlvs.specs.declared.error.TlvError.TheVariants.{Cut, Range}
use Rattle.spb_tlvs.specs.declared.three_way.ThreeWay.{ThreeWay}
use Rattle.spb_tlvs.specs.Number.{four}
use Rattle.spb_tlvs.specs.ThreeWay.{neighbour_bytes, three_way_value, three_way_of}
use Rattle.spb_tlvs.specs.RoundTrip.{IsNamed, AreBytes, ThreeWayAgain, ThreeWaySame}
use Rattle.spb_tlvs.proofs.Numbers.{four_again, four_same, five, six, fifteen}

again_at : (state circuit : ℕ) (o : Option (SystemId × ℕ)) → state ≤ 2 → circuit < 2 ^ 32 → IsNamed o → three_way_of (state ∷ four circuit ++ neighbour_bytes o) ≡ Ok (record { state = state; circuit = circuit; neighbour = o })
again_at state circuit None low fits named = rw (le-leb state 2 low, four_again circuit fits) refl
again_at state circuit (Some n) low fits named =
    six (λ (m : List ℕ). three_way_of (state ∷ four circuit ++ (m ++ four n.1)) ≡ Ok (record { state = state; circuit = circuit; neighbour = Some (record { mac = record { bytes = m } }, n.1) })) n.0.mac.bytes named.0
    (λ a b c d e f. rw (le-leb state 2 low, four_again circuit fits, four_again n.1 named.1) refl)

pub three_way_again : ThreeWayAgain
three_way_again w h = again_at w.state w.circuit w.neighbour h.state h.circuit h.named

abbrev done : {A : Type 0} → A → Result A TlvError
done x = Ok x

ok_chosen : {A : Type 0} (b : Bool) (e : TlvError) (x y : A) → cond b (done y) (Err e) ≡ Ok x → y ≡ x
ok_chosen true e x y h = cc
ok_chosen false e x y h = absurd cc

Same : ThreeWay → List ℕ → Type 0
Same w value = AreBytes value → three_way_of value ≡ Ok w → three_way_value w ≡ value

same_five : (w : ThreeWay) (a b c d e : ℕ) → Same w (a ∷ b ∷ c ∷ d ∷ e ∷ [])
unfolding Same
same_five w a b c d e bytes read =
    let is = ok_chosen (leb a 2) Range w (record { state = a; circuit = ((b * 256 + c) * 256 + d) * 256 + e; neighbour = None }) read in
    let u = four_same b c d e (bytes 1) (bytes 2) (bytes 3) (bytes 4) in
    rw (← is, u.0, u.1, u.2, u.3) refl

same_fifteen : (w : ThreeWay) (a b c d e f g h i j l m n o p : ℕ) → Same w (a ∷ b ∷ c ∷ d ∷ e ∷ f ∷ g ∷ h ∷ i ∷ j ∷ l ∷ m ∷ n ∷ o ∷ p ∷ [])
unfolding Same
same_fifteen w a b c d e f g h i j l m n o p bytes read =
    let named : Option (SystemId × ℕ) = Some (record { mac = record { bytes = f ∷ g ∷ h ∷ i ∷ j ∷ l ∷ [] } }, ((m * 256 + n) * 256 + o) * 256 + p) in
    let is = ok_chosen (leb a 2) Range w (record { state = a; circuit = ((b * 256 + c) * 256 + d) * 256 + e; neighbour = named }) read in
    let u = four_same b c d e (bytes 1) (bytes 2) (bytes 3) (bytes 4) in
    let v = four_same m n o p (bytes 11) (bytes 12) (bytes 13) (bytes 14) in
    rw (← is, u.0, u.1, u.2, u.3, v.0, v.1, v.2, v.3) refl

of_five : (w : ThreeWay) (value : List ℕ) → length value ≡ 5 → Same w value
of_five w value len = five (Same w) value len (same_five w)

of_fifteen : (w : ThreeWay) (value : List ℕ) → length value ≡ 15 → Same w value
of_fifteen w value len = fifteen (Same w) value len (same_fifteen w)

of_other : (w : ThreeWay) (value : List ℕ) → eqb (length value) 5 ≡ false → eqb (length value) 15 ≡ false → three_way_of value ≡ Ok w → ⊥
of_other w value p q read =
    let cut : three_way_of value ≡ Err Cut = rw (p, q) refl in
    cc

pub three_way_same : ThreeWaySame
unfolding Same
three_way_same value w bytes read =
    elim (eqb_tells (length value) 5) [
      | inl short ↦ of_five w value short.1 bytes read
      | inr no_short ↦ elim (eqb_tells (length value) 15) [
        | inl long ↦ of_fifteen w value long.1 bytes read
        | inr no_long ↦ absurd (of_other w value no_short.0 no_long.0 read)
      ]
    ]
