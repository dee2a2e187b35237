-- The laws of LSP entries.
use Rattle.std.proofs.Common.{◌≡◌, ℕ, zero, suc, ◌+◌, ◌*◌, ◌/◌, ◌%◌, Bool, true, false, cond, eqb, List, [], ◌∷◌, ◌++◌, length, take, drop, map, Result, Ok, Err, refl, sym, ap, ◌∙◌, arith, inl, inr}
use Rattle.std.specs.List.{flat_map, AllByRecursion}
use Rattle.std.specs.Simd.{first_chunks}
use Rattle.std.proofs.lemmas.Bool.{eq-eqb, eqb-true, cases_lt}
use Rattle.std.proofs.lemmas.List.{nil_from_length, length-take-le, length-drop, take-append-drop, length-take, get_or-take, get_or-drop, get_or_past}
use Rattle.spb_tlvs.specs.declared.error.TlvError.{TlvError}
use Rattle.spb_tlvs.specs.declared.error.TlvError.TheVariants.{Cut}
use Rattle.spb_tlvs.specs.declared.entries.SnpEntry.{SnpEntry}
use Rattle.spb_tlvs.specs.Number.{two, four}
use Rattle.spb_tlvs.specs.Entry.{entry_bytes, entry_at, entries_value}
use Rattle.spb_tlvs.specs.RoundTrip.{IsEntry, AreBytes, EntriesAgain, EntriesSame}
use Rattle.spb_tlvs.proofs.Numbers.{two_again, four_again, two_same, four_same, six, sixteen, chunks_of_joined, length_of_joined, weaker}

-- an entry has 16 bytes
pub entry_len : (e : SnpEntry) → IsEntry e → length (entry_bytes e) ≡ 16
entry_len e h = six (λ (m : List ℕ). length (two e.lifetime ++ (m ++ e.id.pseudonode ∷ e.id.number ∷ []) ++ four e.seq ++ two e.sum) ≡ 16) e.id.system.mac.bytes h.system (λ a b c d f g. refl)

entry_again : (e : SnpEntry) → IsEntry e → entry_at (entry_bytes e) ≡ e
entry_again e h =
    six (λ (m : List ℕ). entry_at (two e.lifetime ++ (m ++ e.id.pseudonode ∷ e.id.number ∷ []) ++ four e.seq ++ two e.sum) ≡ record { lifetime = e.lifetime; id = record { system = record { mac = record { bytes = m } }; pseudonode = e.id.pseudonode; number = e.id.number }; seq = e.seq; sum = e.sum }) e.id.system.mac.bytes h.system
    (λ a b c d f g. rw (two_again e.lifetime h.lifetime, four_again e.seq h.seq, two_again e.sum h.sum) refl)

each_again : (es : List SnpEntry) → AllByRecursion IsEntry es → map entry_at (map entry_bytes es) ≡ es
each_again [] h = refl
each_again (e ∷ es) h = rw (entry_again e h.0, each_again es h.1) refl

pub entries_again : EntriesAgain
entries_again es h =
    let lens : AllByRecursion (λ (e : SnpEntry). length (entry_bytes e) ≡ 16) es = weaker IsEntry (λ (e : SnpEntry). length (entry_bytes e) ≡ 16) es entry_len h in
    let len : length (entries_value es) ≡ 16 * length es = length_of_joined entry_bytes 16 es lens in
    let whole : eqb (length (entries_value es) % 16) 0 ≡ true = eq-eqb _ _ (omega arith) in
    let count : length (entries_value es) / 16 ≡ length es = omega arith in
    rw (whole, count, chunks_of_joined entry_bytes 16 es lens, each_again es h) refl

Same : List ℕ → Type 0
Same bytes = AreBytes bytes → entry_bytes (entry_at bytes) ≡ bytes

same_sixteen : (a b c d e f g h i j l m n o p q : ℕ) → Same (a ∷ b ∷ c ∷ d ∷ e ∷ f ∷ g ∷ h ∷ i ∷ j ∷ l ∷ m ∷ n ∷ o ∷ p ∷ q ∷ [])
unfolding Same
same_sixteen a b c d e f g h i j l m n o p q bytes =
    let x = two_same a b (bytes 0) (bytes 1) in
    let y = four_same l m n o (bytes 10) (bytes 11) (bytes 12) (bytes 13) in
    let z = two_same p q (bytes 14) (bytes 15) in
    rw (x.0, x.1, y.0, y.1, y.2, y.3, z.0, z.1) refl

entry_same : (bytes : List ℕ) → length bytes ≡ 16 → AreBytes bytes → entry_bytes (entry_at bytes) ≡ bytes
unfolding Same
entry_same bytes len = sixteen Same bytes len same_sixteen

AreBytes-take : (n : ℕ) (xs : List ℕ) → AreBytes xs → AreBytes (take n xs)
AreBytes-take n xs bytes i =
    elim (cases_lt i n) [
      | inl below ↦ rw (get_or-take n xs i 0 below) (bytes i)
      | inr above ↦ rw (get_or_past (take n xs) i 0 (omega (arith, length-take n xs))) (omega arith)
    ]

each_same : (k : ℕ) (xs : List ℕ) → length xs ≡ 16 * k → AreBytes xs → flat_map entry_bytes (map entry_at (first_chunks 16 k xs)) ≡ xs
each_same zero xs len bytes = sym (nil_from_length xs (omega arith))
each_same (suc k) xs len bytes =
    let front : AreBytes (take 16 xs) = AreBytes-take 16 xs bytes in
    let back : AreBytes (drop 16 xs) = λ i. rw get_or-drop (bytes (16 + i)) in
    let first = entry_same (take 16 xs) (length-take-le 16 xs (omega arith)) front in
    let others = each_same k (drop 16 xs) (omega (arith, length-drop 16 xs)) back in
    ap (λ (ys : List ℕ). ys ++ flat_map entry_bytes (map entry_at (first_chunks 16 k (drop 16 xs)))) first ∙ ap (λ (ys : List ℕ). take 16 xs ++ ys) others ∙ take-append-drop 16 xs

abbrev done : {A : Type 0} → A → Result A TlvError
done x = Ok x

ok_chosen : {A : Type 0} (b : Bool) (x y : A) → cond b (done y) (Err Cut) ≡ Ok x → (b ≡ true) × (y ≡ x)
ok_chosen true x y h = (refl, cc)
ok_chosen false x y h = absurd cc

pub entries_same : EntriesSame
entries_same value es bytes read =
    let t = ok_chosen (eqb (length value % 16) 0) es (map entry_at (first_chunks 16 (length value / 16) value)) read in
    let even : length value % 16 ≡ 0 = eqb-true _ _ t.0 in
    rw (← t.1) (each_same (length value / 16) value (omega arith) bytes)
