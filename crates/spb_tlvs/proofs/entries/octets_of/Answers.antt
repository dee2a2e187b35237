use Rattle.std.proofs.Common.{◌≡◌, ℕ, List, [], ◌∷◌, ◌++◌, length, refl, ap, arith, rules}
use Rattle.std.specs.Prelude.{slice_index}
use Rattle.spb_tlvs.specs.Number.{two, four}
use Rattle.spb_tlvs.proofs.entries.octets_of.Goals as goal

six_are : (xs : List ℕ) → length xs ≡ 6 → slice_index xs 0 ∷ slice_index xs 1 ∷ slice_index xs 2 ∷ slice_index xs 3 ∷ slice_index xs 4 ∷ slice_index xs 5 ∷ [] ≡ xs
six_are [] h = absurd (omega arith)
six_are (a ∷ []) h = absurd (omega arith)
six_are (a ∷ b ∷ []) h = absurd (omega arith)
six_are (a ∷ b ∷ c ∷ []) h = absurd (omega arith)
six_are (a ∷ b ∷ c ∷ d ∷ []) h = absurd (omega arith)
six_are (a ∷ b ∷ c ∷ d ∷ e ∷ []) h = absurd (omega arith)
six_are (a ∷ b ∷ c ∷ d ∷ e ∷ f ∷ []) h = refl
six_are (a ∷ b ∷ c ∷ d ∷ e ∷ f ∷ g ∷ xs) h = absurd (omega arith)

pub returns-clause-bytes : goal.returns-clause-bytes
returns-clause-bytes c =
    let entry = c.args.entry in
    let six : length entry.id.system.mac.bytes ≡ 6 = search rules in
    rw (c.to_be_bytes.ensures, c.to_be_bytes-2.ensures, c.to_be_bytes-3.ensures)
    (ap (λ (xs : List ℕ). two entry.lifetime ++ (xs ++ entry.id.pseudonode ∷ entry.id.number ∷ []) ++ four entry.seq ++ two entry.sum) (six_are entry.id.system.mac.bytes six))
