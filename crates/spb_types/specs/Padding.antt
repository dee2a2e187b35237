use Rattle.std.specs.Prelude.{◌≡◌, ℕ, ◌-◌, ◌≤◌, List, [], ◌∷◌, ◌++◌, length, take, drop, replicate, IsTrue}
use Rattle.std.proofs.Common.{refl, sym, arith}
use Rattle.std.proofs.lemmas.List.{length-take-le, drop-replicate, length-append, length-drop, length-replicate}
use Rattle.std.proofs.lemmas.Bool.Decides.{nat_tests}
use Rattle.std.proofs.Math.Seq.{take-append_seam}
use Rattle.spb_types.specs.Name.{is_name}

-- how a name is kept: its len bytes, and zeros up to 16
pub record IsPadded (bytes : List ℕ) (len : ℕ) : Type 0 where
  pub full : length bytes ≡ 16
  pub within : len ≤ 16
  pub name : IsTrue (is_name (take len bytes))
  pub zeros : bytes ≡ take len bytes ++ replicate (16 - len) 0

-- what is kept is given back by the name alone: its length, and then its bytes
pub padded_len : (bytes : List ℕ) (len : ℕ) → IsPadded bytes len → length (take len bytes) ≡ len
padded_len bytes len h = length-take-le len bytes (omega (arith, h.full, h.within))

pub padded_bytes : (bytes : List ℕ) (len : ℕ) → IsPadded bytes len
    → take len bytes ++ replicate (16 - length (take len bytes)) 0 ≡ bytes
padded_bytes bytes len h = rw (padded_len bytes len h) (sym h.zeros)

-- a name has at most 16 bytes
pub name_len : (name : List ℕ) → IsTrue (is_name name) → length name ≤ 16
name_len [] h = omega arith
name_len (byte ∷ bytes) h = grind (arith, nat_tests)

-- a name with zeros behind it is kept so
pub IsPadded-made : (name : List ℕ) → IsTrue (is_name name)
    → IsPadded (name ++ drop (length name) (replicate 16 0)) (length name)
IsPadded-made name h =
    let within : length name ≤ 16 = name_len name h in
    let front : take (length name) (name ++ drop (length name) (replicate 16 0)) ≡ name = take-append_seam name _ in
    record {
      full = simp (length-append, length-drop, length-replicate) (omega (arith, within));
      within = within;
      name = rw front h;
      zeros = rw (front, drop-replicate) refl;
    }
