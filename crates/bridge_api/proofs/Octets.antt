-- Lists of octets.
use Rattle.std.proofs.Common.{◌≡◌, ℕ, zero, suc, ◌<◌, true, List, [], ◌∷◌, take, drop, refl}
use Rattle.std.specs.Prelude.{nat_lt}
use Rattle.std.proofs.lemmas.Bool.{and_parts, ltb-true, lt-ltb}
use Rattle.isis_pdu.specs.Grammar.{IsBytes}
pub use Rattle.spb_content.proofs.Octets.{AreSmall, small_bytes, bytes_small, small_both}
use Rattle.bridge_api.specs.Parsing.{is_octets}

pub small_octets : (bs : List ℕ) → is_octets bs ≡ true → AreSmall bs
small_octets [] all = tt
small_octets (b ∷ bs) all = let parts = and_parts (nat_lt b 256) (is_octets bs) all in (ltb-true b 256 parts.0, small_octets bs parts.1)

pub octets_small : (bs : List ℕ) → AreSmall bs → is_octets bs ≡ true
octets_small [] small = refl
octets_small (b ∷ bs) small = rw (lt-ltb b 256 small.0) (octets_small bs small.1)

-- a list that begins with an octet
pub octets_behind : (b : ℕ) (bs : List ℕ) → b < 256 → IsBytes bs → IsBytes (b ∷ bs)
octets_behind b bs low octets zero = low
octets_behind b bs low octets (suc i) = octets i

pub small_take : (n : ℕ) (xs : List ℕ) → AreSmall xs → AreSmall (take n xs)
small_take zero xs small = tt
small_take (suc n) [] small = tt
small_take (suc n) (x ∷ xs) small = (small.0, small_take n xs small.1)

pub small_drop : (n : ℕ) (xs : List ℕ) → AreSmall xs → AreSmall (drop n xs)
small_drop zero xs small = small
small_drop (suc n) [] small = tt
small_drop (suc n) (x ∷ xs) small = small_drop n xs small.1
