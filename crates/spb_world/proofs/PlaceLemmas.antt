use Rattle.std.proofs.Common.{List, ◌≡◌, ◌<◌, ℕ, zero, suc, Bool, true, false, [], ◌∷◌, length, cond, nat_lt, Some, None, slice_get, replicate, refl, arith}
use Rattle.std.specs.List.{position_or_len}
use Rattle.std.specs.Str.{bytes_eq}
use Rattle.std.proofs.lemmas.Bool.Decides.{nat_tests}
use Rattle.std.proofs.lemmas.List.{length-map}
use Rattle.std.specs.Option.{option_map, option_map_or}
use Rattle.spb_world.specs.World.{Bridges, names_of, things_of, place_of, ports_at, system_at}

pub ports_at_entry : (bridges : Bridges) (place : ℕ) → ports_at bridges place ≡ option_map_or (λ b. b.1.ports) (slice_get bridges place) 0
ports_at_entry [] place = refl
ports_at_entry (b ∷ bs) zero = refl
ports_at_entry (b ∷ bs) (suc place) = ports_at_entry bs place

pub system_at_entry : (bridges : Bridges) (place : ℕ) → system_at bridges place ≡ option_map_or (λ b. b.1.bridge.id.system) (slice_get bridges place) (record { mac = record { bytes = replicate 6 0 } })
system_at_entry [] place = refl
system_at_entry (b ∷ bs) zero = refl
system_at_entry (b ∷ bs) (suc place) = system_at_entry bs place

pub get_things : {T : Type 0} (es : List (List ℕ × T)) (i : ℕ) → slice_get (things_of es) i ≡ option_map (λ e. e.1) (slice_get es i)
get_things [] i = refl
get_things (e ∷ es) zero = refl
get_things (e ∷ es) (suc i) = get_things es i

lt-true : (a b : ℕ) → nat_lt a b ≡ true → a < b
lt-true a b h = grind (arith, nat_tests)

within : (b : Bool) (n l k : ℕ) → nat_lt n l ≡ b → cond b (Some n) None ≡ Some k → k < l
within true n l k low is = let same : n ≡ k = cc in omega (arith, same, lt-true n l low)
within false n l k low is = absurd cc

-- the place of a thing is below the number of things
pub place_within : {T : Type 0} (name : List ℕ) (entries : List (List ℕ × T)) (k : ℕ) → place_of name entries ≡ Some k → k < length entries
place_within name entries k at =
    let names : List (List ℕ) = names_of entries in
    let low = within (nat_lt (position_or_len (bytes_eq name) names) (length names)) (position_or_len (bytes_eq name) names) (length names) k refl at in
    omega (arith, low, length-map entries (λ e. e.0))
