-- What a declared bridge is configured with is whole.
use Rattle.std.proofs.Common.{◌≡◌, ◌≢◌, ℕ, zero, suc, ◌<◌, ◌≤◌, ◌==◌, nat_lt, true, List, [], ◌∷◌, length, replicate, refl, arith}
use Rattle.std.proofs.lemmas.Bool.Decides.{nat_tests}
use Rattle.std.specs.List.{AllByRecursion, list_all}
use Rattle.spb_types.specs.declared.service.VidPlan.{VidPlan}
use Rattle.spb_types.specs.declared.address.Mac.{Mac}
use Rattle.spb_types.specs.Service.{AreVidsApart}
use Rattle.isis_pdu.specs.Grammar.{IsBytes}
use Rattle.bridge_api.specs.Config.{IsOwnMac, IsMetric, ArePairwise, IsWhole, vids_of}
use Rattle.bridge_api.proofs.Configured.{first_life_long, first_life_low}
use Rattle.spb_world.specs.declared.declaration.DeclaredBridge.{DeclaredBridge}
use Rattle.spb_world.specs.World.{World, Sound}
use Rattle.spb_world.specs.Declaring.{is_bridge_address, config_of}
use Rattle.spb_world.proofs.ListLemmas.{and-left, and-right, not-true}

length-replicate : {X : Type 0} (n : ℕ) (x : X) → length (replicate n x) ≡ n
length-replicate zero x = refl
length-replicate (suc n) x = grind (arith, length-replicate n x)

ones : (n : ℕ) → AllByRecursion IsMetric (replicate n 1)
ones zero = tt
ones (suc n) = (record { low = omega arith; high = omega arith }, ones n)

other-vids : (p : VidPlan) (ps : List VidPlan) → AllByRecursion (λ q. p.vid.value ≢ q.vid.value) ps → AllByRecursion (λ y. p.vid.value ≢ y) (vids_of ps)
other-vids p [] h = tt
other-vids p (q ∷ qs) h = (h.0, other-vids p qs h.1)

vids-apart : (ps : List VidPlan) → AreVidsApart ps → ArePairwise (λ x y. x ≢ y) (vids_of ps)
vids-apart [] h = tt
vids-apart (p ∷ ps) h = (other-vids p ps h.0, vids-apart ps h.1)

eq-number : (n k : ℕ) → (n == k) ≡ true → n ≡ k
eq-number n k h = grind (arith, nat_tests)

below : (b k : ℕ) → nat_lt b k ≡ true → b < k
below b k h = grind (arith, nat_tests)

-- each place of a list of octets has one, and past the end stands 0
each-octet : (bytes : List ℕ) → list_all (λ b. nat_lt b 256) bytes ≡ true → IsBytes bytes
each-octet [] all i = omega arith
each-octet (b ∷ bytes) all zero = below b 256 (and-left (nat_lt b 256) (list_all (λ b. nat_lt b 256) bytes) all)
each-octet (b ∷ bytes) all (suc i) = each-octet bytes (and-right (nat_lt b 256) (list_all (λ b. nat_lt b 256) bytes) all) i

own-mac : (mac : Mac) → is_bridge_address mac ≡ true → IsOwnMac mac
own-mac mac h =
    let six = and-left _ _ (and-left _ _ h) in
    record {
      bytes = eq-number _ 6 (and-left _ _ six);
      octets = each-octet mac.bytes (and-right _ _ six);
      individual = eq-number _ 0 (and-right _ _ (and-left _ _ h));
      some = not-true _ (and-right _ _ h);
    }

pub whole-config : (w : World) (b : DeclaredBridge) → Sound w → b.ports ≤ 32 → b.bridge.id.priority < 65536 → b.bridge.source.value < 1048576 → is_bridge_address b.bridge.id.system.mac ≡ true → IsWhole (config_of w b)
whole-config w b sound ports priority source address = record {
  ports = ports;
  metrics = length-replicate b.ports 1;
  each_metric = ones b.ports;
  few_vids = sound.few_vids;
  each_vid = sound.each_vid;
  vids_apart = vids-apart w.vids sound.plans.apart;
  priority = priority;
  system = own-mac b.bridge.id.system.mac address;
  source = source;
  each_attachment = tt;
  attachments_apart = tt;
  few_isids = omega arith;
  last = first_life_long;
  each_last = first_life_low;
}
