-- A frame that carries a customer's frame is opened as what was carried.
use Rattle.std.proofs.Common.{zero, suc, ◌≡◌, ℕ, ◌+◌, ◌*◌, ◌/◌, ◌%◌, ◌≤◌, Bool, true, false, not, ltb, leb, List, [], ◌∷◌, ◌++◌, length, take, drop, Ok, Err, if◌then◌else◌, ◌<◌, get_or, refl, sym, ap, subst, ◌∙◌, arith}
use Rattle.std.specs.List.{AllByRecursion}
use Rattle.std.proofs.lemmas.Bool.{le-leb, le-ltb}
use Rattle.std.proofs.lemmas.List.{length-take-le, length-drop}
use Rattle.std.proofs.lemmas.Bool.Decides.{nat_tests}
use Rattle.spb_types.specs.Bytes.{mac_at}
use Rattle.spb_types.specs.declared.address.Mac.{Mac}
use Rattle.spb_types.specs.declared.service.Vid.{Vid}
use Rattle.spb_types.specs.declared.service.Isid.{Isid}
use Rattle.itag_frames.specs.declared.frame.FrameError.TheVariants.{Short, NotBackbone, NoItag}
use Rattle.itag_frames.specs.Frame.{Content, Customer, is_control}
use Rattle.itag_frames.specs.Backbone.{b_tag, i_tag, backbone_bytes, has_b_tag, has_i_tag, vid_at, isid_at, parts_of, backbone_in, EncapsulatedAgain, EncapsulatedIsNoControl, OpenedCanBeCarried, OpenedIsWhole}
use Rattle.itag_frames.proofs.ControlLaws.{six}

-- an address of six bytes, byte by byte
pub mac : (P : Mac → Type 0) (m : Mac) → length m.bytes ≡ 6 → ((a b c d e f : ℕ) → P (record { bytes = a ∷ b ∷ c ∷ d ∷ e ∷ f ∷ [] })) → P m
mac P m long k = six (λ (bytes : List ℕ). P (record { bytes = bytes })) m.bytes long k

pub encapsulated_again : EncapsulatedAgain
encapsulated_again da sa vid isid customer can =
    let n : ℕ = length customer in
    let v : ℕ = vid.value in
    let i : ℕ = isid.value in
    let vid_is : (v % 4096 / 256 % 256 * 256 + v % 4096 % 256) % 4096 ≡ v = omega (arith, can.vid_high) in
    let isid_is : (i % 16777216 / 65536 % 256 * 256 + i % 16777216 / 256 % 256) * 256 + i % 16777216 % 256 ≡ i = omega (arith, can.isid_high) in
    let low : leb 1 v ≡ true = le-leb _ _ can.vid_low in
    let high : leb v 4094 ≡ true = le-leb _ _ can.vid_high in
    let some : leb 1 i ≡ true = le-leb _ _ can.isid_low in
    mac (λ (m : Mac). backbone_in (backbone_bytes m sa vid isid customer) ≡ Ok (Customer m sa vid isid customer)) da can.to (λ a b c d e f.
    mac (λ (m : Mac). backbone_in (backbone_bytes (record { bytes = a ∷ b ∷ c ∷ d ∷ e ∷ f ∷ [] }) m vid isid customer) ≡ Ok (Customer (record { bytes = a ∷ b ∷ c ∷ d ∷ e ∷ f ∷ [] }) m vid isid customer)) sa can.from (λ g h j k l m.
    let frame : List ℕ = (a ∷ b ∷ c ∷ d ∷ e ∷ f ∷ []) ++ (g ∷ h ∷ j ∷ k ∷ l ∷ m ∷ []) ++ b_tag vid ++ i_tag isid ++ customer in
    let long : ltb (length frame) 36 ≡ false = le-ltb _ _ (omega (arith, can.whole)) in
    rw (long, vid_is, low, high, isid_is, some) refl))

pub encapsulated_is_no_control : EncapsulatedIsNoControl
encapsulated_is_no_control da sa vid isid customer to from =
    mac (λ (m : Mac). is_control (backbone_bytes m sa vid isid customer) ≡ false) da to (λ a b c d e f.
    mac (λ (m : Mac). is_control (backbone_bytes (record { bytes = a ∷ b ∷ c ∷ d ∷ e ∷ f ∷ [] }) m vid isid customer) ≡ false) sa from (λ g h j k l m.
    grind (arith, nat_tests)))

-- what was not refused passed every test
passed : (short b i : Bool) (k r : Content) → (if short then Err Short else (if not b then Err NotBackbone else (if not i then Err NoItag else Ok k))) ≡ Ok r
    → (short ≡ false) × (b ≡ true) × (i ≡ true) × (k ≡ r)
passed true b i k r e = absurd cc
passed false false i k r e = absurd cc
passed false true false k r e = absurd cc
passed false true true k r e = let same : k ≡ r = cc in (refl, refl, refl, same)

pub opened_is_whole : OpenedIsWhole
opened_is_whole frame da sa vid isid customer is =
    let p = passed (ltb (length frame) 36) (has_b_tag frame) (has_i_tag frame) (parts_of frame) (Customer da sa vid isid customer) is in
    let short : ltb (length frame) 36 ≡ false = p.0 in
    let long : 36 ≤ length frame = grind (arith, nat_tests) in
    let rest : drop 22 frame ≡ customer = (let same : parts_of frame ≡ Customer da sa vid isid customer = p.3 in cc) in
    subst (λ (f : List ℕ). 14 ≤ length f) rest (simp length-drop (omega arith))

-- each of a list of bytes is below 256
small : (xs : List ℕ) (k : ℕ) → AllByRecursion (λ b. b < 256) xs → get_or xs k 0 < 256
small [] k h = omega arith
small (x ∷ xs) zero h = h.0
small (x ∷ xs) (suc k) h = small xs k h.1

pub opened_can_be_carried : OpenedCanBeCarried
opened_can_be_carried frame da sa vid isid customer bytes is =
    let p = passed (ltb (length frame) 36) (has_b_tag frame) (has_i_tag frame) (parts_of frame) (Customer da sa vid isid customer) is in
    let short : ltb (length frame) 36 ≡ false = p.0 in
    let tag : has_b_tag frame ≡ true = p.1 in
    let itag : has_i_tag frame ≡ true = p.2 in
    let same : parts_of frame ≡ Customer da sa vid isid customer = p.3 in
    let long : 36 ≤ length frame = grind (arith, nat_tests) in
    let to : take 6 (drop 0 frame) ≡ da.bytes = (let e : mac_at frame 0 ≡ da = cc in ap (λ (m : Mac). m.bytes) e) in
    let from : take 6 (drop 6 frame) ≡ sa.bytes = (let e : mac_at frame 6 ≡ sa = cc in ap (λ (m : Mac). m.bytes) e) in
    let v : vid_at frame ≡ vid.value = (let e : record { value = vid_at frame } ≡ vid = cc in ap (λ (w : Vid). w.value) e) in
    let i : isid_at frame ≡ isid.value = (let e : record { value = isid_at frame } ≡ isid = cc in ap (λ (w : Isid). w.value) e) in
    let vid_low : 1 ≤ vid_at frame = grind (arith, nat_tests) in
    let vid_high : vid_at frame ≤ 4094 = grind (arith, nat_tests) in
    let isid_low : 1 ≤ isid_at frame = grind (arith, nat_tests) in
    let a : get_or frame 19 0 < 256 = small frame 19 bytes in
    let b : get_or frame 20 0 < 256 = small frame 20 bytes in
    let c : get_or frame 21 0 < 256 = small frame 21 bytes in
    record {
      to = ap length (sym to) ∙ length-take-le 6 (drop 0 frame) (omega (arith, length-drop 0 frame));
      from = ap length (sym from) ∙ length-take-le 6 (drop 6 frame) (omega (arith, length-drop 6 frame));
      vid_low = omega arith;
      vid_high = omega arith;
      isid_low = omega arith;
      isid_high = omega arith;
      whole = opened_is_whole frame da sa vid isid customer is;
    }
