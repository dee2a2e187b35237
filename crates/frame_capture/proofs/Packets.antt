-- What begins the bytes: nothing, a packet, or a packet that isn't whole.
use Rattle.std.proofs.Common.{◌≡◌, ℕ, ◌+◌, ◌<◌, ◌≤◌, ◌⊎◌, inl, inr, ⊎_elim, List, [], ◌∷◌, ◌++◌, length, take, drop, Bool, true, false, ◌||◌, nat_lt, Some, None, Ok, Err, refl, sym, ap, ◌∙◌, arith}
use Rattle.std.specs.Int.{w32, from_be_bytes, from_le_bytes}
use Rattle.std.proofs.lemmas.Bool.{cases_lt}
use Rattle.std.proofs.lemmas.Bool.Decides.{nat_tests}
use Rattle.std.proofs.lemmas.List.{length-drop, length-take-le, length-append, take-append-le, take-append-drop, drop-append-le, drop-take, drop_at}
use Rattle.frame_capture.specs.declared.delivered.Delivered.{Delivered}
use Rattle.frame_capture.specs.declared.error.CaptureError.TheVariants.{Cut}
use Rattle.frame_capture.specs.declared.order.Order.{Order}
use Rattle.frame_capture.specs.declared.order.Order.TheVariants.{Big, Little}
use Rattle.frame_capture.specs.Capture.{u32_by, is_cut, frame_in, packet_in, behind}
use Rattle.frame_capture.specs.Grammar.{IsPacketOf, IsCut}

pub lt-yes : (a b : ℕ) → a < b → nat_lt a b ≡ true
lt-yes a b low = grind (arith, nat_tests)

pub lt-no : (a b : ℕ) → b ≤ a → nat_lt a b ≡ false
lt-no a b high = grind (arith, nat_tests)

-- a number of a packet is read of the packet, whatever stands behind it
number_in : (o : Order) (packet more : List ℕ) (at : ℕ) → at + 4 ≤ length packet → u32_by o (packet ++ more) at ≡ u32_by o packet at
number_in o packet more at low = by_order o
  where
    field : take 4 (drop at (packet ++ more)) ≡ take 4 (drop at packet)
    field = ap (take 4) (drop-append-le at packet more (omega (arith, low))) ∙ take-append-le 4 (drop at packet) more (omega (arith, low, length-drop at packet))

    by_order : (o : Order) → u32_by o (packet ++ more) at ≡ u32_by o packet at
    by_order Big = ap (from_be_bytes w32) field
    by_order Little = ap (from_le_bytes w32) field

-- ---- a packet that isn't whole

or-true : (a b : Bool) → b ≡ true → (a || b) ≡ true
or-true true b e = refl
or-true false b e = e

cut_by : (o : Order) (bytes : List ℕ) → 0 < length bytes → is_cut o bytes ≡ true → packet_in o bytes ≡ Err Cut
cut_by o [] some e = absurd (omega (arith, some))
cut_by o (byte ∷ bytes) some e = rw e refl

pub cut_is : (o : Order) (bytes : List ℕ) → IsCut o bytes → packet_in o bytes ≡ Err Cut
cut_is o bytes c = cut_by o bytes c.some (or-true (nat_lt (length bytes) 16) _ (lt-yes _ _ (⊎_elim (λ (low : length bytes < 16). omega (arith, low)) (λ low. low) c.short)))

-- ---- a packet that is whole

whole_by : (o : Order) (bytes : List ℕ) → 16 ≤ length bytes → 16 + u32_by o bytes 8 ≤ length bytes → packet_in o bytes ≡ Ok (Some (frame_in o bytes))
whole_by o [] head all = absurd (omega (arith, head))
whole_by o (byte ∷ bytes) head all = rw (lt-no (length (byte ∷ bytes)) 16 head, lt-no (length (byte ∷ bytes)) (16 + u32_by o (byte ∷ bytes) 8) all) refl

delivered_is : (t : ℕ) (f : List ℕ) (d : Delivered) → t ≡ d.tick → f ≡ d.frame → record { tick = t; frame = f } ≡ d
delivered_is t f d same_tick same_frame = rw (same_tick, same_frame) refl

pub found : (o : Order) (d : Delivered) (packet more : List ℕ) → IsPacketOf o d packet → packet_in o (packet ++ more) ≡ Ok (Some d)
found o d packet more is =
    let bytes : List ℕ = packet ++ more in
    let long : length bytes ≡ 16 + length d.frame + length more = length-append packet more ∙ ap (λ n. n + length more) is.long in
    let captured : u32_by o bytes 8 ≡ length d.frame = number_in o packet more 8 (omega (arith, is.long)) ∙ is.captured in
    let seconds : u32_by o bytes 0 ≡ d.tick = number_in o packet more 0 (omega (arith, is.long)) ∙ is.seconds in
    let from_frame : drop 16 bytes ≡ d.frame ++ more = drop-append-le 16 packet more (omega (arith, is.long)) ∙ ap (λ f. f ++ more) is.frame in
    let frame : take (u32_by o bytes 8) (drop 16 bytes) ≡ d.frame = ap (λ n. take n (drop 16 bytes)) captured ∙ (ap (take (length d.frame)) from_frame ∙ front d.frame more) in
    whole_by o bytes (omega (arith, long)) (omega (arith, long, captured)) ∙ ap (λ x. Ok (Some x)) (delivered_is _ _ d seconds frame)
  where
    front : (xs ys : List ℕ) → take (length xs) (xs ++ ys) ≡ xs
    front [] ys = refl
    front (x ∷ xs) ys = ap (λ t. x ∷ t) (front xs ys)

pub behind_is : (o : Order) (d : Delivered) (packet more : List ℕ) → IsPacketOf o d packet → behind d (packet ++ more) ≡ more
behind_is o d packet more is = drop_at packet more (16 + length d.frame) is.long

-- ---- one of the three

pub data Begins (o : Order) (bytes : List ℕ) : Type 0 where
  ends : bytes ≡ [] → packet_in o bytes ≡ Ok None → Begins o bytes
  is_cut_off : IsCut o bytes → packet_in o bytes ≡ Err Cut → Begins o bytes
  goes : (d : Delivered) → 16 + length d.frame ≤ length bytes → IsPacketOf o d (take (16 + length d.frame) bytes) → packet_in o bytes ≡ Ok (Some d) → Begins o bytes

goes_by : (o : Order) (bytes : List ℕ) → 16 ≤ length bytes → 16 + u32_by o bytes 8 ≤ length bytes → Begins o bytes
goes_by o bytes head all =
    let d : Delivered = frame_in o bytes in
    let n : ℕ = length d.frame in
    let len : n ≡ u32_by o bytes 8 = length-take-le (u32_by o bytes 8) (drop 16 bytes) (omega (arith, all, length-drop 16 bytes)) in
    let fits : 16 + n ≤ length bytes = omega (arith, all, len) in
    let packet : List ℕ = take (16 + n) bytes in
    let long : length packet ≡ 16 + n = length-take-le (16 + n) bytes fits in
    let number : (at : ℕ) → at + 4 ≤ 16 → u32_by o packet at ≡ u32_by o bytes at =
    λ at low. sym (number_in o packet (drop (16 + n) bytes) at (omega (arith, low, long))) ∙ ap (λ b. u32_by o b at) (take-append-drop (16 + n) bytes) in
    goes d fits (record {
      long = long;
      seconds = number 0 (omega arith);
      captured = number 8 (omega arith) ∙ sym len;
      frame = drop-take 16 n bytes ∙ ap (λ k. take k (drop 16 bytes)) len;
    }) (whole_by o bytes head all)

pub begins : (o : Order) (bytes : List ℕ) → Begins o bytes
begins o [] = ends refl refl
begins o (byte ∷ bytes) = by_head (cases_lt (length (byte ∷ bytes)) 16)
  where
    xs : List ℕ
    xs = byte ∷ bytes

    cut : (length xs < 16) ⊎ (length xs < 16 + u32_by o xs 8) → Begins o xs
    cut short = let c : IsCut o xs = record { some = omega arith; short = short } in is_cut_off c (cut_is o xs c)

    by_all : 16 ≤ length xs → (length xs < 16 + u32_by o xs 8) ⊎ (16 + u32_by o xs 8 ≤ length xs) → Begins o xs
    by_all head (inl low) = cut (inr low)
    by_all head (inr all) = goes_by o xs head all

    by_head : (length xs < 16) ⊎ (16 ≤ length xs) → Begins o xs
    by_head (inl low) = cut (inl low)
    by_head (inr head) = by_all head (cases_lt (length xs) (16 + u32_by o xs 8))
