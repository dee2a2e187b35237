-- A file is listed as the packets that it has, and what is listed are its packets.
use Rattle.std.proofs.Common.{◌≡◌, ℕ, zero, suc, ◌+◌, ◌<◌, ◌≤◌, ◌⊎◌, inl, inr, List, [], ◌∷◌, ◌++◌, length, take, drop, Option, Some, None, Result, Ok, Err, refl, sym, ap, subst, ◌∙◌, arith, append_assoc}
use Rattle.std.proofs.lemmas.Bool.{cases_lt}
use Rattle.std.proofs.lemmas.List.{length-drop, length-take-le, take-append-drop, drop_at}
use Rattle.frame_capture.specs.declared.delivered.Delivered.{Delivered}
use Rattle.frame_capture.specs.declared.error.CaptureError.{CaptureError}
use Rattle.frame_capture.specs.declared.error.CaptureError.TheVariants.{Short, NotCapture, Cut}
use Rattle.frame_capture.specs.declared.order.Order.{Order}
use Rattle.frame_capture.specs.Capture.{header_of, packet_in, Listed, listed_by, behind, listed_from, listed}
use Rattle.frame_capture.specs.Grammar.{ArePacketsOf, IsEnd, CapturesAreListed, ListingsAreCaptures, ListingGoesOn}
use Rattle.frame_capture.proofs.Packets.{lt-yes, found, behind_is, cut_is, Begins, ends, is_cut_off, goes, begins}

-- ---- steps

same_by : (f g : Delivered → Listed) (r : Result (Option Delivered) CaptureError) → ((d : Delivered) → r ≡ Ok (Some d) → f d ≡ g d) → listed_by f r ≡ listed_by g r
same_by f g (Ok None) same = refl
same_by f g (Ok (Some d)) same = ap (λ (l : Listed). record l { frames = d ∷ l.frames }) (same d refl)
same_by f g (Err e) same = refl

-- bytes behind a packet are fewer
fewer : (o : Order) (bytes : List ℕ) (d : Delivered) → packet_in o bytes ≡ Ok (Some d) → length (behind d bytes) + 1 ≤ length bytes
fewer o [] d e = absurd cc
fewer o (byte ∷ bytes) d e = omega (arith, length-drop (16 + length d.frame) (byte ∷ bytes))

-- as many steps as bytes are enough
steps : (o : Order) (n m : ℕ) (bytes : List ℕ) → length bytes ≤ n → length bytes ≤ m → listed_from n o bytes ≡ listed_from m o bytes
steps o zero zero bytes a b = refl
steps o zero (suc m) [] a b = refl
steps o zero (suc m) (byte ∷ bytes) a b = absurd (omega (arith, a))
steps o (suc n) zero [] a b = refl
steps o (suc n) zero (byte ∷ bytes) a b = absurd (omega (arith, b))
steps o (suc n) (suc m) bytes a b = same_by _ _ (packet_in o bytes) (λ d e.
    let less = fewer o bytes d e in
    steps o n m (behind d bytes) (omega (arith, a, less)) (omega (arith, b, less)))

pub listing_goes_on : ListingGoesOn
listing_goes_on o [] = refl
listing_goes_on o (byte ∷ bytes) = same_by _ _ (packet_in o (byte ∷ bytes)) (λ d e.
    let less = fewer o (byte ∷ bytes) d e in
    steps o (length bytes) (length (behind d (byte ∷ bytes))) (behind d (byte ∷ bytes)) (omega (arith, less)) (omega arith))

-- ---- packets, and then an end, are listed

ended : (o : Order) (refused : Option CaptureError) (rest : List ℕ) → IsEnd o refused rest → listed o rest ≡ record { frames = []; refused = refused }
ended o None rest end = subst (λ bytes. listed o bytes ≡ record { frames = []; refused = None }) (sym end) refl
ended o (Some Cut) rest end = listing_goes_on o rest ∙ ap (listed_by (λ d. listed o (behind d rest))) (cut_is o rest end)
ended o (Some Short) rest end = absurd end
ended o (Some NotCapture) rest end = absurd end

listed_as : (o : Order) (ds : List Delivered) (refused : Option CaptureError) (packets rest : List ℕ) → ArePacketsOf o ds packets → IsEnd o refused rest
    → listed o (packets ++ rest) ≡ record { frames = ds; refused = refused }
listed_as o [] refused packets rest each end = subst (λ bytes. listed o (bytes ++ rest) ≡ record { frames = []; refused = refused }) (sym each) (ended o refused rest end)
listed_as o (d ∷ ds) refused packets rest (packet, more, whole, is, later) end =
    let bytes : List ℕ = packet ++ (more ++ rest) in
    let joined : packets ++ rest ≡ bytes = ap (λ b. b ++ rest) whole ∙ append_assoc packet more rest in
    let next : listed o (behind d bytes) ≡ record { frames = ds; refused = refused } = ap (listed o) (behind_is o d packet (more ++ rest) is) ∙ listed_as o ds refused more rest later end in
    ap (listed o) joined ∙ (listing_goes_on o bytes
    ∙ (ap (listed_by (λ x. listed o (behind x bytes))) (found o d packet (more ++ rest) is)
    ∙ ap (λ (l : Listed). record l { frames = d ∷ l.frames }) next))

pub captures_are_listed : CapturesAreListed
captures_are_listed o l bytes file =
    let behind_header : drop 24 bytes ≡ file.packets ++ file.rest = ap (drop 24) file.whole ∙ drop_at file.header (file.packets ++ file.rest) 24 file.long in
    (file.read, ap (listed o) behind_header ∙ listed_as o l.frames l.refused file.packets file.rest file.each file.end)

-- ---- what is listed is there

record Parts (o : Order) (l : Listed) (bytes : List ℕ) : Type 0 where
  packets : List ℕ
  rest : List ℕ
  whole : bytes ≡ packets ++ rest
  each : ArePacketsOf o l.frames packets
  end : IsEnd o l.refused rest

with_parts : (o : Order) (bytes : List ℕ) (more : Delivered → Listed) → ((d : Delivered) → 16 + length d.frame ≤ length bytes → Parts o (more d) (behind d bytes)) → Begins o bytes
    → Parts o (listed_by more (packet_in o bytes)) bytes
with_parts o bytes more later (ends none e) = subst (λ r. Parts o (listed_by more r) bytes) (sym e) (record { packets = []; rest = []; whole = none; each = refl; end = refl })
with_parts o bytes more later (is_cut_off c e) = subst (λ r. Parts o (listed_by more r) bytes) (sym e) (record { packets = []; rest = bytes; whole = refl; each = refl; end = c })
with_parts o bytes more later (goes d fits is e) =
    let p : Parts o (more d) (behind d bytes) = later d fits in
    let packet : List ℕ = take (16 + length d.frame) bytes in
    subst (λ r. Parts o (listed_by more r) bytes) (sym e) (record {
      packets = packet ++ p.packets;
      rest = p.rest;
      whole = sym (take-append-drop (16 + length d.frame) bytes) ∙ (ap (λ b. packet ++ b) p.whole ∙ sym (append_assoc packet p.packets p.rest));
      each = (packet, p.packets, refl, is, p.each);
      end = p.end;
    })

parts : (o : Order) (n : ℕ) (bytes : List ℕ) → length bytes ≤ n → Parts o (listed_from n o bytes) bytes
parts o zero [] low = record { packets = []; rest = []; whole = refl; each = refl; end = refl }
parts o zero (byte ∷ bytes) low = absurd (omega (arith, low))
parts o (suc n) bytes low = with_parts o bytes (λ d. listed_from n o (behind d bytes)) (λ d fits. parts o n (behind d bytes) (omega (arith, low, length-drop (16 + length d.frame) bytes))) (begins o bytes)

short : (bytes : List ℕ) → length bytes < 24 → header_of bytes ≡ Err Short
short bytes low = rw (lt-yes (length bytes) 24 low) refl

not_ok : (e : CaptureError) (o : Order) → ◌≡◌ {A = Result Order CaptureError} (Err e) (Ok o) → ⊥
not_ok e o same = absurd cc

-- a file whose header is read has one
has_header : (o : Order) (bytes : List ℕ) → header_of bytes ≡ Ok o → 24 ≤ length bytes
has_header o bytes read = by_length (cases_lt (length bytes) 24)
  where
    by_length : (length bytes < 24) ⊎ (24 ≤ length bytes) → 24 ≤ length bytes
    by_length (inl low) = absurd (not_ok Short o (sym (short bytes low) ∙ read))
    by_length (inr high) = high

pub listings_are_captures : ListingsAreCaptures
listings_are_captures o bytes read =
    let p : Parts o (listed o (drop 24 bytes)) (drop 24 bytes) = parts o (length (drop 24 bytes)) (drop 24 bytes) (omega arith) in
    record {
      header = take 24 bytes;
      packets = p.packets;
      rest = p.rest;
      whole = sym (take-append-drop 24 bytes) ∙ ap (λ b. take 24 bytes ++ b) p.whole;
      long = length-take-le 24 bytes (has_header o bytes read);
      read = read;
      each = p.each;
      end = p.end;
    }
