-- What is told of the packets of a file, one after another.
use Rattle.std.proofs.Common.{◌≡◌, ◌⊎◌, inl, inr, ℕ, ◌+◌, ◌≤◌, ◌<◌, List, [], ◌∷◌, ◌++◌, length, drop, take, flat_map, Option, Some, None, Result, Ok, Err, decimal, refl, sym, ap, ◌∙◌, append_assoc, append-nil, arith}
use Rattle.std.proofs.lemmas.Bool.{cases_lt}
use Rattle.std.proofs.lemmas.List.{drop-drop, drop_all}
use Rattle.hex.specs.Hex.{encode_lower, encode_with}
use Rattle.frame_capture.specs.Capture.{header_of, packet_in, Listed, listed_by, behind, listed}
use Rattle.frame_capture.specs.declared.delivered.Delivered.{Delivered}
use Rattle.frame_capture.specs.declared.error.CaptureError.{CaptureError}
use Rattle.frame_capture.specs.declared.order.Order.{Order}
use Rattle.frame_capture.proofs.Listings.{listing_goes_on, captures_are_listed}
use Rattle.frame_capture.proofs.Packets.{lt-yes, lt-no}
use Rattle.script_run.specs.declared.status.Status.TheVariants.{Done, TooLong}
use Rattle.capture_list.specs.Listing.{most_listed, hex_or_dash, frame_line, line_head, ending, told, listing_by, listing}
use Rattle.capture_list.specs.Laws.{FramesAreListed}

-- ---- lines

pub digits-append : (xs ys : List ℕ) → encode_lower (xs ++ ys) ≡ encode_lower xs ++ encode_lower ys
unfolding encode_with
digits-append [] ys = refl
digits-append (x ∷ xs) ys = let h = digits-append xs ys in cc

-- the digits of bytes are those of the first and of the others
pub digits_split : (n : ℕ) (bytes : List ℕ) → take n bytes ++ drop n bytes ≡ bytes → encode_lower bytes ≡ encode_lower (take n bytes) ++ encode_lower (drop n bytes)
digits_split n bytes e = ap encode_lower (sym e) ∙ digits-append (take n bytes) (drop n bytes)

pub digits_none : encode_lower [] ≡ []
unfolding encode_with
digits_none = refl

-- three words with the same byte before each, and bytes behind them
parts : (a b h end : List ℕ) (s : ℕ) → (a ++ (s ∷ (b ++ (s ∷ (h ++ []))))) ++ end ≡ ((a ++ (s ∷ b)) ++ (s ∷ [])) ++ (h ++ end)
parts a b h end s =
    append_assoc a (s ∷ (b ++ (s ∷ (h ++ [])))) end
    ∙ ap (λ t. a ++ (s ∷ t)) (append_assoc b (s ∷ (h ++ [])) end)
    ∙ ap (λ t. a ++ (s ∷ (b ++ (s ∷ (t ++ end))))) (append-nil h)
    ∙ sym (append_assoc a (s ∷ b) (s ∷ (h ++ end)))
    ∙ sym (append_assoc (a ++ (s ∷ b)) (s ∷ []) (h ++ end))

pub line_is : (d : Delivered) → frame_line d ≡ line_head d.tick (length d.frame) ++ (hex_or_dash d.frame ++ 10 ∷ [])
unfolding frame_line
line_is d = ap (λ t. 102 ∷ 32 ∷ t) (parts (decimal d.tick) (decimal (length d.frame)) (hex_or_dash d.frame) (10 ∷ []) 32)

-- ---- packets

-- what is found begins within the bytes
within : (o : Order) (at : ℕ) (bytes : List ℕ) (r : Result (Option Delivered) CaptureError) → packet_in o (drop at bytes) ≡ r → (r ≡ Ok None → ⊥) → at < length bytes
within o at bytes r e some = by_place (cases_lt at (length bytes))
  where
    by_place : (at < length bytes) ⊎ (length bytes ≤ at) → at < length bytes
    by_place (inl low) = low
    by_place (inr high) = absurd (some (sym e ∙ ap (packet_in o) (drop_all at bytes high)))

not_none : (d : Delivered) → ◌≡◌ {A = Result (Option Delivered) CaptureError} (Ok (Some d)) (Ok None) → ⊥
not_none d e = absurd cc

not_ended : (why : CaptureError) → ◌≡◌ {A = Result (Option Delivered) CaptureError} (Err why) (Ok None) → ⊥
not_ended why e = absurd cc

pub packet_within : (o : Order) (at : ℕ) (bytes : List ℕ) (d : Delivered) → packet_in o (drop at bytes) ≡ Ok (Some d) → at < length bytes
packet_within o at bytes d e = within o at bytes (Ok (Some d)) e (not_none d)

pub cut_within : (o : Order) (at : ℕ) (bytes : List ℕ) (why : CaptureError) → packet_in o (drop at bytes) ≡ Err why → at < length bytes
cut_within o at bytes why e = within o at bytes (Err why) e (not_ended why)

told-more : (n : ℕ) (d : Delivered) (l : Listed) → (told n (record l { frames = d ∷ l.frames })).text ≡ frame_line d ++ (told (n + 1) l).text
told-more n d l =
    let count : n + length (d ∷ l.frames) ≡ n + 1 + length l.frames = omega arith in
    append_assoc (frame_line d) (flat_map frame_line l.frames) _ ∙ ap (λ k. frame_line d ++ (flat_map frame_line l.frames ++ (ending k l.refused).text)) count

status-more : (n : ℕ) (d : Delivered) (l : Listed) → (told n (record l { frames = d ∷ l.frames })).status ≡ (told (n + 1) l).status
status-more n d l =
    let count : n + length (d ∷ l.frames) ≡ n + 1 + length l.frames = omega arith in
    ap (λ k. (ending k l.refused).status) count

found : (o : Order) (at next : ℕ) (bytes : List ℕ) (d : Delivered) → packet_in o (drop at bytes) ≡ Ok (Some d) → next ≡ at + 16 + length d.frame
    → listed o (drop at bytes) ≡ record (listed o (drop next bytes)) { frames = d ∷ (listed o (drop next bytes)).frames }
found o at next bytes d e is =
    let later : behind d (drop at bytes) ≡ drop next bytes = drop-drop (16 + length d.frame) at bytes ∙ ap (λ k. drop k bytes) (omega (arith, is)) in
    listing_goes_on o (drop at bytes) ∙ ap (listed_by (λ x. listed o (behind x (drop at bytes)))) e
    ∙ ap (λ (xs : List ℕ). record (listed o xs) { frames = d ∷ (listed o xs).frames }) later

-- a packet is told, and then those behind it
pub goes_on : (o : Order) (n at next : ℕ) (bytes : List ℕ) (d : Delivered) → packet_in o (drop at bytes) ≡ Ok (Some d) → next ≡ at + 16 + length d.frame
    → (told n (listed o (drop at bytes))).text ≡ frame_line d ++ (told (n + 1) (listed o (drop next bytes))).text
goes_on o n at next bytes d e is = ap (λ (l : Listed). (told n l).text) (found o at next bytes d e is) ∙ told-more n d (listed o (drop next bytes))

pub goes_on_to : (o : Order) (n at next : ℕ) (bytes : List ℕ) (d : Delivered) → packet_in o (drop at bytes) ≡ Ok (Some d) → next ≡ at + 16 + length d.frame
    → (told n (listed o (drop at bytes))).status ≡ (told (n + 1) (listed o (drop next bytes))).status
goes_on_to o n at next bytes d e is = ap (λ (l : Listed). (told n l).status) (found o at next bytes d e is) ∙ status-more n d (listed o (drop next bytes))

-- no packet is left
pub nothing_on : (o : Order) (n at : ℕ) (bytes : List ℕ) → packet_in o (drop at bytes) ≡ Ok None → told n (listed o (drop at bytes)) ≡ ending n None
nothing_on o n at bytes e =
    ap (told n) (listing_goes_on o (drop at bytes) ∙ ap (listed_by (λ x. listed o (behind x (drop at bytes)))) e)

-- what is left isn't a packet
pub cut_off : (o : Order) (n at : ℕ) (bytes : List ℕ) (why : CaptureError) → packet_in o (drop at bytes) ≡ Err why → told n (listed o (drop at bytes)) ≡ ending n (Some why)
cut_off o n at bytes why e =
    let none : n + 0 ≡ n = omega arith in
    ap (told n) (listing_goes_on o (drop at bytes) ∙ ap (listed_by (λ x. listed o (behind x (drop at bytes)))) e) ∙ ap (λ k. ending k (Some why)) none

-- ---- files

pub listing_short : (bytes : List ℕ) → length bytes ≤ most_listed → listing bytes ≡ listing_by (header_of bytes) bytes
unfolding listing
listing_short bytes low = rw (lt-no most_listed (length bytes) low) refl

pub listing_long : (bytes : List ℕ) → most_listed < length bytes → listing bytes ≡ record { text = []; status = TooLong }
unfolding listing
listing_long bytes high = rw (lt-yes most_listed (length bytes) high) refl

told_whole : (ds : List Delivered) → told 0 (record { frames = ds; refused = None }) ≡ record { text = flat_map frame_line ds; status = Done }
told_whole ds = ap (λ (t : List ℕ). record { text = t; status = Done }) (append-nil (flat_map frame_line ds))

pub frames_are_listed : FramesAreListed
frames_are_listed o ds bytes capture low =
    let is = captures_are_listed o (record { frames = ds; refused = None }) bytes capture in
    listing_short bytes low ∙ ap (λ (r : Result Order CaptureError). listing_by r bytes) is.0 ∙ ap (told 0) is.1 ∙ told_whole ds
