-- What is written is a capture.
use Rattle.std.proofs.Common.{◌≡◌, ℕ, List, [], ◌∷◌, ◌++◌, length, flat_map, None, Ok, refl, sym, ap, arith, append-nil}
use Rattle.std.specs.List.{AllByRecursion}
use Rattle.std.proofs.lemmas.List.{length-append}
use Rattle.std.proofs.lemmas.Nat.{from_be_bytes-to_be_bytes_4}
use Rattle.frame_capture.specs.declared.delivered.Delivered.{Delivered}
use Rattle.frame_capture.specs.declared.order.Order.TheVariants.{Big}
use Rattle.frame_capture.specs.Capture.{header_bytes, header_of, packet_bytes, capture_bytes}
use Rattle.frame_capture.specs.Grammar.{IsPacketOf, ArePacketsOf, CanBeWritten, WrittenIsCapture, WrittenIsListed}
use Rattle.frame_capture.proofs.Packets.{lt-no}
use Rattle.frame_capture.proofs.Listings.{captures_are_listed}

header_again : (rest : List ℕ) → header_of (header_bytes ++ rest) ≡ Ok Big
header_again rest = rw (lt-no (length (header_bytes ++ rest)) 24 (omega (arith, length-append header_bytes rest))) refl

packet_again : (d : Delivered) → CanBeWritten d → IsPacketOf Big d (packet_bytes d)
packet_again d can = record {
  long = omega arith;
  seconds = from_be_bytes-to_be_bytes_4 d.tick can.tick;
  captured = from_be_bytes-to_be_bytes_4 (length d.frame) can.length;
  frame = refl;
}

packets_again : (ds : List Delivered) → AllByRecursion CanBeWritten ds → ArePacketsOf Big ds (flat_map packet_bytes ds)
packets_again [] all = refl
packets_again (d ∷ ds) all = (packet_bytes d, flat_map packet_bytes ds, refl, packet_again d all.0, packets_again ds all.1)

pub written_is_capture : WrittenIsCapture
written_is_capture ds all = record {
  header = header_bytes;
  packets = flat_map packet_bytes ds;
  rest = [];
  whole = ap (λ b. header_bytes ++ b) (sym (append-nil (flat_map packet_bytes ds)));
  long = refl;
  read = header_again (flat_map packet_bytes ds);
  each = packets_again ds all;
  end = refl;
}

pub written_is_listed : WrittenIsListed
written_is_listed ds all = captures_are_listed Big (record { frames = ds; refused = None }) (capture_bytes ds) (written_is_capture ds all)
