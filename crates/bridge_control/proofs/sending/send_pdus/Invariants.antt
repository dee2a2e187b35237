use Rattle.std.proofs.Common.{◌≡◌, take}
use Rattle.snp_sync.specs.Sending.{bytes_in}
use Rattle.bridge_api.specs.Step.{with_wire}
use Rattle.bridge_control.specs.Frames.{frames_of}
use Rattle.bridge_control.proofs.sending.send_pdus.Given as goal

abbrev pub invariant-send : goal.invariant-send
invariant-send l = l.outbox ≡ with_wire (frames_of l.system l.number (bytes_in (take l.pdu-index l.pdus))) l.initial.outbox
