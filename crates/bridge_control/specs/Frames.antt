-- PDUs as frames that are sent at a port.
use Rattle.std.specs.Prelude.{ℕ, List, [], ◌∷◌, ◌++◌, map, Bool, Option, Some, None, if◌then◌else◌}
use Rattle.spb_types.specs.declared.address.SystemId.{SystemId}
use Rattle.spb_types.specs.declared.address.LspId.{LspId}
use Rattle.spb_types.specs.Ports.{has}
use Rattle.itag_frames.specs.Frame.{control_bytes}
use Rattle.lsdb.specs.Entry.{Entry}
use Rattle.lsdb.specs.Database.{Lsps}
use Rattle.flooding.specs.Sending.{lsp_in}
use Rattle.spb_tlvs.specs.declared.entries.SnpEntry.{SnpEntry}
use Rattle.snp_sync.specs.Sending.{psnp_for}
use Rattle.bridge_api.specs.Ticking.{lsp_frame, psnp_frame, lsps_at, requests_at}

-- the hello that is sent at a port: the one that is kept for it, where there is one
abbrev pub hello_sent : ℕ → Option (List ℕ) → List (ℕ × List ℕ)
hello_sent p None = []
hello_sent p (Some hello) = (p, hello) ∷ []

-- the frames of PDUs from a system, each with the number of the port
abbrev pub frames_of : SystemId → ℕ → List (List ℕ) → List (ℕ × List ℕ)
frames_of system p pdus = map (λ pdu. (p, control_bytes system.mac pdu)) pdus

-- the frames of the PSNPs of these entries, a list of them for each, with the number of the port
abbrev pub psnps_sent : SystemId → ℕ → List (List SnpEntry) → List (ℕ × List ℕ)
psnps_sent system p listed = map (λ s. (p, psnp_frame system s)) (map (psnp_for system) listed)

-- the frame of an LSP that is held, if it is to be sent at a port
abbrev pub frames_held : SystemId → ℕ → Option (LspId × Entry) → List (ℕ × List ℕ)
frames_held system p None = []
frames_held system p (Some e) = if has e.1.srm p then (p, lsp_frame system (lsp_in e.0 e.1)) ∷ [] else []

-- the LSPs that are to be sent at a port, and then PSNPs of what has SSN there
abbrev pub flagged_at : SystemId → ℕ → Lsps → List (ℕ × List ℕ)
flagged_at system p db = lsps_at system p db ++ requests_at system p db
