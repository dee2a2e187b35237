-- Frames of LSPs that are made once in a second, and shared by all ports at which the LSP is to be sent.
use Rattle.std.specs.Prelude.{◌≡◌, ℕ, List, [], ◌∷◌, Option, Some, None, slice_get, ⊤}
use Rattle.spb_types.specs.declared.address.SystemId.{SystemId}
use Rattle.spb_types.specs.declared.address.LspId.{LspId}
use Rattle.lsdb.specs.Entry.{Entry}
use Rattle.flooding.specs.Sending.{lsp_in}
use Rattle.bridge_api.specs.Ticking.{lsp_frame}

-- what was made, if it is a frame, is the frame of this LSP
abbrev pub IsMadeOf : SystemId → LspId × Entry → Option (Option (List ℕ)) → Type 0
IsMadeOf system e None = ⊤
IsMadeOf system e (Some None) = ⊤
IsMadeOf system e (Some (Some frame)) = frame ≡ lsp_frame system (lsp_in e.0 e.1)

abbrev pub IsMadeAt : SystemId → Option (LspId × Entry) → Option (Option (List ℕ)) → Type 0
IsMadeAt system None kept = ⊤
IsMadeAt system (Some e) kept = IsMadeOf system e kept

-- each frame that was made is that of the LSP at its place, in the order of these places
abbrev pub AreMadeOf : SystemId → List (LspId × Entry) → List ℕ → List (Option (List ℕ)) → Type 0
AreMadeOf system es [] frames = ⊤
AreMadeOf system es (p ∷ ps) [] = ⊤
AreMadeOf system es (p ∷ ps) (frame ∷ frames) =
    IsMadeAt system (slice_get es p) (Some frame) × AreMadeOf system es ps frames
