-- Which premise of settling fails, and the tests by which it is found.
use Rattle.std.specs.Prelude.{ℕ, Bool, not, if◌then◌else◌}
use Rattle.spb_types.specs.declared.address.LspId.{LspId}
use Rattle.spb_types.specs.declared.address.SystemId.{SystemId}
use Rattle.link_model.specs.Lane.{Frame}
use Rattle.lsdb.specs.Entry.{Entry}
use Rattle.bridge_api.specs.Parsing.{parsed}
use Rattle.bridge_api.specs.View.{BridgeView}
use Rattle.network_model.specs.State.{State}
use Rattle.network_rounds.specs.Premises.{is_plain, is_lasting, holds_only, entry_outlives, own_outlives, has_no_customers, outlive, owns_outlive, has_few_ids}
use Rattle.network_rounds.specs.Settling.{most_settling}
use Rattle.settle_laws.specs.declared.answers.Ready.{Ready}
use Rattle.settle_laws.specs.declared.answers.Ready.TheVariants.{Yes, Frame as FrameFails, Lifetime, OwnLifetime, Ids}
use Rattle.settle_laws.specs.declared.lanes.FrameTest.{FrameTest}
use Rattle.settle_laws.specs.declared.lanes.FrameTest.TheVariants as frame_test
use Rattle.settle_laws.specs.declared.databases.LspTest.{LspTest}
use Rattle.settle_laws.specs.declared.databases.LspTest.TheVariants as lsp_test

-- a frame passes a test
abbrev pub frame_passes : FrameTest → Frame → Bool
frame_passes frame_test.Plain bytes = is_plain bytes
frame_passes (frame_test.Lasting m) bytes = is_lasting m (parsed bytes)

-- an LSP that a system holds passes a test
abbrev pub lsp_passes : LspTest → SystemId → LspId → Entry → Bool
lsp_passes (lsp_test.Lasting m) system id e = entry_outlives m e
lsp_passes (lsp_test.OwnLasting m) system id e = own_outlives m system id e

-- and so does each that a bridge holds
abbrev pub view_passes : LspTest → BridgeView → Bool
view_passes test v = holds_only (lsp_passes test v.id.system) v.database

-- the first premise that fails for so many rounds, in this order
abbrev pub first_failing : ℕ → State → Ready
first_failing m s =
    if not (has_no_customers s) then FrameFails
    else (if not (outlive m s) then Lifetime
    else (if not (owns_outlive m s) then OwnLifetime
    else (if not (has_few_ids s) then Ids else Yes)))

-- for all rounds that settling is given
abbrev pub ready_of : State → Ready
ready_of s = first_failing (most_settling s) s
