use Rattle.std.proofs.Common.{◌≡◌, ◌<◌, length, true, false, not, None, is_some, sym, ap, ◌∙◌, arith}
use Rattle.std.proofs.lemmas.List.{get_or_read}
use Rattle.std.proofs.lemmas.Result.{IfOk-weaker}
use Rattle.spb_types.specs.Address.{same_system}
use Rattle.ect_trees.specs.Search.{label_at}
use Rattle.ect_trees.proofs.Extended.{at_same}
use Rattle.what_if.proofs.Placed.{entry_at}
use Rattle.what_if.proofs.Told.{source_fails, start_fails, no_label, some_label, lost_fails, unreached_fails, named_fails}
use Rattle.what_if.proofs.checking.Claim.fails.Goals as goal

pub returns-then-is : goal.returns-then-is
returns-then-is c = λ x at.
    let s = c.args.self.now in
    let here : c.system_at.result ≡ x = at_same s.mesh.now.graph c.args.place c.system_at.result x c.system_at.ensures at in
    let same : same_system x s.source ≡ true = ap (λ t. same_system t s.source) (sym here) ∙ (sym c.is.ensures ∙ c.if-is.true) in
    ap not c.is_start.ensures ∙ source_fails s c.requires.claim x _ same (entry_at s.mesh.now.graph s.entries.now c.args.place x _ c.requires.claim.ready.valid c.requires.claim.long at)

pub returns-in-Start : goal.returns-in-Start
returns-in-Start c = λ x at.
    let s = c.args.self.now in
    let here : c.system_at.result ≡ x = at_same s.mesh.now.graph c.args.place c.system_at.result x c.system_at.ensures at in
    let off : same_system x s.source ≡ false = ap (λ t. same_system t s.source) (sym here) ∙ (sym c.is.ensures ∙ c.if-is.false) in
    start_fails s c.requires.claim x off (entry_at s.mesh.now.graph s.entries.now c.args.place x _ c.requires.claim.ready.valid c.requires.claim.long at ∙ c.in-Start.is)

pub returns-then-is_none : goal.returns-then-is_none
returns-then-is_none c = λ x at.
    let s = c.args.self.now in
    let here : c.system_at.result ≡ x = at_same s.mesh.now.graph c.args.place c.system_at.result x c.system_at.ensures at in
    let off : same_system x s.source ≡ false = ap (λ t. same_system t s.source) (sym here) ∙ (sym c.is.ensures ∙ c.if-is.false) in
    let within : c.args.place < length s.ways.items = omega (arith, c.requires.within, c.requires.claim.ways.places) in
    let read : label_at s.ways.items c.args.place ≡ c.index.result.now = sym (get_or_read s.ways.items c.args.place c.index.result.now within c.index.ensures None) in
    let none : is_some (label_at s.ways.items c.args.place) ≡ false = ap is_some read ∙ (c.is_none.ensures ∙ ap not c.if-is_none.true) in
    lost_fails s c.requires.claim x c.in-Before.field-0 off (entry_at s.mesh.now.graph s.entries.now c.args.place x _ c.requires.claim.ready.valid c.requires.claim.long at ∙ c.in-Before.is) (no_label s c.requires.claim c.args.place x at none)

pub returns-else-is_none : goal.returns-else-is_none
returns-else-is_none c = IfOk-weaker c.has_better.result _ _ (λ b better x at.
    let s = c.args.self.now in
    let here : c.system_at.result ≡ x = at_same s.mesh.now.graph c.args.place c.system_at.result x c.system_at.ensures at in
    let off : same_system x s.source ≡ false = ap (λ t. same_system t s.source) (sym here) ∙ (sym c.is.ensures ∙ c.if-is.false) in
    let within : c.args.place < length s.ways.items = omega (arith, c.requires.within, c.requires.claim.ways.places) in
    let read : label_at s.ways.items c.args.place ≡ c.index.result.now = sym (get_or_read s.ways.items c.args.place c.index.result.now within c.index.ensures None) in
    let some : is_some (label_at s.ways.items c.args.place) ≡ true = ap is_some read ∙ (c.is_none.ensures ∙ ap not c.if-is_none.false) in
    let way = some_label s c.requires.claim c.args.place x at some in
    named_fails s c.requires.claim b x c.in-Before.field-0 way.0 off (entry_at s.mesh.now.graph s.entries.now c.args.place x _ c.requires.claim.ready.valid c.requires.claim.long at ∙ c.in-Before.is) way.1 (better x at)) c.has_better.ensures

pub returns-in-Unreached : goal.returns-in-Unreached
returns-in-Unreached c = IfOk-weaker c.has_better-in-Unreached.result _ _ (λ b better x at.
    let s = c.args.self.now in
    let here : c.system_at.result ≡ x = at_same s.mesh.now.graph c.args.place c.system_at.result x c.system_at.ensures at in
    let off : same_system x s.source ≡ false = ap (λ t. same_system t s.source) (sym here) ∙ (sym c.is.ensures ∙ c.if-is.false) in
    unreached_fails s c.requires.claim b x off (entry_at s.mesh.now.graph s.entries.now c.args.place x _ c.requires.claim.ready.valid c.requires.claim.long at ∙ c.in-Unreached.is) (better x at)) c.has_better-in-Unreached.ensures
