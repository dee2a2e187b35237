-- After a frame an LSP of the bridge's own system has the version and lifetime that it had, or it was just originated, or
-- isn't live: none is stored from an LSP that came in.
use Rattle.std.proofs.Common.{◌≡◌, inl, inr, Bool, true, false, List, ℕ, refl, sym, ap, ◌∙◌, subst, Option, Some, None}
use Rattle.std.specs.Prelude.{◌&&◌, if◌then◌else◌}
use Rattle.std.specs.FinMap.{get}
use Rattle.spb_types.specs.Address.{same_system}
use Rattle.spb_types.specs.declared.address.LspId.{LspId}
use Rattle.spb_types.specs.declared.address.SystemId.{SystemId}
use Rattle.spb_types.specs.declared.ports.PortSet.{PortSet}
use Rattle.isis_pdu.specs.Pdu.{LspValue}
use Rattle.lsdb.specs.declared.version.Relation.{Relation}
use Rattle.lsdb.specs.declared.version.Relation.TheVariants.{Older, Equal, Newer, Confused}
use Rattle.lsdb.specs.Version.{number_of, is_absent, relation}
use Rattle.lsdb.specs.Entry.{Entry, acked, offered}
use Rattle.lsdb.specs.Database.{version_in}
use Rattle.lsdb.proofs.LookupLemmas.{same_or_not}
use Rattle.flooding.specs.Own.{answered, body_for}
use Rattle.flooding.specs.Hearing.{Holding, claim_of, lsp_rule, is_beyond, is_full_for_lsp, hear_lsp_of}
use Rattle.flooding.proofs.Claimed.{lsp_rule_says, others_stand, heard_stands, full_stands}
use Rattle.flooding.proofs.OwnNumbers.{same_self}
use Rattle.bridge_api.specs.View.{BridgeView, up_ports}
use Rattle.bridge_api.specs.Own.{holding_of, originated_if_changed}
use Rattle.bridge_api.specs.Hearing.{heard_lsp}
use Rattle.bridge_api.specs.Step.{frame, step}
use Rattle.bridge_api.proofs.Changes.{FrameStep, idle, by_hello, by_lsp, by_csnp, by_psnp, frame_step}
use Rattle.bridge_laws.specs.Counting.{lsp_said}
use Rattle.bridge_rounds.specs.Hearing.{LivedAt}
use Rattle.bridge_rounds.proofs.LivedLsps.{stood, then_lived, mapped_lived, spared_leaves, answer_lived, originated_lived, frames_keep_living}

module _ (up : PortSet) (port : ℕ) (l : LspValue) (h : Holding) where
  -- what is older or equal leaves it, and all else is answered
  ruled : (r : Relation) (held : Option Entry) → LivedAt None l.id held (if is_beyond r then Some (answered up h.own l.id (number_of (claim_of l).version)) else lsp_rule up port l r held)
  ruled Older held = mapped_lived None l.id (offered port) held (λ e. (refl, refl))
  ruled Equal held = mapped_lived None l.id _ held (λ e. spared_leaves (acked port) e (is_absent e.version) (λ d. (refl, refl)))
  ruled Newer held = answer_lived None up l.id l.id (number_of (claim_of l).version) held (body_for h.own l.id)
  ruled Confused held = answer_lived None up l.id l.id (number_of (claim_of l).version) held (body_for h.own l.id)

  own_ruled : (b : Bool) → b ≡ true → (r : Relation) (held : Option Entry) → LivedAt None l.id held (if b && is_beyond r then Some (answered up h.own l.id (number_of (claim_of l).version)) else lsp_rule up port l r held)
  own_ruled true own r held = ruled r held
  own_ruled false own r held = absurd cc

  own_claimed : (full : Bool) → is_full_for_lsp up port l h ≡ full → same_system l.id.system h.own.system ≡ true → LivedAt None l.id (get h.db l.id) (get (hear_lsp_of up port l h).db l.id)
  own_claimed true full own = stood None l.id _ _ (ap (λ (g : Holding). get g.db l.id) (full_stands (lsp_rule up port l) up (claim_of l) h full))
  own_claimed false there own =
      subst (LivedAt None l.id (get h.db l.id)) (sym (heard_stands (lsp_rule up port l) (lsp_rule_says up port l) up (claim_of l) h there))
      (own_ruled (same_system l.id.system h.own.system) own (relation (claim_of l).version (version_in (get h.db l.id))) (get h.db l.id))

  own_heard : (id : LspId) → id.system ≡ h.own.system → LivedAt None id (get h.db id) (get (hear_lsp_of up port l h).db id)
  own_heard id own =
      elim (same_or_not id l.id) [
        | inl here ↦
            let mine : same_system l.id.system h.own.system ≡ true = ap (λ (x : SystemId). same_system x h.own.system) (sym (ap (λ (x : LspId). x.system) here) ∙ own) ∙ same_self h.own.system in
            subst (λ (x : LspId). LivedAt None x (get h.db x) (get (hear_lsp_of up port l h).db x)) (sym here) (own_claimed (is_full_for_lsp up port l h) refl mine)
        | inr other ↦ stood None id _ _ (others_stand (lsp_rule up port l) up (claim_of l) h id other)
      ]

module _ (v : BridgeView) (p : ℕ) (bytes : List ℕ) (id : LspId) (own : id.system ≡ v.id.system) where
  abbrev OwnLives : BridgeView → Type 0
  OwnLives w = LivedAt None id (get v.database id) (get w.database id)

  by_said : (lsp : Option LspValue) → lsp ≡ None → LivedAt lsp id (get v.database id) (get (step (frame p bytes) v).database id) → OwnLives (step (frame p bytes) v)
  by_said lsp none lived = subst (λ (o : Option LspValue). LivedAt o id (get v.database id) (get (step (frame p bytes) v).database id)) none lived

  own_by : FrameStep v p bytes (step (frame p bytes) v) → OwnLives (step (frame p bytes) v)
  own_by (idle learned how e) = stood None id _ _ (ap (λ (w : BridgeView). get w.database id) e)
  own_by (by_hello g) = by_said (lsp_said _) (ap lsp_said g.is) (frames_keep_living v p bytes id)
  own_by (by_csnp g) = by_said (lsp_said _) (ap lsp_said g.is) (frames_keep_living v p bytes id)
  own_by (by_psnp g) = by_said (lsp_said _) (ap lsp_said g.is) (frames_keep_living v p bytes id)
  own_by (by_lsp g) =
      let w : BridgeView = heard_lsp g.lsp p v in
      subst OwnLives (sym g.after)
      (then_lived None id (get v.database id) (get w.database id) (get (originated_if_changed w).database id)
      (own_heard (up_ports v) p g.lsp (holding_of v) id own) (originated_lived w id))

  pub own_lives : OwnLives (step (frame p bytes) v)
  own_lives = own_by (frame_step v p bytes)
