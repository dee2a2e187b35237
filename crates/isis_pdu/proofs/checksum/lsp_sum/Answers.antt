use Rattle.std.proofs.Common.{◌≡◌, ℕ, length, ap, sym, subst, ◌∙◌}
use Rattle.std.specs.Prelude.{IsTrue}
use Rattle.isis_pdu.specs.declared.checksum.Sums.{Sums}
use Rattle.isis_pdu.specs.Checksum.{is_checked, covered, check_field, lsp_sum_of, HasCheckBytes}
use Rattle.isis_pdu.proofs.Sums.{lsp_sum-bytes, lsp_sum-holds, lsp_sum-only}
use Rattle.isis_pdu.proofs.checksum.lsp_sum.Goals as goal

value : (c : goal.After-check_field) → c.check_field.result ≡ lsp_sum_of c.args.id.now c.args.seq c.args.flags c.args.tlvs.now
unfolding lsp_sum_of
value c = c.check_field.ensures ∙ ap (λ (s : Sums). check_field s (length c.args.tlvs.now)) c.sums_without_check.ensures

pub returns-clause-bytes : goal.returns-clause-bytes
returns-clause-bytes c = subst HasCheckBytes (sym (value c)) (lsp_sum-bytes c.args.id.now c.args.seq c.args.flags c.args.tlvs.now)

pub returns-clause-holds : goal.returns-clause-holds
returns-clause-holds c = subst (λ (n : ℕ). IsTrue (is_checked (covered c.args.id.now c.args.seq n c.args.flags c.args.tlvs.now))) (sym (value c)) (lsp_sum-holds c.args.id.now c.args.seq c.args.flags c.args.tlvs.now)

pub returns-clause-only : goal.returns-clause-only
returns-clause-only c = λ sum fits holds. lsp_sum-only c.args.id.now c.args.seq c.args.flags c.args.tlvs.now sum fits holds ∙ sym (value c)

pub returns-clause-value : goal.returns-clause-value
returns-clause-value c = value c
