use Rattle.std.proofs.Common.{◌≡◌, ◌≤◌, ℕ, List, length, sym, subst, ap, ◌∙◌, rules, arith}
use Rattle.std.specs.Prelude.{IsTrue}
use Rattle.std.proofs.lemmas.Result.{IfOk-weaker}
use Rattle.isis_pdu.specs.Tlvs.{is_whole}
use Rattle.isis_pdu.specs.Spelling.{hello_bytes}
use Rattle.itag_frames.specs.Frame.{control_bytes}
use Rattle.adjacency.specs.Adjacency.{said}
use Rattle.bridge_api.specs.Ticking.{hello_tlvs, hello_at, hello_frame}
use Rattle.bridge_api.proofs.Hellos.{tlvs_whole}
use Rattle.bridge_control.proofs.Wire.{pdu_short}
use Rattle.bridge_control.proofs.hello.hello_frame.Goals as goal

pub write_hello-requires : goal.write_hello-requires
write_hello-requires c =
    let tlvs : c.as_slice.result.now ≡ hello_tlvs c.three_way.result = c.as_slice.ensures.value ∙ c.in_ok-tlvs.ensures.tlvs in
    record {
      whole = subst (λ (bytes : List ℕ). IsTrue (is_whole bytes)) (sym tlvs) (tlvs_whole c.three_way.result);
      short = omega (arith, ap length c.as_slice.ensures.value, c.in_ok-tlvs.ensures.short);
    }

pub control_frame-requires : goal.control_frame-requires
control_frame-requires c =
    let six : length c.args.system.mac.bytes ≡ 6 = search rules in
    let few : length c.as_slice.result.now ≤ 26 = omega (arith, ap length c.as_slice.ensures.value, c.in_ok-tlvs.ensures.short) in
    pdu_short c.as_slice-2.result.now _ (c.as_slice-2.ensures.value ∙ c.in_ok-pdu.ensures) six few

pub returns : goal.returns
unfolding hello_frame
returns c =
    let tlvs : c.as_slice.result.now ≡ hello_tlvs (said c.args.number c.args.port.now.adjacency) = c.as_slice.ensures.value ∙ (c.in_ok-tlvs.ensures.tlvs ∙ ap hello_tlvs c.three_way.ensures) in
    let pdu : c.as_slice-2.result.now ≡ hello_bytes (hello_at c.args.system c.args.number c.args.port.now) =
    c.as_slice-2.ensures.value ∙ (c.in_ok-pdu.ensures ∙ ap (λ (bytes : List ℕ). hello_bytes (record { circuit_type = 1; source = c.args.system; holding = 3; circuit = c.args.number; tlvs = bytes })) tlvs) in
    IfOk-weaker c.from_vec.result _ _ (λ frame is. is ∙ (c.in_ok-control_frame.ensures.bytes ∙ ap (control_bytes c.args.system.mac) pdu)) c.from_vec.ensures
