use Rattle.std.proofs.Common.{◌≡◌, ◌<◌, ◌≤◌, ◌++◌, arith, sym, ap, ◌∙◌}
use Rattle.flooding.specs.Own.{own_numbers}
use Rattle.spb_content.specs.Content.{content_in}
use Rattle.bridge_api.specs.Tables.{live_lsps, tlvs_among}
use Rattle.bridge_api.proofs.GraphRead.{number_read}
use Rattle.bridge_control.proofs.Together.{numbers_are, tlvs_more, tlvs_end, read_all}
use Rattle.bridge_control.proofs.reading.said_together.Goals as goal

pub put_tlvs-requires : goal.put_tlvs-requires
put_tlvs-requires c = number_read c.args.system c.loop-number.number (omega (arith, numbers_are, c.loop-number-test.true))

pub loop-number-preserved : goal.loop-number-preserved
loop-number-preserved c =
    let lsps = live_lsps c.args.db.now in
    let number = c.loop-number.number in
    let below : number < own_numbers = omega (arith, numbers_are, c.loop-number-test.true) in (
      omega (arith, c.loop-number-test.true),
      tlvs_more lsps c.args.system own_numbers number c.loop-number.tlvs.items c.put_tlvs.new.tlvs.items below c.in_ok-put_tlvs.ensures c.loop-number.invariant.1,
    )

pub returns : goal.returns
returns c =
    let lsps = live_lsps c.args.db.now in
    let number = c.loop-number.number in
    let past : own_numbers ≤ number = omega (arith, numbers_are, c.loop-number-test.false) in
    let all = tlvs_end lsps c.args.system own_numbers number c.loop-number.tlvs.items past c.loop-number.invariant.1 in
    read_all c.read_content.result (ap content_in (c.as_slice.ensures.value ∙ all)) c.read_content.ensures
