use Rattle.std.proofs.Common.{◌≡◌, Some, slice_get, refl, sym, ap, ◌∙◌, inl}
use Rattle.std.specs.Option.{option_map}
use Rattle.spb_types.proofs.Places.{set-is, lent}
use Rattle.link_model.specs.Lanes.{lane_in, with_lane, changed_lane}
use Rattle.link_model.proofs.all_lanes.AllLanes.lane_mut.Goals as goal

-- what is left behind the lane is put back into the lanes of its link, and these into the list of all
pub returns : goal.returns
returns c =
    let all = c.self.inside.links.items in let dir = c.args.id.dir in let lanes = c.in_ok-lanes.lanes.now in
    let there : slice_get all c.args.id.link ≡ Some lanes = lent _ _ _ _ c.get_mut.ensures.item c.in_ok-lanes.was in
    rw (← c.self.view_is) (
      (λ i. inl (c.lane_mut.result.ghost_name, λ w. set-is (changed_lane dir (λ _. w)) all c.args.id.link lanes (with_lane dir w lanes) there refl i)),
      record { writes_back = tt; lane = ap Some c.lane_mut.ensures.lane ∙ sym (ap (option_map (lane_in dir)) there) },
    )
