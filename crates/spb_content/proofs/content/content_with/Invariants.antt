use Rattle.std.proofs.Common.{◌≡◌, flat_map}
use Rattle.spb_content.specs.Content.{first_inst, services_of}
use Rattle.spb_content.proofs.content.content_with.Given as goal

abbrev pub invariant-loop-capability : goal.invariant-loop-capability
invariant-loop-capability l = record {
  inst : l.inst ≡ first_inst l.yielded;
  services : l.services.items ≡ flat_map services_of l.yielded;
}
