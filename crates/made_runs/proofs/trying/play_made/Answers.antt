use Rattle.std.proofs.Common.{◌≡◌, ◌≤◌, ℕ, length, ap, ◌∙◌, arith}
use Rattle.scenario_maker.specs.Made.{made}
use Rattle.scenario_maker.proofs.Lengths.{made_is_long}
use Rattle.made_runs.proofs.trying.play_made.Goals as goal

made_few : (n : ℕ) → n ≤ 96 → length (made n) ≤ 100000
made_few n most = omega (arith, most, made_is_long n)

pub apply_all-requires-clause-few : goal.apply_all-requires-clause-few
apply_all-requires-clause-few g c =
    let same : length c.as_slice.result.now ≡ length (made c.args.bridges) = ap length (c.as_slice.ensures.value ∙ c.in_ok-script.ensures) in
    omega (arith, same, made_few c.args.bridges c.requires.most)
