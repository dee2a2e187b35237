-- The numbers of the conditions of quiet that fail, noted one after another.
use Rattle.std.proofs.Common.{◌≡◌, ℕ, List, ◌++◌, ap, ◌∙◌}
use Rattle.network_model.specs.declared.conditions.Conditions.{Conditions}
use Rattle.network_model.specs.Quiet.{unless_holds}
use Rattle.network_model.specs.Quieting.{numbers_of}

pub noted_in_turn : (c : Conditions) (n1 n2 n3 : List ℕ) → n1 ≡ unless_holds 1 c.links → n2 ≡ n1 ++ unless_holds 2 c.lanes → n3 ≡ n2 ++ unless_holds 3 c.flags → n3 ≡ numbers_of c
noted_in_turn c n1 n2 n3 e1 e2 e3 =
    let u2 = unless_holds 2 c.lanes in
    let two : n2 ≡ unless_holds 1 c.links ++ u2 = e2 ∙ ap (λ l. l ++ u2) e1 in
    e3 ∙ ap (λ l. l ++ unless_holds 3 c.flags) two
