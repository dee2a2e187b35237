use Rattle.std.proofs.Common.{◌≡◌, ◌⊎◌, inl, inr, Bool, true, false, Some}
use Rattle.std.specs.Prelude.{◌==◌, if◌then◌else◌}
use Rattle.spb_tlvs.specs.declared.three_way.ThreeWay.{ThreeWay}
use Rattle.isis_pdu.specs.Pdu.{HelloValue}
use Rattle.adjacency.specs.declared.state.AdjState.{AdjState}
use Rattle.adjacency.specs.declared.state.AdjState.TheVariants.{Down, Initializing, Up}
use Rattle.adjacency.specs.declared.port.Adjacency.{Adjacency}
use Rattle.adjacency.specs.States.{next_state, state_numbered}
use Rattle.adjacency.specs.Hearing.{End, sender, is_discarded}
use Rattle.adjacency.specs.Adjacency.{neighbour_of, down, led_to, state_towards}
use Rattle.adjacency.specs.Laws.{HelloKeeps}

-- whatever state a hello led to, nobody but its sender is kept there
led_keeps : (s : AdjState) (hello : HelloValue) (way : ThreeWay) (n : End) → neighbour_of (led_to s hello way) ≡ Some n → sender hello way ≡ n
led_keeps Down hello way n kept = cc
led_keeps Initializing hello way n kept = cc
led_keeps Up hello way n kept = cc

heard_keeps : (ended : Bool) (s : AdjState) (hello : HelloValue) (way : ThreeWay) (n : End) → neighbour_of (if ended then down true else led_to s hello way) ≡ Some n → sender hello way ≡ n
heard_keeps true s hello way n kept = cc
heard_keeps false s hello way n kept = led_keeps s hello way n kept

after_keeps : (discarded ended : Bool) (s : AdjState) (hello : HelloValue) (way : ThreeWay) (a : Adjacency) (n : End) → neighbour_of (if discarded then a else (if ended then down true else led_to s hello way)) ≡ Some n → (neighbour_of a ≡ Some n) ⊎ (sender hello way ≡ n)
after_keeps true ended s hello way a n kept = inl kept
after_keeps false ended s hello way a n kept = inr (heard_keeps ended s hello way n kept)

pub hello_keeps : HelloKeeps
hello_keeps me port hello way a n kept =
    after_keeps (is_discarded me port hello way) (hello.holding == 0) (next_state (state_towards (sender hello way) a) (state_numbered way.state)) hello way a n kept
