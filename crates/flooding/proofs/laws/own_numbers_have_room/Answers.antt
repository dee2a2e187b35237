use Rattle.flooding.proofs.Room.{few_own}
use Rattle.flooding.proofs.Fits.{room_for_many, room_fits, putting_keeps_few}
use Rattle.flooding.proofs.Few.{others_are_held, changing_keeps_others, hearing_keeps_few, bringing_keeps_few, settling_keeps_few}
use Rattle.flooding.proofs.laws.own_numbers_have_room.Goals as goal

pub returns : goal.returns
returns c = record {
  many = room_for_many;
  few = few_own;
  held = others_are_held;
  fits = room_fits;
  keeps = putting_keeps_few;
  changing = changing_keeps_others;
  hearing = hearing_keeps_few;
  bringing = bringing_keeps_few;
  settling = settling_keeps_few;
}
