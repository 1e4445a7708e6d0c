-- Packed deeds, worked out.
use Rattle.std.proofs.Common.{refl}
use Rattle.bsp_steps.specs.WorkedBytes.{BytesAreWorkedOut}

pub bytes_are_worked_out : BytesAreWorkedOut
bytes_are_worked_out = record {
  nothing = refl;
  idle = refl;
  all = refl;
  two = refl;
  fifteen = refl;
  kind = refl;
  cut_end = refl;
  cut_put = refl;
  cut_row = refl;
  empty_row = refl;
  far_row = refl;
  open_puts = refl;
  open_prints = refl;
  blocks = refl;
  across = refl;
  second = refl;
  unread = λ w before after s h. h.read (record { sound = refl; going = refl });
  over = λ w before after s h. h.over refl;
  closed = λ after before place s h. h;
}
