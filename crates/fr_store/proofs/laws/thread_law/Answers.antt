use Rattle.fr_store.proofs.laws.thread_law.Goals as goal
use Rattle.fr_store.proofs.BorrowRows.{write_row, shared_row, mutable_row}
use Rattle.fr_store.proofs.Capture.{capture_row, join_temp_row}
use Rattle.fr_store.proofs.JoinRows.{join_row}
use Rattle.fr_store.proofs.OtherThreads.{start_row, hand_row, raise_row, room_row, alike_row, view_row, other_row, sleep_row, wake_row, new_thread_row}
use Rattle.fr_store.proofs.OwnPaths.{move_row, assign_row}
use Rattle.fr_store.proofs.ReferenceRows.{move_ref_row, clear_row, fill_row}
use Rattle.fr_store.proofs.SlotRows.{let_row, end_row, rank_next}
use Rattle.fr_store.proofs.Step.{step_row, step_sleep_row}
use Rattle.fr_store.proofs.Through.{write_through_row}
use Rattle.fr_store.proofs.ValueRows.{int_row, unit_row, read_int_row, read_unit_row, copy_row, drop_row, forget_row, box_row}

pub returns : goal.returns
returns c = record {
  start = start_row;
  hand = hand_row;
  raise = raise_row;
  room = room_row;
  next = rank_next;
  alike = alike_row;
  number = int_row;
  unit = unit_row;
  read_number = read_int_row;
  read_unit = read_unit_row;
  move_out = move_row;
  bind = let_row;
  assign = assign_row;
  write = write_row;
  write_through = write_through_row;
  drop_temp = drop_row;
  boxing = box_row;
  end_slot = end_row;
  shared = shared_row;
  mutable = mutable_row;
  copied = copy_row;
  move_ref = move_ref_row;
  clear = clear_row;
  fill = fill_row;
  forget = forget_row;
  join = join_row;
  join_temp = join_temp_row;
  new_thread = new_thread_row;
  capture = capture_row;
  view = view_row;
  other = other_row;
  sleep = sleep_row;
  wake = wake_row;
  step = step_row;
  step_sleep = step_sleep_row;
}
