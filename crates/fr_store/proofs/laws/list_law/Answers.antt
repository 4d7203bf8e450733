use Rattle.fr_store.proofs.laws.list_law.Goals as goal
use Rattle.fr_store.proofs.ListRows.{start_list, none_list, alike_list, int_list, unit_list, read_int_list, read_unit_list, move_list, let_list, assign_list, drop_list, box_list, end_list}

pub returns : goal.returns
returns c = record {
  start = start_list;
  none = none_list;
  alike = alike_list;
  number = int_list;
  unit = unit_list;
  read_number = read_int_list;
  read_unit = read_unit_list;
  move_out = move_list;
  bind = let_list;
  assign = assign_list;
  drop_temp = drop_list;
  boxing = box_list;
  end_slot = end_list;
}
