-- Trees: owned types of which parts may have moved away.

-- an owned type, with holes where something has moved away; a box around a whole tree is whole
pub data Tree : Type 0 where
  hole : Tree
  unit_tree : Tree
  int_tree : Tree
  mutex_tree : Tree → Tree
  task_tree : Tree → Tree
  box_tree : Tree → Tree
