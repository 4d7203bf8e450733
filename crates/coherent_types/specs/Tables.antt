-- Tables of codes with a pair of threads and views, with a mutex and a task, and with a mutable reference.
use Rattle.std.specs.Prelude.{List, [], ◌∷◌, ◌++◌, Some, None}
use Rattle.coherent_memory.specs.Below.fr_terms.Terms.{Text}
use Rattle.coherent_memory.specs.Below.fr_typing.Kinds.{unit, int, box, mutex, task, Kind, own, shared, mutable, view, Piece, whole, gone}
use Rattle.coherent_memory.specs.Below.fr_typing.Places.{Slot, Env}
use Rattle.sample_clusters.specs.Clusters.{place}
use Rattle.coherent_memory.specs.Below.server_model.Programs.{read_by_pairs, locked_elsewhere, lent_box}
use Rattle.coherent_memory.specs.Below.fr_code.CodeTypes.{Entry, Table, table_of, going, forked_at}
use Rattle.coherent_memory.specs.Below.fr_code.CodeTable.{IsTable}

abbrev pub x_name : Text
x_name = 120 ∷ []

abbrev pub r_name : Text
r_name = 114 ∷ []

abbrev pub c_name : Text
c_name = 99 ∷ []

abbrev pub slot : Text → Piece → Slot
slot x p = record { name = Some x; part = p }

abbrev pub x_slot : Slot
x_slot = slot x_name (whole (own (box int)))

-- READ BY PAIRS

abbrev pub shared_x : Kind
shared_x = shared (place 0 1 ∷ [])

abbrev pub two_slots : Env
two_slots = slot r_name (whole shared_x) ∷ x_slot ∷ []

-- the code of a branch that prints through its view
abbrev branch : List Entry
branch =
    going (slot r_name (whole (view int)) ∷ []) [] unit ∷ going (slot r_name (whole (view int)) ∷ []) (own int ∷ []) unit
    ∷ going (slot r_name (whole (view int)) ∷ []) [] unit ∷ going [] [] unit ∷ []

-- a reference to the box, and two branches that see it
abbrev lent_to_both : List Entry
lent_to_both =
    going (x_slot ∷ []) [] unit ∷ going (x_slot ∷ []) (shared_x ∷ []) unit ∷ going two_slots [] unit ∷ forked_at two_slots [] unit
    ∷ going two_slots [] unit ∷ []

abbrev pub pairs_entries : List Entry
pairs_entries =
    (going [] [] unit ∷ going [] (own (box int) ∷ []) unit ∷ []) ++ lent_to_both ++ going (x_slot ∷ []) [] unit ∷ lent_to_both
    ++ going (x_slot ∷ []) [] unit ∷ going [] [] unit ∷ branch ++ branch ++ branch ++ branch

abbrev pub pairs_table : Table
pairs_table = table_of pairs_entries

-- LOCKED ELSEWHERE

abbrev pub m_slot : Slot
m_slot = slot x_name (whole (own (mutex (box int))))

abbrev pub m_gone : Slot
m_gone = slot x_name (gone (own (mutex (box int))))

abbrev pub locked_slots : Env
locked_slots = slot c_name (whole (own (box int))) ∷ record { name = None; part = whole (shared (place 0 0 ∷ [])) } ∷ m_slot ∷ []

abbrev pub locks_entries : List Entry
locks_entries =
    going [] [] unit ∷ going [] (own (box int) ∷ []) unit ∷ going [] (own (mutex (box int)) ∷ []) unit ∷ going (m_slot ∷ []) [] unit
    ∷ going (m_gone ∷ []) (own (task unit) ∷ []) unit ∷ going (slot r_name (whole (own (task unit))) ∷ m_gone ∷ []) [] unit
    ∷ going (slot r_name (gone (own (task unit))) ∷ m_gone ∷ []) (own (task unit) ∷ []) unit
    ∷ going (slot r_name (gone (own (task unit))) ∷ m_gone ∷ []) (own unit ∷ []) unit ∷ going (m_gone ∷ []) (own unit ∷ []) unit
    ∷ going [] (own unit ∷ []) unit
    ∷ going (m_slot ∷ []) [] unit ∷ going locked_slots [] unit ∷ going locked_slots [] unit ∷ going (m_slot ∷ []) [] unit ∷ going [] [] unit ∷ []

abbrev pub locks_table : Table
locks_table = table_of locks_entries

-- A LENT BOX

abbrev pub lent_slots : Env
lent_slots = slot r_name (whole (mutable (place 0 1 ∷ []))) ∷ x_slot ∷ []

abbrev pub lent_entries : List Entry
lent_entries =
    going [] [] unit ∷ going [] (own (box int) ∷ []) unit ∷ going (x_slot ∷ []) [] unit ∷ going (x_slot ∷ []) (mutable (place 0 1 ∷ []) ∷ []) unit
    ∷ going lent_slots [] unit ∷ going lent_slots [] unit ∷ going lent_slots (own int ∷ []) unit ∷ going lent_slots [] unit ∷ going lent_slots [] unit
    ∷ going lent_slots (own int ∷ []) unit ∷ going lent_slots [] unit ∷ going (x_slot ∷ []) [] unit ∷ going (x_slot ∷ []) (own int ∷ []) unit
    ∷ going (x_slot ∷ []) [] unit ∷ going [] [] unit ∷ []

abbrev pub lent_table : Table
lent_table = table_of lent_entries

pub record TablesCompute : Type 0 where
  pub pairs : IsTable read_by_pairs pairs_table
  pub locks : IsTable locked_elsewhere locks_table
  pub lent : IsTable lent_box lent_table
