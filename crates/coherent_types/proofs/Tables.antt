-- The tables of the examples, row by row.
use Rattle.std.proofs.Common.{refl, arith}
use Rattle.coherent_memory.specs.Below.fr_typing.Kinds.{unit}
use Rattle.coherent_memory.specs.Below.fr_typing.Captures.{captures_copy, captures_move}
use Rattle.coherent_memory.specs.Below.server_model.Programs.{read_by_pairs, locked_elsewhere, lent_box}
use Rattle.coherent_memory.specs.Below.fr_code.CodeTypes.{takes_const, takes_unit, takes_pop, passes, pass_none, pass_next, i_let, i_assign, i_copy, i_move, i_borrow, i_borrow_mut, i_box, i_print, i_drop, i_spawn, i_join, i_mutex, i_lock, i_unlock, i_par, i_par_end}
use Rattle.coherent_memory.specs.Below.fr_code.CodeTable.{IsTable}
use Rattle.coherent_memory.proofs.Below.fr_code.Chains.{leads, stops, chained}
use Rattle.coherent_types.specs.Tables.{x_name, r_name, c_name, pairs_entries, locks_entries, lent_entries, pairs_table, locks_table, lent_table, TablesCompute}

pub pairs_typed : IsTable read_by_pairs pairs_table
pairs_typed =
    chained read_by_pairs pairs_entries unit refl (
      leads (i_box (takes_const refl) refl),
      (
        leads (i_let x_name (takes_pop refl) refl),
        (
          leads (i_borrow refl (record { named = refl; short = omega arith; is = refl }) refl),
          (
            leads (i_let r_name (takes_pop refl) refl),
            (
              leads (i_par refl (pass_next (passes (record { at = 0; name = r_name }) refl (captures_copy (record { is = record { named = refl; is = refl }; becomes = refl }) refl refl refl) refl refl) pass_none) (pass_next (passes (record { at = 0; name = r_name }) refl (captures_copy (record { is = record { named = refl; is = refl }; becomes = refl }) refl refl refl) refl refl) pass_none) refl refl),
              (
                leads i_par_end,
                (
                  leads (i_drop refl refl refl),
                  (
                    leads (i_assign (takes_const refl) (record { named = refl; short = omega arith; is = refl }) (record { free = refl; path = refl }) refl refl refl),
                    (
                      leads (i_borrow refl (record { named = refl; short = omega arith; is = refl }) refl),
                      (
                        leads (i_let r_name (takes_pop refl) refl),
                        (
                          leads (i_par refl (pass_next (passes (record { at = 0; name = r_name }) refl (captures_copy (record { is = record { named = refl; is = refl }; becomes = refl }) refl refl refl) refl refl) pass_none) (pass_next (passes (record { at = 0; name = r_name }) refl (captures_copy (record { is = record { named = refl; is = refl }; becomes = refl }) refl refl refl) refl refl) pass_none) refl refl),
                          (
                            leads i_par_end,
                            (
                              leads (i_drop refl refl refl),
                              (
                                leads (i_drop refl refl refl),
                                (
                                  stops (takes_unit refl),
                                  (
                                    leads (i_copy refl (record { named = refl; short = omega arith; is = refl }) refl refl),
                                    (
                                      leads (i_print (takes_pop refl)),
                                      (
                                        leads (i_drop refl refl refl),
                                        (
                                          stops (takes_unit refl),
                                          (
                                            leads (i_copy refl (record { named = refl; short = omega arith; is = refl }) refl refl),
                                            (
                                              leads (i_print (takes_pop refl)),
                                              (
                                                leads (i_drop refl refl refl),
                                                (
                                                  stops (takes_unit refl),
                                                  (
                                                    leads (i_copy refl (record { named = refl; short = omega arith; is = refl }) refl refl),
                                                    (
                                                      leads (i_print (takes_pop refl)),
                                                      (
                                                        leads (i_drop refl refl refl),
                                                        (
                                                          stops (takes_unit refl),
                                                          (
                                                            leads (i_copy refl (record { named = refl; short = omega arith; is = refl }) refl refl),
                                                            (
                                                              leads (i_print (takes_pop refl)),
                                                              (
                                                                leads (i_drop refl refl refl),
                                                                (
                                                                  stops (takes_unit refl),
                                                                  tt,
                                                                ),
                                                              ),
                                                            ),
                                                          ),
                                                        ),
                                                      ),
                                                    ),
                                                  ),
                                                ),
                                              ),
                                            ),
                                          ),
                                        ),
                                      ),
                                    ),
                                  ),
                                ),
                              ),
                            ),
                          ),
                        ),
                      ),
                    ),
                  ),
                ),
              ),
            ),
          ),
        ),
      ),
    )

locks_typed : IsTable locked_elsewhere locks_table
locks_typed =
    chained locked_elsewhere locks_entries unit refl (
      leads (i_box (takes_const refl) refl),
      (
        leads (i_mutex (takes_pop refl) refl),
        (
          leads (i_let x_name (takes_pop refl) refl),
          (
            leads (i_spawn refl (pass_next (passes (record { at = 0; name = x_name }) refl (captures_move (record { is = record { named = refl; is = refl }; becomes = refl }) refl refl refl) refl refl) pass_none) refl refl),
            (
              leads (i_let r_name (takes_pop refl) refl),
              (
                leads (i_move refl (record { named = refl; short = omega arith; is = refl }) refl refl refl),
                (
                  leads (i_join (takes_pop refl)),
                  (
                    leads (i_drop refl refl refl),
                    (
                      leads (i_drop refl refl refl),
                      (
                        stops (takes_pop refl),
                        (
                          leads (i_lock c_name refl (record { named = refl; short = omega arith; is = refl }) refl refl),
                          (
                            leads (i_assign (takes_const refl) (record { named = refl; short = omega arith; is = refl }) (record { free = refl; path = refl }) refl refl refl),
                            (
                              leads (i_unlock refl),
                              (
                                leads (i_drop refl refl refl),
                                (
                                  stops (takes_unit refl),
                                  tt,
                                ),
                              ),
                            ),
                          ),
                        ),
                      ),
                    ),
                  ),
                ),
              ),
            ),
          ),
        ),
      ),
    )

lent_typed : IsTable lent_box lent_table
lent_typed =
    chained lent_box lent_entries unit refl (
      leads (i_box (takes_const refl) refl),
      (
        leads (i_let x_name (takes_pop refl) refl),
        (
          leads (i_borrow_mut refl (record { named = refl; short = omega arith; is = refl }) (record { free = refl; path = refl })),
          (
            leads (i_let r_name (takes_pop refl) refl),
            (
              leads (i_assign (takes_const refl) (record { named = refl; short = omega arith; is = refl }) (record { free = refl; path = refl }) refl refl refl),
              (
                leads (i_copy refl (record { named = refl; short = omega arith; is = refl }) refl refl),
                (
                  leads (i_print (takes_pop refl)),
                  (
                    leads (i_assign (takes_const refl) (record { named = refl; short = omega arith; is = refl }) (record { free = refl; path = refl }) refl refl refl),
                    (
                      leads (i_copy refl (record { named = refl; short = omega arith; is = refl }) refl refl),
                      (
                        leads (i_print (takes_pop refl)),
                        (
                          leads (i_drop refl refl refl),
                          (
                            leads (i_copy refl (record { named = refl; short = omega arith; is = refl }) refl refl),
                            (
                              leads (i_print (takes_pop refl)),
                              (
                                leads (i_drop refl refl refl),
                                (
                                  stops (takes_unit refl),
                                  tt,
                                ),
                              ),
                            ),
                          ),
                        ),
                      ),
                    ),
                  ),
                ),
              ),
            ),
          ),
        ),
      ),
    )

pub tables_compute : TablesCompute
tables_compute = record { pairs = pairs_typed; locks = locks_typed; lent = lent_typed }
