-- The kinds of events that are proved to leave the sums.
use Rattle.std.specs.Bool.{⊤}
use Rattle.law_counts_sums.specs.Kinds.{Kind, asks_lock, granted, unlocked, asks_dup, dupped, released, starts, asks_join, joined, arrives, step_join, step_mutex, step_dup, step_lock, step_unlock, step_end, fetch, fetched, moving, moved, drop, evicts, migrates, step_let, step_assign, step_read, step_borrow, step_borrow_mut, step_arith, step_print, step_discard, step_drop_slot, step_par_end}

abbrev pub IsProvedKind : Kind → Type 0
IsProvedKind fetch = ⊤
IsProvedKind fetched = ⊤
IsProvedKind moving = ⊤
IsProvedKind moved = ⊤
IsProvedKind drop = ⊤
IsProvedKind evicts = ⊤
IsProvedKind step_let = ⊤
IsProvedKind step_assign = ⊤
IsProvedKind step_read = ⊤
IsProvedKind step_borrow = ⊤
IsProvedKind step_borrow_mut = ⊤
IsProvedKind step_arith = ⊤
IsProvedKind step_print = ⊤
IsProvedKind step_discard = ⊤
IsProvedKind step_drop_slot = ⊤
IsProvedKind step_par_end = ⊤
IsProvedKind asks_lock = ⊤
IsProvedKind granted = ⊤
IsProvedKind unlocked = ⊤
IsProvedKind asks_dup = ⊤
IsProvedKind dupped = ⊤
IsProvedKind released = ⊤
IsProvedKind starts = ⊤
IsProvedKind asks_join = ⊤
IsProvedKind joined = ⊤
IsProvedKind arrives = ⊤
IsProvedKind step_join = ⊤
IsProvedKind step_mutex = ⊤
IsProvedKind step_dup = ⊤
IsProvedKind step_lock = ⊤
IsProvedKind step_unlock = ⊤
IsProvedKind step_end = ⊤
IsProvedKind migrates = ⊤
IsProvedKind k = ⊥

-- the kinds in which a task value may go: a join that is done, and the `release` of a task
abbrev pub IsSpending : Kind → Type 0
IsSpending step_join = ⊤
IsSpending released = ⊤
IsSpending k = ⊥
