use Rattle.std.proofs.Common.{◌≡◌, ◌+◌, ◌≤◌, ◌++◌, [], map, replicate}
use Rattle.std.specs.Vec.{vec_len, vec_capacity}
use Rattle.server_index.proofs.rows.make_rows.Given as goal

-- one row more each time, without columns
abbrev pub invariant-rows : goal.invariant-rows
invariant-rows g l =
    (vec_len l.rows ≡ vec_len l.initial.rows + l.counter) × (vec_len l.initial.rows + l.missing ≤ vec_capacity l.rows) × (map g.R.Columns.columns l.rows.items ≡ map g.R.Columns.columns l.initial.rows.items ++ replicate l.counter [])
