use Rattle.std.proofs.Common.{arith}
use Rattle.server_index.proofs.RowLemmas.{longer_push}
use Rattle.server_index.proofs.rows.make_rows.Goals as goal

pub rows-preserved : goal.rows-preserved
rows-preserved g c = (
  omega (arith, c.push_reserved.ensures.len, c.rows.invariant.0),
  omega (arith, c.push_reserved.ensures.capacity, c.rows.invariant.1),
  longer_push g.R.Columns.columns _ c.rows.rows.items _ c.bare.result c.rows.counter c.push_reserved.ensures.items c.bare.ensures c.rows.invariant.2,
)
