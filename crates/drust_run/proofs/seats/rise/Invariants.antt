use Rattle.std.proofs.Common.{◌≡◌, ◌++◌}
use Rattle.std.specs.Vec.Iter.{into_iter_items}
use Rattle.drust_run.specs.Desks.{choices_at, entries_at, servers_at}
use Rattle.drust_run.proofs.seats.rise.Given as goal

-- those who rose, with those who are left, are all
abbrev pub invariant-desks : goal.invariant-desks
invariant-desks l = record {
  servers : l.servers.items ++ servers_at (into_iter_items l.desk-iterator) ≡ servers_at l.fn.desks.items;
  choices : l.choices.items ++ choices_at (into_iter_items l.desk-iterator) ≡ choices_at l.fn.desks.items;
  journal : l.journal.items ++ entries_at (into_iter_items l.desk-iterator) ≡ l.fn.journal.items ++ entries_at l.fn.desks.items;
}
