use Rattle.std.proofs.Common.{◌≡◌, ◌≤◌, ◌+◌, ◌++◌, length}
use Rattle.std.specs.Vec.Iter.{into_iter_items}
use Rattle.drust_run.specs.Desks.{AreFresh, choices_at, servers_at}
use Rattle.drust_run.proofs.seats.seat.Given as goal

-- those at their desks, with those who are left, are all
abbrev pub invariant-servers : goal.invariant-servers
invariant-servers l = record {
  servers : servers_at l.desks.items ++ into_iter_items l.server-iterator ≡ l.fn.servers.items;
  choices : choices_at l.desks.items ++ into_iter_items l.choices ≡ l.fn.choices.items;
  as_many : length (into_iter_items l.choices) ≡ length (into_iter_items l.server-iterator);
  few : length l.desks.items + length (into_iter_items l.server-iterator) ≤ 64;
  fresh : AreFresh l.desks.items;
}
