use Rattle.std.proofs.Common.{◌≡◌, drop}
use Rattle.migration.specs.Packing.{unpin_all, pinned_words}
use Rattle.migration.proofs.PinLemmas.{done_to}
use Rattle.migration.proofs.packing.unpin_values.Given as goal

abbrev pub invariant-values : goal.invariant-values
invariant-values l = record {
  values : l.values.items ≡ done_to l.at l.initial.values.items;
  state : unpin_all (pinned_words (drop l.at l.initial.values.items)) l.cache.state ≡ unpin_all (pinned_words l.initial.values.items) l.initial.cache.state;
  rooms : l.cache.rooms ≡ l.initial.cache.rooms;
}
