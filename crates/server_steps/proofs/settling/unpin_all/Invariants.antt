use Rattle.std.proofs.Common.{◌≡◌, drop}
use Rattle.migration.specs.Packing.{unpin_all}
use Rattle.server_steps.proofs.settling.unpin_all.Given as goal

abbrev pub invariant-words : goal.invariant-words
invariant-words l = record {
  state : unpin_all (drop l.word-index l.words) l.cache.state ≡ unpin_all l.words l.initial.cache.state;
  rooms : l.cache.rooms ≡ l.initial.cache.rooms;
}
