use Rattle.law_counts_sums.specs.Kinds.{evicts, migrates, starts, arrives, fetch, fetched, moving, moved, asks_lock, asks_dup, asks_join, granted, dupped, joined, unlocked, released, finished}
use Rattle.law_heap_still.proofs.events.events_leave_heap.Goals as goal
use Rattle.law_heap_still.proofs.events.StillKinds.{kind_leaves}

pub returns : goal.returns
returns c = record {
  evictions = kind_leaves evicts tt;
  migrations = kind_leaves migrates tt;
  starts = kind_leaves starts tt;
  parcels = kind_leaves arrives tt;
  fetches = kind_leaves fetch tt;
  copies = kind_leaves fetched tt;
  moves = kind_leaves moving tt;
  objects = kind_leaves moved tt;
  locks = kind_leaves asks_lock tt;
  dups = kind_leaves asks_dup tt;
  joins = kind_leaves asks_join tt;
  contents = kind_leaves granted tt;
  shares = kind_leaves dupped tt;
  results = kind_leaves joined tt;
  unlocks = kind_leaves unlocked tt;
  releases = kind_leaves released tt;
  ends = kind_leaves finished tt;
}
