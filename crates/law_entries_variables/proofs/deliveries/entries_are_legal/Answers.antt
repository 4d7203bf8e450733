use Rattle.law_words_ends.specs.Below.law_counts_sums.Kinds.{evicts, migrates, starts, arrives, asks_lock, asks_dup, asks_join, granted, dupped, joined, unlocked, released, finished}
use Rattle.law_entries_variables.proofs.deliveries.entries_are_legal.Goals as goal
use Rattle.law_entries_variables.proofs.deliveries.LegalKinds.{kind_legal}

pub returns : goal.returns
returns c = record {
  evictions = kind_legal evicts tt tt tt;
  migrations = kind_legal migrates tt tt tt;
  starts = kind_legal starts tt tt tt;
  parcels = kind_legal arrives tt tt tt;
  locks = kind_legal asks_lock tt tt tt;
  dups = kind_legal asks_dup tt tt tt;
  joins = kind_legal asks_join tt tt tt;
  grants = kind_legal granted tt tt tt;
  shares = kind_legal dupped tt tt tt;
  results = kind_legal joined tt tt tt;
  unlocks = kind_legal unlocked tt tt tt;
  releases = kind_legal released tt tt tt;
  ends = kind_legal finished tt tt tt;
}
