use Rattle.law_words_borrows.specs.Below.law_counts_sums.Kinds.{evicts, migrates, starts, arrives, fetch, fetched, asks_lock, granted, unlocked, asks_dup, dupped, released, asks_join, joined, finished, step_print, step_arith, step_par_end}
use Rattle.law_copies_kept.proofs.copies.copies_stay.Goals as goal
use Rattle.law_copies_kept.proofs.copies.KeptCopies.{keep_copies}

pub returns : goal.returns
returns c = record {
  evictions = keep_copies evicts tt;
  migrations = keep_copies migrates tt;
  starts = keep_copies starts tt;
  parcels = keep_copies arrives tt;
  fetches = keep_copies fetch tt;
  copies = keep_copies fetched tt;
  locks = keep_copies asks_lock tt;
  grants = keep_copies granted tt;
  unlocks = keep_copies unlocked tt;
  dups = keep_copies asks_dup tt;
  shares = keep_copies dupped tt;
  releases = keep_copies released tt;
  joins = keep_copies asks_join tt;
  results = keep_copies joined tt;
  ends = keep_copies finished tt;
  prints = keep_copies step_print tt;
  arithmetic = keep_copies step_arith tt;
  pairs = keep_copies step_par_end tt;
}
