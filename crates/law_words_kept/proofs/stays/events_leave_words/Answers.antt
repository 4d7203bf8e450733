use Rattle.law_counts_sums.specs.Kinds.{evicts, migrates, starts, arrives, fetch, fetched, asks_lock, granted, unlocked, asks_dup, dupped, released, asks_join, joined, finished}
use Rattle.law_words_kept.proofs.stays.events_leave_words.Goals as goal
use Rattle.law_words_kept.proofs.stays.StayKinds.{kind_stays}

pub returns : goal.returns
returns c = record {
  evictions = kind_stays evicts tt;
  migrations = kind_stays migrates tt;
  starts = kind_stays starts tt;
  parcels = kind_stays arrives tt;
  fetches = kind_stays fetch tt;
  copies = kind_stays fetched tt;
  locks = kind_stays asks_lock tt;
  grants = kind_stays granted tt;
  unlocks = kind_stays unlocked tt;
  dups = kind_stays asks_dup tt;
  shares = kind_stays dupped tt;
  releases = kind_stays released tt;
  joins = kind_stays asks_join tt;
  results = kind_stays joined tt;
  ends = kind_stays finished tt;
}
