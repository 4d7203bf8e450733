-- A legal journal goes on where such an entry is legal.
use Rattle.law_runs_whole.specs.Below.law_counts_sums.Kinds.{Kind}
use Rattle.law_entries_writes.specs.Below.law_entries_reads.served.Served.{CoherentEntriesLegal}
use Rattle.law_entries_writes.proofs.Below.law_entries_reads.served.Continuing.{goes_further}
use Rattle.law_entries_events.specs.objects.Objects.{CoherentJournalGoesOn}

pub onward : (kind : Kind) → CoherentEntriesLegal kind → CoherentJournalGoesOn kind
onward kind legal k e es q coherent few l = goes_further k e es (legal k e q coherent few) l
