-- Steps that follow a place, whether they are done or ask.
use Rattle.std.proofs.Common.{◌≡◌, true, Option, Some, None, is_some, refl, ap}
use Rattle.law_entries_reads.specs.Below.law_words_borrows.Below.fr_base.declared.step.Fresh.{Fresh}
use Rattle.law_entries_reads.specs.Below.law_words_borrows.Below.journal.View.{EntryView}
use Rattle.law_entries_reads.specs.Below.law_words_borrows.Below.server_model.declared.event.Event.{Event}
use Rattle.law_entries_reads.specs.Below.law_words_borrows.Below.server_model.declared.event.What.TheVariants.{Step}
use Rattle.law_entries_reads.specs.Below.law_words_borrows.Below.server_model.Servers.{Cluster}
use Rattle.law_entries_reads.specs.Below.law_words_borrows.Below.server_model.Clusters.{apply}
use Rattle.law_entries_reads.proofs.Below.law_words_borrows.Below.law_counts_sums.Results.{both_give}
use Rattle.law_entries_reads.specs.asks.Asking.{AskingLegal}
use Rattle.law_entries_reads.proofs.asks.ReadKinds.{reads_legal as asks_legal}
use Rattle.law_entries_reads.proofs.asks.BorrowKinds.{shared_legal, mutable_legal}
use Rattle.law_entries_reads.specs.Below.law_entries_variables.deliveries.Entries.{LeadsOn, EntryLegal}
use Rattle.law_entries_reads.specs.Below.law_copies_kept.references.Clean.{a_copy, a_dup, a_lock}
use Rattle.law_entries_reads.proofs.served.Continuing.{goes_further}
use Rattle.law_entries_reads.specs.places.Reads as reads
use Rattle.law_entries_reads.specs.places.Reads.{DoneLegal}
use Rattle.law_entries_reads.proofs.places.EachKind.{reads_legal, borrows_legal}
use Rattle.law_entries_reads.specs.locks.Locks as of_locks
use Rattle.law_entries_reads.specs.locks.Places.{copies, dups, locks, shares, lends, PlacesLegal, PlacesGoOn}
use Rattle.law_entries_reads.proofs.locks.Locks.{locks_legal}

-- an event does a plain step or does none
pub each_legal : (k : Cluster) (e : Event) → DoneLegal k e → AskingLegal k e → EntryLegal k e
each_legal k e done asking c is_coloured =
    both_give (λ (d : Cluster × EntryView). is_some d.1.done ≡ true → LeadsOn k.options d.1 c d.0) (λ (d : Cluster × EntryView). d.1.done ≡ None → LeadsOn k.options d.1 c d.0) (λ (d : Cluster × EntryView). LeadsOn k.options d.1 c d.0) (apply k e)
    (done c is_coloured) (asking c is_coloured) (λ d f g. by d f g d.1.done refl)
  where
    by : (d : Cluster × EntryView) → (is_some d.1.done ≡ true → LeadsOn k.options d.1 c d.0) → (d.1.done ≡ None → LeadsOn k.options d.1 c d.0) → (o : Option Fresh) → d.1.done ≡ o → LeadsOn k.options d.1 c d.0
    by d f g None q = g q
    by d f g (Some names) q = f (ap is_some q)

-- by the instruction
pub places_legal : PlacesLegal
places_legal k number t s y _ co few here at code (copies w) =
    each_legal k (record { server = number; what = Step t }) (reads_legal k number t s y _ co few here at code (reads.copies w)) (asks_legal k number t s y w _ co few here at code a_copy)
places_legal k number t s y _ co few here at code (dups w) = each_legal k (record { server = number; what = Step t }) (reads_legal k number t s y _ co few here at code (reads.dups w)) (asks_legal k number t s y w _ co few here at code a_dup)
places_legal k number t s y _ co few here at code (locks w) =
    each_legal k (record { server = number; what = Step t }) (locks_legal k number t s y _ co few here at code (of_locks.locks w)) (asks_legal k number t s y w _ co few here at code a_lock)
places_legal k number t s y _ co few here at code (shares w n deep clean) =
    each_legal k (record { server = number; what = Step t }) (borrows_legal k number t s y _ co few here at code (reads.shares w n deep clean)) (shared_legal k number t s y w co few here at code)
places_legal k number t s y _ co few here at code (lends w n deep) =
    each_legal k (record { server = number; what = Step t }) (borrows_legal k number t s y _ co few here at code (reads.lends w n deep)) (mutable_legal k number t s y w co few here at code)

-- and legal journals go on
pub places_go_on : PlacesGoOn
places_go_on k number t s y i es co few here at code is l = goes_further k (record { server = number; what = Step t }) es (places_legal k number t s y i co few here at code is) l
