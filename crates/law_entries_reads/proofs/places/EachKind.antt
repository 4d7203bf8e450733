-- Reads and borrows through stars that are done, and that a legal journal goes on with the entry of a step that is done.
use Rattle.std.proofs.Common.{◌≡◌, true, [], ◌∷◌, ◌++◌, is_some}
use Rattle.law_copies_kept.specs.Below.journal.View.{EntryView}
use Rattle.law_copies_kept.specs.Below.server_model.Servers.{Cluster}
use Rattle.law_copies_kept.specs.Below.server_model.Clusters.{apply}
use Rattle.law_copies_kept.specs.Below.coherent_memory.LeftBy.{LeavesColoured}
use Rattle.law_copies_kept.proofs.Below.law_counts_sums.Results.{both_give}
use Rattle.law_entries_variables.specs.deliveries.Entries.{LeadsOn}
use Rattle.law_entries_reads.proofs.served.Continuing.{same_options, with_entry}
use Rattle.law_entries_reads.specs.places.Reads.{DoneStepsLegal, ReadsPlace, copies, dups, BorrowsThrough, shares, lends, DoneStepsContinue}
use Rattle.law_entries_reads.proofs.places.Copies.{copy_legal}
use Rattle.law_entries_reads.proofs.places.Dups.{dup_legal}
use Rattle.law_entries_reads.proofs.places.Shares.{share_legal}
use Rattle.law_entries_reads.proofs.places.Lends.{lend_legal}

-- copies and dups
pub reads_legal : DoneStepsLegal ReadsPlace
reads_legal k number t s y _ co few here at code (copies w) = copy_legal k number t s y w co few here at code
reads_legal k number t s y _ co few here at code (dups w) = dup_legal k number t s y w co few here at code

-- borrows
pub borrows_legal : DoneStepsLegal BorrowsThrough
borrows_legal k number t s y _ co few here at code (shares w n deep clean) = share_legal k number t s y w n deep co few here at code clean
borrows_legal k number t s y _ co few here at code (lends w n deep) = lend_legal k number t s y w n deep co few here at code

-- a legal journal goes on
pub goes_further : DoneStepsContinue
goes_further k e es legal l =
    both_give (λ (d : Cluster × EntryView). d.0.options ≡ k.options) (λ (d : Cluster × EntryView). is_some d.1.done ≡ true → LeadsOn k.options d.1 l.state d.0) (λ (d : Cluster × EntryView). is_some d.1.done ≡ true → LeavesColoured d.0 (es ++ d.1 ∷ [])) (apply k e)
    (same_options k e) (legal l.state l.stands) (λ d same leads done. with_entry k d.0 es d.1 l same (leads done))
