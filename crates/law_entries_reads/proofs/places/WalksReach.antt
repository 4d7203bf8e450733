-- A place that is read, for whoever reads.
use Rattle.std.proofs.Common.{refl, subst}
use Rattle.law_copies_kept.specs.Below.server_model.declared.event.What.TheVariants.{Step}
use Rattle.law_copies_kept.proofs.Below.law_counts_sums.Bags.{thread_number}
use Rattle.law_copies_kept.proofs.Below.law_words_borrows.Below.law_heap_steps.turns.Events.{AtStep}
use Rattle.law_entries_reads.specs.places.Walks.{WalksReach}
use Rattle.law_entries_reads.proofs.places.Still.{Walked, Reaches}
use Rattle.law_entries_reads.proofs.places.Walk.{stars_reached}

-- whoever reads
pub walks_reach : WalksReach
walks_reach k number t s y i w n m co here at on code reads le c is_coloured h p v is there =
    let a : AtStep k (record { server = number; what = Step t }) i s t y = record { here = here; at = at; number = thread_number s.threads t y at; on = on; code = code; what = refl } in
    let q : Walked k.options c s y h p = subst (Reaches k.options c s y) is (stars_reached k co (record { server = number; what = Step t }) i s t y a c is_coloured w n reads m le) v there in
    record { acts = q.still.acts; loads = q.still.labels.1; there = q.reached.1 }
