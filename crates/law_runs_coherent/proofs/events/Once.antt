-- Each event leaves each thing standing once: by sentences of which each is kept without types.
use Rattle.coherent_memory.specs.Below.journal.View.{EntryView}
use Rattle.coherent_memory.specs.Below.server_model.Servers.{Cluster}
use Rattle.coherent_memory.specs.Below.server_model.Clusters.{apply}
use Rattle.coherent_memory.specs.Things.{things_of}
use Rattle.coherent_memory.specs.Coherent.{Holds, at_their_home, parts_are_typed}
use Rattle.law_counts_sums.specs.Laws.{OneResult}
use Rattle.law_counts_sums.specs.Sums.{Sums}
use Rattle.law_counts_sums.proofs.Results.{both_give}
use Rattle.law_counts_sums.proofs.Sending.{applied_part}
use Rattle.law_counts_sums.proofs.TurnEvents.{asking_applied, result_once}
use Rattle.law_counts_things.specs.things.Laws.{EachEventKeeps}
use Rattle.law_counts_things.proofs.things.Homes.{homes_stay}
use Rattle.law_counts_waiting.specs.contents.Contents.{OneContent}
use Rattle.law_counts_waiting.proofs.contents.Contents.{each_leaves}
use Rattle.law_types_events.specs.Below.law_types_still.heap.Counted.{HasNumbers}
use Rattle.law_types_events.proofs.sorts.Each.{also, numbers_kept}
use Rattle.law_types_events.specs.Below.law_types_still.fits.Fits.{StandsOnce}
use Rattle.law_runs_coherent.specs.events.Types.{EventsStandOnce}

abbrev D : Type 0
D = Cluster × EntryView

pub stand_once : EachEventKeeps parts_are_typed → EventsStandOnce
stand_once parts k e co few =
    let x = apply k e in
    let sums = applied_part (λ (c : Cluster). Sums (things_of c)) (λ c g. g) k e co.sound few in
    let numbers = also (λ (d : D). Sums (things_of d.0)) (λ (d : D). HasNumbers d.0) x sums (numbers_kept k e co few) in
    let homes = also (λ (d : D). Holds d.0 at_their_home) (λ (d : D). Holds d.0 parts_are_typed) x (homes_stay k e co.sound few) (parts k e co.sound few) in
    let results = also (λ (d : D). OneContent d.0) (λ (d : D). OneResult d.0) x (each_leaves k e co few) (asking_applied OneResult result_once k e co.sound few) in
    both_give (λ (d : D). Sums (things_of d.0) × HasNumbers d.0) (λ (d : D). (Holds d.0 at_their_home × Holds d.0 parts_are_typed) × (OneContent d.0 × OneResult d.0)) (λ (d : D). StandsOnce d.0) x numbers
    (also (λ (d : D). Holds d.0 at_their_home × Holds d.0 parts_are_typed) (λ (d : D). OneContent d.0 × OneResult d.0) x homes results)
    (λ d a b. record {
      numbers = a.1;
      home_of_each = a.0.home_of_each;
      owner_of_each = a.0.owner_of_each;
      at_their_home = b.0.0;
      one_content = b.1.0;
      one_result = b.1.1;
      parts_are_typed = b.0.1;
    })
