-- From a coherent cluster: each mark of a lock stands in a slot, and each holder has few stars.
use Rattle.std.proofs.Common.{◌≡◌, List, [], ◌∷◌, refl, arith}
use Rattle.law_counts_things.specs.Below.journal.View.{EntryView}
use Rattle.law_counts_things.specs.Below.server_model.declared.event.Event.{Event}
use Rattle.law_counts_things.specs.Below.server_model.Servers.{Cluster, server_at}
use Rattle.law_counts_things.specs.Below.server_model.Clusters.{apply}
use Rattle.law_counts_things.specs.Below.coherent_memory.Names.{tot}
use Rattle.law_counts_things.specs.Below.coherent_memory.Things.{Thing, at_slot, at_temp, in_cell, borrows, locks, things_of}
use Rattle.law_counts_things.specs.Below.coherent_memory.Sharing.{loose_mark}
use Rattle.law_counts_things.specs.Below.coherent_memory.Naming.{long_holder}
use Rattle.law_counts_things.specs.Below.coherent_memory.Coherent.{Holds, IsSound, holders_short, marks_in_slots}
use Rattle.law_counts_things.specs.Below.coherent_types.ClusterTypes.{IsCoherent}
use Rattle.law_counts_things.specs.Below.law_counts_sums.Laws.{Gives, FewEvents}
use Rattle.law_counts_things.proofs.Below.law_counts_sums.Results.{weaker}
use Rattle.law_counts_things.specs.things.Laws.{EachCoherentEventKeeps}
use Rattle.law_counts_things.proofs.names.Fit.{Base}
use Rattle.law_counts_things.proofs.names.Sums.{holder_of, loose}
use Rattle.law_counts_things.proofs.names.Kept.{GoneOn, ends_as, gone_on}
use Rattle.law_counts_things.proofs.names.Sentences.{holding, no_askers, no_objects, no_going, no_copies, holders_kept, marks_kept}
use Rattle.law_counts_things.proofs.names.Coded.{stars_most, coded}

long_is : (b : List Thing) → tot long_holder b ≡ tot (holder_of stars_most) b
long_is [] = refl
long_is (x ∷ b) = omega (arith, one x, long_is b)
  where
    one : (x : Thing) → long_holder x ≡ holder_of stars_most x
    one (borrows l r) = refl
    one x = refl

loose_is : (b : List Thing) → tot loose_mark b ≡ tot (loose 1) b
loose_is [] = refl
loose_is (x ∷ b) = omega (arith, one x, loose_is b)
  where
    one : (x : Thing) → loose_mark x ≡ loose 1 x
    one (locks (at_temp t i) m) = refl
    one (locks (at_slot t i) m) = refl
    one (locks (in_cell o) m) = refl
    one x = refl

kept_by : (P : Cluster → Type 0) → ((k : Cluster) (j : Base) (c : Cluster) → GoneOn k (holding stars_most 1) j c → P c) → (k : Cluster) (e : Event) → IsCoherent k → FewEvents k → Gives (λ (x : Cluster × EntryView). P x.0) (apply k e)
kept_by P go k e coherent few =
    let sound : IsSound k = coherent.sound in
    let holders : tot long_holder (things_of k) ≡ 0 = sound.parts.holders_short in
    let marks : tot loose_mark (things_of k) ≡ 0 = sound.mutexes_and_tasks.marks_in_slots in
    weaker (λ (x : Cluster × EntryView). GoneOn k (holding stars_most 1) (ends_as k e (server_at k.servers e.server)) x.0) (λ (x : Cluster × EntryView). P x.0) (apply k e)
    (gone_on k e (holding stars_most 1) sound few (record { holders = omega (arith, holders, long_is (things_of k)); marks_none = omega (arith, marks, loose_is (things_of k)); askers = no_askers (things_of k); objects = no_objects (things_of k); lives = no_going (things_of k); copies = no_copies (things_of k); served = λ n s h i v o r t c q z. refl }) (λ s here t y i q there at on. coded k coherent e.server s here t y there i at))
    (λ x g. go k (ends_as k e (server_at k.servers e.server)) x.0 g)

pub holders_stay : EachCoherentEventKeeps holders_short
holders_stay = kept_by (λ c. Holds c holders_short) (λ k j c g. omega (arith, holders_kept k (holding stars_most 1) j c g, long_is (things_of c)))

pub marks_stay : EachCoherentEventKeeps marks_in_slots
marks_stay = kept_by (λ c. Holds c marks_in_slots) (λ k j c g. omega (arith, marks_kept k (holding stars_most 1) j c g, loose_is (things_of c)))
