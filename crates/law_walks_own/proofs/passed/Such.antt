-- What threads have passed has no copy after each event that is no step and brings no object.
use Rattle.law_copies_kept.specs.Below.server_model.Servers.{Cluster}
use Rattle.law_copies_kept.specs.Below.server_model.Clusters.{apply}
use Rattle.law_copies_kept.specs.Below.journal.View.{EntryView}
use Rattle.law_copies_kept.specs.Below.coherent_memory.Coherent.{Holds, passed_not_copied}
use Rattle.law_copies_kept.specs.Below.law_counts_sums.Kinds.{Kind}
use Rattle.law_copies_kept.specs.Below.law_counts_sums.Laws.{Gives}
use Rattle.law_walks_others.specs.Below.law_words_kept.stays.Laws.{IsOfKind}
use Rattle.law_walks_others.specs.still.Deliveries.{BringsNoObject, EachSuchEventKeeps}
use Rattle.law_walks_others.proofs.still.Sorts.{Sort, steady, moves, drops, sort_of, at_server, with_server}
use Rattle.law_walks_own.proofs.passed.Steady.{uncopied_steady}
use Rattle.law_walks_own.proofs.passed.Others.{moves_passed, drops_passed}

pub such_uncopied : EachSuchEventKeeps passed_not_copied
such_uncopied kind brings k e q coherent few = with_server (λ (d : Cluster × EntryView). Holds d.0 passed_not_copied) k e (λ s here. by kind brings q (sort_of k e s here kind brings (at_server kind k e q s here)))
  where
    by : (kind : Kind) → BringsNoObject kind → IsOfKind kind k e → Sort k e kind → Gives (λ (d : Cluster × EntryView). Holds d.0 passed_not_copied) (apply k e)
    by kind brings q (steady is) = uncopied_steady kind is brings k e q coherent few
    by _ brings q (moves w o a t d) = moves_passed w o a t k e d coherent few
    by _ brings q (drops w o d) = drops_passed w o k e d coherent few
