-- Each event that is no step and brings no object keeps what threads have passed, followed and wait for.
use Rattle.law_walks_others.specs.Below.server_model.Servers.{Cluster}
use Rattle.law_walks_others.specs.Below.server_model.Clusters.{apply}
use Rattle.law_walks_others.specs.Below.journal.View.{EntryView}
use Rattle.law_walks_others.specs.Below.coherent_memory.Coherent.{Holds, passed_lie_here, place_followed, waits_in_turn}
use Rattle.law_walks_others.specs.Below.law_counts_sums.Kinds.{Kind}
use Rattle.law_walks_others.specs.Below.law_counts_sums.Laws.{Gives}
use Rattle.law_walks_others.specs.Below.law_words_kept.stays.Laws.{IsOfKind}
use Rattle.law_walks_others.proofs.pointers.Steady.{steady_followed}
use Rattle.law_walks_others.proofs.pointers.Delivered.{moves_followed, moves_wait, drops_followed, drops_wait}
use Rattle.law_walks_others.specs.still.Deliveries.{BringsNoObject, EachSuchEventKeeps}
use Rattle.law_walks_others.proofs.still.Sorts.{Sort, steady, moves, drops, sort_of, at_server, with_server}
use Rattle.law_walks_others.proofs.still.Turn.{turn_steady}
use Rattle.law_walks_others.proofs.still.Passed.{lie_steady}
use Rattle.law_walks_others.proofs.still.Left.{move_lies, drop_lies}

pub such_followed : EachSuchEventKeeps place_followed
such_followed kind brings k e q coherent few = with_server (λ (d : Cluster × EntryView). Holds d.0 place_followed) k e (λ s here. by kind q (sort_of k e s here kind brings (at_server kind k e q s here)))
  where
    by : (kind : Kind) → IsOfKind kind k e → Sort k e kind → Gives (λ (d : Cluster × EntryView). Holds d.0 place_followed) (apply k e)
    by kind q (steady is) = steady_followed kind is k e q coherent.sound few
    by _ q (moves w o a t d) = moves_followed w o a t k e d coherent few
    by _ q (drops w o d) = drops_followed w o k e d coherent few

pub such_wait : EachSuchEventKeeps waits_in_turn
such_wait kind brings k e q coherent few = with_server (λ (d : Cluster × EntryView). Holds d.0 waits_in_turn) k e (λ s here. by kind brings q (sort_of k e s here kind brings (at_server kind k e q s here)))
  where
    by : (kind : Kind) → BringsNoObject kind → IsOfKind kind k e → Sort k e kind → Gives (λ (d : Cluster × EntryView). Holds d.0 waits_in_turn) (apply k e)
    by kind brings q (steady is) = turn_steady kind is brings k e q coherent.sound few
    by _ brings q (moves w o a t d) = moves_wait w o a t k e d coherent few
    by _ brings q (drops w o d) = drops_wait w o k e d coherent few

pub such_lie : EachSuchEventKeeps passed_lie_here
such_lie kind brings k e q coherent few = with_server (λ (d : Cluster × EntryView). Holds d.0 passed_lie_here) k e (λ s here. by kind brings q (sort_of k e s here kind brings (at_server kind k e q s here)))
  where
    by : (kind : Kind) → BringsNoObject kind → IsOfKind kind k e → Sort k e kind → Gives (λ (d : Cluster × EntryView). Holds d.0 passed_lie_here) (apply k e)
    by kind brings q (steady is) = lie_steady kind is brings k e q coherent.sound few
    by _ brings q (moves w o a t d) = move_lies k e w o a t d coherent few
    by _ brings q (drops w o d) = drop_lies k e w o d coherent few
