-- HOW MANY MESSAGES WAIT: those that acts send, without those that were delivered (this project's rule).
use Rattle.std.specs.Prelude.{◌≡◌, ◌+◌, [], ◌∷◌}
use Rattle.law_counts_things.specs.Below.journal.View.{EntryView}
use Rattle.law_counts_things.specs.Below.coloured_heap.Sends.{all_messages}
use Rattle.law_counts_things.specs.Below.coloured_heap.Figures.{deliveries}
use Rattle.law_counts_things.specs.Below.server_model.declared.event.Event.{Event}
use Rattle.law_counts_things.specs.Below.server_model.Servers.{Cluster}
use Rattle.law_counts_things.specs.Below.server_model.Clusters.{apply}
use Rattle.law_counts_things.specs.Below.coherent_memory.Sight.{sight}
use Rattle.law_counts_things.specs.Below.coherent_memory.Coherent.{IsSound}
use Rattle.law_counts_things.specs.Below.coherent_memory.LeftBy.{messages_of}
use Rattle.law_counts_things.specs.Below.law_counts_sums.Laws.{Gives, FewEvents}

-- whatever event from a sound cluster in which few were done, with its messages handed over: the messages that wait afterwards, and the one that it delivers, are together as many as those that
-- waited before and those that its acts send
abbrev pub EventsCountMessages : Type 0
EventsCountMessages = (k : Cluster) (e : Event) → IsSound k → FewEvents k → Gives (λ (d : Cluster × EntryView). messages_of (sight d.0) + deliveries (d.1 ∷ []) ≡ messages_of (sight k) + all_messages (d.1 ∷ [])) (apply k e)
