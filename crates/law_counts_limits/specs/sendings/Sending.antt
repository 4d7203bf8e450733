-- WHAT AN EVENT SENDS is what its acts send (this project's rule).
use Rattle.std.specs.Prelude.{◌≡◌, ℕ, Some}
use Rattle.law_counts_things.specs.Below.journal.View.{EntryView}
use Rattle.law_counts_things.specs.Below.server_model.declared.event.What.{What}
use Rattle.law_counts_things.specs.Below.server_model.Servers.{Server, Cluster, server_at}
use Rattle.law_counts_things.specs.Below.server_model.Events.{does}
use Rattle.law_counts_things.specs.Below.coherent_memory.Appended.{AppendsSendings}
use Rattle.law_counts_things.specs.Below.coherent_memory.Coherent.{IsSound}
use Rattle.law_counts_things.specs.Below.law_counts_sums.Laws.{Gives}

-- whatever event at a server of a sound cluster: its messages are those of its entry's acts, in order
abbrev pub EventsSendTheirActs : Type 0
EventsSendTheirActs = (k : Cluster) (number : ℕ) (s : Server) (what : What) → IsSound k → server_at k.servers number ≡ Some s → Gives (λ (d : Server × EntryView). AppendsSendings what s d.0 d.1.acts) (does k.code k.options s what)
