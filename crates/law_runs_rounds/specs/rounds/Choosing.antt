-- WHAT A DRIVER CHOOSES (this project's rule): an eviction where the cache holds more words than it is to keep, and the move of a thread that hasn't moved since its last plain step.
use Rattle.std.specs.Prelude.{◌≡◌, ◌<◌, ⊤, List, [], ◌∷◌, length, Some}
use Rattle.law_runs_whole.specs.Below.fr_base.declared.settings.Options.{Options}
use Rattle.law_runs_whole.specs.Below.journal.View.{EntryView}
use Rattle.law_runs_whole.specs.Below.server_model.declared.event.Event.{Event}
use Rattle.law_runs_whole.specs.Below.server_model.declared.event.What.{What}
use Rattle.law_runs_whole.specs.Below.server_model.declared.event.What.TheVariants.{Step, Deliver, Evict, Migrate}
use Rattle.law_runs_whole.specs.Below.server_model.Servers.{Server, Cluster, server_at}
use Rattle.law_runs_whole.specs.Below.server_model.Questions.{movable}
use Rattle.law_runs_whole.specs.Below.server_model.Clusters.{apply}
use Rattle.law_runs_whole.specs.Below.law_counts_sums.Laws.{Gives}

-- of an event at a server
abbrev pub IsChosen : Options → Server → What → Type 0
IsChosen o s (Step t) = ⊤
IsChosen o s (Deliver i) = ⊤
IsChosen o s (Evict w) = o.cache < length s.rest.cache
IsChosen o s (Migrate t target) = movable s ≡ Some t

abbrev pub IsChosenIn : Cluster → Event → Type 0
IsChosenIn k e = (s : Server) → server_at k.servers e.server ≡ Some s → IsChosen k.options s e.what

-- of events one after another, each in the cluster to which those before it lead
abbrev pub AreChosen : List Event → Cluster → Type 0
AreChosen [] k = ⊤
AreChosen (e ∷ es) k = IsChosenIn k e × Gives (λ (d : Cluster × EntryView). AreChosen es d.0) (apply k e)
