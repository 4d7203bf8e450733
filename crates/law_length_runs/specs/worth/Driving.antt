-- HOW LONG A DRIVEN RUN GETS (this project's rules): a thread does a plain step between two moves.
use Rattle.std.specs.Prelude.{◌≡◌, ◌≤◌, ℕ, ◌+◌, ◌*◌, true, is_some, List, [], ◌∷◌, length}
use Rattle.law_runs_coherent.specs.Below.fr_base.Lists.{tot, one}
use Rattle.law_runs_coherent.specs.Below.fr_base.declared.instruction.Instr.{Instr}
use Rattle.law_runs_coherent.specs.Below.fr_base.declared.settings.Options.{Options}
use Rattle.law_runs_coherent.specs.Below.journal.View.{EntryView}
use Rattle.law_runs_coherent.specs.Below.coloured_heap.Driven.{departing, resting, is_driven}
use Rattle.law_runs_coherent.specs.Below.server_model.declared.event.Event.{Event}
use Rattle.law_runs_coherent.specs.Below.server_model.declared.event.What.{What}
use Rattle.law_runs_coherent.specs.Below.server_model.declared.event.What.TheVariants.{Step}
use Rattle.law_runs_coherent.specs.Below.server_model.Servers.{start_of}
use Rattle.law_runs_coherent.specs.Below.law_counts_sums.Laws.{Gives}
use Rattle.law_length_runs.specs.worth.Credit.{begun}
use Rattle.law_length_runs.specs.worth.Spending.{After, after_all}

-- the steps of threads among events, done or not
abbrev pub is_step : What → ℕ
is_step (Step t) = 1
is_step w = 0

abbrev pub steps_in : List Event → ℕ
steps_in es = tot (λ (e : Event). is_step e.what) es

-- how many plain steps a journal has, and how many moves of threads
abbrev pub plain_steps : List EntryView → ℕ
plain_steps es = tot (λ (e : EntryView). one (is_some e.done)) es

abbrev pub moves_in : List EntryView → ℕ
moves_in es = tot (λ (e : EntryView). length (departing e.acts)) es

-- the threads that moved and did no plain step since, at the end of a journal, where these did before it
abbrev pub resting_after : List ℕ → List EntryView → List ℕ
resting_after moved [] = moved
resting_after moved (e ∷ es) = resting_after (resting e moved) es

-- a driven journal moves as many threads at most as it has plain steps, and those that rest at its end
abbrev pub DrivenMoveFew : Type 0
DrivenMoveFew = (o : Options) (es : List EntryView) → is_driven o es ≡ true → moves_in es ≤ plain_steps es + length (resting_after [] es)

-- so a driven run has at most four entries for each step of a thread, done or not, two more for each plain step, five for each thread that it starts, two for
-- each that rests at its end, and two
abbrev pub DrivenRunsAreShort : Type 0
DrivenRunsAreShort =
    (code : List Instr) (o : Options) (es : List Event)
    → Gives (λ (x : After). is_driven o x.journal ≡ true → length x.journal ≤ 4 * steps_in es + 2 * plain_steps x.journal + 5 * begun x.cluster + 2 * length (resting_after [] x.journal) + 2) (after_all es (start_of code o))
