-- Steps of an order, and where it stops.
use Rattle.std.specs.Prelude.{◌≡◌, ℕ, List, [], ◌∷◌, ⊤, Some, None}
use Rattle.fr_base.specs.declared.label.Label.{Label}
use Rattle.fr_terms.specs.Terms.{Term}
use Rattle.fr_plain.specs.Whole.{Whole, Turn, run}
use Rattle.fr_meaning.specs.declared.error.StepError.{StepError}
use Rattle.fr_meaning.specs.declared.error.StepError.TheVariants as error
use Rattle.journal.specs.declared.order.OrderLine.{OrderLine}
use Rattle.journal.specs.OrderText.{IsRefused}
use Rattle.replay_answers.specs.Replay.{source_length, behind_source, turns, IsNoStep, IsBadBehind}
use Rattle.source_front.specs.declared.refused.Refused.{Refused}
use Rattle.source_front.specs.declared.refused.Refused.TheVariants.{Order, NoMemory}

-- these steps lead from one state to another
pub record Follows (from : Whole) (order : List Turn) (to : Whole) : Type 0 where
  pub labels : List Label
  pub is : run from order ≡ Some (record { state = to; labels = labels })

-- what a refusal of a step says of an order whose line starts there
abbrev pub IsStop : StepError → ℕ → Refused → Type 0
IsStop error.NoMemory place why = why ≡ NoMemory
IsStop e place why = why ≡ Order place

-- the steps of a line are not all plain steps, so that its order is refused there; of want of memory nothing is said
abbrev pub IsStopped : Whole → OrderLine → Refused → Type 0
IsStopped s line (Order place) = (place ≡ line.place) × (run s (turns (line ∷ [])) ≡ None)
IsStopped s line NoMemory = ⊤
IsStopped s line why = ⊥

-- the same of the lines of an order
abbrev pub IsStoppedIn : Whole → List OrderLine → Refused → Type 0
IsStoppedIn s lines (Order place) = IsNoStep s lines place
IsStoppedIn s lines NoMemory = ⊤
IsStoppedIn s lines why = ⊥

-- what stands behind a source is no order, whatever its program is
abbrev pub IsUnordered : List ℕ → Refused → Type 0
IsUnordered bytes (Order place) = (t : Term) → IsBadBehind t (source_length bytes) (behind_source bytes) place
IsUnordered bytes NoMemory = ⊤
IsUnordered bytes why = ⊥

-- a fault of an order's lines from a byte on
abbrev pub AreNoLines : ℕ → List ℕ → Refused → Type 0
AreNoLines from order (Order place) = IsRefused from order place
AreNoLines from order NoMemory = ⊤
AreNoLines from order why = ⊥
