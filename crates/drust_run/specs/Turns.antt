-- Servers that work one after another, each where it is (this project's own).
use Rattle.std.specs.Prelude.{◌≡◌, ◌≤◌, ◌^◌, ⊤, ℕ, ◌-◌, min, List, [], ◌∷◌, ◌++◌, length, Some, option_map}
use Rattle.rand_pcg.specs.Lcg.{Lcg}
use Rattle.journal.specs.View.{EntryView}
use Rattle.server_core.specs.Servers.{ServerView}
use Rattle.drive_model.specs.Rounds.{Worked, work}
use Rattle.law_runs_rounds.specs.rounds.Working.{CanWork}

-- the same with entries before
abbrev pub with_before : List EntryView → Worked → Worked
with_before es w = record w { entries = es ++ w.entries }

-- how many events a server may do in its turn, where so many were done before: a quantum, and no more than are left
abbrev pub most_in_turn : ℕ → ServerView → ℕ
most_in_turn n v = min v.options.quantum (v.options.turns - n)

-- it can do them
pub record CanTakeTurn (n : ℕ) (v : ServerView) (g : Lcg) : Type 0 where
  pub short : length v.code ≤ 2 ^ 30
  pub able : CanWork v.code v.options (most_in_turn n v) v.state g

-- each can, with its generator
abbrev pub CanTakeTurns : ℕ → List ServerView → List Lcg → Type 0
CanTakeTurns n [] gs = ⊤
CanTakeTurns n (v ∷ vs) [] = ⊥
CanTakeTurns n (v ∷ vs) (g ∷ gs) = CanTakeTurn n v g × CanTakeTurns n vs gs

-- a server did its work, and its entries stand behind those before
pub record TakesTurn (before : List EntryView) (v : ServerView) (g : Lcg) (u : ServerView) (h : Lcg) (after : List EntryView) : Type 0 where
  pub work : option_map (with_before before) (work v.code v.options (most_in_turn (length before) v) v.state g) ≡ Some (record { server = u.state; generator = h; entries = after })
  pub code : u.code ≡ v.code
  pub options : u.options ≡ v.options

-- one did, and then the others
pub record TakesTurnThen (others : List EntryView → Type 0) (before : List EntryView) (v : ServerView) (g : Lcg) (u : ServerView) (h : Lcg) : Type 0 where
  pub between : List EntryView
  pub first : TakesTurn before v g u h between
  pub then : others between

-- each did, one after another
abbrev pub TakeTurns : List EntryView → List ServerView → List Lcg → List ServerView → List Lcg → List EntryView → Type 0
TakeTurns before [] gs us hs after = (us ≡ []) × (hs ≡ gs) × (after ≡ before)
TakeTurns before (v ∷ vs) (g ∷ gs) (u ∷ us) (h ∷ hs) after = TakesTurnThen (λ between. TakeTurns between vs gs us hs after) before v g u h
TakeTurns before vs gs us hs after = ⊥
