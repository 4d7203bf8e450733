-- Equal plain states have equal steps, runs, waits and endings, whatever the places of threads are (this project's rule).
use Rattle.std.specs.Prelude.{◌≡◌, ⊤, ℕ, List, [], ◌∷◌, Option, Some, None}
use Rattle.fr_base.specs.declared.step.Fresh.{Fresh}
use Rattle.fr_base.specs.declared.step.Wait.{Wait}
use Rattle.fr_plain.specs.MachineThreads.{Moves, Thread, Whole, thread_at}
use Rattle.fr_plain.specs.Machine.{Stepped, Turn, step, run, refused, waits_for, ending_of}
use Rattle.fr_plain.specs.PlainState.{SameState, plain_state}

module _ {P : Type 0} where
  -- neither leads on without the other: the same labels, and states that are the same
  abbrev pub SameStepped : Option (Stepped P) → Option (Stepped P) → Type 0
  SameStepped None None = ⊤
  SameStepped (Some x) (Some y) = (x.labels ≡ y.labels) × SameState (plain_state x.state) (plain_state y.state)
  SameStepped _ _ = ⊥

  -- no thread is listed twice
  abbrev pub IsListedOnce : List (Thread P) → Type 0
  IsListedOnce [] = ⊤
  IsListedOnce (x ∷ xs) = (thread_at xs x.number ≡ None) × IsListedOnce xs

  -- where something leads on, so it is there
  abbrev pub OnceLed : Option (Stepped P) → Type 0
  OnceLed None = ⊤
  OnceLed (Some d) = IsListedOnce d.state.threads

module _ {P : Type 0} (ms : Moves P) where
  abbrev pub waits_in : Whole P → Option (Thread P) → Option Wait
  waits_in s None = None
  waits_in s (Some x) = waits_for ms s x

  -- what the thread of a name waits for
  abbrev pub waits_at : Whole P → ℕ → Option Wait
  waits_at s t = waits_in s (thread_at s.threads t)

  -- what states that are the same have in common
  pub record Agree (s c : Whole P) : Type 0 where
    pub steps : (t : ℕ) (names : Fresh) → SameStepped (step ms s t names) (step ms c t names)
    pub runs : (order : List Turn) → SameStepped (run ms s order) (run ms c order)
    pub waits : (t : ℕ) → waits_at s t ≡ waits_at c t
    pub refusals : (t : ℕ) (names : Fresh) → refused ms s t names ≡ refused ms c t names
    -- in a run no thread is listed twice
    pub endings : IsListedOnce s.threads → IsListedOnce c.threads → ending_of ms s ≡ ending_of ms c

  -- a run lists no thread twice
  abbrev pub OnceStays : Type 0
  OnceStays = (s : Whole P) → IsListedOnce s.threads → (order : List Turn) → OnceLed (run ms s order)

  -- the law
  abbrev pub SamePlain : Type 0
  SamePlain = (s c : Whole P) → SameState (plain_state s) (plain_state c) → Agree s c
