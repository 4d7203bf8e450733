-- What a refusal means (this project's rule).
use Rattle.std.specs.Prelude.{◌≡◌, ℕ, Some, None}
use Rattle.fr_base.specs.declared.step.Fresh.{Fresh}
use Rattle.fr_plain.specs.MachineThreads.{Moves, Whole}
use Rattle.fr_plain.specs.Machine.{Refusal, refused, step}

-- a step that is refused is no plain step, whatever the places of threads are
abbrev pub RefusedIsNoStep : {P : Type 0} → Moves P → Type 0
RefusedIsNoStep {P} ms = (s : Whole P) (t : ℕ) (names : Fresh) (why : Refusal) → refused ms s t names ≡ Some why → step ms s t names ≡ None
