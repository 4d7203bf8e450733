-- A pool at the start of a source's program has few steps left.
use Rattle.std.proofs.Common.{◌≡◌, ℕ, ◌<◌, ◌≤◌, ◌^◌, List, length, sym, ap, subst, arith}
use Rattle.fr_plain.specs.Run.{Run, alive, settle, life_left}
use Rattle.fr_plain.specs.Whole.{Whole, start}
use Rattle.fr_plain.specs.Resolve.{program}
use Rattle.fr_meaning.specs.PoolView.{View, whole_of, total_left, steps_left_of}
use Rattle.fr_terms.specs.Terms.{Term}
use Rattle.source_front.specs.Typed.{IsTyped}
use Rattle.replay_answers.proofs.FewSteps.{few_steps}

-- a pool at the start of a term has that term's steps left
pub left_at_start : (v : View) (r : Run) → whole_of v ≡ start r → steps_left_of v ≡ life_left (alive (settle r))
left_at_start v r h = omega (arith, ap (λ (w : Whole). total_left w.threads) h)

-- a pool at the start of a source's program has fewer steps left than a counter can hold
pub few_at_start : (bytes : List ℕ) (t : Term) (v : View) → IsTyped bytes t → length bytes ≤ 1048576 → whole_of v ≡ start (program t) → steps_left_of v < 2 ^ 64
few_at_start bytes t v typed size h = subst (λ (n : ℕ). n < 2 ^ 64) (sym (left_at_start v (program t) h)) (few_steps bytes t typed.source size)
