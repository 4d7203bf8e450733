-- RANKS: going on along steps comes to an end where a rank falls on each of them (well-founded relations, over a list of steps).
use Rattle.std.specs.Prelude.{ℕ, zero, suc, ◌<◌, Bool, true, false, not, ◌&&◌, ◌||◌, List, [], ◌∷◌, ◌++◌, length}
use Rattle.std.specs.List.{AllByRecursion}
use Rattle.coherent_memory.specs.Names.{tot, other}

pub record Step (N : Type 0) : Type 0 where
  pub from : N
  pub to : N

-- the steps that each of these gives
abbrev pub steps_of : {A N : Type 0} → (A → List (Step N)) → List A → List (Step N)
steps_of f [] = []
steps_of f (x ∷ xs) = f x ++ steps_of f xs

abbrev pub Falls : {N : Type 0} → (N → ℕ) → List (Step N) → Type 0
Falls {N} rank es = AllByRecursion (λ (e : Step N). rank e.to < rank e.from) es

-- going on along these steps comes to an end, whichever of several is taken
pub record Ends {N : Type 0} (es : List (Step N)) : Type 0 where
  pub rank : N → ℕ
  pub falls : Falls rank es

-- THE SAME BY COUNTING

abbrev pub all_from : {N : Type 0} → (N → N → Bool) → (N → Bool) → N → List (Step N) → Bool
all_from same go n [] = true
all_from same go n (e ∷ es) = (not (same e.from n) || go e.to) && all_from same go n es

abbrev pub ends_by : {N : Type 0} → ℕ → (N → N → Bool) → List (Step N) → N → Bool
ends_by zero same es n = false
ends_by (suc k) same es n = all_from same (ends_by k same es) n es

-- how many of the steps begin a way without an end: one that doesn't go round isn't longer than there are steps
abbrev pub endless : {N : Type 0} → (N → N → Bool) → List (Step N) → ℕ
endless {N} same es = tot (λ (e : Step N). other (ends_by (suc (length es)) same es e.from)) es
