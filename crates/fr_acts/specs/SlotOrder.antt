-- A vector has its newest item last, and the definitions see the newest first.
use Rattle.std.specs.Prelude.{List, [], ◌∷◌}

module _ {A : Type 0} where
  abbrev pub onto : List A → List A → List A
  onto es [] = es
  onto es (x ∷ xs) = onto (x ∷ es) xs

  -- the last item first
  abbrev pub newest_first : List A → List A
  newest_first xs = onto [] xs
