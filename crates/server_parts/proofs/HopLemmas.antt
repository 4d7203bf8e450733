-- Acts without hops.
use Rattle.std.proofs.Common.{◌≡◌, ◌≤◌, Bool, true, false, if◌then◌else◌, List, [], ◌∷◌, ◌++◌, length, refl, ap, ◌∙◌, arith}
use Rattle.std.proofs.lemmas.List.{append_assoc}
use Rattle.journal.specs.declared.act.Act.{Act}
use Rattle.server_model.specs.Work.{is_hop, without_hops}

pub fewer_acts : (xs : List Act) → length (without_hops xs) ≤ length xs
fewer_acts [] = omega arith
fewer_acts (a ∷ xs) = by (is_hop a) (fewer_acts xs)
  where
    by : (b : Bool) → length (without_hops xs) ≤ length xs → length (if b then without_hops xs else a ∷ without_hops xs) ≤ length (a ∷ xs)
    by true h = omega (arith, h)
    by false h = omega (arith, h)

-- one act more
pub one_request : (xs : List Act) (a : Act) (rest : List Act) → (xs ++ without_hops (a ∷ [])) ++ without_hops rest ≡ xs ++ without_hops (a ∷ rest)
one_request xs a rest = append_assoc xs (without_hops (a ∷ [])) (without_hops rest) ∙ ap (λ l. xs ++ l) (by (is_hop a))
  where
    by : (b : Bool) → (if b then [] else a ∷ []) ++ without_hops rest ≡ (if b then without_hops rest else a ∷ without_hops rest)
    by true = refl
    by false = refl
