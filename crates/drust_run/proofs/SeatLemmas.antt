-- Servers at their desks, one after another.
use Rattle.std.proofs.Common.{◌≡◌, ◌≤◌, ◌+◌, List, [], ◌∷◌, ◌++◌, length, refl, ap, arith}
use Rattle.std.proofs.lemmas.List.{append_assoc}
use Rattle.server_core.specs.Servers.{ServerView}
use Rattle.rand_pcg.specs.Lcg.{Lcg}
use Rattle.drust_run.specs.Desks.{AreFresh, choices_at, servers_at}
use Rattle.drust_run.specs.declared.desk.Desk.{Desk}

-- one more server comes last
pub servers_last : (ds : List Desk) (d : Desk) (vs : List ServerView) → servers_at (ds ++ d ∷ []) ++ vs ≡ servers_at ds ++ d.server ∷ vs
servers_last [] d vs = refl
servers_last (x ∷ ds) d vs = ap (λ l. x.server ∷ l) (servers_last ds d vs)

pub choices_last : (ds : List Desk) (d : Desk) (gs : List Lcg) → choices_at (ds ++ d ∷ []) ++ gs ≡ choices_at ds ++ d.choice ∷ gs
choices_last [] d gs = refl
choices_last (x ∷ ds) d gs = ap (λ l. x.choice ∷ l) (choices_last ds d gs)

pub fresh_last : (ds : List Desk) (d : Desk) → AreFresh ds → d.entries.items ≡ [] → AreFresh (ds ++ d ∷ [])
fresh_last [] d a e = (e, tt)
fresh_last (x ∷ ds) d a e = (a.0, fresh_last ds d a.1 e)

-- so it counts one
pub length_last : (ds : List Desk) (d : Desk) → length (ds ++ d ∷ []) ≡ length ds + 1
length_last [] d = omega arith
length_last (x ∷ ds) d = let rest = length_last ds d in omega (arith, rest)

-- an item that goes from the front of the rest to the end of what is done
pub moved : {X : Type 0} (xs ys : List X) (x : X) → (xs ++ x ∷ []) ++ ys ≡ xs ++ x ∷ ys
moved xs ys x = append_assoc xs (x ∷ []) ys

-- a list without items
pub nothing : {X : Type 0} (xs : List X) → length xs ≡ 0 → xs ≡ []
nothing [] e = refl
nothing (x ∷ xs) e = absurd (let bad : 1 ≤ 0 = omega (arith, e) in omega (arith, bad))
