-- Servers that work one after another.
use Rattle.std.proofs.Common.{◌≡◌, ℕ, ◌+◌, ◌-◌, ◌≤◌, List, [], ◌∷◌, ◌++◌, length, ap, ◌∙◌, subst, arith}
use Rattle.std.specs.Prelude.{min}
use Rattle.std.proofs.Math.Nat.{min-le_left, min-le_right, le-min}
use Rattle.rand_pcg.specs.Lcg.{Lcg}
use Rattle.journal.specs.View.{EntryView}
use Rattle.server_core.specs.Servers.{ServerView}
use Rattle.drust_run.specs.Turns.{most_in_turn, CanTakeTurn, CanTakeTurns, TakesTurn}
use Rattle.drust_run.proofs.WorkLemmas.{can_fewer, behind_before}

less_left : (quantum turns m n : ℕ) → m ≤ n → min quantum (turns - n) ≤ min quantum (turns - m)
less_left quantum turns m n more = let left = min-le_right quantum (turns - n) in le-min (min-le_left quantum (turns - n)) (omega (arith, left, more))

-- servers that can take their turns can also do so where more events were done before
turns_later : (m n : ℕ) (vs : List ServerView) (gs : List Lcg) → m ≤ n → CanTakeTurns m vs gs → CanTakeTurns n vs gs
turns_later m n [] gs more can = tt
turns_later m n (v ∷ vs) [] more can = absurd can
turns_later m n (v ∷ vs) (g ∷ gs) more can =
    (record { short = can.0.short; able = can_fewer v.code v.options (most_in_turn n v) (most_in_turn m v) v.state g (less_left v.options.quantum v.options.turns m n more) can.0.able }, turns_later m n vs gs more can.1)

longer : (before after es : List EntryView) → after ≡ before ++ es → length before ≤ length after
longer before after es is = let all = appended before es in omega (arith, ap length is, all)
  where
    appended : (xs ys : List EntryView) → length xs ≤ length (xs ++ ys)
    appended [] ys = omega arith
    appended (x ∷ xs) ys = let rest = appended xs ys in omega (arith, rest)

-- once the first has taken its turn, the others can
pub others_ready : (before after : List EntryView) (all : List ServerView) (drawn : List Lcg) (v u : ServerView) (g h : Lcg) (vs : List ServerView) (gs : List Lcg)
    → all ≡ v ∷ vs → drawn ≡ g ∷ gs → CanTakeTurns (length before) all drawn → TakesTurn before v g u h after → CanTakeTurns (length after) vs gs
others_ready before after all drawn v u g h vs gs servers choices can turn =
    let here : CanTakeTurns (length before) (v ∷ vs) (g ∷ gs) = subst (λ l. CanTakeTurns (length before) l (g ∷ gs)) servers (subst (CanTakeTurns (length before) all) choices can) in
    let done = behind_before before _ _ turn.work in
    turns_later (length before) (length after) vs gs (longer before after done.entries done.behind) here.1

-- and the first can
pub first_ready : (n : ℕ) (all : List ServerView) (drawn : List Lcg) (v : ServerView) (g : Lcg) (vs : List ServerView) (gs : List Lcg) → all ≡ v ∷ vs → drawn ≡ g ∷ gs → CanTakeTurns n all drawn → CanTakeTurn n v g
first_ready n all drawn v g vs gs servers choices can =
    let here : CanTakeTurns n (v ∷ vs) (g ∷ gs) = subst (λ l. CanTakeTurns n l (g ∷ gs)) servers (subst (CanTakeTurns n all) choices can) in here.0
