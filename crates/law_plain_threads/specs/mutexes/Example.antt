-- Typed states in which acts at mutexes are granted: main makes a mutex of 1 and binds it, dups it or locks it, and unlocks it.
use Rattle.std.specs.Prelude.{◌≡◌, List, [], ◌∷◌, Option, Some, None}
use Rattle.fr_base.specs.declared.label.Plain.{Plain}
use Rattle.fr_base.specs.declared.label.Plain.TheVariants as plain
use Rattle.fr_base.specs.declared.name.MutexNo.{MutexNo}
use Rattle.fr_base.specs.declared.step.Fresh.TheVariants as fresh
use Rattle.fr_typing.specs.Kinds.{int, mutex, own}
use Rattle.fr_typing.specs.Checks.{with_lock}
use Rattle.fr_plain.specs.declared.value.Value.{Value}
use Rattle.fr_plain.specs.declared.value.Value.TheVariants.{Own, Held}
use Rattle.fr_plain.specs.MachineActs.{do_mutex, do_dup, do_lock, do_unlock}
use Rattle.fr_plain.specs.MachineThreads.{alive, Mutex}
use Rattle.fr_plain.specs.Machine.{takes_of, refused_names, act_waits}
use Rattle.fr_sound.specs.States.{Typing}
use Rattle.law_plain_values.specs.acts.Positions.{Position}
use Rattle.law_plain_values.specs.acts.Keeps.{Ready}
use Rattle.law_plain_values.specs.acts.Example.{first, main, begun}
use Rattle.law_plain_values.specs.acts.Example.{position, main_at, alone_at, one, variable, the_variable, at_hand, bound}

-- a mutex of 1, with one share, and a value of it
abbrev pub name : MutexNo
name = record { home = 0; count = 0 }

abbrev pub the_mutex : Value
the_mutex = Own (plain.Mutex name)

abbrev pub with_content : Option Plain → List Mutex
with_content content = record { number = name; there = Some (record { content = content; shares = 1 }) } ∷ []

-- at the start a mutex of 1 may be made under that name
abbrev pub MakeIsReady : Type 0
MakeIsReady = (y : Typing) × (refused_names begun (takes_of {P = Position} (do_mutex (Own one))) (fresh.Mutex name) ≡ None) × Ready y begun main first alive (do_mutex (Own one)) (at_hand (mutex int))

-- it is bound then, and may be dupped
abbrev pub DupIsReady : Type 0
DupIsReady = (y : Typing) × Ready y (alone_at (bound (mutex int)) (the_mutex ∷ []) [] (with_content (Some one))) (main_at (bound (mutex int)) (the_mutex ∷ [])) (bound (mutex int)) alive (do_dup the_variable) (λ (v : Value). position (variable (mutex int) ∷ []) (own (mutex int) ∷ []) (v ∷ []))

-- or locked, without waiting
abbrev pub held : Position
held = position (with_lock (variable (mutex int) ∷ []) the_variable (1 ∷ []) int) [] []

abbrev pub LockIsReady : Type 0
LockIsReady = (y : Typing) × (act_waits (alone_at (bound (mutex int)) (the_mutex ∷ []) [] (with_content (Some one))) (main_at (bound (mutex int)) (the_mutex ∷ [])) (do_lock the_variable) ≡ None)
    × Ready y (alone_at (bound (mutex int)) (the_mutex ∷ []) [] (with_content (Some one))) (main_at (bound (mutex int)) (the_mutex ∷ [])) (bound (mutex int)) alive (do_lock the_variable) (λ (v : Value). held)

-- then it may be unlocked
abbrev pub UnlockIsReady : Type 0
UnlockIsReady = (y : Typing) × Ready y (alone_at held (Own one ∷ Held name ∷ the_mutex ∷ []) [] (with_content None)) (main_at held (Own one ∷ Held name ∷ the_mutex ∷ [])) held alive do_unlock (λ (v : Value). bound (mutex int))
