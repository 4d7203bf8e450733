-- Typed states in which acts of threads are granted: main, which has bound a number, starts a thread that captures it, or two that do; or main starts a
-- thread without captures, which ends and is joined.
use Rattle.std.specs.Prelude.{◌≡◌, false, [], ◌∷◌, None}
use Rattle.fr_base.specs.declared.label.Plain.TheVariants as plain
use Rattle.fr_base.specs.declared.step.Fresh.TheVariants as fresh
use Rattle.fr_typing.specs.Kinds.{unit, int, task, own}
use Rattle.fr_plain.specs.declared.value.Value.{Value}
use Rattle.fr_plain.specs.declared.value.Value.TheVariants.{Own}
use Rattle.fr_plain.specs.MachineActs.{do_spawn, do_join, do_par, do_par_end, unit as unit_value}
use Rattle.fr_plain.specs.MachineThreads.{Life, alive, owing, ended, Thread, Whole}
use Rattle.fr_plain.specs.Machine.{takes_of, refused_names, act_waits}
use Rattle.fr_sound.specs.Entries.{going, forked_at}
use Rattle.fr_sound.specs.States.{Typing}
use Rattle.fr_code.specs.Steps.{captured}
use Rattle.law_plain_values.specs.acts.Positions.{Position}
use Rattle.law_plain_values.specs.acts.Keeps.{Ready}
use Rattle.law_plain_values.specs.acts.Example.{position, first, main_at, alone_at, one, variable, at_hand, bound}
use Rattle.law_plain_threads.specs.threads.ThreadActs.{AtEnd}

-- where a number is bound, a thread may be started that captures it
abbrev pub with_number : Position
with_number = record { entry = going (variable int ∷ []) [] int; temps = [] }

abbrev pub StartIsReady : Type 0
StartIsReady = (y : Typing) × (refused_names (alone_at (bound int) (Own one ∷ []) [] []) (takes_of (do_spawn (captured ((0, false) ∷ [])) with_number)) (fresh.Thread 1) ≡ None)
    × Ready y (alone_at (bound int) (Own one ∷ []) [] []) (main_at (bound int) (Own one ∷ [])) (bound int) alive (do_spawn (captured ((0, false) ∷ [])) with_number) (λ (v : Value). position (variable int ∷ []) (own (task int) ∷ []) (v ∷ []))

-- or two that both capture it, while main waits
abbrev pub forked_with : Position
forked_with = record { entry = forked_at (variable int ∷ []) [] unit; temps = [] }

abbrev pub ParIsReady : Type 0
ParIsReady = (y : Typing) × (refused_names (alone_at (bound int) (Own one ∷ []) [] []) (takes_of (do_par (captured ((0, false) ∷ [])) (bound int) (captured ((0, false) ∷ [])) (bound int))) (fresh.Threads 1 2) ≡ None)
    × Ready y (alone_at (bound int) (Own one ∷ []) [] []) (main_at (bound int) (Own one ∷ [])) (bound int) alive (do_par (captured ((0, false) ∷ [])) (bound int) (captured ((0, false) ∷ [])) (bound int)) (λ (v : Value). forked_with)

-- a thread without captures, which has nothing to do
abbrev pub empty : Position
empty = record { entry = going [] [] unit; temps = [] }

abbrev pub the_task : Value
the_task = Own (plain.Task 1)

-- main has its task at hand
abbrev pub parent : Thread Position
parent = main_at (at_hand (task unit) the_task) []

abbrev pub child : Life Position → Thread Position
child l = record { number = 1; life = l; slots = [] }

abbrev pub both : Life Position → Whole Position
both l = record { threads = parent ∷ child l ∷ []; heap = []; mutexes = []; pairs = []; output = [] }

-- it may end
abbrev pub FinishIsReady : Type 0
FinishIsReady = (y : Typing) × AtEnd y (both (owing empty)) (child (owing empty)) empty unit_value

-- and then main may join it
abbrev pub JoinIsReady : Type 0
JoinIsReady = (y : Typing) × (act_waits (both (ended unit_value)) parent (do_join the_task) ≡ None) × Ready y (both (ended unit_value)) parent (at_hand (task unit) the_task) alive (do_join the_task) (λ (v : Value). at_hand unit v)

-- main waits for two threads, and nothing else is there
abbrev pub forked : Position
forked = record { entry = forked_at [] [] unit; temps = [] }

abbrev pub other : Life Position → Thread Position
other l = record { number = 2; life = l; slots = [] }

abbrev pub pair_of_two : Life Position → Life Position → Whole Position
pair_of_two l k = record { threads = main_at forked [] ∷ child l ∷ other k ∷ []; heap = []; mutexes = []; pairs = record { parent = 0; first = 1; second = 2 } ∷ []; output = [] }

-- where both have ended, main may go on
abbrev pub ParEndIsReady : Type 0
ParEndIsReady = (y : Typing) × (act_waits (pair_of_two (ended unit_value) (ended unit_value)) (main_at forked []) do_par_end ≡ None) × Ready y (pair_of_two (ended unit_value) (ended unit_value)) (main_at forked []) forked alive do_par_end (λ (v : Value). first)
