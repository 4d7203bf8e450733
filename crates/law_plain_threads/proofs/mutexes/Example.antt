-- Typed states in which acts at mutexes are granted: each follows from the one before by a law.
use Rattle.std.proofs.Common.{[], ◌∷◌, Some, None, refl, arith}
use Rattle.std.specs.Prelude.{pos}
use Rattle.fr_base.specs.declared.label.Label.TheVariants as label
use Rattle.fr_base.specs.declared.step.Fresh.TheVariants as fresh
use Rattle.fr_typing.specs.Kinds.{unit, int, mutex, own}
use Rattle.fr_typing.specs.Checks.{with_lock}
use Rattle.fr_plain.specs.declared.value.Value.{Value}
use Rattle.fr_plain.specs.declared.value.Value.TheVariants.{Own, Held}
use Rattle.fr_plain.specs.MachineActs.{do_let, do_mutex, do_lock}
use Rattle.fr_plain.specs.MachineThreads.{alive}
use Rattle.fr_plain.specs.PlainState.{plain_state}
use Rattle.fr_sound.specs.Entries.{going}
use Rattle.fr_sound.specs.States.{Typing}
use Rattle.law_plain_values.specs.acts.Positions.{PositionTypes}
use Rattle.law_plain_values.specs.acts.ActRows.{quiet, loud, pops_int, pops_temp, r_let, r_mutex, r_dup, r_lock, r_unlock}
use Rattle.law_plain_values.specs.acts.Keeps.{is_main, Ready}
use Rattle.law_plain_values.specs.acts.Example.{first, main, begun}
use Rattle.law_plain_values.proofs.acts.Example.{print_is_ready}
use Rattle.law_plain_values.specs.acts.Example.{main_at, alone_at, one, variable, the_variable, at_hand, bound}
use Rattle.law_plain_values.proofs.acts.Lets.{let_keeps}
use Rattle.law_plain_values.proofs.acts.Example.{no_end, no_move, follows}
use Rattle.law_plain_threads.specs.mutexes.Example.{name, the_mutex, with_content, held, MakeIsReady, DupIsReady, LockIsReady, UnlockIsReady}
use Rattle.law_plain_threads.proofs.mutexes.Makes.{make_keeps}
use Rattle.law_plain_threads.proofs.mutexes.Locks.{lock_keeps}

pub make_is_ready : MakeIsReady
make_is_ready = (print_is_ready.0, refl, record { state = print_is_ready.1.state; found = refl; goes_on = is_main; at = refl; leaves = loud []; after = going [] (own (mutex int) ∷ []) unit; row = r_mutex (pops_int (pos 1) refl); comes = λ v. refl })

made : (y : Typing) × PositionTypes y (plain_state (alone_at (at_hand (mutex int) the_mutex) [] [] (with_content (Some one))))
made = follows (record { state = alone_at (at_hand (mutex int) the_mutex) [] [] (with_content (Some one)); labels = [] }) refl (make_keeps no_end no_move make_is_ready.0 begun main first alive (do_mutex (Own one)) (at_hand (mutex int)) (fresh.Mutex name) (Own one, refl) refl make_is_ready.2)

-- the value of the mutex may be bound
let_is_ready : Ready made.0 (alone_at (at_hand (mutex int) the_mutex) [] [] (with_content (Some one))) (main_at (at_hand (mutex int) the_mutex) []) (at_hand (mutex int) the_mutex) alive (do_let the_mutex) (λ (v : Value). bound (mutex int))
let_is_ready = record { state = made.1; found = refl; goes_on = is_main; at = refl; leaves = quiet []; after = going (variable (mutex int) ∷ []) [] unit; row = r_let (0 ∷ []) (pops_temp refl) refl; comes = λ v. refl }

bound_typed : (y : Typing) × PositionTypes y (plain_state (alone_at (bound (mutex int)) (the_mutex ∷ []) [] (with_content (Some one))))
bound_typed = follows (record { state = alone_at (bound (mutex int)) (the_mutex ∷ []) [] (with_content (Some one)); labels = [] }) refl
    (let_keeps no_end no_move made.0 (alone_at (at_hand (mutex int) the_mutex) [] [] (with_content (Some one))) (main_at (at_hand (mutex int) the_mutex) []) (at_hand (mutex int) the_mutex) alive (do_let the_mutex) (λ v. bound (mutex int)) (the_mutex, refl) let_is_ready)

pub dup_is_ready : DupIsReady
dup_is_ready = (bound_typed.0, record { state = bound_typed.1; found = refl; goes_on = is_main; at = refl; leaves = loud []; after = going (variable (mutex int) ∷ []) (own (mutex int) ∷ []) unit; row = r_dup refl (record { named = refl; short = omega arith; is = refl }) refl; comes = λ v. refl })

pub lock_is_ready : LockIsReady
lock_is_ready = (bound_typed.0, refl, record { state = bound_typed.1; found = refl; goes_on = is_main; at = refl; leaves = quiet []; after = going (with_lock (variable (mutex int) ∷ []) the_variable (1 ∷ []) int) [] unit; row = r_lock (1 ∷ []) refl (record { named = refl; short = omega arith; is = refl }) refl refl; comes = λ v. refl })

locked : (y : Typing) × PositionTypes y (plain_state (alone_at held (Own one ∷ Held name ∷ the_mutex ∷ []) [] (with_content None)))
locked = follows (record { state = alone_at held (Own one ∷ Held name ∷ the_mutex ∷ []) [] (with_content None); labels = label.Lock name ∷ [] }) refl
    (lock_keeps no_end no_move lock_is_ready.0 (alone_at (bound (mutex int)) (the_mutex ∷ []) [] (with_content (Some one))) (main_at (bound (mutex int)) (the_mutex ∷ [])) (bound (mutex int)) alive (do_lock the_variable) (λ v. held) (the_variable, refl) refl lock_is_ready.2)

pub unlock_is_ready : UnlockIsReady
unlock_is_ready = (locked.0, record { state = locked.1; found = refl; goes_on = is_main; at = refl; leaves = quiet []; after = going (variable (mutex int) ∷ []) [] unit; row = r_unlock refl; comes = λ v. refl })
