-- Typed states in which acts of threads are granted: each follows from the one before by a law.
use Rattle.std.proofs.Common.{[], ◌∷◌, refl}
use Rattle.std.specs.Prelude.{false}
use Rattle.fr_base.specs.declared.label.Label.TheVariants as label
use Rattle.fr_base.specs.declared.step.Fresh.TheVariants as fresh
use Rattle.fr_terms.specs.Terms.{Captured}
use Rattle.fr_typing.specs.Kinds.{unit, int, task, own}
use Rattle.fr_typing.specs.Captures.{by_par, captures_copy}
use Rattle.fr_plain.specs.declared.value.Value.{Value}
use Rattle.fr_plain.specs.declared.value.Value.TheVariants.{Own}
use Rattle.fr_plain.specs.MachineActs.{do_let, do_spawn, unit as unit_value}
use Rattle.fr_plain.specs.MachineThreads.{alive, owing, ended}
use Rattle.fr_plain.specs.PlainState.{plain_state}
use Rattle.fr_sound.specs.Entries.{going, forked_at}
use Rattle.fr_sound.specs.States.{Typing}
use Rattle.fr_code.specs.CodeTypes.{SlotsPass, passes, pass_none, pass_next}
use Rattle.law_plain_values.specs.acts.Positions.{PositionTypes}
use Rattle.law_plain_values.specs.acts.ActRows.{loud, quiet, pops_unit, pops_temp, r_spawn, r_join, r_par, ends_as}
use Rattle.law_plain_values.specs.acts.Keeps.{is_main, Ready}
use Rattle.law_plain_values.specs.acts.Example.{first, main, begun, alone_at, one, variable, at_hand, bound}
use Rattle.law_plain_values.proofs.acts.Example.{print_is_ready, let_is_ready, no_end, no_move, follows}
use Rattle.law_plain_values.proofs.acts.Lets.{let_keeps}
use Rattle.law_plain_threads.specs.threads.Example.{empty, child, both, StartIsReady, ParIsReady, FinishIsReady, JoinIsReady}
use Rattle.law_plain_threads.proofs.threads.Spawns.{spawn_keeps}
use Rattle.law_plain_threads.proofs.threads.Finishes.{finish_keeps}

-- THE NUMBER IS CAPTURED

bound_typed : (y : Typing) × PositionTypes y (plain_state (alone_at (bound int) (Own one ∷ []) [] []))
bound_typed = follows (record { state = alone_at (bound int) (Own one ∷ []) [] []; labels = [] }) refl (let_keeps no_end no_move let_is_ready.0 begun main first alive (do_let (Own one)) (λ v. bound int) (Own one, refl) let_is_ready.1)

named : Captured
named = record { at = 0; name = 0 ∷ [] }

pub start_is_ready : StartIsReady
unfolding named
start_is_ready = (
  bound_typed.0,
  refl,
  record {
    state = bound_typed.1;
    found = refl;
    goes_on = is_main;
    at = refl;
    leaves = loud [];
    after = going (variable int ∷ []) (own (task int) ∷ []) unit;
    row = r_spawn ((0, false) ∷ []) refl (pass_next (passes named refl (captures_copy (record { is = record { named = refl; is = refl }; becomes = refl }) refl refl refl) refl refl) pass_none) (refl, refl);
    comes = λ v. refl;
  },
)

-- by each of two threads
copied : SlotsPass by_par (variable int ∷ []) [] ((0, false) ∷ []) (variable int ∷ []) (variable int ∷ [])
unfolding named
copied = pass_next (passes named refl (captures_copy (record { is = record { named = refl; is = refl }; becomes = refl }) refl refl refl) refl refl) pass_none

pub par_is_ready : ParIsReady
par_is_ready = (
  bound_typed.0,
  refl,
  record { state = bound_typed.1; found = refl; goes_on = is_main; at = refl; leaves = quiet []; after = forked_at (variable int ∷ []) [] unit; row = r_par ((0, false) ∷ []) ((0, false) ∷ []) refl copied copied (refl, refl) (refl, refl); comes = λ v. refl },
)

-- A THREAD WITHOUT CAPTURES

spawn_ready : Ready print_is_ready.0 begun main first alive (do_spawn [] empty) (λ (v : Value). at_hand (task unit) v)
spawn_ready = record { state = print_is_ready.1.state; found = refl; goes_on = is_main; at = refl; leaves = loud []; after = going [] (own (task unit) ∷ []) unit; row = r_spawn [] refl pass_none (refl, refl); comes = λ v. refl }

started : (y : Typing) × PositionTypes y (plain_state (both (owing empty)))
started = follows (record { state = both (owing empty); labels = label.Start 1 ∷ [] }) refl (spawn_keeps no_end no_move print_is_ready.0 begun main first alive (do_spawn [] empty) (λ v. at_hand (task unit) v) (fresh.Thread 1) ([], empty, refl) refl spawn_ready)

pub finish_is_ready : FinishIsReady
finish_is_ready = (started.0, record { state = started.1; found = refl; at = refl; ends = ends_as (pops_unit refl) })

finished : (y : Typing) × PositionTypes y (plain_state (both (ended unit_value)))
finished = follows (record { state = both (ended unit_value); labels = label.End 1 ∷ [] }) refl (finish_keeps no_end no_move finish_is_ready.0 (both (owing empty)) (child (owing empty)) empty unit_value finish_is_ready.1)

pub join_is_ready : JoinIsReady
join_is_ready = (finished.0, refl, record { state = finished.1; found = refl; goes_on = is_main; at = refl; leaves = loud []; after = going [] (own unit ∷ []) unit; row = r_join (pops_temp refl); comes = λ v. refl })
