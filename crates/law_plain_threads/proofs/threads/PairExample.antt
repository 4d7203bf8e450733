-- A typed state in which the end of a pair is granted: main starts two threads without captures, and both end.
use Rattle.std.proofs.Common.{[], ◌∷◌, refl}
use Rattle.fr_base.specs.declared.label.Label.TheVariants as label
use Rattle.fr_base.specs.declared.step.Fresh.TheVariants as fresh
use Rattle.fr_typing.specs.Kinds.{unit}
use Rattle.fr_plain.specs.MachineActs.{do_par, unit as unit_value}
use Rattle.fr_plain.specs.MachineThreads.{alive, owing, ended}
use Rattle.fr_plain.specs.PlainState.{plain_state}
use Rattle.fr_plain.specs.declared.value.Value.{Value}
use Rattle.fr_sound.specs.Entries.{going, forked_at}
use Rattle.fr_sound.specs.States.{Typing}
use Rattle.fr_code.specs.CodeTypes.{pass_none}
use Rattle.law_plain_values.specs.acts.Positions.{PositionTypes}
use Rattle.law_plain_values.specs.acts.ActRows.{quiet, pops_unit, r_par, r_par_end, ends_as}
use Rattle.law_plain_values.specs.acts.Keeps.{is_main, Ready}
use Rattle.law_plain_values.specs.acts.Example.{first, main, begun}
use Rattle.law_plain_values.proofs.acts.Example.{print_is_ready, no_end, no_move, follows}
use Rattle.law_plain_threads.specs.threads.Example.{empty, child, other, forked, pair_of_two, ParEndIsReady}
use Rattle.law_plain_threads.proofs.threads.Pars.{par_keeps}
use Rattle.law_plain_threads.proofs.threads.Finishes.{finish_keeps}

par_ready : Ready print_is_ready.0 begun main first alive (do_par [] empty [] empty) (λ (v : Value). forked)
par_ready = record { state = print_is_ready.1.state; found = refl; goes_on = is_main; at = refl; leaves = quiet []; after = forked_at [] [] unit; row = r_par [] [] refl pass_none pass_none (refl, refl) (refl, refl); comes = λ v. refl }

started : (y : Typing) × PositionTypes y (plain_state (pair_of_two (owing empty) (owing empty)))
started = follows (record { state = pair_of_two (owing empty) (owing empty); labels = label.Start 1 ∷ label.Start 2 ∷ [] }) refl
    (par_keeps no_end no_move print_is_ready.0 begun main first alive (do_par [] empty [] empty) (λ v. forked) (fresh.Threads 1 2) ([], empty, [], empty, refl) refl par_ready)

-- both end
one_ended : (y : Typing) × PositionTypes y (plain_state (pair_of_two (ended unit_value) (owing empty)))
one_ended = follows (record { state = pair_of_two (ended unit_value) (owing empty); labels = label.End 1 ∷ [] }) refl
    (finish_keeps no_end no_move started.0 (pair_of_two (owing empty) (owing empty)) (child (owing empty)) empty unit_value (record { state = started.1; found = refl; at = refl; ends = ends_as (pops_unit refl) }))

both_ended : (y : Typing) × PositionTypes y (plain_state (pair_of_two (ended unit_value) (ended unit_value)))
both_ended = follows (record { state = pair_of_two (ended unit_value) (ended unit_value); labels = label.End 2 ∷ [] }) refl
    (finish_keeps no_end no_move one_ended.0 (pair_of_two (ended unit_value) (owing empty)) (other (owing empty)) empty unit_value (record { state = one_ended.1; found = refl; at = refl; ends = ends_as (pops_unit refl) }))

pub par_end_is_ready : ParEndIsReady
par_end_is_ready = (both_ended.0, refl, record { state = both_ended.1; found = refl; goes_on = is_main; at = refl; leaves = quiet []; after = going [] [] unit; row = r_par_end; comes = λ v. refl })
