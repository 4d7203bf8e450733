-- All acts: each row of the typing is granted by the law of its act.
use Rattle.std.proofs.Common.{◌≡◌, true, false, List, Option, None, refl, subst}
use Rattle.fr_base.specs.declared.step.Fresh.{Fresh}
use Rattle.fr_base.specs.declared.step.Fresh.TheVariants as fresh
use Rattle.fr_plain.specs.declared.value.Value.{Value}
use Rattle.fr_plain.specs.MachineActs.{Act, do_let, do_read, do_borrow, do_assign, do_box, do_arith, do_print, do_discard, do_drop, do_spawn, do_join, do_mutex, do_dup, do_lock, do_unlock, do_par, do_par_end}
use Rattle.fr_plain.specs.MachineThreads.{Now, Move, Life, Thread, Whole}
use Rattle.fr_plain.specs.Machine.{act_waits, no_name, takes_of, refused_names}
use Rattle.fr_sound.specs.Entries.{Entry}
use Rattle.fr_sound.specs.States.{Typing}
use Rattle.fr_code.specs.Steps.{captured}
use Rattle.law_plain_values.specs.acts.Positions.{Position, moves_by, StartsAs}
use Rattle.law_plain_values.specs.acts.ActRows.{Leaves, ActRow, r_let, r_assign, r_copy, r_move, r_borrow, r_borrow_mut, r_box, r_arith, r_print, r_discard, r_drop, r_spawn, r_join, r_mutex, r_dup, r_lock, r_unlock, r_par, r_par_end}
use Rattle.law_plain_values.specs.acts.Keeps.{Ready, StepsTyped}
use Rattle.law_plain_values.proofs.acts.Numbers.{print_keeps, arith_keeps}
use Rattle.law_plain_values.proofs.acts.Borrows.{borrow_keeps, borrow_mut_keeps}
use Rattle.law_plain_values.proofs.acts.Copies.{copy_keeps}
use Rattle.law_plain_values.proofs.acts.Lets.{let_keeps}
use Rattle.law_plain_values.proofs.slots.Moves.{move_keeps}
use Rattle.law_plain_values.proofs.slots.Boxes.{box_keeps}
use Rattle.law_plain_threads.proofs.mutexes.Dups.{dup_keeps}
use Rattle.law_plain_threads.proofs.mutexes.Locks.{lock_keeps}
use Rattle.law_plain_threads.proofs.mutexes.Unlocks.{unlock_keeps}
use Rattle.law_plain_threads.proofs.mutexes.Makes.{make_keeps}
use Rattle.law_plain_threads.proofs.threads.Spawns.{spawn_keeps}
use Rattle.law_plain_threads.proofs.threads.Joins.{join_keeps}
use Rattle.law_plain_threads.proofs.threads.ParEnds.{par_end_keeps}
use Rattle.law_plain_threads.proofs.threads.Pars.{par_keeps}
use Rattle.law_plain_values.proofs.drops.Discards.{discard_keeps}
use Rattle.law_plain_values.proofs.drops.SlotDrops.{drop_slot_keeps}
use Rattle.law_plain_values.proofs.drops.References.{assign_keeps}

-- a step that takes no name has none
pub nameless : (s : Whole Position) (names : Fresh) → refused_names s no_name names ≡ None → fresh.None ≡ names
nameless s fresh.None h = refl
nameless s (fresh.Thread u) h = absurd cc
nameless s (fresh.Threads u v) h = absurd cc
nameless s (fresh.Mutex m) h = absurd cc

module _ (now : Position → Now) (move : Position → Option (Move Position Position)) (y : Typing) (s : Whole Position) (t : Thread Position) (p : Position) (wrap : Position → Life Position) (plug : Value → Position) (names : Fresh) where
  abbrev Steps : Act Position → Type 0
  Steps act = StepsTyped y (moves_by now move) s t names (record { act = act; plug = λ v. wrap (plug v) })

  -- such a step without a name
  bare : (act : Act Position) → refused_names s no_name names ≡ None → StepsTyped y (moves_by now move) s t fresh.None (record { act = act; plug = λ v. wrap (plug v) }) → Steps act
  bare act h d = subst (λ n. StepsTyped y (moves_by now move) s t n (record { act = act; plug = λ v. wrap (plug v) })) (nameless s names h) d

  by_row : {x z : Entry} {vs : List Value} {act : Act Position} {leaves : Leaves} → ActRow StartsAs x vs act leaves z → refused_names s (takes_of act) names ≡ None → act_waits s t act ≡ None → Ready y s t p wrap act plug → Steps act
  by_row (r_let {v = v} x o n) f w r = bare (do_let v) f (let_keeps now move y s t p wrap (do_let v) plug (v, refl) r)
  by_row (r_assign {v = v} {w = w} o h g k b n) f q r = bare (do_assign w v) f (assign_keeps now move y s t p wrap (do_assign w v) plug (w, v, refl) r)
  by_row (r_copy {w = w} q h c b) f o r = bare (do_read w false) f (copy_keeps now move y s t p wrap (do_read w false) plug (w, refl) r)
  by_row (r_move {w = w} q h c b o) f g r = bare (do_read w true) f (move_keeps now move y s t p wrap (do_read w true) plug (w, refl) r)
  by_row (r_borrow {w = w} q h b) f o r = bare (do_borrow w false) f (borrow_keeps now move y s t p wrap (do_borrow w false) plug (w, refl) r)
  by_row (r_borrow_mut {w = w} q h o) f g r = bare (do_borrow w true) f (borrow_mut_keeps now move y s t p wrap (do_borrow w true) plug (w, refl) r)
  by_row (r_box {v = v} o) f w r = bare (do_box v) f (box_keeps now move y s t p wrap (do_box v) plug (v, refl) r)
  by_row (r_arith {f = g} {a = a} {b = b} o q) f w r = bare (do_arith g a b) f (arith_keeps now move y s t p wrap (do_arith g a b) plug (g, a, b, refl) r)
  by_row (r_print {v = v} o) f w r = bare (do_print v) f (print_keeps now move y s t p wrap (do_print v) plug (v, refl) r)
  by_row (r_discard {v = v} o) f w r = bare (do_discard v) f (discard_keeps now move y s t p wrap (do_discard v) plug (v, refl) r)
  by_row (r_drop n k o) f w r = bare do_drop f (drop_slot_keeps now move y s t p wrap do_drop plug refl r)
  by_row (r_spawn {body = body} cs q c b) f w r = spawn_keeps now move y s t p wrap (do_spawn (captured cs) body) plug names (captured cs, body, refl) f r
  by_row (r_join {v = v} o) f w r = bare (do_join v) f (join_keeps now move y s t p wrap (do_join v) plug (v, refl) w r)
  by_row (r_mutex {v = v} o) f w r = make_keeps now move y s t p wrap (do_mutex v) plug names (v, refl) f r
  by_row (r_dup {w = w} q h b) f o r = bare (do_dup w) f (dup_keeps now move y s t p wrap (do_dup w) plug (w, refl) r)
  by_row (r_lock {w = w} name q h b n) f o r = bare (do_lock w) f (lock_keeps now move y s t p wrap (do_lock w) plug (w, refl) o r)
  by_row (r_unlock o) f w r = bare do_unlock f (unlock_keeps now move y s t p wrap do_unlock plug refl r)
  by_row (r_par {body = body} {other = other} cs ds q c d a b) f w r = par_keeps now move y s t p wrap (do_par (captured cs) body (captured ds) other) plug names (captured cs, body, captured ds, other, refl) f r
  by_row r_par_end f w r = bare do_par_end f (par_end_keeps now move y s t p wrap do_par_end plug refl w r)

  -- an act that a row grants can be done under each name of the kind that it takes that isn't in use, unless it waits, and leaves a typed state
  pub all_keep : (act : Act Position) → refused_names s (takes_of act) names ≡ None → act_waits s t act ≡ None → Ready y s t p wrap act plug → Steps act
  all_keep act f w r = by_row r.row f w r
