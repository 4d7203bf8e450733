-- Places in a code under other names move alike; and what threads wait for, and how a state ends.
use Rattle.std.proofs.Common.{◌≡◌, ℕ, ◌&&◌, ◌||◌, is_some, List, [], ◌∷◌, Option, Some, None, refl, ap, ◌∙◌}
use Rattle.std.specs.Prelude.{slice_get, if◌then◌else◌}
use Rattle.std.specs.Option.{option_map}
use Rattle.fr_base.specs.declared.name.MutexNo.{MutexNo}
use Rattle.fr_base.specs.declared.label.Label.{Label}
use Rattle.fr_base.specs.declared.label.Plain.{Plain}
use Rattle.fr_base.specs.declared.label.Plain.TheVariants as plain
use Rattle.fr_base.specs.declared.step.Wait.{Wait}
use Rattle.fr_base.specs.declared.step.Wait.TheVariants as wait
use Rattle.fr_base.specs.declared.step.Ending3.TheVariants as ending
use Rattle.fr_base.specs.declared.instruction.Operand.{Operand}
use Rattle.fr_base.specs.declared.instruction.Operand.TheVariants as operand
use Rattle.fr_base.specs.declared.instruction.Instr.{Instr}
use Rattle.fr_base.specs.declared.instruction.Instr.TheVariants as instr
use Rattle.fr_plain.specs.declared.value.Value.{Value}
use Rattle.fr_plain.specs.declared.value.Value.TheVariants.{Own, ToSlot, ToObject, Held}
use Rattle.fr_plain.specs.MachineActs.{Act, do_let, do_read, do_borrow, do_assign, do_box, do_arith, do_print, do_discard, do_drop, do_end, do_spawn, do_join, do_finish, do_leave, do_mutex, do_dup, do_lock, do_unlock, do_par, do_par_end}
use Rattle.fr_plain.specs.MachineThreads.{Move, Moves, Life, life_move, Thread, Shared, Pair, Whole, mutex_there, pair_of, thread_at, result_at, is_over, all_over, state_of}
use Rattle.fr_plain.specs.Machine.{unless_some, unless_both, unless_in, content_waits, join_waits, lock_waits, pair_waits, act_waits, move_waits, waits_for, all_wait, mutex_behind, ending_of}
use Rattle.fr_plain.specs.SamePlain.{waits_in, waits_at}
use Rattle.fr_code.specs.Steps.{CodeMove, with_operand, run_instr, over_at, end_value, code_moves}
use Rattle.law_plain_names.specs.Renamed.{Renaming, IsOneToOne, owned, kept, all_kept, shared, pair, life, thread, whole, place, NamesDontMatter}
use Rattle.law_plain_names.proofs.Acts.{act_of}
use Rattle.law_plain_names.proofs.Threads.{those, there_renamed, pair_renamed, thread_renamed, result_renamed, over_renamed, all_over_renamed, now_of, MoveRenamed, MovesRenamed, life_move_renamed}
use Rattle.law_plain_names.proofs.Steps.{found, mutex_behind_renamed, run_renamed}

module _ (n : Renaming) (once : IsOneToOne n) where
  -- WAITS

  abbrev pub wait_of : Wait → Wait
  wait_of (wait.Lock m) = wait.Lock (n.mutex m)
  wait_of (wait.Join t) = wait.Join (n.thread t)
  wait_of (wait.Par t u) = wait.Par (n.thread t) (n.thread u)

  module _ {P : Type 0} (r : P → P) (ms : Moves P) (moves : MovesRenamed n once r ms) where
    some_waits : (v : Option Value) (w : Wait) → unless_some (option_map (kept n) v) (wait_of w) ≡ option_map wait_of (unless_some v w)
    some_waits None w = refl
    some_waits (Some v) w = refl

    join_waits_renamed : (s : Whole P) (v : Value) → join_waits (whole n r s) (kept n v) ≡ option_map wait_of (join_waits s v)
    join_waits_renamed s (Own (plain.Task t)) = ap (λ v. unless_some v (wait.Join (n.thread t))) (result_renamed n once r s.threads t) ∙ some_waits (result_at s.threads t) (wait.Join t)
    join_waits_renamed s (Own plain.Nothing) = refl
    join_waits_renamed s (Own plain.Unit) = refl
    join_waits_renamed s (Own (plain.Int i)) = refl
    join_waits_renamed s (Own (plain.Box o)) = refl
    join_waits_renamed s (Own (plain.Mutex m)) = refl
    join_waits_renamed s (ToSlot i) = refl
    join_waits_renamed s (ToObject o) = refl
    join_waits_renamed s (Held m) = refl

    in_waits : (c : Option Plain) (m : MutexNo) → unless_in (option_map (owned n) c) (n.mutex m) ≡ option_map wait_of (unless_in c m)
    in_waits None m = refl
    in_waits (Some v) m = refl

    content_waits_renamed : (x : Option Shared) (m : MutexNo) → content_waits (option_map (shared n) x) (n.mutex m) ≡ option_map wait_of (content_waits x m)
    content_waits_renamed None m = refl
    content_waits_renamed (Some x) m = in_waits x.content m

    lock_waits_renamed : (s : Whole P) (p : Option (MutexNo × List Label)) → lock_waits (whole n r s) (option_map (found n once) p) ≡ option_map wait_of (lock_waits s p)
    lock_waits_renamed s None = refl
    lock_waits_renamed s (Some p) = ap (λ x. content_waits x (n.mutex p.0)) (there_renamed n once s.mutexes p.0) ∙ content_waits_renamed (mutex_there s.mutexes p.0) p.0

    both_wait : (v u : Option Value) (w : Wait) → unless_both (option_map (kept n) v) (option_map (kept n) u) (wait_of w) ≡ option_map wait_of (unless_both v u w)
    both_wait None u w = refl
    both_wait (Some v) None w = refl
    both_wait (Some v) (Some u) w = refl

    pair_waits_renamed : (s : Whole P) (p : Option Pair) → pair_waits (whole n r s) (option_map (pair n) p) ≡ option_map wait_of (pair_waits s p)
    pair_waits_renamed s None = refl
    pair_waits_renamed s (Some p) =
        ap (λ v. unless_both v (result_at (those n once r s.threads) (n.thread p.second)) (wait.Par (n.thread p.first) (n.thread p.second))) (result_renamed n once r s.threads p.first)
        ∙ ap (λ v. unless_both (option_map (kept n) (result_at s.threads p.first)) v (wait.Par (n.thread p.first) (n.thread p.second))) (result_renamed n once r s.threads p.second)
        ∙ both_wait (result_at s.threads p.first) (result_at s.threads p.second) (wait.Par p.first p.second)

    act_waits_renamed : (s : Whole P) (t : Thread P) (a : Act P) → act_waits (whole n r s) (thread n r t) (act_of n once r a) ≡ option_map wait_of (act_waits s t a)
    act_waits_renamed s t (do_join v) = join_waits_renamed s v
    act_waits_renamed s t (do_lock w) = ap (lock_waits (whole n r s)) (mutex_behind_renamed n once (state_of s t) w) ∙ lock_waits_renamed s (mutex_behind (state_of s t) w)
    act_waits_renamed s t do_par_end = ap (pair_waits (whole n r s)) (pair_renamed n once s.pairs t.number) ∙ pair_waits_renamed s (pair_of s.pairs t.number)
    act_waits_renamed s t (do_let v) = refl
    act_waits_renamed s t (do_read w take) = refl
    act_waits_renamed s t (do_borrow w is_mut) = refl
    act_waits_renamed s t (do_assign w v) = refl
    act_waits_renamed s t (do_box v) = refl
    act_waits_renamed s t (do_arith f a b) = refl
    act_waits_renamed s t (do_print v) = refl
    act_waits_renamed s t (do_discard v) = refl
    act_waits_renamed s t do_drop = refl
    act_waits_renamed s t (do_end v) = refl
    act_waits_renamed s t (do_spawn cs p) = refl
    act_waits_renamed s t (do_finish v) = refl
    act_waits_renamed s t (do_leave v) = refl
    act_waits_renamed s t (do_mutex v) = refl
    act_waits_renamed s t (do_dup w) = refl
    act_waits_renamed s t do_unlock = refl
    act_waits_renamed s t (do_par cs p ds q) = refl

    move_waits_renamed : (s : Whole P) (t : Thread P) (m k : Option (Move P (Life P))) → MoveRenamed n once r (life n r) m k → move_waits (whole n r s) (thread n r t) m ≡ option_map wait_of (move_waits s t k)
    move_waits_renamed s t None None h = refl
    move_waits_renamed s t None (Some k) h = absurd h
    move_waits_renamed s t (Some m) None h = absurd h
    move_waits_renamed s t (Some m) (Some k) h = ap (act_waits (whole n r s) (thread n r t)) h.0 ∙ act_waits_renamed s t k.act

    pub waits_for_renamed : (s : Whole P) (t : Thread P) → waits_for ms (whole n r s) (thread n r t) ≡ option_map wait_of (waits_for ms s t)
    waits_for_renamed s t = move_waits_renamed s t (life_move ms (life n r t.life)) (life_move ms t.life) (life_move_renamed n once r ms moves t.life)

    pub waits_at_renamed : (s : Whole P) (t : ℕ) → waits_at ms (whole n r s) (n.thread t) ≡ option_map wait_of (waits_at ms s t)
    waits_at_renamed s t = ap (waits_in ms (whole n r s)) (thread_renamed n once r s.threads t) ∙ by (thread_at s.threads t)
      where
        by : (x : Option (Thread P)) → waits_in ms (whole n r s) (option_map (thread n r) x) ≡ option_map wait_of (waits_in ms s x)
        by None = refl
        by (Some x) = waits_for_renamed s x

    some_wait : (w : Option Wait) → is_some (option_map wait_of w) ≡ is_some w
    some_wait None = refl
    some_wait (Some w) = refl

    all_wait_renamed : (s : Whole P) (xs : List (Thread P)) → all_wait ms (whole n r s) (those n once r xs) ≡ all_wait ms s xs
    all_wait_renamed s [] = refl
    all_wait_renamed s (x ∷ xs) =
        ap (λ b. (b || is_some (waits_for ms (whole n r s) (thread n r x))) && all_wait ms (whole n r s) (those n once r xs)) (over_renamed n once r x.life)
        ∙ ap (λ b. (is_over x.life || b) && all_wait ms (whole n r s) (those n once r xs)) (ap is_some (waits_for_renamed s x) ∙ some_wait (waits_for ms s x))
        ∙ ap (λ b. (is_over x.life || is_some (waits_for ms s x)) && b) (all_wait_renamed s xs)

    -- both have finished, are deadlocked, or go on
    pub ending_renamed : (s : Whole P) → ending_of ms (whole n r s) ≡ ending_of ms s
    ending_renamed s =
        ap (λ b. if b then ending.Finished else if all_wait ms (whole n r s) (those n once r s.threads) then ending.Deadlocked else ending.Going) (all_over_renamed n once r s.threads)
        ∙ ap (λ b. if all_over s.threads then ending.Finished else if b then ending.Deadlocked else ending.Going) (all_wait_renamed s s.threads)

  -- PLACES IN A CODE

  abbrev Led : Option CodeMove → Option CodeMove → Type 0
  Led a b = MoveRenamed n once (place n) (place n) a b

  operand_renamed : (o : Operand) (ts : List Value) (go go2 : Value → List Value → Option CodeMove) → ((v : Value) (us : List Value) → Led (go (kept n v) (all_kept n us)) (go2 v us)) → Led (with_operand o (all_kept n ts) go) (with_operand o ts go2)
  operand_renamed (operand.Const i) ts go go2 f = f (Own (plain.Int i)) ts
  operand_renamed operand.Unit ts go go2 f = f (Own plain.Unit) ts
  operand_renamed operand.Pop [] go go2 f = tt
  operand_renamed operand.Pop (v ∷ ts) go go2 f = f v ts

  instr_renamed : (i : Option Instr) (pc : ℕ) (ts : List Value) → Led (run_instr i pc (all_kept n ts)) (run_instr i pc ts)
  instr_renamed None pc ts = tt
  instr_renamed (Some (instr.Let o)) pc ts = operand_renamed o ts _ _ (λ v us. (refl, λ x. refl))
  instr_renamed (Some (instr.Assign w o)) pc ts = operand_renamed o ts _ _ (λ v us. (refl, λ x. refl))
  instr_renamed (Some (instr.Read w take)) pc ts = (refl, λ x. refl)
  instr_renamed (Some (instr.Borrow w)) pc ts = (refl, λ x. refl)
  instr_renamed (Some (instr.BorrowMut w)) pc ts = (refl, λ x. refl)
  instr_renamed (Some (instr.Box o)) pc ts = operand_renamed o ts _ _ (λ v us. (refl, λ x. refl))
  instr_renamed (Some (instr.Arith f a b)) pc ts = operand_renamed b ts _ _ (λ w us. operand_renamed a us _ _ (λ v vs. (refl, λ x. refl)))
  instr_renamed (Some (instr.Print o)) pc ts = operand_renamed o ts _ _ (λ v us. (refl, λ x. refl))
  instr_renamed (Some instr.Discard) pc ts = operand_renamed operand.Pop ts _ _ (λ v us. (refl, λ x. refl))
  instr_renamed (Some instr.DropSlot) pc ts = (refl, λ x. refl)
  instr_renamed (Some (instr.Spawn xs body)) pc ts = (refl, λ x. refl)
  instr_renamed (Some (instr.Join o)) pc ts = operand_renamed o ts _ _ (λ v us. (refl, λ x. refl))
  instr_renamed (Some (instr.Mutex o)) pc ts = operand_renamed o ts _ _ (λ v us. (refl, λ x. refl))
  instr_renamed (Some (instr.Dup w)) pc ts = (refl, λ x. refl)
  instr_renamed (Some (instr.Lock w)) pc ts = (refl, λ x. refl)
  instr_renamed (Some instr.Unlock) pc ts = (refl, λ x. refl)
  instr_renamed (Some (instr.Par xs body ys other)) pc ts = (refl, λ x. refl)
  instr_renamed (Some instr.ParEnd) pc ts = (refl, λ x. refl)
  instr_renamed (Some (instr.End o)) pc ts = tt

  end_renamed : (o : Operand) (ts : List Value) → end_value o (all_kept n ts) ≡ now_of n once (place n) (end_value o ts)
  end_renamed (operand.Const i) ts = refl
  end_renamed operand.Unit ts = refl
  end_renamed operand.Pop [] = refl
  end_renamed operand.Pop (v ∷ ts) = refl

  over_at_renamed : (i : Option Instr) (ts : List Value) → over_at i (all_kept n ts) ≡ now_of n once (place n) (over_at i ts)
  over_at_renamed None ts = refl
  over_at_renamed (Some (instr.End o)) ts = end_renamed o ts
  over_at_renamed (Some (instr.Let o)) ts = refl
  over_at_renamed (Some (instr.Assign w o)) ts = refl
  over_at_renamed (Some (instr.Read w take)) ts = refl
  over_at_renamed (Some (instr.Borrow w)) ts = refl
  over_at_renamed (Some (instr.BorrowMut w)) ts = refl
  over_at_renamed (Some (instr.Box o)) ts = refl
  over_at_renamed (Some (instr.Arith f a b)) ts = refl
  over_at_renamed (Some (instr.Print o)) ts = refl
  over_at_renamed (Some instr.Discard) ts = refl
  over_at_renamed (Some instr.DropSlot) ts = refl
  over_at_renamed (Some (instr.Spawn xs body)) ts = refl
  over_at_renamed (Some (instr.Join o)) ts = refl
  over_at_renamed (Some (instr.Mutex o)) ts = refl
  over_at_renamed (Some (instr.Dup w)) ts = refl
  over_at_renamed (Some (instr.Lock w)) ts = refl
  over_at_renamed (Some instr.Unlock) ts = refl
  over_at_renamed (Some (instr.Par xs body ys other)) ts = refl
  over_at_renamed (Some instr.ParEnd) ts = refl

  pub code_moves_renamed : (code : List Instr) → MovesRenamed n once (place n) (code_moves code)
  code_moves_renamed code = record { now = λ p. over_at_renamed (slice_get code p.pc) p.temps; move = λ p. instr_renamed (slice_get code p.pc) p.pc p.temps; settle = λ p. refl }

pub names_dont_matter : NamesDontMatter
names_dont_matter n once code = record {
  runs = λ s order. run_renamed n once (place n) (code_moves code) (code_moves_renamed n once code) s order;
  endings = λ s. ending_renamed n once (place n) (code_moves code) (code_moves_renamed n once code) s;
}
