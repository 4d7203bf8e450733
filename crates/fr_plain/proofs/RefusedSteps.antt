-- A step that is refused is no plain step.
use Rattle.std.proofs.Common.{◌≡◌, Bool, true, false, List, Option, Some, None, refl, ap}
use Rattle.std.specs.Prelude.{is_some, ◌==◌, ◌||◌, if◌then◌else◌}
use Rattle.fr_base.specs.declared.name.MutexNo.{MutexNo}
use Rattle.fr_base.specs.declared.label.Label.{Label}
use Rattle.fr_base.specs.declared.label.Plain.{Plain}
use Rattle.fr_base.specs.declared.label.Plain.TheVariants as plain
use Rattle.fr_base.specs.declared.step.Fresh.{Fresh}
use Rattle.fr_base.specs.declared.step.Fresh.TheVariants as fresh
use Rattle.fr_base.specs.declared.step.Wait.{Wait}
use Rattle.fr_plain.specs.declared.value.Value.{Value}
use Rattle.fr_plain.specs.declared.value.Value.TheVariants.{Own, ToSlot, ToObject, Held}
use Rattle.fr_plain.specs.MachineActs.{Act, do_let, do_read, do_borrow, do_assign, do_box, do_arith, do_print, do_discard, do_drop, do_end, do_spawn, do_join, do_finish, do_leave, do_mutex, do_dup, do_lock, do_unlock, do_par, do_par_end}
use Rattle.fr_plain.specs.MachineThreads.{Move, Moves, Life, alive, over, owing, loose, ended, life_move, Thread, Shared, Pair, Whole, mutex_at, mutex_there, pair_of, thread_at, is_given, result_at, is_over, state_of}
use Rattle.fr_plain.specs.Machine.{Stepped, unless_some, unless_both, unless_in, act_waits, join_waits, move_waits, content_waits, lock_waits, pair_waits, mutex_behind, where_there, at_mutex, at_place, locked_with, locked, two_ended, two_joined, waits_for, joined_with, joined, is_nameless, done_act, moved, step_of, no_name, takes_of, takes_name, Refusal, has_ended, name_used, refused_names, refused_wait, refused_of}
use Rattle.fr_plain.specs.Run.{terms}
use Rattle.fr_plain.specs.Refusing.{RefusedIsNoStep}

module _ {P : Type 0} (ms : Moves P) where
  -- a name that was given is taken by no step
  given : (b : Bool) (x : Option (Stepped P)) (why : Refusal) → (if b then Some name_used else None) ≡ Some why → (if b then None else x) ≡ None
  given true x why h = refl
  given false x why h = absurd cc

  -- a step without names takes none
  nameless : (s : Whole P) (names : Fresh) (x : Option (Stepped P)) (why : Refusal) → refused_names s no_name names ≡ Some why → (if is_nameless names then x else None) ≡ None
  nameless s fresh.None x why h = absurd cc
  nameless s (fresh.Thread u) x why h = refl
  nameless s (fresh.Threads u v) x why h = refl
  nameless s (fresh.Mutex m) x why h = refl

  -- names that an act doesn't take
  by_names : (s : Whole P) (t : Thread P) (names : Fresh) (m : Move P (Life P)) (a : Act P) (why : Refusal) → refused_names s (takes_of a) names ≡ Some why → done_act ms s t names m a ≡ None
  by_names s t fresh.None m (do_spawn cs r) why h = refl
  by_names s t (fresh.Thread u) m (do_spawn cs r) why h = given (is_given s u) _ why h
  by_names s t (fresh.Threads u v) m (do_spawn cs r) why h = refl
  by_names s t (fresh.Mutex n) m (do_spawn cs r) why h = refl
  by_names s t names m (do_let v) why h = nameless s names _ why h
  by_names s t names m (do_read w take) why h = nameless s names _ why h
  by_names s t names m (do_borrow w is_mut) why h = nameless s names _ why h
  by_names s t names m (do_assign w v) why h = nameless s names _ why h
  by_names s t names m (do_box v) why h = nameless s names _ why h
  by_names s t names m (do_arith f v w) why h = nameless s names _ why h
  by_names s t names m (do_print v) why h = nameless s names _ why h
  by_names s t names m (do_discard v) why h = nameless s names _ why h
  by_names s t names m do_drop why h = nameless s names _ why h
  by_names s t names m (do_end v) why h = nameless s names _ why h
  by_names s t names m (do_join v) why h = nameless s names _ why h
  by_names s t names m (do_finish v) why h = nameless s names _ why h
  by_names s t names m (do_leave v) why h = nameless s names _ why h
  by_names s t fresh.None m (do_mutex v) why h = refl
  by_names s t (fresh.Thread u) m (do_mutex v) why h = refl
  by_names s t (fresh.Threads u w) m (do_mutex v) why h = refl
  by_names s t (fresh.Mutex n) m (do_mutex (Own v)) why h = given (is_some (mutex_at s.mutexes n)) _ why h
  by_names s t (fresh.Mutex n) m (do_mutex (ToSlot i)) why h = refl
  by_names s t (fresh.Mutex n) m (do_mutex (ToObject o)) why h = refl
  by_names s t (fresh.Mutex n) m (do_mutex (Held q)) why h = refl
  by_names s t names m (do_dup w) why h = nameless s names _ why h
  by_names s t names m (do_lock w) why h = nameless s names _ why h
  by_names s t names m do_unlock why h = nameless s names _ why h
  by_names s t fresh.None m (do_par cs p ds q) why h = refl
  by_names s t (fresh.Thread u) m (do_par cs p ds q) why h = refl
  by_names s t (fresh.Threads u w) m (do_par cs p ds q) why h = given (u == w || is_given s u || is_given s w) _ why h
  by_names s t (fresh.Mutex n) m (do_par cs p ds q) why h = refl
  by_names s t names m do_par_end why h = nameless s names _ why h

  either : (b : Bool) (x : Option (Stepped P)) → x ≡ None → (if b then x else None) ≡ None
  either true x h = h
  either false x h = refl

  -- a join finds no result of a thread that goes on
  no_result : (s : Whole P) (t : Thread P) (m : Move P (Life P)) (x : Option (Thread P)) (o : Option Value) (w other : Wait) → unless_some o other ≡ Some w → joined_with ms s t m x o ≡ None
  no_result s t m x (Some v) w other h = absurd cc
  no_result s t m None None w other h = refl
  no_result s t m (Some x) None w other h = refl

  join_stops : (s : Whole P) (t : Thread P) (m : Move P (Life P)) (v : Value) (w : Wait) → join_waits s v ≡ Some w → joined ms s t m v ≡ None
  join_stops s t m (Own (plain.Task u)) w h = no_result s t m (thread_at s.threads u) (result_at s.threads u) w _ h
  join_stops s t m (Own plain.Nothing) w h = absurd cc
  join_stops s t m (Own plain.Unit) w h = absurd cc
  join_stops s t m (Own (plain.Int n)) w h = absurd cc
  join_stops s t m (Own (plain.Box o)) w h = absurd cc
  join_stops s t m (Own (plain.Mutex n)) w h = absurd cc
  join_stops s t m (ToSlot i) w h = absurd cc
  join_stops s t m (ToObject o) w h = absurd cc
  join_stops s t m (Held n) w h = absurd cc

  -- a lock finds no content
  no_content : (s : Whole P) (t : Thread P) (m : Move P (Life P)) (n : MutexNo) (ls : List Label) (x : Option Shared) (w : Wait) → content_waits x n ≡ Some w → where_there ms x (locked ms s t m n ls) ≡ None
  no_content s t m n ls None w h = refl
  no_content s t m n ls (Some x) w h = by x.content h
    where
      by : (c : Option Plain) → unless_in c n ≡ Some w → locked_with ms s t m n ls x c ≡ None
      by None h = refl
      by (Some v) h = absurd cc

  lock_stops : (s : Whole P) (t : Thread P) (m : Move P (Life P)) (p : Option (MutexNo × List Label)) (w : Wait) → lock_waits s p ≡ Some w → at_mutex ms s p (locked ms s t m) ≡ None
  lock_stops s t m None w h = refl
  lock_stops s t m (Some p) w h = no_content s t m p.0 p.1 (mutex_there s.mutexes p.0) w h

  -- a pair has not both results
  not_both : (s : Whole P) (t : Thread P) (m : Move P (Life P)) (p : Pair) (v u : Option Value) (other w : Wait) → unless_both v u other ≡ Some w → two_ended ms s t m p v u ≡ None
  not_both s t m p None u other w h = refl
  not_both s t m p (Some v) None other w h = refl
  not_both s t m p (Some v) (Some u) other w h = absurd cc

  pair_stops : (s : Whole P) (t : Thread P) (m : Move P (Life P)) (p : Option Pair) (w : Wait) → pair_waits s p ≡ Some w → two_joined ms s t m p ≡ None
  pair_stops s t m None w h = refl
  pair_stops s t m (Some p) w h = not_both s t m p (result_at s.threads p.first) (result_at s.threads p.second) _ w h

  -- an act that waits can't be done
  by_wait : (s : Whole P) (t : Thread P) (names : Fresh) (m : Move P (Life P)) (a : Act P) (w : Wait) → act_waits s t a ≡ Some w → done_act ms s t names m a ≡ None
  by_wait s t names m (do_join v) w h = either (is_nameless names) (joined ms s t m v) (join_stops s t m v w h)
  by_wait s t names m (do_let v) w h = absurd cc
  by_wait s t names m (do_read u take) w h = absurd cc
  by_wait s t names m (do_borrow u is_mut) w h = absurd cc
  by_wait s t names m (do_assign u v) w h = absurd cc
  by_wait s t names m (do_box v) w h = absurd cc
  by_wait s t names m (do_arith f v u) w h = absurd cc
  by_wait s t names m (do_print v) w h = absurd cc
  by_wait s t names m (do_discard v) w h = absurd cc
  by_wait s t names m do_drop w h = absurd cc
  by_wait s t names m (do_end v) w h = absurd cc
  by_wait s t names m (do_spawn cs r) w h = absurd cc
  by_wait s t names m (do_finish v) w h = absurd cc
  by_wait s t names m (do_leave v) w h = absurd cc
  by_wait s t names m (do_mutex v) w h = absurd cc
  by_wait s t names m (do_dup u) w h = absurd cc
  by_wait s t names m (do_lock u) w h = either (is_nameless names) (at_place ms s t u (locked ms s t m)) (lock_stops s t m (mutex_behind (state_of s t) u) w h)
  by_wait s t names m do_unlock w h = absurd cc
  by_wait s t names m (do_par cs p ds q) w h = absurd cc
  by_wait s t names m do_par_end w h = either (is_nameless names) (two_joined ms s t m (pair_of s.pairs t.number)) (pair_stops s t m (pair_of s.pairs t.number) w h)

  -- a thread that is over has no move
  over_rests : (l : Life P) → is_over l ≡ true → life_move ms l ≡ None
  over_rests over h = refl
  over_rests (ended v) h = refl
  over_rests (alive r) h = absurd cc
  over_rests (owing r) h = absurd cc
  over_rests (loose r) h = absurd cc

  -- a thread that goes on, by what it waits for and by the names
  by_move : (s : Whole P) (t : Thread P) (names : Fresh) (o : Option (Move P (Life P))) (w : Option Wait) (why : Refusal) → move_waits s t o ≡ w → refused_wait w (refused_names s (takes_name o) names) ≡ Some why → moved ms s t names o ≡ None
  by_move s t names None w why is h = refl
  by_move s t names (Some m) (Some w) why is h = by_wait s t names m m.act w is
  by_move s t names (Some m) None why is h = by_names s t names m m.act why h

  by_life : (s : Whole P) (t : Thread P) (names : Fresh) (b : Bool) (why : Refusal) → is_over t.life ≡ b → (if b then Some has_ended else refused_wait (waits_for ms s t) (refused_names s (takes_name (life_move ms t.life)) names)) ≡ Some why → moved ms s t names (life_move ms t.life) ≡ None
  by_life s t names true why is h = ap (moved ms s t names) (over_rests t.life is)
  by_life s t names false why is h = by_move s t names (life_move ms t.life) (waits_for ms s t) why refl h

  by_thread : (s : Whole P) (names : Fresh) (o : Option (Thread P)) (why : Refusal) → refused_of ms s names o ≡ Some why → step_of ms s names o ≡ None
  by_thread s names None why h = refl
  by_thread s names (Some t) why h = by_life s t names (is_over t.life) why refl h

  pub none_refused : RefusedIsNoStep ms
  none_refused s t names why h = by_thread s names (thread_at s.threads t) why h

-- the same of running terms
pub no_step : RefusedIsNoStep terms
no_step = none_refused terms
