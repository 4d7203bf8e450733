-- No thread of a typed state is stuck, and programs start typed.
use Rattle.std.specs.Prelude.{is_some, if◌then◌else◌}
use Rattle.std.proofs.Common.{◌≡◌, ◌≢◌, ℕ, true, false, [], Option, Some, None, refl, sym, ap, ◌∙◌, subst}
use Rattle.fr_plain.specs.Below.fr_base.declared.label.Plain.TheVariants as plain
use Rattle.fr_plain.specs.Below.fr_base.declared.step.Fresh.{Fresh}
use Rattle.fr_plain.specs.Below.fr_base.declared.step.Fresh.TheVariants as fresh
use Rattle.fr_plain.specs.Below.fr_base.declared.step.Wait.{Wait}
use Rattle.fr_plain.specs.Below.fr_base.declared.step.Wait.TheVariants as wait
use Rattle.fr_plain.specs.Below.fr_typing.Kinds.{Owned, task, Kind, own}
use Rattle.fr_plain.specs.Below.fr_typing.Places.{Env}
use Rattle.fr_store.specs.Keys.{hand_k}
use Rattle.fr_store.specs.Store.{task_v, at_key}
use Rattle.fr_store.specs.Typed.{Tree}
use Rattle.fr_store.specs.Below.{tree_of}
use Rattle.fr_store.proofs.ListState.{at_hand as at_hand_key}
use Rattle.fr_plain.specs.declared.value.Value.{Value}
use Rattle.fr_plain.specs.declared.value.Value.TheVariants.{Own, ToSlot, ToObject, Held}
use Rattle.fr_plain.specs.Acts.{Act, do_end, do_finish, do_leave}
use Rattle.fr_plain.specs.Run.{Run, Now, going, constant, temporary, now, on_value, Move, next, alone, move, Life, alive, over, owing, loose, ended, life_move}
use Rattle.fr_plain.specs.Threads.{result_in, result_of_life, unless_some, join_waits, act_waits, move_waits}
use Rattle.fr_plain.specs.Whole.{Thread, Whole, thread_at, result_at, is_over, waits_for, state_of, Refusal, has_ended, no_name, a_thread, takes_of, takes_name, refused_names, refused_wait, refused_of, refused, step}
use Rattle.fr_sound.specs.RunTypes.{threads, Operand, o_temp, ActTypes, a_let, a_copy, a_move, a_borrow, a_borrow_mut, a_assign, a_box, a_arith, a_print, a_discard, a_drop, a_end, a_leave, NextTypes, n_own, n_spawn, n_join, held_after}
use Rattle.fr_sound.specs.Seen.{Gives, val_of, vals, heap_of, Holds}
use Rattle.fr_sound.specs.Together.{held_life, seen_all, is_owed, owed_by, owed_in, IsRunning, IsTypedIn, AreTyped, StepsOn, NeverStuckTogether, WaitsForLiving}
use Rattle.fr_sound.proofs.DoneTerms.{Done, d_going, d_constant, d_temporary, done}
use Rattle.fr_sound.proofs.Hand.{at_hand, hand_fits}
use Rattle.fr_sound.proofs.Redex.{IntAtHand, Becomes, goes_of, redex}
use Rattle.fr_sound.proofs.Focus.{number_of, beside_of}
use Rattle.fr_sound.proofs.OwnStep.{Wraps, focus_run, own_steps}
use Rattle.fr_sound.proofs.EndStep.{ends_over, ends_kept}
use Rattle.fr_sound.proofs.JoinStep.{join_typed}
use Rattle.fr_sound.proofs.Giving.{with_gives, gives_there, given_running, given, given_wraps}
use Rattle.fr_sound.proofs.SpawnStep.{spawn_typed}

-- REFUSALS

-- what isn't refused neither waits nor has wrong names
not_refused : (w : Option Wait) (r : Option Refusal) → refused_wait w r ≡ None → (w ≡ None) × (r ≡ None)
not_refused None r e = (refl, e)
not_refused (Some w) r e = cc

-- a step that takes no name has none
nameless : (s : Whole) (names : Fresh) → refused_names s no_name names ≡ None → names ≡ fresh.None
nameless s fresh.None e = refl
nameless s (fresh.Thread u) e = cc
nameless s (fresh.Threads u v) e = cc
nameless s (fresh.Mutex m) e = cc

-- a step that takes a thread's name has a new one
named : (s : Whole) (names : Fresh) → refused_names s a_thread names ≡ None → (u : ℕ) × (names ≡ fresh.Thread u) × (thread_at s.threads u ≡ None)
named s fresh.None e = cc
named s (fresh.Thread u) e = (u, refl, by (thread_at s.threads u) refl e)
  where
    by : (x : Option Thread) → thread_at s.threads u ≡ x → (if is_some x then Some Rattle.fr_plain.specs.Whole.name_used else None) ≡ None → thread_at s.threads u ≡ None
    by None f h = f
    by (Some x) f h = cc
named s (fresh.Threads u v) e = cc
named s (fresh.Mutex m) e = cc

-- an act of a thread's own starts no thread, and doesn't wait
pub own_names : {e e2 : Env} {o o2 : Option Kind} {h : Option Value} {a : Act} → ActTypes e o h a o2 e2 → (takes_of a ≡ no_name) × ((s : Whole) (t : Thread) → act_waits s t a ≡ None)
own_names (a_let name p) = (refl, λ s t. refl)
own_names (a_copy c) = (refl, λ s t. refl)
own_names (a_move c) = (refl, λ s t. refl)
own_names (a_borrow c) = (refl, λ s t. refl)
own_names (a_borrow_mut c) = (refl, λ s t. refl)
own_names (a_assign p c) = (refl, λ s t. refl)
own_names (a_box p) = (refl, λ s t. refl)
own_names (a_arith i p) = (refl, λ s t. refl)
own_names (a_print p) = (refl, λ s t. refl)
own_names a_discard = (refl, λ s t. refl)
own_names (a_drop names) = (refl, λ s t. refl)
own_names (a_end p) = (refl, λ s t. refl)
own_names (a_leave p) = (refl, λ s t. refl)

-- TASKS AT HAND

-- a value that is seen as a task is one
task_is : (g : Gives) (t : ℕ) (v : Value) (n : ℕ) (r : Tree) → val_of g t v ≡ task_v n r → (v ≡ Own (plain.Task n)) × (tree_of (g.result n) ≡ r)
task_is g t (Own (plain.Task m)) n r e =
    let same : m ≡ n = cc in
    let tree : tree_of (g.result m) ≡ r = cc in
    (ap (λ q. Own (plain.Task q)) same, ap (λ q. tree_of (g.result q)) (sym same) ∙ tree)
task_is g t (Own plain.Nothing) n r e = cc
task_is g t (Own plain.Unit) n r e = cc
task_is g t (Own (plain.Int z)) n r e = cc
task_is g t (Own (plain.Box o)) n r e = cc
task_is g t (Own (plain.Mutex m)) n r e = cc
task_is g t (ToSlot i) n r e = cc
task_is g t (ToObject o) n r e = cc
task_is g t (Held o) n r e = cc

-- the thread of a task at hand is there, and goes on or has a result
pub record Tasked {s : Whole} (y : AreTyped s) (x : Thread) (o : Owned) (v : Value) : Type 0 where
  pub other : Thread
  pub found : thread_at s.threads other.number ≡ Some other
  pub is : v ≡ Own (plain.Task other.number)
  pub value : val_of y.gives x.number v ≡ task_v other.number (tree_of o)
  pub tree : tree_of (y.gives.result other.number) ≡ tree_of o
  pub owed : is_owed other.life ≡ true

tasked : {s : Whole} (y : AreTyped s) (x : Thread) {e : Env} (o : Owned) (v : Value) → Holds (beside_of y.gives y.types s.threads) e (Some (own (task o))) (Some v) (state_of s x) → Tasked y x o v
tasked {s = s} y x o v z =
    let fits = hand_fits z in
    let n = fits.0 in
    let k = task_is y.gives x.number v n (tree_of o) fits.1 in
    let owed : owed_in s.threads n ≡ true = z.known.each (at_key (hand_k x.number)) (task_v n (tree_of o)) (ap Some (at_hand_key (beside_of y.gives y.types s.threads).at x.number (vals y.gives x.number x.slots) (val_of y.gives x.number v) (heap_of y.gives s.heap) ∙ fits.1)) in
    by n k.0 fits.1 k.1 (thread_at s.threads n) refl owed
  where
    by : (n : ℕ) → v ≡ Own (plain.Task n) → val_of y.gives x.number v ≡ task_v n (tree_of o) → tree_of (y.gives.result n) ≡ tree_of o → (w : Option Thread) → thread_at s.threads n ≡ w → owed_by w ≡ true → Tasked y x o v
    by n is value tree None e owed = cc
    by n is value tree (Some w) e owed =
        let same = number_of s.threads n w e in
        record {
          other = w;
          found = ap (thread_at s.threads) same ∙ e;
          is = is ∙ ap (λ q. Own (plain.Task q)) (sym same);
          value = value ∙ ap (λ q. task_v q (tree_of o)) (sym same);
          tree = ap (λ q. tree_of (y.gives.result q)) same ∙ tree;
          owed = owed;
        }

-- a life with a result has ended
with_result : (l : Life) → is_owed l ≡ true → (unless_some (result_of_life l) (wait.Join 0) ≡ None) → (v : Value) × (l ≡ ended v)
with_result (ended v) e f = (v, refl)
with_result (owing r) e f = cc
with_result (alive r) e f = cc
with_result (loose r) e f = cc
with_result over e f = cc

-- A RUNNING TERM

module _ {s : Whole} (y : AreTyped s) (x : Thread) (found : thread_at s.threads x.number ≡ Some x) (k : Kind) (r : Run) (wrap : Run → Life) (w : Wraps y.gives x.number k x.life r wrap) where
  -- no wait depends on the name of a thread
  no_result : (o : Option Value) (a b : Wait) → unless_some o a ≡ None → unless_some o b ≡ None
  no_result None a b e = cc
  no_result (Some v) a b e = refl

  -- the next act, by what it is
  act_steps : {e e2 : Env} {o o2 : Option Kind} {h : Option Value} {a : Act} (names : Fresh) → NextTypes threads e o h a o2 e2 → Holds (beside_of y.gives y.types s.threads) e o h (state_of s x)
      → ((u : ℕ) (q : Owned) → thread_at s.threads u ≡ None → Holds (beside_of (with_gives y.gives u q) y.types s.threads) e o h (state_of s x))
      → (plug : Value → Run) → life_move x.life ≡ Some (record { act = a; plug = λ v. wrap (plug v) }) → ((v : Value) → IntAtHand o2 (held_after a h v) → Becomes threads e2 o2 (held_after a h v) (plug v) k [])
      → waits_for s x ≡ None → refused_names s (takes_name (life_move x.life)) names ≡ None → (ActTypes e o h a o2 e2 → StepsOn s x.number fresh.None) → StepsOn s x.number names
  act_steps names (n_own act) z z2 plug moves becomes waits free own_step =
      let none = nameless s names (subst (λ b. refused_names s b names ≡ None) (ap takes_name moves ∙ (own_names act).0) free) in
      subst (StepsOn s x.number) (sym none) (own_step act)
  act_steps names (n_spawn {e = e} {e2 = e2} {n = n} {cs = cs} {r = body} {x = q} c types) z z2 plug moves becomes waits free own_step =
      let new = named s names (subst (λ b. refused_names s b names ≡ None) (ap takes_name moves) free) in
      let u = new.0 in
      let differs : x.number ≢ u = λ f. let i : None ≡ Some x = sym new.2 ∙ ap (thread_at s.threads) (sym f) ∙ found in cc in
      let w2 = given_wraps y.gives u q x.number k x.life r wrap differs w in
      subst (StepsOn s x.number) (sym new.1) (spawn_typed (given y u q new.2) x found w.result_now e e2 n q cs body (z2 u q new.2) u new.2 (gives_there y.gives u q) c types w2 plug (λ i. becomes (Own (plain.Task u)) i) moves)
  act_steps names (n_join {e = e} {v = v} {x = q} p) z z2 plug moves becomes waits free own_step =
      let none = nameless s names (subst (λ b. refused_names s b names ≡ None) (ap takes_name moves) free) in
      let z1 = at_hand z p in
      let t = tasked y x q v z1 in
      let waits2 : unless_some (result_at s.threads t.other.number) (wait.Join t.other.number) ≡ None = sym (ap (join_waits s) t.is) ∙ sym (ap (move_waits s x) moves) ∙ waits in
      let waits3 : unless_some (result_of_life t.other.life) (wait.Join 0) ≡ None = no_result (result_of_life t.other.life) (wait.Join t.other.number) (wait.Join 0) (sym (ap (λ o. unless_some (result_in o) (wait.Join t.other.number)) t.found) ∙ waits2) in
      let result = with_result t.other.life t.owed waits3 in
      subst (StepsOn s x.number) (sym none) (join_typed y x found w.result_now e q v z1 t.other t.found result.0 result.1 t.value t.tree w plug (λ i. becomes result.0 i) t.is moves)

  -- a running term steps, or its thread ends
  run_steps : (names : Fresh) (z : IsRunning y.gives y.high y.types (seen_all y.gives s) x.number x.slots r k) → waits_for s x ≡ None → refused_names s (takes_name (life_move x.life)) names ≡ None
      → ((o : Option Kind) (h : Option Value) (v : Value) → Operand o h v k → Holds (beside_of y.gives y.types s.threads) [] o h (state_of s x) → on_value (now r) (λ u. Some u) None ≡ Some v → StepsOn s x.number names) → StepsOn s x.number names
  run_steps names z waits free ends = by refl (done r z.types) (focus_run y x found w z) refl
    where
      goes : now r ≡ going → StepsOn s x.number names
      goes g =
          let m = goes_of (redex r z.types) g in
          act_steps names m.act (focus_run y x found w z) (λ u q new. focus_run (given y u q new) x found (given_wraps y.gives u q x.number k x.life r wrap (λ f. let i : None ≡ Some x = sym new ∙ ap (thread_at s.threads) (sym f) ∙ found in cc) w) (given_running y u q new z))
          m.next.plug (w.moves g ∙ ap (next wrap) m.is) m.goes waits free (λ act. own_steps y x found w z g m act)

      by : {n : Now} {e f : Env} {o : Option Kind} {h : Option Value} → now r ≡ n → Done n e o h k f → Holds (beside_of y.gives y.types s.threads) e o h (state_of s x) → f ≡ [] → StepsOn s x.number names
      by e d_going h none = goes e
      by e (d_constant p) h none = ends _ _ _ p (subst (λ (f : Env). Holds (beside_of y.gives y.types s.threads) f None None (state_of s x)) none h) (ap (λ n. on_value n (λ u. Some u) None) e)
      by {o = o} {h = v} e d_temporary h none = ends _ _ _ o_temp (subst (λ (f : Env). Holds (beside_of y.gives y.types s.threads) f o v (state_of s x)) none h) (ap (λ n. on_value n (λ u. Some u) None) e)

-- LIVES

-- a done term's value
value_is : {A : Type 0} (n : Now) (v : Value) (f : Value → A) (d : A) → on_value n (λ u. Some u) None ≡ Some v → on_value n f d ≡ f v
value_is going v f d e = cc
value_is (constant u) v f d e = let same : u ≡ v = cc in ap f same
value_is (temporary u) v f d e = let same : u ≡ v = cc in ap f same

-- how each life wraps its term
alive_wraps : (g : Gives) (t : ℕ) (k : Kind) (l : Life) (r : Run) → l ≡ alive r → Wraps g t k l r alive
alive_wraps g t k l r e = record {
  held_now = ap held_life e;
  result_now = ap result_of_life e;
  moves = λ n. ap life_move e ∙ ap (λ q. on_value q (λ v. alone (λ u. over) (do_end v)) (next alive (move r))) n;
  held_then = λ q. refl;
  result_then = λ q. refl;
  owed_then = λ q. sym (ap is_owed e);
  types_then = λ f o q types. (k, types);
}

loose_wraps : (g : Gives) (t : ℕ) (k : Kind) (l : Life) (r : Run) → l ≡ loose r → Wraps g t k l r loose
loose_wraps g t k l r e = record {
  held_now = ap held_life e;
  result_now = ap result_of_life e;
  moves = λ n. ap life_move e ∙ ap (λ q. on_value q (λ v. alone (λ u. over) (do_leave v)) (next loose (move r))) n;
  held_then = λ q. refl;
  result_then = λ q. refl;
  owed_then = λ q. sym (ap is_owed e);
  types_then = λ f o q types. (k, types);
}

owing_wraps : (g : Gives) (t : ℕ) (l : Life) (r : Run) → l ≡ owing r → Wraps g t (own (g.result t)) l r owing
owing_wraps g t l r e = record {
  held_now = ap held_life e;
  result_now = ap result_of_life e;
  moves = λ n. ap life_move e ∙ ap (λ q. on_value q (λ v. alone ended (do_finish v)) (next owing (move r))) n;
  held_then = λ q. refl;
  result_then = λ q. refl;
  owed_then = λ q. sym (ap is_owed e);
  types_then = λ f o q types. types;
}

-- a thread that is not refused steps
thread_steps : {s : Whole} (y : AreTyped s) (x : Thread) (names : Fresh) → thread_at s.threads x.number ≡ Some x → (if is_over x.life then Some has_ended else refused_wait (waits_for s x) (refused_names s (takes_name (life_move x.life)) names)) ≡ None → StepsOn s x.number names
thread_steps {s = s} y x names found free = by x.life refl (y.each x.number x found)
  where
    b : Life → Type 0
    b l = IsTypedIn y.gives y.high y.types (seen_all y.gives s) x.number x.slots l

    -- what isn't over is refused for waiting or for names alone
    goes_on : is_over x.life ≡ false → (waits_for s x ≡ None) × (refused_names s (takes_name (life_move x.life)) names ≡ None)
    goes_on e = not_refused (waits_for s x) (refused_names s (takes_name (life_move x.life)) names) (sym (ap (λ q. if q then Some has_ended else refused_wait (waits_for s x) (refused_names s (takes_name (life_move x.life)) names)) e) ∙ free)

    ended_not : (l : Life) → x.life ≡ l → is_over l ≡ true → StepsOn s x.number names
    ended_not l e over_there =
        let z : Some has_ended ≡ None = sym (ap (λ q. if q then Some has_ended else refused_wait (waits_for s x) (refused_names s (takes_name (life_move x.life)) names)) (ap is_over e ∙ over_there)) ∙ free in cc

    unnamed : (a : Act) (plug : Value → Life) → life_move x.life ≡ alone plug a → takes_of a ≡ no_name → refused_names s (takes_name (life_move x.life)) names ≡ None → names ≡ fresh.None
    unnamed a plug moves start e = nameless s names (subst (λ q. refused_names s q names ≡ None) (ap takes_name moves ∙ start) e)

    by : (l : Life) → x.life ≡ l → b l → StepsOn s x.number names
    by (alive r) e z =
        let f = goes_on (ap is_over e) in
        run_steps y x found z.0 r alive (alive_wraps y.gives x.number z.0 x.life r e) names z.1 f.0 f.1
        (λ o h v p q n.
        let moves : life_move x.life ≡ alone (λ u. over) (do_end v) = ap life_move e ∙ value_is (now r) v (λ w. alone (λ u. over) (do_end w)) (next alive (move r)) n in
        subst (StepsOn s x.number) (sym (unnamed (do_end v) (λ u. over) moves refl f.1)) (ends_over y x (do_end v) h found q (a_end p) (λ w. refl) (ap result_of_life e) (ap is_owed e) moves))
    by (loose r) e z =
        let f = goes_on (ap is_over e) in
        run_steps y x found z.0 r loose (loose_wraps y.gives x.number z.0 x.life r e) names z.1 f.0 f.1
        (λ o h v p q n.
        let moves : life_move x.life ≡ alone (λ u. over) (do_leave v) = ap life_move e ∙ value_is (now r) v (λ w. alone (λ u. over) (do_leave w)) (next loose (move r)) n in
        subst (StepsOn s x.number) (sym (unnamed (do_leave v) (λ u. over) moves refl f.1)) (ends_over y x (do_leave v) h found q (a_leave p) (λ w. refl) (ap result_of_life e) (ap is_owed e) moves))
    by (owing r) e z =
        let f = goes_on (ap is_over e) in
        run_steps y x found (own (y.gives.result x.number)) r owing (owing_wraps y.gives x.number x.life r e) names z f.0 f.1
        (λ o h v p q n.
        let moves : life_move x.life ≡ alone ended (do_finish v) = ap life_move e ∙ value_is (now r) v (λ w. alone ended (do_finish w)) (next owing (move r)) n in
        subst (StepsOn s x.number) (sym (unnamed (do_finish v) ended moves refl f.1)) (ends_kept y x r v h found e q p moves))
    by over e z = ended_not over e refl
    by (ended v) e z = ended_not (ended v) e refl

-- a step that is not refused can be done, and leaves a typed state
pub never_stuck_together_lem : NeverStuckTogether
never_stuck_together_lem s y t names = by (thread_at s.threads t) refl
  where
    by : (o : Option Thread) → thread_at s.threads t ≡ o → refused_of s names o ≡ None → StepsOn s t names
    by None e f = cc
    by (Some x) e f = let same = number_of s.threads t x e in subst (λ q. StepsOn s q names) same (thread_steps y x names (ap (thread_at s.threads) same ∙ e) f)

-- WAITING

-- a thread waits for one that goes on
waits_living : {s : Whole} (y : AreTyped s) (x : Thread) (u : ℕ) → thread_at s.threads x.number ≡ Some x → (k : Kind) (r : Run) (wrap : Run → Life) → Wraps y.gives x.number k x.life r wrap → IsRunning y.gives y.high y.types (seen_all y.gives s) x.number x.slots r k
    → waits_for s x ≡ Some (wait.Join u) → now r ≡ going → (w : Thread) × (thread_at s.threads u ≡ Some w) × (is_over w.life ≡ false)
waits_living {s = s} y x u found k r wrap w z waits g =
    let m = goes_of (redex r z.types) g in
    by m.act (focus_run y x found w z) (sym (ap (move_waits s x) (w.moves g ∙ ap (next wrap) m.is)) ∙ waits)
  where
    living : (l : Life) → is_owed l ≡ true → result_of_life l ≡ None → is_over l ≡ false
    living (owing r) e f = refl
    living (ended v) e f = cc
    living (alive r) e f = refl
    living (loose r) e f = refl
    living over e f = cc

    no_value : (o : Option Value) (a b : Wait) → unless_some o a ≡ Some b → (o ≡ None) × (a ≡ b)
    no_value None a b e = (refl, (let q : a ≡ b = cc in q))
    no_value (Some v) a b e = cc

    by : {e e2 : Env} {o o2 : Option Kind} {h : Option Value} {a : Act} → NextTypes threads e o h a o2 e2 → Holds (beside_of y.gives y.types s.threads) e o h (state_of s x) → act_waits s x a ≡ Some (wait.Join u) → (w : Thread) × (thread_at s.threads u ≡ Some w) × (is_over w.life ≡ false)
    by (n_own act) q e = let f = sym ((own_names act).1 s x) ∙ e in cc
    by (n_spawn c types) q e = cc
    by (n_join {v = v} {x = o} p) q e =
        let t = tasked y x o v (at_hand q p) in
        let n = no_value (result_at s.threads t.other.number) (wait.Join t.other.number) (wait.Join u) (sym (ap (join_waits s) t.is) ∙ e) in
        let same : t.other.number ≡ u = let f = n.1 in cc in
        (t.other, subst (λ i. thread_at s.threads i ≡ Some t.other) same t.found, living t.other.life t.owed (sym (ap result_in t.found) ∙ n.0))

-- a thread whose term is done waits for nobody
going_if : {A : Type 0} (s : Whole) (x : Thread) (n : Now) (l : Life) (w : Wait) (f : Value → Life) (a : Value → Act) (d : Option (Move Life)) → ((v : Value) → act_waits s x (a v) ≡ None) → life_move l ≡ on_value n (λ v. alone f (a v)) d → move_waits s x (life_move l) ≡ Some w → (n ≡ going → A) → A
going_if s x going l w f a d none moves waits go = go refl
going_if s x (constant v) l w f a d none moves waits go = let e = sym (none v) ∙ sym (ap (move_waits s x) moves) ∙ waits in cc
going_if s x (temporary v) l w f a d none moves waits go = let e = sym (none v) ∙ sym (ap (move_waits s x) moves) ∙ waits in cc

-- a thread waits for another one alone, which is there and has not ended
pub waits_for_living_lem : WaitsForLiving
waits_for_living_lem s y t u x found waits = by x.life refl (y.each x.number x found2)
  where
    found2 : thread_at s.threads x.number ≡ Some x
    found2 = ap (thread_at s.threads) (number_of s.threads t x found) ∙ found

    Living : Type 0
    Living = (w : Thread) × (thread_at s.threads u ≡ Some w) × (is_over w.life ≡ false)

    no_move : life_move x.life ≡ None → Living
    no_move e = let f = sym (ap (move_waits s x) e) ∙ waits in cc

    by : (l : Life) → x.life ≡ l → IsTypedIn y.gives y.high y.types (seen_all y.gives s) x.number x.slots l → Living
    by (alive r) e z =
        going_if s x (now r) x.life (wait.Join u) (λ q. over) do_end (next alive (move r)) (λ v. refl) (ap life_move e) waits (λ g. waits_living y x u found2 z.0 r alive (alive_wraps y.gives x.number z.0 x.life r e) z.1 waits g)
    by (loose r) e z =
        going_if s x (now r) x.life (wait.Join u) (λ q. over) do_leave (next loose (move r)) (λ v. refl) (ap life_move e) waits (λ g. waits_living y x u found2 z.0 r loose (loose_wraps y.gives x.number z.0 x.life r e) z.1 waits g)
    by (owing r) e z =
        going_if s x (now r) x.life (wait.Join u) ended do_finish (next owing (move r)) (λ v. refl) (ap life_move e) waits (λ g. waits_living y x u found2 (own (y.gives.result x.number)) r owing (owing_wraps y.gives x.number x.life r e) z waits g)
    by over e z = no_move (ap life_move e)
    by (ended v) e z = no_move (ap life_move e)
