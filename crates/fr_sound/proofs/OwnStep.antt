-- A step of a thread that goes on by an act of its own keeps a state typed.
use Rattle.std.specs.Prelude.{◌++◌}
use Rattle.std.proofs.Common.{◌≡◌, ℕ, List, [], length, Option, Some, None, sym, ap, ◌∙◌, subst}
use Rattle.fr_plain.specs.Below.fr_base.declared.step.Fresh.TheVariants as fresh
use Rattle.fr_plain.specs.Below.fr_typing.Kinds.{Kind}
use Rattle.fr_plain.specs.Below.fr_typing.Places.{Env}
use Rattle.fr_store.specs.Keys.{hand_k}
use Rattle.fr_store.specs.Store.{at_key, gone_v, put_value}
use Rattle.fr_store.proofs.ListState.{list_put_hand}
use Rattle.fr_plain.specs.declared.value.Value.{Value}
use Rattle.fr_plain.specs.Heap.{Heap}
use Rattle.fr_plain.specs.State.{State}
use Rattle.fr_plain.specs.Acts.{lets_go, drops_last}
use Rattle.fr_plain.specs.Run.{Run, going, now, settle, Move, next, move, Life, settle_life, life_move}
use Rattle.fr_plain.specs.Threads.{result_of_life}
use Rattle.fr_plain.proofs.Tasks.{release_tasks}
use Rattle.fr_plain.specs.Whole.{Thread, Whole, Stepped, thread_at, with_thread, let_go, prints, state_of, stepped, then_released, moved, step_of}
use Rattle.fr_sound.specs.RunTypes.{threads, RunTypes, held, ActTypes, held_after}
use Rattle.fr_sound.specs.Seen.{Gives, Beside, val_of, vals, heap_of, seen, HasNone, Holds}
use Rattle.fr_sound.specs.Together.{HasNeither, held_life, seen_all, is_owed, IsRunning, AreTyped, StepsOn}
use Rattle.fr_sound.proofs.Known.{none_put, none_alike}
use Rattle.fr_sound.proofs.Hand.{Acted}
use Rattle.fr_sound.proofs.ActsHold.{acts_hold}
use Rattle.fr_sound.proofs.Settling.{settle_types, settle_holds}
use Rattle.fr_sound.proofs.Redex.{Passes, stays, leaves_hand, int_at_hand, passes_hold, Becomes, Goes}
use Rattle.fr_sound.proofs.Whole.{own_act}
use Rattle.fr_sound.proofs.Focus.{beside_of, focus}
use Rattle.fr_sound.proofs.Unfocus.{TypesLife, TypedWith, Base, base_of, after_thread, unfocus_alike, unfocus}
use Rattle.fr_sound.proofs.Release.{released_typed}

-- an integer that leaves the hand takes no task along
pub passes_none : (beside : Beside) (st : State) {o o2 : Option Kind} {h h2 : Option Value} (u : ℕ) → Passes o h o2 h2 → HasNone u (seen beside st h) → HasNone u (seen beside st h2)
passes_none beside st u stays none = none
passes_none beside st u (leaves_hand {v = v} i) none =
    let t = st.thread in
    none_alike u (put_value (seen beside st (Some v)) (at_key (hand_k t)) gone_v) (seen beside st None) (none_put u (seen beside st (Some v)) (at_key (hand_k t)) gone_v (λ n r e. cc) none)
    (list_put_hand beside.at t (vals beside.gives t st.slots) (val_of beside.gives t v) (heap_of beside.gives st.heap) gone_v)

-- how a running term stands in a life
pub record Wraps (g : Gives) (t : ℕ) (k : Kind) (l : Life) (r : Run) (wrap : Run → Life) : Type 0 where
  pub held_now : held_life l ≡ held r
  pub result_now : result_of_life l ≡ None
  pub moves : now r ≡ going → life_move l ≡ next wrap (move r)
  pub held_then : (q : Run) → held_life (settle_life (wrap q)) ≡ held (settle q)
  pub result_then : (q : Run) → result_of_life (settle_life (wrap q)) ≡ None
  pub owed_then : (q : Run) → is_owed (settle_life (wrap q)) ≡ is_owed l
  pub types_then : (e : Env) (o : Option Kind) (q : Run) → RunTypes threads e o (settle q) k [] → TypesLife g t (settle_life (wrap q)) e o

module _ (g : Gives) (x : Thread) (ts : List Thread) (y : Base g x.number ts) (found : thread_at ts x.number ≡ Some x) (k : Kind) (r : Run) (wrap : Run → Life) (w : Wraps g x.number k x.life r wrap)
    (e : Env) (o : Option Kind) (h : Option Value) (q : Run) (b : Becomes threads e o h q k []) (slots : List Value) (heap : Heap) where
  -- the state of the thread
  abbrev then_state : State
  then_state = record { thread = x.number; slots = slots; heap = heap }

  abbrev then_life : Life
  then_life = settle_life (wrap q)

  held_settled : held_life then_life ≡ held q
  held_settled = w.held_then q ∙ settle_holds q b.types

  -- what a term becomes by an act is typed beside the other threads
  pub becomes_typed : Holds (beside_of g y.types ts) e o h then_state → (rest : Whole) → HasNeither rest → TypedWith g (record rest { threads = with_thread ts (after_thread x then_life slots); heap = heap })
  becomes_typed z rest neither =
      let z2 : Holds (beside_of g y.types ts) e b.hand (held_life then_life) then_state = subst (λ (v : Option Value). Holds (beside_of g y.types ts) e b.hand v then_state) (sym held_settled) (passes_hold b.passes z) in
      unfocus g x ts y found then_life slots heap rest neither e b.hand z2 (w.result_then q) w.result_now (w.owed_then q) (w.types_then e b.hand q (settle_types q b.types))

  -- and nobody gets a task that nobody had
  pub becomes_none : (rest : Whole) (u : ℕ) → HasNone u (seen (beside_of g y.types ts) then_state h) → HasNone u (seen_all g (record rest { threads = with_thread ts (after_thread x then_life slots); heap = heap }))
  becomes_none rest u none =
      let n2 : HasNone u (seen (beside_of g y.types ts) then_state (held_life then_life)) = subst (λ (v : Option Value). HasNone u (seen (beside_of g y.types ts) then_state v)) (sym held_settled) (passes_none (beside_of g y.types ts) then_state u b.passes none) in
      none_alike u (seen (beside_of g y.types ts) then_state (held_life then_life)) (seen_all g (record rest { threads = with_thread ts (after_thread x then_life slots); heap = heap })) n2
      (unfocus_alike g y.types ts x found then_life slots heap rest (w.result_then q) w.result_now)

-- a state of the same thread
pub thread_state : (st : State) (t : ℕ) → st.thread ≡ t → st ≡ (record { thread = t; slots = st.slots; heap = st.heap })
thread_state st t e = ap (λ (n : ℕ). (let q : State = record { thread = n; slots = st.slots; heap = st.heap } in q)) e

-- a running term beside the others, with what its life holds
pub focus_run : {s : Whole} {r : Run} {k : Kind} {wrap : Run → Life} (y : AreTyped s) (x : Thread) → thread_at s.threads x.number ≡ Some x → Wraps y.gives x.number k x.life r wrap → (z : IsRunning y.gives y.high y.types (seen_all y.gives s) x.number x.slots r k)
    → Holds (beside_of y.gives y.types s.threads) z.env z.temp (held r) (state_of s x)
focus_run {s = s} y x found w z = subst (λ (v : Option Value). Holds (beside_of y.gives y.types s.threads) z.env z.temp v (state_of s x)) w.held_now (focus y x found z)

-- a step by an act of the thread's own
pub own_steps : {s : Whole} {r : Run} {k : Kind} {wrap : Run → Life} (y : AreTyped s) (x : Thread) → thread_at s.threads x.number ≡ Some x → (w : Wraps y.gives x.number k x.life r wrap) → (z : IsRunning y.gives y.high y.types (seen_all y.gives s) x.number x.slots r k)
    → now r ≡ going → (g : Goes threads z.env z.temp (held r) k [] (move r)) → ActTypes z.env z.temp (held r) g.next.act g.left g.env → StepsOn s x.number fresh.None
own_steps {s = s} {r = r} {k = k} {wrap = wrap} y x found w z going_now m act_types =
    let st = state_of s x in
    let a : Acted (beside_of y.gives y.types s.threads) m.next.act (held r) st m.left m.env = acts_hold (focus_run y x found w z) act_types in
    let h = held_after m.next.act (held r) a.did.value in
    let st2 : State = record { thread = x.number; slots = a.did.state.slots; heap = a.did.state.heap } in
    let same = thread_state a.did.state x.number a.same in
    let holds : Holds (beside_of y.gives y.types s.threads) m.env m.left h st2 = subst (λ (q : State). Holds (beside_of y.gives y.types s.threads) m.env m.left h q) same a.holds in
    let b = m.goes a.did.value (int_at_hand m.left h a.holds) in
    let q = m.next.plug a.did.value in
    let out = s.output ++ prints a.did.labels in
    let typed = becomes_typed y.gives x s.threads (base_of y x.number) found k r wrap w m.env m.left h q b a.did.state.slots a.did.state.heap holds (record s { output = out }) y.neither in
    let u = lets_go m.next.act st in
    let move_next : Move Life = record { act = m.next.act; plug = λ v. wrap (m.next.plug v) } in
    let next_state : Whole = record s { threads = with_thread s.threads (after_thread x (settle_life (wrap q)) a.did.state.slots); heap = a.did.state.heap; output = out } in
    let d = drops_last m.next.act st in
    let moves : life_move x.life ≡ Some move_next = w.moves going_now ∙ ap (next wrap) m.is in
    record {
      next = record { state = let_go next_state u; labels = a.did.labels };
      is = ap (step_of s fresh.None) found ∙ ap (moved s x fresh.None) moves ∙ own_act act_types s x move_next ∙ ap (λ z. then_released d (stepped s x move_next z)) a.is ∙ ap (λ (z : Whole). (let n : Stepped = record { state = z; labels = a.did.labels } in Some n)) (release_tasks next_state y.neither.0 d);
      typed = released_typed (length next_state.threads) typed.together u (λ t f. subst (λ (g : Gives). HasNone t (seen_all g next_state)) (sym typed.same)
          (becomes_none y.gives x s.threads (base_of y x.number) found k r wrap w m.env m.left h q b a.did.state.slots a.did.state.heap (record s { output = out }) t (subst (λ (p : State). HasNone t (seen (beside_of y.gives y.types s.threads) p h)) same (a.frees t f))));
    }
