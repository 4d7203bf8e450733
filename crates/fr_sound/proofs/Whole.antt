-- The whole machine: a typed state steps, or has ended.
use Rattle.std.proofs.Common.{◌≡◌, ℕ, zero, suc, ◌-◌, Bool, true, false, [], ◌∷◌, ◌++◌, length, Option, Some, None, refl, sym, ap, ◌∙◌, subst, arith}
use Rattle.std.specs.Prelude.{◌==◌, ◌⊎◌, if◌then◌else◌, slice_get}
use Rattle.fr_plain.proofs.HeapLemmas.{flat_past}
use Rattle.std.proofs.Common.{inl, inr}
use Rattle.fr_plain.specs.Below.fr_base.declared.step.Fresh.TheVariants as fresh
use Rattle.fr_plain.specs.Below.fr_terms.Terms.{block_t, Items}
use Rattle.fr_plain.specs.Below.fr_typing.Kinds.{Kind}
use Rattle.fr_plain.specs.Below.fr_typing.Places.{Env}
use Rattle.fr_plain.specs.Below.fr_typing.Typing.{Types, types_block}
use Rattle.fr_plain.proofs.Below.fr_typing.PlaceLemmas.{eq_cases}
use Rattle.fr_store.specs.Keys.{slot_k, hand_k}
use Rattle.fr_store.specs.Store.{Alike, Location, at_key, at_object, Val, gone_v, task_v, value_at}
use Rattle.fr_store.specs.ListState.{nothing, store_of}
use Rattle.fr_store.specs.Typed.{Tree, KeyTypes, hole, owns}
use Rattle.fr_store.proofs.OtherThreads.{start_row}
use Rattle.fr_store.proofs.ListState.{list_start, Alike-then}
use Rattle.fr_plain.specs.declared.value.Value.{Value}
use Rattle.fr_plain.specs.Heap as plain_heap
use Rattle.fr_plain.specs.State.{State}
use Rattle.fr_plain.specs.Acts.{Act, do_end, Did, act, lets_go, drops_last}
use Rattle.fr_plain.specs.Run.{Run, Now, going, now, on_value, settle, Move, next, alone, move, Life, alive, over, owing, loose, ended, settle_life, life_move}
use Rattle.fr_plain.specs.Threads.{released, released_in}
use Rattle.fr_plain.specs.Whole.{Thread, Whole, Stepped, thread_at, with_thread, let_threads_go, let_go, prints, state_of, stepped, then_released, alone_stepped, done_act, moved, step_of, step}
use Rattle.fr_plain.specs.Resolve.{program}
use Rattle.fr_plain.proofs.Tasks.{release_tasks}
use Rattle.fr_sound.specs.RunTypes.{one_thread, NextTypes, n_own, RunTypes, held, held_after, Operand, o_temp, ActTypes, a_let, a_copy, a_move, a_borrow, a_borrow_mut, a_assign, a_box, a_arith, a_print, a_discard, a_drop, a_end, a_leave}
use Rattle.fr_sound.specs.Seen.{lone, seen_cell, heap_of, seen, rank_of, IsKnown, IsBeside, Holds}
use Rattle.fr_sound.specs.NeverStuck.{IsAlive, IsTypedLife, Steps, NeverStuck, StartsTyped}
use Rattle.fr_sound.proofs.DoneTerms.{Done, d_going, d_constant, d_temporary, done, quiet}
use Rattle.fr_sound.proofs.Settling.{settle_types, settle_holds}
use Rattle.fr_sound.proofs.Redex.{int_at_hand, passes_hold, Goes, goes_of, redex}
use Rattle.fr_sound.proofs.Hand.{after_holds, seen_heap}
use Rattle.fr_sound.proofs.ActsHold.{acts_hold}
use Rattle.fr_sound.proofs.Bridge.{sequential_forms, drop_all, resolve_runs}

-- A STEP OF A LIFE

-- a typed act is one of the thread alone
pub own_act : {e e2 : Env} {o o2 : Option Kind} {h : Option Value} {a : Act} → ActTypes e o h a o2 e2 → (s : Whole) (t : Thread) (m : Move Life) → done_act s t fresh.None m a ≡ alone_stepped s t m a
own_act (a_let name p) s t m = refl
own_act (a_copy c) s t m = refl
own_act (a_move c) s t m = refl
own_act (a_borrow c) s t m = refl
own_act (a_borrow_mut c) s t m = refl
own_act (a_assign p c) s t m = refl
own_act (a_box p) s t m = refl
own_act (a_arith i p) s t m = refl
own_act (a_print p) s t m = refl
own_act a_discard s t m = refl
own_act (a_drop names) s t m = refl
own_act (a_end p) s t m = refl
own_act (a_leave p) s t m = refl

-- of the forms of one thread each act is
own_of : {e e2 : Env} {o o2 : Option Kind} {h : Option Value} {a : Act} → NextTypes one_thread e o h a o2 e2 → ActTypes e o h a o2 e2
own_of (n_own a) = a

-- the life after the act is typed over the state after it
pub record LifeSteps (l : Life) (st : State) : Type 0 where
  pub move : Move Life
  pub is : life_move l ≡ Some move
  pub own : (s : Whole) (t : Thread) → done_act s t fresh.None move move.act ≡ alone_stepped s t move move.act
  pub did : Did
  pub acts : act move.act st ≡ Some did
  pub same : did.state.thread ≡ st.thread
  pub typed : IsTypedLife (settle_life (move.plug did.value)) did.state

-- a thread whose term is done ends
life_ends : {e : Env} {o : Option Kind} {h : Option Value} {k : Kind} (r : Run) (st : State) (v : Value) → Operand o h v k → Holds lone e o h st → e ≡ [] → (life_move (alive r) ≡ alone (λ u. over) (do_end v)) → LifeSteps (alive r) st
life_ends {o = o} {h = h} r st v p y same is =
    let y1 = subst (λ (f : Env). Holds lone f o h st) same y in
    let a = acts_hold y1 (a_end p) in
    record { move = record { act = do_end v; plug = λ u. over }; is = is; own = λ s t. refl; did = a.did; acts = a.is; same = a.same; typed = a.holds }

-- a thread whose term goes on steps
life_goes : (r : Run) (st : State) (y : IsAlive r st) → now r ≡ going → Goes one_thread y.env y.temp (held r) y.type [] (move r) → LifeSteps (alive r) st
life_goes r st y g m =
    let act = own_of m.act in
    let a = acts_hold y.holds act in
    let q = m.next.plug a.did.value in
    let b = m.goes a.did.value (int_at_hand m.left (held_after m.next.act (held r) a.did.value) a.holds) in
    let holds : Holds lone m.env b.hand (held (settle q)) a.did.state =
    subst (λ (h : Option Value). Holds lone m.env b.hand h a.did.state) (sym (settle_holds q b.types)) (passes_hold b.passes a.holds) in
    record {
      move = record { act = m.next.act; plug = λ v. alive (m.next.plug v) };
      is = ap (λ n. on_value n (λ v. alone (λ x. over) (do_end v)) (next alive (move r))) g ∙ ap (next alive) m.is;
      own = λ s t. own_act act s t (record { act = m.next.act; plug = λ v. alive (m.next.plug v) });
      did = a.did;
      acts = a.is;
      same = a.same;
      typed = record { env = m.env; temp = b.hand; type = y.type; types = settle_types q b.types; holds = holds };
    }

-- a thread, by whether its term is done
life_by : {n : Now} {e f : Env} {o : Option Kind} {h : Option Value} {k : Kind} (r : Run) (st : State) → now r ≡ n → Done n e o h k f → Holds lone e o h st → f ≡ [] → (n ≡ going → LifeSteps (alive r) st) → LifeSteps (alive r) st
life_by r st e d_going y none go = go refl
life_by r st e (d_constant p) y none go = life_ends r st _ p y none (ap (λ n. on_value n (λ v. alone (λ x. over) (do_end v)) (next alive (move r))) e)
life_by r st e d_temporary y none go = life_ends r st _ o_temp y none (ap (λ n. on_value n (λ v. alone (λ x. over) (do_end v)) (next alive (move r))) e)

-- a thread that is alive steps
life_steps : (r : Run) (st : State) → IsAlive r st → LifeSteps (alive r) st
life_steps r st y = life_by r st refl (done r y.types) y.holds refl (λ e. life_goes r st y e (goes_of (redex r y.types) e))

-- A STEP OF THE WHOLE

-- the one thread is replaced
same_thread : (t : Thread) (new : Thread) → t.number ≡ new.number → with_thread (t ∷ []) new ≡ new ∷ []
same_thread t new e = eq_cases (λ b. (if b then new ∷ [] else t ∷ []) ≡ new ∷ []) t.number new.number (λ _. refl) (λ ne. absurd (ne e))

-- the one thread is found
only_thread : (t : Thread) → thread_at (t ∷ []) t.number ≡ Some t
only_thread t = eq_cases (λ b. (if b then Some t else None) ≡ Some t) t.number t.number (λ _. refl) (λ ne. absurd (ne refl))

-- no other thread is there to be let go
none_released : (n : ℕ) (s : Whole) (x : Thread) (st : State) → s.threads ≡ x ∷ [] → IsTypedLife x.life st → (u : Option ℕ) → let_threads_go n s u ≡ s
none_released n s x st only y None = refl
none_released zero s x st only y (Some u) = refl
none_released (suc n) s x st only y (Some u) = ap (λ ts. released_in (let_threads_go n) s (thread_at ts u)) only ∙ by (x.number == u)
  where
    by_life : (l : Life) → x.life ≡ l → IsTypedLife l st → released_in (let_threads_go n) s (Some x) ≡ s
    by_life (alive r) e z = ap (released (let_threads_go n) s x) e
    by_life over e z = ap (released (let_threads_go n) s x) e
    by_life (owing r) e z = absurd z
    by_life (loose r) e z = absurd z
    by_life (ended v) e z = absurd z

    by : (b : Bool) → released_in (let_threads_go n) s (if b then Some x else None) ≡ s
    by true = by_life x.life refl y
    by false = refl

-- a thread of a typed state has ended or steps
pub never_stuck_lem : NeverStuck
never_stuck_lem s y = by y.thread.life refl y.life
  where
    t : Thread
    t = y.thread

    after : (m : LifeSteps t.life (state_of s t)) → Steps s t.number
    after m =
        let next : Stepped = record {
          state = record s { threads = with_thread s.threads (record { number = t.number; life = settle_life (m.move.plug m.did.value); slots = m.did.state.slots }); heap = m.did.state.heap; output = s.output ++ prints m.did.labels };
          labels = m.did.labels;
        } in
        let new : Thread = record { number = t.number; life = settle_life (m.move.plug m.did.value); slots = m.did.state.slots } in
        let only : next.state.threads ≡ new ∷ [] = ap (λ ts. with_thread ts new) y.only ∙ same_thread t new refl in
        let found : thread_at s.threads t.number ≡ Some t = ap (λ ts. thread_at ts t.number) y.only ∙ only_thread t in
        let u : Option ℕ = lets_go m.move.act (state_of s t) in
        let last = drops_last m.move.act (state_of s t) in
        let freed : Some (record { state = let_go next.state u; labels = next.labels }) ≡ Some next = ap (λ (q : Whole). (let x : Stepped = record { state = q; labels = next.labels } in Some x)) (none_released (length next.state.threads) next.state new m.did.state only m.typed u) in
        let is : step s t.number fresh.None ≡ Some next =
        ap (step_of s fresh.None) found ∙ ap (moved s t fresh.None) m.is ∙ m.own s t ∙ ap (λ d. then_released last (stepped s t m.move d)) m.acts
        ∙ ap (λ (q : Whole). (let x : Stepped = record { state = q; labels = next.labels } in Some x)) (release_tasks next.state y.neither.0 last) ∙ freed in
        let st2 : State = record m.did.state { thread = t.number } in
        let same : m.did.state ≡ st2 = ap (λ (n : ℕ). (let q : State = record m.did.state { thread = n } in q)) m.same in
        record { next = next; is = is; typed = record { thread = new; only = only; neither = y.neither; life = subst (λ (q : State). IsTypedLife new.life q) same m.typed } }

    by : (l : Life) → t.life ≡ l → IsTypedLife l (state_of s t) → (t.life ≡ over) ⊎ Steps s t.number
    by over e z = inl e
    by (owing r) e z = absurd z
    by (loose r) e z = absurd z
    by (ended v) e z = absurd z
    by (alive r) e z = inr (after (subst (λ (l : Life). LifeSteps l (state_of s t)) (sym e) (life_steps r (state_of s t) z)))

-- THE START

-- no object is there at the start
pub empty_cell : (b : Bool) (i : ℕ) → plain_heap.flat (slice_get (if b then [] else []) i) ≡ None
empty_cell true i = flat_past [] i (omega arith)
empty_cell false i = flat_past [] i (omega arith)

-- the state at the start
abbrev at_start : State
at_start = record { thread = 0; slots = []; heap = record { thread = 0; cells = [] } ∷ [] }

-- the store at the start is empty
start_alike : Alike (record { at = λ _. gone_v; heap = λ _. None }) (seen lone at_start None)
start_alike =
    Alike-then (record { at = λ _. gone_v; heap = λ _. None }) (store_of 0 [] gone_v (λ _. None)) (seen lone at_start None) (list_start 0)
    (seen_heap nothing 0 [] gone_v (λ _. None) (heap_of lone.gives at_start.heap) (λ q. sym (ap (seen_cell lone.gives) (empty_cell (0 == q.thread) q.count))))

-- the state at the start is typed
start_holds : Holds lone [] None None at_start
start_holds =
    let e : KeyTypes = λ _. owns hole in
    let y = start_row (slot_k 0) (rank_of 0) (hand_k 0) in
    let near : IsBeside lone 0 e = record { others = λ k ne. refl; own = λ k m u is. cc } in
    after_holds at_start [] None None 0 {E = e} {s = record { at = λ _. gone_v; heap = λ _. None }} (omega arith) near (record { env = e; thread = y; others = λ j a b. refl; new = λ j m u g. cc }) start_alike refl
    (record { each = each; once = λ l m t a b f. absurd (no_task l t a f) })
  where
    each : (l : Location) (v : Val) → value_at (record { at = λ _. gone_v; heap = λ _. None }) l ≡ Some v → IsKnown lone.owed at_start.heap v
    each (at_key k) v e = let same : gone_v ≡ v = cc in subst (IsKnown lone.owed at_start.heap) same tt
    each (at_object q) v e = cc

    no_task : (l : Location) (t : ℕ) (r : Tree) → value_at (record { at = λ _. gone_v; heap = λ _. None }) l ≡ Some (task_v t r) → ⊥
    no_task (at_key k) t r e = cc
    no_task (at_object q) t r e = cc

-- a block leaves the environment that it found, where that is empty
pub block_leaves : {at : ℕ} {items : Items} {k : Kind} {f e : Env} → Types f (block_t at items) k e → f ≡ [] → e ≡ []
block_leaves {f = f} (types_block {e1 = e1} y n) h = let z = ap length h in drop_all (length e1 - length f) e1 (omega (arith, z))

-- a typed program starts typed
pub starts_typed_lem : StartsTyped
starts_typed_lem at items k e a y =
    let t = block_t at items in
    let runs : RunTypes one_thread [] None (program t) k [] = subst (λ (f : Env). RunTypes one_thread [] None (program t) k f) (block_leaves y refl) (resolve_runs one_thread t (sequential_forms t a) y) in
    record {
      thread = record { number = 0; life = alive (settle (program t)); slots = [] };
      only = refl;
      neither = (refl, refl);
      life = record {
        env = [];
        temp = None;
        type = k;
        types = settle_types (program t) runs;
        holds = subst (λ (h : Option Value). Holds lone [] None h at_start) (sym (settle_holds (program t) runs ∙ quiet (program t) runs)) start_holds;
      };
    }
