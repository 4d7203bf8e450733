-- A join keeps a state typed.
use Rattle.std.proofs.Common.{◌≡◌, ◌≢◌, ⊎_elim, ◌∙◌, ap₂, ℕ, suc, ◌≤◌, true, List, [], ◌∷◌, length, Option, Some, None, refl, sym, ap, subst, arith}
use Rattle.fr_base.specs.declared.label.Plain.{Plain}
use Rattle.fr_base.specs.declared.label.Plain.TheVariants as plain
use Rattle.fr_base.specs.declared.step.Fresh.TheVariants as fresh
use Rattle.fr_typing.specs.Kinds.{Owned, task, Kind, own}
use Rattle.fr_typing.specs.Places.{Env}
use Rattle.fr_store.specs.Keys.{slot_k, result_k}
use Rattle.fr_store.specs.Store.{task_v}
use Rattle.fr_store.specs.Typed.{TopFits, owns, hole}
use Rattle.fr_store.specs.Below.{tree_of}
use Rattle.fr_store.proofs.Keys.{decide_number}
use Rattle.fr_store.proofs.Rows.{top_fits}
use Rattle.fr_store.proofs.ThreadKept.{exact_owned}
use Rattle.fr_plain.specs.declared.value.Value.{Value}
use Rattle.fr_plain.specs.declared.value.Value.TheVariants.{Own}
use Rattle.fr_plain.specs.MachineThreads.{Life, alive, over, owing, loose, ended}
use Rattle.fr_plain.specs.PlainState.{Running, PlainState, place_in}
use Rattle.fr_sound.specs.Entries.{Entry, going}
use Rattle.fr_sound.specs.Seen.{owned_val}
use Rattle.fr_sound.specs.States.{Typing, result_val}
use Rattle.law_plain_values.specs.acts.Positions.{Position, temps_of, PositionTypes}
use Rattle.law_plain_values.proofs.acts.OneThread.{store, typing_with, with_running, runs_still}
use Rattle.law_plain_values.proofs.acts.Focus.{top_some, hand_at}
use Rattle.law_plain_values.proofs.acts.Hand.{At}
use Rattle.law_plain_values.proofs.acts.Operands.{hand_value}
use Rattle.fr_base.specs.declared.step.Wait.{Wait}
use Rattle.fr_base.specs.declared.step.Wait.TheVariants as wait_for
use Rattle.fr_store.specs.Typed.{task_tree}
use Rattle.fr_plain.specs.MachineActs.{do_join}
use Rattle.fr_plain.specs.MachineThreads.{Now, Move, Thread, Whole, with_thread, with_life, thread_at, result_of_life, result_in, result_at}
use Rattle.fr_plain.specs.Machine.{unless_some, joined_with, nameless, act_waits, done_act}
use Rattle.fr_plain.specs.PlainState.{running_in, is_over_in, plain_state}
use Rattle.fr_plain.proofs.ByName.{put_in, put_at, put_off, found_number}
use Rattle.fr_sound.specs.Seen.{Gives}
use Rattle.fr_sound.proofs.Hand.{fits_owned}
use Rattle.law_plain_values.specs.acts.Positions.{moves_by, StartsAs}
use Rattle.law_plain_values.specs.acts.ActRows.{Pops, Leaves, loud, left_after, ActRow, r_join}
use Rattle.fr_plain.specs.Heap.{made_by}
use Rattle.fr_plain.specs.MachineThreads.{is_over}
use Rattle.fr_plain.specs.PlainState.{running}
use Rattle.law_plain_values.proofs.acts.Hand.{Ranked}
use Rattle.law_plain_values.proofs.acts.Operands.{Loaded}
use Rattle.law_plain_values.specs.acts.Keeps.{GoesOn, Ready, StepsTyped, KeepsUnlessWaiting}
use Rattle.law_plain_values.proofs.acts.AtHand.{Only}
use Rattle.law_plain_values.proofs.acts.Refs.{NoneNew, none_owns}
use Rattle.law_plain_values.proofs.acts.Done.{runs_here, only_here, step_by}
use Rattle.law_plain_values.proofs.acts.Envs.{same_tree}
use Rattle.law_plain_values.proofs.acts.Hand.{ranked}
use Rattle.law_plain_values.proofs.acts.Operands.{load}
use Rattle.law_plain_values.proofs.acts.Slots.{owned_value}
use Rattle.law_plain_threads.specs.threads.ThreadActs.{IsJoin}
use Rattle.law_plain_values.proofs.acts.Threads.{objects_counted, goes_by, pairs_by, marks_to_by, marks_back_by, still_here}
use Rattle.law_plain_values.proofs.acts.Stays.{Stays}
use Rattle.law_plain_threads.proofs.threads.Joined.{E2, joined_typed}
use Rattle.fr_store.specs.Rows.{with_type}

-- THE ACT

record JoinRow (x : Entry) (vs : List Value) (v : Value) (l : Leaves) (z : Entry) : Type 0 where
  env : Env
  before : List Kind
  after : List Kind
  left : List Value
  result : Owned
  content : Owned
  pops : Pops before vs v (own (task content)) after left
  entry : x ≡ going env before result
  leaves : l ≡ loud left
  comes : z ≡ going env (own content ∷ after) result

join_row : {x z : Entry} {vs : List Value} {v : Value} {l : Leaves} → ActRow StartsAs x vs (do_join v) l z → JoinRow x vs v l z
join_row (r_join {e = e} {ts = ts} {us = us} {ws = ws} {g = g} {x = x} pops) = record { env = e; before = ts; after = us; left = ws; result = g; content = x; pops = pops; entry = refl; leaves = refl; comes = refl }

-- a value of a task's type is a task of a thread with that result
task_by : (g : Gives) (p : Plain) (k : Owned) → TopFits (task_tree (tree_of k)) (owned_val g p) → (u : ℕ) × (p ≡ plain.Task u) × (g.result u ≡ k)
task_by g plain.Nothing k f = let q = f.1 in cc
task_by g plain.Unit k f = let q = f.1 in cc
task_by g (plain.Int n) k f = let q = f.1 in cc
task_by g (plain.Box o) k f = let q = f.1 in cc
task_by g (plain.Mutex m) k f = let q = f.1 in cc
task_by g (plain.Task u) k f = let q : task_v u (tree_of (g.result u)) ≡ task_v f.0 (tree_of k) = f.1 in let r : tree_of (g.result u) ≡ tree_of k = cc in (u, refl, same_tree (g.result u) k r)

pub no_less : (n : ℕ) → n ≤ n
no_less n = omega arith

one_less : (m n : ℕ) → suc m ≡ suc n → m ≡ n
one_less m n e = omega (arith, e)

-- a thread with a result has ended
pub record Ended (ts : List (Thread Position)) (u : ℕ) : Type 0 where
  pub thread : Thread Position
  pub value : Value
  pub found : thread_at ts u ≡ Some thread
  pub life : thread.life ≡ ended value

pub ended_by : (ts : List (Thread Position)) (u : ℕ) (w : Wait) → unless_some (result_at ts u) w ≡ None → Ended ts u
ended_by ts u w e = by (thread_at ts u) refl e
  where
    in_life : (x : Thread Position) (l : Life Position) → thread_at ts u ≡ Some x → x.life ≡ l → unless_some (result_of_life l) w ≡ None → Ended ts u
    in_life x (alive p) f i g = cc
    in_life x over f i g = cc
    in_life x (owing p) f i g = cc
    in_life x (loose p) f i g = cc
    in_life x (ended v) f i g = record { thread = x; value = v; found = f; life = i }

    by : (o : Option (Thread Position)) → thread_at ts u ≡ o → unless_some (result_in o) w ≡ None → Ended ts u
    by None f g = cc
    by (Some x) f g = in_life x x.life f refl g

-- THREADS AFTER A JOIN

module _ (ts : List (Thread Position)) (n u : ℕ) (t z new : Thread Position) (differ : u ≢ n) (named : new.number ≡ n) (known : z.number ≡ u) (found : thread_at ts n ≡ Some t) (there : thread_at ts u ≡ Some z) where
  abbrev between : List (Thread Position)
  between = with_thread ts (with_life z over)

  thread_here : thread_at (with_thread (with_thread ts (with_life z over)) new) n ≡ Some new
  thread_here = put_at (with_thread ts (with_life z over)) new n named ∙ ap (put_in new) (put_off ts (with_life z over) n (λ f. differ (sym known ∙ f)) ∙ found)

  thread_far : thread_at (with_thread (with_thread ts (with_life z over)) new) u ≡ Some (with_life z over)
  thread_far = put_off (with_thread ts (with_life z over)) new u (λ f. differ (sym f ∙ named)) ∙ put_at ts (with_life z over) u known ∙ ap (put_in (with_life z over)) there

  thread_off : (c : ℕ) → c ≢ n → c ≢ u → thread_at (with_thread (with_thread ts (with_life z over)) new) c ≡ thread_at ts c
  thread_off c nt nu = put_off (with_thread ts (with_life z over)) new c (λ f. nt (sym f ∙ named)) ∙ put_off ts (with_life z over) c (λ f. nu (sym f ∙ known))

  -- the same threads are over
  over_still : is_over_in (Some new) ≡ is_over_in (thread_at ts n) → is_over_in (thread_at ts u) ≡ true → (c : ℕ) → is_over_in (thread_at (with_thread (with_thread ts (with_life z over)) new) c) ≡ is_over_in (thread_at ts c)
  over_still new_goes z_over c =
      ⊎_elim (λ (f : c ≡ n). subst (λ b. is_over_in (thread_at (with_thread (with_thread ts (with_life z over)) new) b) ≡ is_over_in (thread_at ts b)) (sym f) (ap is_over_in thread_here ∙ new_goes))
      (λ (nt : c ≢ n). ⊎_elim (λ (f : c ≡ u). subst (λ b. is_over_in (thread_at (with_thread (with_thread ts (with_life z over)) new) b) ≡ is_over_in (thread_at ts b)) (sym f) (ap is_over_in thread_far ∙ sym z_over))
      (λ (nu : c ≢ u). ap is_over_in (thread_off c nt nu)) (decide_number c u)) (decide_number c n)

-- the operand is a task of a thread with that result
record TaskAtHand (y : Typing) (k : Owned) (v : Value) : Type 0 where
  number : ℕ
  is : v ≡ Own (plain.Task number)
  gives : y.gives.result number ≡ k

module _ {y0 y1 : Typing} {a0 : PlainState Position} {n : ℕ} {x0 : Running Position} {e : Env} {us : List Kind} {g k : Owned} {v : Value} {ws : List Value} (l : Loaded y0 a0 n x0 e us g (own (task k)) v ws) (z : Ranked y1 l.state n l.running e (own (task k) ∷ us) us (Some (own (task k))) g) where
  task_at_hand : TaskAtHand z.typing k v
  task_at_hand =
      let d = owned_value l z in
      let short : length ws ≡ length us = one_less (length ws) (length us) (sym (ap length l.temps) ∙ z.long) in
      let shown : (store z.typing l.state).at (hand_at n us) ≡ owned_val z.typing.gives d.0 = hand_value z.typing l.state n (length us) l.running (Own d.0) ws l.at.runs (l.temps ∙ ap (λ c. c ∷ ws) d.1) (sym short) in
      let full = exact_owned (slot_k n) z.typing.exact (task k) (z.typing.exact (hand_at n us)) z.focus.thread.temp in
      let c = task_by z.typing.gives d.0 k (subst (TopFits (task_tree (tree_of k))) shown (top_fits z.typing.rank z.typing.exact (store z.typing l.state) z.at.state.typed (hand_at n us) (tree_of (task k)) full)) in
      record { number = c.0; is = d.1 ∙ ap Own c.1; gives = c.2 }

  -- the result of a thread is an owned value
  result_owned : (u : ℕ) (v : Value) → l.state.thread u ≡ Some (ended v) → (q : Plain) × (v ≡ Own q)
  result_owned u v was =
      fits_owned z.typing.gives u (z.typing.gives.result u) v
      (subst (TopFits (tree_of (z.typing.gives.result u))) (ap (result_val temps_of z.typing u) was) (top_fits z.typing.rank z.typing.exact (store z.typing l.state) z.at.state.typed (result_k u) (tree_of (z.typing.gives.result u)) (z.at.state.results u v was)))

-- THE ACT, once its operand and the thread's result are known

module _ {y0 : Typing} (s : Whole Position) (t : Thread Position) (p : Position) (wrap : Position → Life Position) (goes : GoesOn wrap) (found : thread_at s.threads t.number ≡ Some t) (at : t.life ≡ wrap p) (e : Env) (us : List Kind) (g k : Owned) (v : Value) (ws : List Value) (runs : place_in ((plain_state s).thread t.number) ≡ Some (record { place = p; slots = t.slots }))
    (l : Loaded y0 (plain_state s) t.number (record { place = p; slots = t.slots }) e us g (own (task k)) v ws) (z : Ranked l.typing l.state t.number l.running e (own (task k) ∷ us) us (Some (own (task k))) g) (c : TaskAtHand z.typing k v) (d : Ended s.threads c.number) where
  abbrev n : ℕ
  n = t.number

  same : Only l.state (plain_state s) t.number (record { place = p; slots = t.slots })
  same = l.only (plain_state s) (record { place = p; slots = t.slots }) (still_here s t p wrap goes found at)

  life_before : (plain_state s).thread c.number ≡ Some (ended d.value)
  life_before = ap running_in d.found ∙ ap (λ q. Some (running d.thread.slots q)) d.life

  differ : c.number ≢ t.number
  differ q = let f : None ≡ Some (record { place = p; slots = t.slots }) = sym (ap place_in life_before) ∙ ap (λ b. place_in ((plain_state s).thread b)) q ∙ runs in cc

  was : l.state.thread c.number ≡ Some (ended d.value)
  was = sym (same.others c.number differ) ∙ life_before

  value : (q : Plain) × (d.value ≡ Own q)
  value = result_owned l z c.number d.value was

  abbrev after : Position
  after = record { entry = going e (own k ∷ us) g; temps = Own value.0 ∷ ws }

  abbrev new : Thread Position
  new = record { number = t.number; life = wrap after; slots = t.slots }

  abbrev next : Whole Position
  next = record s { threads = with_thread (with_thread s.threads (with_life d.thread over)) new }

  known : d.thread.number ≡ c.number
  known = found_number s.threads c.number d.thread d.found

  here : thread_at next.threads t.number ≡ Some new
  here = thread_here s.threads t.number c.number t d.thread new differ refl known found d.found

  far : (plain_state next).thread c.number ≡ Some over
  far = ap running_in (thread_far s.threads t.number c.number t d.thread new differ refl known found d.found)

  others : (w : ℕ) → w ≢ t.number → w ≢ c.number → (plain_state next).thread w ≡ l.state.thread w
  others w nt nu = ap running_in (thread_off s.threads t.number c.number t d.thread new differ refl known found d.found w nt nu) ∙ same.others w nt

  only_put_here : Only l.state (plain_state (record s { threads = with_thread s.threads new; heap = s.heap; output = s.output })) t.number (record { place = after; slots = t.slots })
  only_put_here = l.only _ (record { place = after; slots = t.slots }) (only_here s t p wrap goes found at after t.slots s.heap s.output (λ w. no_less (length (made_by s.heap w))))

  now_is : (plain_state next).thread t.number ≡ with_running (l.state.thread t.number) (record { place = after; slots = l.running.slots })
  now_is =
      ap running_in (here ∙ sym (put_at s.threads new t.number refl ∙ ap (put_in new) found)) ∙ only_put_here.now
      ∙ ap (λ w. with_running (l.state.thread t.number) (record { place = after; slots = w })) (sym l.slots)

  runs_two : place_in ((plain_state next).thread t.number) ≡ Some (record { place = after; slots = l.running.slots })
  runs_two = ap place_in now_is ∙ runs_still (l.state.thread t.number) l.running (record { place = after; slots = l.running.slots }) l.at.runs

  new_goes : is_over_in (Some new) ≡ is_over_in (thread_at s.threads t.number)
  new_goes = ap is_over_in (sym here) ∙ goes_by (thread_at next.threads t.number) (record { place = after; slots = l.running.slots }) runs_two ∙ sym (goes_by (thread_at s.threads t.number) (record { place = p; slots = t.slots }) runs)

  ends : (w : ℕ) → is_over_in (thread_at next.threads w) ≡ is_over_in (thread_at s.threads w)
  ends = over_still s.threads t.number c.number t d.thread new differ refl known found d.found new_goes (ap is_over_in d.found ∙ ap is_over d.life)

  places : (w : ℕ) → w ≢ t.number → place_in ((plain_state next).thread w) ≡ place_in (l.state.thread w)
  places w nt =
      ⊎_elim (λ (f : w ≡ c.number). subst (λ b. place_in ((plain_state next).thread b) ≡ place_in (l.state.thread b)) (sym f) (ap place_in far ∙ sym (ap place_in was)))
      (λ (nu : w ≢ c.number). ap place_in (others w nt nu)) (decide_number w c.number)

  stays : Stays l.state (plain_state next)
  stays = record {
    mutexes = same.mutexes;
    given = same.given;
    objects = λ o. sym (l.objects o);
    marks_to = marks_to_by l.state (plain_state next) t.number l.running (record { place = after; slots = l.running.slots }) l.at.runs runs_two refl places;
    marks_back = marks_back_by l.state (plain_state next) t.number l.running (record { place = after; slots = l.running.slots }) l.at.runs runs_two refl places;
    made = objects_counted next;
  }

  join_state : (q : Typing) × PositionTypes q (plain_state next) × (q.gives ≡ y0.gives) × NoneNew y0.exact q.exact
  join_state = (
    typing_with z.typing (E2 z.typing l.state (plain_state next) t.number c.number l.running e us g k value.0 ws z.at z.focus temps ended_now c.gives) z.typing.marks,
    joined_typed z.typing l.state (plain_state next) t.number c.number l.running e us g k value.0 ws z.at z.focus temps ended_now c.gives now_is far others (λ w. pairs_by s next refl ends w ∙ same.pairs w) stays,
    z.names ∙ l.names,
    λ j b f.
        let h = hand_at t.number us in
        let E1 = with_type z.typing.exact h (owns hole) in
        l.refs j b (z.refs j b (none_owns z.typing.exact h hole j b (none_owns E1 (result_k c.number) hole j b (none_owns (with_type E1 (result_k c.number) (owns hole)) h (tree_of k) j b f)))),
  )
    where
      temps : l.running.place.temps ≡ Own (plain.Task c.number) ∷ ws
      temps = l.temps ∙ ap (λ w. w ∷ ws) c.is

      ended_now : l.state.thread c.number ≡ Some (ended (Own value.0))
      ended_now = was ∙ ap (λ w. Some (ended w)) value.1

module _ (now : Position → Now) (move : Position → Option (Move Position Position)) (y : Typing) (s : Whole Position) (t : Thread Position) (p : Position) (wrap : Position → Life Position) (plug : Value → Position) where
  join_steps : (v : Value) → act_waits s t (do_join v) ≡ None → Ready y s t p wrap (do_join v) plug → StepsTyped y (moves_by now move) s t fresh.None (record { act = do_join v; plug = λ z. wrap (plug z) })
  join_steps v waits r =
      let i = join_row r.row in
      let x : Running Position = record { place = p; slots = t.slots } in
      let runs = runs_here s t p wrap r.goes_on r.found r.at in
      let at0 : At y (plain_state s) t.number x i.env i.before i.result = record { state = r.state; runs = runs; entry = i.entry } in
      let l = load y (plain_state s) t.number x i.env i.result at0 refl i.pops in
      let z = ranked l.typing l.state t.number l.running i.env (own (task i.content) ∷ i.after) i.after (Some (own (task i.content))) i.result l.at top_some l.waits in
      let c = task_at_hand l z in
      let d = ended_by s.threads c.number (wait_for.Join c.number) (subst (λ w. act_waits s t (do_join w) ≡ None) c.is waits) in
      let w = value s t p wrap r.goes_on r.found r.at i.env i.after i.result i.content v i.left runs l z c d in
      let st = join_state s t p wrap r.goes_on r.found r.at i.env i.after i.result i.content v i.left runs l z c d in
      let m : Move Position (Life Position) = record { act = do_join v; plug = λ b. wrap (plug b) } in
      step_by now move s t wrap m plug (Own w.0) (record { entry = going i.env (own i.content ∷ i.after) i.result; temps = Own w.0 ∷ i.left }) (λ b. record s { threads = with_thread (with_thread s.threads (with_life d.thread over)) (record { number = t.number; life = b; slots = t.slots }) }) [] y st.0 r.goes_on
      (r.comes (Own w.0) ∙ ap₂ (λ a b. record { entry = a; temps = left_after b (Own w.0) }) i.comes i.leaves)
      (ap (λ b. done_act (moves_by now move) s t fresh.None m (do_join b)) c.is
      ∙ ap₂ (λ a b. nameless fresh.None (joined_with (moves_by now move) s t m a b)) d.found (ap result_in d.found ∙ ap result_of_life d.life ∙ ap Some w.1))
      st.1
      st.2
      st.3

pub join_keeps : KeepsUnlessWaiting IsJoin
join_keeps now move y s t p wrap act plug h waits r = subst (λ a. StepsTyped y (moves_by now move) s t fresh.None (record { act = a; plug = λ z. wrap (plug z) })) (sym h.1) (join_steps now move y s t p wrap plug h.0 (subst (λ a. act_waits s t a ≡ None) h.1 waits) (subst (λ a. Ready y s t p wrap a plug) h.1 r))
