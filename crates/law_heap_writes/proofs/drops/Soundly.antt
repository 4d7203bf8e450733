-- What a sound cluster tells of what is owned: objects and tasks are owned once, a task's thread was given its name and is no branch, and no node owns itself.
use Rattle.std.proofs.Common.{◌≡◌, ℕ, zero, suc, ◌+◌, ◌<◌, ◌≤◌, ◌==◌, ◌&&◌, not, Bool, true, false, if◌then◌else◌, List, [], ◌∷◌, ◌++◌, Some, None, refl, sym, ap, ◌∙◌, subst, arith}
use Rattle.std.specs.Prelude.{nat_lt}
use Rattle.std.proofs.lemmas.Bool.Decides.{nat_tests}
use Rattle.law_words_writes.proofs.Below.law_results_reads.Below.fr_typing.PlaceLemmas.{eq_cases}
use Rattle.law_words_writes.specs.Below.law_results_reads.Below.fr_base.declared.name.ObjNo.{ObjNo}
use Rattle.law_words_writes.specs.Below.law_results_reads.Below.heap_partition.declared.value.Owned.{Owned}
use Rattle.law_words_writes.specs.Below.law_results_reads.Below.heap_partition.declared.value.Owned.TheVariants as owned
use Rattle.law_words_writes.specs.Below.law_results_reads.Below.join_home.Tasks.{TaskState, going, let_go, kept, asked, in_pair}
use Rattle.law_words_writes.specs.Below.law_results_reads.Below.thread_state.View.{ThreadState, is_over}
use Rattle.law_words_writes.specs.Below.law_results_reads.Below.server_model.Servers.{Cluster}
use Rattle.law_words_writes.specs.Below.law_results_reads.Below.coherent_memory.Names.{tot, one, other, some, if_so, boxes, task_values}
use Rattle.law_words_writes.specs.Below.law_results_reads.Below.coherent_memory.Things.{Spot, in_slot, in_temp, as_gift, as_content, as_result, in_hand, Thing, holds, lies, flies, sent, stands, noted, things_of}
use Rattle.law_words_writes.specs.Below.law_results_reads.Below.coherent_memory.Follow.{Standing, threads_in, thread_at}
use Rattle.law_words_writes.specs.Below.law_results_reads.Below.coherent_memory.Sight.{Sight, sight}
use Rattle.law_words_writes.specs.Below.law_results_reads.Below.coherent_memory.Requests.{home_of}
use Rattle.law_words_writes.specs.Below.law_results_reads.Below.coherent_memory.Sharing.{got_phase, going_on, finished_of, going_notes, goes_on, owes, owed, kept_note, results, has_ended}
use Rattle.law_words_writes.specs.Below.law_results_reads.Below.coherent_memory.Naming.{count_of, threads, started_at, uncounted_thread, zeroth_thread, named_mutexes, uncounted_mutex, zeroth_mutex}
use Rattle.law_words_writes.specs.Below.law_results_reads.Below.coherent_memory.Ranks.{Step, steps_of, Falls}
use Rattle.law_words_writes.specs.Below.law_results_reads.Below.coherent_memory.Rooted.{ownings_of, ownings}
use Rattle.law_words_writes.specs.Below.law_results_reads.Below.coherent_memory.Weights.{owners, tasks_of, is_thread}
use Rattle.law_words_writes.specs.Below.law_results_reads.Below.coherent_memory.OneHeap.{Node, object_n, mutex_n, task_n, Owner, a_thread, inside, outside, spot_owner, owner_of, owns, names, first_shown, pair_note, branch_result, result_value, is_given_thread}
use Rattle.law_words_writes.specs.Below.law_results_reads.Below.coherent_memory.Coherent.{IsSound}
use Rattle.law_words_writes.proofs.Below.law_results_reads.Below.coherent_memory.Names.{same_mutexes}
use Rattle.law_words_writes.proofs.Below.law_results_reads.Below.fr_store.Keys.{object_cases}
use Rattle.std.proofs.lemmas.Bool.{eqb-true}
use Rattle.law_heap_steps.specs.Below.law_heap_still.events.Shows.{held_branch}
use Rattle.law_heap_steps.proofs.Below.law_heap_still.events.Alike.{Once}
use Rattle.law_heap_steps.proofs.Below.law_heap_still.events.Counting.{none_first}
use Rattle.law_heap_steps.proofs.turns.Events.{given_by_count}
use Rattle.law_heap_writes.proofs.drops.Under.{held_value, owned_by, under_names, node_is}
use Rattle.law_heap_writes.proofs.drops.Carrying.{is_sole}

-- a sum over things falls with each of its weights
pub all_at_most : (f g : Thing → ℕ) → ((th : Thing) → f th ≤ g th) → (xs : List Thing) → tot f xs ≤ tot g xs
all_at_most f g e [] = omega arith
all_at_most f g e (th ∷ xs) = omega (arith, e th, all_at_most f g e xs)

two_of_three : (f g h i j : Thing → ℕ) → ((th : Thing) → f th + g th + h th ≤ i th + j th) → (xs : List Thing) → tot f xs + tot g xs + tot h xs ≤ tot i xs + tot j xs
two_of_three f g h i j e [] = omega arith
two_of_three f g h i j e (th ∷ xs) = omega (arith, e th, two_of_three f g h i j e xs)

two_and_two : (f g h i : Thing → ℕ) → ((th : Thing) → f th + g th ≤ h th + i th) → (xs : List Thing) → tot f xs + tot g xs ≤ tot h xs + tot i xs
two_and_two f g h i e [] = omega arith
two_and_two f g h i e (th ∷ xs) = omega (arith, e th, two_and_two f g h i e xs)

abbrev pub names_it : Node → Thing → ℕ
names_it q th = one (names q th)

-- OBJECTS AND TASKS

module _ (o : ObjNo) where
  box_owned : (v : Owned) → one (owns (object_n o) v) ≤ boxes o v
  box_owned (owned.Box p) = omega arith
  box_owned owned.Nothing = omega arith
  box_owned owned.Unit = omega arith
  box_owned (owned.Int i) = omega arith
  box_owned (owned.Mutex m) = omega arith
  box_owned (owned.Task t) = omega arith

  box_named : (th : Thing) → names_it (object_n o) th ≤ owners o th
  box_named (holds p v) = omega (arith, box_owned v)
  box_named (lies r a c) = omega (arith, box_owned c.value)
  box_named (flies w c) = omega (arith, box_owned c.value)
  box_named _ = omega arith

module _ (u : ℕ) where
  task_owned : (v : Owned) → one (owns (task_n u) v) ≤ task_values u v
  task_owned (owned.Task w) = omega arith
  task_owned owned.Nothing = omega arith
  task_owned owned.Unit = omega arith
  task_owned (owned.Int i) = omega arith
  task_owned (owned.Box p) = omega arith
  task_owned (owned.Mutex m) = omega arith

  task_named : (th : Thing) → names_it (task_n u) th ≤ tasks_of u th
  task_named (holds p v) = omega (arith, task_owned v)
  task_named (lies r a c) = omega (arith, task_owned c.value)
  task_named (flies w c) = omega (arith, task_owned c.value)
  task_named _ = omega arith

  -- a weight of threads that counts it counts who owns its task
  module _ (f : ℕ → ℕ) where
    counts_owned : (v : Owned) → 1 ≤ f u → one (owns (task_n u) v) ≤ threads f (holds in_hand v)
    counts_owned (owned.Task w) l = eq_cases (λ b. one b ≤ f w) w u (λ e. let m : 1 ≤ f w = subst (λ z. 1 ≤ f z) (sym e) l in omega (arith, m)) (λ _. omega arith)
    counts_owned owned.Nothing l = omega arith
    counts_owned owned.Unit l = omega arith
    counts_owned (owned.Int i) l = omega arith
    counts_owned (owned.Box p) l = omega arith
    counts_owned (owned.Mutex m) l = omega arith

    counts_named : 1 ≤ f u → (th : Thing) → names_it (task_n u) th ≤ threads f th
    counts_named l (holds p v) = counts_owned v l
    counts_named l (lies r a c) = let m = counts_owned c.value l in omega (arith, m)
    counts_named l (flies w c) = let m = counts_owned c.value l in omega (arith, m)
    counts_named l _ = omega arith

    uncounted : (xs : List Thing) → 1 ≤ tot (names_it (task_n u)) xs → tot (threads f) xs ≡ 0 → f u ≡ 0
    uncounted xs n z = by (f u) refl
      where
        by : (i : ℕ) → f u ≡ i → f u ≡ 0
        by zero e = e
        by (suc i) e = absurd (omega (arith, n, z, all_at_most (names_it (task_n u)) (threads f) (counts_named (omega (arith, e))) xs))

  -- a branch isn't owed to a task value
  some_at_most : (c : ℕ) → one (some c) ≤ c
  some_at_most zero = omega arith
  some_at_most (suc c) = omega arith

  abbrev finishes : Thing → ℕ
  finishes (sent r m) = finished_of u m
  finishes th = 0

  note_owes : (q : Bool) (x : TaskState) → if_so q (pair_note x) + one (q && owes x) ≤ one (q && going_on x) + if_so q (kept_note x)
  note_owes true going = omega arith
  note_owes true let_go = omega arith
  note_owes true (kept v) = omega arith
  note_owes true (asked r t) = omega arith
  note_owes true (in_pair p true) = omega arith
  note_owes true (in_pair p false) = omega arith
  note_owes false x = omega arith

  branch_owes : (s : Sight) (th : Thing) → held_branch u th + owed s u th + finishes th ≤ going_notes u th + results s u th
  branch_owes s (noted r x) = omega (arith, note_owes (x.thread == u) x.state)
  branch_owes s (sent r m) = omega arith
  branch_owes s (stands r p x) = omega (arith, some_at_most (got_phase u x.phase))
  branch_owes s _ = omega arith

  parts : (a z o : Bool) → one (a && (not z && not o)) + one (a && (not z && o)) ≤ one a
  parts true true o = omega arith
  parts true false true = omega arith
  parts true false false = omega arith
  parts false z o = omega arith

  goes_or_ended : (th : Thing) → goes_on u th + has_ended u th ≤ is_thread u th + finishes th
  goes_or_ended (stands r p x) = omega (arith, parts (x.number == u) (x.number == 0) (is_over x.phase))
  goes_or_ended (sent r m) = omega arith
  goes_or_ended _ = omega arith

-- IN A SOUND CLUSTER

module _ (k : Cluster) (sound : IsSound k) where
  -- an object and a task have at most one owner
  pub sole_owner : (q : Node) → is_sole q ≡ true → tot (names_it q) (things_of k) ≤ 1
  sole_owner (object_n o) e = omega (arith, all_at_most (names_it (object_n o)) (owners o) (box_named o) (things_of k), sound.one_owner.owner_of_each o, sound.one_home.home_of_each o)
  sole_owner (task_n u) e = omega (arith, all_at_most (names_it (task_n u)) (tasks_of u) (task_named u) (things_of k), sound.mutexes_and_tasks.one_task_value u)
  sole_owner (mutex_n m) e = absurd (cc e)

  -- a thread whose task is owned is no branch
  pub no_branch : (u : ℕ) → 1 ≤ tot (names_it (task_n u)) (things_of k) → tot (held_branch u) (things_of k) ≡ 0
  no_branch u l =
      omega (
        arith,
        l,
        all_at_most (names_it (task_n u)) (tasks_of u) (task_named u) (things_of k),
        two_of_three (held_branch u) (owed (sight k) u) (finishes u) (going_notes u) (results (sight k) u) (branch_owes u (sight k)) (things_of k),
        two_and_two (goes_on u) (has_ended u) (is_thread u) (finishes u) (goes_or_ended u) (things_of k),
        sound.mutexes_and_tasks.task_values_owed u,
        sound.mutexes_and_tasks.noted_go_on u,
        sound.mutexes_and_tasks.one_result u,
        sound.names.numbers_differ u,
      )

  -- and its name was given
  pub given_owned : (u : ℕ) → 1 ≤ tot (names_it (task_n u)) (things_of k) → is_given_thread (sight k) u ≡ true
  given_owned u l =
      let b : tot (threads (uncounted_thread (sight k))) (things_of k) + tot (named_mutexes (uncounted_mutex (sight k))) (things_of k) ≡ 0 = sound.names.names_counted in
      let c : tot (threads zeroth_thread) (things_of k) + tot (named_mutexes zeroth_mutex) (things_of k) ≡ 0 = sound.names.counts_from_one in
      given_by_count (count_of u == 0) (u == 0) (some (tot (started_at (home_of u) (count_of u)) (things_of k))) (uncounted u zeroth_thread (things_of k) l (omega (arith, c))) (uncounted u (uncounted_thread (sight k)) (things_of k) l (omega (arith, b)))

  -- RANKS

  abbrev pub rank : Node → ℕ
  rank = sound.rooted.none_owns_itself.rank

  -- steps on which the rank doesn't fall
  abbrev pub unfallen : Step Node → ℕ
  unfallen e = other (nat_lt (rank e.to) (rank e.from))

  abbrev pub unfallen_at : Thing → ℕ
  unfallen_at th = tot unfallen (ownings_of (sight k) th)

  falls_so : (a b : ℕ) → a < b → other (nat_lt a b) ≡ 0
  falls_so a b l = ap other (let e : nat_lt a b ≡ true = grind (arith, nat_tests, l) in e)

  so_falls : (a b : ℕ) → other (nat_lt a b) ≡ 0 → a < b
  so_falls a b e = by (nat_lt a b) refl e
    where
      by : (c : Bool) → nat_lt a b ≡ c → other c ≡ 0 → a < b
      by true d z = grind (arith, nat_tests, d)
      by false d z = absurd (cc z)

  steps_fall : (es : List (Step Node)) → Falls rank es → tot unfallen es ≡ 0
  steps_fall [] h = refl
  steps_fall (e ∷ es) h = omega (arith, falls_so (rank e.to) (rank e.from) h.0, steps_fall es h.1)

  tot-steps : (f : Step Node → ℕ) (es fs : List (Step Node)) → tot f (es ++ fs) ≡ tot f es + tot f fs
  tot-steps f [] fs = omega arith
  tot-steps f (e ∷ es) fs = omega (arith, tot-steps f es fs)

  steps_by_thing : (xs : List Thing) → tot unfallen (steps_of (ownings_of (sight k)) xs) ≡ tot unfallen_at xs
  steps_by_thing [] = refl
  steps_by_thing (th ∷ xs) = omega (arith, tot-steps unfallen (ownings_of (sight k) th) (steps_of (ownings_of (sight k)) xs), steps_by_thing xs)

  pub all_fall : tot unfallen_at (things_of k) ≡ 0
  all_fall = omega (arith, steps_by_thing (things_of k), steps_fall (ownings (sight k)) sound.rooted.none_owns_itself.falls)

  -- from an owner to what a value owns
  abbrev own_steps : Owner → Owned → List (Step Node)
  own_steps (inside p) (owned.Box b) = record { from = p; to = object_n b.object } ∷ []
  own_steps (inside p) (owned.Mutex m) = record { from = p; to = mutex_n m } ∷ []
  own_steps (inside p) (owned.Task t) = record { from = p; to = task_n t } ∷ []
  own_steps o v = []

  -- a step from a node to what a value owns
  falls_by : (p q : Node) (v : Owned) → tot unfallen (own_steps (inside p) v) ≡ 0 → owns q v ≡ true → rank q < rank p
  falls_by p (object_n o) (owned.Box b) z e =
      subst (λ w. rank (object_n w) < rank p) (object_cases (λ c. c ≡ true → b.object ≡ o) b.object o (λ f _. f) (λ _ f. absurd (cc f)) e) (so_falls (rank (object_n b.object)) (rank p) (omega (arith, z)))
  falls_by p (mutex_n m) (owned.Mutex w) z e = subst (λ w. rank (mutex_n w) < rank p) (same_mutexes w m e) (so_falls (rank (mutex_n w)) (rank p) (omega (arith, z)))
  falls_by p (task_n t) (owned.Task u) z e = subst (λ w. rank (task_n w) < rank p) (eqb-true u t e) (so_falls (rank (task_n u)) (rank p) (omega (arith, z)))
  falls_by p (object_n o) (owned.Mutex w) z e = absurd (cc e)
  falls_by p (object_n o) (owned.Task u) z e = absurd (cc e)
  falls_by p (mutex_n m) (owned.Box b) z e = absurd (cc e)
  falls_by p (mutex_n m) (owned.Task u) z e = absurd (cc e)
  falls_by p (task_n t) (owned.Box b) z e = absurd (cc e)
  falls_by p (task_n t) (owned.Mutex w) z e = absurd (cc e)
  falls_by p (object_n o) _ z e = absurd (cc e)
  falls_by p (mutex_n m) _ z e = absurd (cc e)
  falls_by p (task_n t) _ z e = absurd (cc e)

  gift_steps : (t : ℕ) (v : Owned) (o : Owner) → owner_of (sight k) (holds (as_gift t) v) ≡ o → ownings_of (sight k) (holds (as_gift t) v) ≡ own_steps o v
  gift_steps t v a_thread e = rw e refl
  gift_steps t v outside e = rw e refl
  gift_steps t owned.Nothing (inside p) e = rw e refl
  gift_steps t owned.Unit (inside p) e = rw e refl
  gift_steps t (owned.Int i) (inside p) e = rw e refl
  gift_steps t (owned.Box b) (inside p) e = rw e refl
  gift_steps t (owned.Mutex m) (inside p) e = rw e refl
  gift_steps t (owned.Task u) (inside p) e = rw e refl

  spot_steps : (r : Spot) (v : Owned) → ownings_of (sight k) (holds r v) ≡ own_steps (spot_owner (sight k) r) v
  spot_steps (as_gift t) v = gift_steps t v (spot_owner (sight k) (as_gift t)) refl
  spot_steps (in_slot t i) v = refl
  spot_steps (in_temp t i) v = refl
  spot_steps in_hand v = refl
  spot_steps (as_content m) v = refl
  spot_steps (as_result t) v = refl

  same_value : {u v : Owned} → Some u ≡ Some v → u ≡ v
  same_value e = cc

  steps_are : (th : Thing) (v : Owned) → held_value th ≡ Some v → ownings_of (sight k) th ≡ own_steps (owner_of (sight k) th) v
  steps_are (holds r u) v e = spot_steps r u ∙ ap (own_steps (spot_owner (sight k) r)) (same_value e)
  steps_are (lies r a c) v e = ap (own_steps (inside (object_n c.object))) (same_value e)
  steps_are (flies w c) v e = ap (own_steps (inside (object_n c.object))) (same_value e)
  steps_are _ v e = absurd (cc e)

  -- a thing that stands under a node has a value
  valued : (p q : Node) (th : Thing) → owned_by p (owner_of (sight k) th) ≡ true → (v : Owned) × ((held_value th ≡ Some v) × (names q th ≡ owns q v))
  valued p q (holds r v) e = (v, (refl, refl))
  valued p q (lies r a c) e = (c.value, (refl, refl))
  valued p q (flies w c) e = (c.value, (refl, refl))
  valued p q _ e = absurd (cc e)

  inside_is : (p : Node) (o : Owner) → owned_by p o ≡ true → o ≡ inside p
  inside_is p (inside w) e = ap inside (node_is w p e)
  inside_is p a_thread e = absurd (cc e)
  inside_is p outside e = absurd (cc e)

  falls_at : (p q : Node) (th : Thing) → unfallen_at th ≡ 0 → owned_by p (owner_of (sight k) th) ≡ true → names q th ≡ true → rank q < rank p
  falls_at p q th z e named =
      let v = valued p q th e in
      falls_by p q v.0 (sym (ap (tot unfallen) (steps_are th v.0 v.1.0 ∙ ap (λ o. own_steps o v.0) (inside_is p (owner_of (sight k) th) e))) ∙ z) (sym v.1.1 ∙ named)

  -- what stands under a node has a lower rank
  pub falls_under : (p q : Node) (xs : List Thing) → tot unfallen_at xs ≡ 0 → 1 ≤ tot (under_names (sight k) p q) xs → rank q < rank p
  falls_under p q [] z l = absurd (omega (arith, l))
  falls_under p q (th ∷ xs) z l = by (names q th) (owned_by p (owner_of (sight k) th)) refl refl l (λ m. falls_under p q xs (omega (arith, z)) m)
    where
      by : (b c : Bool) → names q th ≡ b → owned_by p (owner_of (sight k) th) ≡ c → 1 ≤ if_so b (one c) + tot (under_names (sight k) p q) xs → (1 ≤ tot (under_names (sight k) p q) xs → rank q < rank p) → rank q < rank p
      by true true f g m go = falls_at p q th (omega (arith, z)) g f
      by true false f g m go = go (omega (arith, m))
      by false c f g m go = go (omega (arith, m))

-- A THREAD THAT STANDS AND ISN'T OVER HAS NO RESULT

abbrev standing : ℕ → Bool → ThreadState → Standing
standing r p x = record { server = r; packed = p; thread = x }

module _ (u : ℕ) where
  ended_less : (th : Thing) → has_ended u th ≤ is_thread u th
  ended_less (stands r p x) = omega (arith, parts u (x.number == u) (x.number == 0) (is_over x.phase))
  ended_less _ = omega arith

  standing_counts : (w : Standing) → is_over w.thread.phase ≡ false → (xs : List Thing) → thread_at (threads_in xs) u ≡ Some w → tot (has_ended u) xs + 1 ≤ tot (is_thread u) xs
  standing_counts w off [] e = absurd (cc e)
  standing_counts w off (stands r p x ∷ xs) e =
      eq_cases (λ b. (if b then Some (standing r p x) else thread_at (threads_in xs) u) ≡ Some w → one (b && (not (x.number == 0) && is_over x.phase)) + tot (has_ended u) xs + 1 ≤ one b + tot (is_thread u) xs) x.number u
      (λ f g. let same : standing r p x ≡ w = cc in let on : is_over x.phase ≡ false = ap (λ (z : Standing). is_over z.thread.phase) same ∙ off in omega (arith, none (not (x.number == 0)) (is_over x.phase) on, all_at_most (has_ended u) (is_thread u) ended_less xs))
      (λ ne g. let rest = standing_counts w off xs g in omega (arith, rest)) e
    where
      none : (a b : Bool) → b ≡ false → one (a && b) ≡ 0
      none true b e = ap one e
      none false b e = refl
  standing_counts w off (_ ∷ xs) e = omega (arith, standing_counts w off xs e)

pub none_shown_of : (s : Sight) → Once s → (u : ℕ) (w : Standing) → thread_at (threads_in s.things) u ≡ Some w → is_over w.thread.phase ≡ false → (first_shown (branch_result u) s.things ≡ None) × (first_shown (result_value s u) s.things ≡ None)
none_shown_of s once u w e off = none_first (branch_result u) (result_value s u) s.things (omega (arith, once.ends u, once.threads u, standing_counts u w off s.things e))

pub silent_of : (s : Sight) → Once s → (u : ℕ) (w : Standing) → thread_at (threads_in s.things) u ≡ Some w → is_over w.thread.phase ≡ false → first_shown (result_value s u) s.things ≡ None
silent_of s once u w e off = (none_shown_of s once u w e off).1
