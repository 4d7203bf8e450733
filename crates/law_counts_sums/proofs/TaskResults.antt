-- In a sound cluster the delivery of a `join`, and that of the `release` of a task, has a result: its thread is noted as going, or with its result.
use Rattle.std.proofs.Common.{◌≡◌, ℕ, zero, suc, ◌+◌, ◌*◌, ◌-◌, ◌≤◌, ◌==◌, ◌&&◌, nat_lt, not, is_some, Bool, true, false, if◌then◌else◌, List, [], ◌∷◌, ◌++◌, length, Option, Some, None, IsSome, refl, sym, ap, subst, ◌∙◌, arith}
use Rattle.std.specs.Prelude.{slice_get}
use Rattle.std.proofs.lemmas.Bool.{eqb-true}
use Rattle.coherent_memory.proofs.Below.fr_typing.PlaceLemmas.{eq_cases}
use Rattle.coherent_memory.specs.Below.fr_base.Lists.{last_of}
use Rattle.coherent_memory.specs.Below.fr_base.declared.instruction.Instr.{Instr}
use Rattle.coherent_memory.specs.Below.fr_base.declared.instruction.Instr.TheVariants as instr
use Rattle.coherent_memory.specs.Below.fr_base.declared.instruction.Operand.{Operand}
use Rattle.coherent_memory.specs.Below.fr_base.declared.instruction.Operand.TheVariants as operand
use Rattle.coherent_memory.specs.Below.fr_base.declared.release.Released.TheVariants as released
use Rattle.coherent_memory.specs.Below.heap_partition.declared.value.Owned.{Owned}
use Rattle.coherent_memory.specs.Below.heap_partition.declared.value.Owned.TheVariants as owned
use Rattle.coherent_memory.specs.Below.join_home.Tasks.{Task, TaskState, going, let_go, kept, in_pair, task_in, state_in, asked_from, let_go_from}
use Rattle.coherent_memory.specs.Below.join_home.Tasks as tasks
use Rattle.coherent_memory.specs.Below.thread_state.View.{ThreadState}
use Rattle.coherent_memory.specs.Below.thread_state.declared.value.Value.{Value}
use Rattle.coherent_memory.specs.Below.thread_state.declared.value.Value.TheVariants as value
use Rattle.coherent_memory.specs.Below.thread_state.declared.phase.Phase.{Phase}
use Rattle.coherent_memory.specs.Below.thread_state.declared.phase.Phase.TheVariants as phase
use Rattle.coherent_memory.specs.Below.server_msgs.declared.message.Message.{Message}
use Rattle.coherent_memory.specs.Below.server_msgs.declared.message.Message.TheVariants as message
use Rattle.coherent_memory.specs.Below.server_model.Servers.{Server, Cluster, server_at}
use Rattle.coherent_memory.specs.Names.{tot, one, other, if_so, task_values}
use Rattle.coherent_memory.specs.Things.{Thing, holds, sent, stands, noted, flies, counts, as_content, as_result, things_at, gift_things, walk_things, slot_things, temp_things, thread_things, standing_things, waiting_things, leaving_things, message_things, server_things, servers_things, things_of}
use Rattle.coherent_memory.specs.Follow.{Standing, threads_in, thread_at}
use Rattle.coherent_memory.specs.Sight.{Sight, sight}
use Rattle.coherent_memory.specs.Paths.{popped, joined_thread}
use Rattle.coherent_memory.specs.Paths as paths
use Rattle.coherent_memory.specs.Weights.{is_thread, tasks_of}
use Rattle.coherent_memory.specs.Walking.{instr_of}
use Rattle.coherent_memory.specs.Requests.{is_task, is_join, is_got, in_phase, phase_fits, carries, misrouted, home_of, stands_wrong, early_gift, halves_to, halves_needed, waits}
use Rattle.coherent_memory.specs.Sharing.{gift_result, owes, owed, joined_of}
use Rattle.coherent_memory.specs.Coherent.{IsSound}
use Rattle.coherent_memory.proofs.Names.{and_right}
use Rattle.coherent_memory.proofs.Sums.{tot-append, server_parts}
use Rattle.law_counts_sums.specs.Laws.{JoinsHaveResults, TasksLetGoHaveResults}
use Rattle.law_counts_sums.proofs.Trades.{tot-remove}
use Rattle.law_counts_sums.proofs.Events.{tot-server}
use Rattle.law_counts_sums.proofs.Unseen.{Unseen, Unnoted, thread_alone, seen_of}
use Rattle.law_counts_sums.proofs.Askers.{other_none}
use Rattle.law_counts_sums.proofs.HaveResults.{some_map, arrives}
use Rattle.law_counts_sums.proofs.KnownSound.{on_standing, sum_standing}
use Rattle.law_counts_sums.proofs.NotesFound.{note, Noted, note_found}

-- WEIGHTS OF THREADS AGAINST THOSE OF WHAT THEY HAVE

-- it sees threads alone
pub record SeesThreads (f : Thing → ℕ) : Type 0 where
  pub unseen : (n : ℕ) → Unseen f n
  pub unnoted : Unnoted f
  pub counted : (s a b c d e : ℕ) → f (counts s a b c d e) ≡ 0
  pub sends : (t : ℕ) (m : Message) → f (sent t m) ≡ 0
  pub flying : (w : ℕ) (c : Rattle.coherent_memory.specs.Below.heap_partition.declared.value.Cell.Cell) → f (flies w c) ≡ 0

module _ (f g : Thing → ℕ) (sees : SeesThreads f) (less : (r : ℕ) (p : Bool) (x : ThreadState) → f (stands r p x) ≤ tot g (thread_things r p x)) where
  thread_less : (r : ℕ) (p : Bool) (x : ThreadState) → tot f (thread_things r p x) ≤ tot g (thread_things r p x)
  thread_less r p x = omega (arith, thread_alone f r (sees.unseen r) r p x, less r p x)

  message_less : (r : ℕ) (m : Message) → tot f (message_things r m) ≤ tot g (message_things r m)
  message_less r (message.Start x) = omega (arith, sees.sends r (message.Start x), thread_less r true x)
  message_less r (message.Migrate x) = omega (arith, sees.sends r (message.Migrate x), thread_less r true x)
  message_less r (message.Moved w c t) = omega (arith, sees.sends r (message.Moved w c t), sees.flying w c)
  message_less r (message.Granted m v t) = let u = sees.unseen r in omega (arith, sees.sends r (message.Granted m v t), u.held (as_content m) v)
  message_less r (message.Unlock m v) = let u = sees.unseen r in omega (arith, sees.sends r (message.Unlock m v), u.held (as_content m) v)
  message_less r (message.Joined t v by) = let u = sees.unseen r in omega (arith, sees.sends r (message.Joined t v by), u.held (as_result t) v)
  message_less r (message.Finished t v) = let u = sees.unseen r in omega (arith, sees.sends r (message.Finished t v), u.held (as_result t) v)
  message_less r m = omega (arith, sees.sends r m)

  all_less : {X : Type 0} (h : ℕ → X → List Thing) → ((i : ℕ) (x : X) → tot f (h i x) ≤ tot g (h i x)) → (i : ℕ) (xs : List X) → tot f (things_at h i xs) ≤ tot g (things_at h i xs)
  all_less h l i [] = omega arith
  all_less h l i (x ∷ xs) = omega (arith, l i x, all_less h l (i + 1) xs, tot-append f (h i x) (things_at h (i + 1) xs), tot-append g (h i x) (things_at h (i + 1) xs))

  server_less : (s : Server) → tot f (server_things s) ≤ tot g (server_things s)
  server_less s =
      let n = s.rest.number in
      omega (
        arith,
        seen_of f n (sees.unseen n) sees.unnoted s refl,
        sees.counted n (length s.rest.partition.cells) s.rest.partition.retired s.rest.started s.rest.mutexes.made s.events,
        server_parts g s,
        all_less (standing_things n) (λ i x. thread_less n false x) 0 s.threads,
        all_less (waiting_things n) (λ i m. message_less n m) 0 s.rest.inbox,
        all_less leaving_things (λ i m. message_less m.target m.message) 0 s.rest.outbox,
      )

  pub servers_less : (ss : List Server) → tot f (servers_things ss) ≤ tot g (servers_things ss)
  servers_less [] = omega arith
  servers_less (s ∷ ss) = omega (arith, server_less s, servers_less ss, tot-append f (server_things s) (servers_things ss), tot-append g (server_things s) (servers_things ss))

-- WHO JOINS A THREAD

turned_one : (a b : ℕ) → one (a == b) ≤ one (b == a)
turned_one a b = eq_cases (λ c. one c ≤ one (b == a)) a b (λ e. eq_cases (λ c. 1 ≤ one c) b a (λ d. omega arith) (λ ne. absurd (ne (sym e)))) (λ ne. omega arith)

module _ (u : ℕ) where
  -- the task values of thread u that stand outside the heap
  abbrev held : Thing → ℕ
  held (holds p v) = task_values u v
  held x = 0

  abbrev let_off : Thing → ℕ
  let_off (sent r (message.Release (released.Task w))) = one (w == u)
  let_off x = 0

  parts_of : (x : Thing) → held x + let_off x ≤ tasks_of u x
  parts_of (holds p v) = omega arith
  parts_of (sent r (message.Release (released.Task w))) = omega arith
  parts_of _ = omega arith

  all_parts : (b : List Thing) → tot held b + tot let_off b ≤ tot (tasks_of u) b
  all_parts [] = omega arith
  all_parts (x ∷ b) = omega (arith, parts_of x, all_parts b)

  some_same : {a b : Value} → Some a ≡ Some b → b ≡ a
  some_same e = cc

  temp_held : (r t j i : ℕ) (ts : List Value) (w : ℕ) → slice_get ts i ≡ Some (value.Own (owned.Task w)) → one (w == u) ≤ tot held (things_at (temp_things r t) j ts)
  temp_held r t j i [] w e = absurd (cc e)
  temp_held r t j zero (v ∷ ts) w e =
      let h : (k : ℕ) → tot held (temp_things r t k v) ≡ tot held (temp_things r t k (value.Own (owned.Task w))) = λ k. ap (λ z. tot held (temp_things r t k z)) (sym (some_same e)) in
      omega (arith, h j, tot-append held (temp_things r t j v) (things_at (temp_things r t) (j + 1) ts))
  temp_held r t j (suc i) (v ∷ ts) w e = omega (arith, temp_held r t (j + 1) i ts w e, tot-append held (temp_things r t j v) (things_at (temp_things r t) (j + 1) ts))

  temps_held : (r t : ℕ) (ts : List Value) (o : Option Value) → last_of ts ≡ o → one (is_task u (paths.task_in o)) ≤ tot held (things_at (temp_things r t) 0 ts)
  temps_held r t ts (Some (value.Own (owned.Task w))) e = omega (arith, turned_one u w, temp_held r t 0 (length ts - 1) ts w e)
  temps_held r t ts _ e = omega arith

  popped_held : (r t : ℕ) (o : Operand) (ts : List Value) → one (is_task u (paths.task_in (popped o ts))) ≤ tot held (things_at (temp_things r t) 0 ts)
  popped_held r t operand.Pop ts = temps_held r t ts (last_of ts) refl
  popped_held r t _ ts = omega arith

  -- the operand of a join stands among the thread's temporary values
  operand_held : (r : ℕ) (p : Bool) (i : Option Instr) (x : ThreadState) → one (is_task u (joined_thread i x)) ≤ tot held (thread_things r p x)
  operand_held r p (Some (instr.Join o)) x =
      let g = gift_things x.number x.gift in
      let w = things_at (walk_things r) 0 x.walk in
      let a = things_at (slot_things r x.number) 0 x.slots in
      let b = things_at (temp_things r x.number) 0 x.temps in
      omega (arith, popped_held r x.number o x.temps, tot-append held (g ++ w ++ a) b)
  operand_held r p _ x = omega arith

  module _ (q : Sight) where
    -- a thread that waits for it; one that has its result as a gift
    abbrev waiter : Thing → ℕ
    waiter (stands r p x) = one (is_join u x.phase)
    waiter x = 0

    abbrev winner : Thing → ℕ
    winner (stands r p x) = gift_result q u (record { server = r; packed = p; thread = x })
    winner x = 0

    abbrev joiner : Thing → ℕ
    joiner x = waiter x + winner x

    -- what a thread breaks
    abbrev breaks : Standing → ℕ
    breaks x = stands_wrong q x x.thread.phase + early_gift x

    if_less : (b c : Bool) → if_so b (one c) ≤ one c
    if_less true c = omega arith
    if_less false c = omega arith

    one_most : (b : Bool) → one b ≤ 1
    one_most true = omega arith
    one_most false = omega arith

    waits_for : (w : ℕ) (o : Option ℕ) → one (u == w) ≤ one (is_task u o) + 2 * other (is_task w o)
    waits_for w None = omega (arith, one_most (u == w))
    waits_for w (Some v) = eq_cases (λ b. one (u == w) ≤ one (u == v) + 2 * other b) w v (λ e. let same : one (u == w) ≡ one (u == v) = ap (λ i. one (u == i)) e in omega (arith, same)) (λ ne. omega (arith, one_most (u == w)))

    joins_by : (x : Standing) (p : Phase) (g : Option Owned) → one (is_join u p) + if_so (is_some g) (one (is_task u (joined_thread (instr_of q x) x.thread)))
        ≤ one (is_task u (joined_thread (instr_of q x) x.thread)) + 2 * (stands_wrong q x p + one (is_some g && not (is_got p)))
    joins_by x (phase.WaitJoin w) (Some v) = omega (arith, one_most (u == w))
    joins_by x (phase.WaitJoin w) None = omega (arith, waits_for w (joined_thread (instr_of q x) x.thread))
    joins_by x p g = omega (arith, if_less (is_some g) (is_task u (joined_thread (instr_of q x) x.thread)))

    abbrev against : Thing → ℕ
    against x = held x + 2 * on_standing breaks x

    two_parts : (b : List Thing) → tot against b ≡ tot held b + 2 * tot (on_standing breaks) b
    two_parts [] = refl
    two_parts (x ∷ b) = omega (arith, two_parts b)

    joins_less : (r : ℕ) (p : Bool) (x : ThreadState) → joiner (stands r p x) ≤ tot against (thread_things r p x)
    joins_less r p x =
        let y : Standing = record { server = r; packed = p; thread = x } in
        omega (arith, joins_by y x.phase x.gift, operand_held r p (instr_of q y) x, two_parts (thread_things r p x))

    sees : SeesThreads joiner
    sees = record {
      unseen = λ n. record { held = λ p v. refl; shared = λ l r. refl; borrowed = λ l r. refl; locked = λ l m. refl; live = λ a c. refl; free = λ a m. refl; old = λ a. refl; copy = λ s c. refl; used = λ s w. refl };
      unnoted = record { mutex = λ s m. refl; queue = λ m s t. refl; note = λ s t. refl };
      counted = λ s a b c d e. refl;
      sends = λ t m. refl;
      flying = λ w c. refl;
    }

    both_parts : (b : List Thing) → tot joiner b ≡ tot waiter b + tot winner b
    both_parts [] = refl
    both_parts (x ∷ b) = omega (arith, both_parts b)

-- THE ONE THAT WAITS

module _ (f : Phase → Bool) where
  abbrev in_it : Thing → ℕ
  in_it (stands r p x) = one (f x.phase)
  in_it x = 0

  abbrev named_in : ℕ → Thing → ℕ
  named_in t (stands r p x) = one (x.number == t && f x.phase)
  named_in t x = 0

  found_in : (t : ℕ) (b : List Thing) → in_phase f (thread_at (threads_in b) t) ≡ true → 1 ≤ tot (named_in t) b
  found_in t [] e = absurd (cc e)
  found_in t (stands r p x ∷ b) e =
      eq_cases (λ c. in_phase f (if c then Some (record { server = r; packed = p; thread = x }) else thread_at (threads_in b) t) ≡ true → 1 ≤ one (c && f x.phase) + tot (named_in t) b) x.number t
      (λ same g. let w : one (f x.phase) ≡ 1 = ap one g in omega (arith, w)) (λ ne g. let w = found_in t b g in omega (arith, w)) e
  found_in t (_ ∷ b) e = omega (arith, found_in t b e)

  name_in : (t : ℕ) (x : Thing) → named_in t x ≤ in_it x
  name_in t (stands r p x) = by (x.number == t) (f x.phase)
    where
      by : (b c : Bool) → one (b && c) ≤ one c
      by true c = omega arith
      by false c = omega arith
  name_in t _ = omega arith

  names_in : (t : ℕ) (b : List Thing) → tot (named_in t) b ≤ tot in_it b
  names_in t [] = omega arith
  names_in t (x ∷ b) = omega (arith, name_in t x, names_in t b)

  two_in : (t v : ℕ) → (t ≡ v → ⊥) → (x : Thing) → named_in t x + named_in v x ≤ in_it x
  two_in t v ne (stands r p x) =
      eq_cases (λ b. one (b && f x.phase) + one (x.number == v && f x.phase) ≤ one (f x.phase)) x.number t
      (λ e. eq_cases (λ b. one (true && f x.phase) + one (b && f x.phase) ≤ one (f x.phase)) x.number v (λ d. absurd (ne (sym e ∙ d))) (λ other. omega arith))
      (λ other. let l = name_in v (stands r p x) in omega (arith, l))
  two_in t v ne _ = omega arith

  all_two : (t v : ℕ) → (t ≡ v → ⊥) → (b : List Thing) → tot (named_in t) b + tot (named_in v) b ≤ tot in_it b
  all_two t v ne [] = omega arith
  all_two t v ne (x ∷ b) = omega (arith, two_in t v ne x, all_two t v ne b)

-- WHAT IS OWED

-- a note of it as going, or with its result
abbrev pub is_free : TaskState → Bool
is_free going = true
is_free (kept v) = true
is_free x = false

module _ (u : ℕ) where
  abbrev asked_note : ℕ → TaskState → ℕ
  asked_note t (tasks.asked a b) = one (t == u)
  asked_note t x = 0

  -- its result under way to one that joins it, and the note of who asked
  abbrev under_way : Thing → ℕ
  under_way (sent r m) = joined_of u m
  under_way (noted r x) = asked_note x.thread x.state
  under_way x = 0

  abbrev join_of : Message → ℕ
  join_of (message.Join w r t) = one (w == u)
  join_of m = 0

  abbrev asks : Thing → ℕ
  asks (sent r m) = join_of m
  asks x = 0

  none_so : (b : Bool) → one (b && false) ≡ 0
  none_so true = refl
  none_so false = refl

  always : (b : Bool) → one (b && true) ≤ one b
  always true = omega arith
  always false = omega arith

  owed_by_note : (t : ℕ) (z : TaskState) → one (t == u && owes z) ≤ one (t == u && is_free z) + asked_note t z
  owed_by_note t going = omega arith
  owed_by_note t (kept v) = omega arith
  owed_by_note t (tasks.asked a b) = omega (arith, always (t == u))
  owed_by_note t let_go = omega arith
  owed_by_note t (in_pair p o) = omega arith

  owed_parts : (q : Sight) (n : ℕ) (x : Thing) → owed q u x ≤ note u n is_free x + under_way x + winner u q x
  owed_parts q n (noted r x) = omega (arith, owed_by_note x.thread x.state)
  owed_parts q n (sent r m) = omega arith
  owed_parts q n (stands r p x) = omega arith
  owed_parts q n _ = omega arith

  all_owed : (q : Sight) (n : ℕ) (b : List Thing) → tot (owed q u) b ≤ tot (note u n is_free) b + tot under_way b + tot (winner u q) b
  all_owed q n [] = omega arith
  all_owed q n (x ∷ b) = omega (arith, owed_parts q n x, all_owed q n b)

  -- each of these answers a thread that waits for it
  module _ (q : Sight) where
    abbrev Waits : ℕ → Type 0
    Waits t = in_phase (is_join u) (thread_at q.ground.threads t) ≡ true

    fits : (w t : ℕ) → phase_fits q t (is_join w) ≡ 0 → w ≡ u → Waits t
    fits w t z e = subst (λ j. in_phase (is_join j) (thread_at q.ground.threads t) ≡ true) e (other_none _ z)

    -- where a thread that waits for it is that one, this answers it
    module _ (t : ℕ) (alone : (v : ℕ) → Waits v → v ≡ t) where
      to_it : (v : ℕ) → Waits v → if_so (v == t) 2 ≡ 2
      to_it v w = eq_cases (λ b. if_so b 2 ≡ 2) v t (λ e. refl) (λ ne. absurd (ne (alone v w)))

      of_name : (w v : ℕ) → phase_fits q v (is_join w) ≡ 0 → 2 * one (w == u) ≤ if_so (v == t) 2
      of_name w v z = eq_cases (λ b. 2 * one b ≤ if_so (v == t) 2) w u (λ e. omega (arith, to_it v (fits w v z e))) (λ ne. omega arith)

      of_message : (r : ℕ) (m : Message) → carries q (sent r m) ≡ 0 → 2 * (join_of m + joined_of u m) ≤ halves_to t (sent r m)
      of_message r (message.Join w a v) z = omega (arith, of_name w v z)
      of_message r (message.Joined w x v) z = omega (arith, of_name w v z)
      of_message r _ z = omega arith

      of_note : (r : ℕ) (w : ℕ) (z : TaskState) → carries q (noted r (record { thread = w; state = z })) ≡ 0 → 2 * asked_note w z ≤ halves_to t (noted r (record { thread = w; state = z }))
      of_note r w (tasks.asked a b) z = of_name w b z
      of_note r w _ z = omega arith

      of_thing : (x : Thing) → carries q x ≡ 0 → 2 * (asks x + under_way x) ≤ halves_to t x
      of_thing (sent r m) z = of_message r m z
      of_thing (noted r x) z = omega (arith, of_note r x.thread x.state z)
      of_thing _ z = omega arith

      of_all : (b : List Thing) → tot (carries q) b ≡ 0 → 2 * (tot asks b + tot under_way b) ≤ tot (halves_to t) b
      of_all [] z = omega arith
      of_all (x ∷ b) z = omega (arith, of_thing x (omega (arith, z)), of_all b (omega (arith, z)))

    -- where none waits for it there is none
    module _ (none : (v : ℕ) → Waits v → ⊥) where
      no_name : (w v : ℕ) → phase_fits q v (is_join w) ≡ 0 → one (w == u) ≡ 0
      no_name w v z = eq_cases (λ b. one b ≡ 0) w u (λ e. absurd (none v (fits w v z e))) (λ ne. refl)

      no_message : (r : ℕ) (m : Message) → carries q (sent r m) ≡ 0 → joined_of u m ≡ 0
      no_message r (message.Joined w x v) z = no_name w v z
      no_message r _ z = refl

      no_note : (r : ℕ) (w : ℕ) (z : TaskState) → carries q (noted r (record { thread = w; state = z })) ≡ 0 → asked_note w z ≡ 0
      no_note r w (tasks.asked a b) z = no_name w b z
      no_note r w _ z = refl

      no_thing : (x : Thing) → carries q x ≡ 0 → under_way x ≡ 0
      no_thing (sent r m) z = no_message r m z
      no_thing (noted r x) z = no_note r x.thread x.state z
      no_thing _ z = refl

      no_all : (b : List Thing) → tot (carries q) b ≡ 0 → tot under_way b ≡ 0
      no_all [] z = refl
      no_all (x ∷ b) z = omega (arith, no_thing x (omega (arith, z)), no_all b (omega (arith, z)))

same_waiter : (u : ℕ) (q : Sight) (b : List Thing) → tot (in_it (is_join u)) b ≡ tot (waiter u q) b
same_waiter u q [] = refl
same_waiter u q (x ∷ b) = omega (arith, is_waiter x, same_waiter u q b)
  where
    is_waiter : (x : Thing) → in_it (is_join u) x ≡ waiter u q x
    is_waiter (stands r p x) = refl
    is_waiter _ = refl

needs_two : (t : ℕ) (x : Thing) → halves_needed t x ≤ 2 * is_thread t x
needs_two t (stands r p x) = by (x.number == t) (waits x.phase)
  where
    by : (b c : Bool) → if_so (b && c) 2 ≤ 2 * one b
    by true true = omega arith
    by true false = omega arith
    by false c = omega arith
needs_two t _ = omega arith

all_need : (t : ℕ) (b : List Thing) → tot (halves_needed t) b ≤ 2 * tot (is_thread t) b
all_need t [] = omega arith
all_need t (x ∷ b) = omega (arith, needs_two t x, all_need t b)

self : (x : ℕ) → one (x == x) ≡ 1
self x = eq_cases (λ b. one b ≡ 1) x x (λ e. refl) (λ ne. absurd (ne refl))

module _ (k : Cluster) (sound : IsSound k) (number i : ℕ) (s : Server) (here : server_at k.servers number ≡ Some s) (u : ℕ) (m : Message) (at : slice_get s.rest.inbox i ≡ Some m) where
  abbrev n : ℕ
  n = s.rest.number

  abbrev b : List Thing
  b = things_of k

  abbrev q : Sight
  q = sight k

  has : (g : Thing → ℕ) → g (sent n m) ≤ tot g b
  has g = omega (arith, (tot-server g k.servers number s s here).0, server_parts g s, tot-remove (λ x. message_things n x) g 0 s.rest.inbox i m at)

  carried : tot (carries q) b ≡ 0
  carried = sound.requests.carry_what_is_asked

  home : (w : ℕ) → misrouted q (sent n m) ≡ other (nat_lt n k.options.servers && (w == n)) → w ≡ n
  home w e =
      let all : tot (misrouted q) b ≡ 0 = sound.requests.go_right in
      eqb-true w n (and_right (nat_lt n k.options.servers) (w == n) (other_none _ (omega (arith, e, has (misrouted q), all))))

  -- those that join it have a task value of it each
  joiners : tot (waiter u q) b + tot (winner u q) b + tot (let_off u) b ≤ tot (tasks_of u) b
  joiners =
      let stand : tot (λ x. stands_wrong q x x.thread.phase) (threads_in b) ≡ 0 = sound.requests.phases_stand in
      let gifts : tot early_gift (threads_in b) ≡ 0 = sound.requests.gifts_got in
      let none : tot (breaks u q) (threads_in b) ≡ 0 = omega (arith, sum_both (λ x. stands_wrong q x x.thread.phase) early_gift (threads_in b), stand, gifts) in
      omega (arith, servers_less (joiner u q) (against u q) (sees u q) (joins_less u q) k.servers, two_parts u q b, both_parts u q b, all_parts u b, sum_standing (breaks u q) b, none)
    where
      sum_both : (f g : Standing → ℕ) (xs : List Standing) → tot (λ x. f x + g x) xs ≡ tot f xs + tot g xs
      sum_both f g [] = refl
      sum_both f g (x ∷ xs) = omega (arith, sum_both f g xs)

  one_value : tot (tasks_of u) b ≤ 1
  one_value = sound.mutexes_and_tasks.one_task_value u

  waiting : (v : ℕ) → Waits u q v → 1 ≤ tot (waiter u q) b
  waiting v w = omega (arith, found_in (is_join u) v b w, names_in (is_join u) v b, same_waiter u q b)

  -- so it is noted here as one that can be asked for
  free_here : home_of u ≡ n → 1 ≤ tot (tasks_of u) b → tot (under_way u) b ≡ 0 → tot (winner u q) b ≡ 0 → Noted u n is_free s.rest.tasks
  free_here h l w g = note_found k sound number s here u is_free h (omega (arith, l, w, g, sound.mutexes_and_tasks.task_values_owed u, all_owed u q n b))

  -- A JOIN

  module _ (a t : ℕ) (is : m ≡ message.Join u a t) where
    waits_so : Waits u q t
    waits_so =
        let c : carries q (sent n m) ≡ phase_fits q t (is_join u) = ap (λ x. carries q (sent n x)) is in
        other_none _ (omega (arith, c, has (carries q), carried))

    alone : (v : ℕ) → Waits u q v → v ≡ t
    alone v w =
        eq_cases (λ c. v ≡ t) v t (λ e. e)
        (λ ne. absurd (omega (arith, found_in (is_join u) v b w, found_in (is_join u) t b waits_so, all_two (is_join u) v t ne b, same_waiter u q b, joiners, one_value)))

    pub join_found : Noted u n is_free s.rest.tasks
    join_found =
        let asked : asks u (sent n m) ≡ one (u == u) = ap (λ x. asks u (sent n x)) is in
        let route : misrouted q (sent n m) ≡ other (nat_lt n k.options.servers && (home_of u == n)) = ap (λ x. misrouted q (sent n x)) is in
        let l = waiting t waits_so in
        free_here (home (home_of u) route) (omega (arith, l, joiners))
        (omega (arith, of_all u q t alone b carried, has (asks u), asked, self u, sound.requests.one_answer t, all_need t b, sound.names.numbers_differ t))
        (omega (arith, l, joiners, one_value))

  -- A TASK THAT IS LET GO

  module _ (is : m ≡ message.Release (released.Task u)) where
    pub release_found : Noted u n is_free s.rest.tasks
    release_found =
        let off : let_off u (sent n m) ≡ one (u == u) = ap (λ x. let_off u (sent n x)) is in
        let route : misrouted q (sent n m) ≡ other (nat_lt n k.options.servers && (home_of u == n)) = ap (λ x. misrouted q (sent n x)) is in
        let l = has (let_off u) in
        free_here (home (home_of u) route) (omega (arith, l, off, self u, joiners))
        (no_all u q (λ v w. absurd (omega (arith, waiting v w, l, off, self u, joiners, one_value))) b carried)
        (omega (arith, l, off, self u, joiners, one_value))

asked_some : (xs : List Task) (u a t : ℕ) (z : TaskState) → is_free z ≡ true → IsSome (asked_from xs u a t (Some z))
asked_some xs u a t going e = refl
asked_some xs u a t (kept v) e = refl
asked_some xs u a t _ e = absurd (cc e)

let_go_some : (xs : List Task) (u : ℕ) (z : TaskState) → is_free z ≡ true → IsSome (let_go_from xs u (Some z))
let_go_some xs u going e = refl
let_go_some xs u (kept v) e = refl
let_go_some xs u _ e = absurd (cc e)

pub joins_have_results : JoinsHaveResults
joins_have_results k number i s u a t sound here on q =
    let it = join_found k sound number i s here u (message.Join u a t) q a t refl in
    arrives k number i s (message.Join u a t) here on q
    (some_map _ _ (some_map _ _ (subst (λ o. IsSome (asked_from s.rest.tasks u a t (state_in o))) (sym it.1) (asked_some s.rest.tasks u a t it.0.state it.2))))

pub tasks_let_go_have_results : TasksLetGoHaveResults
tasks_let_go_have_results k number i s u sound here on q =
    let it = release_found k sound number i s here u (message.Release (released.Task u)) q refl in
    arrives k number i s (message.Release (released.Task u)) here on q
    (some_map _ _ (some_map _ _ (subst (λ o. IsSome (let_go_from s.rest.tasks u (state_in o))) (sym it.1) (let_go_some s.rest.tasks u it.0.state it.2))))
