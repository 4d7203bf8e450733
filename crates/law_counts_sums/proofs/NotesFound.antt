-- In a sound cluster a note of a thread stands at its home, and is the one that its number finds.
use Rattle.std.proofs.Common.{◌≡◌, ℕ, ◌+◌, ◌≤◌, ◌<◌, ◌==◌, ◌&&◌, nat_lt, Bool, true, false, if◌then◌else◌, List, [], ◌∷◌, Some, refl, sym, ap, ◌∙◌, arith}
use Rattle.std.proofs.lemmas.Bool.Decides.{nat_tests}
use Rattle.coherent_memory.proofs.Below.fr_typing.PlaceLemmas.{eq_cases}
use Rattle.coherent_memory.specs.Below.join_home.Tasks.{Task, TaskState, task_in}
use Rattle.coherent_memory.specs.Below.mutex_home.Mutexes.{Mutex}
use Rattle.coherent_memory.specs.Below.thread_state.View.{ThreadState}
use Rattle.coherent_memory.specs.Below.server_msgs.declared.message.Message.{Message}
use Rattle.coherent_memory.specs.Below.server_msgs.declared.message.Message.TheVariants as message
use Rattle.coherent_memory.specs.Below.server_model.Servers.{Server, Cluster, server_at}
use Rattle.coherent_memory.specs.Names.{tot, one, other, if_so}
use Rattle.coherent_memory.specs.Things.{Thing, noted, things_at, content_things, queue_things, mutex_things, task_things, standing_things, thread_things, waiting_things, leaving_things, message_things, server_things, things_of}
use Rattle.coherent_memory.specs.Requests.{home_of}
use Rattle.coherent_memory.specs.Sharing.{noted_away}
use Rattle.coherent_memory.specs.Sight.{sight}
use Rattle.coherent_memory.specs.Naming.{rising, rising_from, numbers_of, servers_wrong, pinned_parcel}
use Rattle.coherent_memory.specs.Walking.{sum_threads}
use Rattle.coherent_memory.specs.Coherent.{IsSound}
use Rattle.coherent_memory.proofs.Sums.{tot-append, server_parts}
use Rattle.law_counts_sums.proofs.Trades.{tot-front}
use Rattle.law_counts_sums.proofs.Unseen.{Unseen, none_at, thread_alone, content_none, result_none, partition_none, copies_none}
use Rattle.law_counts_sums.proofs.Elsewhere.{here_alone}
use Rattle.law_counts_sums.proofs.FinishSteps.{notes_rise}

pub below : (m n : ℕ) → other (nat_lt m n) ≡ 0 → m < n
below m n = by (nat_lt m n) refl
  where
    by : (b : Bool) → nat_lt m n ≡ b → other b ≡ 0 → m < n
    by true e z = grind (arith, nat_tests, e)
    by false e z = absurd (cc z)

truly : (b : Bool) → 1 ≤ one b → b ≡ true
truly true l = refl
truly false l = absurd (omega (arith, l))

-- the notes of thread u with such a state, and those at server n
module _ (u n : ℕ) (h : TaskState → Bool) where
  abbrev pub note : Thing → ℕ
  note (noted r x) = one (x.thread == u && h x.state)
  note x = 0

  abbrev here : Thing → ℕ
  here (noted r x) = if_so (r == n) (one (x.thread == u && h x.state))
  here x = 0

  unseen : (r : ℕ) → Unseen here r
  unseen r = record { held = λ p v. refl; shared = λ l q. refl; borrowed = λ l q. refl; locked = λ l x. refl; live = λ a c. refl; free = λ a x. refl; old = λ a. refl; copy = λ s c. refl; used = λ s w. refl }

  -- OF A SERVER THE NOTES

  thread_none : (r : ℕ) (p : Bool) (x : ThreadState) → tot here (thread_things r p x) ≡ 0
  thread_none r p x = thread_alone here r (unseen r) r p x

  message_none : (r : ℕ) (x : Message) → tot here (message_things r x) ≡ 0
  message_none r (message.Start x) = omega (arith, thread_none r true x)
  message_none r (message.Migrate x) = omega (arith, thread_none r true x)
  message_none r _ = refl

  queue_none : (x : Rattle.coherent_memory.specs.Below.fr_base.declared.name.MutexNo.MutexNo) (i : ℕ) (q : List (ℕ × ℕ)) → tot here (things_at (queue_things x) i q) ≡ 0
  queue_none x i [] = refl
  queue_none x i (a ∷ q) = omega (arith, queue_none x (i + 1) q)

  mutex_none : (r i : ℕ) (x : Mutex) → tot here (mutex_things r i x) ≡ 0
  mutex_none r i x = omega (arith, content_none here r (unseen r) x, queue_none x.number 0 x.queue, tot-append here (content_things x.number x.content) (things_at (queue_things x.number) 0 x.queue))

  task_seen : (r i : ℕ) (x : Task) → tot here (task_things r i x) ≡ if_so (r == n) (one (x.thread == u && h x.state))
  task_seen r i x = omega (arith, result_none here r (unseen r) x.thread x.state)

  notes_alone : (s : Server) → tot here (server_things s) ≡ tot here (things_at (task_things s.rest.number) 0 s.rest.tasks)
  notes_alone s =
      let r = s.rest.number in
      omega (
        arith,
        server_parts here s,
        partition_none here r (unseen r) s.rest.partition,
        copies_none here r (unseen r) r s.rest.cache,
        none_at here r (unseen r) (mutex_things r) (mutex_none r) 0 s.rest.mutexes.there,
        none_at here r (unseen r) (standing_things r) (λ i x. thread_none r false x) 0 s.threads,
        none_at here r (unseen r) (waiting_things r) (λ i x. message_none r x) 0 s.rest.inbox,
        none_at here r (unseen r) leaving_things (λ i x. message_none x.target x.message) 0 s.rest.outbox,
      )

  if_false : (b : Bool) (m : ℕ) → b ≡ false → if_so b m ≡ 0
  if_false true m e = absurd (cc e)
  if_false false m e = refl

  elsewhere : (s : Server) → (s.rest.number == n) ≡ false → tot here (server_things s) ≡ 0
  elsewhere s e =
      let r = s.rest.number in
      omega (arith, notes_alone s, none_at here r (unseen r) (task_things r) (λ i x. omega (arith, task_seen r i x, if_false (r == n) (one (x.thread == u && h x.state)) e)) 0 s.rest.tasks)

  -- IN A LIST BY RISING NUMBER

  abbrev pub Noted : List Task → Type 0
  Noted xs = (x : Task) × (task_in xs u ≡ Some x) × (h x.state ≡ true)

  front : (r : ℕ) (x : Task) (xs : List Task) → tot here (things_at (task_things r) 0 (x ∷ xs)) ≡ if_so (r == n) (one (x.thread == u && h x.state)) + tot here (things_at (task_things r) 0 xs)
  front r x xs = omega (arith, tot-front (task_things r 0) here 0 x xs, task_seen r 0 x)

  other_name : (b c d : Bool) → c ≡ false → if_so b (one (c && d)) ≡ 0
  other_name true true d e = absurd (cc e)
  other_name true false d e = refl
  other_name false c d e = refl

  at_most : (b d : Bool) → if_so b (one (true && d)) ≤ one d
  at_most true d = omega arith
  at_most false d = omega arith

  none_later : (r m : ℕ) (xs : List Task) → u ≤ m → rising_from m (numbers_of (λ t. t.thread) xs) ≡ 0 → tot here (things_at (task_things r) 0 xs) ≡ 0
  none_later r m [] l z = refl
  none_later r m (x ∷ xs) l z =
      let first : m < x.thread = below m x.thread (omega (arith, z)) in
      let name : (x.thread == u) ≡ false = eq_cases (λ b. b ≡ false) x.thread u (λ e. absurd (omega (arith, e, first, l))) (λ ne. refl) in
      omega (arith, front r x xs, other_name (r == n) (x.thread == u) (h x.state) name, none_later r x.thread xs (omega (arith, l, first)) (omega (arith, z)))

  step : (r : ℕ) (x : Task) (xs : List Task) → rising_from x.thread (numbers_of (λ t. t.thread) xs) ≡ 0 → (1 ≤ tot here (things_at (task_things r) 0 xs) → Noted xs) → 1 ≤ tot here (things_at (task_things r) 0 (x ∷ xs)) → Noted (x ∷ xs)
  step r x xs z go l =
      eq_cases (λ c. if_so (r == n) (one (x.thread == u && h x.state)) ≡ if_so (r == n) (one (c && h x.state)) → (y : Task) × ((if c then Some x else task_in xs u) ≡ Some y) × (h y.state ≡ true)) x.thread u
      (λ e q. (x, refl, truly (h x.state) (omega (arith, l, front r x xs, q, at_most (r == n) (h x.state), none_later r x.thread xs (omega (arith, e)) z))))
      (λ ne q. go (omega (arith, l, front r x xs, q, other_name (r == n) false (h x.state) refl))) refl

  found_in : (r : ℕ) (x : Task) (xs : List Task) → rising_from x.thread (numbers_of (λ t. t.thread) xs) ≡ 0 → 1 ≤ tot here (things_at (task_things r) 0 (x ∷ xs)) → Noted (x ∷ xs)
  found_in r x [] z l = step r x [] z (λ w. absurd (omega (arith, w))) l
  found_in r x (y ∷ ys) z l = step r x (y ∷ ys) z (λ w. found_in r y ys (omega (arith, z)) w) l

  found : (r : ℕ) (xs : List Task) → rising (numbers_of (λ t. t.thread) xs) ≡ 0 → 1 ≤ tot here (things_at (task_things r) 0 xs) → Noted xs
  found r [] z l = absurd (omega (arith, l))
  found r (x ∷ xs) z l = found_in r x xs z l

  -- AT HOME

  home_or_away : home_of u ≡ n → (x : Thing) → note x ≤ here x + noted_away x
  home_or_away home (noted r x) =
      eq_cases (λ b. one (b && h x.state) ≤ if_so (r == n) (one (b && h x.state)) + other (home_of x.thread == r)) x.thread u
      (λ e. eq_cases (λ b. one (true && h x.state) ≤ if_so b (one (true && h x.state)) + other (home_of x.thread == r)) r n (λ same. omega arith)
      (λ ne. eq_cases (λ b. one (true && h x.state) ≤ 0 + other b) (home_of x.thread) r (λ same. absurd (ne (sym same ∙ ap home_of e ∙ home))) (λ other. most (h x.state))))
      (λ ne. omega arith)
    where
      most : (d : Bool) → one (true && d) ≤ 0 + other false
      most true = omega arith
      most false = omega arith
  home_or_away home _ = omega arith

  all_home : home_of u ≡ n → (b : List Thing) → tot note b ≤ tot here b + tot noted_away b
  all_home home [] = omega arith
  all_home home (x ∷ b) = omega (arith, home_or_away home x, all_home home b)

module _ (k : Cluster) (sound : IsSound k) (number : ℕ) (s : Server) (at : server_at k.servers number ≡ Some s) where
  -- what is noted of a thread of this home is what its number finds here
  pub note_found : (u : ℕ) (h : TaskState → Bool) → home_of u ≡ s.rest.number → 1 ≤ tot (note u s.rest.number h) (things_of k) → Noted u s.rest.number h s.rest.tasks
  note_found u h home l =
      let n = s.rest.number in
      let away : tot noted_away (things_of k) ≡ 0 = sound.mutexes_and_tasks.noted_at_home in
      let parts : servers_wrong (sight k) 0 k.servers + sum_threads (sight k) pinned_parcel ≡ 0 = sound.parts.parts_are_typed in
      found u n h n s.rest.tasks (notes_rise (sight k) 0 number k.servers s (omega (arith, parts)) at) (omega (arith, l, all_home u n h home (things_of k), away, here_alone k sound number s at (here u n h) (elsewhere u n h), notes_alone u n h s))
