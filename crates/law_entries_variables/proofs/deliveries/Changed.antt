-- How mutexes, notes and messages of a server change, as the coloured heap sees it, and what is there.
use Rattle.std.proofs.Common.{◌≡◌, ℕ, ◌+◌, ◌≤◌, ◌==◌, ◌&&◌, ◌||◌, not, Bool, true, false, List, [], ◌∷◌, ◌++◌, Option, Some, None, refl, sym, ap, ◌∙◌, arith, append_assoc, append-nil}
use Rattle.std.specs.Prelude.{◌%◌, ◌^◌, slice_get}
use Rattle.law_words_ends.specs.Below.fr_base.declared.name.MutexNo.{MutexNo}
use Rattle.law_words_ends.specs.Below.heap_partition.declared.value.Owned.{Owned}
use Rattle.law_words_ends.specs.Below.mutex_home.Mutexes.{Mutex, mutex_in, put_mutex}
use Rattle.law_words_ends.specs.Below.join_home.Tasks.{Task, TaskState, going, let_go, kept, asked, in_pair, task_in, with_state, without_task}
use Rattle.law_words_ends.specs.Below.server_msgs.declared.message.Message.{Message}
use Rattle.law_words_ends.specs.Below.journal.declared.act.Act.{Act}
use Rattle.law_words_ends.specs.Below.server_model.Servers.{Server, Cluster, server_at}
use Rattle.law_words_ends.specs.Below.server_model.Work.{Work, note, with_mutexes, with_tasks}
use Rattle.law_words_ends.specs.Below.coherent_memory.Names.{tot, one, other, some}
use Rattle.law_words_ends.specs.Below.coherent_memory.Things.{as_content, as_result, Thing, at_home, noted, things_at, content_things, queue_things, result_things, mutex_things, task_things, message_things, server_things, things_of}
use Rattle.law_words_ends.specs.Below.coherent_memory.Sight.{sight}
use Rattle.law_words_ends.specs.Below.coherent_memory.Requests.{home_of}
use Rattle.law_words_ends.specs.Below.coherent_memory.Naming.{threads, named_mutexes, started_at, zeroth_thread, zeroth_mutex, uncounted_thread, uncounted_mutex}
use Rattle.law_words_ends.specs.Below.coherent_memory.OneHeap.{is_given_thread}
use Rattle.law_words_ends.specs.Below.coherent_memory.Coherent.{IsSound}
use Rattle.law_words_ends.proofs.Below.coherent_memory.Sums.{tot-append, server_parts}
use Rattle.law_words_ends.proofs.Below.law_counts_sums.Trades.{Trade, tot-remove}
use Rattle.law_words_ends.proofs.Below.law_counts_sums.Bags.{of_mutexes, of_tasks}
use Rattle.law_words_ends.proofs.Below.law_counts_sums.Events.{tot-server}
use Rattle.law_words_ends.proofs.Below.law_counts_sums.Askers.{other_none}
use Rattle.law_words_ends.proofs.Below.law_counts_sums.MutexLists.{mutex_changes}
use Rattle.law_words_ends.proofs.Below.law_counts_sums.TaskMessages.{tot-gone, tot-put}
use Rattle.law_entries_variables.proofs.deliveries.Weighed.{Seen, WorkTurns}

-- NOTHING YET, AND AN ACT

pub turns_none : (x : Work) → WorkTurns x [] [] [] x
turns_none x = record { number = refl; noted = sym (append-nil x.acts); labels = refl; things = λ f h. refl }

pub notes : (x : Work) (olds news : List Thing) (acts : List Act) (y : Work) (a : Act) → WorkTurns x olds news acts y → WorkTurns x olds news (acts ++ a ∷ []) (note a y)
notes x olds news acts y a w = record { number = w.number; noted = ap (λ l. l ++ a ∷ []) w.noted ∙ append_assoc x.acts acts (a ∷ []); labels = w.labels; things = w.things }

-- MUTEXES

module _ (f : Thing → ℕ) (h : Seen f) where
  content_unseen : (m : MutexNo) (o : Option Owned) → tot f (content_things m o) ≡ 0
  content_unseen m None = refl
  content_unseen m (Some v) = omega (arith, h.held (as_content m) v)

  pub mutex_seen : (n : ℕ) (m : Mutex) → tot f (mutex_things n 0 m) ≡ f (at_home n m) + tot f (things_at (queue_things m.number) 0 m.queue)
  mutex_seen n m = omega (arith, content_unseen m.number m.content, tot-append f (content_things m.number m.content) (things_at (queue_things m.number) 0 m.queue))

  result_unseen : (t : ℕ) (x : TaskState) → tot f (result_things t x) ≡ 0
  result_unseen t going = refl
  result_unseen t let_go = refl
  result_unseen t (kept v) = omega (arith, h.held (as_result t) v)
  result_unseen t (asked r u) = refl
  result_unseen t (in_pair p d) = refl

  task_seen : (n : ℕ) (x : Task) → tot f (task_things n 0 x) ≡ f (noted n x)
  task_seen n x = omega (arith, result_unseen x.thread x.state)

-- a mutex changes, and who waits for it
pub mutex_turns : (x : Work) (m : MutexNo) (y new : Mutex) (gone more : List Thing) → mutex_in x.rest.mutexes.there m ≡ Some y → new.number ≡ y.number
    → ((f : Thing → ℕ) → Seen f → tot f (things_at (queue_things new.number) 0 new.queue) + tot f gone ≡ tot f (things_at (queue_things y.number) 0 y.queue) + tot f more)
    → WorkTurns x (at_home x.rest.number y ∷ gone) (at_home x.rest.number new ∷ more) [] (with_mutexes (put_mutex x.rest.mutexes new) x)
mutex_turns x m y new gone more q named queue = record {
  number = refl;
  noted = sym (append-nil x.acts);
  labels = refl;
  things = λ f h.
      let n = x.rest.number in
      let t = of_mutexes n 0 x.rest (put_mutex x.rest.mutexes new) (mutex_changes n x.rest.mutexes.there m y new q named) in
      omega (arith, t.before f, t.after f, mutex_seen f h n y, mutex_seen f h n new, queue f h);
}

-- NOTES

pub note_turns : (x : Work) (u : ℕ) (y : Task) (z : TaskState) → task_in x.rest.tasks u ≡ Some y
    → WorkTurns x (noted x.rest.number y ∷ []) (noted x.rest.number (record { thread = u; state = z }) ∷ []) [] (with_tasks (with_state x.rest.tasks u z) x)
note_turns x u y z q = record {
  number = refl;
  noted = sym (append-nil x.acts);
  labels = refl;
  things = λ f h.
      let n = x.rest.number in
      let new : Task = record { thread = u; state = z } in
      let u2 : Trade (things_at (task_things n) 0 x.rest.tasks) (task_things n 0 y) (task_things n 0 new) (things_at (task_things n) 0 (with_state x.rest.tasks u z)) =
      record { rest = things_at (task_things n) 0 (without_task x.rest.tasks u); before = λ g. tot-gone g n x.rest.tasks u y q; after = λ g. tot-put g n x.rest.tasks u y z q } in
      let t = of_tasks n 0 x.rest (with_state x.rest.tasks u z) u2 in
      omega (arith, t.before f, t.after f, task_seen f h n y, task_seen f h n new);
}

pub note_goes : (x : Work) (u : ℕ) (y : Task) → task_in x.rest.tasks u ≡ Some y → WorkTurns x (noted x.rest.number y ∷ []) [] [] (with_tasks (without_task x.rest.tasks u) x)
note_goes x u y q = record {
  number = refl;
  noted = sym (append-nil x.acts);
  labels = refl;
  things = λ f h.
      let n = x.rest.number in
      let u2 : Trade (things_at (task_things n) 0 x.rest.tasks) (task_things n 0 y) [] (things_at (task_things n) 0 (without_task x.rest.tasks u)) =
      record { rest = things_at (task_things n) 0 (without_task x.rest.tasks u); before = λ g. tot-gone g n x.rest.tasks u y q; after = λ g. omega arith } in
      let t = of_tasks n 0 x.rest (without_task x.rest.tasks u) u2 in
      omega (arith, t.before f, t.after f, task_seen f h n y);
}

-- WHAT IS THERE

-- these things stand in the cluster
abbrev pub AreThere : Cluster → List Thing → Type 0
AreThere k xs = (f : Thing → ℕ) → tot f xs ≤ tot f (things_of k)

module _ (k : Cluster) (number : ℕ) (s : Server) (here : server_at k.servers number ≡ Some s) where
  abbrev n : ℕ
  n = s.rest.number

  pub at_server : (xs : List Thing) → ((f : Thing → ℕ) → tot f xs ≤ tot f (server_things s)) → AreThere k xs
  at_server xs e f = omega (arith, e f, (tot-server f k.servers number s s here).0)

  pub message_there : (i : ℕ) (m : Message) → slice_get s.rest.inbox i ≡ Some m → AreThere k (message_things n m)
  message_there i m q = at_server (message_things n m) (λ f. omega (arith, server_parts f s, tot-remove (λ y. message_things n y) f 0 s.rest.inbox i m q))

  pub mutex_there : (m : MutexNo) (y : Mutex) → mutex_in s.rest.mutexes.there m ≡ Some y → AreThere k (mutex_things n 0 y)
  mutex_there m y q = at_server (mutex_things n 0 y) (λ f. let t = mutex_changes n s.rest.mutexes.there m y y q refl in omega (arith, server_parts f s, t.before f))

  pub task_there : (u : ℕ) (y : Task) → task_in s.rest.tasks u ≡ Some y → AreThere k (task_things n 0 y)
  task_there u y q = at_server (task_things n 0 y) (λ f. omega (arith, server_parts f s, tot-gone f n s.rest.tasks u y q))

-- IN A SOUND CLUSTER

abbrev elsewhere : Thing → ℕ
elsewhere (at_home s m) = other (m.number.home == s)
elsewhere x = 0

abbrev noted_away : Thing → ℕ
noted_away (noted r x) = other (home_of x.thread == r)
noted_away x = 0

module _ (k : Cluster) (sound : IsSound k) where
  pub mutex_home : (n : ℕ) (y : Mutex) (xs : List Thing) → AreThere k (at_home n y ∷ xs) → (y.number.home == n) ≡ true
  mutex_home n y xs h = let z : tot elsewhere (things_of k) ≡ 0 = sound.mutexes_and_tasks.at_their_home in other_none (y.number.home == n) (omega (arith, h elsewhere, z))

  pub task_home : (n : ℕ) (y : Task) (xs : List Thing) → AreThere k (noted n y ∷ xs) → (home_of y.thread == n) ≡ true
  task_home n y xs h = let z : tot noted_away (things_of k) ≡ 0 = sound.mutexes_and_tasks.noted_at_home in other_none (home_of y.thread == n) (omega (arith, h noted_away, z))

  -- a thread that is noted was started
  pub task_given : (n : ℕ) (y : Task) (xs : List Thing) → AreThere k (noted n y ∷ xs) → is_given_thread (sight k) y.thread ≡ true
  task_given n y xs h =
      let named : tot (threads (uncounted_thread (sight k))) (things_of k) + tot (named_mutexes (uncounted_mutex (sight k))) (things_of k) ≡ 0 = sound.names.names_counted in
      let zeroth : tot (threads zeroth_thread) (things_of k) + tot (named_mutexes zeroth_mutex) (things_of k) ≡ 0 = sound.names.counts_from_one in
      let u = y.thread in
      by (u == 0) (u % 2 ^ 32 == 0) (some (tot (started_at (home_of u) (u % 2 ^ 32)) (things_of k))) (omega (arith, zeroth, h (threads zeroth_thread))) (omega (arith, named, h (threads (uncounted_thread (sight k)))))
    where
      by : (a b d : Bool) → one (b && not a) ≡ 0 → other d ≡ 0 → a || (not b && d) ≡ true
      by true b d z e = refl
      by false true d z e = absurd (cc z)
      by false false true z e = refl
      by false false false z e = absurd (cc e)
