-- Each thing shows the threads that it has a weight for: those that it is, notes, names by a task value, or whose result it is.
use Rattle.std.proofs.Common.{◌≡◌, ℕ, Bool, true, false, Option, Some, None, refl, sym}
use Rattle.std.specs.Prelude.{◌==◌, ◌&&◌, not, is_some}
use Rattle.server_model.specs.Below.fr_base.declared.release.Released.{Released}
use Rattle.server_model.specs.Below.fr_base.declared.release.Released.TheVariants as released
use Rattle.server_model.specs.Below.heap_partition.declared.value.Owned.{Owned}
use Rattle.server_model.specs.Below.heap_partition.declared.value.Owned.TheVariants as owned
use Rattle.server_model.specs.Below.thread_state.View.{is_over}
use Rattle.server_model.specs.Below.thread_state.declared.phase.Phase.{Phase}
use Rattle.server_model.specs.Below.thread_state.declared.phase.Phase.TheVariants as phase
use Rattle.server_model.specs.Below.server_msgs.declared.message.Message.{Message}
use Rattle.server_model.specs.Below.server_msgs.declared.message.Message.TheVariants.{Release, Joined, Finished}
use Rattle.coherent_memory.specs.Names.{one, if_so, task_values}
use Rattle.coherent_memory.specs.Things.{holds, lies, flies, sent, stands, noted}
use Rattle.coherent_memory.specs.Follow.{Standing}
use Rattle.coherent_memory.specs.Sight.{Sight}
use Rattle.coherent_memory.specs.Paths.{joined_thread}
use Rattle.coherent_memory.specs.Walking.{instr_of}
use Rattle.coherent_memory.specs.Weights.{tasks_of, tasks_sent, released_task, is_thread, numbers}
use Rattle.coherent_memory.specs.Requests.{is_task}
use Rattle.coherent_memory.specs.Sharing.{going_on, going_notes, goes_on, finished_of, finished_thread, started_threads, owned_task, released_task as released_weight, message_task, tasks, gift_result, some_task, gift_task, joined_of, owes, owed, joined_thread_in, owed_threads, kept_note, got_phase, results, phase_result, resulting}
use Rattle.coherent_memory.proofs.Shown.{Sees, Quiet}
use Rattle.coherent_memory.proofs.Names.{left_none, right_none, both_none, and_left, same_number, one_not, if_not, if_none, apart, other_number}

pub threads_seen : Sees is_thread numbers
threads_seen h t (stands s p x) z e = other_number h x.number t z e
threads_seen h t _ z e = refl

pub numbers_quiet : Quiet numbers
numbers_quiet h n (stands s p x) = n x.number
numbers_quiet h n _ = refl

-- THREADS THAT GO ON

finished_seen : (h : ℕ → ℕ) (t : ℕ) (m : Message) → finished_thread h m ≡ 0 → h t ≡ 1 → finished_of t m ≡ 0
finished_seen h t (Finished u v) z e = other_number h u t z e
finished_seen h t _ z e = refl

finished_quiet : (h : ℕ → ℕ) → ((t : ℕ) → h t ≡ 0) → (m : Message) → finished_thread h m ≡ 0
finished_quiet h n (Finished u v) = n u
finished_quiet h n _ = refl

pub going_seen : Sees going_notes started_threads
going_seen h t (noted r x) z e = one_not (x.thread == t && going_on x.state) (λ q. apart h x.thread t z e (same_number x.thread t (and_left (x.thread == t) (going_on x.state) q)))
going_seen h t _ z e = refl

pub goes_seen : Sees goes_on started_threads
goes_seen h t (stands r p x) z e =
    one_not (x.number == t && (not (x.number == 0) && not (is_over x.phase))) (λ q.
    apart h x.number t z e (same_number x.number t (and_left (x.number == t) (not (x.number == 0) && not (is_over x.phase)) q)))
goes_seen h t (sent r m) z e = finished_seen h t m z e
goes_seen h t _ z e = refl

pub started_quiet : Quiet started_threads
started_quiet h n (noted r x) = n x.thread
started_quiet h n (stands r p x) = n x.number
started_quiet h n (sent r m) = finished_quiet h n m
started_quiet h n _ = refl

-- TASK VALUES

owned_seen : (h : ℕ → ℕ) (t : ℕ) (v : Owned) → owned_task h v ≡ 0 → h t ≡ 1 → task_values t v ≡ 0
owned_seen h t (owned.Task u) z e = other_number h u t z e
owned_seen h t _ z e = refl

release_seen : (h : ℕ → ℕ) (t : ℕ) (x : Released) → released_weight h x ≡ 0 → h t ≡ 1 → released_task t x ≡ 0
release_seen h t (released.Task u) z e = other_number h u t z e
release_seen h t (released.Mutex m) z e = refl

message_seen : (h : ℕ → ℕ) (t : ℕ) (m : Message) → message_task h m ≡ 0 → h t ≡ 1 → tasks_sent t m ≡ 0
message_seen h t (Release x) z e = release_seen h t x z e
message_seen h t _ z e = refl

pub tasks_seen : Sees tasks_of tasks
tasks_seen h t (holds p v) z e = owned_seen h t v z e
tasks_seen h t (lies s a c) z e = owned_seen h t c.value z e
tasks_seen h t (flies w c) z e = owned_seen h t c.value z e
tasks_seen h t (sent s m) z e = message_seen h t m z e
tasks_seen h t _ z e = refl

owned_quiet : (h : ℕ → ℕ) → ((t : ℕ) → h t ≡ 0) → (v : Owned) → owned_task h v ≡ 0
owned_quiet h n (owned.Task u) = n u
owned_quiet h n _ = refl

release_quiet : (h : ℕ → ℕ) → ((t : ℕ) → h t ≡ 0) → (x : Released) → released_weight h x ≡ 0
release_quiet h n (released.Task u) = n u
release_quiet h n (released.Mutex m) = refl

message_quiet : (h : ℕ → ℕ) → ((t : ℕ) → h t ≡ 0) → (m : Message) → message_task h m ≡ 0
message_quiet h n (Release x) = release_quiet h n x
message_quiet h n _ = refl

pub tasks_quiet : Quiet tasks
tasks_quiet h n (holds p v) = owned_quiet h n v
tasks_quiet h n (lies s a c) = owned_quiet h n c.value
tasks_quiet h n (flies w c) = owned_quiet h n c.value
tasks_quiet h n (sent s m) = message_quiet h n m
tasks_quiet h n _ = refl

-- WHAT IS OWED TO THEM

joined_seen : (h : ℕ → ℕ) (t : ℕ) (m : Message) → joined_thread_in h m ≡ 0 → h t ≡ 1 → joined_of t m ≡ 0
joined_seen h t (Joined u v by) z e = other_number h u t z e
joined_seen h t _ z e = refl

joined_quiet : (h : ℕ → ℕ) → ((t : ℕ) → h t ≡ 0) → (m : Message) → joined_thread_in h m ≡ 0
joined_quiet h n (Joined u v by) = n u
joined_quiet h n _ = refl

some_seen : (h : ℕ → ℕ) (t : ℕ) (u : Option ℕ) → some_task h u ≡ 0 → h t ≡ 1 → one (is_task t u) ≡ 0
some_seen h t None z e = refl
some_seen h t (Some u) z e = one_not (t == u) (λ q. apart h u t z e (sym (same_number t u q)))

gift_seen_by : (h : ℕ → ℕ) (t : ℕ) (q : Bool) (u : Option ℕ) → if_so q (some_task h u) ≡ 0 → h t ≡ 1 → if_so q (one (is_task t u)) ≡ 0
gift_seen_by h t true u z e = some_seen h t u z e
gift_seen_by h t false u z e = refl

some_quiet : (h : ℕ → ℕ) → ((t : ℕ) → h t ≡ 0) → (u : Option ℕ) → some_task h u ≡ 0
some_quiet h n None = refl
some_quiet h n (Some u) = n u

pub owed_seen : (s : Sight) → Sees (owed s) (owed_threads s)
owed_seen s h t (noted r x) z e = one_not (x.thread == t && owes x.state) (λ q. apart h x.thread t z e (same_number x.thread t (and_left (x.thread == t) (owes x.state) q)))
owed_seen s h t (sent r m) z e = joined_seen h t m (right_none (message_task h m) (joined_thread_in h m) z) e
owed_seen s h t (stands r p x) z e = let y : Standing = record { server = r; packed = p; thread = x } in gift_seen_by h t (is_some x.gift) (joined_thread (instr_of s y) x) z e
owed_seen s h t _ z e = refl

pub named_seen : (s : Sight) → Sees tasks_of (owed_threads s)
named_seen s h t (sent r m) z e = message_seen h t m (left_none (message_task h m) (joined_thread_in h m) z) e
named_seen s h t (holds p v) z e = owned_seen h t v z e
named_seen s h t (lies r a c) z e = owned_seen h t c.value z e
named_seen s h t (flies w c) z e = owned_seen h t c.value z e
named_seen s h t _ z e = refl

pub owed_quiet : (s : Sight) → Quiet (owed_threads s)
owed_quiet s h n (noted r x) = n x.thread
owed_quiet s h n (sent r m) = both_none (message_task h m) (joined_thread_in h m) (message_quiet h n m) (joined_quiet h n m)
owed_quiet s h n (stands r p x) = let y : Standing = record { server = r; packed = p; thread = x } in if_none (is_some x.gift) (some_task h (joined_thread (instr_of s y) x)) (some_quiet h n (joined_thread (instr_of s y) x))
owed_quiet s h n (holds p v) = owned_quiet h n v
owed_quiet s h n (lies r a c) = owned_quiet h n c.value
owed_quiet s h n (flies w c) = owned_quiet h n c.value
owed_quiet s h n _ = refl

-- RESULTS

phase_seen : (h : ℕ → ℕ) (t : ℕ) (p : Phase) → phase_result h p ≡ 0 → h t ≡ 1 → got_phase t p ≡ 0
phase_seen h t (phase.GotPar a b) z e = both_none (one (a == t)) (one (b == t)) (other_number h a t (left_none (h a) (h b) z) e) (other_number h b t (right_none (h a) (h b) z) e)
phase_seen h t _ z e = refl

phase_quiet : (h : ℕ → ℕ) → ((t : ℕ) → h t ≡ 0) → (p : Phase) → phase_result h p ≡ 0
phase_quiet h n (phase.GotPar a b) = both_none (h a) (h b) (n a) (n b)
phase_quiet h n _ = refl

pub results_seen : (s : Sight) → Sees (results s) (resulting s)
results_seen s h t (noted r x) z e = if_not (x.thread == t) (kept_note x.state) (λ q. apart h x.thread t z e (same_number x.thread t q))
results_seen s h t (sent r m) z e =
    both_none (finished_of t m) (joined_of t m) (finished_seen h t m (left_none (finished_thread h m) (joined_thread_in h m) z) e) (joined_seen h t m (right_none (finished_thread h m) (joined_thread_in h m) z) e)
results_seen s h t (stands r p x) z e =
    let y : Standing = record { server = r; packed = p; thread = x } in
    both_none (got_phase t x.phase) (gift_result s t y) (phase_seen h t x.phase (left_none (phase_result h x.phase) (gift_task s h y) z) e)
    (gift_seen_by h t (is_some x.gift) (joined_thread (instr_of s y) x) (right_none (phase_result h x.phase) (gift_task s h y) z) e)
results_seen s h t _ z e = refl

pub results_quiet : (s : Sight) → Quiet (resulting s)
results_quiet s h n (noted r x) = n x.thread
results_quiet s h n (sent r m) = both_none (finished_thread h m) (joined_thread_in h m) (finished_quiet h n m) (joined_quiet h n m)
results_quiet s h n (stands r p x) =
    let y : Standing = record { server = r; packed = p; thread = x } in
    both_none (phase_result h x.phase) (gift_task s h y) (phase_quiet h n x.phase)
    (if_none (is_some x.gift) (some_task h (joined_thread (instr_of s y) x)) (some_quiet h n (joined_thread (instr_of s y) x)))
results_quiet s h n _ = refl
