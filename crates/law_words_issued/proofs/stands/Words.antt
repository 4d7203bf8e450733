-- Weights of words alone: all that is named fits exactly where no word weighs something.
use Rattle.std.proofs.Common.{◌≡◌, ℕ, not, List, [], ◌∷◌, refl, arith}
use Rattle.law_walks_own.specs.Below.fr_base.declared.release.Released.{Released}
use Rattle.law_walks_own.specs.Below.fr_base.declared.release.Released.TheVariants as released
use Rattle.law_walks_own.specs.Below.law_walks_others.Below.join_home.Tasks.{TaskState, asked, in_pair}
use Rattle.law_walks_own.specs.Below.server_msgs.declared.message.Message.{Message}
use Rattle.law_walks_own.specs.Below.server_msgs.declared.message.Message.TheVariants as message
use Rattle.law_walks_own.specs.Below.heap_partition.declared.value.Owned.{Owned}
use Rattle.law_walks_own.specs.Below.heap_partition.declared.value.Owned.TheVariants as owned
use Rattle.law_walks_own.specs.Below.thread_state.View.{is_over}
use Rattle.law_walks_own.specs.Below.thread_state.declared.phase.Phase.{Phase}
use Rattle.law_walks_own.specs.Below.thread_state.declared.phase.Phase.TheVariants as phase
use Rattle.law_walks_own.specs.Below.coherent_memory.Names.{tot}
use Rattle.law_walks_own.specs.Below.coherent_memory.Things.{Thing, at_slot, at_temp, in_cell, holds, locks, lies, flies, copied, sent, stands, noted}
use Rattle.law_walks_own.specs.Below.coherent_memory.Placing.{words}
use Rattle.law_walks_own.specs.Below.coherent_memory.Sharing.{owned_mutex, released_mutex, phase_mutex}
use Rattle.law_walks_own.specs.Below.coherent_memory.Naming.{owned_thread, released_thread, message_thread, phase_thread, noted_thread, fetched_mutex}
use Rattle.law_walks_own.proofs.Below.coherent_memory.Names.{if_none}
use Rattle.law_walks_own.proofs.Below.law_counts_things.names.Fit.{Weights}
use Rattle.law_walks_own.proofs.Below.law_counts_things.names.Sums.{no_asker, no_copy, stray}

-- each word weighs so much, and nothing else does
abbrev pub only : (ℕ → ℕ) → Weights
only g = record {
  word = g;
  thread = λ t. 0;
  mutex = λ m. 0;
  object = λ o. 0;
  holder = λ d. 0;
  colour = λ c. 0;
  made = λ m. 0;
  mark = 0;
  asker = λ s t. 0;
  going = λ s t. 0;
  copy = λ v c. 0;
  wanted = λ v. 0;
}

-- NOTHING ELSE

no_owned_thread : (v : Owned) → owned_thread (λ t. 0) v ≡ 0
no_owned_thread (owned.Task t) = refl
no_owned_thread (owned.Box p) = refl
no_owned_thread v = refl

no_owned_mutex : (v : Owned) → owned_mutex (λ m. 0) v ≡ 0
no_owned_mutex (owned.Mutex m) = refl
no_owned_mutex v = refl

no_released_thread : (x : Released) → released_thread (λ t. 0) x ≡ 0
no_released_thread (released.Mutex m) = refl
no_released_thread (released.Task t) = refl

no_released_mutex : (x : Released) → released_mutex (λ m. 0) x ≡ 0
no_released_mutex (released.Mutex m) = refl
no_released_mutex (released.Task t) = refl

no_message_thread : (m : Message) → message_thread (λ t. 0) m ≡ 0
no_message_thread (message.Fetched v c t) = omega (arith, no_owned_thread c.value)
no_message_thread (message.Release x) = no_released_thread x
no_message_thread m = refl

no_message_mutex : (m : Message) → fetched_mutex (λ m. 0) m ≡ 0
no_message_mutex (message.Fetched v c t) = no_owned_mutex c.value
no_message_mutex (message.Release x) = no_released_mutex x
no_message_mutex m = refl

no_phase_thread : (p : Phase) → phase_thread (λ t. 0) p ≡ 0
no_phase_thread (phase.WaitJoin t) = refl
no_phase_thread p = refl

no_phase_mutex : (p : Phase) → phase_mutex (λ m. 0) p ≡ 0
no_phase_mutex (phase.WaitLock m) = refl
no_phase_mutex p = refl

no_noted_thread : (s : TaskState) → noted_thread (λ t. 0) s ≡ 0
no_noted_thread (asked s t) = refl
no_noted_thread (in_pair t over) = refl
no_noted_thread s = refl

only_words : (g : ℕ → ℕ) (x : Thing) → stray (only g) x ≡ words g x
only_words g (holds p v) = omega (arith, no_owned_thread v, no_owned_mutex v)
only_words g (locks (at_temp t i) m) = refl
only_words g (locks (at_slot t i) m) = refl
only_words g (locks (in_cell o) m) = refl
only_words g (lies s a c) = omega (arith, no_owned_thread c.value, no_owned_mutex c.value)
only_words g (flies v c) = omega (arith, no_owned_thread c.value, no_owned_mutex c.value)
only_words g (copied s c) = omega (arith, no_owned_thread c.cell.value, no_owned_mutex c.cell.value)
only_words g (sent s m) = omega (arith, no_message_thread m, no_message_mutex m, no_asker (sent s m), no_copy (sent s m))
only_words g (stands s p t) = omega (arith, no_phase_thread t.phase, no_phase_mutex t.phase, if_none (not (is_over t.phase)) 0 refl)
only_words g (noted s x) = omega (arith, no_noted_thread x.state, no_asker (noted s x))
only_words g x = omega arith

-- so the sums are the same
pub only_sums : (g : ℕ → ℕ) (b : List Thing) → tot (stray (only g)) b ≡ tot (words g) b
only_sums g [] = refl
only_sums g (x ∷ b) = omega (arith, only_words g x, only_sums g b)
