-- What a cluster answers after the delivery of an object or a copy: threads, mutexes and their names stay.
use Rattle.std.proofs.Common.{◌≡◌, ℕ, List, Option, is_none, ap, ◌∙◌}
use Rattle.law_entries_variables.specs.Below.fr_base.declared.name.MutexNo.{MutexNo}
use Rattle.law_entries_variables.specs.Below.fr_base.declared.name.ObjNo.{ObjNo}
use Rattle.law_entries_variables.specs.Below.server_model.Servers.{Cluster}
use Rattle.law_entries_variables.specs.Below.coloured_heap.Heap.{Living, Copied, Wish, Running}
use Rattle.law_entries_variables.specs.Below.coherent_memory.Names.{tot}
use Rattle.law_entries_variables.specs.Below.coherent_memory.Things.{Thing}
use Rattle.law_entries_variables.specs.Below.coherent_memory.Sight.{sight, issued}
use Rattle.law_entries_variables.specs.Below.coherent_memory.Weights.{is_thread}
use Rattle.law_entries_variables.specs.Below.coherent_memory.Naming.{started_at, made_at}
use Rattle.law_entries_variables.specs.Below.coherent_memory.Colours.{living_of, copy_of, served_of, wishes_of, running_of}
use Rattle.law_entries_variables.specs.Below.coherent_memory.Coherent.{IsSound}
use Rattle.law_entries_variables.proofs.Below.law_heap_still.events.Told.{told}
use Rattle.law_entries_variables.proofs.deliveries.Answers.{Answers, Agrees, answers_of}
use Rattle.law_entries_variables.proofs.deliveries.Shown.{runs, there_in, holder_by}
use Rattle.law_entries_variables.proofs.deliveries.After.{Follows, Keeps, started_still, running_still, ended_by, made_still, there_still, holder_still}

-- threads and mutexes stay
pub record ObjectsOnly (k : Cluster) (olds news : List Thing) : Type 0 where
  pub started : (s n : ℕ) → tot (started_at s n) olds ≡ tot (started_at s n) news
  pub made : (s n : ℕ) → tot (made_at s n) olds ≡ tot (made_at s n) news
  pub threads : (t : ℕ) → tot (is_thread t) olds ≡ tot (is_thread t) news
  pub running : (t : ℕ) (g : Running → ℕ) → tot (runs g t) olds ≡ tot (runs g t) news
  pub there : (m : MutexNo) → tot (there_in m) olds ≡ tot (there_in m) news
  pub holders : (m : MutexNo) (g : ℕ → ℕ) → tot (λ x. told g (holder_by (sight k) m x)) olds ≡ tot (λ x. told g (holder_by (sight k) m x)) news

-- these objects, copies, copies on their way and wishes
abbrev pub with_objects : Answers → (ObjNo → Option Living) → (ℕ → ℕ → Option Copied) → (Copied → ℕ) → (Wish → ℕ) → Answers
with_objects q o c s w = record q { object = o; copy = c; served = s; wishes = w }

pub objects_agree : (k c : Cluster) (olds news : List Thing) → IsSound k → Follows k c olds news → Keeps k c → ObjectsOnly k olds news → (living : ObjNo → Option Living) (copy : ℕ → ℕ → Option Copied) (served : Copied → ℕ) (wishes : Wish → ℕ)
    → ((o : ObjNo) → living o ≡ living_of (sight c) o) → ((r w : ℕ) → copy r w ≡ copy_of (sight c) r w) → ((a : Copied) → served a ≡ served_of (sight c) a) → ((w : ℕ) → issued (sight k) w ≡ issued (sight c) w) → ((a : Wish) → wishes a ≡ wishes_of (sight c) a)
    → Agrees (with_objects (answers_of (sight k)) living copy served wishes) (answers_of (sight c))
objects_agree k c olds news sound f keeps q living copy served wishes objects copies on_way words wished =
    let started = started_still k c olds news sound f q.started in
    let running : (t : ℕ) → running_of (sight k) t ≡ running_of (sight c) t = (λ t. running_still k c olds news sound f q.threads t (q.running t)) in record {
      object = objects;
      copy = copies;
      served = on_way;
      issued = words;
      started = started;
      running = running;
      ended = ended_by k c started (λ t. ap is_none (running t));
      wishes = wished;
      made = made_still k c olds news sound f q.made;
      there = λ m e. there_still k c olds news sound f m (q.there m) ∙ e;
      holder = λ m. holder_still k c olds news sound f keeps m (q.holders m);
    }
