-- Where there is no mutex, what goes with a dropped value are threads alone.
use Rattle.std.proofs.Common.{◌≡◌, ℕ, zero, suc, [], length, Option, Some, None, refl, ap, ◌∙◌}
use Rattle.fr_base.specs.declared.label.Plain.{Plain}
use Rattle.fr_base.specs.declared.label.Plain.TheVariants as plain
use Rattle.fr_base.specs.declared.name.MutexNo.{MutexNo}
use Rattle.fr_plain.specs.Heap.{task_of}
use Rattle.fr_plain.specs.State.{without}
use Rattle.fr_plain.specs.MachineActs.{end_of}
use Rattle.fr_plain.specs.MachineThreads.{Life, alive, over, owing, loose, ended, Thread, Whole, mutex_there, thread_at, with_thread, with_life, thread_released, thread_released_in, share_released, release_by, count_both, release}
use Rattle.fr_plain.specs.Machine.{Stepped, then_released}
use Rattle.fr_plain.specs.Tasks.{released, released_in, let_threads_go, let_go, then_let_go}

module _ {P : Type 0} where
  abbrev Go : (Whole P → Plain → Whole P) → (Whole P → Option ℕ → Whole P) → Type 0
  Go f g = (s : Whole P) → s.mutexes ≡ [] → (v : Plain) → f s v ≡ g s (task_of v)

  life_goes : (f : Whole P → Plain → Whole P) (g : Whole P → Option ℕ → Whole P) → Go f g → (s : Whole P) → s.mutexes ≡ [] → (x : Thread P) (l : Life P) → thread_released f s x l ≡ released g s x l
  life_goes f g go s none x (alive p) = refl
  life_goes f g go s none x (owing p) = refl
  life_goes f g go s none x (loose p) = refl
  life_goes f g go s none x over = refl
  life_goes f g go s none x (ended v) = go (record s { threads = with_thread s.threads (with_life x over); heap = without s.heap v }) none (end_of s.heap v)

  thread_goes : (f : Whole P → Plain → Whole P) (g : Whole P → Option ℕ → Whole P) → Go f g → (s : Whole P) → s.mutexes ≡ [] → (x : Option (Thread P)) → thread_released_in f s x ≡ released_in g s x
  thread_goes f g go s none None = refl
  thread_goes f g go s none (Some x) = life_goes f g go s none x x.life

  no_share : (f : Whole P → Plain → Whole P) (s : Whole P) (n : MutexNo) → s.mutexes ≡ [] → share_released f s n (mutex_there s.mutexes n) ≡ s
  no_share f s n none = ap (λ ms. share_released f s n (mutex_there ms n)) none

  pub release_goes : (n : ℕ) → Go (release_by n) (let_threads_go n)
  release_goes n s none plain.Nothing = refl
  release_goes n s none plain.Unit = refl
  release_goes n s none (plain.Int k) = refl
  release_goes n s none (plain.Box o) = refl
  release_goes zero s none (plain.Mutex m) = refl
  release_goes zero s none (plain.Task t) = refl
  release_goes (suc n) s none (plain.Mutex m) = no_share (release_by n) s m none
  release_goes (suc n) s none (plain.Task t) = thread_goes (release_by n) (let_threads_go n) (release_goes n) s none (thread_at s.threads t)

  pub release_tasks : (s : Whole P) → s.mutexes ≡ [] → (v : Plain) → release s v ≡ let_go s (task_of v)
  release_tasks s none v = ap (λ ms. release_by (count_both ms s.threads) s v) none ∙ release_goes (length s.threads) s none v

  -- after a step that leaves no mutex
  pub then_tasks : (v : Plain) (x : Option (Stepped P)) → ((y : Stepped P) → x ≡ Some y → y.state.mutexes ≡ []) → then_released v x ≡ then_let_go (task_of v) x
  then_tasks v None none = refl
  then_tasks v (Some y) none = ap (λ (s : Whole P). Some (record { state = s; labels = y.labels })) (release_tasks y.state (none y refl) v)
