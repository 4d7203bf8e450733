-- What goes last with a dropped value, as the code tells it.
use Rattle.std.proofs.Common.{◌≡◌, ℕ, zero, suc, List, Option, Some, None, refl, sym, ap, ◌∙◌}
use Rattle.fr_base.specs.declared.label.Plain.{Plain}
use Rattle.fr_base.specs.declared.label.Plain.TheVariants as plain
use Rattle.fr_base.specs.declared.name.MutexNo.{MutexNo}
use Rattle.fr_plain.specs.declared.value.Value.{Value}
use Rattle.fr_plain.specs.Heap.{Heap}
use Rattle.fr_plain.specs.MachineThreads.{Mutex, Shared, mutex_there, with_mutex, content_gone, share_gone, share_released}
use Rattle.fr_plain.specs.Threads.{Whole, release_by}
use Rattle.fr_shared.specs.Releases.{released_of}
use Rattle.fr_shared.specs.Shares.{changed_there, changed, one_less, less_by, left_by, left_in, left_at}
use Rattle.fr_acts.specs.MutexActs.{Rest, part, whole_in, last_of}

-- what others have no part in lets nothing go
pub last_same : (k : ℕ) (s : Whole) (v : Plain) → release_by k s (last_of (released_of v)) ≡ release_by k s v
last_same k s plain.Nothing = refl
last_same k s plain.Unit = refl
last_same k s (plain.Int n) = refl
last_same k s (plain.Box o) = refl
last_same k s (plain.Task t) = refl
last_same k s (plain.Mutex n) = refl

-- a share that goes leaves the mutexes with one less, and lets the content go that goes with it
share_by : (go : Whole → Plain → Whole) (s : Whole) (n : MutexNo) (o : Option Shared) → share_released go s n o ≡ content_gone go (record s { mutexes = changed_there s.mutexes n one_less o }) (left_in o)
share_by go s n None = refl
share_by go s n (Some y) = by y.shares
  where
    by : (j : ℕ) → share_gone go s n y j ≡ content_gone go (record s { mutexes = with_mutex s.mutexes n (less_by y j) }) (left_by y j)
    by zero = refl
    by (suc zero) = refl
    by (suc (suc j)) = refl

pub share_goes : (k : ℕ) (x : Rest) (slots : List Value) (heap : Heap) (ms : List Mutex) (n : MutexNo) (o : Option Plain) → o ≡ left_at ms n →
    release_by (suc k) (whole_in x (part slots heap ms)) (plain.Mutex n) ≡ content_gone (release_by k) (whole_in x (part slots heap (changed ms n one_less))) o
share_goes k x slots heap ms n o h =
    share_by (release_by k) (whole_in x (part slots heap ms)) n (mutex_there ms n)
    ∙ ap (content_gone (release_by k) (whole_in x (part slots heap (changed ms n one_less)))) (sym h)
