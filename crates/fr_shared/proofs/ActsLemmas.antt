-- Acts on mutexes are the changes that the code makes.
use Rattle.std.proofs.Common.{◌≡◌, List, [], Option, Some, None, sym, ap}
use Rattle.fr_base.specs.declared.label.Plain.{Plain}
use Rattle.fr_base.specs.declared.label.Label.{Label}
use Rattle.fr_base.specs.declared.name.MutexNo.{MutexNo}
use Rattle.fr_plain.specs.MachineThreads.{Move, Moves, Life, Mutex, Shared, Thread, Whole, mutex_there, with_mutex}
use Rattle.fr_plain.specs.Machine.{Stepped, where_there, shared, locked_with, locked, given_back}
use Rattle.fr_shared.specs.Shares.{changed_there, changed, one_more, emptied, filled, ActsChange}

module _ {P : Type 0} (ms : Moves P) (s : Whole P) (t : Thread P) (m : Move P (Life P)) (n : MutexNo) (ls : List Label) where
  dup_by : (o : Option Shared) (x : Stepped P) → where_there ms o (shared ms s t m n ls) ≡ Some x → x.state.mutexes ≡ changed_there s.mutexes n one_more o
  dup_by None x h = cc
  dup_by (Some y) x h = ap mutexes_of (sym h)
    where
      mutexes_of : Option (Stepped P) → List Mutex
      mutexes_of None = []
      mutexes_of (Some z) = z.state.mutexes

  lock_by : (o : Option Shared) (x : Stepped P) → where_there ms o (locked ms s t m n ls) ≡ Some x → x.state.mutexes ≡ changed_there s.mutexes n emptied o
  lock_by None x h = cc
  lock_by (Some y) x h = by y.content h
    where
      mutexes_of : Option (Stepped P) → List Mutex
      mutexes_of None = []
      mutexes_of (Some z) = z.state.mutexes

      by : (c : Option Plain) → locked_with ms s t m n ls y c ≡ Some x → x.state.mutexes ≡ with_mutex s.mutexes n (emptied y)
      by None g = cc
      by (Some v) g = ap mutexes_of (sym g)

unlock_by : {P : Type 0} (ms : Moves P) (s : Whole P) (n : MutexNo) (v : Plain) (x : Shared) → mutex_there s.mutexes n ≡ Some x → (given_back ms s n v (Some x)).mutexes ≡ changed s.mutexes n (filled v)
unlock_by ms s n v x h = ap (changed_there s.mutexes n (filled v)) (sym h)

pub acts_change_lem : (P : Type 0) → ActsChange P
acts_change_lem P = record {
  dup = λ ms s t m n ls x h. dup_by ms s t m n ls (mutex_there s.mutexes n) x h;
  lock = λ ms s t m n ls x h. lock_by ms s t m n ls (mutex_there s.mutexes n) x h;
  unlock = unlock_by;
}
