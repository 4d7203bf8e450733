-- What is done with the mutexes of the plain machine, in words of its lists.
use Rattle.std.specs.Prelude.{◌≡◌, ℕ, suc, ◌+◌, ◌-◌, ◌^◌, Bool, true, nat_lt, List, Option, Some, None}
use Rattle.fr_base.specs.declared.label.Plain.{Plain}
use Rattle.fr_base.specs.declared.label.Label.{Label}
use Rattle.fr_base.specs.declared.name.MutexNo.{MutexNo}
use Rattle.fr_plain.specs.MachineThreads.{Move, Moves, Life, Mutex, Shared, Thread, Whole, mutex_there, with_mutex, content_gone, share_released}
use Rattle.fr_plain.specs.Machine.{Stepped, at_mutex, shared, locked, given_back}

-- the mutexes after a change of one that has a share
abbrev pub changed_there : List Mutex → MutexNo → (Shared → Option Shared) → Option Shared → List Mutex
changed_there ms n change None = ms
changed_there ms n change (Some x) = with_mutex ms n (change x)

abbrev pub changed : List Mutex → MutexNo → (Shared → Option Shared) → List Mutex
changed ms n change = changed_there ms n change (mutex_there ms n)

abbrev pub content_in : Option Shared → Option Plain
content_in None = None
content_in (Some x) = x.content

-- the content, where it is in
abbrev pub content_at : List Mutex → MutexNo → Option Plain
content_at ms n = content_in (mutex_there ms n)

-- one share more, the content taken out, and another content in
abbrev pub one_more : Shared → Option Shared
one_more x = Some (record { content = x.content; shares = x.shares + 1 })

abbrev pub emptied : Shared → Option Shared
emptied x = Some (record { content = None; shares = x.shares })

abbrev pub filled : Plain → Shared → Option Shared
filled v x = Some (record { content = Some v; shares = x.shares })

-- one share less; with the last one the mutex goes
abbrev pub less_by : Shared → ℕ → Option Shared
less_by x (suc (suc k)) = Some (record { content = x.content; shares = suc k })
less_by x _ = None

abbrev pub one_less : Shared → Option Shared
one_less x = less_by x x.shares

-- and with it its content, where that is in
abbrev pub left_by : Shared → ℕ → Option Plain
left_by x (suc (suc k)) = None
left_by x _ = x.content

abbrev pub left_in : Option Shared → Option Plain
left_in None = None
left_in (Some x) = left_by x x.shares

abbrev pub left_at : List Mutex → MutexNo → Option Plain
left_at ms n = left_in (mutex_there ms n)

-- a share more can be counted
abbrev pub can_share_in : Option Shared → Bool
can_share_in None = true
can_share_in (Some x) = nat_lt x.shares (2 ^ 64 - 1)

abbrev pub can_share : List Mutex → MutexNo → Bool
can_share ms n = can_share_in (mutex_there ms n)

-- THE LAWS

-- a share goes in the plain machine as it goes here, and then what goes with it
abbrev pub SharesRelease : Type 0 → Type 0
SharesRelease P = (go : Whole P → Plain → Whole P) (s : Whole P) (n : MutexNo) →
    share_released go s n (mutex_there s.mutexes n) ≡ content_gone go (record s { mutexes = changed s.mutexes n one_less }) (left_at s.mutexes n)

-- what an act of the plain machine does to the mutexes is such a change: a `dup` counts one share more, a lock takes the
-- content out, and an unlock puts one in, where the mutex has a share
pub record ActsChange (P : Type 0) : Type 0 where
  pub dup : (ms : Moves P) (s : Whole P) (t : Thread P) (m : Move P (Life P)) (n : MutexNo) (ls : List Label) (x : Stepped P) → at_mutex ms s (Some (n, ls)) (shared ms s t m) ≡ Some x → x.state.mutexes ≡ changed s.mutexes n one_more
  pub lock : (ms : Moves P) (s : Whole P) (t : Thread P) (m : Move P (Life P)) (n : MutexNo) (ls : List Label) (x : Stepped P) → at_mutex ms s (Some (n, ls)) (locked ms s t m) ≡ Some x → x.state.mutexes ≡ changed s.mutexes n emptied
  pub unlock : (ms : Moves P) (s : Whole P) (n : MutexNo) (v : Plain) (x : Shared) → mutex_there s.mutexes n ≡ Some x → (given_back ms s n v (Some x)).mutexes ≡ changed s.mutexes n (filled v)
