-- When two names or two plain values are the same, as tests that compute, and where names are counted.
use Rattle.std.specs.Prelude.{ℕ, ◌/◌, ◌%◌, ◌^◌, Bool, true, false, ◌&&◌, ◌==◌}
use Rattle.std.specs.Ordering.{int_eq}
use Rattle.fr_base.specs.declared.label.Plain.{Plain}
use Rattle.fr_base.specs.declared.label.Plain.TheVariants as plain
use Rattle.fr_base.specs.declared.name.MutexNo.{MutexNo}
use Rattle.fr_base.specs.declared.name.ObjNo.{ObjNo}
use Rattle.fr_base.specs.declared.release.Released.{Released}
use Rattle.fr_base.specs.declared.release.Released.TheVariants as released

abbrev pub same_object : ObjNo → ObjNo → Bool
same_object p q = (p.thread == q.thread) && (p.count == q.count)

abbrev pub same_mutex : MutexNo → MutexNo → Bool
same_mutex m n = (m.home == n.home) && (m.count == n.count)

abbrev pub same_plain : Plain → Plain → Bool
same_plain plain.Nothing plain.Nothing = true
same_plain plain.Unit plain.Unit = true
same_plain (plain.Int m) (plain.Int n) = int_eq m n
same_plain (plain.Box p) (plain.Box q) = same_object p q
same_plain (plain.Mutex m) (plain.Mutex n) = same_mutex m n
same_plain (plain.Task t) (plain.Task u) = t == u
same_plain _ _ = false

-- the server that started a thread, which is its home, and the thread's count there
abbrev pub home_of : ℕ → ℕ
home_of t = t / 2 ^ 32

abbrev pub count_of : ℕ → ℕ
count_of t = t % 2 ^ 32

-- where a mutex value or a task is counted
abbrev pub released_home : Released → ℕ
released_home (released.Mutex m) = m.home
released_home (released.Task t) = home_of t
