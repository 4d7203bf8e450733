-- OTHER NAMES: states of the plain machine whose threads and mutexes have other names (this project's rule).
use Rattle.std.specs.Prelude.{◌≡◌, ℕ, ◌==◌, List, map, Option}
use Rattle.std.specs.Option.{option_map}
use Rattle.fr_base.specs.Names.{same_mutex}
use Rattle.fr_base.specs.declared.name.MutexNo.{MutexNo}
use Rattle.fr_base.specs.declared.name.ObjNo.{ObjNo}
use Rattle.fr_base.specs.declared.instruction.Instr.{Instr}
use Rattle.fr_base.specs.declared.label.Plain.{Plain}
use Rattle.fr_base.specs.declared.label.Plain.TheVariants as plain
use Rattle.fr_base.specs.declared.label.Label.{Label}
use Rattle.fr_base.specs.declared.label.Label.TheVariants as label
use Rattle.fr_base.specs.declared.step.Fresh.{Fresh}
use Rattle.fr_base.specs.declared.step.Fresh.TheVariants as fresh
use Rattle.fr_plain.specs.declared.value.Value.{Value}
use Rattle.fr_plain.specs.declared.value.Value.TheVariants as value
use Rattle.fr_plain.specs.Heap.{Made, Heap}
use Rattle.fr_plain.specs.MachineThreads.{Life, alive, over, owing, loose, ended, Thread, Shared, Mutex, Pair, Whole}
use Rattle.fr_plain.specs.Machine.{Stepped, Turn, ending_of}
use Rattle.fr_code.specs.Steps.{Place, code_moves}
use Rattle.fr_code.specs.Machine.{CodeWhole, code_run}

-- a new name for each thread, and for each mutex
pub record Renaming : Type 0 where
  pub thread : ℕ → ℕ
  pub mutex : MutexNo → MutexNo

-- no two names become one, and main keeps its own
pub record IsOneToOne (n : Renaming) : Type 0 where
  pub threads : (t u : ℕ) → (n.thread t == n.thread u) ≡ (t == u)
  pub mutexes : (m k : MutexNo) → same_mutex (n.mutex m) (n.mutex k) ≡ same_mutex m k
  pub main : n.thread 0 ≡ 0

module _ (n : Renaming) where
  -- an object is named by the thread that made it
  abbrev pub object : ObjNo → ObjNo
  object o = record { thread = n.thread o.thread; count = o.count }

  abbrev pub owned : Plain → Plain
  owned plain.Nothing = plain.Nothing
  owned plain.Unit = plain.Unit
  owned (plain.Int i) = plain.Int i
  owned (plain.Box o) = plain.Box (object o)
  owned (plain.Mutex m) = plain.Mutex (n.mutex m)
  owned (plain.Task t) = plain.Task (n.thread t)

  abbrev pub kept : Value → Value
  kept (value.Own v) = value.Own (owned v)
  kept (value.ToSlot i) = value.ToSlot i
  kept (value.ToObject o) = value.ToObject (object o)
  kept (value.Held m) = value.Held (n.mutex m)

  abbrev pub all_kept : List Value → List Value
  all_kept vs = map kept vs

  abbrev pub cells : List (Option Plain) → List (Option Plain)
  cells cs = map (option_map owned) cs

  abbrev pub made : Made → Made
  made m = record { thread = n.thread m.thread; cells = cells m.cells }

  abbrev pub heap : Heap → Heap
  heap h = map made h

  abbrev pub shown : Label → Label
  shown (label.Make o v) = label.Make (object o) (owned v)
  shown (label.Load o v) = label.Load (object o) (owned v)
  shown (label.Store o v) = label.Store (object o) (owned v)
  shown (label.Drop o) = label.Drop (object o)
  shown (label.Print i) = label.Print i
  shown (label.Lock m) = label.Lock (n.mutex m)
  shown (label.Unlock m) = label.Unlock (n.mutex m)
  shown (label.Start t) = label.Start (n.thread t)
  shown (label.End t) = label.End (n.thread t)

  abbrev pub labels : List Label → List Label
  labels ls = map shown ls

  abbrev pub shared : Shared → Shared
  shared x = record { content = option_map owned x.content; shares = x.shares }

  abbrev pub mutex : Mutex → Mutex
  mutex x = record { number = n.mutex x.number; there = option_map shared x.there }

  abbrev pub pair : Pair → Pair
  pair p = record { parent = n.thread p.parent; first = n.thread p.first; second = n.thread p.second }

  -- a turn of an order
  abbrev pub given : Fresh → Fresh
  given fresh.None = fresh.None
  given (fresh.Thread t) = fresh.Thread (n.thread t)
  given (fresh.Threads t u) = fresh.Threads (n.thread t) (n.thread u)
  given (fresh.Mutex m) = fresh.Mutex (n.mutex m)

  abbrev pub turn : Turn → Turn
  turn t = (n.thread t.0, given t.1)

  module _ {P : Type 0} (r : P → P) where
    -- with what r makes of the threads' places
    abbrev pub life : Life P → Life P
    life (alive p) = alive (r p)
    life over = over
    life (owing p) = owing (r p)
    life (loose p) = loose (r p)
    life (ended v) = ended (kept v)

    abbrev pub thread : Thread P → Thread P
    thread x = record { number = n.thread x.number; life = life x.life; slots = all_kept x.slots }

    abbrev pub whole : Whole P → Whole P
    whole s = record { threads = map thread s.threads; heap = heap s.heap; mutexes = map mutex s.mutexes; pairs = map pair s.pairs; output = s.output }

    abbrev pub stepped : Stepped P → Stepped P
    stepped x = record { state = whole x.state; labels = labels x.labels }

  -- a place in a code, with its temporary values
  abbrev pub place : Place → Place
  place p = record { pc = p.pc; temps = all_kept p.temps }

-- under other names each run leads to the state with those names, with its labels, and that ends alike
pub record RunsRenamed (n : Renaming) (code : List Instr) : Type 0 where
  pub runs : (s : CodeWhole) (order : List Turn) → code_run code (whole n (place n) s) (map (turn n) order) ≡ option_map (stepped n (place n)) (code_run code s order)
  pub endings : (s : CodeWhole) → ending_of (code_moves code) (whole n (place n) s) ≡ ending_of (code_moves code) s

abbrev pub NamesDontMatter : Type 0
NamesDontMatter = (n : Renaming) → IsOneToOne n → (code : List Instr) → RunsRenamed n code
