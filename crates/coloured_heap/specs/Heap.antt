-- The coloured heap: the shared memory as the acts of a journal leave it (in the manner of DRust, OSDI 2024: objects that lie at
-- one server each, named by coloured words, and copies elsewhere; the state is this project's).
use Rattle.std.specs.Prelude.{ℕ, Bool, true, false, ◌&&◌, ◌==◌, List, [], ◌∷◌, Option, Some, None}
use Rattle.fr_base.specs.Names.{same_object, same_mutex}
use Rattle.fr_base.specs.declared.name.ObjNo.{ObjNo}
use Rattle.fr_base.specs.declared.name.MutexNo.{MutexNo}
use Rattle.fr_base.specs.declared.label.Plain.{Plain}
use Rattle.fr_base.specs.declared.label.Plain.TheVariants as plain
use Rattle.coloured_heap.specs.Lists.{first, has}

-- where a live object is: it lies at a server, or it is on its way to one
pub data Place : Type 0 where
  Lies : (server : ℕ) → Place
  Flies : (server : ℕ) → Place

-- a live object
pub record Living : Type 0 where
  pub object : ObjNo
  pub place : Place
  -- the word that names it; on its way it keeps the word that it had
  pub word : ℕ
  pub value : Plain
  -- whether its pointer was given up for good
  pub is_condemned : Bool

-- a copy at a server, or on its way there: under which word, of which object, and the value that was copied
pub record Copied : Type 0 where
  pub server : ℕ
  pub word : ℕ
  pub object : ObjNo
  pub value : Plain

-- what was asked for and isn't answered yet: a copy of an object or the object itself, by a server; a mutex's content or a share
-- of it, by a thread at a server; the result of a thread, by another thread at a server
pub data Wish : Type 0 where
  ForCopy : (object : ObjNo) (word server : ℕ) → Wish
  ForObject : (object : ObjNo) (word server : ℕ) → Wish
  ForContent : (mutex : MutexNo) (thread server : ℕ) → Wish
  ForShare : (mutex : MutexNo) (thread server : ℕ) → Wish
  ForResult : (thread asker server : ℕ) → Wish

-- a thread that was started, the server that it stands at, and whether it has finished
pub record Running : Type 0 where
  pub thread : ℕ
  pub server : ℕ
  pub has_ended : Bool

-- a mutex, and the thread that its content was granted to; none where the content is in
pub record Guarded : Type 0 where
  pub mutex : MutexNo
  pub holder : Option ℕ

pub record Coloured : Type 0 where
  -- the live objects, each once
  pub living : List Living
  -- the copies in the servers' caches; a server has a word once
  pub cached : List Copied
  -- the copies that were served and haven't come yet, in the order in which they were served
  pub served : List Copied
  -- the words that were ever issued, the newest first
  pub issued : List ℕ
  -- the threads that were started, each once
  pub threads : List Running
  -- as often as it was asked for
  pub wishes : List Wish
  -- the mutexes that were made, each once
  pub mutexes : List Guarded

-- the start: no object, no word and no mutex, and the main thread at server 0
abbrev pub start : Coloured
start = record {
  living = [];
  cached = [];
  served = [];
  issued = [];
  threads = record { thread = 0; server = 0; has_ended = false } ∷ [];
  wishes = [];
  mutexes = [];
}

-- THREADS

abbrev pub is_thread : ℕ → Running → Bool
is_thread t r = r.thread == t

abbrev pub thread_at : Coloured → ℕ → Option Running
thread_at s t = first (is_thread t) s.threads

-- OBJECTS

abbrev pub is_object : ObjNo → Living → Bool
is_object p x = same_object x.object p

abbrev pub object_at : Coloured → ObjNo → Option Living
object_at s p = first (is_object p) s.living

abbrev pub is_lying : Place → Bool
is_lying (Lies server) = true
is_lying (Flies server) = false

abbrev pub lies_at : ℕ → Place → Bool
lies_at here (Lies server) = server == here
lies_at here (Flies server) = false

abbrev pub flies_to : ℕ → Place → Bool
flies_to here (Lies server) = false
flies_to here (Flies server) = server == here

abbrev pub value_in : Option Living → Plain
value_in None = plain.Nothing
value_in (Some x) = x.value

-- the value of an object
abbrev pub value_of : Coloured → ObjNo → Plain
value_of s p = value_in (object_at s p)

-- WORDS

abbrev pub is_issued : Coloured → ℕ → Bool
is_issued s w = has (λ v. v == w) s.issued

-- COPIES

abbrev pub is_under : ℕ → ℕ → Copied → Bool
is_under here w c = (c.server == here) && (c.word == w)

-- the copy that is cached at a server under a word
abbrev pub copy_at : Coloured → ℕ → ℕ → Option Copied
copy_at s here w = first (is_under here w) s.cached

abbrev pub is_cached : Coloured → ℕ → ℕ → Bool
is_cached s here w = has (is_under here w) s.cached

-- a copy of that object under that word on its way to that server
abbrev pub is_copy : ObjNo → ℕ → ℕ → Copied → Bool
is_copy p w here c = is_under here w c && same_object c.object p

abbrev pub next_served : Coloured → ObjNo → ℕ → ℕ → Option Copied
next_served s p w here = first (is_copy p w here) s.served

-- WISHES

abbrev pub same_wish : Wish → Wish → Bool
same_wish (ForCopy p w here) (ForCopy q v there) = same_object p q && (w == v) && (here == there)
same_wish (ForObject p w here) (ForObject q v there) = same_object p q && (w == v) && (here == there)
same_wish (ForContent m t here) (ForContent n u there) = same_mutex m n && (t == u) && (here == there)
same_wish (ForShare m t here) (ForShare n u there) = same_mutex m n && (t == u) && (here == there)
same_wish (ForResult t asker here) (ForResult u other there) = (t == u) && (asker == other) && (here == there)
same_wish _ _ = false

abbrev pub is_wished : Coloured → Wish → Bool
is_wished s a = has (same_wish a) s.wishes

-- MUTEXES

abbrev pub is_mutex : MutexNo → Guarded → Bool
is_mutex m g = same_mutex g.mutex m

abbrev pub mutex_at : Coloured → MutexNo → Option Guarded
mutex_at s m = first (is_mutex m) s.mutexes
