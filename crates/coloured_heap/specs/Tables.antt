-- What tables of names hold of a state: what the rules ask of it, name by name. The values of objects and copies aren't asked for.
use Rattle.std.specs.Prelude.{◌≡◌, ℕ, Bool, true, false, ◌&&◌, ◌==◌, ⊤, nat_eq, List, Option, Some, None, option_map}
use Rattle.std.specs.Map.{count_at}
use Rattle.indexmap.specs.IndexMap.{IndexMap, get}
use Rattle.indexmap.specs.IndexSet.{IndexSet, contains}
use Rattle.fr_base.specs.declared.name.ObjNo.{ObjNo}
use Rattle.fr_base.specs.declared.name.MutexNo.{MutexNo}
use Rattle.journal.specs.declared.act.Act.{Act}
use Rattle.journal.specs.declared.act.Act.TheVariants as act
use Rattle.coloured_heap.specs.Lists.{first, has, times}
use Rattle.coloured_heap.specs.Heap as heap
use Rattle.coloured_heap.specs.Heap.{Living, Copied, Running, Guarded, Coloured, is_object, is_under, is_copy, same_wish, is_thread, is_mutex}
use Rattle.coloured_heap.specs.declared.keys.ObjectKey.{ObjectKey}
use Rattle.coloured_heap.specs.declared.keys.MutexKey.{MutexKey}
use Rattle.coloured_heap.specs.declared.keys.Wish.{Wish}
use Rattle.coloured_heap.specs.declared.keys.Wish.TheVariants as wish
use Rattle.coloured_heap.specs.declared.changes.ObjectChange.{ObjectChange}
use Rattle.coloured_heap.specs.declared.changes.ObjectChange.TheVariants as object_change
use Rattle.coloured_heap.specs.declared.changes.ThreadChange.{ThreadChange}
use Rattle.coloured_heap.specs.declared.changes.ThreadChange.TheVariants as thread_change
use Rattle.coloured_heap.specs.declared.tables.Object.{Object}
use Rattle.coloured_heap.specs.declared.tables.Place.{Place}
use Rattle.coloured_heap.specs.declared.tables.Place.TheVariants as place
use Rattle.coloured_heap.specs.declared.tables.Stand.{Stand}
use Rattle.coloured_heap.specs.declared.tables.Tables.{Tables}

-- KEYS

abbrev pub object_key : ObjNo → ObjectKey
object_key p = record { thread = p.thread; count = p.count }

abbrev pub mutex_key : MutexNo → MutexKey
mutex_key m = record { home = m.home; count = m.count }

abbrev pub same_object_key : ObjectKey → ObjectKey → Bool
same_object_key a b = (a.thread == b.thread) && (a.count == b.count)

abbrev pub same_mutex_key : MutexKey → MutexKey → Bool
same_mutex_key a b = (a.home == b.home) && (a.count == b.count)

abbrev object_of : ObjectKey → ObjNo
object_of k = record { thread = k.thread; count = k.count }

abbrev mutex_of : MutexKey → MutexNo
mutex_of k = record { home = k.home; count = k.count }

-- the wish that a key stands for
abbrev pub wish_of : Wish → heap.Wish
wish_of (wish.Copy p w here) = heap.ForCopy (object_of p) w here
wish_of (wish.Object p w here) = heap.ForObject (object_of p) w here
wish_of (wish.Content m t here) = heap.ForContent (mutex_of m) t here
wish_of (wish.Share m t here) = heap.ForShare (mutex_of m) t here
wish_of (wish.Result t asker here) = heap.ForResult t asker here

-- WHAT IS SEEN

abbrev pub seen_place : heap.Place → Place
seen_place (heap.Lies server) = place.Lies server
seen_place (heap.Flies server) = place.Flies server

abbrev pub seen : Living → Object
seen x = record { place = seen_place x.place; word = x.word; is_condemned = x.is_condemned }

abbrev pub stand_of : Running → Stand
stand_of r = record { server = r.server; has_ended = r.has_ended }

abbrev pub lies_here : ℕ → Place → Bool
lies_here here (place.Lies server) = server == here
lies_here here (place.Flies server) = false

abbrev pub flies_here : ℕ → Place → Bool
flies_here here (place.Lies server) = false
flies_here here (place.Flies server) = server == here

abbrev pub is_placed : Place → Bool
is_placed (place.Lies server) = true
is_placed (place.Flies server) = false

-- CHANGES

-- an object that leaves, that comes under a new word, that gets another word, or whose pointer is given up
abbrev pub changed_living : ObjectChange → Living → Living
changed_living (object_change.Leaves there) x = record x { place = heap.Flies there }
changed_living (object_change.Comes here w) x = record x { place = heap.Lies here; word = w }
changed_living (object_change.Recoloured w) x = record x { word = w }
changed_living object_change.GivenUp x = record x { is_condemned = true }

-- a thread that has finished, or that goes to a server
abbrev pub changed_running : ThreadChange → Running → Running
changed_running thread_change.Finished r = record r { has_ended = true }
changed_running (thread_change.Goes there) r = record r { server = there }

-- acts that add a name to the tables
abbrev pub takes_memory : Act → Bool
takes_memory (act.Make p w) = true
takes_memory (act.Ask p w) = true
takes_memory (act.Serve p w there) = true
takes_memory (act.Fill p w) = true
takes_memory (act.Pull p w) = true
takes_memory (act.AskLock m) = true
takes_memory (act.AskDup m) = true
takes_memory (act.Start t there) = true
takes_memory (act.AskJoin t) = true
takes_memory _ = false

-- TABLES

abbrev pub ShowsObjects : {S : Type 0} → IndexMap ObjectKey Object S → List Living → Type 0
ShowsObjects m xs = (p : ObjNo) → get same_object_key m (object_key p) ≡ option_map seen (first (is_object p) xs)

abbrev pub ShowsCached : {S : Type 0} → IndexSet (ℕ × ℕ) S → List Copied → Type 0
ShowsCached m cs = (here w : ℕ) → contains (λ a b. (a.0 == b.0) && (a.1 == b.1)) m (here, w) ≡ has (is_under here w) cs

abbrev pub ShowsServed : {S : Type 0} → IndexMap (ObjectKey × ℕ × ℕ) ℕ S → List Copied → Type 0
ShowsServed m cs = (p : ObjNo) (w here : ℕ) → count_at (get (λ a b. same_object_key a.0 b.0 && (a.1 == b.1) && (a.2 == b.2)) m) (object_key p, w, here) ≡ times (is_copy p w here) cs

abbrev pub ShowsIssued : {S : Type 0} → IndexSet ℕ S → List ℕ → Type 0
ShowsIssued m ws = (w : ℕ) → contains nat_eq m w ≡ has (λ v. v == w) ws

abbrev pub ShowsThreads : {S : Type 0} → IndexMap ℕ Stand S → List Running → Type 0
ShowsThreads m rs = (t : ℕ) → get nat_eq m t ≡ option_map stand_of (first (is_thread t) rs)

abbrev pub ShowsWishes : {S : Type 0} → (Wish → Wish → Bool) → IndexMap Wish ℕ S → List heap.Wish → Type 0
ShowsWishes eq m ws = (a : Wish) → count_at (get eq m) a ≡ times (same_wish (wish_of a)) ws

abbrev pub ShowsMutexes : {S : Type 0} → IndexMap MutexKey (Option ℕ) S → List Guarded → Type 0
ShowsMutexes m gs = (n : MutexNo) → get same_mutex_key m (mutex_key n) ≡ option_map (λ g. g.holder) (first (is_mutex n) gs)

-- the tables show of a state what the rules ask of it
pub record Shows (eq : Wish → Wish → Bool) (t : Tables) (s : Coloured) : Type 0 where
  pub objects : ShowsObjects t.objects s.living
  pub cached : ShowsCached t.cached s.cached
  pub served : ShowsServed t.served.counts s.served
  pub issued : ShowsIssued t.issued s.issued
  pub threads : ShowsThreads t.threads s.threads
  pub wishes : ShowsWishes eq t.wishes.counts s.wishes
  pub mutexes : ShowsMutexes t.mutexes s.mutexes

-- whether there is a state next, which the tables then show
abbrev pub Leads : (Wish → Wish → Bool) → Tables → Bool → Option Coloured → Type 0
Leads eq t true (Some s) = Shows eq t s
Leads eq t false None = ⊤
Leads eq t _ _ = ⊥
