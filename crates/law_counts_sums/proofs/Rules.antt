-- The rules of events: what one small step trades. Each sum is kept by each rule, whatever event it is part of.
use Rattle.std.proofs.Common.{◌≡◌, ℕ, ◌+◌, Bool, true, false, List, [], ◌∷◌, ◌++◌, arith}
use Rattle.coherent_memory.specs.Below.fr_base.declared.name.MutexNo.{MutexNo}
use Rattle.coherent_memory.specs.Below.fr_base.declared.release.Released.TheVariants as released
use Rattle.coherent_memory.specs.Below.global_addr.Words.{server_of}
use Rattle.coherent_memory.specs.Below.heap_partition.declared.value.BoxPtr.{BoxPtr}
use Rattle.coherent_memory.specs.Below.heap_partition.declared.value.Cell.{Cell}
use Rattle.coherent_memory.specs.Below.heap_partition.declared.value.Owned.{Owned}
use Rattle.coherent_memory.specs.Below.heap_partition.declared.value.Owned.TheVariants as owned
use Rattle.coherent_memory.specs.Below.read_cache.Cache.{Copy}
use Rattle.coherent_memory.specs.Below.mutex_home.Mutexes.{Mutex}
use Rattle.coherent_memory.specs.Below.join_home.Tasks.{Task}
use Rattle.coherent_memory.specs.Below.thread_state.View.{ThreadState}
use Rattle.coherent_memory.specs.Below.thread_state.declared.value.Value.{Value}
use Rattle.coherent_memory.specs.Below.server_msgs.declared.message.Message.{Message}
use Rattle.coherent_memory.specs.Below.server_msgs.declared.message.Message.TheVariants as message
use Rattle.coherent_memory.specs.Below.server_model.Drop.{home_of}
use Rattle.coherent_memory.specs.Below.server_model.Places.{owns_nothing}
use Rattle.coherent_memory.specs.Balances.{AtMost, AtMostOne}
use Rattle.coherent_memory.specs.Weights.{states, below}
use Rattle.coherent_memory.specs.Things.{Thing, Location, Spot, in_hand, holds, shares, borrows, locks, lies, flies, vacant, retired, copied, uses, sent, stands, at_home, queued, noted, counts, value_things}
use Rattle.law_counts_sums.specs.Sums.{is_server}
use Rattle.law_counts_sums.proofs.Trades.{Trade, Same, tot-append}

-- what comes and goes as it likes: references, and what owns nothing in the hand of an event
abbrev pub is_loose : Thing → Bool
is_loose (holds in_hand v) = owns_nothing v
is_loose (shares l r) = true
is_loose (borrows l r) = true
is_loose x = false

-- a message that owns nothing itself, whatever it carries
abbrev pub is_plain : Message → Bool
is_plain (message.Drop w o) = false
is_plain (message.Dupped m t) = false
is_plain (message.Release r) = false
is_plain m = true

-- the message of an owned value that is dropped
abbrev pub dropped : Owned → List Thing
dropped (owned.Box p) = sent (server_of p.word) (message.Drop p.word p.object) ∷ []
dropped (owned.Mutex m) = sent m.home (message.Release (released.Mutex m)) ∷ []
dropped (owned.Task t) = sent (home_of t) (message.Release (released.Task t)) ∷ []
dropped v = []

pub data Rule : List Thing → List Thing → Type 0 where
  -- nothing; two rules side by side; one after the other; the same things in another order
  none : Rule [] []
  both : (a b c d : List Thing) → Rule a b → Rule c d → Rule (a ++ c) (b ++ d)
  next : (a b c : List Thing) → Rule a b → Rule b c → Rule a c
  turned : (a b : List Thing) → Same a b → Rule a b
  -- VALUES
  -- references, and what owns nothing
  comes : (x : Thing) → is_loose x ≡ true → Rule [] (x ∷ [])
  goes : (x : Thing) → is_loose x ≡ true → Rule (x ∷ []) []
  -- a value stands elsewhere; an owned one, in whatever place
  carries : (s : ℕ) (p q : Spot) (l m : Location) (v : Value) → Rule (value_things s p l v) (value_things s q m v)
  hands_on : (p q : Spot) (v : Owned) → Rule (holds p v ∷ []) (holds q v ∷ [])
  -- a box has another word, in a place or in a cell
  recolours : (p : Spot) (b : BoxPtr) (w : ℕ) → Rule (holds p (owned.Box b) ∷ []) (holds p (owned.Box (record b { word = w })) ∷ [])
  -- a cell has another value, and its old one is taken out
  exchanges : (s a : ℕ) (c : Cell) (p : Spot) (v : Owned) → Rule (lies s a c ∷ holds p v ∷ []) (lies s a (record c { value = v }) ∷ holds p c.value ∷ [])
  -- a value is dropped; the mark of a lock goes
  drops : (p : Spot) (v : Owned) → Rule (holds p v ∷ []) (dropped v)
  unmarks : (l : Location) (m : MutexNo) → Rule (locks l m ∷ []) []
  -- OBJECTS
  -- one leaves its address, which is free or retired then
  lifts : (s a next word : ℕ) (c : Cell) → Rule (lies s a c ∷ []) (vacant s a next ∷ flies word c ∷ [])
  lifts_last : (s a word : ℕ) (c : Cell) → Rule (lies s a c ∷ []) (retired s a ∷ flies word c ∷ [])
  -- one comes to an address that is free, or to the next one
  lands : (s a next word : ℕ) (c : Cell) → Rule (vacant s a next ∷ flies word c ∷ []) (lies s a c ∷ [])
  grows : (s next retired started made events word : ℕ) (c : Cell)
      → Rule (counts s next retired started made events ∷ flies word c ∷ []) (counts s (next + 1) retired started made events ∷ lies s next c ∷ [])
  -- one is gone with its `drop`, and what it held is in a place
  buries : (t w u : ℕ) (c : Cell) (p : Spot) → Rule (sent t (message.Drop w c.object) ∷ flies u c ∷ []) (holds p c.value ∷ [])
  -- COPIES
  fills : (s w : ℕ) (c : Cell) → Rule [] (copied s (record { word = w; cell = c; users = 0 }) ∷ [])
  evicts : (s : ℕ) (c : Copy) → c.users ≡ 0 → Rule (copied s c ∷ []) []
  begins_use : (s w : ℕ) (c : Copy) (n : ℕ) → c.word ≡ w → n ≡ c.users + 1 → Rule (copied s c ∷ []) (copied s (record c { users = n }) ∷ uses s w ∷ [])
  ends_use : (s w : ℕ) (c : Copy) (n : ℕ) → c.word ≡ w → c.users ≡ n + 1 → Rule (copied s c ∷ uses s w ∷ []) (copied s (record c { users = n }) ∷ [])
  -- MESSAGES, THREADS, MUTEXES, COUNTS
  sends : (t : ℕ) (m : Message) → is_plain m ≡ true → Rule [] (sent t m ∷ [])
  receives : (t : ℕ) (m : Message) → is_plain m ≡ true → Rule (sent t m ∷ []) []
  changes : (s : ℕ) (packed : Bool) (t t2 : ThreadState) → t2.number ≡ t.number → Rule (stands s packed t ∷ []) (stands s packed t2 ∷ [])
  turns_mutex : (s : ℕ) (m m2 : Mutex) → m2.number ≡ m.number → m2.shares ≡ m.shares → Rule (at_home s m ∷ []) (at_home s m2 ∷ [])
  queues : (m : MutexNo) (s t : ℕ) → Rule [] (queued m s t ∷ [])
  dequeues : (m : MutexNo) (s t : ℕ) → Rule (queued m s t ∷ []) []
  counts_on : (s next retired started made events retired2 started2 made2 events2 : ℕ)
      → Rule (counts s next retired started made events ∷ []) (counts s next retired2 started2 made2 events2 ∷ [])
  -- MUTEXES AND TASKS
  -- a lock's mark; a mutex with its first share
  marks : (l : Location) (m : MutexNo) → Rule [] (locks l m ∷ [])
  makes_mutex : (s : ℕ) (p : Spot) (m : Mutex) → m.shares ≡ 1 → Rule [] (at_home s m ∷ holds p (owned.Mutex m.number) ∷ [])
  -- a share more, which is sent; it is taken; a share less; a mutex without a share goes
  dups : (s r t : ℕ) (m m2 : Mutex) → m2.number ≡ m.number → m2.shares ≡ m.shares + 1 → Rule (at_home s m ∷ []) (at_home s m2 ∷ sent r (message.Dupped m.number t) ∷ [])
  takes_share : (r t : ℕ) (m : MutexNo) (p : Spot) → Rule (sent r (message.Dupped m t) ∷ []) (holds p (owned.Mutex m) ∷ [])
  less_share : (s r : ℕ) (m m2 : Mutex) → m2.number ≡ m.number → m.shares ≡ m2.shares + 1 → Rule (sent r (message.Release (released.Mutex m.number)) ∷ at_home s m ∷ []) (at_home s m2 ∷ [])
  closes : (s : ℕ) (m : Mutex) → m.shares ≡ 0 → Rule (at_home s m ∷ []) []
  -- a note comes and goes; a parcel is unpacked and packed
  notes : (s : ℕ) (t : Task) → Rule [] (noted s t ∷ [])
  unnotes : (s : ℕ) (t : Task) → Rule (noted s t ∷ []) []
  packs : (s r : ℕ) (p q : Bool) (t t2 : ThreadState) → t2.number ≡ t.number → Rule (stands s p t ∷ []) (stands r q t2 ∷ [])

-- each address has at most one state, and each number at most one server
pub record Placed (b : List Thing) : Type 0 where
  pub one_state : AtMost states below b
  pub servers_differ : AtMostOne is_server b

-- what each rule keeps, and with it the states of addresses
pub record Kept (K : List Thing → Type 0) : Type 0 where
  pub same : (a b : List Thing) → Same a b → K a → K b
  pub trades : {a olds news b : List Thing} → Trade a olds news b → Rule olds news → K a → K b
  pub placed : (b : List Thing) → K b → Placed b

-- what is kept where a task value goes: its join is done, or its `release` comes
pub record Spends (K : List Thing → Type 0) : Type 0 where
  pub joined : {a b : List Thing} (p : Spot) (t : ℕ) → Trade a (holds p (owned.Task t) ∷ []) [] b → K a → K b
  pub let_go : {a b : List Thing} (r t : ℕ) → Trade a (sent r (message.Release (released.Task t)) ∷ []) [] b → K a → K b

-- RULES TOGETHER

pub beside : {a b c d : List Thing} → Rule a b → Rule c d → Rule (a ++ c) (b ++ d)
beside {a = a} {b = b} {c = c} {d = d} r q = both a b c d r q

pub in_turn : {a b c : List Thing} → Rule a b → Rule b c → Rule a c
in_turn {a = a} {b = b} {c = c} r q = next a b c r q

-- with nothing more on the left, or on the right
pub padded : {a b : List Thing} → Rule a b → Rule (a ++ []) b
padded {a = a} {b = b} r = next (a ++ []) a b (turned (a ++ []) a (λ f. omega (arith, tot-append f a []))) r

pub padded_news : {a b : List Thing} → Rule a b → Rule a (b ++ [])
padded_news {a = a} {b = b} r = next a b (b ++ []) r (turned b (b ++ []) (λ f. omega (arith, tot-append f b [])))
