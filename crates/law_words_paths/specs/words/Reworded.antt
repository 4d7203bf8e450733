-- ONE OBJECT GETS ANOTHER WORD (this project's rule): two clusters of which the second shows what the first does, but for the word of the pointer at one
-- location, and for where the object of that pointer lies.
use Rattle.std.specs.Prelude.{Bool, false, not, is_some, ◌≡◌, ℕ, true, map, Option, Some, None}
use Rattle.law_words_paths.specs.Below.fr_base.declared.name.ObjNo.{ObjNo}
use Rattle.law_words_paths.specs.Below.heap_partition.declared.value.Cell.{Cell}
use Rattle.law_words_paths.specs.Below.mut_borrow.declared.mutable.MutRef.{MutRef}
use Rattle.law_words_paths.specs.Below.mut_borrow.Refs.{changed}
use Rattle.law_words_paths.specs.Below.thread_state.declared.phase.Phase.{Phase}
use Rattle.law_words_paths.specs.Below.thread_state.declared.phase.Phase.TheVariants as phase
use Rattle.law_words_paths.specs.Below.thread_state.declared.value.Value.{Value}
use Rattle.law_words_paths.specs.Below.thread_state.declared.value.Value.TheVariants as value
use Rattle.law_words_paths.specs.Below.server_model.Servers.{Cluster}
use Rattle.law_words_paths.specs.Below.heap_partition.declared.value.BoxPtr.{BoxPtr}
use Rattle.law_words_paths.specs.Below.heap_partition.declared.value.Owned.TheVariants as owned
use Rattle.law_words_paths.specs.Below.coherent_memory.Names.{Among}
use Rattle.law_words_paths.specs.Below.coherent_memory.Things.{Location, Thing, holds, shares, lies, flies, sent, things_of}
use Rattle.law_words_paths.specs.Below.server_msgs.declared.message.Message.{Message}
use Rattle.law_words_paths.specs.Below.server_msgs.declared.message.Message.TheVariants.{Drop}
use Rattle.law_words_paths.specs.Below.coherent_memory.Follow.{Standing, value_in}
use Rattle.law_words_paths.specs.Below.coherent_memory.Sight.{location_of, sight}
use Rattle.law_words_paths.specs.Below.coherent_memory.Words.{LeadsTo}
use Rattle.law_words_paths.specs.Below.coherent_memory.Balances.{Agree, AtMostOne}
use Rattle.law_words_paths.specs.Below.coherent_memory.Weights.{cells, owners, is_thread}

-- the word that a thread has taken for its mutable borrow
abbrev pub taken_word : Phase → Option ℕ
taken_word (phase.Taken w) = Some w
taken_word p = None

-- what tells of a thread from which pointer it has taken an object
pub record Turn : Type 0 where
  pub number : ℕ
  pub pc : ℕ
  pub taken : Option ℕ

abbrev pub turn_of : Standing → Turn
turn_of x = record { number = x.thread.number; pc = x.thread.pc; taken = taken_word x.thread.phase }

abbrev is_drop : Message → Bool
is_drop (Drop w o) = true
is_drop m = false

-- what points to an object, or is one, and stands at no location
abbrev pub is_loose : Thing → Bool
is_loose (holds p v) = not (is_some (location_of p))
is_loose (shares l r) = true
is_loose (flies w c) = true
is_loose (sent s m) = is_drop m
is_loose x = false

-- threads are told by their numbers, and each object has one cell and one owner
pub record HasPlaces (k : Cluster) : Type 0 where
  pub numbers_differ : AtMostOne is_thread (things_of k)
  pub home_of_each : AtMostOne cells (things_of k)
  pub owner_of_each : Agree owners cells (things_of k)

-- a box gets a word; a mutable reference gets a word, and its mark may change
pub data Renewed (w : ℕ) (old new : Value) : Type 0 where
  a_box : (p : BoxPtr) → old ≡ value.Own (owned.Box p) → new ≡ value.Own (owned.Box (record p { word = w })) → Renewed w old new
  a_reference : (r q : MutRef) → old ≡ value.Mut r → new ≡ value.Mut q → q.word ≡ w → q.first ≡ r.first → q.object ≡ r.object → q.holder ≡ r.holder → Renewed w old new

-- the object lies there
pub record LiesThere (k : Cluster) (r a : ℕ) (o : ObjNo) : Type 0 where
  pub cell : Cell
  pub among : Among (lies r a cell) (things_of k)
  pub object : cell.object ≡ o

pub record Reworded (k z : Cluster) (h : Location) (o : ObjNo) (w : ℕ) : Type 0 where
  pub code : z.code ≡ k.code
  -- the box or the mutable reference at h gets the word, and a reference is changed then
  pub old : Value
  pub new : Value
  pub stood : value_in (sight k).ground h ≡ Some old
  pub renewed : Renewed w old new
  pub stands : value_in (sight z).ground h ≡ Some new
  pub changed : (r : MutRef) → new ≡ value.Mut r → changed r ≡ true
  -- elsewhere stands what stood there
  pub elsewhere : (l : Location) → (l ≡ h → ⊥) → value_in (sight z).ground l ≡ value_in (sight k).ground l
  -- each thread is where it was, and has taken what it had taken
  pub turns : map turn_of (sight z).ground.threads ≡ map turn_of (sight k).ground.threads
  -- what points outside of locations is the same, but for the object itself where it was under way
  pub loose : (y : Thing) → Among y (things_of z) → is_loose y ≡ true → Among y (things_of k)
  pub remain : (y : Thing) → Among y (things_of k) → is_loose y ≡ true → cells o y ≡ 0 → Among y (things_of z)
  -- the object lies at an address, to which the word leads, and each other object lies where it lay
  pub server : ℕ
  pub address : ℕ
  pub lying : LiesThere z server address o
  pub leads : (r a : ℕ) (c : Cell) → Among (lies r a c) (things_of z) → c.object ≡ o → LeadsTo r a w
  pub lay : (r a : ℕ) (c : Cell) → Among (lies r a c) (things_of z) → (c.object ≡ o → ⊥) → LiesThere k r a c.object
