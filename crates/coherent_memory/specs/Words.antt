-- THE WORDS OF OBJECTS: which word each object has, told by no order of things (in the manner of DRust; that stale pointers don't count is this
-- project's rule).
use Rattle.std.specs.Prelude.{◌≡◌, ◌⊎◌, ℕ, ◌+◌, List, ◌++◌, Option, Some, None}
use Rattle.server_model.specs.Below.fr_base.declared.name.ObjNo.{ObjNo}
use Rattle.server_model.specs.Below.global_addr.Words.{server_of, address_of}
use Rattle.server_model.specs.Below.heap_partition.declared.value.Cell.{Cell}
use Rattle.server_model.specs.Servers.{Cluster}
use Rattle.coherent_memory.specs.Names.{Among}
use Rattle.coherent_memory.specs.Things.{Location, lies}
use Rattle.coherent_memory.specs.Stale.{references, lent_places, Stale}
use Rattle.coherent_memory.specs.Sight.{Sight, Pointer, pointers_in, taken_pointers, sight, word}
use Rattle.coherent_memory.specs.Placing.{same_word_wrong, homeward_wrong}

-- the pointers to objects, stale ones too
abbrev pub all_pointers : Sight → List Pointer
all_pointers s = pointers_in s.things ++ taken_pointers s.code s.ground s.ground.threads

-- a pointer is stale where its location is
abbrev pub IsStale : Sight → Option Location → Type 0
IsStale s None = ⊥
IsStale s (Some l) = Stale (lent_places s.code s.ground s.ground.threads) (references s.ground s.things) l

-- a pointer to the object that isn't stale
pub record Fresh (s : Sight) (o : ObjNo) : Type 0 where
  pub pointer : Pointer
  pub among : Among pointer (all_pointers s)
  pub object : pointer.object ≡ o
  pub fresh : IsStale s pointer.at → ⊥

-- the word leads to that address of the server
pub record LeadsTo (r a w : ℕ) : Type 0 where
  pub server : server_of w ≡ r
  pub address : address_of w ≡ a

pub record HasWords (s : Sight) : Type 0 where
  -- the word of each object
  pub word : ObjNo → ℕ
  -- each pointer to an object has its word, or is stale
  pub same : (p : Pointer) → Among p (all_pointers s) → IsStale s p.at ⊎ (p.word ≡ word p.object)
  -- where an object lies, it has a pointer that isn't stale, and its word leads there
  pub live : (r a : ℕ) (c : Cell) → Among (lies r a c) s.things → Fresh s c.object
  pub home : (r a : ℕ) (c : Cell) → Among (lies r a c) s.things → LeadsTo r a (word c.object)

pub record WordsLaw : Type 0 where
  -- the objects have words exactly where no pointer has another word than the first one that isn't stale, and that one leads home
  pub from_counts : (k : Cluster) → same_word_wrong (sight k) ≡ 0 → homeward_wrong (sight k) ≡ 0 → HasWords (sight k)
  pub none_counted : (k : Cluster) → HasWords (sight k) → same_word_wrong (sight k) + homeward_wrong (sight k) ≡ 0
  -- the first one tells the word
  pub first_tells : (k : Cluster) (h : HasWords (sight k)) (o : ObjNo) → Fresh (sight k) o → word (sight k) o ≡ Some (h.word o)
