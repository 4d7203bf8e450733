-- DIRTY REFERENCES: a mutable reference through which its object was changed, while it isn't stale (this project's rules).
use Rattle.std.specs.Prelude.{◌≡◌, ◌≢◌, ◌⊎◌, true, Some}
use Rattle.server_model.specs.Below.mut_borrow.declared.shared.SharedRef.{SharedRef}
use Rattle.server_model.specs.Servers.{Cluster}
use Rattle.coherent_memory.specs.Names.{Among}
use Rattle.coherent_memory.specs.Things.{Location, shares}
use Rattle.coherent_memory.specs.Stale.{Reference, references, is_held_at}
use Rattle.coherent_memory.specs.Sight.{Sight, Pointer, sight}
use Rattle.coherent_memory.specs.Placing.{standing_pointers, dirty_wrong, first_again_wrong}
use Rattle.coherent_memory.specs.Words.{all_pointers, IsStale}

-- no mutable reference was made from it, and each other pointer to its object is stale: a box or a reference, the word of a `drop`, that of an object
-- taken for a mutable borrow. (The old word of an object under way is the reference's own)
pub record IsAlone (s : Sight) (r : Reference) : Type 0 where
  pub unlent : (q : Reference) → Among q (references s.ground s.things) → is_held_at r.at q.holder ≡ true → ⊥
  pub sole : (p : Pointer) → Among p (standing_pointers s) → p.object ≡ r.reference.object → IsStale s p.at ⊎ (is_held_at r.at p.at ≡ true)

-- each dirty reference that isn't stale is alone
abbrev pub DirtyAlone : Sight → Type 0
DirtyAlone s = (r : Reference) → Among r (references s.ground s.things) → r.reference.dirty ≡ true → (IsStale s (Some r.at) → ⊥) → IsAlone s r

-- the first words of references are no words of today where they were left: where a reference has another word than its first one, no pointer to its
-- object has the first one, but for stale ones
abbrev pub PastWords : Sight → Type 0
PastWords s =
    (r : Reference) → Among r (references s.ground s.things) → r.reference.word ≢ r.reference.first → (p : Pointer) → Among p (all_pointers s) → (IsStale s p.at → ⊥) → p.object ≡ r.reference.object → p.word ≢ r.reference.first

pub record PastLaw : Type 0 where
  pub from_count : (k : Cluster) → first_again_wrong (sight k) ≡ 0 → PastWords (sight k)
  pub none_counted : (k : Cluster) → PastWords (sight k) → first_again_wrong (sight k) ≡ 0

pub record DirtyLaw : Type 0 where
  pub from_count : (k : Cluster) → dirty_wrong (sight k) ≡ 0 → DirtyAlone (sight k)
  pub none_counted : (k : Cluster) → DirtyAlone (sight k) → dirty_wrong (sight k) ≡ 0
  -- no shared reference or view leads to its object
  pub unshared : (s : Sight) (r : Reference) → IsAlone s r → (l : Location) (q : SharedRef) → Among (shares l q) s.things → q.object ≡ r.reference.object → ⊥
  -- the pointer that a dirty reference was made from is stale, and so is each one above it
  pub stale_above : (k : Cluster) (r : Reference) (l : Location) → Among r (references (sight k).ground (sight k).things) → r.reference.dirty ≡ true → is_held_at l r.holder ≡ true → IsStale (sight k) (Some l)
