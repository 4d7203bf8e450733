-- WHAT STANDS IN THE ONE HEAP AGREES with the types of its names (this project's rule).
use Rattle.std.specs.Prelude.{◌≡◌, ℕ, ◌+◌, Bool, not}
use Rattle.law_heap_still.specs.Below.fr_base.declared.name.ObjNo.{ObjNo}
use Rattle.law_heap_still.specs.Below.fr_typing.Kinds.{Owned as OwnedType}
use Rattle.law_types_still.specs.Below.fr_sound.States.{Typing}
use Rattle.law_heap_still.specs.Below.fr_code.CodeTypes.{Table}
use Rattle.law_heap_still.specs.Below.fr_code.TableStates.{CodeStateTypes}
use Rattle.law_heap_still.specs.Below.server_model.Servers.{Cluster}
use Rattle.law_heap_still.specs.Below.coherent_memory.Names.{if_so}
use Rattle.law_heap_still.specs.Below.coherent_memory.Follow.{Standing}
use Rattle.law_heap_still.specs.Below.coherent_memory.Sight.{Sight, sight}
use Rattle.law_heap_still.specs.Below.coherent_memory.Placing.{sum_over}
use Rattle.law_heap_still.specs.Below.coherent_memory.Walking.{sum_threads, instr_of}
use Rattle.law_heap_still.specs.Below.coherent_memory.OneHeap.{one_heap, gift_owner, owner_in, is_in_state, value_is_in}
use Rattle.law_heap_still.specs.Below.coherent_memory.Balances.{Agree, AtMost, AtMostOne}
use Rattle.law_heap_still.specs.Below.coherent_memory.Things.{things_of}
use Rattle.law_heap_still.specs.Below.coherent_memory.Weights.{cells, owners, is_home_of}
use Rattle.law_heap_still.specs.Below.coherent_memory.Sharing.{contents, results, has_ended}
use Rattle.law_heap_still.specs.Below.coherent_memory.Coherent.{Holds, at_their_home, parts_are_typed, IsSound}
use Rattle.law_types_still.specs.Below.coherent_types.Names.{NameTypes, names_of}
use Rattle.law_types_still.specs.Below.coherent_types.ClusterTypes.{misfit, gift_misfit, misfits}
use Rattle.law_types_still.specs.heap.Counted.{HasNumbers, AreTheseTypes, CountsFollow, sorts_wrong}

-- a gift is in the one heap where whose content or result it still is, is
abbrev pub gift_is_in : Sight → Standing → Bool
gift_is_in s x = owner_in (is_in_state s) (gift_owner s x (instr_of s x))

-- the cells, contents, results and gifts that are in the one heap and don't agree with the types of their names
abbrev pub inside_misfits : NameTypes → Sight → ℕ
inside_misfits n s = sum_over s (λ x. if_so (value_is_in s x) (misfit n x)) + sum_threads s (λ x. if_so (gift_is_in s x) (gift_misfit n s x))

-- there are none, for types of objects by which what is counted of types follows
pub record HeapFits (table : Table) (y : Typing) (k : Cluster) : Type 0 where
  pub counts : CountsFollow table y k
  pub agree : inside_misfits (names_of counts.types y.gives) (sight k) ≡ 0

-- what these laws need of a sound cluster, none of which needs types: threads are found by their numbers, each object has one home and one owner, and mutexes and results
-- stand once, at their home or on their way
pub record StandsOnce (k : Cluster) : Type 0 where
  pub numbers : HasNumbers k
  pub home_of_each : AtMostOne cells (things_of k)
  pub owner_of_each : Agree owners cells (things_of k)
  pub at_their_home : Holds k at_their_home
  pub one_content : Agree (contents (sight k)) is_home_of (things_of k)
  pub one_result : AtMost (results (sight k)) has_ended (things_of k)
  pub parts_are_typed : Holds k parts_are_typed

-- each sound cluster is such
abbrev pub SoundStandOnce : Type 0
SoundStandOnce = (k : Cluster) → IsSound k → StandsOnce k

-- so it is in each cluster whose one heap is typed, where each thing stands once, between events or not
abbrev pub TypedHeapsFit : Type 0
TypedHeapsFit = (k : Cluster) → StandsOnce k → (table : Table) (y : Typing) → CodeStateTypes table y (one_heap k) → sorts_wrong table (sight k) ≡ 0 → HeapFits table y k

-- those that are outside it: what a `drop` or a `release` under way owns, and what that owns
abbrev pub outside_misfits : NameTypes → Sight → ℕ
outside_misfits n s = sum_over s (λ x. if_so (not (value_is_in s x)) (misfit n x)) + sum_threads s (λ x. if_so (not (gift_is_in s x)) (gift_misfit n s x))

-- all that stands anywhere agrees, for types of objects that are these in the one heap
pub record WholeAgrees (y : Typing) (k : Cluster) (types : ObjNo → OwnedType) : Type 0 where
  pub object : ObjNo → OwnedType
  pub these : AreTheseTypes k object types
  pub agree : misfits (names_of object y.gives) (sight k) ≡ 0

-- so it is where what is outside agrees, for whatever types of objects: who is inside owns nothing outside, and the other way
abbrev pub MisfitsFollow : Type 0
MisfitsFollow = (k : Cluster) → StandsOnce k → (table : Table) (y : Typing) (heap : HeapFits table y k) (old : ObjNo → OwnedType) → outside_misfits (names_of old y.gives) (sight k) ≡ 0 → WholeAgrees y k heap.counts.types
