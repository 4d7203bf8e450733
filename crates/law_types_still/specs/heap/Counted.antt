-- WHAT A TYPED ONE HEAP SAYS of its cluster, and what it doesn't (this project's rule). The one heap doesn't tell a shared reference from a mutable one,
-- nor what a value leaves that moved away from an owned value that is nothing, nor the place of a reference's holder, nor which instruction a thread that
-- is over stands at.
use Rattle.std.specs.Prelude.{◌≡◌, ℕ, ◌+◌, ◌==◌, Bool, true, false, is_some, List, [], ◌∷◌, reverse, Some}
use Rattle.law_heap_still.specs.Below.fr_base.declared.label.Plain.{Plain}
use Rattle.law_heap_still.specs.Below.fr_base.declared.name.ObjNo.{ObjNo}
use Rattle.law_heap_still.specs.Below.fr_typing.Kinds.{Owned as OwnedType, Kind, shared, mutable, view, Piece, whole, gone, boxed}
use Rattle.law_heap_still.specs.Below.fr_typing.Places.{Slot}
use Rattle.law_heap_still.specs.Below.fr_typing.Checks.{is_int}
use Rattle.law_heap_still.specs.Below.fr_store.Keys.{Key, slot_k, temp_k}
use Rattle.law_heap_still.specs.Below.fr_store.Typed.{Exact, owns, refers, KeyTypes}
use Rattle.law_heap_still.specs.Below.fr_sound.States.{Typing, owned_part}
use Rattle.law_heap_still.specs.Below.fr_code.CodeTypes.{Entry, Table}
use Rattle.law_heap_still.specs.Below.fr_code.CodeTable.{IsTable}
use Rattle.law_heap_still.specs.Below.fr_code.TableStates.{CodeStateTypes}
use Rattle.law_heap_still.specs.Below.thread_state.View.{ThreadState, is_over}
use Rattle.law_heap_still.specs.Below.thread_state.declared.value.Value.{Value}
use Rattle.law_heap_still.specs.Below.thread_state.declared.value.Value.TheVariants as value
use Rattle.law_heap_still.specs.Below.server_model.Servers.{Cluster}
use Rattle.law_heap_still.specs.Below.coherent_memory.Names.{tot, other, if_so}
use Rattle.law_heap_still.specs.Below.coherent_memory.Things.{things_of}
use Rattle.law_heap_still.specs.Below.coherent_memory.Balances.{AtMostOne}
use Rattle.law_heap_still.specs.Below.coherent_memory.Weights.{is_thread}
use Rattle.law_heap_still.specs.Below.coherent_memory.Coherent.{Holds, names_counted, counts_from_one, over_are_bare}
use Rattle.law_heap_still.specs.Below.coherent_memory.Sight.{Sight, sight}
use Rattle.law_heap_still.specs.Below.coherent_memory.Walking.{sum_threads}
use Rattle.law_heap_still.specs.Below.coherent_memory.OneHeap.{one_heap}
use Rattle.law_heap_still.specs.Below.coherent_types.Names.{NameTypes, names_of}
use Rattle.law_heap_still.specs.Below.coherent_types.ClusterTypes.{entry_wrong, at_entries, forms_wrong, locked_wrong, leads_wrong, gives_other, ends_wrong, is_held_at, Types, misfits, views_wrong}

-- SORTS

-- a value is of the sort that a part asks for, as far as the one heap doesn't tell it; what stands in a box is owned
abbrev pub has_sort : Piece → Value → Bool
has_sort (whole (shared us)) (value.MutSlot i) = false
has_sort (whole (shared us)) (value.Mut r) = false
has_sort (whole (mutable us)) (value.SharedSlot i) = false
has_sort (whole (mutable us)) (value.Shared r) = false
has_sort (whole (view o)) (value.Shared r) = true
has_sort (whole (view o)) v = false
has_sort (gone k) value.Gone = true
has_sort (gone k) v = false
has_sort (boxed p) v = is_some (owned_part p)
has_sort p v = true

-- a slot without a name is the hidden one of a lock, and shows its mark
abbrev pub slot_sort : Slot → Bool → Value → Bool
slot_sort s true v = has_sort s.part v
slot_sort s false v = true

-- the slots, the newest first
abbrev pub slots_unsorted : List Slot → List Value → ℕ
slots_unsorted [] vs = 0
slots_unsorted (s ∷ e) [] = 0
slots_unsorted (s ∷ e) (v ∷ vs) = other (slot_sort s (is_some s.name) v) + slots_unsorted e vs

-- the value on top; those below it are left operands, which are integers
abbrev pub temps_unsorted : List Kind → List Value → ℕ
temps_unsorted [] vs = 0
temps_unsorted (k ∷ ks) [] = 0
temps_unsorted (k ∷ ks) (v ∷ vs) = other (has_sort (whole k) v) + tot (λ l. other (is_int l)) ks

abbrev pub sorts_of : ThreadState → Entry → ℕ
sorts_of t x = slots_unsorted x.env (reverse t.slots) + temps_unsorted x.temps (reverse t.temps)

-- each slot and temporary value of a thread that isn't over has the sort that typing gives at its instruction
abbrev pub sorts_wrong : Table → Sight → ℕ
sorts_wrong table s = at_entries table s (λ x. sorts_of x.thread)

-- HOLDERS

abbrev pub holder_off_from : ℕ → Key → ℕ → Value → ℕ
holder_off_from t (slot_k u i) n (value.Mut r) = if_so (u == t) (other (is_held_at i n r.holder))
holder_off_from t k n v = 0

abbrev pub holder_off : ℕ → Exact → Value → ℕ
holder_off t (owns x) v = 0
holder_off t (refers m u) v = holder_off_from t u.key u.depth v

abbrev pub all_off : KeyTypes → ℕ → (ℕ → Key) → ℕ → List Value → ℕ
all_off exact t key i [] = 0
all_off exact t key i (v ∷ vs) = holder_off t (exact (key i)) v + all_off exact t key (i + 1) vs

abbrev pub off_of : KeyTypes → ThreadState → ℕ
off_of exact t = all_off exact t.number (slot_k t.number) 0 t.slots + all_off exact t.number (temp_k t.number) 0 t.temps

-- the holder of a mutable reference to an object is the place of its exact type with one star less, where that is a place of its own thread
abbrev pub holders_off : KeyTypes → Sight → ℕ
holders_off exact s = sum_threads s (λ x. off_of exact x.thread)

-- ENDS

-- the code of each thread that is over ends with the type that its task has
abbrev pub over_ends_wrong : Table → NameTypes → Sight → ℕ
over_ends_wrong table n s = sum_threads s (λ x. if_so (is_over x.thread.phase) (entry_wrong (gives_other n x.thread.number) (table x.thread.pc)))

-- THE LAW

-- that threads are found by their numbers, which were given, and that a thread that is over has nothing: what each event keeps
pub record HasNumbers (k : Cluster) : Type 0 where
  pub numbers_differ : AtMostOne is_thread (things_of k)
  pub names_counted : Holds k names_counted
  pub counts_from_one : Holds k counts_from_one
  pub over_are_bare : Holds k over_are_bare

-- these types of objects are those, of each object that is in the one heap
abbrev pub AreTheseTypes : Cluster → (ObjNo → OwnedType) → (ObjNo → OwnedType) → Type 0
AreTheseTypes k object types = (o : ObjNo) (v : Plain) → (one_heap k).object o ≡ Some v → object o ≡ types o

-- what is counted of the part on types follows but for this: forms where values have the sorts of their parts, for these types of the objects that are in
-- the one heap; what references lead to where their holders are those of their exact types; ends where threads that are over end with the types of their
-- tasks; and the slots of contents at once
pub record CountsFollow (table : Table) (y : Typing) (k : Cluster) : Type 0 where
  pub types : ObjNo → OwnedType
  pub forms : (object : ObjNo → OwnedType) → AreTheseTypes k object types → sorts_wrong table (sight k) ≡ 0 → forms_wrong table (names_of object y.gives) (sight k) ≡ 0
  pub locked : (object : ObjNo → OwnedType) → locked_wrong table (names_of object y.gives) (sight k) ≡ 0
  pub lead : holders_off y.exact (sight k) ≡ 0 → leads_wrong y.exact (sight k) ≡ 0
  pub ends : (object : ObjNo → OwnedType) → over_ends_wrong table (names_of object y.gives) (sight k) ≡ 0 → ends_wrong table (names_of object y.gives) (sight k) ≡ 0

-- so it is in each cluster whose one heap is typed, between events or not
abbrev pub TypedHeapsCount : Type 0
TypedHeapsCount = (k : Cluster) → HasNumbers k → (table : Table) (y : Typing) → CodeStateTypes table y (one_heap k) → CountsFollow table y k

-- what is left to show of the part on types, for types of objects that are these in the one heap
pub record LeftToShow (table : Table) (y : Typing) (k : Cluster) (types : ObjNo → OwnedType) : Type 0 where
  pub object : ObjNo → OwnedType
  pub these : AreTheseTypes k object types
  pub agree : misfits (names_of object y.gives) (sight k) ≡ 0
  pub sorts : sorts_wrong table (sight k) ≡ 0
  pub holders : holders_off y.exact (sight k) ≡ 0
  pub views : views_wrong table (sight k) ≡ 0
  pub ends : over_ends_wrong table (names_of object y.gives) (sight k) ≡ 0

-- with it such a cluster has types
abbrev pub TypesFollow : Type 0
TypesFollow = (k : Cluster) → HasNumbers k → (table : Table) → IsTable k.code table → (y : Typing) → CodeStateTypes table y (one_heap k) → (c : CountsFollow table y k) → LeftToShow table y k c.types → Types k
