-- What the laws of coherent memory look at in a cluster: its things, where its stale pointers stand, and the word of each object.
use Rattle.std.specs.Prelude.{ℕ, ◌==◌, nat_lt, nat_le, Bool, true, false, not, ◌&&◌, ◌||◌, if◌then◌else◌, List, [], ◌∷◌, ◌++◌, Option, Some, None, slice_get}
use Rattle.server_model.specs.Below.fr_base.declared.name.ObjNo.{ObjNo}
use Rattle.server_model.specs.Below.fr_base.declared.settings.Options.{Options}
use Rattle.server_model.specs.Below.fr_base.declared.instruction.Instr.{Instr}
use Rattle.server_model.specs.Below.fr_base.declared.instruction.Instr.TheVariants as instr
use Rattle.server_model.specs.Below.global_addr.Words.{colour_of, server_of, address_of}
use Rattle.server_model.specs.Below.heap_partition.declared.value.Cell.{Cell}
use Rattle.server_model.specs.Below.heap_partition.declared.value.Owned.{Owned}
use Rattle.server_model.specs.Below.heap_partition.declared.value.Owned.TheVariants as owned
use Rattle.server_model.specs.Below.thread_state.View.{ThreadState}
use Rattle.server_model.specs.Below.thread_state.declared.phase.Phase.{Phase}
use Rattle.server_model.specs.Below.thread_state.declared.phase.Phase.TheVariants as phase
use Rattle.server_model.specs.Below.server_msgs.declared.message.Message.{Message}
use Rattle.server_model.specs.Below.server_msgs.declared.message.Message.TheVariants.{Drop}
use Rattle.server_model.specs.Servers.{Cluster}
use Rattle.coherent_memory.specs.Names.{same_object}
use Rattle.coherent_memory.specs.Things.{Location, at_slot, at_temp, in_cell, Spot, in_slot, in_temp, Thing, holds, shares, borrows, lies, flies, vacant, retired, sent, things_of}
use Rattle.coherent_memory.specs.Follow.{Standing, Ground, ground_of, place_at}
use Rattle.coherent_memory.specs.Stale.{is_among, stale_places}

-- POINTERS

-- a pointer to an object: where it stands, where that can be somebody's holder; its word and its object
pub record Pointer : Type 0 where
  pub at : Option Location
  pub word : ℕ
  pub object : ObjNo

abbrev pub pointer_in : Option Location → Owned → List Pointer
pointer_in l (owned.Box p) = record { at = l; word = p.word; object = p.object } ∷ []
pointer_in l v = []

-- the location of an owned value's place
abbrev pub location_of : Spot → Option Location
location_of (in_slot t i) = Some (at_slot t i)
location_of (in_temp t i) = Some (at_temp t i)
location_of p = None

abbrev pub dropped_pointer : Message → List Pointer
dropped_pointer (Drop w o) = record { at = None; word = w; object = o } ∷ []
dropped_pointer m = []

-- the pointers of a thing: boxes, references of either kind, the word of a `drop` message, and the old word of an object under way.
-- Copies and other words have none
abbrev pub pointers_of : Thing → List Pointer
pointers_of (holds p v) = pointer_in (location_of p) v
pointers_of (shares l r) = record { at = None; word = r.word; object = r.object } ∷ []
pointers_of (borrows l r) = record { at = Some l; word = r.word; object = r.object } ∷ []
pointers_of (lies s a c) = pointer_in (Some (in_cell c.object)) c.value
pointers_of (flies w c) = record { at = None; word = w; object = c.object } ∷ pointer_in (Some (in_cell c.object)) c.value
pointers_of (sent s m) = dropped_pointer m
pointers_of x = []

abbrev pub pointers_in : List Thing → List Pointer
pointers_in [] = []
pointers_in (x ∷ b) = pointers_of x ++ pointers_in b

-- the word of an object that was taken for a mutable borrow counts as a pointer to the object that the borrow's place leads to
abbrev pub taken_object : ℕ → Option Location → List Pointer
taken_object w (Some (in_cell o)) = record { at = None; word = w; object = o } ∷ []
taken_object w l = []

abbrev pub taken_of : Ground → ThreadState → Phase → Option Instr → List Pointer
taken_of g t (phase.Taken w) (Some (instr.BorrowMut p)) = taken_object w (place_at g t.number p)
taken_of g t _ _ = []

abbrev pub taken_pointers : List Instr → Ground → List Standing → List Pointer
taken_pointers code g [] = []
taken_pointers code g (x ∷ xs) = taken_of g x.thread x.thread.phase (slice_get code x.thread.pc) ++ taken_pointers code g xs

-- a pointer is stale where its location is one of these
abbrev pub is_stale : List Location → Option Location → Bool
is_stale places None = false
is_stale places (Some l) = is_among l places

abbrev pub unless : Bool → Pointer → List Pointer → List Pointer
unless true p ps = ps
unless false p ps = p ∷ ps

-- the pointers that aren't stale
abbrev pub fresh_ones : List Location → List Pointer → List Pointer
fresh_ones places [] = []
fresh_ones places (p ∷ ps) = unless (is_stale places p.at) p (fresh_ones places ps)

-- THE OBJECT'S WORD

-- the object's word: that of its first pointer that isn't stale
abbrev pub word_of_object : List Pointer → ObjNo → Option ℕ
word_of_object [] o = None
word_of_object (p ∷ ps) o = if same_object p.object o then Some p.word else word_of_object ps o

abbrev pub is_word : Option ℕ → ℕ → Bool
is_word None w = false
is_word (Some v) w = v == w

-- the cell of the object whose word this is, where that object is live
abbrev pub cell_of_word : List Pointer → List Cell → ℕ → Option Cell
cell_of_word ps [] w = None
cell_of_word ps (c ∷ cs) w = if is_word (word_of_object ps c.object) w then Some c else cell_of_word ps cs w

-- a mutable reference that is dirty and isn't stale
abbrev pub if_dirty : Bool → ObjNo → List ObjNo → List ObjNo
if_dirty true o os = o ∷ os
if_dirty false o os = os

-- the objects to which a dirty reference is alive that isn't stale
abbrev pub dirty_objects : List Location → List Thing → List ObjNo
dirty_objects places [] = []
dirty_objects places (borrows l r ∷ b) = if_dirty (r.dirty && not (is_among l places)) r.object (dirty_objects places b)
dirty_objects places (x ∷ b) = dirty_objects places b

abbrev pub is_object_among : ObjNo → List ObjNo → Bool
is_object_among o [] = false
is_object_among o (p ∷ ps) = same_object p o || is_object_among o ps

-- ISSUED WORDS

abbrev pub colour_up_to : Option ℕ → ℕ → Bool
colour_up_to None w = false
colour_up_to (Some v) w = nat_le (colour_of w) (colour_of v)

abbrev pub is_spot : ℕ → ℕ → ℕ → Bool
is_spot s a w = server_of w == s && address_of w == a

-- the words that are issued at a thing's address: of a live object the colours up to its word, so no later colour than that; of a
-- free address those below its next colour; of a retired one all
abbrev pub is_issued_at : ℕ → List Pointer → ℕ → Thing → Bool
is_issued_at colours ps w (lies s a c) = is_spot s a w && colour_up_to (word_of_object ps c.object) w
is_issued_at colours ps w (vacant s a next) = is_spot s a w && nat_lt (colour_of w) next
is_issued_at colours ps w (retired s a) = is_spot s a w && nat_lt (colour_of w) colours
is_issued_at colours ps w x = false

abbrev pub is_issued : ℕ → List Pointer → List Thing → ℕ → Bool
is_issued colours ps [] w = false
is_issued colours ps (x ∷ b) w = is_issued_at colours ps w x || is_issued colours ps b w

-- THE WHOLE

pub record Sight : Type 0 where
  pub code : List Instr
  pub options : Options
  pub things : List Thing
  pub ground : Ground
  -- where stale pointers stand
  pub stale : List Location
  -- the pointers that aren't stale
  pub pointers : List Pointer
  -- the objects to which a dirty reference is alive that isn't stale
  pub dirty : List ObjNo

abbrev pub with_stale : Cluster → List Thing → Ground → List Location → Sight
with_stale k b g places = record {
  code = k.code;
  options = k.options;
  things = b;
  ground = g;
  stale = places;
  pointers = fresh_ones places (pointers_in b ++ taken_pointers k.code g g.threads);
  dirty = dirty_objects places b;
}

abbrev pub with_ground : Cluster → List Thing → Ground → Sight
with_ground k b g = with_stale k b g (stale_places k.code g b)

abbrev pub with_things : Cluster → List Thing → Sight
with_things k b = with_ground k b (ground_of b)

-- what a cluster shows
abbrev pub sight : Cluster → Sight
sight k = with_things k (things_of k)

-- an object's word
abbrev pub word : Sight → ObjNo → Option ℕ
word s o = word_of_object s.pointers o

-- whether a word was issued: by the states of addresses
abbrev pub issued : Sight → ℕ → Bool
issued s w = is_issued s.options.colours s.pointers s.things w
