-- NOTHING THAT THE WORDS OF OBJECTS SEE CHANGES (this project's rule): two clusters of which the second has at each location the pointer that the first has, and
-- the same pointers outside of locations.
use Rattle.std.specs.Prelude.{false, ◌≡◌, ℕ, List, [], ◌∷◌, Option, Some, None, slice_get}
use Rattle.law_words_paths.specs.Below.fr_base.declared.name.ObjNo.{ObjNo}
use Rattle.law_words_paths.specs.Below.fr_base.declared.place.Lval.{Lval}
use Rattle.law_words_paths.specs.Below.fr_base.declared.instruction.Instr.{Instr}
use Rattle.law_words_paths.specs.Below.fr_base.declared.instruction.Instr.TheVariants as instr
use Rattle.law_words_paths.specs.Below.heap_partition.declared.value.Cell.{Cell}
use Rattle.law_words_paths.specs.Below.heap_partition.declared.value.Owned.TheVariants as owned
use Rattle.law_words_paths.specs.Below.journal.View.{EntryView}
use Rattle.law_words_paths.specs.Below.thread_state.declared.phase.Phase.{Phase}
use Rattle.law_words_paths.specs.Below.thread_state.declared.phase.Phase.TheVariants as phase
use Rattle.law_words_paths.specs.Below.thread_state.declared.value.Value.{Value}
use Rattle.law_words_paths.specs.Below.thread_state.declared.value.Value.TheVariants as value
use Rattle.law_words_paths.specs.Below.server_model.declared.event.Event.{Event}
use Rattle.law_words_paths.specs.Below.server_model.declared.event.What.TheVariants.{Deliver, Evict}
use Rattle.law_words_paths.specs.Below.server_msgs.declared.message.Message.{Message}
use Rattle.law_words_paths.specs.Below.server_msgs.declared.message.Message.TheVariants.{Fetch}
use Rattle.law_words_paths.specs.Below.server_model.Servers.{Server, Cluster, server_at}
use Rattle.law_words_paths.specs.Below.server_model.Clusters.{act_at}
use Rattle.law_words_paths.specs.Below.coherent_memory.Names.{Among}
use Rattle.law_words_paths.specs.Below.coherent_memory.Things.{Location, at_slot, at_temp, in_cell, lies, things_of}
use Rattle.law_words_paths.specs.Below.coherent_memory.Follow.{Standing, value_in}
use Rattle.law_words_paths.specs.Below.coherent_memory.Sight.{Pointer, pointers_in, Sight, sight}
use Rattle.law_words_paths.specs.Below.coherent_memory.Placing.{standing_in}
use Rattle.law_words_paths.specs.Below.coherent_memory.Words.{HasWords}
use Rattle.law_words_paths.specs.Below.coherent_memory.Dirty.{DirtyAlone, PastWords}
use Rattle.law_words_paths.specs.Below.coherent_memory.Coherent.{Holds, first_at_holder}
use Rattle.law_words_paths.specs.words.Reworded.{HasPlaces, LiesThere}

-- a value that leads somewhere. Whether a shared reference keeps a copy in use isn't seen
abbrev pub pointing : Option Value → Option Value
pointing (Some (value.Own (owned.Box p))) = Some (value.Own (owned.Box p))
pointing (Some (value.SharedSlot i)) = Some (value.SharedSlot i)
pointing (Some (value.MutSlot i)) = Some (value.MutSlot i)
pointing (Some (value.Shared r)) = Some (value.Shared (record r { pinned = false }))
pointing (Some (value.Mut r)) = Some (value.Mut r)
pointing v = None

-- of a temporary value boxes and mutable references to objects alone are seen, as no place leads to it
abbrev pub owning : Option Value → Option Value
owning (Some (value.Own (owned.Box p))) = Some (value.Own (owned.Box p))
owning (Some (value.Mut r)) = Some (value.Mut r)
owning v = None

abbrev pub seen_at : Location → Option Value → Option Value
seen_at (at_temp t i) v = owning v
seen_at (at_slot t i) v = pointing v
seen_at (in_cell o) v = pointing v

-- a thread has taken the object for the mutable borrow of that place: under which word
pub record Taking : Type 0 where
  pub thread : ℕ
  pub place : Lval
  pub word : ℕ

abbrev pub taking_by : ℕ → Phase → Option Instr → Option Taking
taking_by t (phase.Taken w) (Some (instr.BorrowMut p)) = Some (record { thread = t; place = p; word = w })
taking_by t _ _ = None

abbrev pub with_taking : Option Taking → List Taking → List Taking
with_taking None ts = ts
with_taking (Some t) ts = t ∷ ts

abbrev pub taking_of : List Instr → Standing → Option Taking
taking_of code x = taking_by x.thread.number x.thread.phase (slice_get code x.thread.pc)

abbrev pub takings : List Instr → List Standing → List Taking
takings code [] = []
takings code (x ∷ xs) = with_taking (taking_of code x) (takings code xs)

pub record Unmoved (k z : Cluster) : Type 0 where
  -- at each location stands the same pointer
  pub stands : (l : Location) → pointing (value_in (sight z).ground l) ≡ pointing (value_in (sight k).ground l)
  -- threads have taken the same
  pub takes : (t : Taking) → Among t (takings z.code (sight z).ground.threads) → Among t (takings k.code (sight k).ground.threads)
  pub took : (t : Taking) → Among t (takings k.code (sight k).ground.threads) → Among t (takings z.code (sight z).ground.threads)
  -- what points from no location is the same, also where the old words of objects under way are left out
  pub loose : (p : Pointer) → p.at ≡ None → Among p (pointers_in (things_of z)) → Among p (pointers_in (things_of k))
  pub remain : (p : Pointer) → p.at ≡ None → Among p (pointers_in (things_of k)) → Among p (pointers_in (things_of z))
  pub standing : (p : Pointer) → p.at ≡ None → Among p (standing_in (things_of z)) → Among p (standing_in (things_of k))
  -- objects lie where they lay
  pub lay : (r a : ℕ) (c : Cell) → Among (lies r a c) (things_of z) → LiesThere k r a c.object

-- the same, but for temporary values to which no place leads
pub record Untouched (k z : Cluster) : Type 0 where
  pub stands : (l : Location) → seen_at l (value_in (sight z).ground l) ≡ seen_at l (value_in (sight k).ground l)
  pub takes : (t : Taking) → Among t (takings z.code (sight z).ground.threads) → Among t (takings k.code (sight k).ground.threads)
  pub took : (t : Taking) → Among t (takings k.code (sight k).ground.threads) → Among t (takings z.code (sight z).ground.threads)
  pub loose : (p : Pointer) → p.at ≡ None → Among p (pointers_in (things_of z)) → Among p (pointers_in (things_of k))
  pub remain : (p : Pointer) → p.at ≡ None → Among p (pointers_in (things_of k)) → Among p (pointers_in (things_of z))
  pub standing : (p : Pointer) → p.at ≡ None → Among p (standing_in (things_of z)) → Among p (standing_in (things_of k))
  pub lay : (r a : ℕ) (c : Cell) → Among (lies r a c) (things_of z) → LiesThere k r a c.object

-- each object has the word that it had
pub record WordsStay (s z : Sight) (before : HasWords s) : Type 0 where
  pub after : HasWords z
  pub same : (p : ObjNo) → after.word p ≡ before.word p

-- the words stay, references know the words at their holders as before, dirty references are alone as before, and what was before the words of today is as it was
pub record LeavesWords (k z : Cluster) : Type 0 where
  pub words : (before : HasWords (sight k)) → WordsStay (sight k) (sight z) before
  pub holders : Holds k first_at_holder → Holds z first_at_holder
  pub dirty : DirtyAlone (sight k) → DirtyAlone (sight z)
  pub past : PastWords (sight k) → PastWords (sight z)

-- so it is where nothing changes that words see
abbrev pub UnmovedStays : Type 0
UnmovedStays = (k z : Cluster) → HasPlaces k → HasPlaces z → Unmoved k z → LeavesWords k z

abbrev pub UntouchedStays : Type 0
UntouchedStays = (k z : Cluster) → HasPlaces k → HasPlaces z → Untouched k z → LeavesWords k z

-- EVENTS, done at their servers

-- an eviction changes nothing that words see
abbrev pub EvictionsUnmoved : Type 0
EvictionsUnmoved = (k z : Cluster) (e : Event) (w : ℕ) (v : EntryView) → e.what ≡ Evict w → act_at k e ≡ Some (z, v) → Unmoved k z

-- the message is delivered
pub record Delivers (k : Cluster) (e : Event) (m : Message) : Type 0 where
  pub place : ℕ
  pub what : e.what ≡ Deliver place
  pub server : Server
  pub there : server_at k.servers e.server ≡ Some server
  pub message : slice_get server.rest.inbox place ≡ Some m

-- nor does the delivery of a `fetch`
abbrev pub FetchesUnmoved : Type 0
FetchesUnmoved = (k z : Cluster) (e : Event) (w : ℕ) (o : ObjNo) (s t : ℕ) (v : EntryView) → Delivers k e (Fetch w o s t) → act_at k e ≡ Some (z, v) → Unmoved k z
