-- PATHS as relations (Featherweight Rust's places): where a thread's place leads star by star, and what a write has passed on its way (this project's
-- rules).
use Rattle.std.specs.Prelude.{◌≡◌, ℕ, suc, ◌<◌, ◌+◌, ◌-◌, true, List, Option, Some, None, slice_get}
use Rattle.server_model.specs.Below.fr_base.declared.name.ObjNo.{ObjNo}
use Rattle.server_model.specs.Below.fr_base.declared.place.Lval.{Lval}
use Rattle.server_model.specs.Below.heap_partition.declared.value.BoxPtr.{BoxPtr}
use Rattle.server_model.specs.Below.heap_partition.declared.value.Cell.{Cell}
use Rattle.server_model.specs.Below.heap_partition.declared.value.Owned.TheVariants as owned
use Rattle.server_model.specs.Below.mut_borrow.declared.mutable.MutRef.{MutRef}
use Rattle.server_model.specs.Below.thread_state.declared.value.Value.{Value}
use Rattle.server_model.specs.Below.thread_state.declared.value.Value.TheVariants as value
use Rattle.server_model.specs.Servers.{Cluster}
use Rattle.coherent_memory.specs.Names.{tot, Among}
use Rattle.coherent_memory.specs.Things.{Location, at_slot, Thing, lies}
use Rattle.coherent_memory.specs.Follow.{Standing, Ground, value_in, leads, locate, hops}
use Rattle.coherent_memory.specs.Sight.{Sight, sight}
use Rattle.coherent_memory.specs.Weights.{copies}
use Rattle.coherent_memory.specs.Paths.{Path, reads, lends, written_place}
use Rattle.coherent_memory.specs.Walking.{path, words_kept, loose_hop, has_followed, followed_wrong, passed_wrong, passed_boxes_wrong, passed_stale_wrong}
use Rattle.coherent_memory.specs.Words.{IsStale}

-- from a slot of a thread so many stars lead to the location
pub data PathTo (g : Ground) (t slot : ℕ) : ℕ → Location → Type 0 where
  at_its_slot : PathTo g t slot 0 (at_slot t slot)
  by_star : {n : ℕ} {l m : Location} (v : Value) → PathTo g t slot n l → value_in g l ≡ Some v → leads t (Some v) ≡ Some m → PathTo g t slot (suc n) m

-- the value that stands there, which the next star follows
pub record HopOf (g : Ground) (t slot n : ℕ) (l : Location) (v : Value) : Type 0 where
  pub path : PathTo g t slot n l
  pub stands : value_in g l ≡ Some v

-- what computes where paths lead tells the same; so a place leads to one location
pub record PathsLaw : Type 0 where
  pub located : (g : Ground) (t slot n : ℕ) (l : Location) → locate g t slot n ≡ Some l → PathTo g t slot n l
  pub locates : (g : Ground) (t slot n : ℕ) (l : Location) → PathTo g t slot n l → locate g t slot n ≡ Some l
  pub one : (g : Ground) (t slot n : ℕ) (l m : Location) → PathTo g t slot n l → PathTo g t slot n m → l ≡ m
  pub followed : (g : Ground) (t : ℕ) (w : Lval) (n i : ℕ) (l : Location) (v : Value) → i < n → HopOf g t w.slot i l v → slice_get (hops g t w n) i ≡ Some (Some v)

-- WHAT A WRITE HAS PASSED

-- the object lies at that server
pub record LiesAt (b : List Thing) (r : ℕ) (o : ObjNo) : Type 0 where
  pub address : ℕ
  pub cell : Cell
  pub among : Among (lies r address cell) b
  pub object : cell.object ≡ o

-- no copy under the word exists, cached or in a message
abbrev pub NotCopied : Sight → ℕ → Type 0
NotCopied s w = tot (copies w) s.things ≡ 0

-- a pointer there may be passed by a write at that server: its object lies there, it isn't stale, and of a box no copy exists; or it leads to a slot
pub data MayPass (s : Sight) (r : ℕ) (l : Location) : Value → Type 0 where
  over_box : (p : BoxPtr) → LiesAt s.things r p.object → NotCopied s p.word → (IsStale s (Some l) → ⊥) → MayPass s r l (value.Own (owned.Box p))
  over_reference : (q : MutRef) → LiesAt s.things r q.object → (IsStale s (Some l) → ⊥) → MayPass s r l (value.Mut q)
  to_slot : (i : ℕ) → MayPass s r l (value.SharedSlot i)
  to_lent_slot : (i : ℕ) → MayPass s r l (value.MutSlot i)

-- a hop of the place that is passed
pub record IsPassed (s : Sight) (x : Standing) (w : Lval) (i : ℕ) : Type 0 where
  pub location : Location
  pub value : Value
  pub hop : HopOf s.ground x.thread.number w.slot i location value
  pub passes : MayPass s x.server location value

-- each of the first `passed` hops of a thread's write may be passed
abbrev pub HavePassed : Sight → Type 0
HavePassed s = (x : Standing) (w : Lval) (i : ℕ) → Among x s.ground.threads → written_place (path s x) ≡ Some w → i < x.thread.passed → IsPassed s x w i

pub record PassedLaw : Type 0 where
  pub from_counts : (k : Cluster) → passed_wrong (sight k) ≡ 0 → passed_boxes_wrong (sight k) ≡ 0 → passed_stale_wrong (sight k) ≡ 0 → HavePassed (sight k)
  pub none_counted : (k : Cluster) → HavePassed (sight k) → passed_wrong (sight k) + passed_boxes_wrong (sight k) + passed_stale_wrong (sight k) ≡ 0

-- WHAT A STEP HAS FOLLOWED

-- the place of which a thread follows the pointers before its step: a borrowed place without its last star
abbrev pub followed_place : Path → Option Lval
followed_place (reads w) = Some w
followed_place (lends w) = Some (record { slot = w.slot; depth = w.depth - 1 })
followed_place p = None

-- a pointer to an object leads to the thread's server or, but for a dirty reference, to a copy that its walk or a pinned reference of it keeps
abbrev pub IsAtHand : Standing → Value → Type 0
IsAtHand x v = loose_hop x.server (words_kept x.thread) (Some v) ≡ 0

-- where a thread has followed its place, each pointer on the way is at hand
abbrev pub HaveFollowed : Sight → Type 0
HaveFollowed s =
    (x : Standing) (w : Lval) (i : ℕ) (l : Location) (v : Value) → Among x s.ground.threads → has_followed s x x.thread.phase ≡ true → followed_place (path s x) ≡ Some w → i < w.depth → HopOf s.ground x.thread.number w.slot i l v
    → IsAtHand x v

pub record FollowedLaw : Type 0 where
  pub from_counts : (s : Sight) → followed_wrong s ≡ 0 → HaveFollowed s
  pub none_counted : (s : Sight) → HaveFollowed s → followed_wrong s ≡ 0
