-- WHAT A THREAD ENDS OR WRITES THROUGH, over the locations of a coherent cluster: who else points there (Featherweight Rust's borrow invariance, made
-- exact; this project's rule).
use Rattle.std.specs.Prelude.{◌≡◌, ◌⊎◌, ℕ, ◌<◌, true, Some}
use Rattle.law_words_kept.specs.Below.fr_base.declared.name.ObjNo.{ObjNo}
use Rattle.law_words_kept.specs.Below.fr_base.declared.place.Lval.{Lval}
use Rattle.law_words_kept.specs.Below.mut_borrow.declared.mutable.MutRef.{MutRef}
use Rattle.law_words_kept.specs.Below.mut_borrow.declared.shared.SharedRef.{SharedRef}
use Rattle.law_words_kept.specs.Below.thread_state.declared.value.Value.TheVariants as value
use Rattle.law_words_kept.specs.Below.server_model.Servers.{Cluster}
use Rattle.law_words_kept.specs.Below.coherent_memory.Names.{Among}
use Rattle.law_words_kept.specs.Below.coherent_memory.Things.{Location, shares, things_of}
use Rattle.law_words_kept.specs.Below.coherent_memory.Follow.{Standing, value_in, locate}
use Rattle.law_words_kept.specs.Below.coherent_memory.Stale.{Reference, references, is_held_at}
use Rattle.law_words_kept.specs.Below.coherent_memory.Sight.{Pointer, pointers_in, sight}
use Rattle.law_words_kept.specs.Below.coherent_memory.Words.{IsStale}
use Rattle.law_words_kept.specs.Below.coherent_memory.Paths.{ends, written_place}
use Rattle.law_words_kept.specs.Below.coherent_memory.Walking.{path}
use Rattle.law_words_kept.specs.Below.coherent_memory.Coherent.{Holds, passed_not_stale, passed_in_a_walk, passed_within}
use Rattle.law_words_kept.specs.Below.law_words_paths.paths.HeapStore.{GoesOn, HasPaths}
use Rattle.law_words_kept.specs.Below.law_words_paths.paths.Pointing.{Above}

-- the pointer at a location to an object is alone: each pointer to the object stands there or above, no shared reference or view leads to it, and no
-- mutable reference was made from it
pub record IsAlone (k : Cluster) (h : Location) (o : ObjNo) : Type 0 where
  pub above : (p : Pointer) (l : Location) → Among p (pointers_in (things_of k)) → p.object ≡ o → p.at ≡ Some l → (l ≡ h) ⊎ Above (sight k).ground l h
  pub unshared : (l : Location) (q : SharedRef) → Among (shares l q) (things_of k) → q.object ≡ o → ⊥
  pub none_made : (q : Reference) → Among q (references (sight k).ground (things_of k)) → is_held_at h q.holder ≡ true → ⊥

-- the mutable reference stands at one location, and is alone there and not stale
pub record EndsAlone (k : Cluster) (r : MutRef) : Type 0 where
  pub at : Location
  pub stands : value_in (sight k).ground at ≡ Some (value.Mut r)
  pub alone : IsAlone k at r.object
  pub fresh : IsStale (sight k) (Some at) → ⊥

-- so is one that a thread's instruction ends: by an assignment to its variable, with its variable, or from the hand
abbrev pub EndedAreAlone : Type 0
EndedAreAlone = (k : Cluster) (c : HasPaths k) (x : Standing) (r : MutRef) → GoesOn k x → path (sight k) x ≡ ends r → EndsAlone k r

-- no pointer that a thread's write follows is stale: on the place of an assignment or a move, or on the place of an ending reference's holder
abbrev pub WritesAreFresh : Type 0
WritesAreFresh = (k : Cluster) (c : HasPaths k) (x : Standing) (w : Lval) (d : ℕ) (l : Location) → GoesOn k x → written_place (path (sight k) x) ≡ Some w → d < w.depth → locate (sight k).ground x.thread.number w.slot d ≡ Some l → IsStale (sight k) (Some l) → ⊥

-- so what a write has passed isn't stale: that follows where a thread passes hops in a walk alone, and no more than its write has
abbrev pub PassedFollows : Type 0
PassedFollows = (k : Cluster) → HasPaths k → Holds k passed_in_a_walk → Holds k passed_within → Holds k passed_not_stale
