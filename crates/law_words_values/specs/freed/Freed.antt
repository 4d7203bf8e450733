-- AN OBJECT GOES (this project's rule): its cell lies nowhere any more, and what it owned points from no place now. No place led to it.
use Rattle.std.specs.Prelude.{◌≡◌, ◌⊎◌, ℕ, Some, None}
use Rattle.law_results_reads.specs.Below.fr_base.declared.name.ObjNo.{ObjNo}
use Rattle.law_results_reads.specs.Below.heap_partition.declared.value.Cell.{Cell}
use Rattle.law_results_reads.specs.Below.mut_borrow.declared.mutable.MutRef.{MutRef}
use Rattle.law_results_reads.specs.Below.thread_state.declared.value.Value.TheVariants as value
use Rattle.law_results_reads.specs.Below.server_model.Servers.{Cluster}
use Rattle.law_results_reads.specs.Below.coherent_memory.Names.{Among}
use Rattle.law_results_reads.specs.Below.coherent_memory.Things.{Location, in_cell, lies, things_of}
use Rattle.law_results_reads.specs.Below.coherent_memory.Follow.{value_in, place_at}
use Rattle.law_results_reads.specs.Below.coherent_memory.Stale.{holder_of, one_star_less}
use Rattle.law_results_reads.specs.Below.coherent_memory.Sight.{Pointer, pointers_in, sight}
use Rattle.law_results_reads.specs.Below.coherent_memory.Placing.{standing_in}
use Rattle.law_results_reads.specs.Below.coherent_memory.Coherent.{Holds, first_at_holder}
use Rattle.law_words_values.specs.Below.law_words_paths.words.Reworded.{HasPlaces, LiesThere}
use Rattle.law_words_values.specs.Below.law_words_paths.words.Unmoved.{seen_at, Taking, takings, LeavesWords}

pub record Freed (k z : Cluster) (o : ObjNo) : Type 0 where
  -- elsewhere words see the same, and no cell is there
  pub stands : (l : Location) → (l ≡ in_cell o → ⊥) → seen_at l (value_in (sight z).ground l) ≡ seen_at l (value_in (sight k).ground l)
  pub gone : value_in (sight z).ground (in_cell o) ≡ None
  -- holders are where they were, and so is what threads have taken from, none of it in the cell
  pub holders : (l m : Location) (r : MutRef) → value_in (sight k).ground l ≡ Some (value.Mut r) → holder_of (sight k).ground l r.holder ≡ Some m → (holder_of (sight z).ground l r.holder ≡ Some m) × (m ≡ in_cell o → ⊥)
  pub taken : (t : Taking) → Among t (takings k.code (sight k).ground.threads) → (place_at (sight z).ground t.thread t.place ≡ place_at (sight k).ground t.thread t.place)
      × (one_star_less (sight z).ground t.thread t.place.slot t.place.depth ≡ one_star_less (sight k).ground t.thread t.place.slot t.place.depth)
  pub untaken : (t : Taking) → Among t (takings k.code (sight k).ground.threads) → one_star_less (sight k).ground t.thread t.place.slot t.place.depth ≡ Some (in_cell o) → ⊥
  pub takes : (t : Taking) → Among t (takings z.code (sight z).ground.threads) → Among t (takings k.code (sight k).ground.threads)
  pub took : (t : Taking) → Among t (takings k.code (sight k).ground.threads) → Among t (takings z.code (sight z).ground.threads)
  -- pointers at no location are the same, but for those to the object, and for what was in the cell
  pub loose : (p : Pointer) → p.at ≡ None → Among p (pointers_in (things_of z)) → Among p (pointers_in (things_of k)) ⊎ Among (record p { at = Some (in_cell o) }) (pointers_in (things_of k))
  pub remain : (p : Pointer) → p.at ≡ None → Among p (pointers_in (things_of k)) → (p.object ≡ o) ⊎ Among p (pointers_in (things_of z))
  pub standing : (p : Pointer) → p.at ≡ None → Among p (standing_in (things_of z)) → Among p (standing_in (things_of k)) ⊎ Among (record p { at = Some (in_cell o) }) (standing_in (things_of k))
  pub out : (p : Pointer) → p.at ≡ Some (in_cell o) → Among p (pointers_in (things_of k)) → Among (record p { at = None }) (pointers_in (things_of z))
  -- the others lie where they lay
  pub lay : (r a : ℕ) (c : Cell) → Among (lies r a c) (things_of z) → (c.object ≡ o → ⊥) × LiesThere k r a c.object

-- that leaves each object the word that it had, and what else is kept of words
abbrev pub FreedLeaves : Type 0
FreedLeaves = (k z : Cluster) (o : ObjNo) → HasPlaces k → HasPlaces z → Holds k first_at_holder → Freed k z o → LeavesWords k z
