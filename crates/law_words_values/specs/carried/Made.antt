-- AN OBJECT IS MADE (this project's rule): a cell lies to which nothing pointed, with a value that stood in no place, and one pointer to it is there, in no place yet.
use Rattle.std.specs.Prelude.{◌≡◌, ◌⊎◌, ℕ, Some, None}
use Rattle.law_words_kept.specs.Below.fr_base.declared.name.ObjNo.{ObjNo}
use Rattle.law_words_kept.specs.Below.heap_partition.declared.value.Cell.{Cell}
use Rattle.law_words_kept.specs.Below.mut_borrow.declared.mutable.MutRef.{MutRef}
use Rattle.law_words_kept.specs.Below.thread_state.declared.value.Value.TheVariants as value
use Rattle.law_words_kept.specs.Below.server_model.Servers.{Cluster}
use Rattle.law_words_kept.specs.Below.coherent_memory.Names.{Among}
use Rattle.law_words_kept.specs.Below.coherent_memory.Things.{Location, in_cell, lies, things_of}
use Rattle.law_words_kept.specs.Below.coherent_memory.Follow.{value_in, place_at}
use Rattle.law_words_kept.specs.Below.coherent_memory.Stale.{holder_of, one_star_less}
use Rattle.law_words_kept.specs.Below.coherent_memory.Sight.{Pointer, pointers_in, sight}
use Rattle.law_words_kept.specs.Below.coherent_memory.Placing.{standing_in}
use Rattle.law_words_kept.specs.Below.coherent_memory.Coherent.{Holds, first_at_holder}
use Rattle.law_words_kept.specs.Below.coherent_memory.Words.{all_pointers, HasWords, LeadsTo}
use Rattle.law_words_kept.specs.Below.law_words_paths.words.Reworded.{HasPlaces, LiesThere}
use Rattle.law_words_kept.specs.Below.law_words_paths.words.Unmoved.{seen_at, Taking, takings}
use Rattle.law_words_kept.specs.Below.law_words_paths.words.WordsAfter.{KeepsWords}

-- the pointer to the new object, under its word
abbrev pub new_pointer : ObjNo → ℕ → Pointer
new_pointer o w = record { at = None; word = w; object = o }

pub record Made (k z : Cluster) (o : ObjNo) (w : ℕ) : Type 0 where
  -- elsewhere words see the same, and no cell was there
  pub stands : (l : Location) → (l ≡ in_cell o → ⊥) → seen_at l (value_in (sight z).ground l) ≡ seen_at l (value_in (sight k).ground l)
  pub before : value_in (sight k).ground (in_cell o) ≡ None
  -- holders are where they were, and so is what threads have taken from, which isn't the new cell
  pub holders : (l m : Location) (r : MutRef) → value_in (sight k).ground l ≡ Some (value.Mut r) → holder_of (sight k).ground l r.holder ≡ Some m → holder_of (sight z).ground l r.holder ≡ Some m
  pub taken : (t : Taking) → Among t (takings k.code (sight k).ground.threads) → (place_at (sight z).ground t.thread t.place ≡ place_at (sight k).ground t.thread t.place)
      × (one_star_less (sight z).ground t.thread t.place.slot t.place.depth ≡ one_star_less (sight k).ground t.thread t.place.slot t.place.depth)
  pub untaken : (t : Taking) → Among t (takings k.code (sight k).ground.threads) → one_star_less (sight k).ground t.thread t.place.slot t.place.depth ≡ Some (in_cell o) → ⊥
  pub takes : (t : Taking) → Among t (takings z.code (sight z).ground.threads) → Among t (takings k.code (sight k).ground.threads)
  pub took : (t : Taking) → Among t (takings k.code (sight k).ground.threads) → Among t (takings z.code (sight z).ground.threads)
  -- the new pointer is there; the others at no location are the same, but for the one that is in the new cell now
  pub pointer : Among (new_pointer o w) (pointers_in (things_of z))
  pub loose : (p : Pointer) → p.at ≡ None → Among p (pointers_in (things_of z)) → (new_pointer o w ≡ p) ⊎ Among p (pointers_in (things_of k))
  pub remain : (p : Pointer) → p.at ≡ None → Among p (pointers_in (things_of k)) → Among p (pointers_in (things_of z)) ⊎ Among (record p { at = Some (in_cell o) }) (pointers_in (things_of z))
  pub standing : (p : Pointer) → p.at ≡ None → Among p (standing_in (things_of z)) → (new_pointer o w ≡ p) ⊎ Among p (standing_in (things_of k))
  pub into : (p : Pointer) → p.at ≡ Some (in_cell o) → Among p (pointers_in (things_of z)) → Among (record p { at = None }) (standing_in (things_of k))
  -- nothing pointed to the object
  pub unnamed : (p : Pointer) → Among p (all_pointers (sight k)) → p.object ≡ o → ⊥
  -- the word leads to it, and the others lie where they lay
  pub home : (r a : ℕ) (c : Cell) → Among (lies r a c) (things_of z) → c.object ≡ o → LeadsTo r a w
  pub lay : (r a : ℕ) (c : Cell) → Among (lies r a c) (things_of z) → (c.object ≡ o → ⊥) → LiesThere k r a c.object

-- then it has that word, each other object the word that it had, and what else is kept of words is kept
abbrev pub MadeKeeps : Type 0
MadeKeeps = (k z : Cluster) (o : ObjNo) (w : ℕ) → HasPlaces k → HasPlaces z → Holds k first_at_holder → Made k z o w → (before : HasWords (sight k)) → KeepsWords k z o w before
