-- A VALUE GOES FROM ONE PLACE TO ANOTHER (this project's rule): a temporary value becomes a slot, say, or a gift, at which no place of a thread is. No mutable
-- reference was made from its pointer, and none is.
use Rattle.std.specs.Prelude.{◌≡◌, ◌⊎◌, ℕ, Option, Some, None}
use Rattle.law_words_kept.specs.Below.fr_base.declared.place.Lval.{Lval}
use Rattle.law_words_kept.specs.Below.heap_partition.declared.value.Cell.{Cell}
use Rattle.law_words_kept.specs.Below.mut_borrow.declared.mutable.MutRef.{MutRef}
use Rattle.law_words_kept.specs.Below.thread_state.declared.value.Value.TheVariants as value
use Rattle.law_words_kept.specs.Below.server_model.Servers.{Cluster}
use Rattle.law_words_kept.specs.Below.coherent_memory.Names.{Among}
use Rattle.law_words_kept.specs.Below.coherent_memory.Things.{Location, lies, things_of}
use Rattle.law_words_kept.specs.Below.coherent_memory.Follow.{value_in, place_at}
use Rattle.law_words_kept.specs.Below.coherent_memory.Stale.{holder_of, one_star_less}
use Rattle.law_words_kept.specs.Below.coherent_memory.Sight.{Pointer, pointers_in, sight}
use Rattle.law_words_kept.specs.Below.coherent_memory.Placing.{standing_in}
use Rattle.law_words_kept.specs.Below.coherent_memory.Coherent.{Holds, first_at_holder}
use Rattle.law_words_kept.specs.Below.law_words_paths.words.Reworded.{HasPlaces, LiesThere}
use Rattle.law_words_kept.specs.Below.law_words_paths.words.Unmoved.{owning, seen_at, Taking, takings, LeavesWords}

-- it goes from the location f, or from where nobody's holder can be, to the location g, or to such a place
pub record Carried (k z : Cluster) (f g : Option Location) : Type 0 where
  -- elsewhere words see the same
  pub stands : (l : Location) → (Some l ≡ f → ⊥) → (Some l ≡ g → ⊥) → seen_at l (value_in (sight z).ground l) ≡ seen_at l (value_in (sight k).ground l)
  -- the box or the mutable reference that stood at f stands at g, where no pointer stood, and none is left at f
  pub carried : (l m : Location) → f ≡ Some l → g ≡ Some m → owning (value_in (sight z).ground m) ≡ owning (value_in (sight k).ground l)
  pub left : (l : Location) → f ≡ Some l → owning (value_in (sight z).ground l) ≡ None
  pub free : (m : Location) → g ≡ Some m → owning (value_in (sight k).ground m) ≡ None
  -- a mutable reference doesn't leave all locations, nor come from there, and its holder is the same
  pub ends : (l : Location) (r : MutRef) → f ≡ Some l → g ≡ None → value_in (sight k).ground l ≡ Some (value.Mut r) → ⊥
  pub begins : (m : Location) (r : MutRef) → g ≡ Some m → f ≡ None → value_in (sight z).ground m ≡ Some (value.Mut r) → ⊥
  pub thread : (l m : Location) (w : Lval) → f ≡ Some l → g ≡ Some m → holder_of (sight z).ground m w ≡ holder_of (sight z).ground l w
  -- holders are where they were, and neither at f nor at g; and so is what threads have taken from
  pub holders : (l m : Location) (r : MutRef) → value_in (sight k).ground l ≡ Some (value.Mut r) → holder_of (sight k).ground l r.holder ≡ Some m → holder_of (sight z).ground l r.holder ≡ Some m
  pub unmade : (l m : Location) (r : MutRef) → value_in (sight k).ground l ≡ Some (value.Mut r) → holder_of (sight k).ground l r.holder ≡ Some m → (Some m ≡ f → ⊥) × (Some m ≡ g → ⊥)
  pub taken : (t : Taking) → Among t (takings k.code (sight k).ground.threads) → (place_at (sight z).ground t.thread t.place ≡ place_at (sight k).ground t.thread t.place)
      × (one_star_less (sight z).ground t.thread t.place.slot t.place.depth ≡ one_star_less (sight k).ground t.thread t.place.slot t.place.depth)
  pub untaken : (t : Taking) (m : Location) → Among t (takings k.code (sight k).ground.threads) → one_star_less (sight k).ground t.thread t.place.slot t.place.depth ≡ Some m → (Some m ≡ f → ⊥) × (Some m ≡ g → ⊥)
  pub takes : (t : Taking) → Among t (takings z.code (sight z).ground.threads) → Among t (takings k.code (sight k).ground.threads)
  pub took : (t : Taking) → Among t (takings k.code (sight k).ground.threads) → Among t (takings z.code (sight z).ground.threads)
  -- pointers at no location are the same, but for the one that goes there or comes from there
  pub loose : (p : Pointer) → p.at ≡ None → Among p (pointers_in (things_of z)) → Among p (pointers_in (things_of k)) ⊎ ((g ≡ None) × Among (record p { at = f }) (pointers_in (things_of k)))
  pub remain : (p : Pointer) → p.at ≡ None → Among p (pointers_in (things_of k)) → Among p (pointers_in (things_of z)) ⊎ ((f ≡ None) × Among (record p { at = g }) (pointers_in (things_of z)))
  pub standing : (p : Pointer) → p.at ≡ None → Among p (standing_in (things_of z)) → Among p (standing_in (things_of k)) ⊎ ((g ≡ None) × Among (record p { at = f }) (standing_in (things_of k)))
  pub out : (l : Location) (p : Pointer) → f ≡ Some l → g ≡ None → p.at ≡ Some l → Among p (pointers_in (things_of k)) → Among (record p { at = None }) (pointers_in (things_of z))
  pub into : (m : Location) (p : Pointer) → g ≡ Some m → f ≡ None → p.at ≡ Some m → Among p (pointers_in (things_of z)) → Among (record p { at = None }) (standing_in (things_of k))
  -- objects lie where they lay
  pub lay : (r a : ℕ) (c : Cell) → Among (lies r a c) (things_of z) → LiesThere k r a c.object

-- that leaves each object the word that it had, and what else is kept of words
abbrev pub CarriedStays : Type 0
CarriedStays = (k z : Cluster) (f g : Option Location) → HasPlaces k → HasPlaces z → Holds k first_at_holder → Carried k z f g → LeavesWords k z
