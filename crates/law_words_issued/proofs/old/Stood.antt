-- Where no word that stands weighs something, the word of no pointer does, wherever it stands.
use Rattle.std.proofs.Common.{◌≡◌, inl, ℕ, ◌+◌, Option, Some, None, refl, ◌∙◌, arith}
use Rattle.law_walks_own.specs.Below.fr_base.declared.name.ObjNo.{ObjNo}
use Rattle.law_walks_own.specs.Below.heap_partition.declared.value.Cell.{Cell}
use Rattle.law_walks_own.specs.Below.heap_partition.declared.value.Owned.{Owned}
use Rattle.law_walks_own.specs.Below.heap_partition.declared.value.Owned.TheVariants as owned
use Rattle.law_walks_own.specs.Below.thread_state.declared.value.Value.{Value}
use Rattle.law_walks_own.specs.Below.thread_state.declared.value.Value.TheVariants as value
use Rattle.law_walks_own.specs.Below.server_model.Servers.{Cluster}
use Rattle.law_walks_own.specs.Below.coherent_memory.Names.{tot, Among}
use Rattle.law_walks_own.specs.Below.coherent_memory.Things.{Location, at_slot, at_temp, in_cell, in_slot, in_temp, Thing, holds, borrows, lies, flies, things_of}
use Rattle.law_walks_own.specs.Below.coherent_memory.Follow.{cell_of, value_of, value_in, value_behind}
use Rattle.law_walks_own.specs.Below.coherent_memory.Sight.{sight}
use Rattle.law_walks_own.specs.Below.coherent_memory.Placing.{owned_word, words}
use Rattle.law_walks_own.proofs.Below.coherent_memory.Words.{none_at}
use Rattle.law_walks_own.proofs.Below.law_words_paths.words.Standing.{CellOf, lying, flying, cell_among, slot_among, temp_among}
use Rattle.law_words_issued.specs.old.Old.{pointer_word}

pub owned_pointer : (f : ℕ → ℕ) (v : Owned) → pointer_word f (Some (value.Own v)) ≡ owned_word f v
owned_pointer f (owned.Box p) = refl
owned_pointer f owned.Nothing = refl
owned_pointer f owned.Unit = refl
owned_pointer f (owned.Int n) = refl
owned_pointer f (owned.Mutex m) = refl
owned_pointer f (owned.Task t) = refl

module _ (k : Cluster) (f : ℕ → ℕ) (all : tot (words f) (things_of k) ≡ 0) where
  none : (x : Thing) → Among x (things_of k) → words f x ≡ 0
  none x h = none_at (words f) x (things_of k) all h

  slot_stood : (t i : ℕ) (v : Option Value) → value_in (sight k).ground (at_slot t i) ≡ v → pointer_word f v ≡ 0
  slot_stood t i (Some (value.Own (owned.Box p))) e = none (holds (in_slot t i) (owned.Box p)) (slot_among k t i (value.Own (owned.Box p)) e (holds (in_slot t i) (owned.Box p)) (λ s. inl refl))
  slot_stood t i (Some (value.Mut r)) e = let z : f r.word + f r.first ≡ 0 = none (borrows (at_slot t i) r) (slot_among k t i (value.Mut r) e (borrows (at_slot t i) r) (λ s. inl refl)) in omega (arith, z)
  slot_stood t i None e = refl
  slot_stood t i (Some value.Gone) e = refl
  slot_stood t i (Some (value.Own owned.Nothing)) e = refl
  slot_stood t i (Some (value.Own owned.Unit)) e = refl
  slot_stood t i (Some (value.Own (owned.Int n))) e = refl
  slot_stood t i (Some (value.Own (owned.Mutex m))) e = refl
  slot_stood t i (Some (value.Own (owned.Task u))) e = refl
  slot_stood t i (Some (value.SharedSlot j)) e = refl
  slot_stood t i (Some (value.MutSlot j)) e = refl
  slot_stood t i (Some (value.Shared q)) e = refl
  slot_stood t i (Some (value.Held m)) e = refl

  temp_stood : (t i : ℕ) (v : Option Value) → value_in (sight k).ground (at_temp t i) ≡ v → pointer_word f v ≡ 0
  temp_stood t i (Some (value.Own (owned.Box p))) e = none (holds (in_temp t i) (owned.Box p)) (temp_among k t i (value.Own (owned.Box p)) e (holds (in_temp t i) (owned.Box p)) (λ s. inl refl))
  temp_stood t i (Some (value.Mut r)) e = let z : f r.word + f r.first ≡ 0 = none (borrows (at_temp t i) r) (temp_among k t i (value.Mut r) e (borrows (at_temp t i) r) (λ s. inl refl)) in omega (arith, z)
  temp_stood t i None e = refl
  temp_stood t i (Some value.Gone) e = refl
  temp_stood t i (Some (value.Own owned.Nothing)) e = refl
  temp_stood t i (Some (value.Own owned.Unit)) e = refl
  temp_stood t i (Some (value.Own (owned.Int n))) e = refl
  temp_stood t i (Some (value.Own (owned.Mutex m))) e = refl
  temp_stood t i (Some (value.Own (owned.Task u))) e = refl
  temp_stood t i (Some (value.SharedSlot j)) e = refl
  temp_stood t i (Some (value.MutSlot j)) e = refl
  temp_stood t i (Some (value.Shared q)) e = refl
  temp_stood t i (Some (value.Held m)) e = refl

  cell_stood : (o : ObjNo) (c : Option Cell) → cell_of (sight k).ground.cells o ≡ c → pointer_word f (value_of c) ≡ 0
  cell_stood o None e = refl
  cell_stood o (Some c) e = let a = cell_among o c (things_of k) e in owned_pointer f c.value ∙ by a.thing a.is a.among
    where
      by : (y : Thing) → CellOf c y → Among y (things_of k) → owned_word f c.value ≡ 0
      by _ (lying r b) h = none (lies r b c) h
      by _ (flying u) h = let z : f u + owned_word f c.value ≡ 0 = none (flies u c) h in omega (arith, z)

  pub stood : (l : Location) → pointer_word f (value_in (sight k).ground l) ≡ 0
  stood (at_slot t i) = slot_stood t i (value_in (sight k).ground (at_slot t i)) refl
  stood (at_temp t i) = temp_stood t i (value_in (sight k).ground (at_temp t i)) refl
  stood (in_cell o) = cell_stood o (cell_of (sight k).ground.cells o) refl

  pub stood_behind : (l : Option Location) → pointer_word f (value_behind (sight k).ground l) ≡ 0
  stood_behind None = refl
  stood_behind (Some l) = stood l
