-- A mutex whose value stands where a place leads was made.
use Rattle.std.proofs.Common.{◌≡◌, inl, ℕ, ◌+◌, ◌≤◌, ◌==◌, ◌&&◌, not, Bool, true, false, Option, Some, None, refl, ap, arith}
use Rattle.law_entries_reads.specs.Below.law_copies_kept.Below.fr_base.declared.name.MutexNo.{MutexNo}
use Rattle.law_entries_reads.specs.Below.law_copies_kept.Below.heap_partition.declared.value.Cell.{Cell}
use Rattle.law_entries_reads.specs.Below.law_copies_kept.Below.heap_partition.declared.value.Owned.TheVariants as owned
use Rattle.law_entries_reads.specs.Below.law_copies_kept.Below.thread_state.declared.value.Value.TheVariants as value
use Rattle.law_entries_reads.specs.Below.law_copies_kept.Below.server_model.Servers.{Cluster}
use Rattle.law_entries_reads.specs.Below.law_copies_kept.Below.coherent_memory.Names.{tot, one, other, some}
use Rattle.law_entries_reads.specs.Below.law_copies_kept.Below.coherent_memory.Things.{in_slot, in_temp, Location, at_slot, at_temp, in_cell, Thing, holds, lies, flies, things_of}
use Rattle.law_entries_reads.specs.Below.law_copies_kept.Below.coherent_memory.Follow.{value_in, value_of, cell_of}
use Rattle.law_entries_reads.specs.Below.law_copies_kept.Below.coherent_memory.Sight.{sight}
use Rattle.law_entries_reads.specs.Below.law_copies_kept.Below.coherent_memory.Naming.{threads, named_mutexes, made_at, zeroth_thread, zeroth_mutex, uncounted_thread, uncounted_mutex}
use Rattle.law_entries_reads.specs.Below.law_copies_kept.Below.coherent_memory.OneHeap.{is_given_mutex}
use Rattle.law_entries_reads.specs.Below.law_copies_kept.Below.coherent_memory.Coherent.{IsSound}
use Rattle.law_entries_reads.proofs.Below.law_copies_kept.Below.law_words_paths.words.Standing.{slot_among, temp_among, CellOf, lying, flying, cell_among}
use Rattle.law_entries_reads.proofs.asks.NextColour.{weighs}

module _ (k : Cluster) (m : MutexNo) where
  -- it is named by a thing
  named_at : (l : Location) → value_in (sight k).ground l ≡ Some (value.Own (owned.Mutex m)) → (f : MutexNo → ℕ) → f m ≤ tot (named_mutexes f) (things_of k)
  named_at (at_slot t i) e f = weighs (named_mutexes f) (holds (in_slot t i) (owned.Mutex m)) (things_of k) (slot_among k t i (value.Own (owned.Mutex m)) e (holds (in_slot t i) (owned.Mutex m)) (λ s. inl refl))
  named_at (at_temp t i) e f = weighs (named_mutexes f) (holds (in_temp t i) (owned.Mutex m)) (things_of k) (temp_among k t i (value.Own (owned.Mutex m)) e (holds (in_temp t i) (owned.Mutex m)) (λ s. inl refl))
  named_at (in_cell o) e f = by (cell_of (sight k).ground.cells o) refl e
    where
      one_value : (c : Cell) → Some (value.Own c.value) ≡ Some (value.Own (owned.Mutex m)) → c.value ≡ owned.Mutex m
      one_value c q = cc

      of_thing : (c : Cell) → c.value ≡ owned.Mutex m → (y : Thing) → CellOf c y → f m ≤ named_mutexes f y
      of_thing c q _ (lying r a) = let same : named_mutexes f (lies r a c) ≡ f m = ap (λ v. named_mutexes f (lies r a (record c { value = v }))) q in omega (arith, same)
      of_thing c q _ (flying w) = let same : named_mutexes f (flies w c) ≡ f m = ap (λ v. named_mutexes f (flies w (record c { value = v }))) q in omega (arith, same)

      by : (d : Option Cell) → cell_of (sight k).ground.cells o ≡ d → value_of d ≡ Some (value.Own (owned.Mutex m)) → f m ≤ tot (named_mutexes f) (things_of k)
      by None q g = absurd (cc g)
      by (Some c) q g =
          let i = cell_among o c (things_of k) q in
          omega (arith, of_thing c (one_value c g) i.thing i.is, weighs (named_mutexes f) i.thing (things_of k) i.among)

  pub mutex_given : IsSound k → (l : Location) → value_in (sight k).ground l ≡ Some (value.Own (owned.Mutex m)) → is_given_mutex (sight k) m ≡ true
  mutex_given sound l e =
      let named : tot (threads (uncounted_thread (sight k))) (things_of k) + tot (named_mutexes (uncounted_mutex (sight k))) (things_of k) ≡ 0 = sound.names.names_counted in
      let zeroth : tot (threads zeroth_thread) (things_of k) + tot (named_mutexes zeroth_mutex) (things_of k) ≡ 0 = sound.names.counts_from_one in
      by (m.count == 0) (some (tot (made_at m.home m.count) (things_of k))) (omega (arith, zeroth, named_at l e zeroth_mutex)) (omega (arith, named, named_at l e (uncounted_mutex (sight k))))
    where
      by : (a d : Bool) → one a ≡ 0 → other d ≡ 0 → (not a && d) ≡ true
      by true d z f = absurd (cc z)
      by false true z f = refl
      by false false z f = absurd (cc f)
