-- An object without a cell: nothing leads to it, and no `drop` message names it.
use Rattle.std.proofs.Common.{◌≡◌, inl, ◌≤◌, Option, Some, None, refl, ◌∙◌, arith}
use Rattle.law_entries_writes.specs.Below.law_entries_reads.Below.law_words_borrows.Below.fr_base.declared.name.ObjNo.{ObjNo}
use Rattle.law_entries_writes.specs.Below.law_entries_reads.Below.law_words_borrows.Below.heap_partition.declared.value.Owned.TheVariants as owned
use Rattle.law_entries_writes.specs.Below.law_entries_reads.Below.law_words_borrows.Below.thread_state.declared.value.Value.{Value}
use Rattle.law_entries_writes.specs.Below.law_entries_reads.Below.law_words_borrows.Below.thread_state.declared.value.Value.TheVariants as value
use Rattle.law_entries_writes.specs.Below.law_entries_reads.Below.law_words_borrows.Below.server_model.Servers.{Cluster}
use Rattle.law_entries_writes.specs.Below.law_entries_reads.Below.law_words_borrows.Below.coherent_memory.Names.{Among, tot}
use Rattle.law_entries_writes.specs.Below.law_entries_reads.Below.law_words_borrows.Below.coherent_memory.Things.{in_cell, Thing, shares, sent, things_of}
use Rattle.law_entries_writes.specs.Below.law_entries_reads.Below.law_words_borrows.Below.coherent_memory.Follow.{value_in, leads}
use Rattle.law_entries_writes.specs.Below.law_entries_reads.Below.law_words_borrows.Below.coherent_memory.Sight.{Pointer, pointers_in, taken_pointers, sight}
use Rattle.law_entries_writes.specs.Below.law_entries_reads.Below.law_words_borrows.Below.coherent_memory.Weights.{cells, owners}
use Rattle.law_entries_writes.specs.Below.law_entries_reads.Below.law_words_borrows.Below.coherent_types.ClusterTypes.{IsCoherent}
use Rattle.law_entries_writes.proofs.Below.law_entries_reads.Below.law_words_borrows.Below.law_words_paths.paths.Origins.{among_first}
use Rattle.law_entries_writes.proofs.Below.law_entries_reads.Below.law_words_borrows.Below.law_words_paths.words.Standing.{pointers_among, told}
use Rattle.law_entries_writes.proofs.Below.law_entries_reads.Below.law_words_borrows.Below.law_words_kept.reads.Homes.{shared_among}
use Rattle.law_entries_writes.proofs.Below.law_entries_reads.Below.law_words_borrows.Below.law_words_values.made.Unnamed.{NonePoints, none_points}
use Rattle.law_entries_writes.proofs.Below.law_entries_variables.Below.law_heap_still.events.Told.{at_most}
use Rattle.law_entries_writes.proofs.Below.law_copies_kept.Below.law_words_values.freed.Lists.{NoneLeads}
use Rattle.law_entries_writes.proofs.Below.law_entries_variables.deliveries.Shown.{dropped_by}

same_cell : {q r : ObjNo} → Some (in_cell q) ≡ Some (in_cell r) → q ≡ r
same_cell e = cc

module _ (k : Cluster) (coherent : IsCoherent k) (o : ObjNo) (none : tot (cells o) (things_of k) ≡ 0) where
  unnamed : NonePoints k o
  unnamed = none_points k coherent o none

  no_owner : tot (owners o) (things_of k) ≡ 0
  no_owner = coherent.sound.one_owner.owner_of_each o ∙ none

  each_drop : (x : Thing) → dropped_by o x ≤ owners o x
  each_drop (sent r m) = omega arith
  each_drop _ = omega arith

  -- what is dropped has its message as its owner
  pub none_drops : tot (dropped_by o) (things_of k) ≡ 0
  none_drops = omega (arith, no_owner, at_most (dropped_by o) (owners o) each_drop (things_of k))

  pointed : (p : Pointer) → Among p (pointers_in (things_of k)) → p.object ≡ o → ⊥
  pointed p h e = unnamed p (among_first p (pointers_in (things_of k)) (taken_pointers (sight k).code (sight k).ground (sight k).ground.threads) h) e

  -- what leads somewhere is a pointer
  pub none_leads : NoneLeads k o
  none_leads t l e = by (value_in (sight k).ground l) refl e
    where
      by : (v : Option Value) → value_in (sight k).ground l ≡ v → leads t v ≡ Some (in_cell o) → ⊥
      by (Some (value.Own (owned.Box b))) s f = let p : Pointer = record { at = Some l; word = b.word; object = b.object } in pointed p (told k l (value.Own (owned.Box b)) p s (inl refl)) (same_cell f)
      by (Some (value.Mut r)) s f = let p : Pointer = record { at = Some l; word = r.word; object = r.object } in pointed p (told k l (value.Mut r) p s (inl refl)) (same_cell f)
      by (Some (value.Shared r)) s f = let p : Pointer = record { at = None; word = r.word; object = r.object } in pointed p (pointers_among p (shares l r) (things_of k) (shared_among k l r s) (inl refl)) (same_cell f)
      by (Some (value.Own owned.Nothing)) s f = cc f
      by (Some (value.Own owned.Unit)) s f = cc f
      by (Some (value.Own (owned.Int i))) s f = cc f
      by (Some (value.Own (owned.Mutex m))) s f = cc f
      by (Some (value.Own (owned.Task u))) s f = cc f
      by (Some value.Gone) s f = cc f
      by (Some (value.SharedSlot i)) s f = cc f
      by (Some (value.MutSlot i)) s f = cc f
      by (Some (value.Held m)) s f = cc f
      by None s f = cc f
