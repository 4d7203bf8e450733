-- The pointer from which a borrow is made: it isn't stale, and its object lies where its word leads.
use Rattle.std.proofs.Common.{◌≡◌, ℕ, suc, Some, sym, ap, subst, ◌∙◌, arith}
use Rattle.law_heap_steps.specs.Below.fr_base.declared.place.Lval.{Lval}
use Rattle.law_heap_steps.specs.Below.fr_base.declared.instruction.Instr.{Instr}
use Rattle.law_heap_steps.specs.Below.heap_partition.declared.value.BoxPtr.{BoxPtr}
use Rattle.law_heap_steps.specs.Below.thread_state.declared.phase.Phase.TheVariants as phase
use Rattle.law_heap_steps.specs.Below.thread_state.declared.value.Value.{Value}
use Rattle.law_heap_steps.specs.Below.server_model.Servers.{Cluster}
use Rattle.law_heap_steps.specs.Below.server_model.Places.{pointer_of}
use Rattle.law_heap_steps.specs.Below.coherent_memory.Things.{Location, in_cell}
use Rattle.law_heap_steps.specs.Below.coherent_memory.Follow.{Standing, value_in, value_behind, leads, locate}
use Rattle.law_heap_steps.specs.Below.coherent_memory.Walking.{instr_of}
use Rattle.law_heap_steps.specs.Below.coherent_memory.Sight.{sight}
use Rattle.law_heap_steps.specs.Below.coherent_memory.Words.{IsStale}
use Rattle.law_words_values.specs.Below.coherent_types.ClusterTypes.{IsCoherent}
use Rattle.law_words_values.specs.Below.law_words_paths.paths.HeapStore.{GoesOn, HasPaths}
use Rattle.law_words_values.proofs.Below.law_words_paths.paths.Alike.{coherent_has_paths}
use Rattle.law_words_values.proofs.Below.law_words_paths.paths.FreshPaths.{HasTaken}
use Rattle.law_heap_steps.specs.Below.law_words_kept.reads.Reading.{Reads, LiesUnder}
use Rattle.law_heap_steps.proofs.Below.law_words_kept.reads.FreshReads.{reading_of, fresh_if}
use Rattle.law_heap_steps.proofs.Below.law_words_kept.reads.Flights.{answers_told}
use Rattle.law_heap_steps.proofs.Below.law_words_kept.reads.Homes.{pointer_leads, fresh_word}
use Rattle.law_words_values.proofs.Below.law_words_kept.ends.Lying.{lies_read}

module _ (k : Cluster) (coherent : IsCoherent k) (x : Standing) (g : GoesOn k x) (i : Instr) (w : Lval) (m : ℕ) (reads : Reads i w m) (deep : w.depth ≡ suc m) (at : instr_of (sight k) x ≡ Some i)
    (none : (l : Location) → HasTaken k (coherent_has_paths k coherent) x l → ⊥) where
  abbrev c : HasPaths k
  c = coherent_has_paths k coherent

  -- it isn't stale, as the thread reads above it
  pub fresh_last : (l : Location) → locate (sight k).ground x.thread.number w.slot m ≡ Some l → IsStale (sight k) (Some l) → ⊥
  fresh_last l there = fresh_if k c x l (reading_of k c x i w m m l g at reads 1 (omega (arith, deep)) there) (λ z h s. none l (subst (λ (q : Standing). HasTaken k c q l) s h))

  -- one star more
  next : (l : Location) (v : Value) (b : BoxPtr) → locate (sight k).ground x.thread.number w.slot m ≡ Some l → value_in (sight k).ground l ≡ Some v → pointer_of v ≡ Some b → locate (sight k).ground x.thread.number w.slot (suc m) ≡ Some (in_cell b.object)
  next l v b there stands points = ap (λ o. leads x.thread.number (value_behind (sight k).ground o)) there ∙ ap (leads x.thread.number) stands ∙ pointer_leads x.thread.number v b points

  -- so its object lies where its word leads
  pub under_last : ((u : ℕ) → x.thread.phase ≡ phase.WaitCell u → ⊥) → (l : Location) (v : Value) (b : BoxPtr) → locate (sight k).ground x.thread.number w.slot m ≡ Some l → value_in (sight k).ground l ≡ Some v → pointer_of v ≡ Some b → LiesUnder k b
  under_last awake l v b there stands points =
      lies_read k c coherent.sound.words.have_words (answers_told k coherent.sound) x g (λ u o a s. awake u (ap (λ (z : Standing). z.thread.phase) (sym s) ∙ a.waits)) b
      (reading_of k c x i w m (suc m) (in_cell b.object) g at reads 0 (omega (arith, deep)) (next l v b there stands points))
      (fresh_word k coherent.sound.words.have_words l v b stands points (fresh_last l there))
