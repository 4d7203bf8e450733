-- A box in hand: its object goes, and what was in it comes to the hand.
use Rattle.std.proofs.Common.{◌≡◌, ◌≢◌, ℕ, true, false, if◌then◌else◌, List, length, Option, Some, None, option_map, refl, sym, ap, ◌∙◌, subst, arith}
use Rattle.law_words_writes.proofs.Below.law_results_reads.Below.fr_store.Keys.{object_cases}
use Rattle.law_words_writes.specs.Below.law_results_reads.Below.fr_base.declared.name.MutexNo.{MutexNo}
use Rattle.law_words_writes.specs.Below.law_results_reads.Below.fr_base.declared.name.ObjNo.{ObjNo}
use Rattle.law_words_writes.specs.Below.law_results_reads.Below.fr_plain.Heap.{Heap, made_by, cell_at}
use Rattle.law_words_writes.specs.Below.law_results_reads.Below.fr_plain.MachineThreads.{thread_at}
use Rattle.law_words_writes.specs.Below.law_results_reads.Below.fr_plain.PlainState.{is_over_in}
use Rattle.law_words_writes.specs.Below.law_results_reads.Below.fr_code.Machine.{CodeWhole}
use Rattle.law_words_writes.specs.Below.law_results_reads.Below.heap_partition.Plain.{plain_of}
use Rattle.law_words_writes.specs.Below.law_results_reads.Below.heap_partition.declared.value.BoxPtr.{BoxPtr}
use Rattle.law_words_writes.specs.Below.law_results_reads.Below.heap_partition.declared.value.Owned.{Owned}
use Rattle.law_words_writes.specs.Below.law_results_reads.Below.heap_partition.declared.value.Owned.TheVariants as owned
use Rattle.law_words_writes.specs.Below.law_results_reads.Below.thread_state.View.{ThreadState}
use Rattle.law_words_writes.specs.Below.law_results_reads.Below.server_model.Servers.{Cluster}
use Rattle.law_words_writes.specs.Below.law_results_reads.Below.coherent_memory.Names.{tot, one}
use Rattle.law_words_writes.specs.Below.law_results_reads.Below.coherent_memory.Things.{Thing}
use Rattle.law_words_writes.specs.Below.law_results_reads.Below.coherent_memory.OneHeap.{Node, object_n, mutex_n, task_n, owns, if_in, cell_value, first_shown, object_value, share_in}
use Rattle.law_heap_writes.proofs.drops.Under.{under}
use Rattle.law_heap_writes.proofs.drops.InHand as held
use Rattle.law_heap_writes.proofs.drops.HandState as shows
use Rattle.law_heap_writes.proofs.drops.Carrying as carrying
use Rattle.law_heap_writes.proofs.drops.Carrying.{Others, Shows, Carries}

pub box_only : (b : BoxPtr) (q : Node) → owns q (owned.Box b) ≡ true → q ≡ object_n b.object
box_only b (object_n x) = object_cases (λ c. c ≡ true → object_n x ≡ object_n b.object) b.object x (λ e _. ap (λ z. object_n z) (sym e)) (λ _ f. absurd (cc f))
box_only b (mutex_n m) = λ f. absurd (cc f)
box_only b (task_n u) = λ f. absurd (cc f)

module _ (k : Cluster) (n : ℕ) (y : ThreadState) (B : List Thing) (others : Others k n y B) (w : CodeWhole) (b : BoxPtr) (carried : Carries k n y B w (owned.Box b)) where
  abbrev o : ObjNo
  o = b.object

  abbrev v : Owned
  v = owned.Box b

  mine : owns (object_n o) v ≡ true
  mine = object_cases (λ c. c ≡ true) o o (λ _. refl) (λ ne. absurd (ne refl))

  alone : held.any_in k n y B (Some v) (object_n o) ≡ false
  alone = carried.alone (object_n o) refl mine

  -- the plain machine's object has what stands under it
  pub cell_is : cell_at w.heap o ≡ option_map plain_of (under (held.sight_with k n y B None) (object_n o) B)
  cell_is =
      carried.same.objects o ∙ ap (λ c. if_in c (first_shown (cell_value o) (held.things_with k n y B (Some v)))) (held.hand_in k n y B (Some v) (object_n o) (omega (arith, ap one mine)))
      ∙ shows.cells_same k n y B (Some v) None o ∙ carrying.first_is k n y B others (object_n o)

  module _ (c : Option Owned) (e : under (held.sight_with k n y B None) (object_n o) B ≡ c) where
    goes_in : (q : Node) → owns q v ≡ false → held.In k n y B (Some v) q ≡ held.In k n y B c q
    goes_in = held.goes_in k n y B v (object_n o) mine (box_only b) c (λ z. carrying.counted k n y B others (object_n o) z c e) alone

    gone : held.In k n y B c (object_n o) ≡ false
    gone = held.it_goes k n y B v (object_n o) mine (box_only b) c (λ z. carrying.counted k n y B others (object_n o) z c e) alone

    shares : (m : MutexNo) → tot (share_in (held.sight_with k n y B (Some v)) m) (held.things_with k n y B (Some v)) ≡ tot (share_in (held.sight_with k n y B c) m) (held.things_with k n y B c)
    shares m = let l = shows.share_goes k n y B m v (object_n o) mine (box_only b) c (λ z. carrying.counted k n y B others (object_n o) z c e) alone in omega (arith, l)

    other_one : (x : ObjNo) → o ≢ x → owns (object_n x) v ≡ false
    other_one x ne = object_cases (λ i. i ≡ false) o x (λ f. absurd (ne f)) (λ _. refl)

    none_then : None ≡ object_value (held.sight_with k n y B c) o
    none_then = sym (ap (λ i. if_in i (first_shown (cell_value o) (held.things_with k n y B c))) gone)

    -- without that object the heap shows what is left
    pub opened : (h : Heap) → cell_at h o ≡ None → ((x : ObjNo) → x ≢ o → cell_at h x ≡ cell_at w.heap x) → ((u : ℕ) → length (made_by h u) ≡ length (made_by w.heap u)) → Shows k n y B (record w { heap = h }) c
    opened h none same made = record {
      threads = λ u. carried.same.threads u ∙ shows.thread_same k n y B (Some v) c u (goes_in (task_n u) refl);
      made = λ u. ap (λ i. if is_over_in (thread_at w.threads u) then 0 else i) (made u) ∙ carried.same.made u ∙ shows.made_same k n y B (Some v) c u;
      pairs = λ u. carried.same.pairs u ∙ shows.pairs_same k n y B (Some v) c u;
      objects = λ x. object_cases (λ i. cell_at h x ≡ object_value (held.sight_with k n y B c) x) o x (λ f. subst (λ z. cell_at h z ≡ object_value (held.sight_with k n y B c) z) f (none ∙ none_then))
          (λ ne. same x (λ f. ne (sym f)) ∙ carried.same.objects x ∙ shows.object_same k n y B (Some v) c x (goes_in (object_n x) (other_one x ne)));
      mutexes = λ m. carried.same.mutexes m ∙ shows.mutex_same k n y B (Some v) c m (goes_in (mutex_n m) refl) (shares m);
      given = λ m. carried.same.given m ∙ shows.mutex_given k n y B (Some v) c m;
    }

  -- what was in it comes to the hand
  pub next_box : (c : Owned) → under (held.sight_with k n y B None) (object_n o) B ≡ Some c → (h : Heap) → cell_at h o ≡ None → ((x : ObjNo) → x ≢ o → cell_at h x ≡ cell_at w.heap x) → ((u : ℕ) → length (made_by h u) ≡ length (made_by w.heap u))
      → Carries k n y B (record w { heap = h }) c
  next_box c e h none same made = carrying.comes k n y B others v (object_n o) mine (box_only b) alone c e (record w { heap = h }) (opened (Some c) e h none same made)
