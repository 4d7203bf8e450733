-- What a thread passes on its way to write: of its objects no copy is asked for, and of those that an earlier event passed none is there.
use Rattle.std.proofs.Common.{◌≡◌, inr, ℕ, zero, suc, ◌<◌, ◌≤◌, Option, Some, None, refl, sym, ap, subst, ◌∙◌, arith}
use Rattle.std.specs.Prelude.{slice_get}
use Rattle.law_counts_waiting.specs.Below.fr_base.declared.name.ObjNo.{ObjNo}
use Rattle.law_counts_waiting.specs.Below.fr_base.declared.place.Lval.{Lval}
use Rattle.law_counts_waiting.specs.Below.fr_base.declared.instruction.Instr.{Instr}
use Rattle.law_counts_waiting.specs.Below.heap_partition.declared.value.BoxPtr.{BoxPtr}
use Rattle.law_counts_waiting.specs.Below.heap_partition.declared.value.Cell.{Cell}
use Rattle.law_counts_waiting.specs.Below.heap_partition.declared.value.Owned.TheVariants as owned
use Rattle.law_counts_waiting.specs.Below.mut_borrow.declared.mutable.MutRef.{MutRef}
use Rattle.law_counts_waiting.specs.Below.thread_state.View.{ThreadState}
use Rattle.law_counts_waiting.specs.Below.thread_state.declared.phase.Phase.{Phase}
use Rattle.law_counts_waiting.specs.Below.thread_state.declared.phase.Phase.TheVariants as phase
use Rattle.law_counts_waiting.specs.Below.thread_state.declared.value.Value.{Value}
use Rattle.law_counts_waiting.specs.Below.thread_state.declared.value.Value.TheVariants as value
use Rattle.law_counts_waiting.specs.Below.server_model.Servers.{Server, Cluster, server_at}
use Rattle.law_counts_waiting.specs.Below.server_model.Work.{thread_in}
use Rattle.law_counts_waiting.specs.Below.coherent_memory.Names.{tot, Among}
use Rattle.law_counts_waiting.specs.Below.coherent_memory.Things.{Location, at_slot, in_cell, lies, things_of}
use Rattle.law_counts_waiting.specs.Below.coherent_memory.Follow.{Standing, cell_of, cells_in, slot_of, value_in, value_of, locate}
use Rattle.law_counts_waiting.specs.Below.coherent_memory.OneHeap.{two_in}
use Rattle.law_counts_waiting.specs.Below.coherent_memory.Paths.{written_place}
use Rattle.law_counts_waiting.specs.Below.coherent_memory.Passing.{MayPass, over_box, over_reference, to_slot, to_lent_slot, IsPassed}
use Rattle.law_counts_waiting.specs.Below.coherent_memory.Sight.{sight}
use Rattle.law_counts_waiting.specs.Below.coherent_memory.Walking.{path}
use Rattle.law_counts_waiting.specs.Below.coherent_memory.Weights.{copies}
use Rattle.law_counts_waiting.specs.Below.coherent_memory.Words.{HasWords}
use Rattle.law_counts_waiting.proofs.Below.coherent_memory.Passing.{paths_law}
use Rattle.law_counts_waiting.specs.Below.law_words_paths.paths.HeapStore.{GoesOn, HasPaths}
use Rattle.law_counts_waiting.proofs.Below.law_words_paths.paths.Shown.{stands_there}
use Rattle.law_counts_waiting.proofs.Below.law_words_paths.paths.Sole.{some_is}
use Rattle.law_words_ends.proofs.Below.law_words_paths.words.Standing.{lying}
use Rattle.law_words_ends.proofs.Below.law_words_kept.reads.Homes.{fresh_word}
use Rattle.law_counts_waiting.proofs.Below.law_results_reads.Known.{Steps, standing, paths, goes}
use Rattle.law_counts_waiting.proofs.Below.law_results_reads.Made.{OwnedBy}
use Rattle.law_counts_waiting.proofs.waits.Written.{InChain}
use Rattle.law_words_ends.proofs.Below.law_results_events.writes.StepRoutes.{awake}
use Rattle.law_words_ends.proofs.Below.law_words_asked.writes.Onward.{IsWritten}
use Rattle.law_words_ends.proofs.Below.law_words_asked.writes.Walks.{BoxAt, in_a_slot, in_a_cell}
use Rattle.law_copies_kept.proofs.copies.Clean.{thing_cell}
use Rattle.law_copies_kept.proofs.objects.Turned.{Unasked}
use Rattle.law_copies_kept.proofs.objects.Askers.{ReadsUnder, unasked_by, reads_as_owner}
use Rattle.law_copies_kept.specs.hidden.Hidden.{NoneUnder}
use Rattle.law_copies_kept.proofs.hidden.Under.{none_under}
use Rattle.law_copies_writes.proofs.writes.Hops.{HadCell}

no_pair : (p : Phase) → two_in p ≡ None → (d f : ℕ) → p ≡ phase.WaitPar d f → ⊥
no_pair p e d f q = let no : two_in (phase.WaitPar d f) ≡ None = subst (λ x. two_in x ≡ None) q e in absurd cc

no_got_pair : (p : Phase) → two_in p ≡ None → (d f : ℕ) → p ≡ phase.GotPar d f → ⊥
no_got_pair p e d f q = let no : two_in (phase.GotPar d f) ≡ None = subst (λ x. two_in x ≡ None) q e in absurd cc

module _ (k : Cluster) (n t : ℕ) (s : Server) (y : ThreadState) (i : Instr) (z : Steps k n t s y i) (pairless : two_in y.phase ≡ None) where
  abbrev x : Standing
  x = standing k n t s y i z

  abbrev c : HasPaths k
  c = paths k n t s y i z

  abbrev on : GoesOn k x
  on = goes k n t s y i z

  abbrev words : HasWords (sight k)
  words = (z.coherent).sound.words.have_words

  -- of an object in a chain of the thread's own slots no copy is asked for
  pub own_unasked : (o : ObjNo) → InChain k c y.number (in_cell o) → (b : Cell) → b.object ≡ o → Among b (cells_in (things_of k)) → Unasked k (words.word o)
  own_unasked o chain b e m =
      subst (λ p. Unasked k (words.word p)) e
      (unasked_by k c (z.coherent).sound b m (λ (r : ReadsUnder k c (z.coherent).sound (words.word b.object) b.object).
      let own : OwnedBy k c y.number b.object = subst (λ p. OwnedBy k c y.number p) (sym e) (record { slot = chain.slot; boxes = chain.boxes; leads = chain.leads_there }) in
      let same : r.thread ≡ x = reads_as_owner k c (z.coherent).sound (words.word b.object) b.object r x on (no_pair y.phase pairless) (no_got_pair y.phase pairless) own in
      awake k n t s y i z (words.word b.object) (ap (λ (q : Standing). q.thread.phase) (sym same) ∙ r.waits_there)))

  module _ (w : Lval) (d : ℕ) (le : d ≤ w.depth) (writes : written_place (path (sight k) x) ≡ Some w)
      (leads_there : (j : ℕ) → j ≤ d → (l : Location) × (locate (sight k).ground y.number w.slot j ≡ Some l))
      (chain : (j : ℕ) (o : ObjNo) → j ≤ d → locate (sight k).ground y.number w.slot j ≡ Some (in_cell o) → InChain k c y.number (in_cell o))
      (written : (j : ℕ) → j < d → (l : Location) (o : ObjNo) → locate (sight k).ground y.number w.slot j ≡ Some l → locate (sight k).ground y.number w.slot (suc j) ≡ Some (in_cell o) → IsWritten k l o) where
    abbrev place : ℕ → Option Location
    place = locate (sight k).ground y.number w.slot

    no_object : (o : ObjNo) → Some (at_slot y.number w.slot) ≡ Some (in_cell o) → ⊥
    no_object o e = absurd (cc e)

    its_cell : (j : ℕ) → j ≤ d → (o : ObjNo) → place j ≡ Some (in_cell o) → (b : Cell) × (b.object ≡ o) × Among b (cells_in (things_of k))
    its_cell zero l o e = absurd (no_object o e)
    its_cell (suc j) l o e =
        let m = leads_there j (omega (arith, l)) in
        let u = written j (omega (arith, l)) m.0 o m.1 e in
        let a = u.lies in
        (a.there.cell, a.there.object, thing_cell (things_of k) a.there.cell (lies a.server a.address a.there.cell) (lying a.server a.address) a.there.among)

    -- each object on the way had a cell, of which none was asked for
    pub had_cell : (here : server_at k.servers s.rest.number ≡ Some s) (at : thread_in s.threads t ≡ Some y) (j : ℕ) → j ≤ d → (o : ObjNo) → place j ≡ Some (in_cell o) → HadCell k z.coherent s here t y at o
    had_cell here at j l o e =
        let b = its_cell j l o e in
        record { cell = b.0; object = b.1; among = b.2; unasked = λ a f m. inr (own_unasked o (chain j o l e) a f m) }

    -- and under the word of a box that was passed there is none
    pub passed_uncopied : (j : ℕ) → j < d → j < y.passed → (l : Location) (p : BoxPtr) → place j ≡ Some l → place (suc j) ≡ Some (in_cell p.object) → value_in (sight k).ground l ≡ Some (value.Own (owned.Box p)) → NoneUnder k p.word
    passed_uncopied j lt passed l p located next stood =
        let q : IsPassed (sight k) x w j = (z.coherent).sound.walks.have_passed x w j on.among writes passed in
        let same : q.location ≡ l = some_is (sym (paths_law.locates (sight k).ground y.number w.slot j q.location (q.hop).path) ∙ located) in
        let is : q.value ≡ value.Own (owned.Box p) = some_is (sym (q.hop).stands ∙ ap (value_in (sight k).ground) same ∙ stood) in
        let none : tot (copies p.word) (things_of k) ≡ 0 = by q.location q.value is q.passes in
        let u = written j lt l p.object located next in
        let b = its_cell (suc j) (omega (arith, lt)) p.object next in
        let word : p.word ≡ words.word p.object = fresh_word k words l (value.Own (owned.Box p)) p stood refl u.fresh in
        none_under k p.word none (subst (Unasked k) (sym word) (own_unasked p.object (chain (suc j) p.object (omega (arith, lt)) next) b.0 b.1 b.2))
      where
        by : (m : Location) (v : Value) → v ≡ value.Own (owned.Box p) → MayPass (sight k) s.rest.number m v → tot (copies p.word) (things_of k) ≡ 0
        by m _ e (over_box b lying_there none fresh) = let same : b ≡ p = cc in subst (λ (a : BoxPtr). tot (copies a.word) (things_of k) ≡ 0) same none
        by m _ e (over_reference b lying_there fresh) = absurd cc
        by m _ e (to_slot b) = absurd cc
        by m _ e (to_lent_slot b) = absurd cc

    -- a reference on the way has its object's word
    pub reference_word : (j : ℕ) → j < d → (m : ℕ) (q : MutRef) → place j ≡ Some (at_slot y.number m) → place (suc j) ≡ Some (in_cell q.object) → slice_get y.slots m ≡ Some (value.Mut q) → q.word ≡ words.word q.object
    reference_word j lt m q located next stood =
        fresh_word k words (at_slot y.number m) (value.Mut q) (record { word = q.word; object = q.object }) (ap (λ o. slot_of o m) (stands_there k c x on) ∙ stood) refl ((written j lt (at_slot y.number m) q.object located next).fresh)

    -- a box that stands there
    pub box_stands : (C : ObjNo → Option Cell) → C ≡ cell_of (sight k).ground.cells → (l : Location) (p : BoxPtr) → BoxAt y C l p → value_in (sight k).ground l ≡ Some (value.Own (owned.Box p))
    box_stands C same l p (in_a_slot m from e) = ap (value_in (sight k).ground) from ∙ ap (λ o. slot_of o m) (stands_there k c x on) ∙ e
    box_stands C same l p (in_a_cell o b from has boxed) =
        ap (value_in (sight k).ground) from ∙ ap value_of (ap (λ (f : ObjNo → Option Cell). f o) (sym same) ∙ has) ∙ ap (λ v. Some (value.Own v)) boxed
