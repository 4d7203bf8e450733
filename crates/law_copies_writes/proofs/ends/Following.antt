-- The place of the holder of a reference that ends is followed: each object is what it was, or covered, all the way.
use Rattle.std.proofs.Common.{◌≡◌, ℕ, zero, suc, ◌<◌, ◌≤◌, true, false, is_some, Option, Some, None, refl, sym, ap, ◌∙◌, arith}
use Rattle.std.specs.Prelude.{slice_get}
use Rattle.law_copies_writes.specs.Below.fr_base.declared.name.ObjNo.{ObjNo}
use Rattle.law_copies_writes.specs.Below.fr_base.declared.instruction.Operand.{Operand}
use Rattle.law_copies_writes.specs.Below.fr_base.declared.instruction.Instr.{Instr}
use Rattle.law_copies_writes.specs.Below.fr_base.declared.instruction.Instr.TheVariants as instr
use Rattle.law_copies_writes.specs.Below.fr_code.CodeTypes.{Entry, Table, InstrTypes, i_par_end}
use Rattle.law_copies_writes.specs.Below.heap_partition.declared.value.BoxPtr.{BoxPtr}
use Rattle.law_copies_writes.specs.Below.heap_partition.declared.value.Cell.{Cell}
use Rattle.law_copies_writes.specs.Below.mut_borrow.declared.mutable.MutRef.{MutRef}
use Rattle.law_copies_writes.specs.Below.owner_box.View.{PartitionState}
use Rattle.law_copies_writes.specs.Below.thread_state.View.{ThreadState}
use Rattle.law_copies_writes.specs.Below.thread_state.declared.value.Value.TheVariants as value
use Rattle.law_copies_writes.specs.Below.server_model.declared.event.What.TheVariants.{Step}
use Rattle.law_copies_writes.specs.Below.server_model.Servers.{Rest, Server, Cluster, server_at}
use Rattle.law_copies_writes.specs.Below.server_model.Work.{Hand, thread_in}
use Rattle.law_copies_writes.specs.Below.server_model.Places.{Spot, in_slot}
use Rattle.law_copies_writes.specs.Below.server_model.Prepare.{Prepared, write_stars}
use Rattle.law_copies_writes.specs.Below.server_model.Events.{enabled}
use Rattle.law_copies_writes.specs.Below.coherent_memory.Things.{Location, at_slot, in_cell as in_object}
use Rattle.law_copies_writes.specs.Below.coherent_memory.Follow.{Standing}
use Rattle.law_copies_writes.specs.Below.coherent_memory.OneHeap.{two_in, pair_of}
use Rattle.law_copies_writes.specs.Below.coherent_memory.Paths.{written_place}
use Rattle.law_copies_writes.specs.Below.coherent_memory.Sight.{sight}
use Rattle.law_copies_writes.specs.Below.coherent_memory.Walking.{path}
use Rattle.law_copies_writes.specs.Below.coherent_types.ClusterTypes.{IsCoherent}
use Rattle.law_copies_writes.specs.Below.law_words_paths.paths.HeapStore.{HasPaths}
use Rattle.law_copies_writes.proofs.Below.law_words_paths.paths.Forms.{running_typed}
use Rattle.law_copies_writes.proofs.Below.law_words_paths.paths.Shown.{stands_there}
use Rattle.law_copies_writes.specs.Below.law_counts_sums.Laws.{FewEvents}
use Rattle.law_copies_writes.proofs.Below.law_results_reads.Known.{Steps, standing, paths, goes, types, entry, typed}
use Rattle.law_copies_writes.proofs.Below.law_results_reads.Readers.{to_entry}
use Rattle.law_copies_writes.proofs.Below.law_counts_waiting.waits.Written.{InChain, chain_of_holder}
use Rattle.law_words_ends.specs.variables.Ends.{EndsReference, drops, discards, assigns}
use Rattle.law_copies_writes.proofs.Below.law_results_events.writes.Holders.{C, at as place_at, short_holder, route, object_away, slot_away}
use Rattle.law_copies_writes.proofs.Below.law_results_events.writes.Route.{Route, begins, a_slot, rerouted}
use Rattle.law_copies_writes.proofs.Below.law_results_events.writes.StepRoutes.{roomy}
use Rattle.law_copies_writes.proofs.Below.law_words_asked.writes.Onward.{IsWritten}
use Rattle.law_copies_writes.proofs.Below.law_words_asked.writes.Walks.{BoxAt, in_a_slot, in_a_cell}
use Rattle.law_words_ends.proofs.stars.Cleaned.{steps, End, Cleaned}
use Rattle.law_words_ends.proofs.stars.HolderSoles.{written_there, words_there}
use Rattle.law_copies_writes.specs.Below.law_copies_kept.hidden.Hidden.{NoneUnder}
use Rattle.law_copies_writes.proofs.writes.Hops.{Now, HadCell}
use Rattle.law_copies_writes.proofs.writes.Walks.{AllFair, all_fair}
use Rattle.law_copies_writes.proofs.writes.Routes.{had_cell, passed_uncopied, reference_word, box_stands}

-- only at its end a pair is waited for
awake_by : (table : Table) (e e2 : Entry) (i : Instr) → InstrTypes table e i e2 → (i ≡ instr.ParEnd → ⊥) → e.forked ≡ false
awake_by table _ _ _ i_par_end ne = absurd (ne refl)
awake_by table _ _ _ _ ne = refl

none_paired : (o : Option (ℕ × ℕ)) → is_some o ≡ false → o ≡ None
none_paired None e = refl
none_paired (Some p) e = absurd (cc e)

-- what ends a reference ends no thread and no pair
no_end : (y : ThreadState) (r : MutRef) (i : Instr) → EndsReference y r i → (o : Operand) → i ≡ instr.End o → ⊥
no_end y r _ (drops e) o f = absurd (cc f)
no_end y r _ (discards e) o f = absurd (cc f)
no_end y r _ (assigns w q flat e) o f = absurd (cc f)

no_pair_end : (y : ThreadState) (r : MutRef) (i : Instr) → EndsReference y r i → i ≡ instr.ParEnd → ⊥
no_pair_end y r _ (drops e) f = absurd (cc f)
no_pair_end y r _ (discards e) f = absurd (cc f)
no_pair_end y r _ (assigns w q flat e) f = absurd (cc f)

module _ (k : Cluster) (coherent : IsCoherent k) (few : FewEvents k) (s : Server) (here_it : server_at k.servers s.rest.number ≡ Some s) (t : ℕ) (y : ThreadState) (at : thread_in s.threads t ≡ Some y) (on : enabled k.options s (Step t) ≡ true) (i : Instr) (code : slice_get k.code y.pc ≡ Some i)
    (r : MutRef) (sp : Spot) (other : MutRef → ThreadState) (e : End k coherent few s here_it t y at on i code r sp other) where
  abbrev n : ℕ
  n = s.rest.number

  abbrev z : Steps k n t s y i
  z = steps k coherent few s here_it t y at on i code

  abbrev x : Standing
  x = standing k n t s y i z

  abbrev c : HasPaths k
  c = paths k n t s y i z

  abbrev tn : ℕ
  tn = y.number

  abbrev depth : ℕ
  depth = r.holder.depth

  abbrev pub leads : ℕ → Option Location
  leads = place_at k n t s y i z r e.is e.it

  abbrev pub Cells : ObjNo → Option Cell
  Cells = C k n t s y i z r e.is e.it

  pairless : two_in y.phase ≡ None
  pairless =
      let at_it = typed k n t s y i z in
      let to = to_entry (types k n t s y i z).table y.pc (entry k n t s y i z) i at_it.0 at_it.1 (no_end y r i e.ends_it) in
      let off : (entry k n t s y i z).forked ≡ false = awake_by (types k n t s y i z).table (entry k n t s y i z) to.0 i to.1 (no_pair_end y r i e.ends_it) in
      none_paired (two_in y.phase) (sym (ap (λ o. is_some (pair_of o)) (stands_there k c x (goes k n t s y i z))) ∙ sym (running_typed k c x (goes k n t s y i z)).forks ∙ off)

  writes : written_place (path (sight k) x) ≡ Some r.holder
  writes = ap written_place e.is

  leads_there : (j : ℕ) → j ≤ depth → (l : Location) × (leads j ≡ Some l)
  leads_there = (route k n t s y i z r e.is e.it).leads_there

  no_object : (o : ObjNo) → Some (at_slot tn r.holder.slot) ≡ Some (in_object o) → ⊥
  no_object o f = absurd (cc f)

  chains : (j : ℕ) (o : ObjNo) → j ≤ depth → leads j ≡ Some (in_object o) → InChain k c tn (in_object o)
  chains zero o le located = absurd (no_object o located)
  chains (suc j) o le located = chain_of_holder k c x (goes k n t s y i z) r e.is j (in_object o) (omega (arith, le)) located

  pub written : (j : ℕ) → j < depth → (l : Location) (o : ObjNo) → leads j ≡ Some l → leads (suc j) ≡ Some (in_object o) → IsWritten k l o
  written j lt l o located next = written_there k n t s y i z r e.ends_it e.is e.it e.untaken j lt l o located next

  -- what a cell on the way was
  pub had : (j : ℕ) → j ≤ depth → (o : ObjNo) → leads j ≡ Some (in_object o) → HadCell k coherent s here_it t y at o
  had j le o located = had_cell k n t s y i z pairless r.holder depth (omega arith) writes leads_there chains written here_it at j le o located

  -- THE WAY

  module _ (h1 : Hand) (cl : Cleaned k coherent few s here_it t y at on i code r sp other e h1) where
    abbrev q : PartitionState
    q = h1.work.rest.partition

    abbrev pub r1 : Rest
    r1 = record s.rest { partition = q }

    abbrev pub y1 : ThreadState
    y1 = record y { slots = h1.thread.slots; temps = h1.thread.temps }

    -- a slot on the way isn't the reference's
    on_way : (m j : ℕ) → j ≤ depth → leads j ≡ Some (at_slot tn m) → e.it.at ≡ at_slot tn m → ⊥
    on_way m j le located here = slot_away k n t s y i z r e.is e.it m j here le located

    pub way : Route r1 y1 Cells leads depth
    way =
        rerouted s.rest y Cells leads depth (route k n t s y i z r e.is e.it) r1 refl h1.thread.slots h1.thread.temps (λ m j lt located. cl.slots m (on_way m j (omega (arith, lt)) located))
        (λ j v b le located lead. cl.cells v b lead (λ f. object_away k n t s y i z r e.is e.it j le (located ∙ ap (λ o. Some (in_object o)) f))) (λ less. cl.sane)
        (let a = cl.long in let b = roomy k n t s y i z in let d = short_holder k n t s y i z r e.is e.it in omega (arith, a, b, d))

    box_was : (j : ℕ) → j < depth → (l : Location) (p : BoxPtr) → leads j ≡ Some l → BoxAt y1 Cells l p → BoxAt y Cells l p
    box_was j lt l p located (in_a_slot m from f) = in_a_slot m from (sym (cl.slots m (on_way m j (omega (arith, lt)) (located ∙ ap Some from))) ∙ f)
    box_was j lt l p located (in_a_cell o b from has boxed) = in_a_cell o b from has boxed

    pub words_are : (j : ℕ) → j < depth → (l : Location) (p : BoxPtr) → leads j ≡ Some l → leads (suc j) ≡ Some (in_object p.object) → BoxAt y1 Cells l p → p.word ≡ coherent.sound.words.have_words.word p.object
    words_are j lt l p located next box = words_there k n t s y i z r e.ends_it e.is e.it e.untaken j lt l p located next (box_was j lt l p located box)

    pub refs_are : (j : ℕ) → j < depth → (m : ℕ) (a : MutRef) → leads j ≡ Some (at_slot y1.number m) → leads (suc j) ≡ Some (in_object a.object) → slice_get y1.slots m ≡ Some (value.Mut a) → a.word ≡ coherent.sound.words.have_words.word a.object
    refs_are j lt m a located next stood =
        reference_word k n t s y i z pairless r.holder depth (omega arith) writes leads_there chains written j lt m a located next (sym (cl.slots m (on_way m j (omega (arith, lt)) located)) ∙ stood)

    pub none_under : (j : ℕ) → j < depth → j < y1.passed → (l : Location) (p : BoxPtr) → leads j ≡ Some l → leads (suc j) ≡ Some (in_object p.object) → BoxAt y1 Cells l p → NoneUnder k p.word
    none_under j lt passed l p located next box =
        passed_uncopied k n t s y i z pairless r.holder depth (omega arith) writes leads_there chains written j lt passed l p located next
        (box_stands k n t s y i z pairless r.holder depth (omega arith) writes leads_there chains written Cells refl l p (box_was j lt l p located box))

    abbrev pub AllOf : Prepared → Type 0
    AllOf = AllFair k coherent s here_it t y at r1 y1 Cells leads depth way written words_are refs_are had none_under

    pub all_followed : Now k coherent s here_it t y at h1 → AllOf (write_stars depth 0 h1 (in_slot r.holder.slot))
    all_followed now =
        all_fair k coherent s here_it t y at r1 y1 Cells leads depth way written words_are refs_are had none_under depth 0 (omega arith) h1 (in_slot r.holder.slot) (at_slot tn r.holder.slot) refl (a_slot r.holder.slot) (begins r1 y1 Cells leads h1 cl.rest cl.thread)
        (record { state = cl.state; later = cl.later; through = tt }) (record { now = now; covered = tt })
