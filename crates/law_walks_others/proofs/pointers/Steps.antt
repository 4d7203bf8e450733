-- The step of a thread leaves each cell, words included, but for those of objects in chains of its own slots that nobody else reads.
use Rattle.std.proofs.Common.{◌≡◌, ◌⊎◌, inl, inr, ℕ, ◌≤◌, false, Option, Some, None, is_some, refl, sym, ap, subst, ◌∙◌, arith}
use Rattle.std.specs.Bool.{⊤}
use Rattle.law_words_values.specs.Below.fr_base.declared.name.ObjNo.{ObjNo}
use Rattle.law_words_values.specs.Below.fr_base.declared.place.Lval.{Lval}
use Rattle.law_words_values.specs.Below.fr_base.declared.instruction.Operand.{Operand}
use Rattle.law_words_values.specs.Below.fr_base.declared.instruction.Instr.{Instr}
use Rattle.law_words_values.specs.Below.fr_base.declared.instruction.Instr.TheVariants as instr
use Rattle.law_words_values.specs.Below.fr_code.CodeTypes.{Entry, Table, InstrTypes, i_par_end}
use Rattle.law_words_values.specs.Below.heap_partition.declared.value.Cell.{Cell}
use Rattle.law_words_values.specs.Below.heap_partition.declared.value.Owned.{Owned}
use Rattle.law_words_values.specs.Below.owner_box.View.{PartitionState}
use Rattle.law_words_values.specs.Below.thread_state.View.{ThreadState}
use Rattle.law_words_values.specs.Below.server_model.Servers.{Server, Cluster, Rest}
use Rattle.law_words_values.specs.Below.server_model.Work.{Hand}
use Rattle.law_words_values.specs.Below.server_model.Places.{Spot, in_slot}
use Rattle.law_words_values.specs.Below.server_model.Prepare.{ready, write_stars}
use Rattle.law_words_values.specs.Below.server_model.Events.{begin_work}
use Rattle.law_words_values.specs.Below.coherent_memory.Things.{Location, at_slot, in_cell}
use Rattle.law_words_values.specs.Below.coherent_memory.Follow.{Standing}
use Rattle.law_words_values.specs.Below.coherent_memory.OneHeap.{two_in, pair_of}
use Rattle.law_words_values.specs.Below.law_words_paths.paths.HeapStore.{GoesOn, HasPaths}
use Rattle.law_words_values.proofs.Below.law_words_paths.paths.Forms.{running_typed}
use Rattle.law_words_values.proofs.Below.law_words_paths.paths.Shown.{stands_there}
use Rattle.law_counts_waiting.proofs.Below.law_words_kept.reads.FreshReads.{chain_apart}
use Rattle.law_words_values.proofs.Below.law_results_reads.Known.{Steps, standing, paths, goes, types, entry, typed}
use Rattle.law_words_values.proofs.Below.law_results_reads.Readers.{to_entry}
use Rattle.law_counts_waiting.proofs.Below.law_results_events.writes.Memory.{looks}
use Rattle.law_counts_waiting.proofs.Below.law_results_events.writes.Route.{Route, At, a_slot, a_cell, Fine, begins, all_hops}
use Rattle.law_counts_waiting.specs.Below.law_words_asked.writes.Writing.{WritesThrough, assigns, moves}
use Rattle.law_counts_waiting.proofs.Below.law_words_asked.writes.Ways.{may, cell_there, place, route}
use Rattle.law_counts_waiting.proofs.waits.Written.{InChain, chain_of, Written}
use Rattle.law_walks_others.proofs.pointers.Cells.{Seeing}
use Rattle.law_walks_others.proofs.pointers.Ready.{Blind}

pub same_cell : {a b : Cell} → Some a ≡ Some b → a ≡ b
same_cell e = cc

ready_is : {h h2 : Hand} {s s2 : Spot} → ready h s ≡ ready h2 s2 → s ≡ s2
ready_is e = cc

-- only at its end a pair is waited for
awake : (table : Table) (e e2 : Entry) (i : Instr) → InstrTypes table e i e2 → (i ≡ instr.ParEnd → ⊥) → e.forked ≡ false
awake table _ _ _ i_par_end ne = absurd (ne refl)
awake table _ _ _ _ ne = refl

none_paired : (o : Option (ℕ × ℕ)) → is_some o ≡ false → o ≡ None
none_paired None e = refl
none_paired (Some p) e = absurd (cc e)

-- an instruction that goes on, and ends no pair
pub record IsPlain (i : Instr) : Type 0 where
  pub ends_none : (o : Operand) → i ≡ instr.End o → ⊥
  pub pairs_none : i ≡ instr.ParEnd → ⊥

-- a place that is followed for writing, up to some of its stars
pub less_far : (r : Rest) (y : ThreadState) (C : ObjNo → Option Cell) (at : ℕ → Option Location) (d e : ℕ) → e ≤ d → Route r y C at d → Route r y C at e
less_far r y C at d e le route = record {
  leads_there = λ i l. route.leads_there i (omega (arith, l, le));
  hop = λ i lt. route.hop i (omega (arith, lt, le));
  apart = λ i j lt l. route.apart i j lt (omega (arith, l, le));
  sane = λ lt. route.sane (omega (arith, lt, le));
  room = (let a = route.room in omega (arith, a, le));
}

module _ (k : Cluster) (n t : ℕ) (s : Server) (y : ThreadState) (i : Instr) (z : Steps k n t s y i) where
  abbrev c : HasPaths k
  c = paths k n t s y i z

  abbrev x : Standing
  x = standing k n t s y i z

  abbrev on : GoesOn k x
  on = goes k n t s y i z

  abbrev h0 : Hand
  h0 = record { work = begin_work s.rest; thread = y }

  pairless : IsPlain i → two_in y.phase ≡ None
  pairless plain =
      let at_it = typed k n t s y i z in
      let to = to_entry (types k n t s y i z).table y.pc (entry k n t s y i z) i at_it.0 at_it.1 plain.ends_none in
      let off : (entry k n t s y i z).forked ≡ false = awake (types k n t s y i z).table (entry k n t s y i z) to.0 i to.1 plain.pairs_none in
      none_paired (two_in y.phase) (sym (ap (λ o. is_some (pair_of o)) (stands_there k c x on)) ∙ sym (running_typed k c x on).forks ∙ off)

  -- what is in a chain of its slots nobody else reads
  pub written_in : IsPlain i → (o : ObjNo) → InChain k c y.number (in_cell o) → Written k c y.number o
  written_in plain o its = record { chain = its; unread = λ b reads. chain_apart k c x on (pairless plain) b (in_cell o) reads its.slot its.boxes its.leads_there }

  module _ (see : Seeing) (own : (o : ObjNo) → Written k c y.number o → (r : Option ℕ) (v : Owned) → see.cells r o v ≡ 0) where
    -- nothing is seen of what stands where a place leads that is in such chains
    pub at_end : (r : Rest) (b : ThreadState) (C : ObjNo → Option Cell) (at : ℕ → Option Location) (d : ℕ) → ((o : ObjNo) → at d ≡ Some (in_cell o) → Written k c y.number o) → (p : PartitionState) (sp : Spot) (l : Location) → at d ≡ Some l → At r b C at p d sp l → Blind see sp p
    at_end r b C at d writes p _ _ ends (a_slot m) = tt
    at_end r b C at d writes p _ _ ends (a_cell u q o e leads there object behind) = λ c2 found b2 a.
        let same : c2 ≡ e = same_cell (sym found ∙ looks p u e leads) in
        subst (λ w. see.cells b2 w a ≡ 0) (sym (ap (λ (w : Cell). w.object) same ∙ object)) (own o (writes o ends) b2 a)

    -- WHERE IT WRITES THROUGH STARS

    module _ (v : Lval) (d : ℕ) (through : WritesThrough i v d) where
      plain : IsPlain i
      plain = record { ends_none = λ o e. by i through (inl (o, e)); pairs_none = λ e. by i through (inr e) }
        where
          by : (j : Instr) → WritesThrough j v d → ((o : Operand) × (j ≡ instr.End o)) ⊎ (j ≡ instr.ParEnd) → ⊥
          by _ (assigns o e) (inl f) = let g = f.1 in absurd (cc g)
          by _ (assigns o e) (inr f) = absurd (cc f)
          by _ (moves e) (inl f) = let g = f.1 in absurd (cc g)
          by _ (moves e) (inr f) = absurd (cc f)

      abbrev C : ObjNo → Option Cell
      C = cell_there k n t s y i z v d through

      abbrev at : ℕ → Option Location
      at = place k n t s y i z v d through

      pub through_blind : (j : ℕ) → j ≤ v.depth → (h : Hand) (sp : Spot) → write_stars j 0 h0 (in_slot v.slot) ≡ ready h sp → Blind see sp h.work.rest.partition
      through_blind j le h sp e =
          let way = less_far s.rest y C at v.depth j le (route k n t s y i z v d through) in
          let f = subst (Fine s.rest y C at ⊤ j) e (all_hops s.rest y C at ⊤ j way (λ a less more. tt) j 0 (omega arith) h0 (in_slot v.slot) (at_slot y.number v.slot) refl (a_slot v.slot) (begins s.rest y C at h0 refl refl)) in
          at_end s.rest y C at j (λ o located. written_in plain o (chain_of k c x on v j (in_cell o) (may k n t s y i z v d through) le located)) h.work.rest.partition sp f.0 f.1 f.2
