-- A step that is done leaves no less to a weight that sees threads and cells alone, and nothing of its thread and of the cell that it writes through stars.
use Rattle.std.proofs.Common.{◌≡◌, ℕ, zero, suc, ◌≤◌, true, false, Option, Some, None, refl, sym, ap, subst, ◌∙◌, arith}
use Rattle.std.specs.Bool.{⊤}
use Rattle.law_counts_asking.specs.Below.fr_base.declared.label.Plain.{Plain}
use Rattle.law_counts_asking.specs.Below.fr_base.declared.name.ObjNo.{ObjNo}
use Rattle.law_counts_asking.specs.Below.fr_base.declared.place.Lval.{Lval}
use Rattle.law_counts_asking.specs.Below.fr_base.declared.instruction.Instr.{Instr}
use Rattle.law_counts_asking.specs.Below.fr_base.declared.instruction.Instr.TheVariants as instr
use Rattle.law_counts_asking.specs.Below.heap_partition.declared.value.Cell.{Cell}
use Rattle.law_counts_asking.specs.Below.owner_box.View.{PartitionState}
use Rattle.law_counts_asking.specs.Below.thread_state.View.{ThreadState}
use Rattle.law_counts_asking.specs.Below.server_model.Servers.{Server, Cluster}
use Rattle.law_counts_asking.specs.Below.server_model.Work.{Hand, look}
use Rattle.law_counts_asking.specs.Below.server_model.Places.{Spot, in_slot, in_cell as in_spot}
use Rattle.law_counts_asking.specs.Below.server_model.Prepare.{Prepared, ready, requested, nothing, assigned, read_or_taken, access_of, prepare, read_stars, write_stars}
use Rattle.law_counts_asking.specs.Below.server_model.Events.{begin_work, prepared, step}
use Rattle.law_counts_asking.specs.Below.coherent_memory.Things.{Location, at_slot, in_cell}
use Rattle.law_counts_asking.specs.Below.coherent_memory.Follow.{locate}
use Rattle.law_counts_asking.specs.Below.coherent_memory.Sight.{sight}
use Rattle.law_counts_asking.proofs.Below.law_words_paths.paths.Sole.{some_is}
use Rattle.law_counts_asking.specs.Below.law_counts_sums.Laws.{Gives}
use Rattle.law_words_asked.specs.Below.law_heap_still.events.Shows.{Sign, an_object}
use Rattle.law_words_asked.proofs.Below.law_heap_still.events.Addresses.{InPlace, in_place}
use Rattle.law_words_asked.proofs.Below.law_heap_still.events.Leaving.{others, placed_here}
use Rattle.law_words_asked.proofs.Below.law_heap_still.events.Prepares.{prepare_shows, Fine as Shows}
use Rattle.law_counts_asking.proofs.Below.law_results_reads.Known.{Steps}
use Rattle.law_words_asked.proofs.Below.law_results_events.writes.Memory.{Leads, looks}
use Rattle.law_words_asked.proofs.Below.law_results_events.writes.Route.{At, a_slot, a_cell, Fine, begins, all_hops}
use Rattle.law_words_asked.specs.writes.Writing.{WritesThrough, assigns, moves}
use Rattle.law_words_asked.proofs.writes.Ways.{cell_there, place, route}
use Rattle.law_counts_waiting.proofs.waits.Amounts.{SeesStanding, amount}
use Rattle.law_counts_waiting.proofs.waits.Commits.{Blind, Deep, Covers, Good, EndsStep, moved, commits}

same_cell : {a b : Cell} → Some a ≡ Some b → a ≡ b
same_cell e = cc

same_object : {a b : ObjNo} → in_cell a ≡ in_cell b → a ≡ b
same_object e = cc

ready_is : {h h2 : Hand} {s s2 : Spot} → ready h s ≡ ready h2 s2 → s ≡ s2
ready_is e = cc

module _ (k : Cluster) (n t : ℕ) (s : Server) (y : ThreadState) (i : Instr) (z : Steps k n t s y i) (w : Sign → ℕ) (sees : SeesStanding w) where
  abbrev h0 : Hand
  h0 = record { work = begin_work s.rest; thread = y }

  -- the weight sees nothing of the cell that is written through stars
  abbrev pub Apart : Type 0
  Apart = (v : Lval) (d : ℕ) → WritesThrough i v d → (o : ObjNo) → locate (sight k).ground y.number v.slot v.depth ≡ Some (in_cell o) → (a : Plain) → w (an_object o a) ≡ 0

  -- so it is blind for what stands where its place is ready
  module _ (apart : Apart) (v : Lval) (d : ℕ) (through : WritesThrough i v d) where
    abbrev C : ObjNo → Option Cell
    C = cell_there k n t s y i z v d through

    abbrev place_at : ℕ → Option Location
    place_at = place k n t s y i z v d through

    fine : Fine s.rest y C place_at ⊤ v.depth (write_stars v.depth 0 h0 (in_slot v.slot))
    fine = all_hops s.rest y C place_at ⊤ v.depth (route k n t s y i z v d through) (λ j less le. tt) v.depth 0 (omega arith) h0 (in_slot v.slot) (at_slot y.number v.slot) refl (a_slot v.slot) (begins s.rest y C place_at h0 refl refl)

    at_end : (p : PartitionState) (sp : Spot) (l : Location) → place_at v.depth ≡ Some l → At s.rest y C place_at p v.depth sp l → Blind w sp p
    at_end p _ _ ends (a_slot m) = tt
    at_end p _ _ ends (a_cell u q o c leads there object behind) = λ c2 found a.
        let same : c2 ≡ c = same_cell (sym found ∙ looks p u c leads) in
        subst (λ b. w (an_object b a) ≡ 0) (sym (ap (λ (x : Cell). x.object) same ∙ object)) (apart v d through o ends a)

    blind : (h : Hand) (sp : Spot) → write_stars v.depth 0 h0 (in_slot v.slot) ≡ ready h sp → Blind w sp h.work.rest.partition
    blind h sp e = let f = subst (Fine s.rest y C place_at ⊤ v.depth) e fine in at_end h.work.rest.partition sp f.0 f.1 f.2

  -- what the instruction puts something over
  covers : Apart → (j : Instr) → i ≡ j → (h : Hand) (sp : Spot) → prepare (access_of j y) h0 ≡ ready h sp → Covers w j sp h.work.rest.partition
  covers apart (instr.Assign v o) q h sp e = by v.depth refl
    where
      by : (d : ℕ) → v.depth ≡ d → Deep d (Blind w sp h.work.rest.partition)
      by zero f = tt
      by (suc d) f = blind apart v d (subst (λ x. WritesThrough x v d) (sym q) (assigns o f)) h sp (sym (ap (λ m. prepare (assigned v m y) h0) f) ∙ e)
  covers apart (instr.Read v true) q h sp e = by v.depth refl
    where
      by : (d : ℕ) → v.depth ≡ d → Blind w sp h.work.rest.partition
      by zero f =
          let there : prepare (Some (read_or_taken v zero true)) h0 ≡ ready h sp = sym (ap (λ m. prepare (Some (read_or_taken v m true)) h0) f) ∙ e in
          let at_once : read_stars zero h0 (in_slot v.slot) ≡ ready h sp = sym (ap (λ m. read_stars m h0 (in_slot v.slot)) f) ∙ there in
          subst (λ x. Blind w x h.work.rest.partition) (ready_is at_once) tt
      by (suc d) f = blind apart v d (subst (λ x. WritesThrough x v d) (sym q) (moves f)) h sp (sym (ap (λ m. prepare (Some (read_or_taken v m true)) h0) f) ∙ e)
  covers apart (instr.Read v false) q h sp e = tt
  covers apart (instr.Let o) q h sp e = tt
  covers apart (instr.Borrow v) q h sp e = tt
  covers apart (instr.BorrowMut v) q h sp e = tt
  covers apart (instr.Box o) q h sp e = tt
  covers apart (instr.Arith f a b) q h sp e = tt
  covers apart (instr.Print o) q h sp e = tt
  covers apart instr.Discard q h sp e = tt
  covers apart instr.DropSlot q h sp e = tt
  covers apart (instr.Spawn cs pc) q h sp e = tt
  covers apart (instr.Join o) q h sp e = tt
  covers apart (instr.Mutex o) q h sp e = tt
  covers apart (instr.Dup v) q h sp e = tt
  covers apart (instr.Lock v) q h sp e = tt
  covers apart instr.Unlock q h sp e = tt
  covers apart (instr.Par cs pc ds other) q h sp e = tt
  covers apart instr.ParEnd q h sp e = tt
  covers apart (instr.End o) q h sp e = tt

  -- as much as was there before
  abbrev pub least : ℕ
  least = amount w sees s.rest.number s.rest.partition s.rest.inbox s.rest.outbox

  -- THE STEP

  pub step_leaves : (servers : ℕ) → InPlace s.rest.number s.rest.partition → Apart → Gives (EndsStep w sees s.rest.number least) (step servers i h0)
  step_leaves servers placed apart = by (prepare (access_of i y) h0) refl (prepare_shows h0 (access_of i y) placed)
    where
      start : Good w sees s.rest.number least h0
      start = ((refl, omega arith), placed)

      by : (p : Prepared) → prepare (access_of i y) h0 ≡ p → Shows h0 p → Gives (EndsStep w sees s.rest.number least) (prepared servers i p)
      by (ready h sp) e f = commits w sees s.rest.number least servers i sp h (covers apart i refl h sp e) (moved w sees s.rest.number least h0 h (f.0, λ p. f.1) start)
      by (requested h) e f = tt
      by nothing e f = tt
