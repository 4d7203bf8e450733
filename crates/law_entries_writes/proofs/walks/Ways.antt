-- The place to which a thread of a coherent cluster assigns through stars, or from which it moves out, is followed in the coloured heap.
use Rattle.std.proofs.Common.{◌≡◌, ℕ, suc, ◌<◌, true, [], Option, Some, None, refl, sym, ap, subst, ◌∙◌, arith}
use Rattle.std.specs.Prelude.{slice_get}
use Rattle.law_heap_writes.specs.Below.fr_base.declared.name.ObjNo.{ObjNo}
use Rattle.law_heap_writes.specs.Below.fr_base.declared.place.Lval.{Lval}
use Rattle.law_heap_writes.specs.Below.fr_base.declared.instruction.Instr.{Instr}
use Rattle.law_heap_writes.specs.Below.heap_partition.declared.value.Cell.{Cell}
use Rattle.law_heap_writes.specs.Below.mut_borrow.declared.mutable.MutRef.{MutRef}
use Rattle.law_heap_writes.specs.Below.thread_state.View.{ThreadState}
use Rattle.law_heap_writes.specs.Below.thread_state.declared.value.Value.TheVariants as value
use Rattle.law_heap_writes.specs.Below.server_model.declared.event.What.TheVariants.{Step}
use Rattle.law_heap_writes.specs.Below.server_model.Servers.{Server, Cluster, server_at}
use Rattle.law_heap_writes.specs.Below.server_model.Work.{Hand, thread_in}
use Rattle.law_heap_writes.specs.Below.server_model.Places.{in_slot}
use Rattle.law_heap_writes.specs.Below.server_model.Prepare.{Prepared, write_stars}
use Rattle.law_heap_writes.specs.Below.server_model.Events.{enabled, begin_work}
use Rattle.law_entries_reads.specs.Below.law_entries_variables.Below.coloured_heap.Heap.{Coloured}
use Rattle.law_heap_writes.specs.Below.coherent_memory.Names.{tot}
use Rattle.law_heap_writes.specs.Below.coherent_memory.Things.{Location, at_slot, in_cell, things_of}
use Rattle.law_heap_writes.specs.Below.coherent_memory.Follow.{slot_of, leads, locate}
use Rattle.law_heap_writes.specs.Below.coherent_memory.Sight.{sight}
use Rattle.law_heap_writes.specs.Below.coherent_memory.Colours.{StandsColoured}
use Rattle.law_heap_writes.specs.Below.coherent_types.ClusterTypes.{IsCoherent}
use Rattle.law_heap_writes.specs.Below.law_words_paths.words.Unmoved.{taking_by}
use Rattle.law_heap_writes.proofs.Below.law_words_paths.paths.Shown.{stands_there}
use Rattle.law_heap_writes.specs.Below.law_counts_sums.Laws.{FewEvents}
use Rattle.law_heap_writes.proofs.Below.law_words_asked.Below.law_words_kept.reads.Homes.{fresh_word}
use Rattle.law_heap_writes.proofs.Below.law_results_reads.Followed.{hop_from}
use Rattle.law_heap_writes.proofs.Below.law_results_reads.Known.{Steps, standing, paths, goes}
use Rattle.law_heap_writes.proofs.Below.law_words_asked.Below.law_words_kept.stays.Steps.{TakesNoneHere}
use Rattle.law_heap_writes.proofs.Below.law_results_events.writes.Route.{a_slot, begins}
use Rattle.law_heap_writes.specs.Below.law_words_asked.writes.Writing.{WritesThrough}
use Rattle.law_heap_writes.proofs.Below.law_words_asked.writes.Later.{later_itself}
use Rattle.law_heap_writes.proofs.Below.law_words_asked.writes.Passing.{State, first_state}
use Rattle.law_heap_writes.proofs.Below.law_words_asked.writes.Ways.{takes_none, cell_there, place, route, written_there, words_there}
use Rattle.law_entries_reads.proofs.Below.law_entries_variables.deliveries.Shown.{dropped_by}
use Rattle.law_entries_reads.proofs.served.Kept.{led_kept}
use Rattle.law_entries_writes.proofs.walks.Given.{given_start}
use Rattle.law_entries_writes.proofs.walks.Walks.{AllLed, all_led}

-- an object to which a place leads isn't given up
pub kept_there : (k : Cluster) (coherent : IsCoherent k) (t slot j : ℕ) (l : Location) (o : ObjNo) → locate (sight k).ground t slot j ≡ Some l → locate (sight k).ground t slot (suc j) ≡ Some (in_cell o) → tot (dropped_by o) (things_of k) ≡ 0
kept_there k coherent t slot j l o located next =
    let h = hop_from (sight k).ground t slot j l (in_cell o) located next in
    led_kept k coherent o (λ none. none t l (ap (leads t) h.1 ∙ h.2))

module _ (k : Cluster) (coherent : IsCoherent k) (few : FewEvents k) (s : Server) (here : server_at k.servers s.rest.number ≡ Some s) (t : ℕ) (y : ThreadState) (at : thread_in s.threads t ≡ Some y) (on : enabled k.options s (Step t) ≡ true) (i : Instr) (code : slice_get k.code y.pc ≡ Some i)
    (w : Lval) (d : ℕ) (through : WritesThrough i w d) (c0 : Coloured) (is_coloured : StandsColoured k c0) where
  abbrev n : ℕ
  n = s.rest.number

  abbrev pub start : Hand
  start = record { work = begin_work s.rest; thread = y }

  abbrev pub its : Steps k n t s y i
  its = record { coherent = coherent; few = few; here = here; on = on; at = at; code = code }

  pub untaken : TakesNoneHere k.code y
  untaken = subst (λ j. taking_by y.number y.phase j ≡ None) (sym code) (takes_none y.number y.phase i w d through)

  pub begun : State k coherent s here t y at start
  begun = first_state k coherent s here t y at untaken

  abbrev pub Cells : ObjNo → Option Cell
  Cells = cell_there k n t s y i its w d through

  abbrev pub leads_to : ℕ → Option Location
  leads_to = place k n t s y i its w d through

  pub refs_there : (j : ℕ) → j < w.depth → (m : ℕ) (q : MutRef) → leads_to j ≡ Some (at_slot y.number m) → leads_to (suc j) ≡ Some (in_cell q.object) → slice_get y.slots m ≡ Some (value.Mut q) → q.word ≡ coherent.sound.words.have_words.word q.object
  refs_there j lt m q located next stood =
      fresh_word k coherent.sound.words.have_words (at_slot y.number m) (value.Mut q) (record { word = q.word; object = q.object })
      (ap (λ o. slot_of o m) (stands_there k (paths k n t s y i its) (standing k n t s y i its) (goes k n t s y i its)) ∙ stood) refl ((written_there k n t s y i its w d through j lt (at_slot y.number m) q.object located next).fresh)

  pub kept_so : (j : ℕ) → j < w.depth → (o : ObjNo) → leads_to (suc j) ≡ Some (in_cell o) → tot (dropped_by o) (things_of k) ≡ 0
  kept_so j lt o next =
      let l = (route k n t s y i its w d through).leads_there j (omega (arith, lt)) in
      kept_there k coherent y.number w.slot j l.0 o l.1 next

  abbrev pub AllWritten : Prepared → Type 0
  AllWritten =
      AllLed k coherent s here t y at c0 is_coloured s.rest y Cells leads_to w.depth (route k n t s y i its w d through) (written_there k n t s y i its w d through) (words_there k n t s y i its w d through) refs_there kept_so

  -- it is followed
  pub written_led : AllWritten (write_stars w.depth 0 start (in_slot w.slot))
  written_led =
      all_led k coherent s here t y at c0 is_coloured s.rest y Cells leads_to w.depth (route k n t s y i its w d through) (written_there k n t s y i its w d through) (words_there k n t s y i its w d through) refs_there kept_so w.depth 0 (omega arith) start
      (in_slot w.slot) (at_slot y.number w.slot) refl (a_slot w.slot) (begins s.rest y Cells leads_to start refl refl) (record { state = begun; later = later_itself s.rest.partition; through = tt })
      (record { words = []; given = given_start k coherent s here t y at c0 is_coloured; word = tt })
