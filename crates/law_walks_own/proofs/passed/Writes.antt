-- A step that writes through stars and asks for an object on its way: of what it has passed no copy exists.
use Rattle.std.proofs.Common.{◌≡◌, ℕ, ◌<◌, true, Option, Some, refl, sym, ap, subst, ◌∙◌, arith}
use Rattle.std.specs.Prelude.{slice_get}
use Rattle.law_copies_kept.specs.Below.fr_base.declared.name.ObjNo.{ObjNo}
use Rattle.law_copies_kept.specs.Below.fr_base.declared.place.Lval.{Lval}
use Rattle.law_copies_kept.specs.Below.fr_base.declared.instruction.Instr.{Instr}
use Rattle.law_copies_kept.specs.Below.global_addr.Words.{server_of}
use Rattle.law_copies_kept.specs.Below.heap_partition.declared.value.Cell.{Cell}
use Rattle.law_copies_kept.specs.Below.journal.View.{EntryView}
use Rattle.law_copies_kept.specs.Below.server_msgs.declared.message.Message.TheVariants as message
use Rattle.law_copies_kept.specs.Below.thread_state.View.{ThreadState}
use Rattle.law_copies_kept.specs.Below.server_model.Servers.{Server, Cluster}
use Rattle.law_copies_kept.specs.Below.server_model.Work.{Hand}
use Rattle.law_copies_kept.specs.Below.server_model.Prepare.{WriteTo, requested, assigned, read_or_taken, access_of, prepare}
use Rattle.law_copies_kept.specs.Below.server_model.Events.{Stepped, begin_work, wait_step}
use Rattle.law_copies_kept.specs.Below.coherent_memory.Things.{Location}
use Rattle.law_copies_kept.specs.Below.coherent_memory.Follow.{Standing, Ground, value_in, slot_of, locate}
use Rattle.law_copies_kept.specs.Below.coherent_memory.Paths.{writes, path_of, assigning, taking, written_place}
use Rattle.law_copies_kept.specs.Below.coherent_memory.Sight.{sight}
use Rattle.law_copies_kept.specs.Below.coherent_memory.Walking.{path, over_hops, over_place, over_passed, copied_box}
use Rattle.law_copies_kept.specs.Below.law_words_paths.paths.HeapStore.{GoesOn, HasPaths}
use Rattle.law_copies_kept.proofs.Below.law_words_paths.paths.Alike.{IsShown, a_slot as shown_slot, an_object, leads_in_heap}
use Rattle.law_copies_kept.proofs.Below.law_words_paths.paths.Shown.{stands_there}
use Rattle.law_walks_own.specs.Below.law_words_paths.words.Reworded.{HasPlaces}
use Rattle.law_copies_kept.proofs.Below.law_results_reads.Known.{Steps, standing, paths, goes}
use Rattle.law_walks_own.specs.Below.law_counts_waiting.waits.Places.{LeadsAsItDid}
use Rattle.law_walks_others.proofs.Below.law_results_events.writes.Memory.{Leads}
use Rattle.law_walks_others.proofs.Below.law_results_events.writes.Route.{Route}
use Rattle.law_walks_others.specs.Below.law_words_asked.writes.Writing.{WritesThrough, assigns, moves}
use Rattle.law_walks_others.proofs.Below.law_words_asked.writes.Later.{later_itself}
use Rattle.law_walks_others.proofs.Below.law_words_asked.writes.Ways as ways
use Rattle.law_walks_own.proofs.steps.Behind.{number_then, slot_then}
use Rattle.law_walks_own.proofs.steps.Lies.{same_partition}
use Rattle.law_walks_own.proofs.steps.Own.{Own, me}
use Rattle.law_walks_own.proofs.steps.There.{cell_is}
use Rattle.law_walks_own.proofs.steps.Through.{Stops, stops, stood}
use Rattle.law_walks_own.proofs.passed.Stars.{Words, Behind, all_good}
use Rattle.law_walks_own.proofs.passed.Stands.{NoCopy, IsOwn, own_slot, a_cell, none_over}
use Rattle.law_walks_own.proofs.passed.Start.{Bare, renewed_good, next_good, before_good}

-- what it needs, and its path
access_is : (i : Instr) (w : Lval) (d : ℕ) (y : ThreadState) → WritesThrough i w d → access_of i y ≡ Some (WriteTo w)
access_is _ w d y (assigns p e) = ap (λ q. assigned w q y) e
access_is _ w d y (moves e) = ap (λ q. Some (read_or_taken w q true)) e

path_is : (i : Instr) (w : Lval) (d : ℕ) (y : ThreadState) → WritesThrough i w d → path_of (Some i) y ≡ writes w
path_is _ w d y (assigns p e) = ap (assigning y.slots w) e
path_is _ w d y (moves e) = ap (taking w) e

module _ (k c : Cluster) (v : EntryView) (t : ℕ) (code : c.code ≡ k.code) (o : Own k c v t) (after : HasPlaces c) (bare : Bare k c) (h : Hand) (asked : prepare (access_of o.instruction o.thread) (record { work = begin_work o.server.rest; thread = o.thread }) ≡ requested h) (is : o.result ≡ wait_step h)
    (w : Lval) (d : ℕ) (through : WritesThrough o.instruction w d) (leads_so : LeadsAsItDid k c o.thread.number w) where
  abbrev n : ℕ
  n = o.number

  abbrev s : Server
  s = o.server

  abbrev y : ThreadState
  y = o.thread

  abbrev i : Instr
  i = o.instruction

  abbrev z : Steps k n t s y i
  z = o.steps

  abbrev h0 : Hand
  h0 = record { work = begin_work s.rest; thread = y }

  abbrev x : Standing
  x = standing k n t s y i z

  abbrev p : HasPaths k
  p = paths k n t s y i z

  abbrev on : GoesOn k x
  on = goes k n t s y i z

  abbrev G : Ground
  G = (sight k).ground

  abbrev G2 : Ground
  G2 = (sight c).ground

  abbrev tn : ℕ
  tn = y.number

  abbrev C : ObjNo → Option Cell
  C = ways.cell_there k n t s y i z w d through

  abbrev at : ℕ → Option Location
  at = ways.place k n t s y i z w d through

  abbrev its_route : Route s.rest y C at w.depth
  its_route = ways.route k n t s y i z w d through

  stop : Stops s.rest y C at w.depth its_route h0 refl refl w.slot refl h
  stop = stops s.rest y C at w.depth its_route h0 refl refl w.slot refl h (sym (ap (λ a. prepare a h0) (access_is i w d y through)) ∙ asked)

  passes : written_place (path (sight k) x) ≡ Some w
  passes = ways.writes k n t s y i z w d through

  -- what stood on the route
  stood_there : (j : ℕ) (l : Location) → at j ≡ Some l → stood s.rest y C at w.depth its_route h0 refl refl w.slot refl l ≡ value_in G l
  stood_there j l located = by l (leads_in_heap k p x on w.slot j l located).1
    where
      by : (l : Location) → IsShown k p x on l → stood s.rest y C at w.depth its_route h0 refl refl w.slot refl l ≡ value_in G l
      by _ (shown_slot b) = sym (ap (λ q. slot_of q b) (stands_there k p x on))
      by _ (an_object q a b) = refl

  words : Words s.rest y C at w.depth its_route h0 refl refl w.slot refl s.rest.partition (NoCopy c)
  words = record {
    later = later_itself s.rest.partition;
    next = λ j l b lt located stands. next_good k c bare n t s y i z w passes j l b located (sym (stood_there j l located) ∙ stands) lt;
    renewed = renewed_good k c bare n t s y i z;
    before = λ j l b less lt located stands. before_good k c bare n t s y i z w passes j l b located (sym (stood_there j l located) ∙ stands) less;
  }

  behind : Behind s.rest y C at w.depth its_route h0 refl refl w.slot refl s.rest.partition (NoCopy c) words stop.number stop.hand
  behind = let it = stop in let l = it.less in all_good s.rest y C at w.depth its_route h0 refl refl w.slot refl s.rest.partition (NoCopy c) words it.number (omega (arith, l)) it.hand it.spot it.framed

  -- THE CLUSTER AFTERWARDS

  abbrev pub it_now : Standing
  it_now = me k c v t o after

  thread_now : o.result.hand.thread ≡ h.thread
  thread_now = ap (λ (q : Stepped). q.hand.thread) is

  slots_are : h.thread.slots ≡ stop.hand.thread.slots
  slots_are = let it = stop in ap (λ (u : Hand). u.thread.slots) it.asked

  partition_now : o.result.hand.work.rest.partition ≡ stop.hand.work.rest.partition
  partition_now =
      let it = stop in
      ap (λ (q : Stepped). q.hand.work.rest.partition) is ∙ ap (λ (u : Hand). u.work.rest.partition) it.asked
      ∙ same_partition it.hand.work.rest (server_of it.pointer.word) (message.Move it.pointer.word it.pointer.object it.hand.work.rest.number it.hand.thread.number)

  own : (l : Location) → IsShown k p x on l → IsOwn tn l
  own _ (shown_slot b) = own_slot b
  own _ (an_object q a b) = a_cell q

  way : (j : ℕ) → j < stop.number → (l : Location) × (at j ≡ Some l) × (locate G2 tn w.slot j ≡ Some l) × IsOwn tn l
  way j lt =
      let it = stop in
      let l = it.less in
      let r = its_route in
      let q = r.leads_there j (omega (arith, lt, l)) in
      (q.0, q.1, leads_so j (omega (arith, lt, l)) ∙ q.1, own q.0 (leads_in_heap k p x on w.slot j q.0 q.1).1)

  none_so : over_hops G2 tn w.slot (copied_box (sight c) s.rest.number) stop.number ≡ 0
  none_so =
      none_over c tn w.slot s.rest.number at stop.hand.thread.slots stop.hand.work.rest.partition (λ m. slot_then k c v t o after h is m ∙ ap (λ vs. slice_get vs m) slots_are)
      (λ u e l. cell_is k c v t o after u e (subst (λ q. Leads q u e) (sym partition_now) l)) stop.number way (λ j lt l located. (let b = behind in b.good j lt l located))

  path_now : path (sight c) it_now ≡ writes w
  path_now =
      let it = stop in
      let pc : o.result.hand.thread.pc ≡ y.pc = ap (λ (u : ThreadState). u.pc) thread_now ∙ ap (λ (u : Hand). u.thread.pc) it.asked ∙ ap (λ (u : ThreadState). u.pc) (let g = it.writing in g.thread) in
      ap (λ cs. path_of (slice_get cs o.result.hand.thread.pc) o.result.hand.thread) code ∙ ap (λ q. path_of (slice_get k.code q) o.result.hand.thread) pc ∙ ap (λ q. path_of q o.result.hand.thread) (let q = z in q.code) ∙ path_is i w d o.result.hand.thread through

  pub write_bare : over_passed (sight c) (copied_box (sight c)) (me k c v t o after) ≡ 0
  write_bare =
      let it = stop in
      ap (λ q. over_place G2 o.result.hand.thread.number o.result.hand.thread.passed (copied_box (sight c) s.rest.number) (written_place q)) path_now
      ∙ ap (λ q. over_hops G2 q w.slot (copied_box (sight c) s.rest.number) o.result.hand.thread.passed) (number_then k c v t o)
      ∙ ap (over_hops G2 tn w.slot (copied_box (sight c) s.rest.number)) (ap (λ (u : ThreadState). u.passed) thread_now ∙ it.passed) ∙ none_so
