-- A step that writes through stars and asks for an object on its way: what it has passed lies at its server, and it waits for the first hop that isn't passed.
use Rattle.std.proofs.Common.{◌≡◌, ℕ, ◌<◌, ◌≤◌, true, false, map, Option, Some, refl, sym, ap, subst, ◌∙◌, arith}
use Rattle.std.specs.Prelude.{slice_get}
use Rattle.std.proofs.lemmas.Option.{slice_get-map}
use Rattle.std.proofs.lemmas.Bool.Decides.{nat_tests}
use Rattle.law_walks_others.specs.Below.fr_base.declared.name.ObjNo.{ObjNo}
use Rattle.law_walks_others.specs.Below.fr_base.declared.place.Lval.{Lval}
use Rattle.law_walks_others.specs.Below.fr_base.declared.instruction.Instr.{Instr}
use Rattle.law_walks_others.specs.Below.global_addr.Words.{server_of}
use Rattle.law_walks_others.specs.Below.heap_partition.declared.value.Cell.{Cell}
use Rattle.law_walks_others.specs.Below.journal.View.{EntryView}
use Rattle.law_walks_others.specs.Below.server_msgs.declared.message.Message.TheVariants as message
use Rattle.law_walks_others.specs.Below.thread_state.View.{ThreadState}
use Rattle.law_walks_others.specs.Below.thread_state.declared.phase.Phase.TheVariants as phase
use Rattle.law_walks_others.specs.Below.thread_state.declared.value.Value.{Value}
use Rattle.law_walks_others.specs.Below.server_model.Servers.{Server, Cluster}
use Rattle.law_walks_others.specs.Below.server_model.Work.{Hand}
use Rattle.law_walks_others.specs.Below.server_model.Places.{Spot, value_at, value_in as cell_value}
use Rattle.law_walks_others.specs.Below.server_model.Prepare.{WriteTo, requested, assigned, read_or_taken, access_of, prepare}
use Rattle.law_walks_others.specs.Below.server_model.Events.{Stepped, begin_work, wait_step}
use Rattle.law_walks_others.specs.Below.coherent_memory.Names.{tot, one}
use Rattle.law_walks_others.specs.Below.coherent_memory.Things.{Location, things_of}
use Rattle.law_walks_others.specs.Below.coherent_memory.Follow.{Standing, Ground, cell_of, value_of, value_in, value_behind, slot_of, locate, hop_at}
use Rattle.law_walks_others.specs.Below.coherent_memory.Paths.{Path, writes, path_of, assigning, taking, written_place, Awaited}
use Rattle.law_walks_others.specs.Below.coherent_memory.Sight.{sight}
use Rattle.law_walks_others.specs.Below.coherent_memory.Walking.{path, over_passed, away, lost_place, out_of_turn, next_hop, asked_for}
use Rattle.law_walks_others.specs.Below.law_words_paths.paths.HeapStore.{GoesOn, HasPaths}
use Rattle.law_walks_others.proofs.Below.law_words_paths.paths.Alike.{IsShown, a_slot as shown_slot, an_object, leads_in_heap}
use Rattle.law_walks_others.proofs.Below.law_words_paths.paths.Shown.{stands_there}
use Rattle.law_words_ends.specs.Below.law_words_paths.words.Reworded.{HasPlaces}
use Rattle.law_walks_others.specs.Below.law_heap_still.events.Shows.{frame_of}
use Rattle.law_walks_others.proofs.Below.law_heap_still.events.Prepares.{prepare_shows, Fine as Shows}
use Rattle.law_walks_others.proofs.Below.law_heap_still.events.Readied.{Readied}
use Rattle.law_walks_others.proofs.Below.law_results_reads.Known.{Steps, standing, paths, goes}
use Rattle.law_walks_others.specs.Below.law_counts_waiting.waits.Places.{LeadsAsItDid}
use Rattle.law_walks_others.proofs.Below.law_results_events.writes.Memory.{Leads, looks}
use Rattle.law_walks_others.proofs.Below.law_results_events.writes.Route.{Route, At, a_slot, a_cell}
use Rattle.law_walks_others.specs.Below.law_words_asked.writes.Writing.{WritesThrough, assigns, moves}
use Rattle.law_walks_others.proofs.Below.law_words_asked.writes.Ways as ways
use Rattle.law_walks_own.proofs.steps.Lies.{same_partition}
use Rattle.law_walks_own.proofs.steps.Own.{Own, me}
use Rattle.law_walks_own.proofs.steps.There.{cell_is, sent_is}
use Rattle.law_walks_own.proofs.steps.Kept.{placed}
use Rattle.law_walks_own.proofs.steps.Through.{Stops, stops, stood}
use Rattle.law_walks_own.proofs.steps.Passed.{Walked, has_passed, slot_then, its_number}
use Rattle.law_walks_own.proofs.steps.Asked.{waits_right, next_is, pull_asks}

access_is : (i : Instr) (w : Lval) (d : ℕ) (y : ThreadState) → WritesThrough i w d → access_of i y ≡ Some (WriteTo w)
access_is _ w d y (assigns p e) = ap (λ q. assigned w q y) e
access_is _ w d y (moves e) = ap (λ q. Some (read_or_taken w q true)) e

path_is : (i : Instr) (w : Lval) (d : ℕ) (y : ThreadState) → WritesThrough i w d → path_of (Some i) y ≡ writes w
path_is _ w d y (assigns p e) = ap (assigning y.slots w) e
path_is _ w d y (moves e) = ap (taking w) e

module _ (k c : Cluster) (v : EntryView) (t : ℕ) (code : c.code ≡ k.code) (o : Own k c v t) (after : HasPlaces c) (h : Hand) (asked : prepare (access_of o.instruction o.thread) (record { work = begin_work o.server.rest; thread = o.thread }) ≡ requested h) (is : o.result ≡ wait_step h)
    (w : Lval) (d : ℕ) (through : WritesThrough o.instruction w d) (leads_so : LeadsAsItDid k c o.thread.number w) where
  abbrev n : ℕ
  n = o.number

  abbrev s : Server
  s = o.server

  abbrev y : ThreadState
  y = o.thread

  abbrev i : Instr
  i = o.instruction

  abbrev z : Steps k n t s y i
  z = o.steps

  abbrev h0 : Hand
  h0 = record { work = begin_work s.rest; thread = y }

  abbrev x : Standing
  x = standing k n t s y i z

  abbrev p : HasPaths k
  p = paths k n t s y i z

  abbrev on : GoesOn k x
  on = goes k n t s y i z

  abbrev G : Ground
  G = (sight k).ground

  abbrev G2 : Ground
  G2 = (sight c).ground

  abbrev tn : ℕ
  tn = y.number

  abbrev C : ObjNo → Option Cell
  C = ways.cell_there k n t s y i z w d through

  abbrev at : ℕ → Option Location
  at = ways.place k n t s y i z w d through

  abbrev its_route : Route s.rest y C at w.depth
  its_route = ways.route k n t s y i z w d through

  abbrev Stop : Type 0
  Stop = Stops s.rest y C at w.depth its_route h0 refl refl w.slot refl h

  stop : Stop
  stop = stops s.rest y C at w.depth its_route h0 refl refl w.slot refl h (sym (ap (λ a. prepare a h0) (access_is i w d y through)) ∙ asked)

  -- what stood on the route
  stood_there : (j : ℕ) (l : Location) → at j ≡ Some l → stood s.rest y C at w.depth its_route h0 refl refl w.slot refl l ≡ value_in G l
  stood_there j l located = by l (leads_in_heap k p x on w.slot j l located).1
    where
      by : (l : Location) → IsShown k p x on l → stood s.rest y C at w.depth its_route h0 refl refl w.slot refl l ≡ value_in G l
      by _ (shown_slot b) = sym (ap (λ q. slot_of q b) (stands_there k p x on))
      by _ (an_object q a b) = refl

  readied : Readied h0 stop.hand
  readied =
      let it = stop in
      let good = subst (Shows h0) it.framed (prepare_shows h0 (Some (WriteTo (record { slot = w.slot; depth = it.number }))) (placed k c v t o after h asked is)) in good.0

  frames : map frame_of stop.hand.thread.slots ≡ map frame_of y.slots
  frames = let r = readied in ap (λ (u : ThreadState). map frame_of u.slots) r.thread ∙ r.slots_framed

  slots_are : h.thread.slots ≡ stop.hand.thread.slots
  slots_are = let it = stop in ap (λ (u : Hand). u.thread.slots) it.asked

  walked : Walked k n t s y w h
  walked =
      let it = stop in record {
        within = (let less = it.less in let e = it.passed in omega (arith, less, e));
        framed = λ i2 j lt located. sym (slice_get-map frame_of h.thread.slots j) ∙ ap (λ vs. slice_get (map frame_of vs) j) slots_are ∙ ap (λ vs. slice_get vs j) frames ∙ slice_get-map frame_of y.slots j;
        homes = λ j lt le l u located stands. it.before j (subst (λ q. j < q) it.passed lt) le l u located (stood_there j l located ∙ stands);
      }

  passes : written_place (path (sight k) x) ≡ Some w
  passes = ways.writes k n t s y i z w d through

  way : (j : ℕ) → j ≤ w.depth → (l : Location) × (locate G tn w.slot j ≡ Some l)
  way j le = let r = its_route in r.leads_there j le

  abbrev pub it_now : Standing
  it_now = me k c v t o after

  thread_now : o.result.hand.thread ≡ h.thread
  thread_now = ap (λ (q : Stepped). q.hand.thread) is

  number_now : o.result.hand.thread.number ≡ tn
  number_now = o.named ∙ its_number k c v t o after h asked is w passes leads_so way walked

  path_now : path (sight c) it_now ≡ writes w
  path_now =
      let it = stop in
      let pc : o.result.hand.thread.pc ≡ y.pc = ap (λ (u : ThreadState). u.pc) thread_now ∙ ap (λ (u : Hand). u.thread.pc) it.asked ∙ ap (λ (u : ThreadState). u.pc) (let g = it.writing in g.thread) in
      ap (λ cs. path_of (slice_get cs o.result.hand.thread.pc) o.result.hand.thread) code ∙ ap (λ q. path_of (slice_get k.code q) o.result.hand.thread) pc ∙ ap (λ q. path_of q o.result.hand.thread) (let q = z in q.code) ∙ path_is i w d o.result.hand.thread through

  -- WHAT IT HAS PASSED

  pub passed_so : over_passed (sight c) (away (sight c)) it_now ≡ 0
  passed_so =
      ap (λ q. Rattle.law_walks_others.specs.Below.coherent_memory.Walking.over_place G2 o.result.hand.thread.number o.result.hand.thread.passed (away (sight c) s.rest.number) (written_place q)) path_now
      ∙ ap (λ q. Rattle.law_walks_others.specs.Below.coherent_memory.Walking.over_hops G2 q w.slot (away (sight c) s.rest.number) o.result.hand.thread.passed) number_now
      ∙ ap (λ (u : ThreadState). Rattle.law_walks_others.specs.Below.coherent_memory.Walking.over_hops G2 tn w.slot (away (sight c) s.rest.number) u.passed) thread_now ∙ has_passed k c v t o after h asked is w passes leads_so way walked

  -- WHAT IT WAITS FOR

  partition_now : o.result.hand.work.rest.partition ≡ stop.hand.work.rest.partition
  partition_now =
      let it = stop in
      ap (λ (q : Stepped). q.hand.work.rest.partition) is ∙ ap (λ (u : Hand). u.work.rest.partition) it.asked
      ∙ same_partition it.hand.work.rest (server_of it.pointer.word) (message.Move it.pointer.word it.pointer.object it.hand.work.rest.number it.hand.thread.number)

  hop_now : hop_at G2 tn w stop.number ≡ Some stop.pointed
  hop_now =
      let it = stop in
      let same : locate G2 tn w.slot it.number ≡ Some it.location = leads_so it.number (let l = it.less in omega (arith, l)) ∙ it.located in
      ap (value_behind G2) same ∙ by it.spot it.location it.spotted it.held
    where
      by : (sp : Spot) (l : Location) → At s.rest y C at stop.hand.work.rest.partition stop.number sp l → value_at stop.hand sp ≡ Some stop.pointed → value_in G2 l ≡ Some stop.pointed
      by _ _ (a_slot b) held = slot_then k c v t o after h asked is w passes leads_so way walked b ∙ ap (λ vs. slice_get vs b) slots_are ∙ held
      by _ _ (a_cell u q a e leads there object behind) held =
          let here : Leads o.result.hand.work.rest.partition u e = subst (λ r. Leads r u e) (sym partition_now) leads in
          let found : value_of (cell_of G2.cells a) ≡ Some (Rattle.law_walks_others.specs.Below.thread_state.declared.value.Value.TheVariants.Own e.value) = subst (λ r. value_of (cell_of G2.cells r) ≡ Some (Rattle.law_walks_others.specs.Below.thread_state.declared.value.Value.TheVariants.Own e.value)) object (cell_is k c v t o after u e here) in
          found ∙ sym (ap cell_value (looks stop.hand.work.rest.partition u e leads)) ∙ held

  abbrev awaits : Awaited
  awaits = record { word = stop.pointer.word; object = stop.pointer.object; comes = true; by_copy = false }

  turn_now : next_hop (sight c) it_now w ≡ Some awaits
  turn_now =
      let it = stop in
      let passed : o.result.hand.thread.passed ≡ it.number = ap (λ (u : ThreadState). u.passed) thread_now ∙ it.passed in
      let less : o.result.hand.thread.passed < w.depth = (let l = it.less in omega (arith, l, passed)) in
      next_is (sight c) it_now w it.pointed awaits (grind (arith, nat_tests, less)) (ap (λ q. hop_at G2 q w o.result.hand.thread.passed) number_now ∙ ap (hop_at G2 tn w) passed ∙ hop_now) it.awaited

  phase_now : o.result.hand.thread.phase ≡ phase.WaitCell stop.pointer.word
  phase_now = let it = stop in ap (λ (u : ThreadState). u.phase) thread_now ∙ ap (λ (u : Hand). u.thread.phase) it.asked

  asks_now : 1 ≤ tot (asked_for o.result.hand.thread.number awaits) (things_of c)
  asks_now =
      let it = stop in
      let target = server_of it.pointer.word in
      let sender = it.hand.work.rest.number in
      let number : it.hand.thread.number ≡ o.result.hand.thread.number = sym (ap (λ (u : ThreadState). u.number) thread_now ∙ ap (λ (u : Hand). u.thread.number) it.asked) in
      let m = message.Move it.pointer.word it.pointer.object sender it.hand.thread.number in
      let there = sent_is k c v t o after it.hand.work.rest target m (ap (λ (q : Stepped). q.hand.work.rest) is ∙ ap (λ (u : Hand). u.work.rest) it.asked) (ap (λ (r : Rattle.law_walks_others.specs.Below.server_model.Servers.Rest). r.number) (let g = it.writing in g.rest)) (asked_for o.result.hand.thread.number awaits) in
      let asks : one (Rattle.law_walks_others.specs.Below.coherent_memory.Walking.asks_for o.result.hand.thread.number awaits m) ≡ 1 =
      ap (λ q. one (Rattle.law_walks_others.specs.Below.coherent_memory.Walking.asks_for o.result.hand.thread.number awaits (message.Move it.pointer.word it.pointer.object sender q))) number ∙ pull_asks o.result.hand.thread.number awaits sender refl in
      omega (arith, there, asks)

  pub turn_so : out_of_turn (sight c) it_now o.result.hand.thread.phase ≡ 0
  turn_so =
      subst (λ q. out_of_turn (sight c) it_now q ≡ 0) (sym phase_now)
      (waits_right (sight c) it_now stop.pointer.word awaits (ap (Rattle.law_walks_others.specs.Below.coherent_memory.Walking.in_turn (sight c) it_now stop.pointer.word) path_now ∙ turn_now) refl asks_now)

  -- a write follows nothing before its step
  pub lost_so : lost_place (sight c) it_now ≡ 0
  lost_so =
      ap (λ q. Rattle.law_walks_others.specs.Below.coherent_memory.Names.if_so (Rattle.law_walks_others.specs.Below.coherent_memory.Walking.has_followed (sight c) it_now q) (tot (Rattle.law_walks_others.specs.Below.coherent_memory.Walking.loose_hop s.rest.number (Rattle.law_walks_others.specs.Below.coherent_memory.Walking.words_kept o.result.hand.thread)) (Rattle.law_walks_others.specs.Below.coherent_memory.Paths.followed G2 o.result.hand.thread.number (path (sight c) it_now)))) phase_now
      ∙ ap (λ q. Rattle.law_walks_others.specs.Below.coherent_memory.Names.if_so (Rattle.law_walks_others.specs.Below.coherent_memory.Walking.waits_for_lent (sight c) it_now q stop.pointer.word) (tot (Rattle.law_walks_others.specs.Below.coherent_memory.Walking.loose_hop s.rest.number (Rattle.law_walks_others.specs.Below.coherent_memory.Walking.words_kept o.result.hand.thread)) (Rattle.law_walks_others.specs.Below.coherent_memory.Paths.followed G2 o.result.hand.thread.number (path (sight c) it_now)))) path_now
