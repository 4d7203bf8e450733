-- A step that ends a mutable reference and asks for something on its way: what it has passed of its holder's place lies at its server.
use Rattle.std.proofs.Common.{◌≡◌, ◌⊎◌, inl, inr, ℕ, suc, ◌<◌, ◌≤◌, ◌==◌, nat_le, Bool, true, false, if◌then◌else◌, length, map, Option, Some, None, option_map, refl, sym, ap, subst, ◌∙◌, arith}
use Rattle.std.specs.Prelude.{slice_get}
use Rattle.std.proofs.lemmas.Option.{slice_get-map}
use Rattle.std.proofs.lemmas.Bool.Decides.{nat_tests}
use Rattle.law_walks_others.specs.Below.fr_base.Lists.{last_of}
use Rattle.law_walks_others.specs.Below.fr_base.declared.name.ObjNo.{ObjNo}
use Rattle.law_walks_others.specs.Below.fr_base.declared.place.Lval.{Lval}
use Rattle.law_walks_others.specs.Below.fr_base.declared.instruction.Instr.{Instr}
use Rattle.law_walks_others.specs.Below.global_addr.Words.{server_of, address_of}
use Rattle.law_walks_others.specs.Below.heap_partition.declared.value.BoxPtr.{BoxPtr}
use Rattle.law_walks_others.specs.Below.heap_partition.declared.value.Cell.{Cell}
use Rattle.law_walks_others.specs.Below.journal.View.{EntryView}
use Rattle.law_walks_others.specs.Below.mut_borrow.Refs.{finish_word}
use Rattle.law_walks_others.specs.Below.mut_borrow.declared.mutable.MutRef.{MutRef}
use Rattle.law_walks_others.specs.Below.thread_state.View.{ThreadState}
use Rattle.law_walks_others.specs.Below.server_msgs.declared.message.Message.TheVariants as message
use Rattle.law_walks_others.specs.Below.thread_state.declared.phase.Phase.TheVariants as phase
use Rattle.law_walks_others.specs.Below.thread_state.declared.value.Value.TheVariants as value
use Rattle.law_walks_others.specs.Below.server_model.Servers.{Rest, Server, Cluster}
use Rattle.law_walks_others.specs.Below.server_model.Work.{Hand}
use Rattle.law_walks_others.specs.Below.server_model.Places.{Spot, in_slot, value_at, value_in as cell_value, load_at}
use Rattle.law_walks_others.specs.Below.server_model.Prepare.{WriteTo, EndRef, Prepared, ready, requested, nothing, and_then, unlabelled, follow_ended, follow_holder, clean_value, ask_object, box_of, access_of, prepare, write_stars}
use Rattle.law_walks_others.specs.Below.server_model.Events.{Stepped, begin_work, wait_step}
use Rattle.law_walks_others.specs.Below.coherent_memory.Names.{tot, one, other, Among}
use Rattle.law_walks_others.specs.Below.coherent_memory.Things.{Location, at_slot, in_cell, lies, things_of}
use Rattle.law_walks_others.specs.Below.coherent_memory.Coherent.{IsSound}
use Rattle.law_walks_others.specs.Below.coherent_memory.Follow.{Standing, Ground, cell_of, value_of, value_in, value_behind, slot_of, leads as leads_to, locate, hop_at}
use Rattle.law_walks_others.specs.Below.coherent_memory.Weights.{states}
use Rattle.law_walks_others.specs.Below.coherent_memory.Paths.{ends, path_of, written_place, Awaited, to_write}
use Rattle.law_walks_others.specs.Below.coherent_memory.Sight.{sight}
use Rattle.law_walks_others.specs.Below.coherent_memory.Walking.{path, over_hops, over_place, over_passed, away, hop_count, too_far, first_of, next_hop, in_turn, asks_for, asked_for, out_of_turn}
use Rattle.law_walks_others.proofs.Below.coherent_memory.Words.{none_at}
use Rattle.law_walks_others.specs.Below.law_words_paths.paths.HeapStore.{GoesOn, HasPaths}
use Rattle.law_walks_others.proofs.Below.law_words_paths.paths.Alike.{IsShown, a_slot as shown_slot, an_object, leads_in_heap}
use Rattle.law_walks_others.proofs.Below.law_words_paths.paths.InState.{only_one}
use Rattle.law_walks_others.proofs.Below.law_words_paths.paths.Shown.{stands_there}
use Rattle.law_words_ends.specs.Below.law_words_paths.words.Reworded.{HasPlaces}
use Rattle.law_walks_others.proofs.Below.law_counts_sums.Cells.{self_state}
use Rattle.law_walks_others.proofs.Below.law_counts_sums.Each.{at_most}
use Rattle.law_words_ends.specs.Below.law_words_kept.reads.Reading.{LiesUnder}
use Rattle.law_words_ends.proofs.Below.law_words_kept.reads.Homes.{pointer_leads}
use Rattle.law_words_ends.proofs.Below.law_words_kept.reads.Lookups.{one_state}
use Rattle.law_walks_others.specs.Below.law_heap_still.events.Shows.{frame_of}
use Rattle.law_walks_others.proofs.Below.law_heap_still.events.Addresses.{InPlace}
use Rattle.law_walks_others.proofs.Below.law_heap_still.events.Prepares.{prepare_shows, Fine as Shows}
use Rattle.law_walks_others.proofs.Below.law_heap_still.events.Readied.{Readied}
use Rattle.law_words_ends.proofs.Below.law_words_kept.ends.Ends.{EndsAt}
use Rattle.law_words_ends.proofs.Below.law_words_kept.ends.Lying.{written_lie_there, ended_lies_there}
use Rattle.law_walks_others.proofs.Below.law_results_reads.Known.{Steps, standing, paths, goes}
use Rattle.law_walks_others.proofs.Below.law_results_reads.Pointing.{its_partition}
use Rattle.law_walks_others.proofs.Below.law_results_events.writes.Memory.{Leads, looks}
use Rattle.law_walks_others.proofs.Below.law_results_events.writes.Route.{Route, At, a_slot, a_cell}
use Rattle.law_walks_others.proofs.Below.law_results_events.writes.StepRoutes.{awake}
use Rattle.law_walks_others.proofs.Below.law_results_events.writes.Holders.{C, at, route, slot_away, object_away}
use Rattle.law_walks_others.proofs.Below.law_results_events.writes.Ends.{value_of_thread, RefAt as StandsAt, in_its_slot, on_its_top}
use Rattle.law_walks_own.proofs.steps.Borrows.{CleansBy, clean_value_asks, split}
use Rattle.law_walks_own.proofs.steps.Cell.{waits_there}
use Rattle.law_walks_own.proofs.steps.Cleaned.{IsCleaned, CleanFine, cleans, value_is, route_again, its_slot}
use Rattle.law_walks_own.proofs.steps.Own.{Own, me}
use Rattle.law_walks_own.proofs.steps.OwnSteps.{Facts, leads_by}
use Rattle.law_walks_own.proofs.steps.Asked.{waits_right, next_is, pull_asks}
use Rattle.law_walks_own.proofs.steps.Behind.{number_then, slot_then, same_place}
use Rattle.law_walks_own.proofs.steps.Lies.{same_partition}
use Rattle.law_walks_own.proofs.steps.There.{cell_is, sent_is}
use Rattle.law_walks_own.proofs.steps.Passed.{Walked, has_passed}
use Rattle.law_walks_own.proofs.steps.Through.{Stops, stops, stood}

-- what is asked for before the labels go
asked_before : (p : Prepared) (h : Hand) → and_then unlabelled p ≡ requested h → p ≡ requested h
asked_before (ready a sp) h e = absurd (cc e)
asked_before (requested a) h e = e
asked_before nothing h e = absurd (cc e)

reference_is : {a b : MutRef} → Some (value.Mut a) ≡ Some (value.Mut b) → a ≡ b
reference_is e = cc

-- two pointers whose words lead to one address are to one object
same_cell : {q b a e : ℕ} {d g : Cell} → lies q b d ≡ lies a e g → d ≡ g
same_cell e = cc

weighs_one : (q a : ℕ) (d : Cell) → 1 ≤ states (q, a) (lies q a d)
weighs_one q a d = let e = self_state q a in omega (arith, e)

pub one_object : (k : Cluster) → IsSound k → (b b2 : BoxPtr) → LiesUnder k b → LiesUnder k b2 → server_of b.word ≡ server_of b2.word → address_of b.word ≡ address_of b2.word → b.object ≡ b2.object
one_object k sound b b2 first second same_server same_address =
    let servers : second.server ≡ first.server = sym second.leads.server ∙ sym same_server ∙ first.leads.server in
    let addresses : second.address ≡ first.address = sym second.leads.address ∙ sym same_address ∙ first.leads.address in
    let among : Among (lies first.server first.address second.there.cell) (things_of k) = subst (λ a. Among (lies first.server a second.there.cell) (things_of k)) addresses (subst (λ q. Among (lies q second.address second.there.cell) (things_of k)) servers second.there.among) in
    let one : lies first.server first.address first.there.cell ≡ lies first.server first.address second.there.cell =
    only_one (states (first.server, first.address)) (lies first.server first.address first.there.cell) (lies first.server first.address second.there.cell) (things_of k) (one_state k sound (first.server, first.address)) first.there.among among
    (weighs_one first.server first.address first.there.cell) (weighs_one first.server first.address second.there.cell) in
    sym first.there.object ∙ ap (λ (e : Cell). e.object) (same_cell one) ∙ second.there.object

itself_so : (m : ℕ) → (m == m) ≡ true
itself_so m = let e : m ≡ m = refl in grind (arith, nat_tests, e)

different : (a b : ℕ) → (a ≡ b → ⊥) → (a == b) ≡ false
different a b ne = by (a == b) refl
  where
    by : (q : Bool) → (a == b) ≡ q → q ≡ false
    by true e = absurd (ne (grind (arith, nat_tests, e)))
    by false e = refl

module _ (k c : Cluster) (v : EntryView) (t : ℕ) (f : Facts k c v t) (h : Hand) (asked : prepare (access_of f.own.instruction f.own.thread) (record { work = begin_work f.own.server.rest; thread = f.own.thread }) ≡ requested h) (is : f.own.result ≡ wait_step h)
    (r : MutRef) (ended : path (sight k) (standing k f.own.number t f.own.server f.own.thread f.own.instruction f.own.steps) ≡ ends r)
    (it : EndsAt k (paths k f.own.number t f.own.server f.own.thread f.own.instruction f.own.steps) (standing k f.own.number t f.own.server f.own.thread f.own.instruction f.own.steps) (goes k f.own.number t f.own.server f.own.thread f.own.instruction f.own.steps) r)
    (sp : Spot) (at_it : StandsAt k f.own.number t f.own.server f.own.thread f.own.instruction f.own.steps r ended it sp) (access : access_of f.own.instruction f.own.thread ≡ Some (EndRef sp))
    (path_by : (u : ThreadState) (q : MutRef) → value_of_thread u sp ≡ Some (value.Mut q) → length u.slots ≡ length f.own.thread.slots → path_of (Some f.own.instruction) u ≡ ends q) where
  abbrev o : Own k c v t
  o = f.own

  abbrev after : HasPlaces c
  after = f.places

  abbrev n : ℕ
  n = o.number

  abbrev s : Server
  s = o.server

  abbrev y : ThreadState
  y = o.thread

  abbrev i : Instr
  i = o.instruction

  abbrev z : Steps k n t s y i
  z = o.steps

  abbrev x : Standing
  x = standing k n t s y i z

  abbrev p : HasPaths k
  p = paths k n t s y i z

  abbrev on : GoesOn k x
  on = goes k n t s y i z

  abbrev h0 : Hand
  h0 = record { work = begin_work s.rest; thread = y }

  abbrev G : Ground
  G = (sight k).ground

  abbrev tn : ℕ
  tn = y.number

  abbrev w : Lval
  w = r.holder

  abbrev it_now : Standing
  it_now = me k c v t o after

  abbrev Cells : ObjNo → Option Cell
  Cells = C k n t s y i z r ended it

  abbrev lead : ℕ → Option Location
  lead = at k n t s y i z r ended it

  passes : written_place (path (sight k) x) ≡ Some w
  passes = ap written_place ended

  way : (j : ℕ) → j ≤ w.depth → (l : Location) × (locate G tn w.slot j ≡ Some l)
  way j le = let q = route k n t s y i z r ended it in q.leads_there j le

  -- what is known in either case
  record Comes : Type 0 where
    walked : Walked k n t s y w h
    now : MutRef
    held : now.holder ≡ w
    there : value_of_thread h.thread sp ≡ Some (value.Mut now)
    size : length h.thread.slots ≡ length y.slots
    right : path (sight c) it_now ≡ ends now → out_of_turn (sight c) it_now o.result.hand.thread.phase ≡ 0

  -- A MESSAGE THAT ASKS FOR AN OBJECT

  asks_now : (a : Hand) (b : BoxPtr) (aw : Awaited) → aw ≡ record { word = b.word; object = b.object; comes = true; by_copy = false } → h ≡ ask_object b a → a.work.rest.number ≡ s.rest.number → 1 ≤ tot (asked_for o.result.hand.thread.number aw) (things_of c)
  asks_now a b aw e same number =
      let id : a.thread.number ≡ o.result.hand.thread.number = sym (ap (λ (d : Stepped). d.hand.thread.number) is ∙ ap (λ (u : Hand). u.thread.number) same) in
      let m = message.Move b.word b.object a.work.rest.number a.thread.number in
      let mine : Awaited = record { word = b.word; object = b.object; comes = true; by_copy = false } in
      let there = sent_is k c v t o after a.work.rest (server_of b.word) m (ap (λ (d : Stepped). d.hand.work.rest) is ∙ ap (λ (u : Hand). u.work.rest) same) number (asked_for o.result.hand.thread.number aw) in
      let asks : one (asks_for o.result.hand.thread.number aw m) ≡ 1 =
      ap (λ q. one (asks_for o.result.hand.thread.number q m)) e ∙ ap (λ q. one (asks_for o.result.hand.thread.number mine (message.Move b.word b.object a.work.rest.number q))) id ∙ pull_asks o.result.hand.thread.number mine a.work.rest.number refl in
      omega (arith, there, asks)

  at_start : (q : Spot) → StandsAt k n t s y i z r ended it q → value_at h0 q ≡ Some (value.Mut r)
  at_start _ (in_its_slot j e g) = e
  at_start _ (on_its_top e) = e

  stood_there : (q : Spot) → StandsAt k n t s y i z r ended it q → (u : ThreadState) → u.slots ≡ y.slots → u.temps ≡ y.temps → value_of_thread u q ≡ Some (value.Mut r)
  stood_there _ (in_its_slot j e g) u a b = ap (λ vs. slice_get vs j) a ∙ e
  stood_there _ (on_its_top e) u a b = ap last_of b ∙ e

  -- before its word is had nothing is passed anew
  by_clean : CleansBy r h0 h → Comes
  by_clean q =
      let threads : h.thread ≡ record y { phase = phase.WaitCell r.word } = ap (λ (u : Hand). u.thread) q.asked in
      let passed : h.thread.passed ≡ y.passed = ap (λ (u : ThreadState). u.passed) threads in
      let slots : h.thread.slots ≡ y.slots = ap (λ (u : ThreadState). u.slots) threads in
      let zz = z in
      let far : other (nat_le y.passed (hop_count (written_place (path (sight k) x)))) ≡ 0 = none_at (too_far (sight k)) x G.threads zz.coherent.sound.walks.passed_within on.among in
      let less : y.passed ≤ w.depth = at_most y.passed w.depth (sym (ap (λ u. other (nat_le y.passed (hop_count u))) passes) ∙ far) in record {
        walked = record {
          within = omega (arith, passed, less);
          framed = λ i2 j lt located. ap (λ vs. option_map frame_of (slice_get vs j)) slots;
          homes = λ i2 lt le l u located stands. absurd (omega (arith, lt, le, passed));
        };
        now = r;
        held = refl;
        there = stood_there sp at_it h.thread slots (ap (λ (u : ThreadState). u.temps) threads);
        size = ap length slots;
        right = λ path_now. clean_right q.asked path_now;
      }
    where
      clean_right : h ≡ ask_object (box_of r) h0 → path (sight c) it_now ≡ ends r → out_of_turn (sight c) it_now o.result.hand.thread.phase ≡ 0
      clean_right e path_now =
          let aw : Awaited = record { word = r.word; object = r.object; comes = true; by_copy = false } in
          let phase_is : o.result.hand.thread.phase ≡ phase.WaitCell r.word = ap (λ (d : Stepped). d.hand.thread.phase) is ∙ ap (λ (u : Hand). u.thread.phase) e in
          let turn : in_turn (sight c) it_now r.word (ends r) ≡ Some aw = ap (λ b. if b then first_of (to_write (Some (value.Mut r))) else next_hop (sight c) it_now r.holder) (itself_so r.word) in
          ap (out_of_turn (sight c) it_now) phase_is ∙ waits_right (sight c) it_now r.word aw (ap (in_turn (sight c) it_now r.word) path_now ∙ turn) refl (asks_now h0 (box_of r) aw refl e refl)

  module _ (h1 : Hand) (cl : IsCleaned k n t s y i z r ended it sp h1) (stopped : write_stars w.depth 0 h1 (in_slot w.slot) ≡ requested h) where
    abbrev r2 : Rest
    r2 = record s.rest { partition = h1.work.rest.partition }

    abbrev y2 : ThreadState
    y2 = record y { slots = h1.thread.slots; temps = h1.thread.temps }

    abbrev its_route : Route r2 y2 Cells lead w.depth
    its_route = route_again k n t s y i z r ended it sp at_it h1 cl

    abbrev Stop : Type 0
    Stop = Stops r2 y2 Cells lead w.depth its_route h1 cl.rest cl.thread w.slot refl h

    stop : Stop
    stop = stops r2 y2 Cells lead w.depth its_route h1 cl.rest cl.thread w.slot refl h stopped

    -- a slot of the way is as it was at the start
    slot_same : (j b : ℕ) → j ≤ w.depth → lead j ≡ Some (at_slot tn b) → slice_get h1.thread.slots b ≡ slice_get y.slots b
    slot_same j b le e = cl.slots b (λ q. slot_away k n t s y i z r ended it b j (its_slot k n t s y i z r ended it sp b at_it q) le e)

    stood_so : (j : ℕ) (l : Location) → j ≤ w.depth → lead j ≡ Some l → stood r2 y2 Cells lead w.depth its_route h1 cl.rest cl.thread w.slot refl l ≡ value_in G l
    stood_so j l le located = by l (leads_in_heap k p x on w.slot j l located).1 located
      where
        by : (l : Location) → IsShown k p x on l → lead j ≡ Some l → stood r2 y2 Cells lead w.depth its_route h1 cl.rest cl.thread w.slot refl l ≡ value_in G l
        by _ (shown_slot b) e = slot_same j b le e ∙ sym (ap (λ q. slot_of q b) (stands_there k p x on))
        by _ (an_object q a b) e = refl

    placed : InPlace h1.work.rest.number h1.work.rest.partition
    placed =
        let sane = cl.sane in
        let zz = z in
        let server : h1.work.rest.partition.server ≡ h1.work.rest.number = same_server in
        subst (λ q. InPlace q h1.work.rest.partition) server sane.placed
      where
        same_server : h1.work.rest.partition.server ≡ h1.work.rest.number
        same_server = (let zz = z in cl.server ∙ (its_partition k zz.coherent.sound n s zz.here).0 ∙ sym (ap (λ (q : Rest). q.number) cl.rest))

    readied : Readied h1 stop.hand
    readied =
        let st = stop in
        let good = subst (Shows h1) st.framed (prepare_shows h1 (Some (WriteTo (record { slot = w.slot; depth = st.number }))) placed) in good.0

    frames : map frame_of stop.hand.thread.slots ≡ map frame_of h1.thread.slots
    frames = let q = readied in ap (λ (u : ThreadState). map frame_of u.slots) q.thread ∙ q.slots_framed

    slots_are : h.thread.slots ≡ stop.hand.thread.slots
    slots_are = let st = stop in ap (λ (u : Hand). u.thread.slots) st.asked

    partition_now : o.result.hand.work.rest.partition ≡ stop.hand.work.rest.partition
    partition_now =
        let st = stop in
        ap (λ (d : Stepped). d.hand.work.rest.partition) is ∙ ap (λ (u : Hand). u.work.rest.partition) st.asked ∙ same_partition st.hand.work.rest (server_of st.pointer.word) (message.Move st.pointer.word st.pointer.object st.hand.work.rest.number st.hand.thread.number)

    -- the pointer at which it stops is there afterwards
    hop_now : hop_at (sight c).ground tn w stop.number ≡ Some stop.pointed
    hop_now =
        let st = stop in
        same_place k c tn w (leads_by k c v t f h is w) st.number (let l = st.less in omega (arith, l)) st.location st.located ∙ by st.spot st.location st.spotted st.held
      where
        by : (sp2 : Spot) (l : Location) → At r2 y2 Cells lead stop.hand.work.rest.partition stop.number sp2 l → value_at stop.hand sp2 ≡ Some stop.pointed → value_in (sight c).ground l ≡ Some stop.pointed
        by _ _ (a_slot b) held = slot_then k c v t o after h is b ∙ ap (λ vs. slice_get vs b) slots_are ∙ held
        by _ _ (a_cell u q a e leads there object behind) held =
            let here : Leads o.result.hand.work.rest.partition u e = subst (λ b. Leads b u e) (sym partition_now) leads in
            let found : value_of (cell_of (sight c).ground.cells a) ≡ Some (value.Own e.value) = subst (λ b. value_of (cell_of (sight c).ground.cells b) ≡ Some (value.Own e.value)) object (cell_is k c v t o after u e here) in
            found ∙ sym (ap cell_value (looks stop.hand.work.rest.partition u e leads)) ∙ held

    -- the reference has another word than that pointer
    other_word : cl.reference.word ≡ stop.pointer.word → ⊥
    other_word same = by cl.led
      where
        by : (server_of cl.reference.word ≡ s.rest.number) ⊎ ((server_of cl.reference.word ≡ server_of r.word) × (address_of cl.reference.word ≡ address_of r.word)) → ⊥
        by (inl here) =
            let st = stop in
            let mine : server_of st.pointer.word ≡ s.rest.number = ap server_of (sym same) ∙ here in
            let test : (server_of st.pointer.word == s.rest.number) ≡ true = grind (arith, nat_tests, mine) in
            absurd (cc (sym test ∙ st.elsewhere))
        by (inr led) =
            let st = stop in
            let zz = z in
            let less : st.number < w.depth = st.less in
            let stands : value_in G st.location ≡ Some st.pointed = sym (stood_so st.number st.location (omega (arith, less)) st.located) ∙ st.stands in
            let first : LiesUnder k (record { word = r.word; object = r.object }) = ended_lies_there k zz.coherent x r on (awake k n t s y i z) ended in
            let second : LiesUnder k st.pointer = written_lie_there k zz.coherent x w st.number st.location st.pointed st.pointer on (awake k n t s y i z) passes less st.located stands st.points in
            let objects : r.object ≡ st.pointer.object = one_object k zz.coherent.sound (record { word = r.word; object = r.object }) st.pointer first second (sym led.0 ∙ ap server_of same) (sym led.1 ∙ ap address_of same) in
            let next : lead (suc st.number) ≡ Some (in_cell st.pointer.object) = ap (λ q. leads_to tn (value_behind G q)) st.located ∙ ap (leads_to tn) stands ∙ pointer_leads tn st.pointed st.pointer st.points in
            object_away k n t s y i z r ended it (suc st.number) (omega (arith, less)) (next ∙ ap (λ q. Some (in_cell q)) (sym objects))

    way_right : path (sight c) it_now ≡ ends cl.reference → out_of_turn (sight c) it_now o.result.hand.thread.phase ≡ 0
    way_right path_now =
        let st = stop in
        let aw : Awaited = record { word = st.pointer.word; object = st.pointer.object; comes = true; by_copy = false } in
        let threads : o.result.hand.thread ≡ h.thread = ap (λ (d : Stepped). d.hand.thread) is in
        let phase_is : o.result.hand.thread.phase ≡ phase.WaitCell st.pointer.word = ap (λ (u : ThreadState). u.phase) threads ∙ ap (λ (u : Hand). u.thread.phase) st.asked in
        let passed : o.result.hand.thread.passed ≡ st.number = ap (λ (u : ThreadState). u.passed) threads ∙ st.passed in
        let less : o.result.hand.thread.passed < w.depth = (let l = st.less in omega (arith, l, passed)) in
        let hop : hop_at (sight c).ground o.result.hand.thread.number w o.result.hand.thread.passed ≡ Some st.pointed = ap (λ q. hop_at (sight c).ground q w o.result.hand.thread.passed) (number_then k c v t o) ∙ ap (hop_at (sight c).ground tn w) passed ∙ hop_now in
        let next : next_hop (sight c) it_now w ≡ Some aw = next_is (sight c) it_now w st.pointed aw (grind (arith, nat_tests, less)) hop st.awaited in
        let turn : in_turn (sight c) it_now st.pointer.word (ends cl.reference) ≡ Some aw =
        ap (λ b. if b then first_of (to_write (Some (value.Mut cl.reference))) else next_hop (sight c) it_now cl.reference.holder) (different cl.reference.word st.pointer.word other_word) ∙ ap (next_hop (sight c) it_now) cl.holder ∙ next in
        ap (out_of_turn (sight c) it_now) phase_is
        ∙ waits_right (sight c) it_now st.pointer.word aw (ap (in_turn (sight c) it_now st.pointer.word) path_now ∙ turn) refl (asks_now (load_at st.spot st.hand) st.pointer aw refl st.asked (ap (λ (q : Rest). q.number) (let a = st.writing in a.rest)))

    by_way : Comes
    by_way =
        let st = stop in
        let less = st.less in
        let passed = st.passed in record {
          walked = record {
            within = omega (arith, less, passed);
            framed = λ i2 j lt located.
                sym (slice_get-map frame_of h.thread.slots j) ∙ ap (λ vs. slice_get (map frame_of vs) j) slots_are ∙ ap (λ vs. slice_get vs j) frames ∙ slice_get-map frame_of h1.thread.slots j
                ∙ ap (option_map frame_of) (slot_same i2 j (omega (arith, lt, less, passed)) located);
            homes = λ j lt le l u located stands. st.before j (subst (λ q. j < q) passed lt) le l u located (stood_so j l (omega (arith, lt, less, passed)) located ∙ stands);
          };
          now = cl.reference;
          held = cl.holder;
          there = by_spot sp at_it cl.there;
          size = ap length slots_are ∙ (let a = st.writing in a.size) ∙ cl.size;
          right = way_right;
        }
      where
        by_spot : (q : Spot) → StandsAt k n t s y i z r ended it q → value_of_thread h1.thread q ≡ Some (value.Mut cl.reference) → value_of_thread h.thread q ≡ Some (value.Mut cl.reference)
        by_spot _ (in_its_slot j e g) there =
            let st = stop in
            let a = st.writing in
            ap (λ vs. slice_get vs j) slots_are ∙ a.slots j (λ b lt e2. slot_away k n t s y i z r ended it j b g (let l = st.less in omega (arith, lt, l)) e2) ∙ there
        by_spot _ (on_its_top e) there =
            let st = stop in
            let a = st.writing in
            ap (λ (u : Hand). last_of u.thread.temps) st.asked ∙ ap (λ (u : ThreadState). last_of u.temps) a.thread ∙ there

  followed : (h1 : Hand) → IsCleaned k n t s y i z r ended it sp h1 → follow_ended (value_at h1 sp) h1 ≡ requested h → Comes
  followed h1 cl e =
      let here : value_at h1 sp ≡ Some (value.Mut cl.reference) = value_is k n t s y i z r ended it sp h1 at_it ∙ cl.there in
      by (finish_word cl.reference) refl (sym (ap (λ u. follow_ended u h1) here) ∙ e)
    where
      by : (q : Option ℕ) → finish_word cl.reference ≡ q → follow_holder cl.reference q h1 ≡ requested h → Comes
      by None g u = absurd (cc u)
      by (Some word) g u = by_way h1 cl (sym (ap (λ (q : Lval). write_stars q.depth 0 h1 (in_slot q.slot)) cl.holder) ∙ u)

  comes : Comes
  comes =
      let first : and_then (λ h2 s2. follow_ended (value_at h2 s2) h2) (clean_value sp (value_at h0 sp) h0) ≡ requested h = asked_before (and_then (λ h2 s2. follow_ended (value_at h2 s2) h2) (clean_value sp (value_at h0 sp) h0)) h (sym (ap (λ a. prepare a h0) access) ∙ asked) in
      split (clean_value sp (value_at h0 sp) h0) (λ h2 s2. follow_ended (value_at h2 s2) h2) h Comes first
      (λ e. (let q = clean_value_asks sp (value_at h0 sp) h0 h e in by_clean (subst (λ (u : MutRef). CleansBy u h0 h) (reference_is (sym q.1 ∙ at_start sp at_it)) q.2)))
      (λ h1 b e g.
      (let fine = subst (CleanFine k n t s y i z r ended it sp) (sym (ap (λ u. clean_value sp u h0) (at_start sp at_it)) ∙ e) (cleans k n t s y i z r ended it sp at_it) in
      followed h1 fine.1 (sym (ap (λ u. follow_ended (value_at h1 u) h1) fine.0) ∙ g)))

  -- its path afterwards
  path_then : path (sight c) it_now ≡ ends comes.now
  path_then =
      let zz = z in
      let co = comes in
      let threads : o.result.hand.thread ≡ h.thread = ap (λ (d : Stepped). d.hand.thread) is in
      let pc : o.result.hand.thread.pc ≡ y.pc = ap (λ (u : ThreadState). u.pc) threads ∙ (waits_there (access_of i y) h0 h asked).0 in
      ap (λ cs. path_of (slice_get cs o.result.hand.thread.pc) o.result.hand.thread) f.code ∙ ap (λ u. path_of (slice_get k.code u) o.result.hand.thread) pc ∙ ap (λ u. path_of u o.result.hand.thread) zz.code ∙ ap (path_of (Some i)) threads
      ∙ path_by h.thread co.now co.there co.size

  pub end_passed : over_passed (sight c) (away (sight c)) it_now ≡ 0
  end_passed =
      let co = comes in
      let leads_so = leads_by k c v t f h is w in
      ap (λ q. over_place (sight c).ground o.result.hand.thread.number o.result.hand.thread.passed (away (sight c) s.rest.number) (written_place q)) path_then
      ∙ ap (λ (q : Lval). over_hops (sight c).ground o.result.hand.thread.number q.slot (away (sight c) s.rest.number) o.result.hand.thread.passed) co.held
      ∙ ap (λ q. over_hops (sight c).ground q w.slot (away (sight c) s.rest.number) o.result.hand.thread.passed) (number_then k c v t o)
      ∙ ap (λ (d : Stepped). over_hops (sight c).ground tn w.slot (away (sight c) s.rest.number) d.hand.thread.passed) is ∙ has_passed k c v t o after h asked is w passes leads_so way co.walked

  pub end_turn : out_of_turn (sight c) it_now o.result.hand.thread.phase ≡ 0
  end_turn = let co = comes in co.right path_then
