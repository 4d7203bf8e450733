-- A step that ends a mutable reference and asks for something on its way: of what it has passed of its holder's place no copy exists.
use Rattle.std.proofs.Common.{◌≡◌, ℕ, ◌<◌, ◌≤◌, nat_le, length, Option, Some, None, refl, sym, ap, subst, ◌∙◌, arith}
use Rattle.std.specs.Prelude.{slice_get}
use Rattle.law_copies_kept.specs.Below.fr_base.Lists.{last_of}
use Rattle.law_copies_kept.specs.Below.fr_base.declared.name.ObjNo.{ObjNo}
use Rattle.law_copies_kept.specs.Below.fr_base.declared.place.Lval.{Lval}
use Rattle.law_copies_kept.specs.Below.fr_base.declared.instruction.Instr.{Instr}
use Rattle.law_copies_kept.specs.Below.global_addr.Words.{server_of}
use Rattle.law_copies_kept.specs.Below.heap_partition.declared.value.Cell.{Cell}
use Rattle.law_copies_kept.specs.Below.journal.View.{EntryView}
use Rattle.law_copies_kept.specs.Below.mut_borrow.Refs.{finish_word}
use Rattle.law_copies_kept.specs.Below.mut_borrow.declared.mutable.MutRef.{MutRef}
use Rattle.law_copies_kept.specs.Below.thread_state.View.{ThreadState}
use Rattle.law_copies_kept.specs.Below.thread_state.declared.phase.Phase.TheVariants as phase
use Rattle.law_copies_kept.specs.Below.thread_state.declared.value.Value.TheVariants as value
use Rattle.law_copies_kept.specs.Below.server_msgs.declared.message.Message.TheVariants as message
use Rattle.law_copies_kept.specs.Below.server_model.Servers.{Rest, Server, Cluster}
use Rattle.law_copies_kept.specs.Below.server_model.Work.{Hand}
use Rattle.law_copies_kept.specs.Below.server_model.Places.{Spot, in_slot, value_at}
use Rattle.law_copies_kept.specs.Below.server_model.Prepare.{EndRef, Prepared, ready, requested, nothing, and_then, unlabelled, follow_ended, follow_holder, clean_value, access_of, prepare, write_stars}
use Rattle.law_copies_kept.specs.Below.server_model.Events.{Stepped, begin_work, wait_step}
use Rattle.law_copies_kept.specs.Below.coherent_memory.Names.{other}
use Rattle.law_copies_kept.specs.Below.coherent_memory.Things.{Location, at_slot}
use Rattle.law_copies_kept.specs.Below.coherent_memory.Follow.{Standing, Ground, value_in, slot_of, locate}
use Rattle.law_copies_kept.specs.Below.coherent_memory.Paths.{ends, path_of, written_place}
use Rattle.law_copies_kept.specs.Below.coherent_memory.Sight.{sight}
use Rattle.law_copies_kept.specs.Below.coherent_memory.Walking.{path, over_hops, over_place, over_passed, copied_box, hop_count, too_far}
use Rattle.law_copies_kept.proofs.Below.coherent_memory.Words.{none_at}
use Rattle.law_copies_kept.specs.Below.law_words_paths.paths.HeapStore.{GoesOn, HasPaths}
use Rattle.law_copies_kept.proofs.Below.law_words_paths.paths.Alike.{IsShown, a_slot as shown_slot, an_object, leads_in_heap}
use Rattle.law_copies_kept.proofs.Below.law_words_paths.paths.Shown.{stands_there}
use Rattle.law_walks_own.specs.Below.law_words_paths.words.Reworded.{HasPlaces}
use Rattle.law_copies_kept.proofs.Below.law_counts_sums.Each.{at_most}
use Rattle.law_walks_others.proofs.Below.law_words_kept.ends.Ends.{EndsAt}
use Rattle.law_copies_kept.proofs.Below.law_results_reads.Known.{Steps, standing, paths, goes}
use Rattle.law_walks_others.proofs.Below.law_results_events.writes.Memory.{Leads}
use Rattle.law_walks_others.proofs.Below.law_results_events.writes.Route.{Route}
use Rattle.law_walks_others.proofs.Below.law_results_events.writes.Holders.{C, at, route, slot_away}
use Rattle.law_walks_others.proofs.Below.law_results_events.writes.Ends.{value_of_thread, RefAt as StandsAt, in_its_slot, on_its_top}
use Rattle.law_walks_others.proofs.Below.law_words_asked.writes.Later.{Later, later_itself}
use Rattle.law_walks_own.proofs.steps.Behind.{number_then, slot_then}
use Rattle.law_walks_own.proofs.steps.Borrows.{CleansBy, clean_value_asks, split}
use Rattle.law_walks_own.proofs.steps.Cell.{waits_there}
use Rattle.law_walks_own.proofs.steps.Cleaned.{IsCleaned, CleanFine, cleans, value_is, route_again, its_slot}
use Rattle.law_walks_own.proofs.steps.Lies.{same_partition}
use Rattle.law_walks_own.proofs.steps.Own.{Own, me}
use Rattle.law_walks_own.proofs.steps.OwnSteps.{Facts, leads_by}
use Rattle.law_walks_own.proofs.steps.There.{cell_is}
use Rattle.law_walks_own.proofs.steps.Through.{Stops, stops, stood}
use Rattle.law_walks_own.proofs.passed.Stars.{Words, Behind, all_good, were_good}
use Rattle.law_walks_own.proofs.passed.Stands.{NoCopy, IsOwn, own_slot, a_cell, none_over}
use Rattle.law_walks_own.proofs.passed.Start.{Bare, renewed_good, next_good, before_good}
use Rattle.law_walks_own.proofs.passed.Clean.{OfThread, of_slot, of_top, clean_later}

-- what is asked for before the labels go
asked_before : (p : Prepared) (h : Hand) → and_then unlabelled p ≡ requested h → p ≡ requested h
asked_before (ready a sp) h e = absurd (cc e)
asked_before (requested a) h e = e
asked_before nothing h e = absurd (cc e)

reference_is : {a b : MutRef} → Some (value.Mut a) ≡ Some (value.Mut b) → a ≡ b
reference_is e = cc

module _ (k c : Cluster) (v : EntryView) (t : ℕ) (f : Facts k c v t) (bare : Bare k c) (h : Hand) (asked : prepare (access_of f.own.instruction f.own.thread) (record { work = begin_work f.own.server.rest; thread = f.own.thread }) ≡ requested h) (is : f.own.result ≡ wait_step h)
    (r : MutRef) (ended : path (sight k) (standing k f.own.number t f.own.server f.own.thread f.own.instruction f.own.steps) ≡ ends r)
    (it : EndsAt k (paths k f.own.number t f.own.server f.own.thread f.own.instruction f.own.steps) (standing k f.own.number t f.own.server f.own.thread f.own.instruction f.own.steps) (goes k f.own.number t f.own.server f.own.thread f.own.instruction f.own.steps) r)
    (sp : Spot) (at_it : StandsAt k f.own.number t f.own.server f.own.thread f.own.instruction f.own.steps r ended it sp) (access : access_of f.own.instruction f.own.thread ≡ Some (EndRef sp))
    (path_by : (u : ThreadState) (q : MutRef) → value_of_thread u sp ≡ Some (value.Mut q) → length u.slots ≡ length f.own.thread.slots → path_of (Some f.own.instruction) u ≡ ends q) where
  abbrev o : Own k c v t
  o = f.own

  abbrev after : HasPlaces c
  after = f.places

  abbrev n : ℕ
  n = o.number

  abbrev s : Server
  s = o.server

  abbrev y : ThreadState
  y = o.thread

  abbrev i : Instr
  i = o.instruction

  abbrev z : Steps k n t s y i
  z = o.steps

  abbrev x : Standing
  x = standing k n t s y i z

  abbrev p : HasPaths k
  p = paths k n t s y i z

  abbrev on : GoesOn k x
  on = goes k n t s y i z

  abbrev h0 : Hand
  h0 = record { work = begin_work s.rest; thread = y }

  abbrev G : Ground
  G = (sight k).ground

  abbrev G2 : Ground
  G2 = (sight c).ground

  abbrev tn : ℕ
  tn = y.number

  abbrev w : Lval
  w = r.holder

  abbrev it_now : Standing
  it_now = me k c v t o after

  abbrev Cells : ObjNo → Option Cell
  Cells = C k n t s y i z r ended it

  abbrev lead : ℕ → Option Location
  lead = at k n t s y i z r ended it

  abbrev first_route : Route s.rest y Cells lead w.depth
  first_route = route k n t s y i z r ended it

  passes : written_place (path (sight k) x) ≡ Some w
  passes = ap written_place ended

  own : (l : Location) → IsShown k p x on l → IsOwn tn l
  own _ (shown_slot b) = own_slot b
  own _ (an_object q a b) = a_cell q

  way : (j : ℕ) → j < w.depth → (l : Location) × (lead j ≡ Some l) × (locate G2 tn w.slot j ≡ Some l) × IsOwn tn l
  way j lt =
      let rt = first_route in
      let q = rt.leads_there j (omega (arith, lt)) in
      (q.0, q.1, leads_by k c v t f h is w j (omega (arith, lt)) ∙ q.1, own q.0 (leads_in_heap k p x on w.slot j q.0 q.1).1)

  -- what is known in either case
  record Comes : Type 0 where
    none : over_hops G2 tn w.slot (copied_box (sight c) s.rest.number) h.thread.passed ≡ 0
    now : MutRef
    held : now.holder ≡ w
    there : value_of_thread h.thread sp ≡ Some (value.Mut now)
    size : length h.thread.slots ≡ length y.slots

  at_start : (q : Spot) → StandsAt k n t s y i z r ended it q → value_at h0 q ≡ Some (value.Mut r)
  at_start _ (in_its_slot j e g) = e
  at_start _ (on_its_top e) = e

  of_thread : (q : Spot) → StandsAt k n t s y i z r ended it q → OfThread q
  of_thread _ (in_its_slot j e g) = of_slot j
  of_thread _ (on_its_top e) = of_top

  stood_there : (q : Spot) → StandsAt k n t s y i z r ended it q → (u : ThreadState) → u.slots ≡ y.slots → u.temps ≡ y.temps → value_of_thread u q ≡ Some (value.Mut r)
  stood_there _ (in_its_slot j e g) u a b = ap (λ vs. slice_get vs j) a ∙ e
  stood_there _ (on_its_top e) u a b = ap last_of b ∙ e

  -- BEFORE ITS WORD IS HAD nothing is passed anew

  -- what stood on the route
  stood_first : (j : ℕ) (l : Location) → lead j ≡ Some l → stood s.rest y Cells lead w.depth first_route h0 refl refl w.slot refl l ≡ value_in G l
  stood_first j l located = by l (leads_in_heap k p x on w.slot j l located).1
    where
      by : (l : Location) → IsShown k p x on l → stood s.rest y Cells lead w.depth first_route h0 refl refl w.slot refl l ≡ value_in G l
      by _ (shown_slot b) = sym (ap (λ q. slot_of q b) (stands_there k p x on))
      by _ (an_object q a b) = refl

  first_words : Words s.rest y Cells lead w.depth first_route h0 refl refl w.slot refl s.rest.partition (NoCopy c)
  first_words = record {
    later = later_itself s.rest.partition;
    next = λ j l b lt located stands. next_good k c bare n t s y i z w passes j l b located (sym (stood_first j l located) ∙ stands) lt;
    renewed = renewed_good k c bare n t s y i z;
    before = λ j l b less lt located stands. before_good k c bare n t s y i z w passes j l b located (sym (stood_first j l located) ∙ stands) less;
  }

  by_clean : CleansBy r h0 h → Comes
  by_clean q =
      let threads : h.thread ≡ record y { phase = phase.WaitCell r.word } = ap (λ (u : Hand). u.thread) q.asked in
      let passed : h.thread.passed ≡ y.passed = ap (λ (u : ThreadState). u.passed) threads in
      let slots : h.thread.slots ≡ y.slots = ap (λ (u : ThreadState). u.slots) threads in
      let zz = z in
      let far : other (nat_le y.passed (hop_count (written_place (path (sight k) x)))) ≡ 0 = none_at (too_far (sight k)) x G.threads zz.coherent.sound.walks.passed_within on.among in
      let less : y.passed ≤ w.depth = at_most y.passed w.depth (sym (ap (λ u. other (nat_le y.passed (hop_count u))) passes) ∙ far) in
      let partition : o.result.hand.work.rest.partition ≡ s.rest.partition = ap (λ (d : Stepped). d.hand.work.rest.partition) is ∙ ap (λ (u : Hand). u.work.rest.partition) q.asked ∙ same_partition h0.work.rest (server_of r.word) (message.Move r.word r.object s.rest.number tn) in record {
        none =
            ap (over_hops G2 tn w.slot (copied_box (sight c) s.rest.number)) passed
            ∙ none_over c tn w.slot s.rest.number lead y.slots s.rest.partition (λ m. slot_then k c v t o after h is m ∙ ap (λ vs. slice_get vs m) slots) (λ u e l. cell_is k c v t o after u e (subst (λ b. Leads b u e) (sym partition) l)) y.passed
            (λ j lt. way j (omega (arith, lt, less))) (λ j lt l located. were_good s.rest y Cells lead w.depth first_route h0 refl refl w.slot refl s.rest.partition (NoCopy c) first_words.before j lt (omega (arith, lt, less)) l located);
        now = r;
        held = refl;
        there = stood_there sp at_it h.thread slots (ap (λ (u : ThreadState). u.temps) threads);
        size = ap length slots;
      }

  -- ON ITS WAY

  module _ (h1 : Hand) (cl : IsCleaned k n t s y i z r ended it sp h1) (later : Later s.rest.partition h1.work.rest.partition) (stopped : write_stars w.depth 0 h1 (in_slot w.slot) ≡ requested h) where
    abbrev r2 : Rest
    r2 = record s.rest { partition = h1.work.rest.partition }

    abbrev y2 : ThreadState
    y2 = record y { slots = h1.thread.slots; temps = h1.thread.temps }

    abbrev its_route : Route r2 y2 Cells lead w.depth
    its_route = route_again k n t s y i z r ended it sp at_it h1 cl

    stop : Stops r2 y2 Cells lead w.depth its_route h1 cl.rest cl.thread w.slot refl h
    stop = stops r2 y2 Cells lead w.depth its_route h1 cl.rest cl.thread w.slot refl h stopped

    -- a slot of the way is as it was at the start
    slot_same : (j b : ℕ) → j ≤ w.depth → lead j ≡ Some (at_slot tn b) → slice_get h1.thread.slots b ≡ slice_get y.slots b
    slot_same j b le e = cl.slots b (λ q. slot_away k n t s y i z r ended it b j (its_slot k n t s y i z r ended it sp b at_it q) le e)

    stood_so : (j : ℕ) (l : Location) → j ≤ w.depth → lead j ≡ Some l → stood r2 y2 Cells lead w.depth its_route h1 cl.rest cl.thread w.slot refl l ≡ value_in G l
    stood_so j l le located = by l (leads_in_heap k p x on w.slot j l located).1 located
      where
        by : (l : Location) → IsShown k p x on l → lead j ≡ Some l → stood r2 y2 Cells lead w.depth its_route h1 cl.rest cl.thread w.slot refl l ≡ value_in G l
        by _ (shown_slot b) e = slot_same j b le e ∙ sym (ap (λ q. slot_of q b) (stands_there k p x on))
        by _ (an_object q a b) e = refl

    words : Words r2 y2 Cells lead w.depth its_route h1 cl.rest cl.thread w.slot refl s.rest.partition (NoCopy c)
    words = record {
      later = later;
      next = λ j l b lt located stands. next_good k c bare n t s y i z w passes j l b located (sym (stood_so j l (omega (arith, lt)) located) ∙ stands) lt;
      renewed = renewed_good k c bare n t s y i z;
      before = λ j l b less lt located stands. before_good k c bare n t s y i z w passes j l b located (sym (stood_so j l (omega (arith, lt)) located) ∙ stands) less;
    }

    behind : Behind r2 y2 Cells lead w.depth its_route h1 cl.rest cl.thread w.slot refl s.rest.partition (NoCopy c) words stop.number stop.hand
    behind = let st = stop in let l = st.less in all_good r2 y2 Cells lead w.depth its_route h1 cl.rest cl.thread w.slot refl s.rest.partition (NoCopy c) words st.number (omega (arith, l)) st.hand st.spot st.framed

    slots_are : h.thread.slots ≡ stop.hand.thread.slots
    slots_are = let st = stop in ap (λ (u : Hand). u.thread.slots) st.asked

    partition_now : o.result.hand.work.rest.partition ≡ stop.hand.work.rest.partition
    partition_now =
        let st = stop in
        ap (λ (d : Stepped). d.hand.work.rest.partition) is ∙ ap (λ (u : Hand). u.work.rest.partition) st.asked ∙ same_partition st.hand.work.rest (server_of st.pointer.word) (message.Move st.pointer.word st.pointer.object st.hand.work.rest.number st.hand.thread.number)

    by_way : Comes
    by_way =
        let st = stop in
        let l = st.less in record {
          none =
              ap (over_hops G2 tn w.slot (copied_box (sight c) s.rest.number)) st.passed
              ∙ none_over c tn w.slot s.rest.number lead st.hand.thread.slots st.hand.work.rest.partition (λ m. slot_then k c v t o after h is m ∙ ap (λ vs. slice_get vs m) slots_are)
              (λ u e q. cell_is k c v t o after u e (subst (λ b. Leads b u e) (sym partition_now) q)) st.number (λ j lt. way j (omega (arith, lt, l))) (λ j lt a located. (let b = behind in b.good j lt a located));
          now = cl.reference;
          held = cl.holder;
          there = by_spot sp at_it cl.there;
          size = ap length slots_are ∙ (let a = st.writing in a.size) ∙ cl.size;
        }
      where
        by_spot : (q : Spot) → StandsAt k n t s y i z r ended it q → value_of_thread h1.thread q ≡ Some (value.Mut cl.reference) → value_of_thread h.thread q ≡ Some (value.Mut cl.reference)
        by_spot _ (in_its_slot j e g) there =
            let st = stop in
            let a = st.writing in
            ap (λ vs. slice_get vs j) slots_are ∙ a.slots j (λ b lt e2. slot_away k n t s y i z r ended it j b g (let l = st.less in omega (arith, lt, l)) e2) ∙ there
        by_spot _ (on_its_top e) there =
            let st = stop in
            let a = st.writing in
            ap (λ (u : Hand). last_of u.thread.temps) st.asked ∙ ap (λ (u : ThreadState). last_of u.temps) a.thread ∙ there

  followed : (h1 : Hand) → IsCleaned k n t s y i z r ended it sp h1 → Later s.rest.partition h1.work.rest.partition → follow_ended (value_at h1 sp) h1 ≡ requested h → Comes
  followed h1 cl later e =
      let here : value_at h1 sp ≡ Some (value.Mut cl.reference) = value_is k n t s y i z r ended it sp h1 at_it ∙ cl.there in
      by (finish_word cl.reference) refl (sym (ap (λ u. follow_ended u h1) here) ∙ e)
    where
      by : (q : Option ℕ) → finish_word cl.reference ≡ q → follow_holder cl.reference q h1 ≡ requested h → Comes
      by None g u = absurd (cc u)
      by (Some word) g u = by_way h1 cl later (sym (ap (λ (q : Lval). write_stars q.depth 0 h1 (in_slot q.slot)) cl.holder) ∙ u)

  comes : Comes
  comes =
      let first : and_then (λ h2 s2. follow_ended (value_at h2 s2) h2) (clean_value sp (value_at h0 sp) h0) ≡ requested h = asked_before (and_then (λ h2 s2. follow_ended (value_at h2 s2) h2) (clean_value sp (value_at h0 sp) h0)) h (sym (ap (λ a. prepare a h0) access) ∙ asked) in
      split (clean_value sp (value_at h0 sp) h0) (λ h2 s2. follow_ended (value_at h2 s2) h2) h Comes first
      (λ e. (let q = clean_value_asks sp (value_at h0 sp) h0 h e in by_clean (subst (λ (u : MutRef). CleansBy u h0 h) (reference_is (sym q.1 ∙ at_start sp at_it)) q.2)))
      (λ h1 b e g.
      (let is_clean : clean_value sp (Some (value.Mut r)) h0 ≡ ready h1 b = sym (ap (λ u. clean_value sp u h0) (at_start sp at_it)) ∙ e in
      let fine = subst (CleanFine k n t s y i z r ended it sp) is_clean (cleans k n t s y i z r ended it sp at_it) in
      followed h1 fine.1 (clean_later sp (of_thread sp at_it) r h0 h1 b is_clean) (sym (ap (λ u. follow_ended (value_at h1 u) h1) fine.0) ∙ g)))

  -- its path afterwards
  path_then : path (sight c) it_now ≡ ends comes.now
  path_then =
      let zz = z in
      let co = comes in
      let threads : o.result.hand.thread ≡ h.thread = ap (λ (d : Stepped). d.hand.thread) is in
      let pc : o.result.hand.thread.pc ≡ y.pc = ap (λ (u : ThreadState). u.pc) threads ∙ (waits_there (access_of i y) h0 h asked).0 in
      ap (λ cs. path_of (slice_get cs o.result.hand.thread.pc) o.result.hand.thread) f.code ∙ ap (λ u. path_of (slice_get k.code u) o.result.hand.thread) pc ∙ ap (λ u. path_of u o.result.hand.thread) zz.code ∙ ap (path_of (Some i)) threads
      ∙ path_by h.thread co.now co.there co.size

  pub end_bare : over_passed (sight c) (copied_box (sight c)) (me k c v t f.own f.places) ≡ 0
  end_bare =
      let co = comes in
      ap (λ q. over_place G2 o.result.hand.thread.number o.result.hand.thread.passed (copied_box (sight c) s.rest.number) (written_place q)) path_then
      ∙ ap (λ (q : Lval). over_hops G2 o.result.hand.thread.number q.slot (copied_box (sight c) s.rest.number) o.result.hand.thread.passed) co.held
      ∙ ap (λ q. over_hops G2 q w.slot (copied_box (sight c) s.rest.number) o.result.hand.thread.passed) (number_then k c v t o)
      ∙ ap (λ (d : Stepped). over_hops G2 tn w.slot (copied_box (sight c) s.rest.number) d.hand.thread.passed) is ∙ co.none
