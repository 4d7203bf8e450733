-- A step that ends a mutable reference and asks for something: it has passed no fewer hops of its holder's place, and the reference leads no farther than before.
use Rattle.std.proofs.Common.{◌≡◌, ◌≤◌, ◌⊎◌, inl, inr, ℕ, zero, suc, ◌-◌, ◌<◌, ◌==◌, not, ◌||◌, true, false, length, Option, Some, None, refl, sym, ap, subst, ◌∙◌, arith}
use Rattle.std.specs.Prelude.{slice_get}
use Rattle.std.proofs.lemmas.Bool.Decides.{nat_tests}
use Rattle.law_length_asks.specs.Below.law_walks_others.Below.fr_base.Lists.{last_of}
use Rattle.law_length_asks.specs.Below.law_walks_others.Below.fr_base.declared.name.ObjNo.{ObjNo}
use Rattle.law_length_asks.specs.Below.law_walks_others.Below.fr_base.declared.place.Lval.{Lval}
use Rattle.law_length_asks.specs.Below.law_walks_others.Below.fr_base.declared.instruction.Instr.{Instr}
use Rattle.law_length_asks.specs.Below.law_walks_others.Below.global_addr.Words.{server_of, address_of}
use Rattle.law_length_asks.specs.Below.law_walks_others.Below.heap_partition.declared.value.Cell.{Cell}
use Rattle.law_length_asks.specs.Below.law_walks_others.Below.journal.View.{EntryView}
use Rattle.law_length_asks.specs.Below.law_walks_others.Below.mut_borrow.Refs.{finish_word}
use Rattle.law_length_asks.specs.Below.law_walks_others.Below.mut_borrow.declared.mutable.MutRef.{MutRef}
use Rattle.law_length_asks.specs.Below.law_walks_others.Below.thread_state.View.{ThreadState}
use Rattle.law_length_asks.specs.Below.law_walks_others.Below.thread_state.declared.phase.Phase.{Phase}
use Rattle.law_length_asks.specs.Below.law_walks_others.Below.thread_state.declared.phase.Phase.TheVariants as phase
use Rattle.law_length_asks.specs.Below.law_walks_others.Below.thread_state.declared.value.Value.TheVariants as value
use Rattle.law_length_asks.specs.Below.law_walks_others.Below.server_model.Servers.{Rest, Server, Cluster}
use Rattle.law_length_asks.specs.Below.law_walks_others.Below.server_model.Work.{Hand}
use Rattle.law_length_asks.specs.Below.law_walks_others.Below.server_model.Places.{Spot, in_slot, value_at}
use Rattle.law_length_asks.specs.Below.law_walks_others.Below.server_model.Prepare.{EndRef, Prepared, ready, requested, nothing, and_then, unlabelled, follow_ended, follow_holder, clean_value, access_of, prepare, write_stars}
use Rattle.law_length_asks.specs.Below.law_walks_others.Below.server_model.Events.{Stepped, begin_work, wait_step}
use Rattle.law_length_asks.specs.Below.law_walks_others.Below.coherent_memory.Names.{if_so}
use Rattle.law_length_asks.specs.Below.law_walks_others.Below.coherent_memory.Things.{Location}
use Rattle.law_length_asks.specs.Below.law_walks_others.Below.coherent_memory.Follow.{Standing}
use Rattle.law_length_asks.specs.Below.law_walks_others.Below.coherent_memory.Paths.{ends, path_of}
use Rattle.law_length_asks.specs.Below.law_walks_others.Below.coherent_memory.Requests.{is_cell}
use Rattle.law_length_asks.specs.Below.law_walks_others.Below.coherent_memory.Sight.{sight}
use Rattle.law_length_asks.specs.Below.law_walks_others.Below.coherent_memory.Walking.{path}
use Rattle.law_walks_own.proofs.Below.law_words_kept.ends.Ends.{EndsAt}
use Rattle.law_length_asks.proofs.Below.law_walks_others.Below.law_results_reads.Known.{Steps, standing, paths, goes}
use Rattle.law_length_asks.proofs.Below.law_walks_others.Below.law_results_events.writes.Route.{Route}
use Rattle.law_length_asks.proofs.Below.law_walks_others.Below.law_results_events.writes.Holders.{C, at, slot_away}
use Rattle.law_length_asks.proofs.Below.law_walks_others.Below.law_results_events.writes.Ends.{value_of_thread, RefAt as StandsAt, in_its_slot, on_its_top}
use Rattle.law_length_asks.proofs.Below.law_walks_own.steps.Borrows.{CleansBy, clean_value_asks, split}
use Rattle.law_length_asks.proofs.Below.law_walks_own.steps.Cell.{waits_there}
use Rattle.law_length_asks.proofs.Below.law_walks_own.steps.Cleaned.{IsCleaned, CleanFine, cleans, value_is, route_again}
use Rattle.law_length_asks.proofs.Below.law_walks_own.steps.Own.{Own, me}
use Rattle.law_length_asks.proofs.Below.law_walks_own.steps.OwnSteps.{Facts}
use Rattle.law_length_asks.proofs.Below.law_walks_own.steps.Through.{Stops, stops}
use Rattle.law_length_asks.specs.left.Left.{is_far}
use Rattle.law_length_asks.proofs.left.Few.{if_few}
use Rattle.law_length_asks.proofs.left.Kin.{far_is, far_less}

-- what is asked for before the labels go
asked_before : (p : Prepared) (h : Hand) → and_then unlabelled p ≡ requested h → p ≡ requested h
asked_before (ready a sp) h e = absurd (cc e)
asked_before (requested a) h e = e
asked_before nothing h e = absurd (cc e)

reference_is : {a b : MutRef} → Some (value.Mut a) ≡ Some (value.Mut b) → a ≡ b
reference_is e = cc

no_fewer : (a b : ℕ) → ((m : ℕ) → m < a → m < b) → a ≤ b
no_fewer zero b f = omega arith
no_fewer (suc a) b f = let l = f a (omega arith) in omega (arith, l)

module _ (k c : Cluster) (v : EntryView) (t : ℕ) (f : Facts k c v t) (h : Hand) (asked : prepare (access_of f.own.instruction f.own.thread) (record { work = begin_work f.own.server.rest; thread = f.own.thread }) ≡ requested h) (is : f.own.result ≡ wait_step h)
    (r : MutRef) (ended : path (sight k) (standing k f.own.number t f.own.server f.own.thread f.own.instruction f.own.steps) ≡ ends r)
    (it : EndsAt k (paths k f.own.number t f.own.server f.own.thread f.own.instruction f.own.steps) (standing k f.own.number t f.own.server f.own.thread f.own.instruction f.own.steps) (goes k f.own.number t f.own.server f.own.thread f.own.instruction f.own.steps) r)
    (sp : Spot) (at_it : StandsAt k f.own.number t f.own.server f.own.thread f.own.instruction f.own.steps r ended it sp) (access : access_of f.own.instruction f.own.thread ≡ Some (EndRef sp))
    (path_by : (u : ThreadState) (q : MutRef) → value_of_thread u sp ≡ Some (value.Mut q) → length u.slots ≡ length f.own.thread.slots → path_of (Some f.own.instruction) u ≡ ends q) where
  abbrev o : Own k c v t
  o = f.own

  abbrev n : ℕ
  n = o.number

  abbrev s : Server
  s = o.server

  abbrev y : ThreadState
  y = o.thread

  abbrev i : Instr
  i = o.instruction

  abbrev z : Steps k n t s y i
  z = o.steps

  abbrev h0 : Hand
  h0 = record { work = begin_work s.rest; thread = y }

  abbrev tn : ℕ
  tn = y.number

  abbrev w : Lval
  w = r.holder

  abbrev it_now : Standing
  it_now = me k c v t o f.places

  abbrev Cells : ObjNo → Option Cell
  Cells = C k n t s y i z r ended it

  abbrev lead : ℕ → Option Location
  lead = at k n t s y i z r ended it

  -- what is known in either case
  record Comes : Type 0 where
    now : MutRef
    held : now.holder ≡ w
    there : value_of_thread h.thread sp ≡ Some (value.Mut now)
    size : length h.thread.slots ≡ length y.slots
    grown : y.passed ≤ h.thread.passed
    near : (p : Phase) → if_so (is_far s.rest.number h.thread.phase (Some (value.Mut now))) 1 ≤ if_so (is_far s.rest.number p (Some (value.Mut r))) 1

  at_start : (q : Spot) → StandsAt k n t s y i z r ended it q → value_at h0 q ≡ Some (value.Mut r)
  at_start _ (in_its_slot j e g) = e
  at_start _ (on_its_top e) = e

  stood_there : (q : Spot) → StandsAt k n t s y i z r ended it q → (u : ThreadState) → u.slots ≡ y.slots → u.temps ≡ y.temps → value_of_thread u q ≡ Some (value.Mut r)
  stood_there _ (in_its_slot j e g) u a b = ap (λ vs. slice_get vs j) a ∙ e
  stood_there _ (on_its_top e) u a b = ap last_of b ∙ e

  -- what leads elsewhere is far
  is_away : (p : Phase) → (server_of r.word == s.rest.number) ≡ false → if_so (is_far s.rest.number p (Some (value.Mut r))) 1 ≡ 1
  is_away p e = ap (λ b. if_so (not b || is_cell r.word p) 1) e

  -- where its own object is asked for
  by_clean : CleansBy r h0 h → Comes
  by_clean q =
      let threads : h.thread ≡ record y { phase = phase.WaitCell r.word } = ap (λ (u : Hand). u.thread) q.asked in
      let slots : h.thread.slots ≡ y.slots = ap (λ (u : ThreadState). u.slots) threads in
      let passed : h.thread.passed ≡ y.passed = ap (λ (u : ThreadState). u.passed) threads in
      record {
        now = r;
        held = refl;
        there = stood_there sp at_it h.thread slots (ap (λ (u : ThreadState). u.temps) threads);
        size = ap length slots;
        grown = omega (arith, passed);
        near = λ p. (let one = is_away p q.away in let few = if_few (is_far s.rest.number h.thread.phase (Some (value.Mut r))) 1 in omega (arith, one, few));
      }

  -- where that of a pointer on its holder's place is
  module _ (h1 : Hand) (cl : IsCleaned k n t s y i z r ended it sp h1) (stopped : write_stars w.depth 0 h1 (in_slot w.slot) ≡ requested h) where
    abbrev r2 : Rest
    r2 = record s.rest { partition = h1.work.rest.partition }

    abbrev y2 : ThreadState
    y2 = record y { slots = h1.thread.slots; temps = h1.thread.temps }

    abbrev its_route : Route r2 y2 Cells lead w.depth
    its_route = route_again k n t s y i z r ended it sp at_it h1 cl

    abbrev Stop : Type 0
    Stop = Stops r2 y2 Cells lead w.depth its_route h1 cl.rest cl.thread w.slot refl h

    stop : Stop
    stop = stops r2 y2 Cells lead w.depth its_route h1 cl.rest cl.thread w.slot refl h stopped

    slots_are : h.thread.slots ≡ stop.hand.thread.slots
    slots_are = let st = stop in ap (λ (u : Hand). u.thread.slots) st.asked

    phase_is : h.thread.phase ≡ phase.WaitCell stop.pointer.word
    phase_is = let st = stop in ap (λ (u : Hand). u.thread.phase) st.asked

    grown_so : y.passed ≤ h.thread.passed
    grown_so =
        let st = stop in
        let a = st.writing in
        let passed : h.thread.passed ≡ st.hand.thread.passed = ap (λ (u : Hand). u.thread.passed) st.asked in
        let less = no_fewer y.passed st.hand.thread.passed a.still in
        omega (arith, passed, less)

    by_spot : (q : Spot) → StandsAt k n t s y i z r ended it q → value_of_thread h1.thread q ≡ Some (value.Mut cl.reference) → value_of_thread h.thread q ≡ Some (value.Mut cl.reference)
    by_spot _ (in_its_slot j e g) there =
        let st = stop in
        let a = st.writing in
        ap (λ vs. slice_get vs j) slots_are ∙ a.slots j (λ b lt e2. slot_away k n t s y i z r ended it j b g (let l = st.less in omega (arith, lt, l)) e2) ∙ there
    by_spot _ (on_its_top e) there =
        let st = stop in
        let a = st.writing in
        ap (λ (u : Hand). last_of u.thread.temps) st.asked ∙ ap (λ (u : ThreadState). last_of u.temps) a.thread ∙ there

    -- it leads no farther
    near_so : (p : Phase) → if_so (is_far s.rest.number h.thread.phase (Some (value.Mut cl.reference))) 1 ≤ if_so (is_far s.rest.number p (Some (value.Mut r))) 1
    near_so p = by cl.led
      where
        waits : if_so (is_far s.rest.number h.thread.phase (Some (value.Mut cl.reference))) 1 ≡ if_so (is_far s.rest.number (phase.WaitCell stop.pointer.word) (Some (value.Mut cl.reference))) 1
        waits = ap (λ q. if_so (is_far s.rest.number q (Some (value.Mut cl.reference))) 1) phase_is

        by : (server_of cl.reference.word ≡ s.rest.number) ⊎ ((server_of cl.reference.word ≡ server_of r.word) × (address_of cl.reference.word ≡ address_of r.word))
            → if_so (is_far s.rest.number h.thread.phase (Some (value.Mut cl.reference))) 1 ≤ if_so (is_far s.rest.number p (Some (value.Mut r))) 1
        by (inl here) =
            let st = stop in
            let test : (server_of cl.reference.word == s.rest.number) ≡ true = grind (arith, nat_tests, here) in
            let none : if_so (is_far s.rest.number (phase.WaitCell stop.pointer.word) (Some (value.Mut cl.reference))) 1 ≡ 0 = ap (λ b. if_so b 1) (far_is s.rest.number stop.pointer.word cl.reference st.elsewhere ∙ ap not test) in
            omega (arith, waits, none)
        by (inr led) =
            let st = stop in
            omega (arith, waits, far_less s.rest.number stop.pointer.word 1 p r cl.reference led.0 st.elsewhere)

    by_way : Comes
    by_way =
        let st = stop in
        record {
          now = cl.reference;
          held = cl.holder;
          there = by_spot sp at_it cl.there;
          size = ap length slots_are ∙ (let a = st.writing in a.size) ∙ cl.size;
          grown = grown_so;
          near = near_so;
        }

  followed : (h1 : Hand) → IsCleaned k n t s y i z r ended it sp h1 → follow_ended (value_at h1 sp) h1 ≡ requested h → Comes
  followed h1 cl e =
      let here : value_at h1 sp ≡ Some (value.Mut cl.reference) = value_is k n t s y i z r ended it sp h1 at_it ∙ cl.there in
      by (finish_word cl.reference) refl (sym (ap (λ u. follow_ended u h1) here) ∙ e)
    where
      by : (q : Option ℕ) → finish_word cl.reference ≡ q → follow_holder cl.reference q h1 ≡ requested h → Comes
      by None g u = absurd (cc u)
      by (Some word) g u = by_way h1 cl (sym (ap (λ (q : Lval). write_stars q.depth 0 h1 (in_slot q.slot)) cl.holder) ∙ u)

  comes : Comes
  comes =
      let first : and_then (λ h2 s2. follow_ended (value_at h2 s2) h2) (clean_value sp (value_at h0 sp) h0) ≡ requested h = asked_before (and_then (λ h2 s2. follow_ended (value_at h2 s2) h2) (clean_value sp (value_at h0 sp) h0)) h (sym (ap (λ a. prepare a h0) access) ∙ asked) in
      split (clean_value sp (value_at h0 sp) h0) (λ h2 s2. follow_ended (value_at h2 s2) h2) h Comes first
      (λ e. (let q = clean_value_asks sp (value_at h0 sp) h0 h e in by_clean (subst (λ (u : MutRef). CleansBy u h0 h) (reference_is (sym q.1 ∙ at_start sp at_it)) q.2)))
      (λ h1 b e g.
      (let fine = subst (CleanFine k n t s y i z r ended it sp) (sym (ap (λ u. clean_value sp u h0) (at_start sp at_it)) ∙ e) (cleans k n t s y i z r ended it sp at_it) in
      followed h1 fine.1 (sym (ap (λ u. follow_ended (value_at h1 u) h1) fine.0) ∙ g)))

  -- its path afterwards
  path_then : path (sight c) it_now ≡ ends comes.now
  path_then =
      let zz = z in
      let co = comes in
      let threads : o.result.hand.thread ≡ h.thread = ap (λ (d : Stepped). d.hand.thread) is in
      let pc : o.result.hand.thread.pc ≡ y.pc = ap (λ (u : ThreadState). u.pc) threads ∙ (waits_there (access_of i y) h0 h asked).0 in
      ap (λ cs. path_of (slice_get cs o.result.hand.thread.pc) o.result.hand.thread) f.code ∙ ap (λ u. path_of (slice_get k.code u) o.result.hand.thread) pc ∙ ap (λ u. path_of u o.result.hand.thread) zz.code ∙ ap (path_of (Some i)) threads
      ∙ path_by h.thread co.now co.there co.size

  -- the reference that ends then
  pub record EndsLess : Type 0 where
    pub now : MutRef
    pub path_now : path (sight c) it_now ≡ ends now
    pub ahead_less : now.holder.depth - h.thread.passed ≤ r.holder.depth - y.passed
    pub near : (p : Phase) → if_so (is_far s.rest.number h.thread.phase (Some (value.Mut now))) 1 ≤ if_so (is_far s.rest.number p (Some (value.Mut r))) 1

  pub ends_less : EndsLess
  ends_less =
      let co = comes in
      let grown = co.grown in
      let held : co.now.holder.depth ≡ r.holder.depth = ap (λ (q : Lval). q.depth) co.held in
      record { now = co.now; path_now = path_then; ahead_less = omega (arith, grown, held); near = co.near }
