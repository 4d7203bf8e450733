-- A step of a thread that asks for something takes one from the asks that it has left.
use Rattle.std.proofs.Common.{◌≡◌, ◌≤◌, ℕ, suc, ◌+◌, ◌-◌, ◌==◌, true, false, Option, Some, None, refl, sym, ap, subst, ◌∙◌, arith}
use Rattle.std.specs.Prelude.{slice_get}
use Rattle.law_length_asks.proofs.Below.law_walks_others.Below.fr_typing.PlaceLemmas.{eq_cases}
use Rattle.law_length_asks.specs.Below.law_walks_others.Below.fr_base.declared.place.Lval.{Lval}
use Rattle.law_length_asks.specs.Below.law_walks_others.Below.fr_base.declared.instruction.Instr.{Instr}
use Rattle.law_length_asks.specs.Below.law_walks_others.Below.fr_base.declared.instruction.Instr.TheVariants as instr
use Rattle.law_length_asks.specs.Below.law_walks_others.Below.heap_partition.declared.value.Owned.{Owned}
use Rattle.law_length_asks.specs.Below.law_walks_others.Below.journal.View.{EntryView}
use Rattle.law_length_asks.specs.Below.law_walks_others.Below.thread_state.View.{ThreadState}
use Rattle.law_length_asks.specs.Below.law_walks_others.Below.thread_state.declared.phase.Phase.{Phase}
use Rattle.law_length_asks.specs.Below.law_walks_others.Below.thread_state.declared.phase.Phase.TheVariants as phase
use Rattle.law_length_asks.specs.Below.law_walks_others.Below.thread_state.declared.value.Value.TheVariants as value
use Rattle.law_length_asks.specs.Below.law_walks_others.Below.server_model.Servers.{Server, Cluster}
use Rattle.law_length_asks.specs.Below.law_walks_others.Below.server_model.Work.{Hand}
use Rattle.law_length_asks.specs.Below.law_walks_others.Below.server_model.Places.{Spot, in_slot, value_at, load_at}
use Rattle.law_length_asks.specs.Below.law_walks_others.Below.server_model.Prepare.{WriteTo, ready, requested, box_of, assigned, read_or_taken, access_of, prepare, clean_value, lend_value, read_stars, read_pointer, lend_pointer}
use Rattle.law_length_asks.specs.Below.law_walks_others.Below.server_model.Events.{Stepped, can_step, begin_work, wait_step}
use Rattle.law_length_asks.specs.Below.law_walks_others.Below.coherent_memory.Names.{if_so}
use Rattle.law_length_asks.specs.Below.law_walks_others.Below.coherent_memory.Things.{things_of}
use Rattle.law_length_asks.specs.Below.law_walks_others.Below.coherent_memory.Follow.{Standing, thread_at}
use Rattle.law_length_asks.specs.Below.law_walks_others.Below.coherent_memory.Paths.{Path, reads, shares, lends, writes, path_of, assigning, taking}
use Rattle.law_length_asks.specs.Below.law_walks_others.Below.coherent_memory.Sight.{sight}
use Rattle.law_length_asks.specs.Below.law_walks_others.Below.coherent_memory.Walking.{instr_of, path}
use Rattle.law_length_asks.proofs.Below.law_walks_others.Below.law_words_paths.paths.Contained.{among_thread}
use Rattle.law_walks_own.specs.Below.law_words_paths.words.Reworded.{HasPlaces}
use Rattle.law_length_asks.proofs.Below.law_walks_others.Below.law_counts_sums.ThreadThere.{thread_there}
use Rattle.law_length_asks.proofs.Below.law_walks_others.Below.law_heap_still.events.Addresses.{in_place}
use Rattle.law_length_asks.proofs.Below.law_walks_others.Below.law_heap_still.events.Leaving.{others, placed_here}
use Rattle.law_length_asks.proofs.Below.law_walks_others.Below.law_heap_still.events.Prepares.{prepare_shows, Fine as Shows}
use Rattle.law_length_asks.proofs.Below.law_walks_others.Below.law_heap_still.events.Told.{told, at_thread, thread_told}
use Rattle.law_walks_own.specs.Below.law_words_kept.reads.Reading as reading
use Rattle.law_walks_own.specs.Below.law_words_kept.reads.Reading.{Reads}
use Rattle.law_length_asks.proofs.Below.law_walks_others.Below.law_results_reads.Known.{Steps, able, standing}
use Rattle.law_length_asks.specs.Below.law_walks_others.Below.law_words_asked.writes.Writing.{WritesThrough, assigns, moves}
use Rattle.law_length_asks.proofs.Below.law_walks_own.steps.Borrows.{clean_value_asks, lend_asks, split}
use Rattle.law_length_asks.proofs.Below.law_walks_own.steps.Behind.{number_then}
use Rattle.law_length_asks.proofs.Below.law_walks_own.steps.Cell.{waits_there}
use Rattle.law_length_asks.proofs.Below.law_walks_own.steps.EndKinds.{Ends, ends_of}
use Rattle.law_length_asks.proofs.Below.law_walks_own.steps.Outcomes.{AsksHome, a_lock, a_dup, a_join}
use Rattle.law_length_asks.proofs.Below.law_walks_own.steps.Own.{Own, me, parts, it_is}
use Rattle.law_length_asks.proofs.Below.law_walks_own.steps.OwnSteps.{Facts, leads_by, Asking, by_write, by_reading, by_share, by_lend, by_end, asking}
use Rattle.law_length_asks.specs.ahead.Ahead.{ahead_on, ahead}
use Rattle.law_length_asks.proofs.hops.Writes.{stars_grow}
use Rattle.law_length_asks.specs.left.Left.{may_come, is_far, toll, pulls, asks_last, eight, to_come, asks_by, asks_of, asks_at, left}
use Rattle.law_length_asks.proofs.left.Few.{come_few}
use Rattle.law_length_asks.proofs.left.Kin.{Reading, a_read, a_share, a_lend, pulls_less}
use Rattle.law_length_asks.proofs.left.Halts.{Halted, last_halts, star_halts}
use Rattle.law_length_asks.proofs.left.Borrowed.{stars_less, shares_less, lends_less}
use Rattle.law_length_asks.proofs.left.Ended.{ends_less}
use Rattle.law_length_asks.proofs.left.Undone.{Undone, on_its_way, at_a_home, undone}
use Rattle.law_length_asks.proofs.left.Quiet.{gifted, not_home, untaken}

-- AN INSTRUCTION THAT WRITES THROUGH STARS

writes_access : (i : Instr) (w : Lval) (d : ℕ) → WritesThrough i w d → (y : ThreadState) → access_of i y ≡ Some (WriteTo w)
writes_access _ w d (assigns p e) y = ap (λ q. assigned w q y) e
writes_access _ w d (moves e) y = ap (λ q. Some (read_or_taken w q true)) e

writes_path : (i : Instr) (w : Lval) (d : ℕ) → WritesThrough i w d → (y : ThreadState) → path_of (Some i) y ≡ writes w
writes_path _ w d (assigns p e) y = ap (assigning y.slots w) e
writes_path _ w d (moves e) y = ap (taking w) e

-- with no more ahead no more is left
eight_less : (a b : ℕ) → a ≤ b → eight a ≤ eight b
eight_less a b l = omega (arith, l)

module _ (k c : Cluster) (v : EntryView) (t : ℕ) (f : Facts k c v t) (not_done : v.done ≡ None) where
  abbrev o : Own k c v t
  o = f.own

  abbrev after : HasPlaces c
  after = f.places

  abbrev n : ℕ
  n = o.number

  abbrev s : Server
  s = o.server

  abbrev y : ThreadState
  y = o.thread

  abbrev i : Instr
  i = o.instruction

  abbrev z : Steps k n t s y i
  z = o.steps

  abbrev h0 : Hand
  h0 = record { work = begin_work s.rest; thread = y }

  abbrev x : Standing
  x = standing k n t s y i z

  abbrev now : Standing
  now = me k c v t o after

  -- WHO STANDS THERE

  mine : (g : Standing → ℕ) → g now ≤ told g (thread_at (sight c).ground.threads t)
  mine g =
      let a = parts k c v t o after (at_thread g t) in
      let b = thread_told g t (things_of c) (after.numbers_differ t) in
      let named : o.result.hand.thread.number ≡ t = o.named in
      let one_is : if_so (o.result.hand.thread.number == t) (g now) ≡ g now = subst (λ u. if_so (o.result.hand.thread.number == u) (g now) ≡ g now) named (eq_cases (λ q. if_so q (g now) ≡ g now) o.result.hand.thread.number o.result.hand.thread.number (λ e. refl) (λ ne. absurd (ne refl))) in
      omega (arith, a, b, one_is)

  left_now : left c t ≡ asks_of (sight c) now
  left_now = by (thread_at (sight c).ground.threads t) refl
    where
      by : (q : Option Standing) → thread_at (sight c).ground.threads t ≡ q → asks_at (sight c) q ≡ asks_of (sight c) now
      by None e = let a = mine (λ u. 1) in let b : told (λ (u : Standing). 1) (thread_at (sight c).ground.threads t) ≡ 0 = ap (told (λ (u : Standing). 1)) e in absurd (omega (arith, a, b))
      by (Some u) e = let listed = among_thread (sight c).ground.threads t u e in it_is k c v t o after u listed.0 listed.1 (λ q. asks_of (sight c) q)

  left_was : left k t ≡ asks_of (sight k) x
  left_was = (let zz = z in ap (asks_at (sight k)) (thread_there k zz.coherent.sound n s zz.here t y zz.at))

  -- WHERE IT ASKS ON ITS WAY

  module _ (h : Hand) (asked : prepare (access_of i y) h0 ≡ requested h) (is : o.result ≡ wait_step h) where
    threads : o.result.hand.thread ≡ h.thread
    threads = ap (λ (d : Stepped). d.hand.thread) is

    pc_is : o.result.hand.thread.pc ≡ y.pc
    pc_is = ap (λ (u : ThreadState). u.pc) threads ∙ (waits_there (access_of i y) h0 h asked).0

    instr_is : instr_of (sight c) now ≡ instr_of (sight k) x
    instr_is = ap (λ cs. slice_get cs o.result.hand.thread.pc) f.code ∙ ap (slice_get k.code) pc_is

    path_now : path (sight c) now ≡ path_of (Some i) h.thread
    path_now = (let zz = z in ap (λ u. path_of u o.result.hand.thread) (instr_is ∙ zz.code) ∙ ap (path_of (Some i)) threads)

    path_was : path (sight k) x ≡ path_of (Some i) y
    path_was = (let zz = z in ap (λ u. path_of u y) zz.code)

    -- no more is ahead, and what may come is no farther
    record Less : Type 0 where
      hops : ahead (sight c) now ≤ ahead (sight k) x
      pulled : pulls (sight c) now ≤ pulls (sight k) x

    -- A WRITE

    by_writes : (w : Lval) (d : ℕ) → WritesThrough i w d → Less
    by_writes w d thr =
        let there : path (sight c) now ≡ writes w = path_now ∙ writes_path i w d thr h.thread in
        let was : path (sight k) x ≡ writes w = path_was ∙ writes_path i w d thr y in
        let grown : y.passed ≤ h.thread.passed = stars_grow w.depth 0 h0 (in_slot w.slot) h (sym (ap (λ u. prepare u h0) (writes_access i w d thr y)) ∙ asked) in
        let passed_is : o.result.hand.thread.passed ≡ h.thread.passed = ap (λ (u : ThreadState). u.passed) threads in
        let one : ahead (sight c) now ≡ w.depth - o.result.hand.thread.passed = ap (ahead_on (sight c) now) there in
        let two : ahead (sight k) x ≡ w.depth - y.passed = ap (ahead_on (sight k) x) was in
        let none : pulls (sight c) now ≡ 0 = ap (λ q. if_so (is_far s.rest.number o.result.hand.thread.phase (may_come q o.result.hand.thread.slots)) (toll q)) there in
        record { hops = omega (arith, one, two, grown, passed_is); pulled = omega (arith, none) }

    -- A READ OR A BORROW

    module _ (way : Path) (kind : Reading way) (there : (u : ThreadState) → path_of (Some i) u ≡ way) (w : Lval) (m : ℕ) (halts : Halted k c v t o w m h) where
      read_pulls : pulls (sight c) now ≤ pulls (sight k) x
      read_pulls =
          let r : ℕ = s.rest.number in
          let one : pulls (sight c) now ≡ if_so (is_far r o.result.hand.thread.phase (may_come way o.result.hand.thread.slots)) (toll way) = ap (λ q. if_so (is_far r o.result.hand.thread.phase (may_come q o.result.hand.thread.slots)) (toll q)) (path_now ∙ there h.thread) in
          let two : if_so (is_far r o.result.hand.thread.phase (may_come way o.result.hand.thread.slots)) (toll way) ≡ if_so (is_far r h.thread.phase (may_come way h.thread.slots)) (toll way) = ap (λ (u : ThreadState). if_so (is_far r u.phase (may_come way u.slots)) (toll way)) threads in
          let three : if_so (is_far r h.thread.phase (may_come way h.thread.slots)) (toll way) ≡ if_so (is_far r (phase.WaitCell halts.word) (may_come way h.thread.slots)) (toll way) = ap (λ p. if_so (is_far r p (may_come way h.thread.slots)) (toll way)) halts.waits in
          let four : pulls (sight k) x ≡ if_so (is_far r y.phase (may_come way y.slots)) (toll way) = ap (λ q. if_so (is_far r y.phase (may_come q y.slots)) (toll q)) (path_was ∙ there y) in
          omega (arith, one, two, three, four, pulls_less r halts.word (toll way) y.phase way kind y.slots h.thread.slots halts.kin halts.away)

      -- what is ahead is told by the pointers of the path
      ahead_now : ahead (sight c) now ≡ ahead_on (sight c) (record { server = s.rest.number; packed = false; thread = record h.thread { number = y.number } }) way
      ahead_now =
          ap (ahead_on (sight c) now) (path_now ∙ there h.thread) ∙ ap (λ (u : ThreadState). ahead_on (sight c) (record { server = s.rest.number; packed = false; thread = u }) way) threads ∙ ap (λ u. ahead_on (sight c) (record { server = s.rest.number; packed = false; thread = record h.thread { number = u } }) way) number
        where
          number : h.thread.number ≡ y.number
          number = sym (ap (λ (u : ThreadState). u.number) threads) ∙ number_then k c v t o

      ahead_was : ahead (sight k) x ≡ ahead_on (sight k) x way
      ahead_was = ap (ahead_on (sight k) x) (path_was ∙ there y)

    module _ (loose : (u : ℕ) → y.phase ≡ phase.Taken u → ⊥) where
      by_reads : (w : Lval) → Reads i w w.depth → ((u : ThreadState) → path_of (Some i) u ≡ reads w) → read_stars w.depth h0 (in_slot w.slot) ≡ requested h → Less
      by_reads w r there stopped =
          let leads_so = leads_by k c v t f h is w in
          let halts = star_halts k c v t o after w w.depth r h asked is leads_so loose stopped in
          let less = stars_less k c v t o after f.options w w.depth r h asked is leads_so halts in
          let a = ahead_now (reads w) (a_read w) there w w.depth halts in
          let b = ahead_was (reads w) (a_read w) there w w.depth halts in
          record { hops = omega (arith, a, b, less); pulled = read_pulls (reads w) (a_read w) there w w.depth halts }

      share_halts : (w : Lval) (d : ℕ) → w.depth ≡ suc d → i ≡ instr.Borrow w → (r : Reads i w d) → Halted k c v t o w d h
      share_halts w d deep e r =
          let leads_so = leads_by k c v t f h is w in
          split (read_stars d h0 (in_slot w.slot)) (λ h2 sp. clean_value sp (value_at h2 sp) (load_at sp h2)) h (Halted k c v t o w d h) (sym (ap (λ u. prepare (access_of u y) h0) e ∙ ap (λ u. read_pointer w u h0) deep) ∙ asked)
          (λ stopped. star_halts k c v t o after w d r h asked is leads_so loose stopped)
          (λ a sp reached cleans. (let q = clean_value_asks sp (value_at a sp) (load_at sp a) h cleans in let by = q.2 in last_halts k c v t o after w d r h asked is leads_so loose a sp reached (box_of q.0) by.asked by.away))

      by_shares : (w : Lval) (d : ℕ) → w.depth ≡ suc d → i ≡ instr.Borrow w → Less
      by_shares w d deep e =
          let r : Reads i w d = subst (λ u. Reads u w d) (sym e) (reading.shares deep) in
          let leads_so = leads_by k c v t f h is w in
          let there : (u : ThreadState) → path_of (Some i) u ≡ shares w = λ u. ap (λ j. path_of (Some j) u) e in
          let halts = share_halts w d deep e r in
          let less = shares_less k c v t o after f.options w d r h asked is leads_so halts deep in
          let a = ahead_now (shares w) (a_share w) there w d halts in
          let b = ahead_was (shares w) (a_share w) there w d halts in
          record { hops = omega (arith, a, b, less); pulled = read_pulls (shares w) (a_share w) there w d halts }

      lend_halts : (w : Lval) (d : ℕ) → w.depth ≡ suc d → i ≡ instr.BorrowMut w → (r : Reads i w d) → Halted k c v t o w d h
      lend_halts w d deep e r =
          let leads_so = leads_by k c v t f h is w in
          split (read_stars d h0 (in_slot w.slot)) (λ h2 sp. lend_value sp (value_at h2 sp) (load_at sp h2)) h (Halted k c v t o w d h) (sym (ap (λ u. prepare (access_of u y) h0) e ∙ ap (λ u. lend_pointer w u h0) deep) ∙ asked)
          (λ stopped. star_halts k c v t o after w d r h asked is leads_so loose stopped)
          (λ a sp reached asks. (let q = lend_asks sp (value_at a sp) (load_at sp a) h asks in last_halts k c v t o after w d r h asked is leads_so loose a sp reached q.pointer q.asked q.away))

      by_lends : (w : Lval) (d : ℕ) → w.depth ≡ suc d → i ≡ instr.BorrowMut w → Less
      by_lends w d deep e =
          let r : Reads i w d = subst (λ u. Reads u w d) (sym e) (reading.lends deep) in
          let leads_so = leads_by k c v t f h is w in
          let there : (u : ThreadState) → path_of (Some i) u ≡ lends w = λ u. ap (λ j. path_of (Some j) u) e in
          let halts = lend_halts w d deep e r in
          let less = lends_less k c v t o after f.options w d r h asked is leads_so halts deep in
          let a = ahead_now (lends w) (a_lend w) there w d halts in
          let b = ahead_was (lends w) (a_lend w) there w d halts in
          record { hops = omega (arith, a, b, less); pulled = read_pulls (lends w) (a_lend w) there w d halts }

      -- THE END OF A REFERENCE

      by_ends : Ends k n t s y i z → Less
      by_ends q =
          let less = ends_less k c v t f h asked is q.reference q.ended q.it q.spot q.at_it q.access q.path_by in
          let passed_is : o.result.hand.thread.passed ≡ h.thread.passed = ap (λ (u : ThreadState). u.passed) threads in
          let one : ahead (sight c) now ≡ less.now.holder.depth - o.result.hand.thread.passed = ap (ahead_on (sight c) now) less.path_now in
          let two : ahead (sight k) x ≡ q.reference.holder.depth - y.passed = ap (ahead_on (sight k) x) q.ended in
          let three : pulls (sight c) now ≡ if_so (is_far s.rest.number o.result.hand.thread.phase (Some (value.Mut less.now))) 1 = ap (λ p. if_so (is_far s.rest.number o.result.hand.thread.phase (may_come p o.result.hand.thread.slots)) (toll p)) less.path_now in
          let four : if_so (is_far s.rest.number o.result.hand.thread.phase (Some (value.Mut less.now))) 1 ≡ if_so (is_far s.rest.number h.thread.phase (Some (value.Mut less.now))) 1 = ap (λ (u : ThreadState). if_so (is_far s.rest.number u.phase (Some (value.Mut less.now))) 1) threads in
          let five : pulls (sight k) x ≡ if_so (is_far s.rest.number y.phase (Some (value.Mut q.reference))) 1 = ap (λ p. if_so (is_far s.rest.number y.phase (may_come p y.slots)) (toll p)) q.ended in
          let near = less.near y.phase in
          let hops_less = less.ahead_less in
          record { hops = omega (arith, one, two, passed_is, hops_less); pulled = omega (arith, three, four, five, near) }

      -- ALL OF THEM

      less_left : to_come (sight c) now ≤ to_come (sight k) x
      less_left =
          let l = by (asking y i h0 h refl asked) in
          let a = l.hops in
          let b = l.pulled in
          let e : asks_last (instr_of (sight c) now) ≡ asks_last (instr_of (sight k) x) = ap asks_last instr_is in
          omega (arith, eight_less (ahead (sight c) now) (ahead (sight k) x) a, b, e)
        where
          by : Asking y i h0 h → Less
          by (by_write w d thr) = by_writes w d thr
          by (by_reading w r e on_path stopped) = by_reads w r on_path stopped
          by (by_share w d deep e) = by_shares w d deep e
          by (by_lend w d deep e) = by_lends w d deep e
          by (by_end sp r e g then kind) = by_ends (ends_of k n t s y i z kind h asked)

    waits_now : asks_of (sight c) now ≡ to_come (sight c) now
    waits_now =
        let wait = (waits_there (access_of i y) h0 h asked).1 in
        ap (λ p. asks_by (sight c) now p o.result.hand.thread.gift) (ap (λ (u : ThreadState). u.phase) threads ∙ wait.1)

    way_takes : asks_of (sight c) now + 1 ≤ asks_of (sight k) x
    way_takes = (let w = waits_now in let l = by y.phase refl (able k n t s y i z) in omega (arith, w, l))
      where
        got : y.phase ≡ phase.Got → (g : Option Owned) → y.gift ≡ g → to_come (sight c) now + 1 ≤ asks_by (sight k) x phase.Got g
        got e None g = (let l = less_left (λ u q. absurd (cc (sym e ∙ q))) in omega (arith, l))
        got e (Some b) g = absurd (gifted k n t s y i z b g e h asked)

        by : (p : Phase) → y.phase ≡ p → can_step p ≡ true → to_come (sight c) now + 1 ≤ asks_by (sight k) x p y.gift
        by phase.Ready e q = (let l = come_few (sight c) now in omega (arith, l))
        by phase.Got e q = got e y.gift refl
        by (phase.GotPar a b) e q = (let l = come_few (sight c) now in omega (arith, l))
        by (phase.Taken u) e q = absurd (untaken k n t s y i z u e h asked)
        by (phase.WaitCell u) e q = absurd (cc q)
        by (phase.WaitLock m) e q = absurd (cc q)
        by (phase.WaitDup m) e q = absurd (cc q)
        by (phase.WaitJoin u) e q = absurd (cc q)
        by (phase.WaitPar a b) e q = absurd (cc q)
        by phase.Over e q = absurd (cc q)

  -- WHERE IT ASKS A HOME

  module _ (a h : Hand) (sp : Spot) (reached : prepare (access_of i y) h0 ≡ ready a sp) (none : a.thread.gift ≡ None) (asks : AsksHome i a h) (is : o.result ≡ wait_step h) where
    bare : y.gift ≡ None
    bare =
        let zz = z in
        let good = subst (Shows h0) reached (prepare_shows h0 (access_of i y) (in_place s.rest.number s.events s.rest (others k zz.coherent.sound n s zz.here) (placed_here k zz.coherent.sound n s zz.here))) in
        let ready_so = good.0 in
        sym (ap (λ (u : ThreadState). u.gift) ready_so.thread) ∙ none

    -- it waits for that
    home_now : asks_of (sight c) now ≡ 1
    home_now = ap (λ (u : ThreadState). asks_by (sight c) now u.phase u.gift) (ap (λ (d : Stepped). d.hand.thread) is) ∙ by h asks
      where
        by : (h2 : Hand) → AsksHome i a h2 → asks_by (sight c) now h2.thread.phase h2.thread.gift ≡ 1
        by _ (a_lock w m e) = refl
        by _ (a_dup w m e) = refl
        by _ (a_join p u e) = refl

    -- which is what is asked for last
    last_was : asks_last (instr_of (sight k) x) ≡ 1
    last_was = (let zz = z in ap asks_last zz.code ∙ by h asks)
      where
        by : (h2 : Hand) → AsksHome i a h2 → asks_last (Some i) ≡ 1
        by _ (a_lock w m e) = ap (λ j. asks_last (Some j)) e
        by _ (a_dup w m e) = ap (λ j. asks_last (Some j)) e
        by _ (a_join p u e) = ap (λ j. asks_last (Some j)) e

    home_takes : asks_of (sight c) now + 1 ≤ asks_of (sight k) x
    home_takes = (let w = home_now in let l = by y.phase refl (able k n t s y i z) in omega (arith, w, l))
      where
        got : (g : Option Owned) → y.gift ≡ g → 2 ≤ asks_by (sight k) x phase.Got g
        got None g = (let l = last_was in omega (arith, l))
        got (Some b) g = absurd (cc (sym g ∙ bare))

        by : (p : Phase) → y.phase ≡ p → can_step p ≡ true → 2 ≤ asks_by (sight k) x p y.gift
        by phase.Ready e q = omega arith
        by phase.Got e q = got y.gift refl
        by (phase.GotPar u b) e q = omega arith
        by (phase.Taken u) e q = absurd (not_home k n t s y i z u e a h asks)
        by (phase.WaitCell u) e q = absurd (cc q)
        by (phase.WaitLock m) e q = absurd (cc q)
        by (phase.WaitDup m) e q = absurd (cc q)
        by (phase.WaitJoin u) e q = absurd (cc q)
        by (phase.WaitPar u b) e q = absurd (cc q)
        by phase.Over e q = absurd (cc q)

  -- SO

  pub own_takes : left c t + 1 ≤ left k t
  own_takes = (let one = left_now in let two = left_was in let l = by (undone k.options.servers i h0 o.result o.is (sym o.done ∙ not_done)) in omega (arith, one, two, l))
    where
      by : Undone i h0 o.result → asks_of (sight c) now + 1 ≤ asks_of (sight k) x
      by (on_its_way h asked is) = way_takes h asked is
      by (at_a_home a h sp reached none asks is) = home_takes a h sp reached none asks is
