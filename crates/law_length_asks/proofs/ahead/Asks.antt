-- After a step of its own that asks on a read, no more is ahead of a thread.
use Rattle.std.proofs.Common.{◌≡◌, ◌≤◌, ℕ, zero, suc, false, Option, Some, None, refl, sym, ap, subst, ◌∙◌, arith}
use Rattle.std.specs.Prelude.{slice_get}
use Rattle.law_walks_own.specs.Below.fr_base.declared.place.Lval.{Lval}
use Rattle.law_walks_own.specs.Below.fr_base.declared.instruction.Instr.{Instr}
use Rattle.law_walks_own.specs.Below.fr_base.declared.instruction.Instr.TheVariants as instr
use Rattle.law_walks_own.specs.Below.journal.View.{EntryView}
use Rattle.law_walks_own.specs.Below.thread_state.View.{ThreadState}
use Rattle.law_walks_own.specs.Below.thread_state.declared.phase.Phase.{Phase}
use Rattle.law_walks_own.specs.Below.thread_state.declared.phase.Phase.TheVariants as phase
use Rattle.law_walks_own.specs.Below.server_model.declared.event.Event.{Event}
use Rattle.law_walks_own.specs.Below.server_model.declared.event.What.TheVariants.{Step}
use Rattle.law_walks_own.specs.Below.server_model.Servers.{Server, Cluster}
use Rattle.law_walks_own.specs.Below.server_model.Clusters.{apply}
use Rattle.law_walks_own.specs.Below.server_model.Work.{Hand}
use Rattle.law_walks_own.specs.Below.server_model.Places.{in_slot}
use Rattle.law_walks_own.specs.Below.server_model.Prepare.{requested, read_or_taken, access_of, prepare, read_stars}
use Rattle.law_walks_own.specs.Below.server_model.Events.{Stepped, begin_work, wait_step}
use Rattle.law_walks_own.specs.Below.coherent_memory.Names.{Among}
use Rattle.law_walks_own.specs.Below.coherent_memory.Things.{things_of}
use Rattle.law_walks_own.specs.Below.coherent_memory.Follow.{Standing, thread_at}
use Rattle.law_walks_own.specs.Below.coherent_memory.Paths.{reads, path_of}
use Rattle.law_walks_own.specs.Below.coherent_memory.Sight.{sight}
use Rattle.law_walks_own.specs.Below.coherent_memory.Walking.{instr_of, path, words_kept}
use Rattle.law_walks_own.specs.Below.coherent_types.ClusterTypes.{IsCoherent}
use Rattle.law_walks_own.specs.Below.law_words_paths.paths.HeapStore.{GoesOn}
use Rattle.law_walks_own.proofs.Below.law_words_paths.paths.Sole.{some_is}
use Rattle.law_walks_own.specs.Below.law_words_paths.words.Reworded.{HasPlaces}
use Rattle.law_walks_own.specs.Below.law_counts_sums.Laws.{Gives, FewEvents}
use Rattle.law_walks_own.proofs.Below.law_counts_sums.Results.{both_give, weaker}
use Rattle.law_walks_own.proofs.Below.law_counts_sums.Sending.{applied_part}
use Rattle.law_walks_own.proofs.Below.law_heap_still.events.Told.{found}
use Rattle.law_walks_own.specs.Below.law_words_kept.reads.Reading.{Reads, copies, shares, lends, dups, locks}
use Rattle.law_walks_own.proofs.Below.law_results_reads.Known.{Steps, goes, standing}
use Rattle.law_walks_own.specs.Below.law_counts_waiting.waits.Places.{LeadsAsItDid}
use Rattle.law_walks_own.proofs.Below.law_counts_waiting.waits.Stay.{undone_leave}
use Rattle.law_walks_own.proofs.Below.law_walks_others.pointers.Followed.{same_settings}
use Rattle.law_walks_own.proofs.steps.Own.{Own, OwnIn, own_step, me, it_is}
use Rattle.law_walks_own.proofs.steps.Outcomes.{IsCalm, AsksHome, a_lock, a_dup, a_join, Outcome, is_done, has_asked, asks_home, outcome}
use Rattle.law_walks_own.proofs.steps.Behind.{number_then}
use Rattle.law_walks_own.proofs.steps.Cell.{waits_there}
use Rattle.law_length_asks.specs.ahead.Ahead.{ahead_on, ahead, OwnReadsLeaveNoMore}
use Rattle.law_length_asks.proofs.ahead.Stopped.{stays_near}
use Rattle.law_length_asks.proofs.ahead.Compare.{A, no_more}

-- INSTRUCTIONS THAT READ ALL THEIR STARS

-- its path, whatever its thread
reads_path : (i : Instr) (w : Lval) → Reads i w w.depth → (u : ThreadState) → path_of (Some i) u ≡ reads w
reads_path _ w (copies e) u = refl
reads_path _ w (dups e) u = refl
reads_path _ w (locks e) u = refl
reads_path _ w (shares e) u = absurd (omega (arith, e))
reads_path _ w (lends e) u = absurd (omega (arith, e))

read_all : (w : Lval) (d : ℕ) (h : Hand) → prepare (Some (read_or_taken w d false)) h ≡ read_stars w.depth h (in_slot w.slot)
read_all w zero h = refl
read_all w (suc d) h = refl

-- what it makes ready
reads_stars : (i : Instr) (w : Lval) → Reads i w w.depth → (u : ThreadState) (h : Hand) → prepare (access_of i u) h ≡ read_stars w.depth h (in_slot w.slot)
reads_stars _ w (copies e) u h = read_all w w.depth h
reads_stars _ w (dups e) u h = refl
reads_stars _ w (locks e) u h = refl
reads_stars _ w (shares e) u h = absurd (omega (arith, e))
reads_stars _ w (lends e) u h = absurd (omega (arith, e))

-- it is no mutable borrow
no_lend : (i : Instr) (w : Lval) → Reads i w w.depth → (q : Lval) → i ≡ instr.BorrowMut q → ⊥
no_lend _ w (copies e) q f = absurd (cc f)
no_lend _ w (dups e) q f = absurd (cc f)
no_lend _ w (locks e) q f = absurd (cc f)
no_lend _ w (shares e) q f = absurd (omega (arith, e))
no_lend _ w (lends e) q f = absurd (omega (arith, e))

-- who waits for a word has done no plain step
not_calm : (p : Phase) (q : ℕ) → p ≡ phase.WaitCell q → IsCalm p → ⊥
not_calm (phase.WaitCell w) q e c = c
not_calm phase.Ready q e c = absurd (cc e)
not_calm phase.Over q e c = absurd (cc e)
not_calm (phase.WaitPar a b) q e c = absurd (cc e)
not_calm phase.Got q e c = c
not_calm (phase.Taken w) q e c = c
not_calm (phase.WaitLock m) q e c = c
not_calm (phase.WaitDup m) q e c = c
not_calm (phase.WaitJoin u) q e c = c
not_calm (phase.GotPar a b) q e c = c

-- nor asked a home
no_home : (i : Instr) (h h2 : Hand) → AsksHome i h h2 → (q : ℕ) → h2.thread.phase ≡ phase.WaitCell q → ⊥
no_home i h _ (a_lock w m e) q f = absurd (cc f)
no_home i h _ (a_dup w m e) q f = absurd (cc f)
no_home i h _ (a_join o u e) q f = absurd (cc f)

-- THE OWN THREAD

module _ (k c : Cluster) (v : EntryView) (t : ℕ) (o : Own k c v t) (after : HasPlaces c) (code : c.code ≡ k.code) (options : c.options ≡ k.options)
    (leads : v.done ≡ None → (x : Standing) (w : Lval) → GoesOn k x → LeadsAsItDid k c x.thread.number w) (w : Lval) (r : Reads o.instruction w w.depth) where
  abbrev s : Server
  s = o.server

  abbrev y : ThreadState
  y = o.thread

  abbrev z : Steps k o.number t s y o.instruction
  z = o.steps

  abbrev h0 : Hand
  h0 = record { work = begin_work s.rest; thread = y }

  abbrev x : Standing
  x = standing k o.number t s y o.instruction z

  abbrev now : Standing
  now = me k c v t o after

  -- where it asked for a word
  asked_less : (h : Hand) → prepare (access_of o.instruction y) h0 ≡ requested h → o.result ≡ wait_step h → ahead (sight c) now ≤ ahead (sight k) x
  asked_less h asked is =
      let leads_so : LeadsAsItDid k c y.number w = leads (o.done ∙ ap (λ (d : Stepped). d.names) is) x w (goes k o.number t s y o.instruction z) in
      let stopped : read_stars w.depth h0 (in_slot w.slot) ≡ requested h = sym (reads_stars o.instruction w r y h0) ∙ asked in
      let zz = z in
      let pc : o.result.hand.thread.pc ≡ y.pc = ap (λ (d : Stepped). d.hand.thread.pc) is ∙ (waits_there (access_of o.instruction y) h0 h asked).0 in
      let path_now : path (sight c) now ≡ reads w =
      ap (λ cs. path_of (slice_get cs o.result.hand.thread.pc) o.result.hand.thread) code ∙ ap (λ u. path_of (slice_get k.code u) o.result.hand.thread) pc ∙ ap (λ u. path_of u o.result.hand.thread) zz.code ∙ reads_path o.instruction w r o.result.hand.thread in
      let path_was : path (sight k) x ≡ reads w = ap (λ u. path_of u y) zz.code ∙ reads_path o.instruction w r y in
      let n : ℕ = s.rest.number in
      let kept2 = words_kept h.thread in
      let less = no_more n (sight k).options.colours (sight c).options.colours (words_kept y) kept2 (sight k).ground (sight c).ground y.number w leads_so (λ d lt all. stays_near k c v t o after w r (no_lend o.instruction w r) h asked is leads_so stopped d lt all) w.depth (omega arith) in
      let thread_is : o.result.hand.thread ≡ h.thread = ap (λ (d : Stepped). d.hand.thread) is in
      let one : ahead (sight c) now ≡ A n (words_kept o.result.hand.thread) (sight c).options.colours (sight c).ground o.result.hand.thread.number w w.depth = ap (ahead_on (sight c) now) path_now in
      let two : A n (words_kept o.result.hand.thread) (sight c).options.colours (sight c).ground o.result.hand.thread.number w w.depth ≡ A n (words_kept o.result.hand.thread) (sight c).options.colours (sight c).ground y.number w w.depth = ap (λ u. A n (words_kept o.result.hand.thread) (sight c).options.colours (sight c).ground u w w.depth) (number_then k c v t o) in
      let three : A n (words_kept o.result.hand.thread) (sight c).options.colours (sight c).ground y.number w w.depth ≡ A n kept2 (sight c).options.colours (sight c).ground y.number w w.depth = ap (λ (u : ThreadState). A n (words_kept u) (sight c).options.colours (sight c).ground y.number w w.depth) thread_is in
      let four : ahead (sight k) x ≡ A n (words_kept y) (sight k).options.colours (sight k).ground y.number w w.depth = ap (ahead_on (sight k) x) path_was in
      omega (arith, one, two, three, four, less)

  -- where it waits for a word it asked for it
  pub own_less : (q : ℕ) → o.result.hand.thread.phase ≡ phase.WaitCell q → ahead (sight c) now ≤ ahead (sight k) x
  own_less q waits = by (outcome k.options.servers o.instruction h0 o.result o.is)
    where
      by : Outcome o.instruction h0 o.result → ahead (sight c) now ≤ ahead (sight k) x
      by (is_done calm) = absurd (not_calm o.result.hand.thread.phase q waits calm)
      by (has_asked h asked is) = asked_less h asked is
      by (asks_home h h2 sp is_ready asks is) = absurd (no_home o.instruction h h2 asks q (sym (ap (λ (d : Stepped). d.hand.thread.phase) is) ∙ waits))

-- THE EVENT

all_give : {B X : Type 0} (P : B → X → Type 0) (o : Option X) → ((a : B) → Gives (P a) o) → Gives (λ x. (a : B) → P a x) o
all_give P None g = tt
all_give P (Some x) g = λ a. g a

-- a place of a thread that goes on
record Going (k : Cluster) : Type 0 where
  standing_it : Standing
  place : Lval
  on : GoesOn k standing_it

-- the word that a thread waits for, as a number
abbrev waited : Phase → ℕ
waited (phase.WaitCell w) = suc w
waited p = 0

waits_for : (p : Phase) (q : ℕ) → waited p ≡ suc q → p ≡ phase.WaitCell q
waits_for (phase.WaitCell w) q e = let same : w ≡ q = omega (arith, e) in ap phase.WaitCell same
waits_for phase.Ready q e = absurd (omega (arith, e))
waits_for phase.Over q e = absurd (omega (arith, e))
waits_for (phase.WaitPar a b) q e = absurd (omega (arith, e))
waits_for phase.Got q e = absurd (omega (arith, e))
waits_for (phase.Taken w) q e = absurd (omega (arith, e))
waits_for (phase.WaitLock m) q e = absurd (omega (arith, e))
waits_for (phase.WaitDup m) q e = absurd (omega (arith, e))
waits_for (phase.WaitJoin u) q e = absurd (omega (arith, e))
waits_for (phase.GotPar a b) q e = absurd (omega (arith, e))

module _ (k : Cluster) (e : Event) (t : ℕ) (is : e.what ≡ Step t) (coherent : IsCoherent k) (few : FewEvents k) where
  abbrev D : Type 0
  D = Cluster × EntryView

  abbrev Settings : D → Type 0
  Settings d = (d.0.code ≡ k.code) × (d.0.options ≡ k.options)

  abbrev Leads : D → Type 0
  Leads d = (a : Going k) → d.1.done ≡ None → LeadsAsItDid k d.0 a.standing_it.thread.number a.place

  abbrev Places : D → Type 0
  Places d = HasPlaces d.0

  abbrev Facts : D → Type 0
  Facts d = (OwnIn k e coherent few d × Places d) × (Settings d × Leads d)

  facts : Gives Facts (apply k e)
  facts =
      both_give (λ d. OwnIn k e coherent few d × Places d) (λ d. Settings d × Leads d) Facts (apply k e)
      (both_give (OwnIn k e coherent few) Places (λ d. OwnIn k e coherent few d × Places d) (apply k e) (own_step k e coherent few)
      (applied_part HasPlaces (λ c g. record { numbers_differ = g.numbers_differ; home_of_each = g.home_of_each; owner_of_each = g.owner_of_each }) k e coherent.sound few) (λ d a b. (a, b)))
      (both_give Settings Leads (λ d. Settings d × Leads d) (apply k e) (same_settings k e)
      (all_give (λ (a : Going k) (d : D). d.1.done ≡ None → LeadsAsItDid k d.0 a.standing_it.thread.number a.place) (apply k e) (λ a. undone_leave k e coherent few a.standing_it a.place a.on)) (λ d a b. (a, b))) (λ d a b. (a, b))

  module _ (x : Standing) (i : Instr) (w : Lval) (among : Among x (sight k).ground.threads) (number : x.thread.number ≡ t) (at : instr_of (sight k) x ≡ Some i) (r : Reads i w w.depth) where
    -- it is the thread that stepped
    it_stood : (d : D) (o : Own k d.0 d.1 t) → x ≡ standing k o.number t o.server o.thread o.instruction o.steps
    it_stood d o =
        let z = o.steps in
        let st : Standing = standing k o.number t o.server o.thread o.instruction z in
        let on : GoesOn k st = goes k o.number t o.server o.thread o.instruction z in
        let named : o.thread.number ≡ t = sym (number_then k d.0 d.1 t o) ∙ o.named in
        let one = found x (things_of k) (let names = coherent.sound.names in names.numbers_differ x.thread.number) among in
        let two = found st (things_of k) (let names = coherent.sound.names in names.numbers_differ o.thread.number) on.among in
        some_is (sym one ∙ ap (thread_at (sight k).ground.threads) (number ∙ sym named) ∙ two)

    after_it : (d : D) → Facts d → (y : Standing) (q : ℕ) → Among y (sight d.0).ground.threads → y.thread.number ≡ t → y.thread.phase ≡ phase.WaitCell q → ahead (sight d.0) y ≤ ahead (sight k) x
    after_it d f y q listed named waits =
        let o : Own k d.0 d.1 t = f.0.0 t is in
        let places : HasPlaces d.0 = f.0.1 in
        let stood = it_stood d o in
        let z = o.steps in
        let same = it_is k d.0 d.1 t o places y listed named in
        let instr_is : i ≡ o.instruction = some_is (sym at ∙ ap (λ (u : Standing). slice_get k.code u.thread.pc) stood ∙ z.code) in
        let reads_it : Reads o.instruction w w.depth = subst (λ u. Reads u w w.depth) instr_is r in
        let waits_now : o.result.hand.thread.phase ≡ phase.WaitCell q = waits_for o.result.hand.thread.phase q (sym (same (λ u. waited u.thread.phase)) ∙ ap waited waits) in
        let one = same (λ u. ahead (sight d.0) u) in
        let two : ahead (sight k) x ≡ ahead (sight k) (standing k o.number t o.server o.thread o.instruction z) = ap (ahead (sight k)) stood in
        let less = own_less k d.0 d.1 t o places f.1.0.0 f.1.0.1 (λ done st v g. f.1.1 (record { standing_it = st; place = v; on = g }) done) w reads_it q waits_now in
        omega (arith, one, two, less)

pub own_reads : OwnReadsLeaveNoMore
own_reads k e t is coherent few x i w among number at r =
    weaker (Facts k e t is coherent few) (λ (d : Cluster × EntryView). (y : Standing) (q : ℕ) → Among y (sight d.0).ground.threads → y.thread.number ≡ t → y.thread.phase ≡ phase.WaitCell q → ahead (sight d.0) y ≤ ahead (sight k) x) (apply k e)
    (facts k e t is coherent few) (λ d f. after_it k e t is coherent few x i w among number at r d f)
