-- A step that asks for an object to write through passes no fewer hops than before.
use Rattle.std.proofs.Common.{◌≡◌, ◌≤◌, ℕ, zero, suc, ◌+◌, ◌-◌, nat_lt, Bool, true, false, if◌then◌else◌, Option, Some, None, refl, sym, ap, subst, ◌∙◌, arith}
use Rattle.std.proofs.lemmas.Bool.Decides.{nat_tests}
use Rattle.std.specs.Prelude.{slice_get}
use Rattle.law_walks_own.specs.Below.fr_base.declared.place.Lval.{Lval}
use Rattle.law_walks_own.specs.Below.fr_base.declared.instruction.Instr.{Instr}
use Rattle.law_walks_own.specs.Below.heap_partition.declared.value.BoxPtr.{BoxPtr}
use Rattle.law_walks_own.specs.Below.thread_state.View.{ThreadState}
use Rattle.law_walks_own.specs.Below.thread_state.declared.phase.Phase.{Phase}
use Rattle.law_walks_own.specs.Below.thread_state.declared.phase.Phase.TheVariants as phase
use Rattle.law_walks_own.specs.Below.thread_state.declared.value.Value.{Value}
use Rattle.law_walks_own.specs.Below.journal.View.{EntryView}
use Rattle.law_walks_own.specs.Below.journal.declared.act.Act.TheVariants as act
use Rattle.law_walks_own.specs.Below.server_model.declared.event.Event.{Event}
use Rattle.law_walks_own.specs.Below.server_model.declared.event.What.TheVariants.{Step}
use Rattle.law_walks_own.specs.Below.server_model.Servers.{Server, Cluster}
use Rattle.law_walks_own.specs.Below.server_model.Clusters.{apply}
use Rattle.law_walks_own.specs.Below.server_model.Work.{Hand, note}
use Rattle.law_walks_own.specs.Below.server_model.Places.{Spot, in_slot, value_at, load_at, pointer_of}
use Rattle.law_walks_own.specs.Below.server_model.Prepare.{Prepared, ready, requested, nothing, and_then, WriteTo, read_or_taken, assigned, access_of, prepare, hopped, local, pass_by, write_by, write_star, write_stars}
use Rattle.law_walks_own.specs.Below.server_model.Events.{Stepped, begin_work, wait_step}
use Rattle.law_walks_own.specs.Below.law_walks_others.Below.place_walk.declared.hop.Hop.{Hop}
use Rattle.law_walks_own.specs.Below.law_walks_others.Below.place_walk.declared.hop.Hop.TheVariants as jump
use Rattle.law_walks_own.specs.Below.law_walks_others.Below.place_walk.Hops.{write_hop}
use Rattle.law_walks_own.specs.Below.coherent_memory.Names.{Among}
use Rattle.law_walks_own.specs.Below.coherent_memory.Things.{things_of}
use Rattle.law_walks_own.specs.Below.coherent_memory.Follow.{Standing, thread_at}
use Rattle.law_walks_own.specs.Below.coherent_memory.Paths.{writes, assigning, taking, path_of}
use Rattle.law_walks_own.specs.Below.coherent_memory.Sight.{sight}
use Rattle.law_walks_own.specs.Below.coherent_memory.Walking.{instr_of, path}
use Rattle.law_walks_own.specs.Below.coherent_types.ClusterTypes.{IsCoherent}
use Rattle.law_walks_own.specs.Below.law_words_paths.paths.HeapStore.{GoesOn}
use Rattle.law_walks_own.proofs.Below.law_words_paths.paths.Sole.{some_is}
use Rattle.law_walks_own.specs.Below.law_words_paths.words.Reworded.{HasPlaces}
use Rattle.law_walks_own.specs.Below.law_counts_sums.Laws.{Gives, FewEvents}
use Rattle.law_walks_own.proofs.Below.law_counts_sums.Results.{both_give, weaker}
use Rattle.law_walks_own.proofs.Below.law_counts_sums.Sending.{applied_part}
use Rattle.law_walks_own.proofs.Below.law_heap_still.events.Told.{found}
use Rattle.law_walks_own.proofs.Below.law_results_reads.Known.{Steps, goes, standing}
use Rattle.law_walks_own.proofs.Below.law_walks_others.pointers.Followed.{same_settings}
use Rattle.law_walks_own.proofs.steps.Own.{Own, OwnIn, own_step, me, it_is}
use Rattle.law_walks_own.proofs.steps.Outcomes.{IsCalm, AsksHome, a_lock, a_dup, a_join, Outcome, is_done, has_asked, asks_home, outcome}
use Rattle.law_walks_own.proofs.steps.Behind.{number_then}
use Rattle.law_walks_own.proofs.steps.Cell.{waits_there}
use Rattle.law_walks_own.proofs.steps.WriteStars.{write_asks, write_goes}
use Rattle.law_length_asks.specs.ahead.Ahead.{ahead_on, ahead}
use Rattle.law_length_asks.specs.hops.Writes.{Writes, assigns, moves, OwnWritesLeaveNoMore}

-- WHAT IS PASSED

ready_is : {a b : Hand} {s u : Spot} → ready a s ≡ ready b u → b ≡ a
ready_is e = cc

asked_is : {a b : Hand} → requested a ≡ requested b → b ≡ a
asked_is e = cc

local_passed : (v : Value) (h : Hand) → (local v h).thread.passed ≡ h.thread.passed
local_passed v h = by (pointer_of v)
  where
    by : (o : Option BoxPtr) → (hopped (λ p. note (act.Local p.object p.word)) o h).thread.passed ≡ h.thread.passed
    by None = refl
    by (Some p) = refl

-- over a hop that is ready already nothing is passed anew
pass_stays : (s : Spot) (v : Value) (o : Option Hop) (h h2 : Hand) (s2 : Spot) → pass_by s v o h ≡ ready h2 s2 → h2.thread.passed ≡ h.thread.passed
pass_stays s v (Some (jump.Slot i)) h h2 s2 e = ap (λ (a : Hand). a.thread.passed) (ready_is e)
pass_stays s v (Some (jump.NeedTint w)) h h2 s2 e = ap (λ (a : Hand). a.thread.passed) (ready_is e)
pass_stays s v (Some (jump.AtCell w)) h h2 s2 e = ap (λ (a : Hand). a.thread.passed) (ready_is e) ∙ local_passed v h
pass_stays s v (Some (jump.Direct w)) h h2 s2 e = absurd (cc e)
pass_stays s v (Some (jump.Hit w)) h h2 s2 e = absurd (cc e)
pass_stays s v (Some (jump.NeedCopy w)) h h2 s2 e = absurd (cc e)
pass_stays s v (Some (jump.NeedMove w)) h h2 s2 e = absurd (cc e)
pass_stays s v None h h2 s2 e = absurd (cc e)

-- a star that is ready passes no fewer
star_grows : (j : ℕ) (h : Hand) (s : Spot) (h2 : Hand) (s2 : Spot) → write_star j h s ≡ ready h2 s2 → h.thread.passed ≤ h2.thread.passed
star_grows j h s h2 s2 e = by (value_at h s) e
  where
    anew : nat_lt j h.thread.passed ≡ false → h.thread.passed ≤ h2.thread.passed
    anew q = let g = write_goes j h s h2 s2 e in let l = g.passed in let not_less : h.thread.passed ≤ j = grind (arith, nat_tests, q) in omega (arith, l, not_less)

    at : (v : Value) (b : Bool) → nat_lt j h.thread.passed ≡ b → (if b then pass_by s v (write_hop h.work.rest.number v) (load_at s h) else write_by j s v (write_hop h.work.rest.number v) (load_at s h)) ≡ ready h2 s2 → h.thread.passed ≤ h2.thread.passed
    at v true q f = let same = pass_stays s v (write_hop h.work.rest.number v) (load_at s h) h2 s2 f in omega (arith, same)
    at v false q f = anew q

    by : (o : Option Value) → Rattle.law_walks_own.specs.Below.server_model.Prepare.write_value j s o (load_at s h) ≡ ready h2 s2 → h.thread.passed ≤ h2.thread.passed
    by None f = absurd (cc f)
    by (Some v) f = at v (nat_lt j h.thread.passed) refl f

-- nor do stars of which one asks
pub stars_grow : (d j : ℕ) (h : Hand) (s : Spot) (h2 : Hand) → write_stars d j h s ≡ requested h2 → h.thread.passed ≤ h2.thread.passed
stars_grow zero j h s h2 e = absurd (cc e)
stars_grow (suc d) j h s h2 e = by (write_star j h s) refl e (λ h1 s1 f. stars_grow d (j + 1) h1 s1 h2 f)
  where
    by : (p : Prepared) → write_star j h s ≡ p → and_then (write_stars d (j + 1)) p ≡ requested h2 → ((h1 : Hand) (s1 : Spot) → write_stars d (j + 1) h1 s1 ≡ requested h2 → h1.thread.passed ≤ h2.thread.passed) → h.thread.passed ≤ h2.thread.passed
    by (ready h1 s1) q f go = let first = star_grows j h s h1 s1 q in let rest = go h1 s1 f in omega (arith, first, rest)
    by (requested h1) q f go =
        let a = write_asks j h s h1 q in
        let same : h2 ≡ h1 = asked_is f in
        let one : h2.thread.passed ≡ h.thread.passed = ap (λ (u : Hand). u.thread.passed) (same ∙ a.asked) in
        omega (arith, one)
    by nothing q f go = absurd (cc f)

-- INSTRUCTIONS THAT WRITE

access_is : (i : Instr) (w : Lval) (y : ThreadState) → Writes i w → access_of i y ≡ Some (WriteTo w)
access_is _ w y (assigns p e) = ap (λ q. assigned w q y) e
access_is _ w y (moves e) = ap (λ q. Some (read_or_taken w q true)) e

path_is : (i : Instr) (w : Lval) (y : ThreadState) → Writes i w → path_of (Some i) y ≡ writes w
path_is _ w y (assigns p e) = ap (assigning y.slots w) e
path_is _ w y (moves e) = ap (taking w) e

-- who waits for a word has done no plain step
not_calm : (p : Phase) (q : ℕ) → p ≡ phase.WaitCell q → IsCalm p → ⊥
not_calm (phase.WaitCell w) q e c = c
not_calm phase.Ready q e c = absurd (cc e)
not_calm phase.Over q e c = absurd (cc e)
not_calm (phase.WaitPar a b) q e c = absurd (cc e)
not_calm phase.Got q e c = c
not_calm (phase.Taken w) q e c = c
not_calm (phase.WaitLock m) q e c = c
not_calm (phase.WaitDup m) q e c = c
not_calm (phase.WaitJoin u) q e c = c
not_calm (phase.GotPar a b) q e c = c

-- nor asked a home
no_home : (i : Instr) (h h2 : Hand) → AsksHome i h h2 → (q : ℕ) → h2.thread.phase ≡ phase.WaitCell q → ⊥
no_home i h _ (a_lock w m e) q f = absurd (cc f)
no_home i h _ (a_dup w m e) q f = absurd (cc f)
no_home i h _ (a_join o u e) q f = absurd (cc f)

-- THE OWN THREAD

module _ (k c : Cluster) (v : EntryView) (t : ℕ) (o : Own k c v t) (after : HasPlaces c) (code : c.code ≡ k.code) (w : Lval) (r : Writes o.instruction w) where
  abbrev s : Server
  s = o.server

  abbrev y : ThreadState
  y = o.thread

  abbrev z : Steps k o.number t s y o.instruction
  z = o.steps

  abbrev h0 : Hand
  h0 = record { work = begin_work s.rest; thread = y }

  abbrev x : Standing
  x = standing k o.number t s y o.instruction z

  abbrev now : Standing
  now = me k c v t o after

  -- where it asked for a word
  asked_less : (h : Hand) → prepare (access_of o.instruction y) h0 ≡ requested h → o.result ≡ wait_step h → ahead (sight c) now ≤ ahead (sight k) x
  asked_less h asked is =
      let zz = z in
      let pc : o.result.hand.thread.pc ≡ y.pc = ap (λ (d : Stepped). d.hand.thread.pc) is ∙ (waits_there (access_of o.instruction y) h0 h asked).0 in
      let path_now : path (sight c) now ≡ writes w =
      ap (λ cs. path_of (slice_get cs o.result.hand.thread.pc) o.result.hand.thread) code ∙ ap (λ u. path_of (slice_get k.code u) o.result.hand.thread) pc ∙ ap (λ u. path_of u o.result.hand.thread) zz.code ∙ path_is o.instruction w o.result.hand.thread r in
      let path_was : path (sight k) x ≡ writes w = ap (λ u. path_of u y) zz.code ∙ path_is o.instruction w y r in
      let grown : y.passed ≤ h.thread.passed = stars_grow w.depth 0 h0 (in_slot w.slot) h (sym (ap (λ u. prepare u h0) (access_is o.instruction w y r)) ∙ asked) in
      let passed_is : o.result.hand.thread.passed ≡ h.thread.passed = ap (λ (d : Stepped). d.hand.thread.passed) is in
      let one : ahead (sight c) now ≡ w.depth - o.result.hand.thread.passed = ap (ahead_on (sight c) now) path_now in
      let two : ahead (sight k) x ≡ w.depth - y.passed = ap (ahead_on (sight k) x) path_was in
      omega (arith, one, two, grown, passed_is)

  -- where it waits for a word it asked for it
  pub own_less : (q : ℕ) → o.result.hand.thread.phase ≡ phase.WaitCell q → ahead (sight c) now ≤ ahead (sight k) x
  own_less q waits = by (outcome k.options.servers o.instruction h0 o.result o.is)
    where
      by : Outcome o.instruction h0 o.result → ahead (sight c) now ≤ ahead (sight k) x
      by (is_done calm) = absurd (not_calm o.result.hand.thread.phase q waits calm)
      by (has_asked h asked is) = asked_less h asked is
      by (asks_home h h2 sp is_ready asks is) = absurd (no_home o.instruction h h2 asks q (sym (ap (λ (d : Stepped). d.hand.thread.phase) is) ∙ waits))

-- THE EVENT

-- the word that a thread waits for, as a number
abbrev waited : Phase → ℕ
waited (phase.WaitCell w) = suc w
waited p = 0

waits_for : (p : Phase) (q : ℕ) → waited p ≡ suc q → p ≡ phase.WaitCell q
waits_for (phase.WaitCell w) q e = let same : w ≡ q = omega (arith, e) in ap phase.WaitCell same
waits_for phase.Ready q e = absurd (omega (arith, e))
waits_for phase.Over q e = absurd (omega (arith, e))
waits_for (phase.WaitPar a b) q e = absurd (omega (arith, e))
waits_for phase.Got q e = absurd (omega (arith, e))
waits_for (phase.Taken w) q e = absurd (omega (arith, e))
waits_for (phase.WaitLock m) q e = absurd (omega (arith, e))
waits_for (phase.WaitDup m) q e = absurd (omega (arith, e))
waits_for (phase.WaitJoin u) q e = absurd (omega (arith, e))
waits_for (phase.GotPar a b) q e = absurd (omega (arith, e))

module _ (k : Cluster) (e : Event) (t : ℕ) (is : e.what ≡ Step t) (coherent : IsCoherent k) (few : FewEvents k) where
  abbrev D : Type 0
  D = Cluster × EntryView

  abbrev Settings : D → Type 0
  Settings d = (d.0.code ≡ k.code) × (d.0.options ≡ k.options)

  abbrev Places : D → Type 0
  Places d = HasPlaces d.0

  abbrev Facts : D → Type 0
  Facts d = (OwnIn k e coherent few d × Places d) × Settings d

  facts : Gives Facts (apply k e)
  facts =
      both_give (λ d. OwnIn k e coherent few d × Places d) Settings Facts (apply k e)
      (both_give (OwnIn k e coherent few) Places (λ d. OwnIn k e coherent few d × Places d) (apply k e) (own_step k e coherent few)
      (applied_part HasPlaces (λ c g. record { numbers_differ = g.numbers_differ; home_of_each = g.home_of_each; owner_of_each = g.owner_of_each }) k e coherent.sound few) (λ d a b. (a, b)))
      (same_settings k e) (λ d a b. (a, b))

  module _ (x : Standing) (i : Instr) (w : Lval) (among : Among x (sight k).ground.threads) (number : x.thread.number ≡ t) (at : instr_of (sight k) x ≡ Some i) (r : Writes i w) where
    -- it is the thread that stepped
    it_stood : (d : D) (o : Own k d.0 d.1 t) → x ≡ standing k o.number t o.server o.thread o.instruction o.steps
    it_stood d o =
        let z = o.steps in
        let st : Standing = standing k o.number t o.server o.thread o.instruction z in
        let on : GoesOn k st = goes k o.number t o.server o.thread o.instruction z in
        let named : o.thread.number ≡ t = sym (number_then k d.0 d.1 t o) ∙ o.named in
        let one = found x (things_of k) (let names = coherent.sound.names in names.numbers_differ x.thread.number) among in
        let two = found st (things_of k) (let names = coherent.sound.names in names.numbers_differ o.thread.number) on.among in
        some_is (sym one ∙ ap (thread_at (sight k).ground.threads) (number ∙ sym named) ∙ two)

    after_it : (d : D) → Facts d → (y : Standing) (q : ℕ) → Among y (sight d.0).ground.threads → y.thread.number ≡ t → y.thread.phase ≡ phase.WaitCell q → ahead (sight d.0) y ≤ ahead (sight k) x
    after_it d f y q listed named waits =
        let o : Own k d.0 d.1 t = f.0.0 t is in
        let places : HasPlaces d.0 = f.0.1 in
        let stood = it_stood d o in
        let z = o.steps in
        let same = it_is k d.0 d.1 t o places y listed named in
        let instr_is : i ≡ o.instruction = some_is (sym at ∙ ap (λ (u : Standing). slice_get k.code u.thread.pc) stood ∙ z.code) in
        let writes_it : Writes o.instruction w = subst (λ u. Writes u w) instr_is r in
        let waits_now : o.result.hand.thread.phase ≡ phase.WaitCell q = waits_for o.result.hand.thread.phase q (sym (same (λ u. waited u.thread.phase)) ∙ ap waited waits) in
        let one = same (λ u. ahead (sight d.0) u) in
        let two : ahead (sight k) x ≡ ahead (sight k) (standing k o.number t o.server o.thread o.instruction z) = ap (ahead (sight k)) stood in
        let less = own_less k d.0 d.1 t o places f.1.0 w writes_it q waits_now in
        omega (arith, one, two, less)

pub own_writes : OwnWritesLeaveNoMore
own_writes k e t is coherent few x i w among number at r =
    weaker (Facts k e t is coherent few) (λ (d : Cluster × EntryView). (y : Standing) (q : ℕ) → Among y (sight d.0).ground.threads → y.thread.number ≡ t → y.thread.phase ≡ phase.WaitCell q → ahead (sight d.0) y ≤ ahead (sight k) x) (apply k e)
    (facts k e t is coherent few) (λ d f. after_it k e t is coherent few x i w among number at r d f)
