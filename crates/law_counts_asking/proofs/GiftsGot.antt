-- A gift stands in phase `Got` alone, after each event of a coherent cluster: its thread asks for nothing before it takes it.
use Rattle.std.proofs.Common.{◌≡◌, inl, inr, ℕ, ◌&&◌, not, is_some, Bool, true, false, List, [], Option, Some, None, option_map, refl, sym, ap, subst, ◌∙◌, arith}
use Rattle.std.specs.Prelude.{slice_get}
use Rattle.law_results_reads.specs.Below.fr_base.declared.place.Lval.{Lval}
use Rattle.law_results_reads.specs.Below.fr_base.declared.step.Fresh.TheVariants as fresh
use Rattle.law_results_reads.specs.Below.fr_base.declared.instruction.Instr.{Instr}
use Rattle.law_results_reads.specs.Below.fr_base.declared.instruction.Instr.TheVariants as instr
use Rattle.law_results_reads.specs.Below.fr_base.declared.instruction.Operand.{Operand}
use Rattle.law_results_reads.specs.Below.fr_base.declared.instruction.Operand.TheVariants as operand
use Rattle.law_results_reads.specs.Below.fr_typing.Kinds.{own, mutex, whole}
use Rattle.law_results_reads.specs.Below.fr_store.Below.{ExactOf}
use Rattle.law_results_reads.specs.Below.fr_store.Keys.{slot_k}
use Rattle.law_results_reads.specs.Below.fr_code.CodeTypes.{Entry, Table, InstrTypes, i_dup, i_lock}
use Rattle.law_results_reads.specs.Below.heap_partition.declared.value.Owned.{Owned}
use Rattle.law_results_reads.specs.Below.migration.Packing.{unpin_all}
use Rattle.law_results_reads.specs.Below.read_cache.Cache.{Copy}
use Rattle.law_results_reads.specs.Below.thread_state.View.{ThreadState}
use Rattle.law_results_reads.specs.Below.thread_state.declared.phase.Phase.{Phase}
use Rattle.law_results_reads.specs.Below.thread_state.declared.phase.Phase.TheVariants as phase
use Rattle.law_results_reads.specs.Below.thread_state.declared.value.Value.{Value}
use Rattle.law_results_reads.specs.Below.server_model.declared.event.Event.{Event}
use Rattle.law_results_reads.specs.Below.server_model.Servers.{Server, Cluster, server_at}
use Rattle.law_results_reads.specs.Below.server_model.Work.{Hand, Popped, thread_in, last_of, pop, taken_as, task_of, then_some, with_cache}
use Rattle.law_results_reads.specs.Below.server_model.Places.{Spot, in_slot, load_at}
use Rattle.law_results_reads.specs.Below.server_model.Prepare.{Prepared, ready, requested, nothing, read_stars}
use Rattle.law_results_reads.specs.Below.server_model.Commit.{goes_on, go_on, take_gift, push_content, mutex_at, dup, lock, join, commit}
use Rattle.law_results_reads.specs.Below.server_model.Events.{Stepped, can_step, has_phase, begin_work, done_step, committed, prepared, step}
use Rattle.law_results_reads.specs.Below.coherent_memory.Names.{one, other}
use Rattle.law_results_reads.specs.Below.coherent_memory.Things.{at_slot}
use Rattle.law_results_reads.specs.Below.coherent_memory.Sight.{sight}
use Rattle.law_results_reads.specs.Below.coherent_memory.Paths.{path_of}
use Rattle.law_results_reads.specs.Below.coherent_memory.Walking.{loose_hop, has_followed}
use Rattle.law_results_reads.specs.Below.coherent_memory.Requests.{is_got, early_gift}
use Rattle.law_results_reads.specs.Below.coherent_memory.Coherent.{IsSound, gifts_got}
use Rattle.law_results_reads.proofs.Below.coherent_memory.Passing.{paths_law}
use Rattle.law_results_reads.specs.Below.coherent_types.ClusterTypes.{IsCoherent}
use Rattle.law_results_reads.specs.Below.law_counts_sums.Laws.{Gives, FewEvents}
use Rattle.law_results_reads.proofs.Below.law_counts_sums.Results.{map_gives, over_gives, bind_gives, weaker}
use Rattle.law_results_reads.proofs.Below.law_counts_sums.GiftsTaken.{gift_fits}
use Rattle.law_results_reads.proofs.Below.law_counts_sums.QuietSteps.{GiftFits}
use Rattle.law_counts_things.specs.things.Laws.{EachCoherentEventKeeps}
use Rattle.law_counts_things.proofs.things.Goes.{Left, Goes, IsGotten, on, waits_pair, is_over, asks_cell, asks_home, gets_cell, gets_gift, goes_pair, thread_goes}
use Rattle.law_counts_things.proofs.things.Threads.{Ways}
use Rattle.law_counts_things.proofs.things.Handed.{Stood, InParcel, threads_go, known}
use Rattle.law_results_reads.proofs.Known.{Steps, goes, paths, standing, hand, entry, typed, types}
use Rattle.law_results_reads.proofs.Followed.{Place}
use Rattle.law_results_reads.proofs.Starred.{a_slot, Fine}
use Rattle.law_results_reads.proofs.Readers.{IsReadable, readable_place, begins, stars_fine, never_taken, to_entry}
use Rattle.law_counts_asking.proofs.Unasked.{Unasked, AllAtHand, stars_near}

-- WITHOUT A GIFT

abbrev Early : Option Owned → Phase → Type 0
Early g p = one (is_some g && not (is_got p)) ≡ 0

-- without a gift none is early
none_early : (g : Option Owned) (p : Phase) → g ≡ None → Early g p
none_early g p e = ap (λ o. one (is_some o && not (is_got p))) e

-- in phase `Got` none is
got_early : (g : Option Owned) (p : Phase) → p ≡ phase.Got → Early g p
got_early g p e = ap (λ q. one (is_some g && not (is_got q))) e ∙ by (is_some g)
  where
    by : (b : Bool) → one (b && false) ≡ 0
    by true = refl
    by false = refl

-- who had no gift has none
pub left_none : (g h : Option Owned) → g ≡ None → Left g h → h ≡ None
left_none g h e (inl q) = q ∙ e
left_none g h e (inr q) = q

-- a thread without a gift gets one in phase `Got` alone
bare_goes : (code : List Instr) (y y2 : ThreadState) → y.gift ≡ None → Goes code y y2 → Early y2.gift y2.phase
bare_goes code y y2 e (on i at o pc q passed walk g same) = none_early y2.gift y2.phase (left_none y.gift y2.gift e g)
bare_goes code y y2 e (waits_pair cs pc ds other a b at m q passed walk g same) = none_early y2.gift y2.phase (left_none y.gift y2.gift e g)
bare_goes code y y2 e (is_over o at pc q passed walk slots temps g same) = none_early y2.gift y2.phase (left_none y.gift y2.gift e g)
bare_goes code y y2 e (asks_cell i w at f pc q g same) = none_early y2.gift y2.phase (left_none y.gift y2.gift e g)
bare_goes code y y2 e (asks_home i m at a pc q g passed walk same) = none_early y2.gift y2.phase g
bare_goes code y y2 e (gets_cell w was q pc g same) = none_early y2.gift y2.phase (g ∙ e)
bare_goes code y y2 e (gets_gift was q pc passed walk temps shares same) = got_early y2.gift y2.phase q
bare_goes code y y2 e (goes_pair a b was q pc g passed walk same) = none_early y2.gift y2.phase (g ∙ e)

-- where it has a gift it has got something
pub bare_of : (g : Option Owned) (p : Phase) → Early g p → is_got p ≡ false → g ≡ None
bare_of None p z e = refl
bare_of (Some v) p z e = by (is_got p) e z
  where
    by : (b : Bool) → b ≡ false → one (true && not b) ≡ 0 → Some v ≡ None
    by true q y = absurd (cc q)
    by false q y = absurd (cc y)

-- a thread that gets something
gotten_bare : (code : List Instr) (y y2 : ThreadState) → Early y.gift y.phase → (g : Goes code y y2) → IsGotten g → Early y2.gift y2.phase
gotten_bare code y y2 p (gets_cell w was q pc g same) got = bare_goes code y y2 (bare_of y.gift y.phase p (ap is_got was)) (gets_cell w was q pc g same)
gotten_bare code y y2 p (gets_gift was q pc passed walk temps shares same) got = got_early y2.gift y2.phase q
gotten_bare code y y2 p (goes_pair a b was q pc g passed walk same) got = bare_goes code y y2 (bare_of y.gift y.phase p (ap is_got was)) (goes_pair a b was q pc g passed walk same)
gotten_bare code y y2 p g got = absurd got

-- A GIFT IS TAKEN

abbrev pub Bare : Stepped → Type 0
Bare d = (d.hand.thread.gift ≡ None) × (d.hand.thread.phase ≡ phase.Ready)

abbrev BareHand : Hand → Type 0
BareHand h = h.thread.gift ≡ None

-- the same once the walk has gone
settles_bare : (o : Option Hand) → Gives BareHand o → Gives Bare (committed (goes_on o))
settles_bare None g = tt
settles_bare (Some h) g = by (unpin_all h.thread.walk h.work.rest.cache)
  where
    by : (l : Option (List Copy)) → Gives Bare (option_map (done_step fresh.None) (option_map (λ cs. record { work = with_cache cs h.work; thread = record (go_on h).thread { passed = 0; walk = []; moved_since_step = false } }) l))
    by None = tt
    by (Some cs) = (g, refl)

-- a lock takes its gift
lock_takes : (sp : Spot) (v : Owned) (h : Hand) → Gives Bare (committed (lock sp (Some v) h))
lock_takes sp v h = settles_bare (option_map (push_content v (load_at sp (take_gift h))) (mutex_at h sp)) (map_gives BareHand (mutex_at h sp) (push_content v (load_at sp (take_gift h))) (λ m q. refl))

-- so does a dup
dup_takes : (sp : Spot) (v : Owned) (h : Hand) → Gives Bare (committed (dup sp (Some v) h))
dup_takes sp v h = settles_bare _ (map_gives BareHand (mutex_at h sp) _ (λ m q. refl))

-- so does a join
join_takes : (o : Operand) (v : Owned) (h : Hand) → Gives Bare (committed (join o (Some v) h))
join_takes o v h =
    settles_bare _
    (over_gives (λ (p : Popped ℕ). BareHand p.hand) BareHand (then_some (pop o (take_gift h)) (taken_as task_of)) _
    (bind_gives (λ (p : Popped Value). BareHand p.hand) (λ (p : Popped ℕ). BareHand p.hand) (pop o (take_gift h)) (taken_as task_of) (pops o) (λ p u. map_gives (λ (r : Popped ℕ). BareHand r.hand) (task_of p.item) _ (λ t q. u))) (λ p u. u))
  where
    pops : (o : Operand) → Gives (λ (p : Popped Value). BareHand p.hand) (pop o (take_gift h))
    pops (operand.Const m) = refl
    pops operand.Unit = refl
    pops operand.Pop = map_gives (λ (p : Popped Value). BareHand p.hand) (last_of h.thread.temps) _ (λ u q. refl)

-- A STEP

-- the place of a dup is read
pub readable_dup : (table : Table) (e e2 : Entry) (w : Lval) → InstrTypes table e (instr.Dup w) e2 → (o : Rattle.law_results_reads.specs.Below.fr_typing.Kinds.Owned) × IsReadable e w (own (mutex o))
readable_dup table _ _ w (i_dup {x = o} waits has free) = (o, record { awake = refl; has = has; free = free; waits_there = waits })

-- so is that of a lock
pub readable_lock : (table : Table) (e e2 : Entry) (w : Lval) → InstrTypes table e (instr.Lock w) e2 → (o : Rattle.law_results_reads.specs.Below.fr_typing.Kinds.Owned) × IsReadable e w (own (mutex o))
readable_lock table _ _ w (i_lock {x = o} name waits has free new) = (o, record { awake = refl; has = has; free = free; waits_there = waits })

module _ (k : Cluster) (n t : ℕ) (s : Server) (y : ThreadState) (i : Instr) (z : Steps k n t s y i) (v : Owned) (given : y.gift ≡ Some v) where
  -- its phase is the one in which it has followed its place
  its_phase : y.phase ≡ phase.Got
  its_phase = by y.phase (known k z.coherent.sound n s z.here t y z.at early_gift z.coherent.sound.requests.gifts_got)
    where
      by : (p : Phase) → one (is_some y.gift && not (is_got p)) ≡ 0 → p ≡ phase.Got
      by phase.Got e = refl
      by p e = absurd (cc (sym (ap (λ g. one (is_some g && true)) given) ∙ e))

  module _ (w : Lval) (followed : has_followed (sight k) (standing k n t s y i z) phase.Got ≡ true) (reads : Rattle.law_results_reads.specs.Below.coherent_memory.Paths.path_of (slice_get k.code y.pc) y ≡ Rattle.law_results_reads.specs.Below.coherent_memory.Paths.reads w) where
    at_hand : AllAtHand k n t s y i z w w.depth
    at_hand d l u lt located stands =
        let me = standing k n t s y i z in
        let on_it = goes k n t s y i z in
        let has : has_followed (sight k) me y.phase ≡ true = ap (has_followed (sight k) me) its_phase ∙ followed in
        z.coherent.sound.walks.have_followed me w d l u on_it.among has (ap Rattle.law_results_reads.specs.Below.coherent_memory.Passing.followed_place reads) lt (record { path = paths_law.located (sight k).ground y.number w.slot d l located; stands = stands })

    module _ (o : Rattle.law_results_reads.specs.Below.fr_typing.Kinds.Owned) (may : IsReadable (entry k n t s y i z) w (own (mutex o))) (lends_none : (p : Lval) → i ≡ instr.BorrowMut p → ⊥) where
      its_place : (p : Place k (paths k n t s y i z) (standing k n t s y i z) false w) × ExactOf (slot_k y.number) (paths k n t s y i z).types.typing.exact (whole (own (mutex o))) p.type
      its_place = readable_place k (paths k n t s y i z) (standing k n t s y i z) (goes k n t s y i z) w (own (mutex o)) may

      fine : Fine k n t s y i z w.slot w.depth (read_stars w.depth (hand k n t s y i z) (in_slot w.slot))
      fine = stars_fine k n t s y i z false w its_place.0 may.has.short w.depth (omega arith) (never_taken k n t s y i z lends_none false w its_place.0)

      unasked : Unasked (read_stars w.depth (hand k n t s y i z) (in_slot w.slot))
      unasked =
          stars_near k n t s y i z false w its_place.0 may.has.short w.depth (omega arith) (never_taken k n t s y i z lends_none false w its_place.0) at_hand w.depth 0 (omega arith) (hand k n t s y i z) (in_slot w.slot) (at_slot y.number w.slot) refl (a_slot w.slot) (begins k n t s y i z)

      -- the step goes on with the gift
      pub takes_it : (servers : ℕ) → ((sp : Spot) (h : Hand) → h.thread.gift ≡ Some v → Gives Bare (committed (commit servers i sp h))) → Gives Bare (prepared servers i (read_stars w.depth (hand k n t s y i z) (in_slot w.slot)))
      takes_it servers go = by (read_stars w.depth (hand k n t s y i z) (in_slot w.slot)) fine unasked
        where
          by : (p : Prepared) → Fine k n t s y i z w.slot w.depth p → Unasked p → Gives Bare (prepared servers i p)
          by (ready h sp) f u = let reading = f.3 in go sp h (reading.gift ∙ given)
          by (requested h) f u = absurd u
          by nothing f u = tt

-- ALL STEPS

module _ (k : Cluster) (n t : ℕ) (s : Server) (y : ThreadState) where
  -- the step of a lock with a gift
  at_lock : (w : Lval) (v : Owned) → Steps k n t s y (instr.Lock w) → y.gift ≡ Some v → Gives Bare (step k.options.servers (instr.Lock w) (record { work = begin_work s.rest; thread = y }))
  at_lock w v z given =
      let i = instr.Lock w in
      let at = typed k n t s y i z in
      let to = to_entry (types k n t s y i z).table y.pc (entry k n t s y i z) i at.0 at.1 (λ o e. cc) in
      let q = readable_lock (types k n t s y i z).table (entry k n t s y i z) to.0 w to.1 in
      let has : has_followed (sight k) (standing k n t s y i z) phase.Got ≡ true = ap (λ o. Rattle.law_results_reads.specs.Below.coherent_memory.Walking.has_gift_there y.gift o) z.code ∙ ap (λ g. Rattle.law_results_reads.specs.Below.coherent_memory.Walking.has_gift_there g (Some i)) given in
      takes_it k n t s y i z v given w has (ap (λ o. path_of o y) z.code) q.0 q.1 (λ p e. cc) k.options.servers (λ sp h e. subst (λ g. Gives Bare (committed (lock sp g h))) (sym e) (lock_takes sp v h))

  -- that of a dup
  at_dup : (w : Lval) (v : Owned) → Steps k n t s y (instr.Dup w) → y.gift ≡ Some v → Gives Bare (step k.options.servers (instr.Dup w) (record { work = begin_work s.rest; thread = y }))
  at_dup w v z given =
      let i = instr.Dup w in
      let at = typed k n t s y i z in
      let to = to_entry (types k n t s y i z).table y.pc (entry k n t s y i z) i at.0 at.1 (λ o e. cc) in
      let q = readable_dup (types k n t s y i z).table (entry k n t s y i z) to.0 w to.1 in
      let has : has_followed (sight k) (standing k n t s y i z) phase.Got ≡ true = ap (λ o. Rattle.law_results_reads.specs.Below.coherent_memory.Walking.has_gift_there y.gift o) z.code ∙ ap (λ g. Rattle.law_results_reads.specs.Below.coherent_memory.Walking.has_gift_there g (Some i)) given in
      takes_it k n t s y i z v given w has (ap (λ o. path_of o y) z.code) q.0 q.1 (λ p e. cc) k.options.servers (λ sp h e. subst (λ g. Gives Bare (committed (dup sp g h))) (sym e) (dup_takes sp v h))

  -- that of a join
  at_join : (o : Operand) (v : Owned) (servers : ℕ) → y.gift ≡ Some v → Gives Bare (step servers (instr.Join o) (record { work = begin_work s.rest; thread = y }))
  at_join o v servers given =
      subst (λ g. Gives Bare (committed (join o g (record { work = begin_work s.rest; thread = y })))) (sym given) (join_takes o v (record { work = begin_work s.rest; thread = y }))

  -- a thread with a gift steps where it takes it
  pub steps_bare : (i : Instr) (v : Owned) → Steps k n t s y i → y.gift ≡ Some v → GiftFits i (Some v) → Gives Bare (step k.options.servers i (record { work = begin_work s.rest; thread = y }))
  steps_bare (instr.Lock w) v z given f = at_lock w v z given
  steps_bare (instr.Dup w) v z given f = at_dup w v z given
  steps_bare (instr.Join o) v z given f = at_join o v k.options.servers given
  steps_bare i v z given f = absurd (cc f)

module _ (k : Cluster) (e : Event) (coherent : IsCoherent k) (few : FewEvents k) (s : Server) (here : server_at k.servers e.server ≡ Some s) where
  abbrev sound : IsSound k
  sound = coherent.sound

  abbrev h0 : ThreadState → Hand
  h0 y = record { work = begin_work s.rest; thread = y }

  -- a step, with a gift or without
  step_keeps : (t : ℕ) (y : ThreadState) (i : Instr) → has_phase can_step (thread_in s.threads t) ≡ true → thread_in s.threads t ≡ Some y → slice_get k.code y.pc ≡ Some i
      → Gives (λ (d : Stepped). Early d.hand.thread.gift d.hand.thread.phase) (step k.options.servers i (h0 y))
  step_keeps t y i on_it there code = by y.gift refl
    where
      by : (g : Option Owned) → y.gift ≡ g → Gives (λ (d : Stepped). Early d.hand.thread.gift d.hand.thread.phase) (step k.options.servers i (h0 y))
      by None q =
          weaker (λ (d : Stepped). Goes k.code y d.hand.thread) (λ (d : Stepped). Early d.hand.thread.gift d.hand.thread.phase) (step k.options.servers i (h0 y)) (thread_goes k.code k.options.servers i y code s.rest (h0 y) refl)
          (λ d g. bare_goes k.code y d.hand.thread q g)
      by (Some v) q =
          let fits : GiftFits i y.gift = (gift_fits k sound e.server s here t y there i code).0 in
          let z : Steps k e.server t s y i = record { coherent = coherent; few = few; here = here; on = on_it; at = there; code = code } in
          weaker Bare (λ (d : Stepped). Early d.hand.thread.gift d.hand.thread.phase) (step k.options.servers i (h0 y)) (steps_bare k e.server t s y i v z q (subst (GiftFits i) q fits)) (λ d g. none_early d.hand.thread.gift d.hand.thread.phase g.0)

  -- whatever a thread does
  gift_ways : Ways k.code k.options.servers s e.what (Stood early_gift s.rest.number) (InParcel early_gift)
  gift_ways = record {
    steps = λ t y i is on_it there p code. step_keeps t y i on_it there code;
    goes = λ t y y2 there p g got. gotten_bare k.code y y2 p g got;
    arrives = λ t q. q;
    starts = λ t n y i u pc vs there p at d. refl;
    leaves = λ t n y there p r. p;
  }

-- after whatever event
pub gifts_got_kept : EachCoherentEventKeeps gifts_got
gifts_got_kept k e coherent few = let sound : IsSound k = coherent.sound in threads_go early_gift k e coherent.sound few sound.requests.gifts_got (gift_ways k e coherent few)
