-- A step that is done leaves its thread mutable references to objects from where the act takes them.
use Rattle.std.proofs.Common.{◌≡◌, inl, inr, ℕ, true, false, List, [], map, Option, Some, None, refl, sym, ap, subst, ◌∙◌}
use Rattle.std.specs.Prelude.{option_map}
use Rattle.law_types_events.specs.Below.fr_base.declared.place.Lval.{Lval}
use Rattle.law_types_events.specs.Below.fr_base.declared.instruction.Instr.{Instr}
use Rattle.law_types_events.specs.Below.fr_base.declared.instruction.Instr.TheVariants as instr
use Rattle.law_types_events.specs.Below.migration.Packing.{unpin_all}
use Rattle.law_types_events.specs.Below.read_cache.Cache.{Copy}
use Rattle.law_types_events.specs.Below.thread_state.View.{ThreadState}
use Rattle.law_types_events.specs.Below.thread_state.declared.value.Value.{Value}
use Rattle.law_types_events.specs.Below.server_model.Servers.{Server, Cluster}
use Rattle.law_types_events.specs.Below.server_model.Work.{Hand, with_cache}
use Rattle.law_types_events.specs.Below.server_model.Places.{Spot, in_slot}
use Rattle.law_types_events.specs.Below.server_model.Prepare.{Prepared, ready, requested, nothing, read_or_taken, access_of, prepare, read_stars}
use Rattle.law_types_events.specs.Below.server_model.Commit.{Committed, done, waits, refused, commit}
use Rattle.law_types_events.specs.Below.server_model.Events.{Stepped, done_step, committed, prepared, step}
use Rattle.law_types_events.specs.Below.coherent_memory.Coherent.{IsSound}
use Rattle.law_types_events.specs.Below.law_counts_sums.Laws.{Gives}
use Rattle.law_types_events.specs.Below.law_heap_still.events.Shows.{frame_of}
use Rattle.law_types_events.proofs.Below.law_heap_still.events.Addresses.{in_place}
use Rattle.law_types_events.proofs.Below.law_heap_still.events.Leaving.{others, placed_here}
use Rattle.law_types_events.proofs.Below.law_heap_still.events.Readied.{Readied, IsPlaced}
use Rattle.law_types_events.proofs.Below.law_heap_still.events.Prepares.{prepare_shows, Fine as Shows}
use Rattle.law_types_events.specs.Below.law_plain_values.acts.Keeps.{OnReferences, rests, binds, takes, lends, puts}
use Rattle.law_types_events.proofs.Below.law_results_reads.Known.{Steps, hand}
use Rattle.law_types_events.proofs.sorts.Steps.{IsDone}
use Rattle.law_types_events.proofs.holders.Holding.{held, top_held, framed_held, framed_length, framed_top}
use Rattle.law_types_events.proofs.holders.Came.{on_of, SlotCame, TempCame, Came}
use Rattle.law_types_events.proofs.holders.Walk.{Ends, came}

-- FRAMES

module _ (vs ts vs2 ts2 : List Value) (slots : map frame_of vs2 ≡ map frame_of vs) (temps : map frame_of ts2 ≡ map frame_of ts) where
  slot : (j : ℕ) (w : Lval) → held vs2 j ≡ Some w → held vs j ≡ Some w
  slot j w e = sym (framed_held vs vs2 slots j) ∙ e

  temp : (j : ℕ) (w : Lval) → held ts2 j ≡ Some w → held ts j ≡ Some w
  temp j w e = sym (framed_held ts ts2 temps j) ∙ e

  top : (w : Lval) → top_held ts2 ≡ Some w → top_held ts ≡ Some w
  top w e = sym (framed_top ts ts2 temps) ∙ e

  slot_framed : (on : OnReferences) (j : ℕ) (w : Lval) → SlotCame on vs2 ts2 j w → SlotCame on vs ts j w
  slot_framed rests j w e = slot j w e
  slot_framed binds j w (inl e) = inl (slot j w e)
  slot_framed binds j w (inr e) = inr (e.0 ∙ framed_length vs vs2 slots, top w e.1)
  slot_framed (takes p) j w e = slot j w e
  slot_framed (lends p) j w e = slot j w e
  slot_framed (puts p) j w (inl e) = inl (slot j w e.0, e.1)
  slot_framed (puts p) j w (inr e) = inr (e.0, e.1, top w e.2)

  temp_framed : (on : OnReferences) (j : ℕ) (w : Lval) → TempCame on vs2 ts2 j w → TempCame on vs ts j w
  temp_framed rests j w e = temp j w e
  temp_framed binds j w e = temp j w e
  temp_framed (puts p) j w e = temp j w e
  temp_framed (takes p) j w (inl e) = inl (temp j w e)
  temp_framed (takes p) j w (inr e) = inr (e.0 ∙ framed_length ts ts2 temps, λ z. slot p.slot w (e.1 z))
  temp_framed (lends p) j w (inl e) = inl (temp j w e)
  temp_framed (lends p) j w (inr e) = inr (e.0 ∙ framed_length ts ts2 temps, e.1)

  framed_came : (on : OnReferences) (us ss : List Value) → Came on vs2 ts2 us ss → Came on vs ts us ss
  framed_came on us ss c = record { slots = λ j w e. slot_framed on j w (c.slots j w e); temps = λ j w e. temp_framed on j w (c.temps j w e) }

-- THE STEP

module _ (k : Cluster) (n t : ℕ) (s : Server) (y : ThreadState) (i : Instr) (z : Steps k n t s y i) where
  abbrev sound : IsSound k
  sound = z.coherent.sound

  abbrev h0 : Hand
  h0 = hand k n t s y i z

  abbrev servers : ℕ
  servers = k.options.servers

  -- where it is done
  abbrev pub StepCame : Stepped → Type 0
  StepCame d = IsDone d.names → Came (on_of i) y.slots y.temps d.hand.thread.slots d.hand.thread.temps

  placed : IsPlaced h0
  placed = in_place s.rest.number s.events s.rest (others k sound n s z.here) (placed_here k sound n s z.here)

  shows : Shows h0 (prepare (access_of i y) h0)
  shows = prepare_shows h0 (access_of i y) placed

  ready_is : {h h2 : Hand} {sp sp2 : Spot} → ready h sp ≡ ready h2 sp2 → sp ≡ sp2
  ready_is e = cc

  -- a move out of a variable
  moved_here : (h : Hand) (sp : Spot) → prepare (access_of i y) h0 ≡ ready h sp → (w : Lval) → i ≡ instr.Read w true → w.depth ≡ 0 → sp ≡ in_slot w.slot
  moved_here h sp e w is d =
      let one : prepare (Some (read_or_taken w w.depth true)) h0 ≡ ready h sp = subst (λ j. prepare (access_of j y) h0 ≡ ready h sp) is e in
      let two : prepare (Some (read_or_taken w 0 true)) h0 ≡ ready h sp = subst (λ m. prepare (Some (read_or_taken w m true)) h0 ≡ ready h sp) d one in
      let three : read_stars 0 h0 (in_slot w.slot) ≡ ready h sp = subst (λ m. read_stars m h0 (in_slot w.slot) ≡ ready h sp) d two in
      sym (ready_is three)

  settles : (h : Hand) → Readied h0 h → (c : Committed) → Ends (on_of i) h c → Gives StepCame (committed c)
  settles h r (done names h2) g = by (unpin_all h2.thread.walk h2.work.rest.cache)
    where
      by : (o : Option (List Copy)) → Gives StepCame (option_map (done_step names) (option_map (λ cs. record { work = with_cache cs h2.work; thread = record h2.thread { passed = 0; walk = []; moved_since_step = false } }) o))
      by None = tt
      by (Some cs) = λ d.
          framed_came y.slots y.temps h.thread.slots h.thread.temps (ap (λ (u : ThreadState). map frame_of u.slots) r.thread ∙ r.slots_framed) (ap (λ (u : ThreadState). map frame_of u.temps) r.thread ∙ r.temps_framed) (on_of i) h2.thread.slots h2.thread.temps g
  settles h r (waits h2) g = λ d. absurd (d refl)
  settles h r refused g = tt

  pub step_came : Gives StepCame (step servers i h0)
  step_came = by (prepare (access_of i y) h0) refl shows
    where
      by : (p : Prepared) → prepare (access_of i y) h0 ≡ p → Shows h0 p → Gives StepCame (prepared servers i p)
      by (ready h sp) e f = settles h f.0 (commit servers i sp h) (came servers i sp h (moved_here h sp e))
      by (requested h) e f = λ d. absurd (d refl)
      by nothing e f = tt
