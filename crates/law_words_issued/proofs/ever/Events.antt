-- After each event each word that stands anywhere was issued, kind by kind.
use Rattle.std.proofs.Common.{◌≡◌, ◌⊎◌, inl, inr, ℕ, true, nat_lt, Option, Some, None, option_map, refl, sym, ap, subst, ◌∙◌}
use Rattle.std.specs.Prelude.{slice_get, length}
use Rattle.law_words_issued.specs.Below.fr_base.declared.instruction.Operand.{Operand}
use Rattle.law_words_issued.specs.Below.fr_base.declared.instruction.Instr.{Instr}
use Rattle.law_words_issued.specs.Below.fr_base.declared.instruction.Instr.TheVariants as instr
use Rattle.law_words_issued.specs.Below.global_addr.Words.{colour_of}
use Rattle.law_words_issued.specs.Below.journal.View.{EntryView}
use Rattle.law_words_issued.specs.Below.thread_state.View.{ThreadState}
use Rattle.law_words_issued.specs.Below.server_msgs.declared.message.Message.{Message}
use Rattle.law_words_issued.specs.Below.server_msgs.declared.message.Message.TheVariants as message
use Rattle.law_words_issued.specs.Below.server_model.declared.event.Event.{Event}
use Rattle.law_words_issued.specs.Below.server_model.declared.event.What.{What}
use Rattle.law_words_issued.specs.Below.server_model.declared.event.What.TheVariants.{Step, Deliver, Evict, Migrate}
use Rattle.law_words_issued.specs.Below.server_model.Servers.{Server, Cluster, server_at}
use Rattle.law_words_issued.specs.Below.server_model.Work.{thread_in, then_some}
use Rattle.law_words_issued.specs.Below.server_model.Events.{left_by, received, deliver_message, begin_work, step, step_in, stepped, does}
use Rattle.law_words_issued.specs.Below.server_model.Clusters.{hand_over_newer, done_at, apply}
use Rattle.law_words_issued.specs.Below.coherent_memory.Names.{Among, tot, other}
use Rattle.law_words_issued.specs.Below.coherent_memory.Things.{Thing, flies, things_of}
use Rattle.law_words_issued.specs.Below.coherent_memory.Sight.{issued, sight}
use Rattle.law_words_issued.specs.Below.coherent_memory.Coherent.{Holds, are_issued}
use Rattle.law_words_issued.proofs.Below.coherent_memory.Words.{none_all}
use Rattle.law_words_issued.specs.Below.law_counts_sums.Kinds.{evicts, migrates, kind_at}
use Rattle.law_words_issued.specs.Below.law_counts_sums.Laws.{Gives, FewEvents}
use Rattle.law_words_issued.proofs.Below.law_counts_sums.Results.{both_give, weaker}
use Rattle.law_words_issued.specs.Below.coherent_types.ClusterTypes.{IsCoherent}
use Rattle.law_words_issued.specs.Below.law_words_paths.paths.HeapStore.{HasPaths}
use Rattle.law_words_issued.specs.Below.law_words_paths.words.Unmoved.{Delivers}
use Rattle.law_words_issued.specs.stands.Issuing.{LandsNone}
use Rattle.law_words_issued.proofs.stands.Steady.{issued_steady}
use Rattle.law_words_issued.proofs.ever.ByKind.{deliveries_stand_issued}
use Rattle.law_words_issued.proofs.Below.law_words_ends.arrivals.Arrivals.{none_done}
use Rattle.law_words_issued.proofs.apart.UnderWay.{FlightsIssued, step_flights, landing_flights}
use Rattle.law_words_issued.specs.old.Old.{unissued, first_words, lent_words}
use Rattle.law_words_issued.specs.stays.Issued.{MakesNoObject}
use Rattle.law_words_issued.proofs.old.Firsts.{steps_leave_firsts, arrivals_leave_firsts}
use Rattle.law_words_issued.proofs.stays.Boxes.{boxes_keep_issued}
use Rattle.law_words_issued.proofs.stays.Still.{steps_keep_issued}
use Rattle.law_words_issued.specs.ever.Standing.{flown_words, Settled, KeepsIssued}
use Rattle.law_words_issued.proofs.ever.Settled.{events_issue_words}
use Rattle.law_words_issued.proofs.ever.Arrivals.{arrivals_keep_issued}
use Rattle.law_words_issued.proofs.ever.Steps.{steps_leave_lent}
use Rattle.law_words_issued.proofs.ever.Landings.{landings_leave_lent}
use Rattle.law_words_issued.specs.ever.Issued.{EachEventIssues}

-- what was issued in one cluster is issued in the other
abbrev Stays : Cluster → Cluster → Type 0
Stays k d = (w : ℕ) → nat_lt (colour_of w) k.options.colours ≡ true → issued (sight k) w ≡ true → issued (sight d) w ≡ true

-- objects under way have words that had been issued
flights_none : (k d : Cluster) → FlightsIssued k d → tot (flown_words (unissued k)) (things_of d) ≡ 0
flights_none k d f = none_all (flown_words (unissued k)) (things_of d) by
  where
    by : (y : Thing) → Among y (things_of d) → flown_words (unissued k) y ≡ 0
    by (flies w c) h = ap other (f w c h)
    by _ h = refl

module _ (k : Cluster) (coherent : IsCoherent k) (few : FewEvents k) where
  abbrev Then : Cluster × EntryView → Type 0
  Then d = Settled d.0 → Holds d.0 are_issued

  -- where words that stand were issued whatever else holds
  whole : (e : Event) → Gives (λ (d : Cluster × EntryView). Holds d.0 are_issued) (apply k e) → Gives Then (apply k e)
  whole e g = weaker (λ (d : Cluster × EntryView). Holds d.0 are_issued) Then (apply k e) g (λ d h settled. h)

  -- what was issued is issued, where places lead as types say and pointers from which objects were taken have words that were issued
  abbrev Keeps : Cluster × EntryView → Type 0
  Keeps d = HasPaths d.0 → lent_words (unissued k) (sight d.0) ≡ 0 → Stays k d.0

  abbrev Firsts : Cluster × EntryView → Type 0
  Firsts d = tot (first_words (unissued k)) (things_of d.0) ≡ 0

  abbrev Flights : Cluster × EntryView → Type 0
  Flights d = FlightsIssued k d.0

  abbrev Lent : Cluster × EntryView → Type 0
  Lent d = lent_words (unissued k) (sight d.0) ≡ 0

  -- where words of former times were issued too
  by_words : (e : Event) → Gives Keeps (apply k e) → Gives Firsts (apply k e) → Gives Flights (apply k e) → Gives Lent (apply k e) → Gives Then (apply k e)
  by_words e stays firsts flights lent =
      both_give (λ d. (Keeps d × Firsts d) × (Flights d × Lent d)) (λ (d : Cluster × EntryView). Settled d.0 → KeepsIssued k d.0 → Holds d.0 are_issued) Then (apply k e)
      (both_give (λ d. Keeps d × Firsts d) (λ d. Flights d × Lent d) (λ d. (Keeps d × Firsts d) × (Flights d × Lent d)) (apply k e)
      (both_give Keeps Firsts (λ d. Keeps d × Firsts d) (apply k e) stays firsts (λ d a b. (a, b))) (both_give Flights Lent (λ d. Flights d × Lent d) (apply k e) flights lent (λ d a b. (a, b))) (λ d a b. (a, b)))
      (events_issue_words k e coherent few)
      (λ d all go settled. go settled (record { stays = (all.0).0 settled.paths (all.1).1; firsts = (all.0).1; flights = flights_none k d.0 (all.1).0; lent = (all.1).1 }))

  module _ (number : ℕ) (s : Server) (here : server_at k.servers number ≡ Some s) where
    abbrev at : What → Event
    at w = record { server = number; what = w }

    kind_here : (w : What) → then_some (server_at k.servers number) (kind_at k w) ≡ kind_at k w s
    kind_here w = ap (λ o. then_some o (kind_at k w)) here

    -- THE DELIVERY OF A MESSAGE

    module _ (i : ℕ) where
      of_other : (m : Message) → slice_get s.rest.inbox i ≡ Some m → LandsNone m → Gives Then (apply k (at (Deliver i)))
      of_other m e lands = whole (at (Deliver i)) (deliveries_stand_issued k number i s m coherent few here e lands)

      of_message : (m : Message) → slice_get s.rest.inbox i ≡ Some m → Gives Then (apply k (at (Deliver i)))
      of_message (message.Moved w c t) e =
          let d : Delivers k (at (Deliver i)) (message.Moved w c t) = record { place = i; what = refl; server = s; there = here; message = e } in
          by_words (at (Deliver i)) (arrivals_keep_issued k (at (Deliver i)) w c t d coherent few) (arrivals_leave_firsts k (at (Deliver i)) w c t d coherent few) (landing_flights k coherent.sound few number i w s c t here e) (landings_leave_lent k (at (Deliver i)) w c t d coherent few)
      of_message (message.Fetch w o a t) e = of_other (message.Fetch w o a t) e tt
      of_message (message.Fetched w c t) e = of_other (message.Fetched w c t) e tt
      of_message (message.Move w o a t) e = of_other (message.Move w o a t) e tt
      of_message (message.Drop w o) e = of_other (message.Drop w o) e tt
      of_message (message.Lock m a t) e = of_other (message.Lock m a t) e tt
      of_message (message.Granted m v t) e = of_other (message.Granted m v t) e tt
      of_message (message.Unlock m v) e = of_other (message.Unlock m v) e tt
      of_message (message.Dup m a t) e = of_other (message.Dup m a t) e tt
      of_message (message.Dupped m t) e = of_other (message.Dupped m t) e tt
      of_message (message.Release r) e = of_other (message.Release r) e tt
      of_message (message.Start t) e = of_other (message.Start t) e tt
      of_message (message.Join u a t) e = of_other (message.Join u a t) e tt
      of_message (message.Joined u v t) e = of_other (message.Joined u v t) e tt
      of_message (message.Finished u v) e = of_other (message.Finished u v) e tt
      of_message (message.Migrate t) e = of_other (message.Migrate t) e tt

      of_delivery : (o : Option Message) → slice_get s.rest.inbox i ≡ o → Gives Then (apply k (at (Deliver i)))
      of_delivery None e =
          none_done k number (Deliver i) s Then here
          (subst (λ o. Gives (λ (r : Server × EntryView). ⊥) (option_map (left_by s.events None None) (then_some o (λ m. deliver_message k.code m (received i s))))) (sym e) tt)
      of_delivery (Some m) e = of_message m e

    -- THE STEP OF A THREAD

    module _ (t : ℕ) where
      by_stays : Gives (λ (d : Cluster × EntryView). Stays k d.0) (apply k (at (Step t))) → Gives Then (apply k (at (Step t)))
      by_stays stays = by_words (at (Step t)) (weaker (λ (d : Cluster × EntryView). Stays k d.0) Keeps (apply k (at (Step t))) stays (λ d keeps paths lent. keeps)) (steps_leave_firsts k (at (Step t)) t refl coherent few) (step_flights k coherent.sound few number t) (steps_leave_lent k (at (Step t)) t refl coherent few)

      box_or_not : (i : Instr) → ((o : Operand) × (i ≡ instr.Box o)) ⊎ MakesNoObject i
      box_or_not (instr.Box o) = inl (o, refl)
      box_or_not (instr.Let o) = inr tt
      box_or_not (instr.Assign w o) = inr tt
      box_or_not (instr.Read w b) = inr tt
      box_or_not (instr.Borrow w) = inr tt
      box_or_not (instr.BorrowMut w) = inr tt
      box_or_not (instr.Arith g a b) = inr tt
      box_or_not (instr.Print o) = inr tt
      box_or_not instr.Discard = inr tt
      box_or_not instr.DropSlot = inr tt
      box_or_not (instr.Spawn cs pc) = inr tt
      box_or_not (instr.Join o) = inr tt
      box_or_not (instr.Mutex o) = inr tt
      box_or_not (instr.Dup w) = inr tt
      box_or_not (instr.Lock w) = inr tt
      box_or_not instr.Unlock = inr tt
      box_or_not (instr.Par cs pc ds other) = inr tt
      box_or_not instr.ParEnd = inr tt
      box_or_not (instr.End o) = inr tt

      of_instruction : (y : ThreadState) → thread_in s.threads t ≡ Some y → (i : Instr) → slice_get k.code y.pc ≡ Some i → ((o : Operand) × (i ≡ instr.Box o)) ⊎ MakesNoObject i → Gives Then (apply k (at (Step t)))
      of_instruction y there i code (inl u) = by_stays (boxes_keep_issued k number t s y u.0 coherent few here there (code ∙ ap (λ x. Some x) u.1))
      of_instruction y there i code (inr plain) = by_stays (steps_keep_issued k number t s y i coherent few here there code plain)

      none_stepped : Gives (λ (r : Server × EntryView). ⊥) (does k.code k.options s (Step t)) → Gives Then (apply k (at (Step t)))
      none_stepped none = none_done k number (Step t) s Then here none

      of_step : (o : Option ThreadState) → thread_in s.threads t ≡ o → Gives Then (apply k (at (Step t)))
      of_step None none =
          none_stepped (subst (λ o. Gives (λ (r : Server × EntryView). ⊥) (option_map (stepped s) (then_some (option_map (λ y. record { work = begin_work s.rest; thread = y }) o) (step_in k.code k.options.servers)))) (sym none) tt)
      of_step (Some y) there = by (slice_get k.code y.pc) refl
        where
          by : (o : Option Instr) → slice_get k.code y.pc ≡ o → Gives Then (apply k (at (Step t)))
          by None code =
              none_stepped
              (subst (λ o. Gives (λ (r : Server × EntryView). ⊥) (option_map (stepped s) (then_some (option_map (λ (x : ThreadState). record { work = begin_work s.rest; thread = x }) o) (step_in k.code k.options.servers)))) (sym there)
              (subst (λ o. Gives (λ (r : Server × EntryView). ⊥) (option_map (stepped s) (then_some o (λ i. step k.options.servers i (record { work = begin_work s.rest; thread = y }))))) (sym code) tt))
          by (Some i) code = of_instruction y there i code (box_or_not i)

    of_event : (w : What) → Gives Then (apply k (at w))
    of_event (Step t) = of_step t (thread_in s.threads t) refl
    of_event (Deliver i) = of_delivery i (slice_get s.rest.inbox i) refl
    of_event (Evict w) = whole (at (Evict w)) (issued_steady evicts tt k (at (Evict w)) (kind_here (Evict w)) coherent.sound few)
    of_event (Migrate t target) = whole (at (Migrate t target)) (issued_steady migrates tt k (at (Migrate t target)) (kind_here (Migrate t target)) coherent.sound few)

pub each_event_issues : EachEventIssues
each_event_issues k e coherent few = by (server_at k.servers e.server) refl
  where
    by : (o : Option Server) → server_at k.servers e.server ≡ o → Gives (λ (d : Cluster × EntryView). Settled d.0 → Holds d.0 are_issued) (apply k e)
    by None none =
        subst (λ o. Gives (λ (d : Cluster × EntryView). Settled d.0 → Holds d.0 are_issued) (then_some o (λ s. option_map (λ d. (record k { servers = hand_over_newer e.server (length s.rest.outbox) d.0 k.servers }, d.1)) (done_at k e.what s)))) (sym none) tt
    by (Some s) here = of_event k coherent few e.server s here e.what
