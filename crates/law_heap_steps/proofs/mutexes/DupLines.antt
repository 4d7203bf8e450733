-- A dup whose answer came: the mutex has one share more, on the server and on the plain machine.
use Rattle.std.proofs.Common.{◌≡◌, ℕ, ◌+◌, Bool, true, false, List, [], ◌∷◌, ◌++◌, map, reverse, Option, Some, None, option_map, refl, sym, ap, ap₂, subst, ◌∙◌, arith}
use Rattle.law_heap_steps.specs.Below.fr_base.declared.name.MutexNo.{MutexNo}
use Rattle.law_heap_steps.specs.Below.fr_base.declared.place.Lval.{Lval}
use Rattle.law_heap_steps.specs.Below.fr_base.declared.label.Plain.{Plain}
use Rattle.law_heap_steps.specs.Below.fr_base.declared.label.Plain.TheVariants as plain
use Rattle.law_heap_steps.specs.Below.fr_base.declared.step.Fresh.{Fresh}
use Rattle.law_heap_steps.specs.Below.fr_base.declared.instruction.Instr.{Instr}
use Rattle.law_heap_steps.specs.Below.fr_base.declared.instruction.Instr.TheVariants as instr
use Rattle.law_heap_steps.specs.Below.fr_plain.declared.value.Value.{Value as PlainValue}
use Rattle.law_heap_steps.specs.Below.fr_plain.declared.value.Value.TheVariants as plain_v
use Rattle.law_heap_steps.specs.Below.fr_plain.MachineThreads.{with_mutex}
use Rattle.law_heap_steps.specs.Below.fr_plain.MachineActs.{do_dup}
use Rattle.law_heap_steps.specs.Below.fr_code.Machine.{CodeRunning}
use Rattle.law_heap_steps.specs.Below.heap_partition.Plain.{plain_of}
use Rattle.law_heap_steps.specs.Below.heap_partition.declared.value.Owned.{Owned}
use Rattle.law_heap_steps.specs.Below.heap_partition.declared.value.Owned.TheVariants as owned
use Rattle.law_heap_steps.specs.Below.thread_state.View.{ThreadState}
use Rattle.law_heap_steps.specs.Below.thread_state.declared.value.Value.{Value}
use Rattle.law_heap_steps.specs.Below.thread_state.declared.value.Value.TheVariants as value
use Rattle.law_heap_steps.specs.Below.server_model.declared.event.Event.{Event}
use Rattle.law_heap_steps.specs.Below.server_model.Servers.{Server, Cluster}
use Rattle.law_heap_steps.specs.Below.server_model.Work.{Hand, push_temp}
use Rattle.law_heap_steps.specs.Below.server_model.Places.{Spot, value_at, load_at}
use Rattle.law_heap_steps.specs.Below.server_model.Prepare.{ReadTo, Prepared, ready, requested, nothing, prepare}
use Rattle.law_heap_steps.specs.Below.server_model.Commit.{waiting, take_gift, ask_dup, dup, mutex_at}
use Rattle.law_heap_steps.specs.Below.server_model.Events.{Stepped, committed, prepared, step}
use Rattle.law_heap_steps.specs.Below.coherent_memory.Names.{tot, one, other, if_so}
use Rattle.law_heap_steps.specs.Below.coherent_memory.Things.{as_gift, Thing}
use Rattle.law_heap_steps.specs.Below.coherent_memory.Sight.{Sight, sight}
use Rattle.law_heap_steps.proofs.turns.ReadWalk.{At, loads_of, passed_loads}
use Rattle.law_heap_steps.specs.Below.coherent_memory.Requests.{is_value_of, gift_fits, gift_there}
use Rattle.law_heap_steps.specs.Below.coherent_memory.OneHeap.{mutex_n, outside, owns, owner_in, named_in, is_in_state, or_else, first_shown, content_value, share_in, spot_owner, running_at, plain_value, state_of}
use Rattle.law_heap_still.specs.Below.coherent_types.ClusterTypes.{IsCoherent}
use Rattle.law_heap_steps.specs.Below.law_counts_sums.Laws.{Gives}
use Rattle.law_heap_steps.proofs.Below.law_counts_sums.GiftsTaken.{none_here}
use Rattle.law_heap_steps.specs.Below.law_words_kept.reads.Reading.{dups}
use Rattle.law_heap_steps.proofs.Below.law_heap_still.events.Readied.{Readied}
use Rattle.law_heap_steps.proofs.turns.Instructions.{shown_last, shown_push, owned_push}
use Rattle.law_heap_steps.proofs.turns.StarLines.{h0}
use Rattle.law_heap_steps.proofs.turns.StarSteps.{alike_owned}
use Rattle.law_heap_steps.proofs.turns.Events.{AtStep}
use Rattle.law_heap_steps.proofs.mutexes.Reach.{or_left}
use Rattle.law_heap_steps.proofs.mutexes.Gifted.{owner_there, gift_names, gift_shares, gift_results, gift_contents, none_if}
use Rattle.law_heap_steps.proofs.mutexes.ThreadTurns.{ThreadTurn, Soon, settles}
use Rattle.law_heap_steps.proofs.mutexes.OneMutex.{shared_as}
use Rattle.law_heap_steps.proofs.mutexes.Change.{Change, before_it, after_it, in_afterwards}
use Rattle.law_heap_steps.proofs.mutexes.Places.{itself_named}
use Rattle.law_heap_steps.proofs.mutexes.PlainMutex.{goes_with, dups as dup_does}
use Rattle.law_heap_steps.proofs.mutexes.OneThread.{past}
use Rattle.law_heap_steps.proofs.mutexes.SharedLines as shared_lines
use Rattle.law_heap_steps.proofs.mutexes.SharedLines.{AtMutex, found, Found, walks, at_hand, share_is, nothing_under, named_outside, labels_taken}

abbrev pub running_to : ℕ → List PlainValue → List PlainValue → CodeRunning
running_to pc ts ss = record { place = record { pc = pc; temps = ts }; slots = ss }

module _ (k : Cluster) (co : IsCoherent k) (e : Event) (w : Lval) (s : Server) (t : ℕ) (y : ThreadState) (a : AtStep k e (instr.Dup w) s t y) where
  abbrev i : Instr
  i = instr.Dup w

  abbrev start : Hand
  start = h0 k co e i s t y a

  abbrev Wanted : Stepped → Type 0
  Wanted d = (names : Fresh) → d.names ≡ Some names → ThreadTurn k co.sound e i refl s t y a d

  module _ (h : Hand) (sp : Spot) (ready_h : Readied start h) (m : MutexNo) (am : AtMutex k y w h sp m) (v : Owned) (gift : y.gift ≡ Some v) where
    abbrev slots : List Value
    slots = h.thread.slots

    abbrev temps : List Value
    temps = h.thread.temps ++ value.Own v ∷ []

    abbrev G1 : List Thing
    G1 = shared_lines.G1 k co e i refl w s t y a h sp ready_h m am v gift slots temps

    abbrev G2 : List Thing
    G2 = shared_lines.G2 k co e i refl w s t y a h sp ready_h m am v gift slots temps

    abbrev Others : List Thing
    Others = shared_lines.Others k co e i refl w s t y a h sp ready_h m am v gift slots temps

    abbrev s1 : Sight
    s1 = shared_lines.s1 k co e i refl w s t y a h sp ready_h m am v gift slots temps

    abbrev s2 : Sight
    s2 = shared_lines.s2 k co e i refl w s t y a h sp ready_h m am v gift slots temps

    in_it : is_in_state s1 (mutex_n m) ≡ true
    in_it = shared_lines.in_it k co e i refl w s t y a h sp ready_h m am v gift slots temps

    -- the answer is one more value of the mutex
    share : v ≡ owned.Mutex m
    share =
        let fits : gift_there (sight k) (record { server = s.rest.number; packed = false; thread = y }) y.gift ≡ 0 = none_here k co.sound e.server s a.here t y a.at (λ x. gift_there (sight k) x x.thread.gift) co.sound.requests.gifts_fit in
        let there : gift_fits (sight k) (record { server = s.rest.number; packed = false; thread = y }) v (Some i) ≡ 0 =
        ap (gift_fits (sight k) (record { server = s.rest.number; packed = false; thread = y }) v) (sym a.code) ∙ ap (gift_there (sight k) (record { server = s.rest.number; packed = false; thread = y })) (sym gift) ∙ fits in
        by (is_value_of v (Some m)) refl (ap (λ o. other (is_value_of v o)) (sym (shared_lines.value_here k co e i refl w s t y a h sp ready_h m am v gift slots temps)) ∙ there)
      where
        by : (b : Bool) → is_value_of v (Some m) ≡ b → other b ≡ 0 → v ≡ owned.Mutex m
        by true e z = share_is v m e
        by false e z = absurd (cc z)

    outside_it : spot_owner s1 (as_gift y.number) ≡ outside
    outside_it = owner_there k co.sound e i refl s t y a

    slots_plain : map plain_value slots ≡ map plain_value y.slots
    slots_plain = shared_lines.slots_plain k co e i refl w s t y a h sp ready_h m am v gift slots temps

    temps_plain : map plain_value h.thread.temps ≡ map plain_value y.temps
    temps_plain = shared_lines.temps_plain k co e i refl w s t y a h sp ready_h m am v gift slots temps

    no_content : (u : MutexNo) → first_shown (content_value s1 u) G1 ≡ None
    no_content u = gift_contents k co.sound e i refl s t y a v gift u

    change : Change k Others G1 G2 s.rest.number y (y.pc + 1) slots temps m None None true (λ q. false)
    change = record {
      calm = shared_lines.calm1 k co e i refl w s t y a h sp ready_h m am v gift slots temps;
      loose = shared_lines.loose1 k co e i refl w s t y a h sp ready_h m am v gift slots temps;
      loose_then = (tt, tt);
      lone = shared_lines.lone1 k co e i refl w s t y a h sp ready_h m am v gift slots temps;
      even = λ q. omega (arith, alike_owned q y.slots slots slots_plain, alike_owned q y.temps h.thread.temps temps_plain, owned_push q h.thread.temps (value.Own v), ap (λ z. one (owns q z)) share);
      named = λ f q. gift_names k co.sound e i refl s t y a v gift f q ∙ ap (named_in (owns q v) f) outside_it ∙ named_outside (owns q v) f;
      named_then = λ f q. refl;
      inside_it = λ z. absurd (cc z);
      inside_then = λ z. absurd (cc z);
      new_in = λ z. or_left (is_in_state s1 (mutex_n m)) false in_it;
      extra_in = λ q z. absurd (cc z);
      none = nothing_under s1 Others;
      no_task = λ u. refl;
      no_object = λ o. refl;
      no_other = λ u ne. refl;
      results = λ r. gift_results k co.sound e i refl s t y a v gift refl r;
      started = shared_lines.started1 k co e i refl w s t y a h sp ready_h m am v gift slots temps;
      shares = λ u. gift_shares k co.sound e i refl s t y a v gift u ∙ ap (λ o. if_so (owns (mutex_n u) v) (one (owner_in (is_in_state s1) o))) outside_it ∙ none_if (owns (mutex_n u) v);
      shares_then = λ u. refl;
      contents = λ u ne. no_content u;
    }

    abbrev content : Option Plain
    content = first_shown (content_value s1 m) Others

    abbrev shares : ℕ
    shares = tot (share_in s1 m) s1.things

    old_is : (state_of s1).mutex m ≡ shared_as content shares
    old_is = before_it change in_it ∙ ap (λ o. shared_as (or_else o content) shares) (no_content m)

    new_is : (state_of s2).mutex m ≡ shared_as content (shares + 1)
    new_is = after_it change (in_afterwards change (mutex_n m) ∙ or_left (is_in_state s1 (mutex_n m)) false in_it) ∙ ap (λ b. shared_as content (shares + one b)) (itself_named m)

    abbrev h2 : Hand
    h2 = push_temp (value.Own v) (load_at sp (take_gift h))

    place : running_at (past y (y.pc + 1) slots temps) ≡ record { place = record { pc = y.pc + 1; temps = plain_v.Own (plain.Mutex m) ∷ shown_last y.temps }; slots = shown_last y.slots }
    place =
        ap₂ (running_to (y.pc + 1)) (shown_push h.thread.temps (value.Own v) ∙ ap₂ (λ z l. plain_v.Own (plain_of z) ∷ reverse l) share temps_plain) (ap reverse slots_plain)

    dup_soon : Soon k co.sound e i refl s t y a [] h2
    dup_soon =
        shared_lines.soon k co e i refl w s t y a h sp ready_h m am v gift slots temps None true change h2 refl refl (record { content = content; shares = shares }) (record { content = content; shares = shares + 1 }) old_is new_is (do_dup w)
        (λ u. record { pc = y.pc + 1; temps = u ∷ shown_last y.temps }) (plain_v.Own (plain.Mutex m)) (shown_last y.slots) place refl refl
        (λ c f at there.
        dup_does k.code c f y.number (running_at y) (λ u. record { pc = y.pc + 1; temps = u ∷ shown_last y.temps }) w m (passed_loads (sight k).ground y.number w.slot w.depth ++ loads_of (sight k).ground am.location) (record { content = content; shares = shares }) at there
        ∙ ap (λ ls. Some (goes_with c f y.number (record { place = record { pc = y.pc + 1; temps = plain_v.Own (plain.Mutex m) ∷ shown_last y.temps }; slots = shown_last y.slots }) (with_mutex c.mutexes m (Some (record { content = content; shares = shares + 1 }))) ls)) (sym (labels_taken sp h ∙ am.labels)))

  -- its answer came, or it asks
  by_gift : (h : Hand) (sp : Spot) → Readied start h → ((v : Value) → value_at h sp ≡ Some v → At (sight k).ground y s.rest w w.depth (found k co e i w (dups refl) s t y a) w.depth h sp) → (g : Option Owned) → y.gift ≡ g → Gives Wanted (committed (dup sp g h))
  by_gift h sp r comes None gift = asks (mutex_at h sp)
    where
      asks : (o : Option MutexNo) → Gives Wanted (committed (waiting (option_map (ask_dup h) o)))
      asks None = tt
      asks (Some m) = λ names q. absurd (cc q)
  by_gift h sp r comes (Some v) gift =
      settles k co.sound e i refl s t y a [] (option_map (λ m. push_temp (value.Own v) (load_at sp (take_gift h))) (mutex_at h sp))
      (at_hand k co e i w (dups refl) s t y a (Soon k co.sound e i refl s t y a []) (λ h3 m. push_temp (value.Own v) (load_at sp (take_gift h3))) h sp comes (λ m am. dup_soon h sp r m am v gift))

  by_ready : (p : Prepared) → Found k co e i w (dups refl) s t y a p → Gives Wanted (prepared k.options.servers i p)
  by_ready nothing f = tt
  by_ready (requested h) f = λ names q. absurd (cc q)
  by_ready (ready h sp) f = subst (λ g. Gives Wanted (committed (dup sp g h))) (sym (ap (λ (z : ThreadState). z.gift) f.1.0.thread)) (by_gift h sp f.1.0 f.0 y.gift refl)

  pub dup_line : Gives Wanted (step k.options.servers i start)
  dup_line = by_ready (prepare (Some (ReadTo w)) start) (walks k co e i w (dups refl) s t y a)
