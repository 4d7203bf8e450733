-- A lock whose answer came: the content comes out of the mutex, on the server and on the plain machine.
use Rattle.std.proofs.Common.{◌≡◌, ℕ, ◌+◌, true, false, List, [], ◌∷◌, ◌++◌, map, reverse, Option, Some, None, option_map, refl, sym, ap, ap₂, subst, ◌∙◌, arith}
use Rattle.law_heap_steps.specs.Below.fr_base.declared.name.MutexNo.{MutexNo}
use Rattle.law_heap_steps.specs.Below.fr_base.declared.place.Lval.{Lval}
use Rattle.law_heap_steps.specs.Below.fr_base.declared.label.Label.TheVariants as label
use Rattle.law_heap_steps.specs.Below.fr_base.declared.label.Plain.TheVariants as plain
use Rattle.law_heap_steps.specs.Below.fr_base.declared.step.Fresh.{Fresh}
use Rattle.law_heap_steps.specs.Below.fr_base.declared.instruction.Instr.{Instr}
use Rattle.law_heap_steps.specs.Below.fr_base.declared.instruction.Instr.TheVariants as instr
use Rattle.law_heap_steps.specs.Below.fr_plain.declared.value.Value.{Value as PlainValue}
use Rattle.law_heap_steps.specs.Below.fr_plain.declared.value.Value.TheVariants as plain_v
use Rattle.law_heap_steps.specs.Below.fr_plain.MachineThreads.{with_mutex}
use Rattle.law_heap_steps.specs.Below.fr_plain.MachineActs.{do_lock}
use Rattle.law_heap_steps.specs.Below.heap_partition.Plain.{plain_of}
use Rattle.law_heap_steps.specs.Below.heap_partition.declared.value.Owned.{Owned}
use Rattle.law_heap_steps.specs.Below.thread_state.View.{ThreadState}
use Rattle.law_heap_steps.specs.Below.thread_state.declared.value.Value.{Value}
use Rattle.law_heap_steps.specs.Below.thread_state.declared.value.Value.TheVariants as value
use Rattle.law_heap_steps.specs.Below.server_model.declared.event.Event.{Event}
use Rattle.law_heap_steps.specs.Below.server_model.Servers.{Server, Cluster}
use Rattle.law_heap_steps.specs.Below.server_model.Work.{Hand}
use Rattle.law_heap_steps.specs.Below.server_model.Places.{Spot, value_at, load_at}
use Rattle.law_heap_steps.specs.Below.server_model.Prepare.{ReadTo, Prepared, ready, requested, nothing, prepare}
use Rattle.law_heap_steps.specs.Below.server_model.Commit.{waiting, take_gift, ask_lock, push_content, lock, mutex_at}
use Rattle.law_heap_steps.specs.Below.server_model.Events.{Stepped, committed, prepared, step}
use Rattle.law_heap_steps.specs.Below.coherent_memory.Names.{tot, one, some, if_so}
use Rattle.law_heap_steps.specs.Below.coherent_memory.Follow.{Standing}
use Rattle.law_heap_steps.specs.Below.coherent_memory.Things.{as_gift, Thing}
use Rattle.law_heap_steps.specs.Below.coherent_memory.Sight.{Sight, sight}
use Rattle.law_heap_steps.proofs.turns.ReadWalk.{At, loads_of, passed_loads}
use Rattle.law_heap_steps.specs.Below.coherent_memory.Requests.{locked_mutex, is_mutex}
use Rattle.law_heap_steps.specs.Below.coherent_memory.OneHeap.{mutex_n, inside, content_owner, gift_owner, gift_owner_of, if_in, owns, owner_in, named_in, is_in_state, or_else, first_shown, content_value, share_in, spot_owner, running_at, plain_value, state_of}
use Rattle.law_heap_still.specs.Below.coherent_types.ClusterTypes.{IsCoherent}
use Rattle.law_heap_steps.specs.Below.law_counts_sums.Laws.{Gives}
use Rattle.law_plain_values.proofs.acts.Mutexes.{mutex_cases}
use Rattle.law_heap_steps.specs.Below.law_words_kept.reads.Reading.{locks}
use Rattle.law_heap_steps.proofs.Below.law_heap_still.events.Readied.{Readied}
use Rattle.law_heap_steps.proofs.turns.Instructions.{shown_last, shown_push, owned_push}
use Rattle.law_heap_steps.proofs.turns.StarLines.{h0}
use Rattle.law_heap_steps.proofs.turns.StarSteps.{alike_owned}
use Rattle.law_heap_steps.proofs.turns.Events.{AtStep}
use Rattle.law_heap_steps.proofs.mutexes.Reach.{or_left}
use Rattle.law_heap_steps.proofs.mutexes.Gifted.{owner_there, found as found_there, gift_names, gift_shares, gift_results, gift_contents}
use Rattle.law_heap_steps.proofs.mutexes.Beside.{so_one}
use Rattle.law_heap_steps.proofs.mutexes.ThreadTurns.{ThreadTurn, Soon, settles}
use Rattle.law_heap_steps.proofs.mutexes.OneMutex.{shared_as}
use Rattle.law_heap_steps.proofs.mutexes.Change.{Change, before_it, after_it, in_afterwards}
use Rattle.law_heap_steps.proofs.mutexes.Places.{itself_named}
use Rattle.law_heap_steps.proofs.mutexes.PlainMutex.{goes_with, locks as lock_does}
use Rattle.law_heap_steps.proofs.mutexes.DupLines.{running_to}
use Rattle.law_heap_steps.proofs.mutexes.OneThread.{past}
use Rattle.law_heap_steps.proofs.mutexes.SharedLines as shared_lines
use Rattle.law_heap_steps.proofs.mutexes.SharedLines.{AtMutex, found, Found, walks, at_hand, nothing_under, labels_taken, owner_is, none_first, shown_counts}

module _ (k : Cluster) (co : IsCoherent k) (e : Event) (w : Lval) (s : Server) (t : ℕ) (y : ThreadState) (a : AtStep k e (instr.Lock w) s t y) where
  abbrev i : Instr
  i = instr.Lock w

  abbrev start : Hand
  start = h0 k co e i s t y a

  abbrev Wanted : Stepped → Type 0
  Wanted d = (names : Fresh) → d.names ≡ Some names → ThreadTurn k co.sound e i refl s t y a d

  module _ (h : Hand) (sp : Spot) (ready_h : Readied start h) (m : MutexNo) (am : AtMutex k y w h sp m) (v : Owned) (gift : y.gift ≡ Some v) where
    abbrev slots : List Value
    slots = (h.thread.slots ++ value.Held m ∷ []) ++ value.Own v ∷ []

    abbrev temps : List Value
    temps = h.thread.temps

    abbrev G1 : List Thing
    G1 = shared_lines.G1 k co e i refl w s t y a h sp ready_h m am v gift slots temps

    abbrev G2 : List Thing
    G2 = shared_lines.G2 k co e i refl w s t y a h sp ready_h m am v gift slots temps

    abbrev Others : List Thing
    Others = shared_lines.Others k co e i refl w s t y a h sp ready_h m am v gift slots temps

    abbrev s1 : Sight
    s1 = shared_lines.s1 k co e i refl w s t y a h sp ready_h m am v gift slots temps

    abbrev s2 : Sight
    s2 = shared_lines.s2 k co e i refl w s t y a h sp ready_h m am v gift slots temps

    in_it : is_in_state s1 (mutex_n m) ≡ true
    in_it = shared_lines.in_it k co e i refl w s t y a h sp ready_h m am v gift slots temps

    abbrev it : Standing
    it = record { server = s.rest.number; packed = false; thread = y }

    -- the answer is the content of the mutex
    in_mutex : spot_owner s1 (as_gift y.number) ≡ inside (mutex_n m)
    in_mutex = owner_there k co.sound e i refl s t y a ∙ ap content_owner (shared_lines.value_here k co e i refl w s t y a h sp ready_h m am v gift slots temps)

    locked : locked_mutex s1 it (Some i) ≡ Some m
    locked = owner_is (locked_mutex s1 it (Some i)) m (sym (ap (gift_owner_of s1) (found_there k co.sound e i refl s t y a) ∙ ap (gift_owner s1 it) a.code) ∙ in_mutex)

    slots_plain : map plain_value h.thread.slots ≡ map plain_value y.slots
    slots_plain = shared_lines.slots_plain k co e i refl w s t y a h sp ready_h m am v gift slots temps

    temps_plain : map plain_value h.thread.temps ≡ map plain_value y.temps
    temps_plain = shared_lines.temps_plain k co e i refl w s t y a h sp ready_h m am v gift slots temps

    content_in : (u : MutexNo) → first_shown (content_value s1 u) G1 ≡ if_in (some (one (is_mutex u (Some m)))) (Some (plain_of v))
    content_in u = gift_contents k co.sound e i refl s t y a v gift u ∙ ap (λ o. if_in (some (one (is_mutex u o))) (Some (plain_of v))) locked

    content_here : first_shown (content_value s1 m) G1 ≡ Some (plain_of v)
    content_here = content_in m ∙ ap (λ b. if_in (some (one b)) (Some (plain_of v))) (itself_named m)

    none_left : first_shown (content_value s1 m) Others ≡ None
    none_left =
        none_first (content_value s1 m) Others (omega (arith, shared_lines.few k co e i refl w s t y a h sp ready_h m am v gift slots temps m, shown_counts (content_value s1 m) G1 (plain_of v) content_here))

    change : Change k Others G1 G2 s.rest.number y (y.pc + 1) slots temps m (Some v) None false (λ q. false)
    change = record {
      calm = shared_lines.calm1 k co e i refl w s t y a h sp ready_h m am v gift slots temps;
      loose = shared_lines.loose1 k co e i refl w s t y a h sp ready_h m am v gift slots temps;
      loose_then = (tt, tt);
      lone = shared_lines.lone1 k co e i refl w s t y a h sp ready_h m am v gift slots temps;
      even = λ q. omega (
        arith,
        alike_owned q y.slots h.thread.slots slots_plain,
        alike_owned q y.temps temps temps_plain,
        owned_push q h.thread.slots (value.Held m),
        owned_push q (h.thread.slots ++ value.Held m ∷ []) (value.Own v),
      );
      named = λ f q. gift_names k co.sound e i refl s t y a v gift f q ∙ ap (named_in (owns q v) f) in_mutex;
      named_then = λ f q. refl;
      inside_it = λ z. in_it;
      inside_then = λ z. absurd (cc z);
      new_in = λ z. absurd (cc z);
      extra_in = λ q z. absurd (cc z);
      none = nothing_under s1 Others;
      no_task = λ u. refl;
      no_object = λ o. refl;
      no_other = λ u ne. refl;
      results = λ r. gift_results k co.sound e i refl s t y a v gift refl r;
      started = shared_lines.started1 k co e i refl w s t y a h sp ready_h m am v gift slots temps;
      shares = λ u. gift_shares k co.sound e i refl s t y a v gift u ∙ ap (λ o. if_so (owns (mutex_n u) v) (one (owner_in (is_in_state s1) o))) in_mutex ∙ ap (λ b. if_so (owns (mutex_n u) v) (one b)) in_it ∙ so_one (owns (mutex_n u) v);
      shares_then = λ u. refl;
      contents = λ u ne. content_in u ∙ mutex_cases (λ b. if_in (some (one b)) (Some (plain_of v)) ≡ None) u m (λ d. absurd (ne d)) (λ _. refl);
    }

    abbrev shares : ℕ
    shares = tot (share_in s1 m) s1.things

    old_is : (state_of s1).mutex m ≡ shared_as (Some (plain_of v)) shares
    old_is = before_it change in_it ∙ ap (λ o. shared_as (or_else o (first_shown (content_value s1 m) Others)) shares) content_here

    same_shares : shares + 0 ≡ shares
    same_shares = omega arith

    new_is : (state_of s2).mutex m ≡ shared_as None shares
    new_is = after_it change (in_afterwards change (mutex_n m) ∙ or_left (is_in_state s1 (mutex_n m)) false in_it) ∙ ap₂ shared_as none_left same_shares

    abbrev h2 : Hand
    h2 = push_content v (load_at sp (take_gift h)) m

    abbrev more : List PlainValue
    more = plain_v.Own (plain_of v) ∷ plain_v.Held m ∷ shown_last y.slots

    place : running_at (past y (y.pc + 1) slots temps) ≡ running_to (y.pc + 1) (shown_last y.temps) more
    place =
        ap₂ (running_to (y.pc + 1)) (ap reverse temps_plain)
        (shown_push (h.thread.slots ++ value.Held m ∷ []) (value.Own v) ∙ ap (λ l. plain_v.Own (plain_of v) ∷ l) (shown_push h.thread.slots (value.Held m) ∙ ap (λ l. plain_v.Held m ∷ reverse l) slots_plain))

    lock_soon : Soon k co.sound e i refl s t y a [] h2
    lock_soon =
        shared_lines.soon k co e i refl w s t y a h sp ready_h m am v gift slots temps (Some v) false change h2 refl refl (record { content = Some (plain_of v); shares = shares }) (record { content = None; shares = shares }) old_is new_is (do_lock w)
        (λ u. record { pc = y.pc + 1; temps = shown_last y.temps }) (plain_v.Own plain.Unit) more place refl refl
        (λ c f at there.
        lock_does k.code c f y.number (running_at y) (λ u. record { pc = y.pc + 1; temps = shown_last y.temps }) w m (passed_loads (sight k).ground y.number w.slot w.depth ++ loads_of (sight k).ground am.location) (record { content = Some (plain_of v); shares = shares }) (plain_of v) at there refl
        ∙ ap (λ ls. Some (goes_with c f y.number (running_to (y.pc + 1) (shown_last y.temps) more) (with_mutex c.mutexes m (Some (record { content = None; shares = shares }))) (ls ++ label.Lock m ∷ []))) (sym (labels_taken sp h ∙ am.labels)))

  -- its answer came, or it asks
  by_gift : (h : Hand) (sp : Spot) → Readied start h → ((v : Value) → value_at h sp ≡ Some v → At (sight k).ground y s.rest w w.depth (found k co e i w (locks refl) s t y a) w.depth h sp) → (g : Option Owned) → y.gift ≡ g → Gives Wanted (committed (lock sp g h))
  by_gift h sp r comes None gift = asks (mutex_at h sp)
    where
      asks : (o : Option MutexNo) → Gives Wanted (committed (waiting (option_map (ask_lock h) o)))
      asks None = tt
      asks (Some m) = λ names q. absurd (cc q)
  by_gift h sp r comes (Some v) gift =
      settles k co.sound e i refl s t y a [] (option_map (push_content v (load_at sp (take_gift h))) (mutex_at h sp))
      (at_hand k co e i w (locks refl) s t y a (Soon k co.sound e i refl s t y a []) (λ h3 m. push_content v (load_at sp (take_gift h3)) m) h sp comes (λ m am. lock_soon h sp r m am v gift))

  by_ready : (p : Prepared) → Found k co e i w (locks refl) s t y a p → Gives Wanted (prepared k.options.servers i p)
  by_ready nothing f = tt
  by_ready (requested h) f = λ names q. absurd (cc q)
  by_ready (ready h sp) f = subst (λ g. Gives Wanted (committed (lock sp g h))) (sym (ap (λ (z : ThreadState). z.gift) f.1.0.thread)) (by_gift h sp f.1.0 f.0 y.gift refl)

  pub lock_line : Gives Wanted (step k.options.servers i start)
  lock_line = by_ready (prepare (Some (ReadTo w)) start) (walks k co e i w (locks refl) s t y a)
