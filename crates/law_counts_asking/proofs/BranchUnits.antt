-- What the message of a thread's end carries: unit, where the thread is a branch of a pair.
use Rattle.std.proofs.Common.{◌≡◌, ℕ, ◌+◌, ◌≤◌, ◌==◌, Bool, true, false, List, [], ◌∷◌, reverse, Option, Some, None, option_map, refl, sym, ap, subst, ◌∙◌, arith}
use Rattle.std.specs.Prelude.{slice_get}
use Rattle.std.specs.Bool.{⊤}
use Rattle.law_results_reads.specs.Below.fr_base.declared.step.Fresh.TheVariants as fresh
use Rattle.law_results_reads.specs.Below.fr_base.declared.instruction.Instr.{Instr}
use Rattle.law_results_reads.specs.Below.fr_base.declared.instruction.Instr.TheVariants as instr
use Rattle.law_results_reads.specs.Below.fr_base.declared.instruction.Operand.{Operand}
use Rattle.law_results_reads.specs.Below.fr_typing.Kinds.{own, whole, unit}
use Rattle.law_results_reads.specs.Below.fr_code.CodeTypes.{Entry, Table, InstrTypes, i_par_end}
use Rattle.law_results_reads.specs.Below.fr_code.CodeTable.{Leads, Successors, to_next, ends}
use Rattle.law_results_reads.specs.Below.heap_partition.declared.value.Owned.{Owned}
use Rattle.law_results_reads.specs.Below.heap_partition.declared.value.Owned.TheVariants as owned
use Rattle.law_results_reads.specs.Below.migration.Packing.{unpin_all}
use Rattle.law_results_reads.specs.Below.read_cache.Cache.{Copy}
use Rattle.law_results_reads.specs.Below.thread_state.View.{ThreadState}
use Rattle.law_results_reads.specs.Below.thread_state.declared.phase.Phase.TheVariants as phase
use Rattle.law_results_reads.specs.Below.thread_state.declared.value.Value.{Value}
use Rattle.law_results_reads.specs.Below.thread_state.declared.value.Value.TheVariants as value
use Rattle.law_results_reads.specs.Below.server_msgs.declared.message.Message.{Message}
use Rattle.law_results_reads.specs.Below.server_msgs.declared.message.Message.TheVariants as message
use Rattle.law_results_reads.specs.Below.journal.View.{EntryView}
use Rattle.law_results_reads.specs.Below.server_model.declared.event.Event.{Event}
use Rattle.law_results_reads.specs.Below.server_model.Servers.{Server, Cluster, server_at}
use Rattle.law_results_reads.specs.Below.server_model.Work.{Hand, Popped, thread_in, with_temps, with_phase, with_cache, pop_owned, then_some}
use Rattle.law_results_reads.specs.Below.server_model.Commit.{done_where, end_with, label_dropped}
use Rattle.law_results_reads.specs.Below.server_model.Events.{Stepped, can_step, has_phase, begin_work, done_step, committed, step}
use Rattle.law_results_reads.specs.Below.server_model.Clusters.{apply}
use Rattle.law_results_reads.specs.Below.coherent_memory.Names.{tot, other, if_so}
use Rattle.law_results_reads.specs.Below.coherent_memory.Things.{Thing, sent, stands, things_of}
use Rattle.law_results_reads.specs.Below.coherent_memory.Follow.{Standing, threads_in}
use Rattle.law_results_reads.specs.Below.coherent_memory.Sight.{Sight, sight}
use Rattle.law_results_reads.specs.Below.coherent_memory.OneHeap.{in_pair_of, is_branch}
use Rattle.law_results_reads.specs.Below.coherent_memory.Naming.{threads, named_mutexes, uncounted_thread, uncounted_mutex}
use Rattle.law_results_reads.specs.Below.coherent_memory.Rooted.{is_end, is_unit, other_result}
use Rattle.law_results_reads.specs.Below.coherent_memory.Coherent.{IsSound, Holds, branches_give_unit}
use Rattle.law_results_reads.proofs.Below.coherent_memory.Names.{left_none}
use Rattle.law_results_reads.specs.Below.coherent_types.Names.{NameTypes}
use Rattle.law_results_reads.specs.Below.coherent_types.ClusterTypes.{has_form, IsCoherent}
use Rattle.law_results_reads.proofs.Below.coherent_types.Branches.{branches_law}
use Rattle.law_results_reads.proofs.Below.law_words_paths.paths.Forms.{running_typed}
use Rattle.law_results_reads.specs.Below.law_counts_sums.Laws.{Gives, FewEvents, PairsNoted, NumbersDiffer}
use Rattle.law_results_reads.proofs.Below.law_counts_sums.Results.{both_give}
use Rattle.law_results_reads.proofs.Below.law_counts_sums.KnownSound.{on_standing, sum_standing}
use Rattle.law_results_reads.proofs.Below.law_counts_sums.Applied.{handed_part}
use Rattle.law_results_reads.proofs.Below.law_counts_sums.Sending.{each_event_sends}
use Rattle.law_results_reads.proofs.Below.law_counts_sums.TurnEvents.{asking_applied}
use Rattle.law_counts_things.specs.things.Laws.{EachCoherentEventKeeps}
use Rattle.law_counts_things.proofs.things.Mail.{Mailed, Replies, mail_sent, gives_up, step_says}
use Rattle.law_counts_things.proofs.things.Messages.{Speech, on_sent, Light, messages_go}
use Rattle.law_counts_things.proofs.things.Handed.{known}
use Rattle.law_results_reads.proofs.Known.{Steps, goes, paths, standing, hand, entry, typed, temps_fit, names}
use Rattle.law_results_reads.proofs.Operands.{gets, got_owned}
use Rattle.law_counts_asking.proofs.Branches.{is_counted, waits_unpaired, unpaired_after, branch_before, found_note, is_some_number}
use Rattle.law_counts_asking.proofs.PairsOver.{total_le}

-- WHAT IS SAID

-- the end of a thread that was started, and of a branch with another result than unit
abbrev says : Sight → ℕ → Message → ℕ
says s r (message.Finished t v) = uncounted_thread s t + if_so (is_branch s t) (other (is_unit v))
says s r m = 0

-- what is wrong of a message is a result or a name
seen_before : (s : Sight) (x : Thing) → on_sent (says s) x ≤ other_result s x + threads (uncounted_thread s) x
seen_before s (sent r (message.Finished t v)) = omega arith
seen_before s (sent r m) = omega arith
seen_before s _ = omega arith

-- no answer tells the end of a thread
answers : (s : Sight) → Replies (Light (says s))
answers s = record { fetched = λ r w c t. refl; moved = λ r w c t. refl; granted = λ r m v t. refl; dupped = λ r m t. refl; joined = λ r u v t. refl; drop = λ w o. refl; release = λ m. refl; let_go = λ u. refl }

-- an owned value of type unit is unit
unit_form : (n : NameTypes) (v : Owned) → has_form n (whole (own unit)) (value.Own v) ≡ true → is_unit v ≡ true
unit_form n owned.Unit e = refl
unit_form n owned.Nothing e = absurd (cc e)
unit_form n (owned.Int i) e = absurd (cc e)
unit_form n (owned.Box p) e = absurd (cc e)
unit_form n (owned.Mutex m) e = absurd (cc e)
unit_form n (owned.Task t) e = absurd (cc e)

-- an instruction that ends its thread is an end
end_of : (i : Instr) → is_end (Some i) ≡ true → (o : Operand) × (i ≡ instr.End o)
end_of (instr.End o) e = (o, refl)
end_of i e = absurd (cc e)

abbrev EndsHere : Instr → Type 0
EndsHere (instr.End o) = ⊤
EndsHere i = ⊥

-- an instruction that leads on doesn't end its thread
goes_on : {table : Table} {a b : Entry} {i : Instr} → InstrTypes table a i b → EndsHere i → ⊥
goes_on i_par_end e = e
goes_on _ e = e

-- THE END OF A THREAD

module _ (M : ℕ → Message → Type 0) (replies : Replies M) (s : Server) (y : ThreadState) (mail : Mailed M s.rest.number s.rest.outbox s.rest) (v : Owned) (ts : List Value) (said : M y.home (message.Finished y.number v)) where
  abbrev h0 : Hand
  h0 = record { work = begin_work s.rest; thread = y }

  abbrev Well : Hand → Type 0
  Well h = Mailed M s.rest.number s.rest.outbox h.work.rest

  -- the message of the end
  says_end : (main : Bool) → Gives Well (end_with main v (with_temps ts h0))
  says_end true = gives_up M s.rest.number s.rest.outbox replies v (label_dropped (value.Own v) (with_temps ts h0)).work mail
  says_end false = mail_sent M s.rest.number s.rest.outbox s.rest y.home (message.Finished y.number v) said mail

  -- the same once the walk has gone
  settles : (o : Option Hand) → Gives Well o → Gives (λ (d : Stepped). Well d.hand) (committed (done_where fresh.None (option_map (with_phase phase.Over) o)))
  settles None g = tt
  settles (Some h) g = by (unpin_all h.thread.walk h.work.rest.cache)
    where
      by : (l : Option (List Copy)) → Gives (λ (d : Stepped). Well d.hand) (option_map (done_step fresh.None) (option_map (λ cs. record { work = with_cache cs h.work; thread = record h.thread { phase = phase.Over; passed = 0; walk = []; moved_since_step = false } }) l))
      by None = tt
      by (Some cs) = g

  -- the step at an end
  end_says : (servers : ℕ) (o : Operand) → pop_owned o h0 ≡ Some (record { item = v; hand = with_temps ts h0 }) → Gives (λ (d : Stepped). Well d.hand) (step servers (instr.End o) h0)
  end_says servers o e =
      subst (λ p. Gives (λ (d : Stepped). Well d.hand) (committed (done_where fresh.None (option_map (with_phase phase.Over) (then_some p (λ (t : Popped Owned). end_with (y.number == 0) t.item t.hand)))))) (sym e)
      (settles (end_with (y.number == 0) v (with_temps ts h0)) (says_end (y.number == 0)))

-- IN A COHERENT CLUSTER

module _ (k : Cluster) (coherent : IsCoherent k) (few : FewEvents k) where
  abbrev sound : IsSound k
  sound = coherent.sound

  abbrev S : Sight
  S = sight k

  -- all that is named is counted
  named_before : tot (threads (uncounted_thread S)) (things_of k) ≡ 0
  named_before = left_none (tot (threads (uncounted_thread S)) (things_of k)) (tot (named_mutexes (uncounted_mutex S)) (things_of k)) sound.names.names_counted

  -- what is said before the event is right
  said_before : tot (on_sent (says S)) (things_of k) ≡ 0
  said_before =
      let units : tot (other_result S) (things_of k) ≡ 0 = sound.rooted.branches_give_unit in
      omega (arith, two_less (things_of k), units, named_before)
    where
      two_less : (b : List Thing) → tot (on_sent (says S)) b ≤ tot (other_result S) b + tot (threads (uncounted_thread S)) b
      two_less [] = omega arith
      two_less (x ∷ b) = omega (arith, seen_before S x, two_less b)

  module _ (n : ℕ) (s : Server) (here : server_at k.servers n ≡ Some s) where
    -- a thread that stands is counted
    counted : (t : ℕ) (y : ThreadState) → thread_in s.threads t ≡ Some y → uncounted_thread S y.number ≡ 0
    counted t y there = known k sound n s here t y there (λ x. uncounted_thread S x.thread.number) (omega (arith, sum_standing f (things_of k), named_before, total_le _ _ less (things_of k)))
      where
        f : Standing → ℕ
        f x = uncounted_thread S x.thread.number

        less : (x : Thing) → on_standing f x ≤ threads (uncounted_thread S) x
        less (stands r p t) = omega arith
        less _ = omega arith

    module _ (t : ℕ) (y : ThreadState) (o : Operand) (z : Steps k n t s y (instr.End o)) where
      abbrev E : Entry
      E = entry k n t s y (instr.End o) z

      -- a branch's task has type unit
      result_type : is_branch S y.number ≡ true → E.gives ≡ unit
      result_type e =
          let it = found_note y.number (things_of k) (is_some_number (tot (in_pair_of y.number) (things_of k)) e) in
          let typed_note = branches_law.noted k (record { sound = sound; types = (paths k n t s y (instr.End o) z).types }) it.server it.parent it.note it.over it.among it.paired in
          (running_typed k (paths k n t s y (instr.End o) z) (standing k n t s y (instr.End o) z) (goes k n t s y (instr.End o) z)).gives
          ∙ ap (λ u. (paths k n t s y (instr.End o) z).types.typing.gives.result u) (sym it.named) ∙ typed_note.gives

      -- what it ends with
      pub ending : (v : Owned) × (ts : List Value) × (pop_owned o (record { work = begin_work s.rest; thread = y }) ≡ Some (record { item = v; hand = with_temps ts (record { work = begin_work s.rest; thread = y }) }))
          × (is_branch S y.number ≡ true → is_unit v ≡ true)
      ending = let at = typed k n t s y (instr.End o) z in by E (instr.End o) at.0 at.1 refl (temps_fit k n t s y (instr.End o) z) result_type
        where
          h : Hand
          h = record { work = begin_work s.rest; thread = y }

          N : NameTypes
          N = names k n t s y (instr.End o) z

          same_operand : {a b : Operand} → instr.End a ≡ instr.End b → a ≡ b
          same_operand e = cc

          by : (E : Entry) (i : Instr) (ss : Successors) → Leads (Rattle.law_results_reads.proofs.Known.types k n t s y (instr.End o) z).table y.pc E i ss → i ≡ instr.End o → Rattle.law_results_reads.specs.Below.coherent_types.ClusterTypes.temps_wrong N E.temps (reverse y.temps) ≡ 0
              → (is_branch S y.number ≡ true → E.gives ≡ unit)
              → (v : Owned) × (ts : List Value) × (pop_owned o h ≡ Some (record { item = v; hand = with_temps ts h })) × (is_branch S y.number ≡ true → is_unit v ≡ true)
          by _ _ _ (ends {ts = ks} {g = x} {o = q} takes) e fit gives =
              let g = gets N q ks [] (own x) h takes fit in
              let v = got_owned N q h x [] g in (
                v.0,
                g.rest,
                subst (λ a. pop_owned a h ≡ Some (record { item = v.0; hand = with_temps g.rest h })) (same_operand e) v.2,
                λ b. unit_form N v.0 (subst (λ u. has_form N (whole (own u)) (value.Own v.0) ≡ true) (gives b) (subst (λ w. has_form N (whole (own x)) w ≡ true) v.1 g.form)),
              )
          by _ i _ (to_next typed_so) e fit gives = absurd (goes_on typed_so (subst EndsHere (sym e) tt))

    speech : Speech k.code k.options.servers s (Light (says S))
    speech = record {
      replies = answers S;
      steps = λ t y i on there code mail. by t y i on there code mail (is_end (Some i)) refl;
      leaves = λ t target y there. refl;
    }
      where
        Then : Stepped → Type 0
        Then d = Mailed (Light (says S)) s.rest.number s.rest.outbox d.hand.work.rest

        by : (t : ℕ) (y : ThreadState) (i : Instr) → has_phase can_step (thread_in s.threads t) ≡ true → thread_in s.threads t ≡ Some y → slice_get k.code y.pc ≡ Some i → Mailed (Light (says S)) s.rest.number s.rest.outbox s.rest → (b : Bool) → is_end (Some i) ≡ b
            → Gives Then (step k.options.servers i (record { work = begin_work s.rest; thread = y }))
        by t y i on there code mail false f =
            step_says (Light (says S)) k.options.servers i s.rest y
            (record { replies = answers S; fetch = λ p e. refl; move = λ p e. refl; lock = λ m. refl; dup = λ m. refl; unlock = λ m v. refl; join = λ u. refl; finished = λ o e v. absurd (cc (sym f ∙ ap (λ j. is_end (Some j)) e)) })
            (λ pc vs r at d c. refl) (record { work = begin_work s.rest; thread = y }) (record { mail = mail; begun = refl; named = refl; at_home = refl })
        by t y i on there code mail true f =
            let end = end_of i f in
            let z : Steps k n t s y (instr.End end.0) = record { coherent = coherent; few = few; here = here; on = on; at = there; code = code ∙ ap Some end.1 } in
            let it = ending t y end.0 z in
            subst (λ j. Gives Then (step k.options.servers j (record { work = begin_work s.rest; thread = y }))) (sym end.1)
            (end_says (Light (says S)) (answers S) s y mail it.0 it.1 (omega (arith, counted t y there, unit_weighs (is_branch S y.number) (is_unit it.0) it.3)) k.options.servers end.0 it.2)
          where
            unit_weighs : (b c : Bool) → (b ≡ true → c ≡ true) → if_so b (other c) ≡ 0
            unit_weighs true true g = refl
            unit_weighs true false g = absurd (cc (g refl))
            unit_weighs false c g = refl

  abbrev Said : Cluster → Type 0
  Said c = tot (on_sent (says S)) (things_of c) ≡ 0

  -- what is said after it is right by what was known before
  said_after : (e : Event) → Gives (λ (d : Cluster × EntryView). Said d.0) (apply k e)
  said_after e = messages_go (says S) k e sound few said_before (speech e.server)

  -- what is said is right for the branches that there are afterwards
  units_after : (c : Cluster) → tot (λ (x : Standing). waits_unpaired S x.thread.number x.thread.phase) (threads_in (things_of c)) ≡ 0 → PairsNoted c → NumbersDiffer c → Said c → Holds c branches_give_unit
  units_after c none pairs differ said = all (things_of c) said
    where
      right : (t : ℕ) (v : Owned) → uncounted_thread S t + if_so (is_branch S t) (other (is_unit v)) ≡ 0 → if_so (is_branch (sight c) t) (other (is_unit v)) ≡ 0
      right t v z = by (is_branch (sight c) t) refl
        where
          its_count : is_counted S t ≡ true
          its_count = truly (is_counted S t) (omega (arith, z))
            where
              truly : (b : Bool) → other b ≡ 0 → b ≡ true
              truly true y = refl
              truly false y = absurd (cc y)

          by : (b : Bool) → is_branch (sight c) t ≡ b → if_so b (other (is_unit v)) ≡ 0
          by false e = refl
          by true e =
              let before = branch_before k c none pairs differ t its_count e in
              let same : if_so (is_branch S t) (other (is_unit v)) ≡ other (is_unit v) = ap (λ b. if_so b (other (is_unit v))) before in
              omega (arith, z, same)

      all : (b : List Thing) → tot (on_sent (says S)) b ≡ 0 → tot (other_result (sight c)) b ≡ 0
      all [] z = refl
      all (sent r (message.Finished t v) ∷ b) z = omega (arith, right t v (omega (arith, z)), all b (omega (arith, z)))
      all (sent r m ∷ b) z = omega (arith, all b (omega (arith, z)))
      all (_ ∷ b) z = omega (arith, all b (omega (arith, z)))

-- after whatever event
pub units_kept : EachCoherentEventKeeps branches_give_unit
units_kept k e coherent few =
    both_give (λ (d : Cluster × EntryView). Waiting d.0) (λ (d : Cluster × EntryView). Said k coherent few d.0 × Noted d.0) (λ (d : Cluster × EntryView). Holds d.0 branches_give_unit) (apply k e)
    (unpaired_after k e coherent.sound few)
    (both_give (λ (d : Cluster × EntryView). Said k coherent few d.0) (λ (d : Cluster × EntryView). Noted d.0) (λ (d : Cluster × EntryView). Said k coherent few d.0 × Noted d.0) (apply k e) (said_after k coherent few e)
    (both_give (λ (d : Cluster × EntryView). PairsNoted d.0) (λ (d : Cluster × EntryView). NumbersDiffer d.0) (λ (d : Cluster × EntryView). Noted d.0) (apply k e) (asking_applied PairsNoted (λ c g. g.pairs_noted) k e coherent.sound few)
    (handed_part NumbersDiffer (λ c sums. sums.numbers_differ) k e coherent.sound few (each_event_sends k e coherent.sound few)) (λ d a b. (a, b))) (λ d a b. (a, b)))
    (λ d w u. let noted = u.1 in units_after k coherent few d.0 w noted.0 noted.1 u.0)
  where
    Waiting : Cluster → Type 0
    Waiting c = tot (λ (x : Standing). waits_unpaired (sight k) x.thread.number x.thread.phase) (threads_in (things_of c)) ≡ 0

    Noted : Cluster → Type 0
    Noted c = PairsNoted c × NumbersDiffer c
