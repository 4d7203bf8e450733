-- The end of a thread, at the server and on the plain machine.
use Rattle.std.proofs.Common.{◌≡◌, ◌≢◌, ◌⊎◌, inl, inr, ℕ, ◌==◌, Bool, true, false, List, [], ◌∷◌, length, Option, Some, None, option_map, refl, sym, ap, subst, ◌∙◌, arith}
use Rattle.law_heap_steps.proofs.Below.fr_typing.PlaceLemmas.{eq_cases}
use Rattle.law_heap_steps.specs.Below.fr_base.Lists.{last_of}
use Rattle.law_heap_steps.specs.Below.fr_base.declared.label.Label.TheVariants as label
use Rattle.law_heap_steps.specs.Below.fr_base.declared.step.Fresh.TheVariants as fresh
use Rattle.law_heap_steps.specs.Below.fr_base.declared.instruction.Operand.{Operand}
use Rattle.law_heap_steps.specs.Below.fr_base.declared.instruction.Operand.TheVariants as operand
use Rattle.law_heap_steps.specs.Below.fr_base.declared.instruction.Instr.{Instr}
use Rattle.law_heap_steps.specs.Below.fr_base.declared.instruction.Instr.TheVariants as instr
use Rattle.law_heap_steps.specs.Below.fr_plain.declared.value.Value.{Value as PlainValue}
use Rattle.law_heap_steps.specs.Below.fr_plain.declared.value.Value.TheVariants as plain_v
use Rattle.law_heap_steps.specs.Below.fr_plain.MachineThreads.{Move, on_value}
use Rattle.law_heap_steps.specs.Below.fr_plain.PlainState.{SameState, plain_state}
use Rattle.law_heap_steps.specs.Below.fr_code.Machine.{CodeLife, CodeWhole}
use Rattle.law_heap_steps.specs.Below.fr_code.Steps.{Place, CodeMove, over_at, end_value, with_operand}
use Rattle.law_heap_steps.specs.Below.fr_plain.MachineActs.{do_let}
use Rattle.law_heap_steps.specs.Below.heap_partition.Plain.{plain_of}
use Rattle.law_heap_steps.specs.Below.heap_partition.declared.value.Owned.{Owned}
use Rattle.law_heap_steps.specs.Below.heap_partition.declared.value.Owned.TheVariants as owned
use Rattle.law_heap_steps.specs.Below.read_cache.Cache.{Copy}
use Rattle.law_heap_steps.specs.Below.migration.Packing.{unpin_all}
use Rattle.law_heap_steps.specs.Below.thread_state.View.{ThreadState}
use Rattle.law_heap_steps.specs.Below.thread_state.declared.phase.Phase.TheVariants as phase
use Rattle.law_heap_steps.specs.Below.thread_state.declared.value.Value.{Value}
use Rattle.law_heap_steps.specs.Below.thread_state.declared.value.Value.TheVariants as value
use Rattle.law_heap_steps.specs.Below.journal.declared.act.Act.TheVariants as act
use Rattle.law_heap_steps.specs.Below.server_msgs.declared.message.Message.TheVariants as message
use Rattle.law_heap_steps.specs.Below.server_model.declared.event.Event.{Event}
use Rattle.law_heap_steps.specs.Below.server_model.Servers.{Server, Cluster}
use Rattle.law_heap_steps.specs.Below.server_model.Work.{Hand, Work, Popped, send, note, label_all, working, with_phase, front_of, with_temps, with_cache, pop_owned, taken_as, owned_of, then_some}
use Rattle.law_heap_steps.specs.Below.server_model.Places.{owns_nothing}
use Rattle.law_heap_steps.specs.Below.server_model.Drop.{give_up, drop_labels}
use Rattle.law_heap_steps.specs.Below.server_model.Commit.{done_where, label_dropped, end_with}
use Rattle.law_heap_steps.specs.Below.server_model.Events.{Stepped, stepped, begin_work, committed, step}
use Rattle.law_heap_steps.specs.Below.server_model.Clusters.{hand_over_newer}
use Rattle.law_heap_steps.specs.Below.coherent_memory.Names.{one, if_so}
use Rattle.law_heap_steps.specs.Below.coherent_memory.Things.{Thing, holds, as_result}
use Rattle.law_heap_steps.specs.Below.coherent_memory.Sight.{Sight, sight}
use Rattle.law_heap_steps.specs.Below.coherent_memory.OneHeap.{Node, task_n, mutex_n, inside, owns, named_in, is_in_state, running_at, one_heap, state_of}
use Rattle.law_heap_steps.specs.Below.coherent_memory.Coherent.{IsSound}
use Rattle.law_heap_steps.specs.Below.law_counts_sums.Laws.{Gives}
use Rattle.law_heap_steps.proofs.Below.law_counts_sums.Bags.{counts_of, rest_things}
use Rattle.law_heap_steps.proofs.Below.law_counts_sums.Results.{both_give}
use Rattle.law_heap_steps.proofs.Below.law_heap_still.events.Readied.{copies_ready}
use Rattle.law_heap_steps.proofs.Below.law_heap_still.events.Sites.{shown, Moves, sends}
use Rattle.law_heap_steps.specs.turns.Turns.{StepsTo, IsPlainStep, none_goes}
use Rattle.law_heap_steps.proofs.turns.OneTurn.{as_owing}
use Rattle.law_heap_steps.proofs.turns.Instructions.{shown_last, Pops, PopsTo}
use Rattle.law_heap_steps.proofs.turns.DropLines.{keeps_all, lets_shown, lets_unowned}
use Rattle.law_heap_steps.proofs.turns.Clauses.{same_thread}
use Rattle.law_heap_steps.proofs.turns.Events.{AtStep, Sends, events_are, then_same}
use Rattle.law_heap_steps.proofs.mutexes.Beside.{so_one}
use Rattle.law_heap_steps.proofs.mutexes.Changed as changed
use Rattle.law_heap_steps.proofs.mutexes.Gifted.{or_false}
use Rattle.law_heap_steps.proofs.mutexes.NewLines.{popped_owned}
use Rattle.law_heap_steps.proofs.mutexes.ThreadTurns.{ThreadTurn, Next, is_step}
use Rattle.law_heap_steps.specs.threads.Tasks.{ends_with, IsKept, EndsArePlain}
use Rattle.law_heap_steps.proofs.threads.ThreadEnds as thread_ends
use Rattle.law_heap_steps.proofs.threads.ThreadEnds.{Ends, Leaves}
use Rattle.law_heap_steps.proofs.threads.PlainEnd.{end_steps}

-- WHAT IT ENDS WITH

pub owned_ends : (o : Operand) (h : Hand) → Gives (λ (p : Popped Owned). ends_with o h.thread ≡ Some (value.Own p.item)) (pop_owned o h)
owned_ends (operand.Const n) h = refl
owned_ends operand.Unit h = refl
owned_ends operand.Pop h = by (last_of h.thread.temps)
  where
    by : (q : Option Value) → Gives (λ (p : Popped Owned). q ≡ Some (value.Own p.item)) (then_some {X = Popped Value} (option_map (λ v. record { item = v; hand = with_temps (front_of h.thread.temps) h }) q) (taken_as owned_of))
    by None = tt
    by (Some (value.Own w)) = refl
    by (Some value.Gone) = tt
    by (Some (value.SharedSlot i)) = tt
    by (Some (value.MutSlot i)) = tt
    by (Some (value.Shared r)) = tt
    by (Some (value.Mut r)) = tt
    by (Some (value.Held m)) = tt

-- a move that tells a value
abbrev taking : PlainValue → List PlainValue → Option CodeMove
taking w us = Some (record { act = do_let w; plug = λ a. record { pc = 0; temps = [] } })

told_by : (w u : PlainValue) (us vs : List PlainValue) → taking w us ≡ taking u vs → w ≡ u
told_by w u us vs e =
    let moves : record { act = do_let w; plug = λ a. record { pc = 0; temps = [] } } ≡ record { act = do_let u; plug = λ a. record { pc = 0; temps = [] } } = (let it : taking w us ≡ taking u vs = e in cc) in
    let acts : do_let w ≡ do_let u = ap (λ (m : CodeMove). m.act) moves in
    cc

-- so it is on the plain machine
pub value_there : (o : Operand) (y : ThreadState) (v : Owned) → ends_with o y ≡ Some (value.Own v) → (rest : List Value) → Pops o y.temps (value.Own v) rest → (f : PlainValue → Option (Move Place CodeLife)) (z : Option (Move Place CodeLife))
    → on_value (over_at (Some (instr.End o)) (shown_last y.temps)) f z ≡ f (plain_v.Own (plain_of v))
value_there (operand.Const n) y v e rest u f z = let same : owned.Int n ≡ v = cc in ap (λ w. f (plain_v.Own (plain_of w))) same
value_there operand.Unit y v e rest u f z = let same : owned.Unit ≡ v = cc in ap (λ w. f (plain_v.Own (plain_of w))) same
value_there operand.Pop y v e rest u f z = by (shown_last y.temps) (u.taken taking)
  where
    by : (l : List PlainValue) → with_operand operand.Pop l taking ≡ taking (plain_v.Own (plain_of v)) (shown_last rest) → on_value (end_value operand.Pop l) f z ≡ f (plain_v.Own (plain_of v))
    by [] d = absurd (cc d)
    by (w ∷ ws) d = ap f (told_by w (plain_v.Own (plain_of v)) ws (shown_last rest) d)

-- a value that owns nothing isn't let go
give_none : (v : Owned) (w : Work) → owns_nothing v ≡ true → give_up v w ≡ w
give_none owned.Nothing w e = refl
give_none owned.Unit w e = refl
give_none (owned.Int n) w e = refl
give_none (owned.Box p) w e = absurd (cc e)
give_none (owned.Mutex m) w e = absurd (cc e)
give_none (owned.Task u) w e = absurd (cc e)

label_none : (v : Owned) → owns_nothing v ≡ true → drop_labels (value.Own v) ≡ []
label_none owned.Nothing e = refl
label_none owned.Unit e = refl
label_none (owned.Int n) e = refl
label_none (owned.Box p) e = absurd (cc e)
label_none (owned.Mutex m) e = refl
label_none (owned.Task u) e = refl

not_zero : (j : ℕ) → (j == 0) ≡ false → j ≢ 0
not_zero j e d = cc (sym e ∙ ap (λ i. i == 0) d)

is_zero : (j : ℕ) → (j == 0) ≡ true → j ≡ 0
is_zero j = eq_cases (λ b. b ≡ true → j ≡ 0) j 0 (λ d _. d) (λ _ f. absurd (cc f))

module _ (k : Cluster) (sound : IsSound k) (e : Event) (o : Operand) (s : Server) (t : ℕ) (x : ThreadState) (at : AtStep k e (instr.End o) s t x) where
  abbrev i : Instr
  i = instr.End o

  abbrev start : Hand
  start = record { work = begin_work s.rest; thread = x }

  abbrev n : ℕ
  n = s.rest.number

  abbrev Wanted : Stepped → Type 0
  Wanted d = Sends k e s (stepped s d) → IsKept (Next k sound e i refl s t x at d) o x → IsPlainStep k (Next k sound e i refl s t x at d, (stepped s d).1)

  module _ (v : Owned) (rest : List Value) (u : Pops o x.temps (value.Own v) rest) (ends : ends_with o x ≡ Some (value.Own v)) where
    -- on the plain machine, where its result lets nothing go or somebody has its task
    module _ (sent : Option Owned) {under : Option Owned} (c : Leaves k sound e o s t x at v rest sent under) (free : (keeps_all (plain_v.Own (plain_of v)) ≡ true) ⊎ ((thread_ends.ends k sound e o s t x at v rest sent c).way ≡ as_owing)) where
      steps : (z : CodeWhole) → SameState (plain_state z) (one_heap k) → StepsTo k.code z x.number fresh.None (state_of (thread_ends.s2 k sound e o s t x at v rest sent)) (label.End x.number ∷ [])
      steps z same =
          let a = state_of (thread_ends.s1 k sound e o s t x at v rest sent) in
          let shown_too : SameState (plain_state z) a = then_same (plain_state z) (one_heap k) a same (changed.state_before k sound e s at.here t x at.at at.number) in
          end_steps k.code z x.number (plain_of v) (running_at x) (λ f w. ap (λ j. on_value (over_at j (shown_last x.temps)) f w) at.code ∙ value_there o x v ends rest u f w) a (state_of (thread_ends.s2 k sound e o s t x at v rest sent)) (thread_ends.ends k sound e o s t x at v rest sent c) shown_too free

    free_shown : owns_nothing v ≡ true → keeps_all (plain_v.Own (plain_of v)) ≡ true
    free_shown f = sym (lets_shown (value.Own v)) ∙ f

    unowned : owns_nothing v ≡ true → (q : Node) → owns q v ≡ false
    unowned f q = lets_unowned q (value.Own v) f

    -- MAIN

    module _ (main : (x.number == 0) ≡ true) (free : owns_nothing v ≡ true) where
      leaves_main : Leaves k sound e o s t x at v rest None None
      leaves_main = record {
        even = λ q. (let off = ap one (unowned free q) in omega (arith, u.owned q, off));
        named = λ f q. refl;
        inside_then = λ z. absurd (cc z);
        shares = λ m. (let off = ap one (unowned free (mutex_n m)) in omega (arith, u.owned (mutex_n m), off));
        main = λ d. refl;
        other = λ d. absurd (d (is_zero x.number main));
      }

      abbrev main_hand : Hand
      main_hand = with_phase phase.Over (working (λ w. label_all (label.End x.number ∷ []) w) (with_temps rest start))

      main_turn : (cs : List Copy) → ThreadTurn k sound e i refl s t x at (record { hand = record { work = with_cache cs main_hand.work; thread = record main_hand.thread { passed = 0; walk = []; moved_since_step = false } }; names = Some fresh.None })
      main_turn cs = record {
        became = thread_ends.became k sound e o s t x at v rest None;
        names = fresh.None;
        thread = ap (λ g. (let z : ThreadState = record (thread_ends.became k sound e o s t x at v rest None) { gift = g } in z)) (thread_ends.bare k sound e o s t x at v rest None);
        named = refl;
        comes = counts_of n 0 s.rest ∷ [];
        moves = record { number = refl; alike = λ w z. (let same_rest = (copies_ready main_hand cs []).0.moves.alike w z in omega (arith, same_rest)) };
        beside = (tt, tt);
        unstray = refl;
        once = thread_ends.once_then k sound e o s t x at v rest None (λ d. refl);
        steps = steps None leaves_main (inl (free_shown free));
      }

    -- THE OTHERS

    module _ (other : (x.number == 0) ≡ false) where
      abbrev s2 : Sight
      s2 = thread_ends.s2 k sound e o s t x at v rest (Some v)

      abbrev it : Node
      it = task_n x.number

      -- it lets nothing go
      leaves_free : owns_nothing v ≡ true → Leaves k sound e o s t x at v rest (Some v) None
      leaves_free free = record {
        even = λ q. (let off = ap one (unowned free q) in omega (arith, u.owned q, off));
        named = λ f q. or_false (named_in (owns q v) f (inside it)) ∙ ap (λ b. named_in b f (inside it)) (unowned free q);
        inside_then = λ z. absurd (cc z);
        shares = λ m. (let off = ap one (unowned free (mutex_n m)) in let none = ap (λ b. if_so b (one (is_in_state s2 it))) (unowned free (mutex_n m)) in omega (arith, u.owned (mutex_n m), off, none));
        main = λ d. absurd (not_zero x.number other d);
        other = λ d. refl;
      }

      -- or its task is in the state
      leaves_kept : is_in_state s2 it ≡ true → Leaves k sound e o s t x at v rest (Some v) (Some v)
      leaves_kept in_it = record {
        even = λ q. omega (arith, u.owned q);
        named = λ f q. or_false (named_in (owns q v) f (inside it));
        inside_then = λ z. in_it;
        shares = λ m. (let there = ap (λ b. if_so (owns (mutex_n m) v) (one b)) in_it ∙ so_one (owns (mutex_n m) v) in omega (arith, u.owned (mutex_n m), there));
        main = λ d. absurd (not_zero x.number other d);
        other = λ d. refl;
      }

      abbrev sent_hand : Hand
      sent_hand = with_phase phase.Over (working (λ w. send x.home (message.Finished x.number v) (label_all (label.End x.number ∷ []) (note (act.Finish x.number) w))) (with_temps rest start))

      module _ (cs : List Copy) where
        abbrev d : Stepped
        d = record { hand = record { work = with_cache cs sent_hand.work; thread = record sent_hand.thread { passed = 0; walk = []; moved_since_step = false } }; names = Some fresh.None }

        abbrev became : ThreadState
        became = thread_ends.became k sound e o s t x at v rest (Some v)

        abbrev counts_then : Thing
        counts_then = counts_of n 0 s.rest

        abbrev G2 : List Thing
        G2 = counts_then ∷ holds (as_result x.number) v ∷ []

        thread_is : d.hand.thread ≡ thread_ends.y k sound e o s t x at v rest (Some v)
        thread_is = ap (λ g. (let z : ThreadState = record became { gift = g } in z)) (thread_ends.bare k sound e o s t x at v rest (Some v))

        moves_to : Moves G2 (counts_then ∷ []) s.rest d.hand.work.rest
        moves_to =
            let goes : Moves (holds (as_result x.number) v ∷ []) [] s.rest sent_hand.work.rest =
            sends (holds (as_result x.number) v ∷ []) (holds (as_result x.number) v ∷ []) s.rest (label_all (label.End x.number ∷ []) (note (act.Finish x.number) start.work)) x.home (message.Finished x.number v) (record { number = refl; alike = λ w z. refl }) (λ w z. omega (arith, z)) in
            record {
              number = goes.number;
              alike = λ w z.
                  let cache : shown w (rest_things sent_hand.work.rest.number 0 sent_hand.work.rest) ≡ shown w (rest_things sent_hand.work.rest.number 0 d.hand.work.rest) = (copies_ready sent_hand cs []).0.moves.alike w z in
                  let at_n : shown w (rest_things n 0 sent_hand.work.rest) ≡ shown w (rest_things n 0 d.hand.work.rest) = subst (λ q. shown w (rest_things q 0 sent_hand.work.rest) ≡ shown w (rest_things q 0 d.hand.work.rest)) goes.number cache in
                  omega (arith, goes.alike w z, at_n);
            }

        turn_of : {under : Option Owned} (c : Leaves k sound e o s t x at v rest (Some v) under) → (keeps_all (plain_v.Own (plain_of v)) ≡ true) ⊎ ((thread_ends.ends k sound e o s t x at v rest (Some v) c).way ≡ as_owing) → ThreadTurn k sound e i refl s t x at d
        turn_of c free = record {
          became = became;
          names = fresh.None;
          thread = thread_is;
          named = refl;
          comes = G2;
          moves = moves_to;
          beside = (tt, (tt, tt));
          unstray = refl;
          once = thread_ends.once_then k sound e o s t x at v rest (Some v) (λ z. absurd (not_zero x.number other z));
          steps = steps (Some v) c free;
        }

        -- what is in the state of the things that were put in front is in the one heap afterwards, and the other way round
        there : Sends k e s (stepped s d) → is_in_state (sight (Next k sound e i refl s t x at d)) it ≡ true → is_in_state s2 it ≡ true
        there goes in_it =
            changed.nodes_after k sound e s at.here t x at.at at.number d became thread_is G2 moves_to goes (thread_ends.beside1 k sound e o s t x at v rest (Some v)) (tt, (tt, tt)) refl (thread_ends.once_then k sound e o s t x at v rest (Some v) (λ z. absurd (not_zero x.number other z))) it ∙ in_it

        kept : IsKept (Next k sound e i refl s t x at d) o x → Sends k e s (stepped s d) → ThreadTurn k sound e i refl s t x at d
        kept (inl f) goes = let free : owns_nothing v ≡ true = sym (ap none_goes ends) ∙ f in turn_of (leaves_free free) (inl (free_shown free))
        kept (inr f) goes = let in_it = there goes f.1 in turn_of (leaves_kept in_it) (inr (thread_ends.owing_then k sound e o s t x at v rest (Some v) (leaves_kept in_it) (not_zero x.number other) in_it))

        is_it : Wanted d
        is_it goes f = is_step k sound e i refl s t x at d (kept f goes) goes

    -- BOTH

    by_main : (b : Bool) → (x.number == 0) ≡ b → Gives Wanted (committed (done_where fresh.None (option_map (with_phase phase.Over) (end_with b v (with_temps rest start)))))
    by_main false q = by (unpin_all x.walk (sent_hand q).work.rest.cache)
      where
        by : (z : Option (List Copy)) → Gives Wanted (option_map (λ h2. record { hand = h2; names = Some fresh.None })
            (option_map (λ cs. record { work = with_cache cs (sent_hand q).work; thread = record (sent_hand q).thread { passed = 0; walk = []; moved_since_step = false } }) z))
        by None = tt
        by (Some cs) = is_it q cs
    by_main true q = whether (owns_nothing v) refl
      where
        same_hand : owns_nothing v ≡ true → with_phase phase.Over (working (λ w. label_all (label.End x.number ∷ []) (give_up v w)) (label_dropped (value.Own v) (with_temps rest start))) ≡ with_phase phase.Over (working (λ w. label_all (label.End x.number ∷ []) w) (with_temps rest start))
        same_hand f =
            ap (λ w. with_phase phase.Over (working (λ z. label_all (label.End x.number ∷ []) w) (with_temps rest start))) (give_none v (label_dropped (value.Own v) (with_temps rest start)).work f)
            ∙ ap (λ ls. with_phase phase.Over (working (λ z. label_all (label.End x.number ∷ []) (label_all ls z)) (with_temps rest start))) (label_none v f)

        ended : (free : owns_nothing v ≡ true) → Gives Wanted (committed (done_where fresh.None (Some (main_hand q free))))
        ended free = by (unpin_all x.walk s.rest.cache)
          where
            by : (z : Option (List Copy)) → Gives Wanted (option_map (λ h2. record { hand = h2; names = Some fresh.None })
                (option_map (λ cs. record { work = with_cache cs (main_hand q free).work; thread = record (main_hand q free).thread { passed = 0; walk = []; moved_since_step = false } }) z))
            by None = tt
            by (Some cs) = λ goes f. is_step k sound e i refl s t x at _ (main_turn q free cs) goes

        whether : (b : Bool) → owns_nothing v ≡ b → Gives Wanted (committed (done_where fresh.None (Some (with_phase phase.Over (working (λ w. label_all (label.End x.number ∷ []) (give_up v w)) (label_dropped (value.Own v) (with_temps rest start)))))))
        whether true f = subst (λ h. Gives Wanted (committed (done_where fresh.None (Some h)))) (sym (same_hand f)) (ended f)
        whether false f = never (committed (done_where fresh.None (Some (with_phase phase.Over (working (λ w. label_all (label.End x.number ∷ []) (give_up v w)) (label_dropped (value.Own v) (with_temps rest start)))))))
          where
            not_kept : (z : Cluster) → IsKept z o x → ⊥
            not_kept z (inl d) = cc (sym f ∙ sym (ap none_goes ends) ∙ d)
            not_kept z (inr d) = cc (sym q ∙ d.0)

            never : (z : Option Stepped) → Gives Wanted z
            never None = tt
            never (Some d) = λ goes w. absurd (not_kept (Next k sound e i refl s t x at d) w)

  abbrev Both : Popped Owned → Type 0
  Both p = PopsTo o start value.Own p × (ends_with o x ≡ Some (value.Own p.item))

  pub end_line : Gives Wanted (step k.options.servers i start)
  end_line = by (pop_owned o start) (both_give (PopsTo o start value.Own) (λ (p : Popped Owned). ends_with o x ≡ Some (value.Own p.item)) Both (pop_owned o start) (popped_owned o start) (owned_ends o start) (λ p a b. (a, b)))
    where
      by : (q : Option (Popped Owned)) → Gives Both q → Gives Wanted (committed (done_where fresh.None (option_map (with_phase phase.Over) (then_some q (λ z. end_with (x.number == 0) z.item z.hand)))))
      by None g = tt
      by (Some z) g = subst (λ h. Gives Wanted (committed (done_where fresh.None (option_map (with_phase phase.Over) (end_with (x.number == 0) z.item h))))) (sym g.0.hand) (by_main z.item g.0.rest g.0.pops g.1 (x.number == 0) refl)

pub ends_are : EndsArePlain
ends_are k e o y q th sound few =
    events_are (λ d. IsKept d.0 o y → IsPlainStep k d) k e (instr.End o) sound few (λ s t x at.
    subst (λ z. Gives (λ (d : Stepped). Sends k e s (stepped s d) → IsKept (record k { servers = hand_over_newer e.server (length s.rest.outbox) (stepped s d).0 k.servers }) o z → IsPlainStep k (record k { servers = hand_over_newer e.server (length s.rest.outbox) (stepped s d).0 k.servers }, (stepped s d).1)) (step k.options.servers (instr.End o) (record { work = begin_work s.rest; thread = x })))
    (same_thread k e (instr.End o) s t x y at th) (end_line k sound e o s t x at)) q
