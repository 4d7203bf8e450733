-- An object that a thread asks for isn't given up: the thread's place leads to it.
use Rattle.std.proofs.Common.{◌≡◌, ℕ, ◌≤◌, ◌==◌, ◌&&◌, true, Option, Some, None, refl, sym, ap, ap₂, subst, ◌∙◌, arith}
use Rattle.law_entries_variables.specs.Below.fr_base.declared.name.ObjNo.{ObjNo}
use Rattle.law_entries_variables.specs.Below.heap_partition.declared.value.BoxPtr.{BoxPtr}
use Rattle.law_entries_variables.specs.Below.heap_partition.declared.value.Owned.TheVariants as owned
use Rattle.law_entries_variables.specs.Below.thread_state.View.{is_over}
use Rattle.law_entries_variables.specs.Below.thread_state.declared.value.Value.{Value}
use Rattle.law_entries_variables.specs.Below.thread_state.declared.value.Value.TheVariants as value
use Rattle.law_entries_variables.specs.Below.thread_state.declared.phase.Phase.TheVariants as phase
use Rattle.law_entries_variables.specs.Below.server_msgs.declared.message.Message.{Message}
use Rattle.law_entries_variables.specs.Below.server_msgs.declared.message.Message.TheVariants as message
use Rattle.law_entries_variables.specs.Below.server_model.Servers.{Cluster}
use Rattle.law_entries_variables.specs.Below.server_model.Places.{pointer_of}
use Rattle.law_entries_variables.specs.Below.coherent_memory.Names.{tot, one, other, same_object, Among}
use Rattle.law_entries_variables.specs.Below.coherent_memory.Things.{Location, in_cell, Thing, sent, things_of}
use Rattle.law_entries_variables.specs.Below.coherent_memory.Follow.{Standing, thread_at, value_in, leads}
use Rattle.law_entries_variables.specs.Below.coherent_memory.Sight.{sight}
use Rattle.law_entries_variables.specs.Below.coherent_memory.Paths.{Path, reads, shares, lends, Awaited}
use Rattle.law_entries_variables.specs.Below.coherent_memory.Walking.{path, asks_for, asked_for}
use Rattle.law_entries_variables.specs.Below.coherent_memory.Requests.{is_cell, in_phase, carries}
use Rattle.law_entries_variables.specs.Below.coherent_memory.Turn.{AwaitsAt, read_at, before_share, at_share, before_lend, at_lend, InTurn, by_read, by_share, by_lend, by_write, by_end, by_holder, WaitsFor}
use Rattle.law_entries_variables.specs.Below.coherent_memory.Coherent.{IsSound}
use Rattle.law_entries_variables.proofs.Below.coherent_memory.Names.{and_left, and_right}
use Rattle.law_entries_variables.proofs.Below.coherent_memory.Words.{none_at, named}
use Rattle.law_copies_kept.specs.Below.coherent_types.ClusterTypes.{IsCoherent}
use Rattle.law_entries_variables.proofs.Below.law_counts_sums.Askers.{other_none}
use Rattle.law_entries_variables.proofs.Below.law_heap_still.events.Tests.{numbers}
use Rattle.law_copies_kept.specs.Below.law_words_paths.paths.HeapStore.{GoesOn, HasPaths}
use Rattle.law_copies_kept.proofs.Below.law_words_paths.paths.Alike.{coherent_has_paths}
use Rattle.law_copies_kept.proofs.Below.law_words_paths.paths.Contained.{among_thread}
use Rattle.law_copies_kept.proofs.Below.law_words_paths.paths.InState.{only_one}
use Rattle.law_copies_kept.proofs.Below.law_words_paths.paths.Sole.{some_is}
use Rattle.law_entries_variables.proofs.Below.law_words_kept.reads.Flights.{found, truly, whole_to, one_answer, asks_whole, same_one, one_message, is_waiting, answers_told}
use Rattle.law_copies_kept.proofs.Below.law_results_reads.Flights.{weighs}
use Rattle.law_copies_kept.proofs.Below.law_words_kept.ends.Ends.{ends_at}
use Rattle.law_copies_kept.proofs.Below.law_words_kept.ends.Alone.{ended}
use Rattle.law_copies_kept.proofs.Below.law_words_kept.ends.ReadPaths.{read_pointer, write_pointer, clean_pointer}
use Rattle.law_copies_kept.proofs.Below.law_words_values.freed.Lists.{NoneLeads}
use Rattle.law_entries_variables.proofs.deliveries.Shown.{dropped_by}
use Rattle.law_entries_reads.proofs.served.Kept.{led_kept}

leads_to : (t : ℕ) (v : Value) (b : BoxPtr) → pointer_of v ≡ Some b → leads t (Some v) ≡ Some (in_cell b.object)
leads_to t (value.Own (owned.Box p)) b e = ap (λ (x : BoxPtr). Some (in_cell x.object)) (some_is e)
leads_to t (value.Own owned.Nothing) b e = absurd (cc e)
leads_to t (value.Own owned.Unit) b e = absurd (cc e)
leads_to t (value.Own (owned.Int n)) b e = absurd (cc e)
leads_to t (value.Own (owned.Mutex n)) b e = absurd (cc e)
leads_to t (value.Own (owned.Task n)) b e = absurd (cc e)
leads_to t (value.Shared r) b e = ap (λ (x : BoxPtr). Some (in_cell x.object)) (some_is e)
leads_to t (value.Mut r) b e = ap (λ (x : BoxPtr). Some (in_cell x.object)) (some_is e)
leads_to t (value.SharedSlot i) b e = absurd (cc e)
leads_to t (value.MutSlot i) b e = absurd (cc e)
leads_to t value.Gone b e = absurd (cc e)
leads_to t (value.Held m) b e = absurd (cc e)

-- a `move` of that object under that word
abbrev pub moves_to : ℕ → ObjNo → Message → ℕ
moves_to w o (message.Move u p a t) = one (u == w && same_object p o)
moves_to w o m = 0

abbrev pub move_of : ℕ → ObjNo → Thing → ℕ
move_of w o (sent r m) = moves_to w o m
move_of w o x = 0

module _ (k : Cluster) (coherent : IsCoherent k) where
  abbrev sound : IsSound k
  sound = coherent.sound

  abbrev c : HasPaths k
  c = coherent_has_paths k coherent

  abbrev colours : ℕ
  colours = (sight k).options.colours

  -- WHAT A THREAD WAITS FOR, its place leads to

  module _ (x : Standing) (g : GoesOn k x) (a : Awaited) (none : NoneLeads k a.object) where
    pointed : (l : Location) (v : Value) → value_in (sight k).ground l ≡ Some v → pointer_of v ≡ Some (record { word = a.word; object = a.object }) → ⊥
    pointed l v stands its = none x.thread.number l (ap (leads x.thread.number) stands ∙ leads_to x.thread.number v (record { word = a.word; object = a.object }) its)

    at_hop : (p : Path) (n : ℕ) → AwaitsAt (sight k) x p n a → ⊥
    at_hop _ n (read_at w i _ lt q) = pointed q.location q.value q.hop.stands (read_pointer colours q.value a q.asked)
    at_hop _ n (before_share w i _ lt q) = pointed q.location q.value q.hop.stands (read_pointer colours q.value a q.asked)
    at_hop _ n (at_share w i _ lt q) = pointed q.location q.value q.hop.stands (clean_pointer colours q.value a q.asked)
    at_hop _ n (before_lend w i _ lt q) = pointed q.location q.value q.hop.stands (read_pointer colours q.value a q.asked)
    at_hop _ n (at_lend w i _ lt q) = pointed q.location q.value q.hop.stands (write_pointer q.value a q.asked)

    pub in_turn : (u : ℕ) (p : Path) → path (sight k) x ≡ p → InTurn (sight k) x u a p → ⊥
    in_turn u _ is (by_read p f) = at_hop (reads p) f.number f.at
    in_turn u _ is (by_share p f) = at_hop (shares p) f.number f.at
    in_turn u _ is (by_lend p f) = at_hop (lends p) f.number f.at
    in_turn u _ is (by_write p f) = let q = f.asked in pointed q.location q.value q.hop.stands (write_pointer q.value a q.asked)
    in_turn u _ is (by_end r same m) = let e = ended k c x g r is (ends_at k c x g r is) in pointed e.at (value.Mut r) e.stands (write_pointer (value.Mut r) a m)
    in_turn u _ is (by_holder r ne f) = let q = f.asked in pointed q.location q.value q.hop.stands (write_pointer q.value a q.asked)

  -- AN OBJECT THAT IS ASKED FOR

  module _ (w : ℕ) (o : ObjNo) (none : NoneLeads k o) where
    waiting : (r a t : ℕ) (m : Message) → m ≡ message.Move w o a t → Among (sent r m) (things_of k) → ⊥
    waiting r a t m is among = by (thread_at (sight k).ground.threads t) refl (other_none _ carried)
      where
        carried : other (in_phase (is_cell w) (thread_at (sight k).ground.threads t)) ≡ 0
        carried = subst (λ y. carries (sight k) (sent r y) ≡ 0) is (none_at (carries (sight k)) (sent r m) (things_of k) sound.requests.carry_what_is_asked among)

        mine : (x : Standing) → x.thread.number ≡ t → 1 ≤ whole_to x.thread.number (sent r m)
        mine x number = subst (λ y. 1 ≤ whole_to x.thread.number (sent r y)) (sym is) (same_one t x.thread.number (subst (λ z. (t == z) ≡ true) (sym number) (numbers.itself t)))

        of_thing : (x : Standing) → Among x (sight k).ground.threads → x.thread.number ≡ t → x.thread.phase ≡ phase.WaitCell w → (f : WaitsFor (sight k) x w) (y : Thing) → Among y (things_of k) → 1 ≤ asked_for x.thread.number f.awaited y → ⊥
        of_thing x there number waits f (sent s l) h asked =
            let n = x.thread.number in
            let e : asks_for n f.awaited l ≡ true = truly (asks_for n f.awaited l) asked in
            let same : l ≡ m = one_message s r l m (only_one (whole_to n) (sent s l) (sent r m) (things_of k) (one_answer k (answers_told k sound) n) h among (asks_whole n f.awaited s l e) (mine x number)) in
            let asks : ((t == n && f.awaited.comes) && (f.awaited.word == w && same_object o f.awaited.object)) ≡ true = subst (λ z. asks_for n f.awaited z ≡ true) (same ∙ is) e in
            let object : o ≡ f.awaited.object = named o f.awaited.object (and_right (f.awaited.word == w) (same_object o f.awaited.object) (and_right (t == n && f.awaited.comes) (f.awaited.word == w && same_object o f.awaited.object) asks)) in
            in_turn x (record { among = there; going = ap is_over waits }) f.awaited (subst (NoneLeads k) object none) w (path (sight k) x) refl f.turn
        of_thing x there number waits f _ h asked = omega (arith, asked)

        by : (z : Option Standing) → thread_at (sight k).ground.threads t ≡ z → in_phase (is_cell w) z ≡ true → ⊥
        by None at e = cc e
        by (Some x) at e =
            let q = among_thread (sight k).ground.threads t x at in
            let waits = is_waiting x.thread.phase w e in
            let f : WaitsFor (sight k) x w = sound.walks.wait_in_turn x w q.0 waits in
            let it = found (asked_for x.thread.number f.awaited) (things_of k) f.asked in
            of_thing x q.0 q.1 waits f it.0 it.1 it.2

    no_move : (y : Thing) → Among y (things_of k) → 1 ≤ move_of w o y → ⊥
    no_move (sent r m) h l = by m refl l h
      where
        by : (y : Message) → m ≡ y → 1 ≤ moves_to w o y → Among (sent r m) (things_of k) → ⊥
        by (message.Move u p a t) e l h =
            let b = truly (u == w && same_object p o) l in
            waiting r a t m (e ∙ ap₂ (λ i j. message.Move i j a t) (numbers.tells u w (and_left (u == w) (same_object p o) b)) (named p o (and_right (u == w) (same_object p o) b))) h
        by _ e l h = omega (arith, l)
    no_move _ h l = omega (arith, l)

  pub wanted_kept : (w : ℕ) (o : ObjNo) → 1 ≤ tot (move_of w o) (things_of k) → tot (dropped_by o) (things_of k) ≡ 0
  wanted_kept w o l = led_kept k coherent o (λ none. let y = weighs (move_of w o) (things_of k) l in no_move w o none y.0 y.1 y.2)
