-- Steps that take what a slot owns.
use Rattle.std.proofs.Common.{◌≡◌, inl, ℕ, suc, ◌-◌, Bool, true, false, if◌then◌else◌, List, [], ◌∷◌, ◌++◌, Option, Some, None, option_map, refl, sym, ap, subst, ◌∙◌}
use Rattle.std.specs.Prelude.{nat_lt, slice_get, slice_set, length}
use Rattle.law_words_kept.specs.Below.fr_base.declared.name.MutexNo.{MutexNo}
use Rattle.law_words_kept.specs.Below.fr_base.declared.place.Lval.{Lval}
use Rattle.law_words_kept.specs.Below.fr_base.declared.step.Fresh.TheVariants as fresh
use Rattle.law_words_kept.specs.Below.fr_base.declared.instruction.Instr.{Instr}
use Rattle.law_words_kept.specs.Below.fr_base.declared.instruction.Instr.TheVariants as instr
use Rattle.law_words_kept.specs.Below.heap_partition.declared.value.BoxPtr.{BoxPtr}
use Rattle.law_words_kept.specs.Below.heap_partition.declared.value.Owned.{Owned}
use Rattle.law_words_kept.specs.Below.heap_partition.declared.value.Owned.TheVariants as owned
use Rattle.law_words_kept.specs.Below.mut_borrow.declared.mutable.MutRef.{MutRef}
use Rattle.law_words_kept.specs.Below.journal.View.{EntryView}
use Rattle.law_words_kept.specs.Below.thread_state.View.{ThreadState}
use Rattle.law_words_kept.specs.Below.thread_state.declared.phase.Phase.{Phase}
use Rattle.law_words_kept.specs.Below.thread_state.declared.phase.Phase.TheVariants as phase
use Rattle.law_words_kept.specs.Below.thread_state.declared.value.Value.{Value}
use Rattle.law_words_kept.specs.Below.thread_state.declared.value.Value.TheVariants as value
use Rattle.law_words_kept.specs.Below.server_msgs.declared.message.Message.TheVariants as message
use Rattle.law_words_kept.specs.Below.server_model.declared.event.What.TheVariants.{Step}
use Rattle.law_words_kept.specs.Below.server_model.Servers.{Rest, Server, Cluster, server_at}
use Rattle.law_words_kept.specs.Below.server_model.Work.{Hand, Popped, last_of, front_of, with_slots, pop_slot, push_temp, owned_of, taken_as, then_some, working, sent_from, thread_in, without_thread}
use Rattle.law_words_kept.specs.Below.server_model.Clusters.{apply}
use Rattle.law_words_kept.specs.Below.server_model.Drop.{give_up, drop_value}
use Rattle.law_words_kept.specs.Below.server_model.Places.{load_at, in_slot as spot_slot, nowhere as no_spot}
use Rattle.law_words_kept.specs.Below.server_model.Prepare.{ending, prepare, read_or_taken, read_stars}
use Rattle.law_words_kept.specs.Below.server_model.Commit.{done_where, go_on, label_dropped, drop_slot, held_of, send_content, unlock, read, read_as, settle}
use Rattle.law_words_kept.specs.Below.server_model.Events.{can_step, has_phase, enabled, does, Stepped, done_step, committed, prepared, step}
use Rattle.law_words_kept.specs.Below.coherent_memory.Things.{Location, at_slot, sent, locks, thread_things, message_things, servers_things}
use Rattle.law_words_kept.specs.Below.coherent_memory.Follow.{Standing, value_in, locate}
use Rattle.law_words_kept.specs.Below.coherent_memory.Sight.{Pointer, sight}
use Rattle.law_words_kept.specs.Below.coherent_types.ClusterTypes.{IsCoherent}
use Rattle.law_words_kept.specs.Below.law_words_paths.paths.HeapStore.{GoesOn}
use Rattle.law_words_kept.specs.Below.law_words_paths.paths.Pointing.{moves as moves_out}
use Rattle.law_words_kept.proofs.Below.law_words_paths.paths.Sole.{some_is}
use Rattle.law_words_kept.proofs.Below.law_words_paths.paths.Alike.{coherent_has_paths}
use Rattle.law_words_kept.proofs.Below.law_words_paths.paths.Contained.{among_thread}
use Rattle.law_words_kept.specs.Below.law_words_paths.words.Unmoved.{taking_by}
use Rattle.law_words_kept.proofs.Below.law_words_paths.words.Standing.{told}
use Rattle.law_words_kept.specs.ends.Dropped.{GivesUp, written, dropped as slot_dropped, put_back, MayGiveUp, a_place}
use Rattle.law_words_kept.proofs.ends.Owned.{owned_are_alone}
use Rattle.law_words_kept.proofs.ends.Given.{given_up_may_be}
use Rattle.law_words_kept.specs.Below.law_counts_sums.Kinds.{instr_kind}
use Rattle.law_words_kept.specs.Below.law_counts_sums.Laws.{Gives, FewEvents}
use Rattle.law_words_kept.proofs.Below.law_counts_sums.Proved.{IsProvedKind}
use Rattle.law_words_kept.proofs.Below.law_counts_sums.Results.{over_gives}
use Rattle.law_words_kept.proofs.Below.law_counts_sums.Values.{last_split}
use Rattle.law_words_kept.proofs.Below.law_counts_sums.RulesKeep.{sums_kept, sums_spend}
use Rattle.law_words_kept.proofs.Below.law_counts_sums.Bags.{body_things, all_standing, sent_number}
use Rattle.law_words_kept.proofs.Below.law_counts_sums.Events.{others_of}
use Rattle.law_words_kept.proofs.Below.law_counts_sums.Steps.{step_keeps}
use Rattle.law_words_kept.proofs.Below.law_counts_sums.GiftsTaken.{gift_fits}
use Rattle.law_words_kept.proofs.Below.law_counts_sums.ThreadThere.{thread_there}
use Rattle.law_words_kept.proofs.stays.Alike.{Alike, itself, turned, chain, beside, blank}
use Rattle.law_words_kept.proofs.stays.Servers.{held, content_held, given_up, sends}
use Rattle.law_words_kept.proofs.stays.Sites.{HandAlike}
use Rattle.law_words_kept.proofs.stays.Steps.{IsUnseen, TakesNoneHere, settles}
use Rattle.law_words_kept.proofs.prepared.Hands.{calm_goes}
use Rattle.law_words_kept.proofs.prepared.Asking.{found_number}
use Rattle.law_words_values.specs.carried.Steps.{GivesOwned, drops, drops_none, puts_back, moves, OwnedGoes}
use Rattle.law_words_values.proofs.carried.Passing.{temp, nowhere}
use Rattle.law_words_values.proofs.carried.Places.{end_is, slot_to_gift, slot_to_temp}
use Rattle.law_words_values.proofs.carried.Owned.{OwnsAlone}
use Rattle.law_words_values.proofs.carried.Hands.{GoesOver, words_go, ThereBy, each_together, together_chain, Moved, seen, moved_goes, Given, Ok, h0, first_ok, given_goes, left_by, step_by}
use Rattle.law_words_values.proofs.carried.Steps.{Does, goes_next, goes_over, slot_pushed, given_to_rest}

length_end : {A : Type 0} (xs : List A) (v : A) → length (xs ++ v ∷ []) ≡ suc (length xs)
length_end [] v = refl
length_end (x ∷ xs) v = ap suc (length_end xs v)

pub held_unseen : (m : MutexNo) → IsUnseen (value.Held m)
held_unseen m = record { points = refl; things = λ j p l. blank (locks l m) (λ q f i. i) }

is_owned : (v : Value) (u : Owned) → owned_of v ≡ Some u → v ≡ value.Own u
is_owned (value.Own w) u e = ap (λ z. value.Own z) (some_is e)
is_owned value.Gone u e = absurd cc
is_owned (value.SharedSlot i) u e = absurd cc
is_owned (value.MutSlot i) u e = absurd cc
is_owned (value.Shared r) u e = absurd cc
is_owned (value.Mut r) u e = absurd cc
is_owned (value.Held m) u e = absurd cc

is_held : (v : Value) (m : MutexNo) → held_of v ≡ Some m → v ≡ value.Held m
is_held (value.Held w) m e = ap (λ z. value.Held z) (some_is e)
is_held (value.Own u) m e = absurd cc
is_held value.Gone m e = absurd cc
is_held (value.SharedSlot i) m e = absurd cc
is_held (value.MutSlot i) m e = absurd cc
is_held (value.Shared r) m e = absurd cc
is_held (value.Mut r) m e = absurd cc

module _ (code : List Instr) (n : ℕ) (h : Hand) (none : TakesNoneHere code h.thread) where
  abbrev x : ThreadState
  x = h.thread

  -- what a slot of the thread owned goes, that one
  pub record Yields (at : ℕ → Type 0) (h2 : Hand) : Type 0 where
    pub given : Given code n h h2
    pub place : at given.index
    pub untaken : TakesNoneHere code h2.thread

  pub record Yielded (at : ℕ → Type 0) (h2 : Hand) : Type 0 where
    pub given : Given code n h h2
    pub place : at given.index

  pub yields_over : (at : ℕ → Type 0) (o : Option Hand) → Gives (Yields at) o → Gives (λ (d : Stepped). Yielded at d.hand) (committed (done_where fresh.None (option_map go_on o)))
  yields_over at None g = tt
  yields_over at (Some h2) g =
      over_gives (HandAlike code n [] (go_on h2)) (λ (d : Stepped). Yielded at d.hand) (settle (go_on h2)) (done_step fresh.None) (settles code n (go_on h2))
      (λ h3 a.
      let q = g.given in record {
        given = record {
          index = q.index;
          content = q.content;
          to = q.to;
          after = q.after;
          stood = q.stood;
          away = q.away;
          passes = q.passes;
          together = together_chain q.together (together_chain (goes_next code n h2 g.untaken) (each_together a));
        };
        place = g.place;
      })

  -- the newest one
  abbrev pub Newest : ℕ → Type 0
  Newest i = length x.slots ≡ suc i

  newest_given : (u : Owned) (h2 : Hand) → last_of x.slots ≡ Some (value.Own u) → x.gift ≡ None → h2.work.rest.number ≡ h.work.rest.number → h2.thread.number ≡ x.number
      → Alike code (thread_things n false (record x { slots = front_of x.slots })) (thread_things n false h2.thread) → Alike code (held u ++ body_things n h.work.rest) (body_things n h2.work.rest) → TakesNoneHere code h2.thread → Yields Newest h2
  newest_given u h2 e free number named a b none_of =
      let ss : List Value = front_of x.slots in
      let split : x.slots ≡ ss ++ value.Own u ∷ [] = last_split x.slots (value.Own u) e in record {
        given = record {
          index = length ss;
          content = u;
          to = nowhere;
          after = record x { slots = ss; gift = Some u };
          stood = ap (λ vs. slice_get vs (length ss)) split ∙ end_is ss (value.Own u);
          away = λ j q. absurd cc;
          passes = slot_to_gift code n x none ss u split free;
          together = record { number = number; named = named; alike = given_to_rest code n (record x { slots = ss }) h2.thread u h.work.rest h2.work.rest free a b };
        };
        place = ap length split ∙ length_end ss (value.Own u);
        untaken = none_of;
      }

  module _ (number : h.work.rest.number ≡ n) (free : x.gift ≡ None) where
    -- THE NEWEST SLOT IS DROPPED

    pub slot_drops : (u : Owned) → last_of x.slots ≡ Some (value.Own u) → Gives (Yields Newest) (drop_slot no_spot h)
    slot_drops u e =
        subst (λ o. Gives (Yields Newest) (then_some {X = Popped Value} (option_map (λ w. record { item = w; hand = with_slots (front_of x.slots) h }) o) (λ t. drop_value no_spot t.item (label_dropped t.item t.hand)))) (sym e)
        (let w = (label_dropped (value.Own u) (with_slots (front_of x.slots) h)).work in
        let q = given_up {code = code} n (held u ++ body_things n h.work.rest) u w number (itself (held u ++ body_things n h.work.rest)) in
        newest_given u (working (give_up u) (label_dropped (value.Own u) (with_slots (front_of x.slots) h))) e free (q.number ∙ sym number) refl (itself (thread_things n false (record x { slots = front_of x.slots }))) q.alike none)

    -- A LOCK'S CONTENT IS PUT BACK

    content_back : (m : MutexNo) (u : Owned) (r : Rest) → r.number ≡ n → Alike code (held u ++ body_things n r) (body_things n (sent_from r m.home (message.Unlock m u)))
    content_back m u r e =
        let msg = message.Unlock m u in
        let shown : Alike code (message_things m.home msg) (held u) = beside {a = sent m.home msg ∷ []} {b = []} (blank (sent m.home msg) (λ p f i. i)) (content_held m u) in
        chain (beside (turned shown) (itself (body_things n r))) (sends n r e m.home msg)

    mark_goes : (ss rr : List Value) (m : MutexNo) → ss ≡ rr ++ value.Held m ∷ [] → Alike code (thread_things n false (record x { slots = ss })) (thread_things n false (record x { slots = rr }))
    mark_goes ss rr m e =
        subst (λ vs. Alike code (thread_things n false (record x { slots = vs })) (thread_things n false (record x { slots = rr }))) (sym e)
        (turned (slot_pushed code n (record h { thread = record x { slots = rr } }) (value.Held m) refl (held_unseen m)).thread)

    -- what is done with the content
    abbrev Then : Option (Popped Owned) → Option Hand
    Then o = then_some o (λ v. option_map (λ (m : Popped MutexNo). send_content m.item v.item m.hand) (then_some (pop_slot v.hand) (taken_as held_of)))

    pub unlocks : Gives (Yields Newest) (unlock h)
    unlocks = by (last_of x.slots) refl
      where
        ss : List Value
        ss = front_of x.slots

        hs : Hand
        hs = with_slots ss h

        as_held : (u : Owned) → last_of x.slots ≡ Some (value.Own u) → (w : Value) → last_of ss ≡ Some w → (o : Option MutexNo) → held_of w ≡ o
            → Gives (Yields Newest) (option_map (λ (m : Popped MutexNo). send_content m.item u m.hand) (option_map (λ m. record { item = m; hand = with_slots (front_of ss) hs }) o))
        as_held u e w f None q = tt
        as_held u e w f (Some m) q =
            let split : ss ≡ front_of ss ++ value.Held m ∷ [] = last_split ss (value.Held m) (f ∙ ap Some (is_held w m q)) in
            newest_given u (send_content m u (with_slots (front_of ss) hs)) e free (sent_number h.work.rest m.home (message.Unlock m u)) refl (mark_goes ss (front_of ss) m split) (content_back m u h.work.rest number) none

        marked : (u : Owned) → last_of x.slots ≡ Some (value.Own u) → (o : Option Value) → last_of ss ≡ o
            → Gives (Yields Newest) (option_map (λ (m : Popped MutexNo). send_content m.item u m.hand) (then_some {X = Popped Value} (option_map (λ w. record { item = w; hand = with_slots (front_of ss) hs }) o) (taken_as held_of)))
        marked u e None f = tt
        marked u e (Some w) f = as_held u e w f (held_of w) refl

        as_owned : (v : Value) → last_of x.slots ≡ Some v → (o : Option Owned) → owned_of v ≡ o → Gives (Yields Newest) (Then (option_map (λ u. record { item = u; hand = hs }) o))
        as_owned v e None q = tt
        as_owned v e (Some u) q = marked u (e ∙ ap Some (is_owned v u q)) (last_of ss) refl

        by : (o : Option Value) → last_of x.slots ≡ o → Gives (Yields Newest) (Then (then_some {X = Popped Value} (option_map (λ v. record { item = v; hand = hs }) o) (taken_as owned_of)))
        by None e = tt
        by (Some v) e = as_owned v e (owned_of v) refl

  -- A VARIABLE'S VALUE IS MOVED OUT

  pub moved_out : (i : ℕ) (u : Owned) → slice_get x.slots i ≡ Some (value.Own u) → Gives (Yields (λ j. j ≡ i)) (read true (spot_slot i) h)
  moved_out i u e =
      subst (λ o. Gives (Yields (λ j. j ≡ i)) (then_some o (λ v. read_as true (spot_slot i) v (load_at (spot_slot i) h)))) (sym e) (by (nat_lt i (length x.slots)))
    where
      after : ThreadState
      after = record x { slots = slice_set x.slots i value.Gone; temps = x.temps ++ value.Own u ∷ [] }

      loaded : Hand
      loaded = load_at (spot_slot i) h

      by : (b : Bool) → Gives (Yields (λ j. j ≡ i)) (option_map (push_temp (value.Own u)) (if b then Some (with_slots (slice_set x.slots i value.Gone) loaded) else None))
      by false = tt
      by true = record {
        given = record {
          index = i;
          content = u;
          to = temp (length x.temps);
          after = after;
          stood = e;
          away = λ j q. absurd cc;
          passes = slot_to_temp code n x none i u e;
          together = record { number = refl; named = refl; alike = itself (thread_things n false after ++ body_things n h.work.rest) };
        };
        place = refl;
        untaken = none;
      }

  -- THE NEWEST SLOT HAS NO VALUE

  empty_goes : (ss : List Value) → x.slots ≡ ss ++ value.Gone ∷ [] → Alike code (thread_things n false (record x { slots = x.slots })) (thread_things n false (record x { slots = ss }))
  empty_goes ss e =
      subst (λ vs. Alike code (thread_things n false (record x { slots = vs })) (thread_things n false (record x { slots = ss }))) (sym e)
      (turned (slot_pushed code n (record h { thread = record x { slots = ss } }) value.Gone refl (record { points = refl; things = λ j p l. itself [] })).thread)

  pub empty_drops : last_of x.slots ≡ Some value.Gone → Gives (Does code n h) (drop_slot no_spot h)
  empty_drops e =
      let ss : List Value = front_of x.slots in
      subst (λ o. Gives (Does code n h) (then_some {X = Popped Value} (option_map (λ w. record { item = w; hand = with_slots ss h }) o) (λ t. drop_value no_spot t.item (label_dropped t.item t.hand)))) (sym e)
      (record { moved = seen (record { number = refl; named = refl; alike = beside (empty_goes ss (last_split x.slots value.Gone e)) (itself (body_things n h.work.rest)) }); untaken = none })

-- ALONE BY TYPES

module _ (k : Cluster) (coherent : IsCoherent k) (s : Server) (here : server_at k.servers s.rest.number ≡ Some s) (t : ℕ) (y : ThreadState) (at : thread_in s.threads t ≡ Some y) (on : enabled k.options s (Step t) ≡ true) (i : Instr) (code : slice_get k.code y.pc ≡ Some i) where
  abbrev me : Standing
  me = record { server = s.rest.number; packed = false; thread = y }

  going : GoesOn k me
  going = record { among = (among_thread (sight k).ground.threads t me (thread_there k coherent.sound s.rest.number s here t y at)).0; going = calm_goes y.phase (subst (λ o. has_phase can_step o ≡ true) at on) }

  own_reference : (r : MutRef) (b : BoxPtr) (l : Location) → value_in (sight k).ground l ≡ Some (value.Mut r) → value_in (sight k).ground l ≡ Some (value.Own (owned.Box b)) → ⊥
  own_reference r b l e f = let z : Some (value.Mut r) ≡ Some (value.Own (owned.Box b)) = sym e ∙ f in absurd cc

  pub given_alone : (w : Lval) → w.depth ≡ 0 → GivesUp y i w → OwnsAlone k (at_slot y.number w.slot)
  given_alone w flat gives m h b below is l r e same =
      let paths = coherent_has_paths k coherent in
      let may : MayGiveUp k paths.types me (at_slot y.number w.slot) = a_place w (given_up_may_be k paths me i w going code gives) (ap (λ d. locate (sight k).ground y.number w.slot d) flat) in
      let only = owned_are_alone k paths me (at_slot y.number w.slot) m h b going may below is in
      let p : Pointer = record { at = Some l; word = r.word; object = r.object } in
      let there : l ≡ h = only.only p l (told k l (value.Mut r) p e (inl refl)) same refl in
      own_reference r b l e (ap (value_in (sight k).ground) there ∙ is)

-- IN THEIR CLUSTER

drop_takes : (t : ℕ) (p : Phase) → taking_by t p (Some instr.DropSlot) ≡ None
drop_takes t (phase.Taken w) = refl
drop_takes t _ = refl

unlock_takes : (t : ℕ) (p : Phase) → taking_by t p (Some instr.Unlock) ≡ None
unlock_takes t (phase.Taken w) = refl
unlock_takes t _ = refl

read_takes : (t : ℕ) (p : Phase) (w : Lval) (b : Bool) → taking_by t p (Some (instr.Read w b)) ≡ None
read_takes t (phase.Taken v) w b = refl
read_takes t _ w b = refl

module _ (k : Cluster) (coherent : IsCoherent k) (s : Server) (here : server_at k.servers s.rest.number ≡ Some s) (t : ℕ) (y : ThreadState) (at : thread_in s.threads t ≡ Some y) (on : enabled k.options s (Step t) ≡ true) {R : Cluster → Cluster → Type 0} (go : GoesOver R) where
  abbrev sn : ℕ
  sn = s.rest.number

  abbrev hand : Hand
  hand = h0 k coherent.sound s here t y at

  untaken : (i : Instr) → slice_get k.code y.pc ≡ Some i → taking_by y.number y.phase (Some i) ≡ None → TakesNoneHere k.code y
  untaken i code e = subst (λ j. taking_by y.number y.phase j ≡ None) (sym code) e

  ok_steps : (i : Instr) → IsProvedKind (instr_kind i) → Gives (λ (d : Stepped). Ok k coherent.sound s here t y at d.hand) (step k.options.servers i hand)
  ok_steps i p = step_keeps sums_kept sn s.events t (all_standing sn (without_thread s.threads t) ++ servers_things (others_of k.servers sn)) k.options.servers i hand p (λ z. sums_spend) (first_ok k coherent.sound s here t y at)

  -- where the slot that gives is owned alone
  gives_there : (i : Instr) (code : slice_get k.code y.pc ≡ Some i) (none : TakesNoneHere k.code y) (P : ℕ → Type 0) → ((j : ℕ) → P j → OwnsAlone k (at_slot y.number j)) → IsProvedKind (instr_kind i)
      → Gives (λ (d : Stepped). Yielded k.code sn hand none P d.hand) (step k.options.servers i hand) → Gives (ThereBy R k s) (does k.code k.options s (Step t))
  gives_there i code none P alone p g =
      step_by R k coherent.sound s here t y at i code (Yielded k.code sn hand none P) (λ h ok q. given_goes k coherent.sound s here t y at go h ok q.given (alone q.given.index q.place)) (ok_steps i p) g

  drops_there : (u : Owned) → last_of y.slots ≡ Some (value.Own u) → slice_get k.code y.pc ≡ Some instr.DropSlot → Gives (ThereBy R k s) (does k.code k.options s (Step t))
  drops_there u e code =
      let none = untaken instr.DropSlot code (drop_takes y.number y.phase) in
      gives_there instr.DropSlot code none (Newest k.code sn hand none) (λ j q. given_alone k coherent s here t y at on instr.DropSlot code (record { slot = j; depth = 0 }) refl (slot_dropped j q)) tt
      (subst (λ o. Gives (λ (d : Stepped). Yielded k.code sn hand none (Newest k.code sn hand none) d.hand) (prepared k.options.servers instr.DropSlot (prepare (ending (spot_slot (length y.slots - 1)) o) hand))) (sym e)
      (yields_over k.code sn hand none (Newest k.code sn hand none) (drop_slot no_spot hand) (slot_drops k.code sn hand none refl (gift_fits k coherent.sound sn s here t y at instr.DropSlot code).0 u e)))

  empty_there : last_of y.slots ≡ Some value.Gone → slice_get k.code y.pc ≡ Some instr.DropSlot → Gives (ThereBy R k s) (does k.code k.options s (Step t))
  empty_there e code =
      let none = untaken instr.DropSlot code (drop_takes y.number y.phase) in
      step_by R k coherent.sound s here t y at instr.DropSlot code (Moved k.code sn hand) (moved_goes k coherent.sound s here t y at go) (ok_steps instr.DropSlot tt)
      (subst (λ o. Gives (λ (d : Stepped). Moved k.code sn hand d.hand) (prepared k.options.servers instr.DropSlot (prepare (ending (spot_slot (length y.slots - 1)) o) hand))) (sym e)
      (goes_over k.code sn hand fresh.None (drop_slot no_spot hand) (empty_drops k.code sn hand none e)))

  unlocks_there : slice_get k.code y.pc ≡ Some instr.Unlock → Gives (ThereBy R k s) (does k.code k.options s (Step t))
  unlocks_there code =
      let none = untaken instr.Unlock code (unlock_takes y.number y.phase) in
      gives_there instr.Unlock code none (Newest k.code sn hand none) (λ j q. given_alone k coherent s here t y at on instr.Unlock code (record { slot = j; depth = 0 }) refl (put_back j q)) tt
      (yields_over k.code sn hand none (Newest k.code sn hand none) (unlock hand) (unlocks k.code sn hand none refl (gift_fits k coherent.sound sn s here t y at instr.Unlock code).0))

  moves_there : (w : Lval) (u : Owned) → w.depth ≡ 0 → slice_get y.slots w.slot ≡ Some (value.Own u) → slice_get k.code y.pc ≡ Some (instr.Read w true) → Gives (ThereBy R k s) (does k.code k.options s (Step t))
  moves_there w u flat e code =
      let none = untaken (instr.Read w true) code (read_takes y.number y.phase w true) in
      let P : ℕ → Type 0 = λ j. j ≡ w.slot in
      gives_there (instr.Read w true) code none P (λ j q. subst (λ m. OwnsAlone k (at_slot y.number m)) (sym q) (given_alone k coherent s here t y at on (instr.Read w true) code w flat (written moves_out))) tt
      (subst (λ d. Gives (λ (d : Stepped). Yielded k.code sn hand none P d.hand) (prepared k.options.servers (instr.Read w true) (prepare (Some (read_or_taken w d true)) hand))) (sym flat)
      (subst (λ d. Gives (λ (d : Stepped). Yielded k.code sn hand none P d.hand) (prepared k.options.servers (instr.Read w true) (read_stars d hand (spot_slot w.slot)))) (sym flat)
      (yields_over k.code sn hand none P (read true (spot_slot w.slot) hand) (moved_out k.code sn hand none w.slot u e))))

  all_there : (i : Instr) → GivesOwned y i → slice_get k.code y.pc ≡ Some i → Gives (ThereBy R k s) (does k.code k.options s (Step t))
  all_there _ (drops u e) code = drops_there u e code
  all_there _ (drops_none e) code = empty_there e code
  all_there _ puts_back code = unlocks_there code
  all_there _ (moves w u flat e) code = moves_there w u flat e code

-- what goes on does so there
pub owned_go : {R : Cluster → Cluster → Type 0} → GoesOver R → (k : Cluster) (number t : ℕ) (s : Server) (y : ThreadState) (i : Instr) → IsCoherent k → FewEvents k → server_at k.servers number ≡ Some s → thread_in s.threads t ≡ Some y → slice_get k.code y.pc ≡ Some i → GivesOwned y i
    → Gives (λ (d : Cluster × EntryView). R k d.0) (apply k (record { server = number; what = Step t }))
owned_go {R = R} go k number t s y i coherent few here at code g =
    subst (λ n. server_at k.servers n ≡ Some s → Gives (λ (d : Cluster × EntryView). R k d.0) (apply k (record { server = n; what = Step t }))) (found_number number k.servers s here)
    (λ h. left_by go k s t coherent.sound few h (λ on. all_there k coherent s h t y at on go i g code)) here

-- so the words stay
pub owned_goes : OwnedGoes
owned_goes = owned_go words_go
