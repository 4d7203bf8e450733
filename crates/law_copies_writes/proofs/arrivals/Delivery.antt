-- The delivery of an object: where objects are settled with the thread put back, copies are right once messages are handed over. And where its pointer in a slot or in the hand gets its word, they are.
use Rattle.std.proofs.Common.{◌≡◌, ℕ, Bool, true, false, if◌then◌else◌, [], Option, Some, None, option_map, refl, sym, ap, subst}
use Rattle.std.proofs.lemmas.Bool.{eqb-true}
use Rattle.std.specs.Prelude.{slice_get, length, take, drop as drop_first}
use Rattle.law_words_ends.specs.Below.fr_base.declared.name.ObjNo.{ObjNo}
use Rattle.law_words_ends.specs.Below.heap_partition.declared.value.Cell.{Cell}
use Rattle.law_words_ends.specs.Below.owner_box.View.{PartitionState}
use Rattle.law_words_ends.specs.Below.owner_box.Partition.{new_word}
use Rattle.law_words_ends.specs.Below.journal.View.{EntryView}
use Rattle.law_words_ends.specs.Below.thread_state.View.{ThreadState}
use Rattle.law_words_ends.specs.Below.thread_state.declared.phase.Phase.{Phase}
use Rattle.law_words_ends.specs.Below.thread_state.declared.phase.Phase.TheVariants as phase
use Rattle.law_words_ends.specs.Below.server_msgs.declared.message.Message.TheVariants as message
use Rattle.law_words_ends.specs.Below.server_model.declared.event.Event.{Event}
use Rattle.law_words_ends.specs.Below.server_model.declared.event.What.{What}
use Rattle.law_words_ends.specs.Below.server_model.declared.event.What.TheVariants.{Deliver}
use Rattle.law_words_ends.specs.Below.server_model.Servers.{Server, Cluster, server_at}
use Rattle.law_words_ends.specs.Below.server_model.Work.{Hand, Site, put_back, thread_in, with_phase, then_some}
use Rattle.law_words_ends.specs.Below.server_model.NewWords.{NewWord, can_grow}
use Rattle.law_words_ends.specs.Below.server_model.Objects.{waits_for_cell, arrived, instr_access, came, deliver_moved}
use Rattle.law_words_ends.specs.Below.server_model.Events.{enabled, does, left_by, received, deliver, deliver_message}
use Rattle.law_words_ends.specs.Below.server_model.Clusters.{with_server, hand_over_newer, done_at, apply}
use Rattle.law_words_ends.specs.Below.coherent_memory.Things.{Location, in_cell, flies, things_of}
use Rattle.law_words_ends.specs.Below.coherent_memory.Follow.{cells_in}
use Rattle.law_words_ends.specs.Below.coherent_memory.Names.{Among}
use Rattle.law_words_ends.specs.Below.coherent_memory.Sight.{sight}
use Rattle.law_words_ends.specs.Below.coherent_memory.Words.{IsStale, HasWords}
use Rattle.law_words_ends.specs.Below.coherent_memory.Coherent.{IsSound}
use Rattle.law_words_ends.specs.Below.coherent_types.ClusterTypes.{IsCoherent}
use Rattle.law_words_ends.specs.Below.law_words_paths.words.Reworded.{HasPlaces, Reworded}
use Rattle.law_words_ends.specs.Below.law_words_paths.words.Soles.{IsOnly}
use Rattle.law_words_ends.specs.Below.law_words_paths.words.WordsAfter.{Rewrites}
use Rattle.law_words_ends.proofs.Below.law_words_paths.words.Standing.{flying}
use Rattle.law_words_ends.specs.Below.law_counts_sums.Laws.{Gives, GoTo, FewEvents}
use Rattle.law_words_ends.proofs.Below.law_counts_sums.Results.{over_gives, test_gives, both_give}
use Rattle.law_words_ends.proofs.Below.law_counts_sums.Applied.{go_with}
use Rattle.law_words_ends.proofs.Below.law_counts_sums.Bags.{body_things}
use Rattle.law_words_ends.proofs.Below.law_counts_sums.Sending.{each_event_sends}
use Rattle.law_words_ends.proofs.Below.law_words_kept.stays.Alike.{Alike, itself}
use Rattle.law_words_ends.proofs.Below.law_words_kept.stays.Servers.{held_if}
use Rattle.law_words_ends.proofs.Below.law_words_kept.stays.Sites.{HandAlike, handed_over}
use Rattle.law_words_ends.proofs.Below.law_words_kept.stays.Steps.{TakesNoneHere}
use Rattle.law_words_ends.proofs.Below.law_words_kept.stays.Threads.{slots_of, temps_of, thread_alike}
use Rattle.law_words_ends.proofs.Below.law_words_kept.prepared.Asking.{found_number}
use Rattle.law_words_ends.proofs.Below.law_words_kept.prepared.Hands.{put, places}
use Rattle.law_words_ends.proofs.Below.law_words_asked.writes.Passing.{Fits, hands_alike}
use Rattle.law_words_ends.proofs.Below.law_words_values.carried.Hands.{ThereBy}
use Rattle.law_copies_kept.proofs.copies.Clean.{all_goes, thing_cell}
use Rattle.law_copies_kept.proofs.references.Kept.{places_after}
use Rattle.law_copies_kept.specs.objects.Fresh.{LeavesRight}
use Rattle.law_copies_kept.proofs.objects.Turned.{none_idle, none_or_idle}
use Rattle.law_copies_kept.proofs.objects.Asks.{delivery_asks}
use Rattle.law_words_ends.proofs.Below.law_words_asked.awaited.Landing.{before, landed, begun_places, new, phase_ok}
use Rattle.law_copies_kept.proofs.hidden.Settled.{Settled, settled_on, settled_right}
use Rattle.law_copies_writes.proofs.arrivals.Flying.{flies_there}
use Rattle.law_copies_kept.proofs.hidden.Reworded.{NotAsked}
use Rattle.law_copies_writes.proofs.arrivals.Beyond.{lands_apart}

-- MESSAGES ARE HANDED OVER

module _ (k : Cluster) (s : Server) (a : What) (sound : IsSound k) (few : FewEvents k) (here : server_at k.servers s.rest.number ≡ Some s) where
  abbrev number : ℕ
  number = s.rest.number

  abbrev IsSettled : Cluster → Cluster → Type 0
  IsSettled y z = Settled k z sound.words.have_words

  abbrev Settles : Cluster × EntryView → Type 0
  Settles d = Settled k d.0 sound.words.have_words

  abbrev SettlesThere : Cluster × EntryView → Type 0
  SettlesThere d = HasPlaces d.0 → Settles d

  handed : (o : Option (Server × EntryView)) → Gives (ThereBy IsSettled k s) o → Gives (λ (r : Server × EntryView). GoTo (with_server k.servers number r.0) (drop_first (length s.rest.outbox) r.0.rest.outbox)) o
      → Gives SettlesThere (option_map (λ r. (record k { servers = hand_over_newer number (length s.rest.outbox) r.0 k.servers }, r.1)) o)
  handed None q g = tt
  handed (Some r) q g = λ places.
      let older = length s.rest.outbox in
      let mid : Cluster = record k { servers = with_server k.servers number r.0 } in
      let end : Cluster = record k { servers = hand_over_newer number older r.0 k.servers } in
      let alike : Alike k.code (things_of mid) (things_of end) = handed_over number older s r.0 k.servers here (go_with k.servers number r.0 (take older r.0.rest.outbox) (drop_first older r.0.rest.outbox) g) in
      settled_on k mid end q.1 places sound.words.have_words q.0 (all_goes.seen mid end q.1 places refl alike)

  pub event_settles : (enabled k.options s a ≡ true → Gives (ThereBy IsSettled k s) (does k.code k.options s a)) → Gives Settles (apply k (record { server = number; what = a }))
  event_settles f =
      both_give SettlesThere (λ (d : Cluster × EntryView). HasPlaces d.0) Settles (apply k (record { server = number; what = a }))
      (subst (λ o. Gives SettlesThere (then_some o (λ x. option_map (λ d. (record k { servers = hand_over_newer number (length x.rest.outbox) d.0 k.servers }, d.1)) (done_at k a x)))) (sym here)
      (handed (done_at k a s) (test_gives (ThereBy IsSettled k s) (enabled k.options s a) (does k.code k.options s a) f) (each_event_sends k (record { server = number; what = a }) sound few s here)))
      (places_after k (record { server = number; what = a }) sound few) (λ d q c. q c)

-- THE DELIVERY

waits_is : (p : Phase) (w : ℕ) → waits_for_cell p w ≡ true → p ≡ phase.WaitCell w
waits_is (phase.WaitCell v) w e = ap phase.WaitCell (eqb-true v w e)
waits_is _ w e = absurd (cc e)

module _ (k : Cluster) (coherent : IsCoherent k) (few : FewEvents k) (s : Server) (here : server_at k.servers s.rest.number ≡ Some s) (t : ℕ) (y : ThreadState) (at : thread_in s.threads t ≡ Some y) (i old : ℕ) (c : Cell) (message_there : slice_get s.rest.inbox i ≡ Some (message.Moved old c t)) where
  abbrev n : ℕ
  n = s.rest.number

  abbrev p : PartitionState
  p = s.rest.partition

  abbrev O : Hand → Type 0
  O = Fits k coherent s here t y at

  abbrev P : Hand → Cluster
  P = put k coherent s here t y at

  abbrev pub words : HasWords (sight k)
  words = coherent.sound.words.have_words

  abbrev begin : Hand
  begin = before k coherent few s here t y at i old c message_there

  abbrev h1 : Hand
  h1 = landed k coherent few s here t y at i old c message_there

  -- with the hand put back each object is settled
  abbrev pub Kept : Hand → Type 0
  Kept h = Settled k (P h) words × HasPlaces (P h)

  -- it is so where words see the same of two hands
  pub settled_alike : (h h2 : Hand) → O h → O h2 → HandAlike k.code n [] h h2 → Settled k (P h) words → Settled k (P h2) words
  settled_alike h h2 ok ok2 a q =
      let before_it = places k coherent s here t y at h ok in
      let after_it = places k coherent s here t y at h2 ok2 in
      settled_on k (P h) (P h2) before_it after_it words q (all_goes.seen (P h) (P h2) before_it after_it refl (hands_alike k coherent s here t y at h h2 ok ok2 a))

  -- its cell was under way
  pub its_cell : Among c (cells_in (things_of k))
  its_cell = thing_cell (things_of k) c (flies old c) (flying old) (flies_there k s n here i old c t message_there)

  module _ (waiting : y.phase ≡ phase.WaitCell old) (grows : can_grow p ≡ true) where
    abbrev nw : ℕ
    nw = new_word p

    -- the thread goes on
    pub got : (h : Hand) → O h → TakesNoneHere k.code h.thread → Settled k (P h) words → Kept (with_phase phase.Got h)
    got h ok untaken q =
        let h2 = with_phase phase.Got h in
        let ok2 : O h2 = phase_ok k coherent few s here t y at i old c message_there waiting grows phase.Got h ok in (
          settled_alike h h2 ok ok2 (record {
            number = refl;
            named = refl;
            thread = thread_alike {code = k.code} n n false false h.thread h2.thread [] [] (record { number = refl; taking = sym untaken; slots = λ m. refl; temps = λ m. refl }) (itself (slots_of n h.thread)) (itself (temps_of n h.thread)) (itself (held_if h.thread.gift));
            rest = itself (body_things n h.work.rest);
          }) q,
          places k coherent s here t y at h2 ok2,
        )

    -- the only pointer to the object gets its word
    pub rewrites_so : (h2 : Hand) (l : Location) → O h2 → IsOnly k l c.object → (IsStale (sight k) (Some l) → ⊥) → Reworded k (P h2) l c.object nw → Rewrites k (P h2) l c.object nw
    rewrites_so h2 l ok only fresh r =
        record { before = begun_places k coherent few s here t y at i old c message_there waiting grows; only = only; fresh = fresh; firsts = coherent.sound.words.first_at_holder; places = places k coherent s here t y at h2 ok; reworded = r }

    -- where it stands in no cell
    pub settles_apart : (h2 : Hand) (l : Location) → ((o : ObjNo) → in_cell o ≡ l → ⊥) → O h2 → IsOnly k l c.object → (IsStale (sight k) (Some l) → ⊥) → Reworded k (P h2) l c.object nw → NotAsked k words c.object → Settled k (P h2) words
    settles_apart h2 l apart ok only fresh r wanted =
        lands_apart k (P h2) words l c.object nw (rewrites_so h2 l ok only fresh r) (new k coherent few s here t y at i old c message_there waiting grows) wanted apart

  -- THE EVENT

  moved_so : (y.phase ≡ phase.WaitCell old → can_grow p ≡ true → Gives Kept (arrived (instr_access begin (slice_get k.code y.pc)) old (new_word p) h1)) → Gives Kept (deliver_moved k.code old c begin)
  moved_so go = by (waits_for_cell y.phase old) refl
    where
      lands_so : (b : Bool) → can_grow p ≡ b → y.phase ≡ phase.WaitCell old
          → Gives Kept (then_some (if b then Some (record { word = new_word p; work = h1.work }) else None) (λ (m : NewWord). arrived (instr_access begin (slice_get k.code y.pc)) old m.word (record begin { work = m.work })))
      lands_so false e waiting = tt
      lands_so true e waiting = go waiting e

      by : (b : Bool) → waits_for_cell y.phase old ≡ b → Gives Kept (if b then came k.code old c begin else None)
      by false e = tt
      by true e = lands_so (can_grow p) refl (waits_is y.phase old e)

  abbrev IsSettled_too : Cluster → Cluster → Type 0
  IsSettled_too a z = Settled k z words

  abbrev Q : Site → Type 0
  Q x = ThereBy IsSettled_too k s (left_by s.events None None x)

  server_so : (y.phase ≡ phase.WaitCell old → can_grow p ≡ true → Gives Kept (arrived (instr_access begin (slice_get k.code y.pc)) old (new_word p) h1)) → Gives (ThereBy IsSettled_too k s) (does k.code k.options s (Deliver i))
  server_so go =
      over_gives Q (ThereBy IsSettled_too k s) (deliver k.code i s) (left_by s.events None None)
      (subst (λ o. Gives Q (then_some o (λ m. deliver_message k.code m (received i s)))) (sym message_there)
      (subst (λ r. Gives Q (then_some (option_map (λ v. record { work = (received i s).work; thread = v }) r) (λ h. option_map (put_back s.threads) (deliver_moved k.code old c h)))) (sym at)
      (over_gives Kept Q (deliver_moved k.code old c begin) (put_back s.threads) (moved_so go) (λ h q. q)))) (λ x q. q)

-- IN ITS CLUSTER

-- so copies are right, where objects are settled with what is put where the thread waits
pub delivered : (k : Cluster) (number i old t : ℕ) (s : Server) (c : Cell) (y : ThreadState) (coherent : IsCoherent k) (few : FewEvents k) (here : server_at k.servers number ≡ Some s) (message_there : slice_get s.rest.inbox i ≡ Some (message.Moved old c t)) (at : thread_in s.threads t ≡ Some y)
    → ((h : server_at k.servers s.rest.number ≡ Some s) → y.phase ≡ phase.WaitCell old → can_grow s.rest.partition ≡ true
    → Gives (Kept k coherent few s h t y at i old c message_there) (arrived (instr_access (before k coherent few s h t y at i old c message_there) (slice_get k.code y.pc)) old (new_word s.rest.partition) (landed k coherent few s h t y at i old c message_there)))
    → LeavesRight k (record { server = number; what = Deliver i })
delivered k number i old t s c y coherent few here message_there at go =
    subst (λ n. server_at k.servers n ≡ Some s → LeavesRight k (record { server = n; what = Deliver i })) (found_number number k.servers s here)
    (λ h.
    let e : Event = record { server = s.rest.number; what = Deliver i } in
    settled_right k e coherent.sound few (event_settles k s (Deliver i) coherent.sound few h (λ on. server_so k coherent few s h t y at i old c message_there (go h)))
    (delivery_asks (none_or_idle k) k e i refl coherent.sound few (none_idle k coherent.sound))) here
