-- An object lands at its server, and its pointer gets the word that leads there: in a slot of the thread that waits for it, or in a cell here.
use Rattle.std.proofs.Common.{◌≡◌, inl, inr, ℕ, ◌+◌, ◌<◌, ◌^◌, Bool, true, false, if◌then◌else◌, List, [], ◌∷◌, ◌++◌, Option, Some, None, option_map, refl, sym, ap, subst, ◌∙◌, arith}
use Rattle.std.specs.Prelude.{⊤, slice_get, slice_index_or}
use Rattle.std.proofs.lemmas.Bool.{eqb-true}
use Rattle.law_words_asked.specs.Below.global_addr.Words.{server_of, address_of}
use Rattle.law_words_asked.specs.Below.heap_partition.declared.value.BoxPtr.{BoxPtr}
use Rattle.law_words_asked.specs.Below.heap_partition.declared.value.Cell.{Cell}
use Rattle.law_words_asked.specs.Below.heap_partition.declared.value.Owned.TheVariants as owned
use Rattle.law_words_asked.specs.Below.mut_borrow.declared.mutable.MutRef.{MutRef}
use Rattle.law_words_asked.specs.Below.owner_box.View.{PartitionState}
use Rattle.law_words_asked.specs.Below.owner_box.Partition.{cell_of, made, new_word, next_place}
use Rattle.law_words_asked.proofs.Below.owner_box.Issued.{packed}
use Rattle.law_words_asked.specs.Below.journal.View.{EntryView}
use Rattle.law_words_asked.specs.Below.journal.declared.act.Act.TheVariants as act
use Rattle.law_words_asked.specs.Below.thread_state.View.{ThreadState, is_over}
use Rattle.law_words_asked.specs.Below.thread_state.declared.phase.Phase.{Phase}
use Rattle.law_words_asked.specs.Below.thread_state.declared.phase.Phase.TheVariants as phase
use Rattle.law_words_asked.specs.Below.thread_state.declared.value.Value.{Value}
use Rattle.law_words_asked.specs.Below.thread_state.declared.value.Value.TheVariants as value
use Rattle.law_words_asked.specs.Below.server_msgs.declared.message.Message.TheVariants as message
use Rattle.law_words_asked.specs.Below.server_model.declared.event.What.TheVariants.{Deliver}
use Rattle.law_words_asked.specs.Below.server_model.Servers.{Server, Cluster, server_at}
use Rattle.law_words_asked.specs.Below.server_model.Work.{Hand, Site, look, note, put_back, thread_in, without_thread, with_partition, with_phase, then_some}
use Rattle.law_words_asked.specs.Below.server_model.Clusters.{apply}
use Rattle.law_words_asked.specs.Below.server_model.NewWords.{NewWord, can_grow}
use Rattle.law_words_asked.specs.Below.server_model.Places.{Spot, in_slot, in_cell, pointer_of, set_pointer}
use Rattle.law_words_asked.specs.Below.server_model.Objects.{waits_for_cell, arrived, instr_access, came, deliver_moved}
use Rattle.law_words_asked.specs.Below.server_model.Events.{does, left_by, received, deliver, deliver_message}
use Rattle.law_words_asked.specs.Below.coherent_memory.Things.{Location, at_slot, in_cell as in_object, borrows, Thing, flies, server_things, servers_things, things_of}
use Rattle.law_words_asked.specs.Below.coherent_memory.Follow.{Standing, Ground, value_in}
use Rattle.law_words_asked.specs.Below.coherent_memory.Sight.{sight, issued}
use Rattle.law_words_asked.specs.Below.coherent_memory.Words.{IsStale}
use Rattle.law_words_asked.specs.Below.coherent_types.ClusterTypes.{IsCoherent}
use Rattle.law_words_asked.specs.Below.law_counts_sums.Laws.{Gives, FewEvents}
use Rattle.law_words_asked.specs.Below.law_counts_sums.Sums.{Sums}
use Rattle.law_words_asked.proofs.Below.law_counts_sums.Bags.{HandOk, all_standing, body_things}
use Rattle.law_words_asked.proofs.Below.law_counts_sums.Chains.{takes, hand_front, phase_changes}
use Rattle.law_words_asked.proofs.Below.law_counts_sums.Events.{others_of, receives_site, tot-server}
use Rattle.law_words_asked.proofs.Below.law_counts_sums.Messages.{site_receives}
use Rattle.law_words_asked.proofs.Below.law_counts_sums.ObjectMessages.{issues_placed}
use Rattle.law_words_asked.proofs.Below.law_counts_sums.Pointers.{sets_pointer}
use Rattle.law_words_asked.proofs.Below.law_counts_sums.Results.{given_by, over_gives}
use Rattle.law_words_asked.proofs.Below.law_counts_sums.RulesKeep.{sums_kept}
use Rattle.law_words_asked.proofs.Below.law_counts_sums.Sound.{sound_has_sums}
use Rattle.law_words_asked.proofs.Below.law_counts_sums.ThreadThere.{thread_there}
use Rattle.law_words_asked.proofs.Below.law_counts_sums.Trades.{tot-append}
use Rattle.law_words_asked.specs.Below.law_words_paths.paths.HeapStore.{GoesOn, HasPaths}
use Rattle.law_words_asked.proofs.Below.law_words_paths.paths.Alike.{coherent_has_paths}
use Rattle.law_words_asked.proofs.Below.law_words_paths.paths.Contained.{among_thread}
use Rattle.law_words_asked.proofs.Below.law_words_paths.paths.Shown.{stands_there}
use Rattle.law_words_asked.specs.Below.law_words_paths.words.PutBack.{LeadsHome}
use Rattle.law_words_asked.specs.Below.law_words_paths.words.Reworded.{HasPlaces, Reworded}
use Rattle.law_words_asked.specs.Below.law_words_paths.words.Soles.{IsSole, IsOnly}
use Rattle.law_words_asked.specs.Below.law_words_paths.words.Unmoved.{taking_by}
use Rattle.law_words_asked.specs.Below.law_words_paths.words.WordsAfter.{Rewrites, KeepsWords}
use Rattle.law_words_asked.proofs.Below.law_words_paths.words.NewWord.{new_words_go_on}
use Rattle.law_words_asked.proofs.Below.law_words_paths.words.Past.{first_issued}
use Rattle.law_words_asked.proofs.Below.law_words_paths.words.Standing.{slot_among}
use Rattle.law_words_asked.proofs.Below.law_words_kept.moves.Relaid.{put_here}
use Rattle.law_words_asked.proofs.Below.law_words_kept.stays.Alike.{itself}
use Rattle.law_words_asked.proofs.Below.law_words_kept.stays.Servers.{held_if}
use Rattle.law_words_asked.proofs.Below.law_words_kept.stays.Steps.{TakesNoneHere}
use Rattle.law_words_asked.proofs.Below.law_words_kept.stays.Threads.{slots_of, temps_of, thread_alike}
use Rattle.law_words_asked.specs.Below.law_words_kept.prepared.Requests.{WordsRise}
use Rattle.law_words_asked.proofs.Below.law_words_kept.prepared.Rising.{rise_changed}
use Rattle.law_words_asked.proofs.Below.law_words_kept.prepared.Asking.{found_number}
use Rattle.law_words_asked.proofs.Below.law_words_kept.prepared.Hands.{put, places}
use Rattle.law_words_asked.proofs.Below.law_results_reads.Pointing.{its_partition}
use Rattle.law_words_asked.proofs.Below.law_results_events.writes.Memory.{Sane}
use Rattle.law_words_asked.proofs.Below.law_results_events.writes.Routes.{sane_at, roomy_at}
use Rattle.law_words_asked.proofs.writes.Onward.{Onward, onward_itself, onward_so, no_first, holds_alike}
use Rattle.law_words_asked.proofs.writes.Later.{later_itself, next_unissued, place_vacant}
use Rattle.law_words_asked.proofs.writes.Passing.{Fits, hands_alike}
use Rattle.law_words_asked.proofs.writes.Hops.{home_under}
use Rattle.law_words_asked.proofs.writes.Asking.{There, kept_at}
use Rattle.law_words_asked.specs.arrivals.Arrivals.{Arrival}
use Rattle.law_words_asked.specs.arrivals.Awaited.{Awaits}
use Rattle.law_words_asked.proofs.arrivals.Arrived.{arrivals_reword}
use Rattle.law_words_asked.proofs.arrivals.Awaited.{arrivals_awaited}

waits_is : (p : Phase) (w : ℕ) → waits_for_cell p w ≡ true → p ≡ phase.WaitCell w
waits_is (phase.WaitCell v) w e = ap phase.WaitCell (eqb-true v w e)
waits_is _ w e = absurd (cc e)

-- THE DELIVERY

module _ (k : Cluster) (coherent : IsCoherent k) (few : FewEvents k) (s : Server) (here : server_at k.servers s.rest.number ≡ Some s) (t : ℕ) (y : ThreadState) (at : thread_in s.threads t ≡ Some y) (i old : ℕ) (c : Cell) (message_there : slice_get s.rest.inbox i ≡ Some (message.Moved old c t)) where
  abbrev n : ℕ
  n = s.rest.number

  abbrev others_there : List Thing
  others_there = servers_things (others_of k.servers n)

  abbrev standing_there : List Thing
  standing_there = all_standing n (without_thread s.threads t)

  abbrev O : Hand → Type 0
  O = Fits k coherent s here t y at

  abbrev P : Hand → Cluster
  P = put k coherent s here t y at

  abbrev p : PartitionState
  p = s.rest.partition

  abbrev pub before : Hand
  before = record { work = (received i s).work; thread = y }

  -- the object lies there
  abbrev pub landed : Hand
  landed = record { work = note (act.Take c.object old (new_word p)) (with_partition (made p c) before.work); thread = y }

  pub sane : Sane p
  sane = sane_at k coherent few n s here

  within : (next_place p).0 < 2 ^ 40
  within = let r = roomy_at k coherent few n s here in let v = (place_vacant p sane).within in omega (arith, r, v)

  parts : ⊤ → (server_of (new_word p) ≡ n) × (address_of (new_word p) ≡ (next_place p).0)
  parts u = let q = packed (next_place p).1 p.server (next_place p).0 sane.small within in (q.1 ∙ (its_partition k coherent.sound n s here).0, q.2)

  -- THE SUMS

  begun : HandOk Sums n s.events t (flies old c ∷ (standing_there ++ others_there)) before
  begun =
      let sums : Sums (server_things s ++ others_there) = sums_kept.same (things_of k) (server_things s ++ others_there) (λ f. omega (arith, (tot-server f k.servers n s s here).0, tot-append f (server_things s) others_there)) (sound_has_sums k coherent.sound) in
      let site = receives_site sums_kept others_there s i (message.Moved old c t) message_there sums in
      let left = site_receives sums_kept n s.events others_there (flies old c ∷ others_there) (message.Moved old c t) (received i s) refl site in
      hand_front sums_kept n s.events t standing_there others_there (flies old c) before (takes sums_kept n s.events (flies old c ∷ others_there) t (received i s) y at left)

  landed_so : can_grow p ≡ true → O landed
  landed_so grows =
      subst (λ b. Gives (λ (m : NewWord). O (record before { work = m.work })) (if b then Some (record { word = new_word p; work = landed.work }) else None)) grows
      (issues_placed sums_kept n s.events t (standing_there ++ others_there) (act.Take c.object old) old c before begun)

  -- nothing is known of it but that the words hold
  abbrev pub Kept : Hand → Type 0
  Kept h = WordsRise k (P h) × HasPlaces (P h)

  -- WHAT IT WAITS FOR

  module _ (waiting : y.phase ≡ phase.WaitCell old) (grows : can_grow p ≡ true) where
    abbrev pub me : Standing
    me = record { server = n; packed = false; thread = y }

    abbrev g : Ground
    g = (sight k).ground

    pub paths : HasPaths k
    paths = coherent_has_paths k coherent

    pub on : GoesOn k me
    on = record { among = (among_thread g.threads t me (thread_there k coherent.sound n s here t y at)).0; going = ap is_over waiting }

    pub awaits : Awaits k me old c
    awaits = arrivals_awaited k n i old t s c y coherent.sound here message_there at waiting

    pub new : issued (sight k) (new_word p) ≡ false
    new = next_unissued k coherent.sound n s here p (later_itself p) sane.small within

    pub landed_ok : O landed
    landed_ok = landed_so grows

    pub begun_places : HasPlaces k
    begun_places = record { numbers_differ = coherent.sound.names.numbers_differ; home_of_each = coherent.sound.one_home.home_of_each; owner_of_each = coherent.sound.one_owner.owner_of_each }

    pub arrival : Arrival k s i old t (s.events + 1) c landed
    arrival = record {
      here = here;
      message = message_there;
      at = at;
      named = landed_ok.thread;
      rest = refl;
      room = place_vacant p sane;
      before = begun_places;
      came = places k coherent s here t y at landed landed_ok;
    }

    lands : cell_of (made p c) (new_word p) ≡ Some c
    lands = ap (λ a. slice_index_or (made p c).cells a None) (parts tt).1 ∙ put_here p.cells (next_place p).0 c (place_vacant p sane).within

    pub home : LeadsHome (P landed) (record { word = new_word p; object = c.object })
    home = home_under k coherent s here t y at landed landed_ok (new_word p) c c.object refl lands (parts tt).0

    -- a slot of the thread has what it had
    pub slot_there : (m : ℕ) (v : Value) → value_in g (at_slot y.number m) ≡ Some v → slice_get y.slots m ≡ Some v
    slot_there m v stands = sym (ap (λ o. Rattle.law_words_asked.specs.Below.coherent_memory.Follow.slot_of o m) (stands_there k paths me on)) ∙ stands

    pub slot_stands : (m : ℕ) (v : Value) → slice_get y.slots m ≡ Some v → value_in g (at_slot y.number m) ≡ Some v
    slot_stands m v e = ap (λ o. Rattle.law_words_asked.specs.Below.coherent_memory.Follow.slot_of o m) (stands_there k paths me on) ∙ e

    -- no reference has the word as its first one
    no_first_one : (m : ℕ) (r : MutRef) → slice_get y.slots m ≡ Some (value.Mut r) → new_word p ≡ r.first → ⊥
    no_first_one m r e f =
        let was = first_issued k coherent.sound.words.are_issued (at_slot y.number m) r (slot_among k y.number m (value.Mut r) (slot_stands m (value.Mut r) e) (borrows (at_slot y.number m) r) (λ q. inl refl)) in
        let no : true ≡ false = sym was ∙ ap (issued (sight k)) (sym f) ∙ new in
        absurd (cc no)

    -- THE POINTER HAS IT

    pub set_ok : (h2 : Hand) (sp : Spot) → set_pointer sp (new_word p) landed ≡ Some h2 → O h2
    set_ok h2 sp set = given_by O (set_pointer sp (new_word p) landed) h2 (sets_pointer sums_kept n s.events t (standing_there ++ others_there) sp (new_word p) landed landed_ok) set

    pub in_a_slot : (m : ℕ) (v : Value) (b : BoxPtr) (h2 : Hand) → slice_get y.slots m ≡ Some v → pointer_of v ≡ Some b → b.object ≡ c.object → set_pointer (in_slot m) (new_word p) landed ≡ Some h2 → Reworded k (P h2) (at_slot y.number m) c.object (new_word p)
    in_a_slot m v b h2 there is same set =
        arrivals_reword.slot k s i old t (s.events + 1) c landed h2 m v b arrival home there is same set (places k coherent s here t y at h2 (set_ok h2 (in_slot m) set))
        (λ r e. no_first_one m r (there ∙ ap (λ u. Some u) e))

    pub in_a_cell : (w : ℕ) (d : Cell) (b : BoxPtr) (h2 : Hand) → look landed.work.rest.partition w ≡ Some d → d.value ≡ owned.Box b → b.object ≡ c.object → set_pointer (in_cell w None) (new_word p) landed ≡ Some h2
        → Reworded k (P h2) (in_object d.object) c.object (new_word p)
    in_a_cell w d b h2 there boxed same set =
        arrivals_reword.in_cells k s i old t (s.events + 1) c landed h2 w d b arrival home there boxed same set (places k coherent s here t y at h2 (set_ok h2 (in_cell w None) set))

    -- the pointer through which the object is written
    pub sole_gets : (h2 : Hand) (l : Location) → O h2 → IsSole k l c.object → (IsStale (sight k) (Some l) → ⊥) → Reworded k (P h2) l c.object (new_word p) → Onward k (P h2)
    sole_gets h2 l ok sole fresh r =
        onward_so k k (P h2) l c.object (new_word p) begun_places begun_places (places k coherent s here t y at h2 ok) (onward_itself k coherent.sound) sole fresh (inr new)
        (no_first k k (new_word p) c.object coherent.sound.words.are_issued new begun_places (onward_itself k coherent.sound)) r

    -- or whatever pointer is the only one to it
    pub only_gets : (h2 : Hand) (l : Location) → O h2 → IsOnly k l c.object → (IsStale (sight k) (Some l) → ⊥) → Reworded k (P h2) l c.object (new_word p) → WordsRise k (P h2)
    only_gets h2 l ok only fresh r =
        let rewrites : Rewrites k (P h2) l c.object (new_word p) = record { before = begun_places; only = only; fresh = fresh; firsts = coherent.sound.words.first_at_holder; places = places k coherent s here t y at h2 ok; reworded = r } in
        let keeps : KeepsWords k (P h2) c.object (new_word p) coherent.sound.words.have_words = new_words_go_on k (P h2) l c.object (new_word p) rewrites coherent.sound.words.are_issued new coherent.sound.words.have_words in
        rise_changed k k (P h2) c.object (new_word p)
        (record { has_words = coherent.sound.words.have_words; first_at_holder = coherent.sound.words.first_at_holder; dirty_alone = coherent.sound.words.dirty_alone; past_words = coherent.sound.words.past_words; began = coherent.sound.words.have_words; rises = λ o. inl refl })
        keeps.words (inr new) keeps.holders (keeps.dirty coherent.sound.words.dirty_alone) (keeps.past coherent.sound.words.past_words)

    -- IT GOES ON

    pub phase_ok : (q : Phase) (h : Hand) → O h → O (with_phase q h)
    phase_ok q h ok = phase_changes sums_kept n s.events t (standing_there ++ others_there) q h ok

    -- a thread that waits for a cell has taken nothing
    pub untaken : TakesNoneHere k.code y
    untaken = subst (λ q. taking_by y.number q (slice_get k.code y.pc) ≡ None) (sym waiting) refl

    pub got : (h : Hand) → O h → TakesNoneHere k.code h.thread → WordsRise k (P h) → Kept (with_phase phase.Got h)
    got h ok untaken words =
        let h2 = with_phase phase.Got h in
        let ok2 : O h2 = phase_ok phase.Got h ok in (
          holds_alike (P h) (P h2) (places k coherent s here t y at h ok) (places k coherent s here t y at h2 ok2) refl
              (hands_alike k coherent s here t y at h h2 ok ok2 (record {
                number = refl;
                named = refl;
                thread = thread_alike {code = k.code} n n false false h.thread h2.thread [] [] (record { number = refl; taking = sym untaken; slots = λ m. refl; temps = λ m. refl }) (itself (slots_of n h.thread)) (itself (temps_of n h.thread)) (itself (held_if h.thread.gift));
                rest = itself (body_things n h.work.rest);
              })) words,
          places k coherent s here t y at h2 ok2,
        )

  -- THE EVENT

  moved_so : (y.phase ≡ phase.WaitCell old → can_grow p ≡ true → Gives Kept (arrived (instr_access before (slice_get k.code y.pc)) old (new_word p) landed)) → Gives Kept (deliver_moved k.code old c before)
  moved_so go = by (waits_for_cell y.phase old) refl
    where
      lands_so : (b : Bool) → can_grow p ≡ b → y.phase ≡ phase.WaitCell old
          → Gives Kept (then_some (if b then Some (record { word = new_word p; work = landed.work }) else None) (λ (m : NewWord). arrived (instr_access before (slice_get k.code y.pc)) old m.word (record before { work = m.work })))
      lands_so false e waiting = tt
      lands_so true e waiting = go waiting e

      by : (b : Bool) → waits_for_cell y.phase old ≡ b → Gives Kept (if b then came k.code old c before else None)
      by false e = tt
      by true e = lands_so (can_grow p) refl (waits_is y.phase old e)

  abbrev Q : Site → Type 0
  Q x = There (λ v. ⊤) k s (left_by s.events None None x)

  pub server_so : (y.phase ≡ phase.WaitCell old → can_grow p ≡ true → Gives Kept (arrived (instr_access before (slice_get k.code y.pc)) old (new_word p) landed)) → Gives (There (λ v. ⊤) k s) (does k.code k.options s (Deliver i))
  server_so go =
      over_gives Q (There (λ v. ⊤) k s) (deliver k.code i s) (left_by s.events None None)
      (subst (λ o. Gives Q (then_some o (λ m. deliver_message k.code m (received i s)))) (sym message_there)
      (subst (λ r. Gives Q (then_some (option_map (λ v. record { work = (received i s).work; thread = v }) r) (λ h. option_map (put_back s.threads) (deliver_moved k.code old c h)))) (sym at)
      (over_gives Kept Q (deliver_moved k.code old c before) (put_back s.threads) (moved_so go) (λ h q u. (q.0, q.1))))) (λ x q. q)

-- IN ITS CLUSTER

gives_all : {X : Type 0} (Q : X → Type 0) (x : Option X) → Gives (λ a. ⊤ → Q a) x → Gives Q x
gives_all Q None g = tt
gives_all Q (Some a) g = g tt

-- so the words hold, where they do with what is put where the thread waits
pub delivered : (k : Cluster) (number i old t : ℕ) (s : Server) (c : Cell) (y : ThreadState) (coherent : IsCoherent k) (few : FewEvents k) (here : server_at k.servers number ≡ Some s) (message_there : slice_get s.rest.inbox i ≡ Some (message.Moved old c t)) (at : thread_in s.threads t ≡ Some y)
    → ((h : server_at k.servers s.rest.number ≡ Some s) → y.phase ≡ phase.WaitCell old → can_grow s.rest.partition ≡ true
    → Gives (Kept k coherent few s h t y at i old c message_there) (arrived (instr_access (before k coherent few s h t y at i old c message_there) (slice_get k.code y.pc)) old (new_word s.rest.partition) (landed k coherent few s h t y at i old c message_there)))
    → Gives (λ (x : Cluster × EntryView). WordsRise k x.0) (apply k (record { server = number; what = Deliver i }))
delivered k number i old t s c y coherent few here message_there at go =
    subst (λ n. server_at k.servers n ≡ Some s → Gives (λ (x : Cluster × EntryView). WordsRise k x.0) (apply k (record { server = n; what = Deliver i }))) (found_number number k.servers s here)
    (λ h. gives_all (λ (x : Cluster × EntryView). WordsRise k x.0) (apply k (record { server = s.rest.number; what = Deliver i })) (kept_at k s (Deliver i) (λ v. ⊤) coherent few h (λ on. server_so k coherent few s h t y at i old c message_there (go h)))) here
