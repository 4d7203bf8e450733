-- Mutable borrows through stars that are done, where each reference that is made leaves the words.
use Rattle.std.proofs.Common.{◌≡◌, ◌⊎◌, inl, inr, ℕ, suc, ◌+◌, Bool, true, false, if◌then◌else◌, List, [], ◌∷◌, ◌++◌, Option, Some, None, option_map, refl, sym, ap, subst, ◌∙◌, arith}
use Rattle.std.specs.Prelude.{slice_get}
use Rattle.law_copies_kept.specs.Below.fr_base.declared.place.Lval.{Lval}
use Rattle.law_copies_kept.specs.Below.fr_base.declared.instruction.Instr.{Instr}
use Rattle.law_copies_kept.specs.Below.fr_base.declared.instruction.Instr.TheVariants as instr
use Rattle.law_copies_kept.specs.Below.heap_partition.declared.value.BoxPtr.{BoxPtr}
use Rattle.law_copies_kept.specs.Below.place_walk.declared.hop.Hop.{Hop}
use Rattle.law_copies_kept.specs.Below.place_walk.declared.hop.Hop.TheVariants as hop
use Rattle.law_copies_kept.specs.Below.place_walk.Hops.{write_hop}
use Rattle.law_copies_kept.specs.Below.thread_state.View.{ThreadState}
use Rattle.law_copies_kept.specs.Below.thread_state.declared.value.Value.{Value}
use Rattle.law_copies_kept.specs.Below.server_model.declared.event.Event.{Event}
use Rattle.law_copies_kept.specs.Below.server_model.declared.event.What.TheVariants.{Step}
use Rattle.law_copies_kept.specs.Below.server_model.Servers.{Server, Cluster, server_at}
use Rattle.law_copies_kept.specs.Below.server_model.Work.{Hand, push_temp, thread_in, set_thread, without_thread, put_back, then_some}
use Rattle.law_copies_kept.specs.Below.server_model.Places.{Spot, in_slot, value_at, load_at, pointer_of}
use Rattle.law_copies_kept.specs.Below.server_model.Prepare.{Prepared, ready, requested, nothing, and_then, ask_object, request_by, read_stars, is_taken, lend_by, lend_value, lend_pointer}
use Rattle.law_copies_kept.specs.Below.server_model.Commit.{go_on, goes_on, mutable_from, borrow_mut_from, borrow_mut}
use Rattle.law_copies_kept.specs.Below.server_model.Events.{enabled, begin_work, begin_at, Stepped, committed, prepared, step}
use Rattle.law_copies_kept.specs.Below.coherent_memory.Things.{Location, Thing, servers_things, things_of}
use Rattle.law_copies_kept.specs.Below.coherent_memory.Follow.{Ground, locate}
use Rattle.law_copies_kept.specs.Below.coherent_memory.Sight.{sight}
use Rattle.law_copies_kept.specs.Below.coherent_types.ClusterTypes.{IsCoherent}
use Rattle.law_copies_kept.specs.Below.law_words_paths.words.Reworded.{HasPlaces}
use Rattle.law_copies_kept.specs.Below.law_words_paths.words.Unmoved.{LeavesWords}
use Rattle.law_copies_kept.proofs.Below.law_words_paths.words.Follows.{seen_places_lead}
use Rattle.law_copies_kept.specs.Below.law_counts_sums.Laws.{Gives, FewEvents}
use Rattle.law_copies_kept.proofs.Below.law_counts_sums.Results.{both_give}
use Rattle.law_copies_kept.proofs.Below.law_counts_sums.Bags.{all_standing}
use Rattle.law_copies_kept.proofs.Below.law_counts_sums.Events.{others_of}
use Rattle.law_copies_kept.specs.Below.law_words_kept.reads.Reading.{Reads, lends}
use Rattle.law_copies_kept.proofs.Below.law_words_kept.stays.Sites.{HandAlike, put_alike, begun_alike, servers_alike}
use Rattle.law_copies_kept.proofs.Below.law_words_borrows.Below.law_heap_steps.turns.ReadWalk.{value_loaded}
use Rattle.law_copies_kept.proofs.Below.law_words_kept.prepared.Hands.{Ok, Walks, put, places}
use Rattle.law_copies_kept.proofs.Below.law_words_kept.prepared.Stars.{Spotted, walks_loaded}
use Rattle.law_entries_variables.specs.Below.coloured_heap.Heap.{Coloured}
use Rattle.law_copies_kept.specs.Below.coherent_memory.Colours.{StandsColoured}
use Rattle.law_copies_kept.proofs.Below.law_counts_sums.AllSteps.{commits}
use Rattle.law_copies_kept.proofs.Below.law_counts_sums.GiftsTaken.{gift_fits as gift_is_none}
use Rattle.law_copies_kept.proofs.Below.law_counts_sums.RulesKeep.{sums_kept}
use Rattle.law_copies_kept.proofs.Below.law_counts_sums.Commits.{CommittedOk}
use Rattle.law_copies_kept.proofs.Below.law_counts_sums.Steps.{SteppedOk, committed_keeps}
use Rattle.law_copies_kept.proofs.Below.law_words_paths.words.Unmoved.{untouched_stays}
use Rattle.law_copies_kept.proofs.Below.law_words_kept.stays.Alike.{Alike, turned}
use Rattle.law_copies_kept.proofs.Below.law_words_kept.stays.Seen.{seen_alike}
use Rattle.law_copies_kept.proofs.Below.law_words_values.carried.Hands.{leaves_chain}
use Rattle.law_copies_kept.proofs.Below.law_words_borrows.Sources as sources
use Rattle.law_copies_kept.proofs.Below.law_words_borrows.Pushed.{hands_alike}
use Rattle.law_entries_reads.proofs.places.Still.{Still, still_loads, Walked, Reaches}
use Rattle.law_entries_reads.proofs.places.Walk.{stars_reached}
use Rattle.law_entries_reads.proofs.places.Done.{Kept, Left, done_from}
use Rattle.law_entries_reads.proofs.places.Words.{walk_unseen}
use Rattle.law_entries_reads.proofs.places.Steps.{sound_places, Ends as EventEnds}
use Rattle.law_entries_reads.proofs.places.Following.{kept_as}

module _ (k : Cluster) (coherent : IsCoherent k) (few : FewEvents k) (s : Server) (here : server_at k.servers s.rest.number ≡ Some s) (t : ℕ) (y : ThreadState) (at : thread_in s.threads t ≡ Some y)
    (on : enabled k.options s (Step t) ≡ true) (w : Lval) (m : ℕ) (deep : w.depth ≡ suc m) (code : slice_get k.code y.pc ≡ Some (instr.BorrowMut w)) (c0 : Coloured) (is_coloured : StandsColoured k c0) where
  abbrev n : ℕ
  n = s.rest.number

  abbrev i : Instr
  i = instr.BorrowMut w

  abbrev reads : Reads i w m
  reads = lends deep

  abbrev g : Ground
  g = (sight k).ground

  abbrev pub W : Hand → Type 0
  W = Walks k coherent s here t y at

  abbrev pub IsOk : Hand → Type 0
  IsOk = Ok k coherent s here t y at

  abbrev pub Put : Hand → Cluster
  Put = put k coherent s here t y at

  abbrev h0 : Hand
  h0 = record { work = begin_work s.rest; thread = y }

  abbrev b : List Thing
  b = all_standing n (without_thread s.threads t) ++ servers_things (others_of k.servers n)

  abbrev e0 : Event
  e0 = record { server = n; what = Step t }

  abbrev pub holder : Lval
  holder = record w { depth = m }

  abbrev Came : Prepared → Type 0
  Came = sources.Came k coherent s here t y at on i code w m reads deep

  abbrev Followed : Prepared → Type 0
  Followed = sources.Followed k coherent s here t y at on i code w m reads deep

  abbrev AtSpot : Hand → Spot → Type 0
  AtSpot = sources.AtSpot k coherent s here t y at on i code w m reads deep

  abbrev pub Source : Hand → Value → Type 0
  Source = sources.Source k coherent s here t y at on i code w m reads deep

  abbrev pub IsNone : Value → Type 0
  IsNone = sources.IsNone k coherent s here t y at on i code w m reads deep

  abbrev End : Stepped → Type 0
  End = EventEnds k coherent.sound few n t s y i here at code c0 is_coloured

  -- no gift is for it
  bare : y.gift ≡ None
  bare = (gift_is_none k coherent.sound n s here t y at i code).0

  -- the hand's cluster has places
  pub placed : (h : Hand) → IsOk h → HasPlaces (Put h)
  placed h q = places k coherent s here t y at h q

  -- WORDS

  -- as words see the same of its hand, they are left
  put_leaves : (h : Hand) → IsOk h → HandAlike k.code n [] h0 h → LeavesWords k (Put h)
  put_leaves h q a =
      let like : Alike k.code (things_of k) (things_of (Put h)) = servers_alike n k.servers s (record { rest = h.work.rest; threads = set_thread s.threads h.thread; events = s.events + 1 }) here (begun_alike s s.events None None (put_back s.threads h) (put_alike k.code [] t (begin_at s) y at h a)) in
      untouched_stays k (Put h) (sound_places k coherent.sound) (placed h q) (seen_alike k (Put h) (sound_places k coherent.sound) (placed h q) refl like)

  -- a hand that leaves the words, of which words see the same in the hand that is left
  pub record Middle (h2 : Hand) : Type 0 where
    pub middle : Hand
    pub ok : IsOk middle
    pub words : LeavesWords k (Put middle)
    pub alike : HandAlike k.code n [] middle h2

  -- so they are left
  middle_words : (d : Stepped) → IsOk d.hand → Middle d.hand → (c : Cluster) → HasPlaces c → c.code ≡ k.code → Alike k.code (things_of (Put d.hand)) (things_of c) → LeavesWords k c
  middle_words d ok q c places same alike =
      leaves_chain q.words
      (leaves_chain (untouched_stays (Put q.middle) (Put d.hand) (placed q.middle q.ok) (placed d.hand ok) (seen_alike (Put q.middle) (Put d.hand) (placed q.middle q.ok) (placed d.hand ok) refl (turned (hands_alike k coherent s here t y at [] q.middle d.hand q.ok ok q.alike))))
      (untouched_stays (Put d.hand) c (placed d.hand ok) places (seen_alike (Put d.hand) c (placed d.hand ok) places same alike)))

  -- THE BORROW

  -- a hand from which a reference is made
  pub record Lends (h : Hand) (sp : Spot) : Type 0 where
    pub walks : W h
    pub still : Still k.options c0 s y h
    pub source : (v : Value) → value_at h sp ≡ Some v → Source h v ⊎ IsNone v

  module _ (h : Hand) (sp : Spot) (q : Lends h sp) where
    -- the sums of the hand
    pub ok : IsOk h
    ok = q.walks.state.ok

    -- words are left so far
    pub left_so_far : LeavesWords k (Put h)
    left_so_far = put_leaves h ok (walk_unseen k.code k.options c0 s y h q.still)

    -- where the place leads it led
    pub located_now : (l : Location) → locate g y.number w.slot m ≡ Some l → locate (sight (Put h)).ground h.thread.number w.slot m ≡ Some l
    located_now l e =
        ap (λ u. locate (sight (Put h)).ground u w.slot m) (ap (λ (x : ThreadState). x.number) q.still.thread)
        ∙ seen_places_lead (sight k).ground (sight (Put h)).ground q.walks.state.along.slots_lead q.walks.state.along.cells_lead y.number w.slot m ∙ e

    -- the thread without a gift
    gone : h.thread.gift ≡ None
    gone = ap (λ (z : ThreadState). z.gift) q.still.thread ∙ bare

    -- with a value on top
    kept : (u : Value) → Kept k.options c0 s y (push_temp u h)
    kept u = subst (λ f. Kept k.options c0 s y (record h { thread = record h.thread { temps = h.thread.temps ++ u ∷ []; gift = f } })) (sym gone) (kept_as k c0 s y h (h.thread.temps ++ u ∷ []) q.still)

    abbrev pub Middles : Stepped → Type 0
    Middles d = Middle d.hand

  -- of each value that may stand there a reference is made that leaves the words
  abbrev pub Pushes : Type 0
  Pushes = (h : Hand) (sp : Spot) → Lends h sp → (v u : Value) → Source h v ⊎ IsNone v → mutable_from h.thread.phase holder v ≡ Some u → IsOk (go_on (push_temp u h)) → Gives (λ (d : Stepped). Middle d.hand) (committed (goes_on (Some (push_temp u h))))

  module _ (pushed : Pushes) where
    module _ (h : Hand) (sp : Spot) (q : Lends h sp) where
      -- for the coloured heap and for words
      abbrev Both : Stepped → Type 0
      Both d = Left k.options c0 s y d × Middle d.hand

      made_from : (v : Value) → value_at h sp ≡ Some v → (o : Option Value) → mutable_from h.thread.phase holder v ≡ o → CommittedOk IsOk (goes_on (option_map (λ u. push_temp u h) o)) → Gives Both (committed (goes_on (option_map (λ u. push_temp u h) o)))
      made_from v e None f after = tt
      made_from v e (Some u) f after =
          both_give (Left k.options c0 s y) (λ (d : Stepped). Middle d.hand) Both (committed (goes_on (Some (push_temp u h)))) (done_from k.options c0 s y (Some (push_temp u h)) (kept h sp q u)) (pushed h sp q v u (q.source v e) f after) (λ d a c. (a, c))

      by_value : (o : Option Value) → value_at h sp ≡ o → CommittedOk IsOk (goes_on (then_some o (λ v. option_map (λ u. push_temp u h) (mutable_from h.thread.phase holder v))))
          → Gives Both (committed (goes_on (then_some o (λ v. option_map (λ u. push_temp u h) (mutable_from h.thread.phase holder v)))))
      by_value None e after = tt
      by_value (Some v) e after = made_from v e (mutable_from h.thread.phase holder v) refl after

      -- the sums afterwards
      all_ok : CommittedOk IsOk (goes_on (borrow_mut w sp h))
      all_ok = commits sums_kept n s.events t b 0 i sp h tt (λ z. absurd z) q.walks.state.ok

      both : Gives Both (committed (goes_on (borrow_mut w sp h)))
      both = subst (λ d. CommittedOk IsOk (goes_on (borrow_mut_from w d sp h)) → Gives Both (committed (goes_on (borrow_mut_from w d sp h)))) (sym deep) (by_value (value_at h sp) refl) all_ok

      lent_ends : (servers : ℕ) → Gives End (prepared servers i (ready h sp))
      lent_ends servers =
          both_give (SteppedOk sums_kept n s.events t b) Both End (committed (goes_on (borrow_mut w sp h))) (committed_keeps sums_kept n s.events t b (goes_on (borrow_mut w sp h)) all_ok) both
          (λ d after x l. (x.0, λ c places same alike. middle_words d after x.1 c places same alike))

    -- THE POINTER IS READY

    -- the last pointer is ready, or its object is asked for
    lent : (servers : ℕ) (h : Hand) (sp : Spot) → W h → Spotted g y.number w.slot m sp → ((v : Value) → value_at h sp ≡ Some v → AtSpot h sp) → ((v : Value) → value_at h sp ≡ Some v → Walked k.options c0 s y h sp) → Gives End (prepared servers i (lend_value sp (value_at h sp) (load_at sp h)))
    lent servers h sp c p a r = by (value_at h sp) refl
      where
        walks : W (load_at sp h)
        walks = walks_loaded k coherent s here t y at on i code w m reads sp h c

        -- what is loaded is noted alone
        of_loaded : (v : Value) → Source h v ⊎ IsNone v → Source (load_at sp h) v ⊎ IsNone v
        of_loaded v (inl q) = inl (record { location = q.location; located = q.located; stands = q.stands })
        of_loaded v (inr q) = inr q

        there : (v : Value) → value_at h sp ≡ Some v → Gives End (prepared servers i (ready (load_at sp h) sp))
        there v e =
            lent_ends (load_at sp h) sp
            (record { walks = walks; still = still_loads k.options c0 s y h sp (r v e); source = λ u f. of_loaded u (sources.sourced k coherent s here t y at on i code w m reads deep h sp c p a u (sym (value_loaded sp h) ∙ f)) }) servers

        asks : (o : Option BoxPtr) → Gives End (prepared servers i (request_by ask_object (load_at sp h) o))
        asks None = tt
        asks (Some q) = λ f. absurd (cc f)

        either : (c : Bool) (x z : Prepared) → Gives End (prepared servers i x) → Gives End (prepared servers i z) → Gives End (prepared servers i (if c then x else z))
        either true x z f g = f
        either false x z f g = g

        by_hop : (v : Value) → value_at h sp ≡ Some v → (o : Option Hop) → Gives End (prepared servers i (lend_by sp v o (load_at sp h)))
        by_hop v e None = tt
        by_hop v e (Some (hop.NeedMove u)) = either (is_taken h.thread.phase) (ready (load_at sp h) sp) (request_by ask_object (load_at sp h) (pointer_of v)) (there v e) (asks (pointer_of v))
        by_hop v e (Some (hop.Slot u)) = there v e
        by_hop v e (Some (hop.Direct u)) = there v e
        by_hop v e (Some (hop.Hit u)) = there v e
        by_hop v e (Some (hop.NeedCopy u)) = there v e
        by_hop v e (Some (hop.NeedTint u)) = there v e
        by_hop v e (Some (hop.AtCell u)) = there v e

        by : (o : Option Value) → value_at h sp ≡ o → Gives End (prepared servers i (lend_value sp o (load_at sp h)))
        by None e = tt
        by (Some v) e = by_hop v e (write_hop h.work.rest.number v)

    -- so is the place
    all_lent : (servers : ℕ) (x : Prepared) → Followed x → Came x → Reaches k.options c0 s y x → Gives End (prepared servers i (and_then (λ h sp. lend_value sp (value_at h sp) (load_at sp h)) x))
    all_lent servers (ready h sp) f a r = lent servers h sp f.0 f.1 a r
    all_lent servers (requested h) f a r = λ q. absurd (cc q)
    all_lent servers nothing f a r = tt

    -- the step
    pub lends_end : Gives End (step k.options.servers i h0)
    lends_end =
        subst (λ d. Gives End (prepared k.options.servers i (lend_pointer w d h0))) (sym deep)
        (all_lent k.options.servers (read_stars m h0 (in_slot w.slot)) (sources.followed k coherent s here t y at on i code w m reads deep) (sources.came k coherent s here t y at on i code w m reads deep)
        (stars_reached k coherent e0 i s t y (sources.stepping k coherent s here t y at on i code w m reads deep) c0 is_coloured w m reads m (omega arith)))
