-- After an object comes no copy exists of what its thread has passed, nor of what any other thread has.
use Rattle.std.proofs.Common.{◌≡◌, ◌⊎◌, inl, inr, ℕ, ◌+◌, ◌<◌, ◌≤◌, ◌^◌, nat_lt, Bool, true, false, List, Option, Some, None, refl, sym, ap, subst, ◌∙◌, arith}
use Rattle.std.specs.Prelude.{slice_get}
use Rattle.std.proofs.lemmas.Bool.Decides.{nat_tests}
use Rattle.law_copies_kept.proofs.Below.fr_typing.PlaceLemmas.{eq_cases}
use Rattle.law_copies_kept.specs.Below.fr_base.declared.name.ObjNo.{ObjNo}
use Rattle.law_copies_kept.specs.Below.fr_base.declared.place.Lval.{Lval}
use Rattle.law_copies_kept.specs.Below.heap_partition.declared.value.Cell.{Cell}
use Rattle.law_copies_kept.specs.Below.owner_box.View.{PartitionState}
use Rattle.law_copies_kept.specs.Below.owner_box.Partition.{made, new_word, next_place}
use Rattle.law_copies_kept.specs.Below.thread_state.View.{ThreadState}
use Rattle.law_copies_kept.specs.Below.thread_state.declared.phase.Phase.TheVariants as phase
use Rattle.law_copies_kept.specs.Below.server_msgs.declared.message.Message.TheVariants as message
use Rattle.law_copies_kept.specs.Below.journal.View.{EntryView}
use Rattle.law_copies_kept.specs.Below.server_model.declared.event.Event.{Event}
use Rattle.law_copies_kept.specs.Below.server_model.Servers.{Server, Cluster}
use Rattle.law_copies_kept.specs.Below.server_model.Clusters.{apply}
use Rattle.law_copies_kept.specs.Below.server_model.Work.{Hand}
use Rattle.law_copies_kept.specs.Below.server_model.Events.{begin_work, received}
use Rattle.law_copies_kept.specs.Below.server_model.Objects.{deliver_moved}
use Rattle.law_copies_kept.specs.Below.coherent_memory.Names.{Among}
use Rattle.law_copies_kept.specs.Below.coherent_memory.OneHeap.{two_in}
use Rattle.law_copies_kept.specs.Below.coherent_memory.Things.{Location, Thing, at_slot, at_temp, in_cell, servers_things}
use Rattle.law_copies_kept.specs.Below.coherent_memory.Follow.{Standing, Ground, cell_of, value_in, slot_of, locate}
use Rattle.law_copies_kept.specs.Below.coherent_memory.Paths.{written_place}
use Rattle.law_copies_kept.specs.Below.coherent_memory.Sight.{sight}
use Rattle.law_copies_kept.specs.Below.coherent_memory.Coherent.{Holds, passed_not_copied}
use Rattle.law_copies_kept.specs.Below.coherent_memory.Walking.{path, too_far, over_hops, over_place, over_passed, copied_box}
use Rattle.law_copies_kept.proofs.Below.coherent_memory.Words.{none_at, none_all}
use Rattle.law_copies_kept.specs.Below.coherent_types.ClusterTypes.{IsCoherent}
use Rattle.law_copies_kept.specs.Below.law_counts_sums.Laws.{Gives, FewEvents}
use Rattle.law_copies_kept.specs.Below.law_counts_sums.Kinds.{moved}
use Rattle.law_copies_kept.proofs.Below.law_counts_sums.Bags.{thread_number}
use Rattle.law_copies_kept.proofs.Below.law_counts_sums.Events.{others_of}
use Rattle.law_copies_kept.proofs.Below.law_counts_sums.Results.{both_give, weaker, given_by}
use Rattle.law_copies_kept.proofs.Below.law_counts_sums.Sending.{applied_part}
use Rattle.law_copies_kept.specs.Below.law_words_paths.paths.HeapStore.{GoesOn, HasPaths}
use Rattle.law_copies_kept.proofs.Below.law_words_paths.paths.Alike.{IsShown, a_slot as shown_slot, an_object, leads_in_heap, coherent_has_paths}
use Rattle.law_copies_kept.proofs.Below.law_words_paths.paths.Shown.{stands_there}
use Rattle.law_copies_kept.proofs.Below.law_words_paths.paths.Sole.{some_is}
use Rattle.law_walks_own.proofs.Below.law_words_kept.reads.FreshReads.{chain_apart}
use Rattle.law_copies_kept.proofs.Below.law_results_reads.Awaits.{awaited_mine}
use Rattle.law_copies_kept.proofs.Below.law_results_reads.Made.{OwnedBy}
use Rattle.law_walks_others.specs.Below.law_words_asked.arrivals.Awaited.{Awaits}
use Rattle.law_walks_others.proofs.Below.law_words_asked.arrivals.Awaited.{arrivals_awaited}
use Rattle.law_walks_own.specs.Below.law_words_paths.words.Reworded.{HasPlaces}
use Rattle.law_walks_own.specs.Below.law_words_paths.words.Unmoved.{Delivers}
use Rattle.law_walks_others.proofs.Below.law_results_events.writes.Memory.{Sane, made_leads}
use Rattle.law_walks_others.proofs.Below.law_results_events.writes.Passed.{on}
use Rattle.law_walks_others.proofs.Below.law_results_events.writes.Route.{Route}
use Rattle.law_walks_others.proofs.Below.law_results_events.writes.Routes.{sane_at, roomy_at}
use Rattle.law_walks_others.proofs.Below.law_words_asked.writes.Later.{later_itself, next_unissued, place_vacant}
use Rattle.law_walks_own.specs.Below.law_counts_waiting.waits.Places.{LeadsAsItDid}
use Rattle.law_walks_own.proofs.Below.law_counts_waiting.waits.Written.{Written}
use Rattle.law_walks_own.proofs.Below.law_walks_others.pointers.Followed.{same_settings}
use Rattle.law_walks_own.proofs.Below.law_walks_others.pointers.Sentences.{SameOn}
use Rattle.law_walks_own.proofs.Below.law_walks_others.pointers.Still.{places_of}
use Rattle.law_walks_own.proofs.steps.Through.{stood}
use Rattle.law_walks_others.proofs.still.Sorts.{with_server}
use Rattle.law_walks_own.proofs.passed.Then.{before_uncopied, on_written, uncopied_still}
use Rattle.law_walks_own.proofs.passed.Such.{such_uncopied}
use Rattle.law_walks_others.specs.arrivals.Landed.{OthersWhereItComesKeep, EachUnsteppedEventKeeps}
use Rattle.law_walks_others.proofs.arrivals.All.{brings_it}
use Rattle.law_walks_others.proofs.arrivals.Itself as itself
use Rattle.law_walks_others.proofs.arrivals.Others.{Stood, stood as stood_before, same_there}
use Rattle.law_walks_others.proofs.arrivals.Own.{OwnLeft, own_left}
use Rattle.law_walks_others.proofs.arrivals.Seen.{Leaves, leaves}
use Rattle.law_walks_others.proofs.arrivals.Waiter.{waits_under_it}
use Rattle.law_walks_own.proofs.passed.Good.{GoodAt}
use Rattle.law_walks_own.proofs.passed.Stars.{were_good}
use Rattle.law_walks_own.proofs.passed.Stands.{NoCopy, IsOwn, own_slot, a_cell, none_over}
use Rattle.law_walks_own.proofs.passed.Start.{Bare, passed_good}
use Rattle.law_walks_own.proofs.passed.Own.{all_bare, AllLead, all_lead}
use Rattle.law_walks_own.proofs.passed.Comes.{HandSo, moved_so, within, its_road}
use Rattle.law_walks_own.proofs.passed.Left.{Left, left, it_is, slot_is, cell_is}

module _ (k : Cluster) (e : Event) (old : ℕ) (cell : Cell) (t : ℕ) (d : Delivers k e (message.Moved old cell t)) (co : IsCoherent k) (few : FewEvents k) (c : Cluster) (v : EntryView) (code : c.code ≡ k.code) (after : HasPlaces c) (bare : Bare k c) where
  abbrev s : Server
  s = d.server

  abbrev P : PartitionState
  P = s.rest.partition

  abbrev G : Ground
  G = (sight k).ground

  abbrev G2 : Ground
  G2 = (sight c).ground

  p : HasPaths k
  p = coherent_has_paths k co

  -- THE THREAD ITSELF

  module _ (l : Left k e old cell t d co few c v) (leads : v.done ≡ None → (x : Standing) (w : Lval) → GoesOn k x → LeadsAsItDid k c x.thread.number w) (own : OwnLeft k e old cell t d co few c) (y2 : Standing) (among : Among y2 (sight c).ground.threads) (number : y2.thread.number ≡ t) where
    abbrev y : ThreadState
    y = l.thread

    abbrev hand : Hand
    hand = l.hand

    waiting : y.phase ≡ phase.WaitCell old
    waiting = waits_under_it k co.sound e.server s d.there d.place old cell t d.message y l.at

    abbrev me : Standing
    me = record { server = s.rest.number; packed = false; thread = y }

    goes : GoesOn k me
    goes = on k co few e.server d.place s d.there old cell t y l.at waiting

    sane : Sane P
    sane = sane_at k co few e.server s d.there

    good_new : NoCopy c (new_word P)
    good_new =
        let r = roomy_at k co few e.server s d.there in
        let u = place_vacant P sane in
        let small : (next_place P).0 < 2 ^ 40 = (let w = u.within in omega (arith, r, w)) in
        bare.new (new_word P) (next_unissued k co.sound e.server s d.there P (later_itself P) sane.small small)

    so : HandSo k co few e.server d.place s d.there old cell t y l.at waiting (NoCopy c) good_new hand
    so =
        given_by (HandSo k co few e.server d.place s d.there old cell t y l.at waiting (NoCopy c) good_new) (deliver_moved k.code old cell (record { work = (received d.place s).work; thread = y })) hand
        (moved_so k co few e.server d.place s d.there old cell t y l.at waiting (NoCopy c) good_new) l.is

    mine : y.number ≡ t
    mine = thread_number s.threads t y l.at

    named : hand.thread.number ≡ t
    named = so.named ∙ mine

    abbrev others : List Thing
    others = servers_things (others_of k.servers e.server)

    told : (g : Standing → ℕ) → g y2 ≡ g (record { server = s.rest.number; packed = false; thread = hand.thread })
    told g = it_is c after hand s.threads t s.rest.number (s.events + 1) y l.at named so.server others l.sums y2 among number g

    -- its place
    place_then : written_place (path (sight c) y2) ≡ written_place (path (sight k) me)
    place_then = itself.same_place k e old cell t d co few c after own y2 among number code ∙ ap (λ (z : ThreadState). written_place (path (sight k) (record { server = s.rest.number; packed = false; thread = z }))) (some_is (sym own.at ∙ l.at))

    module _ (w : Lval) (writes : written_place (path (sight k) me) ≡ Some w) where
      abbrev C : ObjNo → Option Cell
      C = cell_of G.cells

      abbrev at : ℕ → Option Location
      at = locate G y.number w.slot

      road : Route s.rest y C at y.passed
      road = its_road k co few e.server d.place s d.there old cell t y l.at waiting (NoCopy c) good_new w writes

      inside : y.passed ≤ w.depth
      inside = within k co few e.server d.place s d.there old cell t y l.at waiting (NoCopy c) good_new w writes

      abbrev h0 : Hand
      h0 = record { work = begin_work s.rest; thread = y }

      -- what stood on the route
      stood_there : (j : ℕ) (a : Location) → at j ≡ Some a → stood s.rest y C at y.passed road h0 refl refl w.slot refl a ≡ value_in G a
      stood_there j a located = by a (leads_in_heap k p me goes w.slot j a located).1
        where
          by : (a : Location) → IsShown k p me goes a → stood s.rest y C at y.passed road h0 refl refl w.slot refl a ≡ value_in G a
          by _ (shown_slot b) = sym (ap (λ q. slot_of q b) (stands_there k p me goes))
          by _ (an_object q a b) = refl

      -- where the object came what led there does
      made_on : (a : Location) → GoodAt (NoCopy c) P y.slots a → GoodAt (NoCopy c) (made P cell) y.slots a
      made_on (at_slot u m) g = g
      made_on (at_temp u m) g = tt
      made_on (in_cell o) g = record { word = g.word; cell = g.cell; leads = made_leads P cell sane g.word g.cell g.leads; object = g.object; good = g.good }

      good_before : (i : ℕ) → i < y.passed → (a : Location) → at i ≡ Some a → GoodAt (NoCopy c) hand.work.rest.partition hand.thread.slots a
      good_before i lt a located =
          so.before a (made_on a (were_good s.rest y C at y.passed road h0 refl refl w.slot refl P (NoCopy c)
          (λ j m b less more there stands. passed_good k c bare me goes w writes j m b there (sym (stood_there j m there) ∙ stands) less) i lt lt a located))

      own_so : (a : Location) → IsShown k p me goes a → IsOwn y.number a
      own_so _ (shown_slot b) = own_slot b
      own_so _ (an_object q a b) = a_cell q

      way : (i : ℕ) → i ≤ y.passed → (a : Location) × (at i ≡ Some a) × (locate G2 y.number w.slot i ≡ Some a) × IsOwn y.number a
      way i le =
          let q = (let r = road in r.leads_there i le) in
          (q.0, q.1, leads l.done me w goes i (let b = inside in omega (arith, le, b)) ∙ q.1, own_so q.0 (leads_in_heap k p me goes w.slot i q.0 q.1).1)

      slot_now : (m : ℕ) → value_in G2 (at_slot y.number m) ≡ slice_get hand.thread.slots m
      slot_now m = subst (λ n. value_in G2 (at_slot n m) ≡ slice_get hand.thread.slots m) (sym mine) (slot_is c after hand s.threads t s.rest.number (s.events + 1) y l.at named so.server others l.sums m)

      none_so : (n : ℕ) → n ≤ y.passed + 1 → ((i : ℕ) → i < n → (a : Location) → at i ≡ Some a → GoodAt (NoCopy c) hand.work.rest.partition hand.thread.slots a) → over_hops G2 y.number w.slot (copied_box (sight c) s.rest.number) n ≡ 0
      none_so n le good =
          none_over c y.number w.slot s.rest.number at hand.thread.slots hand.work.rest.partition slot_now (λ u a b. cell_is c after hand s.threads t s.rest.number (s.events + 1) y l.at named so.server others l.sums u a b) n
          (λ i lt. way i (omega (arith, lt, le))) good

      by_anew : (hand.thread.passed ≡ y.passed) ⊎ ((hand.thread.passed ≡ y.passed + 1) × ((u : Lval) → written_place (path (sight k) me) ≡ Some u → (a : Location) → locate G y.number u.slot y.passed ≡ Some a → GoodAt (NoCopy c) hand.work.rest.partition hand.thread.slots a))
          → over_hops G2 y.number w.slot (copied_box (sight c) s.rest.number) hand.thread.passed ≡ 0
      by_anew (inl f) = ap (over_hops G2 y.number w.slot (copied_box (sight c) s.rest.number)) f ∙ none_so y.passed (omega arith) good_before
      by_anew (inr f) = ap (over_hops G2 y.number w.slot (copied_box (sight c) s.rest.number)) f.0 ∙ none_so (y.passed + 1) (omega arith) (λ i lt a located. each i lt a located (nat_lt i y.passed) refl)
        where
          each : (i : ℕ) → i < y.passed + 1 → (a : Location) → at i ≡ Some a → (b : Bool) → nat_lt i y.passed ≡ b → GoodAt (NoCopy c) hand.work.rest.partition hand.thread.slots a
          each i lt a located true q = good_before i (grind (arith, nat_tests, q)) a located
          each i lt a located false q =
              let le : y.passed ≤ i = grind (arith, nat_tests, q) in
              let same : i ≡ y.passed = omega (arith, le, lt) in
              f.1 w writes a (ap at (sym same) ∙ located)

    place_bare : (o : Option Lval) → written_place (path (sight k) me) ≡ o → over_place G2 y.number hand.thread.passed (copied_box (sight c) s.rest.number) o ≡ 0
    place_bare None f = refl
    place_bare (Some w) f = by_anew w f so.anew

    pub own_bare : over_passed (sight c) (copied_box (sight c)) y2 ≡ 0
    own_bare =
        ap (over_place G2 y2.thread.number y2.thread.passed (copied_box (sight c) y2.server)) place_then
        ∙ ap (λ n. over_place G2 n y2.thread.passed (copied_box (sight c) y2.server) (written_place (path (sight k) me))) (number ∙ sym mine)
        ∙ ap (λ n. over_place G2 y.number n (copied_box (sight c) y2.server) (written_place (path (sight k) me))) (told (λ x. x.thread.passed))
        ∙ ap (λ n. over_place G2 y.number hand.thread.passed (copied_box (sight c) n) (written_place (path (sight k) me))) (told (λ x. x.server))
        ∙ place_bare (written_place (path (sight k) me)) refl

  -- OTHER THREADS

  module _ (l : Left k e old cell t d co few c v) (lv : Leaves k d.server.rest.number cell t c) (y2 : Standing) (among : Among y2 (sight c).ground.threads) (ne : y2.thread.number ≡ t → ⊥) where
    abbrev th : ThreadState
    th = l.thread

    waits : th.phase ≡ phase.WaitCell old
    waits = waits_under_it k co.sound e.server s d.there d.place old cell t d.message th l.at

    abbrev it : Standing
    it = record { server = s.rest.number; packed = false; thread = th }

    on_it : GoesOn k it
    on_it = on k co few e.server d.place s d.there old cell t th l.at waits

    -- in a chain of the thread's own slots the object stands, where no other thread reads
    written_there : Written k p t cell.object
    written_there =
        let a : Awaits k it old cell = arrivals_awaited k e.server d.place old t s cell th co.sound d.there d.message l.at waits in
        let owned_by : OwnedBy k p th.number cell.object = subst (OwnedBy k p th.number) a.object (awaited_mine k p it on_it (path (sight k) it) refl old a.awaited a.comes a.turn) in
        subst (λ u. Written k p u cell.object) (thread_number s.threads t th l.at) (record {
          chain = record { slot = owned_by.slot; boxes = owned_by.boxes; leads_there = owned_by.leads };
          unread = λ x reads. chain_apart k p it on_it (ap two_in waits) x (in_cell cell.object) reads owned_by.slot owned_by.boxes owned_by.leads;
        })

    stands_so : Stood k c d.server.rest.number cell t (places_of co) after lv y2
    stands_so = stood_before k c d.server.rest.number cell t (places_of co) after lv y2 among (λ f. ne (sym f))

    abbrev x : Standing
    x = stands_so.standing

    on_path : SameOn k c x.thread.number (path (sight k) x)
    on_path = same_there k c d.server.rest.number cell t (places_of co) after lv p written_there y2 stands_so among (λ f. ne (sym f))

    pub other_bare : over_passed (sight c) (copied_box (sight c)) y2 ≡ 0
    other_bare =
        let far : too_far (sight k) x ≡ 0 = none_at (too_far (sight k)) x (sight k).ground.threads co.sound.walks.passed_within stands_so.among in
        stands_so.same (over_passed (sight c) (copied_box (sight c))) ∙ uncopied_still k c x code (on_written k c x.thread.number (path (sight k) x) on_path) far (before_uncopied k c co bare.passed x stands_so.among)

-- THE EVENT

module _ (k : Cluster) (e : Event) (old : ℕ) (cell : Cell) (t : ℕ) (d : Delivers k e (message.Moved old cell t)) (co : IsCoherent k) (few : FewEvents k) where
  abbrev D : Type 0
  D = Cluster × EntryView

  with_it : (P Q : D → Type 0) → Gives P (apply k e) → Gives Q (apply k e) → Gives (λ r. P r × Q r) (apply k e)
  with_it P Q p q = both_give P Q (λ r. P r × Q r) (apply k e) p q (λ r a b. (a, b))

  abbrev Settings : D → Type 0
  Settings r = (r.0.code ≡ k.code) × (r.0.options ≡ k.options)

  abbrev Places : D → Type 0
  Places r = HasPlaces r.0

  abbrev IsBare : D → Type 0
  IsBare r = Bare k r.0

  abbrev IsLeft : D → Type 0
  IsLeft r = Left k e old cell t d co few r.0 r.1

  abbrev Keeps : D → Type 0
  Keeps r = Leaves k d.server.rest.number cell t r.0

  abbrev HasOwn : D → Type 0
  HasOwn r = OwnLeft k e old cell t d co few r.0

  abbrev Known : D → Type 0
  Known r = (Settings r × Places r) × ((IsBare r × IsLeft r) × ((Keeps r × HasOwn r) × AllLead k r))

  known : Gives Known (apply k e)
  known =
      with_it (λ r. Settings r × Places r) (λ r. (IsBare r × IsLeft r) × ((Keeps r × HasOwn r) × AllLead k r))
      (with_it Settings Places (same_settings k e) (applied_part HasPlaces (λ c g. record { numbers_differ = g.numbers_differ; home_of_each = g.home_of_each; owner_of_each = g.owner_of_each }) k e co.sound few))
      (with_it (λ r. IsBare r × IsLeft r) (λ r. (Keeps r × HasOwn r) × AllLead k r) (with_it IsBare IsLeft (all_bare k e co few) (left k e old cell t d co few))
      (with_it (λ r. Keeps r × HasOwn r) (AllLead k) (with_it Keeps HasOwn (leaves k e old cell t d co few) (own_left k e old cell t d co few)) (all_lead k e co few)))

  pub others_come : Gives (λ (r : D). (x : Standing) → Among x (sight r.0).ground.threads → (x.thread.number ≡ t → ⊥) → over_passed (sight r.0) (copied_box (sight r.0)) x ≡ 0) (apply k e)
  others_come =
      weaker Known (λ (r : D). (x : Standing) → Among x (sight r.0).ground.threads → (x.thread.number ≡ t → ⊥) → over_passed (sight r.0) (copied_box (sight r.0)) x ≡ 0) (apply k e) known
      (λ r a x among ne. other_bare k e old cell t d co few r.0 r.1 a.0.0.0 a.0.1 a.1.0.0 a.1.0.1 a.1.1.0.0 x among ne)

  own_comes : Gives (λ (r : D). (x : Standing) → Among x (sight r.0).ground.threads → x.thread.number ≡ t → over_passed (sight r.0) (copied_box (sight r.0)) x ≡ 0) (apply k e)
  own_comes =
      weaker Known (λ (r : D). (x : Standing) → Among x (sight r.0).ground.threads → x.thread.number ≡ t → over_passed (sight r.0) (copied_box (sight r.0)) x ≡ 0) (apply k e) known
      (λ r a x among number. own_bare k e old cell t d co few r.0 r.1 a.0.0.0 a.0.1 a.1.0.0 a.1.0.1 (λ done z w g. a.1.1.1 (record { owner = z; place = w; on = g }) done) a.1.1.0.1 x among number)

  pub all_come : Gives (λ (r : D). Holds r.0 passed_not_copied) (apply k e)
  all_come =
      both_give (λ (r : D). (x : Standing) → Among x (sight r.0).ground.threads → x.thread.number ≡ t → over_passed (sight r.0) (copied_box (sight r.0)) x ≡ 0) (λ (r : D). (x : Standing) → Among x (sight r.0).ground.threads → (x.thread.number ≡ t → ⊥) → over_passed (sight r.0) (copied_box (sight r.0)) x ≡ 0)
      (λ (r : D). Holds r.0 passed_not_copied) (apply k e) own_comes others_come
      (λ r a b. none_all (over_passed (sight r.0) (copied_box (sight r.0))) (sight r.0).ground.threads (λ x among. eq_cases (λ q. over_passed (sight r.0) (copied_box (sight r.0)) x ≡ 0) x.thread.number t (a x among) (b x among)))

pub others_uncopied : OthersWhereItComesKeep (λ s x. over_passed s (copied_box s) x)
others_uncopied k e old c t d co few = others_come k e old c t d co few

pub unstepped_bare : EachUnsteppedEventKeeps passed_not_copied
unstepped_bare moved is k e q co few =
    with_server (λ (r : Cluster × EntryView). Holds r.0 passed_not_copied) k e (λ s here. let b = brings_it k e s here q in all_come k e b.word b.cell b.thread b.delivers co few)
unstepped_bare kind is k e q co few = such_uncopied kind is k e q co few
