-- Where an object comes to another thread, and in each other event beside a thread, as many hops are ahead of it.
use Rattle.std.proofs.Common.{◌≡◌, ◌≤◌, ℕ, ◌==◌, ◌&&◌, Bool, true, false, Option, Some, None, refl, sym, ap, subst, ◌∙◌, arith}
use Rattle.std.proofs.lemmas.Bool.{eqb-true}
use Rattle.std.specs.Prelude.{slice_get, option_map}
use Rattle.law_walks_own.specs.Below.fr_base.Names.{same_object}
use Rattle.law_walks_own.specs.Below.heap_partition.declared.value.Cell.{Cell}
use Rattle.law_walks_own.specs.Below.thread_state.View.{is_over}
use Rattle.law_walks_own.specs.Below.thread_state.declared.phase.Phase.{Phase}
use Rattle.law_walks_own.specs.Below.thread_state.declared.phase.Phase.TheVariants as phase
use Rattle.law_walks_own.specs.Below.server_msgs.declared.message.Message.{Message}
use Rattle.law_walks_own.specs.Below.server_msgs.declared.message.Message.TheVariants as message
use Rattle.law_walks_own.specs.Below.journal.View.{EntryView}
use Rattle.law_walks_own.specs.Below.server_model.declared.event.Event.{Event}
use Rattle.law_walks_own.specs.Below.server_model.declared.event.What.{What}
use Rattle.law_walks_own.specs.Below.server_model.declared.event.What.TheVariants.{Step, Deliver, Evict, Migrate}
use Rattle.law_walks_own.specs.Below.server_model.Servers.{Server, Cluster, server_at}
use Rattle.law_walks_own.specs.Below.server_model.Work.{then_some}
use Rattle.law_walks_own.specs.Below.server_model.Events.{enabled, left_by, deliver_message, received, does}
use Rattle.law_walks_own.specs.Below.server_model.Clusters.{done_at, apply}
use Rattle.law_walks_own.specs.Below.coherent_memory.Names.{tot, other}
use Rattle.law_walks_own.specs.Below.coherent_memory.Things.{Thing, in_cell, sent, message_things, things_of}
use Rattle.law_walks_own.specs.Below.coherent_memory.Follow.{Standing, thread_at}
use Rattle.law_walks_own.specs.Below.coherent_memory.OneHeap.{two_in}
use Rattle.law_walks_own.specs.Below.coherent_memory.Sight.{sight}
use Rattle.law_walks_own.specs.Below.coherent_memory.Walking.{path, asks_for, asked_for}
use Rattle.law_walks_own.specs.Below.coherent_memory.Requests.{is_cell, in_phase, carries}
use Rattle.law_walks_own.proofs.Below.coherent_memory.Names.{and_left, and_right}
use Rattle.law_walks_own.proofs.Below.coherent_memory.Words.{named, itself}
use Rattle.law_walks_own.specs.Below.coherent_types.ClusterTypes.{IsCoherent}
use Rattle.law_walks_own.specs.Below.law_counts_sums.Kinds.{fetch, fetched, asks_lock, granted, unlocked, asks_dup, dupped, released, starts, asks_join, joined, finished, arrives, evicts, migrates, message_kind, kind_at}
use Rattle.law_walks_own.specs.Below.law_counts_sums.Laws.{Gives, FewEvents}
use Rattle.law_walks_own.proofs.Below.law_counts_sums.Results.{both_give, over_gives, test_gives, then_gives}
use Rattle.law_walks_own.proofs.Below.law_counts_sums.MutexResults.{has}
use Rattle.law_walks_own.proofs.Below.law_counts_sums.Sending.{applied_part}
use Rattle.law_walks_own.specs.Below.law_words_paths.paths.HeapStore.{GoesOn, HasPaths}
use Rattle.law_walks_own.proofs.Below.law_words_paths.paths.Alike.{coherent_has_paths}
use Rattle.law_walks_own.proofs.Below.law_words_paths.paths.Contained.{among_thread}
use Rattle.law_walks_own.proofs.Below.law_words_paths.paths.Sole.{some_is}
use Rattle.law_walks_own.proofs.Below.law_words_kept.reads.FreshReads.{chain_apart}
use Rattle.law_walks_own.proofs.Below.law_results_reads.Alone.{strays, all_less, needed_less, is_asked}
use Rattle.law_walks_own.proofs.Below.law_results_reads.Awaits.{awaited_mine}
use Rattle.law_walks_own.proofs.Below.law_results_reads.Made.{OwnedBy}
use Rattle.law_walks_own.proofs.Below.law_heap_still.events.Told.{told, thread_told, found}
use Rattle.law_walks_own.specs.Below.law_words_paths.words.Reworded.{HasPlaces}
use Rattle.law_walks_own.specs.Below.law_words_paths.words.Unmoved.{Delivers}
use Rattle.law_walks_own.specs.Below.law_words_kept.stays.Laws.{IsOfKind}
use Rattle.law_walks_own.proofs.Below.law_counts_waiting.waits.Written.{Written}
use Rattle.law_walks_own.proofs.Below.law_walks_others.pointers.Still.{places_of}
use Rattle.law_walks_own.proofs.Below.law_walks_others.pointers.Sentences.{SameOn}
use Rattle.law_walks_own.proofs.Below.law_walks_others.pointers.Followed.{same_settings}
use Rattle.law_walks_own.proofs.Below.law_walks_others.still.Sorts.{with_server}
use Rattle.law_walks_own.proofs.Below.law_walks_others.arrivals.Seen.{Leaves, leaves}
use Rattle.law_walks_own.proofs.Below.law_walks_others.arrivals.Others.{stood, same_there}
use Rattle.law_length_asks.specs.ahead.Ahead.{SameAhead}
use Rattle.law_length_asks.proofs.ahead.Same.{ahead_same}
use Rattle.law_length_asks.proofs.ahead.Events.{others_leave, moves_leave, drops_leave, steady_leave}
use Rattle.law_length_asks.specs.hops.Beside.{IsBeside, EventsBesideLeaveAhead}

none_true : (b : Bool) → other b ≡ 0 → b ≡ true
none_true true z = refl
none_true false z = absurd (cc z)

-- AN OBJECT THAT COMES TO ANOTHER THREAD

standing_of : (f : Phase → Bool) (o : Option Standing) → in_phase f o ≡ true → (x : Standing) × (o ≡ Some x) × (f x.thread.phase ≡ true)
standing_of f None e = absurd (cc e)
standing_of f (Some x) e = (x, refl, e)

is_waiting : (p : Phase) (w : ℕ) → is_cell w p ≡ true → p ≡ phase.WaitCell w
is_waiting (phase.WaitCell v) w e = ap phase.WaitCell (eqb-true v w e)
is_waiting _ w e = absurd (cc e)

module _ (k : Cluster) (e : Event) (old : ℕ) (cell : Cell) (t : ℕ) (d : Delivers k e (message.Moved old cell t)) (co : IsCoherent k) (few : FewEvents k) where
  p : HasPaths k
  p = coherent_has_paths k co

  abbrev m : Message
  m = message.Moved old cell t

  abbrev n : ℕ
  n = d.server.rest.number

  -- what is wrong with no message isn't with this one
  unbroken : (g : Thing → ℕ) → tot g (things_of k) ≡ 0 → g (sent n m) ≡ 0
  unbroken g z = let all : tot g (message_things n m) ≤ tot g (things_of k) = has k co.sound e.server d.server d.there d.place m d.message g in omega (arith, z, all)

  -- in a chain of its own slots the object stands, where no other thread reads
  written_there : Written k p t cell.object
  written_there =
      let carried : other (in_phase (is_cell old) (thread_at (sight k).ground.threads t)) ≡ 0 = unbroken (carries (sight k)) co.sound.requests.carry_what_is_asked in
      let z = standing_of (is_cell old) (thread_at (sight k).ground.threads t) (none_true (in_phase (is_cell old) (thread_at (sight k).ground.threads t)) carried) in
      let among = among_thread (sight k).ground.threads t z.0 z.1 in
      let waits_now = is_waiting z.0.thread.phase old z.2 in
      let goes : GoesOn k z.0 = record { among = among.0; going = ap is_over waits_now } in
      let turn = co.sound.walks.wait_in_turn z.0 old among.0 waits_now in
      let a = turn.awaited in
      let asked : 1 ≤ tot (asked_for t a) (things_of k) = subst (λ u. 1 ≤ tot (asked_for u a) (things_of k)) among.1 turn.asked in
      let none : tot (strays t a cell.object) (things_of k) ≡ 0 = omega (arith, asked, all_less t a cell.object (things_of k), co.sound.requests.one_answer t, needed_less t a cell.object (things_of k), co.sound.names.numbers_differ t) in
      let its : strays t a cell.object (sent n m) ≡ 0 = unbroken (strays t a cell.object) none in
      let asks : asks_for t a m ≡ true = is_asked t (same_object cell.object cell.object) (asks_for t a m) (itself cell.object cell.object refl) its in
      let mine : (t == t && a.comes) ≡ true = and_left (t == t && a.comes) (a.word == old && same_object cell.object a.object) asks in
      let brings : (a.word == old && same_object cell.object a.object) ≡ true = and_right (t == t && a.comes) (a.word == old && same_object cell.object a.object) asks in
      let object : a.object ≡ cell.object = sym (named cell.object a.object (and_right (a.word == old) (same_object cell.object a.object) brings)) in
      let owned : OwnedBy k p z.0.thread.number cell.object = subst (OwnedBy k p z.0.thread.number) object (awaited_mine k p z.0 goes (path (sight k) z.0) refl old a (and_right (t == t) a.comes mine) turn.turn) in
      subst (λ u. Written k p u cell.object) among.1 (record {
        chain = record { slot = owned.slot; boxes = owned.boxes; leads_there = owned.leads };
        unread = λ x reads. chain_apart k p z.0 goes (ap two_in waits_now) x (in_cell cell.object) reads owned.slot owned.boxes owned.leads;
      })

  -- OTHER THREADS

  abbrev Settings : Cluster × EntryView → Type 0
  Settings r = (r.0.code ≡ k.code) × (r.0.options ≡ k.options)

  abbrev Places : Cluster × EntryView → Type 0
  Places r = HasPlaces r.0

  abbrev Known : Cluster × EntryView → Type 0
  Known r = Settings r × Places r

  known : Gives Known (apply k e)
  known = both_give Settings Places Known (apply k e) (same_settings k e) (applied_part HasPlaces (λ c s. record { numbers_differ = s.numbers_differ; home_of_each = s.home_of_each; owner_of_each = s.owner_of_each }) k e co.sound few) (λ r a b. (a, b))

  module _ (x : Standing) (g : GoesOn k x) (ne : x.thread.number ≡ t → ⊥) where
    abbrev u : ℕ
    u = x.thread.number

    here : thread_at (sight k).ground.threads u ≡ Some x
    here = found x (things_of k) (co.sound.names.numbers_differ u) g.among

    -- the pointers on its way are the same
    same_way : (c : Cluster) → HasPlaces c → Leaves k n cell t c → SameOn k c u (path (sight k) x)
    same_way c after left = by (thread_at (sight c).ground.threads u) refl
      where
        before : HasPlaces k
        before = places_of co

        by : (o : Option Standing) → thread_at (sight c).ground.threads u ≡ o → SameOn k c u (path (sight k) x)
        by None f =
            let none : told (λ (z : Standing). 1) (thread_at (sight c).ground.threads u) ≡ 0 = ap (told (λ (z : Standing). 1)) f in
            let one : told (λ (z : Standing). 1) (thread_at (sight k).ground.threads u) ≡ 1 = ap (told (λ (z : Standing). 1)) here in
            absurd (omega (arith, none, one, left.threads (λ z. 1) u (λ f. ne (sym f)), thread_told (λ z. 1) u (things_of k) (before.numbers_differ u), thread_told (λ z. 1) u (things_of c) (after.numbers_differ u)))
        by (Some y) f =
            let listed = among_thread (sight c).ground.threads u y f in
            let other_one : t ≡ y.thread.number → ⊥ = λ f2. ne (sym (f2 ∙ listed.1)) in
            let s = stood k c n cell t before after left y listed.0 other_one in
            let stands_there : thread_at (sight k).ground.threads u ≡ Some s.standing = subst (λ m. thread_at (sight k).ground.threads m ≡ Some s.standing) (s.number ∙ listed.1) (found s.standing (things_of k) (before.numbers_differ s.standing.thread.number) s.among) in
            let same : s.standing ≡ x = some_is (sym stands_there ∙ here) in
            subst (λ (z : Standing). SameOn k c z.thread.number (path (sight k) z)) same (same_there k c n cell t before after left p written_there y s listed.0 other_one)

    pub lands_beside : Gives (SameAhead k x) (apply k e)
    lands_beside =
        both_give Known (λ (r : Cluster × EntryView). Leaves k n cell t r.0) (SameAhead k x) (apply k e) known (leaves k e old cell t d co few) (λ r a b. ahead_same k r.0 x a.0.0 a.0.1 (same_way r.0 a.1 b))

-- ANY EVENT BESIDE A THREAD

module _ (k : Cluster) (e : Event) (co : IsCoherent k) (few : FewEvents k) (x : Standing) (g : GoesOn k x) (beside : IsBeside k e x.thread.number) where
  abbrev Same : Type 0
  Same = Gives (SameAhead k x) (apply k e)

  module _ (s : Server) (at_it : server_at k.servers e.server ≡ Some s) where
    same_server : {a b : Server} → Some a ≡ Some b → a ≡ b
    same_server h = cc

    -- no message is there
    nothing : (i : ℕ) → e.what ≡ Deliver i → slice_get s.rest.inbox i ≡ None → Same
    nothing i is q =
        then_gives (SameAhead k x) (server_at k.servers e.server) _ (λ s2 there.
        over_gives (λ r. ⊥) (SameAhead k x) (done_at k e.what s2) _
        (test_gives (λ r. ⊥) (enabled k.options s2 e.what) (does k.code k.options s2 e.what) (λ able. subst (λ z. Gives (λ r. ⊥) (does k.code k.options z e.what)) (same_server (sym at_it ∙ there)) none)) (λ r a. absurd a))
      where
        none : Gives (λ r. ⊥) (does k.code k.options s e.what)
        none = subst (λ w. Gives (λ r. ⊥) (does k.code k.options s w)) (sym is) (subst (λ m. Gives (λ r. ⊥) (option_map (left_by s.events None None) (then_some m (λ y. deliver_message k.code y (received i s))))) (sym q) tt)

    module _ (i : ℕ) (is : e.what ≡ Deliver i) (m : Message) (q : slice_get s.rest.inbox i ≡ Some m) where
      of_kind : IsOfKind (message_kind m) k e
      of_kind = ap (λ o. then_some o (kind_at k e.what)) at_it ∙ ap (λ w. kind_at k w s) is ∙ ap (option_map message_kind) q

      delivers : Delivers k e m
      delivers = record { place = i; what = is; server = s; there = at_it; message = q }

    by_message : (i : ℕ) → e.what ≡ Deliver i → (m : Message) → slice_get s.rest.inbox i ≡ Some m → Same
    by_message i is (message.Fetch w o r t) q = steady_leave fetch tt k e (of_kind i is (message.Fetch w o r t) q) co.sound few x
    by_message i is (message.Fetched w c t) q = steady_leave fetched tt k e (of_kind i is (message.Fetched w c t) q) co.sound few x
    by_message i is (message.Move w o r t) q = moves_leave w o r t k e (delivers i is (message.Move w o r t) q) co few x g
    by_message i is (message.Moved w c t) q =
        let d = delivers i is (message.Moved w c t) q in
        lands_beside k e w c t d co few x g (λ same. beside.no_object w c (subst (λ u. Delivers k e (message.Moved w c u)) (sym same) d))
    by_message i is (message.Drop w o) q = drops_leave w o k e (delivers i is (message.Drop w o) q) co few x g
    by_message i is (message.Lock n r t) q = steady_leave asks_lock tt k e (of_kind i is (message.Lock n r t) q) co.sound few x
    by_message i is (message.Granted n v t) q = steady_leave granted tt k e (of_kind i is (message.Granted n v t) q) co.sound few x
    by_message i is (message.Unlock n v) q = steady_leave unlocked tt k e (of_kind i is (message.Unlock n v) q) co.sound few x
    by_message i is (message.Dup n r t) q = steady_leave asks_dup tt k e (of_kind i is (message.Dup n r t) q) co.sound few x
    by_message i is (message.Dupped n t) q = steady_leave dupped tt k e (of_kind i is (message.Dupped n t) q) co.sound few x
    by_message i is (message.Release r) q = steady_leave released tt k e (of_kind i is (message.Release r) q) co.sound few x
    by_message i is (message.Start t) q = steady_leave starts tt k e (of_kind i is (message.Start t) q) co.sound few x
    by_message i is (message.Join u r t) q = steady_leave asks_join tt k e (of_kind i is (message.Join u r t) q) co.sound few x
    by_message i is (message.Joined u v t) q = steady_leave joined tt k e (of_kind i is (message.Joined u v t) q) co.sound few x
    by_message i is (message.Finished u v) q = steady_leave finished tt k e (of_kind i is (message.Finished u v) q) co.sound few x
    by_message i is (message.Migrate t) q = steady_leave arrives tt k e (of_kind i is (message.Migrate t) q) co.sound few x

    by_what : (w : What) → e.what ≡ w → Same
    by_what (Step t) is = others_leave k e t is co few x g (λ same. beside.no_step (is ∙ ap Step (sym same)))
    by_what (Deliver i) is = by (slice_get s.rest.inbox i) refl
      where
        by : (o : Option Message) → slice_get s.rest.inbox i ≡ o → Same
        by None q = nothing i is q
        by (Some m) q = by_message i is m q
    by_what (Evict w) is = steady_leave evicts tt k e (ap (λ o. then_some o (kind_at k e.what)) at_it ∙ ap (λ z. kind_at k z s) is) co.sound few x
    by_what (Migrate t target) is = steady_leave migrates tt k e (ap (λ o. then_some o (kind_at k e.what)) at_it ∙ ap (λ z. kind_at k z s) is) co.sound few x

pub events_beside_leave : EventsBesideLeaveAhead
events_beside_leave k e co few x g beside = with_server (SameAhead k x) k e (λ s here. by_what k e co few x g beside s here e.what refl)
