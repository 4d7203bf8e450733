-- A step asks for no copy but where it follows a star to read: one that is done asks for none.
use Rattle.std.proofs.Common.{◌≡◌, ◌⊎◌, inl, inr, ℕ, ◌+◌, Bool, true, false, List, [], Option, Some, None, refl, sym, subst, arith}
use Rattle.std.specs.Bool.{⊤}
use Rattle.std.specs.Prelude.{option_map, length, take, drop as drop_first}
use Rattle.std.specs.List.{AllByRecursion}
use Rattle.law_words_borrows.specs.Below.fr_base.declared.instruction.Instr.{Instr}
use Rattle.law_words_borrows.specs.Below.fr_base.declared.release.Released.TheVariants as released
use Rattle.law_words_borrows.specs.Below.global_addr.Words.{server_of}
use Rattle.law_words_borrows.specs.Below.heap_partition.declared.value.Owned.{Owned}
use Rattle.law_words_borrows.specs.Below.heap_partition.declared.value.Owned.TheVariants as owned
use Rattle.law_words_borrows.specs.Below.law_results_reads.Below.read_cache.Cache.{Copy}
use Rattle.law_words_borrows.specs.Below.law_results_reads.Below.mutex_home.Mutexes.{can_make}
use Rattle.law_words_borrows.specs.Below.law_results_reads.Below.join_home.Tasks.{can_begin, can_begin_pair}
use Rattle.law_words_borrows.specs.Below.law_results_reads.Below.migration.Packing.{unpin_all}
use Rattle.law_words_borrows.specs.Below.thread_state.View.{ThreadState, new_thread}
use Rattle.law_words_borrows.specs.Below.thread_state.declared.phase.Phase.TheVariants as phase
use Rattle.law_words_borrows.specs.Below.thread_state.declared.value.Value.{Value}
use Rattle.law_words_borrows.specs.Below.thread_state.declared.value.Value.TheVariants as value
use Rattle.law_words_borrows.specs.Below.journal.View.{EntryView}
use Rattle.law_words_borrows.specs.Below.journal.declared.act.Act.TheVariants as act
use Rattle.law_words_borrows.specs.Below.server_msgs.declared.message.Message.{Message}
use Rattle.law_words_borrows.specs.Below.server_msgs.declared.message.Message.TheVariants as message
use Rattle.law_words_borrows.specs.Below.server_model.declared.event.What.TheVariants.{Step}
use Rattle.law_words_borrows.specs.Below.server_model.Servers.{Sent, Rest, Server, Cluster, server_at}
use Rattle.law_words_borrows.specs.Below.server_model.Work.{Work, Hand, send, working, with_cache, with_phase, then_some}
use Rattle.law_words_borrows.specs.Below.server_model.NewWords.{NewWord, can_grow, issue_placed}
use Rattle.law_words_borrows.specs.Below.server_model.Places.{Spot}
use Rattle.law_words_borrows.specs.Below.server_model.Start.{next_thread, server_for, start_thread, capture}
use Rattle.law_words_borrows.specs.Below.server_model.Drop.{home_of, give_up}
use Rattle.law_words_borrows.specs.Below.server_model.Commit.{Committed, done, waits, refused, go_on, next_object, push_box, begun, pair_begun, spawn_with, end_with, label_dropped, commit}
use Rattle.law_words_borrows.specs.Below.server_model.Prepare.{Prepared, ready, requested, nothing, access_of, prepare}
use Rattle.law_words_borrows.specs.Below.server_model.Events.{Stepped, done_step, committed, prepared, step, enabled, does}
use Rattle.law_words_borrows.specs.Below.server_model.Clusters.{with_server, hand_over_newer, done_at, apply}
use Rattle.law_words_borrows.specs.Below.coherent_memory.Names.{tot}
use Rattle.law_words_borrows.specs.Below.coherent_memory.Things.{Thing, server_things, things_of}
use Rattle.law_words_borrows.specs.Below.coherent_memory.Coherent.{IsSound}
use Rattle.law_words_borrows.specs.Below.law_counts_sums.Laws.{Gives, GoTo, FewEvents}
use Rattle.law_words_borrows.proofs.Below.law_counts_sums.Results.{then_gives, over_gives, test_gives, weaker}
use Rattle.law_words_borrows.proofs.Below.law_counts_sums.Events.{tot-server}
use Rattle.law_words_borrows.proofs.Below.law_counts_sums.Applied.{go_with}
use Rattle.law_words_borrows.proofs.Below.law_counts_sums.Handing.{hand_over_newer_law}
use Rattle.law_words_borrows.proofs.Below.law_counts_sums.Sending.{each_event_sends}
use Rattle.law_copies_kept.proofs.Below.law_counts_things.things.Small.{Of, Places, Small, Passes, Made, prepare_makes}
use Rattle.law_copies_kept.proofs.Below.law_counts_things.things.Plainly.{Settles, Acts, Ends, moves_by, commits}
use Rattle.law_copies_kept.proofs.Below.law_counts_things.things.Goes.{puts_by, Any, AnyWord}
use Rattle.law_copies_kept.proofs.Below.law_counts_things.things.Mail.{Mailed, mail_sent}
use Rattle.law_copies_kept.proofs.Below.law_counts_things.things.Messages.{on_sent, Light, letters_from, letters_to}

-- the weight of a word in a request for a copy, and in its answer
abbrev pub asking : (ℕ → ℕ) → ℕ → Message → ℕ
asking f r (message.Fetch v o s t) = f v
asking f r (message.Fetched v c t) = f v
asking f r m = 0

module _ (f : ℕ → ℕ) (servers n : ℕ) (old : List Sent) (i : Instr) where
  -- each such message weighs nothing
  abbrev pub NoneAsked : Rest → Type 0
  NoneAsked r = Mailed (Light (asking f)) n old r

  abbrev F : Rest → ThreadState → Type 0
  F r t = NoneAsked r

  abbrev E : Rest → ThreadState → Type 0
  E r t = ⊤

  places : Places F Any AnyWord
  places = record {
    spot = λ s v h g e. tt;
    puts = λ s v h z a g. puts_by F (λ vs r t u. u) (λ vs r t u. u) (λ h2 w x u. u) s v h g;
    worded = λ w v new x a e. tt;
    word_of = λ r a. tt;
    points = λ v p a e. tt;
  }

  -- until a place is ready nothing is sent
  small : Small F E Any AnyWord
  small = record {
    places = places;
    tints = λ p h a g e. tt;
    renews = λ p h a g e. (tt, g);
    pinned = λ r a. tt;
    pins = λ w h e g. g;
    uses = λ w h e g. g;
    asks_copy = λ p h a e g. tt;
    asks_object = λ p h a e g. tt;
  }

  says : (t : ℕ) (m : Message) (h : Hand) → asking f t m ≡ 0 → Of F h → Of F (working (send t m) h)
  says t m h a g = mail_sent (Light (asking f)) n old h.work.rest t m a g

  gives_up : (v : Owned) (h : Hand) → Of F h → Of F (working (give_up v) h)
  gives_up (owned.Box p) h g = says (server_of p.word) (message.Drop p.word p.object) h refl g
  gives_up (owned.Mutex m) h g = says m.home (message.Release (released.Mutex m)) h refl g
  gives_up (owned.Task t) h g = says (home_of t) (message.Release (released.Task t)) h refl g
  gives_up owned.Nothing h g = g
  gives_up owned.Unit h g = g
  gives_up (owned.Int m) h g = g

  starts : (pc : ℕ) (vs : List Value) (w : Work) → NoneAsked w.rest → NoneAsked (start_thread servers pc vs w).rest
  starts pc vs w g = mail_sent (Light (asking f)) n old (record w.rest { started = w.rest.started + 1 }) (server_for servers w.rest) (message.Start (new_thread (next_thread w.rest) pc vs)) refl g

  over_says : (main : Bool) (v : Owned) (h : Hand) → Of F h → Gives (λ h2. Settles F (with_phase phase.Over h2)) (end_with main v h)
  over_says true v h g = λ cs z. gives_up v (label_dropped (value.Own v) h) g
  over_says false v h g = λ cs z. says h.thread.home (message.Finished h.thread.number v) h refl g

  acts : Acts servers F F Any Any AnyWord i
  acts = record {
    places = places;
    number = λ m. tt;
    unit_value = tt;
    nothing_value = tt;
    gone = tt;
    owned_temp = λ v a. tt;
    shared_slot = λ j. tt;
    mutable_slot = λ j. tt;
    second = λ v u a e. tt;
    shared = λ v u a e. tt;
    lent = λ w d e z v u h a g c. tt;
    off_temps = λ h g. g;
    off_slots = λ h g. g;
    on_temps = λ v h a g. g;
    on_slots = λ v h a g. g;
    gives = λ v h a g. gives_up v h g;
    unpins = λ w h e g. g;
    gift = λ v h e g. (tt, g);
    boxes = λ o e v h a g.
        over_gives (λ (m : NewWord). F m.work.rest h.thread) (λ h2. Settles F (go_on h2)) (issue_placed (act.Make (next_object h)) (record { object = next_object h; value = v }) h.work) (λ m. push_box v m h)
        (test_gives (λ (m : NewWord). F m.work.rest h.thread) (can_grow h.work.rest.partition) _ (λ z. g)) (λ m w cs z. w);
    mutexes = λ o e v h a g. test_gives (λ h2. Settles F (go_on h2)) (can_make h.work.rest.mutexes) _ (λ z cs z2. g);
    spawns = λ cs pc e h g.
        then_gives (λ h2. Settles F (go_on h2)) (capture false cs.items h.thread.slots) (spawn_with servers pc (next_thread h.work.rest) h) (λ new q.
        over_gives (Of F) (λ h2. Settles F (go_on h2)) (begun h) _ (test_gives (Of F) (can_begin h.work.rest.tasks (next_thread h.work.rest)) _ (λ z. g)) (λ h2 u cs2 z. starts pc new.0 h2.work u));
    unlocks = λ e m v h a b g. says m.home (message.Unlock m v) h refl g;
    holds = λ w e m a. tt;
    goes = λ o h g cs z. g;
    pairs = λ cs pc ds other e h g.
        let u = next_thread h.work.rest in
        then_gives (Settles F) (capture true cs.items h.thread.slots) _ (λ first p. then_gives (Settles F) (capture true ds.items first.1) _ (λ second q.
        over_gives (Of F) (Settles F) (pair_begun h u (u + 1)) _ (test_gives (Of F) (can_begin_pair h.work.rest.tasks h.thread.number u (u + 1)) _ (λ z. g))
        (λ h2 b cs2 z. starts other second.0 (start_thread servers pc first.0 h2.work) (starts pc first.0 h2.work b))));
    ends = λ o e main v h a g. over_says main v h g;
    asks_join = λ o e u h q a g. says (home_of u) (message.Join u h.work.rest.number h.thread.number) h refl g;
    asks_dup = λ w e m h q a g. says m.home (message.Dup m h.work.rest.number h.thread.number) h refl g;
    asks_lock = λ w e m h q a g. says m.home (message.Lock m h.work.rest.number h.thread.number) h refl g;
  }

  abbrev Left : Stepped → Type 0
  Left d = NoneAsked d.hand.work.rest

  committed_asks : (c : Committed) → Ends F c → Gives Left (committed c)
  committed_asks (done names h) a = by (unpin_all h.thread.walk h.work.rest.cache) refl
    where
      by : (o : Option (List Copy)) → unpin_all h.thread.walk h.work.rest.cache ≡ o
          → Gives Left (option_map (done_step names) (option_map (λ cs. record { work = with_cache cs h.work; thread = record h.thread { passed = 0; walk = []; moved_since_step = false } }) o))
      by None q = tt
      by (Some cs) q = a cs q
  committed_asks (waits h) a = a
  committed_asks refused a = tt

  -- where the place is ready, no copy is asked for
  pub ready_asks : (s : Spot) (h : Hand) → NoneAsked h.work.rest → Gives Left (committed (commit servers i s h))
  ready_asks s h g = committed_asks (commit servers i s h) (commits i s h acts (moves_by i s h (λ w c v z. tt)) g)

  -- so none is by a step that is done
  pub done_asks : (h : Hand) → NoneAsked h.work.rest → Gives (λ (d : Stepped). (d.names ≡ None) ⊎ Left d) (step servers i h)
  done_asks h g = by (prepare (access_of i h.thread) h) (prepare_makes (access_of i h.thread) h (λ z. small) (λ z. passes) g)
    where
      passes : Passes F
      passes m h2 u = u

      by : (p : Prepared) → Made F E p → Gives (λ (d : Stepped). (d.names ≡ None) ⊎ Left d) (prepared servers i p)
      by (ready h2 s) a = weaker Left (λ (d : Stepped). (d.names ≡ None) ⊎ Left d) (committed (commit servers i s h2)) (ready_asks s h2 a) (λ d u. inr u)
      by (requested h2) a = inl refl
      by nothing a = tt

-- IN ITS CLUSTER

-- where the event asks for none at its server, in entries of a kind, none is asked for once its messages are handed over
pub none_asked : (f : ℕ → ℕ) (Q : EntryView → Type 0) (k : Cluster) (s : Server) (t : ℕ) → IsSound k → FewEvents k → server_at k.servers s.rest.number ≡ Some s → tot (on_sent (asking f)) (things_of k) ≡ 0
    → (enabled k.options s (Step t) ≡ true → (mail : Mailed (Light (asking f)) s.rest.number s.rest.outbox s.rest) → Gives (λ (r : Server × EntryView). Q r.1 → Mailed (Light (asking f)) s.rest.number s.rest.outbox r.0.rest) (does k.code k.options s (Step t)))
    → Gives (λ (d : Cluster × EntryView). Q d.1 → tot (on_sent (asking f)) (things_of d.0) ≡ 0) (apply k (record { server = s.rest.number; what = Step t }))
none_asked f Q k s t sound few here none go =
    subst (λ o. Gives (λ (d : Cluster × EntryView). Q d.1 → tot w (things_of d.0) ≡ 0) (then_some o (λ x. option_map (λ d. (record k { servers = hand_over_newer n (length x.rest.outbox) d.0 k.servers }, d.1)) (done_at k (Step t) x)))) (sym here)
    (handed (done_at k (Step t) s) (test_gives Said (enabled k.options s (Step t)) (does k.code k.options s (Step t)) (λ on. go on (letters_from (asking f) s before))) (each_event_sends k (record { server = n; what = Step t }) sound few s here))
  where
    n : ℕ
    n = s.rest.number

    w : Thing → ℕ
    w = on_sent (asking f)

    Said : Server × EntryView → Type 0
    Said r = Q r.1 → Mailed (Light (asking f)) s.rest.number s.rest.outbox r.0.rest

    before : tot w (server_things s) ≡ 0
    before = omega (arith, none, (tot-server w k.servers n s s here).0)

    handed : (o : Option (Server × EntryView)) → Gives Said o → Gives (λ (r : Server × EntryView). GoTo (with_server k.servers n r.0) (drop_first (length s.rest.outbox) r.0.rest.outbox)) o
        → Gives (λ (d : Cluster × EntryView). Q d.1 → tot w (things_of d.0) ≡ 0) (option_map (λ r. (record k { servers = hand_over_newer n (length s.rest.outbox) r.0 k.servers }, r.1)) o)
    handed None a g = tt
    handed (Some r) a g = λ q.
        let mail = a q in
        let after = letters_to (asking f) r.0 (subst (λ m. AllByRecursion (Light (asking f) m) r.0.rest.inbox) (sym mail.numbered) mail.waiting) mail.leaving in
        let same = hand_over_newer_law w n (length s.rest.outbox) s r.0 k.servers here (go_with k.servers n r.0 (take (length s.rest.outbox) r.0.rest.outbox) (drop_first (length s.rest.outbox) r.0.rest.outbox) g) in
        omega (arith, none, same, (tot-server w k.servers n s r.0 here).0, (tot-server w k.servers n s r.0 here).1, after)
