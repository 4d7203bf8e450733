-- A step that is done starts two threads at most, and one that asks none.
use Rattle.std.proofs.Common.{◌≡◌, ◌≤◌, ℕ, ◌+◌, ◌*◌, Bool, true, false, List, Option, Some, None, refl, subst, ◌∙◌, arith}
use Rattle.std.specs.Prelude.{option_map, is_some}
use Rattle.std.specs.Bool.{⊤}
use Rattle.law_runs_whole.specs.Below.law_counts_things.Below.fr_base.Lists.{one}
use Rattle.law_runs_whole.specs.Below.law_counts_things.Below.fr_base.declared.step.Fresh.{Fresh}
use Rattle.law_runs_whole.specs.Below.law_counts_things.Below.fr_base.declared.instruction.Instr.{Instr}
use Rattle.law_runs_whole.specs.Below.law_counts_things.Below.fr_base.declared.instruction.Instr.TheVariants as instr
use Rattle.law_runs_whole.specs.Below.law_counts_things.Below.heap_partition.declared.value.Owned.{Owned}
use Rattle.law_runs_whole.specs.Below.law_counts_things.Below.heap_partition.declared.value.Owned.TheVariants as owned
use Rattle.law_runs_whole.specs.Below.law_counts_things.Below.mutex_home.Mutexes.{can_make}
use Rattle.law_runs_whole.specs.Below.law_counts_things.Below.join_home.Tasks.{can_begin, can_begin_pair}
use Rattle.law_runs_whole.specs.Below.law_counts_things.Below.thread_state.View.{ThreadState}
use Rattle.law_runs_whole.specs.Below.law_counts_things.Below.thread_state.declared.phase.Phase.{Phase}
use Rattle.law_runs_whole.specs.Below.law_counts_things.Below.thread_state.declared.phase.Phase.TheVariants as phase
use Rattle.law_runs_whole.specs.Below.law_counts_things.Below.thread_state.declared.value.Value.{Value}
use Rattle.law_runs_whole.specs.Below.law_counts_things.Below.thread_state.declared.value.Value.TheVariants as value
use Rattle.law_runs_whole.specs.Below.law_counts_things.Below.server_msgs.declared.message.Message.TheVariants as message
use Rattle.law_runs_whole.specs.Below.journal.declared.act.Act.TheVariants as act
use Rattle.law_runs_whole.specs.Below.law_counts_things.Below.global_addr.Words.{server_of}
use Rattle.law_runs_whole.specs.Below.server_model.Servers.{Rest}
use Rattle.law_runs_whole.specs.Below.server_model.Work.{Work, Hand, with_phase}
use Rattle.law_runs_whole.specs.Below.server_model.NewWords.{NewWord, can_grow, issue_placed}
use Rattle.law_runs_whole.specs.Below.server_model.Start.{next_thread, start_thread, capture}
use Rattle.law_runs_whole.specs.Below.server_model.Drop.{give_up}
use Rattle.law_runs_whole.specs.Below.server_model.Places.{Spot}
use Rattle.law_runs_whole.specs.Below.server_model.Prepare.{Prepared, ready, requested, nothing, access_of, prepare}
use Rattle.law_runs_whole.specs.Below.server_model.Commit.{Committed, done, waits, refused, label_dropped, done_where, go_on, next_object, push_box, begun, pair_begun, spawn_with, end_with, waiting, ask_join, ask_dup, ask_lock, mutex_at, join, dup, lock, commit}
use Rattle.law_runs_whole.specs.Below.server_model.Events.{Stepped, done_step, committed, prepared, step}
use Rattle.law_runs_whole.specs.Below.law_counts_sums.Laws.{Gives}
use Rattle.law_runs_whole.proofs.Below.law_counts_sums.Quiet.{sent_started}
use Rattle.law_runs_whole.proofs.Below.law_counts_sums.Results.{then_gives, over_gives, test_gives, both_give}
use Rattle.law_runs_whole.proofs.Below.law_counts_things.things.Small.{Of, Places, Small, Made, prepare_makes}
use Rattle.law_runs_whole.proofs.Below.law_counts_things.things.Plainly.{Settles, moves_by, Acts, EndsStep, steps}
use Rattle.law_runs_whole.proofs.Below.law_counts_things.things.Goes.{Any, AnyWord, puts_by}

-- a thread that has asked
abbrev pub HasAsked : Phase → Type 0
HasAsked (phase.WaitCell w) = ⊤
HasAsked (phase.WaitLock m) = ⊤
HasAsked (phase.WaitDup m) = ⊤
HasAsked (phase.WaitJoin u) = ⊤
HasAsked p = ⊥

-- what is let go starts no thread
pub gives_up_started : (v : Owned) (w : Work) → (give_up v w).rest.started ≡ w.rest.started
gives_up_started (owned.Box p) w = sent_started w.rest _ _
gives_up_started (owned.Mutex n) w = sent_started w.rest _ _
gives_up_started (owned.Task t) w = sent_started w.rest _ _
gives_up_started owned.Nothing w = refl
gives_up_started owned.Unit w = refl
gives_up_started (owned.Int n) w = refl

-- a thread that starts
one_starts : (servers pc : ℕ) (vs : List Value) (w : Work) → (start_thread servers pc vs w).rest.started ≡ w.rest.started + 1
one_starts servers pc vs w = sent_started (record w.rest { started = w.rest.started + 1 }) _ _

module _ (n : ℕ) where
  -- in the middle of a step
  abbrev pub F : Rest → ThreadState → Type 0
  F r t = r.started ≡ n

  -- at its end
  abbrev pub E : Rest → ThreadState → Type 0
  E r t = (HasAsked t.phase → r.started ≡ n) × (r.started ≤ n + 2)

  pub places : Places F Any AnyWord
  places = record {
    spot = λ s v h g e. tt;
    puts = λ s v h z a g. puts_by F (λ vs r t x. x) (λ vs r t x. x) (λ h2 w x g2. g2) s v h g;
    worded = λ w v new a x e. tt;
    word_of = λ r a. tt;
    points = λ v p a e. tt;
  }

  -- a thread that asks
  asks : (h : Hand) → h.work.rest.started ≡ n → Of E h
  asks h g = ((λ a. g), omega (arith, g))

  small : Small F E Any AnyWord
  small = record {
    places = places;
    tints = λ p h a g e. tt;
    renews = λ p h a g e. (tt, g);
    pinned = λ r a. tt;
    pins = λ w h e g. g;
    uses = λ w h e g. g;
    asks_copy = λ p h a e g. ((λ z. sent_started h.work.rest _ _ ∙ g), (let q = sent_started h.work.rest (server_of p.word) (message.Fetch p.word p.object h.work.rest.number h.thread.number) in omega (arith, g, q)));
    asks_object = λ p h a e g. ((λ z. sent_started h.work.rest _ _ ∙ g), (let q = sent_started h.work.rest (server_of p.word) (message.Move p.word p.object h.work.rest.number h.thread.number) in omega (arith, g, q)));
  }

  over_main : (main : Bool) (v : Owned) (h : Hand) → Of F h → Gives (λ h2. Settles E (with_phase phase.Over h2)) (end_with main v h)
  over_main true v h g = λ cs z. ((λ a. absurd a), (let q = gives_up_started v (label_dropped (value.Own v) h).work in omega (arith, g, q)))
  over_main false v h g = λ cs z. ((λ a. absurd a), (let q = sent_started h.work.rest h.thread.home (message.Finished h.thread.number v) in omega (arith, g, q)))

  -- threads that are noted
  abbrev Begun : Hand → Type 0
  Begun h2 = h2.work.rest.started ≡ n

  acts : (servers : ℕ) (i : Instr) → Acts servers F E Any Any AnyWord i
  acts servers i = record {
    places = places;
    number = λ m. tt;
    unit_value = tt;
    nothing_value = tt;
    gone = tt;
    owned_temp = λ v a. tt;
    shared_slot = λ j. tt;
    mutable_slot = λ j. tt;
    second = λ v u a e. tt;
    shared = λ v u a e. tt;
    lent = λ w d e z v u h a g x. tt;
    off_temps = λ h g. g;
    off_slots = λ h g. g;
    on_temps = λ v h a g. g;
    on_slots = λ v h a g. g;
    gives = λ v h a g. gives_up_started v h.work ∙ g;
    unpins = λ w h e g. g;
    gift = λ v h e g. (tt, g);
    boxes = λ o e v h a g.
        over_gives (λ (x : NewWord). x.work.rest.started ≡ n) (λ h2. Settles E (go_on h2)) (issue_placed (act.Make (next_object h)) (record { object = next_object h; value = v }) h.work) (λ x. push_box v x h)
        (test_gives (λ (x : NewWord). x.work.rest.started ≡ n) (can_grow h.work.rest.partition) _ (λ z. g)) (λ x w cs z. ((λ a2. absurd a2), omega (arith, w)));
    mutexes = λ o e v h a g. test_gives (λ h2. Settles E (go_on h2)) (can_make h.work.rest.mutexes) _ (λ z cs z2. ((λ a2. absurd a2), omega (arith, g)));
    spawns = λ cs pc e h g.
        let u = next_thread h.work.rest in
        then_gives (λ h2. Settles E (go_on h2)) (capture false cs.items h.thread.slots) (spawn_with servers pc u h) (λ new q.
        over_gives Begun (λ h2. Settles E (go_on h2)) (begun h) _ (test_gives Begun (can_begin h.work.rest.tasks u) _ (λ z. g)) (λ h2 x cs2 z. ((λ a. absurd a), (let m = one_starts servers pc new.0 h2.work in omega (arith, x, m)))));
    unlocks = λ e m v h a d g. sent_started h.work.rest _ _ ∙ g;
    holds = λ w e m a. tt;
    goes = λ o h g cs z. ((λ a. absurd a), omega (arith, g));
    pairs = λ cs pc ds other e h g.
        let u = next_thread h.work.rest in
        then_gives (Settles E) (capture true cs.items h.thread.slots) _ (λ first p. then_gives (Settles E) (capture true ds.items first.1) _ (λ second q.
        over_gives Begun (Settles E) (pair_begun h u (u + 1)) _ (test_gives Begun (can_begin_pair h.work.rest.tasks h.thread.number u (u + 1)) _ (λ z. g))
        (λ h2 x cs2 z.
        ((λ a. absurd a), (let m = one_starts servers pc first.0 h2.work in let l = one_starts servers other second.0 (start_thread servers pc first.0 h2.work) in omega (arith, x, m, l))))));
    ends = λ o e main v h a g. over_main main v h g;
    asks_join = λ o e u h q a g. asks (ask_join h u) (sent_started h.work.rest _ _ ∙ g);
    asks_dup = λ w e m h q a g. asks (ask_dup h m) (sent_started h.work.rest _ _ ∙ g);
    asks_lock = λ w e m h q a g. asks (ask_lock h m) (sent_started h.work.rest _ _ ∙ g);
  }

  pub step_starts : (servers : ℕ) (i : Instr) (h : Hand) → Of F h → Gives (EndsStep E) (step servers i h)
  step_starts servers i h g = steps i h (λ f. small) (λ f m h2 u. u) (acts servers i) (λ h2 s q u. moves_by i s h2 (λ w d v z. tt)) g

-- WHO HAS ASKED

-- what is done has names
no_wait : (names : Fresh) (o : Option Hand) (h : Hand) → done_where names o ≡ waits h → ⊥
no_wait names None h e = absurd (cc e)
no_wait names (Some g) h e = absurd (cc e)

waits_so : {g h : Hand} → waits g ≡ waits h → g ≡ h
waits_so e = cc

-- a request to a home
by_waiting : {X : Type 0} (f : X → Hand) → ((x : X) → HasAsked (f x).thread.phase) → (o : Option X) (h : Hand) → waiting (option_map f o) ≡ waits h → HasAsked h.thread.phase
by_waiting f asked None h e = absurd (cc e)
by_waiting f asked (Some x) h e = subst (λ (g : Hand). HasAsked g.thread.phase) (waits_so e) (asked x)

commit_waits : (servers : ℕ) (i : Instr) (s : Spot) (h h2 : Hand) → commit servers i s h ≡ waits h2 → HasAsked h2.thread.phase
commit_waits servers (instr.Let o) s h h2 e = absurd (no_wait _ _ h2 e)
commit_waits servers (instr.Assign w o) s h h2 e = absurd (no_wait _ _ h2 e)
commit_waits servers (instr.Read w take) s h h2 e = absurd (no_wait _ _ h2 e)
commit_waits servers (instr.Borrow w) s h h2 e = absurd (no_wait _ _ h2 e)
commit_waits servers (instr.BorrowMut w) s h h2 e = absurd (no_wait _ _ h2 e)
commit_waits servers (instr.Box o) s h h2 e = absurd (no_wait _ _ h2 e)
commit_waits servers (instr.Arith f a b) s h h2 e = absurd (no_wait _ _ h2 e)
commit_waits servers (instr.Print o) s h h2 e = absurd (no_wait _ _ h2 e)
commit_waits servers instr.Discard s h h2 e = absurd (no_wait _ _ h2 e)
commit_waits servers instr.DropSlot s h h2 e = absurd (no_wait _ _ h2 e)
commit_waits servers (instr.Spawn cs pc) s h h2 e = absurd (no_wait _ _ h2 e)
commit_waits servers (instr.Join o) s h h2 e = by h.thread.gift e
  where
    by : (g : Option Owned) → join o g h ≡ waits h2 → HasAsked h2.thread.phase
    by None f = by_waiting (ask_join h) (λ u. tt) _ h2 f
    by (Some v) f = absurd (no_wait _ _ h2 f)
commit_waits servers (instr.Mutex o) s h h2 e = absurd (no_wait _ _ h2 e)
commit_waits servers (instr.Dup w) s h h2 e = by h.thread.gift e
  where
    by : (g : Option Owned) → dup s g h ≡ waits h2 → HasAsked h2.thread.phase
    by None f = by_waiting (ask_dup h) (λ u. tt) (mutex_at h s) h2 f
    by (Some v) f = absurd (no_wait _ _ h2 f)
commit_waits servers (instr.Lock w) s h h2 e = by h.thread.gift e
  where
    by : (g : Option Owned) → lock s g h ≡ waits h2 → HasAsked h2.thread.phase
    by None f = by_waiting (ask_lock h) (λ u. tt) (mutex_at h s) h2 f
    by (Some v) f = absurd (no_wait _ _ h2 f)
commit_waits servers instr.Unlock s h h2 e = absurd (no_wait _ _ h2 e)
commit_waits servers (instr.Par cs pc ds other) s h h2 e = absurd (no_wait _ _ h2 e)
commit_waits servers instr.ParEnd s h h2 e = absurd (no_wait _ _ h2 e)
commit_waits servers (instr.End o) s h h2 e = absurd (no_wait _ _ h2 e)

-- making a place ready asks for a word
abbrev Always : Rest → ThreadState → Type 0
Always r t = ⊤

abbrev Asked : Rest → ThreadState → Type 0
Asked r t = HasAsked t.phase

asks_words : Small Always Asked Any AnyWord
asks_words = record {
  places = record { spot = λ s v h g e. tt; puts = λ s v h z a g. puts_by Always (λ vs r t x. tt) (λ vs r t x. tt) (λ h2 w x g2. tt) s v h tt; worded = λ w v new a x e. tt; word_of = λ r a. tt; points = λ v p a e. tt };
  tints = λ p h a g e. tt;
  renews = λ p h a g e. (tt, tt);
  pinned = λ r a. tt;
  pins = λ w h e g. tt;
  uses = λ w h e g. tt;
  asks_copy = λ p h a e g. tt;
  asks_object = λ p h a e g. tt;
}

-- a step that isn't done has asked
pub undone_asks : (servers : ℕ) (i : Instr) (h : Hand) → Gives (λ (d : Stepped). d.names ≡ None → HasAsked d.hand.thread.phase) (step servers i h)
undone_asks servers i h = by (prepare (access_of i h.thread) h) (prepare_makes (access_of i h.thread) h (λ f. asks_words) (λ f m h2 u. tt) tt)
  where
    Undone : Stepped → Type 0
    Undone d = d.names ≡ None → HasAsked d.hand.thread.phase

    settles : (names : Fresh) (o : Option Hand) → Gives Undone (option_map (done_step names) o)
    settles names None = tt
    settles names (Some g) = λ e. absurd (cc e)

    of_commit : (c : Committed) → ((g : Hand) → c ≡ waits g → HasAsked g.thread.phase) → Gives Undone (committed c)
    of_commit (done names g) f = settles names _
    of_commit (waits g) f = λ e. f g refl
    of_commit refused f = tt

    by : (p : Prepared) → Made Always Asked p → Gives Undone (prepared servers i p)
    by (ready g s) a = of_commit (commit servers i s g) (λ u e. commit_waits servers i s g u e)
    by (requested g) a = λ e. a
    by nothing a = tt

-- so a step starts two threads at most, and none where it isn't done
pub few_start : (n servers : ℕ) (i : Instr) (h : Hand) → h.work.rest.started ≡ n → Gives (λ (d : Stepped). d.hand.work.rest.started ≤ n + 2 * one (is_some d.names)) (step servers i h)
few_start n servers i h g =
    both_give (EndsStep (E n)) (λ (d : Stepped). d.names ≡ None → HasAsked d.hand.thread.phase) (λ (d : Stepped). d.hand.work.rest.started ≤ n + 2 * one (is_some d.names)) (step servers i h) (step_starts n servers i h g) (undone_asks servers i h)
    (λ d a b. by d d.names a b)
  where
    by : (d : Stepped) (o : Option Fresh) → EndsStep (E n) d → (o ≡ None → HasAsked d.hand.thread.phase) → d.hand.work.rest.started ≤ n + 2 * one (is_some o)
    by d None a b = (let e = a.0 (b refl) in omega (arith, e))
    by d (Some names) a b = (let l = a.1 in omega (arith, l))
