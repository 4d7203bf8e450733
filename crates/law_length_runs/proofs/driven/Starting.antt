-- Who starts and who moves in a step: no more acts start threads than its plain step has names for, and none moves a thread.
use Rattle.std.proofs.Common.{◌≡◌, ◌≤◌, ℕ, ◌+◌, ◌==◌, Bool, true, false, not, if◌then◌else◌, List, [], ◌∷◌, ◌++◌, Option, Some, None, refl, sym, ap, subst, ◌∙◌, arith}
use Rattle.std.specs.Prelude.{option_map, slice_get, map, filter}
use Rattle.std.proofs.lemmas.List.Elements.{filter_map-append}
use Rattle.law_length_runs.specs.Below.law_counts_things.Below.fr_base.Lists.{tot, one}
use Rattle.law_length_runs.specs.Below.law_counts_things.Below.fr_base.declared.step.Fresh.{Fresh}
use Rattle.law_length_runs.specs.Below.law_counts_things.Below.fr_base.declared.step.Fresh.TheVariants as fresh
use Rattle.law_length_runs.specs.Below.law_counts_things.Below.fr_base.declared.message.Kind.{Kind}
use Rattle.law_length_runs.specs.Below.law_counts_things.Below.fr_base.declared.message.Kind.TheVariants as kind
use Rattle.law_length_runs.specs.Below.law_counts_things.Below.fr_base.declared.instruction.Instr.{Instr}
use Rattle.law_length_runs.specs.Below.law_counts_things.Below.fr_base.declared.instruction.Instr.TheVariants as instr
use Rattle.law_length_runs.specs.Below.law_counts_things.Below.fr_base.declared.settings.Options.{Options}
use Rattle.law_length_runs.specs.Below.law_counts_things.Below.heap_partition.declared.value.Owned.{Owned}
use Rattle.law_length_runs.specs.Below.law_counts_things.Below.heap_partition.declared.value.Owned.TheVariants as owned
use Rattle.law_length_runs.specs.Below.law_counts_things.Below.mutex_home.Mutexes.{can_make}
use Rattle.law_length_runs.specs.Below.law_counts_things.Below.join_home.Tasks.{can_begin, can_begin_pair}
use Rattle.law_length_runs.specs.Below.law_counts_things.Below.thread_state.View.{ThreadState}
use Rattle.law_length_runs.specs.Below.law_counts_things.Below.thread_state.declared.phase.Phase.TheVariants as phase
use Rattle.law_length_runs.specs.Below.law_counts_things.Below.thread_state.declared.value.Value.{Value}
use Rattle.law_length_runs.specs.Below.law_counts_things.Below.thread_state.declared.value.Value.TheVariants as value
use Rattle.law_length_runs.specs.Below.law_counts_things.Below.server_msgs.Messages.{kind_of}
use Rattle.law_length_runs.specs.Below.law_counts_things.Below.server_msgs.declared.message.Message.{Message}
use Rattle.law_length_runs.specs.Below.law_counts_things.Below.server_msgs.declared.message.Message.TheVariants as message
use Rattle.law_length_runs.specs.Below.law_counts_things.Below.global_addr.Words.{server_of}
use Rattle.law_length_runs.specs.Below.law_counts_things.Below.journal.View.{EntryView}
use Rattle.law_length_runs.specs.Below.law_counts_things.Below.journal.declared.act.Act.{Act}
use Rattle.law_length_runs.specs.Below.law_counts_things.Below.journal.declared.act.Act.TheVariants as act
use Rattle.law_length_runs.specs.Below.law_counts_things.Below.coloured_heap.Sends.{Sending, sends, sendings, leaves}
use Rattle.law_length_runs.specs.Below.law_counts_things.Below.server_model.declared.event.What.TheVariants.{Step}
use Rattle.law_length_runs.specs.Below.law_counts_things.Below.server_model.Servers.{Sent, Rest, Server}
use Rattle.law_length_runs.specs.Below.law_counts_things.Below.server_model.Work.{Work, Hand, sent_from, thread_in, then_some, with_phase}
use Rattle.law_length_runs.specs.Below.law_counts_things.Below.server_model.NewWords.{NewWord, can_grow, issue_placed}
use Rattle.law_length_runs.specs.Below.law_counts_things.Below.server_model.Start.{next_thread, start_thread, capture}
use Rattle.law_length_runs.specs.Below.law_counts_things.Below.server_model.Drop.{home_of, give_up}
use Rattle.law_length_runs.specs.Below.law_counts_things.Below.server_model.Prepare.{Prepared, ready, requested, nothing, access_of, prepare}
use Rattle.law_length_runs.specs.Below.law_counts_things.Below.server_model.Commit.{label_dropped, go_on, next_object, push_box, begun, pair_begun, spawn_with, par_with, end_with, done_where, commit, settle}
use Rattle.law_length_runs.specs.Below.law_counts_things.Below.server_model.Events.{Stepped, begin_work, done_step, committed, prepared, step, step_in, stepped, does}
use Rattle.law_length_runs.specs.Below.law_counts_things.Below.coherent_memory.Appended.{AppendsSendings, sending_of, sending_out, stays}
use Rattle.law_length_runs.specs.Below.law_counts_things.Below.law_counts_sums.Laws.{Gives}
use Rattle.law_length_runs.proofs.Below.law_counts_things.Below.law_counts_sums.Results.{then_gives, over_gives, test_gives, both_give}
use Rattle.law_length_runs.proofs.Below.law_counts_things.things.Small.{Of, Places, Small}
use Rattle.law_length_runs.proofs.Below.law_counts_things.things.Plainly.{Settles, moves_by, Acts, EndsStep, steps}
use Rattle.law_length_runs.proofs.Below.law_counts_things.things.Goes.{Any, AnyWord, puts_by}
use Rattle.law_length_runs.proofs.worth.Lists.{tot_append}
use Rattle.law_length_runs.proofs.asked.Steps.{HasAsked, undone_asks}

-- HOW MANY

-- threads that start, or else threads that move: messages, kinds of these, acts, what an instruction starts and names that are taken
abbrev pub messages_of : Bool → Message → ℕ
messages_of b (message.Start t) = one b
messages_of b (message.Migrate t) = one (not b)
messages_of b m = 0

abbrev pub kinds_of : Bool → Kind → ℕ
kinds_of b kind.Start = one b
kinds_of b kind.Migrate = one (not b)
kinds_of b k = 0

abbrev pub acts_of : Bool → Act → ℕ
acts_of b (act.Start t there) = one b
acts_of b (act.Depart t there) = one (not b)
acts_of b a = 0

abbrev pub kids_of : Bool → Instr → ℕ
kids_of true (instr.Spawn cs pc) = 1
kids_of true (instr.Par cs pc ds other) = 2
kids_of b i = 0

abbrev pub named : Option Fresh → ℕ
named (Some (fresh.Thread t)) = 1
named (Some (fresh.Threads t u)) = 2
named names = 0

abbrev pub names_of : Bool → Option Fresh → ℕ
names_of true names = named names
names_of false names = 0

same_kind : (b : Bool) (m : Message) → messages_of b m ≡ kinds_of b (kind_of m)
same_kind b (message.Fetch w o s t) = refl
same_kind b (message.Fetched w c t) = refl
same_kind b (message.Move w o s t) = refl
same_kind b (message.Moved w c t) = refl
same_kind b (message.Drop w o) = refl
same_kind b (message.Lock m s t) = refl
same_kind b (message.Granted m v t) = refl
same_kind b (message.Unlock m v) = refl
same_kind b (message.Dup m s t) = refl
same_kind b (message.Dupped m t) = refl
same_kind b (message.Release r) = refl
same_kind b (message.Start t) = refl
same_kind b (message.Join u s t) = refl
same_kind b (message.Joined u v t) = refl
same_kind b (message.Finished u v) = refl
same_kind b (message.Migrate t) = refl

module _ (b : Bool) where
  abbrev pub out : Sent → ℕ
  out x = messages_of b x.message

  abbrev pub here : Rest → ℕ
  here r = tot (messages_of b) r.inbox + tot out r.outbox

  abbrev pub sent_so : Sending → ℕ
  sent_so m = kinds_of b m.kind

  comes : (r : Rest) (t : ℕ) (m : Message) → here (sent_from r t m) ≡ here r + messages_of b m
  comes r t m = by (t == r.number)
    where
      by : (q : Bool) → here (if q then record r { inbox = r.inbox ++ m ∷ [] } else record r { outbox = r.outbox ++ record { target = t; message = m } ∷ [] }) ≡ here r + messages_of b m
      by true = omega (arith, tot_append (messages_of b) r.inbox (m ∷ []))
      by false = omega (arith, tot_append out r.outbox (record { target = t; message = m } ∷ []))

  -- A STEP'S MESSAGES

  module _ (c : ℕ) (i0 : Instr) where
    -- in the middle of a step, and at its end
    abbrev pub F : Rest → ThreadState → Type 0
    F r t = here r ≤ c

    abbrev pub E : Rest → ThreadState → Type 0
    E r t = (HasAsked t.phase → here r ≤ c) × (here r ≤ c + kids_of b i0)

    -- a message that is no parcel
    posts : (r : Rest) (t : ℕ) (m : Message) → messages_of b m ≡ 0 → here r ≤ c → here (sent_from r t m) ≤ c
    posts r t m z g = omega (arith, g, z, comes r t m)

    gives_up : (v : Owned) (w : Work) → here w.rest ≤ c → here (give_up v w).rest ≤ c
    gives_up (owned.Box p) w g = posts w.rest _ _ refl g
    gives_up (owned.Mutex m) w g = posts w.rest _ _ refl g
    gives_up (owned.Task t) w g = posts w.rest _ _ refl g
    gives_up owned.Nothing w g = g
    gives_up owned.Unit w g = g
    gives_up (owned.Int i) w g = g

    places : Places F Any AnyWord
    places = record {
      spot = λ s v h g e. tt;
      puts = λ s v h z a g. puts_by F (λ vs r t x. x) (λ vs r t x. x) (λ h2 w x g2. g2) s v h g;
      worded = λ w v new a x e. tt;
      word_of = λ r a. tt;
      points = λ v p a e. tt;
    }

    -- at an end where nothing started
    ended : (r : Rest) → here r ≤ c → here r ≤ c + kids_of b i0
    ended r g = omega (arith, g)

    asked : (r : Rest) (t : ℕ) (m : Message) → messages_of b m ≡ 0 → here r ≤ c → (here (sent_from r t m) ≤ c) × (here (sent_from r t m) ≤ c + kids_of b i0)
    asked r t m z g = let l = posts r t m z g in (l, omega (arith, l))

    small : Small F E Any AnyWord
    small = record {
      places = places;
      tints = λ p h a g e. tt;
      renews = λ p h a g e. (tt, g);
      pinned = λ r a. tt;
      pins = λ w h e g. g;
      uses = λ w h e g. g;
      asks_copy = λ p h a e g. (let l = asked h.work.rest (server_of p.word) (message.Fetch p.word p.object h.work.rest.number h.thread.number) refl g in ((λ z. l.0), l.1));
      asks_object = λ p h a e g. (let l = asked h.work.rest (server_of p.word) (message.Move p.word p.object h.work.rest.number h.thread.number) refl g in ((λ z. l.0), l.1));
    }

    over_main : (main : Bool) (v : Owned) (h : Hand) → Of F h → Gives (λ h2. Settles E (with_phase phase.Over h2)) (end_with main v h)
    over_main true v h g = λ cs z. ((λ a. absurd a), (let l = gives_up v (label_dropped (value.Own v) h).work g in omega (arith, l)))
    over_main false v h g = λ cs z. ((λ a. absurd a), (let l = posts h.work.rest h.thread.home (message.Finished h.thread.number v) refl g in omega (arith, l)))

    abbrev Begun : Hand → Type 0
    Begun h2 = here h2.work.rest ≤ c

    one_starts : (servers pc : ℕ) (vs : List Value) (w : Work) → here (start_thread servers pc vs w).rest ≡ here w.rest + one b
    one_starts servers pc vs w = comes (record w.rest { started = w.rest.started + 1 }) _ _

    spawned : (cs : _) (pc : ℕ) → i0 ≡ instr.Spawn cs pc → one b ≤ kids_of b i0
    spawned cs pc e = subst (λ j. one b ≤ kids_of b j) (sym e) (by b)
      where
        by : (q : Bool) → one q ≤ kids_of q (instr.Spawn cs pc)
        by true = omega arith
        by false = omega arith

    paired : (cs : _) (pc : ℕ) (ds : _) (other : ℕ) → i0 ≡ instr.Par cs pc ds other → one b + one b ≤ kids_of b i0
    paired cs pc ds other e = subst (λ j. one b + one b ≤ kids_of b j) (sym e) (by b)
      where
        by : (q : Bool) → one q + one q ≤ kids_of q (instr.Par cs pc ds other)
        by true = omega arith
        by false = omega arith

    acts : (servers : ℕ) → Acts servers F E Any Any AnyWord i0
    acts servers = record {
      places = places;
      number = λ m. tt;
      unit_value = tt;
      nothing_value = tt;
      gone = tt;
      owned_temp = λ v a. tt;
      shared_slot = λ j. tt;
      mutable_slot = λ j. tt;
      second = λ v u a e. tt;
      shared = λ v u a e. tt;
      lent = λ w d e z v u h a g x. tt;
      off_temps = λ h g. g;
      off_slots = λ h g. g;
      on_temps = λ v h a g. g;
      on_slots = λ v h a g. g;
      gives = λ v h a g. gives_up v h.work g;
      unpins = λ w h e g. g;
      gift = λ v h e g. (tt, g);
      boxes = λ o e v h a g.
          over_gives (λ (x : NewWord). here x.work.rest ≤ c) (λ h2. Settles E (go_on h2)) (issue_placed (act.Make (next_object h)) (record { object = next_object h; value = v }) h.work) (λ x. push_box v x h)
          (test_gives (λ (x : NewWord). here x.work.rest ≤ c) (can_grow h.work.rest.partition) _ (λ z. g)) (λ x w cs z. ((λ a2. absurd a2), ended x.work.rest w));
      mutexes = λ o e v h a g. test_gives (λ h2. Settles E (go_on h2)) (can_make h.work.rest.mutexes) _ (λ z cs z2. ((λ a2. absurd a2), ended h.work.rest g));
      spawns = λ cs pc e h g.
          let u = next_thread h.work.rest in
          then_gives (λ h2. Settles E (go_on h2)) (capture false cs.items h.thread.slots) (spawn_with servers pc u h) (λ new q.
          over_gives Begun (λ h2. Settles E (go_on h2)) (begun h) _ (test_gives Begun (can_begin h.work.rest.tasks u) _ (λ z. g))
          (λ h2 x cs2 z. ((λ a. absurd a), (let m = one_starts servers pc new.0 h2.work in let k = spawned cs pc e in omega (arith, x, m, k)))));
      unlocks = λ e m v h a d g. posts h.work.rest m.home (message.Unlock m v) refl g;
      holds = λ w e m a. tt;
      goes = λ o h g cs z. ((λ a. absurd a), ended h.work.rest g);
      pairs = λ cs pc ds other e h g.
          let u = next_thread h.work.rest in
          then_gives (Settles E) (capture true cs.items h.thread.slots) _ (λ first p. then_gives (Settles E) (capture true ds.items first.1) _ (λ second q.
          over_gives Begun (Settles E) (pair_begun h u (u + 1)) _ (test_gives Begun (can_begin_pair h.work.rest.tasks h.thread.number u (u + 1)) _ (λ z. g))
          (λ h2 x cs2 z.
          ((λ a. absurd a), (let m = one_starts servers pc first.0 h2.work in let l = one_starts servers other second.0 (start_thread servers pc first.0 h2.work) in let k = paired cs pc ds other e in omega (arith, x, m, l, k))))));
      ends = λ o e main v h a g. over_main main v h g;
      asks_join = λ o e u h q a g. (let l = asked h.work.rest (home_of u) (message.Join u h.work.rest.number h.thread.number) refl g in ((λ z. l.0), l.1));
      asks_dup = λ w e m h q a g. (let l = asked h.work.rest m.home (message.Dup m h.work.rest.number h.thread.number) refl g in ((λ z. l.0), l.1));
      asks_lock = λ w e m h q a g. (let l = asked h.work.rest m.home (message.Lock m h.work.rest.number h.thread.number) refl g in ((λ z. l.0), l.1));
    }

    step_sends : (servers : ℕ) (h : Hand) → here h.work.rest ≤ c → Gives (EndsStep E) (step servers i0 h)
    step_sends servers h g = steps i0 h (λ f. small) (λ f m h2 u. u) (acts servers) (λ h2 s q u. moves_by i0 s h2 (λ w d v z. tt)) g

-- NAMES

-- a step that is done has the names that its instruction takes
abbrev Names : Instr → Stepped → Type 0
Names i d = (x : Fresh) → d.names ≡ Some x → kids_of true i ≤ named (Some x)

settled : (i : Instr) (x : Fresh) → kids_of true i ≤ named (Some x) → (o : Option Hand) → Gives (Names i) (option_map (done_step x) o)
settled i x l None = tt
settled i x l (Some h) = λ z e. let same : x ≡ z = cc in subst (λ y. kids_of true i ≤ named (Some y)) same l

done_so : (i : Instr) (x : Fresh) → kids_of true i ≤ named (Some x) → (o : Option Hand) → Gives (Names i) (committed (done_where x o))
done_so i x l None = tt
done_so i x l (Some h) = settled i x l (settle h)

none_started : (i : Instr) → kids_of true i ≡ 0 → (o : Option Stepped) → Gives (Names i) o
none_started i z None = tt
none_started i z (Some d) = λ x e. omega (arith, z)

prepared_names : (servers : ℕ) (i : Instr) → ((s : _) (h : Hand) → Gives (Names i) (committed (commit servers i s h))) → (p : Prepared) → Gives (Names i) (prepared servers i p)
prepared_names servers i go (ready h s) = go s h
prepared_names servers i go (requested h) = λ x e. absurd (cc e)
prepared_names servers i go nothing = tt

step_names : (servers : ℕ) (i : Instr) (h : Hand) → Gives (Names i) (step servers i h)
step_names servers (instr.Spawn cs pc) h = prepared_names servers (instr.Spawn cs pc) (λ s g. done_so (instr.Spawn cs pc) (fresh.Thread (next_thread g.work.rest)) (omega arith) (option_map go_on (then_some (capture false cs.items g.thread.slots) (spawn_with servers pc (next_thread g.work.rest) g)))) (prepare (access_of (instr.Spawn cs pc) h.thread) h)
step_names servers (instr.Par cs pc ds other) h =
    prepared_names servers (instr.Par cs pc ds other) (λ s g. done_so (instr.Par cs pc ds other) (fresh.Threads (next_thread g.work.rest) (next_thread g.work.rest + 1)) (omega arith)
    (then_some (capture true cs.items g.thread.slots) (λ first. then_some (capture true ds.items first.1) (par_with servers pc other (next_thread g.work.rest) (next_thread g.work.rest + 1) g first.0)))) (prepare (access_of (instr.Par cs pc ds other) h.thread) h)
step_names servers (instr.Let o) h = none_started (instr.Let o) refl _
step_names servers (instr.Assign w o) h = none_started (instr.Assign w o) refl _
step_names servers (instr.Read w take) h = none_started (instr.Read w take) refl _
step_names servers (instr.Borrow w) h = none_started (instr.Borrow w) refl _
step_names servers (instr.BorrowMut w) h = none_started (instr.BorrowMut w) refl _
step_names servers (instr.Box o) h = none_started (instr.Box o) refl _
step_names servers (instr.Arith f a b) h = none_started (instr.Arith f a b) refl _
step_names servers (instr.Print o) h = none_started (instr.Print o) refl _
step_names servers instr.Discard h = none_started instr.Discard refl _
step_names servers instr.DropSlot h = none_started instr.DropSlot refl _
step_names servers (instr.Join o) h = none_started (instr.Join o) refl _
step_names servers (instr.Mutex o) h = none_started (instr.Mutex o) refl _
step_names servers (instr.Dup w) h = none_started (instr.Dup w) refl _
step_names servers (instr.Lock w) h = none_started (instr.Lock w) refl _
step_names servers instr.Unlock h = none_started instr.Unlock refl _
step_names servers instr.ParEnd h = none_started instr.ParEnd refl _
step_names servers (instr.End o) h = none_started (instr.End o) refl _

-- A STEP AT ITS SERVER

-- no more messages than the step has names
abbrev Few : Bool → ℕ → Stepped → Type 0
Few b c d = here b d.hand.work.rest ≤ c + names_of b d.names

few_kids : (b : Bool) (i : Instr) (x : Fresh) → kids_of true i ≤ named (Some x) → kids_of b i ≤ names_of b (Some x)
few_kids true i x l = l
few_kids false i x l = omega arith

step_few : (b : Bool) (c servers : ℕ) (i : Instr) (h : Hand) → here b h.work.rest ≤ c → Gives (Few b c) (step servers i h)
step_few b c servers i h g =
    both_give (λ (d : Stepped). EndsStep (E b c i) d × Names i d) (λ (d : Stepped). d.names ≡ None → HasAsked d.hand.thread.phase) (Few b c) (step servers i h)
    (both_give (EndsStep (E b c i)) (Names i) (λ (d : Stepped). EndsStep (E b c i) d × Names i d) (step servers i h) (step_sends b c i servers h g) (step_names servers i h) (λ d u v. (u, v)))
    (undone_asks servers i h) (λ d u v. by d d.names refl u.0 u.1 v)
  where
    by : (d : Stepped) (o : Option Fresh) → d.names ≡ o → EndsStep (E b c i) d → Names i d → (d.names ≡ None → HasAsked d.hand.thread.phase) → Few b c d
    by d None e u v z = (let l = u.0 (z e) in omega (arith, l))
    by d (Some x) e u v z =
        let l = u.1 in
        let k = few_kids b i x (v x e) in
        let same : names_of b d.names ≡ names_of b (Some x) = ap (names_of b) e in
        omega (arith, l, k, same)

module _ (code : List Instr) (o : Options) (s : Server) (b : Bool) where
  abbrev pub Sends : Server × EntryView → Type 0
  Sends r = here b r.0.rest ≤ here b s.rest + names_of b r.1.done

  pub stepping : (t : ℕ) → Gives Sends (does code o s (Step t))
  stepping t = by (thread_in s.threads t)
    where
      by : (x : Option ThreadState) → Gives Sends (option_map (stepped s) (then_some (option_map (λ y. record { work = begin_work s.rest; thread = y }) x) (step_in code o.servers)))
      by None = tt
      by (Some y) =
          let h : Hand = record { work = begin_work s.rest; thread = y } in
          over_gives (Few b (here b s.rest)) Sends (step_in code o.servers h) (stepped s)
          (then_gives (Few b (here b s.rest)) (slice_get code y.pc) (λ i. step o.servers i h) (λ i z. step_few b (here b s.rest) o.servers i h (omega arith))) (λ d a. a)

-- ACTS

-- sums over lists that are parted, and over what stands for them
parted : (f : Sending → ℕ) (n : ℕ) (ss : List Sending) → tot f (filter (stays n) ss) + tot f (filter (leaves n) ss) ≡ tot f ss
parted f n [] = refl
parted f n (x ∷ ss) = by (x.target == n) (parted f n ss)
  where
    by : (q : Bool) → tot f (filter (stays n) ss) + tot f (filter (leaves n) ss) ≡ tot f ss
        → tot f (if q then x ∷ filter (stays n) ss else filter (stays n) ss) + tot f (if not q then x ∷ filter (leaves n) ss else filter (leaves n) ss) ≡ tot f (x ∷ ss)
    by true g = omega (arith, g)
    by false g = omega (arith, g)

mapped : {A B : Type 0} (f : A → B) (g : A → ℕ) (h : B → ℕ) → ((a : A) → g a ≡ h (f a)) → (xs : List A) → tot g xs ≡ tot h (map f xs)
mapped f g h same [] = refl
mapped f g h same (x ∷ xs) = omega (arith, same x, mapped f g h same xs)

abbrev listed : {X : Type 0} (f : X → ℕ) → Option X → ℕ
listed f None = 0
listed f (Some x) = f x

one_act : (b : Bool) (a : Act) → acts_of b a ≤ listed (sent_so b) (sends a)
one_act b (act.Start t there) = omega arith
one_act b (act.Depart t there) = omega arith
one_act b (act.Make p w) = omega arith
one_act b (act.Local p w) = omega arith
one_act b (act.Hit p w) = omega arith
one_act b (act.Ask p w) = omega arith
one_act b (act.Serve p w there) = omega arith
one_act b (act.Fill p w) = omega arith
one_act b (act.Pull p w) = omega arith
one_act b (act.Give p w there) = omega arith
one_act b (act.Take p old new) = omega arith
one_act b (act.Tint p old new) = omega arith
one_act b (act.Renew p old new) = omega arith
one_act b (act.Condemn p w) = omega arith
one_act b (act.Free p w) = omega arith
one_act b (act.Evict w) = omega arith
one_act b (act.AskLock m) = omega arith
one_act b (act.Grant m t there) = omega arith
one_act b (act.GiveBack m) = omega arith
one_act b (act.AskDup m) = omega arith
one_act b (act.Dupped m t there) = omega arith
one_act b (act.LetGo x) = omega arith
one_act b (act.AskJoin t) = omega arith
one_act b (act.Answer t asker there) = omega arith
one_act b (act.Finish t) = omega arith

-- what one act sends
abbrev as_list : Option Sending → List Sending
as_list None = []
as_list (Some x) = x ∷ []

alone : (a : Act) (o : Option Sending) → sends a ≡ o → sendings (a ∷ []) ≡ as_list o
alone a None e = cc
alone a (Some x) e = cc

weighed : (f : Sending → ℕ) (o : Option Sending) → tot f (as_list o) ≡ listed f o
weighed f None = refl
weighed f (Some x) = omega arith

-- each act of that kind sends such a message
acts_send : (b : Bool) (acts : List Act) → tot (acts_of b) acts ≤ tot (sent_so b) (sendings acts)
acts_send b [] = omega arith
acts_send b (a ∷ acts) =
    let first : sendings (a ∷ acts) ≡ as_list (sends a) ++ sendings acts = filter_map-append sends (a ∷ []) acts ∙ ap (λ l. l ++ sendings acts) (alone a (sends a) refl) in
    omega (arith, ap (tot (sent_so b)) first, tot_append (sent_so b) (as_list (sends a)) (sendings acts), weighed (sent_so b) (sends a), one_act b a, acts_send b acts)

-- so a step has no more such acts than names
pub few_acts : (b : Bool) (t : ℕ) (s : Server) (r : Server × EntryView) → AppendsSendings (Step t) s r.0 r.1.acts → here b r.0.rest ≤ here b s.rest + names_of b r.1.done → tot (acts_of b) r.1.acts ≤ names_of b r.1.done
few_acts b t s r a l =
    let n = s.rest.number in
    let inbox = ap (tot (messages_of b)) a.waiting in
    let outbox = ap (tot (out b)) a.outbox in
    let own = mapped (sending_of n) (messages_of b) (sent_so b) (same_kind b) a.own in
    let others = mapped sending_out (out b) (sent_so b) (λ x. same_kind b x.message) a.others in
    let own_is = ap (tot (sent_so b)) a.own_sendings in
    let others_is = ap (tot (sent_so b)) a.other_sendings in
    omega (
      arith,
      l,
      inbox,
      outbox,
      tot_append (messages_of b) s.rest.inbox a.own,
      tot_append (out b) s.rest.outbox a.others,
      own,
      others,
      own_is,
      others_is,
      parted (sent_so b) n (sendings r.1.acts),
      acts_send b r.1.acts,
    )
