-- Steps that start threads: what went and came, and what the cluster answers then.
use Rattle.std.proofs.Common.{◌≡◌, ℕ, ◌+◌, ◌≤◌, ◌==◌, ◌&&◌, nat_le, not, Bool, true, false, if◌then◌else◌, List, [], ◌∷◌, ◌++◌, Option, Some, None, is_some, is_none, refl, sym, ap, ap₂, ◌∙◌, arith, append-nil}
use Rattle.law_words_ends.specs.Below.fr_base.declared.name.MutexNo.{MutexNo}
use Rattle.law_words_ends.specs.Below.fr_base.declared.label.Label.TheVariants as label
use Rattle.law_words_ends.specs.Below.thread_state.View.{ThreadState, new_thread, is_over}
use Rattle.law_words_ends.specs.Below.thread_state.declared.value.Value.{Value}
use Rattle.law_words_ends.specs.Below.join_home.Tasks.{Task, TaskState, noted}
use Rattle.law_words_ends.specs.Below.server_msgs.declared.message.Message.{Message}
use Rattle.law_words_ends.specs.Below.server_msgs.declared.message.Message.TheVariants as message
use Rattle.law_words_ends.specs.Below.journal.declared.act.Act.{Act}
use Rattle.law_words_ends.specs.Below.journal.declared.act.Act.TheVariants as act
use Rattle.law_words_ends.specs.Below.server_model.Servers.{Rest, Server, Cluster, server_at}
use Rattle.law_words_ends.specs.Below.server_model.Work.{Work, Hand, working, with_tasks, thread_in}
use Rattle.law_words_ends.specs.Below.server_model.Start.{next_thread, server_for, start_thread}
use Rattle.law_entries_variables.specs.Below.coloured_heap.Heap.{Running, Coloured}
use Rattle.law_entries_variables.proofs.Below.coloured_heap.Times.{number_is}
use Rattle.law_words_ends.specs.Below.coherent_memory.Names.{tot, one, if_so}
use Rattle.law_words_ends.specs.Below.coherent_memory.Things.{Thing, sent, stands, noted as notes_it, things_at, slot_things, task_things, things_of}
use Rattle.law_words_ends.specs.Below.coherent_memory.Follow.{Standing, threads_in, thread_at}
use Rattle.law_words_ends.specs.Below.coherent_memory.Sight.{sight}
use Rattle.law_words_ends.specs.Below.coherent_memory.Naming.{started_at, made_at}
use Rattle.law_words_ends.specs.Below.coherent_memory.Weights.{is_thread}
use Rattle.law_words_ends.specs.Below.coherent_memory.OneHeap.{is_given_thread}
use Rattle.law_words_ends.specs.Below.coherent_memory.Colours.{StandsColoured, running_of}
use Rattle.law_words_ends.specs.Below.coherent_memory.Coherent.{IsSound}
use Rattle.law_words_ends.proofs.Below.law_counts_sums.Trades.{Trade, tot-append, tot-push}
use Rattle.law_words_ends.proofs.Below.law_counts_sums.Bags.{counts_of, body_things, rest_things, of_sending, of_tasks, sent_number}
use Rattle.law_entries_variables.specs.Below.law_heap_still.events.Shows.{ShownThread}
use Rattle.law_entries_variables.proofs.Below.law_heap_still.events.Told.{told, ones, at_most, at_thread, thread_told}
use Rattle.law_words_ends.specs.Below.law_words_paths.words.Unmoved.{LeavesWords}
use Rattle.law_entries_variables.proofs.deliveries.Answers.{answers_of, Agrees}
use Rattle.law_entries_variables.proofs.deliveries.Weighed.{Seen, WorkTurns, thread_seen}
use Rattle.law_entries_variables.proofs.deliveries.Shown.{if_some, holder_by, runs, running_as, running_after, there_in}
use Rattle.law_entries_variables.proofs.deliveries.After.{Follows, made_still, there_less}
use Rattle.law_entries_variables.proofs.still.Kept.{masked_of}
use Rattle.law_entries_variables.proofs.still.Settled.{none_held}
use Rattle.law_entries_variables.proofs.variables.Turning.{loud, Turning}
use Rattle.law_entries_variables.proofs.variables.Holders.{gifted, gifted_seen, Others, holder_still}
use Rattle.law_entries_variables.proofs.variables.Aside.{Aside, objects_same, copies_same, served_same, issued_same, wishes_same}
use Rattle.law_entries_variables.proofs.variables.Quiets.{runs_on}
use Rattle.law_entries_variables.proofs.variables.NewThreads.{runner, given_upto, given_after}

-- WHAT WENT AND CAME

-- the same things in other lists
pub turning_as : (s : Server) (y : ThreadState) (olds news olds2 news2 : List Thing) (acts : List Act) (h : Hand) → ((f : Thing → ℕ) → tot f olds + tot f news2 ≡ tot f olds2 + tot f news) → Turning s y olds news acts h → Turning s y olds2 news2 acts h
turning_as s y olds news olds2 news2 acts h e t = record { named = t.named; number = t.number; noted = t.noted; labels = t.labels; things = λ f i. omega (arith, t.things f i, e f) }

-- a thread starts without marks
pub starts_turned : (s : Server) (y : ThreadState) (olds news : List Thing) (acts : List Act) (h : Hand) (servers pc : ℕ) (vs : List Value) → ((f : Thing → ℕ) → Seen f → (t : ℕ) → tot f (things_at (slot_things 0 t) 0 vs) ≡ 0) → Turning s y olds news acts h
    → Turning s y (olds ++ counts_of h.work.rest.number 0 h.work.rest ∷ [])
    (news ++ counts_of h.work.rest.number 0 (record h.work.rest { started = h.work.rest.started + 1 }) ∷ sent (server_for servers h.work.rest) (message.Start (new_thread (next_thread h.work.rest) pc vs))
    ∷ stands (server_for servers h.work.rest) true (new_thread (next_thread h.work.rest) pc vs) ∷ [])
    (acts ++ act.Start (next_thread h.work.rest) (server_for servers h.work.rest) ∷ []) (working (start_thread servers pc vs) h)
starts_turned s y olds news acts h servers pc vs none t = record {
  named = t.named;
  number = sent_number r1 to it ∙ t.number;
  noted = ap (λ l. l ++ act.Start u to ∷ []) t.noted;
  labels = omega (arith, t.labels, tot-append loud h.work.labels (label.Start u ∷ []));
  things = λ f i.
      let n = s.rest.number in
      let trade = of_sending m 0 r1 refl to it in
      let body : tot f (body_things m r1) ≡ tot f (body_things m h.work.rest) = refl in
      let before : tot f (rest_things m 0 h.work.rest) ≡ tot f (rest_things n 0 h.work.rest) = ap (λ j. tot f (rest_things j 0 h.work.rest)) t.number in
      let after : tot f (rest_things m 0 r4) ≡ tot f (rest_things n 0 r4) = ap (λ j. tot f (rest_things j 0 r4)) t.number in
      omega (
        arith,
        t.things f i,
        before,
        after,
        body,
        trade.before f,
        trade.after f,
        thread_seen f i to true nt,
        none f i u,
        tot-append f olds (counts_of m 0 h.work.rest ∷ []),
        tot-append f news (counts_of m 0 r1 ∷ sent to it ∷ stands to true nt ∷ []),
      );
}
  where
    m : ℕ
    m = h.work.rest.number

    u : ℕ
    u = next_thread h.work.rest

    to : ℕ
    to = server_for servers h.work.rest

    nt : ThreadState
    nt = new_thread u pc vs

    it : Message
    it = message.Start nt

    r1 : Rest
    r1 = record h.work.rest { started = h.work.rest.started + 1 }

    r4 : Rest
    r4 = (start_thread servers pc vs h.work).rest

-- a thread is noted, and nobody has its result yet
pub noted_turns : (x : Work) (u : ℕ) (z : TaskState) → ((f : Thing → ℕ) → Seen f → tot f (task_things x.rest.number 0 (record { thread = u; state = z })) ≡ f (notes_it x.rest.number (record { thread = u; state = z })))
    → WorkTurns x [] (notes_it x.rest.number (record { thread = u; state = z }) ∷ []) [] (with_tasks (noted x.rest.tasks u z) x)
noted_turns x u z seen = record {
  number = refl;
  noted = sym (append-nil x.acts);
  labels = refl;
  things = λ f i.
      let n = x.rest.number in
      let new : Task = record { thread = u; state = z } in
      let pushed : Trade (things_at (task_things n) 0 x.rest.tasks) [] (task_things n 0 new) (things_at (task_things n) 0 (noted x.rest.tasks u z)) =
      record { rest = things_at (task_things n) 0 x.rest.tasks; before = λ g. omega arith; after = λ g. omega (arith, tot-push (task_things n) g x.rest.tasks 0 new) } in
      let t = of_tasks n 0 x.rest (noted x.rest.tasks u z) pushed in
      omega (arith, t.before f, t.after f, seen f i);
}

-- WHO RUNS

runs_seen : (g : Running → ℕ) (t : ℕ) → Seen (runs g t)
runs_seen g t = record { held = λ p v. refl; shared = λ l q. refl; lent = λ l q. refl; flown = λ v c. refl; used = λ r v. refl; loose = λ u i o. refl; counted = λ r b q s o e. refl; unused = λ i d u. refl }

number_seen : (t : ℕ) → Seen (is_thread t)
number_seen t = record { held = λ p v. refl; shared = λ l q. refl; lent = λ l q. refl; flown = λ v c. refl; used = λ r v. refl; loose = λ u i o. refl; counted = λ r b q s o e. refl; unused = λ i d u. refl }

begun_seen : (s n : ℕ) → Seen (started_at s n)
begun_seen s n = record { held = λ p v. refl; shared = λ l q. refl; lent = λ l q. refl; flown = λ v c. refl; used = λ r v. refl; loose = λ t i o. refl; counted = λ r b q t o e. refl; unused = λ i d u. refl }

-- who stands nowhere doesn't run
pub none_runs : (k : Cluster) (u : ℕ) → tot (is_thread u) (things_of k) ≡ 0 → running_of (sight k) u ≡ None
none_runs k u z =
    ap (running_as u) (by (thread_at (threads_in (things_of k)) u) (let l = at_most (at_thread ones u) (is_thread u) less (things_of k) in let e = thread_told ones u (things_of k) (omega (arith, z)) in omega (arith, l, e, z)))
  where
    once : (b : Bool) → if_so b 1 ≤ one b
    once true = omega arith
    once false = omega arith

    less : (x : Thing) → at_thread ones u x ≤ is_thread u x
    less (stands r p x) = once (x.number == u)
    less _ = omega arith

    by : (o : Option Standing) → told ones o ≡ 0 → o ≡ None
    by None e = refl
    by (Some x) e = absurd (cc e)

-- one more runs
pub more_runs : (q : ℕ → Option Running) (u there pc : ℕ) (vs : List Value) → q u ≡ None → (x : ℕ) (g : Running → ℕ) → told g (if u == x then Some (runner u there) else q x) ≡ told g (q x) + runs g x (stands there true (new_thread u pc vs))
more_runs q u there pc vs none x g = by (u == x) refl
  where
    by : (b : Bool) → (u == x) ≡ b → told g (if b then Some (runner u there) else q x) ≡ told g (q x) + if_so b (told g (if_some true (record { thread = x; server = there; has_ended = false })))
    by true e =
        let same : u ≡ x = number_is u x e in
        let before : told g (q x) ≡ 0 = ap (told g) (ap q (sym same) ∙ none) in
        let now : g (runner u there) ≡ g (runner x there) = ap (λ i. g (runner i there)) same in
        omega (arith, before, now)
    by false e = omega arith

-- WHAT IS ANSWERED THEN

-- these came beside the one that steps: new threads, and what no answer sees
pub record Newly (k : Cluster) (y : ThreadState) (more : List Thing) (mine : ℕ → Bool) (begun : ℕ → Bool) (running : ℕ → Option Running) : Type 0 where
  pub aside : Aside [] more
  pub started : (r i : ℕ) → tot (started_at r i) more ≡ 0
  pub made : (r i : ℕ) → tot (made_at r i) more ≡ 0
  pub there : (m : MutexNo) → tot (there_in m) more ≡ 0
  pub holders : (m : MutexNo) (g : ℕ → ℕ) → tot (λ x. told g (holder_by (sight k) m x)) more ≡ 0
  pub few : (t : ℕ) → tot (is_thread t) (things_of k) + tot (is_thread t) more ≤ 1
  pub runs_now : (t : ℕ) (g : Running → ℕ) → told g (running t) ≡ told g (running_of (sight k) t) + tot (runs g t) more
  pub threads : (t : ℕ) → mine t ≡ false → tot (is_thread t) more ≡ 0
  pub slots : (h : ShownThread → ℕ) (t : ℕ) → mine t ≡ false → tot (at_thread (λ v. h (masked_of v)) t) more ≡ 0
  pub gifts : tot (gifted mine) more ≡ 0
  pub bare : tot (gifted mine) (things_of k) ≡ 0
  pub own : (t : ℕ) → mine t ≡ false → (y.number == t) ≡ false
  pub ended : (t : ℕ) → (is_given_thread (sight k) t && is_none (running_of (sight k) t)) ≡ (begun t && is_none (running t))

module _ (k : Cluster) (sound : IsSound k) (number : ℕ) (s : Server) (here : server_at k.servers number ≡ Some s) (c0 : Coloured) (is_coloured : StandsColoured k c0) (y : ThreadState) (at : thread_in s.threads y.number ≡ Some y) (live : is_over y.phase ≡ false) (free : y.gift ≡ None)
    (z : ThreadState) (named : z.number ≡ y.number) (bare : z.gift ≡ None) (on : is_over z.phase ≡ false) (c : Cluster) (r2 : Rest) (same_made : r2.mutexes.made ≡ s.rest.mutexes.made) (more : List Thing)
    (f : Follows k c (stands s.rest.number false y ∷ counts_of s.rest.number 0 s.rest ∷ []) (stands s.rest.number false z ∷ counts_of s.rest.number 0 r2 ∷ more)) (words : LeavesWords k c) (mine : ℕ → Bool) (begun : ℕ → Bool) (running : ℕ → Option Running) (w : Newly k y more mine begun running)
    (known : (x : ℕ) → begun x ≡ given_upto s.rest.number (λ r i. tot (started_at r i) (things_of k)) r2.started x) where
  abbrev n : ℕ
  n = s.rest.number

  abbrev olds : List Thing
  olds = stands n false y ∷ counts_of n 0 s.rest ∷ []

  abbrev news : List Thing
  news = stands n false z ∷ counts_of n 0 r2 ∷ more

  aside_all : Aside olds news
  aside_all = record {
    objects = λ o g. let e = w.aside.objects o g in omega (arith, e);
    drops = λ o. let e = w.aside.drops o in omega (arith, e);
    copies = λ r v g. let e = w.aside.copies r v g in omega (arith, e);
    served = λ b. let e = w.aside.served b in omega (arith, e);
    issued = λ h r v. let e = w.aside.issued h r v in omega (arith, e);
    wishes = λ b. let e = w.aside.wishes b in omega (arith, e);
  }

  others : Others k c olds news mine
  others = record {
    staying = λ t e. record {
      thread = let same : one (z.number == t) ≡ one (y.number == t) = ap (λ i. one (i == t)) named in omega (arith, same, w.threads t e);
      slots = λ h.
          let before : at_thread (λ v. h (masked_of v)) t (stands n false y) ≡ 0 = ap (λ b. if_so b (h (masked_of (record { server = n; packed = false; thread = y })))) (w.own t e) in
          let after : at_thread (λ v. h (masked_of v)) t (stands n false z) ≡ 0 = ap (λ b. if_so b (h (masked_of (record { server = n; packed = false; thread = z })))) (ap (λ i. i == t) named ∙ w.own t e) in
          omega (arith, before, after, w.slots h t e);
      objects = λ o v. let same = aside_all.objects o v in omega (arith, same);
    };
    bare =
        let its : gifted mine (stands n false z) ≡ if_so (mine z.number) 0 = ap (λ o. if_so (mine z.number) (one (is_some o))) bare in
        omega (arith, f.things (gifted mine) (gifted_seen mine), its, none (mine z.number), w.gifts, w.bare);
  }
    where
      none : (b : Bool) → if_so b 0 ≡ 0
      none true = refl
      none false = refl

  given_then : (x : ℕ) → begun x ≡ is_given_thread (sight c) x
  given_then x =
      known x ∙ sym (given_after k sound number s here c r2 (λ r i. let e = w.started r i in omega (arith, f.things (started_at r i) (begun_seen r i), e)) x)

  running_now : (t : ℕ) → running t ≡ running_of (sight c) t
  running_now t =
      sym (running_after t (things_of k) olds news (things_of c) (λ g. f.things (runs g t) (runs_seen g t)) (sound.names.numbers_differ t)
      (let same : one (z.number == t) ≡ one (y.number == t) = ap (λ i. one (i == t)) named in omega (arith, f.things (is_thread t) (number_seen t), same, w.few t)) (running t)
      (λ g. let same = runs_on k sound number s here c0 is_coloured y at live z named on t g in let e = w.runs_now t g in omega (arith, same, e)))

  -- who was started and who runs is told by these
  pub started_agrees : Agrees (record (answers_of (sight k)) { started = begun; running = running }) (answers_of (sight c))
  started_agrees = record {
    object = objects_same k c olds news sound f words.words aside_all;
    copy = copies_same k c olds news sound f words.words aside_all;
    served = served_same k c olds news sound f words.words aside_all;
    issued = issued_same k c olds news sound f words.words aside_all;
    started = given_then;
    running = running_now;
    ended = λ t. ap (λ b. b && not (t == 0)) (w.ended t ∙ ap₂ (λ a b. a && is_none b) (given_then t) (running_now t));
    wishes = wishes_same k c olds news sound f words.words aside_all;
    made = made_still k c olds news sound f (λ r i. let e = w.made r i in let same : made_at r i (counts_of n 0 r2) ≡ made_at r i (counts_of n 0 s.rest) = ap (λ j. one ((n == r) && nat_le i j)) same_made in omega (arith, e, same));
    there = λ m. there_less k c olds news sound f m (let e = w.there m in omega (arith, e));
    holder = λ m. holder_still k c olds news sound f mine others m (λ g. omega (arith, w.holders m g, none_held k sound number s here c0 is_coloured y.number y at live y free m g, none_held k sound number s here c0 is_coloured y.number y at live z bare m g));
  }
