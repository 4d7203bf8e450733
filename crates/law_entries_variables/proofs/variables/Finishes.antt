-- A thread other than main ends: its home is told.
use Rattle.std.proofs.Common.{◌≡◌, ℕ, ◌+◌, ◌==◌, ◌&&◌, ◌||◌, not, Bool, true, false, if◌then◌else◌, List, [], ◌∷◌, Option, Some, None, is_some, is_none, refl, sym, ap, ap₂, subst, ◌∙◌, arith}
use Rattle.std.specs.Prelude.{option_map}
use Rattle.law_words_ends.specs.Below.fr_base.declared.label.Label.TheVariants as label
use Rattle.law_words_ends.specs.Below.fr_base.declared.settings.Options.{Options}
use Rattle.law_words_ends.specs.Below.fr_base.declared.step.Fresh.TheVariants as fresh
use Rattle.law_words_ends.specs.Below.heap_partition.declared.value.Owned.{Owned}
use Rattle.law_words_ends.specs.Below.thread_state.View.{ThreadState, is_over}
use Rattle.law_words_ends.specs.Below.thread_state.declared.value.Value.{Value}
use Rattle.law_words_ends.specs.Below.server_msgs.declared.message.Message.TheVariants as message
use Rattle.law_words_ends.specs.Below.journal.View.{EntryView}
use Rattle.law_words_ends.specs.Below.journal.declared.act.Act.{Act}
use Rattle.law_words_ends.specs.Below.journal.declared.act.Act.TheVariants as act
use Rattle.law_words_ends.specs.Below.server_model.Servers.{Server, Cluster, server_at}
use Rattle.law_words_ends.specs.Below.server_model.Work.{Work, Hand, note, send, label_all, with_temps, working, thread_in}
use Rattle.law_words_ends.specs.Below.server_model.Commit.{end_with}
use Rattle.law_words_ends.specs.Below.server_model.Events.{begin_work}
use Rattle.law_entries_variables.specs.Below.coloured_heap.Lists.{first, holds, with_each}
use Rattle.law_entries_variables.specs.Below.coloured_heap.Heap.{Running, Coloured, is_thread as is_running, thread_at}
use Rattle.law_entries_variables.specs.Below.coloured_heap.Rules as rules
use Rattle.law_entries_variables.specs.Below.coloured_heap.Rules.{is_by}
use Rattle.law_entries_variables.proofs.Below.coloured_heap.Found.{found_each}
use Rattle.law_entries_variables.proofs.Below.coloured_heap.Times.{number_is}
use Rattle.law_entries_variables.proofs.Below.coloured_heap.ShownNames.{number_itself, number_flip}
use Rattle.law_words_ends.specs.Below.coherent_memory.Names.{one, if_so}
use Rattle.law_words_ends.specs.Below.coherent_memory.Things.{Thing, stands, message_things}
use Rattle.law_words_ends.specs.Below.coherent_memory.Sight.{sight}
use Rattle.law_words_ends.specs.Below.coherent_memory.Naming.{threads}
use Rattle.law_words_ends.specs.Below.coherent_memory.OneHeap.{is_given_thread}
use Rattle.law_words_ends.specs.Below.coherent_memory.Colours.{StandsColoured, running_of, has_finished}
use Rattle.law_words_ends.specs.Below.coherent_memory.Coherent.{IsSound}
use Rattle.law_words_ends.proofs.Below.law_counts_sums.Trades.{tot-append}
use Rattle.law_words_ends.proofs.Below.law_counts_sums.Bags.{all_standing, rest_things, server_same, tot-without}
use Rattle.law_words_ends.proofs.Below.law_counts_sums.Events.{tot-server}
use Rattle.law_entries_variables.proofs.Below.law_heap_still.events.Tests.{numbers}
use Rattle.law_entries_variables.proofs.Below.law_heap_still.events.Told.{told}
use Rattle.law_words_ends.specs.Below.law_counts_sums.Laws.{Gives}
use Rattle.law_words_ends.specs.Below.law_words_paths.words.Unmoved.{LeavesWords}
use Rattle.law_entries_variables.proofs.deliveries.Answers.{Answers, answers_of, Fits, fits, Agrees, Allowed}
use Rattle.law_entries_variables.proofs.deliveries.Weighed.{sends}
use Rattle.law_entries_variables.proofs.deliveries.Shown.{if_some, runs}
use Rattle.law_entries_variables.proofs.deliveries.Changed.{turns_none, notes}
use Rattle.law_entries_variables.proofs.deliveries.After.{Follows, started_still, running_then, made_still, there_less}
use Rattle.law_entries_variables.proofs.deliveries.Runs.{runs_one}
use Rattle.law_entries_variables.proofs.deliveries.Applied.{server_there}
use Rattle.law_entries_variables.proofs.still.Settled.{none_held}
use Rattle.law_entries_variables.proofs.variables.Turning.{Turning, begins, rethreaded, worked, labelled}
use Rattle.law_entries_variables.proofs.variables.Holders.{Others, holder_still}
use Rattle.law_entries_variables.proofs.variables.Led.{done_entry, done_leads, Steps}
use Rattle.law_entries_variables.proofs.variables.Aside.{Aside, objects_same, copies_same, served_same, issued_same, wishes_same, only, one_changes}
use Rattle.law_entries_variables.proofs.variables.Quiets.{names_none, it_runs}
use Rattle.law_entries_variables.proofs.variables.Counts.{thread_given}

-- IN THE COLOURED HEAP

-- the thread runs no more
abbrev pub resting : ℕ → (ℕ → Option Running) → ℕ → Option Running
resting t f u = if u == t then None else f u

-- and has ended
abbrev pub ending : ℕ → Answers → Answers
ending t q = record q { running = resting t q.running; ended = λ u. (u == t) || q.ended u }

-- who is found by a number has it
found_named : (t : ℕ) (xs : List Running) (r : Running) → first (is_running t) xs ≡ Some r → (r.thread == t) ≡ true
found_named t [] r e = absurd (cc e)
found_named t (x ∷ xs) r e = by (x.thread == t) refl e (found_named t xs r)
  where
    by : (b : Bool) → (x.thread == t) ≡ b → (if b then Some x else first (is_running t) xs) ≡ Some r → (first (is_running t) xs ≡ Some r → (r.thread == t) ≡ true) → (r.thread == t) ≡ true
    by true q d go = let same : x ≡ r = cc in subst (λ (z : Running). (z.thread == t) ≡ true) same q
    by false q d go = go d

module _ (c : Coloured) (t : ℕ) where
  abbrev over_now : Running → Running
  over_now r = record r { has_ended = true }

  abbrev marked : Running → Running
  marked r = if is_running t r then over_now r else r

  changed : (u : ℕ) → first (is_running u) (with_each (is_running t) over_now c.threads) ≡ option_map marked (thread_at c u)
  changed u = found_each (is_running u) (is_running t) over_now c.threads (λ x. refl)

  still_some : (y : Option Running) → is_some (option_map marked y) ≡ is_some y
  still_some None = refl
  still_some (Some r) = refl

  -- others are as they were
  other_still : (u : ℕ) (r : Running) → (u == t) ≡ false → thread_at c u ≡ Some r → option_map marked (Some r) ≡ Some r
  other_still u r e at =
      let named : r.thread ≡ u = number_is r.thread u (found_named u c.threads r at) in
      ap (λ b. Some (if b then over_now r else r)) (ap (λ i. i == t) named ∙ e)

  ended_now : (u : ℕ) (y : Option Running) → thread_at c u ≡ y → ((u == t) ≡ true → is_some y ≡ true) → holds (λ (r : Running). r.has_ended) (option_map marked y) ≡ ((u == t) || holds (λ (r : Running). r.has_ended) y)
  ended_now u None at known = by (u == t) known
    where
      by : (b : Bool) → (b ≡ true → false ≡ true) → false ≡ (b || false)
      by true k = absurd (cc (k refl))
      by false k = refl
  ended_now u (Some r) at known =
      let named : r.thread ≡ u = number_is r.thread u (found_named u c.threads r at) in
      ap (λ i. holds (λ (z : Running). z.has_ended) (Some (if i == t then over_now r else r))) named ∙ by (u == t)
    where
      by : (b : Bool) → (if b then over_now r else r).has_ended ≡ (b || r.has_ended)
      by true = refl
      by false = refl

-- who was started and hasn't ended may finish
pub finish_allowed : (o : Options) (e : EntryView) (c : Coloured) (q : Answers) (t : ℕ) → Fits q c → e.thread ≡ Some t → (t == 0) ≡ false → q.started t ≡ true → q.ended t ≡ false → Allowed o e c (act.Finish t) (ending t q)
finish_allowed o e c q t h by_it apart known going = record {
  allowed =
      ap₂ (λ a b. holds (λ u. u == t) a && not b && not (rules.is_over c t)) by_it apart ∙ ap₂ (λ a b. a && true && not b) (number_itself t) (h.ended t ∙ going);
  fits = record {
    objects = h.objects;
    copies = h.copies;
    served = h.served;
    issued = h.issued;
    started = λ u. ap is_some (changed c t u) ∙ still_some c t (thread_at c u) ∙ h.started u;
    servers = λ u r d. changed c t u ∙ by u r (u == t) refl d;
    ended = λ u. ap (holds (λ (r : Running). r.has_ended)) (changed c t u) ∙ ended_now c t u (thread_at c u) refl (λ d. h.started u ∙ ap q.started (number_is u t d) ∙ known) ∙ ap (λ b. (u == t) || b) (h.ended u);
    wishes = h.wishes;
    made = h.made;
    mutexes = h.mutexes;
  };
}
  where
    by : (u : ℕ) (r : Running) (b : Bool) → (u == t) ≡ b → (if b then None else q.running u) ≡ Some r → option_map (marked c t) (thread_at c u) ≡ Some r
    by u r true d f = absurd (cc f)
    by u r false d f = ap (option_map (marked c t)) (h.servers u r f) ∙ other_still c t u r d (h.servers u r f)

-- a thread that runs no more needn't be found
pub rest_fits : (q : Answers) (c : Coloured) (t : ℕ) → Fits q c → Fits (record q { running = resting t q.running }) c
rest_fits q c t h = record {
  objects = h.objects;
  copies = h.copies;
  served = h.served;
  issued = h.issued;
  started = h.started;
  servers = λ u r d. h.servers u r (by u r (u == t) d);
  ended = h.ended;
  wishes = h.wishes;
  made = h.made;
  mutexes = h.mutexes;
}
  where
    by : (u : ℕ) (r : Running) (b : Bool) → (if b then None else q.running u) ≡ Some r → q.running u ≡ Some r
    by u r true d = absurd (cc d)
    by u r false d = d

-- IN THE CLUSTER

module _ (k : Cluster) (sound : IsSound k) (number : ℕ) (s : Server) (here : server_at k.servers number ≡ Some s) (c0 : Coloured) (is_coloured : StandsColoured k c0) (y : ThreadState) (at : thread_in s.threads y.number ≡ Some y) (live : is_over y.phase ≡ false) where
  abbrev n : ℕ
  n = s.rest.number

  abbrev t : ℕ
  t = y.number

  abbrev now : Running
  now = record { thread = t; server = n; has_ended = false }

  -- it was started
  pub it_is_given : is_given_thread (sight k) t ≡ true
  it_is_given = thread_given k sound t (λ f. let g = threads f in omega (arith, (tot-server g k.servers number s s here).0, server_same s g, tot-append g (all_standing n s.threads) (rest_things n s.events s.rest), tot-without n g s.threads t y at))

  -- and it hasn't ended
  pub goes_on_yet : has_finished (sight k) t ≡ false
  goes_on_yet = ap₂ (λ a b. (a && is_none b) && not (t == 0)) it_is_given (it_runs k sound number s here c0 is_coloured y at live)

  module _ (z : ThreadState) (named : z.number ≡ t) (over : is_over z.phase ≡ true) where
    none_runs : (u : ℕ) (g : Running → ℕ) → runs g u (stands n false z) ≡ 0
    none_runs u g = ap (λ q. if_so (z.number == u) (told g (if_some (not q) (record { thread = u; server = n; has_ended = false })))) over ∙ by (z.number == u)
      where
        by : (b : Bool) → if_so b 0 ≡ 0
        by true = refl
        by false = refl

    -- it rests, and the others run
    pub rests_then : (u : ℕ) (g : Running → ℕ) → told g (resting t (running_of (sight k)) u) + runs g u (stands n false y) ≡ told g (running_of (sight k) u) + runs g u (stands n false z)
    rests_then u g = let none = none_runs u g in by (u == t) refl none
      where
        by : (b : Bool) → (u == t) ≡ b → runs g u (stands n false z) ≡ 0 → told g (if b then None else running_of (sight k) u) + runs g u (stands n false y) ≡ told g (running_of (sight k) u) + runs g u (stands n false z)
        by true e none =
            let same : u ≡ t = number_is u t e in
            let was : told g (running_of (sight k) u) ≡ g now = ap (λ i. told g (running_of (sight k) i)) same ∙ ap (told g) (it_runs k sound number s here c0 is_coloured y at live) in
            let mine : runs g u (stands n false y) ≡ g now =
            ap (λ i. runs g i (stands n false y)) same ∙ ap₂ (λ b q. if_so b (told g (if_some (not q) now))) (number_itself t) live in
            omega (arith, was, mine, none)
        by false e none =
            let mine : runs g u (stands n false y) ≡ 0 = ap (λ b. if_so b (told g (if_some (not (is_over y.phase)) (record { thread = u; server = n; has_ended = false })))) (number_flip t u ∙ e) in
            omega (arith, mine, none)

  -- who was started is as before
  module _ (c : Cluster) (given : (u : ℕ) → is_given_thread (sight k) u ≡ is_given_thread (sight c) u) (rests : (u : ℕ) → resting t (running_of (sight k)) u ≡ running_of (sight c) u) where
    others_ended : (u : ℕ) → (u == t) ≡ false → has_finished (sight k) u ≡ has_finished (sight c) u
    others_ended u e = ap₂ (λ a b. (a && is_none b) && not (u == 0)) (given u) (sym (ap (λ b. if b then None else running_of (sight k) u) e) ∙ rests u)

    -- it has ended, where it isn't main
    pub ended_then : (t == 0) ≡ false → (u : ℕ) → ((u == t) || has_finished (sight k) u) ≡ has_finished (sight c) u
    ended_then apart u = by (u == t) refl
      where
        by : (b : Bool) → (u == t) ≡ b → (b || has_finished (sight k) u) ≡ has_finished (sight c) u
        by false e = others_ended u e
        by true e =
            let same : u ≡ t = number_is u t e in
            let none : running_of (sight c) u ≡ None = sym (rests u) ∙ ap (λ b. if b then None else running_of (sight k) u) e in
            let known : is_given_thread (sight c) u ≡ true = sym (given u) ∙ ap (is_given_thread (sight k)) same ∙ it_is_given in
            sym (ap₂ (λ a b. (a && is_none b) && not (u == 0)) known none ∙ ap (λ i. not (i == 0)) same ∙ ap not apart)

    -- main is never said to have ended
    pub main_then : (t == 0) ≡ true → (u : ℕ) → has_finished (sight k) u ≡ has_finished (sight c) u
    main_then main u = by (u == t) refl
      where
        none : (b d : Bool) → d ≡ true → (b && not d) ≡ false
        none true true e = refl
        none false true e = refl
        none b false e = absurd (cc e)

        by : (b : Bool) → (u == t) ≡ b → has_finished (sight k) u ≡ has_finished (sight c) u
        by false e = others_ended u e
        by true e =
            let zeroth : (u == 0) ≡ true = ap (λ i. i == 0) (number_is u t e) ∙ main in
            none (is_given_thread (sight k) u && is_none (running_of (sight k) u)) (u == 0) zeroth ∙ sym (none (is_given_thread (sight c) u && is_none (running_of (sight c) u)) (u == 0) zeroth)

  -- THE END OF ANOTHER THREAD THAN MAIN

  module _ (bare : y.gift ≡ None) (apart : (t == 0) ≡ false) (v : Owned) (ts : List Value) where
    abbrev start : Hand
    start = record { work = begin_work s.rest; thread = y }

    abbrev h0 : Hand
    h0 = with_temps ts start

    abbrev come : List Thing
    come = message_things y.home (message.Finished t v)

    abbrev acts : List Act
    acts = act.Finish t ∷ []

    module _ (c : Cluster) (z : ThreadState) (named : z.number ≡ t) (free : z.gift ≡ None) (over : is_over z.phase ≡ true) (f : Follows k c (stands n false y ∷ []) (stands n false z ∷ come)) (words : LeavesWords k c) where
      abbrev olds : List Thing
      olds = stands n false y ∷ []

      abbrev news : List Thing
      news = stands n false z ∷ come

      aside : Aside [] come
      aside = record { objects = λ o g. refl; drops = λ o. refl; copies = λ r w g. refl; served = λ b. refl; issued = λ h r w. refl; wishes = λ b. refl }

      aside_all : Aside olds news
      aside_all = record { objects = λ o g. refl; drops = λ o. refl; copies = λ r w g. refl; served = λ b. refl; issued = λ h r w. refl; wishes = λ b. refl }

      others : Others k c olds news (only t)
      others = one_changes k c sound number s here y at z named free [] come f aside.objects (λ u. refl) (λ h u. refl) refl

      given : (u : ℕ) → is_given_thread (sight k) u ≡ is_given_thread (sight c) u
      given = started_still k c olds news sound f (λ r i. refl)

      rests : (u : ℕ) → resting t (running_of (sight k)) u ≡ running_of (sight c) u
      rests u =
          running_then k c olds news sound f (λ i. let same : one (z.number == i) ≡ one (y.number == i) = ap (λ j. one (j == i)) named in omega (arith, same)) u (resting t (running_of (sight k)) u)
          (λ g. let r = rests_then z named over u g in omega (arith, r))

      finished_agrees : Agrees (ending t (answers_of (sight k))) (answers_of (sight c))
      finished_agrees = record {
        object = objects_same k c olds news sound f words.words aside_all;
        copy = copies_same k c olds news sound f words.words aside_all;
        served = served_same k c olds news sound f words.words aside_all;
        issued = issued_same k c olds news sound f words.words aside_all;
        started = given;
        running = rests;
        ended = ended_then c given rests apart;
        wishes = wishes_same k c olds news sound f words.words aside_all;
        made = made_still k c olds news sound f (λ r i. refl);
        there = λ m. there_less k c olds news sound f m (omega arith);
        holder = λ m. holder_still k c olds news sound f (only t) others m (λ g. omega (arith, none_held k sound number s here c0 is_coloured t y at live y bare m g, none_held k sound number s here c0 is_coloured t y at live z free m g));
      }

    -- it finishes
    pub finish_steps : Gives (Steps (LeavesWords k) k s y c0 fresh.None true) (end_with false v (with_temps ts start))
    finish_steps =
        let w1 : Work = note (act.Finish t) h0.work in
        let h1 : Hand = record h0 { work = w1 } in
        let h2 : Hand = working (label_all (label.End t ∷ [])) h1 in
        let w3 : Work = send y.home (message.Finished t v) h2.work in
        let t1 : Turning s y [] [] [] h0 = rethreaded s y [] [] [] start (begins s y) (record y { temps = ts }) refl refl in
        let t2 : Turning s y [] [] acts h1 = worked s y [] [] [] h0 t1 w1 [] [] acts (notes h0.work [] [] [] h0.work (act.Finish t) (turns_none h0.work)) in
        let t3 : Turning s y [] [] acts h2 = labelled s y [] [] acts h1 t2 (label.End t ∷ []) refl in
        let t4 : Turning s y [] come acts (record h2 { work = w3 }) = worked s y [] [] acts h2 t3 w3 [] come [] (sends h2.work [] [] [] h2.work y.home (message.Finished t v) (turns_none h2.work)) in record {
          olds = [];
          news = come;
          acts = acts;
          turned = t4;
          gift = bare;
          leads = λ c z named free over f words.
              let q0 : Answers = answers_of (sight k) in
              let all : Fits q0 c0 = fits (sight k) c0 is_coloured in
              let e : EntryView = done_entry n t fresh.None acts w3.labels in
              done_leads k.options n t fresh.None acts w3.labels c0 q0 (ending t q0) (ending t q0) c t4.labels all (server_there k sound number s here).0 now (it_runs k sound number s here c0 is_coloured y at live) (numbers.itself n)
              (runs_one k.options e (act.Finish t) c0 (ending t q0) (finish_allowed k.options e c0 q0 t all refl apart it_is_given goes_on_yet)) (names_none n t acts w3.labels (ending t q0)) (finished_agrees c z named free over f words);
        }
