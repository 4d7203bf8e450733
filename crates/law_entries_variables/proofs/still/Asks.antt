-- Joins that ask for a result: a wish comes, and all else stays.
use Rattle.std.proofs.Common.{◌≡◌, ℕ, ◌+◌, ◌≤◌, ◌==◌, ◌&&◌, ◌||◌, not, Bool, true, false, List, [], ◌∷◌, ◌++◌, Option, Some, None, is_some, refl, sym, ap, ap₂, subst, ◌∙◌, arith}
use Rattle.std.specs.Prelude.{⊤, ◌%◌, ◌^◌, slice_get, option_map}
use Rattle.law_entries_variables.specs.Below.fr_base.declared.step.Fresh.TheVariants as fresh
use Rattle.law_entries_variables.specs.Below.fr_base.declared.settings.Options.{Options}
use Rattle.law_entries_variables.specs.Below.fr_base.declared.instruction.Operand.{Operand}
use Rattle.law_entries_variables.specs.Below.fr_base.declared.instruction.Operand.TheVariants as operand
use Rattle.law_entries_variables.specs.Below.fr_base.declared.instruction.Instr.{Instr}
use Rattle.law_entries_variables.specs.Below.fr_base.declared.instruction.Instr.TheVariants as instr
use Rattle.law_entries_variables.specs.Below.heap_partition.declared.value.Owned.{Owned}
use Rattle.law_entries_variables.specs.Below.heap_partition.declared.value.Owned.TheVariants as owned
use Rattle.law_entries_variables.specs.Below.thread_state.View.{ThreadState, is_over}
use Rattle.law_entries_variables.specs.Below.thread_state.declared.phase.Phase.TheVariants as phase
use Rattle.law_entries_variables.specs.Below.thread_state.declared.value.Value.{Value}
use Rattle.law_entries_variables.specs.Below.thread_state.declared.value.Value.TheVariants as value
use Rattle.law_entries_variables.specs.Below.server_msgs.declared.message.Message.{Message}
use Rattle.law_entries_variables.specs.Below.server_msgs.declared.message.Message.TheVariants as message
use Rattle.law_entries_variables.specs.Below.journal.View.{EntryView}
use Rattle.law_entries_variables.specs.Below.journal.declared.act.Act.TheVariants as act
use Rattle.law_entries_variables.specs.Below.server_model.declared.event.What.{What}
use Rattle.law_entries_variables.specs.Below.server_model.declared.event.What.TheVariants.{Step, Deliver, Evict, Migrate}
use Rattle.law_entries_variables.specs.Below.server_model.Servers.{Server, Cluster, server_at}
use Rattle.law_entries_variables.specs.Below.server_model.Work.{Work, Hand, Popped, last_of, front_of, task_of, taken_as, then_some, pop, push_temp, with_temps, note, thread_in, put_back}
use Rattle.law_entries_variables.specs.Below.server_model.Drop.{home_of as task_home}
use Rattle.law_entries_variables.specs.Below.server_model.Commit.{waiting, ask_join, take_gift, join, settle, go_on, goes_on}
use Rattle.law_entries_variables.specs.Below.server_model.Events.{can_step, has_phase, enabled, does, begin_work, begin_at, Stepped, wait_step, done_step, committed, step, step_in, stepped}
use Rattle.law_entries_variables.specs.Below.server_model.Clusters.{apply}
use Rattle.law_entries_variables.specs.Below.coloured_heap.Heap.{Coloured, Wish, ForResult, same_wish}
use Rattle.law_entries_variables.specs.Below.coloured_heap.Changes.{after_act}
use Rattle.law_entries_variables.specs.Below.coherent_memory.Names.{tot, one, other, some, if_so}
use Rattle.law_entries_variables.specs.Below.coherent_memory.Things.{Thing, stands, things_at, walk_things, slot_things, temp_things, gift_things, message_things, things_of}
use Rattle.law_entries_variables.specs.Below.coherent_memory.Sight.{sight}
use Rattle.law_entries_variables.specs.Below.coherent_memory.Requests.{home_of}
use Rattle.law_entries_variables.specs.Below.coherent_memory.Naming.{threads, named_mutexes, started_at, zeroth_thread, zeroth_mutex, uncounted_thread, uncounted_mutex}
use Rattle.law_entries_variables.specs.Below.coherent_memory.OneHeap.{is_given_thread}
use Rattle.law_entries_variables.specs.Below.coherent_memory.Colours.{StandsColoured}
use Rattle.law_entries_variables.specs.Below.coherent_memory.Coherent.{IsSound}
use Rattle.law_entries_variables.specs.Below.law_counts_sums.Kinds.{Kind, step_join, message_kind, instr_kind, kind_at}
use Rattle.law_entries_variables.specs.Below.law_counts_sums.Laws.{Gives}
use Rattle.law_entries_variables.proofs.Below.law_counts_sums.Trades.{tot-append}
use Rattle.law_entries_variables.proofs.Below.law_counts_sums.Results.{map_gives, over_gives, both_give, weaker}
use Rattle.law_entries_variables.proofs.Below.law_counts_sums.Bags.{all_standing, rest_things, server_same, tot-without}
use Rattle.law_entries_variables.proofs.Below.law_counts_sums.Values.{last_split}
use Rattle.law_entries_variables.proofs.Below.law_counts_sums.Events.{tot-server}
use Rattle.law_entries_variables.proofs.Below.law_words_kept.stays.StayKinds.{joins_leave}
use Rattle.law_entries_variables.proofs.Below.law_heap_still.events.Told.{told}
use Rattle.law_entries_variables.proofs.Below.law_heap_still.events.Tests.{numbers}
use Rattle.law_entries_variables.specs.Below.law_words_paths.words.Unmoved.{LeavesWords}
use Rattle.law_entries_variables.specs.deliveries.Entries.{LeadsOn}
use Rattle.law_entries_variables.proofs.deliveries.Answers.{Answers, answers_of, Fits, fits, Allowed}
use Rattle.law_entries_variables.proofs.deliveries.Weighed.{SiteTurns, sends, thread_turns, server_turns}
use Rattle.law_entries_variables.proofs.deliveries.Shown.{if_some, runs}
use Rattle.law_entries_variables.proofs.deliveries.After.{Follows, wishes_after, holder_still}
use Rattle.law_entries_variables.proofs.deliveries.Runs.{silent, runs_one, leads_on}
use Rattle.law_entries_variables.proofs.deliveries.Applied.{Afterwards, Legal, led_on, server_there, applied_by}
use Rattle.law_entries_variables.proofs.deliveries.Changed.{turns_none, notes}
use Rattle.law_entries_variables.proofs.deliveries.Partly.{Partly, part_agrees}
use Rattle.law_entries_variables.specs.still.Undone.{UndoneLegal}
use Rattle.law_entries_variables.proofs.still.Kept.{gifts_stay}
use Rattle.law_entries_variables.proofs.still.Settled.{StepLed, runs_here, none_held}
use Rattle.law_entries_variables.proofs.still.PlainSteps.{lives}

-- A WISH COMES

-- one wish more
abbrev more_wish : Wish → (Wish → ℕ) → Wish → ℕ
more_wish a f b = one (same_wish b a) + f b

abbrev asking : Wish → Answers → Answers
asking a q = record q { wishes = more_wish a q.wishes }

ask_allowed : (o : Options) (e : EntryView) (c : Coloured) (q : Answers) (t u : ℕ) → Fits q c → e.thread ≡ Some t → q.started u ≡ true → Allowed o e c (act.AskJoin u) (asking (ForResult u t e.server) q)
ask_allowed o e c q t u h by_it known = record {
  allowed = ap₂ (λ a b. is_some a && b) by_it (h.started u ∙ known);
  fits = subst (λ i. Fits (asking (ForResult u t e.server) q) (asked_by i)) (sym by_it) (record {
    objects = h.objects;
    copies = h.copies;
    served = h.served;
    issued = h.issued;
    started = h.started;
    servers = h.servers;
    ended = h.ended;
    wishes = λ b. ap (λ n. one (same_wish b (ForResult u t e.server)) + n) (h.wishes b);
    made = h.made;
    mutexes = h.mutexes;
  });
}
  where
    asked_by : Option ℕ → Coloured
    asked_by i = after_act (record e { thread = i }) c (act.AskJoin u)

module _ (k : Cluster) (sound : IsSound k) (number : ℕ) (s : Server) (here : server_at k.servers number ≡ Some s) (c0 : Coloured) (is_coloured : StandsColoured k c0) (t : ℕ) (y : ThreadState) (at : thread_in s.threads t ≡ Some y) (live : is_over y.phase ≡ false) (bare : y.gift ≡ None) where
  abbrev n : ℕ
  n = s.rest.number

  -- a temporary value on top is there
  top_there : (f : Thing → ℕ) (v : Owned) → last_of y.temps ≡ Some (value.Own v) → (w : ℕ) → ((j : ℕ) (vs : List Value) → w ≤ tot f (things_at (temp_things n y.number) j (vs ++ value.Own v ∷ []))) → w ≤ tot f (things_of k)
  top_there f v e w l =
      let g = gift_things y.number y.gift in
      let b = things_at (walk_things n) 0 y.walk in
      let a = things_at (slot_things n y.number) 0 y.slots in
      let d = things_at (temp_things n y.number) 0 y.temps in
      let mine : w ≤ tot f d = subst (λ vs. w ≤ tot f (things_at (temp_things n y.number) 0 vs)) (sym (last_split y.temps (value.Own v) e)) (l 0 (front_of y.temps)) in
      omega (arith, mine, (tot-server f k.servers number s s here).0, server_same s f, tot-append f (all_standing n s.threads) (rest_things n s.events s.rest), tot-without n f s.threads t y at, tot-append f (g ++ b ++ a) d, tot-append f (g ++ b) a, tot-append f g b)

  last_task : (f : ℕ → ℕ) (u j : ℕ) (vs : List Value) → f u ≤ tot (threads f) (things_at (temp_things n y.number) j (vs ++ value.Own (owned.Task u) ∷ []))
  last_task f u j [] = omega arith
  last_task f u j (x ∷ vs) = omega (arith, last_task f u (j + 1) vs, tot-append (threads f) (temp_things n y.number j x) (things_at (temp_things n y.number) (j + 1) (vs ++ value.Own (owned.Task u) ∷ [])))

  -- the task that is asked for was started
  task_given : (u : ℕ) → last_of y.temps ≡ Some (value.Own (owned.Task u)) → is_given_thread (sight k) u ≡ true
  task_given u e =
      let named : tot (threads (uncounted_thread (sight k))) (things_of k) + tot (named_mutexes (uncounted_mutex (sight k))) (things_of k) ≡ 0 = sound.names.names_counted in
      let zeroth : tot (threads zeroth_thread) (things_of k) + tot (named_mutexes zeroth_mutex) (things_of k) ≡ 0 = sound.names.counts_from_one in
      let held : (f : ℕ → ℕ) → f u ≤ tot (threads f) (things_of k) = (λ f. top_there (threads f) (owned.Task u) e (f u) (last_task f u)) in
      by (u == 0) (u % 2 ^ 32 == 0) (some (tot (started_at (home_of u) (u % 2 ^ 32)) (things_of k))) (omega (arith, zeroth, held zeroth_thread)) (omega (arith, named, held (uncounted_thread (sight k))))
    where
      by : (a b d : Bool) → one (b && not a) ≡ 0 → other d ≡ 0 → a || (not b && d) ≡ true
      by true b d z e = refl
      by false true d z e = absurd (cc z)
      by false false true z e = refl
      by false false false z e = absurd (cc e)

  module _ (u : ℕ) (top : last_of y.temps ≡ Some (value.Own (owned.Task u))) where
    abbrev m : Message
    m = message.Join u n y.number

    abbrev z : ThreadState
    z = record y { phase = phase.WaitJoin u }

    abbrev w1 : Work
    w1 = note (act.AskJoin u) (begin_work s.rest)

    abbrev d : Stepped
    d = wait_step (ask_join (record { work = begin_work s.rest; thread = y }) u)

    abbrev more : List Thing
    more = message_things (task_home u) m

    abbrev olds : List Thing
    olds = stands n false y ∷ []

    abbrev news : List Thing
    news = stands n false z ∷ more

    abbrev wish : Wish
    wish = ForResult u y.number n

    part : Partly k olds news
    part = record {
      objects = λ o g. refl;
      drops = λ o. refl;
      copies = λ r w g. refl;
      served = λ j. refl;
      issued = λ h r w. refl;
      started = λ r w. refl;
      made = λ r w. refl;
      threads = λ j. omega arith;
      running = λ j g. let same : runs g j (stands n false y) ≡ runs g j (stands n false z) = ap (λ q. if_so (y.number == j) (told g (if_some (not q) (record { thread = j; server = n; has_ended = false })))) live in omega (arith, same);
      there = λ o. refl;
    }

    turns : SiteTurns (begin_at s) olds news (act.AskJoin u ∷ []) (put_back s.threads d.hand)
    turns =
        thread_turns (begin_at s) t y z [] more (act.AskJoin u ∷ []) d.hand.work at refl refl
        (sends (begin_work s.rest) [] [] (act.AskJoin u ∷ []) w1 (task_home u) m (notes (begin_work s.rest) [] [] [] (begin_work s.rest) (act.AskJoin u) (turns_none (begin_work s.rest))))

    asks : Legal k s (Some y.number) [] (begin_at s) c0 (put_back s.threads d.hand)
    asks = record {
      olds = olds;
      news = news;
      acts = act.AskJoin u ∷ [];
      turns = turns;
      leads = λ c f keeps.
          let q0 = answers_of (sight k) in
          let h = fits (sight k) c0 is_coloured in
          let e = silent n (Some y.number) (act.AskJoin u ∷ []) in
          leads_on k.options n (Some y.number) (act.AskJoin u ∷ []) c0 q0 (asking wish q0) c h (server_there k sound number s here).0
          (record { thread = y.number; server = n; has_ended = false }, runs_here k sound number s here c0 is_coloured t y at live, numbers.itself n)
          (runs_one k.options e (act.AskJoin u) c0 (asking wish q0) (ask_allowed k.options e c0 q0 y.number u h refl (task_given u top)))
          (part_agrees k c olds news sound f keeps part _ _ (λ b. omega (arith, wishes_after k c olds news sound f b))
          (λ o. holder_still k c olds news sound f keeps o (λ g. omega (arith, none_held k sound number s here c0 is_coloured t y at live y bare o g, none_held k sound number s here c0 is_coloured t y at live z bare o g))));
    }

    -- with the words that stay, in the cluster afterwards
    pub asks_led : StepLed k s c0 (stepped s d)
    asks_led c after words =
        let follows : Follows k c olds news = record { code = after.0; options = after.1; things = λ f h. omega (arith, after.2 f, server_turns s (put_back s.threads d.hand) olds news (act.AskJoin u ∷ []) s.events (Some y.number) None turns f h) } in
        led_on k s (Some y.number) c0 (put_back s.threads d.hand) s.events asks c after
        (record { words = words.words; gifts = gifts_stay k c sound n false false y z more (λ j. refl) (λ f j. refl) (λ o g. refl) refl refl follows })

  -- what a join without its gift comes to
  abbrev start : Hand
  start = record { work = begin_work s.rest; thread = y }

  abbrev P : Stepped → Type 0
  P d = d.names ≡ None → StepLed k s c0 (stepped s d)

  pub joins_ask : (o : Operand) → Gives P (committed (join o None start))
  joins_ask (operand.Const i) = tt
  joins_ask operand.Unit = tt
  joins_ask operand.Pop = by (last_of y.temps) refl
    where
      of : (v : Value) → last_of y.temps ≡ Some v → Gives P (committed (waiting (option_map (ask_join start) (task_of v))))
      of (value.Own (owned.Task u)) q = λ none. asks_led u q
      of _ q = tt

      by : (o : Option Value) → last_of y.temps ≡ o → Gives P (committed (waiting (option_map (ask_join start) (then_some {X = Popped Value} (option_map (λ v. record { item = v; hand = with_temps (front_of y.temps) start }) o) (λ t. task_of t.item)))))
      by None q = tt
      by (Some v) q = of v q

-- a join that takes its gift is done
module _ (k : Cluster) (s : Server) (c0 : Coloured) where
  joins_take : (o : Option Hand) → Gives (λ (d : Stepped). d.names ≡ None → StepLed k s c0 (stepped s d)) (committed (goes_on o))
  joins_take None = tt
  joins_take (Some h) = map_gives (λ (d : Stepped). d.names ≡ None → StepLed k s c0 (stepped s d)) (settle (go_on h)) (done_step fresh.None) (λ h2 e none. absurd (cc none))

-- THE KIND

abbrev IsJoin : Kind → Type 0
IsJoin step_join = ⊤
IsJoin kind = ⊥

same_kind : {a b : Kind} → Some a ≡ Some b → b ≡ a
same_kind e = cc

no_message : (m : Message) → IsJoin (message_kind m) → ⊥
no_message (message.Fetch w o a t) p = p
no_message (message.Fetched w c t) p = p
no_message (message.Move w o a t) p = p
no_message (message.Moved w c t) p = p
no_message (message.Drop w o) p = p
no_message (message.Lock m a t) p = p
no_message (message.Granted m v t) p = p
no_message (message.Unlock m v) p = p
no_message (message.Dup m a t) p = p
no_message (message.Dupped m t) p = p
no_message (message.Release r) p = p
no_message (message.Start y) p = p
no_message (message.Migrate y) p = p
no_message (message.Join u a t) p = p
no_message (message.Joined u v t) p = p
no_message (message.Finished u v) p = p

module _ (k : Cluster) (sound : IsSound k) (number : ℕ) (s : Server) (here : server_at k.servers number ≡ Some s) (c0 : Coloured) (is_coloured : StandsColoured k c0) where
  abbrev There : Server × EntryView → Type 0
  There r = r.1.done ≡ None → StepLed k s c0 r

  stepping : (t : ℕ) → has_phase can_step (thread_in s.threads t) ≡ true → then_some (thread_in s.threads t) (λ x. option_map instr_kind (slice_get k.code x.pc)) ≡ Some step_join → Gives There (does k.code k.options s (Step t))
  stepping t = by (thread_in s.threads t) refl
    where
      Undone : Stepped → Type 0
      Undone d = d.names ≡ None → StepLed k s c0 (stepped s d)

      gifted : (y : ThreadState) → thread_in s.threads t ≡ Some y → can_step y.phase ≡ true → (o : Operand) (g : Option Owned) → y.gift ≡ g → Gives Undone (committed (join o g (record { work = begin_work s.rest; thread = y })))
      gifted y at on o None e = joins_ask k sound number s here c0 is_coloured t y at (lives y.phase on) e o
      gifted y at on o (Some v) e = joins_take k s c0 (option_map (λ x. push_temp (value.Own v) x.hand) (then_some (pop o (take_gift (record { work = begin_work s.rest; thread = y }))) (taken_as task_of)))

      of_instr : (y : ThreadState) → thread_in s.threads t ≡ Some y → can_step y.phase ≡ true → (i : Instr) → IsJoin (instr_kind i) → Gives Undone (step k.options.servers i (record { work = begin_work s.rest; thread = y }))
      of_instr y at on (instr.Join o) p = gifted y at on o y.gift refl
      of_instr y at on (instr.Let o) p = absurd p
      of_instr y at on (instr.Assign w o) p = absurd p
      of_instr y at on (instr.Read w take) p = absurd p
      of_instr y at on (instr.Borrow w) p = absurd p
      of_instr y at on (instr.BorrowMut w) p = absurd p
      of_instr y at on (instr.Box o) p = absurd p
      of_instr y at on (instr.Arith op a b) p = absurd p
      of_instr y at on (instr.Print o) p = absurd p
      of_instr y at on instr.Discard p = absurd p
      of_instr y at on instr.DropSlot p = absurd p
      of_instr y at on (instr.Spawn cs pc) p = absurd p
      of_instr y at on (instr.Mutex o) p = absurd p
      of_instr y at on (instr.Dup w) p = absurd p
      of_instr y at on (instr.Lock w) p = absurd p
      of_instr y at on instr.Unlock p = absurd p
      of_instr y at on (instr.Par cs pc ds pc2) p = absurd p
      of_instr y at on instr.ParEnd p = absurd p
      of_instr y at on (instr.End o) p = absurd p

      at_instr : (y : ThreadState) → thread_in s.threads t ≡ Some y → can_step y.phase ≡ true → (o : Option Instr) → option_map instr_kind o ≡ Some step_join
          → Gives There (option_map (stepped s) (then_some o (λ i. step k.options.servers i (record { work = begin_work s.rest; thread = y }))))
      at_instr y at on None q = tt
      at_instr y at on (Some i) q =
          over_gives Undone There (step k.options.servers i (record { work = begin_work s.rest; thread = y })) (stepped s) (of_instr y at on i (subst IsJoin (same_kind q) tt)) (λ v u none. u none)

      by : (o : Option ThreadState) → thread_in s.threads t ≡ o → has_phase can_step o ≡ true → then_some o (λ x. option_map instr_kind (slice_get k.code x.pc)) ≡ Some step_join
          → Gives There (option_map (stepped s) (then_some (option_map (λ y. record { work = begin_work s.rest; thread = y }) o) (step_in k.code k.options.servers)))
      by None at on q = tt
      by (Some y) at on q = at_instr y at on (slice_get k.code y.pc) q

  of_message : {X : Type 0} (o : Option Message) → option_map message_kind o ≡ Some step_join → X
  of_message None r = absurd (cc r)
  of_message (Some m) r = absurd (no_message m (subst IsJoin (same_kind r) tt))

  step_led : (w : What) → enabled k.options s w ≡ true → kind_at k w s ≡ Some step_join → Gives There (does k.code k.options s w)
  step_led (Step t) on q = stepping t on q
  step_led (Deliver i) on q = of_message (slice_get s.rest.inbox i) q
  step_led (Evict w) on q = absurd (cc q)
  step_led (Migrate t target) on q = absurd (cc q)

-- a join that asks has a legal entry, as words stay
pub joins_legal : UndoneLegal step_join
joins_legal k e q sound few c0 is_coloured =
    both_give (λ (d : Cluster × EntryView). d.1.done ≡ None → LeavesWords k d.0) (λ (d : Cluster × EntryView). d.1.done ≡ None → LeavesWords k d.0 → LeadsOn k.options d.1 c0 d.0) (λ (d : Cluster × EntryView). d.1.done ≡ None → LeadsOn k.options d.1 c0 d.0) (apply k e)
    (joins_leave k e q sound few)
    (applied_by (λ (d : Cluster × EntryView). d.1.done ≡ None → LeavesWords k d.0 → LeadsOn k.options d.1 c0 d.0) k e sound few (λ s here on.
    weaker (There k sound e.server s here c0 is_coloured) (λ (r : Server × EntryView). (c : Cluster) → Afterwards k s r.0 c → r.1.done ≡ None → LeavesWords k c → LeadsOn k.options r.1 c0 c) (does k.code k.options s e.what)
    (step_led k sound e.server s here c0 is_coloured e.what on (subst (λ o. then_some o (kind_at k e.what) ≡ Some step_join) here q)) (λ r u c after none words. u none c after words)))
    (λ d words l none. l none (words none))
