-- A lock's content goes back to the home of its mutex, with its mark.
use Rattle.std.proofs.Common.{◌≡◌, ℕ, zero, suc, ◌+◌, ◌≤◌, ◌==◌, ◌&&◌, Bool, true, false, if◌then◌else◌, List, [], ◌∷◌, ◌++◌, length, Option, Some, None, is_some, is_none, refl, ap, ap₂, subst, ◌∙◌, arith}
use Rattle.std.specs.Prelude.{slice_get, option_map}
use Rattle.law_words_ends.specs.Below.fr_base.declared.name.MutexNo.{MutexNo}
use Rattle.law_words_ends.specs.Below.fr_base.declared.label.Label.TheVariants as label
use Rattle.law_words_ends.specs.Below.fr_base.declared.instruction.Instr.TheVariants as instr
use Rattle.law_words_ends.specs.Below.fr_base.declared.settings.Options.{Options}
use Rattle.law_words_ends.specs.Below.fr_base.declared.step.Fresh.TheVariants as fresh
use Rattle.law_words_ends.specs.Below.heap_partition.declared.value.Owned.{Owned}
use Rattle.law_words_ends.specs.Below.thread_state.View.{ThreadState, is_over}
use Rattle.law_words_ends.specs.Below.thread_state.declared.value.Value.{Value}
use Rattle.law_words_ends.specs.Below.thread_state.declared.value.Value.TheVariants as value
use Rattle.law_words_ends.specs.Below.server_msgs.declared.message.Message.TheVariants as message
use Rattle.law_words_ends.specs.Below.journal.View.{EntryView}
use Rattle.law_words_ends.specs.Below.journal.declared.act.Act.{Act}
use Rattle.law_words_ends.specs.Below.journal.declared.act.Act.TheVariants as act
use Rattle.law_words_ends.specs.Below.server_model.Servers.{Server, Cluster, server_at}
use Rattle.law_words_ends.specs.Below.server_model.Work.{Work, Hand, Popped, last_of, front_of, owned_of, taken_as, then_some, pop_slot, note, send, label_all, with_slots, working, thread_in}
use Rattle.law_words_ends.specs.Below.server_model.Commit.{held_of, send_content, unlock}
use Rattle.law_words_ends.specs.Below.server_model.Events.{begin_work}
use Rattle.law_entries_variables.specs.Below.coloured_heap.Lists.{first, holds, with_each}
use Rattle.law_entries_variables.specs.Below.coloured_heap.Heap.{Coloured, Guarded, is_mutex, mutex_at}
use Rattle.law_entries_variables.specs.Below.coloured_heap.Rules as rules
use Rattle.law_entries_variables.proofs.Below.coloured_heap.Found.{found_each}
use Rattle.law_entries_variables.proofs.Below.coloured_heap.Times.{number_is, mutex_is}
use Rattle.law_entries_variables.proofs.Below.coloured_heap.ShownNames.{number_itself, mutex_flip}
use Rattle.law_words_ends.specs.Below.coherent_memory.Names.{tot, one, other, some, same_mutex}
use Rattle.law_words_ends.specs.Below.coherent_memory.Things.{at_slot, Thing, locks, at_home, stands, things_at, walk_things, slot_things, temp_things, gift_things, message_things, things_of}
use Rattle.law_words_ends.specs.Below.coherent_memory.Sight.{sight}
use Rattle.law_words_ends.specs.Below.coherent_memory.Weights.{is_thread}
use Rattle.law_words_ends.specs.Below.coherent_memory.Sharing.{mutexes, there_at}
use Rattle.law_words_ends.specs.Below.coherent_memory.OneHeap.{or_else, is_given_thread, first_shown}
use Rattle.law_words_ends.specs.Below.coherent_memory.Colours.{StandsColoured, running_of, holder_of, is_mutex_there}
use Rattle.law_words_ends.specs.Below.coherent_memory.Coherent.{IsSound}
use Rattle.law_words_ends.specs.Below.law_counts_sums.Laws.{Gives}
use Rattle.law_words_ends.proofs.Below.law_counts_sums.Trades.{tot-append, tot-push}
use Rattle.law_words_ends.proofs.Below.law_counts_sums.Bags.{all_standing, rest_things, server_same, tot-without}
use Rattle.law_words_ends.proofs.Below.law_counts_sums.Boxes.{tot_le}
use Rattle.law_words_ends.proofs.Below.law_counts_sums.Events.{tot-server}
use Rattle.law_words_ends.proofs.Below.law_counts_sums.Values.{last_split}
use Rattle.law_words_ends.proofs.Below.law_counts_sums.GiftsTaken.{gift_fits}
use Rattle.law_entries_variables.proofs.Below.law_heap_still.events.Tests.{numbers}
use Rattle.law_entries_variables.proofs.Below.law_heap_still.events.Told.{told, ones, first_told}
use Rattle.law_words_ends.specs.Below.law_words_paths.words.Unmoved.{LeavesWords}
use Rattle.law_words_ends.specs.Below.law_words_values.carried.Steps.{puts_back}
use Rattle.law_words_ends.proofs.Below.law_words_values.carried.Gives.{owned_goes}
use Rattle.law_entries_variables.proofs.deliveries.Answers.{Answers, answers_of, Fits, fits, Agrees, Allowed}
use Rattle.law_entries_variables.proofs.deliveries.Weighed.{Seen, marks_of, sends}
use Rattle.law_entries_variables.proofs.deliveries.Shown.{if_some, holder_by, holder_is, there_in}
use Rattle.law_entries_variables.proofs.deliveries.HeldOnce.{holders_once}
use Rattle.law_entries_variables.proofs.deliveries.Changed.{turns_none, notes}
use Rattle.law_entries_variables.proofs.deliveries.After.{Follows, started_still, running_still, ended_by, made_still, there_still}
use Rattle.law_entries_variables.proofs.deliveries.Runs.{runs_one}
use Rattle.law_entries_variables.proofs.deliveries.Applied.{server_there}
use Rattle.law_entries_variables.proofs.still.PlainSteps.{lives}
use Rattle.law_entries_variables.proofs.still.Settled.{none_held}
use Rattle.law_entries_variables.specs.variables.Steps.{StepsLegal, Unlocks}
use Rattle.law_entries_variables.proofs.variables.Slots.{slot_unseen}
use Rattle.law_entries_variables.proofs.variables.Turning.{Turning, begins, reslotted, worked, labelled}
use Rattle.law_entries_variables.proofs.variables.Holders.{Others, holder_after}
use Rattle.law_entries_variables.proofs.variables.Led.{done_entry, done_leads, Steps, goes_on_led}
use Rattle.law_entries_variables.proofs.variables.Aside.{Aside, objects_same, copies_same, served_same, issued_same, wishes_same, only, one_changes}
use Rattle.law_entries_variables.proofs.variables.InStep.{by_number, step_legal}
use Rattle.law_entries_variables.proofs.variables.Quiets.{names_none, running_here, it_runs, runs_on}

-- IN THE COLOURED HEAP

-- nobody has the content
abbrev free_of : MutexNo → (MutexNo → Option ℕ) → MutexNo → Option ℕ
free_of m f n = if same_mutex n m then None else f n

abbrev returning : MutexNo → Answers → Answers
returning m q = record q { holder = free_of m q.holder }

abbrev unheld : Guarded → Guarded
unheld g = record g { holder = None }

return_allowed : (o : Options) (e : EntryView) (c : Coloured) (q : Answers) (m : MutexNo) (t : ℕ) → Fits q c → e.thread ≡ Some t → q.there m ≡ true → q.holder m ≡ Some t → Allowed o e c (act.GiveBack m) (returning m q)
return_allowed o e c q m t h by_it here held = record {
  allowed = ap (holds (rules.is_holder e)) (h.mutexes m here ∙ ap (λ y. Some (record { mutex = m; holder = y })) held) ∙ ap (holds (λ u. u == t)) by_it ∙ number_itself t;
  fits = record {
    objects = h.objects;
    copies = h.copies;
    served = h.served;
    issued = h.issued;
    started = h.started;
    servers = h.servers;
    ended = h.ended;
    wishes = h.wishes;
    made = λ n. ap is_some (changed n) ∙ still (mutex_at c n) ∙ h.made n;
    mutexes = λ n g. changed n ∙ ap (option_map (λ x. if is_mutex m x then unheld x else x)) (h.mutexes n g) ∙ by n (same_mutex n m);
  };
}
  where
    changed : (n : MutexNo) → first (is_mutex n) (with_each (is_mutex m) unheld c.mutexes) ≡ option_map (λ x. if is_mutex m x then unheld x else x) (mutex_at c n)
    changed n = found_each (is_mutex n) (is_mutex m) unheld c.mutexes (λ x. refl)

    still : (y : Option Guarded) → is_some (option_map (λ x. if is_mutex m x then unheld x else x) y) ≡ is_some y
    still None = refl
    still (Some g) = refl

    guarded : MutexNo → Option ℕ → Guarded
    guarded n x = record { mutex = n; holder = x }

    by : (n : MutexNo) (d : Bool) → Some (if d then unheld (guarded n (q.holder n)) else guarded n (q.holder n)) ≡ Some (guarded n (if d then None else q.holder n))
    by n true = refl
    by n false = refl

-- WHO HOLDS IT

-- what weighs as much at least is it
held_by : (t : ℕ) (o : Option ℕ) → ((g : ℕ → ℕ) → g t ≤ told g o) → o ≡ Some t
held_by t None l = absurd (let e = l ones in omega (arith, e))
held_by t (Some u) l = ap (λ i. Some i) (number_is u t (by (u == t) refl))
  where
    by : (b : Bool) → (u == t) ≡ b → (u == t) ≡ true
    by true e = e
    by false e = absurd (let mine : one (t == t) ≡ 1 = ap one (number_itself t) in let none : one (u == t) ≡ 0 = ap one e in let d = l (λ i. one (i == t)) in omega (arith, mine, none, d))

module _ (k : Cluster) (sound : IsSound k) (number : ℕ) (s : Server) (here : server_at k.servers number ≡ Some s) (y : ThreadState) (at : thread_in s.threads y.number ≡ Some y) (m : MutexNo) (vs : List Value) (v : Owned) (top : y.slots ≡ (vs ++ value.Held m ∷ []) ++ value.Own v ∷ []) where
  abbrev n : ℕ
  n = s.rest.number

  abbrev t : ℕ
  t = y.number

  abbrev mark : Thing
  mark = locks (at_slot t (0 + length vs)) m

  -- its slots are the others and the mark
  marked_slots : (f : Thing → ℕ) (i : Seen f) → marks_of f i y ≡ tot f (things_at (slot_things 0 t) 0 vs) + f mark
  marked_slots f i =
      let all : marks_of f i y ≡ tot f (things_at (slot_things 0 t) 0 ((vs ++ value.Held m ∷ []) ++ value.Own v ∷ [])) = ap (λ l. tot f (things_at (slot_things 0 t) 0 l)) top in
      omega (arith, all, tot-push (slot_things 0 t) f (vs ++ value.Held m ∷ []) 0 (value.Own v), slot_unseen f i 0 t (0 + length (vs ++ value.Held m ∷ [])) (value.Own v) tt, tot-push (slot_things 0 t) f vs 0 (value.Held m))

  -- the mark is there
  mark_there : (f : Thing → ℕ) → f mark ≤ tot f (things_of k)
  mark_there f =
      let g = gift_things t y.gift in
      let b = things_at (walk_things n) 0 y.walk in
      let a = things_at (slot_things n t) 0 y.slots in
      let d = things_at (temp_things n t) 0 y.temps in
      let all : tot f a ≡ tot f (things_at (slot_things n t) 0 ((vs ++ value.Held m ∷ []) ++ value.Own v ∷ [])) = ap (λ l. tot f (things_at (slot_things n t) 0 l)) top in
      omega (
        arith,
        all,
        tot-push (slot_things n t) f (vs ++ value.Held m ∷ []) 0 (value.Own v),
        tot-push (slot_things n t) f vs 0 (value.Held m),
        (tot-server f k.servers number s s here).0,
        server_same s f,
        tot-append f (all_standing n s.threads) (rest_things n s.events s.rest),
        tot-without n f s.threads t y at,
        tot-append f (g ++ b ++ a) d,
        tot-append f (g ++ b) a,
        tot-append f g b,
      )

  held_here : holder_of (sight k) m ≡ Some t
  held_here =
      held_by t (holder_of (sight k) m) (λ g.
      let few = holders_once k m sound in
      let was : told g (holder_of (sight k) m) ≡ told g (first_shown (holder_by (sight k) m) (things_of k)) = ap (told g) (holder_is k m few) in
      let mine : told g (holder_by (sight k) m mark) ≡ g t = ap (λ b. told g (or_else (if_some b t) None)) (both_itself m) in
      omega (arith, was, mine, mark_there (λ x. told g (holder_by (sight k) m x)), first_told (holder_by (sight k) m) g (things_of k) few))
    where
      both_itself : (x : MutexNo) → same_mutex x x ≡ true
      both_itself x = ap₂ (λ a b. a && b) (number_itself x.home) (number_itself x.count)

  home_there : is_mutex_there (sight k) m ≡ true
  home_there =
      let z : tot (mutexes (λ x. other (some (tot (there_at x.home x) (things_of k))))) (things_of k) ≡ 0 = sound.mutexes_and_tasks.named_are_there in
      let there : other (some (tot (there_at m.home m) (things_of k))) ≡ 0 = omega (arith, z, mark_there (mutexes (λ x. other (some (tot (there_at x.home x) (things_of k)))))) in
      by (tot (there_at m.home m) (things_of k)) (tot (there_in m) (things_of k)) (tot_le (there_at m.home m) (there_in m) less (things_of k)) there
    where
      second : (a b : Bool) → one (a && b) ≤ one b
      second true b = omega arith
      second false true = omega arith
      second false false = omega arith

      less : (x : Thing) → there_at m.home m x ≤ there_in m x
      less (at_home r z) = second (r == m.home) (same_mutex z.number m)
      less _ = omega arith

      by : (i j : ℕ) → i ≤ j → other (some i) ≡ 0 → some j ≡ true
      by zero j l e = absurd (cc e)
      by (suc i) zero l e = absurd (omega (arith, l))
      by (suc i) (suc j) l e = refl

  -- THE STEP

  module _ (c0 : Coloured) (is_coloured : StandsColoured k c0) (live : is_over y.phase ≡ false) (bare : y.gift ≡ None) where
    abbrev start : Hand
    start = record { work = begin_work s.rest; thread = y }

    abbrev h0 : Hand
    h0 = with_slots vs start

    abbrev come : List Thing
    come = message_things m.home (message.Unlock m v)

    abbrev gone : List Thing
    gone = mark ∷ []

    abbrev acts : List Act
    acts = act.GiveBack m ∷ []

    module _ (c : Cluster) (z : ThreadState) (named : z.number ≡ t) (free : z.gift ≡ None) (on : is_over z.phase ≡ false) (f : Follows k c (stands n false y ∷ gone) (stands n false z ∷ come)) (words : LeavesWords k c) where
      abbrev olds : List Thing
      olds = stands n false y ∷ gone

      abbrev news : List Thing
      news = stands n false z ∷ come

      aside : Aside gone come
      aside = record { objects = λ o g. refl; drops = λ o. refl; copies = λ r w g. refl; served = λ b. refl; issued = λ h r w. refl; wishes = λ b. refl }

      aside_all : Aside olds news
      aside_all = record { objects = λ o g. refl; drops = λ o. refl; copies = λ r w g. refl; served = λ b. refl; issued = λ h r w. refl; wishes = λ b. refl }

      others : Others k c olds news (only t)
      others = one_changes k c sound number s here y at z named free gone come f aside.objects (λ u. refl) (λ h u. refl) refl

      freed : (x : MutexNo) → free_of m (holder_of (sight k)) x ≡ holder_of (sight c) x
      freed x =
          holder_after k c olds news sound f (only t) others x (free_of m (holder_of (sight k)) x)
          (λ g. omega (arith, by g (same_mutex x m) refl, none_held k sound number s here c0 is_coloured t y at live y bare x g, none_held k sound number s here c0 is_coloured t y at live z free x g))
        where
          by : (g : ℕ → ℕ) (b : Bool) → same_mutex x m ≡ b → told g (if b then None else holder_of (sight k) x) + told g (holder_by (sight k) x mark) ≡ told g (holder_of (sight k) x)
          by g true e =
              let same : x ≡ m = mutex_is x m e in
              let was : told g (holder_of (sight k) x) ≡ g t = ap (λ i. told g (holder_of (sight k) i)) same ∙ ap (told g) held_here in
              let mine : told g (holder_by (sight k) x mark) ≡ g t = ap (λ b. told g (or_else (if_some b t) None)) (mutex_flip m x ∙ e) in
              omega (arith, was, mine)
          by g false e = let none : told g (holder_by (sight k) x mark) ≡ 0 = ap (λ b. told g (or_else (if_some b t) None)) (mutex_flip m x ∙ e) in omega (arith, none)

      returned_agrees : Agrees (returning m (answers_of (sight k))) (answers_of (sight c))
      returned_agrees =
          let started : (u : ℕ) → is_given_thread (sight k) u ≡ is_given_thread (sight c) u = started_still k c olds news sound f (λ r i. refl) in
          let threads_same : (u : ℕ) → tot (is_thread u) olds ≡ tot (is_thread u) news = (λ u. let same : one (z.number == u) ≡ one (y.number == u) = ap (λ i. one (i == u)) named in omega (arith, same)) in
          let running : (u : ℕ) → running_of (sight k) u ≡ running_of (sight c) u =
          (λ u. running_still k c olds news sound f threads_same u (λ g. let same = runs_on k sound number s here c0 is_coloured y at live z named on u g in omega (arith, same))) in record {
            object = objects_same k c olds news sound f words.words aside_all;
            copy = copies_same k c olds news sound f words.words aside_all;
            served = served_same k c olds news sound f words.words aside_all;
            issued = issued_same k c olds news sound f words.words aside_all;
            started = started;
            running = running;
            ended = ended_by k c started (λ u. ap is_none (running u));
            wishes = wishes_same k c olds news sound f words.words aside_all;
            made = made_still k c olds news sound f (λ r i. refl);
            there = λ x e. there_still k c olds news sound f x refl ∙ e;
            holder = freed;
          }

    abbrev w1 : Work
    w1 = note (act.GiveBack m) h0.work

    abbrev h1 : Hand
    h1 = record h0 { work = w1 }

    abbrev h2 : Hand
    h2 = working (label_all (label.Unlock m ∷ [])) h1

    abbrev w3 : Work
    w3 = send m.home (message.Unlock m v) h2.work

    turned : Turning s y gone come acts (record h2 { work = w3 })
    turned =
        let t1 : Turning s y gone [] [] h0 = reslotted s y [] [] [] start (begins s y) vs gone [] (λ f i. let e = marked_slots f i in omega (arith, e)) in
        let t2 : Turning s y gone [] acts h1 = worked s y gone [] [] h0 t1 w1 [] [] acts (notes h0.work [] [] [] h0.work (act.GiveBack m) (turns_none h0.work)) in
        let t3 : Turning s y gone [] acts h2 = labelled s y gone [] acts h1 t2 (label.Unlock m ∷ []) refl in
        worked s y gone [] acts h2 t3 w3 [] come [] (sends h2.work [] [] [] h2.work m.home (message.Unlock m v) (turns_none h2.work))

    pub unlock_steps : Steps (LeavesWords k) k s y c0 fresh.None false (send_content m v h0)
    unlock_steps = record {
      olds = gone;
      news = come;
      acts = acts;
      turned = turned;
      gift = bare;
      leads = λ c z named free on f words.
          let q0 : Answers = answers_of (sight k) in
          let all : Fits q0 c0 = fits (sight k) c0 is_coloured in
          let e : EntryView = done_entry n t fresh.None acts w3.labels in
          done_leads k.options n t fresh.None acts w3.labels c0 q0 (returning m q0) (returning m q0) c turned.labels all (server_there k sound number s here).0 (running_here k sound number s here c0 is_coloured y at live) (it_runs k sound number s here c0 is_coloured y at live) (numbers.itself n)
          (runs_one k.options e (act.GiveBack m) c0 (returning m q0) (return_allowed k.options e c0 q0 m t all refl home_there held_here)) (names_none n t acts w3.labels (returning m q0)) (returned_agrees c z named free on f words);
    }

-- IN ITS CLUSTER

module _ (k : Cluster) (sound : IsSound k) (number : ℕ) (s : Server) (here : server_at k.servers number ≡ Some s) (c0 : Coloured) (is_coloured : StandsColoured k c0) (y : ThreadState) (at : thread_in s.threads y.number ≡ Some y) (live : is_over y.phase ≡ false) (bare : y.gift ≡ None) where
  abbrev begun : Hand
  begun = record { work = begin_work s.rest; thread = y }

  abbrev P : Hand → Type 0
  P = Steps (LeavesWords k) k s y c0 fresh.None false

  module _ (v : Owned) (top : last_of y.slots ≡ Some (value.Own v)) where
    abbrev rest1 : List Value
    rest1 = front_of y.slots

    content : (w : Value) → last_of rest1 ≡ Some w → (o : Option MutexNo) → held_of w ≡ o → Gives P (option_map (λ (m : Popped MutexNo). send_content m.item v m.hand) (option_map (λ x. record { item = x; hand = with_slots (front_of rest1) begun }) o))
    content w e None q = tt
    content (value.Held m) e (Some x) q =
        let same : m ≡ x = cc in
        subst (λ u. P (send_content u v (with_slots (front_of rest1) begun))) same
        (unlock_steps k sound number s here y at m (front_of rest1) v (last_split y.slots (value.Own v) top ∙ ap (λ l. l ++ value.Own v ∷ []) (last_split rest1 (value.Held m) e)) c0 is_coloured live bare)
    content _ e (Some x) q = absurd (cc q)

    below : (o : Option Value) → last_of rest1 ≡ o
        → Gives P (option_map (λ (m : Popped MutexNo). send_content m.item v m.hand) (then_some {X = Popped Value} (option_map (λ w. record { item = w; hand = with_slots (front_of rest1) begun }) o) (taken_as held_of)))
    below None e = tt
    below (Some w) e = content w e (held_of w) refl

  -- the step, where a content and its mark are on top
  pub unlocks : Gives P (unlock begun)
  unlocks = by (last_of y.slots) refl
    where
      owned_by : (w : Value) → last_of y.slots ≡ Some w → (o : Option Owned) → owned_of w ≡ o
          → Gives P (then_some {X = Popped Owned} (option_map (λ u. record { item = u; hand = with_slots (front_of y.slots) begun }) o) (λ v. option_map (λ m. send_content m.item v.item m.hand) (then_some (pop_slot v.hand) (taken_as held_of))))
      owned_by w e None q = tt
      owned_by (value.Own u) e (Some v) q = let same : u ≡ v = cc in subst (λ x. Gives P (option_map (λ (m : Popped MutexNo). send_content m.item x m.hand) (then_some (pop_slot (with_slots (front_of y.slots) begun)) (taken_as held_of)))) same (below u e (last_of (front_of y.slots)) refl)
      owned_by _ e (Some v) q = absurd (cc q)

      by : (o : Option Value) → last_of y.slots ≡ o
          → Gives P (then_some {X = Popped Owned} (then_some {X = Popped Value} (option_map (λ w. record { item = w; hand = with_slots (front_of y.slots) begun }) o) (taken_as owned_of)) (λ v. option_map (λ m. send_content m.item v.item m.hand) (then_some (pop_slot v.hand) (taken_as held_of))))
      by None e = tt
      by (Some w) e = owned_by w e (owned_of w) refl

-- so its entry is legal
pub unlocks_legal : StepsLegal Unlocks
unlocks_legal k number t s y i coherent few here at code is =
    let own = by_number s t y at in
    let now : slice_get k.code y.pc ≡ Some instr.Unlock = subst (λ j. slice_get k.code y.pc ≡ Some j) is code in
    step_legal (LeavesWords k) k number t s y instr.Unlock coherent.sound few here at now (owned_goes k number t s y instr.Unlock coherent few here at now puts_back)
    (λ c0 is_coloured calm.
    goes_on_led (LeavesWords k) k s y own c0 fresh.None (unlock (record { work = begin_work s.rest; thread = y }))
    (unlocks k coherent.sound number s here c0 is_coloured y own (lives y.phase calm) (gift_fits k coherent.sound number s here t y at instr.Unlock now).0))
