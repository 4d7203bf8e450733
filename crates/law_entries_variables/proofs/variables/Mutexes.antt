-- A new mutex: none had its name before, and its content is in.
use Rattle.std.proofs.Common.{◌≡◌, ℕ, ◌+◌, ◌≤◌, ◌==◌, ◌&&◌, ◌||◌, nat_le, not, Bool, true, false, if◌then◌else◌, List, [], ◌∷◌, ◌++◌, Option, Some, None, is_some, is_none, refl, sym, ap, ap₂, subst, ◌∙◌, arith}
use Rattle.std.specs.Prelude.{slice_get, option_map}
use Rattle.law_words_ends.proofs.Below.fr_typing.PlaceLemmas.{eq_cases}
use Rattle.law_words_ends.specs.Below.fr_base.declared.name.MutexNo.{MutexNo}
use Rattle.law_words_ends.specs.Below.fr_base.declared.label.Label.{Label}
use Rattle.law_words_ends.specs.Below.fr_base.declared.instruction.Operand.{Operand}
use Rattle.law_words_ends.specs.Below.fr_base.declared.instruction.Operand.TheVariants as operand
use Rattle.law_words_ends.specs.Below.fr_base.declared.instruction.Instr.{Instr}
use Rattle.law_words_ends.specs.Below.fr_base.declared.instruction.Instr.TheVariants as instr
use Rattle.law_words_ends.specs.Below.fr_base.declared.step.Fresh.TheVariants as fresh
use Rattle.law_words_ends.specs.Below.heap_partition.declared.value.Owned.{Owned}
use Rattle.law_words_ends.specs.Below.heap_partition.declared.value.Owned.TheVariants as owned
use Rattle.law_words_ends.specs.Below.law_counts_sums.Below.mutex_home.Mutexes.{Mutex, can_make, make, next_mutex}
use Rattle.law_words_ends.specs.Below.thread_state.View.{ThreadState, is_over}
use Rattle.law_words_ends.specs.Below.thread_state.declared.value.Value.{Value}
use Rattle.law_words_ends.specs.Below.thread_state.declared.value.Value.TheVariants as value
use Rattle.law_words_ends.specs.Below.journal.declared.act.Act.{Act}
use Rattle.law_words_ends.specs.Below.server_model.declared.event.What.TheVariants.{Step}
use Rattle.law_words_ends.specs.Below.server_model.Servers.{Rest, Server, Cluster, server_at}
use Rattle.law_words_ends.specs.Below.server_model.Work.{Hand, Popped, last_of, front_of, owned_of, taken_as, then_some, pop_owned, push_temp, with_temps, with_mutexes, working, thread_in}
use Rattle.law_words_ends.specs.Below.server_model.Commit.{mutex_made}
use Rattle.law_words_ends.specs.Below.server_model.Events.{begin_work}
use Rattle.law_entries_variables.specs.Below.coloured_heap.Heap.{Coloured, Guarded, mutex_at}
use Rattle.law_entries_variables.proofs.Below.coloured_heap.Times.{mutex_is, number_is}
use Rattle.law_entries_variables.proofs.Below.coloured_heap.ShownNames.{number_itself}
use Rattle.law_words_ends.specs.Below.coherent_memory.Names.{tot, one, other, some, same_mutex}
use Rattle.law_words_ends.specs.Below.coherent_memory.Things.{Thing, stands, at_home, things_at, mutex_things, things_of}
use Rattle.law_words_ends.specs.Below.coherent_memory.Sight.{Sight, sight}
use Rattle.law_words_ends.specs.Below.coherent_memory.Walking.{sum_threads}
use Rattle.law_words_ends.specs.Below.coherent_memory.Naming.{threads, named_mutexes, servers_wrong, pinned_parcel, made_at, uncounted_thread, uncounted_mutex}
use Rattle.law_words_ends.specs.Below.coherent_memory.Sharing.{contents}
use Rattle.law_words_ends.specs.Below.coherent_memory.Weights.{is_thread, is_home_of}
use Rattle.law_words_ends.specs.Below.coherent_memory.OneHeap.{is_given_mutex}
use Rattle.law_words_ends.specs.Below.coherent_memory.Colours.{StandsColoured, running_of, holder_of, is_mutex_there}
use Rattle.law_words_ends.specs.Below.coherent_memory.Coherent.{IsSound}
use Rattle.law_words_ends.specs.Below.law_counts_sums.Kinds.{step_mutex, instr_kind}
use Rattle.law_words_ends.specs.Below.law_counts_sums.Laws.{Gives, FewEvents}
use Rattle.law_words_ends.proofs.Below.law_counts_sums.Trades.{Trade, tot-push}
use Rattle.law_words_ends.proofs.Below.law_counts_sums.Bags.{counts_of, of_mutexes}
use Rattle.law_words_ends.proofs.Below.law_counts_sums.Askers.{other_none}
use Rattle.law_words_ends.proofs.Below.law_counts_sums.Boxes.{tot_le}
use Rattle.law_words_ends.proofs.Below.law_counts_sums.GiftsTaken.{gift_fits}
use Rattle.law_entries_variables.proofs.Below.law_heap_still.events.Tests.{numbers}
use Rattle.law_entries_variables.proofs.Below.law_heap_still.events.Told.{told, ones}
use Rattle.law_words_ends.specs.Below.law_words_paths.words.Unmoved.{LeavesWords}
use Rattle.law_words_ends.specs.Below.law_words_values.carried.Steps.{a_mutex}
use Rattle.law_words_ends.proofs.Below.law_words_values.carried.Events.{steps_carry}
use Rattle.law_entries_variables.specs.deliveries.Entries.{EntryLegal, EntriesLegal}
use Rattle.law_entries_variables.proofs.deliveries.Answers.{Answers, answers_of, Fits, fits, Agrees}
use Rattle.law_entries_variables.proofs.deliveries.Weighed.{Seen, WorkTurns}
use Rattle.law_entries_variables.proofs.deliveries.Shown.{holder_by, holder_is, none_first, there_in}
use Rattle.law_entries_variables.proofs.deliveries.HeldOnce.{holders_less}
use Rattle.law_entries_variables.proofs.deliveries.Changed.{mutex_seen}
use Rattle.law_entries_variables.proofs.deliveries.After.{Follows, started_still, running_still, ended_by}
use Rattle.law_entries_variables.proofs.deliveries.Runs.{runs_none}
use Rattle.law_entries_variables.proofs.deliveries.Applied.{server_there}
use Rattle.law_entries_variables.proofs.still.PlainSteps.{lives}
use Rattle.law_entries_variables.proofs.still.Settled.{none_held}
use Rattle.law_entries_variables.proofs.variables.Turning.{Turning, begins, rethreaded, worked}
use Rattle.law_entries_variables.proofs.variables.Holders.{Others, holder_still}
use Rattle.law_entries_variables.proofs.variables.Led.{Ends, done_entry, done_leads, Steps, goes_on_led}
use Rattle.law_entries_variables.proofs.variables.Aside.{Aside, objects_same, copies_same, served_same, issued_same, wishes_same, only, one_changes}
use Rattle.law_entries_variables.proofs.variables.InStep.{by_number, step_legal, kind_legal}
use Rattle.law_entries_variables.proofs.variables.Quiets.{running_here, it_runs, runs_on}
use Rattle.law_entries_variables.proofs.variables.Counts.{made_here, next_counted, below_next}

-- IN THE COLOURED HEAP

-- a mutex is there that wasn't, and nobody has its content
abbrev making : MutexNo → Answers → Answers
making m q = record q { made = λ x. same_mutex m x || q.made x; there = λ x. same_mutex m x || q.there x }

mutex_named : (n t : ℕ) (m : MutexNo) (acts : List Act) (ls : List Label) (q : Answers) → (m.home == n) ≡ true → q.made m ≡ false → q.holder m ≡ None → Ends (done_entry n t (fresh.Mutex m) acts ls) q (making m q)
mutex_named n t m acts ls q home fresh free = record {
  allowed = λ c h. ap₂ (λ a b. a && b) home (none (mutex_at c m) (h.made m ∙ fresh));
  fits = λ c h. record {
    objects = h.objects;
    copies = h.copies;
    served = h.served;
    issued = h.issued;
    started = h.started;
    servers = h.servers;
    ended = h.ended;
    wishes = h.wishes;
    made = λ x. by_made c x (same_mutex m x) ∙ ap (λ b. same_mutex m x || b) (h.made x);
    mutexes = λ x there. by_there c h x (same_mutex m x) refl there;
  };
}
  where
    new : Guarded
    new = record { mutex = m; holder = None }

    none : (o : Option Guarded) → is_some o ≡ false → is_none o ≡ true
    none None e = refl
    none (Some g) e = absurd (cc e)

    by_made : (c : Coloured) (x : MutexNo) (b : Bool) → is_some (if b then Some new else mutex_at c x) ≡ (b || is_some (mutex_at c x))
    by_made c x true = refl
    by_made c x false = refl

    by_there : (c : Coloured) → Fits q c → (x : MutexNo) (b : Bool) → same_mutex m x ≡ b → (b || q.there x) ≡ true → (if b then Some new else mutex_at c x) ≡ Some (record { mutex = x; holder = q.holder x })
    by_there c h x true e there =
        let same : m ≡ x = mutex_is m x e in
        subst (λ z. Some new ≡ Some (record { mutex = z; holder = q.holder z })) same (ap (λ o. Some (record { mutex = m; holder = o })) (sym free))
    by_there c h x false e there = h.mutexes x there

-- IN THE CLUSTER

made_seen : (r c : ℕ) → Seen (made_at r c)
made_seen r c = record { held = λ p v. refl; shared = λ l q. refl; lent = λ l q. refl; flown = λ v c. refl; used = λ r v. refl; loose = λ u i o. refl; counted = λ r b q s o e. refl; unused = λ i d u. refl }

there_seen : (m : MutexNo) → Seen (there_in m)
there_seen m = record { held = λ p v. refl; shared = λ l q. refl; lent = λ l q. refl; flown = λ v c. refl; used = λ r v. refl; loose = λ u i o. refl; counted = λ r b q s o e. refl; unused = λ i d u. refl }

listed_home : (q : Sight) (m n : ℕ) (ss : List Server) (s : Server) → servers_wrong q m ss ≡ 0 → server_at ss n ≡ Some s → s.rest.mutexes.home ≡ s.rest.number
listed_home q m n [] s z h = absurd (cc h)
listed_home q m n (x ∷ ss) s z h =
    let numbered : x.rest.number ≡ m = number_is x.rest.number m (other_none (x.rest.number == m) (omega (arith, z))) in
    let home : x.rest.mutexes.home ≡ m = number_is x.rest.mutexes.home m (other_none (x.rest.mutexes.home == m) (omega (arith, z))) in
    eq_cases (λ b. (if b then Some x else server_at ss n) ≡ Some s → s.rest.mutexes.home ≡ s.rest.number) x.rest.number n
    (λ e d. let same : x ≡ s = cc in subst (λ (y : Server). y.rest.mutexes.home ≡ y.rest.number) same (home ∙ sym numbered))
    (λ ne d. listed_home q (m + 1) n ss s (omega (arith, z)) d) h

-- a server is the home of its mutexes
home_of_mutexes : (k : Cluster) → IsSound k → (number : ℕ) (s : Server) → server_at k.servers number ≡ Some s → s.rest.mutexes.home ≡ s.rest.number
home_of_mutexes k sound number s here =
    let parts : servers_wrong (sight k) 0 k.servers + sum_threads (sight k) pinned_parcel ≡ 0 = sound.parts.parts_are_typed in listed_home (sight k) 0 number k.servers s (omega (arith, parts)) here

-- a name that wasn't given
module _ (k : Cluster) (sound : IsSound k) (m : MutexNo) (new : is_given_mutex (sight k) m ≡ false) (counts : (m.count == 0) ≡ false) where
  uncounted : uncounted_mutex (sight k) m ≡ 1
  uncounted = by (some (tot (made_at m.home m.count) (things_of k))) (ap (λ b. not b && some (tot (made_at m.home m.count) (things_of k))) (sym counts) ∙ new)
    where
      by : (b : Bool) → (true && b) ≡ false → other b ≡ 1
      by true e = absurd (cc e)
      by false e = refl

  named_less : (x : Thing) → is_home_of m x ≤ named_mutexes (uncounted_mutex (sight k)) x
  named_less (at_home r z) = by (same_mutex z.number m) refl
    where
      by : (b : Bool) → same_mutex z.number m ≡ b → one b ≤ uncounted_mutex (sight k) z.number
      by true e = let same : uncounted_mutex (sight k) z.number ≡ 1 = ap (uncounted_mutex (sight k)) (mutex_is z.number m e) ∙ uncounted in omega (arith, same)
      by false e = omega arith
  named_less _ = omega arith

  no_home : tot (is_home_of m) (things_of k) ≡ 0
  no_home =
      let named : tot (threads (uncounted_thread (sight k))) (things_of k) + tot (named_mutexes (uncounted_mutex (sight k))) (things_of k) ≡ 0 = sound.names.names_counted in
      omega (arith, named, tot_le (is_home_of m) (named_mutexes (uncounted_mutex (sight k))) named_less (things_of k))

  -- nobody has its content
  unheld : holder_of (sight k) m ≡ None
  unheld =
      let one_place : tot (contents (sight k) m) (things_of k) ≡ tot (is_home_of m) (things_of k) = sound.mutexes_and_tasks.one_content m in
      let none : tot (λ x. told ones (holder_by (sight k) m x)) (things_of k) ≡ 0 = (let z = no_home in omega (arith, z, one_place, holders_less k m k)) in
      holder_is k m (omega (arith, none)) ∙ none_first (holder_by (sight k) m) (things_of k) none

-- THE STEP

module _ (k : Cluster) (sound : IsSound k) (number : ℕ) (s : Server) (here : server_at k.servers number ≡ Some s) (c0 : Coloured) (is_coloured : StandsColoured k c0) (y : ThreadState) (at : thread_in s.threads y.number ≡ Some y) (live : is_over y.phase ≡ false) (bare : y.gift ≡ None) where
  abbrev n : ℕ
  n = s.rest.number

  abbrev start : Hand
  start = record { work = begin_work s.rest; thread = y }

  abbrev m : MutexNo
  m = next_mutex s.rest.mutexes

  abbrev P : Hand → Type 0
  P = Steps (LeavesWords k) k s y c0 (fresh.Mutex m) false

  home : m.home ≡ n
  home = home_of_mutexes k sound number s here

  counts : (m.count == 0) ≡ false
  counts = by (m.count == 0) refl
    where
      by : (b : Bool) → (s.rest.mutexes.made + 1 == 0) ≡ b → b ≡ false
      by true e = absurd (let z : s.rest.mutexes.made + 1 ≡ 0 = number_is (s.rest.mutexes.made + 1) 0 e in omega (arith, z))
      by false e = refl

  unmade : is_given_mutex (sight k) m ≡ false
  unmade =
      ap (λ h. not (m.count == 0) && some (tot (made_at h m.count) (things_of k))) home ∙ ap₂ (λ b i. not b && some i) counts (made_here k sound number s here m.count) ∙ ap (λ b. some (one b)) (below_next s.rest.mutexes.made)

  module _ (v : Owned) where
    abbrev new : Mutex
    new = record { number = m; content = Some v; shares = 1; queue = [] }

    abbrev rest2 : Rest
    rest2 = record s.rest { mutexes = make s.rest.mutexes v }

    abbrev gone : List Thing
    gone = counts_of n 0 s.rest ∷ []

    abbrev come : List Thing
    come = counts_of n 0 rest2 ∷ at_home n new ∷ []

    pushed : Trade (things_at (mutex_things n) 0 s.rest.mutexes.there) [] (mutex_things n 0 new) (things_at (mutex_things n) 0 (s.rest.mutexes.there ++ new ∷ []))
    pushed = record { rest = things_at (mutex_things n) 0 s.rest.mutexes.there; before = λ f. omega arith; after = λ f. omega (arith, tot-push (mutex_things n) f s.rest.mutexes.there 0 new) }

    turns : WorkTurns (begin_work s.rest) gone come [] (with_mutexes (make s.rest.mutexes v) (begin_work s.rest))
    turns = record {
      number = refl;
      noted = refl;
      labels = refl;
      things = λ f i. let t = of_mutexes n 0 s.rest (make s.rest.mutexes v) pushed in omega (arith, t.before f, t.after f, mutex_seen f i n new);
    }

    made_more : (r c : ℕ) → (n == r) ≡ false → made_at r c (counts_of n 0 rest2) ≡ made_at r c (counts_of n 0 s.rest)
    made_more r c e = ap (λ b. one (b && nat_le c (s.rest.mutexes.made + 1))) e ∙ sym (ap (λ b. one (b && nat_le c s.rest.mutexes.made)) e)

    module _ (z : ThreadState) (named : z.number ≡ y.number) (free : z.gift ≡ None) (on : is_over z.phase ≡ false) (c : Cluster) (f : Follows k c (stands n false y ∷ gone) (stands n false z ∷ come)) (words : LeavesWords k c) where
      abbrev olds : List Thing
      olds = stands n false y ∷ gone

      abbrev news : List Thing
      news = stands n false z ∷ come

      aside : Aside gone come
      aside = record { objects = λ o g. refl; drops = λ o. refl; copies = λ r w g. refl; served = λ b. refl; issued = λ h r w. refl; wishes = λ b. refl }

      aside_all : Aside olds news
      aside_all = record { objects = λ o g. refl; drops = λ o. refl; copies = λ r w g. refl; served = λ b. refl; issued = λ h r w. refl; wishes = λ b. refl }

      others : Others k c olds news (only y.number)
      others = one_changes k c sound number s here y at z named free gone come f aside.objects (λ t. refl) (λ h t. refl) refl

      -- it is made, and what was made before
      made_then : (x : MutexNo) → (same_mutex m x || is_given_mutex (sight k) x) ≡ is_given_mutex (sight c) x
      made_then x = by (n == x.home) refl
        where
          change : tot (made_at x.home x.count) (things_of c) + made_at x.home x.count (counts_of n 0 s.rest) ≡ tot (made_at x.home x.count) (things_of k) + made_at x.home x.count (counts_of n 0 rest2)
          change = omega (arith, f.things (made_at x.home x.count) (made_seen x.home x.count))

          by : (b : Bool) → (n == x.home) ≡ b → (same_mutex m x || is_given_mutex (sight k) x) ≡ is_given_mutex (sight c) x
          by false e =
              let same : tot (made_at x.home x.count) (things_of k) ≡ tot (made_at x.home x.count) (things_of c) = omega (arith, change, made_more x.home x.count e) in
              ap (λ h. ((h == x.home) && (m.count == x.count)) || is_given_mutex (sight k) x) home ∙ ap (λ b. (b && (m.count == x.count)) || is_given_mutex (sight k) x) e ∙ ap (λ i. not (x.count == 0) && some i) same
          by true e =
              let there : n ≡ x.home = number_is n x.home e in
              let before : tot (made_at x.home x.count) (things_of k) ≡ one (nat_le x.count s.rest.mutexes.made) = ap (λ h. tot (made_at h x.count) (things_of k)) (sym there) ∙ made_here k sound number s here x.count in
              let old : made_at x.home x.count (counts_of n 0 s.rest) ≡ one (nat_le x.count s.rest.mutexes.made) = ap (λ b. one (b && nat_le x.count s.rest.mutexes.made)) e in
              let more : made_at x.home x.count (counts_of n 0 rest2) ≡ one (nat_le x.count (s.rest.mutexes.made + 1)) = ap (λ b. one (b && nat_le x.count (s.rest.mutexes.made + 1))) e in
              let after : tot (made_at x.home x.count) (things_of c) ≡ one (nat_le x.count (s.rest.mutexes.made + 1)) = omega (arith, change, before, old, more) in
              ap (λ h. ((h == x.home) && (m.count == x.count)) || is_given_mutex (sight k) x) home ∙ ap₂ (λ b i. (b && (m.count == x.count)) || (not (x.count == 0) && some i)) e before ∙ next_counted s.rest.mutexes.made x.count
              ∙ sym (ap (λ i. not (x.count == 0) && some i) after)

      there_then : (x : MutexNo) → is_mutex_there (sight c) x ≡ true → (same_mutex m x || is_mutex_there (sight k) x) ≡ true
      there_then x e = by (same_mutex m x) refl
        where
          by : (b : Bool) → same_mutex m x ≡ b → (b || is_mutex_there (sight k) x) ≡ true
          by true q = refl
          by false q =
              let none : one (same_mutex m x) ≡ 0 = ap one q in
              let same : tot (there_in x) (things_of k) ≡ tot (there_in x) (things_of c) = omega (arith, f.things (there_in x) (there_seen x), none) in
              ap some same ∙ e

      agrees : Agrees (making m (answers_of (sight k))) (answers_of (sight c))
      agrees =
          let started = started_still k c olds news sound f (λ r i. refl) in
          let threads_same : (t : ℕ) → tot (is_thread t) olds ≡ tot (is_thread t) news = (λ t. let same : one (z.number == t) ≡ one (y.number == t) = ap (λ i. one (i == t)) named in omega (arith, same)) in
          let running : (t : ℕ) → running_of (sight k) t ≡ running_of (sight c) t =
          (λ t. running_still k c olds news sound f threads_same t (λ g. let same = runs_on k sound number s here c0 is_coloured y at live z named on t g in omega (arith, same))) in record {
            object = objects_same k c olds news sound f words.words aside_all;
            copy = copies_same k c olds news sound f words.words aside_all;
            served = served_same k c olds news sound f words.words aside_all;
            issued = issued_same k c olds news sound f words.words aside_all;
            started = started;
            running = running;
            ended = ended_by k c started (λ t. ap is_none (running t));
            wishes = wishes_same k c olds news sound f words.words aside_all;
            made = made_then;
            there = there_then;
            holder = λ x. holder_still k c olds news sound f (only y.number) others x (λ g. omega (arith, none_held k sound number s here c0 is_coloured y.number y at live y bare x g, none_held k sound number s here c0 is_coloured y.number y at live z free x g));
          }

    -- a mutex of the value is made
    mutex_steps : (ts : List Value) → P (push_temp (value.Own (owned.Mutex m)) (working (with_mutexes (make s.rest.mutexes v)) (with_temps ts start)))
    mutex_steps ts =
        let h1 : Hand = working (with_mutexes (make s.rest.mutexes v)) (with_temps ts start) in
        let h2 : Hand = push_temp (value.Own (owned.Mutex m)) h1 in
        let t0 : Turning s y [] [] [] (with_temps ts start) = rethreaded s y [] [] [] start (begins s y) (record y { temps = ts }) refl refl in
        let t1 : Turning s y gone come [] h1 = worked s y [] [] [] (with_temps ts start) t0 (with_mutexes (make s.rest.mutexes v) (begin_work s.rest)) gone come [] turns in
        let t2 : Turning s y gone come [] h2 = rethreaded s y gone come [] h1 t1 h2.thread refl refl in record {
          olds = gone;
          news = come;
          acts = [];
          turned = t2;
          gift = bare;
          leads = λ c z named free on f words.
              let q0 : Answers = answers_of (sight k) in
              let all : Fits q0 c0 = fits (sight k) c0 is_coloured in
              done_leads k.options n y.number (fresh.Mutex m) [] h2.work.labels c0 q0 q0 (making m q0) c t2.labels all (server_there k sound number s here).0 (running_here k sound number s here c0 is_coloured y at live) (it_runs k sound number s here c0 is_coloured y at live) (numbers.itself n)
              (runs_none k.options (done_entry n y.number (fresh.Mutex m) [] h2.work.labels) c0 q0 all) (mutex_named n y.number m [] h2.work.labels q0 (ap (λ h. h == n) home ∙ number_itself n) unmade (unheld k sound m unmade counts))
              (agrees z named free on c f words);
        }

  made_of : (v : Owned) (ts : List Value) → Gives P (mutex_made v (with_temps ts start))
  made_of v ts = by (can_make s.rest.mutexes)
    where
      by : (b : Bool) → Gives P (if b then Some (push_temp (value.Own (owned.Mutex m)) (working (with_mutexes (make s.rest.mutexes v)) (with_temps ts start))) else None)
      by true = mutex_steps v ts
      by false = tt

  -- whatever its content is
  pub mutexes : (o : Operand) → Gives P (then_some (pop_owned o start) (λ t. mutex_made t.item t.hand))
  mutexes (operand.Const i) = made_of (owned.Int i) y.temps
  mutexes operand.Unit = made_of owned.Unit y.temps
  mutexes operand.Pop = by (last_of y.temps)
    where
      h1 : Hand
      h1 = with_temps (front_of y.temps) start

      owned_by : (o : Option Owned) → Gives P (then_some {X = Popped Owned} (option_map (λ u. record { item = u; hand = h1 }) o) (λ t. mutex_made t.item t.hand))
      owned_by None = tt
      owned_by (Some u) = made_of u (front_of y.temps)

      by : (o : Option Value) → Gives P (then_some {X = Popped Owned} (then_some {X = Popped Value} (option_map (λ v. record { item = v; hand = h1 }) o) (taken_as owned_of)) (λ t. mutex_made t.item t.hand))
      by None = tt
      by (Some v) = owned_by (owned_of v)

mutexes_go : (k : Cluster) (number t : ℕ) (s : Server) (y : ThreadState) (o : Operand) → IsSound k → FewEvents k → server_at k.servers number ≡ Some s → thread_in s.threads t ≡ Some y → slice_get k.code y.pc ≡ Some (instr.Mutex o)
    → EntryLegal k (record { server = number; what = Step t })
mutexes_go k number t s y o sound few here at code =
    let own = by_number s t y at in
    step_legal (LeavesWords k) k number t s y (instr.Mutex o) sound few here at code (steps_carry k number t s y (instr.Mutex o) sound few here at code (a_mutex o))
    (λ c0 is_coloured calm.
    goes_on_led (LeavesWords k) k s y own c0 (fresh.Mutex (next_mutex s.rest.mutexes)) (then_some (pop_owned o (record { work = begin_work s.rest; thread = y })) (λ t. mutex_made t.item t.hand))
    (mutexes k sound number s here c0 is_coloured y own (lives y.phase calm) (gift_fits k sound number s here t y at (instr.Mutex o) code).0 o))

-- so its entry is legal
pub mutexes_legal : EntriesLegal step_mutex
mutexes_legal = kind_legal step_mutex tt (λ k number t s y i sound few here at code kind. by k number t s y sound few here at i kind code)
  where
    by : (k : Cluster) (number t : ℕ) (s : Server) (y : ThreadState) → IsSound k → FewEvents k → server_at k.servers number ≡ Some s → thread_in s.threads t ≡ Some y → (i : Instr) → instr_kind i ≡ step_mutex → slice_get k.code y.pc ≡ Some i
        → EntryLegal k (record { server = number; what = Step t })
    by k number t s y sound few here at (instr.Mutex o) kind code = mutexes_go k number t s y o sound few here at code
    by k number t s y sound few here at _ kind code = absurd (cc kind)
