-- The hand of a step that writes, with its thread put back: what is noted and passed changes no value.
use Rattle.std.proofs.Common.{◌≡◌, ⊎_elim, ℕ, ◌+◌, ◌==◌, Bool, true, false, if◌then◌else◌, List, [], ◌∷◌, ◌++◌, Option, Some, None, IsSome, refl, sym, ap, subst, ◌∙◌}
use Rattle.std.specs.Prelude.{slice_get}
use Rattle.law_results_events.specs.Below.thread_state.View.{ThreadState}
use Rattle.law_results_events.specs.Below.thread_state.declared.phase.Phase.{Phase}
use Rattle.law_results_events.specs.Below.server_msgs.declared.message.Message.{Message}
use Rattle.law_results_events.specs.Below.journal.declared.act.Act.{Act}
use Rattle.law_results_events.specs.Below.server_model.Servers.{Server, Cluster, server_at}
use Rattle.law_results_events.specs.Below.server_model.Work.{Hand, note, send, working, with_phase, thread_in, set_thread, without_thread, put_back}
use Rattle.law_results_events.specs.Below.server_model.Clusters.{with_server}
use Rattle.law_results_events.specs.Below.server_model.Places.{Spot, load_at}
use Rattle.law_results_events.specs.Below.server_model.Prepare.{passing}
use Rattle.law_results_events.specs.Below.server_model.Events.{begin_work, begin_at}
use Rattle.law_results_events.specs.Below.coherent_memory.Names.{Among}
use Rattle.law_results_events.specs.Below.coherent_memory.Things.{Location, at_slot, at_temp, in_cell, Thing, sent, thread_things, message_things, server_things, servers_things, things_of}
use Rattle.law_results_events.specs.Below.coherent_memory.Follow.{Standing, value_in, value_of, cell_of, cells_in, threads_in, thread_at, slot_of, temp_of}
use Rattle.law_results_events.specs.Below.coherent_memory.Sight.{Pointer, pointers_of, sight}
use Rattle.law_results_events.specs.Below.coherent_types.ClusterTypes.{IsCoherent}
use Rattle.law_results_events.proofs.Below.law_words_paths.paths.Contained.{rest_none}
use Rattle.law_results_events.proofs.Below.law_words_paths.paths.Origins.{threads_joined, among_first, among_second}
use Rattle.law_results_events.proofs.Below.law_words_paths.paths.Sole.{some_is}
use Rattle.law_results_events.specs.Below.law_words_paths.words.Reworded.{HasPlaces}
use Rattle.law_results_events.specs.Below.law_words_paths.words.PutBack.{put_in}
use Rattle.law_results_events.proofs.Below.law_words_paths.words.Put.{Split, put_split}
use Rattle.law_results_events.proofs.Below.law_words_paths.words.Unseen.{Alike as Same, alike_itself, server_alike, servers_alike as servers_same}
use Rattle.law_results_events.proofs.Below.law_words_paths.words.Slots.{thread_replaced, thread_cells, cells_joined}
use Rattle.law_results_events.proofs.Below.law_counts_sums.Rules.{is_plain}
use Rattle.law_results_events.proofs.Below.law_counts_sums.RulesKeep.{sums_kept}
use Rattle.law_results_events.proofs.Below.law_counts_sums.Bags.{all_standing, body_things, sent_number, thread_number}
use Rattle.law_results_events.proofs.Below.law_counts_sums.Chains.{phase_changes, hand_sends}
use Rattle.law_results_events.proofs.Below.law_counts_sums.Events.{others_of}
use Rattle.law_results_events.proofs.Below.law_counts_sums.ObjectMessages.{passes}
use Rattle.law_results_events.proofs.Below.law_words_kept.stays.Alike.{Alike, itself, turned, chain, beside, blank, goes as goes_unseen}
use Rattle.law_results_events.proofs.Below.law_words_kept.stays.Lists.{thread_set, taken_alike}
use Rattle.law_results_events.proofs.Below.law_words_kept.stays.Servers.{held_if, sends}
use Rattle.law_results_events.proofs.Below.law_words_kept.stays.Threads.{slots_of, temps_of, thread_alike, TakesNone}
use Rattle.law_results_events.proofs.Below.law_words_kept.stays.Sites.{HandAlike, put_alike, begun_alike, ends_alike, servers_alike, replaced}
use Rattle.law_results_events.proofs.Below.law_words_kept.stays.Steps.{TakesNoneHere, hand_itself}
use Rattle.law_results_events.specs.Below.law_words_kept.prepared.Requests.{WordsRise}
use Rattle.law_results_events.proofs.Below.law_words_kept.prepared.Hands.{Ok, put, places, stands, first_hand}
use Rattle.law_words_asked.proofs.writes.Onward.{Onward, onward_itself, onward_alike, holds_alike}

append_assoc : {A : Type 0} (a b c : List A) → a ++ b ++ c ≡ a ++ (b ++ c)
append_assoc [] b c = refl
append_assoc (x ∷ a) b c = ap (λ l. x ∷ l) (append_assoc a b c)

nil_right : {A : Type 0} (l : List A) → l ++ [] ≡ l
nil_right [] = refl
nil_right (x ∷ l) = ap (λ m. x ∷ m) (nil_right l)

-- A THREAD WITH THE SAME VALUES

module _ (a b : Cluster) (n : ℕ) (t u : ThreadState) (number : u.number ≡ t.number) (slots : u.slots ≡ t.slots) (temps : u.temps ≡ t.temps)
    (s : Split (things_of a) (things_of b) (thread_things n false t) (thread_things n false u)) where
  abbrev x : Standing
  x = record { server = n; packed = false; thread = t }

  abbrev y : Standing
  y = record { server = n; packed = false; thread = u }

  parts : (l m r : List Thing) (z : Standing) → threads_in m ≡ z ∷ [] → threads_in (l ++ m ++ r) ≡ threads_in l ++ (z ∷ threads_in r)
  parts l m r z e = threads_joined (l ++ m) r ∙ ap (λ q. q ++ threads_in r) (threads_joined l m) ∙ ap (λ q. threads_in l ++ q ++ threads_in r) e ∙ append_assoc (threads_in l) (z ∷ []) (threads_in r)

  threads_a : threads_in (things_of a) ≡ threads_in s.left ++ (x ∷ threads_in s.right)
  threads_a = ap threads_in s.before ∙ parts s.left (thread_things n false t) s.right x (ap (λ q. x ∷ q) (rest_none n t))

  threads_b : threads_in (things_of b) ≡ threads_in s.left ++ (y ∷ threads_in s.right)
  threads_b = ap threads_in s.after ∙ parts s.left (thread_things n false u) s.right y (ap (λ q. y ∷ q) (rest_none n u))

  cells_parts : (l m r : List Thing) → cells_in m ≡ [] → cells_in (l ++ m ++ r) ≡ cells_in l ++ cells_in r
  cells_parts l m r e = cells_joined (l ++ m) r ∙ ap (λ q. q ++ cells_in r) (cells_joined l m ∙ ap (λ q. cells_in l ++ q) e ∙ nil_right (cells_in l))

  cells_same : cells_in (things_of b) ≡ cells_in (things_of a)
  cells_same = ap cells_in s.after ∙ cells_parts s.left (thread_things n false u) s.right (thread_cells n u) ∙ sym (cells_parts s.left (thread_things n false t) s.right (thread_cells n t)) ∙ sym (ap cells_in s.before)

  -- what a thread shows that the two show alike
  shown : (read : Option Standing → Option Rattle.law_results_events.specs.Below.thread_state.declared.value.Value.Value) → read (Some y) ≡ read (Some x) → (m : ℕ) → read (thread_at (threads_in (things_of b)) m) ≡ read (thread_at (threads_in (things_of a)) m)
  shown read same m =
      ⊎_elim
      (λ (e : thread_at (threads_in s.left ++ (y ∷ threads_in s.right)) m ≡ thread_at (threads_in s.left ++ (x ∷ threads_in s.right)) m). ap (λ q. read (thread_at q m)) threads_b ∙ ap read e ∙ sym (ap (λ q. read (thread_at q m)) threads_a))
      (λ (e : (t.number ≡ m) × (thread_at (threads_in s.left ++ (x ∷ threads_in s.right)) m ≡ Some x) × (thread_at (threads_in s.left ++ (y ∷ threads_in s.right)) m ≡ Some y)).
      ap (λ q. read (thread_at q m)) threads_b ∙ ap read e.2 ∙ same ∙ sym (ap read e.1) ∙ sym (ap (λ q. read (thread_at q m)) threads_a)) (thread_replaced (threads_in s.left) (threads_in s.right) x y m number)

  pub same_values : (l : Location) → value_in (sight b).ground l ≡ value_in (sight a).ground l
  same_values (at_slot m i) = shown (λ o. slot_of o i) (ap (λ vs. slice_get vs i) slots) m
  same_values (at_temp m i) = shown (λ o. temp_of o i) (ap (λ vs. slice_get vs i) temps) m
  same_values (in_cell o) = ap (λ q. value_of (cell_of q o)) cells_same

-- A SERVER IN ITS CLUSTER

-- what is put there is found there
pub there_among : (n : ℕ) (ss : List Server) (x : Server) (y : Thing) → IsSome (server_at ss n) → Among y (server_things x) → Among y (servers_things (with_server ss n x))
there_among n [] x y here h = absurd (cc here)
there_among n (z ∷ ss) x y here h = by (z.rest.number == n) here (λ g. there_among n ss x y g h)
  where
    by : (b : Bool) → IsSome (if b then Some z else server_at ss n) → (IsSome (server_at ss n) → Among y (servers_things (with_server ss n x))) → Among y (servers_things (if b then x ∷ ss else z ∷ with_server ss n x))
    by true g go = among_first y (server_things x) (servers_things ss) h
    by false g go = among_second y (server_things z) (servers_things (with_server ss n x)) (go g)

-- THE EVENT BEGINS

-- a thread that stands there put back
set_self : (ts : List ThreadState) (t : ℕ) (y : ThreadState) → thread_in ts t ≡ Some y → y.number ≡ t → set_thread ts y ≡ ts
set_self [] t y e n = refl
set_self (z ∷ ts) t y e n = by (z.number == t) refl e (λ f. set_self ts t y f n)
  where
    tested : (b : Bool) → (z.number == t) ≡ b → (z.number == y.number) ≡ b
    tested b q = ap (λ m. z.number == m) n ∙ q

    by : (b : Bool) → (z.number == t) ≡ b → (if b then Some z else thread_in ts t) ≡ Some y → (thread_in ts t ≡ Some y → set_thread ts y ≡ ts) → set_thread (z ∷ ts) y ≡ z ∷ ts
    by true q f go = rw (tested true q) (ap (λ x. x ∷ ts) (sym (some_is f)))
    by false q f go = rw (tested false q) (ap (λ l. z ∷ l) (go f))

begun_same : (k : Cluster) (s : Server) → server_at k.servers s.rest.number ≡ Some s → (t : ℕ) (y : ThreadState) → thread_in s.threads t ≡ Some y → (l : Location)
    → value_in (sight (put_in k s.rest.number s.threads (s.events + 1) (record { work = begin_work s.rest; thread = y }))).ground l ≡ value_in (sight k).ground l
begun_same k s here t y at l =
    ap (λ ts. value_in (record { threads = ts; cells = cells_in (things_of z) }) l) same.threads ∙ ap (λ cs. value_in (record { threads = threads_in (things_of k); cells = cs }) l) same.cells
  where
    z : Cluster
    z = put_in k s.rest.number s.threads (s.events + 1) (record { work = begin_work s.rest; thread = y })

    at_server : Same (server_things s) (server_things (record { rest = s.rest; threads = set_thread s.threads y; events = s.events + 1 }))
    at_server =
        subst (λ ts. Same (server_things s) (server_things (record { rest = s.rest; threads = ts; events = s.events + 1 }))) (sym (set_self s.threads t y at (thread_number s.threads t y at)))
        (server_alike s.rest s.threads s.rest.cache s.rest.inbox s.rest.outbox s.events (s.events + 1) (alike_itself _) (alike_itself _) (alike_itself _))

    same : Same (things_of k) (things_of z)
    same = servers_same s.rest.number k.servers s (record { rest = s.rest; threads = set_thread s.threads y; events = s.events + 1 }) here at_server

-- THE HAND

module _ (k : Cluster) (coherent : IsCoherent k) (s : Server) (here : server_at k.servers s.rest.number ≡ Some s) (t : ℕ) (y : ThreadState) (at : thread_in s.threads t ≡ Some y) where
  abbrev n : ℕ
  n = s.rest.number

  abbrev pub Fits : Hand → Type 0
  Fits = Ok k coherent s here t y at

  abbrev P : Hand → Cluster
  P = put k coherent s here t y at

  abbrev others : List Thing
  others = all_standing n (without_thread s.threads t) ++ servers_things (others_of k.servers n)

  abbrev with_hand : Hand → Server
  with_hand h = record { rest = h.work.rest; threads = set_thread s.threads h.thread; events = s.events + 1 }

  -- what holds of the hand, with its thread put back
  pub record State (h : Hand) : Type 0 where
    pub ok : Fits h
    pub onward : Onward k (P h)
    pub untaken : TakesNoneHere k.code h.thread

  -- the words hold, where something was asked for
  pub record Asked (h : Hand) : Type 0 where
    pub ok : Fits h
    pub words : WordsRise k (P h)

  pub hands_alike : (h h2 : Hand) → Fits h → Fits h2 → HandAlike k.code n [] h h2 → Alike k.code (things_of (P h)) (things_of (P h2))
  hands_alike h h2 g g2 a =
      replaced n k.servers s (with_hand h) (with_hand h2) [] here
      (chain (turned (ends_alike n s.events None None (put_back s.threads h) g.number)) (chain (beside standing a.rest) (ends_alike n s.events None None (put_back s.threads h2) g2.number)))
    where
      standing : Alike k.code (all_standing n (set_thread s.threads h.thread)) (all_standing n (set_thread s.threads h2.thread))
      standing =
          chain (taken_alike (thread_things n false) 0 0 (thread_set s.threads t y h.thread at g.thread))
          (chain (beside a.thread (itself (all_standing n (without_thread s.threads t)))) (turned (taken_alike (thread_things n false) 0 0 (thread_set s.threads t y h2.thread at g2.thread))))

  -- the event begins
  pub first_state : TakesNoneHere k.code y → State (record { work = begin_work s.rest; thread = y })
  first_state none = record { ok = g; onward = onward_alike k k (P h) before (places k coherent s here t y at h g) refl same alike (onward_itself k coherent.sound); untaken = none }
    where
      h : Hand
      h = record { work = begin_work s.rest; thread = y }

      g : Fits h
      g = (first_hand k coherent s here t y at).ok

      before : HasPlaces k
      before = record { numbers_differ = coherent.sound.names.numbers_differ; home_of_each = coherent.sound.one_home.home_of_each; owner_of_each = coherent.sound.one_owner.owner_of_each }

      alike : Alike k.code (things_of k) (things_of (P h))
      alike = servers_alike n k.servers s (with_hand h) here (begun_alike s s.events None None (put_back s.threads h) (put_alike k.code [] t (begin_at s) y at h (hand_itself k.code n h)))

      same : (l : Location) → value_in (sight (P h)).ground l ≡ value_in (sight k).ground l
      same l = begun_same k s here t y at l

  pub noted : (a : Act) (h : Hand) → State h → State (working (note a) h)
  noted a h st = record { ok = record { number = st.ok.number; thread = st.ok.thread; bag = st.ok.bag }; onward = st.onward; untaken = st.untaken }

  pub loaded : (sp : Spot) (h : Hand) → State h → State (load_at sp h)
  loaded sp h st = record { ok = record { number = st.ok.number; thread = st.ok.thread; bag = st.ok.bag }; onward = st.onward; untaken = st.untaken }

  pub passed : (m : ℕ) (h : Hand) → State h → State (passing m h)
  passed m h st = record { ok = ok; onward = onward_alike k (P h) (P (passing m h)) before after refl same alike st.onward; untaken = st.untaken }
    where
      ok : Fits (passing m h)
      ok = passes sums_kept n s.events t others m h st.ok

      before : HasPlaces (P h)
      before = places k coherent s here t y at h st.ok

      after : HasPlaces (P (passing m h))
      after = places k coherent s here t y at (passing m h) ok

      same : (l : Location) → value_in (sight (P (passing m h))).ground l ≡ value_in (sight (P h)).ground l
      same l = same_values (P h) (P (passing m h)) n h.thread (record h.thread { passed = m }) refl refl refl (put_split k n s.threads (s.events + 1) h (passing m h) (stands k coherent s here t y at h st.ok) refl refl) l

      alike : Alike k.code (things_of (P h)) (things_of (P (passing m h)))
      alike =
          hands_alike h (passing m h) st.ok ok (record {
            number = refl;
            named = refl;
            thread = thread_alike n n false false h.thread (record h.thread { passed = m }) [] [] (record { number = refl; taking = refl; slots = λ i. refl; temps = λ i. refl }) (itself (slots_of n h.thread)) (itself (temps_of n h.thread)) (itself (held_if h.thread.gift));
            rest = itself (body_things n h.work.rest);
          })

  pub requests : (a : Act) (target : ℕ) (m : Message) (p : Phase) (h : Hand) → message_things target m ≡ sent target m ∷ [] → is_plain m ≡ true → ((q : Pointer) → q.at ≡ None → Among q (pointers_of (sent target m)) → ⊥) → TakesNone p → State h
      → Asked (with_phase p (working (send target m) (working (note a) h)))
  requests a target m p h alone plain quiet none w =
      let h1 = working (note a) h in
      let g1 : Fits h1 = record { number = w.ok.number; thread = w.ok.thread; bag = w.ok.bag } in
      let h2 = with_phase p (working (send target m) h1) in
      let g2 : Fits h2 = phase_changes sums_kept n s.events t others p (working (send target m) h1) (hand_sends sums_kept n s.events t others target m h1 alone plain g1) in
      let gone : Alike k.code (message_things target m) [] = subst (λ l. Alike k.code l []) (sym alone) (blank (sent target m) quiet) in
      record {
        ok = g2;
        words = holds_alike (P h) (P h2) (places k coherent s here t y at h w.ok) (places k coherent s here t y at h2 g2) refl
            (hands_alike h h2 w.ok g2 (record {
              number = sent_number h.work.rest target m;
              named = refl;
              thread = thread_alike n n false false h.thread (record h.thread { phase = p }) [] [] (record { number = refl; taking = none h.thread.number (slice_get k.code h.thread.pc) ∙ sym w.untaken; slots = λ i. refl; temps = λ i. refl })
                  (itself (slots_of n h.thread)) (itself (temps_of n h.thread)) (itself (held_if h.thread.gift));
              rest = chain (turned (goes_unseen gone)) (sends n h.work.rest w.ok.number target m);
            })) w.onward.words;
      }
