-- A served copy comes: it is under its word in the cache, in place of the same one, and no longer on its way.
use Rattle.std.proofs.Common.{◌≡◌, ℕ, ◌+◌, ◌-◌, ◌≤◌, ◌==◌, ◌&&◌, not, Bool, true, false, if◌then◌else◌, List, [], ◌∷◌, ◌++◌, Option, Some, None, is_some, option_map, refl, sym, ap, ap₂, subst, ◌∙◌, arith, append-nil}
use Rattle.std.specs.Prelude.{slice_get}
use Rattle.law_entries_variables.specs.Below.fr_base.Lists.{is_in}
use Rattle.law_entries_variables.specs.Below.fr_base.declared.name.ObjNo.{ObjNo}
use Rattle.law_entries_variables.specs.Below.fr_base.declared.label.Plain.{Plain}
use Rattle.law_entries_variables.specs.Below.heap_partition.Plain.{plain_of}
use Rattle.law_entries_variables.specs.Below.heap_partition.Same.{same_cell}
use Rattle.law_entries_variables.specs.Below.heap_partition.declared.value.Cell.{Cell}
use Rattle.law_entries_variables.specs.Below.read_cache.Cache.{Copy, copy_of as cached_of, can_fill, fill, can_pin, pin, users, with_users}
use Rattle.law_entries_variables.specs.Below.thread_state.View.{ThreadState, is_over}
use Rattle.law_entries_variables.specs.Below.thread_state.declared.phase.Phase.{Phase}
use Rattle.law_entries_variables.specs.Below.thread_state.declared.phase.Phase.TheVariants as phase
use Rattle.law_entries_variables.specs.Below.server_msgs.declared.message.Message.{Message}
use Rattle.law_entries_variables.specs.Below.server_msgs.declared.message.Message.TheVariants as message
use Rattle.law_entries_variables.specs.Below.journal.declared.act.Act.TheVariants as act
use Rattle.law_entries_variables.specs.Below.server_model.Servers.{Server, Cluster, server_at}
use Rattle.law_entries_variables.specs.Below.server_model.Work.{Work, Hand, Site, note, with_cache, with_phase, working, thread_in, set_thread, put_back, then_some, used_once}
use Rattle.law_entries_variables.specs.Below.server_model.Events.{received, deliver_message}
use Rattle.law_entries_variables.specs.Below.server_model.Objects.{filled, waits_for_cell, deliver_fetched}
use Rattle.law_entries_variables.specs.Below.coloured_heap.Heap.{Place, Living, Copied, Running, Coloured, is_under, is_copy}
use Rattle.law_entries_variables.proofs.Below.coloured_heap.Times.{both, number_is}
use Rattle.law_entries_variables.specs.Below.coherent_memory.Names.{tot, one, other, some, if_so, same_object, Among}
use Rattle.law_entries_variables.specs.Below.coherent_memory.Things.{Thing, lies, flies, copied, sent, stands, things_at, copy_things, message_things, things_of}
use Rattle.law_entries_variables.specs.Below.coherent_memory.Follow.{cells_in}
use Rattle.law_entries_variables.specs.Below.coherent_memory.Sight.{is_word, sight, word}
use Rattle.law_entries_variables.specs.Below.coherent_memory.Weights.{cells, is_thread}
use Rattle.law_entries_variables.specs.Below.coherent_memory.Placing.{other_cell, clean_cell, other_copy, unclean}
use Rattle.law_entries_variables.specs.Below.coherent_memory.Naming.{started_at, made_at}
use Rattle.law_entries_variables.specs.Below.coherent_memory.OneHeap.{first_shown}
use Rattle.law_entries_variables.specs.Below.coherent_memory.Words.{HasWords}
use Rattle.law_entries_variables.specs.Below.coherent_memory.Colours.{StandsColoured, same_copied, living_of, copy_of, served_of}
use Rattle.law_entries_variables.specs.Below.coherent_memory.Coherent.{IsSound}
use Rattle.law_entries_variables.proofs.Below.coherent_memory.Sums.{server_parts}
use Rattle.law_entries_variables.proofs.Below.coherent_memory.Words.{none_at, none_all}
use Rattle.law_copies_kept.specs.Below.coherent_types.ClusterTypes.{IsCoherent}
use Rattle.law_entries_variables.specs.Below.law_counts_sums.Laws.{Gives}
use Rattle.law_entries_variables.proofs.Below.law_counts_sums.Askers.{other_none}
use Rattle.law_entries_variables.proofs.Below.law_counts_sums.Bags.{of_cache}
use Rattle.law_entries_variables.proofs.Below.law_counts_sums.Copies.{all_copied, new_copy, copy_word, copy_goes, copy_comes}
use Rattle.law_entries_variables.proofs.Below.law_counts_sums.Results.{over_gives, test_gives}
use Rattle.law_entries_variables.proofs.Below.law_counts_sums.Trades.{trade_whole}
use Rattle.law_entries_variables.proofs.Below.law_heap_still.events.Tests.{numbers, objects}
use Rattle.law_entries_variables.proofs.Below.law_heap_still.events.Told.{told, ones}
use Rattle.law_entries_variables.proofs.Below.law_words_paths.words.Standing.{CellOf, lying, flying}
use Rattle.law_copies_kept.proofs.Below.law_results_reads.Flights.{weighs, has_weight}
use Rattle.law_copies_kept.proofs.Below.law_results_reads.Pointing.{same_cells}
use Rattle.law_copies_kept.proofs.Below.law_counts_things.things.Messages.{on_sent}
use Rattle.law_copies_kept.proofs.copies.Clean.{FoundBy, found_by, cell_thing, told as word_of}
use Rattle.law_copies_kept.proofs.references.Asked.{asking}
use Rattle.law_copies_kept.proofs.references.Worded.{clean_told}
use Rattle.law_entries_variables.proofs.deliveries.Answers.{answers_of, fits}
use Rattle.law_entries_variables.proofs.deliveries.Weighed.{Seen, WorkTurns, thread_turns}
use Rattle.law_entries_variables.proofs.deliveries.Shown.{if_some, placed_in, dropped_by, as_living, living_is, copy_in, copies_test, served_in, wished_in, runs, there_in, holder_by}
use Rattle.law_entries_variables.proofs.deliveries.Live.{issued_by}
use Rattle.law_entries_variables.proofs.deliveries.After.{Follows, copy_seen, living_still, copy_still, served_after, issued_still, wishes_still}
use Rattle.law_entries_variables.proofs.deliveries.Runs.{silent, runs_one, leads_on}
use Rattle.law_entries_variables.proofs.deliveries.Applied.{Legal, server_there}
use Rattle.law_entries_variables.proofs.deliveries.Changed.{AreThere, at_server, notes, message_there}
use Rattle.law_entries_reads.proofs.served.Acts.{filling, copied_so, fill_allowed}
use Rattle.law_entries_reads.proofs.served.Kept.{OwnCell, asked_kept}
use Rattle.law_entries_reads.proofs.served.Beside.{ObjectsOnly, objects_agree}
use Rattle.law_entries_reads.proofs.served.Lying.{truly, all_shown, word_told, placed_somewhere}

-- how many use a copy isn't seen
users_unseen : (f : Thing → ℕ) (h : Seen f) (n i : ℕ) (cs : List Copy) (w u : ℕ) → tot f (things_at (copy_things n) i (with_users cs w u)) ≡ tot f (things_at (copy_things n) i cs)
users_unseen f h n i [] w u = refl
users_unseen f h n i (x ∷ cs) w u = by (x.word == w) (users_unseen f h n (i + 1) cs w u)
  where
    by : (b : Bool) → tot f (things_at (copy_things n) (i + 1) (with_users cs w u)) ≡ tot f (things_at (copy_things n) (i + 1) cs)
        → tot f (things_at (copy_things n) i (if b then record x { users = u } ∷ cs else x ∷ with_users cs w u)) ≡ tot f (things_at (copy_things n) i (x ∷ cs))
    by true go = omega (arith, h.unused n x u)
    by false go = omega (arith, go)

-- other copies
cache_turns : (x : Work) (cs : List Copy) (news : List Thing) → ((f : Thing → ℕ) → Seen f → tot f (all_copied x.rest.number cs) ≡ tot f news + tot f (all_copied x.rest.number x.rest.cache)) → WorkTurns x [] news [] (with_cache cs x)
cache_turns x cs news e = record {
  number = refl;
  noted = sym (append-nil x.acts);
  labels = refl;
  things = λ f h. let t = of_cache x.rest.number 0 x.rest cs (trade_whole (all_copied x.rest.number x.rest.cache) (all_copied x.rest.number cs)) in omega (arith, t.before f, t.after f, e f h);
}

-- a new copy alone is seen as a copy
module _ (n w : ℕ) (c : Cell) where
  new_none : (f : Thing → ℕ) → ((e : Copy) → f (copied n e) ≡ 0) → (d : Option Copy) → tot f (new_copy n w c d) ≡ 0
  new_none f z None = omega (arith, z (record { word = w; cell = c; users = 0 }))
  new_none f z (Some e) = refl

clean_is : (x : Option Cell) (c : Cell) → other (is_some x) ≡ 0 → other_cell c x ≡ 0 → x ≡ Some c
clean_is None c e d = absurd (cc e)
clean_is (Some b) c e d = ap (λ z. Some z) (sym (same_cells c b (other_none (same_cell c b) d)))

cell_waits : (p : Phase) (w : ℕ) → waits_for_cell p w ≡ true → is_over p ≡ false
cell_waits (phase.WaitCell u) w e = refl
cell_waits _ w e = absurd (cc e)

module _ (k : Cluster) (coherent : IsCoherent k) (number : ℕ) (s : Server) (here : server_at k.servers number ≡ Some s) (c0 : Coloured) (is_coloured : StandsColoured k c0) (i w : ℕ) (c : Cell) (t : ℕ) (at : slice_get s.rest.inbox i ≡ Some (message.Fetched w c t)) where
  abbrev sound : IsSound k
  sound = coherent.sound

  abbrev n : ℕ
  n = s.rest.number

  abbrev x : Site
  x = received i s

  abbrev o : ObjNo
  o = c.object

  abbrev fetched : Copied
  fetched = copied_so n w c.object (plain_of c.value)

  -- THE OBJECT'S PRESENT CELL

  clean : clean_cell (sight k) w ≡ Some c
  clean =
      let z : tot (unclean (sight k)) (things_of k) ≡ 0 = sound.copies.served_are_clean in
      let y : tot (other_copy (sight k)) (things_of k) ≡ 0 = sound.copies.copies_agree in
      clean_is (clean_cell (sight k) w) c (omega (arith, z, message_there k number s here i (message.Fetched w c t) at (unclean (sight k)))) (omega (arith, y, message_there k number s here i (message.Fetched w c t) at (other_copy (sight k))))

  cell_is : (e : Cell) (u : ℕ) → u ≡ w → other_cell e (clean_cell (sight k) u) ≡ 0 → e ≡ c
  cell_is e u same z = same_cells e c (other_none (same_cell e c) (subst (λ y. other_cell e y ≡ 0) clean (subst (λ v. other_cell e (clean_cell (sight k) v) ≡ 0) same z)))

  found : FoundBy (sight k).pointers (cells_in (things_of k)) w c
  found = found_by (sight k).pointers (cells_in (things_of k)) w c (clean_told (sight k) w c clean).0

  named : is_word (word (sight k) o) w ≡ true
  named = found.has

  own : OwnCell k o
  own = record { cell = c; among = found.among; object = refl }

  live : 1 ≤ tot (cells o) (things_of k)
  live = let y = cell_thing (things_of k) c found.among in by y.0 y.1 y.2
    where
      mine : one (same_object c.object o) ≡ 1
      mine = ap one (objects.itself o)

      by : (y : Thing) → Among y (things_of k) → CellOf c y → 1 ≤ tot (cells o) (things_of k)
      by _ m (lying r a) = omega (arith, mine, has_weight (cells o) (lies r a c) (things_of k) m)
      by _ m (flying u) = omega (arith, mine, has_weight (cells o) (flies u c) (things_of k) m)

  kept : tot (dropped_by o) (things_of k) ≡ 0
  kept =
      let words : HasWords (sight k) = sound.words.have_words in
      let its : word (sight k) o ≡ Some (words.word o) = word_of k words c found.among in
      let same : w == words.word o ≡ true = ap (λ y. is_word y (words.word o)) (sym (word_told (word (sight k) o) w named) ∙ its) ∙ numbers.itself (words.word o) in
      let one_is : one (w == words.word o) ≡ 1 = ap one same in
      asked_kept k coherent o own (omega (arith, one_is, message_there k number s here i (message.Fetched w c t) at (on_sent (asking (λ u. one (u == words.word o))))))

  place : (p : Plain × Place) × (first_shown (placed_in o) (things_of k) ≡ Some p)
  place = placed_somewhere k o live

  abbrev living_one : Living
  living_one = as_living o (Some w) false place.0

  lives : living_of (sight k) o ≡ Some living_one
  lives =
      living_is (sight k) o ∙ ap₂ (λ v m. option_map (as_living o v (some m)) (first_shown (placed_in o) (things_of k))) (word_told (word (sight k) o) w named) kept ∙ ap (option_map (as_living o (Some w) false)) place.1

  -- EACH COPY UNDER ITS WORD

  abbrev differs : Copied → ℕ
  differs z = other (same_copied fetched z)

  no_other : differs fetched ≡ 0
  no_other = ap other (copies_test.itself fetched)

  as_fetched : (r u : ℕ) (e : Cell) → r ≡ n → u ≡ w → e ≡ c → copied_so r u e.object (plain_of e.value) ≡ fetched
  as_fetched r u e a b d = ap₂ (λ p q. copied_so p q e.object (plain_of e.value)) a b ∙ ap (λ (z : Cell). copied_so n w z.object (plain_of z.value)) d

  all_same : tot (λ y. told differs (copy_in n w y)) (things_of k) ≡ 0
  all_same = none_all (λ y. told differs (copy_in n w y)) (things_of k) each
    where
      by : (r : ℕ) (e : Copy) → Among (copied r e) (things_of k) → (b : Bool) → (r == n && e.word == w) ≡ b → told differs (if_some b (copied_so r e.word e.cell.object (plain_of e.cell.value))) ≡ 0
      by r e m false q = refl
      by r e m true q =
          let d = both (r == n) (e.word == w) q in
          let word_so : e.word ≡ w = number_is e.word w d.1 in
          ap differs (as_fetched r e.word e.cell (number_is r n d.0) word_so (cell_is e.cell e.word word_so (none_at (other_copy (sight k)) (copied r e) (things_of k) sound.copies.copies_agree m))) ∙ no_other

      each : (y : Thing) → Among y (things_of k) → told differs (copy_in n w y) ≡ 0
      each (copied r e) m = by r e m (r == n && e.word == w) refl
      each _ m = refl

  alone : (b : Copied) → 1 ≤ served_of (sight k) b → is_copy o w n b ≡ true → b ≡ fetched
  alone b l q = let y = weighs (served_in b) (things_of k) l in by y.0 y.1 y.2
    where
      by_message : (r : ℕ) (m : Message) → Among (sent r m) (things_of k) → 1 ≤ served_in b (sent r m) → b ≡ fetched
      by_message r (message.Fetched u e v) m h =
          let same : b ≡ copied_so r u e.object (plain_of e.value) = copies_test.tells b (copied_so r u e.object (plain_of e.value)) (truly (same_copied b (copied_so r u e.object (plain_of e.value))) h) in
          let under = both (b.server == n && b.word == w) (same_object b.object o) q in
          let spot = both (b.server == n) (b.word == w) under.0 in
          let server_so : r ≡ n = sym (ap (λ (z : Copied). z.server) same) ∙ number_is b.server n spot.0 in
          let word_so : u ≡ w = sym (ap (λ (z : Copied). z.word) same) ∙ number_is b.word w spot.1 in
          same ∙ as_fetched r u e server_so word_so (cell_is e u word_so (none_at (other_copy (sight k)) (sent r (message.Fetched u e v)) (things_of k) sound.copies.copies_agree m))
      by_message r _ m h = absurd (omega (arith, h))

      by : (y : Thing) → Among y (things_of k) → 1 ≤ served_in b y → b ≡ fetched
      by (sent r m) a h = by_message r m a h
      by _ a h = absurd (omega (arith, h))

  -- THE THREAD

  module _ (y : ThreadState) (mine : thread_in s.threads t ≡ Some y) (waits : waits_for_cell y.phase w ≡ true) where
    abbrev h : Hand
    h = record { work = x.work; thread = y }

    abbrev old : Option Copy
    old = cached_of s.rest.cache w

    -- the copy is there, and used
    record Filled (h2 : Hand) : Type 0 where
      cs : List Copy
      walk : List ℕ
      work_is : h2.work ≡ with_cache cs x.work
      thread_is : h2.thread ≡ record y { walk = walk }
      copies : (f : Thing → ℕ) → Seen f → tot f (all_copied n cs) ≡ tot f (new_copy n w c old) + tot f (all_copied n s.rest.cache)

    came : (f : Thing → ℕ) → tot f (all_copied n (fill s.rest.cache w c)) ≡ tot f (new_copy n w c old) + tot f (all_copied n s.rest.cache)
    came f = let u = copy_comes n s.rest.cache w c in omega (arith, u.before f, u.after f)

    used : (b : Bool) → Gives Filled (used_once w b (working (with_cache (fill s.rest.cache w c)) h))
    used true = record { cs = fill s.rest.cache w c; walk = y.walk; work_is = refl; thread_is = refl; copies = λ f g. came f }
    used false = test_gives Filled (can_pin (fill s.rest.cache w c) w) _ (λ on. record {
      cs = pin (fill s.rest.cache w c) w;
      walk = y.walk ++ w ∷ [];
      work_is = refl;
      thread_is = refl;
      copies = λ f g. omega (arith, came f, users_unseen f g n 0 (fill s.rest.cache w c) w (users (fill s.rest.cache w c) w + 1));
    })

    all_filled : Gives Filled (filled w c h)
    all_filled = test_gives Filled (can_fill s.rest.cache w c) _ (λ on. used (is_in w y.walk))

    module _ (cs : List Copy) (walk : List ℕ) (copies : (f : Thing → ℕ) → Seen f → tot f (all_copied n cs) ≡ tot f (new_copy n w c old) + tot f (all_copied n s.rest.cache)) where
      abbrev z : ThreadState
      z = record y { walk = walk; phase = phase.Got }

      abbrev olds : List Thing
      olds = sent n (message.Fetched w c t) ∷ stands n false y ∷ []

      abbrev news : List Thing
      news = stands n false z ∷ new_copy n w c old

      abbrev new : (f : Thing → ℕ) → ((e : Copy) → f (copied n e) ≡ 0) → tot f (new_copy n w c old) ≡ 0
      new f e = new_none n w c f e old

      runs_same : (u : ℕ) (g : Running → ℕ) → runs g u (stands n false y) ≡ runs g u (stands n false z)
      runs_same u g = ap (λ q. if_so (y.number == u) (told g (if_some (not q) (record { thread = u; server = n; has_ended = false })))) (cell_waits y.phase w waits)

      only : ObjectsOnly k olds news
      only = record {
        started = λ r j. omega (arith, new (started_at r j) (λ e. refl));
        made = λ r j. omega (arith, new (made_at r j) (λ e. refl));
        threads = λ u. omega (arith, new (is_thread u) (λ e. refl));
        running = λ u g. omega (arith, runs_same u g, new (runs g u) (λ e. refl));
        there = λ m. omega (arith, new (there_in m) (λ e. refl));
        holders = λ m g. omega (arith, new (λ q. told g (holder_by (sight k) m q)) (λ e. refl));
      }

      module _ (d : Cluster) (f : Follows k d olds news) where
        no_new : (r v : ℕ) (g : Copied → ℕ) → (n == r && w == v) ≡ false → tot (λ q. told g (copy_in r v q)) (new_copy n w c old) ≡ 0
        no_new r v g e = by old
          where
            by : (p : Option Copy) → tot (λ q. told g (copy_in r v q)) (new_copy n w c p) ≡ 0
            by None = let none : told g (if_some (n == r && w == v) fetched) ≡ 0 = ap (λ b. told g (if_some b fetched)) e in omega (arith, none)
            by (Some q) = refl

        -- what is there afterwards under its word
        its_copy : first_shown (copy_in n w) (things_of d) ≡ Some fetched
        its_copy = all_shown same_copied copies_test (copy_in n w) fetched (things_of d) none_differ some_there
          where
            spot : (n == n && w == w) ≡ true
            spot = ap₂ (λ a b. a && b) (numbers.itself n) (numbers.itself w)

            gives : (g : Copied → ℕ) → tot (λ q. told g (copy_in n w q)) (new_copy n w c None) ≡ g fetched
            gives g = let one_so : told g (if_some (n == n && w == w) fetched) ≡ g fetched = ap (λ b. told g (if_some b fetched)) spot in omega (arith, one_so)

            new_same : (p : Option Copy) → tot (λ q. told differs (copy_in n w q)) (new_copy n w c p) ≡ 0
            new_same None = gives differs ∙ no_other
            new_same (Some q) = refl

            none_differ : tot (λ q. told differs (copy_in n w q)) (things_of d) ≡ 0
            none_differ = omega (arith, f.things (λ q. told differs (copy_in n w q)) (copy_seen n w differs), all_same, new_same old)

            at_least : (p : Option Copy) → old ≡ p → 1 ≤ tot (λ q. told ones (copy_in n w q)) (things_of k) + tot (λ q. told ones (copy_in n w q)) (new_copy n w c p)
            at_least None e = omega (arith, gives ones)
            at_least (Some q) e =
                let there : AreThere k (copied n q ∷ []) = at_server k number s here (copied n q ∷ []) (λ g. omega (arith, server_parts g s, (copy_goes n s.rest.cache w q e).before g)) in
                let shows : told ones (copy_in n w (copied n q)) ≡ 1 = ap (λ b. told ones (if_some b (copied_so n q.word q.cell.object (plain_of q.cell.value)))) (ap₂ (λ a b. a && b) (numbers.itself n) (ap (λ j. j == w) (copy_word s.rest.cache w q e) ∙ numbers.itself w)) in
                omega (arith, shows, there (λ j. told ones (copy_in n w j)))

            some_there : 1 ≤ tot (λ q. told ones (copy_in n w q)) (things_of d)
            some_there = omega (arith, f.things (λ q. told ones (copy_in n w q)) (copy_seen n w ones), at_least old refl)

        cached : (r v : ℕ) → (if is_under r v fetched then Some fetched else copy_of (sight k) r v) ≡ copy_of (sight d) r v
        cached r v = by (n == r && w == v) refl
          where
            by : (b : Bool) → (n == r && w == v) ≡ b → (if b then Some fetched else copy_of (sight k) r v) ≡ copy_of (sight d) r v
            by true e =
                let q = both (n == r) (w == v) e in
                sym (subst (λ a. first_shown (copy_in a v) (things_of d) ≡ Some fetched) (number_is n r q.0) (subst (λ a. first_shown (copy_in n a) (things_of d) ≡ Some fetched) (number_is w v q.1) its_copy))
            by false e = copy_still k d olds news sound f r v (λ g. omega (arith, no_new r v g e))

        on_way : (b : Copied) → served_of (sight k) b - one (same_copied b fetched) ≡ served_of (sight d) b
        on_way b = omega (arith, served_after k d olds news sound f b, new (served_in b) (λ e. refl))

        its_way : 1 ≤ served_of (sight k) fetched
        its_way = let o1 : one (same_copied fetched fetched) ≡ 1 = ap one (copies_test.itself fetched) in omega (arith, o1, served_after k d olds news sound f fetched, new (served_in fetched) (λ e. refl))

      abbrev after : Site
      after = record { work = note (act.Fill o w) (with_cache cs x.work); threads = set_thread x.threads z }

      fills : Legal k s None (message_things n (message.Fetched w c t)) x c0 after
      fills = record {
        olds = stands n false y ∷ [];
        news = news;
        acts = act.Fill o w ∷ [];
        turns = thread_turns x t y z [] (new_copy n w c old) (act.Fill o w ∷ []) (note (act.Fill o w) (with_cache cs x.work)) mine refl refl (notes x.work [] (new_copy n w c old) [] (with_cache cs x.work) (act.Fill o w) (cache_turns x.work cs (new_copy n w c old) copies));
        leads = λ d f keeps.
            let q0 = answers_of (sight k) in
            let g = fits (sight k) c0 is_coloured in
            let e = silent n None (act.Fill o w ∷ []) in
            let q1 = filling fetched q0 in
            let itself : is_copy o w n fetched ≡ true = ap₂ (λ a b. a && b) (ap₂ (λ a b. a && b) (numbers.itself n) (numbers.itself w)) (objects.itself o) in
            leads_on k.options n None (act.Fill o w ∷ []) c0 q0 q1 d g (server_there k sound number s here).0 tt
            (runs_one k.options e (act.Fill o w) c0 q1 (fill_allowed k.options e c0 q0 o w living_one (plain_of c.value) g lives refl itself (its_way d f) alone))
            (objects_agree k d olds news sound f keeps only q1.object q1.copy q1.served q1.wishes (λ p. living_still k d olds news sound f keeps p (λ j. omega (arith, new (λ q. told j (placed_in p q)) (λ e. refl))) (omega (arith, new (dropped_by p) (λ e. refl)))) (cached d f) (on_way d f)
            (λ v. issued_still k d olds news sound f keeps (λ j r u. omega (arith, new (issued_by j r u) (λ e. refl))) v) (λ a. wishes_still k d olds news sound f a (omega (arith, new (wished_in a) (λ e. refl)))));
      }

    abbrev Ok : Hand → Type 0
    Ok h3 = Legal k s None (message_things n (message.Fetched w c t)) x c0 (put_back x.threads h3)

    hand_legal : (h2 : Hand) → Filled h2 → Ok (with_phase phase.Got (working (note (act.Fill o w)) h2))
    hand_legal h2 u =
        subst (Legal k s None (message_things n (message.Fetched w c t)) x c0)
        (sym (ap₂ (λ (a : Work) (b : ThreadState). record { work = note (act.Fill o w) a; threads = set_thread x.threads (record b { phase = phase.Got }) }) u.work_is u.thread_is))
        (fills u.cs u.walk u.copies)

    thread_legal : Gives (Legal k s None (message_things n (message.Fetched w c t)) x c0) (option_map (put_back x.threads) (option_map (λ h2. with_phase phase.Got (working (note (act.Fill o w)) h2)) (filled w c h)))
    thread_legal =
        over_gives Ok (Legal k s None (message_things n (message.Fetched w c t)) x c0) (option_map (λ h2. with_phase phase.Got (working (note (act.Fill o w)) h2)) (filled w c h)) (put_back x.threads)
        (over_gives Filled Ok (filled w c h) (λ h2. with_phase phase.Got (working (note (act.Fill o w)) h2)) all_filled hand_legal) (λ h3 l. l)

  abbrev P : Site → Type 0
  P z = Legal k s None (message_things n (message.Fetched w c t)) x c0 z

  pub fetched_legal : Gives P (deliver_message k.code (message.Fetched w c t) x)
  fetched_legal = by (thread_in s.threads t) refl
    where
      waiting : (y : ThreadState) → thread_in s.threads t ≡ Some y → (b : Bool) → waits_for_cell y.phase w ≡ b
          → Gives P (option_map (put_back x.threads) (if b then option_map (λ h2. with_phase phase.Got (working (note (act.Fill o w)) h2)) (filled w c (record { work = x.work; thread = y })) else None))
      waiting y mine false on = tt
      waiting y mine true on = thread_legal y mine on

      by : (p : Option ThreadState) → thread_in s.threads t ≡ p → Gives P (then_some (option_map (λ y. record { work = x.work; thread = y }) p) (λ h. option_map (put_back x.threads) (deliver_fetched w c h)))
      by None e = tt
      by (Some y) e = waiting y e (waits_for_cell y.phase w) refl
