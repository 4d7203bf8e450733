-- A block is freed, and what it held is let go: the object was condemned, as its `drop` was under way, and is gone; the box that it held names another object, which is condemned.
use Rattle.std.proofs.Common.{◌≡◌, ◌⊎◌, inl, inr, ℕ, zero, suc, ◌+◌, ◌≤◌, ◌==◌, ◌&&◌, Bool, true, false, if◌then◌else◌, List, [], ◌∷◌, Option, Some, None, option_map, refl, sym, ap, ap₂, subst, ◌∙◌, arith}
use Rattle.std.specs.Prelude.{slice_get}
use Rattle.law_runs_whole.specs.Below.law_words_ends.Below.fr_base.declared.name.ObjNo.{ObjNo}
use Rattle.law_runs_whole.specs.Below.law_words_ends.Below.fr_base.declared.label.Plain.{Plain}
use Rattle.law_runs_whole.specs.Below.law_words_ends.Below.fr_base.declared.name.MutexNo.{MutexNo}
use Rattle.law_runs_whole.specs.Below.law_words_ends.Below.fr_base.declared.release.Released.TheVariants as released
use Rattle.law_runs_whole.specs.Below.law_words_ends.Below.global_addr.Words.{server_of}
use Rattle.law_runs_whole.specs.Below.law_words_ends.Below.heap_partition.Plain.{plain_of}
use Rattle.law_runs_whole.specs.Below.law_words_ends.Below.heap_partition.declared.value.BoxPtr.{BoxPtr}
use Rattle.law_runs_whole.specs.Below.law_words_ends.Below.heap_partition.declared.value.Cell.{Cell}
use Rattle.law_runs_whole.specs.Below.law_words_ends.Below.heap_partition.declared.value.Owned.{Owned}
use Rattle.law_runs_whole.specs.Below.law_words_ends.Below.heap_partition.declared.value.Owned.TheVariants as owned
use Rattle.law_runs_whole.specs.Below.law_words_ends.Below.server_msgs.declared.message.Message.{Message}
use Rattle.law_runs_whole.specs.Below.law_words_ends.Below.server_msgs.declared.message.Message.TheVariants as message
use Rattle.law_runs_whole.specs.Below.journal.View.{EntryView}
use Rattle.law_runs_whole.specs.Below.journal.declared.act.Act.TheVariants as act
use Rattle.law_runs_whole.specs.Below.server_model.Servers.{Server, Cluster, server_at}
use Rattle.law_runs_whole.specs.Below.law_words_ends.Below.owner_box.Partition.{freed}
use Rattle.law_runs_whole.specs.Below.server_model.Work.{Work, Site, note, with_partition, look_object}
use Rattle.law_runs_whole.specs.Below.server_model.Drop.{give_up}
use Rattle.law_runs_whole.specs.Below.server_model.Events.{received, deliver_message}
use Rattle.law_runs_whole.specs.Below.server_model.Objects.{deliver_drop}
use Rattle.law_runs_whole.specs.Below.coloured_heap.Heap.{Place, Lies, Living, Coloured, is_object}
use Rattle.law_entries_writes.proofs.Below.law_entries_variables.Below.coloured_heap.ShownNames.{object_flip}
use Rattle.law_runs_whole.specs.Below.coherent_memory.Names.{tot, one, some, same_object, boxes, Among}
use Rattle.law_runs_whole.specs.Below.coherent_memory.Things.{Thing, sent, vacant, retired, message_things, things_of}
use Rattle.law_runs_whole.specs.Below.coherent_memory.Sight.{Pointer, pointers_in, taken_pointers, is_word, sight, word, issued}
use Rattle.law_runs_whole.specs.Below.coherent_memory.Weights.{cells, is_thread, lies_under}
use Rattle.law_runs_whole.specs.Below.coherent_memory.Placing.{sum_over}
use Rattle.law_runs_whole.specs.Below.coherent_memory.Naming.{threads, named_mutexes, owned_thread, started_at, made_at}
use Rattle.law_runs_whole.specs.Below.coherent_memory.Sharing.{owned_mutex}
use Rattle.law_runs_whole.specs.Below.coherent_memory.Requests.{not_under, not_there, home_of}
use Rattle.law_runs_whole.specs.Below.coherent_memory.OneHeap.{object_n, owns, first_shown, is_given_thread, is_given_mutex}
use Rattle.law_runs_whole.specs.Below.coherent_memory.Words.{IsStale, HasWords}
use Rattle.law_runs_whole.specs.Below.coherent_memory.Colours.{StandsColoured, living_of}
use Rattle.law_runs_whole.specs.Below.coherent_memory.Coherent.{IsSound}
use Rattle.law_runs_whole.proofs.Below.law_words_ends.Below.coherent_memory.Names.{and_left, and_right}
use Rattle.law_runs_whole.proofs.Below.law_words_ends.Below.coherent_memory.Words.{named as object_named}
use Rattle.law_runs_whole.specs.Below.law_counts_sums.Laws.{Gives}
use Rattle.law_runs_whole.proofs.Below.law_counts_sums.Askers.{other_none}
use Rattle.law_runs_whole.proofs.Below.law_counts_sums.ObjectMessages.{looked_object}
use Rattle.law_runs_whole.proofs.Below.law_counts_sums.Results.{over_gives, map_gives}
use Rattle.law_runs_whole.proofs.Below.law_words_ends.Below.law_heap_still.events.Tests.{numbers, objects}
use Rattle.law_runs_whole.proofs.Below.law_words_ends.Below.law_heap_still.events.Told.{told}
use Rattle.law_runs_whole.proofs.Below.law_words_ends.Below.law_words_paths.paths.Origins.{among_first}
use Rattle.law_runs_whole.proofs.Below.law_words_ends.Below.law_words_kept.reads.Flights.{truly}
use Rattle.law_runs_whole.specs.Below.law_words_ends.Below.law_words_paths.words.Unmoved.{WordsStay}
use Rattle.law_runs_whole.proofs.Below.law_words_ends.Below.law_words_paths.words.Standing.{pointers_among}
use Rattle.law_runs_whole.proofs.Below.law_words_ends.Below.law_results_reads.Flights.{weighs}
use Rattle.law_entries_writes.proofs.Below.law_entries_variables.deliveries.Answers.{Answers, Agrees, answers_of, Fits, fits, condemning, condemn_allowed, let_go_allowed}
use Rattle.law_entries_writes.proofs.Below.law_entries_variables.deliveries.Weighed.{Seen, beside}
use Rattle.law_entries_writes.proofs.Below.law_entries_variables.deliveries.Shown.{if_some, placed_in, dropped_by, as_living, living_is, copy_in, served_in, wished_in, runs, there_in, holder_by}
use Rattle.law_entries_writes.proofs.Below.law_entries_variables.deliveries.Live.{word_told as live_word, dropped_seen, placed_after, word_kept, issued_by, issued_still as issued_stays}
use Rattle.law_entries_writes.proofs.Below.law_entries_variables.deliveries.After.{Follows, Keeps, copy_still, served_still, wishes_still}
use Rattle.law_entries_writes.proofs.Below.law_entries_variables.deliveries.Runs.{Runs, runs_none, runs_act, runs_one, silent, leads_on}
use Rattle.law_entries_writes.proofs.Below.law_entries_variables.deliveries.Applied.{Legal, server_there}
use Rattle.law_entries_writes.proofs.Below.law_entries_variables.deliveries.Changed.{notes, message_there}
use Rattle.law_entries_writes.proofs.Below.law_entries_variables.deliveries.GiveUp.{give_news, give_acts, gives_turns}
use Rattle.law_entries_writes.proofs.Below.law_entries_reads.served.Beside.{ObjectsOnly, objects_agree}
use Rattle.law_entries_writes.proofs.Below.law_entries_reads.served.Lying.{word_told, lies_there, placed, placed_somewhere, its_object}
use Rattle.law_entries_events.proofs.objects.Acts.{freeing, free_allowed}
use Rattle.law_entries_events.proofs.objects.Leaving.{spot, left, away, leaves, left_none, same_issued, its_word}
use Rattle.law_entries_events.proofs.objects.Owned.{names_it, named_live, named_kept, mutex_given, thread_given}

-- THE MESSAGES OF WHAT IS LET GO

-- they weigh nothing, where no `drop` and no `release` does
given_none : (f : Thing → ℕ) → ((r u : ℕ) (p : ObjNo) → f (sent r (message.Drop u p)) ≡ 0) → ((r : ℕ) (x : _) → f (sent r (message.Release x)) ≡ 0) → (v : Owned) → tot f (give_news v) ≡ 0
given_none f d r (owned.Box b) = omega (arith, d (server_of b.word) b.word b.object)
given_none f d r (owned.Mutex m) = omega (arith, r m.home (released.Mutex m))
given_none f d r (owned.Task t) = omega (arith, r (home_of t) (released.Task t))
given_none f d r owned.Nothing = refl
given_none f d r owned.Unit = refl
given_none f d r (owned.Int i) = refl

given_drops : (y : ObjNo) (v : Owned) → tot (dropped_by y) (give_news v) ≡ boxes y v
given_drops y (owned.Box b) = omega arith
given_drops y (owned.Mutex m) = refl
given_drops y (owned.Task t) = refl
given_drops y owned.Nothing = refl
given_drops y owned.Unit = refl
given_drops y (owned.Int i) = refl

-- what is let go changes these answers
abbrev pub giving_up : Owned → Answers → Answers
giving_up (owned.Box b) q = condemning b.object q
giving_up v q = q

-- a `drop` of that object under that word
abbrev drop_as : BoxPtr → Thing → ℕ
drop_as b (sent r (message.Drop u p)) = one (u == b.word && same_object p b.object)
drop_as b x = 0

drop_seen : (b : BoxPtr) → Seen (drop_as b)
drop_seen b = record { held = λ p v. refl; shared = λ l r. refl; lent = λ l r. refl; flown = λ w c. refl; used = λ n w. refl; loose = λ t i m. refl; counted = λ n a r s m e. refl; unused = λ i d u. refl }

module _ (k : Cluster) (sound : IsSound k) (number : ℕ) (s : Server) (here : server_at k.servers number ≡ Some s) (c0 : Coloured) (is_coloured : StandsColoured k c0) (i w : ℕ) (o : ObjNo) (at : slice_get s.rest.inbox i ≡ Some (message.Drop w o)) where
  abbrev n : ℕ
  n = s.rest.number

  abbrev x : Site
  x = received i s

  abbrev before : HasWords (sight k)
  before = sound.words.have_words

  named : is_word (word (sight k) o) w ≡ true
  named =
      let z : tot (not_there (sight k)) (things_of k) ≡ 0 = sound.requests.objects_there in
      let mine : not_under (sight k) w o ≡ 0 = omega (arith, z, message_there k number s here i (message.Drop w o) at (not_there (sight k))) in
      and_left (is_word (word (sight k) o) w) (some (sum_over (sight k) (lies_under w o))) (other_none _ mine)

  given_up_once : 1 ≤ tot (dropped_by o) (things_of k)
  given_up_once = let mine : one (same_object o o) ≡ 1 = ap one (objects.itself o) in omega (arith, mine, message_there k number s here i (message.Drop w o) at (dropped_by o))

  some_more : (m : ℕ) → 1 ≤ m → some m ≡ true
  some_more zero l = absurd (omega (arith, l))
  some_more (suc m) l = refl

  module _ (c : Cell) (q : look_object s.rest.partition w o ≡ Some c) where
    abbrev v : Owned
    v = c.value

    abbrev olds : List Thing
    olds = sent n (message.Drop w o) ∷ spot k sound number s here i w o c q ∷ []

    abbrev news : List Thing
    news = left k sound number s here i w o c q ∷ give_news v

    abbrev living_one : Living
    living_one = record { object = o; place = Lies n; word = w; value = plain_of v; is_condemned = true }

    -- it lies here under its word, and was condemned
    lives : living_of (sight k) o ≡ Some living_one
    lives =
        living_is (sight k) o ∙ ap (option_map (as_living o (word (sight k) o) (some (tot (dropped_by o) (things_of k))))) (placed k sound number s here w o c q)
        ∙ ap₂ (λ a b. Some (as_living o a b (plain_of v, Lies n))) (word_told (word (sight k) o) w named) (some_more (tot (dropped_by o) (things_of k)) given_up_once)

    -- what it held
    named_there : (b : BoxPtr) → v ≡ owned.Box b → 1 ≤ tot (names_it b.object) (things_of k)
    named_there b e =
        let mine : one (owns (object_n b.object) v) ≡ 1 = ap (λ z. one (owns (object_n b.object) z)) e ∙ ap one (objects.itself b.object) in
        omega (arith, mine, lies_there k sound number s here w o c q (names_it b.object))

    -- is another object
    another : (b : BoxPtr) → v ≡ owned.Box b → same_object b.object o ≡ false
    another b e = by (same_object b.object o) refl
      where
        by : (d : Bool) → same_object b.object o ≡ d → d ≡ false
        by false f = refl
        by true f =
            let kept : tot (dropped_by o) (things_of k) ≡ 0 = subst (λ z. tot (dropped_by z) (things_of k) ≡ 0) (object_named b.object o f) (named_kept k sound b.object (named_there b e)) in
            absurd (omega (arith, kept, given_up_once))

    none : (f : Thing → ℕ) → ((r b m : ℕ) → f (vacant r b m) ≡ 0) → ((r b : ℕ) → f (retired r b) ≡ 0) → ((r u : ℕ) (p : ObjNo) → f (sent r (message.Drop u p)) ≡ 0) → ((r : ℕ) (z : _) → f (sent r (message.Release z)) ≡ 0) → tot f news ≡ 0
    none f a b d e = omega (arith, left_none k sound number s here i w o c q f a b, given_none f d e v)

    only : ObjectsOnly k olds news
    only = record {
      started = λ r j. omega (arith, none (started_at r j) (λ e g m. refl) (λ e g. refl) (λ e g p. refl) (λ e z. refl));
      made = λ r j. omega (arith, none (made_at r j) (λ e g m. refl) (λ e g. refl) (λ e g p. refl) (λ e z. refl));
      threads = λ u. omega (arith, none (is_thread u) (λ e g m. refl) (λ e g. refl) (λ e g p. refl) (λ e z. refl));
      running = λ u j. omega (arith, none (runs j u) (λ e g m. refl) (λ e g. refl) (λ e g p. refl) (λ e z. refl));
      there = λ m. omega (arith, none (there_in m) (λ e g j. refl) (λ e g. refl) (λ e g p. refl) (λ e z. refl));
      holders = λ m j. omega (arith, none (λ y. told j (holder_by (sight k) m y)) (λ e g h. refl) (λ e g. refl) (λ e g p. refl) (λ e z. refl));
    }

    module _ (d : Cluster) (f : Follows k d olds news) (keeps : Keeps k d) where
      abbrev stay : WordsStay (sight k) (sight d) before
      stay = keeps.words before

      words : (u : ℕ) → issued (sight k) u ≡ issued (sight d) u
      words u =
          issued_stays k d olds news f.things f.options before stay u
          (omega (arith, same_issued k sound number s here i w o c q before.word (its_word k sound number s here i w o c q named before) u, given_none (issued_by before.word k.options.colours u) (λ e g p. refl) (λ e z. refl) v))

      -- OBJECTS AFTERWARDS

      placed_old : (y : ObjNo) (g : Plain × Place → ℕ) → tot (λ z. told g (placed_in y z)) olds ≡ told g (if_some (same_object c.object y) (plain_of v, Lies n))
      placed_old y g = omega arith

      placed_new : (y : ObjNo) (g : Plain × Place → ℕ) → tot (λ z. told g (placed_in y z)) news ≡ 0
      placed_new y g = none (λ z. told g (placed_in y z)) (λ e j m. refl) (λ e j. refl) (λ e j p. refl) (λ e z. refl)

      drops_then : (y : ObjNo) → tot (dropped_by y) (things_of d) + one (same_object o y) ≡ tot (dropped_by y) (things_of k) + boxes y v
      drops_then y = omega (arith, f.things (dropped_by y) (dropped_seen y), left_none k sound number s here i w o c q (dropped_by y) (λ e j m. refl) (λ e j. refl), given_drops y v)

      -- the freed one is nowhere
      gone : living_of (sight d) o ≡ None
      gone = living_is (sight d) o ∙ ap (option_map (as_living o (word (sight d) o) (some (tot (dropped_by o) (things_of d))))) nowhere
        where
          nowhere : first_shown (placed_in o) (things_of d) ≡ None
          nowhere =
              placed_after k d olds news f.things sound.one_home.home_of_each before stay o None (λ g.
              let was : told g (first_shown (placed_in o) (things_of k)) ≡ g (plain_of v, Lies n) = ap (told g) (placed k sound number s here w o c q) in
              let shows : told g (if_some (same_object c.object o) (plain_of v, Lies n)) ≡ g (plain_of v, Lies n) = ap (λ b. told g (if_some b (plain_of v, Lies n))) (its_object k sound number s here w o c q) in
              omega (arith, was, shows, placed_old o g, placed_new o g))

      -- each other one is where it was, and condemned where it was or is what the block held
      abbrev then_so : ObjNo → Plain × Place → Living
      then_so y p = as_living y (word (sight k) y) (some (tot (dropped_by y) (things_of k) + boxes y v)) p

      others_then : (y : ObjNo) → same_object y o ≡ false → living_of (sight d) y ≡ option_map (then_so y) (first_shown (placed_in y) (things_of k))
      others_then y e = living_is (sight d) y ∙ by (first_shown (placed_in y) (things_of k)) refl
        where
          away_from : same_object o y ≡ false
          away_from = object_flip o y ∙ e

          there : first_shown (placed_in y) (things_of d) ≡ first_shown (placed_in y) (things_of k)
          there =
              placed_after k d olds news f.things sound.one_home.home_of_each before stay y (first_shown (placed_in y) (things_of k)) (λ g.
              let none_old : told g (if_some (same_object c.object y) (plain_of v, Lies n)) ≡ 0 = ap (λ z. told g (if_some (same_object z y) (plain_of v, Lies n))) (looked_object s.rest.partition w o c q).1 ∙ ap (λ b. told g (if_some b (plain_of v, Lies n))) away_from in
              omega (arith, none_old, placed_old y g, placed_new y g))

          count : tot (dropped_by y) (things_of d) ≡ tot (dropped_by y) (things_of k) + boxes y v
          count = let z : one (same_object o y) ≡ 0 = ap one away_from in omega (arith, z, drops_then y)

          by : (p : Option (Plain × Place)) → first_shown (placed_in y) (things_of k) ≡ p → option_map (as_living y (word (sight d) y) (some (tot (dropped_by y) (things_of d)))) (first_shown (placed_in y) (things_of d)) ≡ option_map (then_so y) p
          by None z = ap (option_map (as_living y (word (sight d) y) (some (tot (dropped_by y) (things_of d))))) (there ∙ z)
          by (Some p) z =
              ap (option_map (as_living y (word (sight d) y) (some (tot (dropped_by y) (things_of d))))) (there ∙ z)
              ∙ ap₂ (λ a b. Some (as_living y a (some b) p)) (word_kept k d olds news f.things sound.one_home.home_of_each before stay y p p z (there ∙ z)) count

      -- WHAT IT HELD

      module _ (b : BoxPtr) (e : v ≡ owned.Box b) where
        abbrev r : ObjNo
        r = b.object

        -- the word of its `drop`, which is there afterwards
        box_word : before.word r ≡ b.word
        box_word = by y.0 y.1 y.2
          where
            mine : tot (drop_as b) news ≡ 1
            mine =
                let news_one : tot (drop_as b) (give_news v) ≡ 1 = ap (λ z. tot (drop_as b) (give_news z)) e ∙ ap₂ (λ a z. one (a && z) + 0) (numbers.itself b.word) (objects.itself b.object) in
                omega (arith, news_one, left_none k sound number s here i w o c q (drop_as b) (λ g j m. refl) (λ g j. refl))

            other_one : drop_as b (sent n (message.Drop w o)) ≡ 0
            other_one = ap (λ z. one (w == b.word && z)) (object_flip o b.object ∙ another b e) ∙ neither (w == b.word)
              where
                neither : (a : Bool) → one (a && false) ≡ 0
                neither true = refl
                neither false = refl

            y : (z : Thing) × Among z (things_of d) × (1 ≤ drop_as b z)
            y = weighs (drop_as b) (things_of d) (omega (arith, mine, other_one, f.things (drop_as b) (drop_seen b)))

            of_message : (a : ℕ) (m : Message) → Among (sent a m) (things_of d) → 1 ≤ drop_as b (sent a m) → before.word r ≡ b.word
            of_message a (message.Drop u p) m l =
                let all : (u == b.word && same_object p b.object) ≡ true = truly (u == b.word && same_object p b.object) l in
                let word_so : u ≡ b.word = numbers.tells u b.word (and_left (u == b.word) (same_object p b.object) all) in
                let object_so : p ≡ b.object = object_named p b.object (and_right (u == b.word) (same_object p b.object) all) in
                let z : Pointer = record { at = None; word = u; object = p } in
                let among = among_first z (pointers_in (things_of d)) (taken_pointers (sight d).code (sight d).ground (sight d).ground.threads) (pointers_among z (sent a (message.Drop u p)) (things_of d) m (inl refl)) in
                told_so (stay.after.same z among) word_so object_so
              where
                told_so : IsStale (sight d) None ⊎ (u ≡ stay.after.word p) → u ≡ b.word → p ≡ b.object → before.word r ≡ b.word
                told_so (inl h) word_so object_so = absurd h
                told_so (inr h) word_so object_so = sym (stay.same r) ∙ ap stay.after.word (sym object_so) ∙ sym h ∙ word_so
            of_message a _ m l = absurd (omega (arith, l))

            by : (z : Thing) → Among z (things_of d) → 1 ≤ drop_as b z → before.word r ≡ b.word
            by (sent a m) h l = of_message a m h l
            by _ h l = absurd (omega (arith, l))

        live : 1 ≤ tot (cells r) (things_of k)
        live = named_live k sound r (named_there b e)

        kept : tot (dropped_by r) (things_of k) ≡ 0
        kept = named_kept k sound r (named_there b e)

        shown : word (sight k) r ≡ Some b.word
        shown = live_word k before r live ∙ ap (λ z. Some z) box_word

        place : (p : Plain × Place) × (first_shown (placed_in r) (things_of k) ≡ Some p)
        place = placed_somewhere k r live

        abbrev held : Living
        held = as_living r (Some b.word) false place.0

        held_lives : living_of (sight k) r ≡ Some held
        held_lives =
            living_is (sight k) r ∙ ap₂ (λ a z. option_map (as_living r a (some z)) (first_shown (placed_in r) (things_of k))) shown kept ∙ ap (option_map (as_living r (Some b.word) false)) place.1

        abbrev marked : Living → Living
        marked z = if is_object r z then record z { is_condemned = true } else z

        boxed_turn : (y : ObjNo) → same_object y o ≡ false → option_map marked (living_of (sight k) y) ≡ living_of (sight d) y
        boxed_turn y away_from = ap (option_map marked) (living_is (sight k) y) ∙ by (first_shown (placed_in y) (things_of k)) (same_object y r) refl ∙ sym (others_then y away_from)
          where
            counts : (g : Bool) → same_object y r ≡ g → boxes y v ≡ one g
            counts g h = ap (boxes y) e ∙ ap one (object_flip r y ∙ h)

            by : (p : Option (Plain × Place)) (g : Bool) → same_object y r ≡ g → option_map marked (option_map (as_living y (word (sight k) y) (some (tot (dropped_by y) (things_of k)))) p) ≡ option_map (then_so y) p
            by None g h = refl
            by (Some p) false h =
                ap (λ z. Some (if z then record (as_living y (word (sight k) y) (some (tot (dropped_by y) (things_of k))) p) { is_condemned = true } else as_living y (word (sight k) y) (some (tot (dropped_by y) (things_of k))) p)) h
                ∙ ap (λ z. Some (as_living y (word (sight k) y) (some z) p)) (let z = counts false h in omega (arith, z))
            by (Some p) true h =
                ap (λ z. Some (if z then record (as_living y (word (sight k) y) (some (tot (dropped_by y) (things_of k))) p) { is_condemned = true } else as_living y (word (sight k) y) (some (tot (dropped_by y) (things_of k))) p)) h
                ∙ ap (λ z. Some (as_living y (word (sight k) y) z p)) (sym (some_more (tot (dropped_by y) (things_of k) + boxes y v) (let z = counts true h in omega (arith, z))))

      -- where the block held no box
      unboxed_turn : (y : ObjNo) → boxes y v ≡ 0 → same_object y o ≡ false → living_of (sight k) y ≡ living_of (sight d) y
      unboxed_turn y z away_from =
          living_is (sight k) y ∙ ap (λ m. option_map (as_living y (word (sight k) y) (some m)) (first_shown (placed_in y) (things_of k))) (let m : tot (dropped_by y) (things_of k) ≡ tot (dropped_by y) (things_of k) + boxes y v = omega (arith, z) in m)
          ∙ sym (others_then y away_from)

      -- THE ANSWERS

      abbrev q0 : Answers
      q0 = answers_of (sight k)

      abbrev q1 : Answers
      q1 = freeing o q0

      -- by whether it is the freed one
      turn_by : (g : Living → Living) → ((y : ObjNo) → same_object y o ≡ false → option_map g (living_of (sight k) y) ≡ living_of (sight d) y) → (y : ObjNo) → option_map g (if same_object y o then None else living_of (sight k) y) ≡ living_of (sight d) y
      turn_by g go y = by (same_object y o) refl
        where
          by : (b : Bool) → same_object y o ≡ b → option_map g (if b then None else living_of (sight k) y) ≡ living_of (sight d) y
          by true e = sym (ap (living_of (sight d)) (object_named y o e) ∙ gone)
          by false e = go y e

      same_by : ((y : ObjNo) → same_object y o ≡ false → living_of (sight k) y ≡ living_of (sight d) y) → (y : ObjNo) → (if same_object y o then None else living_of (sight k) y) ≡ living_of (sight d) y
      same_by go y = by (same_object y o) refl
        where
          by : (b : Bool) → same_object y o ≡ b → (if b then None else living_of (sight k) y) ≡ living_of (sight d) y
          by true e = sym (ap (living_of (sight d)) (object_named y o e) ∙ gone)
          by false e = go y e

      agrees_with : (living : ObjNo → Option Living) → ((y : ObjNo) → living y ≡ living_of (sight d) y) → Agrees (record q0 { object = living }) (answers_of (sight d))
      agrees_with living same =
          objects_agree k d olds news sound f keeps only living q0.copy q0.served q0.wishes same
          (λ a u. copy_still k d olds news sound f a u (λ g. omega (arith, none (λ z. told g (copy_in a u z)) (λ e j m. refl) (λ e j. refl) (λ e j p. refl) (λ e z. refl))))
          (λ a. served_still k d olds news sound f a (omega (arith, none (served_in a) (λ e j m. refl) (λ e j. refl) (λ e j p. refl) (λ e z. refl)))) words
          (λ a. wishes_still k d olds news sound f a (omega (arith, none (wished_in a) (λ e j m. refl) (λ e j. refl) (λ e j p. refl) (λ e z. refl))))

      -- names that the block held were given
      mutex_there : (m : MutexNo) → v ≡ owned.Mutex m → is_given_mutex (sight k) m ≡ true
      mutex_there m e = mutex_given k sound m (λ g. let mine : owned_mutex g v ≡ g m = ap (owned_mutex g) e in omega (arith, mine, lies_there k sound number s here w o c q (named_mutexes g)))

      thread_there : (t : ℕ) → v ≡ owned.Task t → is_given_thread (sight k) t ≡ true
      thread_there t e = thread_given k sound t (λ g. let mine : owned_thread g v ≡ g t = ap (owned_thread g) e in omega (arith, mine, lies_there k sound number s here w o c q (threads g)))

      abbrev entry : Owned → EntryView
      entry u = silent n None (act.Free o w ∷ give_acts u)

      -- what is let go then
      given : (u : Owned) → v ≡ u → (c1 : Coloured) → Fits q1 c1 → Runs k.options (entry u) (give_acts u) c1 (giving_up u q1)
      given (owned.Box b) e c1 h =
          runs_one k.options (entry (owned.Box b)) (act.Condemn b.object b.word) c1 (condemning b.object q1)
          (condemn_allowed k.options (entry (owned.Box b)) c1 q1 b.object b.word (held b e) h (ap (λ z. if z then None else living_of (sight k) b.object) (another b e) ∙ held_lives b e) (numbers.itself b.word) refl)
      given (owned.Mutex m) e c1 h =
          runs_one k.options (entry (owned.Mutex m)) (act.LetGo (released.Mutex m)) c1 q1 (let_go_allowed k.options (entry (owned.Mutex m)) c1 q1 (released.Mutex m) h (mutex_there m e))
      given (owned.Task t) e c1 h =
          runs_one k.options (entry (owned.Task t)) (act.LetGo (released.Task t)) c1 q1 (let_go_allowed k.options (entry (owned.Task t)) c1 q1 (released.Task t) h (thread_there t e))
      given owned.Nothing e c1 h = runs_none k.options (entry owned.Nothing) c1 q1 h
      given owned.Unit e c1 h = runs_none k.options (entry owned.Unit) c1 q1 h
      given (owned.Int j) e c1 h = runs_none k.options (entry (owned.Int j)) c1 q1 h

      agrees : (u : Owned) → v ≡ u → Agrees (giving_up u q1) (answers_of (sight d))
      agrees (owned.Box b) e = agrees_with (giving_up (owned.Box b) q1).object (turn_by (marked b e) (boxed_turn b e))
      agrees (owned.Mutex m) e = agrees_with q1.object (same_by (λ y. unboxed_turn y (ap (boxes y) e)))
      agrees (owned.Task t) e = agrees_with q1.object (same_by (λ y. unboxed_turn y (ap (boxes y) e)))
      agrees owned.Nothing e = agrees_with q1.object (same_by (λ y. unboxed_turn y (ap (boxes y) e)))
      agrees owned.Unit e = agrees_with q1.object (same_by (λ y. unboxed_turn y (ap (boxes y) e)))
      agrees (owned.Int j) e = agrees_with q1.object (same_by (λ y. unboxed_turn y (ap (boxes y) e)))

    abbrev freed_work : Work
    freed_work = note (act.Free o w) (away k sound number s here i w o c q)

    drops : Legal k s None (message_things n (message.Drop w o)) x c0 (record x { work = give_up v freed_work })
    drops = record {
      olds = spot k sound number s here i w o c q ∷ [];
      news = news;
      acts = act.Free o w ∷ give_acts v;
      turns = beside x (spot k sound number s here i w o c q ∷ []) news (act.Free o w ∷ give_acts v) (give_up v freed_work)
          (gives_turns x.work (spot k sound number s here i w o c q ∷ []) (left k sound number s here i w o c q ∷ []) (act.Free o w ∷ []) freed_work v
          (notes x.work (spot k sound number s here i w o c q ∷ []) (left k sound number s here i w o c q ∷ []) [] (away k sound number s here i w o c q) (act.Free o w) (leaves k sound number s here i w o c q)));
      leads = λ d f keeps.
          let a0 = answers_of (sight k) in
          let h = fits (sight k) c0 is_coloured in
          let e = silent n None (act.Free o w ∷ give_acts v) in
          leads_on k.options n None (act.Free o w ∷ give_acts v) c0 a0 (giving_up v (freeing o a0)) d h (server_there k sound number s here).0 tt
          (runs_act k.options e (act.Free o w) (give_acts v) c0 (freeing o a0) (giving_up v (freeing o a0)) (free_allowed k.options e c0 a0 o w living_one h lives (numbers.itself w) refl (numbers.itself n)) (λ c1 h1. given d f keeps v refl c1 h1))
          (agrees d f keeps v refl);
    }

  pub drop_legal : Gives (Legal k s None (message_things n (message.Drop w o)) x c0) (deliver_message k.code (message.Drop w o) x)
  drop_legal =
      over_gives P (Legal k s None (message_things n (message.Drop w o)) x c0) (deliver_drop w o x.work) (λ y. record x { work = y })
      (map_gives P (look_object s.rest.partition w o) (λ c. give_up c.value (note (act.Free o w) (away_of c))) (λ c q. drops c q)) (λ y l. l)
    where
      away_of : Cell → Work
      away_of c = with_partition (freed s.rest.partition w) x.work

      P : Work → Type 0
      P y = Legal k s None (message_things n (message.Drop w o)) x c0 (record x { work = y })
