-- What a cluster answers after a step that made an object: it lies there under its word, which is issued, and all else is as it was.
use Rattle.std.proofs.Common.{◌≡◌, ℕ, zero, suc, ◌+◌, ◌≤◌, ◌==◌, ◌&&◌, ◌||◌, nat_lt, Bool, true, false, if◌then◌else◌, List, [], ◌∷◌, Option, Some, None, is_none, option_map, refl, sym, ap, ap₂, subst, ◌∙◌, arith}
use Rattle.std.specs.Prelude.{nat_le}
use Rattle.law_entries_writes.specs.Below.law_entries_reads.Below.law_words_borrows.Below.fr_base.declared.name.MutexNo.{MutexNo}
use Rattle.law_entries_writes.specs.Below.law_entries_reads.Below.law_words_borrows.Below.fr_base.declared.name.ObjNo.{ObjNo}
use Rattle.law_entries_writes.specs.Below.law_entries_reads.Below.law_words_borrows.Below.fr_base.declared.label.Plain.{Plain}
use Rattle.law_entries_writes.specs.Below.law_entries_reads.Below.law_words_borrows.Below.global_addr.Words.{colour_of}
use Rattle.law_entries_writes.specs.Below.law_entries_reads.Below.law_words_borrows.Below.heap_partition.Plain.{plain_of}
use Rattle.law_entries_writes.specs.Below.law_entries_reads.Below.law_words_borrows.Below.heap_partition.declared.value.Cell.{Cell}
use Rattle.law_entries_writes.specs.Below.law_entries_reads.Below.law_words_borrows.Below.heap_partition.declared.value.Owned.{Owned}
use Rattle.law_entries_writes.specs.Below.law_entries_reads.Below.law_words_borrows.Below.owner_box.View.{PartitionState}
use Rattle.law_entries_writes.specs.Below.law_entries_reads.Below.law_words_borrows.Below.owner_box.Partition.{next_place, new_word}
use Rattle.law_entries_writes.specs.Below.law_entries_reads.Below.law_words_borrows.Below.thread_state.View.{ThreadState, is_over}
use Rattle.law_entries_writes.specs.Below.law_entries_reads.Below.law_words_borrows.Below.server_model.Servers.{Server, Cluster, server_at}
use Rattle.law_entries_writes.specs.Below.law_entries_reads.Below.law_words_borrows.Below.server_model.Work.{thread_in}
use Rattle.law_entries_writes.specs.Below.law_entries_reads.Below.law_words_borrows.Below.server_model.NewWords.{can_grow}
use Rattle.law_entries_writes.specs.Below.law_entries_variables.Below.coloured_heap.Heap.{Place, Lies, Coloured}
use Rattle.law_entries_writes.proofs.Below.law_entries_variables.Below.coloured_heap.ShownNames.{number_flip}
use Rattle.law_entries_writes.specs.Below.law_entries_reads.Below.law_words_borrows.Below.coherent_memory.Names.{tot, one, some, if_so, same_object}
use Rattle.law_entries_writes.specs.Below.law_entries_reads.Below.law_words_borrows.Below.coherent_memory.Things.{Thing, lies, vacant, stands, things_of}
use Rattle.law_entries_writes.specs.Below.law_entries_reads.Below.law_words_borrows.Below.coherent_memory.Follow.{Standing}
use Rattle.law_entries_writes.specs.Below.law_entries_reads.Below.law_words_borrows.Below.coherent_memory.Sight.{colour_up_to, is_spot, sight, word, issued}
use Rattle.law_entries_writes.specs.Below.law_entries_reads.Below.law_words_borrows.Below.coherent_memory.Weights.{cells, is_thread}
use Rattle.law_entries_writes.specs.Below.law_entries_reads.Below.law_words_borrows.Below.coherent_memory.Sharing.{gift_content}
use Rattle.law_entries_writes.specs.Below.law_entries_reads.Below.law_words_borrows.Below.coherent_memory.Naming.{started_at, made_at}
use Rattle.law_entries_writes.specs.Below.law_entries_reads.Below.law_words_borrows.Below.coherent_memory.OneHeap.{first_shown, is_given_thread}
use Rattle.law_entries_writes.specs.Below.law_entries_reads.Below.law_words_borrows.Below.coherent_memory.Words.{HasWords}
use Rattle.law_entries_writes.specs.Below.law_entries_reads.Below.law_words_borrows.Below.coherent_memory.Colours.{StandsColoured, living_of, running_of}
use Rattle.law_entries_writes.specs.Below.law_entries_reads.Below.law_words_borrows.Below.coherent_memory.Coherent.{IsSound}
use Rattle.law_entries_writes.specs.Below.law_entries_reads.Below.law_words_borrows.Below.coherent_types.ClusterTypes.{IsCoherent}
use Rattle.law_entries_writes.specs.Below.law_entries_reads.Below.law_words_borrows.Below.law_counts_sums.Laws.{FewEvents}
use Rattle.law_entries_writes.specs.Below.law_entries_reads.Below.law_words_borrows.Below.law_words_paths.words.WordsAfter.{WordsAfter}
use Rattle.law_entries_writes.proofs.Below.law_entries_variables.Below.coherent_memory.Words.{itself}
use Rattle.law_entries_writes.proofs.Below.law_entries_reads.Below.law_words_borrows.Below.law_counts_sums.Objects.{taken_place}
use Rattle.law_entries_writes.proofs.Below.law_entries_reads.Below.law_words_borrows.Below.law_words_kept.stays.Steps.{TakesNoneHere}
use Rattle.law_entries_writes.proofs.Below.law_entries_reads.Below.law_words_borrows.Below.law_words_values.made.Boxing.{none_named}
use Rattle.law_entries_writes.proofs.Below.law_entries_variables.Below.law_heap_still.events.Tests.{objects}
use Rattle.law_entries_writes.proofs.Below.law_entries_variables.Below.law_heap_still.events.Told.{told, ones, tot_but, some_or, at_thread}
use Rattle.law_entries_writes.specs.Below.law_entries_variables.Below.law_heap_still.events.Shows.{ShownThread}
use Rattle.law_entries_writes.proofs.Below.law_copies_kept.Below.law_words_values.freed.Lists.{NoneLeads}
use Rattle.law_entries_writes.proofs.Below.law_entries_variables.deliveries.Answers.{answers_of, Agrees}
use Rattle.law_entries_writes.proofs.Below.law_entries_variables.deliveries.Shown.{if_some, placed_in, placings, same_placed, dropped_by, as_living, living_is, shown_after, none_first, copy_in, served_in, wished_in, runs, there_in, holder_by}
use Rattle.law_entries_writes.proofs.Below.law_entries_variables.deliveries.Live.{word_told, placed_cells, placed_seen, dropped_seen, issued_by, issued_seen, issued_told}
use Rattle.law_entries_writes.proofs.Below.law_entries_variables.deliveries.After.{Follows, copy_still, served_still, started_still, running_still, ended_by, wishes_still, made_still, there_still}
use Rattle.law_entries_writes.proofs.Below.law_entries_variables.still.Kept.{masked_of}
use Rattle.law_entries_writes.proofs.Below.law_entries_variables.still.Settled.{none_held}
use Rattle.law_entries_writes.proofs.Below.law_entries_variables.variables.InStep.{by_number}
use Rattle.law_entries_writes.proofs.Below.law_entries_variables.variables.Quiets.{runs_on}
use Rattle.law_entries_writes.proofs.Below.law_entries_variables.variables.Holders.{gifted}
use Rattle.law_entries_writes.proofs.Below.law_entries_variables.variables.Aside.{only}
use Rattle.law_entries_events.proofs.boxes.Making.{made_as, making}
use Rattle.law_entries_events.proofs.boxes.NewAddress.{up_to_word, taken_none, taken_issued, NewWord, new_word_is}
use Rattle.law_entries_events.proofs.boxes.Absent.{none_drops, none_leads}
use Rattle.law_entries_events.proofs.boxes.OneCell.{gift_stays}
use Rattle.law_entries_events.proofs.boxes.Holders.{holder_stays, bare_then}

-- what is shown lives
shown_lives : (k : Cluster) (o : ObjNo) (p : Plain × Place) → first_shown (placed_in o) (things_of k) ≡ Some p → 1 ≤ tot (cells o) (things_of k)
shown_lives k o p e = by (tot (λ x. told ones (placed_in o x)) (things_of k)) refl
  where
    by : (n : ℕ) → tot (λ x. told ones (placed_in o x)) (things_of k) ≡ n → 1 ≤ tot (cells o) (things_of k)
    by zero z = absurd (cc (sym e ∙ none_first (placed_in o) (things_of k) z))
    by (suc n) z = omega (arith, z, placed_cells o k)

-- the object that a thread makes next
abbrev pub next_name : ThreadState → ObjNo
next_name y = record { thread = y.number; count = y.made }

-- where its server puts it
abbrev pub its_cell : Server → ThreadState → Owned → Thing
its_cell s y v = lies s.rest.number (next_place s.rest.partition).0 (record { object = next_name y; value = v })

module _ (k c : Cluster) (coherent : IsCoherent k) (few : FewEvents k) (s : Server) (here : server_at k.servers s.rest.number ≡ Some s) (t : ℕ) (y : ThreadState) (at : thread_in s.threads t ≡ Some y) (live : is_over y.phase ≡ false) (untaken : TakesNoneHere k.code y) (bare : y.gift ≡ None)
    (c0 : Coloured) (is_coloured : StandsColoured k c0) (grows : can_grow s.rest.partition ≡ true) (v : Owned) (z : ThreadState) (named : z.number ≡ y.number) (free : z.gift ≡ None) (on : is_over z.phase ≡ false)
    (f : Follows k c (stands s.rest.number false y ∷ taken_place s.rest.number s.rest.partition.free) (stands s.rest.number false z ∷ its_cell s y v ∷ [])) (words : WordsAfter (sight k) (sight c) (next_name y) (new_word s.rest.partition) coherent.sound.words.have_words) where
  abbrev sound : IsSound k
  sound = coherent.sound

  abbrev n : ℕ
  n = s.rest.number

  abbrev p : PartitionState
  p = s.rest.partition

  abbrev a : ℕ
  a = (next_place p).0

  abbrev w : ℕ
  w = new_word p

  abbrev name : ObjNo
  name = next_name y

  abbrev cell : Cell
  cell = record { object = name; value = v }

  abbrev olds : List Thing
  olds = stands n false y ∷ taken_place n p.free

  abbrev news : List Thing
  news = stands n false z ∷ its_cell s y v ∷ []

  abbrev before : HasWords (sight k)
  before = sound.words.have_words

  own : thread_in s.threads y.number ≡ Some y
  own = by_number s t y at

  -- none has its name
  absent : tot (cells name) (things_of k) ≡ 0
  absent = none_named k coherent few s here t y at live untaken bare before

  unled : NoneLeads k name
  unled = none_leads k coherent name absent

  its : NewWord k sound few s here
  its = new_word_is k sound few s here grows

  -- what sees neither addresses nor objects sees that the thread changes
  even : (g : Thing → ℕ) → ((r b m : ℕ) → g (vacant r b m) ≡ 0) → ((r b : ℕ) (e : Cell) → g (lies r b e) ≡ 0) → g (stands n false y) ≡ g (stands n false z) → tot g olds ≡ tot g news
  even g va li same = omega (arith, taken_none n p.free g va, li n a cell, same)

  -- OBJECTS

  placed_then : (q : ObjNo) (r : Option (Plain × Place)) → ((g : Plain × Place → ℕ) → told g r ≡ told g (first_shown (placed_in q) (things_of k)) + told g (if_some (same_object name q) (plain_of v, Lies n))) → first_shown (placed_in q) (things_of c) ≡ r
  placed_then q r e =
      shown_after same_placed placings (placed_in q) (things_of k) olds news (things_of c) (λ g. f.things (λ x. told g (placed_in q x)) (placed_seen q g)) (omega (arith, placed_cells q k, sound.one_home.home_of_each q)) r
      (λ g. omega (arith, e g, taken_none n p.free (λ x. told g (placed_in q x)) (λ i b m. refl)))

  dropped_same : (q : ObjNo) → tot (dropped_by q) (things_of c) ≡ tot (dropped_by q) (things_of k)
  dropped_same q = omega (arith, f.things (dropped_by q) (dropped_seen q), even (dropped_by q) (λ i b m. refl) (λ i b e. refl) refl)

  none_before : first_shown (placed_in name) (things_of k) ≡ None
  none_before = none_first (placed_in name) (things_of k) (omega (arith, absent, placed_cells name k))

  -- it wasn't there
  pub unmade : living_of (sight k) name ≡ None
  unmade = living_is (sight k) name ∙ ap (option_map (as_living name (word (sight k) name) (some (tot (dropped_by name) (things_of k))))) none_before

  its_place : first_shown (placed_in name) (things_of c) ≡ Some (plain_of v, Lies n)
  its_place =
      placed_then name (Some (plain_of v, Lies n)) (λ g.
      let none : told g (first_shown (placed_in name) (things_of k)) ≡ 0 = ap (told g) none_before in
      let shows : told g (if_some (same_object name name) (plain_of v, Lies n)) ≡ g (plain_of v, Lies n) = ap (λ b. told g (if_some b (plain_of v, Lies n))) (objects.itself name) in
      omega (arith, none, shows))

  came : living_of (sight c) name ≡ Some (made_as name n w (plain_of v))
  came =
      living_is (sight c) name
      ∙ ap₂ (λ u m. option_map (as_living name u (some m)) (first_shown (placed_in name) (things_of c))) (word_told c words.after name (shown_lives c name (plain_of v, Lies n) its_place) ∙ ap (λ u. Some u) words.new) (dropped_same name ∙ none_drops k coherent name absent)
      ∙ ap (option_map (as_living name (Some w) false)) its_place

  -- each other one is as it was
  other_stays : (q : ObjNo) → same_object name q ≡ false → living_of (sight k) q ≡ living_of (sight c) q
  other_stays q e = living_is (sight k) q ∙ by (first_shown (placed_in q) (things_of k)) refl ∙ sym (living_is (sight c) q)
    where
      there : first_shown (placed_in q) (things_of c) ≡ first_shown (placed_in q) (things_of k)
      there =
          placed_then q (first_shown (placed_in q) (things_of k)) (λ g.
          let none : told g (if_some (same_object name q) (plain_of v, Lies n)) ≡ 0 = ap (λ b. told g (if_some b (plain_of v, Lies n))) e in
          omega (arith, none))

      apart : q ≡ name → ⊥
      apart h = cc (sym e ∙ subst (λ j. same_object name j ≡ true) (sym h) (objects.itself name))

      by : (r : Option (Plain × Place)) → first_shown (placed_in q) (things_of k) ≡ r
          → option_map (as_living q (word (sight k) q) (some (tot (dropped_by q) (things_of k)))) r ≡ option_map (as_living q (word (sight c) q) (some (tot (dropped_by q) (things_of c)))) (first_shown (placed_in q) (things_of c))
      by None h = sym (ap (option_map (as_living q (word (sight c) q) (some (tot (dropped_by q) (things_of c))))) (there ∙ h))
      by (Some r) h =
          let same : word (sight k) q ≡ word (sight c) q = word_told k before q (shown_lives k q r h) ∙ ap (λ u. Some u) (sym (words.others q apart)) ∙ sym (word_told c words.after q (shown_lives c q r (there ∙ h))) in
          ap₂ (λ u m. Some (as_living q u (some m) r)) same (sym (dropped_same q)) ∙ sym (ap (option_map (as_living q (word (sight c) q) (some (tot (dropped_by q) (things_of c))))) (there ∙ h))

  objects_turn : (q : ObjNo) → (if same_object name q then Some (made_as name n w (plain_of v)) else living_of (sight k) q) ≡ living_of (sight c) q
  objects_turn q = by (same_object name q) refl
    where
      by : (b : Bool) → same_object name q ≡ b → (if b then Some (made_as name n w (plain_of v)) else living_of (sight k) q) ≡ living_of (sight c) q
      by true e = subst (λ j. Some (made_as name n w (plain_of v)) ≡ living_of (sight c) j) (objects.tells name q e) (sym came)
      by false e = other_stays q e

  -- WORDS

  abbrev colours : ℕ
  colours = k.options.colours

  -- of the objects that were there
  told_same : (u : ℕ) → tot (issued_by words.after.word colours u) (things_of k) ≡ tot (issued_by before.word colours u) (things_of k)
  told_same u = tot_but (cells name) (issued_by words.after.word colours u) (issued_by before.word colours u) each (things_of k) absent
    where
      each : (x : Thing) → cells name x ≡ 0 → issued_by words.after.word colours u x ≡ issued_by before.word colours u x
      each (lies r b e) none =
          ap (λ i. one (is_spot r b u && colour_up_to (Some i) u)) (words.others e.object (λ h. let mine : one (same_object e.object name) ≡ 1 = ap one (itself e.object name h) in absurd (omega (arith, none, mine))))
      each _ none = refl

  -- its word is one more
  words_turn : (u : ℕ) → (w == u) || issued (sight k) u ≡ issued (sight c) u
  words_turn u = ap (λ b. (w == u) || b) (issued_told k before u) ∙ sym (some_or (w == u) (tot (issued_by before.word colours u) (things_of k))) ∙ ap some (sym count) ∙ sym (issued_told c words.after u)
    where
      same_limit : tot (issued_by words.after.word c.options.colours u) (things_of c) ≡ tot (issued_by words.after.word colours u) (things_of c)
      same_limit = ap (λ q. tot (issued_by words.after.word q.colours u) (things_of c)) f.options

      mine : issued_by words.after.word colours u (its_cell s y v) ≡ one (is_spot n a u && nat_le (colour_of u) (colour_of w))
      mine = ap (λ i. one (is_spot n a u && colour_up_to (Some i) u)) words.new

      below : tot (issued_by words.after.word colours u) (taken_place n p.free) ≡ one (is_spot n a u && nat_lt (colour_of u) (colour_of w))
      below = taken_issued n p words.after.word colours u ∙ ap (λ j. one (is_spot n a u && nat_lt (colour_of u) j)) (sym its.colour)

      count : tot (issued_by words.after.word c.options.colours u) (things_of c) ≡ one (w == u) + tot (issued_by before.word colours u) (things_of k)
      count = omega (arith, same_limit, told_same u, f.things (issued_by words.after.word colours u) (issued_seen words.after.word colours u), mine, below, up_to_word n a w u its.server its.address)

  -- GIFTS

  gifts : (m : MutexNo) (x : Standing) → only y.number x.thread.number ≡ false → gift_content (sight c) m x ≡ gift_content (sight k) m x
  gifts m x e =
      gift_stays k c sound olds news f n a cell absent unled m x (record {
        thread = even (is_thread x.thread.number) (λ i b j. refl) (λ i b d. refl) (ap (λ j. one (j == x.thread.number)) (sym named));
        slots = λ h. even (at_thread (λ j. h (masked_of j)) x.thread.number) (λ i b j. refl) (λ i b d. refl) (unseen h y refl ∙ sym (unseen h z named));
        objects = λ o g. omega (arith, taken_none n p.free (λ j. told g (placed_in o j)) (λ i b j. refl));
      })
    where
      unseen : (h : ShownThread → ℕ) (u : ThreadState) → u.number ≡ y.number → at_thread (λ j. h (masked_of j)) x.thread.number (stands n false u) ≡ 0
      unseen h u same = ap (λ b. if_so b (h (masked_of (record { server = n; packed = false; thread = u })))) (ap (λ j. j == x.thread.number) same ∙ number_flip y.number x.thread.number ∙ e)

  ungifted_then : tot (gifted (only y.number)) (things_of c) ≡ 0
  ungifted_then = bare_then k c sound n s here y own z free (taken_place n p.free) (its_cell s y v ∷ []) f (taken_none n p.free (gifted (only y.number)) (λ i b j. refl)) refl

  -- ALL ANSWERS

  started : (u : ℕ) → is_given_thread (sight k) u ≡ is_given_thread (sight c) u
  started = started_still k c olds news sound f (λ r j. even (started_at r j) (λ i b m. refl) (λ i b d. refl) refl)

  running : (u : ℕ) → running_of (sight k) u ≡ running_of (sight c) u
  running u =
      running_still k c olds news sound f (λ q. even (is_thread q) (λ i b m. refl) (λ i b d. refl) (ap (λ j. one (j == q)) (sym named))) u
      (λ g. even (runs g u) (λ i b m. refl) (λ i b d. refl) (runs_on k sound n s here c0 is_coloured y own live z named on u g))

  pub agrees : Agrees (making name n w (plain_of v) (answers_of (sight k))) (answers_of (sight c))
  agrees = record {
    object = objects_turn;
    copy = λ r u. copy_still k c olds news sound f r u (λ g. even (λ q. told g (copy_in r u q)) (λ i b m. refl) (λ i b d. refl) refl);
    served = λ b. served_still k c olds news sound f b (even (served_in b) (λ i j m. refl) (λ i j d. refl) refl);
    issued = words_turn;
    started = started;
    running = running;
    ended = ended_by k c started (λ u. ap is_none (running u));
    wishes = λ b. wishes_still k c olds news sound f b (even (wished_in b) (λ i j m. refl) (λ i j d. refl) refl);
    made = made_still k c olds news sound f (λ r j. even (made_at r j) (λ i b m. refl) (λ i b d. refl) refl);
    there = λ m e. there_still k c olds news sound f m (even (there_in m) (λ i b j. refl) (λ i b d. refl) refl) ∙ e;
    holder = λ m.
        holder_stays k c olds news sound f (only y.number) gifts ungifted_then m (λ g.
        even (λ q. told g (holder_by (sight k) m q)) (λ i b j. refl) (λ i b d. refl) (none_held k sound n s here c0 is_coloured y.number y own live y bare m g ∙ sym (none_held k sound n s here c0 is_coloured y.number y own live z free m g)));
  }
