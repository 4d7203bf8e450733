-- An object is taken in: it lies here under the new word, which is issued; each other object, each copy, each wish and each holder is as it was.
use Rattle.std.proofs.Common.{◌≡◌, inl, inr, ⊎_elim, ℕ, zero, suc, ◌+◌, ◌<◌, ◌≤◌, ◌^◌, ◌==◌, ◌&&◌, ◌||◌, not, Bool, true, false, nat_lt, if◌then◌else◌, List, [], ◌∷◌, ◌++◌, length, Option, Some, None, is_some, is_none, option_map, refl, sym, ap, ap₂, subst, ◌∙◌, arith}
use Rattle.std.proofs.lemmas.Bool.{lt-ltb}
use Rattle.std.proofs.lemmas.Bool.Decides.{nat_tests}
use Rattle.std.specs.Prelude.{nat_le, slice_get}
use Rattle.std.specs.List.{AllByRecursion}
use Rattle.law_runs_whole.specs.Below.law_words_ends.Below.fr_base.declared.name.MutexNo.{MutexNo}
use Rattle.law_runs_whole.specs.Below.law_words_ends.Below.fr_base.declared.name.ObjNo.{ObjNo}
use Rattle.law_runs_whole.specs.Below.law_words_ends.Below.fr_base.declared.label.Plain.{Plain}
use Rattle.law_runs_whole.specs.Below.law_words_ends.Below.fr_base.declared.instruction.Instr.{Instr}
use Rattle.law_runs_whole.specs.Below.law_words_ends.Below.fr_base.declared.instruction.Instr.TheVariants as instr
use Rattle.law_runs_whole.specs.Below.law_words_ends.Below.global_addr.Words.{word_of, colour_of, server_of, address_of}
use Rattle.law_runs_whole.specs.Below.law_words_issued.Below.colour_retire.Colours.{picked}
use Rattle.law_runs_whole.specs.Below.law_words_ends.Below.heap_partition.Plain.{plain_of}
use Rattle.law_runs_whole.specs.Below.law_words_ends.Below.heap_partition.declared.value.Cell.{Cell}
use Rattle.law_runs_whole.specs.Below.law_words_ends.Below.owner_box.View.{PartitionState}
use Rattle.law_runs_whole.specs.Below.law_words_ends.Below.owner_box.Partition.{new_word, next_place}
use Rattle.law_runs_whole.proofs.Below.law_words_issued.Below.owner_box.Issued.{packed}
use Rattle.law_runs_whole.specs.Below.law_words_ends.Below.thread_state.View.{ThreadState, is_over}
use Rattle.law_runs_whole.specs.Below.law_words_ends.Below.thread_state.declared.phase.Phase.{Phase}
use Rattle.law_runs_whole.specs.Below.law_words_ends.Below.thread_state.declared.phase.Phase.TheVariants as phase
use Rattle.law_runs_whole.specs.Below.law_words_ends.Below.server_msgs.declared.message.Message.TheVariants as message
use Rattle.law_runs_whole.specs.Below.journal.declared.act.Act.TheVariants as act
use Rattle.law_runs_whole.specs.Below.server_model.Servers.{Server, Cluster, server_at}
use Rattle.law_runs_whole.specs.Below.server_model.Work.{Site}
use Rattle.law_runs_whole.specs.Below.server_model.Objects.{waits_for_cell}
use Rattle.law_runs_whole.specs.Below.coloured_heap.Heap.{Place, Lies, Flies, Living, Running, Coloured, is_object}
use Rattle.law_entries_writes.proofs.Below.law_entries_variables.Below.coloured_heap.Times.{both as both_true}
use Rattle.law_entries_writes.proofs.Below.law_entries_variables.Below.coloured_heap.ShownNames.{object_flip}
use Rattle.law_runs_whole.specs.Below.coherent_memory.Names.{tot, one, other, if_so, some, same_object, Among}
use Rattle.law_runs_whole.specs.Below.coherent_memory.Things.{Thing, lies, flies, sent, vacant, stands, things_of}
use Rattle.law_runs_whole.specs.Below.coherent_memory.Follow.{Standing, value_at}
use Rattle.law_runs_whole.specs.Below.coherent_memory.Sight.{Pointer, pointers_in, taken_pointers, colour_up_to, is_spot, sight, word, issued}
use Rattle.law_runs_whole.specs.Below.coherent_memory.Weights.{cells, is_thread}
use Rattle.law_runs_whole.specs.Below.coherent_memory.Requests.{mutex_of, is_mutex, locked_mutex}
use Rattle.law_runs_whole.specs.Below.coherent_memory.Sharing.{gift_content}
use Rattle.law_runs_whole.specs.Below.coherent_memory.Naming.{options_out, started_at, made_at}
use Rattle.law_runs_whole.specs.Below.coherent_memory.OneHeap.{first_shown}
use Rattle.law_runs_whole.specs.Below.coherent_memory.Walking.{path}
use Rattle.law_runs_whole.specs.Below.coherent_memory.Words.{IsStale, HasWords}
use Rattle.law_runs_whole.specs.Below.coherent_memory.Colours.{StandsColoured, living_of, running_of, holder_of}
use Rattle.law_runs_whole.specs.Below.coherent_memory.Coherent.{IsSound}
use Rattle.law_runs_whole.proofs.Below.law_words_ends.Below.coherent_memory.Words.{named}
use Rattle.law_runs_whole.specs.Below.law_words_ends.Below.coherent_types.ClusterTypes.{IsCoherent}
use Rattle.law_runs_whole.proofs.Below.law_counts_sums.Trades.{tot-append}
use Rattle.law_runs_whole.proofs.Below.law_counts_sums.Objects.{taken_place}
use Rattle.law_runs_whole.proofs.Below.law_counts_sums.ThreadThere.{thread_there}
use Rattle.law_runs_whole.proofs.Below.law_words_ends.Below.law_heap_still.events.Tests.{numbers, objects}
use Rattle.law_runs_whole.proofs.Below.law_words_ends.Below.law_heap_still.events.Told.{told, ones, tot_same, some_or}
use Rattle.law_runs_whole.proofs.Below.law_words_ends.Below.law_heap_still.events.Unnamed.{two_at_most}
use Rattle.law_runs_whole.specs.Below.law_words_ends.Below.law_words_paths.paths.HeapStore.{GoesOn}
use Rattle.law_runs_whole.proofs.Below.law_words_ends.Below.law_words_paths.paths.Contained.{among_thread}
use Rattle.law_runs_whole.proofs.Below.law_words_ends.Below.law_words_paths.paths.Origins.{among_first}
use Rattle.law_runs_whole.proofs.Below.law_words_ends.Below.law_words_kept.reads.Flights.{truly}
use Rattle.law_runs_whole.proofs.Below.law_words_ends.Below.law_words_paths.words.Standing.{pointers_among}
use Rattle.law_runs_whole.proofs.Below.law_words_ends.Below.law_results_reads.Flights.{weighs, has_weight}
use Rattle.law_runs_whole.proofs.Below.law_words_ends.Below.law_results_reads.Pointing.{its_partition}
use Rattle.law_runs_whole.proofs.Below.law_words_ends.Below.law_results_events.writes.Memory.{Sane}
use Rattle.law_runs_whole.specs.Below.law_words_ends.Below.law_words_asked.arrivals.Awaited.{Awaits}
use Rattle.law_runs_whole.proofs.Below.law_words_ends.Below.law_words_asked.arrivals.Awaited.{arrivals_awaited}
use Rattle.law_runs_whole.proofs.Below.law_words_ends.Below.law_words_values.freed.Lists.{NoneLeads}
use Rattle.law_entries_writes.specs.Below.law_entries_variables.deliveries.Entries.{LeadsOn}
use Rattle.law_entries_writes.proofs.Below.law_entries_variables.deliveries.Answers.{Agrees, answers_of, fits}
use Rattle.law_entries_writes.proofs.Below.law_entries_variables.deliveries.Weighed.{Seen}
use Rattle.law_entries_writes.proofs.Below.law_entries_variables.deliveries.Shown.{if_some, placed_in, placings, same_placed, dropped_by, as_living, living_is, shown_after, shown_still, first_same, none_first, copy_in, served_in, wished_in, runs, there_in, holder_by, holder_is}
use Rattle.law_entries_writes.proofs.Below.law_entries_variables.deliveries.HeldOnce.{holders_once}
use Rattle.law_entries_writes.proofs.Below.law_entries_variables.deliveries.Live.{word_told, placed_cells, placed_seen, dropped_seen, issued_by, issued_seen, issued_told}
use Rattle.law_entries_writes.proofs.Below.law_entries_variables.deliveries.After.{Follows, copy_still, served_still, started_still, running_still, ended_by, wishes_still, made_still, there_still}
use Rattle.law_entries_writes.proofs.Below.law_entries_variables.deliveries.Runs.{silent, runs_one, leads_on}
use Rattle.law_entries_writes.proofs.Below.law_entries_variables.deliveries.Applied.{server_there}
use Rattle.law_entries_writes.proofs.Below.law_entries_variables.deliveries.Changed.{message_there}
use Rattle.law_entries_writes.proofs.Below.law_entries_reads.served.Kept.{led_kept}
use Rattle.law_entries_writes.proofs.Below.law_entries_reads.served.Lying.{found_there}
use Rattle.law_entries_writes.proofs.Below.law_entries_reads.served.Wanted.{in_turn}
use Rattle.law_entries_events.proofs.objects.Acts.{landing, taking, take_allowed}
use Rattle.law_entries_events.proofs.objects.Gifts.{GiftsKept}
use Rattle.law_entries_events.proofs.objects.Leaving.{limit_is}
use Rattle.law_entries_events.proofs.objects.Putting.{Plainly}
use Rattle.law_entries_events.proofs.objects.Landing.{Lands}
use Rattle.law_entries_events.proofs.objects.Words.{WordsThen}

-- HOLDERS

holder_seen : (k : Cluster) (m : MutexNo) (g : ℕ → ℕ) → Seen (λ x. told g (holder_by (sight k) m x))
holder_seen k m g = record { held = λ p v. refl; shared = λ l q. refl; lent = λ l q. refl; flown = λ v c. refl; used = λ r v. refl; loose = λ u i o. refl; counted = λ r b q s o e. refl; unused = λ i d u. refl }

-- where gifts stay, whatever words are
holder_stays : (k d : Cluster) (olds news : List Thing) → IsSound k → Follows k d olds news → GiftsKept k d → (m : MutexNo) → ((g : ℕ → ℕ) → tot (λ x. told g (holder_by (sight k) m x)) olds ≡ tot (λ x. told g (holder_by (sight k) m x)) news)
    → holder_of (sight k) m ≡ holder_of (sight d) m
holder_stays k d olds news sound f gifts m e =
    holder_is k m few ∙ sym (shown_still (λ (i j : ℕ). i == j) numbers (holder_by (sight k) m) (things_of k) olds news (things_of d) change few e) ∙ sym (first_same (holder_by (sight d) m) (holder_by (sight k) m) kept (things_of d)) ∙ sym (holder_is d m few2)
  where
    kept : (x : Thing) → holder_by (sight d) m x ≡ holder_by (sight k) m x
    kept (stands r p x) = ap (λ n. if_some (some n) x.number) (gifts m (record { server = r; packed = p; thread = x }))
    kept _ = refl

    few : tot (λ x. told ones (holder_by (sight k) m x)) (things_of k) ≤ 1
    few = holders_once k m sound

    change : (g : ℕ → ℕ) → tot (λ x. told g (holder_by (sight k) m x)) (things_of d) + tot (λ x. told g (holder_by (sight k) m x)) olds ≡ tot (λ x. told g (holder_by (sight k) m x)) (things_of k) + tot (λ x. told g (holder_by (sight k) m x)) news
    change g = f.things (λ x. told g (holder_by (sight k) m x)) (holder_seen k m g)

    few2 : tot (λ x. told ones (holder_by (sight d) m x)) (things_of d) ≤ 1
    few2 =
        let same : tot (λ x. told ones (holder_by (sight d) m x)) (things_of d) ≡ tot (λ x. told ones (holder_by (sight k) m x)) (things_of d) = tot_same (λ x. told ones (holder_by (sight d) m x)) (λ x. told ones (holder_by (sight k) m x)) (λ x. ap (told ones) (kept x)) (things_of d) in
        omega (arith, same, change ones, e ones, few)

-- WORDS AT AN ADDRESS

-- where things among these weigh the same, so do all
among_same : (f g : Thing → ℕ) (b : List Thing) → ((x : Thing) → Among x b → f x ≡ g x) → tot f b ≡ tot g b
among_same f g [] e = refl
among_same f g (x ∷ b) e = ap₂ (λ i j. i + j) (e x (inl refl)) (among_same f g b (λ y h. e y (inr h)))

-- a word is its parts
parts_are : (v : ℕ) → v ≡ word_of (colour_of v) (server_of v) (address_of v)
parts_are v = omega arith

-- up to a colour are those below it, and the word with that colour
up_to_word : (n a w v : ℕ) → server_of w ≡ n → address_of w ≡ a → one (is_spot n a v && nat_le (colour_of v) (colour_of w)) ≡ one (is_spot n a v && nat_lt (colour_of v) (colour_of w)) + one (w == v)
up_to_word n a w v server address = by (server_of v == n) (address_of v == a) (nat_le (colour_of v) (colour_of w)) (nat_lt (colour_of v) (colour_of w)) (w == v) refl refl refl refl refl
  where
    same_word : server_of v ≡ n → address_of v ≡ a → colour_of v ≡ colour_of w → w ≡ v
    same_word e g h =
        parts_are w ∙ ap (λ i. word_of i (server_of w) (address_of w)) (sym h) ∙ ap₂ (λ i j. word_of (colour_of v) i j) (server ∙ sym e) (address ∙ sym g) ∙ sym (parts_are v)

    other_server : (server_of v == n) ≡ false → (w == v) ≡ true → ⊥
    other_server p q =
        let s : (server_of v == n) ≡ true = ap (λ z. server_of z == n) (sym (numbers.tells w v q)) ∙ ap (λ z. z == n) server ∙ numbers.itself n in
        cc (sym p ∙ s)

    other_address : (address_of v == a) ≡ false → (w == v) ≡ true → ⊥
    other_address p q =
        let s : (address_of v == a) ≡ true = ap (λ z. address_of z == a) (sym (numbers.tells w v q)) ∙ ap (λ z. z == a) address ∙ numbers.itself a in
        cc (sym p ∙ s)

    by : (p q l m e : Bool) → (server_of v == n) ≡ p → (address_of v == a) ≡ q → nat_le (colour_of v) (colour_of w) ≡ l → nat_lt (colour_of v) (colour_of w) ≡ m → (w == v) ≡ e → one ((p && q) && l) ≡ one ((p && q) && m) + one e
    by false q l m false x y z u r = refl
    by false q l m true x y z u r = absurd (other_server x r)
    by true false l m false x y z u r = refl
    by true false l m true x y z u r = absurd (other_address y r)
    by true true true true false x y z u r = refl
    by true true true true true x y z u r = absurd (let s = ap colour_of (numbers.tells w v r) in grind (arith, nat_tests, s, u))
    by true true true false true x y z u r = refl
    by true true true false false x y z u r =
        let c : colour_of v ≡ colour_of w = grind (arith, nat_tests, z, u) in
        let s : (w == v) ≡ true = subst (λ i. (w == i) ≡ true) (same_word (numbers.tells (server_of v) n x) (numbers.tells (address_of v) a y) c) (numbers.itself w) in
        absurd (cc (sym r ∙ s))
    by true true false false false x y z u r = refl
    by true true false true e x y z u r = absurd (grind (arith, nat_tests, z, u))
    by true true false false true x y z u r = absurd (let s = ap colour_of (numbers.tells w v r) in grind (arith, nat_tests, s, z))

waits_is : (p : Phase) (w : ℕ) → waits_for_cell p w ≡ true → p ≡ phase.WaitCell w
waits_is (phase.WaitCell v) w e = ap phase.WaitCell (numbers.tells v w e)
waits_is _ w e = absurd (cc e)

module _ (k : Cluster) (coherent : IsCoherent k) (number : ℕ) (s : Server) (here : server_at k.servers number ≡ Some s) (c0 : Coloured) (is_coloured : StandsColoured k c0) (i old : ℕ) (c : Cell) (t : ℕ) (at : slice_get s.rest.inbox i ≡ Some (message.Moved old c t))
    (z : Site) (l : Lands k coherent.sound number s here i old c t z) (sane : Sane s.rest.partition) (within : (next_place s.rest.partition).0 < 2 ^ 40) (fresh : issued (sight k) (new_word s.rest.partition) ≡ false) where
  abbrev sound : IsSound k
  sound = coherent.sound

  abbrev n : ℕ
  n = s.rest.number

  abbrev p : PartitionState
  p = s.rest.partition

  abbrev new : ℕ
  new = new_word p

  abbrev a : ℕ
  a = (next_place p).0

  abbrev o : ObjNo
  o = c.object

  abbrev y : ThreadState
  y = l.before

  abbrev z2 : ThreadState
  z2 = l.after

  abbrev olds : List Thing
  olds = sent n (message.Moved old c t) ∷ flies old c ∷ stands n false y ∷ (taken_place n p.free ++ l.old_cells)

  abbrev news : List Thing
  news = stands n false z2 ∷ lies n a c ∷ l.new_cells

  -- THE NEW WORD

  parts : (colour_of new ≡ (next_place p).1) × (server_of new ≡ n) × (address_of new ≡ a)
  parts = let q = packed (next_place p).1 p.server (next_place p).0 sane.small within in (q.0, q.1 ∙ (its_partition k sound number s here).0, q.2)

  low : nat_lt (colour_of new) k.options.colours ≡ true
  low = ap (λ u. nat_lt u k.options.colours) parts.0 ∙ ap (nat_lt (next_place p).1) (sym (limit_is k sound number s here)) ∙ by p.free sane.colours
    where
      some_colour : 1 ≤ p.limit
      some_colour = let none : options_out k.options ≡ 0 = sound.parts.options_in_range in let same = limit_is k sound number s here in at_least (nat_le 1 k.options.colours) (nat_le k.options.colours 65536) refl same (omega (arith, none))
        where
          at_least : (b d : Bool) → nat_le 1 k.options.colours ≡ b → p.limit ≡ k.options.colours → other (b && d) ≡ 0 → 1 ≤ p.limit
          at_least true d e same z = grind (arith, nat_tests, e, same)
          at_least false d e same z = absurd (cc z)

      by : (fl : List (ℕ × ℕ)) → AllByRecursion (λ (pair : ℕ × ℕ). pair.1 < p.limit) fl → nat_lt (picked fl (length p.cells)).1 p.limit ≡ true
      by [] all = lt-ltb 0 p.limit (let m = some_colour in omega (arith, m))
      by (pair ∷ rest) all = lt-ltb pair.1 p.limit all.0

  -- THE OBJECT UNDER WAY

  its_object : same_object c.object o ≡ true
  its_object = objects.itself o

  live : 1 ≤ tot (cells o) (things_of k)
  live = let mine : one (same_object c.object o) ≡ 1 = ap one its_object in omega (arith, mine, message_there k number s here i (message.Moved old c t) at (cells o))

  few : tot (cells o) (things_of k) ≤ 1
  few = sound.one_home.home_of_each o

  -- its word is the one that it flies under
  flies_as : (h : HasWords (sight k)) → h.word o ≡ old
  flies_as h = of (weighs flight (things_of k) (omega (arith, mine, message_there k number s here i (message.Moved old c t) at flight)))
    where
      flight : Thing → ℕ
      flight (flies u x) = one (u == old && same_object x.object o)
      flight _ = 0

      mine : one (old == old && same_object c.object o) ≡ 1
      mine = ap₂ (λ (b d : Bool). one (b && d)) (numbers.itself old) its_object

      by : (x : Thing) → Among x (things_of k) → 1 ≤ flight x → h.word o ≡ old
      by (flies u x) m w =
          let q : Pointer = record { at = None; word = u; object = x.object } in
          let among = among_first q (pointers_in (things_of k)) (taken_pointers (sight k).code (sight k).ground (sight k).ground.threads) (pointers_among q (flies u x) (things_of k) m (inl refl)) in
          let both = both_true (u == old) (same_object x.object o) (truly (u == old && same_object x.object o) w) in
          let told_so : u ≡ h.word x.object = ⊎_elim (λ (e : IsStale (sight k) None). absurd e) (λ (e : u ≡ h.word x.object). e) (h.same q among) in
          ap h.word (sym (named x.object o both.1)) ∙ sym told_so ∙ numbers.tells u old both.0
      by _ m w = absurd (omega (arith, w))

      of : (x : Thing) × Among x (things_of k) × (1 ≤ flight x) → h.word o ≡ old
      of x = by x.0 x.1 x.2

  was_placed : first_shown (placed_in o) (things_of k) ≡ Some (plain_of c.value, Flies n)
  was_placed =
      found_there same_placed placings (placed_in o) (plain_of c.value, Flies n) (things_of k) (omega (arith, placed_cells o k, few)) (λ g.
      let shows : told g (if_some (same_object c.object o) (plain_of c.value, Flies n)) ≡ g (plain_of c.value, Flies n) = ap (λ b. told g (if_some b (plain_of c.value, Flies n))) its_object in
      omega (arith, shows, message_there k number s here i (message.Moved old c t) at (λ x. told g (placed_in o x))))

  -- the thread's place leads to it, so it isn't given up
  kept : tot (dropped_by o) (things_of k) ≡ 0
  kept = led_kept k coherent o (λ none. in_turn k coherent me going aw.awaited (subst (λ q. NoneLeads k q) (sym aw.object) none) old (path (sight k) me) refl aw.turn)
    where
      me : Standing
      me = record { server = n; packed = false; thread = y }

      waiting : y.phase ≡ phase.WaitCell old
      waiting = waits_is y.phase old l.waits

      going : GoesOn k me
      going = record { among = (among_thread (sight k).ground.threads t me (thread_there k sound number s here t y l.mine)).0; going = ap is_over waiting }

      aw : Awaits k me old c
      aw = arrivals_awaited k number i old t s c y sound here at l.mine waiting

  abbrev living_one : Living
  living_one = record { object = o; place = Flies n; word = old; value = plain_of c.value; is_condemned = false }

  flying : living_of (sight k) o ≡ Some living_one
  flying =
      living_is (sight k) o ∙ ap (option_map (as_living o (word (sight k) o) (some (tot (dropped_by o) (things_of k))))) was_placed
      ∙ ap₂ (λ i j. Some (as_living o i (some j) (plain_of c.value, Flies n))) (word_told k sound.words.have_words o live ∙ ap (λ u. Some u) (flies_as sound.words.have_words)) kept

  -- WHAT WENT AND CAME

  free_none : (f : Thing → ℕ) → ((r b m : ℕ) → f (vacant r b m) ≡ 0) → tot f (taken_place n p.free) ≡ 0
  free_none f v = by p.free
    where
      by : (fl : List (ℕ × ℕ)) → tot f (taken_place n fl) ≡ 0
      by [] = refl
      by (pair ∷ rest) = omega (arith, v n pair.0 pair.1)

  split : (f : Thing → ℕ) → tot f (taken_place n p.free ++ l.old_cells) ≡ tot f (taken_place n p.free) + tot f l.old_cells
  split f = tot-append f (taken_place n p.free) l.old_cells

  -- of what sees neither addresses nor what objects hold: as much came as went, but for the object and the thread
  same_but : (f : Thing → ℕ) → ((r b m : ℕ) → f (vacant r b m) ≡ 0) → ((r b : ℕ) (d : Cell) → f (lies r b d) ≡ 0) → (tot f olds ≡ f (sent n (message.Moved old c t)) + f (flies old c) + f (stands n false y)) × (tot f news ≡ f (stands n false z2))
  same_but f v li =
      let cs : tot f l.new_cells ≡ tot f l.old_cells = l.alike f (λ r b d u e. li r b (record d { value = u }) ∙ sym (li r b d)) in
      let none : tot f l.old_cells ≡ 0 = l.cells f li in
      (omega (arith, free_none f v, split f, none), omega (arith, li n a c, cs, none))

  threads_same : (u : ℕ) → is_thread u (stands n false y) ≡ is_thread u (stands n false z2)
  threads_same u = ap (λ j. one (j == u)) (sym l.named)

  going_on : is_over y.phase ≡ false
  going_on = ap is_over (waits_is y.phase old l.waits)

  runs_same : (u : ℕ) (g : Running → ℕ) → runs g u (stands n false y) ≡ runs g u (stands n false z2)
  runs_same u g = ap₂ (λ j q. if_so (j == u) (told g (if_some (not q) (record { thread = u; server = n; has_ended = false })))) (sym l.named) (going_on ∙ sym l.live)

  holds_same : (m : MutexNo) (g : ℕ → ℕ) → told g (holder_by (sight k) m (stands n false y)) ≡ told g (holder_by (sight k) m (stands n false z2))
  holds_same m g = ap₂ (λ q j. told g (if_some (some q) j)) (sym content) (sym l.named)
    where
      as_standing : ThreadState → Standing
      as_standing v = record { server = n; packed = false; thread = v }

      locked : (j : Option Instr) → locked_mutex (sight k) (as_standing z2) j ≡ locked_mutex (sight k) (as_standing y) j
      locked (Some (instr.Lock w)) = ap (λ q. mutex_of (value_at (sight k).ground q w)) l.named
      locked _ = refl

      content : gift_content (sight k) m (as_standing z2) ≡ gift_content (sight k) m (as_standing y)
      content =
          ap (λ q. if_so (is_some q) (one (is_mutex m (locked_mutex (sight k) (as_standing z2) (slice_get k.code z2.pc))))) l.gift
          ∙ ap (λ q. if_so (is_some y.gift) (one (is_mutex m (locked_mutex (sight k) (as_standing z2) (slice_get k.code q))))) l.pc ∙ ap (λ q. if_so (is_some y.gift) (one (is_mutex m q))) (locked (slice_get k.code y.pc))

  module _ (d : Cluster) (f : Follows k d olds news) (gifts : GiftsKept k d) (words : WordsThen k d o new) where
    -- OBJECTS AFTERWARDS

    placed_plainly : (q : ObjNo) (g : Plain × Place → ℕ) → Plainly (λ x. told g (placed_in q x))
    placed_plainly q g r b e v same = ap (λ u. told g (if_some (same_object e.object q) (u, Lies r))) same

    placed_change : (q : ObjNo) (g : Plain × Place → ℕ) → tot (λ x. told g (placed_in q x)) (things_of d) + told g (if_some (same_object c.object q) (plain_of c.value, Flies n)) ≡ tot (λ x. told g (placed_in q x)) (things_of k) + told g (if_some (same_object c.object q) (plain_of c.value, Lies n))
    placed_change q g = omega (arith, f.things (λ x. told g (placed_in q x)) (placed_seen q g), free_none (λ x. told g (placed_in q x)) (λ r b m. refl), split (λ x. told g (placed_in q x)), l.alike (λ x. told g (placed_in q x)) (placed_plainly q g))

    dropped_same : (q : ObjNo) → tot (dropped_by q) (things_of d) ≡ tot (dropped_by q) (things_of k)
    dropped_same q = let b = same_but (dropped_by q) (λ r b m. refl) (λ r b e. refl) in omega (arith, f.things (dropped_by q) (dropped_seen q), b.0, b.1)

    placed_then : (q : ObjNo) (r : Option (Plain × Place)) → ((g : Plain × Place → ℕ) → told g r + told g (if_some (same_object c.object q) (plain_of c.value, Flies n)) ≡ told g (first_shown (placed_in q) (things_of k)) + told g (if_some (same_object c.object q) (plain_of c.value, Lies n))) → first_shown (placed_in q) (things_of d) ≡ r
    placed_then q r e =
        shown_after same_placed placings (placed_in q) (things_of k) (flies_thing ∷ []) (lies n a c ∷ []) (things_of d) (λ g. omega (arith, placed_change q g)) (let home : tot (cells q) (things_of k) ≤ 1 = sound.one_home.home_of_each q in omega (arith, placed_cells q k, home)) r (λ g. omega (arith, e g))
      where
        flies_thing : Thing
        flies_thing = sent n (message.Moved old c t)

    live_then : (q : ObjNo) (r : Plain × Place) → first_shown (placed_in q) (things_of d) ≡ Some r → 1 ≤ tot (cells q) (things_of d)
    live_then q r e = by (tot (λ x. told ones (placed_in q x)) (things_of d)) refl
      where
        by : (m : ℕ) → tot (λ x. told ones (placed_in q x)) (things_of d) ≡ m → 1 ≤ tot (cells q) (things_of d)
        by zero w = absurd (cc (sym e ∙ none_first (placed_in q) (things_of d) w))
        by (suc m) w = omega (arith, w, placed_cells q d)

    live_before : (q : ObjNo) (r : Plain × Place) → first_shown (placed_in q) (things_of k) ≡ Some r → 1 ≤ tot (cells q) (things_of k)
    live_before q r e = by (tot (λ x. told ones (placed_in q x)) (things_of k)) refl
      where
        by : (m : ℕ) → tot (λ x. told ones (placed_in q x)) (things_of k) ≡ m → 1 ≤ tot (cells q) (things_of k)
        by zero w = absurd (cc (sym e ∙ none_first (placed_in q) (things_of k) w))
        by (suc m) w = omega (arith, w, placed_cells q k)

    landed : living_of (sight d) o ≡ Some (landing n new living_one)
    landed =
        living_is (sight d) o ∙ ap₂ (λ u m. option_map (as_living o u (some m)) (first_shown (placed_in o) (things_of d))) (word_told d words.after o (live_then o (plain_of c.value, Lies n) there) ∙ ap (λ u. Some u) words.its) (dropped_same o ∙ kept)
        ∙ ap (option_map (as_living o (Some new) false)) there
      where
        there : first_shown (placed_in o) (things_of d) ≡ Some (plain_of c.value, Lies n)
        there =
            placed_then o (Some (plain_of c.value, Lies n)) (λ g.
            let before : told g (first_shown (placed_in o) (things_of k)) ≡ g (plain_of c.value, Flies n) = ap (told g) was_placed in
            let shows : (r : Place) → told g (if_some (same_object c.object o) (plain_of c.value, r)) ≡ g (plain_of c.value, r) = (λ r. ap (λ b. told g (if_some b (plain_of c.value, r))) its_object) in
            omega (arith, before, shows (Flies n), shows (Lies n)))

    abbrev turned : Living → Living
    turned x = if is_object o x then landing n new x else x

    its_turn : option_map turned (living_of (sight k) o) ≡ living_of (sight d) o
    its_turn = ap (option_map turned) flying ∙ ap (λ b. Some (if b then landing n new living_one else living_one)) (objects.itself o) ∙ sym landed

    other_turn : (q : ObjNo) → same_object q o ≡ false → option_map turned (living_of (sight k) q) ≡ living_of (sight d) q
    other_turn q e =
        ap (option_map turned) (living_is (sight k) q) ∙ untouched (first_shown (placed_in q) (things_of k)) ∙ by (first_shown (placed_in q) (things_of k)) refl ∙ sym (living_is (sight d) q)
      where
        none : (r : Place) (g : Plain × Place → ℕ) → told g (if_some (same_object c.object q) (plain_of c.value, r)) ≡ 0
        none r g = ap (λ b. told g (if_some b (plain_of c.value, r))) (object_flip o q ∙ e)

        there : first_shown (placed_in q) (things_of d) ≡ first_shown (placed_in q) (things_of k)
        there = placed_then q (first_shown (placed_in q) (things_of k)) (λ g. omega (arith, none (Flies n) g, none (Lies n) g))

        as_before : Plain × Place → Living
        as_before r = as_living q (word (sight k) q) (some (tot (dropped_by q) (things_of k))) r

        untouched : (r : Option (Plain × Place)) → option_map turned (option_map as_before r) ≡ option_map as_before r
        untouched None = refl
        untouched (Some r) = ap (λ b. Some (if b then landing n new (as_before r) else as_before r)) e

        apart : q ≡ o → ⊥
        apart h = cc (sym e ∙ subst (λ j. same_object j o ≡ true) (sym h) (objects.itself o))

        by : (r : Option (Plain × Place)) → first_shown (placed_in q) (things_of k) ≡ r → option_map as_before r ≡ option_map (as_living q (word (sight d) q) (some (tot (dropped_by q) (things_of d)))) (first_shown (placed_in q) (things_of d))
        by None h = sym (ap (option_map (as_living q (word (sight d) q) (some (tot (dropped_by q) (things_of d))))) (there ∙ h))
        by (Some r) h =
            let live_d = live_then q r (there ∙ h) in
            let same : word (sight k) q ≡ word (sight d) q = word_told k words.before q (live_before q r h) ∙ ap (λ u. Some u) (sym (words.others q apart live_d)) ∙ sym (word_told d words.after q live_d) in
            ap₂ (λ u m. Some (as_living q u (some m) r)) same (sym (dropped_same q)) ∙ sym (ap (option_map (as_living q (word (sight d) q) (some (tot (dropped_by q) (things_of d))))) (there ∙ h))

    objects_turn : (q : ObjNo) → option_map turned (living_of (sight k) q) ≡ living_of (sight d) q
    objects_turn q = by (same_object q o) refl
      where
        by : (b : Bool) → same_object q o ≡ b → option_map turned (living_of (sight k) q) ≡ living_of (sight d) q
        by true e = subst (λ j. option_map turned (living_of (sight k) j) ≡ living_of (sight d) j) (sym (objects.tells q o e)) its_turn
        by false e = other_turn q e

    -- WORDS AFTERWARDS

    -- the words as told before, but for the object's
    abbrev told_word : ObjNo → ℕ
    told_word q = if same_object q o then new else words.before.word q

    told_then : (q : ObjNo) → 1 ≤ tot (cells q) (things_of d) → words.after.word q ≡ told_word q
    told_then q m = by (same_object q o) refl
      where
        by : (b : Bool) → same_object q o ≡ b → words.after.word q ≡ (if b then new else words.before.word q)
        by true e = ap words.after.word (objects.tells q o e) ∙ words.its
        by false e = words.others q (λ h. cc (sym e ∙ subst (λ j. same_object j o ≡ true) (sym h) (objects.itself o))) m

    -- in the first cluster it flies, so no address has its word
    told_before : (r b : ℕ) (e : Cell) → Among (lies r b e) (things_of k) → told_word e.object ≡ words.before.word e.object
    told_before r b e h = by (same_object e.object o) refl
      where
        lying : Thing → ℕ
        lying (lies r b e) = one (same_object e.object o)
        lying _ = 0

        flown : Thing → ℕ
        flown (flies u e) = one (same_object e.object o)
        flown _ = 0

        both_less : (x : Thing) → lying x + flown x ≤ cells o x
        both_less (lies r b e) = omega arith
        both_less (flies u e) = omega arith
        both_less _ = omega arith

        by : (b : Bool) → same_object e.object o ≡ b → (if b then new else words.before.word e.object) ≡ words.before.word e.object
        by false q = refl
        by true q =
            let one_lies : 1 ≤ tot lying (things_of k) = (let m = has_weight lying (lies r b e) (things_of k) h in let w : one (same_object e.object o) ≡ 1 = ap one q in omega (arith, m, w)) in
            let one_flies : 1 ≤ tot flown (things_of k) = (let w : one (same_object c.object o) ≡ 1 = ap one its_object in omega (arith, w, message_there k number s here i (message.Moved old c t) at flown)) in
            absurd (omega (arith, one_lies, one_flies, few, two_at_most lying flown (cells o) both_less (things_of k)))

    abbrev colours : ℕ
    colours = k.options.colours

    issued_plainly : (v : ℕ) → Plainly (issued_by told_word colours v)
    issued_plainly v r b e u same = refl

    -- the words at the address before: below the next colour
    free_issued : (v : ℕ) → tot (issued_by told_word colours v) (taken_place n p.free) ≡ one (is_spot n a v && nat_lt (colour_of v) (colour_of new))
    free_issued v = by p.free parts.0
      where
        by : (fl : List (ℕ × ℕ)) → colour_of new ≡ (picked fl (length p.cells)).1 → tot (issued_by told_word colours v) (taken_place n fl) ≡ one (is_spot n (picked fl (length p.cells)).0 v && nat_lt (colour_of v) (colour_of new))
        by [] e = sym (ap (λ j. one (is_spot n (length p.cells) v && nat_lt (colour_of v) j)) e ∙ none (is_spot n (length p.cells) v) (nat_lt (colour_of v) 0) refl)
          where
            none : (b j : Bool) → nat_lt (colour_of v) 0 ≡ j → one (b && j) ≡ 0
            none true true q = absurd (grind (arith, nat_tests, q))
            none true false q = refl
            none false j q = refl
        by (pair ∷ rest) e = let q : one (is_spot n pair.0 v && nat_lt (colour_of v) pair.1) ≡ one (is_spot n pair.0 v && nat_lt (colour_of v) (colour_of new)) = ap (λ j. one (is_spot n pair.0 v && nat_lt (colour_of v) j)) (sym e) in omega (arith, q)

    words_turn : (v : ℕ) → (new == v) || issued (sight k) v ≡ issued (sight d) v
    words_turn v =
        ap (λ b. (new == v) || b) (issued_told k words.before v) ∙ sym (some_or (new == v) (tot (issued_by words.before.word colours v) (things_of k))) ∙ ap some (sym count) ∙ sym (issued_told d words.after v)
      where
        in_k : tot (issued_by told_word colours v) (things_of k) ≡ tot (issued_by words.before.word colours v) (things_of k)
        in_k = among_same (issued_by told_word colours v) (issued_by words.before.word colours v) (things_of k) each
          where
            each : (x : Thing) → Among x (things_of k) → issued_by told_word colours v x ≡ issued_by words.before.word colours v x
            each (lies r b e) h = ap (λ u. one (is_spot r b v && colour_up_to (Some u) v)) (told_before r b e h)
            each _ h = refl

        in_d : tot (issued_by words.after.word colours v) (things_of d) ≡ tot (issued_by told_word colours v) (things_of d)
        in_d = among_same (issued_by words.after.word colours v) (issued_by told_word colours v) (things_of d) each
          where
            each : (x : Thing) → Among x (things_of d) → issued_by words.after.word colours v x ≡ issued_by told_word colours v x
            each (lies r b e) h =
                let w : one (same_object e.object e.object) ≡ 1 = ap one (objects.itself e.object) in
                let m = has_weight (cells e.object) (lies r b e) (things_of d) h in
                ap (λ u. one (is_spot r b v && colour_up_to (Some u) v)) (told_then e.object (omega (arith, w, m)))
            each _ h = refl

        same_limit : tot (issued_by words.after.word d.options.colours v) (things_of d) ≡ tot (issued_by words.after.word colours v) (things_of d)
        same_limit = ap (λ q. tot (issued_by words.after.word q.colours v) (things_of d)) f.options

        its : issued_by told_word colours v (lies n a c) ≡ one (is_spot n a v && nat_le (colour_of v) (colour_of new))
        its = ap (λ b. one (is_spot n a v && colour_up_to (Some (if b then new else words.before.word o)) v)) its_object

        count : tot (issued_by words.after.word d.options.colours v) (things_of d) ≡ one (new == v) + tot (issued_by words.before.word colours v) (things_of k)
        count =
            omega (
              arith,
              same_limit,
              in_d,
              in_k,
              f.things (issued_by told_word colours v) (issued_seen told_word colours v),
              split (issued_by told_word colours v),
              l.alike (issued_by told_word colours v) (issued_plainly v),
              its,
              free_issued v,
              up_to_word n a new v parts.1 parts.2,
            )

    -- THE ANSWERS

    even : (g : Thing → ℕ) → ((r b m : ℕ) → g (vacant r b m) ≡ 0) → ((r b : ℕ) (e : Cell) → g (lies r b e) ≡ 0) → g (sent n (message.Moved old c t)) ≡ 0 → g (flies old c) ≡ 0 → g (stands n false y) ≡ g (stands n false z2) → tot g olds ≡ tot g news
    even g v li m w same = let b = same_but g v li in omega (arith, b.0, b.1, m, w, same)

    agrees : Agrees (taking o n new (answers_of (sight k))) (answers_of (sight d))
    agrees =
        let started = started_still k d olds news sound f (λ r j. even (started_at r j) (λ e g m. refl) (λ e g h. refl) refl refl refl) in
        let running : (u : ℕ) → running_of (sight k) u ≡ running_of (sight d) u =
        (λ u. running_still k d olds news sound f (λ q. even (is_thread q) (λ e g m. refl) (λ e g h. refl) refl refl (threads_same q)) u (λ j. even (runs j u) (λ e g m. refl) (λ e g h. refl) refl refl (runs_same u j))) in record {
          object = objects_turn;
          copy = λ r v. copy_still k d olds news sound f r v (λ g. even (λ q. told g (copy_in r v q)) (λ e j m. refl) (λ e j h. refl) refl refl refl);
          served = λ b. served_still k d olds news sound f b (even (served_in b) (λ e j m. refl) (λ e j h. refl) refl refl refl);
          issued = words_turn;
          started = started;
          running = running;
          ended = ended_by k d started (λ u. ap is_none (running u));
          wishes = λ b. wishes_still k d olds news sound f b (even (wished_in b) (λ e j m. refl) (λ e j h. refl) refl refl refl);
          made = made_still k d olds news sound f (λ r j. even (made_at r j) (λ e g m. refl) (λ e g h. refl) refl refl refl);
          there = λ m e. there_still k d olds news sound f m (even (there_in m) (λ e j h. refl) (λ e j h. refl) refl refl refl) ∙ e;
          holder = λ m. holder_stays k d olds news sound f gifts m (λ g. even (λ q. told g (holder_by (sight k) m q)) (λ e j h. refl) (λ e j h. refl) refl refl (holds_same m g));
        }

    pub takes : LeadsOn k.options (silent n None (act.Take o old new ∷ [])) c0 d
    takes =
        let q0 = answers_of (sight k) in
        let h = fits (sight k) c0 is_coloured in
        let e = silent n None (act.Take o old new ∷ []) in
        let own : (server_of new == n) ≡ true = ap (λ u. u == n) parts.1 ∙ numbers.itself n in
        leads_on k.options n None (act.Take o old new ∷ []) c0 q0 (taking o n new q0) d h (server_there k sound number s here).0 tt
        (runs_one k.options e (act.Take o old new) c0 (taking o n new q0) (take_allowed k.options e c0 q0 o old new living_one h flying (numbers.itself old) refl (numbers.itself n) own low fresh)) agrees
