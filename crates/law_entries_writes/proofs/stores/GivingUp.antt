-- An owned value goes that stood in a slot or in a cell, once objects got words: a box's object is condemned under its word, and a mutex value or a task is let go.
use Rattle.std.proofs.Common.{◌≡◌, ⊎_elim, inl, ℕ, ◌+◌, ◌≤◌, ◌==◌, ◌&&◌, Bool, true, false, List, [], ◌∷◌, Option, Some, None, option_map, refl, sym, ap, ap₂, ◌∙◌, arith}
use Rattle.std.specs.Prelude.{⊤}
use Rattle.std.proofs.lemmas.Bool.{eq-eqb}
use Rattle.law_entries_reads.specs.Below.law_entries_variables.Below.law_words_ends.Below.fr_base.declared.name.ObjNo.{ObjNo}
use Rattle.law_entries_reads.specs.Below.law_entries_variables.Below.law_words_ends.Below.fr_base.declared.label.Plain.{Plain}
use Rattle.law_entries_reads.specs.Below.law_entries_variables.Below.law_words_ends.Below.fr_base.declared.release.Released.{Released}
use Rattle.law_entries_reads.specs.Below.law_entries_variables.Below.law_words_ends.Below.fr_base.declared.release.Released.TheVariants as released
use Rattle.law_entries_reads.specs.Below.law_entries_variables.Below.law_words_ends.Below.heap_partition.Plain.{plain_of}
use Rattle.law_entries_reads.specs.Below.law_entries_variables.Below.law_words_ends.Below.heap_partition.declared.value.BoxPtr.{BoxPtr}
use Rattle.law_entries_reads.specs.Below.law_entries_variables.Below.law_words_ends.Below.heap_partition.declared.value.Cell.{Cell}
use Rattle.law_entries_reads.specs.Below.law_entries_variables.Below.law_words_ends.Below.heap_partition.declared.value.Owned.{Owned}
use Rattle.law_entries_reads.specs.Below.law_entries_variables.Below.law_words_ends.Below.heap_partition.declared.value.Owned.TheVariants as owned
use Rattle.law_entries_reads.specs.Below.law_entries_variables.Below.law_words_ends.Below.thread_state.View.{ThreadState}
use Rattle.law_entries_reads.specs.Below.law_entries_variables.Below.law_words_ends.Below.server_msgs.declared.message.Message.{Message}
use Rattle.law_entries_reads.specs.Below.law_entries_variables.Below.law_words_ends.Below.server_msgs.declared.message.Message.TheVariants as message
use Rattle.law_entries_reads.specs.Below.law_entries_variables.Below.law_words_ends.Below.journal.View.{EntryView}
use Rattle.law_entries_reads.specs.Below.law_entries_variables.Below.law_words_ends.Below.journal.declared.act.Act.TheVariants as act
use Rattle.law_entries_reads.specs.Below.law_entries_variables.Below.law_words_ends.Below.server_model.Servers.{Cluster}
use Rattle.law_entries_reads.specs.Below.law_entries_variables.Below.law_words_ends.Below.server_model.Places.{owns_nothing}
use Rattle.law_entries_reads.specs.Below.law_entries_variables.Below.law_words_ends.Below.server_model.Drop.{home_of as task_home}
use Rattle.law_entries_reads.specs.Below.law_entries_variables.Below.law_words_ends.Below.global_addr.Words.{server_of}
use Rattle.law_entries_writes.specs.Below.law_entries_variables.Below.coloured_heap.Heap.{Place, Lies, Flies, Living, Coloured}
use Rattle.law_entries_reads.specs.Below.law_entries_variables.Below.law_words_ends.Below.coherent_memory.Names.{tot, one, some, boxes, same_object, Among}
use Rattle.law_entries_reads.specs.Below.law_entries_variables.Below.law_words_ends.Below.coherent_memory.Things.{Spot, Thing, holds, lies, flies, sent, stands, message_things, things_of}
use Rattle.law_entries_reads.specs.Below.law_entries_variables.Below.law_words_ends.Below.coherent_memory.Sight.{Pointer, pointers_in, taken_pointers, sight}
use Rattle.law_entries_reads.specs.Below.law_entries_variables.Below.law_words_ends.Below.coherent_memory.Naming.{threads, named_mutexes}
use Rattle.law_entries_reads.specs.Below.law_entries_variables.Below.law_words_ends.Below.coherent_memory.Weights.{cells, owners}
use Rattle.law_entries_reads.specs.Below.law_entries_variables.Below.law_words_ends.Below.coherent_memory.Words.{HasWords}
use Rattle.law_entries_reads.specs.Below.law_entries_variables.Below.law_words_ends.Below.coherent_memory.OneHeap.{or_else, first_shown}
use Rattle.law_entries_reads.specs.Below.law_entries_variables.Below.law_words_ends.Below.coherent_memory.Coherent.{IsSound}
use Rattle.law_entries_reads.proofs.Below.law_entries_variables.Below.law_words_ends.Below.coherent_memory.Names.{and_left, and_right, same_number}
use Rattle.law_entries_reads.proofs.Below.law_entries_variables.Below.law_words_ends.Below.coherent_memory.Words.{named as object_named}
use Rattle.law_entries_reads.proofs.Below.law_entries_variables.Below.law_words_ends.Below.law_words_paths.paths.Origins.{among_first}
use Rattle.law_entries_reads.proofs.Below.law_entries_variables.Below.law_words_ends.Below.law_words_kept.reads.Flights.{found, truly}
use Rattle.law_entries_reads.proofs.Below.law_entries_variables.Below.law_words_ends.Below.law_words_paths.words.Standing.{pointers_among}
use Rattle.law_entries_writes.proofs.Below.law_entries_variables.Below.law_heap_still.events.Tests.{numbers, objects}
use Rattle.law_entries_writes.proofs.Below.law_entries_variables.Below.law_heap_still.events.Told.{told, ones}
use Rattle.law_entries_writes.proofs.Below.law_entries_variables.deliveries.Answers.{Answers, answers_of, Fits, is_told, condemn_allowed, let_go_allowed}
use Rattle.law_entries_writes.proofs.Below.law_entries_variables.deliveries.Weighed.{Seen, Bare}
use Rattle.law_entries_writes.proofs.Below.law_entries_variables.deliveries.Carried.{cluster_less, is_sent}
use Rattle.law_entries_writes.proofs.Below.law_entries_variables.deliveries.Shown.{if_some, placed_in, dropped_by, as_living, living_is}
use Rattle.law_entries_writes.proofs.Below.law_entries_variables.deliveries.Live.{word_told}
use Rattle.law_entries_writes.proofs.Below.law_entries_variables.deliveries.GiveUp.{give_news, give_acts}
use Rattle.law_entries_writes.proofs.Below.law_entries_variables.deliveries.Changed.{AreThere}
use Rattle.law_entries_writes.proofs.Below.law_entries_variables.deliveries.Runs.{Runs, runs_none, runs_one}
use Rattle.law_entries_reads.proofs.Below.law_entries_variables.variables.Counts.{thread_given, mutex_given}
use Rattle.law_entries_writes.proofs.Below.law_entries_reads.asks.Recoloured.{NewWords, word_after, reworded_by, recoloured}
use Rattle.law_entries_writes.proofs.Below.law_entries_reads.asks.Agreeing.{Rewords}
use Rattle.law_entries_writes.proofs.walks.Weights.{Blind}
use Rattle.law_entries_writes.proofs.stores.Storing.{dropping, none_drops}
use Rattle.law_entries_writes.proofs.stores.Answering.{Told, told_none, told_release, told_drop}

-- WHERE IT STOOD, unless it owns nothing

pub data StoodIn (k : Cluster) (u : Owned) : Type 0 where
  in_place : (p : Spot) → AreThere k (holds p u ∷ []) → StoodIn k u
  in_a_cell : (r a : ℕ) (o : ObjNo) → AreThere k (lies r a (record { object = o; value = u }) ∷ []) → StoodIn k u
  owns_none : owns_nothing u ≡ true → StoodIn k u

-- the object whose pointer goes with it
abbrev pub given_of : Owned → Option ObjNo
given_of (owned.Box b) = Some b.object
given_of u = None

-- its message
pub given_told : (u : Owned) → Told (give_news u) (given_of u)
given_told (owned.Box b) = told_drop (server_of b.word) b.word b.object
given_told (owned.Mutex m) = told_release m.home (released.Mutex m)
given_told (owned.Task t) = told_release (task_home t) (released.Task t)
given_told owned.Nothing = told_none
given_told owned.Unit = told_none
given_told (owned.Int i) = told_none

-- ITS OBJECT

abbrev own_box : ObjNo → Thing → ℕ
own_box o (holds p v) = boxes o v
own_box o (lies r a c) = boxes o c.value
own_box o (flies w c) = boxes o c.value
own_box o x = 0

owned_split : (o : ObjNo) (b : List Thing) → tot (owners o) b ≡ tot (own_box o) b + tot (dropped_by o) b
owned_split o [] = refl
owned_split o (x ∷ b) = omega (arith, by x, owned_split o b)
  where
    by : (x : Thing) → owners o x ≡ own_box o x + dropped_by o x
    by (holds p v) = omega arith
    by (lies r a c) = omega arith
    by (flies w c) = omega arith
    by (sent r m) = omega arith
    by _ = refl

one_shown : (q : Bool) (x : Plain × Place) → told ones (if_some q x) ≡ one q
one_shown true x = refl
one_shown false x = refl

-- an object has as many cells at most as it is shown
module _ (o : ObjNo) where
  abbrev shown_once : Thing → ℕ
  shown_once x = told ones (placed_in o x)

  each_cell : (x : Thing) → is_sent x ≡ false → cells o x ≤ shown_once x
  each_cell (lies r a c) e = let z = one_shown (same_object c.object o) (plain_of c.value, Lies r) in omega (arith, z)
  each_cell (flies w c) e = absurd (cc e)
  each_cell (sent r m) e = absurd (cc e)
  each_cell _ e = omega arith

  message_cell : (n : ℕ) (m : Message) → Bare m → tot (cells o) (message_things n m) ≤ tot shown_once (message_things n m)
  message_cell n (message.Moved w c t) b = let z = one_shown (same_object c.object o) (plain_of c.value, Flies n) in omega (arith, z)
  message_cell n (message.Start t) b = absurd b
  message_cell n (message.Migrate t) b = absurd b
  message_cell n (message.Granted m v t) b = omega arith
  message_cell n (message.Unlock m v) b = omega arith
  message_cell n (message.Joined u v t) b = omega arith
  message_cell n (message.Finished u v) b = omega arith
  message_cell n _ b = omega arith

  cells_shown : (k : Cluster) → tot (cells o) (things_of k) ≤ tot (λ x. told ones (placed_in o x)) (things_of k)
  cells_shown k = cluster_less (cells o) shown_once each_cell message_cell (λ n t. omega arith) (λ n t. omega arith) k

-- a live object is somewhere
placed_somewhere : (k : Cluster) (o : ObjNo) → 1 ≤ tot (cells o) (things_of k) → (p : Plain × Place) × (first_shown (placed_in o) (things_of k) ≡ Some p)
placed_somewhere k o l = by (first_shown (placed_in o) (things_of k)) refl
  where
    none_told : (b : List Thing) → first_shown (placed_in o) b ≡ None → tot (λ x. told ones (placed_in o x)) b ≡ 0
    none_told [] e = refl
    none_told (x ∷ b) e = two (placed_in o x) e (none_told b)
      where
        two : (q : Option (Plain × Place)) → or_else q (first_shown (placed_in o) b) ≡ None → (first_shown (placed_in o) b ≡ None → tot (λ x. told ones (placed_in o x)) b ≡ 0) → told ones q + tot (λ x. told ones (placed_in o x)) b ≡ 0
        two None e go = omega (arith, go e)
        two (Some v) e go = absurd (cc e)

    by : (q : Option (Plain × Place)) → first_shown (placed_in o) (things_of k) ≡ q → (p : Plain × Place) × (first_shown (placed_in o) (things_of k) ≡ Some p)
    by None e = absurd (omega (arith, l, cells_shown o k, none_told (things_of k) e))
    by (Some p) e = (p, e)

-- THE WORD IN ITS MESSAGE

abbrev drop_of : BoxPtr → Thing → ℕ
drop_of b (sent r (message.Drop w p)) = one ((w == b.word) && same_object p b.object)
drop_of b x = 0

pub drop_seen : (b : BoxPtr) → Seen (drop_of b)
drop_seen b = record { held = λ p v. refl; shared = λ l q. refl; lent = λ l q. refl; flown = λ v c. refl; used = λ r v. refl; loose = λ u i o. refl; counted = λ r d q s o e. refl; unused = λ i d u. refl }

-- the message of a value that goes is there
abbrev pub IsSent : Cluster → Owned → Type 0
IsSent c (owned.Box b) = 1 ≤ tot (drop_of b) (things_of c)
IsSent c u = ⊤

-- it has the word that its object has then, as no place is a message's
drop_names : (c : Cluster) (after : HasWords (sight c)) (b : BoxPtr) → 1 ≤ tot (drop_of b) (things_of c) → after.word b.object ≡ b.word
drop_names c after b l = let f = found (drop_of b) (things_of c) l in by f.0 f.1 f.2
  where
    message_is : (r : ℕ) (m : Message) → Among (sent r m) (things_of c) → 1 ≤ drop_of b (sent r m) → after.word b.object ≡ b.word
    message_is r (message.Drop w p) m d =
        let both : ((w == b.word) && same_object p b.object) ≡ true = truly ((w == b.word) && same_object p b.object) d in
        let word_so : w ≡ b.word = same_number w b.word (and_left (w == b.word) (same_object p b.object) both) in
        let object_so : p ≡ b.object = object_named p b.object (and_right (w == b.word) (same_object p b.object) both) in
        let q : Pointer = record { at = None; word = w; object = p } in
        let among = among_first q (pointers_in (things_of c)) (taken_pointers (sight c).code (sight c).ground (sight c).ground.threads) (pointers_among q (sent r (message.Drop w p)) (things_of c) m (inl refl)) in
        ⊎_elim (λ h. absurd h) (λ (h : w ≡ after.word p). ap after.word (sym object_so) ∙ sym h ∙ word_so) (after.same q among)
    message_is r _ m d = absurd (omega (arith, d))

    by : (x : Thing) → Among x (things_of c) → 1 ≤ drop_of b x → after.word b.object ≡ b.word
    by (sent r m) h d = message_is r m h d
    by _ h d = absurd (omega (arith, d))

-- IT GOES

module _ (k c : Cluster) (sound : IsSound k) (l : NewWords) (words : Rewords k c l sound.words.have_words) (e : EntryView) (state : Coloured) (fits : Fits (recoloured l (answers_of (sight k))) state) where
  abbrev q : Answers
  q = recoloured l (answers_of (sight k))

  abbrev before : HasWords (sight k)
  before = sound.words.have_words

  -- a box's object is condemned
  box_goes : (b : BoxPtr) → 1 ≤ tot (own_box b.object) (things_of k) → 1 ≤ tot (drop_of b) (things_of c) → Runs k.options e (act.Condemn b.object b.word ∷ []) state (dropping (Some b.object) q)
  box_goes b stood told_it = runs_one k.options e (act.Condemn b.object b.word) state (dropping (Some b.object) q) (condemn_allowed k.options e state q b.object b.word (reworded_by l it) fits lives its_word refl)
    where
      o : ObjNo
      o = b.object

      same : tot (owners o) (things_of k) ≡ tot (cells o) (things_of k)
      same = sound.one_owner.owner_of_each o

      live : 1 ≤ tot (cells o) (things_of k)
      live = omega (arith, stood, same, owned_split o (things_of k))

      undropped : tot (dropped_by o) (things_of k) ≡ 0
      undropped = let few : tot (cells o) (things_of k) ≤ 1 = sound.one_home.home_of_each o in omega (arith, stood, few, same, owned_split o (things_of k))

      place : (p : Plain × Place) × (first_shown (placed_in o) (things_of k) ≡ Some p)
      place = placed_somewhere k o live

      it : Living
      it = as_living o (Some (before.word o)) false place.0

      lives : q.object o ≡ Some (reworded_by l it)
      lives =
          ap (option_map (reworded_by l)) (living_is (sight k) o ∙ ap₂ (λ w n. option_map (as_living o w (some n)) (first_shown (placed_in o) (things_of k))) (word_told k before o live) undropped ∙ ap (option_map (as_living o (Some (before.word o)) false)) place.1)

      its_word : ((reworded_by l it).word == b.word) ≡ true
      its_word = eq-eqb (word_after l o (before.word o)) b.word (sym (words.word o) ∙ drop_names c words.after b told_it)

  -- a mutex value, or a task
  let_go : (x : Released) → is_told q x ≡ true → Runs k.options e (act.LetGo x ∷ []) state (dropping None q)
  let_go x known = let a = let_go_allowed k.options e state q x fits known in runs_one k.options e (act.LetGo x) state (dropping None q) (record { allowed = a.allowed; fits = none_drops _ q a.fits })

  pub give_runs : (u : Owned) → StoodIn k u → IsSent c u → Runs k.options e (give_acts u) state (dropping (given_of u) q)
  give_runs (owned.Box b) (in_place p there) sent_it = box_goes b (let mine : one (same_object b.object b.object) ≡ 1 = ap one (objects.itself b.object) in omega (arith, mine, there (own_box b.object))) sent_it
  give_runs (owned.Box b) (in_a_cell r a o there) sent_it = box_goes b (let mine : one (same_object b.object b.object) ≡ 1 = ap one (objects.itself b.object) in omega (arith, mine, there (own_box b.object))) sent_it
  give_runs (owned.Mutex m) (in_place p there) sent_it = let_go (released.Mutex m) (mutex_given k sound m (λ f. let x = there (named_mutexes f) in omega (arith, x)))
  give_runs (owned.Mutex m) (in_a_cell r a o there) sent_it = let_go (released.Mutex m) (mutex_given k sound m (λ f. let x = there (named_mutexes f) in omega (arith, x)))
  give_runs (owned.Task t) (in_place p there) sent_it = let_go (released.Task t) (thread_given k sound t (λ f. let x = there (threads f) in omega (arith, x)))
  give_runs (owned.Task t) (in_a_cell r a o there) sent_it = let_go (released.Task t) (thread_given k sound t (λ f. let x = there (threads f) in omega (arith, x)))
  give_runs (owned.Box b) (owns_none z) sent_it = absurd (cc z)
  give_runs (owned.Mutex m) (owns_none z) sent_it = absurd (cc z)
  give_runs (owned.Task t) (owns_none z) sent_it = absurd (cc z)
  give_runs owned.Nothing there sent_it = runs_none k.options e state (dropping None q) (none_drops state q fits)
  give_runs owned.Unit there sent_it = runs_none k.options e state (dropping None q) (none_drops state q fits)
  give_runs (owned.Int i) there sent_it = runs_none k.options e state (dropping None q) (none_drops state q fits)

  -- or nothing goes
  pub none_goes : Runs k.options e [] state (dropping None q)
  none_goes = runs_none k.options e state (dropping None q) (none_drops state q fits)

-- the message is there where it came
drop_blind : (b : BoxPtr) → Blind (drop_of b)
drop_blind b = record { seen = drop_seen b; lying = λ r a f c d e g. refl; free = λ r a m. refl; left = λ r a. refl }

pub sent_there : (c : Cluster) (u : Owned) → ((f : Thing → ℕ) → Blind f → ((r : ℕ) (p : Bool) (x : ThreadState) → f (stands r p x) ≡ 0) → ((r a : ℕ) (d : Cell) → f (lies r a d) ≡ 0) → tot f (give_news u) ≤ tot f (things_of c)) → IsSent c u
sent_there c (owned.Box b) g =
    let mine : drop_of b (sent (server_of b.word) (message.Drop b.word b.object)) ≡ 1 = ap₂ (λ i j. one (i && j)) (numbers.itself b.word) (objects.itself b.object) in
    let x = g (drop_of b) (drop_blind b) (λ r p x. refl) (λ r a d. refl) in
    omega (arith, mine, x)
sent_there c (owned.Mutex m) g = tt
sent_there c (owned.Task t) g = tt
sent_there c owned.Nothing g = tt
sent_there c owned.Unit g = tt
sent_there c (owned.Int i) g = tt
