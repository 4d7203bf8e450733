-- An owned value that is let go: a box's object is condemned, and a mutex value or a task is let go.
use Rattle.std.proofs.Common.{◌≡◌, ⊎_elim, inl, ℕ, ◌+◌, ◌≤◌, ◌==◌, ◌&&◌, ◌||◌, not, Bool, true, false, if◌then◌else◌, List, [], ◌∷◌, ◌++◌, Option, Some, None, is_none, option_map, refl, sym, ap, ap₂, subst, ◌∙◌, arith, append-nil}
use Rattle.std.specs.Prelude.{◌%◌, ◌^◌}
use Rattle.law_words_ends.specs.Below.fr_base.declared.name.ObjNo.{ObjNo}
use Rattle.law_words_ends.specs.Below.fr_base.declared.label.Plain.{Plain}
use Rattle.law_words_ends.specs.Below.fr_base.declared.release.Released.{Released}
use Rattle.law_words_ends.specs.Below.fr_base.declared.release.Released.TheVariants as released
use Rattle.law_words_ends.specs.Below.global_addr.Words.{server_of}
use Rattle.law_words_ends.specs.Below.heap_partition.Plain.{plain_of}
use Rattle.law_words_ends.specs.Below.heap_partition.declared.value.BoxPtr.{BoxPtr}
use Rattle.law_words_ends.specs.Below.heap_partition.declared.value.Owned.{Owned}
use Rattle.law_words_ends.specs.Below.heap_partition.declared.value.Owned.TheVariants as owned
use Rattle.law_words_ends.specs.Below.server_msgs.declared.message.Message.{Message}
use Rattle.law_words_ends.specs.Below.server_msgs.declared.message.Message.TheVariants as message
use Rattle.law_words_ends.specs.Below.journal.declared.act.Act.{Act}
use Rattle.law_words_ends.specs.Below.journal.declared.act.Act.TheVariants as act
use Rattle.law_words_ends.specs.Below.server_model.Servers.{Server, Cluster, server_at}
use Rattle.law_words_ends.specs.Below.server_model.Work.{Work, note}
use Rattle.law_words_ends.specs.Below.server_model.Drop.{give_up}
use Rattle.law_words_ends.specs.Below.law_words_kept.Below.coloured_heap.Heap.{Place, Lies, Flies, Living, Coloured, is_object}
use Rattle.law_words_ends.proofs.Below.law_words_kept.Below.coloured_heap.ShownNames.{object_flip}
use Rattle.law_words_ends.specs.Below.coherent_memory.Names.{tot, one, other, some, same_object, boxes, Among}
use Rattle.law_words_ends.specs.Below.coherent_memory.Things.{Location, Spot, Thing, holds, lies, flies, sent, message_things, things_of}
use Rattle.law_words_ends.specs.Below.coherent_memory.Sight.{Pointer, location_of, pointers_in, taken_pointers, Sight, sight, word}
use Rattle.law_words_ends.specs.Below.coherent_memory.Weights.{cells, owners, is_thread}
use Rattle.law_words_ends.specs.Below.coherent_memory.Words.{IsStale, HasWords}
use Rattle.law_words_ends.specs.Below.coherent_memory.Requests.{home_of}
use Rattle.law_words_ends.specs.Below.coherent_memory.Naming.{threads, named_mutexes, started_at, made_at, zeroth_thread, zeroth_mutex, uncounted_thread, uncounted_mutex}
use Rattle.law_words_ends.specs.Below.coherent_memory.OneHeap.{or_else, first_shown, is_given_thread, is_given_mutex}
use Rattle.law_words_ends.specs.Below.coherent_memory.Colours.{StandsColoured, living_of, running_of}
use Rattle.law_words_ends.specs.Below.coherent_memory.Coherent.{IsSound}
use Rattle.law_words_ends.proofs.Below.coherent_memory.Names.{and_left, and_right, same_number}
use Rattle.law_words_ends.proofs.Below.coherent_memory.Words.{named}
use Rattle.law_words_ends.proofs.Below.law_words_paths.paths.Origins.{among_first}
use Rattle.law_words_ends.proofs.Below.law_words_kept.reads.Flights.{found, truly}
use Rattle.law_words_ends.specs.Below.law_words_paths.words.Unmoved.{WordsStay}
use Rattle.law_words_ends.proofs.Below.law_words_paths.words.Standing.{pointers_among}
use Rattle.law_words_ends.proofs.Below.law_counts_sums.Trades.{tot-append}
use Rattle.law_words_ends.proofs.Below.law_heap_still.events.Tests.{numbers, objects}
use Rattle.law_words_ends.proofs.Below.law_heap_still.events.Told.{told, ones}
use Rattle.law_entries_variables.specs.deliveries.Entries.{LeadsOn}
use Rattle.law_entries_variables.proofs.deliveries.Answers.{Agrees, answers_of, fits, condemning, condemn_allowed, let_go_allowed}
use Rattle.law_entries_variables.proofs.deliveries.Weighed.{Bare, WorkTurns, sends}
use Rattle.law_entries_variables.proofs.deliveries.Carried.{cluster_less, is_sent}
use Rattle.law_entries_variables.proofs.deliveries.Shown.{if_some, placed_in, dropped_by, as_living, living_is, copy_in, served_in, wished_in, runs, holder_by, there_in}
use Rattle.law_entries_variables.proofs.deliveries.Live.{issued_by, dropped_seen, placed_after, living_still as living_stays, word_kept, word_told}
use Rattle.law_entries_variables.proofs.deliveries.After.{Follows, Keeps, copy_still, served_still, issued_still, started_still, running_still, ended_by, wishes_still, made_still, there_less, holder_still}
use Rattle.law_entries_variables.proofs.deliveries.Runs.{silent, runs_one, leads_on}
use Rattle.law_entries_variables.proofs.deliveries.Applied.{server_there}
use Rattle.law_entries_variables.proofs.deliveries.Quiet.{Quietly, quiet_agrees, quiet_leads}
use Rattle.law_entries_variables.proofs.deliveries.Changed.{AreThere, notes}

-- A BOX IN A PLACE THAT NO REFERENCE IS MADE FROM

abbrev own_box : ObjNo → Thing → ℕ
own_box o (holds p v) = boxes o v
own_box o (lies r a c) = boxes o c.value
own_box o (flies w c) = boxes o c.value
own_box o x = 0

owned_split : (o : ObjNo) (b : List Thing) → tot (owners o) b ≡ tot (own_box o) b + tot (dropped_by o) b
owned_split o [] = refl
owned_split o (x ∷ b) = omega (arith, by x, owned_split o b)
  where
    by : (x : Thing) → owners o x ≡ own_box o x + dropped_by o x
    by (holds p v) = omega arith
    by (lies r a c) = omega arith
    by (flies w c) = omega arith
    by (sent r m) = omega arith
    by _ = refl

-- that box, in such a place
abbrev boxed_as : BoxPtr → Owned → Bool
boxed_as b (owned.Box p) = (p.word == b.word) && same_object p.object b.object
boxed_as b v = false

abbrev held_loosely : BoxPtr → Thing → ℕ
held_loosely b (holds p v) = one (is_none (location_of p) && boxed_as b v)
held_loosely b x = 0

one_shown : (q : Bool) (x : Plain × Place) → told ones (if_some q x) ≡ one q
one_shown true x = refl
one_shown false x = refl

-- an object has as many cells at most as it is shown
module _ (o : ObjNo) where
  abbrev shown_once : Thing → ℕ
  shown_once x = told ones (placed_in o x)

  each_cell : (x : Thing) → is_sent x ≡ false → cells o x ≤ shown_once x
  each_cell (lies r a c) e = let z = one_shown (same_object c.object o) (plain_of c.value, Lies r) in omega (arith, z)
  each_cell (flies w c) e = absurd (cc e)
  each_cell (sent r m) e = absurd (cc e)
  each_cell _ e = omega arith

  message_cell : (n : ℕ) (m : Message) → Bare m → tot (cells o) (message_things n m) ≤ tot shown_once (message_things n m)
  message_cell n (message.Moved w c t) b = let z = one_shown (same_object c.object o) (plain_of c.value, Flies n) in omega (arith, z)
  message_cell n (message.Start t) b = absurd b
  message_cell n (message.Migrate t) b = absurd b
  message_cell n (message.Granted m v t) b = omega arith
  message_cell n (message.Unlock m v) b = omega arith
  message_cell n (message.Joined u v t) b = omega arith
  message_cell n (message.Finished u v) b = omega arith
  message_cell n _ b = omega arith

  cells_shown : (k : Cluster) → tot (cells o) (things_of k) ≤ tot (λ x. told ones (placed_in o x)) (things_of k)
  cells_shown k = cluster_less (cells o) shown_once each_cell message_cell (λ n t. omega arith) (λ n t. omega arith) k

-- a live object is somewhere
placed_somewhere : (k : Cluster) (o : ObjNo) → 1 ≤ tot (cells o) (things_of k) → (p : Plain × Place) × (first_shown (placed_in o) (things_of k) ≡ Some p)
placed_somewhere k o l = by (first_shown (placed_in o) (things_of k)) refl
  where
    none_told : (b : List Thing) → first_shown (placed_in o) b ≡ None → tot (λ x. told ones (placed_in o x)) b ≡ 0
    none_told [] e = refl
    none_told (x ∷ b) e = two (placed_in o x) e (none_told b)
      where
        two : (q : Option (Plain × Place)) → or_else q (first_shown (placed_in o) b) ≡ None → (first_shown (placed_in o) b ≡ None → tot (λ x. told ones (placed_in o x)) b ≡ 0) → told ones q + tot (λ x. told ones (placed_in o x)) b ≡ 0
        two None e go = omega (arith, go e)
        two (Some v) e go = absurd (cc e)

    by : (q : Option (Plain × Place)) → first_shown (placed_in o) (things_of k) ≡ q → (p : Plain × Place) × (first_shown (placed_in o) (things_of k) ≡ Some p)
    by None e = absurd (omega (arith, l, cells_shown o k, none_told (things_of k) e))
    by (Some p) e = (p, e)

module _ (k : Cluster) (sound : IsSound k) (p : Spot) (b : BoxPtr) (rest : List Thing) (there : AreThere k (holds p (owned.Box b) ∷ rest)) where
  abbrev o : ObjNo
  o = b.object

  abbrev before : HasWords (sight k)
  before = sound.words.have_words

  own_one : 1 ≤ tot (own_box o) (things_of k)
  own_one = let mine : one (same_object b.object o) ≡ 1 = ap one (objects.itself o) in omega (arith, mine, there (own_box o))

  live : 1 ≤ tot (cells o) (things_of k)
  live = let same : tot (owners o) (things_of k) ≡ tot (cells o) (things_of k) = sound.one_owner.owner_of_each o in let l = own_one in omega (arith, l, same, owned_split o (things_of k))

  undropped : tot (dropped_by o) (things_of k) ≡ 0
  undropped =
      let same : tot (owners o) (things_of k) ≡ tot (cells o) (things_of k) = sound.one_owner.owner_of_each o in
      let few : tot (cells o) (things_of k) ≤ 1 = sound.one_home.home_of_each o in
      let l = own_one in
      omega (arith, l, few, same, owned_split o (things_of k))

  pub place_of : (q : Plain × Place) × (first_shown (placed_in o) (things_of k) ≡ Some q)
  place_of = placed_somewhere k o live

  abbrev it : Bool → Living
  it condemned = as_living o (Some b.word) condemned (place_of.0)

  -- where that box has its object's word
  module _ (named_so : before.word o ≡ b.word) where
    shown : word (sight k) o ≡ Some b.word
    shown = word_told k before o live ∙ ap (λ w. Some w) named_so

    pub lives_so : living_of (sight k) o ≡ Some (it false)
    lives_so =
        living_is (sight k) o ∙ ap₂ (λ w n. option_map (as_living o w (some n)) (first_shown (placed_in o) (things_of k))) shown undropped ∙ ap (option_map (as_living o (Some b.word) false)) (place_of.1)

    -- afterwards it is condemned, and nothing else
    module _ (c : Cluster) (olds news : List Thing) (f : Follows k c olds (news ++ sent (server_of b.word) (message.Drop b.word b.object) ∷ [])) (words : (h : HasWords (sight k)) → WordsStay (sight k) (sight c) h)
        (placed : (q : ObjNo) (g : Plain × Place → ℕ) → tot (λ x. told g (placed_in q x)) olds ≡ tot (λ x. told g (placed_in q x)) news) (drops : (q : ObjNo) → tot (dropped_by q) olds ≡ tot (dropped_by q) news) where
      abbrev gone : Thing
      gone = sent (server_of b.word) (message.Drop b.word b.object)

      abbrev all : List Thing
      all = news ++ gone ∷ []

      placed_same : (q : ObjNo) (g : Plain × Place → ℕ) → tot (λ x. told g (placed_in q x)) olds ≡ tot (λ x. told g (placed_in q x)) all
      placed_same q g = omega (arith, placed q g, tot-append (λ x. told g (placed_in q x)) news (gone ∷ []))

      drops_more : (q : ObjNo) → tot (dropped_by q) all ≡ tot (dropped_by q) olds + one (same_object b.object q)
      drops_more q = omega (arith, drops q, tot-append (dropped_by q) news (gone ∷ []))

      stay : WordsStay (sight k) (sight c) before
      stay = words before

      there_then : first_shown (placed_in o) (things_of c) ≡ Some (place_of.0)
      there_then = placed_after k c olds all f.things sound.one_home.home_of_each before stay o (Some (place_of.0)) (λ g. let e : told g (first_shown (placed_in o) (things_of k)) ≡ told g (Some (place_of.0)) = ap (told g) (place_of.1) in omega (arith, e, placed_same o g))

      word_then : word (sight c) o ≡ Some b.word
      word_then = word_kept k c olds all f.things sound.one_home.home_of_each before stay o (place_of.0) (place_of.0) (place_of.1) there_then ∙ shown

      condemned_then : living_of (sight c) o ≡ Some (it true)
      condemned_then =
          let u = undropped in
          let mine : one (same_object b.object o) ≡ 1 = ap one (objects.itself o) in
          let count : tot (dropped_by o) (things_of c) ≡ 1 = omega (arith, f.things (dropped_by o) (dropped_seen o), drops_more o, u, mine) in
          living_is (sight c) o ∙ ap₂ (λ w n. option_map (as_living o w (some n)) (first_shown (placed_in o) (things_of c))) word_then count ∙ ap (option_map (as_living o (Some b.word) true)) there_then

      abbrev marked : Living → Living
      marked x = if is_object o x then record x { is_condemned = true } else x

      pub living_so : (q : ObjNo) → option_map marked (living_of (sight k) q) ≡ living_of (sight c) q
      living_so q = by (same_object b.object q) refl
        where
          object_so : (s : Sight) → (x : Living) → living_of s q ≡ Some x → x.object ≡ q
          object_so s x e = of (first_shown (placed_in q) s.things) (sym (living_is s q) ∙ e)
            where
              of : (z : Option (Plain × Place)) → option_map (as_living q (word s q) (some (tot (dropped_by q) s.things))) z ≡ Some x → x.object ≡ q
              of None d = absurd (cc d)
              of (Some z) d = let same : as_living q (word s q) (some (tot (dropped_by q) s.things)) z ≡ x = cc in ap (λ (y : Living). y.object) (sym same)

          unmarked : same_object b.object q ≡ false → (z : Option Living) → living_of (sight k) q ≡ z → option_map marked z ≡ z
          unmarked e None d = refl
          unmarked e (Some x) d = ap (λ t. Some (if t then record x { is_condemned = true } else x)) (ap (λ i. same_object i o) (object_so (sight k) x d) ∙ object_flip q o ∙ e)

          by : (t : Bool) → same_object b.object q ≡ t → option_map marked (living_of (sight k) q) ≡ living_of (sight c) q
          by false e =
              let none : one (same_object b.object q) ≡ 0 = ap one e in
              unmarked e (living_of (sight k) q) refl ∙ living_stays k c olds all f.things sound.one_home.home_of_each before stay q (placed_same q) (omega (arith, drops_more q, none))
          by true e =
              let same : o ≡ q = named o q e in
              subst (λ i. option_map marked (living_of (sight k) i) ≡ living_of (sight c) i) same
              (ap (option_map marked) lives_so ∙ ap (λ t. Some (if t then it true else it false)) (objects.itself o) ∙ sym condemned_then)

-- a box that stands in no place has its object's word
module _ (k : Cluster) (sound : IsSound k) (p : Spot) (loose : location_of p ≡ None) (b : BoxPtr) (rest : List Thing) (there : AreThere k (holds p (owned.Box b) ∷ rest)) where
  its_word : sound.words.have_words.word b.object ≡ b.word
  its_word = by f.0 f.1 f.2
    where
      mine : held_loosely b (holds p (owned.Box b)) ≡ 1
      mine = ap (λ l. one (is_none l && ((b.word == b.word) && same_object b.object b.object))) loose ∙ ap₂ (λ i j. one (i && j)) (numbers.itself b.word) (objects.itself b.object)

      f : (x : Thing) × Among x (things_of k) × (1 ≤ held_loosely b x)
      f = found (held_loosely b) (things_of k) (omega (arith, mine, there (held_loosely b)))

      none_is : (l : Option Location) → is_none l ≡ true → l ≡ None
      none_is None e = refl
      none_is (Some x) e = absurd (cc e)

      by : (x : Thing) → Among x (things_of k) → 1 ≤ held_loosely b x → sound.words.have_words.word b.object ≡ b.word
      by (holds r (owned.Box d)) m l =
          let all : (is_none (location_of r) && ((d.word == b.word) && same_object d.object b.object)) ≡ true = truly (is_none (location_of r) && ((d.word == b.word) && same_object d.object b.object)) l in
          let free : location_of r ≡ None = none_is (location_of r) (and_left (is_none (location_of r)) ((d.word == b.word) && same_object d.object b.object) all) in
          let both = and_right (is_none (location_of r)) ((d.word == b.word) && same_object d.object b.object) all in
          let word_so : d.word ≡ b.word = same_number d.word b.word (and_left (d.word == b.word) (same_object d.object b.object) both) in
          let object_so : d.object ≡ b.object = named d.object b.object (and_right (d.word == b.word) (same_object d.object b.object) both) in
          let q : Pointer = record { at = location_of r; word = d.word; object = d.object } in
          let among = among_first q (pointers_in (things_of k)) (taken_pointers (sight k).code (sight k).ground (sight k).ground.threads) (pointers_among q (holds r (owned.Box d)) (things_of k) m (inl refl)) in
          ⊎_elim (λ (h : IsStale (sight k) (location_of r)). absurd (subst (IsStale (sight k)) free h)) (λ (h : d.word ≡ sound.words.have_words.word d.object). ap sound.words.have_words.word (sym object_so) ∙ sym h ∙ word_so) (sound.words.have_words.same q among)
      by (holds r _) m l = absurd (one_none (is_none (location_of r)) l)
        where
          one_none : (c : Bool) → 1 ≤ one (c && false) → ⊥
          one_none true l = absurd (omega (arith, l))
          one_none false l = absurd (omega (arith, l))
      by _ m l = absurd (omega (arith, l))

  abbrev pub at_place : (q : Plain × Place) × (first_shown (placed_in b.object) (things_of k) ≡ Some q)
  at_place = place_of k sound p b rest there

  pub lives : living_of (sight k) b.object ≡ Some (as_living b.object (Some b.word) false (at_place.0))
  lives = lives_so k sound p b rest there its_word

  -- afterwards it is condemned, and nothing else
  pub living_then : (c : Cluster) (olds news : List Thing) → Follows k c olds (news ++ sent (server_of b.word) (message.Drop b.word b.object) ∷ []) → Keeps k c
      → ((q : ObjNo) (g : Plain × Place → ℕ) → tot (λ x. told g (placed_in q x)) olds ≡ tot (λ x. told g (placed_in q x)) news) → ((q : ObjNo) → tot (dropped_by q) olds ≡ tot (dropped_by q) news)
      → (q : ObjNo) → option_map (λ (x : Living). if is_object b.object x then record x { is_condemned = true } else x) (living_of (sight k) q) ≡ living_of (sight c) q
  living_then c olds news f keeps placed drops = living_so k sound p b rest there its_word c olds news f keeps.words placed drops

-- WHAT IS LET GO

-- what a value that is let go sends, and its act
abbrev pub give_news : Owned → List Thing
give_news (owned.Box p) = sent (server_of p.word) (message.Drop p.word p.object) ∷ []
give_news (owned.Mutex m) = sent m.home (message.Release (released.Mutex m)) ∷ []
give_news (owned.Task t) = sent (home_of t) (message.Release (released.Task t)) ∷ []
give_news v = []

abbrev pub give_acts : Owned → List Act
give_acts (owned.Box p) = act.Condemn p.object p.word ∷ []
give_acts (owned.Mutex m) = act.LetGo (released.Mutex m) ∷ []
give_acts (owned.Task t) = act.LetGo (released.Task t) ∷ []
give_acts v = []

same_turns : (x : Work) (olds news : List Thing) (acts : List Act) (y : Work) → WorkTurns x olds news acts y → WorkTurns x olds (news ++ []) (acts ++ []) y
same_turns x olds news acts y w = record { number = w.number; noted = w.noted ∙ ap (λ l. x.acts ++ l) (sym (append-nil acts)); labels = w.labels; things = λ f h. omega (arith, w.things f h, tot-append f news []) }

pub gives_turns : (x : Work) (olds news : List Thing) (acts : List Act) (y : Work) (v : Owned) → WorkTurns x olds news acts y → WorkTurns x olds (news ++ give_news v) (acts ++ give_acts v) (give_up v y)
gives_turns x olds news acts y (owned.Box p) w =
    sends x olds news (acts ++ act.Condemn p.object p.word ∷ []) (note (act.Condemn p.object p.word) y) (server_of p.word) (message.Drop p.word p.object) (notes x olds news acts y (act.Condemn p.object p.word) w)
gives_turns x olds news acts y (owned.Mutex m) w =
    sends x olds news (acts ++ act.LetGo (released.Mutex m) ∷ []) (note (act.LetGo (released.Mutex m)) y) m.home (message.Release (released.Mutex m)) (notes x olds news acts y (act.LetGo (released.Mutex m)) w)
gives_turns x olds news acts y (owned.Task t) w =
    sends x olds news (acts ++ act.LetGo (released.Task t) ∷ []) (note (act.LetGo (released.Task t)) y) (home_of t) (message.Release (released.Task t)) (notes x olds news acts y (act.LetGo (released.Task t)) w)
gives_turns x olds news acts y owned.Nothing w = same_turns x olds news acts y w
gives_turns x olds news acts y owned.Unit w = same_turns x olds news acts y w
gives_turns x olds news acts y (owned.Int i) w = same_turns x olds news acts y w

-- beside a message that the coloured heap doesn't see
appended : (k : Cluster) (olds news : List Thing) (n : ℕ) (x : Released) → Quietly k olds news → Quietly k olds (news ++ sent n (message.Release x) ∷ [])
appended k olds news n r q =
    let xs : List Thing = sent n (message.Release r) ∷ [] in record {
      objects = λ o g. omega (arith, q.objects o g, tot-append (λ x. told g (placed_in o x)) news xs);
      drops = λ o. omega (arith, q.drops o, tot-append (dropped_by o) news xs);
      copies = λ i w g. omega (arith, q.copies i w g, tot-append (λ x. told g (copy_in i w x)) news xs);
      served = λ a. omega (arith, q.served a, tot-append (served_in a) news xs);
      issued = λ h i w. omega (arith, q.issued h i w, tot-append (issued_by h i w) news xs);
      started = λ s i. omega (arith, q.started s i, tot-append (started_at s i) news xs);
      made = λ s i. omega (arith, q.made s i, tot-append (made_at s i) news xs);
      threads = λ t. omega (arith, q.threads t, tot-append (is_thread t) news xs);
      running = λ t g. omega (arith, q.running t g, tot-append (runs g t) news xs);
      wishes = λ a. omega (arith, q.wishes a, tot-append (wished_in a) news xs);
      there = λ m. omega (arith, q.there m, tot-append (there_in m) news xs);
      holders = λ m g. omega (arith, q.holders m g, tot-append (λ x. told g (holder_by (sight k) m x)) news xs);
    }

module _ (k : Cluster) (sound : IsSound k) (number : ℕ) (s : Server) (here : server_at k.servers number ≡ Some s) (c0 : Coloured) (is_coloured : StandsColoured k c0) (p : Spot) (loose : location_of p ≡ None) where
  nothing_goes : (c : Cluster) (olds news : List Thing) → Quietly k olds news → Follows k c olds (news ++ []) → Keeps k c → LeadsOn k.options (silent s.rest.number None []) c0 c
  nothing_goes c olds news q f keeps = quiet_leads k c number s olds news c0 sound here is_coloured (record { code = f.code; options = f.options; things = λ g h. omega (arith, f.things g h, tot-append g news []) }) keeps q

  -- an event that changes nothing else, and lets go of a value that stood in such a place, leads on
  pub gives_lead : (v : Owned) (rest : List Thing) → AreThere k (holds p v ∷ rest) → (c : Cluster) (olds news : List Thing) → Quietly k olds news → Follows k c olds (news ++ give_news v) → Keeps k c → LeadsOn k.options (silent s.rest.number None (give_acts v)) c0 c
  gives_lead (owned.Box b) rest there c olds news q f keeps =
      let n = s.rest.number in
      let q0 = answers_of (sight k) in
      let h = fits (sight k) c0 is_coloured in
      let acts = act.Condemn b.object b.word ∷ [] in
      let xs : List Thing = sent (server_of b.word) (message.Drop b.word b.object) ∷ [] in
      let all : List Thing = news ++ xs in
      let threads_same : (t : ℕ) → tot (is_thread t) olds ≡ tot (is_thread t) all = (λ t. omega (arith, q.threads t, tot-append (is_thread t) news xs)) in
      let started : (t : ℕ) → is_given_thread (sight k) t ≡ is_given_thread (sight c) t = started_still k c olds all sound f (λ r i. omega (arith, q.started r i, tot-append (started_at r i) news xs)) in
      let running : (t : ℕ) → running_of (sight k) t ≡ running_of (sight c) t = (λ t. running_still k c olds all sound f threads_same t (λ g. omega (arith, q.running t g, tot-append (runs g t) news xs))) in
      let agrees : Agrees (condemning b.object q0) (answers_of (sight c)) = record {
        object = living_then k sound p loose b rest there c olds news f keeps q.objects q.drops;
        copy = λ r w. copy_still k c olds all sound f r w (λ g. omega (arith, q.copies r w g, tot-append (λ x. told g (copy_in r w x)) news xs));
        served = λ a. served_still k c olds all sound f a (omega (arith, q.served a, tot-append (served_in a) news xs));
        issued = issued_still k c olds all sound f keeps (λ i j w. omega (arith, q.issued i j w, tot-append (issued_by i j w) news xs));
        started = started;
        running = running;
        ended = ended_by k c started (λ t. ap is_none (running t));
        wishes = λ a. wishes_still k c olds all sound f a (omega (arith, q.wishes a, tot-append (wished_in a) news xs));
        made = made_still k c olds all sound f (λ r i. omega (arith, q.made r i, tot-append (made_at r i) news xs));
        there = λ m. there_less k c olds all sound f m (omega (arith, q.there m, tot-append (there_in m) news xs));
        holder = λ m. holder_still k c olds all sound f keeps m (λ g. omega (arith, q.holders m g, tot-append (λ x. told g (holder_by (sight k) m x)) news xs));
      } in
      leads_on k.options n None acts c0 q0 (condemning b.object q0) c h (server_there k sound number s here).0 tt
      (runs_one k.options (silent n None acts) (act.Condemn b.object b.word) c0 (condemning b.object q0) (condemn_allowed k.options (silent n None acts) c0 q0 b.object b.word _ h (lives k sound p loose b rest there) (numbers.itself b.word) refl)) agrees
  gives_lead (owned.Mutex m) rest there c olds news q f keeps =
      let n = s.rest.number in
      let q0 = answers_of (sight k) in
      let h = fits (sight k) c0 is_coloured in
      let acts = act.LetGo (released.Mutex m) ∷ [] in
      leads_on k.options n None acts c0 q0 q0 c h (server_there k sound number s here).0 tt
      (runs_one k.options (silent n None acts) (act.LetGo (released.Mutex m)) c0 q0 (let_go_allowed k.options (silent n None acts) c0 q0 (released.Mutex m) h made)) (quiet_agrees k c olds (news ++ sent m.home (message.Release (released.Mutex m)) ∷ []) sound f keeps (appended k olds news m.home (released.Mutex m) q))
    where
      made : is_given_mutex (sight k) m ≡ true
      made =
          let counted : tot (threads (uncounted_thread (sight k))) (things_of k) + tot (named_mutexes (uncounted_mutex (sight k))) (things_of k) ≡ 0 = sound.names.names_counted in
          let zeroth : tot (threads zeroth_thread) (things_of k) + tot (named_mutexes zeroth_mutex) (things_of k) ≡ 0 = sound.names.counts_from_one in
          by (m.count == 0) (some (tot (made_at m.home m.count) (things_of k))) (omega (arith, zeroth, there (named_mutexes zeroth_mutex))) (omega (arith, counted, there (named_mutexes (uncounted_mutex (sight k)))))
        where
          by : (a d : Bool) → one a ≡ 0 → other d ≡ 0 → not a && d ≡ true
          by false true z e = refl
          by false false z e = absurd (cc e)
          by true d z e = absurd (cc z)
  gives_lead (owned.Task t) rest there c olds news q f keeps =
      let n = s.rest.number in
      let q0 = answers_of (sight k) in
      let h = fits (sight k) c0 is_coloured in
      let acts = act.LetGo (released.Task t) ∷ [] in
      leads_on k.options n None acts c0 q0 q0 c h (server_there k sound number s here).0 tt
      (runs_one k.options (silent n None acts) (act.LetGo (released.Task t)) c0 q0 (let_go_allowed k.options (silent n None acts) c0 q0 (released.Task t) h started)) (quiet_agrees k c olds (news ++ sent (home_of t) (message.Release (released.Task t)) ∷ []) sound f keeps (appended k olds news (home_of t) (released.Task t) q))
    where
      started : is_given_thread (sight k) t ≡ true
      started =
          let counted : tot (threads (uncounted_thread (sight k))) (things_of k) + tot (named_mutexes (uncounted_mutex (sight k))) (things_of k) ≡ 0 = sound.names.names_counted in
          let zeroth : tot (threads zeroth_thread) (things_of k) + tot (named_mutexes zeroth_mutex) (things_of k) ≡ 0 = sound.names.counts_from_one in
          by (t == 0) (t % 2 ^ 32 == 0) (some (tot (started_at (home_of t) (t % 2 ^ 32)) (things_of k))) (omega (arith, zeroth, there (threads zeroth_thread))) (omega (arith, counted, there (threads (uncounted_thread (sight k)))))
        where
          by : (a b d : Bool) → one (b && not a) ≡ 0 → other d ≡ 0 → a || (not b && d) ≡ true
          by true b d z e = refl
          by false true d z e = absurd (cc z)
          by false false true z e = refl
          by false false false z e = absurd (cc e)
  gives_lead owned.Nothing rest there c olds news q f keeps = nothing_goes c olds news q f keeps
  gives_lead owned.Unit rest there c olds news q f keeps = nothing_goes c olds news q f keeps
  gives_lead (owned.Int i) rest there c olds news q f keeps = nothing_goes c olds news q f keeps
