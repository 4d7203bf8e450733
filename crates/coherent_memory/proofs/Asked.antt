-- What a thread waits for is under its object's word: the message that asks for the object or brings it has that word.
use Rattle.std.proofs.Common.{◌≡◌, inl, inr, ⊎_elim, ◌≤◌, ℕ, zero, suc, ◌==◌, ◌&&◌, Bool, true, false, not, is_some, List, [], ◌∷◌, ◌++◌, if◌then◌else◌, Option, Some, None, refl, sym, ap, subst, ◌∙◌, arith}
use Rattle.server_model.specs.Below.fr_base.declared.name.ObjNo.{ObjNo}
use Rattle.server_model.specs.Below.heap_partition.declared.value.Cell.{Cell}
use Rattle.server_model.specs.Below.server_msgs.declared.message.Message.{Message}
use Rattle.server_model.specs.Below.server_msgs.declared.message.Message.TheVariants as message
use Rattle.server_model.specs.Servers.{Cluster}
use Rattle.server_model.specs.Below.thread_state.declared.phase.Phase.TheVariants as phase
use Rattle.coherent_memory.specs.Names.{tot, one, other, some, same_object, same_owned, same_cell, Among}
use Rattle.coherent_memory.specs.Things.{Thing, holds, flies, sent, things_of}
use Rattle.coherent_memory.specs.Follow.{Standing}
use Rattle.coherent_memory.specs.Sight.{Sight, Pointer, pointers_of, pointers_in, taken_pointers, is_object_among, word_of_object, is_word, cell_of_word, sight, word}
use Rattle.coherent_memory.specs.Placing.{unless_dirty, if_clean, clean_cell, other_cell, other_copy, unclean}
use Rattle.coherent_memory.specs.Weights.{lies_under}
use Rattle.coherent_memory.specs.Words.{Fresh}
use Rattle.coherent_memory.specs.Paths.{Awaited}
use Rattle.coherent_memory.specs.Walking.{path, asks_for, asked_for}
use Rattle.coherent_memory.specs.Requests.{not_under, not_there}
use Rattle.coherent_memory.specs.Turn.{InTurn}
use Rattle.coherent_memory.specs.Coherent.{IsSound}
use Rattle.std.proofs.lemmas.Bool.Decides.{nat_tests}
use Rattle.coherent_memory.proofs.Names.{and_left, and_right, same_number}
use Rattle.coherent_memory.proofs.Words.{none_at, named, itself, words_law}
use Rattle.coherent_memory.proofs.Bags.{an_object, loose, content_held, cluster_whole}
use Rattle.coherent_memory.proofs.Turn.{turn_law}

abbrev Found : (Thing → ℕ) → List Thing → Type 0
Found f b = (y : Thing) × Among y b × (1 ≤ f y)

-- some thing of these weighs something
found : (f : Thing → ℕ) (b : List Thing) → 1 ≤ tot f b → Found f b
found f [] l = absurd (omega (arith, l))
found f (y ∷ b) l = by (f y) refl (λ z. found f b z)
  where
    by : (n : ℕ) → f y ≡ n → (1 ≤ tot f b → Found f b) → Found f (y ∷ b)
    by zero e go = let later = go (omega (arith, l, e)) in (later.0, inr later.1, later.2)
    by (suc n) e go = (y, inl refl, omega (arith, e))

weighs : (f : Thing → ℕ) (b : List Thing) (y : Thing) → Among y b → f y ≤ tot f b
weighs f [] y h = absurd h
weighs f (x ∷ b) y (inl e) = subst (λ z. f z ≤ tot f (x ∷ b)) e (omega arith)
weighs f (x ∷ b) y (inr h) = omega (arith, weighs f b y h)

truly : (b : Bool) → 1 ≤ one b → b ≡ true
truly true l = refl
truly false l = absurd (omega (arith, l))

is_so : (b : Bool) → other b ≡ 0 → b ≡ true
is_so true z = refl
is_so false z = absurd (cc z)

word_told : (v : Option ℕ) (w : ℕ) → is_word v w ≡ true → v ≡ Some w
word_told None w e = absurd (cc e)
word_told (Some x) w e = ap (λ y. Some y) (same_number x w e)

-- the cell whose object has that word
cell_word : (ps : List Pointer) (cs : List Cell) (w : ℕ) (d : Cell) → cell_of_word ps cs w ≡ Some d → is_word (word_of_object ps d.object) w ≡ true
cell_word ps [] w d e = absurd (cc e)
cell_word ps (c ∷ cs) w d e = by (is_word (word_of_object ps c.object) w) refl e (λ z. cell_word ps cs w d z)
  where
    by : (b : Bool) → is_word (word_of_object ps c.object) w ≡ b → (if b then Some c else cell_of_word ps cs w) ≡ Some d → (cell_of_word ps cs w ≡ Some d → is_word (word_of_object ps d.object) w ≡ true) → is_word (word_of_object ps d.object) w ≡ true
    by true q z go = let same : c ≡ d = cc in subst (λ (x : Cell). is_word (word_of_object ps x.object) w ≡ true) same q
    by false q z go = go z

clean_is : (s : Sight) (o : Option Cell) (d : Cell) → if_clean s o ≡ Some d → o ≡ Some d
clean_is s None d e = absurd (cc e)
clean_is s (Some c) d e = by (is_object_among c.object s.dirty) e
  where
    by : (b : Bool) → unless_dirty b c ≡ Some d → Some c ≡ Some d
    by true z = absurd (cc z)
    by false z = z

front : (p : Pointer) (xs ys : List Pointer) → Among p xs → Among p (xs ++ ys)
front p [] ys h = absurd h
front p (x ∷ xs) ys (inl e) = inl e
front p (x ∷ xs) ys (inr h) = inr (front p xs ys h)

back : (p : Pointer) (xs ys : List Pointer) → Among p ys → Among p (xs ++ ys)
back p [] ys h = h
back p (x ∷ xs) ys h = inr (back p xs ys h)

pointer_stands : (p : Pointer) (y : Thing) (b : List Thing) → Among y b → Among p (pointers_of y) → Among p (pointers_in b)
pointer_stands p y [] h m = absurd h
pointer_stands p y (x ∷ b) (inl e) m = front p (pointers_of x) (pointers_in b) (subst (λ z. Among p (pointers_of z)) (sym e) m)
pointer_stands p y (x ∷ b) (inr h) m = back p (pointers_of x) (pointers_in b) (pointer_stands p y b h m)

module _ (k : Cluster) (sound : IsSound k) where
  abbrev s : Sight
  s = sight k

  -- the word of an object under way
  flown_word : (v : ℕ) (c : Cell) → Among (flies v c) (things_of k) → word s c.object ≡ Some v
  flown_word v c h =
      let p : Pointer = record { at = None; word = v; object = c.object } in
      let among = front p (pointers_in s.things) (taken_pointers s.code s.ground s.ground.threads) (pointer_stands p (flies v c) (things_of k) h (inl refl)) in
      let words = sound.words.have_words in
      let fresh : Fresh s c.object = record { pointer = p; among = among; object = refl; fresh = λ x. x } in
      let same : v ≡ words.word c.object = ⊎_elim (λ (x : ⊥). absurd x) (λ (e : v ≡ words.word c.object). e) (words.same p among) in
      words_law.first_tells k words c.object fresh ∙ ap (λ x. Some x) (sym same)

  -- a `moved` brings an object under way
  brought_word : (r v : ℕ) (c : Cell) (u : ℕ) → Among (sent r (message.Moved v c u)) (things_of k) → word s c.object ≡ Some v
  brought_word r v c u h = by it.0 it.1 it.2
    where
      itself_is : one (v == v && same_object c.object c.object) ≡ 1
      itself_is = let n : (v == v) ≡ true = grind (arith, nat_tests) in rw n (ap one (itself c.object c.object refl))

      it : Found (content_held (an_object v c.object)) (things_of k)
      it =
          found (content_held (an_object v c.object)) (things_of k)
          (omega (arith, itself_is, weighs (loose (an_object v c.object)) (things_of k) (sent r (message.Moved v c u)) h, (cluster_whole k).held (an_object v c.object)))

      by : (y : Thing) → Among y (things_of k) → 1 ≤ content_held (an_object v c.object) y → word s c.object ≡ Some v
      by (flies x d) g l =
          let so : (x == v && same_object d.object c.object) ≡ true = truly (x == v && same_object d.object c.object) l in
          let word : x ≡ v = same_number x v (and_left (x == v) (same_object d.object c.object) so) in
          let object : d.object ≡ c.object = named d.object c.object (and_right (x == v) (same_object d.object c.object) so) in
          subst (λ o. Rattle.coherent_memory.specs.Sight.word s o ≡ Some v) object (flown_word x d g ∙ ap (λ z. Some z) word)
      by (holds p z) g l = absurd (omega (arith, l))
      by _ g l = absurd (omega (arith, l))

  moved_to : (o p : ObjNo) (v w : ℕ) → o ≡ p → w ≡ v → word s o ≡ Some v → word s p ≡ Some w
  moved_to o p v w e f told = subst (λ z. word s z ≡ Some w) e (subst (λ z. word s o ≡ Some z) (sym f) told)

  -- an object that isn't named elsewhere than where it lies
  there_word : (o : ObjNo) (v : ℕ) → not_under s v o ≡ 0 → word s o ≡ Some v
  there_word o v z = let n = tot (lies_under v o) s.things in word_told (word s o) v (and_left (is_word (word s o) v) (some n) (is_so (is_word (word s o) v && some n) z))

  -- a copy on its way is the cell of the object with its word
  copied_word : (v : ℕ) (c : Cell) (o : Option Cell) → clean_cell s v ≡ o → other (is_some o) ≡ 0 → other_cell c o ≡ 0 → word s c.object ≡ Some v
  copied_word v c None e a b = absurd (cc a)
  copied_word v c (Some d) e a b =
      let same : same_cell c d ≡ true = is_so (same_cell c d) b in
      let object : c.object ≡ d.object = named c.object d.object (and_left (same_object c.object d.object) (same_owned c.value d.value) same) in
      let there : word s d.object ≡ Some v = word_told (word s d.object) v (cell_word s.pointers s.ground.cells v d (clean_is s (cell_of_word s.pointers s.ground.cells v) d e)) in
      subst (λ z. word s z ≡ Some v) (sym object) there

  -- the message has the object's word
  asked_word : (t : ℕ) (a : Awaited) (r : ℕ) (m : Message) → Among (sent r m) (things_of k) → 1 ≤ one (asks_for t a m) → word s a.object ≡ Some a.word
  asked_word t a r (message.Fetch v o q u) h l =
      let y = and_right (u == t && not a.comes) (a.word == v && same_object o a.object) (truly ((u == t && not a.comes) && (a.word == v && same_object o a.object)) l) in
      moved_to o a.object v a.word (named o a.object (and_right (a.word == v) (same_object o a.object) y)) (same_number a.word v (and_left (a.word == v) (same_object o a.object) y))
      (there_word o v (none_at (not_there s) (sent r (message.Fetch v o q u)) (things_of k) sound.requests.objects_there h))
  asked_word t a r (message.Move v o q u) h l =
      let y = and_right (u == t && a.comes) (a.word == v && same_object o a.object) (truly ((u == t && a.comes) && (a.word == v && same_object o a.object)) l) in
      moved_to o a.object v a.word (named o a.object (and_right (a.word == v) (same_object o a.object) y)) (same_number a.word v (and_left (a.word == v) (same_object o a.object) y))
      (there_word o v (none_at (not_there s) (sent r (message.Move v o q u)) (things_of k) sound.requests.objects_there h))
  asked_word t a r (message.Fetched v c u) h l =
      let y = and_right (u == t && not a.comes) (a.word == v && same_object c.object a.object) (truly ((u == t && not a.comes) && (a.word == v && same_object c.object a.object)) l) in
      moved_to c.object a.object v a.word (named c.object a.object (and_right (a.word == v) (same_object c.object a.object) y)) (same_number a.word v (and_left (a.word == v) (same_object c.object a.object) y))
      (copied_word v c (clean_cell s v) refl (none_at (unclean s) (sent r (message.Fetched v c u)) (things_of k) sound.copies.served_are_clean h) (none_at (other_copy s) (sent r (message.Fetched v c u)) (things_of k) sound.copies.copies_agree h))
  asked_word t a r (message.Moved v c u) h l =
      let y = and_right (u == t && a.comes) (a.word == v && same_object c.object a.object) (truly ((u == t && a.comes) && (a.word == v && same_object c.object a.object)) l) in
      moved_to c.object a.object v a.word (named c.object a.object (and_right (a.word == v) (same_object c.object a.object) y)) (same_number a.word v (and_left (a.word == v) (same_object c.object a.object) y))
      (brought_word r v c u h)
  asked_word t a r _ h l = absurd (omega (arith, l))

  thing_word : (t : ℕ) (a : Awaited) (y : Thing) → Among y (things_of k) → 1 ≤ asked_for t a y → word s a.object ≡ Some a.word
  thing_word t a (sent r m) h l = asked_word t a r m h l
  thing_word t a _ h l = absurd (omega (arith, l))

  pub awaited_word : (x : Standing) (w : ℕ) → Among x s.ground.threads → x.thread.phase ≡ phase.WaitCell w → (a : Awaited) → InTurn s x w a (path s x) → word s a.object ≡ Some w
  awaited_word x w m e a turn =
      let h = sound.walks.wait_in_turn x w m e in
      let one_is : Some h.awaited ≡ Some a = sym (turn_law.told s x w h.awaited h.turn) ∙ turn_law.told s x w a turn in
      let same : h.awaited ≡ a = cc in
      let it = found (asked_for x.thread.number h.awaited) s.things h.asked in
      let there : word s h.awaited.object ≡ Some w = thing_word x.thread.number h.awaited it.0 it.1 it.2 ∙ ap (λ z. Some z) h.word in
      subst (λ (z : Awaited). word s z.object ≡ Some w) same there
