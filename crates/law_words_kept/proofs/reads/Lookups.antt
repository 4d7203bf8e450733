-- What a server finds under the word of a pointer that is read there: the object's cell in its partition, and in its cache a copy that is that cell.
use Rattle.std.proofs.Common.{◌≡◌, ◌⊎◌, inl, inr, ◌≤◌, ℕ, ◌+◌, ◌<◌, ◌==◌, ◌&&◌, ◌||◌, not, nat_lt, Bool, true, false, if◌then◌else◌, List, [], ◌∷◌, ◌++◌, length, Option, Some, None, is_some, refl, sym, ap, ap₂, subst, ◌∙◌, arith}
use Rattle.std.specs.Prelude.{slice_get}
use Rattle.std.proofs.lemmas.Bool.{eqb-true, eq-eqb}
use Rattle.std.proofs.lemmas.Bool.Decides.{Decides-int_eq}
use Rattle.law_counts_sums.proofs.Below.fr_typing.PlaceLemmas.{eq_cases}
use Rattle.law_counts_sums.specs.Below.fr_base.declared.name.ObjNo.{ObjNo}
use Rattle.law_counts_sums.specs.Below.fr_base.declared.place.Lval.{Lval}
use Rattle.law_counts_sums.specs.Below.fr_base.declared.instruction.Instr.{Instr}
use Rattle.law_counts_sums.specs.Below.global_addr.Words.{server_of, address_of, next_word}
use Rattle.law_counts_sums.specs.Below.heap_partition.Same.{same_box, same_owned, same_cell}
use Rattle.law_counts_sums.specs.Below.heap_partition.declared.value.BoxPtr.{BoxPtr}
use Rattle.law_counts_sums.specs.Below.heap_partition.declared.value.Cell.{Cell}
use Rattle.law_counts_sums.specs.Below.heap_partition.declared.value.Owned.{Owned}
use Rattle.law_counts_sums.specs.Below.heap_partition.declared.value.Owned.TheVariants as owned
use Rattle.law_counts_sums.specs.Below.read_cache.Cache.{Copy, copy_of, cell_in, hit, is_cached}
use Rattle.law_counts_sums.specs.Below.mut_borrow.declared.mutable.MutRef.{MutRef}
use Rattle.law_counts_sums.specs.Below.thread_state.declared.phase.Phase.TheVariants as phase
use Rattle.law_counts_sums.specs.Below.thread_state.declared.value.Value.{Value}
use Rattle.law_counts_sums.specs.Below.thread_state.declared.value.Value.TheVariants as value
use Rattle.law_counts_sums.specs.Below.server_model.Servers.{Server, Cluster, server_at}
use Rattle.law_counts_sums.specs.Below.server_model.Work.{look}
use Rattle.law_counts_sums.specs.Below.server_model.Places.{pointer_of}
use Rattle.law_counts_sums.specs.Below.coherent_memory.Names.{tot, one, other, same_object, Among}
use Rattle.law_counts_sums.specs.Below.coherent_memory.Things.{Location, Thing, shares, lies, flies, borrows, copied, counts, things_at, cell_things, free_things, copy_things, mutex_things, task_things, standing_things, waiting_things, leaving_things, server_things, servers_things, things_of}
use Rattle.law_counts_sums.specs.Below.coherent_memory.Follow.{Standing, Ground, cells_in, cell_of, value_in, locate}
use Rattle.law_counts_sums.specs.Below.coherent_memory.Stale.{is_among, is_held_at}
use Rattle.law_counts_sums.specs.Below.coherent_memory.Sight.{Pointer, word_of_object, is_word, cell_of_word, dirty_objects, is_object_among, taken_pointers, sight, word, issued, if_dirty}
use Rattle.law_counts_sums.specs.Below.coherent_memory.Balances.{AtMostOne}
use Rattle.law_counts_sums.specs.Below.coherent_memory.Weights.{cells, states, below}
use Rattle.law_counts_sums.specs.Below.coherent_memory.Walking.{instr_of}
use Rattle.law_counts_sums.specs.Below.coherent_memory.Words.{IsStale, Fresh, HasWords}
use Rattle.law_counts_sums.specs.Below.coherent_memory.Placing.{words as word_weights, is_word_of, shared_words, same_words, unless_dirty, if_clean, clean_cell, other_cell, other_copy, standing_pointers, standing_in}
use Rattle.law_counts_sums.specs.Below.coherent_memory.Coherent.{IsSound}
use Rattle.law_counts_sums.proofs.Below.coherent_memory.Names.{and_left, and_right, same_number, same_mutexes}
use Rattle.law_counts_sums.proofs.Below.coherent_memory.Sums.{server_parts}
use Rattle.law_counts_sums.proofs.Below.coherent_memory.Words.{none_at, named, itself, words_law, told as told_stale}
use Rattle.law_counts_sums.specs.Sums.{is_server}
use Rattle.law_counts_sums.proofs.Sound.{sound_has_sums}
use Rattle.law_counts_sums.proofs.Events.{tot-server}
use Rattle.law_counts_sums.proofs.Askers.{other_none}
use Rattle.law_counts_sums.proofs.Cells.{looked}
use Rattle.law_counts_sums.proofs.Copies.{copy_word, copy_goes}
use Rattle.law_words_paths.specs.Below.coherent_types.ClusterTypes.{IsCoherent}
use Rattle.law_words_paths.specs.paths.HeapStore.{GoesOn, HasPaths}
use Rattle.law_words_paths.proofs.paths.Sole.{some_is}
use Rattle.law_words_paths.proofs.paths.Origins.{among_first}
use Rattle.law_words_paths.proofs.paths.InState.{only_one}
use Rattle.law_words_paths.proofs.paths.Contained.{listed_in, reference_at, reference_there}
use Rattle.law_words_paths.proofs.paths.FreshPaths.{same_is}
use Rattle.law_words_paths.proofs.paths.Alike.{coherent_has_paths}
use Rattle.law_words_paths.specs.words.Reworded.{HasPlaces}
use Rattle.law_words_paths.proofs.words.Standing.{CellOf, lying, flying, standing_among, told, told_standing, borrow_stands}
use Rattle.law_words_paths.proofs.words.NewWord.{is_new}
use Rattle.law_words_kept.specs.reads.Reading.{Reads}
use Rattle.law_words_kept.proofs.reads.FreshReads.{read_fresh}
use Rattle.law_words_kept.proofs.reads.Homes.{fresh_word, shared_among, Home, home}

-- CELLS THAT ARE THE SAME

box_is : (a b : BoxPtr) → same_box a b ≡ true → a ≡ b
box_is a b e =
    let word = eqb-true a.word b.word (and_left (a.word == b.word) (same_object a.object b.object) e) in
    let object = named a.object b.object (and_right (a.word == b.word) (same_object a.object b.object) e) in
    ap₂ (λ (w : ℕ) (o : ObjNo). of_box w o) word object
  where
    of_box : ℕ → ObjNo → BoxPtr
    of_box w o = record { word = w; object = o }

owned_is : (a b : Owned) → same_owned a b ≡ true → a ≡ b
owned_is owned.Nothing owned.Nothing e = refl
owned_is owned.Unit owned.Unit e = refl
owned_is (owned.Int x) (owned.Int y) e = ap owned.Int ((Decides-int_eq x y).0 e)
owned_is (owned.Box x) (owned.Box y) e = ap owned.Box (box_is x y e)
owned_is (owned.Mutex x) (owned.Mutex y) e = ap owned.Mutex (same_mutexes x y e)
owned_is (owned.Task x) (owned.Task y) e = ap owned.Task (eqb-true x y e)
owned_is owned.Nothing _ e = absurd (cc e)
owned_is owned.Unit _ e = absurd (cc e)
owned_is (owned.Int x) _ e = absurd (cc e)
owned_is (owned.Box x) _ e = absurd (cc e)
owned_is (owned.Mutex x) _ e = absurd (cc e)
owned_is (owned.Task x) _ e = absurd (cc e)

cell_is : (a b : Cell) → same_cell a b ≡ true → a ≡ b
cell_is a b e =
    let object = named a.object b.object (and_left (same_object a.object b.object) (same_owned a.value b.value) e) in
    let value = owned_is a.value b.value (and_right (same_object a.object b.object) (same_owned a.value b.value) e) in
    ap₂ (λ (o : ObjNo) (v : Owned). of_cell o v) object value
  where
    of_cell : ObjNo → Owned → Cell
    of_cell o v = record { object = o; value = v }

-- SUMS

all_less : (f g : Thing → ℕ) → ((x : Thing) → f x ≤ g x) → (b : List Thing) → tot f b ≤ tot g b
all_less f g h [] = omega arith
all_less f g h (x ∷ b) = omega (arith, h x, all_less f g h b)

weighs : (f : Thing → ℕ) (b : List Thing) (y : Thing) → Among y b → f y ≤ tot f b
weighs f [] y h = absurd h
weighs f (x ∷ b) y (inl e) = subst (λ z. f z ≤ tot f (x ∷ b)) e (omega arith)
weighs f (x ∷ b) y (inr h) = omega (arith, weighs f b y h)

fewer : (p q : Bool) → one (p && q) ≤ one p
fewer true true = omega arith
fewer true false = omega arith
fewer false q = omega arith

below_server : (at : ℕ × ℕ) (x : Thing) → below at x ≤ is_server at.0 x
below_server at (counts r next old started made events) = fewer (r == at.0) (nat_lt at.1 next)
below_server at _ = omega arith

-- each address has one state
pub one_state : (k : Cluster) → IsSound k → AtMostOne states (things_of k)
one_state k sound at = omega (arith, sound.words.one_state at, all_less (below at) (is_server at.0) (below_server at) (things_of k), (sound_has_sums k sound).servers_differ at.0)

-- WHAT A SERVER HAS

server_among : (ss : List Server) (number : ℕ) (s : Server) (y : Thing) → server_at ss number ≡ Some s → Among y (server_things s) → Among y (servers_things ss)
server_among [] number s y e h = absurd (cc e)
server_among (z ∷ ss) number s y e h =
    eq_cases (λ b. (if b then Some z else server_at ss number) ≡ Some s → Among y (server_things z ++ servers_things ss)) z.rest.number number
    (λ q f. among_first y (server_things z) (servers_things ss) (subst (λ (v : Server). Among y (server_things v)) (sym (some_is f)) h))
    (λ ne f. later y (server_things z) (servers_things ss) (server_among ss number s y f h)) e
  where
    later : (y : Thing) (xs ys : List Thing) → Among y ys → Among y (xs ++ ys)
    later y [] ys h = h
    later y (x ∷ xs) ys h = inr (later y xs ys h)

lies_here : (s : Server) (a : ℕ) (b : Cell) → slice_get s.rest.partition.cells a ≡ Some (Some b) → Among (lies s.rest.number a b) (server_things s)
lies_here s a b e =
    let n = s.rest.number in
    let y = lies n a b in
    let cs = things_at (cell_things n s.rest.partition.free) 0 s.rest.partition.cells in
    let fs = things_at (free_things n) 0 s.rest.partition.free in
    let head = counts n (length s.rest.partition.cells) s.rest.partition.retired s.rest.started s.rest.mutexes.made s.events in
    let p1 = head ∷ (cs ++ fs) in
    let p2 = p1 ++ things_at (copy_things n) 0 s.rest.cache in
    let p3 = p2 ++ things_at (mutex_things n) 0 s.rest.mutexes.there in
    let p4 = p3 ++ things_at (task_things n) 0 s.rest.tasks in
    let p5 = p4 ++ things_at (standing_things n) 0 s.threads in
    let p6 = p5 ++ things_at (waiting_things n) 0 s.rest.inbox in
    let number : 0 + a ≡ a = omega arith in
    let at : Among y (cell_things n s.rest.partition.free (0 + a) (Some b)) = inl (ap (λ z. lies n z b) number) in
    let inside : Among y (cs ++ fs) = among_first y cs fs (listed_in (cell_things n s.rest.partition.free) y 0 a s.rest.partition.cells (Some b) e at) in
    let first : Among y p1 = inr inside in
    among_first y p6 (things_at leaving_things 0 s.rest.outbox)
    (among_first y p5 (things_at (waiting_things n) 0 s.rest.inbox)
    (among_first y p4 (things_at (standing_things n) 0 s.threads)
    (among_first y p3 (things_at (task_things n) 0 s.rest.tasks) (among_first y p2 (things_at (mutex_things n) 0 s.rest.mutexes.there) (among_first y p1 (things_at (copy_things n) 0 s.rest.cache) first)))))

lies_cell : (r a s d : ℕ) (x y : Cell) → lies r a x ≡ lies s d y → x ≡ y
lies_cell r a s d x y e = cc

same_spot : (r a : ℕ) → 1 ≤ one (r == r && a == a)
same_spot r a = let x : (r == r) ≡ true = eq-eqb r r refl in let y : (a == a) ≡ true = eq-eqb a a refl in rw x (rw y (omega arith))

-- things with cells that are the same have the same cell
one_cell : (x y : Cell) (a b : Thing) → CellOf x a → CellOf y b → a ≡ b → x ≡ y
one_cell x y _ _ (lying r a) (lying s d) e = cc
one_cell x y _ _ (flying u) (flying v) e = cc
one_cell x y _ _ (lying r a) (flying v) e = absurd (cc e)
one_cell x y _ _ (flying u) (lying s d) e = absurd (cc e)

has_cell : (o : ObjNo) (x : Cell) (y : Thing) → CellOf x y → x.object ≡ o → 1 ≤ cells o y
has_cell o x _ (lying r a) e = rw (itself x.object o e) (omega arith)
has_cell o x _ (flying u) e = rw (itself x.object o e) (omega arith)

-- A LIVE OBJECT BY ITS WORD

found_word : (ps : List Pointer) (cs : List Cell) (w : ℕ) (b : Cell) → cell_of_word ps cs w ≡ Some b → is_word (word_of_object ps b.object) w ≡ true
found_word ps [] w b e = absurd (cc e)
found_word ps (x ∷ cs) w b e = by (is_word (word_of_object ps x.object) w) refl e (λ z. found_word ps cs w b z)
  where
    by : (q : Bool) → is_word (word_of_object ps x.object) w ≡ q → (if q then Some x else cell_of_word ps cs w) ≡ Some b → (cell_of_word ps cs w ≡ Some b → is_word (word_of_object ps b.object) w ≡ true) → is_word (word_of_object ps b.object) w ≡ true
    by true q z go = subst (λ (y : Cell). is_word (word_of_object ps y.object) w ≡ true) (some_is z) q
    by false q z go = go z

-- some cell has the word, where one does
some_found : (ps : List Pointer) (cs : List Cell) (w : ℕ) (b : Cell) → Among b cs → is_word (word_of_object ps b.object) w ≡ true → (y : Cell) × (cell_of_word ps cs w ≡ Some y) × Among y cs
some_found ps [] w b h e = absurd h
some_found ps (x ∷ cs) w b h e = by (is_word (word_of_object ps x.object) w) refl h (λ z. some_found ps cs w b z e)
  where
    by : (q : Bool) → is_word (word_of_object ps x.object) w ≡ q → Among b (x ∷ cs) → (Among b cs → (y : Cell) × (cell_of_word ps cs w ≡ Some y) × Among y cs) → (y : Cell) × ((if q then Some x else cell_of_word ps cs w) ≡ Some y) × Among y (x ∷ cs)
    by true q m go = (x, refl, inl refl)
    by false q (inl same) go = let no : false ≡ true = sym q ∙ subst (λ (y : Cell). is_word (word_of_object ps y.object) w ≡ true) (sym same) e in absurd (cc no)
    by false q (inr m) go = let r = go m in (r.0, r.1, inr r.2)

-- a cell is a thing's
cell_thing : (b : List Thing) (x : Cell) → Among x (cells_in b) → (y : Thing) × Among y b × CellOf x y
cell_thing [] x h = absurd h
cell_thing (lies r a d ∷ b) x (inl e) = (lies r a d, inl refl, subst (λ z. CellOf z (lies r a d)) e (lying r a))
cell_thing (lies r a d ∷ b) x (inr h) = let q = cell_thing b x h in (q.0, inr q.1, q.2)
cell_thing (flies u d ∷ b) x (inl e) = (flies u d, inl refl, subst (λ z. CellOf z (flies u d)) e (flying u))
cell_thing (flies u d ∷ b) x (inr h) = let q = cell_thing b x h in (q.0, inr q.1, q.2)
cell_thing (_ ∷ b) x h = let q = cell_thing b x h in (q.0, inr q.1, q.2)

found_among : (cs : List Cell) (o : ObjNo) (x : Cell) → cell_of cs o ≡ Some x → Among x cs
found_among [] o x e = absurd (cc e)
found_among (y ∷ cs) o x e = by (same_object y.object o) e (λ z. found_among cs o x z)
  where
    by : (q : Bool) → (if q then Some y else cell_of cs o) ≡ Some x → (cell_of cs o ≡ Some x → Among x cs) → Among x (y ∷ cs)
    by true z go = inl (some_is z)
    by false z go = inr (go z)

is_word_told : (v : Option ℕ) (w : ℕ) → is_word v w ≡ true → v ≡ Some w
is_word_told None w e = absurd (cc e)
is_word_told (Some x) w e = ap (λ y. Some y) (same_number x w e)

no_other : (b : Bool) (v w : Option ℕ) (x : ℕ) → v ≡ Some x → w ≡ Some x → one (not b && is_word_of v w) ≡ 0 → b ≡ true
no_other true v w x p q z = refl
no_other false v w x p q z =
    let both : is_word_of v w ≡ true = rw p (rw q (eq-eqb x x refl)) in
    let wrong : one (true && is_word_of v w) ≡ 1 = rw both refl in
    absurd (omega (arith, z, wrong))

-- DIRTY OBJECTS

-- a dirty reference to the object that isn't stale
record DirtyOne (o : ObjNo) (places : List Location) (b : List Thing) : Type 0 where
  at : Location
  reference : MutRef
  among : Among (borrows at reference) b
  object : reference.object ≡ o
  dirty : reference.dirty ≡ true
  fresh : is_among at places ≡ false

later_dirty : (o : ObjNo) (places : List Location) (x : Thing) (b : List Thing) → DirtyOne o places b → DirtyOne o places (x ∷ b)
later_dirty o places x b q = record { at = q.at; reference = q.reference; among = inr q.among; object = q.object; dirty = q.dirty; fresh = q.fresh }

dirty_one : (o : ObjNo) (places : List Location) (b : List Thing) → is_object_among o (dirty_objects places b) ≡ true → DirtyOne o places b
dirty_one o places [] e = absurd (cc e)
dirty_one o places (borrows l r ∷ b) e = by r.dirty (is_among l places) refl refl e (λ z. dirty_one o places b z)
  where
    here : (q : Bool) → same_object r.object o ≡ q → r.dirty ≡ true → is_among l places ≡ false → q || is_object_among o (dirty_objects places b) ≡ true → (is_object_among o (dirty_objects places b) ≡ true → DirtyOne o places b) → DirtyOne o places (borrows l r ∷ b)
    here true same d f z go = record { at = l; reference = r; among = inl refl; object = named r.object o same; dirty = d; fresh = f }
    here false same d f z go = later_dirty o places (borrows l r) b (go z)

    by : (d f : Bool) → r.dirty ≡ d → is_among l places ≡ f → is_object_among o (if_dirty (d && not f) r.object (dirty_objects places b)) ≡ true → (is_object_among o (dirty_objects places b) ≡ true → DirtyOne o places b) → DirtyOne o places (borrows l r ∷ b)
    by true false p q z go = here (same_object r.object o) refl p q z go
    by true true p q z go = later_dirty o places (borrows l r) b (go z)
    by false f p q z go = later_dirty o places (borrows l r) b (go z)
dirty_one o places (_ ∷ b) e = later_dirty o places _ b (dirty_one o places b e)

-- WHAT IS READ

module _ (k : Cluster) (co : IsCoherent k) where
  abbrev c : HasPaths k
  c = coherent_has_paths k co

  abbrev ground : Ground
  ground = (sight k).ground

  abbrev words : HasWords (sight k)
  words = co.sound.words.have_words

  abbrev places : HasPlaces k
  places = record { numbers_differ = c.numbers_differ; home_of_each = c.home_of_each; owner_of_each = c.owner_of_each }

  -- an object with two cells has one
  pub one_home : (o : ObjNo) (x y : Cell) (a b : Thing) → Among a (things_of k) → Among b (things_of k) → CellOf x a → CellOf y b → x.object ≡ o → y.object ≡ o → x ≡ y
  one_home o x y a b m h p q e f = one_cell x y a b p q (only_one (cells o) a b (things_of k) (co.sound.one_home.home_of_each o) m h (has_cell o x a p e) (has_cell o y b q f))

  module _ (x : Standing) (i : Instr) (w : Lval) (n d : ℕ) (g : GoesOn k x) (at : instr_of (sight k) x ≡ Some i) (reads : Reads i w n) (lt : d < n) (awake : (u : ℕ) → x.thread.phase ≡ phase.WaitCell u → ⊥)
      (l : Location) (v : Value) (p : BoxPtr) (there : locate ground x.thread.number w.slot d ≡ Some l) (stands : value_in ground l ≡ Some v) (pointer : pointer_of v ≡ Some p)
      (number : ℕ) (s : Server) (here : server_at k.servers number ≡ Some s) where
    abbrev fresh : IsStale (sight k) (Some l) → ⊥
    fresh = read_fresh k c x i w n d l g at reads lt there

    abbrev its : Home k co x i w n d g at reads lt awake l v p there stands pointer
    its = home k co x i w n d g at reads lt awake l v p there stands pointer

    abbrev word_is : p.word ≡ words.word p.object
    word_is = fresh_word k co.sound.words.have_words l v p stands pointer fresh

    -- IN THE PARTITION

    pub direct : server_of p.word ≡ s.rest.number → (b : Cell) → look s.rest.partition p.word ≡ Some b → b ≡ its.cell
    direct mine b found =
        let m = s.rest.number in
        let a = address_of p.word in
        let it = server_among k.servers number s (lies m a b) here (lies_here s a b (looked s.rest.partition p.word b found)) in
        let server : its.server ≡ m = sym its.leads.server ∙ mine in
        let home_there = subst (λ z. Among (lies its.server z its.cell) (things_of k)) (sym its.leads.address) its.among in
        let home_here = subst (λ z. Among (lies z a its.cell) (things_of k)) server home_there in
        lies_cell m a m a b its.cell (only_one (states (m, a)) (lies m a b) (lies m a its.cell) (things_of k) (one_state k co.sound (m, a)) it home_here (same_spot m a) (same_spot m a))

    -- ITS WORD

    fresh_one : Fresh (sight k) p.object
    fresh_one = subst (λ o. Fresh (sight k) o) its.object (words.live its.server its.address its.cell its.among)

    told_word : word (sight k) p.object ≡ Some p.word
    told_word = words_law.first_tells k words p.object fresh_one ∙ ap (λ z. Some z) (sym word_is)

    -- THE POINTER ITSELF

    -- the pointer among those that stand somewhere
    abbrev Stands : BoxPtr → Type 0
    Stands b = (q : Pointer) × Among q (standing_pointers (sight k)) × (q.object ≡ b.object) × ((q.at ≡ None) ⊎ (q.at ≡ Some l))

    among_standing : (q : Pointer) → Among q (standing_in (things_of k)) → Among q (standing_pointers (sight k))
    among_standing q h = among_first q (standing_in (things_of k)) (taken_pointers (sight k).code ground ground.threads) h

    stands_as : (u : Value) (b : BoxPtr) → value_in ground l ≡ Some u → pointer_of u ≡ Some b → Stands b
    stands_as (value.Own (owned.Box a)) b e f =
        let q : Pointer = record { at = Some l; word = a.word; object = a.object } in
        (q, among_standing q (told_standing k l (value.Own (owned.Box a)) q e (inl refl)), ap (λ (z : BoxPtr). z.object) (some_is f), inr refl)
    stands_as (value.Mut r) b e f =
        let q : Pointer = record { at = Some l; word = r.word; object = r.object } in
        (q, among_standing q (told_standing k l (value.Mut r) q e (inl refl)), ap (λ (z : BoxPtr). z.object) (some_is f), inr refl)
    stands_as (value.Shared r) b e f =
        let q : Pointer = record { at = None; word = r.word; object = r.object } in
        (q, among_standing q (standing_among q (shares l r) (things_of k) (shared_among k l r e) (inl refl)), ap (λ (z : BoxPtr). z.object) (some_is f), inl refl)
    stands_as _ b e f = absurd (cc f)

    abbrev IsClean : Type 0
    IsClean = (q : MutRef) → v ≡ value.Mut q → q.dirty ≡ false

    not_alone : IsClean → DirtyOne p.object (sight k).stale (things_of k) → ⊥
    not_alone clean z =
        let there = borrow_stands k places z.at z.reference z.among in
        let unstale : IsStale (sight k) (Some z.at) → ⊥ = λ e. let no : false ≡ true = sym z.fresh ∙ told_stale k (Some z.at) e in cc no in
        let alone = co.sound.words.dirty_alone (reference_at ground z.at z.reference) (reference_there k z.at z.reference there) z.dirty unstale in
        let one = stands_as v p stands pointer in
        by one.0 one.3 there (alone.sole one.0 one.1 (one.2 ∙ sym z.object))
      where
        nowhere_held : (q : Pointer) → q.at ≡ None → IsStale (sight k) q.at ⊎ (is_held_at z.at q.at ≡ true) → ⊥
        nowhere_held q e (inl x) = subst (λ o. IsStale (sight k) o) e x
        nowhere_held q e (inr x) = let no : false ≡ true = sym (ap (is_held_at z.at) e) ∙ x in cc no

        one_mut : (u r : MutRef) → Some (value.Mut u) ≡ Some (value.Mut r) → u ≡ r
        one_mut u r e = cc

        same_there : (m : Location) → l ≡ m → value_in ground m ≡ Some (value.Mut z.reference) → ⊥
        same_there m e f =
            let value : Some v ≡ Some (value.Mut z.reference) = sym stands ∙ ap (value_in ground) e ∙ f in
            let no : false ≡ true = sym (clean z.reference (some_is value)) ∙ z.dirty in
            cc no

        at_it : (q : Pointer) → q.at ≡ Some l → value_in ground z.at ≡ Some (value.Mut z.reference) → IsStale (sight k) q.at ⊎ (is_held_at z.at q.at ≡ true) → ⊥
        at_it q e f (inl x) = fresh (subst (λ o. IsStale (sight k) o) e x)
        at_it q e f (inr x) = same_there z.at (same_is l z.at (sym (ap (is_held_at z.at) e) ∙ x)) f

        by : (q : Pointer) → (q.at ≡ None) ⊎ (q.at ≡ Some l) → value_in ground z.at ≡ Some (value.Mut z.reference) → IsStale (sight k) q.at ⊎ (is_held_at z.at q.at ≡ true) → ⊥
        by q (inl e) f x = nowhere_held q e x
        by q (inr e) f x = at_it q e f x

    not_dirty : IsClean → is_object_among p.object (sight k).dirty ≡ false
    not_dirty clean = by (is_object_among p.object (sight k).dirty) refl
      where
        by : (b : Bool) → is_object_among p.object (sight k).dirty ≡ b → b ≡ false
        by true e = absurd (not_alone clean (dirty_one p.object (sight k).stale (things_of k) e))
        by false e = refl

    -- IN THE CACHE

    other_named : (y : Cell) (t : Thing) → CellOf y t → Among t (things_of k) → word (sight k) y.object ≡ Some p.word → y.object ≡ its.cell.object
    other_named y t is h told =
        let s0 = sight k in
        let o = its.cell.object in
        let mine : tot (same_words s0 (word s0 o) o) (things_of k) ≡ 0 = none_at (shared_words s0) (lies its.server its.address its.cell) (things_of k) co.sound.words.different_words its.among in
        by t is (none_at (same_words s0 (word s0 o) o) t (things_of k) mine h)
      where
        own : word (sight k) its.cell.object ≡ Some p.word
        own = ap (word (sight k)) its.object ∙ told_word

        by : (u : Thing) → CellOf y u → same_words (sight k) (word (sight k) its.cell.object) its.cell.object u ≡ 0 → y.object ≡ its.cell.object
        by _ (lying r a) z = named y.object its.cell.object (no_other (same_object y.object its.cell.object) (word (sight k) y.object) (word (sight k) its.cell.object) p.word told own z)
        by _ (flying u) z = named y.object its.cell.object (no_other (same_object y.object its.cell.object) (word (sight k) y.object) (word (sight k) its.cell.object) p.word told own z)

    -- the live object with that word, while no dirty reference to it is alive
    clean_there : IsClean → clean_cell (sight k) p.word ≡ Some its.cell
    clean_there clean =
        let ps = (sight k).pointers in
        let mine : is_word (word (sight k) its.cell.object) p.word ≡ true = ap (λ o. is_word (word (sight k) o) p.word) its.object ∙ ap (λ o. is_word o p.word) told_word ∙ eq-eqb p.word p.word refl in
        let y = some_found ps ground.cells p.word its.cell (found_among ground.cells p.object its.cell its.found) mine in
        let t = cell_thing (things_of k) y.0 y.2 in
        let told = is_word_told (word (sight k) y.0.object) p.word (found_word ps ground.cells p.word y.0 y.1) in
        let object = other_named y.0 t.0 t.2 t.1 told in
        let same = one_home its.cell.object y.0 its.cell t.0 (lies its.server its.address its.cell) t.1 its.among t.2 (lying its.server its.address) object refl in
        ap (if_clean (sight k)) y.1 ∙ ap (λ z. if_clean (sight k) (Some z)) same ∙ ap (λ o. unless_dirty (is_object_among o (sight k).dirty) its.cell) its.object ∙ ap (λ b. unless_dirty b its.cell) (not_dirty clean)

    abbrev cs : List Copy
    cs = s.rest.cache

    copy_less : (u : ℕ) (y : Copy) → copy_of cs u ≡ Some y → (f : Thing → ℕ) → f (copied s.rest.number y) ≤ tot f (things_of k)
    copy_less u y e f = let t = copy_goes s.rest.number cs u y e in omega (arith, (tot-server f k.servers number s s here).0, server_parts f s, t.before f)

    pub copied_is : IsClean → (b : Cell) → hit cs p.word ≡ Some b → b ≡ its.cell
    copied_is clean b = by (copy_of cs p.word) refl
      where
        agree : tot (other_copy (sight k)) (things_of k) ≡ 0
        agree = co.sound.copies.copies_agree

        by : (o : Option Copy) → copy_of cs p.word ≡ o → cell_in o ≡ Some b → b ≡ its.cell
        by None e f = absurd (cc f)
        by (Some y) e f =
            let mine : other_cell y.cell (clean_cell (sight k) y.word) ≡ 0 = omega (arith, agree, copy_less p.word y e (other_copy (sight k))) in
            let under : other_cell y.cell (clean_cell (sight k) p.word) ≡ 0 = subst (λ u. other_cell y.cell (clean_cell (sight k) u) ≡ 0) (copy_word cs p.word y e) mine in
            let same : other_cell y.cell (Some its.cell) ≡ 0 = subst (λ o. other_cell y.cell o ≡ 0) (clean_there clean) under in
            sym (some_is f) ∙ cell_is y.cell its.cell (other_none (same_cell y.cell its.cell) same)

    -- no copy has the next colour
    pub uncached : is_cached cs (next_word p.word) ≡ false
    uncached = by (copy_of cs (next_word p.word)) refl
      where
        new : issued (sight k) (next_word p.word) ≡ false
        new =
            subst (λ u. issued (sight k) (next_word u) ≡ false) (sym word_is)
            (is_new k words (one_state k co.sound) its.server its.address p.object (record { cell = its.cell; among = its.among; object = its.object }))

        all : tot (word_weights (λ u. other (issued (sight k) u))) (things_of k) ≡ 0
        all = co.sound.words.are_issued

        by : (o : Option Copy) → copy_of cs (next_word p.word) ≡ o → is_some o ≡ false
        by None e = refl
        by (Some y) e =
            let weight : other (issued (sight k) y.word) ≡ 0 = omega (arith, all, copy_less (next_word p.word) y e (word_weights (λ u. other (issued (sight k) u)))) in
            let was : issued (sight k) (next_word p.word) ≡ true = subst (λ u. issued (sight k) u ≡ true) (copy_word cs (next_word p.word) y e) (other_none (issued (sight k) y.word) weight) in
            let no : false ≡ true = sym new ∙ was in
            absurd (cc no)
