-- What two sights of things in different orders have alike.
use Rattle.std.proofs.Common.{◌≡◌, ◌≤◌, ℕ, zero, suc, ◌+◌, ◌==◌, ◌&&◌, not, Bool, true, false, List, [], ◌∷◌, ◌++◌, Option, Some, None, refl, sym, ap, ap₂, subst, ◌∙◌, arith}
use Rattle.std.specs.Prelude.{slice_get}
use Rattle.std.proofs.Math.Path.{fun_ext}
use Rattle.std.proofs.lemmas.Bool.{eq-eqb}
use Rattle.law_runs_rounds.specs.Below.law_runs_coherent.Below.fr_base.declared.name.ObjNo.{ObjNo}
use Rattle.law_runs_rounds.specs.Below.law_runs_coherent.Below.fr_base.declared.instruction.Instr.{Instr}
use Rattle.law_runs_rounds.specs.Below.law_runs_coherent.Below.fr_base.declared.instruction.Instr.TheVariants as instr
use Rattle.law_runs_rounds.specs.Below.law_runs_coherent.Below.heap_partition.declared.value.Cell.{Cell}
use Rattle.law_runs_rounds.specs.Below.law_runs_coherent.Below.thread_state.View.{ThreadState}
use Rattle.law_runs_rounds.specs.Below.law_runs_coherent.Below.thread_state.declared.phase.Phase.{Phase}
use Rattle.law_runs_rounds.specs.Below.law_runs_coherent.Below.thread_state.declared.phase.Phase.TheVariants as phase
use Rattle.law_runs_rounds.specs.Below.law_runs_coherent.Below.server_model.Servers.{Server, Cluster}
use Rattle.law_runs_rounds.specs.Below.law_runs_coherent.Below.coherent_memory.Names.{Among, tot, one, other, same_object}
use Rattle.law_runs_rounds.specs.Below.law_runs_coherent.Below.coherent_memory.Things.{Location, Thing, borrows, lies, flies, stands, servers_things, things_of}
use Rattle.law_runs_rounds.specs.Below.law_runs_coherent.Below.coherent_memory.Follow.{Standing, Ground, ground_of, threads_in, thread_at, cells_in, cell_of}
use Rattle.law_runs_rounds.specs.Below.law_runs_coherent.Below.coherent_memory.Stale.{same_location, is_among, Reference, references, lent_place, with_place, lent_places, one_star_less, Stale, changed_above, stale_above, taken_above}
use Rattle.law_runs_rounds.specs.Below.law_runs_coherent.Below.coherent_memory.Sight.{Sight, Pointer, pointers_of, pointers_in, taken_object, taken_of, taken_pointers, is_stale, is_word, cell_of_word, is_object_among, colour_up_to, is_spot, is_issued_at, if_dirty, unless, sight, word, issued}
use Rattle.law_runs_rounds.specs.Below.law_runs_coherent.Below.coherent_memory.Balances.{AtMostOne}
use Rattle.law_runs_rounds.specs.Below.law_runs_coherent.Below.coherent_memory.Weights.{cells, is_thread}
use Rattle.law_runs_rounds.specs.Below.law_runs_coherent.Below.coherent_memory.Placing.{other_word, same_word_wrong, is_word_of, same_words, shared_words, different_words_wrong, standing_of as standing_pointers_of, standing_in, standing_pointers, if_clean, unless_dirty, clean_cell}
use Rattle.law_runs_rounds.proofs.Below.law_runs_coherent.Below.coherent_memory.Names.{same_number}
use Rattle.law_runs_rounds.proofs.Below.law_runs_coherent.Below.coherent_memory.Words.{none_at, tells, told, named, itself as object_itself}
use Rattle.law_runs_order.specs.things.SameThings.{Reordered}
use Rattle.law_runs_order.proofs.things.Reordered.{gathered, reordered_gathered, reordered_append, tot-gathered, picked, found, none_passes, picked_same, one_picked, any, any_same}
use Rattle.law_runs_order.proofs.things.Gathering.{thread_in, threads_gathered, cell_in, cells_gathered, reference_in, references_gathered, pointers_gathered, standing_gathered, taken_at, taken_gathered, fresh_one, fresh_gathered, lent_at, lent_gathered, dirty_at, dirty_gathered, thread_picked, cell_picked, word_picked, cell_word_picked, among_any, object_any, issued_any}
use Rattle.law_runs_order.proofs.things.Places.{located_same, place_same, holder_same}

pub tot_same : {X : Type 0} (f g : X → ℕ) → ((x : X) → f x ≡ g x) → (xs : List X) → tot f xs ≡ tot g xs
tot_same f g e [] = refl
tot_same f g e (x ∷ xs) = ap₂ (λ m n. m + n) (e x) (tot_same f g e xs)

pub same_truth : (p q : Bool) → (p ≡ true → q ≡ true) → (q ≡ true → p ≡ true) → p ≡ q
same_truth true q f g = sym (f refl)
same_truth false true f g = g refl
same_truth false false f g = refl

pub is_so : (b : Bool) → other b ≡ 0 → b ≡ true
is_so true z = refl
is_so false z = absurd (cc z)

pub word_is : (o : Option ℕ) (w : ℕ) → is_word o w ≡ true → o ≡ Some w
word_is None w e = absurd (cc e)
word_is (Some v) w e = ap Some (same_number v w e)

itself : (w : ℕ) → is_word_of (Some w) (Some w) ≡ true
itself w = eq-eqb w w refl

alike : (o : ObjNo) → same_object o o ≡ true
alike o = object_itself o o refl

not_other : (p q : Bool) → one (not p && q) ≡ 0 → q ≡ true → p ≡ true
not_other true q z e = refl
not_other false true z e = absurd (cc z)
not_other false false z e = absurd (cc e)

-- where two functions give the same, what is gathered by either has the same items
pub reordered_by : {X Y : Type 0} (f g : X → List Y) → ((x : X) → f x ≡ g x) → (xs ys : List X) → Reordered xs ys → Reordered (gathered f xs) (gathered g ys)
reordered_by f g e xs ys r = subst (λ h. Reordered (gathered f xs) (gathered h ys)) (fun_ext e) (reordered_gathered f r)

-- no two threads have one number, and no two cells are of one object
pub record Apart (b : List Thing) : Type 0 where
  pub threads : AtMostOne is_thread b
  pub cells : AtMostOne cells b

thread_weight : (t : ℕ) (x : Thing) → tot (λ (y : Standing). one (y.thread.number == t)) (thread_in x) ≡ is_thread t x
thread_weight t (stands s p x) = omega arith
thread_weight t _ = refl

pub threads_few : (b : List Thing) (t : ℕ) → tot (λ (y : Standing). one (y.thread.number == t)) (threads_in b) ≡ tot (is_thread t) b
threads_few b t =
    ap (tot (λ (y : Standing). one (y.thread.number == t))) (threads_gathered b) ∙ tot-gathered thread_in (λ (y : Standing). one (y.thread.number == t)) b
    ∙ tot_same (λ x. tot (λ (y : Standing). one (y.thread.number == t)) (thread_in x)) (is_thread t) (thread_weight t) b

cell_weight : (o : ObjNo) (x : Thing) → tot (λ (c : Cell). one (same_object c.object o)) (cell_in x) ≡ cells o x
cell_weight o (lies s a c) = omega arith
cell_weight o (flies w c) = omega arith
cell_weight o _ = refl

pub cells_few : (b : List Thing) (o : ObjNo) → tot (λ (c : Cell). one (same_object c.object o)) (cells_in b) ≡ tot (cells o) b
cells_few b o =
    ap (tot (λ (c : Cell). one (same_object c.object o))) (cells_gathered b) ∙ tot-gathered cell_in (λ (c : Cell). one (same_object c.object o)) b
    ∙ tot_same (λ x. tot (λ (c : Cell). one (same_object c.object o)) (cell_in x)) (cells o) (cell_weight o) b

-- STALE POINTERS

stale_moves : (lent us : List Location) (rs qs : List Reference) → ((l : Location) → is_among l lent ≡ true → is_among l us ≡ true) → ((r : Reference) → Among r rs → Among r qs) → (l : Location) → Stale lent rs l → Stale us qs l
stale_moves lent us rs qs f g l (changed_above r m e c) = changed_above r (g r m) e c
stale_moves lent us rs qs f g l (stale_above r m e h) = stale_above r (g r m) e (stale_moves lent us rs qs f g r.at h)
stale_moves lent us rs qs f g l (taken_above e) = taken_above (f l e)

-- a cluster, and the same one with servers whose things are the same in another order
module _ (k : Cluster) (servers : List Server) (r : Reordered (things_of k) (servers_things servers)) (once : Apart (servers_things servers)) where
  abbrev z : Cluster
  z = record k { servers = servers }

  abbrev a : List Thing
  a = things_of k

  abbrev b : List Thing
  b = servers_things servers

  abbrev s : Sight
  s = sight k

  abbrev t : Sight
  t = sight z

  abbrev g : Ground
  g = ground_of a

  abbrev h : Ground
  h = ground_of b

  pub threads_there : Reordered (threads_in a) (threads_in b)
  threads_there = subst (λ l. Reordered l (threads_in b)) (sym (threads_gathered a)) (subst (Reordered (gathered thread_in a)) (sym (threads_gathered b)) (reordered_gathered thread_in r))

  pub cells_there : Reordered (cells_in a) (cells_in b)
  cells_there = subst (λ l. Reordered l (cells_in b)) (sym (cells_gathered a)) (subst (Reordered (gathered cell_in a)) (sym (cells_gathered b)) (reordered_gathered cell_in r))

  pub thread_same : (n : ℕ) → thread_at (threads_in a) n ≡ thread_at (threads_in b) n
  thread_same n =
      let few : tot (λ (y : Standing). one (y.thread.number == n)) (threads_in b) ≤ 1 = omega (arith, threads_few b n, once.threads n) in
      thread_picked (threads_in a) n ∙ picked_same (λ (x : Standing). x.thread.number == n) (λ (x : Standing). x) threads_there (one_picked (λ (x : Standing). x.thread.number == n) (λ (x : Standing). x) (threads_in b) few) ∙ sym (thread_picked (threads_in b) n)

  pub cell_same : (o : ObjNo) → cell_of (cells_in a) o ≡ cell_of (cells_in b) o
  cell_same o =
      let few : tot (λ (c : Cell). one (same_object c.object o)) (cells_in b) ≤ 1 = omega (arith, cells_few b o, once.cells o) in
      cell_picked (cells_in a) o ∙ picked_same (λ (c : Cell). same_object c.object o) (λ (c : Cell). c) cells_there (one_picked (λ (c : Cell). same_object c.object o) (λ (c : Cell). c) (cells_in b) few) ∙ sym (cell_picked (cells_in b) o)

  -- REFERENCES AND STALE PLACES

  reference_same : (x : Thing) → reference_in g x ≡ reference_in h x
  reference_same (borrows l q) = ap (λ (o : Option Location). record { at = l; holder = o; reference = q } ∷ []) (holder_same g h thread_same cell_same l q.holder)
  reference_same _ = refl

  pub references_there : Reordered (references g a) (references h b)
  references_there =
      subst (λ l. Reordered l (references h b)) (sym (references_gathered g a)) (subst (Reordered (gathered (reference_in g) a)) (sym (references_gathered h b)) (reordered_by (reference_in g) (reference_in h) reference_same a b r))

  star_same : (n slot d : ℕ) → one_star_less g n slot d ≡ one_star_less h n slot d
  star_same n slot zero = refl
  star_same n slot (suc d) = located_same g h thread_same cell_same n slot d

  lent_place_same : (n : ℕ) (p : Phase) (i : Option Instr) → lent_place g n p i ≡ lent_place h n p i
  lent_place_same n (phase.Taken w) (Some (instr.BorrowMut q)) = star_same n q.slot q.depth
  lent_place_same n _ _ = refl

  lent_same : (x : Standing) → lent_at k.code g x ≡ lent_at k.code h x
  lent_same x = ap (λ o. with_place o []) (lent_place_same x.thread.number x.thread.phase (slice_get k.code x.thread.pc))

  lent_there : Reordered (lent_places k.code g (threads_in a)) (lent_places k.code h (threads_in b))
  lent_there =
      subst (λ l. Reordered l (lent_places k.code h (threads_in b))) (sym (lent_gathered k.code g (threads_in a)))
      (subst (Reordered (gathered (lent_at k.code g) (threads_in a))) (sym (lent_gathered k.code h (threads_in b))) (reordered_by (lent_at k.code g) (lent_at k.code h) lent_same (threads_in a) (threads_in b) threads_there))

  lent_among : (l : Location) → is_among l (lent_places k.code g (threads_in a)) ≡ is_among l (lent_places k.code h (threads_in b))
  lent_among l =
      among_any l (lent_places k.code g (threads_in a)) ∙ any_same (λ x. same_location x l) lent_there ∙ sym (among_any l (lent_places k.code h (threads_in b)))

  stale_at : (l : Location) → is_among l s.stale ≡ is_among l t.stale
  stale_at l =
      let lents = lent_places k.code g (threads_in a) in
      let lents2 = lent_places k.code h (threads_in b) in
      same_truth (is_among l s.stale) (is_among l t.stale)
      (λ e. told z (Some l) (stale_moves lents lents2 (references g a) (references h b) (λ m f. sym (lent_among m) ∙ f) references_there.to l (tells k (Some l) e)))
      (λ e. told k (Some l) (stale_moves lents2 lents (references h b) (references g a) (λ m f. lent_among m ∙ f) references_there.from l (tells z (Some l) e)))

  pub stale_same : (l : Option Location) → is_stale s.stale l ≡ is_stale t.stale l
  stale_same None = refl
  stale_same (Some l) = stale_at l

  pub among_same : (l : Location) → is_among l s.stale ≡ is_among l t.stale
  among_same l = stale_at l

  -- POINTERS

  taken_of_same : (x : ThreadState) (p : Phase) (i : Option Instr) → taken_of g x p i ≡ taken_of h x p i
  taken_of_same x (phase.Taken w) (Some (instr.BorrowMut q)) = ap (taken_object w) (place_same g h thread_same cell_same x.number q)
  taken_of_same x _ _ = refl

  taken_same : (x : Standing) → taken_at k.code g x ≡ taken_at k.code h x
  taken_same x = taken_of_same x.thread x.thread.phase (slice_get k.code x.thread.pc)

  taken_there : Reordered (taken_pointers k.code g (threads_in a)) (taken_pointers k.code h (threads_in b))
  taken_there =
      subst (λ l. Reordered l (taken_pointers k.code h (threads_in b))) (sym (taken_gathered k.code g (threads_in a)))
      (subst (Reordered (gathered (taken_at k.code g) (threads_in a))) (sym (taken_gathered k.code h (threads_in b))) (reordered_by (taken_at k.code g) (taken_at k.code h) taken_same (threads_in a) (threads_in b) threads_there))

  pub all_there : Reordered (pointers_in a ++ taken_pointers k.code g (threads_in a)) (pointers_in b ++ taken_pointers k.code h (threads_in b))
  all_there =
      reordered_append (subst (λ l. Reordered l (pointers_in b)) (sym (pointers_gathered a)) (subst (Reordered (gathered pointers_of a)) (sym (pointers_gathered b)) (reordered_gathered pointers_of r))) taken_there

  pub standing_there : Reordered (standing_pointers s) (standing_pointers t)
  standing_there =
      reordered_append
      (subst (λ l. Reordered l (standing_in b)) (sym (standing_gathered a)) (subst (Reordered (gathered standing_pointers_of a)) (sym (standing_gathered b)) (reordered_gathered standing_pointers_of r))) taken_there

  fresh_same : (p : Pointer) → fresh_one s.stale p ≡ fresh_one t.stale p
  fresh_same p = ap (λ q. unless q p []) (stale_same p.at)

  pub pointers_there : Reordered s.pointers t.pointers
  pointers_there =
      let ps = pointers_in a ++ taken_pointers k.code g (threads_in a) in
      let qs = pointers_in b ++ taken_pointers k.code h (threads_in b) in
      subst (λ l. Reordered l t.pointers) (sym (fresh_gathered s.stale ps)) (subst (Reordered (gathered (fresh_one s.stale) ps)) (sym (fresh_gathered t.stale qs)) (reordered_by (fresh_one s.stale) (fresh_one t.stale) fresh_same ps qs all_there))

  dirty_same : (x : Thing) → dirty_at s.stale x ≡ dirty_at t.stale x
  dirty_same (borrows l q) = ap (λ p. if_dirty (q.dirty && not p) q.object []) (stale_at l)
  dirty_same _ = refl

  pub object_dirty_same : (o : ObjNo) → is_object_among o s.dirty ≡ is_object_among o t.dirty
  object_dirty_same o =
      ap (is_object_among o) (dirty_gathered s.stale a) ∙ object_any o (gathered (dirty_at s.stale) a) ∙ any_same (λ p. same_object p o) (reordered_by (dirty_at s.stale) (dirty_at t.stale) dirty_same a b r)
      ∙ sym (object_any o (gathered (dirty_at t.stale) b)) ∙ sym (ap (is_object_among o) (dirty_gathered t.stale b))

  -- WORDS, where no pointer that isn't stale has another word than its object's

  word_told : same_word_wrong t ≡ 0 → (o : ObjNo) (p : Pointer) → Among p t.pointers → same_object p.object o ≡ true → word t o ≡ Some p.word
  word_told n o p m e =
      let found_word : is_word (word t p.object) p.word ≡ true = is_so (is_word (word t p.object) p.word) (none_at (other_word t) p t.pointers n m) in
      subst (λ q. word t q ≡ Some p.word) (named p.object o e) (word_is (word t p.object) p.word found_word)

  pub word_same : same_word_wrong t ≡ 0 → (o : ObjNo) → word s o ≡ word t o
  word_same n o =
      word_picked s.pointers o ∙ picked_same (λ (p : Pointer). same_object p.object o) (λ (p : Pointer). p.word) pointers_there (λ p m e. sym (word_picked t.pointers o) ∙ word_told n o p m e) ∙ sym (word_picked t.pointers o)

  issued_at_same : same_word_wrong t ≡ 0 → (colours w : ℕ) (x : Thing) → is_issued_at colours s.pointers w x ≡ is_issued_at colours t.pointers w x
  issued_at_same n colours w (lies m i c) = ap (λ o. is_spot m i w && colour_up_to o w) (word_same n c.object)
  issued_at_same n colours w _ = refl

  pub issued_same : same_word_wrong t ≡ 0 → (w : ℕ) → issued s w ≡ issued t w
  issued_same n w =
      let colours = k.options.colours in
      issued_any colours s.pointers a w ∙ ap (λ f. any f a) (fun_ext (issued_at_same n colours w)) ∙ any_same (is_issued_at colours t.pointers w) r ∙ sym (issued_any colours t.pointers b w)

  -- THE CELL OF A WORD, where different objects have different words

  cell_words : (o : Option ℕ) (p : ObjNo) (x : Thing) → tot (λ (c : Cell). one (not (same_object c.object p) && is_word_of (word t c.object) o)) (cell_in x) ≡ same_words t o p x
  cell_words o p (lies m i c) = omega arith
  cell_words o p (flies w c) = omega arith
  cell_words o p _ = refl

  abbrev other_with : Cell → Cell → ℕ
  other_with c d = one (not (same_object d.object c.object) && is_word_of (word t d.object) (word t c.object))

  others_of : (c : Cell) → tot (other_with c) (cells_in b) ≡ tot (same_words t (word t c.object) c.object) b
  others_of c =
      ap (tot (other_with c)) (cells_gathered b) ∙ tot-gathered cell_in (other_with c) b
      ∙ tot_same (λ x. tot (other_with c) (cell_in x)) (same_words t (word t c.object) c.object) (cell_words (word t c.object) c.object) b

  sharing_of : (x : Thing) → tot (λ c. tot (other_with c) (cells_in b)) (cell_in x) ≡ shared_words t x
  sharing_of (lies m i c) = omega (arith, others_of c)
  sharing_of (flies w c) = omega (arith, others_of c)
  sharing_of _ = refl

  all_sharing : tot (λ c. tot (other_with c) (cells_in b)) (cells_in b) ≡ different_words_wrong t
  all_sharing =
      ap (tot (λ c. tot (other_with c) (cells_in b))) (cells_gathered b) ∙ tot-gathered cell_in (λ c. tot (other_with c) (cells_in b)) b
      ∙ tot_same (λ x. tot (λ c. tot (other_with c) (cells_in b)) (cell_in x)) (shared_words t) sharing_of b

  -- two cells whose objects have the word are one
  one_cell : different_words_wrong t ≡ 0 → (w : ℕ) (c d : Cell) → Among c (cells_in b) → Among d (cells_in b) → is_word (word t c.object) w ≡ true → is_word (word t d.object) w ≡ true → d ≡ c
  one_cell q w c d m n e f =
      let none : other_with c d ≡ 0 = none_at (other_with c) d (cells_in b) (none_at (λ c. tot (other_with c) (cells_in b)) c (cells_in b) (all_sharing ∙ q) m) n in
      let ws : is_word_of (word t d.object) (word t c.object) ≡ true = ap₂ is_word_of (word_is (word t d.object) w f) (word_is (word t c.object) w e) ∙ itself w in
      let same : d.object ≡ c.object = named d.object c.object (not_other (same_object d.object c.object) (is_word_of (word t d.object) (word t c.object)) none ws) in
      let few : tot (λ (y : Cell). one (same_object y.object c.object)) (cells_in b) ≤ 1 = omega (arith, cells_few b c.object, once.cells c.object) in
      let pick = one_picked (λ (y : Cell). same_object y.object c.object) (λ (y : Cell). y) (cells_in b) few in
      let both : Some d ≡ Some c = sym (pick d n (ap (λ o. same_object o c.object) same ∙ alike c.object)) ∙ pick c m (alike c.object) in
      cc

  cell_told : different_words_wrong t ≡ 0 → (w : ℕ) (c : Cell) → Among c (cells_in b) → is_word (word t c.object) w ≡ true → cell_of_word t.pointers (cells_in b) w ≡ Some c
  cell_told q w c m e = cell_word_picked t.pointers (cells_in b) w ∙ by (picked (λ (y : Cell). is_word (word t y.object) w) (λ (y : Cell). y) (cells_in b)) refl
    where
      by : (o : Option Cell) → picked (λ (y : Cell). is_word (word t y.object) w) (λ (y : Cell). y) (cells_in b) ≡ o → o ≡ Some c
      by None f = absurd (none_passes (λ (y : Cell). is_word (word t y.object) w) (λ (y : Cell). y) (cells_in b) f c m e)
      by (Some d) f = let u = found (λ (y : Cell). is_word (word t y.object) w) (λ (y : Cell). y) (cells_in b) d f in ap Some (sym u.is ∙ one_cell q w c u.item m u.among e u.passes)

  pub cell_of_word_same : same_word_wrong t ≡ 0 → different_words_wrong t ≡ 0 → (w : ℕ) → cell_of_word s.pointers (cells_in a) w ≡ cell_of_word t.pointers (cells_in b) w
  cell_of_word_same n d w =
      cell_word_picked s.pointers (cells_in a) w ∙ ap (λ (f : Cell → Bool). picked f (λ (y : Cell). y) (cells_in a)) (fun_ext (λ (c : Cell). ap (λ o. is_word o w) (word_same n c.object)))
      ∙ picked_same (λ (c : Cell). is_word (word t c.object) w) (λ (y : Cell). y) cells_there (λ c m e. sym (cell_word_picked t.pointers (cells_in b) w) ∙ cell_told d w c m e) ∙ sym (cell_word_picked t.pointers (cells_in b) w)

  if_clean_same : (o : Option Cell) → if_clean s o ≡ if_clean t o
  if_clean_same None = refl
  if_clean_same (Some c) = ap (λ q. unless_dirty q c) (object_dirty_same c.object)

  pub clean_same : same_word_wrong t ≡ 0 → different_words_wrong t ≡ 0 → (w : ℕ) → clean_cell s w ≡ clean_cell t w
  clean_same n d w = if_clean_same (cell_of_word s.pointers (cells_in a) w) ∙ ap (if_clean t) (cell_of_word_same n d w)
