-- A pointer in a slot gets the next colour: the clusters with the thread put back are the same but for its word.
use Rattle.std.proofs.Common.{◌≡◌, ◌≢◌, ◌⊎◌, inl, inr, ⊎_elim, ℕ, ◌==◌, ◌||◌, not, Bool, true, false, nat_lt, if◌then◌else◌, List, [], ◌∷◌, ◌++◌, length, map, Option, Some, None, refl, sym, ap, subst, ◌∙◌, arith}
use Rattle.std.specs.Prelude.{slice_get, slice_set}
use Rattle.std.proofs.lemmas.Bool.Decides.{nat_tests}
use Rattle.std.proofs.lemmas.List.{append_assoc}
use Rattle.law_words_paths.specs.Below.fr_base.declared.name.ObjNo.{ObjNo}
use Rattle.law_words_paths.specs.Below.global_addr.Words.{server_of, address_of, next_word}
use Rattle.law_words_paths.specs.Below.heap_partition.declared.value.BoxPtr.{BoxPtr}
use Rattle.law_words_paths.specs.Below.heap_partition.declared.value.Cell.{Cell}
use Rattle.law_words_paths.specs.Below.heap_partition.declared.value.Owned.TheVariants as owned
use Rattle.law_words_paths.specs.Below.mut_borrow.declared.mutable.MutRef.{MutRef}
use Rattle.law_words_paths.specs.Below.mut_borrow.Refs.{changed}
use Rattle.law_words_paths.specs.Below.thread_state.View.{ThreadState}
use Rattle.law_words_paths.specs.Below.thread_state.declared.value.Value.{Value}
use Rattle.law_words_paths.specs.Below.thread_state.declared.value.Value.TheVariants as value
use Rattle.law_words_paths.specs.Below.server_model.Servers.{Cluster}
use Rattle.law_words_paths.specs.Below.server_model.Work.{Hand, then_some}
use Rattle.law_words_paths.specs.Below.server_model.NewWords.{issue_tint}
use Rattle.law_words_paths.specs.Below.server_model.Places.{in_slot as spot_slot, put_slot, took, with_word, set_pointer, put_word}
use Rattle.law_words_paths.specs.Below.coherent_memory.Names.{Among}
use Rattle.law_words_paths.specs.Below.coherent_memory.Things.{Location, at_slot, at_temp, in_cell, Thing, lies, thread_things, things_of}
use Rattle.law_words_paths.specs.Below.coherent_memory.Follow.{Standing, threads_in, thread_at, cells_in, cell_of, slot_of, temp_of, value_of, value_in}
use Rattle.law_words_paths.specs.Below.coherent_memory.Sight.{sight}
use Rattle.law_words_paths.specs.Below.coherent_memory.Words.{LeadsTo}
use Rattle.law_words_paths.proofs.Below.coherent_memory.Bags.{among_split}
use Rattle.law_words_paths.proofs.Below.coherent_types.Branches.{found}
use Rattle.law_words_paths.proofs.paths.Sole.{some_is}
use Rattle.law_words_paths.proofs.paths.Origins.{threads_joined, among_first, among_second}
use Rattle.law_words_paths.proofs.paths.Contained.{rest_none}
use Rattle.law_words_paths.specs.words.Reworded.{HasPlaces, is_loose, turn_of, Renewed, LiesThere, Reworded}
use Rattle.law_words_paths.specs.words.PutBack.{put_in, StandsHere, SlotsReword, TintRewords}
use Rattle.law_words_paths.proofs.words.Grounds.{renews}
use Rattle.law_words_paths.proofs.words.Put.{Split, put_split}
use Rattle.law_words_paths.proofs.words.Slots.{set_same, set_other, cells_joined, thread_replaced, turns_replaced, among_replaced, thread_cells, lying_in, fixed_old, fixed_new, loose_after, loose_before}

-- WHAT THE STEP DOES

-- the hand with that value in the slot
abbrev pub with_slot : ℕ → Value → Hand → Hand
with_slot i new h = record h { thread = record h.thread { slots = slice_set h.thread.slots i new } }

pub record SlotPut (h h2 : Hand) (i w : ℕ) (v : Value) : Type 0 where
  pub new : Value
  pub worded : with_word w v ≡ Some new
  pub thread : h2.thread ≡ (with_slot i new h).thread
  pub rest : h2.work.rest ≡ h.work.rest

pub word_put : (h h2 : Hand) (i w : ℕ) (v : Value) → slice_get h.thread.slots i ≡ Some v → set_pointer (spot_slot i) w h ≡ Some h2 → SlotPut h h2 i w v
word_put h h2 i w v at e = by (with_word w v) refl (subst (λ o. then_some o (λ u. then_some (with_word w u) (λ new. put_slot i new h)) ≡ Some h2) at e)
  where
    tested : (new : Value) → with_word w v ≡ Some new → (b : Bool) → (if b then Some (with_slot i new h) else None) ≡ Some h2 → SlotPut h h2 i w v
    tested new q true f = let s : with_slot i new h ≡ h2 = some_is f in record { new = new; worded = q; thread = ap (λ (y : Hand). y.thread) (sym s); rest = ap (λ (y : Hand). y.work.rest) (sym s) }
    tested new q false f = absurd cc

    by : (o : Option Value) → with_word w v ≡ o → then_some o (λ new. put_slot i new h) ≡ Some h2 → SlotPut h h2 i w v
    by None q f = absurd cc
    by (Some new) q f = tested new q (nat_lt i (length h.thread.slots)) f

pub slot_put : (h h2 : Hand) (i : ℕ) (v : Value) (p : BoxPtr) → slice_get h.thread.slots i ≡ Some v → put_word (spot_slot i) (issue_tint p h.work) h ≡ Some h2 → SlotPut h h2 i (next_word p.word) v
slot_put h h2 i v p at e = let q = word_put (record h { work = (issue_tint p h.work).work }) h2 i (next_word p.word) v at e in record { new = q.new; worded = q.worded; thread = q.thread; rest = q.rest }

-- a tint leads where the word led
pub next_leads : (r a w : ℕ) → LeadsTo r a w → LeadsTo r a (next_word w)
next_leads r a w l =
    let s : server_of (next_word w) ≡ server_of w = omega arith in
    let t : address_of (next_word w) ≡ address_of w = omega arith in
    record { server = s ∙ l.server; address = t ∙ l.address }

-- a reference with another word than its first is changed
not_first : (r : MutRef) (w : ℕ) → w ≢ r.first → changed (took r w) ≡ true
not_first r w n = by (w == r.first) refl
  where
    by : (b : Bool) → (w == r.first) ≡ b → (false || not (w == r.first)) ≡ true
    by true e = let s : w ≡ r.first = grind (arith, nat_tests, e) in absurd (n s)
    by false e = ap (λ b. false || not b) e

module _ (a b : Cluster) (n i w : ℕ) (t : ThreadState) (v new : Value) (old : slice_get t.slots i ≡ Some v) (renewed : Renewed w v new)
    (s : Split (things_of a) (things_of b) (thread_things n false t) (thread_things n false (record t { slots = slice_set t.slots i new }))) (code : b.code ≡ a.code) (c : HasPlaces a) (d : HasPlaces b) where
  abbrev u : ThreadState
  u = record t { slots = slice_set t.slots i new }

  abbrev x : Standing
  x = record { server = n; packed = false; thread = t }

  abbrev y : Standing
  y = record { server = n; packed = false; thread = u }

  -- THREADS AND CELLS

  parts : (l m r : List Thing) (z : Standing) → threads_in m ≡ z ∷ [] → threads_in (l ++ m ++ r) ≡ threads_in l ++ (z ∷ threads_in r)
  parts l m r z e = threads_joined (l ++ m) r ∙ ap (λ q. q ++ threads_in r) (threads_joined l m) ∙ ap (λ q. threads_in l ++ q ++ threads_in r) e ∙ append_assoc (threads_in l) (z ∷ []) (threads_in r)

  threads_a : threads_in (things_of a) ≡ threads_in s.left ++ (x ∷ threads_in s.right)
  threads_a = ap threads_in s.before ∙ parts s.left (thread_things n false t) s.right x (ap (λ q. x ∷ q) (rest_none n t))

  threads_b : threads_in (things_of b) ≡ threads_in s.left ++ (y ∷ threads_in s.right)
  threads_b = ap threads_in s.after ∙ parts s.left (thread_things n false u) s.right y (ap (λ q. y ∷ q) (rest_none n u))

  cells_parts : (l m r : List Thing) → cells_in m ≡ [] → cells_in (l ++ m ++ r) ≡ cells_in l ++ cells_in r
  cells_parts l m r e = cells_joined (l ++ m) r ∙ ap (λ q. q ++ cells_in r) (cells_joined l m ∙ ap (λ q. cells_in l ++ q) e ∙ nil_right (cells_in l))
    where
      nil_right : (k : List Cell) → k ++ [] ≡ k
      nil_right [] = refl
      nil_right (z ∷ k) = ap (λ q. z ∷ q) (nil_right k)

  cells_same : cells_in (things_of b) ≡ cells_in (things_of a)
  cells_same = ap cells_in s.after ∙ cells_parts s.left (thread_things n false u) s.right (thread_cells n u) ∙ sym (cells_parts s.left (thread_things n false t) s.right (thread_cells n t)) ∙ sym (ap cells_in s.before)

  at_a : thread_at (sight a).ground.threads t.number ≡ Some x
  at_a = found x (things_of a) (c.numbers_differ t.number) (subst (λ q. Among x q) (sym threads_a) (among_replaced (threads_in s.left) (threads_in s.right) x))

  at_b : thread_at (sight b).ground.threads t.number ≡ Some y
  at_b = found y (things_of b) (d.numbers_differ t.number) (subst (λ q. Among y q) (sym threads_b) (among_replaced (threads_in s.left) (threads_in s.right) y))

  replaced : (m : ℕ) → (thread_at (sight b).ground.threads m ≡ thread_at (sight a).ground.threads m) ⊎ ((t.number ≡ m) × (thread_at (sight a).ground.threads m ≡ Some x) × (thread_at (sight b).ground.threads m ≡ Some y))
  replaced m =
      ⊎_elim
      (λ (e : thread_at (threads_in s.left ++ (y ∷ threads_in s.right)) m ≡ thread_at (threads_in s.left ++ (x ∷ threads_in s.right)) m). inl (ap (λ q. thread_at q m) threads_b ∙ e ∙ sym (ap (λ q. thread_at q m) threads_a)))
      (λ (e : (t.number ≡ m) × (thread_at (threads_in s.left ++ (x ∷ threads_in s.right)) m ≡ Some x) × (thread_at (threads_in s.left ++ (y ∷ threads_in s.right)) m ≡ Some y)). inr (e.0, ap (λ q. thread_at q m) threads_a ∙ e.1, ap (λ q. thread_at q m) threads_b ∙ e.2))
      (thread_replaced (threads_in s.left) (threads_in s.right) x y m refl)

  -- VALUES

  elsewhere : (l : Location) → (l ≡ at_slot t.number i → ⊥) → value_in (sight b).ground l ≡ value_in (sight a).ground l
  elsewhere (at_slot m j) f =
      ⊎_elim (λ (e : thread_at (sight b).ground.threads m ≡ thread_at (sight a).ground.threads m). ap (λ o. slot_of o j) e)
      (λ (e : (t.number ≡ m) × (thread_at (sight a).ground.threads m ≡ Some x) × (thread_at (sight b).ground.threads m ≡ Some y)).
      ap (λ o. slot_of o j) e.2 ∙ set_other t.slots i j new (λ q. f (ap (λ k. at_slot k j) (sym e.0) ∙ ap (at_slot t.number) q)) ∙ sym (ap (λ o. slot_of o j) e.1)) (replaced m)
  elsewhere (at_temp m j) f =
      ⊎_elim (λ (e : thread_at (sight b).ground.threads m ≡ thread_at (sight a).ground.threads m). ap (λ o. temp_of o j) e)
      (λ (e : (t.number ≡ m) × (thread_at (sight a).ground.threads m ≡ Some x) × (thread_at (sight b).ground.threads m ≡ Some y)). ap (λ o. temp_of o j) e.2 ∙ sym (ap (λ o. temp_of o j) e.1)) (replaced m)
  elsewhere (in_cell o) f = ap (λ q. value_of (cell_of q o)) cells_same

  -- WHAT STANDS AT NO LOCATION

  around : (y : Thing) (l m k r : List Thing) → (Among y m → Among y k) → Among y (l ++ m ++ r) → Among y (l ++ k ++ r)
  around y l m k r go h =
      ⊎_elim (λ (q : Among y (l ++ m)). among_first y (l ++ k) r (⊎_elim (λ (z : Among y l). among_first y l k z) (λ (z : Among y m). among_second y l k (go z)) (among_split y l m q))) (λ (q : Among y r). among_second y (l ++ k) r q)
      (among_split y (l ++ m) r h)

  loose : (y : Thing) → Among y (things_of b) → is_loose y ≡ true → Among y (things_of a)
  loose y h e =
      let go = loose_after n i t new y (λ j. fixed_new n t.number j w v new renewed) e in
      subst (λ q. Among y q) (sym s.before) (around y s.left (thread_things n false u) (thread_things n false t) s.right go (subst (λ q. Among y q) s.after h))

  remain : (y : Thing) → Among y (things_of a) → is_loose y ≡ true → Among y (things_of b)
  remain y h e =
      let go = loose_before n i t v new y old (λ j. fixed_old n t.number j w v new renewed) e in
      subst (λ q. Among y q) (sym s.after) (around y s.left (thread_things n false t) (thread_things n false u) s.right go (subst (λ q. Among y q) s.before h))

  -- WHAT LIES

  still_lies : (l m k r : List Thing) (j g : ℕ) (z : Cell) → cells_in m ≡ [] → Among (lies j g z) (l ++ m ++ r) → Among (lies j g z) (l ++ k ++ r)
  still_lies l m k r j g z e h = around (lies j g z) l m k r (λ f. let none : Among z [] = subst (λ cs. Among z cs) e (lying_in j g z m f) in absurd none) h

  lies_before : (j g : ℕ) (z : Cell) → Among (lies j g z) (things_of b) → Among (lies j g z) (things_of a)
  lies_before j g z h = subst (λ q. Among (lies j g z) q) (sym s.before) (still_lies s.left (thread_things n false u) (thread_things n false t) s.right j g z (thread_cells n u) (subst (λ q. Among (lies j g z) q) s.after h))

  lies_after : (j g : ℕ) (z : Cell) → Among (lies j g z) (things_of a) → Among (lies j g z) (things_of b)
  lies_after j g z h = subst (λ q. Among (lies j g z) q) (sym s.after) (still_lies s.left (thread_things n false t) (thread_things n false u) s.right j g z (thread_cells n t) (subst (λ q. Among (lies j g z) q) s.before h))

  -- ALL OF IT

  pub slot_reworded : (o : ObjNo) → ((r : MutRef) → new ≡ value.Mut r → changed r ≡ true) → (j g : ℕ) → LiesThere a j g o → ((m k : ℕ) (z : Cell) → Among (lies m k z) (things_of a) → z.object ≡ o → LeadsTo m k w) → Reworded a b (at_slot t.number i) o w
  slot_reworded o ch j g there leads = record {
    code = code;
    old = v;
    new = new;
    stood = ap (λ q. slot_of q i) at_a ∙ old;
    renewed = renewed;
    stands = ap (λ q. slot_of q i) at_b ∙ set_same t.slots i v new old;
    changed = ch;
    elsewhere = elsewhere;
    turns = ap (map turn_of) threads_b ∙ turns_replaced (threads_in s.left) (threads_in s.right) x y refl ∙ sym (ap (map turn_of) threads_a);
    loose = loose;
    remain = λ y h e f. remain y h e;
    server = j;
    address = g;
    lying = record { cell = there.cell; among = lies_after j g there.cell there.among; object = there.object };
    leads = λ m k z h e. leads m k z (lies_before m k z h) e;
    lay = λ m k z h e. record { cell = z; among = lies_before m k z h; object = refl };
  }

-- a mutable reference that got the word is changed
worded_changed : (w : ℕ) (v new : Value) → with_word w v ≡ Some new → ((r : MutRef) → v ≡ value.Mut r → w ≢ r.first) → (r : MutRef) → new ≡ value.Mut r → changed r ≡ true
worded_changed w (value.Mut q) new e f r g =
    let s : value.Mut (took q w) ≡ value.Mut r = some_is e ∙ g in
    let same : took q w ≡ r = cc in
    subst (λ m. changed m ≡ true) same (not_first q w (f q refl))
worded_changed w (value.Own (owned.Box p)) new e f r g = let s : value.Own (owned.Box (record p { word = w })) ≡ value.Mut r = some_is e ∙ g in absurd cc
worded_changed w _ new e f r g = absurd cc

pub slots_reword : SlotsReword
slots_reword k n ts e h h2 i w v p here at points put c d home firsts =
    let q = word_put h h2 i w v at put in
    let number : h2.thread.number ≡ h.thread.number = ap (λ (y : ThreadState). y.number) q.thread in
    let split : Split (things_of (put_in k n ts e h)) (things_of (put_in k n ts e h2)) (thread_things n false h.thread) (thread_things n false h2.thread) = put_split k n ts e h h2 here q.rest number in
    let there : Split (things_of (put_in k n ts e h)) (things_of (put_in k n ts e h2)) (thread_things n false h.thread) (thread_things n false (with_slot i q.new h).thread) =
    subst (λ y. Split (things_of (put_in k n ts e h)) (things_of (put_in k n ts e h2)) (thread_things n false h.thread) (thread_things n false y)) q.thread split in
    slot_reworded (put_in k n ts e h) (put_in k n ts e h2) n i w h.thread v q.new at (renews w v q.new q.worded) there refl c d p.object (worded_changed w v q.new q.worded firsts) home.server home.address home.lying home.leads

pub tint_rewords : TintRewords
tint_rewords k n ts e h h2 i v p here at points put c d home firsts =
    let h3 = record h { work = (issue_tint p h.work).work } in
    slots_reword k n ts e h3 h2 i (next_word p.word) v p (record { server = here.server; number = here.number; thread = here.thread }) at points put c d
    (record { server = home.server; address = home.address; lying = home.lying; leads = λ r a y m f. next_leads r a p.word (home.leads r a y m f) }) firsts

-- what stands in a slot of the hand's thread stands there in the cluster
pub slot_stands : (k : Cluster) (n : ℕ) (ts : List ThreadState) (e : ℕ) (h : Hand) (i : ℕ) (v : Value) → StandsHere k n ts h → HasPlaces (put_in k n ts e h) → slice_get h.thread.slots i ≡ Some v
    → value_in (sight (put_in k n ts e h)).ground (at_slot h.thread.number i) ≡ Some v
slot_stands k n ts e h i v here c at =
    let x : Standing = record { server = n; packed = false; thread = h.thread } in
    let kh = put_in k n ts e h in
    let s : Split (things_of kh) (things_of kh) (thread_things n false h.thread) (thread_things n false h.thread) = put_split k n ts e h h here refl refl in
    let one : threads_in (thread_things n false h.thread) ≡ x ∷ [] = ap (λ q. x ∷ q) (rest_none n h.thread) in
    let all : threads_in (things_of kh) ≡ threads_in s.left ++ (x ∷ threads_in s.right) =
    ap threads_in s.before ∙ threads_joined (s.left ++ thread_things n false h.thread) s.right ∙ ap (λ q. q ++ threads_in s.right) (threads_joined s.left (thread_things n false h.thread))
    ∙ ap (λ q. threads_in s.left ++ q ++ threads_in s.right) one ∙ append_assoc (threads_in s.left) (x ∷ []) (threads_in s.right) in
    let there : thread_at (threads_in (things_of kh)) h.thread.number ≡ Some x = found x (things_of kh) (c.numbers_differ h.thread.number) (subst (λ q. Among x q) (sym all) (among_replaced (threads_in s.left) (threads_in s.right) x)) in
    ap (λ o. slot_of o i) there ∙ at
