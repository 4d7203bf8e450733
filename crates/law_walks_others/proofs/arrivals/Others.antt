-- The places of other threads lead where they led after the delivery of a `moved`, over the same pointers: a box that gets another word is one to the object that comes, and that
-- stands in a chain of the slots of the thread that it comes to.
use Rattle.std.proofs.Common.{◌≡◌, ℕ, zero, suc, ◌+◌, ◌≤◌, ◌<◌, ◌==◌, ◌&&◌, Bool, true, false, Option, Some, None, is_some, refl, sym, ap, subst, ◌∙◌, arith}
use Rattle.std.specs.Prelude.{slice_get, length}
use Rattle.std.proofs.lemmas.Bool.{eq-eqb}
use Rattle.law_counts_waiting.specs.Below.fr_base.declared.place.Lval.{Lval}
use Rattle.law_counts_waiting.specs.Below.fr_base.declared.name.ObjNo.{ObjNo}
use Rattle.law_counts_waiting.specs.Below.fr_base.declared.label.Plain.{Plain}
use Rattle.law_counts_waiting.specs.Below.fr_base.declared.instruction.Instr.{Instr}
use Rattle.law_counts_waiting.specs.Below.fr_base.declared.instruction.Instr.TheVariants as instr
use Rattle.law_counts_waiting.specs.Below.fr_base.Names.{same_object}
use Rattle.law_counts_waiting.specs.Below.law_words_asked.Below.fr_sound.Seen.{seen_cell}
use Rattle.law_counts_waiting.specs.Below.heap_partition.Same.{same_owned}
use Rattle.law_counts_waiting.specs.Below.heap_partition.declared.value.BoxPtr.{BoxPtr}
use Rattle.law_counts_waiting.specs.Below.heap_partition.declared.value.Cell.{Cell}
use Rattle.law_counts_waiting.specs.Below.heap_partition.declared.value.Owned.{Owned}
use Rattle.law_counts_waiting.specs.Below.heap_partition.declared.value.Owned.TheVariants as owned
use Rattle.law_counts_waiting.specs.Below.thread_state.View.{is_over}
use Rattle.law_counts_waiting.specs.Below.thread_state.declared.value.Value.TheVariants as value
use Rattle.law_counts_waiting.specs.Below.server_model.Servers.{Cluster}
use Rattle.law_counts_waiting.specs.Below.coherent_memory.Names.{tot, one, other, if_so, Among}
use Rattle.law_counts_waiting.specs.Below.coherent_memory.Things.{Location, in_cell, Thing, lies, flies, stands, sent, things_of}
use Rattle.law_counts_waiting.specs.Below.coherent_memory.Follow.{Standing, Ground, thread_at, cell_of, slot_of, value_of, value_in, value_behind, leads, locate}
use Rattle.law_counts_waiting.specs.Below.coherent_memory.OneHeap.{object_value}
use Rattle.law_counts_waiting.specs.Below.coherent_memory.Paths.{Path, no_path, reads, shares, lends, writes, ends, path_of}
use Rattle.law_counts_waiting.specs.Below.coherent_memory.Rooted.{is_end, dressed}
use Rattle.law_counts_waiting.specs.Below.coherent_memory.Sight.{sight}
use Rattle.law_counts_waiting.specs.Below.coherent_memory.Weights.{lies_at}
use Rattle.law_counts_waiting.specs.Below.coherent_memory.Walking.{instr_of, path}
use Rattle.law_counts_waiting.proofs.Below.coherent_memory.Names.{and_left, and_right}
use Rattle.law_counts_waiting.proofs.Below.coherent_memory.Words.{none_at}
use Rattle.law_counts_waiting.specs.Below.law_words_paths.paths.HeapStore.{GoesOn, HasPaths}
use Rattle.law_counts_waiting.proofs.Below.law_words_paths.paths.Alike.{IsShown, a_slot, an_object, leads_in_heap}
use Rattle.law_counts_waiting.proofs.Below.law_words_paths.paths.Contained.{among_thread}
use Rattle.law_counts_waiting.proofs.Below.law_words_paths.paths.Shown.{object_shown}
use Rattle.law_counts_waiting.specs.Below.law_words_paths.words.Reworded.{HasPlaces}
use Rattle.law_counts_waiting.specs.Below.law_words_paths.words.Unmoved.{pointing}
use Rattle.law_counts_waiting.proofs.Below.law_words_paths.words.Standing.{CellOf, lying, flying, cell_among, cell_found}
use Rattle.law_walks_others.proofs.Below.law_heap_still.events.Tests.{objects}
use Rattle.law_walks_others.proofs.Below.law_heap_still.events.Told.{told, same_told, thread_told, tot_same, found}
use Rattle.law_walks_others.specs.Below.law_counts_waiting.waits.Places.{Follows}
use Rattle.law_walks_others.proofs.Below.law_counts_waiting.waits.Found.{weighing, among_weighs}
use Rattle.law_walks_others.proofs.Below.law_counts_waiting.waits.Written.{Written}
use Rattle.law_walks_others.proofs.pointers.Cells.{Seeing, cell_weight}
use Rattle.law_walks_others.proofs.pointers.Sentences.{SameHops, SameOn}
use Rattle.law_walks_others.proofs.pointers.Still.{shows}
use Rattle.law_walks_others.proofs.pointers.Others.{follows_apart}
use Rattle.law_walks_others.proofs.pointers.Tests.{owneds, same_value, values}
use Rattle.law_walks_others.proofs.pointers.Ways.{OnPath, on_path}
use Rattle.law_walks_others.proofs.arrivals.Seen.{Fits, Leaves}

truly : (b : Bool) → 1 ≤ one b → b ≡ true
truly true l = refl
truly false l = absurd (omega (arith, l))

both : (p q : Bool) → p ≡ true → q ≡ true → (p && q) ≡ true
both true q a b = b
both false q a b = absurd (cc a)

none_true : (b : Bool) → other b ≡ 0 → b ≡ true
none_true true z = refl
none_true false z = absurd (cc z)

-- a box to the object
pub data BoxTo (o : ObjNo) : Owned → Type 0 where
  box_to : (b : BoxPtr) → b.object ≡ o → BoxTo o (owned.Box b)

is_box_to : (o : ObjNo) (v : Owned) (P : Type 0) → (BoxTo o v → P) → ((BoxTo o v → ⊥) → P) → P
is_box_to o (owned.Box b) P box no_box = by (same_object b.object o) refl
  where
    by : (q : Bool) → same_object b.object o ≡ q → P
    by true e = box (box_to b (objects.tells b.object o e))
    by false e = no_box (λ h. differs h)
      where
        differs : BoxTo o (owned.Box b) → ⊥
        differs (box_to _ f) = absurd (cc (sym e ∙ subst (λ z. same_object b.object z ≡ true) f (objects.itself b.object)))
is_box_to o owned.Nothing P box no_box = no_box (λ h. elim h [ ])
is_box_to o owned.Unit P box no_box = no_box (λ h. elim h [ ])
is_box_to o (owned.Int n) P box no_box = no_box (λ h. elim h [ ])
is_box_to o (owned.Mutex n) P box no_box = no_box (λ h. elim h [ ])
is_box_to o (owned.Task n) P box no_box = no_box (λ h. elim h [ ])

-- WHAT A WEIGHT OF CELLS SEES

abbrev cells_see : ObjNo → Owned → Seeing
cells_see q v = record { cells = λ r z u. one (same_object z q && same_owned u v); threads = λ s b u. 0; messages = λ s m. 0 }

abbrev lying_at : ℕ → ObjNo → Option ℕ → ObjNo → ℕ
lying_at r o None q = 0
lying_at r o (Some s) q = one (s == r && same_object q o)

abbrev lies_see : ℕ → ObjNo → Seeing
lies_see r q = record { cells = λ s z v. lying_at r q s z; threads = λ s b u. 0; messages = λ s m. 0 }

cells_fit : (cell : Cell) (q : ObjNo) (v : Owned) → (BoxTo cell.object v → ⊥) → Fits cell.object (cells_see q v)
cells_fit cell q v apart = record {
  threads = λ r b u. refl;
  messages = λ r m. refl;
  words = λ r new z b e. (let none : one (same_object z q && same_owned (owned.Box b) v) ≡ 0 = unseen z b e in omega (arith, none));
}
  where
    unseen : (z : ObjNo) (b : BoxPtr) → b.object ≡ cell.object → one (same_object z q && same_owned (owned.Box b) v) ≡ 0
    unseen z b e = by (same_object z q) (same_owned (owned.Box b) v) refl
      where
        by : (p w : Bool) → same_owned (owned.Box b) v ≡ w → one (p && w) ≡ 0
        by p true f = absurd (apart (subst (BoxTo cell.object) (owneds.tells (owned.Box b) v f) (box_to b e)))
        by true false f = refl
        by false false f = refl

lies_fit : (cell : Cell) (r : ℕ) (q : ObjNo) → Fits cell.object (lies_see r q)
lies_fit cell r q = record { threads = λ s b u. refl; messages = λ s m. refl; words = λ s new z b e. omega arith }

cells_so : (q : ObjNo) (v : Owned) (x : Thing) → cell_weight (cells_see q v) x ≡ shows q v x
cells_so q v (lies s a d) = refl
cells_so q v (flies w d) = refl
cells_so q v (stands s b u) = refl
cells_so q v (sent s m) = refl
cells_so q v _ = refl

lies_so : (r : ℕ) (q : ObjNo) (x : Thing) → cell_weight (lies_see r q) x ≡ lies_at r q x
lies_so r q (lies s a d) = refl
lies_so r q (flies w d) = refl
lies_so r q (stands s b u) = refl
lies_so r q (sent s m) = refl
lies_so r q _ = refl

module _ (k c : Cluster) (server : ℕ) (cell : Cell) (t : ℕ) (before : HasPlaces k) (after : HasPlaces c) (leaves : Leaves k server cell t c) where
  abbrev G : Ground
  G = (sight k).ground

  abbrev G2 : Ground
  G2 = (sight c).ground

  abbrev o : ObjNo
  o = cell.object

  cells_left : (q : ObjNo) (v : Owned) → (BoxTo o v → ⊥) → tot (shows q v) (things_of k) ≤ tot (shows q v) (things_of c)
  cells_left q v apart = omega (arith, leaves.cells (cells_see q v) (cells_fit cell q v apart), tot_same (λ x. cell_weight (cells_see q v) x) (shows q v) (cells_so q v) (things_of k), tot_same (λ x. cell_weight (cells_see q v) x) (shows q v) (cells_so q v) (things_of c))

  -- each object lies where it lay
  pub lies_left : (r : ℕ) (q : ObjNo) → tot (lies_at r q) (things_of k) ≤ tot (lies_at r q) (things_of c)
  lies_left r q = omega (arith, leaves.cells (lies_see r q) (lies_fit cell r q), tot_same (λ x. cell_weight (lies_see r q) x) (lies_at r q) (lies_so r q) (things_of k), tot_same (λ x. cell_weight (lies_see r q) x) (lies_at r q) (lies_so r q) (things_of c))

  -- and the object that comes lies at the server
  pub lies_new : 1 ≤ tot (lies_at server o) (things_of c)
  lies_new =
      let it : one (server == server && same_object o o) ≡ 1 = ap one (both (server == server) (same_object o o) (eq-eqb server server refl) (objects.itself o)) in
      omega (arith, it, leaves.cells (lies_see server o) (lies_fit cell server o), tot_same (λ x. cell_weight (lies_see server o) x) (lies_at server o) (lies_so server o) (things_of c))

  -- THREADS

  -- who stands then stood before, and no count tells it from what it was
  pub record Stood (y : Standing) : Type 0 where
    pub standing : Standing
    pub among : Among standing G.threads
    pub number : standing.thread.number ≡ y.thread.number
    pub same : (g : Standing → ℕ) → g y ≡ g standing

  pub stood : (y : Standing) → Among y G2.threads → (t ≡ y.thread.number → ⊥) → Stood y
  stood y among ne = by (thread_at G.threads n) refl
    where
      n : ℕ
      n = y.thread.number

      there : thread_at G2.threads n ≡ Some y
      there = found y (things_of c) (after.numbers_differ n) among

      as_much : (g : Standing → ℕ) → told g (thread_at G.threads n) ≡ g y
      as_much g =
          let is : told g (thread_at G2.threads n) ≡ g y = ap (told g) there in
          omega (arith, is, leaves.threads g n ne, thread_told g n (things_of k) (before.numbers_differ n), thread_told g n (things_of c) (after.numbers_differ n))

      by : (z : Option Standing) → thread_at G.threads n ≡ z → Stood y
      by None e = let no : told (λ u. 1) (thread_at G.threads n) ≡ 0 = ap (told (λ u. 1)) e in absurd (omega (arith, no, as_much (λ u. 1)))
      by (Some x) e =
          let listed = among_thread G.threads n x e in
          record { standing = x; among = listed.0; number = listed.1; same = λ g. sym (as_much g) ∙ ap (told g) e }

  -- CELLS

  cell_same : (q : ObjNo) (z : Cell) → (BoxTo o z.value → ⊥) → cell_of G.cells q ≡ Some z → value_of (cell_of G2.cells q) ≡ Some (value.Own z.value)
  cell_same q z free there =
      let a = cell_among q z (things_of k) there in
      let mine : shows q z.value a.thing ≡ 1 = weighs a.thing a.is a.object in
      let r = weighing (shows q z.value) (things_of c) (omega (arith, cells_left q z.value free, mine, among_weighs (shows q z.value) a.thing (things_of k) a.among)) in
      by r.thing r.among r.weighs
    where
      weighs : (y : Thing) → CellOf z y → z.object ≡ q → shows q z.value y ≡ 1
      weighs _ (lying s a) e = ap one (both (same_object z.object q) (same_owned z.value z.value) (subst (λ p. same_object z.object p ≡ true) e (objects.itself z.object)) (owneds.itself z.value))
      weighs _ (flying u) e = ap one (both (same_object z.object q) (same_owned z.value z.value) (subst (λ p. same_object z.object p ≡ true) e (objects.itself z.object)) (owneds.itself z.value))

      it : (z2 : Cell) (y : Thing) → CellOf z2 y → Among y (things_of c) → 1 ≤ one (same_object z2.object q && same_owned z2.value z.value) → value_of (cell_of G2.cells q) ≡ Some (value.Own z.value)
      it z2 y is h l =
          let all = truly (same_object z2.object q && same_owned z2.value z.value) l in
          let object : z2.object ≡ q = objects.tells z2.object q (and_left (same_object z2.object q) (same_owned z2.value z.value) all) in
          let value_is : z2.value ≡ z.value = owneds.tells z2.value z.value (and_right (same_object z2.object q) (same_owned z2.value z.value) all) in
          ap value_of (subst (λ p. cell_of G2.cells p ≡ Some z2) object (cell_found z2 y (things_of c) (after.home_of_each z2.object) is h)) ∙ ap (λ v. Some (value.Own v)) value_is

      by : (y : Thing) → Among y (things_of c) → 1 ≤ shows q z.value y → value_of (cell_of G2.cells q) ≡ Some (value.Own z.value)
      by (lies s a z2) h l = it z2 (lies s a z2) (lying s a) h l
      by (flies u z2) h l = it z2 (flies u z2) (flying u) h l
      by _ h l = absurd (omega (arith, l))

  -- PLACES

  module _ (p : HasPaths k) (written_there : Written k p t o) (y : Standing) (s : Stood y) (g : GoesOn k s.standing) (listed : Among y G2.threads) (ne : t ≡ y.thread.number → ⊥) (w : Lval) (follows : Follows k s.standing w) where
    abbrev x : Standing
    x = s.standing

    abbrev n : ℕ
    n = x.thread.number

    here : thread_at G.threads n ≡ Some x
    here = found x (things_of k) (before.numbers_differ n) s.among

    there : thread_at G2.threads n ≡ Some y
    there = ap (thread_at G2.threads) s.number ∙ found y (things_of c) (after.numbers_differ y.thread.number) listed

    slot_same : (i : ℕ) → slice_get y.thread.slots i ≡ slice_get x.thread.slots i
    slot_same i = same_told same_value values (slice_get y.thread.slots i) (slice_get x.thread.slots i) (λ f. s.same (λ u. told f (slice_get u.thread.slots i)))

    -- no star of the place follows a box to the object
    not_to_it : (m : ℕ) → m < w.depth → (q : ObjNo) (z : Cell) → locate G n w.slot m ≡ Some (in_cell q) → cell_of G.cells q ≡ Some z → BoxTo o z.value → ⊥
    not_to_it m lt q z located at b = by z.value b (ap value_of at)
      where
        by : (v : Owned) → BoxTo o v → value_in G (in_cell q) ≡ Some (value.Own v) → ⊥
        by _ (box_to pointer e) stands_there =
            let next : locate G n w.slot (suc m) ≡ Some (in_cell o) = ap (λ l. leads n (value_behind G l)) located ∙ ap (leads n) stands_there ∙ ap (λ a. Some (in_cell a)) e in
            ne (sym (follows_apart k p x g w follows (suc m) (in_cell o) (omega (arith, lt)) next t o refl written_there) ∙ s.number)

    value_same : (m : ℕ) (l : Location) → m < w.depth → locate G n w.slot m ≡ Some l → IsShown k p x g l → value_in G2 l ≡ value_in G l
    value_same m _ lt located (a_slot i) = ap (λ a. slot_of a i) there ∙ slot_same i ∙ sym (ap (λ a. slot_of a i) here)
    value_same m _ lt located (an_object q v e) = by (object_value (sight k) q) refl e
      where
        by : (z : Option Plain) → object_value (sight k) q ≡ z → seen_cell p.types.typing.gives z ≡ Some v → value_in G2 (in_cell q) ≡ value_in G (in_cell q)
        by None z f = absurd (cc f)
        by (Some a) z f = let b = object_shown (sight k) q a z in cell_same q b.0 (not_to_it m lt q b.0 located b.1) b.1 ∙ sym (ap value_of b.1)

    behind_same : (m : ℕ) → m < w.depth → (l : Option Location) → locate G n w.slot m ≡ l → value_behind G2 l ≡ value_behind G l
    behind_same m lt None e = refl
    behind_same m lt (Some l) e = value_same m l lt e (leads_in_heap k p x g w.slot m l e).1

    place_same : (m : ℕ) → m ≤ w.depth → locate G2 n w.slot m ≡ locate G n w.slot m
    place_same zero le = refl
    place_same (suc m) le = let lt : m < w.depth = omega (arith, le) in ap (λ l. leads n (value_behind G2 l)) (place_same m (omega (arith, le))) ∙ ap (leads n) (behind_same m lt (locate G n w.slot m) refl)

    pub hops_same : SameHops k c n w
    hops_same m lt = ap pointing (ap (value_behind G2) (place_same m (omega (arith, lt))) ∙ behind_same m lt (locate G n w.slot m) refl)

  -- PATHS

  module _ (p : HasPaths k) (written_there : Written k p t o) (y : Standing) (s : Stood y) (listed : Among y G2.threads) (ne : t ≡ y.thread.number → ⊥) where
    -- who goes on follows the same pointers, and who is over none
    going_on : GoesOn k s.standing → SameOn k c s.standing.thread.number (path (sight k) s.standing)
    going_on g =
        by (path (sight k) s.standing)
        (on_path k s.standing (SameHops k c s.standing.thread.number) (λ w e m lt. absurd (omega (arith, lt, e))) (λ w f. hops_same p written_there y s g listed ne w f))
      where
        by : (q : Path) → OnPath (SameHops k c s.standing.thread.number) q → SameOn k c s.standing.thread.number q
        by no_path h = tt
        by (reads w) h = h
        by (shares w) h = h
        by (lends w) h = h
        by (writes w) h = h
        by (ends r) h = h

    over_none : is_over s.standing.thread.phase ≡ true → path (sight k) s.standing ≡ no_path
    over_none e =
        let all : dressed (sight k) s.standing ≡ 0 = none_at (dressed (sight k)) s.standing G.threads p.over_are_bare s.among in
        let mine : if_so true (other (is_end (instr_of (sight k) s.standing)) + length s.standing.thread.slots + length s.standing.thread.temps + one (is_some s.standing.thread.gift)) ≡ 0 =
        subst (λ b. if_so b (other (is_end (instr_of (sight k) s.standing)) + length s.standing.thread.slots + length s.standing.thread.temps + one (is_some s.standing.thread.gift)) ≡ 0) e all in
        at_end (instr_of (sight k) s.standing) (none_true (is_end (instr_of (sight k) s.standing)) (omega (arith, mine)))
      where
        at_end : (i : Option Instr) → is_end i ≡ true → path_of i s.standing.thread ≡ no_path
        at_end (Some (instr.End a)) f = refl
        at_end i f = absurd (cc f)

    pub same_there : SameOn k c s.standing.thread.number (path (sight k) s.standing)
    same_there = by (is_over s.standing.thread.phase) refl
      where
        by : (b : Bool) → is_over s.standing.thread.phase ≡ b → SameOn k c s.standing.thread.number (path (sight k) s.standing)
        by true e = subst (SameOn k c s.standing.thread.number) (sym (over_none e)) tt
        by false e = going_on (record { among = s.among; going = e })
