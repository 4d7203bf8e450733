-- What a cell has becomes its thread's gift, or a gift comes to a cell: two clusters that have the same things but for the cell and the thread.
use Rattle.std.proofs.Common.{◌≡◌, ◌⊎◌, inl, inr, ⊎_elim, ℕ, Bool, false, List, [], ◌∷◌, Option, Some, None, refl, sym, ap, subst, ◌∙◌}
use Rattle.std.specs.Prelude.{slice_get}
use Rattle.law_words_asked.specs.Below.fr_base.declared.instruction.Instr.{Instr}
use Rattle.law_words_asked.specs.Below.fr_base.declared.name.ObjNo.{ObjNo}
use Rattle.law_words_asked.specs.Below.heap_partition.declared.value.Cell.{Cell}
use Rattle.law_words_asked.specs.Below.heap_partition.declared.value.Owned.{Owned}
use Rattle.law_words_asked.specs.Below.heap_partition.declared.value.Owned.TheVariants as owned
use Rattle.law_words_asked.specs.Below.mut_borrow.declared.mutable.MutRef.{MutRef}
use Rattle.law_words_asked.specs.Below.thread_state.View.{ThreadState}
use Rattle.law_words_asked.specs.Below.thread_state.declared.value.Value.{Value}
use Rattle.law_words_asked.specs.Below.thread_state.declared.value.Value.TheVariants as value
use Rattle.law_words_asked.specs.Below.server_model.Servers.{Cluster}
use Rattle.law_words_asked.specs.Below.coherent_memory.Names.{Among}
use Rattle.law_words_asked.specs.Below.coherent_memory.Things.{Location, at_slot, at_temp, in_cell, Thing, as_gift, holds, lies, stands, things_of}
use Rattle.law_words_asked.specs.Below.coherent_memory.Follow.{Ground, Standing, threads_in, thread_at, cell_of, slot_of, temp_of, value_of, value_in}
use Rattle.law_words_asked.specs.Below.coherent_memory.Sight.{Pointer, pointer_in, pointers_of, pointers_in, sight}
use Rattle.law_words_asked.specs.Below.coherent_memory.Placing.{standing_of, standing_in}
use Rattle.law_words_asked.proofs.Below.coherent_types.Branches.{found}
use Rattle.law_words_asked.proofs.Below.law_words_paths.paths.Contained.{among_thread}
use Rattle.law_words_asked.proofs.Below.law_words_paths.paths.Sole.{some_is}
use Rattle.law_words_asked.specs.Below.law_words_paths.words.Reworded.{HasPlaces, LiesThere}
use Rattle.law_words_asked.specs.Below.law_words_paths.words.Unmoved.{owning, seen_at, Taking, taking_by, taking_of, with_taking, takings}
use Rattle.law_words_asked.proofs.Below.law_words_paths.words.Alone.{of_standing}
use Rattle.law_words_asked.proofs.Below.law_words_paths.words.Loose.{box_nowhere}
use Rattle.law_words_asked.proofs.Below.law_words_paths.words.Standing.{CellOf, lying, flying, cell_found, cell_among, of_thing, pointers_among, standing_among, pointer_at, tells}
use Rattle.law_words_values.specs.carried.Carried.{Carried}
use Rattle.law_words_values.proofs.carried.Passing.{Quiet}
use Rattle.law_words_values.proofs.carried.Taken.{taker_of}

-- the cell without its value, and the thread with it
abbrev pub emptied : Cell → Cell
emptied e = record e { value = owned.Nothing }

abbrev pub given : ThreadState → Owned → ThreadState
given x u = record x { gift = Some u }

-- the first cluster has the cell with the value, the second one has it as the thread's gift
pub record Swapped (a b : Cluster) (n g : ℕ) (e : Cell) (x : ThreadState) : Type 0 where
  pub untaken : taking_by x.number x.phase (slice_get a.code x.pc) ≡ None
  pub code : b.code ≡ a.code
  pub on : (y : Thing) → Among y (things_of a) → (lies n g e ≡ y) ⊎ ((stands n false x ≡ y) ⊎ Among y (things_of b))
  pub back : (y : Thing) → Among y (things_of b) → (lies n g (emptied e) ≡ y) ⊎ ((stands n false (given x e.value) ≡ y) ⊎ ((holds (as_gift x.number) e.value ≡ y) ⊎ Among y (things_of a)))
  pub cell : Among (lies n g e) (things_of a)
  pub cell_after : Among (lies n g (emptied e)) (things_of b)
  pub thread : Among (stands n false x) (things_of a)
  pub thread_after : Among (stands n false (given x e.value)) (things_of b)
  pub gift_after : Among (holds (as_gift x.number) e.value) (things_of b)

-- THREADS AND CELLS AMONG THINGS

thread_thing : (x : Standing) (b : List Thing) → Among x (threads_in b) → Among (stands x.server x.packed x.thread) b
thread_thing x [] h = absurd h
thread_thing x (stands s p t ∷ b) (inl e) = inl (ap (λ (y : Standing). stands y.server y.packed y.thread) e)
thread_thing x (stands s p t ∷ b) (inr h) = inr (thread_thing x b h)
thread_thing x (_ ∷ b) h = inr (thread_thing x b h)

abbrev standing : ℕ → Bool → ThreadState → Standing
standing s p t = record { server = s; packed = p; thread = t }

same_standing : (s r : ℕ) (p q : Bool) (t u : ThreadState) → stands s p t ≡ stands r q u → standing s p t ≡ standing r q u
same_standing s r p q t u e = cc

thing_thread : (s : ℕ) (p : Bool) (t : ThreadState) (b : List Thing) → Among (stands s p t) b → Among (record { server = s; packed = p; thread = t }) (threads_in b)
thing_thread s p t [] h = absurd h
thing_thread s p t (stands r q u ∷ b) (inl e) = inl (same_standing r s q p u t e)
thing_thread s p t (stands r q u ∷ b) (inr h) = inr (thing_thread s p t b h)
thing_thread s p t (_ ∷ b) (inl e) = absurd cc
thing_thread s p t (_ ∷ b) (inr h) = thing_thread s p t b h

lies_stands : {r a s : ℕ} {p : Bool} {c : Cell} {t : ThreadState} → lies r a c ≡ stands s p t → ⊥
lies_stands e = absurd (cc e)

holds_stands : {q : Rattle.law_words_asked.specs.Below.coherent_memory.Things.Spot} {u : Owned} {s : ℕ} {p : Bool} {t : ThreadState} → holds q u ≡ stands s p t → ⊥
holds_stands e = absurd (cc e)

none_some : {A : Type 0} (x : A) → None ≡ Some x → ⊥
none_some x e = absurd (cc e)

cell_is : (c d : Cell) (r a : ℕ) (y : Thing) → CellOf c y → lies r a d ≡ y → d ≡ c
cell_is c d r a _ (lying s b) e = cc
cell_is c d r a _ (flying w) e = absurd (cc e)

stands_no_cell : (c : Cell) (s : ℕ) (p : Bool) (t : ThreadState) (y : Thing) → CellOf c y → stands s p t ≡ y → ⊥
stands_no_cell c s p t _ (lying r a) e = absurd (cc e)
stands_no_cell c s p t _ (flying w) e = absurd (cc e)

holds_no_cell : (c : Cell) (q : Rattle.law_words_asked.specs.Below.coherent_memory.Things.Spot) (u : Owned) (y : Thing) → CellOf c y → holds q u ≡ y → ⊥
holds_no_cell c q u _ (lying r a) e = absurd (cc e)
holds_no_cell c q u _ (flying w) e = absurd (cc e)

move_in : (m n : Option Location) (u : Owned) (p : Pointer) → Among p (pointer_in m u) → Among (record p { at = n }) (pointer_in n u)
move_in m n (owned.Box b) p (inl e) = inl (ap (λ (q : Pointer). record q { at = n }) e)
move_in m n (owned.Box b) p (inr h) = absurd h
move_in m n owned.Nothing p h = absurd h
move_in m n owned.Unit p h = absurd h
move_in m n (owned.Int i) p h = absurd h
move_in m n (owned.Mutex i) p h = absurd h
move_in m n (owned.Task i) p h = absurd h

taking_listed : (code : List Instr) (x : Standing) (t : Taking) (xs : List Standing) → Among x xs → taking_of code x ≡ Some t → Among t (takings code xs)
taking_listed code x t [] h e = absurd h
taking_listed code x t (y ∷ xs) (inl q) e =
    let here : taking_of code y ≡ Some t = ap (taking_of code) q ∙ e in
    subst (λ o. Among t (with_taking o (takings code xs))) (sym here) (inl refl)
taking_listed code x t (y ∷ xs) (inr h) e = by (taking_of code y) (taking_listed code x t xs h e)
  where
    by : (o : Option Taking) → Among t (takings code xs) → Among t (with_taking o (takings code xs))
    by None g = g
    by (Some u) g = inr g

no_reference : (u : Owned) (r : MutRef) → Some (value.Own u) ≡ Some (value.Mut r) → ⊥
no_reference u r e = absurd (cc e)

module _ (a b : Cluster) (n g : ℕ) (e : Cell) (x : ThreadState) (m : Swapped a b n g e x) (pa : HasPlaces a) (pb : HasPlaces b) where
  abbrev ga : Ground
  ga = (sight a).ground

  abbrev gb : Ground
  gb = (sight b).ground

  abbrev u : Owned
  u = e.value

  abbrev c : Location
  c = in_cell e.object

  abbrev sx : Standing
  sx = record { server = n; packed = false; thread = x }

  abbrev sy : Standing
  sy = record { server = n; packed = false; thread = given x u }

  -- WHAT STANDS WHERE

  at_a : thread_at ga.threads x.number ≡ Some sx
  at_a = found sx (things_of a) (pa.numbers_differ x.number) (thing_thread n false x (things_of a) m.thread)

  at_b : thread_at gb.threads x.number ≡ Some sy
  at_b = found sy (things_of b) (pb.numbers_differ x.number) (thing_thread n false (given x u) (things_of b) m.thread_after)

  module _ (read : Option Standing → Option Value) (same : read (Some sy) ≡ read (Some sx)) where
    shown : (r : ℕ) → read (thread_at gb.threads r) ≡ read (thread_at ga.threads r)
    shown r = by (thread_at ga.threads r) refl
      where
        here : (z : Standing) → thread_at ga.threads r ≡ Some z → read (thread_at gb.threads r) ≡ read (Some z)
        here z q =
            let i = among_thread ga.threads r z q in
            ⊎_elim (λ (f : lies n g e ≡ stands z.server z.packed z.thread). absurd (lies_stands f))
            (λ (h : (stands n false x ≡ stands z.server z.packed z.thread) ⊎ Among (stands z.server z.packed z.thread) (things_of b)).
            ⊎_elim
            (λ (f : stands n false x ≡ stands z.server z.packed z.thread).
            let is : sx ≡ z = same_standing n z.server false z.packed x z.thread f in
            let number : x.number ≡ r = ap (λ (y : Standing). y.thread.number) is ∙ i.1 in
            ap (λ j. read (thread_at gb.threads j)) (sym number) ∙ ap read at_b ∙ same ∙ ap (λ y. read (Some y)) is)
            (λ (f : Among (stands z.server z.packed z.thread) (things_of b)).
            ap (λ j. read (thread_at gb.threads j)) (sym i.1) ∙ ap read (found z (things_of b) (pb.numbers_differ z.thread.number) (thing_thread z.server z.packed z.thread (things_of b) f))) h)
            (m.on (stands z.server z.packed z.thread) (thread_thing z (things_of a) i.0))

        absent : (o : Option Standing) → thread_at gb.threads r ≡ o → thread_at ga.threads r ≡ None → read o ≡ read None
        absent None f q = refl
        absent (Some z) f q =
            let i = among_thread gb.threads r z f in
            ⊎_elim (λ (f : lies n g (emptied e) ≡ stands z.server z.packed z.thread). absurd (lies_stands f))
            (λ (h : (stands n false (given x u) ≡ stands z.server z.packed z.thread) ⊎ ((holds (as_gift x.number) u ≡ stands z.server z.packed z.thread) ⊎ Among (stands z.server z.packed z.thread) (things_of a))).
            ⊎_elim
            (λ (f : stands n false (given x u) ≡ stands z.server z.packed z.thread).
            let is : sy ≡ z = same_standing n z.server false z.packed (given x u) z.thread f in
            let number : x.number ≡ r = ap (λ (y : Standing). y.thread.number) is ∙ i.1 in
            absurd (none_some sx (sym q ∙ ap (thread_at ga.threads) (sym number) ∙ at_a)))
            (λ (h : (holds (as_gift x.number) u ≡ stands z.server z.packed z.thread) ⊎ Among (stands z.server z.packed z.thread) (things_of a)).
            ⊎_elim (λ (f : holds (as_gift x.number) u ≡ stands z.server z.packed z.thread). absurd (holds_stands f))
            (λ (f : Among (stands z.server z.packed z.thread) (things_of a)).
            absurd (none_some z (sym q ∙ ap (thread_at ga.threads) (sym i.1) ∙ found z (things_of a) (pa.numbers_differ z.thread.number) (thing_thread z.server z.packed z.thread (things_of a) f)))) h) h)
            (m.back (stands z.server z.packed z.thread) (thread_thing z (things_of b) i.0))

        by : (o : Option Standing) → thread_at ga.threads r ≡ o → read (thread_at gb.threads r) ≡ read o
        by None q = absent (thread_at gb.threads r) refl q
        by (Some z) q = here z q

  pub value_before : value_in ga c ≡ Some (value.Own u)
  value_before = ap value_of (cell_found e (lies n g e) (things_of a) (pa.home_of_each e.object) (lying n g) m.cell)

  pub value_after : value_in gb c ≡ Some (value.Own owned.Nothing)
  value_after = ap value_of (cell_found (emptied e) (lies n g (emptied e)) (things_of b) (pb.home_of_each e.object) (lying n g) m.cell_after)

  cells_same : (p : ObjNo) → (p ≡ e.object → ⊥) → cell_of gb.cells p ≡ cell_of ga.cells p
  cells_same p other = by (cell_of ga.cells p) refl
    where
      here : (d : Cell) → cell_of ga.cells p ≡ Some d → cell_of gb.cells p ≡ Some d
      here d q =
          let i = cell_among p d (things_of a) q in
          ⊎_elim (λ (f : lies n g e ≡ i.thing). absurd (other (sym i.object ∙ ap (λ (y : Cell). y.object) (sym (cell_is d e n g i.thing i.is f)))))
          (λ (h : (stands n false x ≡ i.thing) ⊎ Among i.thing (things_of b)).
          ⊎_elim (λ (f : stands n false x ≡ i.thing). absurd (stands_no_cell d n false x i.thing i.is f))
          (λ (f : Among i.thing (things_of b)). ap (cell_of gb.cells) (sym i.object) ∙ cell_found d i.thing (things_of b) (pb.home_of_each d.object) i.is f) h) (m.on i.thing i.among)

      absent : (o : Option Cell) → cell_of gb.cells p ≡ o → cell_of ga.cells p ≡ None → o ≡ None
      absent None f q = refl
      absent (Some d) f q =
          let i = cell_among p d (things_of b) f in
          ⊎_elim (λ (f : lies n g (emptied e) ≡ i.thing). absurd (other (sym i.object ∙ ap (λ (y : Cell). y.object) (sym (cell_is d (emptied e) n g i.thing i.is f)))))
          (λ (h : (stands n false (given x u) ≡ i.thing) ⊎ ((holds (as_gift x.number) u ≡ i.thing) ⊎ Among i.thing (things_of a))).
          ⊎_elim (λ (f : stands n false (given x u) ≡ i.thing). absurd (stands_no_cell d n false (given x u) i.thing i.is f))
          (λ (h : (holds (as_gift x.number) u ≡ i.thing) ⊎ Among i.thing (things_of a)).
          ⊎_elim (λ (f : holds (as_gift x.number) u ≡ i.thing). absurd (holds_no_cell d (as_gift x.number) u i.thing i.is f))
          (λ (f : Among i.thing (things_of a)). absurd (none_some d (sym q ∙ ap (cell_of ga.cells) (sym i.object) ∙ cell_found d i.thing (things_of a) (pa.home_of_each d.object) i.is f))) h) h) (m.back i.thing i.among)

      by : (o : Option Cell) → cell_of ga.cells p ≡ o → cell_of gb.cells p ≡ o
      by None q = absent (cell_of gb.cells p) refl q
      by (Some d) q = here d q

  pub elsewhere : (l : Location) → (l ≡ c → ⊥) → value_in gb l ≡ value_in ga l
  elsewhere (at_slot r i) f = shown (λ o. slot_of o i) refl r
  elsewhere (at_temp r i) f = shown (λ o. temp_of o i) refl r
  elsewhere (in_cell p) f = ap value_of (cells_same p (λ q. f (ap in_cell q)))

  -- POINTERS

  no_pointers : (q : Pointer) (y : Thing) → lies n g (emptied e) ≡ y → Among q (pointers_of y) → ⊥
  no_pointers q y f h = (let none : Among q [] = subst (λ z. Among q (pointers_of z)) (sym f) h in none)

  loose_back : (q : Pointer) → q.at ≡ None → Among q (pointers_in (things_of b)) → Among q (pointers_in (things_of a)) ⊎ Among (record q { at = Some c }) (pointers_in (things_of a))
  loose_back q nowhere h =
      let t = of_thing q (things_of b) h in
      ⊎_elim (λ (f : lies n g (emptied e) ≡ t.thing). absurd (no_pointers q t.thing f t.pointer))
      (λ (h : (stands n false (given x u) ≡ t.thing) ⊎ ((holds (as_gift x.number) u ≡ t.thing) ⊎ Among t.thing (things_of a))).
      ⊎_elim (λ (f : stands n false (given x u) ≡ t.thing). absurd (let none : Among q [] = subst (λ z. Among q (pointers_of z)) (sym f) t.pointer in none))
      (λ (h : (holds (as_gift x.number) u ≡ t.thing) ⊎ Among t.thing (things_of a)).
      ⊎_elim
      (λ (f : holds (as_gift x.number) u ≡ t.thing).
      let its : Among q (pointer_in None u) = subst (λ z. Among q (pointers_of z)) (sym f) t.pointer in
      inr (pointers_among (record q { at = Some c }) (lies n g e) (things_of a) m.cell (move_in None (Some c) u q its)))
      (λ (f : Among t.thing (things_of a)). inl (pointers_among q t.thing (things_of a) f t.pointer)) h) h) (m.back t.thing t.among)

  loose_on : (q : Pointer) → q.at ≡ None → Among q (pointers_in (things_of a)) → Among q (pointers_in (things_of b))
  loose_on q nowhere h =
      let t = of_thing q (things_of a) h in
      ⊎_elim (λ (f : lies n g e ≡ t.thing). absurd (box_nowhere c u q (subst (λ z. Among q (pointers_of z)) (sym f) t.pointer) nowhere))
      (λ (h : (stands n false x ≡ t.thing) ⊎ Among t.thing (things_of b)).
      ⊎_elim (λ (f : stands n false x ≡ t.thing). absurd (let none : Among q [] = subst (λ z. Among q (pointers_of z)) (sym f) t.pointer in none))
      (λ (f : Among t.thing (things_of b)). pointers_among q t.thing (things_of b) f t.pointer) h) (m.on t.thing t.among)

  standing_back : (q : Pointer) → q.at ≡ None → Among q (standing_in (things_of b)) → Among q (standing_in (things_of a)) ⊎ Among (record q { at = Some c }) (standing_in (things_of a))
  standing_back q nowhere h =
      let t = of_standing q (things_of b) h in
      ⊎_elim (λ (f : lies n g (emptied e) ≡ t.thing). absurd (let none : Among q [] = subst (λ z. Among q (standing_of z)) (sym f) t.pointer in none))
      (λ (h : (stands n false (given x u) ≡ t.thing) ⊎ ((holds (as_gift x.number) u ≡ t.thing) ⊎ Among t.thing (things_of a))).
      ⊎_elim (λ (f : stands n false (given x u) ≡ t.thing). absurd (let none : Among q [] = subst (λ z. Among q (standing_of z)) (sym f) t.pointer in none))
      (λ (h : (holds (as_gift x.number) u ≡ t.thing) ⊎ Among t.thing (things_of a)).
      ⊎_elim
      (λ (f : holds (as_gift x.number) u ≡ t.thing).
      let its : Among q (pointer_in None u) = subst (λ z. Among q (standing_of z)) (sym f) t.pointer in
      inr (standing_among (record q { at = Some c }) (lies n g e) (things_of a) m.cell (move_in None (Some c) u q its)))
      (λ (f : Among t.thing (things_of a)). inl (standing_among q t.thing (things_of a) f t.pointer)) h) h) (m.back t.thing t.among)

  standing_on : (q : Pointer) → q.at ≡ None → Among q (standing_in (things_of a)) → Among q (standing_in (things_of b))
  standing_on q nowhere h =
      let t = of_standing q (things_of a) h in
      ⊎_elim (λ (f : lies n g e ≡ t.thing). absurd (box_nowhere c u q (subst (λ z. Among q (standing_of z)) (sym f) t.pointer) nowhere))
      (λ (h : (stands n false x ≡ t.thing) ⊎ Among t.thing (things_of b)).
      ⊎_elim (λ (f : stands n false x ≡ t.thing). absurd (let none : Among q [] = subst (λ z. Among q (standing_of z)) (sym f) t.pointer in none))
      (λ (f : Among t.thing (things_of b)). standing_among q t.thing (things_of b) f t.pointer) h) (m.on t.thing t.among)

  -- the pointer of the cell is the gift's
  given_pointer : (q : Pointer) → q.at ≡ Some c → Among q (pointers_in (things_of a)) → Among (record q { at = None }) (pointer_in None u)
  given_pointer q at h =
      let t = tells a pa q c h at in
      let same : t.value ≡ value.Own u = some_is (sym t.stands ∙ value_before) in
      move_in (Some c) None u q (subst (λ v. Among q (pointer_at c v)) same t.pointer)

  -- TAKINGS AND CELLS

  takes_back : (t : Taking) → Among t (takings b.code gb.threads) → Among t (takings a.code ga.threads)
  takes_back t h =
      let q = taker_of b.code gb.threads t h in
      let z = q.taker in
      let its : taking_of a.code z ≡ Some t = ap (λ i. taking_of i z) (sym m.code) ∙ q.taking in
      ⊎_elim (λ (f : lies n g (emptied e) ≡ stands z.server z.packed z.thread). absurd (lies_stands f))
      (λ (h : (stands n false (given x u) ≡ stands z.server z.packed z.thread) ⊎ ((holds (as_gift x.number) u ≡ stands z.server z.packed z.thread) ⊎ Among (stands z.server z.packed z.thread) (things_of a))).
      ⊎_elim
      (λ (f : stands n false (given x u) ≡ stands z.server z.packed z.thread).
      let is : sy ≡ z = same_standing n z.server false z.packed (given x u) z.thread f in
      absurd (none_some t (sym m.untaken ∙ ap (taking_of a.code) is ∙ its)))
      (λ (h : (holds (as_gift x.number) u ≡ stands z.server z.packed z.thread) ⊎ Among (stands z.server z.packed z.thread) (things_of a)).
      ⊎_elim (λ (f : holds (as_gift x.number) u ≡ stands z.server z.packed z.thread). absurd (holds_stands f))
      (λ (f : Among (stands z.server z.packed z.thread) (things_of a)). taking_listed a.code z t ga.threads (thing_thread z.server z.packed z.thread (things_of a) f) its) h) h)
      (m.back (stands z.server z.packed z.thread) (thread_thing z (things_of b) q.among))

  takes_on : (t : Taking) → Among t (takings a.code ga.threads) → Among t (takings b.code gb.threads)
  takes_on t h =
      let q = taker_of a.code ga.threads t h in
      let z = q.taker in
      let its : taking_of b.code z ≡ Some t = ap (λ i. taking_of i z) m.code ∙ q.taking in
      ⊎_elim (λ (f : lies n g e ≡ stands z.server z.packed z.thread). absurd (lies_stands f))
      (λ (h : (stands n false x ≡ stands z.server z.packed z.thread) ⊎ Among (stands z.server z.packed z.thread) (things_of b)).
      ⊎_elim
      (λ (f : stands n false x ≡ stands z.server z.packed z.thread).
      let is : sx ≡ z = same_standing n z.server false z.packed x z.thread f in
      absurd (none_some t (sym m.untaken ∙ ap (taking_of a.code) is ∙ q.taking)))
      (λ (f : Among (stands z.server z.packed z.thread) (things_of b)). taking_listed b.code z t gb.threads (thing_thread z.server z.packed z.thread (things_of b) f) its) h)
      (m.on (stands z.server z.packed z.thread) (thread_thing z (things_of a) q.among))

  lies_same : {r s q t : ℕ} {d f : Cell} → lies r s d ≡ lies q t f → (r ≡ q) × (s ≡ t) × (d ≡ f)
  lies_same w = (cc, cc, cc)

  lay_back : (r s : ℕ) (d : Cell) → Among (lies r s d) (things_of b) → LiesThere a r s d.object
  lay_back r s d h =
      ⊎_elim
      (λ (f : lies n g (emptied e) ≡ lies r s d).
      let w = lies_same f in
      record { cell = e; among = subst (λ i. Among (lies i s e) (things_of a)) w.0 (subst (λ i. Among (lies n i e) (things_of a)) w.1 m.cell); object = ap (λ (y : Cell). y.object) w.2 })
      (λ (h : (stands n false (given x u) ≡ lies r s d) ⊎ ((holds (as_gift x.number) u ≡ lies r s d) ⊎ Among (lies r s d) (things_of a))).
      ⊎_elim (λ (f : stands n false (given x u) ≡ lies r s d). absurd (cc f))
      (λ (h : (holds (as_gift x.number) u ≡ lies r s d) ⊎ Among (lies r s d) (things_of a)).
      ⊎_elim (λ (f : holds (as_gift x.number) u ≡ lies r s d). absurd (cc f)) (λ (f : Among (lies r s d) (things_of a)). record { cell = d; among = f; object = refl }) h) h) (m.back (lies r s d) h)

  lay_on : (r s : ℕ) (d : Cell) → Among (lies r s d) (things_of a) → LiesThere b r s d.object
  lay_on r s d h =
      ⊎_elim
      (λ (f : lies n g e ≡ lies r s d).
      let w = lies_same f in
      record { cell = emptied e; among = subst (λ i. Among (lies i s (emptied e)) (things_of b)) w.0 (subst (λ i. Among (lies n i (emptied e)) (things_of b)) w.1 m.cell_after); object = ap (λ (y : Cell). y.object) w.2 })
      (λ (h : (stands n false x ≡ lies r s d) ⊎ Among (lies r s d) (things_of b)).
      ⊎_elim (λ (f : stands n false x ≡ lies r s d). absurd (cc f)) (λ (f : Among (lies r s d) (things_of b)). record { cell = d; among = f; object = refl }) h) (m.on (lies r s d) h)

  some_location : {l k : Location} → Some l ≡ Some k → l ≡ k
  some_location f = cc

  -- THE VALUE GOES, OR COMES

  pub cell_given : Quiet a b (Some c) None → Carried a b (Some c) None
  cell_given q = record {
    stands = λ l f h. ap (seen_at l) (elsewhere l (λ w. f (ap Some w)));
    carried = λ l k f h. absurd (cc h);
    left = λ l f. ap (λ k. owning (value_in gb k)) (some_location (sym f)) ∙ ap owning value_after;
    free = λ k f. absurd (cc f);
    ends = λ l r f h is. no_reference u r (sym value_before ∙ ap (value_in ga) (some_location f) ∙ is);
    begins = λ k r f h is. absurd (cc f);
    thread = λ l k w f h. absurd (cc h);
    holders = q.holders;
    unmade = q.unmade;
    taken = q.taken;
    untaken = q.untaken;
    takes = takes_back;
    took = takes_on;
    loose = λ p f h. ⊎_elim (λ (w : Among p (pointers_in (things_of a))). inl w) (λ (w : Among (record p { at = Some c }) (pointers_in (things_of a))). inr (refl, w)) (loose_back p f h);
    remain = λ p f h. inl (loose_on p f h);
    standing = λ p f h. ⊎_elim (λ (w : Among p (standing_in (things_of a))). inl w) (λ (w : Among (record p { at = Some c }) (standing_in (things_of a))). inr (refl, w)) (standing_back p f h);
    out = λ l p f h at w. pointers_among (record p { at = None }) (holds (as_gift x.number) u) (things_of b) m.gift_after (given_pointer p (at ∙ sym f) w);
    into = λ k p f h at w. absurd (cc f);
    lay = lay_back;
  }

  pub gift_stored : Quiet b a None (Some c) → Carried b a None (Some c)
  gift_stored q = record {
    stands = λ l f h. ap (seen_at l) (sym (elsewhere l (λ w. h (ap Some w))));
    carried = λ l k f h. absurd (cc f);
    left = λ l f. absurd (cc f);
    free = λ k f. ap (λ l. owning (value_in gb l)) (some_location (sym f)) ∙ ap owning value_after;
    ends = λ l r f h is. absurd (cc f);
    begins = λ k r f h is. no_reference u r (sym value_before ∙ ap (value_in ga) (some_location f) ∙ is);
    thread = λ l k w f h. absurd (cc f);
    holders = q.holders;
    unmade = q.unmade;
    taken = q.taken;
    untaken = q.untaken;
    takes = takes_on;
    took = takes_back;
    loose = λ p f h. inl (loose_on p f h);
    remain = λ p f h. ⊎_elim (λ (w : Among p (pointers_in (things_of a))). inl w) (λ (w : Among (record p { at = Some c }) (pointers_in (things_of a))). inr (refl, w)) (loose_back p f h);
    standing = λ p f h. inl (standing_on p f h);
    out = λ l p f h at w. absurd (cc f);
    into = λ k p f h at w. standing_among (record p { at = None }) (holds (as_gift x.number) u) (things_of b) m.gift_after (given_pointer p (at ∙ sym f) w);
    lay = lay_on;
  }
