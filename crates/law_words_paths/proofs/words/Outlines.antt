-- A pointer through which an object is written stays so where only words, marks and pins change.
use Rattle.std.proofs.Common.{◌≡◌, ◌⊎◌, inl, inr, ⊎_elim, ℕ, ◌≤◌, false, true, List, [], ◌∷◌, map, Option, Some, None, refl, sym, ap, subst, ◌∙◌, arith}
use Rattle.std.specs.Prelude.{slice_get}
use Rattle.law_words_paths.specs.Below.fr_base.declared.instruction.Instr.{Instr}
use Rattle.law_words_paths.specs.Below.fr_base.declared.instruction.Instr.TheVariants as instr
use Rattle.law_words_paths.specs.Below.fr_base.declared.name.ObjNo.{ObjNo}
use Rattle.law_words_paths.specs.Below.fr_base.declared.place.Lval.{Lval}
use Rattle.law_words_paths.specs.Below.heap_partition.declared.value.BoxPtr.{BoxPtr}
use Rattle.law_words_paths.specs.Below.heap_partition.declared.value.Cell.{Cell}
use Rattle.law_words_paths.specs.Below.heap_partition.declared.value.Owned.TheVariants as owned
use Rattle.law_words_paths.specs.Below.mut_borrow.declared.mutable.MutRef.{MutRef}
use Rattle.law_words_paths.specs.Below.thread_state.declared.phase.Phase.{Phase}
use Rattle.law_words_paths.specs.Below.thread_state.declared.phase.Phase.TheVariants as phase
use Rattle.law_words_paths.specs.Below.thread_state.declared.value.Value.{Value}
use Rattle.law_words_paths.specs.Below.thread_state.declared.value.Value.TheVariants as value
use Rattle.law_words_paths.specs.Below.server_model.Servers.{Cluster}
use Rattle.law_words_paths.specs.Below.coherent_memory.Names.{Among}
use Rattle.law_words_paths.specs.Below.coherent_memory.Things.{Location, in_cell, Thing, flies, lies, things_of}
use Rattle.law_words_paths.specs.Below.coherent_memory.Weights.{cells}
use Rattle.law_words_paths.specs.Below.coherent_memory.Follow.{Ground, Standing, value_in, leads, place_at}
use Rattle.law_words_paths.specs.Below.coherent_memory.Stale.{Reference, references, holder_of, is_held_at}
use Rattle.law_words_paths.specs.Below.coherent_memory.Sight.{Pointer, pointers_in, pointers_of, taken_object, taken_pointers, sight}
use Rattle.law_words_paths.specs.Below.coherent_memory.Placing.{standing_of, standing_in, standing_pointers}
use Rattle.law_words_paths.specs.Below.coherent_memory.Words.{all_pointers}
use Rattle.law_words_paths.proofs.Below.coherent_memory.Bags.{among_split}
use Rattle.law_words_paths.proofs.Below.coherent_memory.Words.{itself}
use Rattle.law_words_paths.specs.Below.coherent_memory.Names.{one, same_object}
use Rattle.law_words_paths.specs.paths.Pointing.{Above, made_from, made_below}
use Rattle.law_words_paths.proofs.paths.InState.{only_one}
use Rattle.law_words_paths.proofs.paths.Origins.{among_first, among_second}
use Rattle.law_words_paths.proofs.paths.Contained.{reference_there}
use Rattle.law_words_paths.specs.words.Reworded.{HasPlaces, LiesThere, Renewed, a_box, a_reference, Reworded, Turn, turn_of, taken_word}
use Rattle.law_words_paths.specs.words.Unmoved.{pointing, Taking, taking_by, with_taking, takings, Unmoved}
use Rattle.law_words_paths.specs.words.Soles.{IsSole, outline, SameOutlines, SolesStay}
use Rattle.law_words_paths.proofs.words.Standing.{pointer_at, tells, told, borrow_stands, of_thing, standing_among}
use Rattle.law_words_paths.proofs.words.Loose.{unplaced_standing}
use Rattle.law_words_paths.proofs.words.Follows.{holders_lead, places_lead}
use Rattle.law_words_paths.proofs.words.Grounds.{of_borrows, same_place}
use Rattle.law_words_paths.proofs.words.Takings.{takens_are, taken_listed, taken_told}

-- OUTLINES

pub leads_outline : (t : ℕ) (v : Option Value) → leads t (outline v) ≡ leads t v
leads_outline t None = refl
leads_outline t (Some value.Gone) = refl
leads_outline t (Some (value.Own (owned.Box p))) = refl
leads_outline t (Some (value.Own owned.Nothing)) = refl
leads_outline t (Some (value.Own owned.Unit)) = refl
leads_outline t (Some (value.Own (owned.Int n))) = refl
leads_outline t (Some (value.Own (owned.Mutex m))) = refl
leads_outline t (Some (value.Own (owned.Task u))) = refl
leads_outline t (Some (value.SharedSlot i)) = refl
leads_outline t (Some (value.MutSlot i)) = refl
leads_outline t (Some (value.Shared r)) = refl
leads_outline t (Some (value.Mut r)) = refl
leads_outline t (Some (value.Held m)) = refl

outline_pointing : (v : Option Value) → outline (pointing v) ≡ outline v
outline_pointing None = refl
outline_pointing (Some value.Gone) = refl
outline_pointing (Some (value.Own (owned.Box p))) = refl
outline_pointing (Some (value.Own owned.Nothing)) = refl
outline_pointing (Some (value.Own owned.Unit)) = refl
outline_pointing (Some (value.Own (owned.Int n))) = refl
outline_pointing (Some (value.Own (owned.Mutex m))) = refl
outline_pointing (Some (value.Own (owned.Task u))) = refl
outline_pointing (Some (value.SharedSlot i)) = refl
outline_pointing (Some (value.MutSlot i)) = refl
outline_pointing (Some (value.Shared r)) = refl
outline_pointing (Some (value.Mut r)) = refl
outline_pointing (Some (value.Held m)) = refl

-- a mutable reference with that outline
abbrev pub plain : MutRef → MutRef
plain r = record r { word = 0; dirty = false }

same_reference : (r q : MutRef) → Some (value.Mut (plain r)) ≡ Some (value.Mut (plain q)) → plain r ≡ plain q
same_reference r q e = cc

pub outlined_reference : (v : Option Value) (q : MutRef) → outline v ≡ outline (Some (value.Mut q)) → (r : MutRef) × (v ≡ Some (value.Mut r)) × (plain r ≡ plain q)
outlined_reference None q e = absurd cc
outlined_reference (Some value.Gone) q e = absurd cc
outlined_reference (Some (value.Own (owned.Box p))) q e = absurd cc
outlined_reference (Some (value.Own owned.Nothing)) q e = absurd cc
outlined_reference (Some (value.Own owned.Unit)) q e = absurd cc
outlined_reference (Some (value.Own (owned.Int n))) q e = absurd cc
outlined_reference (Some (value.Own (owned.Mutex m))) q e = absurd cc
outlined_reference (Some (value.Own (owned.Task u))) q e = absurd cc
outlined_reference (Some (value.SharedSlot i)) q e = absurd cc
outlined_reference (Some (value.MutSlot i)) q e = absurd cc
outlined_reference (Some (value.Shared r)) q e = absurd cc
outlined_reference (Some (value.Mut r)) q e = (r, refl, same_reference r q e)
outlined_reference (Some (value.Held m)) q e = absurd cc

-- a box with that outline
one_box : (p q : BoxPtr) → Some (value.Own (owned.Box p)) ≡ Some (value.Own (owned.Box q)) → p ≡ q
one_box p q e = cc

same_box : (p q : BoxPtr) → Some (value.Own (owned.Box (record p { word = 0 }))) ≡ Some (value.Own (owned.Box (record q { word = 0 }))) → p.object ≡ q.object
same_box p q e = ap (λ (b : BoxPtr). b.object) (one_box (record p { word = 0 }) (record q { word = 0 }) e)

outlined_box : (v : Option Value) (q : BoxPtr) → outline v ≡ outline (Some (value.Own (owned.Box q))) → (p : BoxPtr) × (v ≡ Some (value.Own (owned.Box p))) × (p.object ≡ q.object)
outlined_box None q e = absurd cc
outlined_box (Some value.Gone) q e = absurd cc
outlined_box (Some (value.Own (owned.Box p))) q e = (p, refl, same_box p q e)
outlined_box (Some (value.Own owned.Nothing)) q e = absurd cc
outlined_box (Some (value.Own owned.Unit)) q e = absurd cc
outlined_box (Some (value.Own (owned.Int n))) q e = absurd cc
outlined_box (Some (value.Own (owned.Mutex m))) q e = absurd cc
outlined_box (Some (value.Own (owned.Task u))) q e = absurd cc
outlined_box (Some (value.SharedSlot i)) q e = absurd cc
outlined_box (Some (value.MutSlot i)) q e = absurd cc
outlined_box (Some (value.Shared r)) q e = absurd cc
outlined_box (Some (value.Mut r)) q e = absurd cc
outlined_box (Some (value.Held m)) q e = absurd cc

-- a pointer with that outline
pub record OutlinedPointer (o : Option Value) (l : Location) (p : Pointer) : Type 0 where
  pub value : Value
  pub is : o ≡ Some value
  pub pointer : Pointer
  pub among : Among pointer (pointer_at l value)
  pub object : pointer.object ≡ p.object
  pub at : pointer.at ≡ Some l

outlined_pointer : (o : Option Value) (v : Value) (l : Location) (p : Pointer) → outline o ≡ outline (Some v) → Among p (pointer_at l v) → OutlinedPointer o l p
outlined_pointer o (value.Own (owned.Box b)) l p e (inl q) =
    let y = outlined_box o b e in
    record { value = value.Own (owned.Box y.0); is = y.1; pointer = record { at = Some l; word = y.0.word; object = y.0.object }; among = inl refl; object = y.2 ∙ ap (λ (x : Pointer). x.object) q; at = refl }
outlined_pointer o (value.Own (owned.Box b)) l p e (inr h) = absurd h
outlined_pointer o (value.Mut r) l p e (inl q) =
    let y = outlined_reference o r e in
    record { value = value.Mut y.0; is = y.1; pointer = record { at = Some l; word = y.0.word; object = y.0.object }; among = inl refl; object = ap (λ (x : MutRef). x.object) y.2 ∙ ap (λ (x : Pointer). x.object) q; at = refl }
outlined_pointer o (value.Mut r) l p e (inr h) = absurd h
outlined_pointer o (value.Own owned.Nothing) l p e h = absurd h
outlined_pointer o (value.Own owned.Unit) l p e h = absurd h
outlined_pointer o (value.Own (owned.Int n)) l p e h = absurd h
outlined_pointer o (value.Own (owned.Mutex m)) l p e h = absurd h
outlined_pointer o (value.Own (owned.Task u)) l p e h = absurd h
outlined_pointer o value.Gone l p e h = absurd h
outlined_pointer o (value.SharedSlot i) l p e h = absurd h
outlined_pointer o (value.MutSlot i) l p e h = absurd h
outlined_pointer o (value.Shared r) l p e h = absurd h
outlined_pointer o (value.Held m) l p e h = absurd h

-- FROM ONE CLUSTER TO THE OTHER

taken_same_object : (w : ℕ) (m : Option Location) (v : ℕ) (p : Pointer) → Among p (taken_object w m) → (q : Pointer) × Among q (taken_object v m) × (q.object ≡ p.object) × (q.at ≡ None)
taken_same_object w (Some (in_cell o)) v p (inl e) = (record { at = None; word = v; object = o }, inl refl, ap (λ (x : Pointer). x.object) e, refl)
taken_same_object w (Some (in_cell o)) v p (inr h) = absurd h
taken_same_object w _ v p h = absurd h

module _ (k z : Cluster) (c : HasPlaces k) (d : HasPlaces z) (s : SameOutlines k z) where
  abbrev gk : Ground
  gk = (sight k).ground

  abbrev gz : Ground
  gz = (sight z).ground

  lead : (t : ℕ) (l : Location) → leads t (value_in gz l) ≡ leads t (value_in gk l)
  lead t l = sym (leads_outline t (value_in gz l)) ∙ ap (leads t) (s.stands l) ∙ leads_outline t (value_in gk l)

  held : (l : Location) (v : Lval) → holder_of gz l v ≡ holder_of gk l v
  held l v = holders_lead gk gz lead l v

  -- a reference that stood there, made from the same
  record Stood (l : Location) (r : MutRef) : Type 0 where
    reference : MutRef
    stands : value_in gz l ≡ Some (value.Mut reference)
    same : plain reference ≡ plain r

  onward : (l : Location) (r : MutRef) → value_in gk l ≡ Some (value.Mut r) → Stood l r
  onward l r e = let y = outlined_reference (value_in gz l) r (s.stands l ∙ ap outline e) in record { reference = y.0; stands = y.1; same = y.2 }

  made_there : (l m : Location) (r : MutRef) (y : Stood m r) → holder_of gk m r.holder ≡ Some l → holder_of gz m y.reference.holder ≡ Some l
  made_there l m r y e = ap (holder_of gz m) (ap (λ (x : MutRef). x.holder) y.same) ∙ held m r.holder ∙ e

  still_above : (l m : Location) → Above gk l m → Above gz l m
  still_above l m (made_from r e f) = let y = onward m r e in made_from y.reference y.stands (made_there l m r y f)
  still_above l m (made_below {h = j} r e f a) = let y = onward m r e in made_below y.reference y.stands (made_there j m r y f) (still_above l j a)

  -- whatever stands at no location
  pub placed_stays : (o : ObjNo) → ((p : Pointer) → Among p (standing_pointers (sight k)) → p.object ≡ o → p.at ≡ None → ⊥) → (p : Pointer) → Among p (standing_pointers (sight z)) → p.object ≡ o → p.at ≡ None → ⊥
  placed_stays o none p m e f =
      ⊎_elim
      (λ (q : Among p (standing_in (things_of z))).
      let y = s.standing p f q in
      none y.pointer (among_first y.pointer (standing_in (things_of k)) (taken_pointers k.code gk gk.threads) y.among) (y.object ∙ e) y.at)
      (λ (q : Among p (taken_pointers z.code gz gz.threads)).
      let t = taken_told gz p (takings z.code gz.threads) (subst (λ ps. Among p ps) (takens_are z.code gz gz.threads) q) in
      let y = s.takes t.taking t.among in
      let a = y.taking in
      let place : place_at gz t.taking.thread t.taking.place ≡ place_at gk a.thread a.place =
      places_lead gk gz lead t.taking.thread t.taking.place.slot t.taking.place.depth ∙ ap (λ n. place_at gk n t.taking.place) (sym y.thread) ∙ ap (place_at gk a.thread) (sym y.place) in
      let b = taken_same_object t.taking.word (place_at gk a.thread a.place) a.word p (subst (λ l. Among p (taken_object t.taking.word l)) place t.pointer) in
      let there : Among b.0 (taken_pointers k.code gk gk.threads) = subst (λ ps. Among b.0 ps) (sym (takens_are k.code gk gk.threads)) (taken_listed gk b.0 a (takings k.code gk.threads) y.among b.1) in
      none b.0 (among_second b.0 (standing_in (things_of k)) (taken_pointers k.code gk gk.threads) there) (b.2 ∙ e) b.3)
      (among_split p (standing_in (things_of z)) (taken_pointers z.code gz gz.threads) m)

  module _ (h : Location) (o : ObjNo) (u : IsSole k h o) where
    above : (p : Pointer) (l : Location) → Among p (pointers_in (things_of z)) → p.object ≡ o → p.at ≡ Some l → (l ≡ h) ⊎ Above gz l h
    above p l m e f =
        let t = tells z d p l m f in
        let y = outlined_pointer (value_in gk l) t.value l p (sym (s.stands l) ∙ ap outline t.stands) t.pointer in
        ⊎_elim (λ (q : l ≡ h). inl q) (λ (a : Above gk l h). inr (still_above l h a)) (u.above y.pointer l (told k l y.value y.pointer y.is y.among) (y.object ∙ e) y.at)

    placed : (p : Pointer) → Among p (standing_pointers (sight z)) → p.object ≡ o → p.at ≡ None → ⊥
    placed p m e f = placed_stays o u.placed p m e f

    unmade : (q : Reference) → Among q (references gz (things_of z)) → is_held_at h q.holder ≡ true → ⊥
    unmade q m e =
        let b = of_borrows gz q (things_of z) m in
        let y = outlined_reference (value_in gk q.at) q.reference (sym (s.stands q.at) ∙ ap outline (borrow_stands z d q.at q.reference b.among)) in
        let holder : holder_of gk q.at y.0.holder ≡ q.holder = sym (held q.at y.0.holder) ∙ ap (holder_of gz q.at) (ap (λ (x : MutRef). x.holder) y.2) ∙ sym b.holder in
        u.unmade (record { at = q.at; holder = holder_of gk q.at y.0.holder; reference = y.0 }) (reference_there k q.at y.0 y.1) (ap (is_held_at h) holder ∙ e)

    pub sole_stays : IsSole z h o
    sole_stays = record { to = λ t. lead t h ∙ u.to t; above = above; placed = placed; unmade = unmade }

-- WHERE THE OBJECT LIES, NO POINTER TO IT STANDS ELSEWHERE

flown : (z : Cluster) (o : ObjNo) (r a w : ℕ) (e : Cell) → HasPlaces z → LiesThere z r a o → Among (flies w e) (things_of z) → e.object ≡ o → ⊥
flown z o r a w e d y m s =
    let at_home : 1 ≤ cells o (lies r a y.cell) = (let q : one (same_object y.cell.object o) ≡ 1 = ap one (itself y.cell.object o y.object) in omega (arith, q)) in
    let away : 1 ≤ cells o (flies w e) = (let q : one (same_object e.object o) ≡ 1 = ap one (itself e.object o s) in omega (arith, q)) in
    let same : lies r a y.cell ≡ flies w e = only_one (cells o) (lies r a y.cell) (flies w e) (things_of z) (d.home_of_each o) y.among m at_home away in
    absurd cc

-- a pointer of a thing stands, but for the old word under way
stands_or_flies : (z : Cluster) (o : ObjNo) (r a : ℕ) → HasPlaces z → LiesThere z r a o → (y : Thing) (p : Pointer) → Among y (things_of z) → Among p (pointers_of y) → p.object ≡ o → Among p (standing_of y)
stands_or_flies z o r a d l (flies w e) p m (inl q) f = absurd (flown z o r a w e d l m (ap (λ (x : Pointer). x.object) q ∙ f))
stands_or_flies z o r a d l (flies w e) p m (inr h) f = h
stands_or_flies z o r a d l y p m h f = h

pub lies_alone : (z : Cluster) (o : ObjNo) (r a : ℕ) → HasPlaces z → ((p : Pointer) → Among p (standing_pointers (sight z)) → p.object ≡ o → p.at ≡ None → ⊥) → LiesThere z r a o → (p : Pointer) → Among p (all_pointers (sight z)) → p.object ≡ o → p.at ≡ None → ⊥
lies_alone z o r a d placed l p m e f =
    let taken = taken_pointers z.code (sight z).ground (sight z).ground.threads in
    placed p
    (⊎_elim
    (λ (q : Among p (pointers_in (things_of z))).
    let y = of_thing p (things_of z) q in
    among_first p (standing_in (things_of z)) taken (standing_among p y.thing (things_of z) y.among (stands_or_flies z o r a d l y.thing p y.among y.pointer e)))
    (λ (q : Among p taken). among_second p (standing_in (things_of z)) taken q) (among_split p (pointers_in (things_of z)) taken m)) e f

-- WHAT HAS THE SAME OUTLINES

pub unmoved_outlines : (k z : Cluster) → Unmoved k z → SameOutlines k z
unmoved_outlines k z u = record {
  stands = λ l. sym (outline_pointing (value_in (sight z).ground l)) ∙ ap outline (u.stands l) ∙ outline_pointing (value_in (sight k).ground l);
  takes = λ t m. record { taking = t; among = u.takes t m; thread = refl; place = refl };
  standing = λ p e m. record { pointer = p; among = u.standing p e m; at = e; object = refl };
}

-- what a thread has taken is told by its turn
abbrev taking_turn : ℕ → Option ℕ → Option Instr → Option Taking
taking_turn n (Some w) (Some (instr.BorrowMut p)) = Some (record { thread = n; place = p; word = w })
taking_turn n _ _ = None

abbrev turn_taking : List Instr → Turn → Option Taking
turn_taking code t = taking_turn t.number t.taken (slice_get code t.pc)

by_turn : (t : ℕ) (p : Phase) (i : Option Instr) → taking_by t p i ≡ taking_turn t (taken_word p) i
by_turn t (phase.Taken w) (Some (instr.BorrowMut p)) = refl
by_turn t (phase.Taken w) (Some _) = refl
by_turn t (phase.Taken w) None = refl
by_turn t _ i = refl

abbrev turn_takings : List Instr → List Turn → List Taking
turn_takings code [] = []
turn_takings code (t ∷ ts) = with_taking (turn_taking code t) (turn_takings code ts)

takings_are : (code : List Instr) (xs : List Standing) → takings code xs ≡ turn_takings code (map turn_of xs)
takings_are code [] = refl
takings_are code (x ∷ xs) =
    ap (λ o. with_taking o (takings code xs)) (by_turn x.thread.number x.thread.phase (slice_get code x.thread.pc)) ∙ ap (with_taking (turn_taking code (turn_of x))) (takings_are code xs)

renewed_outline : (w : ℕ) (old new : Value) → Renewed w old new → outline (Some new) ≡ outline (Some old)
renewed_outline w old new (a_box p e f) = ap (λ v. outline (Some v)) f ∙ sym (ap (λ v. outline (Some v)) e)
renewed_outline w old new (a_reference r q e f word first object holder) = ap (λ v. outline (Some v)) f ∙ outlined ∙ sym (ap (λ v. outline (Some v)) e)
  where
    outlined : outline (Some (value.Mut q)) ≡ outline (Some (value.Mut r))
    outlined =
        ap (λ n. Some (value.Mut (record { word = 0; first = n; object = q.object; dirty = false; holder = q.holder }))) first
        ∙ ap (λ n. Some (value.Mut (record { word = 0; first = r.first; object = n; dirty = false; holder = q.holder }))) object
        ∙ ap (λ n. Some (value.Mut (record { word = 0; first = r.first; object = r.object; dirty = false; holder = n }))) holder

pub reworded_outlines : (k z : Cluster) (h : Location) (o : ObjNo) (w : ℕ) → Reworded k z h o w → SameOutlines k z
reworded_outlines k z h o w r = record { stands = stands; takes = λ t m. record { taking = t; among = subst (λ ts. Among t ts) same m; thread = refl; place = refl }; standing = λ p e m. record { pointer = p; among = unplaced_standing k z o r.loose p m e; at = e; object = refl } }
  where
    same : takings z.code (sight z).ground.threads ≡ takings k.code (sight k).ground.threads
    same = ap (λ c. takings c (sight z).ground.threads) r.code ∙ takings_are k.code (sight z).ground.threads ∙ ap (turn_takings k.code) r.turns ∙ sym (takings_are k.code (sight k).ground.threads)

    stands : (l : Location) → outline (value_in (sight z).ground l) ≡ outline (value_in (sight k).ground l)
    stands l =
        ⊎_elim
        (λ (e : l ≡ h). ap (λ m. outline (value_in (sight z).ground m)) e ∙ ap outline r.stands ∙ renewed_outline w r.old r.new r.renewed ∙ sym (ap outline r.stood) ∙ sym (ap (λ m. outline (value_in (sight k).ground m)) e))
        (λ (n : l ≡ h → ⊥). ap outline (r.elsewhere l n)) (same_place l h)

outlines_chain : (k y z : Cluster) → SameOutlines k y → SameOutlines y z → SameOutlines k z
outlines_chain k y z p q = record {
  stands = λ l. q.stands l ∙ p.stands l;
  takes = λ t m. (let a = q.takes t m in let b = p.takes a.taking a.among in record { taking = b.taking; among = b.among; thread = b.thread ∙ a.thread; place = b.place ∙ a.place });
  standing = λ x e m. (let a = q.standing x e m in let b = p.standing a.pointer a.at a.among in record { pointer = b.pointer; among = b.among; at = b.at; object = b.object ∙ a.object });
}

pub soles_stay : SolesStay
soles_stay = record { soles = λ k z h o c d s u. sole_stays k z c d s h o u; unmoved = unmoved_outlines; reworded = reworded_outlines; chain = outlines_chain }
