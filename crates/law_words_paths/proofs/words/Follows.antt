-- Where what stands at each location leads alike, places lead alike, and so threads have taken the same.
use Rattle.std.proofs.Common.{◌≡◌, ℕ, zero, suc, List, [], ◌∷◌, ◌++◌, map, Option, Some, None, refl, sym, ap, subst, ◌∙◌}
use Rattle.std.specs.Prelude.{⊤, slice_get}
use Rattle.law_words_paths.specs.Below.fr_base.declared.name.ObjNo.{ObjNo}
use Rattle.law_words_paths.specs.Below.fr_base.declared.instruction.Instr.{Instr}
use Rattle.law_words_paths.specs.Below.fr_base.declared.instruction.Instr.TheVariants as instr
use Rattle.law_words_paths.specs.Below.fr_base.declared.place.Lval.{Lval}
use Rattle.law_words_paths.specs.Below.thread_state.declared.phase.Phase.{Phase}
use Rattle.law_words_paths.specs.Below.heap_partition.declared.value.Owned.TheVariants as owned
use Rattle.law_words_paths.specs.Below.thread_state.declared.phase.Phase.TheVariants as phase
use Rattle.law_words_paths.specs.Below.thread_state.declared.value.Value.{Value}
use Rattle.law_words_paths.specs.Below.thread_state.declared.value.Value.TheVariants as value
use Rattle.law_words_paths.specs.Below.coherent_memory.Things.{Location, at_slot, at_temp, in_cell}
use Rattle.law_words_paths.specs.Below.coherent_memory.Follow.{Standing, Ground, value_in, value_behind, leads, locate, place_at}
use Rattle.law_words_paths.specs.Below.coherent_memory.Stale.{holder_of, one_star_less, lent_place, with_place, lent_places}
use Rattle.law_words_paths.specs.Below.coherent_memory.Sight.{Pointer, taken_object, taken_of, taken_pointers}
use Rattle.law_words_paths.proofs.paths.Sole.{some_is}
use Rattle.law_words_paths.specs.words.Reworded.{taken_word, Turn, turn_of}

first_same : {A : Type 0} {a b : A} {us vs : List A} → a ∷ us ≡ b ∷ vs → a ≡ b
first_same e = cc

rest_same : {A : Type 0} {a b : A} {us vs : List A} → a ∷ us ≡ b ∷ vs → us ≡ vs
rest_same e = cc

-- WHAT A THREAD HAS TAKEN

abbrev lent_taken : Ground → ℕ → Option ℕ → Option Instr → Option Location
lent_taken g t (Some w) (Some (instr.BorrowMut p)) = one_star_less g t p.slot p.depth
lent_taken g t _ _ = None

lent_is : (g : Ground) (t : ℕ) (p : Phase) (i : Option Instr) → lent_place g t p i ≡ lent_taken g t (taken_word p) i
lent_is g t (phase.Taken w) (Some (instr.BorrowMut p)) = refl
lent_is g t (phase.Taken w) (Some _) = refl
lent_is g t (phase.Taken w) None = refl
lent_is g t _ i = refl

abbrev object_taken : Ground → ℕ → Option ℕ → Option Instr → List Pointer
object_taken g t (Some w) (Some (instr.BorrowMut p)) = taken_object w (place_at g t p)
object_taken g t _ _ = []

taken_is : (g : Ground) (x : Standing) (p : Phase) (i : Option Instr) → taken_of g x.thread p i ≡ object_taken g x.thread.number (taken_word p) i
taken_is g x (phase.Taken w) (Some (instr.BorrowMut p)) = refl
taken_is g x (phase.Taken w) (Some _) = refl
taken_is g x (phase.Taken w) None = refl
taken_is g x _ i = refl

module _ (gk gz : Ground) (value_leads : (t : ℕ) (l : Location) → leads t (value_in gz l) ≡ leads t (value_in gk l)) where
  behind : (t : ℕ) (m : Option Location) → leads t (value_behind gz m) ≡ leads t (value_behind gk m)
  behind t None = refl
  behind t (Some l) = value_leads t l

  pub places_lead : (t slot n : ℕ) → locate gz t slot n ≡ locate gk t slot n
  places_lead t slot zero = refl
  places_lead t slot (suc n) = ap (λ m. leads t (value_behind gz m)) (places_lead t slot n) ∙ behind t (locate gk t slot n)

  pub holders_lead : (l : Location) (v : Lval) → holder_of gz l v ≡ holder_of gk l v
  holders_lead (at_slot t i) v = places_lead t v.slot v.depth
  holders_lead (at_temp t i) v = places_lead t v.slot v.depth
  holders_lead (in_cell p) v = refl

  -- WHAT IS TAKEN

  less_same : (t slot d : ℕ) → one_star_less gz t slot d ≡ one_star_less gk t slot d
  less_same t slot zero = refl
  less_same t slot (suc d) = places_lead t slot d

  lent_same : (t : ℕ) (v : Option ℕ) (i : Option Instr) → lent_taken gz t v i ≡ lent_taken gk t v i
  lent_same t (Some v) (Some (instr.BorrowMut p)) = less_same t p.slot p.depth
  lent_same t (Some v) (Some _) = refl
  lent_same t (Some v) None = refl
  lent_same t None i = refl

  object_same : (t : ℕ) (v : Option ℕ) (i : Option Instr) → object_taken gz t v i ≡ object_taken gk t v i
  object_same t (Some v) (Some (instr.BorrowMut p)) = ap (taken_object v) (places_lead t p.slot p.depth)
  object_same t (Some v) (Some _) = refl
  object_same t (Some v) None = refl
  object_same t None i = refl

  module _ (code : List Instr) where
    abbrev lent_turn : Ground → Turn → Option Location
    lent_turn g t = lent_taken g t.number t.taken (slice_get code t.pc)

    abbrev taken_turn : Ground → Turn → List Pointer
    taken_turn g t = object_taken g t.number t.taken (slice_get code t.pc)

    pub lents_lead : (xs ys : List Standing) → map turn_of xs ≡ map turn_of ys → lent_places code gz xs ≡ lent_places code gk ys
    lents_lead [] [] e = refl
    lents_lead [] (y ∷ ys) e = absurd cc
    lents_lead (x ∷ xs) [] e = absurd cc
    lents_lead (x ∷ xs) (y ∷ ys) e =
        let head : lent_place gz x.thread.number x.thread.phase (slice_get code x.thread.pc) ≡ lent_place gk y.thread.number y.thread.phase (slice_get code y.thread.pc) =
        lent_is gz x.thread.number x.thread.phase (slice_get code x.thread.pc)
        ∙ lent_same x.thread.number (taken_word x.thread.phase) (slice_get code x.thread.pc)
        ∙ ap (lent_turn gk) (first_same e)
        ∙ sym (lent_is gk y.thread.number y.thread.phase (slice_get code y.thread.pc)) in
        ap (λ m. with_place m (lent_places code gz xs)) head ∙ ap (with_place (lent_place gk y.thread.number y.thread.phase (slice_get code y.thread.pc))) (lents_lead xs ys (rest_same e))

    pub takens_lead : (xs ys : List Standing) → map turn_of xs ≡ map turn_of ys → taken_pointers code gz xs ≡ taken_pointers code gk ys
    takens_lead [] [] e = refl
    takens_lead [] (y ∷ ys) e = absurd cc
    takens_lead (x ∷ xs) [] e = absurd cc
    takens_lead (x ∷ xs) (y ∷ ys) e =
        let head : taken_of gz x.thread x.thread.phase (slice_get code x.thread.pc) ≡ taken_of gk y.thread y.thread.phase (slice_get code y.thread.pc) =
        taken_is gz x x.thread.phase (slice_get code x.thread.pc)
        ∙ object_same x.thread.number (taken_word x.thread.phase) (slice_get code x.thread.pc)
        ∙ ap (taken_turn gk) (first_same e)
        ∙ sym (taken_is gk y y.thread.phase (slice_get code y.thread.pc)) in
        ap (λ m. m ++ taken_pointers code gz xs) head ∙ ap (λ m. taken_of gk y.thread y.thread.phase (slice_get code y.thread.pc) ++ m) (takens_lead xs ys (rest_same e))

-- WHERE NO PLACE LEADS TO A TEMPORARY VALUE

abbrev IsPlace : Location → Type 0
IsPlace (at_temp t i) = ⊥
IsPlace l = ⊤

leads_place : (t : ℕ) (v : Option Value) (l : Location) → leads t v ≡ Some l → IsPlace l
leads_place t (Some (value.Own (owned.Box p))) l e = subst IsPlace (some_is e) tt
leads_place t (Some (value.SharedSlot i)) l e = subst IsPlace (some_is e) tt
leads_place t (Some (value.MutSlot i)) l e = subst IsPlace (some_is e) tt
leads_place t (Some (value.Shared r)) l e = subst IsPlace (some_is e) tt
leads_place t (Some (value.Mut r)) l e = subst IsPlace (some_is e) tt
leads_place t None l e = absurd cc
leads_place t (Some value.Gone) l e = absurd cc
leads_place t (Some (value.Held m)) l e = absurd cc
leads_place t (Some (value.Own owned.Nothing)) l e = absurd cc
leads_place t (Some (value.Own owned.Unit)) l e = absurd cc
leads_place t (Some (value.Own (owned.Int i))) l e = absurd cc
leads_place t (Some (value.Own (owned.Mutex i))) l e = absurd cc
leads_place t (Some (value.Own (owned.Task i))) l e = absurd cc

module _ (gk gz : Ground) (in_slots : (t u i : ℕ) → leads t (value_in gz (at_slot u i)) ≡ leads t (value_in gk (at_slot u i))) (in_cells : (t : ℕ) (o : ObjNo) → leads t (value_in gz (in_cell o)) ≡ leads t (value_in gk (in_cell o))) where
  at_place : (t : ℕ) (l : Location) → IsPlace l → leads t (value_in gz l) ≡ leads t (value_in gk l)
  at_place t (at_slot u i) p = in_slots t u i
  at_place t (in_cell o) p = in_cells t o
  at_place t (at_temp u i) p = absurd p

  located : (t slot n : ℕ) (l : Location) → locate gk t slot n ≡ Some l → IsPlace l
  located t slot zero l e = subst IsPlace (some_is e) tt
  located t slot (suc n) l e = leads_place t (value_behind gk (locate gk t slot n)) l e

  pub seen_places_lead : (t slot n : ℕ) → locate gz t slot n ≡ locate gk t slot n
  seen_places_lead t slot zero = refl
  seen_places_lead t slot (suc n) = ap (λ m. leads t (value_behind gz m)) (seen_places_lead t slot n) ∙ by (locate gk t slot n) refl
    where
      by : (m : Option Location) → locate gk t slot n ≡ m → leads t (value_behind gz m) ≡ leads t (value_behind gk m)
      by None e = refl
      by (Some l) e = at_place t l (located t slot n l e)

  pub seen_holders_lead : (l : Location) (v : Lval) → holder_of gz l v ≡ holder_of gk l v
  seen_holders_lead (at_slot t i) v = seen_places_lead t v.slot v.depth
  seen_holders_lead (at_temp t i) v = seen_places_lead t v.slot v.depth
  seen_holders_lead (in_cell p) v = refl
