-- A value without its word, its mark and its pin: types see no more of it.
use Rattle.std.proofs.Common.{◌≡◌, ℕ, ◌+◌, ◌==◌, Bool, true, false, not, ◌&&◌, List, [], ◌∷◌, ◌++◌, reverse, map, Option, Some, None, refl, sym, ap, ap₂, ◌∙◌}
use Rattle.std.specs.Prelude.{is_some}
use Rattle.std.proofs.lemmas.List.{map-append, reverse-append}
use Rattle.law_heap_still.specs.Below.fr_base.declared.label.Plain.{Plain}
use Rattle.law_heap_still.specs.Below.fr_base.declared.label.Plain.TheVariants as plain
use Rattle.law_heap_still.specs.Below.fr_base.declared.name.ObjNo.{ObjNo}
use Rattle.law_heap_still.specs.Below.fr_base.declared.place.Lval.{Lval}
use Rattle.law_heap_still.specs.Below.fr_typing.Kinds.{Owned as OwnedType, unit, int, box, mutex, task, Kind, own, shared, mutable, view, Piece, whole, gone, boxed}
use Rattle.law_heap_still.specs.Below.fr_typing.Places.{Slot}
use Rattle.law_heap_still.specs.Below.fr_sound.States.{owned_part}
use Rattle.law_heap_still.specs.Below.heap_partition.Plain.{plain_of}
use Rattle.law_heap_still.specs.Below.heap_partition.declared.value.Owned.{Owned}
use Rattle.law_heap_still.specs.Below.heap_partition.declared.value.Owned.TheVariants as owned
use Rattle.law_heap_still.specs.Below.mut_borrow.declared.shared.SharedRef.{SharedRef}
use Rattle.law_heap_still.specs.Below.mut_borrow.declared.mutable.MutRef.{MutRef}
use Rattle.law_heap_still.specs.Below.thread_state.declared.value.Value.{Value}
use Rattle.law_heap_still.specs.Below.thread_state.declared.value.Value.TheVariants as value
use Rattle.law_heap_still.specs.Below.coherent_memory.Names.{other, same_object}
use Rattle.law_heap_still.specs.Below.coherent_types.Names.{NameTypes, fits, is_there, fits_some, is_type}
use Rattle.law_heap_still.specs.Below.coherent_types.ClusterTypes.{has_form, is_mark, slot_form, slots_wrong, temps_wrong, above_mark, locked_of}
use Rattle.law_heap_still.specs.events.Shows.{Frame, moved_out, owning, shared_slot, mutable_slot, shared_object, mutable_object, marking, frame_of}

-- THE VALUE OF A FRAME

abbrev pub bare_owned : Plain → Owned
bare_owned plain.Nothing = owned.Nothing
bare_owned plain.Unit = owned.Unit
bare_owned (plain.Int i) = owned.Int i
bare_owned (plain.Box o) = owned.Box (record { word = 0; object = o })
bare_owned (plain.Mutex m) = owned.Mutex m
bare_owned (plain.Task t) = owned.Task t

abbrev pub bare : Frame → Value
bare moved_out = value.Gone
bare (owning v) = value.Own (bare_owned v)
bare (shared_slot i) = value.SharedSlot i
bare (mutable_slot i) = value.MutSlot i
bare (shared_object o) = value.Shared (record { word = 0; object = o; pinned = false })
bare (mutable_object o w) = value.Mut (record { word = 0; first = 0; object = o; dirty = false; holder = w })
bare (marking m) = value.Held m

abbrev pub bared : Value → Value
bared v = bare (frame_of v)

abbrev stripped : Owned → Owned
stripped v = bare_owned (plain_of v)

-- TYPES DON'T SEE THE REST

fits_bare : (n : NameTypes) (o : OwnedType) (v : Owned) → fits n o v ≡ fits n o (stripped v)
fits_bare n o owned.Nothing = refl
fits_bare n o owned.Unit = refl
fits_bare n o (owned.Int i) = refl
fits_bare n o (owned.Mutex m) = refl
fits_bare n o (owned.Task t) = refl
fits_bare n unit (owned.Box p) = refl
fits_bare n int (owned.Box p) = refl
fits_bare n (box q) (owned.Box p) = refl
fits_bare n (mutex q) (owned.Box p) = refl
fits_bare n (task q) (owned.Box p) = refl

there_bare : (v : Owned) → is_there v ≡ is_there (stripped v)
there_bare owned.Nothing = refl
there_bare owned.Unit = refl
there_bare (owned.Int i) = refl
there_bare (owned.Box p) = refl
there_bare (owned.Mutex m) = refl
there_bare (owned.Task t) = refl

some_bare : (n : NameTypes) (o : Option OwnedType) (v : Owned) → fits_some n o v ≡ fits_some n o (stripped v)
some_bare n None v = refl
some_bare n (Some o) v = fits_bare n o v

form_bare : (n : NameTypes) (p : Piece) (v : Value) → has_form n p v ≡ has_form n p (bared v)
form_bare n (whole (own o)) (value.Own v) = ap₂ (λ a b. a && b) (there_bare v) (fits_bare n o v)
form_bare n (boxed p) (value.Own v) = ap₂ (λ a b. a && b) (there_bare v) (some_bare n (owned_part (boxed p)) v)
form_bare n (whole (shared us)) (value.Own v) = refl
form_bare n (whole (mutable us)) (value.Own v) = refl
form_bare n (whole (view o)) (value.Own v) = refl
form_bare n (gone k) (value.Own v) = refl
form_bare n p value.Gone = refl
form_bare n p (value.SharedSlot i) = refl
form_bare n p (value.MutSlot i) = refl
form_bare n p (value.Held m) = refl
form_bare n (whole (own o)) (value.Shared r) = refl
form_bare n (whole (shared us)) (value.Shared r) = refl
form_bare n (whole (mutable us)) (value.Shared r) = refl
form_bare n (whole (view o)) (value.Shared r) = refl
form_bare n (gone k) (value.Shared r) = refl
form_bare n (boxed p) (value.Shared r) = refl
form_bare n (whole (own o)) (value.Mut r) = refl
form_bare n (whole (shared us)) (value.Mut r) = refl
form_bare n (whole (mutable us)) (value.Mut r) = refl
form_bare n (whole (view o)) (value.Mut r) = refl
form_bare n (gone k) (value.Mut r) = refl
form_bare n (boxed p) (value.Mut r) = refl

mark_bare : (v : Value) → is_mark v ≡ is_mark (bared v)
mark_bare value.Gone = refl
mark_bare (value.Own v) = refl
mark_bare (value.SharedSlot i) = refl
mark_bare (value.MutSlot i) = refl
mark_bare (value.Shared r) = refl
mark_bare (value.Mut r) = refl
mark_bare (value.Held m) = refl

slot_bare : (n : NameTypes) (s : Slot) (q : Bool) (v : Value) → slot_form n s q v ≡ slot_form n s q (bared v)
slot_bare n s true v = form_bare n s.part v
slot_bare n s false v = mark_bare v

-- LISTS

abbrev pub all_bared : List Value → List Value
all_bared vs = map bared vs

pub slots_bare : (n : NameTypes) (e : List Slot) (vs : List Value) → slots_wrong n e vs ≡ slots_wrong n e (all_bared vs)
slots_bare n [] [] = refl
slots_bare n (s ∷ e) (v ∷ vs) = ap₂ (λ a b. other a + b) (slot_bare n s (is_some s.name) v) (slots_bare n e vs)
slots_bare n [] (v ∷ vs) = refl
slots_bare n (s ∷ e) [] = refl

pub temps_bare : (n : NameTypes) (ks : List Kind) (vs : List Value) → temps_wrong n ks vs ≡ temps_wrong n ks (all_bared vs)
temps_bare n [] [] = refl
temps_bare n (k ∷ ks) (v ∷ vs) = ap₂ (λ a b. other a + b) (form_bare n (whole k) v) (temps_bare n ks vs)
temps_bare n [] (v ∷ vs) = refl
temps_bare n (k ∷ ks) [] = refl

mark_above : (n : NameTypes) (c : Slot) (vs : List Value) → above_mark n c vs ≡ above_mark n c (all_bared vs)
mark_above n c [] = refl
mark_above n c (value.Gone ∷ vs) = refl
mark_above n c (value.Own v ∷ vs) = refl
mark_above n c (value.SharedSlot i ∷ vs) = refl
mark_above n c (value.MutSlot i ∷ vs) = refl
mark_above n c (value.Shared r ∷ vs) = refl
mark_above n c (value.Mut r ∷ vs) = refl
mark_above n c (value.Held m ∷ vs) = refl

pub locked_bare : (n : NameTypes) (e : List Slot) (vs : List Value) → locked_of n e vs ≡ locked_of n e (all_bared vs)
locked_bare n [] [] = refl
locked_bare n (c ∷ e) (v ∷ vs) = ap₂ (λ a b. a + b) (mark_above n c vs) (locked_bare n e vs)
locked_bare n [] (v ∷ vs) = refl
locked_bare n (c ∷ e) [] = refl

-- a list that is turned round
pub reversed : (vs : List Value) → all_bared (reverse vs) ≡ reverse (all_bared vs)
reversed [] = refl
reversed (v ∷ vs) =
    ap all_bared (reverse-append (v ∷ []) vs) ∙ map-append bared (reverse vs) (v ∷ []) ∙ ap (λ l. l ++ bared v ∷ []) (reversed vs) ∙ sym (reverse-append (bared v ∷ []) (all_bared vs))

pub bared_twice : (vs : List Value) → map bare (map frame_of vs) ≡ all_bared vs
bared_twice [] = refl
bared_twice (v ∷ vs) = ap (λ l. bared v ∷ l) (bared_twice vs)
