-- Tests of values, words included: two are the same where the test says so.
use Rattle.std.proofs.Common.{◌≡◌, ℕ, Bool, true, false, ◌&&◌, refl, ap, ap₂, ◌∙◌}
use Rattle.std.specs.Prelude.{◌==◌}
use Rattle.std.proofs.lemmas.Bool.Decides.{Decides-int_eq}
use Rattle.law_words_values.specs.Below.fr_base.declared.name.ObjNo.{ObjNo}
use Rattle.law_words_values.specs.Below.fr_base.declared.place.Lval.{Lval}
use Rattle.law_words_values.specs.Below.fr_base.Names.{same_object, same_mutex}
use Rattle.law_words_values.specs.Below.heap_partition.Same.{same_box, same_owned}
use Rattle.law_words_values.specs.Below.heap_partition.declared.value.BoxPtr.{BoxPtr}
use Rattle.law_words_values.specs.Below.heap_partition.declared.value.Owned.{Owned}
use Rattle.law_words_values.specs.Below.heap_partition.declared.value.Owned.TheVariants as owned
use Rattle.law_words_values.specs.Below.mut_borrow.declared.shared.SharedRef.{SharedRef}
use Rattle.law_words_values.specs.Below.mut_borrow.declared.mutable.MutRef.{MutRef}
use Rattle.law_words_values.specs.Below.thread_state.declared.value.Value.{Value}
use Rattle.law_words_values.specs.Below.thread_state.declared.value.Value.TheVariants as value
use Rattle.law_words_values.proofs.Below.coherent_memory.Names.{and_left, and_right}
use Rattle.law_words_values.proofs.Below.law_heap_still.events.Tests.{IsTest, numbers, same_truth, truths, objects, mutexes, same_place, places}

both : (p q : Bool) → p ≡ true → q ≡ true → (p && q) ≡ true
both true q a b = b
both false q a b = absurd (cc a)

abbrev box_at : ℕ → ObjNo → BoxPtr
box_at w o = record { word = w; object = o }

pub boxes : IsTest same_box
boxes = record {
  itself = λ p. both (p.word == p.word) (same_object p.object p.object) (numbers.itself p.word) (objects.itself p.object);
  tells = λ p q e. ap₂ box_at (numbers.tells p.word q.word (and_left (p.word == q.word) (same_object p.object q.object) e)) (objects.tells p.object q.object (and_right (p.word == q.word) (same_object p.object q.object) e));
}

pub owneds : IsTest same_owned
owneds = record { itself = itself; tells = tells }
  where
    itself : (v : Owned) → same_owned v v ≡ true
    itself owned.Nothing = refl
    itself owned.Unit = refl
    itself (owned.Int n) = (Decides-int_eq n n).1 refl
    itself (owned.Box p) = boxes.itself p
    itself (owned.Mutex m) = mutexes.itself m
    itself (owned.Task t) = numbers.itself t

    tells : (v w : Owned) → same_owned v w ≡ true → v ≡ w
    tells owned.Nothing owned.Nothing e = refl
    tells owned.Unit owned.Unit e = refl
    tells (owned.Int m) (owned.Int n) e = ap owned.Int ((Decides-int_eq m n).0 e)
    tells (owned.Box p) (owned.Box q) e = ap owned.Box (boxes.tells p q e)
    tells (owned.Mutex p) (owned.Mutex q) e = ap owned.Mutex (mutexes.tells p q e)
    tells (owned.Task p) (owned.Task q) e = ap owned.Task (numbers.tells p q e)
    tells _ _ e = absurd (cc e)

-- REFERENCES

abbrev shared_at : ℕ → ObjNo → Bool → SharedRef
shared_at w o b = record { word = w; object = o; pinned = b }

abbrev same_shared : SharedRef → SharedRef → Bool
same_shared p q = (p.word == q.word) && (same_object p.object q.object && same_truth p.pinned q.pinned)

shared : IsTest same_shared
shared = record {
  itself = λ p. both (p.word == p.word) (same_object p.object p.object && same_truth p.pinned p.pinned) (numbers.itself p.word) (both (same_object p.object p.object) (same_truth p.pinned p.pinned) (objects.itself p.object) (truths.itself p.pinned));
  tells = λ p q e.
      let rest = and_right (p.word == q.word) (same_object p.object q.object && same_truth p.pinned q.pinned) e in
      let word = numbers.tells p.word q.word (and_left (p.word == q.word) (same_object p.object q.object && same_truth p.pinned q.pinned) e) in
      let object = objects.tells p.object q.object (and_left (same_object p.object q.object) (same_truth p.pinned q.pinned) rest) in
      let pin = truths.tells p.pinned q.pinned (and_right (same_object p.object q.object) (same_truth p.pinned q.pinned) rest) in
      ap (λ w. shared_at w p.object p.pinned) word ∙ ap (λ o. shared_at q.word o p.pinned) object ∙ ap (λ b. shared_at q.word q.object b) pin;
}

abbrev mutable_at : ℕ → ℕ → ObjNo → Bool → Lval → MutRef
mutable_at w f o b h = record { word = w; first = f; object = o; dirty = b; holder = h }

abbrev same_mutable : MutRef → MutRef → Bool
same_mutable p q = (p.word == q.word) && ((p.first == q.first) && (same_object p.object q.object && (same_truth p.dirty q.dirty && same_place p.holder q.holder)))

mutable : IsTest same_mutable
mutable = record { itself = itself; tells = tells }
  where
    itself : (p : MutRef) → same_mutable p p ≡ true
    itself p =
        both (p.word == p.word) _ (numbers.itself p.word) (both (p.first == p.first) _ (numbers.itself p.first) (both (same_object p.object p.object) _ (objects.itself p.object) (both (same_truth p.dirty p.dirty) _ (truths.itself p.dirty) (places.itself p.holder))))

    tells : (p q : MutRef) → same_mutable p q ≡ true → p ≡ q
    tells p q e =
        let e1 = and_right (p.word == q.word) ((p.first == q.first) && (same_object p.object q.object && (same_truth p.dirty q.dirty && same_place p.holder q.holder))) e in
        let e2 = and_right (p.first == q.first) (same_object p.object q.object && (same_truth p.dirty q.dirty && same_place p.holder q.holder)) e1 in
        let e3 = and_right (same_object p.object q.object) (same_truth p.dirty q.dirty && same_place p.holder q.holder) e2 in
        let word = numbers.tells p.word q.word (and_left (p.word == q.word) ((p.first == q.first) && (same_object p.object q.object && (same_truth p.dirty q.dirty && same_place p.holder q.holder))) e) in
        let first = numbers.tells p.first q.first (and_left (p.first == q.first) (same_object p.object q.object && (same_truth p.dirty q.dirty && same_place p.holder q.holder)) e1) in
        let object = objects.tells p.object q.object (and_left (same_object p.object q.object) (same_truth p.dirty q.dirty && same_place p.holder q.holder) e2) in
        let mark = truths.tells p.dirty q.dirty (and_left (same_truth p.dirty q.dirty) (same_place p.holder q.holder) e3) in
        let holder = places.tells p.holder q.holder (and_right (same_truth p.dirty q.dirty) (same_place p.holder q.holder) e3) in
        ap (λ w. mutable_at w p.first p.object p.dirty p.holder) word ∙ ap (λ f. mutable_at q.word f p.object p.dirty p.holder) first ∙ ap (λ o. mutable_at q.word q.first o p.dirty p.holder) object
        ∙ ap (λ b. mutable_at q.word q.first q.object b p.holder) mark ∙ ap (λ h. mutable_at q.word q.first q.object q.dirty h) holder

-- VALUES

abbrev pub same_value : Value → Value → Bool
same_value value.Gone value.Gone = true
same_value (value.Own v) (value.Own w) = same_owned v w
same_value (value.SharedSlot i) (value.SharedSlot j) = i == j
same_value (value.MutSlot i) (value.MutSlot j) = i == j
same_value (value.Shared p) (value.Shared q) = same_shared p q
same_value (value.Mut p) (value.Mut q) = same_mutable p q
same_value (value.Held m) (value.Held n) = same_mutex m n
same_value _ _ = false

pub values : IsTest same_value
values = record { itself = itself; tells = tells }
  where
    itself : (v : Value) → same_value v v ≡ true
    itself value.Gone = refl
    itself (value.Own v) = owneds.itself v
    itself (value.SharedSlot i) = numbers.itself i
    itself (value.MutSlot i) = numbers.itself i
    itself (value.Shared p) = shared.itself p
    itself (value.Mut p) = mutable.itself p
    itself (value.Held m) = mutexes.itself m

    tells : (v w : Value) → same_value v w ≡ true → v ≡ w
    tells value.Gone value.Gone e = refl
    tells (value.Own v) (value.Own w) e = ap value.Own (owneds.tells v w e)
    tells (value.SharedSlot i) (value.SharedSlot j) e = ap value.SharedSlot (numbers.tells i j e)
    tells (value.MutSlot i) (value.MutSlot j) e = ap value.MutSlot (numbers.tells i j e)
    tells (value.Shared p) (value.Shared q) e = ap value.Shared (shared.tells p q e)
    tells (value.Mut p) (value.Mut q) e = ap value.Mut (mutable.tells p q e)
    tells (value.Held m) (value.Held n) e = ap value.Held (mutexes.tells m n e)
    tells _ _ e = absurd (cc e)
