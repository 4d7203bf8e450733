-- Dirty references are alone exactly where nothing is counted.
use Rattle.std.proofs.Common.{◌≡◌, ◌⊎◌, inl, inr, ⊎_elim, ℕ, ◌+◌, Bool, true, false, not, ◌&&◌, List, [], ◌∷◌, ◌++◌, None, Some, refl, sym, subst, ◌∙◌, arith}
use Rattle.server_model.specs.Below.mut_borrow.declared.mutable.MutRef.{MutRef}
use Rattle.server_model.specs.Below.mut_borrow.declared.shared.SharedRef.{SharedRef}
use Rattle.server_model.specs.Below.mut_borrow.Refs.{changed}
use Rattle.server_model.specs.Servers.{Cluster}
use Rattle.coherent_memory.specs.Names.{tot, one, if_so, same_object, Among}
use Rattle.coherent_memory.specs.Things.{Location, Thing, shares}
use Rattle.coherent_memory.specs.Stale.{Reference, references, is_among, is_held_at, changed_above}
use Rattle.coherent_memory.specs.Sight.{Sight, Pointer, taken_pointers, is_stale, sight}
use Rattle.coherent_memory.specs.Placing.{held_by, standing_of, standing_in, standing_pointers, fresh_beside, not_alone, dirty_wrong}
use Rattle.coherent_memory.specs.Words.{IsStale}
use Rattle.coherent_memory.specs.Dirty.{IsAlone, DirtyAlone, DirtyLaw}
use Rattle.coherent_memory.proofs.Names.{left_none, right_none, one_not}
use Rattle.coherent_memory.proofs.Words.{none_at, none_all, tells, told, not_told, named, itself}

-- what a dirty reference that isn't stale would be counted for
abbrev not_sole : Sight → Reference → ℕ
not_sole s r = tot (held_by r.at) (references s.ground s.things) + tot (fresh_beside s r) (standing_pointers s)

if_both : (p q : Bool) (n : ℕ) → p ≡ true → q ≡ false → if_so (p && not q) n ≡ 0 → n ≡ 0
if_both true false n e f z = z
if_both true true n e f z = absurd (cc f)
if_both false q n e f z = absurd (cc e)

both_made : (p q : Bool) (n : ℕ) → (p ≡ true → q ≡ false → n ≡ 0) → if_so (p && not q) n ≡ 0
both_made true false n f = f refl refl
both_made true true n f = refl
both_made false q n f = refl

not_one : (q : Bool) → one q ≡ 0 → q ≡ true → ⊥
not_one true z e = absurd (omega (arith, z))
not_one false z e = absurd (cc e)

-- a pointer to the object that weighs nothing is stale, or the reference itself
beside_by : (k : Cluster) (r : Reference) (p : Pointer) (st held : Bool) → is_stale (sight k).stale p.at ≡ st → is_held_at r.at p.at ≡ held → one (not st && not held) ≡ 0 → IsStale (sight k) p.at ⊎ (is_held_at r.at p.at ≡ true)
beside_by k r p true held e f z = inl (tells k p.at e)
beside_by k r p false true e f z = inr f
beside_by k r p false false e f z = absurd (omega (arith, z))

beside : (k : Cluster) (r : Reference) (p : Pointer) → fresh_beside (sight k) r p ≡ 0 → p.object ≡ r.reference.object → IsStale (sight k) p.at ⊎ (is_held_at r.at p.at ≡ true)
beside k r p z e =
    let same : same_object p.object r.reference.object ≡ true = itself p.object r.reference.object e in
    let st = is_stale (sight k).stale p.at in
    let held = is_held_at r.at p.at in
    beside_by k r p st held refl refl (subst (λ b. if_so b (one (not st && not held)) ≡ 0) same z)

from_count : (k : Cluster) → dirty_wrong (sight k) ≡ 0 → DirtyAlone (sight k)
from_count k z r m d n =
    let s = sight k in
    let rs = references s.ground s.things in
    let here : not_alone s rs r ≡ 0 = none_at (not_alone s rs) r rs z m in
    let none : not_sole s r ≡ 0 = if_both r.reference.dirty (is_among r.at s.stale) (not_sole s r) d (not_told k (Some r.at) n) here in
    let lent : tot (held_by r.at) rs ≡ 0 = left_none (tot (held_by r.at) rs) (tot (fresh_beside s r) (standing_pointers s)) none in
    let others : tot (fresh_beside s r) (standing_pointers s) ≡ 0 = right_none (tot (held_by r.at) rs) (tot (fresh_beside s r) (standing_pointers s)) none in
    record {
      unlent = λ q i h. not_one (is_held_at r.at q.holder) (none_at (held_by r.at) q rs lent i) h;
      sole = λ p i e. beside k r p (none_at (fresh_beside s r) p (standing_pointers s) others i) e;
    }

weightless : (b st held : Bool) → (b ≡ true → (st ≡ true) ⊎ (held ≡ true)) → if_so b (one (not st && not held)) ≡ 0
weightless false st held f = refl
weightless true true held f = refl
weightless true false true f = refl
weightless true false false f = ⊎_elim (λ (e : false ≡ true). absurd (cc e)) (λ (e : false ≡ true). absurd (cc e)) (f refl)

beside_none : (k : Cluster) (r : Reference) → IsAlone (sight k) r → (p : Pointer) → Among p (standing_pointers (sight k)) → fresh_beside (sight k) r p ≡ 0
beside_none k r a p m =
    weightless (same_object p.object r.reference.object) (is_stale (sight k).stale p.at) (is_held_at r.at p.at)
    (λ e. ⊎_elim (λ (x : IsStale (sight k) p.at). inl (told k p.at x)) (λ (x : is_held_at r.at p.at ≡ true). inr x) (a.sole p m (named p.object r.reference.object e)))

sole_none : (k : Cluster) (r : Reference) → IsAlone (sight k) r → not_sole (sight k) r ≡ 0
sole_none k r a =
    let s = sight k in
    omega (arith, none_all (held_by r.at) (references s.ground s.things) (λ q m. one_not (is_held_at r.at q.holder) (λ e. a.unlent q m e)), none_all (fresh_beside s r) (standing_pointers s) (beside_none k r a))

none_counted : (k : Cluster) → DirtyAlone (sight k) → dirty_wrong (sight k) ≡ 0
none_counted k h =
    let s = sight k in
    let rs = references s.ground s.things in
    none_all (not_alone s rs) rs (λ r m. both_made r.reference.dirty (is_among r.at s.stale) (not_sole s r) (λ d f. sole_none k r (h r m d (λ st. let e : true ≡ false = sym (told k (Some r.at) st) ∙ f in absurd (cc e)))))

dirty_changed : (r : MutRef) → r.dirty ≡ true → changed r ≡ true
dirty_changed r e = rw e refl

among_front : {A : Type 0} (x : A) (xs ys : List A) → Among x xs → Among x (xs ++ ys)
among_front x [] ys h = absurd h
among_front x (y ∷ xs) ys (inl e) = inl e
among_front x (y ∷ xs) ys (inr h) = inr (among_front x xs ys h)

among_back : {A : Type 0} (x : A) (xs ys : List A) → Among x ys → Among x (xs ++ ys)
among_back x [] ys h = h
among_back x (y ∷ xs) ys h = inr (among_back x xs ys h)

-- the pointer that a shared reference is
abbrev shared_pointer : SharedRef → Pointer
shared_pointer q = record { at = None; word = q.word; object = q.object }

shared_stands : (l : Location) (q : SharedRef) (b : List Thing) → Among (shares l q) b → Among (shared_pointer q) (standing_in b)
shared_stands l q [] h = absurd h
shared_stands l q (x ∷ b) (inl e) = among_front (shared_pointer q) (standing_of x) (standing_in b) (subst (λ y. Among (shared_pointer q) (standing_of y)) (sym e) (inl refl))
shared_stands l q (x ∷ b) (inr h) = among_back (shared_pointer q) (standing_of x) (standing_in b) (shared_stands l q b h)

unshared : (s : Sight) (r : Reference) → IsAlone s r → (l : Location) (q : SharedRef) → Among (shares l q) s.things → q.object ≡ r.reference.object → ⊥
unshared s r a l q m e =
    ⊎_elim (λ (x : IsStale s None). absurd x) (λ (x : false ≡ true). absurd (cc x))
    (a.sole (shared_pointer q) (among_front (shared_pointer q) (standing_in s.things) (taken_pointers s.code s.ground s.ground.threads) (shared_stands l q s.things m)) e)

pub dirty_law : DirtyLaw
dirty_law = record { from_count = from_count; none_counted = none_counted; unshared = unshared; stale_above = λ k r l m d h. changed_above r m h (dirty_changed r.reference d) }
