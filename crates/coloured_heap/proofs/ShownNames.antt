-- Names that are found in tables as in the lists of a state.
use Rattle.std.proofs.Common.{◌≡◌, ℕ, ◌&&◌, ◌==◌, Bool, true, false, refl, ap₂, subst, ◌∙◌}
use Rattle.std.proofs.lemmas.Bool.{eq-eqb}
use Rattle.fr_base.specs.Names.{same_object, same_mutex}
use Rattle.fr_base.specs.declared.name.MutexNo.{MutexNo}
use Rattle.fr_base.specs.declared.name.ObjNo.{ObjNo}
use Rattle.coloured_heap.specs.Heap as heap
use Rattle.coloured_heap.specs.Heap.{Copied, is_copy, same_wish}
use Rattle.coloured_heap.specs.Tables.{same_object_key, same_mutex_key, wish_of}
use Rattle.coloured_heap.specs.declared.keys.Wish.{Wish}
use Rattle.coloured_heap.specs.declared.keys.Wish.TheVariants as wish
use Rattle.coloured_heap.specs.contracts.keys.WishPartialEq.TheImpl.{eq-value}
use Rattle.coloured_heap.proofs.Times.{both, number_is, object_is, mutex_is}
use Rattle.coloured_heap.proofs.Same.{wish_is}

-- a test that holds of equal names alone answers the same either way round
flip : {N : Type 0} (same : N → N → Bool) → ((p q : N) → same p q ≡ true → p ≡ q) → ((p : N) → same p p ≡ true) → (p q : N) → same p q ≡ same q p
flip same exact itself p q = by (same p q) refl (same q p) refl
  where
    by : (b : Bool) → same p q ≡ b → (c : Bool) → same q p ≡ c → b ≡ c
    by true is true other = refl
    by false is false other = refl
    by true is false other = let never : same q q ≡ false = subst (λ z. same q z ≡ false) (exact p q is) other in let always = itself q in absurd cc
    by false is true other = let never : same p p ≡ false = subst (λ z. same p z ≡ false) (exact q p other) is in let always = itself p in absurd cc

pub number_itself : (n : ℕ) → (n == n) ≡ true
number_itself n = eq-eqb n n refl

all : (a b : Bool) → a ≡ true → b ≡ true → a && b ≡ true
all true true is too = refl
all true false is too = absurd cc
all false b is too = absurd cc

pub object_itself : (p : ObjNo) → same_object p p ≡ true
object_itself p = all (p.thread == p.thread) (p.count == p.count) (number_itself p.thread) (number_itself p.count)

mutex_itself : (m : MutexNo) → same_mutex m m ≡ true
mutex_itself m = all (m.home == m.home) (m.count == m.count) (number_itself m.home) (number_itself m.count)

pub number_flip : (a b : ℕ) → (a == b) ≡ (b == a)
number_flip = flip (λ a b. a == b) number_is number_itself

pub object_flip : (p q : ObjNo) → same_object p q ≡ same_object q p
object_flip = flip same_object object_is object_itself

pub mutex_flip : (m n : MutexNo) → same_mutex m n ≡ same_mutex n m
mutex_flip = flip same_mutex mutex_is mutex_itself

-- COPIES

abbrev pub same_pair : ℕ × ℕ → ℕ × ℕ → Bool
same_pair a b = (a.0 == b.0) && (a.1 == b.1)

pub pair_is : (a b : ℕ × ℕ) → same_pair a b ≡ true → a ≡ b
pair_is a b h = let each = both (a.0 == b.0) (a.1 == b.1) h in ap₂ (λ x y. (x, y)) (number_is a.0 b.0 each.0) (number_is a.1 b.1 each.1)

pub pair_flip : (a b : ℕ × ℕ) → same_pair a b ≡ same_pair b a
pair_flip = flip same_pair pair_is (λ a. all (a.0 == a.0) (a.1 == a.1) (number_itself a.0) (number_itself a.1))

pub copy_itself : (c : Copied) → is_copy c.object c.word c.server c ≡ true
copy_itself c = all ((c.server == c.server) && (c.word == c.word)) (same_object c.object c.object) (all (c.server == c.server) (c.word == c.word) (number_itself c.server) (number_itself c.word)) (object_itself c.object)

pub other_order : (a b c : Bool) → a && b && c ≡ c && b && a
other_order true true true = refl
other_order true true false = refl
other_order true false true = refl
other_order true false false = refl
other_order false true true = refl
other_order false true false = refl
other_order false false true = refl
other_order false false false = refl

-- WISHES

pub wish_itself : (a : heap.Wish) → same_wish a a ≡ true
wish_itself (heap.ForCopy p w here) = all (same_object p p && (w == w)) (here == here) (all (same_object p p) (w == w) (object_itself p) (number_itself w)) (number_itself here)
wish_itself (heap.ForObject p w here) = all (same_object p p && (w == w)) (here == here) (all (same_object p p) (w == w) (object_itself p) (number_itself w)) (number_itself here)
wish_itself (heap.ForContent m t here) = all (same_mutex m m && (t == t)) (here == here) (all (same_mutex m m) (t == t) (mutex_itself m) (number_itself t)) (number_itself here)
wish_itself (heap.ForShare m t here) = all (same_mutex m m && (t == t)) (here == here) (all (same_mutex m m) (t == t) (mutex_itself m) (number_itself t)) (number_itself here)
wish_itself (heap.ForResult t asker here) = all ((t == t) && (asker == asker)) (here == here) (all (t == t) (asker == asker) (number_itself t) (number_itself asker)) (number_itself here)

regroup : (a b c : Bool) → a && (b && c) ≡ a && b && c
regroup true b c = refl
regroup false b c = refl

wish_keys : (a b : Wish) → eq-value.it a b ≡ same_wish (wish_of a) (wish_of b)
wish_keys (wish.Copy p w here) (wish.Copy q v there) = regroup (same_object_key p q) (w == v) (here == there)
wish_keys (wish.Object p w here) (wish.Object q v there) = regroup (same_object_key p q) (w == v) (here == there)
wish_keys (wish.Content m t here) (wish.Content n u there) = regroup (same_mutex_key m n) (t == u) (here == there)
wish_keys (wish.Share m t here) (wish.Share n u there) = regroup (same_mutex_key m n) (t == u) (here == there)
wish_keys (wish.Result t asker here) (wish.Result u other there) = regroup (t == u) (asker == other) (here == there)
wish_keys (wish.Copy p w here) _ = refl
wish_keys (wish.Object p w here) _ = refl
wish_keys (wish.Content m t here) _ = refl
wish_keys (wish.Share m t here) _ = refl
wish_keys (wish.Result t asker here) _ = refl

-- keys of wishes are the same where the wishes are
pub wish_keys_back : (a b : Wish) → eq-value.it a b ≡ same_wish (wish_of b) (wish_of a)
wish_keys_back a b = wish_keys a b ∙ flip same_wish wish_is wish_itself (wish_of a) (wish_of b)
