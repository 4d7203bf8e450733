-- What tests of names say, and weights of what is tested.
use Rattle.std.proofs.Common.{◌≡◌, ℕ, ◌+◌, Bool, true, false, refl, subst, ap, arith}
use Rattle.std.specs.Prelude.{◌==◌, ◌&&◌}
use Rattle.std.proofs.lemmas.Bool.Decides.{nat_tests}
use Rattle.server_model.specs.Below.fr_base.declared.name.ObjNo.{ObjNo}
use Rattle.server_model.specs.Below.fr_base.declared.name.MutexNo.{MutexNo}
use Rattle.fr_code.proofs.Below.fr_store.Keys.{object_cases}
use Rattle.coherent_memory.specs.Names.{one, if_so, same_object, same_mutex}

pub and_left : (p q : Bool) → (p && q) ≡ true → p ≡ true
and_left true q e = refl
and_left false q e = absurd (cc e)

pub and_right : (p q : Bool) → (p && q) ≡ true → q ≡ true
and_right true q e = e
and_right false q e = absurd (cc e)

pub same_number : (m n : ℕ) → (m == n) ≡ true → m ≡ n
same_number m n e = grind (arith, nat_tests, e)

-- a sum of nothing
pub left_none : (m n : ℕ) → m + n ≡ 0 → m ≡ 0
left_none m n z = omega (arith, z)

pub right_none : (m n : ℕ) → m + n ≡ 0 → n ≡ 0
right_none m n z = omega (arith, z)

pub both_none : (m n : ℕ) → m ≡ 0 → n ≡ 0 → m + n ≡ 0
both_none m n x y = omega (arith, x, y)

-- what isn't so weighs nothing
pub one_not : (q : Bool) → (q ≡ true → ⊥) → one q ≡ 0
one_not true n = absurd (n refl)
one_not false n = refl

pub if_not : (q : Bool) (n : ℕ) → (q ≡ true → ⊥) → if_so q n ≡ 0
if_not true n f = absurd (f refl)
if_not false n f = refl

pub if_none : (q : Bool) (n : ℕ) → n ≡ 0 → if_so q n ≡ 0
if_none true n z = z
if_none false n z = refl

-- one of two names has a weight and the other hasn't
pub apart : {I : Type 0} (h : I → ℕ) (p i : I) → h p ≡ 0 → h i ≡ 1 → p ≡ i → ⊥
apart h p i z e s = let y : h i ≡ 0 = subst (λ q. h q ≡ 0) s z in omega (arith, y, e)

pub other_number : (h : ℕ → ℕ) (p i : ℕ) → h p ≡ 0 → h i ≡ 1 → one (p == i) ≡ 0
other_number h p i z e = one_not (p == i) (λ q. apart h p i z e (same_number p i q))

pub other_object : (h : ObjNo → ℕ) (p o : ObjNo) → h p ≡ 0 → h o ≡ 1 → one (same_object p o) ≡ 0
other_object h p o z e = object_cases (λ b. one b ≡ 0) p o (λ s. absurd (apart h p o z e s)) (λ n. refl)

abbrev mutex_named : ℕ → ℕ → MutexNo
mutex_named s n = record { home = s; count = n }

pub same_mutexes : (m n : MutexNo) → same_mutex m n ≡ true → m ≡ n
same_mutexes m n e =
    let a : m.home ≡ n.home = same_number m.home n.home (and_left (m.home == n.home) (m.count == n.count) e) in
    let b : m.count ≡ n.count = same_number m.count n.count (and_right (m.home == n.home) (m.count == n.count) e) in
    subst (λ x. mutex_named m.home m.count ≡ mutex_named x n.count) a (ap (mutex_named m.home) b)

pub other_mutex : (h : MutexNo → ℕ) (p m : MutexNo) → h p ≡ 0 → h m ≡ 1 → one (same_mutex p m) ≡ 0
other_mutex h p m z e = one_not (same_mutex p m) (λ q. apart h p m z e (same_mutexes p m q))

abbrev pub two : ℕ → ℕ → ℕ × ℕ
two r a = (r, a)

pub same_pairs : (r a : ℕ) (at : ℕ × ℕ) → (r == at.0 && a == at.1) ≡ true → two r a ≡ at
same_pairs r a at e =
    let x : r ≡ at.0 = same_number r at.0 (and_left (r == at.0) (a == at.1) e) in
    let y : a ≡ at.1 = same_number a at.1 (and_right (r == at.0) (a == at.1) e) in
    subst (λ u. two r a ≡ two u at.1) x (ap (two r) y)

pub other_pair : (h : ℕ × ℕ → ℕ) (r a : ℕ) (at : ℕ × ℕ) → h (two r a) ≡ 0 → h at ≡ 1 → one (r == at.0 && a == at.1) ≡ 0
other_pair h r a at z e = one_not (r == at.0 && a == at.1) (λ q. apart h (two r a) at z e (same_pairs r a at q))
