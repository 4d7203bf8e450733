-- Steps of reading that went well.
use Rattle.std.proofs.Common.{◌≡◌, Bool, true, false, cond, refl, ap, Option, Some, None}
use Rattle.journal.specs.OrderReading.{◌>>=◌}

-- the value of a step that gave one
pub bind_some : {A B : Type 0} (r : Option A) (f : A → Option B) (y : B) → (r >>= f) ≡ Some y → (x : A) × (r ≡ Some x) × (f x ≡ Some y)
bind_some (Some x) f y e = (x, refl, e)
bind_some None f y e = absurd cc

-- a test that passed
pub guard_some : {A : Type 0} (b : Bool) (x y : A) → cond b (Some x) None ≡ Some y → (b ≡ true) × (x ≡ y)
guard_some true x y e = (refl, cc)
guard_some false x y e = absurd cc

abbrev some : {A : Type 0} → A → Option A
some x = Some x

-- one value is not two
pub some_is : {A : Type 0} (x y : A) → some x ≡ some y → x ≡ y
some_is x y e = cc

-- the parts of a pair
pub fst_is : {A B : Type 0} (x y : A × B) → x ≡ y → x.0 ≡ y.0
fst_is x y e = ap (λ p. p.0) e

pub snd_is : {A B : Type 0} (x y : A × B) → x ≡ y → x.1 ≡ y.1
snd_is x y e = ap (λ p. p.1) e
