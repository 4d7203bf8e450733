-- Tests of numbers, and threads that were never counted.
use Rattle.std.proofs.Common.{◌≡◌, ℕ, zero, suc, ◌==◌, ◌+◌, nat_le, not, ◌&&◌, true, false, Bool, refl, sym, ap, ◌∙◌, arith}
use Rattle.std.proofs.lemmas.Bool.Decides.{nat_tests}
use Rattle.coherent_memory.specs.Below.fr_base.declared.name.ObjNo.{ObjNo}
use Rattle.coherent_memory.specs.Below.fr_base.declared.name.MutexNo.{MutexNo}
use Rattle.coherent_memory.specs.Names.{one, some}

pub suc_zero : (n : ℕ) → (suc n == 0) ≡ false
suc_zero n = grind (arith, nat_tests)

pub zero_suc : (n : ℕ) → (0 == suc n) ≡ false
zero_suc n = grind (arith, nat_tests)

abbrev object : ℕ → ℕ → ObjNo
object t c = record { thread = t; count = c }

-- an object of those numbers
pub object_is : (o : ObjNo) (t c : ℕ) → o.thread ≡ t → o.count ≡ c → object t c ≡ o
object_is o t c e f = ap (λ n. object n c) (sym e) ∙ ap (object o.thread) (sym f)

abbrev mutex : ℕ → ℕ → MutexNo
mutex h c = record { home = h; count = c }

-- a mutex of those numbers
pub mutex_is : (m : MutexNo) (h c : ℕ) → m.home ≡ h → m.count ≡ c → mutex h c ≡ m
mutex_is m h c e f = ap (λ n. mutex n c) (sym e) ∙ ap (mutex m.home) (sym f)

pub suc_le_zero : (n : ℕ) → nat_le (suc n) 0 ≡ false
suc_le_zero n = grind (arith, nat_tests)

none_left : (c : Bool) → some (one (c && false) + 0) ≡ false
none_left true = refl
none_left false = refl

-- where no thread was counted, none is given beside main
pub none_counted : (c : Bool) (n : ℕ) → (not (n == 0) && some (one (c && nat_le n 0) + 0)) ≡ false
none_counted c zero = refl
none_counted c (suc n) = rw (suc_zero n, suc_le_zero n) (none_left c)
