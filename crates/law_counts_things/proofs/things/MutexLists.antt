-- Mutexes of a home, of which each has a property: one that is found has it, and they keep it where one is put, or goes.
use Rattle.std.proofs.Common.{◌≡◌, Bool, true, false, if◌then◌else◌, List, [], ◌∷◌, Option, Some, None, subst}
use Rattle.std.specs.List.{AllByRecursion}
use Rattle.law_counts_sums.specs.Below.fr_base.declared.name.MutexNo.{MutexNo}
use Rattle.law_counts_sums.specs.Below.fr_base.Names.{same_mutex}
use Rattle.law_counts_sums.specs.Below.mutex_home.Mutexes.{Mutex, mutex_in, with_mutex, without_mutex}
use Rattle.law_counts_sums.specs.Laws.{Gives}

module _ (P : Mutex → Type 0) where
  pub found : (xs : List Mutex) (m : MutexNo) → AllByRecursion P xs → Gives P (mutex_in xs m)
  found [] m a = tt
  found (x ∷ xs) m a = by (same_mutex x.number m) (found xs m a.1)
    where
      by : (b : Bool) → Gives P (mutex_in xs m) → Gives P (if b then Some x else mutex_in xs m)
      by true g = a.0
      by false g = g

  pub put_all : (xs : List Mutex) (new : Mutex) → AllByRecursion P xs → P new → AllByRecursion P (with_mutex xs new)
  put_all [] new a p = tt
  put_all (x ∷ xs) new a p = by (same_mutex x.number new.number) (put_all xs new a.1 p)
    where
      by : (b : Bool) → AllByRecursion P (with_mutex xs new) → AllByRecursion P (if b then new ∷ xs else x ∷ with_mutex xs new)
      by true g = (p, a.1)
      by false g = (a.0, g)

  pub ends_all : (xs : List Mutex) (m : MutexNo) → AllByRecursion P xs → AllByRecursion P (without_mutex xs m)
  ends_all [] m a = tt
  ends_all (x ∷ xs) m a = by (same_mutex x.number m) (ends_all xs m a.1)
    where
      by : (b : Bool) → AllByRecursion P (without_mutex xs m) → AllByRecursion P (if b then xs else x ∷ without_mutex xs m)
      by true g = a.1
      by false g = (a.0, g)

-- what a call gives has what all that it gives has
pub given : {X : Type 0} (P : X → Type 0) (o : Option X) (x : X) → Gives P o → o ≡ Some x → P x
given P None x g e = absurd (cc e)
given P (Some y) x g e = let same : y ≡ x = cc in subst P same g
