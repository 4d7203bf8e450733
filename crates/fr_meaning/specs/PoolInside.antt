-- A pool's fields.
use Rattle.fr_meaning.specs.declared.pool.Pool.TheInside.{Inside}
use Rattle.fr_forms.specs.FormTerms.{AreInOrder}
use Rattle.fr_meaning.specs.Running.{view_of, Stands}
use Rattle.fr_meaning.specs.PoolView.{View, whole_of}
use Rattle.law_plain_threads.specs.steps.TypedTerms.{AreTypedTerms}

abbrev pub pool_view : Inside → View
pool_view p = view_of p.forms.items p.running

-- the forms name lower ones, each thread has its place and is well in the forms, and the plain state is typed
pub record IsPool (p : Inside) : Type 0 where
  pub order : AreInOrder p.forms.items
  pub stands : Stands p.forms.items p.running
  pub typed : AreTypedTerms (whole_of (pool_view p))
