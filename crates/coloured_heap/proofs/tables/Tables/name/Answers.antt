use Rattle.std.proofs.Common.{rules, ◌≡◌, Some, sym, subst}
use Rattle.std.proofs.lemmas.Result.{on_ok_weaker}
use Rattle.fr_base.specs.declared.step.Fresh.TheVariants as fresh
use Rattle.coloured_heap.specs.Changes.{with_new_mutex}
use Rattle.coloured_heap.specs.Tables.{Shows}
use Rattle.coloured_heap.specs.contracts.keys.WishPartialEq.TheImpl.{eq-value}
use Rattle.coloured_heap.proofs.tables.Tables.name.Goals as goal

pub returns-in-Some-Mutex : goal.returns-in-Some-Mutex
returns-in-Some-Mutex c =
    let done : c.args.entry.now.done ≡ Some (fresh.Mutex c.in-Some-Mutex.mutex) = search rules in
    on_ok_weaker c.add_mutex.result (λ f s h. subst (λ d. Shows eq-value.it c.add_mutex.new.self (with_new_mutex d s)) (sym done) (f s h)) c.add_mutex.ensures
