-- Running terms: terms with slots for names and with the values that steps left (Featherweight Rust's, with this
-- project's threads and mutexes).
use Rattle.std.specs.Prelude.{ℕ, ℤ, Bool, List}
use Rattle.fr_base.specs.declared.place.Lval.{Lval}
use Rattle.fr_base.specs.declared.place.Op.{Op}
use Rattle.fr_plain.specs.declared.value.Value.{Value}
pub use Rattle.fr_plain.specs.MachineActs.{Capture}

-- `temp` is a value that a step left; a borrow of either kind leaves the same reference; a block has the number of slots that it has still to drop;
-- the term of a new thread has slots of its own. After its step a `lock` is `locked`, until its body is done and the mutex unlocked, and
-- a `par` is `par_end`, until both threads have ended
mutual
  pub data Run : Type 0 where
    temp : Value → Run
    unit_c : Run
    number : ℤ → Run
    read : Lval → (take : Bool) → Run
    borrow : Lval → (is_mut : Bool) → Run
    box_r : Run → Run
    arith : Op → Run → Run → Run
    bind : Run → Run
    print : Run → Run
    assign : Lval → Run → Run
    block : ℕ → Parts → Run
    spawn : List Capture → Run → Run
    join_r : Run → Run
    mutex_r : Run → Run
    dup : Lval → Run
    lock : Lval → Run → Run
    locked : Run → Run
    par : List Capture → Run → List Capture → Run → Run
    par_end : Run

  -- the items of a block; in `more` the first one has a `;` behind it
  pub data Parts : Type 0 where
    last : Run → Parts
    more : Run → Parts → Parts
