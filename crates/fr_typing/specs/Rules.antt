-- What follows in each row of the table of typing, after its parts (Featherweight Rust with this project's rules). A number
-- `at` is where a fault of that check stands.
use Rattle.std.specs.Prelude.{ℕ, not, is_some, ◌∷◌, Some, [], if◌then◌else◌}
use Rattle.fr_base.specs.declared.place.Lval.{Lval}
use Rattle.fr_terms.specs.Terms.{Text, Spot}
use Rattle.fr_typing.specs.declared.reason.Reason.TheVariants.{NameInScope, ReadBlocked, WriteBlocked, MovedThrough, NotWritable, WrongType, Outlives, NotOwned, NotFull}
use Rattle.fr_typing.specs.Kinds.{Owned, unit, int, box, mutex, Kind, own, shared, mutable, view, Piece, whole, gone, copies}
use Rattle.fr_typing.specs.Places.{Env, read_blocked, write_blocked, is_writable, is_own_path, put_at, slot_of}
use Rattle.fr_typing.specs.Checks.{is_int, is_unit, is_owned, is_full, mutex_of, task_of, is_kept_out, has_shape_of, names_from, keep, set_through, with_lock, has_content}
use Rattle.fr_typing.specs.Finding.{Outcome, typed, fault, unless, given, find}

abbrev pub read_rule : Env → Spot → Lval → Kind → Outcome
read_rule e w x k =
    if copies k then unless (read_blocked e x.slot) w.at ReadBlocked (typed k e)
    else unless (write_blocked e x.slot) w.at WriteBlocked
    (unless (not (is_own_path e x)) w.at MovedThrough
    (typed k (put_at e x (gone k))))

abbrev pub borrow_rule : Env → Lval → Kind → Outcome
borrow_rule e x k = typed (shared (x ∷ [])) e

abbrev pub borrow_mut_rule : Env → Spot → Lval → Kind → Outcome
borrow_mut_rule e w x k =
    unless (write_blocked e x.slot) w.at WriteBlocked
    (unless (not (is_writable e x)) w.at NotWritable
    (typed (mutable (x ∷ [])) e))

-- what holds an owned type is one level higher
abbrev pub held_rule : (Owned → Owned) → ℕ → Kind → Env → Outcome
held_rule hold at (own o) e = unless (is_full o) at NotOwned (typed (own (hold o)) e)
held_rule hold at (shared us) e = fault at NotOwned
held_rule hold at (mutable us) e = fault at NotOwned
held_rule hold at (view o) e = fault at NotOwned

abbrev pub box_rule : ℕ → Kind → Env → Outcome
box_rule at k e = held_rule box at k e

abbrev pub int_rule : ℕ → Kind → Outcome → Outcome
int_rule at k rest = unless (not (is_int k)) at WrongType rest

abbrev pub print_rule : ℕ → Kind → Env → Outcome
print_rule at k e = unless (not (is_int k)) at WrongType (typed (own unit) e)

abbrev pub arith_rule : ℕ → Kind → Env → Outcome
arith_rule at k e = unless (not (is_int k)) at WrongType (typed (own int) e)

abbrev pub let_rule : ℕ → Text → Kind → Env → Outcome
let_rule at x k e = unless (is_some (slot_of e x)) at NameInScope (typed (own unit) (record { name = Some x; part = whole k } ∷ e))

abbrev pub write_rule : Env → Spot → ℕ → Kind → Lval → Piece → Outcome
write_rule e w at k x p =
    unless (write_blocked e x.slot) w.at WriteBlocked
    (unless (not (is_writable e x)) w.at NotWritable
    (unless (is_kept_out k x.depth) at NotOwned
    (unless (not (has_shape_of e p k)) at WrongType
    (unless (names_from x.slot k) at Outlives
    (typed (own unit) (set_through e x k))))))

abbrev pub assign_rule : Spot → ℕ → Kind → Env → Outcome
assign_rule w at k e = find e w (write_rule e w at k)

abbrev pub end_rule : ℕ → Kind → ℕ → Env → Outcome
end_rule base k last e = unless (names_from base k) last Outlives (typed k (keep base e))

abbrev pub join_rule : ℕ → Kind → Env → Outcome
join_rule at k e = given at WrongType (task_of k) (λ o. typed (own o) e)

abbrev pub dup_rule : Env → ℕ → Lval → Kind → Outcome
dup_rule e at x k = given at WrongType (mutex_of k) (λ o. typed (own (mutex o)) e)

-- up to the body of a lock, which is given the environment with its two slots
abbrev pub lock_rule : ℕ → Env → Spot → Text → (Env → Outcome) → Lval → Kind → Outcome
lock_rule at e w name body x k =
    given w.at WrongType (mutex_of k) (λ o. unless (is_some (slot_of e name)) at NameInScope (body (with_lock e x name o)))

abbrev pub unlock_rule : ℕ → ℕ → ℕ → Kind → Env → Outcome
unlock_rule at body base k e =
    unless (not (is_owned k)) body NotOwned
    (unless (not (has_content base e)) at NotFull
    (typed k (keep base e)))

-- both blocks of a par give unit
abbrev pub par_rule : ℕ → ℕ → Kind → Kind → Env → Outcome
par_rule ours theirs k l e = unless (not (is_unit k)) ours WrongType (unless (not (is_unit l)) theirs WrongType (typed (own unit) e))
