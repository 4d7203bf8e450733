-- Typing knows of few slots before an instruction: each is dropped by one that comes later in the code, since a thread ends without slots.
use Rattle.std.proofs.Common.{◌≡◌, ◌≤◌, ◌<◌, ℕ, zero, suc, ◌+◌, ◌*◌, Bool, true, false, if◌then◌else◌, List, [], ◌∷◌, length, Some, refl, ap, ◌∙◌, arith}
use Rattle.std.specs.Prelude.{slice_get}
use Rattle.law_counts_things.specs.Below.fr_base.declared.place.Lval.{Lval}
use Rattle.law_counts_things.specs.Below.fr_base.declared.instruction.Instr.{Instr}
use Rattle.law_counts_things.specs.Below.fr_typing.Kinds.{Kind, whole, gone}
use Rattle.law_counts_things.specs.Below.fr_typing.Places.{Env, on_path, is_mutable, put_at}
use Rattle.law_counts_things.specs.Below.fr_typing.Checks.{set_through}
use Rattle.law_counts_things.specs.Below.fr_typing.Captures.{Capturer, Captures, captures_copy, captures_move}
use Rattle.law_counts_things.proofs.Below.fr_store.PutAt.{length_put}
use Rattle.law_counts_things.specs.Below.fr_code.CodeTypes.{Entry, Table, SlotPasses, passes, SlotsPass, pass_none, pass_next, InstrTypes, i_let, i_assign, i_copy, i_move, i_borrow, i_borrow_mut, i_box, i_arith, i_print, i_discard, i_drop, i_spawn, i_join, i_mutex, i_dup, i_lock, i_unlock, i_par, i_par_end}
use Rattle.law_counts_things.specs.Below.fr_code.Joins.{have_names, JoinsTo, alone, first, second}
use Rattle.law_counts_things.specs.Below.fr_code.CodeTable.{Successors, Leads, to_next, ends, AllEnter, IsTable}

-- as many slots have a name or none
names_long : (e f : Env) → have_names e ≡ have_names f → length f ≡ length e
names_long [] [] h = refl
names_long [] (r ∷ f) h = absurd cc
names_long (s ∷ e) [] h = absurd cc
names_long (s ∷ e) (r ∷ f) h = ap suc (names_long e f (let q : have_names e ≡ have_names f = cc in q))

-- what is joined has as many slots
joined_long : {x y : Entry} → JoinsTo x y → length y.env ≡ length x.env
joined_long alone = refl
joined_long (first other j) = names_long _ _ j.variables.0
joined_long (second other j) = names_long _ _ j.variables.1

set_long : (e : Env) (w : Lval) (k : Kind) → length (set_through e w k) ≡ length e
set_long e w k = by (on_path is_mutable e w.slot w.depth)
  where
    by : (b : Bool) → length (if b then e else put_at e w (whole k)) ≡ length e
    by true = refl
    by false = length_put e w (whole k)

-- captures leave all slots there
captured_long : {by : Capturer} {e n e1 n1 : Env} {c : _} → Captures by e n c e1 n1 → length e1 ≡ length e
captured_long (captures_copy m a b d) = refl
captured_long (captures_move m a b d) = length_put _ _ _

passed_long : {by : Capturer} {e n e1 n1 : Env} {x : ℕ × Bool} → SlotPasses by e n x e1 n1 → length e1 ≡ length e
passed_long (passes c a g b d) = captured_long g

all_long : {by : Capturer} {e n e1 n1 : Env} {xs : List (ℕ × Bool)} → SlotsPass by e n xs e1 n1 → length e1 ≡ length e
all_long pass_none = refl
all_long (pass_next g h) = all_long h ∙ passed_long g

-- an instruction drops at most two slots, those of a lock
drops_two : {table : Table} {x y : Entry} {i : Instr} → InstrTypes table x i y → length x.env ≤ length y.env + 2
drops_two (i_let n t o) = omega arith
drops_two (i_assign {e} {ts} {us} {g} {o} {w} {k} t h a b c d) = omega (arith, set_long e w k)
drops_two (i_copy a h c b) = omega arith
drops_two (i_move {e} {ts} {g} {w} {k} a h c b o) = omega (arith, length_put e w (gone k))
drops_two (i_borrow a h b) = omega arith
drops_two (i_borrow_mut a h b) = omega arith
drops_two (i_box t f) = omega arith
drops_two (i_arith t u) = omega arith
drops_two (i_print t) = omega arith
drops_two (i_discard t) = omega arith
drops_two (i_drop a b c) = omega arith
drops_two (i_spawn a p b f) = omega (arith, all_long p)
drops_two (i_join t) = omega arith
drops_two (i_mutex t f) = omega arith
drops_two (i_dup a h b) = omega arith
drops_two (i_lock n a h b o) = omega arith
drops_two (i_unlock a) = omega arith
drops_two (i_par a p q b c) = omega (arith, all_long p, all_long q)
drops_two i_par_end = omega arith

there_below : {X : Type 0} (xs : List X) (i : ℕ) (x : X) → slice_get xs i ≡ Some x → i < length xs
there_below [] i x h = absurd cc
there_below (y ∷ xs) zero x h = omega arith
there_below (y ∷ xs) (suc i) x h = omega (arith, there_below xs i x h)

module _ (code : List Instr) (table : Table) (is : IsTable code table) where
  -- an entry's instruction is in the code
  pub entry_within : (pc : ℕ) (x : Entry) → table pc ≡ Some x → pc < length code
  entry_within pc x e = let row = is.rows pc x e in there_below code pc row.instruction row.there

  next_few : (n pc : ℕ) (x : Entry) (i : Instr) (ss : Successors) → Leads table pc x i ss → AllEnter table ss → ((y : Entry) → table (pc + 1) ≡ Some y → length y.env ≤ 2 * n) → length x.env ≤ 2 * suc n
  next_few n pc x i _ (to_next t) g go = let next = g.0 in omega (arith, drops_two t, joined_long next.joins, go next.entry next.at)
  next_few n pc _ i _ (ends t) g go = omega arith

  few_from : (n pc : ℕ) (x : Entry) → table pc ≡ Some x → length code ≤ pc + n → length x.env ≤ 2 * n
  few_from zero pc x e l = absurd (omega (arith, entry_within pc x e, l))
  few_from (suc n) pc x e l = let row = is.rows pc x e in next_few n pc x row.instruction row.successors row.leads row.enter (λ y q. few_from n (pc + 1) y q (omega (arith, l)))

  pub few_slots : (pc : ℕ) (x : Entry) → table pc ≡ Some x → length x.env ≤ 2 * length code
  few_slots pc x e = few_from (length code) pc x e (omega arith)
