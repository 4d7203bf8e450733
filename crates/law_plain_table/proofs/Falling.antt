-- Slots of a block that go one after another.
use Rattle.std.proofs.Common.{◌≡◌, ℕ, ◌+◌, ◌≤◌, Bool, true, false, List, [], ◌∷◌, length, refl, ap, ◌∙◌, arith}
use Rattle.std.specs.Prelude.{not, ◌&&◌, ◌||◌, nat_le}
use Rattle.std.specs.List.{list_any}
use Rattle.std.proofs.lemmas.Bool.{leb-false, lt-leb}
use Rattle.fr_base.specs.declared.place.Lval.{Lval}
use Rattle.fr_base.specs.declared.instruction.Operand.{Operand}
use Rattle.fr_base.specs.declared.instruction.Operand.TheVariants as operand
use Rattle.fr_base.specs.declared.instruction.Instr.{Instr}
use Rattle.fr_base.specs.declared.instruction.Instr.TheVariants as instr
use Rattle.fr_typing.specs.Kinds.{Owned, Kind, own, shared, mutable, view}
use Rattle.fr_typing.specs.Places.{Env}
use Rattle.fr_typing.specs.Checks.{is_int, names_from}
use Rattle.fr_store.proofs.Below.{or_false}
use Rattle.fr_code.specs.CodeTypes.{going, wait, outlive, i_drop, is_locked}
use Rattle.fr_code.specs.StandsFor.{DropsAt}
use Rattle.law_plain_table.proofs.Grown.{Grown, kept, newer, old, grown_length, grown_open}
use Rattle.law_plain_table.proofs.Lines.{Line, then_line, one, none_more, push}

pub and_both : (a b : Bool) → (a && b) ≡ true → (a ≡ true) × (b ≡ true)
and_both true b h = (refl, h)
and_both false b h = absurd cc

-- what names no slot from one on names none from a later one on
none_later : (n m : ℕ) (us : List Lval) → n ≤ m → list_any (λ u. nat_le n u.slot) us ≡ false → list_any (λ u. nat_le m u.slot) us ≡ false
none_later n m [] le h = refl
none_later n m (u ∷ us) le h =
    let o = or_false (nat_le n u.slot) (list_any (λ v. nat_le n v.slot) us) h in
    let l = leb-false n u.slot o.0 in
    ap (λ b. b || list_any (λ v. nat_le m v.slot) us) (lt-leb m u.slot (omega (arith, l, le))) ∙ none_later n m us le o.1

pub names_later : (n m : ℕ) (k : Kind) → n ≤ m → names_from n k ≡ false → names_from m k ≡ false
names_later n m (own o) le h = refl
names_later n m (shared us) le h = none_later n m us le h
names_later n m (mutable us) le h = none_later n m us le h
names_later n m (view o) le h = refl

-- integers name no slot
int_names : (n : ℕ) (k : Kind) → is_int k ≡ true → names_from n k ≡ false
int_names n (own o) h = refl
int_names n (shared us) h = absurd cc
int_names n (mutable us) h = absurd cc
int_names n (view o) h = refl

waiting_outlive : (n : ℕ) (ts : List Kind) → wait ts ≡ true → outlive n ts ≡ true
waiting_outlive n [] w = refl
waiting_outlive n (k ∷ ts) w =
    let a = and_both (is_int k) (wait ts) w in
    ap (λ b. not b && outlive n ts) (int_names n k a.0) ∙ waiting_outlive n ts a.1

-- a value that names no slot of the block outlives it
pub value_outlives : (n : ℕ) (o : Operand) (k : Kind) (ts : List Kind) → names_from n k ≡ false → wait ts ≡ true → outlive n (push o k ts) ≡ true
value_outlives n operand.Pop k ts h w = ap (λ b. not b && outlive n ts) h ∙ waiting_outlive n ts w
value_outlives n (operand.Const c) k ts h w = waiting_outlive n ts w
value_outlives n operand.Unit k ts h w = waiting_outlive n ts w

outlive_later : (n m : ℕ) (ts : List Kind) → n ≤ m → outlive n ts ≡ true → outlive m ts ≡ true
outlive_later n m [] le h = refl
outlive_later n m (k ∷ ts) le h = by (outlive_later n m ts le) (names_from n k) refl h
  where
    by : (outlive n ts ≡ true → outlive m ts ≡ true) → (b : Bool) → names_from n k ≡ b → (not b && outlive n ts) ≡ true → (not (names_from m k) && outlive m ts) ≡ true
    by go true e h = absurd cc
    by go false e h = ap (λ b. not b && outlive m ts) (names_later n m k le e) ∙ go h

-- the slots that a block declared go, and no value names them
pub falls : {n : ℕ} {e f : Env} (code : List Instr) (p q : ℕ) (ts : List Kind) (g : Owned) (w : Grown n e f) → is_locked e ≡ false → outlive (length e) ts ≡ true → DropsAt code p n q → Line code p (going f ts g) q (going (old w) ts g)
falls code p q ts g (kept h) l o d = none_more d
falls {e = e} code p q ts g (newer {f = f} w s) l o d =
    then_line (one instr.DropSlot d.0 refl (λ table. i_drop s (grown_open w l) (outlive_later (length e) (length f) ts (let q = grown_length w in omega (arith, q)) o)) refl) (falls code (p + 1) q ts g w l o d.1)
