-- The rules of the typing table, from what their functions of the code find.
use Rattle.std.proofs.Common.{◌≡◌, ℕ, ◌<◌, Bool, true, false, List, [], ◌∷◌, length, drop, ◌-◌, Some, sym, ap, ◌∙◌, subst, arith}
use Rattle.std.specs.Prelude.{is_some, nat_le, Result, Ok, Err, OnOk}
use Rattle.std.specs.List.{list_any}
use Rattle.std.proofs.lemmas.Bool.{or_parts}
use Rattle.fr_base.specs.declared.place.Lval.{Lval}
use Rattle.fr_terms.specs.Terms.{Text, Spot, borrow_t, borrow_mut_t}
use Rattle.fr_typing.specs.declared.reason.Reason.TheVariants.{NameInScope, ReadBlocked, WrongType, Outlives}
use Rattle.fr_typing.specs.Kinds.{unit, Kind, own, shared, mutable, view, Piece, whole}
use Rattle.fr_typing.specs.Places.{Env, found, read_blocked, on_path, is_mutable, put_at, slot_of, kind_places, AreBelow}
use Rattle.fr_typing.specs.Checks.{place_of, is_kept_out, has_shape_of, names_from, keep, set_through}
use Rattle.fr_typing.specs.Finding.{Outcome, typed, fault, unless, Has, find_whole}
use Rattle.fr_typing.specs.Typing.{typing}
use Rattle.fr_typing.proofs.FindingLemmas.{find_whole_by, shown_or}
use Rattle.fr_typing.proofs.PlaceLemmas.{AreBelow-weaker}
use Rattle.fr_types.specs.declared.types.Ty.{Ty}
use Rattle.fr_types.specs.Types.{kind_of}
use Rattle.fr_typing.specs.Rules.{borrow_rule, borrow_mut_rule, let_rule, end_rule}
use Rattle.fr_types.specs.States.{Held, env_of, slot_in}
use Rattle.fr_syntax.specs.Arena.{text_of}
use Rattle.borrow_check.specs.declared.check_error.CheckError.{CheckError}
use Rattle.borrow_check.specs.declared.check_error.CheckError.TheVariants.{Fault, NoMemory}
use Rattle.borrow_check.specs.Rules.{IsInScope, spot_of, FindsWhole, when_fitting, Gives, Passes}
use Rattle.borrow_check.specs.declared.written.Written.{Written}
use Rattle.borrow_check.proofs.ScopeLemmas.{length-env_of, length-put_at, slot_of-env_of, keep-env_of}

-- WRITES

pub fitting_shape : (e : Env) (at : ℕ) (x : Lval) (p : Piece) (k : Kind) (rest : Outcome) → false ≡ is_kept_out k x.depth → false ≡ has_shape_of e p k → when_fitting e at x p k rest ≡ fault at WrongType
fitting_shape e at x p k rest kept shape = simp (sym kept, sym shape)

pub fitting_outlives : (e : Env) (at : ℕ) (x : Lval) (p : Piece) (k : Kind) (rest : Outcome) → false ≡ is_kept_out k x.depth → true ≡ has_shape_of e p k → true ≡ names_from x.slot k → when_fitting e at x p k rest ≡ fault at Outlives
fitting_outlives e at x p k rest kept shape n = simp (sym kept, sym shape, sym n)

pub fitting_passes : (e : Env) (at : ℕ) (x : Lval) (p : Piece) (k : Kind) (rest : Outcome) → false ≡ is_kept_out k x.depth → true ≡ has_shape_of e p k → false ≡ names_from x.slot k → when_fitting e at x p k rest ≡ rest
fitting_passes e at x p k rest kept shape n = simp (sym kept, sym shape, sym n)

-- a fault of the first checks is the outcome
pub passes_fails : (A : Type 0) (o rest : Outcome) (error : CheckError) (after : Env) → Passes {A = A} (Err error) o rest → Gives (Err error) o after
passes_fails A o rest (Fault p r) after h = h
passes_fails A o rest NoMemory after h = tt

pub on_ok_map : {A E : Type 0} (P Q : Type 0) (r : Result A E) → (P → Q) → OnOk r P → OnOk r Q
on_ok_map P Q (Ok x) f h = f h
on_ok_map P Q (Err e) f h = tt

-- what was written stands at the place
pub set_is : (e after : Env) (x : Lval) (k : Kind) → false ≡ on_path is_mutable e x.slot x.depth → after ≡ put_at e x (whole k) → after ≡ set_through e x k
set_is e after x k h is =
    let set : set_through e x k ≡ put_at e x (whole k) = simp (sym h) in
    is ∙ sym set

pub set_stays : (e : Env) (x : Lval) (k : Kind) → true ≡ on_path is_mutable e x.slot x.depth → e ≡ set_through e x k
set_stays e x k h = let set : set_through e x k ≡ e = simp (sym h) in sym set

-- a write changes no number of slots
pub put_long : (vs new : List Held) (w : Lval) (p : Piece) → ((names : List Text) → env_of names new ≡ put_at (env_of names vs) w p) → length new ≡ length vs
put_long vs new w p is =
    sym (length-env_of [] new) ∙ ap length (is []) ∙ length-put_at (env_of [] vs) w p ∙ length-env_of [] vs

any_from_below : (n : ℕ) (us : List Lval) → list_any (λ (u : Lval). nat_le n u.slot) us ≡ false → AreBelow n us
any_from_below n [] h = tt
any_from_below n (u ∷ us) h =
    let parts = or_parts (nat_le n u.slot) (list_any (λ (u : Lval). nat_le n u.slot) us) h in
    (lower n u.slot parts.0, any_from_below n us parts.1)
  where
    lower : (n m : ℕ) → nat_le n m ≡ false → m < n
    lower n m h = grind (arith, h)

-- a type that names no slot from n on
pub stays_below : (n : ℕ) (k : Kind) → names_from n k ≡ false → AreBelow n (kind_places k)
stays_below n (own o) h = tt
stays_below n (shared us) h = any_from_below n us h
stays_below n (mutable us) h = any_from_below n us h
stays_below n (view o) h = tt

-- VARIABLES

abbrev let_by : ℕ → Text → Kind → Env → Bool → Outcome
let_by place x k e b = unless b place NameInScope (typed (own unit) (record { name = Some x; part = whole k } ∷ e))

pub is_some_slot : (names : List Text) (vs : List Held) (name : ℕ) (b : Bool) → IsInScope names vs → name < length names → b ≡ is_some (slot_in vs name) → is_some (slot_of (env_of names vs) (text_of names name)) ≡ b
is_some_slot names vs name b h lt is = ap is_some (slot_of-env_of names vs name h.different h.named lt) ∙ sym is

pub bind_typed : (names : List Text) (vs new : List Held) (name place : ℕ) (k : Kind) → IsInScope names vs → name < length names → false ≡ is_some (slot_in vs name) → new ≡ record { name = Some name; part = whole k } ∷ vs → let_rule place (text_of names name) k (env_of names vs) ≡ typed (own unit) (env_of names new)
bind_typed names vs new name place k h lt is pushed =
    ap (let_by place (text_of names name) k (env_of names vs)) (is_some_slot names vs name false h lt is)
    ∙ ap (λ l. typed (own unit) (env_of names l)) (sym pushed)

pub bind_fault : (names : List Text) (vs : List Held) (name place : ℕ) (k : Kind) → IsInScope names vs → name < length names → true ≡ is_some (slot_in vs name) → let_rule place (text_of names name) k (env_of names vs) ≡ fault place NameInScope
bind_fault names vs name place k h lt is = ap (let_by place (text_of names name) k (env_of names vs)) (is_some_slot names vs name true h lt is)

-- BLOCKS

pub end_outlives : (e : Env) (base last : ℕ) (k : Kind) → true ≡ names_from base k → end_rule base k last e ≡ fault last Outlives
end_outlives e base last k h = simp (sym h)

pub end_typed : (names : List Text) (vs new : List Held) (base last : ℕ) (k : Kind) → false ≡ names_from base k → new ≡ drop (length vs - base) vs → end_rule base k last (env_of names vs) ≡ typed k (env_of names new)
end_typed names vs new base last k h is =
    let rule : end_rule base k last (env_of names vs) ≡ typed k (keep base (env_of names vs)) = simp (sym h) in
    rule ∙ ap (typed k) (keep-env_of names vs base ∙ ap (env_of names) (sym is))

-- PLACES

-- a place that is found whole goes on with its type
pub whole_goes : (e : Env) (w : Spot) (x : Lval) (k : Kind) (go : Lval → Kind → Outcome) → x ≡ place_of w x.slot → Has e w x.slot (found (whole k)) → find_whole e w go ≡ go x k
whole_goes e w x k go at has = find_whole_by e w x.slot k go has ∙ ap (λ y. go y k) (sym at)

pub borrow_gives : (names : List Text) (vs : List Held) (p : Spot) (w : Written) (x : Lval) (t : Ty) (result : Result Ty CheckError) → p ≡ spot_of names w → FindsWhole (Ok (x, t)) (env_of names vs) (spot_of names w) → Gives result (unless (read_blocked (env_of names vs) x.slot) w.place ReadBlocked (borrow_rule (env_of names vs) x (kind_of t))) (env_of names vs) → Gives result (typing (borrow_t 0 p) (env_of names vs)) (env_of names vs)
borrow_gives names vs p w x t result spot there gives =
    let e = env_of names vs in
    subst (λ (q : Spot). Gives result (typing (borrow_t 0 q) e) e) (sym spot)
    (subst (λ o. Gives result o e) (sym (whole_goes e (spot_of names w) x (kind_of t) (shown_or e (spot_of names w) (borrow_rule e)) there.0 there.1)) gives)

pub borrow_mut_gives : (names : List Text) (vs : List Held) (p : Spot) (w : Written) (x : Lval) (t : Ty) (result : Result Ty CheckError) → p ≡ spot_of names w → FindsWhole (Ok (x, t)) (env_of names vs) (spot_of names w) → Gives result (borrow_mut_rule (env_of names vs) (spot_of names w) x (kind_of t)) (env_of names vs) → Gives result (typing (borrow_mut_t 0 p) (env_of names vs)) (env_of names vs)
borrow_mut_gives names vs p w x t result spot there gives =
    let e = env_of names vs in
    subst (λ (q : Spot). Gives result (typing (borrow_mut_t 0 q) e) e) (sym spot)
    (subst (λ o. Gives result o e) (sym (whole_goes e (spot_of names w) x (kind_of t) (borrow_mut_rule e (spot_of names w)) there.0 there.1)) gives)

-- what a type names is there
pub kind_below : (m n : ℕ) (k l : Kind) → AreBelow m (kind_places k) → m < n → l ≡ k → AreBelow n (kind_places l)
kind_below m n k l h lt is = subst (λ j. AreBelow n (kind_places j)) (sym is) (AreBelow-weaker m n (kind_places k) (omega arith) h)
