-- The slots of captured names pass as the names do.
use Rattle.std.proofs.Common.{◌≡◌, ℕ, Bool, true, not, List, [], ◌∷◌, Option, Some, None, refl, sym, ap, ◌∙◌}
use Rattle.std.specs.Prelude.{unwrap_or}
use Rattle.fr_base.specs.declared.place.Lval.{Lval}
use Rattle.fr_terms.specs.Terms.{Captured, Spot, Term}
use Rattle.fr_typing.specs.Kinds.{Owned, unit, Kind, own, shared, mutable, view, whole, copies, map_some}
use Rattle.fr_typing.specs.Places.{Env, found, type_at, slot_of, heap_type}
use Rattle.fr_typing.specs.Checks.{place_of}
use Rattle.fr_typing.specs.Finding.{typed, env_after, is_moved, Has}
use Rattle.fr_typing.specs.Captures.{Capturer, by_spawn, by_par, spot_of, env_left, env_new, env_left_by_all, env_of_all, captured_kind, captured_slot, MayPass, Captures, captures_copy, captures_move, CapturesAll, captures_none, captures_next}
use Rattle.fr_typing.specs.Typing.{Types, typing}
use Rattle.fr_typing.proofs.Agree.{typing_by}
use Rattle.fr_typing.proofs.CaptureLemmas.{capture_by, capture_all_by}
use Rattle.fr_plain.specs.Run.{Capture}
use Rattle.fr_plain.specs.Resolve.{named, moves, captures}
use Rattle.fr_code.specs.CodeTypes.{SlotPasses, passes, SlotsPass, pass_none, pass_next}
use Rattle.fr_code.specs.Steps.{captured}

-- FOUND PLACES

-- the place of a name that has a slot
pub named_is : (e : Env) (w : Spot) {s : ℕ} → slot_of e w.name ≡ Some s → named e w ≡ place_of w s
named_is e w h = ap (λ o. place_of w (unwrap_or o 0)) h

-- whether a read moves, by the type that is found
pub moves_is : {e : Env} {w : Spot} {s : ℕ} {k : Kind} → Has e w s (found (whole k)) → moves e w ≡ not (copies k)
moves_is {e = e} {w = w} h = ap (λ p. is_moved (type_at e p)) (named_is e w h.named) ∙ ap is_moved h.is

-- the environment that typing computes is that of the relation
pub after_is : {e e1 : Env} {t : Term} {k : Kind} → Types e t k e1 → env_after (typing t e) ≡ e1
after_is t = ap env_after (typing_by t)

-- CAPTURES

-- a reference that is captured becomes a view, which is copied too
copied_as : (by : Capturer) (e : Env) (k l : Kind) → captured_kind by e k ≡ Some l → copies l ≡ copies k
copied_as by e (own o) l h = let f : own o ≡ l = cc in ap copies (sym f)
copied_as by_par e (view o) l h = let f : view o ≡ l = cc in ap copies (sym f)
copied_as by_par e (shared us) l h = some_view (heap_type e us) h
  where
    some_view : (o : Option Owned) → map_some view o ≡ Some l → copies l ≡ true
    some_view None h = cc
    some_view (Some o) h = let f : view o ≡ l = cc in ap copies (sym f)
copied_as by_par e (mutable us) l h = cc
copied_as by_spawn e (view o) l h = cc
copied_as by_spawn e (shared us) l h = cc
copied_as by_spawn e (mutable us) l h = cc

-- a slot passes as its name does
as_passes : {by : Capturer} {e n e1 : Env} {c : Captured} {s : ℕ} {k l : Kind} (i : ℕ) (take : Bool) → MayPass by e c s k l → Captures by e n c e1 (captured_slot c l ∷ n) → i ≡ (named e (spot_of c)).slot → take ≡ moves e (spot_of c)
    → SlotPasses by e n (i, take) e1 (captured_slot c l ∷ n)
as_passes {by = by} {e = e} {c = c} {s = s} {k = k} {l = l} i take p h at is =
    let slot : i ≡ s = at ∙ ap (λ (w : Lval). w.slot) (named_is e (spot_of c) p.is.named) in
    passes c (p.is.named ∙ ap Some (sym slot)) h refl (is ∙ moves_is p.is ∙ ap not (sym (copied_as by e k l p.becomes)))

passes_one : {by : Capturer} {e n e1 n1 : Env} {c : Captured} (i : ℕ) (take : Bool) → Captures by e n c e1 n1 → i ≡ (named e (spot_of c)).slot → take ≡ moves e (spot_of c) → SlotPasses by e n (i, take) e1 n1
passes_one i take (captures_copy p v b m) at is = as_passes i take p (captures_copy p v b m) at is
passes_one i take (captures_move p v b m) at is = as_passes i take p (captures_move p v b m) at is

cons_is : {A : Type 0} {x y : A} {xs ys : List A} → x ∷ xs ≡ y ∷ ys → (x ≡ y) × (xs ≡ ys)
cons_is e = (cc, cc)

-- the slots of captured names, in order
pub slots_pass : {by : Capturer} {e n e1 n1 : Env} {cs : List Captured} (xs : List (ℕ × Bool)) → CapturesAll by e n cs e1 n1 → captured xs ≡ captures by e n cs → SlotsPass by e n xs e1 n1
slots_pass [] captures_none same = pass_none
slots_pass (x ∷ xs) captures_none same = absurd cc
slots_pass [] (captures_next h hs) same = absurd cc
slots_pass ((i, take) ∷ xs) (captures_next {by = by} {e = e} {n = n} {e1 = e1} {n1 = n1} {c = c} {cs = cs} h hs) same =
    let left : env_left by e n c ≡ e1 = ap env_after (capture_by (λ e1 n1. typed (own unit) e1) h) in
    let new : env_new by e n c ≡ n1 = ap env_after (capture_by (λ e1 n1. typed (own unit) n1) h) in
    let both = cons_is same in
    let at = ap (λ (x : Capture). x.slot) both.0 in
    let is = ap (λ (x : Capture). x.take) both.0 in
    let rest = both.1 in
    pass_next (passes_one i take h at is) (slots_pass xs hs (rest ∙ ap (λ f. captures by f (env_new by e n c) cs) left ∙ ap (λ f. captures by e1 f cs) new))

-- the new environment, and what is left
pub new_is : {by : Capturer} {e e1 n : Env} {cs : List Captured} → CapturesAll by e [] cs e1 n → env_of_all by e cs ≡ n
new_is c = ap env_after (capture_all_by (λ e1 n1. typed (own unit) n1) c)

pub left_is : {by : Capturer} {e e1 n : Env} {cs : List Captured} → CapturesAll by e [] cs e1 n → env_left_by_all by e cs ≡ e1
left_is c = ap env_after (capture_all_by (λ e1 n1. typed (own unit) e1) c)
