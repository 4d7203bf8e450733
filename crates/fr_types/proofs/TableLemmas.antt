-- An environment and its tables, as the code changes them.
use Rattle.std.proofs.Common.{◌≡◌, ◌≢◌, ℕ, suc, ◌<◌, ◌≤◌, Bool, false, List, [], ◌∷◌, ◌++◌, length, get_or, set, Option, Some, None, refl, sym, ap, ◌∙◌, subst, arith, ⊎_elim}
use Rattle.std.proofs.lemmas.Bool.{cases_lt}
use Rattle.std.proofs.lemmas.List.{length-set}
use Rattle.fr_typing.specs.Kinds.{Piece}
use Rattle.fr_typing.specs.Places.{piece_places, AreBelow, write_blocked}
use Rattle.fr_typing.proofs.PlaceLemmas.{eq_cases, AreBelow-weaker}
use Rattle.fr_types.specs.Bounds.{most_slots}
use Rattle.fr_types.specs.declared.types.Part.{Part}
use Rattle.fr_types.specs.declared.variable.Variable.{Variable}
use Rattle.fr_types.specs.declared.loans.Loans.{Loans}
use Rattle.fr_types.specs.declared.resolved.Starred.{Starred}
use Rattle.fr_types.specs.Types.{piece_of}
use Rattle.fr_types.specs.States.{Held, env_of, IsNew, AreNested}
use Rattle.fr_types.specs.Lent.{loans_at, IsLent, HasLoans, HasSpace, AreCounted}
use Rattle.fr_types.specs.Bases.{target, base, aimed, aim, target_at, IsLow, AreAimedBelow, AreAimed, IsFree}
use Rattle.fr_types.specs.Inside.{held_of, newest, IsTabled, HasRoom, with_entry}
use Rattle.fr_types.proofs.EnvLemmas.{length_newest, newest-push, put_in-newest, length_put_in, nested-put_in, slot_inside, part_seen, below_seen, push_kept, pop_kept, set_kept}
use Rattle.fr_types.proofs.CountLemmas.{counted_space, counted_same, counted_push, counted_top, counted_pop, counted_part, space_less, counted_put}
use Rattle.fr_types.proofs.BaseLemmas.{aim_push, aim_top, aim_outside}
use Rattle.fr_types.proofs.AimLemmas.{aim_put_low, free_seen}
use Rattle.fr_types.proofs.RenewLemmas.{set_same, set_other, low_set}

-- TARGETS

-- a table that says the same
aimed_as : (vs : List Held) (ts us : List (Option Starred)) → AreAimed vs ts → length ts ≤ length us → ((x : ℕ) → target_at us x ≡ target_at ts x) → AreAimed vs us
aimed_as vs ts us h longer same = record {
  room = let room = h.room in omega arith;
  low = λ x. subst (IsLow x) (sym (same x)) (h.low x);
  right = λ x. same x ∙ h.right x;
}

-- where all slots lead is known below each number
pub all_below : (vs : List Held) (ts : List (Option Starred)) → AreNested vs → AreAimed vs ts → AreAimedBelow (length vs) vs ts
all_below vs ts nested h = record { nested = nested; there = omega arith; right = λ x _. h.right x }

aimed_more : (vs : List Held) (s : Held) (us : List (Option Starred)) (t : Option Starred) → AreNested vs → AreBelow (length vs) (piece_places s.part) → AreAimed vs us → length vs < length us → t ≡ aimed (base vs) (target s.part) → IsLow (length vs) t → AreAimed (s ∷ vs) (set us (length vs) t)
aimed_more vs s us t nested below h room is low = record {
  room = omega (arith, length-set us (length vs) t);
  low = low_set us (length vs) t h.low low room;
  right = λ y. eq_cases (λ _. target_at (set us (length vs) t) y ≡ aim (s ∷ vs) y) y (length vs)
      (λ e. ap (target_at (set us (length vs) t)) e ∙ set_same us (length vs) t room ∙ is ∙ sym (aim_top s vs below) ∙ ap (aim (s ∷ vs)) (sym e))
      (λ ne. set_other us (length vs) y t ne ∙ h.right y ∙ unchanged y ne);
}
  where
    unchanged : (y : ℕ) → y ≢ length vs → aim vs y ≡ aim (s ∷ vs) y
    unchanged y ne = ⊎_elim (λ (lt : y < length vs). sym (aim_push s vs y nested lt)) (λ (le : length vs ≤ y). aim_outside vs y le ∙ sym (aim_outside (s ∷ vs) y (omega arith))) (cases_lt y (length vs))

aimed_less : (vs : List Held) (s : Held) (us : List (Option Starred)) → AreNested vs → AreAimed (s ∷ vs) us → AreAimed vs (set us (length vs) None)
aimed_less vs s us nested h =
    let room : suc (length vs) ≤ length us = h.room in record {
      room = omega (arith, length-set us (length vs) None);
      low = low_set us (length vs) None h.low tt (omega arith);
      right = λ y. eq_cases (λ _. target_at (set us (length vs) None) y ≡ aim vs y) y (length vs)
          (λ e. ap (target_at (set us (length vs) None)) e ∙ set_same us (length vs) None (omega arith) ∙ sym (aim_outside vs (length vs) (omega arith)) ∙ ap (aim vs) (sym e))
          (λ ne. set_other us (length vs) y None ne ∙ h.right y ∙ unchanged y ne);
    }
  where
    unchanged : (y : ℕ) → y ≢ length vs → aim (s ∷ vs) y ≡ aim vs y
    unchanged y ne = ⊎_elim (λ (lt : y < length vs). aim_push s vs y nested lt) (λ (le : length vs ≤ y). aim_outside (s ∷ vs) y (omega arith) ∙ sym (aim_outside vs y le)) (cases_lt y (length vs))

-- PUSH

pub push_below : (vs : List Variable) (all : List Held) (p : Piece) (m : ℕ) → newest vs ≡ all → length vs ≤ m → AreBelow (length all) (piece_places p) → AreBelow m (piece_places p)
push_below vs all p m e le below = AreBelow-weaker (length all) m (piece_places p) (omega (arith, length_newest vs, ap length e)) below

pub loans_room : (vs : List Variable) (names : List (Option ℕ)) (xs : List Loans) (ts : List (Option Starred)) → IsTabled (newest vs) names xs ts → (length vs ≤ length xs) × (length vs ≤ length ts)
loans_room vs names xs ts h = (omega (arith, h.counted.room, length_newest vs), omega (arith, h.aimed.room, length_newest vs))

pub push_space : (vs : List Variable) (names : List (Option ℕ)) (xs ys : List Loans) (ts : List (Option Starred)) → IsTabled (newest vs) names xs ts → length xs ≤ length ys → ((x : ℕ) → loans_at ys x ≡ loans_at xs x) → HasSpace ys
push_space vs names xs ys ts h longer same = counted_space (newest vs) ys h.kept.few (counted_same (newest vs) xs ys h.counted longer same)

pub push_aimed : (vs : List Variable) (names : List (Option ℕ)) (xs : List Loans) (ts us : List (Option Starred)) → IsTabled (newest vs) names xs ts → length ts ≤ length us → ((x : ℕ) → target_at us x ≡ target_at ts x) → AreAimedBelow (length (newest vs)) (newest vs) us
push_aimed vs names xs ts us h longer same = all_below (newest vs) us h.kept.nested (aimed_as (newest vs) ts us h.aimed longer same)

pub push_tabled : (vs new : List Variable) (all : List Held) (names others : List (Option ℕ)) (xs ys zs : List Loans) (ts us : List (Option Starred)) (v : Variable) (slot : ℕ) (t : Option Starred) → IsTabled (newest vs) names xs ts → newest vs ≡ all → ((at : ℕ) → get_or others at None ≡ get_or names at None) → new ≡ vs ++ v ∷ [] → slot ≡ length vs → IsNew all v.name → AreBelow (length all) (piece_places (piece_of v.part)) → length all < most_slots → HasRoom v.name others → length xs ≤ length ys → ((x : ℕ) → loans_at ys x ≡ loans_at xs x) → slot < length ys → IsLent ys zs (piece_of v.part) → length ts ≤ length us → length us ≤ most_slots → ((x : ℕ) → target_at us x ≡ target_at ts x) → slot < length us → t ≡ aimed (base (newest vs)) (target (piece_of v.part)) → IsLow (length (newest vs)) t → IsTabled (newest new) (with_entry others v.name (Some slot)) zs (set us slot t)
push_tabled vs new all names others xs ys zs ts us v slot t h e same is at free below few room longer loans space lent wider small targets there leads low =
    let here : slot ≡ length (newest vs) = at ∙ sym (length_newest vs) in
    let inside : AreBelow (length (newest vs)) (piece_places (piece_of v.part)) = subst (λ l. AreBelow (length l) (piece_places (piece_of v.part))) (sym e) below in
    record {
      kept = push_kept vs new all names others v slot h.kept e same is at free below few room;
      counted = subst (λ l. AreCounted l zs) (sym (ap newest is ∙ newest-push vs v))
          (counted_push (newest vs) (held_of v) ys zs (counted_same (newest vs) xs ys h.counted longer loans) lent (omega (arith, here, space, lent.same)));
      aimed = subst (λ l. AreAimed l (set us slot t)) (sym (ap newest is ∙ newest-push vs v))
          (subst (λ n. AreAimed (held_of v ∷ newest vs) (set us n t)) (sym here)
          (aimed_more (newest vs) (held_of v) us t h.kept.nested inside (aimed_as (newest vs) ts us h.aimed wider targets) (omega (arith, here, there)) leads low));
      small = omega (arith, small, length-set us slot t);
    }

-- POP

top_tabled : (vs rest : List Variable) (names : List (Option ℕ)) (xs : List Loans) (ts : List (Option Starred)) (v : Variable) → IsTabled (newest vs) names xs ts → vs ≡ rest ++ v ∷ [] → IsTabled (held_of v ∷ newest rest) names xs ts
top_tabled vs rest names xs ts v h is = subst (λ l. IsTabled l names xs ts) (ap newest is ∙ newest-push rest v) h

pub pop_below : (vs rest : List Variable) (names : List (Option ℕ)) (xs : List Loans) (ts : List (Option Starred)) (v : Variable) → IsTabled (newest vs) names xs ts → vs ≡ rest ++ v ∷ [] → AreBelow (length xs) (piece_places (piece_of v.part))
pop_below vs rest names xs ts v h is =
    let top = top_tabled vs rest names xs ts v h is in
    let room : suc (length (newest rest)) ≤ length xs = top.counted.room in
    AreBelow-weaker (length (newest rest)) (length xs) (piece_places (piece_of v.part)) (omega arith) top.kept.nested.0

pub pop_lent : (vs rest : List Variable) (names : List (Option ℕ)) (xs : List Loans) (ts : List (Option Starred)) (v : Variable) → IsTabled (newest vs) names xs ts → vs ≡ rest ++ v ∷ [] → HasLoans xs (piece_of v.part)
pop_lent vs rest names xs ts v h is = counted_top (newest rest) (held_of v) xs (top_tabled vs rest names xs ts v h is).counted

pub pop_inside : (vs rest : List Variable) (names : List (Option ℕ)) (xs : List Loans) (ts : List (Option Starred)) (v : Variable) → IsTabled (newest vs) names xs ts → vs ≡ rest ++ v ∷ [] → length rest < length ts
pop_inside vs rest names xs ts v h is =
    let room : suc (length (newest rest)) ≤ length ts = (top_tabled vs rest names xs ts v h is).aimed.room in omega (arith, length_newest rest)

pub pop_tabled : (vs rest : List Variable) (names : List (Option ℕ)) (xs ys : List Loans) (ts : List (Option Starred)) (v : Variable) (slot : ℕ) → IsTabled (newest vs) names xs ts → vs ≡ rest ++ v ∷ [] → IsLent ys xs (piece_of v.part) → slot ≡ length rest → IsTabled (newest rest) (with_entry names v.name None) ys (set ts slot None)
pop_tabled vs rest names xs ys ts v slot h is lent at =
    let top = top_tabled vs rest names xs ts v h is in record {
      kept = pop_kept vs rest names v h.kept is;
      counted = counted_pop (newest rest) (held_of v) ys xs top.counted lent;
      aimed = subst (λ n. AreAimed (newest rest) (set ts n None)) (length_newest rest ∙ sym at) (aimed_less (newest rest) (held_of v) ts top.kept.nested.1 top.aimed);
      small = omega (arith, h.small, length-set ts slot None);
    }

-- ANOTHER PART

pub set_below : (vs : List Variable) (all : List Held) (names : List (Option ℕ)) (xs : List Loans) (ts : List (Option Starred)) (slot : ℕ) (p : Piece) → IsTabled (newest vs) names xs ts → newest vs ≡ all → slot < length all → AreBelow slot (piece_places p) → AreBelow (length xs) (piece_places p)
set_below vs all names xs ts slot p h e lt below =
    let room = h.counted.room in
    let same = ap length e in
    AreBelow-weaker slot (length xs) (piece_places p) (omega arith) below

pub old_below : (vs : List Variable) (all : List Held) (names : List (Option ℕ)) (xs : List Loans) (ts : List (Option Starred)) (slot : ℕ) (v : Variable) → IsTabled (newest vs) names xs ts → newest vs ≡ all → slot < length all → v ≡ get_or vs slot v → AreBelow (length xs) (piece_places (piece_of v.part))
old_below vs all names xs ts slot v h e lt is =
    set_below vs all names xs ts slot (piece_of v.part) h e lt (below_seen vs all names slot v h.kept e (slot_inside vs all slot e lt) is)

pub old_lent : (vs : List Variable) (all : List Held) (names : List (Option ℕ)) (xs : List Loans) (ts : List (Option Starred)) (slot : ℕ) (v : Variable) → IsTabled (newest vs) names xs ts → newest vs ≡ all → slot < length all → v ≡ get_or vs slot v → HasLoans xs (piece_of v.part)
old_lent vs all names xs ts slot v h e lt is =
    counted_part (newest vs) slot (piece_of v.part) xs (let same = ap length e in omega arith) (part_seen vs (newest vs) slot v refl (slot_inside vs all slot e lt) is) h.counted

pub set_space : (vs : List Variable) (names : List (Option ℕ)) (xs less : List Loans) (ts : List (Option Starred)) (p : Piece) → IsTabled (newest vs) names xs ts → IsLent less xs p → HasSpace less
set_space vs names xs less ts p h lent = space_less less xs p (counted_space (newest vs) xs h.kept.few h.counted) lent

-- the slots below lead where they did
pub set_aimed : (vs : List Variable) (all : List Held) (names : List (Option ℕ)) (xs : List Loans) (ts : List (Option Starred)) (slot : ℕ) (w : Variable) (q : Part) → IsTabled (newest vs) names xs ts → newest vs ≡ all → slot < length all → w ≡ get_or vs slot w → AreBelow slot (piece_places (piece_of q)) → AreAimedBelow slot (newest (set vs slot (record w { part = q }))) ts
set_aimed vs all names xs ts slot w q h e lt at below =
    let here = slot_inside vs all slot e lt in
    let there : slot < length (newest vs) = omega (arith, length_newest vs) in
    subst (λ l. AreAimedBelow slot l ts) (sym (put_in-newest vs slot w q here at)) record {
      nested = nested-put_in (newest vs) slot (piece_of q) below h.kept.nested;
      there = omega (arith, length_put_in (newest vs) slot (piece_of q));
      right = λ x lower. h.aimed.right x ∙ sym (aim_put_low (newest vs) slot x (piece_of q) h.kept.nested lower there);
    }

pub set_free : (vs : List Variable) (all : List Held) (slot : ℕ) (b : Bool) → newest vs ≡ all → b ≡ write_blocked (env_of [] all) slot → b ≡ false → IsFree slot (newest vs)
set_free vs all slot b e is no_loan = free_seen slot (newest vs) (ap (λ l. write_blocked (env_of [] l) slot) e ∙ sym is ∙ no_loan)

pub set_tabled : (vs : List Variable) (all : List Held) (names : List (Option ℕ)) (xs less ys : List Loans) (ts us : List (Option Starred)) (slot : ℕ) (v w : Variable) (q : Part) → IsTabled (newest vs) names xs ts → newest vs ≡ all → slot < length all → v ≡ get_or vs slot v → w ≡ get_or vs slot w → AreBelow slot (piece_places (piece_of q)) → IsLent less xs (piece_of v.part) → IsLent less ys (piece_of q) → length us ≡ length ts → AreAimed (newest (set vs slot (record w { part = q }))) us → IsTabled (newest (set vs slot (record w { part = q }))) names ys us
set_tabled vs all names xs less ys ts us slot v w q h e lt is at below gave lent same aims =
    let here = slot_inside vs all slot e lt in record {
      kept = set_kept vs all names slot w q h.kept e lt at below;
      counted = subst (λ l. AreCounted l ys) (sym (put_in-newest vs slot w q here at))
          (counted_put (newest vs) slot (piece_of v.part) (piece_of q) xs less ys (let same = ap length e in omega arith) (part_seen vs (newest vs) slot v refl here is) h.counted gave lent);
      aimed = aims;
      small = omega (arith, same, h.small);
    }

-- LOOK-UPS

-- an equal environment
pub copy_tabled : (vs new : List Variable) (names others : List (Option ℕ)) (xs ys : List Loans) (ts us : List (Option Starred)) → IsTabled (newest vs) names xs ts → newest new ≡ newest vs → others ≡ names → ys ≡ xs → us ≡ ts → IsTabled (newest new) others ys us
copy_tabled vs new names others xs ys ts us h e a b d =
    subst (λ l. IsTabled l others ys us) (sym e) (subst (λ l. IsTabled (newest vs) l ys us) (sym a) (subst (λ l. IsTabled (newest vs) names l us) (sym b) (subst (λ l. IsTabled (newest vs) names xs l) (sym d) h)))
