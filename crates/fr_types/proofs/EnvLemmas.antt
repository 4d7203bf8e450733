-- The slots of an environment, and the table that has them by name.
use Rattle.std.proofs.Common.{◌≡◌, ℕ, zero, suc, ◌+◌, ◌<◌, ◌≤◌, Bool, true, false, List, [], ◌∷◌, ◌++◌, length, drop, get_or, set, Option, Some, None, refl, sym, ap, ◌∙◌, subst, arith}
use Rattle.std.specs.Prelude.{◌==◌, ◌↔◌, IfSome, take, if◌then◌else◌}
use Rattle.std.proofs.lemmas.List.{get_or-set_same, get_or-set_other, get_or_default, take_more, take_all}
use Rattle.fr_typing.specs.Kinds.{Piece}
use Rattle.fr_typing.specs.Places.{piece_places, AreBelow}
use Rattle.fr_typing.proofs.PlaceLemmas.{eq_cases}
use Rattle.fr_types.specs.Bounds.{most_slots}
use Rattle.fr_types.specs.declared.types.Part.{Part}
use Rattle.fr_types.specs.declared.variable.Variable.{Variable}
use Rattle.fr_types.specs.Types.{piece_of}
use Rattle.fr_types.specs.States.{Held, is_named, slot_in, IsNew, part_in, put_in, AreNested, AreApart}
use Rattle.fr_types.specs.Inside.{held_of, onto, newest, IsKept, HasRoom, with_entry}

-- a fact of a choice, by both values
pub either : {A : Type 0} (P : A → Type 0) (b : Bool) (x y : A) → P x → P y → P (if b then x else y)
either P true x y f g = f
either P false x y f g = g

pub length-onto : (below : List Held) (vs : List Variable) → length (onto below vs) ≡ length below + length vs
length-onto below [] = omega arith
length-onto below (v ∷ vs) = omega (arith, length-onto (held_of v ∷ below) vs)

-- as many as the code has
pub length_newest : (vs : List Variable) → length (newest vs) ≡ length vs
length_newest vs = omega (arith, length-onto [] vs)

pub onto-push : (below : List Held) (vs : List Variable) (v : Variable) → onto below (vs ++ v ∷ []) ≡ held_of v ∷ onto below vs
onto-push below [] v = refl
onto-push below (w ∷ vs) v = onto-push (held_of w ∷ below) vs v

-- a new one is the last one
pub newest-push : (vs : List Variable) (v : Variable) → newest (vs ++ v ∷ []) ≡ held_of v ∷ newest vs
newest-push vs v = onto-push [] vs v

-- NAMES

-- a name's slot is there
pub slot_in_below : (vs : List Held) (name s : ℕ) → slot_in vs name ≡ Some s → s < length vs
slot_in_below [] name s h = absurd cc
slot_in_below (v ∷ below) name s h = by (is_named v.name name) h (slot_in_below below name s)
  where
    by : (b : Bool) → (if b then Some (length below) else slot_in below name) ≡ Some s → (slot_in below name ≡ Some s → s < length below) → s < suc (length below)
    by true e older = let same : length below ≡ s = cc in omega arith
    by false e older = omega (arith, older e)

-- the slot that a look into the table finds is there
pub found_below : (vs all : List Held) (xs : List (Option ℕ)) (name : ℕ) (o : Option ℕ) → IsKept vs xs → vs ≡ all → name < length xs → o ≡ get_or xs name o → IfSome o (λ s. s < length all)
found_below vs all xs name None h e lt is = tt
found_below vs all xs name (Some s) h e lt is =
    subst (λ l. s < length l) e (slot_in_below vs name s (sym (h.found name) ∙ get_or_default xs name None (Some s) lt ∙ sym is))

-- what is found is inside
pub found_inside : (xs : List (Option ℕ)) (n s : ℕ) → get_or xs n None ≡ Some s → n < length xs
found_inside [] n s h = absurd cc
found_inside (x ∷ xs) zero s h = omega arith
found_inside (x ∷ xs) (suc n) s h = omega (arith, found_inside xs n s h)

-- a table that says the same
pub kept_same : (vs : List Held) (xs ys : List (Option ℕ)) → ((at : ℕ) → get_or ys at None ≡ get_or xs at None) → IsKept vs xs → IsKept vs ys
kept_same vs xs ys same h = record {
  found = λ name. same name ∙ h.found name;
  apart = h.apart;
  nested = h.nested;
  few = h.few;
}

-- the table with the new slot
found_push : (vs : List Held) (xs : List (Option ℕ)) (name : Option ℕ) (p : Piece) → IsKept vs xs → HasRoom name xs → (at : ℕ) → get_or (with_entry xs name (Some (length vs))) at None ≡ slot_in (record { name = name; part = p } ∷ vs) at
found_push vs xs None p h room at = h.found at
found_push vs xs (Some n) p h room at =
    eq_cases (λ b. get_or (set xs n (Some (length vs))) at None ≡ (if b then Some (length vs) else slot_in vs at)) n at
    (λ e. subst (λ m. get_or (set xs n (Some (length vs))) m None ≡ Some (length vs)) e (get_or-set_same xs n (Some (length vs)) None room))
    (λ ne. get_or-set_other xs n at (Some (length vs)) None (λ e. ne (sym e)) ∙ h.found at)

-- a new slot
pub kept_push : (vs : List Held) (xs : List (Option ℕ)) (s : Held) → IsKept vs xs → IsNew vs s.name → AreBelow (length vs) (piece_places s.part) → length vs < most_slots → HasRoom s.name xs → IsKept (s ∷ vs) (with_entry xs s.name (Some (length vs)))
kept_push vs xs s h new below few room = record {
  found = found_push vs xs s.name s.part h room;
  apart = (new, h.apart);
  nested = (below, h.nested);
  few = omega arith;
}

own_slot : (vs : List Held) (n : ℕ) (p : Piece) → slot_in (record { name = Some n; part = p } ∷ vs) n ≡ Some (length vs)
own_slot vs n p = eq_cases (λ b. (if b then Some (length vs) else slot_in vs n) ≡ Some (length vs)) n n (λ e. refl) (λ ne. absurd (ne refl))

-- the last slot's name is in the table
pub pop_room : (vs : List Held) (xs : List (Option ℕ)) (name : Option ℕ) (p : Piece) → IsKept (record { name = name; part = p } ∷ vs) xs → HasRoom name xs
pop_room vs xs None p h = tt
pop_room vs xs (Some n) p h = found_inside xs n (length vs) (h.found n ∙ own_slot vs n p)

found_pop : (vs : List Held) (xs : List (Option ℕ)) (name : Option ℕ) (p : Piece) → IsKept (record { name = name; part = p } ∷ vs) xs → (at : ℕ) → get_or (with_entry xs name None) at None ≡ slot_in vs at
found_pop vs xs None p h at = h.found at
found_pop vs xs (Some n) p h at =
    eq_cases (λ b. (if b then Some (length vs) else slot_in vs at) ≡ get_or xs at None → get_or (set xs n None) at None ≡ slot_in vs at) n at
    (λ e same. subst (λ m. get_or (set xs n None) m None ≡ slot_in vs m) e (get_or-set_same xs n None None (pop_room vs xs (Some n) p h) ∙ sym h.apart.0))
    (λ ne same. get_or-set_other xs n at None None (λ e. ne (sym e)) ∙ sym same)
    (sym (h.found at))

-- the last slot goes
pub kept_pop : (vs : List Held) (xs : List (Option ℕ)) (s : Held) → IsKept (s ∷ vs) xs → IsKept vs (with_entry xs s.name None)
kept_pop vs xs s h = record {
  found = found_pop vs xs s.name s.part h;
  apart = h.apart.1;
  nested = h.nested.1;
  few = let few : suc (length vs) ≤ most_slots = h.few in omega arith;
}

-- PARTS

-- a test of a slot for one that is lower
pub not_here : {A : Type 0} (slot n : ℕ) (x y : A) → slot < n → (if slot == n then x else y) ≡ y
not_here slot n x y lt = eq_cases (λ b. (if b then x else y) ≡ y) slot n (λ e. absurd (omega arith)) (λ ne. refl)

pub is_here : {A : Type 0} (slot n : ℕ) (x y : A) → slot ≡ n → (if slot == n then x else y) ≡ x
is_here slot n x y e = eq_cases (λ b. (if b then x else y) ≡ x) slot n (λ e2. refl) (λ ne. absurd (ne e))

part_in-onto : (below : List Held) (vs : List Variable) (slot : ℕ) → slot < length below → part_in (onto below vs) slot ≡ part_in below slot
part_in-onto below [] slot lt = refl
part_in-onto below (v ∷ vs) slot lt =
    part_in-onto (held_of v ∷ below) vs slot (omega arith)
    ∙ not_here slot (length below) (piece_of v.part) (part_in below slot) lt

part_in-at : (below : List Held) (vs : List Variable) (i slot : ℕ) (d : Variable) → i < length vs → slot ≡ length below + i → part_in (onto below vs) slot ≡ piece_of (get_or vs i d).part
part_in-at below [] i slot d lt at = absurd (omega arith)
part_in-at below (v ∷ vs) zero slot d lt at =
    part_in-onto (held_of v ∷ below) vs slot (omega arith)
    ∙ is_here slot (length below) (piece_of v.part) (part_in below slot) (omega arith)
part_in-at below (v ∷ vs) (suc i) slot d lt at = part_in-at (held_of v ∷ below) vs i slot d (omega arith) (omega arith)

-- the part of a slot stands at its number
pub part_in-newest : (vs : List Variable) (i : ℕ) (d : Variable) → i < length vs → part_in (newest vs) i ≡ piece_of (get_or vs i d).part
part_in-newest vs i d lt = part_in-at [] vs i i d lt (omega arith)

put_in-onto : (below : List Held) (vs : List Variable) (slot : ℕ) (p : Piece) → slot < length below → onto (put_in below slot p) vs ≡ put_in (onto below vs) slot p
put_in-onto below [] slot p lt = refl
put_in-onto below (v ∷ vs) slot p lt =
    ap (λ l. onto l vs) (sym (not_here slot (length below) (record { name = v.name; part = p } ∷ below) (held_of v ∷ put_in below slot p) lt))
    ∙ put_in-onto (held_of v ∷ below) vs slot p (omega arith)

put_in-at : (below : List Held) (vs : List Variable) (i slot : ℕ) (v : Variable) (q : Part) → i < length vs → slot ≡ length below + i → v ≡ get_or vs i v → onto below (set vs i (record v { part = q })) ≡ put_in (onto below vs) slot (piece_of q)
put_in-at below [] i slot v q lt at is = absurd (omega arith)
put_in-at below (w ∷ vs) zero slot v q lt at is =
    ap (λ (x : Variable). onto (record { name = x.name; part = piece_of q } ∷ below) vs) is
    ∙ ap (λ l. onto l vs) (sym (is_here slot (length below) (record { name = w.name; part = piece_of q } ∷ below) (held_of w ∷ put_in below slot (piece_of q)) (omega arith)))
    ∙ put_in-onto (held_of w ∷ below) vs slot (piece_of q) (omega arith)
put_in-at below (w ∷ vs) (suc i) slot v q lt at is = put_in-at (held_of w ∷ below) vs i slot v q (omega arith) (omega arith) is

-- a part is put at its slot's number
pub put_in-newest : (vs : List Variable) (i : ℕ) (v : Variable) (q : Part) → i < length vs → v ≡ get_or vs i v → newest (set vs i (record v { part = q })) ≡ put_in (newest vs) i (piece_of q)
put_in-newest vs i v q lt is = put_in-at [] vs i i v q lt (omega arith) is

pub length_put_in : (vs : List Held) (slot : ℕ) (p : Piece) → length (put_in vs slot p) ≡ length vs
length_put_in [] slot p = refl
length_put_in (s ∷ below) slot p = either (λ l. length l ≡ suc (length below)) (slot == length below) (record s { part = p } ∷ below) (s ∷ put_in below slot p) refl (ap suc (length_put_in below slot p))

-- names stay where they are
pub slot_in-put_in : (vs : List Held) (slot name : ℕ) (p : Piece) → slot_in (put_in vs slot p) name ≡ slot_in vs name
slot_in-put_in [] slot name p = refl
slot_in-put_in (s ∷ below) slot name p =
    either (λ l. slot_in l name ≡ slot_in (s ∷ below) name) (slot == length below) (record s { part = p } ∷ below) (s ∷ put_in below slot p) refl
    (ap (λ n. if is_named s.name name then Some n else slot_in (put_in below slot p) name) (length_put_in below slot p)
    ∙ ap (λ o. if is_named s.name name then Some (length below) else o) (slot_in-put_in below slot name p))

new-put_in : (vs : List Held) (slot : ℕ) (p : Piece) (name : Option ℕ) → IsNew vs name → IsNew (put_in vs slot p) name
new-put_in vs slot p None h = tt
new-put_in vs slot p (Some n) h = slot_in-put_in vs slot n p ∙ h

apart-put_in : (vs : List Held) (slot : ℕ) (p : Piece) → AreApart vs → AreApart (put_in vs slot p)
apart-put_in [] slot p h = tt
apart-put_in (s ∷ below) slot p h =
    either AreApart (slot == length below) (record s { part = p } ∷ below) (s ∷ put_in below slot p) h
    (new-put_in below slot p s.name h.0, apart-put_in below slot p h.1)

pub nested-put_in : (vs : List Held) (slot : ℕ) (p : Piece) → AreBelow slot (piece_places p) → AreNested vs → AreNested (put_in vs slot p)
nested-put_in [] slot p g h = tt
nested-put_in (s ∷ below) slot p g h =
    eq_cases (λ b. AreNested (if b then record s { part = p } ∷ below else s ∷ put_in below slot p)) slot (length below)
    (λ e. (subst (λ n. AreBelow n (piece_places p)) e g, h.1))
    (λ ne. (subst (λ n. AreBelow n (piece_places s.part)) (sym (length_put_in below slot p)) h.0, nested-put_in below slot p g h.1))

-- another part at a slot
pub kept_put : (vs : List Held) (xs : List (Option ℕ)) (slot : ℕ) (p : Piece) → IsKept vs xs → AreBelow slot (piece_places p) → IsKept (put_in vs slot p) xs
kept_put vs xs slot p h g = record {
  found = λ name. h.found name ∙ sym (slot_in-put_in vs slot name p);
  apart = apart-put_in vs slot p h.apart;
  nested = nested-put_in vs slot p g h.nested;
  few = let same = length_put_in vs slot p in let few : length vs ≤ most_slots = h.few in omega arith;
}

-- WHAT CONTRACTS SEE

pub slot_inside : (vs : List Variable) (all : List Held) (slot : ℕ) → newest vs ≡ all → slot < length all → slot < length vs
slot_inside vs all slot e lt = omega (arith, length_newest vs, ap length e)

pub slot_outside : (vs : List Variable) (all : List Held) (slot : ℕ) → newest vs ≡ all → slot < length vs → slot < length all
slot_outside vs all slot e lt = omega (arith, length_newest vs, ap length e)

pub part_seen : (vs : List Variable) (all : List Held) (slot : ℕ) (v : Variable) → newest vs ≡ all → slot < length vs → v ≡ get_or vs slot v → piece_of v.part ≡ part_in all slot
part_seen vs all slot v e lt is =
    ap (λ (x : Variable). piece_of x.part) is ∙ sym (part_in-newest vs slot v lt) ∙ ap (λ l. part_in l slot) e

-- the part of a slot names only slots below it
pub part_in_below : (vs : List Held) (slot : ℕ) → AreNested vs → AreBelow slot (piece_places (part_in vs slot))
part_in_below [] slot h = tt
part_in_below (s ∷ below) slot h =
    eq_cases (λ b. AreBelow slot (piece_places (if b then s.part else part_in below slot))) slot (length below)
    (λ e. subst (λ n. AreBelow n (piece_places s.part)) (sym e) h.0)
    (λ ne. part_in_below below slot h.1)

pub below_seen : (vs : List Variable) (all : List Held) (xs : List (Option ℕ)) (slot : ℕ) (v : Variable) → IsKept (newest vs) xs → newest vs ≡ all → slot < length vs → v ≡ get_or vs slot v → AreBelow slot (piece_places (piece_of v.part))
below_seen vs all xs slot v h e lt is =
    subst (λ p. AreBelow slot (piece_places p)) (sym (part_seen vs (newest vs) slot v refl lt is)) (part_in_below (newest vs) slot h.nested)

pub few_inside : (vs : List Variable) (xs : List (Option ℕ)) → IsKept (newest vs) xs → length vs ≤ most_slots
few_inside vs xs h = let few : length (newest vs) ≤ most_slots = h.few in omega (arith, length_newest vs)

pub nested_seen : (vs : List Variable) (all : List Held) (xs : List (Option ℕ)) → IsKept (newest vs) xs → newest vs ≡ all → AreNested all
nested_seen vs all xs h e = subst AreNested e h.nested

-- the slots after a push, and their table
pub push_kept : (vs new : List Variable) (all : List Held) (xs ys : List (Option ℕ)) (v : Variable) (slot : ℕ) → IsKept (newest vs) xs → newest vs ≡ all → ((at : ℕ) → get_or ys at None ≡ get_or xs at None) → new ≡ vs ++ v ∷ [] → slot ≡ length vs → IsNew all v.name → AreBelow (length all) (piece_places (piece_of v.part)) → length all < most_slots → HasRoom v.name ys → IsKept (newest new) (with_entry ys v.name (Some slot))
push_kept vs new all xs ys v slot h e same is at free below few room =
    let more = kept_push (newest vs) ys (held_of v) (kept_same (newest vs) xs ys same h) (subst (λ l. IsNew l v.name) (sym e) free) (subst (λ l. AreBelow (length l) (piece_places (piece_of v.part))) (sym e) below) (subst (λ l. length l < most_slots) (sym e) few) room in
    subst (λ l. IsKept l (with_entry ys v.name (Some slot))) (sym (ap newest is ∙ newest-push vs v))
    (subst (λ n. IsKept (held_of v ∷ newest vs) (with_entry ys v.name (Some n))) (length_newest vs ∙ sym at) more)

pub push_seen : (vs new : List Variable) (all : List Held) (v : Variable) → newest vs ≡ all → new ≡ vs ++ v ∷ [] → newest new ≡ held_of v ∷ all
push_seen vs new all v e is = ap newest is ∙ newest-push vs v ∙ ap (λ l. held_of v ∷ l) e

-- the slots without the last one, and their table
pub pop_within : (vs rest : List Variable) (xs : List (Option ℕ)) (v : Variable) → IsKept (newest vs) xs → vs ≡ rest ++ v ∷ [] → HasRoom v.name xs
pop_within vs rest xs v h is = pop_room (newest rest) xs v.name (piece_of v.part) (subst (λ l. IsKept l xs) (ap newest is ∙ newest-push rest v) h)

pub pop_kept : (vs rest : List Variable) (xs : List (Option ℕ)) (v : Variable) → IsKept (newest vs) xs → vs ≡ rest ++ v ∷ [] → IsKept (newest rest) (with_entry xs v.name None)
pop_kept vs rest xs v h is = kept_pop (newest rest) xs (held_of v) (subst (λ l. IsKept l xs) (ap newest is ∙ newest-push rest v) h)

pub pop_seen : (vs rest : List Variable) (all : List Held) (v : Variable) → newest vs ≡ all → vs ≡ rest ++ v ∷ [] → newest rest ≡ drop 1 all
pop_seen vs rest all v e is = ap (drop 1) (sym (newest-push rest v) ∙ sym (ap newest is) ∙ e)

-- the part that goes
pub pop_part : (vs rest : List Variable) (all : List Held) (v : Variable) → newest vs ≡ all → vs ≡ rest ++ v ∷ [] → (piece_of v.part ≡ part_in all (length (newest rest))) × (0 < length all)
pop_part vs rest all v e is =
    let same : held_of v ∷ newest rest ≡ all = sym (newest-push rest v) ∙ sym (ap newest is) ∙ e in (
      sym (is_here (length (newest rest)) (length (newest rest)) (piece_of v.part) (part_in (newest rest) (length (newest rest))) refl) ∙ ap (λ l. part_in l (length (newest rest))) same,
      subst (λ l. 0 < length l) same (omega arith),
    )

-- another part at a slot
pub set_kept : (vs : List Variable) (all : List Held) (xs : List (Option ℕ)) (slot : ℕ) (v : Variable) (q : Part) → IsKept (newest vs) xs → newest vs ≡ all → slot < length all → v ≡ get_or vs slot v → AreBelow slot (piece_places (piece_of q)) → IsKept (newest (set vs slot (record v { part = q }))) xs
set_kept vs all xs slot v q h e lt is below =
    subst (λ l. IsKept l xs) (sym (put_in-newest vs slot v q (slot_inside vs all slot e lt) is)) (kept_put (newest vs) xs slot (piece_of q) h below)

pub set_seen : (vs : List Variable) (all : List Held) (slot : ℕ) (v : Variable) (q : Part) → newest vs ≡ all → slot < length all → v ≡ get_or vs slot v → newest (set vs slot (record v { part = q })) ≡ put_in all slot (piece_of q)
set_seen vs all slot v q e lt is = put_in-newest vs slot v q (slot_inside vs all slot e lt) is ∙ ap (λ l. put_in l slot (piece_of q)) e

-- an answer that is there, exactly where a number is below another
pub there : (a b : ℕ) → a < b → (true ≡ true) ↔ (a < b)
there a b lt = (λ _. lt, λ _. refl)

pub not_there : (a b : ℕ) → b ≤ a → (false ≡ true) ↔ (a < b)
not_there a b le = (λ h. absurd cc, λ lt. absurd (omega arith))

-- one slot more of an equal environment
pub copy_step : (vs new : List Variable) (v w : Variable) (i : ℕ) → newest vs ≡ newest (take i new) → i < length new → w ≡ get_or new i w → held_of v ≡ held_of w → newest (vs ++ v ∷ []) ≡ newest (take (i + 1) new)
copy_step vs new v w i same lt is held =
    newest-push vs v
    ∙ ap (λ h. h ∷ newest vs) held
    ∙ ap (λ l. held_of w ∷ l) same
    ∙ ap (λ (x : Variable). held_of x ∷ newest (take i new)) is
    ∙ sym (ap newest (take_more new i w lt) ∙ newest-push (take i new) (get_or new i w))

-- an equal environment, when all are copied
pub copy_seen : (vs new : List Variable) (all : List Held) (i : ℕ) → newest vs ≡ newest (take i new) → length new ≤ i → newest new ≡ all → newest vs ≡ all
copy_seen vs new all i same le e = same ∙ ap newest (take_all i new le) ∙ e
