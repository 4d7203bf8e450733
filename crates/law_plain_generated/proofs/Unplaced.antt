-- Typing doesn't see where the parts of a term stand.
use Rattle.std.proofs.Common.{ℕ, List, [], ◌∷◌, subst}
use Rattle.fr_terms.specs.Terms.{Spot, Captured, Term, block_t, let_t, assign_t, read_t, borrow_t, borrow_mut_t, number_t, unit_t, box_t, print_t, arith_t, join_t, mutex_t, dup_t, lock_t, spawn_t, par_t, Items, none, item, start_of}
use Rattle.fr_typing.specs.Kinds.{Kind}
use Rattle.fr_typing.specs.Places.{Env, Found}
use Rattle.fr_typing.specs.Finding.{Has, Shows}
use Rattle.fr_typing.specs.Captures.{Capturer, captures_copy, captures_move, CapturesAll, captures_none, captures_next}
use Rattle.fr_typing.specs.Typing.{Types, types_number, types_unit, types_copy, types_move, types_box, types_print, types_let, types_assign, types_block, types_borrow, types_borrow_mut, types_mutex, types_arith, types_join, types_dup, types_lock, types_spawn, types_par, TypesItems, types_none, types_item}
use Rattle.fr_parse.specs.Canonical.{forget_spot, forget_captured, forget, forget_items, IsSame}

-- WITHOUT PLACES

spot_bare : {e : Env} {s : ℕ} {f : Found} (w : Spot) → Has e w s f → Has e (forget_spot w) s f
spot_bare w h = record { named = h.named; is = h.is }

shown_bare : {e : Env} {s : ℕ} {k : Kind} (w : Spot) → Shows e w s k → Shows e (forget_spot w) s k
shown_bare w h = record { is = spot_bare w h.is; free = h.free }

captures_bare : (cs : List Captured) {by : Capturer} {e n e1 n1 : Env} → CapturesAll by e n cs e1 n1 → CapturesAll by e n (forget_captured cs) e1 n1
captures_bare [] captures_none = captures_none
captures_bare (c ∷ cs) (captures_next (captures_copy p co b s) h) = captures_next (captures_copy (record { is = record { named = p.is.named; is = p.is.is }; becomes = p.becomes }) co b s) (captures_bare cs h)
captures_bare (c ∷ cs) (captures_next (captures_move p co b s) h) = captures_next (captures_move (record { is = record { named = p.is.named; is = p.is.is }; becomes = p.becomes }) co b s) (captures_bare cs h)

mutual
  term_bare : (t : Term) {e e1 : Env} {k : Kind} → Types e t k e1 → Types e (forget t) k e1
  term_bare (block_t at items) (types_block h n) = let r = items_bare items h 0 in types_block r.1 n
  term_bare (let_t at name value) (types_let h s) = types_let (term_bare value h) s
  term_bare (assign_t at to value) (types_assign h p o kept shape names) = types_assign (term_bare value h) (spot_bare to p) o kept shape names
  term_bare (read_t at from) (types_copy p c b) = types_copy (spot_bare from p) c b
  term_bare (read_t at from) (types_move p c b o) = types_move (spot_bare from p) c b o
  term_bare (borrow_t at of) (types_borrow s) = types_borrow (shown_bare of s)
  term_bare (borrow_mut_t at of) (types_borrow_mut p o) = types_borrow_mut (spot_bare of p) o
  term_bare (number_t at value) types_number = types_number
  term_bare (unit_t at) types_unit = types_unit
  term_bare (box_t at value) (types_box h f) = types_box (term_bare value h) f
  term_bare (print_t at value) (types_print h i) = types_print (term_bare value h) i
  term_bare (arith_t at op left right) (types_arith h i g j) = types_arith (term_bare left h) i (term_bare right g) j
  term_bare (join_t at task) (types_join h) = types_join (term_bare task h)
  term_bare (mutex_t at value) (types_mutex h f) = types_mutex (term_bare value h) f
  term_bare (dup_t at of) (types_dup s) = types_dup (shown_bare of s)
  term_bare (lock_t at of name body) (types_lock s n h o c) = types_lock (shown_bare of s) n (term_bare body h) o c
  term_bare (spawn_t at captures body) (types_spawn cs h f) = types_spawn (captures_bare captures cs) (term_bare body h) f
  term_bare (par_t at captures body others other) (types_par cs h g i j) =
      types_par (record { between = cs.between; first = captures_bare captures cs.first; second = captures_bare others cs.second }) (term_bare body h) (term_bare other g) i j

  items_bare : (ts : Items) {e e1 : Env} {k k1 : Kind} {last last1 : ℕ} → TypesItems e ts k last k1 last1 e1 → (p : ℕ) → (q : ℕ) × TypesItems e (forget_items ts) k p k1 q e1
  items_bare none types_none p = (p, types_none)
  items_bare (item first rest) (types_item h hs) p = let r = items_bare rest hs (start_of (forget first)) in (r.0, types_item (term_bare first h) r.1)

-- AND WITH THEM

spot_placed : {e : Env} {s : ℕ} {f : Found} (w : Spot) → Has e (forget_spot w) s f → Has e w s f
spot_placed w h = record { named = h.named; is = h.is }

shown_placed : {e : Env} {s : ℕ} {k : Kind} (w : Spot) → Shows e (forget_spot w) s k → Shows e w s k
shown_placed w h = record { is = spot_placed w h.is; free = h.free }

captures_placed : (cs : List Captured) {by : Capturer} {e n e1 n1 : Env} → CapturesAll by e n (forget_captured cs) e1 n1 → CapturesAll by e n cs e1 n1
captures_placed [] captures_none = captures_none
captures_placed (c ∷ cs) (captures_next (captures_copy p co b s) h) = captures_next (captures_copy (record { is = record { named = p.is.named; is = p.is.is }; becomes = p.becomes }) co b s) (captures_placed cs h)
captures_placed (c ∷ cs) (captures_next (captures_move p co b s) h) = captures_next (captures_move (record { is = record { named = p.is.named; is = p.is.is }; becomes = p.becomes }) co b s) (captures_placed cs h)

mutual
  term_placed : (t : Term) {e e1 : Env} {k : Kind} → Types e (forget t) k e1 → Types e t k e1
  term_placed (block_t at items) (types_block h n) = let r = items_placed items h at in types_block r.1 n
  term_placed (let_t at name value) (types_let h s) = types_let (term_placed value h) s
  term_placed (assign_t at to value) (types_assign h p o kept shape names) = types_assign (term_placed value h) (spot_placed to p) o kept shape names
  term_placed (read_t at from) (types_copy p c b) = types_copy (spot_placed from p) c b
  term_placed (read_t at from) (types_move p c b o) = types_move (spot_placed from p) c b o
  term_placed (borrow_t at of) (types_borrow s) = types_borrow (shown_placed of s)
  term_placed (borrow_mut_t at of) (types_borrow_mut p o) = types_borrow_mut (spot_placed of p) o
  term_placed (number_t at value) types_number = types_number
  term_placed (unit_t at) types_unit = types_unit
  term_placed (box_t at value) (types_box h f) = types_box (term_placed value h) f
  term_placed (print_t at value) (types_print h i) = types_print (term_placed value h) i
  term_placed (arith_t at op left right) (types_arith h i g j) = types_arith (term_placed left h) i (term_placed right g) j
  term_placed (join_t at task) (types_join h) = types_join (term_placed task h)
  term_placed (mutex_t at value) (types_mutex h f) = types_mutex (term_placed value h) f
  term_placed (dup_t at of) (types_dup s) = types_dup (shown_placed of s)
  term_placed (lock_t at of name body) (types_lock s n h o c) = types_lock (shown_placed of s) n (term_placed body h) o c
  term_placed (spawn_t at captures body) (types_spawn cs h f) = types_spawn (captures_placed captures cs) (term_placed body h) f
  term_placed (par_t at captures body others other) (types_par cs h g i j) =
      types_par (record { between = cs.between; first = captures_placed captures cs.first; second = captures_placed others cs.second }) (term_placed body h) (term_placed other g) i j

  items_placed : (ts : Items) {e e1 : Env} {k k1 : Kind} {last last1 : ℕ} → TypesItems e (forget_items ts) k last k1 last1 e1 → (p : ℕ) → (q : ℕ) × TypesItems e ts k p k1 q e1
  items_placed none types_none p = (p, types_none)
  items_placed (item first rest) (types_item h hs) p = let r = items_placed rest hs (start_of first) in (r.0, types_item (term_placed first h) r.1)

-- so terms that differ in their places alone have the same type
pub same_type : (t u : Term) (e e1 : Env) (k : Kind) → IsSame t u → Types e t k e1 → Types e u k e1
same_type t u e e1 k same h = term_placed u (subst (λ (x : Term). Types e x k e1) same (term_bare t h))
