-- The relation of typing and its function agree.
use Rattle.std.proofs.Common.{◌≡◌, ℕ, Bool, true, false, List, [], ◌∷◌, Option, Some, None, refl, sym, ap, ◌∙◌, subst, length}
use Rattle.std.specs.Prelude.{not, is_some, if◌then◌else◌}
use Rattle.fr_base.specs.declared.place.Op.{Op}
use Rattle.fr_terms.specs.Terms.{Text, Spot, Captured, Term, block_t, let_t, assign_t, read_t, borrow_t, borrow_mut_t, number_t, unit_t, box_t, print_t, arith_t, join_t, mutex_t, dup_t, lock_t, spawn_t, par_t, Items, none, item, start_of}
use Rattle.fr_typing.specs.declared.reason.Reason.{Reason}
use Rattle.fr_typing.specs.declared.reason.Reason.TheVariants.{NameInScope, ReadBlocked, WriteBlocked, MovedThrough, NotOwned}
use Rattle.fr_typing.specs.Kinds.{Owned, unit, int, box, mutex, task, Kind, own, shared, mutable, view, Piece, whole, gone, copies}
use Rattle.fr_typing.specs.Places.{Env, found, read_blocked, write_blocked, is_writable, is_own_path, put_at, slot_of}
use Rattle.fr_typing.specs.Checks.{place_of, is_int, is_unit, is_owned, is_full, mutex_of, task_of, is_kept_out, has_shape_of, names_from, with_lock, has_content}
use Rattle.fr_typing.specs.Finding.{Has, IsOpen, Shows, Outcome, typed, fault, then_typed, unless}
use Rattle.fr_typing.specs.Captures.{by_spawn, CapturesAll, CapturesBoth}
use Rattle.fr_typing.specs.Rules.{read_rule, borrow_rule, borrow_mut_rule, held_rule, box_rule, print_rule, arith_rule, int_rule, let_rule, write_rule, assign_rule, end_rule, join_rule, dup_rule, lock_rule, unlock_rule, par_rule}
use Rattle.fr_typing.specs.Typing.{Types, types_number, types_unit, types_copy, types_move, types_borrow, types_borrow_mut, types_box, types_mutex, types_arith, types_print, types_let, types_assign, types_block, types_join, types_dup, types_lock, types_spawn, types_par, TypesItems, types_none, types_item, Faults, faults_read, faults_copy, faults_move, faults_path, faults_borrow, faults_borrow_mut, faults_borrow_mut_blocked, faults_borrow_mut_path, faults_in_box, faults_box_owned, faults_box_full, faults_in_mutex, faults_mutex_owned, faults_mutex_full, faults_in_left, faults_left, faults_in_right, faults_right, faults_in_print, faults_print, faults_in_let, faults_let, faults_in_assign, faults_assign_place, faults_assign_blocked, faults_assign_path, faults_assign_kept, faults_assign_shape, faults_assign_outlives, faults_in_block, faults_block, faults_in_join, faults_join, faults_dup, faults_dup_kind, faults_lock, faults_lock_kind, faults_lock_name, faults_in_lock, faults_lock_owned, faults_lock_full, faults_spawn, faults_in_spawn, faults_spawn_owned, faults_spawn_full, faults_par, faults_in_ours, faults_in_theirs, faults_ours, faults_theirs, FaultsItems, faults_first, faults_rest, typing, typing_items}
use Rattle.fr_typing.specs.Laws.{ExactlyOne}
use Rattle.fr_typing.proofs.FindingLemmas.{find_by, misses_by, find_whole_by, lacks_by, shows_by, withholds_by, unless_cases, unless_not_cases, given_cases, find_cases, find_whole_cases, find_shown_cases}
use Rattle.fr_typing.proofs.CaptureLemmas.{capture_all_by, capture_both_by, deny_all_by, deny_both_by, capture_all_cases, capture_both_cases}

-- FROM THE RELATION TO THE FUNCTION

-- what follows a borrow of a mutex, a spawn's and a par's captures
abbrev lock_body : ℕ → Env → Term → Env → Outcome
lock_body at e b e1 = then_typed (typing b e1) (unlock_rule at (start_of b) (length e))

abbrev spawn_body : Term → Env → Env → Outcome
spawn_body b e1 n = then_typed (typing b n) (λ k n1. held_rule task (start_of b) k e1)

abbrev second_body : Term → Term → Env → Env → Kind → Env → Outcome
second_body a b e2 m k n1 = then_typed (typing b m) (λ l m1. par_rule (start_of a) (start_of b) k l e2)

abbrev par_bodies : Term → Term → Env → Env → Env → Outcome
par_bodies a b n m e2 = then_typed (typing a n) (second_body a b e2 m)

abbrev right_part : Term → Term → Kind → Env → Outcome
right_part a b k e1 = int_rule (start_of a) k (then_typed (typing b e1) (arith_rule (start_of b)))

mutual
  pub typing_by : {e e1 : Env} {t : Term} {k : Kind} → Types e t k e1 → typing t e ≡ typed k e1
  typing_by types_number = refl
  typing_by types_unit = refl
  typing_by (types_copy {e = e} {w = w} {s = s} {k = k} h c b) = find_whole_by e w s k (read_rule e w) h ∙ simp (c, b)
  typing_by (types_move {e = e} {w = w} {s = s} {k = k} h c b o) = find_whole_by e w s k (read_rule e w) h ∙ simp (c, b, o)
  typing_by (types_box h f) = simp (typing_by h, f)
  typing_by (types_print h i) = simp (typing_by h, i)
  typing_by (types_let h n) = simp (typing_by h, n)
  typing_by (types_assign {e1 = e1} {w = w} {t = t} {k = k} {s = s} {p = p} h f o kept shape out) = ap (λ r. then_typed r (assign_rule w (start_of t))) (typing_by h) ∙ find_by e1 w s _ (write_rule e1 w (start_of t) k) f ∙ simp (o.free, o.path, kept, shape, out)
  typing_by (types_block {e = e} h n) = typing_items_by h (end_rule (length e)) ∙ simp n
  typing_by (types_borrow {e = e} {w = w} {s = s} {k = k} h) = shows_by e w s k (borrow_rule e) h
  typing_by (types_borrow_mut {e = e} {w = w} {s = s} {k = k} h o) = find_whole_by e w s k (borrow_mut_rule e w) h ∙ simp (o.free, o.path)
  typing_by (types_mutex h f) = simp (typing_by h, f)
  typing_by (types_arith {a = a} {b = b} {k = k} h i g j) = ap (λ r. then_typed r (right_part a b)) (typing_by h) ∙ simp (i, typing_by g, j)
  typing_by (types_join h) = simp (typing_by h)
  typing_by (types_dup {e = e} {w = w} {s = s} {o = o} h) = shows_by e w s (own (mutex o)) (dup_rule e w.at) h
  typing_by (types_lock {e = e} {at = at} {w = w} {x = x} {b = b} {s = s} {o = o} h n g i f) = shows_by e w s (own (mutex o)) (lock_rule at e w x (lock_body at e b)) h ∙ simp (n, typing_by g, i, f)
  typing_by (types_spawn {b = b} h g f) = capture_all_by (spawn_body b) h ∙ simp (typing_by g, f)
  typing_by (types_par {a = a} {b = b} h f g i j) = capture_both_by (par_bodies a b) h ∙ simp (typing_by f, typing_by g, i, j)

  pub typing_items_by : {e e1 : Env} {ts : Items} {k k1 : Kind} {last last1 : ℕ} → TypesItems e ts k last k1 last1 e1 → (go : Kind → ℕ → Env → Outcome) → typing_items ts k last e go ≡ go k1 last1 e1
  typing_items_by types_none go = refl
  typing_items_by (types_item {t = t} {ts = ts} h hs) go = ap (λ r. then_typed r (λ k1 e1. typing_items ts k1 (start_of t) e1 go)) (typing_by h) ∙ typing_items_by hs go

-- what isn't owned isn't held
not_held : (hold : Owned → Owned) (at : ℕ) (k : Kind) (e : Env) → is_owned k ≡ false → held_rule hold at k e ≡ fault at NotOwned
not_held hold at (own o) e h = cc
not_held hold at (shared us) e h = refl
not_held hold at (mutable us) e h = refl
not_held hold at (view o) e h = refl

mutual
  pub fault_by : {e : Env} {t : Term} {p : ℕ} {r : Reason} → Faults e t p r → typing t e ≡ fault p r
  fault_by (faults_read {e = e} {w = w} l) = lacks_by (read_rule e w) l
  fault_by (faults_copy {e = e} {w = w} {s = s} {k = k} h c b) = find_whole_by e w s k (read_rule e w) h ∙ simp (c, b)
  fault_by (faults_move {e = e} {w = w} {s = s} {k = k} h c b) = find_whole_by e w s k (read_rule e w) h ∙ simp (c, b)
  fault_by (faults_path {e = e} {w = w} {s = s} {k = k} h c b o) = find_whole_by e w s k (read_rule e w) h ∙ simp (c, b, o)
  fault_by (faults_in_box h) = simp (fault_by h)
  fault_by (faults_box_owned {e1 = e1} {t = t} {k = k} h o) = ap (λ r. then_typed r (box_rule (start_of t))) (typing_by h) ∙ not_held box (start_of t) k e1 o
  fault_by (faults_box_full h f) = simp (typing_by h, f)
  fault_by (faults_in_print h) = simp (fault_by h)
  fault_by (faults_print h i) = simp (typing_by h, i)
  fault_by (faults_in_let h) = simp (fault_by h)
  fault_by (faults_let h n) = simp (typing_by h, n)
  fault_by (faults_in_assign h) = simp (fault_by h)
  fault_by (faults_assign_place {e1 = e1} {w = w} {t = t} {k = k} h m) = ap (λ r. then_typed r (assign_rule w (start_of t))) (typing_by h) ∙ misses_by (write_rule e1 w (start_of t) k) m
  fault_by (faults_assign_blocked {e1 = e1} {w = w} {t = t} {k = k} {s = s} h f b) = ap (λ r. then_typed r (assign_rule w (start_of t))) (typing_by h) ∙ find_by e1 w s _ (write_rule e1 w (start_of t) k) f ∙ simp b
  fault_by (faults_assign_path {e1 = e1} {w = w} {t = t} {k = k} {s = s} h f b o) = ap (λ r. then_typed r (assign_rule w (start_of t))) (typing_by h) ∙ find_by e1 w s _ (write_rule e1 w (start_of t) k) f ∙ simp (b, o)
  fault_by (faults_assign_kept {e1 = e1} {w = w} {t = t} {k = k} {s = s} h f o kept) = ap (λ r. then_typed r (assign_rule w (start_of t))) (typing_by h) ∙ find_by e1 w s _ (write_rule e1 w (start_of t) k) f ∙ simp (o.free, o.path, kept)
  fault_by (faults_assign_shape {e1 = e1} {w = w} {t = t} {k = k} {s = s} h f o kept shape) = ap (λ r. then_typed r (assign_rule w (start_of t))) (typing_by h) ∙ find_by e1 w s _ (write_rule e1 w (start_of t) k) f ∙ simp (o.free, o.path, kept, shape)
  fault_by (faults_assign_outlives {e1 = e1} {w = w} {t = t} {k = k} {s = s} h f o kept shape out) = ap (λ r. then_typed r (assign_rule w (start_of t))) (typing_by h) ∙ find_by e1 w s _ (write_rule e1 w (start_of t) k) f ∙ simp (o.free, o.path, kept, shape, out)
  fault_by (faults_in_block {e = e} {at = at} h) = fault_items_by (own unit) at h (end_rule (length e))
  fault_by (faults_block {e = e} h n) = typing_items_by h (end_rule (length e)) ∙ simp n
  fault_by (faults_borrow {e = e} {w = w} h) = withholds_by (borrow_rule e) h
  fault_by (faults_borrow_mut {e = e} {w = w} l) = lacks_by (borrow_mut_rule e w) l
  fault_by (faults_borrow_mut_blocked {e = e} {w = w} {s = s} {k = k} h b) = find_whole_by e w s k (borrow_mut_rule e w) h ∙ simp b
  fault_by (faults_borrow_mut_path {e = e} {w = w} {s = s} {k = k} h b o) = find_whole_by e w s k (borrow_mut_rule e w) h ∙ simp (b, o)
  fault_by (faults_in_mutex h) = simp (fault_by h)
  fault_by (faults_mutex_owned {e1 = e1} {t = t} {k = k} h o) = ap (λ r. then_typed r (held_rule mutex (start_of t))) (typing_by h) ∙ not_held mutex (start_of t) k e1 o
  fault_by (faults_mutex_full h f) = simp (typing_by h, f)
  fault_by (faults_in_left h) = simp (fault_by h)
  fault_by (faults_left {a = a} {b = b} h i) = ap (λ r. then_typed r (right_part a b)) (typing_by h) ∙ simp i
  fault_by (faults_in_right {a = a} {b = b} h i g) = ap (λ r. then_typed r (right_part a b)) (typing_by h) ∙ simp (i, fault_by g)
  fault_by (faults_right {a = a} {b = b} h i g j) = ap (λ r. then_typed r (right_part a b)) (typing_by h) ∙ simp (i, typing_by g, j)
  fault_by (faults_in_join h) = simp (fault_by h)
  fault_by (faults_join h o) = simp (typing_by h, o)
  fault_by (faults_dup {e = e} {w = w} h) = withholds_by (dup_rule e w.at) h
  fault_by (faults_dup_kind {e = e} {w = w} {s = s} {k = k} h o) = shows_by e w s k (dup_rule e w.at) h ∙ simp o
  fault_by (faults_lock {e = e} {at = at} {w = w} {x = x} {b = b} h) = withholds_by (lock_rule at e w x (lock_body at e b)) h
  fault_by (faults_lock_kind {e = e} {at = at} {w = w} {x = x} {b = b} {s = s} {k = k} h o) = shows_by e w s k (lock_rule at e w x (lock_body at e b)) h ∙ simp o
  fault_by (faults_lock_name {e = e} {at = at} {w = w} {x = x} {b = b} {s = s} {o = o} h n) = shows_by e w s (own (mutex o)) (lock_rule at e w x (lock_body at e b)) h ∙ simp n
  fault_by (faults_in_lock {e = e} {at = at} {w = w} {x = x} {b = b} {s = s} {o = o} h n g) = shows_by e w s (own (mutex o)) (lock_rule at e w x (lock_body at e b)) h ∙ simp (n, fault_by g)
  fault_by (faults_lock_owned {e = e} {at = at} {w = w} {x = x} {b = b} {s = s} {o = o} h n g i) = shows_by e w s (own (mutex o)) (lock_rule at e w x (lock_body at e b)) h ∙ simp (n, typing_by g, i)
  fault_by (faults_lock_full {e = e} {at = at} {w = w} {x = x} {b = b} {s = s} {o = o} h n g i f) = shows_by e w s (own (mutex o)) (lock_rule at e w x (lock_body at e b)) h ∙ simp (n, typing_by g, i, f)
  fault_by (faults_spawn {b = b} h) = deny_all_by (spawn_body b) h
  fault_by (faults_in_spawn {b = b} h g) = capture_all_by (spawn_body b) h ∙ simp (fault_by g)
  fault_by (faults_spawn_owned {e1 = e1} {b = b} {k = k} h g o) = capture_all_by (spawn_body b) h ∙ ap (λ r. then_typed r (λ k n1. held_rule task (start_of b) k e1)) (typing_by g) ∙ not_held task (start_of b) k e1 o
  fault_by (faults_spawn_full {b = b} h g f) = capture_all_by (spawn_body b) h ∙ simp (typing_by g, f)
  fault_by (faults_par {a = a} {b = b} h) = deny_both_by (par_bodies a b) h
  fault_by (faults_in_ours {a = a} {b = b} h f) = capture_both_by (par_bodies a b) h ∙ simp (fault_by f)
  fault_by (faults_in_theirs {a = a} {b = b} h f g) = capture_both_by (par_bodies a b) h ∙ simp (typing_by f, fault_by g)
  fault_by (faults_ours {a = a} {b = b} h f g i) = capture_both_by (par_bodies a b) h ∙ simp (typing_by f, typing_by g, i)
  fault_by (faults_theirs {a = a} {b = b} h f g i j) = capture_both_by (par_bodies a b) h ∙ simp (typing_by f, typing_by g, i, j)

  pub fault_items_by : {e : Env} {ts : Items} {p : ℕ} {r : Reason} (k : Kind) (last : ℕ) → FaultsItems e ts p r → (go : Kind → ℕ → Env → Outcome) → typing_items ts k last e go ≡ fault p r
  fault_items_by k last (faults_first {t = t} {ts = ts} h) go = ap (λ r. then_typed r (λ k1 e1. typing_items ts k1 (start_of t) e1 go)) (fault_by h)
  fault_items_by k last (faults_rest {t = t} {ts = ts} {k = k1} h hs) go = ap (λ r. then_typed r (λ k1 e1. typing_items ts k1 (start_of t) e1 go)) (typing_by h) ∙ fault_items_by k1 (start_of t) hs go

-- FROM THE FUNCTION TO THE RELATION

-- what an outcome says
abbrev pub Says : Env → Term → Outcome → Type 0
Says e t (typed k e1) = Types e t k e1
Says e t (fault p r) = Faults e t p r

read_says : (e : Env) (at : ℕ) (w : Spot) (s : ℕ) (k : Kind) → Has e w s (found (whole k)) → Says e (read_t at w) (read_rule e w (place_of w s) k)
read_says e at w s k h = by_kind (copies k) refl
  where
    by_kind : (b : Bool) → copies k ≡ b → Says e (read_t at w) (if b then unless (read_blocked e s) w.at ReadBlocked (typed k e) else unless (write_blocked e s) w.at WriteBlocked (unless (not (is_own_path e (place_of w s))) w.at MovedThrough (typed k (put_at e (place_of w s) (gone k)))))
    by_kind true c = unless_cases (Says e (read_t at w)) (read_blocked e s) _ _ _ (faults_copy h c) (types_copy h c)
    by_kind false c = unless_cases (Says e (read_t at w)) (write_blocked e s) _ _ _ (faults_move h c) (λ b. unless_not_cases (Says e (read_t at w)) (is_own_path e (place_of w s)) _ _ _ (faults_path h c b) (types_move h c b))

box_says : (e : Env) (at : ℕ) (t : Term) (o : Outcome) → Says e t o → Says e (box_t at t) (then_typed o (box_rule (start_of t)))
box_says e at t (fault p r) h = faults_in_box h
box_says e at t (typed (own o) e1) h = unless_cases (Says e (box_t at t)) (is_full o) _ _ _ (faults_box_full h) (types_box h)
box_says e at t (typed (shared us) e1) h = faults_box_owned h refl
box_says e at t (typed (mutable us) e1) h = faults_box_owned h refl
box_says e at t (typed (view o) e1) h = faults_box_owned h refl

print_says : (e : Env) (at : ℕ) (t : Term) (o : Outcome) → Says e t o → Says e (print_t at t) (then_typed o (print_rule (start_of t)))
print_says e at t (fault p r) h = faults_in_print h
print_says e at t (typed k e1) h = unless_not_cases (Says e (print_t at t)) (is_int k) _ _ _ (faults_print h) (types_print h)

let_says : (e : Env) (at : ℕ) (x : Text) (t : Term) (o : Outcome) → Says e t o → Says e (let_t at x t) (then_typed o (let_rule at x))
let_says e at x t (fault p r) h = faults_in_let h
let_says e at x t (typed k e1) h = by_name (slot_of e1 x) refl
  where
    by_name : (o : Option ℕ) → slot_of e1 x ≡ o → Says e (let_t at x t) (unless (is_some o) at NameInScope (typed (own unit) (record { name = Some x; part = whole k } ∷ e1)))
    by_name None n = types_let h n
    by_name (Some s) n = faults_let h n

write_says : (e e1 : Env) (at : ℕ) (w : Spot) (t : Term) (k : Kind) → Types e t k e1 → (s : ℕ) (p : Piece) → Has e1 w s (found p) → Says e (assign_t at w t) (write_rule e1 w (start_of t) k (place_of w s) p)
write_says e e1 at w t k h s p f =
    unless_cases (Says e (assign_t at w t)) (write_blocked e1 s) _ _ _ (faults_assign_blocked h f) (λ free.
    unless_not_cases (Says e (assign_t at w t)) (is_writable e1 (place_of w s)) _ _ _ (faults_assign_path h f free) (λ path.
    unless_cases (Says e (assign_t at w t)) (is_kept_out k w.stars) _ _ _ (faults_assign_kept h f (both free path)) (λ kept.
    unless_not_cases (Says e (assign_t at w t)) (has_shape_of e1 p k) _ _ _ (faults_assign_shape h f (both free path) kept) (λ shape.
    unless_cases (Says e (assign_t at w t)) (names_from s k) _ _ _ (faults_assign_outlives h f (both free path) kept shape) (types_assign h f (both free path) kept shape)))))
  where
    both : write_blocked e1 s ≡ false → is_writable e1 (place_of w s) ≡ true → IsOpen e1 (place_of w s)
    both free path = record { free = free; path = path }

assign_says : (e : Env) (at : ℕ) (w : Spot) (t : Term) (o : Outcome) → Says e t o → Says e (assign_t at w t) (then_typed o (assign_rule w (start_of t)))
assign_says e at w t (fault p r) h = faults_in_assign h
assign_says e at w t (typed k e1) h = find_cases e1 w (Says e (assign_t at w t)) (write_rule e1 w (start_of t) k) (λ r m. faults_assign_place h m) (write_says e e1 at w t k h)

borrow_mut_says : (e : Env) (at : ℕ) (w : Spot) (s : ℕ) (k : Kind) → Has e w s (found (whole k)) → Says e (borrow_mut_t at w) (borrow_mut_rule e w (place_of w s) k)
borrow_mut_says e at w s k h =
    unless_cases (Says e (borrow_mut_t at w)) (write_blocked e s) _ _ _ (faults_borrow_mut_blocked h) (λ free.
    unless_not_cases (Says e (borrow_mut_t at w)) (is_writable e (place_of w s)) _ _ _ (faults_borrow_mut_path h free) (λ path.
    types_borrow_mut h (record { free = free; path = path })))

mutex_says : (e : Env) (at : ℕ) (t : Term) (o : Outcome) → Says e t o → Says e (mutex_t at t) (then_typed o (held_rule mutex (start_of t)))
mutex_says e at t (fault p r) h = faults_in_mutex h
mutex_says e at t (typed (own o) e1) h = unless_cases (Says e (mutex_t at t)) (is_full o) _ _ _ (faults_mutex_full h) (types_mutex h)
mutex_says e at t (typed (shared us) e1) h = faults_mutex_owned h refl
mutex_says e at t (typed (mutable us) e1) h = faults_mutex_owned h refl
mutex_says e at t (typed (view o) e1) h = faults_mutex_owned h refl

right_says : (e e1 : Env) (at : ℕ) (op : Op) (a b : Term) (k : Kind) → Types e a k e1 → is_int k ≡ true → (o : Outcome) → Says e1 b o → Says e (arith_t at op a b) (then_typed o (arith_rule (start_of b)))
right_says e e1 at op a b k h i (fault p r) g = faults_in_right h i g
right_says e e1 at op a b k h i (typed l e2) g = unless_not_cases (Says e (arith_t at op a b)) (is_int l) _ _ _ (faults_right h i g) (types_arith h i g)

arith_says : (e : Env) (at : ℕ) (op : Op) (a b : Term) (o : Outcome) → Says e a o → ((e1 : Env) → Says e1 b (typing b e1)) → Says e (arith_t at op a b) (then_typed o (right_part a b))
arith_says e at op a b (fault p r) h rest = faults_in_left h
arith_says e at op a b (typed k e1) h rest = unless_not_cases (Says e (arith_t at op a b)) (is_int k) _ _ _ (faults_left h) (λ i. right_says e e1 at op a b k h i (typing b e1) (rest e1))

-- what a mutex and a task are
mutex_is : (k : Kind) (o : Owned) → mutex_of k ≡ Some o → k ≡ own (mutex o)
mutex_is (own unit) o h = cc
mutex_is (own int) o h = cc
mutex_is (own (box p)) o h = cc
mutex_is (own (mutex p)) o h = cc
mutex_is (own (task p)) o h = cc
mutex_is (shared us) o h = cc
mutex_is (mutable us) o h = cc
mutex_is (view p) o h = cc

task_is : (k : Kind) (o : Owned) → task_of k ≡ Some o → k ≡ own (task o)
task_is (own unit) o h = cc
task_is (own int) o h = cc
task_is (own (box p)) o h = cc
task_is (own (mutex p)) o h = cc
task_is (own (task p)) o h = cc
task_is (shared us) o h = cc
task_is (mutable us) o h = cc
task_is (view p) o h = cc

join_says : (e : Env) (at : ℕ) (t : Term) (o : Outcome) → Says e t o → Says e (join_t at t) (then_typed o (join_rule (start_of t)))
join_says e at t (fault p r) h = faults_in_join h
join_says e at t (typed k e1) h = given_cases (Says e (join_t at t)) _ _ (task_of k) _ (faults_join h) (λ o g. types_join (subst (λ x. Types e t x e1) (task_is k o g) h))

dup_says : (e : Env) (at : ℕ) (w : Spot) (s : ℕ) (k : Kind) → Shows e w s k → Says e (dup_t at w) (dup_rule e w.at (place_of w s) k)
dup_says e at w s k h = given_cases (Says e (dup_t at w)) _ _ (mutex_of k) _ (faults_dup_kind h) (λ o g. types_dup (subst (Shows e w s) (mutex_is k o g) h))

-- a name that is new, and one that isn't
unless_there : (P : Outcome → Type 0) (o : Option ℕ) (at : ℕ) (r : Reason) (rest : Outcome)
    → ((s : ℕ) → o ≡ Some s → P (fault at r)) → (o ≡ None → P rest) → P (unless (is_some o) at r rest)
unless_there P None at r rest there new = new refl
unless_there P (Some s) at r rest there new = there s refl

unlock_says : (e : Env) (at : ℕ) (w : Spot) (x : Text) (b : Term) (s : ℕ) (o : Owned) → Shows e w s (own (mutex o)) → slot_of e x ≡ None
    → (c : Outcome) → Says (with_lock e (place_of w s) x o) b c → Says e (lock_t at w x b) (then_typed c (unlock_rule at (start_of b) (length e)))
unlock_says e at w x b s o h n (fault p r) g = faults_in_lock h n g
unlock_says e at w x b s o h n (typed k e1) g =
    unless_not_cases (Says e (lock_t at w x b)) (is_owned k) _ _ _ (faults_lock_owned h n g) (λ i.
    unless_not_cases (Says e (lock_t at w x b)) (has_content (length e) e1) _ _ _ (faults_lock_full h n g i) (types_lock h n g i))

lock_says : (e : Env) (at : ℕ) (w : Spot) (x : Text) (b : Term) → ((e1 : Env) → Says e1 b (typing b e1)) → (s : ℕ) (k : Kind) → Shows e w s k
    → Says e (lock_t at w x b) (lock_rule at e w x (lock_body at e b) (place_of w s) k)
lock_says e at w x b body s k h =
    given_cases (Says e (lock_t at w x b)) _ _ (mutex_of k) _ (faults_lock_kind h) (λ o g.
    let is : Shows e w s (own (mutex o)) = subst (Shows e w s) (mutex_is k o g) h in
    unless_there (Says e (lock_t at w x b)) (slot_of e x) _ _ _ (λ i. faults_lock_name is) (λ n.
    unlock_says e at w x b s o is n (typing b (with_lock e (place_of w s) x o)) (body (with_lock e (place_of w s) x o))))

spawn_says : (e e1 n : Env) (at : ℕ) (cs : List Captured) (b : Term) → CapturesAll by_spawn e [] cs e1 n → (o : Outcome) → Says n b o
    → Says e (spawn_t at cs b) (then_typed o (λ k n1. held_rule task (start_of b) k e1))
spawn_says e e1 n at cs b h (fault p r) g = faults_in_spawn h g
spawn_says e e1 n at cs b h (typed (own o) n1) g = unless_cases (Says e (spawn_t at cs b)) (is_full o) _ _ _ (faults_spawn_full h g) (types_spawn h g)
spawn_says e e1 n at cs b h (typed (shared us) n1) g = faults_spawn_owned h g refl
spawn_says e e1 n at cs b h (typed (mutable us) n1) g = faults_spawn_owned h g refl
spawn_says e e1 n at cs b h (typed (view o) n1) g = faults_spawn_owned h g refl

second_says : (e e2 n n1 m : Env) (at : ℕ) (cs ds : List Captured) (a b : Term) (k : Kind) → CapturesBoth e cs ds n m e2 → Types n a k n1 → (o : Outcome) → Says m b o
    → Says e (par_t at cs a ds b) (then_typed o (λ l m1. par_rule (start_of a) (start_of b) k l e2))
second_says e e2 n n1 m at cs ds a b k h f (fault p r) g = faults_in_theirs h f g
second_says e e2 n n1 m at cs ds a b k h f (typed l m1) g =
    unless_not_cases (Says e (par_t at cs a ds b)) (is_unit k) _ _ _ (faults_ours h f g) (λ i.
    unless_not_cases (Says e (par_t at cs a ds b)) (is_unit l) _ _ _ (faults_theirs h f g i) (types_par h f g i))

par_says : (e e2 n m : Env) (at : ℕ) (cs ds : List Captured) (a b : Term) → CapturesBoth e cs ds n m e2 → (o : Outcome) → Says n a o → Says m b (typing b m)
    → Says e (par_t at cs a ds b) (then_typed o (second_body a b e2 m))
par_says e e2 n m at cs ds a b h (fault p r) f g = faults_in_ours h f
par_says e e2 n m at cs ds a b h (typed k n1) f g = second_says e e2 n n1 m at cs ds a b k h f (typing b m) g

-- what becomes of items
data ItemsSay : Env → Items → Kind → ℕ → Type 0 where
  items_typed : {e e1 : Env} {ts : Items} {k k1 : Kind} {last last1 : ℕ} → TypesItems e ts k last k1 last1 e1 → ItemsSay e ts k last
  items_fault : {e : Env} {ts : Items} {k : Kind} {last p : ℕ} {r : Reason} → FaultsItems e ts p r → ItemsSay e ts k last

block_says : (e : Env) (at : ℕ) (ts : Items) → ItemsSay e ts (own unit) at → Says e (block_t at ts) (typing (block_t at ts) e)
block_says e at ts (items_fault {p = p} {r = r} f) = subst (Says e (block_t at ts)) (sym (fault_items_by (own unit) at f (end_rule (length e)))) (faults_in_block f)
block_says e at ts (items_typed {e1 = e1} {k1 = k} {last1 = last} h) =
    subst (Says e (block_t at ts)) (sym (typing_items_by h (end_rule (length e))))
    (unless_cases (Says e (block_t at ts)) (names_from (length e) k) _ _ _ (faults_block h) (types_block h))

after_first : (e e1 : Env) (t : Term) (ts : Items) (k k1 : Kind) (last : ℕ) → Types e t k1 e1 → ItemsSay e1 ts k1 (start_of t) → ItemsSay e (item t ts) k last
after_first e e1 t ts k k1 last h (items_typed hs) = items_typed (types_item h hs)
after_first e e1 t ts k k1 last h (items_fault f) = items_fault (faults_rest h f)

item_says : (e : Env) (t : Term) (ts : Items) (k : Kind) (last : ℕ) (o : Outcome) → Says e t o → ((k1 : Kind) (e1 : Env) → ItemsSay e1 ts k1 (start_of t)) → ItemsSay e (item t ts) k last
item_says e t ts k last (typed k1 e1) h rest = after_first e e1 t ts k k1 last h (rest k1 e1)
item_says e t ts k last (fault p r) h rest = items_fault (faults_first h)

mutual
  pub says : (t : Term) (e : Env) → Says e t (typing t e)
  says (number_t at n) e = types_number
  says (unit_t at) e = types_unit
  says (read_t at w) e = find_whole_cases e w (Says e (read_t at w)) (read_rule e w) (λ r l. faults_read l) (read_says e at w)
  says (borrow_t at w) e = find_shown_cases e w (Says e (borrow_t at w)) (borrow_rule e) (λ r h. faults_borrow h) (λ s k h. types_borrow h)
  says (borrow_mut_t at w) e = find_whole_cases e w (Says e (borrow_mut_t at w)) (borrow_mut_rule e w) (λ r l. faults_borrow_mut l) (borrow_mut_says e at w)
  says (box_t at t) e = box_says e at t (typing t e) (says t e)
  says (mutex_t at t) e = mutex_says e at t (typing t e) (says t e)
  says (arith_t at op a b) e = arith_says e at op a b (typing a e) (says a e) (λ e1. says b e1)
  says (print_t at t) e = print_says e at t (typing t e) (says t e)
  says (let_t at x t) e = let_says e at x t (typing t e) (says t e)
  says (assign_t at w t) e = assign_says e at w t (typing t e) (says t e)
  says (block_t at ts) e = block_says e at ts (items_say ts (own unit) at e)
  says (join_t at t) e = join_says e at t (typing t e) (says t e)
  says (dup_t at w) e = find_shown_cases e w (Says e (dup_t at w)) (dup_rule e w.at) (λ r h. faults_dup h) (dup_says e at w)
  says (lock_t at w x b) e = find_shown_cases e w (Says e (lock_t at w x b)) (lock_rule at e w x (lock_body at e b)) (λ r h. faults_lock h) (lock_says e at w x b (λ e1. says b e1))
  says (spawn_t at cs b) e = capture_all_cases by_spawn cs e [] (Says e (spawn_t at cs b)) (spawn_body b) (λ p r h. faults_spawn h) (λ e1 n h. spawn_says e e1 n at cs b h (typing b n) (says b n))
  says (par_t at cs a ds b) e = capture_both_cases cs ds e (Says e (par_t at cs a ds b)) (par_bodies a b) (λ p r h. faults_par h) (λ n m e2 h. par_says e e2 n m at cs ds a b h (typing a n) (says a n) (says b m))

  -- the items are typed one after another, or the first fault is the outcome
  items_say : (ts : Items) (k : Kind) (last : ℕ) (e : Env) → ItemsSay e ts k last
  items_say none k last e = items_typed types_none
  items_say (item t ts) k last e = item_says e t ts k last (typing t e) (says t e) (λ k1 e1. items_say ts k1 (start_of t) e1)

pub exactly_one_lem : ExactlyOne
exactly_one_lem = record {
  types = λ t e k e1. (typing_by, λ h. subst (Says e t) h (says t e));
  faults = λ t e p r. (fault_by, λ h. subst (Says e t) h (says t e));
}
