-- The typing of terms (Featherweight Rust with this project's rules): from an environment a term has a type and leaves
-- an environment, or its first failing check is a fault at a place of the source, for a reason.
use Rattle.std.specs.Prelude.{◌≡◌, ℕ, ℤ, true, false, List, [], ◌∷◌, length, Some, None}
use Rattle.fr_base.specs.declared.place.Op.{Op}
use Rattle.fr_terms.specs.Terms.{Text, Spot, Captured, Term, block_t, let_t, assign_t, read_t, borrow_t, borrow_mut_t, number_t, unit_t, box_t, print_t, arith_t, join_t, mutex_t, dup_t, lock_t, spawn_t, par_t, Items, none, item, start_of}
use Rattle.fr_typing.specs.declared.reason.Reason.{Reason}
use Rattle.fr_typing.specs.declared.reason.Reason.TheVariants.{NameInScope, ReadBlocked, WriteBlocked, MovedThrough, NotWritable, WrongType, Outlives, NotOwned, NotFull}
use Rattle.fr_typing.specs.Kinds.{Owned, unit, int, box, mutex, task, Kind, own, shared, mutable, Piece, whole, gone, copies}
use Rattle.fr_typing.specs.Places.{Env, found, read_blocked, write_blocked, is_writable, is_own_path, put_at, slot_of}
use Rattle.fr_typing.specs.Checks.{place_of, is_int, is_unit, is_owned, is_full, mutex_of, task_of, is_kept_out, has_shape_of, names_from, keep, set_through, with_lock, has_content}
use Rattle.fr_typing.specs.Finding.{Has, Misses, Lacks, IsOpen, Shows, Withholds, Outcome, typed, then_typed, find_whole, find_shown}
use Rattle.fr_typing.specs.Captures.{by_spawn, CapturesAll, CapturesBoth, DeniesAll, DeniesBoth, capture_all, capture_both}
use Rattle.fr_typing.specs.Rules.{read_rule, borrow_rule, borrow_mut_rule, held_rule, box_rule, int_rule, print_rule, arith_rule, let_rule, assign_rule, end_rule, join_rule, dup_rule, lock_rule, unlock_rule, par_rule}

-- AS A RELATION

mutual
  -- from an environment a term has this type, and leaves that environment
  pub data Types : Env → Term → Kind → Env → Type 0 where
    types_number : {e : Env} {at : ℕ} {n : ℤ} → Types e (number_t at n) (own int) e
    types_unit : {e : Env} {at : ℕ} → Types e (unit_t at) (own unit) e
    types_copy : {e : Env} {at : ℕ} {w : Spot} {s : ℕ} {k : Kind} → Has e w s (found (whole k)) → copies k ≡ true → read_blocked e s ≡ false → Types e (read_t at w) k e
    types_move : {e : Env} {at : ℕ} {w : Spot} {s : ℕ} {k : Kind} → Has e w s (found (whole k)) → copies k ≡ false → write_blocked e s ≡ false → is_own_path e (place_of w s) ≡ true → Types e (read_t at w) k (put_at e (place_of w s) (gone k))
    types_box : {e e1 : Env} {at : ℕ} {t : Term} {o : Owned} → Types e t (own o) e1 → is_full o ≡ false → Types e (box_t at t) (own (box o)) e1
    types_print : {e e1 : Env} {at : ℕ} {t : Term} {k : Kind} → Types e t k e1 → is_int k ≡ true → Types e (print_t at t) (own unit) e1
    types_let : {e e1 : Env} {at : ℕ} {x : Text} {t : Term} {k : Kind} → Types e t k e1 → slot_of e1 x ≡ None → Types e (let_t at x t) (own unit) (record { name = Some x; part = whole k } ∷ e1)
    types_assign : {e e1 : Env} {at : ℕ} {w : Spot} {t : Term} {k : Kind} {s : ℕ} {p : Piece} → Types e t k e1 → Has e1 w s (found p) → IsOpen e1 (place_of w s) → is_kept_out k w.stars ≡ false → has_shape_of e1 p k ≡ true → names_from s k ≡ false → Types e (assign_t at w t) (own unit) (set_through e1 (place_of w s) k)
    types_block : {e e1 : Env} {at last : ℕ} {ts : Items} {k : Kind} → TypesItems e ts (own unit) at k last e1 → names_from (length e) k ≡ false → Types e (block_t at ts) k (keep (length e) e1)
    types_borrow : {e : Env} {at : ℕ} {w : Spot} {s : ℕ} {k : Kind} → Shows e w s k → Types e (borrow_t at w) (shared (place_of w s ∷ [])) e
    types_borrow_mut : {e : Env} {at : ℕ} {w : Spot} {s : ℕ} {k : Kind} → Has e w s (found (whole k)) → IsOpen e (place_of w s) → Types e (borrow_mut_t at w) (mutable (place_of w s ∷ [])) e
    types_mutex : {e e1 : Env} {at : ℕ} {t : Term} {o : Owned} → Types e t (own o) e1 → is_full o ≡ false → Types e (mutex_t at t) (own (mutex o)) e1
    types_arith : {e e1 e2 : Env} {at : ℕ} {op : Op} {a b : Term} {k l : Kind} → Types e a k e1 → is_int k ≡ true → Types e1 b l e2 → is_int l ≡ true → Types e (arith_t at op a b) (own int) e2
    types_join : {e e1 : Env} {at : ℕ} {t : Term} {o : Owned} → Types e t (own (task o)) e1 → Types e (join_t at t) (own o) e1
    types_dup : {e : Env} {at : ℕ} {w : Spot} {s : ℕ} {o : Owned} → Shows e w s (own (mutex o)) → Types e (dup_t at w) (own (mutex o)) e
    types_lock : {e e1 : Env} {at : ℕ} {w : Spot} {x : Text} {b : Term} {s : ℕ} {o : Owned} {k : Kind} → Shows e w s (own (mutex o)) → slot_of e x ≡ None → Types (with_lock e (place_of w s) x o) b k e1 → is_owned k ≡ true → has_content (length e) e1 ≡ true → Types e (lock_t at w x b) k (keep (length e) e1)
    types_spawn : {e e1 n n1 : Env} {at : ℕ} {cs : List Captured} {b : Term} {o : Owned} → CapturesAll by_spawn e [] cs e1 n → Types n b (own o) n1 → is_full o ≡ false → Types e (spawn_t at cs b) (own (task o)) e1
    types_par : {e e2 n n1 m m1 : Env} {at : ℕ} {cs ds : List Captured} {a b : Term} {k l : Kind} → CapturesBoth e cs ds n m e2 → Types n a k n1 → Types m b l m1 → is_unit k ≡ true → is_unit l ≡ true → Types e (par_t at cs a ds b) (own unit) e2

  -- the same for items in order: before them this is the last type and its place, after them that
  pub data TypesItems : Env → Items → Kind → ℕ → Kind → ℕ → Env → Type 0 where
    types_none : {e : Env} {k : Kind} {last : ℕ} → TypesItems e none k last k last e
    types_item : {e e1 e2 : Env} {t : Term} {ts : Items} {k k1 k2 : Kind} {last last2 : ℕ} → Types e t k1 e1 → TypesItems e1 ts k1 (start_of t) k2 last2 e2 → TypesItems e (item t ts) k last k2 last2 e2

mutual
  -- from an environment the first check of a term that fails is at this place, for this reason
  pub data Faults : Env → Term → ℕ → Reason → Type 0 where
    faults_read : {e : Env} {at : ℕ} {w : Spot} {r : Reason} → Lacks e w r → Faults e (read_t at w) w.at r
    faults_copy : {e : Env} {at : ℕ} {w : Spot} {s : ℕ} {k : Kind} → Has e w s (found (whole k)) → copies k ≡ true → read_blocked e s ≡ true → Faults e (read_t at w) w.at ReadBlocked
    faults_move : {e : Env} {at : ℕ} {w : Spot} {s : ℕ} {k : Kind} → Has e w s (found (whole k)) → copies k ≡ false → write_blocked e s ≡ true → Faults e (read_t at w) w.at WriteBlocked
    faults_path : {e : Env} {at : ℕ} {w : Spot} {s : ℕ} {k : Kind} → Has e w s (found (whole k)) → copies k ≡ false → write_blocked e s ≡ false → is_own_path e (place_of w s) ≡ false → Faults e (read_t at w) w.at MovedThrough
    faults_in_box : {e : Env} {at : ℕ} {t : Term} {p : ℕ} {r : Reason} → Faults e t p r → Faults e (box_t at t) p r
    faults_box_owned : {e e1 : Env} {at : ℕ} {t : Term} {k : Kind} → Types e t k e1 → is_owned k ≡ false → Faults e (box_t at t) (start_of t) NotOwned
    faults_box_full : {e e1 : Env} {at : ℕ} {t : Term} {o : Owned} → Types e t (own o) e1 → is_full o ≡ true → Faults e (box_t at t) (start_of t) NotOwned
    faults_in_print : {e : Env} {at : ℕ} {t : Term} {p : ℕ} {r : Reason} → Faults e t p r → Faults e (print_t at t) p r
    faults_print : {e e1 : Env} {at : ℕ} {t : Term} {k : Kind} → Types e t k e1 → is_int k ≡ false → Faults e (print_t at t) (start_of t) WrongType
    faults_in_let : {e : Env} {at : ℕ} {x : Text} {t : Term} {p : ℕ} {r : Reason} → Faults e t p r → Faults e (let_t at x t) p r
    faults_let : {e e1 : Env} {at s : ℕ} {x : Text} {t : Term} {k : Kind} → Types e t k e1 → slot_of e1 x ≡ Some s → Faults e (let_t at x t) at NameInScope
    faults_in_assign : {e : Env} {at : ℕ} {w : Spot} {t : Term} {p : ℕ} {r : Reason} → Faults e t p r → Faults e (assign_t at w t) p r
    faults_assign_place : {e e1 : Env} {at : ℕ} {w : Spot} {t : Term} {k : Kind} {r : Reason} → Types e t k e1 → Misses e1 w r → Faults e (assign_t at w t) w.at r
    faults_assign_blocked : {e e1 : Env} {at : ℕ} {w : Spot} {t : Term} {k : Kind} {s : ℕ} {p : Piece} → Types e t k e1 → Has e1 w s (found p) → write_blocked e1 s ≡ true → Faults e (assign_t at w t) w.at WriteBlocked
    faults_assign_path : {e e1 : Env} {at : ℕ} {w : Spot} {t : Term} {k : Kind} {s : ℕ} {p : Piece} → Types e t k e1 → Has e1 w s (found p) → write_blocked e1 s ≡ false → is_writable e1 (place_of w s) ≡ false → Faults e (assign_t at w t) w.at NotWritable
    faults_assign_kept : {e e1 : Env} {at : ℕ} {w : Spot} {t : Term} {k : Kind} {s : ℕ} {p : Piece} → Types e t k e1 → Has e1 w s (found p) → IsOpen e1 (place_of w s) → is_kept_out k w.stars ≡ true → Faults e (assign_t at w t) (start_of t) NotOwned
    faults_assign_shape : {e e1 : Env} {at : ℕ} {w : Spot} {t : Term} {k : Kind} {s : ℕ} {p : Piece} → Types e t k e1 → Has e1 w s (found p) → IsOpen e1 (place_of w s) → is_kept_out k w.stars ≡ false → has_shape_of e1 p k ≡ false → Faults e (assign_t at w t) (start_of t) WrongType
    faults_assign_outlives : {e e1 : Env} {at : ℕ} {w : Spot} {t : Term} {k : Kind} {s : ℕ} {p : Piece} → Types e t k e1 → Has e1 w s (found p) → IsOpen e1 (place_of w s) → is_kept_out k w.stars ≡ false → has_shape_of e1 p k ≡ true → names_from s k ≡ true → Faults e (assign_t at w t) (start_of t) Outlives
    faults_in_block : {e : Env} {at : ℕ} {ts : Items} {p : ℕ} {r : Reason} → FaultsItems e ts p r → Faults e (block_t at ts) p r
    faults_block : {e e1 : Env} {at last : ℕ} {ts : Items} {k : Kind} → TypesItems e ts (own unit) at k last e1 → names_from (length e) k ≡ true → Faults e (block_t at ts) last Outlives
    faults_borrow : {e : Env} {at : ℕ} {w : Spot} {r : Reason} → Withholds e w r → Faults e (borrow_t at w) w.at r
    faults_borrow_mut : {e : Env} {at : ℕ} {w : Spot} {r : Reason} → Lacks e w r → Faults e (borrow_mut_t at w) w.at r
    faults_borrow_mut_blocked : {e : Env} {at : ℕ} {w : Spot} {s : ℕ} {k : Kind} → Has e w s (found (whole k)) → write_blocked e s ≡ true → Faults e (borrow_mut_t at w) w.at WriteBlocked
    faults_borrow_mut_path : {e : Env} {at : ℕ} {w : Spot} {s : ℕ} {k : Kind} → Has e w s (found (whole k)) → write_blocked e s ≡ false → is_writable e (place_of w s) ≡ false → Faults e (borrow_mut_t at w) w.at NotWritable
    faults_in_mutex : {e : Env} {at : ℕ} {t : Term} {p : ℕ} {r : Reason} → Faults e t p r → Faults e (mutex_t at t) p r
    faults_mutex_owned : {e e1 : Env} {at : ℕ} {t : Term} {k : Kind} → Types e t k e1 → is_owned k ≡ false → Faults e (mutex_t at t) (start_of t) NotOwned
    faults_mutex_full : {e e1 : Env} {at : ℕ} {t : Term} {o : Owned} → Types e t (own o) e1 → is_full o ≡ true → Faults e (mutex_t at t) (start_of t) NotOwned
    faults_in_left : {e : Env} {at : ℕ} {op : Op} {a b : Term} {p : ℕ} {r : Reason} → Faults e a p r → Faults e (arith_t at op a b) p r
    faults_left : {e e1 : Env} {at : ℕ} {op : Op} {a b : Term} {k : Kind} → Types e a k e1 → is_int k ≡ false → Faults e (arith_t at op a b) (start_of a) WrongType
    faults_in_right : {e e1 : Env} {at : ℕ} {op : Op} {a b : Term} {k : Kind} {p : ℕ} {r : Reason} → Types e a k e1 → is_int k ≡ true → Faults e1 b p r → Faults e (arith_t at op a b) p r
    faults_right : {e e1 e2 : Env} {at : ℕ} {op : Op} {a b : Term} {k l : Kind} → Types e a k e1 → is_int k ≡ true → Types e1 b l e2 → is_int l ≡ false → Faults e (arith_t at op a b) (start_of b) WrongType
    faults_in_join : {e : Env} {at : ℕ} {t : Term} {p : ℕ} {r : Reason} → Faults e t p r → Faults e (join_t at t) p r
    faults_join : {e e1 : Env} {at : ℕ} {t : Term} {k : Kind} → Types e t k e1 → task_of k ≡ None → Faults e (join_t at t) (start_of t) WrongType
    faults_dup : {e : Env} {at : ℕ} {w : Spot} {r : Reason} → Withholds e w r → Faults e (dup_t at w) w.at r
    faults_dup_kind : {e : Env} {at : ℕ} {w : Spot} {s : ℕ} {k : Kind} → Shows e w s k → mutex_of k ≡ None → Faults e (dup_t at w) w.at WrongType
    faults_lock : {e : Env} {at : ℕ} {w : Spot} {x : Text} {b : Term} {r : Reason} → Withholds e w r → Faults e (lock_t at w x b) w.at r
    faults_lock_kind : {e : Env} {at : ℕ} {w : Spot} {x : Text} {b : Term} {s : ℕ} {k : Kind} → Shows e w s k → mutex_of k ≡ None → Faults e (lock_t at w x b) w.at WrongType
    faults_lock_name : {e : Env} {at : ℕ} {w : Spot} {x : Text} {b : Term} {s i : ℕ} {o : Owned} → Shows e w s (own (mutex o)) → slot_of e x ≡ Some i → Faults e (lock_t at w x b) at NameInScope
    faults_in_lock : {e : Env} {at : ℕ} {w : Spot} {x : Text} {b : Term} {s : ℕ} {o : Owned} {p : ℕ} {r : Reason} → Shows e w s (own (mutex o)) → slot_of e x ≡ None → Faults (with_lock e (place_of w s) x o) b p r → Faults e (lock_t at w x b) p r
    faults_lock_owned : {e e1 : Env} {at : ℕ} {w : Spot} {x : Text} {b : Term} {s : ℕ} {o : Owned} {k : Kind} → Shows e w s (own (mutex o)) → slot_of e x ≡ None → Types (with_lock e (place_of w s) x o) b k e1 → is_owned k ≡ false → Faults e (lock_t at w x b) (start_of b) NotOwned
    faults_lock_full : {e e1 : Env} {at : ℕ} {w : Spot} {x : Text} {b : Term} {s : ℕ} {o : Owned} {k : Kind} → Shows e w s (own (mutex o)) → slot_of e x ≡ None → Types (with_lock e (place_of w s) x o) b k e1 → is_owned k ≡ true → has_content (length e) e1 ≡ false → Faults e (lock_t at w x b) at NotFull
    faults_spawn : {e : Env} {at : ℕ} {cs : List Captured} {b : Term} {p : ℕ} {r : Reason} → DeniesAll by_spawn e [] cs p r → Faults e (spawn_t at cs b) p r
    faults_in_spawn : {e e1 n : Env} {at : ℕ} {cs : List Captured} {b : Term} {p : ℕ} {r : Reason} → CapturesAll by_spawn e [] cs e1 n → Faults n b p r → Faults e (spawn_t at cs b) p r
    faults_spawn_owned : {e e1 n n1 : Env} {at : ℕ} {cs : List Captured} {b : Term} {k : Kind} → CapturesAll by_spawn e [] cs e1 n → Types n b k n1 → is_owned k ≡ false → Faults e (spawn_t at cs b) (start_of b) NotOwned
    faults_spawn_full : {e e1 n n1 : Env} {at : ℕ} {cs : List Captured} {b : Term} {o : Owned} → CapturesAll by_spawn e [] cs e1 n → Types n b (own o) n1 → is_full o ≡ true → Faults e (spawn_t at cs b) (start_of b) NotOwned
    faults_par : {e : Env} {at : ℕ} {cs ds : List Captured} {a b : Term} {p : ℕ} {r : Reason} → DeniesBoth e cs ds p r → Faults e (par_t at cs a ds b) p r
    faults_in_ours : {e e2 n m : Env} {at : ℕ} {cs ds : List Captured} {a b : Term} {p : ℕ} {r : Reason} → CapturesBoth e cs ds n m e2 → Faults n a p r → Faults e (par_t at cs a ds b) p r
    faults_in_theirs : {e e2 n n1 m : Env} {at : ℕ} {cs ds : List Captured} {a b : Term} {k : Kind} {p : ℕ} {r : Reason} → CapturesBoth e cs ds n m e2 → Types n a k n1 → Faults m b p r → Faults e (par_t at cs a ds b) p r
    faults_ours : {e e2 n n1 m m1 : Env} {at : ℕ} {cs ds : List Captured} {a b : Term} {k l : Kind} → CapturesBoth e cs ds n m e2 → Types n a k n1 → Types m b l m1 → is_unit k ≡ false → Faults e (par_t at cs a ds b) (start_of a) WrongType
    faults_theirs : {e e2 n n1 m m1 : Env} {at : ℕ} {cs ds : List Captured} {a b : Term} {k l : Kind} → CapturesBoth e cs ds n m e2 → Types n a k n1 → Types m b l m1 → is_unit k ≡ true → is_unit l ≡ false → Faults e (par_t at cs a ds b) (start_of b) WrongType

  -- the first of these items that has a fault has this one
  pub data FaultsItems : Env → Items → ℕ → Reason → Type 0 where
    faults_first : {e : Env} {t : Term} {ts : Items} {p : ℕ} {r : Reason} → Faults e t p r → FaultsItems e (item t ts) p r
    faults_rest : {e e1 : Env} {t : Term} {ts : Items} {k : Kind} {p : ℕ} {r : Reason} → Types e t k e1 → FaultsItems e1 ts p r → FaultsItems e (item t ts) p r

-- AS A FUNCTION

abbrev mutual
  -- what the table gives
  pub typing : Term → Env → Outcome
  typing (number_t at n) e = typed (own int) e
  typing (unit_t at) e = typed (own unit) e
  typing (read_t at w) e = find_whole e w (read_rule e w)
  typing (borrow_t at w) e = find_shown e w (borrow_rule e)
  typing (borrow_mut_t at w) e = find_whole e w (borrow_mut_rule e w)
  typing (box_t at t) e = then_typed (typing t e) (box_rule (start_of t))
  typing (mutex_t at t) e = then_typed (typing t e) (held_rule mutex (start_of t))
  typing (arith_t at op a b) e =
      then_typed (typing a e) (λ k e1. int_rule (start_of a) k (then_typed (typing b e1) (arith_rule (start_of b))))
  typing (print_t at t) e = then_typed (typing t e) (print_rule (start_of t))
  typing (let_t at x t) e = then_typed (typing t e) (let_rule at x)
  typing (assign_t at w t) e = then_typed (typing t e) (assign_rule w (start_of t))
  typing (block_t at ts) e = typing_items ts (own unit) at e (end_rule (length e))
  typing (join_t at t) e = then_typed (typing t e) (join_rule (start_of t))
  typing (dup_t at w) e = find_shown e w (dup_rule e w.at)
  typing (lock_t at w x b) e =
      find_shown e w (lock_rule at e w x (λ e1. then_typed (typing b e1) (unlock_rule at (start_of b) (length e))))
  typing (spawn_t at cs b) e =
      capture_all by_spawn cs e [] (λ e1 n. then_typed (typing b n) (λ k n1. held_rule task (start_of b) k e1))
  typing (par_t at cs a ds b) e =
      capture_both cs ds e (λ n m e2. then_typed (typing a n) (λ k n1. then_typed (typing b m) (λ l m1. par_rule (start_of a) (start_of b) k l e2)))

  -- the items in order; the type and the place are those of what came before
  pub typing_items : Items → Kind → ℕ → Env → (Kind → ℕ → Env → Outcome) → Outcome
  typing_items none k last e go = go k last e
  typing_items (item t ts) k last e go = then_typed (typing t e) (λ k1 e1. typing_items ts k1 (start_of t) e1 go)
