-- A typed term of the source resolves to a typed running term.
use Rattle.std.proofs.Common.{◌≡◌, ◌==◌, ℕ, zero, suc, ◌+◌, ◌-◌, ◌<◌, ◌≤◌, Bool, true, false, not, [], ◌∷◌, List, length, drop, Option, Some, None, refl, sym, ap, ◌∙◌, subst, arith as numbers, length-drop, add-zero}
use Rattle.std.specs.Prelude.{⊤, ◌⊎◌, ◌||◌, nat_lt, nat_le, if◌then◌else◌, unwrap_or}
use Rattle.std.specs.List.{list_any}
use Rattle.std.proofs.Common.{inl, inr}
use Rattle.std.proofs.lemmas.Bool.{leb-false, ltb-false}
use Rattle.fr_plain.specs.Below.fr_base.declared.place.Lval.{Lval}
use Rattle.fr_plain.specs.Below.fr_base.declared.place.Op.{Op}
use Rattle.fr_plain.specs.Below.fr_terms.Terms.{Text, Captured, Spot, Term, block_t, let_t, assign_t, read_t, number_t, unit_t, box_t, print_t, borrow_t, borrow_mut_t, arith_t, join_t, mutex_t, dup_t, lock_t, spawn_t, par_t, Items, none, item}
use Rattle.fr_plain.specs.Below.fr_typing.Sequential.{IsSequential, AreSequential}
use Rattle.fr_plain.specs.Below.fr_typing.Captures.{by_spawn, Capturer, spot_of, captured_kind, captured_slot, Captures, captures_copy, captures_move, CapturesAll, captures_none, captures_next, env_left, env_new, env_of_all}
use Rattle.fr_plain.proofs.Below.fr_typing.CaptureLemmas.{capture_by, capture_all_by}
use Rattle.fr_plain.specs.Below.fr_typing.Kinds.{Owned, unit, int, box, mutex, task, same_owned, Kind, own, shared, mutable, view, Piece, whole, gone, copies}
use Rattle.fr_plain.specs.Below.fr_typing.Places.{Env, found, type_at, write_blocked, on_path, is_lent, is_mutable, is_writable, is_own_path, slot_of, same_name, put_under, put_at, Shape, owned_shape, shared_to, mutable_to, piece_shape, shape_at, AreBelow, kind_places, equal_shapes}
use Rattle.fr_plain.specs.Below.fr_typing.Checks.{place_of, is_int, is_owned, is_kept_out, has_shape_of, names_from, set_through}
use Rattle.fr_plain.specs.Below.fr_typing.Finding.{typed, env_after, is_moved, Has, IsOpen, Shows}
use Rattle.fr_plain.specs.Below.fr_typing.Typing.{typing, Types, types_number, types_unit, types_copy, types_move, types_borrow, types_borrow_mut, types_box, types_mutex, types_arith, types_print, types_let, types_assign, types_block, types_join, types_dup, types_lock, types_spawn, types_par, TypesItems, types_none, types_item}
use Rattle.fr_plain.proofs.Below.fr_typing.Agree.{typing_by}
use Rattle.fr_store.proofs.Below.{or_false}
use Rattle.fr_plain.specs.declared.value.Value.{Value}
use Rattle.fr_plain.specs.Run.{Capture, Run, unit_c, read, borrow, arith, assign, block, last as last_p, more, Now, now}
use Rattle.fr_plain.specs.Resolve.{named, moves, lets_in, lets, before, captures, resolve, resolve_items}
use Rattle.fr_plain.specs.Below.fr_typing.Threaded.{IsThreaded, AreThreaded}
use Rattle.fr_sound.specs.RunTypes.{Forms, one_thread, threads, RunCaptures, c_none, c_copy, c_move, t_spawn, t_join, Assigns, to_own, to_lent, to_variable, IsNumber, o_int, Falls, f_none, f_one, RunTypes, t_unit, t_number, t_copy, t_move, t_borrow, t_borrow_mut, t_box, t_left, t_right, t_let, t_print, t_assign, t_block, PartsTypes, p_last, p_more}
use Rattle.fr_sound.proofs.DoneTerms.{Done, d_going, d_constant, done}

-- FORMS

-- starting and joining threads is among the forms
abbrev HaveThreads : Forms → Type 0
HaveThreads one_thread = ⊥
HaveThreads threads = ⊤

abbrev mutual
  -- the term has these forms
  pub HasForms : Forms → Term → Type 0
  HasForms f (block_t at items) = HaveForms f items
  HasForms f (let_t at name value) = HasForms f value
  HasForms f (assign_t at to value) = HasForms f value
  HasForms f (read_t at from) = ⊤
  HasForms f (number_t at value) = ⊤
  HasForms f (unit_t at) = ⊤
  HasForms f (box_t at value) = HasForms f value
  HasForms f (print_t at value) = HasForms f value
  HasForms f (borrow_t at of) = ⊤
  HasForms f (borrow_mut_t at of) = ⊤
  HasForms f (arith_t at op left right) = HasForms f left × HasForms f right
  HasForms f (join_t at value) = HaveThreads f × HasForms f value
  HasForms f (mutex_t at value) = ⊥
  HasForms f (dup_t at of) = ⊥
  HasForms f (lock_t at of name body) = ⊥
  HasForms f (spawn_t at cs body) = HaveThreads f × HasForms f body
  HasForms f (par_t at cs body ds other) = ⊥

  pub HaveForms : Forms → Items → Type 0
  HaveForms f none = ⊤
  HaveForms f (item first rest) = HasForms f first × HaveForms f rest

mutual
  -- the forms of one thread
  pub sequential_forms : (t : Term) → IsSequential t → HasForms one_thread t
  sequential_forms (block_t at items) a = sequential_items items a
  sequential_forms (let_t at name value) a = sequential_forms value a
  sequential_forms (assign_t at to value) a = sequential_forms value a
  sequential_forms (read_t at from) a = tt
  sequential_forms (number_t at value) a = tt
  sequential_forms (unit_t at) a = tt
  sequential_forms (box_t at value) a = sequential_forms value a
  sequential_forms (print_t at value) a = sequential_forms value a
  sequential_forms (borrow_t at of) a = tt
  sequential_forms (borrow_mut_t at of) a = tt
  sequential_forms (arith_t at op left right) a = (sequential_forms left a.0, sequential_forms right a.1)
  sequential_forms (join_t at value) a = absurd a
  sequential_forms (mutex_t at value) a = absurd a
  sequential_forms (dup_t at of) a = absurd a
  sequential_forms (lock_t at of name body) a = absurd a
  sequential_forms (spawn_t at cs body) a = absurd a
  sequential_forms (par_t at cs body ds other) a = absurd a

  pub sequential_items : (ts : Items) → AreSequential ts → HaveForms one_thread ts
  sequential_items none a = tt
  sequential_items (item t ts) a = (sequential_forms t a.0, sequential_items ts a.1)

mutual
  -- those of several threads
  pub threaded_forms : (t : Term) → IsThreaded t → HasForms threads t
  threaded_forms (block_t at items) a = threaded_items items a
  threaded_forms (let_t at name value) a = threaded_forms value a
  threaded_forms (assign_t at to value) a = threaded_forms value a
  threaded_forms (read_t at from) a = tt
  threaded_forms (number_t at value) a = tt
  threaded_forms (unit_t at) a = tt
  threaded_forms (box_t at value) a = threaded_forms value a
  threaded_forms (print_t at value) a = threaded_forms value a
  threaded_forms (borrow_t at of) a = tt
  threaded_forms (borrow_mut_t at of) a = tt
  threaded_forms (arith_t at op left right) a = (threaded_forms left a.0, threaded_forms right a.1)
  threaded_forms (join_t at value) a = (tt, threaded_forms value a)
  threaded_forms (mutex_t at value) a = absurd a
  threaded_forms (dup_t at of) a = absurd a
  threaded_forms (lock_t at of name body) a = absurd a
  threaded_forms (spawn_t at cs body) a = (tt, threaded_forms body a)
  threaded_forms (par_t at cs body ds other) a = absurd a

  pub threaded_items : (ts : Items) → AreThreaded ts → HaveForms threads ts
  threaded_items none a = tt
  threaded_items (item t ts) a = (threaded_forms t a.0, threaded_items ts a.1)

-- SLOTS

-- a slot that a name has is there
slot_below_if : (b : Bool) (below : Env) (x : Text) (n : ℕ) → (slot_of below x ≡ Some n → n < length below) → (if b then Some (length below) else slot_of below x) ≡ Some n → n < suc (length below)
slot_below_if true below x n go h = let e : length below ≡ n = cc in omega numbers
slot_below_if false below x n go h = let l = go h in omega numbers

-- a slot that a name has is there
slot_below : (e : Env) (x : Text) (n : ℕ) → slot_of e x ≡ Some n → n < length e
slot_below [] x n h = cc
slot_below (s ∷ below) x n h = slot_below_if (same_name s.name x) below x n (slot_below below x n) h

-- either of two environments of one length
length_either : (b : Bool) (e f : Env) → length e ≡ length f → length (if b then e else f) ≡ length f
length_either true e f h = h
length_either false e f h = refl

-- a write adds no slot
length_put : (e : Env) (w : Lval) (new : Piece) → length (put_at e w new) ≡ length e
length_put [] w new = refl
length_put (s ∷ below) w new =
    length_either (w.slot == length below) (record s { part = put_under w.depth new s.part } ∷ below) (s ∷ put_at below w new) (sym (ap suc (length_put below w new))) ∙ ap suc (length_put below w new)

-- SHAPES

-- types that the test finds equal are equal
same_owned_is : (a b : Owned) → same_owned a b ≡ true → a ≡ b
same_owned_is unit unit h = refl
same_owned_is int int h = refl
same_owned_is (box a) (box b) h = ap box (same_owned_is a b h)
same_owned_is (mutex a) (mutex b) h = ap mutex (same_owned_is a b h)
same_owned_is (task a) (task b) h = ap task (same_owned_is a b h)
same_owned_is _ _ h = cc

-- only an owned shape has the shape of an owned type
shape_is : (a : Option Shape) (x : Owned) → equal_shapes a (Some (owned_shape x)) ≡ true → a ≡ Some (owned_shape x)
shape_is None x h = cc
shape_is (Some (owned_shape y)) x h = ap (λ z. Some (owned_shape z)) (same_owned_is y x h)
shape_is (Some (shared_to y)) x h = cc
shape_is (Some (mutable_to y)) x h = cc

-- KINDS

-- a type that the test finds to be int is int
int_is : (k : Kind) → is_int k ≡ true → k ≡ own int
int_is (own int) h = refl
int_is (own unit) h = cc
int_is (own (box x)) h = cc
int_is (own (mutex x)) h = cc
int_is (own (task x)) h = cc
int_is (shared us) h = cc
int_is (mutable us) h = cc
int_is (view x) h = cc

-- THE LENGTHS

-- the environment that typing computes is that of the relation
env_is : {e e1 : Env} {t : Term} {k : Kind} → Types e t k e1 → env_after (typing t e) ≡ e1
env_is t = ap env_after (typing_by t)

-- an assignment adds no slot
length_set : (e : Env) (w : Lval) (k : Kind) → length (set_through e w k) ≡ length e
length_set e w k = by (on_path is_mutable e w.slot w.depth)
  where
    by : (b : Bool) → length (if b then e else put_at e w (whole k)) ≡ length e
    by true = refl
    by false = length_put e w (whole k)

-- a capture adds a slot to the new environment and none to the old one
length_capture : {by : Capturer} {e n e1 n1 : Env} {c : Captured} → Captures by e n c e1 n1 → (length e1 ≡ length e) × (length n1 ≡ suc (length n))
length_capture (captures_copy p v b m) = (refl, refl)
length_capture (captures_move {e = e} {c = c} {s = s} {k = k} p v b m) = (length_put e (place_of (spot_of c) s) (gone k), refl)

-- and so do all captures
length_captures : {by : Capturer} {e n e1 n1 : Env} {cs : List Captured} → CapturesAll by e n cs e1 n1 → (length e1 ≡ length e) × (length n1 ≡ length n + length cs)
length_captures captures_none = (refl, sym (add-zero _))
length_captures (captures_next h hs) = let a = length_capture h in let b = length_captures hs in (b.0 ∙ a.0, (let x = a.1 in let y = b.1 in omega (numbers, x, y)))

mutual
  -- a typed term leaves as many slots more as it declares variables
  lets_add : (forms : Forms) {e e1 : Env} {t : Term} {k : Kind} → HasForms forms t → Types e t k e1 → length e1 ≡ length e + lets_in t
  lets_add forms a types_number = sym (add-zero _)
  lets_add forms a types_unit = sym (add-zero _)
  lets_add forms a (types_copy f c b) = sym (add-zero _)
  lets_add forms a (types_move {e = e} {w = w} {s = s} {k = k} f c b o) = length_put e (place_of w s) (gone k) ∙ sym (add-zero _)
  lets_add forms a (types_box t f) = lets_add forms a t
  lets_add forms a (types_print t i) = lets_add forms a t
  lets_add forms a (types_let {e = e} {t = t} y n) = let l = lets_add forms a y in omega (numbers, l)
  lets_add forms a (types_assign {e1 = e1} {w = w} {k = k} {s = s} t f o kept shape out) = length_set e1 (place_of w s) k ∙ lets_add forms a t
  lets_add forms a (types_block {e = e} {e1 = e1} ts n) =
      let l = lets_add_items forms a ts in
      let d = length-drop (length e1 - length e) e1 in
      omega (numbers, l, d)
  lets_add forms a (types_borrow f) = sym (add-zero _)
  lets_add forms a (types_borrow_mut f o) = sym (add-zero _)
  lets_add forms a (types_arith t i g j) = let l = lets_add forms a.0 t in let m = lets_add forms a.1 g in omega (numbers, l, m)
  lets_add forms a (types_mutex t f) = absurd a
  lets_add forms a (types_join t) = lets_add forms a.1 t
  lets_add forms a (types_dup f) = absurd a
  lets_add forms a (types_lock f n t i g) = absurd a
  lets_add forms a (types_spawn c t f) = (length_captures c).0 ∙ sym (add-zero _)
  lets_add forms a (types_par c t g i j) = absurd a

  -- and so do typed items
  lets_add_items : (forms : Forms) {e e1 : Env} {ts : Items} {k k1 : Kind} {last last1 : ℕ} → HaveForms forms ts → TypesItems e ts k last k1 last1 e1 → length e1 ≡ length e + lets ts
  lets_add_items forms a types_none = sym (add-zero _)
  lets_add_items forms a (types_item t ts) = let l = lets_add forms a.0 t in let m = lets_add_items forms a.1 ts in omega (numbers, l, m)

-- so many slots go where so many are there
falls_to : (n : ℕ) (e : Env) → n ≤ length e → Falls n e (drop n e)
falls_to zero e h = f_none
falls_to (suc n) [] h = absurd (omega numbers)
falls_to (suc n) (s ∷ e) h = f_one (falls_to n e (omega numbers))

-- WHAT A TYPE NAMES

-- places that are none from n on are below n
none_from : (n : ℕ) (us : List Lval) → list_any (λ u. nat_le n u.slot) us ≡ false → AreBelow n us
none_from n [] h = tt
none_from n (u ∷ us) h = let o = or_false (nat_le n u.slot) (list_any (λ v. nat_le n v.slot) us) h in (leb-false n u.slot o.0, none_from n us o.1)

-- a type that names no slot from n on names lower slots
names_below : (n : ℕ) (k : Kind) → names_from n k ≡ false → AreBelow n (kind_places k)
names_below n (own x) h = tt
names_below n (shared us) h = none_from n us h
names_below n (mutable us) h = none_from n us h
names_below n (view x) h = tt

-- PATHS

-- a sum of two sums, paired otherwise
both_or : (a b c d : Bool) → ((a || b) || (c || d)) ≡ ((a || c) || (b || d))
both_or true true true true = refl
both_or true true true false = refl
both_or true true false true = refl
both_or true true false false = refl
both_or true false true true = refl
both_or true false true false = refl
both_or true false false true = refl
both_or true false false false = refl
both_or false true true true = refl
both_or false true true false = refl
both_or false true false true = refl
both_or false true false false = refl
both_or false false true true = refl
both_or false false true false = refl
both_or false false false true = refl
both_or false false false false = refl

-- what is lent or mutable on the path
on_path_or : (e : Env) (x d : ℕ) → on_path (λ f. is_lent f || is_mutable f) e x d ≡ (on_path is_lent e x d || on_path is_mutable e x d)
on_path_or e x zero = refl
on_path_or e x (suc d) =
    let f = type_at e (record { slot = x; depth = d }) in
    ap (λ b. b || (is_lent f || is_mutable f)) (on_path_or e x d) ∙ both_or (on_path is_lent e x d) (on_path is_mutable e x d) (is_lent f) (is_mutable f)

-- a writable path is its own, or goes through a mutable reference
own_or_through : (e : Env) (w : Lval) → is_writable e w ≡ true → ((is_own_path e w ≡ true) × (on_path is_mutable e w.slot w.depth ≡ false)) ⊎ ((is_own_path e w ≡ false) × (on_path is_mutable e w.slot w.depth ≡ true))
own_or_through e w h = by (on_path is_lent e w.slot w.depth) (on_path is_mutable e w.slot w.depth) refl (ap not (on_path_or e w.slot w.depth)) h
  where
    by : (a b : Bool) → on_path is_mutable e w.slot w.depth ≡ b → is_own_path e w ≡ not (a || b) → not a ≡ true → ((is_own_path e w ≡ true) × (on_path is_mutable e w.slot w.depth ≡ false)) ⊎ ((is_own_path e w ≡ false) × (on_path is_mutable e w.slot w.depth ≡ true))
    by true b m o h = cc
    by false true m o h = inr (o, m)
    by false false m o h = inl (o, m)

-- what an assignment leaves, by whether a mutable reference is on the path
set_if : (e : Env) (w : Lval) (k : Kind) (b : Bool) → on_path is_mutable e w.slot w.depth ≡ b → set_through e w k ≡ (if b then e else put_at e w (whole k))
set_if e w k b h = ap (λ c. if c then e else put_at e w (whole k)) h

-- THE TERMS

-- a read of a place that is named
read_as : {forms : Forms} {e e1 : Env} {k : Kind} (w : Spot) (s : ℕ) (b : Bool) → slot_of e w.name ≡ Some s → moves e w ≡ b → RunTypes forms e None (read (place_of w s) b) k e1 → RunTypes forms e None (read (named e w) (moves e w)) k e1
read_as {forms = forms} {e = e} {e1 = e1} {k = k} w s b h m r = subst (λ (o : Option ℕ). RunTypes forms e None (read (place_of w (unwrap_or o 0)) (moves e w)) k e1) (sym h) (subst (λ (c : Bool). RunTypes forms e None (read (place_of w s) c) k e1) (sym m) r)

-- whether a read moves, by the type that is found
found_at : {e : Env} {w : Spot} {s : ℕ} {k : Kind} → Has e w s (found (whole k)) → moves e w ≡ not (copies k)
found_at {e = e} {w = w} h = ap (λ o. is_moved (type_at e (place_of w (unwrap_or o 0)))) h.named ∙ ap is_moved h.is

-- a read that copies
copy_runs : {forms : Forms} {e : Env} {w : Spot} {s : ℕ} {k : Kind} → Has e w s (found (whole k)) → copies k ≡ true → RunTypes forms e None (read (named e w) (moves e w)) k e
copy_runs {e = e} {w = w} {s = s} f c = read_as w s false f.named (found_at f ∙ ap not c) (t_copy (record { there = slot_below e w.name s f.named; is = f.is; copied = c }))

-- a read that moves
move_runs : {forms : Forms} {e : Env} {w : Spot} {s : ℕ} {k : Kind} → Has e w s (found (whole k)) → copies k ≡ false → write_blocked e s ≡ false → is_own_path e (place_of w s) ≡ true → RunTypes forms e None (read (named e w) (moves e w)) k (put_at e (place_of w s) (gone k))
move_runs {e = e} {w = w} {s = s} f c b p =
    read_as w s true f.named (found_at f ∙ ap not c) (t_move (record { there = slot_below e w.name s f.named; is = f.is; moved = c; free = b; own_path = p; after = refl }))

-- a borrow of a place that is named
borrow_as : {forms : Forms} {e : Env} {k : Kind} (m : Bool) (w : Spot) (s : ℕ) → slot_of e w.name ≡ Some s → RunTypes forms e None (borrow (place_of w s) m) k e → RunTypes forms e None (borrow (named e w) m) k e
borrow_as {forms = forms} {e = e} {k = k} m w s h r = subst (λ (o : Option ℕ). RunTypes forms e None (borrow (place_of w (unwrap_or o 0)) m) k e) (sym h) r

-- a shared borrow
borrow_runs : {forms : Forms} {e : Env} {w : Spot} {s : ℕ} {k : Kind} → Shows e w s k → RunTypes forms e None (borrow (named e w) false) (shared (place_of w s ∷ [])) e
borrow_runs {e = e} {w = w} {s = s} {k = k} f = borrow_as false w s f.is.named (t_borrow (record { kind = k; there = slot_below e w.name s f.is.named; is = f.is.is; free = f.free }))

-- a mutable borrow
borrow_mut_runs : {forms : Forms} {e : Env} {w : Spot} {s : ℕ} {k : Kind} → Has e w s (found (whole k)) → IsOpen e (place_of w s) → RunTypes forms e None (borrow (named e w) true) (mutable (place_of w s ∷ [])) e
borrow_mut_runs {e = e} {w = w} {s = s} {k = k} f o = borrow_as true w s f.named (t_borrow_mut (record { kind = k; there = slot_below e w.name s f.named; is = f.is; free = o.free; writable = o.path }))

-- an owned value is put on an own path, or written through mutable references
assigns_owned : {e : Env} {w : Spot} {s : ℕ} {p : Piece} (x : Owned) → Has e w s (found p) → IsOpen e (place_of w s) → has_shape_of e p (own x) ≡ true → Assigns e (place_of w s) (own x) (set_through e (place_of w s) (own x))
assigns_owned {e = e} {w = w} {s = s} {p = p} x f o shape = by (own_or_through e (place_of w s) o.path)
  where
    by : ((is_own_path e (place_of w s) ≡ true) × (on_path is_mutable e s w.stars ≡ false)) ⊎ ((is_own_path e (place_of w s) ≡ false) × (on_path is_mutable e s w.stars ≡ true)) → Assigns e (place_of w s) (own x) (set_through e (place_of w s) (own x))
    by (inl z) = to_own (record { piece = p; there = slot_below e w.name s f.named; is = f.is; shape = shape_is (piece_shape (shape_at e) p) x shape; free = o.free; own_path = z.0; after = set_if e (place_of w s) (own x) false z.1 })
    by (inr z) =
        subst (Assigns e (place_of w s) (own x)) (sym (set_if e (place_of w s) (own x) true z.1))
        (to_lent (record { piece = p; there = slot_below e w.name s f.named; is = f.is; shape = shape_is (piece_shape (shape_at e) p) x shape; free = o.free; writable = o.path; through = z.0 }))

-- a reference is written to a variable
assigns_reference : {e : Env} {w : Spot} {s : ℕ} {p : Piece} (k : Kind) → Has e w s (found p) → IsOpen e (place_of w s) → is_owned k ≡ false → nat_lt 0 w.stars ≡ false → names_from s k ≡ false → Assigns e (place_of w s) k (set_through e (place_of w s) k)
assigns_reference {e = e} {w = w} {s = s} {p = p} k f o ref stars out =
    let none = ltb-false 0 w.stars stars in
    let depth : w.stars ≡ 0 = omega (numbers, none) in
    to_variable (record {
      piece = p;
      there = slot_below e w.name s f.named;
      variable = depth;
      is = f.is;
      reference = ref;
      free = o.free;
      below = names_below s k out;
      after = set_if e (place_of w s) k false (ap (on_path is_mutable e s) depth);
    })

-- a value of any type that typing lets be assigned
assigns : {e : Env} {w : Spot} {s : ℕ} {p : Piece} (k : Kind) → Has e w s (found p) → IsOpen e (place_of w s) → is_kept_out k w.stars ≡ false → has_shape_of e p k ≡ true → names_from s k ≡ false → Assigns e (place_of w s) k (set_through e (place_of w s) k)
assigns (own x) f o kept shape out = assigns_owned x f o shape
assigns (shared us) f o kept shape out = assigns_reference (shared us) f o refl kept out
assigns (mutable us) f o kept shape out = assigns_reference (mutable us) f o refl kept out
assigns (view x) f o kept shape out = assigns_reference (view x) f o refl kept out

-- an assignment to a place that is named
assign_as : {forms : Forms} {e e2 : Env} {r : Run} (e1 : Env) (w : Spot) (s : ℕ) → slot_of e1 w.name ≡ Some s → RunTypes forms e None (assign (place_of w s) r) (own unit) e2 → RunTypes forms e None (assign (named e1 w) r) (own unit) e2
assign_as {forms = forms} {e = e} {e2 = e2} {r = r} e1 w s h t = subst (λ (o : Option ℕ). RunTypes forms e None (assign (place_of w (unwrap_or o 0)) r) (own unit) e2) (sym h) t

-- arithmetic: the left operand is a constant, or goes on
arith_by : {forms : Forms} {n : Now} {e e1 e2 : Env} {h : Option Value} (f : Op) (a b : Run) → now a ≡ n → RunTypes forms e None a (own int) e1 → RunTypes forms e1 None b (own int) e2 → Done n e None h (own int) e1 → RunTypes forms e None (arith f a b) (own int) e2
arith_by f a b same t u d_going = t_left same t u
arith_by f a b same t u (d_constant o_int) = t_right (subst IsNumber (sym same) (_, refl)) u

-- a list of items, of which the last one counts
abbrev ItemsRun : Forms → Items → Env → Kind → Kind → Env → Type 0
ItemsRun forms none e k k1 e1 = (k ≡ k1) × (e ≡ e1)
ItemsRun forms (item t ts) e k k1 e1 = PartsTypes forms e None (resolve_items (item t ts) e) k1 e1

-- a term before items
joins : {forms : Forms} {e e1 : Env} {r : Run} (ts : Items) (f : Env) (k k1 : Kind) (e2 : Env) → RunTypes forms e None r k e1 → ItemsRun forms ts e1 k k1 e2 → f ≡ e1 → PartsTypes forms e None (before ts r (resolve_items ts f)) k1 e2
joins {forms = forms} {e = e} {e1 = e1} {r = r} none f k k1 e2 t q same = p_last (subst (λ (l : Kind). RunTypes forms e None r l e2) q.0 (subst (λ (g : Env). RunTypes forms e None r k g) q.1 t))
joins {forms = forms} {e = e} {e1 = e1} {r = r} (item u us) f k k1 e2 t q same = subst (λ (g : Env). PartsTypes forms e None (more r (resolve_items (item u us) g)) k1 e2) (sym same) (p_more t q)

-- the items of a block, which may be none
block_runs : {forms : Forms} (ts : Items) (e : Env) (k1 : Kind) (e1 : Env) → ItemsRun forms ts e (own unit) k1 e1 → PartsTypes forms e None (resolve_items ts e) k1 e1
block_runs {forms = forms} none e k1 e1 q = subst (λ (l : Kind). PartsTypes forms e None (last_p unit_c) l e1) q.0 (subst (λ (f : Env). PartsTypes forms e None (last_p unit_c) (own unit) f) q.1 (p_last t_unit))
block_runs (item t ts) e k1 e1 q = q

-- an environment without its slots is empty
pub drop_all : (n : ℕ) (e : Env) → n ≡ length e → drop n e ≡ []
drop_all zero [] h = refl
drop_all zero (s ∷ e) h = absurd (omega numbers)
drop_all (suc n) [] h = refl
drop_all (suc n) (s ∷ e) h = drop_all n e (omega numbers)

-- CAPTURES

-- a capture's slot, and whether its value is taken
capture_as : {e e2 n n2 : Env} {rest : List Capture} (c : Captured) (s : ℕ) (b : Bool) → slot_of e c.name ≡ Some s → moves e (spot_of c) ≡ b → RunCaptures e n (record { slot = s; take = b } ∷ rest) e2 n2
    → RunCaptures e n (record { slot = (named e (spot_of c)).slot; take = moves e (spot_of c) } ∷ rest) e2 n2
capture_as {e = e} {e2 = e2} {n = n} {n2 = n2} {rest = rest} c s b h m r =
    subst (λ (o : Option ℕ). RunCaptures e n (record { slot = unwrap_or o 0; take = moves e (spot_of c) } ∷ rest) e2 n2) (sym h) (subst (λ (t : Bool). RunCaptures e n (record { slot = s; take = t } ∷ rest) e2 n2) (sym m) r)

-- spawn captures owned types as they are
spawn_kind : (e : Env) (k l : Kind) → captured_kind by_spawn e k ≡ Some l → (x : Owned) × (k ≡ own x) × (l ≡ own x)
spawn_kind e (own x) l h = let same : own x ≡ l = cc in (x, refl, sym same)
spawn_kind e (shared us) l h = cc
spawn_kind e (mutable us) l h = cc
spawn_kind e (view x) l h = cc

-- a capture that typing allows
capture_runs : {e n e1 n1 e2 n2 : Env} {c : Captured} {rest : List Capture} → Captures by_spawn e n c e1 n1 → RunCaptures e1 n1 rest e2 n2 → RunCaptures e n (record { slot = (named e (spot_of c)).slot; take = moves e (spot_of c) } ∷ rest) e2 n2
capture_runs {e = e} {n = n} {e2 = e2} {n2 = n2} {c = c} {rest = rest} (captures_copy {s = s} {k = k} {l = l} p v b m) r =
    let x = spawn_kind e k l p.becomes in
    capture_as c s false p.is.named (found_at p.is ∙ ap not v)
    (c_copy (Some c.name) (record { there = slot_below e c.name s p.is.named; is = p.is.is ∙ ap (λ q. found (whole q)) x.1; copied = ap copies (sym x.1) ∙ v })
    (subst (λ (q : Kind). RunCaptures e (captured_slot c q ∷ n) rest e2 n2) x.2 r))
capture_runs {e = e} {n = n} {e2 = e2} {n2 = n2} {c = c} {rest = rest} (captures_move {s = s} {k = k} {l = l} p v b m) r =
    let x = spawn_kind e k l p.becomes in
    capture_as c s true p.is.named (found_at p.is ∙ ap not v)
    (c_move (Some c.name) (record { there = slot_below e c.name s p.is.named; is = p.is.is ∙ ap (λ q. found (whole q)) x.1; moved = ap copies (sym x.1) ∙ v; free = b; own_path = refl; after = ap (λ q. put_at e (place_of (spot_of c) s) (gone q)) x.1 })
    (subst (λ (q : Kind). RunCaptures (put_at e (place_of (spot_of c) s) (gone k)) (captured_slot c q ∷ n) rest e2 n2) x.2 r))

-- all captures
captures_run : {e n e1 n1 : Env} {cs : List Captured} → CapturesAll by_spawn e n cs e1 n1 → RunCaptures e n (captures by_spawn e n cs) e1 n1
captures_run captures_none = c_none
captures_run (captures_next {e = e} {n = n} {e1 = e1} {n1 = n1} {e2 = e2} {n2 = n2} {c = c} {cs = cs} h hs) =
    let left : env_left by_spawn e n c ≡ e1 = ap env_after (capture_by (λ e1 n1. typed (own unit) e1) h) in
    let new : env_new by_spawn e n c ≡ n1 = ap env_after (capture_by (λ e1 n1. typed (own unit) n1) h) in
    capture_runs h (subst (λ (f : Env). RunCaptures e1 n1 (captures by_spawn f (env_new by_spawn e n c) cs) e2 n2) (sym left) (subst (λ (f : Env). RunCaptures e1 n1 (captures by_spawn e1 f cs) e2 n2) (sym new) (captures_run hs)))

mutual
  -- a typed term of the source resolves to a typed running term
  pub resolve_runs : (forms : Forms) (t : Term) {e e1 : Env} {k : Kind} → HasForms forms t → Types e t k e1 → RunTypes forms e None (resolve t e) k e1
  resolve_runs forms (number_t at n) a types_number = t_number
  resolve_runs forms (unit_t at) a types_unit = t_unit
  resolve_runs forms (read_t at w) a (types_copy f c b) = copy_runs f c
  resolve_runs forms (read_t at w) a (types_move f c b o) = move_runs f c b o
  resolve_runs forms (borrow_t at w) a (types_borrow f) = borrow_runs f
  resolve_runs forms (borrow_mut_t at w) a (types_borrow_mut f o) = borrow_mut_runs f o
  resolve_runs forms (box_t at t) a (types_box y f) = t_box (resolve_runs forms t a y)
  resolve_runs forms (print_t at t) a (types_print {e = e} {e1 = e1} {k = k} y i) = t_print (subst (λ (l : Kind). RunTypes forms e None (resolve t e) l e1) (int_is k i) (resolve_runs forms t a y))
  resolve_runs forms (arith_t at f x y) a (types_arith {e = e} {e1 = e1} {e2 = e2} {k = k} {l = l} t i u j) =
      let left : RunTypes forms e None (resolve x e) (own int) e1 = subst (λ (q : Kind). RunTypes forms e None (resolve x e) q e1) (int_is k i) (resolve_runs forms x a.0 t) in
      let right : RunTypes forms e1 None (resolve y (env_after (typing x e))) (own int) e2 = subst (λ (g : Env). RunTypes forms e1 None (resolve y g) (own int) e2) (sym (env_is t)) (subst (λ (q : Kind). RunTypes forms e1 None (resolve y e1) q e2) (int_is l j) (resolve_runs forms y a.1 u)) in
      arith_by f (resolve x e) (resolve y (env_after (typing x e))) refl left right (done (resolve x e) left)
  resolve_runs forms (let_t at x t) a (types_let y n) = t_let (Some x) (resolve_runs forms t a y)
  resolve_runs forms (assign_t at w t) a (types_assign {e = e} {e1 = e1} {k = k} {s = s} y f o kept shape out) =
      subst (λ (g : Env). RunTypes forms e None (assign (named g w) (resolve t e)) (own unit) (set_through e1 (place_of w s) k)) (sym (env_is y)) (assign_as e1 w s f.named (t_assign (resolve_runs forms t a y) (assigns k f o kept shape out)))
  resolve_runs forms (block_t at ts) a (types_block {e = e} {e1 = e1} {k = k} y n) =
      let q = block_runs ts e _ e1 (resolve_parts forms ts a y) in
      let l = lets_add_items forms a y in
      let d : length e1 - length e ≡ lets ts = omega (numbers, l) in
      let long = length-drop (length e1 - length e) e1 in
      let same : length (drop (length e1 - length e) e1) ≡ length e = omega (numbers, l, long) in
      t_block q (subst (λ (m : ℕ). Falls (lets ts) e1 (drop m e1)) (sym d) (falls_to (lets ts) e1 (omega (numbers, l)))) (subst (λ (m : ℕ). AreBelow m (kind_places k)) (sym same) (names_below (length e) k n))
  resolve_runs one_thread (join_t at t) ok y = absurd ok.0
  resolve_runs threads (join_t at t) ok (types_join y) = t_join (resolve_runs threads t ok.1 y)
  resolve_runs forms (mutex_t at t) ok y = absurd ok
  resolve_runs forms (dup_t at w) ok y = absurd ok
  resolve_runs forms (lock_t at w x t) ok y = absurd ok
  resolve_runs one_thread (spawn_t at cs t) ok y = absurd ok.0
  resolve_runs threads (spawn_t at cs t) ok (types_spawn {e = e} {n = n} {n1 = n1} {o = o} c y f) =
      let body : RunTypes threads n None (resolve t n) (own o) n1 = resolve_runs threads t ok.1 y in
      let l = (length_captures c).1 in
      let m = lets_add threads ok.1 y in
      let count = length cs + lets_in t in
      let none : drop count n1 ≡ [] = drop_all count n1 (omega (numbers, l, m)) in
      let ends : RunTypes threads n None (block count (last_p (resolve t n))) (own o) [] = t_block (p_last body) (subst (Falls count n1) none (falls_to count n1 (omega (numbers, l, m)))) tt in
      let same : env_of_all by_spawn e cs ≡ n = ap env_after (capture_all_by (λ e1 n1. typed (own unit) n1) c) in
      t_spawn (captures_run c) (subst (λ (g : Env). RunTypes threads n None (block count (last_p (resolve t g))) (own o) []) (sym same) ends)
  resolve_runs forms (par_t at cs t ds u) ok y = absurd ok

  -- and typed items to typed parts
  resolve_parts : (forms : Forms) (ts : Items) {e e1 : Env} {k k1 : Kind} {at last1 : ℕ} → HaveForms forms ts → TypesItems e ts k at k1 last1 e1 → ItemsRun forms ts e k k1 e1
  resolve_parts forms none a types_none = (refl, refl)
  resolve_parts forms (item t ts) a (types_item y z) = joins ts _ _ _ _ (resolve_runs forms t a.0 y) (resolve_parts forms ts a.1 z) (env_is y)
