-- The code of a typed term is a typed line, form by form.
use Rattle.std.proofs.Common.{◌≡◌, ℕ, zero, suc, ◌+◌, true, false, not, List, [], ◌∷◌, length, Some, refl, sym, ap, ap₂, ◌∙◌, subst, arith}
use Rattle.std.specs.Prelude.{⊤, ◌&&◌, slice_get}
use Rattle.std.specs.List.{list_all}
use Rattle.fr_base.specs.declared.place.Lval.{Lval}
use Rattle.fr_base.specs.declared.instruction.Operand.{Operand}
use Rattle.fr_base.specs.declared.instruction.Operand.TheVariants as operand
use Rattle.fr_base.specs.declared.instruction.Instr.{Instr}
use Rattle.fr_base.specs.declared.instruction.Instr.TheVariants as instr
use Rattle.fr_terms.specs.Terms.{Text, Captured, Spot, Term, block_t, let_t, assign_t, read_t, number_t, unit_t, box_t, print_t, borrow_t, borrow_mut_t, arith_t, join_t, mutex_t, dup_t, lock_t, spawn_t, par_t, Items, none, item}
use Rattle.fr_terms.specs.Limits.{IsShort, HasShortPlaces, HaveShortPlaces}
use Rattle.fr_typing.specs.Kinds.{Owned, unit, int, box, mutex, task, Kind, own, shared, mutable, view, whole}
use Rattle.fr_typing.specs.Places.{Env, Found, found}
use Rattle.fr_typing.specs.Checks.{place_of, is_int, is_unit, is_owned, names_from, keep, with_lock, has_content}
use Rattle.fr_typing.specs.Finding.{env_after, Has}
use Rattle.fr_typing.specs.Captures.{by_par, env_left_by_all, env_of_all, CapturesBoth}
use Rattle.fr_typing.specs.Typing.{typing, Types, types_number, types_unit, types_copy, types_move, types_borrow, types_borrow_mut, types_box, types_mutex, types_arith, types_print, types_let, types_assign, types_block, types_join, types_dup, types_lock, types_spawn, types_par, TypesItems, types_none, types_item}
use Rattle.fr_plain.specs.Run.{Run}
use Rattle.fr_plain.specs.Resolve.{named, lets_in, body_of, dropping, env_locked, captures, resolve, resolve_items}
use Rattle.fr_code.specs.CodeTypes.{going, HasType, Table, wait, is_locked, Takes, InstrTypes, i_let, i_assign, i_copy, i_move, i_borrow, i_borrow_mut, i_box, i_arith, i_print, i_discard, i_spawn, i_join, i_mutex, i_dup, i_lock, i_unlock, i_par, i_par_end}
use Rattle.fr_code.specs.StandsFor.{operand_of, operand_of_last, Discards, DropsAt, Ends, Unlocks, At, AtParts}
use Rattle.law_plain_table.specs.Layout.{bodies_of}
use Rattle.law_plain_table.proofs.Grown.{variable, like_none, lock_left, Grown, old, old_like, keep_old, by_count, grown_on, grown_open, captured_grown, grown, grown_items}
use Rattle.law_plain_table.proofs.Lines.{Start, Threads, no_thread, a_thread, Line, then_line, one_with, one, none_more, push, gives_const, gives_unit, gives_pop, taken, Emits}
use Rattle.law_plain_table.proofs.Falling.{and_both, value_outlives, falls}
use Rattle.law_plain_table.proofs.Captured.{named_is, moves_is, after_is, slots_pass, new_is, left_is}

-- KINDS

int_is : (k : Kind) → is_int k ≡ true → k ≡ own int
int_is (own int) h = refl
int_is (own unit) h = cc
int_is (own (box x)) h = cc
int_is (own (mutex x)) h = cc
int_is (own (task x)) h = cc
int_is (shared us) h = cc
int_is (mutable us) h = cc
int_is (view x) h = cc

unit_is : (k : Kind) → is_unit k ≡ true → k ≡ own unit
unit_is (own unit) h = refl
unit_is (own int) h = cc
unit_is (own (box x)) h = cc
unit_is (own (mutex x)) h = cc
unit_is (own (task x)) h = cc
unit_is (shared us) h = cc
unit_is (mutable us) h = cc
unit_is (view x) h = cc

-- one more integer waits
push_waits : (o : Operand) (ts : List Kind) → wait ts ≡ true → wait (push o (own int) ts) ≡ true
push_waits operand.Pop ts w = w
push_waits (operand.Const n) ts w = w
push_waits operand.Unit ts w = w

-- PLACES

-- a place that is written short has its type
has_type : {e : Env} {w : Spot} {s : ℕ} {f : Found} → IsShort w → Has e w s f → HasType e (place_of w s) f
has_type {e = e} {w = w} {s = s} short h = record { named = variable e w.name s h.named; short = short; is = h.is }

module _ (code : List Instr) where
  -- VALUES THAT NEED ONE INSTRUCTION

  -- an instruction that leaves a temporary value
  loud : {p q : ℕ} {e f : Env} {ts : List Kind} {g : Owned} {k : Kind} (i : Instr) → slice_get code p ≡ Some i → bodies_of i ≡ [] → ((table : Table) → InstrTypes table (going e ts g) i (going f (k ∷ ts) g)) → q ≡ p + 1 → Emits code p e ts g q f operand.Pop k
  loud i at bare types e = record { line = one i at bare types e; value = gives_pop }

  -- one behind a value, which it takes
  loud_next : {p q : ℕ} {e f h : Env} {ts : List Kind} {g : Owned} {k l : Kind} {o : Operand} (m : ℕ) (i : Instr) → Emits code p e ts g m f o k → wait ts ≡ true → slice_get code m ≡ Some i → bodies_of i ≡ []
      → ((table : Table) → Takes o (push o k ts) k ts → InstrTypes table (going f (push o k ts) g) i (going h (l ∷ ts) g)) → q ≡ m + 1 → Emits code p e ts g q h operand.Pop l
  loud_next {ts = ts} m i v w at bare types e = record { line = then_line v.line (one i at bare (λ table. types table (taken ts v.value w)) e); value = gives_pop }

  -- or one that leaves unit
  quiet_next : {p q : ℕ} {e f h : Env} {ts : List Kind} {g : Owned} {k : Kind} {o : Operand} (m : ℕ) (i : Instr) → Emits code p e ts g m f o k → wait ts ≡ true → slice_get code m ≡ Some i → bodies_of i ≡ []
      → ((table : Table) → Takes o (push o k ts) k ts → InstrTypes table (going f (push o k ts) g) i (going h ts g)) → q ≡ m + 1 → Emits code p e ts g q h operand.Unit (own unit)
  quiet_next {ts = ts} m i v w at bare types e = record { line = then_line v.line (one i at bare (λ table. types table (taken ts v.value w)) e); value = gives_unit }

  -- a value before a `;` is given up
  discarded : {p : ℕ} {e f : Env} {ts : List Kind} {g : Owned} {k : Kind} (m n : ℕ) (o : Operand) → Emits code p e ts g m f o k → wait ts ≡ true → Discards code o m n → Line code p (going e ts g) n (going f ts g)
  discarded {ts = ts} m n operand.Pop v w d = then_line v.line (one instr.Discard d.0 refl (λ table. i_discard (taken ts v.value w)) d.1)
  discarded m n (operand.Const c) v w d = then_line v.line (none_more d)
  discarded m n operand.Unit v w d = then_line v.line (none_more d)

  -- THREADS

  -- the code of a new thread: its term, the slots that go, and its end
  thread : {n n1 : Env} {ss : List Start} (cs : List Captured) (t : Term) (r : Run) (o : Owned) (to e : ℕ) → Grown (length cs) [] n → Grown (lets_in t) n n1
      → ((m : ℕ) → At code to r m → Emits code to n [] o m n1 (operand_of r) (own o)) → At code to (body_of cs t r) e → Ends code e (operand_of (body_of cs t r)) → Threads code ss → Threads code (record { at = to; env = n; gives = o } ∷ ss)
  thread {n = n} {n1 = n1} cs t r o to e c g body h over rest =
      let v = body h.0 h.1 in
      let all : Grown (length cs + lets_in t) [] n1 = by_count (omega arith) (grown_on c g) in
      let down = falls code h.0 e (push (operand_of r) (own o) []) o all refl (value_outlives 0 (operand_of r) (own o) [] refl refl) h.2 in
      let line = then_line v.line (subst (λ f. Line code h.0 (going n1 (push (operand_of r) (own o) []) o) e (going f (push (operand_of r) (own o) []) o)) (like_none (old all) (old_like all)) down) in
      a_thread (record { at = to; env = n; gives = o }) e line over (taken [] v.value refl) rest

  -- LOCKS

  dropped : (n p q : ℕ) (r : Run) → At code p (dropping n r) q → (m : ℕ) × At code p r m × DropsAt code m n q
  dropped zero p q r h = (q, h, refl)
  dropped (suc n) p q r h = h

  dropped_operand : (n : ℕ) (r : Run) → operand_of (dropping n r) ≡ operand_of r
  dropped_operand zero r = refl
  dropped_operand (suc n) r = refl

  owned_names : (n : ℕ) (k : Kind) → is_owned k ≡ true → names_from n k ≡ false
  owned_names n (own o) h = refl
  owned_names n (view o) h = refl
  owned_names n (shared us) h = cc
  owned_names n (mutable us) h = cc

  int_owned : (k : Kind) → is_int k ≡ true → is_owned k ≡ true
  int_owned (own o) h = refl
  int_owned (shared us) h = cc
  int_owned (mutable us) h = cc
  int_owned (view o) h = cc

  all_owned : (ts : List Kind) → wait ts ≡ true → list_all is_owned ts ≡ true
  all_owned [] w = refl
  all_owned (k ∷ ts) w = let a = and_both (is_int k) (wait ts) w in ap (λ b. b && list_all is_owned ts) (int_owned k a.0) ∙ all_owned ts a.1

  pushed_owned : (o : Operand) (k : Kind) (ts : List Kind) → is_owned k ≡ true → wait ts ≡ true → list_all is_owned (push o k ts) ≡ true
  pushed_owned operand.Pop k ts i w = ap (λ b. b && list_all is_owned ts) i ∙ all_owned ts w
  pushed_owned (operand.Const n) k ts i w = all_owned ts w
  pushed_owned operand.Unit k ts i w = all_owned ts w

  locked_is : {e : Env} {w : Spot} {s : ℕ} {o : Owned} (x : Text) → Has e w s (found (whole (own (mutex o)))) → env_locked e w x ≡ with_lock e (place_of w s) x o
  locked_is x h = simp (h.named, h.is)

  -- a lock around a body
  lock_line : {e e1 : Env} {k : Kind} {o : Owned} (n : ℕ) (place : Lval) (x : Text) (r : Run) (p m q : ℕ) (ts : List Kind) (g : Owned) → Grown n (with_lock e place x o) e1 → is_owned k ≡ true → has_content (length e) e1 ≡ true → wait ts ≡ true
      → ((i : ℕ) → At code (p + 1) r i → Emits code (p + 1) (with_lock e place x o) ts g i e1 (operand_of r) k) → Line code p (going e ts g) (p + 1) (going (with_lock e place x o) ts g) → At code (p + 1) (dropping n r) m → Unlocks code m q
      → Emits code p e ts g q (keep (length e) e1) (operand_of (dropping n r)) k
  lock_line {e = e} {e1 = e1} {k = k} {o = o} n place x r p m q ts g grew owned content waits body first h u =
      let d = dropped n (p + 1) m r h in
      let v = body d.0 d.1 in
      let vs = push (operand_of r) k ts in
      let down = falls code d.0 m vs g grew refl (value_outlives (length (with_lock e place x o)) (operand_of r) k ts (owned_names (length (with_lock e place x o)) k owned) waits) d.2 in
      let both = subst (λ f. Line code d.0 (going e1 vs g) m (going f vs g)) (lock_left place x o grew content) down in
      let end = one instr.Unlock u.0 refl (λ table. i_unlock {w = place} {name = x} (pushed_owned (operand_of r) k ts owned waits)) u.1 in
      subst (λ z. Emits code p e ts g q (keep (length e) e1) z k) (sym (dropped_operand n r)) (record { line = then_line first (then_line v.line (then_line both end)); value = v.value })

  -- TERMS

  -- a block without items gives unit
  abbrev FirstUnit : Items → Kind → Type 0
  FirstUnit none k = k ≡ own unit
  FirstUnit (item t ts) k = ⊤

  first_unit : (us : Items) → FirstUnit us (own unit)
  first_unit none = refl
  first_unit (item t us) = tt

  as_int : {p q : ℕ} {e f : Env} {ts : List Kind} {g : Owned} {o : Operand} (k : Kind) → is_int k ≡ true → Emits code p e ts g q f o k → Emits code p e ts g q f o (own int)
  as_int {p = p} {q = q} {e = e} {f = f} {ts = ts} {g = g} {o = o} k i v = subst (λ z. Emits code p e ts g q f o z) (int_is k i) v

  as_unit : {p q : ℕ} {e f : Env} {ts : List Kind} {g : Owned} {o : Operand} (k : Kind) → is_unit k ≡ true → Emits code p e ts g q f o k → Emits code p e ts g q f o (own unit)
  as_unit {p = p} {q = q} {e = e} {f = f} {ts = ts} {g = g} {o = o} k i v = subst (λ z. Emits code p e ts g q f o z) (unit_is k i) v

  new_of_left : {e n m e2 : Env} {cs ds : List Captured} → CapturesBoth e cs ds n m e2 → env_of_all by_par (env_left_by_all by_par e cs) ds ≡ m
  new_of_left {ds = ds} c = ap (λ f. env_of_all by_par f ds) (left_is c.first) ∙ new_is c.second

  mutual
    -- the code of a typed term
    pub emits : (t : Term) {e e1 : Env} {k : Kind} → HasShortPlaces t → Types e t k e1 → is_locked e ≡ false → (p q : ℕ) (ts : List Kind) (g : Owned) → wait ts ≡ true → At code p (resolve t e) q → Emits code p e ts g q e1 (operand_of (resolve t e)) k
    emits (number_t at n) short types_number l p q ts g w h = record { line = none_more h; value = gives_const }
    emits (unit_t at) short types_unit l p q ts g w h = record { line = none_more h; value = gives_unit }
    emits (read_t at v) short (types_copy {e = e} {s = s} f c b) l p q ts g w h =
        loud (instr.Read (place_of v s) false) (h.0 ∙ ap₂ (λ z m. Some (instr.Read z m)) (named_is e v f.named) (moves_is f ∙ ap not c)) refl (λ table. i_copy w (has_type short f) c b) h.1
    emits (read_t at v) short (types_move {e = e} {s = s} f c b o) l p q ts g w h =
        loud (instr.Read (place_of v s) true) (h.0 ∙ ap₂ (λ z m. Some (instr.Read z m)) (named_is e v f.named) (moves_is f ∙ ap not c)) refl (λ table. i_move w (has_type short f) c b o) h.1
    emits (borrow_t at v) short (types_borrow {e = e} {s = s} f) l p q ts g w h =
        loud (instr.Borrow (place_of v s)) (h.0 ∙ ap (λ z. Some (instr.Borrow z)) (named_is e v f.is.named)) refl (λ table. i_borrow w (has_type short f.is) f.free) h.1
    emits (borrow_mut_t at v) short (types_borrow_mut {e = e} {s = s} f o) l p q ts g w h =
        loud (instr.BorrowMut (place_of v s)) (h.0 ∙ ap (λ z. Some (instr.BorrowMut z)) (named_is e v f.named)) refl (λ table. i_borrow_mut w (has_type short f) o) h.1
    emits (box_t at t) {e = e} short (types_box y f) l p q ts g w h = loud_next h.0 (instr.Box (operand_of (resolve t e))) (emits t short y l p h.0 ts g w h.1) w h.2 refl (λ table t. i_box t f) h.3
    emits (mutex_t at t) {e = e} short (types_mutex y f) l p q ts g w h = loud_next h.0 (instr.Mutex (operand_of (resolve t e))) (emits t short y l p h.0 ts g w h.1) w h.2 refl (λ table t. i_mutex t f) h.3
    emits (join_t at t) {e = e} short (types_join y) l p q ts g w h = loud_next h.0 (instr.Join (operand_of (resolve t e))) (emits t short y l p h.0 ts g w h.1) w h.2 refl (λ table t. i_join t) h.3
    emits (print_t at t) {e = e} short (types_print {k = k} y i) l p q ts g w h =
        quiet_next h.0 (instr.Print (operand_of (resolve t e))) (as_int k i (emits t short y l p h.0 ts g w h.1)) w h.2 refl (λ table t. i_print t) h.3
    emits (let_t at x t) {e = e} short (types_let y n) l p q ts g w h = quiet_next h.0 (instr.Let (operand_of (resolve t e))) (emits t short y l p h.0 ts g w h.1) w h.2 refl (λ table t. i_let x t n) h.3
    emits (assign_t at v t) {e = e} short (types_assign {e1 = e1} {s = s} y f o out shape low) l p q ts g w h =
        quiet_next h.0 (instr.Assign (place_of v s) (operand_of (resolve t e))) (emits t short.1 y l p h.0 ts g w h.1) w
        (h.2 ∙ ap (λ z. Some (instr.Assign z (operand_of (resolve t e)))) (ap (λ z. named z v) (after_is y) ∙ named_is e1 v f.named)) refl (λ table t. i_assign t (has_type short.0 f) o out shape low) h.3
    emits (arith_t at op a b) {e = e} short (types_arith {e1 = e1} {e2 = e2} {k = k} {l = j} y i z m) l p q ts g w h =
        let x = operand_of (resolve a e) in
        let left = as_int k i (emits a short.0 y l p h.0 ts g w h.2) in
        let right = subst (λ f. At code h.0 (resolve b f) h.1 → Emits code h.0 e1 (push x (own int) ts) g h.1 e2 (operand_of (resolve b f)) j) (sym (after_is y))
        (emits b short.1 z (grown_open (grown y) l) h.0 h.1 (push x (own int) ts) g (push_waits x ts w)) h.3 in
        let both = as_int j m right in
        record { line = then_line left.line (then_line both.line (one (instr.Arith op x (operand_of (resolve b (env_after (typing a e))))) h.4 refl (λ table. i_arith (taken (push x (own int) ts) both.value (push_waits x ts w)) (taken ts left.value w)) h.5)); value = gives_pop }
    emits (dup_t at v) short (types_dup {e = e} {s = s} f) l p q ts g w h =
        loud (instr.Dup (place_of v s)) (h.0 ∙ ap (λ z. Some (instr.Dup z)) (named_is e v f.is.named)) refl (λ table. i_dup w (has_type short f.is) f.free) h.1
    emits (block_t at us) {e = e} short (types_block {e1 = e1} {k = k} ys n) l p q ts g w h =
        let v = emits_items us short ys (first_unit us) l p h.0 ts g w h.1 in
        let vs = push (operand_of_last (resolve_items us e)) k ts in
        let down = falls code h.0 q vs g (grown_items ys) l (value_outlives (length e) (operand_of_last (resolve_items us e)) k ts n w) h.2 in
        record { line = then_line v.line (subst (λ f. Line code h.0 (going e1 vs g) q (going f vs g)) (sym (keep_old (grown_items ys))) down); value = v.value }
    emits (lock_t at v x b) {e = e} short (types_lock {e1 = e1} {s = s} {o = o} {k = k} f n y i c) l p q ts g w h =
        subst (λ z. At code (p + 1) (dropping (lets_in b) (resolve b z)) h.0 → Emits code p e ts g q (keep (length e) e1) (operand_of (dropping (lets_in b) (resolve b z))) k) (sym (locked_is x f.is))
        (λ in_body. lock_line (lets_in b) (place_of v s) x (resolve b (with_lock e (place_of v s) x o)) p h.0 q ts g (grown y) i c w (λ m. emits b short.1 y refl (p + 1) m ts g w)
        (one (instr.Lock (place_of v s)) (h.1 ∙ ap (λ z. Some (instr.Lock z)) (named_is e v f.is.named)) refl (λ table. i_lock x w (has_type short.0 f.is) f.free n) refl) in_body h.3) h.2
    emits (spawn_t at cs b) {e = e} short (types_spawn {e1 = e1} {n = n} {n1 = n1} {o = o} c y f) l p q ts g w h =
        let made = subst (λ z. At code h.1 (body_of cs b (resolve b z)) h.2 → Ends code h.2 (operand_of (body_of cs b (resolve b z))) → Threads code (record { at = h.1; env = n; gives = o } ∷ [])) (sym (new_is c))
        (λ at over. thread cs b (resolve b n) o h.1 h.2 (captured_grown c) (grown y) (λ m. emits b short y (grown_open (captured_grown c) refl) h.1 m [] o refl) at over no_thread) h.6 h.7 in
        record { line = one_with (instr.Spawn h.0 h.1) (record { at = h.1; env = n; gives = o } ∷ []) h.3 refl (λ table s. i_spawn w (slots_pass h.0.items c h.4) s.0 f) made h.5; value = gives_pop }
    emits (par_t at cs a ds b) {e = e} short (types_par {e2 = e2} {n = n} {n1 = n1} {m = m} {m1 = m1} {k = k} {l = j} c y z i i2) l p q ts g w h =
        let pair = h.4 in
        let second = subst (λ r. At code h.2 (body_of ds b (resolve b r)) h.3 → Ends code h.3 (operand_of (body_of ds b (resolve b r))) → Threads code (record { at = h.2; env = m; gives = unit } ∷ [])) (sym (new_of_left c))
        (λ at over. thread ds b (resolve b m) unit h.2 h.3 (captured_grown c.second) (grown z) (λ r at. let v : Emits code h.2 m [] unit r m1 (operand_of (resolve b m)) j = emits b short.1 z (grown_open (captured_grown c.second) refl) h.2 r [] unit refl at in as_unit j i2 v) at over no_thread) h.8 h.9 in
        let both = subst (λ r. At code h.0 (body_of cs a (resolve a r)) h.1 → Ends code h.1 (operand_of (body_of cs a (resolve a r))) → Threads code (record { at = h.0; env = n; gives = unit } ∷ record { at = h.2; env = m; gives = unit } ∷ [])) (sym (new_is c.first))
        (λ at over. thread cs a (resolve a n) unit h.0 h.1 (captured_grown c.first) (grown y) (λ r at. let v : Emits code h.0 n [] unit r n1 (operand_of (resolve a n)) k = emits a short.0 y (grown_open (captured_grown c.first) refl) h.0 r [] unit refl at in as_unit k i v) at over second) h.5 h.6 in
        let starts = one_with (instr.Par pair.ours h.0 pair.theirs h.2) (record { at = h.0; env = n; gives = unit } ∷ record { at = h.2; env = m; gives = unit } ∷ []) pair.starts refl
        (λ table s. i_par w (slots_pass pair.ours.items c.first pair.captures) (slots_pass pair.theirs.items c.second (pair.others ∙ ap (λ f. captures by_par f [] ds) (left_is c.first))) s.0 s.1.0) both refl in
        record { line = then_line starts (one instr.ParEnd pair.waits refl (λ table. i_par_end) pair.next); value = gives_unit }

    -- the code of typed items
    pub emits_items : (us : Items) {e e1 : Env} {k k1 : Kind} {last last1 : ℕ} → HaveShortPlaces us → TypesItems e us k last k1 last1 e1 → FirstUnit us k → is_locked e ≡ false → (p q : ℕ) (ts : List Kind) (g : Owned) → wait ts ≡ true → AtParts code p (resolve_items us e) q
        → Emits code p e ts g q e1 (operand_of_last (resolve_items us e)) k1
    emits_items none {e = e} short types_none first l p q ts g w h = subst (λ z. Emits code p e ts g q e operand.Unit z) (sym first) (record { line = none_more h; value = gives_unit })
    emits_items (item t none) short (types_item y types_none) first l p q ts g w h = emits t short.0 y l p q ts g w h
    emits_items (item t (item u us)) {e = e} {e1 = e1} {k1 = k1} short (types_item y z) first l p q ts g w h =
        subst (λ r. AtParts code h.1 (resolve_items (item u us) r) q → Emits code p e ts g q e1 (operand_of_last (resolve_items (item u us) r)) k1) (sym (after_is y))
        (λ others. let v = emits_items (item u us) short.1 z tt (grown_open (grown y) l) h.1 q ts g w others in
        record { line = then_line (discarded h.0 h.1 (operand_of (resolve t e)) (emits t short.0 y l p h.0 ts g w h.2) w h.3) v.line; value = v.value }) h.4
