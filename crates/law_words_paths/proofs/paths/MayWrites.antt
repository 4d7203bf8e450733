-- What typing lets an instruction write is a place that the thread may write.
use Rattle.std.proofs.Common.{◌≡◌, ◌≢◌, ◌⊎◌, inl, inr, ℕ, zero, suc, ◌<◌, ◌&&◌, ◌||◌, not, nat_le, Bool, true, false, if◌then◌else◌, List, [], ◌∷◌, length, Some, refl, sym, ap, subst, ◌∙◌, arith}
use Rattle.std.specs.List.{list_all, list_any}
use Rattle.std.proofs.lemmas.Bool.Decides.{nat_tests}
use Rattle.coherent_types.specs.Below.fr_base.declared.name.MutexNo.{MutexNo}
use Rattle.coherent_types.specs.Below.fr_base.declared.place.Lval.{Lval}
use Rattle.coherent_types.specs.Below.fr_base.declared.instruction.Operand.{Operand}
use Rattle.coherent_types.specs.Below.fr_base.declared.instruction.Instr.{Instr}
use Rattle.coherent_types.specs.Below.fr_base.declared.instruction.Instr.TheVariants as instr
use Rattle.coherent_types.proofs.Below.fr_typing.PlaceLemmas.{eq_cases}
use Rattle.coherent_types.specs.Below.fr_typing.Kinds.{Kind, own, shared, mutable, view, Piece, whole, gone, boxed}
use Rattle.coherent_types.specs.Below.fr_typing.Places.{Env, found, type_at, alike, stars, write_blocked, on_path, is_lent, is_mutable, is_writable, is_own_path}
use Rattle.coherent_types.specs.Below.fr_typing.Checks.{is_int, names_from}
use Rattle.coherent_types.specs.Below.fr_store.Keys.{slot_k}
use Rattle.coherent_types.specs.Below.fr_store.Store.{Place as StorePlace}
use Rattle.coherent_types.specs.Below.fr_store.Typed.{hole, owns, refers, KeyTypes}
use Rattle.coherent_types.specs.Below.fr_store.Below.{In, OneOf, Seen, ExactOf, RefOf}
use Rattle.coherent_types.specs.Below.fr_store.Thread.{TempIs, ThreadTyped}
use Rattle.coherent_types.proofs.Below.fr_store.Below.{mut_place, resolved_writable}
use Rattle.coherent_types.proofs.Below.fr_store.ThreadKept.{unnamed_key}
use Rattle.coherent_types.specs.Below.fr_sound.States.{IsThread, hand_key, hand_kind}
use Rattle.coherent_types.specs.Below.fr_code.CodeTypes.{Entry, Table, Takes, takes_const, takes_unit, takes_pop, wait, HasType, is_variable, InstrTypes, i_assign, i_move, i_borrow_mut}
use Rattle.coherent_types.specs.Below.fr_code.CodeTable.{Leads, to_next, ends, Successors}
use Rattle.coherent_types.specs.Below.thread_state.declared.value.Value.TheVariants as value
use Rattle.coherent_types.specs.Below.server_model.Servers.{Cluster}
use Rattle.coherent_types.specs.Below.coherent_memory.Follow.{Standing}
use Rattle.coherent_types.specs.Below.coherent_memory.Sight.{sight}
use Rattle.coherent_types.specs.Below.coherent_memory.Walking.{instr_of}
use Rattle.coherent_types.specs.Names.{NameTypes}
use Rattle.coherent_types.specs.ClusterTypes.{has_form, slot_form}
use Rattle.law_words_paths.proofs.paths.Sole.{some_is}
use Rattle.law_words_paths.specs.paths.HeapStore.{heap_store, GoesOn, IsUnmarked, HasPaths}
use Rattle.law_words_paths.specs.paths.Pointing.{MayWrite, WritesTo, assigns, moves, lends, MayWriteThere}
use Rattle.law_words_paths.proofs.paths.Forms.{running_typed, slot_part, names}

-- WHAT THE ROWS OF THE TYPING GRANT

-- the value on top is of a type that names this slot or a later one
abbrev pub top_names : ℕ → List Kind → Bool
top_names n [] = false
top_names n (k ∷ ks) = names_from n k

record IsGranted (x : Entry) (w : Lval) : Type 0 where
  awake : x.forked ≡ false
  type : Piece
  has : HasType x.env w (found type)
  free : write_blocked x.env w.slot ≡ false
  writable : is_writable x.env w ≡ true
  top : top_names w.slot x.temps ≡ false

int_names : (n : ℕ) (k : Kind) → is_int k ≡ true → names_from n k ≡ false
int_names n (own o) e = refl
int_names n (shared us) e = absurd cc
int_names n (mutable us) e = absurd cc
int_names n (view o) e = refl

pub and_first : (a b : Bool) → a && b ≡ true → a ≡ true
and_first true b e = refl
and_first false b e = absurd cc

pub wait_names : (n : ℕ) (ts : List Kind) → wait ts ≡ true → top_names n ts ≡ false
wait_names n [] e = refl
wait_names n (k ∷ ts) e = int_names n k (and_first (is_int k) (list_all is_int ts) e)

takes_names : (n : ℕ) (o : Operand) (ts us : List Kind) (k : Kind) → Takes o ts k us → names_from n k ≡ false → top_names n ts ≡ false
takes_names n _ ts _ _ (takes_const w) e = wait_names n ts w
takes_names n _ ts _ _ (takes_unit w) e = wait_names n ts w
takes_names n _ _ _ _ (takes_pop w) e = e

-- an own path is over boxes alone, so it may be written
lent_less : (e : Env) (x n : ℕ) → on_path (λ f. is_lent f || is_mutable f) e x n ≡ false → on_path is_lent e x n ≡ false
lent_less e x zero h = refl
lent_less e x (suc n) h = by (on_path (λ f. is_lent f || is_mutable f) e x n) (is_lent (type_at e (record { slot = x; depth = n }))) (is_mutable (type_at e (record { slot = x; depth = n }))) (lent_less e x n) h refl
  where
    by : (a b d : Bool) → (a ≡ false → on_path is_lent e x n ≡ false) → a || (b || d) ≡ false → is_lent (type_at e (record { slot = x; depth = n })) ≡ b → on_path is_lent e x n || is_lent (type_at e (record { slot = x; depth = n })) ≡ false
    by true b d go q r = absurd cc
    by false true d go q r = absurd cc
    by false false d go q r = rw (go refl) r

pub negated : (b : Bool) → not b ≡ true → b ≡ false
negated true e = absurd cc
negated false e = refl

own_is_writable : (e : Env) (w : Lval) → is_own_path e w ≡ true → is_writable e w ≡ true
own_is_writable e w h = ap not (lent_less e w.slot w.depth (negated (on_path (λ f. is_lent f || is_mutable f) e w.slot w.depth) h))

granted_assign : (table : Table) (x y : Entry) (w : Lval) (o : Operand) → InstrTypes table x (instr.Assign w o) y → IsGranted x w
granted_assign table _ _ w o (i_assign {ts = ts} {us = us} {k = k} {p = p} takes has opens kept shape below) =
    record { awake = refl; type = p; has = has; free = opens.free; writable = opens.path; top = takes_names w.slot o ts us k takes below }

granted_move : (table : Table) (x y : Entry) (w : Lval) → InstrTypes table x (instr.Read w true) y → IsGranted x w
granted_move table _ _ w (i_move {e = e} {ts = ts} {k = k} waits has moved free own_path) =
    record { awake = refl; type = whole k; has = has; free = free; writable = own_is_writable e w own_path; top = wait_names w.slot ts waits }

granted_lend : (table : Table) (x y : Entry) (w : Lval) → InstrTypes table x (instr.BorrowMut w) y → IsGranted x w
granted_lend table _ _ w (i_borrow_mut {ts = ts} {k = k} waits has opens) =
    record { awake = refl; type = whole k; has = has; free = opens.free; writable = opens.path; top = wait_names w.slot ts waits }

granted : (table : Table) (x y : Entry) (i : Instr) (w : Lval) → InstrTypes table x i y → WritesTo i w → IsGranted x w
granted table x y _ _ typed (assigns {w = w} {o = o}) = granted_assign table x y w o typed
granted table x y _ _ typed (moves {w = w}) = granted_move table x y w typed
granted table x y _ _ typed (lends {w = w}) = granted_lend table x y w typed

granted_at : (table : Table) (pc : ℕ) (x : Entry) (i : Instr) (ss : Successors) (w : Lval) → Leads table pc x i ss → WritesTo i w → IsGranted x w
granted_at table pc x i _ w (to_next {y = y} typed) writes = granted table x y i w typed writes
granted_at table pc _ _ _ w (ends takes) writes = elim writes [ ]

-- THE VALUE ON TOP NAMES NO SUCH SLOT

none_from : (n : ℕ) (us : List Lval) (u : Lval) → list_any (λ (v : Lval). nat_le n v.slot) us ≡ false → In u us → u.slot < n
none_from n [] u e h = absurd h
none_from n (v ∷ us) u e h = by (nat_le n v.slot) refl e h (none_from n us u)
  where
    by : (b : Bool) → nat_le n v.slot ≡ b → b || list_any (λ (v : Lval). nat_le n v.slot) us ≡ false → (u ≡ v) ⊎ In u us → (list_any (λ (v : Lval). nat_le n v.slot) us ≡ false → In u us → u.slot < n) → u.slot < n
    by true r f i go = absurd cc
    by false r f (inl q) go = subst (λ (z : Lval). z.slot < n) (sym q) (grind (arith, nat_tests, r))
    by false r f (inr i) go = go f i

slot_keys_differ : (t i j : ℕ) → slot_k t i ≡ slot_k t j → i ≡ j
slot_keys_differ t i j e = cc

one_below : (t n : ℕ) (us : List Lval) (u : StorePlace) → list_any (λ (v : Lval). nat_le n v.slot) us ≡ false → OneOf (slot_k t) us u → u.key ≢ slot_k t n
one_below t n us u e o = λ (z : u.key ≡ slot_k t n).
    let same : o.place.slot ≡ n = slot_keys_differ t o.place.slot n (sym (ap (λ (y : StorePlace). y.key) o.is) ∙ z) in
    omega (arith, same, none_from n us o.place e o.among)

pub top_free : (t n : ℕ) (E : KeyTypes) (ts : List Kind) → TempIs (slot_k t) E (hand_key t ts) (hand_kind ts) → top_names n ts ≡ false → (m : Bool) (u : StorePlace) → E (hand_key t ts) ≡ refers m u → u.key ≢ slot_k t n
top_free t n E [] is e m u q = let z : owns hole ≡ refers m u = sym is ∙ q in absurd cc
top_free t n E (k ∷ ts) is e m u q = by k e (subst (ExactOf (slot_k t) E (whole k)) q is)
  where
    by : (k : Kind) → names_from n k ≡ false → RefOf (slot_k t) E (whole k) m u → u.key ≢ slot_k t n
    by (own o) f r = absurd r
    by (shared us) f r = one_below t n us u f r.1
    by (mutable us) f r = one_below t n us u f r.1
    by (view o) f r = let s : Seen (slot_k t) E o u = r.1 in s.foreign n

-- a place that has a type starts at a slot that is there
pub slot_there : (e : Env) (w : Lval) (q : Piece) → type_at e w ≡ found q → w.slot < length e
slot_there [] w q h = absurd cc
slot_there (s ∷ e) w q h = eq_cases (λ b. (if b then stars (alike e) (type_at e) w.depth s.part else type_at e w) ≡ found q → w.slot < suc (length e)) w.slot (length e) (λ same f. omega (arith, same)) (λ ne f. omega (arith, slot_there e w q f)) h

-- no variable is a mark
pub no_mark : (n : NameTypes) (p : Piece) (m : MutexNo) → has_form n p (value.Held m) ≡ true → ⊥
no_mark n (whole (own o)) m e = absurd cc
no_mark n (whole (shared us)) m e = absurd cc
no_mark n (whole (mutable us)) m e = absurd cc
no_mark n (whole (view o)) m e = absurd cc
no_mark n (gone k) m e = absurd cc
no_mark n (boxed p) m e = absurd cc

-- WHAT TYPING LETS AN INSTRUCTION WRITE MAY BE WRITTEN

module _ (k : Cluster) (c : HasPaths k) (x : Standing) (g : GoesOn k x) where
  abbrev n : ℕ
  n = x.thread.number

  abbrev E : KeyTypes
  E = c.types.typing.exact

  abbrev entry : Entry
  entry = (running_typed k c x g).entry

  pub awake_thread : entry.forked ≡ false → ThreadTyped (slot_k n) c.types.typing.rank (hand_key n entry.temps) entry.env E (heap_store k c.types) (hand_kind entry.temps)
  awake_thread e =
      subst (λ b. IsThread b (slot_k n) c.types.typing.rank (hand_key n entry.temps) entry.env E (heap_store k c.types) (hand_kind entry.temps)) e (running_typed k c x g).thread

  -- a variable is no mark
  pub variable_unmarked : (i : ℕ) → is_variable entry.env i ≡ true → IsUnmarked x i
  variable_unmarked i named m e =
      let q = slot_part k c x g i (value.Held m) e in
      let form : slot_form (names k c x g) q.slot true (value.Held m) ≡ true = subst (λ b. slot_form (names k c x g) q.slot b (value.Held m) ≡ true) (sym q.variable ∙ named) q.form in
      no_mark (names k c x g) q.slot.part m form

  may_write : (w : Lval) → IsGranted entry w → MayWrite k c.types x w
  may_write w may =
      let thread = awake_thread may.awake in
      let lt = slot_there entry.env w may.type may.has.is in
      let q = resolved_writable (slot_k n) E (mut_place c.types.typing.rank E (heap_store k c.types) c.types.state.typed) entry.env thread.nested thread.slots w may.type lt may.writable may.has.is in
      record {
        free = unnamed_key (slot_k n) c.types.typing.rank (hand_key n entry.temps) entry.env E (heap_store k c.types) (hand_kind entry.temps) (running_typed k c x g).keys thread w.slot may.free
            (top_free n w.slot E entry.temps thread.temp may.top);
        base = q.base;
        boxes = q.boxes;
        type = q.type;
        resolves = q.res;
        unmarked = variable_unmarked w.slot may.has.named;
      }

  pub may_write_there : (i : Instr) (w : Lval) → instr_of (sight k) x ≡ Some i → WritesTo i w → MayWrite k c.types x w
  may_write_there i w at writes =
      let row = c.types.is_table.rows x.thread.pc entry (running_typed k c x g).known in
      let same : row.instruction ≡ i = some_is (sym row.there ∙ at) in
      may_write w (granted_at c.types.table x.thread.pc entry i row.successors w (subst (λ z. Leads c.types.table x.thread.pc entry z row.successors) same row.leads) writes)

pub may_write_so : MayWriteThere
may_write_so = λ k c x i w g at writes. may_write_there k c x g i w at writes
