-- What the row of its instruction says of the references of a thread before its step.
use Rattle.std.proofs.Common.{◌≡◌, ℕ, zero, suc, not, ◌&&◌, ◌||◌, Bool, true, false, List, ◌∷◌, Some, refl, sym, ap, subst, ◌∙◌, arith}
use Rattle.std.specs.Prelude.{slice_get, nat_lt}
use Rattle.std.proofs.lemmas.Bool.Decides.{nat_tests}
use Rattle.law_types_events.specs.Below.fr_base.declared.place.Lval.{Lval}
use Rattle.law_types_events.specs.Below.fr_base.declared.instruction.Instr.{Instr}
use Rattle.law_types_events.specs.Below.fr_base.declared.instruction.Operand.{Operand}
use Rattle.law_types_events.specs.Below.fr_typing.Kinds.{Owned as OwnedType, Kind, own, shared, mutable, view, Piece, whole, gone, boxed}
use Rattle.law_types_events.specs.Below.fr_typing.Places.{Env, Found, found, type_at, is_lent, is_mutable, on_path, is_own_path}
use Rattle.law_types_events.specs.Below.fr_typing.Checks.{is_int, is_kept_out}
use Rattle.law_types_events.specs.Below.fr_store.Keys.{slot_k, temp_k}
use Rattle.law_types_events.specs.Below.fr_store.Store.{Place as StorePlace}
use Rattle.law_types_events.specs.Below.fr_store.Typed.{refers, KeyTypes}
use Rattle.law_types_events.specs.Below.fr_store.Below.{RefOf}
use Rattle.law_types_events.specs.Below.fr_code.CodeTypes.{Entry, Table, wait, Takes, takes_const, takes_unit, takes_pop, InstrTypes, i_let, i_assign, i_copy, i_move, i_borrow, i_borrow_mut, i_box, i_arith, i_print, i_discard, i_drop, i_spawn, i_join, i_mutex, i_dup, i_lock, i_unlock, i_par, i_par_end}
use Rattle.law_types_events.specs.Below.fr_code.CodeTable.{Leads, to_next, ends, Successors, Row}
use Rattle.law_types_events.specs.Below.law_plain_values.acts.Keeps.{OnReferences, rests, takes}
use Rattle.law_types_events.proofs.Below.law_plain_values.acts.Envs.{part_type}
use Rattle.law_types_events.specs.Below.server_model.Servers.{Cluster}
use Rattle.law_types_events.specs.Below.coherent_memory.Follow.{Standing}
use Rattle.law_types_events.specs.Below.coherent_memory.Sight.{sight}
use Rattle.law_types_events.specs.Below.coherent_types.ClusterTypes.{IsCoherent, astray_of, leads_wrong}
use Rattle.law_types_events.proofs.Below.law_words_paths.paths.Forms.{none_of}
use Rattle.law_types_events.proofs.Below.law_words_paths.paths.Sole.{some_is}
use Rattle.law_types_events.specs.Below.law_words_paths.paths.HeapStore.{GoesOn}
use Rattle.law_types_events.proofs.Below.law_types_still.heap.Following.{HasHeap}
use Rattle.law_types_events.proofs.Below.law_types_still.heap.Values.{running}
use Rattle.law_types_events.proofs.holders.Came.{on_of}
use Rattle.law_types_events.proofs.holders.Traced.{leads_right, Clears, Traces}
use Rattle.law_types_events.proofs.holders.Typed.{what, slot_within, slot_part, temp_top, temp_last, temp_refers}

-- ROWS

-- the value on top is owned
abbrev TopOwned : List Kind → Type 0
TopOwned ts = (q : Kind) (rest : List Kind) → ts ≡ q ∷ rest → (o : OwnedType) × (q ≡ own o)

and_first : (a b : Bool) → a && b ≡ true → a ≡ true
and_first true b e = refl
and_first false b e = absurd cc

int_owned : (q : Kind) → is_int q ≡ true → (o : OwnedType) × (q ≡ own o)
int_owned (own o) e = (o, refl)
int_owned (shared us) e = absurd cc
int_owned (mutable us) e = absurd cc
int_owned (view o) e = absurd cc

waits_owned : (ts : List Kind) → wait ts ≡ true → TopOwned ts
waits_owned ts w q rest e = int_owned q (and_first (is_int q) (wait rest) (subst (λ l. wait l ≡ true) e w))

no_star : (n : ℕ) → nat_lt 0 (suc n) ≡ false → ⊥
no_star n e = let z : nat_lt 0 (suc n) ≡ true = grind (arith, nat_tests) in let w : true ≡ false = sym z ∙ e in cc

kept_in : (q : Kind) (n : ℕ) → is_kept_out q (suc n) ≡ false → (o : OwnedType) × (q ≡ own o)
kept_in (own o) n e = (o, refl)
kept_in (shared us) n e = absurd (no_star n e)
kept_in (mutable us) n e = absurd (no_star n e)
kept_in (view o) n e = absurd (no_star n e)

kept_owned : {o : Operand} {ts us : List Kind} {k : Kind} (n : ℕ) → Takes o ts k us → is_kept_out k (suc n) ≡ false → TopOwned ts
kept_owned {ts = ts} n (takes_const w) kept q rest e = waits_owned ts w q rest e
kept_owned {ts = ts} n (takes_unit w) kept q rest e = waits_owned ts w q rest e
kept_owned n (takes_pop {k = k} w) kept q rest e = let same : k ≡ q = cc in subst (λ (a : Kind). (o : OwnedType) × (a ≡ own o)) same (kept_in k n kept)

-- where the act leaves no reference at hand there was none
clear_row : (table : Table) (x y : Entry) (i : Instr) → InstrTypes table x i y → Clears (on_of i) → TopOwned x.temps
clear_row table _ _ _ (i_let x t new) c = absurd c
clear_row table _ _ _ (i_assign {w = w} {k = k} t has may kept shape below) c = kept_owned c.0 t (subst (λ n. is_kept_out k n ≡ false) c.1 kept)
clear_row table _ _ _ (i_copy wa has twice free) c = absurd c
clear_row table _ _ _ (i_move {ts = ts} wa has once free path) c = waits_owned ts wa
clear_row table _ _ _ (i_borrow wa has free) c = absurd c
clear_row table _ _ _ (i_borrow_mut {ts = ts} wa has may) c = waits_owned ts wa
clear_row table _ _ _ (i_box t full) c = absurd c
clear_row table _ _ _ (i_arith t u) c = absurd c
clear_row table _ _ _ (i_print t) c = absurd c
clear_row table _ _ _ (i_discard t) c = absurd c
clear_row table _ _ _ (i_drop named locked lives) c = absurd c
clear_row table _ _ _ (i_spawn wa pass body full) c = absurd c
clear_row table _ _ _ (i_join t) c = absurd c
clear_row table _ _ _ (i_mutex t full) c = absurd c
clear_row table _ _ _ (i_dup wa has free) c = absurd c
clear_row table _ _ _ (i_lock name wa has free new) c = absurd c
clear_row table _ _ _ (i_unlock owned) c = absurd c
clear_row table _ _ _ (i_par wa a b one two) c = absurd c
clear_row table _ _ _ i_par_end c = absurd c

one_place : {p w : Lval} → takes p ≡ takes w → p ≡ w
one_place e = cc

no_take : (w : Lval) → rests ≡ takes w → ⊥
no_take w e = cc

-- a move goes over boxes alone
path_row : (table : Table) (x y : Entry) (i : Instr) → InstrTypes table x i y → (w : Lval) → on_of i ≡ takes w → is_own_path x.env w ≡ true
path_row table _ _ _ (i_let x t new) w e = absurd cc
path_row table _ _ _ (i_assign t has may kept shape below) w e = absurd cc
path_row table _ _ _ (i_copy wa has twice free) w e = absurd (no_take w e)
path_row table _ _ _ (i_move {e = env} wa has once free path) w e = subst (λ p. is_own_path env p ≡ true) (one_place e) path
path_row table _ _ _ (i_borrow wa has free) w e = absurd (no_take w e)
path_row table _ _ _ (i_borrow_mut wa has may) w e = absurd cc
path_row table _ _ _ (i_box t full) w e = absurd (no_take w e)
path_row table _ _ _ (i_arith t u) w e = absurd (no_take w e)
path_row table _ _ _ (i_print t) w e = absurd (no_take w e)
path_row table _ _ _ (i_discard t) w e = absurd (no_take w e)
path_row table _ _ _ (i_drop named locked lives) w e = absurd (no_take w e)
path_row table _ _ _ (i_spawn wa pass body full) w e = absurd (no_take w e)
path_row table _ _ _ (i_join t) w e = absurd (no_take w e)
path_row table _ _ _ (i_mutex t full) w e = absurd (no_take w e)
path_row table _ _ _ (i_dup wa has free) w e = absurd (no_take w e)
path_row table _ _ _ (i_lock name wa has free new) w e = absurd (no_take w e)
path_row table _ _ _ (i_unlock owned) w e = absurd (no_take w e)
path_row table _ _ _ (i_par wa a b one two) w e = absurd (no_take w e)
path_row table _ _ _ i_par_end w e = absurd (no_take w e)

-- PATHS

either_true : (a b : Bool) → a ≡ true → a || b ≡ true
either_true true b e = refl
either_true false b e = absurd cc

first_on_path : (test : Found → Bool) (e : Env) (x n : ℕ) → test (type_at e (record { slot = x; depth = 0 })) ≡ true → on_path test e x (suc n) ≡ true
first_on_path test e x zero h = h
first_on_path test e x (suc n) h = either_true (on_path test e x (suc n)) (test (type_at e (record { slot = x; depth = suc n }))) (first_on_path test e x n h)

reference_part : (key : ℕ → _) (E : KeyTypes) (p : Piece) (m : Bool) (u : StorePlace) → RefOf key E p m u → is_lent (found p) || is_mutable (found p) ≡ true
reference_part key E (whole (own o)) m u r = absurd r
reference_part key E (whole (shared us)) m u r = refl
reference_part key E (whole (mutable us)) m u r = refl
reference_part key E (whole (view o)) m u r = refl
reference_part key E (gone k) m u r = absurd r
reference_part key E (boxed p) m u r = absurd r

no_owned : (key : ℕ → _) (E : KeyTypes) (q : Kind) (o : OwnedType) (m : Bool) (u : StorePlace) → q ≡ own o → RefOf key E (whole q) m u → ⊥
no_owned key E q o m u e r = subst (λ a. RefOf key E (whole a) m u) e r

-- THE THREAD

-- that its row says so
record Said (on : OnReferences) (x : Entry) : Type 0 where
  clear : Clears on → TopOwned x.temps
  path : (w : Lval) → on ≡ takes w → is_own_path x.env w ≡ true

by_row : (table : Table) (pc : ℕ) (x : Entry) (i : Instr) (ss : Successors) → Leads table pc x i ss → Said (on_of i) x
by_row table pc x i _ (to_next {y = y} to) = record { clear = clear_row table x y i to; path = path_row table x y i to }
by_row table pc _ _ _ (ends t) = record { clear = λ c. absurd c; path = λ w e. absurd (no_take w e) }

module _ (k : Cluster) (co : IsCoherent k) (c : HasHeap k) (table : c.table ≡ co.types.table) (typing : c.typing.exact ≡ co.types.typing.exact) (x : Standing) (g : GoesOn k x) (i : Instr) (code : slice_get k.code x.thread.pc ≡ Some i) where
  abbrev t : ℕ
  t = x.thread.number

  abbrev E : KeyTypes
  E = c.typing.exact

  said : Said (on_of i) (what k c x g)
  said =
      let entry = what k c x g in
      let known : co.types.table x.thread.pc ≡ Some entry = sym (ap (λ (f : Table). f x.thread.pc) table) ∙ (running k c x g).known in
      let row : Row k.code co.types.table x.thread.pc entry = co.types.is_table.rows x.thread.pc entry known in
      let same : row.instruction ≡ i = some_is (sym row.there ∙ code) in
      by_row co.types.table x.thread.pc entry i row.successors (subst (λ j. Leads co.types.table x.thread.pc entry j row.successors) same row.leads)

  lead : astray_of E (sight k).ground x.thread ≡ 0
  lead = none_of (λ (w : Standing). astray_of E (sight k).ground w.thread) x (sight k).ground.threads (subst (λ e. leads_wrong e (sight k) ≡ 0) (sym typing) co.types.lead) g.among

  clears : Clears (on_of i) → (j : ℕ) (m : Bool) (u : StorePlace) → E (temp_k t j) ≡ refers m u → ⊥
  clears cl j m u e =
      let z = temp_top k c x g j m u e in
      let o = said.clear cl z.0 z.1 z.2 in
      no_owned (slot_k t) E z.0 o.0 m u o.1 z.4

  no_path : (b : Bool) → b ≡ true → not b ≡ true → ⊥
  no_path true e f = cc
  no_path false e f = cc

  over_boxes : (w : Lval) (n : ℕ) → on_of i ≡ takes w → w.depth ≡ suc n → (m : Bool) (u : StorePlace) → E (slot_k t w.slot) ≡ refers m u → ⊥
  over_boxes w n is d m u e =
      let env = (what k c x g).env in
      let test : Found → Bool = λ f. is_lent f || is_mutable f in
      let z = slot_part k c x g w.slot m u e in
      let first : test (type_at env (record { slot = w.slot; depth = 0 })) ≡ true = ap test (part_type env w.slot z.0 z.1) ∙ reference_part (slot_k t) E z.0.part m u z.2 in
      let all : on_path test env w.slot w.depth ≡ true = ap (on_path test env w.slot) d ∙ first_on_path test env w.slot n first in
      no_path (on_path test env w.slot w.depth) all (said.path w is)

  -- what is so of a thread that steps
  pub traces : Traces (on_of i) t E x.thread.slots x.thread.temps
  traces = record {
    slots = leads_right E t (slot_k t) (sight k).ground x.thread.slots (omega (arith, lead));
    temps = leads_right E t (temp_k t) (sight k).ground x.thread.temps (omega (arith, lead));
    within = slot_within k c x g;
    on_top = temp_last k c x g;
    typed = temp_refers k c x g;
    clear = clears;
    over_boxes = over_boxes;
  }
