-- The type of the result of a thread that isn't there yet may be any.
use Rattle.std.specs.Prelude.{◌==◌, if◌then◌else◌}
use Rattle.std.proofs.Common.{◌≡◌, ◌≢◌, ⊎_elim, ℕ, true, false, List, [], ◌∷◌, length, Option, Some, None, refl, sym, ap, ◌∙◌, subst}
use Rattle.fr_plain.specs.Below.fr_base.declared.label.Plain.{Plain}
use Rattle.fr_plain.specs.Below.fr_base.declared.label.Plain.TheVariants as plain
use Rattle.fr_plain.specs.Below.fr_typing.Kinds.{Owned, Kind, own}
use Rattle.fr_plain.specs.Below.fr_typing.Places.{Env}
use Rattle.fr_plain.proofs.Below.fr_typing.PlaceLemmas.{eq_cases}
use Rattle.fr_store.specs.Keys.{slot_k, temp_k, content_k, result_k, hand_k}
use Rattle.fr_store.specs.Store.{Alike, Val, task_v, at_key, at_object}
use Rattle.fr_store.specs.ListState.{slot_value}
use Rattle.fr_store.specs.Typed.{Tree, Typed, owns}
use Rattle.fr_store.specs.Below.{tree_of}
use Rattle.fr_store.proofs.Keys.{decide_number}
use Rattle.fr_store.proofs.Rows.{same_store}
use Rattle.fr_store.proofs.OtherThreads.{alike_row}
use Rattle.fr_plain.specs.declared.value.Value.{Value}
use Rattle.fr_plain.specs.declared.value.Value.TheVariants.{Own, ToSlot, ToObject, Held}
use Rattle.fr_plain.specs.Heap.{cell_at}
use Rattle.fr_plain.specs.Run.{Run, Life, alive, over, owing, loose, ended}
use Rattle.fr_plain.specs.Threads.{result_of_life}
use Rattle.fr_plain.specs.Whole.{Thread, Whole, thread_at}
use Rattle.fr_sound.specs.RunTypes.{threads, RunTypes}
use Rattle.fr_sound.specs.Seen.{Gives, owned_val, val_of, vals, hand_of, seen_cell, rank_of, IsKnown, AreKnown, HasNone}
use Rattle.fr_sound.specs.Together.{held_life, slot_in, hand_in, result_val, seen_all, owed_by, owed_in, IsRunning, IsTypedIn, AreTyped}
use Rattle.fr_sound.proofs.Known.{known_alike}
use Rattle.fr_sound.proofs.SeenLemmas.{length_vals}
use Rattle.fr_sound.proofs.Unfocus.{TypesLife}
use Rattle.fr_sound.proofs.OwnStep.{Wraps}

-- thread u gives a result of that type
abbrev pub with_gives : Gives → ℕ → Owned → Gives
with_gives g u o = record g { result = λ t. if t == u then o else g.result t }

pub gives_there : (g : Gives) (u : ℕ) (o : Owned) → (with_gives g u o).result u ≡ o
gives_there g u o = eq_cases (λ b. (if b then o else g.result u) ≡ o) u u (λ _. refl) (λ ne. absurd (ne refl))

pub gives_other : (g : Gives) (u : ℕ) (o : Owned) (t : ℕ) → t ≢ u → (with_gives g u o).result t ≡ g.result t
gives_other g u o t ne = eq_cases (λ b. (if b then o else g.result t) ≡ g.result t) t u (λ e. absurd (ne e)) (λ _. refl)

-- a life is typed with the same type for its thread
pub types_same : (g g2 : Gives) (t : ℕ) (l : Life) (e : Env) (o : Option Kind) → g2.result t ≡ g.result t → TypesLife g t l e o → TypesLife g2 t l e o
types_same g g2 t (alive r) e o same types = types
types_same g g2 t over e o same types = tt
types_same g g2 t (owing r) e o same types = subst (λ (q : Owned). RunTypes threads e o r (own q) []) (sym same) types
types_same g g2 t (loose r) e o same types = types
types_same g g2 t (ended v) e o same types = types

module _ (g : Gives) (u : ℕ) (o : Owned) where
  -- the value is no task of the thread
  abbrev NotIts : Val → Type 0
  NotIts v = (r : Tree) → v ≡ task_v u r → ⊥

  -- such a value is seen as it was
  owned_same : (p : Plain) → NotIts (owned_val g p) → owned_val (with_gives g u o) p ≡ owned_val g p
  owned_same plain.Nothing f = refl
  owned_same plain.Unit f = refl
  owned_same (plain.Int n) f = refl
  owned_same (plain.Box q) f = refl
  owned_same (plain.Mutex m) f = refl
  owned_same (plain.Task t) f = ⊎_elim (λ (e : t ≡ u). absurd (f (tree_of (g.result t)) (ap (λ n. task_v n (tree_of (g.result t))) e))) (λ (ne : t ≢ u). ap (λ q. task_v t (tree_of q)) (gives_other g u o t ne)) (decide_number t u)

  value_same : (t : ℕ) (v : Value) → NotIts (val_of g t v) → val_of (with_gives g u o) t v ≡ val_of g t v
  value_same t (Own p) f = owned_same p f
  value_same t (ToSlot i) f = refl
  value_same t (ToObject q) f = refl
  value_same t (Held q) f = refl

  some_same : (t : ℕ) (v : Option Value) → NotIts (hand_of g t v) → hand_of (with_gives g u o) t v ≡ hand_of g t v
  some_same t None f = refl
  some_same t (Some v) f = value_same t v f

  -- so is each slot
  slots_same : (t : ℕ) (vs : List Value) (i : ℕ) → NotIts (slot_value (vals g t vs) i) → slot_value (vals (with_gives g u o) t vs) i ≡ slot_value (vals g t vs) i
  slots_same t [] i f = refl
  slots_same t (v ∷ vs) i f =
      let l : length (vals (with_gives g u o) t vs) ≡ length (vals g t vs) = length_vals (with_gives g u o) t vs ∙ sym (length_vals g t vs) in
      ap (λ n. if i == n then val_of (with_gives g u o) t v else slot_value (vals (with_gives g u o) t vs) i) l
      ∙ eq_cases (λ b. NotIts (if b then val_of g t v else slot_value (vals g t vs) i) → (if b then val_of (with_gives g u o) t v else slot_value (vals (with_gives g u o) t vs) i) ≡ (if b then val_of g t v else slot_value (vals g t vs) i)) i (length (vals g t vs))
      (λ _ h. value_same t v h) (λ _ h. slots_same t vs i h) f

-- the task of a thread that isn't there is nowhere
pub nobody_has : {s : Whole} (y : AreTyped s) (u : ℕ) → thread_at s.threads u ≡ None → HasNone u (seen_all y.gives s)
nobody_has {s = s} y u new l r e = let k : owed_in s.threads u ≡ true = y.known.each l (task_v u r) e in let f : false ≡ true = sym (ap owed_by new) ∙ k in cc

-- the same values are seen
pub given_alike : {s : Whole} (y : AreTyped s) (u : ℕ) (o : Owned) → thread_at s.threads u ≡ None → Alike (seen_all y.gives s) (seen_all (with_gives y.gives u o) s)
given_alike {s = s} y u o new (at_object q) = by (cell_at s.heap q) (λ r e. nobody_has y u new (at_object q) r e)
  where
    by : (c : Option Plain) → ((r : Tree) → seen_cell y.gives c ≡ Some (task_v u r) → ⊥) → seen_cell (with_gives y.gives u o) c ≡ seen_cell y.gives c
    by None f = refl
    by (Some p) f = ap Some (owned_same y.gives u o p (λ r e. f r (ap Some e)))
given_alike {s = s} y u o new (at_key (slot_k t i)) = ap Some (by (thread_at s.threads t) (λ r e. nobody_has y u new (at_key (slot_k t i)) r (ap Some e)))
  where
    by : (x : Option Thread) → ((r : Tree) → slot_in y.gives t x i ≡ task_v u r → ⊥) → slot_in (with_gives y.gives u o) t x i ≡ slot_in y.gives t x i
    by None f = refl
    by (Some x) f = slots_same y.gives u o t x.slots i f
given_alike y u o new (at_key (temp_k t n)) = refl
given_alike y u o new (at_key (content_k t n)) = refl
given_alike {s = s} y u o new (at_key (result_k t)) = ap Some (by (thread_at s.threads t) (λ r e. nobody_has y u new (at_key (result_k t)) r (ap Some e)))
  where
    by : (x : Option Thread) → ((r : Tree) → result_val y.gives t x ≡ task_v u r → ⊥) → result_val (with_gives y.gives u o) t x ≡ result_val y.gives t x
    by None f = refl
    by (Some x) f = some_same y.gives u o t (result_of_life x.life) f
given_alike {s = s} y u o new (at_key (hand_k t)) = ap Some (by (thread_at s.threads t) (λ r e. nobody_has y u new (at_key (hand_k t)) r (ap Some e)))
  where
    by : (x : Option Thread) → ((r : Tree) → hand_in y.gives t x ≡ task_v u r → ⊥) → hand_in (with_gives y.gives u o) t x ≡ hand_in y.gives t x
    by None f = refl
    by (Some x) f = some_same y.gives u o t (held_life x.life) f

-- a running term stays typed
abbrev pub given_running : {s : Whole} (y : AreTyped s) (u : ℕ) (o : Owned) → thread_at s.threads u ≡ None → {t : ℕ} {slots : List Value} {r : Run} {k : Kind} → IsRunning y.gives y.high y.types (seen_all y.gives s) t slots r k → IsRunning (with_gives y.gives u o) y.high y.types (seen_all (with_gives y.gives u o) s) t slots r k
given_running {s = s} y u o new {t = t} z = record {
  env = z.env;
  temp = z.temp;
  types = z.types;
  thread = (alike_row (slot_k t) (rank_of y.high) (hand_k t) z.env y.types (seen_all y.gives s) (seen_all (with_gives y.gives u o) s) z.temp (given_alike y u o new)).0 z.thread;
  long = z.long;
  low = z.low;
}

pub given_typed : {s : Whole} (y : AreTyped s) (u : ℕ) (o : Owned) → thread_at s.threads u ≡ None → Typed (rank_of y.high) y.types (seen_all (with_gives y.gives u o) s)
given_typed {s = s} y u o new = same_store (rank_of y.high) y.types y.types (seen_all y.gives s) (seen_all (with_gives y.gives u o) s) y.typed (λ k. refl) (given_alike y u o new)

pub given_known : {s : Whole} (y : AreTyped s) (u : ℕ) (o : Owned) → thread_at s.threads u ≡ None → AreKnown (IsKnown (owed_in s.threads) s.heap) (seen_all (with_gives y.gives u o) s)
given_known {s = s} y u o new = known_alike (IsKnown (owed_in s.threads) s.heap) tt (seen_all y.gives s) (seen_all (with_gives y.gives u o) s) y.known (given_alike y u o new)

pub given_each : {s : Whole} (y : AreTyped s) (u : ℕ) (o : Owned) → thread_at s.threads u ≡ None → (t : ℕ) (x : Thread) → thread_at s.threads t ≡ Some x → IsTypedIn (with_gives y.gives u o) y.high y.types (seen_all (with_gives y.gives u o) s) t x.slots x.life
given_each {s = s} y u o new t x found = by x.life (y.each t x found)
  where
    same : (with_gives y.gives u o).result t ≡ y.gives.result t
    same = gives_other y.gives u o t (λ e. let f : None ≡ Some x = sym new ∙ ap (thread_at s.threads) (sym e) ∙ found in cc)

    by : (l : Life) → IsTypedIn y.gives y.high y.types (seen_all y.gives s) t x.slots l → IsTypedIn (with_gives y.gives u o) y.high y.types (seen_all (with_gives y.gives u o) s) t x.slots l
    by (alive r) z = (z.0, given_running y u o new z.1)
    by over z = tt
    by (owing r) z = subst (λ (q : Owned). IsRunning (with_gives y.gives u o) y.high y.types (seen_all (with_gives y.gives u o) s) t x.slots r (own q)) (sym same) (given_running y u o new z)
    by (loose r) z = (z.0, given_running y u o new z.1)
    by (ended v) z = z ∙ ap (λ q. owns (tree_of q)) (sym same)

-- a typed state with another type for the result of a thread that isn't there
abbrev pub given : {s : Whole} (y : AreTyped s) (u : ℕ) (o : Owned) → thread_at s.threads u ≡ None → AreTyped s
given {s = s} y u o new = record {
  gives = with_gives y.gives u o;
  high = y.high;
  types = y.types;
  typed = given_typed y u o new;
  local = y.local;
  known = given_known y u o new;
  each = given_each y u o new;
  neither = y.neither;
}

-- and a life wraps its term as before
pub given_wraps : (g : Gives) (u : ℕ) (o : Owned) (t : ℕ) (k : Kind) (l : Life) (r : Run) (wrap : Run → Life) → t ≢ u → Wraps g t k l r wrap → Wraps (with_gives g u o) t k l r wrap
given_wraps g u o t k l r wrap ne w = record {
  held_now = w.held_now;
  result_now = w.result_now;
  moves = w.moves;
  held_then = w.held_then;
  result_then = w.result_then;
  owed_then = w.owed_then;
  types_then = λ e q p types. types_same g (with_gives g u o) t _ e q (gives_other g u o t ne) (w.types_then e q p types);
}
