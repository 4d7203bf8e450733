-- A name that isn't in use, and ranks under which a thread's hand is above its slots and the keys of a new carrier are those of a thread.
use Rattle.std.proofs.Common.{◌≡◌, ◌≢◌, ◌⊎◌, inl, inr, ⊎_elim, ◌∙◌, ℕ, suc, ◌+◌, ◌<◌, ◌≤◌, true, List, [], ◌∷◌, length, Option, Some, None, refl, sym, ap, arith}
use Rattle.std.specs.Prelude.{if◌then◌else◌}
use Rattle.fr_base.specs.declared.label.Plain.{Plain}
use Rattle.fr_base.specs.declared.name.ObjNo.{ObjNo}
use Rattle.fr_base.specs.declared.name.MutexNo.{MutexNo}
use Rattle.fr_typing.specs.Kinds.{Owned, Kind, Piece}
use Rattle.fr_typing.specs.Places.{Env}
use Rattle.fr_typing.proofs.PlaceLemmas.{eq_cases}
use Rattle.fr_store.specs.Keys.{slot_k, temp_k}
use Rattle.fr_store.specs.Thread.{ThreadKeys}
use Rattle.fr_store.proofs.Keys.{decide_number}
use Rattle.fr_plain.specs.MachineThreads.{loose, Thread, Whole, thread_at}
use Rattle.fr_plain.specs.PlainState.{Running, PlainState, place_in, is_over_in, plain_state}
use Rattle.fr_sound.specs.States.{Typing}
use Rattle.fr_code.specs.CodeTypes.{wait}
use Rattle.law_plain_values.specs.acts.Positions.{Position, PositionTypes}
use Rattle.law_plain_values.proofs.acts.Focus.{Tops, Focus, focus}
use Rattle.law_plain_values.proofs.acts.Hand.{At}
use Rattle.law_plain_values.proofs.acts.Raised.{raised, raised_typing, ranked_by}
use Rattle.law_plain_values.proofs.acts.Fresh.{lifted_slots, lifted_keys, lifted_typed}
use Rattle.law_plain_values.proofs.acts.Threads.{pairs_by, objects_counted}
use Rattle.law_plain_values.specs.drops.Drops.{carries, with_carrier}
use Rattle.law_plain_values.proofs.drops.Beside.{carrier_at, carrier_off, carrier_here, carrier_other}

-- A FRESH NAME

abbrev pub above : List (Thread Position) → ℕ
above [] = 0
above (t ∷ ts) = suc t.number + above ts

not_above : (ts : List (Thread Position)) (n : ℕ) → above ts ≤ n → thread_at ts n ≡ None
not_above [] n le = refl
not_above (t ∷ ts) n le = eq_cases (λ b. (if b then Some t else thread_at ts n) ≡ None) t.number n (λ e. absurd (omega (arith, e, le))) (λ ne. not_above ts n (omega (arith, le)))

abbrev pub name_for : Whole Position → ℕ
name_for s = above s.threads

pub name_free : (s : Whole Position) → thread_at s.threads (name_for s) ≡ None
name_free s = not_above s.threads (above s.threads) (omega arith)

-- A STATE BESIDE A CARRIER

pub record IsBeside (a a2 : PlainState Position) (u : ℕ) (p : Piece) (g : Owned) (v : Plain) : Type 0 where
  pub here : a2.thread u ≡ Some (loose (carries p g v))
  pub others : (n : ℕ) → n ≢ u → a2.thread n ≡ a.thread n
  pub pairs : (n : ℕ) → a2.pair n ≡ a.pair n
  pub mutexes : (m : MutexNo) → a2.mutex m ≡ a.mutex m
  pub given : (m : MutexNo) → a2.is_given m ≡ a.is_given m
  pub objects : (o : ObjNo) → a2.object o ≡ a.object o
  pub made : (o : ObjNo) (w : Plain) (z : Running Position) → a2.object o ≡ Some w → place_in (a2.thread o.thread) ≡ Some z → o.count < a2.made o.thread

pub beside : (s : Whole Position) (u : ℕ) (p : Piece) (g : Owned) (v : Plain) → thread_at s.threads u ≡ None → IsBeside (plain_state s) (plain_state (with_carrier s u p g v)) u p g v
beside s u p g v none = record {
  here = carrier_here s u p g v;
  others = carrier_other s u p g v;
  pairs = pairs_by s (with_carrier s u p g v) refl (λ n. ⊎_elim (λ (e : n ≡ u). ap (λ z. is_over_in (thread_at (with_carrier s u p g v).threads z)) e ∙ ap is_over_in (carrier_at s u p g v) ∙ sym (ap is_over_in none) ∙ ap (λ z. is_over_in (thread_at s.threads z)) (sym e)) (λ (ne : n ≢ u). ap is_over_in (carrier_off s u p g v n ne)) (decide_number n u));
  mutexes = λ m. refl;
  given = λ m. refl;
  objects = λ o. refl;
  made = objects_counted (with_carrier s u p g v);
}

-- RANKS

module _ {y : Typing} {a : PlainState Position} {t : ℕ} {x : Running Position} {e : Env} {ts : List Kind} {g : Owned} (h : At y a t x e ts g) (u : ℕ) (none : a.thread u ≡ None) where
  abbrev pub lifted : Typing
  lifted = ranked_by (lifted_slots 0 u y.rank) y

  abbrev pub high : ℕ
  high = suc ((ranked_by (lifted_slots 0 u y.rank) y).rank (slot_k t (length e)) + (ranked_by (lifted_slots 0 u y.rank) y).rank (slot_k u 0))

  abbrev pub prepared : Typing
  prepared = raised_typing (suc ((ranked_by (lifted_slots 0 u y.rank) y).rank (slot_k t (length e)) + (ranked_by (lifted_slots 0 u y.rank) y).rank (slot_k u 0))) (ranked_by (lifted_slots 0 u y.rank) y)

  state_lifted : PositionTypes (ranked_by (lifted_slots 0 u y.rank) y) a
  state_lifted = lifted_typed 0 y a h.state u none

  pub prepared_at : At (raised_typing (suc ((ranked_by (lifted_slots 0 u y.rank) y).rank (slot_k t (length e)) + (ranked_by (lifted_slots 0 u y.rank) y).rank (slot_k u 0))) (ranked_by (lifted_slots 0 u y.rank) y)) a t x e ts g
  prepared_at = record { state = raised high lifted a state_lifted; runs = h.runs; entry = h.entry }

  rise : (i : ℕ) → i ≤ length e → lifted.rank (slot_k t i) ≤ lifted.rank (slot_k t (length e))
  rise i le = by (decide_number i (length e))
    where
      by : (i ≡ length e) ⊎ (i ≢ length e) → lifted.rank (slot_k t i) ≤ lifted.rank (slot_k t (length e))
      by (inl q) = let f = ap (λ b. lifted.rank (slot_k t b)) q in omega (arith, f)
      by (inr ne) = let f = (state_lifted.threads t x h.runs).keys.ranks i (length e) (omega (arith, le, ne)) in omega (arith, f)

  low : (i n : ℕ) → i ≤ length e → prepared.rank (slot_k t i) < prepared.rank (temp_k t n)
  low i n le = let f = rise i le in omega (arith, f)

  pub prepared_focus : (us : List Kind) (o : Option Kind) → Tops us o ts → (o ≡ None → wait us ≡ true) → Focus (raised_typing (suc ((ranked_by (lifted_slots 0 u y.rank) y).rank (slot_k t (length e)) + (ranked_by (lifted_slots 0 u y.rank) y).rank (slot_k u 0))) (ranked_by (lifted_slots 0 u y.rank) y)) a t e us o
  prepared_focus us o tops w = focus prepared a t x e ts g prepared_at.state h.runs h.entry low us o tops w

  pub prepared_keys : ThreadKeys (slot_k u) (raised_typing (suc ((ranked_by (lifted_slots 0 u y.rank) y).rank (slot_k t (length e)) + (ranked_by (lifted_slots 0 u y.rank) y).rank (slot_k u 0))) (ranked_by (lifted_slots 0 u y.rank) y)).rank (temp_k u 0)
  prepared_keys = record { differ = λ i j q. cc; off = λ i q. absurd cc; ranks = λ i j l. (lifted_keys 0 u 0 y.rank).ranks i j l }

  pub prepared_over : (raised_typing (suc ((ranked_by (lifted_slots 0 u y.rank) y).rank (slot_k t (length e)) + (ranked_by (lifted_slots 0 u y.rank) y).rank (slot_k u 0))) (ranked_by (lifted_slots 0 u y.rank) y)).rank (slot_k u 0)
      < (raised_typing (suc ((ranked_by (lifted_slots 0 u y.rank) y).rank (slot_k t (length e)) + (ranked_by (lifted_slots 0 u y.rank) y).rank (slot_k u 0))) (ranked_by (lifted_slots 0 u y.rank) y)).rank (temp_k u 0)
  prepared_over = omega arith
