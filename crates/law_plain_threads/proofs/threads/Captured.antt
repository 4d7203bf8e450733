-- A thread that is awake, with its task at hand, has given a new one the value of a slot: the state is typed again.
use Rattle.std.proofs.Common.{◌≡◌, ◌≢◌, inl, ◌∙◌, ℕ, ◌<◌, ◌≤◌, Bool, false, List, [], ◌∷◌, length, Some, None, refl, sym, ap, subst, arith}
use Rattle.fr_typing.specs.Kinds.{Owned, Kind, own, whole}
use Rattle.fr_typing.specs.Places.{Slot, Env, write_blocked}
use Rattle.fr_store.specs.Keys.{Key, slot_k}
use Rattle.fr_store.specs.Store.{Place}
use Rattle.fr_store.specs.Typed.{owns, refers, KeyTypes, Unnamed}
use Rattle.fr_store.specs.Below.{tree_of, ExactOf}
use Rattle.fr_store.specs.Thread.{ThreadTyped}
use Rattle.fr_store.proofs.ThreadKept.{exact_owned, unnamed_key}
use Rattle.fr_plain.specs.declared.value.Value.{Value}
use Rattle.fr_plain.specs.PlainState.{Running, PlainState}
use Rattle.fr_sound.specs.Entries.{Entry, going}
use Rattle.fr_sound.specs.States.{Typing, env_at, is_hidden}
use Rattle.law_plain_values.specs.acts.Positions.{Position, PositionTypes}
use Rattle.law_plain_values.proofs.acts.OneThread.{store, typing_with}
use Rattle.law_plain_values.proofs.acts.Focus.{top_some, hand_at, Focus}
use Rattle.law_plain_values.proofs.acts.Hand.{At}
use Rattle.law_plain_values.proofs.acts.Rethread.{rethread}
use Rattle.law_plain_threads.proofs.threads.Passed.{Passes}
use Rattle.law_plain_threads.proofs.threads.TwoTurn.{SlotsTurn, two_typed}
use Rattle.law_plain_threads.proofs.threads.Given.{Giver, Given, off_temp, new_turn}

module _ {y : Typing} {a : PlainState Position} {t : ℕ} {x : Running Position} {e : Env} {us : List Kind} {g k : Owned} (at : At y a t x e (own k ∷ us) g) (fc : Focus y a t e us (Some (own k))) where
  full : y.exact (hand_at t us) ≡ owns (tree_of k)
  full = exact_owned (slot_k t) y.exact k (y.exact (hand_at t us)) fc.thread.temp

  -- a variable that isn't write blocked is lent to nobody
  pub awake_free : (i : ℕ) → write_blocked e i ≡ false → Unnamed y.exact (slot_k t i)
  awake_free i free = unnamed_key (slot_k t) y.rank (hand_at t us) e y.exact (store y a) (Some (own k)) fc.keys fc.thread i free (λ m z q. let d : owns (tree_of k) ≡ refers m z = sym full ∙ q in absurd cc)

module _ {y : Typing} {a : PlainState Position} {t u : ℕ} {x xu : Running Position} {e n : Env} {us : List Kind} {g gu k : Owned} (at : At y a t x e (own k ∷ us) g) (fc : Focus y a t e us (Some (own k))) where
  pub awake_giver : At y a u xu n [] gu → Focus y a u n [] None → u ≢ t → Giver y a t u x xu e n gu
  awake_giver new fu differ =
      let r = at.state.threads t x at.runs in
      let is : r.entry ≡ going e (own k ∷ us) g = sym r.known ∙ at.entry in
      record {
        state = at.state;
        runs = at.runs;
        new = new;
        focus = fu;
        differ = differ;
        nested = fc.thread.nested;
        slots = fc.thread.slots;
        above = fc.thread.above;
        many = r.all_slots ∙ ap (λ (z : Entry). length z.env) is;
        hidden = λ i. ap (λ (z : Entry). is_hidden (env_at z.env i)) (sym is) ∙ r.hidden i;
      }

  module _ {a2 : PlainState Position} {e2 : Env} {sl : List Value} {s : Slot} {v : Value} {i : ℕ} {E2 : KeyTypes} (f : Giver y a t u x xu e n gu)
      (passes : Passes a a2 t u x (record { place = record { entry = going e2 (own k ∷ us) g; temps = x.place.temps }; slots = sl }) xu (record { place = record { entry = going (s ∷ n) [] gu; temps = xu.place.temps }; slots = v ∷ xu.slots }) i (length n)) (c : Given y a a2 t u x xu e e2 n sl s v E2)
      (refs : (j : Key) (b : Bool) (z : Place) → E2 j ≡ refers b z → y.exact j ≡ refers b z) where
    thread : ThreadTyped (slot_k t) y.rank (hand_at t us) e2 E2 (store (typing_with y E2 y.marks) a2) (Some (own k))
    thread = rethread fc.thread (record {
      typed = c.typed;
      nested = c.nested;
      slots = c.below;
      above = λ b le. c.above b (subst (λ z. z ≤ b) c.long le);
      temp = subst (ExactOf (slot_k t) E2 (whole (own k))) (sym (off_temp f c t (length us) ∙ full at fc)) refl;
      names = tt;
      over = λ b il. fc.thread.over b (subst (λ z. b < z) c.long il);
      stood = λ b q z r. inl (refs b q z r);
    })

    turn : SlotsTurn y a a2 t x (record { place = record { entry = going e2 (own k ∷ us) g; temps = x.place.temps }; slots = sl }) e e2 (own k ∷ us) us (Some (own k)) g E2
    turn = record {
      at = at;
      focus = fc;
      now = passes.now;
      tops = top_some;
      idle = λ q. cc;
      entry = refl;
      temps = refl;
      slots = c.slots ∙ sym c.long;
      long = let q = c.long in omega (arith, q);
      thread = thread;
      hidden = c.hidden;
      marked = c.marked;
      still = c.still;
      content = c.content;
    }

    pub given_typed : PositionTypes (typing_with y E2 y.marks) a2
    given_typed = two_typed turn (new_turn f c passes.now_new) passes.others passes.pairs refs (λ j ft fu. c.off j (fu (length n)) ft) c.held c.carried passes.mutexes passes.given passes.objects passes.made
