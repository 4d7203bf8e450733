-- The carrier of a value that is dropped: what its typing tells, and what makes it typed.
use Rattle.std.proofs.Common.{◌≡◌, ◌≢◌, inl, ◌∙◌, ℕ, Bool, [], ◌∷◌, Some, None, refl, sym, ap, subst, arith}
use Rattle.std.specs.Prelude.{is_some, if◌then◌else◌}
use Rattle.fr_base.specs.declared.label.Plain.{Plain}
use Rattle.fr_base.specs.declared.label.Plain.TheVariants as plain
use Rattle.fr_base.specs.declared.name.MutexNo.{MutexNo}
use Rattle.fr_typing.specs.Kinds.{Owned, unit, int, box, mutex, task, own, shared, mutable, view, Piece, whole, gone, boxed}
use Rattle.fr_typing.specs.Places.{Slot, AreBelow, piece_places}
use Rattle.fr_typing.proofs.PlaceLemmas.{eq_cases}
use Rattle.fr_store.specs.Keys.{Key, slot_k, temp_k}
use Rattle.fr_store.specs.Store.{Location, gone_v, ref_v, Store, Place}
use Rattle.fr_store.specs.Typed.{Tree, box_tree, Exact, owns, refers, KeyTypes, Typed, Unnamed}
use Rattle.fr_store.specs.Below.{tree_of, TreeOf, ExactOf}
use Rattle.fr_store.specs.Thread.{ThreadKeys, ThreadTyped}
use Rattle.fr_store.proofs.Sound.{ref_at}
use Rattle.fr_store.proofs.ThreadKept.{last_unnamed}
use Rattle.fr_plain.specs.declared.value.Value.TheVariants.{Own, Held}
use Rattle.fr_plain.specs.State.{slot_at}
use Rattle.fr_plain.specs.MachineThreads.{loose}
use Rattle.fr_plain.specs.PlainState.{Running, PlainState, place_in}
use Rattle.fr_sound.specs.Entries.{Entry, going}
use Rattle.fr_sound.specs.Seen.{owned_val}
use Rattle.fr_sound.specs.States.{Typing, slot_val, temp_val, RunningTyped, IsThread, hand_key, hand_kind, env_at, is_hidden, is_held}
use Rattle.law_plain_values.specs.acts.Positions.{Position, Knows, temps_of, PositionTypes}
use Rattle.law_plain_values.proofs.acts.Lower.{seen_as, seen_is}
use Rattle.law_plain_values.proofs.acts.OneThread.{store, typing_with, RunningCore}
use Rattle.law_plain_values.proofs.acts.Focus.{temp_is}
use Rattle.law_plain_values.proofs.acts.Rethread.{rethread}
use Rattle.law_plain_values.proofs.acts.Threads.{no_pair}
use Rattle.law_plain_values.specs.drops.Drops.{carries}

abbrev pub slot_of_part : Piece → Slot
slot_of_part p = record { name = Some (0 ∷ []); part = p }

-- its slot and no other one has a value
pub in_first : (p : Piece) (g : Owned) (v : Plain) (i : ℕ) → i ≢ 0 → slot_at (carries p g v).slots i ≡ None
in_first p g v i ne = eq_cases (λ b. (if b then Some (Own v) else None) ≡ None) i 0 (λ e. absurd (ne e)) (λ z. refl)

pub no_mark : (p : Piece) (g : Owned) (v : Plain) (i : ℕ) (m : MutexNo) → slot_at (carries p g v).slots i ≡ Some (Held m) → ⊥
no_mark p g v i m = eq_cases (λ b. (if b then Some (Own v) else None) ≡ Some (Held m) → ⊥) i 0 (λ e h. cc) (λ z h. cc)

pub no_hidden : (p : Piece) (g : Owned) (v : Plain) (i : ℕ) → is_hidden (env_at (slot_of_part p ∷ []) i) ≡ is_held (slot_at (carries p g v).slots i)
no_hidden p g v i = eq_cases (λ b. is_hidden (if b then Some (slot_of_part p) else None) ≡ is_held (if b then Some (Own v) else None)) i 0 (λ e. refl) (λ z. refl)

-- the thread carries the value, and the state is typed
pub record Carries (y : Typing) (a : PlainState Position) (u : ℕ) (p : Piece) (v : Plain) : Type 0 where
  pub state : PositionTypes y a
  pub here : a.thread u ≡ Some (loose (carries p (y.gives.result u) v))

module _ {y : Typing} {a : PlainState Position} {u : ℕ} {p : Piece} {v : Plain} (c : Carries y a u p v) where
  abbrev h : Key
  h = slot_k u 0

  abbrev x : Running Position
  x = carries p (y.gives.result u) v

  abbrev s1 : Store
  s1 = store y a

  pub carrier_runs : place_in (a.thread u) ≡ Some (carries p (y.gives.result u) v)
  carrier_runs = ap place_in c.here

  run : RunningTyped Knows temps_of y s1 u (a.pair u) x
  run = c.state.threads u x carrier_runs

  e_is : run.entry ≡ going (slot_of_part p ∷ []) [] (y.gives.result u)
  e_is = sym run.known

  pub carrier_alone : a.pair u ≡ None
  carrier_alone = no_pair {e = slot_of_part p ∷ []} {ts = []} {g = y.gives.result u} (record { state = c.state; runs = carrier_runs; entry = refl })

  pub carrier_thread : ThreadTyped (slot_k u) y.rank (temp_k u 0) (slot_of_part p ∷ []) y.exact (store y a) None
  carrier_thread = subst (λ (z : Entry). IsThread z.forked (slot_k u) y.rank (hand_key u z.temps) z.env y.exact s1 (hand_kind z.temps)) e_is run.thread

  keys : ThreadKeys (slot_k u) y.rank (temp_k u 0)
  keys = subst (λ (z : Entry). ThreadKeys (slot_k u) y.rank (hand_key u z.temps)) e_is run.keys

  -- it has no mark
  pub carrier_unmarked : (z : Running Position) (i : ℕ) (m : MutexNo) → place_in (a.thread u) ≡ Some z → slot_at z.slots i ≡ Some (Held m) → ⊥
  carrier_unmarked z i m e f = let k : Some x ≡ Some z = sym carrier_runs ∙ e in let is : z ≡ x = cc in no_mark p (y.gives.result u) v i m (ap (λ (r : Running Position). slot_at r.slots i) (sym is) ∙ f)

  -- no type names the slot
  pub carrier_free : Unnamed y.exact (slot_k u 0)
  carrier_free = last_unnamed (slot_k u) y.rank (temp_k u 0) (slot_of_part p ∷ []) y.exact s1 None 0 0 keys carrier_thread tt (omega arith) (omega arith)

  pub carrier_value : (store y a).at (slot_k u 0) ≡ owned_val y.gives v
  carrier_value = ap (slot_val temps_of y u 0) carrier_runs ∙ seen_is temps_of y u 0 x

  pub carrier_slot : (i : ℕ) → i ≢ 0 → (store y a).at (slot_k u i) ≡ gone_v
  carrier_slot i ne = ap (slot_val temps_of y u i) carrier_runs ∙ seen_is temps_of y u i x ∙ ap (seen_as y.gives u (ref_v (y.marks u i))) (in_first p (y.gives.result u) v i ne)

  pub carrier_temp : (i : ℕ) → (store y a).at (temp_k u i) ≡ gone_v
  carrier_temp i = ap (temp_val temps_of y u i) carrier_runs ∙ temp_is y u i x

  -- it is owned
  pub carrier_tree : (t : Tree) × (y.exact (slot_k u 0) ≡ owns t) × TreeOf p t
  carrier_tree = by (y.exact h) refl
    where
      plain_value : (v : Plain) (l : Location) → owned_val y.gives v ≡ ref_v l → ⊥
      plain_value plain.Nothing l e = cc
      plain_value plain.Unit l e = cc
      plain_value (plain.Int n) l e = cc
      plain_value (plain.Box o) l e = cc
      plain_value (plain.Mutex m) l e = cc
      plain_value (plain.Task t) l e = cc

      by : (q : Exact) → y.exact h ≡ q → (t : Tree) × (y.exact h ≡ owns t) × TreeOf p t
      by (owns t) e = (t, e, subst (ExactOf (slot_k u) y.exact p) e carrier_thread.slots.0)
      by (refers m w) e = let r = ref_at y.rank y.exact s1 c.state.typed h m w e in absurd (plain_value v r.target (sym carrier_value ∙ r.is))

  -- THE CARRIER WITH ANOTHER VALUE

  module _ (a2 : PlainState Position) (E2 : KeyTypes) (q : Piece) (w : Plain) (t : Tree) where
    pub carrier_core : Typed y.rank E2 (store (typing_with y E2 y.marks) a2) → AreBelow 0 (piece_places q) → E2 (slot_k u 0) ≡ owns t → TreeOf q t → ((i : ℕ) → i ≢ 0 → E2 (slot_k u i) ≡ y.exact (slot_k u i)) → E2 (temp_k u 0) ≡ y.exact (temp_k u 0)
        → ((k : Key) (m : Bool) (z : Place) → E2 k ≡ refers m z → y.exact k ≡ refers m z) → a2.pair u ≡ a.pair u
        → RunningCore (typing_with y E2 y.marks) (store (typing_with y E2 y.marks) a2) u (a2.pair u) (carries q (y.gives.result u) w)
    carrier_core typed nested is tree slots temp refs pair = record {
      entry = going (slot_of_part q ∷ []) [] (y.gives.result u);
      known = refl;
      gives = refl;
      keys = keys;
      thread = rethread carrier_thread (record {
        typed = typed;
        nested = (nested, tt);
        slots = (subst (ExactOf (slot_k u) E2 q) (sym is) tree, tt);
        above = λ i le. slots i (λ z. omega (arith, le, z)) ∙ carrier_thread.above i le;
        temp = temp ∙ carrier_thread.temp;
        names = tt;
        over = carrier_thread.over;
        stood = λ k m z e. inl (refs k m z e);
      });
      waiting = λ i l. absurd (omega (arith, l));
      all_slots = refl;
      all_temps = refl;
      forks = ap is_some (sym (pair ∙ carrier_alone));
      hidden = no_hidden q (y.gives.result u) w;
      marked = λ i m e. absurd (no_mark q (y.gives.result u) w i m e);
    }

-- the part that is left of a box
pub under_box : (p : Piece) (t : Tree) → TreeOf p (box_tree t) → AreBelow 0 (piece_places p) → (q : Piece) × TreeOf q t × AreBelow 0 (piece_places q)
under_box (whole (own unit)) t e n = cc
under_box (whole (own int)) t e n = cc
under_box (whole (own (box o))) t e n = let f : t ≡ tree_of o = cc in (whole (own o), f, tt)
under_box (whole (own (mutex o))) t e n = cc
under_box (whole (own (task o))) t e n = cc
under_box (whole (shared us)) t e n = absurd e
under_box (whole (mutable us)) t e n = absurd e
under_box (whole (view o)) t e n = absurd e
under_box (gone k) t e n = cc
under_box (boxed p) t e n = let same : e.0 ≡ t = let f = e.1 in cc in (p, subst (TreeOf p) same e.2, n)
