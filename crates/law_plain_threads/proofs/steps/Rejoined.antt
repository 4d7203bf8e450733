-- A thread that is typed by what one way brings is typed by what is known at its instruction, to which that joins.
use Rattle.std.proofs.Common.{◌≡◌, inl, inr, ◌∙◌, ℕ, suc, ◌<◌, ◌≤◌, Bool, true, false, List, [], ◌∷◌, length, Option, Some, None, refl, sym, ap, subst, arith}
use Rattle.std.specs.Prelude.{⊤}
use Rattle.fr_base.specs.declared.name.ObjNo.{ObjNo}
use Rattle.fr_typing.specs.Kinds.{Owned, Kind, view, Piece, whole, join_kind, map_some}
use Rattle.fr_typing.specs.Places.{Env, alike, kind_places, AreBelow, IsNested, found_or_none}
use Rattle.fr_store.specs.Keys.{Key, slot_k, temp_k, content_k, result_k, hand_k}
use Rattle.fr_store.specs.Store.{Location, at_key, at_object, Store, Place}
use Rattle.fr_store.specs.Typed.{hole, Exact, owns, KeyTypes}
use Rattle.fr_store.specs.Below.{ExactOf, SlotsBelow}
use Rattle.fr_store.specs.Thread.{ThreadKeys, TempIs, temp_places, OwnOrForeign, ThreadTyped, Asleep}
use Rattle.fr_store.proofs.Below.{join_parts}
use Rattle.fr_store.proofs.JoinRows.{slots_join}
use Rattle.fr_plain.specs.declared.value.Value.{Value}
use Rattle.fr_plain.specs.State.{slot_at}
use Rattle.fr_plain.specs.PlainState.{Running}
use Rattle.fr_sound.specs.Entries.{Entry}
use Rattle.fr_sound.specs.States.{Typing, part_at, is_reference, is_hidden, is_held, env_at, Reaches, by_boxes, by_view, IsLower, hand_key, hand_kind, operands, IsThread, RunningTyped}
use Rattle.fr_code.specs.Joins.{and_temp, join_temps, IsJoin, JoinsTo, alone, first, second}
use Rattle.law_plain_values.specs.acts.Positions.{Position, Knows, temps_of}
use Rattle.law_plain_values.proofs.acts.Slots.{owned_in, lock_with}
use Rattle.law_plain_threads.specs.steps.Machines.{KnownBy}
use Rattle.law_plain_threads.proofs.steps.Mirrored.{SameValues, same_running}
use Rattle.law_plain_threads.proofs.steps.Joined.{PartsWiden, kinds_join, envs_join, names_hidden}

-- TEMPORARY VALUES

-- what is at hand has the wider type too, which names slots that are there
abbrev pub TopWidens : Env → Option Kind → Option Kind → Type 0
TopWidens e None None = ⊤
TopWidens e (Some k) (Some m) = AreBelow (length e) (kind_places m) × ((key : ℕ → Key) (E : KeyTypes) (x : Exact) → ExactOf key E (whole k) x → ExactOf key E (whole m) x)
TopWidens e _ _ = ⊥

record TempsJoin (e : Env) (ks ls ms : List Kind) : Type 0 where
  left_long : length ms ≡ length ks
  right_long : length ms ≡ length ls
  left : TopWidens e (hand_kind ks) (hand_kind ms)
  right : TopWidens e (hand_kind ls) (hand_kind ms)

temps_join : (e : Env) (ks ls ms : List Kind) → join_temps (alike e) ks ls ≡ Some ms → TempsJoin e ks ls ms
temps_join e [] [] ms j = let q : [] ≡ ms = cc in subst (TempsJoin e [] []) q (record { left_long = refl; right_long = refl; left = tt; right = tt })
temps_join e [] (l ∷ ls) ms j = absurd cc
temps_join e (k ∷ ks) [] ms j = absurd cc
temps_join e (k ∷ ks) (l ∷ ls) ms j = by (join_kind (alike e) k l) refl (join_temps (alike e) ks ls) refl (λ ns h. temps_join e ks ls ns h) j
  where
    by : (o : Option Kind) → join_kind (alike e) k l ≡ o → (p : Option (List Kind)) → join_temps (alike e) ks ls ≡ p → ((ns : List Kind) → join_temps (alike e) ks ls ≡ Some ns → TempsJoin e ks ls ns) → and_temp o p ≡ Some ms → TempsJoin e (k ∷ ks) (l ∷ ls) ms
    by None f p g go h = absurd cc
    by (Some m) f None g go h = absurd cc
    by (Some m) f (Some ns) g go h =
        let q : m ∷ ns ≡ ms = cc in
        let d = go ns g in
        let w = kinds_join e k l m f in
        subst (TempsJoin e (k ∷ ks) (l ∷ ls)) q (record {
          left_long = ap suc d.left_long;
          right_long = ap suc d.right_long;
          left = (w.below, λ key E x z. (join_parts key E (alike e) (whole k) (whole l) (whole m) (ap (λ o. found_or_none (map_some whole o)) f)).left x z);
          right = (w.below, λ key E x z. (join_parts key E (alike e) (whole k) (whole l) (whole m) (ap (λ o. found_or_none (map_some whole o)) f)).right x z);
        })

hand_same : (t : ℕ) (ks ms : List Kind) → length ms ≡ length ks → hand_key t ms ≡ hand_key t ks
hand_same t [] [] h = refl
hand_same t [] (m ∷ ms) h = absurd (omega (arith, h))
hand_same t (k ∷ ks) [] h = absurd (omega (arith, h))
hand_same t (k ∷ ks) (m ∷ ms) h = ap (temp_k t) (omega (arith, h))

operands_same : (ks ms : List Kind) → length ms ≡ length ks → operands ms ≡ operands ks
operands_same [] [] h = refl
operands_same [] (m ∷ ms) h = absurd (omega (arith, h))
operands_same (k ∷ ks) [] h = absurd (omega (arith, h))
operands_same (k ∷ ks) (m ∷ ms) h = omega (arith, h)

-- ENTRIES

-- one entry types what the other one types
record Wider (x z : Entry) : Type 0 where
  nested : IsNested z.env
  long : length z.env ≡ length x.env
  parts : (i : ℕ) → PartsWiden (part_at x.env i) (part_at z.env i)
  hidden : (i : ℕ) → is_hidden (env_at z.env i) ≡ is_hidden (env_at x.env i)
  slots : (key : ℕ → Key) (E : KeyTypes) → SlotsBelow key E x.env → SlotsBelow key E z.env
  temps : length z.temps ≡ length x.temps
  top : TopWidens z.env (hand_kind x.temps) (hand_kind z.temps)
  gives : x.gives ≡ z.gives
  forked : x.forked ≡ z.forked

left_wider : (x y z : Entry) → IsJoin x y z → Wider x z
left_wider x y z j =
    let d = envs_join x.env y.env z.env j.env in
    let t = temps_join z.env x.temps y.temps z.temps j.temps in
    record {
      nested = d.nested;
      long = (slots_join (slot_k 0) (λ k. owns hole) x.env y.env z.env j.env).0;
      parts = d.left;
      hidden = names_hidden x.env z.env j.variables.0;
      slots = λ key E. (slots_join key E x.env y.env z.env j.env).2;
      temps = t.left_long;
      top = t.left;
      gives = j.gives.0;
      forked = j.forked.0;
    }

right_wider : (x y z : Entry) → IsJoin x y z → Wider y z
right_wider x y z j =
    let d = envs_join x.env y.env z.env j.env in
    let t = temps_join z.env x.temps y.temps z.temps j.temps in
    record {
      nested = d.nested;
      long = (slots_join (slot_k 0) (λ k. owns hole) x.env y.env z.env j.env).1;
      parts = d.right;
      hidden = names_hidden y.env z.env j.variables.1;
      slots = λ key E. (slots_join key E x.env y.env z.env j.env).3;
      temps = t.right_long;
      top = t.right;
      gives = j.gives.1;
      forked = j.forked.1;
    }

-- PARTS AT A SLOT

refers_at : (o p : Option Piece) → PartsWiden o p → is_reference p ≡ true → is_reference o ≡ true
refers_at None None w h = absurd cc
refers_at (Some p) (Some q) w h = sym w.refers ∙ h
refers_at None (Some q) w h = absurd w
refers_at (Some p) None w h = absurd w

owned_at : (o p : Option Piece) → PartsWiden o p → owned_in p ≡ owned_in o
owned_at None None w = refl
owned_at (Some p) (Some q) w = w.owned
owned_at None (Some q) w = absurd w
owned_at (Some p) None w = absurd w

views_at : (o p : Option Piece) (x : Owned) → PartsWiden o p → o ≡ Some (whole (view x)) → p ≡ Some (whole (view x))
views_at None None x w e = absurd cc
views_at (Some p) (Some q) x w e = ap Some (w.views x (let f : p ≡ whole (view x) = cc in f))
views_at None (Some q) x w e = absurd w
views_at (Some p) None x w e = absurd w

-- THE THREAD

module _ (x z : Entry) (w : Wider x z) where
  at_top : (key : ℕ → Key) (E : KeyTypes) (hand : Key) (o p : Option Kind) → TopWidens z.env o p → TempIs key E hand o → TempIs key E hand p
  at_top key E hand None None h e = e
  at_top key E hand (Some k) (Some m) h e = h.1 key E (E hand) e
  at_top key E hand None (Some m) h e = absurd h
  at_top key E hand (Some k) None h e = absurd h

  top_names : (o p : Option Kind) → TopWidens z.env o p → AreBelow (length z.env) (temp_places p)
  top_names None None h = tt
  top_names (Some k) (Some m) h = h.0
  top_names None (Some m) h = absurd h
  top_names (Some k) None h = absurd h

  own_there : (key : ℕ → Key) (j : Key) (u : Place) → OwnOrForeign key x.env j u → OwnOrForeign key z.env j u
  own_there key j u (inl h) = inl (h.0, subst (λ n. h.0 < n) (sym w.long) h.1, h.2)
  own_there key j u (inr h) = inr h

  awake : (key : ℕ → Key) (rank : Key → ℕ) (hand : Key) (E : KeyTypes) (s : Store) → ThreadTyped key rank hand x.env E s (hand_kind x.temps) → ThreadTyped key rank hand z.env E s (hand_kind z.temps)
  awake key rank hand E s h = record {
    typed = h.typed;
    nested = w.nested;
    slots = w.slots key E h.slots;
    above = λ i le. h.above i (subst (λ n. n ≤ i) w.long le);
    temp = at_top key E hand (hand_kind x.temps) (hand_kind z.temps) w.top h.temp;
    names = top_names (hand_kind x.temps) (hand_kind z.temps) w.top;
    quiet = h.quiet;
    over = λ i lt. h.over i (subst (λ n. i < n) w.long lt);
    alone = λ j m u e ne. own_there key j u (h.alone j m u e ne);
  }

  asleep : (key : ℕ → Key) (rank : Key → ℕ) (hand : Key) (E : KeyTypes) → Asleep key rank hand x.env E (hand_kind x.temps) → Asleep key rank hand z.env E (hand_kind z.temps)
  asleep key rank hand E h = record {
    nested = w.nested;
    slots = w.slots key E h.slots;
    above = λ i le. h.above i (subst (λ n. n ≤ i) w.long le);
    temp = at_top key E hand (hand_kind x.temps) (hand_kind z.temps) w.top h.temp;
    names = top_names (hand_kind x.temps) (hand_kind z.temps) w.top;
    quiet = h.quiet;
    over = λ i lt. h.over i (subst (λ n. i < n) w.long lt);
  }

  either : (b : Bool) (key : ℕ → Key) (rank : Key → ℕ) (hand : Key) (E : KeyTypes) (s : Store) → IsThread b key rank hand x.env E s (hand_kind x.temps) → IsThread b key rank hand z.env E s (hand_kind z.temps)
  either true key rank hand E s h = asleep key rank hand E h
  either false key rank hand E s h = awake key rank hand E s h

  reaches : (s : Store) (t i : ℕ) {o : ObjNo} → Reaches s x.env t i o → Reaches s z.env t i o
  reaches s t i (by_boxes n e) = by_boxes n e
  reaches s t i (by_view v q n e f g) = by_view v q n (views_at (part_at x.env i) (part_at z.env i) v (w.parts i) e) f g

  lower_there : (s : Store) (t i : ℕ) (l : Location) → IsLower s x.env t i l → IsLower s z.env t i l
  lower_there s t i (at_key (slot_k u j)) h = h
  lower_there s t i (at_key (temp_k u j)) h = h
  lower_there s t i (at_key (content_k n c)) h = h
  lower_there s t i (at_key (result_k u)) h = h
  lower_there s t i (at_key (hand_k u)) h = h
  lower_there s t i (at_object o) h = (h.0, h.1, reaches s t h.0 h.2)

-- IT IS TYPED BY WHAT IS KNOWN

module _ {P : Type 0} (entry_of : P → Option Entry) (temps : P → List Value) (y : Typing) (s : Store) (t : ℕ) (pair : Option (ℕ × ℕ)) (p : Running Position) (q : Running P) (same : SameValues temps_of temps p q) where
  abbrev Before : Type 0
  Before = RunningTyped Knows temps_of y s t pair p

  abbrev After : Type 0
  After = RunningTyped (KnownBy entry_of temps) temps y s t pair q

  by_wider : (r : Before) (z : Entry) → entry_of q.place ≡ Some z → Wider r.entry z → After
  by_wider r z known w =
      let x = r.entry in
      let hand = hand_same t x.temps z.temps w.temps in
      record {
        entry = z;
        known = known;
        gives = sym w.gives ∙ r.gives;
        keys = subst (λ k. ThreadKeys (slot_k t) y.rank k) (sym hand) r.keys;
        thread = subst (λ b. IsThread b (slot_k t) y.rank (hand_key t z.temps) z.env y.exact s (hand_kind z.temps)) w.forked
            (subst (λ k. IsThread x.forked (slot_k t) y.rank k z.env y.exact s (hand_kind z.temps)) (sym hand) (either x z w x.forked (slot_k t) y.rank (hand_key t x.temps) y.exact s r.thread));
        waiting = λ i lt. r.waiting i (subst (λ n. i < n) (operands_same x.temps z.temps w.temps) lt);
        all_slots = ap length same.slots ∙ r.all_slots ∙ sym w.long;
        all_temps = ap length same.held ∙ r.all_temps ∙ sym w.temps;
        lower = λ i l e f. lower_there x z w s t i l (r.lower i l (refers_at (part_at x.env i) (part_at z.env i) (w.parts i) e) f);
        forks = sym w.forked ∙ r.forks;
        hidden = λ i. w.hidden i ∙ r.hidden i ∙ ap (λ vs. is_held (slot_at vs i)) (sym same.slots);
        marked = λ i m e. lock_with (owned_at (part_at x.env (suc i)) (part_at z.env (suc i)) (w.parts (suc i))) (r.marked i m (ap (λ vs. slot_at vs i) (sym same.slots) ∙ e));
      }

  pub rejoined : (r : Before) (z : Entry) → entry_of q.place ≡ Some z → JoinsTo r.entry z → After
  rejoined r z known j = by r.entry z j refl known
    where
      by : (a b : Entry) → JoinsTo a b → r.entry ≡ a → entry_of q.place ≡ Some b → After
      by a _ alone e k = same_running temps_of temps Knows (KnownBy entry_of temps) y s t pair p q same r (k ∙ ap Some (sym e))
      by a b (first other f) e k = by_wider r b k (subst (λ c. Wider c b) (sym e) (left_wider a other b f))
      by a b (second other f) e k = by_wider r b k (subst (λ c. Wider c b) (sym e) (right_wider other a b f))
