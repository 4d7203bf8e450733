-- One thread of a typed state beside the others, and the others after its step.
use Rattle.std.specs.Prelude.{not, ◌==◌, if◌then◌else◌}
use Rattle.std.proofs.Common.{◌≡◌, ◌≢◌, ℕ, Bool, true, false, List, [], ◌∷◌, Option, Some, refl, sym, ap, ◌∙◌, subst}
use Rattle.fr_plain.specs.Below.fr_typing.Kinds.{Kind}
use Rattle.fr_plain.specs.Below.fr_typing.Places.{Env}
use Rattle.fr_plain.proofs.Below.fr_typing.PlaceLemmas.{eq_cases}
use Rattle.fr_store.specs.Keys.{Key, slot_k, temp_k, content_k, result_k, hand_k}
use Rattle.fr_store.specs.Store.{Alike, at_key, at_object, Store, Place}
use Rattle.fr_store.specs.ListState.{slot_value}
use Rattle.fr_store.specs.Typed.{KeyTypes, refers, Typed}
use Rattle.fr_store.specs.Local.{thread_of, IsLocal}
use Rattle.fr_store.specs.Thread.{ThreadTyped}
use Rattle.fr_store.proofs.OtherThreads.{alike_row, other_row}
use Rattle.fr_plain.specs.Run.{Run}
use Rattle.fr_plain.specs.Whole.{Thread, Whole, thread_at, with_thread, state_of}
use Rattle.fr_sound.specs.Seen.{Gives, Beside, vals, hand_of, seen, rank_of, IsKnown, Holds}
use Rattle.fr_sound.specs.Together.{held_life, slot_in, hand_in, value_of_key, seen_all, owed_in, IsRunning, AreTyped}
use Rattle.fr_sound.proofs.Known.{known_alike}

-- LISTS OF THREADS

-- a thread that is found has that number
pub number_of : (ts : List Thread) (t : ℕ) (x : Thread) → thread_at ts t ≡ Some x → x.number ≡ t
number_of [] t x e = cc
number_of (y ∷ ys) t x e =
    eq_cases (λ b. (if b then Some y else thread_at ys t) ≡ Some x → x.number ≡ t) y.number t
    (λ same f. let z : y ≡ x = cc in ap (λ (w : Thread). w.number) (sym z) ∙ same) (λ ne f. number_of ys t x f) e

-- a thread that was there is replaced
pub with_same : (ts : List Thread) (x new : Thread) → thread_at ts new.number ≡ Some x → thread_at (with_thread ts new) new.number ≡ Some new
with_same [] x new e = cc
with_same (y ∷ ys) x new e =
    eq_cases (λ b. (if b then Some y else thread_at ys new.number) ≡ Some x → thread_at (if b then new ∷ ys else y ∷ with_thread ys new) new.number ≡ Some new) y.number new.number
    (λ same f. eq_cases (λ b. (if b then Some new else thread_at ys new.number) ≡ Some new) new.number new.number (λ _. refl) (λ ne. absurd (ne refl)))
    (λ ne f. eq_cases (λ b. (if b then Some y else thread_at (with_thread ys new) new.number) ≡ Some new) y.number new.number (λ same. absurd (ne same)) (λ _. with_same ys x new f)) e

-- and the others are as they were
pub with_other : (ts : List Thread) (new : Thread) (u : ℕ) → u ≢ new.number → thread_at (with_thread ts new) u ≡ thread_at ts u
with_other [] new u ne = refl
with_other (y ∷ ys) new u ne =
    eq_cases (λ b. thread_at (if b then new ∷ ys else y ∷ with_thread ys new) u ≡ (if y.number == u then Some y else thread_at ys u)) y.number new.number
    (λ same. eq_cases (λ b. (if b then Some new else thread_at ys u) ≡ (if y.number == u then Some y else thread_at ys u)) new.number u (λ f. absurd (ne (sym f)))
    (λ _. eq_cases (λ b. thread_at ys u ≡ (if b then Some y else thread_at ys u)) y.number u (λ f. absurd (ne (sym f ∙ same))) (λ _. refl)))
    (λ off. ap (λ z. if y.number == u then Some y else z) (with_other ys new u ne))

-- THE FOCUS

-- the other threads beside one
abbrev pub beside_of : Gives → KeyTypes → List Thread → Beside
beside_of g E ts = record { gives = g; owed = owed_in ts; at = value_of_key g ts; types = E }

-- what all see is what the thread sees beside the others
pub focus_alike : (g : Gives) (E : KeyTypes) (s : Whole) (x : Thread) → thread_at s.threads x.number ≡ Some x → Alike (seen_all g s) (seen (beside_of g E s.threads) (state_of s x) (held_life x.life))
focus_alike g E s x found (at_object o) = refl
focus_alike g E s x found (at_key (slot_k u n)) =
    ap Some (eq_cases (λ b. (if b then slot_value (vals g x.number x.slots) n else slot_in g u (thread_at s.threads u) n) ≡ slot_in g u (thread_at s.threads u) n) u x.number
    (λ e. sym (ap (λ z. slot_in g z (thread_at s.threads z) n) e ∙ ap (λ z. slot_in g x.number z n) found)) (λ _. refl))
focus_alike g E s x found (at_key (temp_k u n)) = refl
focus_alike g E s x found (at_key (content_k u n)) = refl
focus_alike g E s x found (at_key (result_k u)) = refl
focus_alike g E s x found (at_key (hand_k u)) =
    ap Some (eq_cases (λ b. (if b then hand_of g x.number (held_life x.life) else hand_in g u (thread_at s.threads u)) ≡ hand_in g u (thread_at s.threads u)) u x.number
    (λ e. sym (ap (λ z. hand_in g z (thread_at s.threads z)) e ∙ ap (hand_in g x.number) found)) (λ _. refl))

-- a typed thread beside the others
pub focus : {s : Whole} {r : Run} {k : Kind} (y : AreTyped s) (x : Thread) → thread_at s.threads x.number ≡ Some x → (z : IsRunning y.gives y.high y.types (seen_all y.gives s) x.number x.slots r k)
    → Holds (beside_of y.gives y.types s.threads) z.env z.temp (held_life x.life) (state_of s x)
focus {s = s} y x found z =
    let alike = focus_alike y.gives y.types s x found in
    record {
      high = y.high;
      low = z.low;
      types = y.types;
      thread = (alike_row (slot_k x.number) (rank_of y.high) (hand_k x.number) z.env y.types (seen_all y.gives s) (seen (beside_of y.gives y.types s.threads) (state_of s x) (held_life x.life)) z.temp alike).0 z.thread;
      slots = z.long;
      known = known_alike (IsKnown (owed_in s.threads) s.heap) tt (seen_all y.gives s) (seen (beside_of y.gives y.types s.threads) (state_of s x) (held_life x.life)) y.known alike;
      beside = record { others = λ k ne. refl; own = y.local };
    }

-- OTHER THREADS

-- the keys that are not the thread's
abbrev not_mine : ℕ → Key → Bool
not_mine t (slot_k u n) = not (u == t)
not_mine t (temp_k u n) = true
not_mine t (content_k h n) = true
not_mine t (result_k u) = true
not_mine t (hand_k u) = not (u == t)

-- a test of numbers
is_mine : (u t : ℕ) → not (u == t) ≡ false → u ≡ t
is_mine u t = eq_cases (λ b. not b ≡ false → u ≡ t) u t (λ e f. e) (λ ne f. cc)

is_itself : (u : ℕ) → not (u == u) ≡ false
is_itself u = eq_cases (λ b. not b ≡ false) u u (λ _. refl) (λ ne. absurd (ne refl))

is_not_mine : (u t : ℕ) → not (u == t) ≡ true → u ≢ t
is_not_mine u t h e = let z : not (u == t) ≡ false = ap (λ n. not (n == t)) e ∙ is_itself t in let f : true ≡ false = sym h ∙ z in cc

-- another thread stays typed where its keys keep their types
pub other_thread : {e : Env} {E : KeyTypes} {s : Store} {o : Option Kind} (u high : ℕ) (E2 : KeyTypes) (s2 : Store) → IsLocal E → IsLocal E2 → ((k : Key) → thread_of k ≡ Some u → E2 k ≡ E k) → Typed (rank_of high) E2 s2
    → ThreadTyped (slot_k u) (rank_of high) (hand_k u) e E s o → ThreadTyped (slot_k u) (rank_of high) (hand_k u) e E2 s2 o
other_thread {e = e} {E = E} {s = s} {o = o} u high E2 s2 local local2 kept typed y =
    other_row (slot_k u) (rank_of high) (hand_k u) e E E2 s s2 o (not_mine u) y typed others (λ i. is_itself u) (is_itself u) fresh nobody
  where
    others : (j : Key) → not_mine u j ≡ false → E2 j ≡ E j
    others (slot_k v n) f = kept (slot_k v n) (ap Some (is_mine v u f))
    others (temp_k v n) f = cc
    others (content_k v n) f = cc
    others (result_k v) f = cc
    others (hand_k v) f = kept (hand_k v) (ap Some (is_mine v u f))

    -- the thread of a key that is not its own, and of one that is
    off : (j : Key) (v : ℕ) → thread_of j ≡ Some v → not_mine u j ≡ true → v ≢ u
    off (slot_k w n) v e f = let same : w ≡ v = cc in subst (λ z. z ≢ u) same (is_not_mine w u f)
    off (temp_k w n) v e f = cc
    off (content_k w n) v e f = cc
    off (result_k w) v e f = cc
    off (hand_k w) v e f = let same : w ≡ v = cc in subst (λ z. z ≢ u) same (is_not_mine w u f)

    mine : (j : Key) (v : ℕ) → thread_of j ≡ Some v → not_mine u j ≡ false → v ≡ u
    mine (slot_k w n) v e f = let same : w ≡ v = cc in sym same ∙ is_mine w u f
    mine (temp_k w n) v e f = cc
    mine (content_k w n) v e f = cc
    mine (result_k w) v e f = cc
    mine (hand_k w) v e f = let same : w ≡ v = cc in sym same ∙ is_mine w u f

    same_thread : {v : ℕ} (y x : ℕ) → slot_k v y ≡ slot_k u x → v ≡ u
    same_thread y x g = cc

    fresh : (j : Key) (m : Bool) (w : Place) → not_mine u j ≡ true → E2 j ≡ refers m w → ((x : ℕ) → w.key ≢ slot_k u x) × (w.key ≢ hand_k u)
    fresh j m w f is = let p = local2 j m w is in (λ x g. off j p.thread p.of f (same_thread p.slot x (sym p.is ∙ g)), λ g. let z : hand_k u ≡ slot_k p.thread p.slot = sym g ∙ p.is in cc)

    nobody : (j : Key) (m : Bool) (w : Place) → not_mine u j ≡ false → E j ≡ refers m w → not_mine u w.key ≡ false
    nobody j m w f is = let p = local j m w is in ap (not_mine u) p.is ∙ ap (λ n. not (n == u)) (mine j p.thread p.of f) ∙ is_itself u
