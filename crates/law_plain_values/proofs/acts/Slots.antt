-- What stands at hand and in slots of a typed thread.
use Rattle.std.proofs.Common.{◌≡◌, ◌≢◌, ◌⊎◌, inl, inr, ◌∙◌, ℕ, suc, ◌<◌, ◌≤◌, true, false, List, [], ◌∷◌, length, Option, Some, None, refl, sym, ap, subst, arith}
use Rattle.std.specs.Prelude.{if◌then◌else◌}
use Rattle.fr_base.specs.declared.name.MutexNo.{MutexNo}
use Rattle.fr_base.specs.declared.label.Plain.{Plain}
use Rattle.fr_typing.specs.Kinds.{Owned, own, Kind, Piece, whole}
use Rattle.fr_typing.specs.Places.{Env, Slot}
use Rattle.fr_typing.proofs.PlaceLemmas.{eq_cases}
use Rattle.fr_store.specs.Keys.{Key, slot_k}
use Rattle.fr_store.specs.Store.{Val, gone_v, Store}
use Rattle.fr_store.specs.Typed.{TopFits, Exact, owns, refers, KeyTypes, Fits, Typed}
use Rattle.fr_store.specs.Below.{tree_of, ExactOf}
use Rattle.fr_store.proofs.Sound.{ref_at}
use Rattle.fr_store.proofs.Rows.{top_fits}
use Rattle.fr_store.proofs.ThreadKept.{exact_owned, whole_exact}
use Rattle.fr_plain.specs.declared.value.Value.{Value}
use Rattle.fr_plain.specs.declared.value.Value.TheVariants.{Own, ToSlot, ToObject, Held}
use Rattle.fr_plain.specs.State.{slot_at}
use Rattle.fr_plain.specs.PlainState.{Running, PlainState}
use Rattle.fr_sound.specs.Seen.{Gives, val_of}
use Rattle.fr_sound.proofs.Hand.{fits_owned}
use Rattle.fr_sound.specs.States.{Typing, owned_part, env_at, part_of, part_at, is_held, IsLock}
use Rattle.fr_code.specs.CodeTypes.{wait}
use Rattle.law_plain_values.specs.acts.Positions.{Position}
use Rattle.law_plain_values.proofs.acts.Lower.{seen_as, decide_less}
use Rattle.law_plain_values.proofs.acts.OneThread.{store}
use Rattle.law_plain_values.proofs.acts.Raised.{raised, raised_typing}
use Rattle.law_plain_values.proofs.acts.Focus.{Tops, hand_at, Focus, focus, temp_none}
use Rattle.law_plain_values.proofs.acts.Hand.{At, Ranked, room}
use Rattle.law_plain_values.proofs.acts.Copies.{not_gone}
use Rattle.law_plain_values.proofs.acts.Operands.{Loaded, hand_value}

-- WHAT STANDS AT HAND

-- what stands at a key is of its type
pub fits_at : (rank : Key → ℕ) (E : KeyTypes) (s : Store) (k : Key) → Typed rank E s → Fits E s (E k) (s.at k)
fits_at rank E s k t = by (E k) refl
  where
    by : (q : Exact) → E k ≡ q → Fits E s q (s.at k)
    by (owns x) e = top_fits rank E s t k x e
    by (refers m u) e = ref_at rank E s t k m u e

-- a value of a typed thread at hand is no mark
pub hand_clear : (rank : Key → ℕ) (E : KeyTypes) (s : Store) (g : Gives) (t : ℕ) (a : Key) (k : Kind) (v : Value) → Typed rank E s → ExactOf (slot_k t) E (whole k) (E a) → s.at a ≡ seen_as g t gone_v (Some v) → is_held (Some v) ≡ false
hand_clear rank E s g t a k (Own v) typed exact is = refl
hand_clear rank E s g t a k (ToSlot i) typed exact is = refl
hand_clear rank E s g t a k (ToObject o) typed exact is = refl
hand_clear rank E s g t a k (Held m) typed exact is = absurd (not_gone E s (E a) (whole_exact (slot_k t) E k (E a) exact) (subst (Fits E s (E a)) is (fits_at rank E s a typed)))

-- a value that is no mark looks the same at each key of the thread
pub clear_same : (g : Gives) (t : ℕ) (mark mark2 : Val) (v : Value) → is_held (Some v) ≡ false → seen_as g t mark (Some v) ≡ seen_as g t mark2 (Some v)
clear_same g t mark mark2 (Own v) h = refl
clear_same g t mark mark2 (ToSlot i) h = refl
clear_same g t mark mark2 (ToObject o) h = refl
clear_same g t mark mark2 (Held m) h = cc

-- the hand is above what waits, where temporary values rank high enough
pub focus_at : (y : Typing) (a : PlainState Position) (t : ℕ) (x : Running Position) (e : Env) (ts us : List Kind) (o : Option Kind) (g : Owned) → At y a t x e ts g → Tops us o ts → wait us ≡ true → Focus (raised_typing (suc (y.rank (slot_k t (length e)))) y) a t e us o
focus_at y a t x e ts us o g h tops w =
    let r = h.state.threads t x h.runs in
    focus (raised_typing (suc (y.rank (slot_k t (length e)))) y) a t x e ts g (raised (suc (y.rank (slot_k t (length e)))) y a h.state) h.runs h.entry (room y t e (record { differ = r.keys.differ; off = λ i z. absurd cc; ranks = r.keys.ranks })) us o tops (λ q. w)

-- A NEW SLOT

-- the slots below a new one are those that were there
pub below_new : (s : Slot) (e : Env) (i : ℕ) → i ≢ length e → env_at (s ∷ e) i ≡ env_at e i
below_new s e i ne = eq_cases (λ b. (if b then Some s else env_at e i) ≡ env_at e i) i (length e) (λ q. absurd (ne q)) (λ z. refl)

-- beyond the last slot is none
pub env_none : (e : Env) (i : ℕ) → length e ≤ i → env_at e i ≡ None
env_none [] i le = refl
env_none (s ∷ e) i le = eq_cases (λ b. (if b then Some s else env_at e i) ≡ None) i (length e) (λ q. absurd (omega (arith, le, q))) (λ z. env_none e i (omega (arith, le)))

pub here_new : (s : Slot) (e : Env) (i : ℕ) → i ≡ length e → env_at (s ∷ e) i ≡ Some s
here_new s e i q = eq_cases (λ b. (if b then Some s else env_at e i) ≡ Some s) i (length e) (λ f. refl) (λ ne. absurd (ne q))

-- a slot that is there has a number below the number of slots
pub slot_below : (vs : List Value) (i : ℕ) (v : Value) → slot_at vs i ≡ Some v → i < length vs
slot_below vs i v q = by (decide_less i (length vs))
  where
    by : (i < length vs) ⊎ (length vs ≤ i) → i < length vs
    by (inl l) = l
    by (inr l) = let f : None ≡ Some v = sym (temp_none vs i l) ∙ q in absurd cc

-- the owned type of which a part is, where there is one
abbrev pub owned_in : Option Piece → Option Owned
owned_in None = None
owned_in (Some p) = owned_part p

-- a lock's content is of the same type where the slot above the mark is
pub lock_with : {y : Typing} {s : Store} {e e2 : Env} {t i : ℕ} {m : MutexNo} → owned_in (part_at e2 (suc i)) ≡ owned_in (part_at e (suc i)) → IsLock y s e t i m → IsLock y s e2 t i m
lock_with same l = record { leads = l.leads; unnamed = l.unnamed; content = same ∙ l.content }

-- the slot above a mark is there
pub content_there : {y : Typing} {s : Store} {e : Env} {t i : ℕ} {m : MutexNo} → IsLock y s e t i m → suc i < length e
content_there {y = y} {e = e} {i = i} {m = m} l = by (decide_less (suc i) (length e))
  where
    by : (suc i < length e) ⊎ (length e ≤ suc i) → suc i < length e
    by (inl lt) = lt
    by (inr le) = let f : None ≡ Some (y.gives.mutex m) = ap (λ q. owned_in (part_of q)) (sym (env_none e (suc i) le)) ∙ l.content in absurd cc

-- OWNED VALUES

-- a value with nothing to mark looks as it is
pub seen_plain : (g : Gives) (t : ℕ) (v : Value) → seen_as g t gone_v (Some v) ≡ val_of g t v
seen_plain g t (Own v) = refl
seen_plain g t (ToSlot i) = refl
seen_plain g t (ToObject o) = refl
seen_plain g t (Held m) = refl

-- an operand of an owned type owns what it is
pub owned_value : {y0 y1 : Typing} {a0 : PlainState Position} {n : ℕ} {x : Running Position} {e : Env} {us : List Kind} {g k : Owned} {v : Value} {ws : List Value} (l : Loaded y0 a0 n x e us g (own k) v ws) → Ranked y1 l.state n l.running e (own k ∷ us) us (Some (own k)) g → (p : Plain) × (v ≡ Own p)
owned_value {n = n} {us = us} {k = k} {v = v} {ws = ws} l z =
    let s1 = store z.typing l.state in
    let as_many : length ws ≡ length us = let q = z.long in let p = ap length l.temps in omega (arith, q, p) in
    let at_hand = hand_value z.typing l.state n (length us) l.running v ws l.at.runs l.temps (sym as_many) in
    let tree = exact_owned (slot_k n) z.typing.exact k (z.typing.exact (hand_at n us)) z.focus.thread.temp in
    fits_owned z.typing.gives n k v (subst (TopFits (tree_of k)) (at_hand ∙ seen_plain z.typing.gives n v) (top_fits z.typing.rank z.typing.exact s1 z.at.state.typed (hand_at n us) (tree_of k) tree))
