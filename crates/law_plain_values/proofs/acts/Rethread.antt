-- A thread whose slots and hand have other types: what its typing asks for.
use Rattle.std.proofs.Common.{◌≡◌, ◌≢◌, ◌⊎◌, inl, inr, ◌∙◌, ℕ, ◌<◌, ◌≤◌, Bool, List, length, Option, sym, ap}
use Rattle.fr_typing.specs.Kinds.{Kind}
use Rattle.fr_typing.specs.Places.{Slot, IsNested, AreBelow}
use Rattle.fr_store.specs.Keys.{Key}
use Rattle.fr_store.specs.Store.{Store, Place}
use Rattle.fr_store.specs.Typed.{hole, owns, refers, KeyTypes, Typed}
use Rattle.fr_store.specs.Below.{SlotsBelow}
use Rattle.fr_store.specs.Thread.{ThreadTyped, TempIs, temp_places, OwnOrForeign}
use Rattle.law_plain_values.proofs.acts.Lower.{decide_less}

-- a key of the thread: its hand's or a slot's
abbrev pub IsOwn : (ℕ → Key) → Key → Key → Type 0
IsOwn key hand j = (j ≡ hand) ⊎ ((n : ℕ) × (j ≡ key n))

-- each reference stood before: at the same key, or at another key of the thread
abbrev pub Stood : (ℕ → Key) → Key → KeyTypes → KeyTypes → Type 0
Stood key hand E E2 = (j : Key) (m : Bool) (u : Place) → E2 j ≡ refers m u → (E j ≡ refers m u) ⊎ ((i : Key) × (E i ≡ refers m u) × IsOwn key hand i × IsOwn key hand j)

pub record Rekeyed (key : ℕ → Key) (rank : Key → ℕ) (hand : Key) (e2 : List Slot) (E E2 : KeyTypes) (s2 : Store) (o2 : Option Kind) : Type 0 where
  pub typed : Typed rank E2 s2
  pub nested : IsNested e2
  pub slots : SlotsBelow key E2 e2
  pub above : (i : ℕ) → length e2 ≤ i → E2 (key i) ≡ owns hole
  pub temp : TempIs key E2 hand o2
  pub names : AreBelow (length e2) (temp_places o2)
  pub over : (i : ℕ) → i < length e2 → rank (key i) < rank hand
  pub stood : Stood key hand E E2

-- then it is typed
pub rethread : {key : ℕ → Key} {rank : Key → ℕ} {hand : Key} {e e2 : List Slot} {E E2 : KeyTypes} {s s2 : Store} {o o2 : Option Kind} → ThreadTyped key rank hand e E s o → Rekeyed key rank hand e2 E E2 s2 o2 → ThreadTyped key rank hand e2 E2 s2 o2
rethread {key = key} {rank = rank} {hand = hand} {e = e} {e2 = e2} {E = E} {E2 = E2} t r = record {
  typed = r.typed;
  nested = r.nested;
  slots = r.slots;
  above = r.above;
  temp = r.temp;
  names = r.names;
  quiet = quiet;
  over = r.over;
  alone = λ j m u js ne. alone j m u js ne (r.stood j m u js);
}
  where
    quiet : (j : Key) (m : Bool) (u : Place) → E2 j ≡ refers m u → u.key ≢ hand
    quiet j m u js = by (r.stood j m u js)
      where
        by : (E j ≡ refers m u) ⊎ ((i : Key) × (E i ≡ refers m u) × IsOwn key hand i × IsOwn key hand j) → u.key ≢ hand
        by (inl f) = t.quiet j m u f
        by (inr f) = t.quiet f.0 m u f.1

    -- a slot that refers is there
    own : (j : Key) (m : Bool) (u : Place) (n : ℕ) → E2 j ≡ refers m u → j ≡ key n → OwnOrForeign key e2 j u
    own j m u n js is = by (decide_less n (length e2))
      where
        by : (n < length e2) ⊎ (length e2 ≤ n) → OwnOrForeign key e2 j u
        by (inl l) = inl (n, l, is)
        by (inr l) = let f : owns hole ≡ refers m u = sym (r.above n l) ∙ ap E2 (sym is) ∙ js in absurd cc

    alone : (j : Key) (m : Bool) (u : Place) → E2 j ≡ refers m u → j ≢ hand → (E j ≡ refers m u) ⊎ ((i : Key) × (E i ≡ refers m u) × IsOwn key hand i × IsOwn key hand j) → OwnOrForeign key e2 j u
    alone j m u js ne (inl f) = by (t.alone j m u f ne)
      where
        by : ((i : ℕ) × (i < length e) × (j ≡ key i)) ⊎ ((x : ℕ) → u.key ≢ key x) → OwnOrForeign key e2 j u
        by (inl z) = own j m u z.0 js z.2
        by (inr z) = inr z
    alone j m u js ne (inr f) = by f.3
      where
        by : (j ≡ hand) ⊎ ((n : ℕ) × (j ≡ key n)) → OwnOrForeign key e2 j u
        by (inl z) = absurd (ne z)
        by (inr z) = own j m u z.0 js z.1
