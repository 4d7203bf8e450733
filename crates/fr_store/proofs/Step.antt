-- Whatever row one thread took, the others stay as they were.
use Rattle.std.proofs.Common.{◌≡◌, ◌≢◌, ◌⊎◌, inl, inr, ℕ, ◌<◌, Bool, true, false, List, length, Option, refl, sym, subst, ◌∙◌}
use Rattle.fr_typing.specs.Kinds.{Kind}
use Rattle.fr_typing.specs.Places.{Slot}
use Rattle.fr_store.specs.Keys.{Key}
use Rattle.fr_store.specs.Store.{Store, Place}
use Rattle.fr_store.specs.Typed.{refers, KeyTypes}
use Rattle.fr_store.specs.Thread.{ThreadTyped, Known, After}
use Rattle.fr_store.specs.OtherThreads.{IsKeys, StepRow, StepSleepRow}
use Rattle.fr_store.proofs.OtherThreads.{other_row, sleep_row}

-- a key that isn't theirs
by_not : (theirs : Key → Bool) (b : Bool) (k : Key) → theirs k ≡ b → (theirs k ≡ true → ⊥) → theirs k ≡ false
by_not theirs true k e f = absurd (f e)
by_not theirs false k e f = e

module _ (key : ℕ → Key) (rank : Key → ℕ) (a : Key) (e e1 : List Slot) (E : KeyTypes) (s s2 : Store) (o o1 : Option Kind) (theirs : Key → Bool) (is : IsKeys theirs key a) (t : ThreadTyped key rank a e E s o) (f : After key rank a E e1 s2 o1) where
  -- other threads' keys stay
  untouched : (j : Key) → theirs j ≡ false → f.env j ≡ E j
  untouched j h = let n = is.not j h in f.others j n.0 n.1

  -- other threads' references lead to none of this thread's keys
  nobody : (j : Key) (m : Bool) (u : Place) → theirs j ≡ false → E j ≡ refers m u → theirs u.key ≡ false
  nobody j m u h js = by_not theirs (theirs u.key) u.key refl (λ y. no_name (is.yes u.key y))
    where
      foreign : ((i : ℕ) × (i < length e) × (j ≡ key i)) ⊎ ((x : ℕ) → u.key ≢ key x) → (i : ℕ) → u.key ≡ key i → ⊥
      foreign (inl z) i k = (is.not j h).1 z.0 z.2
      foreign (inr z) i k = z i k

      no_name : (u.key ≡ a) ⊎ ((i : ℕ) × (u.key ≡ key i)) → ⊥
      no_name (inl k) = t.quiet j m u js k
      no_name (inr k) = foreign (t.alone j m u js (is.not j h).0) k.0 k.1

  -- what the thread's references name: its own slots, or what one of its keys named
  named : (j : Key) (m : Bool) (u : Place) → theirs j ≡ true → Known key a E j m u → ((y : ℕ) × (u.key ≡ key y)) ⊎ ((i : Key) × (E i ≡ refers m u) × ((i ≡ a) ⊎ ((x : ℕ) × (i ≡ key x))))
  named j m u h (inl z) = inl z
  named j m u h (inr (i, ei, inl z)) = inr (i, ei, subst (λ q. (q ≡ a) ⊎ ((x : ℕ) × (q ≡ key x))) (sym z) (is.yes j h))
  named j m u h (inr (i, ei, inr z)) = inr (i, ei, z)

-- another thread stays as it was
pub step_row : StepRow
step_row key key2 rank a a2 e e1 e2 E s s2 o o1 o2 theirs is off offa t f t2 =
    other_row key2 rank a2 e2 E f.env s s2 o2 theirs t2 f.thread.typed (untouched key rank a e e1 E s s2 o o1 theirs is t f) off offa
    (λ j m u h js. by j m u (named key rank a e e1 E s s2 o o1 theirs is t f j m u h (f.new j m u js)))
    (nobody key rank a e e1 E s s2 o o1 theirs is t f)
  where
    not_mine : (i : Key) → (i ≡ a) ⊎ ((x : ℕ) × (i ≡ key x)) → (i ≢ a2) × ((x : ℕ) → i ≢ key2 x)
    not_mine i (inl z) = (λ k. (is.not a2 offa).0 (sym k ∙ z), λ x k. (is.not (key2 x) (off x)).0 (sym k ∙ z))
    not_mine i (inr z) = (λ k. (is.not a2 offa).1 z.0 (sym k ∙ z.1), λ x k. (is.not (key2 x) (off x)).1 z.0 (sym k ∙ z.1))

    by : (j : Key) (m : Bool) (u : Place) → ((y : ℕ) × (u.key ≡ key y)) ⊎ ((i : Key) × (E i ≡ refers m u) × ((i ≡ a) ⊎ ((x : ℕ) × (i ≡ key x)))) → ((x : ℕ) → u.key ≢ key2 x) × (u.key ≢ a2)
    by j m u (inl z) = (λ x k. (is.not (key2 x) (off x)).1 z.0 (sym k ∙ z.1), λ k. (is.not a2 offa).1 z.0 (sym k ∙ z.1))
    by j m u (inr z) = let n = not_mine z.0 z.2 in (foreign (t2.alone z.0 m u z.1 n.0) n.1, t2.quiet z.0 m u z.1)
      where
        foreign : ((i : ℕ) × (i < length e2) × (z.0 ≡ key2 i)) ⊎ ((x : ℕ) → u.key ≢ key2 x) → ((x : ℕ) → z.0 ≢ key2 x) → (x : ℕ) → u.key ≢ key2 x
        foreign (inl y) n x = absurd (n y.0 y.2)
        foreign (inr y) n x = y x

-- and so does one that waits for its branches
pub step_sleep_row : StepSleepRow
step_sleep_row key key2 rank a a2 e e1 e2 E s s2 o o1 o2 theirs is off offa t f t2 =
    sleep_row key2 rank a2 e2 E f.env o2 theirs t2 (untouched key rank a e e1 E s s2 o o1 theirs is t f) off offa
    (λ j m u h js. by j m u (named key rank a e e1 E s s2 o o1 theirs is t f j m u h (f.new j m u js)))
    (nobody key rank a e e1 E s s2 o o1 theirs is t f)
  where
    by : (j : Key) (m : Bool) (u : Place) → ((y : ℕ) × (u.key ≡ key y)) ⊎ ((i : Key) × (E i ≡ refers m u) × ((i ≡ a) ⊎ ((x : ℕ) × (i ≡ key x)))) → u.key ≢ a2
    by j m u (inl z) = λ k. (is.not a2 offa).1 z.0 (sym k ∙ z.1)
    by j m u (inr z) = t2.quiet z.0 m u z.1
