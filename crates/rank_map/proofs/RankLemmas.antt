-- The item of some rank, and what is left once it goes.
use Rattle.std.proofs.Common.{◌≡◌, ℕ, zero, suc, ◌+◌, ◌≤◌, List, [], ◌∷◌, slice_get, Option, None, Some, refl, sym, subst, ap, ◌∙◌, arith}
use Rattle.std.specs.List.{remove}
use Rattle.std.proofs.lemmas.Bool.{ne_eqb, eq-eqb, le-ltb}
use Rattle.rank_map.specs.Places.{Place, Entry, place_at, item_in, put_first, with_place, entry_first, entries, Rises}

-- a place stands from some key on that isn't below the bound
record Later {T : Type 0} (ps : List (Place T)) (low i : ℕ) (e : Entry T) : Type 0 where
  pub place : place_at ps e.key ≡ Some (Some e.item)
  pub above : low ≤ e.key

skip : {T : Type 0} (p : Place T) (ps : List (Place T)) (k : ℕ) → p.key + 1 ≤ k → place_at (p ∷ ps) k ≡ place_at ps k
skip p ps k h = rw (ne_eqb p.key k (λ e. omega (arith, h, e))) refl

later : {T : Type 0} (ps : List (Place T)) (low high i : ℕ) (e : Entry T) → Rises low high ps → slice_get (entries ps) i ≡ Some e → Later ps low i e
later [] low high zero e r h = absurd cc
later [] low high (suc i) e r h = absurd cc
later (p ∷ ps) low high i e r h = by p.item i refl h (λ j g. later ps (p.key + 1) high j e r.1 g)
  where
    behind : (j : ℕ) → Later ps (p.key + 1) j e → Later (p ∷ ps) low i e
    behind j l = record { place = skip p ps e.key l.above ∙ l.place; above = omega (arith, l.above, r.0) }

    by : (x : Option _) (j : ℕ) → p.item ≡ x → slice_get (entry_first p.key x (entries ps)) j ≡ Some e → ((j : ℕ) → slice_get (entries ps) j ≡ Some e → Later ps (p.key + 1) j e) → Later (p ∷ ps) low i e
    by None j is g ih = behind j (ih j g)
    by (Some x) zero is g ih = first is (cc)
      where
        first : p.item ≡ Some x → e ≡ record { key = p.key; item = x } → Later (p ∷ ps) low i e
        first is same = subst (Later (p ∷ ps) low i) (sym same) (record { place = rw (eq-eqb p.key p.key refl) (ap Some is); above = r.0 })
    by (Some x) (suc j) is g ih = behind j (ih j g)

-- the item of some rank stands at its key
pub entry_place : {T : Type 0} (ps : List (Place T)) (low high i : ℕ) (e : Entry T) → Rises low high ps → slice_get (entries ps) i ≡ Some e → place_at ps e.key ≡ Some (Some e.item)
entry_place ps low high i e r h = (later ps low high i e r h).place

-- once it goes, with or without its place, the later ones move up
pub entry_removed : {T : Type 0} (ps : List (Place T)) (low high i : ℕ) (e : Entry T) (new : Option (Option T)) → item_in new ≡ None → Rises low high ps → slice_get (entries ps) i ≡ Some e
    → entries (with_place ps e.key new) ≡ remove (entries ps) i
entry_removed [] low high zero e new none r h = absurd cc
entry_removed [] low high (suc i) e new none r h = absurd cc
entry_removed (p ∷ ps) low high i e new none r h = by p.item i refl h (λ j g. entry_removed ps (p.key + 1) high j e new none r.1 g)
  where
    gone : (new : Option (Option _)) → item_in new ≡ None → (k : ℕ) → entries (put_first k new ps) ≡ entries ps
    gone None none k = refl
    gone (Some None) none k = refl
    gone (Some (Some x)) none k = absurd cc

    after : p.key + 1 ≤ e.key → with_place (p ∷ ps) e.key new ≡ p ∷ with_place ps e.key new
    after h = rw (le-ltb e.key p.key (omega (arith, h)), ne_eqb p.key e.key (λ s. omega (arith, h, s))) refl

    behind : (j : ℕ) → slice_get (entries ps) j ≡ Some e → p.key + 1 ≤ e.key
    behind j g = (later ps (p.key + 1) high j e r.1 g).above

    by : (x : Option _) (j : ℕ) → p.item ≡ x → slice_get (entry_first p.key x (entries ps)) j ≡ Some e → ((j : ℕ) → slice_get (entries ps) j ≡ Some e → entries (with_place ps e.key new) ≡ remove (entries ps) j)
        → entries (with_place (p ∷ ps) e.key new) ≡ remove (entry_first p.key x (entries ps)) j
    by None j is g ih = ap entries (after (behind j g)) ∙ ap (λ x. entry_first p.key x (entries (with_place ps e.key new))) is ∙ ih j g
    by (Some x) zero is g ih = first (cc)
      where
        first : e.key ≡ p.key → entries (with_place (p ∷ ps) e.key new) ≡ entries ps
        first same =
            ap (λ k. entries (with_place (p ∷ ps) k new)) same
            ∙ rw (le-ltb p.key p.key (omega arith), eq-eqb p.key p.key refl) (gone new none p.key)
    by (Some x) (suc j) is g ih =
        ap entries (after (behind j g)) ∙ ap (λ y. entry_first p.key y (entries (with_place ps e.key new))) is ∙ ap (λ es. record { key = p.key; item = x } ∷ es) (ih j g)
