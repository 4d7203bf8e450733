-- Journals taken entry by entry.
use Rattle.std.proofs.Common.{arith, ◌≡◌, ◌+◌, ◌++◌, ℕ, zero, suc, List, [], ◌∷◌, take, Option, Some, None, refl, ap, sym, subst}
use Rattle.std.specs.Prelude.{IsSome, IsNone, Bool, true, false, ◌&&◌, is_none}
use Rattle.fr_base.specs.declared.label.Label.TheVariants as label
use Rattle.fr_base.specs.declared.settings.Options.{Options}
use Rattle.coloured_heap.specs.Rules.{allows}
use Rattle.coloured_heap.specs.Changes.{after_act, with_value}
use Rattle.std.specs.Prelude.{if◌then◌else◌}
use Rattle.journal.specs.View.{EntryView}
use Rattle.coloured_heap.specs.Heap.{Coloured, start}
use Rattle.coloured_heap.specs.Legal.{acts_after, entry_after, onward, otherwise, journal_from, journal_after, illegal_from, is_legal}
use Rattle.coloured_heap.specs.Lists.{holds}
use Rattle.coloured_heap.specs.Driven.{is_driven_entry, resting, driven_from}
use Rattle.coloured_heap.specs.Reach.{is_reached, reached_from}
use Rattle.coloured_heap.specs.Laws.{GoesOn, ActsGoOn, StoresGoOn, LegalHasState, FirstBreaks, DrivenIsLegal, ReachedIsLegal}

-- first one part of a journal, then the other
pub goes_on : GoesOn
goes_on o s [] fs = refl
goes_on o s (e ∷ es) fs = by (λ a. goes_on o a es fs) (entry_after o s e)
  where
    by : ((a : Coloured) → journal_from o a (es ++ fs) ≡ onward (journal_from o a es) (λ b. journal_from o b fs)) → (r : Option Coloured) → onward r (λ a. journal_from o a (es ++ fs)) ≡ onward (onward r (λ a. journal_from o a es)) (λ a. journal_from o a fs)
    by f None = refl
    by f (Some a) = f a

pub acts : ActsGoOn
acts o e [] back s = refl
acts o e (a ∷ front) back s = by (allows o e s a) (acts o e front back (after_act e s a))
  where
    by : (b : Bool) → acts_after o e (front ++ back) (after_act e s a) ≡ onward (acts_after o e front (after_act e s a)) (λ after. acts_after o e back after)
        → (if b then acts_after o e (front ++ back) (after_act e s a) else None) ≡ onward (if b then acts_after o e front (after_act e s a) else None) (λ after. acts_after o e back after)
    by true f = f
    by false f = refl

pub stores : StoresGoOn
stores [] ms s = refl
stores (label.Make p v ∷ ls) ms s = stores ls ms s
stores (label.Load p v ∷ ls) ms s = stores ls ms s
stores (label.Store p v ∷ ls) ms s = stores ls ms (with_value s p v)
stores (label.Drop p ∷ ls) ms s = stores ls ms s
stores (label.Print n ∷ ls) ms s = stores ls ms s
stores (label.Lock m ∷ ls) ms s = stores ls ms s
stores (label.Unlock m ∷ ls) ms s = stores ls ms s
stores (label.Start t ∷ ls) ms s = stores ls ms s
stores (label.End t ∷ ls) ms s = stores ls ms s

-- no entry breaks a rule exactly where there is a state at the end
state_of : (o : Options) (s : Coloured) (k : ℕ) (es : List EntryView) → illegal_from o s k es ≡ None → IsSome (journal_from o s es)
state_of o s k [] h = refl
state_of o s k (e ∷ es) h = by (λ a. state_of o a (suc k) es) (entry_after o s e) h
  where
    by : ((a : Coloured) → illegal_from o a (suc k) es ≡ None → IsSome (journal_from o a es)) → (r : Option Coloured) → otherwise r k (λ a. illegal_from o a (suc k) es) ≡ None → IsSome (onward r (λ a. journal_from o a es))
    by f None q = absurd cc
    by f (Some a) q = f a q

legal_of : (o : Options) (s : Coloured) (k : ℕ) (es : List EntryView) → IsSome (journal_from o s es) → illegal_from o s k es ≡ None
legal_of o s k [] h = refl
legal_of o s k (e ∷ es) h = by (λ a. legal_of o a (suc k) es) (entry_after o s e) h
  where
    by : ((a : Coloured) → IsSome (journal_from o a es) → illegal_from o a (suc k) es ≡ None) → (r : Option Coloured) → IsSome (onward r (λ a. journal_from o a es)) → otherwise r k (λ a. illegal_from o a (suc k) es) ≡ None
    by f None q = absurd cc
    by f (Some a) q = f a q

pub has_state : LegalHasState
has_state o es = (state_of o start 0 es, legal_of o start 0 es)

-- the first of these entries that breaks a rule, counted from k on
record At (o : Options) (s : Coloured) (es : List EntryView) (k at : ℕ) : Type 0 where
  n : ℕ
  is : at ≡ k + n
  before : IsSome (journal_from o s (take n es))
  with_it : IsNone (journal_from o s (take (suc n) es))

first_at : (o : Options) (s : Coloured) (k : ℕ) (es : List EntryView) (at : ℕ) → illegal_from o s k es ≡ Some at → At o s es k at
first_at o s k [] at h = absurd cc
first_at o s k (e ∷ es) at h = by (λ a. first_at o a (suc k) es at) (entry_after o s e) refl h
  where
    none_there : entry_after o s e ≡ None → IsNone (journal_from o s (take (suc zero) (e ∷ es)))
    none_there is = subst (λ r. IsNone (onward r (λ a. journal_from o a []))) (sym is) refl

    later : (a : Coloured) → entry_after o s e ≡ Some a → At o a es (suc k) at → At o s (e ∷ es) k at
    later a is f = record {
      n = suc f.n;
      is = omega (arith, f.is);
      before = subst (λ r. IsSome (onward r (λ a. journal_from o a (take f.n es)))) (sym is) f.before;
      with_it = subst (λ r. IsNone (onward r (λ a. journal_from o a (take (suc f.n) es)))) (sym is) f.with_it;
    }

    by : ((a : Coloured) → illegal_from o a (suc k) es ≡ Some at → At o a es (suc k) at) → (r : Option Coloured) → entry_after o s e ≡ r → otherwise r k (λ a. illegal_from o a (suc k) es) ≡ Some at → At o s (e ∷ es) k at
    by f None is q = record { n = 0; is = let h : k ≡ at = cc in omega (arith, h); before = refl; with_it = none_there is }
    by f (Some a) is q = later a is (f a q)

pub first : FirstBreaks
first o es at h = let f = first_at o start 0 es at h in let same : f.n ≡ at = omega (arith, f.is) in
    (subst (λ n. IsSome (journal_after o (take n es))) same f.before, subst (λ n. IsNone (journal_after o (take (suc n) es))) same f.with_it)

-- a state is left where each entry has one
pub legal_if : (o : Options) (es : List EntryView) → IsSome (journal_after o es) → is_legal o es ≡ true
legal_if o es h = ap is_none (legal_of o start 0 es h)

both : (a b : Bool) → a && b ≡ true → (a ≡ true) × (b ≡ true)
both true b h = (refl, h)
both false b h = absurd cc

-- a test that holds of what follows tells that there is a state to go on from
leads : (o : Options) (es : List EntryView) (r : Option Coloured) (test : Coloured → Bool) → ((a : Coloured) → test a ≡ true → IsSome (journal_from o a es)) → holds test r ≡ true → IsSome (onward r (λ a. journal_from o a es))
leads o es None test f h = absurd cc
leads o es (Some a) test f h = f a h

driven_leads : (o : Options) (s : Coloured) (rest : List ℕ) (es : List EntryView) → driven_from o s rest es ≡ true → IsSome (journal_from o s es)
driven_leads o s rest [] h = refl
driven_leads o s rest (e ∷ es) h = leads o es (entry_after o s e) (λ a. driven_from o a (resting e rest) es) (λ a. driven_leads o a (resting e rest) es)
    (both (is_driven_entry o s rest e) (holds (λ a. driven_from o a (resting e rest) es) (entry_after o s e)) h).1

pub driven : DrivenIsLegal
driven o es h = legal_if o es (driven_leads o start [] es h)

reached_leads : (o : Options) (s : Coloured) (es : List EntryView) → reached_from o s es ≡ true → IsSome (journal_from o s es)
reached_leads o s [] h = refl
reached_leads o s (e ∷ es) h = leads o es (entry_after o s e) (λ a. reached_from o a es) (λ a. reached_leads o a es)
    (both (is_reached o s e) (holds (λ a. reached_from o a es) (entry_after o s e)) h).1

pub reached : ReachedIsLegal
reached o es h = legal_if o es (reached_leads o start es h)
