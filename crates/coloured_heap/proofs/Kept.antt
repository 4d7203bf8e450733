-- What acts, stores and new names keep holds after each legal journal.
use Rattle.std.proofs.Common.{◌≡◌, ℕ, Bool, true, false, List, [], ◌∷◌, Option, Some, None, refl, subst}
use Rattle.std.specs.Prelude.{if◌then◌else◌}
use Rattle.fr_base.specs.declared.label.Label.{Label}
use Rattle.fr_base.specs.declared.label.Label.TheVariants as label
use Rattle.fr_base.specs.declared.label.Plain.{Plain}
use Rattle.fr_base.specs.declared.name.ObjNo.{ObjNo}
use Rattle.fr_base.specs.declared.settings.Options.{Options}
use Rattle.fr_base.specs.declared.step.Fresh.{Fresh}
use Rattle.journal.specs.declared.act.Act.{Act}
use Rattle.journal.specs.View.{EntryView}
use Rattle.coloured_heap.specs.Heap.{Coloured, start}
use Rattle.coloured_heap.specs.Rules.{allows}
use Rattle.coloured_heap.specs.Changes.{after_act, stored, with_new_mutex, with_value}
use Rattle.coloured_heap.specs.Legal.{is_placed, is_new_name, with_mutex, acts_after, settled, entry_after, onward, journal_from, journal_after}

-- an allowed act, a store and a new name keep it
pub record Kept (o : Options) (P : Coloured → Type 0) : Type 0 where
  pub act : (e : EntryView) (s : Coloured) (a : Act) → allows o e s a ≡ true → P s → P (after_act e s a)
  pub store : (s : Coloured) (p : ObjNo) (v : Plain) → P s → P (with_value s p v)
  pub name : (s : Coloured) (here : ℕ) (names : Option Fresh) → is_new_name s here names ≡ true → P s → P (with_new_mutex names s)

by_acts : (o : Options) (P : Coloured → Type 0) → Kept o P → (e : EntryView) (acts : List Act) (s after : Coloured) → acts_after o e acts s ≡ Some after → P s → P after
by_acts o P k e [] s after h holds = let same : s ≡ after = cc in subst P same holds
by_acts o P k e (a ∷ acts) s after h holds = by (λ x. by_acts o P k e acts x after) (allows o e s a) refl h
  where
    by : ((x : Coloured) → acts_after o e acts x ≡ Some after → P x → P after) → (b : Bool) → allows o e s a ≡ b → (if b then acts_after o e acts (after_act e s a) else None) ≡ Some after → P after
    by f true is q = f (after_act e s a) q (k.act e s a is holds)
    by f false is q = absurd cc

by_stores : (o : Options) (P : Coloured → Type 0) → Kept o P → (ls : List Label) (s : Coloured) → P s → P (stored ls s)
by_stores o P k [] s h = h
by_stores o P k (label.Make p v ∷ ls) s h = by_stores o P k ls s h
by_stores o P k (label.Load p v ∷ ls) s h = by_stores o P k ls s h
by_stores o P k (label.Store p v ∷ ls) s h = by_stores o P k ls (with_value s p v) (k.store s p v h)
by_stores o P k (label.Drop p ∷ ls) s h = by_stores o P k ls s h
by_stores o P k (label.Print n ∷ ls) s h = by_stores o P k ls s h
by_stores o P k (label.Lock m ∷ ls) s h = by_stores o P k ls s h
by_stores o P k (label.Unlock m ∷ ls) s h = by_stores o P k ls s h
by_stores o P k (label.Start t ∷ ls) s h = by_stores o P k ls s h
by_stores o P k (label.End t ∷ ls) s h = by_stores o P k ls s h

by_name : (o : Options) (P : Coloured → Type 0) → Kept o P → (e : EntryView) (s after : Coloured) → with_mutex e s ≡ Some after → P s → P after
by_name o P k e s after h holds = by (is_new_name s e.server e.done) refl h
  where
    by : (b : Bool) → is_new_name s e.server e.done ≡ b → (if b then Some (with_new_mutex e.done s) else None) ≡ Some after → P after
    by true is q = let same : with_new_mutex e.done s ≡ after = cc in subst P same (k.name s e.server e.done is holds)
    by false is q = absurd cc

by_entry : (o : Options) (P : Coloured → Type 0) → Kept o P → (e : EntryView) (s after : Coloured) → entry_after o s e ≡ Some after → P s → P after
by_entry o P k e s after h holds = by (is_placed o s e) h
  where
    at_end : (r : Option Coloured) → ((x : Coloured) → r ≡ Some x → P x) → settled e r ≡ Some after → P after
    at_end None f q = absurd cc
    at_end (Some x) f q = by_name o P k e (stored e.labels x) after q (by_stores o P k e.labels x (f x refl))

    by : (b : Bool) → settled e (if b then acts_after o e e.acts s else None) ≡ Some after → P after
    by true q = at_end (acts_after o e e.acts s) (λ x is. by_acts o P k e e.acts s x is holds) q
    by false q = absurd cc

by_entries : (o : Options) (P : Coloured → Type 0) → Kept o P → (es : List EntryView) (s after : Coloured) → journal_from o s es ≡ Some after → P s → P after
by_entries o P k [] s after h holds = let same : s ≡ after = cc in subst P same holds
by_entries o P k (e ∷ es) s after h holds = by (λ x. by_entries o P k es x after) (entry_after o s e) refl h
  where
    by : ((x : Coloured) → journal_from o x es ≡ Some after → P x → P after) → (r : Option Coloured) → entry_after o s e ≡ r → onward r (λ a. journal_from o a es) ≡ Some after → P after
    by f None is q = absurd cc
    by f (Some a) is q = f a q (by_entry o P k e s a is holds)

-- so it holds after a legal journal, where it holds at the start
pub after_all : (o : Options) (P : Coloured → Type 0) → Kept o P → P start → (es : List EntryView) (s : Coloured) → journal_after o es ≡ Some s → P s
after_all o P k first es s h = by_entries o P k es start s h first
