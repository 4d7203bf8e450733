-- Sameness of two states of the coloured heap (this project's rule): they answer the same of each name and word. The order in which
-- a state lists what it has doesn't count, but for copies of one object that go to one server under one word: these come in the
-- order in which they were served.
use Rattle.std.specs.Prelude.{◌≡◌, ℕ, ⊤, List, Option, Some, None, filter}
use Rattle.fr_base.specs.declared.label.Label.{Label}
use Rattle.fr_base.specs.declared.name.MutexNo.{MutexNo}
use Rattle.fr_base.specs.declared.name.ObjNo.{ObjNo}
use Rattle.fr_base.specs.declared.settings.Options.{Options}
use Rattle.fr_base.specs.declared.step.Fresh.{Fresh}
use Rattle.journal.specs.declared.act.Act.{Act}
use Rattle.journal.specs.View.{EntryView}
use Rattle.coloured_heap.specs.Lists.{times}
use Rattle.coloured_heap.specs.Heap.{Copied, Wish, Coloured, object_at, copy_at, is_copy, is_issued, thread_at, same_wish, mutex_at}
use Rattle.coloured_heap.specs.Rules.{allows}
use Rattle.coloured_heap.specs.Changes.{after_act, stored, with_new_mutex}
use Rattle.coloured_heap.specs.Legal.{is_placed, is_new_name, entry_after, journal_from, illegal_from}
use Rattle.coloured_heap.specs.Reach.{is_reached, reached_from}

-- the copies of an object that are on their way to a server under a word, in the order in which they were served
abbrev pub under_way : Coloured → ObjNo → ℕ → ℕ → List Copied
under_way s p w here = filter (is_copy p w here) s.served

-- how often something is asked for
abbrev pub wished : Coloured → Wish → ℕ
wished s a = times (same_wish a) s.wishes

pub record Same (s t : Coloured) : Type 0 where
  pub objects : (p : ObjNo) → object_at s p ≡ object_at t p
  pub copies : (here w : ℕ) → copy_at s here w ≡ copy_at t here w
  pub served : (p : ObjNo) (w here : ℕ) → under_way s p w here ≡ under_way t p w here
  pub issued : (w : ℕ) → is_issued s w ≡ is_issued t w
  pub threads : (u : ℕ) → thread_at s u ≡ thread_at t u
  pub wishes : (a : Wish) → wished s a ≡ wished t a
  pub mutexes : (m : MutexNo) → mutex_at s m ≡ mutex_at t m

-- both are states, and the same, or neither is one
abbrev pub Alike : Option Coloured → Option Coloured → Type 0
Alike None None = ⊤
Alike (Some s) (Some t) = Same s t
Alike _ _ = ⊥

-- sameness is an equivalence
pub record SameIsEquivalence : Type 0 where
  pub reflexive : (s : Coloured) → Same s s
  pub symmetric : (s t : Coloured) → Same s t → Same t s
  pub transitive : (s t u : Coloured) → Same s t → Same t u → Same s u

-- what the same states have in common
pub record SameStates : Type 0 where
  -- they allow the same places, acts and new names
  pub places : (o : Options) (e : EntryView) (s t : Coloured) → Same s t → is_placed o s e ≡ is_placed o t e
  pub rules : (o : Options) (e : EntryView) (a : Act) (s t : Coloured) → Same s t → allows o e s a ≡ allows o e t a
  pub names : (here : ℕ) (names : Option Fresh) (s t : Coloured) → Same s t → is_new_name s here names ≡ is_new_name t here names
  -- after an act, stores and a new mutex they are the same again
  pub acts : (e : EntryView) (a : Act) (s t : Coloured) → Same s t → Same (after_act e s a) (after_act e t a)
  pub stores : (ls : List Label) (s t : Coloured) → Same s t → Same (stored ls s) (stored ls t)
  pub mutexes : (names : Option Fresh) (s t : Coloured) → Same s t → Same (with_new_mutex names s) (with_new_mutex names t)
  -- so entries and journals are legal or not from both, lead to the same states, and reach what they load and store from both or
  -- from neither
  pub entries : (o : Options) (e : EntryView) (s t : Coloured) → Same s t → Alike (entry_after o s e) (entry_after o t e)
  pub journals : (o : Options) (es : List EntryView) (s t : Coloured) → Same s t → Alike (journal_from o s es) (journal_from o t es)
  pub illegal : (o : Options) (es : List EntryView) (at : ℕ) (s t : Coloured) → Same s t → illegal_from o s at es ≡ illegal_from o t at es
  pub reached : (o : Options) (e : EntryView) (s t : Coloured) → Same s t → is_reached o s e ≡ is_reached o t e
  pub all_reached : (o : Options) (es : List EntryView) (s t : Coloured) → Same s t → reached_from o s es ≡ reached_from o t es
