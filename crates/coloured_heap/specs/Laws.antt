-- What holds of all journals.
use Rattle.std.specs.Prelude.{◌≡◌, ◌↔◌, ℕ, suc, ◌≤◌, ◌==◌, true, ◌++◌, List, take, Some, None, IsSome, IsNone}
use Rattle.fr_base.specs.Lists.{tot}
use Rattle.fr_base.specs.declared.label.Label.{Label}
use Rattle.fr_base.specs.declared.name.MutexNo.{MutexNo}
use Rattle.fr_base.specs.declared.name.ObjNo.{ObjNo}
use Rattle.fr_base.specs.declared.settings.Options.{Options}
use Rattle.journal.specs.declared.act.Act.{Act}
use Rattle.journal.specs.declared.act.Act.TheVariants as act
use Rattle.journal.specs.View.{EntryView}
use Rattle.coloured_heap.specs.Lists.{times}
use Rattle.coloured_heap.specs.Heap.{Living, Running, Guarded, Copied, Coloured, is_object, is_thread, is_mutex, is_under}
use Rattle.coloured_heap.specs.Changes.{stored}
use Rattle.coloured_heap.specs.Legal.{acts_after, onward, journal_from, journal_after, first_illegal, is_legal}
use Rattle.coloured_heap.specs.Sends.{sends, count, messages}
use Rattle.coloured_heap.specs.Driven.{is_driven}
use Rattle.coloured_heap.specs.Reach.{is_all_reached}
use Rattle.coloured_heap.specs.Figures.{kinds}

-- reads and writes here, copies that come, objects that come, new colours, new addresses, freed blocks and evictions send nothing
pub record SendNothing : Type 0 where
  pub make : (p : ObjNo) (w : ℕ) → sends (act.Make p w) ≡ None
  pub local : (p : ObjNo) (w : ℕ) → sends (act.Local p w) ≡ None
  pub hit : (p : ObjNo) (w : ℕ) → sends (act.Hit p w) ≡ None
  pub fill : (p : ObjNo) (w : ℕ) → sends (act.Fill p w) ≡ None
  pub take : (p : ObjNo) (old new : ℕ) → sends (act.Take p old new) ≡ None
  pub tint : (p : ObjNo) (old new : ℕ) → sends (act.Tint p old new) ≡ None
  pub renew : (p : ObjNo) (old new : ℕ) → sends (act.Renew p old new) ≡ None
  pub free : (p : ObjNo) (w : ℕ) → sends (act.Free p w) ≡ None
  pub evict : (w : ℕ) → sends (act.Evict w) ≡ None

-- a journal goes on from the state that its first part leaves
abbrev pub GoesOn : Type 0
GoesOn = (o : Options) (s : Coloured) (es fs : List EntryView) → journal_from o s (es ++ fs) ≡ onward (journal_from o s es) (λ after. journal_from o after fs)

-- and so do the acts of an entry, and its stores
abbrev pub ActsGoOn : Type 0
ActsGoOn = (o : Options) (e : EntryView) (front back : List Act) (s : Coloured) → acts_after o e (front ++ back) s ≡ onward (acts_after o e front s) (λ after. acts_after o e back after)

abbrev pub StoresGoOn : Type 0
StoresGoOn = (ls ms : List Label) (s : Coloured) → stored (ls ++ ms) s ≡ stored ms (stored ls s)

-- a journal has a state after it exactly where no entry breaks a rule
abbrev pub LegalHasState : Type 0
LegalHasState = (o : Options) (es : List EntryView) → (first_illegal o es ≡ None) ↔ IsSome (journal_after o es)

-- before the first entry that breaks a rule there is a state, and with it there is none
abbrev pub FirstBreaks : Type 0
FirstBreaks = (o : Options) (es : List EntryView) (at : ℕ) → first_illegal o es ≡ Some at → IsSome (journal_after o (take at es)) × IsNone (journal_after o (take (suc at) es))

-- a legal journal issues no word twice
abbrev pub IssuedOnce : Type 0
IssuedOnce = (o : Options) (es : List EntryView) (s : Coloured) (w : ℕ) → journal_after o es ≡ Some s → times (λ v. v == w) s.issued ≤ 1

-- no object, no thread and no mutex stands in these lists twice, and no word of one server's cache
pub record Listed (living : List Living) (threads : List Running) (mutexes : List Guarded) (cached : List Copied) : Type 0 where
  pub objects : (p : ObjNo) → times (is_object p) living ≤ 1
  pub running : (t : ℕ) → times (is_thread t) threads ≤ 1
  pub guarded : (m : MutexNo) → times (is_mutex m) mutexes ≤ 1
  pub copies : (here w : ℕ) → times (is_under here w) cached ≤ 1

-- so are the lists of the state after a legal journal
abbrev pub ListedOnce : Type 0
ListedOnce = (o : Options) (es : List EntryView) (s : Coloured) → journal_after o es ≡ Some s → Listed s.living s.threads s.mutexes s.cached

-- a driven journal is legal, and so is one that reaches what it loads and stores
abbrev pub DrivenIsLegal : Type 0
DrivenIsLegal = (o : Options) (es : List EntryView) → is_driven o es ≡ true → is_legal o es ≡ true

abbrev pub ReachedIsLegal : Type 0
ReachedIsLegal = (o : Options) (es : List EntryView) → is_all_reached o es ≡ true → is_legal o es ≡ true

-- the messages between different servers are those of all kinds together
abbrev pub KindsAddUp : Type 0
KindsAddUp = (es : List EntryView) → messages es ≡ tot (λ k. count es k) kinds
