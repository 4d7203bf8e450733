-- Entries and journals from the same states.
use Rattle.std.proofs.Common.{◌≡◌, ◌&&◌, ◌||◌, ℕ, suc, Bool, true, false, List, [], ◌∷◌, Option, Some, None, refl, ap, ap₂, ◌∙◌}
use Rattle.std.specs.Prelude.{if◌then◌else◌}
use Rattle.fr_base.specs.Names.{same_plain}
use Rattle.fr_base.specs.declared.label.Label.{Label}
use Rattle.fr_base.specs.declared.label.Label.TheVariants as label
use Rattle.fr_base.specs.declared.label.Plain.{Plain}
use Rattle.fr_base.specs.declared.settings.Options.{Options}
use Rattle.journal.specs.declared.act.Act.{Act}
use Rattle.journal.specs.View.{EntryView}
use Rattle.coloured_heap.specs.Lists.{holds}
use Rattle.coloured_heap.specs.Heap.{Living, Coloured, object_at, lies_at}
use Rattle.coloured_heap.specs.Rules.{allows}
use Rattle.coloured_heap.specs.Changes.{with_value, after_act, stored, with_new_mutex}
use Rattle.coloured_heap.specs.Legal.{is_placed, acts_after, entry_acts, is_new_name, with_mutex, settled, entry_after, onward, journal_from, otherwise, illegal_from}
use Rattle.coloured_heap.specs.Reach.{has_copy, is_loaded, reaches, is_reached, reached_from}
use Rattle.coloured_heap.specs.Same.{Same, Alike, SameStates}
use Rattle.coloured_heap.proofs.Same.{allows_same, name_same, place_same, act_same, stores_same, value_same, mutex_same, here_same}

-- one test, and what comes where it holds
choose : (b c : Bool) (x y : Option Coloured) → b ≡ c → (b ≡ true → Alike x y) → Alike (if b then x else None) (if c then y else None)
choose true true x y same f = f refl
choose false false x y same f = tt
choose true false x y same f = absurd cc
choose false true x y same f = absurd cc

acts_alike : (o : Options) (e : EntryView) (acts : List Act) (s t : Coloured) → Same s t → Alike (acts_after o e acts s) (acts_after o e acts t)
acts_alike o e [] s t h = h
acts_alike o e (a ∷ rest) s t h = choose (allows o e s a) (allows o e t a) (acts_after o e rest (after_act e s a)) (acts_after o e rest (after_act e t a)) (allows_same s t h o e a)
    (λ is. acts_alike o e rest (after_act e s a) (after_act e t a) (act_same e a s t h))

entry_alike : (o : Options) (e : EntryView) (s t : Coloured) → Same s t → Alike (entry_acts o s e) (entry_acts o t e)
entry_alike o e s t h = choose (is_placed o s e) (is_placed o t e) (acts_after o e e.acts s) (acts_after o e e.acts t) (place_same s t h o e) (λ is. acts_alike o e e.acts s t h)

mutex_alike : (e : EntryView) (s t : Coloured) → Same s t → Alike (with_mutex e s) (with_mutex e t)
mutex_alike e s t h = choose (is_new_name s e.server e.done) (is_new_name t e.server e.done) (Some (with_new_mutex e.done s)) (Some (with_new_mutex e.done t)) (name_same s t h e.server e.done) (λ is. mutex_same e.done s t h)

settled_alike : (e : EntryView) (x y : Option Coloured) → Alike x y → Alike (settled e x) (settled e y)
settled_alike e None None h = tt
settled_alike e (Some s) (Some t) h = mutex_alike e (stored e.labels s) (stored e.labels t) (stores_same e.labels s t h)
settled_alike e None (Some t) h = absurd h
settled_alike e (Some s) None h = absurd h

pub entries : (o : Options) (e : EntryView) (s t : Coloured) → Same s t → Alike (entry_after o s e) (entry_after o t e)
entries o e s t h = settled_alike e (entry_acts o s e) (entry_acts o t e) (entry_alike o e s t h)

-- going on from both or from neither
goes_on : (x y : Option Coloured) (f g : Coloured → Option Coloured) → Alike x y → ((s t : Coloured) → Same s t → Alike (f s) (g t)) → Alike (onward x f) (onward y g)
goes_on None None f g h both = tt
goes_on (Some s) (Some t) f g h both = both s t h
goes_on None (Some t) f g h both = absurd h
goes_on (Some s) None f g h both = absurd h

pub journals : (o : Options) (es : List EntryView) (s t : Coloured) → Same s t → Alike (journal_from o s es) (journal_from o t es)
journals o [] s t h = h
journals o (e ∷ es) s t h = goes_on (entry_after o s e) (entry_after o t e) (λ a. journal_from o a es) (λ a. journal_from o a es) (entries o e s t h) (λ a b g. journals o es a b g)

stops : (x y : Option Coloured) (at : ℕ) (f g : Coloured → Option ℕ) → Alike x y → ((s t : Coloured) → Same s t → f s ≡ g t) → otherwise x at f ≡ otherwise y at g
stops None None at f g h both = refl
stops (Some s) (Some t) at f g h both = both s t h
stops None (Some t) at f g h both = absurd h
stops (Some s) None at f g h both = absurd h

pub illegal : (o : Options) (es : List EntryView) (at : ℕ) (s t : Coloured) → Same s t → illegal_from o s at es ≡ illegal_from o t at es
illegal o [] at s t h = refl
illegal o (e ∷ es) at s t h = stops (entry_after o s e) (entry_after o t e) at (λ a. illegal_from o a (suc at) es) (λ a. illegal_from o a (suc at) es) (entries o e s t h) (λ a b g. illegal o es (suc at) a b g)

-- REACH

copy_same : (here w : ℕ) (v : Plain) (s t : Coloured) → Same s t → has_copy s here w v ≡ has_copy t here w v
copy_same here w v s t h = ap (λ r. holds (λ c. same_plain c.value v) r) (h.copies here w)

loaded_same : (here : ℕ) (v : Plain) (s t : Coloured) → Same s t → (r : Option Living) → holds (is_loaded here s v) r ≡ holds (is_loaded here t v) r
loaded_same here v s t h None = refl
loaded_same here v s t h (Some x) = ap (λ b. same_plain x.value v && (lies_at here x.place || b)) (copy_same here x.word v s t h)

labels_same : (e : EntryView) (ls : List Label) (s t : Coloured) → Same s t → reaches e ls s ≡ reaches e ls t
labels_same e [] s t h = refl
labels_same e (label.Make p v ∷ ls) s t h = labels_same e ls s t h
labels_same e (label.Load p v ∷ ls) s t h = ap₂ (λ a b. a && b) (loaded_same e.server v s t h (object_at s p) ∙ ap (λ r. holds (is_loaded e.server t v) r) (h.objects p)) (labels_same e ls s t h)
labels_same e (label.Store p v ∷ ls) s t h = ap₂ (λ a b. a && b) (here_same s t h e p) (labels_same e ls (with_value s p v) (with_value t p v) (value_same p v s t h))
labels_same e (label.Drop p ∷ ls) s t h = labels_same e ls s t h
labels_same e (label.Print n ∷ ls) s t h = labels_same e ls s t h
labels_same e (label.Lock m ∷ ls) s t h = labels_same e ls s t h
labels_same e (label.Unlock m ∷ ls) s t h = labels_same e ls s t h
labels_same e (label.Start u ∷ ls) s t h = labels_same e ls s t h
labels_same e (label.End u ∷ ls) s t h = labels_same e ls s t h

held : (x y : Option Coloured) (f g : Coloured → Bool) → Alike x y → ((s t : Coloured) → Same s t → f s ≡ g t) → holds f x ≡ holds g y
held None None f g h both = refl
held (Some s) (Some t) f g h both = both s t h
held None (Some t) f g h both = absurd h
held (Some s) None f g h both = absurd h

pub reached : (o : Options) (e : EntryView) (s t : Coloured) → Same s t → is_reached o s e ≡ is_reached o t e
reached o e s t h = held (entry_acts o s e) (entry_acts o t e) (reaches e e.labels) (reaches e e.labels) (entry_alike o e s t h) (λ a b g. labels_same e e.labels a b g)

all_reached : (o : Options) (es : List EntryView) (s t : Coloured) → Same s t → reached_from o s es ≡ reached_from o t es
all_reached o [] s t h = refl
all_reached o (e ∷ es) s t h = ap₂ (λ a b. a && b) (reached o e s t h) (held (entry_after o s e) (entry_after o t e) (λ a. reached_from o a es) (λ a. reached_from o a es) (entries o e s t h) (λ a b g. all_reached o es a b g))

pub same_states : SameStates
same_states = record {
  places = λ o e s t h. place_same s t h o e;
  rules = λ o e a s t h. allows_same s t h o e a;
  names = λ here new s t h. name_same s t h here new;
  acts = act_same;
  stores = stores_same;
  mutexes = mutex_same;
  entries = entries;
  journals = journals;
  illegal = illegal;
  reached = reached;
  all_reached = all_reached;
}
