-- Acts that leave a state as it is, and labels that load alone: one behind the other, and the entry of such a plain step.
use Rattle.std.proofs.Common.{◌≡◌, ℕ, ◌==◌, ◌&&◌, Bool, true, false, if◌then◌else◌, List, [], ◌∷◌, ◌++◌, Some, None, refl, ap, ap₂, ◌∙◌}
use Rattle.law_copies_kept.specs.Below.fr_base.declared.label.Label.{Label}
use Rattle.law_copies_kept.specs.Below.fr_base.declared.label.Label.TheVariants as label
use Rattle.law_copies_kept.specs.Below.fr_base.declared.settings.Options.{Options}
use Rattle.law_copies_kept.specs.Below.fr_base.declared.step.Fresh.TheVariants as fresh
use Rattle.law_copies_kept.specs.Below.journal.View.{EntryView}
use Rattle.law_copies_kept.specs.Below.journal.declared.act.Act.{Act}
use Rattle.law_entries_variables.specs.Below.coloured_heap.Lists.{holds}
use Rattle.law_entries_variables.specs.Below.coloured_heap.Heap.{Running, Coloured, thread_at, object_at}
use Rattle.law_entries_variables.specs.Below.coloured_heap.Rules.{of_run, allows, is_here}
use Rattle.law_entries_variables.specs.Below.coloured_heap.Changes.{after_act, stored, with_value}
use Rattle.law_entries_variables.specs.Below.coloured_heap.Reach.{is_loaded, reaches, is_reached}
use Rattle.law_entries_variables.specs.Below.coloured_heap.Legal.{is_placed, acts_after, settled, entry_after}

-- ACTS

-- in each entry of that server the acts are allowed, and the state is as it was
abbrev pub Leave : Options → ℕ → Coloured → List Act → Type 0
Leave o n c acts = (e : EntryView) → e.server ≡ n → acts_after o e acts c ≡ Some c

-- acts one behind the other
acts_append : (o : Options) (e : EntryView) (xs ys : List Act) (c d : Coloured) → acts_after o e xs c ≡ Some d → acts_after o e (xs ++ ys) c ≡ acts_after o e ys d
acts_append o e [] ys c d q = ap (acts_after o e ys) (same q)
  where
    same : Some c ≡ Some d → c ≡ d
    same e = cc
acts_append o e (x ∷ xs) ys c d q = by (allows o e c x) q (acts_append o e xs ys (after_act e c x) d)
  where
    by : (b : Bool) → (if b then acts_after o e xs (after_act e c x) else None) ≡ Some d → (acts_after o e xs (after_act e c x) ≡ Some d → acts_after o e (xs ++ ys) (after_act e c x) ≡ acts_after o e ys d)
        → (if b then acts_after o e (xs ++ ys) (after_act e c x) else None) ≡ acts_after o e ys d
    by true f go = go f
    by false f go = absurd (cc f)

-- one act more
pub leave_more : (o : Options) (n : ℕ) (c : Coloured) (acts : List Act) (a : Act) → ((e : EntryView) → e.server ≡ n → allows o e c a ≡ true) → ((e : EntryView) → after_act e c a ≡ c) → Leave o n c acts → Leave o n c (acts ++ a ∷ [])
leave_more o n c acts a allowed still l e own = acts_append o e acts (a ∷ []) c c (l e own) ∙ ap (λ b. if b then Some (after_act e c a) else None) (allowed e own) ∙ ap (λ d. Some d) (still e)

-- LABELS

-- the labels store nothing, and in each entry of that server what they load is reached
abbrev pub Loads : ℕ → Coloured → List Label → Type 0
Loads n c ls = (stored ls c ≡ c) × ((e : EntryView) → e.server ≡ n → reaches e ls c ≡ true)

-- three conditions, however they are put together
and_both : (a b d : Bool) → (a && (b && d)) ≡ ((a && b) && d)
and_both true b d = refl
and_both false b d = refl

-- stores of labels one behind the other
stored_append : (xs ys : List Label) (c : Coloured) → stored (xs ++ ys) c ≡ stored ys (stored xs c)
stored_append [] ys c = refl
stored_append (label.Store p v ∷ xs) ys c = stored_append xs ys (with_value c p v)
stored_append (_ ∷ xs) ys c = stored_append xs ys c

-- what labels one behind the other load and store
reaches_append : (e : EntryView) (xs ys : List Label) (c : Coloured) → reaches e (xs ++ ys) c ≡ (reaches e xs c && reaches e ys (stored xs c))
reaches_append e [] ys c = refl
reaches_append e (label.Load p v ∷ xs) ys c =
    ap (λ b. holds (is_loaded e.server c v) (object_at c p) && b) (reaches_append e xs ys c) ∙ and_both (holds (is_loaded e.server c v) (object_at c p)) (reaches e xs c) (reaches e ys (stored xs c))
reaches_append e (label.Store p v ∷ xs) ys c =
    ap (λ b. is_here e c p && b) (reaches_append e xs ys (with_value c p v)) ∙ and_both (is_here e c p) (reaches e xs (with_value c p v)) (reaches e ys (stored xs (with_value c p v)))
reaches_append e (_ ∷ xs) ys c = reaches_append e xs ys c

-- no label
pub loads_none : (n : ℕ) (c : Coloured) → Loads n c []
loads_none n c = (refl, λ e own. refl)

-- labels one behind the other
pub loads_both : (n : ℕ) (c : Coloured) (xs ys : List Label) → Loads n c xs → Loads n c ys → Loads n c (xs ++ ys)
loads_both n c xs ys p q = (
  stored_append xs ys c ∙ ap (stored ys) p.0 ∙ q.0,
  λ e own. reaches_append e xs ys c ∙ ap₂ (λ a b. a && b) (p.1 e own) (ap (reaches e ys) p.0 ∙ q.1 e own),
)

-- THE ENTRY

-- of a plain step without names
abbrev pub plain_entry : ℕ → ℕ → List Act → List Label → EntryView
plain_entry n t acts ls = record { server = n; thread = Some t; done = Some fresh.None; acts = acts; labels = ls }

-- its acts and its labels leave the state, where its thread stands there
module _ (o : Options) (n t : ℕ) (acts : List Act) (ls : List Label) (c : Coloured) (run : of_run o n ≡ true) (r : Running) (at : thread_at c t ≡ Some r) (here : (r.server == n) ≡ true) (leave : Leave o n c acts) (loads : Loads n c ls) where
  abbrev entry : EntryView
  entry = plain_entry n t acts ls

  -- its thread stands there
  placed : is_placed o c entry ≡ true
  placed = ap₂ (λ b d. b && holds (λ (x : Running). x.server == n) d) run at ∙ here

  -- the entry is legal, and leaves the state
  pub entry_leaves : entry_after o c entry ≡ Some c
  entry_leaves = ap (λ b. settled entry (if b then acts_after o entry acts c else None)) placed ∙ ap (settled entry) (leave entry refl) ∙ ap (λ d. Some d) loads.0

  -- what it loads is reached
  pub entry_reaches : is_reached o c entry ≡ true
  entry_reaches = ap (λ b. holds (reaches entry ls) (if b then acts_after o entry acts c else None)) placed ∙ ap (holds (reaches entry ls)) (leave entry refl) ∙ loads.1 entry refl
