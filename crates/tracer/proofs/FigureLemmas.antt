-- Figures add up, entry by entry and act by act.
use Rattle.std.proofs.Common.{◌≡◌, ℕ, ◌+◌, List, [], ◌∷◌, ◌<◌, length, drop, slice_index_or, sym, ap, ◌∙◌, arith}
use Rattle.std.specs.Prelude.{is_some}
use Rattle.std.proofs.lemmas.List.{drop_more}
use Rattle.fr_base.specs.Lists.{one}
use Rattle.journal.specs.declared.act.Act.{Act}
use Rattle.journal.specs.View.{EntryView}
use Rattle.coloured_heap.specs.Figures.{steps}
use Rattle.tracer.specs.declared.figures.Figure.{Figure}
use Rattle.tracer.specs.declared.figures.Figure.TheVariants as figure
use Rattle.tracer.specs.Counting.{figure_of, with_acts}

plus_nothing : (a b : ℕ) → a + b ≡ a + 0 + b
plus_nothing a b = omega arith

-- a figure of some entries is that of the first one and that of the others
entry_more : (f : Figure) (e : EntryView) (es : List EntryView) → figure_of f (e ∷ es) ≡ figure_of f (with_acts e.acts) + figure_of f es
entry_more figure.Issued e es = plus_nothing _ _
entry_more figure.Renewed e es = plus_nothing _ _
entry_more figure.Hits e es = plus_nothing _ _
entry_more figure.Evictions e es = plus_nothing _ _

-- the same from a place on
pub entry_at : (f : Figure) (es : List EntryView) (i : ℕ) (e : EntryView) → i < length es → e ≡ slice_index_or es i e → figure_of f (drop i es) ≡ figure_of f (with_acts e.acts) + figure_of f (drop (i + 1) es)
entry_at f es i e low is = ap (figure_of f) (drop_more es i e low ∙ ap (λ (x : EntryView). x ∷ drop (i + 1) es) (sym is)) ∙ entry_more f e (drop (i + 1) es)

-- and so do the plain steps
pub steps_at : (es : List EntryView) (i : ℕ) (e : EntryView) → i < length es → e ≡ slice_index_or es i e → steps (drop i es) ≡ one (is_some e.done) + steps (drop (i + 1) es)
steps_at es i e low is = ap steps (drop_more es i e low ∙ ap (λ (x : EntryView). x ∷ drop (i + 1) es) (sym is))

first_and_rest : (a b : ℕ) → a + b + 0 ≡ a + 0 + 0 + (b + 0)
first_and_rest a b = omega arith

-- a figure of some acts is that of the first one and that of the others
act_more : (f : Figure) (a : Act) (more : List Act) → figure_of f (with_acts (a ∷ more)) ≡ figure_of f (with_acts (a ∷ [])) + figure_of f (with_acts more)
act_more figure.Issued a more = first_and_rest _ _
act_more figure.Renewed a more = first_and_rest _ _
act_more figure.Hits a more = first_and_rest _ _
act_more figure.Evictions a more = first_and_rest _ _

-- the same from a place on
pub act_at : (f : Figure) (acts : List Act) (i : ℕ) (a : Act) → i < length acts → a ≡ slice_index_or acts i a → figure_of f (with_acts (drop i acts)) ≡ figure_of f (with_acts (a ∷ [])) + figure_of f (with_acts (drop (i + 1) acts))
act_at f acts i a low is = ap (λ (xs : List Act). figure_of f (with_acts xs)) (drop_more acts i a low ∙ ap (λ (x : Act). x ∷ drop (i + 1) acts) (sym is)) ∙ act_more f a (drop (i + 1) acts)
