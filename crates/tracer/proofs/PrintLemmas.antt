-- The prints of a journal, entry by entry.
use Rattle.std.proofs.Common.{◌≡◌, List, [], ◌∷◌, ◌++◌, ◌<◌, ◌+◌, ℕ, ◌∙◌, length, drop, slice_index_or, refl, sym, ap}
use Rattle.std.proofs.lemmas.List.{drop_more}
use Rattle.fr_base.specs.declared.label.Label.{Label}
use Rattle.fr_base.specs.declared.label.Label.TheVariants as label
use Rattle.journal.specs.View.{EntryView}
use Rattle.journal.specs.Journals.{labels, printed, prints}

-- what two lists of labels print, one behind the other
printed_append : (ls ms : List Label) → printed (ls ++ ms) ≡ printed ls ++ printed ms
printed_append [] ms = refl
printed_append (label.Print n ∷ ls) ms = ap (λ ns. n ∷ ns) (printed_append ls ms)
printed_append (label.Make o v ∷ ls) ms = printed_append ls ms
printed_append (label.Load o v ∷ ls) ms = printed_append ls ms
printed_append (label.Store o v ∷ ls) ms = printed_append ls ms
printed_append (label.Drop o ∷ ls) ms = printed_append ls ms
printed_append (label.Lock m ∷ ls) ms = printed_append ls ms
printed_append (label.Unlock m ∷ ls) ms = printed_append ls ms
printed_append (label.Start t ∷ ls) ms = printed_append ls ms
printed_append (label.End t ∷ ls) ms = printed_append ls ms

-- some entries print what the first one prints, and then what the others do
prints_more : (e : EntryView) (es : List EntryView) → prints (e ∷ es) ≡ printed e.labels ++ prints es
prints_more e es = printed_append e.labels (labels es)

-- the same from a place on
pub prints_at : (es : List EntryView) (i : ℕ) (e : EntryView) → i < length es → e ≡ slice_index_or es i e → prints (drop i es) ≡ printed e.labels ++ prints (drop (i + 1) es)
prints_at es i e low is = ap prints (drop_more es i e low ∙ ap (λ (x : EntryView). x ∷ drop (i + 1) es) (sym is)) ∙ prints_more e (drop (i + 1) es)
