-- An object comes to the coloured heap: what is asked of the state then, and that the act is allowed.
use Rattle.std.proofs.Common.{◌≡◌, ℕ, ◌==◌, ◌&&◌, ◌||◌, not, Bool, true, false, nat_lt, if◌then◌else◌, List, [], ◌∷◌, Some, None, is_none, refl, ap, ap₂, ◌∙◌}
use Rattle.law_entries_writes.specs.Below.law_entries_reads.Below.law_words_borrows.Below.fr_base.Lists.{is_in}
use Rattle.law_entries_writes.specs.Below.law_entries_reads.Below.law_words_borrows.Below.fr_base.Names.{same_object}
use Rattle.law_entries_writes.specs.Below.law_entries_reads.Below.law_words_borrows.Below.fr_base.declared.name.ObjNo.{ObjNo}
use Rattle.law_entries_writes.specs.Below.law_entries_reads.Below.law_words_borrows.Below.fr_base.declared.label.Plain.{Plain}
use Rattle.law_entries_writes.specs.Below.law_entries_variables.Below.fr_base.declared.settings.Options.{Options}
use Rattle.law_entries_writes.specs.Below.law_entries_reads.Below.law_words_borrows.Below.global_addr.Words.{colour_of, server_of}
use Rattle.law_entries_writes.specs.Below.law_entries_reads.Below.law_words_borrows.Below.journal.View.{EntryView}
use Rattle.law_entries_writes.specs.Below.law_entries_reads.Below.law_words_borrows.Below.journal.declared.act.Act.TheVariants as act
use Rattle.law_entries_writes.specs.Below.law_entries_variables.Below.coloured_heap.Lists.{first, holds, has}
use Rattle.law_entries_writes.specs.Below.law_entries_variables.Below.coloured_heap.Heap.{Lies, Living, Coloured, object_at, is_issued}
use Rattle.law_entries_writes.specs.Below.law_entries_variables.Below.coloured_heap.Rules.{is_by}
use Rattle.law_entries_writes.specs.Below.law_entries_variables.Below.coloured_heap.Changes.{made_value}
use Rattle.law_entries_writes.proofs.Below.law_entries_variables.Below.coloured_heap.ShownNames.{number_itself}
use Rattle.law_entries_writes.proofs.Below.law_entries_variables.deliveries.Answers.{Answers, Fits, Allowed}
use Rattle.law_entries_writes.proofs.Below.law_entries_reads.asks.Recoloured.{and_true}

-- the object as it comes
abbrev pub made_as : ObjNo → ℕ → ℕ → Plain → Living
made_as p here w v = record { object = p; place = Lies here; word = w; value = v; is_condemned = false }

-- it is there, and its word is issued
abbrev pub making : ObjNo → ℕ → ℕ → Plain → Answers → Answers
making p here w v q = record q { object = λ o. if same_object p o then Some (made_as p here w v) else q.object o; issued = λ u. (w == u) || q.issued u }

-- one number stands in a list
has_in : (w : ℕ) (ws : List ℕ) → has (λ v. v == w) ws ≡ is_in w ws
has_in w [] = refl
has_in w (x ∷ ws) = by (x == w) (has_in w ws)
  where
    by : (b : Bool) → has (λ v. v == w) ws ≡ is_in w ws → holds (λ v. true) (if b then Some x else first (λ v. v == w) ws) ≡ (b || is_in w ws)
    by true e = refl
    by false e = e

-- none has the name, the entry's thread makes it, and the word is a new one of its server
pub make_allowed : (o : Options) (e : EntryView) (c : Coloured) (q : Answers) (p : ObjNo) (w : ℕ) (v : Plain) → Fits q c → q.object p ≡ None → e.thread ≡ Some p.thread → (server_of w == e.server) ≡ true → nat_lt (colour_of w) o.colours ≡ true → q.issued w ≡ false → made_value p e.labels ≡ v
    → Allowed o e c (act.Make p w) (making p e.server w v q)
make_allowed o e c q p w v h none by_it own low fresh value = record {
  allowed = and_true (nat_lt (colour_of w) o.colours && not (is_issued c w)) ((is_none (object_at c p) && is_by e p.thread) && (server_of w == e.server)) (and_true (nat_lt (colour_of w) o.colours) (not (is_issued c w)) low (ap not (has_in w c.issued ∙ h.issued w ∙ fresh)))
      (and_true (is_none (object_at c p) && is_by e p.thread) (server_of w == e.server) (and_true (is_none (object_at c p)) (is_by e p.thread) (ap is_none (h.objects p ∙ none)) (ap (holds (λ u. u == p.thread)) by_it ∙ number_itself p.thread)) own);
  fits = record {
    objects = λ o. ap₂ (λ x y. if same_object p o then Some (made_as p e.server w x) else y) value (h.objects o);
    copies = h.copies;
    served = h.served;
    issued = λ u. ap (λ b. (w == u) || b) (h.issued u);
    started = h.started;
    servers = h.servers;
    ended = h.ended;
    wishes = h.wishes;
    made = h.made;
    mutexes = h.mutexes;
  };
}
