-- Acts that end the life of an object and the way of one: a block is freed, and an object is taken in under a new word.
use Rattle.std.proofs.Common.{◌≡◌, ℕ, ◌==◌, ◌&&◌, ◌||◌, not, Bool, true, false, nat_lt, if◌then◌else◌, List, [], ◌∷◌, Some, None, option_map, refl, ap, ◌∙◌}
use Rattle.law_runs_whole.specs.Below.law_words_ends.Below.fr_base.Lists.{is_in}
use Rattle.law_runs_whole.specs.Below.law_words_ends.Below.fr_base.declared.name.ObjNo.{ObjNo}
use Rattle.law_runs_whole.specs.Below.law_words_ends.Below.fr_base.declared.settings.Options.{Options}
use Rattle.law_runs_whole.specs.Below.law_words_ends.Below.fr_base.Names.{same_object}
use Rattle.law_runs_whole.specs.Below.law_words_ends.Below.global_addr.Words.{colour_of, server_of}
use Rattle.law_runs_whole.specs.Below.journal.View.{EntryView}
use Rattle.law_runs_whole.specs.Below.journal.declared.act.Act.TheVariants as act
use Rattle.law_runs_whole.specs.Below.coloured_heap.Lists.{first, holds, has, less_all}
use Rattle.law_runs_whole.specs.Below.coloured_heap.Heap.{Lies, Living, Coloured, is_object, object_at, lies_at, flies_to, is_issued}
use Rattle.law_runs_whole.specs.Below.coloured_heap.Rules.{names, comes_here}
use Rattle.law_entries_writes.proofs.Below.law_entries_variables.Below.coloured_heap.Times.{object_is}
use Rattle.law_entries_writes.proofs.Below.law_entries_variables.Below.coloured_heap.Found.{found_each, found_less}
use Rattle.law_entries_writes.proofs.Below.law_entries_variables.deliveries.Answers.{Answers, Fits, Allowed}
use Rattle.law_entries_writes.proofs.Below.law_entries_reads.served.Acts.{and_true}

-- A BLOCK IS FREED

-- the object is gone
abbrev pub freeing : ObjNo → Answers → Answers
freeing p q = record q { object = λ o. if same_object o p then None else q.object o }

less_object : (c : Coloured) (p o : ObjNo) → first (is_object o) (less_all (is_object p) c.living) ≡ (if same_object o p then None else object_at c o)
less_object c p o = found_less (is_object o) (is_object p) (same_object o p) c.living (λ x at. ap (λ z. same_object z p) (object_is x.object o at))

pub free_allowed : (o : Options) (e : EntryView) (c : Coloured) (q : Answers) (p : ObjNo) (w : ℕ) (x : Living) → Fits q c → q.object p ≡ Some x → (x.word == w) ≡ true → x.is_condemned ≡ true → lies_at e.server x.place ≡ true → Allowed o e c (act.Free p w) (freeing p q)
free_allowed o e c q p w x h at named given here = record {
  allowed = ap (holds (λ (y : Living). ((y.word == w) && y.is_condemned) && lies_at e.server y.place)) (h.objects p ∙ at) ∙ and_true ((x.word == w) && x.is_condemned) (lies_at e.server x.place) (and_true (x.word == w) x.is_condemned named given) here;
  fits = record {
    objects = λ o. less_object c p o ∙ ap (λ y. if same_object o p then None else y) (h.objects o);
    copies = h.copies;
    served = h.served;
    issued = h.issued;
    started = h.started;
    servers = h.servers;
    ended = h.ended;
    wishes = h.wishes;
    made = h.made;
    mutexes = h.mutexes;
  };
}

-- AN OBJECT IS TAKEN IN

abbrev pub landing : ℕ → ℕ → Living → Living
landing here w x = record x { place = Lies here; word = w }

-- the object lies there under the new word, which is issued
abbrev pub taking : ObjNo → ℕ → ℕ → Answers → Answers
taking p here w q = record q { object = λ o. option_map (λ x. if is_object p x then landing here w x else x) (q.object o); issued = λ v. (w == v) || q.issued v }

-- one number stands in a list
has_in : (w : ℕ) (ws : List ℕ) → has (λ v. v == w) ws ≡ is_in w ws
has_in w [] = refl
has_in w (x ∷ ws) = by (x == w) (has_in w ws)
  where
    by : (b : Bool) → has (λ v. v == w) ws ≡ is_in w ws → holds (λ v. true) (if b then Some x else first (λ v. v == w) ws) ≡ (b || is_in w ws)
    by true e = refl
    by false e = e

pub take_allowed : (o : Options) (e : EntryView) (c : Coloured) (q : Answers) (p : ObjNo) (old new : ℕ) (x : Living) → Fits q c → q.object p ≡ Some x → (x.word == old) ≡ true → x.is_condemned ≡ false → flies_to e.server x.place ≡ true → (server_of new == e.server) ≡ true
    → nat_lt (colour_of new) o.colours ≡ true → q.issued new ≡ false → Allowed o e c (act.Take p old new) (taking p e.server new q)
take_allowed o e c q p old new x h at named kept comes own low fresh = record {
  allowed = and_true (nat_lt (colour_of new) o.colours && not (is_issued c new)) (names c p old && comes_here e c p && (server_of new == e.server)) (and_true (nat_lt (colour_of new) o.colours) (not (is_issued c new)) low (ap not (has_in new c.issued ∙ h.issued new ∙ fresh)))
      (and_true (names c p old && comes_here e c p) (server_of new == e.server) (and_true (names c p old) (comes_here e c p) its_word its_way) own);
  fits = record {
    objects = λ n. found_each (is_object n) (is_object p) (landing e.server new) c.living (λ y. refl) ∙ ap (option_map (λ y. if is_object p y then landing e.server new y else y)) (h.objects n);
    copies = h.copies;
    served = h.served;
    issued = λ v. ap (λ b. (new == v) || b) (h.issued v);
    started = h.started;
    servers = h.servers;
    ended = h.ended;
    wishes = h.wishes;
    made = h.made;
    mutexes = h.mutexes;
  };
}
  where
    its_word : names c p old ≡ true
    its_word = ap (holds (λ (y : Living). (y.word == old) && not y.is_condemned)) (h.objects p ∙ at) ∙ and_true (x.word == old) (not x.is_condemned) named (ap not kept)

    its_way : comes_here e c p ≡ true
    its_way = ap (holds (λ (y : Living). flies_to e.server y.place)) (h.objects p ∙ at) ∙ comes
