-- Objects of the coloured heap get other words, one after another: what is asked of the state then, and which acts give them. And wishes that come.
use Rattle.std.proofs.Common.{◌≡◌, ℕ, ◌+◌, ◌==◌, ◌&&◌, ◌||◌, not, nat_lt, Bool, true, false, if◌then◌else◌, List, [], ◌∷◌, Option, Some, None, is_some, option_map, refl, sym, ap, ap₂, subst, ◌∙◌}
use Rattle.law_entries_reads.specs.Below.law_copies_kept.Below.fr_base.Lists.{one, is_in}
use Rattle.law_entries_reads.specs.Below.law_copies_kept.Below.fr_base.Names.{same_object}
use Rattle.law_entries_reads.specs.Below.law_copies_kept.Below.fr_base.declared.name.MutexNo.{MutexNo}
use Rattle.law_entries_reads.specs.Below.law_copies_kept.Below.fr_base.declared.name.ObjNo.{ObjNo}
use Rattle.law_entries_reads.specs.Below.law_copies_kept.Below.fr_base.declared.settings.Options.{Options}
use Rattle.law_entries_reads.specs.Below.law_copies_kept.Below.global_addr.Words.{colour_of, server_of, next_word}
use Rattle.law_entries_reads.specs.Below.law_copies_kept.Below.journal.View.{EntryView}
use Rattle.law_entries_reads.specs.Below.law_copies_kept.Below.journal.declared.act.Act.TheVariants as act
use Rattle.law_entries_reads.specs.Below.law_entries_variables.Below.coloured_heap.Lists.{first, has, holds, with_each}
use Rattle.law_entries_reads.specs.Below.law_entries_variables.Below.coloured_heap.Heap.{Living, Wish, ForCopy, ForObject, ForContent, ForShare, Coloured, is_object, object_at, is_lying, lies_at, copy_at, same_wish}
use Rattle.law_entries_reads.specs.Below.law_entries_variables.Below.coloured_heap.Changes.{after_act}
use Rattle.law_entries_reads.specs.Below.law_entries_variables.Below.coloured_heap.Heap as heap
use Rattle.law_entries_reads.specs.Below.law_entries_variables.Below.coloured_heap.Rules as rules
use Rattle.law_entries_reads.proofs.Below.law_entries_variables.Below.coloured_heap.Found.{found_each}
use Rattle.law_entries_reads.proofs.Below.law_entries_variables.deliveries.Answers.{Answers, Fits, Allowed}

-- OTHER WORDS

-- an object that got a word, and the word; the newest stands first
abbrev pub NewWords : Type 0
NewWords = List (ObjNo × ℕ)

-- an object's word after these, where it had that one
abbrev pub word_after : NewWords → ObjNo → ℕ → ℕ
word_after [] p v = v
word_after (n ∷ l) p v = if same_object p n.0 then n.1 else word_after l p v

-- the words that were given
abbrev pub given_words : NewWords → List ℕ
given_words [] = []
given_words (n ∷ l) = n.1 ∷ given_words l

abbrev pub reworded_by : NewWords → Living → Living
reworded_by l x = record x { word = word_after l x.object x.word }

-- objects have these words, which are issued
abbrev pub recoloured : NewWords → Answers → Answers
recoloured l q = record q { object = λ o. option_map (reworded_by l) (q.object o); issued = λ v. is_in v (given_words l) || q.issued v }

pub and_true : (p q : Bool) → p ≡ true → q ≡ true → (p && q) ≡ true
and_true true q a b = b
and_true false q a b = absurd (cc a)

-- one word more
module _ (p : ObjNo) (w : ℕ) (l : NewWords) where
  abbrev worded : Living → Living
  worded x = record x { word = w }

  one_more : (x : Living) → (if is_object p (reworded_by l x) then worded (reworded_by l x) else reworded_by l x) ≡ reworded_by ((p, w) ∷ l) x
  one_more x = by (same_object x.object p)
    where
      by : (b : Bool) → (if b then worded (reworded_by l x) else reworded_by l x) ≡ record x { word = if b then w else word_after l x.object x.word }
      by true = refl
      by false = refl

  mapped : (o : Option Living) → option_map (λ x. if is_object p x then worded x else x) (option_map (reworded_by l) o) ≡ option_map (reworded_by ((p, w) ∷ l)) o
  mapped None = refl
  mapped (Some x) = ap (λ y. Some y) (one_more x)

  issued_more : (v : ℕ) (b : Bool) → (w == v) || (is_in v (given_words l) || b) ≡ is_in v (given_words ((p, w) ∷ l)) || b
  issued_more v b = by (w == v)
    where
      by : (a : Bool) → a || (is_in v (given_words l) || b) ≡ (a || is_in v (given_words l)) || b
      by true = refl
      by false = refl

  -- the state in which the object has the word
  abbrev pub with_word : Coloured → Coloured
  with_word c = record c { living = with_each (is_object p) worded c.living; issued = w ∷ c.issued }

  pub word_fits : (c : Coloured) (q : Answers) → Fits (recoloured l q) c → Fits (recoloured ((p, w) ∷ l) q) (with_word c)
  word_fits c q h = record {
    objects = λ o. found_each (is_object o) (is_object p) worded c.living (λ x. refl) ∙ ap (option_map (λ x. if is_object p x then worded x else x)) (h.objects o) ∙ mapped (q.object o);
    copies = h.copies;
    served = h.served;
    issued = λ v. ap (λ b. (w == v) || b) (h.issued v) ∙ issued_more v (q.issued v);
    started = h.started;
    servers = h.servers;
    ended = h.ended;
    wishes = h.wishes;
    made = h.made;
    mutexes = h.mutexes;
  }

-- no word is given
pub none_given : (c : Coloured) (q : Answers) → Fits q c → Fits (recoloured [] q) c
none_given c q h = record {
  objects = λ o. h.objects o ∙ sym (same (q.object o));
  copies = h.copies;
  served = h.served;
  issued = h.issued;
  started = h.started;
  servers = h.servers;
  ended = h.ended;
  wishes = h.wishes;
  made = h.made;
  mutexes = h.mutexes;
}
  where
    same : (o : Option Living) → option_map (reworded_by []) o ≡ o
    same None = refl
    same (Some x) = refl

-- A NEW WORD

has_in : (w : ℕ) (ws : List ℕ) → has (λ v. v == w) ws ≡ is_in w ws
has_in w [] = refl
has_in w (v ∷ ws) = by (v == w) (has_in w ws)
  where
    by : (b : Bool) → has (λ v. v == w) ws ≡ is_in w ws → holds (λ x. true) (if b then Some v else first (λ v. v == w) ws) ≡ b || is_in w ws
    by true e = refl
    by false e = e

is_new : (o : Options) (c : Coloured) (q : Answers) (w : ℕ) → Fits q c → nat_lt (colour_of w) o.colours ≡ true → q.issued w ≡ false → rules.is_new o c (Some w) ≡ true
is_new o c q w h low new = and_true (nat_lt (colour_of w) o.colours) (not (heap.is_issued c w)) low (ap not (has_in w c.issued ∙ h.issued w ∙ new))

-- AN OBJECT THAT IS NAMED

-- the object has that word, and its pointer wasn't given up
pub record Named (q : Answers) (p : ObjNo) (w : ℕ) : Type 0 where
  pub living : Living
  pub there : q.object p ≡ Some living
  pub word : (living.word == w) ≡ true
  pub kept : living.is_condemned ≡ false

names_it : (c : Coloured) (q : Answers) (p : ObjNo) (w : ℕ) → Fits q c → Named q p w → rules.names c p w ≡ true
names_it c q p w h n = ap (holds (λ (x : Living). (x.word == w) && not x.is_condemned)) (h.objects p ∙ n.there) ∙ and_true (n.living.word == w) (not n.living.is_condemned) n.word (ap not n.kept)

-- THE NEXT COLOUR

pub tint_allowed : (o : Options) (e : EntryView) (c : Coloured) (q : Answers) (l : NewWords) (p : ObjNo) (old : ℕ) → Fits (recoloured l q) c → (n : Named (recoloured l q) p old) → is_lying n.living.place ≡ true → nat_lt (colour_of (next_word old)) o.colours ≡ true
    → (recoloured l q).issued (next_word old) ≡ false → Allowed o e c (act.Tint p old (next_word old)) (recoloured ((p, next_word old) ∷ l) q)
tint_allowed o e c q l p old h n lying low new = record {
  allowed = and_true (rules.is_new o c (Some (next_word old))) ((rules.names c p old && rules.lies c p) && (next_word old == next_word old)) (is_new o c (recoloured l q) (next_word old) h low new)
      (and_true (rules.names c p old && rules.lies c p) (next_word old == next_word old) (and_true (rules.names c p old) (rules.lies c p) (names_it c (recoloured l q) p old h n) (ap (holds (λ (x : Living). is_lying x.place)) (h.objects p ∙ n.there) ∙ lying)) itself);
  fits = word_fits p (next_word old) l c q h;
}
  where
    itself : (next_word old == next_word old) ≡ true
    itself = Rattle.law_entries_reads.proofs.Below.law_entries_variables.Below.coloured_heap.ShownNames.number_itself (next_word old)

-- ANOTHER ADDRESS, at the last colour

pub renew_allowed : (o : Options) (e : EntryView) (c : Coloured) (q : Answers) (l : NewWords) (p : ObjNo) (old new : ℕ) → Fits (recoloured l q) c → (n : Named (recoloured l q) p old) → lies_at e.server n.living.place ≡ true → (colour_of old + 1 == o.colours) ≡ true → (server_of new == e.server) ≡ true
    → nat_lt (colour_of new) o.colours ≡ true → (recoloured l q).issued new ≡ false → Allowed o e c (act.Renew p old new) (recoloured ((p, new) ∷ l) q)
renew_allowed o e c q l p old new h n here last home low unissued = record {
  allowed = and_true (rules.is_new o c (Some new)) (((rules.names c p old && rules.is_here e c p) && (colour_of old + 1 == o.colours)) && (server_of new == e.server)) (is_new o c (recoloured l q) new h low unissued)
      (and_true ((rules.names c p old && rules.is_here e c p) && (colour_of old + 1 == o.colours)) (server_of new == e.server)
      (and_true (rules.names c p old && rules.is_here e c p) (colour_of old + 1 == o.colours) (and_true (rules.names c p old) (rules.is_here e c p) (names_it c (recoloured l q) p old h n) (ap (holds (λ (x : Living). lies_at e.server x.place)) (h.objects p ∙ n.there) ∙ here)) last) home);
  fits = word_fits p new l c q h;
}

-- A WISH COMES

-- one wish more
abbrev more_wish : Wish → (Wish → ℕ) → Wish → ℕ
more_wish a f b = one (same_wish b a) + f b

abbrev pub wishing : Wish → Answers → Answers
wishing a q = record q { wishes = more_wish a q.wishes }

wish_fits : (a : Wish) (c : Coloured) (q : Answers) → Fits q c → Fits (wishing a q) (record c { wishes = a ∷ c.wishes })
wish_fits a c q h = record {
  objects = h.objects;
  copies = h.copies;
  served = h.served;
  issued = h.issued;
  started = h.started;
  servers = h.servers;
  ended = h.ended;
  wishes = λ b. ap (λ n. one (same_wish b a) + n) (h.wishes b);
  made = h.made;
  mutexes = h.mutexes;
}

-- the object isn't at the entry's server
not_here : (e : EntryView) (c : Coloured) (q : Answers) (p : ObjNo) (w : ℕ) → Fits q c → (n : Named q p w) → lies_at e.server n.living.place ≡ false → not (rules.is_here e c p) ≡ true
not_here e c q p w h n away = ap not (ap (holds (λ (x : Living). lies_at e.server x.place)) (h.objects p ∙ n.there) ∙ away)

not_cached : (c : Coloured) (here w : ℕ) → copy_at c here w ≡ None → not (heap.is_cached c here w) ≡ true
not_cached c here w e = ap (λ o. not (holds (λ x. true) o)) e

-- a copy of an object elsewhere, which isn't cached here
pub ask_allowed : (o : Options) (e : EntryView) (c : Coloured) (q : Answers) (p : ObjNo) (w : ℕ) → Fits q c → (n : Named q p w) → lies_at e.server n.living.place ≡ false → q.copy e.server w ≡ None → Allowed o e c (act.Ask p w) (wishing (ForCopy p w e.server) q)
ask_allowed o e c q p w h n away none = record {
  allowed = and_true (rules.names c p w && not (rules.is_here e c p)) (not (heap.is_cached c e.server w)) (and_true (rules.names c p w) (not (rules.is_here e c p)) (names_it c q p w h n) (not_here e c q p w h n away)) (not_cached c e.server w (h.copies e.server w ∙ none));
  fits = wish_fits (ForCopy p w e.server) c q h;
}

-- an object elsewhere
pub pull_allowed : (o : Options) (e : EntryView) (c : Coloured) (q : Answers) (p : ObjNo) (w : ℕ) → Fits q c → (n : Named q p w) → lies_at e.server n.living.place ≡ false → Allowed o e c (act.Pull p w) (wishing (ForObject p w e.server) q)
pull_allowed o e c q p w h n away = record {
  allowed = and_true (rules.names c p w) (not (rules.is_here e c p)) (names_it c q p w h n) (not_here e c q p w h n away);
  fits = wish_fits (ForObject p w e.server) c q h;
}

-- the content of a mutex that was made
pub ask_lock_allowed : (o : Options) (e : EntryView) (c : Coloured) (q : Answers) (m : MutexNo) (t : ℕ) → Fits q c → e.thread ≡ Some t → q.made m ≡ true → Allowed o e c (act.AskLock m) (wishing (ForContent m t e.server) q)
ask_lock_allowed o e c q m t h by_it made = record {
  allowed = ap₂ (λ a b. is_some a && b) by_it (h.made m ∙ made);
  fits = subst (λ i. Fits (wishing (ForContent m t e.server) q) (after_act (record e { thread = i }) c (act.AskLock m))) (sym by_it) (wish_fits (ForContent m t e.server) c q h);
}

-- a share of it
pub ask_dup_allowed : (o : Options) (e : EntryView) (c : Coloured) (q : Answers) (m : MutexNo) (t : ℕ) → Fits q c → e.thread ≡ Some t → q.made m ≡ true → Allowed o e c (act.AskDup m) (wishing (ForShare m t e.server) q)
ask_dup_allowed o e c q m t h by_it made = record {
  allowed = ap₂ (λ a b. is_some a && b) by_it (h.made m ∙ made);
  fits = subst (λ i. Fits (wishing (ForShare m t e.server) q) (after_act (record e { thread = i }) c (act.AskDup m))) (sym by_it) (wish_fits (ForShare m t e.server) c q h);
}
