-- What is asked of a state of the coloured heap, and of a cluster: the answers, name by name and word by word. A state fits the answers of its cluster, and the state after an act
-- fits the changed answers.
use Rattle.std.proofs.Common.{◌≡◌, ℕ, ◌-◌, ◌≤◌, ◌==◌, ◌&&◌, not, Bool, true, false, if◌then◌else◌, Option, Some, None, is_some, is_none, option_map, refl, sym, ap, ap₂, ◌∙◌, arith}
use Rattle.std.proofs.lemmas.Bool.{lt-ltb}
use Rattle.law_words_ends.specs.Below.fr_base.Names.{home_of}
use Rattle.law_words_ends.specs.Below.fr_base.Lists.{tot, one, is_in}
use Rattle.law_words_ends.specs.Below.fr_base.declared.name.ObjNo.{ObjNo}
use Rattle.law_words_ends.specs.Below.fr_base.declared.name.MutexNo.{MutexNo}
use Rattle.law_words_ends.specs.Below.fr_base.declared.release.Released.{Released}
use Rattle.law_words_ends.specs.Below.fr_base.declared.release.Released.TheVariants as released
use Rattle.law_words_ends.specs.Below.fr_base.declared.settings.Options.{Options}
use Rattle.law_words_ends.specs.Below.journal.View.{EntryView}
use Rattle.law_words_ends.specs.Below.journal.declared.act.Act.{Act}
use Rattle.law_words_ends.specs.Below.journal.declared.act.Act.TheVariants as act
use Rattle.law_words_ends.specs.Below.law_words_kept.Below.coloured_heap.Lists.{first, holds, less_first, less_all, with_each, times}
use Rattle.law_words_ends.specs.Below.law_words_kept.Below.coloured_heap.Heap.{Living, Copied, Wish, ForContent, ForShare, ForResult, Running, Guarded, Coloured, is_thread, thread_at, is_object, object_at, is_under, copy_at, same_wish, is_wished, is_mutex, mutex_at}
use Rattle.law_words_ends.specs.Below.law_words_kept.Below.coloured_heap.Rules as rules
use Rattle.law_words_ends.specs.Below.law_words_kept.Below.coloured_heap.Rules.{allows, of_run, is_by, names}
use Rattle.law_words_ends.specs.Below.law_words_kept.Below.coloured_heap.Changes.{after_act}
use Rattle.law_words_ends.proofs.Below.law_words_kept.Below.coloured_heap.Times.{both, number_is}
use Rattle.law_words_ends.proofs.Below.law_words_kept.Below.coloured_heap.Found.{found_each, found_less, times_less, times_other, has_some}
use Rattle.law_words_ends.proofs.Below.law_words_kept.Below.coloured_heap.Same.{wish_is}
use Rattle.law_words_ends.proofs.Below.law_words_kept.Below.coloured_heap.ShownNames.{number_itself}
use Rattle.law_words_ends.specs.Below.coherent_memory.Names.{same_mutex}
use Rattle.law_words_ends.specs.Below.coherent_memory.Sight.{Sight, issued}
use Rattle.law_words_ends.specs.Below.coherent_memory.OneHeap.{is_given_thread, is_given_mutex}
use Rattle.law_words_ends.specs.Below.coherent_memory.Colours.{living_of, copy_of, same_copied, served_of, wishes_of, running_of, has_finished, holder_of, is_mutex_there, IsColoured}

-- THE ANSWERS

pub record Answers : Type 0 where
  pub object : ObjNo → Option Living
  pub copy : ℕ → ℕ → Option Copied
  pub served : Copied → ℕ
  pub issued : ℕ → Bool
  pub started : ℕ → Bool
  pub running : ℕ → Option Running
  pub ended : ℕ → Bool
  pub wishes : Wish → ℕ
  pub made : MutexNo → Bool
  pub there : MutexNo → Bool
  pub holder : MutexNo → Option ℕ

abbrev pub answers_of : Sight → Answers
answers_of s = record {
  object = living_of s;
  copy = copy_of s;
  served = served_of s;
  issued = issued s;
  started = is_given_thread s;
  running = running_of s;
  ended = has_finished s;
  wishes = wishes_of s;
  made = is_given_mutex s;
  there = is_mutex_there s;
  holder = holder_of s;
}

-- a state answers so
pub record Fits (q : Answers) (c : Coloured) : Type 0 where
  pub objects : (o : ObjNo) → object_at c o ≡ q.object o
  pub copies : (r w : ℕ) → copy_at c r w ≡ q.copy r w
  pub served : (a : Copied) → tot (λ b. one (same_copied a b)) c.served ≡ q.served a
  pub issued : (w : ℕ) → is_in w c.issued ≡ q.issued w
  pub started : (t : ℕ) → is_some (thread_at c t) ≡ q.started t
  pub servers : (t : ℕ) (r : Running) → q.running t ≡ Some r → thread_at c t ≡ Some r
  pub ended : (t : ℕ) → rules.is_over c t ≡ q.ended t
  pub wishes : (a : Wish) → tot (λ b. one (same_wish a b)) c.wishes ≡ q.wishes a
  pub made : (m : MutexNo) → is_some (mutex_at c m) ≡ q.made m
  pub mutexes : (m : MutexNo) → q.there m ≡ true → mutex_at c m ≡ Some (record { mutex = m; holder = q.holder m })

pub fits : (s : Sight) (c : Coloured) → IsColoured s c → Fits (answers_of s) c
fits s c h = record {
  objects = h.objects;
  copies = h.copies;
  served = h.served;
  issued = h.issued;
  started = h.started;
  servers = h.servers;
  ended = h.ended;
  wishes = h.wishes;
  made = h.made;
  mutexes = h.mutexes;
}

-- two answer alike
pub record Agrees (q r : Answers) : Type 0 where
  pub object : (o : ObjNo) → q.object o ≡ r.object o
  pub copy : (h w : ℕ) → q.copy h w ≡ r.copy h w
  pub served : (a : Copied) → q.served a ≡ r.served a
  pub issued : (w : ℕ) → q.issued w ≡ r.issued w
  pub started : (t : ℕ) → q.started t ≡ r.started t
  pub running : (t : ℕ) → q.running t ≡ r.running t
  pub ended : (t : ℕ) → q.ended t ≡ r.ended t
  pub wishes : (a : Wish) → q.wishes a ≡ r.wishes a
  pub made : (m : MutexNo) → q.made m ≡ r.made m
  -- a mutex that is there for the second is so for the first
  pub there : (m : MutexNo) → r.there m ≡ true → q.there m ≡ true
  pub holder : (m : MutexNo) → q.holder m ≡ r.holder m

abbrev guarded : MutexNo → Option ℕ → Guarded
guarded m h = record { mutex = m; holder = h }

-- a state that fits one fits the other, and is the coloured heap of what answers so
pub coloured_by : (q : Answers) (s : Sight) (c : Coloured) → Fits q c → Agrees q (answers_of s) → IsColoured s c
coloured_by q s c h a = record {
  objects = λ o. h.objects o ∙ a.object o;
  copies = λ r w. h.copies r w ∙ a.copy r w;
  served = λ b. h.served b ∙ a.served b;
  issued = λ w. h.issued w ∙ a.issued w;
  started = λ t. h.started t ∙ a.started t;
  servers = λ t r e. h.servers t r (a.running t ∙ e);
  ended = λ t. h.ended t ∙ a.ended t;
  wishes = λ w. h.wishes w ∙ a.wishes w;
  made = λ m. h.made m ∙ a.made m;
  mutexes = λ m e. h.mutexes m (a.there m e) ∙ ap (λ o. Some (guarded m o)) (a.holder m);
}

-- ACTS

-- an act is allowed in a state, and leads to one that fits these answers
pub record Allowed (o : Options) (e : EntryView) (c : Coloured) (a : Act) (q : Answers) : Type 0 where
  pub allowed : allows o e c a ≡ true
  pub fits : Fits q (after_act e c a)

and_true : (p q : Bool) → p ≡ true → q ≡ true → (p && q) ≡ true
and_true true q a b = b
and_true false q a b = absurd (cc a)

-- EVICTIONS

-- the copy under that word goes
abbrev pub evicting : ℕ → ℕ → Answers → Answers
evicting here w q = record q { copy = λ r v. if (r == here) && (v == w) then None else q.copy r v }

evicted_copy : (c : Coloured) (here w r v : ℕ) → first (is_under r v) (less_all (is_under here w) c.cached) ≡ (if (r == here) && (v == w) then None else copy_at c r v)
evicted_copy c here w r v =
    found_less (is_under r v) (is_under here w) ((r == here) && (v == w)) c.cached (λ x at. let b = both (x.server == r) (x.word == v) at in
    ap₂ (λ y z. (y == here) && (z == w)) (number_is x.server r b.0) (number_is x.word v b.1))

pub evict_allowed : (o : Options) (e : EntryView) (c : Coloured) (q : Answers) (w : ℕ) (x : Copied) → Fits q c → q.copy e.server w ≡ Some x → Allowed o e c (act.Evict w) (evicting e.server w q)
evict_allowed o e c q w x h at = record {
  allowed = ap (λ y. holds (λ z. true) y) (h.copies e.server w ∙ at);
  fits = record {
    objects = h.objects;
    copies = λ r v. evicted_copy c e.server w r v ∙ ap (λ y. if (r == e.server) && (v == w) then None else y) (h.copies r v);
    served = h.served;
    issued = h.issued;
    started = h.started;
    servers = h.servers;
    ended = h.ended;
    wishes = h.wishes;
    made = h.made;
    mutexes = h.mutexes;
  };
}

-- DEPARTURES

abbrev at_server : ℕ → Running → Running
at_server there r = record r { server = there }

abbrev pub departed : ℕ → ℕ → Running → Running
departed t there r = if is_thread t r then at_server there r else r

-- the thread stands at another server
abbrev pub departing : ℕ → ℕ → Answers → Answers
departing t there q = record q { running = λ u. option_map (departed t there) (q.running u) }

module _ (c : Coloured) (t there : ℕ) where
  gone_thread : (u : ℕ) → first (is_thread u) (with_each (is_thread t) (at_server there) c.threads) ≡ option_map (departed t there) (thread_at c u)
  gone_thread u = found_each (is_thread u) (is_thread t) (at_server there) c.threads (λ x. refl)

  still_some : (y : Option Running) → is_some (option_map (departed t there) y) ≡ is_some y
  still_some None = refl
  still_some (Some r) = refl

  still_over : (y : Option Running) → holds (λ r. r.has_ended) (option_map (departed t there) y) ≡ holds (λ r. r.has_ended) y
  still_over None = refl
  still_over (Some r) = by (is_thread t r)
    where
      by : (b : Bool) → (if b then at_server there r else r).has_ended ≡ r.has_ended
      by true = refl
      by false = refl

pub depart_allowed : (o : Options) (e : EntryView) (c : Coloured) (q : Answers) (t there : ℕ) → Fits q c → e.thread ≡ Some t → of_run o there ≡ true → (there == e.server) ≡ false → Allowed o e c (act.Depart t there) (departing t there q)
depart_allowed o e c q t there h by_it run away = record {
  allowed = and_true (is_by e t && of_run o there) (not (there == e.server)) (and_true (is_by e t) (of_run o there) (ap (holds (λ u. u == t)) by_it ∙ itself) run) (ap not away);
  fits = record {
    objects = h.objects;
    copies = h.copies;
    served = h.served;
    issued = h.issued;
    started = λ u. ap is_some (gone_thread c t there u) ∙ still_some c t there (thread_at c u) ∙ h.started u;
    servers = λ u r g. gone_thread c t there u ∙ by u r (q.running u) refl g;
    ended = λ u. ap (holds (λ r. r.has_ended)) (gone_thread c t there u) ∙ still_over c t there (thread_at c u) ∙ h.ended u;
    wishes = h.wishes;
    made = h.made;
    mutexes = h.mutexes;
  };
}
  where
    itself : (t == t) ≡ true
    itself = number_itself t

    by : (u : ℕ) (r : Running) (y : Option Running) → q.running u ≡ y → option_map (departed t there) y ≡ Some r → option_map (departed t there) (thread_at c u) ≡ Some r
    by u r None g f = absurd (cc f)
    by u r (Some z) g f = ap (option_map (departed t there)) (h.servers u z g) ∙ f

-- WISHES THAT ARE ANSWERED

-- one wish goes
abbrev pub less_wish : Wish → (Wish → ℕ) → Wish → ℕ
less_wish a f b = if same_wish b a then f b - 1 else f b

abbrev pub answering : Wish → Answers → Answers
answering a q = record q { wishes = less_wish a q.wishes }

answered : (c : Coloured) (a b : Wish) → tot (λ x. one (same_wish b x)) (less_first (same_wish a) c.wishes) ≡ less_wish a (λ y. tot (λ x. one (same_wish y x)) c.wishes) b
answered c a b = by (same_wish b a) refl
  where
    by : (d : Bool) → same_wish b a ≡ d → times (same_wish b) (less_first (same_wish a) c.wishes) ≡ (if d then times (same_wish b) c.wishes - 1 else times (same_wish b) c.wishes)
    by true is = times_less (same_wish b) (same_wish a) c.wishes (λ x. ap (λ z. same_wish z x) (sym (wish_is b a is)))
    by false is = times_other (same_wish b) (same_wish a) c.wishes (λ x gone. ap (λ z. same_wish b z) (sym (wish_is a x gone)) ∙ is)

wishes_less : (a : Wish) (f g : Wish → ℕ) → ((b : Wish) → f b ≡ g b) → (b : Wish) → less_wish a f b ≡ less_wish a g b
wishes_less a f g e b = ap (λ n. if same_wish b a then n - 1 else n) (e b)

wished : (c : Coloured) (q : Answers) (a : Wish) → Fits q c → 1 ≤ q.wishes a → is_wished c a ≡ true
wished c q a h l = has_some (same_wish a) c.wishes ∙ lt-ltb 0 (times (same_wish a) c.wishes) (omega (arith, l, h.wishes a))

-- a share is answered
pub dup_allowed : (o : Options) (e : EntryView) (c : Coloured) (q : Answers) (m : MutexNo) (t there : ℕ) → Fits q c → (m.home == e.server) ≡ true → 1 ≤ q.wishes (ForShare m t there) → Allowed o e c (act.Dupped m t there) (answering (ForShare m t there) q)
dup_allowed o e c q m t there h home l = record {
  allowed = and_true (m.home == e.server) (is_wished c (ForShare m t there)) home (wished c q (ForShare m t there) h l);
  fits = record {
    objects = h.objects;
    copies = h.copies;
    served = h.served;
    issued = h.issued;
    started = h.started;
    servers = h.servers;
    ended = h.ended;
    wishes = λ b. answered c (ForShare m t there) b ∙ wishes_less (ForShare m t there) (λ y. tot (λ x. one (same_wish y x)) c.wishes) q.wishes h.wishes b;
    made = h.made;
    mutexes = h.mutexes;
  };
}

-- a result is answered
pub answer_allowed : (o : Options) (e : EntryView) (c : Coloured) (q : Answers) (t asker there : ℕ) → Fits q c → (home_of t == e.server) ≡ true → q.ended t ≡ true → 1 ≤ q.wishes (ForResult t asker there)
    → Allowed o e c (act.Answer t asker there) (answering (ForResult t asker there) q)
answer_allowed o e c q t asker there h home over l = record {
  allowed = and_true ((home_of t == e.server) && rules.is_over c t) (is_wished c (ForResult t asker there)) (and_true (home_of t == e.server) (rules.is_over c t) home (h.ended t ∙ over)) (wished c q (ForResult t asker there) h l);
  fits = record {
    objects = h.objects;
    copies = h.copies;
    served = h.served;
    issued = h.issued;
    started = h.started;
    servers = h.servers;
    ended = h.ended;
    wishes = λ b. answered c (ForResult t asker there) b ∙ wishes_less (ForResult t asker there) (λ y. tot (λ x. one (same_wish y x)) c.wishes) q.wishes h.wishes b;
    made = h.made;
    mutexes = h.mutexes;
  };
}

-- the content is granted
abbrev pub granting : MutexNo → ℕ → ℕ → Answers → Answers
granting m t there q = record (answering (ForContent m t there) q) { holder = λ n. if same_mutex n m then Some t else q.holder n }

abbrev with_holder : ℕ → Guarded → Guarded
with_holder t g = record g { holder = Some t }

pub grant_allowed : (o : Options) (e : EntryView) (c : Coloured) (q : Answers) (m : MutexNo) (t there : ℕ) → Fits q c → (m.home == e.server) ≡ true → q.there m ≡ true → q.holder m ≡ None → 1 ≤ q.wishes (ForContent m t there)
    → Allowed o e c (act.Grant m t there) (granting m t there q)
grant_allowed o e c q m t there h home here free l = record {
  allowed = and_true ((m.home == e.server) && rules.is_in c m) (is_wished c (ForContent m t there)) (and_true (m.home == e.server) (rules.is_in c m) home (ap (holds (λ (g : Guarded). is_none g.holder)) (h.mutexes m here ∙ ap (λ y. Some (guarded m y)) free))) (wished c q (ForContent m t there) h l);
  fits = record {
    objects = h.objects;
    copies = h.copies;
    served = h.served;
    issued = h.issued;
    started = h.started;
    servers = h.servers;
    ended = h.ended;
    wishes = λ b. answered c (ForContent m t there) b ∙ wishes_less (ForContent m t there) (λ y. tot (λ x. one (same_wish y x)) c.wishes) q.wishes h.wishes b;
    made = λ n. ap is_some (changed n) ∙ still (mutex_at c n) ∙ h.made n;
    mutexes = λ n g. changed n ∙ ap (option_map (λ x. if is_mutex m x then with_holder t x else x)) (h.mutexes n g) ∙ by n (same_mutex n m);
  };
}
  where
    changed : (n : MutexNo) → first (is_mutex n) (with_each (is_mutex m) (with_holder t) c.mutexes) ≡ option_map (λ x. if is_mutex m x then with_holder t x else x) (mutex_at c n)
    changed n = found_each (is_mutex n) (is_mutex m) (with_holder t) c.mutexes (λ x. refl)

    still : (y : Option Guarded) → is_some (option_map (λ x. if is_mutex m x then with_holder t x else x) y) ≡ is_some y
    still None = refl
    still (Some g) = refl

    by : (n : MutexNo) (d : Bool) → Some (if d then with_holder t (guarded n (q.holder n)) else guarded n (q.holder n)) ≡ Some (guarded n (if d then Some t else q.holder n))
    by n true = refl
    by n false = refl

-- the mutex was made, or the thread was started
abbrev pub is_told : Answers → Released → Bool
is_told q (released.Mutex m) = q.made m
is_told q (released.Task t) = q.started t

-- what is let go is known, and nothing changes
pub let_go_allowed : (o : Options) (e : EntryView) (c : Coloured) (q : Answers) (x : Released) → Fits q c → is_told q x ≡ true → Allowed o e c (act.LetGo x) q
let_go_allowed o e c q x h known = record {
  allowed = by x known;
  fits = record {
    objects = h.objects;
    copies = h.copies;
    served = h.served;
    issued = h.issued;
    started = h.started;
    servers = h.servers;
    ended = h.ended;
    wishes = h.wishes;
    made = h.made;
    mutexes = h.mutexes;
  };
}
  where
    by : (x : Released) → is_told q x ≡ true → rules.is_known c x ≡ true
    by (released.Mutex m) k = h.made m ∙ k
    by (released.Task t) k = h.started t ∙ k

-- OBJECTS

abbrev given_up : Living → Living
given_up x = record x { is_condemned = true }

-- the object's pointer is given up
abbrev pub condemning : ObjNo → Answers → Answers
condemning p q = record q { object = λ o. option_map (λ x. if is_object p x then given_up x else x) (q.object o) }

pub condemn_allowed : (o : Options) (e : EntryView) (c : Coloured) (q : Answers) (p : ObjNo) (w : ℕ) (x : Living) → Fits q c → q.object p ≡ Some x → (x.word == w) ≡ true → x.is_condemned ≡ false → Allowed o e c (act.Condemn p w) (condemning p q)
condemn_allowed o e c q p w x h at named kept = record {
  allowed = ap (holds (λ (y : Living). (y.word == w) && not y.is_condemned)) (h.objects p ∙ at) ∙ and_true (x.word == w) (not x.is_condemned) named (ap not kept);
  fits = record {
    objects = λ n. found_each (is_object n) (is_object p) given_up c.living (λ y. refl) ∙ ap (option_map (λ y. if is_object p y then given_up y else y)) (h.objects n);
    copies = h.copies;
    served = h.served;
    issued = h.issued;
    started = h.started;
    servers = h.servers;
    ended = h.ended;
    wishes = h.wishes;
    made = h.made;
    mutexes = h.mutexes;
  };
}
