-- The same states allow the same, and stay the same.
use Rattle.std.proofs.Common.{◌≡◌, inl, inr, ◌+◌, ◌++◌, ◌==◌, ◌&&◌, not, ℕ, Bool, true, false, List, [], ◌∷◌, Option, Some, None, refl, ap, ap₂, sym, ◌∙◌}
use Rattle.std.specs.Prelude.{filter, nat_lt, slice_get, is_some, is_none}
use Rattle.fr_base.specs.Lists.{one}
use Rattle.fr_base.specs.Names.{same_object, same_mutex, home_of}
use Rattle.fr_base.specs.declared.label.Label.{Label}
use Rattle.fr_base.specs.declared.label.Label.TheVariants as label
use Rattle.fr_base.specs.declared.label.Plain.{Plain}
use Rattle.fr_base.specs.declared.name.MutexNo.{MutexNo}
use Rattle.fr_base.specs.declared.name.ObjNo.{ObjNo}
use Rattle.fr_base.specs.declared.release.Released.{Released}
use Rattle.fr_base.specs.declared.release.Released.TheVariants as released
use Rattle.fr_base.specs.declared.settings.Options.{Options}
use Rattle.fr_base.specs.declared.step.Fresh.{Fresh}
use Rattle.fr_base.specs.declared.step.Fresh.TheVariants as fresh
use Rattle.global_addr.specs.Words.{colour_of, server_of, next_word}
use Rattle.journal.specs.declared.act.Act.{Act}
use Rattle.journal.specs.declared.act.Act.TheVariants as act
use Rattle.journal.specs.View.{EntryView}
use Rattle.coloured_heap.specs.Lists.{first, holds, has, less_all}
use Rattle.coloured_heap.specs.Heap.{Lies, Flies, Living, Copied, Wish, ForCopy, ForObject, ForContent, ForShare, ForResult, Running, Coloured, is_lying, lies_at, flies_to, is_thread, is_object, value_in, value_of, is_under, is_cached, is_copy, next_served, same_wish, is_wished, is_mutex}
use Rattle.coloured_heap.specs.Rules.{issued_by, is_new, names, is_here, lies, comes_here, of_run, is_by, is_holder, is_known, starting_server, rule, allows}
use Rattle.coloured_heap.specs.Changes.{made_value, with_object, change, with_value, wishing, answering, serving, with_copy, filling, with_holder, change_thread, asker_of, changed_by, with_new, after_act, stored, with_new_mutex}
use Rattle.coloured_heap.specs.Legal.{is_placed, is_new_name}
use Rattle.coloured_heap.specs.Same.{Same, SameIsEquivalence}
use Rattle.coloured_heap.proofs.Found.{OneGoes, first_of_filter, has_some, front_alike, has_alike, each_alike, less_alike, filter_alike, times_alike, filter_end}
use Rattle.coloured_heap.proofs.Times.{both, number_is, object_is, mutex_is}

-- AN EQUIVALENCE

pub equivalence : SameIsEquivalence
equivalence = record {
  reflexive = λ s. record { objects = λ p. refl; copies = λ here w. refl; served = λ p w here. refl; issued = λ w. refl; threads = λ u. refl; wishes = λ a. refl; mutexes = λ m. refl };
  symmetric = λ s t h. record {
    objects = λ p. sym (h.objects p);
    copies = λ here w. sym (h.copies here w);
    served = λ p w here. sym (h.served p w here);
    issued = λ w. sym (h.issued w);
    threads = λ u. sym (h.threads u);
    wishes = λ a. sym (h.wishes a);
    mutexes = λ m. sym (h.mutexes m);
  };
  transitive = λ s t u h g. record {
    objects = λ p. h.objects p ∙ g.objects p;
    copies = λ here w. h.copies here w ∙ g.copies here w;
    served = λ p w here. h.served p w here ∙ g.served p w here;
    issued = λ w. h.issued w ∙ g.issued w;
    threads = λ u. h.threads u ∙ g.threads u;
    wishes = λ a. h.wishes a ∙ g.wishes a;
    mutexes = λ m. h.mutexes m ∙ g.mutexes m;
  };
}

-- RULES

module _ (s t : Coloured) (h : Same s t) where
  next_same : (p : ObjNo) (w here : ℕ) → next_served s p w here ≡ next_served t p w here
  next_same p w here = first_of_filter (is_copy p w here) s.served ∙ ap (λ cs. slice_get cs 0) (h.served p w here) ∙ sym (first_of_filter (is_copy p w here) t.served)

  wished_same : (a : Wish) → is_wished s a ≡ is_wished t a
  wished_same a = has_some (same_wish a) s.wishes ∙ ap (nat_lt 0) (h.wishes a) ∙ sym (has_some (same_wish a) t.wishes)

  names_same : (p : ObjNo) (w : ℕ) → names s p w ≡ names t p w
  names_same p w = ap (λ r. holds (λ x. (x.word == w) && not x.is_condemned) r) (h.objects p)

  pub here_same : (e : EntryView) (p : ObjNo) → is_here e s p ≡ is_here e t p
  here_same e p = ap (λ r. holds (λ x. lies_at e.server x.place) r) (h.objects p)

  named_here : (e : EntryView) (p : ObjNo) (w : ℕ) → names s p w && is_here e s p ≡ names t p w && is_here e t p
  named_here e p w = ap₂ (λ a b. a && b) (names_same p w) (here_same e p)

  named_away : (e : EntryView) (p : ObjNo) (w : ℕ) → names s p w && not (is_here e s p) ≡ names t p w && not (is_here e t p)
  named_away e p w = ap₂ (λ a b. a && not b) (names_same p w) (here_same e p)

  lies_same : (p : ObjNo) → lies s p ≡ lies t p
  lies_same p = ap (λ r. holds (λ x. is_lying x.place) r) (h.objects p)

  comes_same : (e : EntryView) (p : ObjNo) → comes_here e s p ≡ comes_here e t p
  comes_same e p = ap (λ r. holds (λ x. flies_to e.server x.place) r) (h.objects p)

  cached_same : (here w : ℕ) → is_cached s here w ≡ is_cached t here w
  cached_same here w = ap (λ r. holds (λ c. true) r) (h.copies here w)

  known_same : (x : Released) → is_known s x ≡ is_known t x
  known_same (released.Mutex m) = ap is_some (h.mutexes m)
  known_same (released.Task u) = ap is_some (h.threads u)

  rule_same : (o : Options) (e : EntryView) (a : Act) → rule o e s a ≡ rule o e t a
  rule_same o e (act.Make p w) = ap (λ r. is_none r && is_by e p.thread && (server_of w == e.server)) (h.objects p)
  rule_same o e (act.Local p w) = named_here e p w
  rule_same o e (act.Hit p w) = ap₂ (λ a b. a && b) (names_same p w) (cached_same e.server w)
  rule_same o e (act.Ask p w) = ap₂ (λ a b. a && not b) (named_away e p w) (cached_same e.server w)
  rule_same o e (act.Serve p w there) = ap₂ (λ a b. a && b) (named_here e p w) (wished_same (ForCopy p w there))
  rule_same o e (act.Fill p w) = ap₂ (λ r c. holds (λ x. not x.is_condemned) r && is_some c) (h.objects p) (next_same p w e.server)
  rule_same o e (act.Pull p w) = named_away e p w
  rule_same o e (act.Give p w there) = ap₂ (λ a b. a && b) (named_here e p w) (wished_same (ForObject p w there))
  rule_same o e (act.Take p old new) = ap₂ (λ a b. a && b && (server_of new == e.server)) (names_same p old) (comes_same e p)
  rule_same o e (act.Tint p old new) = ap₂ (λ a b. a && b && (new == next_word old)) (names_same p old) (lies_same p)
  rule_same o e (act.Renew p old new) = ap (λ a. a && (colour_of old + 1 == o.colours) && (server_of new == e.server)) (named_here e p old)
  rule_same o e (act.Condemn p w) = names_same p w
  rule_same o e (act.Free p w) = ap (λ r. holds (λ x. (x.word == w) && x.is_condemned && lies_at e.server x.place) r) (h.objects p)
  rule_same o e (act.Evict w) = cached_same e.server w
  rule_same o e (act.AskLock m) = ap (λ r. is_some e.thread && is_some r) (h.mutexes m)
  rule_same o e (act.Grant m u there) = ap₂ (λ r b. (m.home == e.server) && holds (λ g. is_none g.holder) r && b) (h.mutexes m) (wished_same (ForContent m u there))
  rule_same o e (act.GiveBack m) = ap (λ r. holds (is_holder e) r) (h.mutexes m)
  rule_same o e (act.AskDup m) = ap (λ r. is_some e.thread && is_some r) (h.mutexes m)
  rule_same o e (act.Dupped m u there) = ap (λ b. (m.home == e.server) && b) (wished_same (ForShare m u there))
  rule_same o e (act.LetGo x) = known_same x
  rule_same o e (act.Start u there) = ap (λ r. is_some e.thread && (home_of u == e.server) && is_none r && (there == starting_server o u)) (h.threads u)
  rule_same o e (act.AskJoin u) = ap (λ r. is_some e.thread && is_some r) (h.threads u)
  rule_same o e (act.Answer u asker there) = ap₂ (λ r b. (home_of u == e.server) && holds (λ x. x.has_ended) r && b) (h.threads u) (wished_same (ForResult u asker there))
  rule_same o e (act.Finish u) = ap (λ r. is_by e u && not (u == 0) && not (holds (λ x. x.has_ended) r)) (h.threads u)
  rule_same o e (act.Depart u there) = refl

  new_same : (o : Options) (new : Option ℕ) → is_new o s new ≡ is_new o t new
  new_same o None = refl
  new_same o (Some w) = ap (λ b. nat_lt (colour_of w) o.colours && not b) (h.issued w)

  pub allows_same : (o : Options) (e : EntryView) (a : Act) → allows o e s a ≡ allows o e t a
  allows_same o e a = ap₂ (λ x y. x && y) (new_same o (issued_by a)) (rule_same o e a)

  pub name_same : (here : ℕ) (new : Option Fresh) → is_new_name s here new ≡ is_new_name t here new
  name_same here None = refl
  name_same here (Some fresh.None) = refl
  name_same here (Some (fresh.Thread u)) = refl
  name_same here (Some (fresh.Threads u v)) = refl
  name_same here (Some (fresh.Mutex m)) = ap (λ r. (m.home == here) && is_none r) (h.mutexes m)

  pub place_same : (o : Options) (e : EntryView) → is_placed o s e ≡ is_placed o t e
  place_same o e = by e.thread
    where
      by : (u : Option ℕ) → is_placed o s (record e { thread = u }) ≡ is_placed o t (record e { thread = u })
      by None = refl
      by (Some u) = ap (λ r. of_run o e.server && holds (λ x. x.server == e.server) r) (h.threads u)

-- CHANGES

-- wishes that the test takes for the same are the same
pub wish_is : (a b : Wish) → same_wish a b ≡ true → a ≡ b
wish_is (ForCopy p w here) (ForCopy q v there) h = let b = both (same_object p q && (w == v)) (here == there) h in let c = both (same_object p q) (w == v) b.0 in
    ap₂ (λ x y. ForCopy x y here) (object_is p q c.0) (number_is w v c.1) ∙ ap (λ z. ForCopy q v z) (number_is here there b.1)
wish_is (ForObject p w here) (ForObject q v there) h = let b = both (same_object p q && (w == v)) (here == there) h in let c = both (same_object p q) (w == v) b.0 in
    ap₂ (λ x y. ForObject x y here) (object_is p q c.0) (number_is w v c.1) ∙ ap (λ z. ForObject q v z) (number_is here there b.1)
wish_is (ForContent m u here) (ForContent n v there) h = let b = both (same_mutex m n && (u == v)) (here == there) h in let c = both (same_mutex m n) (u == v) b.0 in
    ap₂ (λ x y. ForContent x y here) (mutex_is m n c.0) (number_is u v c.1) ∙ ap (λ z. ForContent n v z) (number_is here there b.1)
wish_is (ForShare m u here) (ForShare n v there) h = let b = both (same_mutex m n && (u == v)) (here == there) h in let c = both (same_mutex m n) (u == v) b.0 in
    ap₂ (λ x y. ForShare x y here) (mutex_is m n c.0) (number_is u v c.1) ∙ ap (λ z. ForShare n v z) (number_is here there b.1)
wish_is (ForResult u asker here) (ForResult v other there) h = let b = both ((u == v) && (asker == other)) (here == there) h in let c = both (u == v) (asker == other) b.0 in
    ap₂ (λ x y. ForResult x y here) (number_is u v c.0) (number_is asker other c.1) ∙ ap (λ z. ForResult v other z) (number_is here there b.1)
wish_is a b h = absurd cc

-- a wish that is answered is this one, or another one
pub wish_goes : (b a : Wish) → OneGoes (same_wish b) (same_wish a)
wish_goes b a = by (same_wish b a) refl
  where
    by : (d : Bool) → same_wish b a ≡ d → OneGoes (same_wish b) (same_wish a)
    by true is = inl (λ x. ap (λ z. same_wish z x) (sym (wish_is b a is)))
    by false is = inr (λ x gone. ap (λ z. same_wish b z) (sym (wish_is a x gone)) ∙ is)

pub copy_goes : (q p : ObjNo) (v w there here : ℕ) → OneGoes (is_copy q v there) (is_copy p w here)
copy_goes q p v w there here = by (((here == there) && (w == v)) && same_object p q) refl
  where
    by : (d : Bool) → ((here == there) && (w == v)) && same_object p q ≡ d → OneGoes (is_copy q v there) (is_copy p w here)
    by true is = let b = both ((here == there) && (w == v)) (same_object p q) is in let c = both (here == there) (w == v) b.0 in
        inl (λ x. ap₂ (λ y z. ((x.server == y) && (x.word == z)) && same_object x.object p) (number_is here there c.0) (number_is w v c.1) ∙ ap (λ y. is_under there v x && same_object x.object y) (object_is p q b.1))
    by false is = inr (λ x gone. let b = both (is_under here w x) (same_object x.object p) gone in let c = both (x.server == here) (x.word == w) b.0 in
        ap₂ (λ y z. ((y == there) && (z == v)) && same_object x.object q) (number_is x.server here c.0) (number_is x.word w c.1) ∙ ap (λ y. ((here == there) && (w == v)) && same_object y q) (object_is x.object p b.1) ∙ is)

object_goes : (q p : ObjNo) (x : Living) → is_object q x ≡ true → is_object p x ≡ same_object q p
object_goes q p x is = ap (λ z. same_object z p) (object_is x.object q is)

under_goes : (there v here w : ℕ) (c : Copied) → is_under there v c ≡ true → is_under here w c ≡ (there == here) && (v == w)
under_goes there v here w c is = let b = both (c.server == there) (c.word == v) is in ap₂ (λ y z. (y == here) && (z == w)) (number_is c.server there b.0) (number_is c.word v b.1)

made_same : (x : Living) (s t : Coloured) → Same s t → Same (with_object s x) (with_object t x)
made_same x s t h = record {
  objects = λ q. front_alike (is_object q) x s.living t.living (h.objects q);
  copies = h.copies;
  served = h.served;
  issued = h.issued;
  threads = h.threads;
  wishes = h.wishes;
  mutexes = h.mutexes;
}

change_same : (p : ObjNo) (f : Living → Living) → ((q : ObjNo) (x : Living) → is_object q (f x) ≡ is_object q x) → (s t : Coloured) → Same s t → Same (change s p f) (change t p f)
change_same p f kept s t h = record {
  objects = λ q. each_alike (is_object q) (is_object p) f s.living t.living (kept q) (h.objects q);
  copies = h.copies;
  served = h.served;
  issued = h.issued;
  threads = h.threads;
  wishes = h.wishes;
  mutexes = h.mutexes;
}

freed_same : (p : ObjNo) (s t : Coloured) → Same s t → Same (record s { living = less_all (is_object p) s.living }) (record t { living = less_all (is_object p) t.living })
freed_same p s t h = record {
  objects = λ q. less_alike (is_object q) (is_object p) (same_object q p) s.living t.living (object_goes q p) (h.objects q);
  copies = h.copies;
  served = h.served;
  issued = h.issued;
  threads = h.threads;
  wishes = h.wishes;
  mutexes = h.mutexes;
}

wishing_same : (a : Wish) (s t : Coloured) → Same s t → Same (wishing s a) (wishing t a)
wishing_same a s t h = record {
  objects = h.objects;
  copies = h.copies;
  served = h.served;
  issued = h.issued;
  threads = h.threads;
  wishes = λ b. ap (λ n. one (same_wish b a) + n) (h.wishes b);
  mutexes = h.mutexes;
}

answering_same : (a : Wish) (s t : Coloured) → Same s t → Same (answering s a) (answering t a)
answering_same a s t h = record {
  objects = h.objects;
  copies = h.copies;
  served = h.served;
  issued = h.issued;
  threads = h.threads;
  wishes = λ b. times_alike (same_wish b) (same_wish a) s.wishes t.wishes (wish_goes b a) (h.wishes b);
  mutexes = h.mutexes;
}

serving_same : (p : ObjNo) (w there : ℕ) (s t : Coloured) → Same s t → Same (serving s p w there) (serving t p w there)
serving_same p w there s t h = record {
  objects = h.objects;
  copies = h.copies;
  served = λ q v here. filter_end (is_copy q v here) s.served (copy (value_of s p))
      ∙ ap₂ (λ cs x. cs ++ filter (is_copy q v here) (copy x ∷ [])) (h.served q v here) (ap value_in (h.objects p))
      ∙ sym (filter_end (is_copy q v here) t.served (copy (value_of t p)));
  issued = h.issued;
  threads = h.threads;
  wishes = h.wishes;
  mutexes = h.mutexes;
}
  where
    copy : Plain → Copied
    copy x = record { server = there; word = w; object = p; value = x }

filling_same : (p : ObjNo) (w here : ℕ) (s t : Coloured) → Same s t → Same (filling s p w here) (filling t p w here)
filling_same p w here s t h = record {
  objects = h.objects;
  copies = λ there v. by there v (next_served s p w here) ∙ ap (λ c. first (is_under there v) (with_copy c t.cached)) (next_same s t h p w here);
  served = λ q v there. filter_alike (is_copy q v there) (is_copy p w here) s.served t.served (copy_goes q p v w there here) (h.served q v there);
  issued = h.issued;
  threads = h.threads;
  wishes = h.wishes;
  mutexes = h.mutexes;
}
  where
    by : (there v : ℕ) (c : Option Copied) → first (is_under there v) (with_copy c s.cached) ≡ first (is_under there v) (with_copy c t.cached)
    by there v None = h.copies there v
    by there v (Some c) = front_alike (is_under there v) c (less_all (is_under c.server c.word) s.cached) (less_all (is_under c.server c.word) t.cached)
        (less_alike (is_under there v) (is_under c.server c.word) ((there == c.server) && (v == c.word)) s.cached t.cached (under_goes there v c.server c.word) (h.copies there v))

evicted_same : (here w : ℕ) (s t : Coloured) → Same s t → Same (record s { cached = less_all (is_under here w) s.cached }) (record t { cached = less_all (is_under here w) t.cached })
evicted_same here w s t h = record {
  objects = h.objects;
  copies = λ there v. less_alike (is_under there v) (is_under here w) ((there == here) && (v == w)) s.cached t.cached (under_goes there v here w) (h.copies there v);
  served = h.served;
  issued = h.issued;
  threads = h.threads;
  wishes = h.wishes;
  mutexes = h.mutexes;
}

holder_same : (m : MutexNo) (x : Option ℕ) (s t : Coloured) → Same s t → Same (with_holder s m x) (with_holder t m x)
holder_same m x s t h = record {
  objects = h.objects;
  copies = h.copies;
  served = h.served;
  issued = h.issued;
  threads = h.threads;
  wishes = h.wishes;
  mutexes = λ n. each_alike (is_mutex n) (is_mutex m) (λ g. record g { holder = x }) s.mutexes t.mutexes (λ g. refl) (h.mutexes n);
}

thread_same : (u : ℕ) (f : Running → Running) → ((v : ℕ) (r : Running) → is_thread v (f r) ≡ is_thread v r) → (s t : Coloured) → Same s t → Same (change_thread s u f) (change_thread t u f)
thread_same u f kept s t h = record {
  objects = h.objects;
  copies = h.copies;
  served = h.served;
  issued = h.issued;
  threads = λ v. each_alike (is_thread v) (is_thread u) f s.threads t.threads (kept v) (h.threads v);
  wishes = h.wishes;
  mutexes = h.mutexes;
}

started_same : (r : Running) (s t : Coloured) → Same s t → Same (record s { threads = r ∷ s.threads }) (record t { threads = r ∷ t.threads })
started_same r s t h = record {
  objects = h.objects;
  copies = h.copies;
  served = h.served;
  issued = h.issued;
  threads = λ v. front_alike (is_thread v) r s.threads t.threads (h.threads v);
  wishes = h.wishes;
  mutexes = h.mutexes;
}

changed_same : (e : EntryView) (a : Act) (s t : Coloured) → Same s t → Same (changed_by e s a) (changed_by e t a)
changed_same e (act.Make p w) s t h = made_same (record { object = p; place = Lies e.server; word = w; value = made_value p e.labels; is_condemned = false }) s t h
changed_same e (act.Local p w) s t h = h
changed_same e (act.Hit p w) s t h = h
changed_same e (act.Ask p w) s t h = wishing_same (ForCopy p w e.server) s t h
changed_same e (act.Serve p w there) s t h = serving_same p w there (answering s (ForCopy p w there)) (answering t (ForCopy p w there)) (answering_same (ForCopy p w there) s t h)
changed_same e (act.Fill p w) s t h = filling_same p w e.server s t h
changed_same e (act.Pull p w) s t h = wishing_same (ForObject p w e.server) s t h
changed_same e (act.Give p w there) s t h = change_same p (λ x. record x { place = Flies there }) (λ q x. refl) (answering s (ForObject p w there)) (answering t (ForObject p w there)) (answering_same (ForObject p w there) s t h)
changed_same e (act.Take p old new) s t h = change_same p (λ x. record x { place = Lies e.server; word = new }) (λ q x. refl) s t h
changed_same e (act.Tint p old new) s t h = change_same p (λ x. record x { word = new }) (λ q x. refl) s t h
changed_same e (act.Renew p old new) s t h = change_same p (λ x. record x { word = new }) (λ q x. refl) s t h
changed_same e (act.Condemn p w) s t h = change_same p (λ x. record x { is_condemned = true }) (λ q x. refl) s t h
changed_same e (act.Free p w) s t h = freed_same p s t h
changed_same e (act.Evict w) s t h = evicted_same e.server w s t h
changed_same e (act.AskLock m) s t h = wishing_same (ForContent m (asker_of e.thread) e.server) s t h
changed_same e (act.Grant m u there) s t h = holder_same m (Some u) (answering s (ForContent m u there)) (answering t (ForContent m u there)) (answering_same (ForContent m u there) s t h)
changed_same e (act.GiveBack m) s t h = holder_same m None s t h
changed_same e (act.AskDup m) s t h = wishing_same (ForShare m (asker_of e.thread) e.server) s t h
changed_same e (act.Dupped m u there) s t h = answering_same (ForShare m u there) s t h
changed_same e (act.LetGo x) s t h = h
changed_same e (act.Start u there) s t h = started_same (record { thread = u; server = there; has_ended = false }) s t h
changed_same e (act.AskJoin u) s t h = wishing_same (ForResult u (asker_of e.thread) e.server) s t h
changed_same e (act.Answer u asker there) s t h = answering_same (ForResult u asker there) s t h
changed_same e (act.Finish u) s t h = thread_same u (λ r. record r { has_ended = true }) (λ v r. refl) s t h
changed_same e (act.Depart u there) s t h = thread_same u (λ r. record r { server = there }) (λ v r. refl) s t h

-- the words that were issued go on from the state before
issued_same : (new : Option ℕ) (s t x y : Coloured) → Same s t → Same x y → Same (record x { issued = with_new new s.issued }) (record y { issued = with_new new t.issued })
issued_same new s t x y h g = record {
  objects = g.objects;
  copies = g.copies;
  served = g.served;
  issued = λ w. by w new;
  threads = g.threads;
  wishes = g.wishes;
  mutexes = g.mutexes;
}
  where
    by : (w : ℕ) (n : Option ℕ) → has (λ v. v == w) (with_new n s.issued) ≡ has (λ v. v == w) (with_new n t.issued)
    by w None = h.issued w
    by w (Some u) = has_alike (λ v. v == w) u s.issued t.issued (h.issued w)

pub act_same : (e : EntryView) (a : Act) (s t : Coloured) → Same s t → Same (after_act e s a) (after_act e t a)
act_same e a s t h = issued_same (issued_by a) s t (changed_by e s a) (changed_by e t a) h (changed_same e a s t h)

pub value_same : (p : ObjNo) (v : Plain) (s t : Coloured) → Same s t → Same (with_value s p v) (with_value t p v)
value_same p v s t h = change_same p (λ x. record x { value = v }) (λ q x. refl) s t h

pub stores_same : (ls : List Label) (s t : Coloured) → Same s t → Same (stored ls s) (stored ls t)
stores_same [] s t h = h
stores_same (label.Make p v ∷ ls) s t h = stores_same ls s t h
stores_same (label.Load p v ∷ ls) s t h = stores_same ls s t h
stores_same (label.Store p v ∷ ls) s t h = stores_same ls (with_value s p v) (with_value t p v) (value_same p v s t h)
stores_same (label.Drop p ∷ ls) s t h = stores_same ls s t h
stores_same (label.Print n ∷ ls) s t h = stores_same ls s t h
stores_same (label.Lock m ∷ ls) s t h = stores_same ls s t h
stores_same (label.Unlock m ∷ ls) s t h = stores_same ls s t h
stores_same (label.Start u ∷ ls) s t h = stores_same ls s t h
stores_same (label.End u ∷ ls) s t h = stores_same ls s t h

pub mutex_same : (new : Option Fresh) (s t : Coloured) → Same s t → Same (with_new_mutex new s) (with_new_mutex new t)
mutex_same None s t h = h
mutex_same (Some fresh.None) s t h = h
mutex_same (Some (fresh.Thread u)) s t h = h
mutex_same (Some (fresh.Threads u v)) s t h = h
mutex_same (Some (fresh.Mutex m)) s t h = record {
  objects = h.objects;
  copies = h.copies;
  served = h.served;
  issued = h.issued;
  threads = h.threads;
  wishes = h.wishes;
  mutexes = λ n. front_alike (is_mutex n) (record { mutex = m; holder = None }) s.mutexes t.mutexes (h.mutexes n);
}
