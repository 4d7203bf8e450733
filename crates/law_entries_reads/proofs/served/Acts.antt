-- Acts that answer for objects: a copy is served, comes to the cache, and an object leaves.
use Rattle.std.proofs.Common.{◌≡◌, ℕ, ◌+◌, ◌-◌, ◌≤◌, ◌==◌, ◌&&◌, not, Bool, true, false, if◌then◌else◌, List, [], ◌∷◌, ◌++◌, Some, is_some, option_map, refl, sym, ap, ap₂, ◌∙◌, arith}
use Rattle.std.proofs.lemmas.Bool.{lt-ltb}
use Rattle.law_entries_variables.specs.Below.fr_base.Lists.{tot, one}
use Rattle.law_entries_variables.specs.Below.fr_base.declared.name.ObjNo.{ObjNo}
use Rattle.law_entries_variables.specs.Below.fr_base.declared.label.Plain.{Plain}
use Rattle.law_entries_variables.specs.Below.fr_base.declared.settings.Options.{Options}
use Rattle.law_entries_variables.specs.Below.journal.View.{EntryView}
use Rattle.law_entries_variables.specs.Below.journal.declared.act.Act.TheVariants as act
use Rattle.law_entries_variables.specs.Below.coloured_heap.Lists.{first, holds, less_first, less_all, times}
use Rattle.law_entries_variables.specs.Below.coloured_heap.Heap.{Flies, Living, Copied, Wish, ForCopy, ForObject, Coloured, is_object, object_at, lies_at, is_under, copy_at, is_copy, next_served, value_in, same_wish, is_wished}
use Rattle.law_entries_variables.specs.Below.coloured_heap.Rules.{names, is_here, is_kept}
use Rattle.law_entries_variables.specs.Below.coloured_heap.Changes.{with_copy}
use Rattle.law_entries_variables.proofs.Below.coloured_heap.Times.{both, number_is}
use Rattle.law_entries_variables.proofs.Below.coloured_heap.Found.{found_each, found_less, times_less, times_other, has_some}
use Rattle.law_entries_variables.proofs.Below.coloured_heap.Same.{wish_is}
use Rattle.law_entries_variables.proofs.Below.coloured_heap.ShownNames.{number_flip}
use Rattle.law_entries_variables.specs.Below.coherent_memory.Colours.{same_copied}
use Rattle.law_entries_variables.proofs.deliveries.Answers.{Answers, Fits, Allowed, answering, less_wish}
use Rattle.law_entries_variables.proofs.deliveries.Shown.{copies_test}

pub and_true : (p q : Bool) → p ≡ true → q ≡ true → (p && q) ≡ true
and_true true q a b = b
and_true false q a b = absurd (cc a)

-- WISHES

-- one wish less is there
answered : (c : Coloured) (q : Answers) (a : Wish) → Fits q c → (b : Wish) → tot (λ x. one (same_wish b x)) (less_first (same_wish a) c.wishes) ≡ less_wish a q.wishes b
answered c q a h b = by (same_wish b a) refl
  where
    by : (d : Bool) → same_wish b a ≡ d → times (same_wish b) (less_first (same_wish a) c.wishes) ≡ (if d then q.wishes b - 1 else q.wishes b)
    by true is = times_less (same_wish b) (same_wish a) c.wishes (λ x. ap (λ z. same_wish z x) (sym (wish_is b a is))) ∙ ap (λ n. n - 1) (h.wishes b)
    by false is = times_other (same_wish b) (same_wish a) c.wishes (λ x gone. ap (λ z. same_wish b z) (sym (wish_is a x gone)) ∙ is) ∙ h.wishes b

-- what is asked for is wished
wished : (c : Coloured) (q : Answers) (a : Wish) → Fits q c → 1 ≤ q.wishes a → is_wished c a ≡ true
wished c q a h l = has_some (same_wish a) c.wishes ∙ lt-ltb 0 (times (same_wish a) c.wishes) (omega (arith, l, h.wishes a))

-- LISTS

tot_end : {A : Type 0} (f : A → ℕ) (xs : List A) (y : A) → tot f (xs ++ y ∷ []) ≡ tot f xs + f y
tot_end f [] y = omega arith
tot_end f (x ∷ xs) y = omega (arith, tot_end f xs y)

-- what passes a test is found first, where nothing else that is there passes it
found_copy : (test : Copied → Bool) (x : Copied) (xs : List Copied) → test x ≡ true → 1 ≤ tot (λ b. one (same_copied x b)) xs → ((b : Copied) → 1 ≤ tot (λ d. one (same_copied b d)) xs → test b ≡ true → b ≡ x) → first test xs ≡ Some x
found_copy test x [] passes l alone = absurd (omega (arith, l))
found_copy test x (y ∷ ys) passes l alone = by (test y) refl (same_copied x y) refl (λ m z. found_copy test x ys passes m z)
  where
    mine : 1 ≤ one (same_copied y y) + tot (λ d. one (same_copied y d)) ys
    mine = let o : one (same_copied y y) ≡ 1 = ap one (copies_test.itself y) in omega (arith, o)

    by : (b : Bool) → test y ≡ b → (d : Bool) → same_copied x y ≡ d → (1 ≤ tot (λ b. one (same_copied x b)) ys → ((b : Copied) → 1 ≤ tot (λ d. one (same_copied b d)) ys → test b ≡ true → b ≡ x) → first test ys ≡ Some x)
        → (if b then Some y else first test ys) ≡ Some x
    by true e d f go = ap (λ z. Some z) (alone y mine e)
    by false e true f go = let same : x ≡ y = copies_test.tells x y f in let no : true ≡ false = sym passes ∙ ap test same ∙ e in absurd (cc no)
    by false e false f go =
        let none : one (same_copied x y) ≡ 0 = ap one f in
        go (omega (arith, l, none)) (λ b m. alone b (omega (arith, m)))

-- it goes, and the others stay
less_copy : (test : Copied → Bool) (x : Copied) (xs : List Copied) → first test xs ≡ Some x → (a : Copied) → tot (λ b. one (same_copied a b)) (less_first test xs) + one (same_copied a x) ≡ tot (λ b. one (same_copied a b)) xs
less_copy test x [] e a = absurd (cc e)
less_copy test x (y ∷ ys) e a = by (test y) e (λ f. less_copy test x ys f a)
  where
    by : (b : Bool) → (if b then Some y else first test ys) ≡ Some x → (first test ys ≡ Some x → tot (λ d. one (same_copied a d)) (less_first test ys) + one (same_copied a x) ≡ tot (λ d. one (same_copied a d)) ys) → tot (λ d. one (same_copied a d)) (if b then ys else y ∷ less_first test ys) + one (same_copied a x) ≡ one (same_copied a y) + tot (λ d. one (same_copied a d)) ys
    by true f go = let same : y ≡ x = cc in let o : one (same_copied a y) ≡ one (same_copied a x) = ap (λ z. one (same_copied a z)) same in omega (arith, o)
    by false f go = omega (arith, go f)

-- A COPY IS SERVED

abbrev pub serving : Wish → Copied → Answers → Answers
serving a x q = record (answering a q) { served = λ b. q.served b + one (same_copied b x) }

abbrev pub copied_so : ℕ → ℕ → ObjNo → Plain → Copied
copied_so here w p v = record { server = here; word = w; object = p; value = v }

pub serve_allowed : (o : Options) (e : EntryView) (c : Coloured) (q : Answers) (p : ObjNo) (w there : ℕ) (x : Living) → Fits q c → q.object p ≡ Some x → (x.word == w) ≡ true → x.is_condemned ≡ false → lies_at e.server x.place ≡ true → 1 ≤ q.wishes (ForCopy p w there)
    → Allowed o e c (act.Serve p w there) (serving (ForCopy p w there) (copied_so there w p x.value) q)
serve_allowed o e c q p w there x h at named kept here l = record {
  allowed = and_true (names c p w && is_here e c p) (is_wished c (ForCopy p w there)) (and_true (names c p w) (is_here e c p) its_word lies_here) (wished c q (ForCopy p w there) h l);
  fits = record {
    objects = h.objects;
    copies = h.copies;
    served = λ b. tot_end (λ d. one (same_copied b d)) c.served (copied_so there w p (value_in (object_at c p)))
        ∙ ap₂ (λ m v. m + one (same_copied b (copied_so there w p v))) (h.served b) (ap value_in (h.objects p ∙ at));
    issued = h.issued;
    started = h.started;
    servers = h.servers;
    ended = h.ended;
    wishes = answered c q (ForCopy p w there) h;
    made = h.made;
    mutexes = h.mutexes;
  };
}
  where
    its_word : names c p w ≡ true
    its_word = ap (holds (λ (y : Living). (y.word == w) && not y.is_condemned)) (h.objects p ∙ at) ∙ and_true (x.word == w) (not x.is_condemned) named (ap not kept)

    lies_here : is_here e c p ≡ true
    lies_here = ap (holds (λ (y : Living). lies_at e.server y.place)) (h.objects p ∙ at) ∙ here

-- A COPY COMES

abbrev pub filling : Copied → Answers → Answers
filling x q = record q { copy = λ r v. if is_under r v x then Some x else q.copy r v; served = λ b. q.served b - one (same_copied b x) }

filled_copy : (c : Coloured) (x : Copied) (r v : ℕ) → first (is_under r v) (x ∷ less_all (is_under x.server x.word) c.cached) ≡ (if is_under r v x then Some x else copy_at c r v)
filled_copy c x r v = by (is_under r v x) refl
  where
    gone : (y : Copied) → is_under r v y ≡ true → is_under x.server x.word y ≡ is_under r v x
    gone y at =
        let b = both (y.server == r) (y.word == v) at in
        ap₂ (λ i j. (i == x.server) && (j == x.word)) (number_is y.server r b.0) (number_is y.word v b.1) ∙ ap₂ (λ i j. i && j) (number_flip r x.server) (number_flip v x.word)

    by : (b : Bool) → is_under r v x ≡ b → (if b then Some x else first (is_under r v) (less_all (is_under x.server x.word) c.cached)) ≡ (if b then Some x else copy_at c r v)
    by true e = refl
    by false e = found_less (is_under r v) (is_under x.server x.word) false c.cached (λ y at. gone y at ∙ e)

pub fill_allowed : (o : Options) (e : EntryView) (c : Coloured) (q : Answers) (p : ObjNo) (w : ℕ) (y : Living) (v : Plain) → Fits q c → q.object p ≡ Some y → y.is_condemned ≡ false → is_copy p w e.server (copied_so e.server w p v) ≡ true → 1 ≤ q.served (copied_so e.server w p v)
    → ((b : Copied) → 1 ≤ q.served b → is_copy p w e.server b ≡ true → b ≡ copied_so e.server w p v) → Allowed o e c (act.Fill p w) (filling (copied_so e.server w p v) q)
fill_allowed o e c q p w y v h at kept itself l alone = record {
  allowed = and_true (is_kept c p) (is_some (next_served c p w e.server)) (ap (holds (λ (z : Living). not z.is_condemned)) (h.objects p ∙ at) ∙ ap not kept) (ap is_some next);
  fits = record {
    objects = h.objects;
    copies = λ r u. ap (λ z. first (is_under r u) (with_copy z c.cached)) next ∙ filled_copy c x r u ∙ ap (λ z. if is_under r u x then Some x else z) (h.copies r u);
    served = λ b. omega (arith, less_copy (is_copy p w e.server) x c.served next b, h.served b);
    issued = h.issued;
    started = h.started;
    servers = h.servers;
    ended = h.ended;
    wishes = h.wishes;
    made = h.made;
    mutexes = h.mutexes;
  };
}
  where
    x : Copied
    x = copied_so e.server w p v

    next : next_served c p w e.server ≡ Some x
    next = found_copy (is_copy p w e.server) x c.served itself (omega (arith, l, h.served x)) (λ b m. alone b (omega (arith, m, h.served b)))

-- AN OBJECT LEAVES

abbrev pub flown : ℕ → Living → Living
flown there x = record x { place = Flies there }

abbrev pub giving : ObjNo → ℕ → ℕ → Answers → Answers
giving p w there q = record (answering (ForObject p w there) q) { object = λ o. option_map (λ x. if is_object p x then flown there x else x) (q.object o) }

pub give_allowed : (o : Options) (e : EntryView) (c : Coloured) (q : Answers) (p : ObjNo) (w there : ℕ) (x : Living) → Fits q c → q.object p ≡ Some x → (x.word == w) ≡ true → x.is_condemned ≡ false → lies_at e.server x.place ≡ true → 1 ≤ q.wishes (ForObject p w there)
    → Allowed o e c (act.Give p w there) (giving p w there q)
give_allowed o e c q p w there x h at named kept here l = record {
  allowed = and_true (names c p w && is_here e c p) (is_wished c (ForObject p w there)) (and_true (names c p w) (is_here e c p) its_word lies_here) (wished c q (ForObject p w there) h l);
  fits = record {
    objects = λ n. found_each (is_object n) (is_object p) (flown there) c.living (λ y. refl) ∙ ap (option_map (λ y. if is_object p y then flown there y else y)) (h.objects n);
    copies = h.copies;
    served = h.served;
    issued = h.issued;
    started = h.started;
    servers = h.servers;
    ended = h.ended;
    wishes = answered c q (ForObject p w there) h;
    made = h.made;
    mutexes = h.mutexes;
  };
}
  where
    its_word : names c p w ≡ true
    its_word = ap (holds (λ (y : Living). (y.word == w) && not y.is_condemned)) (h.objects p ∙ at) ∙ and_true (x.word == w) (not x.is_condemned) named (ap not kept)

    lies_here : is_here e c p ≡ true
    lies_here = ap (holds (λ (y : Living). lies_at e.server y.place)) (h.objects p ∙ at) ∙ here
