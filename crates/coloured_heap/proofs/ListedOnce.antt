-- Nothing stands twice in the lists of a state.
use Rattle.std.proofs.Common.{arith, ◌≡◌, ◌≤◌, ◌==◌, ◌&&◌, ℕ, true, false, List, [], ◌∷◌, Option, Some, None, refl, sym, ap, ◌∙◌}
use Rattle.std.specs.Prelude.{is_some, is_none}
use Rattle.fr_base.specs.Names.{home_of}
use Rattle.fr_base.specs.declared.name.MutexNo.{MutexNo}
use Rattle.fr_base.specs.declared.name.ObjNo.{ObjNo}
use Rattle.fr_base.specs.declared.settings.Options.{Options}
use Rattle.fr_base.specs.declared.step.Fresh.{Fresh}
use Rattle.fr_base.specs.declared.step.Fresh.TheVariants as fresh
use Rattle.global_addr.specs.Words.{server_of}
use Rattle.journal.specs.declared.act.Act.{Act}
use Rattle.journal.specs.declared.act.Act.TheVariants as act
use Rattle.journal.specs.View.{EntryView}
use Rattle.coloured_heap.specs.Lists.{less_all, with_each, times}
use Rattle.coloured_heap.specs.Heap.{Lies, Living, Running, Guarded, Copied, Coloured, start, is_object, is_thread, is_mutex, is_under, object_at, thread_at, mutex_at, next_served}
use Rattle.coloured_heap.specs.Rules.{issued_by, is_new, is_by, rule, allows, starting_server}
use Rattle.coloured_heap.specs.Changes.{made_value, with_copy, after_act, with_new_mutex}
use Rattle.coloured_heap.specs.Legal.{is_new_name}
use Rattle.coloured_heap.specs.Laws.{Listed, ListedOnce}
use Rattle.coloured_heap.proofs.Kept.{Kept, after_all}
use Rattle.coloured_heap.proofs.Times.{both, is_not, number_is, object_is, mutex_is, none_there, fewer, none_left, as_often, in_front}

abbrev listed : Coloured → Type 0
listed s = Listed s.living s.threads s.mutexes s.cached

-- ONE LIST CHANGES

with_objects : {xs ys : List Living} {ts : List Running} {ms : List Guarded} {cs : List Copied} → ((p : ObjNo) → times (is_object p) ys ≤ 1) → Listed xs ts ms cs → Listed ys ts ms cs
with_objects f l = record { objects = f; running = l.running; guarded = l.guarded; copies = l.copies }

with_running : {xs : List Living} {ts us : List Running} {ms : List Guarded} {cs : List Copied} → ((t : ℕ) → times (is_thread t) us ≤ 1) → Listed xs ts ms cs → Listed xs us ms cs
with_running f l = record { objects = l.objects; running = f; guarded = l.guarded; copies = l.copies }

with_guarded : {xs : List Living} {ts : List Running} {ms ns : List Guarded} {cs : List Copied} → ((m : MutexNo) → times (is_mutex m) ns ≤ 1) → Listed xs ts ms cs → Listed xs ts ns cs
with_guarded f l = record { objects = l.objects; running = l.running; guarded = f; copies = l.copies }

with_copies : {xs : List Living} {ts : List Running} {ms : List Guarded} {cs ds : List Copied} → ((here w : ℕ) → times (is_under here w) ds ≤ 1) → Listed xs ts ms cs → Listed xs ts ms ds
with_copies f l = record { objects = l.objects; running = l.running; guarded = l.guarded; copies = f }

changed : (s : Coloured) (p : ObjNo) (f : Living → Living) → ((q : ObjNo) (x : Living) → is_object q (f x) ≡ is_object q x) → ((q : ObjNo) → times (is_object q) s.living ≤ 1) → (q : ObjNo) → times (is_object q) (with_each (is_object p) f s.living) ≤ 1
changed s p f same few q = omega (arith, as_often (is_object q) (is_object p) f s.living (same q), few q)

-- SOMETHING NEW

-- an object is made where none of its name is live
new_object : (o : Options) (e : EntryView) (s : Coloured) (p : ObjNo) (w : ℕ) → allows o e s (act.Make p w) ≡ true → ((q : ObjNo) → times (is_object q) s.living ≤ 1) → (q : ObjNo)
    → times (is_object q) (record { object = p; place = Lies e.server; word = w; value = made_value p e.labels; is_condemned = false } ∷ s.living) ≤ 1
new_object o e s p w allowed few q =
    let keeps = (both (is_new o s (issued_by (act.Make p w))) (rule o e s (act.Make p w)) allowed).1 in
    let first_two = (both (is_none (object_at s p) && is_by e p.thread) (server_of w == e.server) keeps).0 in
    let absent = is_not (is_some (object_at s p)) (both (is_none (object_at s p)) (is_by e p.thread) first_two).0 in
    in_front (is_object q) (is_object p) (record { object = p; place = Lies e.server; word = w; value = made_value p e.labels; is_condemned = false }) s.living
    (λ is. ap (λ r. times (is_object r) s.living) (sym (object_is p q is))) (none_there (is_object p) s.living absent) (few q)

-- a thread is started that never was
new_thread : (o : Options) (e : EntryView) (s : Coloured) (t there : ℕ) → allows o e s (act.Start t there) ≡ true → ((u : ℕ) → times (is_thread u) s.threads ≤ 1) → (u : ℕ)
    → times (is_thread u) (record { thread = t; server = there; has_ended = false } ∷ s.threads) ≤ 1
new_thread o e s t there allowed few u =
    let keeps = (both (is_new o s (issued_by (act.Start t there))) (rule o e s (act.Start t there)) allowed).1 in
    let first_three = (both (is_some e.thread && (home_of t == e.server) && is_none (thread_at s t)) (there == starting_server o t) keeps).0 in
    let absent = is_not (is_some (thread_at s t)) (both (is_some e.thread && (home_of t == e.server)) (is_none (thread_at s t)) first_three).1 in
    in_front (is_thread u) (is_thread t) (record { thread = t; server = there; has_ended = false }) s.threads
    (λ is. ap (λ r. times (is_thread r) s.threads) (sym (number_is t u is))) (none_there (is_thread t) s.threads absent) (few u)

-- a copy takes the place of those under its word
filled : (c : Option Copied) (cs : List Copied) (here w : ℕ) → times (is_under here w) cs ≤ 1 → times (is_under here w) (with_copy c cs) ≤ 1
filled None cs here w few = few
filled (Some c) cs here w few = in_front (is_under here w) (is_under c.server c.word) c (less_all (is_under c.server c.word) cs)
    (λ is. let b = both (c.server == here) (c.word == w) is in
    ap (λ z. times (is_under z w) (less_all (is_under c.server c.word) cs)) (sym (number_is c.server here b.0)) ∙ ap (λ z. times (is_under c.server z) (less_all (is_under c.server c.word) cs)) (sym (number_is c.word w b.1)))
    (none_left (is_under c.server c.word) cs) (omega (arith, fewer (is_under here w) (is_under c.server c.word) cs, few))

-- a mutex is made where none has its name
new_mutex : (s : Coloured) (here : ℕ) (m : MutexNo) → is_new_name s here (Some (fresh.Mutex m)) ≡ true → ((n : MutexNo) → times (is_mutex n) s.mutexes ≤ 1) → (n : MutexNo)
    → times (is_mutex n) (record { mutex = m; holder = None } ∷ s.mutexes) ≤ 1
new_mutex s here m new few n =
    let absent = is_not (is_some (mutex_at s m)) (both (m.home == here) (is_none (mutex_at s m)) new).1 in
    in_front (is_mutex n) (is_mutex m) (record { mutex = m; holder = None }) s.mutexes
    (λ is. ap (λ r. times (is_mutex r) s.mutexes) (sym (mutex_is m n is))) (none_there (is_mutex m) s.mutexes absent) (few n)

-- ACTS AND NAMES

by_act : (o : Options) (e : EntryView) (s : Coloured) (a : Act) → allows o e s a ≡ true → listed s → listed (after_act e s a)
by_act o e s (act.Make p w) allowed l = with_objects (new_object o e s p w allowed l.objects) l
by_act o e s (act.Local p w) allowed l = l
by_act o e s (act.Hit p w) allowed l = l
by_act o e s (act.Ask p w) allowed l = l
by_act o e s (act.Serve p w there) allowed l = l
by_act o e s (act.Fill p w) allowed l = with_copies (λ here v. filled (next_served s p w e.server) s.cached here v (l.copies here v)) l
by_act o e s (act.Pull p w) allowed l = l
by_act o e s (act.Give p w there) allowed l = with_objects (changed s p _ (λ q x. refl) l.objects) l
by_act o e s (act.Take p old new) allowed l = with_objects (changed s p _ (λ q x. refl) l.objects) l
by_act o e s (act.Tint p old new) allowed l = with_objects (changed s p _ (λ q x. refl) l.objects) l
by_act o e s (act.Renew p old new) allowed l = with_objects (changed s p _ (λ q x. refl) l.objects) l
by_act o e s (act.Condemn p w) allowed l = with_objects (changed s p _ (λ q x. refl) l.objects) l
by_act o e s (act.Free p w) allowed l = with_objects (λ q. omega (arith, fewer (is_object q) (is_object p) s.living, l.objects q)) l
by_act o e s (act.Evict w) allowed l = with_copies (λ here v. omega (arith, fewer (is_under here v) (is_under e.server w) s.cached, l.copies here v)) l
by_act o e s (act.AskLock m) allowed l = l
by_act o e s (act.Grant m t there) allowed l = with_guarded (λ n. omega (arith, as_often (is_mutex n) (is_mutex m) (λ g. record g { holder = Some t }) s.mutexes (λ g. refl), l.guarded n)) l
by_act o e s (act.GiveBack m) allowed l = with_guarded (λ n. omega (arith, as_often (is_mutex n) (is_mutex m) (λ g. record g { holder = None }) s.mutexes (λ g. refl), l.guarded n)) l
by_act o e s (act.AskDup m) allowed l = l
by_act o e s (act.Dupped m t there) allowed l = l
by_act o e s (act.LetGo x) allowed l = l
by_act o e s (act.Start t there) allowed l = with_running (new_thread o e s t there allowed l.running) l
by_act o e s (act.AskJoin t) allowed l = l
by_act o e s (act.Answer t asker there) allowed l = l
by_act o e s (act.Finish t) allowed l = with_running (λ u. omega (arith, as_often (is_thread u) (is_thread t) (λ r. record r { has_ended = true }) s.threads (λ r. refl), l.running u)) l
by_act o e s (act.Depart t there) allowed l = with_running (λ u. omega (arith, as_often (is_thread u) (is_thread t) (λ r. record r { server = there }) s.threads (λ r. refl), l.running u)) l

by_name : (s : Coloured) (here : ℕ) (names : Option Fresh) → is_new_name s here names ≡ true → listed s → listed (with_new_mutex names s)
by_name s here None new l = l
by_name s here (Some fresh.None) new l = l
by_name s here (Some (fresh.Thread t)) new l = l
by_name s here (Some (fresh.Threads t u)) new l = l
by_name s here (Some (fresh.Mutex m)) new l = with_guarded (new_mutex s here m new l.guarded) l

kept : (o : Options) → Kept o listed
kept o = record {
  act = by_act o;
  store = λ s p v l. with_objects (changed s p _ (λ q x. refl) l.objects) l;
  name = by_name;
}

at_start : listed start
at_start = record {
  objects = λ p. omega arith;
  running = λ t. in_front (is_thread t) (is_thread 0) (record { thread = 0; server = 0; has_ended = false }) [] (λ is. refl) refl (omega arith);
  guarded = λ m. omega arith;
  copies = λ here w. omega arith;
}

pub listed_once : ListedOnce
listed_once o es s h = after_all o listed (kept o) at_start es s h
