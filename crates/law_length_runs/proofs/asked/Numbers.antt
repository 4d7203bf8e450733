-- The threads of the coloured heap: acts take none away, and each start brings one.
use Rattle.std.proofs.Common.{◌≡◌, ◌≤◌, ℕ, ◌+◌, ◌==◌, ◌&&◌, not, Bool, true, false, if◌then◌else◌, List, [], ◌∷◌, ◌++◌, length, Option, Some, None, refl, sym, ap, subst, ◌∙◌, arith}
use Rattle.std.proofs.lemmas.Bool.Decides.{nat_tests}
use Rattle.std.specs.Prelude.{is_some, is_none, map}
use Rattle.law_runs_whole.specs.Below.law_counts_things.Below.fr_base.Lists.{tot, one}
use Rattle.law_runs_whole.specs.Below.law_counts_things.Below.fr_base.Names.{home_of}
use Rattle.law_runs_whole.specs.Below.law_counts_things.Below.fr_base.declared.label.Label.{Label}
use Rattle.law_runs_whole.specs.Below.law_counts_things.Below.fr_base.declared.label.Label.TheVariants as label
use Rattle.law_runs_whole.specs.Below.law_counts_things.Below.fr_base.declared.settings.Options.{Options}
use Rattle.law_runs_whole.specs.Below.law_counts_things.Below.fr_base.declared.step.Fresh.{Fresh}
use Rattle.law_runs_whole.specs.Below.law_counts_things.Below.fr_base.declared.step.Fresh.TheVariants as fresh
use Rattle.law_runs_whole.specs.Below.journal.declared.act.Act.{Act}
use Rattle.law_runs_whole.specs.Below.journal.declared.act.Act.TheVariants as act
use Rattle.law_runs_whole.specs.Below.journal.View.{EntryView}
use Rattle.law_runs_whole.specs.Below.coloured_heap.Lists.{first, holds, with_each}
use Rattle.law_runs_whole.specs.Below.coloured_heap.Heap.{Running, Coloured, is_thread, thread_at}
use Rattle.law_runs_whole.specs.Below.coloured_heap.Rules.{allows, rule, is_by, of_run, is_new, issued_by, starting_server}
use Rattle.law_runs_whole.specs.Below.coloured_heap.Changes.{after_act, stored, with_new_mutex}
use Rattle.law_runs_whole.specs.Below.coloured_heap.Legal.{is_placed, acts_after, is_new_name, with_mutex, settled, entry_after}
use Rattle.law_runs_whole.specs.Below.coloured_heap.Driven.{departing}
use Rattle.law_length_runs.proofs.worth.Driven.{among, Once, right_true, one_more_rests}
use Rattle.law_length_runs.specs.asked.Resting.{is_start}

-- the numbers of the threads
abbrev pub numbers : Coloured → List ℕ
numbers s = map (λ (r : Running). r.thread) s.threads

-- the threads that an act starts
abbrev starts : Act → List ℕ
starts (act.Start t there) = t ∷ []
starts a = []

-- threads that change keep their numbers
kept : (test : Running → Bool) (f : Running → Running) → ((r : Running) → (f r).thread ≡ r.thread) → (rs : List Running) → map (λ (r : Running). r.thread) (with_each test f rs) ≡ map (λ (r : Running). r.thread) rs
kept test f same [] = refl
kept test f same (r ∷ rs) = by (test r) ∙ ap (λ ns. r.thread ∷ ns) (kept test f same rs)
  where
    by : (b : Bool) → map (λ (x : Running). x.thread) ((if b then f r else r) ∷ with_each test f rs) ≡ r.thread ∷ map (λ (x : Running). x.thread) (with_each test f rs)
    by true = ap (λ n. n ∷ map (λ (x : Running). x.thread) (with_each test f rs)) (same r)
    by false = refl

act_numbers : (e : EntryView) (s : Coloured) (a : Act) → numbers (after_act e s a) ≡ starts a ++ numbers s
act_numbers e s (act.Make p w) = refl
act_numbers e s (act.Local p w) = refl
act_numbers e s (act.Hit p w) = refl
act_numbers e s (act.Ask p w) = refl
act_numbers e s (act.Serve p w there) = refl
act_numbers e s (act.Fill p w) = refl
act_numbers e s (act.Pull p w) = refl
act_numbers e s (act.Give p w there) = refl
act_numbers e s (act.Take p old new) = refl
act_numbers e s (act.Tint p old new) = refl
act_numbers e s (act.Renew p old new) = refl
act_numbers e s (act.Condemn p w) = refl
act_numbers e s (act.Free p w) = refl
act_numbers e s (act.Evict w) = refl
act_numbers e s (act.AskLock m) = refl
act_numbers e s (act.Grant m t there) = refl
act_numbers e s (act.GiveBack m) = refl
act_numbers e s (act.AskDup m) = refl
act_numbers e s (act.Dupped m t there) = refl
act_numbers e s (act.LetGo x) = refl
act_numbers e s (act.Start t there) = refl
act_numbers e s (act.AskJoin t) = refl
act_numbers e s (act.Answer t asker there) = refl
act_numbers e s (act.Finish t) = kept (is_thread t) (λ r. record r { has_ended = true }) (λ r. refl) s.threads
act_numbers e s (act.Depart t there) = kept (is_thread t) (λ r. record r { server = there }) (λ r. refl) s.threads

-- more threads than before: as many more as start, and who was there is there, each once
pub record Grown (before after : List ℕ) (more : ℕ) : Type 0 where
  pub many : length after ≡ length before + more
  pub stay : (n : ℕ) → among n before ≤ among n after
  pub once : Once before → Once after

-- none more
pub same_grown : (ns : List ℕ) → Grown ns ns 0
same_grown ns = record { many = omega arith; stay = λ n. omega arith; once = λ f. f }

-- no thread of that number is there
unknown : (t : ℕ) (rs : List Running) → is_none (first (is_thread t) rs) ≡ true → among t (map (λ (r : Running). r.thread) rs) ≡ 0
unknown t [] e = refl
unknown t (r ∷ rs) e = by (r.thread == t) e (unknown t rs)
  where
    Unknown : Type 0
    Unknown = is_none (first (is_thread t) rs) ≡ true → among t (map (λ (x : Running). x.thread) rs) ≡ 0

    by : (b : Bool) → is_none (if b then Some r else first (is_thread t) rs) ≡ true → Unknown → one b + among t (map (λ (x : Running). x.thread) rs) ≡ 0
    by true q go = absurd (cc q)
    by false q go = let g = go q in omega (arith, g)

one_grows : (o : Options) (e : EntryView) (s : Coloured) (a : Act) → allows o e s a ≡ true → Grown (numbers s) (starts a ++ numbers s) (one (is_start a))
one_grows o e s (act.Start t there) ok = record { many = omega arith; stay = λ n. omega arith; once = λ f. one_more_rests t (numbers s) (unknown t s.threads new) f }
  where
    third : (p q r u : Bool) → (p && q && r && u) ≡ true → r ≡ true
    third true true true true g = refl
    third true true true false g = absurd (cc g)
    third true true false u g = absurd (cc g)
    third true false r u g = absurd (cc g)
    third false q r u g = absurd (cc g)

    new : is_none (thread_at s t) ≡ true
    new = third (is_some e.thread) (home_of t == e.server) (is_none (thread_at s t)) (there == starting_server o t) (right_true (is_new o s (issued_by (act.Start t there))) (rule o e s (act.Start t there)) ok)
one_grows o e s (act.Make p w) ok = same_grown (numbers s)
one_grows o e s (act.Local p w) ok = same_grown (numbers s)
one_grows o e s (act.Hit p w) ok = same_grown (numbers s)
one_grows o e s (act.Ask p w) ok = same_grown (numbers s)
one_grows o e s (act.Serve p w there) ok = same_grown (numbers s)
one_grows o e s (act.Fill p w) ok = same_grown (numbers s)
one_grows o e s (act.Pull p w) ok = same_grown (numbers s)
one_grows o e s (act.Give p w there) ok = same_grown (numbers s)
one_grows o e s (act.Take p old new) ok = same_grown (numbers s)
one_grows o e s (act.Tint p old new) ok = same_grown (numbers s)
one_grows o e s (act.Renew p old new) ok = same_grown (numbers s)
one_grows o e s (act.Condemn p w) ok = same_grown (numbers s)
one_grows o e s (act.Free p w) ok = same_grown (numbers s)
one_grows o e s (act.Evict w) ok = same_grown (numbers s)
one_grows o e s (act.AskLock m) ok = same_grown (numbers s)
one_grows o e s (act.Grant m t there) ok = same_grown (numbers s)
one_grows o e s (act.GiveBack m) ok = same_grown (numbers s)
one_grows o e s (act.AskDup m) ok = same_grown (numbers s)
one_grows o e s (act.Dupped m t there) ok = same_grown (numbers s)
one_grows o e s (act.LetGo x) ok = same_grown (numbers s)
one_grows o e s (act.AskJoin t) ok = same_grown (numbers s)
one_grows o e s (act.Answer t asker there) ok = same_grown (numbers s)
one_grows o e s (act.Finish t) ok = same_grown (numbers s)
one_grows o e s (act.Depart t there) ok = same_grown (numbers s)

-- WHO MOVES

-- the thread of the entry
abbrev Mine : EntryView → List ℕ → Type 0
Mine e ts = (n : ℕ) → 1 ≤ among n ts → e.thread ≡ Some n

by_it : (e : EntryView) (t : ℕ) → is_by e t ≡ true → e.thread ≡ Some t
by_it e t h = by e.thread h
  where
    by : (o : Option ℕ) → holds (λ u. u == t) o ≡ true → o ≡ Some t
    by None q = absurd (cc q)
    by (Some u) q = let same : u ≡ t = grind (arith, nat_tests, q) in ap (λ m. Some m) same

-- an act that is allowed moves the thread of its entry alone
moved_by : (o : Options) (e : EntryView) (s : Coloured) (a : Act) (rest : List Act) → allows o e s a ≡ true → Mine e (departing rest) → Mine e (departing (a ∷ rest))
moved_by o e s (act.Depart t there) rest ok mine = λ n l. by n (t == n) refl l
  where
    first_of : (p q r : Bool) → (p && q && r) ≡ true → p ≡ true
    first_of true q r g = refl
    first_of false q r g = absurd (cc g)

    it : e.thread ≡ Some t
    it = by_it e t (first_of (is_by e t) (of_run o there) (not (there == e.server)) (right_true (is_new o s (issued_by (act.Depart t there))) (rule o e s (act.Depart t there)) ok))

    by : (n : ℕ) (b : Bool) → (t == n) ≡ b → 1 ≤ one b + among n (departing rest) → e.thread ≡ Some n
    by n true q l = let same : t ≡ n = grind (arith, nat_tests, q) in it ∙ ap (λ m. Some m) same
    by n false q l = mine n (omega (arith, l))
moved_by o e s (act.Make p w) rest ok mine = mine
moved_by o e s (act.Local p w) rest ok mine = mine
moved_by o e s (act.Hit p w) rest ok mine = mine
moved_by o e s (act.Ask p w) rest ok mine = mine
moved_by o e s (act.Serve p w there) rest ok mine = mine
moved_by o e s (act.Fill p w) rest ok mine = mine
moved_by o e s (act.Pull p w) rest ok mine = mine
moved_by o e s (act.Give p w there) rest ok mine = mine
moved_by o e s (act.Take p old new) rest ok mine = mine
moved_by o e s (act.Tint p old new) rest ok mine = mine
moved_by o e s (act.Renew p old new) rest ok mine = mine
moved_by o e s (act.Condemn p w) rest ok mine = mine
moved_by o e s (act.Free p w) rest ok mine = mine
moved_by o e s (act.Evict w) rest ok mine = mine
moved_by o e s (act.AskLock m) rest ok mine = mine
moved_by o e s (act.Grant m t there) rest ok mine = mine
moved_by o e s (act.GiveBack m) rest ok mine = mine
moved_by o e s (act.AskDup m) rest ok mine = mine
moved_by o e s (act.Dupped m t there) rest ok mine = mine
moved_by o e s (act.LetGo x) rest ok mine = mine
moved_by o e s (act.Start t there) rest ok mine = mine
moved_by o e s (act.AskJoin t) rest ok mine = mine
moved_by o e s (act.Answer t asker there) rest ok mine = mine
moved_by o e s (act.Finish t) rest ok mine = mine

-- WHAT AN ENTRY LEAVES

-- the state after some acts
record After (e : EntryView) (acts : List Act) (before : List ℕ) (after : List ℕ) : Type 0 where
  grown : Grown before after (tot (λ a. one (is_start a)) acts)
  mine : Mine e (departing acts)

acts_grow : (o : Options) (e : EntryView) (acts : List Act) (s c : Coloured) → acts_after o e acts s ≡ Some c → After e acts (numbers s) (numbers c)
acts_grow o e [] s c h = let same : s ≡ c = cc in record { grown = subst (λ x. Grown (numbers s) (numbers x) 0) same (same_grown (numbers s)); mine = λ n l. absurd (omega (arith, l)) }
acts_grow o e (a ∷ rest) s c h = by (allows o e s a) refl h (acts_grow o e rest (after_act e s a) c)
  where
    by : (b : Bool) → allows o e s a ≡ b → (if b then acts_after o e rest (after_act e s a) else None) ≡ Some c → (acts_after o e rest (after_act e s a) ≡ Some c → After e rest (numbers (after_act e s a)) (numbers c)) → After e (a ∷ rest) (numbers s) (numbers c)
    by false q g go = absurd (cc g)
    by true q g go =
        let later = go g in
        let first_is : Grown (numbers s) (numbers (after_act e s a)) (one (is_start a)) = subst (λ ns. Grown (numbers s) ns (one (is_start a))) (sym (act_numbers e s a)) (one_grows o e s a q) in
        let second = later.grown in
        record {
          grown = record { many = omega (arith, first_is.many, second.many); stay = λ n. (let u = first_is.stay n in let v = second.stay n in omega (arith, u, v)); once = λ f. second.once (first_is.once f) };
          mine = moved_by o e s a rest q later.mine;
        }

-- stores and a new mutex change no thread
stored_numbers : (ls : List Label) (s : Coloured) → numbers (stored ls s) ≡ numbers s
stored_numbers [] s = refl
stored_numbers (label.Store p v ∷ ls) s = stored_numbers ls _
stored_numbers (label.Load p v ∷ ls) s = stored_numbers ls s
stored_numbers (label.Make p v ∷ ls) s = stored_numbers ls s
stored_numbers (label.Print n ∷ ls) s = stored_numbers ls s
stored_numbers (_ ∷ ls) s = stored_numbers ls s

mutex_numbers : (d : Option Fresh) (s : Coloured) → numbers (with_new_mutex d s) ≡ numbers s
mutex_numbers (Some (fresh.Mutex m)) s = refl
mutex_numbers None s = refl
mutex_numbers (Some fresh.None) s = refl
mutex_numbers (Some (fresh.Thread u)) s = refl
mutex_numbers (Some (fresh.Threads u w)) s = refl

-- a thread that stands somewhere is there
there : (ns : List Running) (n : ℕ) (f : Running → Bool) → holds f (first (is_thread n) ns) ≡ true → 1 ≤ among n (map (λ (r : Running). r.thread) ns)
there [] n f h = absurd (cc h)
there (r ∷ ns) n f h = by (r.thread == n) h (there ns n f)
  where
    There : Type 0
    There = holds f (first (is_thread n) ns) ≡ true → 1 ≤ among n (map (λ (x : Running). x.thread) ns)

    by : (b : Bool) → holds f (if b then Some r else first (is_thread n) ns) ≡ true → There → 1 ≤ one b + among n (map (λ (x : Running). x.thread) ns)
    by true q go = omega arith
    by false q go = let l = go q in omega (arith, l)

-- after an entry that is legal
pub record Left (s c : Coloured) (e : EntryView) : Type 0 where
  pub grown : Grown (numbers s) (numbers c) (tot (λ a. one (is_start a)) e.acts)
  -- its thread, and who moves, is there
  pub itself : (n : ℕ) → e.thread ≡ Some n → 1 ≤ among n (numbers s)
  pub movers : (n : ℕ) → 1 ≤ among n (departing e.acts) → 1 ≤ among n (numbers s)

pub entry_leaves : (o : Options) (s c : Coloured) (e : EntryView) → entry_after o s e ≡ Some c → Left s c e
entry_leaves o s c e h = by (is_placed o s e) refl h
  where
    settles : (x : Coloured) → with_mutex e (stored e.labels x) ≡ Some c → numbers c ≡ numbers x
    settles x q = of (is_new_name (stored e.labels x) e.server e.done) q
      where
        of : (b : Bool) → (if b then Some (with_new_mutex e.done (stored e.labels x)) else None) ≡ Some c → numbers c ≡ numbers x
        of true g = let same : with_new_mutex e.done (stored e.labels x) ≡ c = cc in ap numbers (sym same) ∙ mutex_numbers e.done (stored e.labels x) ∙ stored_numbers e.labels x
        of false g = absurd (cc g)

    done : is_placed o s e ≡ true → (x : Option Coloured) → acts_after o e e.acts s ≡ x → settled e x ≡ Some c → Left s c e
    done p None q g = absurd (cc g)
    done p (Some x) q g =
        let a = acts_grow o e e.acts s x q in
        let mine : (n : ℕ) → e.thread ≡ Some n → 1 ≤ among n (numbers s) = λ n f. there s.threads n (λ r. r.server == e.server) (right_true (of_run o e.server) _ (subst (λ u. is_placed o s (record e { thread = u }) ≡ true) f p)) in
        let moves = a.mine in
        record { grown = subst (λ ns. Grown (numbers s) ns (tot (λ b. one (is_start b)) e.acts)) (sym (settles x g)) a.grown; itself = mine; movers = λ n l. mine n (moves n l) }

    by : (b : Bool) → is_placed o s e ≡ b → settled e (if b then acts_after o e e.acts s else None) ≡ Some c → Left s c e
    by false p g = absurd (cc g)
    by true p g = done p (acts_after o e e.acts s) refl g
