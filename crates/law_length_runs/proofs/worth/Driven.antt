-- A driven journal moves few threads, so a driven run is short.
use Rattle.std.proofs.Common.{◌≡◌, ◌≤◌, ℕ, ◌+◌, ◌*◌, ◌==◌, ◌&&◌, not, Bool, true, false, if◌then◌else◌, List, [], ◌∷◌, ◌++◌, length, Option, Some, None, refl, subst, arith, length-append}
use Rattle.std.proofs.lemmas.Bool.Decides.{nat_tests}
use Rattle.std.specs.Prelude.{is_some, option_map}
use Rattle.law_runs_coherent.specs.Below.fr_base.Lists.{tot, one}
use Rattle.law_runs_coherent.specs.Below.fr_base.declared.step.Fresh.{Fresh}
use Rattle.law_runs_coherent.specs.Below.fr_base.declared.settings.Options.{Options}
use Rattle.law_runs_coherent.specs.Below.read_cache.Cache.{Copy}
use Rattle.law_runs_coherent.specs.Below.migration.Packing.{unpin_all, used_words, packed}
use Rattle.law_runs_coherent.specs.Below.thread_state.View.{ThreadState}
use Rattle.law_runs_coherent.specs.Below.journal.View.{EntryView}
use Rattle.law_runs_coherent.specs.Below.coloured_heap.Lists.{first, holds, has, less_all}
use Rattle.law_runs_coherent.specs.Below.coloured_heap.Heap.{Coloured, start}
use Rattle.law_runs_coherent.specs.Below.coloured_heap.Legal.{entry_after}
use Rattle.law_runs_coherent.specs.Below.coloured_heap.Driven.{are_due, departing, may_depart, resting, driven_from}
use Rattle.law_runs_coherent.specs.Below.server_model.declared.event.Event.{Event}
use Rattle.law_runs_coherent.specs.Below.server_model.declared.event.What.{What}
use Rattle.law_runs_coherent.specs.Below.server_model.declared.event.What.TheVariants.{Step, Deliver, Evict, Migrate}
use Rattle.law_runs_coherent.specs.Below.server_model.Servers.{Server, Cluster, server_at, start_of}
use Rattle.law_runs_coherent.specs.Below.server_model.Work.{thread_in, without_thread, then_some}
use Rattle.law_runs_coherent.specs.Below.server_model.Moving.{depart}
use Rattle.law_runs_coherent.specs.Below.server_model.Events.{begin_work, enabled, left_by, does}
use Rattle.law_runs_coherent.specs.Below.server_model.Clusters.{apply, done_at, hand_over_newer}
use Rattle.law_runs_coherent.specs.Below.law_counts_sums.Laws.{Gives}
use Rattle.law_runs_coherent.proofs.Below.law_counts_sums.Results.{bind_gives, over_gives, test_gives, both_give}
use Rattle.law_length_runs.specs.worth.Credit.{begun}
use Rattle.law_length_runs.specs.worth.Spending.{moves_again, cost_at, cost, After, one_more, after_all}
use Rattle.law_length_runs.specs.worth.Driving.{is_step, steps_in, plain_steps, moves_in, resting_after, DrivenMoveFew, DrivenRunsAreShort}
use Rattle.law_length_runs.proofs.worth.Lists.{tot_append}
use Rattle.law_length_runs.proofs.worth.Runs.{runs_are_short}

-- EACH THREAD RESTS ONCE

-- how often a number stands in a list
abbrev pub among : ℕ → List ℕ → ℕ
among n ts = tot (λ u. one (u == n)) ts

abbrev pub Once : List ℕ → Type 0
Once ts = (n : ℕ) → among n ts ≤ 1

pub none_among : (t : ℕ) (ts : List ℕ) → has (λ u. u == t) ts ≡ false → among t ts ≡ 0
none_among t [] e = refl
none_among t (x ∷ ts) e = by (x == t) e (none_among t ts)
  where
    by : (b : Bool) → holds (λ z. true) (if b then Some x else first (λ u. u == t) ts) ≡ false → (has (λ u. u == t) ts ≡ false → among t ts ≡ 0) → one b + among t ts ≡ 0
    by true q go = absurd (cc q)
    by false q go = omega (arith, go q)

-- a number that isn't there comes
pub one_more_rests : (t : ℕ) (moved : List ℕ) → among t moved ≡ 0 → Once moved → Once (t ∷ moved)
one_more_rests t moved z once n = by (t == n) refl (once n)
  where
    by : (b : Bool) → (t == n) ≡ b → among n moved ≤ 1 → one b + among n moved ≤ 1
    by true e l = let same : t ≡ n = grind (arith, nat_tests, e) in let none : among n moved ≡ 0 = subst (λ m. among m moved ≡ 0) same z in omega (arith, none)
    by false e l = omega (arith, l)

not_true : (b : Bool) → not b ≡ true → b ≡ false
not_true true e = absurd (cc e)
not_true false e = refl

pub left_true : (a b : Bool) → (a && b) ≡ true → a ≡ true
left_true true b e = refl
left_true false b e = absurd (cc e)

pub right_true : (a b : Bool) → (a && b) ≡ true → b ≡ true
right_true true b e = e
right_true false b e = absurd (cc e)

-- threads that may move don't rest
pub movers_rest : (moved ts : List ℕ) → Once moved → may_depart moved ts ≡ true → (n : ℕ) → among n ts + among n moved ≤ 1
movers_rest moved [] once e n = omega (arith, once n)
movers_rest moved (t ∷ ts) once e n =
    let a = not_true (has (λ u. u == t) moved) (left_true (not (has (λ u. u == t) moved)) (may_depart (t ∷ moved) ts) e) in
    let b = right_true (not (has (λ u. u == t) moved)) (may_depart (t ∷ moved) ts) e in
    let c = movers_rest (t ∷ moved) ts (one_more_rests t moved (none_among t moved a) once) b n in
    omega (arith, c)

-- what a plain step takes out
taken_out : (t : ℕ) (moved : List ℕ) → length (less_all (λ u. u == t) moved) + among t moved ≡ length moved
taken_out t [] = refl
taken_out t (x ∷ moved) = by (x == t) (taken_out t moved)
  where
    by : (b : Bool) → length (less_all (λ u. u == t) moved) + among t moved ≡ length moved → length (if b then less_all (λ u. u == t) moved else x ∷ less_all (λ u. u == t) moved) + (one b + among t moved) ≡ length (x ∷ moved)
    by true g = omega (arith, g)
    by false g = omega (arith, g)

less_often : (n t : ℕ) (moved : List ℕ) → among n (less_all (λ u. u == t) moved) ≤ among n moved
less_often n t [] = omega arith
less_often n t (x ∷ moved) = by (x == t) (less_often n t moved)
  where
    by : (b : Bool) → among n (less_all (λ u. u == t) moved) ≤ among n moved → among n (if b then less_all (λ u. u == t) moved else x ∷ less_all (λ u. u == t) moved) ≤ among n (x ∷ moved)
    by true g = omega (arith, g)
    by false g = omega (arith, g)

-- AN ENTRY

-- who rests after an entry: as many more as move, and one less where a plain step is done
pub record Rests (moved ts after : List ℕ) (done : ℕ) : Type 0 where
  pub many : length moved + length ts ≤ length after + done
  pub often : (n : ℕ) → among n after ≤ among n ts + among n moved

pub entry_rests : (e : EntryView) (moved : List ℕ) → Once moved → Rests moved (departing e.acts) (resting e moved) (one (is_some e.done))
entry_rests e moved once = by e.thread e.done
  where
    ts : List ℕ
    ts = departing e.acts

    stays : (done : ℕ) → Rests moved ts (ts ++ moved) done
    stays done = record { many = omega (arith, length-append ts moved); often = λ n. omega (arith, tot_append (λ u. one (u == n)) ts moved) }

    by : (o : Option ℕ) (d : Option Fresh) → Rests moved ts (resting (record e { thread = o; done = d }) moved) (one (is_some d))
    by None None = stays 0
    by None (Some names) = stays 1
    by (Some t) None = stays 0
    by (Some t) (Some names) =
        let out : List ℕ = less_all (λ u. u == t) moved in
        record { many = omega (arith, once t, taken_out t moved, length-append ts out); often = λ n. omega (arith, less_often n t moved, tot_append (λ u. one (u == n)) ts out) }

-- JOURNALS

driven_moves : (o : Options) (s : Coloured) (moved : List ℕ) (es : List EntryView) → Once moved → driven_from o s moved es ≡ true → length moved + moves_in es ≤ plain_steps es + length (resting_after moved es)
driven_moves o s moved [] once d = omega arith
driven_moves o s moved (e ∷ es) once d =
    let may : may_depart moved (departing e.acts) ≡ true = right_true (are_due o e e.acts s) (may_depart moved (departing e.acts)) (left_true (are_due o e e.acts s && may_depart moved (departing e.acts)) (holds (λ after. driven_from o after (resting e moved) es) (entry_after o s e)) d) in
    let later = right_true (are_due o e e.acts s && may_depart moved (departing e.acts)) (holds (λ after. driven_from o after (resting e moved) es) (entry_after o s e)) d in
    let r = entry_rests e moved once in
    by r (λ n. let a = r.often n in let b = movers_rest moved (departing e.acts) once may n in omega (arith, a, b)) (λ c next q. driven_moves o c (resting e moved) es next q) (entry_after o s e) later
  where
    Later : Type 0
    Later = (c : Coloured) → Once (resting e moved) → driven_from o c (resting e moved) es ≡ true → length (resting e moved) + moves_in es ≤ plain_steps es + length (resting_after (resting e moved) es)

    by : Rests moved (departing e.acts) (resting e moved) (one (is_some e.done)) → Once (resting e moved) → Later → (c : Option Coloured) → holds (λ after. driven_from o after (resting e moved) es) c ≡ true
        → length moved + moves_in (e ∷ es) ≤ plain_steps (e ∷ es) + length (resting_after moved (e ∷ es))
    by r next go None q = absurd (cc q)
    by r next go (Some c) q = let rest = go c next q in omega (arith, r.many, rest)

pub driven_move_few : DrivenMoveFew
driven_move_few o es d = let all = driven_moves o start [] es (λ n. omega arith) d in omega (arith, all)

-- RUNS

-- an event costs four where it is a step, and two where it moves a thread
cost_moves : (k : Cluster) (e : Event) → Gives (λ (d : Cluster × EntryView). cost k e ≤ 4 * is_step e.what + 2 * length (departing d.1.acts)) (apply k e)
cost_moves k e = by (server_at k.servers e.server)
  where
    Few : What → ℕ → EntryView → Type 0
    Few w n d = n ≤ 4 * is_step w + 2 * length (departing d.acts)

    two : (x : Option ThreadState) → moves_again x ≤ 2
    two None = omega arith
    two (Some y) = of y.moved_since_step
      where
        of : (b : Bool) → (if b then 2 else 0) ≤ 2
        of true = omega arith
        of false = omega arith

    packs : (s : Server) (t target : ℕ) (y : ThreadState) (n : ℕ) → n ≤ 2 → (l : Option (List Copy))
        → Gives (λ (r : Server × EntryView). Few (Migrate t target) n r.1)
        (option_map (left_by s.events (Some t) None) (option_map (λ p. record { work = depart target (begin_work s.rest) p; threads = without_thread s.threads t }) (option_map (λ left. (packed (record y { moved_since_step = true }), left)) l)))
    packs s t target y n l None = tt
    packs s t target y n l (Some cs) = omega (arith, l)

    leaves : (s : Server) (t target n : ℕ) → n ≤ 2 → (x : Option ThreadState)
        → Gives (λ (r : Server × EntryView). Few (Migrate t target) n r.1)
        (option_map (left_by s.events (Some t) None) (then_some x (λ y. option_map (λ p. record { work = depart target (begin_work s.rest) p; threads = without_thread s.threads t }) (option_map (λ left. (packed (record y { moved_since_step = true }), left)) (unpin_all (used_words y) s.rest.cache)))))
    leaves s t target n l None = tt
    leaves s t target n l (Some y) = packs s t target y n l (unpin_all (used_words y) s.rest.cache)

    any : (P : Server × EntryView → Type 0) → ((r : Server × EntryView) → P r) → (o : Option (Server × EntryView)) → Gives P o
    any P f None = tt
    any P f (Some r) = f r

    all : (w : What) (s : Server) → Gives (λ (r : Server × EntryView). Few w (cost_at w (Some s)) r.1) (does k.code k.options s w)
    all (Step t) s = any (λ r. Few (Step t) 4 r.1) (λ r. omega arith) (does k.code k.options s (Step t))
    all (Deliver i) s = any (λ r. Few (Deliver i) 0 r.1) (λ r. omega arith) (does k.code k.options s (Deliver i))
    all (Evict w) s = any (λ r. Few (Evict w) 0 r.1) (λ r. omega arith) (does k.code k.options s (Evict w))
    all (Migrate t target) s = leaves s t target (moves_again (thread_in s.threads t)) (two (thread_in s.threads t)) (thread_in s.threads t)

    by : (o : Option Server)
        → Gives (λ (d : Cluster × EntryView). Few e.what (cost_at e.what o) d.1) (then_some o (λ s. option_map (λ d. (record k { servers = hand_over_newer e.server (length s.rest.outbox) d.0 k.servers }, d.1)) (done_at k e.what s)))
    by None = tt
    by (Some s) =
        over_gives (λ (r : Server × EntryView). Few e.what (cost_at e.what (Some s)) r.1) (λ (d : Cluster × EntryView). Few e.what (cost_at e.what (Some s)) d.1) (done_at k e.what s) _
        (test_gives (λ (r : Server × EntryView). Few e.what (cost_at e.what (Some s)) r.1) (enabled k.options s e.what) _ (λ on. all e.what s)) (λ d a. a)

abbrev CostsFew : List Event → After → Type 0
CostsFew es x = x.costs ≤ 4 * steps_in es + 2 * moves_in x.journal

costs_few : (es : List Event) (k : Cluster) → Gives (CostsFew es) (after_all es k)
costs_few [] k = omega arith
costs_few (e ∷ es) k =
    bind_gives (λ (d : Cluster × EntryView). cost k e ≤ 4 * is_step e.what + 2 * length (departing d.1.acts)) (CostsFew (e ∷ es)) (apply k e) _ (cost_moves k e) (λ d a.
    over_gives (CostsFew es) (CostsFew (e ∷ es)) (after_all es d.0) (one_more d.1 (cost k e)) (costs_few es d.0) (λ x b. omega (arith, a, b)))

pub driven_runs_are_short : DrivenRunsAreShort
driven_runs_are_short code o es =
    both_give (λ (x : After). length x.journal ≤ x.costs + 5 * begun x.cluster + 2) (CostsFew es) _ (after_all es (start_of code o)) (runs_are_short code o es) (costs_few es (start_of code o)) (λ x a b d.
    let m = driven_move_few o x.journal d in omega (arith, a, b, m))
