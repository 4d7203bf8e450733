-- A round does an event where some server has one.
use Rattle.std.proofs.Common.{◌≡◌, ℕ, zero, suc, ◌-◌, ◌<◌, ◌≤◌, ◌%◌, Bool, true, false, if◌then◌else◌, List, [], ◌∷◌, ◌++◌, length, Option, Some, None, refl, sym, ap, subst, ◌∙◌, arith, length-append}
use Rattle.std.specs.Prelude.{min, nat_lt, slice_get, option_map}
use Rattle.std.proofs.lemmas.Nat.{mod_below}
use Rattle.std.proofs.lemmas.Bool.Decides.{nat_tests}
use Rattle.law_runs_whole.proofs.Below.fr_typing.PlaceLemmas.{eq_cases}
use Rattle.rand_pcg.specs.Lcg.{Lcg}
use Rattle.rand_pcg.specs.Pcg.{pcg32}
use Rattle.law_runs_whole.specs.Below.fr_base.declared.instruction.Instr.{Instr}
use Rattle.law_runs_whole.specs.Below.fr_base.declared.settings.Options.{Options}
use Rattle.law_runs_whole.specs.Below.thread_state.View.{ThreadState}
use Rattle.law_runs_whole.specs.Below.journal.View.{EntryView}
use Rattle.law_runs_whole.specs.Below.server_model.declared.event.What.{What}
use Rattle.law_runs_whole.specs.Below.server_model.declared.event.What.TheVariants.{Step, Deliver}
use Rattle.law_runs_whole.specs.Below.server_model.Servers.{Server}
use Rattle.law_runs_whole.specs.Below.server_model.Work.{then_some, thread_in}
use Rattle.law_runs_whole.specs.Below.server_model.Questions.{due, runnable, runnable_in}
use Rattle.law_runs_whole.specs.Below.server_model.Events.{can_step, has_phase, does}
use Rattle.drive_model.specs.Choice.{candidates, candidate, Drawn, drawn_from, due_or_drawn, next}
use Rattle.law_runs_rounds.proofs.rounds.Items.{stands_there}
use Rattle.drive_model.specs.Rounds.{Worked, Round, after_entry, work_on, work, before_round, round_of}

-- WHAT IS DRAWN

-- each place below the number of candidates has one
some_candidate : (s : Server) (i : ℕ) → i < candidates s → (w : What) × (candidate s i ≡ Some w)
some_candidate s i l = by (nat_lt i (length s.rest.inbox)) refl
  where
    by : (b : Bool) → nat_lt i (length s.rest.inbox) ≡ b → (w : What) × ((if b then Some (Deliver i) else option_map (λ t. Step t) (slice_get (runnable s) (i - length s.rest.inbox))) ≡ Some w)
    by true e = (Deliver i, refl)
    by false e =
        let past : length s.rest.inbox ≤ i = grind (arith, nat_tests, e) in
        let t = stands_there (runnable s) (i - length s.rest.inbox) (omega (arith, l, past)) in
        (Step t.0, ap (option_map (λ x. Step x)) t.1)

some_drawn : (s : Server) (word : ℕ × Lcg) (n : ℕ) → n ≡ candidates s → 1 ≤ n → (d : Drawn) × (drawn_from s word n ≡ Some d)
some_drawn s word zero e l = absurd (omega (arith, l))
some_drawn s word (suc n) e l =
    let less = mod_below word.0 (suc n) (omega arith) in
    let c = some_candidate s (word.0 % suc n) (omega (arith, less, e)) in
    (record { what = c.0; generator = word.1 }, ap (option_map (λ w. record { what = w; generator = word.1 })) c.1)

-- a server with a candidate has a next event
pub some_next : (o : Options) (s : Server) (g : Lcg) → 1 ≤ candidates s → (d : Drawn) × (next o s g ≡ Some d)
some_next o s g l = by (due o s)
  where
    by : (x : Option ℕ) → (d : Drawn) × (due_or_drawn x s g ≡ Some d)
    by None = some_drawn s (pcg32 g) (candidates s) refl l
    by (Some w) = (_, refl)

-- a thread that can step is among those that can
pub some_runs : (ts : List ThreadState) (t : ℕ) → has_phase can_step (thread_in ts t) ≡ true → 1 ≤ length (runnable_in ts)
some_runs [] t e = absurd (cc e)
some_runs (x ∷ ts) t e = by (can_step x.phase) refl (some_runs ts t)
  where
    by : (b : Bool) → can_step x.phase ≡ b → (has_phase can_step (thread_in ts t) ≡ true → 1 ≤ length (runnable_in ts)) → 1 ≤ length (if b then x.number ∷ runnable_in ts else runnable_in ts)
    by true q go = omega arith
    by false q go = eq_cases (λ b. has_phase can_step (if b then Some x else thread_in ts t) ≡ true → 1 ≤ length (runnable_in ts)) x.number t (λ _ h. absurd (cc (q, h))) (λ _ h. go h) e

-- WHAT A SERVER DOES

work_grows : (code : List Instr) (o : Options) (m : ℕ) (s : Server) (g : Lcg) (d : Drawn) (w : Worked) → next o s g ≡ Some d → work code o (suc m) s g ≡ Some w → 1 ≤ length w.entries
work_grows code o m s g d w nx is = first (does code o s d.what) (sym (ap (work_on (work code o m) code o s g) nx) ∙ is)
  where
    second : (e : EntryView) (x : Option Worked) → option_map (after_entry e) x ≡ Some w → 1 ≤ length w.entries
    second e None h = absurd (cc h)
    second e (Some v) h = let same : after_entry e v ≡ w = cc in subst (λ (y : Worked). 1 ≤ length y.entries) same (omega arith)

    first : (x : Option (Server × EntryView)) → then_some x (λ e. option_map (after_entry e.1) (work code o m e.0 d.generator)) ≡ Some w → 1 ≤ length w.entries
    first None h = absurd (cc h)
    first (Some e) h = second e.1 (work code o m e.0 d.generator) h

-- at least one event where one may be done
works_some : (code : List Instr) (o : Options) (m : ℕ) (s : Server) (g : Lcg) (d : Drawn) (w : Worked) → 1 ≤ m → next o s g ≡ Some d → work code o m s g ≡ Some w → 1 ≤ length w.entries
works_some code o zero s g d w l nx is = absurd (omega (arith, l))
works_some code o (suc m) s g d w l nx is = work_grows code o m s g d w nx is

-- A ROUND

-- so do the later servers, where that one is among them
abbrev Later : List Instr → Options → List Server → List Lcg → Server → Lcg → Type 0
Later code o ss gs s g = (n : ℕ) (v : Round) (j : ℕ) → 1 ≤ n → slice_get ss j ≡ Some s → slice_get gs j ≡ Some g → round_of code o n ss gs ≡ Some v → 1 ≤ length v.entries

pub round_grows : (code : List Instr) (o : Options) (ss : List Server) (gs : List Lcg) (i left : ℕ) (s : Server) (g : Lcg) (d : Drawn) (r : Round) → 1 ≤ o.quantum → 1 ≤ left → slice_get ss i ≡ Some s → slice_get gs i ≡ Some g → next o s g ≡ Some d
    → round_of code o left ss gs ≡ Some r → 1 ≤ length r.entries
round_grows code o [] gs i left s g d r q l there with_it nx is = absurd (cc there)
round_grows code o (x ∷ ss) [] i left s g d r q l there with_it nx is = absurd (cc with_it)
round_grows code o (x ∷ ss) (y ∷ gs) i left s g d r q l there with_it nx is =
    first (work code o (min o.quantum left) x y) refl (λ n v j a b c e. round_grows code o ss gs j n s g d v q a b c nx e) is
  where
    at_all : 1 ≤ min o.quantum left
    at_all = omega (arith, q, l)

    more : (w : Worked) (v : Round) → work code o (min o.quantum left) x y ≡ Some w → round_of code o (left - length w.entries) ss gs ≡ Some v → Later code o ss gs s g → (n : ℕ) → n ≡ length w.entries → (j : ℕ) → i ≡ j → 1 ≤ length (w.entries ++ v.entries)
    more w v at e go (suc n) k j z = let all = length-append w.entries v.entries in omega (arith, all, k)
    more w v at e go zero k zero z =
        let here : x ≡ s = (let same : slice_get (x ∷ ss) zero ≡ Some s = subst (λ a. slice_get (x ∷ ss) a ≡ Some s) z there in cc) in
        let its : y ≡ g = (let same : slice_get (y ∷ gs) zero ≡ Some g = subst (λ a. slice_get (y ∷ gs) a ≡ Some g) z with_it in cc) in
        let some = works_some code o (min o.quantum left) x y d w at_all (ap (λ a. next o a y) here ∙ ap (next o s) its ∙ nx) at in
        absurd (omega (arith, some, k))
    more w v at e go zero k (suc j) z =
        let all = length-append w.entries v.entries in
        let rest = go (left - length w.entries) v j (omega (arith, l, k)) (subst (λ a. slice_get (x ∷ ss) a ≡ Some s) z there) (subst (λ a. slice_get (y ∷ gs) a ≡ Some g) z with_it) e in
        omega (arith, all, rest)

    second : (w : Worked) (o2 : Option Round) → work code o (min o.quantum left) x y ≡ Some w → round_of code o (left - length w.entries) ss gs ≡ o2 → Later code o ss gs s g → option_map (before_round w) o2 ≡ Some r → 1 ≤ length r.entries
    second w None at e go h = absurd (cc h)
    second w (Some v) at e go h = let same : before_round w v ≡ r = cc in subst (λ (z : Round). 1 ≤ length z.entries) same (more w v at e go (length w.entries) refl i refl)

    first : (o2 : Option Worked) → work code o (min o.quantum left) x y ≡ o2 → Later code o ss gs s g → then_some o2 (λ w. option_map (before_round w) (round_of code o (left - length w.entries) ss gs)) ≡ Some r → 1 ≤ length r.entries
    first None at go h = absurd (cc h)
    first (Some w) at go h = second w (round_of code o (left - length w.entries) ss gs) at refl go h
