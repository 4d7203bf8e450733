-- A server's work in a round, event by event.
use Rattle.std.proofs.Common.{◌≡◌, ℕ, zero, suc, ◌+◌, ◌-◌, ◌≤◌, ◌<◌, List, [], ◌∷◌, ◌++◌, length, Option, Some, None, refl, sym, ap, subst, ◌∙◌, arith}
use Rattle.std.specs.Prelude.{◌^◌, option_map, IsSome, IfSome}
use Rattle.std.proofs.lemmas.List.{append_assoc, append-nil}
use Rattle.rand_pcg.specs.Lcg.{Lcg}
use Rattle.fr_base.specs.declared.instruction.Instr.{Instr}
use Rattle.fr_base.specs.declared.settings.Options.{Options}
use Rattle.journal.specs.View.{EntryView}
use Rattle.server_model.specs.declared.event.What.{What}
use Rattle.server_model.specs.Servers.{Server}
use Rattle.thread_state.specs.View.{ThreadState}
use Rattle.server_model.specs.Work.{then_some, thread_in}
use Rattle.server_model.specs.Events.{does}
use Rattle.server_core.specs.Servers.{ServerView}
use Rattle.server_core.specs.Steps.{ThreadLeft, CountsLeft}
use Rattle.drive_model.specs.Choice.{Drawn, next}
use Rattle.drive_model.specs.Rounds.{Worked, nothing_done, after_entry, work_on, work}
use Rattle.law_runs_rounds.specs.rounds.Working.{HasSmallCounts, Goes, goes_where, CanWork}
use Rattle.drust_run.specs.Turns.{with_before}
use Rattle.drust_run.proofs.EventLemmas.{IsCounted, counted, same_number}

-- nothing before
pub none_before : (o : Option Worked) → option_map (with_before []) o ≡ o
none_before None = refl
none_before (Some w) = refl

-- work with entries before, and what of it was done now
pub record IsBehind (es : List EntryView) (o : Option Worked) (w : Worked) : Type 0 where
  pub entries : List EntryView
  pub work : o ≡ Some (record w { entries = entries })
  pub behind : w.entries ≡ es ++ entries

pub behind_before : (es : List EntryView) (o : Option Worked) (w : Worked) → option_map (with_before es) o ≡ Some w → IsBehind es o w
behind_before es None w e = absurd (cc e)
behind_before es (Some v) w e = let same : with_before es v ≡ w = cc in subst (IsBehind es (Some v)) same (record { entries = v.entries; work = refl; behind = refl })

-- an entry after those before
pub one_before : (es : List EntryView) (e : EntryView) (o : Option Worked) → option_map (with_before (es ++ e ∷ [])) o ≡ option_map (with_before es) (option_map (after_entry e) o)
one_before es e None = refl
one_before es e (Some w) = ap (λ l. Some (record w { entries = l })) (append_assoc es (e ∷ []) w.entries)

-- a server that has no event left did what was done before
pub nothing_after : (es : List EntryView) (s : Server) (g : Lcg) → option_map (with_before es) (Some (nothing_done s g)) ≡ Some (record { server = s; generator = g; entries = es })
nothing_after es s g = ap (λ l. Some (record { server = s; generator = g; entries = l })) (append-nil es)

-- the event that comes next is drawn so
abbrev pub drawn_as : What → Lcg → Drawn
drawn_as w g = record { what = w; generator = g }

-- the first of some events, and the others after it
pub work_first : (code : List Instr) (o : Options) (n : ℕ) (s : Server) (g : Lcg) (w : What) (h : Lcg) (t : Server) (e : EntryView) → next o s g ≡ Some (drawn_as w h) → does code o s w ≡ Some (t, e)
    → work code o (suc n) s g ≡ option_map (after_entry e) (work code o n t h)
work_first code o n s g w h t e drawn done =
    ap (work_on (work code o n) code o s g) drawn
    ∙ ap (λ (p : Option (Server × EntryView)). then_some p (λ d. option_map (after_entry d.1) (work code o n d.0 h))) done

-- where there is no event, nothing is done
pub work_none : (code : List Instr) (o : Options) (n : ℕ) (s : Server) (g : Lcg) → next o s g ≡ None → work code o n s g ≡ Some (nothing_done s g)
work_none code o zero s g none = refl
work_none code o (suc n) s g none = ap (work_on (work code o n) code o s g) none

-- WHAT IT ASKS

-- small counts are far from their ends
pub counts_left : (code : List Instr) (s : Server) → length code ≤ 2 ^ 30 → HasSmallCounts code s → CountsLeft s
counts_left code s short small = record {
  started = omega (arith, small.started);
  events = omega (arith, small.events);
  threads = λ t. by t (thread_in s.threads t) refl;
}
  where
    by : (t : ℕ) (x : Option ThreadState) → thread_in s.threads t ≡ x → IfSome x ThreadLeft
    by t None e = tt
    by t (Some y) e =
        let l = small.threads t y e in record {
          pc = omega (arith, l.pc, short);
          made = omega (arith, l.made);
          passed = omega (arith, l.passed);
          slots = omega (arith, l.slots, short);
        }

-- two results that are the same
same_first : {X Y : Type 0} (p q : X × Y) → Some p ≡ Some q → p.0 ≡ q.0
same_first p q e = let same : p ≡ q = cc in ap (λ x. x.0) same

-- what a server that can work needs for its next event
pub record CanAct (code : List Instr) (o : Options) (n : ℕ) (s : Server) (w : What) (h : Lcg) : Type 0 where
  pub result : IsSome (does code o s w)
  pub counts : CountsLeft s
  -- and then it can do the others
  pub onward : (t : Server) (e : EntryView) → does code o s w ≡ Some (t, e) → CanWork code o n t h

pub can_act : (code : List Instr) (o : Options) (n : ℕ) (s : Server) (g : Lcg) (w : What) (h : Lcg) → length code ≤ 2 ^ 30 → CanWork code o (suc n) s g → next o s g ≡ Some (drawn_as w h) → CanAct code o n s w h
can_act code o n s g w h short can drawn =
    let goes : Goes (CanWork code o n) code o s (drawn_as w h) = subst (goes_where (CanWork code o n) code o s) drawn can in record {
      result = subst IsSome (sym goes.done) refl;
      counts = counts_left code s short goes.counts;
      onward = λ t e done.
          subst (λ z. CanWork code o n z h) (same_first (goes.after, goes.entry) (t, e) (sym goes.done ∙ done)) goes.onward;
    }

-- where so many of the events were chosen
pub next_can : (most before : ℕ) (v : ServerView) (g : Lcg) (w : What) (h : Lcg) → before < most → length v.code ≤ 2 ^ 30 → CanWork v.code v.options (most - before) v.state g
    → next v.options v.state g ≡ Some (drawn_as w h) → CanAct v.code v.options (most - (before + 1)) v.state w h
next_can most before v g w h less short can drawn =
    let one : most - before ≡ suc (most - (before + 1)) = omega (arith, less) in
    can_act v.code v.options (most - (before + 1)) v.state g w h short (subst (λ n. CanWork v.code v.options n v.state g) one can) drawn

-- a server can do fewer events too
fewer_where : (code : List Instr) (o : Options) (m n : ℕ) (s : Server) (d : Option Drawn) → ((t : Server) (g : Lcg) → CanWork code o n t g → CanWork code o m t g)
    → goes_where (CanWork code o n) code o s d → goes_where (CanWork code o m) code o s d
fewer_where code o m n s None less can = tt
fewer_where code o m n s (Some d) less can = record { counts = can.counts; on = can.on; after = can.after; entry = can.entry; done = can.done; onward = less can.after d.generator can.onward }

pub can_fewer : (code : List Instr) (o : Options) (m n : ℕ) (s : Server) (g : Lcg) → m ≤ n → CanWork code o n s g → CanWork code o m s g
can_fewer code o zero n s g less can = tt
can_fewer code o (suc m) zero s g less can = absurd (let bad : 1 ≤ 0 = omega (arith, less) in omega (arith, bad))
can_fewer code o (suc m) (suc n) s g less can = fewer_where code o m n s (next o s g) (λ t h. can_fewer code o m n t h (omega (arith, less))) can

-- WHAT IT KEEPS

-- a server after its work: it has its number, and has counted its events
pub record IsKept (n : ℕ) (s : Server) (w : Worked) : Type 0 where
  pub number : w.server.rest.number ≡ s.rest.number
  pub events : w.server.events ≡ s.events + length w.entries
  pub few : length w.entries ≤ n

nothing_kept : (n : ℕ) (s : Server) (g : Lcg) (w : Worked) → Some (nothing_done s g) ≡ Some w → IsKept n s w
nothing_kept n s g w e = let same : nothing_done s g ≡ w = cc in subst (IsKept n s) same (record { number = refl; events = omega arith; few = omega arith })

one_more : (n : ℕ) (s : Server) (d : Server × EntryView) (p : Option Worked) (w : Worked) → d.0.rest.number ≡ s.rest.number → IsCounted s d → ((v : Worked) → p ≡ Some v → IsKept n d.0 v)
    → option_map (after_entry d.1) p ≡ Some w → IsKept (suc n) s w
one_more n s d None w number counts keeps e = absurd (cc e)
one_more n s d (Some v) w number counts keeps e =
    let k = keeps v refl in
    let same : after_entry d.1 v ≡ w = cc in
    subst (IsKept (suc n) s) same (record {
      number = k.number ∙ number;
      events = omega (arith, k.events, counts.events);
      few = omega (arith, k.few);
    })

then_more : (code : List Instr) (o : Options) (n : ℕ) (s : Server) (d : Drawn) (p : Option (Server × EntryView)) (w : Worked) → ((t : Server) (g : Lcg) (v : Worked) → work code o n t g ≡ Some v → IsKept n t v)
    → does code o s d.what ≡ p → then_some p (λ x. option_map (after_entry x.1) (work code o n x.0 d.generator)) ≡ Some w → IsKept (suc n) s w
then_more code o n s d None w keeps is e = absurd (cc e)
then_more code o n s d (Some x) w keeps is e =
    one_more n s x (work code o n x.0 d.generator) w (same_number code o s d.what x is) (counted code o s d.what x is) (λ v q. keeps x.0 d.generator v q) e

next_more : (code : List Instr) (o : Options) (n : ℕ) (s : Server) (g : Lcg) (d : Option Drawn) (w : Worked) → ((t : Server) (h : Lcg) (v : Worked) → work code o n t h ≡ Some v → IsKept n t v)
    → work_on (work code o n) code o s g d ≡ Some w → IsKept (suc n) s w
next_more code o n s g None w keeps e = nothing_kept (suc n) s g w e
next_more code o n s g (Some d) w keeps e = then_more code o n s d (does code o s d.what) w keeps refl e

-- whatever a server does in a round
pub works_keep : (code : List Instr) (o : Options) (n : ℕ) (s : Server) (g : Lcg) (w : Worked) → work code o n s g ≡ Some w → IsKept n s w
works_keep code o zero s g w e = nothing_kept 0 s g w e
works_keep code o (suc n) s g w e = next_more code o n s g (next o s g) w (works_keep code o n) e
