-- The loads of servers, and the move of a thread.
use Rattle.std.proofs.Common.{◌≡◌, ℕ, zero, suc, ◌+◌, ◌<◌, ◌≤◌, ◌==◌, Bool, true, false, List, [], ◌∷◌, ◌++◌, drop, length, Some, refl, sym, ap, subst, ◌∙◌, arith}
use Rattle.std.specs.Prelude.{◌^◌, ◌%◌, ◌&&◌, nat_lt, IsSome, IfSome, slice_get, slice_set, slice_index_or}
use Rattle.std.proofs.lemmas.Bool.Decides.{nat_tests}
use Rattle.std.proofs.lemmas.List.{append_assoc, drop_more}
use Rattle.fr_base.specs.declared.instruction.Instr.{Instr}
use Rattle.fr_base.specs.declared.settings.Options.{Options}
use Rattle.journal.specs.View.{EntryView}
use Rattle.borrow_check.specs.Programs.{Program}
use Rattle.law_plain_table.specs.Bare.{bare}
use Rattle.server_model.specs.declared.event.What.{What}
use Rattle.server_model.specs.Servers.{Server, Cluster}
use Rattle.server_model.specs.Events.{enabled, does}
use Rattle.server_core.specs.Steps.{CountsLeft}
use Rattle.drive_model.specs.Rounds.{Run, events_left, is_balanced}
use Rattle.law_runs_rounds.specs.rounds.Working.{HasSmallCounts}
use Rattle.drust_run.specs.Moves.{CanAct, IsDone}
use Rattle.drust_run.proofs.EventLemmas.{counted, same_number}
use Rattle.drust_run.proofs.WorkLemmas.{counts_left}
use Rattle.server_model.specs.Questions.{active, movable}
use Rattle.server_core.specs.Servers.{ServerView}
use Rattle.drive_model.specs.Balance.{Load, loads}
use Rattle.cluster_core.specs.Views.{states, code_in, options_in, events_in, cluster_of, AllKeep, AreNumbered, AreServersOf}

pub none_dropped : {X : Type 0} (xs : List X) → drop 0 xs ≡ xs
none_dropped [] = refl
none_dropped (x ∷ xs) = refl

-- the load of one server more
pub load_last : (vs : List ServerView) (i : ℕ) (v : ServerView) (ls ms : List Load) → i < length vs → v ≡ slice_index_or vs i v → ms ≡ ls ++ record { threads = active v.state; candidate = movable v.state } ∷ []
    → ls ++ loads (states (drop i vs)) ≡ loads (states vs) → ms ++ loads (states (drop (i + 1) vs)) ≡ loads (states vs)
load_last vs i v ls ms low here pushed all =
    let rest = loads (states (drop (i + 1) vs)) in
    let next : drop i vs ≡ v ∷ drop (i + 1) vs = drop_more vs i v low ∙ ap (λ x. x ∷ drop (i + 1) vs) (sym here) in
    ap (λ l. l ++ rest) pushed ∙ append_assoc ls _ rest ∙ ap (λ l. ls ++ loads (states l)) (sym next) ∙ all

-- as many loads as servers
pub loads_long : (ss : List Server) → length (loads ss) ≡ length ss
loads_long [] = refl
loads_long (s ∷ ss) = let rest = loads_long ss in omega (arith, rest)

-- THE MOVE

-- one server of a run with another state
set_states : (vs : List ServerView) (n : ℕ) (u : ServerView) → states (slice_set vs n u) ≡ slice_set (states vs) n u.state
set_states [] n u = refl
set_states (v ∷ vs) zero u = refl
set_states (v ∷ vs) (suc n) u = ap (λ l. v.state ∷ l) (set_states vs n u)

state_at : (vs : List ServerView) (n : ℕ) (v : ServerView) → slice_get vs n ≡ Some v → slice_get (states vs) n ≡ Some v.state
state_at [] n v e = absurd (cc e)
state_at (x ∷ vs) zero v e = let same : x ≡ v = cc in ap (λ (y : ServerView). Some y.state) same
state_at (x ∷ vs) (suc n) v e = state_at vs n v e

pub view_at : (vs : List ServerView) (n : ℕ) (s : Server) → slice_get (states vs) n ≡ Some s → (v : ServerView) × (slice_get vs n ≡ Some v) × (v.state ≡ s)
view_at [] n s e = absurd (cc e)
view_at (x ∷ vs) zero s e = let same : x.state ≡ s = cc in (x, refl, same)
view_at (x ∷ vs) (suc n) s e = view_at vs n s e

pub place_within : {X : Type 0} (xs : List X) (n : ℕ) (x : X) → slice_get xs n ≡ Some x → n < length xs
place_within [] n x e = absurd (cc e)
place_within (y ∷ xs) zero x e = omega arith
place_within (y ∷ xs) (suc n) x e = let l = place_within xs n x e in omega (arith, l)

keep_at : (code : List Instr) (o : Options) (vs : List ServerView) (n : ℕ) (v : ServerView) → AllKeep code o vs → slice_get vs n ≡ Some v → (v.code ≡ code) × (v.options ≡ o)
keep_at code o [] n v a e = absurd (cc e)
keep_at code o (x ∷ vs) zero v a e = let same : x ≡ v = cc in subst (λ (y : ServerView). (y.code ≡ code) × (y.options ≡ o)) same a.0
keep_at code o (x ∷ vs) (suc n) v a e = keep_at code o vs n v a.1 e

-- what a change of one server keeps
keep_set : (code : List Instr) (o : Options) (vs : List ServerView) (n : ℕ) (u : ServerView) → AllKeep code o vs → u.code ≡ code → u.options ≡ o → AllKeep code o (slice_set vs n u)
keep_set code o [] n u a c p = tt
keep_set code o (x ∷ vs) zero u a c p = ((c, p), a.1)
keep_set code o (x ∷ vs) (suc n) u a c p = (a.0, keep_set code o vs n u a.1 c p)

numbered_set : (m n : ℕ) (ss : List Server) (s t : Server) → AreNumbered m ss → slice_get ss n ≡ Some s → t.rest.number ≡ s.rest.number → AreNumbered m (slice_set ss n t)
numbered_set m n [] s t a e same = tt
numbered_set m zero (x ∷ ss) s t a e same = let is : s ≡ x = cc in (same ∙ ap (λ (y : Server). y.rest.number) is ∙ a.0, a.1)
numbered_set m (suc n) (x ∷ ss) s t a e same = (a.0, numbered_set (m + 1) n ss s t a.1 e same)

events_set : (ss : List Server) (n : ℕ) (s t : Server) → slice_get ss n ≡ Some s → t.events ≡ s.events + 1 → events_in (slice_set ss n t) ≡ events_in ss + 1
events_set [] n s t e h = absurd (cc e)
events_set (x ∷ ss) zero s t e h = let same : x.events ≡ s.events = let q : x ≡ s = cc in ap (λ (y : Server). y.events) q in omega (arith, same, h)
events_set (x ∷ ss) (suc n) s t e h = omega (arith, events_set ss n s t e h)

length_set : {X : Type 0} (xs : List X) (n : ℕ) (x : X) → length (slice_set xs n x) ≡ length xs
length_set [] n x = refl
length_set (y ∷ xs) zero x = refl
length_set (y ∷ xs) (suc n) x = let rest = length_set xs n x in omega (arith, rest)

code_set : (vs : List ServerView) (n : ℕ) (v u : ServerView) → slice_get vs n ≡ Some v → u.code ≡ v.code → u.options ≡ v.options → (code_in (slice_set vs n u) ≡ code_in vs) × (options_in (slice_set vs n u) ≡ options_in vs)
code_set [] n v u e c p = absurd (cc e)
code_set (x ∷ vs) zero v u e c p = let same : v ≡ x = cc in (c ∙ ap (λ (y : ServerView). y.code) same, p ∙ ap (λ (y : ServerView). y.options) same)
code_set (x ∷ vs) (suc n) v u e c p = (refl, refl)

-- the servers of a run once one of them has done an event
pub record HasMoved (p : Program) (vs us : List ServerView) (n : ℕ) (t : Server) : Type 0 where
  pub run : AreServersOf p us
  pub events : events_in (states us) ≡ events_in (states vs) + 1
  pub cluster : cluster_of us ≡ record (cluster_of vs) { servers = slice_set (states vs) n t }

pub has_moved : (p : Program) (vs us : List ServerView) (n : ℕ) (w : What) (e : EntryView) → AreServersOf p vs → (d : IsDone n w e vs us) → HasMoved p vs us n d.new.state
has_moved p vs us n w e are d =
    let v = d.old in
    let u = d.new in
    let ss = states vs in
    let code = code_in vs in
    let o = options_in vs in
    let kept = keep_at code o vs n v are.alike d.there in
    let at = state_at vs n v d.there in
    let counts = counted v.code v.options v.state w (u.state, e) d.done in
    let number = same_number v.code v.options v.state w (u.state, e) d.done in
    let zs = slice_set vs n u in
    let same = code_set vs n v u d.there d.code d.options in
    let now : states zs ≡ slice_set ss n u.state = set_states vs n u in
    let run : AreServersOf p zs = record {
      numbered = subst (AreNumbered 0) (sym now) (numbered_set 0 n ss v.state u.state are.numbered at number);
      alike = subst (λ c. AllKeep c (options_in zs) zs) (sym same.0) (subst (λ q. AllKeep code q zs) (sym same.1) (keep_set code o vs n u are.alike (d.code ∙ kept.0) (d.options ∙ kept.1)));
      count = length_set vs n u ∙ are.count ∙ ap (λ (q : Options). q.servers) (sym same.1);
      some = omega (arith, length_set vs n u, are.some);
      few = omega (arith, length_set vs n u, are.few);
      code = ap bare same.0 ∙ are.code;
      short = omega (arith, ap length same.0, are.short);
    } in record {
      run = subst (AreServersOf p) (sym d.changed) run;
      events = ap (λ l. events_in (states l)) d.changed ∙ ap events_in now ∙ events_set ss n v.state u.state at counts.events;
      cluster =
          ap cluster_of d.changed ∙ ap (λ c. record { code = c; options = options_in zs; servers = states zs }) same.0 ∙ ap (λ q. record { code = code; options = q; servers = states zs }) same.1
          ∙ ap (λ l. record { code = code; options = o; servers = l }) now;
    }

-- what the move asks at its server
pub can_move : (vs : List ServerView) (k : Cluster) (n : ℕ) (w : What) (s t : Server) (e : EntryView) → cluster_of vs ≡ k → AllKeep (code_in vs) (options_in vs) vs → length (code_in vs) ≤ 2 ^ 30 → slice_get k.servers n ≡ Some s
    → HasSmallCounts k.code s → enabled k.options s w ≡ true → does k.code k.options s w ≡ Some (t, e) → IfSome (slice_get vs n) (CanAct w)
can_move vs k n w s t e is alike short there small on done =
    let at = view_at vs n s (ap (λ (c : Cluster). slice_get c.servers n) is ∙ there) in
    let v = at.0 in
    let kept = keep_at (code_in vs) (options_in vs) vs n v alike at.1 in
    let code : v.code ≡ k.code = kept.0 ∙ ap (λ (c : Cluster). c.code) is in
    let options : v.options ≡ k.options = kept.1 ∙ ap (λ (c : Cluster). c.options) is in
    let same : does v.code v.options v.state w ≡ Some (t, e) = ap (λ x. does x v.options v.state w) code ∙ ap (λ x. does k.code x v.state w) options ∙ ap (λ x. does k.code k.options x w) at.2 ∙ done in
    let short_too : length k.code ≤ 2 ^ 30 = omega (arith, short, ap (λ (c : Cluster). length c.code) is) in
    subst (λ x. IfSome x (CanAct w)) (sym at.1) (record {
      on = ap (λ x. enabled x v.state w) options ∙ ap (λ x. enabled k.options x w) at.2 ∙ on;
      result = subst IsSome (sym same) refl;
      counts = subst CountsLeft (sym at.2) (counts_left k.code s short_too small);
    })

-- what was done is what the definition does
pub done_same : (vs us : List ServerView) (k : Cluster) (n : ℕ) (w : What) (s t : Server) (e f : EntryView) → cluster_of vs ≡ k → AllKeep (code_in vs) (options_in vs) vs → slice_get k.servers n ≡ Some s
    → does k.code k.options s w ≡ Some (t, e) → (d : IsDone n w f vs us) → (d.new.state ≡ t) × (f ≡ e)
done_same vs us k n w s t e f is alike there done d =
    let v = d.old in
    let kept = keep_at (code_in vs) (options_in vs) vs n v alike d.there in
    let code : v.code ≡ k.code = kept.0 ∙ ap (λ (c : Cluster). c.code) is in
    let options : v.options ≡ k.options = kept.1 ∙ ap (λ (c : Cluster). c.options) is in
    let here : Some v.state ≡ Some s = sym (state_at vs n v d.there) ∙ ap (λ (c : Cluster). slice_get c.servers n) is ∙ there in
    let state : v.state ≡ s = cc in
    pair_same (d.new.state, f) (t, e)
    (sym d.done ∙ ap (λ x. does x v.options v.state w) code ∙ ap (λ x. does k.code x v.state w) options ∙ ap (λ x. does k.code k.options x w) state ∙ done)
  where
    pair_same : (p q : Server × EntryView) → Some p ≡ Some q → (p.0 ≡ q.0) × (p.1 ≡ q.1)
    pair_same p q e = let same : p ≡ q = cc in (ap (λ x. x.0) same, ap (λ x. x.1) same)

-- a balance is due only where an event is left
pub due_left : (number : ℕ) (r : Run) → is_balanced number r ≡ true → 1 ≤ events_left r
due_left number r due = by (nat_lt 0 r.cluster.options.balance) (number % r.cluster.options.balance == 0) (nat_lt 0 (events_left r)) refl due
  where
    by : (a b d : Bool) → nat_lt 0 (events_left r) ≡ d → (a && (b && d)) ≡ true → 1 ≤ events_left r
    by true true true e h = grind (arith, nat_tests, e)
    by true true false e h = absurd (cc h)
    by true false d e h = absurd (cc h)
    by false b d e h = absurd (cc h)
