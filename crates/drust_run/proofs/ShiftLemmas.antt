-- A balance that moves a thread.
use Rattle.std.proofs.Common.{◌≡◌, ℕ, ◌<◌, ◌≤◌, true, List, [], ◌∷◌, ◌++◌, length, Option, Some, None, refl, sym, ap, ◌∙◌, arith}
use Rattle.std.specs.Prelude.{IfSome, option_map, slice_get, slice_set}
use Rattle.journal.specs.View.{EntryView}
use Rattle.borrow_check.specs.Programs.{Program}
use Rattle.server_model.specs.declared.event.What.{What}
use Rattle.server_model.specs.declared.event.What.TheVariants.{Migrate}
use Rattle.server_model.specs.Servers.{Server, Cluster}
use Rattle.server_model.specs.Events.{does, enabled}
use Rattle.server_model.specs.Clusters.{hand_over}
use Rattle.server_core.specs.Servers.{ServerView}
use Rattle.drive_model.specs.Balance.{Load, Shift, balance, loads}
use Rattle.drive_model.specs.Rounds.{Run, is_balanced, shifted}
use Rattle.law_runs_whole.specs.runs.Runs.{EachKeepsCoherence}
use Rattle.law_runs_rounds.specs.rounds.UnderWay.{IsUnderWay, CanMove, BalancesCanMove}
use Rattle.law_runs_rounds.proofs.rounds.UnderWay.{turns_in_range}
use Rattle.cluster_core.specs.Views.{states, events_in, cluster_of, AreServersOf}
use Rattle.drust_run.specs.Moves.{CanAct, IsDone}
use Rattle.drust_run.proofs.RoundLemmas.{length_append}
use Rattle.drust_run.proofs.ClusterLemmas.{run_with, run_by}
use Rattle.drust_run.proofs.MoveLemmas.{view_at, place_within, has_moved, can_move, done_same, due_left}

-- the server and the event of a move
abbrev pub told : Shift → ℕ × What
told x = (x.source, Migrate x.thread x.target)

record IsTold (o : Option Shift) (n : ℕ) (w : What) : Type 0 where
  shift : Shift
  is : o ≡ Some shift
  source : n ≡ shift.source
  what : w ≡ Migrate shift.thread shift.target

told_by : (o : Option Shift) (n : ℕ) (w : What) (p : ℕ × What) → p.0 ≡ n → p.1 ≡ w → Some p ≡ option_map told o → IsTold o n w
told_by None n w p a b e = absurd (cc e)
told_by (Some x) n w p a b e = let same : p ≡ told x = cc in record { shift = x; is = refl; source = sym a ∙ ap (λ q. q.0) same; what = sym b ∙ ap (λ q. q.1) same }

-- a move that is due, and what it asks of the servers
pub record IsMove (r : Run) (vs : List ServerView) (n : ℕ) (w : What) : Type 0 where
  pub shift : Shift
  pub is : balance (loads r.cluster.servers) ≡ Some shift
  pub can : CanMove r shift
  pub source : n ≡ shift.source
  pub what : w ≡ Migrate shift.thread shift.target
  pub within : n < length vs
  pub able : IfSome (slice_get vs n) (CanAct w)

pub is_move : (p : Program) (r : Run) (vs : List ServerView) (number : ℕ) (ls : List Load) (n : ℕ) (w : What) → EachKeepsCoherence → BalancesCanMove → IsUnderWay r → is_balanced number r ≡ true → AreServersOf p vs → cluster_of vs ≡ r.cluster
    → ls ≡ loads r.cluster.servers → Some (n, w) ≡ option_map told (balance ls) → IsMove r vs n w
is_move p r vs number ls n w each moves way due are is taken told =
    let t = told_by (balance ls) n w (n, w) refl refl told in
    let x = t.shift in
    let found : balance (loads r.cluster.servers) ≡ Some x = ap balance (sym taken) ∙ t.is in
    let can = moves each r x way (due_left number r due) found in
    let there : slice_get r.cluster.servers n ≡ Some can.server = ap (slice_get r.cluster.servers) t.source ∙ can.there in
    let on : enabled r.cluster.options can.server w ≡ true = ap (enabled r.cluster.options can.server) t.what ∙ can.on in
    let done : does r.cluster.code r.cluster.options can.server w ≡ Some (can.after, can.entry) = ap (does r.cluster.code r.cluster.options can.server) t.what ∙ can.done in
    let at = view_at vs n can.server (ap (λ (k : Cluster). slice_get k.servers n) is ∙ there) in record {
      shift = x;
      is = found;
      can = can;
      source = t.source;
      what = t.what;
      within = place_within vs n at.0 at.1;
      able = can_move vs r.cluster n w can.server can.after can.entry is are.alike are.short there can.counts on done;
    }

-- the run once the thread has left
pub record HasShifted (p : Program) (r : Run) (us : List ServerView) (e : EntryView) : Type 0 where
  pub run : AreServersOf p us
  pub few : events_in (states us) ≤ 1000000000
  pub shifted : shifted r (balance (loads r.cluster.servers)) ≡ run_with (hand_over (cluster_of us)) r.generators (r.journal ++ e ∷ [])
  pub counted : events_in (states us) ≡ length (r.journal ++ e ∷ [])

pub has_shifted : (p : Program) (r : Run) (vs us : List ServerView) (number n : ℕ) (w : What) (e : EntryView) → IsMove r vs n w → IsUnderWay r → is_balanced number r ≡ true → AreServersOf p vs → cluster_of vs ≡ r.cluster
    → events_in r.cluster.servers ≡ length r.journal → IsDone n w e vs us → HasShifted p r us e
has_shifted p r vs us number n w e m way due are is counted d =
    let can = m.can in
    let x = m.shift in
    let there : slice_get r.cluster.servers n ≡ Some can.server = ap (slice_get r.cluster.servers) m.source ∙ can.there in
    let done : does r.cluster.code r.cluster.options can.server w ≡ Some (can.after, can.entry) = ap (does r.cluster.code r.cluster.options can.server) m.what ∙ can.done in
    let same = done_same vs us r.cluster n w can.server can.after can.entry e is are.alike there done d in
    let moved = has_moved p vs us n w e are d in
    let events = ap (λ (k : Cluster). events_in k.servers) is in
    let one = length_append r.journal (e ∷ []) in
    let left = due_left number r due in
    let turns : r.cluster.options.turns ≤ 1000000000 = turns_in_range r.cluster.options way.within in
    let cluster : record r.cluster { servers = slice_set r.cluster.servers x.source can.after } ≡ cluster_of us =
    ap (λ (i : ℕ). record r.cluster { servers = slice_set r.cluster.servers i can.after }) (sym m.source)
    ∙ ap (λ (s : Server). record r.cluster { servers = slice_set r.cluster.servers n s }) (sym same.0)
    ∙ ap (λ (k : Cluster). record k { servers = slice_set k.servers n d.new.state }) (sym is)
    ∙ sym moved.cluster in
    record {
      run = moved.run;
      few = omega (arith, moved.events, events, counted, left, turns);
      shifted =
          ap (shifted r) m.is ∙ can.moved
          ∙ run_by (hand_over (record r.cluster { servers = slice_set r.cluster.servers x.source can.after })) (hand_over (cluster_of us)) r.generators r.generators (r.journal ++ can.entry ∷ []) (r.journal ++ e ∷ []) (ap hand_over cluster) refl
          (ap (λ y. r.journal ++ y ∷ []) (sym same.1));
      counted = omega (arith, moved.events, events, counted, one);
    }
