-- A run in rounds keeps its code and its options.
use Rattle.std.proofs.Common.{◌≡◌, ℕ, zero, suc, ◌+◌, ◌≤◌, length, Bool, true, false, List, [], ◌∷◌, ◌++◌, Option, Some, None, refl, ◌∙◌, subst}
use Rattle.std.specs.Prelude.{if◌then◌else◌, option_map}
use Rattle.law_plain_table.specs.Below.fr_base.declared.instruction.Instr.{Instr}
use Rattle.law_plain_table.specs.Below.fr_base.declared.settings.Options.{Options}
use Rattle.law_entries_events.specs.Below.law_runs_whole.Below.journal.View.{EntryView}
use Rattle.law_entries_events.specs.Below.law_runs_whole.Below.server_model.declared.event.Event.{Event}
use Rattle.law_entries_events.specs.Below.law_runs_whole.Below.server_model.declared.event.What.TheVariants.{Migrate}
use Rattle.law_entries_events.specs.Below.law_runs_whole.Below.server_model.Servers.{Server, Cluster, server_at}
use Rattle.law_entries_events.specs.Below.law_runs_whole.Below.server_model.Work.{then_some}
use Rattle.law_entries_events.specs.Below.law_runs_whole.Below.server_model.Clusters.{apply, hand_over_newer, done_at}
use Rattle.drive_model.specs.Balance.{Shift, loads, balance}
use Rattle.drive_model.specs.Rounds.{Run, Round, round_of, events_left, after_round, round, shifted, is_balanced, balanced, is_done, rounds_from, rounds, run_start}
use Rattle.drive_model.specs.Laws.{JournalsBounded}

-- the run has this code and these options
abbrev HasSame : List Instr → Options → Run → Type 0
HasSame code o r = (r.cluster.code ≡ code) × (r.cluster.options ≡ o)

-- an event keeps those of its cluster
abbrev AreKept : Cluster → Cluster × EntryView → Type 0
AreKept k d = (d.0.code ≡ k.code) × (d.0.options ≡ k.options)

event_by : (k : Cluster) (e : Event) (d : Cluster × EntryView) (older : ℕ) (p : Option (Server × EntryView))
    → option_map (λ y. (record k { servers = hand_over_newer e.server older y.0 k.servers }, y.1)) p ≡ Some d → AreKept k d
event_by k e d older None h = absurd cc
event_by k e d older (Some y) h =
    let same : (record k { servers = hand_over_newer e.server older y.0 k.servers }, y.1) ≡ d = cc in subst (AreKept k) same (refl, refl)

event_kept : (k : Cluster) (e : Event) (d : Cluster × EntryView) → apply k e ≡ Some d → AreKept k d
event_kept k e d h = by (server_at k.servers e.server) h
  where
    by : (o : Option Server) → then_some o (λ s. option_map (λ y. (record k { servers = hand_over_newer e.server (length s.rest.outbox) y.0 k.servers }, y.1)) (done_at k e.what s)) ≡ Some d → AreKept k d
    by None g = absurd cc
    by (Some s) g = event_by k e d (length s.rest.outbox) (done_at k e.what s) g

after_code : (code : List Instr) (o : Options) (r : Run) (p : Option Round) (x : Run) → HasSame code o r → option_map (after_round r) p ≡ Some x → HasSame code o x
after_code code o r None x c h = absurd cc
after_code code o r (Some v) x c h = let same : after_round r v ≡ x = cc in subst (HasSame code o) same c

abbrev entered : Run → Cluster × EntryView → Run
entered r d = record r { cluster = d.0; journal = r.journal ++ d.1 ∷ [] }

shifted_by : (code : List Instr) (o : Options) (r : Run) (p : Option (Cluster × EntryView)) (x : Run) → HasSame code o r → ((d : Cluster × EntryView) → p ≡ Some d → AreKept r.cluster d) → option_map (entered r) p ≡ Some x → HasSame code o x
shifted_by code o r None x c k h = absurd cc
shifted_by code o r (Some d) x c k h = let same : entered r d ≡ x = cc in let kept = k d refl in subst (HasSame code o) same (kept.0 ∙ c.0, kept.1 ∙ c.1)

shifted_code : (code : List Instr) (o : Options) (r : Run) (s : Option Shift) (x : Run) → HasSame code o r → shifted r s ≡ Some x → HasSame code o x
shifted_code code o r None x c h = let same : r ≡ x = cc in subst (HasSame code o) same c
shifted_code code o r (Some s) x c h =
    let e : Event = record { server = s.source; what = Migrate s.thread s.target } in
    shifted_by code o r (apply r.cluster e) x c (λ d is. event_kept r.cluster e d is) h

balanced_by : (code : List Instr) (o : Options) (r x : Run) (q : Bool) → HasSame code o r → (if q then shifted r (balance (loads r.cluster.servers)) else Some r) ≡ Some x → HasSame code o x
balanced_by code o r x true c h = shifted_code code o r (balance (loads r.cluster.servers)) x c h
balanced_by code o r x false c h = let same : r ≡ x = cc in subst (HasSame code o) same c

then_code : (code : List Instr) (o : Options) (p : Option Run) (go : Run → Option Run) (x : Run) → ((v : Run) → p ≡ Some v → HasSame code o v) → ((v y : Run) → HasSame code o v → go v ≡ Some y → HasSame code o y) → then_some p go ≡ Some x → HasSame code o x
then_code code o None go x b g h = absurd cc
then_code code o (Some v) go x b g h = g v x (b v refl) h

goes_on_code : (code : List Instr) (o : Options) (k n : ℕ) (r x : Run) (q : Bool) → HasSame code o r → ((v y : Run) → HasSame code o v → rounds_from k (n + 1) v ≡ Some y → HasSame code o y)
    → (if q then Some r else then_some (round r) (λ y. then_some (balanced n y) (rounds_from k (n + 1)))) ≡ Some x → HasSame code o x
goes_on_code code o k n r x true c i h = let same : r ≡ x = cc in subst (HasSame code o) same c
goes_on_code code o k n r x false c i h =
    then_code code o (round r) (λ y. then_some (balanced n y) (rounds_from k (n + 1))) x
    (λ v e. after_code code o r (round_of r.cluster.code r.cluster.options (events_left r) r.cluster.servers r.generators) v c e)
    (λ v y d e. then_code code o (balanced n v) (rounds_from k (n + 1)) y (λ u f. balanced_by code o v u (is_balanced n v) d f) i e) h

runs_code : (code : List Instr) (o : Options) (k n : ℕ) (r x : Run) → HasSame code o r → rounds_from k n r ≡ Some x → HasSame code o x
runs_code code o zero n r x c h = let same : r ≡ x = cc in subst (HasSame code o) same c
runs_code code o (suc k) n r x c h = goes_on_code code o k n r x (is_done r) c (runs_code code o k (n + 1)) h

-- the code of a run in rounds, its options, and no more entries than turns
pub record Keeps (code : List Instr) (o : Options) (r : Run) : Type 0 where
  pub coded : r.cluster.code ≡ code
  pub options : r.cluster.options ≡ o
  pub entries : length r.journal ≤ o.turns

pub rounds_keep : JournalsBounded → (code : List Instr) (o : Options) (r : Run) → rounds code o ≡ Some r → Keeps code o r
rounds_keep bounded code o r h =
    let same = runs_code code o o.turns 1 (run_start code o) r (refl, refl) h in
    record { coded = same.0; options = same.1; entries = bounded code o r h }
