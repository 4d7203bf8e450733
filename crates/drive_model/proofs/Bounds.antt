-- The journal of a run in rounds is no longer than its turns.
use Rattle.std.proofs.Common.{◌≡◌, ℕ, zero, suc, ◌+◌, ◌-◌, ◌≤◌, ◌==◌, Bool, true, false, List, [], ◌∷◌, ◌++◌, length, Option, Some, None, refl, ap, subst, ◌∙◌, arith}
use Rattle.std.specs.Prelude.{if◌then◌else◌, ◌%◌, ◌&&◌, nat_lt, min, option_map}
use Rattle.rand_pcg.specs.Lcg.{Lcg}
use Rattle.fr_base.specs.declared.instruction.Instr.{Instr}
use Rattle.fr_base.specs.declared.settings.Options.{Options}
use Rattle.journal.specs.View.{EntryView}
use Rattle.std.proofs.Math.Nat.{min-le_right}
use Rattle.std.proofs.lemmas.Bool.Decides.{nat_tests}
use Rattle.server_model.specs.declared.event.Event.{Event}
use Rattle.server_model.specs.declared.event.What.TheVariants.{Migrate}
use Rattle.server_model.specs.Servers.{Server, Cluster, server_at}
use Rattle.server_model.specs.Work.{then_some}
use Rattle.server_model.specs.Events.{does}
use Rattle.server_model.specs.Clusters.{apply, hand_over_newer, done_at}
use Rattle.drive_model.specs.Choice.{Drawn, next}
use Rattle.drive_model.specs.Balance.{Shift, loads, balance}
use Rattle.drive_model.specs.Rounds.{Run, Worked, Round, nothing_done, no_entries, after_entry, work_on, work, before_round, round_of, events_left, after_round, round, shifted, is_balanced, balanced, is_done, rounds_from, run_start}
use Rattle.drive_model.specs.Laws.{JournalsBounded}

-- WHAT A SERVER DOES

abbrev AtMost : ℕ → Worked → Type 0
AtMost n w = length w.entries ≤ n

one_more : (n : ℕ) (e : EntryView) (o : Option Worked) (w : Worked) → ((v : Worked) → o ≡ Some v → AtMost n v) → option_map (after_entry e) o ≡ Some w → AtMost (suc n) w
one_more n e None w g h = absurd cc
one_more n e (Some v) w g h =
    let same : after_entry e v ≡ w = cc in
    let less : length v.entries ≤ n = g v refl in subst (AtMost (suc n)) same (omega (arith, less))

then_more : (n : ℕ) (go : Server → Lcg → Option Worked) (g : Lcg) (p : Option (Server × EntryView)) (w : Worked)
    → ((s : Server) (v : Worked) → go s g ≡ Some v → AtMost n v)
    → then_some p (λ e. option_map (after_entry e.1) (go e.0 g)) ≡ Some w → AtMost (suc n) w
then_more n go g None w i h = absurd cc
then_more n go g (Some e) w i h = one_more n e.1 (go e.0 g) w (i e.0) h

next_more : (n : ℕ) (code : List Instr) (o : Options) (s : Server) (g : Lcg) (d : Option Drawn) (w : Worked)
    → ((s : Server) (g : Lcg) (v : Worked) → work code o n s g ≡ Some v → AtMost n v)
    → work_on (work code o n) code o s g d ≡ Some w → AtMost (suc n) w
next_more n code o s g None w i h = let same : nothing_done s g ≡ w = cc in subst (AtMost (suc n)) same (omega arith)
next_more n code o s g (Some d) w i h = then_more n (work code o n) d.generator (does code o s d.what) w (λ t v. i t d.generator v) h

works_bounded : (code : List Instr) (o : Options) (n : ℕ) (s : Server) (g : Lcg) (w : Worked) → work code o n s g ≡ Some w → AtMost n w
works_bounded code o zero s g w h = let same : nothing_done s g ≡ w = cc in subst (AtMost 0) same (omega arith)
works_bounded code o (suc n) s g w h = next_more n code o s g (next o s g) w (works_bounded code o n) h

-- WHAT A ROUND DOES

abbrev RoundWithin : ℕ → Round → Type 0
RoundWithin n r = length r.entries ≤ n

length_append : {A : Type 0} (xs ys : List A) → length (xs ++ ys) ≡ length xs + length ys
length_append [] ys = omega arith
length_append (x ∷ xs) ys = let rest = length_append xs ys in omega (arith, rest)

rest_within : (left : ℕ) (w : Worked) (p : Option Round) (r : Round) → AtMost left w → ((v : Round) → p ≡ Some v → RoundWithin (left - length w.entries) v)
    → option_map (before_round w) p ≡ Some r → RoundWithin left r
rest_within left w None r b g h = absurd cc
rest_within left w (Some v) r b g h =
    let same : before_round w v ≡ r = cc in
    let more : length v.entries ≤ left - length w.entries = g v refl in
    subst (RoundWithin left) same (omega (arith, b, more, length_append w.entries v.entries))

then_within : (left : ℕ) (go : ℕ → Option Round) (p : Option Worked) (r : Round) → ((w : Worked) → p ≡ Some w → AtMost left w) → ((n : ℕ) (v : Round) → go n ≡ Some v → RoundWithin n v)
    → then_some p (λ w. option_map (before_round w) (go (left - length w.entries))) ≡ Some r → RoundWithin left r
then_within left go None r b g h = absurd cc
then_within left go (Some w) r b g h = rest_within left w (go (left - length w.entries)) r (b w refl) (g (left - length w.entries)) h

smaller : (a b n : ℕ) → n ≤ min a b → n ≤ b
smaller a b n h = let less = min-le_right a b in omega (arith, h, less)

rounds_within : (code : List Instr) (o : Options) (ss : List Server) (gs : List Lcg) (left : ℕ) (r : Round) → round_of code o left ss gs ≡ Some r → RoundWithin left r
rounds_within code o [] gs left r h = let same : no_entries [] gs ≡ r = cc in subst (RoundWithin left) same (omega arith)
rounds_within code o (s ∷ ss) [] left r h = let same : no_entries (s ∷ ss) [] ≡ r = cc in subst (RoundWithin left) same (omega arith)
rounds_within code o (s ∷ ss) (g ∷ gs) left r h =
    then_within left (λ n. round_of code o n ss gs) (work code o (min o.quantum left) s g) r
    (λ w e. smaller o.quantum left (length w.entries) (works_bounded code o (min o.quantum left) s g w e)) (λ n v e. rounds_within code o ss gs n v e) h

-- WHAT A RUN DOES

-- the run has these options, and no more entries than turns
pub record Bounded (o : Options) (r : Run) : Type 0 where
  pub options : r.cluster.options ≡ o
  pub entries : length r.journal ≤ o.turns

after_bounded : (o : Options) (r : Run) (x : Round) → Bounded o r → RoundWithin (events_left r) x → Bounded o (after_round r x)
after_bounded o r x b w =
    let turns : r.cluster.options.turns ≡ o.turns = ap (λ z. z.turns) b.options in
    record { options = b.options; entries = omega (arith, b.entries, w, turns, length_append r.journal x.entries) }

round_bounded : (o : Options) (r : Run) (p : Option Round) (x : Run) → Bounded o r → ((v : Round) → p ≡ Some v → RoundWithin (events_left r) v) → option_map (after_round r) p ≡ Some x → Bounded o x
round_bounded o r None x b g h = absurd cc
round_bounded o r (Some v) x b g h = let same : after_round r v ≡ x = cc in subst (Bounded o) same (after_bounded o r v b (g v refl))

-- an event keeps the options of its cluster
options_by : (k : Cluster) (e : Event) (d : Cluster × EntryView) (older : ℕ) (p : Option (Server × EntryView))
    → option_map (λ y. (record k { servers = hand_over_newer e.server older y.0 k.servers }, y.1)) p ≡ Some d → d.0.options ≡ k.options
options_by k e d older None h = absurd cc
options_by k e d older (Some y) h =
    let same : (record k { servers = hand_over_newer e.server older y.0 k.servers }, y.1) ≡ d = cc in subst (λ (z : Cluster × EntryView). z.0.options ≡ k.options) same refl

options_kept : (k : Cluster) (e : Event) (d : Cluster × EntryView) → apply k e ≡ Some d → d.0.options ≡ k.options
options_kept k e d h = by (server_at k.servers e.server) h
  where
    by : (o : Option Server) → then_some o (λ s. option_map (λ y. (record k { servers = hand_over_newer e.server (length s.rest.outbox) y.0 k.servers }, y.1)) (done_at k e.what s)) ≡ Some d → d.0.options ≡ k.options
    by None g = absurd cc
    by (Some s) g = options_by k e d (length s.rest.outbox) (done_at k e.what s) g

abbrev entered : Run → Cluster × EntryView → Run
entered r d = record r { cluster = d.0; journal = r.journal ++ d.1 ∷ [] }

entered_bounded : (o : Options) (r : Run) (d : Cluster × EntryView) → Bounded o r → d.0.options ≡ r.cluster.options → 1 ≤ events_left r → Bounded o (entered r d)
entered_bounded o r d b k l =
    let turns : r.cluster.options.turns ≡ o.turns = ap (λ z. z.turns) b.options in
    record { options = k ∙ b.options; entries = omega (arith, b.entries, l, turns, length_append r.journal (d.1 ∷ [])) }

shifted_by : (o : Options) (r : Run) (p : Option (Cluster × EntryView)) (x : Run) → Bounded o r → ((d : Cluster × EntryView) → p ≡ Some d → d.0.options ≡ r.cluster.options) → 1 ≤ events_left r
    → option_map (entered r) p ≡ Some x → Bounded o x
shifted_by o r None x b k l h = absurd cc
shifted_by o r (Some d) x b k l h = let same : entered r d ≡ x = cc in subst (Bounded o) same (entered_bounded o r d b (k d refl) l)

shifted_bounded : (o : Options) (r : Run) (s : Option Shift) (x : Run) → Bounded o r → 1 ≤ events_left r → shifted r s ≡ Some x → Bounded o x
shifted_bounded o r None x b l h = let same : r ≡ x = cc in subst (Bounded o) same b
shifted_bounded o r (Some s) x b l h =
    shifted_by o r (apply r.cluster (record { server = s.source; what = Migrate s.thread s.target })) x b (λ d e. options_kept r.cluster (record { server = s.source; what = Migrate s.thread s.target }) d e) l h

-- the test of a balance asks that an event is left
one_left : (n : ℕ) (r : Run) → is_balanced n r ≡ true → 1 ≤ events_left r
one_left n r h = by (nat_lt 0 r.cluster.options.balance) (n % r.cluster.options.balance == 0) (nat_lt 0 (events_left r)) refl h
  where
    by : (a b c : Bool) → nat_lt 0 (events_left r) ≡ c → (a && (b && c)) ≡ true → 1 ≤ events_left r
    by true true true e g = grind (arith, nat_tests, e)
    by true true false e g = absurd cc
    by true false c e g = absurd cc
    by false b c e g = absurd cc

balanced_by : (o : Options) (n : ℕ) (r x : Run) (q : Bool) → is_balanced n r ≡ q → Bounded o r → (if q then shifted r (balance (loads r.cluster.servers)) else Some r) ≡ Some x → Bounded o x
balanced_by o n r x true e b h = shifted_bounded o r (balance (loads r.cluster.servers)) x b (one_left n r e) h
balanced_by o n r x false e b h = let same : r ≡ x = cc in subst (Bounded o) same b

balanced_bounded : (o : Options) (n : ℕ) (r x : Run) → Bounded o r → balanced n r ≡ Some x → Bounded o x
balanced_bounded o n r x b h = balanced_by o n r x (is_balanced n r) refl b h

round_of_bounded : (o : Options) (r x : Run) → Bounded o r → round r ≡ Some x → Bounded o x
round_of_bounded o r x b h =
    round_bounded o r (round_of r.cluster.code r.cluster.options (events_left r) r.cluster.servers r.generators) x b (λ v e. rounds_within r.cluster.code r.cluster.options r.cluster.servers r.generators (events_left r) v e) h

-- a step of a run that keeps the bound, and the rest of the run
then_bounded : (o : Options) (p : Option Run) (go : Run → Option Run) (x : Run) → ((v : Run) → p ≡ Some v → Bounded o v) → ((v y : Run) → Bounded o v → go v ≡ Some y → Bounded o y) → then_some p go ≡ Some x → Bounded o x
then_bounded o None go x b g h = absurd cc
then_bounded o (Some v) go x b g h = g v x (b v refl) h

goes_on_bounded : (o : Options) (k n : ℕ) (r x : Run) (q : Bool) → Bounded o r → ((v y : Run) → Bounded o v → rounds_from k (n + 1) v ≡ Some y → Bounded o y)
    → (if q then Some r else then_some (round r) (λ y. then_some (balanced n y) (rounds_from k (n + 1)))) ≡ Some x → Bounded o x
goes_on_bounded o k n r x true b i h = let same : r ≡ x = cc in subst (Bounded o) same b
goes_on_bounded o k n r x false b i h =
    then_bounded o (round r) (λ y. then_some (balanced n y) (rounds_from k (n + 1))) x (λ v e. round_of_bounded o r v b e)
    (λ v y c e. then_bounded o (balanced n v) (rounds_from k (n + 1)) y (λ u f. balanced_bounded o n v u c f) i e) h

pub runs_bounded : (o : Options) (k n : ℕ) (r x : Run) → Bounded o r → rounds_from k n r ≡ Some x → Bounded o x
runs_bounded o zero n r x b h = let same : r ≡ x = cc in subst (Bounded o) same b
runs_bounded o (suc k) n r x b h = goes_on_bounded o k n r x (is_done r) b (runs_bounded o k (n + 1)) h

pub journals_bounded : JournalsBounded
journals_bounded code o r h = (runs_bounded o o.turns 1 (run_start code o) r (record { options = refl; entries = omega arith }) h).entries
