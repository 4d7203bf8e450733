-- The cluster after a round, and the run.
use Rattle.std.proofs.Common.{◌≡◌, ℕ, suc, ◌+◌, ◌-◌, ◌==◌, ◌<◌, ◌≤◌, Bool, true, false, if◌then◌else◌, List, [], ◌∷◌, ◌++◌, length, Option, Some, refl, sym, ap, subst, ◌∙◌, arith}
use Rattle.std.specs.Prelude.{min, option_map, slice_get, Result, Ok, Err, IfOk}
use Rattle.journal.specs.View.{EntryView}
use Rattle.rand_pcg.specs.Lcg.{Lcg}
use Rattle.fr_base.specs.declared.instruction.Instr.{Instr}
use Rattle.fr_base.specs.declared.settings.Options.{Options}
use Rattle.borrow_check.specs.Programs.{Program}
use Rattle.law_plain_table.specs.Bare.{bare}
use Rattle.server_model.specs.Servers.{Sent, Server, Cluster}
use Rattle.server_model.specs.Clusters.{accept, accept_at, accept_all, emptied, outboxes, hand_over}
use Rattle.server_core.specs.Servers.{ServerView}
use Rattle.drive_model.specs.Rounds.{Run, Round, round_of, events_left, after_round, round}
use Rattle.law_runs_whole.specs.runs.Runs.{EachKeepsCoherence}
use Rattle.law_runs_rounds.specs.rounds.Working.{CanWork}
use Rattle.law_runs_rounds.specs.rounds.UnderWay.{IsUnderWay, ServersCanWork}
use Rattle.law_runs_rounds.proofs.rounds.UnderWay.{turns_in_range}
use Rattle.cluster_core.specs.Views.{states, code_in, options_in, events_in, cluster_of, AllKeep, AreServersOf}
use Rattle.drust_run.proofs.RoundLemmas.{AllCan, IsRound, length_append}

-- what all servers keep is what the first one keeps
code_same : (code : List Instr) (o : Options) (vs : List ServerView) → 0 < length vs → AllKeep code o vs → (code_in vs ≡ code) × (options_in vs ≡ o)
code_same code o [] some keep = absurd (let bad : 1 ≤ 0 = omega (arith, some) in omega (arith, bad))
code_same code o (v ∷ vs) some keep = keep.0

-- the servers of a run, once they have done a round
pub run_kept : (p : Program) (left : ℕ) (vs us : List ServerView) (gs hs : List Lcg) (es : List EntryView) → AreServersOf p vs → IsRound (code_in vs) (options_in vs) left vs us gs hs es
    → AreServersOf p us × (code_in us ≡ code_in vs) × (options_in us ≡ options_in vs)
run_kept p left vs us gs hs es are r =
    let same = code_same (code_in vs) (options_in vs) us (omega (arith, r.long, are.some)) r.keep in (
      record {
        numbered = r.numbered 0 are.numbered;
        alike = subst (λ c. AllKeep c (options_in us) us) (sym same.0) (subst (λ o. AllKeep (code_in vs) o us) (sym same.1) r.keep);
        count = r.long ∙ are.count ∙ ap (λ (o : Options). o.servers) (sym same.1);
        some = omega (arith, r.long, are.some);
        few = omega (arith, r.long, are.few);
        code = ap bare same.0 ∙ are.code;
        short = omega (arith, ap length same.0, are.short);
      },
      same.0,
      same.1,
    )

-- the same run with those servers
cluster_after : (vs ws : List ServerView) → code_in ws ≡ code_in vs → options_in ws ≡ options_in vs → record (cluster_of vs) { servers = states ws } ≡ cluster_of ws
cluster_after vs ws code options =
    ap (λ c. record { code = c; options = options_in vs; servers = states ws }) (sym code) ∙ ap (λ o. record { code = code_in ws; options = o; servers = states ws }) (sym options)

-- the definition's round
pub round_is : (r : Run) (vs us : List ServerView) (hs : List Lcg) (es : List EntryView) → r.cluster ≡ cluster_of vs → IsRound (code_in vs) (options_in vs) (events_left r) vs us r.generators hs es
    → code_in us ≡ code_in vs → options_in us ≡ options_in vs → round r ≡ Some (record { cluster = hand_over (cluster_of us); generators = hs; journal = r.journal ++ es })
round_is r vs us hs es cluster done code options =
    let left = events_left r in
    let made : Round = record { servers = states us; generators = hs; entries = es } in
    ap (λ (k : Cluster). option_map (after_round r) (round_of k.code k.options left k.servers r.generators)) cluster
    ∙ ap (option_map (after_round r)) done.is
    ∙ ap (λ (k : Cluster). Some (record { cluster = hand_over (record k { servers = states us }); generators = hs; journal = r.journal ++ es })) cluster
    ∙ ap (λ k. Some (record { cluster = hand_over k; generators = hs; journal = r.journal ++ es })) (cluster_after vs us code options)

-- THE RUN BEFORE AND AFTER A ROUND

-- the run of those servers
abbrev pub run_at : List ServerView → List Lcg → List EntryView → Run
run_at vs gs journal = record { cluster = cluster_of vs; generators = gs; journal = journal }

pub run_at_is : (r : Run) (vs : List ServerView) → cluster_of vs ≡ r.cluster → r ≡ run_at vs r.generators r.journal
run_at_is r vs cluster = ap (λ k. record { cluster = k; generators = r.generators; journal = r.journal }) (sym cluster)

-- and where they are called otherwise
pub run_named : (r : Run) (vs ws : List ServerView) (gs : List Lcg) → cluster_of vs ≡ r.cluster → ws ≡ vs → gs ≡ r.generators → r ≡ run_at ws gs r.journal
run_named r vs ws gs cluster servers choices =
    run_at_is r vs cluster ∙ ap (λ l. run_at l r.generators r.journal) (sym servers) ∙ ap (λ l. run_at ws l r.journal) (sym choices)

-- as many states as servers
pub states_long : (vs : List ServerView) → length (states vs) ≡ length vs
states_long [] = refl
states_long (v ∷ vs) = let rest = states_long vs in omega (arith, rest)

-- what each place has, all have
all_can : (code : List Instr) (o : Options) (left : ℕ) (ss : List Server) (gs : List Lcg) → ((i : ℕ) (s : Server) (g : Lcg) → slice_get ss i ≡ Some s → slice_get gs i ≡ Some g → CanWork code o (min o.quantum left) s g) → AllCan code o left ss gs
all_can code o left [] gs can = tt
all_can code o left (s ∷ ss) [] can = tt
all_can code o left (s ∷ ss) (g ∷ gs) can = (can 0 s g refl refl, all_can code o left ss gs (λ i t h. can (suc i) t h))

-- the servers of a run under way can do a round
pub all_ready : (vs : List ServerView) (gs : List Lcg) (journal : List EntryView) → EachKeepsCoherence → ServersCanWork → IsUnderWay (run_at vs gs journal)
    → AllCan (code_in vs) (options_in vs) ((options_in vs).turns - length journal) (states vs) gs
all_ready vs gs journal each servers way =
    all_can (code_in vs) (options_in vs) ((options_in vs).turns - length journal) (states vs) gs (λ i s g there drawn. servers each (run_at vs gs journal) i s g way there drawn)

-- once the servers have worked, with the journal after it
pub record HasWorked (p : Program) (vs us : List ServerView) (gs hs : List Lcg) (journal after : List EntryView) : Type 0 where
  pub run : AreServersOf p us
  pub few : events_in (states us) ≤ 1000000000
  pub round : round (run_at vs gs journal) ≡ Some (record { cluster = hand_over (cluster_of us); generators = hs; journal = after })
  pub counted : events_in (states us) ≡ length after

pub has_worked : (p : Program) (vs us : List ServerView) (gs hs : List Lcg) (journal es after : List EntryView) → IsUnderWay (run_at vs gs journal) → AreServersOf p vs → events_in (states vs) ≡ length journal
    → IsRound (code_in vs) (options_in vs) ((options_in vs).turns - length journal) vs us gs hs es → after ≡ journal ++ es → HasWorked p vs us gs hs journal after
has_worked p vs us gs hs journal es after way are counted r behind =
    let o = options_in vs in
    let left = o.turns - length journal in
    let kept = run_kept p left vs us gs hs es are r in
    let long = length_append journal es in
    let turns : o.turns ≤ 1000000000 = turns_in_range o way.within in
    let most : length journal ≤ o.turns = way.turns in
    subst (HasWorked p vs us gs hs journal) (sym behind) (record {
      run = kept.0;
      few = omega (arith, r.events, counted, r.few, turns, most);
      round = round_is (run_at vs gs journal) vs us hs es refl r kept.1 kept.2;
      counted = omega (arith, r.events, counted, long);
    })

-- HANDING OVER COUNTS NO EVENT

emptied_counts : (ss : List Server) → events_in (emptied ss) ≡ events_in ss
emptied_counts [] = refl
emptied_counts (s ∷ ss) = ap (λ n. s.events + n) (emptied_counts ss)

accepted_counts : (x : Sent) (ss : List Server) → events_in (accept_at ss x) ≡ events_in ss
accepted_counts x [] = refl
accepted_counts x (s ∷ ss) = by (s.rest.number == x.target) (accepted_counts x ss)
  where
    by : (b : Bool) → events_in (accept_at ss x) ≡ events_in ss → events_in (if b then accept x.message s ∷ ss else s ∷ accept_at ss x) ≡ s.events + events_in ss
    by true e = refl
    by false e = ap (λ n. s.events + n) e

all_accepted_counts : (xs : List Sent) (ss : List Server) → events_in (accept_all ss xs) ≡ events_in ss
all_accepted_counts [] ss = refl
all_accepted_counts (x ∷ xs) ss = all_accepted_counts xs (accept_at ss x) ∙ accepted_counts x ss

pub handed_counts : (k : Cluster) → events_in (hand_over k).servers ≡ events_in k.servers
handed_counts k = all_accepted_counts (outboxes k.servers) (emptied k.servers) ∙ emptied_counts k.servers

-- WHAT THE CODE HOLDS

-- a run by its parts
abbrev pub run_with : Cluster → List Lcg → List EntryView → Option Run
run_with k gs xs = Some (record { cluster = k; generators = gs; journal = xs })

pub run_by : (k c : Cluster) (gs hs : List Lcg) (xs ys : List EntryView) → k ≡ c → gs ≡ hs → xs ≡ ys
    → run_with k gs xs ≡ run_with c hs ys
run_by k c gs hs xs ys cluster generators journal =
    ap (λ z. run_with z gs xs) cluster ∙ ap (λ z. run_with c z xs) generators ∙ ap (λ z. run_with c hs z) journal

-- the run after it, handed over
pub round_handed : (p : Program) (r : Run) (vs us ws : List ServerView) (gs hs ks : List Lcg) (before after journal : List EntryView) (k : Cluster) → r ≡ run_at vs gs before → HasWorked p vs us gs hs before after
    → k ≡ hand_over (cluster_of ws) → ws ≡ us → ks ≡ hs → journal ≡ after → round r ≡ Some (record { cluster = k; generators = ks; journal = journal })
round_handed p r vs us ws gs hs ks before after journal k is worked state servers choices entries =
    ap round is ∙ worked.round ∙ run_by (hand_over (cluster_of us)) k hs ks after journal (ap (λ l. hand_over (cluster_of l)) (sym servers) ∙ sym state) (sym choices) (sym entries)

pub counted_handed : (p : Program) (vs us ws : List ServerView) (gs hs : List Lcg) (before after journal : List EntryView) (k : Cluster) → HasWorked p vs us gs hs before after → k ≡ hand_over (cluster_of ws) → ws ≡ us → journal ≡ after
    → events_in k.servers ≡ length journal
counted_handed p vs us ws gs hs before after journal k worked state servers entries =
    ap (λ (c : Cluster). events_in c.servers) state ∙ handed_counts (cluster_of ws) ∙ ap (λ l. events_in (states l)) servers ∙ worked.counted ∙ ap length (sym entries)

-- where the answer is a value, three facts on it give another one
pub ok_three : {X E : Type 0} {A B C Z : X → Type 0} (r : Result X E) → ((x : X) → A x → B x → C x → Z x) → IfOk r A → IfOk r B → IfOk r C → IfOk r Z
ok_three (Ok x) f a b c = f x a b c
ok_three (Err e) f a b c = tt
