-- Along a run of events the plain machine follows, step by step.
use Rattle.std.proofs.Common.{◌≡◌, ℕ, zero, suc, ◌+◌, ◌<◌, ◌^◌, List, [], ◌∷◌, ◌++◌, length, take, Option, Some, None, refl, sym, ap, subst, ◌∙◌, arith}
use Rattle.std.specs.Prelude.{option_map}
use Rattle.law_runs_coherent.specs.Below.fr_base.declared.instruction.Instr.{Instr}
use Rattle.law_runs_coherent.specs.Below.fr_base.declared.settings.Options.{Options}
use Rattle.law_runs_coherent.specs.Below.fr_base.declared.label.Label.{Label}
use Rattle.law_runs_coherent.specs.Below.fr_base.declared.step.Fresh.{Fresh}
use Rattle.law_runs_coherent.specs.Below.fr_plain.Machine.{Turn, then_labels, go_on}
use Rattle.law_runs_coherent.specs.Below.fr_plain.PlainState.{SameState, plain_state}
use Rattle.law_runs_coherent.specs.Below.fr_code.Machine.{CodeWhole, CodeStepped, CodeState, code_step, code_run, code_start}
use Rattle.law_runs_coherent.specs.Below.journal.View.{EntryView}
use Rattle.law_runs_coherent.specs.Below.journal.Journals.{turn_of, order, labels, printed, prints}
use Rattle.law_runs_coherent.specs.Below.server_model.declared.event.Event.{Event}
use Rattle.law_runs_coherent.specs.Below.server_model.Servers.{Cluster, start_of}
use Rattle.law_runs_coherent.specs.Below.server_model.Clusters.{apply}
use Rattle.law_runs_coherent.specs.Below.coherent_memory.Sight.{sight}
use Rattle.law_runs_coherent.specs.Below.coherent_memory.Naming.{events_of}
use Rattle.law_runs_coherent.specs.Below.coherent_memory.OneHeap.{one_heap}
use Rattle.law_runs_coherent.specs.Below.coherent_memory.LeftBy.{LeadsTo, RunsWith}
use Rattle.law_runs_coherent.specs.Below.coherent_types.ClusterTypes.{IsCoherent}
use Rattle.law_runs_coherent.specs.Below.law_counts_sums.Laws.{Gives, FewEvents}
use Rattle.law_runs_coherent.proofs.Below.law_counts_sums.Results.{then_gives, over_gives, weaker, given_by}
use Rattle.law_runs_coherent.proofs.Below.law_counts_sums.KnownSound.{servers_between}
use Rattle.law_runs_coherent.specs.starts.Starts.{StartsAreCoherent}
use Rattle.law_runs_coherent.specs.Below.law_heap_writes.writes.Every.{IsStepOrStill}
use Rattle.law_runs_coherent.proofs.Below.law_heap_writes.writes.Every.{each_is}
use Rattle.code_meaning.specs.Runs.{run}
use Rattle.code_meaning.specs.OneHeap.{in_plain, plain_run}
use Rattle.code_meaning.specs.Laws.{HasPrinted}
use Rattle.code_meaning.specs.LeftByItsCode.{LeftByItsCode}
use Rattle.code_meaning.proofs.StartLeft.{starts_left}
use Rattle.code_meaning.proofs.Printing.{prints_are_labelled}
use Rattle.law_runs_whole.specs.runs.Runs.{run_of, EachKeepsCoherence, PlainlyLeft, IsLed, RunsLead}
use Rattle.law_runs_whole.proofs.runs.Counting.{one_more, same_code}
use Rattle.law_runs_whole.proofs.runs.Unlabelled.{undone_unlabelled}

same_back : {a b : CodeState} → SameState a b → SameState b a
same_back s = record { threads = λ t. sym (s.threads t); made = λ t. sym (s.made t); pairs = λ t. sym (s.pairs t); objects = λ o. sym (s.objects o); mutexes = λ m. sym (s.mutexes m); given = λ m. sym (s.given m) }

same_on : {a b c : CodeState} → SameState a b → SameState b c → SameState a c
same_on s u = record { threads = λ t. s.threads t ∙ u.threads t; made = λ t. s.made t ∙ u.made t; pairs = λ t. s.pairs t ∙ u.pairs t; objects = λ o. s.objects o ∙ u.objects o; mutexes = λ m. s.mutexes m ∙ u.mutexes m; given = λ m. s.given m ∙ u.given m }

-- ENTRIES IN FRONT

-- the plain run under the order of a journal is there, from that state, with the journal's labels
record Begins (code : List Instr) (c : CodeWhole) (es : List EntryView) : Type 0 where
  pub after : CodeStepped
  pub runs : code_run code c (order es) ≡ Some after
  pub labelled : after.labels ≡ labels es

turn_is : (a : Option ℕ) (b : Option Fresh) (t : ℕ) (names : Fresh) (rest : List Turn) → a ≡ Some t → b ≡ Some names → turn_of a b rest ≡ (t, names) ∷ rest
turn_is a b t names rest e f = ap (λ x. turn_of x b rest) e ∙ ap (λ x. turn_of (Some t) x rest) f

no_turn : (a : Option ℕ) (b : Option Fresh) (rest : List Turn) → b ≡ None → turn_of a b rest ≡ rest
no_turn None b rest e = refl
no_turn (Some t) b rest e = ap (λ x. turn_of (Some t) x rest) e

-- a step before a run
run_after : (code : List Instr) (c : CodeWhole) (t : ℕ) (names : Fresh) (ts : List Turn) (x y : CodeStepped) → code_step code c t names ≡ Some x → code_run code x.state ts ≡ Some y
    → code_run code c ((t, names) ∷ ts) ≡ Some (record { state = y.state; labels = x.labels ++ y.labels })
run_after code c t names ts x y e q = ap (λ o. go_on o (λ s. code_run code s ts)) e ∙ ap (then_labels x.labels) q

-- an entry in front of a journal: the plain machine goes from the first state to the second one with it, or stays
record Front (code : List Instr) (c a : CodeWhole) (x : EntryView) : Type 0 where
  pub runs_on : (es : List EntryView) → Begins code a es → Begins code c (x ∷ es)
  pub ends_there : (es : List EntryView) (b : Begins code a es) → (runs_on es b).after.state ≡ b.after.state

stepped_first : (code : List Instr) (c : CodeWhole) (x : EntryView) (t : ℕ) (names : Fresh) (a : CodeStepped) → x.thread ≡ Some t → x.done ≡ Some names → code_step code c t names ≡ Some a → a.labels ≡ x.labels → Front code c a.state x
stepped_first code c x t names a thread done steps said = record {
  runs_on = λ es b. record {
    after = record { state = b.after.state; labels = a.labels ++ b.after.labels };
    runs = ap (code_run code c) (turn_is x.thread x.done t names (order es) thread done) ∙ run_after code c t names (order es) a b.after steps b.runs;
    labelled = ap (λ ls. ls ++ b.after.labels) said ∙ ap (λ ls. x.labels ++ ls) b.labelled;
  };
  ends_there = λ es b. refl;
}

still_first : (code : List Instr) (c : CodeWhole) (x : EntryView) → x.done ≡ None → x.labels ≡ [] → Front code c c x
still_first code c x done silent = record {
  runs_on = λ es b. record {
    after = b.after;
    runs = ap (code_run code c) (no_turn x.thread x.done (order es) done) ∙ b.runs;
    labelled = b.labelled ∙ sym (ap (λ ls. ls ++ labels es) silent);
  };
  ends_there = λ es b. refl;
}

abbrev at_once : (code : List Instr) (c : CodeWhole) → Begins code c []
at_once code c = record { after = record { state = c; labels = [] }; runs = refl; labelled = refl }

-- ALONG A RUN

-- where a run from a cluster leads, where the plain machine begins at that state
record Follows (code : List Instr) (k : Cluster) (c : CodeWhole) (d : Cluster × List EntryView) : Type 0 where
  pub coherent : IsCoherent d.0
  pub same_code : d.0.code ≡ code
  pub whole : Begins code c d.1
  pub same : SameState (plain_state whole.after.state) (one_heap d.0)
  pub each : (n : ℕ) → Begins code c (take n d.1)
  pub events : events_of (sight d.0) ≡ events_of (sight k) + length d.1

abbrev pub Few : Cluster → List Event → Type 0
Few k es = events_of (sight k) + length es < 2 ^ 31

-- what follows after an event
after_first : (code : List Instr) (k : Cluster) (c a : CodeWhole) (d : Cluster × EntryView) → events_of (sight d.0) ≡ events_of (sight k) + 1 → Front code c a d.1 → (r : Cluster × List EntryView) → Follows code d.0 a r → Follows code k c (r.0, d.1 ∷ r.1)
after_first code k c a d once front r f = record {
  coherent = f.coherent;
  same_code = f.same_code;
  whole = front.runs_on r.1 f.whole;
  same = subst (λ s. SameState (plain_state s) (one_heap r.0)) (sym (front.ends_there r.1 f.whole)) f.same;
  each = beginnings;
  events = let e = f.events in omega (arith, e, once);
}
  where
    beginnings : (n : ℕ) → Begins code c (take n (d.1 ∷ r.1))
    beginnings zero = at_once code c
    beginnings (suc n) = front.runs_on (take n r.1) (f.each n)

follow : EachKeepsCoherence → (code : List Instr) (es : List Event) (k : Cluster) (c : CodeWhole) → k.code ≡ code → IsCoherent k → Few k es → SameState (plain_state c) (one_heap k) → Gives (Follows code k c) (run_of k es)
follow keeps code [] k c kept co few same = record { coherent = co; same_code = kept; whole = at_once code c; same = same; each = nothing; events = omega arith }
  where
    nothing : (n : ℕ) → Begins code c (take n [])
    nothing zero = at_once code c
    nothing (suc n) = at_once code c
follow keeps code (e ∷ es) k c kept co few same =
    then_gives (Follows code k c) (apply k e) _ (λ d q.
    let coherent : IsCoherent d.0 = given_by (λ (x : Cluster × EntryView). IsCoherent x.0) (apply k e) d (keeps k e co less) q in
    let once : events_of (sight d.0) ≡ events_of (sight k) + 1 = given_by (λ (x : Cluster × EntryView). events_of (sight x.0) ≡ events_of (sight k) + 1) (apply k e) d (one_more k e) q in
    let coded : d.0.code ≡ code = given_by (λ (x : Cluster × EntryView). x.0.code ≡ k.code) (apply k e) d (same_code k e) q ∙ kept in
    let step : IsStepOrStill k d = given_by (IsStepOrStill k) (apply k e) d (each_is k e co less) q in
    let silent : d.1.done ≡ None → d.1.labels ≡ [] = given_by (λ (x : Cluster × EntryView). x.1.done ≡ None → x.1.labels ≡ []) (apply k e) d (undone_unlabelled k e) q in
    by d once step silent (λ a. follow keeps code es d.0 a coded coherent (omega (arith, once, few))) d.1.done refl)
  where
    less : FewEvents k
    less = omega (arith, few)

    rest : (d : Cluster × EntryView) → events_of (sight d.0) ≡ events_of (sight k) + 1 → (a : CodeWhole) → Front code c a d.1 → Gives (Follows code d.0 a) (run_of d.0 es) → Gives (Follows code k c) (option_map (λ r. (r.0, d.1 ∷ r.1)) (run_of d.0 es))
    rest d once a front go = over_gives (Follows code d.0 a) (Follows code k c) (run_of d.0 es) (λ r. (r.0, d.1 ∷ r.1)) go (λ r f. after_first code k c a d once front r f)

    by : (d : Cluster × EntryView) → events_of (sight d.0) ≡ events_of (sight k) + 1 → IsStepOrStill k d → (d.1.done ≡ None → d.1.labels ≡ []) → ((a : CodeWhole) → SameState (plain_state a) (one_heap d.0) → Gives (Follows code d.0 a) (run_of d.0 es)) → (o : Option Fresh) → d.1.done ≡ o → Gives (Follows code k c) (option_map (λ r. (r.0, d.1 ∷ r.1)) (run_of d.0 es))
    by d once step silent go None done = rest d once c (still_first code c d.1 done (silent done)) (go c (same_on same (same_back (step.stays done))))
    by d once step silent go (Some names) done =
        let t = step.steps names done in
        let s = t.2 c same in
        rest d once s.after.state (stepped_first code c d.1 t.0 names s.after t.1 done (subst (λ x. code_step x c t.0 names ≡ Some s.after) kept s.steps) s.labelled) (go s.after.state s.same)

-- FROM A START

plainly_runs : (code : List Instr) (es : List EntryView) (b : Begins code code_start es) → plain_run code (order es) ≡ Some (plain_state b.after.state, labels es)
plainly_runs code es b = ap in_plain b.runs ∙ ap (λ ls. Some (plain_state b.after.state, ls)) b.labelled

plainly : (code : List Instr) (o : Options) (d : Cluster × List EntryView) → events_of (sight (start_of code o)) ≡ 0 → Follows code (start_of code o) code_start d → PlainlyLeft d.0 d.1
plainly code o d none f = record {
  plain = subst (λ x. LeadsTo (plain_run x) (order d.1) (one_heap d.0) (labels d.1)) (sym f.same_code) (record { state = plain_state f.whole.after.state; runs = plainly_runs code d.1 f.whole; same = f.same });
  labelled = λ n. subst (λ x. RunsWith (plain_run x) (take n d.1)) (sym f.same_code) (record { state = plain_state (f.each n).after.state; runs = plainly_runs code (take n d.1) (f.each n) });
  printed = subst (λ x. HasPrinted (run x (order d.1)) (prints d.1)) (sym f.same_code) (subst (λ x. HasPrinted x (prints d.1)) (sym f.whole.runs) (prints_are_labelled code (order d.1) f.whole.after f.whole.runs ∙ ap printed f.whole.labelled));
  events = let e = f.events in omega (arith, e, none);
}

pub runs_lead : StartsAreCoherent → RunsLead
runs_lead starts keeps code table o es is_table within few =
    let co = starts code table o is_table within in
    let left = starts_left code o (servers_between (start_of code o) co.sound).0 in
    let none : events_of (sight (start_of code o)) ≡ 0 = left.events in
    weaker (Follows code (start_of code o) code_start) IsLed (run_of (start_of code o) es)
    (follow keeps code es (start_of code o) code_start refl co (omega (arith, none, few)) (begins left))
    (λ d f. record { coherent = f.coherent; left = plainly code o d none f })
  where
    first_of : CodeState → Option (CodeState × List Label) → CodeState
    first_of z None = z
    first_of z (Some p) = p.0

    begins : LeftByItsCode (start_of code o) [] → SameState (plain_state code_start) (one_heap (start_of code o))
    begins left =
        let same : plain_state code_start ≡ left.plain.state = ap (first_of (plain_state code_start)) left.plain.runs in
        subst (λ x. SameState x (one_heap (start_of code o))) (sym same) left.plain.same
