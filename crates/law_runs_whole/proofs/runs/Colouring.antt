-- Along a run of events the coloured heap follows, entry by entry, and messages are counted.
use Rattle.std.proofs.Common.{◌≡◌, ◌+◌, ◌&&◌, true, List, [], ◌∷◌, Option, Some, None, refl, sym, ap, subst, ◌∙◌, arith}
use Rattle.law_runs_coherent.specs.Below.fr_base.declared.instruction.Instr.{Instr}
use Rattle.law_runs_coherent.specs.Below.fr_base.declared.settings.Options.{Options}
use Rattle.law_runs_coherent.specs.Below.journal.View.{EntryView}
use Rattle.law_runs_coherent.specs.Below.coloured_heap.Heap.{Coloured, start}
use Rattle.law_runs_coherent.specs.Below.coloured_heap.Lists.{holds}
use Rattle.law_runs_coherent.specs.Below.coloured_heap.Legal.{entry_after, onward, journal_from, journal_after}
use Rattle.law_runs_coherent.specs.Below.coloured_heap.Reach.{is_reached, reached_from, is_all_reached}
use Rattle.law_runs_coherent.specs.Below.coloured_heap.Sends.{all_messages}
use Rattle.law_runs_coherent.specs.Below.coloured_heap.Figures.{deliveries}
use Rattle.law_runs_coherent.specs.Below.server_model.declared.event.Event.{Event}
use Rattle.law_runs_coherent.specs.Below.server_model.Servers.{Cluster, start_of, server_at}
use Rattle.law_runs_coherent.specs.Below.server_model.Clusters.{done_at, apply}
use Rattle.law_runs_coherent.specs.Below.coherent_memory.Sight.{sight}
use Rattle.law_runs_coherent.specs.Below.coherent_memory.Naming.{events_of}
use Rattle.law_runs_coherent.specs.Below.coherent_memory.Colours.{StandsColoured}
use Rattle.law_runs_coherent.specs.Below.coherent_memory.LeftBy.{messages_of}
use Rattle.law_runs_coherent.specs.Below.coherent_types.ClusterTypes.{IsCoherent}
use Rattle.law_runs_coherent.specs.Below.law_counts_sums.Laws.{Gives, FewEvents}
use Rattle.law_runs_coherent.proofs.Below.law_counts_sums.Results.{then_gives, map_gives, over_gives, both_give, given_by}
use Rattle.law_runs_coherent.proofs.Below.law_counts_sums.KnownSound.{servers_between}
use Rattle.law_runs_coherent.specs.starts.Starts.{StartsAreCoherent}
use Rattle.code_meaning.specs.LeftByItsCode.{LeftByItsCode}
use Rattle.code_meaning.proofs.StartLeft.{starts_left}
use Rattle.law_runs_whole.specs.runs.Runs.{run_of, IsLed, LeadsOn, EachEventIsRight, RunsAreLeft}
use Rattle.law_runs_whole.proofs.runs.Counting.{one_more}
use Rattle.law_runs_whole.proofs.runs.Following.{Few, runs_lead}

same_options : (k : Cluster) (e : Event) → Gives (λ (d : Cluster × EntryView). d.0.options ≡ k.options) (apply k e)
same_options k e =
    then_gives (λ (d : Cluster × EntryView). d.0.options ≡ k.options) (server_at k.servers e.server) _ (λ s here. map_gives (λ (d : Cluster × EntryView). d.0.options ≡ k.options) (done_at k e.what s) _ (λ r q. refl))

-- where a run from a cluster leads, where it stands for that coloured heap
record Coloureds (o : Options) (k : Cluster) (s : Coloured) (d : Cluster × List EntryView) : Type 0 where
  pub settings : d.0.options ≡ o
  pub state : Coloured
  pub legal : journal_from o s d.1 ≡ Some state
  pub stands : StandsColoured d.0 state
  pub reached : reached_from o s d.1 ≡ true
  pub counted : messages_of (sight d.0) + deliveries d.1 ≡ messages_of (sight k) + all_messages d.1

-- an entry in front
legal_first : (o : Options) (s t u : Coloured) (x : EntryView) (es : List EntryView) → entry_after o s x ≡ Some t → journal_from o t es ≡ Some u → journal_from o s (x ∷ es) ≡ Some u
legal_first o s t u x es e q = ap (λ z. onward z (λ after. journal_from o after es)) e ∙ q

reached_first : (o : Options) (s t : Coloured) (x : EntryView) (es : List EntryView) → entry_after o s x ≡ Some t → is_reached o s x ≡ true → reached_from o t es ≡ true → reached_from o s (x ∷ es) ≡ true
reached_first o s t x es e r q = ap (λ z. is_reached o s x && holds (λ after. reached_from o after es) z) e ∙ ap (λ b. b && reached_from o t es) r ∙ q

after_first : (o : Options) (k : Cluster) (s : Coloured) (d : Cluster × EntryView) → messages_of (sight d.0) + deliveries (d.1 ∷ []) ≡ messages_of (sight k) + all_messages (d.1 ∷ []) → (l : LeadsOn o s d) → (r : Cluster × List EntryView) → Coloureds o d.0 l.state r
    → Coloureds o k s (r.0, d.1 ∷ r.1)
after_first o k s d counted l r f = record {
  settings = f.settings;
  state = f.state;
  legal = legal_first o s l.state f.state d.1 r.1 l.legal f.legal;
  stands = f.stands;
  reached = reached_first o s l.state d.1 r.1 l.legal l.reached f.reached;
  counted = let a = f.counted in omega (arith, a, counted);
}

follow : EachEventIsRight → (o : Options) (es : List Event) (k : Cluster) (s : Coloured) → k.options ≡ o → IsCoherent k → Few k es → StandsColoured k s → Gives (Coloureds o k s) (run_of k es)
follow right o [] k s kept co few stands = record { settings = kept; state = s; legal = refl; stands = stands; reached = refl; counted = omega arith }
follow right o (e ∷ es) k s kept co few stands =
    then_gives (Coloureds o k s) (apply k e) _ (λ d q.
    let coherent : IsCoherent d.0 = given_by (λ (x : Cluster × EntryView). IsCoherent x.0) (apply k e) d (right.keeps k e co less) q in
    let once : events_of (sight d.0) ≡ events_of (sight k) + 1 = given_by (λ (x : Cluster × EntryView). events_of (sight x.0) ≡ events_of (sight k) + 1) (apply k e) d (one_more k e) q in
    let settings : d.0.options ≡ o = given_by (λ (x : Cluster × EntryView). x.0.options ≡ k.options) (apply k e) d (same_options k e) q ∙ kept in
    let leads : LeadsOn o s d = subst (λ z. LeadsOn z s d) kept (given_by (LeadsOn k.options s) (apply k e) d (right.leads k e co less s stands) q) in
    let counted = given_by (λ (x : Cluster × EntryView). messages_of (sight x.0) + deliveries (x.1 ∷ []) ≡ messages_of (sight k) + all_messages (x.1 ∷ [])) (apply k e) d (right.counts k e co less) q in
    over_gives (Coloureds o d.0 leads.state) (Coloureds o k s) (run_of d.0 es) (λ r. (r.0, d.1 ∷ r.1)) (follow right o es d.0 leads.state settings coherent (omega (arith, once, few)) leads.stands) (λ r f. after_first o k s d counted leads r f))
  where
    less : FewEvents k
    less = omega (arith, few)

-- FROM A START

whole : (code : List Instr) (o : Options) (d : Cluster × List EntryView) → LeftByItsCode (start_of code o) [] → IsLed d → Coloureds o (start_of code o) start d → LeftByItsCode d.0 d.1
whole code o d left l f = record {
  plain = l.left.plain;
  labelled = l.left.labelled;
  reached = subst (λ z. is_all_reached z d.1 ≡ true) (sym f.settings) f.reached;
  coloured = record { state = f.state; legal = subst (λ z. journal_after z d.1 ≡ Some f.state) (sym f.settings) f.legal; stands = f.stands };
  events = l.left.events;
  messages = let a = f.counted in let b = left.messages in omega (arith, a, b);
}

pub runs_are_left : StartsAreCoherent → RunsAreLeft
runs_are_left starts right code table o es is_table within few =
    let co = starts code table o is_table within in
    let left = starts_left code o (servers_between (start_of code o) co.sound).0 in
    let none : events_of (sight (start_of code o)) ≡ 0 = left.events in
    both_give IsLed (Coloureds o (start_of code o) start) (λ (d : Cluster × List EntryView). IsCoherent d.0 × LeftByItsCode d.0 d.1) (run_of (start_of code o) es) (runs_lead starts right.keeps code table o es is_table within few)
    (follow right o es (start_of code o) start refl co (omega (arith, none, few)) (stands left)) (λ d l f. (l.coherent, whole code o d left l f))
  where
    state_of : Coloured → Option Coloured → Coloured
    state_of z None = z
    state_of z (Some s) = s

    stands : LeftByItsCode (start_of code o) [] → StandsColoured (start_of code o) start
    stands left =
        let same : start ≡ left.coloured.state = ap (state_of start) left.coloured.legal in
        subst (λ s. StandsColoured (start_of code o) s) (sym same) left.coloured.stands
