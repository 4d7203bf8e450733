-- Along a run of events that a driver chooses, the journal is driven.
use Rattle.std.proofs.Common.{◌≡◌, ◌⊎◌, inl, inr, ◌≤◌, ◌<◌, ℕ, zero, suc, ◌+◌, ◌^◌, ◌==◌, ◌&&◌, not, Bool, true, false, if◌then◌else◌, List, [], ◌∷◌, ◌++◌, length, Option, Some, None, refl, ap, subst, ◌∙◌, arith}
use Rattle.std.proofs.lemmas.Bool.Decides.{nat_tests}
use Rattle.law_length_runs.specs.Below.law_counts_things.Below.fr_base.Lists.{one}
use Rattle.law_length_runs.specs.Below.law_counts_things.Below.fr_base.declared.settings.Options.{Options}
use Rattle.law_length_runs.specs.Below.law_counts_things.Below.fr_base.declared.step.Fresh.{Fresh}
use Rattle.law_length_runs.specs.Below.law_counts_things.Below.fr_code.CodeTable.{IsTable}
use Rattle.law_length_runs.specs.Below.law_counts_things.Below.journal.View.{EntryView}
use Rattle.law_length_runs.specs.Below.law_counts_things.Below.coloured_heap.Lists.{first, holds, has, less_all}
use Rattle.law_length_runs.specs.Below.law_counts_things.Below.coloured_heap.Heap.{Coloured, start}
use Rattle.law_length_runs.specs.Below.law_counts_things.Below.coloured_heap.Legal.{entry_after}
use Rattle.law_length_runs.specs.Below.law_counts_things.Below.coloured_heap.Driven.{are_due, departing, may_depart, resting, is_driven_entry, driven_from, is_driven}
use Rattle.law_length_runs.specs.Below.law_counts_things.Below.server_model.declared.event.Event.{Event}
use Rattle.law_length_runs.specs.Below.law_counts_things.Below.server_model.declared.event.What.{What}
use Rattle.law_length_runs.specs.Below.law_counts_things.Below.server_model.declared.event.What.TheVariants.{Step, Deliver, Evict, Migrate}
use Rattle.law_length_runs.specs.Below.law_counts_things.Below.server_model.Servers.{Server, Cluster, server_at, start_of}
use Rattle.law_length_runs.specs.Below.law_counts_things.Below.server_model.Events.{enabled, does}
use Rattle.law_length_runs.specs.Below.law_counts_things.Below.server_model.Clusters.{done_at, apply}
use Rattle.law_length_runs.specs.Below.law_counts_things.Below.coherent_memory.Sight.{sight}
use Rattle.law_length_runs.specs.Below.law_counts_things.Below.coherent_memory.Naming.{events_of}
use Rattle.law_length_runs.specs.Below.law_counts_things.Below.coherent_memory.Colours.{StandsColoured}
use Rattle.law_length_runs.specs.Below.law_counts_things.Below.coherent_types.ClusterTypes.{IsCoherent}
use Rattle.law_length_runs.specs.Below.law_counts_things.Below.law_counts_sums.Laws.{Gives, FewEvents}
use Rattle.law_length_runs.proofs.Below.law_counts_things.Below.law_counts_sums.Results.{then_gives, map_gives, over_gives, test_gives, given_by}
use Rattle.law_length_runs.proofs.Below.law_counts_things.Below.law_counts_sums.KnownSound.{servers_between}
use Rattle.law_runs_coherent.specs.starts.Starts.{StartsAreCoherent}
use Rattle.law_length_runs.specs.Below.law_runs_whole.runs.Runs.{run_of, LeadsOn, EachEventIsRight}
use Rattle.law_length_runs.proofs.Below.law_runs_whole.Below.code_meaning.StartLeft.{starts_left}
use Rattle.law_length_runs.proofs.Below.law_runs_whole.runs.Counting.{one_more}
use Rattle.law_length_runs.proofs.worth.Lists.{tot_append}
use Rattle.law_length_runs.proofs.worth.Driven.{among}
use Rattle.law_runs_rounds.specs.rounds.Choosing.{IsChosen, IsChosenIn, AreChosen}
use Rattle.law_runs_rounds.proofs.rounds.OneRound.{as_many}
use Rattle.law_runs_rounds.proofs.rounds.UnderWay.{turns_in_range}
use Rattle.law_length_runs.specs.driven.Driving.{ChosenRunsAreDriven, RunsInRoundsAreDriven}
use Rattle.law_length_runs.proofs.driven.Marked.{marks, steps_by, event_marks, move_marks, movers_unmarked}
use Rattle.law_length_runs.proofs.driven.Due.{all_cached}
use Rattle.law_length_runs.proofs.driven.Shapes.{movers, Shape, step_shape, delivery_shape, evict_shape, move_shape}

-- WHO RESTS

-- what a plain step takes out isn't there, and the others are
taken_out : (n t : ℕ) (moved : List ℕ) → 1 ≤ among n (less_all (λ u. u == t) moved) → (1 ≤ among n moved) × ((t == n) ≡ false)
taken_out n t [] l = absurd (omega (arith, l))
taken_out n t (x ∷ moved) l = by (x == t) refl l (taken_out n t moved)
  where
    Out : Type 0
    Out = (1 ≤ one (x == n) + among n moved) × ((t == n) ≡ false)

    differs : (q : Bool) → (t == n) ≡ q → (x == t) ≡ false → (x == n) ≡ true → (t == n) ≡ false
    differs false e f g = e
    differs true e f g = absurd (let a : t ≡ n = grind (arith, nat_tests, e) in let b : x ≡ n = grind (arith, nat_tests, g) in let c : x ≡ t = omega (arith, a, b) in absurd (grind (arith, nat_tests, f, c)))

    here : (q : Bool) → (x == n) ≡ q → (x == t) ≡ false → 1 ≤ one q + among n (less_all (λ u. u == t) moved) → (1 ≤ among n (less_all (λ u. u == t) moved) → (1 ≤ among n moved) × ((t == n) ≡ false)) → (1 ≤ one q + among n moved) × ((t == n) ≡ false)
    here true e f k go = (omega arith, differs (t == n) refl f e)
    here false e f k go = let r = go (omega (arith, k)) in (omega (arith, r.0), r.1)

    by : (b : Bool) → (x == t) ≡ b → 1 ≤ among n (if b then less_all (λ u. u == t) moved else x ∷ less_all (λ u. u == t) moved) → (1 ≤ among n (less_all (λ u. u == t) moved) → (1 ≤ among n moved) × ((t == n) ≡ false)) → Out
    by true e k go = let r = go k in (omega (arith, r.0), r.1)
    by false e k go = here (x == n) refl e k go

either : (a b : ℕ) → 1 ≤ a + b → (1 ≤ a) ⊎ (1 ≤ b)
either zero b l = inr (omega (arith, l))
either (suc a) b l = inl (omega arith)

never : (b : Bool) → one (b && false) ≡ 0
never true = refl
never false = refl

-- who rests after an entry moves in it, or rested and did no plain step
rested : (v : EntryView) (moved : List ℕ) (n : ℕ) → 1 ≤ among n (resting v moved) → (1 ≤ among n (departing v.acts)) ⊎ ((1 ≤ among n moved) × (steps_by n v ≡ 0))
rested v moved n = by v.thread v.done
  where
    ts : List ℕ
    ts = departing v.acts

    parts : (us : List ℕ) → 1 ≤ among n (ts ++ us) → (1 ≤ among n ts) ⊎ (1 ≤ among n us)
    parts us l = either (among n ts) (among n us) (omega (arith, l, tot_append (λ u. one (u == n)) ts us))

    with_none : {A B C : Type 0} → A ⊎ B → (B → C) → A ⊎ C
    with_none (inl a) f = inl a
    with_none (inr b) f = inr (f b)

    by : (x : Option ℕ) (d : Option Fresh) → 1 ≤ among n (resting (record v { thread = x; done = d }) moved) → (1 ≤ among n ts) ⊎ ((1 ≤ among n moved) × (steps_by n (record v { thread = x; done = d }) ≡ 0))
    by None None l = with_none (parts moved l) (λ b. (b, refl))
    by None (Some names) l = with_none (parts moved l) (λ b. (b, refl))
    by (Some t) None l = with_none (parts moved l) (λ b. (b, refl))
    by (Some t) (Some names) l = with_none (parts (less_all (λ u. u == t) moved) l) (λ b. let r = taken_out n t moved b in (r.0, ap one r.1))

-- ONE EVENT

-- whoever rests has a mark
abbrev AreMarked : List ℕ → Cluster → Type 0
AreMarked moved k = (n : ℕ) → 1 ≤ among n moved → 1 ≤ marks n k

-- a fact of entries by what the event does at its server
pub entry_by : (k : Cluster) (e : Event) (Q : EntryView → Type 0) → ((s : Server) → server_at k.servers e.server ≡ Some s → Gives (λ (r : Server × EntryView). Q r.1) (does k.code k.options s e.what)) → Gives (λ (d : Cluster × EntryView). Q d.1) (apply k e)
entry_by k e Q go =
    then_gives (λ (d : Cluster × EntryView). Q d.1) (server_at k.servers e.server) _ (λ s here.
    over_gives (λ (r : Server × EntryView). Q r.1) (λ (d : Cluster × EntryView). Q d.1) (done_at k e.what s) _ (test_gives (λ (r : Server × EntryView). Q r.1) (enabled k.options s e.what) _ (λ on. go s here)) (λ r a. a))

not_there : (t : ℕ) (moved : List ℕ) → among t moved ≡ 0 → has (λ u. u == t) moved ≡ false
not_there t [] z = refl
not_there t (x ∷ moved) z = by (x == t) z (not_there t moved)
  where
    by : (b : Bool) → one b + among t moved ≡ 0 → (among t moved ≡ 0 → has (λ u. u == t) moved ≡ false) → holds (λ y. true) (if b then Some x else first (λ u. u == t) moved) ≡ false
    by true l go = absurd (omega (arith, l))
    by false l go = go (omega (arith, l))

module _ (k : Cluster) (e : Event) (co : IsCoherent k) (few : FewEvents k) (c : Coloured) (stands : StandsColoured k c) (chosen : IsChosenIn k e) where
  shapes : Gives (λ (d : Cluster × EntryView). Shape k.options c e.what d.1) (apply k e)
  shapes = entry_by k e (Shape k.options c e.what) (λ s here. by s here e.what refl)
    where
      by : (s : Server) → server_at k.servers e.server ≡ Some s → (w : What) → e.what ≡ w → Gives (λ (r : Server × EntryView). Shape k.options c w r.1) (does k.code k.options s w)
      by s here (Step t) is = step_shape k e.server s co.sound here c t
      by s here (Deliver i) is = delivery_shape k e.server s co.sound here c i
      by s here (Evict w) is =
          let more = all_cached k co.sound c stands e.server s here in
          let due : k.options.cache < length s.rest.cache = subst (IsChosen k.options s) is (chosen s here) in
          evict_shape k e.server s co.sound here c w (omega (arith, more, due))
      by s here (Migrate t target) is = move_shape k e.server s co.sound here c t target

  module _ (moved : List ℕ) (marked : AreMarked moved k) where
    -- whoever moves may
    may : Gives (λ (d : Cluster × EntryView). may_depart moved (movers e.what) ≡ true) (apply k e)
    may = entry_by k e (λ v. may_depart moved (movers e.what) ≡ true) (λ s here. any (λ (r : Server × EntryView). may_depart moved (movers e.what) ≡ true) (λ r. by s here e.what refl) (does k.code k.options s e.what))
      where
        any : {X : Type 0} (P : X → Type 0) → ((x : X) → P x) → (o : Option X) → Gives P o
        any P f None = tt
        any P f (Some x) = f x

        nobody : (m t : ℕ) → among t moved ≡ m → marks t k ≡ 0 → among t moved ≡ 0
        nobody zero t q z = q
        nobody (suc m) t q z = absurd (let l = marked t (omega (arith, q)) in omega (arith, l, z))

        by : (s : Server) → server_at k.servers e.server ≡ Some s → (w : What) → e.what ≡ w → may_depart moved (movers w) ≡ true
        by s here (Step t) is = refl
        by s here (Deliver i) is = refl
        by s here (Evict w) is = refl
        by s here (Migrate t target) is =
            let none = movers_unmarked k co.sound t e.server s here (subst (IsChosen k.options s) is (chosen s here)) in
            ap (λ b. not b && true) (not_there t moved (nobody (among t moved) t refl none))

    -- whoever rests then has a mark
    marked_then : (d : Cluster × EntryView) → apply k e ≡ Some d → departing d.1.acts ≡ movers e.what → AreMarked (resting d.1 moved) d.0
    marked_then d q are n l = by (rested d.1 moved n l)
      where
        moves : (w : What) → e.what ≡ w → 1 ≤ among n (movers w) → 1 ≤ marks n d.0
        moves (Step t) is m = absurd (omega (arith, m))
        moves (Deliver i) is m = absurd (omega (arith, m))
        moves (Evict w) is m = absurd (omega (arith, m))
        moves (Migrate t target) is m = it (t == n) refl m
          where
            it : (b : Bool) → (t == n) ≡ b → 1 ≤ one b + 0 → 1 ≤ marks n d.0
            it true f g =
                let same : t ≡ n = grind (arith, nat_tests, f) in
                let all = given_by (λ (x : Cluster × EntryView). (departing x.1.acts ≡ t ∷ []) × (x.1.done ≡ None) × (1 ≤ marks t x.0)) (apply k e) d (move_marks k e co.sound few t target is) q in
                subst (λ m. 1 ≤ marks m d.0) same all.2
            it false f g = absurd (omega (arith, g))

        by : (1 ≤ among n (departing d.1.acts)) ⊎ ((1 ≤ among n moved) × (steps_by n d.1 ≡ 0)) → 1 ≤ marks n d.0
        by (inl m) = moves e.what refl (subst (λ ts. 1 ≤ among n ts) are m)
        by (inr p) =
            let still = given_by (λ (x : Cluster × EntryView). marks n k ≤ marks n x.0 + steps_by n x.1) (apply k e) d (event_marks k e co.sound few n) q in
            let had = marked n p.0 in
            let none = p.1 in
            omega (arith, still, had, none)

-- RUNS

abbrev Few : Cluster → List Event → Type 0
Few k es = events_of (sight k) + length es < 2 ^ 31

pub same_options : (k : Cluster) (e : Event) → Gives (λ (d : Cluster × EntryView). d.0.options ≡ k.options) (apply k e)
same_options k e = then_gives (λ (d : Cluster × EntryView). d.0.options ≡ k.options) (server_at k.servers e.server) _ (λ s here. map_gives (λ (d : Cluster × EntryView). d.0.options ≡ k.options) (done_at k e.what s) _ (λ r q. refl))

abbrev Driven : Options → Coloured → List ℕ → Cluster × List EntryView → Type 0
Driven o c moved d = driven_from o c moved d.1 ≡ true

-- an entry in front
in_front : (o : Options) (c c2 : Coloured) (moved : List ℕ) (v : EntryView) (w : What) (vs : List EntryView) → entry_after o c v ≡ Some c2 → (are_due o v v.acts c ≡ true) × (departing v.acts ≡ movers w) → may_depart moved (movers w) ≡ true
    → driven_from o c2 (resting v moved) vs ≡ true → driven_from o c moved (v ∷ vs) ≡ true
in_front o c c2 moved v w vs legal shape may rest =
    let entry : is_driven_entry o c moved v ≡ true = ap (λ b. b && may_depart moved (departing v.acts)) shape.0 ∙ ap (may_depart moved) shape.1 ∙ may in
    let later : holds (λ after. driven_from o after (resting v moved) vs) (entry_after o c v) ≡ true = ap (holds (λ after. driven_from o after (resting v moved) vs)) legal ∙ rest in
    ap (λ b. b && holds (λ after. driven_from o after (resting v moved) vs) (entry_after o c v)) entry ∙ later

driven_on : EachEventIsRight → (o : Options) (es : List Event) (k : Cluster) (c : Coloured) (moved : List ℕ) → k.options ≡ o → IsCoherent k → Few k es → StandsColoured k c → AreMarked moved k → AreChosen es k → Gives (Driven o c moved) (run_of k es)
driven_on right o [] k c moved same co few stands marked chosen = refl
driven_on right o (e ∷ es) k c moved same co few stands marked chosen =
    then_gives (Driven o c moved) (apply k e) _ (λ d q.
    let coherent : IsCoherent d.0 = given_by (λ (x : Cluster × EntryView). IsCoherent x.0) (apply k e) d (right.keeps k e co less) q in
    let once : events_of (sight d.0) ≡ events_of (sight k) + 1 = given_by (λ (x : Cluster × EntryView). events_of (sight x.0) ≡ events_of (sight k) + 1) (apply k e) d (one_more k e) q in
    let kept : d.0.options ≡ o = given_by (λ (x : Cluster × EntryView). x.0.options ≡ k.options) (apply k e) d (same_options k e) q ∙ same in
    let led : LeadsOn k.options c d = given_by (LeadsOn k.options c) (apply k e) d (right.leads k e co less c stands) q in
    let shape = given_by (λ (x : Cluster × EntryView). Shape k.options c e.what x.1) (apply k e) d (shapes k e co less c stands chosen.0) q led.state led.legal in
    let may_go = given_by (λ (x : Cluster × EntryView). may_depart moved (movers e.what) ≡ true) (apply k e) d (may k e co less c stands chosen.0 moved marked) q in
    let marked2 : AreMarked (resting d.1 moved) d.0 = marked_then k e co less c stands chosen.0 moved marked d q shape.1 in
    let later : AreChosen es d.0 = given_by (λ (x : Cluster × EntryView). AreChosen es x.0) (apply k e) d chosen.1 q in
    let legal : entry_after o c d.1 ≡ Some led.state = subst (λ p. entry_after p c d.1 ≡ Some led.state) same led.legal in
    let due : are_due o d.1 d.1.acts c ≡ true = subst (λ p. are_due p d.1 d.1.acts c ≡ true) same shape.0 in
    over_gives (Driven o led.state (resting d.1 moved)) (Driven o c moved) (run_of d.0 es) (λ r. (r.0, d.1 ∷ r.1)) (driven_on right o es d.0 led.state (resting d.1 moved) kept coherent (omega (arith, once, few)) led.stands marked2 later)
    (λ r f. in_front o c led.state moved d.1 e.what r.1 legal (due, shape.1) may_go f))
  where
    less : FewEvents k
    less = omega (arith, few)

pub chosen_runs_are_driven : StartsAreCoherent → ChosenRunsAreDriven
chosen_runs_are_driven starts right code table o es is_table within few chosen =
    let co = starts code table o is_table within in
    let left = starts_left code o (servers_between (start_of code o) co.sound).0 in
    let none : events_of (sight (start_of code o)) ≡ 0 = left.events in
    let state = left.coloured in
    let first : state.state ≡ start = begins state.state state.legal in
    driven_on right o es (start_of code o) start [] refl co (omega (arith, none, few)) (subst (StandsColoured (start_of code o)) first state.stands) (λ n l. absurd (omega (arith, l))) chosen
  where
    begins : (c : Coloured) → Some start ≡ Some c → c ≡ start
    begins c e = cc

pub runs_in_rounds_are_driven : ChosenRunsAreDriven → RunsInRoundsAreDriven
runs_in_rounds_are_driven driven right r u =
    let table = u.coherent.types.table in
    let is_table : IsTable r.cluster.code table = subst (λ code. IsTable code table) u.same.code u.coherent.types.is_table in
    let long = as_many u.events (start_of r.cluster.code r.cluster.options) u.ran r.journal u.leads in
    let turns = u.turns in
    let range = turns_in_range r.cluster.options u.within in
    given_by (λ (d : Cluster × List EntryView). is_driven r.cluster.options d.1 ≡ true) (run_of (start_of r.cluster.code r.cluster.options) u.events) (u.ran, r.journal)
    (driven right r.cluster.code table r.cluster.options u.events is_table u.within (omega (arith, long, turns, range)) u.chosen) u.leads
