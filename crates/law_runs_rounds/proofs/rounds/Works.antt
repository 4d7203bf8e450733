-- What a server does in a round is a run of events, one after another, each with its messages handed over.
use Rattle.std.proofs.Common.{◌≡◌, ℕ, zero, suc, ◌+◌, ◌<◌, ◌≤◌, true, List, [], ◌∷◌, ◌++◌, length, Option, Some, None, IsSome, refl, sym, ap, subst, ◌∙◌, arith, append_assoc, append-nil}
use Rattle.std.specs.Prelude.{option_map}
use Rattle.rand_pcg.specs.Lcg.{Lcg}
use Rattle.law_runs_whole.specs.Below.fr_base.declared.instruction.Instr.{Instr}
use Rattle.law_runs_whole.specs.Below.fr_base.declared.settings.Options.{Options}
use Rattle.law_runs_whole.specs.Below.journal.View.{EntryView}
use Rattle.law_runs_whole.specs.Below.server_model.declared.event.Event.{Event}
use Rattle.law_runs_whole.specs.Below.server_model.declared.event.What.{What}
use Rattle.law_runs_whole.specs.Below.server_model.Servers.{Sent, Server, Cluster, server_at}
use Rattle.law_runs_whole.specs.Below.server_model.Work.{then_some}
use Rattle.law_runs_whole.specs.Below.server_model.Events.{enabled, does}
use Rattle.law_runs_whole.specs.Below.server_model.Clusters.{apply}
use Rattle.law_runs_whole.specs.Below.server_model.Laws.{messages_to}
use Rattle.drive_model.specs.Choice.{Drawn, next}
use Rattle.drive_model.specs.Rounds.{Worked, nothing_done, after_entry, work_on, work}
use Rattle.law_runs_whole.specs.Below.law_counts_sums.Laws.{Gives}
use Rattle.law_runs_whole.specs.runs.Runs.{run_of}
use Rattle.law_runs_rounds.specs.rounds.Choosing.{IsChosen, IsChosenIn, AreChosen}
use Rattle.law_runs_rounds.specs.rounds.Working.{HasSmallCounts, goes_where, CanWork}
use Rattle.law_runs_rounds.proofs.rounds.Numbered.{AreFrom, found_there, all_waiting}
use Rattle.law_runs_rounds.proofs.rounds.Mirrored.{bare, mirrored}
use Rattle.law_runs_rounds.proofs.rounds.Standing.{Stands, AllStand, all_stand, cluster, One, one}
use Rattle.law_runs_rounds.proofs.rounds.Chosen.{next_chosen}

-- what is asked of the clusters to which a run comes, after so many events of at most so many
pub record AreWays (code : List Instr) (o : Options) (Good : ℕ → List Server → Type 0) (most : ℕ) : Type 0 where
  pub numbered : (n : ℕ) (zs : List Server) → Good n zs → AreFrom 0 zs
  pub numbers : (s new : Server) (e : EntryView) (w : What) → does code o s w ≡ Some (new, e) → new.rest.number ≡ s.rest.number
  -- of a server that differs from one of them in its messages alone: the event that is chosen is enabled, and its counts are small
  pub chosen : (n : ℕ) (zs : List Server) (z s : Server) (g : Lcg) (d : Drawn) → Good n zs → server_at zs z.rest.number ≡ Some z → bare z ≡ bare s → next o s g ≡ Some d → enabled o s d.what ≡ true
  pub small : (n : ℕ) (zs : List Server) (z s : Server) → Good n zs → n < most → server_at zs z.rest.number ≡ Some z → bare z ≡ bare s → HasSmallCounts code s
  -- an enabled event has a result, and keeps all this
  pub results : (n : ℕ) (zs : List Server) (z : Server) (w : What) → Good n zs → n < most → server_at zs z.rest.number ≡ Some z → enabled o z w ≡ true → IsSome (apply (cluster code o zs) (record { server = z.rest.number; what = w }))
  pub keeps : (n : ℕ) (zs zs2 : List Server) (e : Event) (x : EntryView) → Good n zs → n < most → apply (cluster code o zs) e ≡ Some (cluster code o zs2, x) → Good (suc n) zs2

module _ (code : List Instr) (o : Options) (Good : ℕ → List Server → Type 0) (most : ℕ) (ways : AreWays code o Good most) where
  -- at most m events of the server s in a round, for which z stands between others in the run of events
  pub record Works (m n : ℕ) (xs : List Sent) (ps ss front back : List Server) (s z : Server) (g : Lcg) : Type 0 where
    pub done : Worked
    pub is : work code o m s g ≡ Some done
    pub can : CanWork code o m s g
    pub few : length done.entries ≤ m
    pub more : List Sent
    pub sent : done.server.rest.outbox ≡ s.rest.outbox ++ more
    pub events : List Event
    pub chosen : AreChosen events (cluster code o (front ++ z ∷ back))
    pub before : List Server
    pub mine : Server
    pub after : List Server
    pub runs : run_of (cluster code o (front ++ z ∷ back)) events ≡ Some (cluster code o (before ++ mine ∷ after), done.entries)
    pub stands : Stands (xs ++ more) done.server mine
    pub stand_before : AllStand (xs ++ more) ps before
    pub stand_after : AllStand (xs ++ more) ss after
    pub good : Good (n + length done.entries) (before ++ mine ∷ after)

  -- it does nothing
  rests : (m n : ℕ) (xs : List Sent) (ps ss front back : List Server) (s z : Server) (g : Lcg) → work code o m s g ≡ Some (nothing_done s g) → CanWork code o m s g
      → Good n (front ++ z ∷ back) → Stands xs s z → AllStand xs ps front → AllStand xs ss back → Works m n xs ps ss front back s z g
  rests m n xs ps ss front back s z g is can good st a b =
      let same : n ≡ n + 0 = omega arith in
      let all = sym (append-nil xs) in
      record {
        done = nothing_done s g;
        is = is;
        can = can;
        few = omega arith;
        more = [];
        sent = sym (append-nil s.rest.outbox);
        events = [];
        chosen = tt;
        before = front;
        mine = z;
        after = back;
        runs = refl;
        stands = subst (λ l. Stands l s z) all st;
        stand_before = subst (λ l. AllStand l ps front) all a;
        stand_after = subst (λ l. AllStand l ss back) all b;
        good = subst (λ k. Good k (front ++ z ∷ back)) same good;
      }

  -- an event, and then some more
  goes : (m n : ℕ) (xs : List Sent) (ps ss front back : List Server) (s z : Server) (g : Lcg) (d : Drawn) (x : One code o xs front back s z d.what) → next o s g ≡ Some d → IsChosenIn (cluster code o (front ++ z ∷ back)) x.event → enabled o s d.what ≡ true → HasSmallCounts code s
      → Works m (suc n) (xs ++ x.more) ps ss (all_waiting x.more front) (all_waiting x.more back) x.new x.mine d.generator → Works (suc m) n xs ps ss front back s z g
  goes m n xs ps ss front back s z g d x drawn chosen on small r =
      let assoc = append_assoc xs x.more r.more in
      let count : suc n + length r.done.entries ≡ n + suc (length r.done.entries) = omega arith in
      let few = r.few in
      record {
        done = after_entry x.entry r.done;
        is = ap (work_on (work code o m) code o s g) drawn ∙ ap (λ y. then_some y (λ e. option_map (after_entry e.1) (work code o m e.0 d.generator))) x.done ∙ ap (option_map (after_entry x.entry)) r.is;
        can = subst (goes_where (CanWork code o m) code o s) (sym drawn) (record { counts = small; on = on; after = x.new; entry = x.entry; done = x.done; onward = r.can });
        few = omega (arith, few);
        more = x.more ++ r.more;
        sent = r.sent ∙ ap (λ l. l ++ r.more) x.sent ∙ append_assoc s.rest.outbox x.more r.more;
        events = x.event ∷ r.events;
        chosen = (chosen, subst (λ y. Gives (λ (c : Cluster × EntryView). AreChosen r.events c.0) y) (sym x.applied) r.chosen);
        before = r.before;
        mine = r.mine;
        after = r.after;
        runs = ap (λ y. then_some y (λ e. option_map (λ t. (t.0, e.1 ∷ t.1)) (run_of e.0 r.events))) x.applied ∙ ap (option_map (λ t. (t.0, x.entry ∷ t.1))) r.runs;
        stands = subst (λ l. Stands l r.done.server r.mine) assoc r.stands;
        stand_before = subst (λ l. AllStand l ps r.before) assoc r.stand_before;
        stand_after = subst (λ l. AllStand l ss r.after) assoc r.stand_after;
        good = subst (λ k. Good k (r.before ++ r.mine ∷ r.after)) count r.good;
      }

  abbrev AllWork : ℕ → Type 0
  AllWork m =
      (n : ℕ) (xs : List Sent) (ps ss front back : List Server) (s z : Server) (g : Lcg) → n + m ≤ most → Good n (front ++ z ∷ back) → Stands xs s z → AllStand xs ps front → AllStand xs ss back
      → Works m n xs ps ss front back s z g

  one_more : (m : ℕ) → AllWork m → AllWork (suc m)
  one_more m go n xs ps ss front back s z g budget good st a b = by (next o s g) refl
    where
      from : AreFrom 0 (front ++ z ∷ back)
      from = ways.numbered n (front ++ z ∷ back) good

      there : server_at (front ++ z ∷ back) z.rest.number ≡ Some z
      there = found_there 0 front z back from

      less : n < most
      less = omega (arith, budget)

      -- it finds that server
      chosen_there : (v : Event) → v.server ≡ z.rest.number → IsChosen o z v.what → IsChosenIn (cluster code o (front ++ z ∷ back)) v
      chosen_there v at c y found =
          let one : Some z ≡ Some y = sym there ∙ ap (λ i. server_at (front ++ z ∷ back) i) (sym at) ∙ found in
          let same : z ≡ y = cc in
          subst (λ b. IsChosen o b v.what) same c

      event : (w : What) → enabled o s w ≡ true → One code o xs front back s z w
      event w on =
          let mir = mirrored code o (messages_to s.rest.number xs) s z st.same st.waiting w on in
          one code o ways.numbers xs front back s z from st w mir (ways.results n (front ++ z ∷ back) z mir.what good less there mir.on)

      by : (d : Option Drawn) → next o s g ≡ d → Works (suc m) n xs ps ss front back s z g
      by None e = rests (suc m) n xs ps ss front back s z g (ap (work_on (work code o m) code o s g) e) (subst (goes_where (CanWork code o m) code o s) (sym e) tt) good st a b
      by (Some d) e =
          let on = ways.chosen n (front ++ z ∷ back) z s g d good there st.same e in
          let x = event d.what on in
          goes m n xs ps ss front back s z g d x e (chosen_there x.event x.at (x.chosen (next_chosen o s g d e))) on (ways.small n (front ++ z ∷ back) z s good less there st.same)
          (go (suc n) (xs ++ x.more) ps ss (all_waiting x.more front) (all_waiting x.more back) x.new x.mine d.generator (omega (arith, budget))
          (ways.keeps n (front ++ z ∷ back) (all_waiting x.more front ++ x.mine ∷ all_waiting x.more back) x.event x.entry good less x.applied) x.stands (all_stand xs x.more ps front a) (all_stand xs x.more ss back b))

  pub works : (m : ℕ) → AllWork m
  works zero n xs ps ss front back s z g budget good st a b = rests zero n xs ps ss front back s z g refl tt good st a b
  works (suc m) n xs ps ss front back s z g budget good st a b = one_more m (works m) n xs ps ss front back s z g budget good st a b
