-- What the servers do in a round, one after another, is a run of events.
use Rattle.std.proofs.Common.{◌≡◌, ℕ, suc, ◌+◌, ◌-◌, ◌≤◌, List, [], ◌∷◌, ◌++◌, length, Option, Some, None, refl, sym, ap, subst, ◌∙◌, arith, append_assoc, append-nil, length-append}
use Rattle.std.specs.Prelude.{min, option_map}
use Rattle.std.proofs.Math.Nat.{min-le_right}
use Rattle.rand_pcg.specs.Lcg.{Lcg}
use Rattle.law_runs_whole.specs.Below.fr_base.declared.instruction.Instr.{Instr}
use Rattle.law_runs_whole.specs.Below.fr_base.declared.settings.Options.{Options}
use Rattle.law_runs_whole.specs.Below.journal.View.{EntryView}
use Rattle.law_runs_whole.specs.Below.server_model.declared.event.Event.{Event}
use Rattle.law_runs_whole.specs.Below.server_model.Servers.{Sent, Server, Cluster}
use Rattle.law_runs_whole.specs.Below.server_model.Work.{then_some}
use Rattle.law_runs_whole.specs.Below.server_model.Clusters.{apply, outboxes}
use Rattle.drive_model.specs.Rounds.{Round, no_entries, before_round, round_of}
use Rattle.law_runs_whole.specs.Below.law_counts_sums.Laws.{Gives}
use Rattle.law_runs_whole.specs.runs.Runs.{run_of}
use Rattle.law_runs_rounds.specs.rounds.Choosing.{AreChosen}
use Rattle.law_runs_rounds.proofs.rounds.Standing.{Stands, AllStand, cluster}
use Rattle.law_runs_rounds.proofs.rounds.Works.{AreWays, Works, works}

-- LISTS

pub first_none : {X : Type 0} (xs ys : List X) → xs ++ ys ≡ [] → xs ≡ []
first_none [] ys e = refl
first_none (x ∷ xs) ys e = absurd (cc e)

pub second_none : {X : Type 0} (xs ys : List X) → xs ++ ys ≡ [] → ys ≡ []
second_none [] ys e = e
second_none (x ∷ xs) ys e = absurd (cc e)

-- RUNS OF EVENTS, ONE AFTER ANOTHER

-- an entry in front
abbrev entered : EntryView → Cluster × List EntryView → Cluster × List EntryView
entered e r = (r.0, e ∷ r.1)

pub runs_on : (es fs : List Event) (k k2 k3 : Cluster) (xs ys : List EntryView) → run_of k es ≡ Some (k2, xs) → run_of k2 fs ≡ Some (k3, ys) → run_of k (es ++ fs) ≡ Some (k3, xs ++ ys)
runs_on [] fs k k2 k3 xs ys e f =
    let both : (k, []) ≡ (k2, xs) = cc in
    let same : k ≡ k2 = ap (λ (p : Cluster × List EntryView). p.0) both in
    let none : [] ≡ xs = ap (λ (p : Cluster × List EntryView). p.1) both in
    ap (λ c. run_of c fs) same ∙ f ∙ ap (λ l. Some (k3, l ++ ys)) none
runs_on (v ∷ es) fs k k2 k3 xs ys e f = by (apply k v) (λ c zs q. runs_on es fs c k2 k3 zs ys q f) e
  where
    later : (d : Cluster × EntryView) (o : Option (Cluster × List EntryView)) → run_of d.0 es ≡ o → option_map (entered d.1) o ≡ Some (k2, xs)
        → ((zs : List EntryView) → run_of d.0 es ≡ Some (k2, zs) → run_of d.0 (es ++ fs) ≡ Some (k3, zs ++ ys)) → option_map (entered d.1) (run_of d.0 (es ++ fs)) ≡ Some (k3, xs ++ ys)
    later d None q g go = absurd (cc g)
    later d (Some r) q g go =
        let both : (r.0, d.1 ∷ r.1) ≡ (k2, xs) = cc in
        let same : r.0 ≡ k2 = ap (λ (p : Cluster × List EntryView). p.0) both in
        let list : d.1 ∷ r.1 ≡ xs = ap (λ (p : Cluster × List EntryView). p.1) both in
        ap (option_map (entered d.1)) (go r.1 (q ∙ ap (λ c. Some (c, r.1)) same)) ∙ ap (λ l. Some (k3, l ++ ys)) list

    by : (o : Option (Cluster × EntryView)) → ((c : Cluster) (zs : List EntryView) → run_of c es ≡ Some (k2, zs) → run_of c (es ++ fs) ≡ Some (k3, zs ++ ys))
        → then_some o (λ d. option_map (entered d.1) (run_of d.0 es)) ≡ Some (k2, xs) → then_some o (λ d. option_map (entered d.1) (run_of d.0 (es ++ fs))) ≡ Some (k3, xs ++ ys)
    by None go g = absurd (cc g)
    by (Some d) go g = later d (run_of d.0 es) refl g (go d.0)

-- those of both are chosen
pub chosen_on : (es fs : List Event) (k k2 : Cluster) (xs : List EntryView) → run_of k es ≡ Some (k2, xs) → AreChosen es k → AreChosen fs k2 → AreChosen (es ++ fs) k
chosen_on [] fs k k2 xs e a b =
    let both : (k, []) ≡ (k2, xs) = cc in
    let same : k ≡ k2 = ap (λ (p : Cluster × List EntryView). p.0) both in
    subst (AreChosen fs) (sym same) b
chosen_on (v ∷ es) fs k k2 xs e a b = (a.0, by (apply k v) (λ c zs q f. chosen_on es fs c k2 zs q f b) e a.1)
  where
    later : (d : Cluster × EntryView) (o : Option (Cluster × List EntryView)) → run_of d.0 es ≡ o → option_map (entered d.1) o ≡ Some (k2, xs)
        → ((zs : List EntryView) → run_of d.0 es ≡ Some (k2, zs) → AreChosen (es ++ fs) d.0) → AreChosen (es ++ fs) d.0
    later d None q g go = absurd (cc g)
    later d (Some r) q g go =
        let both : (r.0, d.1 ∷ r.1) ≡ (k2, xs) = cc in
        let same : r.0 ≡ k2 = ap (λ (p : Cluster × List EntryView). p.0) both in
        go r.1 (q ∙ ap (λ c. Some (c, r.1)) same)

    by : (o : Option (Cluster × EntryView)) → ((c : Cluster) (zs : List EntryView) → run_of c es ≡ Some (k2, zs) → AreChosen es c → AreChosen (es ++ fs) c)
        → then_some o (λ d. option_map (entered d.1) (run_of d.0 es)) ≡ Some (k2, xs) → Gives (λ (d : Cluster × EntryView). AreChosen es d.0) o → Gives (λ (d : Cluster × EntryView). AreChosen (es ++ fs) d.0) o
    by None go g f = tt
    by (Some d) go g f = later d (run_of d.0 es) refl g (λ zs q. go d.0 zs q f)

-- as many entries as events
pub as_many : (es : List Event) (k k2 : Cluster) (xs : List EntryView) → run_of k es ≡ Some (k2, xs) → length xs ≡ length es
as_many [] k k2 xs e = let both : (k, []) ≡ (k2, xs) = cc in ap (λ (p : Cluster × List EntryView). length p.1) (sym both)
as_many (v ∷ es) k k2 xs e = by (apply k v) (λ c zs q. as_many es c k2 zs q) e
  where
    later : (d : Cluster × EntryView) (o : Option (Cluster × List EntryView)) → run_of d.0 es ≡ o → option_map (entered d.1) o ≡ Some (k2, xs) → ((zs : List EntryView) → run_of d.0 es ≡ Some (k2, zs) → length zs ≡ length es) → length xs ≡ suc (length es)
    later d None q g go = absurd (cc g)
    later d (Some r) q g go =
        let both : (r.0, d.1 ∷ r.1) ≡ (k2, xs) = cc in
        let same : r.0 ≡ k2 = ap (λ (p : Cluster × List EntryView). p.0) both in
        ap (λ (p : Cluster × List EntryView). length p.1) (sym both) ∙ ap suc (go r.1 (q ∙ ap (λ c. Some (c, r.1)) same))

    by : (o : Option (Cluster × EntryView)) → ((c : Cluster) (zs : List EntryView) → run_of c es ≡ Some (k2, zs) → length zs ≡ length es) → then_some o (λ d. option_map (entered d.1) (run_of d.0 es)) ≡ Some (k2, xs) → length xs ≡ suc (length es)
    by None go g = absurd (cc g)
    by (Some d) go g = later d (run_of d.0 es) refl g (go d.0)

-- SERVERS THAT STAND FOR OTHERS

pub stand_more : (xs : List Sent) (ss zs : List Server) (s z : Server) → AllStand xs ss zs → Stands xs s z → AllStand xs (ss ++ s ∷ []) (zs ++ z ∷ [])
stand_more xs [] [] s z a h = (h, tt)
stand_more xs (x ∷ ss) (y ∷ zs) s z a h = (a.0, stand_more xs ss zs s z a.1 h)
stand_more xs [] (y ∷ zs) s z a h = absurd a
stand_more xs (x ∷ ss) [] s z a h = absurd a

pub record Split (xs : List Sent) (ss : List Server) (s : Server) (rest zs : List Server) : Type 0 where
  pub front : List Server
  pub mine : Server
  pub back : List Server
  pub is : zs ≡ front ++ mine ∷ back
  pub before : AllStand xs ss front
  pub stands : Stands xs s mine
  pub after : AllStand xs rest back

pub split : (xs : List Sent) (ss : List Server) (s : Server) (rest zs : List Server) → AllStand xs (ss ++ s ∷ rest) zs → Split xs ss s rest zs
split xs [] s rest [] a = absurd a
split xs [] s rest (z ∷ zs) a = record { front = []; mine = z; back = zs; is = refl; before = tt; stands = a.0; after = a.1 }
split xs (x ∷ ss) s rest [] a = absurd a
split xs (x ∷ ss) s rest (z ∷ zs) a =
    let p = split xs ss s rest zs a.1 in
    record { front = z ∷ p.front; mine = p.mine; back = p.back; is = ap (λ l. z ∷ l) p.is; before = (a.0, p.before); stands = p.stands; after = p.after }

pub none_behind : (xs : List Sent) (zs : List Server) → AllStand xs [] zs → zs ≡ []
none_behind xs [] a = refl
none_behind xs (z ∷ zs) a = absurd a

pub stand_both : (xs : List Sent) (ss rest zs more : List Server) → AllStand xs ss zs → AllStand xs rest more → AllStand xs (ss ++ rest) (zs ++ more)
stand_both xs [] rest [] more a b = b
stand_both xs (s ∷ ss) rest (z ∷ zs) more a b = (a.0, stand_both xs ss rest zs more a.1 b)
stand_both xs [] rest (z ∷ zs) more a b = absurd a
stand_both xs (s ∷ ss) rest [] more a b = absurd a

-- A ROUND

module _ (code : List Instr) (o : Options) (Good : ℕ → List Server → Type 0) (most : ℕ) (ways : AreWays code o Good most) where
  -- the work of the servers that come after those that have worked already
  pub record Rounds (left n : ℕ) (xs : List Sent) (ps ss front back : List Server) (gs : List Lcg) : Type 0 where
    pub round : Round
    pub is : round_of code o left ss gs ≡ Some round
    pub few : length round.entries ≤ left
    pub generators : length round.generators ≡ length round.servers
    pub more : List Sent
    pub sent : outboxes round.servers ≡ more
    pub events : List Event
    pub chosen : AreChosen events (cluster code o (front ++ back))
    pub before : List Server
    pub after : List Server
    pub runs : run_of (cluster code o (front ++ back)) events ≡ Some (cluster code o (before ++ after), round.entries)
    pub stand_before : AllStand (xs ++ more) ps before
    pub stand_after : AllStand (xs ++ more) round.servers after
    pub good : Good (n + length round.entries) (before ++ after)

  none_left : (left n : ℕ) (xs : List Sent) (ps front : List Server) → AllStand xs ps front → Good n (front ++ []) → Rounds left n xs ps [] front [] []
  none_left left n xs ps front a good =
      let same : n ≡ n + 0 = omega arith in
      record {
        round = no_entries [] [];
        is = refl;
        few = omega arith;
        generators = refl;
        more = [];
        sent = refl;
        events = [];
        chosen = tt;
        before = front;
        after = [];
        runs = refl;
        stand_before = subst (λ l. AllStand l ps front) (sym (append-nil xs)) a;
        stand_after = tt;
        good = subst (λ k. Good k (front ++ [])) same good;
      }

  -- one server has worked, and then the others
  then_others : (left n : ℕ) (xs : List Sent) (ps : List Server) (s : Server) (ss front : List Server) (z : Server) (back : List Server) (g : Lcg) (gs : List Lcg) → s.rest.outbox ≡ []
      → (w : Works code o Good most ways (min o.quantum left) n xs ps ss front back s z g)
      → Rounds (left - length w.done.entries) (n + length w.done.entries) (xs ++ w.more) (ps ++ w.done.server ∷ []) ss (w.before ++ w.mine ∷ []) w.after gs → Rounds left n xs ps (s ∷ ss) front (z ∷ back) (g ∷ gs)
  then_others left n xs ps s ss front z back g gs quiet w r =
      let all = xs ++ (w.more ++ r.more) in
      let assoc = append_assoc xs w.more r.more in
      let p = split ((xs ++ w.more) ++ r.more) ps w.done.server [] r.before r.stand_before in
      let alone : p.back ≡ [] = none_behind ((xs ++ w.more) ++ r.more) p.back p.after in
      let whole : r.before ++ r.after ≡ p.front ++ p.mine ∷ r.after = ap (λ l. l ++ r.after) (p.is ∙ ap (λ l. p.front ++ p.mine ∷ l) alone) ∙ append_assoc p.front (p.mine ∷ []) r.after in
      let joined : (w.before ++ w.mine ∷ []) ++ w.after ≡ w.before ++ w.mine ∷ w.after = append_assoc w.before (w.mine ∷ []) w.after in
      let entries = length-append w.done.entries r.round.entries in
      let first = w.few in
      let second = r.few in
      let capped = min-le_right o.quantum left in
      let count : (n + length w.done.entries) + length r.round.entries ≡ n + length (w.done.entries ++ r.round.entries) = omega (arith, entries) in
      record {
        round = before_round w.done r.round;
        is = ap (λ y. then_some y (λ v. option_map (before_round v) (round_of code o (left - length v.entries) ss gs))) w.is ∙ ap (option_map (before_round w.done)) r.is;
        few = omega (arith, entries, first, second, capped);
        generators = ap suc r.generators;
        more = w.more ++ r.more;
        sent = ap (λ l. l ++ outboxes r.round.servers) (w.sent ∙ ap (λ l. l ++ w.more) quiet) ∙ ap (λ l. w.more ++ l) r.sent;
        events = w.events ++ r.events;
        chosen = chosen_on w.events r.events (cluster code o (front ++ z ∷ back)) (cluster code o ((w.before ++ w.mine ∷ []) ++ w.after)) w.done.entries (w.runs ∙ ap (λ l. Some (cluster code o l, w.done.entries)) (sym joined)) w.chosen r.chosen;
        before = p.front;
        after = p.mine ∷ r.after;
        runs = runs_on w.events r.events (cluster code o (front ++ z ∷ back)) (cluster code o ((w.before ++ w.mine ∷ []) ++ w.after)) (cluster code o (p.front ++ p.mine ∷ r.after)) w.done.entries r.round.entries
            (w.runs ∙ ap (λ l. Some (cluster code o l, w.done.entries)) (sym joined)) (r.runs ∙ ap (λ l. Some (cluster code o l, r.round.entries)) whole);
        stand_before = subst (λ l. AllStand l ps p.front) assoc p.before;
        stand_after = (subst (λ l. Stands l w.done.server p.mine) assoc p.stands, subst (λ l. AllStand l r.round.servers r.after) assoc r.stand_after);
        good = subst (λ l. Good (n + length (w.done.entries ++ r.round.entries)) l) whole (subst (λ k. Good k (r.before ++ r.after)) count r.good);
      }

  pub rounds_of : (ss : List Server) (gs : List Lcg) (left n : ℕ) (xs : List Sent) (ps front back : List Server) → length gs ≡ length ss → outboxes ss ≡ [] → AllStand xs ps front → AllStand xs ss back → n + left ≤ most
      → Good n (front ++ back) → Rounds left n xs ps ss front back gs
  rounds_of [] [] left n xs ps front [] l q a b m good = none_left left n xs ps front a good
  rounds_of [] gs left n xs ps front (z ∷ back) l q a b m good = absurd b
  rounds_of [] (g ∷ gs) left n xs ps front [] l q a b m good = absurd (omega (arith, l))
  rounds_of (s ∷ ss) gs left n xs ps front [] l q a b m good = absurd b
  rounds_of (s ∷ ss) [] left n xs ps front (z ∷ back) l q a b m good = absurd (omega (arith, l))
  rounds_of (s ∷ ss) (g ∷ gs) left n xs ps front (z ∷ back) l q a b m good =
      let capped = min-le_right o.quantum left in
      let w = works code o Good most ways (min o.quantum left) n xs ps ss front back s z g (omega (arith, m, capped)) good b.0 a b.1 in
      let first = w.few in
      then_others left n xs ps s ss front z back g gs (first_none s.rest.outbox (outboxes ss) q) w
      (rounds_of ss gs (left - length w.done.entries) (n + length w.done.entries) (xs ++ w.more) (ps ++ w.done.server ∷ []) (w.before ++ w.mine ∷ []) w.after (omega (arith, l)) (second_none s.rest.outbox (outboxes ss) q)
      (stand_more (xs ++ w.more) ps w.before w.done.server w.mine w.stand_before w.stands) w.stand_after (omega (arith, m, first, capped))
      (subst (λ k. Good (n + length w.done.entries) k) (sym (append_assoc w.before (w.mine ∷ []) w.after)) w.good))
