-- A round: what the servers do one after another, or beside each other, is the definition's.
use Rattle.std.proofs.Common.{◌≡◌, ℕ, zero, suc, ◌+◌, ◌-◌, ◌*◌, ◌≤◌, ◌<◌, List, [], ◌∷◌, ◌++◌, length, Some, refl, sym, ap, subst, ◌∙◌, arith}
use Rattle.std.specs.Prelude.{⊤, ◌^◌, min, option_map, slice_index_or}
use Rattle.std.proofs.lemmas.List.{append_assoc, append-nil}
use Rattle.std.proofs.Math.ListN.{take}
use Rattle.std.proofs.Math.Seq.{take-append_seam}
use Rattle.std.proofs.Math.Nat.{min-le_right, min-eq_left}
use Rattle.rand_pcg.specs.Lcg.{Lcg}
use Rattle.fr_base.specs.declared.instruction.Instr.{Instr}
use Rattle.fr_base.specs.declared.settings.Options.{Options}
use Rattle.journal.specs.View.{EntryView}
use Rattle.server_model.specs.Servers.{Server}
use Rattle.server_model.specs.Work.{then_some}
use Rattle.server_core.specs.Servers.{ServerView}
use Rattle.drive_model.specs.Rounds.{Worked, work, before_round, round_of}
use Rattle.cluster_core.specs.Views.{states, AllKeep, AreNumbered, events_in}
use Rattle.law_runs_rounds.specs.rounds.Working.{CanWork}
use Rattle.drust_run.specs.Desks.{IsReady, EachIsReady, Works, WorkEach, done_at, servers_at, choices_at, entries_at, AreFresh, NoneLacks}
use Rattle.drust_run.specs.Turns.{most_in_turn, CanTakeTurn, CanTakeTurns, TakesTurn, TakesTurnThen, TakeTurns}
use Rattle.drust_run.specs.declared.desk.Desk.{Desk}
use Rattle.drust_run.proofs.WorkLemmas.{works_keep, behind_before}

-- two lists end to end
pub length_append : {X : Type 0} (xs ys : List X) → length (xs ++ ys) ≡ length xs + length ys
length_append [] ys = omega arith
length_append (x ∷ xs) ys = let rest = length_append xs ys in omega (arith, rest)

-- BEFORE IT

-- each server can do a quantum, or as many events as are left
abbrev pub AllCan : (code : List Instr) (o : Options) (left : ℕ) → List Server → List Lcg → Type 0
AllCan code o left [] gs = ⊤
AllCan code o left (s ∷ ss) [] = ⊤
AllCan code o left (s ∷ ss) (g ∷ gs) = CanWork code o (min o.quantum left) s g × AllCan code o left ss gs

-- a server that keeps the run's code and options can do what it can under its own
can_here : (code : List Instr) (o : Options) (n : ℕ) (v : ServerView) (g : Lcg) → (v.code ≡ code) × (v.options ≡ o) → CanWork code o n v.state g → CanWork v.code v.options n v.state g
can_here code o n v g keep can = subst (λ c. CanWork c v.options n v.state g) (sym keep.0) (subst (λ p. CanWork code p n v.state g) (sym keep.1) can)

-- each can do its turn
pub turns_ready : (code : List Instr) (o : Options) (n : ℕ) (vs : List ServerView) (gs : List Lcg) → length code ≤ 2 ^ 30 → length gs ≡ length vs → AllKeep code o vs → AllCan code o (o.turns - n) (states vs) gs
    → CanTakeTurns n vs gs
turns_ready code o n [] gs short as_many keep can = tt
turns_ready code o n (v ∷ vs) [] short as_many keep can = absurd (let bad : 1 ≤ 0 = omega (arith, as_many) in omega (arith, bad))
turns_ready code o n (v ∷ vs) (g ∷ gs) short as_many keep can =
    let most : most_in_turn n v ≡ min o.quantum (o.turns - n) = ap (λ (p : Options). min p.quantum (p.turns - n)) keep.0.1 in
    let able = subst (λ k. CanWork v.code v.options k v.state g) (sym most) (can_here code o (min o.quantum (o.turns - n)) v g keep.0 can.0) in
    (record { short = omega (arith, ap length keep.0.0, short); able = able }, turns_ready code o n vs gs short (omega (arith, as_many)) keep.1 can.1)

-- AFTER IT

-- the servers have done the round from those to these
pub record IsRound (code : List Instr) (o : Options) (left : ℕ) (vs us : List ServerView) (gs hs : List Lcg) (es : List EntryView) : Type 0 where
  pub is : round_of code o left (states vs) gs ≡ Some (record { servers = states us; generators = hs; entries = es })
  pub keep : AllKeep code o us
  pub long : length us ≡ length vs
  pub numbered : (n : ℕ) → AreNumbered n (states vs) → AreNumbered n (states us)
  pub events : events_in (states us) ≡ events_in (states vs) + length es
  pub few : length es ≤ left

-- no server
none_worked : (code : List Instr) (o : Options) (left : ℕ) (gs : List Lcg) → IsRound code o left [] [] gs gs []
none_worked code o left gs = record { is = refl; keep = tt; long = refl; numbered = λ n a. tt; events = omega arith; few = omega arith }

-- one server, and then the others
one_worked : (code : List Instr) (o : Options) (left : ℕ) (v u : ServerView) (vs us : List ServerView) (g h : Lcg) (gs hs : List Lcg) (ws es : List EntryView)
    → (v.code ≡ code) × (v.options ≡ o) → u.code ≡ v.code → u.options ≡ v.options → work code o (min o.quantum left) v.state g ≡ Some (record { server = u.state; generator = h; entries = ws })
    → IsRound code o (left - length ws) vs us gs hs es → IsRound code o left (v ∷ vs) (u ∷ us) (g ∷ gs) (h ∷ hs) (ws ++ es)
one_worked code o left v u vs us g h gs hs ws es keep c p done rest =
    let w : Worked = record { server = u.state; generator = h; entries = ws } in
    let k = works_keep code o (min o.quantum left) v.state g w done in
    let long = length_append ws es in
    let most : min o.quantum left ≤ left = min-le_right o.quantum left in record {
      is =
          ap (λ x. then_some x (λ w. option_map (before_round w) (round_of code o (left - length w.entries) (states vs) gs))) done
          ∙ ap (option_map (before_round w)) rest.is;
      keep = ((c ∙ keep.0, p ∙ keep.1), rest.keep);
      long = omega (arith, rest.long);
      numbered = λ n a. (k.number ∙ a.0, rest.numbered (n + 1) a.1);
      events = omega (arith, k.events, rest.events, long);
      few = omega (arith, k.few, rest.few, long, most);
    }

-- what a server did under its own code and options it did under the run's
done_here : (code : List Instr) (o : Options) (n m : ℕ) (v : ServerView) (g : Lcg) (w : Worked) → (v.code ≡ code) × (v.options ≡ o) → n ≡ m → work v.code v.options n v.state g ≡ Some w → work code o m v.state g ≡ Some w
done_here code o n m v g w keep same done =
    ap (λ c. work c o m v.state g) (sym keep.0) ∙ ap (λ p. work v.code p m v.state g) (sym keep.1) ∙ ap (λ k. work v.code v.options k v.state g) (sym same) ∙ done

-- ONE AFTER ANOTHER

-- the entries of all, behind those before
pub record IsTurned (code : List Instr) (o : Options) (before : List EntryView) (vs us : List ServerView) (gs hs : List Lcg) (after : List EntryView) : Type 0 where
  pub entries : List EntryView
  pub behind : after ≡ before ++ entries
  pub round : IsRound code o (o.turns - length before) vs us gs hs entries

first_turned : (code : List Instr) (o : Options) (before : List EntryView) (v u : ServerView) (vs us : List ServerView) (g h : Lcg) (gs hs : List Lcg) (between after : List EntryView) → (v.code ≡ code) × (v.options ≡ o)
    → TakesTurn before v g u h between → IsTurned code o between vs us gs hs after → IsTurned code o before (v ∷ vs) (u ∷ us) (g ∷ gs) (h ∷ hs) after
first_turned code o before v u vs us g h gs hs between after keep first others =
    let most : most_in_turn (length before) v ≡ min o.quantum (o.turns - length before) = ap (λ (p : Options). min p.quantum (p.turns - length before)) keep.1 in
    let done = behind_before before _ _ first.work in
    let long = length_append before done.entries in
    let left : o.turns - length between ≡ (o.turns - length before) - length done.entries = omega (arith, long, ap length done.behind) in record {
      entries = done.entries ++ others.entries;
      behind = others.behind ∙ ap (λ l. l ++ others.entries) done.behind ∙ append_assoc before done.entries others.entries;
      round =
          one_worked code o (o.turns - length before) v u vs us g h gs hs done.entries others.entries keep first.code first.options
          (done_here code o (most_in_turn (length before) v) (min o.quantum (o.turns - length before)) v g _ keep most done.work)
          (subst (λ n. IsRound code o n vs us gs hs others.entries) left others.round);
    }

-- servers that took turns have done the round
pub turned : (code : List Instr) (o : Options) (before : List EntryView) (vs us : List ServerView) (gs hs : List Lcg) (after : List EntryView) → AllKeep code o vs → TakeTurns before vs gs us hs after
    → IsTurned code o before vs us gs hs after
turned code o before [] us gs hs after keep turns =
    let none : IsTurned code o before [] [] gs gs before = record { entries = []; behind = sym (append-nil before); round = none_worked code o (o.turns - length before) gs } in
    subst (λ l. IsTurned code o before [] l gs hs after) (sym turns.0)
    (subst (λ l. IsTurned code o before [] [] gs l after) (sym turns.1) (subst (IsTurned code o before [] [] gs gs) (sym turns.2) none))
turned code o before (v ∷ vs) us [] hs after keep turns = absurd turns
turned code o before (v ∷ vs) [] (g ∷ gs) hs after keep turns = absurd turns
turned code o before (v ∷ vs) (u ∷ us) (g ∷ gs) [] after keep turns = absurd turns
turned code o before (v ∷ vs) (u ∷ us) (g ∷ gs) (h ∷ hs) after keep turns =
    first_turned code o before v u vs us g h gs hs turns.between after keep.0 turns.first (turned code o turns.between vs us gs hs after keep.1 turns.then)

-- BESIDE EACH OTHER

-- so many events for each
abbrev pub for_each : ℕ → List Desk → ℕ
for_each quantum [] = 0
for_each quantum (d ∷ ds) = quantum + for_each quantum ds

-- they are their number of quanta
pub for_each_is : (quantum : ℕ) (ds : List Desk) → for_each quantum ds ≡ length (servers_at ds) * quantum
for_each_is quantum [] = omega arith
for_each_is quantum (d ∷ ds) = let rest = for_each_is quantum ds in omega (arith, rest)

-- where a quantum is left for each, each is ready for a quantum
pub each_ready : (code : List Instr) (o : Options) (left : ℕ) (ds : List Desk) → length code ≤ 2 ^ 30 → AllKeep code o (servers_at ds) → AreFresh ds → for_each o.quantum ds ≤ left
    → AllCan code o left (states (servers_at ds)) (choices_at ds) → EachIsReady o.quantum ds
each_ready code o left [] short keep fresh enough can = tt
each_ready code o left (d ∷ ds) short keep fresh enough can =
    let whole : min o.quantum left ≡ o.quantum = min-eq_left (omega (arith, enough)) in
    let able = subst (λ n. CanWork d.server.code d.server.options n d.server.state d.choice) whole (can_here code o (min o.quantum left) d.server d.choice keep.0 can.0) in
    (record { short = omega (arith, ap length keep.0.0, short); able = able; fresh = fresh.0 }, each_ready code o left ds short keep.1 fresh.1 (omega (arith, enough)) can.1)

-- so it is at its place
pub ready_here : (n : ℕ) (ds : List Desk) (i : ℕ) (d : Desk) → i < length ds → EachIsReady n ds → IsReady n (slice_index_or ds i d)
ready_here n [] i d below r = absurd (let bad : 1 ≤ 0 = omega (arith, below) in omega (arith, bad))
ready_here n (x ∷ ds) zero d below r = r.0
ready_here n (x ∷ ds) (suc i) d below r = ready_here n ds i d (omega (arith, below)) r.1

-- where a quantum is left for each, servers that each did a quantum have done the round, whichever came first
pub side_by_side : (code : List Instr) (o : Options) (left : ℕ) (ds es : List Desk) → AllKeep code o (servers_at ds) → for_each o.quantum ds ≤ left → WorkEach o.quantum ds es → NoneLacks es
    → IsRound code o left (servers_at ds) (servers_at es) (choices_at ds) (choices_at es) (entries_at es)
side_by_side code o left [] [] keep enough works none = none_worked code o left []
side_by_side code o left [] (e ∷ es) keep enough works none = absurd works
side_by_side code o left (d ∷ ds) [] keep enough works none = absurd works
side_by_side code o left (d ∷ ds) (e ∷ es) keep enough works none =
    let w = works.0 in
    let whole : o.quantum ≡ min o.quantum left = sym (min-eq_left (omega (arith, enough))) in
    let done = done_here code o o.quantum (min o.quantum left) d.server d.choice (done_at e) keep.0 whole (w.work none.0) in
    let k = works_keep code o (min o.quantum left) d.server.state d.choice (done_at e) done in
    one_worked code o left d.server e.server (servers_at ds) (servers_at es) d.choice e.choice (choices_at ds) (choices_at es) e.entries.items (entries_at es) keep.0 w.code w.options done
    (side_by_side code o (left - length e.entries.items) ds es keep.1 (omega (arith, enough, k.few, whole)) works.1 none.1)

-- what is so of each place is so one by one
pub each_at : (n : ℕ) (ds es : List Desk) → length es ≡ length ds → ((i : ℕ) (d : Desk) → i < length ds → Works n (slice_index_or ds i d) (slice_index_or es i d)) → WorkEach n ds es
each_at n [] [] long at = tt
each_at n [] (e ∷ es) long at = absurd (let bad : 1 ≤ 0 = omega (arith, long) in omega (arith, bad))
each_at n (d ∷ ds) [] long at = absurd (let bad : 1 ≤ 0 = omega (arith, long) in omega (arith, bad))
each_at n (d ∷ ds) (e ∷ es) long at = (at 0 d (omega arith), each_at n ds es (omega (arith, long)) (λ i x within. at (suc i) x (omega (arith, within))))

-- a list that is written back whole
pub written_back : {X : Type 0} (n : ℕ) (xs rest : List X) → length xs ≡ n → take n (xs ++ rest) ≡ xs
written_back n xs rest long = subst (λ k. take k (xs ++ rest) ≡ xs) long (take-append_seam xs rest)
