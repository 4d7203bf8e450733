-- An event at its server.
use Rattle.std.proofs.Common.{◌≡◌, ℕ, zero, suc, ◌+◌, ◌==◌, true, false, List, [], ◌∷◌, ◌++◌, Option, Some, None, refl, sym, ap, subst, ◌∙◌, arith}
use Rattle.std.specs.Prelude.{slice_get, slice_set, option_map, IsSome, IfSome, IfOk, OnErr, Result, Ok, Err}
use Rattle.std.specs.List.{AllByRecursion}
use Rattle.fr_base.specs.declared.instruction.Instr.{Instr}
use Rattle.fr_base.specs.declared.settings.Options.{Options}
use Rattle.journal.specs.View.{EntryView}
use Rattle.server_model.specs.declared.event.What.{What}
use Rattle.server_model.specs.declared.event.What.TheVariants.{Step, Deliver, Evict, Migrate}
use Rattle.server_model.specs.Servers.{Server, Sent}
use Rattle.server_model.specs.Clusters.{outboxes}
use Rattle.server_model.specs.Work.{then_some, in_hand, beside_threads}
use Rattle.server_model.specs.Moving.{migrate}
use Rattle.server_model.specs.Events.{enabled, does, stepped, left_by, step_in, begin_at, deliver, evict_copy}
use Rattle.law_counts_sums.specs.Laws.{Gives}
use Rattle.law_counts_limits.specs.limits.Sending.{SendsFew}
use Rattle.law_counts_limits.proofs.limits.Events.{events_send_few}
use Rattle.server_core.specs.Servers.{ServerView}
use Rattle.server_core.specs.Steps.{CountsLeft}
use Rattle.cluster_core.specs.Views.{states, events_in, AreNumbered}
use Rattle.cluster_core.specs.Rooms.{HaveRoom, HaveRoomFor, HaveRoomBut}
use Rattle.cluster_core.specs.Rows.{Grows, HaveGrown}
use Rattle.cluster_core.specs.Handing.{AreEmptyBut, NoneSent}
use Rattle.cluster_core.specs.Applying.{CanAct, Acts, Acted}
use Rattle.cluster_core.proofs.RowLemmas.{KeepsRun, states_at, states_set, run_set, then_same}
use Rattle.cluster_core.proofs.RoomLemmas.{grown_states, grown_run}
use Rattle.cluster_core.proofs.ReadyLemmas.{room_set_there, room_for_few}
use Rattle.cluster_core.proofs.OutboxLemmas.{none_but_set, none_at, outboxes_one}

-- what a map gives comes from something
mapped : {X Y : Type 0} (f : X → Y) (o : Option X) (y : Y) → option_map f o ≡ Some y → (x : X) × (y ≡ f x)
mapped f None y e = absurd (cc e)
mapped f (Some x) y e = let same : y ≡ f x = cc in (x, same)

-- an event counts itself
counted : (code : List Instr) (o : Options) (s : Server) (w : What) (d : Server × EntryView) → does code o s w ≡ Some d → d.0.events ≡ s.events + 1
counted code o s (Step t) d e = let k = mapped (stepped s) (then_some (in_hand (begin_at s) t) (step_in code o.servers)) d e in ap (λ (z : Server × EntryView). z.0.events) k.1
counted code o s (Deliver i) d e = let k = mapped (left_by s.events None None) (deliver code i s) d e in ap (λ (z : Server × EntryView). z.0.events) k.1
counted code o s (Evict c) d e = let k = mapped (left_by s.events None None) (beside_threads (evict_copy c) (begin_at s)) d e in ap (λ (z : Server × EntryView). z.0.events) k.1
counted code o s (Migrate t target) d e = let k = mapped (left_by s.events (Some t) None) (migrate t target (begin_at s)) d e in ap (λ (z : Server × EntryView). z.0.events) k.1

-- it sends few messages
sends : (code : List Instr) (o : Options) (s : Server) (w : What) (d : Server × EntryView) → does code o s w ≡ Some d → SendsFew 2 s.rest d.0.rest
sends code o s w d e = subst (Gives (λ (d : Server × EntryView). SendsFew 2 s.rest d.0.rest)) e (events_send_few code o s w)

-- one server with another count of events
set_counts : (ss : List Server) (n : ℕ) (s new : Server) → slice_get ss n ≡ Some s → new.events ≡ s.events + 1 → events_in (slice_set ss n new) ≡ events_in ss + 1
set_counts [] n s new e h = absurd (cc e)
set_counts (x ∷ ss) zero s new e h = let same : x.events ≡ s.events = let q : x ≡ s = cc in ap (λ (y : Server). y.events) q in omega (arith, same, h)
set_counts (x ∷ ss) (suc n) s new e h = omega (arith, set_counts ss n s new e h)

-- WHERE SERVERS HAVE GROWN

-- the server at a place, as it was
pub grown_at : (vs gs : List ServerView) (n : ℕ) (g : ServerView) → HaveGrown vs gs → slice_get gs n ≡ Some g → (v : ServerView) × (slice_get vs n ≡ Some v) × Grows 0 true v g
grown_at [] [] n g h e = absurd (cc e)
grown_at [] (x ∷ gs) n g h e = absurd h
grown_at (v ∷ vs) [] n g h e = absurd h
grown_at (v ∷ vs) (x ∷ gs) zero g h e = let same : x ≡ g = cc in (v, refl, subst (Grows 0 true v) same h.0)
grown_at (v ∷ vs) (x ∷ gs) (suc n) g h e = grown_at vs gs n g h.1 e

-- what is done depends on the state, the code and the options alone
does_same : (v g : ServerView) (w : What) → g.state ≡ v.state → g.code ≡ v.code → g.options ≡ v.options → does g.code g.options g.state w ≡ does v.code v.options v.state w
does_same v g w s c o = ap (λ x. does x g.options g.state w) c ∙ ap (λ x. does v.code x g.state w) o ∙ ap (λ x. does v.code v.options x w) s

-- so does what doing it asks
pub still_able : (v g : ServerView) (w : What) → g.state ≡ v.state → g.code ≡ v.code → g.options ≡ v.options → CanAct w v → CanAct w g
still_able v g w s c o a = record {
  on = ap (λ x. enabled x g.state w) o ∙ ap (λ x. enabled v.options x w) s ∙ a.on;
  result = subst IsSome (sym (does_same v g w s c o)) a.result;
  counts = subst CountsLeft (sym s) a.counts;
}

-- what can be done at a server can be done there still
pub able_grown : (vs gs : List ServerView) (n : ℕ) (g : ServerView) (w : What) → HaveGrown vs gs → slice_get gs n ≡ Some g → IfSome (slice_get vs n) (CanAct w) → CanAct w g
able_grown vs gs n g w h e a =
    let k = grown_at vs gs n g h e in
    let q = k.2 in
    still_able k.0 g w q.state q.code q.options (subst (λ o. IfSome o (CanAct w)) k.1 a)

-- and that it was done
pub acts_same : (v g u : ServerView) (w : What) (e : EntryView) → g.state ≡ v.state → g.code ≡ v.code → g.options ≡ v.options → Acts w e g u → Acts w e v u
acts_same v g u w e s c o a = record { done = sym (does_same v g w s c o) ∙ a.done; code = a.code ∙ c; options = a.options ∙ o }

-- what was put at a place is there
set_there : (gs : List ServerView) (n : ℕ) (g u : ServerView) → slice_get gs n ≡ Some g → slice_get (slice_set gs n u) n ≡ Some u
set_there [] n g u e = absurd (cc e)
set_there (x ∷ gs) zero g u e = refl
set_there (x ∷ gs) (suc n) g u e = set_there gs n g u e

-- THE EVENT

-- it is done where each server has room for two messages, and none stands in an outbox
pub acted : (n : ℕ) (w : What) (e : EntryView) (vs gs : List ServerView) (g u : ServerView) → HaveGrown vs gs → HaveRoom 2 gs → AreNumbered 0 (states vs) → NoneSent (states vs) → slice_get gs n ≡ Some g → Acts w e g u → Acted n w e vs (slice_set gs n u)
acted n w e vs gs g u grown room numbered none at acts =
    let k = grown_at vs gs n g grown at in
    let v = k.0 in
    let there : slice_get vs n ≡ Some v = k.1 in
    let q = k.2 in
    let a : Acts w e v u = acts_same v g u w e q.state q.code q.options acts in
    let gss : states gs ≡ states vs = grown_states vs gs grown in
    let us = slice_set gs n u in
    let now : states us ≡ slice_set (states vs) n u.state = states_set gs n u ∙ ap (λ l. slice_set l n u.state) gss in
    let old : slice_get (states vs) n ≡ Some v.state = states_at vs n v there in
    let few = sends v.code v.options v.state w (u.state, e) a.done in
    let number : u.state.rest.number ≡ v.state.rest.number = few.same in
    let keeps : KeepsRun g u = record { code = acts.code; options = acts.options; number = number ∙ ap (λ (s : Server). s.rest.number) (sym q.state) } in
    let run = then_same vs gs us (grown_run vs gs grown) (run_set gs n g u at keeps) in
    let sent : u.state.rest.outbox ≡ few.more = few.all ∙ ap (λ l. l ++ few.more) (none_at n (states vs) v.state none old) in
    let all : outboxes (states us) ≡ few.more = ap outboxes now ∙ outboxes_one n (states vs) v.state u.state none old ∙ sent in
    let ready : HaveRoomBut n 2 us = room_set_there n 2 gs u room in
    let here : slice_get us n ≡ Some u = set_there gs n g u at in
    let others : AllByRecursion (λ (x : Sent). (x.target == u.state.rest.number) ≡ false) few.more = subst (λ j. AllByRecursion (λ (x : Sent). (x.target == j) ≡ false) few.more) (sym number) few.others in record {
      new = u.state;
      makes = record { old = v; there = there; done = a.done };
      changed = now;
      numbered = run.numbered 0 numbered;
      others = subst (AreEmptyBut n) (sym now) (none_but_set n (states vs) u.state none);
      room = subst (λ l. HaveRoomFor l us) (sym all) (room_for_few n 2 few.more us u ready few.few here others);
      ready = ready;
      run = run;
      events = ap events_in now ∙ set_counts (states vs) n v.state u.state old (counted v.code v.options v.state w (u.state, e) a.done);
    }

-- of an outcome another thing follows
pub if_ok : {T E : Type 0} (P Q : T → Type 0) (r : Result T E) → ((x : T) → P x → Q x) → IfOk r P → IfOk r Q
if_ok P Q (Ok x) f p = f x p
if_ok P Q (Err e) f p = p

-- and of a refusal
pub if_err : {T E : Type 0} (P Q : Type 0) (r : Result T E) → (P → Q) → OnErr r P → OnErr r Q
if_err P Q (Ok x) f p = p
if_err P Q (Err e) f p = f p
