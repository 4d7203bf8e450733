-- An event of a row of servers, with its messages.
use Rattle.std.proofs.Common.{◌≡◌, ℕ, ◌<◌, ◌&&◌, Bool, true, false, List, length, refl, sym, ap, subst, ◌∙◌}
use Rattle.std.specs.Prelude.{slice_set}
use Rattle.journal.specs.View.{EntryView}
use Rattle.server_msgs.specs.declared.message.Message.{Message}
use Rattle.server_model.specs.declared.event.What.{What}
use Rattle.server_model.specs.Servers.{Sent}
use Rattle.server_model.specs.Clusters.{accept_at, outboxes}
use Rattle.server_core.specs.Servers.{ServerView}
use Rattle.cluster_core.specs.Views.{states, events_in, AreNumbered}
use Rattle.cluster_core.specs.Rooms.{HaveRoomFor, HaveRoomBut}
use Rattle.cluster_core.specs.Rows.{Changes, Accepts, Grows, IsSameRun}
use Rattle.cluster_core.specs.Handing.{handed, AreEmptyBut, NoneSent}
use Rattle.cluster_core.specs.Applying.{Acted, Applied}
use Rattle.cluster_core.proofs.RowLemmas.{states_set, same_run, grows_keep, grown, accepted, then_same}
use Rattle.cluster_core.proofs.HandingLemmas.{Next, gone}
use Rattle.cluster_core.proofs.ReadyLemmas.{then_refilled, only_accepts, refilled_but, room_set_again}
use Rattle.cluster_core.proofs.OutboxLemmas.{others_set, others_accept}

-- two flags that are both set
pub both_set : (a b : Bool) → a && b ≡ true → (a ≡ true) × (b ≡ true)
both_set true b e = (refl, e)
both_set false b e = absurd (cc e)

-- a message of that server waits at its own one, which has room again where there was memory
pub record Leaves (n : ℕ) (made : Bool) (vs zs : List ServerView) : Type 0 where
  pub handed_same : handed (states zs) ≡ handed (states vs)
  pub numbered : AreNumbered 0 (states zs)
  pub others : AreEmptyBut n (states zs)
  pub room : HaveRoomFor (outboxes (states zs)) zs
  pub run : IsSameRun vs zs
  pub events : events_in (states zs) ≡ events_in (states vs)
  pub fewer : length (outboxes (states zs)) < length (outboxes (states vs))
  pub ready : HaveRoomBut n 2 vs → made ≡ true → HaveRoomBut n 2 zs

-- it goes so
pub leaves : (n : ℕ) (vs : List ServerView) (w : ServerView) (t : ℕ) (m : Message) (made : Bool) (ws zs : List ServerView) → AreEmptyBut n (states vs) → Next n vs (slice_set vs n w) (record { target = t; message = m })
    → Changes (Accepts m) t (slice_set vs n w) ws → Changes (Grows 2 made) t ws zs → Leaves n made vs zs
leaves n vs w t m made ws zs others k g h =
    let us = slice_set vs n w in
    let x : Sent = record { target = t; message = m } in
    let both = then_refilled m 2 t made us ws zs g h in
    let only = only_accepts m 2 t made us zs both in
    let a = gone n vs us zs t m k only in
    let moved : states zs ≡ accept_at (slice_set (states vs) n w.state) x = accepted t m us zs k.numbered only ∙ ap (λ l. accept_at l x) (states_set vs n w) in record {
      handed_same = a.handed_same;
      numbered = a.numbered;
      others = subst (AreEmptyBut n) (sym moved) (others_accept n (slice_set (states vs) n w.state) x (others_set n (states vs) w.state others));
      room = a.room;
      run = a.run;
      events = a.events;
      fewer = a.fewer;
      ready = λ had e. refilled_but n m 2 t made us zs both (room_set_again n 2 vs w had) e;
    }

-- the event, its messages, and room at its server again
pub applied_there : (n : ℕ) (w : What) (e : EntryView) (made : Bool) (vs us ws zs : List ServerView) → Acted n w e vs us → states ws ≡ handed (states us) → NoneSent (states ws) → IsSameRun us ws → events_in (states ws) ≡ events_in (states us)
    → Changes (Grows 2 made) n ws zs → Applied n w e vs zs
applied_there n w e made vs us ws zs a h sent run events g =
    let same : states zs ≡ states ws = grown 2 made n ws zs g in record {
      new = a.new;
      makes = a.makes;
      changed = same ∙ h ∙ ap handed a.changed;
      sent = subst NoneSent (sym same) sent;
      run = then_same vs us zs a.run (then_same us ws zs run (same_run (Grows 2 made) (grows_keep 2 made) n ws zs g));
      events = ap events_in same ∙ events ∙ a.events;
    }
