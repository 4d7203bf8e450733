-- An event of a server is one of each server that differs from it in its messages alone, among which the same one waits.
use Rattle.std.proofs.Common.{◌≡◌, ℕ, ◌<◌, length, true, false, List, [], ◌++◌, Option, Some, None, refl, sym, ap, subst, ◌∙◌, arith, append-nil}
use Rattle.std.specs.Prelude.{slice_get, remove, option_map}
use Rattle.std.proofs.lemmas.Bool.Decides.{nat_tests}
use Rattle.std.proofs.lemmas.Option.{slice_get_within}
use Rattle.law_runs_whole.specs.Below.fr_base.declared.instruction.Instr.{Instr}
use Rattle.law_runs_whole.specs.Below.fr_base.declared.settings.Options.{Options}
use Rattle.law_runs_coherent.specs.Below.server_msgs.declared.message.Message.{Message}
use Rattle.law_runs_whole.specs.Below.journal.View.{EntryView}
use Rattle.law_runs_whole.specs.Below.server_model.declared.event.What.{What}
use Rattle.law_runs_whole.specs.Below.server_model.declared.event.What.TheVariants.{Step, Deliver, Evict, Migrate}
use Rattle.law_runs_whole.specs.Below.server_model.Servers.{Server}
use Rattle.law_runs_whole.specs.Below.server_model.Work.{then_some}
use Rattle.law_runs_whole.specs.Below.server_model.Questions.{movable_in}
use Rattle.law_runs_whole.specs.Below.server_model.Events.{left_by, deliver_message, received, enabled, does}
use Rattle.law_runs_rounds.specs.rounds.Order.{SameItems}
use Rattle.law_runs_rounds.specs.rounds.Choosing.{IsChosen}
use Rattle.law_runs_rounds.proofs.rounds.Items.{taken, in_front, taken_in_front, stands_there}
use Rattle.law_runs_rounds.proofs.rounds.BehindEvents.{server_behind, done_behind, brought, brings, delivers, others}

-- a server without messages
abbrev pub bare : Server → Server
bare s = record s { rest = record s.rest { inbox = []; outbox = [] } }

-- a server is the one without messages, with its own in front
in_front_of : (ms : List Message) (s : Server) → record s { rest = record s.rest { inbox = ms } } ≡ server_behind ms s.rest.outbox (bare s)
in_front_of ms s =
    ap (λ l. record s { rest = record s.rest { inbox = l } }) (sym (append-nil ms)) ∙ ap (λ l. record s { rest = record s.rest { inbox = ms ++ []; outbox = l } }) (sym (append-nil s.rest.outbox))

does_bare : (code : List Instr) (o : Options) (w : What) (s : Server) → delivers w ≡ false → does code o s w ≡ option_map (done_behind s.rest.inbox s.rest.outbox) (does code o (bare s) w)
does_bare code o w s e = ap (λ z. does code o z w) (in_front_of s.rest.inbox s) ∙ others s.rest.inbox s.rest.outbox code o w (bare s) e

brings_bare : (code : List Instr) (o : Options) (i : ℕ) (m : Message) (s : Server) → slice_get s.rest.inbox i ≡ Some m
    → does code o s (Deliver i) ≡ option_map (done_behind (remove s.rest.inbox i) s.rest.outbox) (brought code m (bare s))
brings_bare code o i m s e =
    ap (λ x. option_map (left_by s.events None None) (then_some x (λ y. deliver_message code y (received i s)))) e
    ∙ ap (brought code m) (in_front_of (remove s.rest.inbox i) s) ∙ brings (remove s.rest.inbox i) s.rest.outbox code m (bare s)

-- the event at the other server, and what both make
pub record Mirrored (code : List Instr) (o : Options) (under : List Message) (s z : Server) (w : What) : Type 0 where
  pub what : What
  pub made : Option (Server × EntryView)
  -- what still waits
  pub here : List Message
  pub there : List Message
  pub does_here : does code o s w ≡ option_map (done_behind here s.rest.outbox) made
  pub does_there : does code o z what ≡ option_map (done_behind there z.rest.outbox) made
  pub waiting : SameItems (here ++ under) there
  pub on : enabled o z what ≡ true
  -- a driver chooses it there too
  pub chosen : IsChosen o s w → IsChosen o z what

module _ (code : List Instr) (o : Options) (under : List Message) (s z : Server) (same : bare z ≡ bare s) (waiting : SameItems (s.rest.inbox ++ under) z.rest.inbox) where
  quiet : (w : What) → delivers w ≡ false → enabled o z w ≡ true → (IsChosen o s w → IsChosen o z w) → Mirrored code o under s z w
  quiet w e on chosen = record {
    what = w;
    made = does code o (bare s) w;
    here = s.rest.inbox;
    there = z.rest.inbox;
    does_here = does_bare code o w s e;
    does_there = does_bare code o w z e ∙ ap (λ b. option_map (done_behind z.rest.inbox z.rest.outbox) (does code o b w)) same;
    waiting = waiting;
    on = on;
    chosen = chosen;
  }

  delivering : (i : ℕ) (m : Message) → slice_get s.rest.inbox i ≡ Some m → Mirrored code o under s z (Deliver i)
  delivering i m e =
      let t = taken (s.rest.inbox ++ under) z.rest.inbox i m waiting (in_front s.rest.inbox under i m e) in
      record {
        what = Deliver t.at;
        made = brought code m (bare s);
        here = remove s.rest.inbox i;
        there = remove z.rest.inbox t.at;
        does_here = brings_bare code o i m s e;
        does_there = brings_bare code o t.at m z t.item ∙ ap (λ b. option_map (done_behind (remove z.rest.inbox t.at) z.rest.outbox) (brought code m b)) same;
        waiting = subst (λ l. SameItems l (remove z.rest.inbox t.at)) (taken_in_front s.rest.inbox under i m e) t.rest;
        on = (let less = slice_get_within z.rest.inbox t.at m t.item in grind (arith, nat_tests, less));
        chosen = λ c. c;
      }

  pub mirrored : (w : What) → enabled o s w ≡ true → Mirrored code o under s z w
  mirrored (Deliver i) on = let m = stands_there s.rest.inbox i (grind (arith, nat_tests, on)) in delivering i m.0 m.1
  mirrored (Step t) on = quiet (Step t) refl (ap (λ b. enabled o b (Step t)) same ∙ on) (λ c. c)
  mirrored (Evict w) on = quiet (Evict w) refl (ap (λ b. enabled o b (Evict w)) same ∙ on) (λ c. subst (λ (b : Server). o.cache < length b.rest.cache) (sym same) c)
  mirrored (Migrate t target) on = quiet (Migrate t target) refl (ap (λ b. enabled o b (Migrate t target)) same ∙ on) (λ c. subst (λ (b : Server). movable_in b.threads ≡ Some t) (sym same) c)
