-- What one event of a server keeps.
use Rattle.std.proofs.Common.{◌≡◌, ℕ, ◌+◌, List, Option, Some, None, refl, subst}
use Rattle.std.specs.Prelude.{option_map}
use Rattle.fr_base.specs.declared.instruction.Instr.{Instr}
use Rattle.fr_base.specs.declared.settings.Options.{Options}
use Rattle.journal.specs.View.{EntryView}
use Rattle.journal.specs.Journals.{NamesItsThread, IsNamed}
use Rattle.fr_base.specs.declared.step.Fresh.{Fresh}
use Rattle.server_model.specs.declared.event.What.{What}
use Rattle.server_model.specs.declared.event.What.TheVariants.{Step, Deliver, Evict, Migrate}
use Rattle.server_model.specs.Servers.{Server}
use Rattle.server_model.specs.Work.{then_some, in_hand, beside_threads}
use Rattle.server_model.specs.Moving.{migrate}
use Rattle.law_counts_sums.proofs.Results.{given_by}
use Rattle.law_counts_limits.specs.limits.Sending.{SendsFew}
use Rattle.law_counts_limits.proofs.limits.Events.{events_send_few}
use Rattle.server_model.specs.Events.{does, stepped, left_by, step_in, begin_at, deliver, evict_copy}

-- what a map gives comes from something
mapped : {X Y : Type 0} (f : X → Y) (o : Option X) (y : Y) → option_map f o ≡ Some y → (x : X) × (f x ≡ y)
mapped f None y e = absurd (cc e)
mapped f (Some x) y e = let same : f x ≡ y = cc in (x, same)

-- an event counts itself, and its entry names its thread where it did a plain step
pub record IsCounted (s : Server) (d : Server × EntryView) : Type 0 where
  pub events : d.0.events ≡ s.events + 1
  pub names : NamesItsThread d.1

-- an event that a thread is named for
named_by : (t : ℕ) (names : Option Fresh) → IsNamed names (Some t)
named_by t None = tt
named_by t (Some f) = tt

pub counted : (code : List Instr) (o : Options) (s : Server) (w : What) (d : Server × EntryView) → does code o s w ≡ Some d → IsCounted s d
counted code o s (Step t) d e =
    let k = mapped (stepped s) (then_some (in_hand (begin_at s) t) (step_in code o.servers)) d e in
    let x = k.0 in
    subst (IsCounted s) k.1 (record { events = refl; names = named_by x.hand.thread.number x.names })
counted code o s (Deliver i) d e = let k = mapped (left_by s.events None None) (deliver code i s) d e in subst (IsCounted s) k.1 (record { events = refl; names = tt })
counted code o s (Evict c) d e = let k = mapped (left_by s.events None None) (beside_threads (evict_copy c) (begin_at s)) d e in subst (IsCounted s) k.1 (record { events = refl; names = tt })
counted code o s (Migrate t target) d e = let k = mapped (left_by s.events (Some t) None) (migrate t target (begin_at s)) d e in subst (IsCounted s) k.1 (record { events = refl; names = tt })

-- it stays the server that it is
pub same_number : (code : List Instr) (o : Options) (s : Server) (w : What) (d : Server × EntryView) → does code o s w ≡ Some d → d.0.rest.number ≡ s.rest.number
same_number code o s w d e = let few = given_by (λ (x : Server × EntryView). SendsFew 2 s.rest x.0.rest) (does code o s w) d (events_send_few code o s w) e in few.same
