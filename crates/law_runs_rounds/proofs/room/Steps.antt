-- An event does the same by a code without the room of its lists.
use Rattle.std.proofs.Common.{◌≡◌, ℕ, zero, suc, List, [], ◌∷◌, Option, None, Some, slice_get, refl, ap, ◌∙◌, if◌then◌else◌}
use Rattle.std.specs.Prelude.{option_map}
use Rattle.fr_base.specs.declared.instruction.Instr.{Instr}
use Rattle.fr_base.specs.declared.instruction.Instr.TheVariants as instr
use Rattle.fr_base.specs.declared.settings.Options.{Options}
use Rattle.heap_partition.specs.declared.value.Cell.{Cell}
use Rattle.journal.specs.declared.act.Act.TheVariants as act
use Rattle.thread_state.specs.View.{ThreadState}
use Rattle.server_msgs.specs.declared.message.Message.{Message}
use Rattle.server_msgs.specs.declared.message.Message.TheVariants as message
use Rattle.server_model.specs.declared.event.What.{What}
use Rattle.server_model.specs.declared.event.What.TheVariants.{Step, Deliver, Evict, Migrate}
use Rattle.server_model.specs.Servers.{Server}
use Rattle.server_model.specs.Work.{Hand, Site, then_some, in_hand, put_back}
use Rattle.server_model.specs.NewWords.{issue_placed}
use Rattle.server_model.specs.Prepare.{access_of}
use Rattle.server_model.specs.Objects.{instr_access, arrived, waits_for_cell, deliver_moved}
use Rattle.server_model.specs.Events.{step, step_in, stepped, begin_at, left_by, received, deliver_message, deliver, does}
use Rattle.law_runs_whole.specs.Below.law_plain_table.Bare.{bare_of, bare}

-- what goes on alike gives alike
pub then_same : {X Y : Type 0} (o : Option X) (f g : X → Option Y) → ((x : X) → f x ≡ g x) → then_some o f ≡ then_some o g
then_same None f g e = refl
then_same (Some x) f g e = e x

bare_at : (code : List Instr) (n : ℕ) → slice_get (bare code) n ≡ option_map bare_of (slice_get code n)
bare_at [] n = refl
bare_at (i ∷ code) zero = refl
bare_at (i ∷ code) (suc n) = bare_at code n

-- STEPS

step_bare : (servers : ℕ) (i : Instr) (h : Hand) → step servers (bare_of i) h ≡ step servers i h
step_bare n (instr.Let o) h = refl
step_bare n (instr.Assign w o) h = refl
step_bare n (instr.Read w take) h = refl
step_bare n (instr.Borrow w) h = refl
step_bare n (instr.BorrowMut w) h = refl
step_bare n (instr.Box o) h = refl
step_bare n (instr.Arith f a b) h = refl
step_bare n (instr.Print o) h = refl
step_bare n instr.Discard h = refl
step_bare n instr.DropSlot h = refl
step_bare n (instr.Spawn xs m) h = refl
step_bare n (instr.Join o) h = refl
step_bare n (instr.Mutex o) h = refl
step_bare n (instr.Dup w) h = refl
step_bare n (instr.Lock w) h = refl
step_bare n instr.Unlock h = refl
step_bare n (instr.Par xs m ys other) h = refl
step_bare n instr.ParEnd h = refl
step_bare n (instr.End o) h = refl

step_in_bare : (code : List Instr) (n : ℕ) (h : Hand) → step_in (bare code) n h ≡ step_in code n h
step_in_bare code n h = ap (λ (o : Option Instr). then_some o (λ i. step n i h)) (bare_at code h.thread.pc) ∙ at_it (slice_get code h.thread.pc)
  where
    at_it : (o : Option Instr) → then_some (option_map bare_of o) (λ i. step n i h) ≡ then_some o (λ i. step n i h)
    at_it None = refl
    at_it (Some i) = step_bare n i h

-- DELIVERIES

access_bare : (i : Instr) (t : ThreadState) → access_of (bare_of i) t ≡ access_of i t
access_bare (instr.Let o) t = refl
access_bare (instr.Assign w o) t = refl
access_bare (instr.Read w take) t = refl
access_bare (instr.Borrow w) t = refl
access_bare (instr.BorrowMut w) t = refl
access_bare (instr.Box o) t = refl
access_bare (instr.Arith f a b) t = refl
access_bare (instr.Print o) t = refl
access_bare instr.Discard t = refl
access_bare instr.DropSlot t = refl
access_bare (instr.Spawn xs m) t = refl
access_bare (instr.Join o) t = refl
access_bare (instr.Mutex o) t = refl
access_bare (instr.Dup w) t = refl
access_bare (instr.Lock w) t = refl
access_bare instr.Unlock t = refl
access_bare (instr.Par xs m ys other) t = refl
access_bare instr.ParEnd t = refl
access_bare (instr.End o) t = refl

instr_access_bare : (h : Hand) (o : Option Instr) → instr_access h (option_map bare_of o) ≡ instr_access h o
instr_access_bare h None = refl
instr_access_bare h (Some i) = access_bare i h.thread

moved_bare : (code : List Instr) (old : ℕ) (c : Cell) (h : Hand) → deliver_moved (bare code) old c h ≡ deliver_moved code old c h
moved_bare code old c h =
    let same : instr_access h (slice_get (bare code) h.thread.pc) ≡ instr_access h (slice_get code h.thread.pc) = ap (instr_access h) (bare_at code h.thread.pc) ∙ instr_access_bare h (slice_get code h.thread.pc) in
    ap (λ a. if waits_for_cell h.thread.phase old then then_some (issue_placed (act.Take c.object old) c h.work) (λ n. arrived a old n.word (record h { work = n.work })) else None) same

message_bare : (code : List Instr) (m : Message) (x : Site) → deliver_message (bare code) m x ≡ deliver_message code m x
message_bare code (message.Fetch w o s t) x = refl
message_bare code (message.Fetched w c t) x = refl
message_bare code (message.Move w o s t) x = refl
message_bare code (message.Moved w c t) x =
    then_same (in_hand x t) (λ h. option_map (put_back x.threads) (deliver_moved (bare code) w c h)) (λ h. option_map (put_back x.threads) (deliver_moved code w c h)) (λ h. ap (option_map (put_back x.threads)) (moved_bare code w c h))
message_bare code (message.Drop w o) x = refl
message_bare code (message.Lock m s t) x = refl
message_bare code (message.Granted m v t) x = refl
message_bare code (message.Unlock m v) x = refl
message_bare code (message.Dup m s t) x = refl
message_bare code (message.Dupped m t) x = refl
message_bare code (message.Release r) x = refl
message_bare code (message.Start p) x = refl
message_bare code (message.Join u s by) x = refl
message_bare code (message.Joined u v by) x = refl
message_bare code (message.Finished u v) x = refl
message_bare code (message.Migrate p) x = refl

deliver_bare : (code : List Instr) (i : ℕ) (s : Server) → deliver (bare code) i s ≡ deliver code i s
deliver_bare code i s = then_same (slice_get s.rest.inbox i) (λ m. deliver_message (bare code) m (received i s)) (λ m. deliver_message code m (received i s)) (λ m. message_bare code m (received i s))

-- ALL EVENTS

pub does_bare : (code : List Instr) (o : Options) (s : Server) (w : What) → does (bare code) o s w ≡ does code o s w
does_bare code o s (Step t) =
    ap (option_map (stepped s)) (then_same (in_hand (begin_at s) t) (step_in (bare code) o.servers) (step_in code o.servers) (step_in_bare code o.servers))
does_bare code o s (Deliver i) = ap (option_map (left_by s.events None None)) (deliver_bare code i s)
does_bare code o s (Evict w) = refl
does_bare code o s (Migrate t target) = refl
