-- What an event finds at its server.
use Rattle.std.proofs.Common.{◌≡◌, true, ℕ, ◌+◌, ◌<◌, ◌^◌, List, [], Option, None, Some, IsSome, IfSome, option_map, sym, ap, subst, ◌∙◌, arith}
use Rattle.fr_base.specs.declared.instruction.Instr.{Instr}
use Rattle.fr_base.specs.declared.step.Fresh.{Fresh}
use Rattle.journal.specs.View.{EntryView}
use Rattle.rank_map.specs.Places.{Place, item_at}
use Rattle.read_cache.specs.View.{has_place}
use Rattle.thread_state.specs.View.{ThreadState, ThreadView}
use Rattle.server_msgs.specs.declared.message.Message.{Message}
use Rattle.server_msgs.specs.declared.message.Message.TheVariants as message
use Rattle.server_model.specs.Servers.{Server}
use Rattle.server_model.specs.Work.{thread_in}
use Rattle.server_model.specs.Events.{begin_at, entry_of, left_by, stepped}
use Rattle.server_core.specs.Rooms.{HasPlaceFor, copies_of}
use Rattle.server_core.specs.Servers.{ServerView}
use Rattle.server_parts.specs.Sites.{site, HasItems}
use Rattle.server_deliveries.specs.Taking.{CanTake, slots_in, passed_in}
use Rattle.server_deliveries.specs.Standing.{standing}
use Rattle.server_core.specs.Steps.{ThreadLeft, step_there}
use Rattle.server_parts.specs.Threads.{states}
use Rattle.server_parts.specs.Works.{WorkView}
use Rattle.server_deliveries.proofs.DeliverLemmas.{made_of}
use Rattle.server_deliveries.proofs.EventLemmas.{begins_at}

slots_left : (o : Option ThreadState) → IfSome o ThreadLeft → slots_in o < 2 ^ 32
slots_left None h = omega arith
slots_left (Some x) h = omega (arith, h.slots)

passed_left : (o : Option ThreadState) → IfSome o ThreadLeft → passed_in o < 255
passed_left None h = omega arith
passed_left (Some x) h = omega (arith, h.passed)

-- what a message needs is there by the room that was made and the counts that are left
abbrev Seen : ServerView → WorkView → List (Place ThreadView) → Type 0
Seen v w ps = (v.copies ≡ w.copies) × (v.state.rest.cache ≡ w.state.rest.cache) × (v.places ≡ ps)

pub can_take : (v : ServerView) (w : WorkView) (ps : List (Place ThreadView)) (o : Option Message) → Seen v w ps → ((t : ℕ) → IfSome (thread_in (states ps) t) ThreadLeft) → HasPlaceFor (copies_of v) v.places o → IfSome o (λ m. CanTake m w ps)
can_take v w ps None s left h = tt
can_take v w ps (Some (message.Fetched x c t)) s left h =
    (subst (λ cs. has_place (record { state = w.state.rest.cache; rooms = cs }) x ≡ true) s.0 (subst (λ cs. has_place (record { state = cs; rooms = v.copies }) x ≡ true) s.1 h.0), subst (λ qs. HasItems 1 (item_at qs t)) s.2 h.1)
can_take v w ps (Some (message.Moved x c t)) s left h = (slots_left (thread_in (states ps) t) (left t), passed_left (thread_in (states ps) t) (left t))
can_take v w ps (Some (message.Start p)) s left h = subst (λ qs. Rattle.rank_map.specs.Places.has_place qs p.number ≡ true) s.2 h
can_take v w ps (Some (message.Migrate p)) s left h = subst (λ qs. Rattle.rank_map.specs.Places.has_place qs p.number ≡ true) s.2 h
can_take v w ps (Some _) s left h = tt

-- STEPS

-- a step that has a result from the beginning
pub begins_step : (code : List Instr) (servers t : ℕ) (w : WorkView) (ps : List (Place ThreadView)) (n : ℕ) → w.state.acts ≡ [] → w.state.labels ≡ [] → IsSome (option_map (stepped (standing w ps n)) (step_there code servers t (begin_at (standing w ps n))))
    → IsSome (step_there code servers t (site w ps))
begins_step code servers t w ps n acts labels h =
    subst (λ x. IsSome (step_there code servers t x)) (sym (begins_at w ps n acts labels)) (made_of (stepped (standing w ps n)) (step_there code servers t (begin_at (standing w ps n))) h)

-- what it leaves is what it leaves from there
pub ends_step : (code : List Instr) (servers t : ℕ) (w : WorkView) (ps : List (Place ThreadView)) (n : ℕ) (d : Server × EntryView) → w.state.acts ≡ [] → w.state.labels ≡ []
    → option_map (stepped (standing w ps n)) (step_there code servers t (site w ps)) ≡ Some d → option_map (stepped (standing w ps n)) (step_there code servers t (begin_at (standing w ps n))) ≡ Some d
ends_step code servers t w ps n d acts labels h = ap (λ x. option_map (stepped (standing w ps n)) (step_there code servers t x)) (sym (begins_at w ps n acts labels)) ∙ h

-- THE ENTRY

-- the entry is taken out, and the rest stays
pub leaves : (n : ℕ) (t : Option ℕ) (names : Option Fresh) (w w2 : WorkView) (ps : List (Place ThreadView)) (e : EntryView) → e ≡ entry_of t names w.state → w2.state.rest ≡ w.state.rest
    → left_by n t names (site w ps) ≡ (record { rest = w2.state.rest; threads = states ps; events = n + 1 }, e)
leaves n t names w w2 ps e is rest = ap (λ x. (record { rest = w.state.rest; threads = states ps; events = n + 1 }, x)) (sym is) ∙ ap (λ r. (record { rest = r; threads = states ps; events = n + 1 }, e)) (sym rest)
