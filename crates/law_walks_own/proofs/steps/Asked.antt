-- A thread that waits for what its message asks for waits in turn, where that is what it waits for on its path.
use Rattle.std.proofs.Common.{◌≡◌, ℕ, zero, suc, ◌≤◌, ◌==◌, ◌&&◌, nat_lt, Bool, true, false, if◌then◌else◌, [], ◌∷◌, Some, None, refl, ap, subst, ◌∙◌, arith}
use Rattle.law_walks_others.specs.Below.fr_base.declared.place.Lval.{Lval}
use Rattle.law_walks_others.specs.Below.fr_base.Names.{same_object}
use Rattle.law_walks_others.proofs.Below.fr_typing.PlaceLemmas.{eq_cases}
use Rattle.law_walks_others.specs.Below.server_msgs.declared.message.Message.TheVariants as message
use Rattle.law_walks_others.specs.Below.thread_state.declared.phase.Phase.TheVariants as phase
use Rattle.law_walks_others.specs.Below.thread_state.declared.value.Value.{Value}
use Rattle.law_walks_others.specs.Below.coherent_memory.Names.{tot, one, other, some}
use Rattle.law_walks_others.specs.Below.coherent_memory.Follow.{Standing, hop_at}
use Rattle.law_walks_others.specs.Below.coherent_memory.Paths.{Awaited, to_write}
use Rattle.law_walks_others.specs.Below.coherent_memory.Sight.{Sight}
use Rattle.law_walks_others.specs.Below.coherent_memory.Walking.{path, first_of, next_hop, in_turn, asks_for, asked_for, out_of_turn}
use Rattle.law_walks_others.proofs.Below.law_heap_still.events.Tests.{objects}

one_some : (m : ℕ) → 1 ≤ m → some m ≡ true
one_some zero l = absurd (omega (arith, l))
one_some (suc m) l = refl

both : (p q : Bool) → p ≡ true → q ≡ true → (p && q) ≡ true
both true q a b = b
both false q a b = absurd (cc a)

itself : (n : ℕ) → (n == n) ≡ true
itself n = eq_cases (λ b. b ≡ true) n n (λ e. refl) (λ ne. absurd (ne refl))

pub waits_right : (s : Sight) (x : Standing) (w : ℕ) (a : Awaited) → in_turn s x w (path s x) ≡ Some a → a.word ≡ w → 1 ≤ tot (asked_for x.thread.number a) s.things → out_of_turn s x (phase.WaitCell w) ≡ 0
waits_right s x w a turn word asked =
    ap (Rattle.law_walks_others.specs.Below.coherent_memory.Walking.not_asked s x w) turn ∙ ap other (both (a.word == w) (some (tot (asked_for x.thread.number a) s.things)) (subst (λ u. (a.word == u) ≡ true) word (itself a.word)) (one_some (tot (asked_for x.thread.number a) s.things) asked))

-- the next hop of a write
pub next_is : (s : Sight) (x : Standing) (w : Lval) (v : Value) (a : Awaited) → nat_lt x.thread.passed w.depth ≡ true → hop_at s.ground x.thread.number w x.thread.passed ≡ Some v → to_write (Some v) ≡ a ∷ [] → next_hop s x w ≡ Some a
next_is s x w v a less there awaits =
    ap (λ b. if b then first_of (to_write (hop_at s.ground x.thread.number w x.thread.passed)) else None) less ∙ ap (λ o. first_of (to_write o)) there ∙ ap first_of awaits

-- messages that ask
pub pull_asks : (t : ℕ) (a : Awaited) (s : ℕ) → a.comes ≡ true → one (asks_for t a (message.Move a.word a.object s t)) ≡ 1
pull_asks t a s e =
    ap one (both ((t == t) && a.comes) ((a.word == a.word) && same_object a.object a.object) (both (t == t) a.comes (itself t) e) (both (a.word == a.word) (same_object a.object a.object) (itself a.word) (objects.itself a.object)))

pub copy_asks : (t : ℕ) (a : Awaited) (s : ℕ) → a.comes ≡ false → one (asks_for t a (message.Fetch a.word a.object s t)) ≡ 1
copy_asks t a s e =
    ap one (both ((t == t) && Rattle.std.specs.Prelude.not a.comes) ((a.word == a.word) && same_object a.object a.object) (both (t == t) (Rattle.std.specs.Prelude.not a.comes) (itself t) (ap Rattle.std.specs.Prelude.not e))
    (both (a.word == a.word) (same_object a.object a.object) (itself a.word) (objects.itself a.object)))
