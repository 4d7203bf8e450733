-- A thread waits for one answer: a message that brings an object to it is what it asks for.
use Rattle.std.proofs.Common.{◌≡◌, ◌≤◌, ℕ, ◌+◌, ◌*◌, ◌==◌, ◌&&◌, not, Bool, true, false, List, [], ◌∷◌, refl, arith}
use Rattle.law_counts_sums.specs.Below.fr_base.declared.name.ObjNo.{ObjNo}
use Rattle.law_counts_sums.proofs.Below.fr_typing.PlaceLemmas.{eq_cases}
use Rattle.law_counts_sums.specs.Below.server_msgs.declared.message.Message.{Message}
use Rattle.law_counts_sums.specs.Below.server_msgs.declared.message.Message.TheVariants as message
use Rattle.law_counts_sums.specs.Below.coherent_memory.Names.{tot, one, if_so, same_object}
use Rattle.law_counts_sums.specs.Below.coherent_memory.Things.{Thing, sent, stands}
use Rattle.law_counts_sums.specs.Below.coherent_memory.Paths.{Awaited}
use Rattle.law_counts_sums.specs.Below.coherent_memory.Weights.{is_thread}
use Rattle.law_counts_sums.specs.Below.coherent_memory.Walking.{asked_for, asks_for}
use Rattle.law_counts_sums.specs.Below.coherent_memory.Requests.{waits, halves, halves_to, halves_needed, message_answer}

module _ (t : ℕ) (a : Awaited) (o : ObjNo) where
  -- a message that brings the object to the thread without being what it asks for
  abbrev strays_in : Message → ℕ
  strays_in (message.Moved w c u) = one ((u == t && same_object c.object o) && not (asks_for t a (message.Moved w c u)))
  strays_in m = 0

  abbrev pub strays : Thing → ℕ
  strays (sent r m) = strays_in m
  strays x = 0

  asked_less : (p q r : Bool) → 2 * one ((p && q) && r) ≤ if_so p 2
  asked_less true q r = by (q && r)
    where
      by : (b : Bool) → 2 * one b ≤ 2
      by true = omega arith
      by false = omega arith
  asked_less false q r = omega arith

  moved_less : (p q r s : Bool) → 2 * one ((p && q) && r) + 2 * one ((p && s) && not ((p && q) && r)) ≤ if_so p 2
  moved_less true q r s = by (q && r) s
    where
      by : (b d : Bool) → 2 * one b + 2 * one (d && not b) ≤ 2
      by true true = omega arith
      by true false = omega arith
      by false true = omega arith
      by false false = omega arith
  moved_less false q r s = omega arith

  message_counts : (m : Message) → 2 * one (asks_for t a m) + 2 * strays_in m ≤ halves t (message_answer m)
  message_counts (message.Fetch w p s u) = omega (arith, asked_less (u == t) (not a.comes) (a.word == w && same_object p a.object))
  message_counts (message.Fetched w c u) = omega (arith, asked_less (u == t) (not a.comes) (a.word == w && same_object c.object a.object))
  message_counts (message.Move w p s u) = omega (arith, asked_less (u == t) a.comes (a.word == w && same_object p a.object))
  message_counts (message.Moved w c u) = moved_less (u == t) a.comes (a.word == w && same_object c.object a.object) (same_object c.object o)
  message_counts _ = omega arith

  counts_less : (x : Thing) → 2 * asked_for t a x + 2 * strays x ≤ halves_to t x
  counts_less (sent r m) = message_counts m
  counts_less _ = omega arith

  pub all_less : (b : List Thing) → 2 * tot (asked_for t a) b + 2 * tot strays b ≤ tot (halves_to t) b
  all_less [] = omega arith
  all_less (x ∷ b) = omega (arith, counts_less x, all_less b)

  pub needed_less : (b : List Thing) → tot (halves_needed t) b ≤ 2 * tot (is_thread t) b
  needed_less [] = omega arith
  needed_less (stands s p x ∷ b) = omega (arith, needed_less b, by (x.number == t) (waits x.phase))
    where
      by : (p q : Bool) → if_so (p && q) 2 ≤ 2 * one p
      by true true = omega arith
      by true false = omega arith
      by false q = omega arith
  needed_less (_ ∷ b) = omega (arith, needed_less b)

-- what is no stray, and brings the object, is what the thread asks for
pub is_asked : (t : ℕ) (p q : Bool) → p ≡ true → one ((t == t && p) && not q) ≡ 0 → q ≡ true
is_asked t p true e z = refl
is_asked t true false e z = eq_cases (λ b. one ((b && true) && not false) ≡ 0 → false ≡ true) t t (λ q y. absurd (cc y)) (λ ne y. absurd (ne refl)) z
is_asked t false false e z = absurd (cc e)
