-- Typing steps that generated programs have in common.
use Rattle.std.proofs.Common.{◌≡◌, ℕ, zero, suc, false, List, [], ◌∷◌, ◌++◌, Some}
use Rattle.fr_terms.specs.Terms.{Spot, Term}
use Rattle.fr_typing.specs.Kinds.{Kind, own, unit, whole}
use Rattle.fr_typing.specs.Places.{Env, Found, found, type_at, read_blocked, slot_of}
use Rattle.fr_typing.specs.Checks.{place_of}
use Rattle.fr_typing.specs.Finding.{Has, Shows}
use Rattle.fr_typing.specs.Typing.{TypesItems, types_none, types_item}
use Rattle.gen_load.specs.Programs.{items, times}

pub has : (e : Env) (w : Spot) (s : ℕ) (f : Found) → slot_of e w.name ≡ Some s → type_at e (place_of w s) ≡ f → Has e w s f
has e w s f named is = record { named = named; is = is }

pub shows : (e : Env) (w : Spot) (s : ℕ) (k : Kind) → slot_of e w.name ≡ Some s → type_at e (place_of w s) ≡ found (whole k) → read_blocked e s ≡ false → Shows e w s k
shows e w s k named is free = record { is = has e w s (found (whole k)) named is; free = free }

-- items and then others
pub items_then : {e e1 e2 : Env} (xs ys : List Term) {k k1 k2 : Kind} {last last1 last2 : ℕ} → TypesItems e (items xs) k last k1 last1 e1 → TypesItems e1 (items ys) k1 last1 k2 last2 e2 → TypesItems e (items (xs ++ ys)) k last k2 last2 e2
items_then [] ys types_none next = next
items_then (x ∷ xs) ys (types_item first more) next = types_item first (items_then xs ys more next)

-- items that leave an environment as it was, so many times
pub items_times : {e : Env} (k : ℕ) (ts : List Term) → TypesItems e (items ts) (own unit) 0 (own unit) 0 e → TypesItems e (items (times k ts)) (own unit) 0 (own unit) 0 e
items_times zero ts one = types_none
items_times (suc k) ts one = items_then ts (times k ts) one (items_times k ts one)
