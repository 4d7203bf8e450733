-- Which mutable references have their exact types after keys got others.
use Rattle.std.proofs.Common.{◌≡◌, ◌≢◌, ⊎_elim, ◌∙◌, true, sym, ap}
use Rattle.fr_store.specs.Keys.{Key}
use Rattle.fr_store.specs.Store.{Place}
use Rattle.fr_store.specs.Typed.{Tree, Exact, owns, refers, KeyTypes}
use Rattle.fr_store.specs.Rows.{with_type}
use Rattle.fr_store.proofs.Keys.{key_same, key_other, decide_key}

-- no mutable reference has an exact type that its key hadn't before
abbrev pub NoneNew : KeyTypes → KeyTypes → Type 0
NoneNew E E2 = (k : Key) (u : Place) → E2 k ≡ refers true u → E k ≡ refers true u

-- a key got the type of no mutable reference
pub none_with : (E : KeyTypes) (a : Key) (p : Exact) → ((u : Place) → p ≡ refers true u → ⊥) → NoneNew E (with_type E a p)
none_with E a p other k u e =
    ⊎_elim (λ (z : k ≡ a). absurd (other u (sym (key_same a p (E a)) ∙ ap (with_type E a p) (sym z) ∙ e))) (λ (z : k ≢ a). sym (key_other k a p (E k) z) ∙ e) (decide_key k a)

-- or an owned one
pub none_owns : (E : KeyTypes) (a : Key) (t : Tree) → NoneNew E (with_type E a (owns t))
none_owns E a t = none_with E a (owns t) (λ u e. cc)

-- one change after the other
pub none_then : (E E1 E2 : KeyTypes) → NoneNew E E1 → NoneNew E1 E2 → NoneNew E E2
none_then E E1 E2 f g k u e = f k u (g k u e)
