-- What is in the state is the least that its rules give. Where some things of a cluster change and who owns the others stays, who is in the state is told by
-- the things that change.
use Rattle.std.proofs.Common.{◌≡◌, ℕ, zero, suc, ◌||◌, Bool, true, false, List, [], ◌∷◌, ◌++◌, length, refl, sym, ap₂, ◌∙◌}
use Rattle.std.specs.List.{AllByRecursion}
use Rattle.law_heap_steps.specs.Below.server_model.Servers.{Cluster}
use Rattle.law_heap_steps.specs.Below.coherent_memory.Things.{Thing}
use Rattle.law_heap_steps.specs.Below.coherent_memory.Sight.{Sight, with_things}
use Rattle.law_heap_steps.specs.Below.coherent_memory.OneHeap.{Node, Owner, a_thread, inside, outside, owner_of, names, owner_in, named_in, any_named, in_state_by, is_in_state}
use Rattle.law_heap_steps.proofs.Below.law_heap_still.events.Rounds.{any_more, enough}
use Rattle.law_heap_steps.proofs.turns.Parts.{any_both}

pub or_cases : (p q : Bool) (C : Type 0) → (p ≡ true → C) → (q ≡ true → C) → p || q ≡ true → C
or_cases true q C f g e = f refl
or_cases false q C f g e = g e

pub or_left : (p q : Bool) → p ≡ true → p || q ≡ true
or_left true q e = refl
or_left false q e = absurd (cc e)

pub or_right : (p q : Bool) → q ≡ true → p || q ≡ true
or_right true q e = refl
or_right false q e = e

module _ (s : Sight) where
  -- what is named by somebody in the state is in it
  pub closes : (q : Node) → any_named s (is_in_state s) q s.things ≡ true → is_in_state s q ≡ true
  closes q e = enough s (suc (length s.things)) q e

  rounds : (f : Node → Bool) → ((q : Node) → any_named s f q s.things ≡ true → f q ≡ true) → (i : ℕ) (q : Node) → in_state_by i s q ≡ true → f q ≡ true
  rounds f rule zero q e = absurd (cc e)
  rounds f rule (suc i) q e = rule q (any_more s (in_state_by i s) f (rounds f rule i) q s.things e)

  -- and nothing else
  pub least : (f : Node → Bool) → ((q : Node) → any_named s f q s.things ≡ true → f q ≡ true) → (q : Node) → is_in_state s q ≡ true → f q ≡ true
  least f rule q e = rounds f rule (length s.things) q e

-- the owner of each is the same in both
abbrev pub SameOwners : Sight → Sight → List Thing → Type 0
SameOwners s s2 xs = AllByRecursion (λ th. owner_of s th ≡ owner_of s2 th) xs

-- none is owned by such a node
abbrev pub NoneUnder : Sight → (Node → Bool) → List Thing → Type 0
NoneUnder s extra xs = AllByRecursion (λ th. (q : Node) → extra q ≡ true → owner_of s th ≡ inside q → ⊥) xs

pub same_named : (s s2 : Sight) (f : Node → Bool) (q : Node) (xs : List Thing) → SameOwners s s2 xs → any_named s f q xs ≡ any_named s2 f q xs
same_named s s2 f q [] h = refl
same_named s s2 f q (x ∷ xs) h = ap₂ (λ o r. named_in (names q x) f o || r) h.0 (same_named s s2 f q xs h.1)

-- who may be such a node beside the state
abbrev pub with_extra : (Node → Bool) → (Node → Bool) → Node → Bool
with_extra f extra q = f q || extra q

owner_less : (f extra : Node → Bool) (o : Owner) → ((q : Node) → extra q ≡ true → o ≡ inside q → ⊥) → owner_in (with_extra f extra) o ≡ true → owner_in f o ≡ true
owner_less f extra a_thread none e = refl
owner_less f extra (inside q) none e = or_cases (f q) (extra q) (f q ≡ true) (λ d. d) (λ d. absurd (none q d refl)) e
owner_less f extra outside none e = absurd (cc e)

named_less : (f extra : Node → Bool) (b : Bool) (o : Owner) → ((q : Node) → extra q ≡ true → o ≡ inside q → ⊥) → named_in b (with_extra f extra) o ≡ true → named_in b f o ≡ true
named_less f extra true o none e = owner_less f extra o none e
named_less f extra false o none e = absurd (cc e)

any_less : (s : Sight) (f extra : Node → Bool) (q : Node) (xs : List Thing) → NoneUnder s extra xs → any_named s (with_extra f extra) q xs ≡ true → any_named s f q xs ≡ true
any_less s f extra q [] h e = absurd (cc e)
any_less s f extra q (x ∷ xs) h e =
    let now = named_in (names q x) f (owner_of s x) in
    let rest = any_named s f q xs in
    or_cases (named_in (names q x) (with_extra f extra) (owner_of s x)) (any_named s (with_extra f extra) q xs) (now || rest ≡ true)
    (λ d. or_left now rest (named_less f extra (names q x) (owner_of s x) h.0 d))
    (λ d. or_right now rest (any_less s f extra q xs h.1 d)) e

-- what is named among these is in the state
pub here : (k : Cluster) (X R : List Thing) (q : Node) → any_named (with_things k (X ++ R)) (is_in_state (with_things k (X ++ R))) q X ≡ true → is_in_state (with_things k (X ++ R)) q ≡ true
here k X R q e =
    let s = with_things k (X ++ R) in
    closes s q (any_both s (is_in_state s) q X R ∙ or_left (any_named s (is_in_state s) q X) (any_named s (is_in_state s) q R) e)

-- the first things become the second ones beside the same others
module _ (k : Cluster) (X Y R : List Thing) (same : SameOwners (with_things k (X ++ R)) (with_things k (Y ++ R)) R) where
  abbrev s : Sight
  s = with_things k (X ++ R)

  abbrev s2 : Sight
  s2 = with_things k (Y ++ R)

  others : (q : Node) → any_named s (is_in_state s) q R ≡ true → is_in_state s q ≡ true
  others q e = closes s q (any_both s (is_in_state s) q X R ∙ or_right (any_named s (is_in_state s) q X) (any_named s (is_in_state s) q R) e)

  -- where the first things name what is in the state afterwards, all that was in the state stays in it
  pub stays_in : ((q : Node) → any_named s (is_in_state s2) q X ≡ true → is_in_state s2 q ≡ true) → (q : Node) → is_in_state s q ≡ true → is_in_state s2 q ≡ true
  stays_in rule =
      least s (is_in_state s2) (λ q e. or_cases (any_named s (is_in_state s2) q X) (any_named s (is_in_state s2) q R) (is_in_state s2 q ≡ true) (rule q)
      (λ d. closes s2 q (any_both s2 (is_in_state s2) q Y R ∙ or_right (any_named s2 (is_in_state s2) q Y) (any_named s2 (is_in_state s2) q R) (sym (same_named s s2 (is_in_state s2) q R same) ∙ d)))
      (sym (any_both s (is_in_state s2) q X R) ∙ e))

  -- where the second things name what was in the state, or such a node, nothing else comes into it
  pub comes_from : (extra : Node → Bool) → NoneUnder s extra R
      → ((q : Node) → any_named s2 (with_extra (is_in_state s) extra) q Y ≡ true → with_extra (is_in_state s) extra q ≡ true) → (q : Node) → is_in_state s2 q ≡ true → with_extra (is_in_state s) extra q ≡ true
  comes_from extra none rule =
      let f = with_extra (is_in_state s) extra in
      least s2 f (λ q e. or_cases (any_named s2 f q Y) (any_named s2 f q R) (f q ≡ true) (rule q)
      (λ d. or_left (is_in_state s q) (extra q) (others q (any_less s (is_in_state s) extra q R none (same_named s s2 f q R same ∙ d))))
      (sym (any_both s2 f q Y R) ∙ e))
