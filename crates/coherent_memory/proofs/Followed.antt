-- What a step has followed is at hand exactly where nothing is counted.
use Rattle.std.proofs.Common.{◌≡◌, ℕ, zero, suc, ◌<◌, Bool, true, false, List, [], ◌∷◌, ◌++◌, Option, Some, None, refl, ap, subst, ◌∙◌, arith}
use Rattle.std.specs.Prelude.{slice_get}
use Rattle.server_model.specs.Below.fr_base.declared.place.Lval.{Lval}
use Rattle.server_model.specs.Below.thread_state.declared.value.Value.{Value}
use Rattle.coherent_memory.specs.Names.{tot, if_so, Among}
use Rattle.coherent_memory.specs.Things.{Location}
use Rattle.coherent_memory.specs.Follow.{Standing, Ground, value_in, value_behind, locate, hop_at, hops}
use Rattle.coherent_memory.specs.Sight.{Sight}
use Rattle.coherent_memory.specs.Paths.{Path, reads, lends, followed}
use Rattle.coherent_memory.specs.Walking.{path, words_kept, loose_hop, has_followed, lost_place, followed_wrong}
use Rattle.coherent_memory.specs.Passing.{HopOf, followed_place, IsAtHand, HaveFollowed, FollowedLaw}
use Rattle.coherent_memory.proofs.Sums.{tot-append}
use Rattle.coherent_memory.proofs.Words.{none_at, none_all}
use Rattle.coherent_memory.proofs.Passing.{located, one_more, hop_got, at_hop}

followed_is : (g : Ground) (t : ℕ) (p : Path) (w : Lval) → followed_place p ≡ Some w → followed g t p ≡ hops g t w w.depth
followed_is g t (reads u) w e = let s : u ≡ w = cc e in ap (λ (x : Lval). hops g t x x.depth) s
followed_is g t (lends u) w e = ap (λ (o : Option Lval). of o) e
  where
    of : Option Lval → List (Option Value)
    of None = []
    of (Some x) = hops g t x x.depth
followed_is g t _ w e = absurd (cc e)

followed_not : (g : Ground) (t : ℕ) (p : Path) → followed_place p ≡ None → followed g t p ≡ []
followed_not g t (reads u) e = absurd (cc e)
followed_not g t (lends u) e = absurd (cc e)
followed_not g t _ e = refl

got_none : {A : Type 0} (f : A → ℕ) (xs : List A) (i : ℕ) (x : A) → tot f xs ≡ 0 → slice_get xs i ≡ Some x → f x ≡ 0
got_none f [] i x z e = absurd (cc e)
got_none f (y ∷ ys) zero x z e = let s : y ≡ x = cc e in subst (λ w. f w ≡ 0) s (omega (arith, z))
got_none f (y ∷ ys) (suc i) x z e = got_none f ys i x (omega (arith, z)) e

hops_sum : (f : Option Value → ℕ) (g : Ground) (t : ℕ) (w : Lval) (n : ℕ) → ((i : ℕ) → i < n → f (hop_at g t w i) ≡ 0) → tot f (hops g t w n) ≡ 0
hops_sum f g t w zero z = refl
hops_sum f g t w (suc n) z =
    let a : tot f (hops g t w (suc n)) ≡ tot f (hops g t w n ++ hop_at g t w n ∷ []) = ap (tot f) (one_more g t w n) in
    omega (arith, a, tot-append f (hops g t w n) (hop_at g t w n ∷ []), hops_sum f g t w n (λ i l. z i (omega (arith, l))), z n (omega arith))

if_true : (q : Bool) (n : ℕ) → q ≡ true → if_so q n ≡ 0 → n ≡ 0
if_true true n e z = z
if_true false n e z = absurd (cc e)

if_made : (q : Bool) (n : ℕ) → (q ≡ true → n ≡ 0) → if_so q n ≡ 0
if_made true n f = f refl
if_made false n f = refl

-- a hop that is there
value_at_hand : (s : Sight) (x : Standing) (w : Lval) (i : ℕ) (l : Location) → locate s.ground x.thread.number w.slot i ≡ Some l → ((v : Value) → HopOf s.ground x.thread.number w.slot i l v → IsAtHand x v)
    → (v : Option Value) → value_in s.ground l ≡ v → loose_hop x.server (words_kept x.thread) v ≡ 0
value_at_hand s x w i l at f None e = refl
value_at_hand s x w i l at f (Some v) e = f v (record { path = located s.ground x.thread.number w.slot i l at; stands = e })

hop_at_hand : (s : Sight) (x : Standing) (w : Lval) (i : ℕ) → ((l : Location) (v : Value) → HopOf s.ground x.thread.number w.slot i l v → IsAtHand x v)
    → (o : Option Location) → locate s.ground x.thread.number w.slot i ≡ o → loose_hop x.server (words_kept x.thread) (value_behind s.ground o) ≡ 0
hop_at_hand s x w i f None at = refl
hop_at_hand s x w i f (Some l) at = value_at_hand s x w i l at (f l) (value_in s.ground l) refl

from_counts : (s : Sight) → followed_wrong s ≡ 0 → HaveFollowed s
from_counts s z x w i l v m h e b hop =
    let t = x.thread.number in
    let f = loose_hop x.server (words_kept x.thread) in
    let here : lost_place s x ≡ 0 = none_at (lost_place s) x s.ground.threads z m in
    let all : tot f (followed s.ground t (path s x)) ≡ 0 = if_true (has_followed s x x.thread.phase) (tot f (followed s.ground t (path s x))) h here in
    let along : tot f (hops s.ground t w w.depth) ≡ 0 = subst (λ hs. tot f hs ≡ 0) (followed_is s.ground t (path s x) w e) all in
    got_none f (hops s.ground t w w.depth) i (Some v) along (hop_got s.ground t w w.depth i b ∙ ap (λ o. Some o) (at_hop s.ground t w.slot i l v hop))

thread_none : (s : Sight) → HaveFollowed s → (x : Standing) → Among x s.ground.threads → has_followed s x x.thread.phase ≡ true → (o : Option Lval) → followed_place (path s x) ≡ o
    → tot (loose_hop x.server (words_kept x.thread)) (followed s.ground x.thread.number (path s x)) ≡ 0
thread_none s h x m q None e = ap (tot (loose_hop x.server (words_kept x.thread))) (followed_not s.ground x.thread.number (path s x) e)
thread_none s h x m q (Some w) e =
    ap (tot (loose_hop x.server (words_kept x.thread))) (followed_is s.ground x.thread.number (path s x) w e)
    ∙ hops_sum (loose_hop x.server (words_kept x.thread)) s.ground x.thread.number w w.depth
    (λ i b. hop_at_hand s x w i (λ l v hop. h x w i l v m q e b hop) (locate s.ground x.thread.number w.slot i) refl)

none_counted : (s : Sight) → HaveFollowed s → followed_wrong s ≡ 0
none_counted s h =
    none_all (lost_place s) s.ground.threads (λ x m. if_made (has_followed s x x.thread.phase) (tot (loose_hop x.server (words_kept x.thread)) (followed s.ground x.thread.number (path s x))) (λ q. thread_none s h x m q (followed_place (path s x)) refl))

pub followed_law : FollowedLaw
followed_law = record { from_counts = from_counts; none_counted = none_counted }
