-- What becomes of a thread's slots on the way of a read that asks: pins, and a dirty reference that gets another word of its server. Where references to slots lead stays.
use Rattle.std.proofs.Common.{◌≡◌, ◌≤◌, ℕ, zero, suc, ◌-◌, ◌==◌, not, ◌||◌, Bool, true, false, List, Option, Some, None, refl, sym, ap, subst, ◌∙◌, arith}
use Rattle.std.specs.Prelude.{slice_get}
use Rattle.std.proofs.lemmas.Bool.Decides.{nat_tests}
use Rattle.law_length_asks.specs.Below.law_walks_others.Below.fr_base.declared.place.Lval.{Lval}
use Rattle.law_length_asks.specs.Below.law_walks_others.Below.global_addr.Words.{server_of}
use Rattle.law_length_asks.specs.Below.law_walks_others.Below.mut_borrow.declared.mutable.MutRef.{MutRef}
use Rattle.law_length_asks.specs.Below.law_walks_others.Below.mut_borrow.declared.shared.SharedRef.{SharedRef}
use Rattle.law_length_asks.specs.Below.law_walks_others.Below.thread_state.declared.phase.Phase.{Phase}
use Rattle.law_length_asks.specs.Below.law_walks_others.Below.thread_state.declared.phase.Phase.TheVariants as phase
use Rattle.law_length_asks.specs.Below.law_walks_others.Below.thread_state.declared.value.Value.{Value}
use Rattle.law_length_asks.specs.Below.law_walks_others.Below.thread_state.declared.value.Value.TheVariants as value
use Rattle.law_length_asks.specs.Below.law_walks_others.Below.server_model.Objects.{chased, chased_from}
use Rattle.law_length_asks.specs.Below.law_walks_others.Below.coherent_memory.Names.{if_so}
use Rattle.law_length_asks.specs.Below.law_walks_others.Below.coherent_memory.Paths.{Path, reads, shares, lends}
use Rattle.law_length_asks.specs.Below.law_walks_others.Below.coherent_memory.Requests.{is_cell}
use Rattle.law_length_asks.specs.left.Left.{before_lent, may_come, is_far}

-- what stood there and what stands there then
pub data Kin : Option Value → Option Value → Type 0 where
  same : {v : Option Value} → Kin v v
  pins : (q r : SharedRef) → q.word ≡ r.word → q.object ≡ r.object → Kin (Some (value.Shared q)) (Some (value.Shared r))
  cleans : (q r : MutRef) → q.dirty ≡ true → r.dirty ≡ false → server_of r.word ≡ server_of q.word → Kin (Some (value.Mut q)) (Some (value.Mut r))

-- slots that are kin one by one
abbrev pub AllKin : List Value → List Value → Type 0
AllKin xs ys = (j : ℕ) → Kin (slice_get xs j) (slice_get ys j)

-- WHERE REFERENCES TO SLOTS LEAD

abbrev pub slot_led : Option Value → Option ℕ
slot_led (Some (value.SharedSlot j)) = Some j
slot_led (Some (value.MutSlot j)) = Some j
slot_led v = None

abbrev on_from : (ℕ → ℕ) → ℕ → Option ℕ → ℕ
on_from go i None = i
on_from go i (Some j) = go j

from_led : (go : ℕ → ℕ) (i : ℕ) (v : Option Value) → chased_from go i v ≡ on_from go i (slot_led v)
from_led go i None = refl
from_led go i (Some (value.SharedSlot j)) = refl
from_led go i (Some (value.MutSlot j)) = refl
from_led go i (Some (value.Own v)) = refl
from_led go i (Some value.Gone) = refl
from_led go i (Some (value.Shared r)) = refl
from_led go i (Some (value.Mut r)) = refl
from_led go i (Some (value.Held m)) = refl

on_same : (f g : ℕ → ℕ) (i : ℕ) (o : Option ℕ) → ((j : ℕ) → f j ≡ g j) → on_from f i o ≡ on_from g i o
on_same f g i None e = refl
on_same f g i (Some j) e = e j

-- they lead alike where each slot does
pub chased_same : (xs ys : List Value) → ((j : ℕ) → slot_led (slice_get xs j) ≡ slot_led (slice_get ys j)) → (d i : ℕ) → chased d xs i ≡ chased d ys i
chased_same xs ys e zero i = refl
chased_same xs ys e (suc d) i =
    from_led (chased d xs) i (slice_get xs i) ∙ ap (on_from (chased d xs) i) (e i) ∙ on_same (chased d xs) (chased d ys) i (slot_led (slice_get ys i)) (chased_same xs ys e d) ∙ sym (from_led (chased d ys) i (slice_get ys i))

kin_led : (u v : Option Value) → Kin u v → slot_led u ≡ slot_led v
kin_led u _ same = refl
kin_led _ _ (pins q r a b) = refl
kin_led _ _ (cleans q r a b c) = refl

chased_kin : (xs ys : List Value) → AllKin xs ys → (d i : ℕ) → chased d xs i ≡ chased d ys i
chased_kin xs ys k d i = chased_same xs ys (λ j. kin_led (slice_get xs j) (slice_get ys j) (k j)) d i

-- what stands there
there_kin : (xs ys : List Value) → AllKin xs ys → (d i : ℕ) → Kin (slice_get xs (chased d xs i)) (slice_get ys (chased d ys i))
there_kin xs ys k d i = subst (λ j. Kin (slice_get xs (chased d xs i)) (slice_get ys j)) (chased_kin xs ys k d i) (k (chased d xs i))

before_kin : (xs ys : List Value) → AllKin xs ys → (slot d : ℕ) → Kin (before_lent slot d xs) (before_lent slot d ys)
before_kin xs ys k slot zero = same
before_kin xs ys k slot (suc zero) = same
before_kin xs ys k slot (suc (suc d)) = there_kin xs ys k d slot

-- of a path that reads
pub data Reading : Path → Type 0 where
  a_read : (w : Lval) → Reading (reads w)
  a_share : (w : Lval) → Reading (shares w)
  a_lend : (w : Lval) → Reading (lends w)

pub come_kin : (p : Path) → Reading p → (xs ys : List Value) → AllKin xs ys → Kin (may_come p xs) (may_come p ys)
come_kin _ (a_read w) xs ys k = there_kin xs ys k (w.depth - 1) w.slot
come_kin _ (a_share w) xs ys k = there_kin xs ys k (w.depth - 1) w.slot
come_kin _ (a_lend w) xs ys k = before_kin xs ys k w.slot w.depth

-- IS IT FAR?

-- a reference that isn't elsewhere doesn't have the word of an object elsewhere
not_waited : (n q w : ℕ) → (server_of q == n) ≡ false → (server_of w == n) ≡ true → (q == w) ≡ false
not_waited n q w away here = by (q == w) refl
  where
    by : (b : Bool) → (q == w) ≡ b → b ≡ false
    by false e = refl
    by true e =
        let equal : q ≡ w = grind (arith, nat_tests, e) in
        absurd (cc (sym away ∙ ap (λ u. server_of u == n) equal ∙ here))

-- a reference that waits under the word of an object elsewhere is far only where it leads elsewhere
pub far_is : (n q : ℕ) (r : MutRef) → (server_of q == n) ≡ false → is_far n (phase.WaitCell q) (Some (value.Mut r)) ≡ not (server_of r.word == n)
far_is n q r away = by (server_of r.word == n) refl
  where
    by : (b : Bool) → (server_of r.word == n) ≡ b → (not b || (q == r.word)) ≡ not b
    by true e = not_waited n q r.word away e
    by false e = refl

-- so it is no farther than before
or_first : (a b : Bool) (m : ℕ) → if_so a m ≤ if_so (a || b) m
or_first true b m = omega arith
or_first false true m = omega arith
or_first false false m = omega arith

pub far_less : (n q m : ℕ) (p : Phase) (a r : MutRef) → server_of r.word ≡ server_of a.word → (server_of q == n) ≡ false → if_so (is_far n (phase.WaitCell q) (Some (value.Mut r))) m ≤ if_so (is_far n p (Some (value.Mut a))) m
far_less n q m p a r servers away =
    let one : if_so (is_far n (phase.WaitCell q) (Some (value.Mut r))) m ≡ if_so (not (server_of a.word == n)) m = ap (λ b. if_so b m) (far_is n q r away) ∙ ap (λ u. if_so (not (u == n)) m) servers in
    omega (arith, one, or_first (not (server_of a.word == n)) (is_cell a.word p) m)

far_kin : (n q m : ℕ) (p : Phase) (u v : Option Value) → Kin u v → (server_of q == n) ≡ false → if_so (is_far n (phase.WaitCell q) v) m ≤ if_so (is_far n p u) m
far_kin n q m p (Some (value.Mut r)) _ same away = far_less n q m p r r refl away
far_kin n q m p None _ same away = omega arith
far_kin n q m p (Some (value.SharedSlot j)) _ same away = omega arith
far_kin n q m p (Some (value.MutSlot j)) _ same away = omega arith
far_kin n q m p (Some (value.Own v)) _ same away = omega arith
far_kin n q m p (Some value.Gone) _ same away = omega arith
far_kin n q m p (Some (value.Shared r)) _ same away = omega arith
far_kin n q m p (Some (value.Held r)) _ same away = omega arith
far_kin n q m p _ _ (pins a b e f) away = omega arith
far_kin n q m p _ _ (cleans a r d c e) away = far_less n q m p a r e away

-- on a path that reads, where the thread asked for something elsewhere
pub pulls_less : (n q m : ℕ) (p : Phase) (way : Path) → Reading way → (xs ys : List Value) → AllKin xs ys → (server_of q == n) ≡ false → if_so (is_far n (phase.WaitCell q) (may_come way ys)) m ≤ if_so (is_far n p (may_come way xs)) m
pulls_less n q m p way r xs ys k away = far_kin n q m p (may_come way xs) (may_come way ys) (come_kin way r xs ys k) away
