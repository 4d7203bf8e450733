-- One call after another.
use Rattle.std.proofs.Common.{◌≡◌, ℕ, ◌+◌, ◌-◌, ◌≤◌, List, ◌++◌, length, take, drop, Option, Some, None, refl, sym, ap, ◌∙◌, subst, arith, append_assoc, length-append}
use Rattle.std.proofs.lemmas.List.{take_rest, take-append-drop, drop-drop}
use Rattle.drust_io.specs.Flow.{GoesOn, ComesOff, SomeComeOff, AtMostComeOff}

-- two pieces in a row are one piece
pub GoesOn-append : (a b : List ℕ) (x y z : Option (List ℕ)) → GoesOn a x y → GoesOn b y z → GoesOn (a ++ b) x z
GoesOn-append a b None y z g h = tt
GoesOn-append a b (Some before) y z g h =
    let h' = subst (λ y. GoesOn b y z) g h in
    h' ∙ ap Some (append_assoc before a b)

pub ComesOff-append : (a b : List ℕ) (x y z : Option (List ℕ)) → ComesOff a x y → ComesOff b y z → ComesOff (a ++ b) x z
ComesOff-append a b None y z g h = tt
ComesOff-append a b (Some all) y z g h =
    let h' = subst (λ y. ComesOff b y z) g.1 h in
    (h'.0, h'.1, g.2 ∙ ap (λ l. a ++ l) h'.2 ∙ sym (append_assoc a b h'.0))

-- the same where only their number counts
pub some_off : (n : ℕ) (a b : List ℕ) (x y z : Option (List ℕ)) → length a + length b ≡ n → ComesOff a x y → ComesOff b y z → SomeComeOff n x z
some_off n a b x y z e g h = (a ++ b, omega (arith, length-append a b), ComesOff-append a b x y z g h)

pub most_off : (n : ℕ) (a b : List ℕ) (x y z : Option (List ℕ)) → length a + length b ≤ n → ComesOff a x y → ComesOff b y z → AtMostComeOff n x z
most_off n a b x y z e g h = (a ++ b, omega (arith, length-append a b), ComesOff-append a b x y z g h)

-- what was copied to the room came off the front of what was left
pub copied_off : (at n : ℕ) (bytes left room seen : List ℕ) → drop at bytes ≡ left → seen ≡ bytes → take n room ≡ take n (take (length seen - at) (drop at seen)) → ComesOff (take n room) (Some left) (Some (drop (at + n) bytes))
copied_off at n bytes left room seen was same e =
    let front : take n room ≡ take n (drop at bytes) = e ∙ ap (take n) (take_rest seen at) ∙ ap (λ l. take n (drop at l)) same in
    (drop (at + n) bytes, refl, sym was ∙ sym (take-append-drop n (drop at bytes)) ∙ ap (λ l. take n (drop at bytes) ++ l) (drop-drop n at bytes) ∙ ap (λ l. l ++ drop (at + n) bytes) (sym front))
