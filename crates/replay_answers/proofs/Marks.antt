-- Where a source ends.
use Rattle.std.proofs.Common.{◌≡◌, ℕ, zero, suc, ◌+◌, ◌<◌, length, Some, None, Bool, true, false, not, cond, List, [], ◌∷◌, drop, refl, ap₂, sym, ap, ◌∙◌, subst, arith}
use Rattle.std.specs.Prelude.{◌==◌, slice_get}
use Rattle.fr_terms.specs.Terms.{Term}
use Rattle.std.proofs.lemmas.Bool.{eqb-true}
use Rattle.source_front.specs.declared.refused.Refused.{Refused}
use Rattle.source_front.specs.declared.refused.Refused.TheVariants.{Tokens, Grammar, Fault, Order, NoMemory}
use Rattle.replay_answers.specs.Replay.{source_length, behind_source, order_start, bad_line, IsBadAfter, IsBadBehind}
use Rattle.replay_answers.specs.Runs.{AreNoLines, IsUnordered}

first_is : (x b : ℕ) (xs rest : List ℕ) → x ∷ xs ≡ b ∷ rest → x ≡ b
first_is x b xs rest h = cc

-- the first byte behind the source is the mark
pub mark_first : (bytes : List ℕ) (b : ℕ) (rest : List ℕ) → behind_source bytes ≡ b ∷ rest → b ≡ 37
mark_first [] b rest h = absurd cc
mark_first (x ∷ bytes) b rest h = by (x == 37) refl (λ g. mark_first bytes b rest g) h
  where
    by : (e : Bool) → (x == 37) ≡ e → (behind_source bytes ≡ b ∷ rest → b ≡ 37) → drop (cond (not e) (1 + source_length bytes) 0) (x ∷ bytes) ≡ b ∷ rest → b ≡ 37
    by true is go i = sym (first_is x b bytes rest i) ∙ eqb-true x 37 is
    by false is go i =
        let more : suc (source_length bytes) ≡ 1 + source_length bytes = omega arith in
        go (ap (λ k. drop k (x ∷ bytes)) more ∙ i)

-- what stands behind the source is no order where its lines are none
pub unordered_lines : (bytes order : List ℕ) (why : Refused) → behind_source bytes ≡ 37 ∷ 10 ∷ order → AreNoLines (order_start bytes) order why → IsUnordered bytes why
unordered_lines bytes order (Order place) h g = λ t. subst (λ rest. IsBadBehind t (source_length bytes) rest place) (sym h) (bad_line g)
unordered_lines bytes order NoMemory h g = tt
unordered_lines bytes order (Tokens e) h g = absurd g
unordered_lines bytes order (Grammar e) h g = absurd g
unordered_lines bytes order (Fault place why) h g = absurd g

-- NOTHING, ONE BYTE OR TWO

none_behind : (bytes : List ℕ) → drop (length bytes) bytes ≡ []
none_behind [] = refl
none_behind (x ∷ bytes) = none_behind bytes

one_behind : (bytes : List ℕ) (n : ℕ) → n < length bytes → None ≡ slice_get bytes (n + 1) → (m : ℕ) × (drop n bytes ≡ m ∷ [])
one_behind [] n h e = absurd (omega (arith, h))
one_behind (x ∷ []) zero h e = (x, refl)
one_behind (x ∷ y ∷ bytes) zero h e = absurd cc
one_behind (x ∷ bytes) (suc n) h e =
    let next : suc n + 1 ≡ suc (n + 1) = omega arith in
    one_behind bytes n (omega (arith, h)) (e ∙ ap (slice_get (x ∷ bytes)) next)

two_behind : (bytes : List ℕ) (n b : ℕ) → Some b ≡ slice_get bytes (n + 1) → (m : ℕ) × (drop n bytes ≡ m ∷ b ∷ drop (n + 2) bytes)
two_behind [] n b e = absurd cc
two_behind (x ∷ []) zero b e = absurd cc
two_behind (x ∷ y ∷ bytes) zero b e = let same : y ≡ b = cc in (x, ap (λ k. x ∷ k ∷ bytes) same)
two_behind (x ∷ bytes) (suc n) b e =
    let next : suc n + 1 ≡ suc (n + 1) = omega arith in
    let past : suc (n + 2) ≡ suc n + 2 = omega arith in
    let there = two_behind bytes n b (e ∙ ap (slice_get (x ∷ bytes)) next) in
    (there.0, there.1 ∙ ap (λ k. there.0 ∷ b ∷ drop k (x ∷ bytes)) past)

-- no mark behind the source
pub no_mark : (bytes : List ℕ) (n : ℕ) (t : Term) → n ≡ source_length bytes → n ≡ length bytes → IsBadBehind t (source_length bytes) (behind_source bytes) n
no_mark bytes n t h e =
    let none : behind_source bytes ≡ [] = ap (λ k. drop k bytes) (sym h ∙ e) ∙ none_behind bytes in
    subst (λ rest. IsBadBehind t (source_length bytes) rest n) (sym none) h

-- nothing behind the mark
pub no_more : (bytes : List ℕ) (n : ℕ) (t : Term) → n ≡ source_length bytes → n < length bytes → None ≡ slice_get bytes (n + 1) → IsBadBehind t (source_length bytes) (behind_source bytes) (n + 1)
no_more bytes n t h less e =
    let one = one_behind bytes n less e in
    let is : behind_source bytes ≡ one.0 ∷ [] = ap (λ k. drop k bytes) (sym h) ∙ one.1 in
    subst (λ rest. IsBadBehind t (source_length bytes) rest (n + 1)) (sym is) (ap (λ k. k + 1) h)

-- no newline behind the mark
pub no_newline : (bytes : List ℕ) (n b : ℕ) (t : Term) → n ≡ source_length bytes → Some b ≡ slice_get bytes (n + 1) → (b == 10) ≡ false → IsBadBehind t (source_length bytes) (behind_source bytes) (n + 1)
no_newline bytes n b t h e other =
    let two = two_behind bytes n b e in
    let is : behind_source bytes ≡ two.0 ∷ b ∷ drop (n + 2) bytes = ap (λ k. drop k bytes) (sym h) ∙ two.1 in
    subst (λ rest. IsBadBehind t (source_length bytes) rest (n + 1)) (sym is)
    (subst (λ (c : Bool). IsBadAfter c t (source_length bytes) (drop (n + 2) bytes) (n + 1)) (sym other) (ap (λ k. k + 1) h))

-- the mark, a newline, and what is behind them
pub marked : (bytes : List ℕ) (n b : ℕ) → n ≡ source_length bytes → Some b ≡ slice_get bytes (n + 1) → b ≡ 10 → behind_source bytes ≡ 37 ∷ 10 ∷ drop (n + 2) bytes
marked bytes n b h e newline =
    let two = two_behind bytes n b e in
    let is : behind_source bytes ≡ two.0 ∷ b ∷ drop (n + 2) bytes = ap (λ k. drop k bytes) (sym h) ∙ two.1 in
    is ∙ ap₂ (λ x y. x ∷ y ∷ drop (n + 2) bytes) (mark_first bytes two.0 (b ∷ drop (n + 2) bytes) is) newline
