-- A text that is passed came first.
use Rattle.std.proofs.Common.{◌≡◌, ◌≢◌, ℕ, ◌<◌, Bool, true, false, cond, eqb, leb, List, [], ◌∷◌, ◌++◌, length, refl, sym, ap, ◌∙◌, append_assoc, arith, codes, Option, Some, None}
use Rattle.std.specs.Char.{is_ascii_digit}
use Rattle.std.specs.Str.{all_ascii_digits}
use Rattle.std.proofs.lemmas.Bool.{eqb-true, eq-eqb, ne_eqb, and_parts, leb-true}
use Rattle.journal.specs.OrderReading.{behind}
use Rattle.journal.proofs.NumberLemmas.{AllDigits}

-- a text in front is passed
pub behind_again : (text rest : List ℕ) → behind text (text ++ rest) ≡ Some rest
unfolding behind
behind_again [] rest = refl
behind_again (t ∷ ts) rest = rw (eq-eqb t t refl) (behind_again ts rest)

-- one byte more was passed
one_more : (t b : ℕ) (ts bytes rest : List ℕ) → (behind ts bytes ≡ Some rest → bytes ≡ ts ++ rest) → (u : Bool) → eqb b t ≡ u → cond u (behind ts bytes) None ≡ Some rest → b ∷ bytes ≡ t ∷ (ts ++ rest)
one_more t b ts bytes rest h true is e = ap (λ x. x ∷ bytes) (eqb-true b t is) ∙ ap (λ x. t ∷ x) (h e)
one_more t b ts bytes rest h false is e = absurd cc

-- what is passed stood in front
pub behind_takes : (text bytes rest : List ℕ) → behind text bytes ≡ Some rest → bytes ≡ text ++ rest
unfolding behind
behind_takes [] bytes rest e = cc
behind_takes (t ∷ ts) [] rest e = absurd cc
behind_takes (t ∷ ts) (b ∷ bytes) rest e = one_more t b ts bytes rest (behind_takes ts bytes rest) (eqb b t) refl e

-- a text that doesn't stand in front isn't passed
pub behind_none : (text bytes : List ℕ) → ((rest : List ℕ) → bytes ≢ text ++ rest) → behind text bytes ≡ None
behind_none text bytes h = by (behind text bytes) refl
  where
    by : (r : Option (List ℕ)) → behind text bytes ≡ r → r ≡ None
    by None e = refl
    by (Some rest) e = absurd (h rest (behind_takes text bytes rest e))

-- a word doesn't begin with a digit
pub no_word : (w : ℕ) (ws ds rest : List ℕ) → 57 < w → AllDigits ds → 0 < length ds → behind (w ∷ ws) (ds ++ rest) ≡ None
unfolding behind
no_word w ws [] rest big all some = absurd (omega arith)
no_word w ws (d ∷ ds) rest big all some =
    let p = and_parts (is_ascii_digit d) (all_ascii_digits ds) all in
    let q = and_parts (leb 48 d) (leb d 57) p.0 in
    rw (ne_eqb d w (λ z. omega (arith, leb-true d 57 q.1))) refl

-- what two readers took, one after the other
pub then_text : (bytes a r b q : List ℕ) → bytes ≡ a ++ r → r ≡ b ++ q → bytes ≡ (a ++ b) ++ q
then_text bytes a r b q e f = e ∙ ap (λ x. a ++ x) f ∙ sym (append_assoc a b q)

-- the words are told apart
pub thread_or_threads : (rest : List ℕ) → behind (codes "thread ") (codes "threads " ++ rest) ≡ None
unfolding behind
thread_or_threads rest = refl

pub thread_or_mutex : (rest : List ℕ) → behind (codes "thread ") (codes "mutex " ++ rest) ≡ None
unfolding behind
thread_or_mutex rest = refl

pub threads_or_mutex : (rest : List ℕ) → behind (codes "threads ") (codes "mutex " ++ rest) ≡ None
unfolding behind
threads_or_mutex rest = refl
