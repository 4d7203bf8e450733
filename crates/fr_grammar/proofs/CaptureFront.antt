-- The names of a capture list, from any of them on.
use Rattle.std.proofs.Common.{◌≡◌, ℕ, suc, Bool, true, false, List, [], ◌∷◌, ◌++◌, refl, sym, ap, ◌∙◌, subst, append_assoc}
use Rattle.std.specs.Prelude.{Result, Ok, Err}
use Rattle.fr_terms.specs.Terms.{Captured}
use Rattle.fr_syntax.specs.declared.token.Token.{Token}
use Rattle.fr_grammar.specs.declared.fault.ParseError.{ParseError}
use Rattle.fr_grammar.specs.declared.fault.ParseError.TheVariants.{Syntax, TooDeep, NoMemory}
use Rattle.fr_syntax.specs.Arena.{Arena}
use Rattle.fr_syntax.specs.Meanings.{Meaning, capture_s, as_capture, meaning_at, meanings, all_need, captures_at as captures_of}
use Rattle.fr_grammar.specs.Growth.{IsGrown, AreGrown}
use Rattle.fr_grammar.specs.Reading.{◌>>=◌, Read, Fails, capture_next, captured_at, after_capture}
use Rattle.fr_grammar.proofs.GrowthLemmas.{captures_kept}

-- the captured name at a node
abbrev pub capture_of : List Meaning → ℕ → Captured
capture_of ms k = as_capture (meaning_at ms k).what

-- what was read, with the names of these nodes in front
abbrev pub with_captures : List Meaning → List ℕ → Read (List Captured) → Read (List Captured)
with_captures ms ks read = read >>= λ x. Ok (captures_of ms ks ++ x.0, x.1)

-- one more name at the end
captures_push : (ms : List Meaning) (ks : List ℕ) (k : ℕ) → captures_of ms (ks ++ k ∷ []) ≡ captures_of ms ks ++ capture_of ms k ∷ []
captures_push ms [] k = refl
captures_push ms (x ∷ xs) k = ap (λ l. capture_of ms x ∷ l) (captures_push ms xs k)

-- the list's loop, where a name is read next
module _ (n : ℕ) (t0 t1 : Arena) (ks : List ℕ) (rest : List Token) (whole : Read (List Captured)) (so_far : with_captures (meanings t1) ks (captured_at t0.names (suc n) rest) ≡ whole) (grown : AreGrown t0 t1 (all_need capture_s ks)) where
  -- what was read of the next name decides the whole
  ahead : (r : Result (Captured × Bool × List Token) ParseError) → capture_next t1.names rest ≡ r → whole ≡ with_captures (meanings t1) ks (r >>= λ x. after_capture (captured_at t0.names n) x.0 x.1 x.2)
  unfolding captured_at
  ahead r h =
      let same : capture_next t0.names rest ≡ r = subst (λ names. capture_next names rest ≡ r) grown.names h in
      sym so_far ∙ ap (λ r. with_captures (meanings t1) ks (r >>= λ x. after_capture (captured_at t0.names n) x.0 x.1 x.2)) same

  -- the next name is refused
  pub capture_refused : (e : ParseError) → Fails e (capture_next t1.names rest) → Fails e whole
  capture_refused NoMemory h = tt
  capture_refused (Syntax place) h = ahead (Err (Syntax place)) h
  capture_refused (TooDeep place) h = ahead (Err (TooDeep place)) h

  module _ (t2 : Arena) (ks' : List ℕ) (k : ℕ) (rest' : List Token) (more : Bool) (is_next : capture_next t1.names rest ≡ Ok (capture_of (meanings t2) k, more, rest')) (one : IsGrown capture_s t1 t2 k) (pushed : ks' ≡ ks ++ k ∷ []) where
    -- the names up to the next one
    front_push : captures_of (meanings t2) ks' ≡ captures_of (meanings t1) ks ++ capture_of (meanings t2) k ∷ []
    front_push =
        ap (captures_of (meanings t2)) pushed ∙ captures_push (meanings t2) ks k
        ∙ ap (λ l. l ++ capture_of (meanings t2) k ∷ []) (captures_kept t0 t1 (meanings t2) ks grown one.keeps)

    with_next : Read (List Captured) → Read (List Captured)
    with_next r = r >>= λ x. Ok (capture_of (meanings t2) k ∷ x.0, x.1)

    front_on : (r : Read (List Captured)) → with_captures (meanings t2) ks' r ≡ with_captures (meanings t1) ks (with_next r)
    unfolding with_next
    front_on (Ok x) = ap (λ l. Ok (l, x.1)) (ap (λ l. l ++ x.0) front_push ∙ append_assoc (captures_of (meanings t1) ks) (capture_of (meanings t2) k ∷ []) x.0)
    front_on (Err e) = refl

    -- another name comes
    pub capture_goes_on : (m : ℕ) → more ≡ true → m ≡ n → with_captures (meanings t2) ks' (captured_at t0.names m rest') ≡ whole
    unfolding with_next
    capture_goes_on m is fuel =
        let now = ahead (Ok (capture_of (meanings t2) k, more, rest')) is_next in
        let from : after_capture (captured_at t0.names n) (capture_of (meanings t2) k) more rest' ≡ with_next (captured_at t0.names n rest') = ap (λ b. after_capture (captured_at t0.names n) (capture_of (meanings t2) k) b rest') is in
        ap (λ m. with_captures (meanings t2) ks' (captured_at t0.names m rest')) fuel ∙ front_on (captured_at t0.names n rest') ∙ sym (now ∙ ap (with_captures (meanings t1) ks) from)

    -- the list ends
    pub capture_closes : more ≡ false → whole ≡ Ok (captures_of (meanings t2) ks', rest')
    capture_closes is =
        ahead (Ok (capture_of (meanings t2) k, more, rest')) is_next
        ∙ ap (λ b. with_captures (meanings t1) ks (after_capture (captured_at t0.names n) (capture_of (meanings t2) k) b rest')) is
        ∙ ap (λ l. Ok (l, rest')) (sym front_push)
