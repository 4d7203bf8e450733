-- The items of a block, from any of them on.
use Rattle.std.proofs.Common.{◌≡◌, ℕ, suc, ◌≤◌, true, List, [], ◌∷◌, ◌++◌, length, refl, sym, ap, ◌∙◌, subst, arith}
use Rattle.std.specs.Prelude.{Result, Ok, Err}
use Rattle.fr_terms.specs.Terms.{Term, unit_t, Items, none, item}
use Rattle.fr_syntax.specs.declared.token.Token.{Token}
use Rattle.fr_grammar.specs.declared.fault.ParseError.{ParseError}
use Rattle.fr_grammar.specs.declared.fault.ParseError.TheVariants.{Syntax, TooDeep, NoMemory}
use Rattle.fr_grammar.specs.declared.marks.Next.{Next}
use Rattle.fr_grammar.specs.declared.marks.Next.TheVariants.{Close, LastUnit, More}
use Rattle.fr_syntax.specs.Arena.{Arena}
use Rattle.fr_syntax.specs.Meanings.{Meaning, term_s, term_at, as_term, meanings, all_need, items_at as terms_of, AreBelow, Keeps}
use Rattle.fr_grammar.specs.Growth.{IsGrown, AreGrown}
use Rattle.fr_grammar.specs.Reading.{◌>>=◌, Read, Fails, any_at, item_next, items_at, after_item}
use Rattle.fr_grammar.proofs.GrowthLemmas.{grown_push}

-- the items with these numbers, and then these
abbrev pub prepend : List Meaning → List ℕ → Items → Items
prepend ms [] items = items
prepend ms (k ∷ ks) items = item (term_at ms k) (prepend ms ks items)

-- what was read, with these items in front
abbrev pub with_front : List Meaning → List ℕ → Read Items → Read Items
with_front ms ks read = read >>= λ x. Ok (prepend ms ks x.0, x.1)

-- items that are kept stay in front
prepend-keeps : (old new : List Meaning) (n : ℕ) (ks : List ℕ) (items : Items) → n ≤ length old → AreBelow old n (all_need term_s ks) → Keeps old new → prepend new ks items ≡ prepend old ks items
prepend-keeps old new n [] items le h k = refl
prepend-keeps old new n (x ∷ xs) items le h k =
    ap (λ (m : Meaning). item (as_term m.what) (prepend new xs items)) (k.same x (omega (arith, h.0))) ∙ ap (item (term_at old x)) (prepend-keeps old new n xs items le h.2 k)

-- one more item in front
prepend-push : (ms : List Meaning) (ks : List ℕ) (k : ℕ) (items : Items) → prepend ms (ks ++ k ∷ []) items ≡ prepend ms ks (item (term_at ms k) items)
prepend-push ms [] k items = refl
prepend-push ms (x ∷ xs) k items = ap (item (term_at ms x)) (prepend-push ms xs k items)

-- all items are in front of none
terms_prepend : (ms : List Meaning) (ks : List ℕ) → terms_of ms ks ≡ prepend ms ks none
terms_prepend ms [] = refl
terms_prepend ms (x ∷ xs) = ap (item (term_at ms x)) (terms_prepend ms xs)

-- the block's loop, where an item is read next
module _ (d n : ℕ) (t0 t1 : Arena) (ks : List ℕ) (rest : List Token) (whole : Read Items) (so_far : with_front (meanings t1) ks (items_at (any_at t0.names d true) (suc n) rest) ≡ whole) (grown : AreGrown t0 t1 (all_need term_s ks)) where
  -- what was read of the next item decides the whole
  ahead : (r : Result (Term × Next × List Token) ParseError) → item_next (any_at t1.names d true) rest ≡ r → whole ≡ with_front (meanings t1) ks (r >>= λ x. after_item (items_at (any_at t0.names d true) n) x.0 x.1 x.2)
  unfolding items_at
  ahead r h =
      let same : item_next (any_at t0.names d true) rest ≡ r = subst (λ names. item_next (any_at names d true) rest ≡ r) grown.names h in
      sym so_far ∙ ap (λ r. with_front (meanings t1) ks (r >>= λ x. after_item (items_at (any_at t0.names d true) n) x.0 x.1 x.2)) same

  -- the next item is refused
  pub refused : (e : ParseError) → Fails e (item_next (any_at t1.names d true) rest) → Fails e whole
  refused NoMemory h = tt
  refused (Syntax place) h = ahead (Err (Syntax place)) h
  refused (TooDeep place) h = ahead (Err (TooDeep place)) h

  module _ (t2 : Arena) (ks' : List ℕ) (k : ℕ) (rest' : List Token) (next : Next) (is_next : item_next (any_at t1.names d true) rest ≡ Ok (term_at (meanings t2) k, next, rest')) (one : IsGrown term_s t1 t2 k) (pushed : ks' ≡ ks ++ k ∷ []) where
    -- the items with the next one, whatever comes behind it
    front_push : (more : Items) → prepend (meanings t1) ks (item (term_at (meanings t2) k) more) ≡ prepend (meanings t2) ks' more
    front_push more =
        sym (prepend-keeps (meanings t1) (meanings t2) (length (meanings t1)) ks (item (term_at (meanings t2) k) more) (omega arith) grown.below one.keeps)
        ∙ sym (prepend-push (meanings t2) ks k more) ∙ ap (λ l. prepend (meanings t2) l more) (sym pushed)

    with_next : Read Items → Read Items
    with_next r = r >>= λ x. Ok (item (term_at (meanings t2) k) x.0, x.1)

    front_on : (r : Read Items) → with_front (meanings t2) ks' r ≡ with_front (meanings t1) ks (with_next r)
    unfolding with_next
    front_on (Ok x) = ap (λ i. Ok (i, x.1)) (sym (front_push x.0))
    front_on (Err e) = refl

    -- another item comes
    pub goes_on : (m : ℕ) → next ≡ More → m ≡ n → with_front (meanings t2) ks' (items_at (any_at t0.names d true) m rest') ≡ whole
    unfolding with_next
    goes_on m is fuel =
        let now = ahead (Ok (term_at (meanings t2) k, next, rest')) is_next in
        let from : after_item (items_at (any_at t0.names d true) n) (term_at (meanings t2) k) next rest' ≡ with_next (items_at (any_at t0.names d true) n rest') = ap (λ (x : Next). after_item (items_at (any_at t0.names d true) n) (term_at (meanings t2) k) x rest') is in
        ap (λ m. with_front (meanings t2) ks' (items_at (any_at t0.names d true) m rest')) fuel ∙ front_on (items_at (any_at t0.names d true) n rest') ∙ sym (now ∙ ap (with_front (meanings t1) ks) from)

    -- the block ends
    pub closes : next ≡ Close → whole ≡ Ok (terms_of (meanings t2) ks', rest')
    closes is =
        ahead (Ok (term_at (meanings t2) k, next, rest')) is_next
        ∙ ap (λ (x : Next). with_front (meanings t1) ks (after_item (items_at (any_at t0.names d true) n) (term_at (meanings t2) k) x rest')) is
        ∙ ap (λ i. Ok (i, rest')) (front_push none ∙ sym (terms_prepend (meanings t2) ks'))

    -- the block ends with the unit that a semicolon adds
    pub ends : (t3 : Arena) (u place : ℕ) (ks2 : List ℕ) → next ≡ LastUnit place → IsGrown term_s t2 t3 u → term_at (meanings t3) u ≡ unit_t place → ks2 ≡ ks' ++ u ∷ [] → whole ≡ Ok (terms_of (meanings t3) ks2, rest')
    ends t3 u place ks2 is last unit pushed2 =
        let all = grown_push t0 t1 t2 term_s ks ks' k grown one pushed in
        ahead (Ok (term_at (meanings t2) k, next, rest')) is_next
        ∙ ap (λ (x : Next). with_front (meanings t1) ks (after_item (items_at (any_at t0.names d true) n) (term_at (meanings t2) k) x rest')) is
        ∙ ap (λ i. Ok (i, rest'))
        (front_push (item (unit_t place) none)
        ∙ sym (prepend-keeps (meanings t2) (meanings t3) (length (meanings t2)) ks' (item (unit_t place) none) (omega arith) all.below last.keeps)
        ∙ ap (λ x. prepend (meanings t3) ks' (item x none)) (sym unit)
        ∙ sym (prepend-push (meanings t3) ks' u none)
        ∙ ap (λ l. prepend (meanings t3) l none) (sym pushed2)
        ∙ sym (terms_prepend (meanings t3) ks2))
