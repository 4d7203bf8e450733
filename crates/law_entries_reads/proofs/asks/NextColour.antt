-- An object gets the next colour: the words that are issued then are those that were, and that one.
use Rattle.std.proofs.Common.{◌≡◌, ◌⊎◌, inl, inr, ⊎_elim, ℕ, zero, suc, ◌+◌, ◌≤◌, ◌==◌, ◌&&◌, ◌||◌, Bool, true, false, nat_le, List, [], ◌∷◌, Some, refl, sym, ap, ap₂, subst, ◌∙◌, arith}
use Rattle.std.proofs.lemmas.Bool.{eq-eqb}
use Rattle.std.proofs.lemmas.Bool.Decides.{nat_tests}
use Rattle.law_entries_reads.specs.Below.law_copies_kept.Below.fr_base.declared.name.ObjNo.{ObjNo}
use Rattle.law_entries_reads.specs.Below.law_copies_kept.Below.global_addr.Words.{colour_of, server_of, address_of, next_word}
use Rattle.law_entries_reads.specs.Below.law_copies_kept.Below.heap_partition.declared.value.Cell.{Cell}
use Rattle.law_entries_reads.specs.Below.law_copies_kept.Below.coherent_memory.Names.{Among, tot, one, some}
use Rattle.law_entries_reads.specs.Below.law_copies_kept.Below.coherent_memory.Things.{Thing, lies, vacant, retired}
use Rattle.law_entries_reads.specs.Below.law_copies_kept.Below.coherent_memory.Sight.{is_spot, colour_up_to}
use Rattle.law_entries_reads.specs.Below.law_copies_kept.Below.coherent_memory.Words.{LeadsTo}
use Rattle.law_entries_reads.proofs.Below.law_copies_kept.Below.coherent_memory.Names.{and_left, and_right, same_number}
use Rattle.law_copies_kept.proofs.Below.law_words_kept.reads.Flights.{found, truly}
use Rattle.law_entries_reads.proofs.Below.law_copies_kept.Below.law_words_paths.words.Tints.{next_leads}
use Rattle.law_entries_reads.proofs.Below.law_entries_variables.deliveries.Live.{issued_by}

-- words with the same parts are the same
pub same_word : (v w : ℕ) → server_of v ≡ server_of w → address_of v ≡ address_of w → colour_of v ≡ colour_of w → v ≡ w
same_word v w s a c = omega (arith, s, a, c)

next_colour : (w : ℕ) → colour_of (next_word w) ≡ colour_of w + 1
next_colour w = omega arith

-- a colour up to the next one is one up to this, or the next
up_to_next : (v w : ℕ) → nat_le (colour_of v) (colour_of (next_word w)) ≡ true → (nat_le (colour_of v) (colour_of w) ≡ true) ⊎ (colour_of v ≡ colour_of (next_word w))
up_to_next v w e = by (nat_le (colour_of v) (colour_of w)) refl
  where
    by : (b : Bool) → nat_le (colour_of v) (colour_of w) ≡ b → (nat_le (colour_of v) (colour_of w) ≡ true) ⊎ (colour_of v ≡ colour_of (next_word w))
    by true q = inl q
    by false q = inr (grind (arith, nat_tests, e, q, next_colour w))

later : (v w : ℕ) → nat_le (colour_of v) (colour_of w) ≡ true → nat_le (colour_of v) (colour_of (next_word w)) ≡ true
later v w e = grind (arith, nat_tests, e, next_colour w)

le_itself : (n : ℕ) → nat_le n n ≡ true
le_itself n = grind (arith, nat_tests)

pub weighs : (f : Thing → ℕ) (x : Thing) (b : List Thing) → Among x b → f x ≤ tot f b
weighs f x [] h = absurd h
weighs f x (y ∷ b) (inl e) = omega (arith, ap f e)
weighs f x (y ∷ b) (inr h) = omega (arith, weighs f x b h)

some_true : (n : ℕ) → 1 ≤ n → some n ≡ true
some_true zero l = absurd (omega (arith, l))
some_true (suc n) l = refl

true_some : (n : ℕ) → some n ≡ true → 1 ≤ n
true_some zero e = absurd (cc e)
true_some (suc n) e = omega arith

same_truth : (p q : Bool) → (p ≡ true → q ≡ true) → (q ≡ true → p ≡ true) → p ≡ q
same_truth true true f g = refl
same_truth false false f g = refl
same_truth true false f g = sym (f refl)
same_truth false true f g = g refl

or_true : (p q : Bool) → (p || q) ≡ true → (p ≡ true) ⊎ (q ≡ true)
or_true true q e = inl refl
or_true false q e = inr e

or_right : (p q : Bool) → q ≡ true → (p || q) ≡ true
or_right true q e = refl
or_right false q e = e

-- by words of objects that lead to where these lie, of which one is next in the second
module _ (b : List Thing) (u w : ObjNo → ℕ) (o : ObjNo) (colours : ℕ) (leads : (r a : ℕ) (c : Cell) → Among (lies r a c) b → LeadsTo r a (u c.object)) (r a : ℕ) (cell : Cell) (there : Among (lies r a cell) b) (its : cell.object ≡ o)
    (next : w o ≡ next_word (u o)) (others : (p : ObjNo) → (p ≡ o) ⊎ (w p ≡ u p)) (v : ℕ) where
  -- what is issued at a thing then was, or is that word
  came : (x : Thing) → Among x b → 1 ≤ issued_by w colours v x → (next_word (u o) ≡ v) ⊎ (1 ≤ issued_by u colours v x)
  came (lies s d c) m l = ⊎_elim one_is other_is (others c.object)
    where
      at : (is_spot s d v && colour_up_to (Some (w c.object)) v) ≡ true
      at = truly (is_spot s d v && colour_up_to (Some (w c.object)) v) l

      spot : is_spot s d v ≡ true
      spot = and_left (is_spot s d v) (colour_up_to (Some (w c.object)) v) at

      up : nat_le (colour_of v) (colour_of (w c.object)) ≡ true
      up = and_right (is_spot s d v) (colour_up_to (Some (w c.object)) v) at

      issued_so : nat_le (colour_of v) (colour_of (u c.object)) ≡ true → 1 ≤ issued_by u colours v (lies s d c)
      issued_so e = let q : issued_by u colours v (lies s d c) ≡ 1 = ap₂ (λ p t. one (p && t)) spot e in omega (arith, q)

      other_is : w c.object ≡ u c.object → (next_word (u o) ≡ v) ⊎ (1 ≤ issued_by u colours v (lies s d c))
      other_is e = inr (issued_so (subst (λ z. nat_le (colour_of v) (colour_of z) ≡ true) e up))

      home : c.object ≡ o → LeadsTo s d (next_word (u o))
      home e = next_leads s d (u o) (subst (λ p. LeadsTo s d (u p)) e (leads s d c m))

      same : c.object ≡ o → colour_of v ≡ colour_of (next_word (u o)) → next_word (u o) ≡ v
      same e q =
          let h = home e in
          let server : s ≡ server_of v = sym (same_number (server_of v) s (and_left (server_of v == s) (address_of v == d) spot)) in
          let address : d ≡ address_of v = sym (same_number (address_of v) d (and_right (server_of v == s) (address_of v == d) spot)) in
          same_word (next_word (u o)) v (h.server ∙ server) (h.address ∙ address) (sym q)

      one_is : c.object ≡ o → (next_word (u o) ≡ v) ⊎ (1 ≤ issued_by u colours v (lies s d c))
      one_is e =
          let now : w c.object ≡ next_word (u o) = ap w e ∙ next in
          ⊎_elim (λ (q : nat_le (colour_of v) (colour_of (u o)) ≡ true). inr (issued_so (subst (λ p. nat_le (colour_of v) (colour_of (u p)) ≡ true) (sym e) q))) (λ (q : colour_of v ≡ colour_of (next_word (u o))). inl (same e q))
          (up_to_next v (u o) (subst (λ z. nat_le (colour_of v) (colour_of z) ≡ true) now up))
  came (vacant s d n) m l = inr l
  came (retired s d) m l = inr l
  came _ m l = absurd (omega (arith, l))

  -- what was issued at a thing is
  stays : (x : Thing) → 1 ≤ issued_by u colours v x → 1 ≤ issued_by w colours v x
  stays (lies s d c) l = ⊎_elim one_is other_is (others c.object)
    where
      at : (is_spot s d v && colour_up_to (Some (u c.object)) v) ≡ true
      at = truly (is_spot s d v && colour_up_to (Some (u c.object)) v) l

      spot : is_spot s d v ≡ true
      spot = and_left (is_spot s d v) (colour_up_to (Some (u c.object)) v) at

      up : nat_le (colour_of v) (colour_of (u c.object)) ≡ true
      up = and_right (is_spot s d v) (colour_up_to (Some (u c.object)) v) at

      issued_so : nat_le (colour_of v) (colour_of (w c.object)) ≡ true → 1 ≤ issued_by w colours v (lies s d c)
      issued_so e = let q : issued_by w colours v (lies s d c) ≡ 1 = ap₂ (λ p t. one (p && t)) spot e in omega (arith, q)

      other_is : w c.object ≡ u c.object → 1 ≤ issued_by w colours v (lies s d c)
      other_is e = issued_so (subst (λ z. nat_le (colour_of v) (colour_of z) ≡ true) (sym e) up)

      one_is : c.object ≡ o → 1 ≤ issued_by w colours v (lies s d c)
      one_is e = issued_so (subst (λ z. nat_le (colour_of v) (colour_of z) ≡ true) (ap (λ p. next_word (u p)) e ∙ sym (ap w e ∙ next)) (later v (u c.object) up))
  stays (vacant s d n) l = l
  stays (retired s d) l = l
  stays _ l = absurd (omega (arith, l))

  -- the word itself is
  is_there : next_word (u o) ≡ v → 1 ≤ issued_by w colours v (lies r a cell)
  is_there e =
      let h : LeadsTo r a (next_word (u o)) = next_leads r a (u o) (subst (λ p. LeadsTo r a (u p)) its (leads r a cell there)) in
      let server : (server_of v == r) ≡ true = eq-eqb (server_of v) r (ap server_of (sym e) ∙ h.server) in
      let address : (address_of v == a) ≡ true = eq-eqb (address_of v) a (ap address_of (sym e) ∙ h.address) in
      let now : w cell.object ≡ v = ap w its ∙ next ∙ e in
      let up : colour_up_to (Some (w cell.object)) v ≡ true = subst (λ z. nat_le (colour_of v) (colour_of z) ≡ true) (sym now) (le_itself (colour_of v)) in
      let q : issued_by w colours v (lies r a cell) ≡ 1 = ap₂ (λ p t. one (p && t)) (ap₂ (λ p t. p && t) server address) up in
      omega (arith, q)

  pub one_word_more : (next_word (u o) == v) || some (tot (issued_by u colours v) b) ≡ some (tot (issued_by w colours v) b)
  one_word_more = same_truth ((next_word (u o) == v) || some (tot (issued_by u colours v) b)) (some (tot (issued_by w colours v) b)) on back
    where
      on : ((next_word (u o) == v) || some (tot (issued_by u colours v) b)) ≡ true → some (tot (issued_by w colours v) b) ≡ true
      on e =
          ⊎_elim
          (λ (q : (next_word (u o) == v) ≡ true). some_true (tot (issued_by w colours v) b) (omega (arith, weighs (issued_by w colours v) (lies r a cell) b there, is_there (same_number (next_word (u o)) v q))))
          (λ (q : some (tot (issued_by u colours v) b) ≡ true).
          let f = found (issued_by u colours v) b (true_some (tot (issued_by u colours v) b) q) in
          some_true (tot (issued_by w colours v) b) (omega (arith, weighs (issued_by w colours v) f.0 b f.1, stays f.0 f.2)))
          (or_true (next_word (u o) == v) (some (tot (issued_by u colours v) b)) e)

      back : some (tot (issued_by w colours v) b) ≡ true → ((next_word (u o) == v) || some (tot (issued_by u colours v) b)) ≡ true
      back e =
          let f = found (issued_by w colours v) b (true_some (tot (issued_by w colours v) b) e) in
          ⊎_elim (λ (q : next_word (u o) ≡ v). ap (λ t. t || some (tot (issued_by u colours v) b)) (eq-eqb (next_word (u o)) v q))
          (λ (q : 1 ≤ issued_by u colours v f.0). or_right (next_word (u o) == v) (some (tot (issued_by u colours v) b)) (some_true (tot (issued_by u colours v) b) (omega (arith, weighs (issued_by u colours v) f.0 b f.1, q))))
          (came f.0 f.1 f.2)
