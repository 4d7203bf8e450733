-- A set's keys as the texts that they show.
use Rattle.std.proofs.Common.{◌≡◌, ℕ, Bool, true, false, cond, not, ◌||◌, ◌+◌, ◌≤◌, length, arith, List, [], ◌∷◌, ◌++◌, map, refl, sym, ap, ◌∙◌}
use Rattle.std.proofs.lemmas.List.Sums.{prefix_len-le-length}
use Rattle.std.specs.List.{list_any, position_or_len}
use Rattle.std.specs.Str.{bytes_eq}
use Rattle.std.proofs.lemmas.List.{map-append}
use Rattle.indexmap.specs.IndexSet.{insert_key}
use Rattle.fr_syntax.specs.Names.{with_text}

module _ {K : Type 0} (text_of : K → List ℕ) where
  abbrev same : K → K → Bool
  same a b = bytes_eq (text_of a) (text_of b)

  -- a key is among the keys where its text is among the texts
  list_any-texts : (k : K) (ks : List K) → list_any (same k) ks ≡ list_any (bytes_eq (text_of k)) (map text_of ks)
  list_any-texts k [] = refl
  list_any-texts k (x ∷ xs) = ap (λ b. same k x || b) (list_any-texts k xs)

  -- a key goes last where its text goes last
  map-insert_key : (k : K) (ks : List K) → map text_of (insert_key same ks k) ≡ with_text (map text_of ks) (text_of k)
  map-insert_key k ks = by (list_any (same k) ks) (sym (list_any-texts k ks))
    where
      by : (b : Bool) → list_any (bytes_eq (text_of k)) (map text_of ks) ≡ b → map text_of (cond b ks (ks ++ k ∷ [])) ≡ with_text (map text_of ks) (text_of k)
      by true e = sym (ap (λ b. cond b (map text_of ks) (map text_of ks ++ text_of k ∷ [])) e)
      by false e = map-append text_of ks (k ∷ []) ∙ sym (ap (λ b. cond b (map text_of ks) (map text_of ks ++ text_of k ∷ [])) e)

  -- a key more is a text more, unless it is there
  pub texts-insert : (k : K) (ks new : List K) (names : List (List ℕ)) → new ≡ insert_key same ks k → map text_of ks ≡ names → map text_of new ≡ with_text names (text_of k)
  texts-insert k ks new names e v = ap (map text_of) e ∙ map-insert_key k ks ∙ ap (λ ns. with_text ns (text_of k)) v

  -- a text is new where no key shows it
  pub texts-new : (k : K) (ks : List K) (is_new : Bool) (names : List (List ℕ)) → is_new ≡ not (list_any (same k) ks) → map text_of ks ≡ names → is_new ≡ not (list_any (bytes_eq (text_of k)) names)
  texts-new k ks is_new names e v = e ∙ ap not (list_any-texts k ks) ∙ ap (λ ns. not (list_any (bytes_eq (text_of k)) ns)) v

  -- a key has the place of its text
  position-texts : (k : K) (ks : List K) → position_or_len (same k) ks ≡ position_or_len (bytes_eq (text_of k)) (map text_of ks)
  position-texts k [] = refl
  position-texts k (x ∷ xs) = ap (λ n. cond (not (same k x)) (1 + n) 0) (position-texts k xs)

  -- a key stands where its text stands
  pub texts-place : (k : K) (ks : List K) (n : ℕ) (names : List (List ℕ)) → n ≡ position_or_len (same k) ks → map text_of ks ≡ names → n ≡ position_or_len (bytes_eq (text_of k)) names
  texts-place k ks n names e v = e ∙ position-texts k ks ∙ ap (position_or_len (bytes_eq (text_of k))) v

-- no place lies behind the end
pub position-le : (p : List ℕ → Bool) (n : ℕ) (names : List (List ℕ)) → n ≡ position_or_len p names → n ≤ length names
position-le p n names e = omega (arith, prefix_len-le-length (λ x. not (p x)) names)
