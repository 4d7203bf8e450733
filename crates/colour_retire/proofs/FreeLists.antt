-- What keeps a list of free pairs one.
use Rattle.std.proofs.Common.{arith, ◌≡◌, ◌≢◌, ◌+◌, ◌≤◌, ℕ, List, [], ◌∷◌, ◌++◌, All, sym, subst, ap, ◌∙◌}
use Rattle.std.specs.Prelude.{map, reverse}
use Rattle.std.proofs.lemmas.List.{map-append, reverse-append}
use Rattle.global_addr.specs.Words.{colour_of, address_of, spot_of}
use Rattle.colour_retire.specs.Colours.{IsFreeList, pair_of}

-- the list that is seen begins with the pair of the word that was put last
pub pairs-push : (words : List ℕ) (word : ℕ) → reverse (map pair_of (words ++ word ∷ [])) ≡ pair_of word ∷ reverse (map pair_of words)
pairs-push words word = ap reverse (map-append pair_of words (word ∷ [])) ∙ reverse-append (map pair_of words) (pair_of word ∷ [])

-- a word with its next colour may be put on a list of free pairs that lacks the address
pub free_pushed : (old new : List ℕ) (word next : ℕ) → new ≡ old ++ next ∷ [] → spot_of next ≡ spot_of word → colour_of next ≡ colour_of word + 1
    → All (λ pair. pair.0 ≢ address_of word) (reverse (map pair_of old)) → IsFreeList (reverse (map pair_of old)) → IsFreeList (reverse (map pair_of new))
free_pushed old new word next is spot up apart all =
    let same : address_of next ≡ address_of word = omega (arith, spot) in
    let late : 1 ≤ colour_of next = omega (arith, up) in
    let whole : IsFreeList (pair_of next ∷ reverse (map pair_of old)) =
    (late, subst (λ x. All (λ pair. pair.0 ≢ x) (reverse (map pair_of old))) (sym same) apart, all) in
    subst IsFreeList (sym (ap (λ words. reverse (map pair_of words)) is ∙ pairs-push old next)) whole
