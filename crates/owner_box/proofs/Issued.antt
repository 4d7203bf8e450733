-- Why the word of a made or renewed object is fresh, and what each call leaves of the words that fit.
use Rattle.std.proofs.Common.{arith, ◌≡◌, ◌≢◌, ◌+◌, ◌^◌, ◌<◌, ◌≤◌, ◌==◌, ◌∙◌, ℕ, Bool, true, false, List, [], ◌∷◌, All, length, nat_lt, sym, subst, ap, refl, inl, inr}
use Rattle.std.specs.Prelude.{◌⊎◌, Option, Some, None, IsSome, if◌then◌else◌}
use Rattle.std.proofs.lemmas.Bool.Decides.{nat_tests}
use Rattle.std.proofs.lemmas.List.{length-set, length-append}
use Rattle.std.proofs.lemmas.List.Elements.{All-cons, All-head, All-tail, All-weaker, All-nil}
use Rattle.heap_partition.specs.declared.value.Cell.{Cell}
use Rattle.global_addr.specs.Words.{word_of, colour_of, spot_of, server_of, address_of}
use Rattle.colour_retire.specs.Colours.{picked, rest_of}
use Rattle.owner_box.specs.View.{PartitionState}
use Rattle.owner_box.specs.Partition.{AreStates, IsTidy, LeadsTo, cell_of, put_cell, next_place, new_word, made, made_again, freed, with_value}
use Rattle.owner_box.specs.Issued.{WordSet, with_word, IsFresh, Fits, StartedFits, MadeFresh, RenewedFresh, FreedFits, StoredFits, TintedFits, OthersFit}
use Rattle.owner_box.proofs.Counts.{live_below}
use Rattle.owner_box.proofs.States.{picked_vacant, states_freed, live_not_free}

-- the parts of the word of a server and an address
pub packed : (c s a : ℕ) → s < 2 ^ 8 → a < 2 ^ 40 → (colour_of (word_of c s a) ≡ c) × (server_of (word_of c s a) ≡ s) × (address_of (word_of c s a) ≡ a)
packed c s a l m = (omega (arith, l, m), omega (arith, l, m), omega (arith, l, m))

-- a spot is a server and an address
pub same_spot : (v w : ℕ) → server_of v ≡ server_of w → address_of v ≡ address_of w → spot_of v ≡ spot_of w
same_spot v w s a = omega (arith, s, a)

pub parts_of_spot : (v w : ℕ) → spot_of v ≡ spot_of w → (server_of v ≡ server_of w) × (address_of v ≡ address_of w)
parts_of_spot v w s = (omega (arith, s), omega (arith, s))

-- a word of a set with one more is in the set, or that one
pub in_with_word : (issued : WordSet) (word w : ℕ) → with_word issued word w ≡ true → (issued w ≡ true) ⊎ (w ≡ word)
in_with_word issued word w is = by (issued w) refl
  where
    by : (b : Bool) → issued w ≡ b → (issued w ≡ true) ⊎ (w ≡ word)
    by true inside = inl inside
    by false none = inr (grind (arith, nat_tests, none, is))

-- the address that is picked is below 2^40, and one of those used afterwards; those used before stay used
pub next_below : (p : PartitionState) → IsTidy p → length p.cells < 2 ^ 40 → (next_place p).0 < 2 ^ 40
next_below p t few = omega (arith, (picked_vacant p.limit p.retired p.cells p.free t).0, few)

pub length-put_cell : (cells : List (Option Cell)) (a : ℕ) (cell : Cell) → a ≤ length cells
    → (a < length (put_cell cells a cell)) × (length cells ≤ length (put_cell cells a cell))
length-put_cell cells a cell l = by (a == length cells) refl
  where
    by : (b : Bool) → (a == length cells) ≡ b → (a < length (put_cell cells a cell)) × (length cells ≤ length (put_cell cells a cell))
    by true is =
        let same : a ≡ length cells = grind (arith, nat_tests, is) in
        rw is (omega (arith, same, length-append cells (Some cell ∷ [])), omega (arith, length-append cells (Some cell ∷ [])))
    by false is =
        let other : a < length cells = grind (arith, nat_tests, is, l) in
        rw is (omega (arith, other, length-set cells a (Some cell)), omega (arith, length-set cells a (Some cell)))

-- a word at the place that is picked is above all that were issued there
pub picked_fresh : (limit retired next a w k : ℕ) (cells : List (Option Cell)) (free : List (ℕ × ℕ)) → next ≡ length cells
    → a ≡ (picked free next).0 → k ≡ (picked free next).1 → address_of w ≡ a → address_of w < length cells
    → All (λ pair. pair.0 ≡ address_of w → colour_of w < pair.1) free → colour_of w < k
picked_fresh limit retired next a w k cells [] n is colour at below all = absurd (omega (arith, n, is, at, below))
picked_fresh limit retired next a w k cells (pair ∷ rest) n is colour at below all =
    let first : pair.0 ≡ address_of w → colour_of w < pair.1 = All-head (λ pair. pair.0 ≡ address_of w → colour_of w < pair.1) pair rest all in
    omega (arith, colour, first (sym is ∙ sym at))

-- the new word's parts
pub new_word_parts : (p : PartitionState) → p.server < 2 ^ 8 → IsTidy p → length p.cells < 2 ^ 40
    → (colour_of (new_word p) ≡ (next_place p).1) × (server_of (new_word p) ≡ p.server) × (address_of (new_word p) ≡ (next_place p).0)
new_word_parts p s t few = packed (next_place p).1 p.server (next_place p).0 s (next_below p t few)

-- the next word is fresh
pub new_word_fresh : (p : PartitionState) (issued : WordSet) → p.server < 2 ^ 8 → IsTidy p → length p.cells < 2 ^ 40 → Fits p issued → IsFresh issued (new_word p)
new_word_fresh p issued s t few f w is spot =
    let parts = new_word_parts p s t few in
    let same = parts_of_spot w (new_word p) spot in
    let here : server_of w ≡ p.server = same.0 ∙ parts.1 in
    let at : address_of w ≡ (next_place p).0 = same.1 ∙ parts.2 in
    subst (λ x. colour_of w < x) (sym parts.0)
    (picked_fresh p.limit p.retired (length p.cells) (next_place p).0 w (next_place p).1 p.cells p.free refl refl refl at (f.used w is here) (f.free w is here))

-- the pairs that are left after a pick are pairs from before, and have other addresses
pub rest_all : (P : ℕ × ℕ → Type 0) (free : List (ℕ × ℕ)) → All P free → All P (rest_of free)
rest_all P [] all = all
rest_all P (pair ∷ rest) all = All-tail P pair rest all

pub rest_apart : (limit retired next : ℕ) (cells : List (Option Cell)) (free : List (ℕ × ℕ)) → AreStates limit cells free retired
    → All (λ pair. pair.0 ≢ (picked free next).0) (rest_of free)
rest_apart limit retired next cells [] t = All-nil (λ pair. pair.0 ≢ next)
rest_apart limit retired next cells (pair ∷ rest) t = t.once.1

-- what fits a partition and the next word fit it when the object is made
pub made_fits : (p : PartitionState) (cell : Cell) (issued : WordSet) → p.server < 2 ^ 8 → IsTidy p → length p.cells < 2 ^ 40 → Fits p issued
    → Fits (made p cell) (with_word issued (new_word p))
made_fits p cell issued s t few f = record {
  used = λ w is here. used w (in_with_word issued (new_word p) w is) here;
  free = λ w is here. free w (in_with_word issued (new_word p) w is) here;
}
  where
    more : ((next_place p).0 < length (put_cell p.cells (next_place p).0 cell)) × (length p.cells ≤ length (put_cell p.cells (next_place p).0 cell))
    more = length-put_cell p.cells (next_place p).0 cell (picked_vacant p.limit p.retired p.cells p.free t).0

    used : (w : ℕ) → (issued w ≡ true) ⊎ (w ≡ new_word p) → server_of w ≡ p.server → address_of w < length (put_cell p.cells (next_place p).0 cell)
    used w (inl is) here = omega (arith, f.used w is here, more.1)
    used w (inr is) here = let at : address_of w ≡ (next_place p).0 = ap address_of is ∙ (new_word_parts p s t few).2 in omega (arith, at, more.0)

    free : (w : ℕ) → (issued w ≡ true) ⊎ (w ≡ new_word p) → server_of w ≡ p.server
        → All (λ pair. pair.0 ≡ address_of w → colour_of w < pair.1) (rest_of p.free)
    free w (inl is) here = rest_all (λ pair. pair.0 ≡ address_of w → colour_of w < pair.1) p.free (f.free w is here)
    free w (inr is) here =
        let at : address_of w ≡ (next_place p).0 = ap address_of is ∙ (new_word_parts p s t few).2 in
        All-weaker (λ pair. pair.0 ≢ (next_place p).0) (λ pair. pair.0 ≡ address_of w → colour_of w < pair.1)
        (λ pair apart same. absurd (apart (same ∙ at))) (rest_of p.free) (rest_apart p.limit p.retired (length p.cells) p.cells p.free t)

pub made_fresh : MadeFresh
made_fresh p cell issued s t few f = (new_word_fresh p issued s t few f, made_fits p cell issued s t few f)

-- what fits stays where an address is freed by its latest word
pub freed_fits : FreedFits
freed_fits p word issued t leads latest f = record {
  used = λ w is here. omega (arith, f.used w is here, length-set p.cells (address_of word) None);
  free = λ w is here. by w is here (nat_lt (colour_of word + 1) p.limit);
}
  where
    by : (w : ℕ) → issued w ≡ true → server_of w ≡ p.server → (b : Bool)
        → All (λ pair. pair.0 ≡ address_of w → colour_of w < pair.1) (if b then (address_of word, colour_of word + 1) ∷ p.free else p.free)
    by w is here true =
        All-cons (λ pair. pair.0 ≡ address_of w → colour_of w < pair.1) (address_of word, colour_of word + 1) p.free
        (λ at. omega (arith, latest w is (same_spot w word (here ∙ sym leads.here) (sym at)))) (f.free w is here)
    by w is here false = f.free w is here

-- what a freed address leaves of a tidy partition
pub freed_tidy : (p : PartitionState) (word : ℕ) → IsTidy p → LeadsTo p word → IsTidy (freed p word)
freed_tidy p word t leads = states_freed p.limit p.retired word p.cells p.free leads.live leads.colour t

pub renewed_fresh : RenewedFresh
renewed_fresh p word issued s t few leads last latest f =
    let fits : Fits (freed p word) issued = freed_fits p word issued t leads latest f in
    let tidy : IsTidy (freed p word) = freed_tidy p word t leads in
    let less : length (freed p word).cells < 2 ^ 40 = omega (arith, few, length-set p.cells (address_of word) None) in
    (new_word_fresh (freed p word) issued s tidy less fits, by (cell_of p word) leads.live tidy less fits)
  where
    by : (slot : Option Cell) → IsSome slot → IsTidy (freed p word) → length (freed p word).cells < 2 ^ 40 → Fits (freed p word) issued
        → Fits (made_again (freed p word) slot) (with_word issued (new_word (freed p word)))
    by None live tidy less fits = absurd cc
    by (Some cell) live tidy less fits = made_fits (freed p word) cell issued s tidy less fits

pub started_fits : StartedFits
started_fits server limit issued none = record { used = λ w is here. absurd (none w is here); free = λ w is here. absurd (none w is here) }

pub stored_fits : StoredFits
stored_fits p word value issued leads f = record {
  used = λ w is here. omega (arith, f.used w is here, length-set p.cells (address_of word) (with_value value (cell_of p word)));
  free = f.free;
}

-- a live address is no free one
pub live_apart : (p : PartitionState) (word : ℕ) → IsTidy p → LeadsTo p word → All (λ pair. pair.0 ≢ address_of word) p.free
live_apart p word t leads = live_not_free p.limit (address_of word) p.cells p.free leads.live t.free_in

pub tinted_fits : TintedFits
tinted_fits p word issued t leads f = record {
  used = λ w is here. used w (in_with_word issued word w is) here;
  free = λ w is here. free w (in_with_word issued word w is) here;
}
  where
    used : (w : ℕ) → (issued w ≡ true) ⊎ (w ≡ word) → server_of w ≡ p.server → address_of w < length p.cells
    used w (inl is) here = f.used w is here
    used w (inr is) here = subst (λ x. address_of x < length p.cells) (sym is) (live_below p.cells (address_of word) leads.live)

    free : (w : ℕ) → (issued w ≡ true) ⊎ (w ≡ word) → server_of w ≡ p.server → All (λ pair. pair.0 ≡ address_of w → colour_of w < pair.1) p.free
    free w (inl is) here = f.free w is here
    free w (inr is) here =
        All-weaker (λ pair. pair.0 ≢ address_of word) (λ pair. pair.0 ≡ address_of w → colour_of w < pair.1)
        (λ pair apart same. absurd (apart (same ∙ ap address_of is))) p.free (live_apart p word t leads)

pub others_fit : OthersFit
others_fit p word issued other f = record {
  used = λ w is here. used w (in_with_word issued word w is) here;
  free = λ w is here. free w (in_with_word issued word w is) here;
}
  where
    used : (w : ℕ) → (issued w ≡ true) ⊎ (w ≡ word) → server_of w ≡ p.server → address_of w < length p.cells
    used w (inl is) here = f.used w is here
    used w (inr is) here = absurd (other (sym (ap server_of is) ∙ here))

    free : (w : ℕ) → (issued w ≡ true) ⊎ (w ≡ word) → server_of w ≡ p.server → All (λ pair. pair.0 ≡ address_of w → colour_of w < pair.1) p.free
    free w (inl is) here = f.free w is here
    free w (inr is) here = absurd (other (sym (ap server_of is) ∙ here))
