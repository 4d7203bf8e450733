-- Finding a written place: the relation and the function agree.
use Rattle.std.proofs.Common.{◌≡◌, ℕ, Bool, true, false, Option, Some, None, refl, ap, ◌∙◌}
use Rattle.std.specs.Prelude.{not}
use Rattle.fr_base.specs.declared.place.Lval.{Lval}
use Rattle.fr_terms.specs.Terms.{Spot}
use Rattle.fr_typing.specs.declared.reason.Reason.{Reason}
use Rattle.fr_typing.specs.declared.reason.Reason.TheVariants.{UnknownName, NotDefined, NoTarget, ReadBlocked}
use Rattle.fr_typing.specs.Kinds.{Kind, Piece, whole, gone, boxed}
use Rattle.fr_typing.specs.Places.{Env, Found, found, undefined, no_target, type_at, read_blocked, slot_of}
use Rattle.fr_typing.specs.Checks.{place_of}
use Rattle.fr_typing.specs.Finding.{Has, Misses, misses_name, misses_value, misses_target, Lacks, lacks_place, lacks_all, lacks_part, Shows, Withholds, withholds_place, withholds_blocked, Outcome, fault, unless, given, with_slot, with_part, with_whole, find, find_whole, find_shown}

-- FROM THE RELATION TO THE FUNCTION

-- what finding a place comes to, once its slot is known
abbrev pub after_slot : Spot → (Lval → Piece → Outcome) → ℕ → Found → Outcome
after_slot w go s f = with_part w.at f (go (place_of w s))

-- a place that is found goes on with what stands there
pub find_by : (e : Env) (w : Spot) (s : ℕ) (f : Found) (go : Lval → Piece → Outcome) → Has e w s f → find e w go ≡ after_slot w go s f
find_by e w s f go h =
    ap (λ o. with_slot w.at o (λ y. after_slot w go y (type_at e (place_of w y)))) h.named
    ∙ ap (after_slot w go s) h.is

-- and what isn't found is a fault
pub misses_by : {e : Env} {w : Spot} {r : Reason} (go : Lval → Piece → Outcome) → Misses e w r → find e w go ≡ fault w.at r
misses_by go (misses_name {e = e} {w = w} h) = ap (λ o. with_slot w.at o (λ y. after_slot w go y (type_at e (place_of w y)))) h
misses_by go (misses_value {e = e} {w = w} {s = s} h) = find_by e w s _ go h
misses_by go (misses_target {e = e} {w = w} {s = s} h) = find_by e w s _ go h

-- the same, once the place is found
abbrev pub whole_or : Spot → (Lval → Kind → Outcome) → Lval → Piece → Outcome
whole_or w go x p = with_whole w.at p (go x)

-- a place that is found whole goes on with its type
pub find_whole_by : (e : Env) (w : Spot) (s : ℕ) (k : Kind) (go : Lval → Kind → Outcome) → Has e w s (found (whole k)) → find_whole e w go ≡ go (place_of w s) k
find_whole_by e w s k go h = find_by e w s _ (whole_or w go) h

-- and what isn't whole is a fault
pub lacks_by : {e : Env} {w : Spot} {r : Reason} (go : Lval → Kind → Outcome) → Lacks e w r → find_whole e w go ≡ fault w.at r
lacks_by go (lacks_place {w = w} m) = misses_by (whole_or w go) m
lacks_by go (lacks_all {e = e} {w = w} {s = s} h) = find_by e w s _ (whole_or w go) h
lacks_by go (lacks_part {e = e} {w = w} {s = s} h) = find_by e w s _ (whole_or w go) h

-- what may be read goes on, once the place is found whole
abbrev pub shown_or : Env → Spot → (Lval → Kind → Outcome) → Lval → Kind → Outcome
shown_or e w go x k = unless (read_blocked e x.slot) w.at ReadBlocked (go x k)

-- a place that is found whole and may be read goes on with its type
pub shows_by : (e : Env) (w : Spot) (s : ℕ) (k : Kind) (go : Lval → Kind → Outcome) → Shows e w s k → find_shown e w go ≡ go (place_of w s) k
shows_by e w s k go h = find_whole_by e w s k (shown_or e w go) h.is ∙ simp h.free

-- and what may not be read is a fault
pub withholds_by : {e : Env} {w : Spot} {r : Reason} (go : Lval → Kind → Outcome) → Withholds e w r → find_shown e w go ≡ fault w.at r
withholds_by go (withholds_place {e = e} {w = w} l) = lacks_by (shown_or e w go) l
withholds_by go (withholds_blocked {e = e} {w = w} {s = s} {k = k} h b) = find_whole_by e w s k (shown_or e w go) h ∙ simp b

-- FROM THE FUNCTION TO THE RELATION

-- a check: the fault where the test holds, and else the rest
pub unless_cases : (P : Outcome → Type 0) (b : Bool) (at : ℕ) (r : Reason) (rest : Outcome)
    → (b ≡ true → P (fault at r)) → (b ≡ false → P rest) → P (unless b at r rest)
unless_cases P true at r rest holds fails = holds refl
unless_cases P false at r rest holds fails = fails refl

-- the same for a test that has to hold
pub unless_not_cases : (P : Outcome → Type 0) (b : Bool) (at : ℕ) (r : Reason) (rest : Outcome)
    → (b ≡ false → P (fault at r)) → (b ≡ true → P rest) → P (unless (not b) at r rest)
unless_not_cases P true at r rest fails holds = holds refl
unless_not_cases P false at r rest fails holds = fails refl

-- what has to be there is there, or the fault is the outcome
pub given_cases : {A : Type 0} (P : Outcome → Type 0) (at : ℕ) (r : Reason) (o : Option A) (go : A → Outcome)
    → (o ≡ None → P (fault at r)) → ((x : A) → o ≡ Some x → P (go x)) → P (given at r o go)
given_cases P at r None go missing there = missing refl
given_cases P at r (Some x) go missing there = there x refl

-- the place is found, or what is missing is the outcome
pub find_cases : (e : Env) (w : Spot) (P : Outcome → Type 0) (go : Lval → Piece → Outcome)
    → ((r : Reason) → Misses e w r → P (fault w.at r))
    → ((s : ℕ) (p : Piece) → Has e w s (found p) → P (go (place_of w s) p))
    → P (find e w go)
find_cases e w P go misses has = by_name (slot_of e w.name) refl
  where
    by_part : (s : ℕ) → slot_of e w.name ≡ Some s → (f : Found) → type_at e (place_of w s) ≡ f → P (after_slot w go s f)
    by_part s n (found p) h = has s p (record { named = n; is = h })
    by_part s n undefined h = misses NotDefined (misses_value (record { named = n; is = h }))
    by_part s n no_target h = misses NoTarget (misses_target (record { named = n; is = h }))

    by_name : (o : Option ℕ) → slot_of e w.name ≡ o → P (with_slot w.at o (λ y. after_slot w go y (type_at e (place_of w y))))
    by_name None h = misses UnknownName (misses_name h)
    by_name (Some s) h = by_part s h (type_at e (place_of w s)) refl

-- the place is found whole, or what it lacks is the outcome
pub find_whole_cases : (e : Env) (w : Spot) (P : Outcome → Type 0) (go : Lval → Kind → Outcome)
    → ((r : Reason) → Lacks e w r → P (fault w.at r))
    → ((s : ℕ) (k : Kind) → Has e w s (found (whole k)) → P (go (place_of w s) k))
    → P (find_whole e w go)
find_whole_cases e w P go lacks has = find_cases e w P (whole_or w go) (λ r m. lacks r (lacks_place m)) by_part
  where
    by_part : (s : ℕ) (p : Piece) → Has e w s (found p) → P (whole_or w go (place_of w s) p)
    by_part s (whole k) h = has s k h
    by_part s (gone k) h = lacks NotDefined (lacks_all h)
    by_part s (boxed p) h = lacks NotDefined (lacks_part h)

-- the place is found whole and may be read, or why not is the outcome
pub find_shown_cases : (e : Env) (w : Spot) (P : Outcome → Type 0) (go : Lval → Kind → Outcome)
    → ((r : Reason) → Withholds e w r → P (fault w.at r))
    → ((s : ℕ) (k : Kind) → Shows e w s k → P (go (place_of w s) k))
    → P (find_shown e w go)
find_shown_cases e w P go withholds shows = find_whole_cases e w P (shown_or e w go) (λ r l. withholds r (withholds_place l)) by_block
  where
    by_block : (s : ℕ) (k : Kind) → Has e w s (found (whole k)) → P (shown_or e w go (place_of w s) k)
    by_block s k h = unless_cases P (read_blocked e s) w.at ReadBlocked (go (place_of w s) k) (λ b. withholds ReadBlocked (withholds_blocked h b)) (λ b. shows s k (record { is = h; free = b }))
