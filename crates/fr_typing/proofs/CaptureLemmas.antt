-- Captures: the relation and the function agree.
use Rattle.std.proofs.Common.{◌≡◌, ℕ, Bool, true, false, List, [], ◌∷◌, Option, Some, None, refl, ◌∙◌}
use Rattle.std.specs.Prelude.{is_some, if◌then◌else◌}
use Rattle.fr_terms.specs.Terms.{Captured}
use Rattle.fr_typing.specs.declared.reason.Reason.{Reason}
use Rattle.fr_typing.specs.declared.reason.Reason.TheVariants.{NameInScope, NotDefined, ReadBlocked, WriteBlocked, NotOwned, NotFull}
use Rattle.fr_typing.specs.Kinds.{Kind, Piece, whole, gone, boxed, copies}
use Rattle.fr_typing.specs.Places.{Env, found, read_blocked, write_blocked, put_at, slot_of}
use Rattle.fr_typing.specs.Checks.{place_of}
use Rattle.fr_typing.specs.Finding.{Has, Outcome, fault, unless}
use Rattle.fr_typing.specs.Captures.{Capturer, by_par, spot_of, captured_kind, captured_slot, MayPass, Captures, captures_copy, captures_move, CapturesAll, captures_none, captures_next, CapturesBoth, Denies, denies_name, denies_all, denies_part, denies_kind, denies_read, denies_move, denies_copied_twice, denies_moved_twice, DeniesAll, denies_first, denies_rest, DeniesBoth, denies_ours, denies_theirs, add_captured, pass_rule, capture_rule, capture, capture_all, capture_both}
use Rattle.fr_typing.proofs.FindingLemmas.{find_by, misses_by, find_cases, unless_cases, given_cases}

-- FROM THE RELATION TO THE FUNCTION

-- a captured name goes on with both environments
pub capture_by : {by : Capturer} {e n e1 n1 : Env} {c : Captured} (go : Env → Env → Outcome) → Captures by e n c e1 n1 → capture by e n c go ≡ go e1 n1
capture_by go (captures_copy {by = by} {e = e} {n = n} {c = c} {s = s} h v b m) = find_by e (spot_of c) s _ (capture_rule by e n c go) h.is ∙ simp (h.becomes, v, b, m)
capture_by go (captures_move {by = by} {e = e} {n = n} {c = c} {s = s} h v b m) = find_by e (spot_of c) s _ (capture_rule by e n c go) h.is ∙ simp (h.becomes, v, b, m)

-- and so do names in order
pub capture_all_by : {by : Capturer} {e n e1 n1 : Env} {cs : List Captured} (go : Env → Env → Outcome) → CapturesAll by e n cs e1 n1 → capture_all by cs e n go ≡ go e1 n1
capture_all_by go captures_none = refl
capture_all_by go (captures_next {by = by} {cs = cs} h hs) = capture_by (λ e1 n1. capture_all by cs e1 n1 go) h ∙ capture_all_by go hs

-- and so do both lists of a par
pub capture_both_by : {e e2 n m : Env} {cs ds : List Captured} (go : Env → Env → Env → Outcome) → CapturesBoth e cs ds n m e2 → capture_both cs ds e go ≡ go n m e2
capture_both_by {n = n} {ds = ds} go h =
    capture_all_by (λ e1 n. capture_all by_par ds e1 [] (λ e2 m. go n m e2)) h.first ∙ capture_all_by (λ e2 m. go n m e2) h.second

-- a name that is denied is a fault
pub deny_by : {by : Capturer} {e n : Env} {c : Captured} {r : Reason} (go : Env → Env → Outcome) → Denies by e n c r → capture by e n c go ≡ fault c.at r
deny_by go (denies_name {by = by} {e = e} {n = n} {c = c} m) = misses_by (capture_rule by e n c go) m
deny_by go (denies_all {by = by} {e = e} {n = n} {c = c} {s = s} h) = find_by e (spot_of c) s _ (capture_rule by e n c go) h
deny_by go (denies_part {by = by} {e = e} {n = n} {c = c} {s = s} h) = find_by e (spot_of c) s _ (capture_rule by e n c go) h
deny_by go (denies_kind {by = by} {e = e} {n = n} {c = c} {s = s} h o) = find_by e (spot_of c) s _ (capture_rule by e n c go) h ∙ simp o
deny_by go (denies_read {by = by} {e = e} {n = n} {c = c} {s = s} h v b) = find_by e (spot_of c) s _ (capture_rule by e n c go) h.is ∙ simp (h.becomes, v, b)
deny_by go (denies_move {by = by} {e = e} {n = n} {c = c} {s = s} h v b) = find_by e (spot_of c) s _ (capture_rule by e n c go) h.is ∙ simp (h.becomes, v, b)
deny_by go (denies_copied_twice {by = by} {e = e} {n = n} {c = c} {s = s} h v b m) = find_by e (spot_of c) s _ (capture_rule by e n c go) h.is ∙ simp (h.becomes, v, b, m)
deny_by go (denies_moved_twice {by = by} {e = e} {n = n} {c = c} {s = s} h v b m) = find_by e (spot_of c) s _ (capture_rule by e n c go) h.is ∙ simp (h.becomes, v, b, m)

-- and so is the first that is denied of names in order
pub deny_all_by : {by : Capturer} {e n : Env} {cs : List Captured} {p : ℕ} {r : Reason} (go : Env → Env → Outcome) → DeniesAll by e n cs p r → capture_all by cs e n go ≡ fault p r
deny_all_by go (denies_first {by = by} {cs = cs} h) = deny_by (λ e1 n1. capture_all by cs e1 n1 go) h
deny_all_by go (denies_rest {by = by} {cs = cs} h hs) = capture_by (λ e1 n1. capture_all by cs e1 n1 go) h ∙ deny_all_by go hs

-- and of both lists of a par
pub deny_both_by : {e : Env} {cs ds : List Captured} {p : ℕ} {r : Reason} (go : Env → Env → Env → Outcome) → DeniesBoth e cs ds p r → capture_both cs ds e go ≡ fault p r
deny_both_by go (denies_ours {ds = ds} h) = deny_all_by (λ e1 n. capture_all by_par ds e1 [] (λ e2 m. go n m e2)) h
deny_both_by go (denies_theirs {n = n} {ds = ds} h hs) =
    capture_all_by (λ e1 n. capture_all by_par ds e1 [] (λ e2 m. go n m e2)) h ∙ deny_all_by (λ e2 m. go n m e2) hs

-- FROM THE FUNCTION TO THE RELATION

-- the new slot's name is new, or that it isn't is the outcome
add_cases : (n : Env) (c : Captured) (l : Kind) (P : Outcome → Type 0) (go : Env → Outcome)
    → ((i : ℕ) → slot_of n c.name ≡ Some i → P (fault c.at NameInScope))
    → (slot_of n c.name ≡ None → P (go (captured_slot c l ∷ n)))
    → P (add_captured n c l go)
add_cases n c l P go twice new = by_name (slot_of n c.name) refl
  where
    by_name : (o : Option ℕ) → slot_of n c.name ≡ o → P (unless (is_some o) c.at NameInScope (go (captured_slot c l ∷ n)))
    by_name None h = new h
    by_name (Some i) h = twice i h

-- a name that may pass is captured, or why not is the outcome
pass_cases : (by : Capturer) (e n : Env) (c : Captured) (s : ℕ) (k l : Kind) (P : Outcome → Type 0) (go : Env → Env → Outcome)
    → MayPass by e c s k l
    → ((r : Reason) → Denies by e n c r → P (fault c.at r))
    → ((e1 n1 : Env) → Captures by e n c e1 n1 → P (go e1 n1))
    → P (pass_rule e n c go (place_of (spot_of c) s) k l)
pass_cases by e n c s k l P go h denies captures = by_kind (copies k) refl
  where
    by_kind : (b : Bool) → copies k ≡ b → P (if b then unless (read_blocked e s) c.at ReadBlocked (add_captured n c l (go e)) else unless (write_blocked e s) c.at WriteBlocked (add_captured n c l (go (put_at e (place_of (spot_of c) s) (gone k)))))
    by_kind true v = unless_cases P (read_blocked e s) _ _ _ (λ b. denies ReadBlocked (denies_read h v b)) (λ b. add_cases n c l P (go e) (λ i m. denies NameInScope (denies_copied_twice h v b m)) (λ m. captures e (captured_slot c l ∷ n) (captures_copy h v b m)))
    by_kind false v = unless_cases P (write_blocked e s) _ _ _ (λ b. denies WriteBlocked (denies_move h v b)) (λ b. add_cases n c l P (go (put_at e (place_of (spot_of c) s) (gone k))) (λ i m. denies NameInScope (denies_moved_twice h v b m)) (λ m. captures (put_at e (place_of (spot_of c) s) (gone k)) (captured_slot c l ∷ n) (captures_move h v b m)))

-- a name is captured, or why not is the outcome
capture_cases : (by : Capturer) (e n : Env) (c : Captured) (P : Outcome → Type 0) (go : Env → Env → Outcome)
    → ((r : Reason) → Denies by e n c r → P (fault c.at r))
    → ((e1 n1 : Env) → Captures by e n c e1 n1 → P (go e1 n1))
    → P (capture by e n c go)
capture_cases by e n c P go denies captures = find_cases e (spot_of c) P (capture_rule by e n c go) (λ r m. denies r (denies_name m)) by_part
  where
    by_part : (s : ℕ) (p : Piece) → Has e (spot_of c) s (found p) → P (capture_rule by e n c go (place_of (spot_of c) s) p)
    by_part s (whole k) h = given_cases P c.at NotOwned (captured_kind by e k) _ (λ o. denies NotOwned (denies_kind h o)) (λ l o. pass_cases by e n c s k l P go (record { is = h; becomes = o }) denies captures)
    by_part s (gone k) h = denies NotDefined (denies_all h)
    by_part s (boxed p) h = denies NotFull (denies_part h)

-- names are captured one after another, or the first that is denied is the outcome
pub capture_all_cases : (by : Capturer) (cs : List Captured) (e n : Env) (P : Outcome → Type 0) (go : Env → Env → Outcome)
    → ((p : ℕ) (r : Reason) → DeniesAll by e n cs p r → P (fault p r))
    → ((e1 n1 : Env) → CapturesAll by e n cs e1 n1 → P (go e1 n1))
    → P (capture_all by cs e n go)
capture_all_cases by [] e n P go denies captures = captures e n captures_none
capture_all_cases by (c ∷ cs) e n P go denies captures =
    capture_cases by e n c P (λ e1 n1. capture_all by cs e1 n1 go) (λ r d. denies c.at r (denies_first d)) (λ e1 n1 h.
    capture_all_cases by cs e1 n1 P go (λ p r d. denies p r (denies_rest h d)) (λ e2 n2 hs. captures e2 n2 (captures_next h hs)))

-- the same for both lists of a par
pub capture_both_cases : (cs ds : List Captured) (e : Env) (P : Outcome → Type 0) (go : Env → Env → Env → Outcome)
    → ((p : ℕ) (r : Reason) → DeniesBoth e cs ds p r → P (fault p r))
    → ((n m e2 : Env) → CapturesBoth e cs ds n m e2 → P (go n m e2))
    → P (capture_both cs ds e go)
capture_both_cases cs ds e P go denies captures =
    capture_all_cases by_par cs e [] P (λ e1 n. capture_all by_par ds e1 [] (λ e2 m. go n m e2)) (λ p r d. denies p r (denies_ours d)) (λ e1 n h.
    capture_all_cases by_par ds e1 [] P (λ e2 m. go n m e2) (λ p r d. denies p r (denies_theirs h d)) (λ e2 m hs.
    captures n m e2 (record { between = e1; first = h; second = hs })))
