-- Ending uses of copies, word by word and value by value.
use Rattle.std.proofs.Common.{arith, ◌≡◌, ◌<◌, ◌∙◌, ℕ, Bool, true, false, List, [], ◌∷◌, ◌++◌, length, All, slice_index_or, slice_set, zero, suc, refl, sym, subst, ap, drop}
use Rattle.std.specs.Prelude.{if◌then◌else◌, Option, Some, None, IsSome, map, option_map}
use Rattle.std.proofs.lemmas.List.Elements.{All-cons, All-nil}
use Rattle.read_cache.specs.Cache.{Copy, can_unpin, unpin}
use Rattle.thread_state.specs.View.{ThreadState, ThreadView, is_pinned}
use Rattle.thread_state.specs.declared.value.Value.{Value}
use Rattle.thread_state.specs.declared.value.Value.TheVariants as value
use Rattle.migration.specs.Packing.{unpin_all, unpinned, pinned_word, pinned_words, used_words, packed, pack_thread}

-- where the uses of some words can end, the first can, and then those of the others
pub record First (w : ℕ) (ws : List ℕ) (cs : List Copy) : Type 0 where
  pub can : can_unpin cs w ≡ true
  pub rest : unpin_all ws (unpin cs w) ≡ unpin_all (w ∷ ws) cs

pub unpin_first : (w : ℕ) (ws : List ℕ) (cs : List Copy) → IsSome (unpin_all (w ∷ ws) cs) → First w ws cs
unpin_first w ws cs some = by (can_unpin cs w) refl some
  where
    by : (b : Bool) → can_unpin cs w ≡ b → IsSome (if b then unpin_all ws (unpin cs w) else None) → First w ws cs
    by true is some = record { can = is; rest = rw is refl }
    by false is some = absurd cc

-- the uses of two lists of words end one list after the other
pub unpin_append : (a b : List ℕ) (cs left : List Copy) → unpin_all a cs ≡ Some left → unpin_all (a ++ b) cs ≡ unpin_all b left
unpin_append [] b cs left is = let same : cs ≡ left = cc in ap (unpin_all b) same
unpin_append (w ∷ a) b cs left is = by (can_unpin cs w) is (unpin_append a b (unpin cs w) left)
  where
    by : (c : Bool) → (if c then unpin_all a (unpin cs w) else None) ≡ Some left
        → (unpin_all a (unpin cs w) ≡ Some left → unpin_all (a ++ b) (unpin cs w) ≡ unpin_all b left)
        → (if c then unpin_all (a ++ b) (unpin cs w) else None) ≡ unpin_all b left
    by true is go = go is
    by false is go = absurd cc

pub some_front : (a b : List ℕ) (cs : List Copy) → IsSome (unpin_all (a ++ b) cs) → IsSome (unpin_all a cs)
some_front [] b cs some = refl
some_front (w ∷ a) b cs some = by (can_unpin cs w) some (some_front a b (unpin cs w))
  where
    by : (c : Bool) → IsSome (if c then unpin_all (a ++ b) (unpin cs w) else None)
        → (IsSome (unpin_all (a ++ b) (unpin cs w)) → IsSome (unpin_all a (unpin cs w)))
        → IsSome (if c then unpin_all a (unpin cs w) else None)
    by true some go = go some
    by false some go = absurd cc

-- three lists of words
pub some_three : (a b d : List ℕ) (cs c1 c2 : List Copy) → IsSome (unpin_all (a ++ b ++ d) cs) → unpin_all a cs ≡ Some c1 → unpin_all b c1 ≡ Some c2
    → IsSome (unpin_all d c2)
some_three a b d cs c1 c2 some first second =
    subst IsSome (unpin_append (a ++ b) d cs c2 (unpin_append a b cs c1 first ∙ second)) some

pub some_two : (a b d : List ℕ) (cs c1 : List Copy) → IsSome (unpin_all (a ++ b ++ d) cs) → unpin_all a cs ≡ Some c1 → IsSome (unpin_all b c1)
some_two a b d cs c1 some first = subst IsSome (unpin_append a b cs c1 first) (some_front (a ++ b) d cs some)

pub all_three : (a b d : List ℕ) (cs c1 c2 c3 : List Copy) → unpin_all a cs ≡ Some c1 → unpin_all b c1 ≡ Some c2 → unpin_all d c2 ≡ Some c3
    → unpin_all (a ++ b ++ d) cs ≡ Some c3
all_three a b d cs c1 c2 c3 first second third = unpin_append (a ++ b) d cs c2 (unpin_append a b cs c1 first ∙ second) ∙ third

-- the uses of a thread that can be packed can all end
pub uses_end : (t : ThreadState) (cs : List Copy) → IsSome (pack_thread t cs) → IsSome (unpin_all (used_words t) cs)
uses_end t cs some = by (unpin_all (used_words t) cs) some
  where
    by : (o : Option (List Copy)) → IsSome {T = ThreadState × List Copy} (option_map (λ left. (packed t, left)) o) → IsSome o
    by None some = absurd cc
    by (Some left) some = refl

-- no reference of an unpacked list is pinned
pub none_pinned : (vs : List Value) → All (λ v. is_pinned v ≡ false) (map unpinned vs)
none_pinned [] = All-nil (λ v. is_pinned v ≡ false)
none_pinned (v ∷ vs) = All-cons (λ v. is_pinned v ≡ false) (unpinned v) (map unpinned vs) (one v) (none_pinned vs)
  where
    one : (v : Value) → is_pinned (unpinned v) ≡ false
    one (value.Shared r) = refl
    one _ = refl

-- the words of the first value, and then those of the others
pub pinned_first : (v : Value) (vs : List Value) → pinned_words (v ∷ vs) ≡ pinned_words (v ∷ []) ++ pinned_words vs
pinned_first (value.Shared r) vs = by r.pinned
  where
    by : (b : Bool) → pinned_word r b (pinned_words vs) ≡ pinned_word r b [] ++ pinned_words vs
    by true = refl
    by false = refl
pinned_first _ vs = refl

-- the first values have no pinned reference, and the others are as they were
abbrev pub done_to : ℕ → List Value → List Value
done_to zero vs = vs
done_to (suc n) [] = []
done_to (suc n) (v ∷ vs) = unpinned v ∷ done_to n vs

pub done_next : (n : ℕ) (vs : List Value) (d : Value) → n < length vs → slice_index_or (done_to n vs) n d ≡ slice_index_or vs n d
done_next n [] d low = absurd (omega (arith, low))
done_next zero (v ∷ vs) d low = refl
done_next (suc n) (v ∷ vs) d low = done_next n vs d (omega (arith, low))

pub done_set : (n : ℕ) (vs : List Value) (d : Value) → n < length vs
    → slice_set (done_to n vs) n (unpinned (slice_index_or vs n d)) ≡ done_to (suc n) vs
done_set n [] d low = absurd (omega (arith, low))
done_set zero (v ∷ vs) d low = refl
done_set (suc n) (v ∷ vs) d low = ap (λ xs. unpinned v ∷ xs) (done_set n vs d (omega (arith, low)))

pub done_all : (vs : List Value) → done_to (length vs) vs ≡ map unpinned vs
done_all [] = refl
done_all (v ∷ vs) = ap (λ xs. unpinned v ∷ xs) (done_all vs)

pub drop_next : {X : Type 0} (n : ℕ) (xs : List X) (d : X) → n < length xs → drop n xs ≡ slice_index_or xs n d ∷ drop (suc n) xs
drop_next n [] d low = absurd (omega (arith, low))
drop_next zero (x ∷ xs) d low = refl
drop_next (suc n) (x ∷ xs) d low = drop_next n xs d (omega (arith, low))

-- the value at a place, before the loop comes there
pub value_at : (n : ℕ) (vs now : List Value) (v : Value) → now ≡ done_to n vs → v ≡ slice_index_or now n v → n < length vs → v ≡ slice_index_or vs n v
value_at n vs now v is here low = here ∙ ap (λ xs. slice_index_or xs n v) is ∙ done_next n vs v low

pub words_at : (n : ℕ) (vs : List Value) (v : Value) → v ≡ slice_index_or vs n v → n < length vs
    → pinned_words (drop n vs) ≡ pinned_words (v ∷ []) ++ pinned_words (drop (suc n) vs)
words_at n vs v here low =
    ap pinned_words (drop_next n vs v low ∙ ap (λ x. x ∷ drop (suc n) vs) (sym here)) ∙ pinned_first v (drop (suc n) vs)

-- the uses of the value can end
pub value_users : (n : ℕ) (vs : List Value) (v : Value) (cs : List Copy) (all : Option (List Copy)) → v ≡ slice_index_or vs n v → n < length vs
    → unpin_all (pinned_words (drop n vs)) cs ≡ all → IsSome all → IsSome (unpin_all (pinned_words (v ∷ [])) cs)
value_users n vs v cs all here low is some =
    some_front (pinned_words (v ∷ [])) (pinned_words (drop (suc n) vs)) cs
    (subst IsSome (sym is ∙ ap (λ ws. unpin_all ws cs) (words_at n vs v here low)) some)

-- and then those of the values behind it
pub value_ended : (n : ℕ) (vs : List Value) (v : Value) (cs left : List Copy) (all : Option (List Copy)) → v ≡ slice_index_or vs n v → n < length vs
    → unpin_all (pinned_words (drop n vs)) cs ≡ all → unpin_all (pinned_words (v ∷ [])) cs ≡ Some left
    → unpin_all (pinned_words (drop (suc n) vs)) left ≡ all
value_ended n vs v cs left all here low is one =
    sym (unpin_append (pinned_words (v ∷ [])) (pinned_words (drop (suc n) vs)) cs left one)
    ∙ ap (λ ws. unpin_all ws cs) (sym (words_at n vs v here low)) ∙ is

-- the values after one more
pub value_set : (n : ℕ) (vs now : List Value) (v new : Value) → now ≡ done_to n vs → v ≡ slice_index_or vs n v → n < length vs → new ≡ unpinned v
    → slice_set now n new ≡ done_to (suc n) vs
value_set n vs now v new is here low changed =
    ap (λ xs. slice_set xs n new) is ∙ ap (slice_set (done_to n vs) n) (changed ∙ ap unpinned here) ∙ done_set n vs v low

-- what a thread is packed to, by the parts that change
pub packs : {w : List ℕ} {a b : List Value} (t : ThreadState) (cs left : List Copy) → unpin_all (used_words t) cs ≡ Some left → w ≡ [] → a ≡ map unpinned t.slots → b ≡ map unpinned t.temps
    → pack_thread t cs ≡ Some (record t { walk = w; slots = a; temps = b }, left)
packs t cs left is no_walk slots temps = rw (no_walk, slots, temps) (ap (option_map (λ x. (packed t, x))) is)

-- and so for the thread as it is seen
pub packs_seen : {t u : ThreadView} (cs : List Copy) {r : Option (ThreadState × List Copy)} → t ≡ u → pack_thread t.state cs ≡ r → pack_thread u.state cs ≡ r
packs_seen cs {r = r} same is = subst (λ (x : ThreadView). pack_thread x.state cs ≡ r) same is
